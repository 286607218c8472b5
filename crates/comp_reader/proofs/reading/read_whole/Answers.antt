-- The window is that of the whole file, and what is read of it ends at its end.
use Rattle.std.proofs.Common.{subst}
use Rattle.ca_base.specs.Span.{Span}
use Rattle.ca_base.specs.Grammar.{MayRead}
use Rattle.ca_base.proofs.Whole.{whole_exact}
use Rattle.comp_tree.specs.declared.items.Component.{Component}
use Rattle.part_reader.specs.declared.fault.ComponentWhy.{ComponentWhy}
use Rattle.comp_reader.specs.Binary.{component, file, file_end}
use Rattle.comp_reader.proofs.Whole.{matches_whole}
use Rattle.comp_reader.proofs.reading.read_whole.Goals as goal

pub returns : goal.returns
returns c =
    whole_exact component (file c.args.bytes.now) (file_end c.args.bytes.now) c.read_component_within.new.window _
    (matches_whole c.args.bytes.now)
    (subst (λ (s : Span ComponentWhy). MayRead (λ (d : Component). d) component s c.read_component_within.new.window c.read_component_within.result) c.of-window.ensures c.read_component_within.ensures)
