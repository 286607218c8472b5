-- The elements of ends are the one part of their type.
use Rattle.std.proofs.Common.{◌∙◌, ap, sym}
use Rattle.std.specs.Option.{option_and_then}
use Rattle.syntax_trees.specs.declared.types.ValType.{ValType}
use Rattle.laid_types.specs.Parts.{part_at}
use Rattle.comp_graph.specs.Graph.{numbered_value, passed_value}
use Rattle.comp_graph.proofs.FuncsPassed.{element_read}
use Rattle.comp_graph.proofs.graph.passed_of.Goals as goal

pub returns-in-End : goal.returns-in-End
returns-in-End c =
    c.element_of.ensures ∙ ap (option_and_then (λ (t : ValType). part_at t 0)) (c.requires ∙ ap numbered_value c.in-End.is)
    ∙ element_read c.in-End.kind c.in-End.element c.in-End.op ∙ sym (ap passed_value c.in-End.is)
