-- The window is that of the whole file, and what is read of it ends at its end.
use Rattle.std.proofs.Common.{subst}
use Rattle.ca_base.specs.Span.{Span}
use Rattle.ca_base.specs.Grammar.{MayRead}
use Rattle.ca_base.proofs.Whole.{whole_exact}
use Rattle.wasm_code_reader.specs.declared.fault.ModuleWhy.{ModuleWhy}
use Rattle.wasm_typing.specs.declared.module_places.ModuleParts.{ModuleParts}
use Rattle.wasm_reader.specs.Binary.{the_module, file, file_end}
use Rattle.wasm_reader.proofs.Ended.{matches_whole}
use Rattle.wasm_reader.proofs.reading.read_whole.Goals as goal

pub returns : goal.returns
returns c =
    whole_exact the_module (file c.args.bytes.now c.args.base) (file_end c.args.bytes.now c.args.base) c.read_the_module.new.window _
    (matches_whole c.args.bytes.now c.args.base)
    (subst (λ (s : Span ModuleWhy). MayRead (λ (m : ModuleParts). m) the_module s c.read_the_module.new.window c.read_the_module.result) c.of-window.ensures c.read_the_module.ensures)
