use Rattle.wasm_reader.proofs.Fitting.{parts_fit}
use Rattle.wasm_reader.proofs.whole.read_the_module.Goals as goal

pub of-requires : goal.of-requires
of-requires c = rw c.in_ok-parts.ensures (parts_fit _ _ _ _ _ _ _ _ _ _ c.in_ok-defined.ensures c.in_ok-used.ensures c.in_ok-held.ensures)
