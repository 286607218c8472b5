use Rattle.wasm_valid.proofs.Accepting.{accept_empty}
use Rattle.wasm_valid.proofs.checker.accepts.Goals as goal

pub returns-in_default-split_last : goal.returns-in_default-split_last
returns-in_default-split_last c = accept_empty _ _ _ _ _ _ c.in-Some.ensures.cases.0 c.in_default-split_last.ensures.cases c.loop-wanted.invariant
