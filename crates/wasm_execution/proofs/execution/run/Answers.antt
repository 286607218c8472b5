use Rattle.std.proofs.Common.{ap, sym, ◌∙◌, subst}
use Rattle.wasm_store.specs.Stack.{Stack}
use Rattle.wasm_store.specs.Step.{Ends}
use Rattle.wasm_execution.specs.Stacks.{stack_of}
use Rattle.wasm_execution.specs.Run.{Comes}
use Rattle.wasm_execution.proofs.Alone.{given_done}
use Rattle.wasm_execution.proofs.execution.run.Goals as goal

pub returns-in-Given : goal.returns-in-Given
returns-in-Given c =
    let is = ap stack_of (sym c.in-Given.is) ∙ c.running.view_is in
    record { gives = subst (λ (k : Stack). Comes c.args.store.now k c.args.fuel.now c.args.store.now c.args.fuel.now (Ends c.from_vec.result)) is (given_done c.args.store.now c.args.fuel.now c.from_vec.result c.in-Given.words.items c.from_vec.ensures) }
