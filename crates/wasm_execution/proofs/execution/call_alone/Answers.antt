use Rattle.std.proofs.Common.{◌≡◌, ◌∙◌, ap, sym, length}
use Rattle.wasm_store.specs.Store.{type_of}
use Rattle.wasm_store.specs.Stack.{Stack, AtHost, Given}
use Rattle.std.proofs.Common.{List, ℕ}
use Rattle.wasm_store.specs.Views.{function_of}
use Rattle.wasm_store.specs.declared.function.FunctionInstance.{FunctionInstance}
use Rattle.wasm_execution.proofs.Alone.{alone_asks, gives_up_at_once}
use Rattle.wasm_execution.proofs.execution.call_alone.Goals as goal
use Rattle.wasm_execution.proofs.execution.call_alone.Goals.{in-Own, in-Host}

pub returns : goal.returns
returns c =
    let count : c.match-function.count ≡ length (type_of (function_of c.function.result.now)).results = elim c.match-function.branch [
      | in-Own w ↦ w.count-is ∙ w.result_count-count.ensures ∙ ap (λ (f : FunctionInstance). length (type_of (function_of f)).results) (sym w.in-Own.is)
      | in-Host w ↦ w.count-is ∙ w.len-count.ensures ∙ ap (λ (f : FunctionInstance). length (type_of (function_of f)).results) (sym w.in-Host.is)
    ] in
    record { gives = λ fuel. alone_asks c.args.store.now c.args.address fuel c.args.words.items c.from_vec.result _ (function_of c.function.result.now) c.from_vec.ensures (ap (λ (ws : List ℕ). let k : Stack = Given ws in k) (c.reserve.ensures.items ∙ c.new-given.ensures.items)) c.function.ensures count }

pub returns-then-is_err : goal.returns-then-is_err
returns-then-is_err c = record { gives = λ fuel. gives_up_at_once c.args.store.now (let k : Stack = AtHost c.args.address c.args.words.items in k) fuel }
