-- Stacks that tests run (Core 2.0, the appendix on soundness): they are typed, in a typed store.
use Rattle.std.specs.Prelude.{◌≡◌, ℕ, List, length, Some}
use Rattle.std.specs.List.{slice_get}
use Rattle.syntax_trees.specs.declared.module_types.ValType.{ValType}
use Rattle.wasm_numbers.specs.Types.{AreWords}
use Rattle.wasm_store.specs.Store.{Function, type_of, Store}
use Rattle.wasm_store.specs.Stack.{Stack}
use Rattle.wasm_store.specs.Step.{resume}
use Rattle.wasm_store.specs.Typed.{StoreTyped, StackTyped}
use Rattle.wasm_execution.specs.Waiting.{Waiting}
use Rattle.wasm_execution.specs.declared.running.Outcome.{Outcome}
use Rattle.wasm_execution.specs.declared.running.Outcome.TheVariants as outcome

-- a typed stack in a typed store
pub record MayRun (s : Store) (k : Stack) : Type 0 where
  pub store : StoreTyped s
  pub results : List ValType
  pub stack : StackTyped s results k

-- a stack that waits for words of a function's results, and may run with them
pub record MayGoOn (s : Store) (address : ℕ) (w : Waiting) : Type 0 where
  pub function : Function
  pub there : slice_get s.funcs address ≡ Some function
  pub count : w.count ≡ length (type_of function).results
  pub goes : (answers : List ℕ) → AreWords (type_of function).results answers → MayRun s (resume answers w.stack)

-- what is left of a run may go on
abbrev pub StaysTyped : Store → Outcome → Type 0
StaysTyped s (outcome.Done words) = Unit {0}
StaysTyped s (outcome.Calls address words w) = MayGoOn s address w
StaysTyped s (outcome.Trapped why) = Unit {0}
StaysTyped s (outcome.NoFuel later) = MayRun s later
StaysTyped s outcome.Memory = Unit {0}
