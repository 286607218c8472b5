-- What a run of a stack gives (Core 2.0, section 4.5.5).
use Rattle.std.specs.Prelude.{◌≡◌, ◌≤◌, ◌+◌, ℕ, List, length, Some}
use Rattle.std.specs.List.{slice_get}
use Rattle.wasm_store.specs.Store.{Function, type_of, Store}
use Rattle.wasm_store.specs.Stack.{Stack}
use Rattle.wasm_store.specs.Step.{Move, Calls, Ends, Traps, next, cost, Steps}
use Rattle.wasm_execution.specs.Waiting.{Waiting}
use Rattle.wasm_execution.specs.declared.running.Outcome.{Outcome}
use Rattle.wasm_execution.specs.declared.running.Outcome.TheVariants as outcome

-- Steps lead to a stack that makes this move, and each step and the move were paid.
pub record Comes (s : Store) (k : Stack) (before : ℕ) (t : Store) (after : ℕ) (move : Move) : Type 0 where
  pub spent : ℕ
  pub last : Stack
  pub steps : Steps spent s k t last
  pub moves : next t last ≡ move
  pub paid : before ≡ after + (spent + cost last move)

-- All fuel was spent on steps that lead to this stack, whose next move costs a unit.
pub record Waits (s : Store) (k : Stack) (before : ℕ) (t : Store) (after : ℕ) (later : Stack) : Type 0 where
  pub steps : Steps before s k t later
  pub none : after ≡ 0
  pub costs : cost later (next t later) ≡ 1

-- A function of the host was called, and this waits for its words.
pub record Asks (s : Store) (k : Stack) (before : ℕ) (t : Store) (after address : ℕ) (words : List ℕ) (waiting : Waiting) : Type 0 where
  pub comes : Comes s k before t after (Calls address words waiting.stack)
  pub function : Function
  pub there : slice_get t.funcs address ≡ Some function
  pub count : waiting.count ≡ length (type_of function).results

-- The stack is given up for want of memory. Steps lead to the store that is left, and each was paid; one unit more may be
-- spent, on a step that was not made.
pub record GivesUp (s : Store) (k : Stack) (before : ℕ) (t : Store) (after : ℕ) : Type 0 where
  pub spent : ℕ
  pub last : Stack
  pub steps : Steps spent s k t last
  pub paid : after + spent ≤ before
  pub one_more : before ≤ after + spent + 1

-- what came of a stack, a store and so much fuel: the store and the fuel that are left
abbrev pub RunGives : Store → Stack → ℕ → Outcome → Store → ℕ → Type 0
RunGives s k before (outcome.Done words) t after = Comes s k before t after (Ends words)
RunGives s k before (outcome.Calls address words waiting) t after = Asks s k before t after address words waiting
RunGives s k before (outcome.Trapped why) t after = Comes s k before t after (Traps why)
RunGives s k before (outcome.NoFuel later) t after = Waits s k before t after later
RunGives s k before outcome.Memory t after = GivesUp s k before t after
