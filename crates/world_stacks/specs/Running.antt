-- The acting task's stack runs (Core 2.0, section 4.4; Component Model, CanonicalABI.md, `canon lift`, `canon resource.drop`): what follows
-- what it comes to.
use Rattle.std.specs.Prelude.{◌≡◌, ℕ, Bool, true, false, if◌then◌else◌, List, [], slice_set, Option, Some, None, Result, Err}
use Rattle.wasm_store.specs.Store.{Store}
use Rattle.wasm_store.specs.Stack.{Stack}
use Rattle.wasm_execution.specs.Run.{RunGives}
use Rattle.wasm_execution.specs.declared.running.Outcome.{Outcome}
use Rattle.wasm_execution.specs.declared.running.Outcome.TheVariants as outcome
use Rattle.tasks.specs.Tasks.{is_acting}
use Rattle.task_table.specs.declared.errand.Errand.{Errand}
use Rattle.task_table.specs.declared.errand.Errand.TheVariants as errand
use Rattle.trace_labels.specs.declared.label.Label.TheVariants as line
use Rattle.world_parts.specs.declared.parts.Parts.{Parts}
use Rattle.world_parts.specs.declared.parts.Rest.TheVariants as rest
use Rattle.world_parts.specs.declared.parts.Stop.{Stop}
use Rattle.world_parts.specs.declared.parts.Stop.TheVariants as stop
use Rattle.world_parts.specs.Held.{Held, Done, Gives, Traps, Spent, Stuck, after, given}
use Rattle.world_parts.specs.Feed.{told, at_rest}
use Rattle.world_parts.specs.Slots.{phase_of, errand_of, errand_set, words_set}
use Rattle.world_stacks.specs.declared.top.Top.{Top}
use Rattle.world_stacks.specs.declared.top.Top.TheVariants as top
use Rattle.world_stacks.specs.Views.{PileView}
use Rattle.world_stacks.specs.Piles.{with_top, unstacked}
use Rattle.world_stacks.specs.Names.{core_name}
use Rattle.world_stacks.specs.Over.{Leads}

-- The stack waits at a call of the canonical function of this number. The task keeps the words.
abbrev pub called : ℕ → ℕ → List ℕ → Held → Done (Unit {0})
called t number words h = after (words_set t words h) (λ done k. Gives tt (at_rest (rest.Calls number) k))

-- The last stack of a task has ended with these words: that of a start function, behind which instantiation goes on, or that of the
-- task's function, which ended with them.
abbrev pub ended_at : ℕ → List ℕ → Errand → Held → Done (Option (List ℕ))
ended_at t words errand.None h = Gives (Some words) h
ended_at t words (errand.Begins next) h = after (errand_set t errand.None h) (λ done k. Gives None (at_rest (rest.Instantiates next) k))
ended_at t words (errand.AfterCall callee canon) h = Stuck
ended_at t words (errand.AfterCancel callee canon index) h = Stuck
ended_at t words (errand.InBuiltin canon) h = Stuck

abbrev pub last_ended : ℕ → List ℕ → Held → Done (Option (List ℕ))
last_ended t words h =
    after (phase_of t h) (λ phase k. if is_acting phase then after (errand_of t k) (λ e l. ended_at t words e l) else Stuck)

-- A stack of a task has ended. Under a destructor's stack waits the one whose `resource.drop` runs it, which goes on.
abbrev pub ended_over : ℕ → List ℕ → Bool → PileView → Held → Done (Option (List ℕ) × PileView)
ended_over t words true p h = after (told (line.Got t []) h) (λ done k. Gives (None, p) (at_rest rest.Runs k))
ended_over t words false p h = after (last_ended t words h) (λ ended k. Gives (ended, p) k)

abbrev pub stack_ended : ℕ → List ℕ → PileView → Held → Done (Option (List ℕ) × PileView)
stack_ended t words p h = given (unstacked h.store p.under p) (λ r. ended_over t words r.0 r.1 h)

-- What follows what a run came to, over the stacks without the one that ran.
abbrev pub ComesTo : ℕ → PileView → Outcome → Held → Result (Option (List ℕ)) Stop → Parts → PileView → Type 0
ComesTo t p (outcome.Done words) h result new q = Leads (stack_ended t words p h) result new q
ComesTo t p (outcome.Calls number words w) h result new q =
    Leads (after (called t number words h) (λ done k. Gives (None, with_top (top.Waits (record { address = number; waiting = w })) p) k)) result new q
ComesTo t p (outcome.Trapped why) h result new q = Leads (Traps (core_name why) h) result new q
ComesTo t p (outcome.NoFuel later) h result new q = Leads (Spent h) result new q
ComesTo t p outcome.Memory h result new q = result ≡ Err stop.Memory

-- The acting stack makes a run, which came to something and left a store and so much fuel, and then that follows. Where none is to run no
-- rule applies.
abbrev pub StackRuns : ℕ → Stack → PileView → Held → Result (Option (List ℕ)) Stop → Parts → PileView → Type 0
StackRuns t k p h result new q =
    (o : Outcome) × (s : Store) × (left : ℕ) × RunGives h.store k h.left o s left × ComesTo t p o (record h { store = s; left = left }) result new q

abbrev pub TopRuns : ℕ → Top → PileView → Held → Result (Option (List ℕ)) Stop → Parts → PileView → Type 0
TopRuns t top.Empty p h result new q = result ≡ Err stop.Stuck
TopRuns t (top.Waits c) p h result new q = result ≡ Err stop.Stuck
TopRuns t (top.Goes k) p h result new q = StackRuns t k (with_top top.Empty p) h result new q

abbrev pub PileRuns : ℕ → PileView → Held → Result (Option (List ℕ)) Stop → Parts → PileView → Type 0
PileRuns t p h result new q = TopRuns t p.top p h result new q

-- So runs the acting stack of the task of a number.
abbrev pub RunsAt : Option PileView → ℕ → List PileView → Held → Result (Option (List ℕ)) Stop → Parts → List PileView → Type 0
RunsAt None t piles h result new later = result ≡ Err stop.Stuck
RunsAt (Some p) t piles h result new later = (q : PileView) × PileRuns t p h result new q × (later ≡ slice_set piles t q)
