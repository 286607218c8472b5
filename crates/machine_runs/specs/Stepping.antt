-- Steps (Component Model, Concurrency.md, "Summary"): where values are to be passed they are, and what follows is done. Else the run goes on from
-- where it is: the acting task's stack runs, or the task makes a move; where no task runs, the script's next item is taken or a task goes on.
-- What passing values may come to is a relation, which is said.
use Rattle.std.specs.Prelude.{◌≡◌, ℕ, List, slice_set, Option, Some, None}
use Rattle.std.specs.List.{slice_get}
use Rattle.wasm_store.specs.Store.{Store}
use Rattle.wasm_store.specs.Stack.{Stack}
use Rattle.wasm_execution.specs.Run.{RunGives}
use Rattle.wasm_execution.specs.declared.running.Outcome.{Outcome}
use Rattle.wasm_execution.specs.declared.running.Outcome.TheVariants as outcome
use Rattle.programs.specs.declared.program.Program.{Program}
use Rattle.world_parts.specs.declared.parts.Rest.{Rest}
use Rattle.world_parts.specs.declared.parts.Rest.TheVariants as rest
use Rattle.world_parts.specs.declared.parts.Flow.{Flow}
use Rattle.world_parts.specs.declared.parts.Turned.{Turned}
use Rattle.world_parts.specs.declared.parts.Turned.TheVariants as turned
use Rattle.world_parts.specs.Held.{Held, Done, Gives, Traps, Spent, Stuck, after}
use Rattle.world_stacks.specs.declared.top.Top.{Top}
use Rattle.world_stacks.specs.declared.top.Top.TheVariants as top
use Rattle.world_stacks.specs.Views.{PileView}
use Rattle.world_stacks.specs.Piles.{with_top}
use Rattle.world_stacks.specs.Names.{core_name}
use Rattle.world_stacks.specs.Running.{called, stack_ended}
use Rattle.replies.specs.Seen.{seen}
use Rattle.value_parts.specs.declared.to_pass.Passing.{Passing}
use Rattle.value_parts.specs.declared.to_pass.Passing.TheVariants as passing
use Rattle.value_parts.specs.Coming.{Then}
use Rattle.value_parts.specs.Lifting.{FewLent}
use Rattle.machine_runs.specs.declared.stepping.Step.{Step}
use Rattle.machine_runs.specs.declared.stepping.Step.TheVariants as step
use Rattle.machine_runs.specs.Following.{followed}
use Rattle.machine_runs.specs.Moving.{moves, acting_of, IsActingTyped}
use Rattle.machine_runs.specs.Turning.{turns}

-- a turn, and a move of a task that does not run core code
abbrev pub step_of_turn : Turned → Step
step_of_turn turned.Ends = step.Ends
step_of_turn turned.TakesItem = step.GoesOn passing.Nothing
step_of_turn turned.GoesOn = step.GoesOn passing.Nothing

abbrev pub turn_steps : Program → List PileView → Held → Done (Step × List PileView)
turn_steps p piles h = after (turns p piles h) (λ r k. Gives (step_of_turn r.0, r.1) k)

abbrev pub move_steps : Program → List PileView → Held → Done (Step × List PileView)
move_steps p piles h = after (moves p.graph.now p.ends.now h.rest piles h) (λ r k. Gives (step.GoesOn r.0, r.1) k)

-- What follows what a run of a task's stack came to, over its stacks without the one that ran.
abbrev pub outcome_done : ℕ → PileView → Outcome → Held → Option (Done (Option (List ℕ) × PileView))
outcome_done t p (outcome.Done words) h = Some (stack_ended t words p h)
outcome_done t p (outcome.Calls number words w) h = Some (after (called t number words h) (λ done k. Gives (None, with_top (top.Waits (record { address = number; waiting = w })) p) k))
outcome_done t p (outcome.Trapped why) h = Some (Traps (core_name why) h)
outcome_done t p (outcome.NoFuel later) h = Some (Spent h)
outcome_done t p outcome.Memory h = None

-- The stack makes a run, which came to something and left a store and so much fuel. Where none is to run no rule applies.
abbrev pub StackComes : ℕ → Stack → PileView → Held → Done (Option (List ℕ) × PileView) → Type 0
StackComes t k p h d =
    (o : Outcome) × (s : Store) × (left : ℕ) × RunGives h.store k h.left o s left × (outcome_done t p o (record h { store = s; left = left }) ≡ Some d)

abbrev pub TopComes : ℕ → Top → PileView → Held → Done (Option (List ℕ) × PileView) → Type 0
TopComes t top.Empty p h d = d ≡ Stuck
TopComes t (top.Waits c) p h d = d ≡ Stuck
TopComes t (top.Goes k) p h d = StackComes t k (with_top top.Empty p) h d

-- Where the task's function has ended with words these are to be passed on.
abbrev pub passing_behind : Option (List ℕ) → Passing
passing_behind None = passing.Nothing
passing_behind (Some words) = passing.Ended words

abbrev pub PileSteps : ℕ → Option PileView → List PileView → Held → Done (Step × List PileView) → Type 0
PileSteps t None piles h d = d ≡ Stuck
PileSteps t (Some p) piles h d = Then (TopComes t p.top p h) (λ r k e. e ≡ Gives (step.GoesOn (passing_behind r.0), slice_set piles t r.1) k) d

-- The acting task's stack runs.
abbrev pub TaskSteps : Option ℕ → List PileView → Held → Done (Step × List PileView) → Type 0
TaskSteps None piles h d = d ≡ Stuck
TaskSteps (Some t) piles h d = PileSteps t (slice_get piles t) piles h d

abbrev pub RunSteps : List PileView → Held → Done (Step × List PileView) → Type 0
RunSteps piles h d = TaskSteps (acting_of h) piles h d

-- from where the run is
abbrev pub RestSteps : Program → Rest → List PileView → Held → Done (Step × List PileView) → Type 0
RestSteps p rest.Free piles h d = d ≡ turn_steps p piles h
RestSteps p rest.Runs piles h d = RunSteps piles h d
RestSteps p (rest.Instantiates number) piles h d = d ≡ move_steps p piles h
RestSteps p rest.Arrives piles h d = d ≡ move_steps p piles h
RestSteps p rest.Goes piles h d = d ≡ move_steps p piles h
RestSteps p rest.Resumes piles h d = d ≡ move_steps p piles h
RestSteps p rest.Back piles h d = d ≡ move_steps p piles h
RestSteps p (rest.Calls number) piles h d = d ≡ move_steps p piles h
RestSteps p rest.Leaves piles h d = d ≡ move_steps p piles h

-- Values are passed, and what follows is done.
abbrev pub follow_steps : Program → Flow → List PileView → Held → Done (Step × List PileView)
follow_steps p f piles h = after (followed (seen p.graph.now) f piles h) (λ r k. Gives (step.GoesOn r.0, r.1) k)

abbrev pub PassSteps : (Program → Passing → Held → Done Flow → Type 0) → Program → Passing → List PileView → Held → Done (Step × List PileView) → Type 0
PassSteps may_pass p x piles h d = Then (may_pass p x h) (λ f k e. e ≡ follow_steps p f piles k) d

-- A step, where this is to be passed.
abbrev pub Steps : (Program → Passing → Held → Done Flow → Type 0) → Program → Passing → List PileView → Held → Done (Step × List PileView) → Type 0
Steps may_pass p passing.Nothing piles h d = RestSteps p h.rest piles h d
Steps may_pass p passing.Arguments piles h d = PassSteps may_pass p passing.Arguments piles h d
Steps may_pass p passing.Returned piles h d = PassSteps may_pass p passing.Returned piles h d
Steps may_pass p (passing.Ended words) piles h d = PassSteps may_pass p (passing.Ended words) piles h d
Steps may_pass p (passing.Elements copying) piles h d = PassSteps may_pass p (passing.Elements copying) piles h d

-- What a step asks for, by what is to be passed: that the acting task's stack is typed where it is to run, and, where values are lifted, that no
-- handle is lent too often to be lent once more.
abbrev pub CanGoOn : Rest → List PileView → Held → Type 0
CanGoOn rest.Runs piles h = IsActingTyped h piles
CanGoOn rest.Free piles h = Unit {0}
CanGoOn (rest.Instantiates number) piles h = Unit {0}
CanGoOn rest.Arrives piles h = Unit {0}
CanGoOn rest.Goes piles h = Unit {0}
CanGoOn rest.Resumes piles h = Unit {0}
CanGoOn rest.Back piles h = Unit {0}
CanGoOn (rest.Calls number) piles h = Unit {0}
CanGoOn rest.Leaves piles h = Unit {0}

abbrev pub CanStep : Passing → List PileView → Held → Type 0
CanStep passing.Nothing piles h = CanGoOn h.rest piles h
CanStep passing.Arguments piles h = FewLent h
CanStep passing.Returned piles h = FewLent h
CanStep (passing.Ended words) piles h = FewLent h
CanStep (passing.Elements copying) piles h = FewLent h
