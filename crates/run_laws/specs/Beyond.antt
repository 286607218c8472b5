-- Where a run goes beyond what is run (Component Model, Concurrency.md, "Summary"). At no point that a run of a program that fits reaches is a step a
-- trap while no task acts. A rule applies where task 0 instantiates, where no task runs, where a task is new or is woken by its cancellation, where one
-- exits, and where a function that is lifted with `async` or its callback has ended. Where a task goes on, is back or calls a canonical function, one
-- applies to the move and to the event that comes, so that a step is lost only where its stack does not go on with what they come to; and where a stack
-- is to run, only where it is none that runs, or ends over one that does not go on. Of a step that passes other values no more is said than that it is
-- no such trap.
use Rattle.std.specs.Prelude.{◌≡◌, ◌⊎◌, ℕ, List, [], ◌∷◌, Some, None}
use Rattle.std.specs.List.{slice_get}
use Rattle.wasm_store.specs.Store.{Store}
use Rattle.wasm_store.specs.Stack.{Stack}
use Rattle.wasm_execution.specs.Run.{RunGives}
use Rattle.wasm_execution.specs.declared.running.Outcome.TheVariants as outcome
use Rattle.entry_gate.specs.declared.kind.Kind.TheVariants.{Sync}
use Rattle.trace_labels.specs.declared.label.Label.{Label}
use Rattle.trace_labels.specs.declared.trap.TrapName.{TrapName}
use Rattle.programs.specs.declared.program.Program.{Program}
use Rattle.world_parts.specs.declared.parts.Flow.{Flow}
use Rattle.world_parts.specs.declared.parts.Flow.TheVariants as flow
use Rattle.world_parts.specs.declared.parts.Rest.{Rest}
use Rattle.world_parts.specs.declared.parts.Rest.TheVariants as rest
use Rattle.world_parts.specs.Held.{Held, Gives, Traps, Stuck}
use Rattle.world_parts.specs.Slots.{kind_of}
use Rattle.world_stacks.specs.declared.host_call.HostCall.{HostCall}
use Rattle.world_stacks.specs.declared.top.Top.{Top}
use Rattle.world_stacks.specs.declared.top.Top.TheVariants as top
use Rattle.world_stacks.specs.Piles.{resumed_at}
use Rattle.world_stacks.specs.Views.{PileView}
use Rattle.replies.specs.Seen.{seen}
use Rattle.value_parts.specs.declared.to_pass.Passing.{Passing}
use Rattle.value_parts.specs.declared.to_pass.Passing.TheVariants as passing
use Rattle.value_moves.specs.Passing.{Passes}
use Rattle.machine_runs.specs.Beyond.{IsBeyond, StepIsLost}
use Rattle.machine_runs.specs.Following.{heard, stacked}
use Rattle.machine_runs.specs.Moving.{woken, acting_of}
use Rattle.machine_runs.specs.Worlds.{Point, StepsTo, GoOn, most_steps}
use Rattle.run_laws.specs.Carried.{IsFit}
use Rattle.run_laws.specs.Whole.{start_of}

-- What a stack goes on with: words, or a core function that starts on it.
abbrev pub IsOfStack : Flow → Type 0
IsOfStack (flow.Now words) = Unit {0}
IsOfStack flow.Rests = ⊥
IsOfStack (flow.Starts ref words) = Unit {0}
IsOfStack flow.Enters = ⊥
IsOfStack flow.Returns = ⊥
IsOfStack (flow.Copies copying) = ⊥
IsOfStack (flow.Delivers r set) = ⊥
IsOfStack (flow.Polls r set) = ⊥
IsOfStack (flow.HearsNone r) = ⊥
IsOfStack (flow.HearsCancel r) = ⊥

-- A rule applies to the move of the acting task, and to the event that comes where one does; but its stack does not go on with what these come to.
pub record StackIsLost (p : Program) (piles : List PileView) (h : Held) : Type 0 where
  pub first : Flow
  pub mid : Held
  pub wakes : woken p.graph.now p.ends.now h.rest h ≡ Gives first mid
  pub what : Flow
  pub later : Held
  pub hears : heard (seen p.graph.now) first mid ≡ Gives what later
  pub of_stack : IsOfStack what
  pub lost : stacked what piles later ≡ Stuck

-- The stack of the acting task that is to run is none that runs; or it comes to its end over one that waits for it, which does not go on with no
-- words.
abbrev pub UnderIsLost : Held → Stack → List HostCall → Type 0
UnderIsLost h k [] = ⊥
UnderIsLost h k (c ∷ under) =
    (words : List ℕ) × (s : Store) × (left : ℕ) × RunGives h.store k h.left (outcome.Done words) s left × (resumed_at s [] c ≡ None)

abbrev pub TopIsLost : Held → Top → PileView → Type 0
TopIsLost h top.Empty p = Unit {0}
TopIsLost h (top.Waits c) p = Unit {0}
TopIsLost h (top.Goes k) p = UnderIsLost h k p.under

pub record RunIsLost (piles : List PileView) (h : Held) : Type 0 where
  pub acts : ℕ
  pub is_first : acting_of h ≡ Some acts
  pub pile : PileView
  pub there : slice_get piles acts ≡ Some pile
  pub lost : TopIsLost h pile.top pile

-- What is known of a point from which a step is lost, by where the run is.
abbrev pub RestMayLose : Program → List PileView → Held → Rest → Type 0
RestMayLose p piles h (rest.Instantiates number) = ⊥
RestMayLose p piles h rest.Free = ⊥
RestMayLose p piles h rest.Arrives = ⊥
RestMayLose p piles h rest.Goes = ⊥
RestMayLose p piles h rest.Resumes = StackIsLost p piles h
RestMayLose p piles h rest.Back = StackIsLost p piles h
RestMayLose p piles h rest.Runs = RunIsLost piles h
RestMayLose p piles h (rest.Calls number) = StackIsLost p piles h
RestMayLose p piles h rest.Leaves = ⊥

-- The function of the acting task is lifted without `async`.
abbrev pub EndsSync : Held → Type 0
EndsSync h = (t : ℕ) × (acting_of h ≡ Some t) × (kind_of t h ≡ Gives Sync h)

abbrev pub MayLose : Program → List PileView → Held → Passing → Type 0
MayLose p piles h passing.Nothing = RestMayLose p piles h h.rest
MayLose p piles h passing.Arguments = Unit {0}
MayLose p piles h passing.Returned = Unit {0}
MayLose p piles h (passing.Ended words) = EndsSync h
MayLose p piles h (passing.Elements copying) = Unit {0}

-- Each trap is one of the task that acts.
abbrev pub TrapsAreOfTasks : Type 0
TrapsAreOfTasks =
    (p : Program) (count : ℕ) (lines : List Label) (b : Point) (why : TrapName) (k : Held)
    → IsFit p → GoOn Passes p count (start_of p) lines b → StepsTo Passes p b (Traps why k) → (t : ℕ) × (acting_of k ≡ Some t)

-- A step is lost there alone.
abbrev pub StepsAreLostThere : Type 0
StepsAreLostThere =
    (p : Program) (count : ℕ) (lines : List Label) (b : Point)
    → IsFit p → GoOn Passes p count (start_of p) lines b → StepIsLost Passes p b → MayLose p b.piles b.held b.passing

-- So a run goes beyond what is run there, or behind as many steps as are made at most.
abbrev pub RunsGoBeyondThere : Type 0
RunsGoBeyondThere =
    (p : Program) (lines : List Label) → IsFit p → (x : IsBeyond Passes p (start_of p) lines)
    → MayLose p x.last.piles x.last.held x.last.passing ⊎ (x.count ≡ most_steps)
