-- Moves of the acting task, whatever it is at, and events that come to it, keep all marks (Component Model, CanonicalABI.md, "Canonical Definitions"; Concurrency.md,
-- "Summary").
use Rattle.std.specs.Prelude.{◌≡◌, ℕ, ◌-◌, Bool, true, List, length, Option, Some}
use Rattle.std.specs.List.{slice_get}
use Rattle.comp_graph.specs.declared.graph.CanonFunc.{CanonFunc}
use Rattle.comp_graph.specs.Graph.{Graph}
use Rattle.graph_views.specs.Canons.{canon_at}
use Rattle.tasks.specs.declared.event.BlockedAt.{BlockedAt}
use Rattle.tasks.specs.declared.phase.Phase.TheVariants as phase
use Rattle.instances.specs.Instances.{InstanceView}
use Rattle.task_table.specs.declared.slot.TaskSlot.{TaskSlot}
use Rattle.world_parts.specs.Views.{Views}
use Rattle.world_parts.specs.declared.parts.Flow.{Flow}
use Rattle.world_parts.specs.declared.parts.Rest.{Rest}
use Rattle.world_parts.specs.declared.parts.Rest.TheVariants as rest
use Rattle.world_parts.specs.Held.{Held}
use Rattle.replies.specs.Replies.{may_leave}
use Rattle.machine_runs.specs.Following.{heard}
use Rattle.machine_runs.specs.Moving.{woken}
use Rattle.run_laws.specs.keeping.Kept.{KeepsMarks, SubtasksAreOwn, OneHolds}
use Rattle.run_laws.specs.keeping.Answers.{MayAnswer}
use Rattle.run_laws.specs.keeping.Cancels.{BackWell}
use Rattle.run_laws.specs.keeping.Moves.{ActingRuns, GoesOnWell}
use Rattle.run_laws.specs.keeping.Well.{KeptWell}

-- The acting task, as it is kept.
abbrev pub ActingIs : Held → (ℕ → TaskSlot → Type 0) → Type 0
ActingIs h P = (t : ℕ) (x : TaskSlot) → slice_get h.chain (length h.chain - 1) ≡ Some t → slice_get h.tasks t ≡ Some x → P t x

-- It was blocked, and goes on well.
abbrev pub GoesOn : Held → TaskSlot → Type 0
GoesOn h x = (why : BlockedAt) (flag : Bool) → x.task.phase ≡ phase.Blocked why flag → (i : InstanceView) × (slice_get h.instances x.instance ≡ Some i) × GoesOnWell h x i why

-- It calls a canonical function, where this may be called.
abbrev pub MayCall : Graph → Held → ℕ → Type 0
MayCall g h number =
    (t : ℕ) (c : CanonFunc) → slice_get h.chain (length h.chain - 1) ≡ Some t → canon_at g number ≡ Some c → may_leave h ≡ true → MayAnswer h t c

-- What is asked by where the run rests.
abbrev pub WokenWell : Graph → Rest → Held → Type 0
WokenWell g (rest.Instantiates number) h = Unit {0}
WokenWell g rest.Free h = Unit {0}
WokenWell g rest.Arrives h = ActingRuns h
WokenWell g rest.Goes h = Unit {0}
WokenWell g rest.Resumes h = ActingRuns h × ActingIs h (λ t x. GoesOn h x)
WokenWell g rest.Back h = ActingIs h (λ t x. BackWell h t x x.errand)
WokenWell g rest.Runs h = Unit {0}
WokenWell g (rest.Calls number) h = MayCall g h number
WokenWell g rest.Leaves h = ActingRuns h × OneHolds h

abbrev pub WokenKeepsMarks : Type 0
WokenKeepsMarks = (g : Graph) (types : List (Option ℕ)) (r : Rest) (h : Held) → WokenWell g r h → KeepsMarks h (woken g types r h)

-- An event comes to it, or none: its instance's subtasks were called from there.
abbrev pub HeardKeepsMarks : Type 0
HeardKeepsMarks = (g : Views) (f : Flow) (h : Held) → KeptWell h → ActingIs h (λ t x. SubtasksAreOwn h x.instance) → KeepsMarks h (heard g f h)
