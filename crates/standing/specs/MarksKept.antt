-- What parts of a step leave of the marks of gates and of sets (Component Model, CanonicalABI.md, "Component Instance State", "Waitable Set State"; Concurrency.md,
-- "Summary"): that who holds and waits for exclusive entry, and how many tasks wait on a set, are kept as they follow from the tasks.
use Rattle.std.specs.Prelude.{◌≡◌, ℕ, true, List, Option, Some}
use Rattle.std.specs.List.{slice_get}
use Rattle.syntax_trees.specs.declared.types.ValType.{ValType}
use Rattle.builtin_kinds.specs.declared.EndKind.{EndKind}
use Rattle.builtin_kinds.specs.declared.WaitOp.{WaitOp}
use Rattle.handle_table.specs.Slots.{next_of}
use Rattle.entry_gate.specs.declared.kind.Kind.{Kind}
use Rattle.stream_ends.specs.declared.side.Side.{Side}
use Rattle.instances.specs.declared.entry.WorldEntry.TheVariants as entry
use Rattle.instances.specs.Instances.{InstanceView, entry_of}
use Rattle.task_table.specs.declared.errand.Callee.{Callee}
use Rattle.task_table.specs.declared.slot.TaskSlot.{TaskSlot}
use Rattle.world_parts.specs.Views.{Views}
use Rattle.world_parts.specs.Held.{Held, Done, Gives, Traps, Spent, Stuck}
use Rattle.world_parts.specs.Calls.{call_begun}
use Rattle.world_parts.specs.Handles.{resource_new, resource_rep, resource_drop}
use Rattle.world_parts.specs.Plain.{context_get, context_put, backpressure_inc, backpressure_dec, backpressure_set, return_asked, task_cancel, task_yield}
use Rattle.world_parts.specs.Subtasks.{subtask_cancel, subtask_drop}
use Rattle.world_parts.specs.Waits.{set_new, set_drop, waitable_join, set_wait}
use Rattle.world_parts.specs.Copies.{channel_new, copy_cancel, end_drop}
use Rattle.copy_replies.specs.Reads.{copy_asked}
use Rattle.standing.specs.KeptMarks.{runs_func, runs_at, GatesMarked, waiters_at, WaitersMarked}

-- They stay.
pub record WaitsStay (h k : Held) : Type 0 where
  pub gates : GatesMarked h.instances h.tasks → GatesMarked k.instances k.tasks
  pub waiters : WaitersMarked h.instances h.tasks → WaitersMarked k.instances k.tasks

-- So it is of what a part gives. Behind a trap, and where fuel is wanting, no run goes on.
abbrev pub StayBy : {A : Type 0} → Held → Done A → Type 0
StayBy h (Gives x k) = WaitsStay h k
StayBy h (Traps why k) = Unit {0}
StayBy h (Spent k) = Unit {0}
StayBy h Stuck = Unit {0}

-- Each set of an instance stands at one index.
abbrev pub StandOnce : InstanceView → Type 0
StandOnce i = (index other set : ℕ) → entry_of i index ≡ Some (entry.Set set) → entry_of i other ≡ Some (entry.Set set) → index ≡ other

-- What is asked of the instance of a built-in that is called, and of the task that calls it: each set stands once, no task waits where the next entry will
-- stand, subtasks run functions, and the task runs one of the instance.
pub record CallsIn (h : Held) (t at : ℕ) : Type 0 where
  pub sets : (i : InstanceView) → slice_get h.instances at ≡ Some i → StandOnce i
  pub next : (i : InstanceView) → slice_get h.instances at ≡ Some i → waiters_at h.tasks at (next_of i.slots) ≡ 0
  pub subtasks : (i : InstanceView) (index callee : ℕ) (slot : TaskSlot) → slice_get h.instances at ≡ Some i → entry_of i index ≡ Some (entry.Subtask callee)
      → slice_get h.tasks callee ≡ Some slot → runs_func slot.callee ≡ true
  pub caller : (slot : TaskSlot) → slice_get h.tasks t ≡ Some slot → runs_at at slot ≡ true

-- Built-ins keep them: those of sets, where the call is one of these,
abbrev pub SetsKeepMarks : Type 0
SetsKeepMarks =
    (g : Views) (t at canon : ℕ) (op : WaitOp) (words : List ℕ) (h : Held) → CallsIn h t at
    → StayBy h (set_new t at h) × StayBy h (set_drop t at words h) × StayBy h (waitable_join t at words h) × StayBy h (set_wait g t at canon op words h)

-- of subtasks,
abbrev pub SubtasksKeepMarks : Type 0
SubtasksKeepMarks = (t at canon : ℕ) (words : List ℕ) (h : Held) → CallsIn h t at → StayBy h (subtask_cancel t at canon words h) × StayBy h (subtask_drop t at words h)

-- and all others, whatever is called: calls,
abbrev pub CallsKeepMarks : Type 0
CallsKeepMarks = (t canon instance : ℕ) (callee : Callee) (kind : Kind) (words : List ℕ) (h : Held) → StayBy h (call_begun t canon callee instance kind words h)

-- handles,
abbrev pub HandlesKeepMarks : Type 0
HandlesKeepMarks =
    (g : Views) (t at canon resource : ℕ) (words : List ℕ) (h : Held)
    → StayBy h (resource_new t at resource words h) × StayBy h (resource_rep t at resource words h) × StayBy h (resource_drop g t at canon resource words h)

-- context and backpressure,
abbrev pub ContextKeepsMarks : Type 0
ContextKeepsMarks = (t number : ℕ) (words : List ℕ) (h : Held) → StayBy h (context_get t number h) × StayBy h (context_put t number words h)

abbrev pub PressureKeepsMarks : Type 0
PressureKeepsMarks =
    (t at : ℕ) (words : List ℕ) (h : Held) → StayBy h (backpressure_inc t at h) × StayBy h (backpressure_dec t at h) × StayBy h (backpressure_set t at words h)

-- how a task resolves and lets others run,
abbrev pub TasksKeepMarks : Type 0
TasksKeepMarks = (g : Views) (t canon : ℕ) (h : Held) → StayBy h (return_asked t h) × StayBy h (task_cancel t h) × StayBy h (task_yield g t canon h)

-- and ends, up to where elements go over.
abbrev pub EndsKeepMarks : Type 0
EndsKeepMarks =
    (g : Views) (element : Option ValType) (t at canon : ℕ) (kind : EndKind) (side : Side) (type : ℕ) (words : List ℕ) (h : Held)
    → StayBy h (channel_new t at kind type h) × StayBy h (copy_asked g element t at canon kind side type words h)
    × StayBy h (copy_cancel g t at kind side type words h) × StayBy h (end_drop t at kind side type words h)
