-- Moves of tasks, and the script's calls, keep all marks (Component Model, CanonicalABI.md, "Task State": `Task.enter`, `canon task.return`, `canon lift`;
-- Concurrency.md, "Summary" and "Cancellation"): a task that arrives, enters or exits, comes to its end, resolves, or goes on, and the script's next call and
-- one that it cancels.
use Rattle.std.specs.Prelude.{◌≡◌, ℕ, ◌-◌, Bool, true, List, length, Option, Some, None}
use Rattle.std.specs.List.{slice_get}
use Rattle.entry_gate.specs.declared.kind.Kind.{Kind}
use Rattle.entry_gate.specs.Kinds.{needs_entry}
use Rattle.tasks.specs.declared.event.BlockedAt.{BlockedAt}
use Rattle.tasks.specs.declared.event.BlockedAt.TheVariants as blocked_at
use Rattle.tasks.specs.declared.phase.Phase.TheVariants as phase
use Rattle.instances.specs.declared.entry.WorldEntry.TheVariants as entry
use Rattle.instances.specs.Instances.{InstanceView, entry_of}
use Rattle.task_table.specs.declared.slot.TaskSlot.{TaskSlot}
use Rattle.trace_labels.specs.declared.typed.TypedValue.{TypedValue}
use Rattle.world_parts.specs.Held.{Held}
use Rattle.world_parts.specs.Channels.{numbered}
use Rattle.world_parts.specs.Going.{arrives, enters, leaves, ending, loops, resumes}
use Rattle.world_parts.specs.Plain.{returned}
use Rattle.world_parts.specs.Turning.{gone, goes, call_taken, call_cancelled}
use Rattle.standing.specs.MarksKept.{StandOnce}
use Rattle.run_laws.specs.keeping.Kept.{KeepsMarks, NumbersThere, CalledFrom, ToldGaveBack, AskedAreOpen, RunsFunction, EntersFree, OneHolds}
use Rattle.run_laws.specs.keeping.Cancels.{StandsOnly, OneWaits}

-- The acting task runs a function.
abbrev pub ActingRuns : Held → Type 0
ActingRuns h = (t : ℕ) → slice_get h.chain (length h.chain - 1) ≡ Some t → RunsFunction h t

-- A task that is new enters, or waits to.
abbrev pub ArrivingKeepsMarks : Type 0
ArrivingKeepsMarks = (h : Held) → ActingRuns h → KeepsMarks h (arrives h)

-- It enters, whether it waited or not, where none bars it.
abbrev pub EnteringKeepsMarks : Type 0
EnteringKeepsMarks = (t : ℕ) (h : Held) → RunsFunction h t → EntersFree h t → KeepsMarks h (enters t h)

-- It exits, where one task at most holds entry.
abbrev pub LeavingKeepsMarks : Type 0
LeavingKeepsMarks = (h : Held) → ActingRuns h → OneHolds h → KeepsMarks h (leaves h)

-- It exits or blocks in its loop, by the word that its core function or callback gave; each set of its instance stands at one index.
abbrev pub LoopingKeepsMarks : Type 0
LoopingKeepsMarks =
    (t word : ℕ) (h : Held) → RunsFunction h t → OneHolds h
    → ((slot : TaskSlot) (i : InstanceView) → slice_get h.tasks t ≡ Some slot → slice_get h.instances slot.instance ≡ Some i → StandOnce i) → KeepsMarks h (loops t word h)

-- The subtask at an index stands nowhere else, and was called from the instance.
abbrev pub SubtaskAlone : Held → ℕ → InstanceView → ℕ → Type 0
SubtaskAlone h at i index = (callee : ℕ) → entry_of i index ≡ Some (entry.Subtask callee) → StandsOnly h at index callee × CalledFrom h at callee

-- What is asked where a blocked task goes on, by what it was blocked at: in its loop, that it needs entry, which none holds, and that sets stand once; behind a
-- yield, that whose cancellation is asked was not cancelled; behind a set, that sets stand once; behind a call, that the caller runs in this instance, and
-- that calls that were told to have resolved lend nothing; behind a cancel the same, and that it alone waits at the index, at which alone the subtask stands.
abbrev pub GoesOnWell : Held → TaskSlot → InstanceView → BlockedAt → Type 0
GoesOnWell h x i blocked_at.Entry = Unit {0}
GoesOnWell h x i (blocked_at.Loop word) = (needs_entry x.task.kind ≡ true) × (i.gate.holder ≡ None) × StandOnce i
GoesOnWell h x i blocked_at.Yield = AskedAreOpen h
GoesOnWell h x i (blocked_at.Set index) = StandOnce i
GoesOnWell h x i (blocked_at.Call callee) = CalledFrom h x.instance callee × ToldGaveBack h
GoesOnWell h x i (blocked_at.Copy index) = Unit {0}
GoesOnWell h x i (blocked_at.Cancel index) = OneWaits h x.instance index × SubtaskAlone h x.instance i index × ToldGaveBack h

-- A task that was blocked, and acts, goes on, up to where an event comes to it or it enters.
abbrev pub ResumingKeepsMarks : Type 0
ResumingKeepsMarks =
    (h : Held) → ActingRuns h
    → ((t : ℕ) (x : TaskSlot) (why : BlockedAt) (flag : Bool) → slice_get h.chain (length h.chain - 1) ≡ Some t → slice_get h.tasks t ≡ Some x → x.task.phase ≡ phase.Blocked why flag
    → (i : InstanceView) × (slice_get h.instances x.instance ≡ Some i) × GoesOnWell h x i why)
    → KeepsMarks h (resumes h)

-- It comes to its end, and resolves.
abbrev pub EndingKeepsMarks : Type 0
EndingKeepsMarks = (t : ℕ) (h : Held) → KeepsMarks h (ending t h)

abbrev pub ReturningKeepsMarks : Type 0
ReturningKeepsMarks = (t : ℕ) (value : Option TypedValue) (h : Held) → KeepsMarks h (returned t value h)

-- A blocked task goes on, and so does the acting one, whose wait a cancellation ended.
abbrev pub GoingOnKeepsMarks : Type 0
GoingOnKeepsMarks = (t : ℕ) (h : Held) → KeepsMarks h (gone t h) × KeepsMarks h (goes h)

-- The script's next call makes a task, and a call is cancelled.
abbrev pub NextCallKeepsMarks : Type 0
NextCallKeepsMarks = (export instance : ℕ) (kind : Kind) (name : List ℕ) (args : List TypedValue) (h : Held) → NumbersThere h → KeepsMarks h (call_taken export instance kind name args h)

abbrev pub CancelKeepsMarks : Type 0
CancelKeepsMarks = (call : ℕ) (h : Held) → ((t : ℕ) → numbered h.calls call ≡ Some t → RunsFunction h t) → KeepsMarks h (call_cancelled call h)
