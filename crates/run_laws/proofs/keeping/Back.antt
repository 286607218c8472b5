-- Control that is back at a task that called another one, and events that come to a task, keep all marks.
use Rattle.std.proofs.Common.{◌≡◌, refl}
use Rattle.std.specs.Prelude.{ℕ, ◌+◌, ◌*◌, nat_eq, nat_lt, Bool, true, false, if◌then◌else◌, [], ◌∷◌, length, Some}
use Rattle.std.specs.List.{slice_get}
use Rattle.handle_table.specs.History.{most_live}
use Rattle.handle_table.specs.Slots.{count, next_of}
use Rattle.tasks.specs.declared.event.BlockedAt.TheVariants as blocked_at
use Rattle.tasks.specs.Tasks.{state_of}
use Rattle.tasks.specs.Subtasks.{is_over}
use Rattle.instances.specs.declared.entry.WorldEntry.TheVariants as entry
use Rattle.instances.specs.Instances as instance
use Rattle.instances.specs.Instances.{InstanceView}
use Rattle.task_table.specs.declared.errand.Errand.TheVariants as errand
use Rattle.task_table.specs.declared.slot.TaskSlot.{TaskSlot}
use Rattle.task_table.specs.Callers.{called_of}
use Rattle.task_table.specs.Slots.{at_errand}
use Rattle.trace_labels.specs.declared.label.BlockReason.TheVariants as reason
use Rattle.trace_labels.specs.declared.trap.TrapName.TheVariants as trap
use Rattle.world_parts.specs.Views.{Views}
use Rattle.world_parts.specs.declared.parts.Receiver.{Receiver}
use Rattle.world_parts.specs.Held.{Held, Gives, Traps, after, given}
use Rattle.world_parts.specs.Entries.{with_instance, entry_added}
use Rattle.world_parts.specs.Feed.{got}
use Rattle.world_parts.specs.News.{ready}
use Rattle.world_parts.specs.Slots.{with_task, resolved, state_told}
use Rattle.world_parts.specs.Calls.{blocked_in, subtask_told, call_resolved, call_open, back_from_call}
use Rattle.world_parts.specs.Events.{received_none, received_cancel, delivered_among, delivers, polled, polls}
use Rattle.standing.proofs.marks.Calls.{back_from_call_stays}
use Rattle.standing.proofs.marks.Events.{delivered_among_stays, received_none_stays, received_cancel_stays}
use Rattle.standing.proofs.marks.Stays.{stays_if}
use Rattle.run_laws.specs.keeping.Kept.{KeepsMarks, TableIsSound, NoneWaitsNext, IsNotAwaited, CalledFrom, SubtasksAreOwn, ToldGaveBack, AskedAreOpen}
use Rattle.run_laws.proofs.keeping.Others.{KeptBy, keeps_after, keeps_if, keeps_through, look_keeps, full_keeps, traps_put}
use Rattle.run_laws.proofs.keeping.Every.{all_by}
use Rattle.run_laws.proofs.keeping.Changes.{task_keeps, waits_same}
use Rattle.run_laws.proofs.keeping.Tables.{subtask_added}
use Rattle.run_laws.proofs.keeping.Alike.{same_task}
use Rattle.run_laws.proofs.keeping.Told.{subtask_told_keeps, state_told_keeps}
use Rattle.run_laws.proofs.keeping.Carried.{from_task, gave_task, alone_task, unawaited_task}
use Rattle.run_laws.proofs.keeping.parts.Calls.{blocked_in_keeps}
use Rattle.run_laws.proofs.keeping.parts.Events.{delivers_keeps, polls_keeps, received_none_keeps, received_cancel_keeps}
use Rattle.run_laws.proofs.keeping.parts.Feed.{got_keeps}

-- The call has resolved.
call_resolved_keeps : (g : Views) (t at callee canon : ℕ) (h : Held) → CalledFrom h at callee → ToldGaveBack h → KeptBy h (call_resolved g t at callee canon h)
unfolding call_resolved
call_resolved_keeps g t at callee canon h from gave =
    look_keeps h (slice_get h.tasks callee) (λ x. given (called_of x.caller) (λ called. Gives called.result h))
    (λ words k. after (subtask_told at callee k) (λ payload l. if g.is_async canon then got t (2 ∷ []) l else got t words l))
    (λ x is.
    look_keeps h (called_of x.caller) (λ called. Gives called.result h)
    (λ words k. after (subtask_told at callee k) (λ payload l. if g.is_async canon then got t (2 ∷ []) l else got t words l))
    (λ called by.
    keeps_after h (subtask_told at callee h) (λ payload l. if g.is_async canon then got t (2 ∷ []) l else got t called.result l) (subtask_told_keeps at callee h from gave)
    (λ payload l. keeps_if l (g.is_async canon) (got t (2 ∷ []) l) (got t called.result l) (got_keeps t (2 ∷ []) l) (got_keeps t called.result l))))

-- It has not: the subtask comes to stand in the table, or the task blocks.
added_keeps : (t at callee : ℕ) (x : TaskSlot) (h : Held) → slice_get h.tasks callee ≡ Some x → is_over (state_of x.task) ≡ false → TableIsSound h at → NoneWaitsNext h at
    → IsNotAwaited h callee → KeptBy h (after (entry_added at (entry.Subtask callee) h) (λ index k. after (state_told callee k) (λ state l. got t ((state + 16 * index) ∷ []) l)))
added_keeps t at callee x h is unresolved sound alone new =
    look_keeps h (slice_get h.instances at)
    (λ i. if nat_lt (count i.slots) most_live then Gives (next_of i.slots) (with_instance at (instance.entry_added (entry.Subtask callee) i) h) else Traps trap.TableFull (with_instance at i h))
    (λ index k. after (state_told callee k) (λ state l. got t ((state + 16 * index) ∷ []) l))
    (λ i here.
    full_keeps h (with_instance at i h) (nat_lt (count i.slots) most_live) trap.TableFull
    (Gives (next_of i.slots) (with_instance at (instance.entry_added (entry.Subtask callee) i) h)) (λ index k. after (state_told callee k) (λ state l. got t ((state + 16 * index) ∷ []) l))
    (traps_put h at i here)
    (λ room.
    let k : Held = with_instance at (instance.entry_added (entry.Subtask callee) i) h in
    keeps_through h k (after (state_told callee k) (λ state l. got t ((state + 16 * next_of i.slots) ∷ []) l))
    (subtask_added h at callee i here (sound i here) (alone i here) (λ slot called found guest. new slot called found guest))
    (keeps_after k (state_told callee k) (λ state l. got t ((state + 16 * next_of i.slots) ∷ []) l) (state_told_keeps callee k x is unresolved)
    (λ state l. got_keeps t ((state + 16 * next_of i.slots) ∷ []) l))))

resolved_or_not : (g : Views) (t at callee canon : ℕ) (x : TaskSlot) (h : Held) (b : Bool) → slice_get h.tasks callee ≡ Some x → is_over (state_of x.task) ≡ b → CalledFrom h at callee
    → ToldGaveBack h → TableIsSound h at → NoneWaitsNext h at → IsNotAwaited h callee → KeptBy h (if b then call_resolved g t at callee canon h else call_open g t at callee canon h)
unfolding call_open
resolved_or_not g t at callee canon x h true is e from gave sound alone new = call_resolved_keeps g t at callee canon h from gave
resolved_or_not g t at callee canon x h false is e from gave sound alone new =
    keeps_if h (g.is_async canon) (after (entry_added at (entry.Subtask callee) h) (λ index k. after (state_told callee k) (λ state l. got t ((state + 16 * index) ∷ []) l)))
    (blocked_in t canon (g.flag canon) (blocked_at.Call callee) (reason.Call callee) h) (added_keeps t at callee x h is e sound alone new)
    (blocked_in_keeps t canon (g.flag canon) (blocked_at.Call callee) (reason.Call callee) h tt)

back_from_call_keeps : (g : Views) (t at callee canon : ℕ) (h : Held) → CalledFrom h at callee → ToldGaveBack h → TableIsSound h at → NoneWaitsNext h at → IsNotAwaited h callee
    → KeptBy h (back_from_call g t at callee canon h)
unfolding back_from_call
back_from_call_keeps g t at callee canon h from gave sound alone new =
    look_keeps h (slice_get h.tasks t) (λ x. Gives (tt {0}) (with_task t (at_errand errand.None x) h))
    (λ done k. after (resolved callee k) (λ is_over l. if is_over then call_resolved g t at callee canon l else call_open g t at callee canon l))
    (λ x is.
    let y : TaskSlot = at_errand errand.None x in
    let k : Held = with_task t y h in
    keeps_through h k (after (resolved callee k) (λ is_over l. if is_over then call_resolved g t at callee canon l else call_open g t at callee canon l))
    (task_keeps h t x y is (same_task x y refl refl refl refl refl) (λ m. m))
    (look_keeps k (slice_get k.tasks callee) (λ z. Gives (is_over (state_of z.task)) k)
    (λ is_over l. if is_over then call_resolved g t at callee canon l else call_open g t at callee canon l)
    (λ z there.
    resolved_or_not g t at callee canon z k (is_over (state_of z.task)) there refl (from_task h t at callee x y is refl refl from) (gave_task h t x y is refl gave) sound
    (alone_task h t at x y is (λ n index. waits_same n index x y refl refl) alone) (unawaited_task h t callee x y is refl new))))

pub back_from_call_marks : (g : Views) (t at callee canon : ℕ) (h : Held) → CalledFrom h at callee → ToldGaveBack h → TableIsSound h at → NoneWaitsNext h at → IsNotAwaited h callee
    → KeepsMarks h (back_from_call g t at callee canon h)
back_from_call_marks g t at callee canon h from gave sound alone new =
    all_by h (back_from_call g t at callee canon h) (back_from_call_stays g t at callee canon h) (back_from_call_keeps g t at callee canon h from gave sound alone new)

-- An event comes, or none.
pub delivers_marks : (g : Views) (t at : ℕ) (r : Receiver) (set : ℕ) (h : Held) → SubtasksAreOwn h at → ToldGaveBack h → KeepsMarks h (delivers g t at r set h)
unfolding delivers
delivers_marks g t at r set h own gave =
    all_by h (delivered_among g t at r (ready g at set h) h) (delivered_among_stays g t at r (ready g at set h) h) (delivers_keeps g t at r set h own gave)

pub polls_marks : (g : Views) (t at : ℕ) (r : Receiver) (set : ℕ) (h : Held) → SubtasksAreOwn h at → ToldGaveBack h → KeepsMarks h (polls g t at r set h)
unfolding polls polled
polls_marks g t at r set h own gave =
    all_by h (if nat_eq (length (ready g at set h)) 0 then received_none g t r h else delivered_among g t at r (ready g at set h) h)
    (stays_if h (nat_eq (length (ready g at set h)) 0) (received_none g t r h) (delivered_among g t at r (ready g at set h) h) (received_none_stays g t r h)
    (delivered_among_stays g t at r (ready g at set h) h))
    (polls_keeps g t at r set h own gave)

pub none_marks : (g : Views) (t : ℕ) (r : Receiver) (h : Held) → KeepsMarks h (received_none g t r h)
none_marks g t r h = all_by h (received_none g t r h) (received_none_stays g t r h) (received_none_keeps g t r h)

pub cancel_marks : (g : Views) (t : ℕ) (r : Receiver) (h : Held) → AskedAreOpen h → KeepsMarks h (received_cancel g t r h)
cancel_marks g t r h asked = all_by h (received_cancel g t r h) (received_cancel_stays g t r h) (received_cancel_keeps g t r h asked)
