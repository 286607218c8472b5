-- Cancellation of tasks, and subtasks that leave the table, leave marks of handles and subtasks as they follow from tables and tasks.
use Rattle.std.proofs.Common.{◌≡◌, Bool, true, false, ◌&&◌, refl, sym, ap, ◌∙◌, Option, Some, None, is_none}
use Rattle.std.specs.Prelude.{ℕ, nat_lt, not, if◌then◌else◌, List, [], Ok}
use Rattle.std.specs.List.{slice_get}
use Rattle.entry_gate.specs.Gates.{is_free, without_wait}
use Rattle.entry_gate.specs.declared.kind.Kind.{Kind}
use Rattle.tasks.specs.declared.event.Asked.{Asked}
use Rattle.tasks.specs.declared.event.Asked.TheVariants as asking
use Rattle.tasks.specs.declared.event.BlockedAt.TheVariants as blocked_at
use Rattle.tasks.specs.declared.phase.Cancellation.{Cancellation}
use Rattle.tasks.specs.declared.phase.Cancellation.TheVariants.{NotAsked, Asked as WasAsked, Delivered}
use Rattle.tasks.specs.declared.phase.Phase.{Phase}
use Rattle.tasks.specs.declared.phase.Phase.TheVariants as phase
use Rattle.tasks.specs.declared.phase.Resolution.{Resolution}
use Rattle.tasks.specs.declared.subtask_state.SubtaskState.TheVariants as state
use Rattle.tasks.specs.Tasks.{is_cancellable, is_unasked, is_told, resolved_state, phase_case, cancel_case, may_cancel, cancelled as task_cancelled}
use Rattle.tasks.specs.Subtasks.{is_over}
use Rattle.tasks.specs.Views.{TaskView}
use Rattle.instances.specs.declared.entry.WorldEntry.{WorldEntry}
use Rattle.instances.specs.declared.entry.WorldEntry.TheVariants as entry
use Rattle.instances.specs.Entries.{subtask_in}
use Rattle.instances.specs.Instances.{InstanceView, entry_of, with_gate}
use Rattle.task_table.specs.declared.errand.Errand.TheVariants as errand
use Rattle.task_table.specs.declared.slot.TaskSlot.{TaskSlot}
use Rattle.task_table.specs.Callers.{called_of}
use Rattle.task_table.specs.Slots as slots
use Rattle.task_table.specs.Slots.{waits_directly_at, cancel_answer, cancelled_slot}
use Rattle.trace_labels.specs.declared.label.Label.TheVariants as line
use Rattle.trace_labels.specs.declared.trap.TrapName.TheVariants as trap
use Rattle.world_parts.specs.declared.parts.Rest.{Rest}
use Rattle.world_parts.specs.declared.parts.Rest.TheVariants as rest
use Rattle.world_parts.specs.declared.parts.Flow.TheVariants as flow
use Rattle.world_parts.specs.Held.{Held, Gives, Traps, Stuck, after, given}
use Rattle.world_parts.specs.Entries.{with_instance, named, subtask_found, entry_removed, set_left}
use Rattle.world_parts.specs.Feed.{told, at_rest, chained, got}
use Rattle.world_parts.specs.Gates.{entry_is_free, gate_unwaited}
use Rattle.world_parts.specs.Slots.{word_in, with_task, asked_by, closed, delivered, raised, resolved, unasked, errand_set}
use Rattle.world_parts.specs.Subtasks.{removed, cancelled_by, cancelled, subtask_asked, subtask_cancel, subtask_drop}
use Rattle.abi_machine.proofs.sound.Found.{some_same}
use Rattle.standing.specs.KeptMarks.{is_borrow_of}
use Rattle.standing.proofs.States.{states_stay}
use Rattle.run_laws.proofs.keeping.Others.{Keeps, KeptBy, look_keeps, look_further, found_keeps, tested_keeps, keeps_after, keeps_all, keeps_given, keeps_if, keeps_through, traps_same}
use Rattle.run_laws.proofs.keeping.Changes.{same_keeps, task_keeps}
use Rattle.run_laws.proofs.keeping.Alike.{same_task, waits_alike}
use Rattle.run_laws.proofs.keeping.Rises.{raised_keeps}
use Rattle.run_laws.proofs.keeping.parts.Copies.{left_and_gone}
use Rattle.run_laws.proofs.keeping.parts.Entries.{subtask_found_keeps}
use Rattle.run_laws.proofs.keeping.parts.Feed.{chained_keeps, got_keeps, told_keeps}
use Rattle.run_laws.proofs.keeping.parts.Slots.{closed_keeps, delivered_keeps, errand_set_keeps, resolved_keeps, unasked_keeps}

-- A task that is removed waited to enter.
resumes : (b : Bool) → (if b then asking.ResumeNow else asking.Pending) ≡ asking.Removed → ⊥
resumes true e = cc
resumes false e = cc

removed_waited : (free : Bool) (kind : Kind) (p : Phase) (index : ℕ) → phase_case free kind p ≡ asking.Removed → waits_directly_at index p ≡ false
removed_waited free kind phase.New index e = absurd (cc)
removed_waited free kind phase.Acting index e = absurd (cc)
removed_waited free kind (phase.Blocked blocked_at.Entry flag) index e = refl
removed_waited free kind (phase.Blocked (blocked_at.Loop word) flag) index e = absurd (resumes (is_cancellable free kind (blocked_at.Loop word) flag) e)
removed_waited free kind (phase.Blocked blocked_at.Yield flag) index e = absurd (resumes (is_cancellable free kind blocked_at.Yield flag) e)
removed_waited free kind (phase.Blocked (blocked_at.Set set) flag) index e = absurd (resumes (is_cancellable free kind (blocked_at.Set set) flag) e)
removed_waited free kind (phase.Blocked (blocked_at.Call task) flag) index e = absurd (resumes (is_cancellable free kind (blocked_at.Call task) flag) e)
removed_waited free kind (phase.Blocked (blocked_at.Copy end) flag) index e = absurd (resumes (is_cancellable free kind (blocked_at.Copy end) flag) e)
removed_waited free kind (phase.Blocked (blocked_at.Cancel subtask) flag) index e = absurd (resumes (is_cancellable free kind (blocked_at.Cancel subtask) flag) e)
removed_waited free kind phase.Exited index e = absurd (cc)

-- Whose cancellation may be asked has not resolved, and was not told.
both_so : (b c : Bool) → (b && c) ≡ true → (b ≡ true) × (c ≡ true)
both_so true c e = (refl, e)
both_so false c e = absurd (cc)

not_told : (c : Cancellation) → is_unasked c ≡ true → is_told c ≡ false
not_told NotAsked e = refl
not_told WasAsked e = absurd (cc)
not_told Delivered e = absurd (cc)

same_open : (c d : Cancellation) (r : Option Resolution) (p : Phase) → is_none r ≡ true → resolved_state d r p ≡ resolved_state c r p
same_open c d None p e = refl
same_open c d (Some r) p e = absurd (cc)

behind_gone : (t : ℕ) (behind : Rest) (m : Held) → KeptBy m
    (after (closed t m) (λ done n. after (told (line.Cancelled t) n) (λ done o. after (told (line.Exit t) o) (λ done p. Gives flow.Rests (at_rest behind p)))))
behind_gone t behind m =
    keeps_after m (closed t m) (λ done n. after (told (line.Cancelled t) n) (λ done o. after (told (line.Exit t) o) (λ done p. Gives flow.Rests (at_rest behind p)))) (closed_keeps t m)
    (λ done n.
    keeps_after n (told (line.Cancelled t) n) (λ done o. after (told (line.Exit t) o) (λ done p. Gives flow.Rests (at_rest behind p))) (told_keeps (line.Cancelled t) n)
    (λ done o.
    keeps_after o (told (line.Exit t) o) (λ done p. Gives flow.Rests (at_rest behind p)) (told_keeps (line.Exit t) o) (λ done p. keeps_all p (at_rest behind p) refl refl)))

removed_keeps : (h : Held) (t : ℕ) (behind : Rest) (free : Bool) (x : TaskSlot) → slice_get h.tasks t ≡ Some x → may_cancel x.task ≡ true → cancel_case free x.task ≡ asking.Removed
    → KeptBy h (removed t behind (with_task t (slots.with_task (task_cancelled asking.Removed x.task) x) h))
unfolding removed
removed_keeps h t behind free x is may e =
    let later : TaskView = task_cancelled asking.Removed x.task in
    let k : Held = with_task t (slots.with_task later x) h in
    look_keeps h (slice_get k.tasks t) (λ y. Gives y.instance k)
    (λ at l. after (gate_unwaited at l) (λ done m.
    after (raised t state.CancelledBeforeStarted m) (λ done n. after (closed t n) (λ done o. after (told (line.Cancelled t) o) (λ done p. after (told (line.Exit t) p) (λ done q.
    Gives flow.Rests (at_rest behind q)))))))
    (λ y found.
    look_keeps h (slice_get k.instances y.instance)
    (λ i. if nat_lt 0 i.gate.waiting then Gives (tt {0}) (with_instance y.instance (with_gate (without_wait i.gate) i) k) else Stuck)
    (λ done m.
    after (raised t state.CancelledBeforeStarted m) (λ done n. after (closed t n) (λ done o. after (told (line.Cancelled t) o) (λ done p. after (told (line.Exit t) p) (λ done q.
    Gives flow.Rests (at_rest behind q))))))
    (λ i there.
    tested_keeps h (nat_lt 0 i.gate.waiting) (Gives (tt {0}) (with_instance y.instance (with_gate (without_wait i.gate) i) k))
    (λ done m.
    after (raised t state.CancelledBeforeStarted m) (λ done n. after (closed t n) (λ done o. after (told (line.Cancelled t) o) (λ done p. after (told (line.Exit t) p) (λ done q.
    Gives flow.Rests (at_rest behind q))))))
    (λ waited.
    let m : Held = with_instance y.instance (with_gate (without_wait i.gate) i) k in
    raised_keeps h m t x later state.CancelledBeforeStarted
    (λ done n. after (closed t n) (λ done o. after (told (line.Cancelled t) o) (λ done p. after (told (line.Exit t) p) (λ done q. Gives flow.Rests (at_rest behind q)))))
    (record {
      is = is;
      tasks = refl;
      insts = λ all marks. same_keeps (record h { tasks = all }) y.instance i (with_gate (without_wait i.gate) i) there refl marks;
      alike = waits_alike x (slots.with_task later x) refl refl refl refl (λ index. sym (removed_waited free x.task.kind x.task.phase index e));
      state = ap (λ (b : Bool). if b then state.CancelledBeforeReturned else state.CancelledBeforeStarted)
          (not_told x.task.cancellation (both_so (is_none x.task.resolution) (is_unasked x.task.cancellation) may).1);
    })
    (λ n p.
    keeps_through h n (after (closed t n) (λ done o. after (told (line.Cancelled t) o) (λ done p. after (told (line.Exit t) p) (λ done q. Gives flow.Rests (at_rest behind q))))) p
    (behind_gone t behind n)))))

-- What comes of a cancellation that is asked.
asked_alike : (h : Held) (t : ℕ) (x : TaskSlot) → slice_get h.tasks t ≡ Some x → may_cancel x.task ≡ true
    → Keeps h (with_task t (slots.with_task (record x.task { cancellation = WasAsked }) x) h)
asked_alike h t x is may =
    let y : TaskSlot = slots.with_task (record x.task { cancellation = WasAsked }) x in
    task_keeps h t x y is (same_task x y refl refl refl refl refl)
    (states_stay t x (record x.task { cancellation = WasAsked })
    (same_open x.task.cancellation WasAsked x.task.resolution x.task.phase (both_so (is_none x.task.resolution) (is_unasked x.task.cancellation) may).0))

asked_keeps : (h : Held) (t : ℕ) (behind : Rest) (free b : Bool) (case : Asked) (x : TaskSlot) → slice_get h.tasks t ≡ Some x → may_cancel x.task ≡ b → cancel_case free x.task ≡ case
    → KeptBy h (after (asked_by (if b then Some case else None) t (if b then slots.with_task (task_cancelled case x.task) x else x) h) (λ c k. cancelled_by c t behind k))
asked_keeps h t behind free false case x is may e = tt
asked_keeps h t behind free true asking.Removed x is may e = removed_keeps h t behind free x is may e
asked_keeps h t behind free true asking.ResumeNow x is may e =
    let y : TaskSlot = slots.with_task (record x.task { cancellation = WasAsked }) x in
    let k : Held = with_task t y h in
    keeps_through h k (after (chained t k) (λ done l. Gives flow.Rests (at_rest rest.Goes l))) (asked_alike h t x is may)
    (keeps_after k (chained t k) (λ done l. Gives flow.Rests (at_rest rest.Goes l)) (chained_keeps t k) (λ done l. keeps_all l (at_rest rest.Goes l) refl refl))
asked_keeps h t behind free true asking.Pending x is may e =
    let y : TaskSlot = slots.with_task (record x.task { cancellation = WasAsked }) x in
    let k : Held = with_task t y h in
    keeps_through h k (Gives flow.Rests (at_rest behind k)) (asked_alike h t x is may) (keeps_all k (at_rest behind k) refl refl)

pub cancelled_keeps : (t : ℕ) (behind : Rest) (h : Held) → KeptBy h (cancelled t behind h)
unfolding cancelled
cancelled_keeps t behind h =
    look_further h (slice_get h.tasks t) (λ x. Gives x.instance h)
    (λ at k. after (entry_is_free at k) (λ free l. given (slice_get l.tasks t) (λ x. asked_by (cancel_answer free x.task) t (cancelled_slot free x) l))) (λ case k. cancelled_by case t behind k)
    (λ z first.
    look_further h (slice_get h.instances z.instance) (λ i. Gives (is_free i.gate) h)
    (λ free l. given (slice_get l.tasks t) (λ x. asked_by (cancel_answer free x.task) t (cancelled_slot free x) l)) (λ case k. cancelled_by case t behind k)
    (λ i there.
    look_keeps h (slice_get h.tasks t) (λ x. asked_by (cancel_answer (is_free i.gate) x.task) t (cancelled_slot (is_free i.gate) x) h) (λ case k. cancelled_by case t behind k)
    (λ x is. asked_keeps h t behind (is_free i.gate) (may_cancel x.task) (cancel_case (is_free i.gate) x.task) x is refl refl)))

subtask_asked_keeps : (t callee canon index : ℕ) (h : Held) → KeptBy h (subtask_asked t callee canon index h)
unfolding subtask_asked
subtask_asked_keeps t callee canon index h =
    keeps_after h (errand_set t (errand.AfterCancel callee canon index) h)
    (λ done k. after (resolved callee k) (λ is_over l. if is_over then Gives flow.Rests (at_rest rest.Back l) else cancelled callee rest.Back l))
    (errand_set_keeps t (errand.AfterCancel callee canon index) h)
    (λ done k.
    keeps_after k (resolved callee k) (λ is_over l. if is_over then Gives flow.Rests (at_rest rest.Back l) else cancelled callee rest.Back l) (resolved_keeps callee k)
    (λ is_over l.
    keeps_if l is_over (Gives flow.Rests (at_rest rest.Back l)) (cancelled callee rest.Back l) (keeps_all l (at_rest rest.Back l) refl refl) (cancelled_keeps callee rest.Back l)))

pub subtask_cancel_keeps : (t at canon : ℕ) (words : List ℕ) (h : Held) → KeptBy h (subtask_cancel t at canon words h)
unfolding subtask_cancel
subtask_cancel_keeps t at canon words h =
    keeps_given h (word_in words 0)
    (λ index. after (subtask_found at index h) (λ callee k. after (delivered callee k) (λ is_delivered l.
    if is_delivered then Traps trap.Delivered l else after (unasked callee l) (λ is_unasked m. if not is_unasked then Traps trap.Asked m else subtask_asked t callee canon index m))))
    (λ index word.
    keeps_after h (subtask_found at index h)
    (λ callee k. after (delivered callee k) (λ is_delivered l.
    if is_delivered then Traps trap.Delivered l else after (unasked callee l) (λ is_unasked m. if not is_unasked then Traps trap.Asked m else subtask_asked t callee canon index m)))
    (subtask_found_keeps at index h)
    (λ callee k.
    keeps_after k (delivered callee k)
    (λ is_delivered l.
    if is_delivered then Traps trap.Delivered l else after (unasked callee l) (λ is_unasked m. if not is_unasked then Traps trap.Asked m else subtask_asked t callee canon index m))
    (delivered_keeps callee k)
    (λ is_delivered l.
    keeps_if l is_delivered (Traps trap.Delivered l) (after (unasked callee l) (λ is_unasked m. if not is_unasked then Traps trap.Asked m else subtask_asked t callee canon index m)) (traps_same l)
    (keeps_after l (unasked callee l) (λ is_unasked m. if not is_unasked then Traps trap.Asked m else subtask_asked t callee canon index m) (unasked_keeps callee l)
    (λ is_unasked m. keeps_if m (not is_unasked) (Traps trap.Asked m) (subtask_asked t callee canon index m) (traps_same m) (subtask_asked_keeps t callee canon index m))))))

-- The subtask that leaves stood at the index.
pub subtask_stands : (o : Option WorldEntry) (callee : ℕ) → subtask_in o ≡ Ok callee → o ≡ Some (entry.Subtask callee)
subtask_stands None callee e = absurd (cc)
subtask_stands (Some (entry.Handle x)) callee e = absurd (cc)
subtask_stands (Some (entry.Subtask other)) callee e = (let same : other ≡ callee = cc in ap (λ (n : ℕ). Some (entry.Subtask n)) same)
subtask_stands (Some (entry.Set set)) callee e = absurd (cc)
subtask_stands (Some (entry.End x)) callee e = absurd (cc)

pub subtask_drop_keeps : (t at : ℕ) (words : List ℕ) (h : Held) → KeptBy h (subtask_drop t at words h)
unfolding subtask_drop
subtask_drop_keeps t at words h =
    keeps_given h (word_in words 0)
    (λ index. after (subtask_found at index h) (λ callee k. after (delivered callee k) (λ is_delivered l.
    if not is_delivered then Traps trap.NotDelivered l else after (set_left at index l) (λ done m. after (entry_removed at index m) (λ done n. got t [] n)))))
    (λ index word.
    look_keeps h (slice_get h.instances at) (λ i. named (subtask_in (entry_of i index)) h)
    (λ callee k. after (delivered callee k) (λ is_delivered l.
    if not is_delivered then Traps trap.NotDelivered l else after (set_left at index l) (λ done m. after (entry_removed at index m) (λ done n. got t [] n))))
    (λ i is.
    found_keeps h (subtask_in (entry_of i index))
    (λ callee k. after (delivered callee k) (λ is_delivered l.
    if not is_delivered then Traps trap.NotDelivered l else after (set_left at index l) (λ done m. after (entry_removed at index m) (λ done n. got t [] n))))
    (λ callee found.
    look_keeps h (slice_get h.tasks callee) (λ x. given (called_of x.caller) (λ called. Gives (is_over called.subtask.told) h))
    (λ is_delivered l. if not is_delivered then Traps trap.NotDelivered l else after (set_left at index l) (λ done m. after (entry_removed at index m) (λ done n. got t [] n)))
    (λ x there.
    look_keeps h (called_of x.caller) (λ called. Gives (is_over called.subtask.told) h)
    (λ is_delivered l. if not is_delivered then Traps trap.NotDelivered l else after (set_left at index l) (λ done m. after (entry_removed at index m) (λ done n. got t [] n)))
    (λ called by.
    keeps_if h (not (is_over called.subtask.told)) (Traps trap.NotDelivered h) (after (set_left at index h) (λ done m. after (entry_removed at index m) (λ done n. got t [] n))) (traps_same h)
    (left_and_gone at index h (λ n. got t [] n)
    (λ j here n. ap (λ (y : InstanceView). is_borrow_of n (entry_of y index)) (some_same (sym here ∙ is)) ∙ ap (is_borrow_of n) (subtask_stands (entry_of i index) callee found))
    (λ n. got_keeps t [] n)))))))
