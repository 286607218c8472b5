-- Cancellation of tasks, and subtasks that leave the table, leave the marks of gates and of sets as they follow from the tasks.
use Rattle.std.proofs.Common.{◌≡◌, Bool, true, false, ◌&&◌, nat_eq, inl, inr, refl, sym, ap, ◌∙◌, Option, Some, None}
use Rattle.std.specs.Prelude.{ℕ, nat_lt, not, if◌then◌else◌, List, [], ◌∷◌, slice_set}
use Rattle.std.specs.List.{slice_get}
use Rattle.std.proofs.lemmas.Bool.{cases_eq}
use Rattle.std.proofs.lemmas.Bool.Decides.{Decides-eqb}
use Rattle.entry_gate.specs.Gates.{is_free, without_wait}
use Rattle.entry_gate.specs.Stays.{Waiting}
use Rattle.entry_gate.specs.declared.kind.Kind.{Kind}
use Rattle.tasks.specs.Tasks.{is_cancellable, is_unasked, state_of, phase_case, cancel_case, may_cancel, cancelled as task_cancelled}
use Rattle.tasks.specs.Subtasks.{is_over}
use Rattle.tasks.specs.declared.event.Asked.{Asked}
use Rattle.tasks.specs.declared.event.Asked.TheVariants as asking
use Rattle.tasks.specs.declared.event.BlockedAt.TheVariants as blocked_at
use Rattle.tasks.specs.declared.phase.Phase.{Phase}
use Rattle.tasks.specs.declared.phase.Phase.TheVariants as phase
use Rattle.tasks.specs.declared.subtask_state.SubtaskState.TheVariants as state
use Rattle.instances.specs.declared.entry.WorldEntry.TheVariants as entry
use Rattle.instances.specs.Entries.{subtask_in}
use Rattle.instances.specs.Instances.{InstanceView, entry_of, with_gate}
use Rattle.task_table.specs.declared.errand.Errand.TheVariants as errand
use Rattle.task_table.specs.declared.slot.TaskSlot.{TaskSlot}
use Rattle.task_table.specs.Callers.{called_of}
use Rattle.task_table.specs.Slots as slots
use Rattle.task_table.specs.Slots.{waits_on, at_errand, cancel_answer, cancelled_slot}
use Rattle.trace_labels.specs.declared.label.Label.TheVariants as line
use Rattle.trace_labels.specs.declared.trap.TrapName.TheVariants as trap
use Rattle.world_parts.specs.declared.parts.Rest.{Rest}
use Rattle.world_parts.specs.declared.parts.Rest.TheVariants as rest
use Rattle.world_parts.specs.declared.parts.Flow.TheVariants as flow
use Rattle.world_parts.specs.Held.{Held, Done, Gives, Traps, Stuck, after, given}
use Rattle.world_parts.specs.Entries.{with_instance, named, subtask_found, entry_removed, set_left}
use Rattle.world_parts.specs.Feed.{told, at_rest, chained, got}
use Rattle.world_parts.specs.Gates.{entry_is_free, gate_unwaited}
use Rattle.world_parts.specs.Slots.{word_in, with_task, asked_by, closed, delivered, raised, resolved, unasked}
use Rattle.world_parts.specs.Subtasks.{removed, cancelled_by, cancelled, subtask_asked, subtask_cancel, subtask_drop}
use Rattle.abi_machine.proofs.sound.Found.{some_same}
use Rattle.standing.specs.KeptMarks.{runs_func, runs_at, place_in}
use Rattle.standing.specs.MarksKept.{WaitsStay, StayBy, CallsIn}
use Rattle.standing.proofs.Agreeing.{get_set}
use Rattle.standing.proofs.Answering.{subtask_there}
use Rattle.standing.proofs.Steps.{other_get}
use Rattle.standing.proofs.marks.Entering.{EndsWait, wait_ends}
use Rattle.standing.proofs.marks.Entries.{subtask_found_stays, entry_removed_stays, set_left_stays}
use Rattle.standing.proofs.marks.Feed.{chained_stays, got_stays, told_stays}
use Rattle.standing.proofs.marks.Inside.{same_seen}
use Rattle.standing.proofs.marks.Slots.{closed_stays, delivered_stays, raised_stays}
use Rattle.standing.proofs.marks.Stays.{look_stays, look_further, found_stays, tested_stays, stays_after, stays_all, stays_given, stays_if, stays_through}
use Rattle.standing.proofs.marks.Tasks.{task_stays}

-- A task that is removed waited to enter.
resumes : (b : Bool) → (if b then asking.ResumeNow else asking.Pending) ≡ asking.Removed → ⊥
resumes true e = cc
resumes false e = cc

record WaitedOutside (p : Phase) : Type 0 where
  place : place_in p ≡ Waiting
  none : (n : ℕ) → waits_on n p ≡ false

removed_waited : (free : Bool) (kind : Kind) (p : Phase) → phase_case free kind p ≡ asking.Removed → WaitedOutside p
removed_waited free kind phase.New e = absurd (cc)
removed_waited free kind phase.Acting e = absurd (cc)
removed_waited free kind (phase.Blocked blocked_at.Entry flag) e = record { place = refl; none = λ n. refl }
removed_waited free kind (phase.Blocked (blocked_at.Loop word) flag) e = absurd (resumes (is_cancellable free kind (blocked_at.Loop word) flag) e)
removed_waited free kind (phase.Blocked blocked_at.Yield flag) e = absurd (resumes (is_cancellable free kind blocked_at.Yield flag) e)
removed_waited free kind (phase.Blocked (blocked_at.Set index) flag) e = absurd (resumes (is_cancellable free kind (blocked_at.Set index) flag) e)
removed_waited free kind (phase.Blocked (blocked_at.Call task) flag) e = absurd (resumes (is_cancellable free kind (blocked_at.Call task) flag) e)
removed_waited free kind (phase.Blocked (blocked_at.Copy index) flag) e = absurd (resumes (is_cancellable free kind (blocked_at.Copy index) flag) e)
removed_waited free kind (phase.Blocked (blocked_at.Cancel index) flag) e = absurd (resumes (is_cancellable free kind (blocked_at.Cancel index) flag) e)
removed_waited free kind phase.Exited e = absurd (cc)

gone : TaskSlot → TaskSlot
gone x = slots.with_task (task_cancelled asking.Removed x.task) x

ends_wait : (free : Bool) (x : TaskSlot) → cancel_case free x.task ≡ asking.Removed → EndsWait x (gone x)
unfolding gone
ends_wait free x e =
    let w : WaitedOutside x.task.phase = removed_waited free x.task.kind x.task.phase e in
    record { at = λ n. refl; before = w.place; now = refl; waited = λ n. w.none n; waits = λ n. refl }

runs_own : (x : TaskSlot) → runs_func x.callee ≡ true → runs_at x.instance x ≡ true
runs_own x runs = both (runs_func x.callee) (nat_eq x.instance x.instance) runs ((Decides-eqb x.instance x.instance).1 refl)
  where
    both : (b c : Bool) → b ≡ true → c ≡ true → (b && c) ≡ true
    both true c e f = f
    both false c e f = absurd (cc)

-- One task fewer waits for entry, and the task is removed.
left_entry : (h : Held) (t : ℕ) (free : Bool) (i : InstanceView) (x y : TaskSlot) → slice_get h.tasks t ≡ Some x → runs_func x.callee ≡ true → cancel_case free x.task ≡ asking.Removed
    → slice_get (slice_set h.tasks t (gone x)) t ≡ Some y → slice_get h.instances y.instance ≡ Some i
    → WaitsStay h (with_instance y.instance (with_gate (without_wait i.gate) i) (with_task t (gone x) h))
unfolding gone
left_entry h t free i x y is runs e found there =
    let same : y.instance ≡ x.instance = ap (λ (s : TaskSlot). s.instance) (some_same (sym found ∙ get_set h.tasks t x (slots.with_task (task_cancelled asking.Removed x.task) x) is)) in
    let here : runs_at y.instance x ≡ true = ap (λ (n : ℕ). runs_at n x) same ∙ runs_own x runs in
    wait_ends h t y.instance i x (slots.with_task (task_cancelled asking.Removed x.task) x) is there here (ends_wait free x e)

told_gone : (t : ℕ) (behind : Rest) (k : Held) → StayBy k
    (after (raised t state.CancelledBeforeStarted k) (λ done m. after (closed t m) (λ done n. after (told (line.Cancelled t) n) (λ done o. after (told (line.Exit t) o) (λ done p.
    Gives flow.Rests (at_rest behind p))))))
told_gone t behind k =
    stays_after k (raised t state.CancelledBeforeStarted k)
    (λ done m. after (closed t m) (λ done n. after (told (line.Cancelled t) n) (λ done o. after (told (line.Exit t) o) (λ done p. Gives flow.Rests (at_rest behind p)))))
    (raised_stays t state.CancelledBeforeStarted k)
    (λ done m.
    stays_after m (closed t m) (λ done n. after (told (line.Cancelled t) n) (λ done o. after (told (line.Exit t) o) (λ done p. Gives flow.Rests (at_rest behind p)))) (closed_stays t m)
    (λ done n.
    stays_after n (told (line.Cancelled t) n) (λ done o. after (told (line.Exit t) o) (λ done p. Gives flow.Rests (at_rest behind p))) (told_stays (line.Cancelled t) n)
    (λ done o.
    stays_after o (told (line.Exit t) o) (λ done p. Gives flow.Rests (at_rest behind p)) (told_stays (line.Exit t) o) (λ done p. stays_all p (at_rest behind p) refl refl))))

removed_stays : (h : Held) (t : ℕ) (behind : Rest) (free : Bool) (x : TaskSlot) → slice_get h.tasks t ≡ Some x → runs_func x.callee ≡ true → cancel_case free x.task ≡ asking.Removed
    → StayBy h (removed t behind (with_task t (gone x) h))
unfolding removed
removed_stays h t behind free x is runs e =
    let k : Held = with_task t (gone x) h in
    look_stays h (slice_get k.tasks t) (λ y. Gives y.instance k)
    (λ at l. after (gate_unwaited at l) (λ done m.
    after (raised t state.CancelledBeforeStarted m) (λ done n. after (closed t n) (λ done o. after (told (line.Cancelled t) o) (λ done p. after (told (line.Exit t) p) (λ done q.
    Gives flow.Rests (at_rest behind q)))))))
    (λ y found.
    look_stays h (slice_get k.instances y.instance)
    (λ i. if nat_lt 0 i.gate.waiting then Gives (tt {0}) (with_instance y.instance (with_gate (without_wait i.gate) i) k) else Stuck)
    (λ done m.
    after (raised t state.CancelledBeforeStarted m) (λ done n. after (closed t n) (λ done o. after (told (line.Cancelled t) o) (λ done p. after (told (line.Exit t) p) (λ done q.
    Gives flow.Rests (at_rest behind q))))))
    (λ i there.
    tested_stays h (nat_lt 0 i.gate.waiting) (Gives (tt {0}) (with_instance y.instance (with_gate (without_wait i.gate) i) k))
    (λ done m.
    after (raised t state.CancelledBeforeStarted m) (λ done n. after (closed t n) (λ done o. after (told (line.Cancelled t) o) (λ done p. after (told (line.Exit t) p) (λ done q.
    Gives flow.Rests (at_rest behind q))))))
    (λ waited.
    let m : Held = with_instance y.instance (with_gate (without_wait i.gate) i) k in
    stays_through h m
    (after (raised t state.CancelledBeforeStarted m) (λ done n. after (closed t n) (λ done o. after (told (line.Cancelled t) o) (λ done p. after (told (line.Exit t) p) (λ done q.
    Gives flow.Rests (at_rest behind q))))))
    (left_entry h t free i x y is runs e found there) (told_gone t behind m))))

-- What comes of a cancellation that is asked.
asked_stays : (h : Held) (t : ℕ) (behind : Rest) (free b : Bool) (case : Asked) (x : TaskSlot) → slice_get h.tasks t ≡ Some x → runs_func x.callee ≡ true → cancel_case free x.task ≡ case
    → StayBy h (after (asked_by (if b then Some case else None) t (if b then slots.with_task (task_cancelled case x.task) x else x) h) (λ c k. cancelled_by c t behind k))
unfolding gone
asked_stays h t behind free false case x is runs e = tt
asked_stays h t behind free true asking.Removed x is runs e = removed_stays h t behind free x is runs e
asked_stays h t behind free true asking.ResumeNow x is runs e =
    let y : TaskSlot = slots.with_task (task_cancelled asking.ResumeNow x.task) x in
    let k : Held = with_task t y h in
    stays_through h k (after (chained t k) (λ done l. Gives flow.Rests (at_rest rest.Goes l))) (task_stays h t x y is (same_seen x y refl refl refl refl))
    (stays_after k (chained t k) (λ done l. Gives flow.Rests (at_rest rest.Goes l)) (chained_stays t k) (λ done l. stays_all l (at_rest rest.Goes l) refl refl))
asked_stays h t behind free true asking.Pending x is runs e =
    let y : TaskSlot = slots.with_task (task_cancelled asking.Pending x.task) x in
    let k : Held = with_task t y h in
    stays_through h k (Gives flow.Rests (at_rest behind k)) (task_stays h t x y is (same_seen x y refl refl refl refl)) (stays_all k (at_rest behind k) refl refl)

pub cancelled_stays : (t : ℕ) (behind : Rest) (h : Held) → ((x : TaskSlot) → slice_get h.tasks t ≡ Some x → runs_func x.callee ≡ true) → StayBy h (cancelled t behind h)
unfolding cancelled
cancelled_stays t behind h runs =
    look_further h (slice_get h.tasks t) (λ x. Gives x.instance h)
    (λ at k. after (entry_is_free at k) (λ free l. given (slice_get l.tasks t) (λ x. asked_by (cancel_answer free x.task) t (cancelled_slot free x) l))) (λ case k. cancelled_by case t behind k)
    (λ z first.
    look_further h (slice_get h.instances z.instance) (λ i. Gives (is_free i.gate) h)
    (λ free l. given (slice_get l.tasks t) (λ x. asked_by (cancel_answer free x.task) t (cancelled_slot free x) l)) (λ case k. cancelled_by case t behind k)
    (λ i there.
    look_stays h (slice_get h.tasks t) (λ x. asked_by (cancel_answer (is_free i.gate) x.task) t (cancelled_slot (is_free i.gate) x) h) (λ case k. cancelled_by case t behind k)
    (λ x is. asked_stays h t behind (is_free i.gate) (may_cancel x.task) (cancel_case (is_free i.gate) x.task) x is (runs x is) refl)))

-- The task that asks for it is another one, and the one that is cancelled runs what it ran.
same_callee : (tasks : List TaskSlot) (t callee : ℕ) (x y z : TaskSlot) → slice_get tasks t ≡ Some x → y.callee ≡ x.callee → slice_get (slice_set tasks t y) callee ≡ Some z
    → ((s : TaskSlot) → slice_get tasks callee ≡ Some s → runs_func s.callee ≡ true) → runs_func z.callee ≡ true
same_callee tasks t callee x y z is same found runs =
    elim (cases_eq callee t) [
      | inl e ↦
          let now : z ≡ y = some_same (sym found ∙ ap (λ (n : ℕ). slice_get (slice_set tasks t y) n) e ∙ get_set tasks t x y is) in
          ap (λ (s : TaskSlot). runs_func s.callee) now ∙ ap runs_func same ∙ runs x (ap (λ (n : ℕ). slice_get tasks n) e ∙ is)
      | inr e ↦ runs z (sym (other_get tasks t callee y e) ∙ found)
    ]

subtask_asked_stays : (t callee canon index : ℕ) (h : Held) → ((x : TaskSlot) → slice_get h.tasks callee ≡ Some x → runs_func x.callee ≡ true)
    → StayBy h (subtask_asked t callee canon index h)
unfolding subtask_asked
subtask_asked_stays t callee canon index h runs =
    look_stays h (slice_get h.tasks t) (λ x. Gives (tt {0}) (with_task t (at_errand (errand.AfterCancel callee canon index) x) h))
    (λ done k. after (resolved callee k) (λ is_over l. if is_over then Gives flow.Rests (at_rest rest.Back l) else cancelled callee rest.Back l))
    (λ x is.
    let y : TaskSlot = at_errand (errand.AfterCancel callee canon index) x in
    let k : Held = with_task t y h in
    stays_through h k (after (resolved callee k) (λ is_over l. if is_over then Gives flow.Rests (at_rest rest.Back l) else cancelled callee rest.Back l))
    (task_stays h t x y is (same_seen x y refl refl refl refl))
    (look_stays k (slice_get k.tasks callee) (λ z. Gives (is_over (state_of z.task)) k)
    (λ is_over l. if is_over then Gives flow.Rests (at_rest rest.Back l) else cancelled callee rest.Back l)
    (λ z there.
    stays_if k (is_over (state_of z.task)) (Gives flow.Rests (at_rest rest.Back k)) (cancelled callee rest.Back k) (stays_all k (at_rest rest.Back k) refl refl)
    (cancelled_stays callee rest.Back k (λ s found. same_callee h.tasks t callee x y s is refl found runs)))))

undelivered_stays : (t callee canon index : ℕ) (h : Held) (b : Bool) → ((x : TaskSlot) → slice_get h.tasks callee ≡ Some x → runs_func x.callee ≡ true)
    → StayBy h (if b then Traps trap.Delivered h else after (unasked callee h) (λ is_unasked m. if not is_unasked then Traps trap.Asked m else subtask_asked t callee canon index m))
undelivered_stays t callee canon index h b runs =
    stays_if h b (Traps trap.Delivered h) (after (unasked callee h) (λ is_unasked m. if not is_unasked then Traps trap.Asked m else subtask_asked t callee canon index m)) tt
    (look_stays h (slice_get h.tasks callee) (λ x. Gives (is_unasked x.task.cancellation) h)
    (λ is_unasked m. if not is_unasked then Traps trap.Asked m else subtask_asked t callee canon index m)
    (λ x is. stays_if h (not (is_unasked x.task.cancellation)) (Traps trap.Asked h) (subtask_asked t callee canon index h) tt (subtask_asked_stays t callee canon index h runs)))

pub subtask_cancel_stays : (t at canon : ℕ) (words : List ℕ) (h : Held) → CallsIn h t at → StayBy h (subtask_cancel t at canon words h)
unfolding subtask_cancel
subtask_cancel_stays t at canon words h own =
    stays_given h (word_in words 0)
    (λ index. after (subtask_found at index h) (λ callee k. after (delivered callee k) (λ is_delivered l.
    if is_delivered then Traps trap.Delivered l else after (unasked callee l) (λ is_unasked m. if not is_unasked then Traps trap.Asked m else subtask_asked t callee canon index m))))
    (λ index first.
    look_stays h (slice_get h.instances at) (λ i. named (subtask_in (entry_of i index)) h)
    (λ callee k. after (delivered callee k) (λ is_delivered l.
    if is_delivered then Traps trap.Delivered l else after (unasked callee l) (λ is_unasked m. if not is_unasked then Traps trap.Asked m else subtask_asked t callee canon index m)))
    (λ i is.
    found_stays h (subtask_in (entry_of i index))
    (λ callee k. after (delivered callee k) (λ is_delivered l.
    if is_delivered then Traps trap.Delivered l else after (unasked callee l) (λ is_unasked m. if not is_unasked then Traps trap.Asked m else subtask_asked t callee canon index m)))
    (λ callee found.
    look_stays h (slice_get h.tasks callee) (λ x. given (called_of x.caller) (λ called. Gives (is_over called.subtask.told) h))
    (λ is_delivered l.
    if is_delivered then Traps trap.Delivered l else after (unasked callee l) (λ is_unasked m. if not is_unasked then Traps trap.Asked m else subtask_asked t callee canon index m))
    (λ x there.
    look_stays h (called_of x.caller) (λ called. Gives (is_over called.subtask.told) h)
    (λ is_delivered l.
    if is_delivered then Traps trap.Delivered l else after (unasked callee l) (λ is_unasked m. if not is_unasked then Traps trap.Asked m else subtask_asked t callee canon index m))
    (λ called by.
    undelivered_stays t callee canon index h (is_over called.subtask.told)
    (λ s now. own.subtasks i index callee s is (subtask_there (entry_of i index) callee found) now))))))

pub subtask_drop_stays : (t : ℕ) (at : ℕ) (words : List ℕ) (h : Held) → StayBy h (subtask_drop t at words h)
unfolding subtask_drop
subtask_drop_stays t at words h =
    stays_given h (word_in words 0) (λ index. after (subtask_found at index h) (λ callee k. after (delivered callee k) (λ is_delivered l. if not is_delivered then Traps trap.NotDelivered l else after (set_left at index l) (λ done m. after (entry_removed at index m) (λ done n. got t [] n))))) (λ index is. stays_after h (subtask_found at index h) (λ callee k. after (delivered callee k) (λ is_delivered l. if not is_delivered then Traps trap.NotDelivered l else after (set_left at index l) (λ done m. after (entry_removed at index m) (λ done n. got t [] n)))) (subtask_found_stays at index h) (λ callee k. stays_after k (delivered callee k) (λ is_delivered l. if not is_delivered then Traps trap.NotDelivered l else after (set_left at index l) (λ done m. after (entry_removed at index m) (λ done n. got t [] n))) (delivered_stays callee k) (λ is_delivered l. stays_if l (not is_delivered) (Traps trap.NotDelivered l) (after (set_left at index l) (λ done m. after (entry_removed at index m) (λ done n. got t [] n))) tt (stays_after l (set_left at index l) (λ done m. after (entry_removed at index m) (λ done n. got t [] n)) (set_left_stays at index l) (λ done m. stays_after m (entry_removed at index m) (λ done n. got t [] n) (entry_removed_stays at index m) (λ done n. got_stays t [] n))))))
