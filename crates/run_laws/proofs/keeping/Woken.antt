-- A task that goes on in a built-in, behind a yield, a wait on a set, a call or a copy, keeps all marks.
use Rattle.std.proofs.Common.{◌≡◌, inl, inr, ℕ, zero, suc, ◌+◌, nat_eq, Bool, true, false, ◌&&◌, if◌then◌else◌, List, [], ◌∷◌, length, slice_set, refl, sym, ap, ◌∙◌, subst, Option, Some, None}
use Rattle.std.specs.List.{slice_get}
use Rattle.std.proofs.lemmas.Bool.{cases_eq, ne_eqb, ltb-true}
use Rattle.entry_gate.specs.Gates.{GateView}
use Rattle.entry_gate.specs.Stays.{Inside}
use Rattle.waitables.specs.Sets.{set_at, waited_off}
use Rattle.tasks.specs.declared.event.BlockedAt.{BlockedAt}
use Rattle.tasks.specs.declared.event.BlockedAt.TheVariants as blocked_at
use Rattle.tasks.specs.declared.event.TaskEvent.TheVariants as event
use Rattle.tasks.specs.declared.phase.Phase.TheVariants as phase
use Rattle.tasks.specs.Tasks as tasks
use Rattle.tasks.specs.Tasks.{is_asked, waits_inside}
use Rattle.instances.specs.declared.entry.EndEntry.{EndEntry}
use Rattle.instances.specs.declared.entry.WorldEntry.{WorldEntry}
use Rattle.instances.specs.declared.entry.WorldEntry.TheVariants as entry
use Rattle.instances.specs.Calls.{is_there, has_waiter}
use Rattle.instances.specs.Instances.{InstanceView, entry_of, with_sets}
use Rattle.task_table.specs.declared.errand.Errand.TheVariants as errand
use Rattle.task_table.specs.declared.slot.TaskSlot.{TaskSlot}
use Rattle.task_table.specs.Callers.{called_of}
use Rattle.task_table.specs.Slots as slots
use Rattle.task_table.specs.Slots.{event_answer, advanced_slot, at_errand, is_to_be_told, waits_on, waits_directly_at}
use Rattle.world_parts.specs.Held.{Held, Gives, Stuck, after, given}
use Rattle.world_parts.specs.Feed.{got}
use Rattle.world_parts.specs.Entries.{with_instance, set_number, set_waited_off}
use Rattle.world_parts.specs.Slots.{with_task}
use Rattle.world_parts.specs.Calls.{subtask_told}
use Rattle.world_parts.specs.Events.{end_told}
use Rattle.world_parts.specs.Plain.{yield_cancelled}
use Rattle.world_parts.specs.Going.{yield_resumed, set_flow, set_resumed, call_resumed, copy_resumed_of, copy_resumed}
use Rattle.abi_machine.proofs.sound.Found.{some_same}
use Rattle.standing.specs.KeptMarks.{runs_func, place_in, place_blocked}
use Rattle.standing.specs.MarksKept.{StandOnce}
use Rattle.standing.specs.Marks.{StateMarked}
use Rattle.standing.proofs.Agreeing.{get_set}
use Rattle.standing.proofs.States.{states_stay, going_stays}
use Rattle.standing.proofs.marks.Calls.{subtask_told_stays}
use Rattle.standing.proofs.marks.Events.{end_told_stays}
use Rattle.standing.proofs.marks.Feed.{got_stays}
use Rattle.standing.proofs.marks.Plain.{yield_cancelled_stays}
use Rattle.standing.proofs.marks.Stays.{stays_after}
use Rattle.run_laws.specs.keeping.Kept.{MarksStay, KeepsMarks, CalledFrom, ToldGaveBack, AskedAreOpen}
use Rattle.run_laws.proofs.keeping.Others.{OthersMarked, keeps_after}
use Rattle.run_laws.proofs.keeping.Every.{all_by, every_if, every_through, look_every, tested_every, at_every}
use Rattle.run_laws.proofs.keeping.Sums.{set_either}
use Rattle.run_laws.proofs.keeping.Changes.{TaskAlike, lends_alike, borrows_alike, awaited_stands, states_alike, waits_there, waits_not, waits_elsewhere}
use Rattle.run_laws.proofs.keeping.Alike.{IsIndirect, indirect_not, waits_alike, set_twice}
use Rattle.run_laws.proofs.keeping.Told.{runs_not, subtask_told_keeps}
use Rattle.run_laws.proofs.keeping.Carried.{from_task, gave_task}
use Rattle.run_laws.proofs.keeping.Entry.{GateSeen}
use Rattle.run_laws.proofs.keeping.GateSteps.{stays_in}
use Rattle.run_laws.proofs.keeping.OnSets.{counts_at, counts_not, counts_there, ceases_on}
use Rattle.run_laws.proofs.keeping.Moves.{Move, alike_marks, moved_marks}
use Rattle.run_laws.proofs.keeping.Going.{runs_own, none_counted}
use Rattle.run_laws.proofs.keeping.Resumed.{set_of, both_so}
use Rattle.run_laws.proofs.keeping.parts.Events.{end_told_keeps}
use Rattle.run_laws.proofs.keeping.parts.Feed.{got_keeps}
use Rattle.run_laws.proofs.keeping.parts.Plain.{yield_cancelled_keeps}
use Rattle.run_laws.proofs.keeping.parts.Reads.{NoSubtask}

-- A task that is blocked in a built-in.
pub record InBuiltin (h : Held) (t : ℕ) (why : BlockedAt) (x : TaskSlot) (i : InstanceView) : Type 0 where
  pub flag : Bool
  pub is : slice_get h.tasks t ≡ Some x
  pub here : slice_get h.instances x.instance ≡ Some i
  pub runs : runs_func x.callee ≡ true
  pub far : x.task.phase ≡ phase.Blocked why flag
  pub inside : place_blocked why ≡ Inside
  pub entered : waits_inside (phase.Blocked why flag) ≡ true

-- It acts again, and is at nothing else.
unfoldable pub woken : TaskSlot → TaskSlot
woken x = at_errand errand.None (slots.with_task (tasks.after event.Go x.task) x)

pub set_back : {A : Type 0} (xs : List A) (n : ℕ) (x : A) → slice_get xs n ≡ Some x → slice_set xs n x ≡ xs
set_back [] n x e = refl
set_back (y ∷ xs) zero x e = ap (λ z. z ∷ xs) (sym (some_same e))
set_back (y ∷ xs) (suc n) x e = ap (λ ys. y ∷ ys) (set_back xs n x e)

pub move_in : (h : Held) (t : ℕ) (why : BlockedAt) (x : TaskSlot) (i j : InstanceView) → InBuiltin h t why x i → j.gate ≡ i.gate → j.slots ≡ i.slots
    → ((index set : ℕ) → entry_of i index ≡ Some (entry.Set set)
    → (set_at j.sets set).waiters + counts_at x.instance index x ≡ (set_at i.sets set).waiters + counts_at x.instance index (woken x)) → Move h t x.instance x (woken x) i j
unfolding woken
move_in h t why x i j b gate slots_are sets =
    let y : TaskSlot = at_errand errand.None (slots.with_task (tasks.after event.Go x.task) x) in
    record {
      is = b.is;
      here = b.here;
      runs = runs_own x b.runs;
      same = λ n. refl;
      gate = λ seen.
          subst (λ (g : GateView). GateSeen (slice_set h.tasks t y) x.instance g) (sym gate)
          (stays_in h.tasks t x.instance x y i.gate (record { is = b.is; runs = runs_own x b.runs; still = runs_own x b.runs; kind = refl; was = ap place_in b.far ∙ b.inside; place = refl }) seen);
      slots = slots_are;
      sets = λ index set stood marked. sets index set stood;
    }

pub woken_state : (h : Held) (t : ℕ) (why : BlockedAt) (x : TaskSlot) (i : InstanceView) → InBuiltin h t why x i → StateMarked t x → StateMarked t (woken x)
unfolding woken
woken_state h t why x i b = states_stay t x (tasks.after event.Go x.task) (going_stays x.task (ap waits_inside b.far ∙ b.entered))

pub woken_counts : (at index : ℕ) (x : TaskSlot) → counts_at at index (woken x) ≡ 0
unfolding woken
woken_counts at index x = counts_not at index (at_errand errand.None (slots.with_task (tasks.after event.Go x.task) x)) refl

-- Where it waited neither on a set nor directly, nothing else is to be done.
indirect_alike : (h : Held) (t : ℕ) (why : BlockedAt) (x : TaskSlot) (i : InstanceView) → InBuiltin h t why x i → IsIndirect why → TaskAlike x (woken x)
unfolding woken
indirect_alike h t why x i b q =
    waits_alike x (at_errand errand.None (slots.with_task (tasks.after event.Go x.task) x)) refl refl refl refl (λ index. sym (ap (waits_directly_at index) b.far ∙ indirect_not index why q))

pub woken_marks : (h k : Held) (t : ℕ) (why : BlockedAt) (x : TaskSlot) (i : InstanceView) (b : InBuiltin h t why x i) → IsIndirect why
    → ((index : ℕ) → waits_on index (phase.Blocked why b.flag) ≡ false) → k.tasks ≡ slice_set h.tasks t (woken x) → k.instances ≡ h.instances → MarksStay h k
woken_marks h k t why x i b q none tasks_are insts_are =
    alike_marks h k t x.instance x (woken x) i i
    (move_in h t why x i i b refl refl (λ index set stood. none_counted _ (counts_not x.instance index x (ap (waits_on index) b.far ∙ none index)) (woken_counts x.instance index x)))
    tasks_are (insts_are ∙ sym (set_back h.instances x.instance i b.here)) (indirect_alike h t why x i b q) (woken_state h t why x i b)

-- What is kept once it goes on.
unfoldable pub woken_held : (h : Held) (t : ℕ) (x : TaskSlot) → Held
woken_held h t x = with_task t (woken x) (with_task t (slots.with_task (tasks.after event.Go x.task) x) h)

pub woken_tasks : (h : Held) (t : ℕ) (x : TaskSlot) → (woken_held h t x).tasks ≡ slice_set h.tasks t (woken x)
unfolding woken_held
woken_tasks h t x = set_twice h.tasks t (slots.with_task (tasks.after event.Go x.task) x) (woken x)

pub woken_instances : (h : Held) (t : ℕ) (x : TaskSlot) → (woken_held h t x).instances ≡ h.instances
unfolding woken_held
woken_instances h t x = refl

-- What was cancelled is so still.
asked_woken : (h k : Held) (t : ℕ) (x : TaskSlot) → slice_get h.tasks t ≡ Some x → k.tasks ≡ slice_set h.tasks t (woken x) → AskedAreOpen h → AskedAreOpen k
unfolding woken
asked_woken h k t x is same still n slot found resolved =
    elim (set_either h.tasks t (at_errand errand.None (slots.with_task (tasks.after event.Go x.task) x)) n slot (ap (λ (ts : List TaskSlot). slice_get ts n) (sym same) ∙ found)) [
      | inl new ↦ ap (λ (s : TaskSlot). is_asked s.task.cancellation) new.1 ∙ still t x is (ap (λ (s : TaskSlot). s.task.resolution) (sym new.1) ∙ resolved)
      | inr old ↦ still n slot old resolved
    ]

-- Behind a yield.
pub yields_on_marks : (h : Held) (t : ℕ) (told_so : Bool) (x : TaskSlot) (i : InstanceView) → InBuiltin h t blocked_at.Yield x i → AskedAreOpen h
    → KeepsMarks h (yield_resumed t told_so (woken_held h t x))
unfolding yield_resumed
yields_on_marks h t told_so x i b still =
    let k : Held = woken_held h t x in
    every_through h k (if told_so then yield_cancelled t k else got t (0 ∷ []) k)
    (woken_marks h k t blocked_at.Yield x i b tt (λ index. refl) (woken_tasks h t x) (woken_instances h t x))
    (every_if k told_so (yield_cancelled t k) (got t (0 ∷ []) k)
    (all_by k (yield_cancelled t k) (yield_cancelled_stays t k) (yield_cancelled_keeps t k (asked_woken h k t x b.is (woken_tasks h t x) still)))
    (all_by k (got t (0 ∷ []) k) (got_stays t (0 ∷ []) k) (got_keeps t (0 ∷ []) k)))

-- Behind a wait on a set.
pub set_on_marks : (h : Held) (t canon : ℕ) (told_so : Bool) (index place : ℕ) (x : TaskSlot) (i : InstanceView) → InBuiltin h t (blocked_at.Set index) x i → StandOnce i
    → KeepsMarks h (set_resumed x.instance canon told_so index place (woken_held h t x))
unfolding set_resumed
set_on_marks h t canon told_so index place x i b once =
    let k : Held = woken_held h t x in
    let there : slice_get k.instances x.instance ≡ Some i = ap (λ (is : List InstanceView). slice_get is x.instance) (woken_instances h t x) ∙ b.here in
    at_every h (slice_get k.instances x.instance) i (λ j. given (set_number (entry_of j index)) (λ set. Gives set k))
    (λ set l. after (set_waited_off x.instance set l) (λ done m. Gives (set_flow told_so canon place set) m)) there
    (look_every h (set_number (entry_of i index)) (λ set. Gives set k) (λ set l. after (set_waited_off x.instance set l) (λ done m. Gives (set_flow told_so canon place set) m))
    (λ set found.
    at_every h (slice_get k.instances x.instance) i
    (λ j. if is_there set j.sets && has_waiter set j.sets then Gives tt (with_instance x.instance (with_sets (waited_off set j.sets) j) k) else Stuck)
    (λ done m. Gives (set_flow told_so canon place set) m) there
    (tested_every h (is_there set i.sets && has_waiter set i.sets) (Gives tt (with_instance x.instance (with_sets (waited_off set i.sets) i) k)) (λ done m. Gives (set_flow told_so canon place set) m)
    (λ may.
    let j : InstanceView = with_sets (waited_off set i.sets) i in
    let both : (is_there set i.sets ≡ true) × (has_waiter set i.sets ≡ true) = both_so (is_there set i.sets) (has_waiter set i.sets) may in
    alike_marks h (with_instance x.instance j k) t x.instance x (woken x) i j
    (move_in h t (blocked_at.Set index) x i j b refl refl
    (λ n number stood.
    ceases_on i x.instance index set x (woken x) (ltb-true set (length i.sets) both.0) (set_of (entry_of i index) set found) once (ltb-true 0 ((set_at i.sets set).waiters) both.1)
    (λ m. counts_there x.instance m x (nat_eq index m) (runs_own x b.runs) (ap (waits_on m) b.far)) (λ m. woken_counts x.instance m x) n number stood))
    (woken_tasks h t x) (ap (λ (is : List InstanceView). slice_set is x.instance j) (woken_instances h t x)) (indirect_alike h t (blocked_at.Set index) x i b tt)
    (woken_state h t (blocked_at.Set index) x i b)))))

-- Behind a call that has resolved: its caller, which is this task's instance, is told.
pub from_woken : (h : Held) (t at callee : ℕ) (x : TaskSlot) → slice_get h.tasks t ≡ Some x → CalledFrom h at callee → CalledFrom (woken_held h t x) at callee
unfolding woken_held woken
from_woken h t at callee x is from =
    let y : TaskSlot = slots.with_task (tasks.after event.Go x.task) x in
    from_task (with_task t y h) t at callee y (at_errand errand.None y) (get_set h.tasks t x y is) refl refl (from_task h t at callee x y is refl refl from)

pub gave_woken : (h : Held) (t : ℕ) (x : TaskSlot) → slice_get h.tasks t ≡ Some x → ToldGaveBack h → ToldGaveBack (woken_held h t x)
unfolding woken_held woken
gave_woken h t x is gave =
    let y : TaskSlot = slots.with_task (tasks.after event.Go x.task) x in
    gave_task (with_task t y h) t y (at_errand errand.None y) (get_set h.tasks t x y is) refl (gave_task h t x y is refl gave)

pub call_on_marks : (h : Held) (t at callee : ℕ) (x : TaskSlot) (i : InstanceView) → InBuiltin h t (blocked_at.Call callee) x i → CalledFrom h at callee → ToldGaveBack h
    → KeepsMarks h (call_resumed t at callee (woken_held h t x))
unfolding call_resumed
call_on_marks h t at callee x i b from gave =
    let k : Held = woken_held h t x in
    every_through h k (call_resumed t at callee k) (woken_marks h k t (blocked_at.Call callee) x i b tt (λ index. refl) (woken_tasks h t x) (woken_instances h t x))
    (look_every k (slice_get k.tasks callee) (λ y. given (called_of y.caller) (λ called. Gives called.result k)) (λ words l. after (subtask_told at callee l) (λ payload m. got t words m))
    (λ y there.
    look_every k (called_of y.caller) (λ called. Gives called.result k) (λ words l. after (subtask_told at callee l) (λ payload m. got t words m))
    (λ called by.
    all_by k (after (subtask_told at callee k) (λ payload m. got t called.result m))
    (stays_after k (subtask_told at callee k) (λ payload m. got t called.result m) (subtask_told_stays at callee k) (λ payload m. got_stays t called.result m))
    (keeps_after k (subtask_told at callee k) (λ payload m. got t called.result m) (subtask_told_keeps at callee k (from_woken h t at callee x b.is from) (gave_woken h t x b.is gave))
    (λ payload m. got_keeps t called.result m)))))

-- Behind a copy: it waited at the index of an end, where no subtask stands.
copy_as : (h : Held) (t index : ℕ) (x : TaskSlot) (i : InstanceView) → InBuiltin h t (blocked_at.Copy index) x i → NoSubtask h x.instance index
    → (n m callee : ℕ) (j : InstanceView) → slice_get h.instances n ≡ Some j → entry_of j m ≡ Some (entry.Subtask callee) → waits_there n m (woken x) ≡ waits_there n m x
unfolding woken
copy_as h t index x i b none n m callee j here stood =
    let y : TaskSlot = at_errand errand.None (slots.with_task (tasks.after event.Go x.task) x) in
    elim (cases_eq n x.instance) [
      | inl e ↦ elim (cases_eq m index) [
        | inl f ↦ absurd (none callee j (ap (λ (k : ℕ). slice_get h.instances k) (sym e) ∙ here) (ap (λ (k : ℕ). entry_of j k) (sym f) ∙ stood))
        | inr f ↦ waits_not n m y refl ∙ sym (waits_not n m x (ap (waits_directly_at m) b.far ∙ ne_eqb index m (λ g. f (sym g))))
      ]
      | inr other ↦ waits_elsewhere n m y (runs_not x.instance n x (runs_own x b.runs) other) ∙ sym (waits_elsewhere n m x (runs_not x.instance n x (runs_own x b.runs) other))
    ]

copy_woken : (h : Held) (t index : ℕ) (x : TaskSlot) (i : InstanceView) → InBuiltin h t (blocked_at.Copy index) x i → NoSubtask h x.instance index → MarksStay h (woken_held h t x)
unfolding woken
copy_woken h t index x i b none =
    let k : Held = woken_held h t x in
    moved_marks h k t x.instance x (woken x) i i
    (move_in h t (blocked_at.Copy index) x i i b refl refl (λ n set stood. none_counted _ (counts_not x.instance n x (ap (waits_on n) b.far)) (woken_counts x.instance n x)))
    (woken_tasks h t x) (woken_instances h t x ∙ sym (set_back h.instances x.instance i b.here))
    (λ marks.
    subst (λ (ts : List TaskSlot). OthersMarked k.instances ts) (sym (woken_tasks h t x))
    (subst (λ (is : List InstanceView). OthersMarked is (slice_set h.tasks t (woken x))) (sym (woken_instances h t x))
    (record {
      lends = lends_alike h.instances h.tasks t x (woken x) b.is (λ n. refl) (λ p n. refl) marks.lends;
      borrows = borrows_alike h.instances h.tasks t x (woken x) b.is refl marks.borrows;
      awaited = awaited_stands h.instances h.tasks t x (woken x) b.is (λ called e. (called, e, refl)) (λ n m callee j here stood. copy_as h t index x i b none n m callee j here stood) marks.awaited;
      states = states_alike h.tasks t x (woken x) b.is (woken_state h t (blocked_at.Copy index) x i b) marks.states;
    })))

copy_by : (h k : Held) (t at index : ℕ) (o : Option WorldEntry) → ((e : EndEntry) → o ≡ Some (entry.End e) → MarksStay h k) → KeepsMarks h (copy_resumed_of t at index o k)
copy_by h k t at index None p = tt
copy_by h k t at index (Some (entry.Handle x)) p = tt
copy_by h k t at index (Some (entry.Subtask callee)) p = tt
copy_by h k t at index (Some (entry.Set set)) p = tt
copy_by h k t at index (Some (entry.End e)) p =
    every_through h k (after (end_told at index e k) (λ payload l. got t (payload ∷ []) l)) (p e refl)
    (all_by k (after (end_told at index e k) (λ payload l. got t (payload ∷ []) l))
    (stays_after k (end_told at index e k) (λ payload l. got t (payload ∷ []) l) (end_told_stays at index e k) (λ payload l. got_stays t (payload ∷ []) l))
    (keeps_after k (end_told at index e k) (λ payload l. got t (payload ∷ []) l) (end_told_keeps at index e k) (λ payload l. got_keeps t (payload ∷ []) l)))

pub copy_on_marks : (h : Held) (t index : ℕ) (x : TaskSlot) (i : InstanceView) → InBuiltin h t (blocked_at.Copy index) x i → KeepsMarks h (copy_resumed t x.instance index (woken_held h t x))
unfolding copy_resumed
copy_on_marks h t index x i b =
    let k : Held = woken_held h t x in
    look_every h (slice_get k.instances x.instance) (λ j. Gives (entry_of j index) k) (λ found l. copy_resumed_of t x.instance index found l)
    (λ j there.
    copy_by h k t x.instance index (entry_of j index)
    (λ e stands.
    copy_woken h t index x i b
    (λ callee n here stood.
    let same : n ≡ j = some_same (sym here ∙ ap (λ (is : List InstanceView). slice_get is x.instance) (sym (woken_instances h t x)) ∙ there) in
    let both : entry.End e ≡ entry.Subtask callee = some_same (sym stands ∙ ap (λ (y : InstanceView). entry_of y index) (sym same) ∙ stood) in
    cc)))
