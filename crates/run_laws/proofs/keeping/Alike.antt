-- Tasks that differ in what no mark sees of them, and what happens to a task.
use Rattle.std.proofs.Common.{◌≡◌, ℕ, zero, suc, nat_eq, Bool, true, false, ◌&&◌, if◌then◌else◌, List, [], ◌∷◌, slice_set, refl, sym, ap, ◌∙◌, Option, Some, None}
use Rattle.std.specs.Prelude.{Err}
use Rattle.std.specs.List.{slice_get, count_by}
use Rattle.tasks.specs.declared.event.BlockedAt.{BlockedAt}
use Rattle.tasks.specs.declared.event.BlockedAt.TheVariants as blocked_at
use Rattle.tasks.specs.declared.event.TaskEvent.{TaskEvent}
use Rattle.tasks.specs.declared.event.TaskEvent.TheVariants as event
use Rattle.tasks.specs.declared.event.TaskTrap.{TaskTrap}
use Rattle.tasks.specs.declared.phase.Phase.{Phase}
use Rattle.tasks.specs.declared.phase.Phase.TheVariants as phase
use Rattle.tasks.specs.declared.subtask_state.SubtaskState.{SubtaskState}
use Rattle.tasks.specs.Subtasks.{has_event, follows}
use Rattle.tasks.specs.Subtasks as subtasks
use Rattle.tasks.specs.Tasks as tasks
use Rattle.tasks.specs.Tasks.{is_acting, is_entry, waits_inside, may_happen, fault, unless, state_of}
use Rattle.tasks.specs.Views.{TaskView}
use Rattle.task_table.specs.declared.caller.Called.{Called}
use Rattle.task_table.specs.declared.caller.Caller.{Caller}
use Rattle.task_table.specs.declared.caller.Caller.TheVariants.{Nobody, Host, Guest}
use Rattle.task_table.specs.declared.errand.Callee.{Callee}
use Rattle.task_table.specs.declared.refusal.EventError.TheVariants as event_error
use Rattle.task_table.specs.declared.slot.TaskSlot.{TaskSlot}
use Rattle.task_table.specs.Callers as callers
use Rattle.task_table.specs.Callers.{called_of, changed, may_raise}
use Rattle.task_table.specs.Slots as slots
use Rattle.task_table.specs.Slots.{trapped, event_answer, advanced_slot, waits_directly_at, blocks_directly_at, with_called, raised_slot, kept_slot}
use Rattle.world_parts.specs.Held.{Held, Done, after}
use Rattle.world_parts.specs.Slots.{with_task, happened}
use Rattle.standing.specs.KeptMarks.{runs_func, runs_at, lends_by}
use Rattle.standing.specs.Marks.{StateMarked}
use Rattle.standing.proofs.States.{states_stay, blocked_stays}
use Rattle.run_laws.proofs.keeping.Others.{Keeps, KeptBy, keeps_all, keeps_further, TaskTraps, TaskTraps}
use Rattle.run_laws.proofs.keeping.Changes.{TaskAlike, task_keeps}

runs_same : (x y : TaskSlot) → y.instance ≡ x.instance → y.callee ≡ x.callee → (n : ℕ) → runs_at n y ≡ runs_at n x
runs_same x y at callee n = ap (λ (c : Callee). runs_func c && nat_eq y.instance n) callee ∙ ap (λ (k : ℕ). runs_func x.callee && nat_eq k n) at

-- The same caller, as many borrows, and it waits where it waited.
pub waits_alike : (x y : TaskSlot) → y.instance ≡ x.instance → y.callee ≡ x.callee → y.caller ≡ x.caller → y.task.borrows ≡ x.task.borrows
    → ((index : ℕ) → waits_directly_at index y.task.phase ≡ waits_directly_at index x.task.phase) → TaskAlike x y
waits_alike x y at callee caller borrows waits = record {
  at = λ n. runs_same x y at callee n;
  lends = λ p index. ap (λ (c : Caller). lends_by p index (called_of c)) caller;
  awaited = λ called e. (called, sym caller ∙ e, refl);
  borrows = borrows;
  waits = waits;
}

pub same_task : (x y : TaskSlot) → y.instance ≡ x.instance → y.callee ≡ x.callee → y.caller ≡ x.caller → y.task.borrows ≡ x.task.borrows → y.task.phase ≡ x.task.phase → TaskAlike x y
same_task x y at callee caller borrows p = waits_alike x y at callee caller borrows (λ index. ap (waits_directly_at index) p)

pub alike_further : (x y z : TaskSlot) → TaskAlike x y → TaskAlike y z → TaskAlike x z
alike_further x y z p q = record {
  at = λ n. q.at n ∙ p.at n;
  lends = λ f index. q.lends f index ∙ p.lends f index;
  awaited = λ called e.
      let b : (prior : Called) × (y.caller ≡ Guest prior) × (called.is_awaited ≡ prior.is_awaited) = q.awaited called e in
      let a : (prior : Called) × (x.caller ≡ Guest prior) × (b.0.is_awaited ≡ prior.is_awaited) = p.awaited b.0 b.1 in
      (a.0, a.1, b.2 ∙ a.2);
  borrows = q.borrows ∙ p.borrows;
  waits = λ index. q.waits index ∙ p.waits index;
}

-- What is changed in a call that keeps by whom it is, what is lent for it, and whether it is waited for.
pub record CallKept (f : Called → Called) : Type 0 where
  pub by : (c : Called) → (f c).by ≡ c.by
  pub lends : (c : Called) → (f c).subtask.lends ≡ c.subtask.lends
  pub awaited : (c : Called) → (f c).is_awaited ≡ c.is_awaited

changed_lends : (f : Called → Called) → CallKept f → (c : Caller) (p : ℕ → Bool) (index : ℕ) → lends_by p index (called_of (changed f c)) ≡ lends_by p index (called_of c)
changed_lends f k Nobody p index = refl
changed_lends f k (Host call) p index = refl
changed_lends f k (Guest called) p index =
    ap (λ (n : ℕ). count_by (λ handle. p n && nat_eq handle index) (f called).subtask.lends) (k.by called)
    ∙ ap (λ (lends : List ℕ). count_by (λ handle. p called.by && nat_eq handle index) lends) (k.lends called)

pub guest_same : {a b : Called} → Guest a ≡ Guest b → a ≡ b
guest_same e = cc

pub changed_awaited : (f : Called → Called) → ((c : Called) → (f c).is_awaited ≡ c.is_awaited) → (c : Caller) (called : Called) → changed f c ≡ Guest called
    → (prior : Called) × (c ≡ Guest prior) × (called.is_awaited ≡ prior.is_awaited)
changed_awaited f k Nobody called e = absurd (cc)
changed_awaited f k (Host call) called e = absurd (cc)
changed_awaited f k (Guest prior) called e = (prior, refl, ap (λ (c : Called). c.is_awaited) (sym (guest_same e)) ∙ k prior)

pub changed_alike : (f : Called → Called) → CallKept f → (x : TaskSlot) → TaskAlike x (with_called f x)
changed_alike f k x = record {
  at = λ n. refl;
  lends = λ p index. changed_lends f k x.caller p index;
  awaited = λ called e. changed_awaited f k.awaited x.caller called e;
  borrows = refl;
  waits = λ index. refl;
}

pub if_field : {A : Type 0} (f : Called → A) (b : Bool) (x y : Called) → f x ≡ f y → f (if b then x else y) ≡ f y
if_field f true x y e = e
if_field f false x y e = refl

raised_kept : (state : SubtaskState) → CallKept (callers.raised state)
raised_kept state = record {
  by = λ c. if_field (λ (d : Called). d.by) (follows c.subtask.state state) (callers.with_subtask (subtasks.raised state c.subtask) c) c refl;
  lends = λ c. if_field (λ (d : Called). d.subtask.lends) (follows c.subtask.state state) (callers.with_subtask (subtasks.raised state c.subtask) c) c refl;
  awaited = λ c. if_field (λ (d : Called). d.is_awaited) (follows c.subtask.state state) (callers.with_subtask (subtasks.raised state c.subtask) c) c refl;
}

pub raised_alike : (state : SubtaskState) (x : TaskSlot) → TaskAlike x (raised_slot state x)
raised_alike state x = changed_alike (callers.raised state) (raised_kept state) x

pub kept_alike : (words : List ℕ) (x : TaskSlot) → TaskAlike x (kept_slot words x)
kept_alike words x = changed_alike (λ called. record called { result = words }) (record { by = λ c. refl; lends = λ c. refl; awaited = λ c. refl }) x

-- What happened to a task, where it did.
acted_by : {A : Type 0} (h l : Held) (t : ℕ) (b : Bool) (o : Option TaskTrap) (x : TaskSlot) (later : TaskView) (c : Unit {0} → Held → Done A) → TaskTraps h l t x o
    → (b ≡ true → o ≡ None → KeptBy h (c tt (with_task t (slots.with_task later x) l)))
    → KeptBy h (after (happened (if b then trapped o else Err event_error.NotNow) t (if b then slots.with_task (unless o later x.task) x else x) l) c)
acted_by h l t true None x later c q p = p refl refl
acted_by h l t true (Some why) x later c q p = q why refl
acted_by h l t false o x later c q p = tt

pub acted_keeps : {A : Type 0} (h l : Held) (t : ℕ) (e : TaskEvent) (x : TaskSlot) (c : Unit {0} → Held → Done A) → TaskTraps h l t x (fault e x.task)
    → (may_happen e x.task ≡ true → fault e x.task ≡ None → KeptBy h (c tt (with_task t (slots.with_task (tasks.after e x.task) x) l)))
    → KeptBy h (after (happened (event_answer e x.task) t (advanced_slot e x) l) c)
acted_keeps h l t e x c q p = acted_by h l t (may_happen e x.task) (fault e x.task) x (tasks.after e x.task) c q p

happened_by : (h l : Held) (t : ℕ) (b : Bool) (o : Option TaskTrap) (x : TaskSlot) (later : TaskView) → TaskTraps h l t x o → (b ≡ true → o ≡ None → Keeps h (with_task t (slots.with_task later x) l))
    → KeptBy h (happened (if b then trapped o else Err event_error.NotNow) t (if b then slots.with_task (unless o later x.task) x else x) l)
happened_by h l t true None x later q p = p refl refl
happened_by h l t true (Some why) x later q p = q why refl
happened_by h l t false o x later q p = tt

pub happened_keeps : (h l : Held) (t : ℕ) (e : TaskEvent) (x : TaskSlot) → TaskTraps h l t x (fault e x.task) → (may_happen e x.task ≡ true → fault e x.task ≡ None → Keeps h (with_task t (slots.with_task (tasks.after e x.task) x) l))
    → KeptBy h (happened (event_answer e x.task) t (advanced_slot e x) l)
happened_keeps h l t e x q p = happened_by h l t (may_happen e x.task) (fault e x.task) x (tasks.after e x.task) q p

-- A task that acts waits nowhere.
pub acting_waits_not : (index : ℕ) (p : Phase) → is_acting p ≡ true → waits_directly_at index p ≡ false
acting_waits_not index phase.New e = refl
acting_waits_not index phase.Acting e = refl
acting_waits_not index (phase.Blocked why flag) e = absurd (cc)
acting_waits_not index phase.Exited e = refl

-- A wait inside that is not one for a copy or for a cancelled subtask.
abbrev pub IsIndirect : BlockedAt → Type 0
IsIndirect blocked_at.Entry = ⊥
IsIndirect (blocked_at.Loop word) = Unit {0}
IsIndirect blocked_at.Yield = Unit {0}
IsIndirect (blocked_at.Set index) = Unit {0}
IsIndirect (blocked_at.Call task) = Unit {0}
IsIndirect (blocked_at.Copy index) = ⊥
IsIndirect (blocked_at.Cancel index) = ⊥

pub indirect_not : (index : ℕ) (why : BlockedAt) → IsIndirect why → blocks_directly_at index why ≡ false
indirect_not index blocked_at.Entry q = absurd q
indirect_not index (blocked_at.Loop word) q = refl
indirect_not index blocked_at.Yield q = refl
indirect_not index (blocked_at.Set set) q = refl
indirect_not index (blocked_at.Call task) q = refl
indirect_not index (blocked_at.Copy end) q = absurd q
indirect_not index (blocked_at.Cancel subtask) q = absurd q

indirect_inside : (why : BlockedAt) → IsIndirect why → is_entry why ≡ false
indirect_inside blocked_at.Entry q = absurd q
indirect_inside (blocked_at.Loop word) q = refl
indirect_inside blocked_at.Yield q = refl
indirect_inside (blocked_at.Set set) q = refl
indirect_inside (blocked_at.Call task) q = refl
indirect_inside (blocked_at.Copy end) q = absurd q
indirect_inside (blocked_at.Cancel subtask) q = absurd q

may_inside : (b c d : Bool) → b ≡ false → (if b then c else d) ≡ true → d ≡ true
may_inside true c d e f = absurd (cc)
may_inside false c d e f = f

-- A task that acts blocks there.
pub blocked_there : (h : Held) (t : ℕ) (why : BlockedAt) (flag : Bool) (x : TaskSlot) → slice_get h.tasks t ≡ Some x → IsIndirect why → may_happen (event.Block why flag) x.task ≡ true
    → Keeps h (with_task t (slots.with_task (tasks.after (event.Block why flag) x.task) x) h)
blocked_there h t why flag x is q may =
    let inside : is_entry why ≡ false = indirect_inside why q in
    let acts : is_acting x.task.phase ≡ true = may_inside (is_entry why) (tasks.is_new x.task.phase) (is_acting x.task.phase) inside may in
    let y : TaskSlot = slots.with_task (tasks.after (event.Block why flag) x.task) x in
    task_keeps h t x y is
    (waits_alike x y refl refl refl refl (λ index. indirect_not index why q ∙ sym (acting_waits_not index x.task.phase acts)))
    (states_stay t x (tasks.after (event.Block why flag) x.task) (blocked_stays x.task why flag acts inside))

-- A task is changed twice.
pub set_twice : {A : Type 0} (xs : List A) (t : ℕ) (y z : A) → slice_set (slice_set xs t y) t z ≡ slice_set xs t z
set_twice [] t y z = refl
set_twice (x ∷ xs) zero y z = refl
set_twice (x ∷ xs) (suc t) y z = ap (λ ys. x ∷ ys) (set_twice xs t y z)

pub twice_keeps : (h : Held) (t : ℕ) (x y z : TaskSlot) → slice_get h.tasks t ≡ Some x → TaskAlike x z → (StateMarked t x → StateMarked t z)
    → Keeps h (with_task t z (with_task t y h))
twice_keeps h t x y z is same state =
    keeps_further h (with_task t z h) (with_task t z (with_task t y h)) (task_keeps h t x z is same state)
    (keeps_all (with_task t z h) (with_task t z (with_task t y h)) (set_twice h.tasks t y z) refl)
