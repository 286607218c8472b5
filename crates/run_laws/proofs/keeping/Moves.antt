-- Where a task and its instance are others, by one move of it, all marks stay.
use Rattle.std.proofs.Common.{◌≡◌, ℕ, ◌+◌, Bool, true, false, if◌then◌else◌, List, slice_set, refl, sym, ap, ◌∙◌, subst, Option, Some, None}
use Rattle.std.specs.Prelude.{Err}
use Rattle.std.specs.List.{slice_get}
use Rattle.waitables.specs.Sets.{set_at}
use Rattle.tasks.specs.declared.event.TaskEvent.{TaskEvent}
use Rattle.tasks.specs.declared.event.TaskTrap.{TaskTrap}
use Rattle.tasks.specs.Tasks as tasks
use Rattle.tasks.specs.Tasks.{may_happen, fault, unless}
use Rattle.tasks.specs.Views.{TaskView}
use Rattle.handle_table.specs.Slots.{Slots, entry_at}
use Rattle.instances.specs.declared.entry.WorldEntry.{WorldEntry}
use Rattle.instances.specs.declared.entry.WorldEntry.TheVariants as entry
use Rattle.instances.specs.Instances.{InstanceView, entry_of}
use Rattle.task_table.specs.declared.refusal.EventError.TheVariants as event_error
use Rattle.task_table.specs.declared.slot.TaskSlot.{TaskSlot}
use Rattle.task_table.specs.Slots as slots
use Rattle.task_table.specs.Slots.{trapped, event_answer, advanced_slot}
use Rattle.trace_labels.specs.declared.label.Label.{Label}
use Rattle.world_parts.specs.Held.{Held, Done, after}
use Rattle.world_parts.specs.Feed.{told, left_chain}
use Rattle.world_parts.specs.Slots.{with_task, happened}
use Rattle.standing.specs.KeptMarks.{runs_at, waiters_at, TasksMarked}
use Rattle.standing.specs.Marks.{StateMarked}
use Rattle.standing.proofs.marks.Stays.{stays_after}
use Rattle.standing.proofs.marks.Feed.{told_stays, left_chain_stays}
use Rattle.run_laws.specs.keeping.Kept.{MarksStay, KeepsMarks}
use Rattle.run_laws.proofs.keeping.Others.{OthersMarked, Keeps, keeps_after}
use Rattle.run_laws.proofs.keeping.Every.{all_by}
use Rattle.run_laws.proofs.keeping.Changes.{TaskAlike, same_keeps, task_keeps}
use Rattle.run_laws.proofs.keeping.Entry.{GateSeen, gates_change}
use Rattle.run_laws.proofs.keeping.OnSets.{counts_at, waiters_move}
use Rattle.run_laws.proofs.keeping.parts.Feed.{told_keeps, left_chain_keeps}

-- A task moves, and with it the gate and the sets of its instance; its table stays.
pub record Move (h : Held) (t at : ℕ) (x y : TaskSlot) (i j : InstanceView) : Type 0 where
  pub is : slice_get h.tasks t ≡ Some x
  pub here : slice_get h.instances at ≡ Some i
  pub runs : runs_at at x ≡ true
  pub same : (n : ℕ) → runs_at n y ≡ runs_at n x
  pub gate : GateSeen h.tasks at i.gate → GateSeen (slice_set h.tasks t y) at j.gate
  pub slots : j.slots ≡ i.slots
  pub sets : (index set : ℕ) → entry_of i index ≡ Some (entry.Set set) → (set_at i.sets set).waiters ≡ waiters_at h.tasks at index
      → (set_at j.sets set).waiters + counts_at at index x ≡ (set_at i.sets set).waiters + counts_at at index y

-- Of the other marks it is said that they stay.
pub moved_marks : (h k : Held) (t at : ℕ) (x y : TaskSlot) (i j : InstanceView) → Move h t at x y i j → k.tasks ≡ slice_set h.tasks t y → k.instances ≡ slice_set h.instances at j → Keeps h k
    → MarksStay h k
moved_marks h k t at x y i j m tasks insts others marks =
    let o : OthersMarked k.instances k.tasks = others (record { lends = marks.lends; borrows = marks.borrows; awaited = marks.awaited; states = marks.states }) in
    let p : OthersMarked (slice_set h.instances at j) (slice_set h.tasks t y)
    = subst (λ (is : List InstanceView). OthersMarked is (slice_set h.tasks t y)) insts (subst (λ (ts : List TaskSlot). OthersMarked k.instances ts) tasks o) in
    subst (λ (ts : List TaskSlot). TasksMarked k.instances ts) (sym tasks)
    (subst (λ (is : List InstanceView). TasksMarked is (slice_set h.tasks t y)) (sym insts)
    (record {
      gates = gates_change h.instances h.tasks t at x y i j m.here m.is m.runs m.same m.gate marks.gates;
      waiters = waiters_move h.instances h.tasks t at x y i j m.here m.is m.runs m.same (λ index set found. ap (λ (s : Slots WorldEntry). entry_at s index) (sym m.slots) ∙ found) m.sets marks.waiters;
      lends = p.lends;
      borrows = p.borrows;
      awaited = p.awaited;
      states = p.states;
    }))

-- Where the task is alike to the other marks they stay.
pub alike_marks : (h k : Held) (t at : ℕ) (x y : TaskSlot) (i j : InstanceView) → Move h t at x y i j → k.tasks ≡ slice_set h.tasks t y → k.instances ≡ slice_set h.instances at j → TaskAlike x y
    → (StateMarked t x → StateMarked t y) → MarksStay h k
alike_marks h k t at x y i j m tasks insts alike state =
    moved_marks h k t at x y i j m tasks insts
    (λ marks.
    subst (λ (ts : List TaskSlot). OthersMarked k.instances ts) (sym tasks)
    (subst (λ (is : List InstanceView). OthersMarked is (slice_set h.tasks t y)) (sym insts)
    (same_keeps (with_task t y h) at i j m.here m.slots (task_keeps h t x y m.is alike state marks))))

-- What happened to a task, where it did.
acted_by : {A : Type 0} (h l : Held) (t : ℕ) (b : Bool) (o : Option TaskTrap) (x : TaskSlot) (later : TaskView) (c : Unit {0} → Held → Done A) → o ≡ None
    → (b ≡ true → o ≡ None → KeepsMarks h (c tt (with_task t (slots.with_task later x) l)))
    → KeepsMarks h (after (happened (if b then trapped o else Err event_error.NotNow) t (if b then slots.with_task (unless o later x.task) x else x) l) c)
acted_by h l t true None x later c none p = p refl refl
acted_by h l t true (Some why) x later c none p = absurd (cc)
acted_by h l t false o x later c none p = tt

pub acted_every : {A : Type 0} (h l : Held) (t : ℕ) (e : TaskEvent) (x : TaskSlot) (c : Unit {0} → Held → Done A) → fault e x.task ≡ None
    → (may_happen e x.task ≡ true → fault e x.task ≡ None → KeepsMarks h (c tt (with_task t (slots.with_task (tasks.after e x.task) x) l)))
    → KeepsMarks h (after (happened (event_answer e x.task) t (advanced_slot e x) l) c)
acted_every h l t e x c none p = acted_by h l t (may_happen e x.task) (fault e x.task) x (tasks.after e x.task) c none p

-- A line, and off the chain.
pub told_and_left : (label : Label) (m : Held) → KeepsMarks m (after (told label m) (λ done n. left_chain n))
told_and_left label m =
    all_by m (after (told label m) (λ done n. left_chain n)) (stays_after m (told label m) (λ done n. left_chain n) (told_stays label m) (λ done n. left_chain_stays n))
    (keeps_after m (told label m) (λ done n. left_chain n) (told_keeps label m) (λ done n. left_chain_keeps n))
