-- The state of a task rises, and with it what its caller sees: it keeps these marks, whatever else was done between that no mark sees.
use Rattle.std.proofs.Common.{◌≡◌, ℕ, Bool, true, false, if◌then◌else◌, List, slice_set, refl, sym, ap, ◌∙◌, subst, Some}
use Rattle.std.specs.List.{slice_get}
use Rattle.tasks.specs.declared.subtask_state.SubtaskState.{SubtaskState}
use Rattle.tasks.specs.Tasks.{state_of}
use Rattle.tasks.specs.Views.{TaskView}
use Rattle.task_table.specs.declared.slot.TaskSlot.{TaskSlot}
use Rattle.task_table.specs.Callers.{may_raise}
use Rattle.task_table.specs.Slots as slots
use Rattle.task_table.specs.Slots.{raised_slot}
use Rattle.world_parts.specs.Held.{Held, Done, Gives, Stuck, after}
use Rattle.world_parts.specs.Slots.{with_task, raised}
use Rattle.abi_machine.proofs.sound.Found.{some_same}
use Rattle.standing.proofs.Agreeing.{get_set}
use Rattle.standing.proofs.States.{states_rise}
use Rattle.run_laws.proofs.keeping.Others.{OthersMarked, Keeps, KeptBy, keeps_given, look_keeps, tested_keeps}
use Rattle.run_laws.proofs.keeping.Changes.{TaskAlike, task_keeps}
use Rattle.run_laws.proofs.keeping.Alike.{alike_further, raised_alike, set_twice}

-- What is kept before the state rises: of the tasks one is another one; the instances have the marks that they had.
pub record Rising (h l : Held) (t : ℕ) (x : TaskSlot) (later : TaskView) (now : SubtaskState) : Type 0 where
  pub is : slice_get h.tasks t ≡ Some x
  pub tasks : l.tasks ≡ slice_set h.tasks t (slots.with_task later x)
  pub insts : (tasks : List TaskSlot) → OthersMarked h.instances tasks → OthersMarked l.instances tasks
  pub alike : TaskAlike x (slots.with_task later x)
  pub state : state_of later ≡ now

risen : (h l : Held) (t : ℕ) (x : TaskSlot) (later : TaskView) (now : SubtaskState) → Rising h l t x later now → may_raise now x.caller ≡ true
    → Keeps h (with_task t (raised_slot now (slots.with_task later x)) l)
risen h l t x later now r may marks =
    let y : TaskSlot = slots.with_task later x in
    let z : TaskSlot = raised_slot now y in
    let a : OthersMarked h.instances (slice_set h.tasks t z)
    = task_keeps h t x z r.is (alike_further x y z r.alike (raised_alike now y)) (states_rise t x later now may r.state) marks in
    subst (λ (tasks : List TaskSlot). OthersMarked l.instances tasks) (sym (ap (λ (tasks : List TaskSlot). slice_set tasks t z) r.tasks ∙ set_twice h.tasks t y z)) (r.insts (slice_set h.tasks t z) a)

pub raised_keeps : {A : Type 0} (h l : Held) (t : ℕ) (x : TaskSlot) (later : TaskView) (now : SubtaskState) (c : Unit {0} → Held → Done A) → Rising h l t x later now
    → ((m : Held) → Keeps h m → KeptBy h (c tt m)) → KeptBy h (after (raised t now l) c)
raised_keeps h l t x later now c r p =
    look_keeps h (slice_get l.tasks t) (λ z. if may_raise now z.caller then Gives (tt {0}) (with_task t (raised_slot now z) l) else Stuck) c
    (λ z there.
    let same : slots.with_task later x ≡ z
    = some_same (sym (ap (λ (tasks : List TaskSlot). slice_get tasks t) r.tasks ∙ get_set h.tasks t x (slots.with_task later x) r.is) ∙ there) in
    tested_keeps h (may_raise now z.caller) (Gives (tt {0}) (with_task t (raised_slot now z) l)) c
    (λ may.
    p (with_task t (raised_slot now z) l)
    (subst (λ (y : TaskSlot). Keeps h (with_task t (raised_slot now y) l)) same (risen h l t x later now r (ap (λ (y : TaskSlot). may_raise now y.caller) same ∙ may)))))

pub raised_last : (h l : Held) (t : ℕ) (x : TaskSlot) (later : TaskView) (now : SubtaskState) → Rising h l t x later now → KeptBy h (raised t now l)
raised_last h l t x later now r =
    keeps_given h (slice_get l.tasks t) (λ z. if may_raise now z.caller then Gives (tt {0}) (with_task t (raised_slot now z) l) else Stuck)
    (λ z there.
    let same : slots.with_task later x ≡ z
    = some_same (sym (ap (λ (tasks : List TaskSlot). slice_get tasks t) r.tasks ∙ get_set h.tasks t x (slots.with_task later x) r.is) ∙ there) in
    keeps_where h (with_task t (raised_slot now z) l) (may_raise now z.caller)
    (λ may. subst (λ (y : TaskSlot). Keeps h (with_task t (raised_slot now y) l)) same (risen h l t x later now r (ap (λ (y : TaskSlot). may_raise now y.caller) same ∙ may))))
  where
    keeps_where : (h k : Held) (b : Bool) → (b ≡ true → Keeps h k) → KeptBy h (if b then Gives (tt {0}) k else Stuck)
    keeps_where h k true p = p refl
    keeps_where h k false p = tt
