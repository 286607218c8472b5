-- Cancelled subtasks where tables, tasks and the chain are changed: they stand where the tasks that cancel them look for them.
use Rattle.std.proofs.Common.{◌≡◌, ◌≢◌, ◌⊎◌, inl, inr, ℕ, Bool, true, false, nat_eq, List, [], ◌∷◌, ◌++◌, refl, sym, ap, ◌∙◌, subst, arith, Option, Some, None}
use Rattle.std.proofs.lemmas.Bool.Decides.{nat_tests}
use Rattle.std.specs.List.{slice_get}
use Rattle.wasm_store.proofs.Lists.{all_at}
use Rattle.handle_table.specs.History.{Event, IsHistory, Remove, live}
use Rattle.comp_graph.specs.Graph.{Lifted}
use Rattle.abi_machine.specs.World.{Entry, OfSubtask, Inst, Callee, ForYield, ForSet, ForCall, ForCopy, ForCancel, TaskState, New, Acting, AfterCall, AfterCancel, WaitsToEnter, InLoop, InBuiltin, Exited, Task, new_inst}
use Rattle.abi_machine.specs.World as world
use Rattle.abi_machine.specs.Edits.{changed_at}
use Rattle.abi_machine.specs.Reading.{table_in, func_of}
use Rattle.abi_machine.specs.Cancelling.{first_of}
use Rattle.abi_machine.specs.sound.Changes.{IsFirst}
use Rattle.abi_machine.specs.sound.Firsts.{TaskIs}
use Rattle.abi_machine.specs.sound.Tables.{HaveHistories}
use Rattle.abi_machine.specs.sound.Subtasks.{StandsAt, CallIs}
use Rattle.abi_machine.specs.sound.Cancels.{StandsIn, CancelsSo, CancelsTask, IsResolved, WasAsked, IsOver, IsNotOver, CancelStands, AreCancelled}
use Rattle.abi_machine.proofs.sound.Lists.{more_either, get_front}
use Rattle.abi_machine.proofs.sound.Found.{some_same}
use Rattle.abi_machine.proofs.sound.Acted.{still_is}
use Rattle.abi_machine.proofs.sound.Chained.{changed_here, changed_apart}
use Rattle.abi_machine.proofs.sound.Joined.{live_removed}
use Rattle.abi_machine.proofs.sound.Holding.{live_changed}
use Rattle.abi_machine.proofs.sound.Looping.{equal}
use Rattle.abi_machine.proofs.sound.Awaited.{same_call, call_changed, call_more}
use Rattle.abi_machine.proofs.sound.known.Asked.{NoOther}
use Rattle.abi_machine.proofs.sound.known.Asking.{over_or_not, one_callee}

-- Tables.

-- what stands at one index is one thing
one_stands : (insts : List Inst) (i index callee other : ℕ) → StandsAt insts i index callee → StandsAt insts i index other → callee ≡ other
one_stands insts i index callee other h k = one_callee callee other (some_same (sym h ∙ k))

-- The caller of a subtask that leaves its table was told that it has resolved.
abbrev pub WasOver : List Task → ℕ → Type 0
WasOver tasks callee = CallIs tasks callee IsOver

abbrev pub SubtasksStand : List Task → List Inst → List Inst → Type 0
SubtasksStand tasks insts others = (i index callee : ℕ) → StandsAt insts i index callee → StandsAt others i index callee ⊎ WasOver tasks callee

stand_later : (tasks : List Task) (insts others : List Inst) → SubtasksStand tasks insts others → (f : Option Lifted) (index callee : ℕ) → StandsIn insts f index callee → StandsIn others f index callee ⊎ WasOver tasks callee
stand_later tasks insts others k None index callee h = absurd h
stand_later tasks insts others k (Some f) index callee h = k f.instance index callee h

pub one_stands_in : (insts : List Inst) (f : Option Lifted) (index callee other : ℕ) → StandsIn insts f index callee → StandsIn insts f index other → callee ≡ other
one_stands_in insts None index callee other h k = absurd h
one_stands_in insts (Some f) index callee other h k = one_stands insts f.instance index callee other h k

-- A task cancels what it cancelled.
cancelled_before : (tasks : List Task) (insts others : List Inst) → SubtasksStand tasks insts others → (f : Option Lifted) (state : TaskState) (callee : ℕ) → CancelStands tasks insts f state → CancelsSo others f state callee
    → CancelsSo insts f state callee
cancelled_before tasks insts others k f (AfterCancel cancelled number words) callee says h = h
cancelled_before tasks insts others k f (InBuiltin number words (ForCancel index)) callee says h = elim (stand_later tasks insts others k f index says.0 says.1) [
  | inl still ↦ subst (λ (n : ℕ). StandsIn insts f index n) (one_stands_in others f index says.0 callee still h) says.1
  | inr over ↦ absurd (over_or_not tasks says.0 says.2 over)
]
cancelled_before tasks insts others k f (InBuiltin number words ForYield) callee says h = h
cancelled_before tasks insts others k f (InBuiltin number words (ForSet index)) callee says h = h
cancelled_before tasks insts others k f (InBuiltin number words (ForCall other)) callee says h = h
cancelled_before tasks insts others k f (InBuiltin number words (ForCopy index)) callee says h = h
cancelled_before tasks insts others k f New callee says h = h
cancelled_before tasks insts others k f Acting callee says h = h
cancelled_before tasks insts others k f (AfterCall other number words) callee says h = h
cancelled_before tasks insts others k f (world.Begins n) callee says h = h
cancelled_before tasks insts others k f WaitsToEnter callee says h = h
cancelled_before tasks insts others k f (InLoop word) callee says h = h
cancelled_before tasks insts others k f Exited callee says h = h

stands_by_tables : (tasks : List Task) (insts others : List Inst) → SubtasksStand tasks insts others → (f : Option Lifted) (state : TaskState) → CancelStands tasks insts f state → CancelStands tasks others f state
stands_by_tables tasks insts others k f (AfterCancel callee number words) (inl over) = inl over
stands_by_tables tasks insts others k f (AfterCancel callee number words) (inr stands) = elim (stand_later tasks insts others k f (first_of words) callee stands) [
  | inl still ↦ inr still
  | inr over ↦ inl over
]
stands_by_tables tasks insts others k f (InBuiltin number words (ForCancel index)) says = elim (stand_later tasks insts others k f index says.0 says.1) [
  | inl still ↦ (says.0, still, says.2)
  | inr over ↦ absurd (over_or_not tasks says.0 says.2 over)
]
stands_by_tables tasks insts others k f (InBuiltin number words ForYield) says = tt
stands_by_tables tasks insts others k f (InBuiltin number words (ForSet index)) says = tt
stands_by_tables tasks insts others k f (InBuiltin number words (ForCall other)) says = tt
stands_by_tables tasks insts others k f (InBuiltin number words (ForCopy index)) says = tt
stands_by_tables tasks insts others k f New says = tt
stands_by_tables tasks insts others k f Acting says = tt
stands_by_tables tasks insts others k f (AfterCall other number words) says = tt
stands_by_tables tasks insts others k f (world.Begins n) says = tt
stands_by_tables tasks insts others k f WaitsToEnter says = tt
stands_by_tables tasks insts others k f (InLoop word) says = tt
stands_by_tables tasks insts others k f Exited says = tt

pub by_tables : (tasks : List Task) (insts others : List Inst) (chain : List ℕ) → SubtasksStand tasks insts others → AreCancelled tasks insts chain → AreCancelled tasks others chain
by_tables tasks insts others chain k h = record {
  stands = λ t task e. stands_by_tables tasks insts others k (func_of task.callee) task.state (h.stands t task e);
  asked = λ t callee task e c. h.asked t callee task e (cancelled_before tasks insts others k (func_of task.callee) task.state callee (h.stands t task e) c);
  one = λ t u callee x y at there c d.
      h.one t u callee x y at there (cancelled_before tasks insts others k (func_of x.callee) x.state callee (h.stands t x at) c) (cancelled_before tasks insts others k (func_of y.callee) y.state callee (h.stands u y there) d);
}

-- An entry is added, or removed; and tables that are the same.
pub all_stand : (tasks : List Task) (insts : List Inst) (i : ℕ) (f : Inst → Inst)
    → ((x : Inst) (index callee : ℕ) → IsHistory x.table → live x.table index ≡ Some (OfSubtask callee) → live (f x).table index ≡ Some (OfSubtask callee)) → HaveHistories insts → SubtasksStand tasks insts (changed_at i f insts)
all_stand tasks insts i f keeps history j index callee there =
    inl (live_changed insts i f j index (OfSubtask callee) (λ inst at found k. keeps inst index callee (all_at (λ (x : Inst). IsHistory x.table) insts i inst history found) k) there)

pub same_stand : (tasks : List Task) (insts : List Inst) (i : ℕ) (f : Inst → Inst) → ((x : Inst) → (f x).table ≡ x.table) → SubtasksStand tasks insts (changed_at i f insts)
same_stand tasks insts i f same j index callee there =
    inl (live_changed insts i f j index (OfSubtask callee) (λ inst at found k. subst (λ (t : List (Event Entry)). live t index ≡ Some (OfSubtask callee)) (sym (same inst)) k) there)

pub begun_stand : (tasks : List Task) (insts : List Inst) → SubtasksStand tasks insts (insts ++ new_inst ∷ [])
begun_stand tasks insts j index callee there = inl (by (slice_get insts j) refl there)
  where
    by : (o : Option Inst) → slice_get insts j ≡ o → live (table_in o) index ≡ Some (OfSubtask callee) → live (table_in (slice_get (insts ++ new_inst ∷ []) j)) index ≡ Some (OfSubtask callee)
    by None k l = cc
    by (Some inst) k l = subst (λ (o : Option Inst). live (table_in o) index ≡ Some (OfSubtask callee)) (sym (get_front insts new_inst j inst k)) l

eq_apart : (a b : ℕ) → nat_eq a b ≡ false → a ≢ b
eq_apart a b e same = (let is : nat_eq a a ≡ false = subst (λ (n : ℕ). nat_eq a n ≡ false) (sym same) e in let clash : true ≡ false = sym (equal a) ∙ is in cc)

pub removed_stand : (tasks : List Task) (insts : List Inst) (i gone : ℕ) → ((callee : ℕ) → StandsAt insts i gone callee → WasOver tasks callee)
    → SubtasksStand tasks insts (changed_at i (λ inst. record inst { table = Remove gone ∷ inst.table }) insts)
removed_stand tasks insts i gone over j index callee there = by (nat_eq i j) (nat_eq gone index) refl refl
  where
    still : (gone ≢ index) ⊎ (i ≢ j) → StandsAt (changed_at i (λ inst. record inst { table = Remove gone ∷ inst.table }) insts) j index callee
    still (inl apart) = live_changed insts i _ j index (OfSubtask callee) (λ inst at found k. live_removed inst.table gone index (OfSubtask callee) apart k) there
    still (inr other) = live_changed insts i _ j index (OfSubtask callee) (λ inst at found k. absurd (other (sym at))) there

    by : (a b : Bool) → nat_eq i j ≡ a → nat_eq gone index ≡ b → StandsAt (changed_at i (λ inst. record inst { table = Remove gone ∷ inst.table }) insts) j index callee ⊎ WasOver tasks callee
    by true true e k =
        let inst : j ≡ i = grind (arith, nat_tests) in
        let place : index ≡ gone = grind (arith, nat_tests) in
        inr (over callee (subst (λ (n : ℕ). StandsAt insts n gone callee) inst (subst (λ (n : ℕ). StandsAt insts j n callee) place there)))
    by false b e k = inl (still (inr (eq_apart i j e)))
    by true false e k = inl (still (inl (eq_apart gone index k)))

-- Tasks.

-- what a state says, of other tasks
abbrev pub NotOverFor : List Task → List Task → List Inst → Option Lifted → TaskState → Type 0
NotOverFor tasks others insts f state = (number index callee : ℕ) (words : List ℕ) → state ≡ InBuiltin number words (ForCancel index) → StandsIn insts f index callee → CallIs tasks callee IsNotOver → CallIs others callee IsNotOver

stands_by_tasks : (tasks others : List Task) (insts : List Inst) (f : Option Lifted) (state : TaskState) → ((callee : ℕ) → CallIs tasks callee IsOver → CallIs others callee IsOver) → NotOverFor tasks others insts f state
    → CancelStands tasks insts f state → CancelStands others insts f state
stands_by_tasks tasks others insts f (AfterCancel callee number words) over calls (inl told) = inl (over callee told)
stands_by_tasks tasks others insts f (AfterCancel callee number words) over calls (inr stands) = inr stands
stands_by_tasks tasks others insts f (InBuiltin number words (ForCancel index)) over calls says = (says.0, says.1, calls number index says.0 words refl says.1 says.2)
stands_by_tasks tasks others insts f (InBuiltin number words ForYield) over calls says = tt
stands_by_tasks tasks others insts f (InBuiltin number words (ForSet index)) over calls says = tt
stands_by_tasks tasks others insts f (InBuiltin number words (ForCall other)) over calls says = tt
stands_by_tasks tasks others insts f (InBuiltin number words (ForCopy index)) over calls says = tt
stands_by_tasks tasks others insts f New over calls says = tt
stands_by_tasks tasks others insts f Acting over calls says = tt
stands_by_tasks tasks others insts f (AfterCall other number words) over calls says = tt
stands_by_tasks tasks others insts f (world.Begins n) over calls says = tt
stands_by_tasks tasks others insts f WaitsToEnter over calls says = tt
stands_by_tasks tasks others insts f (InLoop word) over calls says = tt
stands_by_tasks tasks others insts f Exited over calls says = tt

-- A task is changed, but for what it does and its state.
module _ (tasks : List Task) (insts : List Inst) (chain : List ℕ) (u : ℕ) (f : Task → Task) (callees : (x : Task) → (f x).callee ≡ x.callee) (states : (x : Task) → (f x).state ≡ x.state)
    (resolved : (x : Task) → IsResolved x → IsResolved (f x)) (asked : (x : Task) → WasAsked x → WasAsked (f x)) (over : (callee : ℕ) → CallIs tasks callee IsOver → CallIs (changed_at u f tasks) callee IsOver)
    (calls : (t : ℕ) (task : Task) → slice_get tasks t ≡ Some task → NotOverFor tasks (changed_at u f tasks) insts (func_of task.callee) task.state) where
  abbrev others : List Task
  others = changed_at u f tasks

  -- the task that it was
  old_task : (t : ℕ) (task : Task) → slice_get others t ≡ Some task → (x : Task) × (slice_get tasks t ≡ Some x) × (task.state ≡ x.state) × (task.callee ≡ x.callee)
  old_task t task e = elim (changed_here u f tasks t task e) [
    | inl o ↦ (
      o.1.0,
      subst (λ (n : ℕ). slice_get tasks n ≡ Some o.1.0) (sym o.0) o.1.1,
      ap (λ (x : Task). x.state) o.1.2 ∙ states o.1.0,
      ap (λ (x : Task). x.callee) o.1.2 ∙ callees o.1.0,
    )
    | inr old ↦ (task, old, refl, refl)
  ]

  cancelled_old : (t callee : ℕ) (task : Task) (e : slice_get others t ≡ Some task) → CancelsTask insts task callee → CancelsTask insts (old_task t task e).0 callee
  cancelled_old t callee task e c =
      let o = old_task t task e in
      subst (λ (s : TaskState). CancelsSo insts (func_of o.0.callee) s callee) o.2 (subst (λ (x : Callee). CancelsSo insts (func_of x) task.state callee) o.3 c)

  pub edited : AreCancelled tasks insts chain → AreCancelled others insts chain
  edited h = record {
    stands = λ t task e. (
        let o = old_task t task e in
        let says : CancelStands others insts (func_of o.0.callee) o.0.state = stands_by_tasks tasks others insts (func_of o.0.callee) o.0.state over (calls t o.0 o.1) (h.stands t o.0 o.1) in
        subst (λ (x : Callee). CancelStands others insts (func_of x) task.state) (sym o.3) (subst (λ (s : TaskState). CancelStands others insts (func_of o.0.callee) s) (sym o.2) says)
        );
    asked = λ t callee task e c. elim (h.asked t callee (old_task t task e).0 (old_task t task e).1 (cancelled_old t callee task e c)) [
      | inl was ↦ inl (still_is tasks u callee f WasAsked asked was)
      | inr now ↦ inr (still_is tasks u callee f IsResolved resolved now.0, now.1)
    ];
    one = λ t n callee x y at there c d. h.one t n callee (old_task t x at).0 (old_task n y there).0 (old_task t x at).1 (old_task n y there).1 (cancelled_old t callee x at c) (cancelled_old n callee y there d);
  }

-- A task gets another state.
abbrev pub sets : TaskState → Task → Task
sets state task = record task { state = state }

module _ (tasks : List Task) (insts : List Inst) (chain later : List ℕ) (u : ℕ) (state : TaskState) (says : (x : Task) → slice_get tasks u ≡ Some x → CancelStands tasks insts (func_of x.callee) state)
    (cancels : (x : Task) (callee : ℕ) → slice_get tasks u ≡ Some x → CancelsSo insts (func_of x.callee) state callee
    → (TaskIs tasks callee WasAsked ⊎ (TaskIs tasks callee IsResolved × IsFirst u later)) × NoOther tasks insts u callee)
    (firsts : (t : ℕ) → u ≢ t → IsFirst t chain → IsFirst t later) where
  abbrev then_tasks : List Task
  then_tasks = changed_at u (sets state) tasks

  says_then : (f : Option Lifted) (s : TaskState) → CancelStands tasks insts f s → CancelStands then_tasks insts f s
  says_then f s h =
      stands_by_tasks tasks then_tasks insts f s (λ callee k. call_changed tasks u (sets state) IsOver callee (same_call IsOver (sets state) (λ x. refl)) k)
      (λ number index callee words e stands k. call_changed tasks u (sets state) IsNotOver callee (same_call IsNotOver (sets state) (λ x. refl)) k) h

  asked_then : (t callee : ℕ) → (IsFirst t later → IsFirst t later) → TaskIs tasks callee WasAsked ⊎ (TaskIs tasks callee IsResolved × IsFirst t later) → TaskIs then_tasks callee WasAsked ⊎ (TaskIs then_tasks callee IsResolved × IsFirst t later)
  asked_then t callee same (inl was) = inl (still_is tasks u callee (sets state) WasAsked (λ x p. p) was)
  asked_then t callee same (inr now) = inr (still_is tasks u callee (sets state) IsResolved (λ x p. p) now.0, same now.1)

  pub state_set : AreCancelled tasks insts chain → AreCancelled then_tasks insts later
  state_set h = record {
    stands = λ t task e. elim (changed_apart u (sets state) tasks t task e) [
      | inl o ↦ subst (λ (x : Task). CancelStands then_tasks insts (func_of x.callee) x.state) (sym o.1.2) (says_then (func_of o.1.0.callee) state (says o.1.0 o.1.1))
      | inr old ↦ says_then (func_of task.callee) task.state (h.stands t task old.1)
    ];
    asked = λ t callee task e c. elim (changed_apart u (sets state) tasks t task e) [
      | inl o ↦ asked_then t callee (λ k. k)
          (subst (λ (n : ℕ). TaskIs tasks callee WasAsked ⊎ (TaskIs tasks callee IsResolved × IsFirst n later)) (sym o.0) (cancels o.1.0 callee o.1.1 (subst (λ (x : Task). CancelsTask insts x callee) o.1.2 c)).0)
      | inr old ↦ elim (h.asked t callee task old.1 c) [
        | inl was ↦ asked_then t callee (λ k. k) (inl was)
        | inr now ↦ asked_then t callee (λ k. k) (inr (now.0, firsts t old.0 now.1))
      ]
    ];
    one = λ t n callee x y at there c d. elim (changed_apart u (sets state) tasks t x at) [
      | inl o ↦ elim (changed_apart u (sets state) tasks n y there) [
        | inl p ↦ o.0 ∙ sym p.0
        | inr old ↦ absurd ((cancels o.1.0 callee o.1.1 (subst (λ (z : Task). CancelsTask insts z callee) o.1.2 c)).1 n y old.0 old.1 d)
      ]
      | inr old ↦ elim (changed_apart u (sets state) tasks n y there) [
        | inl p ↦ absurd ((cancels p.1.0 callee p.1.1 (subst (λ (z : Task). CancelsTask insts z callee) p.1.2 d)).1 t x old.0 old.1 c)
        | inr before ↦ h.one t n callee x y old.1 before.1 c d
      ]
    ];
  }

-- a state in which a task cancels none
abbrev CancelsNone : TaskState → Type 0
CancelsNone (AfterCancel callee number words) = ⊥
CancelsNone (InBuiltin number words (ForCancel index)) = ⊥
CancelsNone state = Unit {0}

none_says : (tasks : List Task) (insts : List Inst) (f : Option Lifted) (state : TaskState) → CancelsNone state → CancelStands tasks insts f state
none_says tasks insts f New is = tt
none_says tasks insts f Acting is = tt
none_says tasks insts f (AfterCall callee number words) is = tt
none_says tasks insts f (AfterCancel callee number words) is = absurd is
none_says tasks insts f (world.Begins n) is = tt
none_says tasks insts f WaitsToEnter is = tt
none_says tasks insts f (InLoop word) is = tt
none_says tasks insts f (InBuiltin number words ForYield) is = tt
none_says tasks insts f (InBuiltin number words (ForSet index)) is = tt
none_says tasks insts f (InBuiltin number words (ForCall callee)) is = tt
none_says tasks insts f (InBuiltin number words (ForCopy index)) is = tt
none_says tasks insts f (InBuiltin number words (ForCancel index)) is = absurd is
none_says tasks insts f Exited is = tt

none_cancels : (insts : List Inst) (f : Option Lifted) (state : TaskState) (callee : ℕ) → CancelsNone state → CancelsSo insts f state callee → ⊥
none_cancels insts f New callee is c = c
none_cancels insts f Acting callee is c = c
none_cancels insts f (AfterCall other number words) callee is c = c
none_cancels insts f (AfterCancel other number words) callee is c = is
none_cancels insts f (world.Begins n) callee is c = c
none_cancels insts f WaitsToEnter callee is c = c
none_cancels insts f (InLoop word) callee is c = c
none_cancels insts f (InBuiltin number words ForYield) callee is c = c
none_cancels insts f (InBuiltin number words (ForSet index)) callee is c = c
none_cancels insts f (InBuiltin number words (ForCall other)) callee is c = c
none_cancels insts f (InBuiltin number words (ForCopy index)) callee is c = c
none_cancels insts f (InBuiltin number words (ForCancel index)) callee is c = is
none_cancels insts f Exited callee is c = c

pub none_set : (tasks : List Task) (insts : List Inst) (chain later : List ℕ) (u : ℕ) (state : TaskState) → CancelsNone state → ((t : ℕ) → u ≢ t → IsFirst t chain → IsFirst t later) → AreCancelled tasks insts chain
    → AreCancelled (changed_at u (sets state) tasks) insts later
none_set tasks insts chain later u state is firsts h =
    state_set tasks insts chain later u state (λ x e. none_says tasks insts (func_of x.callee) state is) (λ x callee e c. absurd (none_cancels insts (func_of x.callee) state callee is c)) firsts h

-- the chain alone, and one more task
pub rechained : (tasks : List Task) (insts : List Inst) (chain later : List ℕ) → ((t : ℕ) → IsFirst t chain → IsFirst t later) → AreCancelled tasks insts chain → AreCancelled tasks insts later
rechained tasks insts chain later firsts h = record {
  stands = h.stands;
  asked = λ t callee task e c. elim (h.asked t callee task e c) [
    | inl was ↦ inl was
    | inr now ↦ inr (now.0, firsts t now.1)
  ];
  one = h.one;
}

task_more : (tasks : List Task) (new : Task) (t : ℕ) (P : Task → Type 0) → TaskIs tasks t P → TaskIs (tasks ++ new ∷ []) t P
task_more tasks new t P h = (h.0, get_front tasks new t h.0 h.1, h.2)

pub one_more : (tasks : List Task) (insts : List Inst) (chain : List ℕ) (new : Task) → CancelsNone new.state → AreCancelled tasks insts chain → AreCancelled (tasks ++ new ∷ []) insts chain
one_more tasks insts chain new is h = record {
  stands = λ t task e. elim (more_either tasks new t task e) [
    | inl old ↦ stands_by_tasks tasks (tasks ++ new ∷ []) insts (func_of task.callee) task.state (λ callee k. call_more tasks new IsOver callee k) (λ number index callee words is stands k. call_more tasks new IsNotOver callee k)
        (h.stands t task old)
    | inr last ↦ subst (λ (x : Task). CancelStands (tasks ++ new ∷ []) insts (func_of x.callee) x.state) (sym last.1) (none_says (tasks ++ new ∷ []) insts (func_of new.callee) new.state is)
  ];
  asked = λ t callee task e c. elim (more_either tasks new t task e) [
    | inl old ↦ elim (h.asked t callee task old c) [
      | inl was ↦ inl (task_more tasks new callee WasAsked was)
      | inr now ↦ inr (task_more tasks new callee IsResolved now.0, now.1)
    ]
    | inr last ↦ absurd (none_cancels insts (func_of new.callee) new.state callee is (subst (λ (x : Task). CancelsTask insts x callee) last.1 c))
  ];
  one = λ t n callee x y at there c d. elim (more_either tasks new t x at) [
    | inl old ↦ elim (more_either tasks new n y there) [
      | inl before ↦ h.one t n callee x y old before c d
      | inr last ↦ absurd (none_cancels insts (func_of new.callee) new.state callee is (subst (λ (z : Task). CancelsTask insts z callee) last.1 d))
    ]
    | inr last ↦ absurd (none_cancels insts (func_of new.callee) new.state callee is (subst (λ (z : Task). CancelsTask insts z callee) last.1 c))
  ];
}
