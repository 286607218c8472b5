-- Subtasks are told of and cancelled well, by what held at the start of a turn.
use Rattle.std.proofs.Common.{◌≡◌, ◌⊎◌, inl, inr, ℕ, zero, suc, ◌&&◌, ◌||◌, Bool, true, false, nat_eq, List, [], ◌∷◌, refl, sym, ap, ◌∙◌, subst, arith, Option, Some, None, if◌then◌else◌}
use Rattle.std.specs.Prelude.{IsSome, slice_index}
use Rattle.std.specs.List.{slice_get, list_any}
use Rattle.wasm_store.proofs.Lists.{all_at}
use Rattle.std.proofs.lemmas.Bool.Decides.{nat_tests}
use Rattle.tasks.specs.Subtasks.{is_over}
use Rattle.tasks.specs.Tasks.{open_state, resolved_state, is_entry, is_told}
use Rattle.tasks.specs.declared.phase.Phase.{Phase}
use Rattle.tasks.specs.declared.phase.Phase.TheVariants as phase
use Rattle.tasks.specs.declared.phase.Resolution.{Resolution}
use Rattle.tasks.specs.declared.phase.Resolution.TheVariants.{Returned, Cancelled}
use Rattle.tasks.specs.declared.subtask_state.SubtaskState.{SubtaskState}
use Rattle.tasks.specs.declared.subtask_state.SubtaskState.TheVariants.{Starting, Started, CancelledBeforeStarted, CancelledBeforeReturned}
use Rattle.comp_graph.specs.Graph.{Graph, Lifted}
use Rattle.abi_machine.specs.World.{OfSubtask, Subtask, Caller, Nobody, Host, Guest, ForCall, ForCancel, TaskState, Acting, AfterCall, AfterCancel, InBuiltin, Task, World}
use Rattle.abi_machine.specs.Edits.{in_state}
use Rattle.abi_machine.specs.Reading.{entry_at, func_of, is_in, runs_in, subtask_of}
use Rattle.abi_machine.specs.Counting.{phase_of, has_resolved, subtask_state, waits_at, is_waited_for}
use Rattle.abi_machine.specs.Cancelling.{first_of}
use Rattle.abi_machine.specs.sound.Changes.{IsFirst}
use Rattle.abi_machine.specs.sound.Acting.{Outline, outline_of, IsActing}
use Rattle.abi_machine.specs.sound.Firsts.{TaskIs}
use Rattle.abi_machine.specs.sound.Called.{CalledBy}
use Rattle.abi_machine.specs.sound.Told.{IsTold, IsToldAt, AreTold}
use Rattle.abi_machine.specs.sound.Subtasks.{StandsAt, StandsNowhere, CallIs, AreSubtasks}
use Rattle.abi_machine.specs.sound.Owners.{owner_of_canon, CallsOwn}
use Rattle.abi_machine.specs.sound.Cancels.{StandsIn, CancelsSo, CancelsTask, CancelStands, IsResolved, WasAsked, IsOver, IsNotOver, AreCancelled}
use Rattle.abi_machine.proofs.sound.Found.{some_same}
use Rattle.abi_machine.proofs.sound.Acted.{still_is, one_task}
use Rattle.abi_machine.proofs.sound.Chained.{changed_here, changed_apart}
use Rattle.abi_machine.proofs.sound.Outlines.{outline_there, Is, is_what, state_first}
use Rattle.abi_machine.proofs.sound.acts.Keeping.{IsIn}
use Rattle.abi_machine.proofs.sound.known.Unawaited.{acts_again, in_this_state, calls_acting}
use Rattle.abi_machine.proofs.sound.known.Asked.{NoOther, NoneBlocked, TellsWell, BlocksAsked, AskedFacts}

pub none_both : (b : Bool) (P : Type 0) → b ≡ true → b ≡ false → P
none_both b P is is_not = absurd (let clash : true ≡ false = sym is ∙ is_not in let none : ⊥ = cc in none)

pub equal_self : (n : ℕ) → nat_eq n n ≡ true
equal_self n = grind (arith, nat_tests)

or_right : (a b : Bool) → b ≡ true → (a || b) ≡ true
or_right true b e = refl
or_right false b e = e

pub both_true : (a b : Bool) → a ≡ true → b ≡ true → (a && b) ≡ true
both_true true b e k = k
both_true false b e k = cc

-- A subtask has resolved where its task has.
over_if : (b : Bool) → is_over (if b then CancelledBeforeReturned else CancelledBeforeStarted) ≡ true
over_if true = refl
over_if false = refl

resolved_over : (task : Task) → IsResolved task → has_resolved task ≡ true
resolved_over task h = by task.resolution h
  where
    by : (r : Option Resolution) → IsSome r → is_over (resolved_state task.cancellation r (phase_of (λ (number : ℕ). false) task.state)) ≡ true
    by None k = cc
    by (Some Returned) k = refl
    by (Some Cancelled) k = over_if (is_told task.cancellation)

started_open : (b : Bool) → is_over (if b then Starting else Started) ≡ true → ⊥
started_open true e = cc
started_open false e = cc

open_phase : (p : Phase) → is_over (open_state p) ≡ true → ⊥
open_phase phase.New e = cc
open_phase phase.Acting e = cc
open_phase (phase.Blocked why flag) e = started_open (is_entry why) e
open_phase phase.Exited e = cc

pub over_resolved : (task : Task) → has_resolved task ≡ true → IsResolved task
over_resolved task h = by task.resolution h
  where
    by : (r : Option Resolution) → is_over (resolved_state task.cancellation r (phase_of (λ (number : ℕ). false) task.state)) ≡ true → IsSome r
    by None k = absurd (open_phase (phase_of (λ (number : ℕ). false) task.state) k)
    by (Some r) k = refl

-- A caller was not told both.
pub over_or_not : (tasks : List Task) (callee : ℕ) → CallIs tasks callee IsNotOver → CallIs tasks callee IsOver → ⊥
over_or_not tasks callee h k =
    let same : h.0 ≡ k.0 = some_same (sym h.1 ∙ k.1) in
    let call : h.2.0 ≡ k.2.0 = some_same (sym h.2.1 ∙ (ap (λ (x : Task). subtask_of x.caller) same ∙ k.2.1)) in
    none_both (is_over h.2.0.told) ⊥ (ap (λ (x : Subtask). is_over x.told) call ∙ k.2.2) h.2.2

-- What was told, by whether the subtask has resolved.
told_at : (subtask : Subtask) (c : Caller) (state : SubtaskState) → subtask_of c ≡ Some subtask → IsToldAt c state → is_over subtask.told ≡ true → is_over state ≡ true
told_at subtask Nobody state e h over = cc
told_at subtask (Host call values) state e h over = cc
told_at subtask (Guest other) state e h over =
    let same : other ≡ subtask = some_same e in
    let told : is_over other.told ≡ true = subst (λ (x : Subtask). is_over x.told ≡ true) (sym same) over in
    subst (λ (x : SubtaskState). is_over x ≡ true) (h.once told) told

not_told : (w : World) (callee : ℕ) (task : Task) (subtask : Subtask) → AreTold w.tasks → slice_get w.tasks callee ≡ Some task → subtask_of task.caller ≡ Some subtask → has_resolved task ≡ false → CallIs w.tasks callee IsNotOver
not_told w callee task subtask told there guest unresolved = (task, there, (subtask, guest, by (is_over subtask.told) refl))
  where
    by : (b : Bool) → is_over subtask.told ≡ b → is_over subtask.told ≡ false
    by false e = e
    by true e = none_both (has_resolved task) (is_over subtask.told ≡ false) (told_at subtask task.caller (subtask_state task) guest (all_at IsTold w.tasks callee task told there).caller e) unresolved

-- Where a subtask stands in no table none is blocked until it has resolved.
none_nowhere : (w : World) (callee : ℕ) → StandsNowhere w.insts callee → NoneBlocked w callee
none_nowhere w callee nowhere u number index words x there is stands = by (func_of x.callee) stands
  where
    by : (f : Option Lifted) → StandsIn w.insts f index callee → ⊥
    by None k = k
    by (Some f) k = nowhere f.instance index k

-- One for which the acting task waited in a call.
untold_not_over : (g : Graph) (w : World) (t callee number : ℕ) (x : Task) → AreSubtasks g w.tasks w.insts → slice_get w.tasks t ≡ Some x → CalledBy x.state callee number → CallIs (in_state t Acting w).tasks callee IsNotOver
untold_not_over g w t callee number x h there waits =
    let k = (h.awaited t callee number x there waits).0 in calls_acting w.tasks t callee IsNotOver (k.0, k.1, (k.2.0, k.2.1, ap is_over k.2.2))

awaited_told : (g : Graph) (w : World) (t callee number : ℕ) (x : Task) (state : SubtaskState) → AreSubtasks g w.tasks w.insts → slice_get w.tasks t ≡ Some x → CalledBy x.state callee number → TellsWell (in_state t Acting w) callee state
awaited_told g w t callee number x state h there waits = by (is_over state) refl
  where
    by : (b : Bool) → is_over state ≡ b → TellsWell (in_state t Acting w) callee state
    by true e = inl (e, none_nowhere (in_state t Acting w) callee (h.awaited t callee number x there waits).1)
    by false e = inr (e, untold_not_over g w t callee number x h there waits)

pub call_told : (g : Graph) (w : World) (t callee number : ℕ) (words : List ℕ) (state : SubtaskState) → AreSubtasks g w.tasks w.insts → Is (IsIn (AfterCall callee number words)) t w → TellsWell (in_state t Acting w) callee state
call_told g w t callee number words state h a =
    let x = in_this_state w t (AfterCall callee number words) a in
    awaited_told g w t callee number x.0 state h x.1 (subst (λ (s : TaskState). CalledBy s callee number) (sym x.2) (refl, refl))

pub wait_told : (g : Graph) (w : World) (t callee number : ℕ) (words : List ℕ) (state : SubtaskState) → AreSubtasks g w.tasks w.insts → Is (IsIn (InBuiltin number words (ForCall callee))) t w → TellsWell (in_state t Acting w) callee state
wait_told g w t callee number words state h a =
    let x = in_this_state w t (InBuiltin number words (ForCall callee)) a in
    awaited_told g w t callee number x.0 state h x.1 (subst (λ (s : TaskState). CalledBy s callee number) (sym x.2) (refl, refl))

pub open_told : (g : Graph) (w : World) (t callee number : ℕ) (words : List ℕ) → AreSubtasks g w.tasks w.insts → Is (IsIn (AfterCall callee number words)) t w → CallIs (in_state t Acting w).tasks callee IsNotOver
open_told g w t callee number words h a =
    let x = in_this_state w t (AfterCall callee number words) a in
    untold_not_over g w t callee number x.0 h x.1 (subst (λ (s : TaskState). CalledBy s callee number) (sym x.2) (refl, refl))

pub one_callee : (a b : ℕ) → OfSubtask a ≡ OfSubtask b → a ≡ b
one_callee a b e = cc

-- One that the acting task cancelled.
none_else : (w : World) (t callee : ℕ) (x : Task) → AreCancelled w.tasks w.insts w.chain → slice_get w.tasks t ≡ Some x → CancelsTask w.insts x callee → NoneBlocked (in_state t Acting w) callee
none_else w t callee x h there cancels u number index words y at is stands = elim (changed_apart t acts_again w.tasks u y at) [
  | inl o ↦ (let clash : Acting ≡ InBuiltin number words (ForCancel index) = sym (ap (λ (z : Task). z.state) o.1.2) ∙ is in cc)
  | inr old ↦ old.0 (h.one t u callee x y there old.1 cancels (subst (λ (s : TaskState). CancelsSo w.insts (func_of y.callee) s callee) (sym is) stands))
]

pub cancelled_told : (w : World) (t callee number : ℕ) (words : List ℕ) (state : SubtaskState) → AreCancelled w.tasks w.insts w.chain → Is (IsIn (AfterCancel callee number words)) t w → is_over state ≡ true → TellsWell (in_state t Acting w) callee state
cancelled_told w t callee number words state h a over =
    let x = in_this_state w t (AfterCancel callee number words) a in
    inl (over, none_else w t callee x.0 h x.1 (subst (λ (s : TaskState). CancelsSo w.insts (func_of x.0.callee) s callee) (sym x.2) refl))

-- and one until which it was blocked
pub blocked_told : (w : World) (t index callee number : ℕ) (words : List ℕ) (f : Lifted) (state : SubtaskState) → AreCancelled w.tasks w.insts w.chain → Is (IsIn (InBuiltin number words (ForCancel index))) t w → Is (λ (o : Outline). func_of o.callee ≡ Some f) t w
    → entry_at w f.instance index ≡ Some (OfSubtask callee) → TellsWell (in_state t Acting w) callee state
blocked_told w t index callee number words f state h a mine at = by (is_over state) refl
  where
    by : (b : Bool) → is_over state ≡ b → TellsWell (in_state t Acting w) callee state
    by true e =
        let x = in_this_state w t (InBuiltin number words (ForCancel index)) a in
        let runs : func_of x.0.callee ≡ Some f = is_what (λ (o : Outline). func_of o.callee ≡ Some f) t w (outline_of x.0) mine (outline_there w.tasks t x.0 x.1) in
        let stands : StandsIn w.insts (func_of x.0.callee) index callee = subst (λ (l : Option Lifted). StandsIn w.insts l index callee) (sym runs) at in
        inl (e, none_else w t callee x.0 h x.1 (subst (λ (s : TaskState). CancelsSo w.insts (func_of x.0.callee) s callee) (sym x.2) stands))
    by false e =
        let x = in_this_state w t (InBuiltin number words (ForCancel index)) a in
        let runs : func_of x.0.callee ≡ Some f = is_what (λ (o : Outline). func_of o.callee ≡ Some f) t w (outline_of x.0) mine (outline_there w.tasks t x.0 x.1) in
        let says : CancelStands w.tasks w.insts (Some f) (InBuiltin number words (ForCancel index)) =
        subst (λ (l : Option Lifted). CancelStands w.tasks w.insts l (InBuiltin number words (ForCancel index))) runs (subst (CancelStands w.tasks w.insts (func_of x.0.callee)) x.2 (h.stands t x.0 x.1)) in
        let same : says.0 ≡ callee = one_callee says.0 callee (some_same (sym says.1 ∙ at)) in
        inr (e, calls_acting w.tasks t callee IsNotOver (subst (λ (n : ℕ). CallIs w.tasks n IsNotOver) same says.2))

-- A member that is ready is not waited for.
pub any_passes : (P : Task → Bool) (tasks : List Task) (u : ℕ) (x : Task) → slice_get tasks u ≡ Some x → P x ≡ true → list_any P tasks ≡ true
any_passes P [] u x there passes = cc
any_passes P (y ∷ tasks) zero x there passes = ap (λ (b : Bool). b || list_any P tasks) (ap P (some_same there) ∙ passes)
any_passes P (y ∷ tasks) (suc u) x there passes = or_right (P y) (list_any P tasks) (any_passes P tasks u x there passes)

pub member_told : (g : Graph) (w : World) (i index callee : ℕ) (task : Task) (subtask : Subtask) → AskedFacts g w → entry_at w i index ≡ Some (OfSubtask callee) → is_waited_for w i index ≡ false → slice_get w.tasks callee ≡ Some task
    → subtask_of task.caller ≡ Some subtask → TellsWell w callee (subtask_state task)
member_told g w i index callee task subtask facts at alone there guest = by (has_resolved task) refl
  where
    waited : (u number other : ℕ) (words : List ℕ) (x : Task) → slice_get w.tasks u ≡ Some x → x.state ≡ InBuiltin number words (ForCancel other) → (f : Option Lifted) → func_of x.callee ≡ f → StandsIn w.insts f other callee → ⊥
    waited u number other words x at_u is None runs stands = stands
    waited u number other words x at_u is (Some f) runs stands =
        let one = facts.subtasks.once i index f.instance other callee at stands in
        let here : is_in i (Some f) ≡ true = subst (λ (n : ℕ). nat_eq n i ≡ true) one.0 (equal_self i) in
        let waits : waits_at index x.state ≡ true = ap (waits_at index) is ∙ subst (λ (n : ℕ). nat_eq n index ≡ true) one.1 (equal_self index) in
        let passes : (runs_in i x && waits_at index x.state) ≡ true = both_true (runs_in i x) (waits_at index x.state) (ap (is_in i) runs ∙ here) waits in
        none_both (is_waited_for w i index) ⊥ (any_passes (λ (y : Task). runs_in i y && waits_at index y.state) w.tasks u x at_u passes) alone

    by : (b : Bool) → has_resolved task ≡ b → TellsWell w callee (subtask_state task)
    by true e = inl (e, λ u number other words x at_u is stands. waited u number other words x at_u is (func_of x.callee) refl stands)
    by false e = inr (e, not_told w callee task subtask facts.told there guest e)

-- The acting task cancels a subtask at the index that is the first word.
first_index : (words : List ℕ) → slice_index words 0 ≡ first_of words
first_index [] = refl
first_index (word ∷ words) = refl

pub stands_here : (g : Graph) (w : World) (t number i callee : ℕ) (words : List ℕ) → Is (IsActing true) t w → Is (λ (o : Outline). CallsOwn g (func_of o.callee) number) t w → owner_of_canon g number ≡ Some i
    → entry_at w i (slice_index words 0) ≡ Some (OfSubtask callee) → Is (λ (o : Outline). StandsIn w.insts (func_of o.callee) (first_of words) callee) t w
stands_here g w t number i callee words a calls here at =
    let own : CallsOwn g (func_of a.1.0.callee) number = is_what (λ (o : Outline). CallsOwn g (func_of o.callee) number) t w a.1.0 calls a.1.1 in
    (a.0, (a.1.0, a.1.1, by (func_of a.1.0.callee) a.1.2.0 own))
  where
    by : (f : Option Lifted) → IsSome f → CallsOwn g f number → StandsIn w.insts f (first_of words) callee
    by None some own = cc
    by (Some f) some own =
        let inst : i ≡ f.instance = some_same (sym here ∙ own) in
        subst (λ (n : ℕ). StandsAt w.insts n (first_of words) callee) inst (subst (λ (n : ℕ). StandsAt w.insts i n callee) (first_index words) at)

-- It blocks until that one has resolved.
cancel_blocks : (g : Graph) (w : World) (t callee number : ℕ) (words : List ℕ) (task : Task) (subtask : Subtask) → AskedFacts g w → Is (IsIn (AfterCancel callee number words)) t w → slice_get w.tasks callee ≡ Some task → subtask_of task.caller ≡ Some subtask
    → has_resolved task ≡ false → BlocksAsked t (InBuiltin number words (ForCancel (first_of words))) (in_state t Acting w)
cancel_blocks g w t callee number words task subtask facts a there guest unresolved =
    let x = in_this_state w t (AfterCancel callee number words) a in
    let cancels : CancelsTask w.insts x.0 callee = subst (λ (s : TaskState). CancelsSo w.insts (func_of x.0.callee) s callee) (sym x.2) refl in
    let not_over : CallIs w.tasks callee IsNotOver = not_told w callee task subtask facts.told there guest unresolved in
    let says : CancelStands w.tasks w.insts (func_of x.0.callee) (AfterCancel callee number words) = subst (CancelStands w.tasks w.insts (func_of x.0.callee)) x.2 (facts.cancels.stands t x.0 x.1) in (
      callee,
      state_first (λ (o : Outline). StandsIn w.insts (func_of o.callee) (first_of words) callee) (λ (o : Outline). StandsIn w.insts (func_of o.callee) (first_of words) callee) w t Acting (λ o k. k)
          (a.0, (outline_of x.0, outline_there w.tasks t x.0 x.1, stands_still (func_of x.0.callee) not_over says)),
      calls_acting w.tasks t callee IsNotOver not_over,
      asked_still (facts.cancels.asked t callee x.0 x.1 cancels),
      none_other x.0 x.1 cancels,
    )
  where
    stands_still : (f : Option Lifted) → CallIs w.tasks callee IsNotOver → CallIs w.tasks callee IsOver ⊎ StandsIn w.insts f (first_of words) callee → StandsIn w.insts f (first_of words) callee
    stands_still f not_over (inl over) = absurd (over_or_not w.tasks callee not_over over)
    stands_still f not_over (inr stands) = stands

    asked_still : TaskIs w.tasks callee WasAsked ⊎ (TaskIs w.tasks callee IsResolved × IsFirst t w.chain) → TaskIs (in_state t Acting w).tasks callee WasAsked
    asked_still (inl was) = still_is w.tasks t callee acts_again WasAsked (λ y k. k) was
    asked_still (inr now) = none_both (has_resolved task) (TaskIs (in_state t Acting w).tasks callee WasAsked) (resolved_over task (one_task w.tasks callee IsResolved task there now.0)) unresolved

    none_other : (x : Task) → slice_get w.tasks t ≡ Some x → CancelsTask w.insts x callee → NoOther (in_state t Acting w).tasks w.insts t callee
    none_other x at_t cancels u y apart at c = elim (changed_apart t acts_again w.tasks u y at) [
      | inl o ↦ apart (sym o.0)
      | inr old ↦ apart (facts.cancels.one t u callee x y at_t old.1 cancels c)
    ]

-- the same where the subtask is looked up once the task acts
still_open : (x : Task) → has_resolved (acts_again x) ≡ false → has_resolved x ≡ false
still_open x unresolved = by (has_resolved x) refl
  where
    by : (b : Bool) → has_resolved x ≡ b → has_resolved x ≡ false
    by false e = e
    by true e = none_both (has_resolved (acts_again x)) (has_resolved x ≡ false) (resolved_over (acts_again x) (over_resolved x e)) unresolved

pub blocks_then : (g : Graph) (w : World) (t callee number : ℕ) (words : List ℕ) (task : Task) (subtask : Subtask) → AskedFacts g w → Is (IsIn (AfterCancel callee number words)) t w → slice_get (in_state t Acting w).tasks callee ≡ Some task
    → subtask_of task.caller ≡ Some subtask → has_resolved task ≡ false → BlocksAsked t (InBuiltin number words (ForCancel (first_of words))) (in_state t Acting w)
blocks_then g w t callee number words task subtask facts a there guest unresolved = elim (changed_here t acts_again w.tasks callee task there) [
  | inl o ↦
      cancel_blocks g w t callee number words o.1.0 subtask facts a (subst (λ (n : ℕ). slice_get w.tasks n ≡ Some o.1.0) (sym o.0) o.1.1) (subst (λ (x : Task). subtask_of x.caller ≡ Some subtask) o.1.2 guest)
      (still_open o.1.0 (subst (λ (x : Task). has_resolved x ≡ false) o.1.2 unresolved))
  | inr old ↦ cancel_blocks g w t callee number words task subtask facts a old guest unresolved
]
