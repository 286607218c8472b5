-- Cancelled subtasks stand where the tasks that cancel them look for them, and so they do in every step.
use Rattle.std.proofs.Common.{◌≡◌, ◌≢◌, inl, inr, ℕ, zero, suc, true, false, List, [], ◌∷◌, length, drop, refl, sym, ap, ◌∙◌, subst, Option, Some}
use Rattle.std.specs.Prelude.{IsSome}
use Rattle.std.specs.List.{slice_get}
use Rattle.tasks.specs.Subtasks.{is_over, delivered, with_lend}
use Rattle.tasks.specs.Tasks.{is_unasked}
use Rattle.tasks.specs.declared.phase.Resolution.TheVariants.{Cancelled}
use Rattle.tasks.specs.declared.phase.Cancellation.TheVariants.{Asked}
use Rattle.tasks.specs.declared.subtask_state.SubtaskState.{SubtaskState}
use Rattle.comp_graph.specs.Graph.{Graph, Lifted}
use Rattle.script_reader.specs.Script.{Script}
use Rattle.abi_machine.specs.World.{OfSubtask, OfSet, Inst, Callee, Subtask, Host, Guest, ForYield, ForSet, ForCall, ForCopy, ForCancel, TaskState, New, Acting, AfterCall, AfterCancel, WaitsToEnter, InLoop, InBuiltin, Exited, Task, World, new_task, first_world}
use Rattle.abi_machine.specs.World as world
use Rattle.abi_machine.specs.Edits.{changed_at, caller_changed, by_view}
use Rattle.abi_machine.specs.Reading.{func_of}
use Rattle.abi_machine.specs.Cancelling.{first_of}
use Rattle.abi_machine.specs.sound.Changes.{Change, GoesTo, HasStore, SpendsUnit, UsesPicks, TakesItem, BeginsInstance, AddsEntry, MakesSet, RemovesEntry, RemovesWaitable, LeavesSet, JoinsSet, HasBackpressure, IsCalled, Calls, ComesBack, Acts, Begins, Cancels, Blocks, Exits, IsRemoved, Resolves, IsCancelled, HasWord, HasNewStack, HasStack, LosesStack, IsAnswered, IsTold, IsLent, HasResult, MakesChannel, Offers, Transfers, Concludes, DropsEnd, after, IsFirst, IsBlocked, IsLeft, MayCome}
use Rattle.abi_machine.specs.sound.Firsts.{TaskIs}
use Rattle.abi_machine.specs.sound.Tables.{HaveHistories}
use Rattle.abi_machine.specs.sound.Acting.{Outline, outline_of, outlines_of, WaitsWith, IsActing}
use Rattle.abi_machine.specs.sound.Subtasks.{CallIs}
use Rattle.abi_machine.specs.sound.Owners.{IsApart, IsOwnWorld}
use Rattle.abi_machine.specs.sound.Cancels.{StandsIn, CancelsTask, IsResolved, WasAsked, IsOver, IsNotOver, CancelStands, AreCancelled, HasCancels, FirstHasCancels, CancelsStay}
use Rattle.abi_machine.proofs.sound.Found.{some_same, changed_there}
use Rattle.abi_machine.proofs.sound.Aside.{channel_kept, made_kept}
use Rattle.abi_machine.proofs.sound.Chained.{no_first, changed_here, changed_apart, other_there}
use Rattle.abi_machine.proofs.sound.Outlines.{outline_there, Is, as_is, is_what, acting_waits}
use Rattle.abi_machine.proofs.sound.Histories.{histories_kept}
use Rattle.abi_machine.proofs.sound.Joined.{live_added}
use Rattle.abi_machine.proofs.sound.Ordered.{in_order}
use Rattle.abi_machine.proofs.sound.Awaited.{KeepsCall, same_call, by_call, call_changed}
use Rattle.abi_machine.proofs.sound.acts.Keeping.{Order}
use Rattle.abi_machine.proofs.sound.own.Kept.{own_kept, own_removed}
use Rattle.abi_machine.proofs.sound.known.Asked.{NoOther, TellsWell, IsUnasked, CancelsWell, BlocksAsked}
use Rattle.abi_machine.proofs.sound.known.Asking.{over_or_not}
use Rattle.abi_machine.proofs.sound.known.Keeping.{Besides, Owns, Walk}
use Rattle.abi_machine.proofs.sound.known.Beside.{was_known, stands_so, wakes_so}
use Rattle.abi_machine.proofs.sound.known.Turning.{step_known}
use Rattle.abi_machine.proofs.sound.CancelEdits.{one_stands_in, by_tables, all_stand, same_stand, begun_stand, removed_stand, NotOverFor, edited, sets, state_set, none_set, rechained, one_more}

-- Each change keeps it.

-- a subtask is told of a state
abbrev tells : SubtaskState → ℕ → Task → Task
tells state t task = record task { caller = caller_changed (by_view delivered t state) task.caller }

told_over : (w : World) (t : ℕ) (state : SubtaskState) → TellsWell w t state → (callee : ℕ) → CallIs w.tasks callee IsOver → CallIs (after (IsTold t state) w).tasks callee IsOver
told_over w t state (inl well) callee h = call_changed w.tasks t (tells state t) IsOver callee (by_call IsOver (by_view delivered t state) (λ x p. well.0)) h
told_over w t state (inr well) callee h = (
  h.0,
  other_there t callee (tells state t) w.tasks (λ same. over_or_not w.tasks t well.1 (subst (λ (n : ℕ). CallIs w.tasks n IsOver) (sym same) h)) ∙ h.1,
  h.2,
)

told_not_over : (w : World) (u : ℕ) (state : SubtaskState) → TellsWell w u state → (t : ℕ) (task : Task) → slice_get w.tasks t ≡ Some task → NotOverFor w.tasks (after (IsTold u state) w).tasks w.insts (func_of task.callee) task.state
told_not_over w u state (inl well) t task there number index callee words is stands h = (
  h.0,
  other_there u callee (tells state u) w.tasks (λ same. well.1 t number index words task there is (subst (λ (n : ℕ). StandsIn w.insts (func_of task.callee) index n) (sym same) stands)) ∙ h.1,
  h.2,
)
told_not_over w u state (inr well) t task there number index callee words is stands h =
    call_changed w.tasks u (tells state u) IsNotOver callee (by_call IsNotOver (by_view delivered u state) (λ x p. well.0)) h

-- what leaves the caller's side of calls alone, and what leaves of it what was told alone
module _ (w : World) (u : ℕ) (f : Task → Task) (callees : (x : Task) → (f x).callee ≡ x.callee) (states : (x : Task) → (f x).state ≡ x.state)
    (resolved : (x : Task) → IsResolved x → IsResolved (f x)) (asked : (x : Task) → WasAsked x → WasAsked (f x)) (over : KeepsCall IsOver f) (not_over : KeepsCall IsNotOver f) where
  quietly : HasCancels w → AreCancelled (changed_at u f w.tasks) w.insts w.chain
  quietly h =
      edited w.tasks w.insts w.chain u f callees states resolved asked (λ callee k. call_changed w.tasks u f IsOver callee over k)
      (λ t task there number index callee words is stands k. call_changed w.tasks u f IsNotOver callee not_over k) h

untouched : (w : World) (u : ℕ) (f : Task → Task) → ((x : Task) → (f x).callee ≡ x.callee) → ((x : Task) → (f x).state ≡ x.state) → ((x : Task) → (f x).caller ≡ x.caller)
    → ((x : Task) → IsResolved x → IsResolved (f x)) → ((x : Task) → WasAsked x → WasAsked (f x)) → HasCancels w → AreCancelled (changed_at u f w.tasks) w.insts w.chain
untouched w u f callees states callers resolved asked h = quietly w u f callees states resolved asked (same_call IsOver f callers) (same_call IsNotOver f callers) h

called_so : (w : World) (u : ℕ) (f : Subtask → Subtask) → ((x : Subtask) → (f x).told ≡ x.told) → HasCancels w → AreCancelled (changed_at u (λ task. record task { caller = caller_changed f task.caller }) w.tasks) w.insts w.chain
called_so w u f same h =
    quietly w u (λ task. record task { caller = caller_changed f task.caller }) (λ x. refl) (λ x. refl) (λ x k. k) (λ x k. k) (by_call IsOver f (λ x p. ap is_over (same x) ∙ p)) (by_call IsNotOver f (λ x p. ap is_over (same x) ∙ p)) h

-- the acting task is first
first_only : (chain : List ℕ) (u : ℕ) → IsFirst u chain → (t : ℕ) → u ≢ t → IsFirst t chain → ⊥
first_only chain u first t apart k = apart (some_same (sym first ∙ k))

-- a task that blocks, until a subtask has resolved too
blocked_kept : (w : World) (t : ℕ) (state : TaskState) → IsFirst t w.chain → IsBlocked state → BlocksAsked t state w → HasCancels w → HasCancels (after (Blocks t state) w)
blocked_kept w t (InBuiltin number words (ForCancel index)) first is well h =
    state_set w.tasks w.insts w.chain (drop 1 w.chain) t (InBuiltin number words (ForCancel index))
    (λ x e. (well.0, is_what (λ (o : Outline). StandsIn w.insts (func_of o.callee) index well.0) t w (outline_of x) well.1 (outline_there w.tasks t x e), well.2))
    (λ x callee e c.
    let here : StandsIn w.insts (func_of x.callee) index well.0 = is_what (λ (o : Outline). StandsIn w.insts (func_of o.callee) index well.0) t w (outline_of x) well.1 (outline_there w.tasks t x e) in
    let same : well.0 ≡ callee = one_stands_in w.insts (func_of x.callee) index well.0 callee here c in
    (inl (subst (λ (n : ℕ). TaskIs w.tasks n WasAsked) same well.3), subst (NoOther w.tasks w.insts t) same well.4))
    (λ u apart k. absurd (first_only w.chain t first u apart k)) h
blocked_kept w t WaitsToEnter first is well h = none_set w.tasks w.insts w.chain (drop 1 w.chain) t WaitsToEnter tt (λ u apart k. absurd (first_only w.chain t first u apart k)) h
blocked_kept w t (InLoop word) first is well h = none_set w.tasks w.insts w.chain (drop 1 w.chain) t (InLoop word) tt (λ u apart k. absurd (first_only w.chain t first u apart k)) h
blocked_kept w t (InBuiltin number words ForYield) first is well h = none_set w.tasks w.insts w.chain (drop 1 w.chain) t (InBuiltin number words ForYield) tt (λ u apart k. absurd (first_only w.chain t first u apart k)) h
blocked_kept w t (InBuiltin number words (ForSet index)) first is well h =
    none_set w.tasks w.insts w.chain (drop 1 w.chain) t (InBuiltin number words (ForSet index)) tt (λ u apart k. absurd (first_only w.chain t first u apart k)) h
blocked_kept w t (InBuiltin number words (ForCall callee)) first is well h =
    none_set w.tasks w.insts w.chain (drop 1 w.chain) t (InBuiltin number words (ForCall callee)) tt (λ u apart k. absurd (first_only w.chain t first u apart k)) h
blocked_kept w t (InBuiltin number words (ForCopy index)) first is well h =
    none_set w.tasks w.insts w.chain (drop 1 w.chain) t (InBuiltin number words (ForCopy index)) tt (λ u apart k. absurd (first_only w.chain t first u apart k)) h
blocked_kept w t New first is well h = absurd is
blocked_kept w t Acting first is well h = absurd is
blocked_kept w t (AfterCall callee number words) first is well h = absurd is
blocked_kept w t (AfterCancel callee number words) first is well h = absurd is
blocked_kept w t (world.Begins n) first is well h = absurd is
blocked_kept w t Exited first is well h = absurd is

-- The acting task cancels a subtask that stands at its index and was not asked: what else is known of it is asked of what follows.
none_unasked : (tasks : List Task) (callee : ℕ) → TaskIs tasks callee IsUnasked → TaskIs tasks callee WasAsked → ⊥
none_unasked tasks callee h k = (let clash : true ≡ false = sym h.2 ∙ (ap (λ (x : Task). is_unasked x.cancellation) (some_same (sym h.1 ∙ k.1)) ∙ k.2) in cc)

cancels_alone : (w : World) (t callee : ℕ) (words : List ℕ) → IsFirst t w.chain → CancelsWell w t callee words → HasCancels w → NoOther w.tasks w.insts t callee
cancels_alone w t callee words first well h u y apart there c = elim (h.asked u callee y there c) [
  | inl was ↦ none_unasked w.tasks callee well.0 was
  | inr now ↦ first_only w.chain t first u apart now.1
]

asks_says : (w : World) (t callee number : ℕ) (words : List ℕ) → CancelsWell w t callee words → (x : Task) → slice_get w.tasks t ≡ Some x → CancelStands w.tasks w.insts (func_of x.callee) (AfterCancel callee number words)
asks_says w t callee number words well x e = inr (is_what (λ (o : Outline). StandsIn w.insts (func_of o.callee) (first_of words) callee) t w (outline_of x) well.1 (outline_there w.tasks t x e))

resolved_kept : (w : World) (t callee number : ℕ) (words : List ℕ) → IsFirst t w.chain → CancelsWell w t callee words → TaskIs w.tasks callee IsResolved → HasCancels w → HasCancels (after (Cancels t callee number words) w)
resolved_kept w t callee number words first well resolved h =
    state_set w.tasks w.insts w.chain w.chain t (AfterCancel callee number words) (asks_says w t callee number words well)
    (λ x other e c. (inr (subst (λ (n : ℕ). TaskIs w.tasks n IsResolved) c resolved, first), subst (NoOther w.tasks w.insts t) c (cancels_alone w t callee words first well h))) (λ u apart k. k) h

-- Changes of two tasks.
commute : (a b : ℕ) (f k : Task → Task) → ((x : Task) → f (k x) ≡ k (f x)) → (tasks : List Task) → changed_at a f (changed_at b k tasks) ≡ changed_at b k (changed_at a f tasks)
commute a b f k same [] = refl
commute zero zero f k same (x ∷ tasks) = ap (λ (y : Task). y ∷ tasks) (same x)
commute zero (suc b) f k same (x ∷ tasks) = refl
commute (suc a) zero f k same (x ∷ tasks) = refl
commute (suc a) (suc b) f k same (x ∷ tasks) = ap (λ (l : List Task). x ∷ l) (commute a b f k same tasks)

commute_apart : (a b : ℕ) (f k : Task → Task) → a ≢ b → (tasks : List Task) → changed_at a f (changed_at b k tasks) ≡ changed_at b k (changed_at a f tasks)
commute_apart a b f k apart [] = refl
commute_apart zero zero f k apart (x ∷ tasks) = absurd (apart refl)
commute_apart zero (suc b) f k apart (x ∷ tasks) = refl
commute_apart (suc a) zero f k apart (x ∷ tasks) = refl
commute_apart (suc a) (suc b) f k apart (x ∷ tasks) = ap (λ (l : List Task). x ∷ l) (commute_apart a b f k (λ same. apart (ap suc same)) tasks)

-- what no other task cancels, and where a subtask stands, once what is not said of them is changed
none_edited : (tasks : List Task) (insts : List Inst) (t callee c : ℕ) (f : Task → Task) → ((x : Task) (n : ℕ) → CancelsTask insts (f x) n → CancelsTask insts x n) → NoOther tasks insts t callee → NoOther (changed_at c f tasks) insts t callee
none_edited tasks insts t callee c f back h u y apart there cancels = elim (changed_here c f tasks u y there) [
  | inl o ↦ h u o.1.0 apart (subst (λ (n : ℕ). slice_get tasks n ≡ Some o.1.0) (sym o.0) o.1.1) (back o.1.0 callee (subst (λ (x : Task). CancelsTask insts x callee) o.1.2 cancels))
  | inr old ↦ h u y apart old cancels
]

func_edited : (P : Option Lifted → Type 0) (tasks : List Task) (t c : ℕ) (f : Task → Task) → ((x : Task) → (f x).callee ≡ x.callee) → ((x : Task) → slice_get tasks t ≡ Some x → P (func_of x.callee)) → (y : Task)
    → slice_get (changed_at c f tasks) t ≡ Some y → P (func_of y.callee)
func_edited P tasks t c f same h y there = elim (changed_here c f tasks t y there) [
  | inl o ↦ subst (λ (x : Task). P (func_of x.callee)) (sym o.1.2) (subst (λ (x : Callee). P (func_of x)) (sym (same o.1.0)) (h o.1.0 (subst (λ (n : ℕ). slice_get tasks n ≡ Some o.1.0) (sym o.0) o.1.1)))
  | inr old ↦ h y old
]

-- It is asked, and the task that asks for it waits.
abbrev asks : Task → Task
asks task = record task { cancellation = Asked }

asks_kept : (w : World) (t callee number : ℕ) (words : List ℕ) (task : Task) → IsFirst t w.chain → slice_get w.tasks callee ≡ Some task → CancelsWell w t callee words → HasCancels w
    → HasCancels (after (IsCancelled callee Asked) (after (Cancels t callee number words) w))
asks_kept w t callee number words task first there well h =
    let state : TaskState = AfterCancel callee number words in
    let tasks : List Task = changed_at callee asks w.tasks in
    let now : AreCancelled tasks w.insts w.chain = untouched w callee asks (λ x. refl) (λ x. refl) (λ x. refl) (λ x k. k) (λ x k. refl) h in
    let was : TaskIs tasks callee WasAsked = (asks task, changed_there callee asks w.tasks task there, refl) in
    let alone : NoOther tasks w.insts t callee = none_edited w.tasks w.insts t callee callee asks (λ x n c. c) (cancels_alone w t callee words first well h) in
    subst (λ (all : List Task). AreCancelled all w.insts w.chain) (sym (commute callee t asks (sets state) (λ x. refl) w.tasks))
    (state_set tasks w.insts w.chain w.chain t state
    (λ y e. inr (func_edited (λ (f : Option Lifted). StandsIn w.insts f (first_of words) callee) w.tasks t callee asks (λ x. refl)
    (λ x k. is_what (λ (o : Outline). StandsIn w.insts (func_of o.callee) (first_of words) callee) t w (outline_of x) well.1 (outline_there w.tasks t x k)) y e))
    (λ x other e c. (inl (subst (λ (n : ℕ). TaskIs tasks n WasAsked) c was), subst (NoOther tasks w.insts t) c alone)) (λ u apart k. k) now)

-- all that is cancelled was asked, so that another task comes to the front
in_front : (tasks : List Task) (insts : List Inst) (chain later : List ℕ) → ((t callee : ℕ) (task : Task) → IsFirst t chain → slice_get tasks t ≡ Some task → CancelsTask insts task callee → TaskIs tasks callee WasAsked)
    → AreCancelled tasks insts chain → AreCancelled tasks insts later
in_front tasks insts chain later was h = record {
  stands = h.stands;
  asked = λ t callee task e c. elim (h.asked t callee task e c) [
    | inl asked ↦ inl asked
    | inr now ↦ inl (was t callee task now.1 e c)
  ];
  one = h.one;
}

-- a task that waits behind a cancellation cancels that task
cancels_that : (tasks : List Task) (insts : List Inst) (t callee number : ℕ) (words : List ℕ) (x : Task) (other : ℕ) → slice_get (changed_at t (sets (AfterCancel callee number words)) tasks) t ≡ Some x → CancelsTask insts x other → callee ≡ other
cancels_that tasks insts t callee number words x other e c = elim (changed_apart t (sets (AfterCancel callee number words)) tasks t x e) [
  | inl o ↦ subst (λ (y : Task). CancelsTask insts y other) o.1.2 c
  | inr old ↦ absurd (old.0 refl)
]

comes_asked_kept : (w : World) (t callee number : ℕ) (words : List ℕ) (task : Task) → t ≢ callee → IsFirst t w.chain → slice_get w.tasks callee ≡ Some task → CancelsWell w t callee words → HasCancels w
    → HasCancels (after (ComesBack callee) (after (IsCancelled callee Asked) (after (Cancels t callee number words) w)))
comes_asked_kept w t callee number words task apart first there well h =
    let state : TaskState = AfterCancel callee number words in
    let before : List Task = changed_at t (sets state) w.tasks in
    let tasks : List Task = changed_at callee asks before in
    let at : slice_get before callee ≡ Some task = other_there t callee (sets state) w.tasks apart ∙ there in
    let was : TaskIs tasks callee WasAsked = (asks task, changed_there callee asks before task at, refl) in
    in_front tasks w.insts w.chain (callee ∷ w.chain)
    (λ u other x k e c.
    let same : u ≡ t = some_same (sym k ∙ first) in
    let here : slice_get tasks t ≡ Some x = subst (λ (n : ℕ). slice_get tasks n ≡ Some x) same e in
    let back : slice_get before t ≡ Some x = sym (other_there callee t asks before (λ eq. apart (sym eq))) ∙ here in
    subst (λ (n : ℕ). TaskIs tasks n WasAsked) (cancels_that w.tasks w.insts t callee number words x other back c) was) (asks_kept w t callee number words task first there well h)

-- One that waits to enter is removed.
abbrev removes : Task → Task
removes task = record task { resolution = Some Cancelled }

removed_kept : (w : World) (t : ℕ) → HasCancels w → HasCancels (after (IsRemoved t) w)
removed_kept w t h =
    none_set (changed_at t removes w.tasks) w.insts w.chain w.chain t Exited tt (λ u apart k. k)
    (untouched w t removes (λ x. refl) (λ x. refl) (λ x. refl) (λ x k. refl) (λ x k. k) h)

removed_asked_kept : (w : World) (t callee number : ℕ) (words : List ℕ) (task : Task) → t ≢ callee → IsFirst t w.chain → slice_get w.tasks callee ≡ Some task → CancelsWell w t callee words → HasCancels w
    → HasCancels (after (IsRemoved callee) (after (Cancels t callee number words) w))
removed_asked_kept w t callee number words task apart first there well h =
    let state : TaskState = AfterCancel callee number words in
    let resolved : List Task = changed_at callee removes w.tasks in
    let tasks : List Task = changed_at callee (sets Exited) resolved in
    let is : TaskIs tasks callee IsResolved = (
      sets Exited (removes task),
      changed_there callee (sets Exited) resolved (removes task) (changed_there callee removes w.tasks task there),
      refl,
    ) in
    let other : callee ≢ t = λ eq. apart (sym eq) in
    let swapped : changed_at callee (sets Exited) (changed_at callee removes (changed_at t (sets state) w.tasks)) ≡ changed_at t (sets state) tasks =
    ap (λ (l : List Task). changed_at callee (sets Exited) l) (commute_apart callee t removes (sets state) other w.tasks) ∙ commute_apart callee t (sets Exited) (sets state) other resolved in
    let alone : NoOther tasks w.insts t callee =
    none_edited resolved w.insts t callee callee (sets Exited) (λ x n c. absurd c) (none_edited w.tasks w.insts t callee callee removes (λ x n c. c) (cancels_alone w t callee words first well h)) in
    let stands : (x : Task) → slice_get w.tasks t ≡ Some x → StandsIn w.insts (func_of x.callee) (first_of words) callee =
    λ x k. is_what (λ (o : Outline). StandsIn w.insts (func_of o.callee) (first_of words) callee) t w (outline_of x) well.1 (outline_there w.tasks t x k) in
    let P : Option Lifted → Type 0 = λ f. StandsIn w.insts f (first_of words) callee in
    subst (λ (all : List Task). AreCancelled all w.insts w.chain) (sym swapped)
    (state_set tasks w.insts w.chain w.chain t state
    (λ y e. inr (func_edited P resolved t callee (sets Exited) (λ x. refl) (func_edited P w.tasks t callee removes (λ x. refl) stands) y e))
    (λ x n e c. (inr (subst (λ (m : ℕ). TaskIs tasks m IsResolved) c is, first), subst (NoOther tasks w.insts t) c alone)) (λ u differs k. k) (removed_kept w callee h))

-- Changes one by one.
cancels_kept : (g : Graph) (s : Script) (F : Type 0) (c : Change) (w : World) → MayCome g s c w → Besides F (Unit {0}) ⊥ ⊥ g c w → HaveHistories w.insts → HasCancels w → HasCancels (after c w)
cancels_kept g s F BeginsInstance w may b history h = by_tables w.tasks w.insts _ w.chain (begun_stand w.tasks w.insts) h
cancels_kept g s F (AddsEntry i entry) w may b history h =
    by_tables w.tasks w.insts _ w.chain (all_stand w.tasks w.insts i _ (λ x index callee old there. live_added x.table entry (OfSubtask callee) index old there) history) h
cancels_kept g s F (MakesSet i set) w may b history h =
    by_tables w.tasks (after (AddsEntry i (OfSet set)) w).insts _ w.chain (same_stand w.tasks (after (AddsEntry i (OfSet set)) w).insts i _ (λ x. refl))
    (by_tables w.tasks w.insts _ w.chain (all_stand w.tasks w.insts i _ (λ x index callee old there. live_added x.table (OfSet set) (OfSubtask callee) index old there) history) h)
cancels_kept g s F (RemovesEntry i index) w may b history h =
    by_tables w.tasks w.insts _ w.chain (removed_stand w.tasks w.insts i index (λ callee there. absurd (subst (IsLeft w i) (some_same (sym may.1 ∙ there)) may.2))) h
cancels_kept g s F (RemovesWaitable i index) w may b history h =
    by_tables w.tasks (after (RemovesEntry i index) w).insts _ w.chain (same_stand w.tasks (after (RemovesEntry i index) w).insts i _ (λ x. refl)) (by_tables w.tasks w.insts _ w.chain (removed_stand w.tasks w.insts i index (b.0 tt)) h)
cancels_kept g s F (LeavesSet i index) w may b history h = by_tables w.tasks w.insts _ w.chain (same_stand w.tasks w.insts i _ (λ x. refl)) h
cancels_kept g s F (JoinsSet i index set) w may b history h = by_tables w.tasks w.insts _ w.chain (same_stand w.tasks w.insts i _ (λ x. refl)) h
cancels_kept g s F (HasBackpressure i backpressure) w may b history h = by_tables w.tasks w.insts _ w.chain (same_stand w.tasks w.insts i _ (λ x. refl)) h
cancels_kept g s F (IsCalled callee call values) w may b history h =
    one_more w.tasks w.insts (length w.tasks ∷ w.chain) (new_task callee (Host call values) New) tt
    (rechained w.tasks w.insts w.chain (length w.tasks ∷ w.chain) (λ t k. absurd (no_first 0 t (subst (λ (chain : List ℕ). IsFirst t chain) may.1 k))) h)
cancels_kept g s F (Calls number callee subtask words) w may b history h =
    let state : TaskState = AfterCall (length w.tasks) number words in
    let tasks : List Task = changed_at subtask.by (sets state) w.tasks in
    one_more tasks w.insts (length tasks ∷ w.chain) (new_task callee (Guest subtask) New) tt
    (none_set w.tasks w.insts w.chain (length tasks ∷ w.chain) subtask.by state tt (λ t apart k. absurd (first_only w.chain subtask.by may.2 t apart k)) h)
cancels_kept g s F (ComesBack t) w may b history h = absurd b
cancels_kept g s F (Acts t) w may b history h = none_set w.tasks w.insts w.chain w.chain t Acting tt (λ u apart k. k) h
cancels_kept g s F (Begins n) w may b history h = none_set w.tasks w.insts w.chain w.chain 0 (world.Begins n) tt (λ u apart k. k) h
cancels_kept g s F (Cancels t callee number words) w may b history h = resolved_kept w t callee number words may.0 (b.3 tt).0 (b.3 tt).1 h
cancels_kept g s F (Blocks t state) w may b history h = blocked_kept w t state may.0 may.1 (b.2 tt) h
cancels_kept g s F (Exits t) w may b history h = none_set w.tasks w.insts w.chain (drop 1 w.chain) t Exited tt (λ u apart k. absurd (first_only w.chain t may u apart k)) h
cancels_kept g s F (IsRemoved t) w may b history h = absurd b
cancels_kept g s F (Resolves t resolution) w may b history h = untouched w t (λ x. record x { resolution = Some resolution }) (λ x. refl) (λ x. refl) (λ x. refl) (λ x k. refl) (λ x k. k) h
cancels_kept g s F (IsCancelled t cancellation) w may b history h = untouched w t (λ x. record x { cancellation = cancellation }) (λ x. refl) (λ x. refl) (λ x. refl) (λ x k. k) (λ x k. b) h
cancels_kept g s F (HasWord t slot word) w may b history h = untouched w t _ (λ x. refl) (λ x. refl) (λ x. refl) (λ x k. k) (λ x k. k) h
cancels_kept g s F (HasNewStack t k) w may b history h = untouched w t _ (λ x. refl) (λ x. refl) (λ x. refl) (λ x k. k) (λ x k. k) h
cancels_kept g s F (HasStack t k) w may b history h = untouched w t _ (λ x. refl) (λ x. refl) (λ x. refl) (λ x k. k) (λ x k. k) h
cancels_kept g s F (LosesStack t) w may b history h = untouched w t _ (λ x. refl) (λ x. refl) (λ x. refl) (λ x k. k) (λ x k. k) h
cancels_kept g s F (IsAnswered t words) w may b history h = untouched w t _ (λ x. refl) (λ x. refl) (λ x. refl) (λ x k. k) (λ x k. k) h
cancels_kept g s F (IsTold t state) w may b history h =
    edited w.tasks w.insts w.chain t (tells state t) (λ x. refl) (λ x. refl) (λ x k. k) (λ x k. k) (told_over w t state (b.1 tt)) (told_not_over w t state (b.1 tt)) h
cancels_kept g s F (IsLent t handle) w may b history h = called_so w t (λ subtask. by_view (with_lend handle) t subtask.told subtask) (λ x. refl) h
cancels_kept g s F (HasResult t words) w may b history h = called_so w t (λ subtask. record subtask { result = words }) (λ x. refl) h
cancels_kept g s F (MakesChannel kind element) w may b history h = made_kept HasCancels (λ v x k. k) (λ v x k. k) kind element w h
cancels_kept g s F (Offers e call) w may b history h = channel_kept HasCancels (λ v x k. k) (λ v x k. k) e.kind e.number _ w h
cancels_kept g s F (Transfers e size values) w may b history h =
    channel_kept HasCancels (λ v x k. k) (λ v x k. k) e.kind e.number _ _ (channel_kept HasCancels (λ v x k. k) (λ v x k. k) e.kind e.number _ w h)
cancels_kept g s F (Concludes e) w may b history h = channel_kept HasCancels (λ v x k. k) (λ v x k. k) e.kind e.number _ w h
cancels_kept g s F (DropsEnd e) w may b history h = channel_kept HasCancels (λ v x k. k) (λ v x k. k) e.kind e.number _ w h
cancels_kept g s F (GoesTo control) w may b history h = h
cancels_kept g s F (HasStore store) w may b history h = h
cancels_kept g s F SpendsUnit w may b history h = h
cancels_kept g s F (UsesPicks picks) w may b history h = h
cancels_kept g s F TakesItem w may b history h = h

-- what each change keeps
abbrev Kept : Graph → World → Type 0
Kept g w = HaveHistories w.insts × IsOwnWorld g w × HasCancels w

-- one that acts is not one that is blocked
acts_apart : (w : World) (t callee : ℕ) (task : Task) → Is (IsActing true) t w → slice_get w.tasks callee ≡ Some task → IsBlocked task.state → t ≢ callee
acts_apart w t callee task a there blocked same =
    let here : a.1.0 ≡ outline_of task = some_same (sym a.1.1 ∙ (ap (λ (n : ℕ). slice_get (outlines_of w.tasks) n) same ∙ outline_there w.tasks callee task there)) in
    subst IsBlocked (sym (ap (λ (o : Outline). o.state) here) ∙ a.1.2.1) blocked

-- each change keeps it
stays_so : (g : Graph) (s : Script) (o : Order g s) (c : Change) (w : World) → MayCome g s c w → Besides (Unit {0}) (Unit {0}) ⊥ ⊥ g c w → (Unit {0} → Owns g c w) → o.Holds w × Kept g w → o.Holds (after c w) × Kept g (after c w)
stays_so g s o c w may b belongs h =
    (o.stays c w may (was_known (Unit {0}) (Unit {0}) ⊥ ⊥ g c w b) h.0, (histories_kept g s c w may h.1.0, own_kept g s c w may (belongs tt) h.1.1, cancels_kept g s (Unit {0}) c w may b h.1.0 h.1.2))

unfoldable walking : (g : Graph) (s : Script) → IsApart g → Walk g s
unfolding in_order
walking g s apart = (let o : Order g s = in_order g s in record {
  Given = Unit {0};
  Apart = Unit {0};
  Event = ⊥;
  Asks = Unit {0};
  Copies = ⊥;
  Joins = ⊥;
  Holds = λ w. o.Holds w × Kept g w;
  alone = λ w h. o.alone w h.0;
  chained = λ w h. o.chained w h.0;
  stacked = λ w h. o.stacked w h.0;
  graph = λ a. apart;
  events = λ event. absurd event;
  asks_apart = λ a. tt;
  own = λ a w h. h.1.1;
  stays = stays_so g s o;
  stands = stands_so g s (Unit {0}) (Unit {0}) ⊥ (Unit {0}) (λ w. o.Holds w × Kept g w) (stays_so g s o);
  wakes = wakes_so g s (Unit {0}) (Unit {0}) ⊥ (Unit {0}) (λ w. o.Holds w × Kept g w) (stays_so g s o);
  comes = λ t w task there runs is idle h. (
    o.comes t w task there runs is idle h.0,
    (h.1.0, h.1.1, rechained w.tasks w.insts w.chain (t ∷ w.chain) (λ u k. absurd (no_first 0 u (subst (λ (chain : List ℕ). IsFirst u chain) idle k))) h.1.2),
  );
  removed = λ t w task there runs waits idle h. (o.removed t w task there runs waits idle h.0, (h.1.0, own_removed g t w h.1.1, removed_kept w t h.1.2));
  comes_asked = λ t callee number words w task a free there runs is alone well calls h. (
    o.comes_asked t callee number words w task a free there runs is h.0,
    (
      h.1.0,
      own_kept g s (IsCancelled callee Asked) (after (Cancels t callee number words) w) tt tt (own_kept g s (Cancels t callee number words) w (a.0, free) (calls tt) h.1.1),
      comes_asked_kept w t callee number words task (acts_apart w t callee task a there is) a.0 there (well tt) h.1.2,
    ),
  );
  removed_asked = λ t callee number words w task a free there runs waits alone well calls h. (
    o.removed_asked t callee number words w task a free there runs waits h.0,
    (
      h.1.0,
      own_removed g callee (after (Cancels t callee number words) w) (own_kept g s (Cancels t callee number words) w (a.0, free) (calls tt) h.1.1),
      removed_asked_kept w t callee number words task (acts_apart w t callee task a there (subst IsBlocked (sym waits) tt)) a.0 there (well tt) h.1.2,
    ),
  );
  pending_asked = λ t callee number words w task a free there alone well calls h.
      let some : IsSome (slice_get w.tasks callee) = subst (λ (x : Option Task). IsSome x) (sym there) refl in (
        o.stays (IsCancelled callee Asked) (after (Cancels t callee number words) w) tt tt (o.stays (Cancels t callee number words) w (a.0, free) (as_is (IsActing true) (WaitsWith true) t w (acting_waits true) a) h.0),
        (
          h.1.0,
          own_kept g s (IsCancelled callee Asked) (after (Cancels t callee number words) w) tt tt (own_kept g s (Cancels t callee number words) w (a.0, free) (calls tt) h.1.1),
          asks_kept w t callee number words task a.0 there (well tt) h.1.2,
        ),
      );
})

pub first_has_cancels : FirstHasCancels
first_has_cancels g = record {
  stands = λ t task e. by t task e;
  asked = λ t callee task e c. absurd (none t task e callee c);
  one = λ t u callee x y at there c d. absurd (none t x at callee c);
}
  where
    by : (t : ℕ) (task : Task) → slice_get (first_world g).tasks t ≡ Some task → CancelStands (first_world g).tasks (first_world g).insts (func_of task.callee) task.state
    by zero task e = subst (λ (x : Task). CancelStands (first_world g).tasks (first_world g).insts (func_of x.callee) x.state) (some_same e) tt
    by (suc t) task e = absurd (no_first t task e)

    none : (t : ℕ) (task : Task) → slice_get (first_world g).tasks t ≡ Some task → (callee : ℕ) → CancelsTask (first_world g).insts task callee → ⊥
    none zero task e callee c = subst (λ (x : Task). CancelsTask (first_world g).insts x callee) (sym (some_same e)) c
    none (suc t) task e callee c = absurd (no_first t task e)

pub cancels_stay : CancelsStay
unfolding walking in_order
cancels_stay g s w v labels apart alone o history called subtasks told own says cancels e =
    (step_known (walking g s apart) w v labels (λ given. record { called = called; subtasks = subtasks })
    (λ asks. record { called = called; subtasks = subtasks; told = told; cancels = cancels }) (λ copies. absurd copies) (λ a. says) (λ event. absurd event) alone.1 o.2 ((alone.0, o.0, o.1), (history, own, cancels)) e).0.1.2
