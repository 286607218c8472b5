-- States of subtasks that are kept beside tasks.
use Rattle.std.proofs.Common.{◌≡◌, ◌⊎◌, inl, inr, ℕ, zero, suc, Bool, true, false, if◌then◌else◌, List, [], ◌∷◌, length, slice_set, refl, sym, ap, ◌∙◌, subst, Option, Some, None}
use Rattle.std.specs.List.{slice_get}
use Rattle.std.proofs.lemmas.Bool.{not-true}
use Rattle.tasks.specs.declared.event.BlockedAt.{BlockedAt}
use Rattle.tasks.specs.declared.phase.Cancellation.{Cancellation}
use Rattle.tasks.specs.declared.phase.Phase.{Phase}
use Rattle.tasks.specs.declared.phase.Phase.TheVariants as phase
use Rattle.tasks.specs.declared.phase.Resolution.{Resolution}
use Rattle.tasks.specs.declared.phase.Resolution.TheVariants as resolution
use Rattle.tasks.specs.declared.subtask_state.SubtaskState.{SubtaskState}
use Rattle.tasks.specs.declared.subtask_state.SubtaskState.TheVariants as state
use Rattle.tasks.specs.Tasks.{resolved_state, open_state, is_acting, is_entry, waits_inside}
use Rattle.tasks.specs.Subtasks.{follows, has_event, delivered, raised}
use Rattle.task_table.specs.declared.caller.Called.{Called}
use Rattle.task_table.specs.declared.caller.Caller.{Caller}
use Rattle.task_table.specs.declared.caller.Caller.TheVariants.{Nobody, Host, Guest}
use Rattle.task_table.specs.declared.slot.TaskSlot.{TaskSlot}
use Rattle.task_table.specs.Callers as callers
use Rattle.task_table.specs.Callers.{changed, may_raise}
use Rattle.abi_machine.proofs.sound.Found.{some_same}
use Rattle.abi_machine.proofs.sound.Lists.{more_either}
use Rattle.standing.specs.Marks.{CallMarked, CallerMarked, StateMarked, StatesChange, StatesAreMade, NewIsMarked, StatesRise, StatesStay, BlockedStays, GoingStays, TellingStays, KeepingStays, AwaitingStays, EnteredIsStarted, ReturnedIsReturned, CancelledIsCancelled}

-- what stands in a list in which an item is another one
set_either : {A : Type 0} (xs : List A) (t : ℕ) (y : A) (n : ℕ) (z : A) → slice_get (slice_set xs t y) n ≡ Some z → ((n ≡ t) × (z ≡ y)) ⊎ (slice_get xs n ≡ Some z)
set_either [] t y n z e = inr e
set_either (x ∷ xs) zero y zero z e = inl (refl, sym (some_same e))
set_either (x ∷ xs) zero y (suc n) z e = inr e
set_either (x ∷ xs) (suc t) y zero z e = inr e
set_either (x ∷ xs) (suc t) y (suc n) z e = elim (set_either xs t y n z e) [
  | inl new ↦ inl (ap suc new.0, new.1)
  | inr old ↦ inr old
]

pub states_change : StatesChange
states_change tasks t x y is keeps marked n slot e = elim (set_either tasks t y n slot e) [
  | inl new ↦ subst (λ (k : ℕ). StateMarked k slot) (sym new.0) (subst (λ (s : TaskSlot). StateMarked t s) (sym new.1) (keeps (marked t x is)))
  | inr old ↦ marked n slot old
]

pub states_are_made : StatesAreMade
states_are_made tasks new marked all n slot e = elim (more_either tasks new n slot e) [
  | inl old ↦ all n slot old
  | inr last ↦ subst (λ (k : ℕ). StateMarked k slot) (sym last.0) (subst (λ (s : TaskSlot). StateMarked (length tasks) s) (sym last.1) marked)
]

pub new_is_marked : NewIsMarked
new_is_marked t instance by canon kind callee words = record { number = refl; seen = refl }

-- What the caller's side is where a state rises.
risen : (t : ℕ) (old now later : SubtaskState) (called : Called) (b : Bool) → b ≡ true → later ≡ now → CallMarked t old called
    → CallMarked t later (if b then callers.with_subtask (raised now called.subtask) called else called)
risen t old now later called true e same m = record { number = m.number; seen = sym same }
risen t old now later called false e same m = absurd (cc)

caller_risen : (t : ℕ) (old now later : SubtaskState) (c : Caller) → may_raise now c ≡ true → later ≡ now → CallerMarked t old c → CallerMarked t later (changed (callers.raised now) c)
caller_risen t old now later Nobody may same m = tt
caller_risen t old now later (Host call) may same m = tt
caller_risen t old now later (Guest called) may same m = risen t old now later called (follows called.subtask.state now) may same m

pub states_rise : StatesRise
states_rise t x task now may same marked = caller_risen t _ now _ x.caller may same marked

seen_as : (t : ℕ) (old now : SubtaskState) (c : Caller) → now ≡ old → CallerMarked t old c → CallerMarked t now c
seen_as t old now c same m = subst (λ (s : SubtaskState). CallerMarked t s c) (sym same) m

pub states_stay : StatesStay
states_stay t x task same marked = seen_as t _ _ x.caller same marked

-- What is told, kept and waited for.
told_call : (t : ℕ) (state : SubtaskState) (called : Called) (b : Bool) → CallMarked t state called
    → CallMarked t state (if b then callers.with_subtask (delivered called.subtask) called else called)
told_call t state called true m = record { number = m.number; seen = m.seen }
told_call t state called false m = m

caller_told : (t : ℕ) (state : SubtaskState) (c : Caller) → CallerMarked t state c → CallerMarked t state (changed callers.told c)
caller_told t state Nobody m = tt
caller_told t state (Host call) m = tt
caller_told t state (Guest called) m = told_call t state called (has_event called.subtask) m

pub telling_stays : TellingStays
telling_stays t x marked = caller_told t _ x.caller marked

caller_kept : (t : ℕ) (state : SubtaskState) (words : List ℕ) (c : Caller) → CallerMarked t state c → CallerMarked t state (changed (λ called. record called { result = words }) c)
caller_kept t state words Nobody m = tt
caller_kept t state words (Host call) m = tt
caller_kept t state words (Guest called) m = record { number = m.number; seen = m.seen }

pub keeping_stays : KeepingStays
keeping_stays t x words marked = caller_kept t _ words x.caller marked

caller_awaited : (t : ℕ) (state : SubtaskState) (b : Bool) (c : Caller) → CallerMarked t state c → CallerMarked t state (changed (callers.awaited b) c)
caller_awaited t state b Nobody m = tt
caller_awaited t state b (Host call) m = tt
caller_awaited t state b (Guest called) m = record { number = m.number; seen = m.seen }

pub awaiting_stays : AwaitingStays
awaiting_stays t x is_awaited marked = caller_awaited t _ is_awaited x.caller marked

-- States of tasks.
same_open : (c : Cancellation) (r : Option Resolution) (p q : Phase) → open_state p ≡ open_state q → resolved_state c r p ≡ resolved_state c r q
same_open c None p q same = same
same_open c (Some resolution.Returned) p q same = refl
same_open c (Some resolution.Cancelled) p q same = refl

acting_open : (p : Phase) → is_acting p ≡ true → open_state p ≡ state.Started
acting_open phase.New e = absurd (cc)
acting_open phase.Acting e = refl
acting_open (phase.Blocked why flag) e = absurd (cc)
acting_open phase.Exited e = absurd (cc)

blocked_open : (why : BlockedAt) (flag : Bool) → is_entry why ≡ false → open_state (phase.Blocked why flag) ≡ state.Started
blocked_open why flag e = ap (λ (b : Bool). if b then state.Starting else state.Started) e

pub blocked_stays : BlockedStays
blocked_stays task why flag acts inside =
    same_open task.cancellation task.resolution (phase.Blocked why flag) task.phase (blocked_open why flag inside ∙ sym (acting_open task.phase acts))

inside_open : (p : Phase) → waits_inside p ≡ true → open_state p ≡ state.Started
inside_open phase.New e = absurd (cc)
inside_open phase.Acting e = absurd (cc)
inside_open (phase.Blocked why flag) e = blocked_open why flag (not-true (is_entry why) e)
inside_open phase.Exited e = absurd (cc)

pub going_stays : GoingStays
going_stays task waits = same_open task.cancellation task.resolution phase.Acting task.phase (sym (inside_open task.phase waits))

pub entered_is_started : EnteredIsStarted
entered_is_started task none = ap (λ (r : Option Resolution). resolved_state task.cancellation r phase.Acting) none

pub returned_is_returned : ReturnedIsReturned
returned_is_returned task = refl

pub cancelled_is_cancelled : CancelledIsCancelled
cancelled_is_cancelled task told = ap (λ (b : Bool). if b then state.CancelledBeforeReturned else state.CancelledBeforeStarted) told
