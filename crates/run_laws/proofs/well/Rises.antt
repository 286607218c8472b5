-- A task is another one, whose call is as well kept as before: what is kept well stays so.
use Rattle.std.proofs.Common.{◌≡◌, inl, inr, ℕ, Bool, true, false, ◌&&◌, if◌then◌else◌, is_none, List, [], slice_set, refl, sym, ap, ◌∙◌, subst, Option, Some, None}
use Rattle.std.specs.List.{slice_get}
use Rattle.tasks.specs.declared.event.Asked.{Asked}
use Rattle.tasks.specs.declared.event.Asked.TheVariants as asking
use Rattle.tasks.specs.declared.event.TaskEvent.{TaskEvent}
use Rattle.tasks.specs.declared.event.TaskEvent.TheVariants as event
use Rattle.tasks.specs.declared.event.TaskTrap.{TaskTrap}
use Rattle.tasks.specs.declared.event.TaskTrap.TheVariants as task_trap
use Rattle.tasks.specs.declared.phase.Cancellation.{Cancellation}
use Rattle.tasks.specs.declared.phase.Cancellation.TheVariants as cancellation
use Rattle.tasks.specs.declared.phase.Resolution.{Resolution}
use Rattle.tasks.specs.declared.phase.Resolution.TheVariants as resolution
use Rattle.tasks.specs.declared.subtask_state.SubtaskState.{SubtaskState}
use Rattle.tasks.specs.declared.subtask_state.SubtaskState.TheVariants as state
use Rattle.tasks.specs.Subtasks as subtasks
use Rattle.tasks.specs.Subtasks.{is_over, follows, has_event, delivered}
use Rattle.tasks.specs.Tasks as tasks
use Rattle.tasks.specs.Tasks.{is_asked, is_told, is_unasked, is_sync, may_cancel, may_happen, fault, unless, resolving_fault, cancel_case, cancelled}
use Rattle.tasks.specs.Views.{TaskView}
use Rattle.task_table.specs.declared.caller.Called.{Called}
use Rattle.task_table.specs.declared.caller.Caller.{Caller}
use Rattle.task_table.specs.declared.caller.Caller.TheVariants.{Nobody, Host, Guest}
use Rattle.task_table.specs.declared.errand.Errand.{Errand}
use Rattle.task_table.specs.declared.errand.Errand.TheVariants as errand
use Rattle.task_table.specs.declared.slot.TaskSlot.{TaskSlot}
use Rattle.task_table.specs.Callers as callers
use Rattle.task_table.specs.Callers.{called_of, changed}
use Rattle.task_table.specs.Slots as slots
use Rattle.task_table.specs.Slots.{advanced_slot, cancelled_slot, with_word, at_errand, at_call, with_called, raised_slot, awaited_slot, told_slot, kept_slot}
use Rattle.world_parts.specs.Held.{Held}
use Rattle.world_parts.specs.Slots.{with_task}
use Rattle.abi_machine.proofs.sound.Found.{some_same}
use Rattle.run_laws.specs.keeping.Well.{KeptWell, WellStays}
use Rattle.run_laws.proofs.keeping.Sums.{set_either}

-- A call, and a task, kept well.
pub record CallWell (c : Called) : Type 0 where
  pub gave : is_over c.subtask.told ≡ true → c.subtask.lends ≡ []
  pub over : is_over c.subtask.told ≡ true → is_over c.subtask.state ≡ true

abbrev pub IsOpen : TaskView → Type 0
IsOpen t = t.resolution ≡ Some resolution.Cancelled → is_asked t.cancellation ≡ false

-- A call of a task stands for one that is as well kept, and that is waited for directly only where that one is.
pub record CallRises (x y : Called) : Type 0 where
  pub well : CallWell x → CallWell y
  pub awaited : y.is_awaited ≡ true → x.is_awaited ≡ true

abbrev pub CallerRises : Caller → Caller → Type 0
CallerRises c d = (called : Called) → called_of d ≡ Some called → (prior : Called) × (called_of c ≡ Some prior) × CallRises prior called

pub record SlotRises (x y : TaskSlot) : Type 0 where
  pub caller : CallerRises x.caller y.caller
  pub still : IsOpen x.task → IsOpen y.task
  pub calls : (callee canon : ℕ) → y.errand ≡ errand.AfterCall callee canon → x.errand ≡ errand.AfterCall callee canon

is_not : (b : Bool) → (b ≡ true → ⊥) → b ≡ false
is_not true e = absurd (e refl)
is_not false e = refl

stays_false : (a b : Bool) → (b ≡ true → a ≡ true) → a ≡ false → b ≡ false
stays_false a b f none = is_not b (λ e. (let both : true ≡ false = sym (f e) ∙ none in cc))

-- What stood for the task that is found, and for its call.
record Stood (tasks : List TaskSlot) (n : ℕ) (z : TaskSlot) : Type 0 where
  slot : TaskSlot
  found : slice_get tasks n ≡ Some slot
  rises : SlotRises slot z

rises_same : (x : TaskSlot) → SlotRises x x
rises_same x = record {
  caller = λ called e. (called, e, record { well = λ w. w; awaited = λ e. e });
  still = λ p. p;
  calls = λ callee canon e. e;
}

stood : (tasks : List TaskSlot) (t : ℕ) (x y : TaskSlot) → slice_get tasks t ≡ Some x → SlotRises x y → (n : ℕ) (z : TaskSlot) → slice_get (slice_set tasks t y) n ≡ Some z → Stood tasks n z
stood tasks t x y is rises n z found =
    elim (set_either tasks t y n z found) [
      | inl new ↦ record { slot = x; found = ap (λ (k : ℕ). slice_get tasks k) new.0 ∙ is; rises = subst (λ (s : TaskSlot). SlotRises x s) (sym new.1) rises }
      | inr old ↦ record { slot = z; found = old; rises = rises_same z }
    ]

call_well : (h : Held) → KeptWell h → (n : ℕ) (slot : TaskSlot) (called : Called) → slice_get h.tasks n ≡ Some slot → called_of slot.caller ≡ Some called → CallWell called
call_well h well n slot called found by = record { gave = λ told. well.gave n slot called found by told; over = λ told. well.over n slot called found by told }

-- All stood for tasks that were kept well.
all_rise : (h k : Held) → ((n : ℕ) (z : TaskSlot) → slice_get k.tasks n ≡ Some z → Stood h.tasks n z) → WellStays h k
all_rise h k before well = record {
  gave = λ n z called found by told.
      let s : Stood h.tasks n z = before n z found in
      let p : (prior : Called) × (called_of s.slot.caller ≡ Some prior) × CallRises prior called = s.rises.caller called by in
      (p.2.well (call_well h well n s.slot p.0 s.found p.1)).gave told;
  over = λ n z called found by told.
      let s : Stood h.tasks n z = before n z found in
      let p : (prior : Called) × (called_of s.slot.caller ≡ Some prior) × CallRises prior called = s.rises.caller called by in
      (p.2.well (call_well h well n s.slot p.0 s.found p.1)).over told;
  asked = λ n z found resolved.
      let s : Stood h.tasks n z = before n z found in
      s.rises.still (λ e. well.asked n s.slot s.found e) resolved;
  unawaited = λ n callee canon z v called found at there by.
      let s : Stood h.tasks n z = before n z found in
      let r : Stood h.tasks callee v = before callee v there in
      let p : (prior : Called) × (called_of r.slot.caller ≡ Some prior) × CallRises prior called = r.rises.caller called by in
      stays_false p.0.is_awaited called.is_awaited p.2.awaited
      (well.unawaited n callee canon s.slot r.slot p.0 s.found (s.rises.calls callee canon at) r.found p.1);
}

pub well_task : (h : Held) (t : ℕ) (x y : TaskSlot) → slice_get h.tasks t ≡ Some x → SlotRises x y → WellStays h (with_task t y h)
well_task h t x y is rises = all_rise h (with_task t y h) (λ n z found. stood h.tasks t x y is rises n z found)

-- The same caller, at the same errand or one that is no call, and as open.
pub rises_beside : (x y : TaskSlot) → y.caller ≡ x.caller → (IsOpen x.task → IsOpen y.task) → ((callee canon : ℕ) → y.errand ≡ errand.AfterCall callee canon → x.errand ≡ errand.AfterCall callee canon) → SlotRises x y
rises_beside x y caller still same = record {
  caller = λ called e. (called, ap called_of (sym caller) ∙ e, record { well = λ w. w; awaited = λ e. e });
  still = still;
  calls = same;
}

-- No call.
abbrev pub NoCall : Errand → Type 0
NoCall errand.None = Unit {0}
NoCall (errand.AfterCall callee canon) = ⊥
NoCall (errand.AfterCancel callee canon index) = Unit {0}
NoCall (errand.Begins n) = Unit {0}
NoCall (errand.InBuiltin canon) = Unit {0}

no_call : (e was : Errand) (callee canon : ℕ) → NoCall e → e ≡ errand.AfterCall callee canon → was ≡ errand.AfterCall callee canon
no_call errand.None was callee canon q e = absurd (cc)
no_call (errand.AfterCall other number) was callee canon q e = absurd q
no_call (errand.AfterCancel other number index) was callee canon q e = absurd (cc)
no_call (errand.Begins n) was callee canon q e = absurd (cc)
no_call (errand.InBuiltin number) was callee canon q e = absurd (cc)

pub errand_rises : (e : Errand) (x : TaskSlot) → NoCall e → SlotRises x (at_errand e x)
errand_rises e x q = rises_beside x (at_errand e x) refl (λ p. p) (λ callee canon same. no_call e x.errand callee canon q same)

pub words_rise : (words : List ℕ) (x : TaskSlot) → SlotRises x (at_call words x)
words_rise words x = rises_beside x (at_call words x) refl (λ p. p) (λ callee canon e. e)

pub context_rises : (number word : ℕ) (x : TaskSlot) → SlotRises x (with_word number word x)
context_rises number word x = rises_beside x (with_word number word x) refl (λ p. p) (λ callee canon e. e)

-- What happens to a task leaves it open, or tells it its cancellation.
pub task_rises : (task : TaskView) (x : TaskSlot) → (IsOpen x.task → IsOpen task) → SlotRises x (slots.with_task task x)
task_rises task x still = rises_beside x (slots.with_task task x) refl still (λ callee canon e. e)

told_closes : (c : Cancellation) (sync : Bool) (r : Option TaskTrap) → (if sync then Some task_trap.SyncTask else (if is_told c then r else Some task_trap.NotAsked)) ≡ None → is_asked c ≡ false
told_closes cancellation.NotAsked sync r e = refl
told_closes cancellation.Asked true r e = absurd (cc)
told_closes cancellation.Asked false r e = absurd (cc)
told_closes cancellation.Delivered sync r e = refl

returned_not : Some resolution.Returned ≡ Some resolution.Cancelled → ⊥
returned_not e = cc

open_after : (e : TaskEvent) (task : TaskView) → fault e task ≡ None → IsOpen task → IsOpen (tasks.after e task)
open_after event.Enter task none still = still
open_after (event.Block why flag) task none still = still
open_after event.Go task none still = still
open_after event.AskReturn task none still = still
open_after event.Return task none still = λ e. absurd (returned_not e)
open_after event.Cancel task none still = λ e. told_closes task.cancellation (is_sync task.kind) (resolving_fault task) none
open_after event.Borrow task none still = still
open_after event.Unborrow task none still = still
open_after event.ToldCancel task none still = λ e. refl
open_after event.Exit task none still = still

open_unless : (o : Option TaskTrap) (later now : TaskView) → (o ≡ None → IsOpen now → IsOpen later) → IsOpen now → IsOpen (unless o later now)
open_unless None later now p still = p refl still
open_unless (Some why) later now p still = still

slot_if : (b : Bool) (x y : TaskSlot) → SlotRises x y → SlotRises x (if b then y else x)
slot_if true x y rises = rises
slot_if false x y rises = rises_same x

pub event_rises : (e : TaskEvent) (x : TaskSlot) → SlotRises x (advanced_slot e x)
event_rises e x =
    slot_if (may_happen e x.task) x (slots.with_task (unless (fault e x.task) (tasks.after e x.task) x.task) x)
    (task_rises (unless (fault e x.task) (tasks.after e x.task) x.task) x (open_unless (fault e x.task) (tasks.after e x.task) x.task (λ none still. open_after e x.task none still)))

-- A cancellation is asked of a task that has not resolved, and that none was asked of.
unasked_open : (c : Cancellation) → is_unasked c ≡ true → is_asked c ≡ false
unasked_open cancellation.NotAsked e = refl
unasked_open cancellation.Asked e = absurd (cc)
unasked_open cancellation.Delivered e = refl

none_resolved : (r : Option Resolution) → is_none r ≡ true → r ≡ Some resolution.Cancelled → ⊥
none_resolved None e f = cc
none_resolved (Some x) e f = cc

both_so : (b c : Bool) → (b && c) ≡ true → (b ≡ true) × (c ≡ true)
both_so true c e = (refl, e)
both_so false c e = absurd (cc)

open_cancelled : (case : Asked) (task : TaskView) → may_cancel task ≡ true → IsOpen (cancelled case task)
open_cancelled asking.Removed task may = λ e. unasked_open task.cancellation (both_so (is_none task.resolution) (is_unasked task.cancellation) may).1
open_cancelled asking.ResumeNow task may = λ e. absurd (none_resolved task.resolution (both_so (is_none task.resolution) (is_unasked task.cancellation) may).0 e)
open_cancelled asking.Pending task may = λ e. absurd (none_resolved task.resolution (both_so (is_none task.resolution) (is_unasked task.cancellation) may).0 e)

slot_where : (b : Bool) (x y : TaskSlot) → (b ≡ true → SlotRises x y) → SlotRises x (if b then y else x)
slot_where true x y rises = rises refl
slot_where false x y rises = rises_same x

pub cancelled_rises : (free : Bool) (x : TaskSlot) → SlotRises x (cancelled_slot free x)
cancelled_rises free x =
    slot_where (may_cancel x.task) x (slots.with_task (cancelled (cancel_case free x.task) x.task) x)
    (λ may. task_rises (cancelled (cancel_case free x.task) x.task) x (λ still. open_cancelled (cancel_case free x.task) x.task may))

-- A call is another one.
caller_rises : (f : Called → Called) → ((c : Called) → CallRises c (f c)) → (c : Caller) → CallerRises c (changed f c)
caller_rises f rises Nobody called e = absurd (cc)
caller_rises f rises (Host call) called e = absurd (cc)
caller_rises f rises (Guest prior) called e = (prior, refl, subst (λ (d : Called). CallRises prior d) (some_same e) (rises prior))

pub called_rises : (f : Called → Called) (x : TaskSlot) → ((c : Called) → CallRises c (f c)) → SlotRises x (with_called f x)
called_rises f x rises = record {
  caller = caller_rises f rises x.caller;
  still = λ p. p;
  calls = λ callee canon e. e;
}

call_same : (c : Called) → CallRises c c
call_same c = record { well = λ w. w; awaited = λ e. e }

call_where : (b : Bool) (c d : Called) → (b ≡ true → CallRises c d) → CallRises c (if b then d else c)
call_where true c d rises = rises refl
call_where false c d rises = call_same c

-- Its state rises, which says not yet that it has resolved.
follows_open : (s later : SubtaskState) → follows s later ≡ true → is_over s ≡ true → ⊥
follows_open state.Starting later e f = cc
follows_open state.Started later e f = cc
follows_open state.Returned later e f = cc
follows_open state.CancelledBeforeStarted later e f = cc
follows_open state.CancelledBeforeReturned later e f = cc

raised_rises : (later : SubtaskState) (c : Called) → CallRises c (callers.raised later c)
raised_rises later c =
    call_where (follows c.subtask.state later) c (callers.with_subtask (subtasks.raised later c.subtask) c)
    (λ next. record {
      well = λ w. record { gave = λ told. w.gave told; over = λ told. absurd (follows_open c.subtask.state later next (w.over told)) };
      awaited = λ e. e;
    })

pub raised_slot_rises : (later : SubtaskState) (x : TaskSlot) → SlotRises x (raised_slot later x)
raised_slot_rises later x = called_rises (callers.raised later) x (raised_rises later)

-- It is told, and then nothing is lent where it has resolved.
none_lent : (b : Bool) (lends : List ℕ) → b ≡ true → ◌≡◌ {A = List ℕ} (if b then [] else lends) []
none_lent true lends e = refl
none_lent false lends e = absurd (cc)

told_rises : (c : Called) → CallRises c (callers.told c)
told_rises c =
    call_where (has_event c.subtask) c (callers.with_subtask (delivered c.subtask) c)
    (λ news. record {
      well = λ w. record { gave = λ over. none_lent (is_over c.subtask.state) c.subtask.lends over; over = λ over. over };
      awaited = λ e. e;
    })

pub told_slot_rises : (x : TaskSlot) → SlotRises x (told_slot x)
told_slot_rises x = called_rises callers.told x told_rises

pub kept_slot_rises : (words : List ℕ) (x : TaskSlot) → SlotRises x (kept_slot words x)
kept_slot_rises words x =
    called_rises (λ called. record called { result = words }) x (λ c. record { well = λ w. record { gave = w.gave; over = w.over }; awaited = λ e. e })

true_not : false ≡ true → ⊥
true_not e = cc

-- It is waited for directly no longer.
pub unawaited_rises : (x : TaskSlot) → SlotRises x (awaited_slot false x)
unawaited_rises x =
    called_rises (callers.awaited false) x (λ c. record { well = λ w. record { gave = w.gave; over = w.over }; awaited = λ e. absurd (true_not e) })

not_both : {b : Bool} → b ≡ true → b ≡ false → ⊥
not_both e f = cc

-- A handle is lent for it, which has not resolved.
pub lend_rises : (handle : ℕ) (c : Called) → is_over c.subtask.state ≡ false → CallRises c (callers.with_lend handle c)
lend_rises handle c still = record {
  well = λ w. record { gave = λ told. absurd (not_both (w.over told) still); over = λ told. w.over told };
  awaited = λ e. e;
}
