-- What each blocked task waits for is missing where none is able.
use Rattle.std.proofs.Common.{◌≡◌, ◌≤◌, ◌⊎◌, inl, inr, ◌&&◌, ◌||◌, ℕ, zero, suc, Bool, true, false, not, nat_eq, is_some, List, [], refl, sym, ap, ◌∙◌, subst, arith, Option, Some, None, Result, Ok, Err, if◌then◌else◌}
use Rattle.std.specs.Prelude.{IsSome}
use Rattle.std.specs.List.{slice_get}
use Rattle.std.proofs.lemmas.Bool.Decides.{nat_tests}
use Rattle.wasm_store.proofs.Lists.{all_at}
use Rattle.builtin_kinds.specs.declared.EndKind.{EndKind}
use Rattle.builtin_kinds.specs.declared.EndKind.TheVariants.{Stream, Future}
use Rattle.entry_gate.specs.Kinds.{needs_entry}
use Rattle.entry_gate.specs.Gates.{is_free}
use Rattle.entry_gate.specs.Stays.{is_inside}
use Rattle.entry_gate.specs.declared.callback.BadCode.{BadCode}
use Rattle.entry_gate.specs.declared.callback.Next.{Next}
use Rattle.entry_gate.specs.declared.callback.Next.TheVariants as word
use Rattle.stream_ends.specs.declared.side.Side.{Side}
use Rattle.stream_ends.specs.declared.side.Side.TheVariants.{Reader, Writer}
use Rattle.stream_ends.specs.declared.open_copy.CopyEvent.{CopyEvent}
use Rattle.stream_ends.specs.declared.open_copy.OpenCopy.{OpenCopy}
use Rattle.stream_ends.specs.declared.stream_end.End.{End}
use Rattle.stream_ends.specs.Ends.{EndsView, end_at, other_side, standing_of, is_copying, is_pending, has_event}
use Rattle.stream_ends.specs.Meeting.{stands}
use Rattle.tasks.specs.declared.phase.Cancellation.{Cancellation}
use Rattle.tasks.specs.declared.phase.Phase.{Phase}
use Rattle.tasks.specs.declared.phase.Resolution.{Resolution}
use Rattle.tasks.specs.declared.phase.Resolution.TheVariants.{Returned, Cancelled}
use Rattle.tasks.specs.declared.subtask_state.SubtaskState.TheVariants.{CancelledBeforeStarted, CancelledBeforeReturned}
use Rattle.tasks.specs.Subtasks.{is_over}
use Rattle.tasks.specs.Tasks.{is_told, is_unasked, resolved_state}
use Rattle.comp_graph.specs.Graph.{Graph, Lifted}
use Rattle.script_reader.specs.Script.{Script}
use Rattle.abi_machine.specs.Control.{EndRef}
use Rattle.abi_machine.specs.World.{Entry, Subtask, ForCancel, TaskState, WaitsToEnter, InBuiltin, Task, Channel, World}
use Rattle.abi_machine.specs.Reading.{table_in, backpressure_of, func_of, kind_of, subtask_of}
use Rattle.abi_machine.specs.Counting.{phase_of, end_of}
use Rattle.abi_machine.specs.Gate.{place_of, gate_of, may_go_in}
use Rattle.abi_machine.specs.Finding.{accepted, subtask_in, set_in, any_end_in, found_subtask, set_number, found_end}
use Rattle.abi_machine.specs.sound.Changes.{IsFirst}
use Rattle.abi_machine.specs.sound.Numbers.{IsCalledAs}
use Rattle.abi_machine.specs.sound.Called.{Called}
use Rattle.abi_machine.specs.sound.Loops.{HasSetAt, GoesOnBy}
use Rattle.abi_machine.specs.sound.Cancels.{CancelsTask, CancelsSo, CancelStands, WasAsked, IsResolved}
use Rattle.abi_machine.specs.sound.Firsts.{TaskIs}
use Rattle.abi_machine.specs.sound.CopyWaits.{AwaitsCopy}
use Rattle.abi_machine.specs.sound.GoingOn.{IsStanding}
use Rattle.abi_machine.specs.sound.Agreeing.{channel_in}
use Rattle.abi_machine.specs.sound.Deadlocks as held_up
use Rattle.abi_machine.proofs.sound.Found.{some_same}
use Rattle.abi_machine.proofs.sound.Due.{channel_is}
use Rattle.abi_machine.proofs.sound.Copied.{IsSoundOf, sound_there, end_there}
use Rattle.waiting_laws.specs.Offers.{IsOpenTo, AreOpen, HasOpenOffers}
use Rattle.waiting_laws.specs.Missing.{IsKeptOut, HasNoEvent, IsOpen, HasNotReturned, MeetsNone, HasNotEnded, LoopMisses}
use Rattle.waiting_laws.proofs.Offers.{from_side, waits_in}
use Rattle.waiting_laws.proofs.News.{no_news}
use Rattle.waiting_laws.proofs.Holding.{held_by_another}

pub or_false : (a b : Bool) → (a || b) ≡ false → (a ≡ false) × (b ≡ false)
or_false true b e = cc
or_false false b e = (refl, e)

pub and_false : (a b : Bool) → (a && b) ≡ false → a ≡ true → b ≡ false
and_false true b e is = e
and_false false b e is = cc

not_both : (b : Bool) → b ≡ true → b ≡ false → ⊥
not_both true e f = cc
not_both false e f = cc

-- At its entry.
kept_out_by : (w : World) (i : ℕ) (task : Task) → may_go_in w i task ≡ false → (needs : Bool) → needs_entry (kind_of task) ≡ needs → needs ≡ false → 1 ≤ backpressure_of w i
kept_out_by w i task unable needs is none = by (nat_eq (backpressure_of w i) 0) refl needs (is_free (gate_of w i)) (nat_eq (gate_of w i).waiting 0) none (subst (λ (b : Bool). (nat_eq (backpressure_of w i) 0 && (not b || is_free (gate_of w i)) && (not false || nat_eq (gate_of w i).waiting 0)) ≡ false) is unable)
  where
    by : (zero_is : Bool) → nat_eq (backpressure_of w i) 0 ≡ zero_is → (needs free few : Bool) → needs ≡ false → (zero_is && (not needs || free) && (not false || few)) ≡ false → 1 ≤ backpressure_of w i
    by false is needs free few none k = grind (arith, nat_tests)
    by true is false free few none k = cc
    by true is true free few none k = cc

pub kept_out : (w : World) (named : List ℕ) (i t : ℕ) (task : Task) → slice_get w.tasks t ≡ Some task → task.state ≡ WaitsToEnter → may_go_in w i task ≡ false
    → (1 ≤ backpressure_of w i) ⊎ held_up.IsHeldBy w i named → IsKeptOut w named i t task
kept_out w named i t task there is unable h = elim h [
  | inl pressed ↦ inl pressed
  | inr held ↦ by (needs_entry (kind_of task)) refl held
]
  where
    outside : is_inside (place_of task.state) ≡ false
    outside = ap (λ (state : TaskState). is_inside (place_of state)) is

    by : (needs : Bool) → needs_entry (kind_of task) ≡ needs → held_up.IsHeldBy w i named → IsKeptOut w named i t task
    by true needs held = inr (needs, held_by_another w named i t task there outside held)
    by false needs held = inl (kept_out_by w i task unable false needs refl)

-- On a set.
pub no_event : (g : Graph) (s : Script) (w : World) (i index : ℕ) → IsStanding g s w → HasSetAt (table_in (slice_get w.insts i)) index → held_up.NoneReady w i index → HasNoEvent w i index
no_event g s w i index h stands none =
    let found : set_number w i index ≡ Some stands.0 = subst (λ (o : Option Entry). accepted (set_in o) ≡ Some stands.0) (sym stands.1) refl in
    record { set = stands.0; stands = stands.1; none = no_news w i stands.0 h.histories (none stands.0 found) }

pub loop_misses : (g : Graph) (s : Script) (w : World) (i : ℕ) (task : Task) (said : Result Next BadCode) → IsStanding g s w → GoesOnBy (table_in (slice_get w.insts i)) said → held_up.LoopMisses w i task said
    → LoopMisses w i task said
loop_misses g s w i task (Ok (word.Wait index)) h goes m = (no_event g s w i index h goes m.0, m.1)
loop_misses g s w i task (Ok word.Exit) h goes m = absurd m
loop_misses g s w i task (Ok word.Yield) h goes m = absurd m
loop_misses g s w i task (Ok (word.Poll index)) h goes m = absurd m
loop_misses g s w i task (Err why) h goes m = absurd m

-- For a task.
cancelled_over : (told : Bool) → is_over (if told then CancelledBeforeReturned else CancelledBeforeStarted) ≡ true
cancelled_over true = refl
cancelled_over false = refl

none_resolved : (c : Cancellation) (o : Option Resolution) (p : Phase) → is_over (resolved_state c o p) ≡ false → o ≡ None
none_resolved c None p e = refl
none_resolved c (Some Returned) p e = cc
none_resolved c (Some Cancelled) p e = absurd (not_both (is_over (if is_told c then CancelledBeforeReturned else CancelledBeforeStarted)) (cancelled_over (is_told c)) e)

guest_runs : (n : ℕ) (task : Task) (subtask : Subtask) → IsCalledAs n task → subtask_of task.caller ≡ Some subtask → IsSome (func_of task.callee)
guest_runs zero task subtask h guest = absurd (let clash : None ≡ Some subtask = sym (ap subtask_of h.1) ∙ guest in let no : ⊥ = cc in no)
guest_runs (suc n) task subtask h guest = h.0

pub is_open : (g : Graph) (s : Script) (w : World) (named : List ℕ) (callee : ℕ) (task : Task) (subtask : Subtask) → IsStanding g s w → slice_get w.tasks callee ≡ Some task → subtask_of task.caller ≡ Some subtask
    → held_up.IsOpen w named callee → IsOpen w named callee
is_open g s w named callee task subtask h there guest o =
    let both = o task there in
    record {
      task = task;
      there = there;
      unresolved = none_resolved task.cancellation task.resolution (phase_of (λ number. false) task.state) both.0;
      is_named = both.1 (guest_runs callee task subtask (h.numbered.called callee task there) guest);
    }

pub not_returned : (g : Graph) (s : Script) (w : World) (named : List ℕ) (t number callee : ℕ) → IsStanding g s w → Called w.tasks t number callee → held_up.IsOpen w named callee → HasNotReturned w named t number callee
unfolding is_open
not_returned g s w named t number callee h called o = record {
  is_open = is_open g s w named callee called.0 called.2.0 h called.1 called.2.1 o;
  side = called.2.0;
  called = called.2.1;
  by_task = called.2.2;
  by_canon = called.2.3;
}

-- For a cancelled subtask.
asked_is : (w : World) (t callee : ℕ) (task : Task) → w.chain ≡ [] → slice_get w.tasks callee ≡ Some task → TaskIs w.tasks callee WasAsked ⊎ (TaskIs w.tasks callee IsResolved × IsFirst t w.chain)
    → is_unasked task.cancellation ≡ false
asked_is w t callee task idle there h = elim h [
  | inl asked ↦ (let same : asked.0 ≡ task = some_same (sym asked.1 ∙ there) in subst (λ (x : Task). is_unasked x.cancellation ≡ false) same asked.2)
  | inr over ↦ absurd (let none : slice_get [] 0 ≡ Some t = subst (λ (l : List ℕ). slice_get l 0 ≡ Some t) idle over.1 in let no : ⊥ = cc in no)
]

pub not_ended : (g : Graph) (s : Script) (w : World) (named : List ℕ) (t number index : ℕ) (words : List ℕ) (task : Task) (f : Lifted) → IsStanding g s w → w.chain ≡ [] → slice_get w.tasks t ≡ Some task
    → func_of task.callee ≡ Some f → task.state ≡ InBuiltin number words (ForCancel index)
    → ((callee : ℕ) → found_subtask w f.instance index ≡ Some callee → held_up.IsOpen w named callee) → HasNotEnded w named f.instance index
unfolding is_open
not_ended g s w named t number index words task f h idle there runs is o =
    let stands : CancelStands w.tasks w.insts (Some f) (InBuiltin number words (ForCancel index)) =
    subst (λ (x : TaskState). CancelStands w.tasks w.insts (Some f) x) is (subst (λ (x : Option Lifted). CancelStands w.tasks w.insts x task.state) runs (h.cancels.stands t task there)) in
    let callee : ℕ = stands.0 in
    let found : found_subtask w f.instance index ≡ Some callee = subst (λ (x : Option Entry). accepted (subtask_in x) ≡ Some callee) (sym stands.1) refl in
    let so : CancelsTask w.insts task callee =
    subst (λ (x : Option Lifted). CancelsSo w.insts x task.state callee) (sym runs) (subst (λ (x : TaskState). CancelsSo w.insts (Some f) x callee) (sym is) stands.1) in
    record {
      callee = callee;
      stands = stands.1;
      is_open = is_open g s w named callee stands.2.0 stands.2.2.0 h stands.2.1 stands.2.2.1 (o callee found);
      asked = asked_is w t callee stands.2.0 idle stands.2.1 (h.cancels.asked t callee task there so);
    }

-- For a copy.
none_told : (o : Option CopyEvent) → is_some o ≡ false → o ≡ None
none_told None e = refl
none_told (Some event) e = cc

stands_if : (copy : OpenCopy) (b : Bool) → copy.standing ≡ b → is_some (if b then Some copy else None) ≡ true → copy.standing ≡ true
stands_if copy true is e = is
stands_if copy false is e = cc

none_stands : (o : Option OpenCopy) → is_some o ≡ false → o ≡ None
none_stands None e = refl
none_stands (Some copy) e = cc

writer_alone : (a b : Bool) → (a ≡ true → b ≡ false) → b ≡ true → a ≡ false
writer_alone true b one e = absurd (not_both b e (one refl))
writer_alone false b one e = refl

other_alone : (kind : EndKind) (side : Side) (ends : EndsView) → IsSoundOf kind ends → stands (end_at side ends) ≡ true → stands (end_at (other_side side) ends) ≡ false
other_alone Stream Reader ends h e = h.one e
other_alone Stream Writer ends h e = writer_alone (stands ends.reader) (stands ends.writer) h.one e
other_alone Future Reader ends h e = h.one e
other_alone Future Writer ends h e = writer_alone (stands ends.reader) (stands ends.writer) h.one e

open_there : (w : World) (kind : EndKind) (number : ℕ) (c : Channel) → channel_in kind number w.streams w.futures ≡ Some c → HasOpenOffers w → AreOpen c.ends.view
open_there w Stream zero c there h = cc
open_there w Stream (suc place) c there h = all_at (λ (x : Channel). AreOpen x.ends.view) w.streams place c h.1.of_streams there
open_there w Future zero c there h = cc
open_there w Future (suc place) c there h = all_at (λ (x : Channel). AreOpen x.ends.view) w.futures place c h.1.of_futures there

pub meets_none : (g : Graph) (w : World) (i t number index : ℕ) → HasOpenOffers w → AwaitsCopy g w.insts w.streams w.futures t number index i → held_up.IsQuiet w i index → MeetsNone w i t number index
meets_none g w i t number index h a quiet =
    let e : EndRef = a.end in
    let c : Channel = a.under.0 in
    let own : End = end_at e.side c.ends.view in
    let other : End = end_at (other_side e.side) c.ends.view in
    let found : found_end w i index ≡ Some e = subst (λ (o : Option Entry). any_end_in o ≡ Some e) (sym a.stands) refl in
    let own_is : end_of w e ≡ own = end_there w e c a.under.1 in
    let at : own.copy ≡ Some a.copy = a.under.2 in
    let no_event : has_event own.copy ≡ false = subst (λ (x : End). is_pending x ≡ false) own_is (quiet e found) in
    let untold : a.copy.event ≡ None = none_told a.copy.event (subst (λ (o : Option OpenCopy). has_event o ≡ false) at no_event) in
    let sound : IsSoundOf e.kind c.ends.view = sound_there e.kind e.number c w a.under.1 h.0 in
    let copying : is_copying own ≡ true = ap is_some at in
    let standing : stands own ≡ true = waits_in e.kind e.side c.ends.view sound no_event ∙ copying in
    let mine : IsOpenTo own.copy other = (from_side e.side c.ends.view (open_there w e.kind e.number c a.under.1 h)).mine in
    record {
      end = e;
      stands = a.stands;
      channel = c;
      there = sym (channel_is e.kind e.number w) ∙ a.under.1;
      copy = a.copy;
      under_way = at;
      of_task = a.of_task;
      of_canon = a.of_canon;
      untold = untold;
      offers = stands_if a.copy a.copy.standing refl (subst (λ (o : Option OpenCopy). is_some (standing_of o) ≡ true) at standing);
      not_dropped = subst (λ (o : Option OpenCopy). IsOpenTo o other) at mine untold;
      alone = none_stands (standing_of other.copy) (other_alone e.kind e.side c.ends.view sound standing);
    }
