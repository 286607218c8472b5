-- Tasks that call tasks are known in each world that a run reaches.
use Rattle.std.proofs.Common.{◌≡◌, inl, inr, ℕ, zero, suc, ◌||◌, Bool, true, false, List, [], ◌∷◌, length, refl, sym, ◌∙◌, subst, Option, Some, None}
use Rattle.std.specs.Prelude.{IsSome}
use Rattle.std.specs.List.{slice_get}
use Rattle.tasks.specs.Subtasks.{delivered, with_lend}
use Rattle.tasks.specs.declared.phase.Cancellation.TheVariants.{Asked}
use Rattle.tasks.specs.declared.phase.Resolution.TheVariants.{Cancelled}
use Rattle.comp_graph.specs.Graph.{Graph, Lifted}
use Rattle.script_reader.specs.Script.{Script}
use Rattle.trace_labels.specs.declared.label.Label.{Label}
use Rattle.abi_machine.specs.World.{Entry, OwnHandle, BorrowHandle, OfSubtask, OfSet, OfEnd, Inst, Subtask, Callee, Init, Nobody, Host, Guest, TaskState, New, Acting, AfterCall, AfterCancel, WaitsToEnter, InLoop, InBuiltin, Exited, Task, World, new_task, first_world}
use Rattle.abi_machine.specs.World as world
use Rattle.abi_machine.specs.Edits.{changed_at, by_view}
use Rattle.abi_machine.specs.Reading.{func_of, runs_in, subtask_of, task_at, is_among_callers, is_among, is_of_task}
use Rattle.abi_machine.specs.Cancelling.{first_of}
use Rattle.abi_machine.specs.Next.{next}
use Rattle.abi_machine.specs.Run.{Reaches}
use Rattle.abi_machine.specs.Turn.{Steps}
use Rattle.abi_machine.specs.sound.Changes.{Change, GoesTo, HasStore, SpendsUnit, UsesPicks, TakesItem, BeginsInstance, AddsEntry, MakesSet, RemovesEntry, RemovesWaitable, LeavesSet, JoinsSet, HasBackpressure, IsCalled, Calls, ComesBack, Acts, Begins, Cancels, Blocks, Exits, IsRemoved, Resolves, IsCancelled, HasWord, HasNewStack, HasStack, LosesStack, IsAnswered, IsTold, IsLent, HasResult, MakesChannel, Offers, Transfers, Concludes, DropsEnd, after, IsBlocked, MayCome}
use Rattle.abi_machine.specs.sound.Firsts.{TaskIs}
use Rattle.abi_machine.specs.sound.Acting.{Outline, outline_of, WaitsWith, IsActing}
use Rattle.abi_machine.specs.sound.Owners.{IsApart, IsOwnWorld}
use Rattle.abi_machine.specs.sound.Subtasks.{CallIs}
use Rattle.abi_machine.specs.sound.Cancels.{StandsIn}
use Rattle.abi_machine.specs.sound.GoingOn.{IsStanding}
use Rattle.abi_machine.proofs.sound.Found.{some_same, some_there}
use Rattle.abi_machine.proofs.sound.Chained.{no_first}
use Rattle.abi_machine.proofs.sound.Acted.{still_is}
use Rattle.abi_machine.proofs.sound.Aside.{channel_kept, made_kept}
use Rattle.abi_machine.proofs.sound.Outlines.{as_is, is_what, outline_there, acting_waits}
use Rattle.abi_machine.proofs.sound.Ordered.{in_order}
use Rattle.abi_machine.proofs.sound.acts.Keeping.{Order}
use Rattle.abi_machine.proofs.sound.own.Kept.{own_kept, own_removed}
use Rattle.abi_machine.proofs.sound.AwaitedTables.{both_no_more, begun_no_more, other_no_more, removed_no_more, same_no_more}
use Rattle.abi_machine.proofs.sound.known.Asked.{CancelsWell}
use Rattle.abi_machine.proofs.sound.known.Keeping.{IsNewEntry, CallsApart, Besides, Owns, Walk}
use Rattle.abi_machine.proofs.sound.known.Beside.{was_known, stands_so, wakes_so}
use Rattle.abi_machine.proofs.sound.known.Turning.{step_known}
use Rattle.abi_machine.proofs.sound.Reached.{first_stands, standing_stays}
use Rattle.reach_laws.specs.KnownCalls.{IsFrom, IsNotFrom, CallsKnown, CallsAreKnown, ReachedCallsAreKnown}
use Rattle.reach_laws.proofs.known.Calls.{LeavesCalls, same_leaves, told_leaves, edited, one_more, fewer, subtask_added}

-- A change of a task that leaves its state alone, or gives it one in which it cancels none.
untouched : (w : World) (u : ℕ) (f : Task → Task) → LeavesCalls f → ((x : Task) → (f x).state ≡ x.state) → CallsAreKnown w → CallsKnown (changed_at u f w.tasks) w.insts
untouched w u f leaves same h = edited w.tasks w.insts u f leaves (λ x there callee number words l is runs. inl (sym (same x) ∙ is)) h

abbrev IsNoCancel : TaskState → Type 0
IsNoCancel state = (callee number : ℕ) (words : List ℕ) → state ≡ AfterCancel callee number words → ⊥

in_state_so : (tasks : List Task) (insts : List Inst) (u : ℕ) (state : TaskState) → IsNoCancel state → CallsKnown tasks insts → CallsKnown (changed_at u (λ task. record task { state = state }) tasks) insts
in_state_so tasks insts u state none h =
    edited tasks insts u (λ task. record task { state = state }) (same_leaves _ (λ x. refl) (λ x. refl)) (λ x there callee number words l is runs. absurd (none callee number words is)) h

new_none : IsNoCancel New
new_none callee number words e = cc

acting_none : IsNoCancel Acting
acting_none callee number words e = cc

called_none : (n canon : ℕ) (given : List ℕ) → IsNoCancel (AfterCall n canon given)
called_none n canon given callee number words e = cc

begins_none : (n : ℕ) → IsNoCancel (world.Begins n)
begins_none n callee number words e = cc

exited_none : IsNoCancel Exited
exited_none callee number words e = cc

blocked_none : (state : TaskState) → IsBlocked state → IsNoCancel state
blocked_none WaitsToEnter is callee number words e = cc
blocked_none (InLoop word) is callee number words e = cc
blocked_none (InBuiltin canon given wait) is callee number words e = cc
blocked_none New is callee number words e = is
blocked_none Acting is callee number words e = is
blocked_none (AfterCall n canon given) is callee number words e = is
blocked_none (AfterCancel n canon given) is callee number words e = is
blocked_none (world.Begins n) is callee number words e = is
blocked_none Exited is callee number words e = is

-- The acting task cancels one that stands in the table of its component instance.
cancelled_from : (w : World) (t callee : ℕ) (words : List ℕ) (x : Task) (l : Lifted) → slice_get w.tasks t ≡ Some x → func_of x.callee ≡ Some l → CancelsWell w t callee words → CallsAreKnown w
    → CallIs w.tasks callee (IsFrom w.tasks l.instance)
cancelled_from w t callee words x l there runs well h =
    let stands : StandsIn w.insts (func_of x.callee) (first_of words) callee =
    is_what (λ (o : Outline). StandsIn w.insts (func_of o.callee) (first_of words) callee) t w (outline_of x) well.1 (outline_there w.tasks t x there) in
    h.inside l.instance (first_of words) callee (subst (λ (o : Option Lifted). StandsIn w.insts o (first_of words) callee) runs stands)

same_cancel : (a b n m : ℕ) (words given : List ℕ) → AfterCancel a n words ≡ AfterCancel b m given → a ≡ b
same_cancel a b n m words given e = cc

cancels_so : (w : World) (t callee number : ℕ) (words : List ℕ) → CancelsWell w t callee words → CallsAreKnown w → CallsAreKnown (after (Cancels t callee number words) w)
cancels_so w t callee number words well h =
    edited w.tasks w.insts t (λ task. record task { state = AfterCancel callee number words }) (same_leaves _ (λ x. refl) (λ x. refl))
    (λ x there other n given l is runs.
    inr (subst (λ (m : ℕ). CallIs w.tasks m (IsFrom w.tasks l.instance)) (same_cancel callee other number n words given is) (cancelled_from w t callee words x l there runs well h))) h

-- The acting task calls one that runs in another component instance than it does.
none_or : (a b : Bool) → (a || b) ≡ false → a ≡ false
none_or false b e = refl
none_or true b e = cc

apart_there : (test : ℕ → Bool) (i t : ℕ) (w : World) (task : Task) → slice_get w.tasks t ≡ Some task → is_of_task test i (task_at w t) ≡ false → TaskIs w.tasks t (λ x. runs_in i x ≡ false)
apart_there test i t w task there e =
    let not : (runs_in i task || is_among test (subtask_of task.caller)) ≡ false = subst (λ (o : Option Task). is_of_task test i o ≡ false) there e in
    (task, there, none_or (runs_in i task) (is_among test (subtask_of task.caller)) not)

not_reentrant : (n i t : ℕ) (w : World) (task : Task) → slice_get w.tasks t ≡ Some task → IsSome (slice_get w.tasks t) → n ≡ length w.tasks → is_among_callers n w i t ≡ false → TaskIs w.tasks t (λ x. runs_in i x ≡ false)
not_reentrant (suc n) i t w task there some same e = apart_there (is_among_callers n w i) i t w task there e
not_reentrant zero i t w task there some same e = absurd (nothing w.tasks t task (sym same) there)
  where
    nothing : (tasks : List Task) (m : ℕ) (x : Task) → length tasks ≡ 0 → slice_get tasks m ≡ Some x → ⊥
    nothing [] m x k at = cc
    nothing (y ∷ tasks) m x k at = cc

calls_so : (w : World) (number : ℕ) (callee : Callee) (subtask : Subtask) (words : List ℕ) (caller : Task) → slice_get w.tasks subtask.by ≡ Some caller → CallsApart w callee subtask.by → CallsAreKnown w
    → CallsAreKnown (after (Calls number callee subtask words) w)
calls_so w number callee subtask words caller there apart h =
    let state : TaskState = AfterCall (length w.tasks) number words in
    let tasks : List Task = changed_at subtask.by (λ task. record task { state = state }) w.tasks in
    one_more tasks w.insts (new_task callee (Guest subtask) New)
    (λ by l guest runs.
    let same : subtask ≡ by = some_same guest in
    let not : TaskIs w.tasks subtask.by (λ x. runs_in l.instance x ≡ false) = not_reentrant (length w.tasks) l.instance subtask.by w caller there (subst (λ (o : Option Task). IsSome o) (sym there) refl) refl (apart l runs) in
    subst (λ (x : Subtask). IsNotFrom tasks l.instance x) same (state_still w.tasks subtask.by subtask.by state l.instance not))
    new_none (in_state_so w.tasks w.insts subtask.by state (called_none (length w.tasks) number words) h)
  where
    state_still : (tasks : List Task) (u n : ℕ) (state : TaskState) (i : ℕ) → TaskIs tasks n (λ x. runs_in i x ≡ false) → TaskIs (changed_at u (λ task. record task { state = state }) tasks) n (λ x. runs_in i x ≡ false)
    state_still tasks u n state i k = still_is tasks u n (λ task. record task { state = state }) (λ x. runs_in i x ≡ false) (λ x p. p) k

calls_kept : (g : Graph) (s : Script) (c : Change) (w : World) → MayCome g s c w → Besides (Unit {0}) (Unit {0}) ⊥ ⊥ g c w → CallsAreKnown w → CallsAreKnown (after c w)
calls_kept g s BeginsInstance w may b h = fewer w.tasks w.insts _ (begun_no_more w.insts) h
calls_kept g s (AddsEntry i entry) w may b h = add_so entry (b tt)
  where
    add_so : (entry : Entry) → IsNewEntry g w i entry → CallsAreKnown (after (AddsEntry i entry) w)
    add_so (OfSubtask callee) new = subtask_added w.tasks w.insts i callee new.3 h
    add_so (OwnHandle resource rep) new = fewer w.tasks w.insts _ (other_no_more w.insts i (OwnHandle resource rep) tt) h
    add_so (BorrowHandle resource rep task) new = fewer w.tasks w.insts _ (other_no_more w.insts i (BorrowHandle resource rep task) tt) h
    add_so (OfSet set) new = fewer w.tasks w.insts _ (other_no_more w.insts i (OfSet set) tt) h
    add_so (OfEnd e) new = fewer w.tasks w.insts _ (other_no_more w.insts i (OfEnd e) tt) h
calls_kept g s (MakesSet i set) w may b h =
    fewer w.tasks w.insts _ (both_no_more w.insts (after (AddsEntry i (OfSet set)) w).insts _ (other_no_more w.insts i (OfSet set) tt) (same_no_more (after (AddsEntry i (OfSet set)) w).insts i _ (λ x. refl))) h
calls_kept g s (RemovesEntry i index) w may b h = fewer w.tasks w.insts _ (removed_no_more w.insts i index) h
calls_kept g s (RemovesWaitable i index) w may b h =
    fewer w.tasks w.insts _ (both_no_more w.insts (after (RemovesEntry i index) w).insts _ (removed_no_more w.insts i index) (same_no_more (after (RemovesEntry i index) w).insts i _ (λ x. refl))) h
calls_kept g s (LeavesSet i index) w may b h = fewer w.tasks w.insts _ (same_no_more w.insts i _ (λ x. refl)) h
calls_kept g s (JoinsSet i index set) w may b h = fewer w.tasks w.insts _ (same_no_more w.insts i _ (λ x. refl)) h
calls_kept g s (HasBackpressure i backpressure) w may b h = fewer w.tasks w.insts _ (same_no_more w.insts i _ (λ x. refl)) h
calls_kept g s (IsCalled callee call values) w may b h = one_more w.tasks w.insts (new_task callee (Host call values) New) (λ subtask l guest runs. absurd (host_none subtask guest)) new_none h
  where
    host_none : (subtask : Subtask) → None ≡ Some subtask → ⊥
    host_none subtask e = cc
calls_kept g s (Calls number callee subtask words) w may b h = (let caller = some_there (task_at w subtask.by) may.1 in calls_so w number callee subtask words caller.0 caller.1 b.4 h)
calls_kept g s (ComesBack t) w may b h = absurd b
calls_kept g s (Acts t) w may b h = in_state_so w.tasks w.insts t Acting acting_none h
calls_kept g s (Begins n) w may b h = in_state_so w.tasks w.insts 0 (world.Begins n) (begins_none n) h
calls_kept g s (Cancels t callee number words) w may b h = cancels_so w t callee number words (b.3 tt).0 h
calls_kept g s (Blocks t state) w may b h = in_state_so w.tasks w.insts t state (blocked_none state may.1) h
calls_kept g s (Exits t) w may b h = in_state_so w.tasks w.insts t Exited exited_none h
calls_kept g s (IsRemoved t) w may b h = absurd b
calls_kept g s (Resolves t resolution) w may b h = untouched w t _ (same_leaves _ (λ x. refl) (λ x. refl)) (λ x. refl) h
calls_kept g s (IsCancelled t cancellation) w may b h = untouched w t _ (same_leaves _ (λ x. refl) (λ x. refl)) (λ x. refl) h
calls_kept g s (HasWord t slot word) w may b h = untouched w t _ (same_leaves _ (λ x. refl) (λ x. refl)) (λ x. refl) h
calls_kept g s (HasNewStack t k) w may b h = untouched w t _ (same_leaves _ (λ x. refl) (λ x. refl)) (λ x. refl) h
calls_kept g s (HasStack t k) w may b h = untouched w t _ (same_leaves _ (λ x. refl) (λ x. refl)) (λ x. refl) h
calls_kept g s (LosesStack t) w may b h = untouched w t _ (same_leaves _ (λ x. refl) (λ x. refl)) (λ x. refl) h
calls_kept g s (IsAnswered t words) w may b h = untouched w t _ (same_leaves _ (λ x. refl) (λ x. refl)) (λ x. refl) h
calls_kept g s (IsTold t state) w may b h = untouched w t _ (told_leaves (by_view delivered t state) (λ x. refl)) (λ x. refl) h
calls_kept g s (IsLent t handle) w may b h = untouched w t _ (told_leaves (λ subtask. by_view (with_lend handle) t subtask.told subtask) (λ x. refl)) (λ x. refl) h
calls_kept g s (HasResult t words) w may b h = untouched w t _ (told_leaves (λ subtask. record subtask { result = words }) (λ x. refl)) (λ x. refl) h
calls_kept g s (MakesChannel kind element) w may b h = made_kept CallsAreKnown (λ v x k. k) (λ v x k. k) kind element w h
calls_kept g s (Offers e call) w may b h = channel_kept CallsAreKnown (λ v x k. k) (λ v x k. k) e.kind e.number _ w h
calls_kept g s (Transfers e size values) w may b h =
    channel_kept CallsAreKnown (λ v x k. k) (λ v x k. k) e.kind e.number _ _ (channel_kept CallsAreKnown (λ v x k. k) (λ v x k. k) e.kind e.number _ w h)
calls_kept g s (Concludes e) w may b h = channel_kept CallsAreKnown (λ v x k. k) (λ v x k. k) e.kind e.number _ w h
calls_kept g s (DropsEnd e) w may b h = channel_kept CallsAreKnown (λ v x k. k) (λ v x k. k) e.kind e.number _ w h
calls_kept g s (GoesTo control) w may b h = h
calls_kept g s (HasStore store) w may b h = h
calls_kept g s SpendsUnit w may b h = h
calls_kept g s (UsesPicks picks) w may b h = h
calls_kept g s TakesItem w may b h = h

removed_calls : (t : ℕ) (w : World) → CallsAreKnown w → CallsAreKnown (after (IsRemoved t) w)
removed_calls t w h =
    in_state_so (changed_at t (λ x. record x { resolution = Some Cancelled }) w.tasks) w.insts t Exited exited_none
    (untouched w t (λ x. record x { resolution = Some Cancelled }) (same_leaves _ (λ x. refl) (λ x. refl)) (λ x. refl) h)

asked_calls : (w : World) (t callee number : ℕ) (words : List ℕ) → CancelsWell w t callee words → CallsAreKnown w → CallsAreKnown (after (IsCancelled callee Asked) (after (Cancels t callee number words) w))
asked_calls w t callee number words well h =
    let v : World = after (Cancels t callee number words) w in
    untouched v callee (λ x. record x { cancellation = Asked }) (same_leaves _ (λ x. refl) (λ x. refl)) (λ x. refl) (cancels_so w t callee number words well h)

stays_so : (g : Graph) (s : Script) (o : Order g s) (c : Change) (w : World) → MayCome g s c w → Besides (Unit {0}) (Unit {0}) ⊥ ⊥ g c w → (Unit {0} → Owns g c w) → o.Holds w × IsOwnWorld g w × CallsAreKnown w
    → o.Holds (after c w) × IsOwnWorld g (after c w) × CallsAreKnown (after c w)
stays_so g s o c w may b belongs h = (o.stays c w may (was_known (Unit {0}) (Unit {0}) ⊥ ⊥ g c w b) h.0, own_kept g s c w may (belongs tt) h.1, calls_kept g s c w may b h.2)

unfoldable walking : (g : Graph) (s : Script) → IsApart g → Walk g s
unfolding in_order
walking g s apart = (let o : Order g s = in_order g s in record {
  Given = Unit {0};
  Apart = Unit {0};
  Event = ⊥;
  Asks = Unit {0};
  Copies = ⊥;
  Joins = ⊥;
  Holds = λ w. o.Holds w × IsOwnWorld g w × CallsAreKnown w;
  alone = λ w h. o.alone w h.0;
  chained = λ w h. o.chained w h.0;
  stacked = λ w h. o.stacked w h.0;
  graph = λ a. apart;
  events = λ event. absurd event;
  asks_apart = λ a. tt;
  own = λ a w h. h.1;
  stays = stays_so g s o;
  stands = stands_so g s (Unit {0}) (Unit {0}) ⊥ (Unit {0}) (λ w. o.Holds w × IsOwnWorld g w × CallsAreKnown w) (stays_so g s o);
  wakes = wakes_so g s (Unit {0}) (Unit {0}) ⊥ (Unit {0}) (λ w. o.Holds w × IsOwnWorld g w × CallsAreKnown w) (stays_so g s o);
  comes = λ t w task there runs is idle h. (o.comes t w task there runs is idle h.0, h.1, h.2);
  removed = λ t w task there runs waits idle h. (o.removed t w task there runs waits idle h.0, own_removed g t w h.1, removed_calls t w h.2);
  comes_asked = λ t callee number words w task a free there runs is alone well calls h. (
    o.comes_asked t callee number words w task a free there runs is h.0,
    own_kept g s (IsCancelled callee Asked) (after (Cancels t callee number words) w) tt tt (own_kept g s (Cancels t callee number words) w (a.0, free) (calls tt) h.1),
    asked_calls w t callee number words (well tt) h.2,
  );
  removed_asked = λ t callee number words w task a free there runs waits alone well calls h. (
    o.removed_asked t callee number words w task a free there runs waits h.0,
    own_removed g callee (after (Cancels t callee number words) w) (own_kept g s (Cancels t callee number words) w (a.0, free) (calls tt) h.1),
    removed_calls callee (after (Cancels t callee number words) w) (cancels_so w t callee number words (well tt) h.2),
  );
  pending_asked = λ t callee number words w task a free there alone well calls h. (
    o.stays (IsCancelled callee Asked) (after (Cancels t callee number words) w) tt tt (o.stays (Cancels t callee number words) w (a.0, free) (as_is (IsActing true) (WaitsWith true) t w (acting_waits true) a) h.0),
    own_kept g s (IsCancelled callee Asked) (after (Cancels t callee number words) w) tt tt (own_kept g s (Cancels t callee number words) w (a.0, free) (calls tt) h.1),
    asked_calls w t callee number words (well tt) h.2,
  );
})

calls_stay : (g : Graph) (s : Script) (w v : World) (labels : List Label) → IsApart g → IsStanding g s w → CallsAreKnown w → next g s w ≡ Steps labels v → CallsAreKnown v
unfolding walking in_order
calls_stay g s w v labels apart k h e =
    (step_known (walking g s apart) w v labels (λ given. record { called = k.called; subtasks = k.subtasks })
    (λ asks. record { called = k.called; subtasks = k.subtasks; told = k.told; cancels = k.cancels }) (λ copies. absurd copies) (λ a. k.control_own) (λ event. absurd event) k.alone.1 k.ordered.2
    ((k.alone.0, k.ordered.0, k.ordered.1), k.own, h) e).0.2

first_calls : (g : Graph) → CallsAreKnown (first_world g)
first_calls g = record {
  inside = λ at index callee stands. (let clash : None ≡ Some (OfSubtask callee) = stands in cc);
  leaves = λ callee task subtask l there guest runs. absurd (only callee task there (λ x. subtask_of x.caller ≡ Some subtask) (λ e. nobody subtask e) guest);
  cancels = λ t callee number words task l there runs is. absurd (only t task there (λ x. x.state ≡ AfterCancel callee number words) (λ e. acting_none callee number words e) is);
}
  where
    nobody : (subtask : Subtask) → None ≡ Some subtask → ⊥
    nobody subtask e = cc

    only : (n : ℕ) (task : Task) → slice_get (first_world g).tasks n ≡ Some task → (P : Task → Type 0) → (P (new_task Init Nobody Acting) → ⊥) → P task → ⊥
    only zero task there P none p = none (subst P (sym (some_same there)) p)
    only (suc n) task there P none p = no_first n task there

calls_from : (g : Graph) (s : Script) (steps : List (List Label)) (w v : World) → IsApart g → IsStanding g s w → CallsAreKnown w → Reaches g s w steps v → CallsAreKnown v
calls_from g s [] w v apart k h r = subst CallsAreKnown (sym r) h
calls_from g s (labels ∷ steps) w v apart k h r = calls_from g s steps r.0 v apart (standing_stays g s w r.0 labels apart k r.1) (calls_stay g s w r.0 labels apart k h r.1) r.2

pub reached_calls_are_known : ReachedCallsAreKnown
reached_calls_are_known g s steps w apart r = calls_from g s steps (first_world g) w apart (first_stands g s apart) (first_calls g) r
