-- The task of a copy whose call waits is waiting for it, in each world that a run reaches.
use Rattle.std.proofs.Common.{◌≡◌, inl, inr, ℕ, zero, suc, ◌&&◌, ◌||◌, Bool, true, false, not, nat_eq, List, [], ◌∷◌, length, refl, sym, ap, ◌∙◌, subst, arith, Option, Some, None}
use Rattle.std.specs.List.{slice_get, list_any}
use Rattle.std.proofs.lemmas.Bool.Decides.{nat_tests}
use Rattle.tasks.specs.declared.phase.Cancellation.TheVariants.{Asked}
use Rattle.tasks.specs.declared.phase.Resolution.TheVariants.{Cancelled}
use Rattle.builtin_kinds.specs.declared.EndKind.{EndKind}
use Rattle.builtin_kinds.specs.declared.EndKind.TheVariants.{Stream, Future}
use Rattle.stream_ends.specs.declared.open_copy.OpenCopy.{OpenCopy}
use Rattle.stream_ends.specs.declared.stream_end.End.{End}
use Rattle.comp_graph.specs.Graph.{Graph, Lifted}
use Rattle.script_reader.specs.Script.{Script}
use Rattle.trace_labels.specs.declared.label.Label.{Label}
use Rattle.abi_machine.specs.Control.{EndRef}
use Rattle.abi_machine.specs.World.{OfSubtask, OfSet, OfEnd, Host, Guest, New, Acting, AfterCall, AfterCancel, WaitsToEnter, InLoop, InBuiltin, ForYield, ForSet, ForCall, ForCopy, ForCancel, Exited, Task, TaskState, Channel, World, new_task, first_world}
use Rattle.abi_machine.specs.World as world
use Rattle.abi_machine.specs.Edits.{changed_at, in_state, with_channel}
use Rattle.abi_machine.specs.Canons.{options_at}
use Rattle.abi_machine.specs.Reading.{entry_at, func_of, is_in, runs_in}
use Rattle.abi_machine.specs.Counting.{passes, end_of, waits_at, is_waited_for}
use Rattle.abi_machine.specs.Copying.{task_by}
use Rattle.abi_machine.specs.Next.{next}
use Rattle.abi_machine.specs.Run.{Reaches}
use Rattle.abi_machine.specs.Turn.{Steps}
use Rattle.abi_machine.specs.replies.Streams.{is_async_copy}
use Rattle.abi_machine.specs.sound.Changes.{Change, GoesTo, HasStore, SpendsUnit, UsesPicks, TakesItem, BeginsInstance, AddsEntry, MakesSet, RemovesEntry, RemovesWaitable, LeavesSet, JoinsSet, HasBackpressure, IsCalled, Calls, ComesBack, Acts, Begins, Cancels, Blocks, Exits, IsRemoved, Resolves, IsCancelled, HasWord, HasNewStack, HasStack, LosesStack, IsAnswered, IsTold, IsLent, HasResult, MakesChannel, Offers, Transfers, Concludes, DropsEnd, after, MayCome}
use Rattle.abi_machine.specs.sound.Tables.{HaveHistories}
use Rattle.abi_machine.specs.sound.Acting.{WaitsWith, IsActing}
use Rattle.abi_machine.specs.sound.Cancels.{CancelStands}
use Rattle.abi_machine.specs.sound.EndPlaces.{EndStandsAt, channel_in}
use Rattle.abi_machine.specs.sound.CopyWaits.{AwaitsCopy, AwaitCopies}
use Rattle.abi_machine.specs.sound.Owners.{IsApart, IsOwnWorld}
use Rattle.abi_machine.specs.sound.GoingOn.{IsStanding}
use Rattle.abi_machine.proofs.sound.Found.{some_same}
use Rattle.abi_machine.proofs.sound.Chained.{changed_here}
use Rattle.abi_machine.proofs.sound.Histories.{histories_kept}
use Rattle.abi_machine.proofs.sound.Copied.{end_there}
use Rattle.abi_machine.proofs.sound.CopyEdits.{drop_come, conclude_come}
use Rattle.abi_machine.proofs.sound.Outlines.{Is, as_is, acting_waits}
use Rattle.abi_machine.proofs.sound.Ordered.{in_order}
use Rattle.abi_machine.proofs.sound.acts.Keeping.{Order}
use Rattle.abi_machine.proofs.sound.own.Kept.{own_kept, own_removed}
use Rattle.abi_machine.proofs.sound.known.Asking.{any_passes, both_true, equal_self}
use Rattle.abi_machine.proofs.sound.known.Awaiting.{awaited_at}
use Rattle.abi_machine.proofs.sound.known.Keeping.{Besides, Owns, Walk, WaitsElse, acting_waits_else}
use Rattle.abi_machine.proofs.sound.known.Beside.{was_known, stands_so, wakes_so}
use Rattle.abi_machine.proofs.sound.known.Turning.{step_known}
use Rattle.abi_machine.proofs.sound.Reached.{first_stands, standing_stays}
use Rattle.abi_machine.proofs.sound.CopiesReached.{reached_await}
use Rattle.abi_machine.proofs.sound.ends.Brought.{both_once}
use Rattle.reach_laws.specs.KnownCopies.{HasWaiter, HaveWaiters, ReachedCopiesAreKnown}
use Rattle.reach_laws.proofs.known.Ends.{readers_reached, stands_live}
use Rattle.reach_laws.proofs.known.Waiters.{AreWaited, edit_waited, made_waited, transfer_waited, beside, beside_made, beside_twice, insts_waited, tables_keep, add_keeps, left_keeps, idle_keeps, begun_keeps, both_keep, same_waited, state_waited_by, state_waited, more_waited, offer_waited, stands_waited, wakes_waited}

waited_kept : (g : Graph) (s : Script) (c : Change) (w : World) → MayCome g s c w → Besides ⊥ ⊥ ⊥ (Unit {0}) g c w → HaveHistories w.insts → AreWaited g w → AreWaited g (after c w)
waited_kept g s BeginsInstance w may b history h = insts_waited g w _ (begun_keeps w) h
waited_kept g s (AddsEntry i entry) w may b history h = insts_waited g w _ (add_keeps w i entry history) h
waited_kept g s (MakesSet i set) w may b history h =
    insts_waited g w _ (both_keep w (after (AddsEntry i (OfSet set)) w).insts _ (add_keeps w i (OfSet set) history) (tables_keep (after (AddsEntry i (OfSet set)) w) i _ (λ x. refl))) h
waited_kept g s (RemovesEntry i index) w may b history h = insts_waited g w _ (left_keeps w i index may.0 may.1 may.2) h
waited_kept g s (RemovesWaitable i index) w may b history h =
    insts_waited g w _ (both_keep w (after (RemovesEntry i index) w).insts _ (idle_keeps w i index b.1.0 b.1.1 b.1.2) (tables_keep (after (RemovesEntry i index) w) i _ (λ x. refl))) h
waited_kept g s (LeavesSet i index) w may b history h = insts_waited g w _ (tables_keep w i _ (λ x. refl)) h
waited_kept g s (JoinsSet i index set) w may b history h = insts_waited g w _ (tables_keep w i _ (λ x. refl)) h
waited_kept g s (HasBackpressure i pressure) w may b history h = insts_waited g w _ (tables_keep w i _ (λ x. refl)) h
waited_kept g s (IsCalled callee call values) w may b history h = more_waited g w.tasks w.insts w.streams w.futures (new_task callee (Host call values) New) h
waited_kept g s (Calls number callee subtask words) w may b history h =
    more_waited g _ w.insts w.streams w.futures (new_task callee (Guest subtask) New) (state_waited g w subtask.by (AfterCall (length w.tasks) number words) b.5 h)
waited_kept g s (ComesBack t) w may b history h = h
waited_kept g s (Acts t) w may b history h = state_waited g w t Acting (b tt) h
waited_kept g s (Begins n) w may b history h = state_waited g w 0 (world.Begins n) b h
waited_kept g s (Cancels t callee number words) w may b history h = state_waited g w t (AfterCancel callee number words) b.4 h
waited_kept g s (Blocks t state) w may b history h = state_waited g w t state b.4 h
waited_kept g s (Exits t) w may b history h = state_waited g w t Exited b.1 h
waited_kept g s (IsRemoved t) w may b history h = absurd b
waited_kept g s (Resolves t resolution) w may b history h = same_waited g w t _ (λ x. (refl, refl)) h
waited_kept g s (IsCancelled t cancellation) w may b history h = same_waited g w t _ (λ x. (refl, refl)) h
waited_kept g s (HasWord t slot word) w may b history h = same_waited g w t _ (λ x. (refl, refl)) h
waited_kept g s (HasNewStack t k) w may b history h = same_waited g w t _ (λ x. (refl, refl)) h
waited_kept g s (HasStack t k) w may b history h = same_waited g w t _ (λ x. (refl, refl)) h
waited_kept g s (LosesStack t) w may b history h = same_waited g w t _ (λ x. (refl, refl)) h
waited_kept g s (IsAnswered t words) w may b history h = same_waited g w t _ (λ x. (refl, refl)) h
waited_kept g s (IsTold t state) w may b history h = same_waited g w t _ (λ x. (refl, refl)) h
waited_kept g s (IsLent t handle) w may b history h = same_waited g w t _ (λ x. (refl, refl)) h
waited_kept g s (HasResult t words) w may b history h = same_waited g w t _ (λ x. (refl, refl)) h
waited_kept g s (MakesChannel kind element) w may b history h = beside_made g kind element w (made_waited g kind element w h)
waited_kept g s (Offers e call) w may b history h = beside g e.kind e.number _ w (offer_waited g e call w (b.1 tt) h)
waited_kept g s (Transfers e size values) w may b history h = beside_twice g e.kind e.number _ _ w (transfer_waited g e size values w h)
waited_kept g s (Concludes e) w may b history h = beside g e.kind e.number _ w (edit_waited g e.kind e.number _ w (λ c. conclude_come e.kind e.side c.ends) h)
waited_kept g s (DropsEnd e) w may b history h = beside g e.kind e.number _ w (edit_waited g e.kind e.number _ w (λ c. drop_come e.side c.ends.view) h)
waited_kept g s (GoesTo control) w may b history h = h
waited_kept g s (HasStore store) w may b history h = h
waited_kept g s SpendsUnit w may b history h = h
waited_kept g s (UsesPicks picks) w may b history h = h
waited_kept g s TakesItem w may b history h = h

-- A task that waits for no copy is removed.
removed_by : (g : Graph) (t : ℕ) (w : World) → ((x : Task) → slice_get w.tasks t ≡ Some x → WaitsElse x.state) → AreWaited g w → AreWaited g (after (IsRemoved t) w)
removed_by g t w otherwise h =
    let f : Task → Task = λ x. record x { resolution = Some Cancelled } in
    state_waited_by g (after (Resolves t Cancelled) w) t Exited (λ x at. elim (changed_here t f w.tasks t x at) [
      | inl o ↦ subst (λ (y : Task). WaitsElse y.state) (sym o.1.2) (otherwise o.1.0 o.1.1)
      | inr old ↦ otherwise x old
    ]) (same_waited g w t f (λ x. (refl, refl)) h)

entering_else : (w : World) (t : ℕ) (task : Task) → slice_get w.tasks t ≡ Some task → task.state ≡ WaitsToEnter → (x : Task) → slice_get w.tasks t ≡ Some x → WaitsElse x.state
entering_else w t task there waits x at = subst WaitsElse (sym (ap (λ (y : Task). y.state) (some_same (sym at ∙ there)) ∙ waits)) tt

-- one that the acting task cancels
cancelled_else : (w : World) (t callee number : ℕ) (words : List ℕ) (task : Task) → slice_get w.tasks callee ≡ Some task → task.state ≡ WaitsToEnter
    → (x : Task) → slice_get (after (Cancels t callee number words) w).tasks callee ≡ Some x → WaitsElse x.state
cancelled_else w t callee number words task there waits x at = elim (changed_here t (λ y. record y { state = AfterCancel callee number words }) w.tasks callee x at) [
  | inl o ↦ subst (λ (y : Task). WaitsElse y.state) (sym o.1.2) tt
  | inr old ↦ entering_else w callee task there waits x old
]

asked_waited : (g : Graph) (w : World) (t callee number : ℕ) (words : List ℕ) → Is (IsActing true) t w → AreWaited g w → AreWaited g (after (IsCancelled callee Asked) (after (Cancels t callee number words) w))
asked_waited g w t callee number words a h =
    same_waited g (after (Cancels t callee number words) w) callee (λ x. record x { cancellation = Asked }) (λ x. (refl, refl)) (state_waited g w t (AfterCancel callee number words) (acting_waits_else true t w a) h)

-- An edit of streams and futures beside a change of a task.
beside_blocks : (g : Graph) (kind : EndKind) (number : ℕ) (f : Channel → Channel) (w : World) (t : ℕ) (state : TaskState)
    → HaveWaiters g (changed_at t (λ task. record task { state = state }) w.tasks) w.insts (with_channel kind number f w).streams (with_channel kind number f w).futures
    → AreWaited g (after (Blocks t state) (with_channel kind number f w))
beside_blocks g Stream number f w t state h = h
beside_blocks g Future number f w t state h = h

beside_acts : (g : Graph) (kind : EndKind) (number : ℕ) (f : Channel → Channel) (w : World) (t : ℕ)
    → HaveWaiters g (in_state t Acting w).tasks w.insts (with_channel kind number f w).streams (with_channel kind number f w).futures → AreWaited g (with_channel kind number f (in_state t Acting w))
beside_acts g Stream number f w t h = h
beside_acts g Future number f w t h = h

-- what else is kept beside the order of tasks
abbrev Ordered : (g : Graph) (s : Script) → Order g s → World → Type 0
Ordered g s o w = o.Holds w × HaveHistories w.insts × IsOwnWorld g w

ordered_so : (J : Type 0) (g : Graph) (s : Script) (o : Order g s) (c : Change) (w : World) → MayCome g s c w → Besides ⊥ ⊥ ⊥ J g c w → (Unit {0} → Owns g c w) → Ordered g s o w → Ordered g s o (after c w)
ordered_so J g s o c w may b belongs h = (o.stays c w may (was_known ⊥ ⊥ ⊥ J g c w b) h.0, histories_kept g s c w may h.1, own_kept g s c w may (belongs tt) h.2)

unfoldable walking : (g : Graph) (s : Script) → IsApart g → Walk g s
unfolding in_order
walking g s apart = (let o : Order g s = in_order g s in record {
  Given = ⊥;
  Apart = Unit {0};
  Event = ⊥;
  Asks = ⊥;
  Copies = ⊥;
  Joins = Unit {0};
  Holds = λ w. Ordered g s o w × AreWaited g w;
  alone = λ w h. o.alone w h.0.0;
  chained = λ w h. o.chained w h.0.0;
  stacked = λ w h. o.stacked w h.0.0;
  graph = λ a. apart;
  events = λ event. absurd event;
  asks_apart = λ none. absurd none;
  own = λ a w h. h.0.2;
  stays = λ c w may b belongs h. (ordered_so (Unit {0}) g s o c w may b belongs h.0, waited_kept g s c w may b h.0.1 h.1);
  stands = λ t i index e call words w a free quiet of_task sync own here copies calls h. (
    stands_so g s ⊥ ⊥ ⊥ (Unit {0}) (Ordered g s o) (ordered_so ⊥ g s o) t i index e call words w a free quiet of_task sync own here copies calls h.0,
    beside_blocks g e.kind e.number _ w t (InBuiltin call.canon words (ForCopy index)) (stands_waited g t i index e call words w a of_task own here (calls tt) h.1),
  );
  wakes = λ t number index words f e w a mine here alone h. (
    wakes_so g s ⊥ ⊥ ⊥ (Unit {0}) (Ordered g s o) (ordered_so ⊥ g s o) t number index words f e w a mine here alone h.0,
    beside_acts g e.kind e.number _ w t (wakes_waited g t number index words f e w a mine here h.1),
  );
  comes = λ t w task there runs is idle h. ((o.comes t w task there runs is idle h.0.0, h.0.1, h.0.2), h.1);
  removed = λ t w task there runs waits idle h. ((o.removed t w task there runs waits idle h.0.0, h.0.1, own_removed g t w h.0.2), removed_by g t w (entering_else w t task there waits) h.1);
  comes_asked = λ t callee number words w task a free there runs is alone well calls h. (
    (
      o.comes_asked t callee number words w task a free there runs is h.0.0,
      h.0.1,
      own_kept g s (IsCancelled callee Asked) (after (Cancels t callee number words) w) tt tt (own_kept g s (Cancels t callee number words) w (a.0, free) (calls tt) h.0.2),
    ),
    asked_waited g w t callee number words a h.1,
  );
  removed_asked = λ t callee number words w task a free there runs waits alone well calls h. (
    (
      o.removed_asked t callee number words w task a free there runs waits h.0.0,
      h.0.1,
      own_removed g callee (after (Cancels t callee number words) w) (own_kept g s (Cancels t callee number words) w (a.0, free) (calls tt) h.0.2),
    ),
    removed_by g callee (after (Cancels t callee number words) w) (cancelled_else w t callee number words task there waits)
        (state_waited g w t (AfterCancel callee number words) (acting_waits_else true t w a) h.1),
  );
  pending_asked = λ t callee number words w task a free there alone well calls h. (
    (
      o.stays (IsCancelled callee Asked) (after (Cancels t callee number words) w) tt tt (o.stays (Cancels t callee number words) w (a.0, free) (as_is (IsActing true) (WaitsWith true) t w (acting_waits true) a) h.0.0),
      h.0.1,
      own_kept g s (IsCancelled callee Asked) (after (Cancels t callee number words) w) tt tt (own_kept g s (Cancels t callee number words) w (a.0, free) (calls tt) h.0.2),
    ),
    asked_waited g w t callee number words a h.1,
  );
})

waited_stay : (g : Graph) (s : Script) (w v : World) (labels : List Label) → IsApart g → IsStanding g s w → AreWaited g w → next g s w ≡ Steps labels v → AreWaited g v
unfolding walking in_order
waited_stay g s w v labels apart k h e =
    (step_known (walking g s apart) w v labels (λ none. absurd none) (λ none. absurd none) (λ none. absurd none) (λ a. k.control_own) (λ event. absurd event) k.alone.1 k.ordered.2
    (((k.alone.0, k.ordered.0, k.ordered.1), k.histories, k.own), h) e).0.1

first_waited : (g : Graph) → AreWaited g (first_world g)
first_waited g e c copy there under sync = none_yet e.kind e.number there
  where
    none_yet : (kind : EndKind) (number : ℕ) → channel_in kind number [] [] ≡ Some c → HasWaiter (first_world g).tasks (first_world g).insts e copy
    none_yet Stream zero k = cc
    none_yet Stream (suc place) k = cc
    none_yet Future zero k = cc
    none_yet Future (suc place) k = cc

waited_from : (g : Graph) (s : Script) (steps : List (List Label)) (w v : World) → IsApart g → IsStanding g s w → AreWaited g w → Reaches g s w steps v → AreWaited g v
waited_from g s [] w v apart k h r = subst (AreWaited g) (sym r) h
waited_from g s (labels ∷ steps) w v apart k h r = waited_from g s steps r.0 v apart (standing_stays g s w r.0 labels apart k r.1) (waited_stay g s w r.0 labels apart k h r.1) r.2

-- A copy is waited for directly exactly where its call waits.

abbrev IsThere : (Task → Bool) → List Task → Type 0
IsThere P tasks = (n : ℕ) × (x : Task) × (slice_get tasks n ≡ Some x) × (P x ≡ true)

there_or : (P : Task → Bool) (x : Task) (tasks : List Task) (b : Bool) → P x ≡ b → (list_any P tasks ≡ true → IsThere P tasks) → (b || list_any P tasks) ≡ true → IsThere P (x ∷ tasks)
there_or P x tasks true e more h = (0, x, refl, e)
there_or P x tasks false e more h = (let later = more h in (suc later.0, later.1, later.2, later.3))

any_there : (P : Task → Bool) (tasks : List Task) → list_any P tasks ≡ true → IsThere P tasks
any_there P [] h = cc
any_there P (x ∷ tasks) h = there_or P x tasks (P x) refl (λ k. any_there P tasks k) h

both_parts : (a b : Bool) → (a && b) ≡ true → (a ≡ true) × (b ≡ true)
both_parts true b h = (refl, h)
both_parts false b h = cc

equal_is : (n m : ℕ) → nat_eq n m ≡ true → n ≡ m
equal_is n m h = grind (arith, nat_tests)

runs_some : (i : ℕ) (o : Option Lifted) → is_in i o ≡ true → (f : Lifted) × (o ≡ Some f) × (f.instance ≡ i)
runs_some i None h = cc
runs_some i (Some f) h = (f, refl, equal_is f.instance i h)

module _ (g : Graph) (s : Script) (w : World) (k : IsStanding g s w) (awaits : AwaitCopies g w) (once : (i index j other : ℕ) (e : EndRef) → EndStandsAt w.insts i index e → EndStandsAt w.insts j other e → (i ≡ j) × (index ≡ other))
    (waiters : AreWaited g w) (at index : ℕ) (e : EndRef) (here : entry_at w at index ≡ Some (OfEnd e)) (c : Channel) (there : channel_in e.kind e.number w.streams w.futures ≡ Some c) (copy : OpenCopy)
    (under : (end_of w e).copy ≡ Some copy) where
  -- one whose call waits is
  is_waited : (options_at g copy.canon).is_async ≡ false → is_waited_for w at index ≡ true
  is_waited sync =
      let x : HasWaiter w.tasks w.insts e copy = waiters e c copy there (ap (λ (y : End). y.copy) (sym (end_there w e c there)) ∙ under) sync in
      let place = once x.func.instance x.index at index e x.stands here in
      let runs : runs_in at x.task ≡ true = ap (is_in at) x.runs ∙ (ap (λ (n : ℕ). nat_eq n at) place.0 ∙ equal_self at) in
      let waits : waits_at index x.task.state ≡ true = ap (waits_at index) x.waits ∙ (ap (λ (n : ℕ). nat_eq n index) place.1 ∙ equal_self index) in
      any_passes (λ task. runs_in at task && waits_at index task.state) w.tasks (task_by copy.by) x.task x.there (both_true (runs_in at x.task) (waits_at index x.task.state) runs waits)

  -- none waits at an index for one whose call does not
  waits_sync : (n : ℕ) (x : Task) (f : Lifted) (state : TaskState) → slice_get w.tasks n ≡ Some x → func_of x.callee ≡ Some f → f.instance ≡ at → x.state ≡ state → waits_at index state ≡ true → (options_at g copy.canon).is_async ≡ false
  waits_sync n x f (InBuiltin number words (ForCopy end)) found runs inst is waits =
      let a : AwaitsCopy g w.insts w.streams w.futures n number end f.instance = awaits n number end x f found runs (words, is) in
      let place : EndStandsAt w.insts f.instance end e =
      subst (λ (m : ℕ). EndStandsAt w.insts m end e) (sym inst) (subst (λ (m : ℕ). EndStandsAt w.insts at m e) (sym (equal_is end index waits)) here) in
      let same : a.copy ≡ copy = some_same (sym (awaited_at g w n number end f.instance e a place) ∙ under) in
      subst (λ (m : ℕ). (options_at g m).is_async ≡ false) (sym a.of_canon ∙ ap (λ (y : OpenCopy). y.canon) same) a.waits
  waits_sync n x f (InBuiltin number words (ForCancel subtask)) found runs inst is waits =
      let says : CancelStands w.tasks w.insts (Some f) (InBuiltin number words (ForCancel subtask)) =
      subst (λ (o : Option Lifted). CancelStands w.tasks w.insts o (InBuiltin number words (ForCancel subtask))) runs (subst (CancelStands w.tasks w.insts (func_of x.callee)) is (k.cancels.stands n x found)) in
      let stands : entry_at w at index ≡ Some (OfSubtask says.0) =
      subst (λ (m : ℕ). entry_at w m index ≡ Some (OfSubtask says.0)) inst (subst (λ (m : ℕ). entry_at w f.instance m ≡ Some (OfSubtask says.0)) (equal_is subtask index waits) says.1) in
      let clash : OfSubtask says.0 ≡ OfEnd e = some_same (sym stands ∙ here) in cc
  waits_sync n x f (InBuiltin number words ForYield) found runs inst is waits = cc
  waits_sync n x f (InBuiltin number words (ForSet set)) found runs inst is waits = cc
  waits_sync n x f (InBuiltin number words (ForCall callee)) found runs inst is waits = cc
  waits_sync n x f New found runs inst is waits = cc
  waits_sync n x f Acting found runs inst is waits = cc
  waits_sync n x f (AfterCall callee number words) found runs inst is waits = cc
  waits_sync n x f (AfterCancel callee number words) found runs inst is waits = cc
  waits_sync n x f (world.Begins m) found runs inst is waits = cc
  waits_sync n x f WaitsToEnter found runs inst is waits = cc
  waits_sync n x f (InLoop word) found runs inst is waits = cc
  waits_sync n x f Exited found runs inst is waits = cc

  sync_where : is_waited_for w at index ≡ true → (options_at g copy.canon).is_async ≡ false
  sync_where waited =
      let x = any_there (λ task. runs_in at task && waits_at index task.state) w.tasks waited in
      let parts = both_parts (runs_in at x.1) (waits_at index x.1.state) x.3 in
      let f = runs_some at (func_of x.1.callee) parts.0 in
      waits_sync x.0 x.1 f.0 x.1.state x.2 f.1 f.2 refl parts.1

  waited_so : (b : Bool) → (options_at g copy.canon).is_async ≡ b → (d : Bool) → is_waited_for w at index ≡ d → b ≡ not d
  waited_so true async true waited = (let clash : true ≡ false = sym async ∙ sync_where waited in cc)
  waited_so true async false waited = refl
  waited_so false sync true waited = refl
  waited_so false sync false waited = (let clash : true ≡ false = sym (is_waited sync) ∙ waited in cc)

pub reached_copies_are_known : ReachedCopiesAreKnown
reached_copies_are_known g s steps w apart clean r =
    let k = readers_reached g s steps w apart clean r in
    let waiters : AreWaited g w = waited_from g s steps (first_world g) w apart (first_stands g s apart) (first_waited g) r in
    let awaits : AwaitCopies g w = (reached_await g s steps w apart clean r).0 in
    let once = both_once w.insts w.streams w.futures k.0.alone.4 (k.0.alone.6 k.1.0) in
    record {
      waiters = waiters;
      waited = λ at index e here some.
          let l = stands_live w k.0.alone.4 (k.0.alone.6 k.1.0) at index e here in
          by_copy g s w k.0 awaits once waiters at index e here l.0 l.1 (end_of w e).copy refl some;
    }
  where
    by_copy : (g : Graph) (s : Script) (w : World) → IsStanding g s w → AwaitCopies g w → ((i index j other : ℕ) (e : EndRef) → EndStandsAt w.insts i index e → EndStandsAt w.insts j other e → (i ≡ j) × (index ≡ other)) → AreWaited g w
        → (at index : ℕ) (e : EndRef) → entry_at w at index ≡ Some (OfEnd e) → (c : Channel) → channel_in e.kind e.number w.streams w.futures ≡ Some c → (o : Option OpenCopy) → (end_of w e).copy ≡ o → ((end_of w e).copy ≡ None → ⊥)
        → passes (is_async_copy g) (end_of w e).copy ≡ not (is_waited_for w at index)
    by_copy g s w k awaits once waiters at index e here c there None under some = absurd (some under)
    by_copy g s w k awaits once waiters at index e here c there (Some copy) under some =
        ap (passes (is_async_copy g)) under ∙ waited_so g s w k awaits once waiters at index e here c there copy under (options_at g copy.canon).is_async refl (is_waited_for w at index) refl
