-- What each change keeps beside the order of tasks stays in every step, where what held at the start of the step is given.
use Rattle.std.proofs.Common.{◌≡◌, inl, inr, ℕ, true, false, List, refl, sym, subst, Option, Some, None}
use Rattle.std.specs.Prelude.{IsSome}
use Rattle.std.specs.List.{slice_get}
use Rattle.tasks.specs.declared.phase.Cancellation.TheVariants.{Asked}
use Rattle.stream_ends.specs.declared.open_copy.OpenCopy.{OpenCopy}
use Rattle.comp_graph.specs.Graph.{Graph, Lifted}
use Rattle.script_reader.specs.Script.{Script}
use Rattle.abi_machine.specs.Control.{EndRef}
use Rattle.abi_machine.specs.World.{OfEnd, Wait, ForYield, ForSet, ForCall, ForCopy, ForCancel, TaskState, New, Acting, AfterCall, AfterCancel, WaitsToEnter, InLoop, InBuiltin, Exited, Task, World}
use Rattle.abi_machine.specs.World as world
use Rattle.abi_machine.specs.Edits.{in_state, offered}
use Rattle.abi_machine.specs.Canons.{options_at}
use Rattle.abi_machine.specs.Reading.{entry_at, func_of, may_leave}
use Rattle.abi_machine.specs.Counting.{end_of}
use Rattle.abi_machine.specs.Copying.{task_by}
use Rattle.abi_machine.specs.sound.Changes.{Change, GoesTo, HasStore, SpendsUnit, UsesPicks, TakesItem, BeginsInstance, AddsEntry, MakesSet, RemovesEntry, RemovesWaitable, LeavesSet, JoinsSet, HasBackpressure, IsCalled, Calls, ComesBack, Acts, Begins, Cancels, Blocks, Exits, IsRemoved, Resolves, IsCancelled, HasWord, HasNewStack, HasStack, LosesStack, IsAnswered, IsTold, IsLent, HasResult, MakesChannel, Offers, Transfers, Concludes, DropsEnd, after, MayCome}
use Rattle.abi_machine.specs.sound.Owners.{owner_of_canon, IsApart, CallsOwn, IsOwnWorld}
use Rattle.abi_machine.specs.sound.Acting.{Outline, IsActing, WaitsWith}
use Rattle.abi_machine.proofs.sound.Found.{func_changed, now_cancels, cancels_changed, free_offered}
use Rattle.abi_machine.proofs.sound.Standing.{steady}
use Rattle.abi_machine.proofs.sound.Outlines.{Is, as_is, is_there, acting_waits}
use Rattle.abi_machine.proofs.sound.acts.Keeping as order
use Rattle.abi_machine.proofs.sound.acts.Keeping.{IsIn, Order}
use Rattle.abi_machine.proofs.sound.known.Copying.{NoneAwaits, BlocksCopying}
use Rattle.abi_machine.proofs.sound.known.Keeping.{BlocksAs, Besides, CallsItsOwn, Owns, Walk, acting_waits_else}

-- What is known where a change comes is what the order of tasks asks.
waits_before : (g : Graph) (t number : ℕ) (words : List ℕ) (wait : Wait) (w : World) → BlocksAs g t (InBuiltin number words wait) w → order.BlocksAs t (InBuiltin number words wait) w
waits_before g t number words ForYield w b = tt
waits_before g t number words (ForSet index) w b = tt
waits_before g t number words (ForCall callee) w b = b.0
waits_before g t number words (ForCopy index) w b = tt
waits_before g t number words (ForCancel index) w b = tt

blocks_before : (g : Graph) (t : ℕ) (state : TaskState) (w : World) → BlocksAs g t state w → order.BlocksAs t state w
blocks_before g t New w b = tt
blocks_before g t Acting w b = tt
blocks_before g t (AfterCall callee number words) w b = tt
blocks_before g t (AfterCancel callee number words) w b = tt
blocks_before g t (world.Begins n) w b = tt
blocks_before g t WaitsToEnter w b = tt
blocks_before g t (InLoop word) w b = tt
blocks_before g t (InBuiltin number words wait) w b = waits_before g t number words wait w b
blocks_before g t Exited w b = tt

pub was_known : (F D C J : Type 0) (g : Graph) (c : Change) (w : World) → Besides F D C J g c w → order.Besides g c w
was_known F D C J g (GoesTo control) w b = tt
was_known F D C J g (HasStore store) w b = tt
was_known F D C J g SpendsUnit w b = tt
was_known F D C J g (UsesPicks picks) w b = tt
was_known F D C J g TakesItem w b = tt
was_known F D C J g BeginsInstance w b = tt
was_known F D C J g (AddsEntry i entry) w b = tt
was_known F D C J g (MakesSet i set) w b = tt
was_known F D C J g (RemovesEntry i index) w b = tt
was_known F D C J g (RemovesWaitable i index) w b = tt
was_known F D C J g (LeavesSet i index) w b = tt
was_known F D C J g (JoinsSet i index set) w b = tt
was_known F D C J g (HasBackpressure i backpressure) w b = tt
was_known F D C J g (IsCalled callee call values) w b = tt
was_known F D C J g (Calls number callee subtask words) w b = (b.0, b.1, b.2)
was_known F D C J g (ComesBack t) w b = b
was_known F D C J g (Acts t) w b = tt
was_known F D C J g (Begins n) w b = tt
was_known F D C J g (Cancels t callee number words) w b = b.0
was_known F D C J g (Blocks t state) w b = (blocks_before g t state w b.0, b.1)
was_known F D C J g (Exits t) w b = b.0
was_known F D C J g (IsRemoved t) w b = b
was_known F D C J g (Resolves t resolution) w b = tt
was_known F D C J g (IsCancelled t cancellation) w b = tt
was_known F D C J g (HasWord t slot word) w b = tt
was_known F D C J g (HasNewStack t k) w b = b
was_known F D C J g (HasStack t k) w b = b
was_known F D C J g (LosesStack t) w b = b
was_known F D C J g (IsAnswered t words) w b = b
was_known F D C J g (IsTold t state) w b = tt
was_known F D C J g (IsLent t handle) w b = tt
was_known F D C J g (HasResult t words) w b = tt
was_known F D C J g (MakesChannel kind element) w b = tt
was_known F D C J g (Offers e call) w b = tt
was_known F D C J g (Transfers e size values) w b = tt
was_known F D C J g (Concludes e) w b = tt
was_known F D C J g (DropsEnd e) w b = tt

-- What each change keeps by itself is kept by those that belong together.
module _ (g : Graph) (s : Script) (F D C A : Type 0) (H : World → Type 0) (stays : (c : Change) (w : World) → MayCome g s c w → Besides F D C ⊥ g c w → (A → Owns g c w) → H w → H (after c w)) where
  pub stands_so : (t i index : ℕ) (e : EndRef) (call : OpenCopy) (words : List ℕ) (w : World) → Is (IsActing true) t w → may_leave w ≡ true → (end_of w e).copy ≡ None → task_by call.by ≡ t
      → (options_at g call.canon).is_async ≡ false → owner_of_canon g call.canon ≡ Some i → entry_at w i index ≡ Some (OfEnd e)
      → (C → BlocksCopying g t (InBuiltin call.canon words (ForCopy index)) (offered e call w)) → (A → CallsItsOwn g call.canon t w) → H w
      → H (after (Blocks t (InBuiltin call.canon words (ForCopy index))) (after (Offers e call) w))
  stands_so t i index e call words w a free quiet of_task sync own here copies calls h =
      let u : World = offered e call w in
      let now : Is (IsActing true) t u = steady (IsActing true) t (Offers e call) w tt a in
      stays (Blocks t (InBuiltin call.canon words (ForCopy index))) u (now.0, tt, inl (free_offered e call w free))
      (tt, as_is (IsActing true) (WaitsWith true) t u (acting_waits true) now, (λ asks. tt), copies, acting_waits_else true t u now, (λ joins. absurd joins))
      (λ apart. steady (λ (o : Outline). CallsOwn g (func_of o.callee) call.canon) t (Offers e call) w tt (calls apart)) (stays (Offers e call) w tt (quiet, λ joins. absurd joins) (λ apart. tt) h)

  pub wakes_so : (t number index : ℕ) (words : List ℕ) (f : Lifted) (e : EndRef) (w : World) → Is (IsIn (InBuiltin number words (ForCopy index))) t w → Is (λ o. func_of o.callee ≡ Some f) t w
      → entry_at w f.instance index ≡ Some (OfEnd e) → (C → NoneAwaits (in_state t Acting w) e) → H w → H (after (Concludes e) (after (Acts t) w))
  wakes_so t number index words f e w a mine here alone h =
      stays (Concludes e) (in_state t Acting w) tt alone (λ apart. tt) (stays (Acts t) w a.0 (λ joins. absurd joins) (λ apart. tt) h)

-- It is kept, whatever of the order is.
module _ (g : Graph) (s : Script) (o : Order g s) (F A E C : Type 0) (K : World → Type 0) (graph : A → IsApart g) (events : E → A) (own : A → (w : World) → K w → IsOwnWorld g w)
    (kept : (c : Change) (w : World) → MayCome g s c w → Besides F ⊥ C ⊥ g c w → (A → Owns g c w) → K w → K (after c w))
    (comes : (t : ℕ) (w : World) → MayCome g s (ComesBack t) w → K w → K (after (ComesBack t) w)) (removed : (t : ℕ) (w : World) → MayCome g s (IsRemoved t) w → K w → K (after (IsRemoved t) w)) where
  pub both : (c : Change) (w : World) → MayCome g s c w → Besides F ⊥ C ⊥ g c w → (A → Owns g c w) → o.Holds w × K w → o.Holds (after c w) × K (after c w)
  both c w may b belongs h = (o.stays c w may (was_known F ⊥ C ⊥ g c w b) h.0, kept c w may b belongs h.1)

  unfoldable pub beside : Walk g s
  beside = record {
    Given = F;
    Apart = A;
    Event = E;
    Asks = ⊥;
    Copies = C;
    Joins = ⊥;
    graph = graph;
    events = events;
    asks_apart = λ none. absurd none;
    own = λ apart w h. own apart w h.1;
    Holds = λ w. o.Holds w × K w;
    alone = λ w h. o.alone w h.0;
    chained = λ w h. o.chained w h.0;
    stacked = λ w h. o.stacked w h.0;
    stays = both;
    stands = stands_so g s F ⊥ C A (λ w. o.Holds w × K w) both;
    wakes = wakes_so g s F ⊥ C A (λ w. o.Holds w × K w) both;
    comes = λ t w task there runs is idle h. (o.comes t w task there runs is idle h.0, comes t w ((task, there, runs), inl idle) h.1);
    removed = λ t w task there runs waits idle h. (o.removed t w task there runs waits idle h.0, removed t w (task, there, runs) h.1);
    comes_asked = λ t callee number words w task a free there runs is alone well calls h. (
      o.comes_asked t callee number words w task a free there runs is h.0,
      (
          let v : World = after (Cancels t callee number words) w in
          let asks : Task → Task = λ x. record x { cancellation = Asked } in
          let some : IsSome (slice_get w.tasks callee) = subst (λ (x : Option Task). IsSome x) (sym there) refl in
          comes callee (after (IsCancelled callee Asked) v) (
            func_changed v.tasks callee callee asks (λ x. refl) (func_changed w.tasks t callee (λ x. record x { state = AfterCancel callee number words }) (λ x. refl) (task, there, runs)),
            cancels_changed v.tasks v.chain callee asks (λ x. refl) (inr (now_cancels w t callee number words a.0 (is_there (IsActing true) t w a))),
          )
          (kept (IsCancelled callee Asked) v tt refl (λ apart. tt) (kept (Cancels t callee number words) w (a.0, free) (as_is (IsActing true) (WaitsWith true) t w (acting_waits true) a, some, alone, (λ none. absurd none), acting_waits_else true t w a) calls h.1))
          ),
    );
    removed_asked = λ t callee number words w task a free there runs waits alone well calls h. (
      o.removed_asked t callee number words w task a free there runs waits h.0,
      (
          let v : World = after (Cancels t callee number words) w in
          let some : IsSome (slice_get w.tasks callee) = subst (λ (x : Option Task). IsSome x) (sym there) refl in
          removed callee v (func_changed w.tasks t callee (λ x. record x { state = AfterCancel callee number words }) (λ x. refl) (task, there, runs))
          (kept (Cancels t callee number words) w (a.0, free) (as_is (IsActing true) (WaitsWith true) t w (acting_waits true) a, some, alone, (λ none. absurd none), acting_waits_else true t w a) calls h.1)
          ),
    );
    pending_asked = λ t callee number words w task a free there alone well calls h. (
        let v : World = after (Cancels t callee number words) w in
        let some : IsSome (slice_get w.tasks callee) = subst (λ (x : Option Task). IsSome x) (sym there) refl in
        let waits : Is (WaitsWith true) t w = as_is (IsActing true) (WaitsWith true) t w (acting_waits true) a in (
          o.stays (IsCancelled callee Asked) v tt tt (o.stays (Cancels t callee number words) w (a.0, free) waits h.0),
          kept (IsCancelled callee Asked) v tt refl (λ apart. tt) (kept (Cancels t callee number words) w (a.0, free) (waits, some, alone, (λ none. absurd none), acting_waits_else true t w a) calls h.1),
        )
        );
  }
