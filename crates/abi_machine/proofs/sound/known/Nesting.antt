-- Reads and writes, nested code and lowerings keep what each change keeps.
use Rattle.std.proofs.Common.{◌≡◌, ◌∙◌, inl, inr, ℕ, true, false, nat_eq, List, [], ◌∷◌, length, refl, sym, subst, Option, Some, None, Result, Ok, Err}
use Rattle.wasm_store.specs.Store.{Store, found_at}
use Rattle.wasm_store.specs.Step.{start}
use Rattle.wasm_store.specs.Stack.{Stack}
use Rattle.syntax_trees.specs.declared.types.ValType.{ValType}
use Rattle.stream_ends.specs.declared.open_copy.OpenCopy.{OpenCopy}
use Rattle.comp_graph.specs.declared.graph.CanonFunc.{CanonFunc}
use Rattle.comp_graph.specs.Graph.{Graph}
use Rattle.script_reader.specs.Script.{Script}
use Rattle.trace_labels.specs.declared.label.Label.TheVariants as line
use Rattle.trace_labels.specs.declared.label.BlockReason.TheVariants as reason
use Rattle.trace_labels.specs.declared.trap.TrapName.{TrapName}
use Rattle.trace_labels.specs.declared.trap.TrapName.TheVariants as trap
use Rattle.abi_machine.specs.Traps.{core_name}
use Rattle.abi_machine.specs.LoweringOver.{New, NewOwn, NewBorrow, NewEnd, Plan}
use Rattle.abi_machine.specs.Control.{EndRef, Copying, Then, Starts, Resolves, Transfers, Lowering, Nested, Behind, InLowering, BeforeLeaving, Quiet, Leaves, Doomed}
use Rattle.abi_machine.specs.World.{OfEnd, ForCopy, InBuiltin, Channel, World}
use Rattle.abi_machine.specs.Edits.{with_store, with_memory, offered, transferred}
use Rattle.abi_machine.specs.Canons.{func_address, bytes_of, canon_at, inst_of_canon, options_of_canon, options_at, builtin_of}
use Rattle.abi_machine.specs.Reading.{table_of, entry_at, acting, func_of, may_leave, channel_at}
use Rattle.abi_machine.specs.Counting.{end_of}
use Rattle.abi_machine.specs.Pausing.{ask_words, Paused, Words, Failed, Asked as AsksNow, Settled, settle, entry_of}
use Rattle.abi_machine.specs.Turn.{silent, doomed}
use Rattle.abi_machine.specs.Copying.{blocked_word, completed, Met, AtOnce, Moves, Stands as OfferStands, met_by, other_offer, read_of, write_of, task_by, elements_written, elements_read, moved_by, elements_moved, meeting_turn, meets, is_within, transferring_turn}
use Rattle.abi_machine.specs.Nested.{HostedTurn, On, EndsIn, TrapsBy, CallsHost, NoRule, hosted_next, nested_ended, answered_in_place, answered_or_refused, calls_host, hosted, nested_turn}
use Rattle.abi_machine.specs.Lowering.{started, lowered, paused, left_by, settled_turn, lowers_turn}
use Rattle.abi_machine.specs.replies.Context.{Exempt, Answers, exempt_of}
use Rattle.abi_machine.specs.sound.Changes.{HasStore, AddsEntry, HasWord, HasResult, Offers, Transfers as IsTransferred, after, IsFirst}
use Rattle.abi_machine.specs.sound.Acting.{outlines_of, IsActing, OneActs, FollowsFor, LowersFor, BehindFor, stacked_then, stacked_behind}
use Rattle.abi_machine.proofs.sound.Due.{channel_is}
use Rattle.abi_machine.specs.sound.Chain.{IsChained}
use Rattle.abi_machine.proofs.sound.known.Copying.{BlocksCopying}
use Rattle.abi_machine.proofs.sound.known.Awaiting.{over_at_once, blocks_copying}
use Rattle.abi_machine.proofs.sound.known.Lifting.{elements_keep}
use Rattle.abi_machine.proofs.sound.Found.{entry_is_added}
use Rattle.abi_machine.proofs.sound.Aside.{channel_kept}
use Rattle.abi_machine.proofs.sound.acts.Keeping.{is_first, acts_at}
use Rattle.abi_machine.specs.sound.Owners.{owner_of_canon, IsCanonApart, IsStackOf, IsHostedBy, HasOwnRealloc, IsBehindOwn}
use Rattle.abi_machine.proofs.sound.Standing.{steady}
use Rattle.abi_machine.proofs.sound.own.Moved.{IsOnward}
use Rattle.abi_machine.proofs.sound.own.Belonging.{found_of, ref_starts, options_realloc, resumed_of, IsTurnOf, hosted_of, onward_address, rewritten_on, canon_apart}
use Rattle.abi_machine.proofs.sound.own.Tasks.{store_own, mine_is, lifted_by, stack_own}
use Rattle.abi_machine.proofs.sound.known.Keeping.{CallsItsOwn, IsNewEntry, Walk, Keeps, Held, still, given_keeps, behind_keeps, either_keeps, goes, unless_keeps, charged_keeps, on_keeps, blocked_so, acting_stack_keeps, removes, waits, lends, came_keeps}
use Rattle.abi_machine.proofs.sound.acts.Nesting.{exempt_leaves, settled_leaves}
use Rattle.abi_machine.proofs.sound.known.Moving.{finished_keeps}

-- What an entry of a lowering is: no subtask.
entry_is_new : (g : Graph) (w : World) (i t : ℕ) (entry : New) → IsNewEntry g w i (entry_of t entry)
entry_is_new g w i t (NewOwn resource rep) = tt
entry_is_new g w i t (NewBorrow resource rep) = tt
entry_is_new g w i t (NewEnd kind number) = tt

module _ {g : Graph} {s : Script} (walk : Walk g s) where
  -- Reads and writes.

  moved_by_keeps : (t : ℕ) (e : EndRef) (call read write : OpenCopy) (reading writing : CanonFunc) (count : ℕ) (element : Option ValType) (w : World) → (walk.Apart → IsCanonApart g reading) → Held walk true t w
      → Keeps walk (moved_by g t e call read write reading writing count element w)
  unfolding moved_by elements_written elements_read
  moved_by_keeps t e call read write reading writing count None w own h = (goes walk _ w h.0, (λ apart. options_realloc g w.store (inst_of_canon reading) (options_of_canon reading) (walk.own apart w h.0).canons (walk.own apart w h.0).owned (own apart).0), ((t, h.1), (h.1.0, tt)))
  moved_by_keeps t e call read write reading writing count (Some element) w own h =
      came_keeps walk true t (elements_written t write writing count element w) (λ values later. elements_read g t e call.length read reading element values later)
      (elements_keep (Held walk true t) (removes walk true t) (waits walk true t) (lends walk true t) (inst_of_canon writing) t element _ _ count w h) (λ values v i. (goes walk _ v i.0, (λ apart. options_realloc g v.store (inst_of_canon reading) (options_of_canon reading) (walk.own apart v i.0).canons (walk.own apart v i.0).owned (own apart).0), ((t, i.1), (i.1.0, tt))))

  elements_moved_keep : (t : ℕ) (e : EndRef) (call : OpenCopy) (count : ℕ) (element : Option ValType) (offer : OpenCopy) (w : World) → Held walk true t w → Keeps walk (elements_moved g t e call count element offer w)
  unfolding elements_moved
  elements_moved_keep t e call count element offer w h =
      given_keeps walk (canon_at g (read_of e.side call offer).canon) _ (λ reading i. given_keeps walk (canon_at g (write_of e.side call offer).canon) _ (λ writing j.
      moved_by_keeps t e call (read_of e.side call offer) (write_of e.side call offer) reading writing count element w (λ apart. canon_apart g (read_of e.side call offer).canon reading (walk.graph apart) i) h))

  meeting_keeps : (t : ℕ) (e : EndRef) (call : OpenCopy) (words : List ℕ) (index : ℕ) (c : Channel) (m : Met) (w : World) → may_leave w ≡ true → (end_of w e).copy ≡ None → task_by call.by ≡ t
      → (i : ℕ) → entry_at w i index ≡ Some (OfEnd e) → owner_of_canon g call.canon ≡ Some i → ((payload : ℕ) → m ≡ AtOnce payload → (end_of (offered e call w) e).copy ≡ None)
      → (m ≡ OfferStands → (options_at g call.canon).is_async ≡ false → BlocksCopying g t (InBuiltin call.canon words (ForCopy index)) (offered e call w)) → (walk.Apart → CallsItsOwn g call.canon t w) → Held walk true t w
      → Keeps walk (meeting_turn g t e call words index c m w)
  unfolding meeting_turn
  meeting_keeps t e call words index c (AtOnce payload) w free quiet of_task i here own over copies calls h =
      on_keeps walk t (payload ∷ []) (offered e call w) (still walk true t (Offers e call) w tt (quiet, λ joins. inr (over payload refl)) (λ apart. tt) tt h)
  meeting_keeps t e call words index c (Moves count) w free quiet of_task i here own over copies calls h = given_keeps walk (other_offer e.side c.ends.view) _ (λ offer i. elements_moved_keep t e call count _ offer w h)
  meeting_keeps t e call words index c OfferStands w free quiet of_task at here own over copies calls h =
      either_keeps walk (options_at g call.canon).is_async _ _
      (λ i. on_keeps walk t (blocked_word ∷ []) (offered e call w) (still walk true t (Offers e call) w tt (quiet, λ joins. inl i) (λ apart. tt) tt h))
      (λ i.
      blocked_so walk t (InBuiltin call.canon words (ForCopy index)) (reason.Copy index) (offered e call w) (steady (IsActing true) t (Offers e call) w tt h.1).0
      (channel_kept IsChained (λ v x k. k) (λ v x k. k) e.kind e.number _ w (walk.chained w h.0))
      (walk.stands t at index e call words w h.1 free quiet of_task i own here (λ given. copies refl i) calls h.0))

  pub meets_keeps : (t i : ℕ) (e : EndRef) (call : OpenCopy) (words : List ℕ) (index : ℕ) (w : World) → may_leave w ≡ true → (end_of w e).copy ≡ None → task_by call.by ≡ t → entry_at w i index ≡ Some (OfEnd e)
      → owner_of_canon g call.canon ≡ Some i → (walk.Apart → CallsItsOwn g call.canon t w) → Held walk true t w → Keeps walk (meets g t i e call words index w)
  unfolding meets
  meets_keeps t i e call words index w free quiet of_task here own calls h =
      given_keeps walk (channel_at w e.kind e.number) _ (λ c j.
      unless_keeps walk t (is_within g i e.side c.element c.ends.view) trap.SameInstance w (meeting_turn g t e call words index c (met_by e.kind e.side call c.ends.view) w) (h.0, h.1.0)
      (λ k. meeting_keeps t e call words index c (met_by e.kind e.side call c.ends.view) w free quiet of_task i here own (over_at_once e call c w quiet (channel_is e.kind e.number w ∙ j)) (λ stands sync. blocks_copying g w t i index words e call c own here (channel_is e.kind e.number w ∙ j) stands of_task sync) calls h))

  transferring_keeps : (copying : Copying) (w : World) → walk.Holds w → OneActs (IsActing true) (outlines_of w.tasks) w.chain → Keeps walk (transferring_turn copying w)
  unfolding transferring_turn
  transferring_keeps copying w h o =
      given_keeps walk (acting w) _ (λ a e. given_keeps walk (channel_at w copying.end.kind copying.end.number) _ (λ c i.
      on_keeps walk a.0 (completed copying.end.kind (length copying.values) ∷ []) (transferred copying.end copying.length copying.values w)
      (still walk true a.0 (IsTransferred copying.end copying.length copying.values) w tt tt (λ apart. tt) tt (h, acts_at (IsActing true) w a e o))))

  -- Nested code.

  -- what it leaves alone: the task that a trap names acts, and what follows
  abbrev Nests : ℕ → Behind → World → Type 0
  Nests t b w = Held walk (stacked_behind b) t w × BehindFor b w.chain

  in_place_keeps : (n : Nested) (b : Behind) (k : Stack) (r : Result Answers TrapName) (w : World) → ((answer : Answers) → r ≡ Ok answer → Nests n.blame b answer.world) → ((answer : Answers) → r ≡ Ok answer → answer.world.store ≡ w.store)
      → (walk.Apart → IsStackOf g n.inst k × IsBehindOwn g w.store b) → Nests n.blame b w
      → Keeps walk (answered_in_place n b k r w)
  unfolding answered_in_place
  in_place_keeps n b k (Err why) w keeps same own h = (goes walk (Doomed n.blame why) w h.0.0, tt, h.0.1.0)
  in_place_keeps n b k (Ok answer) w keeps same own h =
      let i : Nests n.blame b answer.world = keeps answer refl in
      (goes walk _ answer.world i.0.0, (λ apart. (resumed_of g n.inst answer.words k (own apart).0, subst (λ (x : Store). IsBehindOwn g x b) (sym (same answer refl)) (own apart).1)), ((n.blame, i.0.1), i.0.1.0, i.1))

  calls_keeps : (n : Nested) (b : Behind) (k : Stack) (words : List ℕ) (c : CanonFunc) (w : World) → (walk.Apart → IsStackOf g n.inst k × IsBehindOwn g w.store b) → Nests n.blame b w → Keeps walk (calls_host n b k words c w)
  unfolding calls_host answered_or_refused
  calls_keeps n b k words c w own h =
      either_keeps walk (nat_eq (inst_of_canon c) n.inst) _ _ (λ e. behind_keeps walk (line.Do n.acts_for (builtin_of c) words ∷ []) (answered_or_refused n b k (exempt_of n.acts_for words c) w) (by (exempt_of n.acts_for words c) refl)) (λ e. tt)
    where
      by : (o : Option Exempt) → exempt_of n.acts_for words c ≡ o → Keeps walk (answered_or_refused n b k o w)
      by None e = (goes walk _ w h.0.0, tt, h.0.1.0)
      by (Some exempt) e =
          in_place_keeps n b k (exempt w) w
          (λ answer f. exempt_leaves (Nests n.blame b) (λ t slot word v i. (still walk (stacked_behind b) n.blame (HasWord t slot word) v tt tt (λ apart. tt) tt i.0, i.1)) n.acts_for words c exempt e w answer f h)
          (λ answer f. exempt_leaves (λ v. v.store ≡ w.store) (λ t slot word v same. same) n.acts_for words c exempt e w answer f refl) own h

  nested_ends : (t : ℕ) (b : Behind) (words : List ℕ) (w : World) → (walk.Apart → IsBehindOwn g w.store b) → Nests t b w → Keeps walk (nested_ended b words w)
  unfolding nested_ended
  nested_ends t (InLowering l k) [] w own h = tt
  nested_ends t (InLowering l k) (place ∷ words) w own h = (goes walk _ w h.0.0, own, ((t, h.0.1), h.1))
  nested_ends t BeforeLeaving words w own h = (goes walk Leaves w h.0.0, tt, (t, h.0.1))

  -- what follows stays the component instance's own
  behind_own : (s t : Store) (b : Behind) → IsOnward s t → IsBehindOwn g s b → IsBehindOwn g t b
  behind_own s t (InLowering l k) x h = λ address at. onward_address g s t l.inst address x (h address at)
  behind_own s t BeforeLeaving x h = tt

  hosted_keeps : (n : Nested) (b : Behind) (t : HostedTurn) (w : World) → (walk.Apart → IsTurnOf g n.inst w.store t × IsBehindOwn g w.store b) → Nests n.blame b w → Keeps walk (hosted g s n b t w)
  unfolding hosted
  hosted_keeps n b (On paid state store) w own h =
      charged_keeps walk paid w (λ v. silent (Quiet (record n { state = state }) b) (with_store store v)) h.0.0 (λ units i. (
        goes walk _ (with_store store (record w { units = units })) (walk.stays (HasStore store) (record w { units = units }) tt tt (λ apart. store_own g (record w { units = units }) store (own apart).0.0 (walk.own apart (record w { units = units }) i)) i),
        (λ apart. ((own apart).0.1, behind_own w.store store b (own apart).0.0 (own apart).1)),
        ((n.blame, h.0.1), h.0.1.0, h.1),
      ))
  hosted_keeps n b (EndsIn words) w own h = nested_ends n.blame b words w (λ apart. (own apart).1) h
  hosted_keeps n b (TrapsBy why) w own h = charged_keeps walk true w (λ v. doomed n.blame (core_name why) v) h.0.0 (λ units i. (goes walk (Doomed n.blame (core_name why)) (record w { units = units }) i, tt, h.0.1.0))
  hosted_keeps n b (CallsHost number words k) w own h = given_keeps walk (canon_at g number) _ (λ c e. calls_keeps n b k words c w (λ apart. ((own apart).0.1, (own apart).1)) h)
  hosted_keeps n b NoRule w own h = tt

  pub nested_keeps : (n : Nested) (b : Behind) (w : World) → (walk.Apart → IsHostedBy g n.inst n.state × IsBehindOwn g w.store b) → walk.Holds w → OneActs (IsActing (stacked_behind b)) (outlines_of w.tasks) w.chain → IsFirst n.blame w.chain → BehindFor b w.chain → Keeps walk (nested_turn g s n b w)
  unfolding nested_turn
  nested_keeps n b w own h o first follows =
      hosted_keeps n b (hosted_next n.state w.store) w (λ apart. (hosted_of g w.store n.inst n.state (walk.own apart w h).owned (own apart).0, (own apart).1)) ((h, is_first (IsActing (stacked_behind b)) w n.blame first o), follows)

  -- Lowerings.

  start_func_keeps : (words : List ℕ) (w : World) → walk.Holds w → OneActs (IsActing false) (outlines_of w.tasks) w.chain → Keeps walk (started words w)
  unfolding started
  start_func_keeps words w h o =
      given_keeps walk (acting w) _ (λ a e. given_keeps walk (func_of a.1.callee) _ (λ f i. given_keeps walk (found_at w.store.funcs (func_address w.store f.core)) _ (λ function j.
      acting_stack_keeps walk false a.0 (start function.1 function.0 words) w
      (λ apart.
      stack_own g w a.0 f (start function.1 function.0 words)
      (ref_starts g w.store f.instance f.core function words (walk.own apart w h).canons (walk.own apart w h).owned (lifted_by g w a.0 f (walk.own apart w h) (mine_is w a f e i)).0 j) (mine_is w a f e i))
      (h, acts_at (IsActing false) w a e o))))

  -- what it leaves alone
  abbrev LowersOn : Lowering → World → Type 0
  LowersOn l w = Held walk (stacked_then l.next) l.blame w × FollowsFor l.next w.chain

  lowered_keeps : (t : ℕ) (follows : Then) (words : List ℕ) (w : World) → Held walk (stacked_then follows) t w → Keeps walk (lowered follows words w)
  unfolding lowered
  lowered_keeps t Starts words w h = start_func_keeps words w h.0 (t, h.1)
  lowered_keeps t (Resolves to follows) words w h =
      let k : Held walk (stacked_then (Resolves to follows)) t (after (HasResult to words) w) = still walk (stacked_then (Resolves to follows)) t (HasResult to words) w tt tt (λ apart. tt) tt h in
      finished_keeps walk follows (after (HasResult to words) w) k.0 (t, k.1)
  lowered_keeps t (Transfers copying) words w h = transferring_keeps copying w h.0 (t, h.1)

  paused_keeps : (l : Lowering) (p : Paused) (w : World) → (walk.Apart → HasOwnRealloc g w.store l) → LowersOn l w → Keeps walk (paused l p w)
  unfolding paused
  paused_keeps l (Words words) w own h = lowered_keeps l.blame l.next words w h.0
  paused_keeps l (Failed why) w own h = (goes walk _ w h.0.0, tt, h.0.1.0)
  paused_keeps l (AsksNow ask k) w own h =
      given_keeps walk (found_at w.store.funcs l.realloc) _ (λ f e. (goes walk _ w h.0.0, (λ apart. (found_of g w.store l.inst l.realloc f (ask_words ask) e (own apart), own apart)), ((l.blame, h.0.1), h.0.1.0, (h.0.1.0, h.1))))

  pub lowers_keeps : (l : Lowering) (plan : Plan) (w : World) → (walk.Apart → HasOwnRealloc g w.store l) → walk.Holds w → OneActs (IsActing (stacked_then l.next)) (outlines_of w.tasks) w.chain → LowersFor l w.chain → Keeps walk (lowers_turn l plan w)
  unfolding lowers_turn settled_turn
  lowers_keeps l plan w own h o follows =
      let settled : Settled = settle l.acts_for plan (bytes_of w.store l.memory) (table_of w l.inst) in
      let on : IsOnward w.store (with_memory l.memory settled.bytes w).store = rewritten_on (found_at w.store.memories l.memory) settled.bytes w.store in
      let k : LowersOn l (with_memory l.memory settled.bytes w) = (still walk (stacked_then l.next) l.blame (HasStore _) w tt tt (λ apart. store_own g w _ on (walk.own apart w h)) tt (h, is_first (IsActing (stacked_then l.next)) w l.blame follows.0 o), follows.1) in
      paused_keeps l settled.paused (left_by l settled w) (λ apart address at. onward_address g w.store (with_memory l.memory settled.bytes w).store l.inst address on (own apart address at))
      (settled_leaves (LowersOn l) (λ i t entry v few j. (still walk (stacked_then l.next) l.blame (AddsEntry i (entry_of t entry)) v (few, entry_is_added v.tasks t entry) (λ given. entry_is_new g v i t entry) (λ apart. tt) tt j.0, j.1)) l.inst l.acts_for plan (bytes_of w.store l.memory)
      (with_memory l.memory settled.bytes w) k)
