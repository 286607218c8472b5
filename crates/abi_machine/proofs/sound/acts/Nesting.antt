-- Reads and writes, nested code and lowerings keep the order of tasks.
use Rattle.std.proofs.Common.{◌≡◌, ◌<◌, inl, ℕ, Bool, true, false, nat_eq, nat_lt, List, [], ◌∷◌, length, refl, sym, ap, ◌∙◌, subst, Option, Some, None, Result, Ok, Err, if◌then◌else◌}
use Rattle.std.specs.Prelude.{slice_index}
use Rattle.wasm_store.specs.Store.{found_at}
use Rattle.wasm_store.specs.Stack.{Stack}
use Rattle.syntax_trees.specs.declared.types.ValType.{ValType}
use Rattle.builtin_kinds.specs.declared.ResourceOp.TheVariants as resource_op
use Rattle.builtin_kinds.specs.declared.ContextOp.{ContextOp}
use Rattle.builtin_kinds.specs.declared.ContextOp.TheVariants as context_op
use Rattle.value_lower.specs.Following.{written}
use Rattle.handle_table.specs.History.{Event, live_count, most_live, next_index}
use Rattle.stream_ends.specs.declared.open_copy.OpenCopy.{OpenCopy}
use Rattle.comp_graph.specs.declared.graph.CanonFunc.{CanonFunc}
use Rattle.comp_graph.specs.declared.graph.CanonFunc.TheVariants as canon
use Rattle.comp_graph.specs.declared.graph.BuiltinKind.{BuiltinKind}
use Rattle.comp_graph.specs.declared.graph.BuiltinKind.TheVariants as builtin
use Rattle.comp_graph.specs.Graph.{Graph}
use Rattle.script_reader.specs.Script.{Script}
use Rattle.trace_labels.specs.declared.label.Label.TheVariants as line
use Rattle.trace_labels.specs.declared.label.BlockReason.TheVariants as reason
use Rattle.trace_labels.specs.declared.trap.TrapName.{TrapName}
use Rattle.trace_labels.specs.declared.trap.TrapName.TheVariants as trap
use Rattle.abi_machine.specs.Traps.{core_name}
use Rattle.abi_machine.specs.LoweringOver.{New, Plan, Gives, Fails, Asks, Size, Put, Adds}
use Rattle.abi_machine.specs.Control.{EndRef, Copying, Then, Starts, Resolves, Transfers, Lowering, Nested, Behind, InLowering, BeforeLeaving, Quiet, Leaves, Doomed}
use Rattle.abi_machine.specs.World.{Entry, ForCopy, InBuiltin, Channel, World}
use Rattle.abi_machine.specs.Edits.{with_store, with_memory, with_table, added, entry_added, word_set, offered, transferred}
use Rattle.abi_machine.specs.Canons.{func_address, bytes_of, canon_at, inst_of_canon, options_at, builtin_of}
use Rattle.abi_machine.specs.Reading.{table_of, acting, func_of, may_leave, channel_at}
use Rattle.abi_machine.specs.Pausing.{Paused, Words, Failed, Asked as AsksNow, Settled, settle, index_in, with_new, entry_of}
use Rattle.abi_machine.specs.Turn.{silent, doomed}
use Rattle.abi_machine.specs.Copying.{blocked_word, completed, Met, AtOnce, Moves, Stands as OfferStands, met_by, other_offer, read_of, write_of, elements_written, elements_read, moved_by, elements_moved, meeting_turn, meets, is_within, transferring_turn}
use Rattle.abi_machine.specs.Nested.{HostedTurn, On, EndsIn, TrapsBy, CallsHost, NoRule, hosted_next, nested_ended, answered_in_place, answered_or_refused, calls_host, hosted, nested_turn}
use Rattle.abi_machine.specs.Lowering.{started, lowered, paused, left_by, settled_turn, lowers_turn}
use Rattle.abi_machine.specs.replies.Context.{Exempt, Answers, rep_answered, context_answer, exempt_kind, exempt_of}
use Rattle.abi_machine.specs.sound.Changes.{HasStore, AddsEntry, HasWord, HasResult, Offers, Transfers as IsTransferred, after, IsFirst}
use Rattle.abi_machine.specs.sound.Acting.{outlines_of, WaitsWith, IsActing, OneActs, FollowsFor, LowersFor, BehindFor, stacked_then, stacked_behind}
use Rattle.abi_machine.proofs.sound.Lifted.{elements_keep}
use Rattle.abi_machine.proofs.sound.Found.{ok_same, some_same, table_kept, added_once, entry_is_added, free_offered}
use Rattle.abi_machine.proofs.sound.Outlines.{as_is, acting_waits}
use Rattle.abi_machine.proofs.sound.acts.Keeping.{Order, is_first, acts_at, Keeps, Held, still, less, given_keeps, behind_keeps, either_keeps, goes, unless_keeps, charged_keeps, on_keeps, blocked_keeps, acting_stack_keeps, removes, waits, lends, came_keeps}
use Rattle.abi_machine.proofs.sound.acts.Moving.{finished_keeps}

-- What is answered also where the instance may not be left keeps what words of context leave alone.
module _ (K : World → Type 0) (sets : (t slot word : ℕ) (w : World) → K w → K (word_set t slot word w)) where
  rep_leaves : (w : World) (r : Result ℕ TrapName) (answer : Answers) → rep_answered w r ≡ Ok answer → K w → K answer.world
  rep_leaves w (Err why) answer e h = cc
  rep_leaves w (Ok rep) answer e h = subst (λ (a : Answers). K a.world) (ok_same e) h

  context_leaves : (t : ℕ) (words : List ℕ) (op : ContextOp) (slot : ℕ) (w : World) (answer : Answers) → context_answer t words op slot w ≡ Ok answer → K w → K answer.world
  context_leaves t words context_op.Get slot w answer e h = subst (λ (a : Answers). K a.world) (ok_same e) h
  context_leaves t words context_op.Set slot w answer e h = subst (λ (a : Answers). K a.world) (ok_same e) (sets t slot (slice_index words 0) w h)

  pub exempt_leaves : (t : ℕ) (words : List ℕ) (c : CanonFunc) (exempt : Exempt) → exempt_of t words c ≡ Some exempt → (w : World) (answer : Answers) → exempt w ≡ Ok answer → K w → K answer.world
  exempt_leaves t words (canon.Lower l) exempt e w answer f h = cc
  exempt_leaves t words (canon.Builtin b) exempt e w answer f h = by b.kind e
    where
      by : (k : BuiltinKind) → exempt_kind t words b.instance k ≡ Some exempt → K answer.world
      by (builtin.Resource resource_op.New resource) i = cc
      by (builtin.Resource resource_op.Drop resource) i = cc
      by (builtin.Resource resource_op.Rep resource) i = rep_leaves w _ answer (ap (λ (x : Exempt). x w) (some_same i) ∙ f) h
      by (builtin.TaskReturn result options) i = cc
      by (builtin.Plain op) i = cc
      by (builtin.Context op slot) i = context_leaves t words op slot w answer (ap (λ (x : Exempt). x w) (some_same i) ∙ f) h
      by (builtin.Wait op cancellable memory) i = cc
      by (builtin.End of_what element op) i = cc

-- A plan that is followed keeps what entries leave alone.
module _ (K : World → Type 0) (adds : (i t : ℕ) (entry : New) (w : World) → live_count (table_of w i) < most_live → K w → K (entry_added i (entry_of t entry) w)) where
  adds_leave : (i t : ℕ) (entry : New) (k : Option ℕ → Plan) (bytes : List ℕ) (w : World)
      → ((o : Option ℕ) (v : World) → K v → K (with_table i (λ before. (settle t (k o) bytes (table_of v i)).table) v)) → K w
      → K (with_table i (λ before. (settle t (k (index_in (table_of w i))) bytes (with_new (entry_of t entry) (table_of w i))).table) w)
  adds_leave i t entry k bytes w more h = by (nat_lt (live_count (table_of w i)) most_live) refl
    where
      by : (b : Bool) → nat_lt (live_count (table_of w i)) most_live ≡ b
          → K (with_table i (λ before. (settle t (k (if b then Some (next_index (table_of w i)) else None)) bytes (if b then added (entry_of t entry) (table_of w i) else table_of w i)).table) w)
      by true e =
          added_once i (entry_of t entry) (λ table. (settle t (k (Some (next_index (table_of w i)))) bytes table).table) K w
          (λ table same.
          subst (λ (x : List (Event Entry)). K (with_table i (λ before. (settle t (k (Some (next_index (table_of w i)))) bytes x).table) (entry_added i (entry_of t entry) w))) same
          (more (Some (next_index (table_of w i))) (entry_added i (entry_of t entry) w) (adds i t entry w (less (live_count (table_of w i)) most_live e) h)))
      by false e = more None w h

  pub settled_leaves : (i t : ℕ) (plan : Plan) (bytes : List ℕ) (w : World) → K w → K (with_table i (λ before. (settle t plan bytes (table_of w i)).table) w)
  settled_leaves i t (Gives words) bytes w h = subst K (sym (table_kept i w)) h
  settled_leaves i t (Fails why) bytes w h = subst K (sym (table_kept i w)) h
  settled_leaves i t (Asks ask k) bytes w h = subst K (sym (table_kept i w)) h
  settled_leaves i t (Size k) bytes w h = settled_leaves i t (k (length bytes)) bytes w h
  settled_leaves i t (Put place more k) bytes w h = settled_leaves i t k (written place more bytes) w h
  settled_leaves i t (Adds entry k) bytes w h = adds_leave i t entry k bytes w (λ o v j. settled_leaves i t (k o) bytes v j) h

module _ {g : Graph} {s : Script} (ord : Order g s) where
  -- Reads and writes.

  moved_by_keeps : (t : ℕ) (e : EndRef) (call read write : OpenCopy) (reading writing : CanonFunc) (count : ℕ) (element : Option ValType) (w : World) → Held ord true t w
      → Keeps ord (moved_by g t e call read write reading writing count element w)
  unfolding moved_by elements_written elements_read
  moved_by_keeps t e call read write reading writing count None w h = (goes ord _ w h.0, ((t, h.1), (h.1.0, tt)))
  moved_by_keeps t e call read write reading writing count (Some element) w h =
      came_keeps ord true t (elements_written t write writing count element w) (λ values later. elements_read g t e call.length read reading element values later)
      (elements_keep (inst_of_canon writing) t (Held ord true t) (Unit {0}) (removes ord true t) (waits ord true t) (lends ord true t (inst_of_canon writing) t) element (λ b. tt) _ _ count w h) (λ values v i. (goes ord _ v i.0, ((t, i.1), (i.1.0, tt))))

  elements_moved_keep : (t : ℕ) (e : EndRef) (call : OpenCopy) (count : ℕ) (element : Option ValType) (offer : OpenCopy) (w : World) → Held ord true t w → Keeps ord (elements_moved g t e call count element offer w)
  unfolding elements_moved
  elements_moved_keep t e call count element offer w h =
      given_keeps ord (canon_at g (read_of e.side call offer).canon) _ (λ reading i. given_keeps ord (canon_at g (write_of e.side call offer).canon) _ (λ writing j.
      moved_by_keeps t e call (read_of e.side call offer) (write_of e.side call offer) reading writing count element w h))

  meeting_keeps : (t : ℕ) (e : EndRef) (call : OpenCopy) (words : List ℕ) (index : ℕ) (c : Channel) (m : Met) (w : World) → may_leave w ≡ true → Held ord true t w → Keeps ord (meeting_turn g t e call words index c m w)
  unfolding meeting_turn
  meeting_keeps t e call words index c (AtOnce payload) w free h = on_keeps ord t (payload ∷ []) (offered e call w) (still ord true t (Offers e call) w tt tt tt h)
  meeting_keeps t e call words index c (Moves count) w free h = given_keeps ord (other_offer e.side c.ends.view) _ (λ offer i. elements_moved_keep t e call count _ offer w h)
  meeting_keeps t e call words index c OfferStands w free h =
      let k : Held ord true t (offered e call w) = still ord true t (Offers e call) w tt tt tt h in
      either_keeps ord (options_at g call.canon).is_async _ _ (λ i. on_keeps ord t (blocked_word ∷ []) (offered e call w) k)
      (λ i. blocked_keeps ord t (InBuiltin call.canon words (ForCopy index)) (reason.Copy index) (offered e call w) k.1.0 tt (inl (free_offered e call w free)) tt (as_is (IsActing true) (WaitsWith true) t (offered e call w) (acting_waits true) k.1) k.0)

  pub meets_keeps : (t i : ℕ) (e : EndRef) (call : OpenCopy) (words : List ℕ) (index : ℕ) (w : World) → may_leave w ≡ true → Held ord true t w → Keeps ord (meets g t i e call words index w)
  unfolding meets
  meets_keeps t i e call words index w free h =
      given_keeps ord (channel_at w e.kind e.number) _ (λ c j.
      unless_keeps ord t (is_within g i e.side c.element c.ends.view) trap.SameInstance w (meeting_turn g t e call words index c (met_by e.kind e.side call c.ends.view) w) (h.0, h.1.0)
      (λ k. meeting_keeps t e call words index c (met_by e.kind e.side call c.ends.view) w free h))

  transferring_keeps : (copying : Copying) (w : World) → ord.Holds w → OneActs (IsActing true) (outlines_of w.tasks) w.chain → Keeps ord (transferring_turn copying w)
  unfolding transferring_turn
  transferring_keeps copying w h o =
      given_keeps ord (acting w) _ (λ a e. given_keeps ord (channel_at w copying.end.kind copying.end.number) _ (λ c i.
      on_keeps ord a.0 (completed copying.end.kind (length copying.values) ∷ []) (transferred copying.end copying.length copying.values w)
      (still ord true a.0 (IsTransferred copying.end copying.length copying.values) w tt tt tt (h, acts_at (IsActing true) w a e o))))

  -- Nested code.

  -- what it leaves alone: the task that a trap names acts, and what follows
  abbrev Nests : ℕ → Behind → World → Type 0
  Nests t b w = Held ord (stacked_behind b) t w × BehindFor b w.chain

  in_place_keeps : (n : Nested) (b : Behind) (k : Stack) (r : Result Answers TrapName) (w : World) → ((answer : Answers) → r ≡ Ok answer → Nests n.blame b answer.world) → Nests n.blame b w
      → Keeps ord (answered_in_place n b k r w)
  unfolding answered_in_place
  in_place_keeps n b k (Err why) w keeps h = (goes ord (Doomed n.blame why) w h.0.0, h.0.1.0)
  in_place_keeps n b k (Ok answer) w keeps h =
      let i : Nests n.blame b answer.world = keeps answer refl in
      (goes ord _ answer.world i.0.0, ((n.blame, i.0.1), i.0.1.0, i.1))

  calls_keeps : (n : Nested) (b : Behind) (k : Stack) (words : List ℕ) (c : CanonFunc) (w : World) → Nests n.blame b w → Keeps ord (calls_host n b k words c w)
  unfolding calls_host answered_or_refused
  calls_keeps n b k words c w h =
      either_keeps ord (nat_eq (inst_of_canon c) n.inst) _ _ (λ e. behind_keeps ord (line.Do n.acts_for (builtin_of c) words ∷ []) (answered_or_refused n b k (exempt_of n.acts_for words c) w) (by (exempt_of n.acts_for words c) refl)) (λ e. tt)
    where
      by : (o : Option Exempt) → exempt_of n.acts_for words c ≡ o → Keeps ord (answered_or_refused n b k o w)
      by None e = (goes ord _ w h.0.0, h.0.1.0)
      by (Some exempt) e =
          in_place_keeps n b k (exempt w) w
          (λ answer f. exempt_leaves (Nests n.blame b) (λ t slot word v i. (still ord (stacked_behind b) n.blame (HasWord t slot word) v tt tt tt i.0, i.1)) n.acts_for words c exempt e w answer f h) h

  nested_ends : (t : ℕ) (b : Behind) (words : List ℕ) (w : World) → Nests t b w → Keeps ord (nested_ended b words w)
  unfolding nested_ended
  nested_ends t (InLowering l k) [] w h = tt
  nested_ends t (InLowering l k) (place ∷ words) w h = (goes ord _ w h.0.0, ((t, h.0.1), h.1))
  nested_ends t BeforeLeaving words w h = (goes ord Leaves w h.0.0, (t, h.0.1))

  hosted_keeps : (n : Nested) (b : Behind) (t : HostedTurn) (w : World) → Nests n.blame b w → Keeps ord (hosted g s n b t w)
  unfolding hosted
  hosted_keeps n b (On paid state store) w h =
      charged_keeps ord paid w (λ v. silent (Quiet (record n { state = state }) b) (with_store store v)) h.0.0 (λ units i.
      (goes ord _ (with_store store (record w { units = units })) (ord.stays (HasStore store) (record w { units = units }) tt tt i), ((n.blame, h.0.1), h.0.1.0, h.1)))
  hosted_keeps n b (EndsIn words) w h = nested_ends n.blame b words w h
  hosted_keeps n b (TrapsBy why) w h = charged_keeps ord true w (λ v. doomed n.blame (core_name why) v) h.0.0 (λ units i. (goes ord (Doomed n.blame (core_name why)) (record w { units = units }) i, h.0.1.0))
  hosted_keeps n b (CallsHost number words k) w h = given_keeps ord (canon_at g number) _ (λ c e. calls_keeps n b k words c w h)
  hosted_keeps n b NoRule w h = tt

  pub nested_keeps : (n : Nested) (b : Behind) (w : World) → ord.Holds w → OneActs (IsActing (stacked_behind b)) (outlines_of w.tasks) w.chain → IsFirst n.blame w.chain → BehindFor b w.chain → Keeps ord (nested_turn g s n b w)
  unfolding nested_turn
  nested_keeps n b w h o first follows = hosted_keeps n b (hosted_next n.state w.store) w ((h, is_first (IsActing (stacked_behind b)) w n.blame first o), follows)

  -- Lowerings.

  start_func_keeps : (words : List ℕ) (w : World) → ord.Holds w → OneActs (IsActing false) (outlines_of w.tasks) w.chain → Keeps ord (started words w)
  unfolding started
  start_func_keeps words w h o =
      given_keeps ord (acting w) _ (λ a e. given_keeps ord (func_of a.1.callee) _ (λ f i. given_keeps ord (found_at w.store.funcs (func_address w.store f.core)) _ (λ function j.
      acting_stack_keeps ord false a.0 _ w (h, acts_at (IsActing false) w a e o))))

  -- what it leaves alone
  abbrev LowersOn : Lowering → World → Type 0
  LowersOn l w = Held ord (stacked_then l.next) l.blame w × FollowsFor l.next w.chain

  lowered_keeps : (t : ℕ) (follows : Then) (words : List ℕ) (w : World) → Held ord (stacked_then follows) t w → Keeps ord (lowered follows words w)
  unfolding lowered
  lowered_keeps t Starts words w h = start_func_keeps words w h.0 (t, h.1)
  lowered_keeps t (Resolves to follows) words w h =
      let k : Held ord (stacked_then (Resolves to follows)) t (after (HasResult to words) w) = still ord (stacked_then (Resolves to follows)) t (HasResult to words) w tt tt tt h in
      finished_keeps ord follows (after (HasResult to words) w) k.0 (t, k.1)
  lowered_keeps t (Transfers copying) words w h = transferring_keeps copying w h.0 (t, h.1)

  paused_keeps : (l : Lowering) (p : Paused) (w : World) → LowersOn l w → Keeps ord (paused l p w)
  unfolding paused
  paused_keeps l (Words words) w h = lowered_keeps l.blame l.next words w h.0
  paused_keeps l (Failed why) w h = (goes ord _ w h.0.0, h.0.1.0)
  paused_keeps l (AsksNow ask k) w h =
      given_keeps ord (found_at w.store.funcs l.realloc) _ (λ f e. (goes ord _ w h.0.0, ((l.blame, h.0.1), h.0.1.0, (h.0.1.0, h.1))))

  pub lowers_keeps : (l : Lowering) (plan : Plan) (w : World) → ord.Holds w → OneActs (IsActing (stacked_then l.next)) (outlines_of w.tasks) w.chain → LowersFor l w.chain → Keeps ord (lowers_turn l plan w)
  unfolding lowers_turn settled_turn
  lowers_keeps l plan w h o follows =
      let settled : Settled = settle l.acts_for plan (bytes_of w.store l.memory) (table_of w l.inst) in
      let k : LowersOn l (with_memory l.memory settled.bytes w) = (still ord (stacked_then l.next) l.blame (HasStore _) w tt tt tt (h, is_first (IsActing (stacked_then l.next)) w l.blame follows.0 o), follows.1) in
      paused_keeps l settled.paused (left_by l settled w)
      (settled_leaves (LowersOn l) (λ i t entry v few j. (still ord (stacked_then l.next) l.blame (AddsEntry i (entry_of t entry)) v (few, entry_is_added v.tasks t entry) tt tt j.0, j.1)) l.inst l.acts_for plan (bytes_of w.store l.memory)
      (with_memory l.memory settled.bytes w) k)
