-- Reads and writes, nested code and lowerings keep what every change keeps.
use Rattle.std.proofs.Common.{◌≡◌, inl, inr, ℕ, Bool, true, false, nat_eq, nat_lt, List, [], ◌∷◌, length, refl, sym, ap, ◌∙◌, subst, Option, Some, None, Result, Ok, Err, if◌then◌else◌}
use Rattle.std.specs.Prelude.{slice_index}
use Rattle.wasm_store.specs.Store.{found_at}
use Rattle.wasm_store.specs.Stack.{Stack}
use Rattle.syntax_trees.specs.declared.types.ValType.{ValType}
use Rattle.builtin_kinds.specs.declared.ResourceOp.TheVariants as resource_op
use Rattle.builtin_kinds.specs.declared.ContextOp.{ContextOp}
use Rattle.builtin_kinds.specs.declared.ContextOp.TheVariants as context_op
use Rattle.value_lower.specs.Following.{written}
use Rattle.handle_table.specs.History.{Event, live_count, most_live, next_index}
use Rattle.stream_ends.specs.declared.open_copy.OpenCopy.{OpenCopy}
use Rattle.comp_graph.specs.declared.graph.CanonFunc.{CanonFunc}
use Rattle.comp_graph.specs.declared.graph.CanonFunc.TheVariants as canon
use Rattle.comp_graph.specs.declared.graph.BuiltinKind.{BuiltinKind}
use Rattle.comp_graph.specs.declared.graph.BuiltinKind.TheVariants as builtin
use Rattle.comp_graph.specs.Graph.{Graph}
use Rattle.script_reader.specs.Script.{Script}
use Rattle.trace_labels.specs.declared.label.Label.TheVariants as line
use Rattle.trace_labels.specs.declared.label.BlockReason.TheVariants as reason
use Rattle.trace_labels.specs.declared.trap.TrapName.{TrapName}
use Rattle.trace_labels.specs.declared.trap.TrapName.TheVariants as trap
use Rattle.abi_machine.specs.Traps.{core_name}
use Rattle.abi_machine.specs.LoweringOver.{New, Plan, Gives, Fails, Asks, Size, Put, Adds}
use Rattle.abi_machine.specs.Control.{EndRef, Copying, Then, Starts, Resolves, Transfers, Lowering, Nested, Behind, InLowering, BeforeLeaving, Quiet, Leaves, Doomed}
use Rattle.abi_machine.specs.World.{Entry, ForCopy, InBuiltin, Channel, World}
use Rattle.abi_machine.specs.Edits.{with_store, with_memory, with_table, added, entry_added, offered, transferred, word_set}
use Rattle.abi_machine.specs.Canons.{func_address, memory_of, bytes_of, canon_at, inst_of_canon, options_of_canon, options_at, builtin_of, defines}
use Rattle.abi_machine.specs.Reading.{table_of, acting, func_of, may_leave, channel_at}
use Rattle.abi_machine.specs.Pausing.{Paused, Words, Failed, Asked as AsksNow, Settled, settle, index_in, with_new, entry_of}
use Rattle.abi_machine.specs.Turn.{silent, doomed}
use Rattle.abi_machine.specs.Copying.{blocked_word, completed, Met, AtOnce, Moves, Stands as OfferStands, met_by, other_offer, next_place, read_of, write_of, elements_written, elements_read, moved_by, elements_moved, meeting_turn, meets, is_within, transferring_turn}
use Rattle.abi_machine.specs.Nested.{HostedTurn, On, EndsIn, TrapsBy, CallsHost, NoRule, hosted_next, nested_ended, answered_in_place, answered_or_refused, calls_host, hosted, nested_turn}
use Rattle.abi_machine.specs.Lowering.{started, lowered, paused, left_by, settled_turn, lowers_turn}
use Rattle.abi_machine.specs.replies.Context.{Exempt, Answers, rep_answered, context_answer, exempt_kind, exempt_of}
use Rattle.abi_machine.specs.sound.Changes.{HasStore, AddsEntry, HasWord, HasResult, Offers, Transfers as IsTransferred, after}
use Rattle.laid_types.specs.Handles.{has_borrow, held_borrow}
use Rattle.abi_machine.specs.sound.Premises.{HaveBorrowElement, IsCall}
use Rattle.abi_machine.specs.sound.Agreeing.{IsDueAt, IsDueBehind, IsDueAfter, HasResolvedThen, HasResolvedBehind}
use Rattle.abi_machine.proofs.sound.turns.Resolving.{resolved_still_for, resolved_still_behind}
use Rattle.abi_machine.specs.sound.Firsts.{IsActing}
use Rattle.abi_machine.specs.sound.Changes.{IsFirst}
use Rattle.abi_machine.proofs.sound.Found.{ok_same, some_same, first_offered, free_offered, table_kept, added_once, entry_is_added}
use Rattle.abi_machine.proofs.sound.Acted.{first_at}
use Rattle.abi_machine.proofs.sound.Lifted.{elements_keep}
use Rattle.abi_machine.proofs.sound.LiftLines.{elements_unmarked}
use Rattle.abi_machine.proofs.sound.turns.Keeping.{Invariant, less, Keeps, Acted, given_keeps, behind_keeps, either_keeps, stay, goes, goes_on, unless_keeps, charged_keeps, on_keeps, blocked_keeps, new_stack_keeps, removes, waits, lends, came_keeps}
use Rattle.abi_machine.proofs.sound.OnePlace.{entry_is_fresh}
use Rattle.abi_machine.proofs.sound.Due.{met_fits, channel_is, due_at, lifted_long, values_long, units_long}
use Rattle.abi_machine.proofs.sound.turns.Moving.{finished_keeps}
use Rattle.stream_ends.specs.declared.side.Side.{Side}
use Rattle.stream_ends.specs.declared.side.Side.TheVariants.{Reader, Writer}
use Rattle.stream_ends.specs.Ends.{other_side, end_at}
use Rattle.stream_ends.proofs.Meetings.{standing_is}
use Rattle.abi_machine.specs.Copying.{task_by}
use Rattle.abi_machine.specs.World.{Task}
use Rattle.abi_machine.specs.sound.Agreeing.{channel_in, LowersForEntered}
use Rattle.abi_machine.specs.sound.Entering.{HasEntered}
use Rattle.abi_machine.specs.sound.Entered.{HaveEntered}
use Rattle.abi_machine.proofs.sound.Entered.{entered_still, lowers_still, entry_names, called_entered}
use Rattle.abi_machine.specs.sound.EndsPassed.{ends_of, ButNew, AddsOnce, IsOnTheWay, PassesBehind, HostPassesNoEnd}
use Rattle.abi_machine.proofs.sound.ends.Apart.{adds_as}
use Rattle.abi_machine.proofs.sound.ends.Lowered.{elements_plan_adds}
use Rattle.abi_machine.proofs.sound.ends.Brought.{hosts_before, came_passes}
use Rattle.abi_machine.proofs.sound.ends.Lifting.{elements_lifted_bring}
use Rattle.abi_machine.proofs.sound.ends.Settled.{PausedAdds, settled_passes, entry_reads, but_is, added_passes}

-- What is answered also where the instance may not be left keeps what words of context keep.

rep_keeps : (P : World → Type 0) (w : World) (r : Result ℕ TrapName) (answer : Answers) → rep_answered w r ≡ Ok answer → P w → P answer.world
rep_keeps P w (Err why) answer e h = cc
rep_keeps P w (Ok rep) answer e h = subst (λ (a : Answers). P a.world) (ok_same e) h

context_keeps : (P : World → Type 0) → ((t slot word : ℕ) (v : World) → P v → P (word_set t slot word v)) → (t : ℕ) (words : List ℕ) (op : ContextOp) (slot : ℕ) (w : World) (answer : Answers)
    → context_answer t words op slot w ≡ Ok answer → P w → P answer.world
context_keeps P sets t words context_op.Get slot w answer e h = subst (λ (a : Answers). P a.world) (ok_same e) h
context_keeps P sets t words context_op.Set slot w answer e h = subst (λ (a : Answers). P a.world) (ok_same e) (sets t slot (slice_index words 0) w h)

pub exempt_keeps : (P : World → Type 0) → ((t slot word : ℕ) (v : World) → P v → P (word_set t slot word v)) → (t : ℕ) (words : List ℕ) (c : CanonFunc) (exempt : Exempt) → exempt_of t words c ≡ Some exempt
    → (w : World) (answer : Answers) → exempt w ≡ Ok answer → P w → P answer.world
exempt_keeps P sets t words (canon.Lower l) exempt e w answer f h = cc
exempt_keeps P sets t words (canon.Builtin b) exempt e w answer f h = by b.kind e
  where
    by : (k : BuiltinKind) → exempt_kind t words b.instance k ≡ Some exempt → P answer.world
    by (builtin.Resource resource_op.New resource) i = cc
    by (builtin.Resource resource_op.Drop resource) i = cc
    by (builtin.Resource resource_op.Rep resource) i = rep_keeps P w _ answer (ap (λ (x : Exempt). x w) (some_same i) ∙ f) h
    by (builtin.TaskReturn result options) i = cc
    by (builtin.Plain op) i = cc
    by (builtin.Context op slot) i = context_keeps P sets t words op slot w answer (ap (λ (x : Exempt). x w) (some_same i) ∙ f) h
    by (builtin.Wait op cancellable memory) i = cc
    by (builtin.End of_what element op) i = cc

-- The task that reads has entered: it is that of the call, or that of the offer.
reader_of : (tasks : List Task) (side : Side) (call offer : OpenCopy) → HasEntered tasks (task_by call.by) → HasEntered tasks (task_by offer.by) → HasEntered tasks (task_by (read_of side call offer).by)
reader_of tasks Reader call offer own other = own
reader_of tasks Writer call offer own other = other

reader_entered : (w : World) (e : EndRef) (c : Channel) (call offer : OpenCopy) → HaveEntered w → channel_in e.kind e.number w.streams w.futures ≡ Some c → other_offer e.side c.ends.view ≡ Some offer
    → HasEntered w.tasks (task_by call.by) → HasEntered w.tasks (task_by (read_of e.side call offer).by)
reader_entered w e c call offer h there standing own =
    reader_of w.tasks e.side call offer own
    (h.copies (record { kind = e.kind; number = e.number; side = other_side e.side }) c offer there (standing_is (end_at (other_side e.side) c.ends.view).copy offer standing))

module _ {g : Graph} {s : Script} (inv : Invariant g s) where
  -- Reads and writes.

  -- so many elements are to go over at an end
  abbrev IsMoving : EndRef → ℕ → World → Type 0
  IsMoving e count w = Acted inv w × IsDueAt e count w.streams w.futures

  -- and what holds while they are lifted
  abbrev WhileMoving : EndRef → ℕ → Option ValType → ℕ → World → Type 0
  WhileMoving e count element reader w = IsMoving e count w × (held_borrow element ≡ true → HaveBorrowElement w.streams w.futures) × HasEntered w.tasks reader

  moved_by_keeps : (t : ℕ) (e : EndRef) (call read write : OpenCopy) (reading writing : CanonFunc) (count : ℕ) (element : Option ValType) (w : World) → WhileMoving e count element (task_by read.by) w
      → Keeps inv (moved_by g t e call read write reading writing count element w)
  unfolding moved_by elements_written elements_read
  moved_by_keeps t e call read write reading writing count None w h =
      goes inv _ w (h.0.0.1, subst (λ (n : ℕ). IsDueAt e n w.streams w.futures) (sym (units_long count None)) h.0.1, h.2, tt, λ none. tt) h.0.0.0
  moved_by_keeps t e call read write reading writing count (Some element) w h =
      came_keeps inv (WhileMoving e count (Some element) (task_by read.by)) t (elements_written t write writing count element w) (λ values later. elements_read g t e call.length read reading element values later) (λ v k. k.0.0)
      (elements_keep (inst_of_canon writing) t (WhileMoving e count (Some element) (task_by read.by)) (has_borrow element ≡ true)
      (λ i index v may k. ((removes inv i index v may k.0.0, k.0.1), k.1, k.2)) (λ i index v may k. ((waits inv i index v may k.0.0, k.0.1), k.1, k.2))
      (λ index v used there k. ((lends inv t index v (inst_of_canon writing, there, inr (inr (inr (k.1 used)))) k.0.0, k.0.1), k.1, entered_still v.tasks t (task_by read.by) _ (λ x. refl) k.2)) element (λ b. b) _ _ count w h)
      (elements_unmarked (inst_of_canon writing) t element _ _ count w)
      (λ values k comes i.
      goes inv _ k.world
      (i.0.0.1, subst (λ (n : ℕ). IsDueAt e n k.world.streams k.world.futures) (sym (values_long values count (lifted_long (inst_of_canon writing) t element _ _ count w values k comes))) i.0.1, i.2, tt, λ none. elements_plan_adds (defines g (inst_of_canon reading)) (IsOnTheWay k.world.insts k.world.streams k.world.futures) element values (next_place element read) (came_passes w ends_of (elements_written t write writing count element w) values k (elements_lifted_bring (inst_of_canon writing) t element (bytes_of w.store (memory_of w.store (options_of_canon writing))) (next_place element write) count w) comes (inv.readers [] w h.0.0.0) none)) i.0.0.0)

  elements_moved_keep : (t : ℕ) (e : EndRef) (call : OpenCopy) (count : ℕ) (element : Option ValType) (offer : OpenCopy) (w : World) → WhileMoving e count element (task_by (read_of e.side call offer).by) w → Keeps inv (elements_moved g t e call count element offer w)
  unfolding elements_moved
  elements_moved_keep t e call count element offer w h =
      given_keeps inv (canon_at g (read_of e.side call offer).canon) _ (λ reading i. given_keeps inv (canon_at g (write_of e.side call offer).canon) _ (λ writing j.
      moved_by_keeps t e call (read_of e.side call offer) (write_of e.side call offer) reading writing count element w h))

  meeting_keeps : (t : ℕ) (e : EndRef) (call : OpenCopy) (words : List ℕ) (index : ℕ) (c : Channel) (m : Met) (w : World) → channel_at w e.kind e.number ≡ Some c → met_by e.kind e.side call c.ends.view ≡ m
      → IsCall g w e call → IsFirst t w.chain → may_leave w ≡ true → Acted inv w → Keeps inv (meeting_turn g t e call words index c m w)
  unfolding meeting_turn
  meeting_keeps t e call words index c (AtOnce payload) w there meets may first free h = on_keeps inv t (payload ∷ []) (offered e call w) (stay inv (Offers e call) w tt may h)
  meeting_keeps t e call words index c (Moves count) w there meets may first free h =
      given_keeps inv (other_offer e.side c.ends.view) _ (λ offer i.
      elements_moved_keep t e call count c.element offer w (
        (h, due_at w e c count offer there may.quiet i (met_fits e.kind e.side call c.ends.view count offer meets i)),
        (λ b. (e.kind, e.number, c, channel_is e.kind e.number w ∙ there, b)),
        reader_entered w e c call offer (inv.entered [] w h.0) (channel_is e.kind e.number w ∙ there) i (called_entered g w e call may),
      ))
  meeting_keeps t e call words index c OfferStands w there meets may first free h =
      let k : Acted inv (offered e call w) = stay inv (Offers e call) w tt may h in
      either_keeps inv (options_at g call.canon).is_async _ _ (λ i. on_keeps inv t (blocked_word ∷ []) (offered e call w) k)
      (λ i.
      blocked_keeps inv t (InBuiltin call.canon words (ForCopy index)) (reason.Copy index) (offered e call w) (first_offered e call w t first) tt (inl (free_offered e call w free))
      (first_at (offered e call w).tasks (offered e call w).chain t IsActing (first_offered e call w t first) k.1) k.0)

  pub meets_keeps : (t i : ℕ) (e : EndRef) (call : OpenCopy) (words : List ℕ) (index : ℕ) (w : World) → IsCall g w e call → IsFirst t w.chain → may_leave w ≡ true → Acted inv w
      → Keeps inv (meets g t i e call words index w)
  unfolding meets
  meets_keeps t i e call words index w may first free h =
      given_keeps inv (channel_at w e.kind e.number) _ (λ c j.
      unless_keeps inv t (is_within g i e.side c.element c.ends.view) trap.SameInstance w (meeting_turn g t e call words index c (met_by e.kind e.side call c.ends.view) w) h
      (λ k. meeting_keeps t e call words index c (met_by e.kind e.side call c.ends.view) w j refl may first free h))

  -- what holds while what follows a lowering is due
  abbrev pub WithDue : Then → World → Type 0
  WithDue follows w = Acted inv w × IsDueBehind follows w.streams w.futures × HasResolvedThen follows w.tasks w.chain

  transferring_keeps : (copying : Copying) (w : World) → WithDue (Transfers copying) w → Keeps inv (transferring_turn copying w)
  unfolding transferring_turn
  transferring_keeps copying w h =
      given_keeps inv (acting w) _ (λ a e. given_keeps inv (channel_at w copying.end.kind copying.end.number) _ (λ c i.
      on_keeps inv a.0 (completed copying.end.kind (length copying.values) ∷ []) (transferred copying.end copying.length copying.values w)
      (stay inv (IsTransferred copying.end copying.length copying.values) w tt h.1 h.0)))

  -- Nested code.

  -- what holds while it runs
  abbrev pub WithNested : Behind → World → Type 0
  WithNested b w =
      Acted inv w × IsDueAfter b w.streams w.futures × LowersForEntered b w.tasks × HasResolvedBehind b w.tasks w.chain × (HostPassesNoEnd w.tasks → PassesBehind b w.insts w.streams w.futures)

  in_place_keeps : (n : Nested) (b : Behind) (k : Stack) (r : Result Answers TrapName) (w : World) → ((answer : Answers) → r ≡ Ok answer → WithNested b answer.world) → Acted inv w
      → Keeps inv (answered_in_place n b k r w)
  unfolding answered_in_place
  in_place_keeps n b k (Err why) w keeps h = goes_on inv (Doomed n.blame why) w tt h
  in_place_keeps n b k (Ok answer) w keeps h = goes inv _ answer.world ((keeps answer refl).0.1, (keeps answer refl).1, (keeps answer refl).2, (keeps answer refl).3, (keeps answer refl).4) (keeps answer refl).0.0

  calls_keeps : (n : Nested) (b : Behind) (k : Stack) (words : List ℕ) (c : CanonFunc) (w : World) → WithNested b w → Keeps inv (calls_host n b k words c w)
  unfolding calls_host answered_or_refused
  calls_keeps n b k words c w h =
      either_keeps inv (nat_eq (inst_of_canon c) n.inst) _ _ (λ e. behind_keeps inv (line.Do n.acts_for (builtin_of c) words ∷ []) (answered_or_refused n b k (exempt_of n.acts_for words c) w) refl (by (exempt_of n.acts_for words c) refl)) (λ e. tt)
    where
      by : (o : Option Exempt) → exempt_of n.acts_for words c ≡ o → Keeps inv (answered_or_refused n b k o w)
      by None e = goes_on inv _ w tt h.0
      by (Some exempt) e =
          in_place_keeps n b k (exempt w) w
          (λ answer f. exempt_keeps (WithNested b) (λ t slot word v l. (stay inv (HasWord t slot word) v tt tt l.0, l.1, lowers_still b v.tasks t _ (λ x. refl) l.2, resolved_still_behind b v.tasks v.chain t _ (λ x. refl) l.3, λ none. l.4 (hosts_before t _ v.tasks (λ x k. k) none))) n.acts_for words c exempt e w answer f h) h.0

  nested_ends : (b : Behind) (words : List ℕ) (w : World) → WithNested b w → Keeps inv (nested_ended b words w)
  unfolding nested_ended
  nested_ends (InLowering l k) [] w h = tt
  nested_ends (InLowering l k) (place ∷ words) w h = goes inv _ w (h.0.1, h.1, h.2, h.3, λ none. h.4 none place) h.0.0
  nested_ends BeforeLeaving words w h = goes inv Leaves w (h.0.1, h.3) h.0.0

  hosted_keeps : (n : Nested) (b : Behind) (t : HostedTurn) (w : World) → WithNested b w → Keeps inv (hosted g s n b t w)
  unfolding hosted
  hosted_keeps n b (On paid state store) w h =
      charged_keeps inv paid w (λ v. silent (Quiet (record n { state = state }) b) (with_store store v)) h.0.0
      (λ units i. goes inv _ (with_store store (record w { units = units })) (h.0.1, h.1, h.2, h.3, h.4) (inv.stays [] (HasStore store) (record w { units = units }) tt i))
  hosted_keeps n b (EndsIn words) w h = nested_ends b words w h
  hosted_keeps n b (TrapsBy why) w h =
      charged_keeps inv true w (λ v. doomed n.blame (core_name why) v) h.0.0 (λ units i. goes_on inv (Doomed n.blame (core_name why)) (record w { units = units }) tt (i, h.0.1))
  hosted_keeps n b (CallsHost number words k) w h = given_keeps inv (canon_at g number) _ (λ c e. calls_keeps n b k words c w h)
  hosted_keeps n b NoRule w h = tt

  pub nested_keeps : (n : Nested) (b : Behind) (w : World) → WithNested b w → Keeps inv (nested_turn g s n b w)
  unfolding nested_turn
  nested_keeps n b w h = hosted_keeps n b (hosted_next n.state w.store) w h

  -- Lowerings.

  -- what holds while values are lowered for a task
  abbrev pub WhileLowered : Then → ℕ → World → Type 0
  WhileLowered follows t w = WithDue follows w × HasEntered w.tasks t

  -- what is left of a plan passes readable ends once, where the script passes none
  abbrev AddsSo : Plan → World → Type 0
  AddsSo plan w = HostPassesNoEnd w.tasks → AddsOnce plan (IsOnTheWay w.insts w.streams w.futures)

  adds_keep : (follows : Then) (i t : ℕ) (entry : New) (k : Option ℕ → Plan) (bytes : List ℕ) (w : World)
      → ((o : Option ℕ) (v : World) → AddsSo (k o) v → WhileLowered follows t v → WhileLowered follows t (with_table i (λ before. (settle t (k o) bytes (table_of v i)).table) v)) → AddsSo (Adds entry k) w
      → WhileLowered follows t w
      → WhileLowered follows t (with_table i (λ before. (settle t (k (index_in (table_of w i))) bytes (with_new (entry_of t entry) (table_of w i))).table) w)
  adds_keep follows i t entry k bytes w more passes h = by (nat_lt (live_count (table_of w i)) most_live) refl
    where
      by : (b : Bool) → nat_lt (live_count (table_of w i)) most_live ≡ b
          → WhileLowered follows t (with_table i (λ before. (settle t (k (if b then Some (next_index (table_of w i)) else None)) bytes (if b then added (entry_of t entry) (table_of w i) else table_of w i)).table) w)
      by true e =
          added_once i (entry_of t entry) (λ table. (settle t (k (Some (next_index (table_of w i)))) bytes table).table) (WhileLowered follows t) w
          (λ table same.
          subst (λ (x : List (Event Entry)). WhileLowered follows t (with_table i (λ before. (settle t (k (Some (next_index (table_of w i)))) bytes x).table) (entry_added i (entry_of t entry) w))) same
          (more (Some (next_index (table_of w i))) (entry_added i (entry_of t entry) w)
          (λ none. adds_as (k (Some (next_index (table_of w i)))) (ButNew entry (IsOnTheWay w.insts w.streams w.futures)) _ (λ e b. added_passes w t i entry e b) ((passes none).1 (Some (next_index (table_of w i)))))
          ((stay inv (AddsEntry i (entry_of t entry)) w tt (less (live_count (table_of w i)) most_live e, entry_is_added w.tasks t entry, entry_is_fresh w t entry, entry_names w.tasks t entry h.1, λ none. entry_reads w t entry (passes none).0) h.0.0, h.0.1, h.0.2), h.1)))
      by false e = more None w (λ none. adds_as (k None) (ButNew entry (IsOnTheWay w.insts w.streams w.futures)) _ (λ e b. but_is entry (IsOnTheWay w.insts w.streams w.futures) e b) ((passes none).1 None)) h

  settled_keeps : (follows : Then) (i t : ℕ) (plan : Plan) (bytes : List ℕ) (w : World) → AddsSo plan w → WhileLowered follows t w → WhileLowered follows t (with_table i (λ before. (settle t plan bytes (table_of w i)).table) w)
  settled_keeps follows i t (Gives words) bytes w passes h = subst (WhileLowered follows t) (sym (table_kept i w)) h
  settled_keeps follows i t (Fails why) bytes w passes h = subst (WhileLowered follows t) (sym (table_kept i w)) h
  settled_keeps follows i t (Asks ask k) bytes w passes h = subst (WhileLowered follows t) (sym (table_kept i w)) h
  settled_keeps follows i t (Size k) bytes w passes h = settled_keeps follows i t (k (length bytes)) bytes w (λ none. passes none (length bytes)) h
  settled_keeps follows i t (Put place more k) bytes w passes h = settled_keeps follows i t k (written place more bytes) w passes h
  settled_keeps follows i t (Adds entry k) bytes w passes h = adds_keep follows i t entry k bytes w (λ o v more j. settled_keeps follows i t (k o) bytes v more j) passes h

  start_func_keeps : (words : List ℕ) (w : World) → Acted inv w → Keeps inv (started words w)
  unfolding started
  start_func_keeps words w h =
      given_keeps inv (acting w) _ (λ a e. given_keeps inv (func_of a.1.callee) _ (λ f i. given_keeps inv (found_at w.store.funcs (func_address w.store f.core)) _ (λ function j. new_stack_keeps inv a.0 _ w h)))

  lowered_keeps : (follows : Then) (words : List ℕ) (w : World) → WithDue follows w → Keeps inv (lowered follows words w)
  unfolding lowered
  lowered_keeps Starts words w h = start_func_keeps words w h.0
  lowered_keeps (Resolves to follows) words w h =
      finished_keeps inv follows (after (HasResult to words) w) (resolved_still_for follows w.tasks w.chain to _ (λ x. refl) h.2) (stay inv (HasResult to words) w tt tt h.0)
  lowered_keeps (Transfers copying) words w h = transferring_keeps copying w h

  paused_keeps : (l : Lowering) (p : Paused) (w : World) → (HostPassesNoEnd w.tasks → PausedAdds p (IsOnTheWay w.insts w.streams w.futures)) → WhileLowered l.next l.acts_for w → Keeps inv (paused l p w)
  unfolding paused
  paused_keeps l (Words words) w passes h = lowered_keeps l.next words w h.0
  paused_keeps l (Failed why) w passes h = goes_on inv _ w tt h.0.0
  paused_keeps l (AsksNow ask k) w passes h = given_keeps inv (found_at w.store.funcs l.realloc) _ (λ f e. goes inv _ w (h.0.0.1, h.0.1, h.1, h.0.2, passes) h.0.0.0)

  pub lowers_keeps : (l : Lowering) (plan : Plan) (w : World) → AddsSo plan w → WhileLowered l.next l.acts_for w → Keeps inv (lowers_turn l plan w)
  unfolding lowers_turn settled_turn
  lowers_keeps l plan w passes h =
      let settled : Settled = settle l.acts_for plan (bytes_of w.store l.memory) (table_of w l.inst) in
      paused_keeps l settled.paused (left_by l settled w) (λ none. settled_passes l.acts_for l.inst plan (bytes_of w.store l.memory) w (passes none))
      (settled_keeps l.next l.inst l.acts_for plan (bytes_of w.store l.memory) (with_memory l.memory settled.bytes w) passes ((stay inv (HasStore _) w tt tt h.0.0, h.0.1, h.0.2), h.1))
