-- A canonical function that begins no call and runs no destructor answers, blocks, or lets something be lowered that leads to its answer.
use Rattle.std.proofs.Common.{◌≡◌, ℕ, zero, suc, ◌+◌, ◌-◌, ◌*◌, ◌%◌, ◌&&◌, Bool, not, nat_eq, nat_lt, nat_le, List, [], ◌∷◌, drop, map, length, Option, Some, None, Result, Ok, Err}
use Rattle.std.specs.Prelude.{slice_index, replicate}
use Rattle.std.specs.List.{slice_get}
use Rattle.handle_table.specs.History.{next_index}
use Rattle.laid_types.specs.Layout.{laid}
use Rattle.syntax_trees.specs.declared.types.ValType.{ValType}
use Rattle.builtin_kinds.specs.declared.EndKind.{EndKind}
use Rattle.builtin_kinds.specs.declared.PlainBuiltin.{PlainBuiltin}
use Rattle.builtin_kinds.specs.declared.PlainBuiltin.TheVariants as plain
use Rattle.builtin_kinds.specs.declared.ResourceOp.TheVariants as resource_op
use Rattle.builtin_kinds.specs.declared.WaitOp.{WaitOp}
use Rattle.builtin_kinds.specs.declared.WaitOp.TheVariants as wait_op
use Rattle.waitables.specs.Sets.{drop_answer}
use Rattle.entry_gate.specs.Gates.{set_pressure}
use Rattle.tasks.specs.declared.event.Asked.{Asked}
use Rattle.tasks.specs.declared.event.Asked.TheVariants.{Removed, ResumeNow, Pending}
use Rattle.tasks.specs.declared.phase.Cancellation.TheVariants as cancellation
use Rattle.tasks.specs.declared.phase.Resolution.TheVariants.{Cancelled}
use Rattle.tasks.specs.Subtasks.{is_over}
use Rattle.tasks.specs.Tasks.{cancel_case, is_unasked, asking_fault, cancel_fault, is_asked}
use Rattle.stream_ends.specs.declared.side.Side.{Side}
use Rattle.stream_ends.specs.declared.side.Side.TheVariants.{Reader, Writer}
use Rattle.stream_ends.specs.declared.open_copy.By.TheVariants as copy_by
use Rattle.stream_ends.specs.declared.open_copy.OpenCopy.{OpenCopy}
use Rattle.stream_ends.specs.Ends.{is_copying, new_copy}
use Rattle.comp_graph.specs.declared.graph.Options.{Options}
use Rattle.comp_graph.specs.declared.graph.CanonFunc.{CanonFunc}
use Rattle.comp_graph.specs.declared.graph.BuiltinKind.{BuiltinKind}
use Rattle.comp_graph.specs.declared.graph.BuiltinKind.TheVariants as builtin
use Rattle.comp_graph.specs.declared.graph.EndOp.{EndOp}
use Rattle.comp_graph.specs.declared.graph.EndOp.TheVariants as end_op
use Rattle.comp_graph.specs.Needs.{flat_param_limit}
use Rattle.comp_graph.specs.Graph.{Graph, Lifted}
use Rattle.script_reader.specs.Script.{Script}
use Rattle.trace_labels.specs.declared.label.BlockReason.TheVariants as reason
use Rattle.trace_labels.specs.declared.label.Label.TheVariants as line
use Rattle.trace_labels.specs.declared.trap.TrapName.{TrapName}
use Rattle.trace_labels.specs.declared.trap.TrapName.TheVariants as trap
use Rattle.abi_machine.specs.Traps.{task_name, renamed, set_name}
use Rattle.abi_machine.specs.LoweringOver.{Gives}
use Rattle.abi_machine.specs.Control.{EndRef, Copying, Replies, Transfers, InWait, Back}
use Rattle.abi_machine.specs.World.{Entry, OwnHandle, OfSet, OfEnd, ForYield, ForSet, ForCopy, AfterCancel, InBuiltin, Exited, Channel, Task, World}
use Rattle.abi_machine.specs.Edits.{with_control, with_backpressure, with_channel, carried, chained, entry_removed, entry_added, set_made, left_set, joined, in_state, resolved, with_cancellation, answered, channel_made, offered, concluded, end_dropped, transferred}
use Rattle.abi_machine.specs.Canons.{memory_of, bytes_of, canon_at, options_at, inst_of_canon, options_of_canon, defines}
use Rattle.abi_machine.specs.Reading.{table_of, acting, func_of, channels, channel_at, sets_in, backpressure_of}
use Rattle.abi_machine.specs.Counting.{passes, task_view, has_resolved, end_of, payload_of, ready}
use Rattle.abi_machine.specs.Gate.{is_entry_free}
use Rattle.abi_machine.specs.SameTypes.{same_held}
use Rattle.abi_machine.specs.Finding.{subtask_at, set_at, waitable_at, end_at}
use Rattle.abi_machine.specs.Passing.{elements_plan}
use Rattle.abi_machine.specs.Pausing.{entries_by}
use Rattle.abi_machine.specs.Turn.{Turn, silent, replied, blocked, with_entry}
use Rattle.abi_machine.specs.Delivering.{yield_cancelled, received_cancel}
use Rattle.abi_machine.specs.Cancelling.{asked_turn, cancelled_turn}
use Rattle.abi_machine.specs.Returning.{finished}
use Rattle.abi_machine.specs.Lowering.{lowered}
use Rattle.abi_machine.specs.Copying.{blocked_word, Met, AtOnce, Moves, Stands, met_by, completed, other_offer, read_of, write_of, is_within, next_place, elements_lowering, copying_of, elements_written, elements_read, moved_by, elements_moved, meeting_turn, meets, channel_of, copied_of, transferring_turn}
use Rattle.abi_machine.specs.replies.Context.{Answers}
use Rattle.abi_machine.specs.replies.Resources.{resource_new_turn, resource_drop_turn}
use Rattle.abi_machine.specs.replies.Tasks.{same_address, return_checked, return_turn, task_cancel_turn, yield_turn}
use Rattle.abi_machine.specs.replies.Subtasks.{cancel_asked, subtask_cancel_turn, subtask_drop_turn}
use Rattle.abi_machine.specs.replies.Pressure.{most_backpressure, pressure_inc_turn, pressure_dec_turn, pressure_set_turn}
use Rattle.abi_machine.specs.replies.Waiting.{set_new_turn, none_ready, by_ready, event_size, event_align, is_cancelled, event_turn, wait_turn, view_of_set, set_drop_turn, joins, join_turn}
use Rattle.abi_machine.specs.replies.Streams.{end_ref, both_indices, ends_added, channel_new_turn, placed_well, max_length, copy_turn, is_async_copy, copy_cancel_turn, is_unwritten, end_drop_turn}
use Rattle.abi_machine.specs.Reply.{resource_turn, plain_turn, side_of, copy_size, end_turn, builtin_turn, exempt_turn}
use Rattle.abi_machine.proofs.sound.known.Lifting.{elements_keep}
use Rattle.reach_laws.proofs.free.Steps.{IsReached, ComesOn, Soon, soon_doomed, soon_given, soon_behind, soon_either, soon_unless, soon_refused, soon_fault, soon_entry, soon_came, soon_subtask}
use Rattle.reach_laws.proofs.free.Stacks.{At, at_ready, at_task, at_state, at_answered, at_subtask, at_channel, at_made}
use Rattle.reach_laws.proofs.free.Nested.{KeepsAnswer, lowering_comes}
use Rattle.reach_laws.proofs.free.Scheduling.{goes_comes}
use Rattle.reach_laws.proofs.free.Returning.{at_stays, BackComes, RunsCome, replied_soon, blocked_soon, result_soon}
use Rattle.reach_laws.proofs.free.Events.{wait_receives, none_soon, cancel_soon, delivers_come}

module _ (g : Graph) (s : Script) (from : ℕ) (chain : List ℕ) (back : BackComes g s from (drop 1 chain)) (runs : RunsCome g s from chain) where
  abbrev Here : World → Type 0
  Here w = At g s from chain w

  got : (t : ℕ) (words : List ℕ) (w : World) → Here w → Soon g s (replied t words w)
  got t words w h = replied_soon g s from chain runs t words w h

  pub exempt_soon : (t : ℕ) (r : Result Answers TrapName) (w : World) → KeepsAnswer g s Here (at_stays g s from chain) r → Soon g s (exempt_turn t r w)
  unfolding exempt_turn
  exempt_soon t (Err why) w keeps = soon_doomed g s w t why
  exempt_soon t (Ok answer) w keeps = got t answer.words answer.world keeps

  -- Behind a result a task goes on, and so it does behind elements that go over.
  pub replies_soon : (w : World) → Here w → Soon g s (finished Replies w)
  unfolding finished
  replies_soon w h = soon_given g s (acting w) _ (λ a e. got a.0 [] w h)

  pub transfers_soon : (copying : Copying) (w : World) (words : List ℕ) → Here w → Soon g s (lowered (Transfers copying) words w)
  unfolding lowered transferring_turn
  transfers_soon copying w words h =
      let e : EndRef = copying.end in
      let v : World = with_channel e.kind e.number (carried copying.values) w in
      soon_given g s (acting w) _ (λ a i. soon_given g s (channel_at w e.kind e.number) _ (λ c j.
      let words_back : List ℕ = completed e.kind (length copying.values) ∷ [] in
      let u : World = transferred e copying.length copying.values w in
      soon_behind g s (line.Copy (channel_of e) (copied_of c.element copying.values) ∷ []) (replied a.0 words_back u)
      (got a.0 words_back u
      (at_channel g s from chain e.kind e.number _ v (at_channel g s from chain e.kind e.number (carried copying.values) w h)))))

  -- Tasks.
  return_soon : (t : ℕ) (task : Task) (i : ℕ) (result : Option ValType) (options : Options) (words : List ℕ) (w : World) → Here w → Soon g s (return_turn g t task i result options words w)
  unfolding return_turn return_checked
  return_soon t task i result options words w h =
      soon_fault g s t task_name (asking_fault (task_view g w t task)) w _ (soon_given g s (func_of task.callee) _ (λ f e.
      soon_unless g s t (not (same_held result f.func_type.result)) trap.WrongResult w _ (λ j.
      soon_unless g s t (not (same_address (memory_of w.store options) (memory_of w.store f.options))) trap.WrongOptions w _ (λ k.
      result_soon g s from chain back Replies replies_soon t task i flat_param_limit result options words w h))))

  task_cancel_soon : (t : ℕ) (task : Task) (w : World) → Here w → Soon g s (task_cancel_turn g t task w)
  unfolding task_cancel_turn
  task_cancel_soon t task w h =
      soon_fault g s t task_name (cancel_fault (task_view g w t task)) w _
      (soon_behind g s (line.Cancelled t ∷ []) (replied t [] (resolved t Cancelled w)) (got t [] (resolved t Cancelled w) (at_task g s from chain t _ w (λ x k. k) h)))

  yield_soon : (t : ℕ) (task : Task) (number : ℕ) (cancellable : Bool) (words : List ℕ) (w : World) → Here w → Soon g s (yield_turn t task number cancellable words w)
  unfolding yield_turn yield_cancelled
  yield_soon t task number cancellable words w h =
      let v : World = with_cancellation t cancellation.Delivered w in
      soon_either g s (cancellable && is_asked task.cancellation) (yield_cancelled t w) (blocked t (InBuiltin number words ForYield) reason.Yield w)
      (λ e kept. runs (answered t (1 ∷ []) v) (at_answered g s from chain t (1 ∷ []) v (at_task g s from chain t _ w (λ x k. k) h)) kept)
      (λ e. blocked_soon g s from chain back t (InBuiltin number words ForYield) reason.Yield w tt h)

  -- Subtasks: that one be cancelled is asked, and control is back.
  module _ (here : (w : World) → Here w → IsReached g s (with_control Back w) → ComesOn g s (with_control Back w)) where
    asked_soon : (t : ℕ) (asked : Asked) (w : World) → Here w → Soon g s (asked_turn t asked Back w)
    unfolding asked_turn
    asked_soon t Removed w h = λ kept.
        here (in_state t Exited (resolved t Cancelled w)) (at_state g s from chain t Exited (resolved t Cancelled w) tt (at_task g s from chain t _ w (λ x k. k) h)) kept
    asked_soon t ResumeNow w h = λ kept.
        let v : World = with_cancellation t cancellation.Asked w in
        goes_comes g s (chained t v) (at_ready g s from chain v (at_task g s from chain t _ w (λ x k. k) h)) kept
    asked_soon t Pending w h = λ kept. here (with_cancellation t cancellation.Asked w) (at_task g s from chain t _ w (λ x k. k) h) kept

    subtask_cancel_soon : (t i number : ℕ) (words : List ℕ) (w : World) → Here w → Soon g s (subtask_cancel_turn g t i number words w)
    unfolding subtask_cancel_turn cancel_asked cancelled_turn
    subtask_cancel_soon t i number words w h =
        soon_refused g s t (subtask_at w i (slice_index words 0)) w _ (λ callee e.
        soon_subtask g s w callee _ (λ task subtask.
        soon_unless g s t (is_over subtask.told) trap.Delivered w _ (λ j.
        soon_unless g s t (not (is_unasked task.cancellation)) trap.Asked w _ (λ k.
        let v : World = in_state t (AfterCancel callee number words) w in
        let there : Here v = at_state g s from chain t (AfterCancel callee number words) w tt h in
        soon_either g s (has_resolved task) (silent Back v) (cancelled_turn g callee task Back v) (λ over kept. here v there kept) (λ left.
        soon_given g s (func_of task.callee) _ (λ f l. asked_soon callee (cancel_case (is_entry_free v f.instance) (task_view g v callee task)) v there))))))

    joins_soon : (t i index other : ℕ) (w : World) → Here w → Soon g s (joins t i index other w)
    unfolding joins
    joins_soon t i index zero w h = got t [] (left_set i index w) h
    joins_soon t i index (suc other) w h = soon_refused g s t (set_at w i (suc other)) w _ (λ set e. got t [] (joined i index set w) h)

    plain_soon : (t : ℕ) (task : Task) (i number : ℕ) (op : PlainBuiltin) (words : List ℕ) (w : World) → Here w → Soon g s (plain_turn g t task i number op words w)
    unfolding plain_turn pressure_set_turn pressure_inc_turn pressure_dec_turn set_new_turn subtask_drop_turn set_drop_turn join_turn
    plain_soon t task i number plain.TaskCancel words w h = task_cancel_soon t task w h
    plain_soon t task i number plain.BackpressureSet words w h = got t [] (with_backpressure i (set_pressure (slice_index words 0)) w) h
    plain_soon t task i number plain.BackpressureInc words w h =
        soon_unless g s t (nat_le most_backpressure (backpressure_of w i)) trap.PressureLimit w _ (λ e. got t [] (with_backpressure i (backpressure_of w i + 1) w) h)
    plain_soon t task i number plain.BackpressureDec words w h =
        soon_unless g s t (nat_eq (backpressure_of w i) 0) trap.PressureZero w _ (λ e. got t [] (with_backpressure i (backpressure_of w i - 1) w) h)
    plain_soon t task i number (plain.SubtaskCancel is_async) words w h = subtask_cancel_soon t i number words w h
    plain_soon t task i number plain.SubtaskDrop words w h =
        let index : ℕ = slice_index words 0 in
        soon_refused g s t (subtask_at w i index) w _ (λ callee e.
        soon_subtask g s w callee _ (λ task subtask. soon_unless g s t (not (is_over subtask.told)) trap.NotDelivered w _ (λ j. got t [] (left_set i index (entry_removed i index w)) h)))
    plain_soon t task i number (plain.Yield cancellable) words w h = yield_soon t task number cancellable words w h
    plain_soon t task i number plain.WaitableSetNew words w h =
        let entry : Entry = OfSet (length (sets_in (slice_get w.insts i))) in
        soon_entry g s t i entry w (λ index v. replied t (index ∷ []) (set_made i v)) (got t (next_index (table_of w i) ∷ []) (set_made i (entry_added i entry w)) h)
    plain_soon t task i number plain.WaitableSetDrop words w h =
        let index : ℕ = slice_index words 0 in
        soon_refused g s t (set_at w i index) w _ (λ set e.
        soon_refused g s t (renamed set_name (drop_answer (view_of_set w i index set))) w (λ done. replied t [] (entry_removed i index w)) (λ done k. got t [] (entry_removed i index w) h))
    plain_soon t task i number plain.WaitableJoin words w h = soon_refused g s t (waitable_at w i (slice_index words 0)) w _ (λ there e. joins_soon t i (slice_index words 0) (slice_index words 1) w h)

    -- Sets.
    none_ready_soon : (t : ℕ) (f : Lifted) (op : WaitOp) (number : ℕ) (words : List ℕ) (w : World) → slice_get chain 0 ≡ Some t → Here w → Soon g s (none_ready g t f op number words w)
    unfolding none_ready
    none_ready_soon t f wait_op.Poll number words w first h = none_soon g s from chain (InWait number words) (wait_receives g s from chain runs number words) t f w first h
    none_ready_soon t f wait_op.Wait number words w first h =
        blocked_soon g s from chain back t (InBuiltin number words (ForSet (slice_index words 0))) (reason.Wait (slice_index words 0)) w tt h

    by_ready_soon : (t : ℕ) (f : Lifted) (op : WaitOp) (number : ℕ) (words : List ℕ) (set : ℕ) (members : List ℕ) (w : World) → slice_get chain 0 ≡ Some t → Here w
        → Soon g s (by_ready g t f op number words set members w)
    unfolding by_ready
    by_ready_soon t f op number words set [] w first h = none_ready_soon t f op number words w first h
    by_ready_soon t f op number words set (index ∷ members) w first h = λ kept.
        delivers_come g s from chain (InWait number words) (wait_receives g s from chain runs number words) set None w h kept

    wait_soon : (t : ℕ) (task : Task) (i : ℕ) (op : WaitOp) (number : ℕ) (words : List ℕ) (w : World) → slice_get chain 0 ≡ Some t → Here w → Soon g s (wait_turn g t task i op number words w)
    unfolding wait_turn event_turn
    wait_soon t task i op number words w first h =
        soon_refused g s t (set_at w i (slice_index words 0)) w _ (λ set e. soon_given g s (func_of task.callee) _ (λ f k.
        soon_unless g s t (not (nat_eq (slice_index words 1 % event_align) 0)) trap.Misaligned w _ (λ l.
        soon_unless g s t (not (nat_le (slice_index words 1 + event_size) (length (bytes_of w.store (memory_of w.store (options_at g number)))))) trap.Bounds w _ (λ m.
        soon_either g s (is_cancelled g task number) (received_cancel g t f (InWait number words) w) (by_ready g t f op number words set (ready w i set) w)
        (λ n. cancel_soon g s from chain (InWait number words) (wait_receives g s from chain runs number words) t f w first h)
        (λ n. by_ready_soon t f op number words set (ready w i set) w first h)))))

    -- Streams and futures.
    moved_by_soon : (t : ℕ) (e : EndRef) (call read write : OpenCopy) (reading writing : CanonFunc) (count : ℕ) (element : Option ValType) (w : World) → Here w
        → Soon g s (moved_by g t e call read write reading writing count element w)
    unfolding moved_by elements_written elements_read
    moved_by_soon t e call read write reading writing count None w h = λ kept.
        let copying : Copying = copying_of e call.length (replicate count None) in
        lowering_comes g s Here (at_stays g s from chain) (elements_lowering w t read reading copying) (transfers_soon copying) (Gives []) w h kept
    moved_by_soon t e call read write reading writing count (Some element) w h =
        soon_came g s Here t (elements_written t write writing count element w) (λ values later. elements_read g t e call.length read reading element values later)
        (elements_keep Here (λ j index v stands k. k) (λ j index v stands k. k) (λ callee index v k. at_subtask g s from chain callee _ v k) (inst_of_canon writing) t element
        (bytes_of w.store (memory_of w.store (options_of_canon writing))) (next_place element write) count w h) (λ values later k kept.
        let copying : Copying = copying_of e call.length (map (λ v. Some v) values) in
        lowering_comes g s Here (at_stays g s from chain) (elements_lowering later t read reading copying) (transfers_soon copying)
        (elements_plan (entries_by (defines g (inst_of_canon reading))) element values (next_place element read)) later k kept)

    meeting_soon : (t : ℕ) (e : EndRef) (call : OpenCopy) (words : List ℕ) (index : ℕ) (c : Channel) (m : Met) (w : World) → Here w → Soon g s (meeting_turn g t e call words index c m w)
    unfolding meeting_turn elements_moved
    meeting_soon t e call words index c (AtOnce payload) w h = got t (payload ∷ []) (offered e call w) (at_channel g s from chain e.kind e.number _ w h)
    meeting_soon t e call words index c (Moves count) w h =
        soon_given g s (other_offer e.side c.ends.view) _ (λ offer stands.
        soon_given g s (canon_at g (read_of e.side call offer).canon) _ (λ reading i. soon_given g s (canon_at g (write_of e.side call offer).canon) _ (λ writing j.
        moved_by_soon t e call (read_of e.side call offer) (write_of e.side call offer) reading writing count c.element w h)))
    meeting_soon t e call words index c Stands w h =
        let there : Here (offered e call w) = at_channel g s from chain e.kind e.number _ w h in
        soon_either g s (options_at g call.canon).is_async (replied t (blocked_word ∷ []) (offered e call w)) (blocked t (InBuiltin call.canon words (ForCopy index)) (reason.Copy index) (offered e call w))
        (λ i. got t (blocked_word ∷ []) (offered e call w) there) (λ i. blocked_soon g s from chain back t (InBuiltin call.canon words (ForCopy index)) (reason.Copy index) (offered e call w) tt there)

    placed_soon : (t : ℕ) (bytes : List ℕ) (element : Option ValType) (place size : ℕ) (w : World) (more : Turn) → Soon g s more → Soon g s (placed_well t bytes element place size w more)
    unfolding placed_well
    placed_soon t bytes None place size w more h = h
    placed_soon t bytes (Some element) place size w more h =
        soon_either g s (nat_eq size 0) more _ (λ e. h) (λ e. soon_unless g s t (not (nat_eq (place % (laid element).align) 0)) trap.Misaligned w _ (λ j.
        soon_unless g s t (not (nat_le (place + size * (laid element).size) (length bytes))) trap.Bounds w more (λ k. h)))

    copy_soon : (t i number : ℕ) (kind : EndKind) (side : Side) (element : Option ValType) (options : Options) (words : List ℕ) (size : ℕ) (w : World) → Here w
        → Soon g s (copy_turn g t i number kind side element options words size w)
    unfolding copy_turn meets
    copy_soon t i number kind side element options words size w h =
        soon_refused g s t (end_at w kind side element i (slice_index words 0)) w _ (λ e found.
        soon_unless g s t (is_copying (end_of w e)) trap.Busy w _ (λ j.
        soon_unless g s t (end_of w e).done trap.DoneEnd w _ (λ k.
        soon_unless g s t (nat_lt max_length size) trap.TooLong w _ (λ l.
        let call : OpenCopy = new_copy (copy_by.Task t) number (slice_index words 1) size in
        placed_soon t (bytes_of w.store (memory_of w.store options)) element (slice_index words 1) size w _
        (soon_given g s (channel_at w e.kind e.number) _ (λ c at. soon_unless g s t (is_within g i e.side c.element c.ends.view) trap.SameInstance w _ (λ apart.
        meeting_soon t e call words (slice_index words 0) c (met_by e.kind e.side call c.ends.view) w h)))))))

    new_ends_soon : (t i : ℕ) (kind : EndKind) (element : Option ValType) (w : World) → Here w → Soon g s (channel_new_turn t i kind element w)
    unfolding channel_new_turn ends_added
    new_ends_soon t i kind element w h =
        let v : World = channel_made kind element w in
        let readable : Entry = OfEnd (end_ref kind (length (channels kind w) + 1) Reader) in
        let writable : Entry = OfEnd (end_ref kind (length (channels kind w) + 1) Writer) in
        let u : World = entry_added i readable v in
        let both : ℕ → World → Turn = λ first u. with_entry t i writable u (λ second x. replied t (both_indices first second ∷ []) x) in
        soon_entry g s t i readable v both (soon_entry g s t i writable u (λ second x. replied t (both_indices (next_index (table_of v i)) second ∷ []) x)
        (got t (both_indices (next_index (table_of v i)) (next_index (table_of u i)) ∷ []) (entry_added i writable u) (at_made g s from chain kind element w h)))

    ends_soon : (t i number : ℕ) (kind : EndKind) (element : Option ValType) (op : EndOp) (words : List ℕ) (w : World) → Here w → Soon g s (end_turn g t i number kind element op words w)
    unfolding end_turn copy_cancel_turn end_drop_turn
    ends_soon t i number kind element end_op.New words w h = new_ends_soon t i kind element w h
    ends_soon t i number kind element (end_op.Copy side options) words w h = copy_soon t i number kind (side_of side) element options words (copy_size kind words) w h
    ends_soon t i number kind element (end_op.Cancel side is_async) words w h =
        soon_refused g s t (end_at w kind (side_of side) element i (slice_index words 0)) w _ (λ e found.
        soon_unless g s t (not (passes (is_async_copy g) (end_of w e).copy)) trap.NotCopying w _ (λ j. got t (payload_of w e ∷ []) (concluded e w) (at_channel g s from chain e.kind e.number _ w h)))
    ends_soon t i number kind element (end_op.Drop side) words w h =
        let index : ℕ = slice_index words 0 in
        soon_refused g s t (end_at w kind (side_of side) element i index) w _ (λ e found.
        soon_unless g s t (is_copying (end_of w e)) trap.Busy w _ (λ j. soon_unless g s t (is_unwritten kind (side_of side) (end_of w e)) trap.UnwrittenFuture w _ (λ k.
        got t [] (end_dropped e (left_set i index (entry_removed i index w))) (at_channel g s from chain e.kind e.number _ (left_set i index (entry_removed i index w)) h))))

    -- All of them, but for what drops handles.
    pub builtin_soon : (t : ℕ) (task : Task) (i number : ℕ) (kind : BuiltinKind) (words : List ℕ) (w : World) → ((resource : ℕ) → Soon g s (resource_drop_turn g t i number resource words w)) → slice_get chain 0 ≡ Some t → Here w
        → Soon g s (builtin_turn g t task i number kind words w)
    unfolding builtin_turn resource_turn resource_new_turn
    builtin_soon t task i number (builtin.Resource resource_op.New resource) words w drops first h =
        let entry : Entry = OwnHandle resource (slice_index words 0) in
        soon_entry g s t i entry w (λ index v. replied t (index ∷ []) v) (got t (next_index (table_of w i) ∷ []) (entry_added i entry w) h)
    builtin_soon t task i number (builtin.Resource resource_op.Drop resource) words w drops first h = drops resource
    builtin_soon t task i number (builtin.Resource resource_op.Rep resource) words w drops first h = tt
    builtin_soon t task i number (builtin.TaskReturn result options) words w drops first h = return_soon t task i result options words w h
    builtin_soon t task i number (builtin.Plain op) words w drops first h = plain_soon t task i number op words w h
    builtin_soon t task i number (builtin.Context op slot) words w drops first h = tt
    builtin_soon t task i number (builtin.Wait op cancellable memory) words w drops first h = wait_soon t task i op number words w first h
    builtin_soon t task i number (builtin.End of_what element op) words w drops first h = ends_soon t i number of_what element op words w h
