-- Built-ins and the scheduler leave stores that extend the one before; and so does each step of a typed world, once all is instantiated.
use Rattle.std.proofs.Common.{◌≡◌, ◌∙◌, ◌≤◌, ◌+◌, ◌%◌, ◌&&◌, ℕ, zero, suc, Bool, true, false, not, nat_eq, nat_le, List, [], ◌∷◌, length, refl, ap, arith, Option, Some, None, Result, Ok, Err}
use Rattle.std.proofs.lemmas.Bool.Decides.{nat_tests}
use Rattle.std.specs.Prelude.{slice_index}
use Rattle.std.specs.List.{slice_get}
use Rattle.wasm_store.specs.Store.{Store, found_at}
use Rattle.syntax_trees.specs.declared.types.ValType.{ValType}
use Rattle.builtin_kinds.specs.declared.EndKind.{EndKind}
use Rattle.builtin_kinds.specs.declared.EndKind.TheVariants.{Stream, Future}
use Rattle.builtin_kinds.specs.declared.EndSide.{EndSide}
use Rattle.builtin_kinds.specs.declared.ResourceOp.{ResourceOp}
use Rattle.builtin_kinds.specs.declared.ResourceOp.TheVariants as resource_op
use Rattle.builtin_kinds.specs.declared.PlainBuiltin.{PlainBuiltin}
use Rattle.builtin_kinds.specs.declared.PlainBuiltin.TheVariants as plain
use Rattle.builtin_kinds.specs.declared.WaitOp.{WaitOp}
use Rattle.builtin_kinds.specs.declared.WaitOp.TheVariants as wait_op
use Rattle.handle_table.specs.History.{next_index}
use Rattle.res_handles.specs.declared.handle.Handle.{Handle}
use Rattle.res_handles.specs.declared.handle.Ownership.{Ownership}
use Rattle.res_handles.specs.declared.handle.Ownership.TheVariants.{Own, Borrow}
use Rattle.res_handles.specs.Refusals.{dropped_in}
use Rattle.waitables.specs.Sets.{drop_answer}
use Rattle.stream_ends.specs.declared.side.Side.TheVariants.{Reader, Writer}
use Rattle.stream_ends.specs.Ends.{is_copying}
use Rattle.tasks.specs.Tasks.{asking_fault, cancel_fault, is_asked, is_unasked, may_cancel}
use Rattle.tasks.specs.Subtasks.{is_over}
use Rattle.comp_graph.specs.declared.graph.Builtin.{Builtin}
use Rattle.comp_graph.specs.declared.graph.FuncRef.{FuncRef}
use Rattle.comp_graph.specs.declared.graph.Options.{Options}
use Rattle.comp_graph.specs.declared.graph.Resource.{Resource}
use Rattle.comp_graph.specs.declared.graph.EndOp.{EndOp}
use Rattle.comp_graph.specs.declared.graph.EndOp.TheVariants as end_op
use Rattle.comp_graph.specs.declared.graph.BuiltinKind.{BuiltinKind}
use Rattle.comp_graph.specs.declared.graph.BuiltinKind.TheVariants as kind
use Rattle.comp_graph.specs.declared.graph.CanonFunc.{CanonFunc}
use Rattle.comp_graph.specs.declared.graph.CanonFunc.TheVariants as canon
use Rattle.comp_graph.specs.Needs.{flat_param_limit}
use Rattle.comp_graph.specs.Graph.{Graph, Lifted, func_named}
use Rattle.script_reader.specs.declared.script.Item.{Item}
use Rattle.script_reader.specs.declared.script.Item.TheVariants as item
use Rattle.script_reader.specs.Script.{Script}
use Rattle.trace_labels.specs.declared.label.Label.TheVariants as line
use Rattle.trace_labels.specs.declared.label.BlockReason.TheVariants as reason
use Rattle.trace_labels.specs.declared.trap.TrapName.{TrapName}
use Rattle.trace_labels.specs.declared.trap.TrapName.TheVariants as trap
use Rattle.abi_machine.specs.Control.{EndRef, Replies, InWait, Free, Back}
use Rattle.abi_machine.specs.World.{OwnHandle, OfSet, OfEnd, Func, Destroys, Subtask, ForYield, ForSet, AfterCancel, InBuiltin, Task, World}
use Rattle.abi_machine.specs.Edits.{item_taken, entry_added, entry_removed, set_made, left_set, chained, in_state, channel_made}
use Rattle.abi_machine.specs.Canons.{func_address, memory_of, bytes_of, options_in, options_of_kind, builtin_of, canon_at, options_at, resource_at, lifted_of, destructor_of}
use Rattle.abi_machine.specs.Reading.{table_of, sets_in, backpressure_of, channels, acting, func_of, is_reentrant, may_leave}
use Rattle.abi_machine.specs.Counting.{passes, task_view, has_resolved, end_of, ready, view_at}
use Rattle.abi_machine.specs.SameTypes.{same_held}
use Rattle.abi_machine.specs.Finding.{subtask_at, set_at, waitable_at, end_at}
use Rattle.abi_machine.specs.Traps.{task_name, set_name, refusal_name, renamed}
use Rattle.abi_machine.specs.Turn.{silent, replied, with_entry}
use Rattle.abi_machine.specs.Choosing.{chosen}
use Rattle.abi_machine.specs.Reply.{resource_turn, plain_turn, side_of, copy_size, end_turn, builtin_turn, reply, exempt_turn, allowed, calling_turn}
use Rattle.abi_machine.specs.Scheduling.{call_taken, cancel_taken, item_turn, gone, going_turn, task_of_call, Alternative, Takes, GoesOn, alternatives, alternative_turn, one_of, free_turn, chosen_turn}
use Rattle.abi_machine.specs.replies.Context.{Answers, Exempt, exempt_of}
use Rattle.abi_machine.specs.replies.Pressure.{most_backpressure, pressure_inc_turn, pressure_dec_turn, pressure_set_turn}
use Rattle.abi_machine.specs.replies.Resources.{resource_new_turn, destroyed_here, destroyed, dropped, resource_drop_turn}
use Rattle.abi_machine.specs.replies.Streams.{both_indices, end_ref, is_async_copy, is_unwritten, ends_added, channel_new_turn, copy_cancel_turn, end_drop_turn}
use Rattle.abi_machine.specs.replies.Subtasks.{cancel_asked, subtask_cancel_turn, subtask_drop_turn}
use Rattle.abi_machine.specs.replies.Tasks.{same_address, return_checked, return_turn, task_cancel_turn, yield_turn}
use Rattle.abi_machine.specs.replies.Waiting.{event_size, event_align, is_cancelled, view_of_set, set_new_turn, none_ready, by_ready, event_turn, wait_turn, set_drop_turn, joins, join_turn}
use Rattle.abi_machine.specs.sound.TypedWorlds.{HasEventRoom}
use Rattle.reach_laws.proofs.Leaving.{Leaves, behind_leaves, given_leaves, either_leaves, unless_leaves, fault_leaves, refused_leaves, charged_leaves, subtask_leaves, entry_leaves}
use Rattle.reach_laws.proofs.growing.Stores.{IsOn, Grown}
use Rattle.reach_laws.proofs.growing.Meeting.{IsOneOf}
use Rattle.reach_laws.proofs.growing.Passing.{resolves_grows}
use Rattle.reach_laws.proofs.growing.Waking.{on_channel, blocked_grows, begun_grows, cancelled_grows, none_received_grows, cancel_received_grows, yielded_grows}
use Rattle.reach_laws.proofs.growing.Copying.{Copies, copy_grows}
use Rattle.reach_laws.proofs.growing.Moving.{IfAnswered, exempt_on}

le_not : (a b : ℕ) → not (nat_le a b) ≡ false → a ≤ b
le_not a b h = by (nat_le a b) refl h
  where
    by : (t : Bool) → nat_le a b ≡ t → not t ≡ false → a ≤ b
    by true e k = grind (arith, nat_tests)
    by false e k = cc

one_of_size : (what : EndKind) (words : List ℕ) → IsOneOf what (copy_size what words)
one_of_size Stream words = tt
one_of_size Future words = refl

-- what a canonical function that reads or writes uses
options_are : (g : Graph) (number : ℕ) (b : Builtin) (what : EndKind) (side : EndSide) (element : Option ValType) (options : Options) → canon_at g number ≡ Some (canon.Builtin b) → b.kind ≡ kind.End what element (end_op.Copy side options)
    → options_at g number ≡ options
options_are g number b what side element options at is = ap options_in at ∙ ap options_of_kind is

on_made : (s : Store) (what : EndKind) (element : Option ValType) (w : World) → IsOn s w.store → IsOn s (channel_made what element w).store
on_made s Stream element w h = h
on_made s Future element w h = h

module _ (g : Graph) (s : Store) where
  abbrev Fine : World → Type 0
  Fine v = Grown s v

  abbrev On : World → Type 0
  On w = IsOn s w.store

  -- Built-ins.
  destroyed_grows : (t i number : ℕ) (words : List ℕ) (resource : ℕ) (r : Resource) (destructor : Option FuncRef) (rep : ℕ) (w : World) → On w → Leaves Fine (destroyed t i number words resource r destructor rep w)
  unfolding destroyed destroyed_here
  destroyed_grows t i number words resource r None rep w h =
      unless_leaves Fine t (not (nat_eq r.instance i) && is_reentrant w r.instance t) trap.Reentrant w _ (h, tt) (λ e. (h, tt))
  destroyed_grows t i number words resource r (Some ref) rep w h =
      either_leaves Fine (nat_eq r.instance i) _ _ (λ e. given_leaves Fine (found_at w.store.funcs (func_address w.store ref)) _ (λ function k. (h, tt)))
      (λ e. begun_grows g s t number words (Destroys resource (destructor_of r.instance ref)) (destructor_of r.instance ref) (rep ∷ []) w h)

  dropped_grows : (t i number : ℕ) (words : List ℕ) (x : Handle) (o : Ownership) (w : World) → On w → Leaves Fine (dropped g t i number words x o w)
  unfolding dropped
  dropped_grows t i number words x (Borrow task) w h = (h, tt)
  dropped_grows t i number words x Own w h = given_leaves Fine (resource_at g x.resource) _ (λ (r : Resource) e. destroyed_grows t i number words x.resource r r.destructor x.rep w h)

  resource_grows : (t i number : ℕ) (op : ResourceOp) (resource : ℕ) (words : List ℕ) (w : World) → On w → Leaves Fine (resource_turn g t i number op resource words w)
  unfolding resource_turn resource_new_turn resource_drop_turn
  resource_grows t i number resource_op.New resource words w h = entry_leaves Fine t i (OwnHandle resource (slice_index words 0)) w (λ index v. replied t (index ∷ []) v) (h, tt) (h, tt)
  resource_grows t i number resource_op.Drop resource words w h =
      let answer : Result Handle TrapName = renamed refusal_name (dropped_in (view_at w i (slice_index words 0)) resource) in
      refused_leaves Fine t answer w (λ (x : Handle). dropped g t i number words x x.ownership (entry_removed i (slice_index words 0) w)) (λ why. (h, tt))
      (λ (x : Handle) e. dropped_grows t i number words x x.ownership (entry_removed i (slice_index words 0) w) h)
  resource_grows t i number resource_op.Rep resource words w h = tt

  return_grows : (t : ℕ) (task : Task) (i : ℕ) (result : Option ValType) (options : Options) (words : List ℕ) (w : World) → On w → Leaves Fine (return_turn g t task i result options words w)
  unfolding return_turn return_checked
  return_grows t task i result options words w h =
      fault_leaves Fine t task_name (asking_fault (task_view g w t task)) w _ (λ why. (h, tt)) (given_leaves Fine (func_of task.callee) _ (λ f e.
      unless_leaves Fine t (not (same_held result f.func_type.result)) trap.WrongResult w _ (h, tt)
      (λ same. unless_leaves Fine t (not (same_address (memory_of w.store options) (memory_of w.store f.options))) trap.WrongOptions w _ (h, tt)
      (λ one. resolves_grows g s t task Replies i flat_param_limit result options words w h))))

  cancel_grows : (t i number : ℕ) (words : List ℕ) (w : World) → On w → Leaves Fine (subtask_cancel_turn g t i number words w)
  unfolding subtask_cancel_turn cancel_asked
  cancel_grows t i number words w h =
      refused_leaves Fine t (subtask_at w i (slice_index words 0)) w _ (λ why. (h, tt)) (λ callee e. subtask_leaves Fine w callee _ (λ (task : Task) (subtask : Subtask).
      unless_leaves Fine t (is_over subtask.told) trap.Delivered w _ (h, tt) (λ open_still. unless_leaves Fine t (not (is_unasked task.cancellation)) trap.Asked w _ (h, tt)
      (λ asks. either_leaves Fine (has_resolved task) _ _ (λ k. (h, tt)) (λ k. cancelled_grows g s callee task Back (in_state t (AfterCancel callee number words) w) (λ x. tt) h)))))

  subtask_drop_grows : (t i index : ℕ) (w : World) → On w → Leaves Fine (subtask_drop_turn t i index w)
  unfolding subtask_drop_turn
  subtask_drop_grows t i index w h =
      refused_leaves Fine t (subtask_at w i index) w _ (λ why. (h, tt)) (λ callee e. subtask_leaves Fine w callee _ (λ (task : Task) (subtask : Subtask).
      unless_leaves Fine t (not (is_over subtask.told)) trap.NotDelivered w _ (h, tt) (λ over. (h, tt))))

  set_drop_grows : (t i index : ℕ) (w : World) → On w → Leaves Fine (set_drop_turn t i index w)
  unfolding set_drop_turn
  set_drop_grows t i index w h =
      refused_leaves Fine t (set_at w i index) w _ (λ why. (h, tt)) (λ set e.
      refused_leaves Fine t (renamed set_name (drop_answer (view_of_set w i index set))) w (λ done. replied t [] (entry_removed i index w)) (λ why. (h, tt)) (λ done k. (h, tt)))

  joins_grow : (t i index other : ℕ) (w : World) → On w → Leaves Fine (joins t i index other w)
  unfolding joins
  joins_grow t i index zero w h = (h, tt)
  joins_grow t i index (suc other) w h = refused_leaves Fine t (set_at w i (suc other)) w _ (λ why. (h, tt)) (λ set e. (h, tt))

  join_grows : (t i index other : ℕ) (w : World) → On w → Leaves Fine (join_turn t i index other w)
  unfolding join_turn
  join_grows t i index other w h = refused_leaves Fine t (waitable_at w i index) w _ (λ why. (h, tt)) (λ there e. joins_grow t i index other w h)

  plain_grows : (t : ℕ) (task : Task) (i number : ℕ) (op : PlainBuiltin) (words : List ℕ) (w : World) → On w → Leaves Fine (plain_turn g t task i number op words w)
  unfolding plain_turn task_cancel_turn pressure_set_turn pressure_inc_turn pressure_dec_turn yield_turn set_new_turn
  plain_grows t task i number plain.TaskCancel words w h = fault_leaves Fine t task_name (cancel_fault (task_view g w t task)) w _ (λ why. (h, tt)) (h, tt)
  plain_grows t task i number plain.BackpressureSet words w h = (h, tt)
  plain_grows t task i number plain.BackpressureInc words w h = unless_leaves Fine t (nat_le most_backpressure (backpressure_of w i)) trap.PressureLimit w _ (h, tt) (λ e. (h, tt))
  plain_grows t task i number plain.BackpressureDec words w h = unless_leaves Fine t (nat_eq (backpressure_of w i) 0) trap.PressureZero w _ (h, tt) (λ e. (h, tt))
  plain_grows t task i number (plain.SubtaskCancel is_async) words w h = cancel_grows t i number words w h
  plain_grows t task i number plain.SubtaskDrop words w h = subtask_drop_grows t i (slice_index words 0) w h
  plain_grows t task i number (plain.Yield cancellable) words w h =
      either_leaves Fine (cancellable && is_asked task.cancellation) _ _ (λ e. yielded_grows g s t w h) (λ e. blocked_grows g s t (InBuiltin number words ForYield) reason.Yield w h)
  plain_grows t task i number plain.WaitableSetNew words w h = entry_leaves Fine t i (OfSet (length (sets_in (slice_get w.insts i)))) w (λ index v. replied t (index ∷ []) (set_made i v)) (h, tt) (h, tt)
  plain_grows t task i number plain.WaitableSetDrop words w h = set_drop_grows t i (slice_index words 0) w h
  plain_grows t task i number plain.WaitableJoin words w h = join_grows t i (slice_index words 0) (slice_index words 1) w h

  none_ready_grows : (t : ℕ) (f : Lifted) (op : WaitOp) (number : ℕ) (words : List ℕ) (w : World) → HasEventRoom g w.store number words → On w → Leaves Fine (none_ready g t f op number words w)
  unfolding none_ready
  none_ready_grows t f wait_op.Poll number words w room h = none_received_grows g s t f (InWait number words) w room h
  none_ready_grows t f wait_op.Wait number words w room h = blocked_grows g s t (InBuiltin number words (ForSet (slice_index words 0))) (reason.Wait (slice_index words 0)) w h

  by_ready_grows : (t : ℕ) (f : Lifted) (op : WaitOp) (number : ℕ) (words : List ℕ) (set : ℕ) (members : List ℕ) (w : World) → HasEventRoom g w.store number words → On w → Leaves Fine (by_ready g t f op number words set members w)
  unfolding by_ready
  by_ready_grows t f op number words set [] w room h = none_ready_grows t f op number words w room h
  by_ready_grows t f op number words set (index ∷ members) w room h = (h, tt)

  wait_grows : (t : ℕ) (task : Task) (i : ℕ) (op : WaitOp) (number : ℕ) (words : List ℕ) (w : World) → On w → Leaves Fine (wait_turn g t task i op number words w)
  unfolding wait_turn event_turn
  wait_grows t task i op number words w h =
      refused_leaves Fine t (set_at w i (slice_index words 0)) w _ (λ why. (h, tt)) (λ set e. given_leaves Fine (func_of task.callee) _ (λ (f : Lifted) k.
      unless_leaves Fine t (not (nat_eq (slice_index words 1 % event_align) 0)) trap.Misaligned w _ (h, tt) (λ aligned.
      unless_leaves Fine t (not (nat_le (slice_index words 1 + event_size) (length (bytes_of w.store (memory_of w.store (options_at g number)))))) trap.Bounds w _ (h, tt) (λ inside.
      (let room : HasEventRoom g w.store number words = le_not (slice_index words 1 + event_size) (length (bytes_of w.store (memory_of w.store (options_at g number)))) inside in
      either_leaves Fine (is_cancelled g task number) _ _ (λ c. cancel_received_grows g s t f (InWait number words) w room h) (λ c. by_ready_grows t f op number words set (ready w i set) w room h))))))

  end_grows : (t i number : ℕ) (what : EndKind) (element : Option ValType) (op : EndOp) (words : List ℕ) (b : Builtin) (w : World) → canon_at g number ≡ Some (canon.Builtin b) → b.kind ≡ kind.End what element op → Copies g s w
      → Leaves Fine (end_turn g t i number what element op words w)
  unfolding end_turn channel_new_turn ends_added copy_cancel_turn end_drop_turn
  end_grows t i number what element end_op.New words b w at is h =
      let on : On (channel_made what element w) = on_made s what element w h.on in
      entry_leaves Fine t i (OfEnd (end_ref what (length (channels what w) + 1) Reader)) (channel_made what element w)
      (λ readable v. with_entry t i (OfEnd (end_ref what (length (channels what w) + 1) Writer)) v (λ writable u. replied t (both_indices readable writable ∷ []) u)) (on, tt)
      (entry_leaves Fine t i (OfEnd (end_ref what (length (channels what w) + 1) Writer))
      (entry_added i (OfEnd (end_ref what (length (channels what w) + 1) Reader)) (channel_made what element w))
      (λ writable u. replied t (both_indices (next_index (table_of (channel_made what element w) i)) writable ∷ []) u) (on, tt) (on, tt))
  end_grows t i number what element (end_op.Copy side options) words b w at is h =
      copy_grows g s t i number what (side_of side) element options words (copy_size what words) w h (options_are g number b what side element options at is) (one_of_size what words)
  end_grows t i number what element (end_op.Cancel side is_async) words b w at is h =
      refused_leaves Fine t (end_at w what (side_of side) element i (slice_index words 0)) w _ (λ why. (h.on, tt)) (λ (e : EndRef) found.
      unless_leaves Fine t (not (passes (is_async_copy g) (end_of w e).copy)) trap.NotCopying w _ (h.on, tt) (λ copies. (on_channel s e.kind e.number _ w h.on, tt)))
  end_grows t i number what element (end_op.Drop side) words b w at is h =
      refused_leaves Fine t (end_at w what (side_of side) element i (slice_index words 0)) w _ (λ why. (h.on, tt)) (λ (e : EndRef) found.
      unless_leaves Fine t (is_copying (end_of w e)) trap.Busy w _ (h.on, tt) (λ idle. unless_leaves Fine t (is_unwritten what (side_of side) (end_of w e)) trap.UnwrittenFuture w _ (h.on, tt)
      (λ done. (on_channel s e.kind e.number _ (left_set i (slice_index words 0) (entry_removed i (slice_index words 0) w)) h.on, tt))))

  builtin_grows : (t : ℕ) (task : Task) (i number : ℕ) (k : BuiltinKind) (words : List ℕ) (b : Builtin) (w : World) → canon_at g number ≡ Some (canon.Builtin b) → b.kind ≡ k → Copies g s w → Leaves Fine (builtin_turn g t task i number k words w)
  unfolding builtin_turn
  builtin_grows t task i number (kind.Resource op resource) words b w at is h = resource_grows t i number op resource words w h.on
  builtin_grows t task i number (kind.TaskReturn result options) words b w at is h = return_grows t task i result options words w h.on
  builtin_grows t task i number (kind.Plain op) words b w at is h = plain_grows t task i number op words w h.on
  builtin_grows t task i number (kind.Context op slot) words b w at is h = tt
  builtin_grows t task i number (kind.Wait op cancellable memory) words b w at is h = wait_grows t task i op number words w h.on
  builtin_grows t task i number (kind.End what element op) words b w at is h = end_grows t i number what element op words b w at is h

  reply_grows : (t : ℕ) (task : Task) (number : ℕ) (c : CanonFunc) (words : List ℕ) (w : World) → canon_at g number ≡ Some c → Copies g s w → Leaves Fine (reply g t task number c words w)
  unfolding reply
  reply_grows t task number (canon.Lower l) words w at h = begun_grows g s t number words (Func (lifted_of l)) (lifted_of l) words w h.on
  reply_grows t task number (canon.Builtin b) words w at h = builtin_grows t task b.instance number b.kind words b w at refl h

  allowed_grows : (t : ℕ) (task : Task) (number : ℕ) (c : CanonFunc) (words : List ℕ) (o : Option Exempt) (w : World) → canon_at g number ≡ Some c → IfAnswered g s w o → Copies g s w → Leaves Fine (allowed g t task number c words o w)
  unfolding allowed exempt_turn
  allowed_grows t task number c words None w at on h = either_leaves Fine (may_leave w) _ _ (λ e. reply_grows t task number c words w at h) (λ e. (h.on, tt))
  allowed_grows t task number c words (Some exempt) w at on h = by (exempt w) on
    where
      by : (r : Result Answers TrapName) → IfAnswered g s w (Some (λ v. r)) → Leaves Fine (exempt_turn t r w)
      by (Ok answer) k = (k, tt)
      by (Err why) k = (h.on, tt)

  pub calling_grows : (number : ℕ) (words : List ℕ) (w : World) → Copies g s w → Leaves Fine (calling_turn g number words w)
  unfolding calling_turn
  calling_grows number words w h =
      given_leaves Fine (acting w) _ (λ a e. given_leaves Fine (canon_at g number) _ (λ c at.
      behind_leaves Fine (line.Do a.0 (builtin_of c) words ∷ []) (allowed g a.0 a.1 number c words (exempt_of a.0 words c) w)
      (allowed_grows a.0 a.1 number c words (exempt_of a.0 words c) w at (exempt_on g s a.0 words c w h.on) h)))

  -- The scheduler.
  taken_grows : (script : Script) (i : Item) (w : World) → On w → Leaves Fine (item_turn g script i w)
  unfolding item_turn call_taken cancel_taken
  taken_grows script (item.Call call) w h = given_leaves Fine (func_named g call.name) _ (λ f e. (h, tt))
  taken_grows script (item.Cancel call) w h =
      given_leaves Fine (task_of_call call w) _ (λ found e.
      behind_leaves Fine (line.Cancel call ∷ []) _
      (either_leaves Fine (may_cancel (task_view g (item_taken w) found.0 found.1)) _ (silent Free (item_taken w)) (λ k. cancelled_grows g s found.0 found.1 Free (item_taken w) (λ x. tt) h) (λ k. (h, tt))))

  pub going_grows : (script : Script) (w : World) → On w → Leaves Fine (going_turn script w)
  unfolding going_turn gone
  going_grows script w h = given_leaves Fine (acting w) _ (λ a e. charged_leaves Fine true script w (λ v. gone a.0 v) (λ units. (h, tt)))

  alternative_grows : (script : Script) (a : Alternative) (w : World) → On w → Leaves Fine (alternative_turn g script a w)
  unfolding alternative_turn gone
  alternative_grows script (Takes first) w h = charged_leaves Fine true script w (λ v. item_turn g script first v) (λ units. taken_grows script first (record w { units = units }) h)
  alternative_grows script (GoesOn t) w h = charged_leaves Fine true script w (λ v. gone t (chained t v)) (λ units. (h, tt))

  one_grows : (script : Script) (all : List Alternative) (w : World) → On w → Leaves Fine (one_of g script all w)
  unfolding one_of chosen
  one_grows script [] w h = tt
  one_grows script (a ∷ []) w h = alternative_grows script a w h
  one_grows script (a ∷ other ∷ others) w h = (h, tt)

  pub free_grows : (script : Script) (w : World) → On w → Leaves Fine (free_turn g script w)
  unfolding free_turn
  free_grows script w h = one_grows script (alternatives g script w) w h

  pub chosen_grows : (script : Script) (k : ℕ) (w : World) → On w → Leaves Fine (chosen_turn g script k w)
  unfolding chosen_turn
  chosen_grows script k w h = given_leaves Fine (slice_get (alternatives g script w) k) _ (λ (a : Alternative) e. alternative_grows script a w h)
