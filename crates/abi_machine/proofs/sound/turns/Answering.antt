-- The answers of built-ins keep what every change keeps.
use Rattle.std.proofs.Common.{◌≡◌, ◌≤◌, ◌⊎◌, inl, inr, ℕ, zero, suc, ◌+◌, ◌-◌, ◌*◌, ◌%◌, ◌&&◌, Bool, true, false, not, nat_eq, nat_lt, nat_le, List, [], ◌∷◌, length, refl, sym, ap, ◌∙◌, subst, arith, Option, Some, None, Result, Ok, Err, if◌then◌else◌}
use Rattle.std.proofs.lemmas.Bool.Decides.{nat_tests}
use Rattle.std.specs.Prelude.{IsSome, slice_index, is_some}
use Rattle.std.specs.List.{slice_get}
use Rattle.wasm_store.specs.Store.{found_at}
use Rattle.laid_types.specs.Layout.{laid}
use Rattle.syntax_trees.specs.declared.types.ValType.{ValType}
use Rattle.builtin_kinds.specs.declared.EndKind.{EndKind}
use Rattle.builtin_kinds.specs.declared.PlainBuiltin.{PlainBuiltin}
use Rattle.builtin_kinds.specs.declared.PlainBuiltin.TheVariants as plain
use Rattle.builtin_kinds.specs.declared.ResourceOp.{ResourceOp}
use Rattle.builtin_kinds.specs.declared.ResourceOp.TheVariants as resource_op
use Rattle.builtin_kinds.specs.declared.WaitOp.{WaitOp}
use Rattle.builtin_kinds.specs.declared.WaitOp.TheVariants as wait_op
use Rattle.handle_table.specs.History.{next_index}
use Rattle.res_handles.specs.declared.handle.Handle.{Handle}
use Rattle.res_handles.specs.declared.handle.Ownership.{Ownership}
use Rattle.res_handles.specs.declared.handle.Ownership.TheVariants.{Own, Borrow}
use Rattle.res_handles.specs.Refusals.{dropped_in}
use Rattle.entry_gate.specs.Gates.{set_pressure}
use Rattle.tasks.specs.declared.phase.Cancellation.TheVariants as cancellation
use Rattle.tasks.specs.declared.phase.Resolution.TheVariants.{Cancelled}
use Rattle.tasks.specs.Subtasks.{is_over}
use Rattle.tasks.specs.Tasks.{is_unasked, resolving_fault, asking_fault, cancel_fault, is_asked, is_told, is_sync}
use Rattle.stream_ends.specs.declared.side.Side.{Side}
use Rattle.stream_ends.specs.declared.side.Side.TheVariants.{Reader, Writer}
use Rattle.stream_ends.specs.declared.open_copy.By.TheVariants as copy_by
use Rattle.stream_ends.specs.declared.open_copy.OpenCopy.{OpenCopy}
use Rattle.stream_ends.specs.Ends.{is_copying, new_copy}
use Rattle.comp_graph.specs.declared.graph.FuncRef.{FuncRef}
use Rattle.comp_graph.specs.declared.graph.Options.{Options}
use Rattle.comp_graph.specs.declared.graph.Resource.{Resource}
use Rattle.comp_graph.specs.declared.graph.CanonFunc.{CanonFunc}
use Rattle.comp_graph.specs.declared.graph.CanonFunc.TheVariants as canon
use Rattle.comp_graph.specs.declared.graph.BuiltinKind.{BuiltinKind}
use Rattle.comp_graph.specs.declared.graph.BuiltinKind.TheVariants as builtin
use Rattle.comp_graph.specs.declared.graph.EndOp.{EndOp}
use Rattle.comp_graph.specs.declared.graph.EndOp.TheVariants as end_op
use Rattle.comp_graph.specs.Graph.{Graph, Lifted, passed_value}
use Rattle.script_reader.specs.Script.{Script}
use Rattle.trace_labels.specs.declared.label.Label.TheVariants as line
use Rattle.trace_labels.specs.declared.label.BlockReason.TheVariants as reason
use Rattle.trace_labels.specs.declared.trap.TrapName.{TrapName}
use Rattle.trace_labels.specs.declared.trap.TrapName.TheVariants as trap
use Rattle.abi_machine.specs.Traps.{task_name, renamed, refusal_name, set_name}
use Rattle.abi_machine.specs.LiftingOver.{made}
use Rattle.abi_machine.specs.Control.{EndRef, Replies, InWait, Back, Doomed}
use Rattle.abi_machine.specs.World.{Entry, OwnHandle, OfSet, OfEnd, Func, Destroys, Subtask, ForYield, ForSet, AfterCancel, InBuiltin, Task, Channel, World}
use Rattle.abi_machine.specs.Edits.{entry_added, entry_removed, left_set, in_state, resolved, told, joined, concluded, end_dropped, set_made, channel_made}
use Rattle.abi_machine.specs.Canons.{func_address, memory_of, bytes_of, canon_at, options_at, flag_at, builtin_of, lifted_of, resource_at, destructor_of}
use Rattle.abi_machine.specs.Reading.{table_of, sets_in, backpressure_of, acting, func_of, task_at, kind_of, is_reentrant, may_leave, channel_at, channels, numbered}
use Rattle.abi_machine.specs.Counting.{passes, view_at, task_view, has_resolved, end_of, payload_of, ready, channel_end}
use Rattle.abi_machine.specs.Finding.{subtask_at, set_at, waitable_at, end_at}
use Rattle.abi_machine.specs.Turn.{Turn, silent, unless, replied, blocked, with_entry}
use Rattle.abi_machine.specs.Returning.{result_passed, resolves}
use Rattle.abi_machine.specs.Calling.{with_subtask_of}
use Rattle.abi_machine.specs.Delivering.{received_cancel, yield_cancelled}
use Rattle.abi_machine.specs.Cancelling.{cancelled_turn}
use Rattle.abi_machine.specs.Copying.{meets}
use Rattle.abi_machine.specs.replies.Context.{Exempt, Answers, exempt_of}
use Rattle.abi_machine.specs.replies.Resources.{resource_new_turn, destroyed_here, destroyed, dropped, resource_drop_turn}
use Rattle.abi_machine.specs.SameTypes.{same_held}
use Rattle.comp_graph.specs.Needs.{flat_param_limit}
use Rattle.waitables.specs.Sets.{drop_answer}
use Rattle.abi_machine.specs.replies.Tasks.{same_address, return_checked, return_turn, task_cancel_turn, yield_turn}
use Rattle.abi_machine.specs.replies.Subtasks.{cancel_asked, subtask_cancel_turn, subtask_drop_turn}
use Rattle.abi_machine.specs.replies.Pressure.{most_backpressure, pressure_inc_turn, pressure_dec_turn, pressure_set_turn}
use Rattle.abi_machine.specs.replies.Waiting.{set_new_turn, none_ready, by_ready, event_size, event_align, is_cancelled, event_turn, wait_turn, view_of_set, set_drop_turn, joins, join_turn}
use Rattle.abi_machine.specs.replies.Streams.{end_ref, both_indices, ends_added, channel_new_turn, placed_well, max_length, copy_turn, is_async_copy, copy_cancel_turn, is_unwritten, end_drop_turn}
use Rattle.abi_machine.specs.Reply.{resource_turn, plain_turn, side_of, copy_size, end_turn, builtin_turn, reply, exempt_turn, allowed, calling_turn}
use Rattle.abi_machine.specs.sound.Changes.{AddsEntry, MakesSet, RemovesEntry, RemovesWaitable, LeavesSet, JoinsSet, HasBackpressure, Cancels, HasWord, MakesChannel, Concludes, DropsEnd, after, IsWaitable, Stands}
use Rattle.laid_types.specs.Handles.{held_borrow}
use Rattle.abi_machine.specs.sound.Premises.{IsSizeIn, passed_type, GraphPassesBorrow}
use Rattle.tasks.specs.declared.event.TaskTrap.{TaskTrap}
use Rattle.tasks.specs.declared.event.TaskTrap.TheVariants.{SyncTask, NotAsked as NeverTold}
use Rattle.tasks.specs.Views.{TaskView}
use Rattle.stream_ends.specs.declared.stream_end.End.{End}
use Rattle.builtin_kinds.specs.declared.EndKind.TheVariants.{Stream, Future}
use Rattle.abi_machine.specs.sound.Firsts.{TaskIs, IsActing}
use Rattle.abi_machine.specs.sound.Changes.{IsFirst}
use Rattle.abi_machine.proofs.sound.Found.{some_same, renamed_ok, acting_first, acting_is, now_cancels, dropped_free, waitable_stands, set_stands, set_empty, set_few, inc_few, dec_few}
use Rattle.abi_machine.proofs.sound.OnePlace.{new_is_made, new_nowhere}
use Rattle.abi_machine.proofs.sound.Takeable.{subtask_taken, end_found}
use Rattle.abi_machine.proofs.sound.Acted.{one_task, first_at, changed_where}
use Rattle.abi_machine.proofs.sound.Entries.{right_true, not_false, asked_is, told_is, unasked_is, unresolved_is}
use Rattle.abi_machine.specs.sound.Lines as mark
use Rattle.abi_machine.proofs.sound.LiftLines.{result_unmarked}
use Rattle.abi_machine.proofs.sound.turns.Keeping.{Invariant, Keeps, Acted, given_keeps, behind_keeps, either_keeps, stay, goes, goes_on, refused_keeps, unless_keeps, fault_keeps, on_keeps, blocked_keeps, entry_keeps, new_stack_keeps, ahead, resolves_now}
use Rattle.abi_machine.proofs.sound.turns.Moving.{ActsLike, acts_like, no_fault, no_borrows, result_comes, resolves_keeps}
use Rattle.abi_machine.specs.sound.CallsFit.{IsCopyBy}
use Rattle.abi_machine.proofs.sound.CopyKinds.{IsDropper, IsKind, dropper, copy_is, copies_at}
use Rattle.abi_machine.proofs.sound.turns.Waking.{IsToCancel, call_keeps, with_keeps, none_keeps, cancel_keeps, yielded_keeps, cancelled_keeps}
use Rattle.abi_machine.proofs.sound.turns.Nesting.{exempt_keeps, meets_keeps}
use Rattle.abi_machine.proofs.sound.Entered.{acts_entered}
use Rattle.abi_machine.proofs.sound.ends.Lifting.{result_brings}
use Rattle.abi_machine.proofs.sound.ends.Brought.{removed_nowhere, both_once}
use Rattle.abi_machine.proofs.sound.ends.Readers.{reader_is_fresh, new_live_still}

-- what is known of a task that is looked up, of a fault that is not found, and of a copy
is_there : (tasks : List Task) (t : ℕ) (task : Task) → slice_get tasks t ≡ Some task → IsSome (slice_get tasks t)
is_there tasks t task there = subst (λ (o : Option Task). IsSome o) (sym there) refl

no_cancel_if : (sync told : Bool) (o : Option TaskTrap) → (if sync then Some SyncTask else (if told then o else Some NeverTold)) ≡ None → (told ≡ true) × (o ≡ None)
no_cancel_if true told o e = cc
no_cancel_if false true o e = (refl, e)
no_cancel_if false false o e = cc

no_cancel_fault : (v : TaskView) → cancel_fault v ≡ None → (v.cancellation ≡ cancellation.Delivered) × (v.resolution ≡ None) × (v.borrows ≡ 0)
no_cancel_fault v e =
    let free = no_cancel_if (is_sync v.kind) (is_told v.cancellation) (resolving_fault v) e in
    (told_is v.cancellation free.0, no_fault v free.1, no_borrows v free.1)

not_copying : (o : Option OpenCopy) → is_some o ≡ false → o ≡ None
not_copying None e = refl
not_copying (Some copy) e = cc

no_more : (a b : ℕ) → nat_lt a b ≡ false → b ≤ a
no_more a b e = grind (arith, nat_tests)

size_fits : (kind : EndKind) (words : List ℕ) → copy_size kind words ≤ max_length → IsSizeIn kind (copy_size kind words)
size_fits Stream words h = h
size_fits Future words h = refl

-- ends of a world whose streams and futures are the same
end_same : (w v : World) (e : EndRef) → v.streams ≡ w.streams → v.futures ≡ w.futures → end_of v e ≡ end_of w e
end_same w v e streams futures = ap (channel_end e.side) (by e.kind)
  where
    by : (kind : EndKind) → channel_at v kind e.number ≡ channel_at w kind e.number
    by Stream = ap (λ (l : List Channel). numbered l e.number) streams
    by Future = ap (λ (l : List Channel). numbered l e.number) futures

-- A destructor has no result.
no_result : (i : ℕ) (ref : FuncRef) (f : Lifted) → (let o : Option Lifted = Some (destructor_of i ref) in o) ≡ Some f → held_borrow f.func_type.result ≡ true → ⊥
no_result i ref f e b = (let none : held_borrow (destructor_of i ref).func_type.result ≡ true = subst (λ (x : Lifted). held_borrow x.func_type.result ≡ true) (sym (some_same e)) b in cc)

-- The task that another one begins to cancel.
to_cancel : (w : World) (t callee number : ℕ) (words : List ℕ) (task : Task) → task_at w callee ≡ Some task → TaskIs w.tasks t IsActing → task.resolution ≡ None → task.cancellation ≡ cancellation.NotAsked
    → IsToCancel callee task (in_state t (AfterCancel callee number words) w)
to_cancel w t callee number words task there works unset unasked = elim (changed_where t (λ (x : Task). record x { state = AfterCancel callee number words }) w.tasks callee task there) [
  | inl old ↦ (task, old, (refl, unset, unasked, inl refl))
  | inr new ↦ (
    record task { state = AfterCancel callee number words },
    new.1,
    (refl, unset, unasked, inr (one_task w.tasks t IsActing task (ap (λ (k : ℕ). slice_get w.tasks k) (sym new.0) ∙ there) works)),
  )
]

module _ {g : Graph} {s : Script} (inv : Invariant g s) where
  -- Built-ins.

  new_handle_keeps : (t i resource rep : ℕ) (w : World) → Acted inv w → Keeps inv (resource_new_turn t i resource rep w)
  unfolding resource_new_turn
  new_handle_keeps t i resource rep w h =
      entry_keeps inv t i (OwnHandle resource rep) w (λ index v. replied t (index ∷ []) v) h (λ few.
      on_keeps inv t (next_index (table_of w i) ∷ []) (entry_added i (OwnHandle resource rep) w) (stay inv (AddsEntry i (OwnHandle resource rep)) w tt (few, tt, tt, tt, λ none. tt) h))

  destroyed_keeps : (t i number : ℕ) (words : List ℕ) (resource : ℕ) (r : Resource) (destructor : Option FuncRef) (rep : ℕ) (w : World) → resource_at g resource ≡ Some r → r.destructor ≡ destructor → IsDropper g number → IsSome (task_at w t) → IsFirst t w.chain → may_leave w ≡ true → Acted inv w
      → Keeps inv (destroyed t i number words resource r destructor rep w)
  unfolding destroyed destroyed_here
  destroyed_keeps t i number words resource r None rep w at is by there first free h =
      unless_keeps inv t (not (nat_eq r.instance i) && is_reentrant w r.instance t) trap.Reentrant w (replied t [] w) h (λ e. on_keeps inv t [] w h)
  destroyed_keeps t i number words resource r (Some ref) rep w at is by there first free h =
      either_keeps inv (nat_eq r.instance i) _ _ (λ e. given_keeps inv (found_at w.store.funcs (func_address w.store ref)) _ (λ function j. new_stack_keeps inv t _ w h))
      (λ e. call_keeps inv t number words (Destroys resource (destructor_of r.instance ref)) (destructor_of r.instance ref) (rep ∷ []) w refl (λ b. absurd (no_result r.instance ref b.0 b.1 b.2)) (r, ref, at, is, refl) (canon.Builtin by.0, by.1, (tt, by.2)) there first free h)

  dropped_keeps : (t i number : ℕ) (words : List ℕ) (x : Handle) (o : Ownership) (w : World) → IsDropper g number → IsSome (task_at w t) → IsFirst t w.chain → may_leave w ≡ true → Acted inv w → Keeps inv (dropped g t i number words x o w)
  unfolding dropped
  dropped_keeps t i number words x (Borrow task) w by there first free h = on_keeps inv t [] w h
  dropped_keeps t i number words x Own w by there first free h = given_keeps inv (resource_at g x.resource) _ (λ r e. destroyed_keeps t i number words x.resource r r.destructor x.rep w e refl by there first free h)

  drop_keeps : (t i number resource : ℕ) (words : List ℕ) (w : World) → IsDropper g number → IsSome (task_at w t) → IsFirst t w.chain → may_leave w ≡ true → Acted inv w → Keeps inv (resource_drop_turn g t i number resource words w)
  unfolding resource_drop_turn
  drop_keeps t i number resource words w by there first free h =
      let answer : Result Handle TrapName = renamed refusal_name (dropped_in (view_at w i (slice_index words 0)) resource) in
      refused_keeps inv t answer w (λ x. dropped g t i number words x x.ownership (entry_removed i (slice_index words 0) w)) h (λ x e.
      dropped_keeps t i number words x x.ownership (entry_removed i (slice_index words 0) w) by there first free
      (stay inv (RemovesEntry i (slice_index words 0)) w tt (dropped_free w i (slice_index words 0) resource x (renamed_ok refusal_name (dropped_in (view_at w i (slice_index words 0)) resource) x e)) h))

  return_keeps : (t : ℕ) (task : Task) (i : ℕ) (result : Option ValType) (options : Options) (words : List ℕ) (w : World) → (held_borrow result ≡ true → GraphPassesBorrow g) → ActsLike t task w → Acted inv w
      → Keeps inv (return_turn g t task i result options words w)
  unfolding return_turn return_checked
  return_keeps t task i result options words w returns like h =
      let answers : Turn = resolves g t task Replies (result_passed i t flat_param_limit result options words w) in
      let apart : Lifted → Bool = λ f. not (same_address (memory_of w.store options) (memory_of w.store f.options)) in
      fault_keeps inv t task_name (asking_fault (task_view g w t task)) w _ h (λ none. given_keeps inv (func_of task.callee) _ (λ f e.
      unless_keeps inv t (not (same_held result f.func_type.result)) trap.WrongResult w (unless t (apart f) trap.WrongOptions w answers) h (λ j.
      unless_keeps inv t (apart f) trap.WrongOptions w answers h (λ k.
      resolves_keeps inv t task Replies _ w (result_brings i t flat_param_limit result options words w) (inv.readers [] w h.0) (result_comes inv i t _ task result options words w (λ v l b. inl (returns b)) h like)
      (result_unmarked i t flat_param_limit result options words w)))))

  task_cancel_keeps : (t : ℕ) (task : Task) (w : World) → slice_get w.tasks t ≡ Some task → IsFirst t w.chain → Acted inv w → Keeps inv (task_cancel_turn g t task w)
  unfolding task_cancel_turn
  task_cancel_keeps t task w there first h =
      fault_keeps inv t task_name (cancel_fault (task_view g w t task)) w _ h (λ none.
      let free = no_cancel_fault (task_view g w t task) none in
      on_keeps (ahead (mark.IsCancelled t ∷ []) inv) t [] (resolved t Cancelled w)
      (resolves_now inv t Cancelled w ((task, there, (one_task w.tasks t IsActing task there (first_at w.tasks w.chain t IsActing first h.1), free.1, free.0)), free.2) h))

  yield_keeps : (t : ℕ) (task : Task) (number : ℕ) (cancellable : Bool) (words : List ℕ) (w : World) → slice_get w.tasks t ≡ Some task → IsFirst t w.chain → may_leave w ≡ true → Acted inv w → Keeps inv (yield_turn t task number cancellable words w)
  unfolding yield_turn
  yield_keeps t task number cancellable words w there first free h =
      either_keeps inv (cancellable && is_asked task.cancellation) (yield_cancelled t w) (blocked t (InBuiltin number words ForYield) reason.Yield w) (λ e. yielded_keeps inv t w (task, there, asked_is task.cancellation (right_true cancellable _ e)) h)
      (λ e. blocked_keeps inv t (InBuiltin number words ForYield) reason.Yield w first tt (inl free) (first_at w.tasks w.chain t IsActing first h.1) h.0)

  new_set_keeps : (t i : ℕ) (w : World) → Acted inv w → Keeps inv (set_new_turn t i w)
  unfolding set_new_turn
  new_set_keeps t i w h =
      let set : ℕ = length (sets_in (slice_get w.insts i)) in
      entry_keeps inv t i (OfSet set) w (λ index v. replied t (index ∷ []) (set_made i v)) h (λ few.
      on_keeps inv t (next_index (table_of w i) ∷ []) (set_made i (entry_added i (OfSet set) w)) (stay inv (MakesSet i set) w tt (few, refl) h))

  none_ready_keeps : (t : ℕ) (f : Lifted) (op : WaitOp) (number : ℕ) (words : List ℕ) (w : World) → IsFirst t w.chain → may_leave w ≡ true → Acted inv w → Keeps inv (none_ready g t f op number words w)
  unfolding none_ready
  none_ready_keeps t f wait_op.Poll number words w first free h = none_keeps inv t f (InWait number words) w h
  none_ready_keeps t f wait_op.Wait number words w first free h =
      blocked_keeps inv t (InBuiltin number words (ForSet (slice_index words 0))) (reason.Wait (slice_index words 0)) w first tt (inl free) (first_at w.tasks w.chain t IsActing first h.1) h.0

  by_ready_keeps : (t : ℕ) (f : Lifted) (op : WaitOp) (number : ℕ) (words : List ℕ) (set : ℕ) (members : List ℕ) (w : World) → IsFirst t w.chain → may_leave w ≡ true → Acted inv w → Keeps inv (by_ready g t f op number words set members w)
  unfolding by_ready
  by_ready_keeps t f op number words set [] w first free h = none_ready_keeps t f op number words w first free h
  by_ready_keeps t f op number words set (index ∷ members) w first free h = goes_on inv _ w tt h

  event_keeps : (t : ℕ) (task : Task) (f : Lifted) (i : ℕ) (op : WaitOp) (number : ℕ) (words : List ℕ) (set : ℕ) (w : World) → slice_get w.tasks t ≡ Some task → IsFirst t w.chain → may_leave w ≡ true → Acted inv w → Keeps inv (event_turn g t task f i op number words set w)
  unfolding event_turn
  event_keeps t task f i op number words set w there first free h =
      let answers : Turn = if is_cancelled g task number then received_cancel g t f (InWait number words) w else by_ready g t f op number words set (ready w i set) w in
      let outside : Bool = not (nat_le (slice_index words 1 + event_size) (length (bytes_of w.store (memory_of w.store (options_at g number))))) in
      unless_keeps inv t (not (nat_eq (slice_index words 1 % event_align) 0)) trap.Misaligned w (unless t outside trap.Bounds w answers) h (λ j.
      unless_keeps inv t outside trap.Bounds w answers h (λ k.
      either_keeps inv (is_cancelled g task number) (received_cancel g t f (InWait number words) w) (by_ready g t f op number words set (ready w i set) w) (λ e. cancel_keeps inv t f (InWait number words) w (task, there, asked_is task.cancellation (right_true (flag_at g number && not (is_sync (kind_of task))) _ e)) h) (λ e. by_ready_keeps t f op number words set (ready w i set) w first free h)))

  wait_turn_keeps : (t : ℕ) (task : Task) (i : ℕ) (op : WaitOp) (number : ℕ) (words : List ℕ) (w : World) → slice_get w.tasks t ≡ Some task → IsFirst t w.chain → may_leave w ≡ true → Acted inv w → Keeps inv (wait_turn g t task i op number words w)
  unfolding wait_turn
  wait_turn_keeps t task i op number words w there first free h =
      refused_keeps inv t (set_at w i (slice_index words 0)) w _ h (λ set e. given_keeps inv (func_of task.callee) _ (λ f j. event_keeps t task f i op number words set w there first free h))

  set_drop_keeps : (t i index : ℕ) (w : World) → Acted inv w → Keeps inv (set_drop_turn t i index w)
  unfolding set_drop_turn
  set_drop_keeps t i index w h =
      refused_keeps inv t (set_at w i index) w _ h (λ set e.
      refused_keeps inv t (renamed set_name (drop_answer (view_of_set w i index set))) w (λ done. replied t [] (entry_removed i index w)) h (λ done f.
      on_keeps inv t [] (entry_removed i index w)
      (stay inv (RemovesEntry i index) w tt (OfSet set, set_stands w i index set e, (set_empty (view_of_set w i index set) done (renamed_ok set_name (drop_answer (view_of_set w i index set)) done f), tt)) h)))

  joins_keeps : (t i index other : ℕ) (w : World) → Stands w i index IsWaitable → Acted inv w → Keeps inv (joins t i index other w)
  unfolding joins
  joins_keeps t i index zero w there h = on_keeps inv t [] (left_set i index w) (stay inv (LeavesSet i index) w tt tt h)
  joins_keeps t i index (suc other) w there h =
      refused_keeps inv t (set_at w i (suc other)) w _ h (λ set e.
      on_keeps inv t [] (joined i index set w) (stay inv (JoinsSet i index set) w tt (there, (suc other, set_stands w i (suc other) set e)) h))

  join_keeps : (t i index other : ℕ) (w : World) → Acted inv w → Keeps inv (join_turn t i index other w)
  unfolding join_turn
  join_keeps t i index other w h = refused_keeps inv t (waitable_at w i index) w _ h (λ there e. joins_keeps t i index other w (waitable_stands w i index there e) h)

  new_ends_keep : (t i : ℕ) (kind : EndKind) (element : Option ValType) (w : World) → (held_borrow element ≡ true → GraphPassesBorrow g) → Acted inv w → Keeps inv (channel_new_turn t i kind element w)
  unfolding channel_new_turn ends_added
  new_ends_keep t i kind element w passes h =
      let v : World = channel_made kind element w in
      let j : Acted inv v = stay inv (MakesChannel kind element) w tt passes h in
      let readable : Entry = OfEnd (end_ref kind (length (channels kind w) + 1) Reader) in
      let writable : Entry = OfEnd (end_ref kind (length (channels kind w) + 1) Writer) in
      let both : ℕ → World → Turn = λ first u. with_entry t i writable u (λ second x. replied t (both_indices first second ∷ []) x) in
      entry_keeps inv t i readable v both j (λ few.
      let u : World = entry_added i readable v in
      let k : Acted inv u = stay inv (AddsEntry i readable) v tt (few, tt, inl refl, tt, λ none. reader_is_fresh kind element w (inv.readers [] w h.0) none) j in
      entry_keeps inv t i writable u (λ second x. replied t (both_indices (next_index (table_of v i)) second ∷ []) x) k (λ more.
      on_keeps inv t (both_indices (next_index (table_of v i)) (next_index (table_of u i)) ∷ []) (entry_added i writable u) (stay inv (AddsEntry i writable) u tt (more, tt, inr (new_is_made i kind element w, new_nowhere i kind element w (inv.writers [] w h.0), new_live_still i kind element w), tt, λ none. inl refl) k)))

  placed_keeps : (t : ℕ) (bytes : List ℕ) (element : Option ValType) (place size : ℕ) (w : World) (more : Turn) → Acted inv w → Keeps inv more → Keeps inv (placed_well t bytes element place size w more)
  unfolding placed_well
  placed_keeps t bytes None place size w more h keeps = keeps
  placed_keeps t bytes (Some element) place size w more h keeps =
      let outside : Bool = not (nat_le (place + size * (laid element).size) (length bytes)) in
      let askew : Bool = not (nat_eq (place % (laid element).align) 0) in
      either_keeps inv (nat_eq size 0) more (unless t askew trap.Misaligned w (unless t outside trap.Bounds w more)) (λ e. keeps)
      (λ e. unless_keeps inv t askew trap.Misaligned w (unless t outside trap.Bounds w more) h (λ f. unless_keeps inv t outside trap.Bounds w more h (λ j. keeps)))

  copy_keeps : (t i number : ℕ) (kind : EndKind) (side : Side) (element : Option ValType) (options : Options) (words : List ℕ) (size : ℕ) (w : World) → IsSome (canon_at g number)
      → (size ≤ max_length → IsSizeIn kind size) → ((x : Option ValType) → same_held x element ≡ true → IsCopyBy g kind side x number) → IsSome (task_at w t) → IsFirst t w.chain → may_leave w ≡ true → Acted inv w
      → Keeps inv (copy_turn g t i number kind side element options words size w)
  unfolding copy_turn
  copy_keeps t i number kind side element options words size w made fits by there first free h =
      let bytes : List ℕ = bytes_of w.store (memory_of w.store options) in
      let call : OpenCopy = new_copy (copy_by.Task t) number (slice_index words 1) size in
      let met : EndRef → Turn = λ e. meets g t i e call words (slice_index words 0) w in
      let placed : EndRef → Turn = λ e. placed_well t bytes element (slice_index words 1) size w (met e) in
      let long : EndRef → Turn = λ e. unless t (nat_lt max_length size) trap.TooLong w (placed e) in
      let done : EndRef → Turn = λ e. unless t (end_of w e).done trap.DoneEnd w (long e) in
      refused_keeps inv t (end_at w kind side element i (slice_index words 0)) w (λ e. unless t (is_copying (end_of w e)) trap.Busy w (done e)) h (λ e j.
      unless_keeps inv t (is_copying (end_of w e)) trap.Busy w (done e) h (λ k.
      unless_keeps inv t (end_of w e).done trap.DoneEnd w (long e) h (λ l.
      unless_keeps inv t (nat_lt max_length size) trap.TooLong w (placed e) h (λ m.
      placed_keeps t bytes element (slice_index words 1) size w (met e) h
      (meets_keeps inv t i e call words (slice_index words 0) w
      (record {
        task = t;
        canon = number;
        place = slice_index words 1;
        size = size;
        inst = i;
        index = slice_index words 0;
        is = refl;
        acts = there;
        entered = acts_entered w.tasks t (first_at w.tasks w.chain t IsActing first h.1);
        made = made;
        fits = subst (λ (k : EndKind). IsSizeIn k size) (sym (end_found w i kind side element (slice_index words 0) e j).1) (fits (no_more max_length size m));
        held = (end_found w i kind side element (slice_index words 0) e j).0;
        quiet = not_copying (end_of w e).copy k;
        not_done = l;
        copies = copies_at g w i kind side element (slice_index words 0) number e by j;
      }) first free h)))))

  copy_cancel_keeps : (t i : ℕ) (kind : EndKind) (side : Side) (element : Option ValType) (index : ℕ) (w : World) → Acted inv w → Keeps inv (copy_cancel_turn g t i kind side element index w)
  unfolding copy_cancel_turn
  copy_cancel_keeps t i kind side element index w h =
      let stale : EndRef → Bool = λ e. not (passes (is_async_copy g) (end_of w e).copy) in
      let answers : EndRef → Turn = λ e. replied t (payload_of w e ∷ []) (concluded e w) in
      refused_keeps inv t (end_at w kind side element i index) w (λ e. unless t (stale e) trap.NotCopying w (answers e)) h (λ e j.
      unless_keeps inv t (stale e) trap.NotCopying w (answers e) h (λ k. on_keeps inv t (payload_of w e ∷ []) (concluded e w) (stay inv (Concludes e) w tt tt h)))

  end_drop_keeps : (t i : ℕ) (kind : EndKind) (side : Side) (element : Option ValType) (index : ℕ) (w : World) → Acted inv w → Keeps inv (end_drop_turn t i kind side element index w)
  unfolding end_drop_turn
  end_drop_keeps t i kind side element index w h =
      let answers : EndRef → Turn = λ e. replied t [] (end_dropped e (left_set i index (entry_removed i index w))) in
      let idle : EndRef → Turn = λ e. unless t (is_unwritten kind side (end_of w e)) trap.UnwrittenFuture w (answers e) in
      refused_keeps inv t (end_at w kind side element i index) w (λ e. unless t (is_copying (end_of w e)) trap.Busy w (idle e)) h (λ e j.
      unless_keeps inv t (is_copying (end_of w e)) trap.Busy w (idle e) h (λ k.
      unless_keeps inv t (is_unwritten kind side (end_of w e)) trap.UnwrittenFuture w (answers e) h (λ l.
      on_keeps inv t [] (after (DropsEnd e) (after (RemovesWaitable i index) w)) (stay inv (DropsEnd e) (after (RemovesWaitable i index) w) tt (
        ap (λ (x : End). x.copy) (end_same w (after (RemovesWaitable i index) w) e refl refl) ∙ not_copying (end_of w e).copy k,
        (
          (λ writes. removed_nowhere i index e w (λ n other a. (inv.writers [] w h.0).once n other i index e writes a (end_found w i kind side element index e j).0)),
          (λ none. removed_nowhere i index e w (λ n other a. both_once w.insts w.streams w.futures (inv.writers [] w h.0) (inv.readers [] w h.0 none) n other i index e a (end_found w i kind side element index e j).0)),
        ),
      )
      (stay inv (RemovesWaitable i index) w tt (OfEnd e, (end_found w i kind side element index e j).0, (tt, not_copying (end_of w e).copy k, tt)) h)))))

  subtask_cancel_keeps : (t i number : ℕ) (words : List ℕ) (w : World) → IsSome (task_at w t) → IsFirst t w.chain → may_leave w ≡ true → Acted inv w → Keeps inv (subtask_cancel_turn g t i number words w)
  unfolding subtask_cancel_turn cancel_asked
  subtask_cancel_keeps t i number words w own first free h =
      let asking : ℕ → World = λ callee. in_state t (AfterCancel callee number words) w in
      let asks : ℕ → Task → Turn = λ callee task. cancel_asked g callee task (asking callee) in
      let unasked : ℕ → Task → Turn = λ callee task. unless t (not (is_unasked task.cancellation)) trap.Asked w (asks callee task) in
      let untold : ℕ → Task → Subtask → Turn = λ callee task subtask. unless t (is_over subtask.told) trap.Delivered w (unasked callee task) in
      refused_keeps inv t (subtask_at w i (slice_index words 0)) w (λ callee. with_subtask_of w callee (λ task subtask. untold callee task subtask)) h (λ callee e.
      with_keeps inv w callee (λ task subtask. untold callee task subtask) (λ task subtask there guest.
      unless_keeps inv t (is_over subtask.told) trap.Delivered w (unasked callee task) h (λ j.
      unless_keeps inv t (not (is_unasked task.cancellation)) trap.Asked w (asks callee task) h (λ k.
      let v : World = asking callee in
      let l : inv.Holds [] v = inv.stays [] (Cancels t callee number words) w (first, free, first_at w.tasks w.chain t IsActing first h.1, (task, there, subst (λ (o : Option Subtask). IsSome o) (sym guest) refl)) h.0 in
      either_keeps inv (has_resolved task) (silent Back v) (cancelled_turn g callee task Back v) (λ f. goes inv Back v tt l)
      (λ f.
      cancelled_keeps inv callee task Back v
      (to_cancel w t callee number words task there (first_at w.tasks w.chain t IsActing first h.1) (unresolved_is task f) (unasked_is task.cancellation (not_false (is_unasked task.cancellation) k)))
      (λ u same. tt) (inr (now_cancels w t callee number words first own)) l)))))

  subtask_drop_keeps : (t i index : ℕ) (w : World) → Acted inv w → Keeps inv (subtask_drop_turn t i index w)
  unfolding subtask_drop_turn
  subtask_drop_keeps t i index w h =
      let answers : Turn = replied t [] (left_set i index (entry_removed i index w)) in
      let over : Task → Subtask → Turn = λ task subtask. unless t (not (is_over subtask.told)) trap.NotDelivered w answers in
      refused_keeps inv t (subtask_at w i index) w (λ callee. with_subtask_of w callee over) h (λ callee e. with_keeps inv w callee over (λ task subtask there guest.
      unless_keeps inv t (not (is_over subtask.told)) trap.NotDelivered w answers h (λ j.
      on_keeps inv t [] (after (RemovesWaitable i index) w) (stay inv (RemovesWaitable i index) w tt (subtask_taken w i index callee e (task, there, (subtask, guest, not_false (is_over subtask.told) j))) h))))

  pressure_keeps : (t i pressure : ℕ) (w : World) → (pressure ≤ most_backpressure) ⊎ (pressure ≤ backpressure_of w i) → Acted inv w → Keeps inv (replied t [] (after (HasBackpressure i pressure) w))
  pressure_keeps t i pressure w few h = on_keeps inv t [] (after (HasBackpressure i pressure) w) (stay inv (HasBackpressure i pressure) w tt few h)

  resource_keeps : (t i number : ℕ) (op : ResourceOp) (resource : ℕ) (words : List ℕ) (w : World) → IsKind g number (builtin.Resource op resource) → IsSome (task_at w t) → IsFirst t w.chain → may_leave w ≡ true → Acted inv w → Keeps inv (resource_turn g t i number op resource words w)
  unfolding resource_turn
  resource_keeps t i number resource_op.New resource words w by there first free h = new_handle_keeps t i resource (slice_index words 0) w h
  resource_keeps t i number resource_op.Drop resource words w by there first free h = drop_keeps t i number resource words w (dropper g number resource by) there first free h
  resource_keeps t i number resource_op.Rep resource words w by there first free h = tt

  plain_keeps : (t : ℕ) (task : Task) (i number : ℕ) (op : PlainBuiltin) (words : List ℕ) (w : World) → slice_get w.tasks t ≡ Some task → IsFirst t w.chain → may_leave w ≡ true → Acted inv w → Keeps inv (plain_turn g t task i number op words w)
  unfolding plain_turn pressure_set_turn pressure_inc_turn pressure_dec_turn
  plain_keeps t task i number plain.TaskCancel words w there first free h = task_cancel_keeps t task w there first h
  plain_keeps t task i number plain.BackpressureSet words w there first free h = pressure_keeps t i (set_pressure (slice_index words 0)) w (inl (set_few (slice_index words 0))) h
  plain_keeps t task i number plain.BackpressureInc words w there first free h =
      unless_keeps inv t (nat_le most_backpressure (backpressure_of w i)) trap.PressureLimit w (replied t [] (after (HasBackpressure i (backpressure_of w i + 1)) w)) h (λ e. pressure_keeps t i (backpressure_of w i + 1) w (inl (inc_few (backpressure_of w i) e)) h)
  plain_keeps t task i number plain.BackpressureDec words w there first free h =
      unless_keeps inv t (nat_eq (backpressure_of w i) 0) trap.PressureZero w (replied t [] (after (HasBackpressure i (backpressure_of w i - 1)) w)) h (λ e. pressure_keeps t i (backpressure_of w i - 1) w (inr (dec_few (backpressure_of w i))) h)
  plain_keeps t task i number (plain.SubtaskCancel is_async) words w there first free h = subtask_cancel_keeps t i number words w (is_there w.tasks t task there) first free h
  plain_keeps t task i number plain.SubtaskDrop words w there first free h = subtask_drop_keeps t i (slice_index words 0) w h
  plain_keeps t task i number (plain.Yield cancellable) words w there first free h = yield_keeps t task number cancellable words w there first free h
  plain_keeps t task i number plain.WaitableSetNew words w there first free h = new_set_keeps t i w h
  plain_keeps t task i number plain.WaitableSetDrop words w there first free h = set_drop_keeps t i (slice_index words 0) w h
  plain_keeps t task i number plain.WaitableJoin words w there first free h = join_keeps t i (slice_index words 0) (slice_index words 1) w h

  ends_keep : (t i number : ℕ) (kind : EndKind) (element : Option ValType) (op : EndOp) (words : List ℕ) (w : World) → (held_borrow element ≡ true → GraphPassesBorrow g) → IsSome (canon_at g number) → IsKind g number (builtin.End kind element op) → IsSome (task_at w t) → IsFirst t w.chain → may_leave w ≡ true → Acted inv w → Keeps inv (end_turn g t i number kind element op words w)
  unfolding end_turn
  ends_keep t i number kind element end_op.New words w passes made is there first free h = new_ends_keep t i kind element w passes h
  ends_keep t i number kind element (end_op.Copy side options) words w passes made is there first free h = copy_keeps t i number kind (side_of side) element options words (copy_size kind words) w made (size_fits kind words) (copy_is g number kind element side options is) there first free h
  ends_keep t i number kind element (end_op.Cancel side is_async) words w passes made is there first free h = copy_cancel_keeps t i kind (side_of side) element (slice_index words 0) w h
  ends_keep t i number kind element (end_op.Drop side) words w passes made is there first free h = end_drop_keeps t i kind (side_of side) element (slice_index words 0) w h

  builtin_keeps : (t : ℕ) (task : Task) (i number : ℕ) (b : BuiltinKind) (words : List ℕ) (w : World) → (held_borrow (passed_value b) ≡ true → GraphPassesBorrow g) → IsSome (canon_at g number) → IsKind g number b → slice_get w.tasks t ≡ Some task → IsFirst t w.chain → may_leave w ≡ true → Acted inv w → Keeps inv (builtin_turn g t task i number b words w)
  unfolding builtin_turn
  builtin_keeps t task i number (builtin.Resource op resource) words w returns made is there first free h = resource_keeps t i number op resource words w is (is_there w.tasks t task there) first free h
  builtin_keeps t task i number (builtin.TaskReturn result options) words w returns made is there first free h = return_keeps t task i result options words w returns (acts_like t task w first there (inv.entered [] w h.0)) h
  builtin_keeps t task i number (builtin.Plain op) words w returns made is there first free h = plain_keeps t task i number op words w there first free h
  builtin_keeps t task i number (builtin.Context op slot) words w returns made is there first free h = tt
  builtin_keeps t task i number (builtin.Wait op cancellable memory) words w returns made is there first free h = wait_turn_keeps t task i op number words w there first free h
  builtin_keeps t task i number (builtin.End of_what element op) words w returns made is there first free h = ends_keep t i number of_what element op words w returns made is (is_there w.tasks t task there) first free h

  reply_keeps : (t : ℕ) (task : Task) (number : ℕ) (c : CanonFunc) (words : List ℕ) (w : World) → (held_borrow (passed_type c) ≡ true → GraphPassesBorrow g) → canon_at g number ≡ Some c → IsSome (canon_at g number) → slice_get w.tasks t ≡ Some task → IsFirst t w.chain → may_leave w ≡ true → Acted inv w → Keeps inv (reply g t task number c words w)
  unfolding reply
  reply_keeps t task number (canon.Lower l) words w returns is made there first free h = call_keeps inv t number words (Func (lifted_of l)) (lifted_of l) words w refl (λ b. returns (subst (λ (x : Lifted). held_borrow x.func_type.result ≡ true) (sym (some_same b.1)) b.2)) (inr (number, l, is, refl)) (canon.Lower l, is, refl) (is_there w.tasks t task there) first free h
  reply_keeps t task number (canon.Builtin b) words w returns is made there first free h = builtin_keeps t task b.instance number b.kind words w returns made (b, is, refl) there first free h

  exempted_keeps : (t : ℕ) (r : Result Answers TrapName) (w : World) → ((answer : Answers) → r ≡ Ok answer → Acted inv answer.world) → Acted inv w → Keeps inv (exempt_turn t r w)
  unfolding exempt_turn
  exempted_keeps t (Err why) w keeps h = goes_on inv (Doomed t why) w tt h
  exempted_keeps t (Ok answer) w keeps h = on_keeps inv t answer.words answer.world (keeps answer refl)

  pub calling_keeps : (number : ℕ) (words : List ℕ) (w : World) → Acted inv w → Keeps inv (calling_turn g number words w)
  unfolding calling_turn allowed
  calling_keeps number words w h =
      given_keeps inv (acting w) _ (λ a e. given_keeps inv (canon_at g number) _ (λ c i.
      behind_keeps inv (line.Do a.0 (builtin_of c) words ∷ []) (allowed g a.0 a.1 number c words (exempt_of a.0 words c) w) refl (by a e c i (exempt_of a.0 words c) refl)))
    where
      by : (a : ℕ × Task) → acting w ≡ Some a → (c : CanonFunc) → canon_at g number ≡ Some c → (o : Option Exempt) → exempt_of a.0 words c ≡ o → Keeps inv (allowed g a.0 a.1 number c words o w)
      by a e c i (Some exempt) f =
          exempted_keeps a.0 (exempt w) w (λ answer j. exempt_keeps (Acted inv) (λ t slot word v k. stay inv (HasWord t slot word) v tt tt k) a.0 words c exempt f w answer j h) h
      by a e c i None f =
          either_keeps inv (may_leave w) _ _
          (λ j. reply_keeps a.0 a.1 number c words w (λ b. inl (number, c, i, b)) i (subst (λ (o : Option CanonFunc). IsSome o) (sym i) refl) (acting_is w a e) (acting_first w a e) j h)
          (λ j. goes_on inv (Doomed a.0 trap.CannotLeave) w tt h)
