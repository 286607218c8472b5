-- The answers of built-ins keep the order of tasks.
use Rattle.std.proofs.Common.{◌≡◌, ◌≤◌, ◌⊎◌, inl, inr, ℕ, zero, suc, ◌+◌, ◌-◌, ◌*◌, ◌%◌, ◌&&◌, Bool, true, not, nat_eq, nat_lt, nat_le, List, [], ◌∷◌, length, refl, sym, ap, ◌∙◌, subst, Option, Some, None, Result, Ok, Err, if◌then◌else◌}
use Rattle.std.specs.Prelude.{IsSome, slice_index}
use Rattle.std.specs.List.{slice_get}
use Rattle.wasm_store.specs.Store.{found_at}
use Rattle.laid_types.specs.Layout.{laid}
use Rattle.syntax_trees.specs.declared.types.ValType.{ValType}
use Rattle.builtin_kinds.specs.declared.EndKind.{EndKind}
use Rattle.builtin_kinds.specs.declared.PlainBuiltin.{PlainBuiltin}
use Rattle.builtin_kinds.specs.declared.PlainBuiltin.TheVariants as plain
use Rattle.builtin_kinds.specs.declared.ResourceOp.{ResourceOp}
use Rattle.builtin_kinds.specs.declared.ResourceOp.TheVariants as resource_op
use Rattle.builtin_kinds.specs.declared.WaitOp.{WaitOp}
use Rattle.builtin_kinds.specs.declared.WaitOp.TheVariants as wait_op
use Rattle.handle_table.specs.History.{next_index}
use Rattle.res_handles.specs.declared.handle.Handle.{Handle}
use Rattle.res_handles.specs.declared.handle.Ownership.{Ownership}
use Rattle.res_handles.specs.declared.handle.Ownership.TheVariants.{Own, Borrow}
use Rattle.res_handles.specs.Refusals.{dropped_in}
use Rattle.entry_gate.specs.Gates.{set_pressure}
use Rattle.tasks.specs.declared.phase.Resolution.TheVariants.{Cancelled}
use Rattle.tasks.specs.Subtasks.{is_over}
use Rattle.tasks.specs.Tasks.{is_unasked, asking_fault, cancel_fault, is_asked}
use Rattle.stream_ends.specs.declared.side.Side.{Side}
use Rattle.stream_ends.specs.declared.side.Side.TheVariants.{Reader, Writer}
use Rattle.stream_ends.specs.declared.open_copy.By.TheVariants as copy_by
use Rattle.stream_ends.specs.declared.open_copy.OpenCopy.{OpenCopy}
use Rattle.stream_ends.specs.Ends.{is_copying, new_copy}
use Rattle.comp_graph.specs.declared.graph.FuncRef.{FuncRef}
use Rattle.comp_graph.specs.declared.graph.Options.{Options}
use Rattle.comp_graph.specs.declared.graph.Resource.{Resource}
use Rattle.comp_graph.specs.declared.graph.CanonFunc.{CanonFunc}
use Rattle.comp_graph.specs.declared.graph.CanonFunc.TheVariants as canon
use Rattle.comp_graph.specs.declared.graph.BuiltinKind.{BuiltinKind}
use Rattle.comp_graph.specs.declared.graph.BuiltinKind.TheVariants as builtin
use Rattle.comp_graph.specs.declared.graph.EndOp.{EndOp}
use Rattle.comp_graph.specs.declared.graph.EndOp.TheVariants as end_op
use Rattle.comp_graph.specs.Graph.{Graph, Lifted}
use Rattle.script_reader.specs.Script.{Script}
use Rattle.trace_labels.specs.declared.label.Label.TheVariants as line
use Rattle.trace_labels.specs.declared.label.BlockReason.TheVariants as reason
use Rattle.trace_labels.specs.declared.trap.TrapName.{TrapName}
use Rattle.trace_labels.specs.declared.trap.TrapName.TheVariants as trap
use Rattle.abi_machine.specs.Traps.{task_name, renamed, refusal_name, set_name}
use Rattle.abi_machine.specs.Control.{EndRef, Replies, InWait, Back, Doomed}
use Rattle.abi_machine.specs.World.{Entry, OwnHandle, OfSet, OfEnd, Func, Subtask, ForYield, ForSet, TaskState, New, Acting, AfterCall, AfterCancel, Begins, WaitsToEnter, InLoop, InBuiltin, Exited, Task, World}
use Rattle.abi_machine.specs.Edits.{entry_added, entry_removed, left_set, in_state, resolved, joined, concluded, end_dropped, set_made, channel_made}
use Rattle.abi_machine.specs.Canons.{func_address, memory_of, bytes_of, canon_at, options_at, builtin_of, lifted_of, resource_at}
use Rattle.abi_machine.specs.Reading.{table_of, sets_in, backpressure_of, acting, func_of, is_reentrant, may_leave, channels}
use Rattle.abi_machine.specs.Counting.{passes, view_at, task_view, has_resolved, end_of, payload_of, ready}
use Rattle.abi_machine.specs.Finding.{subtask_at, set_at, waitable_at, end_at}
use Rattle.abi_machine.specs.Turn.{Turn, silent, unless, replied, blocked, with_entry}
use Rattle.abi_machine.specs.Returning.{result_passed, resolves}
use Rattle.abi_machine.specs.Calling.{with_subtask_of}
use Rattle.abi_machine.specs.Delivering.{received_cancel, yield_cancelled}
use Rattle.abi_machine.specs.Cancelling.{cancelled_turn}
use Rattle.abi_machine.specs.Copying.{meets}
use Rattle.abi_machine.specs.replies.Context.{Exempt, Answers, exempt_of}
use Rattle.abi_machine.specs.replies.Resources.{resource_new_turn, destroyed_here, destroyed, dropped, resource_drop_turn}
use Rattle.abi_machine.specs.SameTypes.{same_held}
use Rattle.comp_graph.specs.Needs.{flat_param_limit}
use Rattle.waitables.specs.Sets.{drop_answer}
use Rattle.abi_machine.specs.replies.Tasks.{same_address, return_checked, return_turn, task_cancel_turn, yield_turn}
use Rattle.abi_machine.specs.replies.Subtasks.{cancel_asked, subtask_cancel_turn, subtask_drop_turn}
use Rattle.abi_machine.specs.replies.Pressure.{most_backpressure, pressure_inc_turn, pressure_dec_turn, pressure_set_turn}
use Rattle.abi_machine.specs.replies.Waiting.{set_new_turn, none_ready, by_ready, event_size, event_align, is_cancelled, event_turn, wait_turn, view_of_set, set_drop_turn, joins, join_turn}
use Rattle.abi_machine.specs.replies.Streams.{end_ref, both_indices, ends_added, channel_new_turn, placed_well, max_length, copy_turn, is_async_copy, copy_cancel_turn, is_unwritten, end_drop_turn}
use Rattle.abi_machine.specs.Reply.{resource_turn, plain_turn, side_of, copy_size, end_turn, builtin_turn, reply, exempt_turn, allowed, calling_turn}
use Rattle.abi_machine.specs.sound.Changes.{AddsEntry, MakesSet, RemovesEntry, RemovesWaitable, LeavesSet, JoinsSet, HasBackpressure, Cancels, Resolves as IsResolved, HasWord, MakesChannel, Concludes, DropsEnd, after, IsWaitable, Stands}
use Rattle.abi_machine.specs.sound.Initial.{StartsNothing}
use Rattle.abi_machine.specs.sound.Acting.{Outline, outlines_of, HasStacks, WaitsWith, IsActing, RunsIn, IsRunning, IsCalling, OneActs}
use Rattle.abi_machine.proofs.sound.Lifted.{result_keeps}
use Rattle.abi_machine.proofs.sound.Found.{some_same, renamed_ok, dropped_free, left_where_free, waitable_stands, end_stands, subtask_stands, set_stands, set_empty, set_few, inc_few, dec_few}
use Rattle.abi_machine.proofs.sound.Alone.{Alone, free_left}
use Rattle.abi_machine.proofs.sound.Outlines.{outline_back, Is, as_is, state_first, acting_waits}
use Rattle.abi_machine.proofs.sound.Standing.{steady}
use Rattle.abi_machine.proofs.sound.acts.Keeping.{Order, acts_at, Keeps, Held, still, given_keeps, behind_keeps, either_keeps, goes, refused_keeps, unless_keeps, fault_keeps, runs_keeps, on_keeps, blocked_keeps, entry_keeps, acting_stack_keeps, removes, waits, lends}
use Rattle.abi_machine.proofs.sound.acts.Moving.{resolves_keeps}
use Rattle.abi_machine.proofs.sound.acts.Waking.{call_keeps, with_keeps, none_keeps, cancel_keeps, yielded_keeps, acting_cancelled_keeps}
use Rattle.abi_machine.proofs.sound.acts.Nesting.{meets_keeps, exempt_leaves}

-- Where the instance may be left no start function runs.
begins_nothing : (w : World) (t n : ℕ) (task : Task) → Alone w → may_leave w ≡ true → slice_get w.tasks t ≡ Some task → task.state ≡ Begins n → ⊥
begins_nothing w zero n task alone free there begins =
    let same : alone.init ≡ task = some_same (sym alone.there ∙ there) in
    exited n (sym begins ∙ (ap (λ (x : Task). x.state) (sym same) ∙ free_left w.tasks alone.init alone.there free))
  where
    exited : (m : ℕ) → Begins m ≡ Exited → ⊥
    exited m e = cc
begins_nothing w (suc t) n task alone free there begins = subst StartsNothing begins (alone.others t task there)

runs_acting : (state : TaskState) (o : Outline) → o.state ≡ state → RunsIn state o.callee → HasStacks true o.stacks → ((n : ℕ) → state ≡ Begins n → ⊥) → IsActing true o
runs_acting Acting o same r stacks never = (r, same, stacks)
runs_acting (Begins n) o same r stacks never = absurd (never n refl)
runs_acting New o same r stacks never = absurd r
runs_acting (AfterCall callee number words) o same r stacks never = absurd r
runs_acting (AfterCancel callee number words) o same r stacks never = absurd r
runs_acting WaitsToEnter o same r stacks never = absurd r
runs_acting (InLoop word) o same r stacks never = absurd r
runs_acting (InBuiltin number words wait) o same r stacks never = absurd r
runs_acting Exited o same r stacks never = absurd r

pub acts_free : (w : World) (t : ℕ) → Alone w → may_leave w ≡ true → Is IsRunning t w → Is (IsActing true) t w
acts_free w t alone free r =
    let x = outline_back w.tasks t r.1.0 r.1.1 in (
      r.0,
      (r.1.0, r.1.1, runs_acting r.1.0.state r.1.0 refl r.1.2.0 r.1.2.1 (λ n begins. begins_nothing w t n x.0 alone free x.1 (ap (λ (o : Outline). o.state) x.2 ∙ begins))),
    )

module _ {g : Graph} {s : Script} (ord : Order g s) where
  -- Built-ins.

  new_handle_keeps : (t i resource rep : ℕ) (w : World) → Held ord true t w → Keeps ord (resource_new_turn t i resource rep w)
  unfolding resource_new_turn
  new_handle_keeps t i resource rep w h =
      entry_keeps ord t i (OwnHandle resource rep) w (λ index v. replied t (index ∷ []) v) (h.0, h.1.0) (λ few.
      on_keeps ord t (next_index (table_of w i) ∷ []) (entry_added i (OwnHandle resource rep) w) (still ord true t (AddsEntry i (OwnHandle resource rep)) w (few, tt) tt tt h))

  destroyed_keeps : (t i number : ℕ) (words : List ℕ) (resource : ℕ) (r : Resource) (destructor : Option FuncRef) (rep : ℕ) (w : World) → IsSome (canon_at g number) → may_leave w ≡ true → Held ord true t w
      → Keeps ord (destroyed t i number words resource r destructor rep w)
  unfolding destroyed destroyed_here
  destroyed_keeps t i number words resource r None rep w known free h =
      unless_keeps ord t (not (nat_eq r.instance i) && is_reentrant w r.instance t) trap.Reentrant w (replied t [] w) (h.0, h.1.0) (λ e. on_keeps ord t [] w h)
  destroyed_keeps t i number words resource r (Some ref) rep w known free h =
      either_keeps ord (nat_eq r.instance i) _ _ (λ e. given_keeps ord (found_at w.store.funcs (func_address w.store ref)) _ (λ function j. acting_stack_keeps ord true t _ w h))
      (λ e. call_keeps ord t number words _ _ (rep ∷ []) w refl known free h)

  dropped_keeps : (t i number : ℕ) (words : List ℕ) (x : Handle) (o : Ownership) (w : World) → IsSome (canon_at g number) → may_leave w ≡ true → Held ord true t w → Keeps ord (dropped g t i number words x o w)
  unfolding dropped
  dropped_keeps t i number words x (Borrow task) w known free h = on_keeps ord t [] w h
  dropped_keeps t i number words x Own w known free h = given_keeps ord (resource_at g x.resource) _ (λ r e. destroyed_keeps t i number words x.resource r r.destructor x.rep w known free h)

  drop_keeps : (t i number resource : ℕ) (words : List ℕ) (w : World) → IsSome (canon_at g number) → may_leave w ≡ true → Held ord true t w → Keeps ord (resource_drop_turn g t i number resource words w)
  unfolding resource_drop_turn
  drop_keeps t i number resource words w known free h =
      let answer : Result Handle TrapName = renamed refusal_name (dropped_in (view_at w i (slice_index words 0)) resource) in
      refused_keeps ord t answer w (λ x. dropped g t i number words x x.ownership (entry_removed i (slice_index words 0) w)) (h.0, h.1.0) (λ x e.
      dropped_keeps t i number words x x.ownership (entry_removed i (slice_index words 0) w) known free
      (still ord true t (RemovesEntry i (slice_index words 0)) w (left_where_free w i (slice_index words 0) (dropped_free w i (slice_index words 0) resource x (renamed_ok refusal_name (dropped_in (view_at w i (slice_index words 0)) resource) x e))) tt tt h))

  return_keeps : (t : ℕ) (task : Task) (i : ℕ) (result : Option ValType) (options : Options) (words : List ℕ) (w : World) → Held ord true t w → Keeps ord (return_turn g t task i result options words w)
  unfolding return_turn return_checked
  return_keeps t task i result options words w h =
      let answers : Turn = resolves g t task Replies (result_passed i t flat_param_limit result options words w) in
      let apart : Lifted → Bool = λ f. not (same_address (memory_of w.store options) (memory_of w.store f.options)) in
      fault_keeps ord t task_name (asking_fault (task_view g w t task)) w _ (h.0, h.1.0) (given_keeps ord (func_of task.callee) _ (λ f e.
      unless_keeps ord t (not (same_held result f.func_type.result)) trap.WrongResult w (unless t (apart f) trap.WrongOptions w answers) (h.0, h.1.0) (λ j.
      unless_keeps ord t (apart f) trap.WrongOptions w answers (h.0, h.1.0) (λ k.
      resolves_keeps ord t task Replies _ (result_keeps i t (Held ord true t) (Unit {0}) (removes ord true t) (waits ord true t) (lends ord true t i t) _ result (λ b. tt) options words w h)))))

  task_cancel_keeps : (t : ℕ) (task : Task) (w : World) → Held ord true t w → Keeps ord (task_cancel_turn g t task w)
  unfolding task_cancel_turn
  task_cancel_keeps t task w h =
      fault_keeps ord t task_name (cancel_fault (task_view g w t task)) w _ (h.0, h.1.0) (on_keeps ord t [] (resolved t Cancelled w) (still ord true t (IsResolved t Cancelled) w tt tt tt h))

  yield_keeps : (t : ℕ) (task : Task) (number : ℕ) (cancellable : Bool) (words : List ℕ) (w : World) → may_leave w ≡ true → Held ord true t w → Keeps ord (yield_turn t task number cancellable words w)
  unfolding yield_turn
  yield_keeps t task number cancellable words w free h =
      either_keeps ord (cancellable && is_asked task.cancellation) (yield_cancelled t w) (blocked t (InBuiltin number words ForYield) reason.Yield w) (λ e. yielded_keeps ord t w h)
      (λ e. blocked_keeps ord t (InBuiltin number words ForYield) reason.Yield w h.1.0 tt (inl free) tt (as_is (IsActing true) (WaitsWith true) t w (acting_waits true) h.1) h.0)

  new_set_keeps : (t i : ℕ) (w : World) → Held ord true t w → Keeps ord (set_new_turn t i w)
  unfolding set_new_turn
  new_set_keeps t i w h =
      let set : ℕ = length (sets_in (slice_get w.insts i)) in
      entry_keeps ord t i (OfSet set) w (λ index v. replied t (index ∷ []) (set_made i v)) (h.0, h.1.0) (λ few.
      on_keeps ord t (next_index (table_of w i) ∷ []) (set_made i (entry_added i (OfSet set) w)) (still ord true t (MakesSet i set) w (few, refl) tt tt h))

  none_ready_keeps : (t : ℕ) (f : Lifted) (op : WaitOp) (number : ℕ) (words : List ℕ) (w : World) → may_leave w ≡ true → Held ord true t w → Keeps ord (none_ready g t f op number words w)
  unfolding none_ready
  none_ready_keeps t f wait_op.Poll number words w free h = none_keeps ord t f (InWait number words) w h
  none_ready_keeps t f wait_op.Wait number words w free h =
      blocked_keeps ord t (InBuiltin number words (ForSet (slice_index words 0))) (reason.Wait (slice_index words 0)) w h.1.0 tt (inl free) tt (as_is (IsActing true) (WaitsWith true) t w (acting_waits true) h.1) h.0

  by_ready_keeps : (t : ℕ) (f : Lifted) (op : WaitOp) (number : ℕ) (words : List ℕ) (set : ℕ) (members : List ℕ) (w : World) → may_leave w ≡ true → Held ord true t w → Keeps ord (by_ready g t f op number words set members w)
  unfolding by_ready
  by_ready_keeps t f op number words set [] w free h = none_ready_keeps t f op number words w free h
  by_ready_keeps t f op number words set (index ∷ members) w free h = (goes ord _ w h.0, (t, h.1))

  event_keeps : (t : ℕ) (task : Task) (f : Lifted) (i : ℕ) (op : WaitOp) (number : ℕ) (words : List ℕ) (set : ℕ) (w : World) → may_leave w ≡ true → Held ord true t w → Keeps ord (event_turn g t task f i op number words set w)
  unfolding event_turn
  event_keeps t task f i op number words set w free h =
      let answers : Turn = if is_cancelled g task number then received_cancel g t f (InWait number words) w else by_ready g t f op number words set (ready w i set) w in
      let outside : Bool = not (nat_le (slice_index words 1 + event_size) (length (bytes_of w.store (memory_of w.store (options_at g number))))) in
      unless_keeps ord t (not (nat_eq (slice_index words 1 % event_align) 0)) trap.Misaligned w (unless t outside trap.Bounds w answers) (h.0, h.1.0) (λ j.
      unless_keeps ord t outside trap.Bounds w answers (h.0, h.1.0) (λ k.
      either_keeps ord (is_cancelled g task number) (received_cancel g t f (InWait number words) w) (by_ready g t f op number words set (ready w i set) w) (λ e. cancel_keeps ord t f (InWait number words) w h) (λ e. by_ready_keeps t f op number words set (ready w i set) w free h)))

  wait_turn_keeps : (t : ℕ) (task : Task) (i : ℕ) (op : WaitOp) (number : ℕ) (words : List ℕ) (w : World) → may_leave w ≡ true → Held ord true t w → Keeps ord (wait_turn g t task i op number words w)
  unfolding wait_turn
  wait_turn_keeps t task i op number words w free h =
      refused_keeps ord t (set_at w i (slice_index words 0)) w _ (h.0, h.1.0) (λ set e. given_keeps ord (func_of task.callee) _ (λ f j. event_keeps t task f i op number words set w free h))

  set_drop_keeps : (t i index : ℕ) (w : World) → Held ord true t w → Keeps ord (set_drop_turn t i index w)
  unfolding set_drop_turn
  set_drop_keeps t i index w h =
      refused_keeps ord t (set_at w i index) w _ (h.0, h.1.0) (λ set e.
      refused_keeps ord t (renamed set_name (drop_answer (view_of_set w i index set))) w (λ done. replied t [] (entry_removed i index w)) (h.0, h.1.0) (λ done f.
      on_keeps ord t [] (entry_removed i index w)
      (still ord true t (RemovesEntry i index) w (OfSet set, set_stands w i index set e, set_empty (view_of_set w i index set) done (renamed_ok set_name (drop_answer (view_of_set w i index set)) done f)) tt tt h)))

  joins_keeps : (t i index other : ℕ) (w : World) → Stands w i index IsWaitable → Held ord true t w → Keeps ord (joins t i index other w)
  unfolding joins
  joins_keeps t i index zero w there h = on_keeps ord t [] (left_set i index w) (still ord true t (LeavesSet i index) w tt tt tt h)
  joins_keeps t i index (suc other) w there h =
      refused_keeps ord t (set_at w i (suc other)) w _ (h.0, h.1.0) (λ set e.
      on_keeps ord t [] (joined i index set w) (still ord true t (JoinsSet i index set) w (there, (suc other, set_stands w i (suc other) set e)) tt tt h))

  join_keeps : (t i index other : ℕ) (w : World) → Held ord true t w → Keeps ord (join_turn t i index other w)
  unfolding join_turn
  join_keeps t i index other w h = refused_keeps ord t (waitable_at w i index) w _ (h.0, h.1.0) (λ there e. joins_keeps t i index other w (waitable_stands w i index there e) h)

  new_ends_keep : (t i : ℕ) (kind : EndKind) (element : Option ValType) (w : World) → Held ord true t w → Keeps ord (channel_new_turn t i kind element w)
  unfolding channel_new_turn ends_added
  new_ends_keep t i kind element w h =
      let v : World = channel_made kind element w in
      let j : Held ord true t v = still ord true t (MakesChannel kind element) w tt tt tt h in
      let readable : Entry = OfEnd (end_ref kind (length (channels kind w) + 1) Reader) in
      let writable : Entry = OfEnd (end_ref kind (length (channels kind w) + 1) Writer) in
      let both : ℕ → World → Turn = λ first u. with_entry t i writable u (λ second x. replied t (both_indices first second ∷ []) x) in
      entry_keeps ord t i readable v both (j.0, j.1.0) (λ few.
      let u : World = entry_added i readable v in
      let k : Held ord true t u = still ord true t (AddsEntry i readable) v (few, tt) tt tt j in
      entry_keeps ord t i writable u (λ second x. replied t (both_indices (next_index (table_of v i)) second ∷ []) x) (k.0, k.1.0) (λ more.
      on_keeps ord t (both_indices (next_index (table_of v i)) (next_index (table_of u i)) ∷ []) (entry_added i writable u) (still ord true t (AddsEntry i writable) u (more, tt) tt tt k)))

  placed_keeps : (t : ℕ) (bytes : List ℕ) (element : Option ValType) (place size : ℕ) (w : World) (more : Turn) → Held ord true t w → Keeps ord more → Keeps ord (placed_well t bytes element place size w more)
  unfolding placed_well
  placed_keeps t bytes None place size w more h keeps = keeps
  placed_keeps t bytes (Some element) place size w more h keeps =
      let outside : Bool = not (nat_le (place + size * (laid element).size) (length bytes)) in
      let askew : Bool = not (nat_eq (place % (laid element).align) 0) in
      either_keeps ord (nat_eq size 0) more (unless t askew trap.Misaligned w (unless t outside trap.Bounds w more)) (λ e. keeps)
      (λ e. unless_keeps ord t askew trap.Misaligned w (unless t outside trap.Bounds w more) (h.0, h.1.0) (λ f. unless_keeps ord t outside trap.Bounds w more (h.0, h.1.0) (λ j. keeps)))

  copy_keeps : (t i number : ℕ) (kind : EndKind) (side : Side) (element : Option ValType) (options : Options) (words : List ℕ) (size : ℕ) (w : World) → may_leave w ≡ true → Held ord true t w
      → Keeps ord (copy_turn g t i number kind side element options words size w)
  unfolding copy_turn
  copy_keeps t i number kind side element options words size w free h =
      let bytes : List ℕ = bytes_of w.store (memory_of w.store options) in
      let call : OpenCopy = new_copy (copy_by.Task t) number (slice_index words 1) size in
      let met : EndRef → Turn = λ e. meets g t i e call words (slice_index words 0) w in
      let placed : EndRef → Turn = λ e. placed_well t bytes element (slice_index words 1) size w (met e) in
      let long : EndRef → Turn = λ e. unless t (nat_lt max_length size) trap.TooLong w (placed e) in
      let done : EndRef → Turn = λ e. unless t (end_of w e).done trap.DoneEnd w (long e) in
      refused_keeps ord t (end_at w kind side element i (slice_index words 0)) w (λ e. unless t (is_copying (end_of w e)) trap.Busy w (done e)) (h.0, h.1.0) (λ e j.
      unless_keeps ord t (is_copying (end_of w e)) trap.Busy w (done e) (h.0, h.1.0) (λ k.
      unless_keeps ord t (end_of w e).done trap.DoneEnd w (long e) (h.0, h.1.0) (λ l.
      unless_keeps ord t (nat_lt max_length size) trap.TooLong w (placed e) (h.0, h.1.0) (λ m.
      placed_keeps t bytes element (slice_index words 1) size w (met e) h (meets_keeps ord t i e call words (slice_index words 0) w free h)))))

  copy_cancel_keeps : (t i : ℕ) (kind : EndKind) (side : Side) (element : Option ValType) (index : ℕ) (w : World) → Held ord true t w → Keeps ord (copy_cancel_turn g t i kind side element index w)
  unfolding copy_cancel_turn
  copy_cancel_keeps t i kind side element index w h =
      let stale : EndRef → Bool = λ e. not (passes (is_async_copy g) (end_of w e).copy) in
      let answers : EndRef → Turn = λ e. replied t (payload_of w e ∷ []) (concluded e w) in
      refused_keeps ord t (end_at w kind side element i index) w (λ e. unless t (stale e) trap.NotCopying w (answers e)) (h.0, h.1.0) (λ e j.
      unless_keeps ord t (stale e) trap.NotCopying w (answers e) (h.0, h.1.0) (λ k. on_keeps ord t (payload_of w e ∷ []) (concluded e w) (still ord true t (Concludes e) w tt tt tt h)))

  end_drop_keeps : (t i : ℕ) (kind : EndKind) (side : Side) (element : Option ValType) (index : ℕ) (w : World) → Held ord true t w → Keeps ord (end_drop_turn t i kind side element index w)
  unfolding end_drop_turn
  end_drop_keeps t i kind side element index w h =
      let answers : EndRef → Turn = λ e. replied t [] (end_dropped e (left_set i index (entry_removed i index w))) in
      let idle : EndRef → Turn = λ e. unless t (is_unwritten kind side (end_of w e)) trap.UnwrittenFuture w (answers e) in
      refused_keeps ord t (end_at w kind side element i index) w (λ e. unless t (is_copying (end_of w e)) trap.Busy w (idle e)) (h.0, h.1.0) (λ e j.
      unless_keeps ord t (is_copying (end_of w e)) trap.Busy w (idle e) (h.0, h.1.0) (λ k.
      unless_keeps ord t (is_unwritten kind side (end_of w e)) trap.UnwrittenFuture w (answers e) (h.0, h.1.0) (λ l.
      on_keeps ord t [] (after (DropsEnd e) (after (RemovesWaitable i index) w)) (still ord true t (DropsEnd e) (after (RemovesWaitable i index) w) tt tt tt (still ord true t (RemovesWaitable i index) w (end_stands w i kind side element index e j) tt tt h)))))

  subtask_cancel_keeps : (t i number : ℕ) (words : List ℕ) (w : World) → may_leave w ≡ true → Held ord true t w → Keeps ord (subtask_cancel_turn g t i number words w)
  unfolding subtask_cancel_turn cancel_asked
  subtask_cancel_keeps t i number words w free h =
      let asking : ℕ → World = λ callee. in_state t (AfterCancel callee number words) w in
      let asks : ℕ → Task → Turn = λ callee task. cancel_asked g callee task (asking callee) in
      let unasked : ℕ → Task → Turn = λ callee task. unless t (not (is_unasked task.cancellation)) trap.Asked w (asks callee task) in
      let untold : ℕ → Task → Subtask → Turn = λ callee task subtask. unless t (is_over subtask.told) trap.Delivered w (unasked callee task) in
      refused_keeps ord t (subtask_at w i (slice_index words 0)) w (λ callee. with_subtask_of w callee (λ task subtask. untold callee task subtask)) (h.0, h.1.0) (λ callee e.
      with_keeps ord w callee (λ task subtask. untold callee task subtask) (λ task subtask there guest.
      unless_keeps ord t (is_over subtask.told) trap.Delivered w (unasked callee task) (h.0, h.1.0) (λ j.
      unless_keeps ord t (not (is_unasked task.cancellation)) trap.Asked w (asks callee task) (h.0, h.1.0) (λ k.
      let v : World = asking callee in
      either_keeps ord (has_resolved task) (silent Back v) (cancelled_turn g callee task Back v)
      (λ f. (goes ord Back v (ord.stays (Cancels t callee number words) w (h.1.0, free) (as_is (IsActing true) (WaitsWith true) t w (acting_waits true) h.1) h.0), (t, state_first IsCalling (IsActing true) w t (AfterCancel callee number words) (λ o k. tt) h.1)))
      (λ f. acting_cancelled_keeps ord t callee number words task w free there h)))))

  subtask_drop_keeps : (t i index : ℕ) (w : World) → Held ord true t w → Keeps ord (subtask_drop_turn t i index w)
  unfolding subtask_drop_turn
  subtask_drop_keeps t i index w h =
      let answers : Turn = replied t [] (left_set i index (entry_removed i index w)) in
      let over : Task → Subtask → Turn = λ task subtask. unless t (not (is_over subtask.told)) trap.NotDelivered w answers in
      refused_keeps ord t (subtask_at w i index) w (λ callee. with_subtask_of w callee over) (h.0, h.1.0) (λ callee e. with_keeps ord w callee over (λ task subtask there guest.
      unless_keeps ord t (not (is_over subtask.told)) trap.NotDelivered w answers (h.0, h.1.0) (λ j.
      on_keeps ord t [] (after (RemovesWaitable i index) w) (still ord true t (RemovesWaitable i index) w (subtask_stands w i index callee e) tt tt h))))

  pressure_keeps : (t i pressure : ℕ) (w : World) → (pressure ≤ most_backpressure) ⊎ (pressure ≤ backpressure_of w i) → Held ord true t w → Keeps ord (replied t [] (after (HasBackpressure i pressure) w))
  pressure_keeps t i pressure w few h = on_keeps ord t [] (after (HasBackpressure i pressure) w) (still ord true t (HasBackpressure i pressure) w few tt tt h)

  resource_keeps : (t i number : ℕ) (op : ResourceOp) (resource : ℕ) (words : List ℕ) (w : World) → IsSome (canon_at g number) → may_leave w ≡ true → Held ord true t w → Keeps ord (resource_turn g t i number op resource words w)
  unfolding resource_turn
  resource_keeps t i number resource_op.New resource words w known free h = new_handle_keeps t i resource (slice_index words 0) w h
  resource_keeps t i number resource_op.Drop resource words w known free h = drop_keeps t i number resource words w known free h
  resource_keeps t i number resource_op.Rep resource words w known free h = tt

  plain_keeps : (t : ℕ) (task : Task) (i number : ℕ) (op : PlainBuiltin) (words : List ℕ) (w : World) → may_leave w ≡ true → Held ord true t w → Keeps ord (plain_turn g t task i number op words w)
  unfolding plain_turn pressure_set_turn pressure_inc_turn pressure_dec_turn
  plain_keeps t task i number plain.TaskCancel words w free h = task_cancel_keeps t task w h
  plain_keeps t task i number plain.BackpressureSet words w free h = pressure_keeps t i (set_pressure (slice_index words 0)) w (inl (set_few (slice_index words 0))) h
  plain_keeps t task i number plain.BackpressureInc words w free h =
      unless_keeps ord t (nat_le most_backpressure (backpressure_of w i)) trap.PressureLimit w (replied t [] (after (HasBackpressure i (backpressure_of w i + 1)) w)) (h.0, h.1.0) (λ e. pressure_keeps t i (backpressure_of w i + 1) w (inl (inc_few (backpressure_of w i) e)) h)
  plain_keeps t task i number plain.BackpressureDec words w free h =
      unless_keeps ord t (nat_eq (backpressure_of w i) 0) trap.PressureZero w (replied t [] (after (HasBackpressure i (backpressure_of w i - 1)) w)) (h.0, h.1.0) (λ e. pressure_keeps t i (backpressure_of w i - 1) w (inr (dec_few (backpressure_of w i))) h)
  plain_keeps t task i number (plain.SubtaskCancel is_async) words w free h = subtask_cancel_keeps t i number words w free h
  plain_keeps t task i number plain.SubtaskDrop words w free h = subtask_drop_keeps t i (slice_index words 0) w h
  plain_keeps t task i number (plain.Yield cancellable) words w free h = yield_keeps t task number cancellable words w free h
  plain_keeps t task i number plain.WaitableSetNew words w free h = new_set_keeps t i w h
  plain_keeps t task i number plain.WaitableSetDrop words w free h = set_drop_keeps t i (slice_index words 0) w h
  plain_keeps t task i number plain.WaitableJoin words w free h = join_keeps t i (slice_index words 0) (slice_index words 1) w h

  ends_keep : (t i number : ℕ) (kind : EndKind) (element : Option ValType) (op : EndOp) (words : List ℕ) (w : World) → may_leave w ≡ true → Held ord true t w → Keeps ord (end_turn g t i number kind element op words w)
  unfolding end_turn
  ends_keep t i number kind element end_op.New words w free h = new_ends_keep t i kind element w h
  ends_keep t i number kind element (end_op.Copy side options) words w free h = copy_keeps t i number kind (side_of side) element options words (copy_size kind words) w free h
  ends_keep t i number kind element (end_op.Cancel side is_async) words w free h = copy_cancel_keeps t i kind (side_of side) element (slice_index words 0) w h
  ends_keep t i number kind element (end_op.Drop side) words w free h = end_drop_keeps t i kind (side_of side) element (slice_index words 0) w h

  builtin_keeps : (t : ℕ) (task : Task) (i number : ℕ) (b : BuiltinKind) (words : List ℕ) (w : World) → IsSome (canon_at g number) → may_leave w ≡ true → Held ord true t w → Keeps ord (builtin_turn g t task i number b words w)
  unfolding builtin_turn
  builtin_keeps t task i number (builtin.Resource op resource) words w known free h = resource_keeps t i number op resource words w known free h
  builtin_keeps t task i number (builtin.TaskReturn result options) words w known free h = return_keeps t task i result options words w h
  builtin_keeps t task i number (builtin.Plain op) words w known free h = plain_keeps t task i number op words w free h
  builtin_keeps t task i number (builtin.Context op slot) words w known free h = tt
  builtin_keeps t task i number (builtin.Wait op cancellable memory) words w known free h = wait_turn_keeps t task i op number words w free h
  builtin_keeps t task i number (builtin.End of_what element op) words w known free h = ends_keep t i number of_what element op words w free h

  reply_keeps : (t : ℕ) (task : Task) (number : ℕ) (c : CanonFunc) (words : List ℕ) (w : World) → IsSome (canon_at g number) → may_leave w ≡ true → Held ord true t w → Keeps ord (reply g t task number c words w)
  unfolding reply
  reply_keeps t task number (canon.Lower l) words w known free h = call_keeps ord t number words (Func (lifted_of l)) (lifted_of l) words w refl known free h
  reply_keeps t task number (canon.Builtin b) words w known free h = builtin_keeps t task b.instance number b.kind words w known free h

  -- a task that runs, also where it may not leave the instance
  abbrev Running : ℕ → World → Type 0
  Running t w = ord.Holds w × Is IsRunning t w

  exempted_keeps : (t : ℕ) (r : Result Answers TrapName) (w : World) → ((answer : Answers) → r ≡ Ok answer → Running t answer.world) → Running t w → Keeps ord (exempt_turn t r w)
  unfolding exempt_turn
  exempted_keeps t (Err why) w keeps h = (goes ord (Doomed t why) w h.0, h.1.0)
  exempted_keeps t (Ok answer) w keeps h = (let k : Running t answer.world = keeps answer refl in runs_keeps ord t answer.words answer.world k.0 k.1)

  pub calling_keeps : (number : ℕ) (words : List ℕ) (w : World) → ord.Holds w → OneActs IsRunning (outlines_of w.tasks) w.chain → Keeps ord (calling_turn g number words w)
  unfolding calling_turn allowed
  calling_keeps number words w h o =
      given_keeps ord (acting w) _ (λ a e. given_keeps ord (canon_at g number) _ (λ c i.
      behind_keeps ord (line.Do a.0 (builtin_of c) words ∷ []) (allowed g a.0 a.1 number c words (exempt_of a.0 words c) w) (by a (acts_at IsRunning w a e o) c (subst (λ (x : Option CanonFunc). IsSome x) (sym i) refl) (exempt_of a.0 words c) refl)))
    where
      by : (a : ℕ × Task) → Is IsRunning a.0 w → (c : CanonFunc) → IsSome (canon_at g number) → (x : Option Exempt) → exempt_of a.0 words c ≡ x → Keeps ord (allowed g a.0 a.1 number c words x w)
      by a r c known (Some exempt) f =
          exempted_keeps a.0 (exempt w) w
          (λ answer j. exempt_leaves (Running a.0) (λ t slot word v k. (ord.stays (HasWord t slot word) v tt tt k.0, steady IsRunning a.0 (HasWord t slot word) v tt k.1)) a.0 words c exempt f w answer j (h, r)) (h, r)
      by a r c known None f =
          either_keeps ord (may_leave w) _ _ (λ j. reply_keeps a.0 a.1 number c words w known j (h, acts_free w a.0 (ord.alone w h) j r)) (λ j. (goes ord (Doomed a.0 trap.CannotLeave) w h, r.0))
