-- Built-ins, nested code and the scheduler keep words, and where elements of copies stand; and so does the machine.
use Rattle.std.proofs.Common.{◌≡◌, ◌<◌, ◌≤◌, ◌^◌, ◌∙◌, ℕ, Bool, zero, suc, ◌+◌, ◌-◌, ◌*◌, ◌%◌, ◌&&◌, true, false, not, nat_eq, nat_lt, nat_le, List, [], ◌∷◌, length, refl, sym, ap, subst, arith, Option, Some, None, Result, Ok, Err, if◌then◌else◌}
use Rattle.std.proofs.lemmas.Bool.Decides.{nat_tests}
use Rattle.std.specs.Prelude.{slice_index}
use Rattle.std.specs.List.{slice_get, AllByRecursion}
use Rattle.wasm_store.specs.Store.{Store, found_at}
use Rattle.wasm_store.specs.Stack.{Stack}
use Rattle.wasm_store.specs.Step.{Move, Goes as Moves, Traps}
use Rattle.wasm_store.specs.Step as core
use Rattle.wasm_store.proofs.Lists.{all_at}
use Rattle.syntax_trees.specs.declared.module_types.ValType.TheVariants.{I32}
use Rattle.wasm_numbers.specs.Types.{AreWords}
use Rattle.syntax_trees.specs.declared.types.ValType.{ValType}
use Rattle.laid_types.specs.Layout.{laid}
use Rattle.builtin_kinds.specs.declared.EndKind.{EndKind}
use Rattle.builtin_kinds.specs.declared.EndSide.{EndSide}
use Rattle.builtin_kinds.specs.declared.ResourceOp.{ResourceOp}
use Rattle.builtin_kinds.specs.declared.ResourceOp.TheVariants as resource_op
use Rattle.builtin_kinds.specs.declared.ContextOp.TheVariants as context_op
use Rattle.builtin_kinds.specs.declared.PlainBuiltin.{PlainBuiltin}
use Rattle.builtin_kinds.specs.declared.PlainBuiltin.TheVariants as plain
use Rattle.builtin_kinds.specs.declared.WaitOp.{WaitOp}
use Rattle.builtin_kinds.specs.declared.WaitOp.TheVariants as wait_op
use Rattle.handle_table.specs.History.{next_index}
use Rattle.entry_gate.specs.Gates.{set_pressure}
use Rattle.res_handles.specs.declared.handle.Handle.{Handle}
use Rattle.res_handles.specs.declared.handle.Ownership.{Ownership}
use Rattle.res_handles.specs.declared.handle.Ownership.TheVariants.{Own, Borrow}
use Rattle.res_handles.specs.Refusals.{dropped_in, handle_in, rep_of}
use Rattle.waitables.specs.Sets.{drop_answer}
use Rattle.stream_ends.specs.declared.side.Side.TheVariants.{Reader, Writer}
use Rattle.stream_ends.specs.declared.open_copy.By.TheVariants as by
use Rattle.stream_ends.specs.Ends.{is_copying, new_copy}
use Rattle.tasks.specs.Tasks.{asking_fault, cancel_fault, is_asked, is_unasked, may_cancel}
use Rattle.tasks.specs.Subtasks.{is_over}
use Rattle.tasks.specs.declared.phase.Resolution.TheVariants.{Cancelled}
use Rattle.comp_graph.specs.declared.graph.FuncRef.{FuncRef}
use Rattle.comp_graph.specs.declared.graph.Options.{Options}
use Rattle.comp_graph.specs.declared.graph.Resource.{Resource}
use Rattle.comp_graph.specs.declared.graph.EndOp.{EndOp}
use Rattle.comp_graph.specs.declared.graph.EndOp.TheVariants as end_op
use Rattle.comp_graph.specs.declared.graph.BuiltinKind.{BuiltinKind}
use Rattle.comp_graph.specs.declared.graph.BuiltinKind.TheVariants as kind
use Rattle.comp_graph.specs.declared.graph.CanonFunc.{CanonFunc}
use Rattle.comp_graph.specs.declared.graph.CanonFunc.TheVariants as canon
use Rattle.comp_graph.specs.Needs.{flat_param_limit}
use Rattle.comp_graph.specs.Graph.{Graph, Lifted, func_named, canon_type, builtin_type, copy_type}
use Rattle.script_reader.specs.declared.script.Call.{Call}
use Rattle.script_reader.specs.declared.script.Item.{Item}
use Rattle.script_reader.specs.declared.script.Item.TheVariants as item
use Rattle.script_reader.specs.Script.{Script}
use Rattle.trace_labels.specs.declared.label.Label.TheVariants as line
use Rattle.trace_labels.specs.declared.label.BlockReason.TheVariants as reason
use Rattle.trace_labels.specs.declared.trap.TrapName.{TrapName}
use Rattle.trace_labels.specs.declared.trap.TrapName.TheVariants as trap
use Rattle.abi_machine.specs.Control.{EndRef, Replies, Nested, Behind, InLowering, BeforeLeaving, HostedState, Going, AtCall, InWait, Control, Free, Chosen, Instantiates, Runs, Calls, Arrives, Lowers, Quiet, Back, Goes, Resumes, Delivers, Leaves, Doomed}
use Rattle.abi_machine.specs.World.{OwnHandle, OfSet, OfEnd, Func, Destroys, Subtask, Host, ForYield, ForSet, AfterCancel, InBuiltin, Channel, Task, World}
use Rattle.abi_machine.specs.Traps.{core_name, task_name, set_name, refusal_name, renamed}
use Rattle.abi_machine.specs.Edits.{with_store, item_taken, entry_added, entry_removed, set_made, left_set, joined, with_backpressure, chained, in_state, resolved, word_set, word_changed, channel_made, concluded, end_dropped}
use Rattle.abi_machine.specs.Canons.{func_address, memory_of, bytes_of, inst_of_canon, builtin_of, canon_at, options_at, resource_at, lifted_of, destructor_of}
use Rattle.abi_machine.specs.Reading.{table_of, sets_in, backpressure_of, channels, acting, func_of, is_reentrant, may_leave}
use Rattle.abi_machine.specs.Counting.{passes, task_view, has_resolved, end_of, payload_of, ready, view_at}
use Rattle.abi_machine.specs.SameTypes.{same_held}
use Rattle.abi_machine.specs.Finding.{subtask_at, set_at, waitable_at, end_at}
use Rattle.abi_machine.specs.Turn.{Turn, silent, doomed, unless, replied, with_entry}
use Rattle.abi_machine.specs.Cancelling.{cancelled_turn}
use Rattle.abi_machine.specs.Choosing.{chosen}
use Rattle.abi_machine.specs.Copying.{meets}
use Rattle.abi_machine.specs.Nested.{HostedTurn, On, EndsIn, TrapsBy, CallsHost, NoRule, hosted_move, hosted_next, nested_ended, answered_in_place, answered_or_refused, calls_host, hosted, nested_turn}
use Rattle.abi_machine.specs.Reply.{resource_turn, plain_turn, side_of, copy_size, end_turn, builtin_turn, reply, exempt_turn, allowed, calling_turn}
use Rattle.abi_machine.specs.Scheduling.{calls_taken, call_taken, cancel_taken, item_turn, gone, going_turn, task_of_call, Alternative, Takes, GoesOn, alternatives, alternative_turn, one_of, free_turn, chosen_turn}
use Rattle.abi_machine.specs.Next.{next_by}
use Rattle.abi_machine.specs.replies.Context.{Answers, Exempt, rep_answered, exempt_kind, exempt_of}
use Rattle.abi_machine.specs.replies.Pressure.{most_backpressure, pressure_inc_turn, pressure_dec_turn, pressure_set_turn}
use Rattle.abi_machine.specs.replies.Resources.{resource_new_turn, destroyed_here, destroyed, dropped, resource_drop_turn}
use Rattle.abi_machine.specs.replies.Streams.{both_indices, end_ref, max_length, is_async_copy, is_unwritten, ends_added, channel_new_turn, placed_well, copy_turn, copy_cancel_turn, end_drop_turn}
use Rattle.abi_machine.specs.replies.Subtasks.{cancel_asked, subtask_cancel_turn, subtask_drop_turn}
use Rattle.abi_machine.specs.replies.Tasks.{same_address, return_checked, return_turn, task_cancel_turn, yield_turn}
use Rattle.abi_machine.specs.replies.Waiting.{event_size, event_align, is_cancelled, view_of_set, set_new_turn, none_ready, by_ready, event_turn, wait_turn, set_drop_turn, joins, join_turn}
use Rattle.abi_machine.specs.sound.CopyPlaces.{IsTested}
use Rattle.abi_machine.specs.sound.Words.{IsPassed, HostedPasses, CodePasses, ItemPassesSmall, ScriptPassesSmall, BehindAdds, ControlAdds}
use Rattle.abi_machine.proofs.sound.Found.{some_same, renamed_ok}
use Rattle.abi_machine.proofs.sound.CopyKinds.{IsKind, IsTypedEnd, end_typed}
use Rattle.abi_machine.proofs.sound.Due.{channel_is}
use Rattle.abi_machine.proofs.sound.Entries.{not_false}
use Rattle.abi_machine.proofs.sound.places.Givers.{held_same}
use Rattle.abi_machine.proofs.sound.Alternatives.{IsAlternative, all_alternatives}
use Rattle.abi_machine.proofs.sound.words.Lifted.{dropped_small}
use Rattle.abi_machine.proofs.sound.words.Keeping.{Ground, Holds, task_so, state_so, more_so, added_keeps, inst_so, removed_keeps, left_keeps, concluded_so, dropped_so, made_so, CallPlaced, Keeps, given_keeps, behind_keeps, either_keeps, refused_keeps, unless_keeps, fault_keeps, charged_keeps, subtask_keeps, entry_keeps, blocked_keeps, on_keeps}
use Rattle.abi_machine.proofs.sound.words.Passing.{resolves_keeps}
use Rattle.abi_machine.proofs.sound.words.Moving.{leaving_keeps, running_keeps, instantiating_keeps, lowers_keeps}
use Rattle.abi_machine.proofs.sound.words.Waking.{begun_keeps, cancelled_keeps, back_keeps, arriving_keeps, none_received_keeps, cancel_received_keeps, delivering_keeps, yielded_keeps, resuming_keeps, meets_keeps}

-- The first of words whose first is an i32.
pub first_small : (words : List ℕ) → AreWords (I32 ∷ []) words → slice_index words 0 < 2 ^ 32
first_small [] h = absurd h
first_small (n ∷ words) h = h.0

-- a destructor is called with a representation
pub rep_passed : (g : Graph) (number resource rep : ℕ) → IsKind g number (kind.Resource resource_op.Drop resource) → rep < 2 ^ 32 → IsPassed g number (rep ∷ [])
rep_passed g number resource rep is small c at =
    let words : AreWords (builtin_type (kind.Resource resource_op.Drop resource)).params (rep ∷ []) = (small, tt) in
    subst (λ (x : CanonFunc). AreWords (canon_type x).params (rep ∷ [])) (some_same (sym is.1 ∙ at)) (subst (λ (k : BuiltinKind). AreWords (builtin_type k).params (rep ∷ [])) (sym is.2) words)

-- what tests tell
none_is : (n : ℕ) → nat_eq n 0 ≡ true → n ≡ 0
none_is n e = grind (arith, nat_tests)

none_left : (n : ℕ) → not (nat_eq n 0) ≡ false → n ≡ 0
none_left n e = none_is n (not_false (nat_eq n 0) e)

within : (a b : ℕ) → not (nat_le a b) ≡ false → a ≤ b
within a b e = less (not_false (nat_le a b) e)
  where
    less : nat_le a b ≡ true → a ≤ b
    less k = grind (arith, nat_tests)

-- one of the two words of context
word_small : (slot word : ℕ) (context : ℕ × ℕ) → word < 2 ^ 32 → context.0 < 2 ^ 32 → context.1 < 2 ^ 32 → ((word_changed slot word context).0 < 2 ^ 32) × ((word_changed slot word context).1 < 2 ^ 32)
word_small zero word context h i j = (h, j)
word_small (suc slot) word context h i j = (i, h)

module _ {g : Graph} (ground : Ground g) where
  word_so : (w : World) (t slot word : ℕ) → word < 2 ^ 32 → Holds ground w → Holds ground (word_set t slot word w)
  word_so w t slot word small h =
      task_so ground w t (λ task. record task { context = word_changed slot word task.context })
      (λ x k. record { waits = k.waits; passed = k.passed; first = (word_small slot word x.context small k.first k.second).0; second = (word_small slot word x.context small k.first k.second).1 }) h

  -- Words of context and representations.
  abbrev AnswersSo : Result Answers TrapName → Type 0
  AnswersSo (Ok answer) = Holds ground answer.world
  AnswersSo (Err why) = Unit {0}

  abbrev IfAnswered : World → Option Exempt → Type 0
  IfAnswered w None = Unit {0}
  IfAnswered w (Some exempt) = AnswersSo (exempt w)

  rep_so : (w : World) (r : Result ℕ TrapName) → Holds ground w → AnswersSo (rep_answered w r)
  rep_so w (Ok rep) h = h
  rep_so w (Err why) h = tt

  kind_so : (t : ℕ) (words : List ℕ) (i : ℕ) (k : BuiltinKind) (w : World) → AreWords (builtin_type k).params words → Holds ground w → IfAnswered w (exempt_kind t words i k)
  kind_so t words i (kind.Context context_op.Get slot) w passed h = h
  kind_so t words i (kind.Context context_op.Set slot) w passed h = word_so w t slot (slice_index words 0) (first_small words passed) h
  kind_so t words i (kind.Resource resource_op.Rep resource) w passed h = rep_so w (renamed refusal_name (rep_of (handle_in (view_at w i (slice_index words 0)) resource))) h
  kind_so t words i (kind.Resource resource_op.New resource) w passed h = tt
  kind_so t words i (kind.Resource resource_op.Drop resource) w passed h = tt
  kind_so t words i (kind.TaskReturn result options) w passed h = tt
  kind_so t words i (kind.Plain op) w passed h = tt
  kind_so t words i (kind.Wait op cancellable memory) w passed h = tt
  kind_so t words i (kind.End what element op) w passed h = tt

  exempt_so : (t : ℕ) (words : List ℕ) (c : CanonFunc) (w : World) → AreWords (canon_type c).params words → Holds ground w → IfAnswered w (exempt_of t words c)
  exempt_so t words (canon.Lower l) w passed h = tt
  exempt_so t words (canon.Builtin b) w passed h = kind_so t words b.instance b.kind w passed h

  -- Built-ins.
  destroyed_keeps : (t i number : ℕ) (words : List ℕ) (resource of_drop : ℕ) (r : Resource) (destructor : Option FuncRef) (rep : ℕ) (w : World) → IsKind g number (kind.Resource resource_op.Drop of_drop) → rep < 2 ^ 32
      → IsPassed g number words → Holds ground w → Keeps ground (destroyed t i number words resource r destructor rep w)
  unfolding destroyed destroyed_here
  destroyed_keeps t i number words resource of_drop r None rep w is small passed h =
      unless_keeps ground t (not (nat_eq r.instance i) && is_reentrant w r.instance t) trap.Reentrant w _ h (on_keeps ground t [] w h, tt)
  destroyed_keeps t i number words resource of_drop r (Some ref) rep w is small passed h =
      either_keeps ground (nat_eq r.instance i) _ _ (given_keeps ground (found_at w.store.funcs (func_address w.store ref)) _ (λ function e. (task_so ground w t _ (λ x k. k) h, tt)))
      (begun_keeps ground t number words (Destroys resource (destructor_of r.instance ref)) (destructor_of r.instance ref) (rep ∷ []) w passed (rep_passed g number of_drop rep is small) h)

  dropped_keeps : (t i number : ℕ) (words : List ℕ) (of_drop : ℕ) (x : Handle) (o : Ownership) (w : World) → IsKind g number (kind.Resource resource_op.Drop of_drop) → x.rep < 2 ^ 32 → IsPassed g number words → Holds ground w
      → Keeps ground (dropped g t i number words x o w)
  unfolding dropped
  dropped_keeps t i number words of_drop x (Borrow task) w is small passed h = (on_keeps ground t [] w h, tt)
  dropped_keeps t i number words of_drop x Own w is small passed h =
      given_keeps ground (resource_at g x.resource) _ (λ (r : Resource) e. destroyed_keeps t i number words x.resource of_drop r r.destructor x.rep w is small passed h)

  resource_keeps : (t i number : ℕ) (op : ResourceOp) (resource : ℕ) (words : List ℕ) (w : World) → IsKind g number (kind.Resource op resource) → AreWords (builtin_type (kind.Resource op resource)).params words → IsPassed g number words
      → Holds ground w → Keeps ground (resource_turn g t i number op resource words w)
  unfolding resource_turn resource_new_turn resource_drop_turn
  resource_keeps t i number resource_op.New resource words w is given passed h =
      entry_keeps ground t i (OwnHandle resource (slice_index words 0)) w (λ index v. replied t (index ∷ []) v) h (
        on_keeps ground t (next_index (table_of w i) ∷ []) (entry_added i (OwnHandle resource (slice_index words 0)) w)
            (added_keeps ground i (OwnHandle resource (slice_index words 0)) w (first_small words given) h),
        tt,
      )
  resource_keeps t i number resource_op.Drop resource words w is given passed h =
      let answer : Result Handle TrapName = renamed refusal_name (dropped_in (view_at w i (slice_index words 0)) resource) in
      refused_keeps ground t answer w (λ (x : Handle). dropped g t i number words x x.ownership (entry_removed i (slice_index words 0) w)) h (λ (x : Handle) e.
      dropped_keeps t i number words resource x x.ownership (entry_removed i (slice_index words 0) w) is
      (dropped_small w i (slice_index words 0) resource x h.0.reps (renamed_ok refusal_name (dropped_in (view_at w i (slice_index words 0)) resource) x e)) passed (removed_keeps ground i (slice_index words 0) w h))
  resource_keeps t i number resource_op.Rep resource words w is given passed h = tt

  return_keeps : (t : ℕ) (task : Task) (i : ℕ) (result : Option ValType) (options : Options) (words : List ℕ) (w : World) → Holds ground w → Keeps ground (return_turn g t task i result options words w)
  unfolding return_turn return_checked
  return_keeps t task i result options words w h =
      fault_keeps ground t task_name (asking_fault (task_view g w t task)) w _ h (given_keeps ground (func_of task.callee) _ (λ f e.
      unless_keeps ground t (not (same_held result f.func_type.result)) trap.WrongResult w _ h
      (unless_keeps ground t (not (same_address (memory_of w.store options) (memory_of w.store f.options))) trap.WrongOptions w _ h
      (resolves_keeps ground t task Replies i flat_param_limit result options words w h))))

  cancel_keeps : (t i number : ℕ) (words : List ℕ) (w : World) → IsPassed g number words → Holds ground w → Keeps ground (subtask_cancel_turn g t i number words w)
  unfolding subtask_cancel_turn cancel_asked
  cancel_keeps t i number words w passed h =
      refused_keeps ground t (subtask_at w i (slice_index words 0)) w _ h (λ callee e. subtask_keeps ground w callee _ (λ (task : Task) (subtask : Subtask).
      (let cancels : Holds ground (in_state t (AfterCancel callee number words) w) = state_so ground w t (AfterCancel callee number words) passed h in
      unless_keeps ground t (is_over subtask.told) trap.Delivered w _ h (unless_keeps ground t (not (is_unasked task.cancellation)) trap.Asked w _ h
      (either_keeps ground (has_resolved task) _ _ (cancels, tt) (cancelled_keeps ground callee task Back (in_state t (AfterCancel callee number words) w) tt cancels))))))

  subtask_drop_keeps : (t i index : ℕ) (w : World) → Holds ground w → Keeps ground (subtask_drop_turn t i index w)
  unfolding subtask_drop_turn
  subtask_drop_keeps t i index w h =
      refused_keeps ground t (subtask_at w i index) w _ h (λ callee e. subtask_keeps ground w callee _ (λ (task : Task) (subtask : Subtask).
      unless_keeps ground t (not (is_over subtask.told)) trap.NotDelivered w _ h (on_keeps ground t [] (left_set i index (entry_removed i index w)) (left_keeps ground i index w h), tt)))

  set_drop_keeps : (t i index : ℕ) (w : World) → Holds ground w → Keeps ground (set_drop_turn t i index w)
  unfolding set_drop_turn
  set_drop_keeps t i index w h =
      refused_keeps ground t (set_at w i index) w _ h (λ set e.
      refused_keeps ground t (renamed set_name (drop_answer (view_of_set w i index set))) w (λ done. replied t [] (entry_removed i index w)) h (λ done k. (on_keeps ground t [] (entry_removed i index w) (removed_keeps ground i index w h), tt)))

  joins_keep : (t i index other : ℕ) (w : World) → Holds ground w → Keeps ground (joins t i index other w)
  unfolding joins
  joins_keep t i index zero w h = (on_keeps ground t [] (left_set i index w) (inst_so ground w i _ (λ x. refl) h), tt)
  joins_keep t i index (suc other) w h = refused_keeps ground t (set_at w i (suc other)) w _ h (λ set e. (on_keeps ground t [] (joined i index set w) (inst_so ground w i _ (λ x. refl) h), tt))

  join_keeps : (t i index other : ℕ) (w : World) → Holds ground w → Keeps ground (join_turn t i index other w)
  unfolding join_turn
  join_keeps t i index other w h = refused_keeps ground t (waitable_at w i index) w _ h (λ there e. joins_keep t i index other w h)

  pressed : (t i pressure : ℕ) (w : World) → Holds ground w → Keeps ground (replied t [] (with_backpressure i pressure w))
  pressed t i pressure w h = (on_keeps ground t [] (with_backpressure i pressure w) (inst_so ground w i _ (λ x. refl) h), tt)

  plain_keeps : (t : ℕ) (task : Task) (i number : ℕ) (op : PlainBuiltin) (words : List ℕ) (w : World) → IsPassed g number words → Holds ground w → Keeps ground (plain_turn g t task i number op words w)
  unfolding plain_turn task_cancel_turn pressure_set_turn pressure_inc_turn pressure_dec_turn yield_turn set_new_turn
  plain_keeps t task i number plain.TaskCancel words w passed h = fault_keeps ground t task_name (cancel_fault (task_view g w t task)) w _ h (on_keeps ground t [] (resolved t Cancelled w) (task_so ground w t _ (λ x k. k) h), tt)
  plain_keeps t task i number plain.BackpressureSet words w passed h = pressed t i (set_pressure (slice_index words 0)) w h
  plain_keeps t task i number plain.BackpressureInc words w passed h =
      unless_keeps ground t (nat_le most_backpressure (backpressure_of w i)) trap.PressureLimit w _ h (pressed t i (backpressure_of w i + 1) w h)
  plain_keeps t task i number plain.BackpressureDec words w passed h = unless_keeps ground t (nat_eq (backpressure_of w i) 0) trap.PressureZero w _ h (pressed t i (backpressure_of w i - 1) w h)
  plain_keeps t task i number (plain.SubtaskCancel is_async) words w passed h = cancel_keeps t i number words w passed h
  plain_keeps t task i number plain.SubtaskDrop words w passed h = subtask_drop_keeps t i (slice_index words 0) w h
  plain_keeps t task i number (plain.Yield cancellable) words w passed h =
      either_keeps ground (cancellable && is_asked task.cancellation) _ _ (yielded_keeps ground t w h) (blocked_keeps ground t (InBuiltin number words ForYield) reason.Yield w passed h)
  plain_keeps t task i number plain.WaitableSetNew words w passed h =
      let set : ℕ = length (sets_in (slice_get w.insts i)) in
      entry_keeps ground t i (OfSet set) w (λ index v. replied t (index ∷ []) (set_made i v)) h (
        on_keeps ground t (next_index (table_of w i) ∷ []) (set_made i (entry_added i (OfSet set) w))
            (inst_so ground (entry_added i (OfSet set) w) i _ (λ x. refl) (added_keeps ground i (OfSet set) w tt h)),
        tt,
      )
  plain_keeps t task i number plain.WaitableSetDrop words w passed h = set_drop_keeps t i (slice_index words 0) w h
  plain_keeps t task i number plain.WaitableJoin words w passed h = join_keeps t i (slice_index words 0) (slice_index words 1) w h

  none_ready_keeps : (t : ℕ) (f : Lifted) (op : WaitOp) (number : ℕ) (words : List ℕ) (w : World) → IsPassed g number words → Holds ground w → Keeps ground (none_ready g t f op number words w)
  unfolding none_ready
  none_ready_keeps t f wait_op.Poll number words w passed h = none_received_keeps ground t f (InWait number words) w h
  none_ready_keeps t f wait_op.Wait number words w passed h = blocked_keeps ground t (InBuiltin number words (ForSet (slice_index words 0))) (reason.Wait (slice_index words 0)) w passed h

  by_ready_keeps : (t : ℕ) (f : Lifted) (op : WaitOp) (number : ℕ) (words : List ℕ) (set : ℕ) (members : List ℕ) (w : World) → IsPassed g number words → Holds ground w → Keeps ground (by_ready g t f op number words set members w)
  unfolding by_ready
  by_ready_keeps t f op number words set [] w passed h = none_ready_keeps t f op number words w passed h
  by_ready_keeps t f op number words set (index ∷ members) w passed h = (h, tt)

  wait_keeps : (t : ℕ) (task : Task) (i : ℕ) (op : WaitOp) (number : ℕ) (words : List ℕ) (w : World) → IsPassed g number words → Holds ground w → Keeps ground (wait_turn g t task i op number words w)
  unfolding wait_turn event_turn
  wait_keeps t task i op number words w passed h =
      refused_keeps ground t (set_at w i (slice_index words 0)) w _ h (λ set e. given_keeps ground (func_of task.callee) _ (λ (f : Lifted) k.
      unless_keeps ground t (not (nat_eq (slice_index words 1 % event_align) 0)) trap.Misaligned w _ h
      (unless_keeps ground t (not (nat_le (slice_index words 1 + event_size) (length (bytes_of w.store (memory_of w.store (options_at g number)))))) trap.Bounds w _ h
      (either_keeps ground (is_cancelled g task number) _ _ (cancel_received_keeps ground t f (InWait number words) w h) (by_ready_keeps t f op number words set (ready w i set) w passed h)))))

  either_eq : (b : Bool) (t u : Turn) → (b ≡ true → Keeps ground t) → (b ≡ false → Keeps ground u) → Keeps ground (if b then t else u)
  either_eq true t u h i = h refl
  either_eq false t u h i = i refl

  unless_eq : (t : ℕ) (b : Bool) (why : TrapName) (w : World) (more : Turn) → Holds ground w → (b ≡ false → Keeps ground more) → Keeps ground (unless t b why w more)
  unless_eq t true why w more h keeps = (h, tt)
  unless_eq t false why w more h keeps = keeps refl

  placed_keeps : (t : ℕ) (options : Options) (element : Option ValType) (place size : ℕ) (w : World) (more : Turn) → Holds ground w → (IsTested w.store options element place size → Keeps ground more)
      → Keeps ground (placed_well t (bytes_of w.store (memory_of w.store options)) element place size w more)
  unfolding placed_well
  placed_keeps t options None place size w more h k = k tt
  placed_keeps t options (Some element) place size w more h k =
      let bytes : List ℕ = bytes_of w.store (memory_of w.store options) in
      let far : ℕ = place + size * (laid element).size in
      either_eq (nat_eq size 0) _ _ (λ e. k (λ some. absurd (some (none_is size e))))
      (λ e.
      unless_eq t (not (nat_eq (place % (laid element).align) 0)) trap.Misaligned w _ h (λ a.
      unless_eq t (not (nat_le far (length bytes))) trap.Bounds w _ h (λ b. k (λ some. (none_left (place % (laid element).align) a, within far (length bytes) b)))))

  -- a read or write that is tested, where the store is that at the start
  tested_placed : (t i number : ℕ) (what : EndKind) (side : EndSide) (element : Option ValType) (options : Options) (words : List ℕ) (w : World) (e : EndRef) → w.store ≡ ground.store
      → IsKind g number (kind.End what element (end_op.Copy side options)) → AreWords (copy_type what).params words → end_at w what (side_of side) element i (slice_index words 0) ≡ Ok e
      → IsTested w.store options element (slice_index words 1) (copy_size what words) → CallPlaced ground e (new_copy (by.Task t) number (slice_index words 1) (copy_size what words)) w
  tested_placed t i number what side element options words w e same is given found tested x there =
      let typed : IsTypedEnd w what (side_of side) element e = end_typed w i what (side_of side) element (slice_index words 0) e found in
      let one : typed.2.0 ≡ x = some_same (sym (channel_is e.kind e.number w ∙ typed.2.1) ∙ there) in
      let of_type : x.element ≡ element = ap (λ (c : Channel). c.element) (sym one) ∙ held_same typed.2.0.element element typed.2.2 in
      subst (λ (o : Option ValType). ground.Placed o (new_copy (by.Task t) number (slice_index words 1) (copy_size what words))) (sym of_type)
      (ground.offers t number what side element options words is given (subst (λ (s : Store). IsTested s options element (slice_index words 1) (copy_size what words)) same tested))

  end_keeps : (t i number : ℕ) (what : EndKind) (element : Option ValType) (op : EndOp) (words : List ℕ) (w : World) → w.store ≡ ground.store → IsKind g number (kind.End what element op)
      → AreWords (builtin_type (kind.End what element op)).params words → IsPassed g number words → Holds ground w → Keeps ground (end_turn g t i number what element op words w)
  unfolding end_turn channel_new_turn ends_added copy_turn copy_cancel_turn end_drop_turn
  end_keeps t i number what element end_op.New words w same is given passed h =
      let v : World = channel_made what element w in
      let made : ℕ = length (channels what w) + 1 in
      let first : Holds ground v = made_so ground what element w h in
      let second : Holds ground (entry_added i (OfEnd (end_ref what made Reader)) v) = added_keeps ground i (OfEnd (end_ref what made Reader)) v tt first in
      entry_keeps ground t i (OfEnd (end_ref what made Reader)) v (λ readable x. with_entry t i (OfEnd (end_ref what made Writer)) x (λ writable y. replied t (both_indices readable writable ∷ []) y)) first
      (entry_keeps ground t i (OfEnd (end_ref what made Writer)) (entry_added i (OfEnd (end_ref what made Reader)) v) (λ writable y. replied t (both_indices (next_index (table_of v i)) writable ∷ []) y) second (
        on_keeps ground t (both_indices (next_index (table_of v i)) (next_index (table_of (entry_added i (OfEnd (end_ref what made Reader)) v) i)) ∷ [])
            (entry_added i (OfEnd (end_ref what made Writer)) (entry_added i (OfEnd (end_ref what made Reader)) v)) (added_keeps ground i (OfEnd (end_ref what made Writer)) (entry_added i (OfEnd (end_ref what made Reader)) v) tt second),
        tt,
      ))
  end_keeps t i number what element (end_op.Copy side options) words w same is given passed h =
      refused_keeps ground t (end_at w what (side_of side) element i (slice_index words 0)) w _ h (λ e found.
      unless_keeps ground t (is_copying (end_of w e)) trap.Busy w _ h (unless_keeps ground t (end_of w e).done trap.DoneEnd w _ h
      (unless_keeps ground t (nat_lt max_length (copy_size what words)) trap.TooLong w _ h
      (placed_keeps t options element (slice_index words 1) (copy_size what words) w
      (meets g t i e (new_copy (by.Task t) number (slice_index words 1) (copy_size what words)) words (slice_index words 0) w) h (λ tested.
      meets_keeps ground t i e (new_copy (by.Task t) number (slice_index words 1) (copy_size what words)) words (slice_index words 0) w
      (tested_placed t i number what side element options words w e same is given found tested) passed h)))))
  end_keeps t i number what element (end_op.Cancel side is_async) words w same is given passed h =
      refused_keeps ground t (end_at w what (side_of side) element i (slice_index words 0)) w _ h (λ (e : EndRef) found.
      unless_keeps ground t (not (passes (is_async_copy g) (end_of w e).copy)) trap.NotCopying w _ h (on_keeps ground t (payload_of w e ∷ []) (concluded e w) (concluded_so ground e w h), tt))
  end_keeps t i number what element (end_op.Drop side) words w same is given passed h =
      refused_keeps ground t (end_at w what (side_of side) element i (slice_index words 0)) w _ h (λ (e : EndRef) found.
      unless_keeps ground t (is_copying (end_of w e)) trap.Busy w _ h (unless_keeps ground t (is_unwritten what (side_of side) (end_of w e)) trap.UnwrittenFuture w _ h (
        on_keeps ground t [] (end_dropped e (left_set i (slice_index words 0) (entry_removed i (slice_index words 0) w)))
            (dropped_so ground e (left_set i (slice_index words 0) (entry_removed i (slice_index words 0) w)) (left_keeps ground i (slice_index words 0) w h)),
        tt,
      )))

  builtin_keeps : (t : ℕ) (task : Task) (i number : ℕ) (k : BuiltinKind) (words : List ℕ) (w : World) → w.store ≡ ground.store → IsKind g number k → AreWords (builtin_type k).params words → IsPassed g number words → Holds ground w
      → Keeps ground (builtin_turn g t task i number k words w)
  unfolding builtin_turn
  builtin_keeps t task i number (kind.Resource op resource) words w same is given passed h = resource_keeps t i number op resource words w is given passed h
  builtin_keeps t task i number (kind.TaskReturn result options) words w same is given passed h = return_keeps t task i result options words w h
  builtin_keeps t task i number (kind.Plain op) words w same is given passed h = plain_keeps t task i number op words w passed h
  builtin_keeps t task i number (kind.Context op slot) words w same is given passed h = tt
  builtin_keeps t task i number (kind.Wait op cancellable memory) words w same is given passed h = wait_keeps t task i op number words w passed h
  builtin_keeps t task i number (kind.End what element op) words w same is given passed h = end_keeps t i number what element op words w same is given passed h

  reply_keeps : (t : ℕ) (task : Task) (number : ℕ) (c : CanonFunc) (words : List ℕ) (w : World) → w.store ≡ ground.store → canon_at g number ≡ Some c → AreWords (canon_type c).params words → IsPassed g number words → Holds ground w
      → Keeps ground (reply g t task number c words w)
  unfolding reply
  reply_keeps t task number (canon.Lower l) words w same at given passed h = begun_keeps ground t number words (Func (lifted_of l)) (lifted_of l) words w passed passed h
  reply_keeps t task number (canon.Builtin b) words w same at given passed h = builtin_keeps t task b.instance number b.kind words w same (b, at, refl) given passed h

  exempt_keeps : (t : ℕ) (r : Result Answers TrapName) (w : World) → AnswersSo r → Holds ground w → Keeps ground (exempt_turn t r w)
  unfolding exempt_turn
  exempt_keeps t (Err why) w answers h = (h, tt)
  exempt_keeps t (Ok answer) w answers h = (on_keeps ground t answer.words answer.world answers, tt)

  allowed_keeps : (t : ℕ) (task : Task) (number : ℕ) (c : CanonFunc) (words : List ℕ) (o : Option Exempt) (w : World) → w.store ≡ ground.store → IfAnswered w o → canon_at g number ≡ Some c → AreWords (canon_type c).params words → IsPassed g number words
      → Holds ground w → Keeps ground (allowed g t task number c words o w)
  unfolding allowed
  allowed_keeps t task number c words (Some exempt) w same answers at given passed h = exempt_keeps t (exempt w) w answers h
  allowed_keeps t task number c words None w same answers at given passed h = either_keeps ground (may_leave w) _ _ (reply_keeps t task number c words w same at given passed h) (h, tt)

  calling_keeps : (number : ℕ) (words : List ℕ) (w : World) → w.store ≡ ground.store → IsPassed g number words → Holds ground w → Keeps ground (calling_turn g number words w)
  unfolding calling_turn
  calling_keeps number words w same passed h =
      given_keeps ground (acting w) _ (λ a e. given_keeps ground (canon_at g number) _ (λ c at.
      behind_keeps ground (line.Do a.0 (builtin_of c) words ∷ []) (allowed g a.0 a.1 number c words (exempt_of a.0 words c) w)
      (allowed_keeps a.0 a.1 number c words (exempt_of a.0 words c) w same (exempt_so a.0 words c w (passed c at) h) at (passed c at) passed h)))

  -- Nested code.
  nested_ends : (b : Behind) (words : List ℕ) (w : World) → BehindAdds b → Holds ground w → Keeps ground (nested_ended b words w)
  unfolding nested_ended
  nested_ends (InLowering l k) (place ∷ words) w adds h = (h, adds place)
  nested_ends (InLowering l k) [] w adds h = tt
  nested_ends BeforeLeaving words w adds h = (h, tt)

  in_place_keeps : (n : Nested) (b : Behind) (k : Stack) (r : Result Answers TrapName) (w : World) → AnswersSo r → BehindAdds b → Holds ground w → Keeps ground (answered_in_place n b k r w)
  unfolding answered_in_place
  in_place_keeps n b k (Err why) w answers adds h = (h, tt)
  in_place_keeps n b k (Ok answer) w answers adds h = (answers, adds)

  or_refused_keeps : (n : Nested) (b : Behind) (k : Stack) (o : Option Exempt) (w : World) → IfAnswered w o → BehindAdds b → Holds ground w → Keeps ground (answered_or_refused n b k o w)
  unfolding answered_or_refused
  or_refused_keeps n b k None w answers adds h = (h, tt)
  or_refused_keeps n b k (Some exempt) w answers adds h = in_place_keeps n b k (exempt w) w answers adds h

  host_keeps : (n : Nested) (b : Behind) (k : Stack) (words : List ℕ) (c : CanonFunc) (w : World) → AreWords (canon_type c).params words → BehindAdds b → Holds ground w → Keeps ground (calls_host n b k words c w)
  unfolding calls_host
  host_keeps n b k words c w given adds h =
      either_keeps ground (nat_eq (inst_of_canon c) n.inst) _ _
      (behind_keeps ground (line.Do n.acts_for (builtin_of c) words ∷ []) (answered_or_refused n b k (exempt_of n.acts_for words c) w)
      (or_refused_keeps n b k (exempt_of n.acts_for words c) w (exempt_so n.acts_for words c w given h) adds h)) tt

  -- what is passed where nested code calls a canonical function
  abbrev TurnPasses : HostedTurn → Type 0
  TurnPasses (On paid state store) = Unit {0}
  TurnPasses (EndsIn words) = Unit {0}
  TurnPasses (TrapsBy why) = Unit {0}
  TurnPasses (CallsHost number words k) = IsPassed g number words
  TurnPasses NoRule = Unit {0}

  move_passes : (k : Stack) (s : Store) (move : Move) → TurnPasses (hosted_move k s move)
  move_passes k s (Moves paid t l) = tt
  move_passes k s (core.Calls number words l) = tt
  move_passes k s (core.Ends words) = tt
  move_passes k s (Traps why) = tt
  move_passes k s core.Stuck = tt

  state_passes : (state : HostedState) (s : Store) → HostedPasses g state → TurnPasses (hosted_next state s)
  state_passes (Going k) s h = move_passes k s (core.next s k)
  state_passes (AtCall number words k) s h = h

  hosted_keeps : (s : Script) (n : Nested) (b : Behind) (t : HostedTurn) (w : World) → TurnPasses t → BehindAdds b → Holds ground w → Keeps ground (hosted g s n b t w)
  unfolding hosted
  hosted_keeps s n b (On paid state store) w passed adds h = charged_keeps ground paid s w (λ v. silent (Quiet (record n { state = state }) b) (with_store store v)) (λ units. (h, adds))
  hosted_keeps s n b (EndsIn words) w passed adds h = nested_ends b words w adds h
  hosted_keeps s n b (TrapsBy why) w passed adds h = charged_keeps ground true s w (λ v. doomed n.blame (core_name why) v) (λ units. (h, tt))
  hosted_keeps s n b (CallsHost number words k) w passed adds h = given_keeps ground (canon_at g number) (λ c. calls_host n b k words c w) (λ c at. host_keeps n b k words c w (passed c at) adds h)
  hosted_keeps s n b NoRule w passed adds h = tt

  nested_keeps : (s : Script) (n : Nested) (b : Behind) (w : World) → HostedPasses g n.state → BehindAdds b → Holds ground w → Keeps ground (nested_turn g s n b w)
  unfolding nested_turn
  nested_keeps s n b w passed adds h = hosted_keeps s n b (hosted_next n.state w.store) w (state_passes n.state w.store passed) adds h

  -- The scheduler.
  going_keeps : (s : Script) (w : World) → Holds ground w → Keeps ground (going_turn s w)
  unfolding going_turn gone
  going_keeps s w h = given_keeps ground (acting w) _ (λ (a : ℕ × Task) e. charged_keeps ground true s w (λ v. gone a.0 v) (λ units. (h, tt)))

  item_keeps : (s : Script) (i : Item) (w : World) → ItemPassesSmall i → Holds ground w → Keeps ground (item_turn g s i w)
  unfolding item_turn call_taken cancel_taken
  item_keeps s (item.Call call) w small h = given_keeps ground (func_named g call.name) _ (λ f e. (more_so ground (item_taken w) (Func f) (Host (calls_taken s w + 1) call.values) small h, tt))
  item_keeps s (item.Cancel call) w small h =
      let v : World = item_taken w in
      given_keeps ground (task_of_call call w) _ (λ (found : ℕ × Task) e.
      behind_keeps ground (line.Cancel call ∷ []) (if may_cancel (task_view g v found.0 found.1) then cancelled_turn g found.0 found.1 Free v else silent Free v)
      (either_keeps ground (may_cancel (task_view g v found.0 found.1)) (cancelled_turn g found.0 found.1 Free v) (silent Free v) (cancelled_keeps ground found.0 found.1 Free v tt h) (h, tt)))

  item_small : (s : Script) (n : ℕ) (i : Item) → ScriptPassesSmall s → slice_get s.items n ≡ Some i → ItemPassesSmall i
  item_small s n i small there = all_at ItemPassesSmall s.items n i small there

  alternative_keeps : (s : Script) (a : Alternative) (w : World) → ScriptPassesSmall s → IsAlternative s w a → Holds ground w → Keeps ground (alternative_turn g s a w)
  unfolding alternative_turn gone
  alternative_keeps s (Takes i) w small there h = charged_keeps ground true s w (λ v. item_turn g s i v) (λ units. item_keeps s i (record w { units = units }) (item_small s w.taken i small there) h)
  alternative_keeps s (GoesOn t) w small there h = charged_keeps ground true s w (λ v. gone t (chained t v)) (λ units. (h, tt))

  chosen_keeps : (s : Script) (k : ℕ) (w : World) → ScriptPassesSmall s → Holds ground w → Keeps ground (chosen_turn g s k w)
  unfolding chosen_turn
  chosen_keeps s k w small h = given_keeps ground (slice_get (alternatives g s w) k) _ (λ a e. alternative_keeps s a w small (all_at (IsAlternative s w) (alternatives g s w) k a (all_alternatives g s w) e) h)

  one_keeps : (s : Script) (all : List Alternative) (w : World) → ScriptPassesSmall s → AllByRecursion (IsAlternative s w) all → Holds ground w → Keeps ground (one_of g s all w)
  unfolding one_of chosen
  one_keeps s [] w small are h = tt
  one_keeps s (a ∷ []) w small are h = alternative_keeps s a w small are.0 h
  one_keeps s (a ∷ other ∷ others) w small are h = (h, tt)

  free_keeps : (s : Script) (w : World) → ScriptPassesSmall s → Holds ground w → Keeps ground (free_turn g s w)
  unfolding free_turn
  free_keeps s w small h = one_keeps s (alternatives g s w) w small (all_alternatives g s w) h

  -- The machine.
  pub each_keeps : (s : Script) (w : World) (c : Control) → w.store ≡ ground.store → ScriptPassesSmall s → CodePasses g c → ControlAdds c → Holds ground w → Keeps ground (next_by g s w c)
  each_keeps s w Free same small passed adds h = free_keeps s w small h
  each_keeps s w (Chosen k) same small passed adds h = chosen_keeps s k w small h
  each_keeps s w (Instantiates n) same small passed adds h = instantiating_keeps ground n w h
  each_keeps s w Runs same small passed adds h = running_keeps ground s w h
  each_keeps s w (Calls number words) same small passed adds h = calling_keeps number words w same passed h
  each_keeps s w Arrives same small passed adds h = arriving_keeps ground w h
  each_keeps s w (Lowers l plan) same small passed adds h = lowers_keeps ground l plan w adds h
  each_keeps s w (Quiet n b) same small passed adds h = nested_keeps s n b w passed adds h
  each_keeps s w Back same small passed adds h = back_keeps ground w h
  each_keeps s w Goes same small passed adds h = going_keeps s w h
  each_keeps s w Resumes same small passed adds h = resuming_keeps ground w h
  each_keeps s w (Delivers set receiver pick) same small passed adds h = delivering_keeps ground s set receiver pick w h
  each_keeps s w Leaves same small passed adds h = leaving_keeps ground w h
  each_keeps s w (Doomed t why) same small passed adds h = tt
