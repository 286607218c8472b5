-- Where each end of a run comes: built-ins and nested code end nothing, and a step that costs ends a run only where no unit is left.
use Rattle.std.proofs.Common.{◌≡◌, ◌∙◌, ℕ, zero, suc, ◌+◌, ◌*◌, ◌%◌, ◌&&◌, true, not, nat_eq, nat_lt, nat_le, List, [], ◌∷◌, length, refl, sym, ap, subst, Option, Some, None, Result, Ok, Err, if◌then◌else◌}
use Rattle.std.specs.Prelude.{slice_index}
use Rattle.std.specs.List.{slice_get}
use Rattle.wasm_store.specs.Store.{found_at}
use Rattle.wasm_store.specs.Stack.{Stack}
use Rattle.wasm_store.specs.Step as core
use Rattle.syntax_trees.specs.declared.types.ValType.{ValType}
use Rattle.laid_types.specs.Layout.{laid}
use Rattle.builtin_kinds.specs.declared.EndKind.{EndKind}
use Rattle.builtin_kinds.specs.declared.ResourceOp.{ResourceOp}
use Rattle.builtin_kinds.specs.declared.ResourceOp.TheVariants as resource_op
use Rattle.builtin_kinds.specs.declared.PlainBuiltin.{PlainBuiltin}
use Rattle.builtin_kinds.specs.declared.PlainBuiltin.TheVariants as plain
use Rattle.builtin_kinds.specs.declared.WaitOp.{WaitOp}
use Rattle.builtin_kinds.specs.declared.WaitOp.TheVariants as wait_op
use Rattle.res_handles.specs.declared.handle.Handle.{Handle}
use Rattle.res_handles.specs.declared.handle.Ownership.{Ownership}
use Rattle.res_handles.specs.declared.handle.Ownership.TheVariants.{Own, Borrow}
use Rattle.res_handles.specs.Refusals.{dropped_in}
use Rattle.waitables.specs.Sets.{drop_answer}
use Rattle.stream_ends.specs.declared.side.Side.TheVariants.{Reader, Writer}
use Rattle.stream_ends.specs.declared.open_copy.By.TheVariants as by
use Rattle.stream_ends.specs.Ends.{is_copying, new_copy}
use Rattle.tasks.specs.Tasks.{asking_fault, cancel_fault, is_asked, is_unasked, may_cancel}
use Rattle.tasks.specs.Subtasks.{is_over}
use Rattle.comp_graph.specs.declared.graph.FuncRef.{FuncRef}
use Rattle.comp_graph.specs.declared.graph.Options.{Options}
use Rattle.comp_graph.specs.declared.graph.Resource.{Resource}
use Rattle.comp_graph.specs.declared.graph.EndOp.{EndOp}
use Rattle.comp_graph.specs.declared.graph.EndOp.TheVariants as end_op
use Rattle.comp_graph.specs.declared.graph.BuiltinKind.{BuiltinKind}
use Rattle.comp_graph.specs.declared.graph.BuiltinKind.TheVariants as kind
use Rattle.comp_graph.specs.declared.graph.CanonFunc.{CanonFunc}
use Rattle.comp_graph.specs.declared.graph.CanonFunc.TheVariants as canon
use Rattle.comp_graph.specs.Needs.{flat_param_limit}
use Rattle.comp_graph.specs.Graph.{Graph, Lifted, func_named}
use Rattle.script_reader.specs.declared.script.Item.{Item}
use Rattle.script_reader.specs.declared.script.Item.TheVariants as item
use Rattle.script_reader.specs.Script.{Script}
use Rattle.trace_labels.specs.declared.label.Label.TheVariants as line
use Rattle.trace_labels.specs.declared.trap.TrapName.{TrapName}
use Rattle.trace_labels.specs.declared.trap.TrapName.TheVariants as trap
use Rattle.abi_machine.specs.declared.run_end.RunEnd.{RunEnd}
use Rattle.abi_machine.specs.declared.run_end.RunEnd.TheVariants.{Done, Trapped, Deadlock, Fuel}
use Rattle.abi_machine.specs.Control.{EndRef, Replies, Nested, Behind, InLowering, BeforeLeaving, InWait, Control, Free, Chosen, Instantiates, Runs, Calls, Arrives, Lowers, Quiet, Back, Goes, Resumes, Delivers, Leaves, Doomed}
use Rattle.abi_machine.specs.World.{OwnHandle, OfSet, OfEnd, Func, Destroys, Subtask, AfterCancel, Task, World}
use Rattle.abi_machine.specs.Traps.{core_name, task_name, set_name, refusal_name, renamed}
use Rattle.abi_machine.specs.Edits.{with_control, with_store, item_taken, entry_removed, set_made, chained, in_state, channel_made}
use Rattle.abi_machine.specs.Canons.{func_address, memory_of, bytes_of, inst_of_canon, builtin_of, canon_at, options_at, resource_at, lifted_of, destructor_of}
use Rattle.abi_machine.specs.Reading.{sets_in, backpressure_of, channels, acting, func_of, is_reentrant, unfinished, may_leave}
use Rattle.abi_machine.specs.Counting.{passes, task_view, has_resolved, end_of, ready, view_at}
use Rattle.abi_machine.specs.SameTypes.{same_held}
use Rattle.abi_machine.specs.Finding.{subtask_at, set_at, waitable_at, end_at}
use Rattle.abi_machine.specs.Turn.{Turn, Ends, silent, doomed, given, replied, with_entry}
use Rattle.abi_machine.specs.Cancelling.{cancelled_turn}
use Rattle.abi_machine.specs.Choosing.{chosen}
use Rattle.abi_machine.specs.Copying.{meets}
use Rattle.abi_machine.specs.CoreSteps.{costs, moved, running_turn}
use Rattle.abi_machine.specs.Delivering.{yield_cancelled}
use Rattle.abi_machine.specs.Nested.{HostedTurn, On, EndsIn, TrapsBy, CallsHost, NoRule, hosted_next, nested_ended, answered_in_place, answered_or_refused, calls_host, hosted, nested_turn}
use Rattle.abi_machine.specs.Reply.{resource_turn, plain_turn, side_of, copy_size, end_turn, builtin_turn, reply, exempt_turn, allowed, calling_turn}
use Rattle.abi_machine.specs.Returning.{result_passed}
use Rattle.abi_machine.specs.Scheduling.{call_taken, cancel_taken, item_turn, gone, going_turn, task_of_call, Alternative, Takes, GoesOn, alternatives, alternative_turn, end_by, one_of, free_turn, chosen_turn}
use Rattle.abi_machine.specs.Next.{next_by}
use Rattle.abi_machine.specs.replies.Context.{Answers, Exempt, exempt_of}
use Rattle.abi_machine.specs.replies.Pressure.{most_backpressure, pressure_inc_turn, pressure_dec_turn, pressure_set_turn}
use Rattle.abi_machine.specs.replies.Resources.{resource_new_turn, destroyed_here, destroyed, dropped, resource_drop_turn}
use Rattle.abi_machine.specs.replies.Streams.{both_indices, end_ref, max_length, is_async_copy, is_unwritten, ends_added, channel_new_turn, placed_well, copy_turn, copy_cancel_turn, end_drop_turn}
use Rattle.abi_machine.specs.replies.Subtasks.{cancel_asked, subtask_cancel_turn, subtask_drop_turn}
use Rattle.abi_machine.specs.replies.Tasks.{same_address, return_checked, return_turn, task_cancel_turn, yield_turn}
use Rattle.abi_machine.specs.replies.Waiting.{event_size, event_align, is_cancelled, view_of_set, set_new_turn, none_ready, by_ready, event_turn, wait_turn, set_drop_turn, joins, join_turn}
use Rattle.abi_machine.specs.sound.Ending.{EndsAt, EndsComeWhere}
use Rattle.abi_machine.proofs.sound.Onward.{IsOn, IsSpent, IsOnOr, on_or, either_on, given_on, behind_on, unless_on, refused_on, fault_on, entry_on, subtask_on, charged_on, begun_on, cancelled_on, back_on, resolves_on, leaving_on, moved_on, arriving_on, instantiating_on, none_received_on, cancel_received_on, delivering_on, resuming_on, meets_on, lowers_on}

-- Built-ins.
destroyed_on : (t i number : ℕ) (words : List ℕ) (resource : ℕ) (r : Resource) (destructor : Option FuncRef) (rep : ℕ) (w : World) → IsOn (destroyed t i number words resource r destructor rep w)
unfolding destroyed destroyed_here
destroyed_on t i number words resource r None rep w = unless_on t (not (nat_eq r.instance i) && is_reentrant w r.instance t) trap.Reentrant w _ tt
destroyed_on t i number words resource r (Some ref) rep w =
    either_on (nat_eq r.instance i) _ _ (given_on (found_at w.store.funcs (func_address w.store ref)) _ (λ function. tt))
    (begun_on t number words (Destroys resource (destructor_of r.instance ref)) (destructor_of r.instance ref) (rep ∷ []) w)

dropped_on : (g : Graph) (t i number : ℕ) (words : List ℕ) (x : Handle) (o : Ownership) (w : World) → IsOn (dropped g t i number words x o w)
unfolding dropped
dropped_on g t i number words x (Borrow task) w = tt
dropped_on g t i number words x Own w = given_on (resource_at g x.resource) _ (λ (r : Resource). destroyed_on t i number words x.resource r r.destructor x.rep w)

resource_on : (g : Graph) (t i number : ℕ) (op : ResourceOp) (resource : ℕ) (words : List ℕ) (w : World) → IsOn (resource_turn g t i number op resource words w)
unfolding resource_turn resource_new_turn resource_drop_turn
resource_on g t i number resource_op.New resource words w = entry_on t i (OwnHandle resource (slice_index words 0)) w (λ index v. replied t (index ∷ []) v) (λ index v. tt)
resource_on g t i number resource_op.Drop resource words w =
    let answer : Result Handle TrapName = renamed refusal_name (dropped_in (view_at w i (slice_index words 0)) resource) in
    refused_on t answer w (λ (x : Handle). dropped g t i number words x x.ownership (entry_removed i (slice_index words 0) w)) (λ (x : Handle). dropped_on g t i number words x x.ownership (entry_removed i (slice_index words 0) w))
resource_on g t i number resource_op.Rep resource words w = tt

return_on : (g : Graph) (t : ℕ) (task : Task) (i : ℕ) (result : Option ValType) (options : Options) (words : List ℕ) (w : World) → IsOn (return_turn g t task i result options words w)
unfolding return_turn return_checked
return_on g t task i result options words w =
    fault_on t task_name (asking_fault (task_view g w t task)) w _ (given_on (func_of task.callee) _ (λ (f : Lifted).
    unless_on t (not (same_held result f.func_type.result)) trap.WrongResult w _
    (unless_on t (not (same_address (memory_of w.store options) (memory_of w.store f.options))) trap.WrongOptions w _
    (resolves_on g t task Replies (result_passed i t flat_param_limit result options words w)))))

cancel_on : (g : Graph) (t i number : ℕ) (words : List ℕ) (w : World) → IsOn (subtask_cancel_turn g t i number words w)
unfolding subtask_cancel_turn cancel_asked
cancel_on g t i number words w =
    refused_on t (subtask_at w i (slice_index words 0)) w _ (λ callee. subtask_on w callee _ (λ (task : Task) (subtask : Subtask).
    unless_on t (is_over subtask.told) trap.Delivered w _ (unless_on t (not (is_unasked task.cancellation)) trap.Asked w _
    (either_on (has_resolved task) _ _ tt (cancelled_on g callee task Back (in_state t (AfterCancel callee number words) w))))))

subtask_drop_on : (t i index : ℕ) (w : World) → IsOn (subtask_drop_turn t i index w)
unfolding subtask_drop_turn
subtask_drop_on t i index w =
    refused_on t (subtask_at w i index) w _ (λ callee. subtask_on w callee _ (λ (task : Task) (subtask : Subtask). unless_on t (not (is_over subtask.told)) trap.NotDelivered w _ tt))

set_drop_on : (t i index : ℕ) (w : World) → IsOn (set_drop_turn t i index w)
unfolding set_drop_turn
set_drop_on t i index w =
    refused_on t (set_at w i index) w _ (λ set. refused_on t (renamed set_name (drop_answer (view_of_set w i index set))) w (λ done. replied t [] (entry_removed i index w)) (λ done. tt))

joins_on : (t i index other : ℕ) (w : World) → IsOn (joins t i index other w)
unfolding joins
joins_on t i index zero w = tt
joins_on t i index (suc other) w = refused_on t (set_at w i (suc other)) w _ (λ set. tt)

join_on : (t i index other : ℕ) (w : World) → IsOn (join_turn t i index other w)
unfolding join_turn
join_on t i index other w = refused_on t (waitable_at w i index) w _ (λ there. joins_on t i index other w)

plain_on : (g : Graph) (t : ℕ) (task : Task) (i number : ℕ) (op : PlainBuiltin) (words : List ℕ) (w : World) → IsOn (plain_turn g t task i number op words w)
unfolding plain_turn task_cancel_turn pressure_set_turn pressure_inc_turn pressure_dec_turn yield_turn yield_cancelled set_new_turn
plain_on g t task i number plain.TaskCancel words w = fault_on t task_name (cancel_fault (task_view g w t task)) w _ tt
plain_on g t task i number plain.BackpressureSet words w = tt
plain_on g t task i number plain.BackpressureInc words w = unless_on t (nat_le most_backpressure (backpressure_of w i)) trap.PressureLimit w _ tt
plain_on g t task i number plain.BackpressureDec words w = unless_on t (nat_eq (backpressure_of w i) 0) trap.PressureZero w _ tt
plain_on g t task i number (plain.SubtaskCancel is_async) words w = cancel_on g t i number words w
plain_on g t task i number plain.SubtaskDrop words w = subtask_drop_on t i (slice_index words 0) w
plain_on g t task i number (plain.Yield cancellable) words w = either_on (cancellable && is_asked task.cancellation) _ _ tt tt
plain_on g t task i number plain.WaitableSetNew words w = entry_on t i (OfSet (length (sets_in (slice_get w.insts i)))) w (λ index v. replied t (index ∷ []) (set_made i v)) (λ index v. tt)
plain_on g t task i number plain.WaitableSetDrop words w = set_drop_on t i (slice_index words 0) w
plain_on g t task i number plain.WaitableJoin words w = join_on t i (slice_index words 0) (slice_index words 1) w

none_ready_on : (g : Graph) (t : ℕ) (f : Lifted) (op : WaitOp) (number : ℕ) (words : List ℕ) (w : World) → IsOn (none_ready g t f op number words w)
unfolding none_ready
none_ready_on g t f wait_op.Poll number words w = none_received_on g t f (InWait number words) w
none_ready_on g t f wait_op.Wait number words w = tt

by_ready_on : (g : Graph) (t : ℕ) (f : Lifted) (op : WaitOp) (number : ℕ) (words : List ℕ) (set : ℕ) (members : List ℕ) (w : World) → IsOn (by_ready g t f op number words set members w)
unfolding by_ready
by_ready_on g t f op number words set [] w = none_ready_on g t f op number words w
by_ready_on g t f op number words set (index ∷ members) w = tt

wait_on : (g : Graph) (t : ℕ) (task : Task) (i : ℕ) (op : WaitOp) (number : ℕ) (words : List ℕ) (w : World) → IsOn (wait_turn g t task i op number words w)
unfolding wait_turn event_turn
wait_on g t task i op number words w =
    refused_on t (set_at w i (slice_index words 0)) w _ (λ set. given_on (func_of task.callee) _ (λ (f : Lifted).
    unless_on t (not (nat_eq (slice_index words 1 % event_align) 0)) trap.Misaligned w _
    (unless_on t (not (nat_le (slice_index words 1 + event_size) (length (bytes_of w.store (memory_of w.store (options_at g number)))))) trap.Bounds w _
    (either_on (is_cancelled g task number) _ _ (cancel_received_on g t f (InWait number words) w) (by_ready_on g t f op number words set (ready w i set) w)))))

placed_on : (t : ℕ) (bytes : List ℕ) (element : Option ValType) (place size : ℕ) (w : World) (more : Turn) → IsOn more → IsOn (placed_well t bytes element place size w more)
unfolding placed_well
placed_on t bytes None place size w more h = h
placed_on t bytes (Some element) place size w more h =
    either_on (nat_eq size 0) _ _ h (unless_on t (not (nat_eq (place % (laid element).align) 0)) trap.Misaligned w _
    (unless_on t (not (nat_le (place + size * (laid element).size) (length bytes))) trap.Bounds w _ h))

end_on : (g : Graph) (t i number : ℕ) (what : EndKind) (element : Option ValType) (op : EndOp) (words : List ℕ) (w : World) → IsOn (end_turn g t i number what element op words w)
unfolding end_turn channel_new_turn ends_added copy_turn copy_cancel_turn end_drop_turn
end_on g t i number what element end_op.New words w =
    let v : World = channel_made what element w in
    let made : ℕ = length (channels what w) + 1 in
    entry_on t i (OfEnd (end_ref what made Reader)) v (λ readable x. with_entry t i (OfEnd (end_ref what made Writer)) x (λ writable y. replied t (both_indices readable writable ∷ []) y))
    (λ readable x. entry_on t i (OfEnd (end_ref what made Writer)) x (λ writable y. replied t (both_indices readable writable ∷ []) y) (λ writable y. tt))
end_on g t i number what element (end_op.Copy side options) words w =
    refused_on t (end_at w what (side_of side) element i (slice_index words 0)) w _ (λ (e : EndRef).
    unless_on t (is_copying (end_of w e)) trap.Busy w _ (unless_on t (end_of w e).done trap.DoneEnd w _
    (unless_on t (nat_lt max_length (copy_size what words)) trap.TooLong w _
    (placed_on t (bytes_of w.store (memory_of w.store options)) element (slice_index words 1) (copy_size what words) w
    (meets g t i e (new_copy (by.Task t) number (slice_index words 1) (copy_size what words)) words (slice_index words 0) w)
    (meets_on g t i e (new_copy (by.Task t) number (slice_index words 1) (copy_size what words)) words (slice_index words 0) w)))))
end_on g t i number what element (end_op.Cancel side is_async) words w =
    refused_on t (end_at w what (side_of side) element i (slice_index words 0)) w _ (λ (e : EndRef). unless_on t (not (passes (is_async_copy g) (end_of w e).copy)) trap.NotCopying w _ tt)
end_on g t i number what element (end_op.Drop side) words w =
    refused_on t (end_at w what (side_of side) element i (slice_index words 0)) w _ (λ (e : EndRef).
    unless_on t (is_copying (end_of w e)) trap.Busy w _ (unless_on t (is_unwritten what (side_of side) (end_of w e)) trap.UnwrittenFuture w _ tt))

builtin_on : (g : Graph) (t : ℕ) (task : Task) (i number : ℕ) (k : BuiltinKind) (words : List ℕ) (w : World) → IsOn (builtin_turn g t task i number k words w)
unfolding builtin_turn
builtin_on g t task i number (kind.Resource op resource) words w = resource_on g t i number op resource words w
builtin_on g t task i number (kind.TaskReturn result options) words w = return_on g t task i result options words w
builtin_on g t task i number (kind.Plain op) words w = plain_on g t task i number op words w
builtin_on g t task i number (kind.Context op slot) words w = tt
builtin_on g t task i number (kind.Wait op cancellable memory) words w = wait_on g t task i op number words w
builtin_on g t task i number (kind.End what element op) words w = end_on g t i number what element op words w

reply_on : (g : Graph) (t : ℕ) (task : Task) (number : ℕ) (c : CanonFunc) (words : List ℕ) (w : World) → IsOn (reply g t task number c words w)
unfolding reply
reply_on g t task number (canon.Lower l) words w = begun_on t number words (Func (lifted_of l)) (lifted_of l) words w
reply_on g t task number (canon.Builtin b) words w = builtin_on g t task b.instance number b.kind words w

exempt_on : (t : ℕ) (r : Result Answers TrapName) (w : World) → IsOn (exempt_turn t r w)
unfolding exempt_turn
exempt_on t (Err why) w = tt
exempt_on t (Ok answer) w = tt

allowed_on : (g : Graph) (t : ℕ) (task : Task) (number : ℕ) (c : CanonFunc) (words : List ℕ) (o : Option Exempt) (w : World) → IsOn (allowed g t task number c words o w)
unfolding allowed
allowed_on g t task number c words (Some exempt) w = exempt_on t (exempt w) w
allowed_on g t task number c words None w = either_on (may_leave w) _ _ (reply_on g t task number c words w) tt

calling_on : (g : Graph) (number : ℕ) (words : List ℕ) (w : World) → IsOn (calling_turn g number words w)
unfolding calling_turn
calling_on g number words w =
    given_on (acting w) _ (λ (a : ℕ × Task). given_on (canon_at g number) _ (λ (c : CanonFunc).
    behind_on (line.Do a.0 (builtin_of c) words ∷ []) (allowed g a.0 a.1 number c words (exempt_of a.0 words c) w) (allowed_on g a.0 a.1 number c words (exempt_of a.0 words c) w)))

-- Nested code.
nested_ended_on : (b : Behind) (words : List ℕ) (w : World) → IsOn (nested_ended b words w)
unfolding nested_ended
nested_ended_on (InLowering l k) (place ∷ words) w = tt
nested_ended_on (InLowering l k) [] w = tt
nested_ended_on BeforeLeaving words w = tt

in_place_on : (n : Nested) (b : Behind) (k : Stack) (r : Result Answers TrapName) (w : World) → IsOn (answered_in_place n b k r w)
unfolding answered_in_place
in_place_on n b k (Err why) w = tt
in_place_on n b k (Ok answer) w = tt

or_refused_on : (n : Nested) (b : Behind) (k : Stack) (o : Option Exempt) (w : World) → IsOn (answered_or_refused n b k o w)
unfolding answered_or_refused
or_refused_on n b k None w = tt
or_refused_on n b k (Some exempt) w = in_place_on n b k (exempt w) w

host_on : (n : Nested) (b : Behind) (k : Stack) (words : List ℕ) (c : CanonFunc) (w : World) → IsOn (calls_host n b k words c w)
unfolding calls_host
host_on n b k words c w =
    either_on (nat_eq (inst_of_canon c) n.inst) _ _
    (behind_on (line.Do n.acts_for (builtin_of c) words ∷ []) (answered_or_refused n b k (exempt_of n.acts_for words c) w) (or_refused_on n b k (exempt_of n.acts_for words c) w)) tt

hosted_on : (g : Graph) (s : Script) (n : Nested) (b : Behind) (t : HostedTurn) (w : World) → IsOnOr s w.units (hosted g s n b t w)
unfolding hosted
hosted_on g s n b (On paid state store) w = charged_on paid s w (λ v. silent (Quiet (record n { state = state }) b) (with_store store v)) (λ v. tt)
hosted_on g s n b (EndsIn words) w = on_or s w.units (nested_ended b words w) (nested_ended_on b words w)
hosted_on g s n b (TrapsBy why) w = charged_on true s w (λ v. doomed n.blame (core_name why) v) (λ v. tt)
hosted_on g s n b (CallsHost number words k) w =
    on_or s w.units (given (canon_at g number) (λ c. calls_host n b k words c w)) (given_on (canon_at g number) (λ c. calls_host n b k words c w) (λ c. host_on n b k words c w))
hosted_on g s n b NoRule w = tt

nested_on : (g : Graph) (s : Script) (n : Nested) (b : Behind) (w : World) → IsOnOr s w.units (nested_turn g s n b w)
unfolding nested_turn
nested_on g s n b w = hosted_on g s n b (hosted_next n.state w.store) w

-- Turns that cost.
given_or : {A : Type 0} (s : Script) (units : ℕ) (o : Option A) (f : A → Turn) → ((x : A) → IsOnOr s units (f x)) → IsOnOr s units (given o f)
given_or s units None f h = tt
given_or s units (Some x) f h = h x

running_on : (g : Graph) (s : Script) (w : World) → IsOnOr s w.units (running_turn g s w)
unfolding running_turn
running_on g s w =
    given_or s w.units (acting w) _ (λ (a : ℕ × Task). given_or s w.units (slice_get a.1.stacks 0) _ (λ (k : Stack).
    charged_on (costs k (core.next w.store k)) s w (λ v. moved g a.0 a.1 (core.next w.store k) v) (λ v. moved_on g a.0 a.1 (core.next w.store k) v)))

going_on : (s : Script) (w : World) → IsOnOr s w.units (going_turn s w)
unfolding going_turn gone
going_on s w = given_or s w.units (acting w) _ (λ (a : ℕ × Task). charged_on true s w (λ v. gone a.0 v) (λ v. tt))

item_on : (g : Graph) (s : Script) (i : Item) (w : World) → IsOn (item_turn g s i w)
unfolding item_turn call_taken cancel_taken
item_on g s (item.Call call) w = given_on (func_named g call.name) _ (λ f. tt)
item_on g s (item.Cancel call) w =
    let v : World = item_taken w in
    given_on (task_of_call call w) _ (λ (found : ℕ × Task).
    behind_on (line.Cancel call ∷ []) (if may_cancel (task_view g v found.0 found.1) then cancelled_turn g found.0 found.1 Free v else silent Free v)
    (either_on (may_cancel (task_view g v found.0 found.1)) (cancelled_turn g found.0 found.1 Free v) (silent Free v) (cancelled_on g found.0 found.1 Free v) tt))

alternative_on : (g : Graph) (s : Script) (a : Alternative) (w : World) → IsOnOr s w.units (alternative_turn g s a w)
unfolding alternative_turn gone
alternative_on g s (Takes i) w = charged_on true s w (λ v. item_turn g s i v) (λ v. item_on g s i v)
alternative_on g s (GoesOn t) w = charged_on true s w (λ v. gone t (chained t v)) (λ v. tt)

chosen_on : (g : Graph) (s : Script) (k : ℕ) (w : World) → IsOnOr s w.units (chosen_turn g s k w)
unfolding chosen_turn
chosen_on g s k w = given_or s w.units (slice_get (alternatives g s w) k) _ (λ a. alternative_on g s a w)

-- Ends.
spent_at : (g : Graph) (s : Script) (w : World) (end : RunEnd) → IsSpent s w.units end → EndsAt g s w end
spent_at g s w Done h = absurd h
spent_at g s w (Trapped t why) h = absurd h
spent_at g s w (Deadlock named) h = absurd h
spent_at g s w Fuel h = h

by_units : (g : Graph) (s : Script) (w : World) (t : Turn) (end : RunEnd) → IsOnOr s w.units t → t ≡ Ends end → EndsAt g s w end
by_units g s w t end h e = spent_at g s w end (subst (IsOnOr s w.units) e h)

by_none : (g : Graph) (s : Script) (w : World) (t : Turn) (end : RunEnd) → IsOn t → t ≡ Ends end → EndsAt g s w end
by_none g s w t end h e = absurd (subst IsOn e h)

-- where no task runs
ended_by : (g : Graph) (s : Script) (w : World) (left : List ℕ) (end : RunEnd) → w.control ≡ Free → alternatives g s w ≡ [] → unfinished w ≡ left → end_by left ≡ end → EndsAt g s w end
ended_by g s w [] end free none same e = subst (EndsAt g s w) e (free, none, same)
ended_by g s w (t ∷ left) end free none same e = subst (EndsAt g s w) e (free, none, same)

ends_same : (x y : RunEnd) → Ends x ≡ Ends y → x ≡ y
ends_same x y e = cc

one_ended : (g : Graph) (s : Script) (all : List Alternative) (w : World) (end : RunEnd) → w.control ≡ Free → alternatives g s w ≡ all → one_of g s all w ≡ Ends end → EndsAt g s w end
unfolding one_of chosen
one_ended g s [] w end free is e = ended_by g s w (unfinished w) end free is refl (ends_same (end_by (unfinished w)) end e)
one_ended g s (a ∷ []) w end free is e = by_units g s w (alternative_turn g s a w) end (alternative_on g s a w) e
one_ended g s (a ∷ other ∷ others) w end free is e = cc

free_same : (w : World) → w.control ≡ Free → with_control Free w ≡ w
free_same w e = ap (λ (c : Control). with_control c w) (sym e)

free_ended : (g : Graph) (s : Script) (w : World) (end : RunEnd) → w.control ≡ Free → free_turn g s (with_control Free w) ≡ Ends end → EndsAt g s w end
unfolding free_turn
free_ended g s w end free e = one_ended g s (alternatives g s w) w end free refl (sym (ap (free_turn g s) (free_same w free)) ∙ e)

doomed_at : (g : Graph) (s : Script) (w : World) (t : ℕ) (why : TrapName) (end : RunEnd) → w.control ≡ Doomed t why → Trapped t why ≡ end → EndsAt g s w end
doomed_at g s w t why end at e = subst (EndsAt g s w) e at

ended_at : (g : Graph) (s : Script) (w : World) (end : RunEnd) (c : Control) → w.control ≡ c → next_by g s (with_control Free w) c ≡ Ends end → EndsAt g s w end
ended_at g s w end Free at e = free_ended g s w end at e
ended_at g s w end (Chosen k) at e = by_units g s w _ end (chosen_on g s k (with_control Free w)) e
ended_at g s w end (Instantiates n) at e = by_none g s w _ end (instantiating_on g n (with_control Free w)) e
ended_at g s w end Runs at e = by_units g s w _ end (running_on g s (with_control Free w)) e
ended_at g s w end (Calls number words) at e = by_none g s w _ end (calling_on g number words (with_control Free w)) e
ended_at g s w end Arrives at e = by_none g s w _ end (arriving_on g (with_control Free w)) e
ended_at g s w end (Lowers l plan) at e = by_none g s w _ end (lowers_on l plan (with_control Free w)) e
ended_at g s w end (Quiet n b) at e = by_units g s w _ end (nested_on g s n b (with_control Free w)) e
ended_at g s w end Back at e = by_none g s w _ end (back_on g (with_control Free w)) e
ended_at g s w end Goes at e = by_units g s w _ end (going_on s (with_control Free w)) e
ended_at g s w end Resumes at e = by_none g s w _ end (resuming_on g (with_control Free w)) e
ended_at g s w end (Delivers set receiver pick) at e = by_none g s w _ end (delivering_on g s set receiver pick (with_control Free w)) e
ended_at g s w end Leaves at e = by_none g s w _ end (leaving_on (with_control Free w)) e
ended_at g s w end (Doomed t why) at e = doomed_at g s w t why end at (ends_same (Trapped t why) end e)

pub ends_come_where : EndsComeWhere
ends_come_where g s w end e = ended_at g s w end w.control refl e
