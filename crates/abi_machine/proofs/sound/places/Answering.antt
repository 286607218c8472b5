-- Built-ins, nested code and the scheduler come to lowerings only that ask where they may; and so does the machine.
use Rattle.std.proofs.Common.{◌≡◌, ◌∙◌, ℕ, Bool, zero, suc, ◌+◌, ◌*◌, ◌%◌, ◌&&◌, true, false, not, nat_eq, nat_lt, nat_le, List, [], ◌∷◌, length, refl, sym, ap, Option, Some, None, Result, Ok, Err, if◌then◌else◌}
use Rattle.std.specs.Prelude.{slice_index, drop}
use Rattle.std.specs.List.{slice_get}
use Rattle.wasm_store.specs.Store.{found_at}
use Rattle.wasm_store.specs.Stack.{Stack}
use Rattle.wasm_store.specs.Step as core
use Rattle.syntax_trees.specs.declared.types.ValType.{ValType}
use Rattle.laid_types.specs.Layout.{laid}
use Rattle.builtin_kinds.specs.declared.EndKind.{EndKind}
use Rattle.builtin_kinds.specs.declared.ResourceOp.{ResourceOp}
use Rattle.builtin_kinds.specs.declared.ResourceOp.TheVariants as resource_op
use Rattle.builtin_kinds.specs.declared.PlainBuiltin.{PlainBuiltin}
use Rattle.builtin_kinds.specs.declared.PlainBuiltin.TheVariants as plain
use Rattle.builtin_kinds.specs.declared.WaitOp.{WaitOp}
use Rattle.builtin_kinds.specs.declared.WaitOp.TheVariants as wait_op
use Rattle.res_handles.specs.declared.handle.Handle.{Handle}
use Rattle.res_handles.specs.declared.handle.Ownership.{Ownership}
use Rattle.res_handles.specs.declared.handle.Ownership.TheVariants.{Own, Borrow}
use Rattle.res_handles.specs.Refusals.{dropped_in}
use Rattle.waitables.specs.Sets.{drop_answer}
use Rattle.stream_ends.specs.declared.side.Side.TheVariants.{Reader, Writer}
use Rattle.stream_ends.specs.declared.open_copy.By.TheVariants as by
use Rattle.stream_ends.specs.Ends.{is_copying, new_copy}
use Rattle.tasks.specs.Tasks.{asking_fault, cancel_fault, is_asked, is_unasked, may_cancel}
use Rattle.tasks.specs.Subtasks.{is_over}
use Rattle.comp_graph.specs.declared.graph.FuncRef.{FuncRef}
use Rattle.comp_graph.specs.declared.graph.Options.{Options}
use Rattle.comp_graph.specs.declared.graph.Resource.{Resource}
use Rattle.comp_graph.specs.declared.graph.EndOp.{EndOp}
use Rattle.comp_graph.specs.declared.graph.EndOp.TheVariants as end_op
use Rattle.comp_graph.specs.declared.graph.BuiltinKind.{BuiltinKind}
use Rattle.comp_graph.specs.declared.graph.BuiltinKind.TheVariants as kind
use Rattle.comp_graph.specs.declared.graph.CanonFunc.{CanonFunc}
use Rattle.comp_graph.specs.declared.graph.CanonFunc.TheVariants as canon
use Rattle.comp_graph.specs.Needs.{flat_param_limit}
use Rattle.comp_graph.specs.Graph.{Graph, Lifted, func_named}
use Rattle.script_reader.specs.declared.script.Item.{Item}
use Rattle.script_reader.specs.declared.script.Item.TheVariants as item
use Rattle.script_reader.specs.Script.{Script}
use Rattle.trace_labels.specs.declared.label.Label.TheVariants as line
use Rattle.trace_labels.specs.declared.trap.TrapName.{TrapName}
use Rattle.trace_labels.specs.declared.trap.TrapName.TheVariants as trap
use Rattle.abi_machine.specs.Control.{EndRef, Replies, Nested, Behind, InLowering, BeforeLeaving, InWait, Control, Free, Chosen, Instantiates, Runs, Calls, Arrives, Lowers, Quiet, Back, Goes, Resumes, Delivers, Leaves, Doomed}
use Rattle.abi_machine.specs.World.{OwnHandle, OfSet, OfEnd, Func, Destroys, Subtask, AfterCancel, Task, World}
use Rattle.abi_machine.specs.Traps.{core_name, task_name, set_name, refusal_name, renamed}
use Rattle.abi_machine.specs.Edits.{with_store, item_taken, entry_removed, set_made, chained, in_state, channel_made}
use Rattle.abi_machine.specs.Canons.{func_address, memory_of, bytes_of, inst_of_canon, builtin_of, canon_at, options_at, resource_at, lifted_of, destructor_of}
use Rattle.abi_machine.specs.Reading.{sets_in, backpressure_of, channels, acting, func_of, is_reentrant, may_leave}
use Rattle.abi_machine.specs.Counting.{passes, task_view, has_resolved, end_of, ready, view_at}
use Rattle.abi_machine.specs.SameTypes.{same_held}
use Rattle.abi_machine.specs.Finding.{subtask_at, set_at, waitable_at, end_at}
use Rattle.abi_machine.specs.Turn.{Turn, silent, doomed, unless_refused, unless, replied, with_entry}
use Rattle.abi_machine.specs.Cancelling.{cancelled_turn}
use Rattle.abi_machine.specs.Choosing.{chosen}
use Rattle.abi_machine.specs.Copying.{meets}
use Rattle.abi_machine.specs.CoreSteps.{costs, moved, running_turn}
use Rattle.abi_machine.specs.Delivering.{yield_cancelled}
use Rattle.abi_machine.specs.Nested.{HostedTurn, On, EndsIn, TrapsBy, CallsHost, NoRule, hosted_next, nested_ended, answered_in_place, answered_or_refused, calls_host, hosted, nested_turn}
use Rattle.abi_machine.specs.Reply.{resource_turn, plain_turn, side_of, copy_size, end_turn, builtin_turn, reply, exempt_turn, allowed, calling_turn}
use Rattle.abi_machine.specs.Returning.{result_passed}
use Rattle.abi_machine.specs.Scheduling.{call_taken, cancel_taken, item_turn, gone, going_turn, task_of_call, Alternative, Takes, GoesOn, alternatives, alternative_turn, one_of, free_turn, chosen_turn}
use Rattle.abi_machine.specs.Next.{next_by}
use Rattle.abi_machine.specs.replies.Context.{Answers, Exempt, exempt_of}
use Rattle.abi_machine.specs.replies.Pressure.{most_backpressure, pressure_inc_turn, pressure_dec_turn, pressure_set_turn}
use Rattle.abi_machine.specs.replies.Resources.{resource_new_turn, destroyed_here, destroyed, dropped, resource_drop_turn}
use Rattle.abi_machine.specs.replies.Streams.{both_indices, end_ref, max_length, is_async_copy, is_unwritten, ends_added, channel_new_turn, placed_well, copy_turn, copy_cancel_turn, end_drop_turn}
use Rattle.abi_machine.specs.replies.Subtasks.{cancel_asked, subtask_cancel_turn, subtask_drop_turn}
use Rattle.abi_machine.specs.replies.Tasks.{same_address, return_checked, return_turn, task_cancel_turn, yield_turn}
use Rattle.abi_machine.specs.replies.Waiting.{event_size, event_align, is_cancelled, view_of_set, set_new_turn, none_ready, by_ready, event_turn, wait_turn, set_drop_turn, joins, join_turn}
use Rattle.laid_types.specs.Lists.{held_list}
use Rattle.abi_machine.specs.sound.Fitting.{CopiesFit}
use Rattle.abi_machine.specs.sound.Places.{BehindAsks, AsksWell}
use Rattle.abi_machine.proofs.sound.CopyKinds.{IsKind, copy_is, copies_at}
use Rattle.abi_machine.proofs.sound.places.Givers.{held_same}
use Rattle.abi_machine.proofs.sound.places.Passing.{GoesWell, either_well, given_well, behind_well, fault_well, HasGivers, result_says, resolves_well, result_same}
use Rattle.abi_machine.proofs.sound.places.Moving.{given_so, behind_says, unless_so, refused_so, entry_so, subtask_so, charged_so, begun_so, cancelled_so, back_so, leaving_so, IsKnownIn, moved_so, arriving_so, instantiating_so, none_received_so, cancel_received_so, delivering_so, resuming_so, meets_so, lowers_so}

-- tests that are passed, with what they tell
unless_eq : (t : ℕ) (b : Bool) (why : TrapName) (w : World) (more : Turn) → (b ≡ false → GoesWell more) → GoesWell (unless t b why w more)
unless_eq t true why w more h = tt
unless_eq t false why w more h = h refl

refused_eq : {A : Type 0} (t : ℕ) (r : Result A TrapName) (w : World) (f : A → Turn) → ((x : A) → r ≡ Ok x → GoesWell (f x)) → GoesWell (unless_refused t r w f)
refused_eq t (Err why) w f h = tt
refused_eq t (Ok x) w f h = h x refl

either_eq : (b : Bool) (t u : Turn) → (b ≡ true → GoesWell t) → (b ≡ false → GoesWell u) → GoesWell (if b then t else u)
either_eq true t u h i = h refl
either_eq false t u h i = i refl

not_false : (b : Bool) → not b ≡ false → b ≡ true
not_false true e = refl
not_false false e = cc

-- Built-ins.
destroyed_so : (t i number : ℕ) (words : List ℕ) (resource : ℕ) (r : Resource) (destructor : Option FuncRef) (rep : ℕ) (w : World) → GoesWell (destroyed t i number words resource r destructor rep w)
unfolding destroyed destroyed_here
destroyed_so t i number words resource r None rep w = unless_so t (not (nat_eq r.instance i) && is_reentrant w r.instance t) trap.Reentrant w _ tt
destroyed_so t i number words resource r (Some ref) rep w =
    either_well (nat_eq r.instance i) _ _ (given_so (found_at w.store.funcs (func_address w.store ref)) _ (λ function. tt))
    (begun_so t number words (Destroys resource (destructor_of r.instance ref)) (destructor_of r.instance ref) (rep ∷ []) w)

dropped_so : (g : Graph) (t i number : ℕ) (words : List ℕ) (x : Handle) (o : Ownership) (w : World) → GoesWell (dropped g t i number words x o w)
unfolding dropped
dropped_so g t i number words x (Borrow task) w = tt
dropped_so g t i number words x Own w = given_so (resource_at g x.resource) _ (λ (r : Resource). destroyed_so t i number words x.resource r r.destructor x.rep w)

resource_so : (g : Graph) (t i number : ℕ) (op : ResourceOp) (resource : ℕ) (words : List ℕ) (w : World) → GoesWell (resource_turn g t i number op resource words w)
unfolding resource_turn resource_new_turn resource_drop_turn
resource_so g t i number resource_op.New resource words w = entry_so t i (OwnHandle resource (slice_index words 0)) w (λ index v. replied t (index ∷ []) v) (λ index v. tt)
resource_so g t i number resource_op.Drop resource words w =
    let answer : Result Handle TrapName = renamed refusal_name (dropped_in (view_at w i (slice_index words 0)) resource) in
    refused_so t answer w (λ (x : Handle). dropped g t i number words x x.ownership (entry_removed i (slice_index words 0) w)) (λ (x : Handle). dropped_so g t i number words x x.ownership (entry_removed i (slice_index words 0) w))
resource_so g t i number resource_op.Rep resource words w = tt

return_so : (g : Graph) (t : ℕ) (task : Task) (i : ℕ) (result : Option ValType) (options : Options) (words : List ℕ) (w : World) → IsKnownIn g w.store task → GoesWell (return_turn g t task i result options words w)
unfolding return_turn return_checked
return_so g t task i result options words w known =
    fault_well t task_name (asking_fault (task_view g w t task)) w _ (given_well (func_of task.callee) _ (λ f e.
    unless_eq t (not (same_held result f.func_type.result)) trap.WrongResult w _ (λ same.
    unless_so t (not (same_address (memory_of w.store options) (memory_of w.store f.options))) trap.WrongOptions w _
    (resolves_well g w.store t task f Replies (result_passed i t flat_param_limit result options words w) (known f e).0 (known f e).1 e
    (result_says i t flat_param_limit (held_list f.func_type.result ≡ true) result (λ holds. ap held_list (sym (held_same result f.func_type.result (not_false (same_held result f.func_type.result) same))) ∙ holds) options words w)
    (result_same g w.store i t flat_param_limit result options words w refl)))))

cancel_so : (g : Graph) (t i number : ℕ) (words : List ℕ) (w : World) → GoesWell (subtask_cancel_turn g t i number words w)
unfolding subtask_cancel_turn cancel_asked
cancel_so g t i number words w =
    refused_so t (subtask_at w i (slice_index words 0)) w _ (λ callee. subtask_so w callee _ (λ (task : Task) (subtask : Subtask).
    unless_so t (is_over subtask.told) trap.Delivered w _ (unless_so t (not (is_unasked task.cancellation)) trap.Asked w _
    (either_well (has_resolved task) _ _ tt (cancelled_so g callee task Back (in_state t (AfterCancel callee number words) w) tt)))))

subtask_drop_so : (t i index : ℕ) (w : World) → GoesWell (subtask_drop_turn t i index w)
unfolding subtask_drop_turn
subtask_drop_so t i index w =
    refused_so t (subtask_at w i index) w _ (λ callee. subtask_so w callee _ (λ (task : Task) (subtask : Subtask). unless_so t (not (is_over subtask.told)) trap.NotDelivered w _ tt))

set_drop_so : (t i index : ℕ) (w : World) → GoesWell (set_drop_turn t i index w)
unfolding set_drop_turn
set_drop_so t i index w =
    refused_so t (set_at w i index) w _ (λ set. refused_so t (renamed set_name (drop_answer (view_of_set w i index set))) w (λ done. replied t [] (entry_removed i index w)) (λ done. tt))

joins_so : (t i index other : ℕ) (w : World) → GoesWell (joins t i index other w)
unfolding joins
joins_so t i index zero w = tt
joins_so t i index (suc other) w = refused_so t (set_at w i (suc other)) w _ (λ set. tt)

join_so : (t i index other : ℕ) (w : World) → GoesWell (join_turn t i index other w)
unfolding join_turn
join_so t i index other w = refused_so t (waitable_at w i index) w _ (λ there. joins_so t i index other w)

plain_so : (g : Graph) (t : ℕ) (task : Task) (i number : ℕ) (op : PlainBuiltin) (words : List ℕ) (w : World) → GoesWell (plain_turn g t task i number op words w)
unfolding plain_turn task_cancel_turn pressure_set_turn pressure_inc_turn pressure_dec_turn yield_turn yield_cancelled set_new_turn
plain_so g t task i number plain.TaskCancel words w = fault_well t task_name (cancel_fault (task_view g w t task)) w _ tt
plain_so g t task i number plain.BackpressureSet words w = tt
plain_so g t task i number plain.BackpressureInc words w = unless_so t (nat_le most_backpressure (backpressure_of w i)) trap.PressureLimit w _ tt
plain_so g t task i number plain.BackpressureDec words w = unless_so t (nat_eq (backpressure_of w i) 0) trap.PressureZero w _ tt
plain_so g t task i number (plain.SubtaskCancel is_async) words w = cancel_so g t i number words w
plain_so g t task i number plain.SubtaskDrop words w = subtask_drop_so t i (slice_index words 0) w
plain_so g t task i number (plain.Yield cancellable) words w = either_well (cancellable && is_asked task.cancellation) _ _ tt (behind_says (drop 1 w.chain))
plain_so g t task i number plain.WaitableSetNew words w = entry_so t i (OfSet (length (sets_in (slice_get w.insts i)))) w (λ index v. replied t (index ∷ []) (set_made i v)) (λ index v. tt)
plain_so g t task i number plain.WaitableSetDrop words w = set_drop_so t i (slice_index words 0) w
plain_so g t task i number plain.WaitableJoin words w = join_so t i (slice_index words 0) (slice_index words 1) w

none_ready_so : (g : Graph) (t : ℕ) (f : Lifted) (op : WaitOp) (number : ℕ) (words : List ℕ) (w : World) → GoesWell (none_ready g t f op number words w)
unfolding none_ready
none_ready_so g t f wait_op.Poll number words w = none_received_so g t f (InWait number words) w
none_ready_so g t f wait_op.Wait number words w = behind_says (drop 1 w.chain)

by_ready_so : (g : Graph) (t : ℕ) (f : Lifted) (op : WaitOp) (number : ℕ) (words : List ℕ) (set : ℕ) (members : List ℕ) (w : World) → GoesWell (by_ready g t f op number words set members w)
unfolding by_ready
by_ready_so g t f op number words set [] w = none_ready_so g t f op number words w
by_ready_so g t f op number words set (index ∷ members) w = tt

wait_so : (g : Graph) (t : ℕ) (task : Task) (i : ℕ) (op : WaitOp) (number : ℕ) (words : List ℕ) (w : World) → GoesWell (wait_turn g t task i op number words w)
unfolding wait_turn event_turn
wait_so g t task i op number words w =
    refused_so t (set_at w i (slice_index words 0)) w _ (λ set. given_so (func_of task.callee) _ (λ (f : Lifted).
    unless_so t (not (nat_eq (slice_index words 1 % event_align) 0)) trap.Misaligned w _
    (unless_so t (not (nat_le (slice_index words 1 + event_size) (length (bytes_of w.store (memory_of w.store (options_at g number)))))) trap.Bounds w _
    (either_well (is_cancelled g task number) _ _ (cancel_received_so g t f (InWait number words) w) (by_ready_so g t f op number words set (ready w i set) w)))))

placed_so : (t : ℕ) (bytes : List ℕ) (element : Option ValType) (place size : ℕ) (w : World) (more : Turn) → GoesWell more → GoesWell (placed_well t bytes element place size w more)
unfolding placed_well
placed_so t bytes None place size w more h = h
placed_so t bytes (Some element) place size w more h =
    either_well (nat_eq size 0) _ _ h (unless_so t (not (nat_eq (place % (laid element).align) 0)) trap.Misaligned w _
    (unless_so t (not (nat_le (place + size * (laid element).size) (length bytes))) trap.Bounds w _ h))

end_so : (g : Graph) (t i number : ℕ) (what : EndKind) (element : Option ValType) (op : EndOp) (words : List ℕ) (w : World) → HasGivers g w.store → CopiesFit g w.streams w.futures → IsKind g number (kind.End what element op) → GoesWell (end_turn g t i number what element op words w)
unfolding end_turn channel_new_turn ends_added copy_turn copy_cancel_turn end_drop_turn
end_so g t i number what element end_op.New words w givers fit is =
    let v : World = channel_made what element w in
    let made : ℕ = length (channels what w) + 1 in
    entry_so t i (OfEnd (end_ref what made Reader)) v (λ readable x. with_entry t i (OfEnd (end_ref what made Writer)) x (λ writable y. replied t (both_indices readable writable ∷ []) y))
    (λ readable x. entry_so t i (OfEnd (end_ref what made Writer)) x (λ writable y. replied t (both_indices readable writable ∷ []) y) (λ writable y. tt))
end_so g t i number what element (end_op.Copy side options) words w givers fit is =
    refused_eq t (end_at w what (side_of side) element i (slice_index words 0)) w _ (λ e found.
    unless_so t (is_copying (end_of w e)) trap.Busy w _ (unless_so t (end_of w e).done trap.DoneEnd w _
    (unless_so t (nat_lt max_length (copy_size what words)) trap.TooLong w _
    (placed_so t (bytes_of w.store (memory_of w.store options)) element (slice_index words 1) (copy_size what words) w
    (meets g t i e (new_copy (by.Task t) number (slice_index words 1) (copy_size what words)) words (slice_index words 0) w)
    (meets_so g t i e (new_copy (by.Task t) number (slice_index words 1) (copy_size what words)) words (slice_index words 0) w givers
    (copies_at g w i what (side_of side) element (slice_index words 0) number e (copy_is g number what element side options is) found) fit)))))
end_so g t i number what element (end_op.Cancel side is_async) words w givers fit is =
    refused_so t (end_at w what (side_of side) element i (slice_index words 0)) w _ (λ (e : EndRef). unless_so t (not (passes (is_async_copy g) (end_of w e).copy)) trap.NotCopying w _ tt)
end_so g t i number what element (end_op.Drop side) words w givers fit is =
    refused_so t (end_at w what (side_of side) element i (slice_index words 0)) w _ (λ (e : EndRef).
    unless_so t (is_copying (end_of w e)) trap.Busy w _ (unless_so t (is_unwritten what (side_of side) (end_of w e)) trap.UnwrittenFuture w _ tt))

builtin_so : (g : Graph) (t : ℕ) (task : Task) (i number : ℕ) (k : BuiltinKind) (words : List ℕ) (w : World) → HasGivers g w.store → CopiesFit g w.streams w.futures → IsKnownIn g w.store task → IsKind g number k → GoesWell (builtin_turn g t task i number k words w)
unfolding builtin_turn
builtin_so g t task i number (kind.Resource op resource) words w givers fit known is = resource_so g t i number op resource words w
builtin_so g t task i number (kind.TaskReturn result options) words w givers fit known is = return_so g t task i result options words w known
builtin_so g t task i number (kind.Plain op) words w givers fit known is = plain_so g t task i number op words w
builtin_so g t task i number (kind.Context op slot) words w givers fit known is = tt
builtin_so g t task i number (kind.Wait op cancellable memory) words w givers fit known is = wait_so g t task i op number words w
builtin_so g t task i number (kind.End what element op) words w givers fit known is = end_so g t i number what element op words w givers fit is

reply_so : (g : Graph) (t : ℕ) (task : Task) (number : ℕ) (c : CanonFunc) (words : List ℕ) (w : World) → HasGivers g w.store → CopiesFit g w.streams w.futures → IsKnownIn g w.store task → canon_at g number ≡ Some c
    → GoesWell (reply g t task number c words w)
unfolding reply
reply_so g t task number (canon.Lower l) words w givers fit known at = begun_so t number words (Func (lifted_of l)) (lifted_of l) words w
reply_so g t task number (canon.Builtin b) words w givers fit known at = builtin_so g t task b.instance number b.kind words w givers fit known (b, at, refl)

exempt_so : (t : ℕ) (r : Result Answers TrapName) (w : World) → GoesWell (exempt_turn t r w)
unfolding exempt_turn
exempt_so t (Err why) w = tt
exempt_so t (Ok answer) w = tt

allowed_so : (g : Graph) (t : ℕ) (task : Task) (number : ℕ) (c : CanonFunc) (words : List ℕ) (o : Option Exempt) (w : World) → (may_leave w ≡ true → HasGivers g w.store) → CopiesFit g w.streams w.futures → IsKnownIn g w.store task
    → canon_at g number ≡ Some c → GoesWell (allowed g t task number c words o w)
unfolding allowed
allowed_so g t task number c words (Some exempt) w givers fit known at = exempt_so t (exempt w) w
allowed_so g t task number c words None w givers fit known at = either_eq (may_leave w) _ _ (λ done. reply_so g t task number c words w (givers done) fit known at) (λ e. tt)

pub calling_so : (g : Graph) (number : ℕ) (words : List ℕ) (w : World) → (may_leave w ≡ true → HasGivers g w.store) → CopiesFit g w.streams w.futures → ((a : ℕ × Task) → acting w ≡ Some a → IsKnownIn g w.store a.1)
    → GoesWell (calling_turn g number words w)
unfolding calling_turn
calling_so g number words w givers fit known =
    given_well (acting w) _ (λ a e. given_well (canon_at g number) _ (λ c at.
    behind_well (line.Do a.0 (builtin_of c) words ∷ []) (allowed g a.0 a.1 number c words (exempt_of a.0 words c) w) (allowed_so g a.0 a.1 number c words (exempt_of a.0 words c) w givers fit (known a e) at)))

-- Nested code.
nested_ended_so : (b : Behind) (words : List ℕ) (w : World) → BehindAsks b → GoesWell (nested_ended b words w)
unfolding nested_ended
nested_ended_so (InLowering l k) (place ∷ words) w h = h place
nested_ended_so (InLowering l k) [] w h = tt
nested_ended_so BeforeLeaving words w h = tt

in_place_so : (n : Nested) (b : Behind) (k : Stack) (r : Result Answers TrapName) (w : World) → BehindAsks b → GoesWell (answered_in_place n b k r w)
unfolding answered_in_place
in_place_so n b k (Err why) w h = tt
in_place_so n b k (Ok answer) w h = h

or_refused_so : (n : Nested) (b : Behind) (k : Stack) (o : Option Exempt) (w : World) → BehindAsks b → GoesWell (answered_or_refused n b k o w)
unfolding answered_or_refused
or_refused_so n b k None w h = tt
or_refused_so n b k (Some exempt) w h = in_place_so n b k (exempt w) w h

host_so : (n : Nested) (b : Behind) (k : Stack) (words : List ℕ) (c : CanonFunc) (w : World) → BehindAsks b → GoesWell (calls_host n b k words c w)
unfolding calls_host
host_so n b k words c w h =
    either_well (nat_eq (inst_of_canon c) n.inst) _ _
    (behind_well (line.Do n.acts_for (builtin_of c) words ∷ []) (answered_or_refused n b k (exempt_of n.acts_for words c) w) (or_refused_so n b k (exempt_of n.acts_for words c) w h)) tt

hosted_so : (g : Graph) (s : Script) (n : Nested) (b : Behind) (t : HostedTurn) (w : World) → BehindAsks b → GoesWell (hosted g s n b t w)
unfolding hosted
hosted_so g s n b (On paid state store) w h = charged_so paid s w (λ v. silent (Quiet (record n { state = state }) b) (with_store store v)) (λ units. h)
hosted_so g s n b (EndsIn words) w h = nested_ended_so b words w h
hosted_so g s n b (TrapsBy why) w h = charged_so true s w (λ v. doomed n.blame (core_name why) v) (λ units. tt)
hosted_so g s n b (CallsHost number words k) w h =
    given_so (canon_at g number) (λ c. calls_host n b k words c w) (λ c. host_so n b k words c w h)
hosted_so g s n b NoRule w h = tt

nested_so : (g : Graph) (s : Script) (n : Nested) (b : Behind) (w : World) → BehindAsks b → GoesWell (nested_turn g s n b w)
unfolding nested_turn
nested_so g s n b w h = hosted_so g s n b (hosted_next n.state w.store) w h

-- Turns that cost.
running_so : (g : Graph) (s : Script) (w : World) → ((a : ℕ × Task) → acting w ≡ Some a → IsKnownIn g w.store a.1) → GoesWell (running_turn g s w)
unfolding running_turn
running_so g s w known =
    given_well (acting w) _ (λ a e. given_so (slice_get a.1.stacks 0) _ (λ (k : Stack).
    charged_so (costs k (core.next w.store k)) s w (λ v. moved g a.0 a.1 (core.next w.store k) v) (λ units. moved_so g w.store a.0 a.1 (core.next w.store k) (record w { units = units }) refl (known a e))))

going_so : (s : Script) (w : World) → GoesWell (going_turn s w)
unfolding going_turn gone
going_so s w = given_so (acting w) _ (λ (a : ℕ × Task). charged_so true s w (λ v. gone a.0 v) (λ units. tt))

item_so : (g : Graph) (s : Script) (i : Item) (w : World) → GoesWell (item_turn g s i w)
unfolding item_turn call_taken cancel_taken
item_so g s (item.Call call) w = given_so (func_named g call.name) _ (λ f. tt)
item_so g s (item.Cancel call) w =
    let v : World = item_taken w in
    given_so (task_of_call call w) _ (λ (found : ℕ × Task).
    behind_well (line.Cancel call ∷ []) (if may_cancel (task_view g v found.0 found.1) then cancelled_turn g found.0 found.1 Free v else silent Free v)
    (either_well (may_cancel (task_view g v found.0 found.1)) (cancelled_turn g found.0 found.1 Free v) (silent Free v) (cancelled_so g found.0 found.1 Free v tt) tt))

alternative_so : (g : Graph) (s : Script) (a : Alternative) (w : World) → GoesWell (alternative_turn g s a w)
unfolding alternative_turn gone
alternative_so g s (Takes i) w = charged_so true s w (λ v. item_turn g s i v) (λ units. item_so g s i (record w { units = units }))
alternative_so g s (GoesOn t) w = charged_so true s w (λ v. gone t (chained t v)) (λ units. tt)

chosen_so : (g : Graph) (s : Script) (k : ℕ) (w : World) → GoesWell (chosen_turn g s k w)
unfolding chosen_turn
chosen_so g s k w = given_so (slice_get (alternatives g s w) k) _ (λ a. alternative_so g s a w)

one_so : (g : Graph) (s : Script) (all : List Alternative) (w : World) → GoesWell (one_of g s all w)
unfolding one_of chosen
one_so g s [] w = tt
one_so g s (a ∷ []) w = alternative_so g s a w
one_so g s (a ∷ other ∷ others) w = tt

free_so : (g : Graph) (s : Script) (w : World) → GoesWell (free_turn g s w)
unfolding free_turn
free_so g s w = one_so g s (alternatives g s w) w

-- The machine.
pub each_so : (g : Graph) (s : Script) (w : World) (c : Control) → (may_leave w ≡ true → HasGivers g w.store) → CopiesFit g w.streams w.futures → ((a : ℕ × Task) → acting w ≡ Some a → IsKnownIn g w.store a.1) → AsksWell c → GoesWell (next_by g s w c)
each_so g s w Free givers fit known h = free_so g s w
each_so g s w (Chosen k) givers fit known h = chosen_so g s k w
each_so g s w (Instantiates n) givers fit known h = instantiating_so g n w
each_so g s w Runs givers fit known h = running_so g s w known
each_so g s w (Calls number words) givers fit known h = calling_so g number words w givers fit known
each_so g s w Arrives givers fit known h = arriving_so g w known
each_so g s w (Lowers l plan) givers fit known h = lowers_so l plan w h
each_so g s w (Quiet n b) givers fit known h = nested_so g s n b w h
each_so g s w Back givers fit known h = back_so g w
each_so g s w Goes givers fit known h = going_so s w
each_so g s w Resumes givers fit known h = resuming_so g w known
each_so g s w (Delivers set receiver pick) givers fit known h = delivering_so g s set receiver pick w
each_so g s w Leaves givers fit known h = leaving_so w
each_so g s w (Doomed t why) givers fit known h = tt
