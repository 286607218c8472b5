-- Built-ins, nested code and the scheduler answer words of the types that are asked for; and so does the machine.
use Rattle.std.proofs.Common.{◌≡◌, ◌<◌, ◌≤◌, ◌^◌, option_map, arith, ℕ, Bool, zero, suc, ◌+◌, ◌*◌, ◌%◌, ◌&&◌, true, false, not, nat_eq, nat_lt, nat_le, List, [], ◌∷◌, length, refl, Option, Some, None, Result, Ok, Err, if◌then◌else◌}
use Rattle.std.specs.Prelude.{slice_index}
use Rattle.std.specs.List.{slice_get}
use Rattle.wasm_store.specs.Store.{found_at}
use Rattle.syntax_trees.specs.declared.types.ValType.{ValType}
use Rattle.laid_types.specs.Layout.{laid}
use Rattle.builtin_kinds.specs.declared.EndKind.{EndKind}
use Rattle.builtin_kinds.specs.declared.ResourceOp.{ResourceOp}
use Rattle.builtin_kinds.specs.declared.ResourceOp.TheVariants as resource_op
use Rattle.builtin_kinds.specs.declared.PlainBuiltin.{PlainBuiltin}
use Rattle.builtin_kinds.specs.declared.PlainBuiltin.TheVariants as plain
use Rattle.builtin_kinds.specs.declared.WaitOp.{WaitOp}
use Rattle.builtin_kinds.specs.declared.WaitOp.TheVariants as wait_op
use Rattle.res_handles.specs.declared.handle.Handle.{Handle}
use Rattle.res_handles.specs.declared.handle.Ownership.{Ownership}
use Rattle.res_handles.specs.declared.handle.Ownership.TheVariants.{Own, Borrow}
use Rattle.res_handles.specs.Refusals.{dropped_in}
use Rattle.waitables.specs.Sets.{drop_answer}
use Rattle.stream_ends.specs.declared.side.Side.TheVariants.{Reader, Writer}
use Rattle.stream_ends.specs.declared.open_copy.By.TheVariants as by
use Rattle.stream_ends.specs.Ends.{is_copying, new_copy}
use Rattle.tasks.specs.Tasks.{asking_fault, cancel_fault, is_asked, is_unasked}
use Rattle.tasks.specs.Subtasks.{is_over}
use Rattle.comp_graph.specs.declared.graph.FuncRef.{FuncRef}
use Rattle.comp_graph.specs.declared.graph.Options.{Options}
use Rattle.comp_graph.specs.declared.graph.Resource.{Resource}
use Rattle.comp_graph.specs.declared.graph.EndOp.{EndOp}
use Rattle.comp_graph.specs.declared.graph.EndOp.TheVariants as end_op
use Rattle.comp_graph.specs.declared.graph.BuiltinKind.{BuiltinKind}
use Rattle.comp_graph.specs.declared.graph.BuiltinKind.TheVariants as kind
use Rattle.comp_graph.specs.declared.graph.CanonFunc.{CanonFunc}
use Rattle.comp_graph.specs.declared.graph.CanonFunc.TheVariants as canon
use Rattle.comp_graph.specs.Needs.{flat_param_limit}
use Rattle.comp_graph.specs.Graph.{Graph, Lifted}
use Rattle.trace_labels.specs.declared.trap.TrapName.{TrapName}
use Rattle.trace_labels.specs.declared.trap.TrapName.TheVariants as trap
use Rattle.abi_machine.specs.Control.{EndRef, Replies, InWait, Back}
use Rattle.abi_machine.specs.Traps.{task_name, set_name, refusal_name, renamed}
use Rattle.abi_machine.specs.Canons.{func_address, memory_of, bytes_of, options_at, resource_at, lifted_of, destructor_of}
use Rattle.abi_machine.specs.Reading.{sets_in, backpressure_of, channels, func_of, is_reentrant, may_leave}
use Rattle.abi_machine.specs.Counting.{passes, task_view, has_resolved, end_of, ready, view_at}
use Rattle.abi_machine.specs.SameTypes.{same_held}
use Rattle.abi_machine.specs.Finding.{subtask_at, set_at, waitable_at, end_at}
use Rattle.abi_machine.specs.Turn.{Turn, replied, with_entry}
use Rattle.abi_machine.specs.Reply.{resource_turn, plain_turn, side_of, copy_size, end_turn, builtin_turn, reply, exempt_turn, allowed}
use Rattle.abi_machine.specs.Returning.{result_passed}
use Rattle.abi_machine.specs.replies.Context.{Answers, Exempt, exempt_of}
use Rattle.abi_machine.specs.replies.Pressure.{most_backpressure, pressure_inc_turn, pressure_dec_turn, pressure_set_turn}
use Rattle.abi_machine.specs.replies.Resources.{resource_new_turn, destroyed_here, destroyed, dropped, resource_drop_turn}
use Rattle.abi_machine.specs.replies.Subtasks.{cancel_asked, subtask_cancel_turn, subtask_drop_turn}
use Rattle.abi_machine.specs.replies.Tasks.{same_address, return_checked, return_turn, task_cancel_turn, yield_turn}
use Rattle.abi_machine.specs.replies.Waiting.{event_size, event_align, is_cancelled, view_of_set, set_new_turn, none_ready, by_ready, event_turn, wait_turn, set_drop_turn, joins, join_turn}
use Rattle.abi_machine.specs.replies.Streams.{both_indices, end_ref, max_length, is_async_copy, is_unwritten, ends_added, channel_new_turn, placed_well, copy_cancel_turn, end_drop_turn}
use Rattle.syntax_trees.specs.declared.module_types.ValType as core_types
use Rattle.syntax_trees.specs.declared.module_types.ValType.TheVariants.{I64}
use Rattle.wasm_numbers.specs.Types.{AreWords}
use Rattle.builtin_kinds.specs.declared.EndKind.TheVariants.{Stream, Future}
use Rattle.builtin_kinds.specs.declared.ContextOp.TheVariants as context_op
use Rattle.res_handles.specs.declared.refusal.Refusal.TheVariants.{OtherType}
use Rattle.res_handles.specs.Refusals.{handle_in, rep_of}
use Rattle.stream_ends.specs.declared.side.Side.{Side}
use Rattle.comp_graph.specs.Graph.{resource_type, plain_type, copy_type, end_type, builtin_type, canon_type}
use Rattle.abi_machine.specs.World.{Entry, OwnHandle, BorrowHandle, OfSubtask, OfSet, OfEnd, Func, Destroys, Subtask, AfterCancel, Task, World}
use Rattle.abi_machine.specs.Edits.{entry_removed, set_made, in_state, channel_made}
use Rattle.abi_machine.specs.Reading.{entry_at, task_at}
use Rattle.abi_machine.specs.Counting.{payload_of, end_view, entry_view}
use Rattle.abi_machine.specs.Copying.{meets}
use Rattle.abi_machine.specs.replies.Context.{rep_answered, rep_answer, word_of, exempt_kind}
use Rattle.abi_machine.specs.replies.Streams.{copy_turn}
use Rattle.abi_machine.specs.sound.Answers.{IsOneWord, IsInRange}
use Rattle.abi_machine.specs.sound.Copies.{IsCopied}
use Rattle.abi_machine.specs.sound.Tables.{HaveHistories}
use Rattle.abi_machine.proofs.sound.answers.Words.{payload_small}
use Rattle.abi_machine.proofs.sound.answers.Moving.{one_word, Fits, less_answers, given_fits, either_fits, unless_fits, fault_fits, refused_fits, subtask_fits, begun_fits, cancelled_fits, resolves_fits, result_fits, none_received_fits, cancel_received_fits, yield_cancelled_fits}
use Rattle.abi_machine.proofs.sound.answers.Waking.{entry_fits, meets_fits}

-- An index.
index_word : (index : ℕ) → index ≤ 65535 → IsOneWord (index ∷ [])
index_word index h = one_word index (omega (arith, h))

made_history : (kind : EndKind) (element : Option ValType) (w : World) → HaveHistories w.insts → HaveHistories (channel_made kind element w).insts
made_history Stream element w h = h
made_history Future element w h = h

-- Built-ins.
abbrev Ofs : List core_types.ValType → Turn → Type 0
Ofs types t = Fits (AreWords types) t

destroyed_fits : (t i number : ℕ) (words : List ℕ) (resource : ℕ) (r : Resource) (destructor : Option FuncRef) (rep : ℕ) (w : World) → Ofs [] (destroyed t i number words resource r destructor rep w)
unfolding destroyed destroyed_here
destroyed_fits t i number words resource r None rep w = unless_fits (AreWords []) t (not (nat_eq r.instance i) && is_reentrant w r.instance t) trap.Reentrant w _ (tt, tt)
destroyed_fits t i number words resource r (Some ref) rep w =
    either_fits (AreWords []) (nat_eq r.instance i) _ _ (given_fits (AreWords []) (found_at w.store.funcs (func_address w.store ref)) _ (λ function e. tt))
    (begun_fits (AreWords []) t number words (Destroys resource (destructor_of r.instance ref)) (destructor_of r.instance ref) (rep ∷ []) w)

dropped_fits : (g : Graph) (t i number : ℕ) (words : List ℕ) (x : Handle) (o : Ownership) (w : World) → Ofs [] (dropped g t i number words x o w)
unfolding dropped
dropped_fits g t i number words x (Borrow task) w = (tt, tt)
dropped_fits g t i number words x Own w = given_fits (AreWords []) (resource_at g x.resource) _ (λ (r : Resource) e. destroyed_fits t i number words x.resource r r.destructor x.rep w)

resource_fits : (g : Graph) (t i number : ℕ) (op : ResourceOp) (resource : ℕ) (words : List ℕ) (w : World) → HaveHistories w.insts → Ofs (resource_type op).results (resource_turn g t i number op resource words w)
unfolding resource_turn resource_new_turn resource_drop_turn
resource_fits g t i number resource_op.New resource words w history =
    entry_fits IsOneWord t i (OwnHandle resource (slice_index words 0)) w (λ index v. replied t (index ∷ []) v) history (λ index v small more. (index_word index small, tt))
resource_fits g t i number resource_op.Drop resource words w history =
    let answer : Result Handle TrapName = renamed refusal_name (dropped_in (view_at w i (slice_index words 0)) resource) in
    refused_fits (AreWords []) t answer w (λ (x : Handle). dropped g t i number words x x.ownership (entry_removed i (slice_index words 0) w)) (λ (x : Handle). dropped_fits g t i number words x x.ownership (entry_removed i (slice_index words 0) w))
resource_fits g t i number resource_op.Rep resource words w history = tt

return_fits : (g : Graph) (t : ℕ) (task : Task) (i : ℕ) (result : Option ValType) (options : Options) (words : List ℕ) (w : World) → Ofs [] (return_turn g t task i result options words w)
unfolding return_turn return_checked
return_fits g t task i result options words w =
    fault_fits (AreWords []) t task_name (asking_fault (task_view g w t task)) w _ (given_fits (AreWords []) (func_of task.callee) _ (λ f e.
    unless_fits (AreWords []) t (not (same_held result f.func_type.result)) trap.WrongResult w _
    (unless_fits (AreWords []) t (not (same_address (memory_of w.store options) (memory_of w.store f.options))) trap.WrongOptions w _
    (resolves_fits (AreWords []) g t task Replies (result_passed i t flat_param_limit result options words w) (λ words h. h) (result_fits (AreWords []) i t flat_param_limit result options words w)))))

cancel_fits : (g : Graph) (t i number : ℕ) (words : List ℕ) (w : World) → Fits IsOneWord (subtask_cancel_turn g t i number words w)
unfolding subtask_cancel_turn cancel_asked
cancel_fits g t i number words w =
    refused_fits IsOneWord t (subtask_at w i (slice_index words 0)) w _ (λ callee. subtask_fits IsOneWord w callee _ (λ (task : Task) (subtask : Subtask).
    unless_fits IsOneWord t (is_over subtask.told) trap.Delivered w _ (unless_fits IsOneWord t (not (is_unasked task.cancellation)) trap.Asked w _
    (either_fits IsOneWord (has_resolved task) _ _ tt (cancelled_fits IsOneWord g callee task Back (in_state t (AfterCancel callee number words) w))))))

subtask_drop_fits : (t i index : ℕ) (w : World) → Ofs [] (subtask_drop_turn t i index w)
unfolding subtask_drop_turn
subtask_drop_fits t i index w =
    refused_fits (AreWords []) t (subtask_at w i index) w _ (λ callee. subtask_fits (AreWords []) w callee _ (λ (task : Task) (subtask : Subtask). unless_fits (AreWords []) t (not (is_over subtask.told)) trap.NotDelivered w _ (tt, tt)))

set_drop_fits : (t i index : ℕ) (w : World) → Ofs [] (set_drop_turn t i index w)
unfolding set_drop_turn
set_drop_fits t i index w =
    refused_fits (AreWords []) t (set_at w i index) w _ (λ set. refused_fits (AreWords []) t (renamed set_name (drop_answer (view_of_set w i index set))) w (λ done. replied t [] (entry_removed i index w)) (λ done. (tt, tt)))

joins_fit : (t i index other : ℕ) (w : World) → Ofs [] (joins t i index other w)
unfolding joins
joins_fit t i index zero w = (tt, tt)
joins_fit t i index (suc other) w = refused_fits (AreWords []) t (set_at w i (suc other)) w _ (λ set. (tt, tt))

join_fits : (t i index other : ℕ) (w : World) → Ofs [] (join_turn t i index other w)
unfolding join_turn
join_fits t i index other w = refused_fits (AreWords []) t (waitable_at w i index) w _ (λ there. joins_fit t i index other w)

plain_fits : (g : Graph) (t : ℕ) (task : Task) (i number : ℕ) (op : PlainBuiltin) (words : List ℕ) (w : World) → HaveHistories w.insts → Ofs (plain_type op).results (plain_turn g t task i number op words w)
unfolding plain_turn task_cancel_turn pressure_set_turn pressure_inc_turn pressure_dec_turn yield_turn set_new_turn
plain_fits g t task i number plain.TaskCancel words w history = fault_fits (AreWords []) t task_name (cancel_fault (task_view g w t task)) w _ (tt, (tt, tt))
plain_fits g t task i number plain.BackpressureSet words w history = (tt, tt)
plain_fits g t task i number plain.BackpressureInc words w history = unless_fits (AreWords []) t (nat_le most_backpressure (backpressure_of w i)) trap.PressureLimit w _ (tt, tt)
plain_fits g t task i number plain.BackpressureDec words w history = unless_fits (AreWords []) t (nat_eq (backpressure_of w i) 0) trap.PressureZero w _ (tt, tt)
plain_fits g t task i number (plain.SubtaskCancel is_async) words w history = cancel_fits g t i number words w
plain_fits g t task i number plain.SubtaskDrop words w history = subtask_drop_fits t i (slice_index words 0) w
plain_fits g t task i number (plain.Yield cancellable) words w history =
    either_fits IsOneWord (cancellable && is_asked task.cancellation) _ _ (yield_cancelled_fits IsOneWord t w (one_word 1 (omega arith))) (tt, tt)
plain_fits g t task i number plain.WaitableSetNew words w history =
    entry_fits IsOneWord t i (OfSet (length (sets_in (slice_get w.insts i)))) w (λ index v. replied t (index ∷ []) (set_made i v)) history (λ index v small more. (index_word index small, tt))
plain_fits g t task i number plain.WaitableSetDrop words w history = set_drop_fits t i (slice_index words 0) w
plain_fits g t task i number plain.WaitableJoin words w history = join_fits t i (slice_index words 0) (slice_index words 1) w

none_ready_fits : (g : Graph) (t : ℕ) (f : Lifted) (op : WaitOp) (number : ℕ) (words : List ℕ) (w : World) → Fits IsOneWord (none_ready g t f op number words w)
unfolding none_ready
none_ready_fits g t f wait_op.Poll number words w = none_received_fits IsOneWord g t f (InWait number words) w (λ words h. h)
none_ready_fits g t f wait_op.Wait number words w = (tt, tt)

by_ready_fits : (g : Graph) (t : ℕ) (f : Lifted) (op : WaitOp) (number : ℕ) (words : List ℕ) (set : ℕ) (members : List ℕ) (w : World) → Fits IsOneWord (by_ready g t f op number words set members w)
unfolding by_ready
by_ready_fits g t f op number words set [] w = none_ready_fits g t f op number words w
by_ready_fits g t f op number words set (index ∷ members) w = tt

wait_fits : (g : Graph) (t : ℕ) (task : Task) (i : ℕ) (op : WaitOp) (number : ℕ) (words : List ℕ) (w : World) → Fits IsOneWord (wait_turn g t task i op number words w)
unfolding wait_turn event_turn
wait_fits g t task i op number words w =
    refused_fits IsOneWord t (set_at w i (slice_index words 0)) w _ (λ set. given_fits IsOneWord (func_of task.callee) _ (λ (f : Lifted) e.
    unless_fits IsOneWord t (not (nat_eq (slice_index words 1 % event_align) 0)) trap.Misaligned w _
    (unless_fits IsOneWord t (not (nat_le (slice_index words 1 + event_size) (length (bytes_of w.store (memory_of w.store (options_at g number)))))) trap.Bounds w _
    (either_fits IsOneWord (is_cancelled g task number) _ _ (cancel_received_fits IsOneWord g t f (InWait number words) w (λ words h. h)) (by_ready_fits g t f op number words set (ready w i set) w)))))

placed_fits : (t : ℕ) (bytes : List ℕ) (element : Option ValType) (place size : ℕ) (w : World) (more : Turn) → Fits IsOneWord more → Fits IsOneWord (placed_well t bytes element place size w more)
unfolding placed_well
placed_fits t bytes None place size w more h = h
placed_fits t bytes (Some element) place size w more h =
    either_fits IsOneWord (nat_eq size 0) _ _ h (unless_fits IsOneWord t (not (nat_eq (place % (laid element).align) 0)) trap.Misaligned w _
    (unless_fits IsOneWord t (not (nat_le (place + size * (laid element).size) (length bytes))) trap.Bounds w _ h))

copy_fits : (g : Graph) (t i number : ℕ) (what : EndKind) (side : Side) (element : Option ValType) (options : Options) (words : List ℕ) (size : ℕ) (w : World) → Fits IsOneWord (copy_turn g t i number what side element options words size w)
unfolding copy_turn
copy_fits g t i number what side element options words size w =
    refused_fits IsOneWord t (end_at w what side element i (slice_index words 0)) w _ (λ (e : EndRef).
    unless_fits IsOneWord t (is_copying (end_of w e)) trap.Busy w _ (unless_fits IsOneWord t (end_of w e).done trap.DoneEnd w _
    (unless_fits IsOneWord t (nat_lt max_length size) trap.TooLong w _
    (placed_fits t (bytes_of w.store (memory_of w.store options)) element (slice_index words 1) size w
    (meets g t i e (new_copy (by.Task t) number (slice_index words 1) size) words (slice_index words 0) w)
    (meets_fits IsOneWord g t i e (new_copy (by.Task t) number (slice_index words 1) size) words (slice_index words 0) w (λ words h. h))))))

copy_word : (what : EndKind) (words : List ℕ) → IsOneWord words → AreWords (copy_type what).results words
copy_word Stream words h = h
copy_word Future words h = h

end_fits : (g : Graph) (t i number : ℕ) (what : EndKind) (element : Option ValType) (op : EndOp) (words : List ℕ) (w : World) → HaveHistories w.insts → IsCopied w → Ofs (end_type what op).results (end_turn g t i number what element op words w)
unfolding end_turn channel_new_turn ends_added copy_cancel_turn end_drop_turn
end_fits g t i number what element end_op.New words w history copied =
    let v : World = channel_made what element w in
    let made : ℕ = length (channels what w) + 1 in
    entry_fits (AreWords (I64 ∷ [])) t i (OfEnd (end_ref what made Reader)) v (λ readable x. with_entry t i (OfEnd (end_ref what made Writer)) x (λ writable y. replied t (both_indices readable writable ∷ []) y)) (made_history what element w history)
    (λ readable x small more.
    entry_fits (AreWords (I64 ∷ [])) t i (OfEnd (end_ref what made Writer)) x (λ writable y. replied t (both_indices readable writable ∷ []) y) more
    (λ writable y less rest. (let k : readable + 2 ^ 32 * writable < 2 ^ 64 = omega (arith, small, less) in ((k, tt), tt))))
end_fits g t i number what element (end_op.Copy side options) words w history copied =
    less_answers IsOneWord (AreWords (copy_type what).results) (copy_word what) (copy_turn g t i number what (side_of side) element options words (copy_size what words) w)
    (copy_fits g t i number what (side_of side) element options words (copy_size what words) w)
end_fits g t i number what element (end_op.Cancel side is_async) words w history copied =
    refused_fits IsOneWord t (end_at w what (side_of side) element i (slice_index words 0)) w _ (λ (e : EndRef). unless_fits IsOneWord t (not (passes (is_async_copy g) (end_of w e).copy)) trap.NotCopying w _
    (one_word (payload_of w e) (payload_small w e copied), tt))
end_fits g t i number what element (end_op.Drop side) words w history copied =
    refused_fits (AreWords []) t (end_at w what (side_of side) element i (slice_index words 0)) w _ (λ (e : EndRef).
    unless_fits (AreWords []) t (is_copying (end_of w e)) trap.Busy w _ (unless_fits (AreWords []) t (is_unwritten what (side_of side) (end_of w e)) trap.UnwrittenFuture w _ (tt, tt)))

builtin_fits : (g : Graph) (t : ℕ) (task : Task) (i number : ℕ) (k : BuiltinKind) (words : List ℕ) (w : World) → HaveHistories w.insts → IsCopied w → Ofs (builtin_type k).results (builtin_turn g t task i number k words w)
unfolding builtin_turn
builtin_fits g t task i number (kind.Resource op resource) words w history copied = resource_fits g t i number op resource words w history
builtin_fits g t task i number (kind.TaskReturn result options) words w history copied = return_fits g t task i result options words w
builtin_fits g t task i number (kind.Plain op) words w history copied = plain_fits g t task i number op words w history
builtin_fits g t task i number (kind.Context op slot) words w history copied = tt
builtin_fits g t task i number (kind.Wait op cancellable memory) words w history copied = wait_fits g t task i op number words w
builtin_fits g t task i number (kind.End what element op) words w history copied = end_fits g t i number what element op words w history copied

pub reply_fits : (g : Graph) (t : ℕ) (task : Task) (number : ℕ) (c : CanonFunc) (words : List ℕ) (w : World) → HaveHistories w.insts → IsCopied w → Ofs (canon_type c).results (reply g t task number c words w)
unfolding reply
reply_fits g t task number (canon.Lower l) words w history copied = begun_fits _ t number words (Func (lifted_of l)) (lifted_of l) words w
reply_fits g t task number (canon.Builtin b) words w history copied = builtin_fits g t task b.instance number b.kind words w history copied

-- Words of context and representations.
abbrev pub InPlace : (List ℕ → Type 0) → Result Answers TrapName → Type 0
InPlace P (Ok answer) = P answer.words
InPlace P (Err why) = Unit {0}

abbrev pub IfInPlace : (List ℕ → Type 0) → World → Option Exempt → Type 0
IfInPlace P w None = Unit {0}
IfInPlace P w (Some exempt) = InPlace P (exempt w)

context_word : (w : World) (t slot : ℕ) → IsInRange w → word_of slot (task_at w t) < 2 ^ 32
context_word w t slot range = by slot (task_at w t) refl
  where
    by : (s : ℕ) (o : Option Task) → task_at w t ≡ o → word_of s o < 2 ^ 32
    by s None e = omega arith
    by zero (Some task) e = (range.contexts t task e).0
    by (suc s) (Some task) e = (range.contexts t task e).1

resource_rep : (w : World) (resource : ℕ) (x : Handle) → x.rep < 2 ^ 32 → (b : Bool) → InPlace IsOneWord (rep_answered w (renamed refusal_name (rep_of (if b then Ok x else Err OtherType))))
resource_rep w resource x h true = one_word x.rep h
resource_rep w resource x h false = tt

end_rep : (w : World) (e : EndRef) (side : Side) (resource : ℕ) → InPlace IsOneWord (rep_answered w (renamed refusal_name (rep_of (handle_in (Some (end_view w e side)) resource))))
end_rep w e Reader resource = tt
end_rep w e Writer resource = tt

rep_word : (w : World) (i index resource : ℕ) → IsInRange w → InPlace IsOneWord (rep_answer i resource index w)
rep_word w i index resource range = by (entry_at w i index) refl
  where
    by : (o : Option Entry) → entry_at w i index ≡ o → InPlace IsOneWord (rep_answered w (renamed refusal_name (rep_of (handle_in (option_map (entry_view w i index) o) resource))))
    by None e = tt
    by (Some (OwnHandle of_type rep)) e = resource_rep w resource _ (range.reps i index (OwnHandle of_type rep) e) (nat_eq of_type resource)
    by (Some (BorrowHandle of_type rep task)) e = resource_rep w resource _ (range.reps i index (BorrowHandle of_type rep task) e) (nat_eq of_type resource)
    by (Some (OfSubtask callee)) e = tt
    by (Some (OfSet set)) e = tt
    by (Some (OfEnd x)) e = end_rep w x x.side resource

kind_in_place : (t : ℕ) (words : List ℕ) (i : ℕ) (k : BuiltinKind) (w : World) → IsInRange w → IfInPlace (AreWords (builtin_type k).results) w (exempt_kind t words i k)
kind_in_place t words i (kind.Context context_op.Get slot) w range = one_word (word_of slot (task_at w t)) (context_word w t slot range)
kind_in_place t words i (kind.Context context_op.Set slot) w range = tt
kind_in_place t words i (kind.Resource resource_op.Rep resource) w range = rep_word w i (slice_index words 0) resource range
kind_in_place t words i (kind.Resource resource_op.New resource) w range = tt
kind_in_place t words i (kind.Resource resource_op.Drop resource) w range = tt
kind_in_place t words i (kind.TaskReturn result options) w range = tt
kind_in_place t words i (kind.Plain op) w range = tt
kind_in_place t words i (kind.Wait op cancellable memory) w range = tt
kind_in_place t words i (kind.End what element op) w range = tt

pub in_place : (t : ℕ) (words : List ℕ) (c : CanonFunc) (w : World) → IsInRange w → IfInPlace (AreWords (canon_type c).results) w (exempt_of t words c)
in_place t words (canon.Lower l) w range = tt
in_place t words (canon.Builtin b) w range = kind_in_place t words b.instance b.kind w range

module _ (P : List ℕ → Type 0) where
  exempt_fits : (t : ℕ) (r : Result Answers TrapName) (w : World) → InPlace P r → Fits P (exempt_turn t r w)
  unfolding exempt_turn
  exempt_fits t (Err why) w h = tt
  exempt_fits t (Ok answer) w h = (h, tt)

  pub allowed_fits : (g : Graph) (t : ℕ) (task : Task) (number : ℕ) (c : CanonFunc) (words : List ℕ) (o : Option Exempt) (w : World) → IfInPlace P w o → Fits P (reply g t task number c words w) → Fits P (allowed g t task number c words o w)
  unfolding allowed
  allowed_fits g t task number c words (Some exempt) w h k = exempt_fits t (exempt w) w h
  allowed_fits g t task number c words None w h k = either_fits P (may_leave w) _ _ k tt
