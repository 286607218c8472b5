-- What comes next where a task calls a canonical function.
use Rattle.std.proofs.Common.{◌≡◌, ◌∙◌, ℕ, zero, suc, ◌+◌, ◌*◌, ◌%◌, ◌&&◌, Bool, true, false, not, nat_eq, nat_lt, nat_le, arith, List, [], ◌∷◌, length, refl, sym, ap, subst, Option, Some, None, Result, Ok, Err, if◌then◌else◌}
use Rattle.std.proofs.lemmas.Bool.Decides.{nat_tests}
use Rattle.std.specs.Prelude.{IsSome, IfSome, slice_index}
use Rattle.std.specs.List.{slice_get, AllByRecursion}
use Rattle.wasm_store.specs.Store.{found_at}
use Rattle.laid_types.specs.Layout.{laid}
use Rattle.syntax_trees.specs.declared.types.ValType.{ValType}
use Rattle.builtin_kinds.specs.declared.EndKind.{EndKind}
use Rattle.builtin_kinds.specs.declared.EndKind.TheVariants.{Stream, Future}
use Rattle.builtin_kinds.specs.declared.PlainBuiltin.{PlainBuiltin}
use Rattle.builtin_kinds.specs.declared.PlainBuiltin.TheVariants as plain
use Rattle.builtin_kinds.specs.declared.ResourceOp.{ResourceOp}
use Rattle.builtin_kinds.specs.declared.ResourceOp.TheVariants as resource_op
use Rattle.builtin_kinds.specs.declared.WaitOp.{WaitOp}
use Rattle.builtin_kinds.specs.declared.WaitOp.TheVariants as wait_op
use Rattle.res_handles.specs.declared.handle.Handle.{Handle}
use Rattle.res_handles.specs.declared.handle.Ownership.{Ownership}
use Rattle.res_handles.specs.declared.handle.Ownership.TheVariants.{Own, Borrow}
use Rattle.res_handles.specs.declared.entry.EntryView.{EntryView}
use Rattle.res_handles.specs.declared.entry.EntryView.TheVariants as seen
use Rattle.res_handles.specs.declared.refusal.Refusal.{Refusal}
use Rattle.res_handles.specs.declared.refusal.Refusal.TheVariants.{OtherType, Lent}
use Rattle.res_handles.specs.Refusals.{handle_in, dropped_in, that_is, unlent}
use Rattle.handle_table.specs.History.{next_index}
use Rattle.waitables.specs.Sets.{drop_answer}
use Rattle.tasks.specs.declared.event.Asked.{Asked}
use Rattle.tasks.specs.declared.event.Asked.TheVariants.{Removed, ResumeNow, Pending}
use Rattle.tasks.specs.Subtasks.{is_over}
use Rattle.tasks.specs.Tasks.{cancel_case, is_unasked, asking_fault, cancel_fault, is_asked}
use Rattle.stream_ends.specs.declared.side.Side.{Side}
use Rattle.stream_ends.specs.declared.side.Side.TheVariants.{Reader, Writer}
use Rattle.stream_ends.specs.declared.open_copy.By.TheVariants as copy_by
use Rattle.stream_ends.specs.declared.open_copy.OpenCopy.{OpenCopy}
use Rattle.stream_ends.specs.declared.stream_end.End.{End}
use Rattle.stream_ends.specs.Ends.{EndsView, other_side, end_at as end_in_view, standing_of, is_copying, new_copy}
use Rattle.stream_ends.specs.Meeting.{Meeting, met, met_offer}
use Rattle.future_ends.specs.Meeting as futures
use Rattle.comp_graph.specs.declared.graph.FuncRef.{FuncRef}
use Rattle.comp_graph.specs.declared.graph.Options.{Options}
use Rattle.comp_graph.specs.declared.graph.Resource.{Resource}
use Rattle.comp_graph.specs.declared.graph.CanonFunc.{CanonFunc}
use Rattle.comp_graph.specs.declared.graph.CanonFunc.TheVariants as canon
use Rattle.comp_graph.specs.declared.graph.BuiltinKind.{BuiltinKind}
use Rattle.comp_graph.specs.declared.graph.BuiltinKind.TheVariants as builtin
use Rattle.comp_graph.specs.declared.graph.EndOp.{EndOp}
use Rattle.comp_graph.specs.declared.graph.EndOp.TheVariants as end_op
use Rattle.comp_graph.specs.Needs.{flat_param_limit}
use Rattle.comp_graph.specs.Graph.{Graph, Lifted}
use Rattle.trace_labels.specs.declared.label.Label.TheVariants as line
use Rattle.trace_labels.specs.declared.trap.TrapName.{TrapName}
use Rattle.trace_labels.specs.declared.trap.TrapName.TheVariants as trap
use Rattle.abi_machine.specs.Traps.{task_name, renamed, refusal_name, set_name}
use Rattle.abi_machine.specs.Control.{EndRef, Replies, InWait, Control, Back}
use Rattle.abi_machine.specs.World.{Entry, OwnHandle, BorrowHandle, OfSubtask, OfSet, OfEnd, Func, Destroys, Subtask, Caller, Nobody, TaskState, New, Acting, AfterCall, AfterCancel, Begins, WaitsToEnter, InLoop, InBuiltin, Exited, Channel, Task, World}
use Rattle.abi_machine.specs.Edits.{entry_removed, entry_added, set_made, in_state, channel_made}
use Rattle.abi_machine.specs.Canons.{func_address, memory_of, bytes_of, canon_at, options_at, builtin_of, lifted_of, resource_at, destructor_of}
use Rattle.abi_machine.specs.Reading.{table_of, entry_at, func_of, subtask_of, has_exited, is_instantiated, is_reentrant, may_leave, channels, channel_at, sets_in, backpressure_of}
use Rattle.abi_machine.specs.Counting.{passes, view_at, task_view, has_resolved, end_of, ready}
use Rattle.abi_machine.specs.Gate.{is_entry_free}
use Rattle.abi_machine.specs.SameTypes.{same_held}
use Rattle.abi_machine.specs.Finding.{subtask_at, set_at, waitable_at, same_side, same_kind, is_of_type, typed_end, end_in, end_at}
use Rattle.abi_machine.specs.Turn.{Turn, replied, with_entry}
use Rattle.abi_machine.specs.Delivering.{yield_cancelled}
use Rattle.abi_machine.specs.Cancelling.{asked_turn, cancelled_turn}
use Rattle.abi_machine.specs.Copying.{Met, AtOnce, Moves, Stands, stream_met, future_met, met_by, other_offer, read_of, write_of, is_within, elements_written, elements_read, moved_by, elements_moved, meeting_turn, meets}
use Rattle.abi_machine.specs.replies.Context.{Exempt, Answers, exempt_kind, exempt_of}
use Rattle.abi_machine.specs.replies.Resources.{resource_new_turn, destroyed_here, destroyed, dropped, resource_drop_turn}
use Rattle.abi_machine.specs.replies.Tasks.{same_address, return_checked, return_turn, task_cancel_turn, yield_turn}
use Rattle.abi_machine.specs.replies.Subtasks.{cancel_asked, subtask_cancel_turn, subtask_drop_turn}
use Rattle.abi_machine.specs.replies.Pressure.{most_backpressure, pressure_inc_turn, pressure_dec_turn, pressure_set_turn}
use Rattle.abi_machine.specs.replies.Waiting.{set_new_turn, none_ready, by_ready, event_size, event_align, is_cancelled, event_turn, wait_turn, view_of_set, set_drop_turn, joins, join_turn}
use Rattle.abi_machine.specs.replies.Streams.{end_ref, both_indices, ends_added, channel_new_turn, placed_well, max_length, copy_turn, is_async_copy, copy_cancel_turn, is_unwritten, end_drop_turn}
use Rattle.abi_machine.specs.Reply.{resource_turn, plain_turn, side_of, copy_size, end_turn, builtin_turn, reply, exempt_turn, allowed, calling_turn}
use Rattle.abi_machine.specs.sound.Changes.{IsFirst}
use Rattle.abi_machine.specs.sound.Initial.{StartsNothing, InitRunsAlone}
use Rattle.abi_machine.specs.sound.Numbers.{IsCalledAs, Each, NamesWhatIsThere}
use Rattle.abi_machine.specs.sound.OpenCopies.{HoldsCopies}
use Rattle.abi_machine.specs.sound.Acting.{outlines_of, RunsIn, IsRunning, OneActs}
use Rattle.abi_machine.specs.sound.GoingOn.{HasNext, IsFuncThere, IsResourceThere, NamesResource, NamesThere}
use Rattle.abi_machine.proofs.sound.Found.{some_same, ok_same, renamed_ok}
use Rattle.abi_machine.proofs.sound.Entries.{right_true}
use Rattle.abi_machine.proofs.sound.Due.{channel_is}
use Rattle.abi_machine.proofs.sound.known.Handles.{subtask_there}
use Rattle.abi_machine.proofs.sound.nexts.Parts.{given_next, found_next, behind_next, either_next, unless_next, refused_next, fault_next, entry_next, came_next, acting_next, subtask_next, HasCaller}
use Rattle.abi_machine.proofs.sound.nexts.Waking.{call_next, none_next, cancel_next, named_guest}
use Rattle.abi_machine.proofs.sound.nexts.Moving.{resolving_next}

-- Tasks that may call.

instantiated_is : (tasks : List Task) (init : Task) → slice_get tasks 0 ≡ Some init → is_instantiated tasks ≡ has_exited init.state
instantiated_is [] init e = cc
instantiated_is (x ∷ tasks) init e = ap (λ (y : Task). has_exited y.state) (some_same e)

-- Once all is instantiated no start function runs, so that the acting task runs a function.
runs_func : (w : World) (t : ℕ) (task : Task) → InitRunsAlone w.tasks w.chain → may_leave w ≡ true → slice_get w.tasks t ≡ Some task → RunsIn task.state task.callee → IsSome (func_of task.callee)
runs_func w t task alone free there runs = by task.state refl runs
  where
    none_starts : (n k : ℕ) → slice_get w.tasks n ≡ Some task → task.state ≡ Begins k → ⊥
    none_starts zero k at e = (let same : has_exited task.state ≡ true = sym (instantiated_is w.tasks task at) ∙ free in let no : has_exited (Begins k) ≡ true = subst (λ (s : TaskState). has_exited s ≡ true) e same in cc)
    none_starts (suc n) k at e = subst StartsNothing e (alone.others n task at)

    by : (state : TaskState) → task.state ≡ state → RunsIn state task.callee → IsSome (func_of task.callee)
    by Acting e h = h
    by (Begins n) e h = absurd (none_starts t n there e)
    by New e h = absurd h
    by (AfterCall callee number words) e h = absurd h
    by (AfterCancel callee number words) e h = absurd h
    by WaitsToEnter e h = absurd h
    by (InLoop word) e h = absurd h
    by (InBuiltin number words wait) e h = absurd h
    by Exited e h = absurd h

-- A task that another one called runs a function.
guest_runs : (n : ℕ) (task : Task) (subtask : Subtask) → IsCalledAs n task → subtask_of task.caller ≡ Some subtask → IsSome (func_of task.callee)
guest_runs zero task subtask called e = (let none : subtask_of Nobody ≡ Some subtask = subst (λ (c : Caller). subtask_of c ≡ Some subtask) called.1 e in cc)
guest_runs (suc n) task subtask called e = called.0

-- Resources.

of_resource_names : (b : Bool) (x y : Handle) (resource : ℕ) → nat_eq x.resource resource ≡ b → (let r : Result Handle Refusal = if b then Ok x else Err OtherType in r) ≡ Ok y → y.resource ≡ resource
of_resource_names true x y resource is e = (let same : x ≡ y = ok_same e in subst (λ (z : Handle). z.resource ≡ resource) same (grind (arith, nat_tests)))
of_resource_names false x y resource is e = cc

handle_names : (o : Option EntryView) (resource : ℕ) (x : Handle) → handle_in o resource ≡ Ok x → x.resource ≡ resource
handle_names None resource x e = cc
handle_names (Some seen.Other) resource x e = cc
handle_names (Some (seen.ReadableEnd y)) resource x e = cc
handle_names (Some (seen.Handle y)) resource x e = of_resource_names (nat_eq y.resource resource) y x resource refl e

unlent_is : (b : Bool) (x y : Handle) → (let r : Result Handle Refusal = if b then Ok x else Err Lent in r) ≡ Ok y → x ≡ y
unlent_is true x y e = ok_same e
unlent_is false x y e = cc

dropped_names : (o : Option EntryView) (resource : ℕ) (x : Handle) → dropped_in o resource ≡ Ok x → x.resource ≡ resource
dropped_names o resource x e = by (handle_in o resource) refl e
  where
    by : (r : Result Handle Refusal) → handle_in o resource ≡ r → that_is unlent r ≡ Ok x → x.resource ≡ resource
    by (Ok y) is k = handle_names o resource x (is ∙ ap (λ (z : Handle). Ok z) (unlent_is (nat_eq y.lends 0) y x k))
    by (Err why) is k = cc

destroyed_next : (t i number : ℕ) (words : List ℕ) (resource : ℕ) (r : Resource) (destructor : Option FuncRef) (rep : ℕ) (w : World) → IfSome destructor (IsFuncThere w.store) → HasNext (destroyed t i number words resource r destructor rep w)
unfolding destroyed destroyed_here
destroyed_next t i number words resource r None rep w there = unless_next t (not (nat_eq r.instance i) && is_reentrant w r.instance t) trap.Reentrant w _ (λ e. tt)
destroyed_next t i number words resource r (Some ref) rep w there =
    either_next (nat_eq r.instance i) _ _ (λ e. given_next (found_at w.store.funcs (func_address w.store ref)) _ there (λ function k. tt))
    (λ e. call_next t number words (Destroys resource (destructor_of r.instance ref)) (destructor_of r.instance ref) (rep ∷ []) w)

dropped_next : (g : Graph) (t i number : ℕ) (words : List ℕ) (x : Handle) (o : Ownership) (w : World) → IsResourceThere g w.store x.resource → HasNext (dropped g t i number words x o w)
unfolding dropped
dropped_next g t i number words x (Borrow task) w there = tt
dropped_next g t i number words x Own w there =
    found_next (resource_at g x.resource) there.0 _ there.1 (destroyed_next t i number words x.resource there.0 there.0.destructor x.rep w there.2)

drop_next : (g : Graph) (t i number resource : ℕ) (words : List ℕ) (w : World) → IsResourceThere g w.store resource → HasNext (resource_drop_turn g t i number resource words w)
unfolding resource_drop_turn
drop_next g t i number resource words w there =
    let answer : Result Handle TrapName = renamed refusal_name (dropped_in (view_at w i (slice_index words 0)) resource) in
    refused_next t answer w (λ x. dropped g t i number words x x.ownership (entry_removed i (slice_index words 0) w)) (λ x e.
    let names : x.resource ≡ resource = dropped_names (view_at w i (slice_index words 0)) resource x (renamed_ok refusal_name (dropped_in (view_at w i (slice_index words 0)) resource) x e) in
    dropped_next g t i number words x x.ownership (entry_removed i (slice_index words 0) w) (subst (λ (n : ℕ). IsResourceThere g w.store n) (sym names) there))

-- Tasks.

-- what is known of the acting task, which runs a function
abbrev pub IsActor : Graph → ℕ → Task → World → Type 0
IsActor g t task w = IsFirst t w.chain × (slice_get w.tasks t ≡ Some task) × IsSome (func_of task.callee) × HasCaller g task.caller

return_next : (g : Graph) (t : ℕ) (task : Task) (i : ℕ) (result : Option ValType) (options : Options) (words : List ℕ) (w : World) → IsActor g t task w → HasNext (return_turn g t task i result options words w)
unfolding return_turn return_checked
return_next g t task i result options words w actor =
    fault_next t task_name (asking_fault (task_view g w t task)) w _ (given_next (func_of task.callee) _ actor.2 (λ f e.
    unless_next t (not (same_held result f.func_type.result)) trap.WrongResult w _ (λ j.
    unless_next t (not (same_address (memory_of w.store options) (memory_of w.store f.options))) trap.WrongOptions w _ (λ k.
    resolving_next g task Replies i flat_param_limit result options words t f w.store w actor.3 tt (refl, actor.0, (task, actor.1, e))))))

task_cancel_next : (g : Graph) (t : ℕ) (task : Task) (w : World) → HasNext (task_cancel_turn g t task w)
unfolding task_cancel_turn
task_cancel_next g t task w = fault_next t task_name (cancel_fault (task_view g w t task)) w _ tt

yield_next : (t : ℕ) (task : Task) (number : ℕ) (cancellable : Bool) (words : List ℕ) (w : World) → HasNext (yield_turn t task number cancellable words w)
unfolding yield_turn yield_cancelled
yield_next t task number cancellable words w = either_next (cancellable && is_asked task.cancellation) _ _ (λ e. tt) (λ e. tt)

-- Subtasks.

asked_next : (t : ℕ) (asked : Asked) (control : Control) (w : World) → HasNext (asked_turn t asked control w)
unfolding asked_turn
asked_next t Removed control w = tt
asked_next t ResumeNow control w = tt
asked_next t Pending control w = tt

pub cancelled_next : (g : Graph) (t : ℕ) (task : Task) (control : Control) (w : World) → IsSome (func_of task.callee) → HasNext (cancelled_turn g t task control w)
unfolding cancelled_turn
cancelled_next g t task control w runs = given_next (func_of task.callee) _ runs (λ f e. asked_next t (cancel_case (is_entry_free w f.instance) (task_view g w t task)) control w)

subtask_cancel_next : (g : Graph) (t i number : ℕ) (words : List ℕ) (w : World) → AllByRecursion (NamesWhatIsThere w.tasks) w.insts → Each IsCalledAs w.tasks → HasNext (subtask_cancel_turn g t i number words w)
unfolding subtask_cancel_turn cancel_asked
subtask_cancel_next g t i number words w named called =
    refused_next t (subtask_at w i (slice_index words 0)) w _ (λ callee e.
    subtask_next w callee _ (named_guest w i (slice_index words 0) callee named (subtask_there w i (slice_index words 0) callee e)) (λ task subtask at guest.
    unless_next t (is_over subtask.told) trap.Delivered w _ (λ j.
    unless_next t (not (is_unasked task.cancellation)) trap.Asked w _ (λ k.
    either_next (has_resolved task) _ _ (λ over. tt) (λ left. cancelled_next g callee task Back (in_state t (AfterCancel callee number words) w) (guest_runs callee task subtask (called callee task at) guest))))))

subtask_drop_next : (t i index : ℕ) (w : World) → AllByRecursion (NamesWhatIsThere w.tasks) w.insts → HasNext (subtask_drop_turn t i index w)
unfolding subtask_drop_turn
subtask_drop_next t i index w named =
    refused_next t (subtask_at w i index) w _ (λ callee e.
    subtask_next w callee _ (named_guest w i index callee named (subtask_there w i index callee e)) (λ task subtask at guest. unless_next t (not (is_over subtask.told)) trap.NotDelivered w _ (λ j. tt)))

-- Sets.

none_ready_next : (g : Graph) (t : ℕ) (f : Lifted) (op : WaitOp) (number : ℕ) (words : List ℕ) (w : World) → HasNext (none_ready g t f op number words w)
unfolding none_ready
none_ready_next g t f wait_op.Poll number words w = none_next g t f (InWait number words) w tt
none_ready_next g t f wait_op.Wait number words w = tt

by_ready_next : (g : Graph) (t : ℕ) (f : Lifted) (op : WaitOp) (number : ℕ) (words : List ℕ) (set : ℕ) (members : List ℕ) (w : World) → HasNext (by_ready g t f op number words set members w)
unfolding by_ready
by_ready_next g t f op number words set [] w = none_ready_next g t f op number words w
by_ready_next g t f op number words set (index ∷ members) w = tt

event_next : (g : Graph) (t : ℕ) (task : Task) (f : Lifted) (i : ℕ) (op : WaitOp) (number : ℕ) (words : List ℕ) (set : ℕ) (w : World) → HasNext (event_turn g t task f i op number words set w)
unfolding event_turn
event_next g t task f i op number words set w =
    unless_next t (not (nat_eq (slice_index words 1 % event_align) 0)) trap.Misaligned w _ (λ j.
    unless_next t (not (nat_le (slice_index words 1 + event_size) (length (bytes_of w.store (memory_of w.store (options_at g number)))))) trap.Bounds w _ (λ k.
    either_next (is_cancelled g task number) _ _ (λ e. cancel_next g t f (InWait number words) w tt) (λ e. by_ready_next g t f op number words set (ready w i set) w)))

wait_turn_next : (g : Graph) (t : ℕ) (task : Task) (i : ℕ) (op : WaitOp) (number : ℕ) (words : List ℕ) (w : World) → IsSome (func_of task.callee) → HasNext (wait_turn g t task i op number words w)
unfolding wait_turn
wait_turn_next g t task i op number words w runs =
    refused_next t (set_at w i (slice_index words 0)) w _ (λ set e. given_next (func_of task.callee) _ runs (λ f k. event_next g t task f i op number words set w))

set_drop_next : (t i index : ℕ) (w : World) → HasNext (set_drop_turn t i index w)
unfolding set_drop_turn
set_drop_next t i index w = refused_next t (set_at w i index) w _ (λ set e. refused_next t (renamed set_name (drop_answer (view_of_set w i index set))) w (λ done. replied t [] (entry_removed i index w)) (λ done k. tt))

joins_next : (t i index other : ℕ) (w : World) → HasNext (joins t i index other w)
unfolding joins
joins_next t i index zero w = tt
joins_next t i index (suc other) w = refused_next t (set_at w i (suc other)) w _ (λ set e. tt)

join_next : (t i index other : ℕ) (w : World) → HasNext (join_turn t i index other w)
unfolding join_turn
join_next t i index other w = refused_next t (waitable_at w i index) w _ (λ there e. joins_next t i index other w)

-- Streams and futures.

passing_some : {A : Type 0} (test : A → Bool) (o : Option A) → passes test o ≡ true → IsSome o
passing_some test None e = cc
passing_some test (Some x) e = refl

typed_there : (P : EndRef → Type 0) (same typed : Bool) (r x : EndRef) → (if same then typed_end typed r else Err trap.OtherKind) ≡ Ok x → (typed ≡ true → P r) → P x
typed_there P true true r x e h = subst P (ok_same e) (h refl)
typed_there P true false r x e h = cc
typed_there P false typed r x e h = cc

-- The stream or future of an end that is found is there.
end_channel : (w : World) (i : ℕ) (kind : EndKind) (side : Side) (element : Option ValType) (index : ℕ) (x : EndRef) → end_at w kind side element i index ≡ Ok x → IsSome (channel_at w x.kind x.number)
end_channel w i kind side element index x h = by (entry_at w i index) h
  where
    by : (o : Option Entry) → end_in w kind side element o ≡ Ok x → IsSome (channel_at w x.kind x.number)
    by None k = cc
    by (Some (OwnHandle of_type rep)) k = cc
    by (Some (BorrowHandle of_type rep task)) k = cc
    by (Some (OfSubtask callee)) k = cc
    by (Some (OfSet set)) k = cc
    by (Some (OfEnd r)) k =
        typed_there (λ (e : EndRef). IsSome (channel_at w e.kind e.number)) (same_side r.side side) (is_of_type w kind element r) r x k
        (λ typed. passing_some (λ (c : Channel). same_held c.element element) (channel_at w r.kind r.number) (right_true (same_kind r.kind kind) _ typed))

-- An offer stands where elements are to go over.
either_case : (Q : Type 0) {M : Type 0} (P : M → Type 0) (b : Bool) (x y : M) → P (if b then x else y) → (P x → Q) → (P y → Q) → Q
either_case Q P true x y h f k = f h
either_case Q P false x y h f k = k h

stream_offer : (side : Side) (call : OpenCopy) (own other : End) (count : ℕ) (o : Option OpenCopy) → stream_met (met_offer side call own other o).meet ≡ Moves count → IsSome o
stream_offer side call own other count None e = cc
stream_offer side call own other count (Some offer) e = refl

stream_stands : (side : Side) (call : OpenCopy) (own other : End) (count : ℕ) → stream_met (met side call own other).meet ≡ Moves count → IsSome (standing_of other.copy)
unfolding met
stream_stands side call own other count e =
    either_case (IsSome (standing_of other.copy)) (λ (m : Meeting). stream_met m.meet ≡ Moves count) other.dropped _ _ e (λ gone. cc) (λ k. stream_offer side call own other count (standing_of other.copy) k)

future_offer : (call : OpenCopy) (own : End) (count : ℕ) (o : Option OpenCopy) → future_met (futures.met_offer call own o).meet ≡ Moves count → IsSome o
future_offer call own count None e = cc
future_offer call own count (Some offer) e = refl

future_stands : (call : OpenCopy) (own other : End) (count : ℕ) → future_met (futures.met call own other).meet ≡ Moves count → IsSome (standing_of other.copy)
unfolding futures.met
future_stands call own other count e =
    either_case (IsSome (standing_of other.copy)) (λ (m : futures.Meeting). future_met m.meet ≡ Moves count) other.dropped _ _ e (λ gone. cc) (λ k. future_offer call own count (standing_of other.copy) k)

moves_stands : (kind : EndKind) (side : Side) (call : OpenCopy) (ends : EndsView) (count : ℕ) → met_by kind side call ends ≡ Moves count → IsSome (other_offer side ends)
moves_stands Stream side call ends count e = stream_stands side call (end_in_view side ends) (end_in_view (other_side side) ends) count e
moves_stands Future side call ends count e = future_stands call (end_in_view side ends) (end_in_view (other_side side) ends) count e

standing_if : (b : Bool) (copy offer : OpenCopy) → (let o : Option OpenCopy = if b then Some copy else None in o) ≡ Some offer → copy ≡ offer
standing_if true copy offer e = some_same e
standing_if false copy offer e = cc

standing_is : (o : Option OpenCopy) (offer : OpenCopy) → standing_of o ≡ Some offer → o ≡ Some offer
standing_is None offer e = cc
standing_is (Some copy) offer e = ap (λ (x : OpenCopy). Some x) (standing_if copy.standing copy offer e)

-- The canonical functions of both copies are there.
offer_called : (g : Graph) (w : World) (e : EndRef) (c : Channel) (offer : OpenCopy) → HoldsCopies g w → channel_at w e.kind e.number ≡ Some c → other_offer e.side c.ends.view ≡ Some offer → IsSome (canon_at g offer.canon)
offer_called g w e c offer held there stands =
    (held (record e { side = other_side e.side }) c offer (channel_is e.kind e.number w ∙ there) (standing_is (end_in_view (other_side e.side) c.ends.view).copy offer stands)).called

read_there : (g : Graph) (side : Side) (call offer : OpenCopy) → IsSome (canon_at g call.canon) → IsSome (canon_at g offer.canon) → IsSome (canon_at g (read_of side call offer).canon)
read_there g Reader call offer h k = h
read_there g Writer call offer h k = k

write_there : (g : Graph) (side : Side) (call offer : OpenCopy) → IsSome (canon_at g call.canon) → IsSome (canon_at g offer.canon) → IsSome (canon_at g (write_of side call offer).canon)
write_there g Reader call offer h k = k
write_there g Writer call offer h k = h

moved_by_next : (g : Graph) (t : ℕ) (e : EndRef) (call read write : OpenCopy) (reading writing : CanonFunc) (count : ℕ) (element : Option ValType) (w : World) → HasNext (moved_by g t e call read write reading writing count element w)
unfolding moved_by elements_read
moved_by_next g t e call read write reading writing count None w = tt
moved_by_next g t e call read write reading writing count (Some element) w =
    came_next t (elements_written t write writing count element w) (λ values later. elements_read g t e call.length read reading element values later) (λ values later. tt)

moved_next : (g : Graph) (t : ℕ) (e : EndRef) (call : OpenCopy) (count : ℕ) (element : Option ValType) (offer : OpenCopy) (w : World) → IsSome (canon_at g call.canon) → IsSome (canon_at g offer.canon) → HasNext (elements_moved g t e call count element offer w)
unfolding elements_moved
moved_next g t e call count element offer w h k =
    given_next (canon_at g (read_of e.side call offer).canon) _ (read_there g e.side call offer h k) (λ reading i.
    given_next (canon_at g (write_of e.side call offer).canon) _ (write_there g e.side call offer h k) (λ writing j.
    moved_by_next g t e call (read_of e.side call offer) (write_of e.side call offer) reading writing count element w))

meeting_next : (g : Graph) (t : ℕ) (e : EndRef) (call : OpenCopy) (words : List ℕ) (index : ℕ) (c : Channel) (m : Met) (w : World) → met_by e.kind e.side call c.ends.view ≡ m → IsSome (canon_at g call.canon)
    → ((offer : OpenCopy) → other_offer e.side c.ends.view ≡ Some offer → IsSome (canon_at g offer.canon)) → HasNext (meeting_turn g t e call words index c m w)
unfolding meeting_turn
meeting_next g t e call words index c (AtOnce payload) w is h held = tt
meeting_next g t e call words index c (Moves count) w is h held =
    given_next (other_offer e.side c.ends.view) _ (moves_stands e.kind e.side call c.ends.view count is) (λ offer stands. moved_next g t e call count c.element offer w h (held offer stands))
meeting_next g t e call words index c Stands w is h held = either_next (options_at g call.canon).is_async _ _ (λ i. tt) (λ i. tt)

meets_next : (g : Graph) (t i : ℕ) (e : EndRef) (call : OpenCopy) (words : List ℕ) (index : ℕ) (w : World) → IsSome (channel_at w e.kind e.number) → IsSome (canon_at g call.canon) → HoldsCopies g w → HasNext (meets g t i e call words index w)
unfolding meets
meets_next g t i e call words index w there h held =
    given_next (channel_at w e.kind e.number) _ there (λ c at.
    unless_next t (is_within g i e.side c.element c.ends.view) trap.SameInstance w _ (λ apart.
    meeting_next g t e call words index c (met_by e.kind e.side call c.ends.view) w refl h (λ offer stands. offer_called g w e c offer held at stands)))

placed_next : (t : ℕ) (bytes : List ℕ) (element : Option ValType) (place size : ℕ) (w : World) (more : Turn) → HasNext more → HasNext (placed_well t bytes element place size w more)
unfolding placed_well
placed_next t bytes None place size w more h = h
placed_next t bytes (Some element) place size w more h =
    either_next (nat_eq size 0) _ _ (λ e. h) (λ e. unless_next t (not (nat_eq (place % (laid element).align) 0)) trap.Misaligned w _ (λ j.
    unless_next t (not (nat_le (place + size * (laid element).size) (length bytes))) trap.Bounds w more (λ k. h)))

copy_next : (g : Graph) (t i number : ℕ) (kind : EndKind) (side : Side) (element : Option ValType) (options : Options) (words : List ℕ) (size : ℕ) (w : World) → IsSome (canon_at g number) → HoldsCopies g w
    → HasNext (copy_turn g t i number kind side element options words size w)
unfolding copy_turn
copy_next g t i number kind side element options words size w made held =
    refused_next t (end_at w kind side element i (slice_index words 0)) w _ (λ e found.
    unless_next t (is_copying (end_of w e)) trap.Busy w _ (λ j.
    unless_next t (end_of w e).done trap.DoneEnd w _ (λ k.
    unless_next t (nat_lt max_length size) trap.TooLong w _ (λ l.
    placed_next t (bytes_of w.store (memory_of w.store options)) element (slice_index words 1) size w _
    (meets_next g t i e (new_copy (copy_by.Task t) number (slice_index words 1) size) words (slice_index words 0) w (end_channel w i kind side element (slice_index words 0) e found) made held)))))

copy_cancel_next : (g : Graph) (t i : ℕ) (kind : EndKind) (side : Side) (element : Option ValType) (index : ℕ) (w : World) → HasNext (copy_cancel_turn g t i kind side element index w)
unfolding copy_cancel_turn
copy_cancel_next g t i kind side element index w =
    refused_next t (end_at w kind side element i index) w _ (λ e found. unless_next t (not (passes (is_async_copy g) (end_of w e).copy)) trap.NotCopying w _ (λ j. tt))

end_drop_next : (t i : ℕ) (kind : EndKind) (side : Side) (element : Option ValType) (index : ℕ) (w : World) → HasNext (end_drop_turn t i kind side element index w)
unfolding end_drop_turn
end_drop_next t i kind side element index w =
    refused_next t (end_at w kind side element i index) w _ (λ e found.
    unless_next t (is_copying (end_of w e)) trap.Busy w _ (λ j. unless_next t (is_unwritten kind side (end_of w e)) trap.UnwrittenFuture w _ (λ k. tt)))

new_ends_next : (t i : ℕ) (kind : EndKind) (element : Option ValType) (w : World) → HasNext (channel_new_turn t i kind element w)
unfolding channel_new_turn ends_added
new_ends_next t i kind element w =
    let v : World = channel_made kind element w in
    let readable : Entry = OfEnd (end_ref kind (length (channels kind w) + 1) Reader) in
    let writable : Entry = OfEnd (end_ref kind (length (channels kind w) + 1) Writer) in
    let both : ℕ → World → Turn = λ first u. with_entry t i writable u (λ second x. replied t (both_indices first second ∷ []) x) in
    entry_next t i readable v both (entry_next t i writable (entry_added i readable v) (λ second x. replied t (both_indices (next_index (table_of v i)) second ∷ []) x) tt)

-- All of them.

resource_next : (g : Graph) (t i number : ℕ) (op : ResourceOp) (resource : ℕ) (words : List ℕ) (w : World) → exempt_kind t words i (builtin.Resource op resource) ≡ None → NamesResource g w.store (builtin.Resource op resource)
    → HasNext (resource_turn g t i number op resource words w)
unfolding resource_turn resource_new_turn
resource_next g t i number resource_op.New resource words w none names = entry_next t i (OwnHandle resource (slice_index words 0)) w (λ index v. replied t (index ∷ []) v) tt
resource_next g t i number resource_op.Drop resource words w none names = drop_next g t i number resource words w names
resource_next g t i number resource_op.Rep resource words w none names = cc

plain_next : (g : Graph) (t : ℕ) (task : Task) (i number : ℕ) (op : PlainBuiltin) (words : List ℕ) (w : World) → AllByRecursion (NamesWhatIsThere w.tasks) w.insts → Each IsCalledAs w.tasks → HasNext (plain_turn g t task i number op words w)
unfolding plain_turn pressure_set_turn pressure_inc_turn pressure_dec_turn set_new_turn
plain_next g t task i number plain.TaskCancel words w named called = task_cancel_next g t task w
plain_next g t task i number plain.BackpressureSet words w named called = tt
plain_next g t task i number plain.BackpressureInc words w named called = unless_next t (nat_le most_backpressure (backpressure_of w i)) trap.PressureLimit w _ (λ e. tt)
plain_next g t task i number plain.BackpressureDec words w named called = unless_next t (nat_eq (backpressure_of w i) 0) trap.PressureZero w _ (λ e. tt)
plain_next g t task i number (plain.SubtaskCancel is_async) words w named called = subtask_cancel_next g t i number words w named called
plain_next g t task i number plain.SubtaskDrop words w named called = subtask_drop_next t i (slice_index words 0) w named
plain_next g t task i number (plain.Yield cancellable) words w named called = yield_next t task number cancellable words w
plain_next g t task i number plain.WaitableSetNew words w named called = entry_next t i (OfSet (length (sets_in (slice_get w.insts i)))) w (λ index v. replied t (index ∷ []) (set_made i v)) tt
plain_next g t task i number plain.WaitableSetDrop words w named called = set_drop_next t i (slice_index words 0) w
plain_next g t task i number plain.WaitableJoin words w named called = join_next t i (slice_index words 0) (slice_index words 1) w

ends_next : (g : Graph) (t i number : ℕ) (kind : EndKind) (element : Option ValType) (op : EndOp) (words : List ℕ) (w : World) → IsSome (canon_at g number) → HoldsCopies g w → HasNext (end_turn g t i number kind element op words w)
unfolding end_turn
ends_next g t i number kind element end_op.New words w made held = new_ends_next t i kind element w
ends_next g t i number kind element (end_op.Copy side options) words w made held = copy_next g t i number kind (side_of side) element options words (copy_size kind words) w made held
ends_next g t i number kind element (end_op.Cancel side is_async) words w made held = copy_cancel_next g t i kind (side_of side) element (slice_index words 0) w
ends_next g t i number kind element (end_op.Drop side) words w made held = end_drop_next t i kind (side_of side) element (slice_index words 0) w

-- what is looked up by a canonical function that is not answered in place
pub record AnswersBy (g : Graph) (w : World) : Type 0 where
  pub named : AllByRecursion (NamesWhatIsThere w.tasks) w.insts
  pub called : Each IsCalledAs w.tasks
  pub held : HoldsCopies g w

builtin_next : (g : Graph) (t : ℕ) (task : Task) (i number : ℕ) (b : BuiltinKind) (words : List ℕ) (w : World) → exempt_kind t words i b ≡ None → IsSome (canon_at g number) → NamesResource g w.store b → IsActor g t task w → AnswersBy g w
    → HasNext (builtin_turn g t task i number b words w)
unfolding builtin_turn
builtin_next g t task i number (builtin.Resource op resource) words w none made names actor h = resource_next g t i number op resource words w none names
builtin_next g t task i number (builtin.TaskReturn result options) words w none made names actor h = return_next g t task i result options words w actor
builtin_next g t task i number (builtin.Plain op) words w none made names actor h = plain_next g t task i number op words w h.named h.called
builtin_next g t task i number (builtin.Context op slot) words w none made names actor h = cc
builtin_next g t task i number (builtin.Wait op cancellable memory) words w none made names actor h = wait_turn_next g t task i op number words w actor.2
builtin_next g t task i number (builtin.End of_what element op) words w none made names actor h = ends_next g t i number of_what element op words w made h.held

reply_next : (g : Graph) (t : ℕ) (task : Task) (number : ℕ) (c : CanonFunc) (words : List ℕ) (w : World) → exempt_of t words c ≡ None → IsSome (canon_at g number) → NamesThere g w.store c → IsActor g t task w → AnswersBy g w → HasNext (reply g t task number c words w)
unfolding reply
reply_next g t task number (canon.Lower l) words w none made names actor h = call_next t number words (Func (lifted_of l)) (lifted_of l) words w
reply_next g t task number (canon.Builtin b) words w none made names actor h = builtin_next g t task b.instance number b.kind words w none made names actor h

exempt_next : (t : ℕ) (r : Result Answers TrapName) (w : World) → HasNext (exempt_turn t r w)
unfolding exempt_turn
exempt_next t (Err why) w = tt
exempt_next t (Ok answer) w = tt

allowed_next : (g : Graph) (t : ℕ) (task : Task) (number : ℕ) (c : CanonFunc) (words : List ℕ) (o : Option Exempt) (w : World) → exempt_of t words c ≡ o → IsSome (canon_at g number) → (may_leave w ≡ true → NamesThere g w.store c) → (may_leave w ≡ true → IsActor g t task w) → AnswersBy g w
    → HasNext (allowed g t task number c words o w)
unfolding allowed
allowed_next g t task number c words (Some exempt) w is made names actor h = exempt_next t (exempt w) w
allowed_next g t task number c words None w is made names actor h = either_next (may_leave w) _ _ (λ free. reply_next g t task number c words w is made (names free) (actor free) h) (λ e. tt)

pub calling_next : (g : Graph) (number : ℕ) (words : List ℕ) (w : World) → OneActs IsRunning (outlines_of w.tasks) w.chain → InitRunsAlone w.tasks w.chain
    → ((t : ℕ) (task : Task) → IsFirst t w.chain → slice_get w.tasks t ≡ Some task → IsSome (canon_at g number)) → (may_leave w ≡ true → (c : CanonFunc) → canon_at g number ≡ Some c → NamesThere g w.store c) → AnswersBy g w
    → ((t : ℕ) (task : Task) → slice_get w.tasks t ≡ Some task → IsSome (func_of task.callee) → HasCaller g task.caller) → HasNext (calling_turn g number words w)
unfolding calling_turn
calling_next g number words w acts alone made names h caller =
    acting_next IsRunning w _ acts (λ t task first at p.
    given_next (canon_at g number) _ (made t task first at) (λ c e.
    behind_next (line.Do t (builtin_of c) words ∷ []) _
    (allowed_next g t task number c words (exempt_of t words c) w refl (made t task first at) (λ free. names free c e)
    (λ free. (let runs : IsSome (func_of task.callee) = runs_func w t task alone free at p.0 in (first, at, runs, caller t task at runs))) h)))
