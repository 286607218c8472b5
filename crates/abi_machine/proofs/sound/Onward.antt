-- Turns that are no ends: what a turn is made of, and what tasks make of themselves: calls, results, entry, events, and what is passed.
use Rattle.std.proofs.Common.{◌≡◌, ◌≤◌, ℕ, ◌+◌, Bool, true, false, nat_lt, List, [], ◌∷◌, refl, arith, Option, Some, None, Result, Ok, Err, if◌then◌else◌}
use Rattle.std.specs.Prelude.{is_none, drop}
use Rattle.std.specs.List.{slice_get}
use Rattle.std.proofs.lemmas.Bool.Decides.{nat_tests}
use Rattle.wasm_store.specs.Store.{found_at}
use Rattle.wasm_store.specs.Stack.{Stack}
use Rattle.wasm_store.specs.Instantiation.{External, Instantiation, Makes, SegmentBounds as TooFar, instantiated, instance_of, start_call}
use Rattle.wasm_store.specs.Step.{Move, Goes as Moves, Traps}
use Rattle.wasm_store.specs.Step as core
use Rattle.syntax_trees.specs.declared.types.ValType.{ValType}
use Rattle.entry_gate.specs.Callbacks.{callback_of}
use Rattle.entry_gate.specs.declared.kind.Kind.{Kind}
use Rattle.entry_gate.specs.declared.kind.Kind.TheVariants.{Sync, Callback, Stackful}
use Rattle.entry_gate.specs.declared.callback.BadCode.{BadCode}
use Rattle.entry_gate.specs.declared.callback.Next.{Next}
use Rattle.entry_gate.specs.declared.callback.Next.TheVariants as word
use Rattle.handle_table.specs.History.{live_count, most_live, next_index}
use Rattle.stream_ends.specs.declared.open_copy.OpenCopy.{OpenCopy}
use Rattle.tasks.specs.declared.phase.Resolution.TheVariants.{Returned}
use Rattle.tasks.specs.Tasks.{resolving_fault, is_asked, cancel_case}
use Rattle.tasks.specs.declared.event.Asked.{Asked}
use Rattle.tasks.specs.declared.event.Asked.TheVariants.{Removed, ResumeNow, Pending}
use Rattle.comp_graph.specs.declared.graph.Action.{Action}
use Rattle.comp_graph.specs.declared.graph.Action.TheVariants.{Begin, Make}
use Rattle.comp_graph.specs.declared.graph.FuncRef.{FuncRef}
use Rattle.comp_graph.specs.declared.graph.CanonFunc.{CanonFunc}
use Rattle.comp_graph.specs.Needs.{flat_result_limit}
use Rattle.comp_graph.specs.Graph.{Graph, CoreMake, Lifted}
use Rattle.script_reader.specs.Script.{Script}
use Rattle.trace_labels.specs.declared.label.Label.{Label}
use Rattle.trace_labels.specs.declared.label.Label.TheVariants as line
use Rattle.trace_labels.specs.declared.trap.TrapName.{TrapName}
use Rattle.trace_labels.specs.declared.trap.TrapName.TheVariants as trap
use Rattle.trace_labels.specs.declared.typed.TypedValue.{TypedValue}
use Rattle.abi_machine.specs.declared.run_end.RunEnd.{RunEnd}
use Rattle.abi_machine.specs.declared.run_end.RunEnd.TheVariants.{Fuel}
use Rattle.abi_machine.specs.LoweringOver.{Plan}
use Rattle.abi_machine.specs.Control.{EndRef, After, Replies, Finishes, Copying, Then, Starts, Resolves, Transfers, Lowering, EventCode, NoEvent, SubtaskEvent, TaskCancelled, Receiver, InWait, InCallback, Control}
use Rattle.abi_machine.specs.World.{Entry, OwnHandle, BorrowHandle, OfSubtask, OfSet, OfEnd, Callee, Subtask, Caller, Nobody, Host, Guest, Wait, ForYield, ForSet, ForCall, ForCopy, ForCancel, TaskState, New, Acting, AfterCall, AfterCancel, WaitsToEnter, InLoop, InBuiltin, Exited, Task, Channel, World}
use Rattle.abi_machine.specs.World as world
use Rattle.abi_machine.specs.Traps.{task_name}
use Rattle.abi_machine.specs.Edits.{with_store, unit_spent, entry_added, in_state, resolved, unstacked, told, result_kept}
use Rattle.abi_machine.specs.Canons.{func_address, externals, bytes_of, canon_at, options_at, flag_at}
use Rattle.abi_machine.specs.Reading.{table_of, entry_at, channel_at, task_at, acting, func_of, kind_of, subtask_of, is_reentrant}
use Rattle.abi_machine.specs.Counting.{subtask_state, task_view, has_resolved, ready}
use Rattle.abi_machine.specs.Gate.{is_entry_free, may_arrive}
use Rattle.abi_machine.specs.Finding.{set_at, found_subtask, set_number, found_end}
use Rattle.abi_machine.specs.Lifting.{Came, once_lifted}
use Rattle.abi_machine.specs.Pausing.{Paused, Words, Failed, Asked as AsksNow, Settled, settle}
use Rattle.abi_machine.specs.Turn.{Turn, Steps, Ends, Stuck, doomed, behind, given, replied, unless_refused, unless, unless_fault, with_func, charged, with_entry}
use Rattle.abi_machine.specs.Calling.{Told, call_state, call_begun, call_resolved, call_open, with_subtask_of, subtask_told, back_from_call}
use Rattle.abi_machine.specs.Cancelling.{asked_turn, cancelled_turn, cancel_open, back_from_cancel, back_to, back_turn}
use Rattle.abi_machine.specs.Choosing.{chosen}
use Rattle.abi_machine.specs.Copying.{Met, AtOnce, Moves as Copies, Stands, met_by, other_offer, read_of, write_of, is_within, moved_by, elements_written, elements_read, elements_moved, meeting_turn, meets, transferring_turn}
use Rattle.abi_machine.specs.CoreSteps.{func_ended, stack_ended, ended_over, moved}
use Rattle.abi_machine.specs.Delivering.{event_line, nothing_told, cancel_told, end_told, event_of_end, is_to_be_told, callback_started, received, received_none, received_cancel, entry_delivered, member_delivered, members_turn, delivering_turn, yield_cancelled, told_payload, told_result, wait_resumed, set_polled, next_resumed, loop_resumed, resumed, resuming_turn}
use Rattle.abi_machine.specs.Entering.{with_arguments, arguments_passed, arguments_turn, entered, arriving_turn}
use Rattle.abi_machine.specs.Instantiating.{started_up, made, action_turn, instantiating_turn}
use Rattle.abi_machine.specs.Looping.{next_turn, looping_turn}
use Rattle.abi_machine.specs.Lowering.{started, lowered, paused, left_by, settled_turn, lowers_turn}
use Rattle.abi_machine.specs.Returning.{result_passed, post_return, finished, passed_to, passed_on, resolves_to, resolves, returning_turn, ending_turn, leaving_turn}
use Rattle.abi_machine.specs.replies.Waiting.{is_cancelled}

-- A turn that is no end; one that may be for want of fuel, where so many units are used.
abbrev pub IsOn : Turn → Type 0
IsOn (Steps labels w) = Unit {0}
IsOn (Ends end) = ⊥
IsOn Stuck = Unit {0}

abbrev pub IsSpent : Script → ℕ → RunEnd → Type 0
IsSpent s units Fuel = s.fuel ≤ units
IsSpent s units end = ⊥

abbrev pub IsOnOr : Script → ℕ → Turn → Type 0
IsOnOr s units (Steps labels w) = Unit {0}
IsOnOr s units (Ends end) = IsSpent s units end
IsOnOr s units Stuck = Unit {0}

pub on_or : (s : Script) (units : ℕ) (t : Turn) → IsOn t → IsOnOr s units t
on_or s units (Steps labels w) h = tt
on_or s units (Ends end) h = absurd h
on_or s units Stuck h = tt

-- What turns are made of.
pub either_on : (b : Bool) (t u : Turn) → IsOn t → IsOn u → IsOn (if b then t else u)
either_on true t u h i = h
either_on false t u h i = i

pub given_on : {A : Type 0} (o : Option A) (f : A → Turn) → ((x : A) → IsOn (f x)) → IsOn (given o f)
given_on None f h = tt
given_on (Some x) f h = h x

pub behind_on : (lines : List Label) (t : Turn) → IsOn t → IsOn (behind lines t)
behind_on lines (Steps labels w) h = tt
behind_on lines (Ends end) h = h
behind_on lines Stuck h = tt

pub unless_on : (t : ℕ) (b : Bool) (why : TrapName) (w : World) (more : Turn) → IsOn more → IsOn (unless t b why w more)
unless_on t true why w more h = tt
unless_on t false why w more h = h

pub refused_on : {A : Type 0} (t : ℕ) (r : Result A TrapName) (w : World) (f : A → Turn) → ((x : A) → IsOn (f x)) → IsOn (unless_refused t r w f)
refused_on t (Err why) w f h = tt
refused_on t (Ok x) w f h = h x

pub fault_on : {F : Type 0} (t : ℕ) (name : F → TrapName) (o : Option F) (w : World) (more : Turn) → IsOn more → IsOn (unless_fault t name o w more)
fault_on t name None w more h = h
fault_on t name (Some fault) w more h = tt

func_on : (w : World) (more : ℕ → Task → Lifted → Turn) → ((t : ℕ) (task : Task) (f : Lifted) → IsOn (more t task f)) → IsOn (with_func w more)
func_on w more h = given_on (acting w) _ (λ (a : ℕ × Task). given_on (func_of a.1.callee) _ (λ f. h a.0 a.1 f))

pub entry_on : (t i : ℕ) (entry : Entry) (w : World) (more : ℕ → World → Turn) → ((index : ℕ) (v : World) → IsOn (more index v)) → IsOn (with_entry t i entry w more)
entry_on t i entry w more h =
    either_on (nat_lt (live_count (table_of w i)) most_live) (more (next_index (table_of w i)) (entry_added i entry w)) (doomed t trap.TableFull w) (h (next_index (table_of w i)) (entry_added i entry w)) tt

lifted_on : {A : Type 0} (t : ℕ) (came : Came A) (more : A → World → Turn) → ((x : A) (w : World) → IsOn (more x w)) → IsOn (once_lifted t came more)
lifted_on t (Ok x) more h = behind_on x.1.lines (more x.0 x.1.world) (h x.0 x.1.world)
lifted_on t (Err stop) more h = tt

pub subtask_on : (w : World) (callee : ℕ) (more : Task → Subtask → Turn) → ((task : Task) (subtask : Subtask) → IsOn (more task subtask)) → IsOn (with_subtask_of w callee more)
subtask_on w callee more h = given_on (task_at w callee) _ (λ (task : Task). given_on (subtask_of task.caller) _ (λ subtask. h task subtask))

pub charged_on : (costs : Bool) (s : Script) (w : World) (f : World → Turn) → ((v : World) → IsOn (f v)) → IsOnOr s w.units (charged costs s w f)
charged_on false s w f h = on_or s w.units (f w) (h w)
charged_on true s w f h = by (nat_lt w.units s.fuel) refl
  where
    by : (b : Bool) → nat_lt w.units s.fuel ≡ b → IsOnOr s w.units (if b then f (unit_spent w) else Ends Fuel)
    by true e = on_or s w.units (f (unit_spent w)) (h (unit_spent w))
    by false e = grind (arith, nat_tests)

-- Calls, and cancellations.
pub begun_on : (t number : ℕ) (words : List ℕ) (callee : Callee) (f : Lifted) (passed : List ℕ) (w : World) → IsOn (call_begun t number words callee f passed w)
unfolding call_begun
begun_on t number words callee f passed w = unless_on t (is_reentrant w f.instance t) trap.Reentrant w _ tt

open_on : (t i callee : ℕ) (task : Task) (is_async : Bool) (number : ℕ) (words : List ℕ) (w : World) → IsOn (call_open t i callee task is_async number words w)
unfolding call_open
open_on t i callee task true number words w = entry_on t i (OfSubtask callee) w (λ index v. replied t (call_state task index ∷ []) (told callee (subtask_state task) v)) (λ index v. tt)
open_on t i callee task false number words w = tt

back_called_on : (g : Graph) (t i callee number : ℕ) (words : List ℕ) (w : World) → IsOn (back_from_call g t i callee number words w)
unfolding back_from_call call_resolved
back_called_on g t i callee number words w = subtask_on w callee _ (λ task subtask. either_on (has_resolved task) _ _ tt (open_on t i callee task (options_at g number).is_async number words (in_state t Acting w)))

asked_on : (t : ℕ) (asked : Asked) (control : Control) (w : World) → IsOn (asked_turn t asked control w)
unfolding asked_turn
asked_on t Removed control w = tt
asked_on t ResumeNow control w = tt
asked_on t Pending control w = tt

pub cancelled_on : (g : Graph) (t : ℕ) (task : Task) (control : Control) (w : World) → IsOn (cancelled_turn g t task control w)
unfolding cancelled_turn
cancelled_on g t task control w = given_on (func_of task.callee) _ (λ f. asked_on t (cancel_case (is_entry_free w f.instance) (task_view g w t task)) control w)

back_cancelled_on : (g : Graph) (t i callee number : ℕ) (words : List ℕ) (w : World) → IsOn (back_from_cancel g t i callee number words w)
unfolding back_from_cancel cancel_open told_payload
back_cancelled_on g t i callee number words w = subtask_on w callee _ (λ task subtask. either_on (has_resolved task) _ _ tt (either_on (flag_at g number) _ _ tt tt))

back_to_on : (g : Graph) (t i : ℕ) (state : TaskState) (w : World) → IsOn (back_to g t i state w)
unfolding back_to
back_to_on g t i (AfterCall callee number words) w = back_called_on g t i callee number words w
back_to_on g t i (AfterCancel callee number words) w = back_cancelled_on g t i callee number words (in_state t Acting w)
back_to_on g t i New w = tt
back_to_on g t i Acting w = tt
back_to_on g t i (world.Begins n) w = tt
back_to_on g t i WaitsToEnter w = tt
back_to_on g t i (InLoop said) w = tt
back_to_on g t i (InBuiltin number words wait) w = tt
back_to_on g t i Exited w = tt

pub back_on : (g : Graph) (w : World) → IsOn (back_turn g w)
unfolding back_turn
back_on g w = func_on w _ (λ t task f. back_to_on g t f.instance task.state w)

-- Results.
post_return_on : (t : ℕ) (f : Lifted) (ended : List ℕ) (ref : Option FuncRef) (w : World) → IsOn (post_return t f ended ref w)
unfolding post_return
post_return_on t f ended None w = tt
post_return_on t f ended (Some ref) w = given_on (found_at w.store.funcs (func_address w.store ref)) _ (λ function. tt)

finished_on : (follows : After) (w : World) → IsOn (finished follows w)
unfolding finished
finished_on Replies w = given_on (acting w) _ (λ a. tt)
finished_on (Finishes ended) w = func_on w _ (λ t task f. post_return_on t f ended f.options.post_return w)

passed_on_on : (g : Graph) (t : ℕ) (caller : Caller) (follows : After) (result : Option TypedValue) (w : World) → IsOn (passed_on g t caller follows result w)
unfolding passed_on passed_to
passed_on_on g t (Guest subtask) follows (Some result) w = given_on (canon_at g subtask.canon) _ (λ c. tt)
passed_on_on g t (Guest subtask) follows None w = finished_on follows w
passed_on_on g t Nobody follows result w = finished_on follows w
passed_on_on g t (Host call values) follows result w = finished_on follows w

pub resolves_on : (g : Graph) (t : ℕ) (task : Task) (follows : After) (came : Came (Option TypedValue)) → IsOn (resolves g t task follows came)
unfolding resolves resolves_to
resolves_on g t task follows came =
    lifted_on t came _ (λ result w. fault_on t task_name (resolving_fault (task_view g w t task)) w _
    (behind_on (line.Return t result ∷ []) (passed_on g t task.caller follows result (resolved t Returned w)) (passed_on_on g t task.caller follows result (resolved t Returned w))))

ending_on : (t : ℕ) (task : Task) (w : World) → IsOn (ending_turn t task w)
unfolding ending_turn
ending_on t task w = unless_on t (is_none task.resolution) trap.Unresolved w _ tt

pub leaving_on : (w : World) → IsOn (leaving_turn w)
unfolding leaving_turn
leaving_on w = given_on (acting w) _ (λ a. tt)

-- Loops, and the ends of core functions.
next_turn_on : (t : ℕ) (task : Task) (i said : ℕ) (r : Result Next BadCode) (w : World) → IsOn (next_turn t task i said r w)
unfolding next_turn
next_turn_on t task i said (Err why) w = tt
next_turn_on t task i said (Ok word.Exit) w = ending_on t task w
next_turn_on t task i said (Ok word.Yield) w = tt
next_turn_on t task i said (Ok (word.Wait set)) w = refused_on t (set_at w i set) w _ (λ number. tt)
next_turn_on t task i said (Ok (word.Poll set)) w = refused_on t (set_at w i set) w _ (λ number. tt)

looping_on : (t : ℕ) (task : Task) (i : ℕ) (words : List ℕ) (w : World) → IsOn (looping_turn t task i words w)
unfolding looping_turn
looping_on t task i [] w = tt
looping_on t task i (said ∷ words) w = next_turn_on t task i said (callback_of said) w

func_ended_on : (g : Graph) (t : ℕ) (task : Task) (f : Lifted) (k : Kind) (words : List ℕ) (w : World) → IsOn (func_ended g t task f k words w)
unfolding func_ended returning_turn
func_ended_on g t task f Sync words w = resolves_on g t task (Finishes words) (result_passed f.instance t flat_result_limit f.func_type.result f.options words w)
func_ended_on g t task f Stackful words w = ending_on t task w
func_ended_on g t task f Callback words w = looping_on t task f.instance words w

stack_ended_on : (g : Graph) (t : ℕ) (task : Task) (state : TaskState) (words : List ℕ) (w : World) → IsOn (stack_ended g t task state words w)
unfolding stack_ended
stack_ended_on g t task (world.Begins n) words w = tt
stack_ended_on g t task Acting words w = given_on (func_of task.callee) _ (λ f. func_ended_on g t task f (kind_of task) words w)
stack_ended_on g t task New words w = tt
stack_ended_on g t task (AfterCall callee number passed) words w = tt
stack_ended_on g t task (AfterCancel callee number passed) words w = tt
stack_ended_on g t task WaitsToEnter words w = tt
stack_ended_on g t task (InLoop said) words w = tt
stack_ended_on g t task (InBuiltin number passed wait) words w = tt
stack_ended_on g t task Exited words w = tt

ended_over_on : (g : Graph) (t : ℕ) (task : Task) (under : List Stack) (words : List ℕ) (w : World) → IsOn (ended_over g t task under words w)
unfolding ended_over
ended_over_on g t task [] words w = stack_ended_on g t task task.state words w
ended_over_on g t task (k ∷ under) words w = tt

pub moved_on : (g : Graph) (t : ℕ) (task : Task) (move : Move) (w : World) → IsOn (moved g t task move w)
unfolding moved
moved_on g t task (Moves paid s k) w = tt
moved_on g t task (core.Calls address words k) w = tt
moved_on g t task (core.Ends words) w = ended_over_on g t task (drop 1 task.stacks) words (unstacked t w)
moved_on g t task (Traps why) w = tt
moved_on g t task core.Stuck w = tt

-- Entry.
arguments_on : (g : Graph) (t : ℕ) (f : Lifted) (caller : Caller) (w : World) → IsOn (arguments_turn g t f caller w)
unfolding arguments_turn with_arguments
arguments_on g t f Nobody w = tt
arguments_on g t f (Host call values) w = tt
arguments_on g t f (Guest subtask) w = given_on (canon_at g subtask.canon) _ (λ c. lifted_on t (arguments_passed t f subtask c w) _ (λ v later. tt))

entered_on : (g : Graph) (t : ℕ) (task : Task) (f : Lifted) (w : World) → IsOn (entered g t task f w)
unfolding entered
entered_on g t task f w = behind_on (line.Enter t ∷ []) (arguments_turn g t f task.caller (in_state t Acting w)) (arguments_on g t f task.caller (in_state t Acting w))

pub arriving_on : (g : Graph) (w : World) → IsOn (arriving_turn g w)
unfolding arriving_turn
arriving_on g w = func_on w _ (λ t task f. either_on (may_arrive w f.instance task) _ _ (entered_on g t task f w) tt)

-- Instantiation.
started_up_on : (n : ℕ) (k : Option Stack) (w : World) → IsOn (started_up n k w)
unfolding started_up
started_up_on n None w = tt
started_up_on n (Some k) w = tt

made_on : (n : ℕ) (c : CoreMake) (imports : List External) (i : Instantiation) (w : World) → IsOn (made n c imports i w)
unfolding made
made_on n c imports (TooFar s) w = tt
made_on n c imports (Makes s) w = started_up_on (n + 1) (start_call c.of_module (instance_of c.of_module imports w.store) s) (with_store s w)

action_on : (g : Graph) (n : ℕ) (a : Option Action) (w : World) → IsOn (action_turn g n a w)
unfolding action_turn
action_on g n None w = tt
action_on g n (Some (Begin number)) w = tt
action_on g n (Some (Make number)) w =
    given_on (slice_get g.cores number) _ (λ (c : CoreMake). given_on (externals w.store c.imports) _ (λ imports. made_on n c imports (instantiated c.of_module imports w.store) w))

pub instantiating_on : (g : Graph) (n : ℕ) (w : World) → IsOn (instantiating_turn g n w)
unfolding instantiating_turn
instantiating_on g n w = action_on g n (slice_get g.plan n) w

-- Events.
callback_on : (t : ℕ) (f : Lifted) (code : EventCode) (index payload : ℕ) (w : World) → IsOn (callback_started t f code index payload w)
unfolding callback_started
callback_on t f code index payload w = given_on f.options.callback _ (λ ref. given_on (found_at w.store.funcs (func_address w.store ref)) _ (λ function. tt))

received_on : (g : Graph) (t : ℕ) (f : Lifted) (receiver : Receiver) (code : EventCode) (index : ℕ) (told : Told) → IsOn (received g t f receiver code index told)
unfolding received
received_on g t f (InWait number words) code index told = tt
received_on g t f InCallback code index told = behind_on (event_line t code index told.payload ∷ told.lines) (callback_started t f code index told.payload told.world) (callback_on t f code index told.payload told.world)

pub none_received_on : (g : Graph) (t : ℕ) (f : Lifted) (receiver : Receiver) (w : World) → IsOn (received_none g t f receiver w)
unfolding received_none
none_received_on g t f receiver w = received_on g t f receiver NoEvent 0 (nothing_told w)

pub cancel_received_on : (g : Graph) (t : ℕ) (f : Lifted) (receiver : Receiver) (w : World) → IsOn (received_cancel g t f receiver w)
unfolding received_cancel
cancel_received_on g t f receiver w = received_on g t f receiver TaskCancelled 0 (cancel_told t w)

entry_delivered_on : (g : Graph) (t : ℕ) (f : Lifted) (receiver : Receiver) (index : ℕ) (entry : Option Entry) (w : World) → IsOn (entry_delivered g t f receiver index entry w)
unfolding entry_delivered
entry_delivered_on g t f receiver index None w = tt
entry_delivered_on g t f receiver index (Some (OwnHandle resource rep)) w = tt
entry_delivered_on g t f receiver index (Some (BorrowHandle resource rep task)) w = tt
entry_delivered_on g t f receiver index (Some (OfSubtask callee)) w = subtask_on w callee _ (λ task subtask. received_on g t f receiver SubtaskEvent index (subtask_told f.instance callee task subtask w))
entry_delivered_on g t f receiver index (Some (OfSet set)) w = tt
entry_delivered_on g t f receiver index (Some (OfEnd e)) w = received_on g t f receiver (event_of_end e) index (end_told e w)

member_on : (g : Graph) (t : ℕ) (f : Lifted) (receiver : Receiver) (member : Option ℕ) (w : World) → IsOn (member_delivered g t f receiver member w)
unfolding member_delivered
member_on g t f receiver member w = given_on member _ (λ index. entry_delivered_on g t f receiver index (entry_at w f.instance index) w)

members_on : (g : Graph) (s : Script) (t : ℕ) (f : Lifted) (set : ℕ) (receiver : Receiver) (pick : Option ℕ) (members : List ℕ) (w : World) → IsOn (members_turn g s t f set receiver pick members w)
unfolding members_turn chosen
members_on g s t f set receiver None [] w = member_on g t f receiver None w
members_on g s t f set receiver None (index ∷ []) w = member_on g t f receiver (Some index) w
members_on g s t f set receiver None (index ∷ other ∷ members) w = tt
members_on g s t f set receiver (Some k) members w = member_on g t f receiver (slice_get members k) w

pub delivering_on : (g : Graph) (s : Script) (set : ℕ) (receiver : Receiver) (pick : Option ℕ) (w : World) → IsOn (delivering_turn g s set receiver pick w)
unfolding delivering_turn
delivering_on g s set receiver pick w = func_on w _ (λ t task f. members_on g s t f set receiver pick (ready w f.instance set) w)

-- Blocked tasks go on.
wait_resumed_on : (g : Graph) (t : ℕ) (f : Lifted) (is_cancelled : Bool) (number : ℕ) (words : List ℕ) (wait : Wait) (w : World) → IsOn (wait_resumed g t f is_cancelled number words wait w)
unfolding wait_resumed yield_cancelled told_result told_payload
wait_resumed_on g t f is_cancelled number words ForYield w = either_on is_cancelled _ _ tt tt
wait_resumed_on g t f is_cancelled number words (ForSet index) w = either_on is_cancelled _ _ (cancel_received_on g t f (InWait number words) w) (given_on (set_number w f.instance index) _ (λ set. tt))
wait_resumed_on g t f is_cancelled number words (ForCall callee) w = subtask_on w callee _ (λ task subtask. tt)
wait_resumed_on g t f is_cancelled number words (ForCancel index) w = given_on (found_subtask w f.instance index) _ (λ callee. subtask_on w callee _ (λ task subtask. tt))
wait_resumed_on g t f is_cancelled number words (ForCopy index) w = given_on (found_end w f.instance index) _ (λ e. tt)

set_polled_on : (g : Graph) (t : ℕ) (f : Lifted) (set : ℕ) (members : List ℕ) (w : World) → IsOn (set_polled g t f set members w)
unfolding set_polled
set_polled_on g t f set [] w = none_received_on g t f InCallback w
set_polled_on g t f set (index ∷ members) w = tt

next_resumed_on : (g : Graph) (t : ℕ) (f : Lifted) (r : Result Next BadCode) (w : World) → IsOn (next_resumed g t f r w)
unfolding next_resumed
next_resumed_on g t f (Ok word.Exit) w = tt
next_resumed_on g t f (Ok word.Yield) w = none_received_on g t f InCallback w
next_resumed_on g t f (Ok (word.Wait index)) w = given_on (set_number w f.instance index) _ (λ set. tt)
next_resumed_on g t f (Ok (word.Poll index)) w = given_on (set_number w f.instance index) _ (λ set. set_polled_on g t f set (ready w f.instance set) w)
next_resumed_on g t f (Err why) w = tt

loop_resumed_on : (g : Graph) (t : ℕ) (f : Lifted) (is_cancelled : Bool) (said : ℕ) (w : World) → IsOn (loop_resumed g t f is_cancelled said w)
unfolding loop_resumed
loop_resumed_on g t f is_cancelled said w = either_on is_cancelled _ _ (cancel_received_on g t f InCallback w) (next_resumed_on g t f (callback_of said) w)

resumed_on : (g : Graph) (t : ℕ) (task : Task) (f : Lifted) (state : TaskState) (w : World) → IsOn (resumed g t task f state w)
unfolding resumed
resumed_on g t task f WaitsToEnter w = entered_on g t task f w
resumed_on g t task f (InLoop said) w = loop_resumed_on g t f (is_asked task.cancellation) said (in_state t Acting w)
resumed_on g t task f (InBuiltin number words wait) w = wait_resumed_on g t f (is_to_be_told g number wait task w f.instance) number words wait (in_state t Acting w)
resumed_on g t task f New w = tt
resumed_on g t task f Acting w = tt
resumed_on g t task f (AfterCall callee number words) w = tt
resumed_on g t task f (AfterCancel callee number words) w = tt
resumed_on g t task f (world.Begins n) w = tt
resumed_on g t task f Exited w = tt

pub resuming_on : (g : Graph) (w : World) → IsOn (resuming_turn g w)
unfolding resuming_turn
resuming_on g w = func_on w _ (λ t task f. resumed_on g t task f task.state w)

-- Copies, and lowerings.
moved_by_on : (g : Graph) (t : ℕ) (e : EndRef) (call read write : OpenCopy) (reading writing : CanonFunc) (count : ℕ) (element : Option ValType) (w : World)
    → IsOn (moved_by g t e call read write reading writing count element w)
unfolding moved_by elements_read
moved_by_on g t e call read write reading writing count None w = tt
moved_by_on g t e call read write reading writing count (Some element) w = lifted_on t (elements_written t write writing count element w) _ (λ values later. tt)

meeting_on : (g : Graph) (t : ℕ) (e : EndRef) (call : OpenCopy) (words : List ℕ) (index : ℕ) (c : Channel) (m : Met) (w : World) → IsOn (meeting_turn g t e call words index c m w)
unfolding meeting_turn elements_moved
meeting_on g t e call words index c (AtOnce payload) w = tt
meeting_on g t e call words index c (Copies count) w = given_on (other_offer e.side c.ends.view) _ (λ offer. given_on (canon_at g (read_of e.side call offer).canon) _ (λ reading. given_on (canon_at g (write_of e.side call offer).canon) _ (λ writing.
    moved_by_on g t e call (read_of e.side call offer) (write_of e.side call offer) reading writing count c.element w)))
meeting_on g t e call words index c Stands w = either_on (options_at g call.canon).is_async _ _ tt tt

pub meets_on : (g : Graph) (t i : ℕ) (e : EndRef) (call : OpenCopy) (words : List ℕ) (index : ℕ) (w : World) → IsOn (meets g t i e call words index w)
unfolding meets
meets_on g t i e call words index w =
    given_on (channel_at w e.kind e.number) _ (λ (c : Channel). unless_on t (is_within g i e.side c.element c.ends.view) trap.SameInstance w _
    (meeting_on g t e call words index c (met_by e.kind e.side call c.ends.view) w))

transferring_on : (copying : Copying) (w : World) → IsOn (transferring_turn copying w)
unfolding transferring_turn
transferring_on copying w = given_on (acting w) _ (λ a. given_on (channel_at w copying.end.kind copying.end.number) _ (λ c. tt))

started_on : (words : List ℕ) (w : World) → IsOn (started words w)
unfolding started
started_on words w = func_on w _ (λ t task f. given_on (found_at w.store.funcs (func_address w.store f.core)) _ (λ function. tt))

lowered_on : (follows : Then) (words : List ℕ) (w : World) → IsOn (lowered follows words w)
unfolding lowered
lowered_on Starts words w = started_on words w
lowered_on (Resolves to follows) words w = finished_on follows (result_kept to words w)
lowered_on (Transfers copying) words w = transferring_on copying w

paused_on : (l : Lowering) (p : Paused) (w : World) → IsOn (paused l p w)
unfolding paused
paused_on l (Words words) w = lowered_on l.next words w
paused_on l (Failed why) w = tt
paused_on l (AsksNow ask k) w = given_on (found_at w.store.funcs l.realloc) _ (λ f. tt)

pub lowers_on : (l : Lowering) (plan : Plan) (w : World) → IsOn (lowers_turn l plan w)
unfolding lowers_turn settled_turn
lowers_on l plan w =
    let settled : Settled = settle l.acts_for plan (bytes_of w.store l.memory) (table_of w l.inst) in
    paused_on l settled.paused (left_by l settled w)
