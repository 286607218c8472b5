-- What tasks make of themselves comes to lowerings only that ask where they may: calls, results, entry, events, and what is passed.
use Rattle.std.proofs.Common.{◌≡◌, ◌∙◌, ℕ, ◌+◌, Bool, true, false, nat_lt, List, [], ◌∷◌, refl, sym, subst, Option, Some, None, Result, Ok, Err}
use Rattle.std.specs.Prelude.{is_none, drop, IsSome}
use Rattle.std.specs.List.{slice_get}
use Rattle.wasm_store.specs.Store.{found_at}
use Rattle.wasm_store.specs.Stack.{Stack}
use Rattle.wasm_store.specs.Instantiation.{External, Instantiation, Makes, SegmentBounds as TooFar, instantiated, instance_of, start_call}
use Rattle.wasm_store.specs.Step.{Move, Goes as Moves, Traps}
use Rattle.wasm_store.specs.Step as core
use Rattle.entry_gate.specs.Callbacks.{callback_of}
use Rattle.entry_gate.specs.declared.kind.Kind.{Kind}
use Rattle.entry_gate.specs.declared.kind.Kind.TheVariants.{Sync, Callback, Stackful}
use Rattle.entry_gate.specs.declared.callback.BadCode.{BadCode}
use Rattle.entry_gate.specs.declared.callback.Next.{Next}
use Rattle.entry_gate.specs.declared.callback.Next.TheVariants as word
use Rattle.handle_table.specs.History.{live_count, most_live, next_index}
use Rattle.stream_ends.specs.declared.open_copy.OpenCopy.{OpenCopy}
use Rattle.tasks.specs.Tasks.{is_asked, cancel_case}
use Rattle.tasks.specs.declared.event.Asked.{Asked}
use Rattle.tasks.specs.declared.event.Asked.TheVariants.{Removed, ResumeNow, Pending}
use Rattle.comp_graph.specs.declared.graph.Action.{Action}
use Rattle.comp_graph.specs.declared.graph.Action.TheVariants.{Begin, Make}
use Rattle.comp_graph.specs.Needs.{flat_result_limit}
use Rattle.comp_graph.specs.Graph.{Graph, CoreMake, Lifted}
use Rattle.script_reader.specs.Script.{Script}
use Rattle.trace_labels.specs.declared.trap.TrapName.{TrapName}
use Rattle.trace_labels.specs.declared.trap.TrapName.TheVariants as trap
use Rattle.abi_machine.specs.declared.run_end.RunEnd.TheVariants.{Fuel}
use Rattle.abi_machine.specs.LoweringOver.{Plan}
use Rattle.abi_machine.specs.Control.{EndRef, Finishes, Copying, Then, Starts, Resolves, Transfers, Lowering, EventCode, NoEvent, SubtaskEvent, TaskCancelled, Receiver, InWait, InCallback, Control}
use Rattle.abi_machine.specs.World.{Entry, OwnHandle, BorrowHandle, OfSubtask, OfSet, OfEnd, Callee, Subtask, Caller, Nobody, Host, Guest, Wait, ForYield, ForSet, ForCall, ForCopy, ForCancel, TaskState, New, Acting, AfterCall, AfterCancel, WaitsToEnter, InLoop, InBuiltin, Exited, Task, Channel, World}
use Rattle.abi_machine.specs.World as world
use Rattle.abi_machine.specs.Edits.{with_store, unit_spent, entry_added, in_state, unstacked, told, result_kept}
use Rattle.abi_machine.specs.Canons.{func_address, externals, bytes_of, canon_at, options_at, flag_at}
use Rattle.abi_machine.specs.Reading.{table_of, entry_at, channel_at, task_at, acting, func_of, kind_of, subtask_of, is_reentrant}
use Rattle.abi_machine.specs.Counting.{subtask_state, task_view, has_resolved, ready}
use Rattle.abi_machine.specs.Gate.{is_entry_free, may_arrive}
use Rattle.abi_machine.specs.Finding.{set_at, found_subtask, set_number, found_end}
use Rattle.abi_machine.specs.Pausing.{Paused, Words, Failed, Asked as AsksNow, Settled, settle}
use Rattle.abi_machine.specs.Turn.{Turn, Ends, doomed, given, replied, unless_refused, unless, with_func, charged, with_entry}
use Rattle.abi_machine.specs.Calling.{Told, call_state, call_begun, call_resolved, call_open, with_subtask_of, subtask_told, back_from_call}
use Rattle.abi_machine.specs.Cancelling.{asked_turn, cancelled_turn, cancel_open, back_from_cancel, back_to, back_turn}
use Rattle.abi_machine.specs.Choosing.{chosen}
use Rattle.abi_machine.specs.Copying.{Met, AtOnce, Moves as Copies, Stands, met_by, other_offer, read_of, write_of, is_within, elements_moved, meeting_turn, meets, transferring_turn}
use Rattle.abi_machine.specs.CoreSteps.{func_ended, stack_ended, ended_over, moved}
use Rattle.abi_machine.specs.Delivering.{event_line, nothing_told, cancel_told, end_told, event_of_end, is_to_be_told, callback_started, received, received_none, received_cancel, entry_delivered, member_delivered, members_turn, delivering_turn, yield_cancelled, told_payload, told_result, wait_resumed, set_polled, next_resumed, loop_resumed, resumed, resuming_turn}
use Rattle.abi_machine.specs.Entering.{arriving_turn}
use Rattle.abi_machine.specs.Instantiating.{started_up, made, action_turn, instantiating_turn}
use Rattle.abi_machine.specs.Looping.{next_turn, looping_turn}
use Rattle.abi_machine.specs.Lowering.{started, lowered, paused, left_by, settled_turn, lowers_turn}
use Rattle.abi_machine.specs.Returning.{result_passed, returning_turn, ending_turn, leaving_turn}
use Rattle.abi_machine.specs.replies.Waiting.{is_cancelled}
use Rattle.wasm_store.specs.Store.{Store}
use Rattle.laid_types.specs.Lists.{held_list}
use Rattle.stream_ends.specs.declared.side.Side.{Side}
use Rattle.stream_ends.specs.declared.side.Side.TheVariants.{Reader, Writer}
use Rattle.stream_ends.specs.Ends.{end_at, standing_of}
use Rattle.stream_ends.proofs.Meetings.{standing_is}
use Rattle.abi_machine.specs.Edits.{offered, control_behind}
use Rattle.abi_machine.specs.sound.Agreeing.{channel_in}
use Rattle.abi_machine.specs.sound.CallsFit.{IsCopyBy, CopiesAt}
use Rattle.abi_machine.specs.sound.Fitting.{CopiesFit}
use Rattle.abi_machine.specs.sound.Places.{AsksWhere, AsksWell}
use Rattle.abi_machine.proofs.sound.Found.{some_same}
use Rattle.abi_machine.proofs.sound.Due.{channel_is}
use Rattle.abi_machine.proofs.sound.places.Plans.{PausesWhere, settled_asks}
use Rattle.abi_machine.proofs.sound.places.Passing.{GoesWell, either_well, given_well, behind_well, HasGivers, IsKnown, result_says, entered_well, finished_well, resolves_well, result_same, moved_by_well}

-- What turns are made of.
pub given_so : {A : Type 0} (o : Option A) (f : A → Turn) → ((x : A) → GoesWell (f x)) → GoesWell (given o f)
given_so None f h = tt
given_so (Some x) f h = h x

-- Control goes to the task before one that blocks or exits.
pub behind_says : (chain : List ℕ) → AsksWell (control_behind chain)
behind_says [] = tt
behind_says (t ∷ below) = tt

pub unless_so : (t : ℕ) (b : Bool) (why : TrapName) (w : World) (more : Turn) → GoesWell more → GoesWell (unless t b why w more)
unless_so t true why w more h = tt
unless_so t false why w more h = h

pub refused_so : {A : Type 0} (t : ℕ) (r : Result A TrapName) (w : World) (f : A → Turn) → ((x : A) → GoesWell (f x)) → GoesWell (unless_refused t r w f)
refused_so t (Err why) w f h = tt
refused_so t (Ok x) w f h = h x

func_so : (w : World) (more : ℕ → Task → Lifted → Turn) → ((t : ℕ) (task : Task) (f : Lifted) → GoesWell (more t task f)) → GoesWell (with_func w more)
func_so w more h = given_so (acting w) _ (λ (a : ℕ × Task). given_so (func_of a.1.callee) _ (λ f. h a.0 a.1 f))

pub entry_so : (t i : ℕ) (entry : Entry) (w : World) (more : ℕ → World → Turn) → ((index : ℕ) (v : World) → GoesWell (more index v)) → GoesWell (with_entry t i entry w more)
entry_so t i entry w more h =
    either_well (nat_lt (live_count (table_of w i)) most_live) (more (next_index (table_of w i)) (entry_added i entry w)) (doomed t trap.TableFull w) (h (next_index (table_of w i)) (entry_added i entry w)) tt

pub subtask_so : (w : World) (callee : ℕ) (more : Task → Subtask → Turn) → ((task : Task) (subtask : Subtask) → GoesWell (more task subtask)) → GoesWell (with_subtask_of w callee more)
subtask_so w callee more h = given_so (task_at w callee) _ (λ (task : Task). given_so (subtask_of task.caller) _ (λ subtask. h task subtask))

pub charged_so : (costs : Bool) (s : Script) (w : World) (f : World → Turn) → ((units : ℕ) → GoesWell (f (record w { units = units }))) → GoesWell (charged costs s w f)
charged_so false s w f h = h w.units
charged_so true s w f h = either_well (nat_lt w.units s.fuel) (f (unit_spent w)) (Ends Fuel) (h (w.units + 1)) tt

-- Calls, and cancellations.
pub begun_so : (t number : ℕ) (words : List ℕ) (callee : Callee) (f : Lifted) (passed : List ℕ) (w : World) → GoesWell (call_begun t number words callee f passed w)
unfolding call_begun
begun_so t number words callee f passed w = unless_so t (is_reentrant w f.instance t) trap.Reentrant w _ tt

open_so : (t i callee : ℕ) (task : Task) (is_async : Bool) (number : ℕ) (words : List ℕ) (w : World) → GoesWell (call_open t i callee task is_async number words w)
unfolding call_open
open_so t i callee task true number words w = entry_so t i (OfSubtask callee) w (λ index v. replied t (call_state task index ∷ []) (told callee (subtask_state task) v)) (λ index v. tt)
open_so t i callee task false number words w = behind_says (drop 1 w.chain)

back_called_so : (g : Graph) (t i callee number : ℕ) (words : List ℕ) (w : World) → GoesWell (back_from_call g t i callee number words w)
unfolding back_from_call call_resolved
back_called_so g t i callee number words w = subtask_so w callee _ (λ task subtask. either_well (has_resolved task) _ _ tt (open_so t i callee task (options_at g number).is_async number words (in_state t Acting w)))

asked_so : (t : ℕ) (asked : Asked) (control : Control) (w : World) → AsksWell control → GoesWell (asked_turn t asked control w)
unfolding asked_turn
asked_so t Removed control w h = h
asked_so t ResumeNow control w h = tt
asked_so t Pending control w h = h

pub cancelled_so : (g : Graph) (t : ℕ) (task : Task) (control : Control) (w : World) → AsksWell control → GoesWell (cancelled_turn g t task control w)
unfolding cancelled_turn
cancelled_so g t task control w h = given_so (func_of task.callee) _ (λ f. asked_so t (cancel_case (is_entry_free w f.instance) (task_view g w t task)) control w h)

back_cancelled_so : (g : Graph) (t i callee number : ℕ) (words : List ℕ) (w : World) → GoesWell (back_from_cancel g t i callee number words w)
unfolding back_from_cancel cancel_open told_payload
back_cancelled_so g t i callee number words w = subtask_so w callee _ (λ task subtask. either_well (has_resolved task) _ _ tt (either_well (flag_at g number) _ _ tt (behind_says (drop 1 w.chain))))

back_to_so : (g : Graph) (t i : ℕ) (state : TaskState) (w : World) → GoesWell (back_to g t i state w)
unfolding back_to
back_to_so g t i (AfterCall callee number words) w = back_called_so g t i callee number words w
back_to_so g t i (AfterCancel callee number words) w = back_cancelled_so g t i callee number words (in_state t Acting w)
back_to_so g t i New w = tt
back_to_so g t i Acting w = tt
back_to_so g t i (world.Begins n) w = tt
back_to_so g t i WaitsToEnter w = tt
back_to_so g t i (InLoop said) w = tt
back_to_so g t i (InBuiltin number words wait) w = tt
back_to_so g t i Exited w = tt

pub back_so : (g : Graph) (w : World) → GoesWell (back_turn g w)
unfolding back_turn
back_so g w = func_so w _ (λ t task f. back_to_so g t f.instance task.state w)

-- Results.
ending_so : (t : ℕ) (task : Task) (w : World) → GoesWell (ending_turn t task w)
unfolding ending_turn
ending_so t task w = unless_so t (is_none task.resolution) trap.Unresolved w _ tt

pub leaving_so : (w : World) → GoesWell (leaving_turn w)
unfolding leaving_turn
leaving_so w = given_so (acting w) _ (λ a. behind_says (drop 1 w.chain))

-- Loops, and the ends of core functions.
next_turn_so : (t : ℕ) (task : Task) (i said : ℕ) (r : Result Next BadCode) (w : World) → GoesWell (next_turn t task i said r w)
unfolding next_turn
next_turn_so t task i said (Err why) w = tt
next_turn_so t task i said (Ok word.Exit) w = ending_so t task w
next_turn_so t task i said (Ok word.Yield) w = behind_says (drop 1 w.chain)
next_turn_so t task i said (Ok (word.Wait set)) w = refused_so t (set_at w i set) w _ (λ number. behind_says (drop 1 w.chain))
next_turn_so t task i said (Ok (word.Poll set)) w = refused_so t (set_at w i set) w _ (λ number. behind_says (drop 1 w.chain))

looping_so : (t : ℕ) (task : Task) (i : ℕ) (words : List ℕ) (w : World) → GoesWell (looping_turn t task i words w)
unfolding looping_turn
looping_so t task i [] w = tt
looping_so t task i (said ∷ words) w = next_turn_so t task i said (callback_of said) w

-- the acting task, once it runs a function
abbrev pub IsKnownIn : Graph → Store → Task → Type 0
IsKnownIn g st task = (f : Lifted) → func_of task.callee ≡ Some f → HasGivers g st × IsKnown g task

func_ended_so : (g : Graph) (st : Store) (t : ℕ) (task : Task) (f : Lifted) (k : Kind) (words : List ℕ) (w : World) → w.store ≡ st → IsKnownIn g st task → func_of task.callee ≡ Some f → GoesWell (func_ended g t task f k words w)
unfolding func_ended returning_turn
func_ended_so g st t task f Sync words w same known runs =
    let k = known f runs in
    resolves_well g st t task f (Finishes words) (result_passed f.instance t flat_result_limit f.func_type.result f.options words w) k.0 k.1 runs
    (result_says f.instance t flat_result_limit (held_list f.func_type.result ≡ true) f.func_type.result (λ e. e) f.options words w) (result_same g st f.instance t flat_result_limit f.func_type.result f.options words w same)
func_ended_so g st t task f Stackful words w same known runs = ending_so t task w
func_ended_so g st t task f Callback words w same known runs = looping_so t task f.instance words w

stack_ended_so : (g : Graph) (st : Store) (t : ℕ) (task : Task) (state : TaskState) (words : List ℕ) (w : World) → w.store ≡ st → IsKnownIn g st task → GoesWell (stack_ended g t task state words w)
unfolding stack_ended
stack_ended_so g st t task (world.Begins n) words w same known = tt
stack_ended_so g st t task Acting words w same known = given_well (func_of task.callee) _ (λ f e. func_ended_so g st t task f (kind_of task) words w same known e)
stack_ended_so g st t task New words w same known = tt
stack_ended_so g st t task (AfterCall callee number passed) words w same known = tt
stack_ended_so g st t task (AfterCancel callee number passed) words w same known = tt
stack_ended_so g st t task WaitsToEnter words w same known = tt
stack_ended_so g st t task (InLoop said) words w same known = tt
stack_ended_so g st t task (InBuiltin number passed wait) words w same known = tt
stack_ended_so g st t task Exited words w same known = tt

ended_over_so : (g : Graph) (st : Store) (t : ℕ) (task : Task) (under : List Stack) (words : List ℕ) (w : World) → w.store ≡ st → IsKnownIn g st task → GoesWell (ended_over g t task under words w)
unfolding ended_over
ended_over_so g st t task [] words w same known = stack_ended_so g st t task task.state words w same known
ended_over_so g st t task (k ∷ under) words w same known = tt

pub moved_so : (g : Graph) (st : Store) (t : ℕ) (task : Task) (move : Move) (w : World) → w.store ≡ st → IsKnownIn g st task → GoesWell (moved g t task move w)
unfolding moved
moved_so g st t task (Moves paid s k) w same known = tt
moved_so g st t task (core.Calls address words k) w same known = tt
moved_so g st t task (core.Ends words) w same known = ended_over_so g st t task (drop 1 task.stacks) words (unstacked t w) same known
moved_so g st t task (Traps why) w same known = tt
moved_so g st t task core.Stuck w same known = tt

-- Entry.
pub arriving_so : (g : Graph) (w : World) → ((a : ℕ × Task) → acting w ≡ Some a → IsKnownIn g w.store a.1) → GoesWell (arriving_turn g w)
unfolding arriving_turn
arriving_so g w known =
    given_well (acting w) _ (λ a e. given_well (func_of a.1.callee) _ (λ f k. either_well (may_arrive w f.instance a.1) _ _
    (entered_well g w.store a.0 a.1 f w refl (known a e f k).0 (known a e f k).1 k) (behind_says (drop 1 w.chain))))

-- Instantiation.
started_up_so : (n : ℕ) (k : Option Stack) (w : World) → GoesWell (started_up n k w)
unfolding started_up
started_up_so n None w = tt
started_up_so n (Some k) w = tt

made_so : (n : ℕ) (c : CoreMake) (imports : List External) (i : Instantiation) (w : World) → GoesWell (made n c imports i w)
unfolding made
made_so n c imports (TooFar s) w = tt
made_so n c imports (Makes s) w = started_up_so (n + 1) (start_call c.of_module (instance_of c.of_module imports w.store) s) (with_store s w)

action_so : (g : Graph) (n : ℕ) (a : Option Action) (w : World) → GoesWell (action_turn g n a w)
unfolding action_turn
action_so g n None w = tt
action_so g n (Some (Begin number)) w = tt
action_so g n (Some (Make number)) w =
    given_so (slice_get g.cores number) _ (λ (c : CoreMake). given_so (externals w.store c.imports) _ (λ imports. made_so n c imports (instantiated c.of_module imports w.store) w))

pub instantiating_so : (g : Graph) (n : ℕ) (w : World) → GoesWell (instantiating_turn g n w)
unfolding instantiating_turn
instantiating_so g n w = action_so g n (slice_get g.plan n) w

-- Events.
callback_so : (t : ℕ) (f : Lifted) (code : EventCode) (index payload : ℕ) (w : World) → GoesWell (callback_started t f code index payload w)
unfolding callback_started
callback_so t f code index payload w = given_so f.options.callback _ (λ ref. given_so (found_at w.store.funcs (func_address w.store ref)) _ (λ function. tt))

received_so : (g : Graph) (t : ℕ) (f : Lifted) (receiver : Receiver) (code : EventCode) (index : ℕ) (told : Told) → GoesWell (received g t f receiver code index told)
unfolding received
received_so g t f (InWait number words) code index told = tt
received_so g t f InCallback code index told = behind_well (event_line t code index told.payload ∷ told.lines) (callback_started t f code index told.payload told.world) (callback_so t f code index told.payload told.world)

pub none_received_so : (g : Graph) (t : ℕ) (f : Lifted) (receiver : Receiver) (w : World) → GoesWell (received_none g t f receiver w)
unfolding received_none
none_received_so g t f receiver w = received_so g t f receiver NoEvent 0 (nothing_told w)

pub cancel_received_so : (g : Graph) (t : ℕ) (f : Lifted) (receiver : Receiver) (w : World) → GoesWell (received_cancel g t f receiver w)
unfolding received_cancel
cancel_received_so g t f receiver w = received_so g t f receiver TaskCancelled 0 (cancel_told t w)

entry_delivered_so : (g : Graph) (t : ℕ) (f : Lifted) (receiver : Receiver) (index : ℕ) (entry : Option Entry) (w : World) → GoesWell (entry_delivered g t f receiver index entry w)
unfolding entry_delivered
entry_delivered_so g t f receiver index None w = tt
entry_delivered_so g t f receiver index (Some (OwnHandle resource rep)) w = tt
entry_delivered_so g t f receiver index (Some (BorrowHandle resource rep task)) w = tt
entry_delivered_so g t f receiver index (Some (OfSubtask callee)) w = subtask_so w callee _ (λ task subtask. received_so g t f receiver SubtaskEvent index (subtask_told f.instance callee task subtask w))
entry_delivered_so g t f receiver index (Some (OfSet set)) w = tt
entry_delivered_so g t f receiver index (Some (OfEnd e)) w = received_so g t f receiver (event_of_end e) index (end_told e w)

member_so : (g : Graph) (t : ℕ) (f : Lifted) (receiver : Receiver) (member : Option ℕ) (w : World) → GoesWell (member_delivered g t f receiver member w)
unfolding member_delivered
member_so g t f receiver member w = given_so member _ (λ index. entry_delivered_so g t f receiver index (entry_at w f.instance index) w)

members_so : (g : Graph) (s : Script) (t : ℕ) (f : Lifted) (set : ℕ) (receiver : Receiver) (pick : Option ℕ) (members : List ℕ) (w : World) → GoesWell (members_turn g s t f set receiver pick members w)
unfolding members_turn chosen
members_so g s t f set receiver None [] w = member_so g t f receiver None w
members_so g s t f set receiver None (index ∷ []) w = member_so g t f receiver (Some index) w
members_so g s t f set receiver None (index ∷ other ∷ members) w = tt
members_so g s t f set receiver (Some k) members w = member_so g t f receiver (slice_get members k) w

pub delivering_so : (g : Graph) (s : Script) (set : ℕ) (receiver : Receiver) (pick : Option ℕ) (w : World) → GoesWell (delivering_turn g s set receiver pick w)
unfolding delivering_turn
delivering_so g s set receiver pick w = func_so w _ (λ t task f. members_so g s t f set receiver pick (ready w f.instance set) w)

-- Blocked tasks go on.
wait_resumed_so : (g : Graph) (t : ℕ) (f : Lifted) (is_cancelled : Bool) (number : ℕ) (words : List ℕ) (wait : Wait) (w : World) → GoesWell (wait_resumed g t f is_cancelled number words wait w)
unfolding wait_resumed yield_cancelled told_result told_payload
wait_resumed_so g t f is_cancelled number words ForYield w = either_well is_cancelled _ _ tt tt
wait_resumed_so g t f is_cancelled number words (ForSet index) w = either_well is_cancelled _ _ (cancel_received_so g t f (InWait number words) w) (given_so (set_number w f.instance index) _ (λ set. tt))
wait_resumed_so g t f is_cancelled number words (ForCall callee) w = subtask_so w callee _ (λ task subtask. tt)
wait_resumed_so g t f is_cancelled number words (ForCancel index) w = given_so (found_subtask w f.instance index) _ (λ callee. subtask_so w callee _ (λ task subtask. tt))
wait_resumed_so g t f is_cancelled number words (ForCopy index) w = given_so (found_end w f.instance index) _ (λ e. tt)

set_polled_so : (g : Graph) (t : ℕ) (f : Lifted) (set : ℕ) (members : List ℕ) (w : World) → GoesWell (set_polled g t f set members w)
unfolding set_polled
set_polled_so g t f set [] w = none_received_so g t f InCallback w
set_polled_so g t f set (index ∷ members) w = tt

next_resumed_so : (g : Graph) (t : ℕ) (f : Lifted) (r : Result Next BadCode) (w : World) → GoesWell (next_resumed g t f r w)
unfolding next_resumed
next_resumed_so g t f (Ok word.Exit) w = tt
next_resumed_so g t f (Ok word.Yield) w = none_received_so g t f InCallback w
next_resumed_so g t f (Ok (word.Wait index)) w = given_so (set_number w f.instance index) _ (λ set. tt)
next_resumed_so g t f (Ok (word.Poll index)) w = given_so (set_number w f.instance index) _ (λ set. set_polled_so g t f set (ready w f.instance set) w)
next_resumed_so g t f (Err why) w = tt

loop_resumed_so : (g : Graph) (t : ℕ) (f : Lifted) (is_cancelled : Bool) (said : ℕ) (w : World) → GoesWell (loop_resumed g t f is_cancelled said w)
unfolding loop_resumed
loop_resumed_so g t f is_cancelled said w = either_well is_cancelled _ _ (cancel_received_so g t f InCallback w) (next_resumed_so g t f (callback_of said) w)

resumed_so : (g : Graph) (t : ℕ) (task : Task) (f : Lifted) (state : TaskState) (w : World) → IsKnownIn g w.store task → func_of task.callee ≡ Some f → GoesWell (resumed g t task f state w)
unfolding resumed
resumed_so g t task f WaitsToEnter w known runs = entered_well g w.store t task f w refl (known f runs).0 (known f runs).1 runs
resumed_so g t task f (InLoop said) w known runs = loop_resumed_so g t f (is_asked task.cancellation) said (in_state t Acting w)
resumed_so g t task f (InBuiltin number words wait) w known runs = wait_resumed_so g t f (is_to_be_told g number wait task w f.instance) number words wait (in_state t Acting w)
resumed_so g t task f New w known runs = tt
resumed_so g t task f Acting w known runs = tt
resumed_so g t task f (AfterCall callee number words) w known runs = tt
resumed_so g t task f (AfterCancel callee number words) w known runs = tt
resumed_so g t task f (world.Begins n) w known runs = tt
resumed_so g t task f Exited w known runs = tt

pub resuming_so : (g : Graph) (w : World) → ((a : ℕ × Task) → acting w ≡ Some a → IsKnownIn g w.store a.1) → GoesWell (resuming_turn g w)
unfolding resuming_turn
resuming_so g w known = given_well (acting w) _ (λ a e. given_well (func_of a.1.callee) _ (λ f k. resumed_so g a.0 a.1 f a.1.state w (known a e) k))

-- Copies, and lowerings.
-- what is read, where a call meets an offer: by the call's canonical function, or by that of the offer
pub read_by : (g : Graph) (w : World) (e : EndRef) (call offer : OpenCopy) (c : Channel) → CopiesAt g w.streams w.futures e call.canon → CopiesFit g w.streams w.futures → channel_at w e.kind e.number ≡ Some c → other_offer e.side c.ends.view ≡ Some offer
    → IsCopyBy g e.kind Reader c.element (read_of e.side call offer).canon
read_by g w e call offer c own fit there meets = by e.side refl
  where
    at : channel_in e.kind e.number w.streams w.futures ≡ Some c
    at = channel_is e.kind e.number w ∙ there

    by : (side : Side) → e.side ≡ side → IsCopyBy g e.kind Reader c.element (read_of side call offer).canon
    by Reader is = subst (λ (x : Side). IsCopyBy g e.kind x c.element call.canon) is (subst (λ (x : Channel). IsCopyBy g e.kind e.side x.element call.canon) (some_same (sym own.1 ∙ at)) own.2)
    by Writer is =
        let d : EndRef = record { kind = e.kind; number = e.number; side = Reader } in
        let stands : standing_of (end_at Reader c.ends.view).copy ≡ Some offer = subst (λ (x : Side). other_offer x c.ends.view ≡ Some offer) is meets in
        fit d c offer at (standing_is (end_at Reader c.ends.view).copy offer stands)

meeting_so : (g : Graph) (t : ℕ) (e : EndRef) (call : OpenCopy) (words : List ℕ) (index : ℕ) (c : Channel) (m : Met) (w : World) → HasGivers g w.store → CopiesAt g w.streams w.futures e call.canon → CopiesFit g w.streams w.futures
    → channel_at w e.kind e.number ≡ Some c → GoesWell (meeting_turn g t e call words index c m w)
unfolding meeting_turn elements_moved
meeting_so g t e call words index c (AtOnce payload) w givers own fit there = tt
meeting_so g t e call words index c (Copies count) w givers own fit there =
    given_well (other_offer e.side c.ends.view) _ (λ offer i. given_well (canon_at g (read_of e.side call offer).canon) _ (λ reading j. given_so (canon_at g (write_of e.side call offer).canon) _ (λ writing.
    moved_by_well g w.store t e call (read_of e.side call offer) (write_of e.side call offer) reading writing count c.element w refl givers (read_by g w e call offer c own fit there i) j)))
meeting_so g t e call words index c Stands w givers own fit there = either_well (options_at g call.canon).is_async _ _ tt (behind_says (drop 1 (offered e call w).chain))

pub meets_so : (g : Graph) (t i : ℕ) (e : EndRef) (call : OpenCopy) (words : List ℕ) (index : ℕ) (w : World) → HasGivers g w.store → CopiesAt g w.streams w.futures e call.canon → CopiesFit g w.streams w.futures
    → GoesWell (meets g t i e call words index w)
unfolding meets
meets_so g t i e call words index w givers own fit =
    given_well (channel_at w e.kind e.number) _ (λ c j. unless_so t (is_within g i e.side c.element c.ends.view) trap.SameInstance w _
    (meeting_so g t e call words index c (met_by e.kind e.side call c.ends.view) w givers own fit j))

transferring_so : (copying : Copying) (w : World) → GoesWell (transferring_turn copying w)
unfolding transferring_turn
transferring_so copying w = given_so (acting w) _ (λ a. given_so (channel_at w copying.end.kind copying.end.number) _ (λ c. tt))

started_so : (words : List ℕ) (w : World) → GoesWell (started words w)
unfolding started
started_so words w = func_so w _ (λ t task f. given_so (found_at w.store.funcs (func_address w.store f.core)) _ (λ function. tt))

lowered_so : (follows : Then) (words : List ℕ) (w : World) → GoesWell (lowered follows words w)
unfolding lowered
lowered_so Starts words w = started_so words w
lowered_so (Resolves to follows) words w = finished_well follows (result_kept to words w)
lowered_so (Transfers copying) words w = transferring_so copying w

paused_so : (l : Lowering) (p : Paused) (w : World) → PausesWhere (IsSome l.realloc) p → GoesWell (paused l p w)
unfolding paused
paused_so l (Words words) w h = lowered_so l.next words w
paused_so l (Failed why) w h = tt
paused_so l (AsksNow ask k) w h = given_so (found_at w.store.funcs l.realloc) _ (λ f. h.1)

pub lowers_so : (l : Lowering) (plan : Plan) (w : World) → AsksWhere (IsSome l.realloc) plan → GoesWell (lowers_turn l plan w)
unfolding lowers_turn settled_turn
lowers_so l plan w h =
    let settled : Settled = settle l.acts_for plan (bytes_of w.store l.memory) (table_of w l.inst) in
    paused_so l settled.paused (left_by l settled w) (settled_asks (IsSome l.realloc) l.acts_for plan (bytes_of w.store l.memory) (table_of w l.inst) h)
