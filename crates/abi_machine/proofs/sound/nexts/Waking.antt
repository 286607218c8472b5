-- What comes next where tasks enter, are called, go on, and get events.
use Rattle.std.proofs.Common.{◌≡◌, ℕ, Bool, true, false, List, [], ◌∷◌, length, refl, sym, subst, Option, Some, None, Result, Ok, Err}
use Rattle.std.specs.Prelude.{IsSome, IfSome}
use Rattle.std.specs.Option.{unwrap_or}
use Rattle.std.specs.List.{slice_get, AllByRecursion}
use Rattle.wasm_store.proofs.Lists.{all_at}
use Rattle.wasm_store.specs.Store.{Store, found_at}
use Rattle.entry_gate.specs.Callbacks.{callback_of}
use Rattle.entry_gate.specs.declared.callback.BadCode.{BadCode}
use Rattle.entry_gate.specs.declared.callback.Next.{Next}
use Rattle.entry_gate.specs.declared.callback.Next.TheVariants as next
use Rattle.handle_table.specs.History.{live}
use Rattle.tasks.specs.Tasks.{is_asked}
use Rattle.entry_gate.specs.declared.kind.Kind.TheVariants.{Callback}
use Rattle.comp_graph.specs.Graph.{Graph, Lifted}
use Rattle.script_reader.specs.Script.{Script}
use Rattle.trace_labels.specs.declared.label.Label.TheVariants as line
use Rattle.trace_labels.specs.declared.label.BlockReason.TheVariants as reason
use Rattle.abi_machine.specs.Control.{EndRef, EventCode, SubtaskEvent, Receiver, InWait, InCallback, Delivers}
use Rattle.abi_machine.specs.World.{Entry, OwnHandle, BorrowHandle, OfSubtask, OfSet, OfEnd, Inst, Callee, Subtask, Caller, Nobody, Host, Guest, Wait, ForYield, ForSet, ForCall, ForCopy, ForCancel, TaskState, New as IsNew, Acting, AfterCall, AfterCancel, Begins, WaitsToEnter, InLoop, InBuiltin, Exited, Task, World}
use Rattle.abi_machine.specs.Edits.{changed_at, in_state, told}
use Rattle.abi_machine.specs.Canons.{func_address, canon_at, options_at, flag_at}
use Rattle.abi_machine.specs.Reading.{table_in, entry_at, func_of, kind_of_func, is_reentrant}
use Rattle.abi_machine.specs.Counting.{has_resolved, subtask_state, entry_has_event, ready}
use Rattle.abi_machine.specs.Gate.{may_arrive}
use Rattle.abi_machine.specs.Finding.{set_in, set_number, accepted, subtask_in, found_subtask, found_end}
use Rattle.abi_machine.specs.Turn.{replied, blocked}
use Rattle.abi_machine.specs.Entering.{with_arguments, arguments_passed, arguments_turn, entered, arriving_turn}
use Rattle.abi_machine.specs.Calling.{call_begun, call_state, Told, subtask_told, call_resolved, call_open, back_from_call}
use Rattle.abi_machine.specs.Delivering.{event_line, callback_started, received, received_none, received_cancel, nothing_told, cancel_told, end_told, event_of_end, entry_delivered, member_delivered, members_turn, delivering_turn, is_to_be_told, yield_cancelled, told_payload, told_result, wait_resumed, set_polled, next_resumed, loop_resumed, resumed, resuming_turn}
use Rattle.abi_machine.specs.Cancelling.{cancel_open, back_from_cancel, back_to, back_turn}
use Rattle.abi_machine.specs.sound.Changes.{IsFirst, IsGuest, IsBlocked}
use Rattle.abi_machine.specs.sound.Acting.{Outline, outline_of, outlines_of, StandsBy, HaveStacks, IsNew as IsNewOne, IsCalling, IsWaitingFor, WasBlocked, OneActs}
use Rattle.abi_machine.specs.sound.Called.{Called, HasCalled, HaveCalled}
use Rattle.abi_machine.specs.sound.Numbers.{IsNamed, NamesWhatIsThere}
use Rattle.abi_machine.specs.sound.Loops.{HasSetAt, GoesOnBy, LoopsIn, LoopsSo}
use Rattle.abi_machine.specs.sound.SetWaits.{WaitsOnSet}
use Rattle.abi_machine.specs.sound.Guests.{WaitsAs, WaitAs}
use Rattle.abi_machine.specs.sound.Events.{HasReceiver, EndsWait, HasCause, EventComes}
use Rattle.abi_machine.specs.sound.Cancels.{CancelStands}
use Rattle.abi_machine.specs.sound.GoingOn.{HasNext, IsFuncThere, AreFuncsThere, HaveFuncs}
use Rattle.abi_machine.proofs.sound.Lists.{all_as}
use Rattle.abi_machine.proofs.sound.Found.{guest_changed}
use Rattle.abi_machine.proofs.sound.known.Handles.{found_subtask_there}
use Rattle.abi_machine.proofs.sound.known.Events.{has_callback}
use Rattle.abi_machine.proofs.sound.known.Ready.{ready_has_event}
use Rattle.abi_machine.proofs.sound.Aside.{channel_kept}
use Rattle.abi_machine.proofs.sound.Outlines.{outline_there}
use Rattle.abi_machine.proofs.sound.own.Belonging.{if_there}
use Rattle.abi_machine.proofs.sound.nexts.Parts.{given_next, behind_next, either_next, unless_next, chosen_next, entry_next, came_next, func_next, subtask_next, HasCaller}

-- Tasks enter.

arguments_next : (g : Graph) (t : ℕ) (f : Lifted) (c : Caller) (w : World) → HasCaller g c → HasNext (arguments_turn g t f c w)
unfolding arguments_turn with_arguments
arguments_next g t f Nobody w h = absurd h
arguments_next g t f (Host call values) w h = tt
arguments_next g t f (Guest subtask) w h = given_next (canon_at g subtask.canon) _ h (λ c e. came_next t (arguments_passed t f subtask c w) (λ v later. with_arguments g t f v later) (λ v later. tt))

pub entered_next : (g : Graph) (t : ℕ) (task : Task) (f : Lifted) (w : World) → HasCaller g task.caller → HasNext (entered g t task f w)
unfolding entered
entered_next g t task f w h = behind_next (line.Enter t ∷ []) (arguments_turn g t f task.caller (in_state t Acting w)) (arguments_next g t f task.caller (in_state t Acting w) h)

-- what an acting task of a state that runs a function is
runs_by : (state : TaskState) (o : Outline) → o.state ≡ state → StandsBy o.state o → StandsBy state o
runs_by state o e h = subst (λ (s : TaskState). StandsBy s o) e h

-- the outline of a task that is there stands by its state
pub stands_by : (w : World) (t : ℕ) (task : Task) → HaveStacks (outlines_of w.tasks) → slice_get w.tasks t ≡ Some task → StandsBy task.state (outline_of task)
stands_by w t task stacked there = stacked t (outline_of task) (outline_there w.tasks t task there)

pub arriving_next : (g : Graph) (w : World) → HaveStacks (outlines_of w.tasks) → OneActs IsNewOne (outlines_of w.tasks) w.chain
    → ((t : ℕ) (task : Task) → slice_get w.tasks t ≡ Some task → IsSome (func_of task.callee) → HasCaller g task.caller) → HasNext (arriving_turn g w)
unfolding arriving_turn
arriving_next g w stacked acts called =
    func_next IsNewOne w _ acts (λ t task there new. (runs_by IsNew (outline_of task) new (stands_by w t task stacked there)).0)
    (λ t task f first there new runs.
    either_next (may_arrive w f.instance task) (entered g t task f w) (blocked t WaitsToEnter reason.Entry w)
    (λ e. entered_next g t task f w (called t task there (subst (λ (o : Option Lifted). IsSome o) (sym runs) refl))) (λ e. tt))

-- Calls, and control that is back.

pub call_next : (t number : ℕ) (words : List ℕ) (callee : Callee) (f : Lifted) (passed : List ℕ) (w : World) → HasNext (call_begun t number words callee f passed w)
unfolding call_begun
call_next t number words callee f passed w = unless_next t (is_reentrant w f.instance t) _ w _ (λ e. tt)

open_next : (t i callee : ℕ) (task : Task) (is_async : Bool) (number : ℕ) (words : List ℕ) (w : World) → HasNext (call_open t i callee task is_async number words w)
unfolding call_open
open_next t i callee task true number words w =
    entry_next t i (OfSubtask callee) w (λ index v. replied t (call_state task index ∷ []) (told callee (subtask_state task) v)) tt
open_next t i callee task false number words w = tt

cancel_open_next : (g : Graph) (t number : ℕ) (words : List ℕ) (w : World) → HasNext (cancel_open g t number words w)
unfolding cancel_open
cancel_open_next g t number words w = either_next (flag_at g number) _ _ (λ e. tt) (λ e. tt)

called_guest : (tasks : List Task) (t number callee : ℕ) → Called tasks t number callee → IsGuest tasks callee
called_guest tasks t number callee h = (h.0, h.1, subst (λ (o : Option Subtask). IsSome o) (sym h.2.1) refl)

back_to_next : (g : Graph) (t i : ℕ) (callee : Callee) (state : TaskState) (w : World) → IsWaitingFor state → HasCalled w.tasks t state → WaitsAs w.tasks callee state → HasNext (back_to g t i state w)
unfolding back_to back_from_call back_from_cancel call_resolved told_payload
back_to_next g t i of_task (AfterCall callee number words) w waits called guest =
    subtask_next w callee _ (called_guest w.tasks t number callee called)
    (λ task subtask there guest. either_next (has_resolved task) _ _ (λ e. tt) (λ e. open_next t i callee task (options_at g number).is_async number words (in_state t Acting w)))
back_to_next g t i of_task (AfterCancel callee number words) w waits called guest =
    subtask_next (in_state t Acting w) callee _ (guest_changed w.tasks t callee (λ x. record x { state = Acting }) (λ x h. h) guest)
    (λ task subtask there guest. either_next (has_resolved task) _ _ (λ e. tt) (λ e. cancel_open_next g t number words (in_state t Acting w)))
back_to_next g t i of_task IsNew w waits called guest = absurd waits
back_to_next g t i of_task Acting w waits called guest = absurd waits
back_to_next g t i of_task (Begins n) w waits called guest = absurd waits
back_to_next g t i of_task WaitsToEnter w waits called guest = absurd waits
back_to_next g t i of_task (InLoop word) w waits called guest = absurd waits
back_to_next g t i of_task (InBuiltin number words wait) w waits called guest = absurd waits
back_to_next g t i of_task Exited w waits called guest = absurd waits

waiting_runs : (state : TaskState) (o : Outline) → IsWaitingFor state → StandsBy state o → IsSome (func_of o.callee)
waiting_runs (AfterCall callee number words) o waits h = h.0
waiting_runs (AfterCancel callee number words) o waits h = h.0
waiting_runs IsNew o waits h = absurd waits
waiting_runs Acting o waits h = absurd waits
waiting_runs (Begins n) o waits h = absurd waits
waiting_runs WaitsToEnter o waits h = absurd waits
waiting_runs (InLoop word) o waits h = absurd waits
waiting_runs (InBuiltin number words wait) o waits h = absurd waits
waiting_runs Exited o waits h = absurd waits

pub back_next : (g : Graph) (w : World) → HaveStacks (outlines_of w.tasks) → OneActs IsCalling (outlines_of w.tasks) w.chain → HaveCalled w.tasks
    → WaitAs w.tasks → HasNext (back_turn g w)
unfolding back_turn
back_next g w stacked acts called guests =
    func_next IsCalling w _ acts (λ t task there waits. waiting_runs task.state (outline_of task) waits (stands_by w t task stacked there))
    (λ t task f first there waits runs. back_to_next g t f.instance task.callee task.state w waits (called t task there) (guests t task there))

-- Events.

callback_next : (t : ℕ) (f : Lifted) (code : EventCode) (index payload : ℕ) (w : World) → IsSome f.options.callback → IfSome f.options.callback (IsFuncThere w.store) → HasNext (callback_started t f code index payload w)
unfolding callback_started
callback_next t f code index payload w some there =
    given_next f.options.callback _ some
    (λ ref e. given_next (found_at w.store.funcs (func_address w.store ref)) _ (if_there (IsFuncThere w.store) f.options.callback ref e there) (λ function k. tt))

-- a callback that is there, where one gets the event
abbrev pub Receives : Receiver → Lifted → Store → Type 0
Receives (InWait number words) f s = Unit {0}
Receives InCallback f s = IsSome f.options.callback × IfSome f.options.callback (IsFuncThere s)

pub received_next : (g : Graph) (t : ℕ) (f : Lifted) (receiver : Receiver) (code : EventCode) (index : ℕ) (s : Told) → Receives receiver f s.world.store → HasNext (received g t f receiver code index s)
unfolding received
received_next g t f (InWait number words) code index s h = tt
received_next g t f InCallback code index s h =
    behind_next (event_line t code index s.payload ∷ s.lines) (callback_started t f code index s.payload s.world) (callback_next t f code index s.payload s.world h.0 h.1)

pub none_next : (g : Graph) (t : ℕ) (f : Lifted) (receiver : Receiver) (w : World) → Receives receiver f w.store → HasNext (received_none g t f receiver w)
unfolding received_none
none_next g t f receiver w h = received_next g t f receiver _ 0 (nothing_told w) h

pub cancel_next : (g : Graph) (t : ℕ) (f : Lifted) (receiver : Receiver) (w : World) → Receives receiver f w.store → HasNext (received_cancel g t f receiver w)
unfolding received_cancel
cancel_next g t f receiver w h = received_next g t f receiver _ 0 (cancel_told t w) h

-- The member that is ready.
end_receives : (receiver : Receiver) (f : Lifted) (e : EndRef) (w : World) → Receives receiver f w.store → Receives receiver f (end_told e w).world.store
end_receives receiver f e w h = channel_kept (λ v. Receives receiver f v.store) (λ v x k. k) (λ v x k. k) e.kind e.number _ w h

delivered_next : (g : Graph) (t : ℕ) (f : Lifted) (receiver : Receiver) (index : ℕ) (o : Option Entry) (w : World) → entry_has_event w o ≡ true
    → ((callee : ℕ) → o ≡ Some (OfSubtask callee) → IsGuest w.tasks callee) → Receives receiver f w.store → HasNext (entry_delivered g t f receiver index o w)
unfolding entry_delivered
delivered_next g t f receiver index (Some (OfSubtask callee)) w event guest h =
    subtask_next w callee _ (guest callee refl) (λ task subtask there of_guest. received_next g t f receiver SubtaskEvent index (subtask_told f.instance callee task subtask w) h)
delivered_next g t f receiver index (Some (OfEnd e)) w event guest h = received_next g t f receiver (event_of_end e) index (end_told e w) (end_receives receiver f e w h)
delivered_next g t f receiver index (Some (OwnHandle resource rep)) w event guest h = cc
delivered_next g t f receiver index (Some (BorrowHandle resource rep task)) w event guest h = cc
delivered_next g t f receiver index (Some (OfSet set)) w event guest h = cc
delivered_next g t f receiver index None w event guest h = cc

-- The subtask of a table was called by a task.
pub named_guest : (w : World) (i index callee : ℕ) → AllByRecursion (NamesWhatIsThere w.tasks) w.insts → entry_at w i index ≡ Some (OfSubtask callee) → IsGuest w.tasks callee
named_guest w i index callee named e = by (slice_get w.insts i) refl e
  where
    by : (o : Option Inst) → slice_get w.insts i ≡ o → live (table_in o) index ≡ Some (OfSubtask callee) → IsGuest w.tasks callee
    by None there k = cc
    by (Some inst) there k = all_at (NamesWhatIsThere w.tasks) w.insts i inst named there index (OfSubtask callee) k

member_next : (g : Graph) (t : ℕ) (f : Lifted) (receiver : Receiver) (w : World) (set place : ℕ) → IsSome (slice_get (ready w f.instance set) place) → AllByRecursion (NamesWhatIsThere w.tasks) w.insts
    → Receives receiver f w.store → HasNext (member_delivered g t f receiver (slice_get (ready w f.instance set) place) w)
unfolding member_delivered
member_next g t f receiver w set place some named h =
    given_next (slice_get (ready w f.instance set) place) _ some
    (λ index e. delivered_next g t f receiver index (entry_at w f.instance index) w (ready_has_event w f.instance set place index e) (λ callee k. named_guest w f.instance index callee named k) h)

members_next : (g : Graph) (s : Script) (t : ℕ) (f : Lifted) (set : ℕ) (receiver : Receiver) (pick : Option ℕ) (members : List ℕ) (w : World)
    → HasNext (member_delivered g t f receiver (slice_get members (unwrap_or pick 0)) w) → HasNext (members_turn g s t f set receiver pick members w)
unfolding members_turn
members_next g s t f set receiver (Some k) members w h = h
members_next g s t f set receiver None [] w h = h
members_next g s t f set receiver None (index ∷ []) w h = h
members_next g s t f set receiver None (index ∷ other ∷ members) w h = chosen_next s (length (index ∷ other ∷ members)) (λ k. Delivers set receiver (Some k)) w

pub receives : (receiver : Receiver) (f : Lifted) (s : Store) → HasReceiver receiver f → AreFuncsThere s f → Receives receiver f s
receives (InWait number words) f s h there = tt
receives InCallback f s h there = (h, there.callback)

pub delivering_next : (g : Graph) (s : Script) (set : ℕ) (receiver : Receiver) (pick : Option ℕ) (P : Outline → Type 0) (w : World) → OneActs P (outlines_of w.tasks) w.chain
    → ((o : Outline) → P o → IsSome (func_of o.callee)) → AllByRecursion (NamesWhatIsThere w.tasks) w.insts → EventComes g (Delivers set receiver pick) w → HaveFuncs w.store w.tasks
    → HasNext (delivering_turn g s set receiver pick w)
unfolding delivering_turn
delivering_next g s set receiver pick P w acts runs named there funcs =
    func_next P w _ acts (λ t task at p. runs (outline_of task) p)
    (λ t task f first at p e.
    let h = there t task f first at e in
    members_next g s t f set receiver pick (ready w f.instance set) w
    (member_next g t f receiver w set (unwrap_or pick 0) h.0 named (receives receiver f w.store h.1 (funcs t task f at e))))

-- Blocked tasks go on.

pub set_found : (w : World) (i index : ℕ) → HasSetAt (table_in (slice_get w.insts i)) index → IsSome (set_number w i index)
set_found w i index h = subst (λ (o : Option Entry). IsSome (accepted (set_in o))) (sym h.1) refl

polled_next : (g : Graph) (t : ℕ) (f : Lifted) (set : ℕ) (members : List ℕ) (w : World) → Receives InCallback f w.store → HasNext (set_polled g t f set members w)
unfolding set_polled
polled_next g t f set [] w h = none_next g t f InCallback w h
polled_next g t f set (index ∷ members) w h = tt

word_next : (g : Graph) (t : ℕ) (f : Lifted) (r : Result Next BadCode) (w : World) → GoesOnBy (table_in (slice_get w.insts f.instance)) r → Receives InCallback f w.store → HasNext (next_resumed g t f r w)
unfolding next_resumed
word_next g t f (Ok next.Exit) w goes h = absurd goes
word_next g t f (Ok next.Yield) w goes h = none_next g t f InCallback w h
word_next g t f (Ok (next.Wait index)) w goes h = given_next (set_number w f.instance index) _ (set_found w f.instance index goes) (λ set e. tt)
word_next g t f (Ok (next.Poll index)) w goes h =
    given_next (set_number w f.instance index) _ (set_found w f.instance index goes) (λ set e. polled_next g t f set (ready w f.instance set) w h)
word_next g t f (Err why) w goes h = absurd goes

loop_next : (g : Graph) (t : ℕ) (f : Lifted) (is_cancelled : Bool) (word : ℕ) (w : World) → GoesOnBy (table_in (slice_get w.insts f.instance)) (callback_of word) → Receives InCallback f w.store
    → HasNext (loop_resumed g t f is_cancelled word w)
unfolding loop_resumed
loop_next g t f is_cancelled word w goes h =
    either_next is_cancelled (received_cancel g t f InCallback w) (next_resumed g t f (callback_of word) w) (λ e. cancel_next g t f InCallback w h) (λ e. word_next g t f (callback_of word) w goes h)

-- what is asked of a wait in a canonical function, by what it waits for
abbrev pub IsAwaited : World → ℕ → Wait → Type 0
IsAwaited w i ForYield = Unit {0}
IsAwaited w i (ForSet index) = HasSetAt (table_in (slice_get w.insts i)) index
IsAwaited w i (ForCall callee) = IsGuest w.tasks callee
IsAwaited w i (ForCopy index) = IsSome (found_end w i index)
IsAwaited w i (ForCancel index) = IsSome (found_subtask w i index)

wait_next : (g : Graph) (t : ℕ) (f : Lifted) (is_cancelled : Bool) (number : ℕ) (words : List ℕ) (wait : Wait) (w : World) → IsAwaited w f.instance wait
    → AllByRecursion (NamesWhatIsThere w.tasks) w.insts → HasNext (wait_resumed g t f is_cancelled number words wait w)
unfolding wait_resumed yield_cancelled told_payload told_result
wait_next g t f is_cancelled number words ForYield w h named = either_next is_cancelled _ _ (λ e. tt) (λ e. tt)
wait_next g t f is_cancelled number words (ForSet index) w h named =
    either_next is_cancelled _ _ (λ e. cancel_next g t f (InWait number words) w tt) (λ e. given_next (set_number w f.instance index) _ (set_found w f.instance index h) (λ set k. tt))
wait_next g t f is_cancelled number words (ForCall callee) w h named = subtask_next w callee _ h (λ task subtask there guest. tt)
wait_next g t f is_cancelled number words (ForCancel index) w h named =
    given_next (found_subtask w f.instance index) _ h (λ callee e. subtask_next w callee _ (named_guest w f.instance index callee named (found_subtask_there w f.instance index callee e)) (λ task subtask there guest. tt))
wait_next g t f is_cancelled number words (ForCopy index) w h named = given_next (found_end w f.instance index) _ h (λ e k. tt)

-- by the state of the task, where what it waits for is there
abbrev pub IsResumable : World → Lifted → TaskState → Type 0
IsResumable w f (InLoop word) = GoesOnBy (table_in (slice_get w.insts f.instance)) (callback_of word) × Receives InCallback f w.store
IsResumable w f (InBuiltin number words wait) = IsAwaited w f.instance wait
IsResumable w f state = Unit {0}

-- so it is when the task acts
acts_awaited : (t : ℕ) (w : World) (i : ℕ) (wait : Wait) → IsAwaited w i wait → IsAwaited (in_state t Acting w) i wait
acts_awaited t w i ForYield h = h
acts_awaited t w i (ForSet index) h = h
acts_awaited t w i (ForCall callee) h = guest_changed w.tasks t callee (λ x. record x { state = Acting }) (λ x k. k) h
acts_awaited t w i (ForCopy index) h = h
acts_awaited t w i (ForCancel index) h = h

names_changed : (tasks : List Task) (t : ℕ) (insts : List Inst) → AllByRecursion (NamesWhatIsThere tasks) insts → AllByRecursion (NamesWhatIsThere (changed_at t (λ task. record task { state = Acting }) tasks)) insts
names_changed tasks t insts h = all_as (NamesWhatIsThere tasks) (NamesWhatIsThere (changed_at t (λ task. record task { state = Acting }) tasks)) (λ inst named index entry e. by inst entry (named index entry e)) insts h
  where
    by : (inst : Inst) (entry : Entry) → IsNamed tasks (length inst.sets) entry → IsNamed (changed_at t (λ task. record task { state = Acting }) tasks) (length inst.sets) entry
    by inst (OwnHandle resource rep) k = k
    by inst (BorrowHandle resource rep task) k = k
    by inst (OfSubtask callee) k = guest_changed tasks t callee (λ x. record x { state = Acting }) (λ x j. j) k
    by inst (OfSet set) k = k
    by inst (OfEnd e) k = k

resumed_next : (g : Graph) (t : ℕ) (task : Task) (f : Lifted) (state : TaskState) (w : World) → IsBlocked state → IsResumable w f state → HasCaller g task.caller
    → AllByRecursion (NamesWhatIsThere w.tasks) w.insts → HasNext (resumed g t task f state w)
unfolding resumed
resumed_next g t task f WaitsToEnter w blocked h called named = entered_next g t task f w called
resumed_next g t task f (InLoop word) w blocked h called named = loop_next g t f (is_asked task.cancellation) word (in_state t Acting w) h.0 h.1
resumed_next g t task f (InBuiltin number words wait) w blocked h called named =
    wait_next g t f (is_to_be_told g number wait task w f.instance) number words wait (in_state t Acting w) (acts_awaited t w f.instance wait h) (names_changed w.tasks t w.insts named)
resumed_next g t task f IsNew w blocked h called named = absurd blocked
resumed_next g t task f Acting w blocked h called named = absurd blocked
resumed_next g t task f (AfterCall callee number words) w blocked h called named = absurd blocked
resumed_next g t task f (AfterCancel callee number words) w blocked h called named = absurd blocked
resumed_next g t task f (Begins n) w blocked h called named = absurd blocked
resumed_next g t task f Exited w blocked h called named = absurd blocked

blocked_runs : (state : TaskState) (o : Outline) → IsBlocked state → StandsBy state o → IsSome (func_of o.callee)
blocked_runs WaitsToEnter o blocked h = h.0
blocked_runs (InLoop word) o blocked h = h.0
blocked_runs (InBuiltin number words wait) o blocked h = h.0
blocked_runs IsNew o blocked h = absurd blocked
blocked_runs Acting o blocked h = absurd blocked
blocked_runs (AfterCall callee number words) o blocked h = absurd blocked
blocked_runs (AfterCancel callee number words) o blocked h = absurd blocked
blocked_runs (Begins n) o blocked h = absurd blocked
blocked_runs Exited o blocked h = absurd blocked

-- what a blocked task waits for is there, by what is kept and what else is asked
pub resumable : (g : Graph) (w : World) (t : ℕ) (task : Task) (f : Lifted) → slice_get w.tasks t ≡ Some task → func_of task.callee ≡ Some f → HasCalled w.tasks t task.state → WaitsAs w.tasks task.callee task.state → LoopsSo w.insts task.callee task.state
    → ((index : ℕ) → WaitsOnSet task index → HasSetAt (table_in (slice_get w.insts f.instance)) index) → CancelStands w.tasks w.insts (func_of task.callee) task.state → AreFuncsThere w.store f → HasCause g w f task task.state → IsResumable w f task.state
resumable g w t task f there runs called waits loops sets cancels funcs at = by task.state refl called waits loops (subst (λ (o : Option Lifted). CancelStands w.tasks w.insts o task.state) runs cancels) at
  where
    waits_by : (number : ℕ) (words : List ℕ) (wait : Wait) → task.state ≡ InBuiltin number words wait → HasCalled w.tasks t (InBuiltin number words wait) → CancelStands w.tasks w.insts (Some f) (InBuiltin number words wait)
        → EndsWait g w f task number wait → IsAwaited w f.instance wait
    waits_by number words ForYield e called stands at = tt
    waits_by number words (ForSet index) e called stands at = sets index (number, words, e)
    waits_by number words (ForCall callee) e called stands at = called_guest w.tasks t number callee called
    waits_by number words (ForCopy index) e called stands at = at
    waits_by number words (ForCancel index) e called stands at = subst (λ (o : Option Entry). IsSome (accepted (subtask_in o))) (sym stands.1) refl

    by : (state : TaskState) → task.state ≡ state → HasCalled w.tasks t state → WaitsAs w.tasks task.callee state → LoopsSo w.insts task.callee state → CancelStands w.tasks w.insts (Some f) state → HasCause g w f task state → IsResumable w f state
    by (InLoop word) e called waits loops stands at =
        (subst (λ (o : Option Lifted). LoopsIn w.insts o word) runs loops, (has_callback f.options (subst (λ (o : Option Lifted). kind_of_func o ≡ Callback) runs waits), funcs.callback))
    by (InBuiltin number words wait) e called waits loops stands at = waits_by number words wait e called stands at
    by WaitsToEnter e called waits loops stands at = tt
    by IsNew e called waits loops stands at = tt
    by Acting e called waits loops stands at = tt
    by (AfterCall callee number words) e called waits loops stands at = tt
    by (AfterCancel callee number words) e called waits loops stands at = tt
    by (Begins n) e called waits loops stands at = tt
    by Exited e called waits loops stands at = tt

pub resuming_next : (g : Graph) (w : World) → HaveStacks (outlines_of w.tasks) → OneActs WasBlocked (outlines_of w.tasks) w.chain
    → ((t : ℕ) (task : Task) → slice_get w.tasks t ≡ Some task → IsSome (func_of task.callee) → HasCaller g task.caller) → AllByRecursion (NamesWhatIsThere w.tasks) w.insts
    → ((t : ℕ) (task : Task) (f : Lifted) → IsFirst t w.chain → slice_get w.tasks t ≡ Some task → func_of task.callee ≡ Some f → IsResumable w f task.state) → HasNext (resuming_turn g w)
unfolding resuming_turn
resuming_next g w stacked acts called named there =
    func_next WasBlocked w _ acts (λ t task at blocked. blocked_runs task.state (outline_of task) blocked (stands_by w t task stacked at))
    (λ t task f first at blocked runs.
    resumed_next g t task f task.state w blocked (there t task f first at runs) (called t task at (subst (λ (o : Option Lifted). IsSome o) (sym runs) refl)) named)
