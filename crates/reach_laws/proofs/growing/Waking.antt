-- Tasks that call, cancel, are told events and go on leave stores that extend the one before.
use Rattle.std.proofs.Common.{◌≡◌, ◌<◌, ℕ, Bool, true, false, List, [], ◌∷◌, drop, Option, Some, None, Result, Ok, Err}
use Rattle.std.specs.Int.{w32, to_le_bytes}
use Rattle.std.specs.List.{slice_get}
use Rattle.wasm_store.specs.Store.{Store, found_at}
use Rattle.wasm_store.proofs.Lists.{all_append}
use Rattle.entry_gate.specs.Callbacks.{callback_of}
use Rattle.entry_gate.specs.declared.callback.BadCode.{BadCode}
use Rattle.entry_gate.specs.declared.callback.Next.{Next}
use Rattle.entry_gate.specs.declared.callback.Next.TheVariants as word
use Rattle.builtin_kinds.specs.declared.EndKind.{EndKind}
use Rattle.builtin_kinds.specs.declared.EndKind.TheVariants.{Stream, Future}
use Rattle.tasks.specs.Tasks.{is_asked, cancel_case}
use Rattle.tasks.specs.declared.event.Asked.{Asked}
use Rattle.tasks.specs.declared.event.Asked.TheVariants.{Removed, ResumeNow, Pending}
use Rattle.comp_graph.specs.Graph.{Graph, Lifted}
use Rattle.script_reader.specs.Script.{Script}
use Rattle.trace_labels.specs.declared.label.BlockReason.{BlockReason}
use Rattle.trace_labels.specs.declared.label.BlockReason.TheVariants as reason
use Rattle.trace_labels.specs.declared.trap.TrapName.TheVariants as trap
use Rattle.lowering_laws.specs.Values.{AreBytes}
use Rattle.lowering_laws.proofs.Bytes.{le_bytes}
use Rattle.abi_machine.specs.Control.{EndRef, EventCode, NoEvent, SubtaskEvent, TaskCancelled, Receiver, InWait, InCallback, Control}
use Rattle.abi_machine.specs.World.{Entry, OwnHandle, BorrowHandle, OfSubtask, OfSet, OfEnd, Callee, Wait, ForYield, ForSet, ForCall, ForCopy, ForCancel, TaskState, New, Acting, AfterCall, AfterCancel, Begins, WaitsToEnter, InLoop, InBuiltin, Exited, Channel, Task, World}
use Rattle.abi_machine.specs.Edits.{in_state, told, with_channel}
use Rattle.abi_machine.specs.Canons.{func_address, options_at, flag_at}
use Rattle.abi_machine.specs.Reading.{entry_at, acting, func_of, is_reentrant}
use Rattle.abi_machine.specs.Counting.{subtask_state, task_view, has_resolved, ready}
use Rattle.abi_machine.specs.Gate.{is_entry_free, may_arrive}
use Rattle.abi_machine.specs.Finding.{found_subtask, set_number, found_end}
use Rattle.abi_machine.specs.Turn.{replied, blocked}
use Rattle.abi_machine.specs.Choosing.{chosen}
use Rattle.abi_machine.specs.Calling.{Told, call_state, call_begun, call_resolved, call_open, subtask_told, back_from_call}
use Rattle.abi_machine.specs.Cancelling.{asked_turn, cancelled_turn, first_of, cancel_open, back_from_cancel, back_to, back_turn}
use Rattle.abi_machine.specs.Entering.{arriving_turn}
use Rattle.abi_machine.specs.Delivering.{event_bytes, event_line, nothing_told, cancel_told, end_told, event_of_end, is_to_be_told, callback_started, received, received_none, received_cancel, entry_delivered, member_delivered, members_turn, delivering_turn, yield_cancelled, told_payload, told_result, wait_resumed, set_polled, next_resumed, loop_resumed, resumed, resuming_turn}
use Rattle.abi_machine.specs.sound.TypedWorlds.{HasEventRoom, ElementsInside}
use Rattle.reach_laws.proofs.Leaving.{Leaves, behind_leaves, given_leaves, either_leaves, unless_leaves, func_leaves, subtask_leaves, entry_leaves}
use Rattle.reach_laws.proofs.growing.Stores.{IsOn, Grown, behind_inside, HasRoomFor, event_on}
use Rattle.reach_laws.proofs.growing.Passing.{entered_grows}

event_are : (index payload : ℕ) → AreBytes (event_bytes index payload)
event_are index payload = all_append (λ byte. byte < 256) (to_le_bytes w32 index) (to_le_bytes w32 payload) (le_bytes w32 index) (le_bytes w32 payload)

-- A stream or a future that is changed leaves the store.
pub on_channel : (s : Store) (kind : EndKind) (number : ℕ) (f : Channel → Channel) (w : World) → IsOn s w.store → IsOn s (with_channel kind number f w).store
on_channel s Stream number f w h = h
on_channel s Future number f w h = h

room_channel : (g : Graph) (receiver : Receiver) (kind : EndKind) (number : ℕ) (f : Channel → Channel) (w : World) → HasRoomFor g receiver w.store → HasRoomFor g receiver (with_channel kind number f w).store
room_channel g receiver Stream number f w h = h
room_channel g receiver Future number f w h = h

-- where a blocked task goes on in a wait there is room for an event
abbrev pub WaitRoom : Graph → Store → ℕ → List ℕ → Wait → Type 0
WaitRoom g t number words (ForSet index) = HasEventRoom g t number words
WaitRoom g t number words wait = Unit {0}

abbrev pub StateRoom : Graph → Store → TaskState → Type 0
StateRoom g t (InBuiltin number words wait) = WaitRoom g t number words wait
StateRoom g t state = Unit {0}

module _ (g : Graph) (s : Store) where
  abbrev Fine : World → Type 0
  Fine v = Grown s v

  abbrev On : World → Type 0
  On w = IsOn s w.store

  pub blocked_grows : (t : ℕ) (state : TaskState) (why : BlockReason) (w : World) → On w → Leaves Fine (blocked t state why w)
  blocked_grows t state why w h = (h, behind_inside (drop 1 w.chain) w.store)

  -- Calls.
  pub begun_grows : (t number : ℕ) (words : List ℕ) (callee : Callee) (f : Lifted) (passed : List ℕ) (w : World) → On w → Leaves Fine (call_begun t number words callee f passed w)
  unfolding call_begun
  begun_grows t number words callee f passed w h = unless_leaves Fine t (is_reentrant w f.instance t) trap.Reentrant w _ (h, tt) (λ e. (h, tt))

  open_grows : (t i callee : ℕ) (task : Task) (is_async : Bool) (number : ℕ) (words : List ℕ) (w : World) → On w → Leaves Fine (call_open t i callee task is_async number words w)
  unfolding call_open
  open_grows t i callee task true number words w h = entry_leaves Fine t i (OfSubtask callee) w (λ index v. replied t (call_state task index ∷ []) (told callee (subtask_state task) v)) (h, tt) (h, tt)
  open_grows t i callee task false number words w h = blocked_grows t (InBuiltin number words (ForCall callee)) (reason.Call callee) w h

  back_called_grows : (t i callee number : ℕ) (words : List ℕ) (w : World) → On w → Leaves Fine (back_from_call g t i callee number words w)
  unfolding back_from_call call_resolved
  back_called_grows t i callee number words w h =
      subtask_leaves Fine w callee _ (λ task subtask.
      either_leaves Fine (has_resolved task) _ _ (λ e. (h, tt)) (λ e. open_grows t i callee task (options_at g number).is_async number words (in_state t Acting w) h))

  -- Cancellations.
  asked_grows : (t : ℕ) (asked : Asked) (control : Control) (w : World) → ((x : Store) → ElementsInside control x) → On w → Leaves Fine (asked_turn t asked control w)
  unfolding asked_turn
  asked_grows t Removed control w inside h = (h, inside w.store)
  asked_grows t ResumeNow control w inside h = (h, tt)
  asked_grows t Pending control w inside h = (h, inside w.store)

  pub cancelled_grows : (t : ℕ) (task : Task) (control : Control) (w : World) → ((x : Store) → ElementsInside control x) → On w → Leaves Fine (cancelled_turn g t task control w)
  unfolding cancelled_turn
  cancelled_grows t task control w inside h = given_leaves Fine (func_of task.callee) _ (λ f e. asked_grows t (cancel_case (is_entry_free w f.instance) (task_view g w t task)) control w inside h)

  back_cancelled_grows : (t i callee number : ℕ) (words : List ℕ) (w : World) → On w → Leaves Fine (back_from_cancel g t i callee number words w)
  unfolding back_from_cancel cancel_open told_payload
  back_cancelled_grows t i callee number words w h =
      subtask_leaves Fine w callee _ (λ task subtask.
      either_leaves Fine (has_resolved task) _ _ (λ e. (h, tt))
      (λ e. either_leaves Fine (flag_at g number) _ _ (λ k. (h, tt)) (λ k. blocked_grows t (InBuiltin number words (ForCancel (first_of words))) (reason.Cancel (first_of words)) w h)))

  back_to_grows : (t i : ℕ) (state : TaskState) (w : World) → On w → Leaves Fine (back_to g t i state w)
  unfolding back_to
  back_to_grows t i (AfterCall callee number words) w h = back_called_grows t i callee number words w h
  back_to_grows t i (AfterCancel callee number words) w h = back_cancelled_grows t i callee number words (in_state t Acting w) h
  back_to_grows t i New w h = tt
  back_to_grows t i Acting w h = tt
  back_to_grows t i (Begins n) w h = tt
  back_to_grows t i WaitsToEnter w h = tt
  back_to_grows t i (InLoop said) w h = tt
  back_to_grows t i (InBuiltin number words wait) w h = tt
  back_to_grows t i Exited w h = tt

  pub back_grows : (w : World) → On w → Leaves Fine (back_turn g w)
  unfolding back_turn
  back_grows w h = func_leaves Fine w _ (λ a f e k. back_to_grows a.0 f.instance a.1.state w h)

  -- Entry.
  pub arriving_grows : (w : World) → On w → Leaves Fine (arriving_turn g w)
  unfolding arriving_turn
  arriving_grows w h =
      func_leaves Fine w _ (λ a f e k.
      either_leaves Fine (may_arrive w f.instance a.1) _ _ (λ i. entered_grows g s a.0 a.1 f w h) (λ i. blocked_grows a.0 WaitsToEnter reason.Entry w h))

  -- Events.
  callback_grows : (t : ℕ) (f : Lifted) (code : EventCode) (index payload : ℕ) (w : World) → On w → Leaves Fine (callback_started t f code index payload w)
  unfolding callback_started
  callback_grows t f code index payload w h =
      given_leaves Fine f.options.callback _ (λ ref e. given_leaves Fine (found_at w.store.funcs (func_address w.store ref)) _ (λ function i. (h, tt)))

  received_grows : (t : ℕ) (f : Lifted) (receiver : Receiver) (code : EventCode) (index : ℕ) (told : Told) → HasRoomFor g receiver told.world.store → On told.world → Leaves Fine (received g t f receiver code index told)
  unfolding received
  received_grows t f (InWait number words) code index told room h = (event_on g s number index told.payload words told.world h room (event_are index told.payload), tt)
  received_grows t f InCallback code index told room h =
      behind_leaves Fine (event_line t code index told.payload ∷ told.lines) (callback_started t f code index told.payload told.world) (callback_grows t f code index told.payload told.world h)

  pub none_received_grows : (t : ℕ) (f : Lifted) (receiver : Receiver) (w : World) → HasRoomFor g receiver w.store → On w → Leaves Fine (received_none g t f receiver w)
  unfolding received_none
  none_received_grows t f receiver w room h = received_grows t f receiver NoEvent 0 (nothing_told w) room h

  pub cancel_received_grows : (t : ℕ) (f : Lifted) (receiver : Receiver) (w : World) → HasRoomFor g receiver w.store → On w → Leaves Fine (received_cancel g t f receiver w)
  unfolding received_cancel
  cancel_received_grows t f receiver w room h = received_grows t f receiver TaskCancelled 0 (cancel_told t w) room h

  entry_delivered_grows : (t : ℕ) (f : Lifted) (receiver : Receiver) (index : ℕ) (entry : Option Entry) (w : World) → HasRoomFor g receiver w.store → On w → Leaves Fine (entry_delivered g t f receiver index entry w)
  unfolding entry_delivered
  entry_delivered_grows t f receiver index None w room h = tt
  entry_delivered_grows t f receiver index (Some (OwnHandle resource rep)) w room h = tt
  entry_delivered_grows t f receiver index (Some (BorrowHandle resource rep task)) w room h = tt
  entry_delivered_grows t f receiver index (Some (OfSubtask callee)) w room h =
      subtask_leaves Fine w callee _ (λ task subtask. received_grows t f receiver SubtaskEvent index (subtask_told f.instance callee task subtask w) room h)
  entry_delivered_grows t f receiver index (Some (OfSet set)) w room h = tt
  entry_delivered_grows t f receiver index (Some (OfEnd e)) w room h =
      received_grows t f receiver (event_of_end e) index (end_told e w) (room_channel g receiver e.kind e.number _ w room) (on_channel s e.kind e.number _ w h)

  member_grows : (t : ℕ) (f : Lifted) (receiver : Receiver) (member : Option ℕ) (w : World) → HasRoomFor g receiver w.store → On w → Leaves Fine (member_delivered g t f receiver member w)
  unfolding member_delivered
  member_grows t f receiver member w room h = given_leaves Fine member _ (λ index e. entry_delivered_grows t f receiver index (entry_at w f.instance index) w room h)

  members_grow : (script : Script) (t : ℕ) (f : Lifted) (set : ℕ) (receiver : Receiver) (pick : Option ℕ) (members : List ℕ) (w : World) → HasRoomFor g receiver w.store → On w
      → Leaves Fine (members_turn g script t f set receiver pick members w)
  unfolding members_turn chosen
  members_grow script t f set receiver None [] w room h = member_grows t f receiver None w room h
  members_grow script t f set receiver None (index ∷ []) w room h = member_grows t f receiver (Some index) w room h
  members_grow script t f set receiver None (index ∷ other ∷ members) w room h = (h, tt)
  members_grow script t f set receiver (Some k) members w room h = member_grows t f receiver (slice_get members k) w room h

  pub delivering_grows : (script : Script) (set : ℕ) (receiver : Receiver) (pick : Option ℕ) (w : World) → HasRoomFor g receiver w.store → On w → Leaves Fine (delivering_turn g script set receiver pick w)
  unfolding delivering_turn
  delivering_grows script set receiver pick w room h = func_leaves Fine w _ (λ a f e k. members_grow script a.0 f set receiver pick (ready w f.instance set) w room h)

  -- Blocked tasks go on.
  pub yielded_grows : (t : ℕ) (w : World) → On w → Leaves Fine (yield_cancelled t w)
  unfolding yield_cancelled
  yielded_grows t w h = (h, tt)

  wait_resumed_grows : (t : ℕ) (f : Lifted) (is_cancelled : Bool) (number : ℕ) (words : List ℕ) (wait : Wait) (w : World) → WaitRoom g w.store number words wait → On w
      → Leaves Fine (wait_resumed g t f is_cancelled number words wait w)
  unfolding wait_resumed told_result told_payload
  wait_resumed_grows t f is_cancelled number words ForYield w room h = either_leaves Fine is_cancelled _ _ (λ e. yielded_grows t w h) (λ e. (h, tt))
  wait_resumed_grows t f is_cancelled number words (ForSet index) w room h =
      either_leaves Fine is_cancelled _ _ (λ e. cancel_received_grows t f (InWait number words) w room h) (λ e. given_leaves Fine (set_number w f.instance index) _ (λ set k. (h, tt)))
  wait_resumed_grows t f is_cancelled number words (ForCall callee) w room h = subtask_leaves Fine w callee _ (λ task subtask. (h, tt))
  wait_resumed_grows t f is_cancelled number words (ForCancel index) w room h =
      given_leaves Fine (found_subtask w f.instance index) _ (λ callee e. subtask_leaves Fine w callee _ (λ task subtask. (h, tt)))
  wait_resumed_grows t f is_cancelled number words (ForCopy index) w room h =
      given_leaves Fine (found_end w f.instance index) _ (λ (e : EndRef) i. (on_channel s e.kind e.number _ w h, tt))

  set_polled_grows : (t : ℕ) (f : Lifted) (set : ℕ) (members : List ℕ) (w : World) → On w → Leaves Fine (set_polled g t f set members w)
  unfolding set_polled
  set_polled_grows t f set [] w h = none_received_grows t f InCallback w tt h
  set_polled_grows t f set (index ∷ members) w h = (h, tt)

  next_resumed_grows : (t : ℕ) (f : Lifted) (r : Result Next BadCode) (w : World) → On w → Leaves Fine (next_resumed g t f r w)
  unfolding next_resumed
  next_resumed_grows t f (Ok word.Exit) w h = tt
  next_resumed_grows t f (Ok word.Yield) w h = none_received_grows t f InCallback w tt h
  next_resumed_grows t f (Ok (word.Wait index)) w h = given_leaves Fine (set_number w f.instance index) _ (λ set e. (h, tt))
  next_resumed_grows t f (Ok (word.Poll index)) w h = given_leaves Fine (set_number w f.instance index) _ (λ set e. set_polled_grows t f set (ready w f.instance set) w h)
  next_resumed_grows t f (Err why) w h = tt

  loop_resumed_grows : (t : ℕ) (f : Lifted) (is_cancelled : Bool) (said : ℕ) (w : World) → On w → Leaves Fine (loop_resumed g t f is_cancelled said w)
  unfolding loop_resumed
  loop_resumed_grows t f is_cancelled said w h = either_leaves Fine is_cancelled _ _ (λ e. cancel_received_grows t f InCallback w tt h) (λ e. next_resumed_grows t f (callback_of said) w h)

  resumed_grows : (t : ℕ) (task : Task) (f : Lifted) (state : TaskState) (w : World) → StateRoom g w.store state → On w → Leaves Fine (resumed g t task f state w)
  unfolding resumed
  resumed_grows t task f WaitsToEnter w room h = entered_grows g s t task f w h
  resumed_grows t task f (InLoop said) w room h = loop_resumed_grows t f (is_asked task.cancellation) said (in_state t Acting w) h
  resumed_grows t task f (InBuiltin number words wait) w room h =
      wait_resumed_grows t f (is_to_be_told g number wait task w f.instance) number words wait (in_state t Acting w) room h
  resumed_grows t task f New w room h = tt
  resumed_grows t task f Acting w room h = tt
  resumed_grows t task f (AfterCall callee number words) w room h = tt
  resumed_grows t task f (AfterCancel callee number words) w room h = tt
  resumed_grows t task f (Begins n) w room h = tt
  resumed_grows t task f Exited w room h = tt

  pub resuming_grows : (w : World) → ((a : ℕ × Task) → acting w ≡ Some a → StateRoom g w.store a.1.state) → On w → Leaves Fine (resuming_turn g w)
  unfolding resuming_turn
  resuming_grows w room h = func_leaves Fine w _ (λ a f e k. resumed_grows a.0 a.1 f a.1.state w (room a e) h)
