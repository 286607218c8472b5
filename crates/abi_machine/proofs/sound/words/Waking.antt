-- How tasks enter, are told, go on and are cancelled, and how calls meet, keeps words.
use Rattle.std.proofs.Common.{ℕ, Bool, true, false, List, [], ◌∷◌, Option, Some, None, Result, Ok, Err}
use Rattle.std.specs.Prelude.{slice_index}
use Rattle.std.specs.List.{slice_get}
use Rattle.handle_table.specs.History.{next_index}
use Rattle.wasm_store.specs.Store.{found_at}
use Rattle.entry_gate.specs.Callbacks.{callback_of}
use Rattle.entry_gate.specs.declared.callback.BadCode.{BadCode}
use Rattle.entry_gate.specs.declared.callback.Next.{Next}
use Rattle.entry_gate.specs.declared.callback.Next.TheVariants as word
use Rattle.stream_ends.specs.declared.open_copy.OpenCopy.{OpenCopy}
use Rattle.tasks.specs.Tasks.{is_asked, cancel_case}
use Rattle.tasks.specs.declared.event.Asked.{Asked}
use Rattle.tasks.specs.declared.event.Asked.TheVariants.{Removed, ResumeNow, Pending}
use Rattle.tasks.specs.declared.phase.Resolution.TheVariants.{Cancelled}
use Rattle.comp_graph.specs.Graph.{Graph, Lifted}
use Rattle.script_reader.specs.Script.{Script}
use Rattle.trace_labels.specs.declared.label.BlockReason.TheVariants as reason
use Rattle.trace_labels.specs.declared.trap.TrapName.TheVariants as trap
use Rattle.abi_machine.specs.Control.{EndRef, EventCode, NoEvent, SubtaskEvent, TaskCancelled, Receiver, InWait, InCallback, Control}
use Rattle.abi_machine.specs.World.{Entry, OwnHandle, BorrowHandle, OfSubtask, OfSet, OfEnd, Callee, Guest, Wait, ForYield, ForSet, ForCall, ForCopy, ForCancel, TaskState, New, Acting, AfterCall, AfterCancel, WaitsToEnter, InLoop, InBuiltin, Exited, Channel, Task, World}
use Rattle.abi_machine.specs.World as world
use Rattle.abi_machine.specs.Edits.{entry_added, in_state, resolved, told, offered, concluded}
use Rattle.abi_machine.specs.Canons.{func_address, canon_at, options_at, flag_at}
use Rattle.abi_machine.specs.Reading.{table_of, entry_at, channel_at, acting, func_of, is_reentrant}
use Rattle.abi_machine.specs.Counting.{subtask_state, state_of, task_view, has_resolved, payload_of, ready}
use Rattle.abi_machine.specs.Gate.{is_entry_free, may_arrive}
use Rattle.abi_machine.specs.Finding.{found_subtask, set_number, found_end}
use Rattle.abi_machine.specs.Turn.{replied}
use Rattle.abi_machine.specs.Calling.{Told, called_by, call_answer, call_state, call_begun, call_resolved, call_open, subtask_told, back_from_call}
use Rattle.abi_machine.specs.Cancelling.{asked_turn, cancelled_turn, first_of, cancel_open, back_from_cancel, back_to, back_turn}
use Rattle.abi_machine.specs.Choosing.{chosen}
use Rattle.abi_machine.specs.Copying.{blocked_word, Met, AtOnce, Moves as Copies, Stands, met_by, other_offer, read_of, write_of, is_within, elements_moved, meeting_turn, meets}
use Rattle.abi_machine.specs.Delivering.{number_of, event_line, event_put, nothing_told, cancel_told, end_told, event_of_end, is_to_be_told, callback_started, received, received_none, received_cancel, entry_delivered, member_delivered, members_turn, delivering_turn, yield_cancelled, told_payload, told_result, wait_resumed, set_polled, next_resumed, loop_resumed, resumed, resuming_turn}
use Rattle.abi_machine.specs.Entering.{arriving_turn}
use Rattle.abi_machine.specs.sound.Words.{IsPassed, WaitsWithWords, ControlAdds}
use Rattle.abi_machine.proofs.sound.Found.{acting_is}
use Rattle.abi_machine.proofs.sound.words.Keeping.{Ground, Holds, KeepsOf, task_keeps, task_so, state_so, told_so, more_so, added_keeps, concluded_so, CallPlaced, offered_so, Keeps, given_keeps, behind_keeps, either_keeps, unless_keeps, subtask_keeps, entry_keeps, blocked_keeps, on_keeps}
use Rattle.abi_machine.proofs.sound.words.Passing.{entered_keeps, moved_by_keeps}

module _ {g : Graph} (ground : Ground g) where
  -- Calls.
  pub begun_keeps : (t number : ℕ) (words : List ℕ) (callee : Callee) (f : Lifted) (passed : List ℕ) (w : World) → IsPassed g number words → IsPassed g number passed → Holds ground w
      → Keeps ground (call_begun t number words callee f passed w)
  unfolding call_begun
  begun_keeps t number words callee f passed w of_call of_callee h =
      unless_keeps ground t (is_reentrant w f.instance t) trap.Reentrant w _ h
      (more_so ground (in_state t (AfterCall _ number words) w) callee (Guest (called_by t number passed)) of_callee (state_so ground w t (AfterCall _ number words) of_call h), tt)

  open_keeps : (t i callee : ℕ) (task : Task) (is_async : Bool) (number : ℕ) (words : List ℕ) (w : World) → IsPassed g number words → Holds ground w → Keeps ground (call_open t i callee task is_async number words w)
  unfolding call_open
  open_keeps t i callee task true number words w passed h =
      entry_keeps ground t i (OfSubtask callee) w (λ index v. replied t (call_state task index ∷ []) (told callee (subtask_state task) v)) h (
        on_keeps ground t (call_state task (next_index (table_of w i)) ∷ []) (told callee (subtask_state task) (entry_added i (OfSubtask callee) w))
            (told_so ground (entry_added i (OfSubtask callee) w) callee (subtask_state task) (added_keeps ground i (OfSubtask callee) w tt h)),
        tt,
      )
  open_keeps t i callee task false number words w passed h = blocked_keeps ground t (InBuiltin number words (ForCall callee)) (reason.Call callee) w passed h

  back_called_keeps : (t i callee number : ℕ) (words : List ℕ) (w : World) → IsPassed g number words → Holds ground w → Keeps ground (back_from_call g t i callee number words w)
  unfolding back_from_call call_resolved
  back_called_keeps t i callee number words w passed h =
      let acts : Holds ground (in_state t Acting w) = state_so ground w t Acting tt h in
      subtask_keeps ground w callee _ (λ task subtask.
      either_keeps ground (has_resolved task) _ _
      (on_keeps ground t (call_answer (options_at g number).is_async subtask.result) (told callee (subtask_state task) (in_state t Acting w)) (told_so ground (in_state t Acting w) callee (subtask_state task) acts), tt)
      (open_keeps t i callee task (options_at g number).is_async number words (in_state t Acting w) passed acts))

  -- Cancellations.
  asked_keeps : (t : ℕ) (asked : Asked) (control : Control) (w : World) → ControlAdds control → Holds ground w → Keeps ground (asked_turn t asked control w)
  unfolding asked_turn
  asked_keeps t Removed control w adds h = (state_so ground (resolved t Cancelled w) t Exited tt (task_so ground w t _ (λ x k. k) h), adds)
  asked_keeps t ResumeNow control w adds h = (task_so ground w t _ (λ x k. k) h, tt)
  asked_keeps t Pending control w adds h = (task_so ground w t _ (λ x k. k) h, adds)

  pub cancelled_keeps : (t : ℕ) (task : Task) (control : Control) (w : World) → ControlAdds control → Holds ground w → Keeps ground (cancelled_turn g t task control w)
  unfolding cancelled_turn
  cancelled_keeps t task control w adds h = given_keeps ground (func_of task.callee) _ (λ f e. asked_keeps t (cancel_case (is_entry_free w f.instance) (task_view g w t task)) control w adds h)

  back_cancelled_keeps : (t i callee number : ℕ) (words : List ℕ) (w : World) → IsPassed g number words → Holds ground w → Keeps ground (back_from_cancel g t i callee number words w)
  unfolding back_from_cancel cancel_open told_payload
  back_cancelled_keeps t i callee number words w passed h =
      subtask_keeps ground w callee _ (λ task subtask.
      either_keeps ground (has_resolved task) _ _ (on_keeps ground t (state_of task ∷ []) (told callee (subtask_state task) w) (told_so ground w callee (subtask_state task) h), tt)
      (either_keeps ground (flag_at g number) _ _ (on_keeps ground t (blocked_word ∷ []) w h, tt) (blocked_keeps ground t (InBuiltin number words (ForCancel (first_of words))) (reason.Cancel (first_of words)) w passed h)))

  back_to_keeps : (t i : ℕ) (state : TaskState) (w : World) → WaitsWithWords g state → Holds ground w → Keeps ground (back_to g t i state w)
  unfolding back_to
  back_to_keeps t i (AfterCall callee number words) w passed h = back_called_keeps t i callee number words w passed h
  back_to_keeps t i (AfterCancel callee number words) w passed h = back_cancelled_keeps t i callee number words (in_state t Acting w) passed (state_so ground w t Acting tt h)
  back_to_keeps t i New w passed h = tt
  back_to_keeps t i Acting w passed h = tt
  back_to_keeps t i (world.Begins n) w passed h = tt
  back_to_keeps t i WaitsToEnter w passed h = tt
  back_to_keeps t i (InLoop said) w passed h = tt
  back_to_keeps t i (InBuiltin number words wait) w passed h = tt
  back_to_keeps t i Exited w passed h = tt

  pub back_keeps : (w : World) → Holds ground w → Keeps ground (back_turn g w)
  unfolding back_turn
  back_keeps w h =
      given_keeps ground (acting w) _ (λ a e. given_keeps ground (func_of a.1.callee) _ (λ f i.
      (let k : KeepsOf ground a.1 = task_keeps ground w a.0 a.1 (acting_is w a e) h in back_to_keeps a.0 f.instance a.1.state w k.waits h)))

  -- Entry.
  pub arriving_keeps : (w : World) → Holds ground w → Keeps ground (arriving_turn g w)
  unfolding arriving_turn
  arriving_keeps w h =
      given_keeps ground (acting w) _ (λ a e. given_keeps ground (func_of a.1.callee) _ (λ f i.
      either_keeps ground (may_arrive w f.instance a.1) _ _ (entered_keeps ground a.0 a.1 f w (task_keeps ground w a.0 a.1 (acting_is w a e) h) h) (blocked_keeps ground a.0 WaitsToEnter reason.Entry w tt h)))

  -- Events.
  callback_keeps : (t : ℕ) (f : Lifted) (code : EventCode) (index payload : ℕ) (w : World) → Holds ground w → Keeps ground (callback_started t f code index payload w)
  unfolding callback_started
  callback_keeps t f code index payload w h =
      given_keeps ground f.options.callback _ (λ ref e. given_keeps ground (found_at w.store.funcs (func_address w.store ref)) _ (λ function i. (task_so ground w t _ (λ x k. k) h, tt)))

  received_keeps : (t : ℕ) (f : Lifted) (receiver : Receiver) (code : EventCode) (index : ℕ) (told : Told) → Holds ground told.world → Keeps ground (received g t f receiver code index told)
  unfolding received
  received_keeps t f (InWait number words) code index told h = (on_keeps ground t (number_of code ∷ []) (event_put g number (slice_index words 1) index told.payload told.world) h, tt)
  received_keeps t f InCallback code index told h =
      behind_keeps ground (event_line t code index told.payload ∷ told.lines) (callback_started t f code index told.payload told.world) (callback_keeps t f code index told.payload told.world h)

  pub none_received_keeps : (t : ℕ) (f : Lifted) (receiver : Receiver) (w : World) → Holds ground w → Keeps ground (received_none g t f receiver w)
  unfolding received_none
  none_received_keeps t f receiver w h = received_keeps t f receiver NoEvent 0 (nothing_told w) h

  cancel_so : (t : ℕ) (w : World) → Holds ground w → Holds ground (cancel_told t w).world
  cancel_so t w h = task_so ground w t _ (λ x k. k) h

  pub cancel_received_keeps : (t : ℕ) (f : Lifted) (receiver : Receiver) (w : World) → Holds ground w → Keeps ground (received_cancel g t f receiver w)
  unfolding received_cancel
  cancel_received_keeps t f receiver w h = received_keeps t f receiver TaskCancelled 0 (cancel_told t w) (cancel_so t w h)

  entry_delivered_keeps : (t : ℕ) (f : Lifted) (receiver : Receiver) (index : ℕ) (entry : Option Entry) (w : World) → Holds ground w → Keeps ground (entry_delivered g t f receiver index entry w)
  unfolding entry_delivered
  entry_delivered_keeps t f receiver index None w h = tt
  entry_delivered_keeps t f receiver index (Some (OwnHandle resource rep)) w h = tt
  entry_delivered_keeps t f receiver index (Some (BorrowHandle resource rep task)) w h = tt
  entry_delivered_keeps t f receiver index (Some (OfSubtask callee)) w h =
      subtask_keeps ground w callee _ (λ task subtask. received_keeps t f receiver SubtaskEvent index (subtask_told f.instance callee task subtask w) (told_so ground w callee (subtask_state task) h))
  entry_delivered_keeps t f receiver index (Some (OfSet set)) w h = tt
  entry_delivered_keeps t f receiver index (Some (OfEnd e)) w h = received_keeps t f receiver (event_of_end e) index (end_told e w) (concluded_so ground e w h)

  member_keeps : (t : ℕ) (f : Lifted) (receiver : Receiver) (member : Option ℕ) (w : World) → Holds ground w → Keeps ground (member_delivered g t f receiver member w)
  unfolding member_delivered
  member_keeps t f receiver member w h = given_keeps ground member _ (λ index e. entry_delivered_keeps t f receiver index (entry_at w f.instance index) w h)

  members_keep : (s : Script) (t : ℕ) (f : Lifted) (set : ℕ) (receiver : Receiver) (pick : Option ℕ) (members : List ℕ) (w : World) → Holds ground w → Keeps ground (members_turn g s t f set receiver pick members w)
  unfolding members_turn chosen
  members_keep s t f set receiver None [] w h = member_keeps t f receiver None w h
  members_keep s t f set receiver None (index ∷ []) w h = member_keeps t f receiver (Some index) w h
  members_keep s t f set receiver None (index ∷ other ∷ members) w h = (h, tt)
  members_keep s t f set receiver (Some k) members w h = member_keeps t f receiver (slice_get members k) w h

  pub delivering_keeps : (s : Script) (set : ℕ) (receiver : Receiver) (pick : Option ℕ) (w : World) → Holds ground w → Keeps ground (delivering_turn g s set receiver pick w)
  unfolding delivering_turn
  delivering_keeps s set receiver pick w h =
      given_keeps ground (acting w) _ (λ a e. given_keeps ground (func_of a.1.callee) _ (λ f i. members_keep s a.0 f set receiver pick (ready w f.instance set) w h))

  -- Blocked tasks go on.
  pub yielded_keeps : (t : ℕ) (w : World) → Holds ground w → Keeps ground (yield_cancelled t w)
  unfolding yield_cancelled
  yielded_keeps t w h = (on_keeps ground t (1 ∷ []) (cancel_told t w).world (cancel_so t w h), tt)

  wait_resumed_keeps : (t : ℕ) (f : Lifted) (is_cancelled : Bool) (number : ℕ) (words : List ℕ) (wait : Wait) (w : World) → Holds ground w → Keeps ground (wait_resumed g t f is_cancelled number words wait w)
  unfolding wait_resumed told_result told_payload
  wait_resumed_keeps t f is_cancelled number words ForYield w h = either_keeps ground is_cancelled _ _ (yielded_keeps t w h) (on_keeps ground t (0 ∷ []) w h, tt)
  wait_resumed_keeps t f is_cancelled number words (ForSet index) w h =
      either_keeps ground is_cancelled _ _ (cancel_received_keeps t f (InWait number words) w h) (given_keeps ground (set_number w f.instance index) _ (λ set e. (h, tt)))
  wait_resumed_keeps t f is_cancelled number words (ForCall callee) w h =
      subtask_keeps ground w callee _ (λ task subtask. (on_keeps ground t subtask.result (told callee (subtask_state task) w) (told_so ground w callee (subtask_state task) h), tt))
  wait_resumed_keeps t f is_cancelled number words (ForCancel index) w h =
      given_keeps ground (found_subtask w f.instance index) _ (λ callee e. subtask_keeps ground w callee _ (λ task subtask.
      (on_keeps ground t (state_of task ∷ []) (told callee (subtask_state task) w) (told_so ground w callee (subtask_state task) h), tt)))
  wait_resumed_keeps t f is_cancelled number words (ForCopy index) w h = given_keeps ground (found_end w f.instance index) _ (λ e i. (on_keeps ground t (payload_of w e ∷ []) (concluded e w) (concluded_so ground e w h), tt))

  set_polled_keeps : (t : ℕ) (f : Lifted) (set : ℕ) (members : List ℕ) (w : World) → Holds ground w → Keeps ground (set_polled g t f set members w)
  unfolding set_polled
  set_polled_keeps t f set [] w h = none_received_keeps t f InCallback w h
  set_polled_keeps t f set (index ∷ members) w h = (h, tt)

  next_resumed_keeps : (t : ℕ) (f : Lifted) (r : Result Next BadCode) (w : World) → Holds ground w → Keeps ground (next_resumed g t f r w)
  unfolding next_resumed
  next_resumed_keeps t f (Ok word.Exit) w h = tt
  next_resumed_keeps t f (Ok word.Yield) w h = none_received_keeps t f InCallback w h
  next_resumed_keeps t f (Ok (word.Wait index)) w h = given_keeps ground (set_number w f.instance index) _ (λ set e. (h, tt))
  next_resumed_keeps t f (Ok (word.Poll index)) w h = given_keeps ground (set_number w f.instance index) _ (λ set e. set_polled_keeps t f set (ready w f.instance set) w h)
  next_resumed_keeps t f (Err why) w h = tt

  loop_resumed_keeps : (t : ℕ) (f : Lifted) (is_cancelled : Bool) (said : ℕ) (w : World) → Holds ground w → Keeps ground (loop_resumed g t f is_cancelled said w)
  unfolding loop_resumed
  loop_resumed_keeps t f is_cancelled said w h = either_keeps ground is_cancelled _ _ (cancel_received_keeps t f InCallback w h) (next_resumed_keeps t f (callback_of said) w h)

  resumed_keeps : (t : ℕ) (task : Task) (f : Lifted) (state : TaskState) (w : World) → KeepsOf ground task → Holds ground w → Keeps ground (resumed g t task f state w)
  unfolding resumed
  resumed_keeps t task f WaitsToEnter w kept h = entered_keeps ground t task f w kept h
  resumed_keeps t task f (InLoop said) w kept h = loop_resumed_keeps t f (is_asked task.cancellation) said (in_state t Acting w) (state_so ground w t Acting tt h)
  resumed_keeps t task f (InBuiltin number words wait) w kept h =
      wait_resumed_keeps t f (is_to_be_told g number wait task w f.instance) number words wait (in_state t Acting w) (state_so ground w t Acting tt h)
  resumed_keeps t task f New w kept h = tt
  resumed_keeps t task f Acting w kept h = tt
  resumed_keeps t task f (AfterCall callee number words) w kept h = tt
  resumed_keeps t task f (AfterCancel callee number words) w kept h = tt
  resumed_keeps t task f (world.Begins n) w kept h = tt
  resumed_keeps t task f Exited w kept h = tt

  pub resuming_keeps : (w : World) → Holds ground w → Keeps ground (resuming_turn g w)
  unfolding resuming_turn
  resuming_keeps w h =
      given_keeps ground (acting w) _ (λ a e. given_keeps ground (func_of a.1.callee) _ (λ f i. resumed_keeps a.0 a.1 f a.1.state w (task_keeps ground w a.0 a.1 (acting_is w a e) h) h))

  -- Copies.
  meeting_keeps : (t : ℕ) (e : EndRef) (call : OpenCopy) (words : List ℕ) (index : ℕ) (c : Channel) (m : Met) (w : World) → CallPlaced ground e call w → IsPassed g call.canon words → Holds ground w
      → Keeps ground (meeting_turn g t e call words index c m w)
  unfolding meeting_turn elements_moved
  meeting_keeps t e call words index c (AtOnce payload) w fits passed h = (on_keeps ground t (payload ∷ []) (offered e call w) (offered_so ground e call w fits h), tt)
  meeting_keeps t e call words index c (Copies count) w fits passed h =
      given_keeps ground (other_offer e.side c.ends.view) _ (λ offer i. given_keeps ground (canon_at g (read_of e.side call offer).canon) _ (λ reading j. given_keeps ground (canon_at g (write_of e.side call offer).canon) _ (λ writing k.
      moved_by_keeps ground t e call (read_of e.side call offer) (write_of e.side call offer) reading writing count c.element w h)))
  meeting_keeps t e call words index c Stands w fits passed h =
      either_keeps ground (options_at g call.canon).is_async _ _ (on_keeps ground t (blocked_word ∷ []) (offered e call w) (offered_so ground e call w fits h), tt)
      (blocked_keeps ground t (InBuiltin call.canon words (ForCopy index)) (reason.Copy index) (offered e call w) passed (offered_so ground e call w fits h))

  pub meets_keeps : (t i : ℕ) (e : EndRef) (call : OpenCopy) (words : List ℕ) (index : ℕ) (w : World) → CallPlaced ground e call w → IsPassed g call.canon words → Holds ground w → Keeps ground (meets g t i e call words index w)
  unfolding meets
  meets_keeps t i e call words index w fits passed h =
      given_keeps ground (channel_at w e.kind e.number) _ (λ c j. unless_keeps ground t (is_within g i e.side c.element c.ends.view) trap.SameInstance w _ h
      (meeting_keeps t e call words index c (met_by e.kind e.side call c.ends.view) w fits passed h))
