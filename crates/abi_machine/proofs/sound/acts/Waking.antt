-- How tasks enter, call, are told, go on and are cancelled keeps the order of tasks.
use Rattle.std.proofs.Common.{◌≡◌, inr, ℕ, Bool, true, false, List, [], ◌∷◌, length, refl, sym, subst, Option, Some, None, Result, Ok, Err}
use Rattle.std.specs.Prelude.{IsSome, slice_index}
use Rattle.std.specs.List.{slice_get}
use Rattle.wasm_store.specs.Store.{found_at}
use Rattle.handle_table.specs.History.{next_index}
use Rattle.entry_gate.specs.Callbacks.{callback_of}
use Rattle.entry_gate.specs.declared.callback.BadCode.{BadCode}
use Rattle.entry_gate.specs.declared.callback.Next.{Next}
use Rattle.entry_gate.specs.declared.callback.Next.TheVariants as next
use Rattle.tasks.specs.declared.event.Asked.{Asked}
use Rattle.tasks.specs.declared.event.Asked.TheVariants.{Removed, ResumeNow, Pending}
use Rattle.tasks.specs.declared.phase.Cancellation.TheVariants as cancellation
use Rattle.tasks.specs.Tasks.{cancel_case, is_asked}
use Rattle.comp_graph.specs.Graph.{Graph, Lifted}
use Rattle.script_reader.specs.Script.{Script}
use Rattle.trace_labels.specs.declared.label.Label.TheVariants as line
use Rattle.trace_labels.specs.declared.label.BlockReason.TheVariants as reason
use Rattle.trace_labels.specs.declared.trap.TrapName.TheVariants as trap
use Rattle.abi_machine.specs.Control.{EndRef, Receiver, InWait, InCallback, EventCode, Free, Arrives, Back, Goes as GoesOn, Delivers}
use Rattle.abi_machine.specs.World.{Entry, OwnHandle, BorrowHandle, OfSubtask, OfSet, OfEnd, Callee, Subtask, Caller, Nobody, Host, Guest, Wait, ForYield, ForSet, ForCall, ForCopy, ForCancel, TaskState, New as IsNew, Acting, AfterCall, AfterCancel, Begins, WaitsToEnter, InLoop, InBuiltin, Exited, Task, World, new_task}
use Rattle.abi_machine.specs.Edits.{entry_added, in_state, with_cancellation, told, concluded}
use Rattle.abi_machine.specs.Canons.{func_address, canon_at, options_of_canon, inst_of_canon, options_at, flag_at}
use Rattle.abi_machine.specs.Reading.{table_of, entry_at, acting, func_of, task_at, subtask_of, kind_of, is_reentrant, may_leave}
use Rattle.abi_machine.specs.Counting.{task_view, has_resolved, subtask_state, state_of, payload_of, ready}
use Rattle.abi_machine.specs.Gate.{is_entry_free, may_arrive}
use Rattle.abi_machine.specs.Finding.{set_number, found_subtask, found_end}
use Rattle.abi_machine.specs.Turn.{Turn, replied, blocked}
use Rattle.abi_machine.specs.Entering.{with_arguments, arguments_passed, arguments_turn, entered, arriving_turn}
use Rattle.abi_machine.specs.Calling.{call_begun, called_by, Told, subtask_told, with_subtask_of, call_resolved, call_open, call_state, call_answer, back_from_call}
use Rattle.abi_machine.specs.Delivering.{number_of, event_line, event_put, callback_started, received, nothing_told, cancel_told, received_none, received_cancel, end_told, entry_delivered, member_delivered, members_turn, delivering_turn, is_to_be_told, yield_cancelled, told_payload, told_result, wait_resumed, set_polled, next_resumed, loop_resumed, resumed, resuming_turn}
use Rattle.abi_machine.specs.Cancelling.{asked_turn, cancelled_turn, first_of, cancel_open, back_from_cancel, back_to, back_turn}
use Rattle.abi_machine.specs.Copying.{blocked_word}
use Rattle.abi_machine.specs.sound.Changes.{Change, HasStore, AddsEntry, Calls, ComesBack, Acts, Cancels, IsRemoved, IsCancelled, IsTold, Concludes, after, IsGuest, HasFunc, IsBlocked}
use Rattle.abi_machine.specs.sound.Acting.{IsNew as IsNewOne, Outline, outline_of, outlines_of, WaitsWith, StandsBy, IsActing, IsCalling, OneActs, stacked_receiver}
use Rattle.abi_machine.proofs.sound.Lifted.{arguments_keep}
use Rattle.abi_machine.proofs.sound.Found.{guest_changed, func_changed, changed_there, acting_first, acting_is, acting_func}
use Rattle.abi_machine.proofs.sound.Able.{resumed_blocked, removed_waits}
use Rattle.abi_machine.proofs.sound.Outlines.{outline_there, Is, as_is, is_there, state_first, acting_waits}
use Rattle.abi_machine.proofs.sound.Standing.{steady, first_back, first_asks}
use Rattle.abi_machine.proofs.sound.acts.Keeping.{IsIn, Order, acts_at, acts_by, new_acts, waits_stacked, Keeps, Held, still, given_keeps, behind_keeps, either_keeps, goes, unless_keeps, chosen_keeps, on_keeps, blocked_keeps, waited_keeps, entry_keeps, acting_stack_keeps, removes, waits, lends, came_keeps}

module _ {g : Graph} {s : Script} (ord : Order g s) where
  -- the acting task acts again
  acts_again : (b : Bool) (t : ℕ) (w : World) → Is (WaitsWith b) t w → ord.Holds w → Held ord b t (in_state t Acting w)
  acts_again b t w a h = (ord.stays (Acts t) w a.0 tt h, state_first (IsActing b) (WaitsWith b) w t Acting (λ o k. (k.0, refl, k.1)) a)

  -- Tasks enter.

  called_keeps : (t : ℕ) (f : Lifted) (caller : Caller) (w : World) → Held ord false t w → Keeps ord (arguments_turn g t f caller w)
  unfolding arguments_turn with_arguments arguments_passed
  called_keeps t f Nobody w h = tt
  called_keeps t f (Host call values) w h = (goes ord _ w h.0, ((t, h.1), (h.1.0, tt)))
  called_keeps t f (Guest subtask) w h =
      given_keeps ord (canon_at g subtask.canon) _ (λ c e.
      came_keeps ord false t (arguments_passed t f subtask c w) (λ v later. with_arguments g t f v later)
      (arguments_keep (inst_of_canon c) t (Held ord false t) (Unit {0}) (removes ord false t) (waits ord false t) (lends ord false t (inst_of_canon c) t) (options_of_canon c).is_async f.func_type (λ b. tt) _ subtask.words w h)
      (λ v later i. (goes ord _ later i.0, ((t, i.1), (i.1.0, tt)))))

  entered_keeps : (t : ℕ) (task : Task) (f : Lifted) (w : World) → Is (WaitsWith false) t w → ord.Holds w → Keeps ord (entered g t task f w)
  unfolding entered
  entered_keeps t task f w a h =
      behind_keeps ord (line.Enter t ∷ []) (arguments_turn g t f task.caller (in_state t Acting w)) (called_keeps t f task.caller (in_state t Acting w) (acts_again false t w a h))

  -- what stands by its state
  stands_so : (t : ℕ) (task : Task) (w : World) → Is (λ o. o ≡ outline_of task) t w → ord.Holds w → StandsBy task.state (outline_of task)
  stands_so t task w a h = ord.stacked w h t (outline_of task) (subst (λ (o : Outline). slice_get (outlines_of w.tasks) t ≡ Some o) a.1.2 a.1.1)

  -- what is known of the task that is looked up
  acts_so : (w : World) (a : ℕ × Task) → acting w ≡ Some a → ord.Holds w → Is (StandsBy a.1.state) a.0 w
  acts_so w a e h = (let k : Is (λ o. o ≡ outline_of a.1) a.0 w = acts_by w a e in (k.0, (outline_of a.1, outline_there w.tasks a.0 a.1 (acting_is w a e), stands_so a.0 a.1 w k h)))

  pub arriving_keeps : (w : World) → ord.Holds w → OneActs IsNewOne (outlines_of w.tasks) w.chain → Keeps ord (arriving_turn g w)
  unfolding arriving_turn
  arriving_keeps w h o =
      given_keeps ord (acting w) _ (λ a e. given_keeps ord (func_of a.1.callee) _ (λ f i.
      let n : Is IsNewOne a.0 w = acts_at IsNewOne w a e o in
      let k : Is (WaitsWith false) a.0 w = (n.0, (n.1.0, n.1.1, subst (λ (state : TaskState). StandsBy state n.1.0) n.1.2 (ord.stacked w h a.0 n.1.0 n.1.1))) in
      either_keeps ord (may_arrive w f.instance a.1) (entered g a.0 a.1 f w) (blocked a.0 WaitsToEnter reason.Entry w) (λ j. entered_keeps a.0 a.1 f w k h)
      (λ j. blocked_keeps ord a.0 WaitsToEnter reason.Entry w (acting_first w a e) tt (inr (acting_func w a f e i)) tt k h)))

  -- Tasks call and are told.

  pub call_keeps : (t number : ℕ) (words : List ℕ) (callee : Callee) (f : Lifted) (passed : List ℕ) (w : World) → func_of callee ≡ Some f → IsSome (canon_at g number) → may_leave w ≡ true → Held ord true t w
      → Keeps ord (call_begun t number words callee f passed w)
  unfolding call_begun
  call_keeps t number words callee f passed w runs known free h =
      unless_keeps ord t (is_reentrant w f.instance t) trap.Reentrant w _ (h.0, h.1.0) (λ e.
      let c : Change = Calls number callee (called_by t number passed) words in (
        goes ord Arrives (after c w) (ord.stays c w (subst (λ (o : Option Lifted). IsSome o) (sym runs) refl, is_there (IsActing true) t w h.1, h.1.0, free) (refl, as_is (IsActing true) (WaitsWith true) t w (acting_waits true) h.1, known) h.0),
        new_acts (in_state t (AfterCall (length w.tasks) number words) w).tasks w.chain (new_task callee (Guest (called_by t number passed)) IsNew) refl,
      ))

  subtask_keeps : (b : Bool) (t i callee : ℕ) (task : Task) (subtask : Subtask) (w : World) → Held ord b t w → Held ord b t (subtask_told i callee task subtask w).world
  subtask_keeps b t i callee task subtask w h = still ord b t (IsTold callee (subtask_state task)) w tt tt tt h

  pub with_keeps : (w : World) (callee : ℕ) (more : Task → Subtask → Turn) → ((task : Task) (subtask : Subtask) → task_at w callee ≡ Some task → subtask_of task.caller ≡ Some subtask → Keeps ord (more task subtask))
      → Keeps ord (with_subtask_of w callee more)
  with_keeps w callee more h = given_keeps ord (task_at w callee) _ (λ task e. given_keeps ord (subtask_of task.caller) _ (λ subtask i. h task subtask e i))

  -- a task is back from a call
  open_keeps : (t i callee : ℕ) (task : Task) (is_async : Bool) (number : ℕ) (words : List ℕ) (w : World) → IsGuest (in_state t Acting w).tasks callee → HasFunc w.tasks t → Is (IsIn (AfterCall callee number words)) t w
      → ord.Holds w → Held ord true t (in_state t Acting w) → Keeps ord (call_open t i callee task is_async number words (in_state t Acting w))
  unfolding call_open
  open_keeps t i callee task true number words w guest runs a h k =
      let v : World = in_state t Acting w in
      entry_keeps ord t i (OfSubtask callee) v (λ index u. replied t (call_state task index ∷ []) (told callee (subtask_state task) u)) (k.0, k.1.0) (λ few.
      on_keeps ord t (call_state task (next_index (table_of v i)) ∷ []) (told callee (subtask_state task) (entry_added i (OfSubtask callee) v))
      (still ord true t (IsTold callee (subtask_state task)) (entry_added i (OfSubtask callee) v) tt tt tt (still ord true t (AddsEntry i (OfSubtask callee)) v (few, guest) tt tt k)))
  open_keeps t i callee task false number words w guest runs a h k = waited_keeps ord t callee number words (reason.Call callee) w a runs h

  back_call_keeps : (t i callee number : ℕ) (words : List ℕ) (w : World) → HasFunc w.tasks t → Is (IsIn (AfterCall callee number words)) t w → ord.Holds w → Keeps ord (back_from_call g t i callee number words w)
  unfolding back_from_call call_resolved
  back_call_keeps t i callee number words w runs a h =
      let k : Held ord true t (in_state t Acting w) = acts_again true t w (waits_stacked w t callee number words a (ord.stacked w h)) h in
      with_keeps w callee _ (λ task subtask there guest.
      either_keeps ord (has_resolved task) _ _
      (λ e. on_keeps ord t (call_answer (options_at g number).is_async subtask.result) (told callee (subtask_state task) (in_state t Acting w)) (subtask_keeps true t i callee task subtask (in_state t Acting w) k))
      (λ e. open_keeps t i callee task (options_at g number).is_async number words w
      (guest_changed w.tasks t callee (λ task. record task { state = Acting }) (λ x k. k) (task, there, subst (λ (o : Option Subtask). IsSome o) (sym guest) refl)) runs a h k))

  -- Events are delivered.

  put_keeps : (t number place index payload : ℕ) (w : World) → Held ord true t w → Held ord true t (event_put g number place index payload w)
  put_keeps t number place index payload w h = still ord true t (HasStore _) w tt tt tt h

  callback_keeps : (t : ℕ) (f : Lifted) (code : EventCode) (index payload : ℕ) (w : World) → Held ord false t w → Keeps ord (callback_started t f code index payload w)
  unfolding callback_started
  callback_keeps t f code index payload w h =
      given_keeps ord f.options.callback _ (λ ref e. given_keeps ord (found_at w.store.funcs (func_address w.store ref)) _ (λ function i. acting_stack_keeps ord false t _ w h))

  received_keeps : (t : ℕ) (f : Lifted) (receiver : Receiver) (code : EventCode) (index : ℕ) (news : Told) → Held ord (stacked_receiver receiver) t news.world → Keeps ord (received g t f receiver code index news)
  unfolding received
  received_keeps t f (InWait number words) code index news h =
      on_keeps ord t (number_of code ∷ []) (event_put g number (slice_index words 1) index news.payload news.world) (put_keeps t number (slice_index words 1) index news.payload news.world h)
  received_keeps t f InCallback code index news h =
      behind_keeps ord (event_line t code index news.payload ∷ news.lines) (callback_started t f code index news.payload news.world) (callback_keeps t f code index news.payload news.world h)

  pub none_keeps : (t : ℕ) (f : Lifted) (receiver : Receiver) (w : World) → Held ord (stacked_receiver receiver) t w → Keeps ord (received_none g t f receiver w)
  unfolding received_none
  none_keeps t f receiver w h = received_keeps t f receiver _ 0 (nothing_told w) h

  pub cancel_keeps : (t : ℕ) (f : Lifted) (receiver : Receiver) (w : World) → Held ord (stacked_receiver receiver) t w → Keeps ord (received_cancel g t f receiver w)
  unfolding received_cancel
  cancel_keeps t f receiver w h = received_keeps t f receiver _ 0 (cancel_told t w) (still ord (stacked_receiver receiver) t (IsCancelled t cancellation.Delivered) w tt tt tt h)

  end_told_keeps : (b : Bool) (t : ℕ) (e : EndRef) (w : World) → Held ord b t w → Held ord b t (end_told e w).world
  end_told_keeps b t e w h = still ord b t (Concludes e) w tt tt tt h

  delivered_keeps : (t : ℕ) (f : Lifted) (receiver : Receiver) (index : ℕ) (entry : Option Entry) (w : World) → Held ord (stacked_receiver receiver) t w → Keeps ord (entry_delivered g t f receiver index entry w)
  unfolding entry_delivered
  delivered_keeps t f receiver index None w h = tt
  delivered_keeps t f receiver index (Some (OfSubtask callee)) w h =
      with_keeps w callee _ (λ task subtask there guest. received_keeps t f receiver _ index _ (subtask_keeps (stacked_receiver receiver) t f.instance callee task subtask w h))
  delivered_keeps t f receiver index (Some (OfEnd e)) w h = received_keeps t f receiver _ index (end_told e w) (end_told_keeps (stacked_receiver receiver) t e w h)
  delivered_keeps t f receiver index (Some (OwnHandle resource rep)) w h = tt
  delivered_keeps t f receiver index (Some (BorrowHandle resource rep task)) w h = tt
  delivered_keeps t f receiver index (Some (OfSet set)) w h = tt

  member_keeps : (t : ℕ) (f : Lifted) (receiver : Receiver) (member : Option ℕ) (w : World) → Held ord (stacked_receiver receiver) t w → Keeps ord (member_delivered g t f receiver member w)
  unfolding member_delivered
  member_keeps t f receiver member w h = given_keeps ord member _ (λ index e. delivered_keeps t f receiver index (entry_at w f.instance index) w h)

  members_keep : (t : ℕ) (f : Lifted) (set : ℕ) (receiver : Receiver) (pick : Option ℕ) (members : List ℕ) (w : World) → Held ord (stacked_receiver receiver) t w → Keeps ord (members_turn g s t f set receiver pick members w)
  unfolding members_turn
  members_keep t f set receiver None [] w h = member_keeps t f receiver _ w h
  members_keep t f set receiver None (index ∷ []) w h = member_keeps t f receiver _ w h
  members_keep t f set receiver None (index ∷ other ∷ members) w h = chosen_keeps ord (length (index ∷ other ∷ members)) (λ k. Delivers set receiver (Some k)) w (λ k. (t, h.1)) h.0
  members_keep t f set receiver (Some k) members w h = member_keeps t f receiver _ w h

  pub delivering_keeps : (set : ℕ) (receiver : Receiver) (pick : Option ℕ) (w : World) → ord.Holds w → OneActs (IsActing (stacked_receiver receiver)) (outlines_of w.tasks) w.chain → Keeps ord (delivering_turn g s set receiver pick w)
  unfolding delivering_turn
  delivering_keeps set receiver pick w h o =
      given_keeps ord (acting w) _ (λ a e. given_keeps ord (func_of a.1.callee) _ (λ f i. members_keep a.0 f set receiver pick (ready w f.instance set) w (h, acts_at (IsActing (stacked_receiver receiver)) w a e o)))

  -- Blocked tasks go on.

  pub yielded_keeps : (t : ℕ) (w : World) → Held ord true t w → Keeps ord (yield_cancelled t w)
  unfolding yield_cancelled
  yielded_keeps t w h = on_keeps ord t (1 ∷ []) (cancel_told t w).world (still ord true t (IsCancelled t cancellation.Delivered) w tt tt tt h)

  wait_keeps : (t : ℕ) (f : Lifted) (is_cancelled : Bool) (number : ℕ) (words : List ℕ) (wait : Wait) (w : World) → Held ord true t w → Keeps ord (wait_resumed g t f is_cancelled number words wait w)
  unfolding wait_resumed told_payload told_result
  wait_keeps t f is_cancelled number words ForYield w h = either_keeps ord is_cancelled _ _ (λ e. yielded_keeps t w h) (λ e. on_keeps ord t (0 ∷ []) w h)
  wait_keeps t f is_cancelled number words (ForSet index) w h =
      either_keeps ord is_cancelled _ _ (λ e. cancel_keeps t f (InWait number words) w h) (λ e. given_keeps ord (set_number w f.instance index) _ (λ set i. (goes ord _ w h.0, (t, h.1))))
  wait_keeps t f is_cancelled number words (ForCall callee) w h =
      with_keeps w callee _ (λ task subtask there guest. on_keeps ord t subtask.result (told callee (subtask_state task) w) (subtask_keeps true t f.instance callee task subtask w h))
  wait_keeps t f is_cancelled number words (ForCancel index) w h =
      given_keeps ord (found_subtask w f.instance index) _ (λ callee e.
      with_keeps w callee _ (λ task subtask there guest.
      on_keeps ord t (state_of task ∷ []) (told callee (subtask_state task) w) (subtask_keeps true t f.instance callee task subtask w h)))
  wait_keeps t f is_cancelled number words (ForCopy index) w h =
      given_keeps ord (found_end w f.instance index) _ (λ e i. on_keeps ord t (payload_of w e ∷ []) (concluded e w) (end_told_keeps true t e w h))

  polled_keeps : (t : ℕ) (f : Lifted) (set : ℕ) (members : List ℕ) (w : World) → Held ord false t w → Keeps ord (set_polled g t f set members w)
  unfolding set_polled
  polled_keeps t f set [] w h = none_keeps t f InCallback w h
  polled_keeps t f set (index ∷ members) w h = (goes ord _ w h.0, (t, h.1))

  loop_keeps : (t : ℕ) (f : Lifted) (r : Result Next BadCode) (w : World) → Held ord false t w → Keeps ord (next_resumed g t f r w)
  unfolding next_resumed
  loop_keeps t f (Ok next.Exit) w h = tt
  loop_keeps t f (Ok next.Yield) w h = none_keeps t f InCallback w h
  loop_keeps t f (Ok (next.Wait index)) w h = given_keeps ord (set_number w f.instance index) _ (λ set e. (goes ord _ w h.0, (t, h.1)))
  loop_keeps t f (Ok (next.Poll index)) w h =
      given_keeps ord (set_number w f.instance index) _ (λ set e. polled_keeps t f set (ready w f.instance set) w h)
  loop_keeps t f (Err why) w h = tt

  resumed_keeps : (t : ℕ) (task : Task) (f : Lifted) (state : TaskState) (w : World) → Is (StandsBy state) t w → ord.Holds w → Keeps ord (resumed g t task f state w)
  unfolding resumed loop_resumed
  resumed_keeps t task f WaitsToEnter w a h = entered_keeps t task f w a h
  resumed_keeps t task f (InLoop word) w a h =
      let i : Held ord false t (in_state t Acting w) = acts_again false t w a h in
      either_keeps ord (is_asked task.cancellation) _ _ (λ e. cancel_keeps t f InCallback (in_state t Acting w) i) (λ e. loop_keeps t f (callback_of word) (in_state t Acting w) i)
  resumed_keeps t task f (InBuiltin number words wait) w a h =
      wait_keeps t f (is_to_be_told g number wait task w f.instance) number words wait (in_state t Acting w) (acts_again true t w a h)
  resumed_keeps t task f IsNew w a h = tt
  resumed_keeps t task f Acting w a h = tt
  resumed_keeps t task f (AfterCall callee number words) w a h = tt
  resumed_keeps t task f (AfterCancel callee number words) w a h = tt
  resumed_keeps t task f (Begins n) w a h = tt
  resumed_keeps t task f Exited w a h = tt

  pub resuming_keeps : (w : World) → ord.Holds w → Keeps ord (resuming_turn g w)
  unfolding resuming_turn
  resuming_keeps w h = given_keeps ord (acting w) _ (λ a e. given_keeps ord (func_of a.1.callee) _ (λ f i. resumed_keeps a.0 a.1 f a.1.state w (acts_so w a e h) h))

  -- Cancellation: where no task runs, and by the acting task.

  idle_asked_keeps : (t : ℕ) (task : Task) (asked : Asked) (w : World) → slice_get w.tasks t ≡ Some task → IsSome (func_of task.callee) → (asked ≡ Removed → task.state ≡ WaitsToEnter) → (asked ≡ ResumeNow → IsBlocked task.state)
      → w.chain ≡ [] → ord.Holds w → Keeps ord (asked_turn t asked Free w)
  unfolding asked_turn
  idle_asked_keeps t task Removed w there runs waits blocked idle h = (goes ord Free (after (IsRemoved t) w) (ord.removed t w task there runs (waits refl) idle h), idle)
  idle_asked_keeps t task ResumeNow w there runs waits blocked idle h =
      let f : Task → Task = λ x. record x { cancellation = cancellation.Asked } in
      let v : World = with_cancellation t cancellation.Asked w in
      let now : slice_get v.tasks t ≡ Some (f task) = changed_there t f w.tasks task there in (
        goes ord GoesOn (after (ComesBack t) v) (ord.comes t v (f task) now runs (blocked refl) idle (ord.stays (IsCancelled t cancellation.Asked) w tt tt h)),
        (t, (refl, (outline_of (f task), outline_there v.tasks t (f task) now, blocked refl))),
      )
  idle_asked_keeps t task Pending w there runs waits blocked idle h = (goes ord Free (with_cancellation t cancellation.Asked w) (ord.stays (IsCancelled t cancellation.Asked) w tt tt h), idle)

  pub idle_cancelled_keeps : (t : ℕ) (task : Task) (w : World) → slice_get w.tasks t ≡ Some task → w.chain ≡ [] → ord.Holds w → Keeps ord (cancelled_turn g t task Free w)
  unfolding cancelled_turn
  idle_cancelled_keeps t task w there idle h =
      given_keeps ord (func_of task.callee) _ (λ f e. idle_asked_keeps t task (cancel_case (is_entry_free w f.instance) (task_view g w t task)) w there (subst (λ (o : Option Lifted). IsSome o) (sym e) refl)
      (λ i. removed_waits (is_entry_free w f.instance) (kind_of task) (flag_at g) task.state i) (λ i. resumed_blocked (is_entry_free w f.instance) (kind_of task) (flag_at g) task.state i) idle h)

  acting_asked_keeps : (t callee number : ℕ) (words : List ℕ) (task : Task) (asked : Asked) (w : World) → may_leave w ≡ true → slice_get w.tasks callee ≡ Some task → IsSome (func_of task.callee)
      → (asked ≡ Removed → task.state ≡ WaitsToEnter) → (asked ≡ ResumeNow → IsBlocked task.state) → Held ord true t w → Keeps ord (asked_turn callee asked Back (in_state t (AfterCancel callee number words) w))
  unfolding asked_turn
  acting_asked_keeps t callee number words task Removed w free there runs waits blocked h =
      let is : IsBlocked task.state = subst IsBlocked (sym (waits refl)) tt in (
        goes ord Back (after (IsRemoved callee) (after (Cancels t callee number words) w)) (ord.removed_asked t callee number words w task h.1 free there runs (waits refl) h.0),
        (t, first_asks t callee number words w task h.1 there is (ord.chained w h.0)),
      )
  acting_asked_keeps t callee number words task ResumeNow w free there runs waits blocked h = (
    goes ord GoesOn (after (ComesBack callee) (after (IsCancelled callee cancellation.Asked) (after (Cancels t callee number words) w))) (ord.comes_asked t callee number words w task h.1 free there runs (blocked refl) h.0),
    (callee, first_back t callee number words w task h.1 there (blocked refl) (ord.chained w h.0)),
  )
  acting_asked_keeps t callee number words task Pending w free there runs waits blocked h =
      let v : World = in_state t (AfterCancel callee number words) w in (
        goes ord Back (with_cancellation callee cancellation.Asked v) (ord.stays (IsCancelled callee cancellation.Asked) v tt tt (ord.stays (Cancels t callee number words) w (h.1.0, free) (as_is (IsActing true) (WaitsWith true) t w (acting_waits true) h.1) h.0)),
        (t, steady IsCalling t (IsCancelled callee cancellation.Asked) v tt (state_first IsCalling (IsActing true) w t (AfterCancel callee number words) (λ o k. tt) h.1)),
      )

  pub acting_cancelled_keeps : (t callee number : ℕ) (words : List ℕ) (task : Task) (w : World) → may_leave w ≡ true → slice_get w.tasks callee ≡ Some task → Held ord true t w
      → Keeps ord (cancelled_turn g callee task Back (in_state t (AfterCancel callee number words) w))
  unfolding cancelled_turn
  acting_cancelled_keeps t callee number words task w free there h =
      let v : World = in_state t (AfterCancel callee number words) w in
      given_keeps ord (func_of task.callee) _ (λ f e. acting_asked_keeps t callee number words task (cancel_case (is_entry_free v f.instance) (task_view g v callee task)) w free there (subst (λ (o : Option Lifted). IsSome o) (sym e) refl)
      (λ i. removed_waits (is_entry_free v f.instance) (kind_of task) (flag_at g) task.state i) (λ i. resumed_blocked (is_entry_free v f.instance) (kind_of task) (flag_at g) task.state i) h)

  cancel_open_keeps : (t number : ℕ) (words : List ℕ) (w : World) → HasFunc w.tasks t → Held ord true t w → Keeps ord (cancel_open g t number words w)
  unfolding cancel_open
  cancel_open_keeps t number words w runs h = either_keeps ord (flag_at g number) _ _ (λ e. on_keeps ord t (blocked_word ∷ []) w h)
      (λ e. blocked_keeps ord t (InBuiltin number words (ForCancel (first_of words))) (reason.Cancel (first_of words)) w h.1.0 tt (inr runs) tt (as_is (IsActing true) (WaitsWith true) t w (acting_waits true) h.1) h.0)

  back_cancel_keeps : (t i callee number : ℕ) (words : List ℕ) (w : World) → HasFunc w.tasks t → Held ord true t w → Keeps ord (back_from_cancel g t i callee number words w)
  unfolding back_from_cancel told_payload
  back_cancel_keeps t i callee number words w runs h =
      with_keeps w callee _ (λ task subtask there guest.
      either_keeps ord (has_resolved task) _ _ (λ e. on_keeps ord t (state_of task ∷ []) (told callee (subtask_state task) w) (subtask_keeps true t i callee task subtask w h)) (λ e. cancel_open_keeps t number words w runs h))

  back_to_keeps : (t i : ℕ) (state : TaskState) (w : World) → Is (IsIn state) t w → HasFunc w.tasks t → ord.Holds w → Keeps ord (back_to g t i state w)
  unfolding back_to
  back_to_keeps t i (AfterCall callee number words) w a runs h = back_call_keeps t i callee number words w runs a h
  back_to_keeps t i (AfterCancel callee number words) w a runs h =
      back_cancel_keeps t i callee number words (in_state t Acting w) (func_changed w.tasks t t (λ x. record x { state = Acting }) (λ x. refl) runs)
      (acts_again true t w (a.0, (a.1.0, a.1.1, subst (λ (state : TaskState). StandsBy state a.1.0) a.1.2 (ord.stacked w h t a.1.0 a.1.1))) h)
  back_to_keeps t i IsNew w a runs h = tt
  back_to_keeps t i Acting w a runs h = tt
  back_to_keeps t i (Begins n) w a runs h = tt
  back_to_keeps t i WaitsToEnter w a runs h = tt
  back_to_keeps t i (InLoop word) w a runs h = tt
  back_to_keeps t i (InBuiltin number words wait) w a runs h = tt
  back_to_keeps t i Exited w a runs h = tt

  pub back_keeps : (w : World) → ord.Holds w → Keeps ord (back_turn g w)
  unfolding back_turn
  back_keeps w h =
      given_keeps ord (acting w) _ (λ a e. given_keeps ord (func_of a.1.callee) _ (λ f i.
      back_to_keeps a.0 f.instance a.1.state w (acting_first w a e, (outline_of a.1, outline_there w.tasks a.0 a.1 (acting_is w a e), refl)) (acting_func w a f e i) h))
