-- How tasks enter, call, are told, go on and are cancelled keeps what each change keeps.
use Rattle.std.proofs.Common.{◌≡◌, ◌⊎◌, inl, inr, ℕ, Bool, true, false, List, [], ◌∷◌, length, refl, sym, ap, ◌∙◌, subst, Option, Some, None, Result, Ok, Err}
use Rattle.choices.specs.Drawing.{drawn, drawn_answer}
use Rattle.std.specs.Prelude.{IsSome, slice_index}
use Rattle.std.specs.List.{slice_get}
use Rattle.wasm_store.specs.Store.{found_at}
use Rattle.handle_table.specs.History.{next_index}
use Rattle.entry_gate.specs.Callbacks.{callback_of}
use Rattle.entry_gate.specs.declared.callback.BadCode.{BadCode}
use Rattle.entry_gate.specs.declared.callback.Next.{Next}
use Rattle.entry_gate.specs.declared.callback.Next.TheVariants as next
use Rattle.tasks.specs.declared.event.Asked.{Asked}
use Rattle.tasks.specs.declared.event.Asked.TheVariants.{Removed, ResumeNow, Pending}
use Rattle.tasks.specs.declared.phase.Cancellation.TheVariants as cancellation
use Rattle.tasks.specs.Tasks.{cancel_case, is_asked}
use Rattle.tasks.specs.Subtasks.{is_over}
use Rattle.tasks.specs.declared.subtask_state.SubtaskState.{SubtaskState}
use Rattle.wasm_store.specs.Step.{start}
use Rattle.comp_graph.specs.declared.graph.FuncRef.{FuncRef}
use Rattle.comp_graph.specs.Graph.{Graph, Lifted}
use Rattle.script_reader.specs.Script.{Script}
use Rattle.trace_labels.specs.declared.label.Label.TheVariants as line
use Rattle.trace_labels.specs.declared.label.BlockReason.TheVariants as reason
use Rattle.trace_labels.specs.declared.trap.TrapName.TheVariants as trap
use Rattle.abi_machine.specs.Control.{EndRef, Receiver, InWait, InCallback, EventCode, Free, Arrives, Back, Goes as GoesOn, Resumes, Delivers}
use Rattle.abi_machine.specs.World.{Entry, OwnHandle, BorrowHandle, OfSubtask, OfSet, OfEnd, Callee, Subtask, Caller, Nobody, Host, Guest, Wait, ForYield, ForSet, ForCall, ForCopy, ForCancel, TaskState, New as IsNew, Acting, AfterCall, AfterCancel, Begins, WaitsToEnter, InLoop, InBuiltin, Exited, Task, World, new_task}
use Rattle.abi_machine.specs.Edits.{with_control, chained, entry_added, in_state, with_cancellation, told, concluded}
use Rattle.abi_machine.specs.Canons.{func_address, memory_of, canon_at, options_of_canon, inst_of_canon, options_at, flag_at}
use Rattle.abi_machine.specs.Reading.{table_of, entry_at, acting, func_of, is_in, runs_in, task_at, subtask_of, kind_of, is_reentrant, may_leave}
use Rattle.abi_machine.specs.Counting.{task_view, has_resolved, subtask_state, state_of, payload_of, is_waited_for, ready}
use Rattle.abi_machine.specs.Gate.{is_entry_free, may_arrive}
use Rattle.abi_machine.specs.Choosing.{picks_of, chosen}
use Rattle.abi_machine.specs.Scheduling.{is_some_ready}
use Rattle.abi_machine.specs.Finding.{set_number, found_subtask, found_end}
use Rattle.abi_machine.specs.Turn.{Turn, replied, blocked}
use Rattle.abi_machine.specs.Entering.{with_arguments, arguments_passed, arguments_turn, entered, arriving_turn}
use Rattle.abi_machine.specs.Calling.{call_begun, called_by, Told, subtask_told, with_subtask_of, call_resolved, call_open, call_state, call_answer, back_from_call}
use Rattle.abi_machine.specs.Delivering.{number_of, event_line, event_put, callback_started, received, nothing_told, cancel_told, received_none, received_cancel, end_told, entry_delivered, member_delivered, members_turn, delivering_turn, is_to_be_told, yield_cancelled, told_payload, told_result, wait_resumed, set_polled, next_resumed, loop_resumed, resumed, resuming_turn}
use Rattle.abi_machine.specs.Cancelling.{asked_turn, cancelled_turn, first_of, cancel_open, back_from_cancel, back_to, back_turn}
use Rattle.abi_machine.specs.Copying.{blocked_word}
use Rattle.abi_machine.specs.sound.Changes.{Change, HasStore, AddsEntry, Calls, ComesBack, Acts, Cancels, IsRemoved, IsCancelled, IsTold, Concludes, after, IsGuest, HasFunc, IsBlocked}
use Rattle.abi_machine.specs.sound.Acting.{IsNew as IsNewOne, Outline, outline_of, outlines_of, WaitsWith, StandsBy, IsActing, IsCalling, OneActs, stacked_receiver}
use Rattle.abi_machine.proofs.sound.known.Lifting.{arguments_keep}
use Rattle.abi_machine.proofs.sound.Found.{some_same, guest_changed, func_changed, changed_there, acting_first, acting_is, acting_func}
use Rattle.abi_machine.proofs.sound.Able.{resumed_blocked, removed_waits}
use Rattle.abi_machine.proofs.sound.Outlines.{outline_there, Is, as_is, is_there, state_first, acting_waits}
use Rattle.abi_machine.proofs.sound.Standing.{steady, task_there, first_back, first_asks}
use Rattle.abi_machine.proofs.sound.acts.Keeping.{IsIn, acts_at, acts_by, new_acts, waits_stacked}
use Rattle.abi_machine.specs.sound.Owners.{owner_of_func, IsLiftedApart}
use Rattle.abi_machine.specs.sound.Firsts.{TaskIs}
use Rattle.abi_machine.specs.sound.Subtasks.{CallIs, IsUnawaited}
use Rattle.abi_machine.specs.sound.Events.{HasReceiver, IsReadyAt, EventComes}
use Rattle.abi_machine.proofs.sound.own.Belonging.{ref_starts, options_realloc, if_there, rewritten_on}
use Rattle.abi_machine.proofs.sound.own.Tasks.{after_cancel_own, store_own, IsOfFunc, mine_is, lifted_by, stack_own}
use Rattle.abi_machine.proofs.sound.known.Handles.{found_subtask_there}
use Rattle.abi_machine.proofs.sound.known.Unawaited.{standing_unawaited, still_unawaited, behind_call, behind_wait, behind_cancel, IsNewSubtask, new_subtask, CallsInside, new_inside}
use Rattle.abi_machine.proofs.sound.known.Picking.{answer_there}
use Rattle.abi_machine.proofs.sound.known.Asked.{TellsWell, CancelsWell, BlocksAsked}
use Rattle.abi_machine.proofs.sound.known.Asking.{equal_self, call_told, wait_told, open_told, cancelled_told, blocked_told, member_told, blocks_then}
use Rattle.abi_machine.proofs.sound.known.Copying.{NoneAwaits}
use Rattle.abi_machine.proofs.sound.known.Awaiting.{member_alone, found_there, again_alone}
use Rattle.abi_machine.proofs.sound.known.Ready.{ready_unwaited}
use Rattle.abi_machine.proofs.sound.known.Events.{asked_comes, ready_found, first_ready, member_comes, GoesOnFrom, loop_has, loop_ready, set_ready}
use Rattle.abi_machine.proofs.sound.known.Keeping.{WaitsElse, WaitsForNone, acting_waits_else, state_waits_else, called_waits_else, Known, Comings, CallsItsOwn, Walk, Keeps, Held, still, given_keeps, behind_keeps, either_keeps, goes, unless_keeps, chosen_keeps, on_keeps, blocked_keeps, waited_keeps, entry_keeps, acting_stack_keeps, removes, waits, lends, came_keeps}

module _ {g : Graph} {s : Script} (walk : Walk g s) where
  -- the acting task acts again
  acts_again : (b : Bool) (t : ℕ) (w : World) → WaitsForNone t w → Is (WaitsWith b) t w → walk.Holds w → Held walk b t (in_state t Acting w)
  acts_again b t w none a h = (walk.stays (Acts t) w a.0 (λ joins. none) (λ apart. tt) h, state_first (IsActing b) (WaitsWith b) w t Acting (λ o k. (k.0, refl, k.1)) a)

  -- Tasks enter.

  called_keeps : (t : ℕ) (f : Lifted) (caller : Caller) (w : World) → (walk.Apart → IsLiftedApart g (Some f)) → Held walk false t w → Keeps walk (arguments_turn g t f caller w)
  unfolding arguments_turn with_arguments arguments_passed
  called_keeps t f Nobody w lifted h = tt
  called_keeps t f (Host call values) w lifted h = (goes walk _ w h.0, (λ apart. options_realloc g w.store f.instance f.options (walk.own apart w h.0).canons (walk.own apart w h.0).owned (lifted apart).1), ((t, h.1), (h.1.0, tt)))
  called_keeps t f (Guest subtask) w lifted h =
      given_keeps walk (canon_at g subtask.canon) _ (λ c e.
      came_keeps walk false t (arguments_passed t f subtask c w) (λ v later. with_arguments g t f v later)
      (arguments_keep (Held walk false t) (removes walk false t) (waits walk false t) (lends walk false t) (inst_of_canon c) t (options_of_canon c).is_async f.func_type _ subtask.words w h)
      (λ v later i. (goes walk _ later i.0, (λ apart. options_realloc g later.store f.instance f.options (walk.own apart later i.0).canons (walk.own apart later i.0).owned (lifted apart).1), ((t, i.1), (i.1.0, tt)))))

  entered_keeps : (t : ℕ) (task : Task) (f : Lifted) (w : World) → (walk.Apart → IsLiftedApart g (Some f)) → WaitsForNone t w → Is (WaitsWith false) t w → walk.Holds w → Keeps walk (entered g t task f w)
  unfolding entered
  entered_keeps t task f w lifted none a h =
      behind_keeps walk (line.Enter t ∷ []) (arguments_turn g t f task.caller (in_state t Acting w)) (called_keeps t f task.caller (in_state t Acting w) lifted (acts_again false t w none a h))

  -- what stands by its state
  stands_so : (t : ℕ) (task : Task) (w : World) → Is (λ o. o ≡ outline_of task) t w → walk.Holds w → StandsBy task.state (outline_of task)
  stands_so t task w a h = walk.stacked w h t (outline_of task) (subst (λ (o : Outline). slice_get (outlines_of w.tasks) t ≡ Some o) a.1.2 a.1.1)

  -- what is known of the task that is looked up
  acts_so : (w : World) (a : ℕ × Task) → acting w ≡ Some a → walk.Holds w → Is (StandsBy a.1.state) a.0 w
  acts_so w a e h = (let k : Is (λ o. o ≡ outline_of a.1) a.0 w = acts_by w a e in (k.0, (outline_of a.1, outline_there w.tasks a.0 a.1 (acting_is w a e), stands_so a.0 a.1 w k h)))

  pub arriving_keeps : (w : World) → walk.Holds w → OneActs IsNewOne (outlines_of w.tasks) w.chain → Keeps walk (arriving_turn g w)
  unfolding arriving_turn
  arriving_keeps w h o =
      given_keeps walk (acting w) _ (λ a e. given_keeps walk (func_of a.1.callee) _ (λ f i.
      let n : Is IsNewOne a.0 w = acts_at IsNewOne w a e o in
      let none : WaitsForNone a.0 w = as_is IsNewOne (λ x. WaitsElse x.state) a.0 w (λ x j. subst WaitsElse (sym j) tt) n in
      let k : Is (WaitsWith false) a.0 w = (n.0, (n.1.0, n.1.1, subst (λ (state : TaskState). StandsBy state n.1.0) n.1.2 (walk.stacked w h a.0 n.1.0 n.1.1))) in
      either_keeps walk (may_arrive w f.instance a.1) (entered g a.0 a.1 f w) (blocked a.0 WaitsToEnter reason.Entry w) (λ j. entered_keeps a.0 a.1 f w (λ apart. lifted_by g w a.0 f (walk.own apart w h) (mine_is w a f e i)) none k h)
      (λ j. blocked_keeps walk a.0 WaitsToEnter reason.Entry w (acting_first w a e) tt (inr (acting_func w a f e i)) tt (λ asks. tt) (λ copies. tt) (λ apart. tt) none tt k h)))

  -- Tasks call and are told.

  pub call_keeps : (t number : ℕ) (words : List ℕ) (callee : Callee) (f : Lifted) (passed : List ℕ) (w : World) → func_of callee ≡ Some f → IsSome (canon_at g number) → may_leave w ≡ true
      → (walk.Apart → IsLiftedApart g (func_of callee) × CallsItsOwn g number t w) → Held walk true t w → Keeps walk (call_begun t number words callee f passed w)
  unfolding call_begun
  call_keeps t number words callee f passed w runs known free own h =
      unless_keeps walk t (is_reentrant w f.instance t) trap.Reentrant w _ (h.0, h.1.0) (λ e.
      let c : Change = Calls number callee (called_by t number passed) words in (
        goes walk Arrives (after c w) (walk.stays c w (subst (λ (o : Option Lifted). IsSome o) (sym runs) refl, is_there (IsActing true) t w h.1, h.1.0, free) (refl, as_is (IsActing true) (WaitsWith true) t w (acting_waits true) h.1, known, refl, (λ l k. subst (λ (x : Lifted). is_reentrant w x.instance t ≡ false) (some_same (sym runs ∙ k)) e), acting_waits_else true t w h.1) own h.0),
        tt,
        new_acts (in_state t (AfterCall (length w.tasks) number words) w).tasks w.chain (new_task callee (Guest (called_by t number passed)) IsNew) refl,
      ))

  subtask_keeps : (b : Bool) (t i callee : ℕ) (task : Task) (subtask : Subtask) (w : World) → (walk.Given → IsUnawaited w.tasks callee) → (walk.Asks → TellsWell w callee (subtask_state task)) → Held walk b t w
      → Held walk b t (subtask_told i callee task subtask w).world
  subtask_keeps b t i callee task subtask w alone well h = still walk b t (IsTold callee (subtask_state task)) w tt (alone, well) (λ apart. tt) tt h

  pub with_keeps : (w : World) (callee : ℕ) (more : Task → Subtask → Turn) → ((task : Task) (subtask : Subtask) → task_at w callee ≡ Some task → subtask_of task.caller ≡ Some subtask → Keeps walk (more task subtask))
      → Keeps walk (with_subtask_of w callee more)
  with_keeps w callee more h = given_keeps walk (task_at w callee) _ (λ task e. given_keeps walk (subtask_of task.caller) _ (λ subtask i. h task subtask e i))

  -- a task is back from a call
  open_keeps : (t i callee : ℕ) (task : Task) (is_async : Bool) (number : ℕ) (words : List ℕ) (w : World) → (options_at g number).is_async ≡ is_async → Known walk w → IsGuest (in_state t Acting w).tasks callee
      → has_resolved task ≡ false → HasFunc w.tasks t → TaskIs w.tasks t (λ x. runs_in i x ≡ true) → Is (IsIn (AfterCall callee number words)) t w → walk.Holds w → Held walk true t (in_state t Acting w) → Keeps walk (call_open t i callee task is_async number words (in_state t Acting w))
  unfolding call_open
  open_keeps t i callee task true number words w async facts guest unresolved runs inside a h k =
      let v : World = in_state t Acting w in
      let new : walk.Given → IsNewSubtask g v callee = λ given. new_subtask g w t callee number words (facts.0 given).called (facts.0 given).subtasks a async in
      let here : walk.Given → CallIs v.tasks callee (CallsInside v.tasks i) = λ given. new_inside w t i callee number words (facts.0 given).called inside a in
      entry_keeps walk t i (OfSubtask callee) v (λ index u. replied t (call_state task index ∷ []) (told callee (subtask_state task) u)) (k.0, k.1.0) (λ few.
      on_keeps walk t (call_state task (next_index (table_of v i)) ∷ []) (told callee (subtask_state task) (entry_added i (OfSubtask callee) v))
      (still walk true t (IsTold callee (subtask_state task)) (entry_added i (OfSubtask callee) v) tt ((λ given. (new given).1), (λ asks. inr (unresolved, open_told g w t callee number words (facts.1 asks).subtasks a))) (λ apart. tt) tt
      (still walk true t (AddsEntry i (OfSubtask callee)) v (few, guest) (λ given. ((new given).0, (new given).1, (new given).2, here given)) (λ apart. tt) tt k)))
  open_keeps t i callee task false number words w sync facts guest unresolved runs inside a h k = waited_keeps walk t callee number words (reason.Call callee) w a sync runs h

  back_call_keeps : (t i callee number : ℕ) (words : List ℕ) (w : World) → Known walk w → HasFunc w.tasks t → TaskIs w.tasks t (λ x. runs_in i x ≡ true) → Is (IsIn (AfterCall callee number words)) t w → walk.Holds w
      → Keeps walk (back_from_call g t i callee number words w)
  unfolding back_from_call call_resolved
  back_call_keeps t i callee number words w facts runs inside a h =
      let k : Held walk true t (in_state t Acting w) = acts_again true t w (called_waits_else w t callee number words a) (waits_stacked w t callee number words a (walk.stacked w h)) h in
      with_keeps w callee _ (λ task subtask there guest.
      either_keeps walk (has_resolved task) _ _
      (λ e. on_keeps walk t (call_answer (options_at g number).is_async subtask.result) (told callee (subtask_state task) (in_state t Acting w))
      (subtask_keeps true t i callee task subtask (in_state t Acting w) (λ given. behind_call g w t callee number words (facts.0 given).called a)
      (λ asks. call_told g w t callee number words (subtask_state task) (facts.1 asks).subtasks a) k))
      (λ e. open_keeps t i callee task (options_at g number).is_async number words w refl facts
      (guest_changed w.tasks t callee (λ task. record task { state = Acting }) (λ x k. k) (task, there, subst (λ (o : Option Subtask). IsSome o) (sym guest) refl)) e runs inside a h k))

  -- Events are delivered.

  put_keeps : (t number place index payload : ℕ) (w : World) → Held walk true t w → Held walk true t (event_put g number place index payload w)
  put_keeps t number place index payload w h =
      still walk true t (HasStore _) w tt tt (λ apart. store_own g w _ (rewritten_on (found_at w.store.memories (memory_of w.store (options_at g number))) _ w.store) (walk.own apart w h.0)) tt h

  callback_keeps : (t : ℕ) (f : Lifted) (code : EventCode) (index payload : ℕ) (w : World) → Is (IsOfFunc f) t w → Held walk false t w → Keeps walk (callback_started t f code index payload w)
  unfolding callback_started
  callback_keeps t f code index payload w mine h =
      let words : List ℕ = number_of code ∷ index ∷ payload ∷ [] in
      given_keeps walk f.options.callback _ (λ ref e. given_keeps walk (found_at w.store.funcs (func_address w.store ref)) _ (λ function i.
      acting_stack_keeps walk false t (start function.1 function.0 words) w
      (λ apart.
      stack_own g w t f (start function.1 function.0 words)
      (ref_starts g w.store f.instance ref function words (walk.own apart w h.0).canons (walk.own apart w h.0).owned
      (if_there (λ (x : FuncRef). owner_of_func g x ≡ Some f.instance) f.options.callback ref e (lifted_by g w t f (walk.own apart w h.0) mine).1.callback) i) mine) h))

  received_keeps : (t : ℕ) (f : Lifted) (receiver : Receiver) (code : EventCode) (index : ℕ) (news : Told) → Is (IsOfFunc f) t news.world → Held walk (stacked_receiver receiver) t news.world → Keeps walk (received g t f receiver code index news)
  unfolding received
  received_keeps t f (InWait number words) code index news mine h =
      on_keeps walk t (number_of code ∷ []) (event_put g number (slice_index words 1) index news.payload news.world) (put_keeps t number (slice_index words 1) index news.payload news.world h)
  received_keeps t f InCallback code index news mine h =
      behind_keeps walk (event_line t code index news.payload ∷ news.lines) (callback_started t f code index news.payload news.world) (callback_keeps t f code index news.payload news.world mine h)

  pub none_keeps : (t : ℕ) (f : Lifted) (receiver : Receiver) (w : World) → Is (IsOfFunc f) t w → Held walk (stacked_receiver receiver) t w → Keeps walk (received_none g t f receiver w)
  unfolding received_none
  none_keeps t f receiver w mine h = received_keeps t f receiver _ 0 (nothing_told w) mine h

  pub cancel_keeps : (t : ℕ) (f : Lifted) (receiver : Receiver) (w : World) → Is (IsOfFunc f) t w → Held walk (stacked_receiver receiver) t w → Keeps walk (received_cancel g t f receiver w)
  unfolding received_cancel
  cancel_keeps t f receiver w mine h = received_keeps t f receiver _ 0 (cancel_told t w) (steady (IsOfFunc f) t (IsCancelled t cancellation.Delivered) w tt mine) (still walk (stacked_receiver receiver) t (IsCancelled t cancellation.Delivered) w tt refl (λ apart. tt) tt h)

  end_told_keeps : (b : Bool) (t : ℕ) (e : EndRef) (w : World) → (walk.Copies → NoneAwaits w e) → Held walk b t w → Held walk b t (end_told e w).world
  end_told_keeps b t e w alone h = still walk b t (Concludes e) w tt alone (λ apart. tt) tt h

  delivered_keeps : (t : ℕ) (f : Lifted) (receiver : Receiver) (index : ℕ) (entry : Option Entry) (w : World) → entry_at w f.instance index ≡ entry → is_waited_for w f.instance index ≡ false → Known walk w → Is (IsOfFunc f) t w → Held walk (stacked_receiver receiver) t w
      → Keeps walk (entry_delivered g t f receiver index entry w)
  unfolding entry_delivered
  delivered_keeps t f receiver index None w at unwaited facts mine h = tt
  delivered_keeps t f receiver index (Some (OfSubtask callee)) w at unwaited facts mine h =
      with_keeps w callee _ (λ task subtask there guest. received_keeps t f receiver _ index _ (steady (IsOfFunc f) t (IsTold callee (subtask_state task)) w tt mine)
      (subtask_keeps (stacked_receiver receiver) t f.instance callee task subtask w (λ given. standing_unawaited g w f.instance index callee (facts.0 given).subtasks at)
      (λ asks. member_told g w f.instance index callee task subtask (facts.1 asks) at unwaited there guest) h))
  delivered_keeps t f receiver index (Some (OfEnd e)) w at unwaited facts mine h = received_keeps t f receiver _ index (end_told e w) (steady (IsOfFunc f) t (Concludes e) w tt mine) (end_told_keeps (stacked_receiver receiver) t e w (λ copies. member_alone g w f.instance index e (facts.2 copies) at unwaited) h)
  delivered_keeps t f receiver index (Some (OwnHandle resource rep)) w at unwaited facts mine h = tt
  delivered_keeps t f receiver index (Some (BorrowHandle resource rep task)) w at unwaited facts mine h = tt
  delivered_keeps t f receiver index (Some (OfSet set)) w at unwaited facts mine h = tt

  member_keeps : (t : ℕ) (f : Lifted) (receiver : Receiver) (member : Option ℕ) (w : World) → ((index : ℕ) → member ≡ Some index → is_waited_for w f.instance index ≡ false) → Known walk w → Is (IsOfFunc f) t w → Held walk (stacked_receiver receiver) t w → Keeps walk (member_delivered g t f receiver member w)
  unfolding member_delivered
  member_keeps t f receiver member w unwaited facts mine h = given_keeps walk member _ (λ index e. delivered_keeps t f receiver index (entry_at w f.instance index) w refl (unwaited index e) facts mine h)

  -- a member of those that are ready is not waited for
  member_unwaited : (f : Lifted) (set place : ℕ) (members : List ℕ) (w : World) → members ≡ ready w f.instance set → (index : ℕ) → slice_get members place ≡ Some index → is_waited_for w f.instance index ≡ false
  member_unwaited f set place members w same index e = ready_unwaited w f.instance set place index (subst (λ (l : List ℕ). slice_get l place ≡ Some index) same e)

  -- one of several members is picked
  several_keep : (t : ℕ) (f : Lifted) (set : ℕ) (receiver : Receiver) (index other : ℕ) (members : List ℕ) (w : World) → index ∷ other ∷ members ≡ ready w f.instance set → (walk.Event → HasReceiver receiver f)
      → Is (IsOfFunc f) t w → Held walk (stacked_receiver receiver) t w → Keeps walk (chosen s (length (index ∷ other ∷ members)) (λ k. Delivers set receiver (Some k)) w)
  several_keep t f set receiver index other members w same has mine h =
      let count : ℕ = length (index ∷ other ∷ members) in
      let answer : ℕ = drawn_answer count (picks_of s w) in
      let there : IsReadyAt (Some answer) (ready w f.instance set) = subst (λ (l : List ℕ). IsSome (slice_get l answer)) same (answer_there index (other ∷ members) (picks_of s w)) in
      chosen_keeps walk count (λ k. Delivers set receiver (Some k)) w (λ k. (t, h.1)) (λ event. member_comes g w t f set receiver (Some answer) (drawn count (picks_of s w)).used mine there (has event)) h.0

  members_keep : (t : ℕ) (f : Lifted) (set : ℕ) (receiver : Receiver) (pick : Option ℕ) (members : List ℕ) (w : World) → members ≡ ready w f.instance set → (walk.Event → HasReceiver receiver f) → Known walk w → Is (IsOfFunc f) t w
      → Held walk (stacked_receiver receiver) t w → Keeps walk (members_turn g s t f set receiver pick members w)
  unfolding members_turn
  members_keep t f set receiver None [] w same has facts mine h = member_keeps t f receiver _ w (member_unwaited f set 0 [] w same) facts mine h
  members_keep t f set receiver None (index ∷ []) w same has facts mine h = member_keeps t f receiver _ w (member_unwaited f set 0 (index ∷ []) w same) facts mine h
  members_keep t f set receiver None (index ∷ other ∷ members) w same has facts mine h = several_keep t f set receiver index other members w same has mine h
  members_keep t f set receiver (Some k) members w same has facts mine h = member_keeps t f receiver _ w (member_unwaited f set k members w same) facts mine h

  pub delivering_keeps : (set : ℕ) (receiver : Receiver) (pick : Option ℕ) (w : World) → Known walk w → (walk.Event → Comings g (Delivers set receiver pick) w) → walk.Holds w
      → OneActs (IsActing (stacked_receiver receiver)) (outlines_of w.tasks) w.chain → Keeps walk (delivering_turn g s set receiver pick w)
  unfolding delivering_turn
  delivering_keeps set receiver pick w facts comings h o =
      given_keeps walk (acting w) _ (λ a e. given_keeps walk (func_of a.1.callee) _ (λ f i.
      members_keep a.0 f set receiver pick (ready w f.instance set) w refl (λ event. ((comings event).0 a.0 a.1 f (acting_first w a e) (acting_is w a e) i).1) facts (mine_is w a f e i)
      (h, acts_at (IsActing (stacked_receiver receiver)) w a e o)))

  -- Blocked tasks go on.

  pub yielded_keeps : (t : ℕ) (w : World) → Held walk true t w → Keeps walk (yield_cancelled t w)
  unfolding yield_cancelled
  yielded_keeps t w h = on_keeps walk t (1 ∷ []) (cancel_told t w).world (still walk true t (IsCancelled t cancellation.Delivered) w tt refl (λ apart. tt) tt h)

  -- for which no task waits any more
  abbrev AreUnawaited : Wait → World → Type 0
  AreUnawaited wait w = (callee : ℕ) → (wait ≡ ForCall callee) ⊎ ((i : ℕ) × (index : ℕ) × (entry_at w i index ≡ Some (OfSubtask callee))) → walk.Given → IsUnawaited w.tasks callee

  -- so that they are told of it well
  abbrev AreToldWell : Lifted → Wait → World → Type 0
  AreToldWell f wait w =
      (callee : ℕ) (state : SubtaskState) → (wait ≡ ForCall callee) ⊎ ((index : ℕ) × (wait ≡ ForCancel index) × (entry_at w f.instance index ≡ Some (OfSubtask callee))) → walk.Asks → TellsWell w callee state

  -- a member of the set is ready that a task waited on in a canonical function, where it is not told that its cancellation is asked
  abbrev IsReadyFor : Lifted → Bool → Wait → World → Type 0
  IsReadyFor f is_cancelled wait w = (index : ℕ) → is_cancelled ≡ false → wait ≡ ForSet index → is_some_ready w f.instance index ≡ true

  wait_keeps : (t : ℕ) (f : Lifted) (is_cancelled : Bool) (number : ℕ) (words : List ℕ) (wait : Wait) (w : World) → (walk.Event → IsReadyFor f is_cancelled wait w) → AreUnawaited wait w → AreToldWell f wait w → WaitsElse (InBuiltin number words wait) → Is (IsOfFunc f) t w → Held walk true t w
      → Keeps walk (wait_resumed g t f is_cancelled number words wait w)
  unfolding wait_resumed told_payload told_result
  wait_keeps t f is_cancelled number words ForYield w some alone well none mine h = either_keeps walk is_cancelled _ _ (λ e. yielded_keeps t w h) (λ e. on_keeps walk t (0 ∷ []) w h)
  wait_keeps t f is_cancelled number words (ForSet index) w some alone well none mine h =
      either_keeps walk is_cancelled _ _ (λ e. cancel_keeps t f (InWait number words) w mine h)
      (λ e. given_keeps walk (set_number w f.instance index) _ (λ set i. (goes walk _ w h.0, (λ event. member_comes g w t f set (InWait number words) None w.picks mine (ready_found w f.instance index set i (some event index e refl)) tt), (t, h.1))))
  wait_keeps t f is_cancelled number words (ForCall callee) w some alone well none mine h =
      with_keeps w callee _ (λ task subtask there guest. on_keeps walk t subtask.result (told callee (subtask_state task) w) (subtask_keeps true t f.instance callee task subtask w (alone callee (inl refl)) (well callee (subtask_state task) (inl refl)) h))
  wait_keeps t f is_cancelled number words (ForCancel index) w some alone well none mine h =
      given_keeps walk (found_subtask w f.instance index) _ (λ callee e.
      with_keeps w callee _ (λ task subtask there guest.
      on_keeps walk t (state_of task ∷ []) (told callee (subtask_state task) w)
      (subtask_keeps true t f.instance callee task subtask w (alone callee (inr (f.instance, index, found_subtask_there w f.instance index callee e)))
      (well callee (subtask_state task) (inr (index, refl, found_subtask_there w f.instance index callee e))) h)))
  wait_keeps t f is_cancelled number words (ForCopy index) w some alone well none mine h = absurd none

  polled_keeps : (t : ℕ) (f : Lifted) (set : ℕ) (members : List ℕ) (w : World) → members ≡ ready w f.instance set → (walk.Event → HasReceiver InCallback f) → Is (IsOfFunc f) t w → Held walk false t w → Keeps walk (set_polled g t f set members w)
  unfolding set_polled
  polled_keeps t f set [] w same has mine h = none_keeps t f InCallback w mine h
  polled_keeps t f set (index ∷ members) w same has mine h =
      (goes walk _ w h.0, (λ event. member_comes g w t f set InCallback None w.picks mine (first_ready w f.instance set index members same) (has event)), (t, h.1))

  -- the same of a task that waited on one in its loop
  abbrev IsReadyNext : Lifted → Result Next BadCode → World → Type 0
  IsReadyNext f r w = (index : ℕ) → r ≡ Ok (next.Wait index) → is_some_ready w f.instance index ≡ true

  loop_keeps : (t : ℕ) (f : Lifted) (r : Result Next BadCode) (w : World) → (walk.Event → IsReadyNext f r w) → (walk.Event → HasReceiver InCallback f) → Is (IsOfFunc f) t w → Held walk false t w → Keeps walk (next_resumed g t f r w)
  unfolding next_resumed
  loop_keeps t f (Ok next.Exit) w some has mine h = tt
  loop_keeps t f (Ok next.Yield) w some has mine h = none_keeps t f InCallback w mine h
  loop_keeps t f (Ok (next.Wait index)) w some has mine h =
      given_keeps walk (set_number w f.instance index) _ (λ set e. (goes walk _ w h.0, (λ event. member_comes g w t f set InCallback None w.picks mine (ready_found w f.instance index set e (some event index refl)) (has event)), (t, h.1)))
  loop_keeps t f (Ok (next.Poll index)) w some has mine h =
      given_keeps walk (set_number w f.instance index) _ (λ set e. polled_keeps t f set (ready w f.instance set) w refl has mine h)
  loop_keeps t f (Err why) w some has mine h = tt

  -- what a task that goes on waited for
  unawaited_again : (t number : ℕ) (words : List ℕ) (wait : Wait) (w : World) → Known walk w → Is (IsIn (InBuiltin number words wait)) t w → AreUnawaited wait (in_state t Acting w)
  unawaited_again t number words wait w facts a callee (inl same) given =
      behind_wait g w t callee number words (facts.0 given).called (subst (λ (x : Wait). Is (IsIn (InBuiltin number words x)) t w) same a)
  unawaited_again t number words wait w facts a callee (inr at) given =
      still_unawaited w.tasks t callee (standing_unawaited g w at.0 at.1 callee (facts.0 given).subtasks at.2)

  told_again : (t number : ℕ) (words : List ℕ) (f : Lifted) (wait : Wait) (w : World) → Known walk w → Is (IsIn (InBuiltin number words wait)) t w → Is (IsOfFunc f) t w → AreToldWell f wait (in_state t Acting w)
  told_again t number words f wait w facts a mine callee state (inl same) asks =
      wait_told g w t callee number words state (facts.1 asks).subtasks (subst (λ (x : Wait). Is (IsIn (InBuiltin number words x)) t w) same a)
  told_again t number words f wait w facts a mine callee state (inr at) asks =
      blocked_told w t at.0 callee number words f state (facts.1 asks).cancels (subst (λ (x : Wait). Is (IsIn (InBuiltin number words x)) t w) at.1 a) mine at.2

  waited_again : (t : ℕ) (task : Task) (f : Lifted) (number : ℕ) (words : List ℕ) (wait : Wait) (w : World) → WaitsElse (InBuiltin number words wait) → Known walk w → (walk.Event → GoesOnFrom g w t task f (InBuiltin number words wait))
      → Is (IsOfFunc f) t w → Is (IsIn (InBuiltin number words wait)) t w → Is (WaitsWith true) t w → walk.Holds w
      → Keeps walk (wait_resumed g t f (is_to_be_told g number wait task w f.instance) number words wait (in_state t Acting w))
  waited_again t task f number words wait w none facts cause mine c a h =
      wait_keeps t f (is_to_be_told g number wait task w f.instance) number words wait (in_state t Acting w) (λ event index untold same. set_ready g w t task f number words wait index (cause event) untold same)
      (unawaited_again t number words wait w facts c) (told_again t number words f wait w facts c mine) none (state_first (IsOfFunc f) (IsOfFunc f) w t Acting (λ o k. k) mine)
      (acts_again true t w (state_waits_else (InBuiltin number words wait) t w none c) a h)

  -- The copy is told for which it waited, and no other task waits for it.
  copied_again : (t : ℕ) (f : Lifted) (is_cancelled : Bool) (number : ℕ) (words : List ℕ) (index : ℕ) (w : World) → Known walk w → Is (IsOfFunc f) t w → Is (IsIn (InBuiltin number words (ForCopy index))) t w → Is (WaitsWith true) t w
      → walk.Holds w → Keeps walk (wait_resumed g t f is_cancelled number words (ForCopy index) (in_state t Acting w))
  unfolding wait_resumed told_payload
  copied_again t f is_cancelled number words index w facts mine c a h =
      let v : World = in_state t Acting w in
      given_keeps walk (found_end v f.instance index) _ (λ e i.
      on_keeps walk t (payload_of v e ∷ []) (concluded e v) (
        walk.wakes t number index words f e w c mine (found_there v f.instance index e i) (λ copies. again_alone g w t number words index f e (facts.2 copies) c mine i) h,
        steady (IsActing true) t (Concludes e) v tt (state_first (IsActing true) (WaitsWith true) w t Acting (λ o k. (k.0, refl, k.1)) a),
      ))

  resumed_keeps : (t : ℕ) (task : Task) (f : Lifted) (state : TaskState) (w : World) → Known walk w → (walk.Event → GoesOnFrom g w t task f state) → Is (IsOfFunc f) t w → Is (IsIn state) t w → Is (StandsBy state) t w → walk.Holds w
      → Keeps walk (resumed g t task f state w)
  unfolding resumed loop_resumed
  resumed_keeps t task f WaitsToEnter w facts cause mine c a h = entered_keeps t task f w (λ apart. lifted_by g w t f (walk.own apart w h) mine) (state_waits_else WaitsToEnter t w tt c) a h
  resumed_keeps t task f (InLoop word) w facts cause mine c a h =
      let i : Held walk false t (in_state t Acting w) = acts_again false t w (state_waits_else (InLoop word) t w tt c) a h in
      let now : Is (IsOfFunc f) t (in_state t Acting w) = state_first (IsOfFunc f) (IsOfFunc f) w t Acting (λ o k. k) mine in
      either_keeps walk (is_asked task.cancellation) _ _ (λ e. cancel_keeps t f InCallback (in_state t Acting w) now i)
      (λ e. loop_keeps t f (callback_of word) (in_state t Acting w) (λ event index says. loop_ready g w t task f word index (cause event) e says) (λ event. loop_has g w t task f word (cause event)) now i)
  resumed_keeps t task f (InBuiltin number words ForYield) w facts cause mine c a h = waited_again t task f number words ForYield w tt facts cause mine c a h
  resumed_keeps t task f (InBuiltin number words (ForSet index)) w facts cause mine c a h = waited_again t task f number words (ForSet index) w tt facts cause mine c a h
  resumed_keeps t task f (InBuiltin number words (ForCall callee)) w facts cause mine c a h = waited_again t task f number words (ForCall callee) w tt facts cause mine c a h
  resumed_keeps t task f (InBuiltin number words (ForCancel index)) w facts cause mine c a h = waited_again t task f number words (ForCancel index) w tt facts cause mine c a h
  resumed_keeps t task f (InBuiltin number words (ForCopy index)) w facts cause mine c a h =
      copied_again t f (is_to_be_told g number (ForCopy index) task w f.instance) number words index w facts mine c a h
  resumed_keeps t task f IsNew w facts cause mine c a h = tt
  resumed_keeps t task f Acting w facts cause mine c a h = tt
  resumed_keeps t task f (AfterCall callee number words) w facts cause mine c a h = tt
  resumed_keeps t task f (AfterCancel callee number words) w facts cause mine c a h = tt
  resumed_keeps t task f (Begins n) w facts cause mine c a h = tt
  resumed_keeps t task f Exited w facts cause mine c a h = tt

  -- what is known of the task that goes on
  from_state : (w : World) (a : ℕ × Task) (f : Lifted) → acting w ≡ Some a → func_of a.1.callee ≡ Some f → Comings g Resumes w → GoesOnFrom g w a.0 a.1 f a.1.state
  from_state w a f e i comings =
      record { there = acting_is w a e; is = refl; runs = i; cause = comings.0 a.0 a.1 f (acting_first w a e) (acting_is w a e) i; waits = comings.1 a.0 a.1 (acting_is w a e) }

  pub resuming_keeps : (w : World) → Known walk w → (walk.Event → Comings g Resumes w) → walk.Holds w → Keeps walk (resuming_turn g w)
  unfolding resuming_turn
  resuming_keeps w facts comings h =
      given_keeps walk (acting w) _ (λ a e. given_keeps walk (func_of a.1.callee) _ (λ f i.
      resumed_keeps a.0 a.1 f a.1.state w facts (λ event. from_state w a f e i (comings event)) (mine_is w a f e i) (acting_first w a e, (outline_of a.1, outline_there w.tasks a.0 a.1 (acting_is w a e), refl)) (acts_so w a e h) h))

  -- Cancellation: where no task runs, and by the acting task.

  idle_asked_keeps : (t : ℕ) (task : Task) (asked : Asked) (w : World) → slice_get w.tasks t ≡ Some task → IsSome (func_of task.callee) → (asked ≡ Removed → task.state ≡ WaitsToEnter) → (asked ≡ ResumeNow → IsBlocked task.state)
      → (asked ≡ ResumeNow → EventComes g GoesOn (with_control Free (chained t (with_cancellation t cancellation.Asked w)))) → w.chain ≡ [] → walk.Holds w → Keeps walk (asked_turn t asked Free w)
  unfolding asked_turn
  idle_asked_keeps t task Removed w there runs waits blocked comes idle h = (goes walk Free (after (IsRemoved t) w) (walk.removed t w task there runs (waits refl) idle h), tt, idle)
  idle_asked_keeps t task ResumeNow w there runs waits blocked comes idle h =
      let f : Task → Task = λ x. record x { cancellation = cancellation.Asked } in
      let v : World = with_cancellation t cancellation.Asked w in
      let now : slice_get v.tasks t ≡ Some (f task) = changed_there t f w.tasks task there in (
        goes walk GoesOn (after (ComesBack t) v) (walk.comes t v (f task) now runs (blocked refl) idle (walk.stays (IsCancelled t cancellation.Asked) w tt refl (λ apart. tt) h)),
        (λ event. comes refl),
        (t, (refl, (outline_of (f task), outline_there v.tasks t (f task) now, blocked refl))),
      )
  idle_asked_keeps t task Pending w there runs waits blocked comes idle h = (goes walk Free (with_cancellation t cancellation.Asked w) (walk.stays (IsCancelled t cancellation.Asked) w tt refl (λ apart. tt) h), tt, idle)

  pub idle_cancelled_keeps : (t : ℕ) (task : Task) (w : World) → slice_get w.tasks t ≡ Some task → w.chain ≡ [] → walk.Holds w → Keeps walk (cancelled_turn g t task Free w)
  unfolding cancelled_turn
  idle_cancelled_keeps t task w there idle h =
      given_keeps walk (func_of task.callee) _ (λ f e. idle_asked_keeps t task (cancel_case (is_entry_free w f.instance) (task_view g w t task)) w there (subst (λ (o : Option Lifted). IsSome o) (sym e) refl)
      (λ i. removed_waits (is_entry_free w f.instance) (kind_of task) (flag_at g) task.state i) (λ i. resumed_blocked (is_entry_free w f.instance) (kind_of task) (flag_at g) task.state i)
      (λ i. asked_comes g w t task (is_entry_free w f.instance) there i) idle h)

  acting_asked_keeps : (t callee number : ℕ) (words : List ℕ) (task : Task) (asked : Asked) (w : World) → may_leave w ≡ true → slice_get w.tasks callee ≡ Some task → IsSome (func_of task.callee)
      → (asked ≡ Removed → task.state ≡ WaitsToEnter) → (asked ≡ ResumeNow → IsBlocked task.state)
      → (asked ≡ ResumeNow → EventComes g GoesOn (with_control Free (chained callee (with_cancellation callee cancellation.Asked (in_state t (AfterCancel callee number words) w))))) → (walk.Given → IsUnawaited w.tasks callee) → (walk.Asks → CancelsWell w t callee words) → (walk.Apart → CallsItsOwn g number t w) → Held walk true t w → Keeps walk (asked_turn callee asked Back (in_state t (AfterCancel callee number words) w))
  unfolding asked_turn
  acting_asked_keeps t callee number words task Removed w free there runs waits blocked comes alone well calls h =
      let is : IsBlocked task.state = subst IsBlocked (sym (waits refl)) tt in (
        goes walk Back (after (IsRemoved callee) (after (Cancels t callee number words) w)) (walk.removed_asked t callee number words w task h.1 free there runs (waits refl) alone well calls h.0),
        tt,
        (t, first_asks t callee number words w task h.1 there is (walk.chained w h.0)),
      )
  acting_asked_keeps t callee number words task ResumeNow w free there runs waits blocked comes alone well calls h = (
    goes walk GoesOn (after (ComesBack callee) (after (IsCancelled callee cancellation.Asked) (after (Cancels t callee number words) w))) (walk.comes_asked t callee number words w task h.1 free there runs (blocked refl) alone well calls h.0),
    (λ event. comes refl),
    (callee, first_back t callee number words w task h.1 there (blocked refl) (walk.chained w h.0)),
  )
  acting_asked_keeps t callee number words task Pending w free there runs waits blocked comes alone well calls h =
      let v : World = in_state t (AfterCancel callee number words) w in (
        goes walk Back (with_cancellation callee cancellation.Asked v) (walk.pending_asked t callee number words w task h.1 free there alone well calls h.0),
        tt,
        (t, steady IsCalling t (IsCancelled callee cancellation.Asked) v tt (state_first IsCalling (IsActing true) w t (AfterCancel callee number words) (λ o k. tt) h.1)),
      )

  pub acting_cancelled_keeps : (t callee number : ℕ) (words : List ℕ) (task : Task) (w : World) → may_leave w ≡ true → slice_get w.tasks callee ≡ Some task → (walk.Given → IsUnawaited w.tasks callee) → (walk.Asks → CancelsWell w t callee words) → (walk.Apart → CallsItsOwn g number t w) → Held walk true t w
      → Keeps walk (cancelled_turn g callee task Back (in_state t (AfterCancel callee number words) w))
  unfolding cancelled_turn
  acting_cancelled_keeps t callee number words task w free there alone well calls h =
      let v : World = in_state t (AfterCancel callee number words) w in
      given_keeps walk (func_of task.callee) _ (λ f e. acting_asked_keeps t callee number words task (cancel_case (is_entry_free v f.instance) (task_view g v callee task)) w free there (subst (λ (o : Option Lifted). IsSome o) (sym e) refl)
      (λ i. removed_waits (is_entry_free v f.instance) (kind_of task) (flag_at g) task.state i) (λ i. resumed_blocked (is_entry_free v f.instance) (kind_of task) (flag_at g) task.state i)
      (λ i. asked_comes g v callee task (is_entry_free v f.instance) (task_there t callee number words w task h.1 there (resumed_blocked (is_entry_free v f.instance) (kind_of task) (flag_at g) task.state i) (walk.chained w h.0)) i) alone well calls h)

  cancel_open_keeps : (t number : ℕ) (words : List ℕ) (w : World) → (walk.Asks → BlocksAsked t (InBuiltin number words (ForCancel (first_of words))) w) → (walk.Apart → CallsItsOwn g number t w) → HasFunc w.tasks t → Held walk true t w → Keeps walk (cancel_open g t number words w)
  unfolding cancel_open
  cancel_open_keeps t number words w blocks calls runs h = either_keeps walk (flag_at g number) _ _ (λ e. on_keeps walk t (blocked_word ∷ []) w h)
      (λ e. blocked_keeps walk t (InBuiltin number words (ForCancel (first_of words))) (reason.Cancel (first_of words)) w h.1.0 tt (inr runs) tt blocks (λ copies. tt) calls (acting_waits_else true t w h.1) tt (as_is (IsActing true) (WaitsWith true) t w (acting_waits true) h.1) h.0)

  back_cancel_keeps : (t i callee number : ℕ) (words : List ℕ) (w : World) → (walk.Given → IsUnawaited w.tasks callee) → (walk.Asks → (state : SubtaskState) → is_over state ≡ true → TellsWell w callee state)
      → ((task : Task) (subtask : Subtask) → slice_get w.tasks callee ≡ Some task → subtask_of task.caller ≡ Some subtask → has_resolved task ≡ false → walk.Asks → BlocksAsked t (InBuiltin number words (ForCancel (first_of words))) w)
      → (walk.Apart → CallsItsOwn g number t w) → HasFunc w.tasks t → Held walk true t w → Keeps walk (back_from_cancel g t i callee number words w)
  unfolding back_from_cancel told_payload
  back_cancel_keeps t i callee number words w alone well blocks calls runs h =
      with_keeps w callee _ (λ task subtask there guest.
      either_keeps walk (has_resolved task) _ _ (λ e. on_keeps walk t (state_of task ∷ []) (told callee (subtask_state task) w) (subtask_keeps true t i callee task subtask w alone (λ asks. well asks (subtask_state task) e) h))
      (λ e. cancel_open_keeps t number words w (blocks task subtask there guest e) calls runs h))

  back_to_keeps : (t i : ℕ) (state : TaskState) (w : World) → Known walk w → Is (IsIn state) t w → HasFunc w.tasks t → TaskIs w.tasks t (λ x. runs_in i x ≡ true) → walk.Holds w → Keeps walk (back_to g t i state w)
  unfolding back_to
  back_to_keeps t i (AfterCall callee number words) w facts a runs inside h = back_call_keeps t i callee number words w facts runs inside a h
  back_to_keeps t i (AfterCancel callee number words) w facts a runs inside h =
      back_cancel_keeps t i callee number words (in_state t Acting w) (λ given. behind_cancel g w t callee number words (facts.0 given).subtasks a)
      (λ asks state over. cancelled_told w t callee number words state (facts.1 asks).cancels a over) (λ task subtask there guest unresolved asks. blocks_then g w t callee number words task subtask (facts.1 asks) a there guest unresolved)
      (λ apart. after_cancel_own g w t callee number words (walk.own apart w h) a) (func_changed w.tasks t t (λ x. record x { state = Acting }) (λ x. refl) runs)
      (acts_again true t w (state_waits_else (AfterCancel callee number words) t w tt a) (a.0, (a.1.0, a.1.1, subst (λ (state : TaskState). StandsBy state a.1.0) a.1.2 (walk.stacked w h t a.1.0 a.1.1))) h)
  back_to_keeps t i IsNew w facts a runs inside h = tt
  back_to_keeps t i Acting w facts a runs inside h = tt
  back_to_keeps t i (Begins n) w facts a runs inside h = tt
  back_to_keeps t i WaitsToEnter w facts a runs inside h = tt
  back_to_keeps t i (InLoop word) w facts a runs inside h = tt
  back_to_keeps t i (InBuiltin number words wait) w facts a runs inside h = tt
  back_to_keeps t i Exited w facts a runs inside h = tt

  pub back_keeps : (w : World) → Known walk w → walk.Holds w → Keeps walk (back_turn g w)
  unfolding back_turn
  back_keeps w facts h =
      given_keeps walk (acting w) _ (λ a e. given_keeps walk (func_of a.1.callee) _ (λ f i.
      back_to_keeps a.0 f.instance a.1.state w facts (acting_first w a e, (outline_of a.1, outline_there w.tasks a.0 a.1 (acting_is w a e), refl)) (acting_func w a f e i)
      (a.1, acting_is w a e, ap (is_in f.instance) i ∙ equal_self f.instance) h))
