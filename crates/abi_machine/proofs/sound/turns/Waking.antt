-- How tasks enter, call, are told, go on and are cancelled keeps what every change keeps.
use Rattle.std.proofs.Common.{◌≡◌, ◌⊎◌, inl, inr, ℕ, Bool, true, false, List, [], ◌∷◌, length, refl, sym, ap, ◌∙◌, subst, Option, Some, None, Result, Ok, Err}
use Rattle.std.specs.Prelude.{IsSome, slice_index}
use Rattle.std.specs.List.{slice_get}
use Rattle.wasm_store.specs.Store.{found_at}
use Rattle.handle_table.specs.History.{next_index}
use Rattle.entry_gate.specs.Callbacks.{callback_of}
use Rattle.entry_gate.specs.declared.callback.BadCode.{BadCode}
use Rattle.entry_gate.specs.declared.callback.Next.{Next}
use Rattle.entry_gate.specs.declared.callback.Next.TheVariants as next
use Rattle.tasks.specs.declared.event.Asked.{Asked}
use Rattle.tasks.specs.declared.event.Asked.TheVariants.{Removed, ResumeNow, Pending}
use Rattle.tasks.specs.declared.phase.Cancellation.TheVariants as cancellation
use Rattle.tasks.specs.Tasks.{cancel_case, is_asked}
use Rattle.tasks.specs.Subtasks.{with_lend}
use Rattle.comp_graph.specs.Graph.{Graph, Lifted}
use Rattle.script_reader.specs.Script.{Script}
use Rattle.trace_labels.specs.declared.label.Label.TheVariants as line
use Rattle.trace_labels.specs.declared.label.BlockReason.TheVariants as reason
use Rattle.trace_labels.specs.declared.trap.TrapName.TheVariants as trap
use Rattle.abi_machine.specs.Control.{EndRef, Receiver, InWait, InCallback, EventCode, Control, Arrives, Goes as GoesOn, Resumes, Delivers}
use Rattle.abi_machine.specs.World.{Entry, OwnHandle, BorrowHandle, OfSubtask, OfSet, OfEnd, Callee, Subtask, Caller, Nobody, Host, Guest, Wait, ForYield, ForSet, ForCall, ForCopy, ForCancel, TaskState, New as IsNew, Acting, AfterCall, AfterCancel, Begins, WaitsToEnter, InLoop, InBuiltin, Exited, Task, World, new_task}
use Rattle.abi_machine.specs.Edits.{entry_added, in_state, with_cancellation, caller_changed, by_view, told, concluded}
use Rattle.abi_machine.specs.Canons.{func_address, memory_of, bytes_of, canon_at, options_of_canon, inst_of_canon, options_at, flag_at, defines}
use Rattle.abi_machine.specs.Reading.{table_of, entry_at, acting, func_of, task_at, subtask_of, is_reentrant, may_leave}
use Rattle.abi_machine.specs.Counting.{task_view, has_resolved, subtask_state, state_of, payload_of, ready, phase_of}
use Rattle.abi_machine.specs.Gate.{is_entry_free, may_arrive, place_of}
use Rattle.abi_machine.specs.Finding.{set_number, found_subtask, found_end}
use Rattle.abi_machine.specs.Turn.{Turn, replied, blocked}
use Rattle.abi_machine.specs.Entering.{with_arguments, arguments_passed, arguments_turn, entered, arriving_turn}
use Rattle.abi_machine.specs.Calling.{call_begun, called_by, Told, subtask_told, with_subtask_of, call_resolved, call_open, call_state, call_answer, back_from_call, lines_told}
use Rattle.abi_machine.specs.Delivering.{number_of, event_line, event_put, callback_started, received, nothing_told, cancel_told, received_none, received_cancel, end_told, entry_delivered, member_delivered, members_turn, delivering_turn, is_to_be_told, yield_cancelled, told_payload, told_result, wait_resumed, set_polled, next_resumed, loop_resumed, resumed, resuming_turn}
use Rattle.abi_machine.specs.Cancelling.{asked_turn, cancelled_turn, first_of, cancel_open, back_from_cancel, back_to, back_turn}
use Rattle.abi_machine.specs.Copying.{blocked_word}
use Rattle.abi_machine.specs.sound.Changes.{Change, HasStore, AddsEntry, Calls, ComesBack, IsRemoved, IsCancelled, IsTold, Concludes, after, IsGuest, HasFunc, FirstCancels}
use Rattle.abi_machine.specs.sound.Premises.{IsUnasked, IsRemovable, IsOpenCall, IsOpenOf, GraphPassesBorrow, ReturnsBorrow}
use Rattle.abi_machine.specs.sound.GraphFuncs.{IsOfGraph}
use Rattle.abi_machine.specs.sound.CallsFit.{IsCalledBy}
use Rattle.abi_machine.specs.sound.Entering.{HasNotEntered, IsUntold, IsBehindEntry, HasEntered}
use Rattle.abi_machine.specs.sound.Agreeing.{Agrees}
use Rattle.entry_gate.specs.Stays.{Inside}
use Rattle.abi_machine.specs.sound.Firsts.{TaskIs, IsActing, IsActingState, MayBeInside, IsLetIn}
use Rattle.abi_machine.specs.sound.Changes.{IsFirst}
use Rattle.abi_machine.proofs.sound.Found.{guest_changed, acting_first, acting_is, acting_func, func_changed, cancels_changed}
use Rattle.abi_machine.proofs.sound.Acted.{still_is, now_is, is_as, one_task, first_at, let_in_still, new_first}
use Rattle.abi_machine.proofs.sound.Entered.{entered_still, waiting_unborrowed}
use Rattle.abi_machine.proofs.sound.Entries.{left_true, asked_is, told_behind, enters_inside, resumes_inside, removed_waits, inside_alike}
use Rattle.abi_machine.proofs.sound.Lifted.{arguments_keep}
use Rattle.wasm_store.proofs.Lists.{all_at}
use Rattle.syntax_trees.specs.declared.value.Value.{Value}
use Rattle.syntax_trees.specs.declared.value.Value.TheViews as value
use Rattle.abi_machine.specs.sound.EndsPassed.{ends_in, ends_of, AreApart, IsOnTheWay, PassesNoEnd, HostPassesNoEnd}
use Rattle.abi_machine.proofs.sound.ends.Values.{record_ends}
use Rattle.abi_machine.proofs.sound.ends.Lowered.{arguments_add}
use Rattle.abi_machine.proofs.sound.ends.Brought.{came_passes}
use Rattle.abi_machine.proofs.sound.ends.Lifting.{arguments_bring}
use Rattle.abi_machine.specs.sound.Chain.{IsThere}
use Rattle.abi_machine.specs.sound.Lines as mark
use Rattle.abi_machine.specs.sound.Lines.{with_exit, marks_of}
use Rattle.abi_machine.proofs.sound.Marks.{told_unmarked}
use Rattle.abi_machine.proofs.sound.LiftLines.{arguments_unmarked}
use Rattle.abi_machine.proofs.sound.turns.Keeping.{Invariant, Keeps, Acted, given_keeps, behind_keeps, either_keeps, stay, acts, goes, goes_on, unless_keeps, chosen_keeps, on_keeps, blocked_keeps, entry_keeps, new_stack_keeps, removes, waits, lends, came_keeps, ahead, acts_first, goes_behind, told_keeps, marked_keeps}

-- the task that is to be cancelled has not resolved, and is as it was looked up, but that it may have begun to cancel itself
abbrev pub IsToCancel : ℕ → Task → World → Type 0
IsToCancel t task w =
    TaskIs w.tasks t (λ x. (x.callee ≡ task.callee) × (x.resolution ≡ None) × (x.cancellation ≡ cancellation.NotAsked) × ((x.state ≡ task.state) ⊎ IsActing task))

-- A call is open still where a handle is lent for it.
open_lent : (number handle t : ℕ) (c : Caller) → IsOpenCall number c → IsOpenCall number (caller_changed (λ subtask. by_view (with_lend handle) t subtask.told subtask) c)
open_lent number handle t Nobody h = h
open_lent number handle t (Host call values) h = h
open_lent number handle t (Guest subtask) h = h

-- The arguments of the script's calls hold no end.
host_none : (tasks : List Task) (t call : ℕ) (values : List Value) → TaskIs tasks t (λ x. x.caller ≡ Host call values) → HostPassesNoEnd tasks → ends_of values ≡ []
host_none tasks t call values own none = subst PassesNoEnd own.2 (all_at (λ (x : Task). PassesNoEnd x.caller) tasks t own.0 none own.1)

host_apart : (values : List Value) (P : EndRef → Type 0) → ends_of values ≡ [] → AreApart (ends_in (value.Record values)) P
host_apart values P none = subst (λ (ends : List EndRef). AreApart ends P) (sym (record_ends values ∙ none)) tt

-- One that has not entered has not exited.
new_there : (state : TaskState) → HasNotEntered state → IsThere state
new_there IsNew new = tt
new_there WaitsToEnter new = tt
new_there Acting new = tt
new_there (AfterCall callee number words) new = tt
new_there (AfterCancel callee number words) new = tt
new_there (Begins n) new = tt
new_there (InLoop word) new = tt
new_there (InBuiltin number words wait) new = tt
new_there Exited new = new

module _ {g : Graph} {s : Script} (inv : Invariant g s) where
  -- Tasks enter.

  -- what holds while the arguments of a call are lifted
  abbrev Enters : ℕ → ℕ → World → Type 0
  Enters t number w = Acted inv w × TaskIs w.tasks t (IsOpenOf number) × HasEntered w.tasks t

  called_keeps : (t : ℕ) (f : Lifted) (caller : Caller) (w : World) → TaskIs w.tasks t (λ x. x.caller ≡ caller) → IsUntold caller → HasEntered w.tasks t → Acted inv w → Keeps inv (arguments_turn g t f caller w)
  unfolding arguments_turn with_arguments arguments_passed
  called_keeps t f Nobody w own untold entered h = tt
  called_keeps t f (Host call values) w own untold entered h =
      goes inv _ w (
        h.1,
        tt,
        entered,
        tt,
        λ none. arguments_add (defines g f.instance) (IsOnTheWay w.insts w.streams w.futures) f.func_type (value.Record values)
            (host_apart values (IsOnTheWay w.insts w.streams w.futures) (host_none w.tasks t call values own none)),
      ) h.0
  called_keeps t f (Guest subtask) w own untold entered h =
      given_keeps inv (canon_at g subtask.canon) _ (λ c e.
      came_keeps inv (Enters t subtask.canon) t (arguments_passed t f subtask c w) (λ v later. with_arguments g t f v later) (λ v k. k.0)
      (arguments_keep (inst_of_canon c) t (Enters t subtask.canon) (Unit {0}) (λ j index v may k. (removes inv j index v may k.0, k.1, k.2)) (λ j index v may k. (waits inv j index v may k.0, k.1, k.2))
      (λ index v used there k. (
        lends inv t index v (inst_of_canon c, there, inl (subtask.canon, c, e, refl, k.1)) k.0,
        still_is v.tasks t t _ (IsOpenOf subtask.canon) (λ x l. open_lent subtask.canon index t x.caller l) k.1,
        entered_still v.tasks t t _ (λ x. refl) k.2,
      ))
      (options_of_canon c).is_async f.func_type (λ b. tt) _ subtask.words w
      (h, is_as w.tasks t (λ x. x.caller ≡ Guest subtask) (IsOpenOf subtask.canon) (λ x k. subst (IsOpenCall subtask.canon) (sym k) (refl, untold)) own, entered))
      (arguments_unmarked (inst_of_canon c) t (options_of_canon c).is_async f.func_type _ subtask.words w)
      (λ v k comes i.
      goes inv _ k.world (
        i.0.1,
        tt,
        i.2,
        tt,
        λ none. arguments_add (defines g f.instance) (IsOnTheWay k.world.insts k.world.streams k.world.futures) f.func_type v
            (came_passes w ends_in (arguments_passed t f subtask c w) v k
            (arguments_bring (inst_of_canon c) t (options_of_canon c).is_async f.func_type (bytes_of w.store (memory_of w.store (options_of_canon c))) subtask.words w) comes (inv.readers [] w h.0) none),
      ) i.0.0))

module _ {g : Graph} {s : Script} (inv : Invariant g s) where
  entered_keeps : (t : ℕ) (task : Task) (f : Lifted) (w : World) → IsFirst t w.chain → IsLetIn w.tasks t → slice_get w.tasks t ≡ Some task → HasNotEntered task.state → inv.Holds [] w
      → Keeps inv (entered g t task f w)
  unfolding entered
  entered_keeps t task f w first lets there new h =
      marked_keeps inv (mark.Enters t ∷ []) (line.Enter t ∷ []) (arguments_turn g t f task.caller (in_state t Acting w)) refl
      (called_keeps (ahead (mark.Enters t ∷ []) inv) t f task.caller (in_state t Acting w) (still_is w.tasks t t (λ x. record x { state = Acting }) (λ x. x.caller ≡ task.caller) (λ x k. k) (task, there, refl))
      (inv.enters [] w t task h there new).1 (now_is w.tasks t (λ x. record x { state = Acting }) (λ x. Unit {0}) IsBehindEntry (λ x k. λ new. new) (task, there, tt)) (acts_first inv t w task (first, lets, (task, there, new_there task.state new)) there new h))

  pub arriving_keeps : (w : World) → Agrees Arrives w → inv.Holds [] w → Keeps inv (arriving_turn g w)
  unfolding arriving_turn
  arriving_keeps w says h =
      given_keeps inv (acting w) _ (λ a e. given_keeps inv (func_of a.1.callee) _ (λ f i.
      either_keeps inv (may_arrive w f.instance a.1) (entered g a.0 a.1 f w) (blocked a.0 WaitsToEnter reason.Entry w)
      (λ j.
      entered_keeps a.0 a.1 f w (acting_first w a e) (a.1, acting_is w a e, enters_inside w a.1 f true i j) (acting_is w a e)
      (subst HasNotEntered
      (sym (one_task w.tasks a.0 (λ task. task.state ≡ IsNew) a.1 (acting_is w a e) (first_at w.tasks w.chain a.0 (λ task. task.state ≡ IsNew) (acting_first w a e) says))) tt) h)
      (λ j.
      blocked_keeps inv a.0 WaitsToEnter reason.Entry w (acting_first w a e) tt (inr (acting_func w a f e i))
      (first_at w.tasks w.chain a.0 (λ task. task.state ≡ IsNew) (acting_first w a e) says) h)))

  -- Tasks call and are told.

  pub call_keeps : (t number : ℕ) (words : List ℕ) (callee : Callee) (f : Lifted) (passed : List ℕ) (w : World) → func_of callee ≡ Some f → (ReturnsBorrow callee → GraphPassesBorrow g) → IsOfGraph g callee → IsCalledBy g number callee → IsSome (task_at w t) → IsFirst t w.chain → may_leave w ≡ true → Acted inv w
      → Keeps inv (call_begun t number words callee f passed w)
  unfolding call_begun
  call_keeps t number words callee f passed w runs passes named by there first free h =
      unless_keeps inv t (is_reentrant w f.instance t) trap.Reentrant w _ h (λ e.
      let c : Change = Calls number callee (called_by t number passed) words in
      goes_behind inv (mark.Makes (length w.tasks) ∷ []) Arrives (after c w) (new_first _ w.chain (new_task callee (Guest (called_by t number passed)) IsNew) refl)
      (inv.stays [] c w (subst (λ (o : Option Lifted). IsSome o) (sym runs) refl, there, first, free, first_at w.tasks w.chain t IsActing first h.1, (refl, refl), passes, named, by) h.0))

  subtask_keeps : (i callee : ℕ) (task : Task) (subtask : Subtask) (w : World) → TaskIs w.tasks callee (λ x. subtask_state task ≡ subtask_state x) → Acted inv w
      → Acted inv (subtask_told i callee task subtask w).world
  subtask_keeps i callee task subtask w is h = stay inv (IsTold callee (subtask_state task)) w tt is h

  pub with_keeps : (w : World) (callee : ℕ) (more : Task → Subtask → Turn) → ((task : Task) (subtask : Subtask) → task_at w callee ≡ Some task → subtask_of task.caller ≡ Some subtask → Keeps inv (more task subtask))
      → Keeps inv (with_subtask_of w callee more)
  with_keeps w callee more h = given_keeps inv (task_at w callee) _ (λ task e. given_keeps inv (subtask_of task.caller) _ (λ subtask i. h task subtask e i))

  open_keeps : (t i callee : ℕ) (task : Task) (is_async : Bool) (number : ℕ) (words : List ℕ) (w : World) → IsGuest w.tasks callee → TaskIs w.tasks callee (λ x. subtask_state task ≡ subtask_state x)
      → IsFirst t w.chain → HasFunc w.tasks t → Acted inv w → Keeps inv (call_open t i callee task is_async number words w)
  unfolding call_open
  open_keeps t i callee task true number words w guest is first runs h =
      entry_keeps inv t i (OfSubtask callee) w (λ index v. replied t (call_state task index ∷ []) (told callee (subtask_state task) v)) h (λ few.
      on_keeps inv t (call_state task (next_index (table_of w i)) ∷ []) (told callee (subtask_state task) (entry_added i (OfSubtask callee) w))
      (stay inv (IsTold callee (subtask_state task)) (entry_added i (OfSubtask callee) w) tt is (stay inv (AddsEntry i (OfSubtask callee)) w tt (few, guest, tt, tt, λ none. tt) h)))
  open_keeps t i callee task false number words w guest is first runs h =
      blocked_keeps inv t (InBuiltin number words (ForCall callee)) (reason.Call callee) w first tt (inr runs) (first_at w.tasks w.chain t IsActing first h.1) h.0

  -- a task that called or cancelled another one is inside
  inside_as : (w : World) (t : ℕ) (state : TaskState) → place_of state ≡ Inside → TaskIs w.tasks t (λ x. x.state ≡ state) → IsLetIn w.tasks t
  inside_as w t state inside own = is_as w.tasks t (λ x. x.state ≡ state) (MayBeInside w.tasks) (λ x k. inl (ap place_of k ∙ inside)) own

  back_call_keeps : (t i callee number : ℕ) (words : List ℕ) (w : World) → IsFirst t w.chain → HasFunc w.tasks t → TaskIs w.tasks t (λ x. x.state ≡ AfterCall callee number words) → inv.Holds [] w
      → Keeps inv (back_from_call g t i callee number words w)
  unfolding back_from_call call_resolved
  back_call_keeps t i callee number words w first runs own h =
      let acted : Acted inv (in_state t Acting w) =
      acts inv t w (first, inside_as w t (AfterCall callee number words) refl own, is_as w.tasks t (λ x. x.state ≡ AfterCall callee number words) (λ x. IsThere x.state) (λ x k. subst IsThere (sym k) tt) own)
      (is_as w.tasks t (λ x. x.state ≡ AfterCall callee number words) IsBehindEntry (λ x k new. subst HasNotEntered k new) own) h in
      with_keeps w callee _ (λ task subtask there guest.
      either_keeps inv (has_resolved task) _ _
      (λ e.
      told_keeps inv t (lines_told i callee (has_resolved task) subtask.lends) (call_answer (options_at g number).is_async subtask.result) (told callee (subtask_state task) (in_state t Acting w))
      (told_unmarked i callee (has_resolved task) subtask.lends)
      (subtask_keeps i callee task subtask (in_state t Acting w) (told_behind w.tasks t callee callee number words task there own) acted))
      (λ e.
      open_keeps t i callee task (options_at g number).is_async number words (in_state t Acting w)
      (guest_changed w.tasks t callee (λ task. record task { state = Acting }) (λ x k. k) (task, there, subst (λ (o : Option Subtask). IsSome o) (sym guest) refl))
      (told_behind w.tasks t callee callee number words task there own) first (func_changed w.tasks t t (λ x. record x { state = Acting }) (λ x. refl) runs) acted))

  -- Events are delivered.

  put_keeps : (number place index payload : ℕ) (w : World) → Acted inv w → Acted inv (event_put g number place index payload w)
  put_keeps number place index payload w h = stay inv (HasStore _) w tt tt h

  callback_keeps : (t : ℕ) (f : Lifted) (code : EventCode) (index payload : ℕ) (w : World) → Acted inv w → Keeps inv (callback_started t f code index payload w)
  unfolding callback_started
  callback_keeps t f code index payload w h =
      given_keeps inv f.options.callback _ (λ ref e. given_keeps inv (found_at w.store.funcs (func_address w.store ref)) _ (λ function i. new_stack_keeps inv t _ w h))

  received_keeps : (t : ℕ) (f : Lifted) (receiver : Receiver) (code : EventCode) (index : ℕ) (news : Told) → marks_of news.lines ≡ [] → Acted inv news.world → Keeps inv (received g t f receiver code index news)
  unfolding received
  received_keeps t f (InWait number words) code index news none h =
      told_keeps inv t (event_line t code index news.payload ∷ news.lines) (number_of code ∷ []) (event_put g number (slice_index words 1) index news.payload news.world) none
      (put_keeps number (slice_index words 1) index news.payload news.world h)
  received_keeps t f InCallback code index news none h =
      behind_keeps inv (event_line t code index news.payload ∷ news.lines) (callback_started t f code index news.payload news.world) none (callback_keeps t f code index news.payload news.world h)

  pub none_keeps : (t : ℕ) (f : Lifted) (receiver : Receiver) (w : World) → Acted inv w → Keeps inv (received_none g t f receiver w)
  unfolding received_none
  none_keeps t f receiver w h = received_keeps t f receiver _ 0 (nothing_told w) refl h

  pub cancel_keeps : (t : ℕ) (f : Lifted) (receiver : Receiver) (w : World) → TaskIs w.tasks t (λ x. x.cancellation ≡ cancellation.Asked) → Acted inv w → Keeps inv (received_cancel g t f receiver w)
  unfolding received_cancel
  cancel_keeps t f receiver w asked h = received_keeps t f receiver _ 0 (cancel_told t w) refl (stay inv (IsCancelled t cancellation.Delivered) w tt asked h)

  end_told_keeps : (e : EndRef) (w : World) → Acted inv w → Acted inv (end_told e w).world
  end_told_keeps e w h = stay inv (Concludes e) w tt tt h

  delivered_keeps : (t : ℕ) (f : Lifted) (receiver : Receiver) (index : ℕ) (entry : Option Entry) (w : World) → Acted inv w → Keeps inv (entry_delivered g t f receiver index entry w)
  unfolding entry_delivered
  delivered_keeps t f receiver index None w h = tt
  delivered_keeps t f receiver index (Some (OfSubtask callee)) w h =
      with_keeps w callee _ (λ task subtask there guest. received_keeps t f receiver _ index _ (told_unmarked f.instance callee (has_resolved task) subtask.lends) (subtask_keeps f.instance callee task subtask w (task, there, refl) h))
  delivered_keeps t f receiver index (Some (OfEnd e)) w h = received_keeps t f receiver _ index (end_told e w) refl (end_told_keeps e w h)
  delivered_keeps t f receiver index (Some (OwnHandle resource rep)) w h = tt
  delivered_keeps t f receiver index (Some (BorrowHandle resource rep task)) w h = tt
  delivered_keeps t f receiver index (Some (OfSet set)) w h = tt

  member_keeps : (t : ℕ) (f : Lifted) (receiver : Receiver) (member : Option ℕ) (w : World) → Acted inv w → Keeps inv (member_delivered g t f receiver member w)
  unfolding member_delivered
  member_keeps t f receiver member w h = given_keeps inv member _ (λ index e. delivered_keeps t f receiver index (entry_at w f.instance index) w h)

  members_keep : (t : ℕ) (f : Lifted) (set : ℕ) (receiver : Receiver) (pick : Option ℕ) (members : List ℕ) (w : World) → Acted inv w → Keeps inv (members_turn g s t f set receiver pick members w)
  unfolding members_turn
  members_keep t f set receiver None [] w h = member_keeps t f receiver _ w h
  members_keep t f set receiver None (index ∷ []) w h = member_keeps t f receiver _ w h
  members_keep t f set receiver None (index ∷ other ∷ members) w h = chosen_keeps inv (length (index ∷ other ∷ members)) (λ k. Delivers set receiver (Some k)) w (λ k. h.1) h.0
  members_keep t f set receiver (Some k) members w h = member_keeps t f receiver _ w h

  pub delivering_keeps : (set : ℕ) (receiver : Receiver) (pick : Option ℕ) (w : World) → Acted inv w → Keeps inv (delivering_turn g s set receiver pick w)
  unfolding delivering_turn
  delivering_keeps set receiver pick w h =
      given_keeps inv (acting w) _ (λ a e. given_keeps inv (func_of a.1.callee) _ (λ f i. members_keep a.0 f set receiver pick (ready w f.instance set) w h))

  -- Blocked tasks go on.

  pub yielded_keeps : (t : ℕ) (w : World) → TaskIs w.tasks t (λ x. x.cancellation ≡ cancellation.Asked) → Acted inv w → Keeps inv (yield_cancelled t w)
  unfolding yield_cancelled
  yielded_keeps t w asked h = on_keeps inv t (1 ∷ []) (cancel_told t w).world (stay inv (IsCancelled t cancellation.Delivered) w tt asked h)

  wait_keeps : (t : ℕ) (f : Lifted) (is_cancelled : Bool) (number : ℕ) (words : List ℕ) (wait : Wait) (w : World) → (is_cancelled ≡ true → TaskIs w.tasks t (λ x. x.cancellation ≡ cancellation.Asked)) → Acted inv w
      → Keeps inv (wait_resumed g t f is_cancelled number words wait w)
  unfolding wait_resumed told_payload told_result
  wait_keeps t f is_cancelled number words ForYield w asked h = either_keeps inv is_cancelled _ _ (λ e. yielded_keeps t w (asked e) h) (λ e. on_keeps inv t (0 ∷ []) w h)
  wait_keeps t f is_cancelled number words (ForSet index) w asked h =
      either_keeps inv is_cancelled _ _ (λ e. cancel_keeps t f (InWait number words) w (asked e) h) (λ e. given_keeps inv (set_number w f.instance index) _ (λ set i. goes_on inv _ w tt h))
  wait_keeps t f is_cancelled number words (ForCall callee) w asked h =
      with_keeps w callee _ (λ task subtask there guest.
      told_keeps inv t (lines_told f.instance callee (has_resolved task) subtask.lends) subtask.result (told callee (subtask_state task) w) (told_unmarked f.instance callee (has_resolved task) subtask.lends) (subtask_keeps f.instance callee task subtask w (task, there, refl) h))
  wait_keeps t f is_cancelled number words (ForCancel index) w asked h =
      given_keeps inv (found_subtask w f.instance index) _ (λ callee e.
      with_keeps w callee _ (λ task subtask there guest.
      told_keeps inv t (lines_told f.instance callee (has_resolved task) subtask.lends) (state_of task ∷ []) (told callee (subtask_state task) w) (told_unmarked f.instance callee (has_resolved task) subtask.lends)
      (subtask_keeps f.instance callee task subtask w (task, there, refl) h)))
  wait_keeps t f is_cancelled number words (ForCopy index) w asked h =
      given_keeps inv (found_end w f.instance index) _ (λ e i. on_keeps inv t (payload_of w e ∷ []) (concluded e w) (end_told_keeps e w h))

  polled_keeps : (t : ℕ) (f : Lifted) (set : ℕ) (members : List ℕ) (w : World) → Acted inv w → Keeps inv (set_polled g t f set members w)
  unfolding set_polled
  polled_keeps t f set [] w h = none_keeps t f InCallback w h
  polled_keeps t f set (index ∷ members) w h = goes_on inv _ w tt h

  loop_keeps : (t : ℕ) (f : Lifted) (r : Result Next BadCode) (w : World) → Acted inv w → Keeps inv (next_resumed g t f r w)
  unfolding next_resumed
  loop_keeps t f (Ok next.Exit) w h = tt
  loop_keeps t f (Ok next.Yield) w h = none_keeps t f InCallback w h
  loop_keeps t f (Ok (next.Wait index)) w h = given_keeps inv (set_number w f.instance index) _ (λ set e. goes_on inv _ w tt h)
  loop_keeps t f (Ok (next.Poll index)) w h =
      given_keeps inv (set_number w f.instance index) _ (λ set e. polled_keeps t f set (ready w f.instance set) w h)
  loop_keeps t f (Err why) w h = tt

  -- a task whose cancellation is asked, once it acts
  asked_still : (t : ℕ) (task : Task) (w : World) → slice_get w.tasks t ≡ Some task → is_asked task.cancellation ≡ true → TaskIs (in_state t Acting w).tasks t (λ x. x.cancellation ≡ cancellation.Asked)
  asked_still t task w there e =
      still_is w.tasks t t (λ x. record x { state = Acting }) (λ x. x.cancellation ≡ cancellation.Asked) (λ x k. k) (task, there, asked_is task.cancellation e)

  resumed_keeps : (t : ℕ) (task : Task) (f : Lifted) (state : TaskState) (w : World) → task.state ≡ state → IsFirst t w.chain → IsLetIn w.tasks t → slice_get w.tasks t ≡ Some task → inv.Holds [] w
      → Keeps inv (resumed g t task f state w)
  unfolding resumed loop_resumed
  resumed_keeps t task f WaitsToEnter w is first lets there h = entered_keeps t task f w first lets there (subst HasNotEntered (sym is) tt) h
  resumed_keeps t task f (InLoop word) w is first lets there h =
      let i : Acted inv (in_state t Acting w) = acts inv t w (first, lets, (task, there, subst IsThere (sym is) tt)) (task, there, (λ new. subst HasNotEntered is new)) h in
      either_keeps inv (is_asked task.cancellation) _ _ (λ e. cancel_keeps t f InCallback (in_state t Acting w) (asked_still t task w there e) i)
      (λ e. loop_keeps t f (callback_of word) (in_state t Acting w) i)
  resumed_keeps t task f (InBuiltin number words wait) w is first lets there h =
      wait_keeps t f (is_to_be_told g number wait task w f.instance) number words wait (in_state t Acting w)
      (λ e. asked_still t task w there (left_true (is_asked task.cancellation) _ e)) (acts inv t w (first, lets, (task, there, subst IsThere (sym is) tt)) (task, there, (λ new. subst HasNotEntered is new)) h)
  resumed_keeps t task f IsNew w is first lets there h = tt
  resumed_keeps t task f Acting w is first lets there h = tt
  resumed_keeps t task f (AfterCall callee number words) w is first lets there h = tt
  resumed_keeps t task f (AfterCancel callee number words) w is first lets there h = tt
  resumed_keeps t task f (Begins n) w is first lets there h = tt
  resumed_keeps t task f Exited w is first lets there h = tt

  pub resuming_keeps : (w : World) → Agrees Resumes w → inv.Holds [] w → Keeps inv (resuming_turn g w)
  unfolding resuming_turn
  resuming_keeps w says h =
      given_keeps inv (acting w) _ (λ a e. given_keeps inv (func_of a.1.callee) _ (λ f i.
      resumed_keeps a.0 a.1 f a.1.state w refl (acting_first w a e) (first_at w.tasks w.chain a.0 (MayBeInside w.tasks) (acting_first w a e) says) (acting_is w a e) h))

  -- Cancellation.

  asked_keeps : (t : ℕ) (asked : Asked) (c : Control) (w : World) → HasFunc w.tasks t → TaskIs w.tasks t IsUnasked → (asked ≡ Removed → TaskIs w.tasks t IsRemovable) → (asked ≡ ResumeNow → IsLetIn w.tasks t)
      → ((v : World) → v.chain ≡ w.chain → Agrees c v) → (w.chain ≡ []) ⊎ FirstCancels w.tasks w.chain → inv.Holds [] w → Keeps inv (asked_turn t asked c w)
  unfolding asked_turn
  asked_keeps t Removed c w runs unset removed lets says calls h = goes_behind inv (mark.IsCancelled t ∷ with_exit t []) c (after (IsRemoved t) w) (says (after (IsRemoved t) w) refl) (inv.stays [] (IsRemoved t) w (runs, removed refl, waiting_unborrowed w t IsRemovable (λ x k. k.0) (removed refl) (inv.entered [] w h)) h)
  asked_keeps t ResumeNow c w runs unset removed lets says calls h =
      let v : World = with_cancellation t cancellation.Asked w in
      goes inv GoesOn (after (ComesBack t) v)
      (t, refl, let_in_still w.tasks t t (λ x. record x { cancellation = cancellation.Asked }) (λ x. refl) (λ x. refl) (lets refl))
      (inv.stays [] (ComesBack t) v
      (func_changed w.tasks t t (λ x. record x { cancellation = cancellation.Asked }) (λ x. refl) runs, cancels_changed w.tasks w.chain t (λ x. record x { cancellation = cancellation.Asked }) (λ x. refl) calls)
      (inv.stays [] (IsCancelled t cancellation.Asked) w unset h))
  asked_keeps t Pending c w runs unset removed lets says calls h =
      goes inv c (with_cancellation t cancellation.Asked w) (says (with_cancellation t cancellation.Asked w) refl) (inv.stays [] (IsCancelled t cancellation.Asked) w unset h)

  -- One that was looked up as acting is asked, and no more.
  acts_pending : (w : World) (t : ℕ) (task : Task) (free : Bool) (state : TaskState) → task.state ≡ state → IsActingState state → cancel_case free (task_view g w t task) ≡ Pending
  acts_pending w t task free Acting e is = ap (λ (x : TaskState). cancel_case free (record (task_view g w t task) { phase = phase_of (flag_at g) x })) e
  acts_pending w t task free (Begins n) e is = ap (λ (x : TaskState). cancel_case free (record (task_view g w t task) { phase = phase_of (flag_at g) x })) e
  acts_pending w t task free IsNew e is = absurd is
  acts_pending w t task free (AfterCall callee number words) e is = absurd is
  acts_pending w t task free (AfterCancel callee number words) e is = absurd is
  acts_pending w t task free WaitsToEnter e is = absurd is
  acts_pending w t task free (InLoop word) e is = absurd is
  acts_pending w t task free (InBuiltin number words wait) e is = absurd is
  acts_pending w t task free Exited e is = absurd is

  pub cancelled_keeps : (t : ℕ) (task : Task) (c : Control) (w : World) → IsToCancel t task w → ((v : World) → v.chain ≡ w.chain → Agrees c v) → (w.chain ≡ []) ⊎ FirstCancels w.tasks w.chain → inv.Holds [] w
      → Keeps inv (cancelled_turn g t task c w)
  unfolding cancelled_turn
  cancelled_keeps t task c w is says calls h =
      given_keeps inv (func_of task.callee) _ (λ f e.
      asked_keeps t (cancel_case (is_entry_free w f.instance) (task_view g w t task)) c w
      (is.0, is.1, subst (λ (k : Callee). IsSome (func_of k)) (sym is.2.0) (subst (λ (o : Option Lifted). IsSome o) (sym e) refl))
      (is.0, is.1, (is.2.1, is.2.2)) (removed f) (lets f e) says calls h)
    where
      pending : (f : Lifted) → IsActing task → cancel_case (is_entry_free w f.instance) (task_view g w t task) ≡ Pending
      pending f works = acts_pending w t task (is_entry_free w f.instance) task.state refl works

      removed : (f : Lifted) → cancel_case (is_entry_free w f.instance) (task_view g w t task) ≡ Removed → TaskIs w.tasks t IsRemovable
      removed f k = elim is.2.3 [
        | inl same ↦ (is.0, is.1, (same ∙ removed_waits g w t task (is_entry_free w f.instance) k, is.2.1, is.2.2))
        | inr works ↦ absurd (let clash : Pending ≡ Removed = sym (pending f works) ∙ k in let none : ⊥ = cc in none)
      ]

      lets : (f : Lifted) → func_of task.callee ≡ Some f → cancel_case (is_entry_free w f.instance) (task_view g w t task) ≡ ResumeNow → IsLetIn w.tasks t
      lets f e k = elim is.2.3 [
        | inl same ↦ (is.0, is.1, inside_alike w.tasks task is.0 is.2.0 same (resumes_inside g w t task f e k))
        | inr works ↦ absurd (let clash : Pending ≡ ResumeNow = sym (pending f works) ∙ k in let none : ⊥ = cc in none)
      ]

  cancel_open_keeps : (t number : ℕ) (words : List ℕ) (w : World) → IsFirst t w.chain → HasFunc w.tasks t → Acted inv w → Keeps inv (cancel_open g t number words w)
  unfolding cancel_open
  cancel_open_keeps t number words w first runs h =
      either_keeps inv (flag_at g number) _ _ (λ e. on_keeps inv t (blocked_word ∷ []) w h)
      (λ e.
      blocked_keeps inv t (InBuiltin number words (ForCancel (first_of words))) (reason.Cancel (first_of words)) w first tt (inr runs) (first_at w.tasks w.chain t IsActing first h.1) h.0)

  back_cancel_keeps : (t i callee number : ℕ) (words : List ℕ) (w : World) → IsFirst t w.chain → HasFunc w.tasks t → Acted inv w → Keeps inv (back_from_cancel g t i callee number words w)
  unfolding back_from_cancel told_payload
  back_cancel_keeps t i callee number words w first runs h =
      with_keeps w callee _ (λ task subtask there guest.
      either_keeps inv (has_resolved task) _ _
      (λ e.
      told_keeps inv t (lines_told i callee (has_resolved task) subtask.lends) (state_of task ∷ []) (told callee (subtask_state task) w) (told_unmarked i callee (has_resolved task) subtask.lends)
      (subtask_keeps i callee task subtask w (task, there, refl) h))
      (λ e. cancel_open_keeps t number words w first runs h))

  back_to_keeps : (t i : ℕ) (state : TaskState) (w : World) → IsFirst t w.chain → HasFunc w.tasks t → TaskIs w.tasks t (λ x. x.state ≡ state) → inv.Holds [] w → Keeps inv (back_to g t i state w)
  unfolding back_to
  back_to_keeps t i (AfterCall callee number words) w first runs own h = back_call_keeps t i callee number words w first runs own h
  back_to_keeps t i (AfterCancel callee number words) w first runs own h =
      back_cancel_keeps t i callee number words (in_state t Acting w) first (func_changed w.tasks t t (λ x. record x { state = Acting }) (λ x. refl) runs)
      (acts inv t w (first, inside_as w t (AfterCancel callee number words) refl own, is_as w.tasks t (λ x. x.state ≡ AfterCancel callee number words) (λ x. IsThere x.state) (λ x k. subst IsThere (sym k) tt) own)
      (is_as w.tasks t (λ x. x.state ≡ AfterCancel callee number words) IsBehindEntry (λ x k new. subst HasNotEntered k new) own) h)
  back_to_keeps t i IsNew w first runs own h = tt
  back_to_keeps t i Acting w first runs own h = tt
  back_to_keeps t i (Begins n) w first runs own h = tt
  back_to_keeps t i WaitsToEnter w first runs own h = tt
  back_to_keeps t i (InLoop word) w first runs own h = tt
  back_to_keeps t i (InBuiltin number words wait) w first runs own h = tt
  back_to_keeps t i Exited w first runs own h = tt

  pub back_keeps : (w : World) → inv.Holds [] w → Keeps inv (back_turn g w)
  unfolding back_turn
  back_keeps w h =
      given_keeps inv (acting w) _ (λ a e. given_keeps inv (func_of a.1.callee) _ (λ f i.
      back_to_keeps a.0 f.instance a.1.state w (acting_first w a e) (acting_func w a f e i) (a.1, acting_is w a e, refl) h))
