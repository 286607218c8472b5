-- Where control is back at a task, and where a blocked one goes on, what is answered is words of the types that are asked for; and so are copies.
use Rattle.std.specs.List.{slice_get}
use Rattle.std.proofs.Common.{◌≡◌, ◌<◌, ◌^◌, ℕ, Bool, true, false, List, [], ◌∷◌, length, nat_lt, subst, arith, Option, Some, None, Result, Ok, Err, sym, ◌∙◌, ◌≤◌, if◌then◌else◌, inl, inr, refl}
use Rattle.wasm_store.specs.Store.{found_at}
use Rattle.syntax_trees.specs.declared.types.ValType.{ValType}
use Rattle.entry_gate.specs.Callbacks.{callback_of}
use Rattle.entry_gate.specs.declared.callback.BadCode.{BadCode}
use Rattle.entry_gate.specs.declared.callback.Next.{Next}
use Rattle.entry_gate.specs.declared.callback.Next.TheVariants as word
use Rattle.handle_table.specs.History.{IsHistory, live_count, most_live, next_index}
use Rattle.stream_ends.specs.declared.open_copy.OpenCopy.{OpenCopy}
use Rattle.tasks.specs.Tasks.{is_asked}
use Rattle.comp_graph.specs.declared.graph.CanonFunc.{CanonFunc}
use Rattle.comp_graph.specs.Graph.{Graph, Lifted}
use Rattle.trace_labels.specs.declared.label.Label.TheVariants as line
use Rattle.trace_labels.specs.declared.trap.TrapName.TheVariants as trap
use Rattle.abi_machine.specs.LoweringOver.{Plan}
use Rattle.abi_machine.specs.Control.{EndRef, Copying, Then, Starts, Resolves, Transfers, Lowering, InWait, InCallback}
use Rattle.abi_machine.specs.World.{Entry, Inst, OfSubtask, Callee, Subtask, Caller, Nobody, Host, Guest, Wait, ForYield, ForSet, ForCall, ForCopy, ForCancel, TaskState, New, Acting, AfterCall, AfterCancel, WaitsToEnter, InLoop, InBuiltin, Exited, Task, Channel, World}
use Rattle.abi_machine.specs.World as world
use Rattle.abi_machine.specs.Edits.{entry_added, in_state, told, result_kept, transferred}
use Rattle.abi_machine.specs.Canons.{func_address, bytes_of, canon_at, options_at, flag_at, inst_of_canon}
use Rattle.abi_machine.specs.Reading.{table_of, channel_at, acting, table_in, func_of, task_at, subtask_of}
use Rattle.abi_machine.specs.Counting.{passes, state_of, subtask_state, has_resolved, ready, payload_of}
use Rattle.abi_machine.specs.Gate.{may_arrive}
use Rattle.abi_machine.specs.Finding.{found_subtask, set_number, found_end}
use Rattle.abi_machine.specs.Pausing.{Paused, Words, Failed, Asked as AsksNow, Settled, settle}
use Rattle.abi_machine.specs.Turn.{doomed, replied, Turn, with_entry}
use Rattle.abi_machine.specs.Calling.{call_state, call_resolved, call_open, subtask_told, back_from_call}
use Rattle.abi_machine.specs.Cancelling.{cancel_open, back_from_cancel, back_to, back_turn}
use Rattle.abi_machine.specs.Copying.{Met, AtOnce, Moves as Copies, Stands, met_by, other_offer, read_of, write_of, is_within, completed, channel_of, copied_of, elements_written, elements_read, elements_moved, moved_by, meeting_turn, meets, transferring_turn}
use Rattle.abi_machine.specs.Delivering.{end_told, is_to_be_told, told_payload, told_result, wait_resumed, set_polled, next_resumed, loop_resumed, resumed, resuming_turn}
use Rattle.abi_machine.specs.Entering.{arriving_turn}
use Rattle.abi_machine.specs.Lowering.{started, lowered, paused, left_by, settled_turn, lowers_turn}
use Rattle.abi_machine.specs.Returning.{leaving_turn}
use Rattle.abi_machine.specs.sound.Copies.{IsCopied}
use Rattle.abi_machine.specs.sound.Agreeing.{IsDueBehind}
use Rattle.abi_machine.specs.sound.Answers.{IsOneWord, IsAtEnd, IsAtWait, IsBehindLowering, IsOfActing}
use Rattle.builtin_kinds.specs.declared.ResourceOp.TheVariants as resource_op
use Rattle.wasm_numbers.specs.Types.{AreWords}
use Rattle.wasm_store.proofs.Lists.{all_at}
use Rattle.comp_graph.specs.declared.graph.BuiltinKind.{BuiltinKind}
use Rattle.comp_graph.specs.declared.graph.BuiltinKind.TheVariants as kind
use Rattle.comp_graph.specs.declared.graph.CanonFunc.TheVariants as canon
use Rattle.comp_graph.specs.Needs.{lower_type}
use Rattle.comp_graph.specs.Graph.{builtin_type, canon_type}
use Rattle.abi_machine.specs.Control.{Resumes}
use Rattle.abi_machine.specs.Canons.{options_of_kind, options_of_canon, options_in}
use Rattle.abi_machine.specs.Scheduling.{is_task_resolved}
use Rattle.abi_machine.specs.Calling.{call_answer}
use Rattle.abi_machine.specs.sound.Answers.{IsOfCanon, HasResults}
use Rattle.abi_machine.specs.sound.Called.{Called, HasCalled, HaveCalled}
use Rattle.abi_machine.specs.sound.CallsFit.{IsDrop, CallsSo, IsCalledBy}
use Rattle.abi_machine.specs.sound.Changes.{IsFirst}
use Rattle.abi_machine.specs.sound.Events.{EndsWait, HasCause, EventComes}
use Rattle.abi_machine.specs.sound.Fitting.{FitsCall, CallsFit}
use Rattle.abi_machine.specs.sound.Subtasks.{WaitsSync}
use Rattle.abi_machine.specs.sound.Tables.{HaveHistories}
use Rattle.abi_machine.proofs.sound.Chained.{changed_here}
use Rattle.abi_machine.proofs.sound.Found.{some_same, acting_first, acting_is}
use Rattle.abi_machine.proofs.sound.Histories.{adds_history}
use Rattle.abi_machine.proofs.sound.acts.Keeping.{less}
use Rattle.abi_machine.proofs.sound.answers.Words.{index_small, state_small, payload_small, MetSmall, met_small, completed_small}
use Rattle.abi_machine.proofs.sound.answers.Moving.{one_word, Fits, behind_fits, given_fits, either_fits, either_so, unless_fits, func_fits, subtask_fits, told_fits, lifted_fits, elements_fit, entered_fits, finished_fits, none_received_fits, cancel_received_fits, yield_cancelled_fits}

-- the state of a subtask, and what says that a call would block
state_word : (task : Task) → IsOneWord (state_of task ∷ [])
state_word task = one_word (state_of task) (omega (arith, state_small (subtask_state task)))

blocked_word_small : IsOneWord (4294967295 ∷ [])
blocked_word_small = one_word 4294967295 (omega arith)

-- What is kept of tasks that wait for one that they called.
pub record IsWaitedFor (g : Graph) (w : World) : Type 0 where
  pub called : HaveCalled w.tasks
  pub sync : (t : ℕ) (task : Task) → slice_get w.tasks t ≡ Some task → WaitsSync g task.state
  pub fit : CallsFit g w.tasks

-- the acting task, first on the chain
acting_there : (w : World) (a : ℕ × Task) → acting w ≡ Some a → IsFirst a.0 w.chain × (slice_get w.tasks a.0 ≡ Some a.1)
acting_there w a e = (acting_first w a e, acting_is w a e)

-- A canonical function that calls, and does not wait, answers one i32.
async_kind : (k : BuiltinKind) (n : ℕ) → (options_of_kind k).is_async ≡ true → IsDrop k → AreWords (builtin_type k).results (n ∷ [])
async_kind (kind.Resource resource_op.Drop resource) n e d = cc
async_kind (kind.Resource resource_op.New resource) n e d = absurd d
async_kind (kind.Resource resource_op.Rep resource) n e d = absurd d
async_kind (kind.TaskReturn result options) n e d = absurd d
async_kind (kind.Plain op) n e d = absurd d
async_kind (kind.Context op slot) n e d = absurd d
async_kind (kind.Wait op cancellable memory) n e d = absurd d
async_kind (kind.End what element op) n e d = absurd d

async_word : (c : CanonFunc) (callee : Callee) (n : ℕ) → n < 2 ^ 32 → CallsSo c callee → (options_of_canon c).is_async ≡ true → AreWords (canon_type c).results (n ∷ [])
async_word (canon.Lower l) callee n h so e = subst (λ (b : Bool). AreWords (lower_type b l.func_type).results (n ∷ [])) (sym e) (h, tt)
async_word (canon.Builtin b) callee n h so e = async_kind b.kind n e so.1

async_answer : (g : Graph) (number : ℕ) (callee : Callee) (n : ℕ) → n < 2 ^ 32 → IsCalledBy g number callee → (options_at g number).is_async ≡ true → IsOfCanon g number (n ∷ [])
async_answer g number callee n h by e c there =
    let same : by.0 ≡ c = some_same (sym by.1 ∙ there) in
    async_word c callee n h (subst (λ (x : CanonFunc). CallsSo x callee) same by.2) (subst (λ (o : Option CanonFunc). (options_in o).is_async ≡ true) there e)

-- The task that is waited for was called by this canonical function.
same_canon : (tasks : List Task) (t number callee : ℕ) (task : Task) (subtask : Subtask) → Called tasks t number callee → slice_get tasks callee ≡ Some task → subtask_of task.caller ≡ Some subtask → subtask.canon ≡ number
same_canon tasks t number callee task subtask called at k =
    let one : called.0 ≡ task = some_same (sym called.1 ∙ at) in
    let by = called.2 in
    let two : by.0 ≡ subtask = some_same (sym (subst (λ (x : Task). subtask_of x.caller ≡ Some by.0) one by.1) ∙ k) in
    subst (λ (x : Subtask). x.canon ≡ number) two by.3

guest_by : (g : Graph) (callee : Callee) (caller : Caller) (subtask : Subtask) → subtask_of caller ≡ Some subtask → FitsCall g callee caller → IsCalledBy g subtask.canon callee
guest_by g callee Nobody subtask k h = cc
guest_by g callee (Host call values) subtask k h = cc
guest_by g callee (Guest s) subtask k h = subst (λ (x : Subtask). IsCalledBy g x.canon callee) (some_same k) h

call_words : (g : Graph) (number : ℕ) (callee : Callee) (subtask : Subtask) → subtask.canon ≡ number → IsCalledBy g number callee → (b : Bool) → (options_at g number).is_async ≡ b
    → ((options_at g subtask.canon).is_async ≡ false → IsOfCanon g subtask.canon subtask.result) → IsOfCanon g number (call_answer b subtask.result)
call_words g number callee subtask same by true e kept = async_answer g number callee 2 (omega arith) by e
call_words g number callee subtask same by false e kept = subst (λ (n : ℕ). (options_at g n).is_async ≡ false → IsOfCanon g n subtask.result) same kept e

-- what is kept of the result of a call that is over
abbrev CallEnds : Graph → ℕ → Wait → World → Type 0
CallEnds g number (ForCall callee) w = (task : Task) (subtask : Subtask) → task_at w callee ≡ Some task → subtask_of task.caller ≡ Some subtask → IsOfCanon g number subtask.result
CallEnds g number wait w = Unit {0}

-- also once the task that waits acts
result_ends : (g : Graph) (w : World) (t : ℕ) (waiter : Task) (number callee : ℕ) (words : List ℕ) → waiter.state ≡ InBuiltin number words (ForCall callee) → slice_get w.tasks t ≡ Some waiter → IsWaitedFor g w → HasResults g w → is_task_resolved w callee ≡ true
    → (task : Task) (subtask : Subtask) → task_at (in_state t Acting w) callee ≡ Some task → subtask_of task.caller ≡ Some subtask → IsOfCanon g number subtask.result
result_ends g w t waiter number callee words is at waited results done task subtask there k =
    elim (changed_here t (λ x. record x { state = Acting }) w.tasks callee task there) [
      | inl own ↦ by own.1.0 (subst (λ (n : ℕ). slice_get w.tasks n ≡ Some own.1.0) (sym own.0) own.1.1) (subst (λ (x : Task). subtask_of x.caller ≡ Some subtask) own.1.2 k)
      | inr old ↦ by task old k
    ]
  where
    called : Called w.tasks t number callee
    called = subst (λ (s : TaskState). HasCalled w.tasks t s) is (waited.called t waiter at)

    sync : (options_at g number).is_async ≡ false
    sync = subst (λ (s : TaskState). WaitsSync g s) is (waited.sync t waiter at)

    by : (x : Task) → slice_get w.tasks callee ≡ Some x → subtask_of x.caller ≡ Some subtask → IsOfCanon g number subtask.result
    by x here caller =
        let same : subtask.canon ≡ number = same_canon w.tasks t number callee x subtask called here caller in
        let over : has_resolved x ≡ true = subst (λ (o : Option Task). passes has_resolved o ≡ true) here done in
        subst (λ (n : ℕ). (options_at g n).is_async ≡ false → IsOfCanon g n subtask.result) same (results callee x subtask here caller over) sync

call_ends : (g : Graph) (w : World) (t : ℕ) (task : Task) (f : Lifted) (number : ℕ) (words : List ℕ) (wait : Wait) → task.state ≡ InBuiltin number words wait → slice_get w.tasks t ≡ Some task → IsWaitedFor g w → HasResults g w
    → HasCause g w f task task.state → CallEnds g number wait (in_state t Acting w)
call_ends g w t task f number words wait is at waited results cause = by wait is (subst (λ (s : TaskState). HasCause g w f task s) is cause)
  where
    by : (x : Wait) → task.state ≡ InBuiltin number words x → EndsWait g w f task number x → CallEnds g number x (in_state t Acting w)
    by (ForCall callee) e ends = result_ends g w t task number callee words e at waited results ends
    by ForYield e ends = tt
    by (ForSet index) e ends = tt
    by (ForCopy index) e ends = tt
    by (ForCancel index) e ends = tt

module _ (P : List ℕ → Type 0) where
  pub entry_fits : (t i : ℕ) (entry : Entry) (w : World) (more : ℕ → World → Turn) → HaveHistories w.insts → ((index : ℕ) (v : World) → index ≤ 65535 → HaveHistories v.insts → Fits P (more index v)) → Fits P (with_entry t i entry w more)
  entry_fits t i entry w more history h = by (nat_lt (live_count (table_of w i)) most_live) refl
    where
      here : (o : Option Inst) → slice_get w.insts i ≡ o → IsHistory (table_in o)
      here None e = tt
      here (Some inst) e = all_at (λ (x : Inst). IsHistory x.table) w.insts i inst history e

      by : (b : Bool) → nat_lt (live_count (table_of w i)) most_live ≡ b → Fits P (if b then more (next_index (table_of w i)) (entry_added i entry w) else doomed t trap.TableFull w)
      by true e =
          (let few : live_count (table_of w i) < most_live = less (live_count (table_of w i)) most_live e in
          h (next_index (table_of w i)) (entry_added i entry w) (index_small (table_of w i) (here (slice_get w.insts i) refl) few) (adds_history i entry w.insts few history))
      by false e = tt

  payload_told : (t i callee : ℕ) (task : Task) (subtask : Subtask) (w : World) → P (state_of task ∷ []) → Fits P (told_payload t (subtask_told i callee task subtask w))
  unfolding told_payload
  payload_told t i callee task subtask w h = told_fits P t i callee task subtask w (state_of task ∷ []) h

  result_told : (t i callee : ℕ) (task : Task) (subtask : Subtask) (words : List ℕ) (w : World) → P words → Fits P (told_result t words (subtask_told i callee task subtask w))
  unfolding told_result
  result_told t i callee task subtask words w h = told_fits P t i callee task subtask w words h

  -- Control is back at a task.
  resolved_fits : (t i callee : ℕ) (task : Task) (is_async : Bool) (subtask : Subtask) (w : World) → P (call_answer is_async subtask.result) → Fits P (call_resolved t is_async subtask (subtask_told i callee task subtask w))
  unfolding call_resolved
  resolved_fits t i callee task is_async subtask w h = told_fits P t i callee task subtask w _ h

  open_fits : (g : Graph) (t i callee : ℕ) (task : Task) (number : ℕ) (words : List ℕ) (w : World) → HaveHistories w.insts → IsCalledBy g number task.callee → (b : Bool) → (options_at g number).is_async ≡ b
      → ((words : List ℕ) → IsOfCanon g number words → P words) → Fits P (call_open t i callee task b number words w)
  unfolding call_open
  open_fits g t i callee task number words w history by true e says =
      entry_fits t i (OfSubtask callee) w (λ index v. replied t (call_state task index ∷ []) (told callee (subtask_state task) v)) history
      (λ index v small more. (says (call_state task index ∷ []) (async_answer g number task.callee (call_state task index) (omega (arith, small, state_small (subtask_state task))) by e), tt))
  open_fits g t i callee task number words w history by false e says = (tt, tt)

  back_called_fits : (g : Graph) (t i callee number : ℕ) (words : List ℕ) (w : World) → HaveHistories w.insts → CallsFit g w.tasks → HasResults g w → Called w.tasks t number callee → ((words : List ℕ) → IsOfCanon g number words → P words)
      → Fits P (back_from_call g t i callee number words w)
  unfolding back_from_call
  back_called_fits g t i callee number words w history fit results called says =
      given_fits P (task_at w callee) _ (λ (task : Task) e. given_fits P (subtask_of task.caller) _ (λ (subtask : Subtask) k.
      let same : subtask.canon ≡ number = same_canon w.tasks t number callee task subtask called e k in
      let by : IsCalledBy g number task.callee = subst (λ (n : ℕ). IsCalledBy g n task.callee) same (guest_by g task.callee task.caller subtask k (all_at (λ (x : Task). FitsCall g x.callee x.caller) w.tasks callee task fit e)) in
      either_so P (has_resolved task) _ _
      (λ done. resolved_fits t i callee task (options_at g number).is_async subtask (in_state t Acting w)
      (says (call_answer (options_at g number).is_async subtask.result) (call_words g number task.callee subtask same by (options_at g number).is_async refl (λ sync. results callee task subtask e k done sync))))
      (λ unresolved. open_fits g t i callee task number words (in_state t Acting w) history by (options_at g number).is_async refl says)))

  cancel_open_fits : (g : Graph) (t number : ℕ) (words : List ℕ) (w : World) → ((words : List ℕ) → IsOneWord words → P words) → Fits P (cancel_open g t number words w)
  unfolding cancel_open
  cancel_open_fits g t number words w says = either_fits P (flag_at g number) _ _ (says _ blocked_word_small, tt) (tt, tt)

  back_cancelled_fits : (g : Graph) (t i callee number : ℕ) (words : List ℕ) (w : World) → ((words : List ℕ) → IsOneWord words → P words) → Fits P (back_from_cancel g t i callee number words w)
  unfolding back_from_cancel
  back_cancelled_fits g t i callee number words w says =
      subtask_fits P w callee _ (λ task subtask.
      either_fits P (has_resolved task) _ _ (payload_told t i callee task subtask w (says _ (state_word task))) (cancel_open_fits g t number words w says))

  back_to_fits : (g : Graph) (t i : ℕ) (state : TaskState) (w : World) → HaveHistories w.insts → CallsFit g w.tasks → HasResults g w → HasCalled w.tasks t state → ((words : List ℕ) → IsAtWait g state words → P words) → Fits P (back_to g t i state w)
  unfolding back_to
  back_to_fits g t i (AfterCall callee number words) w history fit results called says = back_called_fits g t i callee number words w history fit results called says
  back_to_fits g t i (AfterCancel callee number words) w history fit results called says = back_cancelled_fits g t i callee number words (in_state t Acting w) says
  back_to_fits g t i New w history fit results called says = tt
  back_to_fits g t i Acting w history fit results called says = tt
  back_to_fits g t i (world.Begins n) w history fit results called says = tt
  back_to_fits g t i WaitsToEnter w history fit results called says = tt
  back_to_fits g t i (InLoop said) w history fit results called says = tt
  back_to_fits g t i (InBuiltin number words wait) w history fit results called says = tt
  back_to_fits g t i Exited w history fit results called says = tt

  -- what is answered to the acting task
  at_acting : (g : Graph) (w : World) (a : ℕ × Task) → ((words : List ℕ) → IsOfActing g (acting w) words → P words) → acting w ≡ Some a → (words : List ℕ) → IsAtWait g a.1.state words → P words
  at_acting g w a says e words h = says words (by (acting w) e)
    where
      by : (o : Option (ℕ × Task)) → o ≡ Some a → IsOfActing g o words
      by None k = cc
      by (Some b) k = (let same : a ≡ b = cc in subst (λ (x : ℕ × Task). IsAtWait g x.1.state words) same h)

  pub back_fits : (g : Graph) (w : World) → HaveHistories w.insts → IsWaitedFor g w → HasResults g w → ((words : List ℕ) → IsOfActing g (acting w) words → P words) → Fits P (back_turn g w)
  unfolding back_turn
  back_fits g w history waited results says =
      func_fits P w _ (λ a f e. back_to_fits g a.0 f.instance a.1.state w history waited.fit results (waited.called a.0 a.1 (acting_there w a e).1) (at_acting g w a says e))

  pub leaving_fits : (w : World) → Fits P (leaving_turn w)
  unfolding leaving_turn
  leaving_fits w = given_fits P (acting w) _ (λ a e. (tt, tt))

  pub arriving_fits : (g : Graph) (w : World) → Fits P (arriving_turn g w)
  unfolding arriving_turn
  arriving_fits g w = func_fits P w _ (λ a f e. either_fits P (may_arrive w f.instance a.1) _ _ (entered_fits P g a.0 a.1 f w) (tt, tt))

  -- Blocked tasks go on.
  end_told_fits : (t : ℕ) (x : EndRef) (w : World) → IsCopied w → ((words : List ℕ) → IsOneWord words → P words) → Fits P (told_payload t (end_told x w))
  unfolding told_payload
  end_told_fits t x w copied says = (says (payload_of w x ∷ []) (one_word (payload_of w x) (payload_small w x copied)), tt)

  wait_fits : (g : Graph) (t : ℕ) (f : Lifted) (is_cancelled : Bool) (number : ℕ) (words : List ℕ) (wait : Wait) (w : World) → IsCopied w → CallEnds g number wait w → ((words : List ℕ) → IsAtEnd g number wait words → P words)
      → Fits P (wait_resumed g t f is_cancelled number words wait w)
  unfolding wait_resumed
  wait_fits g t f is_cancelled number words ForYield w copied ends says =
      either_fits P is_cancelled _ _ (yield_cancelled_fits P t w (says (1 ∷ []) (one_word 1 (omega arith)))) (says (0 ∷ []) (one_word 0 (omega arith)), tt)
  wait_fits g t f is_cancelled number words (ForSet index) w copied ends says =
      either_fits P is_cancelled _ _ (cancel_received_fits P g t f (InWait number words) w says) (given_fits P (set_number w f.instance index) _ (λ set e. tt))
  wait_fits g t f is_cancelled number words (ForCall callee) w copied ends says = given_fits P (task_at w callee) _ (λ (task : Task) e. given_fits P (subtask_of task.caller) _ (λ (subtask : Subtask) k. result_told t f.instance callee task subtask subtask.result w (says subtask.result (ends task subtask e k))))
  wait_fits g t f is_cancelled number words (ForCancel index) w copied ends says =
      given_fits P (found_subtask w f.instance index) _ (λ callee e. subtask_fits P w callee _ (λ task subtask. payload_told t f.instance callee task subtask w (says _ (state_word task))))
  wait_fits g t f is_cancelled number words (ForCopy index) w copied ends says = given_fits P (found_end w f.instance index) _ (λ x e. end_told_fits t x w copied says)

  set_polled_fits : (g : Graph) (t : ℕ) (f : Lifted) (set : ℕ) (members : List ℕ) (w : World) → Fits P (set_polled g t f set members w)
  unfolding set_polled
  set_polled_fits g t f set [] w = none_received_fits P g t f InCallback w (λ words h. absurd h)
  set_polled_fits g t f set (index ∷ members) w = tt

  next_fits : (g : Graph) (t : ℕ) (f : Lifted) (r : Result Next BadCode) (w : World) → Fits P (next_resumed g t f r w)
  unfolding next_resumed
  next_fits g t f (Ok word.Exit) w = tt
  next_fits g t f (Ok word.Yield) w = none_received_fits P g t f InCallback w (λ words h. absurd h)
  next_fits g t f (Ok (word.Wait index)) w = given_fits P (set_number w f.instance index) _ (λ set e. tt)
  next_fits g t f (Ok (word.Poll index)) w = given_fits P (set_number w f.instance index) _ (λ set e. set_polled_fits g t f set (ready w f.instance set) w)
  next_fits g t f (Err why) w = tt

  loop_fits : (g : Graph) (t : ℕ) (f : Lifted) (is_cancelled : Bool) (said : ℕ) (w : World) → Fits P (loop_resumed g t f is_cancelled said w)
  unfolding loop_resumed
  loop_fits g t f is_cancelled said w = either_fits P is_cancelled _ _ (cancel_received_fits P g t f InCallback w (λ words h. absurd h)) (next_fits g t f (callback_of said) w)

  resumed_fits : (g : Graph) (t : ℕ) (task : Task) (f : Lifted) (state : TaskState) (w : World) → IsCopied w → ((number : ℕ) (words : List ℕ) (wait : Wait) → state ≡ InBuiltin number words wait → CallEnds g number wait (in_state t Acting w))
      → ((words : List ℕ) → IsAtWait g state words → P words) → Fits P (resumed g t task f state w)
  unfolding resumed
  resumed_fits g t task f WaitsToEnter w copied ends says = entered_fits P g t task f w
  resumed_fits g t task f (InLoop said) w copied ends says = loop_fits g t f (is_asked task.cancellation) said (in_state t Acting w)
  resumed_fits g t task f (InBuiltin number words wait) w copied ends says = wait_fits g t f (is_to_be_told g number wait task w f.instance) number words wait (in_state t Acting w) copied (ends number words wait refl) says
  resumed_fits g t task f New w copied ends says = tt
  resumed_fits g t task f Acting w copied ends says = tt
  resumed_fits g t task f (AfterCall callee number words) w copied ends says = tt
  resumed_fits g t task f (AfterCancel callee number words) w copied ends says = tt
  resumed_fits g t task f (world.Begins n) w copied ends says = tt
  resumed_fits g t task f Exited w copied ends says = tt

  pub resuming_fits : (g : Graph) (w : World) → IsCopied w → IsWaitedFor g w → HasResults g w → EventComes g Resumes w → ((words : List ℕ) → IsOfActing g (acting w) words → P words) → Fits P (resuming_turn g w)
  unfolding resuming_turn
  resuming_fits g w copied waited results comes says =
      given_fits P (acting w) _ (λ a e. given_fits P (func_of a.1.callee) _ (λ f k.
      let there = acting_there w a e in
      resumed_fits g a.0 a.1 f a.1.state w copied (λ number words wait is. call_ends g w a.0 a.1 f number words wait is there.1 waited results (comes a.0 a.1 f there.0 there.1 k)) (at_acting g w a says e)))

  -- Copies, and lowerings.
  moved_by_fits : (g : Graph) (t : ℕ) (e : EndRef) (call read write : OpenCopy) (reading writing : CanonFunc) (count : ℕ) (element : Option ValType) (w : World)
      → Fits P (moved_by g t e call read write reading writing count element w)
  unfolding moved_by elements_written elements_read
  moved_by_fits g t e call read write reading writing count None w = tt
  moved_by_fits g t e call read write reading writing count (Some element) w =
      lifted_fits P t (elements_written t write writing count element w) _ (elements_fit P (inst_of_canon writing) t element _ _ count w) (λ all later. tt)

  meeting_fits : (g : Graph) (t : ℕ) (e : EndRef) (call : OpenCopy) (words : List ℕ) (index : ℕ) (c : Channel) (m : Met) (w : World) → MetSmall m → ((words : List ℕ) → IsOneWord words → P words)
      → Fits P (meeting_turn g t e call words index c m w)
  unfolding meeting_turn elements_moved
  meeting_fits g t e call words index c (AtOnce payload) w small says = (says (payload ∷ []) (one_word payload small), tt)
  meeting_fits g t e call words index c (Copies count) w small says =
      given_fits P (other_offer e.side c.ends.view) _ (λ offer i. given_fits P (canon_at g (read_of e.side call offer).canon) _ (λ reading j. given_fits P (canon_at g (write_of e.side call offer).canon) _ (λ writing k.
      moved_by_fits g t e call (read_of e.side call offer) (write_of e.side call offer) reading writing count c.element w)))
  meeting_fits g t e call words index c Stands w small says = either_fits P (options_at g call.canon).is_async _ _ (says _ blocked_word_small, tt) (tt, tt)

  pub meets_fits : (g : Graph) (t i : ℕ) (e : EndRef) (call : OpenCopy) (words : List ℕ) (index : ℕ) (w : World) → ((words : List ℕ) → IsOneWord words → P words) → Fits P (meets g t i e call words index w)
  unfolding meets
  meets_fits g t i e call words index w says =
      given_fits P (channel_at w e.kind e.number) _ (λ c j. unless_fits P t (is_within g i e.side c.element c.ends.view) trap.SameInstance w _
      (meeting_fits g t e call words index c (met_by e.kind e.side call c.ends.view) w (met_small e.kind e.side call c.ends.view) says))

  transferring_fits : (copying : Copying) (w : World) → completed copying.end.kind (length copying.values) < 2 ^ 32 → ((words : List ℕ) → IsOneWord words → P words) → Fits P (transferring_turn copying w)
  unfolding transferring_turn
  transferring_fits copying w small says =
      given_fits P (acting w) _ (λ a e. given_fits P (channel_at w copying.end.kind copying.end.number) _ (λ c k.
      behind_fits P (line.Copy (channel_of copying.end) (copied_of c.element copying.values) ∷ [])
      (replied a.0 (completed copying.end.kind (length copying.values) ∷ []) (transferred copying.end copying.length copying.values w)) (tt, tt) (says _ (one_word _ small), tt)))

  started_fits : (words : List ℕ) (w : World) → Fits P (started words w)
  unfolding started
  started_fits words w = func_fits P w _ (λ a f e. given_fits P (found_at w.store.funcs (func_address w.store f.core)) _ (λ function k. tt))

  lowered_fits : (follows : Then) (words : List ℕ) (w : World) → IsCopied w → IsDueBehind follows w.streams w.futures → ((words : List ℕ) → IsBehindLowering follows words → P words) → Fits P (lowered follows words w)
  unfolding lowered
  lowered_fits Starts words w copied due says = started_fits words w
  lowered_fits (Resolves to follows) words w copied due says = finished_fits P follows (result_kept to words w) says
  lowered_fits (Transfers copying) words w copied due says =
      transferring_fits copying w (completed_small copying.end.kind copying.end.number copying.end.side (length copying.values) w copied due) says

  paused_fits : (l : Lowering) (p : Paused) (w : World) → IsCopied w → IsDueBehind l.next w.streams w.futures → ((words : List ℕ) → IsBehindLowering l.next words → P words) → Fits P (paused l p w)
  unfolding paused
  paused_fits l (Words words) w copied due says = lowered_fits l.next words w copied due says
  paused_fits l (Failed why) w copied due says = tt
  paused_fits l (AsksNow ask k) w copied due says = given_fits P (found_at w.store.funcs l.realloc) _ (λ f e. tt)

  pub lowers_fit : (l : Lowering) (plan : Plan) (w : World) → IsCopied w → IsDueBehind l.next w.streams w.futures → ((words : List ℕ) → IsBehindLowering l.next words → P words) → Fits P (lowers_turn l plan w)
  unfolding lowers_turn settled_turn
  lowers_fit l plan w copied due says =
      let settled : Settled = settle l.acts_for plan (bytes_of w.store l.memory) (table_of w l.inst) in
      paused_fits l settled.paused (left_by l settled w) copied due says
