-- No subtask leaves its table in a step in which a caller may be told.
use Rattle.std.proofs.Common.{ℕ, nat_lt, Bool, true, false, if◌then◌else◌, List, [], ◌∷◌, sym, subst, Option, Some, None}
use Rattle.std.specs.List.{slice_get}
use Rattle.wasm_store.proofs.Lists.{all_at}
use Rattle.handle_table.specs.History.{IsHistory, live_count, most_live}
use Rattle.builtin_kinds.specs.declared.EndKind.{EndKind}
use Rattle.builtin_kinds.specs.declared.EndKind.TheVariants.{Stream, Future}
use Rattle.comp_graph.specs.Graph.{Graph, Lifted}
use Rattle.script_reader.specs.Script.{Script}
use Rattle.trace_labels.specs.declared.label.Label.{Label}
use Rattle.abi_machine.specs.Control.{EndRef, Control, Free, Chosen, Instantiates, Runs, Calls, Arrives, Lowers, Quiet, Back, Goes, Resumes, Delivers, Leaves, Doomed, EventCode, SubtaskEvent, TaskCancelled, Receiver, InWait, InCallback}
use Rattle.abi_machine.specs.World.{Entry, OwnHandle, BorrowHandle, OfSubtask, OfSet, OfEnd, Inst, Wait, ForYield, ForSet, ForCall, ForCopy, ForCancel, TaskState, New, Acting, AfterCall, AfterCancel, Begins, WaitsToEnter, InLoop, InBuiltin, Exited, Task, Channel, World}
use Rattle.abi_machine.specs.Edits.{with_control, with_channel, in_state, entry_added, concluded}
use Rattle.abi_machine.specs.Canons.{flag_at, options_at}
use Rattle.abi_machine.specs.Reading.{entry_at, task_at, acting, func_of, subtask_of, table_of}
use Rattle.abi_machine.specs.Counting.{ready, has_resolved}
use Rattle.abi_machine.specs.Finding.{found_subtask, set_number, found_end}
use Rattle.abi_machine.specs.Choosing.{chosen}
use Rattle.abi_machine.specs.Calling.{Told, subtask_told, call_resolved, call_open, back_from_call}
use Rattle.abi_machine.specs.Delivering.{event_line, event_of_end, callback_started, received, cancel_told, received_cancel, end_told, entry_delivered, member_delivered, members_turn, delivering_turn, yield_cancelled, told_payload, told_result, wait_resumed, resumed, resuming_turn}
use Rattle.abi_machine.specs.Cancelling.{cancel_open, back_from_cancel, back_to, back_turn}
use Rattle.abi_machine.specs.Turn.{Turn}
use Rattle.abi_machine.specs.Next.{next_by}
use Rattle.abi_machine.specs.sound.Subtasks.{StandsAt}
use Rattle.abi_machine.specs.sound.Tables.{HaveHistories}
use Rattle.abi_machine.proofs.sound.Joined.{live_added}
use Rattle.abi_machine.proofs.sound.Holding.{live_changed}
use Rattle.waiting_laws.specs.Telling.{IsInBuiltin, MayTell, TellingTakesNoneOut}
use Rattle.waiting_laws.proofs.Telling.{kept_at}
use Rattle.waiting_laws.proofs.Events.{Tells, given_tells, behind_tells, started}

module _ (g : Graph) (j index callee : ℕ) where
  abbrev At : World → Type 0
  At v = StandsAt v.insts j index callee

  abbrev Stays : List Label → World → Type 0
  Stays labels v = At v

  either_stays : (b : Bool) (x y : Turn) → Tells Stays x → Tells Stays y → Tells Stays (if b then x else y)
  either_stays true x y h k = h
  either_stays false x y h k = k

  beside : (kind : EndKind) (n : ℕ) (f : Channel → Channel) (w : World) → At w → At (with_channel kind n f w)
  beside Stream n f w h = h
  beside Future n f w h = h

  end_stays : (e : EndRef) (w : World) → At w → At (concluded e w)
  end_stays e w h = beside e.kind e.number _ w h

  added_stays : (w : World) (i : ℕ) (entry : Entry) → HaveHistories w.insts → At w → At (entry_added i entry w)
  added_stays w i entry history h =
      live_changed w.insts i _ j index (OfSubtask callee)
      (λ inst at found k. live_added inst.table entry (OfSubtask callee) index (all_at (λ (y : Inst). IsHistory y.table) w.insts i inst history found) k) h

  -- An event comes.
  received_stays : (t : ℕ) (f : Lifted) (receiver : Receiver) (code : EventCode) (m : ℕ) (s : Told) → At s.world → Tells Stays (received g t f receiver code m s)
  unfolding received
  received_stays t f (InWait number words) code m s h = h
  received_stays t f InCallback code m s h =
      behind_tells Stays (event_line t code m s.payload ∷ s.lines) (callback_started t f code m s.payload s.world) (started Stays t f code m s.payload s.world (λ k. h))

  entry_stays : (t : ℕ) (f : Lifted) (receiver : Receiver) (m : ℕ) (o : Option Entry) (w : World) → At w → Tells Stays (entry_delivered g t f receiver m o w)
  unfolding entry_delivered
  entry_stays t f receiver m (Some (OfSubtask other)) w h =
      given_tells Stays (task_at w other) _
      (λ task e. given_tells Stays (subtask_of task.caller) _ (λ subtask k. received_stays t f receiver SubtaskEvent m (subtask_told f.instance other task subtask w) h))
  entry_stays t f receiver m (Some (OfEnd e)) w h = received_stays t f receiver (event_of_end e) m (end_told e w) (end_stays e w h)
  entry_stays t f receiver m None w h = tt
  entry_stays t f receiver m (Some (OwnHandle resource rep)) w h = tt
  entry_stays t f receiver m (Some (BorrowHandle resource rep task)) w h = tt
  entry_stays t f receiver m (Some (OfSet set)) w h = tt

  member_stays : (t : ℕ) (f : Lifted) (receiver : Receiver) (member : Option ℕ) (w : World) → At w → Tells Stays (member_delivered g t f receiver member w)
  unfolding member_delivered
  member_stays t f receiver member w h = given_tells Stays member _ (λ m e. entry_stays t f receiver m (entry_at w f.instance m) w h)

  members_stay : (s : Script) (t : ℕ) (f : Lifted) (set : ℕ) (receiver : Receiver) (pick : Option ℕ) (members : List ℕ) (w : World) → At w
      → Tells Stays (members_turn g s t f set receiver pick members w)
  unfolding members_turn chosen
  members_stay s t f set receiver None (m ∷ other ∷ members) w h = h
  members_stay s t f set receiver None [] w h = member_stays t f receiver None w h
  members_stay s t f set receiver None (m ∷ []) w h = member_stays t f receiver (Some m) w h
  members_stay s t f set receiver (Some k) members w h = member_stays t f receiver (slice_get members k) w h

  delivering_stays : (s : Script) (set : ℕ) (receiver : Receiver) (pick : Option ℕ) (w : World) → At w → Tells Stays (delivering_turn g s set receiver pick w)
  unfolding delivering_turn
  delivering_stays s set receiver pick w h =
      given_tells Stays (acting w) _
      (λ a e. given_tells Stays (func_of a.1.callee) _ (λ f k. members_stay s a.0 f set receiver pick (ready w f.instance set) w h))

  -- A task goes on that was blocked in a canonical function.
  wait_stays : (t : ℕ) (f : Lifted) (is_cancelled : Bool) (number : ℕ) (words : List ℕ) (wait : Wait) (w : World) → At w
      → Tells Stays (wait_resumed g t f is_cancelled number words wait w)
  unfolding wait_resumed yield_cancelled received_cancel told_payload told_result
  wait_stays t f true number words ForYield w h = h
  wait_stays t f false number words ForYield w h = h
  wait_stays t f true number words (ForSet m) w h = received_stays t f (InWait number words) TaskCancelled 0 (cancel_told t w) h
  wait_stays t f false number words (ForSet m) w h = given_tells Stays (set_number w f.instance m) _ (λ set e. h)
  wait_stays t f is_cancelled number words (ForCall other) w h =
      given_tells Stays (task_at w other) _ (λ task e. given_tells Stays (subtask_of task.caller) _ (λ subtask k. h))
  wait_stays t f is_cancelled number words (ForCancel m) w h =
      given_tells Stays (found_subtask w f.instance m) _
      (λ other found. given_tells Stays (task_at w other) _ (λ task e. given_tells Stays (subtask_of task.caller) _ (λ subtask k. h)))
  wait_stays t f is_cancelled number words (ForCopy m) w h = given_tells Stays (found_end w f.instance m) _ (λ e found. end_stays e w h)

  resumed_stays : (t : ℕ) (task : Task) (f : Lifted) (w : World) → IsInBuiltin (Some (t, task)) → At w → Tells Stays (resumed g t task f task.state w)
  unfolding resumed
  resumed_stays t task f w is h =
      subst (λ (state : TaskState). Tells Stays (resumed g t task f state w)) (sym is.1.1.1) (wait_stays t f _ is.0 is.1.0 is.1.1.0 (in_state t Acting w) h)

  resuming_stays : (w : World) → IsInBuiltin (acting w) → At w → Tells Stays (resuming_turn g w)
  unfolding resuming_turn
  resuming_stays w is h =
      given_tells Stays (acting w) _
      (λ a e. given_tells Stays (func_of a.1.callee) _ (λ f k. resumed_stays a.0 a.1 f w (subst IsInBuiltin e is) h))

  -- Control is back.
  open_stays : (t i other : ℕ) (task : Task) (is_async : Bool) (number : ℕ) (words : List ℕ) (w : World) → HaveHistories w.insts → At w
      → Tells Stays (call_open t i other task is_async number words w)
  unfolding call_open
  open_stays t i other task true number words w history h =
      either_stays (nat_lt (live_count (table_of w i)) most_live) _ _ (added_stays w i (OfSubtask other) history h) h
  open_stays t i other task false number words w history h = h

  call_stays : (t i other number : ℕ) (words : List ℕ) (w : World) → HaveHistories w.insts → At w → Tells Stays (back_from_call g t i other number words w)
  unfolding back_from_call call_resolved
  call_stays t i other number words w history h =
      given_tells Stays (task_at w other) _
      (λ task e.
      given_tells Stays (subtask_of task.caller) _
      (λ subtask k. either_stays (has_resolved task) _ _ h (open_stays t i other task (options_at g number).is_async number words (in_state t Acting w) history h)))

  cancel_stays : (t i other number : ℕ) (words : List ℕ) (w : World) → At w → Tells Stays (back_from_cancel g t i other number words w)
  unfolding back_from_cancel told_payload cancel_open
  cancel_stays t i other number words w h =
      given_tells Stays (task_at w other) _
      (λ task e. given_tells Stays (subtask_of task.caller) _ (λ subtask k. either_stays (has_resolved task) _ _ h (either_stays (flag_at g number) _ _ h h)))

  back_to_stays : (t i : ℕ) (state : TaskState) (w : World) → HaveHistories w.insts → At w → Tells Stays (back_to g t i state w)
  unfolding back_to
  back_to_stays t i (AfterCall other number words) w history h = call_stays t i other number words w history h
  back_to_stays t i (AfterCancel other number words) w history h = cancel_stays t i other number words (in_state t Acting w) h
  back_to_stays t i New w history h = tt
  back_to_stays t i Acting w history h = tt
  back_to_stays t i (Begins n) w history h = tt
  back_to_stays t i WaitsToEnter w history h = tt
  back_to_stays t i (InLoop word) w history h = tt
  back_to_stays t i (InBuiltin number words wait) w history h = tt
  back_to_stays t i Exited w history h = tt

  back_stays : (w : World) → HaveHistories w.insts → At w → Tells Stays (back_turn g w)
  unfolding back_turn
  back_stays w history h =
      given_tells Stays (acting w) _
      (λ a e. given_tells Stays (func_of a.1.callee) _ (λ f k. back_to_stays a.0 f.instance a.1.state w history h))

  next_stays : (s : Script) (w : World) (c : Control) → MayTell w c → HaveHistories w.insts → At w → Tells Stays (next_by g s w c)
  next_stays s w Back may history h = back_stays w history h
  next_stays s w (Delivers set receiver pick) may history h = delivering_stays s set receiver pick w h
  next_stays s w Resumes may history h = resuming_stays w may h
  next_stays s w Free may history h = absurd may
  next_stays s w (Chosen k) may history h = absurd may
  next_stays s w (Instantiates n) may history h = absurd may
  next_stays s w Runs may history h = absurd may
  next_stays s w (Calls number words) may history h = absurd may
  next_stays s w Arrives may history h = absurd may
  next_stays s w (Lowers l plan) may history h = absurd may
  next_stays s w (Quiet n b) may history h = absurd may
  next_stays s w Goes may history h = absurd may
  next_stays s w Leaves may history h = absurd may
  next_stays s w (Doomed t why) may history h = absurd may

pub telling_takes_none_out : TellingTakesNoneOut
telling_takes_none_out g s steps w v labels r may e i index callee h =
    subst (Tells (Stays g i index callee)) e (next_stays g i index callee s (with_control Free w) w.control (free_may w.control may) (kept_at g s steps w r).histories h)
  where
    free_may : (c : Control) → MayTell w c → MayTell (with_control Free w) c
    free_may Back k = k
    free_may (Delivers set receiver pick) k = k
    free_may Resumes k = k
    free_may Free k = absurd k
    free_may (Chosen m) k = absurd k
    free_may (Instantiates n) k = absurd k
    free_may Runs k = absurd k
    free_may (Calls number words) k = absurd k
    free_may Arrives k = absurd k
    free_may (Lowers l plan) k = absurd k
    free_may (Quiet n b) k = absurd k
    free_may Goes k = absurd k
    free_may Leaves k = absurd k
    free_may (Doomed t why) k = absurd k
