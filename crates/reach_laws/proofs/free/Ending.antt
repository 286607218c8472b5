-- Steps that cost nothing come to an end, by induction on the units of fuel that are left, since each step that costs lowers them. Between two such steps
-- the moves of a stack without cost end, what is left of a plan gets shorter, and so do the actions that are left and the chain where a task blocks or
-- exits. Only a stack that has just begun calls without cost.
use Rattle.std.proofs.Common.{◌≡◌, ◌≤◌, ◌<◌, ℕ, zero, suc, ◌+◌, Bool, List, [], ◌∷◌, length, drop, refl, sym, subst, arith, Option, Some, None, Result, Ok, Err}
use Rattle.std.specs.Prelude.{IsSome}
use Rattle.std.specs.List.{slice_get}
use Rattle.wasm_store.specs.Store.{Store, found_at}
use Rattle.wasm_store.specs.Stack.{Stack}
use Rattle.wasm_store.specs.Step.{start}
use Rattle.wasm_store.specs.Instantiation.{External, Instantiation, Makes, instance_of, instantiated, start_call}
use Rattle.wasm_store.specs.Instantiation as core_instance
use Rattle.entry_gate.specs.Callbacks.{callback_of}
use Rattle.entry_gate.specs.declared.callback.BadCode.{BadCode}
use Rattle.entry_gate.specs.declared.callback.Next.{Next}
use Rattle.entry_gate.specs.declared.callback.Next.TheVariants as next
use Rattle.tasks.specs.declared.phase.Cancellation.TheVariants.{Delivered}
use Rattle.tasks.specs.Tasks.{is_asked}
use Rattle.comp_graph.specs.declared.graph.Action.{Action}
use Rattle.comp_graph.specs.declared.graph.Action.TheVariants.{Begin, Make}
use Rattle.comp_graph.specs.Graph.{CoreMake, Graph, Lifted}
use Rattle.script_reader.specs.Script.{Script}
use Rattle.trace_labels.specs.declared.trap.TrapName.TheVariants as trap
use Rattle.abi_machine.specs.Control.{Replies, Finishes, Then, Starts, Resolves, Transfers, Receiver, InWait, InCallback, Nested, Behind, InLowering, BeforeLeaving, Control, Free, Chosen, Instantiates, Runs, Calls, Arrives, Lowers, Quiet, Back, Goes, Resumes, Delivers, Leaves, Doomed}
use Rattle.abi_machine.specs.World.{Wait, ForYield, ForSet, ForCall, ForCopy, ForCancel, TaskState, New, Acting, AfterCall, AfterCancel, Begins, WaitsToEnter, InLoop, InBuiltin, Exited, Task, World, first_world}
use Rattle.abi_machine.specs.Edits.{changed_at, with_control, with_store, instance_begun, unchained, in_state, with_cancellation, answered, told, concluded}
use Rattle.abi_machine.specs.Canons.{func_address, externals}
use Rattle.abi_machine.specs.Counting.{subtask_state, state_of, has_resolved, payload_of, ready}
use Rattle.abi_machine.specs.Finding.{found_subtask, set_number, found_end}
use Rattle.abi_machine.specs.Turn.{replied}
use Rattle.abi_machine.specs.Calling.{lines_told}
use Rattle.abi_machine.specs.Instantiating.{started_up, made, action_turn, instantiating_turn}
use Rattle.abi_machine.specs.Lowering.{lowered}
use Rattle.abi_machine.specs.Delivering.{number_of, event_line, callback_started, received, received_cancel, is_to_be_told, yield_cancelled, told_payload, told_result, wait_resumed, set_polled, next_resumed, loop_resumed, resumed, resuming_turn}
use Rattle.abi_machine.specs.sound.Initial.{StartsNothing, InitRunsAlone, RunsAlone}
use Rattle.abi_machine.proofs.sound.Found.{acting_first}
use Rattle.abi_machine.proofs.sound.Lists.{within}
use Rattle.reach_laws.specs.Going.{FreeStepsComeToEnd}
use Rattle.reach_laws.proofs.free.Steps.{IsReached, ComesOn, Soon, goes_on, doomed_comes, soon_doomed, soon_given, soon_behind, soon_either, soon_func, soon_subtask, reached_alone}
use Rattle.reach_laws.proofs.free.Stacks.{StartsBehind, AreHolding, ControlHolds, HostedHolds, hold_task, At, at_task, at_state, at_subtask, at_channel, at_answered}
use Rattle.reach_laws.proofs.free.Nested.{quiet_comes, lowering_comes, realloc_comes}
use Rattle.reach_laws.proofs.free.Scheduling.{free_comes, chosen_comes, goes_comes, ActionComes, ActionsCome}
use Rattle.reach_laws.proofs.free.Returning.{at_stays, replied_soon, replied_behind_soon, leaves_come, behind_post, exits_soon, behind_result, back_here, back_comes, runs_come}
use Rattle.reach_laws.proofs.free.Events.{Receives, wait_receives, none_soon, cancel_soon, delivers_come}
use Rattle.reach_laws.proofs.free.Answers.{replies_soon, transfers_soon}
use Rattle.reach_laws.proofs.free.Calls.{calls_come, arrives_come, fresh_comes, starts_soon, enters_soon}

-- Task 0 runs a start function, and no other task does.
starts_none : (from : ℕ) (state : TaskState) → StartsNothing state → StartsBehind from state
starts_none from (Begins n) h = absurd h
starts_none from New h = tt
starts_none from Acting h = tt
starts_none from (AfterCall callee number words) h = tt
starts_none from (AfterCancel callee number words) h = tt
starts_none from WaitsToEnter h = tt
starts_none from (InLoop word) h = tt
starts_none from (InBuiltin number words wait) h = tt
starts_none from Exited h = tt

others_hold : (from : ℕ) (tasks : List Task) → ((n : ℕ) (task : Task) → slice_get tasks n ≡ Some task → StartsNothing task.state) → AreHolding 0 tasks → AreHolding from tasks
others_hold from [] none h = tt
others_hold from (x ∷ tasks) none h = ((h.0.0, starts_none from x.state (none 0 x refl)), others_hold from tasks (λ n task e. none (suc n) task e) h.1)

begins_hold : (n : ℕ) (tasks : List Task) (chain : List ℕ) → InitRunsAlone tasks chain → AreHolding 0 tasks → AreHolding n (changed_at 0 (λ task. record task { state = Begins n }) tasks)
begins_hold n [] chain alone h = tt
begins_hold n (x ∷ tasks) chain alone h = ((h.0.0, (let same : n ≤ n = omega arith in same)), others_hold n tasks (λ m task e. alone.others m task e) h.1)

module _ (g : Graph) (s : Script) where
  -- Task 0 instantiates, by what is left of the plan.
  action_at : (n : ℕ) → ((x : Action) → slice_get g.plan n ≡ Some x → ActionsCome g s (n + 1)) → ActionComes g s n
  unfolding instantiating_turn action_turn made started_up
  action_at n more w h kept = goes_on g s (with_control (Instantiates n) w) kept (by (slice_get g.plan n) refl)
    where
      v : World
      v = with_control Free w

      alone : RunsAlone (with_control (Instantiates n) w)
      alone = reached_alone g s (with_control (Instantiates n) w) kept

      first : slice_get w.chain 0 ≡ Some 0
      first = subst (λ (c : List ℕ). slice_get c 0 ≡ Some 0) (sym alone.1) refl

      starts : (t : Store) (o : Option Stack) → ActionsCome g s (n + 1) → Soon g s (started_up (n + 1) o (with_store t v))
      starts t None next = λ kept. next (n + 1) (omega arith) (with_store t w) h kept
      starts t (Some k) next = λ kept. fresh_comes g s (n + 1) next w.chain 0 k (in_state 0 (Begins (n + 1)) (with_store t w)) first (refl, h.0, begins_hold (n + 1) w.tasks w.chain alone.0 h.1) kept

      makes : (c : CoreMake) (imports : List External) (r : Instantiation) → ActionsCome g s (n + 1) → Soon g s (made n c imports r v)
      makes c imports (core_instance.SegmentBounds t) next = soon_doomed g s (with_store t v) 0 trap.SegmentBounds
      makes c imports (Makes t) next = starts t (start_call c.of_module (instance_of c.of_module imports w.store) t) next

      by : (o : Option Action) → slice_get g.plan n ≡ o → Soon g s (action_turn g n o v)
      by None e = λ kept. free_comes g s (unchained (in_state 0 Exited w)) (h.0, hold_task 0 0 _ w.tasks (λ x k. (k.0, tt)) h.1) kept
      by (Some (Begin number)) e = λ kept. more (Begin number) e (n + 1) (omega arith) (instance_begun w) h kept
      by (Some (Make number)) e =
          soon_given g s (slice_get g.cores number) _ (λ c i. soon_given g s (externals w.store c.imports) _ (λ imports j. makes c imports (instantiated c.of_module imports w.store) (more (Make number) e)))

  actions_from : (left n : ℕ) → length g.plan ≤ n + left → ActionsCome g s n
  actions_from zero n long m less =
      action_at m (λ x e. (let inside : m < length g.plan = within g.plan m (subst (λ (o : Option Action). IsSome o) (sym e) refl) in absurd (omega (arith, long, less, inside))))
  actions_from (suc left) n long m less = action_at m (λ x e. actions_from left (m + 1) (omega (arith, long, less)))

  actions : ActionsCome g s 0
  actions = actions_from (length g.plan) 0 (omega arith)

  -- Behind a lowering, by what follows it.
  then_soon : (chain : List ℕ) (next : Then) (w : World) (words : List ℕ) → At g s 0 chain w → Soon g s (lowered next words w)
  then_soon chain Starts w words h = starts_soon g s 0 actions chain w words h
  then_soon chain (Resolves to Replies) w words h =
      behind_result g s 0 chain (back_comes g s 0 actions (drop 1 chain)) Replies (replies_soon g s 0 chain (back_comes g s 0 actions (drop 1 chain)) (runs_come g s 0 actions chain)) to w words h
  then_soon chain (Resolves to (Finishes ended)) w words h =
      behind_result g s 0 chain (back_comes g s 0 actions (drop 1 chain)) (Finishes ended) (exits_soon g s 0 chain (back_comes g s 0 actions (drop 1 chain)) ended) to w words h
  then_soon chain (Transfers copying) w words h = transfers_soon g s 0 chain (back_comes g s 0 actions (drop 1 chain)) (runs_come g s 0 actions chain) copying w words h

  -- A task that was blocked goes on.
  callback_receives : (chain : List ℕ) → Receives g s 0 chain InCallback
  unfolding received callback_started
  callback_receives chain t f code index x first h =
      soon_behind g s (event_line t code index x.payload ∷ x.lines) _
      (soon_given g s f.options.callback _ (λ ref e. soon_given g s (found_at x.world.store.funcs (func_address x.world.store ref)) _ (λ function i kept.
      fresh_comes g s 0 actions chain t (start function.1 function.0 (number_of code ∷ index ∷ x.payload ∷ [])) x.world first h kept)))

  receives : (chain : List ℕ) (receiver : Receiver) → Receives g s 0 chain receiver
  receives chain (InWait number words) = wait_receives g s 0 chain (runs_come g s 0 actions chain) number words
  receives chain InCallback = callback_receives chain

  delivered : (chain : List ℕ) (receiver : Receiver) (set : ℕ) (pick : Option ℕ) (w : World) → At g s 0 chain w → IsReached g s (with_control (Delivers set receiver pick) w) → ComesOn g s (with_control (Delivers set receiver pick) w)
  delivered chain receiver set pick w h kept = delivers_come g s 0 chain receiver (receives chain receiver) set pick w h kept

  polled_soon : (chain : List ℕ) (t : ℕ) (f : Lifted) (set : ℕ) (members : List ℕ) (w : World) → slice_get chain 0 ≡ Some t → At g s 0 chain w → Soon g s (set_polled g t f set members w)
  unfolding set_polled
  polled_soon chain t f set [] w first h = none_soon g s 0 chain InCallback (callback_receives chain) t f w first h
  polled_soon chain t f set (index ∷ members) w first h = λ kept. delivered chain InCallback set None w h kept

  word_soon : (chain : List ℕ) (t : ℕ) (f : Lifted) (r : Result Next BadCode) (w : World) → slice_get chain 0 ≡ Some t → At g s 0 chain w → Soon g s (next_resumed g t f r w)
  unfolding next_resumed
  word_soon chain t f (Ok next.Yield) w first h = none_soon g s 0 chain InCallback (callback_receives chain) t f w first h
  word_soon chain t f (Ok (next.Wait index)) w first h = soon_given g s (set_number w f.instance index) _ (λ set e kept. delivered chain InCallback set None w h kept)
  word_soon chain t f (Ok (next.Poll index)) w first h = soon_given g s (set_number w f.instance index) _ (λ set e. polled_soon chain t f set (ready w f.instance set) w first h)
  word_soon chain t f (Ok next.Exit) w first h = tt
  word_soon chain t f (Err why) w first h = tt

  wait_soon : (chain : List ℕ) (t : ℕ) (f : Lifted) (is_cancelled : Bool) (number : ℕ) (words : List ℕ) (wait : Wait) (w : World) → slice_get chain 0 ≡ Some t → At g s 0 chain w
      → Soon g s (wait_resumed g t f is_cancelled number words wait w)
  unfolding wait_resumed yield_cancelled told_payload told_result
  wait_soon chain t f is_cancelled number words ForYield w first h =
      let v : World = with_cancellation t Delivered w in
      soon_either g s is_cancelled (yield_cancelled t w) (replied t (0 ∷ []) w)
      (λ e kept. runs_come g s 0 actions chain (answered t (1 ∷ []) v) (at_answered g s 0 chain t (1 ∷ []) v (at_task g s 0 chain t _ w (λ x k. k) h)) kept)
      (λ e. replied_soon g s 0 chain (runs_come g s 0 actions chain) t (0 ∷ []) w h)
  wait_soon chain t f is_cancelled number words (ForSet index) w first h =
      soon_either g s is_cancelled (received_cancel g t f (InWait number words) w) _ (λ e. cancel_soon g s 0 chain (InWait number words) (receives chain (InWait number words)) t f w first h)
      (λ e. soon_given g s (set_number w f.instance index) _ (λ set k kept. delivered chain (InWait number words) set None w h kept))
  wait_soon chain t f is_cancelled number words (ForCall callee) w first h =
      soon_subtask g s w callee _ (λ task subtask.
      replied_behind_soon g s 0 chain (runs_come g s 0 actions chain) t (lines_told f.instance callee (has_resolved task) subtask.lends) subtask.result (told callee (subtask_state task) w) (at_subtask g s 0 chain callee _ w h))
  wait_soon chain t f is_cancelled number words (ForCancel index) w first h =
      soon_given g s (found_subtask w f.instance index) _ (λ callee e.
      soon_subtask g s w callee _ (λ task subtask.
      replied_behind_soon g s 0 chain (runs_come g s 0 actions chain) t (lines_told f.instance callee (has_resolved task) subtask.lends) (state_of task ∷ []) (told callee (subtask_state task) w)
      (at_subtask g s 0 chain callee _ w h)))
  wait_soon chain t f is_cancelled number words (ForCopy index) w first h =
      soon_given g s (found_end w f.instance index) _ (λ e k. replied_behind_soon g s 0 chain (runs_come g s 0 actions chain) t [] (payload_of w e ∷ []) (concluded e w) (at_channel g s 0 chain e.kind e.number _ w h))

  resumed_soon : (chain : List ℕ) (t : ℕ) (task : Task) (f : Lifted) (state : TaskState) (w : World) → slice_get chain 0 ≡ Some t → At g s 0 chain w → Soon g s (resumed g t task f state w)
  unfolding resumed loop_resumed
  resumed_soon chain t task f WaitsToEnter w first h = enters_soon g s 0 actions chain t task f w h
  resumed_soon chain t task f (InLoop word) w first h =
      let v : World = in_state t Acting w in
      let k : At g s 0 chain v = at_state g s 0 chain t Acting w tt h in
      soon_either g s (is_asked task.cancellation) (received_cancel g t f InCallback v) (next_resumed g t f (callback_of word) v) (λ e. cancel_soon g s 0 chain InCallback (callback_receives chain) t f v first k)
      (λ e. word_soon chain t f (callback_of word) v first k)
  resumed_soon chain t task f (InBuiltin number words wait) w first h =
      wait_soon chain t f (is_to_be_told g number wait task w f.instance) number words wait (in_state t Acting w) first (at_state g s 0 chain t Acting w tt h)
  resumed_soon chain t task f New w first h = tt
  resumed_soon chain t task f Acting w first h = tt
  resumed_soon chain t task f (AfterCall callee number words) w first h = tt
  resumed_soon chain t task f (AfterCancel callee number words) w first h = tt
  resumed_soon chain t task f (Begins n) w first h = tt
  resumed_soon chain t task f Exited w first h = tt

  resumes_come : (w : World) → At g s 0 w.chain w → IsReached g s (with_control Resumes w) → ComesOn g s (with_control Resumes w)
  unfolding resuming_turn
  resumes_come w h kept =
      let v : World = with_control Free w in
      goes_on g s (with_control Resumes w) kept (soon_func g s v _ (λ t task f acts runs. resumed_soon w.chain t task f task.state v (acting_first v (t, task) acts) h))

  nested_comes : (n : Nested) (b : Behind) (w : World) → HostedHolds n.state → At g s 0 w.chain w → IsReached g s (with_control (Quiet n b) w) → ComesOn g s (with_control (Quiet n b) w)
  nested_comes n (InLowering l k) w holds h kept = realloc_comes g s (At g s 0 w.chain) (at_stays g s 0 w.chain) l (then_soon w.chain l.next) k n w holds h kept
  nested_comes n BeforeLeaving w holds h kept =
      quiet_comes g s (At g s 0 w.chain) (at_stays g s 0 w.chain) BeforeLeaving (behind_post g s 0 w.chain (back_comes g s 0 actions (drop 1 w.chain))) n w holds h kept

  -- Each world, by what the run does next.
  control_comes : (w : World) → At g s 0 w.chain w → (c : Control) → ControlHolds c → IsReached g s (with_control c w) → ComesOn g s (with_control c w)
  control_comes w h Free holds kept = free_comes g s w (h.1, h.2) kept
  control_comes w h (Chosen k) holds kept = chosen_comes g s k w (h.1, h.2) kept
  control_comes w h (Instantiates n) holds kept = actions n (omega arith) w (h.1, h.2) kept
  control_comes w h Runs holds kept = runs_come g s 0 actions w.chain w h kept
  control_comes w h (Calls number words) holds kept = calls_come g s 0 actions w.chain w number words h kept
  control_comes w h Arrives holds kept = arrives_come g s 0 actions w.chain w h kept
  control_comes w h (Lowers l plan) holds kept = lowering_comes g s (At g s 0 w.chain) (at_stays g s 0 w.chain) l (then_soon w.chain l.next) plan w h kept
  control_comes w h (Quiet n b) holds kept = nested_comes n b w holds h kept
  control_comes w h Back holds kept = back_here g s 0 w.chain (back_comes g s 0 actions (drop 1 w.chain)) actions w h kept
  control_comes w h Goes holds kept = goes_comes g s w (h.1, h.2) kept
  control_comes w h Resumes holds kept = resumes_come w h kept
  control_comes w h (Delivers set receiver pick) holds kept = delivered w.chain receiver set pick w h kept
  control_comes w h Leaves holds kept = leaves_come g s 0 w.chain (back_comes g s 0 actions (drop 1 w.chain)) w h kept
  control_comes w h (Doomed t why) holds kept = doomed_comes g s w t why

  all_come : (left : ℕ) (w : World) → s.fuel ≤ w.units + left → AreHolding 0 w.tasks → ControlHolds w.control → IsReached g s w → ComesOn g s w
  all_come zero w most holding holds kept = control_comes w (refl, (λ v e few i c k. absurd (omega (arith, most, few))), holding) w.control holds kept
  all_come (suc left) w most holding holds kept = control_comes w (refl, (λ v e few i c k. all_come left v (omega (arith, most, e)) i c k), holding) w.control holds kept

pub free_steps_end : FreeStepsComeToEnd
free_steps_end g s =
    let all : s.fuel ≤ (first_world g).units + s.fuel = omega arith in
    all_come g s s.fuel (first_world g) all ((tt, tt), tt) tt ([], refl)
