-- Tasks end: from the end of a task's core function to its exit, and from there to the task that called it, by the chain. A task to which control comes
-- back goes on without a call, until it runs an instruction, blocks, or ends.
use Rattle.std.proofs.Common.{◌≡◌, ◌∙◌, ℕ, Bool, true, false, List, [], ◌∷◌, drop, refl, ap, sym, subst, Option, Some, None, Result, Ok, Err}
use Rattle.std.specs.Prelude.{is_none}
use Rattle.std.specs.Option.{option_map}
use Rattle.std.specs.List.{slice_get}
use Rattle.handle_table.specs.History.{next_index}
use Rattle.wasm_store.specs.Store.{Store, found_at}
use Rattle.wasm_store.specs.Stack.{Stack, Running, AtHost, Given}
use Rattle.wasm_store.specs.Step.{Move, Goes, Traps, resume}
use Rattle.wasm_store.specs.Step as core
use Rattle.wasm_store.proofs.Lists.{all_at}
use Rattle.lowering_laws.proofs.Holding.{IsHeld, MoveHolds, next_holds, by_free_moves}
use Rattle.syntax_trees.specs.declared.types.ValType.{ValType}
use Rattle.entry_gate.specs.Callbacks.{callback_of}
use Rattle.entry_gate.specs.declared.callback.BadCode.{BadCode}
use Rattle.entry_gate.specs.declared.callback.Next.{Next}
use Rattle.entry_gate.specs.declared.callback.Next.TheVariants as next
use Rattle.entry_gate.specs.declared.kind.Kind.{Kind}
use Rattle.entry_gate.specs.declared.kind.Kind.TheVariants.{Sync, Callback, Stackful}
use Rattle.tasks.specs.declared.phase.Resolution.TheVariants.{Returned}
use Rattle.tasks.specs.Tasks.{resolving_fault}
use Rattle.comp_graph.specs.declared.graph.FuncRef.{FuncRef}
use Rattle.comp_graph.specs.declared.graph.Options.{Options}
use Rattle.comp_graph.specs.Needs.{flat_result_limit}
use Rattle.comp_graph.specs.Graph.{Graph, Lifted}
use Rattle.script_reader.specs.Script.{Script}
use Rattle.trace_labels.specs.declared.label.BlockReason.{BlockReason}
use Rattle.trace_labels.specs.declared.label.BlockReason.TheVariants as reason
use Rattle.trace_labels.specs.declared.label.Label.{Label}
use Rattle.trace_labels.specs.declared.label.Label.TheVariants as line
use Rattle.trace_labels.specs.declared.trap.TrapName.TheVariants as trap
use Rattle.trace_labels.specs.declared.typed.TypedValue.{TypedValue}
use Rattle.abi_machine.specs.Traps.{task_name, core_name}
use Rattle.abi_machine.specs.Control.{Control, After, Replies, Finishes, Resolves, BeforeLeaving, Free, Runs, Back, Leaves}
use Rattle.abi_machine.specs.Control as control
use Rattle.abi_machine.specs.World.{Caller, Nobody, Host, Guest, ForCall, ForCancel, TaskState, New, Acting, AfterCall, AfterCancel, Begins, WaitsToEnter, InLoop, InBuiltin, Exited, OfSubtask, Task, World}
use Rattle.abi_machine.specs.Edits.{changed_at, control_behind, with_control, with_store, with_task, unit_spent, entry_added, unchained, in_state, resolved, with_stack, unstacked, answered, answered_stacks, told, result_kept}
use Rattle.abi_machine.specs.Canons.{func_address, canon_at, inst_of_canon, options_of_canon, options_at, flag_at, defines}
use Rattle.abi_machine.specs.Reading.{table_of, acting, func_of, kind_of}
use Rattle.abi_machine.specs.Counting.{subtask_state, state_of, has_resolved, task_view}
use Rattle.abi_machine.specs.Finding.{set_at}
use Rattle.abi_machine.specs.Lifting.{Kept, Stopped, Came}
use Rattle.abi_machine.specs.Passing.{result_plan}
use Rattle.abi_machine.specs.Pausing.{entries_by}
use Rattle.abi_machine.specs.Turn.{silent, doomed, charged, replied, blocked}
use Rattle.abi_machine.specs.Calling.{call_state, call_answer, lines_told, replied_behind, call_resolved, call_open, back_from_call}
use Rattle.abi_machine.specs.Copying.{blocked_word}
use Rattle.abi_machine.specs.Delivering.{told_payload}
use Rattle.abi_machine.specs.Cancelling.{first_of, cancel_open, back_from_cancel, back_to, back_turn}
use Rattle.abi_machine.specs.Returning.{result_passed, result_lowering, post_return_call, post_return, finished, passed_to, passed_on, resolves_to, resolves, returning_turn, ending_turn, leaving_turn}
use Rattle.abi_machine.specs.Looping.{next_turn, looping_turn}
use Rattle.abi_machine.specs.CoreSteps.{costs, func_ended, stack_ended, ended_over, moved, running_turn}
use Rattle.abi_machine.specs.Lowering.{lowered}
use Rattle.abi_machine.specs.Nested.{nested_ended}
use Rattle.abi_machine.proofs.sound.Found.{acting_first, acting_is, changed_there}
use Rattle.abi_machine.proofs.sound.Lifts.{Leaves as LeavesWith}
use Rattle.abi_machine.proofs.sound.known.Lifting.{result_keeps}
use Rattle.reach_laws.proofs.free.Steps.{IsReached, ComesOn, Soon, goes_on, doomed_comes, soon_doomed, soon_given, soon_found, soon_none, soon_behind, soon_either, soon_unless, soon_refused, soon_fault, soon_entry, soon_came, soon_func, soon_subtask, soon_paid}
use Rattle.reach_laws.proofs.free.Stacks.{AreHeld, StartsBehind, IsHolding, hold_any, At, at_ready, at_task, at_state, at_answered, at_unstacked, at_stack, at_subtask}
use Rattle.reach_laws.proofs.free.Nested.{Stays, quiet_comes, lowering_comes}
use Rattle.reach_laws.proofs.free.Scheduling.{free_comes, ActionsCome}

-- the acting task, where it is changed
pub acting_changed : (w : World) (a : ℕ × Task) (f : Task → Task) → acting w ≡ Some a → acting (with_task a.0 f w) ≡ Some (a.0, f a.1)
acting_changed w a f e =
    ap (found_at (changed_at a.0 f w.tasks)) (acting_first w a e) ∙ ap (option_map (λ (task : Task). (a.0, task))) (changed_there a.0 f w.tasks a.1 (acting_is w a e))

module _ (g : Graph) (s : Script) (from : ℕ) where
  pub at_stays : (chain : List ℕ) → Stays g s (At g s from chain)
  at_stays chain = record {
    ready = λ w h. at_ready g s from chain w h;
    controls = λ w control h. h;
    stores = λ w t h. h;
    tables = λ w i f h. h;
    words = λ w t slot word h. at_task g s from chain t _ w (λ x k. k) h;
  }

  -- Control is back behind such a chain, or no task runs.
  abbrev pub BackComes : List ℕ → Type 0
  BackComes chain = (w : World) → At g s from chain w → IsReached g s (with_control (control_behind w.chain) w) → ComesOn g s (with_control (control_behind w.chain) w)

  -- The acting task's stacks are at no function of the host that runs alone.
  abbrev pub RunsCome : List ℕ → Type 0
  RunsCome chain = (w : World) → At g s from chain w → IsReached g s (with_control Runs w) → ComesOn g s (with_control Runs w)

  pub replied_soon : (chain : List ℕ) → RunsCome chain → (t : ℕ) (words : List ℕ) (w : World) → At g s from chain w → Soon g s (replied t words w)
  replied_soon chain runs t words w h = λ kept. runs (answered t words w) (at_answered g s from chain t words w h) kept

  pub replied_behind_soon : (chain : List ℕ) → RunsCome chain → (t : ℕ) (lines : List Label) (words : List ℕ) (w : World) → At g s from chain w → Soon g s (replied_behind t lines words w)
  replied_behind_soon chain runs t lines words w h = λ kept. runs (answered t words w) (at_answered g s from chain t words w h) kept

  left : (chain : List ℕ) (w : World) → At g s from chain w → At g s from (drop 1 chain) (unchained w)
  left chain w h = (ap (λ (c : List ℕ). drop 1 c) h.0, h.1, h.2)

  pub blocked_soon : (chain : List ℕ) → BackComes (drop 1 chain) → (t : ℕ) (state : TaskState) (why : BlockReason) (w : World) → StartsBehind from state → At g s from chain w → Soon g s (blocked t state why w)
  blocked_soon chain back t state why w starts h = λ kept. back (unchained (in_state t state w)) (left chain (in_state t state w) (at_state g s from chain t state w starts h)) kept

  -- From the end of a task's core function to its exit.
  module _ (chain : List ℕ) (back : BackComes (drop 1 chain)) where
    abbrev Here : World → Type 0
    Here w = At g s from chain w

    pub leaves_come : (w : World) → Here w → IsReached g s (with_control Leaves w) → ComesOn g s (with_control Leaves w)
    unfolding leaving_turn
    leaves_come w h kept =
        goes_on g s (with_control Leaves w) kept
        (soon_given g s (acting w) _ (λ a e kept. back (unchained (in_state a.0 Exited w)) (left chain (in_state a.0 Exited w) (at_state g s from chain a.0 Exited w tt h)) kept))

    -- Behind a post-return the task exits.
    pub behind_post : (w : World) (words : List ℕ) → Here w → Soon g s (nested_ended BeforeLeaving words w)
    unfolding nested_ended
    behind_post w words h = λ kept. leaves_come w h kept

    post_soon : (t : ℕ) (f : Lifted) (ended : List ℕ) (o : Option FuncRef) (w : World) → Here w → Soon g s (post_return t f ended o w)
    unfolding post_return
    post_soon t f ended None w h = λ kept. leaves_come w h kept
    post_soon t f ended (Some ref) w h =
        soon_given g s (found_at w.store.funcs (func_address w.store ref)) _ (λ function e kept.
        quiet_comes g s Here (at_stays chain) BeforeLeaving behind_post (post_return_call t f ended function) w tt h kept)

    pub exits_soon : (ended : List ℕ) (w : World) → Here w → Soon g s (finished (Finishes ended) w)
    unfolding finished
    exits_soon ended w h = soon_func g s w _ (λ t task f acts runs. post_soon t f ended f.options.post_return w h)

    -- A task resolves with a result, by what follows it.
    module _ (after : After) (done : (w : World) → Here w → Soon g s (finished after w)) where
      pub behind_result : (to : ℕ) (w : World) (words : List ℕ) → Here w → Soon g s (lowered (Resolves to after) words w)
      unfolding lowered
      behind_result to w words h = done (result_kept to words w) (at_subtask g s from chain to _ w h)

      passed_soon : (t : ℕ) (caller : Caller) (result : Option TypedValue) (w : World) → Here w → Soon g s (passed_on g t caller after result w)
      unfolding passed_on passed_to
      passed_soon t (Guest subtask) (Some result) w h =
          soon_given g s (canon_at g subtask.canon) _ (λ c e kept.
          lowering_comes g s Here (at_stays chain) (result_lowering w t subtask c after) (behind_result t)
          (result_plan (entries_by (defines g (inst_of_canon c))) (options_of_canon c).is_async result.val_type result.value subtask.words) w h kept)
      passed_soon t (Guest subtask) None w h = done w h
      passed_soon t Nobody result w h = done w h
      passed_soon t (Host call values) result w h = done w h

      resolves_soon : (t : ℕ) (task : Task) (came : Came (Option TypedValue)) → LeavesWith (λ (k : Kept). Here k.world) (λ (stop : Stopped). Here stop.world) came → Soon g s (resolves g t task after came)
      unfolding resolves resolves_to
      resolves_soon t task came leaves =
          soon_came g s Here t came (λ result w. resolves_to g t task after result w) leaves (λ result w h.
          soon_fault g s t task_name (resolving_fault (task_view g w t task)) w _
          (soon_behind g s (line.Return t result ∷ []) _ (passed_soon t task.caller result (resolved t Returned w) (at_task g s from chain t _ w (λ x k. k) h))))

      pub result_soon : (t : ℕ) (task : Task) (i limit : ℕ) (type : Option ValType) (options : Options) (words : List ℕ) (w : World) → Here w
          → Soon g s (resolves g t task after (result_passed i t limit type options words w))
      result_soon t task i limit type options words w h =
          resolves_soon t task (result_passed i t limit type options words w)
          (result_keeps Here (λ j index v stands k. k) (λ j index v stands k. k) (λ callee index v k. at_subtask g s from chain callee _ v k) i t limit type options words w h)

    -- The core function or the callback of a task has ended.
    ending_soon : (t : ℕ) (task : Task) (w : World) → Here w → Soon g s (ending_turn t task w)
    unfolding ending_turn
    ending_soon t task w h = soon_unless g s t (is_none task.resolution) trap.Unresolved w (silent Leaves w) (λ e kept. leaves_come w h kept)

    word_soon : (t : ℕ) (task : Task) (i word : ℕ) (r : Result Next BadCode) (w : World) → Here w → Soon g s (next_turn t task i word r w)
    unfolding next_turn
    word_soon t task i word (Err why) w h = soon_doomed g s w t trap.BadCode
    word_soon t task i word (Ok next.Exit) w h = ending_soon t task w h
    word_soon t task i word (Ok next.Yield) w h = blocked_soon chain back t (InLoop word) reason.Yield w tt h
    word_soon t task i word (Ok (next.Wait set)) w h = soon_refused g s t (set_at w i set) w _ (λ number e. blocked_soon chain back t (InLoop word) (reason.Wait set) w tt h)
    word_soon t task i word (Ok (next.Poll set)) w h = soon_refused g s t (set_at w i set) w _ (λ number e. blocked_soon chain back t (InLoop word) (reason.Poll set) w tt h)

    looping_soon : (t : ℕ) (task : Task) (i : ℕ) (words : List ℕ) (w : World) → Here w → Soon g s (looping_turn t task i words w)
    unfolding looping_turn
    looping_soon t task i [] w h = tt
    looping_soon t task i (word ∷ words) w h = word_soon t task i word (callback_of word) w h

    func_soon : (t : ℕ) (task : Task) (f : Lifted) (kind : Kind) (words : List ℕ) (w : World) → Here w → Soon g s (func_ended g t task f kind words w)
    unfolding func_ended returning_turn
    func_soon t task f Sync words w h = result_soon (Finishes words) (exits_soon words) t task f.instance flat_result_limit f.func_type.result f.options words w h
    func_soon t task f Stackful words w h = ending_soon t task w h
    func_soon t task f Callback words w h = looping_soon t task f.instance words w h

    -- What is behind a start function comes on too.
    module _ (actions : ActionsCome g s from) where
      stack_soon : (t : ℕ) (task : Task) (state : TaskState) (words : List ℕ) (w : World) → StartsBehind from state → Here w → Soon g s (stack_ended g t task state words w)
      unfolding stack_ended
      stack_soon t task (Begins n) words w starts h = λ kept.
          actions n starts (in_state t Acting w) (at_ready g s from chain (in_state t Acting w) (at_state g s from chain t Acting w tt h)) kept
      stack_soon t task Acting words w starts h = soon_given g s (func_of task.callee) _ (λ f e. func_soon t task f (kind_of task) words w h)
      stack_soon t task New words w starts h = tt
      stack_soon t task (AfterCall callee number args) words w starts h = tt
      stack_soon t task (AfterCancel callee number args) words w starts h = tt
      stack_soon t task WaitsToEnter words w starts h = tt
      stack_soon t task (InLoop code) words w starts h = tt
      stack_soon t task (InBuiltin number args wait) words w starts h = tt
      stack_soon t task Exited words w starts h = tt

      -- The acting task's stack runs, over others.
      abbrev HeldRun : List Stack → Store → Stack → Type 0
      HeldRun under t k = (w : World) (a : ℕ × Task) → w.store ≡ t → acting w ≡ Some a → a.1.stacks ≡ k ∷ under → Here w → IsReached g s (with_control Runs w) → ComesOn g s (with_control Runs w)

      abbrev OverSoon : List Stack → Type 0
      OverSoon under = (w : World) (a : ℕ × Task) (words : List ℕ) → acting w ≡ Some a → drop 1 a.1.stacks ≡ under → Here w → Soon g s (ended_over g a.0 a.1 under words (unstacked a.0 w))

      holds : (w : World) (a : ℕ × Task) → acting w ≡ Some a → Here w → IsHolding from a.1
      holds w a acts h = all_at (IsHolding from) w.tasks a.0 a.1 h.2 (acting_is w a acts)

      held_step : (under : List Stack) → OverSoon under → (t : Store) (k : Stack) → ((u : Store) (l : Stack) → core.next t k ≡ Goes false u l → HeldRun under u l) → HeldRun under t k
      unfolding running_turn moved
      held_step under over t k more w a store acts stacks h kept =
          goes_on g s (with_control Runs w) kept
          (soon_found g s (acting w) a _ acts (soon_found g s (slice_get a.1.stacks 0) k _ (ap (λ (ks : List Stack). slice_get ks 0) stacks) (by (core.next w.store k) refl (next_holds w.store k))))
        where
          v : World
          v = with_control Free w

          held : IsHeld k
          held = (let all : AreHeld (k ∷ under) = subst AreHeld stacks (holds w a acts h).0 in all.0)

          at_new : (l : Stack) → l ∷ drop 1 a.1.stacks ≡ l ∷ under
          at_new l = ap (λ (ks : List Stack). l ∷ drop 1 ks) stacks

          free : (u : Store) (l : Stack) → core.next w.store k ≡ Goes false u l → IsHeld l → Soon g s (silent Runs (with_stack a.0 l (with_store u v)))
          free u l e i kept =
              more u l (ap (λ (t : Store). core.next t k) (sym store) ∙ e) (with_stack a.0 l (with_store u w)) (a.0, (let x : Task = record a.1 { stacks = l ∷ drop 1 a.1.stacks } in x)) refl
              (acting_changed w a (λ task. record task { stacks = l ∷ drop 1 task.stacks }) acts) (at_new l) (at_stack g s from chain a.0 l w i h) kept

          pays : (u : Store) (l : Stack) → IsHeld l → Soon g s (charged true s v (λ v. silent Runs (with_stack a.0 l (with_store u v))))
          pays u l i =
              soon_paid g s v (λ v. silent Runs (with_stack a.0 l (with_store u v))) (λ few kept.
              h.1 (with_control Runs (with_stack a.0 l (with_store u (unit_spent v)))) refl few (hold_any from (with_stack a.0 l w).tasks (at_stack g s from chain a.0 l w i h).2) tt kept)

          calls : (address : ℕ) (words : List ℕ) (l : Stack) → IsHeld l → Soon g s (charged true s v (λ v. silent (control.Calls address words) (with_stack a.0 l v)))
          calls address words l i =
              soon_paid g s v (λ v. silent (control.Calls address words) (with_stack a.0 l v)) (λ few kept.
              h.1 (with_control (control.Calls address words) (with_stack a.0 l (unit_spent v))) refl few (hold_any from (with_stack a.0 l w).tasks (at_stack g s from chain a.0 l w i h).2) tt kept)

          at_host : (j : Stack) (address : ℕ) (words : List ℕ) (l : Stack) → core.next w.store j ≡ core.Calls address words l → IsHeld j → IsHeld l
              → Soon g s (charged (costs j (core.Calls address words l)) s v (λ v. silent (control.Calls address words) (with_stack a.0 l v)))
          at_host (Running f fs) address words l e j i = calls address words l i
          at_host (AtHost n args) address words l e j i = absurd j
          at_host (Given none) address words l e j i = cc

          by : (m : Move) → core.next w.store k ≡ m → MoveHolds m → Soon g s (charged (costs k m) s v (λ v. moved g a.0 a.1 m v))
          by (Goes true u l) e i = pays u l i
          by (Goes false u l) e i = free u l e i
          by (core.Calls address words l) e i = at_host k address words l e held i
          by (core.Ends words) e i =
              subst (λ (ks : List Stack). Soon g s (ended_over g a.0 a.1 ks words (unstacked a.0 v))) (sym (ap (λ (ks : List Stack). drop 1 ks) stacks))
              (over v a words acts (ap (λ (ks : List Stack). drop 1 ks) stacks) h)
          by (Traps why) e i = soon_paid g s v (λ v. doomed a.0 (core_name why) v) (λ few kept. doomed_comes g s (unit_spent v) a.0 (core_name why))
          by core.Stuck e i = tt

      over_none : OverSoon []
      unfolding ended_over
      over_none w a words acts none h = stack_soon a.0 a.1 a.1.state words (unstacked a.0 w) (holds w a acts h).1 (at_unstacked g s from chain a.0 w h)

      over_one : (l : Stack) (under : List Stack) → ((t : Store) (k : Stack) → HeldRun under t k) → OverSoon (l ∷ under)
      unfolding ended_over
      over_one l under run w a words acts e h = λ kept.
          let x : Task = record a.1 { stacks = drop 1 a.1.stacks } in
          let y : Task = record x { stacks = answered_stacks [] x.stacks } in
          run w.store (resume [] l) (answered a.0 [] (unstacked a.0 w)) (a.0, y) refl
          (acting_changed (unstacked a.0 w) (a.0, x) (λ task. record task { stacks = answered_stacks [] task.stacks }) (acting_changed w a (λ task. record task { stacks = drop 1 task.stacks }) acts))
          (ap (answered_stacks []) e) (at_answered g s from chain a.0 [] (unstacked a.0 w) (at_unstacked g s from chain a.0 w h)) kept

      held_run : (under : List Stack) (t : Store) (k : Stack) → HeldRun under t k
      held_run [] t k = by_free_moves (HeldRun []) (held_step [] over_none) t k
      held_run (l ∷ under) t k = by_free_moves (HeldRun (l ∷ under)) (held_step (l ∷ under) (over_one l under (held_run under))) t k

      pub runs_here : RunsCome chain
      unfolding running_turn
      runs_here w h kept = by (acting w) refl
        where
          stacked : (a : ℕ × Task) → acting w ≡ Some a → (ks : List Stack) → a.1.stacks ≡ ks → ComesOn g s (with_control Runs w)
          stacked a e [] f = goes_on g s (with_control Runs w) kept (soon_found g s (acting w) a _ e (soon_none g s (slice_get a.1.stacks 0) _ (ap (λ (ks : List Stack). slice_get ks 0) f)))
          stacked a e (k ∷ under) f = held_run under w.store k w a refl e f h kept

          by : (o : Option (ℕ × Task)) → acting w ≡ o → ComesOn g s (with_control Runs w)
          by None e = goes_on g s (with_control Runs w) kept (soon_none g s (acting w) _ e)
          by (Some a) e = stacked a e a.1.stacks refl

      -- Control is back at a task that called or cancelled another one.
      open_soon : (t i callee : ℕ) (task : Task) (is_async : Bool) (number : ℕ) (words : List ℕ) (w : World) → Here w → Soon g s (call_open t i callee task is_async number words w)
      unfolding call_open
      open_soon t i callee task true number words w h =
          soon_entry g s t i (OfSubtask callee) w (λ index v. replied t (call_state task index ∷ []) (told callee (subtask_state task) v))
          (replied_soon chain runs_here t (call_state task (next_index (table_of w i)) ∷ []) (told callee (subtask_state task) (entry_added i (OfSubtask callee) w)) (at_subtask g s from chain callee _ (entry_added i (OfSubtask callee) w) h))
      open_soon t i callee task false number words w h = blocked_soon chain back t (InBuiltin number words (ForCall callee)) (reason.Call callee) w tt h

      cancel_soon : (t number : ℕ) (words : List ℕ) (w : World) → Here w → Soon g s (cancel_open g t number words w)
      unfolding cancel_open
      cancel_soon t number words w h =
          soon_either g s (flag_at g number) (replied t (blocked_word ∷ []) w) (blocked t (InBuiltin number words (ForCancel (first_of words))) (reason.Cancel (first_of words)) w)
          (λ e. replied_soon chain runs_here t (blocked_word ∷ []) w h) (λ e. blocked_soon chain back t (InBuiltin number words (ForCancel (first_of words))) (reason.Cancel (first_of words)) w tt h)

      back_soon : (t i : ℕ) (state : TaskState) (w : World) → Here w → Soon g s (back_to g t i state w)
      unfolding back_to back_from_call back_from_cancel call_resolved told_payload
      back_soon t i (AfterCall callee number words) w h =
          let v : World = in_state t Acting w in
          let k : Here v = at_state g s from chain t Acting w tt h in
          soon_subtask g s w callee _ (λ task subtask.
          soon_either g s (has_resolved task) _ (call_open t i callee task (options_at g number).is_async number words v)
          (λ e. replied_behind_soon chain runs_here t (lines_told i callee (has_resolved task) subtask.lends) (call_answer (options_at g number).is_async subtask.result) (told callee (subtask_state task) v)
          (at_subtask g s from chain callee _ v k)) (λ e. open_soon t i callee task (options_at g number).is_async number words v k))
      back_soon t i (AfterCancel callee number words) w h =
          let v : World = in_state t Acting w in
          let k : Here v = at_state g s from chain t Acting w tt h in
          soon_subtask g s v callee _ (λ task subtask.
          soon_either g s (has_resolved task) _ (cancel_open g t number words v)
          (λ e. replied_behind_soon chain runs_here t (lines_told i callee (has_resolved task) subtask.lends) (state_of task ∷ []) (told callee (subtask_state task) v) (at_subtask g s from chain callee _ v k))
          (λ e. cancel_soon t number words v k))
      back_soon t i New w h = tt
      back_soon t i Acting w h = tt
      back_soon t i (Begins n) w h = tt
      back_soon t i WaitsToEnter w h = tt
      back_soon t i (InLoop word) w h = tt
      back_soon t i (InBuiltin number words wait) w h = tt
      back_soon t i Exited w h = tt

      pub back_here : (w : World) → Here w → IsReached g s (with_control Back w) → ComesOn g s (with_control Back w)
      unfolding back_turn
      back_here w h kept = goes_on g s (with_control Back w) kept (soon_func g s (with_control Free w) _ (λ t task f acts runs. back_soon t f.instance task.state (with_control Free w) h))

  module _ (actions : ActionsCome g s from) where
    pub back_comes : (chain : List ℕ) → BackComes chain
    back_comes [] w h =
        subst (λ (c : List ℕ). IsReached g s (with_control (control_behind c) w) → ComesOn g s (with_control (control_behind c) w)) (sym h.0) (free_comes g s w (at_ready g s from [] w h))
    back_comes (t ∷ below) w h =
        subst (λ (c : List ℕ). IsReached g s (with_control (control_behind c) w) → ComesOn g s (with_control (control_behind c) w)) (sym h.0) (back_here (t ∷ below) (back_comes below) actions w h)

    pub runs_come : (chain : List ℕ) → RunsCome chain
    runs_come chain = runs_here chain (back_comes (drop 1 chain)) actions
