-- How tasks resolve and exit, the moves of core functions, and instantiation keep what each change keeps.
use Rattle.std.proofs.Common.{◌≡◌, inr, ℕ, suc, ◌+◌, Bool, true, false, List, [], ◌∷◌, length, drop, refl, sym, ap, ◌∙◌, subst, Option, Some, None, Result, Ok, Err}
use Rattle.std.specs.Prelude.{IsSome, is_none}
use Rattle.std.specs.List.{slice_get, AllByRecursion}
use Rattle.std.specs.Option.{option_map}
use Rattle.wasm_store.proofs.Lists.{all_at}
use Rattle.wasm_store.specs.Store.{found_at}
use Rattle.wasm_store.specs.Stack.{Stack}
use Rattle.wasm_store.specs.Step.{Move, Goes, Traps}
use Rattle.wasm_store.specs.Step as core
use Rattle.wasm_store.specs.Instantiation.{External, Instantiation, Makes, instance_of, instantiated, start_call}
use Rattle.wasm_store.specs.Instantiation as core_instance
use Rattle.entry_gate.specs.Callbacks.{callback_of}
use Rattle.entry_gate.specs.declared.kind.Kind.{Kind}
use Rattle.entry_gate.specs.declared.kind.Kind.TheVariants.{Sync, Callback, Stackful}
use Rattle.entry_gate.specs.declared.callback.BadCode.{BadCode}
use Rattle.entry_gate.specs.declared.callback.Next.{Next}
use Rattle.entry_gate.specs.declared.callback.Next.TheVariants as next
use Rattle.tasks.specs.declared.phase.Resolution.TheVariants.{Returned}
use Rattle.tasks.specs.Tasks.{resolving_fault}
use Rattle.comp_graph.specs.declared.graph.Action.{Action}
use Rattle.comp_graph.specs.declared.graph.Action.TheVariants.{Begin, Make}
use Rattle.comp_graph.specs.declared.graph.FuncRef.{FuncRef}
use Rattle.comp_graph.specs.Graph.{CoreMake, Graph, Lifted}
use Rattle.script_reader.specs.Script.{Script}
use Rattle.trace_labels.specs.declared.label.Label.TheVariants as line
use Rattle.trace_labels.specs.declared.label.BlockReason.{BlockReason}
use Rattle.trace_labels.specs.declared.label.BlockReason.TheVariants as reason
use Rattle.trace_labels.specs.declared.trap.TrapName.TheVariants as trap
use Rattle.trace_labels.specs.declared.typed.TypedValue.{TypedValue}
use Rattle.abi_machine.specs.Traps.{core_name, task_name}
use Rattle.abi_machine.specs.Control.{After, Replies, Finishes, Free, Instantiates, Runs, Leaves, Doomed}
use Rattle.abi_machine.specs.Control as control
use Rattle.abi_machine.specs.World.{Inst, Callee, Caller, Nobody, Host, Guest, TaskState, New as IsNew, Acting, AfterCall, AfterCancel, Begins, WaitsToEnter, InLoop, InBuiltin, Exited, Task, World}
use Rattle.abi_machine.specs.Edits.{with_control, with_store, in_state, resolved, control_behind}
use Rattle.abi_machine.specs.Canons.{func_address, canon_at, externals, inst_of_canon, options_of_canon}
use Rattle.abi_machine.specs.Reading.{table_in, table_of, acting, func_of, kind_of}
use Rattle.abi_machine.specs.Counting.{task_view}
use Rattle.abi_machine.specs.Finding.{set_at}
use Rattle.abi_machine.specs.Lifting.{Came}
use Rattle.abi_machine.specs.Turn.{blocked}
use Rattle.abi_machine.specs.Returning.{post_return, finished, passed_to, passed_on, resolves_to, resolves, returning_turn, ending_turn, leaving_turn}
use Rattle.abi_machine.specs.Looping.{next_turn, looping_turn}
use Rattle.abi_machine.specs.CoreSteps.{costs, func_ended, stack_ended, ended_over, moved, running_turn}
use Rattle.abi_machine.specs.Instantiating.{started_up, made as core_made, action_turn, instantiating_turn}
use Rattle.abi_machine.specs.sound.Changes.{HasStore, BeginsInstance, Acts, Begins as IsBegun, Exits, Resolves as IsResolved, HasStack, LosesStack, after, IsFirst, HasFunc}
use Rattle.abi_machine.specs.sound.Acting.{Outline, outline_of, outlines_of, HasStacks, WaitsWith, IsStarting, IsActing, RunsIn, IsRunning, OneActs, stacked_after}
use Rattle.abi_machine.specs.sound.Owners.{owner_of_core, owner_of_func, owner_of_extern, IsMadeUpTo, IsOwnStack, IsStateOwn}
use Rattle.abi_machine.specs.sound.Loops.{GoesOnBy, LoopsIn}
use Rattle.abi_machine.proofs.sound.Lifts.{Leaves as LeavesWith}
use Rattle.abi_machine.proofs.sound.own.Lists.{LeavesWith as LeavesWithin}
use Rattle.abi_machine.proofs.sound.own.Belonging.{ref_starts, options_realloc, if_there, IsOwnMove, own_moves, IsMore, core_more, begin_next, MakesNext, make_next, canon_apart}
use Rattle.abi_machine.proofs.sound.own.Tasks.{own_task, control_own, store_own, IsOfFunc, mine_is, lifted_by, stack_by, calls_by, init_own, more_own}
use Rattle.abi_machine.proofs.sound.known.Lifting.{result_keeps}
use Rattle.abi_machine.proofs.sound.Found.{func_changed, acting_first, acting_is, set_stands}
use Rattle.abi_machine.proofs.sound.Outlines.{Is, as_is, state_first, stacks_first, Runs as InTask, acting_waits}
use Rattle.abi_machine.proofs.sound.acts.Keeping.{is_first, acts_at, acts_by, left_acts}
use Rattle.abi_machine.proofs.sound.acts.Moving.{IsLeftAs, left_runs, may_stack, stacked_again, runs_now}
use Rattle.abi_machine.proofs.sound.known.Keeping.{Walk, Keeps, Held, still, given_keeps, behind_keeps, goes, refused_keeps, unless_keeps, fault_keeps, charged_keeps, runs_keeps, on_keeps, blocked_keeps, behind_promised, new_stack_keeps, removes, waits, lends, KeptSo, StoppedSo, came_keeps, WaitsElse, WaitsForNone, acting_waits_else}

-- a task whose function it is goes on in its loop by what the word says
loops_by : (insts : List Inst) (f : Lifted) (word : ℕ) (r : Result Next BadCode) (o : Option Lifted) → callback_of word ≡ r → GoesOnBy (table_in (slice_get insts f.instance)) r → o ≡ Some f → LoopsIn insts o word
loops_by insts f word r o e h k =
    subst (λ (x : Option Lifted). LoopsIn insts x word) (sym k) (subst (GoesOnBy (table_in (slice_get insts f.instance))) (sym e) h)

loops_now : (t : ℕ) (f : Lifted) (word : ℕ) (r : Result Next BadCode) (w : World) → callback_of word ≡ r → Is (λ o. func_of o.callee ≡ Some f) t w → GoesOnBy (table_of w f.instance) r
    → Is (λ o. LoopsIn w.insts (func_of o.callee) word) t w
loops_now t f word r w e own h = as_is (λ o. func_of o.callee ≡ Some f) (λ o. LoopsIn w.insts (func_of o.callee) word) t w (λ o k. loops_by w.insts f word r (func_of o.callee) e h k) own

module _ {g : Graph} {s : Script} (walk : Walk g s) where
  -- Tasks resolve and exit.

  pub finished_keeps : (follows : After) (w : World) → walk.Holds w → OneActs (IsActing (stacked_after follows)) (outlines_of w.tasks) w.chain → Keeps walk (finished follows w)
  unfolding finished post_return
  finished_keeps Replies w h o = given_keeps walk (acting w) _ (λ a e. on_keeps walk a.0 [] w (h, acts_at (IsActing true) w a e o))
  finished_keeps (Finishes ended) w h o = given_keeps walk (acting w) _ (λ a e. given_keeps walk (func_of a.1.callee) _ (λ f i. by a f (mine_is w a f e i) f.options.post_return refl (acting_first w a e)))
    where
      by : (a : ℕ × Task) (f : Lifted) → Is (IsOfFunc f) a.0 w → (r : Option FuncRef) → f.options.post_return ≡ r → IsFirst a.0 w.chain → Keeps walk (post_return a.0 f ended r w)
      by a f mine None k first = (goes walk Leaves w h, tt, o)
      by a f mine (Some ref) k first =
          given_keeps walk (found_at w.store.funcs (func_address w.store ref)) _ (λ function j. (
            goes walk _ w h,
            (λ apart. (
              ref_starts g w.store f.instance ref function ended (walk.own apart w h).canons (walk.own apart w h).owned
                  (if_there (λ (x : FuncRef). owner_of_func g x ≡ Some f.instance) f.options.post_return ref k (lifted_by g w a.0 f (walk.own apart w h) mine).1.post_return) j,
              tt,
            )),
            (o, first, tt),
          ))

  passed_keeps : (t : ℕ) (caller : Caller) (follows : After) (result : Option TypedValue) (w : World) → Held walk (stacked_after follows) t w → Keeps walk (passed_on g t caller follows result w)
  unfolding passed_on passed_to
  passed_keeps t Nobody follows result w h = finished_keeps follows w h.0 (t, h.1)
  passed_keeps t (Host call values) follows result w h = finished_keeps follows w h.0 (t, h.1)
  passed_keeps t (Guest subtask) follows None w h = finished_keeps follows w h.0 (t, h.1)
  passed_keeps t (Guest subtask) follows (Some result) w h = given_keeps walk (canon_at g subtask.canon) _ (λ c e. (goes walk _ w h.0, (λ apart. options_realloc g w.store (inst_of_canon c) (options_of_canon c) (walk.own apart w h.0).canons (walk.own apart w h.0).owned (canon_apart g subtask.canon c (walk.graph apart) e).0), ((t, h.1), (h.1.0, h.1.0))))

  pub resolves_keeps : (t : ℕ) (task : Task) (follows : After) (came : Came (Option TypedValue)) → LeavesWith (KeptSo walk (stacked_after follows) t) (StoppedSo walk (stacked_after follows) t) came
      → Keeps walk (resolves g t task follows came)
  unfolding resolves resolves_to
  resolves_keeps t task follows came h =
      let b : Bool = stacked_after follows in
      came_keeps walk b t came (λ result w. resolves_to g t task follows result w) h (λ result w i.
      fault_keeps walk t task_name (resolving_fault (task_view g w t task)) w _ (i.0, i.1.0)
      (behind_keeps walk (line.Return t result ∷ []) (passed_on g t task.caller follows result (resolved t Returned w)) (passed_keeps t task.caller follows result (resolved t Returned w) (still walk b t (IsResolved t Returned) w tt tt (λ apart. tt) tt i))))

  ending_keeps : (t : ℕ) (task : Task) (w : World) → Held walk false t w → Keeps walk (ending_turn t task w)
  unfolding ending_turn
  ending_keeps t task w h = unless_keeps walk t (is_none task.resolution) trap.Unresolved w _ (h.0, h.1.0) (λ e. (goes walk Leaves w h.0, tt, (t, h.1)))

  pub leaving_keeps : (w : World) → walk.Holds w → OneActs (IsActing false) (outlines_of w.tasks) w.chain → Keeps walk (leaving_turn w)
  unfolding leaving_turn
  leaving_keeps w h o =
      given_keeps walk (acting w) _ (λ a e. (
        goes walk (control_behind (drop 1 w.chain)) (after (Exits a.0) w)
            (walk.stays (Exits a.0) w (acting_first w a e) (as_is (IsActing false) (λ x. HasStacks false x.stacks) a.0 w (λ x k. k.2) (acts_at (IsActing false) w a e o), acting_waits_else false a.0 w (acts_at (IsActing false) w a e o)) (λ apart. tt) h),
        behind_promised walk.Apart walk.Event g s (drop 1 w.chain) (with_control (control_behind (drop 1 w.chain)) (after (Exits a.0) w)),
        left_acts w a.0 Exited (acting_first w a e) (walk.chained w h),
      ))

  -- Core functions make moves.

  -- A task blocks in its loop.
  looped_keeps : (t word : ℕ) (why : BlockReason) (w : World) → HasFunc w.tasks t → Is (λ o. LoopsIn w.insts (func_of o.callee) word) t w → Held walk false t w → Keeps walk (blocked t (InLoop word) why w)
  looped_keeps t word why w runs loops h = blocked_keeps walk t (InLoop word) why w h.1.0 tt (inr runs) loops (λ asks. tt) (λ copies. tt) (λ apart. tt) (acting_waits_else false t w h.1) tt (as_is (IsActing false) (WaitsWith false) t w (acting_waits false) h.1) h.0

  next_keeps : (t : ℕ) (task : Task) (f : Lifted) (word : ℕ) (r : Result Next BadCode) (w : World) → callback_of word ≡ r → HasFunc w.tasks t → Is (λ o. func_of o.callee ≡ Some f) t w → Held walk false t w
      → Keeps walk (next_turn t task f.instance word r w)
  unfolding next_turn
  next_keeps t task f word (Err why) w e runs own h = (goes walk (Doomed t trap.BadCode) w h.0, tt, h.1.0)
  next_keeps t task f word (Ok next.Exit) w e runs own h = ending_keeps t task w h
  next_keeps t task f word (Ok next.Yield) w e runs own h = looped_keeps t word reason.Yield w runs (loops_now t f word (Ok next.Yield) w e own tt) h
  next_keeps t task f word (Ok (next.Wait set)) w e runs own h =
      refused_keeps walk t (set_at w f.instance set) w _ (h.0, h.1.0)
      (λ number i. looped_keeps t word (reason.Wait set) w runs (loops_now t f word (Ok (next.Wait set)) w e own (number, set_stands w f.instance set number i)) h)
  next_keeps t task f word (Ok (next.Poll set)) w e runs own h =
      refused_keeps walk t (set_at w f.instance set) w _ (h.0, h.1.0)
      (λ number i. looped_keeps t word (reason.Poll set) w runs (loops_now t f word (Ok (next.Poll set)) w e own (number, set_stands w f.instance set number i)) h)

  looping_keeps : (t : ℕ) (task : Task) (f : Lifted) (words : List ℕ) (w : World) → HasFunc w.tasks t → Is (λ o. func_of o.callee ≡ Some f) t w → Held walk false t w → Keeps walk (looping_turn t task f.instance words w)
  unfolding looping_turn
  looping_keeps t task f [] w runs own h = tt
  looping_keeps t task f (word ∷ words) w runs own h = next_keeps t task f word (callback_of word) w refl runs own h

  func_keeps : (t : ℕ) (task : Task) (f : Lifted) (kind : Kind) (words : List ℕ) (w : World) → HasFunc w.tasks t → Is (λ o. func_of o.callee ≡ Some f) t w → Held walk false t w → Keeps walk (func_ended g t task f kind words w)
  unfolding func_ended returning_turn
  func_keeps t task f Sync words w runs own h =
      resolves_keeps t task (Finishes words) _ (result_keeps (Held walk false t) (removes walk false t) (waits walk false t) (lends walk false t) f.instance t _ f.func_type.result f.options words w h)
  func_keeps t task f Stackful words w runs own h = ending_keeps t task w h
  func_keeps t task f Callback words w runs own h = looping_keeps t task f words w runs own h

  stack_keeps : (t : ℕ) (task : Task) (state : TaskState) (words : List ℕ) (w : World) → Is (IsLeftAs task.callee state []) t w → RunsIn state task.callee → (IsSome (func_of task.callee) → HasFunc w.tasks t)
      → (walk.Apart → IsStateOwn g (length w.store.instances) (func_of task.callee) state) → walk.Holds w
      → Keeps walk (stack_ended g t task state words w)
  unfolding stack_ended
  stack_keeps t task (Begins n) words w a r runs own h =
      (goes walk (Instantiates n) (in_state t Acting w) (walk.stays (Acts t) w a.0 (λ joins. as_is (IsLeftAs task.callee (Begins n) []) (λ o. WaitsElse o.state) t w (λ o k. subst WaitsElse (sym k.1) tt) a) (λ apart. tt) h), own, (t, state_first IsStarting (IsLeftAs task.callee (Begins n) []) w t Acting (λ o k. (refl, k.2)) a))
  stack_keeps t task Acting words w a r runs own h =
      given_keeps walk (func_of task.callee) _ (λ f e. func_keeps t task f (kind_of task) words w (runs r) (as_is (IsLeftAs task.callee Acting []) (λ o. func_of o.callee ≡ Some f) t w (λ o k. ap func_of k.0 ∙ e) a)
      (h, as_is (IsLeftAs task.callee Acting []) (IsActing false) t w (λ o k. (subst (λ (c : Callee). IsSome (func_of c)) (sym k.0) r, k.1, k.2)) a))
  stack_keeps t task IsNew words w a r runs own h = tt
  stack_keeps t task (AfterCall callee number others) words w a r runs own h = tt
  stack_keeps t task (AfterCancel callee number others) words w a r runs own h = tt
  stack_keeps t task WaitsToEnter words w a r runs own h = tt
  stack_keeps t task (InLoop word) words w a r runs own h = tt
  stack_keeps t task (InBuiltin number others wait) words w a r runs own h = tt
  stack_keeps t task Exited words w a r runs own h = tt

  over_keeps : (t : ℕ) (task : Task) (stacks : List Stack) (words : List ℕ) (w : World) → Is (IsLeftAs task.callee task.state stacks) t w → RunsIn task.state task.callee
      → (IsSome (func_of task.callee) → HasFunc w.tasks t) → (walk.Apart → IsStateOwn g (length w.store.instances) (func_of task.callee) task.state) → walk.Holds w → Keeps walk (ended_over g t task stacks words w)
  unfolding ended_over
  over_keeps t task [] words w a r runs own h = stack_keeps t task task.state words w a r runs own h
  over_keeps t task (k ∷ under) words w a r runs own h =
      runs_keeps walk t [] w h
      (as_is (IsLeftAs task.callee task.state (k ∷ under)) IsRunning t w
      (λ o l. (left_runs task.callee task.state (k ∷ under) r o l, subst (λ (all : List Stack). IsSome (slice_get all 0)) (sym l.2) refl)) a)

  move_keeps : (t : ℕ) (task : Task) (m : Move) (w : World) → slice_get w.tasks t ≡ Some task → Is (λ o. o ≡ outline_of task) t w → RunsIn task.state task.callee
      → (walk.Apart → IsStateOwn g (length w.store.instances) (func_of task.callee) task.state) → (walk.Apart → IsOwnMove g w.store (func_of task.callee) m) → walk.Holds w → Keeps walk (moved g t task m w)
  unfolding moved
  move_keeps t task (Goes paid store k) w there a r own moves h = (
    goes walk Runs (after (HasStack t k) (with_store store w)) (walk.stays (HasStack t k) (with_store store w) tt (may_stack t task w a r) (λ apart. stack_by g w t task k (moves apart).1 a)
        (walk.stays (HasStore store) w tt tt (λ apart. store_own g w store (moves apart).0 (walk.own apart w h)) h)),
    tt,
    (t, stacked_again t task k w a r),
  )
  move_keeps t task (core.Calls address words k) w there a r own moves h = (
    goes walk (control.Calls address words) (after (HasStack t k) w) (walk.stays (HasStack t k) w tt (may_stack t task w a r) (λ apart. stack_by g w t task k (moves apart).1 a) h),
    (λ apart. control_own g (after (HasStack t k) w) t address words (calls_by g w t task k address (moves apart).0 a)),
    (t, stacked_again t task k w a r),
  )
  move_keeps t task (core.Ends words) w there a r own moves h =
      over_keeps t task (drop 1 task.stacks) words (after (LosesStack t) w)
      (stacks_first (IsLeftAs task.callee task.state (drop 1 task.stacks)) (λ o. o ≡ outline_of task) w t (λ stacks. drop 1 stacks)
      (λ o e. (ap (λ (x : Outline). x.callee) e, ap (λ (x : Outline). x.state) e, ap (λ (x : Outline). drop 1 x.stacks) e)) a) r
      (λ some. func_changed w.tasks t t (λ x. record x { stacks = drop 1 x.stacks }) (λ x. refl) (task, there, some)) own (walk.stays (LosesStack t) w tt (may_stack t task w a r) (λ apart. tt) h)
  move_keeps t task (Traps why) w there a r own moves h = (goes walk (Doomed t (core_name why)) w h, tt, a.0)
  move_keeps t task core.Stuck w there a r own moves h = tt

  pub running_keeps : (w : World) → walk.Holds w → OneActs IsRunning (outlines_of w.tasks) w.chain → Keeps walk (running_turn g s w)
  unfolding running_turn
  running_keeps w h o =
      given_keeps walk (acting w) _ (λ a e. given_keeps walk (slice_get a.1.stacks 0) _ (λ k i.
      charged_keeps walk (costs k (core.next w.store k)) w (λ v. moved g a.0 a.1 (core.next w.store k) v) h (λ units j.
      move_keeps a.0 a.1 (core.next w.store k) (record w { units = units }) (acting_is w a e) (acts_by w a e) (runs_now w a e o)
      (λ apart. (own_task g w a.0 a.1 (walk.own apart w h) (acting_is w a e)).waits)
      (λ apart.
      own_moves g w.store (func_of a.1.callee) k (walk.own apart w h).owned
      (all_at (IsOwnStack g (func_of a.1.callee)) a.1.stacks 0 k (own_task g w a.0 a.1 (walk.own apart w h) (acting_is w a e)).code i)) j)))

  -- Task 0 instantiates.

  first_of_one : (w : World) → w.chain ≡ 0 ∷ [] → IsFirst 0 w.chain
  first_of_one w one = ap (λ (l : List ℕ). slice_get l 0) one

  -- it waits for no copy
  starting_waits_else : (w : World) → w.chain ≡ 0 ∷ [] → OneActs IsStarting (outlines_of w.tasks) w.chain → WaitsForNone 0 w
  starting_waits_else w one o = as_is IsStarting (λ x. WaitsElse x.state) 0 w (λ x k. subst WaitsElse (sym k.0) tt) (is_first IsStarting w 0 (first_of_one w one) o)

  start_keeps : (n : ℕ) (k : Option Stack) (w : World) → w.chain ≡ 0 ∷ [] → (walk.Apart → IsMadeUpTo g (length w.store.instances) n) → walk.Holds w → OneActs IsStarting (outlines_of w.tasks) w.chain
      → Keeps walk (started_up n k w)
  unfolding started_up
  start_keeps n None w one made h o = (goes walk (Instantiates n) w h, made, o)
  start_keeps n (Some k) w one made h o =
      new_stack_keeps walk 0 k (in_state 0 (Begins n) w)
      (λ apart. state_first (λ (x : Outline). IsOwnStack g (func_of x.callee) k) (λ (x : Outline). IsOwnStack g (func_of x.callee) k) w 0 (Begins n) (λ x i. i) (init_own g w k (walk.alone w h) (first_of_one w one)))
      (walk.stays (IsBegun n) w (first_of_one w one) (starting_waits_else w one o) made h) (state_first InTask IsStarting w 0 (Begins n) (λ x i. tt) (is_first IsStarting w 0 (first_of_one w one) o))

  -- so many core instances are made, and one more
  abbrev MakesOne : ℕ → Instantiation → World → Type 0
  MakesOne n r w = LeavesWithin (IsMore g w.store) r × IsMadeUpTo g (suc (length w.store.instances)) (n + 1)

  core_keeps : (n : ℕ) (c : CoreMake) (imports : List External) (r : Instantiation) (w : World) → w.chain ≡ 0 ∷ [] → (walk.Apart → MakesOne n r w) → walk.Holds w → OneActs IsStarting (outlines_of w.tasks) w.chain
      → Keeps walk (core_made n c imports r w)
  unfolding core_made
  core_keeps n c imports (core_instance.SegmentBounds store) w one makes h o = (
    goes walk (Doomed 0 trap.SegmentBounds) (with_store store w)
        (walk.stays (HasStore store) w tt tt (λ apart. more_own g w store (makes apart).0 (walk.own apart w h) (walk.alone w h) (first_of_one w one) o) h),
    tt,
    first_of_one w one,
  )
  core_keeps n c imports (Makes store) w one makes h o =
      start_keeps (n + 1) (start_call c.of_module (instance_of c.of_module imports w.store) store) (with_store store w) one
      (λ apart. subst (λ (count : ℕ). IsMadeUpTo g count (n + 1)) (sym (makes apart).0.count) (makes apart).1)
      (walk.stays (HasStore store) w tt tt (λ apart. more_own g w store (makes apart).0 (walk.own apart w h) (walk.alone w h) (first_of_one w one) o) h) o

  make_own : (n number : ℕ) (c : CoreMake) (imports : List External) (w : World) → slice_get g.plan n ≡ Some (Make number) → slice_get g.cores number ≡ Some c → externals w.store c.imports ≡ Some imports
      → (walk.Apart → IsMadeUpTo g (length w.store.instances) n) → walk.Holds w → walk.Apart → MakesOne n (instantiated c.of_module imports w.store) w
  make_own n number c imports w at there are so h apart =
      let next : MakesNext g (length w.store.instances) n number = make_next g (length w.store.instances) n number at (so apart) in
      let own : owner_of_core g (length w.store.instances) ≡ Some c.owner = subst (λ (k : ℕ). owner_of_core g k ≡ Some c.owner) next.is (ap (option_map (λ (x : CoreMake). x.owner)) there) in (
        core_more g c imports w.store (walk.own apart w h).canons (walk.own apart w h).owned own
            (all_at (λ (x : CoreMake). AllByRecursion (λ e. owner_of_extern g e ≡ Some x.owner) x.imports) g.cores number c (walk.graph apart).imports there) are,
        next.more,
      )

  action_keeps : (n : ℕ) (a : Option Action) (w : World) → slice_get g.plan n ≡ a → w.chain ≡ 0 ∷ [] → (walk.Apart → IsMadeUpTo g (length w.store.instances) n) → walk.Holds w → OneActs IsStarting (outlines_of w.tasks) w.chain
      → Keeps walk (action_turn g n a w)
  unfolding action_turn
  action_keeps n None w at one so h o = (
    goes walk Free (after (Exits 0) w) (walk.stays (Exits 0) w (first_of_one w one) (as_is IsStarting (λ x. HasStacks false x.stacks) 0 w (λ x k. k.1) (is_first IsStarting w 0 (first_of_one w one) o), starting_waits_else w one o) (λ apart. tt) h),
    tt,
    ap (λ (l : List ℕ). drop 1 l) one,
  )
  action_keeps n (Some (Begin number)) w at one so h o =
      (goes walk (Instantiates (n + 1)) (after BeginsInstance w) (walk.stays BeginsInstance w tt tt (λ apart. tt) h), (λ apart. begin_next g (length w.store.instances) n number at (so apart)), o)
  action_keeps n (Some (Make number)) w at one so h o =
      given_keeps walk (slice_get g.cores number) _ (λ c e. given_keeps walk (externals w.store c.imports) _ (λ imports i.
      core_keeps n c imports (instantiated c.of_module imports w.store) w one (make_own n number c imports w at e i so h) h o))

  pub instantiating_keeps : (n : ℕ) (w : World) → w.chain ≡ 0 ∷ [] → (walk.Apart → IsMadeUpTo g (length w.store.instances) n) → walk.Holds w → OneActs IsStarting (outlines_of w.tasks) w.chain
      → Keeps walk (instantiating_turn g n w)
  unfolding instantiating_turn
  instantiating_keeps n w one so h o = action_keeps n (slice_get g.plan n) w refl one so h o
