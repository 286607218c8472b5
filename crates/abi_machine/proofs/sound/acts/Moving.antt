-- How tasks resolve and exit, the moves of core functions, and instantiation keep the order of tasks.
use Rattle.std.proofs.Common.{◌≡◌, inr, ℕ, ◌+◌, Bool, true, false, List, [], ◌∷◌, drop, refl, sym, ap, ◌∙◌, subst, Option, Some, None, Result, Ok, Err}
use Rattle.std.specs.Prelude.{IsSome, is_none}
use Rattle.std.specs.List.{slice_get}
use Rattle.wasm_store.specs.Store.{found_at}
use Rattle.wasm_store.specs.Stack.{Stack}
use Rattle.wasm_store.specs.Step.{Move, Goes, Traps}
use Rattle.wasm_store.specs.Step as core
use Rattle.wasm_store.specs.Instantiation.{External, Instantiation, Makes, instance_of, instantiated, start_call}
use Rattle.wasm_store.specs.Instantiation as core_instance
use Rattle.entry_gate.specs.Callbacks.{callback_of}
use Rattle.entry_gate.specs.declared.kind.Kind.{Kind}
use Rattle.entry_gate.specs.declared.kind.Kind.TheVariants.{Sync, Callback, Stackful}
use Rattle.entry_gate.specs.declared.callback.BadCode.{BadCode}
use Rattle.entry_gate.specs.declared.callback.Next.{Next}
use Rattle.entry_gate.specs.declared.callback.Next.TheVariants as next
use Rattle.tasks.specs.declared.phase.Resolution.TheVariants.{Returned}
use Rattle.tasks.specs.Tasks.{resolving_fault}
use Rattle.comp_graph.specs.declared.graph.Action.{Action}
use Rattle.comp_graph.specs.declared.graph.Action.TheVariants.{Begin, Make}
use Rattle.comp_graph.specs.declared.graph.FuncRef.{FuncRef}
use Rattle.comp_graph.specs.Graph.{CoreMake, Graph, Lifted}
use Rattle.script_reader.specs.Script.{Script}
use Rattle.trace_labels.specs.declared.label.Label.TheVariants as line
use Rattle.trace_labels.specs.declared.label.BlockReason.{BlockReason}
use Rattle.trace_labels.specs.declared.label.BlockReason.TheVariants as reason
use Rattle.trace_labels.specs.declared.trap.TrapName.TheVariants as trap
use Rattle.trace_labels.specs.declared.typed.TypedValue.{TypedValue}
use Rattle.abi_machine.specs.Traps.{core_name, task_name}
use Rattle.abi_machine.specs.Control.{After, Replies, Finishes, Free, Instantiates, Runs, Leaves, Doomed}
use Rattle.abi_machine.specs.Control as control
use Rattle.abi_machine.specs.World.{Callee, Caller, Nobody, Host, Guest, TaskState, New as IsNew, Acting, AfterCall, AfterCancel, Begins, WaitsToEnter, InLoop, InBuiltin, Exited, Task, World}
use Rattle.abi_machine.specs.Edits.{with_store, in_state, resolved, control_behind}
use Rattle.abi_machine.specs.Canons.{func_address, canon_at, externals}
use Rattle.abi_machine.specs.Reading.{acting, func_of, kind_of}
use Rattle.abi_machine.specs.Counting.{task_view}
use Rattle.abi_machine.specs.Finding.{set_at}
use Rattle.abi_machine.specs.Lifting.{Came}
use Rattle.abi_machine.specs.Turn.{blocked}
use Rattle.abi_machine.specs.Returning.{post_return, finished, passed_to, passed_on, resolves_to, resolves, returning_turn, ending_turn, leaving_turn}
use Rattle.abi_machine.specs.Looping.{next_turn, looping_turn}
use Rattle.abi_machine.specs.CoreSteps.{costs, func_ended, stack_ended, ended_over, moved, running_turn}
use Rattle.abi_machine.specs.Instantiating.{started_up, made as core_made, action_turn, instantiating_turn}
use Rattle.abi_machine.specs.sound.Changes.{HasStore, BeginsInstance, Acts, Begins as IsBegun, Exits, Resolves as IsResolved, HasStack, LosesStack, after, IsFirst, HasFunc}
use Rattle.abi_machine.specs.sound.Acting.{Outline, outline_of, outlines_of, HasStacks, WaitsWith, IsStarting, IsActing, RunsIn, IsRunning, OneActs, stacked_after}
use Rattle.abi_machine.proofs.sound.Lifts.{Leaves as LeavesWith}
use Rattle.abi_machine.proofs.sound.Lifted.{result_keeps}
use Rattle.abi_machine.proofs.sound.Found.{some_same, func_changed, acting_first, acting_is}
use Rattle.abi_machine.proofs.sound.Outlines.{outline_there, Is, as_is, state_first, stacks_first, MayHaveStacks, Runs as InTask, runs_may, acting_waits}
use Rattle.abi_machine.proofs.sound.acts.Keeping.{Order, is_first, acts_at, acts_by, left_acts, Keeps, Held, still, given_keeps, behind_keeps, goes, refused_keeps, unless_keeps, fault_keeps, charged_keeps, runs_keeps, on_keeps, blocked_keeps, new_stack_keeps, removes, waits, lends, KeptSo, StoppedSo, came_keeps}

-- the acting task does this, in this state and with these stacks
abbrev pub IsLeftAs : Callee → TaskState → List Stack → Outline → Type 0
IsLeftAs callee state stacks o = (o.callee ≡ callee) × (o.state ≡ state) × (o.stacks ≡ stacks)

pub left_runs : (callee : Callee) (state : TaskState) (stacks : List Stack) → RunsIn state callee → (o : Outline) → IsLeftAs callee state stacks o → RunsIn o.state o.callee
left_runs callee state stacks r o h = subst (λ (c : Callee). RunsIn o.state c) (sym h.0) (subst (λ (x : TaskState). RunsIn x callee) (sym h.1) r)

is_running : (w : World) (t : ℕ) (task : Task) → Is (λ o. o ≡ outline_of task) t w → RunsIn task.state task.callee → Is InTask t w
is_running w t task a r = as_is (λ o. o ≡ outline_of task) InTask t w (λ o e. subst InTask (sym e) r) a

pub may_stack : (t : ℕ) (task : Task) (w : World) → Is (λ o. o ≡ outline_of task) t w → RunsIn task.state task.callee → Is MayHaveStacks t w
may_stack t task w a r = as_is InTask MayHaveStacks t w runs_may (is_running w t task a r)

-- with another stack
pub stacked_again : (t : ℕ) (task : Task) (k : Stack) (w : World) → Is (λ o. o ≡ outline_of task) t w → RunsIn task.state task.callee → Is IsRunning t (after (HasStack t k) w)
stacked_again t task k w a r = stacks_first IsRunning InTask w t (λ stacks. k ∷ drop 1 stacks) (λ o i. (i, refl)) (is_running w t task a r)

-- the task that is looked up runs
pub runs_now : (w : World) (a : ℕ × Task) → acting w ≡ Some a → OneActs IsRunning (outlines_of w.tasks) w.chain → RunsIn a.1.state a.1.callee
runs_now w a e o =
    let r : Is IsRunning a.0 w = acts_at IsRunning w a e o in
    let same : r.1.0 ≡ outline_of a.1 = some_same (sym r.1.1 ∙ outline_there w.tasks a.0 a.1 (acting_is w a e)) in
    subst InTask same r.1.2.0

module _ {g : Graph} {s : Script} (ord : Order g s) where
  -- Tasks resolve and exit.

  pub finished_keeps : (follows : After) (w : World) → ord.Holds w → OneActs (IsActing (stacked_after follows)) (outlines_of w.tasks) w.chain → Keeps ord (finished follows w)
  unfolding finished post_return
  finished_keeps Replies w h o = given_keeps ord (acting w) _ (λ a e. on_keeps ord a.0 [] w (h, acts_at (IsActing true) w a e o))
  finished_keeps (Finishes ended) w h o = given_keeps ord (acting w) _ (λ a e. given_keeps ord (func_of a.1.callee) _ (λ f i. by a f f.options.post_return (acting_first w a e)))
    where
      by : (a : ℕ × Task) (f : Lifted) (r : Option FuncRef) → IsFirst a.0 w.chain → Keeps ord (post_return a.0 f ended r w)
      by a f None first = (goes ord Leaves w h, o)
      by a f (Some ref) first = given_keeps ord (found_at w.store.funcs (func_address w.store ref)) _ (λ function e. (goes ord _ w h, (o, first, tt)))

  passed_keeps : (t : ℕ) (caller : Caller) (follows : After) (result : Option TypedValue) (w : World) → Held ord (stacked_after follows) t w → Keeps ord (passed_on g t caller follows result w)
  unfolding passed_on passed_to
  passed_keeps t Nobody follows result w h = finished_keeps follows w h.0 (t, h.1)
  passed_keeps t (Host call values) follows result w h = finished_keeps follows w h.0 (t, h.1)
  passed_keeps t (Guest subtask) follows None w h = finished_keeps follows w h.0 (t, h.1)
  passed_keeps t (Guest subtask) follows (Some result) w h = given_keeps ord (canon_at g subtask.canon) _ (λ c e. (goes ord _ w h.0, ((t, h.1), (h.1.0, h.1.0))))

  pub resolves_keeps : (t : ℕ) (task : Task) (follows : After) (came : Came (Option TypedValue)) → LeavesWith (KeptSo ord (stacked_after follows) t) (StoppedSo ord (stacked_after follows) t) came
      → Keeps ord (resolves g t task follows came)
  unfolding resolves resolves_to
  resolves_keeps t task follows came h =
      let b : Bool = stacked_after follows in
      came_keeps ord b t came (λ result w. resolves_to g t task follows result w) h (λ result w i.
      fault_keeps ord t task_name (resolving_fault (task_view g w t task)) w _ (i.0, i.1.0)
      (behind_keeps ord (line.Return t result ∷ []) (passed_on g t task.caller follows result (resolved t Returned w)) (passed_keeps t task.caller follows result (resolved t Returned w) (still ord b t (IsResolved t Returned) w tt tt tt i))))

  ending_keeps : (t : ℕ) (task : Task) (w : World) → Held ord false t w → Keeps ord (ending_turn t task w)
  unfolding ending_turn
  ending_keeps t task w h = unless_keeps ord t (is_none task.resolution) trap.Unresolved w _ (h.0, h.1.0) (λ e. (goes ord Leaves w h.0, (t, h.1)))

  pub leaving_keeps : (w : World) → ord.Holds w → OneActs (IsActing false) (outlines_of w.tasks) w.chain → Keeps ord (leaving_turn w)
  unfolding leaving_turn
  leaving_keeps w h o =
      given_keeps ord (acting w) _ (λ a e. (
        goes ord (control_behind (drop 1 w.chain)) (after (Exits a.0) w)
            (ord.stays (Exits a.0) w (acting_first w a e) (as_is (IsActing false) (λ x. HasStacks false x.stacks) a.0 w (λ x k. k.2) (acts_at (IsActing false) w a e o)) h),
        left_acts w a.0 Exited (acting_first w a e) (ord.chained w h),
      ))

  -- Core functions make moves.

  -- A task blocks in its loop.
  looped_keeps : (t word : ℕ) (why : BlockReason) (w : World) → HasFunc w.tasks t → Held ord false t w → Keeps ord (blocked t (InLoop word) why w)
  looped_keeps t word why w runs h = blocked_keeps ord t (InLoop word) why w h.1.0 tt (inr runs) tt (as_is (IsActing false) (WaitsWith false) t w (acting_waits false) h.1) h.0

  next_keeps : (t : ℕ) (task : Task) (i word : ℕ) (r : Result Next BadCode) (w : World) → HasFunc w.tasks t → Held ord false t w → Keeps ord (next_turn t task i word r w)
  unfolding next_turn
  next_keeps t task i word (Err why) w runs h = (goes ord (Doomed t trap.BadCode) w h.0, h.1.0)
  next_keeps t task i word (Ok next.Exit) w runs h = ending_keeps t task w h
  next_keeps t task i word (Ok next.Yield) w runs h = looped_keeps t word reason.Yield w runs h
  next_keeps t task i word (Ok (next.Wait set)) w runs h = refused_keeps ord t (set_at w i set) w _ (h.0, h.1.0) (λ number e. looped_keeps t word (reason.Wait set) w runs h)
  next_keeps t task i word (Ok (next.Poll set)) w runs h = refused_keeps ord t (set_at w i set) w _ (h.0, h.1.0) (λ number e. looped_keeps t word (reason.Poll set) w runs h)

  looping_keeps : (t : ℕ) (task : Task) (i : ℕ) (words : List ℕ) (w : World) → HasFunc w.tasks t → Held ord false t w → Keeps ord (looping_turn t task i words w)
  unfolding looping_turn
  looping_keeps t task i [] w runs h = tt
  looping_keeps t task i (word ∷ words) w runs h = next_keeps t task i word (callback_of word) w runs h

  func_keeps : (t : ℕ) (task : Task) (f : Lifted) (kind : Kind) (words : List ℕ) (w : World) → HasFunc w.tasks t → Held ord false t w → Keeps ord (func_ended g t task f kind words w)
  unfolding func_ended returning_turn
  func_keeps t task f Sync words w runs h =
      resolves_keeps t task (Finishes words) _ (result_keeps f.instance t (Held ord false t) (Unit {0}) (removes ord false t) (waits ord false t) (lends ord false t f.instance t) _ f.func_type.result (λ b. tt) f.options words w h)
  func_keeps t task f Stackful words w runs h = ending_keeps t task w h
  func_keeps t task f Callback words w runs h = looping_keeps t task f.instance words w runs h

  stack_keeps : (t : ℕ) (task : Task) (state : TaskState) (words : List ℕ) (w : World) → Is (IsLeftAs task.callee state []) t w → RunsIn state task.callee → (IsSome (func_of task.callee) → HasFunc w.tasks t) → ord.Holds w
      → Keeps ord (stack_ended g t task state words w)
  unfolding stack_ended
  stack_keeps t task (Begins n) words w a r runs h =
      (goes ord (Instantiates n) (in_state t Acting w) (ord.stays (Acts t) w a.0 tt h), (t, state_first IsStarting (IsLeftAs task.callee (Begins n) []) w t Acting (λ o k. (refl, k.2)) a))
  stack_keeps t task Acting words w a r runs h =
      given_keeps ord (func_of task.callee) _ (λ f e. func_keeps t task f (kind_of task) words w (runs r)
      (h, as_is (IsLeftAs task.callee Acting []) (IsActing false) t w (λ o k. (subst (λ (c : Callee). IsSome (func_of c)) (sym k.0) r, k.1, k.2)) a))
  stack_keeps t task IsNew words w a r runs h = tt
  stack_keeps t task (AfterCall callee number others) words w a r runs h = tt
  stack_keeps t task (AfterCancel callee number others) words w a r runs h = tt
  stack_keeps t task WaitsToEnter words w a r runs h = tt
  stack_keeps t task (InLoop word) words w a r runs h = tt
  stack_keeps t task (InBuiltin number others wait) words w a r runs h = tt
  stack_keeps t task Exited words w a r runs h = tt

  over_keeps : (t : ℕ) (task : Task) (stacks : List Stack) (words : List ℕ) (w : World) → Is (IsLeftAs task.callee task.state stacks) t w → RunsIn task.state task.callee
      → (IsSome (func_of task.callee) → HasFunc w.tasks t) → ord.Holds w → Keeps ord (ended_over g t task stacks words w)
  unfolding ended_over
  over_keeps t task [] words w a r runs h = stack_keeps t task task.state words w a r runs h
  over_keeps t task (k ∷ under) words w a r runs h =
      runs_keeps ord t [] w h
      (as_is (IsLeftAs task.callee task.state (k ∷ under)) IsRunning t w
      (λ o l. (left_runs task.callee task.state (k ∷ under) r o l, subst (λ (all : List Stack). IsSome (slice_get all 0)) (sym l.2) refl)) a)

  move_keeps : (t : ℕ) (task : Task) (m : Move) (w : World) → slice_get w.tasks t ≡ Some task → Is (λ o. o ≡ outline_of task) t w → RunsIn task.state task.callee → ord.Holds w → Keeps ord (moved g t task m w)
  unfolding moved
  move_keeps t task (Goes paid store k) w there a r h = (
    goes ord Runs (after (HasStack t k) (with_store store w)) (ord.stays (HasStack t k) (with_store store w) tt (may_stack t task w a r) (ord.stays (HasStore store) w tt tt h)),
    (t, stacked_again t task k w a r),
  )
  move_keeps t task (core.Calls address words k) w there a r h =
      (goes ord (control.Calls address words) (after (HasStack t k) w) (ord.stays (HasStack t k) w tt (may_stack t task w a r) h), (t, stacked_again t task k w a r))
  move_keeps t task (core.Ends words) w there a r h =
      over_keeps t task (drop 1 task.stacks) words (after (LosesStack t) w)
      (stacks_first (IsLeftAs task.callee task.state (drop 1 task.stacks)) (λ o. o ≡ outline_of task) w t (λ stacks. drop 1 stacks)
      (λ o e. (ap (λ (x : Outline). x.callee) e, ap (λ (x : Outline). x.state) e, ap (λ (x : Outline). drop 1 x.stacks) e)) a) r
      (λ some. func_changed w.tasks t t (λ x. record x { stacks = drop 1 x.stacks }) (λ x. refl) (task, there, some)) (ord.stays (LosesStack t) w tt (may_stack t task w a r) h)
  move_keeps t task (Traps why) w there a r h = (goes ord (Doomed t (core_name why)) w h, a.0)
  move_keeps t task core.Stuck w there a r h = tt

  pub running_keeps : (w : World) → ord.Holds w → OneActs IsRunning (outlines_of w.tasks) w.chain → Keeps ord (running_turn g s w)
  unfolding running_turn
  running_keeps w h o =
      given_keeps ord (acting w) _ (λ a e. given_keeps ord (slice_get a.1.stacks 0) _ (λ k i.
      charged_keeps ord (costs k (core.next w.store k)) w (λ v. moved g a.0 a.1 (core.next w.store k) v) h (λ units j.
      move_keeps a.0 a.1 (core.next w.store k) (record w { units = units }) (acting_is w a e) (acts_by w a e) (runs_now w a e o) j)))

  -- Task 0 instantiates.

  first_of_one : (w : World) → w.chain ≡ 0 ∷ [] → IsFirst 0 w.chain
  first_of_one w one = ap (λ (l : List ℕ). slice_get l 0) one

  start_keeps : (n : ℕ) (k : Option Stack) (w : World) → w.chain ≡ 0 ∷ [] → ord.Holds w → OneActs IsStarting (outlines_of w.tasks) w.chain → Keeps ord (started_up n k w)
  unfolding started_up
  start_keeps n None w one h o = (goes ord (Instantiates n) w h, o)
  start_keeps n (Some k) w one h o =
      new_stack_keeps ord 0 k (in_state 0 (Begins n) w) (ord.stays (IsBegun n) w (first_of_one w one) tt h) (state_first InTask IsStarting w 0 (Begins n) (λ x i. tt) (is_first IsStarting w 0 (first_of_one w one) o))

  core_keeps : (n : ℕ) (c : CoreMake) (imports : List External) (r : Instantiation) (w : World) → w.chain ≡ 0 ∷ [] → ord.Holds w → OneActs IsStarting (outlines_of w.tasks) w.chain → Keeps ord (core_made n c imports r w)
  unfolding core_made
  core_keeps n c imports (core_instance.SegmentBounds store) w one h o = (goes ord (Doomed 0 trap.SegmentBounds) (with_store store w) (ord.stays (HasStore store) w tt tt h), first_of_one w one)
  core_keeps n c imports (Makes store) w one h o =
      start_keeps (n + 1) (start_call c.of_module (instance_of c.of_module imports w.store) store) (with_store store w) one (ord.stays (HasStore store) w tt tt h) o

  action_keeps : (n : ℕ) (a : Option Action) (w : World) → w.chain ≡ 0 ∷ [] → ord.Holds w → OneActs IsStarting (outlines_of w.tasks) w.chain → Keeps ord (action_turn g n a w)
  unfolding action_turn
  action_keeps n None w one h o = (goes ord Free (after (Exits 0) w) (ord.stays (Exits 0) w (first_of_one w one) (as_is IsStarting (λ x. HasStacks false x.stacks) 0 w (λ x k. k.1) (is_first IsStarting w 0 (first_of_one w one) o)) h), ap (λ (l : List ℕ). drop 1 l) one)
  action_keeps n (Some (Begin number)) w one h o = (goes ord (Instantiates (n + 1)) (after BeginsInstance w) (ord.stays BeginsInstance w tt tt h), o)
  action_keeps n (Some (Make number)) w one h o =
      given_keeps ord (slice_get g.cores number) _ (λ c e. given_keeps ord (externals w.store c.imports) _ (λ imports i.
      core_keeps n c imports (instantiated c.of_module imports w.store) w one h o))

  pub instantiating_keeps : (n : ℕ) (w : World) → w.chain ≡ 0 ∷ [] → ord.Holds w → OneActs IsStarting (outlines_of w.tasks) w.chain → Keeps ord (instantiating_turn g n w)
  unfolding instantiating_turn
  instantiating_keeps n w one h o = action_keeps n (slice_get g.plan n) w one h o
