-- Typed stacks stay typed where core functions make moves, and go on typed with words of the results of what they called.
use Rattle.std.proofs.Common.{◌≡◌, ℕ, zero, suc, ◌+◌, Bool, true, false, nat_lt, List, [], ◌∷◌, drop, map, refl, sym, ap, ◌∙◌, subst, is_none, Option, Some, None, Result, Ok, Err, if◌then◌else◌}
use Rattle.std.specs.List.{slice_get, AllByRecursion}
use Rattle.syntax_trees.specs.declared.module_types.ValType.{ValType}
use Rattle.syntax_trees.specs.declared.module_types.FuncType.{FuncType}
use Rattle.wasm_numbers.specs.Types.{AreWords}
use Rattle.wasm_store.specs.Store.{Function, Host as HostFunction, Store, found_at}
use Rattle.wasm_store.specs.Stack.{Stack}
use Rattle.wasm_store.specs.Step.{Move, Goes, Traps, resume}
use Rattle.wasm_store.specs.Step as core
use Rattle.wasm_store.specs.Typed.{FunctionTyped, StoreTyped, Extends, StackTyped}
use Rattle.wasm_store.specs.Laws.{MoveTyped}
use Rattle.wasm_store.proofs.Lists.{all_at}
use Rattle.wasm_store.proofs.Stores.{stays_typed}
use Rattle.wasm_store.proofs.Moving.{moves_typed}
use Rattle.entry_gate.specs.declared.callback.BadCode.{BadCode}
use Rattle.entry_gate.specs.declared.callback.Next.{Next}
use Rattle.entry_gate.specs.declared.callback.Next.TheVariants as next
use Rattle.entry_gate.specs.declared.kind.Kind.{Kind}
use Rattle.entry_gate.specs.declared.kind.Kind.TheVariants.{Sync, Callback, Stackful}
use Rattle.entry_gate.specs.Callbacks.{callback_of}
use Rattle.tasks.specs.declared.phase.Resolution.TheVariants.{Returned}
use Rattle.tasks.specs.Tasks.{resolving_fault}
use Rattle.comp_graph.specs.declared.graph.CanonFunc.{CanonFunc}
use Rattle.comp_graph.specs.declared.graph.FuncRef.{FuncRef}
use Rattle.comp_graph.specs.Graph.{Graph, Lifted, canon_type}
use Rattle.script_reader.specs.Script.{Script}
use Rattle.trace_labels.specs.declared.label.Label.{Label}
use Rattle.trace_labels.specs.declared.label.Label.TheVariants as line
use Rattle.trace_labels.specs.declared.typed.TypedValue.{TypedValue}
use Rattle.trace_labels.specs.declared.trap.TrapName.{TrapName}
use Rattle.abi_machine.specs.declared.run_end.RunEnd.TheVariants.{Fuel}
use Rattle.abi_machine.specs.Traps.{core_name, task_name}
use Rattle.abi_machine.specs.Control.{HostedState, Going, AtCall, Nested, Behind, InLowering, BeforeLeaving, Control, Finishes, Free, Instantiates, Runs, Calls, Lowers, Quiet, Leaves, Doomed}
use Rattle.abi_machine.specs.World.{Callee, Caller, Nobody, Host, Guest, TaskState, New, Acting, AfterCall, AfterCancel, Begins, WaitsToEnter, InLoop, InBuiltin, Exited, Task, World, first_world}
use Rattle.abi_machine.specs.Edits.{changed_at, with_control, with_store, with_stack, in_state, unit_spent, control_behind, resolved, answered_stacks, unstacked}
use Rattle.abi_machine.specs.Canons.{canon_at, func_address}
use Rattle.abi_machine.specs.Reading.{acting, func_of, kind_of, has_exited, is_instantiated}
use Rattle.abi_machine.specs.Counting.{task_view}
use Rattle.abi_machine.specs.Finding.{set_at}
use Rattle.abi_machine.specs.Lifting.{Came, once_lifted}
use Rattle.abi_machine.specs.Turn.{Turn, Steps, Ends, Stuck, silent, doomed, behind, given, unless_refused, unless_fault, goes_on_with, charged}
use Rattle.abi_machine.specs.Returning.{finished, post_return, passed_on, passed_to, resolves_to, resolves, returning_turn, ending_turn}
use Rattle.abi_machine.specs.Looping.{next_turn, looping_turn}
use Rattle.abi_machine.specs.CoreSteps.{costs, func_ended, stack_ended, ended_over, moved, running_turn}
use Rattle.abi_machine.specs.Nested.{hosted_move, hosted_next, nested_ended, hosted, nested_turn}
use Rattle.abi_machine.specs.Next.{next_by}
use Rattle.abi_machine.specs.sound.Changes.{IsFirst}
use Rattle.abi_machine.specs.sound.Firsts.{FirstIs}
use Rattle.abi_machine.specs.sound.Initial.{StartsNothing}
use Rattle.abi_machine.specs.sound.Acting.{outline_of, outlines_of, RunsIn, IsRunning, OneActs, ActsBy}
use Rattle.abi_machine.specs.sound.Owners.{HasCanons}
use Rattle.abi_machine.specs.sound.MadeInstances.{WereMade}
use Rattle.abi_machine.specs.sound.TypedStacks.{gives, IsWaiting, WaitBelow, TopIs, RunsTyped, WaitsTyped, StandsTyped, StandTyped, HostedTyped, ActsTyped, HostsAreCanons, IsTyped, IsOfStack, nested_results, FirstTyped, MovesStayTyped, NestedMovesStayTyped, AnswersAreTyped, StayTypedLater}
use Rattle.abi_machine.proofs.sound.Lists.{all_changed, all_as}
use Rattle.abi_machine.proofs.sound.Found.{some_same, changed_there, acting_first, acting_is}
use Rattle.abi_machine.proofs.sound.Acted.{one_task, first_at}
use Rattle.abi_machine.proofs.sound.Outlines.{outline_there, is_what}
use Rattle.abi_machine.proofs.sound.acts.Keeping.{acts_at}
use Rattle.abi_machine.proofs.sound.own.Moved.{IsOnward, MoveKeeps, next_keeps}
use Rattle.abi_machine.proofs.sound.own.Belonging.{onward_canons}
use Rattle.abi_machine.proofs.sound.Owning.{get_mapped}
use Rattle.abi_machine.proofs.sound.typed.Made.{none_made, made_still, so_far_later}

-- Later stores.

pub waits_later : (s t : Store) (asked results : List ValType) (k : Stack) → Extends s t → IsWaiting s asked results k → IsWaiting t asked results k
waits_later s t asked results k x h answers fits = stays_typed s t results (resume answers k) x (h answers fits)

pub below_later : (s t : Store) (callee : Callee) (stacks : List Stack) → Extends s t → WaitBelow s callee stacks → WaitBelow t callee stacks
below_later s t callee [] x h = tt
below_later s t callee (k ∷ under) x h = (waits_later s t [] (gives callee under) k x h.0, below_later s t callee under x h.1)

pub top_later : (s t : Store) (asked : List ValType) (callee : Callee) (stacks : List Stack) → Extends s t → TopIs (IsWaiting s asked) s callee stacks → TopIs (IsWaiting t asked) t callee stacks
top_later s t asked callee [] x h = h
top_later s t asked callee (k ∷ under) x h = (waits_later s t asked (gives callee under) k x h.0, below_later s t callee under x h.1)

at_canon_later : (g : Graph) (s t : Store) (number : ℕ) (task : Task) → Extends s t → WaitsTyped g s number task → WaitsTyped g t number task
at_canon_later g s t number task x h = (h.0, h.1, top_later s t (canon_type h.0).results task.callee task.stacks x h.2)

stands_later : (g : Graph) (s t : Store) (state : TaskState) (task : Task) → Extends s t → t.instances ≡ s.instances → StandsTyped g s state task → StandsTyped g t state task
stands_later g s t New task x same h = tt
stands_later g s t Acting task x same h = tt
stands_later g s t (AfterCall callee number words) task x same h = at_canon_later g s t number task x h
stands_later g s t (AfterCancel callee number words) task x same h = at_canon_later g s t number task x h
stands_later g s t (Begins n) task x same h = so_far_later g s t n x same h
stands_later g s t WaitsToEnter task x same h = tt
stands_later g s t (InLoop word) task x same h = tt
stands_later g s t (InBuiltin number words wait) task x same h = at_canon_later g s t number task x h
stands_later g s t Exited task x same h = tt

-- also where a core instance more is made, but in a start function
pub started_later : (g : Graph) (s t : Store) (state : TaskState) (task : Task) → Extends s t → StartsNothing state → StandsTyped g s state task → StandsTyped g t state task
started_later g s t New task x nothing h = tt
started_later g s t Acting task x nothing h = tt
started_later g s t (AfterCall callee number words) task x nothing h = at_canon_later g s t number task x h
started_later g s t (AfterCancel callee number words) task x nothing h = at_canon_later g s t number task x h
started_later g s t (Begins n) task x nothing h = absurd nothing
started_later g s t WaitsToEnter task x nothing h = tt
started_later g s t (InLoop word) task x nothing h = tt
started_later g s t (InBuiltin number words wait) task x nothing h = at_canon_later g s t number task x h
started_later g s t Exited task x nothing h = tt

pub stand_later : StayTypedLater
stand_later g s t tasks x same h = all_as (λ (task : Task). StandsTyped g s task.state task) (λ (task : Task). StandsTyped g t task.state task) (λ task k. stands_later g s t task.state task x same k) tasks h

-- The acting task, whose stacks are changed.

acting_stands : (g : Graph) (s : Store) (state : TaskState) (callee : Callee) (x task : Task) → RunsIn state callee → StandsTyped g s state x → StandsTyped g s state task
acting_stands g s Acting callee x task h k = tt
acting_stands g s (Begins n) callee x task h k = k
acting_stands g s New callee x task h k = absurd h
acting_stands g s (AfterCall other number words) callee x task h k = absurd h
acting_stands g s (AfterCancel other number words) callee x task h k = absurd h
acting_stands g s WaitsToEnter callee x task h k = absurd h
acting_stands g s (InLoop word) callee x task h k = absurd h
acting_stands g s (InBuiltin number words wait) callee x task h k = absurd h
acting_stands g s Exited callee x task h k = absurd h

abbrev with_stacks : (List Stack → List Stack) → Task → Task
with_stacks F task = record task { stacks = F task.stacks }

stand_changed : (g : Graph) (s : Store) (tasks : List Task) (t : ℕ) (F : List Stack → List Stack) (task : Task) → slice_get tasks t ≡ Some task → RunsIn task.state task.callee → StandTyped g s tasks
    → StandTyped g s (changed_at t (with_stacks F) tasks)
stand_changed g s tasks t F task there runs h =
    all_changed (λ (x : Task). StandsTyped g s x.state x) t (with_stacks F) tasks
    (λ x e k. acting_stands g s x.state x.callee x (with_stacks F x) (subst (λ (y : Task). RunsIn y.state y.callee) (some_same (sym there ∙ e)) runs) k) h

-- Task 0 has exited where it had.
pub still_instantiated : (t : ℕ) (f : Task → Task) (tasks : List Task) → ((x : Task) → (f x).state ≡ x.state) → is_instantiated (changed_at t f tasks) ≡ true → is_instantiated tasks ≡ true
still_instantiated t f [] same e = e
still_instantiated zero f (x ∷ tasks) same e = subst (λ (state : TaskState). has_exited state ≡ true) (same x) e
still_instantiated (suc t) f (x ∷ tasks) same e = e

pub acts_instantiated : (t : ℕ) (tasks : List Task) → is_instantiated (changed_at t (λ task. record task { state = Acting }) tasks) ≡ true → is_instantiated tasks ≡ true
acts_instantiated t [] e = e
acts_instantiated zero (x ∷ tasks) e = cc
acts_instantiated (suc t) (x ∷ tasks) e = e

-- what is known of the acting stack
pub top_of : (P : List ValType → Stack → Type 0) (s : Store) (callee : Callee) (stacks : List Stack) (k : Stack) → TopIs P s callee stacks → slice_get stacks 0 ≡ Some k
    → P (gives callee (drop 1 stacks)) k × WaitBelow s callee (drop 1 stacks)
top_of P s callee [] k h e = absurd h
top_of P s callee (x ∷ under) k h e = (subst (P (gives callee under)) (some_same e) h.0, h.1)

-- Answers.

pub answered_top : (s : Store) (asked : List ValType) (callee : Callee) (stacks : List Stack) (words : List ℕ) → AreWords asked words → TopIs (IsWaiting s asked) s callee stacks
    → TopIs (StackTyped s) s callee (answered_stacks words stacks)
answered_top s asked callee [] words fits h = absurd h
answered_top s asked callee (k ∷ under) words fits h = (h.0 words fits, h.1)

pub answers_are_typed : AnswersAreTyped
answers_are_typed g w t number c words first waits there fits =
    let x : Task = waits.0 in
    let same : waits.2.0 ≡ c = some_same (sym waits.2.1 ∙ there) in
    let typed : AreWords (canon_type waits.2.0).results words = subst (λ (y : CanonFunc). AreWords (canon_type y).results words) (sym same) fits in
    (t, first, (with_stacks (answered_stacks words) x, changed_there t (with_stacks (answered_stacks words)) w.tasks x waits.1, answered_top w.store (canon_type waits.2.0).results x.callee x.stacks words typed waits.2.2))

-- Turns behind which no stack makes moves.

abbrev Never : Turn → Type 0
Never (Steps labels v) = IsOfStack v.control → ⊥
Never (Ends end) = Unit {0}
Never Stuck = Unit {0}

given_never : {A : Type 0} (o : Option A) (f : A → Turn) → ((x : A) → Never (f x)) → Never (given o f)
given_never None f h = tt
given_never (Some x) f h = h x

behind_never : (lines : List Label) (t : Turn) → Never t → Never (behind lines t)
behind_never lines (Steps labels v) h = h
behind_never lines (Ends end) h = tt
behind_never lines Stuck h = tt

either_never : (b : Bool) (t u : Turn) → Never t → Never u → Never (if b then t else u)
either_never true t u h k = h
either_never false t u h k = k

fault_never : {F : Type 0} (t : ℕ) (name : F → TrapName) (o : Option F) (w : World) (more : Turn) → Never more → Never (unless_fault t name o w more)
fault_never t name None w more h = h
fault_never t name (Some fault) w more h = λ k. k

refused_never : {A : Type 0} (t : ℕ) (r : Result A TrapName) (w : World) (f : A → Turn) → ((x : A) → Never (f x)) → Never (unless_refused t r w f)
refused_never t (Err why) w f h = λ k. k
refused_never t (Ok x) w f h = h x

once_never : {A : Type 0} (t : ℕ) (came : Came A) (more : A → World → Turn) → ((x : A) (w : World) → Never (more x w)) → Never (once_lifted t came more)
once_never t (Ok x) more h = behind_never x.1.lines (more x.0 x.1.world) (h x.0 x.1.world)
once_never t (Err stop) more h = λ k. k

behind_chain : (chain : List ℕ) → IsOfStack (control_behind chain) → ⊥
behind_chain [] h = h
behind_chain (t ∷ below) h = h

finished_never : (ended : List ℕ) (w : World) → Never (finished (Finishes ended) w)
unfolding finished post_return
finished_never ended w = given_never (acting w) _ (λ a. given_never (func_of a.1.callee) _ (λ f. by a f f.options.post_return))
  where
    by : (a : ℕ × Task) (f : Lifted) (r : Option FuncRef) → Never (post_return a.0 f ended r w)
    by a f None = λ k. k
    by a f (Some ref) = given_never (found_at w.store.funcs (func_address w.store ref)) _ (λ function. λ k. k)

passed_never : (g : Graph) (t : ℕ) (caller : Caller) (ended : List ℕ) (result : Option TypedValue) (w : World) → Never (passed_on g t caller (Finishes ended) result w)
unfolding passed_on passed_to
passed_never g t Nobody ended result w = finished_never ended w
passed_never g t (Host call values) ended result w = finished_never ended w
passed_never g t (Guest subtask) ended None w = finished_never ended w
passed_never g t (Guest subtask) ended (Some result) w = given_never (canon_at g subtask.canon) _ (λ c. λ k. k)

resolves_never : (g : Graph) (t : ℕ) (task : Task) (ended : List ℕ) (came : Came (Option TypedValue)) → Never (resolves g t task (Finishes ended) came)
unfolding resolves resolves_to
resolves_never g t task ended came =
    once_never t came _ (λ result w.
    fault_never t task_name (resolving_fault (task_view g w t task)) w _
    (behind_never (line.Return t result ∷ []) (passed_on g t task.caller (Finishes ended) result (resolved t Returned w)) (passed_never g t task.caller ended result (resolved t Returned w))))

ending_never : (t : ℕ) (task : Task) (w : World) → Never (ending_turn t task w)
unfolding ending_turn
ending_never t task w = either_never (is_none task.resolution) _ _ (λ k. k) (λ k. k)

loops_never : (t : ℕ) (task : Task) (i word : ℕ) (r : Result Next BadCode) (w : World) → Never (next_turn t task i word r w)
unfolding next_turn
loops_never t task i word (Err why) w = λ k. k
loops_never t task i word (Ok next.Exit) w = ending_never t task w
loops_never t task i word (Ok next.Yield) w = behind_chain (drop 1 w.chain)
loops_never t task i word (Ok (next.Wait set)) w = refused_never t (set_at w i set) w _ (λ number. behind_chain (drop 1 w.chain))
loops_never t task i word (Ok (next.Poll set)) w = refused_never t (set_at w i set) w _ (λ number. behind_chain (drop 1 w.chain))

looping_never : (t : ℕ) (task : Task) (i : ℕ) (words : List ℕ) (w : World) → Never (looping_turn t task i words w)
unfolding looping_turn
looping_never t task i [] w = tt
looping_never t task i (word ∷ words) w = loops_never t task i word (callback_of word) w

func_never : (g : Graph) (t : ℕ) (task : Task) (f : Lifted) (kind : Kind) (words : List ℕ) (w : World) → Never (func_ended g t task f kind words w)
unfolding func_ended returning_turn
func_never g t task f Sync words w = resolves_never g t task words _
func_never g t task f Stackful words w = ending_never t task w
func_never g t task f Callback words w = looping_never t task f.instance words w

-- Moves.

-- what is typed beside the acting task
pub record Ground (g : Graph) (s : Store) (tasks : List Task) : Type 0 where
  pub store : StoreTyped s
  pub canons : HasCanons g s
  pub hosts : HostsAreCanons g s
  pub made : is_instantiated tasks ≡ true → WereMade s g.cores
  pub stand : StandTyped g s tasks

module _ (g : Graph) where
  abbrev Good : Turn → Type 0
  Good (Steps labels v) = IsOfStack v.control → IsTyped g v
  Good (Ends end) = Unit {0}
  Good Stuck = Unit {0}

  never_good : (t : Turn) → Never t → Good t
  never_good (Steps labels v) h = λ k. absurd (h k)
  never_good (Ends end) h = tt
  never_good Stuck h = tt

  given_good : {A : Type 0} (o : Option A) (f : A → Turn) → ((x : A) → o ≡ Some x → Good (f x)) → Good (given o f)
  given_good None f h = tt
  given_good (Some x) f h = h x refl

  either_good : (b : Bool) (t u : Turn) → Good t → Good u → Good (if b then t else u)
  either_good true t u h k = h
  either_good false t u h k = k

  charged_good : (paid : Bool) (s : Script) (w : World) (f : World → Turn) → ((units : ℕ) → Good (f (record w { units = units }))) → Good (charged paid s w f)
  charged_good false s w f h = h w.units
  charged_good true s w f h = either_good (nat_lt w.units s.fuel) (f (unit_spent w)) (Ends Fuel) (h (w.units + 1)) tt

  hosts_later : (s t : Store) → IsOnward s t → HostsAreCanons g s → HostsAreCanons g t
  hosts_later s t x h address type there = h address type (sym (ap (λ (fs : List Function). slice_get fs address) x.0) ∙ there)

  -- a store that comes of a typed move
  ground_later : {P : Type 0} (s t : Store) (tasks : List Task) → Extends s t × StoreTyped t × P → IsOnward s t → Ground g s tasks → Ground g t tasks
  ground_later s t tasks typed x h = record {
    store = typed.1;
    canons = onward_canons g s t x h.canons;
    hosts = hosts_later s t x h.hosts;
    made = λ e. made_still s t g.cores typed.0 x.1 (h.made e);
    stand = stand_later g s t tasks typed.0 x.1 h.stand;
  }

  -- the acting task is there, and runs
  record Spot (w : World) (t : ℕ) (task : Task) : Type 0 where
    first : IsFirst t w.chain
    there : slice_get w.tasks t ≡ Some task
    runs : RunsIn task.state task.callee
    below : WaitBelow w.store task.callee (drop 1 task.stacks)

  -- a change of the acting task's stacks
  pub with_ground : (s : Store) (tasks : List Task) (t : ℕ) (F : List Stack → List Stack) (task : Task) → slice_get tasks t ≡ Some task → RunsIn task.state task.callee → Ground g s tasks
      → Ground g s (changed_at t (with_stacks F) tasks)
  with_ground s tasks t F task there runs h = record {
    store = h.store;
    canons = h.canons;
    hosts = h.hosts;
    made = λ e. h.made (still_instantiated t (with_stacks F) tasks (λ x. refl) e);
    stand = stand_changed g s tasks t F task there runs h.stand;
  }

  pub typed_by : (v : World) → Ground g v.store v.tasks → ActsTyped g v.control v.store v.tasks v.chain → IsTyped g v
  typed_by v h acts = record { store = h.store; canons = h.canons; hosts = h.hosts; made = h.made; stand = h.stand; acts = acts }

  -- the end of a start function
  begun_good : (t n : ℕ) (task : Task) (w : World) → slice_get w.tasks t ≡ Some task → task.state ≡ Begins n → Ground g w.store w.tasks → Good (silent (Instantiates n) (in_state t Acting w))
  begun_good t n task w there is h = λ core. record {
    store = h.store;
    canons = h.canons;
    hosts = h.hosts;
    made = λ e. h.made (acts_instantiated t w.tasks e);
    stand = all_changed (λ (x : Task). StandsTyped g w.store x.state x) t (λ x. record x { state = Acting }) w.tasks (λ x e k. tt) h.stand;
    acts = subst (λ (state : TaskState). StandsTyped g w.store state task) is (all_at (λ (x : Task). StandsTyped g w.store x.state x) w.tasks t task h.stand there);
  }

  stack_good : (t : ℕ) (task x : Task) (state : TaskState) (words : List ℕ) (w : World) → slice_get w.tasks t ≡ Some x → x.state ≡ state → Ground g w.store w.tasks → Good (stack_ended g t task state words w)
  unfolding stack_ended
  stack_good t task x (Begins n) words w there is h = begun_good t n x w there is h
  stack_good t task x Acting words w there is h = never_good (given (func_of task.callee) (λ f. func_ended g t task f (kind_of task) words w)) (given_never (func_of task.callee) _ (λ f. func_never g t task f (kind_of task) words w))
  stack_good t task x New words w there is h = tt
  stack_good t task x (AfterCall callee number others) words w there is h = tt
  stack_good t task x (AfterCancel callee number others) words w there is h = tt
  stack_good t task x WaitsToEnter words w there is h = tt
  stack_good t task x (InLoop word) words w there is h = tt
  stack_good t task x (InBuiltin number others wait) words w there is h = tt
  stack_good t task x Exited words w there is h = tt

  over_good : (t : ℕ) (task : Task) (stacks : List Stack) (words : List ℕ) (w : World) → drop 1 task.stacks ≡ stacks → Spot w t task → Ground g w.store w.tasks → Good (ended_over g t task stacks words (unstacked t w))
  unfolding ended_over
  over_good t task [] words w e spot h =
      let F : List Stack → List Stack = λ stacks. drop 1 stacks in
      stack_good t task (with_stacks F task) task.state words (unstacked t w) (changed_there t (with_stacks F) w.tasks task spot.there) refl (with_ground w.store w.tasks t F task spot.there spot.runs h)
  over_good t task (k ∷ under) words w e spot h =
      let lost : Task = with_stacks (λ stacks. drop 1 stacks) task in
      let tasks : List Task = changed_at t (with_stacks (λ stacks. drop 1 stacks)) w.tasks in
      let now : slice_get tasks t ≡ Some lost = changed_there t (with_stacks (λ stacks. drop 1 stacks)) w.tasks task spot.there in
      let below : WaitBelow w.store task.callee (k ∷ under) = subst (WaitBelow w.store task.callee) e spot.below in
      let top : TopIs (StackTyped w.store) w.store task.callee (answered_stacks [] (k ∷ under)) = (below.0 [] tt, below.1) in
      λ core.
      typed_by (goes_on_with t [] (unstacked t w))
      (with_ground w.store tasks t (answered_stacks []) lost now spot.runs (with_ground w.store w.tasks t (λ stacks. drop 1 stacks) task spot.there spot.runs h)) (
        t,
        spot.first,
        (
          with_stacks (answered_stacks []) lost,
          changed_there t (with_stacks (answered_stacks [])) tasks lost now,
          subst (λ (stacks : List Stack). TopIs (StackTyped w.store) w.store task.callee (answered_stacks [] stacks)) (sym e) top,
        ),
      )

  moved_good : (t : ℕ) (task : Task) (m : Move) (w : World) → MoveTyped w.store (gives task.callee (drop 1 task.stacks)) m → MoveKeeps w.store m → Spot w t task → Ground g w.store w.tasks → Good (moved g t task m w)
  unfolding moved
  moved_good t task (Goes paid s k) w typed keeps spot h =
      let F : List Stack → List Stack = λ stacks. k ∷ drop 1 stacks in
      λ core.
      typed_by (with_control Runs (with_stack t k (with_store s w))) (with_ground s w.tasks t F task spot.there spot.runs (ground_later w.store s w.tasks typed keeps h))
      (t, spot.first, (with_stacks F task, changed_there t (with_stacks F) w.tasks task spot.there, (typed.2, below_later w.store s task.callee (drop 1 task.stacks) typed.0 spot.below)))
  moved_good t task (core.Calls address words k) w typed keeps spot h =
      let F : List Stack → List Stack = λ stacks. k ∷ drop 1 stacks in
      let results : List ValType = gives task.callee (drop 1 task.stacks) in
      let c = h.hosts address typed.0 typed.1 in
      let fits : AreWords (canon_type c.0).params words = subst (λ (type : FuncType). AreWords type.params words) (sym c.2) typed.2 in
      let waits : IsWaiting w.store (canon_type c.0).results results k = subst (λ (type : FuncType). IsWaiting w.store type.results results k) (sym c.2) typed.3 in
      λ core.
      typed_by (with_control (Calls address words) (with_stack t k w)) (with_ground w.store w.tasks t F task spot.there spot.runs h)
      (t, spot.first, (with_stacks F task, changed_there t (with_stacks F) w.tasks task spot.there, (c.0, c.1, fits, (waits, spot.below))))
  moved_good t task (core.Ends words) w typed keeps spot h = over_good t task (drop 1 task.stacks) words w refl spot h
  moved_good t task (Traps why) w typed keeps spot h = λ core. absurd core
  moved_good t task core.Stuck w typed keeps spot h = tt

  running_good : (s : Script) (w : World) → OneActs IsRunning (outlines_of w.tasks) w.chain → FirstIs w.tasks w.chain (RunsTyped w.store) → Ground g w.store w.tasks → Good (running_turn g s w)
  unfolding running_turn
  running_good s w o acts h =
      given_good (acting w) _ (λ a e. given_good (slice_get a.1.stacks 0) _ (λ k i.
      let first : IsFirst a.0 w.chain = acting_first w a e in
      let there : slice_get w.tasks a.0 ≡ Some a.1 = acting_is w a e in
      let running : IsRunning (outline_of a.1) = is_what IsRunning a.0 w (outline_of a.1) (acts_at IsRunning w a e o) (outline_there w.tasks a.0 a.1 there) in
      let runs : RunsTyped w.store a.1 = one_task w.tasks a.0 (RunsTyped w.store) a.1 there (first_at w.tasks w.chain a.0 (RunsTyped w.store) first acts) in
      let top = top_of (StackTyped w.store) w.store a.1.callee a.1.stacks k runs i in
      charged_good (costs k (core.next w.store k)) s w _ (λ units.
      moved_good a.0 a.1 (core.next w.store k) (record w { units = units }) (moves_typed w.store (gives a.1.callee (drop 1 a.1.stacks)) k h.store top.0) (next_keeps w.store k)
      (record { first = first; there = there; runs = running.0; below = top.1 }) h)))

  -- Nested code.

  abbrev Nice : Turn → Type 0
  Nice (Steps labels v) = IsTyped g v
  Nice (Ends end) = Unit {0}
  Nice Stuck = Unit {0}

  either_nice : (b : Bool) (t u : Turn) → Nice t → Nice u → Nice (if b then t else u)
  either_nice true t u h k = h
  either_nice false t u h k = k

  charged_nice : (paid : Bool) (s : Script) (w : World) (f : World → Turn) → ((units : ℕ) → Nice (f (record w { units = units }))) → Nice (charged paid s w f)
  charged_nice false s w f h = h w.units
  charged_nice true s w f h = either_nice (nat_lt w.units s.fuel) (f (unit_spent w)) (Ends Fuel) (h (w.units + 1)) tt

  ended_nice : (b : Behind) (words : List ℕ) (w : World) → Ground g w.store w.tasks → Nice (nested_ended b words w)
  unfolding nested_ended
  ended_nice (InLowering l k) [] w h = tt
  ended_nice (InLowering l k) (place ∷ words) w h = typed_by (with_control (Lowers l (k place)) w) h tt
  ended_nice BeforeLeaving words w h = typed_by (with_control Leaves w) h tt

  hosted_nice : (s : Script) (n : Nested) (b : Behind) (k : Stack) (m : Move) (w : World) → MoveTyped w.store (nested_results b) m → MoveKeeps w.store m → Ground g w.store w.tasks
      → Nice (hosted g s n b (hosted_move k w.store m) w)
  unfolding hosted
  hosted_nice s n b k (Goes paid t l) w typed keeps h =
      charged_nice paid s w (λ v. silent (Quiet (record n { state = Going l }) b) (with_store t v)) (λ units.
      typed_by (with_control (Quiet (record n { state = Going l }) b) (with_store t (record w { units = units }))) (ground_later w.store t w.tasks typed keeps h) typed.2)
  hosted_nice s n b k (core.Calls number words l) w typed keeps h =
      let c = h.hosts number typed.0 typed.1 in
      let fits : AreWords (canon_type c.0).params words = subst (λ (type : FuncType). AreWords type.params words) (sym c.2) typed.2 in
      let waits : IsWaiting w.store (canon_type c.0).results (nested_results b) l = subst (λ (type : FuncType). IsWaiting w.store type.results (nested_results b) l) (sym c.2) typed.3 in
      charged_nice (costs k (core.Calls number words l)) s w (λ v. silent (Quiet (record n { state = AtCall number words l }) b) (with_store w.store v)) (λ units.
      typed_by (with_control (Quiet (record n { state = AtCall number words l }) b) (record w { units = units })) h (c.0, c.1, fits, waits))
  hosted_nice s n b k (core.Ends words) w typed keeps h = ended_nice b words w h
  hosted_nice s n b k (Traps why) w typed keeps h =
      charged_nice true s w (λ v. doomed n.blame (core_name why) v) (λ units. typed_by (with_control (Doomed n.blame (core_name why)) (record w { units = units })) h tt)
  hosted_nice s n b k core.Stuck w typed keeps h = tt

  nested_nice : (s : Script) (n : Nested) (b : Behind) (k : Stack) (w : World) → n.state ≡ Going k → StackTyped w.store (nested_results b) k → Ground g w.store w.tasks → Nice (nested_turn g s n b w)
  unfolding nested_turn
  nested_nice s n b k w is typed h =
      subst (λ (state : HostedState). Nice (hosted g s n b (hosted_next state w.store) w)) (sym is)
      (hosted_nice s n b k (core.next w.store k) w (moves_typed w.store (nested_results b) k h.store typed) (next_keeps w.store k) h)

-- In the first world.

hosts_typed : (s : Store) (all : List CanonFunc) → AllByRecursion (FunctionTyped s) (map (λ c. HostFunction (canon_type c)) all)
hosts_typed s [] = tt
hosts_typed s (c ∷ all) = (tt, hosts_typed s all)

host_same : (t u : FuncType) → HostFunction t ≡ HostFunction u → t ≡ u
host_same t u e = cc

canon_there : (all : List CanonFunc) (address : ℕ) (type : FuncType) → slice_get (map (λ c. HostFunction (canon_type c)) all) address ≡ Some (HostFunction type)
    → (c : CanonFunc) × (slice_get all address ≡ Some c) × (canon_type c ≡ type)
canon_there [] address type e = cc
canon_there (c ∷ all) zero type e = (c, refl, host_same (canon_type c) type (some_same e))
canon_there (c ∷ all) (suc address) type e = canon_there all address type e

pub first_typed : FirstTyped
first_typed g sound = record {
  store = record { funcs = hosts_typed (first_world g).store g.canons; tables = tt; memories = tt; globals = tt };
  canons = λ number c there. get_mapped g.canons number c there;
  hosts = λ address type there. canon_there g.canons address type there;
  made = λ e. cc;
  stand = (tt, tt);
  acts = record { before = []; after = g.cores; cores_are = refl; made = none_made (first_world g).store refl; left = sound.planned };
}

pub moves_stay_typed : MovesStayTyped
moves_stay_typed g s w v labels runs o h e core =
    let free : World = with_control Free w in
    let ordered : OneActs IsRunning (outlines_of w.tasks) w.chain = subst (λ (c : Control). ActsBy c (outlines_of w.tasks) w.chain) runs o.2 in
    let acts : FirstIs w.tasks w.chain (RunsTyped w.store) = subst (λ (c : Control). ActsTyped g c w.store w.tasks w.chain) runs h.acts in
    let ground : Ground g w.store w.tasks = record { store = h.store; canons = h.canons; hosts = h.hosts; made = h.made; stand = h.stand } in
    subst (Good g) (ap (next_by g s free) (sym runs) ∙ e) (running_good g s free ordered acts ground) core

pub nested_moves_stay_typed : NestedMovesStayTyped
nested_moves_stay_typed g s w v labels n b k quiet going h e =
    let free : World = with_control Free w in
    let acts : HostedTyped g w.store (nested_results b) n.state = subst (λ (c : Control). ActsTyped g c w.store w.tasks w.chain) quiet h.acts in
    let typed : StackTyped w.store (nested_results b) k = subst (HostedTyped g w.store (nested_results b)) going acts in
    subst (Nice g) (ap (next_by g s free) (sym quiet) ∙ e) (nested_nice g s n b k free going typed (record { store = h.store; canons = h.canons; hosts = h.hosts; made = h.made; stand = h.stand }))
