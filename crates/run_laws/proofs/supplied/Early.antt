-- While not all is instantiated core code is that of component instances that have begun, and so are the canonical functions that it calls.
use Rattle.std.proofs.Common.{◌≡◌, ◌⊎◌, inl, inr, ◌<◌, ◌≤◌, ◌+◌, ℕ, suc, Bool, true, false, is_some, List, [], ◌∷◌, ◌++◌, drop, length, refl, sym, ap, ◌∙◌, subst, arith, Option, Some, None, Result, Ok, Err}
use Rattle.std.specs.List.{slice_get, AllByRecursion}
use Rattle.std.specs.Option.{option_map, option_and_then}
use Rattle.std.proofs.lemmas.Option.{slice_get-get_or}
use Rattle.wasm_store.specs.Store.{Function, Instance, Store, func_at}
use Rattle.wasm_store.specs.Stack.{Stack}
use Rattle.wasm_store.specs.Step as core
use Rattle.wasm_store.specs.Step.{Move, start}
use Rattle.wasm_store.specs.Instantiation.{External, Instantiation, Makes, SegmentBounds, allocated, instantiated, instance_of, start_call}
use Rattle.wasm_store.proofs.Lists.{all_at}
use Rattle.comp_graph.specs.declared.graph.Action.{Action}
use Rattle.comp_graph.specs.declared.graph.Action.TheVariants.{Begin, Make}
use Rattle.comp_graph.specs.declared.graph.CanonFunc.{CanonFunc}
use Rattle.comp_graph.specs.declared.graph.FuncRef.TheVariants as func_ref
use Rattle.comp_graph.specs.Graph.{CoreMake, Graph}
use Rattle.script_reader.specs.Script.{Script}
use Rattle.trace_labels.specs.declared.label.Label.{Label}
use Rattle.trace_labels.specs.declared.label.Label.TheVariants as line
use Rattle.trace_labels.specs.declared.trap.TrapName.{TrapName}
use Rattle.abi_machine.specs.CoreSteps.{costs, stack_ended, ended_over, moved, running_turn}
use Rattle.abi_machine.specs.Control.{Control, Free, Chosen, Instantiates, Runs, Calls, Arrives, Lowers, Quiet, Back, Goes, Resumes, Delivers, Leaves as LeavesNow, Doomed}
use Rattle.abi_machine.specs.World.{TaskState, New, Acting, AfterCall, AfterCancel, Begins, WaitsToEnter, InLoop, InBuiltin, Exited, Task, World, first_world, new_inst}
use Rattle.abi_machine.specs.Canons.{canon_at, inst_of_canon, externals, builtin_of, destructor_of}
use Rattle.abi_machine.specs.Edits.{changed_at, with_control, with_store, unstacked, answered_stacks}
use Rattle.abi_machine.specs.Instantiating.{started_up, made, action_turn, instantiating_turn}
use Rattle.abi_machine.specs.Next.{next, next_by}
use Rattle.abi_machine.specs.Reading.{acting, func_of, is_instantiated, may_leave}
use Rattle.abi_machine.specs.Reply.{exempt_turn, allowed, calling_turn}
use Rattle.abi_machine.specs.replies.Context.{Exempt, Answers, exempt_of}
use Rattle.abi_machine.specs.Run.{Reaches}
use Rattle.abi_machine.specs.Turn.{Steps, Ends}
use Rattle.abi_machine.specs.declared.run_end.RunEnd.TheVariants.{Trapped}
use Rattle.abi_machine.specs.sound.GoingOn.{IsStanding}
use Rattle.abi_machine.specs.sound.Owners.{owner_of_core, owner_of_extern, owner_of_canon, IsApart, HasCanons, IsOwned, AreOwned, IsMadeUpTo, IsStackOf, IsControlOwn}
use Rattle.abi_machine.specs.sound.Starting.{IsDoomed}
use Rattle.abi_machine.specs.sound.TypedStacks.{IsOfStack}
use Rattle.abi_machine.proofs.sound.Chained.{last_there}
use Rattle.abi_machine.proofs.sound.Found.{some_same, acting_is}
use Rattle.abi_machine.proofs.sound.Lists.{all_changed, all_as, length_more}
use Rattle.abi_machine.proofs.sound.Reached.{first_stands, standing_stays}
use Rattle.abi_machine.proofs.sound.Started.{stays_started}
use Rattle.abi_machine.proofs.sound.acts.Nesting.{exempt_leaves}
use Rattle.abi_machine.proofs.sound.own.Belonging.{IsLike, IsMore, IsOwnMove, found_of, resumed_of, own_moves, made_like, core_more, MakesNext, make_next, canon_owner}
use Rattle.abi_machine.proofs.sound.own.Lists.{map_some, then_some, LeavesWith}
use Rattle.reach_laws.specs.KnownPlans.{begins_to, MakesFollow}
use Rattle.run_laws.specs.SuppliedEarly.{EarlyCallsAreInside}
use Rattle.run_laws.proofs.supplied.Begun.{Leaves, given_leaves, behind_leaves, either_leaves, charged_leaves, not_exited, BegunAt, first_begun, begun_on, alone_runs_none}

-- A stack runs code of a component instance that has begun; and so do all stacks of tasks.
abbrev IsIn : Graph → ℕ → Stack → Type 0
IsIn g count k = (o : ℕ) × (o < count) × IsStackOf g o k

abbrev StacksIn : Graph → ℕ → List Stack → Type 0
StacksIn g count stacks = AllByRecursion (IsIn g count) stacks

abbrev CodeIn : Graph → ℕ → List Task → Type 0
CodeIn g count tasks = AllByRecursion (λ task. StacksIn g count task.stacks) tasks

-- So is the canonical function that is called.
abbrev CallsIn : Graph → ℕ → Control → Type 0
CallsIn g count (Calls number words) = (o : ℕ) × (o < count) × (owner_of_canon g number ≡ Some o)
CallsIn g count control = Unit {0}

abbrev IsInside : Graph → World → Type 0
IsInside g v = CodeIn g (length v.insts) v.tasks × CallsIn g (length v.insts) v.control

-- A task is changed.
edited : (g : Graph) (count t : ℕ) (f : Task → Task) (tasks : List Task) → ((x : Task) → StacksIn g count x.stacks → StacksIn g count (f x).stacks) → CodeIn g count tasks → CodeIn g count (changed_at t f tasks)
edited g count t f tasks keeps h = all_changed (λ (task : Task). StacksIn g count task.stacks) t f tasks (λ x at k. keeps x k) h

under_in : (g : Graph) (count : ℕ) (stacks : List Stack) → StacksIn g count stacks → StacksIn g count (drop 1 stacks)
under_in g count [] h = tt
under_in g count (k ∷ under) h = h.1

answered_in : (g : Graph) (count : ℕ) (words : List ℕ) (stacks : List Stack) → StacksIn g count stacks → StacksIn g count (answered_stacks words stacks)
answered_in g count words [] h = tt
answered_in g count words (k ∷ under) h = ((h.0.0, h.0.1, resumed_of g h.0.0 words k h.0.2), h.1)

-- One more component instance begins.
more_in : (g : Graph) (count more : ℕ) (tasks : List Task) → count ≤ more → CodeIn g count tasks → CodeIn g more tasks
more_in g count more tasks less h =
    all_as (λ (task : Task). StacksIn g count task.stacks) (λ (task : Task). StacksIn g more task.stacks)
    (λ task k. all_as (IsIn g count) (IsIn g more) (λ stack x. (x.0, (let before : x.0 < count = x.1 in omega (arith, before, less)), x.2)) task.stacks k) tasks h

-- The start function of a core instance is that of its component instance.
start_in : (g : Graph) (c : CoreMake) (imports : List External) (s t : Store) (count : ℕ) (k : Stack) → AreOwned g t → IsLike (allocated c.of_module imports s) t → owner_of_core g (length s.instances) ≡ Some c.owner → c.owner < count
    → start_call c.of_module (instance_of c.of_module imports s) t ≡ Some k → IsIn g count k
start_in g c imports s t count k owned like own less e =
    let i : Instance = instance_of c.of_module imports s in
    let called = map_some (λ (p : ℕ × Function). start p.1 p.0 []) (option_and_then (λ (index : ℕ). func_at index i t) c.of_module.start) k e in
    let first = then_some (λ (index : ℕ). func_at index i t) c.of_module.start called.0 called.1 in
    let there : slice_get t.instances (length s.instances) ≡ Some i = ap (λ (all : List Instance). slice_get all (length s.instances)) like.1 ∙ last_there s.instances i in
    let funcs : AllByRecursion (IsOwned g t c.owner) i.funcs = owned.1.funcs (length s.instances) c.owner i own there in
    let runs : IsStackOf g c.owner (start called.0.1 called.0.0 []) = found_of g t c.owner (slice_get i.funcs first.0) called.0 [] first.2 (λ address at. all_at (IsOwned g t c.owner) i.funcs first.0 address funcs at) in
    (c.owner, less, subst (IsStackOf g c.owner) called.2 runs)

makes_owned : (g : Graph) (r : Instantiation) (s t : Store) → r ≡ Makes t → LeavesWith (IsMore g s) r → IsMore g s t
makes_owned g r s t is h = subst (LeavesWith (IsMore g s)) is h

makes_alike : (r : Instantiation) (s t : Store) → r ≡ Makes t → LeavesWith (IsLike s) r → IsLike s t
makes_alike r s t is h = subst (LeavesWith (IsLike s)) is h

-- A move of code of a component instance.
move_in : (g : Graph) (count : ℕ) (s : Store) (k : Stack) → AreOwned g s → IsIn g count k → (o : ℕ) × (o < count) × IsOwnMove g s (Some (destructor_of o (func_ref.Canon 0))) (core.next s k)
move_in g count s k owned h = (h.0, h.1, own_moves g s (Some (destructor_of h.0 (func_ref.Canon 0))) k owned h.2)

module _ (g : Graph) where
  abbrev P : World → Type 0
  P v = IsInside g v

  -- Actions of the plan.
  module _ (n : ℕ) (u : World) (h : CodeIn g (length u.insts) u.tasks) where
    started_step : (o : Option Stack) (t : Store) → ((k : Stack) → o ≡ Some k → IsIn g (length u.insts) k) → Leaves P (started_up (n + 1) o (with_store t u))
    unfolding started_up
    started_step None t new = (h, tt)
    started_step (Some k) t new =
        let begins : Task → Task = λ x. record x { state = Begins (n + 1) } in
        (edited g (length u.insts) 0 (λ x. record x { stacks = k ∷ x.stacks }) (changed_at 0 begins u.tasks) (λ x s. (new k refl, s)) (edited g (length u.insts) 0 begins u.tasks (λ x s. s) h), tt)

    made_step : (c : CoreMake) (imports : List External) (r : Instantiation)
        → ((t : Store) → r ≡ Makes t → (k : Stack) → start_call c.of_module (instance_of c.of_module imports u.store) t ≡ Some k → IsIn g (length u.insts) k) → Leaves P (made n c imports r u)
    unfolding made
    made_step c imports (SegmentBounds t) new = (h, tt)
    made_step c imports (Makes t) new = started_step (start_call c.of_module (instance_of c.of_module imports u.store) t) t (new t refl)

    plan_step : (o : Option Action) → slice_get g.plan n ≡ o → IsApart g → MakesFollow g → begins_to n g.plan ≤ length u.insts → HasCanons g u.store → AreOwned g u.store
        → IsMadeUpTo g (length u.store.instances) n → Leaves P (action_turn g n o u)
    unfolding action_turn
    plan_step None e apart follow count canons owned so = (edited g (length u.insts) 0 (λ x. record x { state = Exited }) u.tasks (λ x s. s) h, tt)
    plan_step (Some (Begin number)) e apart follow count canons owned so =
        let longer : length (u.insts ++ new_inst ∷ []) ≡ suc (length u.insts) = length_more u.insts new_inst in
        (more_in g (length u.insts) (length (u.insts ++ new_inst ∷ [])) u.tasks (omega (arith, longer)) h, tt)
    plan_step (Some (Make number)) e apart follow count canons owned so =
        given_leaves P (slice_get g.cores number) _ (λ c i. given_leaves P (externals u.store c.imports) _ (λ imports j.
        made_step c imports (instantiated c.of_module imports u.store) (λ t is k starts.
        let makes : MakesNext g (length u.store.instances) n number = make_next g (length u.store.instances) n number e so in
        let own : owner_of_core g (length u.store.instances) ≡ Some c.owner = subst (λ (m : ℕ). owner_of_core g m ≡ Some c.owner) makes.is (ap (option_map (λ (x : CoreMake). x.owner)) i) in
        let more : IsMore g u.store t =
        makes_owned g (instantiated c.of_module imports u.store) u.store t is
        (core_more g c imports u.store canons owned own (all_at (λ (x : CoreMake). AllByRecursion (λ x_import. owner_of_extern g x_import ≡ Some x.owner) x.imports) g.cores number c apart.imports i) j) in
        let like : IsLike (allocated c.of_module imports u.store) t = makes_alike (instantiated c.of_module imports u.store) (allocated c.of_module imports u.store) t is (made_like c imports u.store) in
        let begun : c.owner < begins_to n g.plan = follow n number c e i in
        start_in g c imports u.store t (length u.insts) k more.owned like own (omega (arith, begun, count)) starts)))

    instantiating_step : IsApart g → MakesFollow g → begins_to n g.plan ≤ length u.insts → HasCanons g u.store → AreOwned g u.store → IsMadeUpTo g (length u.store.instances) n
        → Leaves P (instantiating_turn g n u)
    unfolding instantiating_turn
    instantiating_step apart follow count canons owned so = plan_step (slice_get g.plan n) refl apart follow count canons owned so

  -- Code of a start function runs.
  stack_step : (t : ℕ) (task : Task) (state : TaskState) (words : List ℕ) (u : World) → func_of task.callee ≡ None → CodeIn g (length u.insts) u.tasks → Leaves P (stack_ended g t task state words u)
  unfolding stack_ended
  stack_step t task (Begins n) words u none h = (edited g (length u.insts) t (λ x. record x { state = Acting }) u.tasks (λ x s. s) h, tt)
  stack_step t task Acting words u none h = given_leaves P (func_of task.callee) _ (λ f e. absurd (let clash : None ≡ Some f = sym none ∙ e in let no_func : ⊥ = cc in no_func))
  stack_step t task New words u none h = tt
  stack_step t task (AfterCall callee number others) words u none h = tt
  stack_step t task (AfterCancel callee number others) words u none h = tt
  stack_step t task WaitsToEnter words u none h = tt
  stack_step t task (InLoop word) words u none h = tt
  stack_step t task (InBuiltin number others wait) words u none h = tt
  stack_step t task Exited words u none h = tt

  over_step : (t : ℕ) (task : Task) (under : List Stack) (words : List ℕ) (u : World) → func_of task.callee ≡ None → CodeIn g (length u.insts) u.tasks → Leaves P (ended_over g t task under words u)
  unfolding ended_over
  over_step t task [] words u none h = stack_step t task task.state words u none h
  over_step t task (k ∷ under) words u none h =
      (edited g (length u.insts) t (λ x. record x { stacks = answered_stacks [] x.stacks }) u.tasks (λ x s. answered_in g (length u.insts) [] x.stacks s) h, tt)

  moved_step : (t : ℕ) (task : Task) (m : Move) (s : Store) (u : World) → func_of task.callee ≡ None → (o : ℕ) × (o < length u.insts) × IsOwnMove g s (Some (destructor_of o (func_ref.Canon 0))) m → CodeIn g (length u.insts) u.tasks
      → Leaves P (moved g t task m u)
  unfolding moved
  moved_step t task (core.Goes paid x l) s u none own h =
      (edited g (length u.insts) t (λ y. record y { stacks = l ∷ drop 1 y.stacks }) u.tasks (λ y k. ((own.0, own.1, own.2.1), under_in g (length u.insts) y.stacks k)) h, tt)
  moved_step t task (core.Calls address words l) s u none own h =
      (edited g (length u.insts) t (λ y. record y { stacks = l ∷ drop 1 y.stacks }) u.tasks (λ y k. ((own.0, own.1, own.2.1), under_in g (length u.insts) y.stacks k)) h, (own.0, own.1, own.2.0))
  moved_step t task (core.Ends words) s u none own h =
      over_step t task (drop 1 task.stacks) words (unstacked t u) none (edited g (length u.insts) t (λ y. record y { stacks = drop 1 y.stacks }) u.tasks (λ y k. under_in g (length u.insts) y.stacks k) h)
  moved_step t task (core.Traps why) s u none own h = (h, tt)
  moved_step t task core.Stuck s u none own h = tt

  running_step : (s : Script) (u : World) → ((t : ℕ) (task : Task) → slice_get u.tasks t ≡ Some task → func_of task.callee ≡ None) → AreOwned g u.store → CodeIn g (length u.insts) u.tasks → Leaves P (running_turn g s u)
  unfolding running_turn
  running_step s u none owned h =
      given_leaves P (acting u) _ (λ a e. given_leaves P (slice_get a.1.stacks 0) _ (λ k i.
      charged_leaves P (costs k (core.next u.store k)) s u _ (λ units.
      let stacks : StacksIn g (length u.insts) a.1.stacks = all_at (λ (x : Task). StacksIn g (length u.insts) x.stacks) u.tasks a.0 a.1 h (acting_is u a e) in
      moved_step a.0 a.1 (core.next u.store k) u.store (record u { units = units }) (none a.0 a.1 (acting_is u a e))
      (move_in g (length u.insts) u.store k owned (all_at (IsIn g (length u.insts)) a.1.stacks 0 k stacks i)) h)))

  -- It calls.
  abbrev Code : World → Type 0
  Code u = CodeIn g (length u.insts) u.tasks

  answered_step : (t : ℕ) (r : Result Answers TrapName) (u : World) → ((answer : Answers) → r ≡ Ok answer → Code answer.world) → Code u → Leaves P (exempt_turn t r u)
  unfolding exempt_turn
  answered_step t (Err why) u keeps h = (h, tt)
  answered_step t (Ok answer) u keeps h =
      (edited g (length answer.world.insts) t (λ x. record x { stacks = answered_stacks answer.words x.stacks }) answer.world.tasks (λ x s. answered_in g (length answer.world.insts) answer.words x.stacks s) (keeps answer refl), tt)

  allowed_step : (t : ℕ) (task : Task) (number : ℕ) (c : CanonFunc) (words : List ℕ) (x : Option Exempt) (u : World) → exempt_of t words c ≡ x → may_leave u ≡ false → Code u → Leaves P (allowed g t task number c words x u)
  unfolding allowed
  allowed_step t task number c words None u e yet h = either_leaves P (may_leave u) _ _ (λ k. absurd (let clash : true ≡ false = sym k ∙ yet in let none : ⊥ = cc in none)) (λ k. (h, tt))
  allowed_step t task number c words (Some exempt) u e yet h =
      answered_step t (exempt u) u
      (λ answer j. exempt_leaves Code (λ n slot word v k. edited g (length v.insts) n _ v.tasks (λ x s. s) k) t words c exempt e u answer j h) h

  calling_step : (number : ℕ) (words : List ℕ) (u : World) → may_leave u ≡ false → Code u → Leaves P (calling_turn g number words u)
  unfolding calling_turn
  calling_step number words u yet h =
      given_leaves P (acting u) _ (λ a e. given_leaves P (canon_at g number) _ (λ c i.
      behind_leaves P (line.Do a.0 (builtin_of c) words ∷ []) (allowed g a.0 a.1 number c words (exempt_of a.0 words c) u) (allowed_step a.0 a.1 number c words (exempt_of a.0 words c) u refl yet h)))

-- while not all is instantiated
abbrev EarlyAt : Graph → World → Type 0
EarlyAt g w = is_instantiated w.tasks ≡ false → IsInside g w

module _ (g : Graph) (s : Script) (w v : World) (labels : List Label) (apart : IsApart g) (follow : MakesFollow g) (k : IsStanding g s w) (b : BegunAt g w) (inside : IsInside g w) (yet : is_instantiated w.tasks ≡ false)
    (e : next g s w ≡ Steps labels v) where
  abbrev free : World
  free = with_control Free w

  turn_now : (c : Control) → w.control ≡ c → next_by g s free c ≡ Steps labels v
  turn_now c is = ap (next_by g s free) (sym is) ∙ e

  ends_not : (t : ℕ) (why : TrapName) → w.control ≡ Doomed t why → ⊥
  ends_not t why is = (let clash : Ends (Trapped t why) ≡ Steps labels v = turn_now (Doomed t why) is in cc)

  neither : ⊥ ⊎ ⊥ → IsInside g v
  neither (inl x) = absurd x
  neither (inr x) = absurd x

  early : (c : Control) → w.control ≡ c → IsDoomed c ⊎ IsOfStack c → IsInside g v
  early (Instantiates n) is core =
      subst (Leaves (IsInside g)) (turn_now (Instantiates n) is)
      (instantiating_step g n free inside.0 apart follow (b.at_plan n is) k.own.canons k.own.owned (subst (λ (c : Control). IsControlOwn g c w) is k.control_own))
  early Runs is core = subst (Leaves (IsInside g)) (turn_now Runs is) (running_step g s free (λ t task there. (alone_runs_none w k.alone.0 (b.alone (not_exited w.tasks yet)) t task there).0) k.own.owned inside.0)
  early (Calls number words) is core = subst (Leaves (IsInside g)) (turn_now (Calls number words) is) (calling_step g number words free yet inside.0)
  early (Doomed t why) is core = absurd (ends_not t why is)
  early Free is core = neither core
  early (Chosen n) is core = neither core
  early Arrives is core = neither core
  early (Lowers l plan) is core = neither core
  early (Quiet n x) is core = neither core
  early Back is core = neither core
  early Goes is core = neither core
  early Resumes is core = neither core
  early (Delivers set receiver pick) is core = neither core
  early LeavesNow is core = neither core

  early_on : IsInside g v
  early_on = early w.control refl (b.core (not_exited w.tasks yet))

step_early : (g : Graph) (s : Script) (w v : World) (labels : List Label) → IsApart g → MakesFollow g → IsStanding g s w → BegunAt g w → EarlyAt g w → next g s w ≡ Steps labels v → EarlyAt g v
step_early g s w v labels apart follow k b h e later = by (is_instantiated w.tasks) refl
  where
    by : (d : Bool) → is_instantiated w.tasks ≡ d → IsInside g v
    by false yet = early_on g s w v labels apart follow k b (h yet) yet e
    by true done = absurd (let clash : true ≡ false = sym (stays_started g s w v labels k.alone done e) ∙ later in let none : ⊥ = cc in none)

early_from : (g : Graph) (s : Script) (steps : List (List Label)) (w v : World) → IsApart g → MakesFollow g → IsStanding g s w → BegunAt g w → EarlyAt g w → Reaches g s w steps v → EarlyAt g v
early_from g s [] w v apart follow k b h r = subst (EarlyAt g) (sym r) h
early_from g s (labels ∷ steps) w v apart follow k b h r =
    early_from g s steps r.0 v apart follow (standing_stays g s w r.0 labels apart k r.1) (begun_on g s w r.0 labels k.alone b r.1) (step_early g s w r.0 labels apart follow k b h r.1) r.2

pub early_calls_are_inside : EarlyCallsAreInside
early_calls_are_inside g s steps w number words c apart follow r is made yet =
    let inside : IsInside g w = early_from g s steps (first_world g) w apart follow (first_stands g s apart) (first_begun g) (λ first. ((tt, tt), tt)) r yet in
    let calls : CallsIn g (length w.insts) (Calls number words) = subst (CallsIn g (length w.insts)) is inside.1 in
    let own : inst_of_canon c ≡ calls.0 = some_same (sym (canon_owner g number c made) ∙ calls.2) in
    let less : inst_of_canon c < length w.insts = subst (λ (n : ℕ). n < length w.insts) (sym own) calls.1 in
    ap is_some (slice_get-get_or w.insts (inst_of_canon c) new_inst less)
