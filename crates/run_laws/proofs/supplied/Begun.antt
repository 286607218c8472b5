-- The component instances of a graph are begun once all is instantiated, as many as its plan begins; and so those of the functions that tasks run are there.
use Rattle.std.proofs.Common.{◌≡◌, ◌⊎◌, inl, inr, ◌≤◌, ◌<◌, ◌+◌, ℕ, zero, suc, Bool, true, false, if◌then◌else◌, is_some, List, [], ◌∷◌, ◌++◌, drop, length, nat_lt, refl, sym, ap, ◌∙◌, subst, arith, Option, Some, None, Result, Ok, Err}
use Rattle.std.specs.Prelude.{IsSome, slice_index}
use Rattle.std.specs.List.{slice_get}
use Rattle.std.proofs.lemmas.Option.{slice_get-get_or}
use Rattle.syntax_trees.specs.declared.types.ValType.{ValType}
use Rattle.wasm_store.specs.Store.{Store}
use Rattle.wasm_store.specs.Stack.{Stack}
use Rattle.wasm_store.specs.Step as core
use Rattle.wasm_store.specs.Step.{Move}
use Rattle.wasm_store.specs.Instantiation.{External, Instantiation, Makes, SegmentBounds, instantiated, instance_of, start_call}
use Rattle.wasm_store.proofs.Lists.{all_at}
use Rattle.builtin_kinds.specs.declared.ContextOp.{ContextOp}
use Rattle.builtin_kinds.specs.declared.ContextOp.TheVariants as context_op
use Rattle.builtin_kinds.specs.declared.ResourceOp.TheVariants as resource_op
use Rattle.comp_graph.specs.declared.graph.Action.{Action}
use Rattle.comp_graph.specs.declared.graph.Action.TheVariants.{Begin, Make}
use Rattle.comp_graph.specs.declared.graph.BuiltinKind.{BuiltinKind}
use Rattle.comp_graph.specs.declared.graph.BuiltinKind.TheVariants as builtin
use Rattle.comp_graph.specs.declared.graph.CanonFunc.{CanonFunc}
use Rattle.comp_graph.specs.declared.graph.CanonFunc.TheVariants as canon
use Rattle.comp_graph.specs.Graph.{CoreMake, Graph, Lifted}
use Rattle.script_reader.specs.Script.{Script}
use Rattle.trace_labels.specs.declared.label.Label.{Label}
use Rattle.trace_labels.specs.declared.label.Label.TheVariants as line
use Rattle.trace_labels.specs.declared.trap.TrapName.{TrapName}
use Rattle.trace_labels.specs.declared.trap.TrapName.TheVariants as trap
use Rattle.world_parts.specs.Held.{Held}
use Rattle.res_handles.specs.Refusals.{handle_in, rep_of}
use Rattle.abi_machine.specs.CoreSteps.{costs, stack_ended, ended_over, moved, running_turn}
use Rattle.abi_machine.specs.Control.{Control, Free, Chosen, Instantiates, Runs, Calls, Arrives, Lowers, Quiet, Back, Goes, Resumes, Delivers, Leaves as LeavesNow, Doomed}
use Rattle.abi_machine.specs.World.{Inst, TaskState, New, Acting, AfterCall, AfterCancel, Begins, WaitsToEnter, InLoop, InBuiltin, Exited, Task, World, first_world, new_inst}
use Rattle.abi_machine.specs.Canons.{canon_at, inst_of_canon, externals, builtin_of}
use Rattle.abi_machine.specs.Edits.{changed_at, with_control, with_store, unstacked, answered_stacks, word_changed, word_set, unit_spent}
use Rattle.abi_machine.specs.Instantiating.{started_up, made, action_turn, instantiating_turn}
use Rattle.abi_machine.specs.Next.{next, next_by}
use Rattle.abi_machine.specs.Reading.{acting, task_at, func_of, has_exited, is_instantiated, may_leave}
use Rattle.abi_machine.specs.Reply.{exempt_turn, allowed, calling_turn}
use Rattle.abi_machine.specs.replies.Context.{word_of, context_answer, rep_answered, exempt_kind, exempt_of}
use Rattle.abi_machine.specs.Run.{Reaches}
use Rattle.abi_machine.specs.Counting.{view_at}
use Rattle.abi_machine.specs.Traps.{renamed, refusal_name, core_name}
use Rattle.abi_machine.specs.Turn.{Turn, Steps, Ends, Stuck, doomed, behind, given, charged}
use Rattle.abi_machine.specs.declared.run_end.RunEnd.TheVariants.{Fuel, Trapped}
use Rattle.abi_machine.specs.sound.Changes as changes
use Rattle.abi_machine.specs.sound.Changes.{Change, GoesTo, HasStore, SpendsUnit, UsesPicks, TakesItem, BeginsInstance, AddsEntry, MakesSet, RemovesEntry, RemovesWaitable, LeavesSet, JoinsSet, HasBackpressure, IsCalled, ComesBack, Acts, Cancels, Blocks, Exits, IsRemoved, Resolves, IsCancelled, HasWord, HasNewStack, HasStack, LosesStack, IsAnswered, IsTold, IsLent, HasResult, MakesChannel, Offers, Transfers, Concludes, DropsEnd, after}
use Rattle.abi_machine.specs.sound.GoingOn.{IsStanding}
use Rattle.abi_machine.specs.sound.Owners.{IsApart}
use Rattle.abi_machine.specs.sound.GraphFuncs.{IsOfGraph, HaveCallees}
use Rattle.abi_machine.specs.sound.Initial.{InitRunsAlone, RunsAlone}
use Rattle.abi_machine.specs.sound.Premises.{Comes}
use Rattle.abi_machine.specs.sound.Starting.{IsDoomed}
use Rattle.abi_machine.specs.sound.TypedStacks.{IsOfStack}
use Rattle.abi_machine.proofs.sound.Alone.{kept_so}
use Rattle.abi_machine.proofs.sound.Aside.{channel_kept, made_kept}
use Rattle.abi_machine.proofs.sound.Found.{some_same, acting_is}
use Rattle.abi_machine.proofs.sound.Lists.{length_changed, length_more}
use Rattle.abi_machine.proofs.sound.Callees.{first_has_callees, callees_stay}
use Rattle.abi_machine.proofs.sound.Reached.{first_stands, standing_stays}
use Rattle.abi_machine.proofs.sound.Started.{stays_started}
use Rattle.run_laws.specs.Reached.{StandsReached}
use Rattle.reach_laws.specs.KnownPlans.{begins, begins_to, InstancesBegin}
use Rattle.run_laws.specs.Supplied.{InstancesAreThere, CanonsAreInside}

to_all : (n : ℕ) (plan : List Action) → begins_to n plan ≤ begins plan
to_all zero plan = omega arith
to_all (suc n) [] = omega arith
to_all (suc n) (Begin number ∷ plan) = omega (arith, to_all n plan)
to_all (suc n) (Make number ∷ plan) = to_all n plan

one_more : (n : ℕ) → n + 1 ≡ suc n
one_more n = omega arith

begin_counts : (n : ℕ) (plan : List Action) (number : ℕ) → slice_get plan n ≡ Some (Begin number) → begins_to (suc n) plan ≡ suc (begins_to n plan)
begin_counts zero [] number e = absurd (cc)
begin_counts (suc n) [] number e = absurd (cc)
begin_counts zero (Begin other ∷ plan) number e = refl
begin_counts zero (Make other ∷ plan) number e = absurd (cc)
begin_counts (suc n) (Begin other ∷ plan) number e = ap suc (begin_counts n plan number e)
begin_counts (suc n) (Make other ∷ plan) number e = begin_counts n plan number e

make_counts : (n : ℕ) (plan : List Action) (number : ℕ) → slice_get plan n ≡ Some (Make number) → begins_to (suc n) plan ≡ begins_to n plan
make_counts zero [] number e = absurd (cc)
make_counts (suc n) [] number e = absurd (cc)
make_counts zero (Begin other ∷ plan) number e = absurd (cc)
make_counts zero (Make other ∷ plan) number e = refl
make_counts (suc n) (Begin other ∷ plan) number e = ap suc (make_counts n plan number e)
make_counts (suc n) (Make other ∷ plan) number e = make_counts n plan number e

past_counts : (n : ℕ) (plan : List Action) → slice_get plan n ≡ None → begins_to n plan ≡ begins plan
past_counts zero [] e = refl
past_counts (suc n) [] e = refl
past_counts zero (Begin other ∷ plan) e = absurd (cc)
past_counts zero (Make other ∷ plan) e = absurd (cc)
past_counts (suc n) (Begin other ∷ plan) e = ap suc (past_counts n plan e)
past_counts (suc n) (Make other ∷ plan) e = past_counts n plan e

-- The state of task 0.
abbrev pub first_state : List Task → TaskState
first_state [] = New
first_state (x ∷ tasks) = x.state

same_first : (t : ℕ) (f : Task → Task) (tasks : List Task) → ((x : Task) → (f x).state ≡ x.state) → first_state (changed_at t f tasks) ≡ first_state tasks
same_first t f [] same = refl
same_first zero f (x ∷ tasks) same = same x
same_first (suc t) f (x ∷ tasks) same = refl

abbrev now_acting : Task → Task
now_acting task = record task { state = Acting }

acting_begins : (t : ℕ) (tasks : List Task) (m : ℕ) → first_state (changed_at t now_acting tasks) ≡ Begins m → first_state tasks ≡ Begins m
acting_begins t [] m e = e
acting_begins zero (x ∷ tasks) m e = absurd (cc)
acting_begins (suc t) (x ∷ tasks) m e = e

acting_exited : (t : ℕ) (tasks : List Task) → has_exited (first_state (changed_at t now_acting tasks)) ≡ true → has_exited (first_state tasks) ≡ true
acting_exited t [] e = e
acting_exited zero (x ∷ tasks) e = absurd (cc)
acting_exited (suc t) (x ∷ tasks) e = e

abbrev now_begins : ℕ → Task → Task
now_begins n task = record task { state = Begins n }

abbrev on_stack : Stack → Task → Task
on_stack k task = record task { stacks = k ∷ task.stacks }

start_is : (k : Stack) (n m : ℕ) (tasks : List Task) → first_state (changed_at 0 (on_stack k) (changed_at 0 (now_begins n) tasks)) ≡ Begins m → n ≡ m
start_is k n m [] e = absurd (cc)
start_is k n m (x ∷ tasks) e = cc

start_not : (k : Stack) (n : ℕ) (tasks : List Task) → has_exited (first_state (changed_at 0 (on_stack k) (changed_at 0 (now_begins n) tasks))) ≡ true → ⊥
start_not k n [] e = cc
start_not k n (x ∷ tasks) e = cc

first_is : (tasks : List Task) (task : Task) → slice_get tasks 0 ≡ Some task → first_state tasks ≡ task.state
first_is [] task e = absurd (cc)
first_is (x ∷ tasks) task e = ap (λ (y : Task). y.state) (some_same e)

exited_first : (tasks : List Task) → is_instantiated tasks ≡ true → has_exited (first_state tasks) ≡ true
exited_first [] e = absurd (cc)
exited_first (x ∷ tasks) e = e

first_exited : (tasks : List Task) → has_exited (first_state tasks) ≡ true → is_instantiated tasks ≡ true
first_exited [] e = absurd (cc)
first_exited (x ∷ tasks) e = e

plan_same : (n m : ℕ) → Instantiates n ≡ Instantiates m → n ≡ m
plan_same n m e = cc

runs_no : (n : ℕ) → Runs ≡ Instantiates n → ⊥
runs_no n e = cc

free_no : (n : ℕ) → Free ≡ Instantiates n → ⊥
free_no n e = cc

calls_no : (number : ℕ) (words : List ℕ) (n : ℕ) → Calls number words ≡ Instantiates n → ⊥
calls_no number words n e = cc

doomed_no : (t : ℕ) (why : TrapName) (n : ℕ) → Doomed t why ≡ Instantiates n → ⊥
doomed_no t why n e = cc

abbrev now_exited : Task → Task
now_exited task = record task { state = Exited }

exits_now : (tasks : List Task) → length tasks ≡ 1 → has_exited (first_state (changed_at 0 now_exited tasks)) ≡ true
exits_now [] e = absurd (cc)
exits_now (x ∷ tasks) e = refl

pub not_exited : (tasks : List Task) → is_instantiated tasks ≡ false → has_exited (first_state tasks) ≡ false
not_exited [] e = refl
not_exited (x ∷ tasks) e = e

-- Of a turn, that its step leaves this.
module _ (P : World → Type 0) where
  abbrev pub Leaves : Turn → Type 0
  Leaves (Steps labels v) = P v
  Leaves (Ends end) = Unit {0}
  Leaves Stuck = Unit {0}

  pub given_leaves : {A : Type 0} (o : Option A) (f : A → Turn) → ((x : A) → o ≡ Some x → Leaves (f x)) → Leaves (given o f)
  given_leaves None f h = tt
  given_leaves (Some x) f h = h x refl

  pub behind_leaves : (lines : List Label) (t : Turn) → Leaves t → Leaves (behind lines t)
  behind_leaves lines (Steps labels v) h = h
  behind_leaves lines (Ends end) h = tt
  behind_leaves lines Stuck h = tt

  pub either_leaves : (b : Bool) (t u : Turn) → (b ≡ true → Leaves t) → (b ≡ false → Leaves u) → Leaves (if b then t else u)
  either_leaves true t u h k = h refl
  either_leaves false t u h k = k refl

  pub charged_leaves : (paid : Bool) (s : Script) (w : World) (f : World → Turn) → ((units : ℕ) → Leaves (f (record w { units = units }))) → Leaves (charged paid s w f)
  charged_leaves false s w f h = h w.units
  charged_leaves true s w f h = either_leaves (nat_lt w.units s.fuel) (f (unit_spent w)) (Ends Fuel) (λ e. h (w.units + 1)) (λ e. tt)

-- How many are begun, by where instantiation is; and until all is, task 0 is alone, and core code runs or a trap is to come.
pub record BegunBy (g : Graph) (c : Control) (state : TaskState) (tasks count : ℕ) : Type 0 where
  pub at_plan : (n : ℕ) → c ≡ Instantiates n → begins_to n g.plan ≤ count
  pub in_start : (n : ℕ) → state ≡ Begins n → begins_to n g.plan ≤ count
  pub all : has_exited state ≡ true → begins g.plan ≤ count
  pub alone : has_exited state ≡ false → tasks ≡ 1
  pub core : has_exited state ≡ false → IsDoomed c ⊎ IsOfStack c

-- the same of a world whose control was taken off
record OpenBy (g : Graph) (state : TaskState) (tasks count : ℕ) : Type 0 where
  pub in_start : (n : ℕ) → state ≡ Begins n → begins_to n g.plan ≤ count
  pub all : has_exited state ≡ true → begins g.plan ≤ count
  pub alone : has_exited state ≡ false → tasks ≡ 1

abbrev pub BegunAt : Graph → World → Type 0
BegunAt g w = BegunBy g w.control (first_state w.tasks) (length w.tasks) (length w.insts)

abbrev OpenAt : Graph → World → Type 0
OpenAt g w = OpenBy g (first_state w.tasks) (length w.tasks) (length w.insts)

open_of : {g : Graph} {c : Control} {state : TaskState} {tasks count : ℕ} → BegunBy g c state tasks count → OpenBy g state tasks count
open_of h = record { in_start = h.in_start; all = h.all; alone = h.alone }

from_all : (g : Graph) (c : Control) (state : TaskState) (tasks count : ℕ) → has_exited state ≡ true → begins g.plan ≤ count → BegunBy g c state tasks count
from_all g c state tasks count done h = record {
  at_plan = λ n is. omega (arith, to_all n g.plan, h);
  in_start = λ n is. omega (arith, to_all n g.plan, h);
  all = λ e. h;
  alone = λ yet. absurd (let clash : true ≡ false = sym done ∙ yet in let none : ⊥ = cc in none);
  core = λ yet. absurd (let clash : true ≡ false = sym done ∙ yet in let none : ⊥ = cc in none);
}

onward : (g : Graph) (d : Control) (state : TaskState) (tasks count : ℕ) → ((n : ℕ) → d ≡ Instantiates n → ⊥) → IsDoomed d ⊎ IsOfStack d → OpenBy g state tasks count → BegunBy g d state tasks count
onward g d state tasks count other core h = record { at_plan = λ n is. absurd (other n is); in_start = h.in_start; all = h.all; alone = h.alone; core = λ yet. core }

module _ (g : Graph) where
  abbrev P : World → Type 0
  P v = BegunAt g v

  -- A task is changed, and its state is not.
  changed : (u : World) (t : ℕ) (f : Task → Task) → ((x : Task) → (f x).state ≡ x.state) → OpenAt g u
      → OpenBy g (first_state (changed_at t f u.tasks)) (length (changed_at t f u.tasks)) (length u.insts)
  changed u t f same h =
      subst (λ (state : TaskState). OpenBy g state (length (changed_at t f u.tasks)) (length u.insts)) (sym (same_first t f u.tasks same))
      (subst (λ (n : ℕ). OpenBy g (first_state u.tasks) n (length u.insts)) (sym (length_changed t f u.tasks)) h)

  edited : (u : World) (d : Control) (t : ℕ) (f : Task → Task) → ((n : ℕ) → d ≡ Instantiates n → ⊥) → IsDoomed d ⊎ IsOfStack d → ((x : Task) → (f x).state ≡ x.state) → OpenAt g u
      → BegunBy g d (first_state (changed_at t f u.tasks)) (length (changed_at t f u.tasks)) (length u.insts)
  edited u d t f other core same h = onward g d (first_state (changed_at t f u.tasks)) (length (changed_at t f u.tasks)) (length u.insts) other core (changed u t f same h)

  -- An action of the plan, where so many of it are done.
  module _ (n : ℕ) (u : World) (one : length u.tasks ≡ 1) (h : OpenAt g u) where
    started_step : (o : Option Stack) (t : Store) → begins_to (n + 1) g.plan ≤ length u.insts → Leaves P (started_up (n + 1) o (with_store t u))
    unfolding started_up
    started_step None t count = record {
      at_plan = λ m is. subst (λ (k : ℕ). begins_to k g.plan ≤ length u.insts) (plan_same (n + 1) m is) count;
      in_start = h.in_start;
      all = h.all;
      alone = h.alone;
      core = λ yet. inr tt;
    }
    started_step (Some k) t count = record {
      at_plan = λ m is. absurd (runs_no m is);
      in_start = λ m is. subst (λ (k : ℕ). begins_to k g.plan ≤ length u.insts) (start_is k (n + 1) m u.tasks is) count;
      all = λ done. absurd (start_not k (n + 1) u.tasks done);
      alone = λ yet. length_changed 0 (on_stack k) (changed_at 0 (now_begins (n + 1)) u.tasks) ∙ length_changed 0 (now_begins (n + 1)) u.tasks ∙ one;
      core = λ yet. inr tt;
    }

    made_step : (c : CoreMake) (imports : List External) (r : Instantiation) → begins_to (n + 1) g.plan ≤ length u.insts → Leaves P (made n c imports r u)
    unfolding made
    made_step c imports (SegmentBounds t) count =
        record { at_plan = λ m is. absurd (doomed_no 0 trap.SegmentBounds m is); in_start = h.in_start; all = h.all; alone = h.alone; core = λ yet. inl tt }
    made_step c imports (Makes t) count = started_step (start_call c.of_module (instance_of c.of_module imports u.store) t) t count

    plan_step : (o : Option Action) → slice_get g.plan n ≡ o → begins_to n g.plan ≤ length u.insts → Leaves P (action_turn g n o u)
    unfolding action_turn
    plan_step None e count =
        from_all g Free (first_state (changed_at 0 now_exited u.tasks)) (length (changed_at 0 now_exited u.tasks)) (length u.insts) (exits_now u.tasks one) (omega (arith, past_counts n g.plan e, count))
    plan_step (Some (Begin number)) e count =
        let more : length (u.insts ++ new_inst ∷ []) ≡ suc (length u.insts) = length_more u.insts new_inst in
        record {
          at_plan = λ m is. subst (λ (k : ℕ). begins_to k g.plan ≤ length (u.insts ++ new_inst ∷ [])) (sym (one_more n) ∙ plan_same (n + 1) m is) (omega (arith, begin_counts n g.plan number e, count, more));
          in_start = λ m is. omega (arith, h.in_start m is, more);
          all = λ done. omega (arith, h.all done, more);
          alone = h.alone;
          core = λ yet. inr tt;
        }
    plan_step (Some (Make number)) e count =
        let next_count : begins_to (n + 1) g.plan ≤ length u.insts =
        subst (λ (k : ℕ). begins_to k g.plan ≤ length u.insts) (sym (one_more n)) (omega (arith, make_counts n g.plan number e, count)) in
        given_leaves P (slice_get g.cores number) _ (λ c i. given_leaves P (externals u.store c.imports) _ (λ imports j. made_step c imports (instantiated c.of_module imports u.store) next_count))

    instantiating_step : begins_to n g.plan ≤ length u.insts → Leaves P (instantiating_turn g n u)
    unfolding instantiating_turn
    instantiating_step count = plan_step (slice_get g.plan n) refl count

  -- Code of a start function runs.
  stack_step : (t : ℕ) (task : Task) (state : TaskState) (words : List ℕ) (u : World) → func_of task.callee ≡ None → first_state u.tasks ≡ state → length u.tasks ≡ 1 → OpenAt g u
      → Leaves P (stack_ended g t task state words u)
  unfolding stack_ended
  stack_step t task (Begins n) words u none at one h = record {
    at_plan = λ m is. subst (λ (k : ℕ). begins_to k g.plan ≤ length u.insts) (plan_same n m is) (h.in_start n at);
    in_start = λ m is. h.in_start m (acting_begins t u.tasks m is);
    all = λ done. h.all (acting_exited t u.tasks done);
    alone = λ yet. length_changed t now_acting u.tasks ∙ one;
    core = λ yet. inr tt;
  }
  stack_step t task Acting words u none at one h = given_leaves P (func_of task.callee) _ (λ f e. absurd (let clash : None ≡ Some f = sym none ∙ e in let no_func : ⊥ = cc in no_func))
  stack_step t task New words u none at one h = tt
  stack_step t task (AfterCall callee number others) words u none at one h = tt
  stack_step t task (AfterCancel callee number others) words u none at one h = tt
  stack_step t task WaitsToEnter words u none at one h = tt
  stack_step t task (InLoop word) words u none at one h = tt
  stack_step t task (InBuiltin number others wait) words u none at one h = tt
  stack_step t task Exited words u none at one h = tt

  over_step : (t : ℕ) (task : Task) (under : List Stack) (words : List ℕ) (u : World) → func_of task.callee ≡ None → first_state u.tasks ≡ task.state → length u.tasks ≡ 1 → OpenAt g u
      → Leaves P (ended_over g t task under words u)
  unfolding ended_over
  over_step t task [] words u none at one h = stack_step t task task.state words u none at one h
  over_step t task (k ∷ under) words u none at one h = edited u Runs t (λ x. record x { stacks = answered_stacks [] x.stacks }) runs_no (inr tt) (λ x. refl) h

  move_step : (t : ℕ) (task : Task) (m : Move) (u : World) → func_of task.callee ≡ None → first_state u.tasks ≡ task.state → length u.tasks ≡ 1 → OpenAt g u → Leaves P (moved g t task m u)
  unfolding moved
  move_step t task (core.Goes paid s k) u none at one h = edited u Runs t (λ x. record x { stacks = k ∷ drop 1 x.stacks }) runs_no (inr tt) (λ x. refl) h
  move_step t task (core.Calls address words k) u none at one h = edited u (Calls address words) t (λ x. record x { stacks = k ∷ drop 1 x.stacks }) (calls_no address words) (inr tt) (λ x. refl) h
  move_step t task (core.Ends words) u none at one h =
      let left : Task → Task = λ x. record x { stacks = drop 1 x.stacks } in
      over_step t task (drop 1 task.stacks) words (unstacked t u) none (same_first t left u.tasks (λ x. refl) ∙ at) (length_changed t left u.tasks ∙ one) (changed u t left (λ x. refl) h)
  move_step t task (core.Traps why) u none at one h = onward g (Doomed t (core_name why)) (first_state u.tasks) (length u.tasks) (length u.insts) (doomed_no t (core_name why)) (inl tt) h
  move_step t task core.Stuck u none at one h = tt

  running_step : (s : Script) (u : World) → ((t : ℕ) (task : Task) → slice_get u.tasks t ≡ Some task → (func_of task.callee ≡ None) × (first_state u.tasks ≡ task.state)) → length u.tasks ≡ 1 → OpenAt g u
      → Leaves P (running_turn g s u)
  unfolding running_turn
  running_step s u none one h =
      given_leaves P (acting u) _ (λ a e. given_leaves P (slice_get a.1.stacks 0) _ (λ k i.
      charged_leaves P (costs k (core.next u.store k)) s u _ (λ units.
      (let is = none a.0 a.1 (acting_is u a e) in move_step a.0 a.1 (core.next u.store k) (record u { units = units }) is.0 is.1 one h))))

  -- It calls.
  module _ (t : ℕ) (task : Task) (number : ℕ) (words : List ℕ) (u : World) (yet : may_leave u ≡ false) (h : OpenAt g u) where
    doomed_step : (why : TrapName) → Leaves P (doomed t why u)
    doomed_step why = onward g (Doomed t why) (first_state u.tasks) (length u.tasks) (length u.insts) (doomed_no t why) (inl tt) h

    refused_step : (c : CanonFunc) → Leaves P (allowed g t task number c words None u)
    unfolding allowed
    refused_step c = either_leaves P (may_leave u) _ _ (λ e. absurd (let clash : true ≡ false = sym e ∙ yet in let none : ⊥ = cc in none)) (λ e. doomed_step trap.CannotLeave)

    context_step : (op : ContextOp) (slot : ℕ) → Leaves P (exempt_turn t (context_answer t words op slot u) u)
    unfolding exempt_turn
    context_step context_op.Get slot = edited u Runs t (λ x. record x { stacks = answered_stacks (word_of slot (task_at u t) ∷ []) x.stacks }) runs_no (inr tt) (λ x. refl) h
    context_step context_op.Set slot =
        let set : Task → Task = λ x. record x { context = word_changed slot (slice_index words 0) x.context } in
        edited (word_set t slot (slice_index words 0) u) Runs t (λ x. record x { stacks = answered_stacks [] x.stacks }) runs_no (inr tt) (λ x. refl) (changed u t set (λ x. refl) h)

    rep_step : (r : Result ℕ TrapName) → Leaves P (exempt_turn t (rep_answered u r) u)
    unfolding exempt_turn
    rep_step (Err why) = doomed_step why
    rep_step (Ok rep) = edited u Runs t (λ x. record x { stacks = answered_stacks (rep ∷ []) x.stacks }) runs_no (inr tt) (λ x. refl) h

    kind_step : (c : CanonFunc) (i : ℕ) (k : BuiltinKind) → Leaves P (allowed g t task number c words (exempt_kind t words i k) u)
    unfolding allowed
    kind_step c i (builtin.Context op slot) = context_step op slot
    kind_step c i (builtin.Resource resource_op.Rep resource) = rep_step (renamed refusal_name (rep_of (handle_in (view_at u i (slice_index words 0)) resource)))
    kind_step c i (builtin.Resource resource_op.New resource) = refused_step c
    kind_step c i (builtin.Resource resource_op.Drop resource) = refused_step c
    kind_step c i (builtin.TaskReturn result options) = refused_step c
    kind_step c i (builtin.Plain op) = refused_step c
    kind_step c i (builtin.Wait op cancellable memory) = refused_step c
    kind_step c i (builtin.End of_what element op) = refused_step c

    call_step : (c : CanonFunc) → Leaves P (allowed g t task number c words (exempt_of t words c) u)
    call_step (canon.Lower l) = refused_step (canon.Lower l)
    call_step (canon.Builtin b) = kind_step (canon.Builtin b) b.instance b.kind

  calling_step : (number : ℕ) (words : List ℕ) (u : World) → may_leave u ≡ false → OpenAt g u → Leaves P (calling_turn g number words u)
  unfolding calling_turn
  calling_step number words u yet h =
      given_leaves P (acting u) _ (λ a e. given_leaves P (canon_at g number) _ (λ c i.
      behind_leaves P (line.Do a.0 (builtin_of c) words ∷ []) (allowed g a.0 a.1 number c words (exempt_of a.0 words c) u) (call_step a.0 a.1 number words u yet h c)))

-- No component instance ends.
abbrev Longer : ℕ → World → Type 0
Longer n w = n ≤ length w.insts

inst_so : (n i : ℕ) (f : Inst → Inst) (insts : List Inst) → n ≤ length insts → n ≤ length (changed_at i f insts)
inst_so n i f insts h = subst (λ (m : ℕ). n ≤ m) (sym (length_changed i f insts)) h

longer_kept : (g : Graph) (s : Script) (n : ℕ) (c : Change) (w : World) → Comes g s c w → Longer n w → Longer n (after c w)
longer_kept g s n BeginsInstance w may h = omega (arith, length_more w.insts new_inst, h)
longer_kept g s n (AddsEntry i entry) w may h = inst_so n i _ w.insts h
longer_kept g s n (MakesSet i set) w may h = inst_so n i _ _ (inst_so n i _ w.insts h)
longer_kept g s n (RemovesEntry i index) w may h = inst_so n i _ w.insts h
longer_kept g s n (RemovesWaitable i index) w may h = inst_so n i _ _ (inst_so n i _ w.insts h)
longer_kept g s n (LeavesSet i index) w may h = inst_so n i _ w.insts h
longer_kept g s n (JoinsSet i index set) w may h = inst_so n i _ w.insts h
longer_kept g s n (HasBackpressure i backpressure) w may h = inst_so n i _ w.insts h
longer_kept g s n (MakesChannel kind element) w may h = made_kept (Longer n) (λ v x k. k) (λ v x k. k) kind element w h
longer_kept g s n (Offers e call) w may h = channel_kept (Longer n) (λ v x k. k) (λ v x k. k) e.kind e.number _ w h
longer_kept g s n (Transfers e size values) w may h =
    channel_kept (Longer n) (λ v x k. k) (λ v x k. k) e.kind e.number _ _ (channel_kept (Longer n) (λ v x k. k) (λ v x k. k) e.kind e.number _ w h)
longer_kept g s n (Concludes e) w may h = channel_kept (Longer n) (λ v x k. k) (λ v x k. k) e.kind e.number _ w h
longer_kept g s n (DropsEnd e) w may h = channel_kept (Longer n) (λ v x k. k) (λ v x k. k) e.kind e.number _ w h
longer_kept g s n (IsCalled callee call values) w may h = h
longer_kept g s n (changes.Calls number callee subtask words) w may h = h
longer_kept g s n (ComesBack t) w may h = h
longer_kept g s n (Acts t) w may h = h
longer_kept g s n (changes.Begins m) w may h = h
longer_kept g s n (Cancels t callee number words) w may h = h
longer_kept g s n (Blocks t state) w may h = h
longer_kept g s n (Exits t) w may h = h
longer_kept g s n (IsRemoved t) w may h = h
longer_kept g s n (Resolves t resolution) w may h = h
longer_kept g s n (IsCancelled t cancellation) w may h = h
longer_kept g s n (HasWord t slot word) w may h = h
longer_kept g s n (HasNewStack t k) w may h = h
longer_kept g s n (HasStack t k) w may h = h
longer_kept g s n (LosesStack t) w may h = h
longer_kept g s n (IsAnswered t words) w may h = h
longer_kept g s n (IsTold t state) w may h = h
longer_kept g s n (IsLent t handle) w may h = h
longer_kept g s n (HasResult t words) w may h = h
longer_kept g s n (GoesTo control) w may h = h
longer_kept g s n (HasStore store) w may h = h
longer_kept g s n SpendsUnit w may h = h
longer_kept g s n (UsesPicks picks) w may h = h
longer_kept g s n TakesItem w may h = h

-- Task 0 where it is alone.
only_first : (tasks : List Task) (n : ℕ) (x : Task) → length tasks ≡ 1 → slice_get tasks n ≡ Some x → n ≡ 0
only_first [] n x e there = absurd (cc)
only_first (y ∷ tasks) zero x e there = refl
only_first (y ∷ []) (suc zero) x e there = absurd (cc)
only_first (y ∷ []) (suc (suc n)) x e there = absurd (cc)
only_first (y ∷ z ∷ tasks) (suc n) x e there = absurd (let two : suc (suc (length tasks)) ≡ 1 = e in omega (arith, two))

pub alone_runs_none : (w : World) → InitRunsAlone w.tasks w.chain → length w.tasks ≡ 1 → (t : ℕ) (task : Task) → slice_get w.tasks t ≡ Some task
    → (func_of task.callee ≡ None) × (first_state w.tasks ≡ task.state)
alone_runs_none w init one t task there =
    let first : slice_get w.tasks 0 ≡ Some task = ap (λ (n : ℕ). slice_get w.tasks n) (sym (only_first w.tasks t task one there)) ∙ there in
    (ap func_of (ap (λ (x : Task). x.callee) (some_same (sym first ∙ init.there)) ∙ init.instantiates), first_is w.tasks task first)

-- A step.
module _ (g : Graph) (s : Script) (w v : World) (labels : List Label) (alone : RunsAlone w) (h : BegunAt g w) (e : next g s w ≡ Steps labels v) where
  abbrev free : World
  free = with_control Free w

  late : is_instantiated w.tasks ≡ true → BegunAt g v
  late done =
      from_all g v.control (first_state v.tasks) (length v.tasks) (length v.insts) (exited_first v.tasks (stays_started g s w v labels alone done e))
      (kept_so g s (Longer (begins g.plan)) (longer_kept g s (begins g.plan)) w v labels alone (h.all (exited_first w.tasks done)) e)

  neither : ⊥ ⊎ ⊥ → BegunAt g v
  neither (inl x) = absurd x
  neither (inr x) = absurd x

  turn_now : (c : Control) → w.control ≡ c → next_by g s free c ≡ Steps labels v
  turn_now c is = ap (next_by g s free) (sym is) ∙ e

  ends_not : (t : ℕ) (why : TrapName) → w.control ≡ Doomed t why → ⊥
  ends_not t why is = (let clash : Ends (Trapped t why) ≡ Steps labels v = turn_now (Doomed t why) is in cc)

  early : is_instantiated w.tasks ≡ false → length w.tasks ≡ 1 → (c : Control) → w.control ≡ c → IsDoomed c ⊎ IsOfStack c → BegunAt g v
  early yet one (Instantiates n) is core = subst (Leaves (BegunAt g)) (turn_now (Instantiates n) is) (instantiating_step g n free one (open_of h) (h.at_plan n is))
  early yet one Runs is core = subst (Leaves (BegunAt g)) (turn_now Runs is) (running_step g s free (alone_runs_none w alone.0 one) one (open_of h))
  early yet one (Calls number words) is core = subst (Leaves (BegunAt g)) (turn_now (Calls number words) is) (calling_step g number words free yet (open_of h))
  early yet one (Doomed t why) is core = absurd (ends_not t why is)
  early yet one Free is core = neither core
  early yet one (Chosen k) is core = neither core
  early yet one Arrives is core = neither core
  early yet one (Lowers l plan) is core = neither core
  early yet one (Quiet n b) is core = neither core
  early yet one Back is core = neither core
  early yet one Goes is core = neither core
  early yet one Resumes is core = neither core
  early yet one (Delivers set receiver pick) is core = neither core
  early yet one LeavesNow is core = neither core

  by_phase : (b : Bool) → is_instantiated w.tasks ≡ b → BegunAt g v
  by_phase true done = late done
  by_phase false yet = early yet (h.alone (not_exited w.tasks yet)) w.control refl (h.core (not_exited w.tasks yet))

  pub begun_on : BegunAt g v
  begun_on = by_phase (is_instantiated w.tasks) refl

pub first_begun : (g : Graph) → BegunAt g (first_world g)
first_begun g = record {
  at_plan = λ n is. subst (λ (k : ℕ). begins_to k g.plan ≤ 0) (plan_same 0 n is) (omega arith);
  in_start = λ n is. absurd (let clash : Acting ≡ Begins n = is in let none : ⊥ = cc in none);
  all = λ done. absurd (let clash : false ≡ true = done in let none : ⊥ = cc in none);
  alone = λ yet. refl;
  core = λ yet. inr tt;
}

begun_from : (g : Graph) (s : Script) (steps : List (List Label)) (w v : World) → IsApart g → IsStanding g s w → BegunAt g w → HaveCallees g w.tasks → Reaches g s w steps v
    → RunsAlone v × BegunAt g v × HaveCallees g v.tasks
begun_from g s [] w v apart stands h callees r = subst (λ (x : World). RunsAlone x × BegunAt g x × HaveCallees g x.tasks) (sym r) (stands.alone, h, callees)
begun_from g s (labels ∷ steps) w v apart stands h callees r =
    begun_from g s steps r.0 v apart (standing_stays g s w r.0 labels apart stands r.1) (begun_on g s w r.0 labels stands.alone h r.1) (callees_stay g s w r.0 labels stands.alone callees r.1) r.2

module _ (g : Graph) (values : List ValType) (s : Script) (h : Held) (stacks : List (List Stack)) (w : World) (r : StandsReached g values s h stacks w) (begin : InstancesBegin g) where
  abbrev so : RunsAlone w × BegunAt g w × HaveCallees g w.tasks
  so = begun_from g s r.steps (first_world g) w r.apart (first_stands g s r.apart) (first_begun g) (first_has_callees g) r.reached

  there_at : (i : ℕ) → i < begins g.plan → is_instantiated w.tasks ≡ true → IsSome (slice_get w.insts i)
  there_at i less done =
      let all : begins g.plan ≤ length w.insts = so.1.all (exited_first w.tasks done) in
      let inside : i < length w.insts = omega (arith, less, all) in ap is_some (slice_get-get_or w.insts i new_inst inside)

  by_start : (n : ℕ) (task : Task) (f : Lifted) → slice_get w.tasks n ≡ Some task → func_of task.callee ≡ Some f → (b : Bool) → is_instantiated w.tasks ≡ b → IsSome (slice_get w.insts f.instance)
  by_start n task f there runs true done =
      there_at f.instance (begin.functions task.callee f (all_at (λ (x : Task). IsOfGraph g x.callee) w.tasks n task so.2 there) runs) done
  by_start n task f there runs false yet =
      let none : func_of task.callee ≡ None = (alone_runs_none w so.0.0 (so.1.alone (not_exited w.tasks yet)) n task there).0 in
      absurd (let clash : None ≡ Some f = sym none ∙ runs in let no_func : ⊥ = cc in no_func)

pub instances_there : InstancesAreThere
instances_there g values s h stacks w r begin n task f there runs = by_start g values s h stacks w r begin n task f there runs (is_instantiated w.tasks) refl

pub canons_inside : CanonsAreInside
canons_inside g values s h stacks w r begin number c made free = there_at g values s h stacks w r begin (inst_of_canon c) (begin.canons number c made) free

-- A task that runs a function is there only once all is instantiated.
pub late_runs : (g : Graph) (values : List ValType) (s : Script) (h : Held) (stacks : List (List Stack)) (w : World) → StandsReached g values s h stacks w → InstancesBegin g
    → (n : ℕ) (task : Task) → slice_get w.tasks n ≡ Some task → IsSome (func_of task.callee) → (b : Bool) → may_leave w ≡ b → b ≡ true
late_runs g values s h stacks w r begin n task there runs true done = refl
late_runs g values s h stacks w r begin n task there runs false yet =
    let known = so g values s h stacks w r begin in
    let none : func_of task.callee ≡ None = (alone_runs_none w known.0.0 (known.1.alone (not_exited w.tasks yet)) n task there).0 in
    let clash : is_some (func_of task.callee) ≡ false = ap is_some none in
    sym clash ∙ runs
