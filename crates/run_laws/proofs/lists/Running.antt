-- Core code that runs: lists of tasks stay as they follow from the tasks.
use Rattle.std.proofs.Common.{◌≡◌, ℕ, Bool, true, false, if◌then◌else◌, List, [], slice_set, sym, subst, Option, Some, None}
use Rattle.std.specs.List.{slice_get}
use Rattle.wasm_execution.specs.declared.running.Outcome.{Outcome}
use Rattle.wasm_execution.specs.declared.running.Outcome.TheVariants as outcome
use Rattle.tasks.specs.Tasks.{is_acting}
use Rattle.task_table.specs.declared.errand.Errand.{Errand}
use Rattle.task_table.specs.declared.errand.Errand.TheVariants as errand
use Rattle.trace_labels.specs.declared.label.Label.TheVariants as line
use Rattle.world_parts.specs.declared.parts.Rest.TheVariants as rest
use Rattle.world_parts.specs.Held.{Held, Done, Gives, Traps, Spent, Stuck, after}
use Rattle.world_parts.specs.Feed.{told, at_rest}
use Rattle.world_parts.specs.Slots.{phase_of, errand_of, errand_set, words_set}
use Rattle.world_stacks.specs.declared.top.Top.{Top}
use Rattle.world_stacks.specs.declared.top.Top.TheVariants as top
use Rattle.world_stacks.specs.Views.{PileView}
use Rattle.world_stacks.specs.Piles.{with_top, unstacked}
use Rattle.world_stacks.specs.Running.{called, ended_at, last_ended, ended_over, stack_ended}
use Rattle.value_parts.specs.Coming.{Behind}
use Rattle.machine_runs.specs.declared.stepping.Step.{Step}
use Rattle.machine_runs.specs.declared.stepping.Step.TheVariants as step
use Rattle.machine_runs.specs.Stepping.{outcome_done, TopComes, PileSteps, TaskSteps, RunSteps, passing_behind}
use Rattle.machine_runs.specs.Moving.{acting_of}
use Rattle.abi_machine.proofs.sound.Found.{some_same}
use Rattle.run_laws.proofs.lists.Feed.{told_lists}
use Rattle.run_laws.proofs.lists.Slots.{phase_of_lists, errand_of_lists, errand_set_lists, words_set_lists}
use Rattle.run_laws.proofs.lists.Same.{ListsBy, lists_after, lists_behind, lists_given, lists_if, lists_same}

ended_at_lists : (t : ℕ) (words : List ℕ) (e : Errand) (h : Held) → ListsBy h (ended_at t words e h)
ended_at_lists t words errand.None h = lists_same h
ended_at_lists t words (errand.Begins next) h =
    lists_after h (errand_set t errand.None h) (λ done k. Gives None (at_rest (rest.Instantiates next) k)) (errand_set_lists t errand.None h) (λ done k s l. l)
ended_at_lists t words (errand.AfterCall callee canon) h = tt
ended_at_lists t words (errand.AfterCancel callee canon index) h = tt
ended_at_lists t words (errand.InBuiltin canon) h = tt

last_ended_lists : (t : ℕ) (words : List ℕ) (h : Held) → ListsBy h (last_ended t words h)
last_ended_lists t words h =
    lists_after h (phase_of t h) (λ phase k. if is_acting phase then after (errand_of t k) (λ e l. ended_at t words e l) else Stuck) (phase_of_lists t h)
    (λ phase k.
    lists_if k (is_acting phase) (after (errand_of t k) (λ e l. ended_at t words e l)) Stuck
    (lists_after k (errand_of t k) (λ e l. ended_at t words e l) (errand_of_lists t k) (λ e l. ended_at_lists t words e l)) tt)

ended_over_lists : (t : ℕ) (words : List ℕ) (over : Bool) (p : PileView) (h : Held) → ListsBy h (ended_over t words over p h)
ended_over_lists t words true p h = lists_after {B = Option (List ℕ) × PileView} h (told (line.Got t []) h) (λ done k. Gives (None, p) (at_rest rest.Runs k)) (told_lists (line.Got t []) h) (λ done k s l. l)
ended_over_lists t words false p h = lists_after {B = Option (List ℕ) × PileView} h (last_ended t words h) (λ ended k. Gives (ended, p) k) (last_ended_lists t words h) (λ ended k. lists_same k)

stack_ended_lists : (t : ℕ) (words : List ℕ) (p : PileView) (h : Held) → ListsBy h (stack_ended t words p h)
stack_ended_lists t words p h = lists_given h (unstacked h.store p.under p) (λ r. ended_over t words r.0 r.1 h) (λ r is. ended_over_lists t words r.0 r.1 h)

called_lists : (t number : ℕ) (words : List ℕ) (h : Held) → ListsBy h (called t number words h)
called_lists t number words h =
    lists_after h (words_set t words h) (λ done k. Gives (tt {0}) (at_rest (rest.Calls number) k)) (words_set_lists t words h) (λ done k s l. l)

-- By what it came to.
outcome_lists : (t : ℕ) (p : PileView) (o : Outcome) (h : Held) (d : Done (Option (List ℕ) × PileView)) → outcome_done t p o h ≡ Some d → ListsBy h d
outcome_lists t p (outcome.Done words) h d is = subst (ListsBy h) (some_same is) (stack_ended_lists t words p h)
outcome_lists t p (outcome.Calls number words w) h d is =
    let q : PileView = with_top (top.Waits (record { address = number; waiting = w })) p in
    subst (ListsBy h) (some_same is) (lists_after {B = Option (List ℕ) × PileView} h (called t number words h) (λ done m. Gives (None, q) m) (called_lists t number words h) (λ done m. lists_same m))
outcome_lists t p (outcome.Trapped why) h d is = subst (ListsBy h) (some_same is) tt
outcome_lists t p (outcome.NoFuel later) h d is = subst (ListsBy h) (some_same is) tt
outcome_lists t p outcome.Memory h d is = absurd (cc)

top_lists : (t : ℕ) (x : Top) (p : PileView) (h : Held) (d : Done (Option (List ℕ) × PileView)) → TopComes t x p h d → ListsBy h d
top_lists t top.Empty p h d c = subst (ListsBy h) (sym c) tt
top_lists t (top.Waits call) p h d c = subst (ListsBy h) (sym c) tt
top_lists t (top.Goes k) p h d (o, s, left, gives, e) =
    lists_behind h (record h { store = s; left = left }) d (λ script l. l) (outcome_lists t (with_top top.Empty p) o (record h { store = s; left = left }) d e)

-- The stacks of the acting task are others.
pile_put : (t : ℕ) (piles : List PileView) (h : Held) (first : Done (Option (List ℕ) × PileView)) (d : Done (Step × List PileView)) → ListsBy h first
    → Behind first (λ r k e. e ≡ Gives (step.GoesOn (passing_behind r.0), slice_set piles t r.1) k) d → ListsBy h d
pile_put t piles h (Gives r k) d p is = subst (ListsBy h) (sym is) p
pile_put t piles h (Traps why k) d p is = subst (ListsBy h) (sym is) tt
pile_put t piles h (Spent k) d p is = subst (ListsBy h) (sym is) tt
pile_put t piles h Stuck d p is = subst (ListsBy h) (sym is) tt

pile_lists : (t : ℕ) (o : Option PileView) (piles : List PileView) (h : Held) (d : Done (Step × List PileView)) → PileSteps t o piles h d → ListsBy h d
pile_lists t None piles h d is = subst (ListsBy h) (sym is) tt
pile_lists t (Some p) piles h d (first, comes, behind) = pile_put t piles h first d (top_lists t p.top p h first comes) behind

task_lists : (o : Option ℕ) (piles : List PileView) (h : Held) (d : Done (Step × List PileView)) → TaskSteps o piles h d → ListsBy h d
task_lists None piles h d is = subst (ListsBy h) (sym is) tt
task_lists (Some t) piles h d is = pile_lists t (slice_get piles t) piles h d is

pub runs_lists : (piles : List PileView) (h : Held) (d : Done (Step × List PileView)) → RunSteps piles h d → ListsBy h d
runs_lists piles h d is = task_lists (acting_of h) piles h d is
