-- Core code that runs: memories, core instances and ends stay as they are kept.
use Rattle.std.proofs.Common.{refl, ◌≡◌, ℕ, Bool, true, false, if◌then◌else◌, List, [], slice_set, sym, subst, Option, Some, None}
use Rattle.std.specs.List.{slice_get}
use Rattle.wasm_execution.specs.declared.running.Outcome.{Outcome}
use Rattle.wasm_execution.specs.declared.running.Outcome.TheVariants as outcome
use Rattle.tasks.specs.Tasks.{is_acting}
use Rattle.task_table.specs.declared.errand.Errand.{Errand}
use Rattle.task_table.specs.declared.errand.Errand.TheVariants as errand
use Rattle.trace_labels.specs.declared.label.Label.TheVariants as line
use Rattle.world_parts.specs.declared.parts.Rest.TheVariants as rest
use Rattle.world_parts.specs.Held.{Held, Done, Gives, Traps, Spent, Stuck, after}
use Rattle.world_parts.specs.Feed.{told, at_rest}
use Rattle.world_parts.specs.Slots.{phase_of, errand_of, errand_set, words_set}
use Rattle.world_stacks.specs.declared.top.Top.{Top}
use Rattle.world_stacks.specs.declared.top.Top.TheVariants as top
use Rattle.world_stacks.specs.Views.{PileView}
use Rattle.world_stacks.specs.Piles.{with_top, unstacked}
use Rattle.world_stacks.specs.Running.{called, ended_at, last_ended, ended_over, stack_ended}
use Rattle.value_parts.specs.Coming.{Behind}
use Rattle.machine_runs.specs.declared.stepping.Step.{Step}
use Rattle.machine_runs.specs.declared.stepping.Step.TheVariants as step
use Rattle.machine_runs.specs.Stepping.{outcome_done, TopComes, PileSteps, TaskSteps, RunSteps, passing_behind}
use Rattle.machine_runs.specs.Moving.{acting_of}
use Rattle.abi_machine.proofs.sound.Found.{some_same}
use Rattle.run_laws.proofs.keeping.still.Feed.{told_still}
use Rattle.run_laws.proofs.keeping.still.Slots.{phase_of_still, errand_of_still, errand_set_still, words_set_still}
use Rattle.run_laws.proofs.keeping.still.Still.{Kinds, still_all, StillBy, still_after, still_behind, still_given, still_if, still_same, ends_same}
use Rattle.run_laws.proofs.keeping.still.Modules.{run_keeps}

ended_at_still : (W : Kinds) → (t : ℕ) (words : List ℕ) (e : Errand) (h : Held) → StillBy W h (ended_at t words e h)
ended_at_still W t words errand.None h = still_same W h
ended_at_still W t words (errand.Begins next) h =
    still_after W h (errand_set t errand.None h) (λ done k. Gives None (at_rest (rest.Instantiates next) k)) (errand_set_still W t errand.None h) (λ done k. still_all W k (at_rest (rest.Instantiates next) k) refl refl refl refl refl)
ended_at_still W t words (errand.AfterCall callee canon) h = tt
ended_at_still W t words (errand.AfterCancel callee canon index) h = tt
ended_at_still W t words (errand.InBuiltin canon) h = tt

last_ended_still : (W : Kinds) → (t : ℕ) (words : List ℕ) (h : Held) → StillBy W h (last_ended t words h)
last_ended_still W t words h =
    still_after W h (phase_of t h) (λ phase k. if is_acting phase then after (errand_of t k) (λ e l. ended_at t words e l) else Stuck) (phase_of_still W t h)
    (λ phase k.
    still_if W k (is_acting phase) (after (errand_of t k) (λ e l. ended_at t words e l)) Stuck
    (still_after W k (errand_of t k) (λ e l. ended_at t words e l) (errand_of_still W t k) (λ e l. ended_at_still W t words e l)) tt)

ended_over_still : (W : Kinds) → (t : ℕ) (words : List ℕ) (over : Bool) (p : PileView) (h : Held) → StillBy W h (ended_over t words over p h)
ended_over_still W t words true p h = still_after {B = Option (List ℕ) × PileView} W h (told (line.Got t []) h) (λ done k. Gives (None, p) (at_rest rest.Runs k)) (told_still W (line.Got t []) h) (λ done k. still_all W k (at_rest rest.Runs k) refl refl refl refl refl)
ended_over_still W t words false p h = still_after {B = Option (List ℕ) × PileView} W h (last_ended t words h) (λ ended k. Gives (ended, p) k) (last_ended_still W t words h) (λ ended k. still_same W k)

stack_ended_still : (W : Kinds) → (t : ℕ) (words : List ℕ) (p : PileView) (h : Held) → StillBy W h (stack_ended t words p h)
stack_ended_still W t words p h = still_given W h (unstacked h.store p.under p) (λ r. ended_over t words r.0 r.1 h) (λ r is. ended_over_still W t words r.0 r.1 h)

called_still : (W : Kinds) → (t number : ℕ) (words : List ℕ) (h : Held) → StillBy W h (called t number words h)
called_still W t number words h =
    still_after W h (words_set t words h) (λ done k. Gives (tt {0}) (at_rest (rest.Calls number) k)) (words_set_still W t words h) (λ done k. still_all W k (at_rest (rest.Calls number) k) refl refl refl refl refl)

-- By what it came to.
outcome_still : (W : Kinds) → (t : ℕ) (p : PileView) (o : Outcome) (h : Held) (d : Done (Option (List ℕ) × PileView)) → outcome_done t p o h ≡ Some d → StillBy W h d
outcome_still W t p (outcome.Done words) h d is = subst (StillBy W h) (some_same is) (stack_ended_still W t words p h)
outcome_still W t p (outcome.Calls number words w) h d is =
    let q : PileView = with_top (top.Waits (record { address = number; waiting = w })) p in
    subst (StillBy W h) (some_same is) (still_after {B = Option (List ℕ) × PileView} W h (called t number words h) (λ done m. Gives (None, q) m) (called_still W t number words h) (λ done m. still_same W m))
outcome_still W t p (outcome.Trapped why) h d is = subst (StillBy W h) (some_same is) (ends_same W h)
outcome_still W t p (outcome.NoFuel later) h d is = subst (StillBy W h) (some_same is) tt
outcome_still W t p outcome.Memory h d is = absurd (cc)

top_still : (W : Kinds) → (t : ℕ) (x : Top) (p : PileView) (h : Held) (d : Done (Option (List ℕ) × PileView)) → TopComes t x p h d → StillBy W h d
top_still W t top.Empty p h d c = subst (StillBy W h) (sym c) tt
top_still W t (top.Waits call) p h d c = subst (StillBy W h) (sym c) tt
top_still W t (top.Goes k) p h d (o, s, left, gives, e) =
    still_behind W h (record h { store = s; left = left }) d (record { memories = refl; modules = run_keeps h.store k h.left o s left gives; ends = λ K is kept. kept }) (outcome_still W t (with_top top.Empty p) o (record h { store = s; left = left }) d e)

-- The stacks of the acting task are others.
pile_put : (W : Kinds) → (t : ℕ) (piles : List PileView) (h : Held) (first : Done (Option (List ℕ) × PileView)) (d : Done (Step × List PileView)) → StillBy W h first
    → Behind first (λ r k e. e ≡ Gives (step.GoesOn (passing_behind r.0), slice_set piles t r.1) k) d → StillBy W h d
pile_put W t piles h (Gives r k) d p is = subst (StillBy W h) (sym is) p
pile_put W t piles h (Traps why k) d p is = subst (StillBy W h) (sym is) p
pile_put W t piles h (Spent k) d p is = subst (StillBy W h) (sym is) tt
pile_put W t piles h Stuck d p is = subst (StillBy W h) (sym is) tt

pile_still : (W : Kinds) → (t : ℕ) (o : Option PileView) (piles : List PileView) (h : Held) (d : Done (Step × List PileView)) → PileSteps t o piles h d → StillBy W h d
pile_still W t None piles h d is = subst (StillBy W h) (sym is) tt
pile_still W t (Some p) piles h d (first, comes, behind) = pile_put W t piles h first d (top_still W t p.top p h first comes) behind

task_still : (W : Kinds) → (o : Option ℕ) (piles : List PileView) (h : Held) (d : Done (Step × List PileView)) → TaskSteps o piles h d → StillBy W h d
task_still W None piles h d is = subst (StillBy W h) (sym is) tt
task_still W (Some t) piles h d is = pile_still W t (slice_get piles t) piles h d is

pub runs_still : (W : Kinds) → (piles : List PileView) (h : Held) (d : Done (Step × List PileView)) → RunSteps piles h d → StillBy W h d
runs_still W piles h d is = task_still W (acting_of h) piles h d is
