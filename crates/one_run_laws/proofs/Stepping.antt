-- A step comes to one thing, where passing values does.
use Rattle.std.proofs.Common.{◌≡◌, ◌∙◌, ℕ, List, slice_set, sym, ap, Option, Some, None}
use Rattle.std.specs.List.{slice_get}
use Rattle.wasm_store.specs.Store.{Store}
use Rattle.wasm_store.specs.Stack.{Stack}
use Rattle.wasm_execution.specs.declared.running.Outcome.{Outcome}
use Rattle.wasm_execution.specs.declared.running.Outcome.TheVariants as outcome
use Rattle.programs.specs.declared.program.Program.{Program}
use Rattle.world_parts.specs.declared.parts.Flow.{Flow}
use Rattle.world_parts.specs.declared.parts.Rest.{Rest}
use Rattle.world_parts.specs.declared.parts.Rest.TheVariants as rest
use Rattle.world_parts.specs.Held.{Held, Done, Gives}
use Rattle.world_stacks.specs.declared.top.Top.{Top}
use Rattle.world_stacks.specs.declared.top.Top.TheVariants as top
use Rattle.world_stacks.specs.Views.{PileView}
use Rattle.world_stacks.specs.Piles.{with_top}
use Rattle.value_parts.specs.declared.to_pass.Passing.{Passing}
use Rattle.value_parts.specs.declared.to_pass.Passing.TheVariants as passing
use Rattle.one_run_laws.specs.Once.{PassesOnce}
use Rattle.one_run_laws.proofs.Behind.{once_then}
use Rattle.one_run_laws.proofs.Running.{IsTold, runs_once}
use Rattle.machine_runs.specs.declared.stepping.Step.{Step}
use Rattle.machine_runs.specs.declared.stepping.Step.TheVariants as step
use Rattle.machine_runs.specs.Moving.{acting_of}
use Rattle.machine_runs.specs.Stepping.{outcome_done, StackComes, TopComes, PileSteps, TaskSteps, passing_behind, RestSteps, follow_steps, PassSteps, Steps}

abbrev Came : Type 0
Came = Done (Option (List ℕ) × PileView)

abbrev ran : Held → Store → ℕ → Held
ran h s left = record h { store = s; left = left }

-- An outcome with something behind it is no want of memory.
told_of : (t : ℕ) (p : PileView) (o : Outcome) (h : Held) (d : Came) → outcome_done t p o h ≡ Some d → IsTold o
told_of t p (outcome.Done words) h d e = tt
told_of t p (outcome.Calls number words w) h d e = tt
told_of t p (outcome.Trapped why) h d e = tt
told_of t p (outcome.NoFuel later) h d e = tt
told_of t p outcome.Memory h d e = cc e

came_same : (d e : Came) → ◌≡◌ {A = Option Came} (Some d) (Some e) → d ≡ e
came_same d e is = cc is

-- The acting task's stack runs.
stack_once : (t : ℕ) (k : Stack) (p : PileView) (h : Held) (d e : Came) → StackComes t k p h d → StackComes t k p h e → d ≡ e
stack_once t k p h d e (o, s, left, gives, is) (q, u, more, others, are) =
    let same = runs_once h.store s u k h.left left more o q (told_of t p o (ran h s left) d is) (told_of t p q (ran h u more) e are) gives others in
    let first : outcome_done t p o (ran h s left) ≡ outcome_done t p q (ran h s left) = ap (λ (x : Outcome). outcome_done t p x (ran h s left)) same.0 in
    let second : outcome_done t p q (ran h s left) ≡ outcome_done t p q (ran h u left) = ap (λ (x : Store). outcome_done t p q (ran h x left)) same.1 in
    let third : outcome_done t p q (ran h u left) ≡ outcome_done t p q (ran h u more) = ap (λ (x : ℕ). outcome_done t p q (ran h u x)) same.2 in
    came_same d e (sym is ∙ first ∙ second ∙ third ∙ are)

top_once : (t : ℕ) (x : Top) (p : PileView) (h : Held) (d e : Came) → TopComes t x p h d → TopComes t x p h e → d ≡ e
top_once t top.Empty p h d e b c = b ∙ sym c
top_once t (top.Waits call) p h d e b c = b ∙ sym c
top_once t (top.Goes k) p h d e b c = stack_once t k (with_top top.Empty p) h d e b c

pile_once : (t : ℕ) (o : Option PileView) (piles : List PileView) (h : Held) (d e : Done (Step × List PileView)) → PileSteps t o piles h d → PileSteps t o piles h e → d ≡ e
pile_once t None piles h d e b c = b ∙ sym c
pile_once t (Some p) piles h d e b c =
    once_then (TopComes t p.top p h) (λ r k f. f ≡ Gives (step.GoesOn (passing_behind r.0), slice_set piles t r.1) k) d e (λ x y m n. top_once t p.top p h x y m n)
    (λ r k m n. m ∙ sym n) b c

task_once : (o : Option ℕ) (piles : List PileView) (h : Held) (d e : Done (Step × List PileView)) → TaskSteps o piles h d → TaskSteps o piles h e → d ≡ e
task_once None piles h d e b c = b ∙ sym c
task_once (Some t) piles h d e b c = pile_once t (slice_get piles t) piles h d e b c

-- From where the run is.
rest_once : (p : Program) (r : Rest) (piles : List PileView) (h : Held) (d e : Done (Step × List PileView)) → RestSteps p r piles h d → RestSteps p r piles h e → d ≡ e
rest_once p rest.Free piles h d e b c = b ∙ sym c
rest_once p rest.Runs piles h d e b c = task_once (acting_of h) piles h d e b c
rest_once p (rest.Instantiates number) piles h d e b c = b ∙ sym c
rest_once p rest.Arrives piles h d e b c = b ∙ sym c
rest_once p rest.Goes piles h d e b c = b ∙ sym c
rest_once p rest.Resumes piles h d e b c = b ∙ sym c
rest_once p rest.Back piles h d e b c = b ∙ sym c
rest_once p (rest.Calls number) piles h d e b c = b ∙ sym c
rest_once p rest.Leaves piles h d e b c = b ∙ sym c

module _ (R : Program → Passing → Held → Done Flow → Type 0) (p : Program) (once : PassesOnce R p) where
  pass_once : (x : Passing) (piles : List PileView) (h : Held) (d e : Done (Step × List PileView)) → PassSteps R p x piles h d → PassSteps R p x piles h e → d ≡ e
  pass_once x piles h d e b c = once_then (R p x h) (λ f k g. g ≡ follow_steps p f piles k) d e (λ y z m n. once x h y z m n) (λ f k m n. m ∙ sym n) b c

  pub steps_once : (x : Passing) (piles : List PileView) (h : Held) (d e : Done (Step × List PileView)) → Steps R p x piles h d → Steps R p x piles h e → d ≡ e
  steps_once passing.Nothing piles h d e b c = rest_once p h.rest piles h d e b c
  steps_once passing.Arguments piles h d e b c = pass_once passing.Arguments piles h d e b c
  steps_once passing.Returned piles h d e b c = pass_once passing.Returned piles h d e b c
  steps_once (passing.Ended words) piles h d e b c = pass_once (passing.Ended words) piles h d e b c
  steps_once (passing.Elements copying) piles h d e b c = pass_once (passing.Elements copying) piles h d e b c
