-- Steps: what they come to.
use Rattle.std.proofs.Common.{◌≡◌, ◌⊎◌, inl, inr, ℕ, List, slice_set, refl, sym, ap, ◌∙◌, subst, Option, Some, None, Result, Ok, Err}
use Rattle.std.specs.List.{slice_get}
use Rattle.wasm_execution.specs.declared.running.Outcome.{Outcome}
use Rattle.wasm_execution.specs.declared.running.Outcome.TheVariants as outcome
use Rattle.world_parts.specs.declared.parts.Parts.{Parts}
use Rattle.world_parts.specs.declared.parts.Stop.{Stop}
use Rattle.world_parts.specs.declared.parts.Stop.TheVariants as stop
use Rattle.world_parts.specs.Held.{Held, held, Done, Gives, Traps, Spent, Stuck}
use Rattle.world_stacks.specs.declared.top.Top.{Top}
use Rattle.world_stacks.specs.declared.top.Top.TheVariants as top
use Rattle.world_stacks.specs.Views.{PileView}
use Rattle.world_stacks.specs.Piles.{with_top}
use Rattle.world_stacks.specs.Over.{Leads}
use Rattle.world_stacks.specs.Running.{ComesTo, TopRuns, RunsAt}
use Rattle.value_parts.specs.declared.to_pass.Passing.{Passing}
use Rattle.value_parts.specs.Coming.{May, Behind, Then}
use Rattle.machine_runs.specs.declared.stepping.Step.{Step}
use Rattle.machine_runs.specs.declared.stepping.Step.TheVariants as step
use Rattle.machine_runs.specs.Leading.{MayLead}
use Rattle.machine_runs.specs.Moving.{passing_of, RunMoves}
use Rattle.machine_runs.specs.Stepping.{outcome_done, TopComes, passing_behind, PileSteps, TaskSteps}

-- Code that comes to one thing.
pub so : {A P : Type 0} (R : Done (A × P) → Type 0) (d : Done (A × P)) (result : Result A Stop) (new : Parts) (piles : P) → R d → Leads d result new piles → MayLead R result new piles
so R d (Ok x) new piles r c = (d, r, c)
so R d (Err (stop.Trap why)) new piles r c = (d, r, c)
so R d (Err stop.NoFuel) new piles r c = (d, r, c)
so R d (Err stop.Stuck) new piles r c = (d, r, c)
so R d (Err stop.Memory) new piles r c = tt

-- A part behind one that may come to several things.
pub then : {A B P : Type 0} (R : Done A → Type 0) (f : A → Held → Done (B × P)) (x : A) (mid : Parts) (result : Result B Stop) (new : Parts) (piles : P) → May R (Ok x) mid
    → Leads (f x (held mid)) result new piles → MayLead (Then R (λ y k e. e ≡ f y k)) result new piles
then {A} {B} {P} R f x mid result new piles m c =
    so (Then R (λ y k e. e ≡ f y k)) (f x (held mid)) result new piles
    (m.0, m.1, subst (λ (d : Done A). Behind d (λ (y : A) (k : Held) (e : Done (B × P)). e ≡ f y k) (f x (held mid))) (sym m.2) refl) c

pub then_end : {A B P : Type 0} (R : Done A → Type 0) (F : A → Held → Done (B × P) → Type 0) (why : Stop) (new : Parts) (piles : P)
    → (let r : Result A Stop = Err why in May R r new) → (let s : Result B Stop = Err why in MayLead (Then R F) s new piles)
then_end {A} R F (stop.Trap why) new piles m = (Traps why (held new), (m.0, m.1, subst (λ (d : Done A). Behind d F (Traps why (held new))) (sym m.2) refl), refl)
then_end {A} R F stop.NoFuel new piles m = (Spent (held new), (m.0, m.1, subst (λ (d : Done A). Behind d F (Spent (held new))) (sym m.2) refl), refl)
then_end {A} R F stop.Stuck new piles m = (Stuck, (m.0, m.1, subst (λ (d : Done A). Behind d F Stuck) (sym m.2) refl), refl)
then_end R F stop.Memory new piles m = tt

-- What a run came to, but for want of memory.
abbrev Ended : ℕ → PileView → Outcome → Held → Result (Option (List ℕ)) Stop → Parts → PileView → Type 0
Ended t p o h ended new q = (d : Done (Option (List ℕ) × PileView)) × (outcome_done t p o h ≡ Some d) × Leads d ended new q

ended_so : (t : ℕ) (p : PileView) (o : Outcome) (h : Held) (ended : Result (Option (List ℕ)) Stop) (new : Parts) (q : PileView) → ComesTo t p o h ended new q
    → (ended ≡ Err stop.Memory) ⊎ Ended t p o h ended new q
ended_so t p (outcome.Done words) h ended new q c = inr (_, refl, c)
ended_so t p (outcome.Calls number words w) h ended new q c = inr (_, refl, c)
ended_so t p (outcome.Trapped why) h ended new q c = inr (_, refl, c)
ended_so t p (outcome.NoFuel later) h ended new q c = inr (_, refl, c)
ended_so t p outcome.Memory h ended new q c = inl c

-- The result of a step that runs the stack of a task.
abbrev stepped : Result (Option (List ℕ)) Stop → Result Step Stop
stepped (Ok r) = Ok (step.GoesOn (passing_behind r))
stepped (Err why) = Err why

-- What it comes to, where it comes to something.
leads_so : (t : ℕ) (p : PileView) (piles : List PileView) (h : Held) (d : Done (Option (List ℕ) × PileView)) (ended : Result (Option (List ℕ)) Stop) (new : Parts) (q : PileView) (later : List PileView)
    → TopComes t p.top p h d → Leads d ended new q → later ≡ slice_set piles t q → MayLead (PileSteps t (Some p) piles h) (stepped ended) new later
leads_so t p piles h d (Ok r) new q later c l e =
    let F : Option (List ℕ) × PileView → Held → Done (Step × List PileView) → Type 0 = λ x k f. f ≡ Gives (step.GoesOn (passing_behind x.0), slice_set piles t x.1) k in
    let f : Done (Step × List PileView) = Gives (step.GoesOn (passing_behind r), slice_set piles t q) (held new) in (
      f,
      (d, c, subst (λ (x : Done (Option (List ℕ) × PileView)). Behind x F f) (sym l) refl),
      ap (λ (ps : List PileView). let g : Done (Step × List PileView) = Gives (step.GoesOn (passing_behind r), ps) (held new) in g) (sym e),
    )
leads_so t p piles h d (Err (stop.Trap why)) new q later c l e =
    let F : Option (List ℕ) × PileView → Held → Done (Step × List PileView) → Type 0 = λ x k f. f ≡ Gives (step.GoesOn (passing_behind x.0), slice_set piles t x.1) k in
    (Traps why (held new), (d, c, subst (λ (x : Done (Option (List ℕ) × PileView)). Behind x F (Traps why (held new))) (sym l) refl), refl)
leads_so t p piles h d (Err stop.NoFuel) new q later c l e =
    let F : Option (List ℕ) × PileView → Held → Done (Step × List PileView) → Type 0 = λ x k f. f ≡ Gives (step.GoesOn (passing_behind x.0), slice_set piles t x.1) k in
    (Spent (held new), (d, c, subst (λ (x : Done (Option (List ℕ) × PileView)). Behind x F (Spent (held new))) (sym l) refl), refl)
leads_so t p piles h d (Err stop.Stuck) new q later c l e =
    let F : Option (List ℕ) × PileView → Held → Done (Step × List PileView) → Type 0 = λ x k f. f ≡ Gives (step.GoesOn (passing_behind x.0), slice_set piles t x.1) k in
    (Stuck, (d, c, subst (λ (x : Done (Option (List ℕ) × PileView)). Behind x F Stuck) (sym l) refl), refl)
leads_so t p piles h d (Err stop.Memory) new q later c l e = tt

-- Where none is to run no rule applies, and of want of memory nothing is said.
stuck_so : (R : Done (Step × List PileView) → Type 0) (ended : Result (Option (List ℕ)) Stop) (new : Parts) (later : List PileView) → R Stuck → ended ≡ Err stop.Stuck
    → MayLead R (stepped ended) new later
stuck_so R ended new later r e = subst (λ (x : Result (Option (List ℕ)) Stop). MayLead R (stepped x) new later) (sym e) (Stuck, r, refl)

memory_so : (R : Done (Step × List PileView) → Type 0) (ended : Result (Option (List ℕ)) Stop) (new : Parts) (later : List PileView) → ended ≡ Err stop.Memory
    → MayLead R (stepped ended) new later
memory_so R ended new later e = subst (λ (x : Result (Option (List ℕ)) Stop). MayLead R (stepped x) new later) (sym e) tt

-- By the top of its stacks.
pile_stuck : (t : ℕ) (p : PileView) (piles : List PileView) (h : Held) → TopComes t p.top p h Stuck → PileSteps t (Some p) piles h Stuck
pile_stuck t p piles h c = (Stuck, c, refl)

top_runs : (t : ℕ) (p : PileView) (u : Top) (piles : List PileView) (h : Held) (ended : Result (Option (List ℕ)) Stop) (new : Parts) (q : PileView) (later : List PileView) → p.top ≡ u
    → TopRuns t u p h ended new q → later ≡ slice_set piles t q → MayLead (PileSteps t (Some p) piles h) (stepped ended) new later
top_runs t p top.Empty piles h ended new q later is r e =
    stuck_so (PileSteps t (Some p) piles h) ended new later (pile_stuck t p piles h (subst (λ (u : Top). TopComes t u p h Stuck) (sym is) refl)) r
top_runs t p (top.Waits w) piles h ended new q later is r e =
    stuck_so (PileSteps t (Some p) piles h) ended new later (pile_stuck t p piles h (subst (λ (u : Top). TopComes t u p h Stuck) (sym is) refl)) r
top_runs t p (top.Goes k) piles h ended new q later is r e = by_ended (ended_so t (with_top top.Empty p) r.0 (record h { store = r.1; left = r.2 }) ended new q r.4)
  where
    by_ended : (ended ≡ Err stop.Memory) ⊎ Ended t (with_top top.Empty p) r.0 (record h { store = r.1; left = r.2 }) ended new q
        → MayLead (PileSteps t (Some p) piles h) (stepped ended) new later
    by_ended (inl m) = memory_so (PileSteps t (Some p) piles h) ended new later m
    by_ended (inr x) =
        leads_so t p piles h x.0 ended new q later (subst (λ (u : Top). TopComes t u p h x.0) (sym is) (r.0, r.1, r.2, r.3, x.1)) x.2 e

at_runs : (t : ℕ) (o : Option PileView) (piles : List PileView) (h : Held) (ended : Result (Option (List ℕ)) Stop) (new : Parts) (later : List PileView)
    → RunsAt o t piles h ended new later → MayLead (PileSteps t o piles h) (stepped ended) new later
at_runs t None piles h ended new later r = stuck_so (PileSteps t None piles h) ended new later refl r
at_runs t (Some p) piles h ended new later r = top_runs t p p.top piles h ended new r.0 later refl r.1 r.2

-- A run of the acting task's stack, as a step.
abbrev pub answers : Result Passing Stop → Result Step Stop
answers (Ok next) = Ok (step.GoesOn next)
answers (Err why) = Err why

same_answer : (ended : Result (Option (List ℕ)) Stop) → answers (passing_of ended) ≡ stepped ended
same_answer (Ok None) = refl
same_answer (Ok (Some words)) = refl
same_answer (Err why) = refl

pub ran_to : (o : Option ℕ) (piles : List PileView) (h : Held) (result : Result Passing Stop) (new : Parts) (later : List PileView) → RunMoves o piles h result new later
    → MayLead (TaskSteps o piles h) (answers result) new later
ran_to None piles h result new later r = subst (λ (x : Result Passing Stop). MayLead (TaskSteps None piles h) (answers x) new later) (sym r) (Stuck, refl, refl)
ran_to (Some t) piles h result new later r =
    subst (λ (x : Result Step Stop). MayLead (TaskSteps (Some t) piles h) x new later) (sym (ap answers r.2 ∙ same_answer r.0)) (at_runs t (slice_get piles t) piles h r.0 new later r.1)

pub ran_on : (o : Option ℕ) (piles : List PileView) (h : Held) (next : Passing) (new : Parts) (later : List PileView)
    → (let r : Result Passing Stop = Ok next in RunMoves o piles h r new later) → (let s : Result Step Stop = Ok (step.GoesOn next) in MayLead (TaskSteps o piles h) s new later)
ran_on o piles h next new later r = ran_to o piles h (Ok next) new later r

pub ran_end : (o : Option ℕ) (piles : List PileView) (h : Held) (why : Stop) (new : Parts) (later : List PileView)
    → (let r : Result Passing Stop = Err why in RunMoves o piles h r new later) → (let s : Result Step Stop = Err why in MayLead (TaskSteps o piles h) s new later)
ran_end o piles h why new later r = ran_to o piles h (Err why) new later r
