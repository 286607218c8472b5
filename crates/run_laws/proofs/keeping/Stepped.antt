-- Moves with stacks, and runs of stacks, keep all marks, and well what is kept.
use Rattle.std.proofs.Common.{◌≡◌, refl, sym, subst, Option, Some, None}
use Rattle.std.specs.Prelude.{ℕ, List, slice_set}
use Rattle.std.specs.List.{slice_get}
use Rattle.wasm_store.specs.Stack.{Stack}
use Rattle.comp_graph.specs.Graph.{Graph}
use Rattle.world_parts.specs.declared.parts.Rest.{Rest}
use Rattle.world_parts.specs.declared.parts.Rest.TheVariants as rest
use Rattle.world_parts.specs.Held.{Held, Done, Gives, Traps, Spent, Stuck}
use Rattle.world_stacks.specs.declared.top.Top.{Top}
use Rattle.world_stacks.specs.declared.top.Top.TheVariants as top
use Rattle.world_stacks.specs.Views.{PileView}
use Rattle.world_stacks.specs.Piles.{with_top}
use Rattle.world_stacks.specs.Instantiating.{instantiates}
use Rattle.value_parts.specs.declared.to_pass.Passing.{Passing}
use Rattle.value_parts.specs.declared.to_pass.Passing.TheVariants as passing
use Rattle.value_parts.specs.Coming.{Behind}
use Rattle.replies.specs.Seen.{seen}
use Rattle.machine_runs.specs.declared.stepping.Step.{Step}
use Rattle.machine_runs.specs.declared.stepping.Step.TheVariants as step
use Rattle.machine_runs.specs.Following.{followed}
use Rattle.machine_runs.specs.Moving.{woken, moved_on, instantiated, acting_of}
use Rattle.machine_runs.specs.Stepping.{StackComes, TopComes, passing_behind, PileSteps, TaskSteps}
use Rattle.run_laws.specs.keeping.Stepping.{KeepsAll, MoveWell, MovesKeepAll, RunsKeepAll}
use Rattle.run_laws.proofs.keeping.Acting.{woken_keeps}
use Rattle.run_laws.proofs.keeping.Hearing.{hears_own}
use Rattle.run_laws.proofs.keeping.Instantiating.{instantiating_marks}
use Rattle.run_laws.proofs.keeping.Ran.{running_marks}
use Rattle.run_laws.proofs.keeping.Followed.{all_after, all_rests, all_through, following_all, behind_flow}
use Rattle.run_laws.proofs.well.Woken.{moves_well}

moved_all : (g : Graph) (types : List (Option ℕ)) (r : Rest) (piles : List PileView) (h : Held) → MoveWell g r h → KeepsAll h (moved_on g types r piles h)
unfolding moved_on
moved_all g types r piles h w =
    behind_flow h (woken g types r h) (λ f k. followed (seen g) f piles k) (woken_keeps g types r h w.woken, moves_well g types r h w.apart) w.well w.own (hears_own g types r h)
    (λ f k well own. following_all (seen g) f piles k well own)

pub moves_all : MovesKeepAll
unfolding instantiated
moves_all g types (rest.Instantiates number) piles h w =
    all_after {B = Passing × List PileView} h (instantiates g number piles h) (λ r k. Gives (passing.Nothing, r.1) k)
    ((instantiating_marks g number piles h).0 w.init, (instantiating_marks g number piles h).1) (λ r k. all_rests {A = Passing × List PileView} k k (passing.Nothing, r.1) refl refl)
moves_all g types rest.Free piles h w = moved_all g types rest.Free piles h w
moves_all g types rest.Arrives piles h w = moved_all g types rest.Arrives piles h w
moves_all g types rest.Goes piles h w = moved_all g types rest.Goes piles h w
moves_all g types rest.Resumes piles h w = moved_all g types rest.Resumes piles h w
moves_all g types rest.Back piles h w = moved_all g types rest.Back piles h w
moves_all g types rest.Runs piles h w = moved_all g types rest.Runs piles h w
moves_all g types (rest.Calls number) piles h w = moved_all g types (rest.Calls number) piles h w
moves_all g types rest.Leaves piles h w = moved_all g types rest.Leaves piles h w

-- What a run of a stack came to.
is_all : {A : Type 0} (h : Held) (d e : Done A) → d ≡ e → KeepsAll h e → KeepsAll h d
is_all {A} h d e same p = subst (λ (x : Done A). KeepsAll h x) (sym same) p

stack_all : (t : ℕ) (k : Stack) (p : PileView) (h : Held) (d : Done (Option (List ℕ) × PileView)) → StackComes t k p h d → KeepsAll h d
stack_all t k p h d c = all_through h (record h { store = c.1; left = c.2 }) d refl refl (running_marks t p c.0 (record h { store = c.1; left = c.2 }) d c.4)

top_all : (t : ℕ) (x : Top) (p : PileView) (h : Held) (d : Done (Option (List ℕ) × PileView)) → TopComes t x p h d → KeepsAll h d
top_all t top.Empty p h d c = is_all h d Stuck c (tt, tt)
top_all t (top.Waits call) p h d c = is_all h d Stuck c (tt, tt)
top_all t (top.Goes k) p h d c = stack_all t k (with_top top.Empty p) h d c

behind_all : (h : Held) (t : ℕ) (piles : List PileView) (first : Done (Option (List ℕ) × PileView)) (d : Done (Step × List PileView)) → KeepsAll h first
    → Behind first (λ r k e. e ≡ Gives (step.GoesOn (passing_behind r.0), slice_set piles t r.1) k) d → KeepsAll h d
behind_all h t piles (Gives r k) d keeps b = is_all h d (Gives (step.GoesOn (passing_behind r.0), slice_set piles t r.1) k) b keeps
behind_all h t piles (Traps why k) d keeps b = is_all h d (Traps why k) b keeps
behind_all h t piles (Spent k) d keeps b = is_all h d (Spent k) b (tt, tt)
behind_all h t piles Stuck d keeps b = is_all h d Stuck b (tt, tt)

pile_all : (t : ℕ) (o : Option PileView) (piles : List PileView) (h : Held) (d : Done (Step × List PileView)) → PileSteps t o piles h d → KeepsAll h d
pile_all t None piles h d c = is_all h d Stuck c (tt, tt)
pile_all t (Some p) piles h d c = behind_all h t piles c.0 d (top_all t p.top p h c.0 c.1) c.2

task_all : (o : Option ℕ) (piles : List PileView) (h : Held) (d : Done (Step × List PileView)) → TaskSteps o piles h d → KeepsAll h d
task_all None piles h d c = is_all h d Stuck c (tt, tt)
task_all (Some t) piles h d c = pile_all t (slice_get piles t) piles h d c

pub runs_all : RunsKeepAll
runs_all piles h d c = task_all (acting_of h) piles h d c
