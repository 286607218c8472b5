-- Each step from a world in which code can run and values can be lifted leads to one: so a step can be made in each world to which steps lead.
use Rattle.std.proofs.Common.{◌≡◌, ◌<◌, ◌≤◌, ◌+◌, ◌*◌, ◌^◌, arith, ℕ, zero, suc, List, [], ◌∷◌, refl, sym, ap, subst, Option, Some, None}
use Rattle.std.specs.List.{slice_get}
use Rattle.wasm_store.specs.Store.{Store}
use Rattle.wasm_store.specs.Stack.{Stack}
use Rattle.wasm_store.specs.Typed.{StoreTyped, Extends}
use Rattle.comp_graph.specs.Graph.{Graph}
use Rattle.script_reader.specs.Script.{Script}
use Rattle.programs.specs.declared.program.Program.{Program}
use Rattle.trace_labels.specs.declared.label.Label.{Label}
use Rattle.world_parts.specs.declared.parts.Flow.{Flow}
use Rattle.world_parts.specs.declared.parts.Rest.{Rest}
use Rattle.world_parts.specs.declared.parts.Rest.TheVariants as rest
use Rattle.world_parts.specs.Held.{Held, Done, Gives, Traps, Spent, Stuck}
use Rattle.world_stacks.specs.declared.top.Top.{Top}
use Rattle.world_stacks.specs.declared.top.Top.TheVariants as top
use Rattle.world_stacks.specs.Views.{PileView}
use Rattle.world_stacks.specs.Piles.{new_pile, TopTyped, PileTyped}
use Rattle.world_stacks.specs.Typing.{TopFits, PileFits, PilesFit}
use Rattle.world_stacks.proofs.Fitting.{piles_later, new_fits}
use Rattle.replies.specs.Seen.{seen}
use Rattle.value_parts.specs.declared.to_pass.Passing.{Passing}
use Rattle.value_parts.specs.declared.to_pass.Passing.TheVariants as passing
use Rattle.value_parts.specs.Coming.{Behind}
use Rattle.value_parts.specs.Lifting.{FewLent}
use Rattle.value_parts.specs.Fit.{LentAtMost, most_more, StaysFit, PassesStayFit}
use Rattle.value_parts.proofs.fit.Keeps.{Keeps, KeepsBy}
use Rattle.canon_hosts.specs.Hosts.{first_store}
use Rattle.machine_runs.proofs.fit.First.{first_typed}
use Rattle.machine_runs.specs.declared.stepping.Step.{Step}
use Rattle.machine_runs.specs.declared.stepping.Step.TheVariants as step
use Rattle.machine_runs.specs.Beginning.{first_held, first_piles}
use Rattle.machine_runs.specs.Following.{followed}
use Rattle.machine_runs.specs.Moving.{TypedOf, IsActingTyped, acting_of}
use Rattle.machine_runs.specs.Stepping.{turn_steps, move_steps, RestSteps, follow_steps, PassSteps, Steps, CanGoOn, CanStep}
use Rattle.machine_runs.specs.Worlds.{Point, first_point, StepsTo, StepGives, handed_on, Goes, GoOn, most_steps, StepsOn}
use Rattle.machine_runs.specs.Fit.{Fit, ModulesFit}
use Rattle.machine_runs.proofs.fit.Stacks.{FitsBy, fits_then, fits_same}
use Rattle.machine_runs.proofs.fit.Following.{followed_fits}
use Rattle.machine_runs.proofs.fit.Moves.{move_steps_fits, turn_steps_fits}
use Rattle.machine_runs.proofs.fit.Running.{runs_fit}

lent_more : (h : Held) (m n : ℕ) → m ≤ n → LentAtMost m h → LentAtMost n h
lent_more h m n less few at i is index = omega (arith, less, few at i is index)

-- A step, from where the run is.
rest_fits : (p : Program) (r : Rest) (piles : List PileView) (h : Held) (d : Done (Step × List PileView)) → ModulesFit p.graph.now → StoreTyped h.store → PilesFit h.store piles
    → RestSteps p r piles h d → FitsBy h piles d
rest_fits p rest.Free piles h d valid store fit is = subst (FitsBy h piles) (sym is) (turn_steps_fits p piles h)
rest_fits p rest.Runs piles h d valid store fit is = runs_fit piles h d store fit is
rest_fits p (rest.Instantiates number) piles h d valid store fit is = subst (FitsBy h piles) (sym is) (move_steps_fits p piles h valid)
rest_fits p rest.Arrives piles h d valid store fit is = subst (FitsBy h piles) (sym is) (move_steps_fits p piles h valid)
rest_fits p rest.Goes piles h d valid store fit is = subst (FitsBy h piles) (sym is) (move_steps_fits p piles h valid)
rest_fits p rest.Resumes piles h d valid store fit is = subst (FitsBy h piles) (sym is) (move_steps_fits p piles h valid)
rest_fits p rest.Back piles h d valid store fit is = subst (FitsBy h piles) (sym is) (move_steps_fits p piles h valid)
rest_fits p (rest.Calls number) piles h d valid store fit is = subst (FitsBy h piles) (sym is) (move_steps_fits p piles h valid)
rest_fits p rest.Leaves piles h d valid store fit is = subst (FitsBy h piles) (sym is) (move_steps_fits p piles h valid)

follow_fits : (p : Program) (f : Flow) (piles : List PileView) (h : Held) → FitsBy h piles (follow_steps p f piles h)
follow_fits p f piles h =
    fits_then h piles (followed (seen p.graph.now) f piles h) (λ r k. Gives (step.GoesOn r.0, r.1) k) (followed_fits (seen p.graph.now) f piles h)
    (λ r k. fits_same k r.1 (step.GoesOn r.0))

abbrev point : Passing → List PileView → Held → Point
point x piles h = record { held = h; piles = piles; passing = x }

moved_fits : (n : ℕ) (h k : Held) (piles later : List PileView) (x : Passing) → StoreTyped h.store → PilesFit h.store piles → LentAtMost (n * most_more) h
    → (let d : Done (Step × List PileView) = Gives (step.GoesOn x, later) k in FitsBy h piles d) → Fit (suc n) (point x later k)
moved_fits n h k piles later x store fit few p = record {
  store = (p.0.store store).1;
  piles = p.1 store fit;
  lends = lent_more k (n * most_more) (suc n * most_more) (omega arith) (p.0.lends (n * most_more) few);
}

-- Values are passed first.
passed_fits : (R : Program → Passing → Held → Done Flow → Type 0) (p : Program) (n : ℕ) (y x : Passing) (h k : Held) (piles later : List PileView) (first : Done Flow) → PassesStayFit R p
    → StoreTyped h.store → PilesFit h.store piles → LentAtMost (n * most_more) h → R p y h first
    → Behind first (λ f m e. e ≡ follow_steps p f piles m) (Gives (step.GoesOn x, later) k) → Fit (suc n) (point x later k)
passed_fits R p n y x h k piles later (Gives f m) stays store fit few may is =
    let mid = stays y h m f store may in
    let d : Done (Step × List PileView) = Gives (step.GoesOn x, later) k in
    let q : FitsBy m piles d = subst (FitsBy m piles) (sym is) (follow_fits p f piles m) in
    record {
      store = (q.0.store mid.typed).1;
      piles = q.1 mid.typed (piles_later h.store m.store piles mid.grows fit);
      lends = lent_more k (n * most_more + most_more) (suc n * most_more) (omega arith) (q.0.lends (n * most_more + most_more) (mid.lends (n * most_more) few));
    }
passed_fits R p n y x h k piles later (Traps why m) stays store fit few may is = cc
passed_fits R p n y x h k piles later (Spent m) stays store fit few may is = cc
passed_fits R p n y x h k piles later Stuck stays store fit few may is = cc

step_by : (R : Program → Passing → Held → Done Flow → Type 0) (p : Program) (n : ℕ) (y x : Passing) (h k : Held) (piles later : List PileView) → ModulesFit p.graph.now → PassesStayFit R p
    → StoreTyped h.store → PilesFit h.store piles → LentAtMost (n * most_more) h → Steps R p y piles h (Gives (step.GoesOn x, later) k) → Fit (suc n) (point x later k)
step_by R p n passing.Nothing x h k piles later valid stays store fit few is =
    moved_fits n h k piles later x store fit few (rest_fits p h.rest piles h (Gives (step.GoesOn x, later) k) valid store fit is)
step_by R p n passing.Arguments x h k piles later valid stays store fit few (first, may, is) =
    passed_fits R p n passing.Arguments x h k piles later first stays store fit few may is
step_by R p n passing.Returned x h k piles later valid stays store fit few (first, may, is) =
    passed_fits R p n passing.Returned x h k piles later first stays store fit few may is
step_by R p n (passing.Ended words) x h k piles later valid stays store fit few (first, may, is) =
    passed_fits R p n (passing.Ended words) x h k piles later first stays store fit few may is
step_by R p n (passing.Elements copying) x h k piles later valid stays store fit few (first, may, is) =
    passed_fits R p n (passing.Elements copying) x h k piles later first stays store fit few may is

-- Steps, one behind the other.
module _ (R : Program → Passing → Held → Done Flow → Type 0) (p : Program) (valid : ModulesFit p.graph.now) (stays : PassesStayFit R p) where
  one_goes : (n : ℕ) (a c : Point) (lines : List Label) → Fit n a → Goes R p a lines c → Fit (suc n) c
  one_goes n a c lines fit (b, gives, told, is) =
      let next : Fit (suc n) b = step_by R p n a.passing b.passing a.held b.held a.piles b.piles valid stays fit.store fit.piles fit.lends gives in
      subst (Fit (suc n)) (sym is) (record { store = next.store; piles = next.piles; lends = next.lends })

  all_go : (count : ℕ) (a b : Point) (lines : List Label) → Fit 0 a → GoOn R p count a lines b → Fit count b
  all_go zero a b lines fit (none, is) = subst (Fit 0) (sym is) fit
  all_go (suc count) a b lines fit (mid, before, more, steps, goes, is) = one_goes count mid b more (all_go count a mid before fit steps) goes

-- The first world.
no_instance : (most : ℕ) (g : Graph) (s : Script) → LentAtMost most (first_held g s)
no_instance most g s zero i is = cc
no_instance most g s (suc at) i is = cc

first_piles_fit : (s : Store) → PilesFit s first_piles
first_piles_fit s zero p is = let same : p ≡ new_pile = cc in subst (PileFits s) (sym same) (new_fits s)
first_piles_fit s (suc n) p is = cc

first_fits : (g : Graph) (s : Script) → Fit 0 (first_point g s)
first_fits g s = record { store = first_typed g; piles = first_piles_fit (first_store g); lends = no_instance (0 * most_more) g s }

-- What a step asks for is there.
top_typed : (s : Store) (x : Top) → TopFits s x → TopTyped s x
top_typed s top.Empty h = tt
top_typed s (top.Waits c) h = tt
top_typed s (top.Goes k) h = h

pile_typed : (s : Store) (o : Option PileView) → ((p : PileView) → o ≡ Some p → PileFits s p) → PileTyped s o
pile_typed s None h = tt
pile_typed s (Some p) h = top_typed s p.top (h p refl).top

acting_typed : (s : Store) (piles : List PileView) (o : Option ℕ) → PilesFit s piles → TypedOf s piles o
acting_typed s piles None h = tt
acting_typed s piles (Some t) h = pile_typed s (slice_get piles t) (λ p is. h t p is)

can_go : (r : Rest) (piles : List PileView) (h : Held) → PilesFit h.store piles → CanGoOn r piles h
can_go rest.Runs piles h fit = acting_typed h.store piles (acting_of h) fit
can_go rest.Free piles h fit = tt
can_go (rest.Instantiates number) piles h fit = tt
can_go rest.Arrives piles h fit = tt
can_go rest.Goes piles h fit = tt
can_go rest.Resumes piles h fit = tt
can_go rest.Back piles h fit = tt
can_go (rest.Calls number) piles h fit = tt
can_go rest.Leaves piles h fit = tt

few_lent : (n : ℕ) (h : Held) → n < most_steps → LentAtMost (n * most_more) h → FewLent h
few_lent n h less few at i is index = omega (arith, less, few at i is index)

can_step : (n : ℕ) (x : Passing) (piles : List PileView) (h : Held) → n < most_steps → PilesFit h.store piles → LentAtMost (n * most_more) h → CanStep x piles h
can_step n passing.Nothing piles h less fit few = can_go h.rest piles h fit
can_step n passing.Arguments piles h less fit few = few_lent n h less few
can_step n passing.Returned piles h less fit few = few_lent n h less few
can_step n (passing.Ended words) piles h less fit few = few_lent n h less few
can_step n (passing.Elements copying) piles h less fit few = few_lent n h less few

pub steps_on : (R : Program → Passing → Held → Done Flow → Type 0) (p : Program) (g : Graph) (s : Script) → ModulesFit p.graph.now → PassesStayFit R p → StepsOn R p (first_point g s)
steps_on R p g s valid stays count lines b less go =
    let fit = all_go R p valid stays count (first_point g s) b lines (first_fits g s) go in
    can_step count b.passing b.piles b.held less fit.piles fit.lends
