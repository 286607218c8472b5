-- A step as a whole keeps all marks, and well what is kept.
use Rattle.std.proofs.Common.{◌≡◌, sym, subst, ℕ, List, Option, Some, None, refl}
use Rattle.programs.specs.declared.program.Program.{Program}
use Rattle.replies.specs.Seen.{seen}
use Rattle.world_parts.specs.declared.parts.Flow.{Flow}
use Rattle.world_parts.specs.declared.parts.Flow.TheVariants as flow
use Rattle.world_parts.specs.declared.parts.Rest.{Rest}
use Rattle.world_parts.specs.declared.parts.Rest.TheVariants as rest
use Rattle.world_parts.specs.Held.{Held, Done, Gives, Traps, Spent, Stuck, given}
use Rattle.world_stacks.specs.Views.{PileView}
use Rattle.value_parts.specs.declared.to_pass.Passing.{Passing}
use Rattle.value_parts.specs.declared.to_pass.Passing.TheVariants as passing
use Rattle.value_parts.specs.Coming.{Behind}
use Rattle.value_moves.specs.Passing.{call_at, PassesFor, Passes}
use Rattle.machine_runs.specs.declared.stepping.Step.{Step}
use Rattle.machine_runs.specs.declared.stepping.Step.TheVariants as step
use Rattle.machine_runs.specs.Following.{followed}
use Rattle.machine_runs.specs.Moving.{moves, acting_of}
use Rattle.machine_runs.specs.Stepping.{step_of_turn, turn_steps, move_steps, RestSteps, follow_steps, PassSteps}
use Rattle.machine_runs.specs.Turning.{turns}
use Rattle.run_laws.specs.keeping.Steps.{GoesSo, PassesWell, StepKeepsAll}
use Rattle.run_laws.specs.keeping.Stepping.{KeepsAll, OwnToHear}
use Rattle.run_laws.specs.keeping.Well.{KeptWell}
use Rattle.run_laws.proofs.PassedFlows.{GivesBy, IsRest, ended_rests, entered_plain, returned_plain, transferred_plain}
use Rattle.run_laws.proofs.plain.Only.{IsPlain}
use Rattle.run_laws.proofs.keeping.Elements.{passings_keep_marks}
use Rattle.run_laws.proofs.keeping.Every.{every_through}
use Rattle.run_laws.proofs.keeping.Followed.{all_after, all_rests, following_all}
use Rattle.run_laws.proofs.keeping.Stepped.{moves_all, runs_all}
use Rattle.run_laws.proofs.keeping.Turned.{turns_all}
use Rattle.run_laws.proofs.well.Behind.{well_behind}
use Rattle.run_laws.proofs.well.Ending.{passings_keep_well}

abbrev After : Type 0
After = Step × List PileView

as_all : {A : Type 0} (h : Held) (d e : Done A) → d ≡ e → KeepsAll h e → KeepsAll h d
as_all {A} h d e same p = subst (λ (x : Done A). KeepsAll h x) (sym same) p

-- From where the run rests.
module _ (p : Program) (piles : List PileView) (h : Held) (so : GoesSo p h) where
  turn_steps_all : h.rest ≡ rest.Free → KeepsAll h (turn_steps p piles h)
  turn_steps_all e =
      all_after {B = After} h (turns p piles h) (λ r k. Gives (step_of_turn r.0, r.1) k) (turns_all p piles h (so.turn e))
      (λ r k. all_rests {A = After} k k (step_of_turn r.0, r.1) refl refl)

  move_all : KeepsAll h (move_steps p piles h)
  move_all =
      all_after {B = After} h (moves p.graph.now p.ends.now h.rest piles h) (λ r k. Gives (step.GoesOn r.0, r.1) k) (moves_all p.graph.now p.ends.now h.rest piles h so.move)
      (λ r k. all_rests {A = After} k k (step.GoesOn r.0, r.1) refl refl)

  rest_all : (r : Rest) (d : Done After) → h.rest ≡ r → RestSteps p r piles h d → KeepsAll h d
  rest_all rest.Free d e is = as_all h d (turn_steps p piles h) is (turn_steps_all e)
  rest_all rest.Runs d e steps = runs_all piles h d steps
  rest_all (rest.Instantiates number) d e is = as_all h d (move_steps p piles h) is move_all
  rest_all rest.Arrives d e is = as_all h d (move_steps p piles h) is move_all
  rest_all rest.Goes d e is = as_all h d (move_steps p piles h) is move_all
  rest_all rest.Resumes d e is = as_all h d (move_steps p piles h) is move_all
  rest_all rest.Back d e is = as_all h d (move_steps p piles h) is move_all
  rest_all (rest.Calls number) d e is = as_all h d (move_steps p piles h) is move_all
  rest_all rest.Leaves d e is = as_all h d (move_steps p piles h) is move_all

-- Where values were passed no event is to come.
plain_hears : (k : Held) (f : Flow) → IsPlain f → OwnToHear k f
plain_hears k (flow.Now words) plain = tt
plain_hears k flow.Rests plain = tt
plain_hears k (flow.Starts func words) plain = tt
plain_hears k flow.Enters plain = tt
plain_hears k flow.Returns plain = tt
plain_hears k (flow.Copies copying) plain = tt
plain_hears k (flow.Delivers r set) plain = absurd plain
plain_hears k (flow.Polls r set) plain = absurd plain
plain_hears k (flow.HearsNone r) plain = tt
plain_hears k (flow.HearsCancel r) plain = tt

rests_plain : (d : Done Flow) → GivesBy IsRest d → GivesBy IsPlain d
rests_plain (Gives f k) is = subst IsPlain (sym is) tt
rests_plain (Traps why k) is = tt
rests_plain (Spent k) is = tt
rests_plain Stuck is = tt

passed_plain : (p : Program) (t : ℕ) (x : Passing) (h : Held) (d : Done Flow) → PassesFor p t x h d → GivesBy IsPlain d
passed_plain p t passing.Nothing h d is = subst (λ (e : Done Flow). GivesBy IsPlain e) (sym is) tt
passed_plain p t passing.Arguments h d b = entered_plain p t h d b
passed_plain p t passing.Returned h d b = returned_plain p t (call_at h.rest) h d b
passed_plain p t (passing.Ended words) h d b = rests_plain d (ended_rests p t words h d b)
passed_plain p t (passing.Elements copying) h d b = transferred_plain p t copying h d b

pub by_acting : (p : Program) (x : Passing) (h : Held) (d : Done Flow) (o : Option ℕ) → Behind (let e : Done ℕ = given o (λ t. Gives t h) in e) (λ t k e. PassesFor p t x k e) d → GivesBy IsPlain d
by_acting p x h d None is = subst (λ (e : Done Flow). GivesBy IsPlain e) (sym is) tt
by_acting p x h d (Some t) b = passed_plain p t x h d b

-- Values are passed, and what follows is done.
follow_all : (p : Program) (f : Flow) (piles : List PileView) (h : Held) → KeptWell h → OwnToHear h f → KeepsAll h (follow_steps p f piles h)
follow_all p f piles h well own =
    all_after {B = After} h (followed (seen p.graph.now) f piles h) (λ r k. Gives (step.GoesOn r.0, r.1) k) (following_all (seen p.graph.now) f piles h well own)
    (λ r k. all_rests {A = After} k k (step.GoesOn r.0, r.1) refl refl)

behind_all : (p : Program) (piles : List PileView) (h : Held) (first : Done Flow) (d : Done After) → KeepsAll h first → KeptWell h → GivesBy IsPlain first
    → Behind first (λ f k e. e ≡ follow_steps p f piles k) d → KeepsAll h d
behind_all p piles h (Gives f k) d keeps well plain is =
    let q : KeepsAll k d = as_all k d (follow_steps p f piles k) is (follow_all p f piles k (keeps.1 well) (plain_hears k f plain)) in
    (every_through h k d keeps.0 q.0, well_behind h k d keeps.1 q.1)
behind_all p piles h (Traps why k) d keeps well plain is = as_all h d (Traps why k) is keeps
behind_all p piles h (Spent k) d keeps well plain is = as_all h d (Spent k) is (tt, tt)
behind_all p piles h Stuck d keeps well plain is = as_all h d Stuck is (tt, tt)

pass_all : (p : Program) (x : Passing) (piles : List PileView) (h : Held) (d : Done After) → PassesWell p x h → PassSteps Passes p x piles h d → KeepsAll h d
pass_all p x piles h d so (first, passes, b) =
    behind_all p piles h first d (passings_keep_marks p x h first so.now so.tables passes, passings_keep_well p x h first passes) so.well (by_acting p x h first (acting_of h) passes) b

pub step_keeps_all : StepKeepsAll
step_keeps_all p passing.Nothing piles h d so steps = rest_all p piles h so h.rest d refl steps
step_keeps_all p passing.Arguments piles h d so steps = pass_all p passing.Arguments piles h d so steps
step_keeps_all p passing.Returned piles h d so steps = pass_all p passing.Returned piles h d so steps
step_keeps_all p (passing.Ended words) piles h d so steps = pass_all p (passing.Ended words) piles h d so steps
step_keeps_all p (passing.Elements copying) piles h d so steps = pass_all p (passing.Elements copying) piles h d so steps
