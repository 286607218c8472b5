-- What a run leaves where it is done, where no task can go on, or behind a trap, is written down as what the machine's run leaves.
use Rattle.std.proofs.Common.{◌≡◌, ◌∙◌, List, refl, sym, subst, Some}
use Rattle.trace_labels.specs.declared.label.Label.{Label}
use Rattle.trace_labels.specs.declared.trap.TrapName.{TrapName}
use Rattle.programs.specs.declared.program.Program.{Program}
use Rattle.world_parts.specs.declared.parts.Copying.{Copying}
use Rattle.world_parts.specs.declared.parts.Flow.{Flow}
use Rattle.world_parts.specs.Held.{Held, Done, Gives, Traps, Spent, Stuck, after}
use Rattle.replies.specs.Seen.{seen}
use Rattle.world_stacks.specs.Views.{PileView}
use Rattle.value_parts.specs.Coming.{Behind}
use Rattle.value_parts.specs.declared.to_pass.Passing.{Passing}
use Rattle.value_parts.specs.declared.to_pass.Passing.TheVariants as passing
use Rattle.value_moves.specs.Passing.{Passes}
use Rattle.machine_runs.specs.declared.ending.LastLine.{LastLine}
use Rattle.machine_runs.specs.declared.ending.RunEnd.{RunEnd}
use Rattle.machine_runs.specs.declared.ending.RunEnd.TheVariants as run_end
use Rattle.machine_runs.specs.declared.stepping.Step.{Step}
use Rattle.machine_runs.specs.declared.stepping.Step.TheVariants as step
use Rattle.machine_runs.specs.Following.{followed}
use Rattle.machine_runs.specs.Stepping.{PassSteps, Steps, follow_steps}
use Rattle.machine_runs.specs.Worlds.{Point, EndsBy, StepsTo, last_line, kept_behind}
use Rattle.abi_machine.proofs.sound.Found.{some_same}
use Rattle.standing.specs.Channels.{HasMarkedEnds}
use Rattle.run_laws.specs.Carried.{IsCarried, IsFit}
use Rattle.run_laws.specs.Left.{EndsFree, RunsLeaveDumps}
use Rattle.run_laws.specs.Points.{AtRest, InPassing, stacks_at}
use Rattle.run_laws.specs.Whole.{LeavesWorld}
use Rattle.run_laws.specs.keeping.Kept.{LendsRight}
use Rattle.run_laws.specs.keeping.Steps.{StepsSo}
use Rattle.run_laws.specs.keeping.Still.{EndsKept, IsOfTask, kind_among}
use Rattle.run_laws.specs.keeping.Stepping.{KeepsAll}
use Rattle.run_laws.proofs.keeping.Steps.{step_keeps_all}
use Rattle.run_laws.proofs.keeping.still.Kinds.{types_tell_kinds}
use Rattle.run_laws.proofs.keeping.still.EndsStep.{elements_keep_ends, passing_keeps_ends, scripts_pass_none}
use Rattle.run_laws.proofs.keeping.still.Steps.{move_keeps_ends}
use Rattle.run_laws.proofs.onward.Dumps.{dumps_agree}
use Rattle.run_laws.proofs.onward.Whole.{IsGiven, carried_at, carried_steps_so, elements_typed, ends_at, ends_passed, from_rest, runs_leave_worlds}
use Rattle.run_laws.proofs.onward.Fitting.{types_fit}

-- Where values were passed the run goes on.
abbrev is_end : Done (Step × List PileView) → Type 0
is_end (Gives (step.Ends, piles) k) = Unit {0}
is_end (Gives (step.GoesOn x, piles) k) = ⊥
is_end (Traps why k) = ⊥
is_end (Spent k) = ⊥
is_end Stuck = ⊥

pass_on : (p : Program) (x : Passing) (piles more : List PileView) (h later : Held) → PassSteps Passes p x piles h (Gives (step.Ends, more) later) → ⊥
pass_on p x piles more h later (first, passes, b) = by first b
  where
    followed_by : (d : Done (Passing × List PileView)) → (let c : Done (Step × List PileView) = Gives (step.Ends, more) later in c) ≡ (let c : Done (Step × List PileView) = after d (λ r k. Gives (step.GoesOn r.0, r.1) k) in c) → ⊥
    followed_by (Gives r k) e = subst is_end e tt
    followed_by (Traps why k) e = absurd (cc)
    followed_by (Spent k) e = absurd (cc)
    followed_by Stuck e = absurd (cc)

    by : (d : Done Flow) → Behind {B = Step × List PileView} d (λ f k e. e ≡ follow_steps p f piles k) (Gives (step.Ends, more) later) → ⊥
    by (Gives f k) b = followed_by (followed (seen p.graph.now) f piles k) b
    by (Traps why k) b = absurd (cc)
    by (Spent k) b = absurd (cc)
    by Stuck b = absurd (cc)

module _ (laws : IsGiven) (p : Program) (fit : IsFit p) where
  -- What is right of what is kept behind the last step.
  module _ (lines : List Label) (b : Point) (c : IsCarried p lines b) (piles : List PileView) (later : Held) (taken : StepsTo Passes p b (Gives (step.Ends, piles) later)) where
    keeps : KeepsAll b.held (let d : Done (Step × List PileView) = Gives (step.Ends, piles) later in d)
    keeps = step_keeps_all p b.passing b.piles b.held (Gives (step.Ends, piles) later) (carried_steps_so laws p lines b fit c) taken

    marks_left : LendsRight later
    marks_left = (keeps.0 c.right.marks).lends

    taken_from : (x : Passing) → b.passing ≡ x → Steps Passes p x b.piles b.held (Gives (step.Ends, piles) later)
    taken_from x is = subst (λ (y : Passing). Steps Passes p y b.piles b.held (Gives (step.Ends, piles) later)) is taken

    ends_by : (x : Passing) → b.passing ≡ x → HasMarkedEnds later
    ends_by passing.Nothing is =
        let at : AtRest p.graph.now p.types.now p.script.now b.held (stacks_at b.piles) c.come.ahead c.come.world =
        subst (λ (y : Passing). InPassing p.graph.now p.types.now p.script.now b.held (stacks_at b.piles) y c.come.ahead c.come.world) is c.come.point in
        let k : EndsKept (kind_among p.types.now) later =
        move_keeps_ends p (kind_among p.types.now) b.piles b.held (Gives (step.Ends, piles) later)
        (types_tell_kinds p.graph.now p.types.now fit.made.funcs p.ends.now (types_fit p fit)) (taken_from passing.Nothing is)
        (ends_at p fit b.held (stacks_at b.piles) c.come.world (c.come.steps, c.come.reached) at.stands c.right.ends) in
        k.marked
    ends_by passing.Arguments is = absurd (pass_on p passing.Arguments b.piles piles b.held later (taken_from passing.Arguments is))
    ends_by passing.Returned is = absurd (pass_on p passing.Returned b.piles piles b.held later (taken_from passing.Returned is))
    ends_by (passing.Ended words) is = absurd (pass_on p (passing.Ended words) b.piles piles b.held later (taken_from (passing.Ended words) is))
    ends_by (passing.Elements copying) is = absurd (pass_on p (passing.Elements copying) b.piles piles b.held later (taken_from (passing.Elements copying) is))

  -- And where it traps.
  module _ (lines : List Label) (b : Point) (c : IsCarried p lines b) (why : TrapName) (later : Held) (taken : StepsTo Passes p b (Traps why later)) where
    so_here : StepsSo p b.held b.passing
    so_here = carried_steps_so laws p lines b fit c

    lends_left : LendsRight later
    lends_left = (step_keeps_all p b.passing b.piles b.held (Traps why later) so_here taken).0 c.right.marks

    trapped_from : (x : Passing) → b.passing ≡ x → Steps Passes p x b.piles b.held (Traps why later)
    trapped_from x is = subst (λ (y : Passing). Steps Passes p y b.piles b.held (Traps why later)) is taken

    kept_here : (b.passing ≡ passing.Nothing → ⊥) → EndsKept (kind_among p.types.now) b.held
    kept_here some = ends_passed p fit b.held b.piles b.passing c.come.ahead (from_rest laws p fit lines b.held b.piles b.passing c some)

    ends_of_task : (x : Passing) → b.passing ≡ x → IsOfTask x → (b.passing ≡ passing.Nothing → ⊥) → HasMarkedEnds later
    ends_of_task x is of some =
        passing_keeps_ends p (kind_among p.types.now) x b.piles b.held (Traps why later) fit.made.distinct (scripts_pass_none p fit.fits.no_end) of
        (subst (λ (y : Passing). StepsSo p b.held y) is so_here) c.right.marks (kept_here some) (trapped_from x is)

    ends_of_elements : (copying : Copying) → b.passing ≡ passing.Elements copying → (b.passing ≡ passing.Nothing → ⊥) → HasMarkedEnds later
    ends_of_elements copying is some =
        let now : IsCarried p lines (record { held = b.held; piles = b.piles; passing = passing.Elements copying })
        = subst (λ (y : Passing). IsCarried p lines (record { held = b.held; piles = b.piles; passing = y })) is c in
        let typed = elements_typed laws p fit lines b.held b.piles copying now in
        elements_keep_ends p (kind_among p.types.now) copying b.piles b.held (Traps why later) fit.made.distinct typed.0 typed.1
        (subst (λ (y : Passing). StepsSo p b.held y) is so_here) c.right.marks (kept_here some) (trapped_from (passing.Elements copying) is)

    ends_resting : b.passing ≡ passing.Nothing → HasMarkedEnds later
    ends_resting is =
        let at : AtRest p.graph.now p.types.now p.script.now b.held (stacks_at b.piles) c.come.ahead c.come.world =
        subst (λ (y : Passing). InPassing p.graph.now p.types.now p.script.now b.held (stacks_at b.piles) y c.come.ahead c.come.world) is c.come.point in
        move_keeps_ends p (kind_among p.types.now) b.piles b.held (Traps why later)
        (types_tell_kinds p.graph.now p.types.now fit.made.funcs p.ends.now (types_fit p fit)) (trapped_from passing.Nothing is)
        (ends_at p fit b.held (stacks_at b.piles) c.come.world (c.come.steps, c.come.reached) at.stands c.right.ends)

    ends_left : (x : Passing) → b.passing ≡ x → HasMarkedEnds later
    ends_left passing.Nothing is = ends_resting is
    ends_left passing.Arguments is = ends_of_task passing.Arguments is tt (λ e. (let none : passing.Arguments ≡ passing.Nothing = sym is ∙ e in cc))
    ends_left passing.Returned is = ends_of_task passing.Returned is tt (λ e. (let none : passing.Returned ≡ passing.Nothing = sym is ∙ e in cc))
    ends_left (passing.Ended words) is = ends_of_task (passing.Ended words) is tt (λ e. (let none : passing.Ended words ≡ passing.Nothing = sym is ∙ e in cc))
    ends_left (passing.Elements copying) is = ends_of_elements copying is (λ e. (let none : passing.Elements copying ≡ passing.Nothing = sym is ∙ e in cc))

  last_right : (lines : List Label) (b : Point) (c : IsCarried p lines b) (d : Done (Step × List PileView)) (last : LastLine) (k : Held) → StepsTo Passes p b d → last_line d ≡ Some last
      → kept_behind d ≡ Some k → EndsFree last.end → LendsRight k × HasMarkedEnds k
  last_right lines b c (Gives (step.Ends, piles) h) last k taken is behind free =
      subst (λ (x : Held). LendsRight x × HasMarkedEnds x) (some_same behind) (marks_left lines b c piles h taken, ends_by lines b c piles h taken b.passing refl)
  last_right lines b c (Gives (step.GoesOn x, piles) h) last k taken is behind free = cc
  last_right lines b c (Traps why h) last k taken is behind free =
      subst (λ (x : Held). LendsRight x × HasMarkedEnds x) (some_same behind) (lends_left lines b c why h taken, ends_left lines b c why h taken b.passing refl)
  last_right lines b c (Spent h) last k taken is behind free = absurd (subst (λ (x : LastLine). EndsFree x.end) (sym (some_same is)) free)
  last_right lines b c Stuck last k taken is behind free = cc

  run_right : (end : RunEnd) (more before : List Label) (b : Point) (h : Held) → IsCarried p before b → EndsBy Passes p b end more h → EndsFree end → LendsRight h × HasMarkedEnds h
  run_right end more before b h c (last, to, (d, taken, is, behind), same_end, told, left) free =
      let right : LendsRight to.held × HasMarkedEnds to.held = last_right before b c d last to.held taken is behind (subst (λ (x : RunEnd). EndsFree x) same_end free) in
      subst (λ (x : Held). LendsRight x × HasMarkedEnds x) (sym left) right

not_fuel : (end : RunEnd) → EndsFree end → end ≡ run_end.Fuel → ⊥
not_fuel end free is = subst (λ (x : RunEnd). EndsFree x) is free

pub runs_leave_dumps : IsGiven → RunsLeaveDumps
runs_leave_dumps laws p end lines h fit run free =
    let m : LeavesWorld p.graph.now p.types.now p.script.now lines end h = runs_leave_worlds laws p end lines h fit run in
    let stands = m.stands (not_fuel end free) in
    let right : LendsRight h × HasMarkedEnds h =
    run_right laws p fit end run.more run.before run.last h (carried_at laws p fit run.goes.count run.before run.last run.goes.steps) run.ends free in
    (m.run, dumps_agree p.graph.now p.types.now p.script.now h stands.0 m.run.last stands.1 right.0 right.1)
