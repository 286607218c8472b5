-- Whole runs.
use Rattle.std.proofs.Common.{◌≡◌, ℕ, zero, suc, List, [], ◌∷◌, ◌++◌, refl, sym, ap, ◌∙◌, subst, append_assoc, append-nil, Option, Some, None}
use Rattle.syntax_trees.specs.declared.types.ValType.{ValType}
use Rattle.comp_graph.specs.Graph.{Graph}
use Rattle.script_reader.specs.Script.{Script}
use Rattle.trace_labels.specs.declared.label.Label.{Label}
use Rattle.trace_labels.specs.declared.trap.TrapName.{TrapName}
use Rattle.programs.specs.declared.program.Program.{Program}
use Rattle.world_parts.specs.Held as kept
use Rattle.world_parts.specs.Held.{Held, Done, Gives, Traps, Spent}
use Rattle.world_stacks.specs.Views.{PileView}
use Rattle.value_parts.specs.declared.to_pass.Passing.{Passing}
use Rattle.value_parts.specs.declared.to_pass.Passing.TheVariants as passing
use Rattle.value_moves.specs.Passing.{Passes}
use Rattle.machine_runs.specs.declared.ending.RunEnd.{RunEnd}
use Rattle.machine_runs.specs.declared.ending.LastLine.{LastLine}
use Rattle.machine_runs.specs.declared.stepping.Step.{Step}
use Rattle.machine_runs.specs.declared.stepping.Step.TheVariants as step
use Rattle.machine_runs.specs.Moving.{acting_of}
use Rattle.machine_runs.specs.Worlds.{Point, handed, free_line, trap_line, last_line, kept_behind, with_last, StepsTo, Goes, GoOn, EndsBy, IsRun}
use Rattle.abi_machine.specs.declared.run_end.RunEnd as machine_end
use Rattle.abi_machine.specs.declared.run_end.RunEnd.TheVariants.{Trapped, Fuel}
use Rattle.abi_machine.specs.World.{World, first_world}
use Rattle.abi_machine.specs.Run.{Reaches, lines_of, end_label, trace_of}
use Rattle.abi_machine.specs.Scheduling.{end_by}
use Rattle.abi_machine.specs.Turn as turns
use Rattle.abi_machine.specs.Turn.{Steps}
use Rattle.abi_machine.proofs.sound.Found.{some_same}
use Rattle.abi_machine.proofs.sound.Unique.{one_run}
use Rattle.standing.proofs.Changes.{first_stands}
use Rattle.run_laws.specs.Points.{InPoint, ReachesEnd, ReachesPoint, ReachesTurn}
use Rattle.run_laws.specs.Runs.{RuleAgrees}
use Rattle.run_laws.specs.Whole.{start_of, MayGoOn, end_of, IsOfMachine, LeavesWorld, WholeRunsAgree, ProgramsAgree}
use Rattle.run_laws.proofs.Steps.{step_is_made}

-- Steps behind steps.
pub reaches_on : (g : Graph) (s : Script) (u w v : World) (steps more : List (List Label)) → Reaches g s u steps w → Reaches g s w more v → Reaches g s u (steps ++ more) v
reaches_on g s u w v [] more first then = subst (λ (x : World). Reaches g s x more v) first then
reaches_on g s u w v (labels ∷ steps) more first then = (first.0, first.1, reaches_on g s first.0 w v steps more first.2 then)

pub lines_on : (steps more : List (List Label)) → lines_of (steps ++ more) ≡ lines_of steps ++ lines_of more
lines_on [] more = refl
lines_on (labels ∷ steps) more = ap (λ (ls : List Label). labels ++ ls) (lines_on steps more) ∙ sym (append_assoc labels (lines_of steps) (lines_of more))

-- Lines in front of the same lines, behind some that were told ahead.
pub rejoined : (before ahead more first then now : List Label) → ahead ++ more ≡ then ++ now → before ≡ first ++ ahead → before ++ more ≡ (first ++ then) ++ now
rejoined before ahead more first then now is was =
    ap (λ (ls : List Label). ls ++ more) was ∙ append_assoc first ahead more ∙ ap (λ (ls : List Label). first ++ ls) is ∙ sym (append_assoc first then now)

-- Where a run of a program is, and the machine.
pub record Arrives (p : Program) (values : List ValType) (lines : List Label) (b : Point) : Type 0 where
  pub steps : List (List Label)
  pub world : World
  pub ahead : List Label
  pub reached : Reaches p.graph.now p.script.now (first_world p.graph.now) steps world
  pub point : InPoint p.graph.now values p.script.now b ahead world
  pub same_lines : lines ≡ lines_of steps ++ ahead
  pub none : b.held.labels ≡ []

-- Of lines a point says nothing.
pub in_handed : (g : Graph) (values : List ValType) (s : Script) (h : Held) (piles : List PileView) (x : Passing) (ahead : List Label) (w : World)
    → InPoint g values s (record { held = h; piles = piles; passing = x }) ahead w → InPoint g values s (record { held = handed h; piles = piles; passing = x }) ahead w
in_handed g values s h piles passing.Nothing ahead w at = record { stands = at.stands; control = at.control; none_ahead = at.none_ahead }
in_handed g values s h piles passing.Arguments ahead w at = record { world = at.world; stands = at.stands; turn = at.turn }
in_handed g values s h piles passing.Returned ahead w at = record { world = at.world; stands = at.stands; turn = at.turn }
in_handed g values s h piles (passing.Ended words) ahead w at = record { world = at.world; stands = at.stands; turn = at.turn }
in_handed g values s h piles (passing.Elements copying) ahead w at = record { world = at.world; stands = at.stands; turn = at.turn }

pub first_arrives : (p : Program) (values : List ValType) → Arrives p values [] (start_of p)
first_arrives p values = record {
  steps = [];
  world = first_world p.graph.now;
  ahead = [];
  reached = refl;
  point = record { stands = first_stands p.graph.now values p.script.now 0; control = refl; none_ahead = refl };
  same_lines = refl;
  none = refl;
}

module _ (p : Program) (values : List ValType) where
  abbrev graph : Graph
  graph = p.graph.now

  abbrev script : Script
  script = p.script.now

  -- The machine ends where the run does, behind the same lines.
  ended : (before more : List Label) (b : Point) (a : Arrives p values before b) (by : machine_end.RunEnd) → ReachesTurn graph script (a.ahead ++ more) a.world (turns.Ends by)
      → IsOfMachine graph script (before ++ (more ++ end_label by ∷ [])) (end_of by)
  ended before more b a by r = record {
    told = lines_of (a.steps ++ r.steps);
    last = r.world;
    by = by;
    runs = (a.steps ++ r.steps, reaches_on graph script (first_world graph) a.world r.world a.steps r.steps a.reached r.reached, r.is_next, refl);
    same_lines =
        sym (append_assoc before more (end_label by ∷ []))
        ∙ ap (λ (ls : List Label). ls ++ end_label by ∷ [])
        (rejoined before a.ahead more (lines_of a.steps) (lines_of r.steps) [] (r.same_lines ∙ sym (append-nil (lines_of r.steps))) a.same_lines
        ∙ append-nil (lines_of a.steps ++ lines_of r.steps) ∙ sym (lines_on a.steps r.steps));
    same_end = refl;
  }

  abbrev pub OfMachine : List Label → Held → LastLine → Type 0
  OfMachine before k last = LeavesWorld graph values script (before ++ with_last k.labels (Some last)) last.end k

  -- What is left behind stands for its last world.
  left_behind : (before : List Label) (k : Held) (b : Point) (a : Arrives p values before b) (by : machine_end.RunEnd) → ReachesEnd graph values script (a.ahead ++ k.labels) a.world by k
      → LeavesWorld graph values script (before ++ (k.labels ++ end_label by ∷ [])) (end_of by) k
  unfolding ended
  left_behind before k b a by r = record {
    run = ended before k.labels b a by (record { steps = r.steps; world = r.world; reached = r.reached; same_lines = r.same_lines; is_next = r.is_next });
    stands = λ some. (r.stacks, r.stands);
  }

  free_ended : (before : List Label) (k : Held) (b : Point) (a : Arrives p values before b) (live : List ℕ) → ReachesEnd graph values script (a.ahead ++ k.labels) a.world (end_by live) k
      → OfMachine before k (free_line live)
  free_ended before k b a [] r = left_behind before k b a (end_by []) r
  free_ended before k b a (t ∷ tasks) r = left_behind before k b a (end_by (t ∷ tasks)) r

  trap_ended : (before : List Label) (k : Held) (b : Point) (a : Arrives p values before b) (why : TrapName) (last : LastLine) (acting : Option ℕ) (t : ℕ) → acting ≡ Some t
      → ReachesEnd graph values script (a.ahead ++ k.labels) a.world (Trapped t why) k → trap_line why acting ≡ Some last → OfMachine before k last
  trap_ended before k b a why last None t is r line = cc
  trap_ended before k b a why last (Some n) t is r line =
      subst (λ (x : LastLine). OfMachine before k x) (some_same line)
      (left_behind before k b a (Trapped n why) (subst (λ (x : ℕ). ReachesEnd graph values script (a.ahead ++ k.labels) a.world (Trapped x why) k) (sym (some_same is)) r))

  pub last_agrees : (before : List Label) (b : Point) (a : Arrives p values before b) (d : Done (Step × List PileView)) (last : LastLine) (k : Held)
      → RuleAgrees graph values script a.ahead a.world d → last_line d ≡ Some last → kept_behind d ≡ Some k → OfMachine before k last
  last_agrees before b a (Gives (step.Ends, piles) h) last k r is behind =
      subst (λ (x : Held). OfMachine before x last) (some_same behind) (subst (λ (x : LastLine). OfMachine before h x) (some_same is) (free_ended before h b a h.live r))
  last_agrees before b a (Gives (step.GoesOn x, piles) h) last k r is behind = cc
  last_agrees before b a (Traps why h) last k (t, acts, r) is behind =
      subst (λ (x : Held). OfMachine before x last) (some_same behind) (trap_ended before h b a why last (acting_of h) t acts r is)
  last_agrees before b a (Spent h) last k r is behind =
      subst (λ (x : Held). OfMachine before x last) (some_same behind) (subst (λ (x : LastLine). OfMachine before h x) (some_same is) (record { run = ended before h.labels b a Fuel r; stands = λ some. absurd (some refl) }))
  last_agrees before b a kept.Stuck last k r is behind = cc

-- Where at each point a step may be made.
module _ (p : Program) (values : List ValType) (may : MayGoOn p values) where
  abbrev g : Graph
  g = p.graph.now

  abbrev s : Script
  s = p.script.now

  -- What a step comes to from where the run is.
  agrees : (count : ℕ) (lines : List Label) (b : Point) (a : Arrives p values lines b) (d : Done (Step × List PileView)) → GoOn Passes p count (start_of p) lines b → StepsTo Passes p b d
      → RuleAgrees g values s a.ahead a.world d
  agrees count lines b a d goes steps =
      step_is_made p values s b.held b.piles b.passing a.ahead a.world d (a.steps, a.reached) a.none a.point (may count lines b a.ahead a.world a.point goes (a.steps, a.reached)) steps

  goes_on : (count : ℕ) (before more : List Label) (b c : Point) (a : Arrives p values before b) → GoOn Passes p count (start_of p) before b → Goes Passes p b more c
      → Arrives p values (before ++ more) c
  goes_on count before more b c a goes (to, steps, told, is) =
      let r : ReachesPoint g values s a.ahead a.world to = agrees count before b a (Gives (step.GoesOn to.passing, to.piles) to.held) goes steps in
      subst (λ (x : Point). Arrives p values (before ++ more) x) (sym is)
      (record {
        steps = a.steps ++ r.steps;
        world = r.world;
        ahead = r.now_ahead;
        reached = reaches_on g s (first_world g) a.world r.world a.steps r.steps a.reached r.reached;
        point = in_handed g values s to.held to.piles to.passing r.now_ahead r.world r.point;
        same_lines =
            ap (λ (ls : List Label). before ++ ls) told ∙ rejoined before a.ahead to.held.labels (lines_of a.steps) (lines_of r.steps) r.now_ahead r.same_lines a.same_lines
            ∙ ap (λ (ls : List Label). ls ++ r.now_ahead) (sym (lines_on a.steps r.steps));
        none = refl;
      })

  arrives : (count : ℕ) (lines : List Label) (b : Point) → GoOn Passes p count (start_of p) lines b → Arrives p values lines b
  arrives zero lines b (none, is) =
      subst (λ (x : Point). Arrives p values lines x) (sym is) (subst (λ (ls : List Label). Arrives p values ls (start_of p)) (sym none) (first_arrives p values))
  arrives (suc count) lines b (mid, before, more, goes, further, is) =
      subst (λ (ls : List Label). Arrives p values ls b) (sym is) (goes_on count before more mid b (arrives count before mid goes) goes further)

  whole : (end : RunEnd) (lines : List Label) (h : Held) → IsRun Passes p (start_of p) end lines h → LeavesWorld g values s lines end h
  whole end lines h run =
      let at : Arrives p values run.before run.last = arrives run.goes.count run.before run.last run.goes.steps in
      by_last at run.ends
    where
      by_last : Arrives p values run.before run.last → EndsBy Passes p run.last end run.more h → LeavesWorld g values s lines end h
      by_last at (last, b, (d, steps, is, behind), same_end, told, left) =
          let m : OfMachine p values run.before b.held last = last_agrees p values run.before run.last at d last b.held (agrees run.goes.count run.before run.last at d run.goes.steps steps) is behind in
          subst (λ (x : Held). LeavesWorld g values s lines end x) (sym left)
          (subst (λ (x : RunEnd). LeavesWorld g values s lines x (handed b.held)) (sym same_end)
          (subst (λ (ls : List Label). LeavesWorld g values s ls last.end (handed b.held)) (sym (run.lines_are ∙ ap (λ (ls : List Label). run.before ++ ls) told))
          (record { run = m.run; stands = m.stands })))

pub whole_runs_agree : WholeRunsAgree
whole_runs_agree p values end lines h may run = (whole p values may end lines h run).run

pub programs_agree : ProgramsAgree
programs_agree p q values others end other lines more h k same_graph same_script may may_other run run_other =
    let one : IsOfMachine p.graph.now p.script.now lines end = (whole p values may end lines h run).run in
    let two : IsOfMachine p.graph.now p.script.now more other =
    subst (λ (s : Script). IsOfMachine p.graph.now s more other) same_script
    (subst (λ (g : Graph). IsOfMachine g q.script.now more other) same_graph (whole q others may_other other more k run_other).run) in
    let same = one_run p.graph.now p.script.now one.told two.told one.last two.last one.by two.by one.runs two.runs in
    (one.same_end ∙ ap end_of same.2 ∙ sym two.same_end, one.same_lines ∙ ap (λ (ls : List Label). trace_of ls one.by) same.0 ∙ ap (λ (e : machine_end.RunEnd). trace_of two.told e) same.2 ∙ sym two.same_lines)
