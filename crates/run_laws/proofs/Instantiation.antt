-- Task 0 instantiates.
use Rattle.std.proofs.Common.{◌≡◌, ℕ, List, [], ◌∷◌, ◌++◌, map, refl, sym, ap, ◌∙◌, subst, append-nil, Option, Some}
use Rattle.std.specs.List.{slice_get}
use Rattle.syntax_trees.specs.declared.types.ValType.{ValType}
use Rattle.wasm_store.specs.Stack.{Stack}
use Rattle.comp_graph.specs.Graph.{Graph}
use Rattle.script_reader.specs.Script.{Script}
use Rattle.trace_labels.specs.declared.label.Label.{Label}
use Rattle.trace_labels.specs.declared.trap.TrapName.{TrapName}
use Rattle.programs.specs.declared.program.Program.{Program}
use Rattle.world_parts.specs.declared.parts.Rest.{Rest}
use Rattle.world_parts.specs.declared.parts.Rest.TheVariants as rest
use Rattle.world_parts.specs.Held as kept
use Rattle.world_parts.specs.Held.{Held, Done, Gives, Traps, Spent, after}
use Rattle.world_stacks.specs.Views.{PileView, stacks_of}
use Rattle.world_stacks.specs.Instantiating.{instantiates}
use Rattle.value_parts.specs.declared.to_pass.Passing.{Passing}
use Rattle.value_parts.specs.declared.to_pass.Passing.TheVariants as passing
use Rattle.machine_runs.specs.declared.stepping.Step.{Step}
use Rattle.machine_runs.specs.declared.stepping.Step.TheVariants as step
use Rattle.machine_runs.specs.Moving.{instantiated, moves}
use Rattle.machine_runs.specs.Stepping.{move_steps}
use Rattle.abi_machine.specs.Control.{Control, Free, Doomed}
use Rattle.abi_machine.specs.World.{Task, World}
use Rattle.abi_machine.specs.Edits.{with_control}
use Rattle.abi_machine.specs.Turn.{Turn, Steps}
use Rattle.abi_machine.specs.Instantiating.{instantiating_turn}
use Rattle.abi_machine.specs.Next.{next, next_by}
use Rattle.abi_machine.specs.Run.{lines_of}
use Rattle.standing.specs.Stands.{Stands}
use Rattle.standing.specs.Agreeing.{acting_words, control_of, control_at, LeadsTo}
use Rattle.standing.specs.Instantiates.{InitActs, ActionAgrees}
use Rattle.standing.proofs.Changes.{acting_is_alike}
use Rattle.standing.proofs.Going.{after_after}
use Rattle.standing.proofs.Instantiates.{action_is_done}
use Rattle.run_laws.specs.Points.{AtRest, stacks_at, StepAgrees}
use Rattle.run_laws.specs.Runs.{RuleAgrees}
use Rattle.run_laws.specs.Instantiation.{InstantiationAgrees}

-- what is handed on by an action
abbrev handed : Unit {0} × List PileView → Held → Done (Step × List PileView)
handed r k = Gives (step.GoesOn passing.Nothing, r.1) k

-- What an action comes to is a step.
as_step : (g : Graph) (values : List ValType) (s : Script) (before : List Label) (w : World) (d : Done (Unit {0} × List PileView)) → before ≡ [] → ActionAgrees g values s before d (next g s w)
    → RuleAgrees g values s [] w (after d handed)
as_step g values s before w (Gives r k) none a = record {
  steps = a.lines ∷ [];
  world = with_control (control_at k) a.world;
  reached = (with_control (control_at k) a.world, a.ends, refl);
  now_ahead = [];
  point = record { stands = a.stands; control = refl; none_ahead = refl };
  same_lines =
      a.told ∙ ap (λ (ls : List Label). ls ++ a.lines) none
      ∙ sym (append-nil a.lines) ∙ sym (append-nil (lines_of (a.lines ∷ [])));
}
as_step g values s before w (Traps why k) none a = (
  0,
  acting_is_alike g values s k a.0 a.1.world a.1.stands ∙ a.1.ends.1,
  record {
    steps = a.1.lines ∷ [];
    world = with_control (Doomed 0 why) a.1.world;
    reached = (with_control (Doomed 0 why) a.1.world, a.1.ends.0, refl);
    same_lines = a.1.told ∙ ap (λ (ls : List Label). ls ++ a.1.lines) none ∙ sym (append-nil a.1.lines);
    is_next = refl;
    stacks = a.0;
    stands = a.1.stands;
  },
)
as_step g values s before w (Spent k) none a = absurd a
as_step g values s before w kept.Stuck none a = tt

-- A move where task 0 instantiates.
move_is : (g : Graph) (p : Program) (h : Held) (piles : List PileView) (n : ℕ) → p.graph.now ≡ g → h.rest ≡ rest.Instantiates n → move_steps p piles h ≡ after (instantiates g n piles h) handed
unfolding instantiated
move_is g p h piles n graph at =
    ap (λ (r : Rest). after {B = Step × List PileView} (moves p.graph.now p.ends.now r piles h) (λ r k. Gives (step.GoesOn r.0, r.1) k)) at
    ∙ ap (λ (x : Graph). after {B = Step × List PileView} (after {B = Passing × List PileView} (instantiates x n piles h) (λ r k. Gives (passing.Nothing, r.1) k)) (λ r k. Gives (step.GoesOn r.0, r.1) k)) graph
    ∙ after_after (instantiates g n piles h) (λ r k. Gives (passing.Nothing, r.1) k) (λ r k. Gives (step.GoesOn r.0, r.1) k)

pub instantiation_agrees : InstantiationAgrees
instantiation_agrees g values s p h piles w n task graph none at init rests =
    let free : World = with_control Free w in
    let init_free : InitActs free task = record { first = init.first; there = init.there; alone = init.alone; acts = init.acts } in
    let turn : next g s w ≡ instantiating_turn g n free =
    ap (λ (c : Control). next_by g s free c) (rests.control ∙ ap (λ (r : Rest). control_of (acting_words h) r) at) in
    subst (λ (d : Done (Step × List PileView)). RuleAgrees g values s [] w d) (sym (move_is g p h piles n graph at))
    (as_step g values s h.labels w (instantiates g n piles h) none
    (subst (λ (u : Turn). ActionAgrees g values s h.labels (instantiates g n piles h) u) (sym turn) (action_is_done g values s h piles free n task init_free rests.stands)))
