-- Where a run rests, and so much is carried, all that a step asks of a move and of a turn is so.
use Rattle.std.proofs.Common.{◌≡◌, inl, inr, ℕ, Bool, true, false, List, [], ◌∷◌, refl, sym, subst, Some}
use Rattle.syntax_trees.specs.declared.types.ValType.{ValType}
use Rattle.wasm_store.specs.Stack.{Stack}
use Rattle.wasm_store.proofs.Lists.{all_at}
use Rattle.comp_graph.specs.declared.graph.CanonFunc.{CanonFunc}
use Rattle.comp_graph.specs.Graph.{Graph}
use Rattle.script_reader.specs.Script.{Script}
use Rattle.trace_labels.specs.declared.label.Label.{Label}
use Rattle.programs.specs.declared.program.Program.{Program}
use Rattle.world_parts.specs.declared.parts.Rest.{Rest}
use Rattle.world_parts.specs.declared.parts.Rest.TheVariants as rest
use Rattle.world_parts.specs.Held.{Held}
use Rattle.world_stacks.specs.Views.{PileView}
use Rattle.abi_machine.specs.Control.{Control}
use Rattle.abi_machine.specs.World.{Task, World, first_world}
use Rattle.abi_machine.specs.Canons.{canon_at, inst_of_canon, options_at}
use Rattle.abi_machine.specs.Reading.{may_leave}
use Rattle.abi_machine.specs.sound.Firsts.{FirstIs}
use Rattle.abi_machine.specs.Run.{Reaches}
use Rattle.abi_machine.specs.sound.GoingOn.{IsStanding}
use Rattle.abi_machine.specs.sound.GraphFuncs.{IsOfGraph, HaveCallees}
use Rattle.abi_machine.specs.sound.Owners.{IsApart}
use Rattle.abi_machine.specs.sound.TypedStacks.{ActsTyped, IsTyped, CallsTyped}
use Rattle.abi_machine.specs.sound.TypedWorlds.{Acts, IsTypedWorld}
use Rattle.abi_machine.specs.sound.Starting.{IsDoomed}
use Rattle.reach_laws.specs.Reached.{CodePassesWords, ReachedAreTyped, StartsTyped}
use Rattle.abi_machine.proofs.sound.Callees.{first_has_callees, callees_stay}
use Rattle.abi_machine.proofs.sound.Reached.{first_stands, standing_stays}
use Rattle.standing.specs.Agreeing.{acting_words}
use Rattle.standing.specs.Ends.{HasMemory}
use Rattle.run_laws.specs.Carried.{IsRight, IsFit}
use Rattle.run_laws.specs.Points.{AtRest, stacks_at}
use Rattle.run_laws.specs.Reached.{StandsReached}
use Rattle.run_laws.specs.Steps.{IsReached, MayMove, MayTurn, RestWell}
use Rattle.run_laws.specs.Supplied.{RestsReached, InstancesThere, PlacesAreKept, MemoriesNamed, PassesFor, MoveLeft}
use Rattle.run_laws.specs.SuppliedPassings.{IsProgramOf, NumbersTypes}
use Rattle.run_laws.proofs.CancelTaken.{turns_may_come}
use Rattle.run_laws.proofs.NamedCalls.{programs_are_named}
use Rattle.run_laws.proofs.keeping.still.Steps.{memories_are_first}
use Rattle.run_laws.proofs.onward.Knowing.{IsKnown}
use Rattle.run_laws.proofs.onward.Programs.{programs_pass}
use Rattle.run_laws.proofs.supplied.Begun.{instances_there}
use Rattle.run_laws.proofs.supplied.Fitted.{fitting_moves}
use Rattle.run_laws.proofs.supplied.Fitting.{not_doomed, typed_now}
use Rattle.run_laws.proofs.supplied.FirstMemories.{runnable_graphs_name_first}
use Rattle.run_laws.proofs.supplied.Memories.{memories_are_named}
use Rattle.run_laws.proofs.supplied.Moves.{rests}
use Rattle.run_laws.proofs.onward.Fitting.{types_fit}

-- A program that is made of a graph and a script that fit is of them.
pub program_of : (p : Program) → IsFit p → IsProgramOf p p.types.now p.script.now
program_of p fit =
    let both : PassesFor p p.types.now p.script.now × NumbersTypes p p.types.now = programs_pass p.graph.now p.script.now p fit.made fit.fits.runs.script in
    record { funcs = fit.made.funcs; typed = (types_fit p fit); fits = both.0; types = both.1; first = runnable_graphs_name_first p.graph.now p.script.now fit.fits.runs; begin = fit.fits.begin }

-- The functions that tasks run are the graph's.
callees_from : (g : Graph) (s : Script) (steps : List (List Label)) (w v : World) → IsApart g → IsStanding g s w → HaveCallees g w.tasks → Reaches g s w steps v → HaveCallees g v.tasks
callees_from g s [] w v apart stands callees r = subst (λ (x : World). HaveCallees g x.tasks) (sym r) callees
callees_from g s (labels ∷ steps) w v apart stands callees r =
    callees_from g s steps r.0 v apart (standing_stays g s w r.0 labels apart stands r.1) (callees_stay g s w r.0 labels stands.alone callees r.1) r.2

pub callees_there : (g : Graph) (values : List ValType) (s : Script) (h : Held) (stacks : List (List Stack)) (w : World) → StandsReached g values s h stacks w → HaveCallees g w.tasks
callees_there g values s h stacks w r = callees_from g s r.steps (first_world g) w r.apart (first_stands g s r.apart) (first_has_callees g) r.reached

module _ (p : Program) (h : Held) (piles : List PileView) (w : World) (fit : IsFit p) (reached : IsReached p.graph.now p.script.now w)
    (at : AtRest p.graph.now p.types.now p.script.now h (stacks_at piles) [] w) (right : IsRight p.script.now h) where
  abbrev g : Graph
  g = p.graph.now

  abbrev s : Script
  s = p.script.now

  abbrev values : List ValType
  values = p.types.now

  abbrev stacks : List (List Stack)
  stacks = stacks_at piles

  pub stands_reached : StandsReached g values s h stacks w
  stands_reached = record { apart = fit.fits.runs.apart; no_borrow = fit.fits.no_borrow; no_end = fit.fits.no_end; steps = reached.0; reached = reached.1; stands = at.stands }

  pub rests_reached : RestsReached p values s h stacks w
  rests_reached = record { there = stands_reached; marks = right.marks; ends = right.ends; control = at.control }

  pub insts_there : InstancesThere w
  insts_there = instances_there g values s h stacks w stands_reached fit.fits.begin

  pub canon_memories : (number : ℕ) → HasMemory h w (options_at g number)
  canon_memories number = memories_are_named g values s h stacks w (options_at g number) at.stands (memories_are_first h right.memories) ((runnable_graphs_name_first p.graph.now p.script.now fit.fits.runs).canons number)

  pub memories_named : MemoriesNamed g h w
  memories_named = record {
    canons = canon_memories;
    functions = λ t task f there runs. (
        memories_are_named g values s h stacks w f.options at.stands (memories_are_first h right.memories)
        ((runnable_graphs_name_first p.graph.now p.script.now fit.fits.runs).functions task.callee f (all_at (λ (x : Task). IsOfGraph g x.callee) w.tasks t task (callees_there g values s h stacks w stands_reached) there) runs)
        );
  }

  -- The world is typed, whether all is instantiated or not, so that core code calls a canonical function that is there.
  pub typed_world : ReachedAreTyped → may_leave w ≡ true → IsTypedWorld g w
  typed_world typed late = typed_now g h w at.control (typed g s reached.0 w fit.fits.runs reached.1 late)

  starting : StartsTyped → may_leave w ≡ false → IsTyped g w
  starting starts yet = elim (starts g s reached.0 w fit.fits.runs reached.1 yet) [
    | inl doomed ↦ absurd (not_doomed (acting_words h) h.rest (subst IsDoomed at.control doomed))
    | inr typed ↦ typed.0
  ]

  first_called : (number : ℕ) (words : List ℕ) → FirstIs w.tasks w.chain (CallsTyped g w.store number words) → (c : CanonFunc) × (canon_at g number ≡ Some c)
  first_called number words first = (first.2.2.0, first.2.2.1)

  pub canon_there : StartsTyped → ReachedAreTyped → (number : ℕ) → h.rest ≡ rest.Calls number → (c : CanonFunc) × (canon_at g number ≡ Some c)
  canon_there starts typed number is = by (may_leave w) refl
    where
      by : (b : Bool) → may_leave w ≡ b → (c : CanonFunc) × (canon_at g number ≡ Some c)
      by true late =
          first_called number (acting_words h)
          (subst (λ (c : Control). Acts g c w.store w.tasks w.chain) (rests p values s h stacks w (rest.Calls number) rests_reached is) (typed_world typed late).acts)
      by false yet =
          first_called number (acting_words h)
          (subst (λ (c : Control). ActsTyped g c w.store w.tasks w.chain) (rests p values s h stacks w (rest.Calls number) rests_reached is) (starting starts yet).acts)

  -- All that is left to be asked of a move.
  module _ (passes : CodePassesWords) (typed : ReachedAreTyped) (starts : StartsTyped) (known : IsKnown g w) (places : PlacesAreKept h w) where
    call_left : (number : ℕ) → h.rest ≡ rest.Calls number → MoveLeft p values h w (rest.Calls number)
    call_left number is =
        let c = canon_there starts typed number is in (
          known.worlds.called_out,
          record {
            made = c.0;
            there = c.1;
            early = λ yet. known.early number (acting_words h) c.0 (rests p values s h stacks w (rest.Calls number) rests_reached is) c.1 yet;
            ends = known.worlds.ends (inst_of_canon c.0);
            copies = known.worlds.copies (inst_of_canon c.0);
            memories = canon_memories;
          },
          (fit.made.funcs, (types_fit p fit)),
        )

    moves_by : (r : Rest) → h.rest ≡ r → MoveLeft p values h w r → MayMove p values s h w
    moves_by r is left = fitting_moves passes typed p values s h stacks w fit.fits.runs fit.fits.begin rests_reached (subst (λ (x : Rest). MoveLeft p values h w x) (sym is) left)

    may_turn : h.rest ≡ rest.Free → MayTurn p values s h piles w
    may_turn is =
        turns_may_come p values s h piles w (programs_are_named g s p fit.made fit.fits.runs.script) reached (rests p values s h stacks w rest.Free rests_reached is) at.stands right.marks right.lists
        (record { instances = insts_there; copies = known.worlds.copies; ends = right.ends })

    rests_by : (r : Rest) → h.rest ≡ r → RestWell p values s h piles w r
    rests_by (rest.Instantiates number) is = moves_by (rest.Instantiates number) is tt
    rests_by rest.Free is = may_turn is
    rests_by rest.Arrives is = moves_by rest.Arrives is tt
    rests_by rest.Goes is = moves_by rest.Goes is tt
    rests_by rest.Resumes is = moves_by rest.Resumes is (known.worlds.called_out, known.worlds.copies, places, canon_memories)
    rests_by rest.Back is = moves_by rest.Back is (known.worlds.called_out, known.worlds.others)
    rests_by rest.Runs is = tt
    rests_by (rest.Calls number) is = moves_by (rest.Calls number) is (call_left number is)
    rests_by rest.Leaves is = moves_by rest.Leaves is tt

    pub may_move_at : (number : ℕ) → h.rest ≡ rest.Calls number → MayMove p values s h w
    may_move_at number is = moves_by (rest.Calls number) is (call_left number is)

    pub rests_well : RestWell p values s h piles w h.rest
    rests_well = rests_by h.rest refl
