-- All that is asked of a move.
use Rattle.std.proofs.Common.{◌≡◌, List, refl, sym, ap, ◌∙◌, subst}
use Rattle.syntax_trees.specs.declared.types.ValType.{ValType}
use Rattle.wasm_store.specs.Stack.{Stack}
use Rattle.script_reader.specs.Script.{Script}
use Rattle.programs.specs.declared.program.Program.{Program}
use Rattle.world_parts.specs.declared.parts.Flow.{Flow}
use Rattle.world_parts.specs.declared.parts.Rest.{Rest}
use Rattle.world_parts.specs.declared.parts.Rest.TheVariants as rest
use Rattle.world_parts.specs.Held.{Held, Gives}
use Rattle.abi_machine.specs.World.{World}
use Rattle.machine_runs.specs.Moving.{woken}
use Rattle.standing.specs.Stands.{Stands}
use Rattle.run_laws.specs.Steps.{TaskWell, HearsBy, MayMove}
use Rattle.run_laws.specs.Supplied.{RestsReached, IsSupplied, IsNoResume, MoveStillAsked, MovesAreSupplied}
use Rattle.run_laws.proofs.supplied.Canons.{calls_supplied}
use Rattle.run_laws.proofs.supplied.Hears.{events_are_heard, others_hear_nothing}
use Rattle.run_laws.proofs.supplied.Moves.{instantiates_supplied, arrives_supplied, goes_supplied, resumes_supplied, back_supplied, leaves_supplied}

module _ (p : Program) (values : List ValType) (s : Script) (h : Held) (stacks : List (List Stack)) (w : World) (r : RestsReached p values s h stacks w) where
  -- with what may come to it
  joined : (x : Rest) → h.rest ≡ x → (y : IsSupplied p values h w x)
      → ((what : Flow) (k : Held) (now : List (List Stack)) (v : World) → woken p.graph.now p.ends.now x h ≡ Gives what k → Stands p.graph.now values s k now v → HearsBy p.graph.now k v y.number what)
      → MayMove p values s h w
  joined x is y hears = record {
    number = y.number;
    task = y.task;
    first = y.first;
    there = y.there;
    well = subst (λ (z : Rest). TaskWell p values h w y.number y.task z) (sym is) y.well;
    hears = λ what k now v gives later. hears what k now v (ap (λ (z : Rest). woken p.graph.now p.ends.now z h) (sym is) ∙ gives) later;
  }

  quiet : (x : Rest) → h.rest ≡ x → IsNoResume x → IsSupplied p values h w x → MayMove p values s h w
  quiet x is other y = joined x is y (λ what k now v gives later. others_hear_nothing p.graph.now p.ends.now x h what k v y.number other gives)

  by_rest : (x : Rest) → h.rest ≡ x → MoveStillAsked p values h w x → MayMove p values s h w
  by_rest (rest.Instantiates number) is asked = quiet (rest.Instantiates number) is tt (instantiates_supplied p values s h stacks w number r is)
  by_rest rest.Free is asked = absurd asked
  by_rest rest.Arrives is asked = quiet rest.Arrives is tt (arrives_supplied p values s h stacks w r asked is)
  by_rest rest.Goes is asked = quiet rest.Goes is tt (goes_supplied p values s h stacks w r is)
  by_rest rest.Resumes is asked =
      let y : IsSupplied p values h w rest.Resumes = resumes_supplied p values s h stacks w r asked.0 asked.1 asked.3 is in
      joined rest.Resumes is y
      (λ what k now v gives later. events_are_heard p values s h stacks w y.number y.task y.well.func r y.well.acts asked.1 asked.2 asked.3 asked.4 what k now v gives later)
  by_rest rest.Back is asked = quiet rest.Back is tt (back_supplied p values s h stacks w r asked.0 asked.1 asked.2 is)
  by_rest rest.Runs is asked = absurd asked
  by_rest (rest.Calls number) is asked = quiet (rest.Calls number) is tt (calls_supplied p values s h stacks w number asked.3.0 r asked.0 asked.1 asked.2 asked.3.1 is)
  by_rest rest.Leaves is asked = quiet rest.Leaves is tt (leaves_supplied p values s h stacks w r asked is)

pub moves_are_supplied : MovesAreSupplied
moves_are_supplied p values s h stacks w r asked = by_rest p values s h stacks w r h.rest refl asked
