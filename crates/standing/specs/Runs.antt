-- What runs of core code are in a run of components (Core 2.0, section 4.5.5; Component Model, CanonicalABI.md, `canon lift`, `canon
-- resource.drop`): where the steps lead that the stack of the acting task makes. A run of a stack has so many units, as many as are left.
use Rattle.std.specs.Prelude.{◌≡◌, ◌+◌, ℕ, List, [], ◌∷◌, Some}
use Rattle.std.specs.List.{slice_get}
use Rattle.wasm_store.specs.Store.{Store}
use Rattle.wasm_store.specs.Stack.{Stack}
use Rattle.wasm_execution.specs.Run.{RunGives}
use Rattle.wasm_execution.specs.declared.running.Outcome.{Outcome}
use Rattle.wasm_execution.specs.declared.running.Outcome.TheVariants as outcome
use Rattle.comp_graph.specs.Graph.{Graph}
use Rattle.script_reader.specs.Script.{Script}
use Rattle.abi_machine.specs.declared.run_end.RunEnd.TheVariants.{Fuel}
use Rattle.abi_machine.specs.Traps.{core_name}
use Rattle.abi_machine.specs.Control.{Free, Runs, Calls, Doomed}
use Rattle.abi_machine.specs.World.{Task, World}
use Rattle.abi_machine.specs.Edits.{with_stack, unstacked}
use Rattle.abi_machine.specs.CoreSteps.{ended_over}
use Rattle.abi_machine.specs.Run.{RunsFrom}
use Rattle.standing.specs.Reaching.{GoesTo, Meets, with_room, WithUsed}

-- The acting task runs a stack, over others that wait for destructors.
pub record RunsStack (w : World) (t : ℕ) (task : Task) (k : Stack) (under : List Stack) : Type 0 where
  pub control : w.control ≡ Runs
  pub acts : slice_get w.chain 0 ≡ Some t
  pub there : slice_get w.tasks t ≡ Some task
  pub stacks : task.stacks ≡ k ∷ under

-- Where a run of the stack leads, by what comes of it, with the store and the used units that it leaves. Want of memory of the program is
-- no part of a run of components.
abbrev pub StackLeads : Graph → Script → World → ℕ → Task → List Stack → Outcome → Store → ℕ → Type 0
StackLeads g s w t task under (outcome.Done words) store used =
    Meets g s w [] (ended_over g t task under words (unstacked t (with_room w store used Free)))
StackLeads g s w t task under (outcome.Calls address words waiting) store used =
    GoesTo g s w [] (with_stack t waiting.stack (with_room w store used (Calls address words)))
StackLeads g s w t task under (outcome.Trapped why) store used =
    (last : Stack) × GoesTo g s w [] (with_stack t last (with_room w store used (Doomed t (core_name why))))
StackLeads g s w t task under (outcome.NoFuel later) store used = RunsFrom g s w [] (with_stack t later (with_room w store used Runs)) Fuel
StackLeads g s w t task under outcome.Memory store used = Unit {0}

abbrev pub StacksLead : Type 0
StacksLead =
    (g : Graph) (s : Script) (w : World) (t : ℕ) (task : Task) (k : Stack) (under : List Stack) (outcome : Outcome) (store : Store) (left after : ℕ)
    → RunsStack w t task k under → w.units + left ≡ s.fuel → RunGives w.store k left outcome store after
    → WithUsed s after (λ used. StackLeads g s w t task under outcome store used)
