-- What a component that is read and linked gives of its graph, and reading of a script for it (Component Model, Explainer.md, "Instance Definitions" and
-- "Canonical Definitions"; Concurrency.md, "Summary"): core definitions stay in their component instance, modules are valid and their data are bytes, what
-- lifts, lowers and built-ins use is there, and calls name exports and pass values of the types of their parameters.
use Rattle.std.specs.Prelude.{◌≡◌, ℕ, Some}
use Rattle.std.specs.List.{slice_get, AllByRecursion}
use Rattle.comp_graph.specs.Graph.{Graph}
use Rattle.script_reader.specs.declared.script.Item.{Item}
use Rattle.script_reader.specs.declared.script.Item.TheVariants as item
use Rattle.script_reader.specs.Script.{Script}
use Rattle.lowering_laws.specs.StoreBytes.{HasBytes}
use Rattle.lowering_laws.specs.Values.{AllInRange}
use Rattle.abi_machine.specs.sound.Owners.{IsApart}
use Rattle.abi_machine.specs.sound.MadeInstances.{IsTypedGraph}
use Rattle.abi_machine.specs.sound.Callees.{IsUsedGraph}
use Rattle.abi_machine.specs.sound.Scripts.{IsScriptFor}
use Rattle.abi_machine.specs.sound.TypedSteps.{PassesTyped}

pub record IsRunnable (g : Graph) (s : Script) : Type 0 where
  pub apart : IsApart g
  pub typed : IsTypedGraph g
  pub bytes : AllByRecursion (λ c. HasBytes c.of_module) g.cores
  pub used : IsUsedGraph g
  pub script : IsScriptFor g s
  pub passes : PassesTyped g s

-- The values of a script for a graph are of the types of the parameters where they are in their ranges.
abbrev pub PassesInRange : Item → Type 0
PassesInRange (item.Call call) = AllInRange call.values
PassesInRange (item.Cancel call) = Unit {0}

abbrev pub ScriptsPassTyped : Type 0
ScriptsPassTyped =
    (g : Graph) (s : Script) → IsScriptFor g s → ((n : ℕ) (i : Item) → slice_get s.items n ≡ Some i → PassesInRange i) → PassesTyped g s
