-- What the graph of a component has, where it is linked (Component Model, Explainer.md, "Instance Definitions" and "Canonical
-- Definitions"), and what its modules have, where it was read before (Binary.md, "Core Definitions"; Core 2.0, section 5.5).
use Rattle.std.specs.Prelude.{◌≡◌, ℕ, List, Some}
use Rattle.std.specs.List.{slice_get, AllByRecursion}
use Rattle.syntax_trees.specs.declared.exports.Export.{Export}
use Rattle.syntax_trees.specs.declared.module.ModuleTree.{ModuleTree}
use Rattle.wasm_typing.specs.Modules.{Typed}
use Rattle.wasm_store.specs.Instantiation.{InRange}
use Rattle.comp_tree.specs.declared.items.Component.{Component}
use Rattle.comp_reader.specs.Binary.{IsComponent}
use Rattle.comp_graph.specs.Graph.{Graph}
use Rattle.script_reader.specs.declared.script.Call.{Call}
use Rattle.script_reader.specs.declared.script.Item.TheVariants as item
use Rattle.script_reader.specs.Script.{Script, IsScript}
use Rattle.link_spec.specs.Standing.{StandsIn}
use Rattle.link_spec.specs.Linked.{IsLinked}
use Rattle.lowering_laws.specs.Values.{AreBytes, AllInRange}
use Rattle.lowering_laws.specs.StoreBytes.{HasBytes}
use Rattle.abi_machine.specs.sound.Owners.{Makes}
use Rattle.graph_laws.specs.Counted.{HasLabelledTypes, HasLabelledFuncs}

-- A module that is valid, no memory of which begins with more pages than any may have, and whose data are bytes.
pub record IsSoundModule (m : ModuleTree) : Type 0 where
  pub typed : Typed m
  pub in_range : InRange m
  pub bytes : HasBytes m

-- So is each module that stands in a component.
abbrev pub HasSoundModules : Component → Type 0
HasSoundModules c = (m : ModuleTree) → StandsIn m c.items → IsSoundModule m

-- The plan of a graph makes each core instance, in order.
abbrev pub PlansMakeInOrder : Type 0
PlansMakeInOrder = (c : Component) (g : Graph) → IsLinked c g → Makes 0 g.plan g.cores

-- Modules that are read are typed and in range.
abbrev pub ReadModulesAreTyped : Type 0
ReadModulesAreTyped = (bytes : List ℕ) (c : Component) (m : ModuleTree) → IsComponent bytes c → StandsIn m c.items → Typed m × InRange m

-- The data of a module are bytes of the file.
abbrev pub ReadDataAreBytes : Type 0
ReadDataAreBytes = (bytes : List ℕ) (c : Component) (m : ModuleTree) → AreBytes bytes → IsComponent bytes c → StandsIn m c.items → HasBytes m

-- What is read of bytes has sound modules.
abbrev pub ReadModulesAreSound : Type 0
ReadModulesAreSound = (bytes : List ℕ) (c : Component) → AreBytes bytes → IsComponent bytes c → HasSoundModules c

-- What functions of a graph pass that is read of bytes and linked has types whose labels are counted, also in what passes in streams and
-- futures.
abbrev pub ReadTypesAreLabelled : Type 0
ReadTypesAreLabelled =
    (bytes : List ℕ) (c : Component) (g : Graph)
    → AreBytes bytes → IsComponent bytes c → IsLinked c g → HasLabelledFuncs g

-- Each call of a script that is read for exports whose types have counted labels passes values in their ranges.
abbrev pub ReadScriptsPassInRange : Type 0
ReadScriptsPassInRange =
    (exports : List Export) (text : List ℕ) (s : Script) (n : ℕ) (call : Call)
    → AllByRecursion (λ (e : Export). HasLabelledTypes e.func_type) exports → IsScript exports text s → slice_get s.items n ≡ Some (item.Call call)
    → AllInRange call.values
