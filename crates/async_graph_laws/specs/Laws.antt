-- What the laws of asynchronous calls ask of a graph, of the graph to which a component is linked (Component Model, Explainer.md, "Instance
-- Definitions" and "Canonical Definitions"), where it asks something of modules also of one that is read (Binary.md, "Core Definitions").
use Rattle.std.specs.Prelude.{ℕ, List}
use Rattle.syntax_trees.specs.declared.module.ModuleTree.{ModuleTree}
use Rattle.wasm_typing.specs.Modules.{Typed}
use Rattle.wasm_store.specs.Instantiation.{InRange}
use Rattle.comp_tree.specs.declared.items.Component.{Component}
use Rattle.comp_reader.specs.Binary.{IsComponent}
use Rattle.comp_graph.specs.Graph.{Graph}
use Rattle.script_reader.specs.Script.{Script, IsScript, AreItems}
use Rattle.link_spec.specs.Standing.{StandsIn}
use Rattle.link_spec.specs.Linked.{IsLinked}
use Rattle.abi_machine.specs.sound.Owners.{IsApart}
use Rattle.abi_machine.specs.sound.MadeInstances.{IsTypedGraph}
use Rattle.abi_machine.specs.sound.Callees.{IsUsedGraph}
use Rattle.abi_machine.specs.sound.Scripts.{IsScriptFor}
use Rattle.abi_machine.specs.sound.PassedTypes.{PassesNoBorrow}
use Rattle.async_graph_laws.specs.Ends.{TellsEnds}

-- Core definitions stay in the component instance that makes them: also callbacks, what built-ins use, and destructors.
abbrev pub LinkedDefinitionsAreApart : Type 0
LinkedDefinitionsAreApart = (c : Component) (g : Graph) → IsLinked c g → IsApart g

-- What typed stacks ask of a graph it has where its modules are typed and in range, and so it has where it is read. What lifts and lowers use is there in
-- every linked graph, and so are destructors.
abbrev pub LinkedGraphsAreTyped : Type 0
LinkedGraphsAreTyped = (c : Component) (g : Graph) → ((m : ModuleTree) → StandsIn m c.items → Typed m × InRange m) → IsLinked c g → IsTypedGraph g

abbrev pub ReadGraphsAreTyped : Type 0
ReadGraphsAreTyped = (bytes : List ℕ) (c : Component) (g : Graph) → IsComponent bytes c → IsLinked c g → IsTypedGraph g

abbrev pub LinkedGraphsAreUsed : Type 0
LinkedGraphsAreUsed = (c : Component) (g : Graph) → IsLinked c g → IsUsedGraph g

-- A script whose items call exports of a graph that has what its lifts use, or cancel calls before them, is for it, and so is one that is read for the exports of a linked graph.
abbrev pub CallsAreForGraphs : Type 0
CallsAreForGraphs = (g : Graph) (s : Script) → IsUsedGraph g → AreItems g.exports 0 s.items → IsScriptFor g s

abbrev pub ReadScriptsAreForGraphs : Type 0
ReadScriptsAreForGraphs = (c : Component) (g : Graph) (bytes : List ℕ) (s : Script) → IsLinked c g → IsScript g.exports bytes s → IsScriptFor g s

-- Every linked graph tells the type of each of its built-ins of ends, and none twice.
abbrev pub LinkedGraphsTellEnds : Type 0
LinkedGraphsTellEnds = (c : Component) (g : Graph) → IsLinked c g → TellsEnds g

-- No borrowed handle is in what functions of a linked graph give, or in what passes in its streams and futures.
abbrev pub LinkedGraphsPassNoBorrow : Type 0
LinkedGraphsPassNoBorrow = (c : Component) (g : Graph) → IsLinked c g → PassesNoBorrow g
