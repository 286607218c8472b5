-- What typed stacks give (Core 2.0, the appendix on soundness; Component Model, CanonicalABI.md, "Flattening", `canon lift`): the next move of a typed
-- stack is typed, so that a rule applies, and it ends with words of its types: a core function with a callback, and a realloc, with one. And
-- the next core instance is the graph's, and what it imports is there.
use Rattle.std.specs.Prelude.{◌≡◌, ℕ, List, [], ◌∷◌, drop, Some}
use Rattle.std.specs.List.{slice_get}
use Rattle.syntax_trees.specs.declared.module_types.ValType.TheVariants.{I32}
use Rattle.wasm_store.specs.Stack.{Stack}
use Rattle.wasm_store.specs.Step.{next}
use Rattle.wasm_store.specs.Instantiation.{External, ImportsMatch}
use Rattle.wasm_store.specs.Laws.{MoveTyped}
use Rattle.entry_gate.specs.declared.kind.Kind.TheVariants.{Callback}
use Rattle.comp_graph.specs.declared.graph.Action.TheVariants.{Make}
use Rattle.comp_graph.specs.Needs.{lift_type}
use Rattle.comp_graph.specs.Graph.{CoreMake, Graph, Lifted}
use Rattle.abi_machine.specs.Control.{Going, Nested, Behind, Instantiates, Runs, Quiet}
use Rattle.abi_machine.specs.World.{Task, World}
use Rattle.abi_machine.specs.Canons.{externals, kind_of_options}
use Rattle.abi_machine.specs.sound.Changes.{IsFirst}
use Rattle.abi_machine.specs.sound.MadeInstances.{IsTypedGraph}
use Rattle.abi_machine.specs.sound.TypedStacks.{gives, nested_results, IsTyped}

abbrev pub MovesAreTyped : Type 0
MovesAreTyped =
    (g : Graph) (w : World) (t : ℕ) (task : Task) (k : Stack) → w.control ≡ Runs → IsTyped g w → IsFirst t w.chain → slice_get w.tasks t ≡ Some task → slice_get task.stacks 0 ≡ Some k
    → MoveTyped w.store (gives task.callee (drop 1 task.stacks)) (next w.store k)

abbrev pub NestedMovesAreTyped : Type 0
NestedMovesAreTyped =
    (g : Graph) (w : World) (n : Nested) (b : Behind) (k : Stack) → w.control ≡ Quiet n b → n.state ≡ Going k → IsTyped g w → MoveTyped w.store (nested_results b) (next w.store k)

abbrev pub CallbacksGiveWords : Type 0
CallbacksGiveWords = (f : Lifted) → kind_of_options f.options ≡ Callback → (lift_type f.options f.func_type).results ≡ I32 ∷ []

abbrev pub InstancesAreMakeable : Type 0
InstancesAreMakeable =
    (g : Graph) (w : World) (n number : ℕ) → IsTypedGraph g → w.control ≡ Instantiates n → IsTyped g w → slice_get g.plan n ≡ Some (Make number)
    → (c : CoreMake) × (slice_get g.cores number ≡ Some c) × ((imports : List External) × (externals w.store c.imports ≡ Some imports) × ImportsMatch w.store c.of_module imports)
