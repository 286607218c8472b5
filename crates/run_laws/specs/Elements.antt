-- Elements that are lowered over what is kept (Component Model, CanonicalABI.md, `canon stream.read`, `canon future.read`, "Storing"): code tests their
-- place once more, which the machine tested when the copy was asked. Where it is aligned, and all elements are inside the memory, both follow one plan.
use Rattle.std.specs.Prelude.{◌≡◌, ◌≤◌, ◌+◌, ◌*◌, ◌%◌, ℕ, Bool, true, List, length}
use Rattle.wasm_store.specs.Stack.{Stack}
use Rattle.syntax_trees.specs.declared.types.ValType.{ValType}
use Rattle.syntax_trees.specs.declared.value.Value.{Value}
use Rattle.laid_types.specs.Layout.{laid}
use Rattle.copy_engine.specs.Copying.{all_fit}
use Rattle.copy_engine.specs.Hosted.{plan_all}
use Rattle.copy_engine.specs.Nested.{bytes_in}
use Rattle.comp_graph.specs.Graph.{Graph}
use Rattle.script_reader.specs.Script.{Script}
use Rattle.task_table.specs.declared.slot.TaskSlot.{TaskSlot}
use Rattle.world_parts.specs.Held.{Held, Done}
use Rattle.value_moves.specs.declared.lowering.Destination.{Destination}
use Rattle.value_moves.specs.Lowering.{Site, LowersAt}
use Rattle.abi_machine.specs.LoweringOver as machine
use Rattle.abi_machine.specs.Pausing.{entries_by}
use Rattle.abi_machine.specs.Control.{Lowering, Lowers}
use Rattle.abi_machine.specs.World.{World}
use Rattle.standing.specs.Plans.{AreOwn}
use Rattle.run_laws.specs.Lowered.{IsSiteOf, LoweredLeads}

abbrev pub ElementsLead : Type 0
ElementsLead =
    (g : Graph) (values : List ValType) (s : Script) (w : World) (h : Held) (stacks : List (List Stack)) (l : Lowering) (to : Destination) (site : Site) (slot : TaskSlot)
    (is_own : ℕ → Bool) (type : ValType) (all : List Value) (place : ℕ) (d : Done (List ℕ))
    → w.control ≡ Lowers l (machine.all_stored (entries_by is_own) type all place) → AreOwn site.resources is_own → all_fit type all ≡ true
    → place % (laid type).align ≡ 0 → place + length all * (laid type).size ≤ length (bytes_in to.options.memory h.store)
    → IsSiteOf g values s w h stacks l to site slot → LowersAt g to values (plan_all type all place site.resources) site h d
    → LoweredLeads g values s w h.labels stacks l d
