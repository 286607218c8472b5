-- Before a graph is instantiated (Component Model, Explainer.md, "Instance Definitions"): what is kept is that one task instantiates, with all
-- that the script gives, and it stands for the first world.
use Rattle.std.specs.Prelude.{ℕ, List, [], ◌∷◌}
use Rattle.syntax_trees.specs.declared.types.ValType.{ValType}
use Rattle.entry_gate.specs.declared.kind.Kind.TheVariants.{Sync}
use Rattle.tasks.specs.declared.event.TaskEvent.TheVariants.{Enter}
use Rattle.comp_graph.specs.Graph.{Graph}
use Rattle.script_reader.specs.Script.{Script}
use Rattle.task_table.specs.declared.caller.Caller.TheVariants as by
use Rattle.task_table.specs.declared.errand.Callee.TheVariants as callee
use Rattle.task_table.specs.declared.slot.TaskSlot.{TaskSlot}
use Rattle.task_table.specs.Slots.{new_slot, advanced_slot}
use Rattle.abi_machine.specs.World.{first_store, first_world}
use Rattle.standing.specs.Stands.{FieldsStand}

-- the task that instantiates, which acts; the number of its instance is read by nothing
abbrev pub first_slot : ℕ → TaskSlot
first_slot instance = advanced_slot Enter (new_slot instance Sync callee.Init by.Nobody)

abbrev pub FirstStands : Type 0
FirstStands =
    (g : Graph) (values : List ValType) (s : Script) (instance : ℕ)
    → FieldsStand g values s (first_store g) [] (first_slot instance ∷ []) [] [] (0 ∷ []) s.fuel s.picks 0 ([] ∷ []) (first_store g) [] (first_world g).tasks [] []
    (0 ∷ []) 0 0 0
