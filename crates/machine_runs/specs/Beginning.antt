-- Before a graph is instantiated (Component Model, Explainer.md, "Instance Definitions"): one task is there, which instantiates, with all that the
-- script gives.
use Rattle.std.specs.Prelude.{List, [], ◌∷◌}
use Rattle.entry_gate.specs.declared.kind.Kind.TheVariants.{Sync}
use Rattle.tasks.specs.declared.event.TaskEvent.TheVariants.{Enter}
use Rattle.task_table.specs.declared.caller.Caller.TheVariants as by
use Rattle.task_table.specs.declared.errand.Callee.TheVariants as callee
use Rattle.task_table.specs.declared.slot.TaskSlot.{TaskSlot}
use Rattle.task_table.specs.Slots.{new_slot, advanced_slot}
use Rattle.comp_graph.specs.Graph.{Graph}
use Rattle.script_reader.specs.Script.{Script}
use Rattle.canon_hosts.specs.Hosts.{first_store}
use Rattle.world_parts.specs.declared.parts.Rest.TheVariants as rest
use Rattle.world_parts.specs.Held.{Held}
use Rattle.world_stacks.specs.Views.{PileView}
use Rattle.world_stacks.specs.Piles.{new_pile}

-- the task that instantiates, which acts; the number of its instance is read by nothing
abbrev pub first_slot : TaskSlot
first_slot = advanced_slot Enter (new_slot 0 Sync callee.Init by.Nobody)

abbrev pub first_held : Graph → Script → Held
first_held g s = record {
  store = first_store g;
  memories = [];
  instances = [];
  tasks = first_slot ∷ [];
  live = 0 ∷ [];
  watched = record { all = 0 ∷ []; awake = 0 ∷ [] };
  calls = [];
  streams = [];
  futures = [];
  chain = 0 ∷ [];
  rest = rest.Instantiates 0;
  left = s.fuel;
  picks = s.picks;
  taken = 0;
  moves = 0;
  labels = [];
}

-- its stacks, of which none is there
abbrev pub first_piles : List PileView
first_piles = new_pile ∷ []
