-- Canonical functions that start functions call (Component Model, Explainer.md, "Instance Definitions"; Core 2.0, section 4.5.4): where the plan of a graph begins the component instance of
-- each core instance before it makes that one, the component instance is there of a canonical function that is called while not all is instantiated.
use Rattle.std.specs.Prelude.{◌≡◌, ℕ, false, List, Some, IsSome}
use Rattle.std.specs.List.{slice_get}
use Rattle.comp_graph.specs.declared.graph.CanonFunc.{CanonFunc}
use Rattle.comp_graph.specs.Graph.{Graph}
use Rattle.script_reader.specs.Script.{Script}
use Rattle.trace_labels.specs.declared.label.Label.{Label}
use Rattle.abi_machine.specs.Control.{Calls}
use Rattle.abi_machine.specs.World.{World, first_world}
use Rattle.abi_machine.specs.Canons.{canon_at, inst_of_canon}
use Rattle.abi_machine.specs.Reading.{may_leave}
use Rattle.abi_machine.specs.Run.{Reaches}
use Rattle.abi_machine.specs.sound.Owners.{IsApart}
use Rattle.reach_laws.specs.KnownPlans.{MakesFollow}

abbrev pub EarlyCallsAreInside : Type 0
EarlyCallsAreInside =
    (g : Graph) (s : Script) (steps : List (List Label)) (w : World) (number : ℕ) (words : List ℕ) (c : CanonFunc) → IsApart g → MakesFollow g → Reaches g s (first_world g) steps w
    → w.control ≡ Calls number words → canon_at g number ≡ Some c → may_leave w ≡ false → IsSome (slice_get w.insts (inst_of_canon c))
