-- While a graph is instantiated (Component Model, Explainer.md, "Instance Definitions"; CanonicalABI.md, "Component Instance State": `may_leave`,
-- `canon context.get`, `canon context.set`): where its modules are valid, and what they import is there, worlds stand typed up to a trap, and a step
-- comes next, or the end. So they stand where all is instantiated.
use Rattle.std.specs.Prelude.{◌≡◌, ◌⊎◌, false, List}
use Rattle.comp_graph.specs.Graph.{Graph}
use Rattle.script_reader.specs.Script.{Script}
use Rattle.trace_labels.specs.declared.label.Label.{Label}
use Rattle.abi_machine.specs.Control.{Control, Doomed}
use Rattle.abi_machine.specs.World.{World, first_world}
use Rattle.abi_machine.specs.Reading.{is_instantiated}
use Rattle.abi_machine.specs.Turn.{Steps}
use Rattle.abi_machine.specs.Next.{next}
use Rattle.abi_machine.specs.Run.{Reaches}
use Rattle.abi_machine.specs.sound.Owners.{IsApart}
use Rattle.abi_machine.specs.sound.MadeInstances.{IsTypedGraph}
use Rattle.abi_machine.specs.sound.TypedStacks.{IsTyped}
use Rattle.abi_machine.specs.sound.GoingOn.{HasNext}

-- The run comes to a trap.
abbrev pub IsDoomed : Control → Type 0
IsDoomed (Doomed t why) = Unit {0}
IsDoomed control = ⊥

-- what is reached while not all is instantiated, and what comes behind it
abbrev pub StartsTyped : Type 0
StartsTyped =
    (g : Graph) (s : Script) (steps : List (List Label)) (w : World) → IsTypedGraph g → Reaches g s (first_world g) steps w → is_instantiated w.tasks ≡ false → IsDoomed w.control ⊎ IsTyped g w

abbrev pub StartedTyped : Type 0
StartedTyped =
    (g : Graph) (s : Script) (steps : List (List Label)) (w v : World) (labels : List Label) → IsTypedGraph g → Reaches g s (first_world g) steps w → is_instantiated w.tasks ≡ false
    → next g s w ≡ Steps labels v → IsDoomed v.control ⊎ IsTyped g v

-- Where definitions stay apart, instantiation is never stuck.
abbrev pub StartsGoOn : Type 0
StartsGoOn =
    (g : Graph) (s : Script) (steps : List (List Label)) (w : World) → IsApart g → IsTypedGraph g → Reaches g s (first_world g) steps w → is_instantiated w.tasks ≡ false → HasNext (next g s w)
