-- Scripts for a graph (Component Model, Concurrency.md, "Summary"): each call names an export, with a value for each of its parameters that is of
-- its type, and each cancel names one of the calls before it, which are counted from 1. So what an item names is there where it is taken.
use Rattle.std.specs.Prelude.{◌≡◌, ◌≤◌, ◌+◌, ℕ, true, List, [], ◌∷◌, map, Some}
use Rattle.comp_graph.specs.Graph.{Graph, Lifted, func_named}
use Rattle.script_reader.specs.declared.script.Call.{Call}
use Rattle.script_reader.specs.declared.script.Item.{Item}
use Rattle.script_reader.specs.declared.script.Item.TheVariants as item
use Rattle.script_reader.specs.Script.{Script, AreOfTypes}
use Rattle.trace_labels.specs.declared.label.Label.{Label}
use Rattle.abi_machine.specs.Control.{Control, Runs, Lowers, Quiet, Free}
use Rattle.abi_machine.specs.World.{World, first_world}
use Rattle.abi_machine.specs.Edits.{with_control}
use Rattle.abi_machine.specs.Reading.{is_instantiated}
use Rattle.abi_machine.specs.Next.{next}
use Rattle.abi_machine.specs.Run.{Reaches}
use Rattle.abi_machine.specs.sound.Owners.{IsApart}
use Rattle.abi_machine.specs.sound.MadeInstances.{IsTypedGraph}
use Rattle.abi_machine.specs.sound.Callees.{IsUsedGraph}
use Rattle.abi_machine.specs.sound.GoingOn.{HasNext, IsNextThere, RunsOn, AsksOf, HostedOn}

pub record IsCallFor (g : Graph) (call : Call) : Type 0 where
  pub func : Lifted
  pub named : func_named g call.name ≡ Some func
  pub values : AreOfTypes (map (λ p. p.val_type) func.func_type.params) call.values

-- items behind so many calls
abbrev pub AreItemsFor : Graph → ℕ → List Item → Type 0
AreItemsFor g calls [] = Unit {0}
AreItemsFor g calls (item.Call call ∷ items) = IsCallFor g call × AreItemsFor g (calls + 1) items
AreItemsFor g calls (item.Cancel call ∷ items) = (1 ≤ call) × (call ≤ calls) × AreItemsFor g calls items

abbrev pub IsScriptFor : Graph → Script → Type 0
IsScriptFor g s = AreItemsFor g 0 s.items

-- What the next item names is there, in every world.
abbrev pub ItemsAreThere : Type 0
ItemsAreThere = (g : Graph) (s : Script) (w : World) → IsScriptFor g s → IsNextThere g s w

-- What is left, of a graph that has what it uses and a script for it.
abbrev pub IsFedStill : Control → World → Type 0
IsFedStill Runs w = RunsOn w
IsFedStill (Lowers l plan) w = AsksOf l plan w
IsFedStill (Quiet n b) w = HostedOn b w.store n.state
IsFedStill control w = Unit {0}

abbrev pub ScriptsGoOn : Type 0
ScriptsGoOn =
    (g : Graph) (s : Script) (steps : List (List Label)) (w : World) → IsApart g → IsTypedGraph g → IsUsedGraph g → IsScriptFor g s → Reaches g s (first_world g) steps w
    → (is_instantiated w.tasks ≡ true → IsFedStill w.control (with_control Free w)) → HasNext (next g s w)
