-- Where lowerings ask for places (Component Model, CanonicalABI.md, "Canonical ABI Options": `realloc`, "Storing", "Flat Lowering"): only where a function
-- gives them. So of what rules look up rules for core code are left, the word of a realloc, and what a blocked task's copy waits at.
use Rattle.std.specs.Prelude.{◌≡◌, ℕ, Bool, true, false, List, Option, IsSome}
use Rattle.syntax_trees.specs.declared.value.Value.{Value, fold-Value}
use Rattle.syntax_trees.specs.declared.value.Value.TheOpen.{Value-F}
use Rattle.syntax_trees.specs.Ends.{some_true, part_true}
use Rattle.comp_graph.specs.Graph.{Graph}
use Rattle.script_reader.specs.Script.{Script}
use Rattle.trace_labels.specs.declared.label.Label.{Label}
use Rattle.abi_machine.specs.LoweringOver.{Plan, Gives, Fails, Asks, Size, Put, Adds}
use Rattle.abi_machine.specs.Control.{Behind, InLowering, BeforeLeaving, Control, Free, Runs, Lowers, Quiet}
use Rattle.abi_machine.specs.World.{World, first_world}
use Rattle.abi_machine.specs.Edits.{with_control}
use Rattle.abi_machine.specs.Reading.{is_instantiated}
use Rattle.abi_machine.specs.Next.{next}
use Rattle.abi_machine.specs.Run.{Reaches}
use Rattle.abi_machine.specs.sound.Owners.{IsApart}
use Rattle.abi_machine.specs.sound.MadeInstances.{IsTypedGraph}
use Rattle.abi_machine.specs.sound.Callees.{IsUsedGraph}
use Rattle.abi_machine.specs.sound.GoingOn.{HasNext, RunsOn, HostedOn}
use Rattle.abi_machine.specs.sound.Scripts.{IsScriptFor}

-- whether a value holds a string or a list
abbrev pub text_step : Value-F Bool → Bool
text_step (Value-F.String text) = true
text_step (Value-F.List all) = true
text_step (Value-F.Record all) = some_true all
text_step (Value-F.Variant n payload) = part_true payload
text_step other = false

abbrev pub holds_text : Value → Bool
holds_text = fold-Value Bool text_step

-- Whatever is answered, a plan asks for a place only where this holds.
abbrev pub AsksWhere : Type 0 → Plan → Type 0
AsksWhere A (Gives words) = Unit {0}
AsksWhere A (Fails why) = Unit {0}
AsksWhere A (Asks ask k) = A × ((place : ℕ) → AsksWhere A (k place))
AsksWhere A (Size k) = (count : ℕ) → AsksWhere A (k count)
AsksWhere A (Put place bytes k) = AsksWhere A k
AsksWhere A (Adds entry k) = (index : Option ℕ) → AsksWhere A (k index)

-- A lowering asks only where it has a function that gives places, and so does one that goes on behind a realloc.
abbrev pub BehindAsks : Behind → Type 0
BehindAsks (InLowering l k) = (place : ℕ) → AsksWhere (IsSome l.realloc) (k place)
BehindAsks BeforeLeaving = Unit {0}

abbrev pub AsksWell : Control → Type 0
AsksWell (Lowers l plan) = AsksWhere (IsSome l.realloc) plan
AsksWell (Quiet n b) = BehindAsks b
AsksWell control = Unit {0}

-- So it is in each world that is reached, of a graph that has what it uses and a script for it.
abbrev pub PlacesAreGiven : Type 0
PlacesAreGiven =
    (g : Graph) (s : Script) (steps : List (List Label)) (w : World) → IsApart g → IsTypedGraph g → IsUsedGraph g → IsScriptFor g s → Reaches g s (first_world g) steps w
    → AsksWell w.control

-- what is left
abbrev pub IsCoreFed : Control → World → Type 0
IsCoreFed Runs w = RunsOn w
IsCoreFed (Quiet n b) w = HostedOn b w.store n.state
IsCoreFed control w = Unit {0}

abbrev pub PlacesGoOn : Type 0
PlacesGoOn =
    (g : Graph) (s : Script) (steps : List (List Label)) (w : World) → IsApart g → IsTypedGraph g → IsUsedGraph g → IsScriptFor g s → Reaches g s (first_world g) steps w
    → (is_instantiated w.tasks ≡ true → IsCoreFed w.control (with_control Free w)) → HasNext (next g s w)
