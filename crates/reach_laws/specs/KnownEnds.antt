-- Ends of streams and futures (Component Model, CanonicalABI.md, "Stream State" and "Future State", `canon stream.drop-{readable,writable}`): in each
-- world that a run reaches one stands at one index of one table at most, and was not dropped where it does.
use Rattle.std.specs.Prelude.{◌≡◌, ℕ, false, List, Some}
use Rattle.comp_graph.specs.Graph.{Graph}
use Rattle.script_reader.specs.Script.{Script}
use Rattle.trace_labels.specs.declared.label.Label.{Label}
use Rattle.abi_machine.specs.Control.{EndRef}
use Rattle.abi_machine.specs.World.{OfEnd, World, first_world}
use Rattle.abi_machine.specs.Reading.{entry_at}
use Rattle.abi_machine.specs.Counting.{end_of}
use Rattle.abi_machine.specs.Run.{Reaches}
use Rattle.abi_machine.specs.sound.EndsPassed.{ScriptPassesNoEnd}
use Rattle.abi_machine.specs.sound.Owners.{IsApart}

-- An end stands once in all tables together.
abbrev pub EndsStandOnce : World → Type 0
EndsStandOnce w =
    (at index n m : ℕ) (e d : EndRef) → entry_at w at index ≡ Some (OfEnd e) → entry_at w n m ≡ Some (OfEnd d) → d.kind ≡ e.kind → d.number ≡ e.number → d.side ≡ e.side
    → (at ≡ n) × (index ≡ m)

-- And it was not dropped.
pub record EndsAreKnown (w : World) : Type 0 where
  pub once : EndsStandOnce w
  pub live : (at index : ℕ) (e : EndRef) → entry_at w at index ≡ Some (OfEnd e) → (end_of w e).dropped ≡ false

abbrev pub ReachedEndsAreKnown : Type 0
ReachedEndsAreKnown = (g : Graph) (s : Script) (steps : List (List Label)) (w : World) → IsApart g → ScriptPassesNoEnd s → Reaches g s (first_world g) steps w → EndsAreKnown w
