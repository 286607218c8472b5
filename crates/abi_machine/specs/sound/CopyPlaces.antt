-- Where the elements of copies stand (Component Model, CanonicalABI.md, `canon stream.{read,write}`, `canon future.{read,write}`): the place of each copy
-- under way is an i32, and where elements hold anything and there are some, it is a multiple of their alignment and all of them lie inside the memory
-- of the canonical function. This asks that what core code calls is given words of its parameters, and that each store extends the one before.
use Rattle.std.specs.Prelude.{◌≡◌, ◌<◌, ◌≤◌, ◌^◌, ◌+◌, ◌*◌, ◌%◌, ℕ, List, length, Option, Some, None}
use Rattle.wasm_store.specs.Store.{Store}
use Rattle.wasm_store.specs.Typed.{Extends}
use Rattle.syntax_trees.specs.declared.types.ValType.{ValType}
use Rattle.laid_types.specs.Layout.{laid}
use Rattle.stream_ends.specs.declared.open_copy.OpenCopy.{OpenCopy}
use Rattle.stream_ends.specs.Ends.{end_at}
use Rattle.comp_graph.specs.declared.graph.Options.{Options}
use Rattle.comp_graph.specs.Graph.{Graph}
use Rattle.script_reader.specs.Script.{Script}
use Rattle.trace_labels.specs.declared.label.Label.{Label}
use Rattle.abi_machine.specs.Control.{EndRef}
use Rattle.abi_machine.specs.World.{Channel, World, first_world}
use Rattle.abi_machine.specs.Canons.{memory_of, bytes_of, options_at}
use Rattle.abi_machine.specs.Turn.{Steps}
use Rattle.abi_machine.specs.Next.{next}
use Rattle.abi_machine.specs.Run.{Reaches}
use Rattle.abi_machine.specs.sound.Agreeing.{channel_in}
use Rattle.abi_machine.specs.sound.Words.{CodePasses, ScriptPassesSmall, PassesEverywhere, WordsAreKept}

-- So many elements of a type from a place on, inside these bytes; and what is tested of elements, where they hold anything and there are some.
abbrev pub IsInside : ValType → ℕ → ℕ → List ℕ → Type 0
IsInside element place size bytes = (place % (laid element).align ≡ 0) × (place + size * (laid element).size ≤ length bytes)

abbrev pub IsTested : Store → Options → Option ValType → ℕ → ℕ → Type 0
IsTested s options None place size = Unit {0}
IsTested s options (Some element) place size = (size ≡ 0 → ⊥) → IsInside element place size (bytes_of s (memory_of s options))

-- a copy at an end of elements of this type
pub record StandsInside (g : Graph) (s : Store) (element : Option ValType) (copy : OpenCopy) : Type 0 where
  pub place : copy.place < 2 ^ 32
  pub inside : IsTested s (options_at g copy.canon) element copy.place copy.length

abbrev pub StandInside : Graph → Store → List Channel → List Channel → Type 0
StandInside g s streams futures =
    (e : EndRef) (c : Channel) (copy : OpenCopy) → channel_in e.kind e.number streams futures ≡ Some c → (end_at e.side c.ends.view).copy ≡ Some copy → StandsInside g s c.element copy

abbrev pub CopiesStandInside : Graph → World → Type 0
CopiesStandInside g w = StandInside g w.store w.streams w.futures

-- So it is in the first world, and so it stays in each step whose store extends the one before; so it is in each world that a run reaches then.
abbrev pub FirstStandInside : Type 0
FirstStandInside = (g : Graph) → CopiesStandInside g (first_world g)

abbrev pub CopiesStayInside : Type 0
CopiesStayInside =
    (g : Graph) (s : Script) (w v : World) (labels : List Label) → ScriptPassesSmall s → CodePasses g w.control → WordsAreKept g w → CopiesStandInside g w → next g s w ≡ Steps labels v
    → Extends w.store v.store → CopiesStandInside g v

abbrev pub ExtendsEverywhere : Graph → Script → Type 0
ExtendsEverywhere g s =
    (steps : List (List Label)) (w v : World) (labels : List Label) → Reaches g s (first_world g) steps w → next g s w ≡ Steps labels v → Extends w.store v.store

abbrev pub ReachedStandInside : Type 0
ReachedStandInside =
    (g : Graph) (s : Script) (steps : List (List Label)) (w : World) → ScriptPassesSmall s → PassesEverywhere g s → ExtendsEverywhere g s → Reaches g s (first_world g) steps w
    → CopiesStandInside g w
