-- Writable ends (Component Model, CanonicalABI.md, "Stream State" and "Future State", `canon stream.new`, `canon stream.drop-writable`, `lift_stream`):
-- each stands in one table at most, at one index, is of a stream or a future that was made, and was not dropped. Only readable ends are passed.
use Rattle.std.specs.Prelude.{◌≡◌, ◌≤◌, ◌⊎◌, ℕ, false, List, length, Option, Some}
use Rattle.std.specs.List.{slice_get}
use Rattle.handle_table.specs.History.{live}
use Rattle.builtin_kinds.specs.declared.EndKind.{EndKind}
use Rattle.builtin_kinds.specs.declared.EndKind.TheVariants.{Stream, Future}
use Rattle.stream_ends.specs.declared.side.Side.{Side}
use Rattle.stream_ends.specs.declared.side.Side.TheVariants.{Reader, Writer}
use Rattle.stream_ends.specs.Ends.{end_at}
use Rattle.abi_machine.specs.Control.{EndRef}
use Rattle.abi_machine.specs.World.{Entry, OfEnd, Inst, Channel, World}
use Rattle.abi_machine.specs.Reading.{table_in, numbered}

-- An end stands at an index of the table of an instance; or in none.
abbrev pub EndStandsAt : List Inst → ℕ → ℕ → EndRef → Type 0
EndStandsAt insts i index e = live (table_in (slice_get insts i)) index ≡ Some (OfEnd e)

abbrev pub EndStandsNowhere : List Inst → EndRef → Type 0
EndStandsNowhere insts e = (i index : ℕ) → EndStandsAt insts i index e → ⊥

-- the stream or the future of a number, among these streams and futures
abbrev pub channel_in : EndKind → ℕ → List Channel → List Channel → Option Channel
channel_in Stream number streams futures = numbered streams number
channel_in Future number streams futures = numbered futures number

-- how many streams, or futures, were made
abbrev pub made_count : EndKind → List Channel → List Channel → ℕ
made_count Stream streams futures = length streams
made_count Future streams futures = length futures

-- The end of this side of the stream or the future of a number was not dropped; and so an end was not.
abbrev pub LiveAt : EndKind → ℕ → Side → List Channel → List Channel → Type 0
LiveAt kind number side streams futures = (c : Channel) × (channel_in kind number streams futures ≡ Some c) × ((end_at side c.ends.view).dropped ≡ false)

abbrev pub IsLive : EndRef → List Channel → List Channel → Type 0
IsLive e streams futures = LiveAt e.kind e.number e.side streams futures

pub record WritersStand (insts : List Inst) (streams futures : List Channel) : Type 0 where
  pub once : (i index j other : ℕ) (e : EndRef) → e.side ≡ Writer → EndStandsAt insts i index e → EndStandsAt insts j other e → (i ≡ j) × (index ≡ other)
  pub made : (i index : ℕ) (e : EndRef) → e.side ≡ Writer → EndStandsAt insts i index e → e.number ≤ made_count e.kind streams futures
  pub live : (i index : ℕ) (e : EndRef) → e.side ≡ Writer → EndStandsAt insts i index e → IsLive e streams futures

abbrev pub WritersStandOnce : World → Type 0
WritersStandOnce w = WritersStand w.insts w.streams w.futures

-- An end that is added is readable, or of what was made, stands nowhere and was not dropped.
abbrev pub IsFreshEnd : World → Entry → Type 0
IsFreshEnd w (OfEnd e) = (e.side ≡ Reader) ⊎ ((e.number ≤ made_count e.kind w.streams w.futures) × EndStandsNowhere w.insts e × IsLive e w.streams w.futures)
IsFreshEnd w entry = Unit {0}
