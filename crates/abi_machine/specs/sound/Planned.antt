-- Plans of lowerings (Component Model, CanonicalABI.md, "Storing", "Flat Lowering"): over a memory of so many bytes, what a plan puts are bytes inside,
-- it asks for places with words, what it adds has a representation below 2^32, and whatever is answered, what it gives has a property.
use Rattle.std.specs.Prelude.{◌≡◌, ◌<◌, ◌≤◌, ◌+◌, ◌^◌, ℕ, List, length, Some, None}
use Rattle.std.specs.List.{AllByRecursion}
use Rattle.wasm_numbers.specs.Types.{AreWords}
use Rattle.handle_table.specs.History.{Event, Add, Remove}
use Rattle.comp_graph.specs.Needs.{realloc_type}
use Rattle.lowering_laws.specs.Values.{AreBytes}
use Rattle.abi_machine.specs.LoweringOver.{New, NewOwn, NewBorrow, NewEnd, Plan, Gives, Fails, Asks, Size, Put, Adds}
use Rattle.abi_machine.specs.World.{Entry, Inst}
use Rattle.abi_machine.specs.Pausing.{Paused, Words, Failed, Asked, Settled, ask_words}
use Rattle.abi_machine.specs.sound.Answers.{HasRep}

abbrev pub HasLowRep : New → Type 0
HasLowRep (NewOwn resource rep) = rep < 2 ^ 32
HasLowRep (NewBorrow resource rep) = rep < 2 ^ 32
HasLowRep (NewEnd kind number) = Unit {0}

abbrev pub IsPlanned : (List ℕ → Type 0) → ℕ → Plan → Type 0
IsPlanned Q count (Gives words) = Q words
IsPlanned Q count (Fails why) = Unit {0}
IsPlanned Q count (Asks ask k) = AreWords realloc_type.params (ask_words ask) × ((place later : ℕ) → place < 2 ^ 32 → count ≤ later → IsPlanned Q later (k place))
IsPlanned Q count (Size k) = IsPlanned Q count (k count)
IsPlanned Q count (Put place bytes k) = AreBytes bytes × (place + length bytes ≤ count) × IsPlanned Q count k
IsPlanned Q count (Adds entry k) = HasLowRep entry × IsPlanned Q count (k None) × ((index : ℕ) → index < 2 ^ 32 → IsPlanned Q count (k (Some index)))

-- what all entries name that were ever added to tables
abbrev pub EventHasRep : Event Entry → Type 0
EventHasRep (Add index entry) = HasRep entry
EventHasRep (Remove index) = Unit {0}

abbrev pub HaveReps : List Inst → Type 0
HaveReps insts = AllByRecursion (λ inst. AllByRecursion EventHasRep inst.table) insts

-- How far a plan goes, over bytes and a table: what it pauses at, with as many bytes as before, and entries of such representations.
abbrev pub PausesAt : (List ℕ → Type 0) → ℕ → Paused → Type 0
PausesAt Q count (Words words) = Q words
PausesAt Q count (Failed why) = Unit {0}
PausesAt Q count (Asked ask k) = AreWords realloc_type.params (ask_words ask) × ((place later : ℕ) → place < 2 ^ 32 → count ≤ later → IsPlanned Q later (k place))

pub record IsSettled (Q : List ℕ → Type 0) (bytes : List ℕ) (s : Settled) : Type 0 where
  pub pauses : PausesAt Q (length bytes) s.paused
  pub long : length s.bytes ≡ length bytes
  pub are : AreBytes s.bytes
  pub reps : AllByRecursion EventHasRep s.table
