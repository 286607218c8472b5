-- How far a plan of a lowering goes (Component Model, CanonicalABI.md, "Storing", "Flat Lowering", `lower_own`, `lower_borrow`,
-- `lower_stream` and `lower_future`): it is followed over the bytes of a memory and the table of an instance up to the next realloc, or
-- to its end.
use Rattle.std.specs.Prelude.{ℕ, nat_lt, Bool, if◌then◌else◌, List, [], ◌∷◌, length, Option, Some, None}
use Rattle.stream_ends.specs.declared.side.Side.TheVariants.{Reader}
use Rattle.handle_table.specs.History.{Event, live_count, most_live, next_index}
use Rattle.value_lower.specs.Plan.{Ask}
use Rattle.value_lower.specs.Following.{written}
use Rattle.abi_machine.specs.LoweringOver.{New, NewOwn, NewBorrow, NewEnd, Why, TableFull, Plan, Gives, Fails, Asks, Size, Put, Adds}
use Rattle.abi_machine.specs.World.{Entry, OwnHandle, BorrowHandle, OfEnd}
use Rattle.abi_machine.specs.Edits.{added}

-- A new entry, and what follows with its index. A borrow in the instance of its resource makes none: the representation stands for it.
abbrev pub with_index : (ℕ → Plan) → Option ℕ → Plan
with_index k None = Fails TableFull
with_index k (Some index) = k index

abbrev pub borrow_entered : Bool → ℕ → ℕ → (ℕ → Plan) → Plan
borrow_entered is_own resource rep k = if is_own then k rep else Adds (NewBorrow resource rep) (with_index k)

-- where the instance defines these resources
abbrev pub entries_by : (ℕ → Bool) → New → (ℕ → Plan) → Plan
entries_by is_own (NewOwn resource rep) k = Adds (NewOwn resource rep) (with_index k)
entries_by is_own (NewBorrow resource rep) k = borrow_entered (is_own resource) resource rep k
entries_by is_own (NewEnd kind number) k = Adds (NewEnd kind number) (with_index k)

-- the entry that is made for a task
abbrev pub entry_of : ℕ → New → Entry
entry_of t (NewOwn resource rep) = OwnHandle resource rep
entry_of t (NewBorrow resource rep) = BorrowHandle resource rep t
entry_of t (NewEnd kind number) = OfEnd (record { kind = kind; number = number; side = Reader })

-- whether a table has room, the index that an entry gets in it, and the table then
abbrev pub has_room : List (Event Entry) → Bool
has_room table = nat_lt (live_count table) most_live

abbrev pub index_in : List (Event Entry) → Option ℕ
index_in table = if has_room table then Some (next_index table) else None

abbrev pub with_new : Entry → List (Event Entry) → List (Event Entry)
with_new entry table = if has_room table then added entry table else table

-- where a plan pauses: at its core values, at the reason why it fails, or at a realloc, with how it goes on behind its answer
pub data Paused : Type 0 where
  Words : List ℕ → Paused
  Failed : Why → Paused
  Asked : Ask → (ℕ → Plan) → Paused

-- with the bytes of the memory and the table as they are then
pub record Settled : Type 0 where
  pub paused : Paused
  pub bytes : List ℕ
  pub table : List (Event Entry)

-- for the task for which entries are made
abbrev pub settle : ℕ → Plan → List ℕ → List (Event Entry) → Settled
settle t (Gives words) bytes table = record { paused = Words words; bytes = bytes; table = table }
settle t (Fails why) bytes table = record { paused = Failed why; bytes = bytes; table = table }
settle t (Asks ask k) bytes table = record { paused = Asked ask k; bytes = bytes; table = table }
settle t (Size k) bytes table = settle t (k (length bytes)) bytes table
settle t (Put place more k) bytes table = settle t k (written place more bytes) table
settle t (Adds entry k) bytes table = settle t (k (index_in table)) bytes (with_new (entry_of t entry) table)

-- the words that a realloc is called with
abbrev pub ask_words : Ask → List ℕ
ask_words ask = ask.old ∷ ask.old_size ∷ ask.align ∷ ask.size ∷ []
