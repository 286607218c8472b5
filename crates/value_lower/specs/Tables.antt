-- A room with the table of handles of the component instance whose memory it has (Component Model, CanonicalABI.md, "Storing", "Flat
-- Lowering", `lower_own`, `lower_borrow`, `lower_stream` and `lower_future`). Both are gone over together. A realloc and a store leave the
-- table as it is, and an entry leaves the room as it is.
use Rattle.std.specs.Prelude.{◌≡◌, ◌⊎◌, ℕ, ◌<◌, List, Option, Some, None, Result, Ok, Err, if◌then◌else◌}
use Rattle.std.specs.List.{slice_get}
use Rattle.syntax_trees.specs.declared.types.ValType.{ValType}
use Rattle.handle_table.specs.History.{most_live}
use Rattle.handle_table.specs.Slots.{Slots, count, next_of, added}
use Rattle.res_handles.specs.declared.handle.Handle.{Handle}
use Rattle.res_handles.specs.Calls.{own_handle, borrow_handle, is_defined}
use Rattle.res_handles.specs.declared.refusal.LowerError.{LowerError}
use Rattle.res_handles.specs.declared.refusal.LowerError.TheVariants as error
use Rattle.value_lower.specs.declared.ends.LowerWhy.TheVariants.{TableFull}
use Rattle.value_lower.specs.declared.ends.RoomEnd.{RoomEnd}
use Rattle.value_lower.specs.Plan.{Ask, New, NewOwn, NewBorrow, NewEnd, Plan, Fails, Adds}
use Rattle.value_lower.specs.Following.{Rooms, rooms_of}

-- how a plan goes on with the index that an entry gets, none where the table is full
abbrev pub with_index : (ℕ → Plan) → Option ℕ → Plan
with_index k (Some index) = k index
with_index k None = Fails TableFull

-- A borrow is told by its representation where the instance defines the resource, and all else is entered.
abbrev pub entered : List ℕ → New → (ℕ → Plan) → Plan
entered home (NewOwn resource rep) k = Adds (NewOwn resource rep) (with_index k)
entered home (NewBorrow resource rep) k = if is_defined resource home then k rep else Adds (NewBorrow resource rep) (with_index k)
entered home (NewEnd type number) k = Adds (NewEnd type number) (with_index k)

-- the entry of what is new: a borrow counts for this task, and the type of an end is told by its number among these
abbrev pub IsEntry : {E : Type 0} → (Handle → E) → (ℕ → ℕ → E) → ℕ → List ValType → New → E → Type 0
IsEntry made made_end task types (NewOwn resource rep) e = e ≡ made (own_handle resource rep)
IsEntry made made_end task types (NewBorrow resource rep) e = e ≡ made (borrow_handle resource rep task)
IsEntry made made_end task types (NewEnd type number) e = (at : ℕ) × (slice_get types at ≡ Some type) × (e ≡ made_end at number)

-- An entry gets the next index, or none where the table is full.
abbrev pub gets : {E : Type 0} → (New → E → Type 0) → Slots E → New → Option ℕ → Slots E → Type 0
gets {E} is s entry (Some index) t = (e : E) × is entry e × (count s < most_live) × (index ≡ next_of s) × (t ≡ added e s)
gets is s entry None t = (count s ≡ most_live) × (t ≡ s)

-- A call that lowers what is new answers the index with which plans go on, or the table is full.
abbrev pub IsLowered : {E : Type 0} → (New → E → Type 0) → List ℕ → New → Slots E → Result ℕ LowerError → Slots E → Type 0
IsLowered is home entry s (Ok index) t =
    (((k : ℕ → Plan) → entered home entry k ≡ k index) × (t ≡ s))
    ⊎ (((k : ℕ → Plan) → entered home entry k ≡ Adds entry (with_index k)) × gets is s entry (Some index) t)
IsLowered is home entry s (Err error.TableFull) t = ((k : ℕ → Plan) → entered home entry k ≡ Adds entry (with_index k)) × gets is s entry None t
IsLowered is home entry s (Err error.Memory) t = Unit {0}

-- A realloc and a store of the room, beside the table.
module _ {R E : Type 0} where
  abbrev pub memory_in : (R → List ℕ) → R × Slots E → List ℕ
  memory_in memory p = memory p.0

  abbrev pub answered : {T : Type 0} → (R → Ask → Result ℕ (RoomEnd T) → R → Type 0) → R × Slots E → Ask → Result ℕ (RoomEnd T) → R × Slots E → Type 0
  answered answers p ask result q = answers p.0 ask result q.0 × (q.1 ≡ p.1)

  abbrev pub put_in : (R → ℕ → List ℕ → R → Type 0) → R × Slots E → ℕ → List ℕ → R × Slots E → Type 0
  put_in wrote p place bytes q = wrote p.0 place bytes q.0 × (q.1 ≡ p.1)

  abbrev pub enters : (New → E → Type 0) → R × Slots E → New → Option ℕ → R × Slots E → Type 0
  enters is p entry given q = gets is p.1 entry given q.1 × (q.0 ≡ p.0)

-- What is said of a room with a table.
abbrev pub tabled : {R E T : Type 0} → (R → List ℕ) → (R → Ask → Result ℕ (RoomEnd T) → R → Type 0) → (R → ℕ → List ℕ → R → Type 0) → (New → E → Type 0)
    → Rooms (R × Slots E) T
tabled memory answers wrote is = rooms_of (memory_in memory) (answered answers) (put_in wrote) (enters is)
