-- What holds of plans alone.
use Rattle.std.specs.Prelude.{◌≡◌, ℕ, true, List, length, Option, Result}
use Rattle.syntax_trees.specs.declared.types.ValType.{ValType}
use Rattle.syntax_trees.specs.declared.value.Value.{Value}
use Rattle.syntax_trees.specs.Fits.{fits}
use Rattle.syntax_trees.specs.Flat.{flat}
use Rattle.value_lower.specs.declared.ends.RoomEnd.{RoomEnd}
use Rattle.value_lower.specs.Plan.{Ask, New, Plan}
use Rattle.value_lower.specs.Following.{Rooms, untabled, Came, Words, Follows}
use Rattle.laid_types.specs.SameTypes.{AreDistinct}
use Rattle.res_handles.specs.declared.handle.Handle.{Handle}
use Rattle.value_lower.specs.Lowering.{flat_lowered}
use Rattle.value_lower.specs.Tables.{IsEntry, tabled}

-- A room gives one answer to each realloc, and is then one room.
abbrev pub AnswersOnce : {R T : Type 0} → (R → Ask → Result ℕ (RoomEnd T) → R → Type 0) → Type 0
AnswersOnce {R} {T} answers =
    (r : R) (ask : Ask) (one other : Result ℕ (RoomEnd T)) (s u : R) → answers r ask one s → answers r ask other u → (one ≡ other) × (s ≡ u)

-- A room is one room after each store.
abbrev pub WritesOnce : {R : Type 0} → (R → ℕ → List ℕ → R → Type 0) → Type 0
WritesOnce {R} wrote = (r : R) (place : ℕ) (bytes : List ℕ) (s u : R) → wrote r place bytes s → wrote r place bytes u → s ≡ u

-- A room gives an entry one index, or none, and is then one room.
abbrev pub AddsOnce : {R : Type 0} → (R → New → Option ℕ → R → Type 0) → Type 0
AddsOnce {R} adds = (r : R) (entry : New) (one other : Option ℕ) (s u : R) → adds r entry one s → adds r entry other u → (one ≡ other) × (s ≡ u)

-- Each plan comes to one thing, and leaves one room.
abbrev pub ComeToOne : {R T : Type 0} → Rooms R T → Type 0
ComeToOne {R} {T} rooms =
    (plan : Plan) (r : R) (one other : Came T) (s u : R) → Follows rooms plan r one s → Follows rooms plan r other u → (one ≡ other) × (s ≡ u)

-- So it is where a room without a table gives one answer to each realloc, and is one room after each store.
abbrev pub PlansComeToOne : {R T : Type 0} → (R → List ℕ) → (R → Ask → Result ℕ (RoomEnd T) → R → Type 0) → (R → ℕ → List ℕ → R → Type 0) → Type 0
PlansComeToOne memory answers wrote = AnswersOnce answers → WritesOnce wrote → ComeToOne (untabled memory answers wrote)

-- So it is over its table too, for any task, where no type stands twice among those by which ends are told.
abbrev pub TabledComeToOne : {R E T : Type 0} → (R → List ℕ) → (R → Ask → Result ℕ (RoomEnd T) → R → Type 0) → (R → ℕ → List ℕ → R → Type 0) → (Handle → E) → (ℕ → ℕ → E) → Type 0
TabledComeToOne memory answers wrote made made_end =
    (task : ℕ) (types : List ValType) → AreDistinct types → AnswersOnce answers → WritesOnce wrote
    → ComeToOne (tabled memory answers wrote (IsEntry made made_end task types))

-- Where a value of a type comes to core values, they are as many as stand for the type.
abbrev pub CoreValuesAreComplete : {R T : Type 0} → Rooms R T → Type 0
CoreValuesAreComplete {R} {T} rooms =
    (type : ValType) (v : Value) (r s : R) (words : List ℕ) → fits v type ≡ true
    → Follows rooms (flat_lowered type v) r (Words words) s → length words ≡ length (flat type)
