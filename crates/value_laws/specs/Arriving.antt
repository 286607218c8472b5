-- What is lowered beside a table arrives (Component Model, CanonicalABI.md, "Storing", "Flat Lowering"): where the places that reallocs
-- answer lie apart, a plain value stands at its place, or in its core values, whose indices name in the table what the lowered value had.
use Rattle.std.specs.Prelude.{◌≡◌, ◌<◌, ℕ, true, List, [], ◌∷◌, length, Option, Result}
use Rattle.syntax_trees.specs.declared.types.ValType.{ValType}
use Rattle.syntax_trees.specs.declared.value.Value.{Value}
use Rattle.syntax_trees.specs.Fits.{fits}
use Rattle.handle_table.specs.History.{Event}
use Rattle.handle_table.specs.Slots.{Slots, StandsFor}
use Rattle.value_lift.specs.Stored.{IsStored, AreStored, IsFlattened}
use Rattle.value_lower.specs.declared.ends.RoomEnd.{RoomEnd}
use Rattle.value_lower.specs.Plan.{Ask, New, Plan}
use Rattle.value_lower.specs.Following.{Rooms}
use Rattle.value_lower.specs.Entering.{stored, all_stored, placed, flat_lowered}
use Rattle.value_lower.specs.Fitting.{AllFit}
use Rattle.value_lower.specs.Tables.{entered, gets}
use Rattle.lowering_laws.specs.Settling.{Answer}
use Rattle.lowering_laws.specs.ApartPlaces.{Region, Apart}
use Rattle.lowering_laws.specs.Values.{InRange, AllInRange}
use Rattle.lowering_laws.specs.ValueLaws.{target, list_target, IsPlaced}
use Rattle.lowering_laws.specs.ValueRooms.{FollowsOver}
use Rattle.value_laws.specs.Carrying.{Carries, AllCarry}

-- Rooms that have this table: a realloc and a store leave it as it is, and an entry gets the next index.
pub record HasTable {R T E : Type 0} (rooms : Rooms R T) (slots : R → Slots E) (is : New → E → Type 0) : Type 0 where
  pub answered : (r s : R) (ask : Ask) (result : Result ℕ (RoomEnd T)) → rooms.answers r ask result s → slots s ≡ slots r
  pub wrote : (r s : R) (place : ℕ) (bytes : List ℕ) → rooms.wrote r place bytes s → slots s ≡ slots r
  pub added : (r s : R) (entry : New) (given : Option ℕ) → rooms.adds r entry given s → gets is (slots r) entry given (slots s)

-- A plain value stands so, and carries this one in these slots.
pub record Arrives {E : Type 0} (is : New → E → Type 0) (home : List ℕ) (type : ValType) (u : Value) (Stands : Value → Type 0) (s : Slots E) : Type 0 where
  pub value : Value
  pub stands : Stands value
  pub carries : Carries is home s type value u

-- The same of values of one type, in order.
pub record AllArrive {E : Type 0} (is : New → E → Type 0) (home : List ℕ) (type : ValType) (all : List Value) (Stand : List Value → Type 0) (s : Slots E) : Type 0 where
  pub values : List Value
  pub stand : Stand values
  pub carry : AllCarry is home s type values all

-- Wherever a plan is followed in rooms whose slots stand for a history, over answers that lie apart from some regions, so much holds then of the
-- memory, the slots and the core values.
abbrev pub Leaves : {R T E : Type 0} → Rooms R T → (R → Slots E) → Plan → List Region → (List ℕ → Slots E → List ℕ → Type 0) → Type 0
Leaves {R} {T} {E} rooms slots plan regions Holds =
    (h : List (Event E)) (r s : R) (over : List Answer) (given : List ℕ) → StandsFor h (slots r) → FollowsOver rooms plan r over given s → Apart regions over
    → Holds (rooms.memory s) (slots s) given

-- In an instance that defines these resources:
module _ {R T E : Type 0} (rooms : Rooms R T) (slots : R → Slots E) (is : New → E → Type 0) (home : List ℕ) where
  -- a value in its ranges that fits a type and is stored at a place arrives there,
  abbrev pub StoredArrive : Type 0
  StoredArrive =
      (type : ValType) (u : Value) (place : ℕ) → InRange u → fits u type ≡ true
      → Leaves rooms slots (stored (entered home) type u place) (target type place ∷ []) (λ after s given. Arrives is home type u (λ v. IsStored after place type v) s)

  -- values of a type that are stored one after the other arrive so,
  abbrev pub ListsArrive : Type 0
  ListsArrive =
      (type : ValType) (all : List Value) (place : ℕ) → 0 < length all → AllInRange all → AllFit all type
      → Leaves rooms slots (all_stored (entered home) type all place) (list_target type place all ∷ [])
      (λ after s given. AllArrive is home type all (λ values. AreStored after place type values) s)

  -- a value that is stored at a new place arrives there,
  abbrev pub PlacedArrive : Type 0
  PlacedArrive =
      (type : ValType) (u : Value) → InRange u → fits u type ≡ true
      → Leaves rooms slots (placed (entered home) type u) [] (λ after s given. Arrives is home type u (λ v. IsPlaced type v after given) s)

  -- and so it does in the core values that it is lowered into.
  abbrev pub LoweredArrive : Type 0
  LoweredArrive =
      (type : ValType) (u : Value) → InRange u → fits u type ≡ true
      → Leaves rooms slots (flat_lowered (entered home) type u) [] (λ after s given. Arrives is home type u (λ v. IsFlattened after type v given) s)
