-- The answers that a room's reallocs give while a plan is followed, and what holds of the room then (Component Model,
-- CanonicalABI.md, "Storing", "Flat Lowering").
use Rattle.std.specs.Prelude.{◌≡◌, ◌<◌, ℕ, true, List, [], ◌∷◌, length, Option}
use Rattle.syntax_trees.specs.declared.types.ValType.{ValType}
use Rattle.syntax_trees.specs.declared.value.Value.{Value}
use Rattle.syntax_trees.specs.Fits.{fits}
use Rattle.syntax_trees.specs.declared.core_type.CoreType.TheVariants.{I32}
use Rattle.syntax_trees.specs.Flat.{flat}
use Rattle.value_lift.specs.WordStanding.{AreWords}
use Rattle.value_lift.specs.Stored.{IsStored, AreStored, IsFlattened}
use Rattle.value_lower.specs.Plan.{Plan, Gives, Fails, Asks, Size, Put, Adds}
use Rattle.value_lower.specs.Following.{Rooms, Follows, Words, Answered, Wrote, Entered}
use Rattle.value_lower.specs.Lowering.{stored, all_stored, placed, flat_lowered}
use Rattle.value_lower.specs.Fitting.{AllFit}
use Rattle.lowering_laws.specs.ApartPlaces.{Region, Apart}
use Rattle.lowering_laws.specs.Values.{InRange, AllInRange}
use Rattle.lowering_laws.specs.ValueLaws.{target, list_target, IsPlaced}
use Rattle.lowering_laws.specs.Settling.{Answer, Settles}

-- From this room the plan comes to these core values, and leaves that room, and these are the answers on the way.
abbrev pub FollowsOver : {R T : Type 0} → Rooms R T → Plan → R → List Answer → List ℕ → R → Type 0
FollowsOver rooms (Gives words) r over given s = (over ≡ []) × (given ≡ words) × (s ≡ r)
FollowsOver rooms (Fails why) r over given s = ⊥
FollowsOver {R} {T} rooms (Asks ask k) r over given s =
    (place : ℕ) × (mid : R) × (rest : List Answer) × (over ≡ record { asked = ask; place = place; before = rooms.memory r; after = rooms.memory mid } ∷ rest)
    × Answered rooms r ask place mid × FollowsOver rooms (k place) mid rest given s
FollowsOver rooms (Size k) r over given s = FollowsOver rooms (k (length (rooms.memory r))) r over given s
FollowsOver {R} rooms (Put place bytes k) r over given s =
    (mid : R) × Wrote rooms r place bytes mid × FollowsOver rooms k mid over given s
FollowsOver {R} rooms (Adds entry k) r over given s =
    (index : Option ℕ) × (mid : R) × Entered rooms r entry index mid × FollowsOver rooms (k index) mid over given s

-- A plan that is followed to its core values is followed over some answers;
abbrev pub FollowedOver : {R T : Type 0} → Rooms R T → Type 0
FollowedOver {R} {T} rooms =
    (plan : Plan) (r s : R) (given : List ℕ) → Follows rooms plan r (Words given) s
    → (over : List Answer) × FollowsOver rooms plan r over given s

-- and so it goes in the room's memory.
abbrev pub FollowedSettle : {R T : Type 0} → Rooms R T → Type 0
FollowedSettle {R} {T} rooms =
    (plan : Plan) (r s : R) (over : List Answer) (given : List ℕ) → FollowsOver rooms plan r over given s
    → Settles plan (rooms.memory r) over (rooms.memory s) given

-- Wherever a plan is followed in a room over answers that lie apart from some regions, so much holds then of the memory and the core
-- values.
abbrev pub Leaves : {R T : Type 0} → Rooms R T → Plan → List Region → (List ℕ → List ℕ → Type 0) → Type 0
Leaves {R} {T} rooms plan regions Holds =
    (r s : R) (over : List Answer) (given : List ℕ) → FollowsOver rooms plan r over given s → Apart regions over → Holds (rooms.memory s) given

-- A value in its ranges that fits a type and is stored in a room stands at its place,
abbrev pub StoredStand : {R T : Type 0} → Rooms R T → Type 0
StoredStand rooms =
    (type : ValType) (v : Value) (place : ℕ) → InRange v → fits v type ≡ true
    → Leaves rooms (stored type v place) (target type place ∷ []) (λ after given. IsStored after place type v)

-- values of a type that are stored one after the other stand so,
abbrev pub ListsStand : {R T : Type 0} → Rooms R T → Type 0
ListsStand rooms =
    (type : ValType) (all : List Value) (place : ℕ) → 0 < length all → AllInRange all → AllFit all type
    → Leaves rooms (all_stored type all place) (list_target type place all ∷ []) (λ after given. AreStored after place type all)

-- a value that is stored at a new place stands there,
abbrev pub PlacedStand : {R T : Type 0} → Rooms R T → Type 0
PlacedStand rooms =
    (type : ValType) (v : Value) → InRange v → fits v type ≡ true
    → Leaves rooms (placed type v) [] (λ after given. IsPlaced type v after given)

-- and the core values that it is lowered into stand for it.
abbrev pub LoweredStand : {R T : Type 0} → Rooms R T → Type 0
LoweredStand rooms =
    (type : ValType) (v : Value) → InRange v → fits v type ≡ true
    → Leaves rooms (flat_lowered type v) [] (λ after given. IsFlattened after type v given)

-- Whatever is answered, the core values that a value is lowered into are of the type's core types,
abbrev pub LoweredAreTyped : {R T : Type 0} → Rooms R T → Type 0
LoweredAreTyped {R} {T} rooms =
    (type : ValType) (v : Value) (r s : R) (given : List ℕ) → InRange v → fits v type ≡ true
    → Follows rooms (flat_lowered type v) r (Words given) s → AreWords (flat type) given

-- and the one core value of a value that is stored at a new place is an i32.
abbrev pub PlacedAreTyped : {R T : Type 0} → Rooms R T → Type 0
PlacedAreTyped {R} {T} rooms =
    (type : ValType) (v : Value) (r s : R) (given : List ℕ) → Follows rooms (placed type v) r (Words given) s → AreWords (I32 ∷ []) given
