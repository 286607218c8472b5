-- What holds of what is lowered (Component Model, CanonicalABI.md, "Storing", "Flat Lowering"): where places lie apart it stands, and
-- so it is what is loaded and lifted; and what lies beside is left alone.
use Rattle.std.specs.Prelude.{◌≡◌, ◌≤◌, ◌<◌, ◌*◌, ◌^◌, ℕ, true, List, [], ◌∷◌, map, length, Ok}
use Rattle.syntax_trees.specs.declared.types.ValType.{ValType}
use Rattle.syntax_trees.specs.declared.value.Value.{Value}
use Rattle.syntax_trees.specs.Fits.{fits}
use Rattle.laid_types.specs.Layout.{laid}
use Rattle.value_lift.specs.declared.counting.LiftOf.{LiftOf}
use Rattle.value_lift.specs.Lifting.{load, load_list, lift_flat, most}
use Rattle.value_lift.specs.Standing.{total, counts}
use Rattle.syntax_trees.specs.declared.core_type.CoreType.TheVariants.{I32}
use Rattle.syntax_trees.specs.Flat.{flat}
use Rattle.value_lift.specs.WordStanding.{AreWords}
use Rattle.value_lift.specs.Stored.{IsStored, AreStored, IsFlattened}
use Rattle.value_lower.specs.Lowering.{stored, all_stored, placed, flat_lowered}
use Rattle.lowering_laws.specs.Settling.{Answer, Settles}
use Rattle.lowering_laws.specs.ApartPlaces.{Region, Disjoint, Same, Apart}
use Rattle.lowering_laws.specs.Values.{InRange, IsOf, AllAre}

-- A value in its ranges that fits a type is of it.
abbrev pub FittingValuesAre : Type 0
FittingValuesAre = (type : ValType) (v : Value) → InRange v → fits v type ≡ true → IsOf type v

-- where a value of a type is stored
abbrev pub target : ValType → ℕ → Region
target type place = record { place = place; size = (laid type).size }

-- A value that was stored stands at its place.
abbrev pub StoredValuesStand : Type 0
StoredValuesStand =
    (type : ValType) (v : Value) (place : ℕ) (memory after words : List ℕ) (answers : List Answer) → IsOf type v
    → Settles (stored type v place) memory answers after words → Apart (target type place ∷ []) answers → IsStored after place type v

-- where values of a type are stored one after the other
abbrev pub list_target : ValType → ℕ → List Value → Region
list_target type place all = record { place = place; size = length all * (laid type).size }

-- Values that were stored one after the other stand there, where there is one at least.
abbrev pub StoredListsStand : Type 0
StoredListsStand =
    (type : ValType) (all : List Value) (place : ℕ) (memory after words : List ℕ) (answers : List Answer) → 0 < length all → AllAre type all
    → Settles (all_stored type all place) memory answers after words → Apart (list_target type place all ∷ []) answers → AreStored after place type all

-- The one core value is the place of a value.
pub record IsPlaced (type : ValType) (v : Value) (memory words : List ℕ) : Type 0 where
  pub place : ℕ
  pub words_are : words ≡ place ∷ []
  pub low : place < 2 ^ 32
  pub stored : IsStored memory place type v

-- A value that was stored at a new place stands at the place that is given.
abbrev pub PlacedValuesStand : Type 0
PlacedValuesStand =
    (type : ValType) (v : Value) (memory after words : List ℕ) (answers : List Answer) → IsOf type v → Settles (placed type v) memory answers after words → Apart [] answers
    → IsPlaced type v after words

-- What was stored is loaded, where it is not too large.
abbrev pub StoredValuesAreLoaded : Type 0
StoredValuesAreLoaded =
    (what : LiftOf) (type : ValType) (v : Value) (place : ℕ) (memory after words : List ℕ) (answers : List Answer) → IsOf type v
    → Settles (stored type v place) memory answers after words → Apart (target type place ∷ []) answers → counts v ≤ most what → load what type after place ≡ Ok v

-- So many values that were stored one after the other are loaded, where they are not too large.
abbrev pub StoredListsAreLoaded : Type 0
StoredListsAreLoaded =
    (type : ValType) (all : List Value) (place : ℕ) (memory after words : List ℕ) (answers : List Answer) → 0 < length all → AllAre type all
    → Settles (all_stored type all place) memory answers after words → Apart (list_target type place all ∷ []) answers → total (map counts all) ≤ 134217728
    → load_list type after place (length all) ≡ Ok all

-- The core values that a value was lowered into are of the type's core types, and stand for it.
abbrev pub LoweredWordsStand : Type 0
LoweredWordsStand =
    (type : ValType) (v : Value) (memory after words : List ℕ) (answers : List Answer) → IsOf type v → Settles (flat_lowered type v) memory answers after words → Apart [] answers
    → IsFlattened after type v words

-- Wherever places lie, these core values are of the type's core types,
abbrev pub LoweredWordsAreTyped : Type 0
LoweredWordsAreTyped =
    (type : ValType) (v : Value) (memory after words : List ℕ) (answers : List Answer) → IsOf type v → Settles (flat_lowered type v) memory answers after words
    → AreWords (flat type) words

-- and the one core value of a value that was stored at a new place is an i32.
abbrev pub PlacedWordsAreTyped : Type 0
PlacedWordsAreTyped =
    (type : ValType) (v : Value) (memory after words : List ℕ) (answers : List Answer) → Settles (placed type v) memory answers after words → AreWords (I32 ∷ []) words

-- What was lowered into core values is lifted from them, where it is not too large.
abbrev pub LoweredWordsAreLifted : Type 0
LoweredWordsAreLifted =
    (what : LiftOf) (type : ValType) (v : Value) (memory after words : List ℕ) (answers : List Answer) → IsOf type v → Settles (flat_lowered type v) memory answers after words → Apart [] answers
    → counts v ≤ most what → lift_flat what type after words ≡ Ok v

-- Bytes of a region that lies apart from some others and from what reallocs answered, and that they left alone, are as they were.
abbrev pub Stays : List Region → List Answer → List ℕ → List ℕ → Type 0
Stays targets answers memory after =
    (other : Region) → Disjoint targets other → Apart (other ∷ targets) answers → Same (other ∷ []) memory after

-- So it is with all that is beside the place where a value is stored,
abbrev pub StoresLeaveOthers : Type 0
StoresLeaveOthers =
    (type : ValType) (v : Value) (place : ℕ) (memory after words : List ℕ) (answers : List Answer) → IsOf type v
    → Settles (stored type v place) memory answers after words → Stays (target type place ∷ []) answers memory after

-- beside the places of values that are stored one after the other,
abbrev pub ListsLeaveOthers : Type 0
ListsLeaveOthers =
    (type : ValType) (all : List Value) (place : ℕ) (memory after words : List ℕ) (answers : List Answer) → AllAre type all
    → Settles (all_stored type all place) memory answers after words → Stays (list_target type place all ∷ []) answers memory after

-- with all that is there where a value is stored at a new place,
abbrev pub PlacedLeaveOthers : Type 0
PlacedLeaveOthers =
    (type : ValType) (v : Value) (memory after words : List ℕ) (answers : List Answer) → IsOf type v → Settles (placed type v) memory answers after words
    → Stays [] answers memory after

-- and with all that is there where a value is lowered into core values.
abbrev pub WordsLeaveOthers : Type 0
WordsLeaveOthers =
    (type : ValType) (v : Value) (memory after words : List ℕ) (answers : List Answer) → IsOf type v → Settles (flat_lowered type v) memory answers after words
    → Stays [] answers memory after
