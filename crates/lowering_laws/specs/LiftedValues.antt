-- What is lifted is of its type (Component Model, CanonicalABI.md, "Loading", "Flat Lifting"): a value that stands in a memory of bytes,
-- or for which core values stand, fits its type and is in its ranges.
use Rattle.std.specs.Prelude.{◌≡◌, ℕ, true, List, length, Ok}
use Rattle.syntax_trees.specs.declared.types.ValType.{ValType}
use Rattle.syntax_trees.specs.declared.value.Value.{Value}
use Rattle.syntax_trees.specs.Fits.{fits}
use Rattle.syntax_trees.specs.Flat.{flat}
use Rattle.value_lift.specs.declared.counting.LiftOf.{LiftOf}
use Rattle.value_lift.specs.Lifting.{load, load_list, lift_flat}
use Rattle.value_lift.specs.Standing.{Stands, AreElements}
use Rattle.value_lift.specs.Stored.{IsFlattened}
use Rattle.lowering_laws.specs.Values.{InRange, AllInRange, IsOf, AllAre, AreBytes}

-- A value of a type fits it, and is in its ranges;
abbrev pub ValuesOfTypesFit : Type 0
ValuesOfTypesFit = (type : ValType) (v : Value) → IsOf type v → (fits v type ≡ true) × InRange v

-- values of a type are in their ranges.
abbrev pub ValuesOfTypesAreInRange : Type 0
ValuesOfTypesAreInRange = (type : ValType) (all : List Value) → AllAre type all → AllInRange all

-- A value that stands in a memory of bytes is of its type,
abbrev pub StandingValuesAre : Type 0
StandingValuesAre = (type : ValType) (memory : List ℕ) (place : ℕ) (v : Value) → AreBytes memory → Stands memory place type v → IsOf type v

-- so are values that stand one after the other,
abbrev pub StandingListsAre : Type 0
StandingListsAre = (type : ValType) (memory : List ℕ) (place : ℕ) (all : List Value) → AreBytes memory → AreElements memory place type all → AllAre type all

-- and so is a value for which core values stand.
abbrev pub FlattenedValuesAre : Type 0
FlattenedValuesAre = (type : ValType) (memory words : List ℕ) (v : Value) → AreBytes memory → IsFlattened memory type v words → IsOf type v

-- So what is loaded is of its type,
abbrev pub LoadedValuesAre : Type 0
LoadedValuesAre = (what : LiftOf) (type : ValType) (memory : List ℕ) (place : ℕ) (v : Value) → AreBytes memory → load what type memory place ≡ Ok v → IsOf type v

-- as are so many values,
abbrev pub LoadedListsAre : Type 0
LoadedListsAre =
    (type : ValType) (memory : List ℕ) (place count : ℕ) (all : List Value) → AreBytes memory → load_list type memory place count ≡ Ok all → AllAre type all

-- and what is lifted from as many core values as stand for the type, whichever they are.
abbrev pub LiftedValuesAre : Type 0
LiftedValuesAre =
    (what : LiftOf) (type : ValType) (memory words : List ℕ) (v : Value) → AreBytes memory → length words ≡ length (flat type)
    → lift_flat what type memory words ≡ Ok v → IsOf type v
