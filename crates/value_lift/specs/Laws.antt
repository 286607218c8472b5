-- What holds of lifting alone: what is lifted from a memory is what stands there, and nothing else is; where no value stands, it stops at
-- the first part that stands for nothing, and for its reason; so there is one value or one fault. The same of core values.
use Rattle.std.specs.Prelude.{◌≡◌, ◌≤◌, ◌<◌, ◌+◌, ◌-◌, ◌↔◌, ◌⊎◌, ℕ, List, map, length, Ok, Err}
use Rattle.syntax_trees.specs.declared.types.ValType.{ValType}
use Rattle.syntax_trees.specs.declared.value.Value.{Value}
use Rattle.value_lift.specs.declared.counting.LiftOf.{LiftOf}
use Rattle.value_lift.specs.declared.trap.LiftWhy.{LiftWhy}
use Rattle.syntax_trees.specs.Flat.{flat}
use Rattle.value_lift.specs.Answers.{trap}
use Rattle.value_lift.specs.Lifting.{lift, load, load_list, lift_flat, most}
use Rattle.value_lift.specs.Standing.{Stands, total, counts}
use Rattle.value_lift.specs.WordStanding.{AreWords}
use Rattle.value_lift.specs.Stored.{IsStored, AreStored, IsFlattened}
use Rattle.value_lift.specs.Failing.{Fails, LoadFails, LoadListFails}
use Rattle.value_lift.specs.WordFailing.{LiftFlatFails}

-- What is lifted stands there, and is counted.
abbrev pub LiftedValuesStand : Type 0
LiftedValuesStand =
    (type : ValType) (memory : List ℕ) (place left rest : ℕ) (v : Value)
    → lift type memory place left ≡ Ok (v, rest) → Stands memory place type v × (rest + counts v ≡ left)

-- What stands there is lifted, where so much may be counted.
abbrev pub StandingValuesAreLifted : Type 0
StandingValuesAreLifted =
    (type : ValType) (memory : List ℕ) (place left : ℕ) (v : Value)
    → Stands memory place type v → counts v ≤ left → lift type memory place left ≡ Ok (v, left - counts v)

-- A value that is stored at a place, and is not too large.
pub record IsLoaded (what : LiftOf) (type : ValType) (memory : List ℕ) (place : ℕ) (v : Value) : Type 0 where
  pub stored : IsStored memory place type v
  pub few : counts v ≤ most what

-- A value is loaded exactly where it is one.
abbrev pub LoadedValuesStand : Type 0
LoadedValuesStand =
    (what : LiftOf) (type : ValType) (memory : List ℕ) (place : ℕ) (v : Value) → (load what type memory place ≡ Ok v) ↔ IsLoaded what type memory place v

-- So many values that are stored one after the other from a place on, and are not too large.
pub record AreLoaded (type : ValType) (memory : List ℕ) (place count : ℕ) (all : List Value) : Type 0 where
  pub many : length all ≡ count
  pub stored : AreStored memory place type all
  pub few : total (map counts all) ≤ 134217728

-- Values are loaded one after the other exactly where they are such, where there is one at least.
abbrev pub LoadedListsStand : Type 0
LoadedListsStand =
    (type : ValType) (memory : List ℕ) (place count : ℕ) (all : List Value) → 0 < count → (load_list type memory place count ≡ Ok all) ↔ AreLoaded type memory place count all

-- A value that some core values stand for, and that is not too large.
pub record IsLifted (what : LiftOf) (type : ValType) (memory words : List ℕ) (v : Value) : Type 0 where
  pub flattened : IsFlattened memory type v words
  pub few : counts v ≤ most what

-- A value is lifted from core values, which are of the type's core types, exactly where it is one.
abbrev pub LiftedWordsStand : Type 0
LiftedWordsStand =
    (what : LiftOf) (type : ValType) (memory words : List ℕ) (v : Value) → AreWords (flat type) words
    → (lift_flat what type memory words ≡ Ok v) ↔ IsLifted what type memory words v

-- Lifting from a memory stops exactly where the value at the place fails, for the same reason and at the same spot.
abbrev pub FailingValuesStop : Type 0
FailingValuesStop =
    (type : ValType) (memory : List ℕ) (place left : ℕ) (why : LiftWhy) (spot : ℕ)
    → (lift type memory place left ≡ Err (trap why spot)) ↔ Fails memory place type left why spot

-- Loading a value stops exactly where it fails.
abbrev pub FailingLoadsStop : Type 0
FailingLoadsStop =
    (what : LiftOf) (type : ValType) (memory : List ℕ) (place : ℕ) (why : LiftWhy) (spot : ℕ)
    → (load what type memory place ≡ Err (trap why spot)) ↔ LoadFails what type memory place why spot

-- Loading values one after the other stops exactly where they fail.
abbrev pub FailingListsStop : Type 0
FailingListsStop =
    (type : ValType) (memory : List ℕ) (place count : ℕ) (why : LiftWhy) (spot : ℕ)
    → (load_list type memory place count ≡ Err (trap why spot)) ↔ LoadListFails type memory place count why spot

-- Lifting from core values, which are of the type's core types, stops exactly where they fail.
abbrev pub FailingWordsStop : Type 0
FailingWordsStop =
    (what : LiftOf) (type : ValType) (memory words : List ℕ) (why : LiftWhy) (spot : ℕ) → AreWords (flat type) words
    → (lift_flat what type memory words ≡ Err (trap why spot)) ↔ LiftFlatFails what type memory words why spot

-- There is one thing, or one fault, and never both.
pub record OneOrFault {A : Type 0} (Is : A → Type 0) (Faults : LiftWhy → ℕ → Type 0) : Type 0 where
  pub some : ((x : A) × Is x) ⊎ ((why : LiftWhy) × (spot : ℕ) × Faults why spot)
  pub one : (x y : A) → Is x → Is y → x ≡ y
  pub one_fault : (why other : LiftWhy) (spot place : ℕ) → Faults why spot → Faults other place → (why ≡ other) × (spot ≡ place)
  pub never_both : (x : A) (why : LiftWhy) (spot : ℕ) → Is x → Faults why spot → ⊥

-- So a place has one value of a type, or one fault;
abbrev pub OneIsLoaded : Type 0
OneIsLoaded = (what : LiftOf) (type : ValType) (memory : List ℕ) (place : ℕ) → OneOrFault (IsLoaded what type memory place) (LoadFails what type memory place)

-- it has one list of so many values, where that is one at least, or one fault;
abbrev pub OneListIsLoaded : Type 0
OneListIsLoaded =
    (type : ValType) (memory : List ℕ) (place count : ℕ) → 0 < count → OneOrFault (AreLoaded type memory place count) (LoadListFails type memory place count)

-- and core values, which are of the type's core types, have one value of the type, or one fault.
abbrev pub OneIsLifted : Type 0
OneIsLifted =
    (what : LiftOf) (type : ValType) (memory words : List ℕ) → AreWords (flat type) words
    → OneOrFault (IsLifted what type memory words) (LiftFlatFails what type memory words)
