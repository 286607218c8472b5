-- Values that are stored in a memory, and values for which core values stand, with all that has to be said of the whole once (Component
-- Model, CanonicalABI.md, "Loading", "Storing", "Flat Lifting", "Flat Lowering"). `Stands` and `FlatOf` speak of a value and of its parts
-- alike, and leave it out.
use Rattle.std.specs.Prelude.{◌≡◌, ◌≤◌, ◌+◌, ◌*◌, ◌%◌, ℕ, List, length}
use Rattle.syntax_trees.specs.declared.types.ValType.{ValType}
use Rattle.syntax_trees.specs.declared.value.Value.{Value}
use Rattle.laid_types.specs.Layout.{laid}
use Rattle.syntax_trees.specs.Flat.{flat}
use Rattle.value_lift.specs.Standing.{Stands, AreElements}
use Rattle.value_lift.specs.WordStanding.{AreWords, FlatOf}

-- A value stands at a place, which is a multiple of its alignment, with all its bytes inside.
pub record IsStored (memory : List ℕ) (place : ℕ) (type : ValType) (v : Value) : Type 0 where
  pub aligned : place % (laid type).align ≡ 0
  pub inside : place + (laid type).size ≤ length memory
  pub stands : Stands memory place type v

-- Values stand one after the other from a place, which is a multiple of their alignment, with all their bytes inside.
pub record AreStored (memory : List ℕ) (place : ℕ) (type : ValType) (all : List Value) : Type 0 where
  pub aligned : place % (laid type).align ≡ 0
  pub inside : place + length all * (laid type).size ≤ length memory
  pub stand : AreElements memory place type all

-- Core values, which are of the type's core types, stand for a value, over a memory.
pub record IsFlattened (memory : List ℕ) (type : ValType) (v : Value) (words : List ℕ) : Type 0 where
  pub typed : AreWords (flat type) words
  pub stands : FlatOf memory type v words
