-- Types with the numbers of their parts among types (Component Model, Explainer.md, "Type Definitions").
use Rattle.std.specs.Prelude.{◌≡◌, ℕ, List, map, Option, Some}
use Rattle.std.specs.List.{slice_get}
use Rattle.std.specs.Option.{option_map}
use Rattle.syntax_trees.specs.declared.types.ValType.{ValType}
use Rattle.laid_types.specs.Parts.{parts_of}
use Rattle.laid_types.specs.Layers.{AreThere, trees_of}

-- a type, and the numbers of its parts, by their places
pub record Known : Type 0 where
  pub val_type : ValType
  pub parts : List (Option ℕ)

abbrev pub types_of : List Known → List ValType
types_of entries = map (λ (k : Known). k.val_type) entries

-- The parts of a type stand at their numbers.
pub record Stands (types : List ValType) (k : Known) : Type 0 where
  pub there : AreThere types k.parts
  pub parts : trees_of types k.parts ≡ parts_of k.val_type

-- a type of this number, whose parts stand at theirs
abbrev pub HasNumber : List ValType → ℕ → Known → Type 0
HasNumber types number k = Stands types k × (slice_get types number ≡ Some k.val_type)

pub record AllStand (entries : List Known) : Type 0 where
  pub each : (number : ℕ) (k : Known) → slice_get entries number ≡ Some k → Stands (types_of entries) k

-- a type with its number among types
pub record Numbered : Type 0 where
  pub types : List ValType
  pub number : ℕ
  pub val_type : ValType

-- the type of a number, where there is one
abbrev pub numbered_at : List ValType → ℕ → Option Numbered
numbered_at types number = option_map (λ type. record { types = types; number = number; val_type = type }) (slice_get types number)
