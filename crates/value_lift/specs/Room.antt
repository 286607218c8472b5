-- What has to be there before a value is lifted: the bytes of the type's size, so those of its parts; as many core values as stand
-- for the type, so those of its parts.
use Rattle.std.specs.Prelude.{◌≡◌, ◌≤◌, ℕ, ◌+◌, List, [], ◌∷◌, length, Option, Some, None}
use Rattle.syntax_trees.specs.declared.types.ValType.{ValType}
use Rattle.laid_types.specs.Layout.{laid, tag_size}
use Rattle.syntax_trees.specs.Flat.{flat}
use Rattle.laid_types.specs.Parts.{part_at, case_count, payload_place}
pub use Rattle.laid_types.specs.Placing.{end_behind}

-- the number of the case, and each payload
pub record HasCaseRoom (type : ValType) (place : ℕ) (memory : List ℕ) : Type 0 where
  pub tag : place + tag_size (case_count type) ≤ length memory
  pub payload : (n : ℕ) (p : ValType) → part_at type n ≡ Some p → place + payload_place type + (laid p).size ≤ length memory

-- where the core values of parts end, the first of which begin at a place
abbrev pub words_behind : ℕ → List (Option ValType) → ℕ
words_behind at [] = at
words_behind at (None ∷ types) = words_behind at types
words_behind at (Some t ∷ types) = words_behind (at + length (flat t)) types

-- the number of the case, and each payload, in core values
pub record HasCaseWords (type : ValType) (at : ℕ) (words : List ℕ) : Type 0 where
  pub tag : at + 1 ≤ length words
  pub payload : (n : ℕ) (p : ValType) → part_at type n ≡ Some p → at + 1 + length (flat p) ≤ length words
