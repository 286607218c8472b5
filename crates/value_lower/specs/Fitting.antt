-- What has to be there before a value is stored: the bytes of its type's size, so those of its parts; and that its parts are of the
-- types of their places.
use Rattle.std.specs.Prelude.{◌≡◌, ◌≢◌, ◌≤◌, ◌<◌, ◌^◌, ◌%◌, ℕ, ◌+◌, true, List, length, Option, Some}
use Rattle.std.specs.List.{slice_get}
use Rattle.syntax_trees.specs.declared.types.ValType.{ValType}
use Rattle.syntax_trees.specs.declared.value.Value.{Value}
use Rattle.syntax_trees.specs.Fits.{fits}
use Rattle.syntax_trees.specs.Flat.{flat}
use Rattle.laid_types.specs.Layout.{laid, tag_size}
use Rattle.laid_types.specs.Parts.{part_at, case_count, payload_place}
pub use Rattle.laid_types.specs.Placing.{end_behind}
use Rattle.value_lower.specs.declared.ends.LowerWhy.{LowerWhy}
use Rattle.value_lower.specs.declared.ends.LowerWhy.TheVariants.{Misaligned, Bounds, TableFull}

-- So many bytes from a place on are inside a memory of this length, and below 2^32.
pub record HasBytes (place size there : ℕ) : Type 0 where
  pub inside : place + size ≤ there
  pub reach : place + size ≤ 2 ^ 32

-- the number of the case, and each payload
pub record HasCaseBytes (type : ValType) (place there : ℕ) : Type 0 where
  pub tag : HasBytes place (tag_size (case_count type)) there
  pub payload : (n : ℕ) (p : ValType) → part_at type n ≡ Some p → HasBytes (place + payload_place type) (laid p).size there

-- Each of some values is of this type.
abbrev pub AllFit : List Value → ValType → Type 0
AllFit all type = (n : ℕ) (v : Value) → slice_get all n ≡ Some v → fits v type ≡ true

-- Each of some values is of the type of the part at its place.
abbrev pub EachFits : List Value → ValType → Type 0
EachFits all type = (n : ℕ) (v : Value) (p : ValType) → slice_get all n ≡ Some v → part_at type n ≡ Some p → fits v p ≡ true

-- A payload, where there is one, is of the type of a case.
abbrev pub PayloadFits : Option Value → ValType → ℕ → Type 0
PayloadFits payload type n = (v : Value) (p : ValType) → payload ≡ Some v → part_at type n ≡ Some p → fits v p ≡ true

-- Why a place is refused: it is no multiple of the alignment, or, where it is one, not all bytes are inside.
abbrev pub IsRefused : ℕ → ℕ → ℕ → ℕ → LowerWhy → Type 0
IsRefused place align size there Misaligned = place % align ≢ 0
IsRefused place align size there Bounds = (place % align ≡ 0) × (there < place + size) × (there ≤ 2 ^ 32)
IsRefused place align size there TableFull = ⊥

-- Each part of a type has at most 16 core values.
abbrev pub FewParts : ValType → Type 0
FewParts type = (n : ℕ) (p : ValType) → part_at type n ≡ Some p → length (flat p) ≤ 16
