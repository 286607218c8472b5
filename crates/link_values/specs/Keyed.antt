-- Tables of types (Component Model, Explainer.md, "Type Definitions") in which each type is found by its key, over lists of labels.
use Rattle.std.specs.Prelude.{◌≡◌, ℕ, List, Option, Some}
use Rattle.std.specs.declared.cmp.Ordering.{Ordering}
use Rattle.std.specs.BTreeMap.{BTreeMap, get}
use Rattle.std.specs.List.{slice_get}
use Rattle.syntax_trees.specs.declared.types.ValType.{ValType}
use Rattle.link_values.specs.declared.keys.ValueKey.{ValueKey}
use Rattle.link_values.specs.contracts.keys.ValueKeyOrd.TheImpl as order
use Rattle.link_values.specs.Keys.{IsKeyOf}
use Rattle.link_values.specs.Labels.{AreListed}
use Rattle.link_values.specs.Numbering.{AreApart}

abbrev pub key_cmp : ValueKey → ValueKey → Ordering
key_cmp = (order.ghosts).cmp

-- what a map by keys has at a key
abbrev pub number_in : BTreeMap ValueKey ℕ → ValueKey → Option ℕ
number_in m key = get key_cmp m key

-- lists of labels, each before its number, and types, in order
pub record LabelledTypes : Type 0 where
  pub lists : List (List (List ℕ) × ℕ)
  pub types : List ValType

-- What is found by a key is the number of a type that the key is of. Each type has a key by which it is found, and stands once.
pub record AreKeyed (lists : List (List (List ℕ) × ℕ)) (m : BTreeMap ValueKey ℕ) (types : List ValType) : Type 0 where
  pub listed : AreListed lists
  pub stands : (key : ValueKey) (number : ℕ) → number_in m key ≡ Some number → (type : ValType) × (slice_get types number ≡ Some type) × IsKeyOf lists types key type
  pub found : (number : ℕ) (type : ValType) → slice_get types number ≡ Some type → (key : ValueKey) × IsKeyOf lists types key type × (number_in m key ≡ Some number)
  pub apart : AreApart types
