-- What lifts a type's values over the plain ledger, from the type's outer layer.
use Rattle.std.proofs.Common.{◌≡◌, ℕ, List, Option}
use Rattle.syntax_trees.specs.declared.types.ValType.{ValType}
use Rattle.syntax_trees.specs.declared.types.Case.{Case}
use Rattle.syntax_trees.specs.declared.types.Field.{Field}
use Rattle.syntax_trees.specs.declared.types.ValType.TheOpen as F
use Rattle.value_lift.specs.Answers.{counted, counting, plainly}
use Rattle.value_lift.specs.Pieces.{Part}
use Rattle.value_lift.specs.Lifting.{lift, lift_words, layer_of, lift_case, lift_word_case}
use Rattle.value_lift.proofs.OverTypes.{parts_over, lift_is_over, lift_words_is_over}
pub use Rattle.value_lift.proofs.OverTypes.{layouts_in, laid_is, flats_in, flat_is}

abbrev pub parts_in : F.ValType-F ValType Case Field → F.ValType-F Part (Option Part) Part
parts_in = parts_over plainly

pub lift_is : (t : ValType) (memory : List ℕ) (place left : ℕ) → lift t memory place left ≡ counting (counted 1 place left) (λ left. lift_case (layer_of t) memory place left)
lift_is = lift_is_over plainly

pub lift_words_is : (t : ValType) (memory words : List ℕ) (at left : ℕ)
    → lift_words t memory words at left ≡ counting (counted 1 at left) (λ left. lift_word_case (layer_of t) memory words at left)
lift_words_is = lift_words_is_over plainly
