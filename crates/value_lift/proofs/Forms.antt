-- What lifts a value that is counted already, by the kind of its type, over the parts of the type.
use Rattle.std.proofs.Common.{◌≡◌, ℕ, List, [], Some, None, refl}
use Rattle.std.specs.Int.{w8, w32}
use Rattle.syntax_trees.specs.declared.types.ValType.{ValType, out-ValType}
use Rattle.syntax_trees.specs.declared.types.Case.{Case}
use Rattle.syntax_trees.specs.declared.types.Field.{Field}
use Rattle.syntax_trees.specs.declared.types.ValType.TheOpen as F
use Rattle.syntax_trees.specs.declared.value.Value.TheViews as values
use Rattle.laid_types.specs.Parts.{parts_of, case_count}
use Rattle.value_lift.specs.Bytes.{number}
use Rattle.value_lift.specs.Answers.{made, uncounted, plainly}
use Rattle.value_lift.specs.Pieces.{plain_of}
use Rattle.value_lift.specs.Lifting.{parts, layer_of, lift_case, lift_word_case, fields_from, case_of, low, word_fields_from, word_case_of}
use Rattle.value_lift.proofs.Equations.{parts_in}
use Rattle.value_lift.proofs.OverForms.{row_lift_over, cases_lift_over, row_words_over, cases_words_over}
pub use Rattle.value_lift.proofs.OverForms.{IsRow, HasCases, IsPlain, is_row, has_cases}

module _ (memory : List ℕ) (place left : ℕ) where
  plain_layer : (y : F.ValType-F ValType Case Field) → IsPlain y
      → lift_case (parts_in y) memory place left ≡ uncounted left (plain_of y w8 (λ w. number w place memory) place)
  plain_layer F.Bool h = refl
  plain_layer F.S8 h = refl
  plain_layer F.U8 h = refl
  plain_layer F.S16 h = refl
  plain_layer F.U16 h = refl
  plain_layer F.S32 h = refl
  plain_layer F.U32 h = refl
  plain_layer F.S64 h = refl
  plain_layer F.U64 h = refl
  plain_layer F.Char h = refl
  plain_layer (F.Own n) h = refl
  plain_layer (F.Borrow n) h = refl
  plain_layer (F.Stream None) h = refl
  plain_layer (F.Stream (Some e)) h = refl
  plain_layer (F.Future None) h = refl
  plain_layer (F.Future (Some e)) h = refl
  plain_layer other h = absurd h

  pub row_lift : (t : ValType) → IsRow (out-ValType t) → lift_case (layer_of t) memory place left ≡ made values.Record (fields_from memory place [] 0 (parts (parts_of t)) left)
  row_lift t h = row_lift_over plainly memory place left t h

  pub cases_lift : (t : ValType) → HasCases (out-ValType t) → lift_case (layer_of t) memory place left ≡ case_of (case_count t) (parts (parts_of t)) memory place left
  cases_lift t h = cases_lift_over plainly memory place left t h

  pub plain_lift : (t : ValType) → IsPlain (out-ValType t) → lift_case (layer_of t) memory place left ≡ uncounted left (plain_of (out-ValType t) w8 (λ w. number w place memory) place)
  plain_lift t h = plain_layer (out-ValType t) h

module _ (memory words : List ℕ) (at left : ℕ) where
  plain_words_layer : (y : F.ValType-F ValType Case Field) → IsPlain y
      → lift_word_case (parts_in y) memory words at left ≡ uncounted left (plain_of y w32 (λ w. low w at words) at)
  plain_words_layer F.Bool h = refl
  plain_words_layer F.S8 h = refl
  plain_words_layer F.U8 h = refl
  plain_words_layer F.S16 h = refl
  plain_words_layer F.U16 h = refl
  plain_words_layer F.S32 h = refl
  plain_words_layer F.U32 h = refl
  plain_words_layer F.S64 h = refl
  plain_words_layer F.U64 h = refl
  plain_words_layer F.Char h = refl
  plain_words_layer (F.Own n) h = refl
  plain_words_layer (F.Borrow n) h = refl
  plain_words_layer (F.Stream None) h = refl
  plain_words_layer (F.Stream (Some e)) h = refl
  plain_words_layer (F.Future None) h = refl
  plain_words_layer (F.Future (Some e)) h = refl
  plain_words_layer other h = absurd h

  pub row_words : (t : ValType) → IsRow (out-ValType t)
      → lift_word_case (layer_of t) memory words at left ≡ made values.Record (word_fields_from memory words [] at (parts (parts_of t)) left)
  row_words t h = row_words_over plainly memory words at left t h

  pub cases_words : (t : ValType) → HasCases (out-ValType t)
      → lift_word_case (layer_of t) memory words at left ≡ word_case_of (case_count t) (parts (parts_of t)) memory words at left
  cases_words t h = cases_words_over plainly memory words at left t h

  pub plain_words : (t : ValType) → IsPlain (out-ValType t)
      → lift_word_case (layer_of t) memory words at left ≡ uncounted left (plain_of (out-ValType t) w32 (λ w. low w at words) at)
  plain_words t h = plain_words_layer (out-ValType t) h
