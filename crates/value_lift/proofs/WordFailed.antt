-- Where what core values stand for fails, lifting stops, for the same reason at the same spot.
use Rattle.std.proofs.Common.{◌≡◌, ◌∙◌, ◌≤◌, ◌<◌, ◌+◌, ◌-◌, ℕ, suc, false, List, [], ◌∷◌, ◌++◌, map, length, Option, Some, Ok, Err, Result, refl, ap, sym, subst, arith}
use Rattle.std.specs.Option.{option_map}
use Rattle.std.specs.Int.{w32}
use Rattle.std.specs.Prelude.{nat_lt}
use Rattle.std.proofs.lemmas.Bool.{cond-true, cond-false, le-ltb, lt-ltb}
use Rattle.syntax_trees.specs.declared.core_type.CoreType.TheVariants.{I32}
use Rattle.syntax_trees.specs.declared.types.ValType.{ValType, out-ValType}
use Rattle.syntax_trees.specs.declared.types.Case.{Case}
use Rattle.syntax_trees.specs.declared.types.Field.{Field}
use Rattle.syntax_trees.specs.declared.types.ValType.TheOpen as F
use Rattle.syntax_trees.specs.declared.types.ValType.TheViews as types
use Rattle.syntax_trees.specs.declared.types.ValType.TheVariants as leaves
use Rattle.syntax_trees.specs.declared.value.Value.{Value}
use Rattle.syntax_trees.specs.declared.value.Value.TheViews as values
use Rattle.syntax_trees.specs.declared.value.Value.TheVariants as plain
use Rattle.syntax_trees.specs.Flat.{flat, all_of}
use Rattle.laid_types.specs.Parts.{parts_of, parts_case, count_case}
use Rattle.value_lift.specs.declared.trap.LiftTrap.{LiftTrap}
use Rattle.value_lift.specs.declared.trap.LiftWhy.{LiftWhy}
use Rattle.value_lift.specs.declared.trap.LiftWhy.TheVariants.{Misaligned, Bounds, BadChar, BadUtf8, BadCase, TooLarge}
use Rattle.value_lift.specs.Bytes.{is_scalar}
use Rattle.value_lift.specs.Answers.{trap, Lifted, after, made, uncounted, counting}
use Rattle.value_lift.specs.Pieces.{Part, part_in, string_of, elements_of, list_of, chosen, char_of}
use Rattle.value_lift.specs.Lifting.{lift_words, lift_word_case, layer_of, part, parts, low, word_fields_from, word_payload_of, word_case_of}
use Rattle.value_lift.specs.Standing.{counts}
use Rattle.value_lift.specs.WordStanding.{wrapped}
use Rattle.value_lift.specs.WordFailing.{FlatFails, CountedFlatFails, FlatFieldFails, flat_too_large, flat_counted_fails, flat_bad_char, flat_string_outside, flat_string_too_large, flat_string_not_utf8, flat_list_misaligned, flat_list_outside, flat_list_fails, flat_record_fails, flat_tuple_fails, flat_bad_case, flat_bad_enum, flat_bad_option, flat_bad_result, flat_case_fails, flat_some_fails, flat_ok_fails, flat_err_fails, this_flat_field, later_flat_field}
use Rattle.value_lift.proofs.Equations.{lift_words_is, parts_in}
use Rattle.value_lift.proofs.Failed.{stop, text_past, text_over, text_wrong, elements_astray, elements_past, elements_inside, element_failed}
use Rattle.value_lift.proofs.Forms.{IsRow, HasCases, row_words, cases_words}
use Rattle.value_lift.proofs.Lists.{part_image}
use Rattle.value_lift.proofs.Stood.{counts_one, case_within, case_part, parts_of_record, parts_of_tuple}
use Rattle.value_lift.proofs.Views.{out_char, out_string, out_enum, out_record, out_tuple, out_list, out_variant, out_option, out_result}
use Rattle.value_lift.proofs.WordStood.{IsThere, AreThere, flat_at, one_32, second_word, payload_there, row_there, part_there, tag_told, flat_of_record, flat_of_tuple, word_stood}

-- A value that is counted goes on to be lifted.
pub reached : (t : ValType) (memory words : List ℕ) (at left : ℕ) → lift_words t memory words at (suc left) ≡ lift_word_case (layer_of t) memory words at left
reached t memory words at left =
    let less : suc left - 1 ≡ left = omega arith in
    lift_words_is t memory words at (suc left)
    ∙ ap (λ (r : Result ℕ LiftTrap). counting r (λ left. lift_word_case (layer_of t) memory words at left)) (counts_one at (suc left) (omega arith))
    ∙ ap (λ (n : ℕ). lift_word_case (layer_of t) memory words at n) less

module _ (memory words : List ℕ) (at left : ℕ) where
  char_failed : (w : ℕ) → w ≡ low w32 at words → is_scalar w ≡ false → lift_word_case (layer_of leaves.Char) memory words at left ≡ stop BadChar at
  char_failed w e h =
      ap (λ (y : F.ValType-F ValType Case Field). lift_word_case (parts_in y) memory words at left) out_char
      ∙ ap (λ (n : ℕ). uncounted left (char_of n at)) (sym e)
      ∙ ap (λ (r : Result Value LiftTrap). uncounted left r) (cond-false (is_scalar w) (Ok (plain.Char w)) (Err (trap BadChar at)) h)

  string_failed : (from count : ℕ) (why : LiftWhy) → from ≡ low w32 at words → count ≡ low w32 (at + 1) words → string_of from count memory at left ≡ stop why at
      → lift_word_case (layer_of leaves.String) memory words at left ≡ stop why at
  string_failed from count why e f h =
      ap (λ (y : F.ValType-F ValType Case Field). lift_word_case (parts_in y) memory words at left) out_string
      ∙ ap (λ (n : ℕ). string_of n (low w32 (at + 1) words) memory at left) (sym e)
      ∙ ap (λ (n : ℕ). string_of from n memory at left) (sym f)
      ∙ h

  list_failed : (t : ValType) (from count : ℕ) (why : LiftWhy) (spot : ℕ) → from ≡ low w32 at words → count ≡ low w32 (at + 1) words
      → elements_of (part t) from count memory at left ≡ stop why spot → lift_word_case (layer_of (types.List t)) memory words at left ≡ stop why spot
  list_failed t from count why spot e f h =
      ap (λ (y : F.ValType-F ValType Case Field). lift_word_case (parts_in y) memory words at left) (out_list t)
      ∙ ap (λ (n : ℕ). list_of (Some (part t) ∷ []) n (low w32 (at + 1) words) memory at left) (sym e)
      ∙ ap (λ (n : ℕ). list_of (Some (part t) ∷ []) from n memory at left) (sym f)
      ∙ ap (λ (r : Lifted (List Value)). made values.List r) h

  row_failed : (t : ValType) (types : List ValType) (why : LiftWhy) (spot : ℕ) → IsRow (out-ValType t) → parts_of t ≡ map (λ (t : ValType). Some t) types
      → word_fields_from memory words [] at (parts (map (λ (t : ValType). Some t) types)) left ≡ stop why spot → lift_word_case (layer_of t) memory words at left ≡ stop why spot
  row_failed t types why spot row e h =
      row_words memory words at left t row
      ∙ ap (λ (ts : List (Option ValType)). made values.Record (word_fields_from memory words [] at (parts ts) left)) e
      ∙ ap (λ (r : Lifted (List Value)). made values.Record r) h

-- the place and the number of a text's bytes or a list's elements
two_words : (t : ValType) (memory words : List ℕ) (at from count : ℕ) → flat t ≡ I32 ∷ I32 ∷ [] → IsThere t memory words at (from ∷ count ∷ []) → (from ≡ low w32 at words) × (count ≡ low w32 (at + 1) words)
two_words t memory words at from count f is =
    let e = one_32 t memory words at from (count ∷ []) (I32 ∷ []) f is in
    (e.0, second_word words at count t memory f is.room e.1)

-- Cases.
module _ (memory words : List ℕ) (at left : ℕ) (t : ValType) (y : F.ValType-F ValType Case Field) (o : out-ValType t ≡ y) (kind : HasCases y) where
  pub cases_are : lift_word_case (layer_of t) memory words at left ≡ word_case_of (count_case y) (parts (parts_case y)) memory words at left
  cases_are =
      cases_words memory words at left t (subst HasCases (sym o) kind)
      ∙ ap (λ (y : F.ValType-F ValType Case Field). word_case_of (count_case y) (parts (parts_case y)) memory words at left) o

  abbrev told : ℕ → Lifted Value
  told n = chosen n (count_case y) at (word_payload_of (part_in (parts (parts_case y)) n) memory words (at + 1) left)

  case_failed : (n : ℕ) (ws : List ℕ) → IsThere t memory words at (n ∷ ws) → count_case y ≤ n → lift_word_case (layer_of t) memory words at left ≡ stop BadCase at
  case_failed n ws is h =
      cases_are
      ∙ ap told (sym (tag_told t memory words at n ws y o kind is))
      ∙ cond-false (nat_lt n (count_case y)) (made (values.Variant n) (word_payload_of (part_in (parts (parts_case y)) n) memory words (at + 1) left)) (Err (trap BadCase at))
      (le-ltb n (count_case y) h)

  payload_failed : (n : ℕ) (u : ValType) (ws : List ℕ) (why : LiftWhy) (spot : ℕ) → IsThere t memory words at (n ∷ ws) → n < count_case y → part_in (parts_case y) n ≡ Some u
      → (IsThere u memory words (at + 1) (wrapped (flat u) ws) → lift_words u memory words (at + 1) left ≡ stop why spot)
      → lift_word_case (layer_of t) memory words at left ≡ stop why spot
  payload_failed n u ws why spot is low_n e h =
      cases_are
      ∙ ap told (sym (tag_told t memory words at n ws y o kind is))
      ∙ ap (λ (q : Option Part). chosen n (count_case y) at (word_payload_of q memory words (at + 1) left)) (part_image (parts_case y) n)
      ∙ ap (λ (p : Option ValType). chosen n (count_case y) at (word_payload_of (option_map part p) memory words (at + 1) left)) e
      ∙ ap (λ (r : Lifted Value). chosen n (count_case y) at (made (λ v. Some v) r)) (h ((payload_there t memory words at n y (Some u) ws o kind e is).each u refl))
      ∙ cond-true (nat_lt n (count_case y)) (stop why spot) (Err (trap BadCase at)) (lt-ltb n (count_case y) low_n)

mutual
  pub word_failed : {memory : List ℕ} {t : ValType} {ws : List ℕ} {at left : ℕ} {why : LiftWhy} {spot : ℕ} → FlatFails memory t ws at left why spot → (words : List ℕ)
      → IsThere t memory words at ws → lift_words t memory words at left ≡ Err (trap why spot)
  word_failed {memory = m} (flat_too_large t ws at) words is = lift_words_is t m words at 0
  word_failed {memory = m} (flat_counted_fails t ws at left why spot f) words is = reached t m words at left ∙ counted_failed f words is

  counted_failed : {memory : List ℕ} {t : ValType} {ws : List ℕ} {at left : ℕ} {why : LiftWhy} {spot : ℕ} → CountedFlatFails memory t ws at left why spot → (words : List ℕ)
      → IsThere t memory words at ws → lift_word_case (layer_of t) memory words at left ≡ Err (trap why spot)
  counted_failed {memory = m} (flat_bad_char w at left h) words is =
      char_failed m words at left w (one_32 leaves.Char m words at w [] [] (flat_at leaves.Char F.Char out_char) is).0 h
  counted_failed {memory = m} (flat_string_outside from count at left h) words is =
      let e = two_words leaves.String m words at from count (flat_at leaves.String F.String out_string) is in
      string_failed m words at left from count Bounds e.0 e.1 (text_past from count m at left h)
  counted_failed {memory = m} (flat_string_too_large from count at left i h) words is =
      let e = two_words leaves.String m words at from count (flat_at leaves.String F.String out_string) is in
      string_failed m words at left from count TooLarge e.0 e.1 (text_over from count m at left i h)
  counted_failed {memory = m} (flat_string_not_utf8 from count at left i h w) words is =
      let e = two_words leaves.String m words at from count (flat_at leaves.String F.String out_string) is in
      string_failed m words at left from count BadUtf8 e.0 e.1 (text_wrong from count m at left i h w)
  counted_failed {memory = m} (flat_list_misaligned from count at left t h) words is =
      let e = two_words (types.List t) m words at from count (flat_at (types.List t) (F.List t) (out_list t)) is in
      list_failed m words at left t from count Misaligned at e.0 e.1 (elements_astray t from count m at left h)
  counted_failed {memory = m} (flat_list_outside from count at left t a h) words is =
      let e = two_words (types.List t) m words at from count (flat_at (types.List t) (F.List t) (out_list t)) is in
      list_failed m words at left t from count Bounds at e.0 e.1 (elements_past t from count m at left a h)
  counted_failed {memory = m} (flat_list_fails from count at left t why spot a i h) words is =
      let e = two_words (types.List t) m words at from count (flat_at (types.List t) (F.List t) (out_list t)) is in
      list_failed m words at left t from count why spot e.0 e.1 (elements_inside t from count m at left a i ∙ element_failed h [])
  counted_failed {memory = m} (flat_record_fails fields ws at left why spot h) words is =
      row_failed m words at left (types.Record fields) (map (λ (f : Field). f.val_type) fields) why spot (subst IsRow (sym (out_record fields)) tt) (parts_of_record fields)
      (field_failed h words [] (row_there (types.Record fields) m words at ws (all_of (map flat (map (λ (f : Field). f.val_type) fields))) (flat_of_record fields) is))
  counted_failed {memory = m} (flat_tuple_fails parts ws at left why spot h) words is =
      row_failed m words at left (types.Tuple parts) parts why spot (subst IsRow (sym (out_tuple parts)) tt) (parts_of_tuple parts)
      (field_failed h words [] (row_there (types.Tuple parts) m words at ws (all_of (map flat parts)) (flat_of_tuple parts) is))
  counted_failed {memory = m} (flat_bad_case cases n ws at left h) words is = case_failed m words at left (types.Variant cases) (F.Variant cases) (out_variant cases) tt n ws is h
  counted_failed {memory = m} (flat_bad_enum labels n at left h) words is = case_failed m words at left (leaves.Enum labels) (F.Enum labels) (out_enum labels) tt n [] is h
  counted_failed {memory = m} (flat_bad_option part n ws at left h) words is = case_failed m words at left (types.Option part) (F.Option part) (out_option part) tt n ws is h
  counted_failed {memory = m} (flat_bad_result ok err n ws at left h) words is =
      case_failed m words at left (types.Result ok err) (F.Result ok err) (out_result ok err) tt n ws is h
  counted_failed {memory = m} (flat_case_fails n cases c t ws at left why spot there holds h) words is =
      payload_failed m words at left (types.Variant cases) (F.Variant cases) (out_variant cases) tt n t ws why spot is (case_within cases n c there) (case_part cases n c there ∙ holds)
      (word_failed h words)
  counted_failed {memory = m} (flat_some_fails t ws at left why spot h) words is =
      payload_failed m words at left (types.Option t) (F.Option t) (out_option t) tt 1 t ws why spot is (omega arith) refl (word_failed h words)
  counted_failed {memory = m} (flat_ok_fails t err ws at left why spot h) words is =
      payload_failed m words at left (types.Result (Some t) err) (F.Result (Some t) err) (out_result (Some t) err) tt 0 t ws why spot is (omega arith) refl (word_failed h words)
  counted_failed {memory = m} (flat_err_fails ok t ws at left why spot h) words is =
      payload_failed m words at left (types.Result ok (Some t)) (F.Result ok (Some t)) (out_result ok (Some t)) tt 1 t ws why spot is (omega arith) refl (word_failed h words)

  field_failed : {memory : List ℕ} {types : List ValType} {ws : List ℕ} {at left : ℕ} {why : LiftWhy} {spot : ℕ} → FlatFieldFails memory types ws at left why spot → (words : List ℕ)
      (before : List Value) → AreThere (all_of (map flat types)) words at ws
      → word_fields_from memory words before at (parts (map (λ (t : ValType). Some t) types)) left ≡ Err (trap why spot)
  field_failed {memory = m} (this_flat_field t types ws others at left why spot many h) words before is =
      let parted = part_there t types words at ws others many is in
      ap (λ (r : Lifted Value). after r (λ v left. word_fields_from m words (before ++ v ∷ []) (at + length (flat t)) (parts (map (λ (t : ValType). Some t) types)) left))
      (word_failed h words (record { are = parted.0; room = parted.1 }))
  field_failed {memory = m} (later_flat_field t types ws others at left v why spot many s h) words before is =
      let parted = part_there t types words at ws others many is in
      let less : counts v + left - counts v ≡ left = omega arith in
      let next : ℕ = at + length (flat t) in
      let rest : List (Option Part) = parts (map (λ (t : ValType). Some t) types) in
      ap (λ (r : Lifted Value). after r (λ v left. word_fields_from m words (before ++ v ∷ []) next rest left))
      (word_stood s words at (counts v + left) (record { are = parted.0; room = parted.1 }) (omega arith))
      ∙ ap (λ (n : ℕ). word_fields_from m words (before ++ v ∷ []) next rest n) less
      ∙ field_failed h words (before ++ v ∷ []) parted.2
