-- Where a value in a memory fails, lifting stops, for the same reason at the same spot.
use Rattle.std.proofs.Common.{◌≡◌, ◌≢◌, ◌∙◌, ◌≤◌, ◌<◌, ◌+◌, ◌-◌, ◌*◌, ◌%◌, ℕ, suc, false, List, [], ◌∷◌, ◌++◌, map, length, Option, Some, Ok, Err, Result, refl, ap, sym, subst, arith}
use Rattle.std.specs.Option.{option_map}
use Rattle.std.specs.Int.{w32}
use Rattle.std.specs.Prelude.{nat_le, nat_lt, if◌then◌else◌}
use Rattle.std.specs.Str.{IsUtf8, is_utf8}
use Rattle.std.proofs.lemmas.Bool.{cond-true, cond-false, le-leb, lt-leb, le-ltb, lt-ltb, eq-eqb, ne_eqb, false_from_ne_true}
use Rattle.std.proofs.lemmas.Str.{IsUtf8-from_is_utf8}
use Rattle.syntax_trees.specs.declared.types.ValType.{ValType, out-ValType}
use Rattle.syntax_trees.specs.declared.types.Case.{Case}
use Rattle.syntax_trees.specs.declared.types.Field.{Field}
use Rattle.syntax_trees.specs.declared.types.ValType.TheOpen as F
use Rattle.syntax_trees.specs.declared.types.ValType.TheViews as types
use Rattle.syntax_trees.specs.declared.types.ValType.TheVariants as leaves
use Rattle.syntax_trees.specs.declared.value.Value.{Value}
use Rattle.syntax_trees.specs.declared.value.Value.TheViews as values
use Rattle.syntax_trees.specs.declared.value.Value.TheVariants as plain
use Rattle.laid_types.specs.Layout.{laid, aligned}
use Rattle.laid_types.specs.Parts.{parts_of, parts_case, count_case, payload_place}
use Rattle.value_lift.specs.declared.trap.LiftTrap.{LiftTrap}
use Rattle.value_lift.specs.declared.trap.LiftWhy.{LiftWhy}
use Rattle.value_lift.specs.declared.trap.LiftWhy.TheVariants.{Misaligned, Bounds, BadChar, BadUtf8, BadCase, TooLarge}
use Rattle.value_lift.specs.Bytes.{number, bytes_at, is_scalar, is_aligned, is_inside}
use Rattle.value_lift.specs.Answers.{trap, Lifted, after, made, uncounted, counted, counting}
use Rattle.value_lift.specs.Pieces.{Part, part_in, string_of, elements_from, elements_of, list_of, chosen, text_of}
use Rattle.value_lift.specs.Lifting.{behind_tag, lift, lift_case, layer_of, part, parts, fields_from, payload_of, case_of, case_told}
use Rattle.value_lift.specs.Standing.{tag, counts}
use Rattle.value_lift.specs.Failing.{Fails, CountedFails, ElementFails, FieldFails, too_large, counted_fails, bad_char, string_outside, string_too_large, string_not_utf8, list_misaligned, list_outside, list_fails, record_fails, tuple_fails, bad_case, bad_enum, bad_option, bad_result, case_fails, some_fails, ok_fails, err_fails, this_element, later_element, this_field, later_field}
use Rattle.value_lift.proofs.Equations.{lift_is, parts_in}
use Rattle.value_lift.proofs.Forms.{IsRow, HasCases, row_lift, cases_lift}
use Rattle.value_lift.proofs.Lists.{part_image}
use Rattle.value_lift.proofs.Rooms.{payload_behind}
use Rattle.value_lift.proofs.Stood.{counts_one, stood, case_within, case_part, parts_of_record, parts_of_tuple}
use Rattle.value_lift.proofs.Views.{out_char, out_string, out_enum, out_record, out_tuple, out_list, out_variant, out_option, out_result}

-- how lifting stops
abbrev pub stop : {A : Type 0} → LiftWhy → ℕ → Lifted A
stop why spot = Err (trap why spot)

-- A value that is counted goes on to be lifted.
pub reached : (t : ValType) (memory : List ℕ) (place left : ℕ) → lift t memory place (suc left) ≡ lift_case (layer_of t) memory place left
reached t memory place left =
    let less : suc left - 1 ≡ left = omega arith in
    lift_is t memory place (suc left)
    ∙ ap (λ (r : Result ℕ LiftTrap). counting r (λ left. lift_case (layer_of t) memory place left)) (counts_one place (suc left) (omega arith))
    ∙ ap (λ (n : ℕ). lift_case (layer_of t) memory place n) less

-- Texts, by their place and number of bytes.
module _ (at count : ℕ) (memory : List ℕ) (place left : ℕ) where
  abbrev text : ℕ → Lifted Value
  text left = uncounted left (text_of (bytes_at at count memory) place)

  pub text_past : length memory < at + count → string_of at count memory place left ≡ stop Bounds place
  text_past h = cond-false (is_inside at count memory) (counting (counted count place left) text) (Err (trap Bounds place)) (lt-leb (at + count) (length memory) h)

  text_inside : at + count ≤ length memory → string_of at count memory place left ≡ counting (counted count place left) text
  text_inside h = cond-true (is_inside at count memory) (counting (counted count place left) text) (Err (trap Bounds place)) (le-leb (at + count) (length memory) h)

  pub text_over : at + count ≤ length memory → left < count → string_of at count memory place left ≡ stop TooLarge place
  text_over inside h =
      text_inside inside
      ∙ ap (λ (r : Result ℕ LiftTrap). counting r text) (cond-false (nat_le count left) (Ok (left - count)) (Err (trap TooLarge place)) (lt-leb count left h))

  pub text_wrong : at + count ≤ length memory → count ≤ left → (IsUtf8 (bytes_at at count memory) → ⊥) → string_of at count memory place left ≡ stop BadUtf8 place
  text_wrong inside h wrong =
      text_inside inside
      ∙ ap (λ (r : Result ℕ LiftTrap). counting r text) (cond-true (nat_le count left) (Ok (left - count)) (Err (trap TooLarge place)) (le-leb count left h))
      ∙ ap (λ (r : Result Value LiftTrap). uncounted (left - count) r)
      (cond-false (is_utf8 (bytes_at at count memory)) (Ok (plain.String (bytes_at at count memory))) (Err (trap BadUtf8 place))
      (false_from_ne_true (is_utf8 (bytes_at at count memory)) (λ e. wrong (IsUtf8-from_is_utf8 (bytes_at at count memory) e))))

-- Elements, by their place and number.
module _ (t : ValType) (at count : ℕ) (memory : List ℕ) (place left : ℕ) where
  abbrev all_of : Lifted (List Value)
  all_of = elements_from (part t) memory [] count at left

  abbrev within : Lifted (List Value)
  within = if is_inside at (count * (laid t).size) memory then all_of else Err (trap Bounds place)

  pub elements_astray : at % (laid t).align ≢ 0 → elements_of (part t) at count memory place left ≡ stop Misaligned place
  elements_astray h = cond-false (is_aligned at (laid t).align) within (Err (trap Misaligned place)) (ne_eqb (at % (laid t).align) 0 h)

  elements_aligned : at % (laid t).align ≡ 0 → elements_of (part t) at count memory place left ≡ within
  elements_aligned h = cond-true (is_aligned at (laid t).align) within (Err (trap Misaligned place)) (eq-eqb (at % (laid t).align) 0 h)

  pub elements_past : at % (laid t).align ≡ 0 → length memory < at + count * (laid t).size → elements_of (part t) at count memory place left ≡ stop Bounds place
  elements_past even h =
      elements_aligned even ∙ cond-false (is_inside at (count * (laid t).size) memory) all_of (Err (trap Bounds place)) (lt-leb (at + count * (laid t).size) (length memory) h)

  pub elements_inside : at % (laid t).align ≡ 0 → at + count * (laid t).size ≤ length memory → elements_of (part t) at count memory place left ≡ all_of
  elements_inside even h =
      elements_aligned even ∙ cond-true (is_inside at (count * (laid t).size) memory) all_of (Err (trap Bounds place)) (le-leb (at + count * (laid t).size) (length memory) h)

-- Characters, texts, lists and records in a memory.
module _ (memory : List ℕ) (place left : ℕ) where
  char_failed : is_scalar (number w32 place memory) ≡ false → lift_case (layer_of leaves.Char) memory place left ≡ stop BadChar place
  char_failed h =
      ap (λ (y : F.ValType-F ValType Case Field). lift_case (parts_in y) memory place left) out_char
      ∙ ap (λ (r : Result Value LiftTrap). uncounted left r) (cond-false (is_scalar (number w32 place memory)) (Ok (plain.Char (number w32 place memory))) (Err (trap BadChar place)) h)

  string_failed : (at count : ℕ) (why : LiftWhy) → number w32 place memory ≡ at → number w32 (place + 4) memory ≡ count → string_of at count memory place left ≡ stop why place
      → lift_case (layer_of leaves.String) memory place left ≡ stop why place
  string_failed at count why e f h =
      ap (λ (y : F.ValType-F ValType Case Field). lift_case (parts_in y) memory place left) out_string
      ∙ ap (λ (n : ℕ). string_of n (number w32 (place + 4) memory) memory place left) e
      ∙ ap (λ (n : ℕ). string_of at n memory place left) f
      ∙ h

  list_failed : (t : ValType) (at count : ℕ) (why : LiftWhy) (spot : ℕ) → number w32 place memory ≡ at → number w32 (place + 4) memory ≡ count
      → elements_of (part t) at count memory place left ≡ stop why spot → lift_case (layer_of (types.List t)) memory place left ≡ stop why spot
  list_failed t at count why spot e f h =
      ap (λ (y : F.ValType-F ValType Case Field). lift_case (parts_in y) memory place left) (out_list t)
      ∙ ap (λ (n : ℕ). list_of (Some (part t) ∷ []) n (number w32 (place + 4) memory) memory place left) e
      ∙ ap (λ (n : ℕ). list_of (Some (part t) ∷ []) at n memory place left) f
      ∙ ap (λ (r : Lifted (List Value)). made values.List r) h

  row_failed : (t : ValType) (types : List ValType) (why : LiftWhy) (spot : ℕ) → IsRow (out-ValType t) → parts_of t ≡ map (λ (t : ValType). Some t) types
      → fields_from memory place [] 0 (parts (map (λ (t : ValType). Some t) types)) left ≡ stop why spot → lift_case (layer_of t) memory place left ≡ stop why spot
  row_failed t types why spot row e h =
      row_lift memory place left t row
      ∙ ap (λ (ts : List (Option ValType)). made values.Record (fields_from memory place [] 0 (parts ts) left)) e
      ∙ ap (λ (r : Lifted (List Value)). made values.Record r) h

-- Cases.
module _ (memory : List ℕ) (place left : ℕ) (t : ValType) (y : F.ValType-F ValType Case Field) (o : out-ValType t ≡ y) (kind : HasCases y) where
  abbrev payloads : List (Option Part)
  payloads = parts (parts_case y)

  behind : behind_tag (count_case y) payloads ≡ payload_place t
  behind = sym (ap (λ (y : F.ValType-F ValType Case Field). behind_tag (count_case y) (parts (parts_case y))) o) ∙ payload_behind t

  pub cases_are : lift_case (layer_of t) memory place left ≡ case_of (count_case y) payloads memory place left
  cases_are =
      cases_lift memory place left t (subst HasCases (sym o) kind)
      ∙ ap (λ (y : F.ValType-F ValType Case Field). case_of (count_case y) (parts (parts_case y)) memory place left) o

  pub payload_is : (n : ℕ) → payload_of (part_in payloads n) memory (place + behind_tag (count_case y) payloads) left
      ≡ payload_of (option_map part (part_in (parts_case y) n)) memory (place + payload_place t) left
  payload_is n =
      ap (λ (q : Option Part). payload_of q memory (place + behind_tag (count_case y) payloads) left) (part_image (parts_case y) n)
      ∙ ap (λ (k : ℕ). payload_of (option_map part (part_in (parts_case y) n)) memory (place + k) left) behind

  case_failed : count_case y ≤ tag (count_case y) place memory → lift_case (layer_of t) memory place left ≡ stop BadCase place
  case_failed h =
      let n : ℕ = tag (count_case y) place memory in
      cases_are
      ∙ cond-false (nat_lt n (count_case y)) (made (values.Variant n) (payload_of (part_in payloads n) memory (place + behind_tag (count_case y) payloads) left)) (Err (trap BadCase place))
      (le-ltb n (count_case y) h)

  payload_failed : (n : ℕ) (u : ValType) (why : LiftWhy) (spot : ℕ) → tag (count_case y) place memory ≡ n → n < count_case y → part_in (parts_case y) n ≡ Some u
      → lift u memory (place + payload_place t) left ≡ stop why spot → lift_case (layer_of t) memory place left ≡ stop why spot
  payload_failed n u why spot told low e h =
      cases_are
      ∙ ap (λ (k : ℕ). case_told k (count_case y) payloads memory place left) told
      ∙ ap (λ (r : Lifted (Option Value)). chosen n (count_case y) place r) (payload_is n)
      ∙ ap (λ (p : Option ValType). chosen n (count_case y) place (payload_of (option_map part p) memory (place + payload_place t) left)) e
      ∙ ap (λ (r : Lifted Value). chosen n (count_case y) place (made (λ v. Some v) r)) h
      ∙ cond-true (nat_lt n (count_case y)) (stop why spot) (Err (trap BadCase place)) (lt-ltb n (count_case y) low)

mutual
  pub failed : {memory : List ℕ} {place : ℕ} {t : ValType} {left : ℕ} {why : LiftWhy} {spot : ℕ} → Fails memory place t left why spot
      → lift t memory place left ≡ Err (trap why spot)
  failed {memory = m} (too_large place t) = lift_is t m place 0
  failed {memory = m} (counted_fails place t left why spot f) = reached t m place left ∙ counted_failed f

  counted_failed : {memory : List ℕ} {place : ℕ} {t : ValType} {left : ℕ} {why : LiftWhy} {spot : ℕ} → CountedFails memory place t left why spot
      → lift_case (layer_of t) memory place left ≡ Err (trap why spot)
  counted_failed {memory = m} (bad_char place left h) = char_failed m place left h
  counted_failed {memory = m} (string_outside place left at count e f h) = string_failed m place left at count Bounds e f (text_past at count m place left h)
  counted_failed {memory = m} (string_too_large place left at count e f i h) = string_failed m place left at count TooLarge e f (text_over at count m place left i h)
  counted_failed {memory = m} (string_not_utf8 place left at count e f i h w) = string_failed m place left at count BadUtf8 e f (text_wrong at count m place left i h w)
  counted_failed {memory = m} (list_misaligned place left at t e h) =
      list_failed m place left t at (number w32 (place + 4) m) Misaligned place e refl (elements_astray t at (number w32 (place + 4) m) m place left h)
  counted_failed {memory = m} (list_outside place left at count t e f a h) = list_failed m place left t at count Bounds place e f (elements_past t at count m place left a h)
  counted_failed {memory = m} (list_fails place left at count t why spot e f a i h) =
      list_failed m place left t at count why spot e f (elements_inside t at count m place left a i ∙ element_failed h [])
  counted_failed {memory = m} (record_fails place left fields why spot h) =
      row_failed m place left (types.Record fields) (map (λ (f : Field). f.val_type) fields) why spot (subst IsRow (sym (out_record fields)) tt) (parts_of_record fields) (field_failed h [])
  counted_failed {memory = m} (tuple_fails place left parts why spot h) =
      row_failed m place left (types.Tuple parts) parts why spot (subst IsRow (sym (out_tuple parts)) tt) (parts_of_tuple parts) (field_failed h [])
  counted_failed {memory = m} (bad_case place left cases h) = case_failed m place left (types.Variant cases) (F.Variant cases) (out_variant cases) tt h
  counted_failed {memory = m} (bad_enum place left labels h) = case_failed m place left (leaves.Enum labels) (F.Enum labels) (out_enum labels) tt h
  counted_failed {memory = m} (bad_option place left part h) = case_failed m place left (types.Option part) (F.Option part) (out_option part) tt h
  counted_failed {memory = m} (bad_result place left ok err h) = case_failed m place left (types.Result ok err) (F.Result ok err) (out_result ok err) tt h
  counted_failed {memory = m} (case_fails place left n cases c t why spot told there holds h) =
      payload_failed m place left (types.Variant cases) (F.Variant cases) (out_variant cases) tt n t why spot told (case_within cases n c there) (case_part cases n c there ∙ holds) (failed h)
  counted_failed {memory = m} (some_fails place left t why spot told h) =
      payload_failed m place left (types.Option t) (F.Option t) (out_option t) tt 1 t why spot told (omega arith) refl (failed h)
  counted_failed {memory = m} (ok_fails place left t err why spot told h) =
      payload_failed m place left (types.Result (Some t) err) (F.Result (Some t) err) (out_result (Some t) err) tt 0 t why spot told (omega arith) refl (failed h)
  counted_failed {memory = m} (err_fails place left ok t why spot told h) =
      payload_failed m place left (types.Result ok (Some t)) (F.Result ok (Some t)) (out_result ok (Some t)) tt 1 t why spot told (omega arith) refl (failed h)

  pub element_failed : {memory : List ℕ} {at : ℕ} {t : ValType} {count left : ℕ} {why : LiftWhy} {spot : ℕ} → ElementFails memory at t count left why spot → (before : List Value)
      → elements_from (part t) memory before count at left ≡ Err (trap why spot)
  element_failed {memory = m} (this_element at t count left why spot h) before =
      ap (λ (r : Lifted Value). after r (λ v left. elements_from (part t) m (before ++ v ∷ []) count (at + (laid t).size) left)) (failed h)
  element_failed {memory = m} (later_element at t count left v why spot s h) before =
      let less : counts v + left - counts v ≡ left = omega arith in
      ap (λ (r : Lifted Value). after r (λ v left. elements_from (part t) m (before ++ v ∷ []) count (at + (laid t).size) left)) (stood s (counts v + left) (omega arith))
      ∙ ap (λ (n : ℕ). elements_from (part t) m (before ++ v ∷ []) count (at + (laid t).size) n) less
      ∙ element_failed h (before ++ v ∷ [])

  field_failed : {memory : List ℕ} {place end : ℕ} {types : List ValType} {left : ℕ} {why : LiftWhy} {spot : ℕ} → FieldFails memory place end types left why spot → (before : List Value)
      → fields_from memory place before end (parts (map (λ (t : ValType). Some t) types)) left ≡ Err (trap why spot)
  field_failed {memory = m} (this_field place end t types left why spot h) before =
      ap (λ (r : Lifted Value). after r (λ v left. fields_from m place (before ++ v ∷ []) (aligned end (laid t).align + (laid t).size) (parts (map (λ (t : ValType). Some t) types)) left)) (failed h)
  field_failed {memory = m} (later_field place end t types left v why spot s h) before =
      let less : counts v + left - counts v ≡ left = omega arith in
      let next : ℕ = aligned end (laid t).align + (laid t).size in
      let others : List (Option Part) = parts (map (λ (t : ValType). Some t) types) in
      ap (λ (r : Lifted Value). after r (λ v left. fields_from m place (before ++ v ∷ []) next others left)) (stood s (counts v + left) (omega arith))
      ∙ ap (λ (n : ℕ). fields_from m place (before ++ v ∷ []) next others n) less
      ∙ field_failed h (before ++ v ∷ [])
