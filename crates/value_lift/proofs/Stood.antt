-- What stands in a memory is lifted.
use Rattle.std.proofs.Common.{◌≡◌, ◌∙◌, ◌≤◌, ◌<◌, ◌+◌, ◌-◌, ◌*◌, ◌/◌, ◌%◌, ℕ, zero, suc, Bool, true, false, not, List, [], ◌∷◌, ◌++◌, map, length, Option, Some, None, Ok, Err, Result, refl, ap, ap₂, sym, subst, arith, append_assoc, append-nil}
use Rattle.std.specs.List.{slice_get}
use Rattle.std.specs.Option.{option_map}
use Rattle.std.specs.Int.{w8, w32}
use Rattle.std.proofs.lemmas.Bool.{cond-true, le-leb, lt-ltb, eq-eqb, ne_eqb}
use Rattle.std.proofs.lemmas.Str.{is_utf8-from_IsUtf8}
use Rattle.std.proofs.lemmas.List.{length-take-le, length-drop}
use Rattle.std.specs.Prelude.{nat_le, nat_lt, if◌then◌else◌, drop}
use Rattle.std.specs.Str.{IsUtf8, is_utf8}
use Rattle.syntax_trees.specs.declared.types.ValType.{ValType, out-ValType}
use Rattle.syntax_trees.specs.declared.types.Case.{Case}
use Rattle.syntax_trees.specs.declared.types.Field.{Field}
use Rattle.syntax_trees.specs.declared.types.ValType.TheOpen as F
use Rattle.syntax_trees.specs.declared.types.ValType.TheViews as types
use Rattle.syntax_trees.specs.declared.types.ValType.TheVariants as leaves
use Rattle.syntax_trees.specs.declared.value.Value.{Value}
use Rattle.syntax_trees.specs.declared.value.Value.TheViews as values
use Rattle.syntax_trees.specs.declared.value.Value.TheVariants as plain
use Rattle.laid_types.specs.Layout.{laid, aligned, bits_size}
use Rattle.laid_types.specs.Parts.{parts_of, parts_case, case_count, count_case, part_at, payload_place}
use Rattle.value_lift.specs.declared.trap.LiftTrap.{LiftTrap}
use Rattle.value_lift.specs.Bytes.{number, bytes_at, is_scalar, is_aligned, is_inside, width_of, flags_from}
use Rattle.value_lift.specs.declared.trap.LiftWhy.TheVariants.{Bounds}
use Rattle.value_lift.specs.Answers.{trap, Lifted, after, made, uncounted, counted, counting}
use Rattle.value_lift.specs.Pieces.{Part, plain_of, part_in, string_of, elements_from, elements_of, list_of, chosen, text_of}
use Rattle.value_lift.specs.Lifting.{behind_tag, lift, lift_case, layer_of, part, parts, fields_from, payload_of, case_told}
use Rattle.value_lift.specs.Standing.{AreBits, Stands, AreElements, AreFields, IsPayload, tag, total, counts, false_stands, true_stands, s8_stands, u8_stands, s16_stands, u16_stands, s32_stands, u32_stands, s64_stands, u64_stands, char_stands, own_stands, borrow_stands, stream_stands, future_stands, string_stands, list_stands, record_stands, tuple_stands, flags_stand, case_stands, enum_stands, none_stands, some_stands, ok_stands, err_stands, no_elements, more_elements, no_fields, more_fields, no_payload, payload_stands}
use Rattle.value_lift.proofs.Equations.{lift_is, parts_in}
use Rattle.value_lift.proofs.Forms.{IsPlain, IsRow, HasCases, plain_lift, row_lift, cases_lift}
use Rattle.value_lift.proofs.Lists.{part_image}
use Rattle.value_lift.proofs.Rooms.{payload_behind}
use Rattle.value_lift.proofs.Views.{out_bool, out_s8, out_u8, out_s16, out_u16, out_s32, out_u32, out_s64, out_u64, out_char, out_own, out_borrow, out_stream, out_future, out_string, out_flags, out_enum, out_record, out_tuple, out_list, out_variant, out_option, out_result, count_bool, count_s8, count_u8, count_s16, count_u16, count_s32, count_u32, count_s64, count_u64, count_char, count_own, count_borrow, count_stream, count_future, count_string, count_flags, count_list, count_record, count_variant, payload_counts}

-- A value is lifted, and as much counted as it counts.
abbrev IsLifted : List ℕ → ℕ → ValType → Value → ℕ → Type 0
IsLifted memory place t v left = lift t memory place left ≡ Ok (v, left - counts v)

abbrev pub done : {A : Type 0} → A → ℕ → Lifted A
done x left = Ok (x, left)

pub same_done : {A : Type 0} (x y : A) (m n : ℕ) → x ≡ y → m ≡ n → done x m ≡ done y n
same_done x y m n e f = ap₂ done e f

counts_many : (many place left : ℕ) → many ≤ left → counted many place left ≡ Ok (left - many)
counts_many many place left h = cond-true (nat_le many left) _ _ (le-leb many left h)

pub counts_one : (place left : ℕ) → 1 ≤ left → counted 1 place left ≡ Ok (left - 1)
counts_one place left h = counts_many 1 place left h

reached : (t : ValType) (memory : List ℕ) (place left : ℕ) → 1 ≤ left → lift t memory place left ≡ lift_case (layer_of t) memory place (left - 1)
reached t memory place left h = lift_is t memory place left ∙ ap (λ (r : Result ℕ LiftTrap). counting r (λ left. lift_case (layer_of t) memory place left)) (counts_one place left h)

-- Values without parts.
module _ (memory : List ℕ) (place left : ℕ) where
  plain_stood : (t : ValType) (y : F.ValType-F ValType Case Field) (v : Value) → out-ValType t ≡ y → IsPlain y
      → plain_of y w8 (λ w. number w place memory) place ≡ Ok v → counts v ≡ 1 → counts v ≤ left → IsLifted memory place t v left
  plain_stood t y v e kind told count h =
      reached t memory place left (omega (arith, count, h))
      ∙ plain_lift memory place (left - 1) t (subst IsPlain (sym e) kind)
      ∙ ap (λ (y : F.ValType-F ValType Case Field). uncounted (left - 1) (plain_of y w8 (λ w. number w place memory) place)) e
      ∙ ap (λ (r : Result Value LiftTrap). uncounted (left - 1) r) told
      ∙ ap (λ (n : ℕ). done v (left - n)) (sym count)

-- Texts.
pub bytes_length : (at count : ℕ) (memory : List ℕ) → at + count ≤ length memory → length (bytes_at at count memory) ≡ count
bytes_length at count memory h = length-take-le count (drop at memory) (omega (arith, length-drop at memory))

text_told : (bytes : List ℕ) (place : ℕ) → IsUtf8 bytes → text_of bytes place ≡ Ok (plain.String bytes)
text_told bytes place h = cond-true (is_utf8 bytes) _ _ (is_utf8-from_IsUtf8 bytes h)

pub string_told : (at count : ℕ) (memory : List ℕ) (place left : ℕ) → at + count ≤ length memory → IsUtf8 (bytes_at at count memory) → count ≤ left
    → string_of at count memory place left ≡ done (plain.String (bytes_at at count memory)) (left - count)
string_told at count memory place left inside utf8 few =
    let text : Lifted Value = counting (counted count place left) (λ left. uncounted left (text_of (bytes_at at count memory) place)) in
    cond-true (is_inside at count memory) text _ (le-leb (at + count) (length memory) inside)
    ∙ ap (λ (r : Result ℕ LiftTrap). counting r (λ left. uncounted left (text_of (bytes_at at count memory) place))) (counts_many count place left few)
    ∙ ap (λ (r : Result Value LiftTrap). uncounted (left - count) r) (text_told (bytes_at at count memory) place utf8)

string_stood : (memory : List ℕ) (place at count left : ℕ) → number w32 place memory ≡ at → number w32 (place + 4) memory ≡ count → at + count ≤ length memory
    → IsUtf8 (bytes_at at count memory) → counts (plain.String (bytes_at at count memory)) ≤ left → IsLifted memory place leaves.String (plain.String (bytes_at at count memory)) left
string_stood memory place at count left e f inside utf8 h =
    let size : counts (plain.String (bytes_at at count memory)) ≡ suc count = count_string (bytes_at at count memory) ∙ ap suc (bytes_length at count memory inside) in
    reached leaves.String memory place left (omega (arith, size, h))
    ∙ ap (λ (y : F.ValType-F ValType Case Field). lift_case (parts_in y) memory place (left - 1)) out_string
    ∙ ap (λ (n : ℕ). string_of n (number w32 (place + 4) memory) memory place (left - 1)) e
    ∙ ap (λ (n : ℕ). string_of at n memory place (left - 1)) f
    ∙ string_told at count memory place (left - 1) inside utf8 (omega (arith, size, h))
    ∙ ap (λ (n : ℕ). done (plain.String (bytes_at at count memory)) n) (let k : left - 1 - count ≡ left - counts (plain.String (bytes_at at count memory)) = omega (arith, size) in k)

-- Lists.
list_stood : (memory : List ℕ) (place at left : ℕ) (element : ValType) (all : List Value) → number w32 place memory ≡ at → number w32 (place + 4) memory ≡ length all
    → at % (laid element).align ≡ 0 → at + length all * (laid element).size ≤ length memory → counts (values.List all) ≤ left
    → elements_from (part element) memory [] (length all) at (left - 1) ≡ done all (left - 1 - total (map counts all))
    → IsLifted memory place (types.List element) (values.List all) left
list_stood memory place at left element all e f aligned inside h elements =
    let size : counts (values.List all) ≡ suc (total (map counts all)) = count_list all in
    let found : Lifted (List Value) = elements_from (part element) memory [] (length all) at (left - 1) in
    let told : elements_of (part element) at (length all) memory place (left - 1) ≡ done all (left - 1 - total (map counts all)) =
    cond-true (is_aligned at (laid element).align) (if is_inside at (length all * (laid element).size) memory then found else Err (trap Bounds place)) _ (eq-eqb (at % (laid element).align) 0 aligned)
    ∙ cond-true (is_inside at (length all * (laid element).size) memory) found _ (le-leb (at + length all * (laid element).size) (length memory) inside)
    ∙ elements in
    reached (types.List element) memory place left (omega (arith, size, h))
    ∙ ap (λ (y : F.ValType-F ValType Case Field). lift_case (parts_in y) memory place (left - 1)) (out_list element)
    ∙ ap (λ (n : ℕ). list_of (Some (part element) ∷ []) n (number w32 (place + 4) memory) memory place (left - 1)) e
    ∙ ap (λ (n : ℕ). list_of (Some (part element) ∷ []) at n memory place (left - 1)) f
    ∙ ap (λ (r : Lifted (List Value)). made values.List r) told
    ∙ ap (λ (n : ℕ). done (values.List all) n) (let k : left - 1 - total (map counts all) ≡ left - counts (values.List all) = omega (arith, size) in k)

-- Records.
row_stood : (memory : List ℕ) (place left : ℕ) (t : ValType) (types : List ValType) (all : List Value) → IsRow (out-ValType t) → parts_of t ≡ map (λ (t : ValType). Some t) types
    → counts (values.Record all) ≤ left
    → fields_from memory place [] 0 (parts (map (λ (t : ValType). Some t) types)) (left - 1) ≡ done all (left - 1 - total (map counts all))
    → IsLifted memory place t (values.Record all) left
row_stood memory place left t types all row e h fields =
    let size : counts (values.Record all) ≡ suc (total (map counts all)) = count_record all in
    reached t memory place left (omega (arith, size, h))
    ∙ row_lift memory place (left - 1) t row
    ∙ ap (λ (ts : List (Option ValType)). made values.Record (fields_from memory place [] 0 (parts ts) (left - 1))) e
    ∙ ap (λ (r : Lifted (List Value)). made values.Record r) fields
    ∙ ap (λ (n : ℕ). done (values.Record all) n) (let k : left - 1 - total (map counts all) ≡ left - counts (values.Record all) = omega (arith, size) in k)

-- Cases.
case_stood : (memory : List ℕ) (place left n : ℕ) (t : ValType) (p : Option ValType) (payload : Option Value) → HasCases (out-ValType t)
    → tag (case_count t) place memory ≡ n → n < case_count t → part_at t n ≡ p → counts (values.Variant n payload) ≤ left
    → payload_of (option_map part p) memory (place + payload_place t) (left - 1) ≡ done payload (left - 1 - payload_counts payload)
    → IsLifted memory place t (values.Variant n payload) left
case_stood memory place left n t p payload kind told low e h found =
    let size : counts (values.Variant n payload) ≡ suc (payload_counts payload) = count_variant n payload in
    let at : part_in (parts (parts_of t)) n ≡ option_map part p = part_image (parts_of t) n ∙ ap (λ (o : Option ValType). option_map part o) e in
    reached t memory place left (omega (arith, size, h))
    ∙ cases_lift memory place (left - 1) t kind
    ∙ ap (λ (k : ℕ). case_told k (case_count t) (parts (parts_of t)) memory place (left - 1)) told
    ∙ ap (λ (o : Option Part). chosen n (case_count t) place (payload_of o memory (place + behind_tag (case_count t) (parts (parts_of t))) (left - 1))) at
    ∙ ap (λ (k : ℕ). chosen n (case_count t) place (payload_of (option_map part p) memory (place + k) (left - 1))) (payload_behind t)
    ∙ ap (λ (r : Lifted (Option Value)). chosen n (case_count t) place r) found
    ∙ cond-true (nat_lt n (case_count t)) _ _ (lt-ltb n (case_count t) low)
    ∙ ap (λ (k : ℕ). done (values.Variant n payload) k) (let k : left - 1 - payload_counts payload ≡ left - counts (values.Variant n payload) = omega (arith, size) in k)

case_stood_in : (memory : List ℕ) (place left n : ℕ) (t : ValType) (y : F.ValType-F ValType Case Field) (p : Option ValType) (payload : Option Value)
    → out-ValType t ≡ y → HasCases y → tag (count_case y) place memory ≡ n → n < count_case y → part_in (parts_case y) n ≡ p → counts (values.Variant n payload) ≤ left
    → payload_of (option_map part p) memory (place + payload_place t) (left - 1) ≡ done payload (left - 1 - payload_counts payload)
    → IsLifted memory place t (values.Variant n payload) left
case_stood_in memory place left n t y p payload e kind told low at h found =
    case_stood memory place left n t p payload
    (subst HasCases (sym e) kind)
    (ap (λ (y : F.ValType-F ValType Case Field). tag (count_case y) place memory) e ∙ told)
    (subst (λ (y : F.ValType-F ValType Case Field). n < count_case y) (sym e) low)
    (ap (λ (y : F.ValType-F ValType Case Field). part_in (parts_case y) n) e ∙ at)
    h found

pub case_within : (cases : List Case) (n : ℕ) (c : Case) → slice_get cases n ≡ Some c → n < length cases
case_within [] n c h = cc
case_within (d ∷ cases) zero c h = omega arith
case_within (d ∷ cases) (suc n) c h = omega (arith, case_within cases n c h)

pub case_part : (cases : List Case) (n : ℕ) (c : Case) → slice_get cases n ≡ Some c → part_in (map (λ (c : Case). c.payload) cases) n ≡ c.payload
case_part [] n c h = cc
case_part (d ∷ cases) zero c h =
    let e : d ≡ c = cc in
    ap (λ (c : Case). c.payload) e
case_part (d ∷ cases) (suc n) c h = case_part cases n c h

-- Flags.
pub bits_told : (labels : List (List ℕ)) (bits : ℕ) (flags before : List Bool) → AreBits labels bits flags → flags_from before labels bits ≡ before ++ flags
bits_told [] bits [] before a = sym (append-nil before)
bits_told [] bits (f ∷ flags) before a = absurd a
bits_told (l ∷ labels) bits [] before a = absurd a
bits_told (l ∷ labels) bits (true ∷ flags) before a =
    ap (λ (b : Bool). flags_from (before ++ b ∷ []) labels (bits / 2)) (eq-eqb (bits % 2) 1 a.0)
    ∙ bits_told labels (bits / 2) flags (before ++ true ∷ []) a.1
    ∙ append_assoc before (true ∷ []) flags
bits_told (l ∷ labels) bits (false ∷ flags) before a =
    let e : bits % 2 ≡ 0 = a.0 in
    ap (λ (b : Bool). flags_from (before ++ b ∷ []) labels (bits / 2)) (ne_eqb (bits % 2) 1 (λ f. omega (arith, e, f)))
    ∙ bits_told labels (bits / 2) flags (before ++ false ∷ []) a.1
    ∙ append_assoc before (false ∷ []) flags

flags_stood : (memory : List ℕ) (place left : ℕ) (labels : List (List ℕ)) (flags : List Bool)
    → AreBits labels (number (width_of (bits_size (length labels))) place memory) flags → counts (plain.Flags flags) ≤ left
    → IsLifted memory place (leaves.Flags labels) (plain.Flags flags) left
flags_stood memory place left labels flags a h =
    reached (leaves.Flags labels) memory place left (omega (arith, count_flags flags, h))
    ∙ ap (λ (y : F.ValType-F ValType Case Field). lift_case (parts_in y) memory place (left - 1)) (out_flags labels)
    ∙ ap (λ (fs : List Bool). done (plain.Flags fs) (left - 1)) (bits_told labels (number (width_of (bits_size (length labels))) place memory) flags [] a)
    ∙ ap (λ (n : ℕ). done (plain.Flags flags) (left - n)) (sym (count_flags flags))

-- The parts of records and tuples.
pub some_fields : (fields : List Field) → map (λ (f : Field). Some f.val_type) fields ≡ map (λ (t : ValType). Some t) (map (λ (f : Field). f.val_type) fields)
some_fields [] = refl
some_fields (f ∷ fields) = ap (λ (ts : List (Option ValType)). Some f.val_type ∷ ts) (some_fields fields)

pub parts_of_record : (fields : List Field) → parts_of (types.Record fields) ≡ map (λ (t : ValType). Some t) (map (λ (f : Field). f.val_type) fields)
parts_of_record fields = ap parts_case (out_record fields) ∙ some_fields fields

pub parts_of_tuple : (parts : List ValType) → parts_of (types.Tuple parts) ≡ map (λ (t : ValType). Some t) parts
parts_of_tuple parts = ap parts_case (out_tuple parts)

abbrev pub told_bool : Bool → Result Value LiftTrap
told_bool b = Ok (plain.Bool (not b))

mutual
  pub stood : {memory : List ℕ} {place : ℕ} {t : ValType} {v : Value} → Stands memory place t v → (left : ℕ) → counts v ≤ left → lift t memory place left ≡ Ok (v, left - counts v)
  stood {memory = m} (false_stands place e) left h =
      plain_stood m place left leaves.Bool F.Bool (plain.Bool false) out_bool tt (ap told_bool (eq-eqb (number w8 place m) 0 e)) (count_bool false) h
  stood {memory = m} (true_stands place e) left h =
      plain_stood m place left leaves.Bool F.Bool (plain.Bool true) out_bool tt (ap told_bool (ne_eqb (number w8 place m) 0 e)) (count_bool true) h
  stood {memory = m} (s8_stands place) left h = plain_stood m place left leaves.S8 F.S8 _ out_s8 tt refl (count_s8 _) h
  stood {memory = m} (u8_stands place) left h = plain_stood m place left leaves.U8 F.U8 _ out_u8 tt refl (count_u8 _) h
  stood {memory = m} (s16_stands place) left h = plain_stood m place left leaves.S16 F.S16 _ out_s16 tt refl (count_s16 _) h
  stood {memory = m} (u16_stands place) left h = plain_stood m place left leaves.U16 F.U16 _ out_u16 tt refl (count_u16 _) h
  stood {memory = m} (s32_stands place) left h = plain_stood m place left leaves.S32 F.S32 _ out_s32 tt refl (count_s32 _) h
  stood {memory = m} (u32_stands place) left h = plain_stood m place left leaves.U32 F.U32 _ out_u32 tt refl (count_u32 _) h
  stood {memory = m} (s64_stands place) left h = plain_stood m place left leaves.S64 F.S64 _ out_s64 tt refl (count_s64 _) h
  stood {memory = m} (u64_stands place) left h = plain_stood m place left leaves.U64 F.U64 _ out_u64 tt refl (count_u64 _) h
  stood {memory = m} (char_stands place e) left h =
      plain_stood m place left leaves.Char F.Char (plain.Char (number w32 place m)) out_char tt (cond-true (is_scalar (number w32 place m)) _ _ e) (count_char (number w32 place m)) h
  stood {memory = m} (own_stands place resource) left h = plain_stood m place left (leaves.Own resource) (F.Own resource) _ (out_own resource) tt refl (count_own _) h
  stood {memory = m} (borrow_stands place resource) left h = plain_stood m place left (leaves.Borrow resource) (F.Borrow resource) _ (out_borrow resource) tt refl (count_borrow _) h
  stood {memory = m} (stream_stands place element) left h = plain_stood m place left (types.Stream element) (F.Stream element) _ (out_stream element) tt refl (count_stream _) h
  stood {memory = m} (future_stands place element) left h = plain_stood m place left (types.Future element) (F.Future element) _ (out_future element) tt refl (count_future _) h
  stood {memory = m} (string_stands place at count e f inside utf8) left h = string_stood m place at count left e f inside utf8 h
  stood {memory = m} (list_stands place at element all e f aligned inside a) left h =
      list_stood m place at left element all e f aligned inside h (elements_stood a [] (left - 1) (omega (arith, count_list all, h)))
  stood {memory = m} (record_stands place fields all a) left h =
      row_stood m place left (types.Record fields) (map (λ (f : Field). f.val_type) fields) all (subst IsRow (sym (out_record fields)) tt) (parts_of_record fields) h
      (fields_stood a [] (left - 1) (omega (arith, count_record all, h)))
  stood {memory = m} (tuple_stands place parts all a) left h =
      row_stood m place left (types.Tuple parts) parts all (subst IsRow (sym (out_tuple parts)) tt) (parts_of_tuple parts) h
      (fields_stood a [] (left - 1) (omega (arith, count_record all, h)))
  stood {memory = m} (flags_stand place labels flags a) left h = flags_stood m place left labels flags a h
  stood {memory = m} (case_stands place n cases c payload told there p) left h =
      case_stood_in m place left n (types.Variant cases) (F.Variant cases) c.payload payload (out_variant cases) tt told (case_within cases n c there) (case_part cases n c there) h
      (payload_stood p (left - 1) (omega (arith, count_variant n payload, h)))
  stood {memory = m} (enum_stands place n labels told low) left h =
      case_stood_in m place left n (leaves.Enum labels) (F.Enum labels) None None (out_enum labels) tt told low refl h (same_done None None (left - 1) (left - 1 - 0) refl (omega arith))
  stood {memory = m} (none_stands place part told) left h =
      case_stood_in m place left 0 (types.Option part) (F.Option part) None None (out_option part) tt told (omega arith) refl h (same_done None None (left - 1) (left - 1 - 0) refl (omega arith))
  stood {memory = m} (some_stands place part payload told p) left h =
      case_stood_in m place left 1 (types.Option part) (F.Option part) (Some part) payload (out_option part) tt told (omega arith) refl h
      (payload_stood p (left - 1) (omega (arith, count_variant 1 payload, h)))
  stood {memory = m} (ok_stands place ok err payload told p) left h =
      case_stood_in m place left 0 (types.Result ok err) (F.Result ok err) ok payload (out_result ok err) tt told (omega arith) refl h
      (payload_stood p (left - 1) (omega (arith, count_variant 0 payload, h)))
  stood {memory = m} (err_stands place ok err payload told p) left h =
      case_stood_in m place left 1 (types.Result ok err) (F.Result ok err) err payload (out_result ok err) tt told (omega arith) refl h
      (payload_stood p (left - 1) (omega (arith, count_variant 1 payload, h)))

  pub elements_stood : {memory : List ℕ} {at : ℕ} {element : ValType} {all : List Value} → AreElements memory at element all → (before : List Value) (left : ℕ) → total (map counts all) ≤ left
      → elements_from (part element) memory before (length all) at left ≡ Ok (before ++ all, left - total (map counts all))
  elements_stood (no_elements at element) before left h = same_done before (before ++ []) left (left - 0) (sym (append-nil before)) (omega arith)
  elements_stood {memory = m} (more_elements at element v all s rest) before left h =
      ap (λ (r : Lifted Value). after r (λ v left. elements_from (part element) m (before ++ v ∷ []) (length all) (at + (laid element).size) left)) (stood s left (omega arith))
      ∙ elements_stood rest (before ++ v ∷ []) (left - counts v) (omega arith)
      ∙ same_done ((before ++ v ∷ []) ++ all) (before ++ v ∷ all) (left - counts v - total (map counts all)) (left - (counts v + total (map counts all))) (append_assoc before (v ∷ []) all) (omega arith)

  fields_stood : {memory : List ℕ} {place end : ℕ} {types : List ValType} {all : List Value} → AreFields memory place end types all → (before : List Value) (left : ℕ) → total (map counts all) ≤ left
      → fields_from memory place before end (parts (map (λ (t : ValType). Some t) types)) left ≡ Ok (before ++ all, left - total (map counts all))
  fields_stood (no_fields place end) before left h = same_done before (before ++ []) left (left - 0) (sym (append-nil before)) (omega arith)
  fields_stood {memory = m} (more_fields place end t types v all s rest) before left h =
      ap (λ (r : Lifted Value). after r (λ v left. fields_from m place (before ++ v ∷ []) (aligned end (laid t).align + (laid t).size) (parts (map (λ (t : ValType). Some t) types)) left))
      (stood s left (omega arith))
      ∙ fields_stood rest (before ++ v ∷ []) (left - counts v) (omega arith)
      ∙ same_done ((before ++ v ∷ []) ++ all) (before ++ v ∷ all) (left - counts v - total (map counts all)) (left - (counts v + total (map counts all))) (append_assoc before (v ∷ []) all) (omega arith)

  payload_stood : {memory : List ℕ} {place : ℕ} {t : Option ValType} {payload : Option Value} → IsPayload memory place t payload → (left : ℕ) → payload_counts payload ≤ left
      → payload_of (option_map part t) memory place left ≡ Ok (payload, left - payload_counts payload)
  payload_stood (no_payload place) left h = same_done None None left (left - 0) refl (omega arith)
  payload_stood (payload_stands place t v s) left h = ap (λ (r : Lifted Value). made (λ v. Some v) r) (stood s left h)
