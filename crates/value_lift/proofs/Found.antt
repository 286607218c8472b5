-- What is lifted from a memory stands there.
use Rattle.std.proofs.Common.{◌≡◌, ◌∙◌, ◌≤◌, ◌<◌, ◌+◌, ◌-◌, ◌*◌, ◌/◌, ◌%◌, ℕ, zero, suc, Bool, true, false, not, List, [], ◌∷◌, ◌++◌, map, length, drop, Option, Some, None, Ok, Err, refl, ap, sym, subst, arith, append_assoc, append-nil, inl, inr}
use Rattle.std.specs.List.{AllByRecursion}
use Rattle.std.specs.Option.{option_map}
use Rattle.std.specs.Int.{w8, w32}
use Rattle.std.specs.Str.{is_utf8}
use Rattle.std.specs.Prelude.{nat_lt, ◌==◌, if◌then◌else◌}
use Rattle.std.proofs.lemmas.Bool.{leb-true, ltb-true, eqb-true, eqb-false, cases_lt}
use Rattle.std.proofs.lemmas.Str.{IsUtf8-from_is_utf8}
use Rattle.std.proofs.lemmas.List.{length-take-le, length-drop}
use Rattle.syntax_trees.specs.declared.types.ValType.{ValType, out-ValType}
use Rattle.syntax_trees.specs.declared.types.Case.{Case}
use Rattle.syntax_trees.specs.declared.types.Field.{Field}
use Rattle.syntax_trees.specs.declared.types.ValType.TheOpen as F
use Rattle.syntax_trees.specs.declared.types.ValType.TheViews as types
use Rattle.syntax_trees.specs.declared.types.ValType.TheVariants as leaves
use Rattle.syntax_trees.specs.declared.value.Value.{Value}
use Rattle.syntax_trees.specs.declared.value.Value.TheViews as values
use Rattle.syntax_trees.specs.declared.value.Value.TheVariants as plain
use Rattle.laid_types.specs.Layout.{laid, aligned, bits_size}
use Rattle.laid_types.specs.Parts.{parts_of, parts_case, case_count, count_case, part_at, payload_place}
use Rattle.value_lift.specs.declared.trap.LiftWhy.TheVariants.{Misaligned, Bounds, BadChar, BadUtf8, BadCase}
use Rattle.value_lift.specs.Bytes.{number, bytes_at, is_scalar, is_aligned, is_inside, width_of, flags_from}
use Rattle.value_lift.specs.Answers.{Lifted, trap, made, uncounted, counted, counting}
use Rattle.value_lift.specs.Pieces.{Part, plain_of, part_in, string_of, text_of, elements_from, elements_of}
use Rattle.value_lift.specs.Lifting.{lift, lift_case, layer_of, part, parts, fields_from, payload_of, behind_tag}
use Rattle.value_lift.specs.Standing.{AreBits, Stands, AreElements, AreFields, IsPayload, tag, total, counts, false_stands, true_stands, char_stands, string_stands, list_stands, flags_stand, no_elements, more_elements, no_fields, more_fields, no_payload, payload_stands}
use Rattle.value_lift.proofs.Equations.{lift_is, parts_in}
use Rattle.value_lift.proofs.Forms.{IsPlain, IsRow, HasCases, plain_lift, row_lift, cases_lift}
use Rattle.value_lift.proofs.Rooms.{payload_behind}
use Rattle.value_lift.proofs.Passing.{ok_same, if_ok, counting_ok, after_ok, made_ok, uncounted_ok}
use Rattle.value_lift.proofs.Lists.{part_image}
use Rattle.value_lift.proofs.Views.{out_bool, out_char, out_string, out_flags, out_list, count_bool, count_char, count_string, count_flags, count_list, count_record, count_variant, payload_counts}

-- A value that stands there, and is counted.
pub record Found (memory : List ℕ) (place left : ℕ) (t : ValType) (v : Value) (rest : ℕ) : Type 0 where
  pub stands : Stands memory place t v
  pub count : rest + counts v ≡ left

abbrev pub Told : ValType → Type 0
Told t = (memory : List ℕ) (place left rest : ℕ) (v : Value) → lift t memory place left ≡ Ok (v, rest) → Found memory place left t v rest

-- the same of a payload, where there is one
pub record FoundPayload (memory : List ℕ) (place left : ℕ) (t : Option ValType) (payload : Option Value) (rest : ℕ) : Type 0 where
  pub is : IsPayload memory place t payload
  pub count : rest + payload_counts payload ≡ left

abbrev pub ToldRest : Option ValType → Type 0
ToldRest t =
    (memory : List ℕ) (place left rest : ℕ) (payload : Option Value) → payload_of (option_map part t) memory place left ≡ Ok (payload, rest)
    → FoundPayload memory place left t payload rest

pub told_nothing : ToldRest None
told_nothing memory place left rest payload h =
    let e : (None, left) ≡ (payload, rest) = ok_same (None, left) (payload, rest) h in
    let f : None ≡ payload = ap (λ (p : Option Value × ℕ). p.0) e in
    let g : left ≡ rest = ap (λ (p : Option Value × ℕ). p.1) e in
    record {
      is = subst (λ (p : Option Value). IsPayload memory place None p) f (no_payload place);
      count = subst (λ (p : Option Value). rest + payload_counts p ≡ left) f (omega arith);
    }

pub told_payload : (t : ValType) → Told t → ToldRest (Some t)
told_payload t told memory place left rest payload h =
    let m = made_ok (λ v. Some v) (lift t memory place left) payload rest h in
    let f = told memory place left rest m.first m.was in
    record {
      is = subst (λ (p : Option Value). IsPayload memory place (Some t) p) m.is (payload_stands place t m.first f.stands);
      count = subst (λ (p : Option Value). rest + payload_counts p ≡ left) m.is f.count;
    }

-- A value is counted before its bytes are read.
record Reached (t : ValType) (memory : List ℕ) (place left rest : ℕ) (v : Value) : Type 0 where
  pub one : 1 ≤ left
  pub case : lift_case (layer_of t) memory place (left - 1) ≡ Ok (v, rest)

reached : (t : ValType) (memory : List ℕ) (place left rest : ℕ) (v : Value) → lift t memory place left ≡ Ok (v, rest) → Reached t memory place left rest v
reached t memory place left rest v h =
    let p = counting_ok 1 place left (λ left. lift_case (layer_of t) memory place left) (v, rest) (sym (lift_is t memory place left) ∙ h) in
    record { one = p.0; case = p.1 }

-- Values without parts.
module _ (memory : List ℕ) (place left rest : ℕ) (v : Value) where
  pub plain_found : (t : ValType) (y : F.ValType-F ValType Case Field) → out-ValType t ≡ y → IsPlain y → lift t memory place left ≡ Ok (v, rest)
      → (plain_of y w8 (λ w. number w place memory) place ≡ Ok v) × (suc rest ≡ left)
  plain_found t y e kind h =
      let r = reached t memory place left rest v h in
      let p =
      uncounted_ok (left - 1) (plain_of y w8 (λ w. number w place memory) place) v rest
      (ap (λ (y : F.ValType-F ValType Case Field). uncounted (left - 1) (plain_of y w8 (λ w. number w place memory) place)) (sym e)
      ∙ sym (plain_lift memory place (left - 1) t (subst IsPlain (sym e) kind)) ∙ r.case) in
      (p.0, omega (arith, r.one, p.1))

  leaf_found : (t : ValType) (w : Value) → w ≡ v → Stands memory place t w → counts w ≡ 1 → suc rest ≡ left → Found memory place left t v rest
  leaf_found t w e s c r = record {
    stands = subst (λ (v : Value). Stands memory place t v) e s;
    count = subst (λ (v : Value). rest + counts v ≡ left) e (omega (arith, c, r));
  }

  pub number_found : (t : ValType) (y : F.ValType-F ValType Case Field) (w : Value) → out-ValType t ≡ y → IsPlain y → plain_of y w8 (λ w. number w place memory) place ≡ Ok w
      → Stands memory place t w → counts w ≡ 1 → lift t memory place left ≡ Ok (v, rest) → Found memory place left t v rest
  number_found t y w e kind told s c h =
      let p = plain_found t y e kind h in
      leaf_found t w (ok_same w v (sym told ∙ p.0)) s c p.1

  bool_stands : (b : Bool) → (number w8 place memory == 0) ≡ b → Stands memory place leaves.Bool (plain.Bool (not b))
  bool_stands true e = false_stands place (eqb-true (number w8 place memory) 0 e)
  bool_stands false e = true_stands place (eqb-false (number w8 place memory) 0 e)

  pub bool_found : lift leaves.Bool memory place left ≡ Ok (v, rest) → Found memory place left leaves.Bool v rest
  bool_found h =
      let b : Bool = number w8 place memory == 0 in
      number_found leaves.Bool F.Bool (plain.Bool (not b)) out_bool tt refl (bool_stands b refl) (count_bool (not b)) h

  pub char_found : lift leaves.Char memory place left ≡ Ok (v, rest) → Found memory place left leaves.Char v rest
  char_found h =
      let p = plain_found leaves.Char F.Char out_char tt h in
      let n : ℕ = number w32 place memory in
      let q = if_ok (is_scalar n) (Ok (plain.Char n)) (trap BadChar place) v p.0 in
      leaf_found leaves.Char (plain.Char n) (ok_same (plain.Char n) v q.1) (char_stands place q.0) (count_char n) p.1

  pub string_found : lift leaves.String memory place left ≡ Ok (v, rest) → Found memory place left leaves.String v rest
  string_found h =
      let at : ℕ = number w32 place memory in
      let count : ℕ = number w32 (place + 4) memory in
      let bytes : List ℕ = bytes_at at count memory in
      let r = reached leaves.String memory place left rest v h in
      let told : string_of at count memory place (left - 1) ≡ Ok (v, rest) =
      sym (ap (λ (y : F.ValType-F ValType Case Field). lift_case (parts_in y) memory place (left - 1)) out_string) ∙ r.case in
      let p = if_ok (is_inside at count memory) (counting (counted count place (left - 1)) (λ left. uncounted left (text_of bytes place))) (trap Bounds place) (v, rest) told in
      let inside : at + count ≤ length memory = leb-true (at + count) (length memory) p.0 in
      let c = counting_ok count place (left - 1) (λ left. uncounted left (text_of bytes place)) (v, rest) p.1 in
      let u = uncounted_ok (left - 1 - count) (text_of bytes place) v rest c.1 in
      let t = if_ok (is_utf8 bytes) (Ok (plain.String bytes)) (trap BadUtf8 place) v u.0 in
      let e : plain.String bytes ≡ v = ok_same (plain.String bytes) v t.1 in
      let size : length bytes ≡ count = length-take-le count (drop at memory) (omega (arith, length-drop at memory, inside)) in
      record {
        stands = subst (λ (v : Value). Stands memory place leaves.String v) e (string_stands place at count refl refl inside (IsUtf8-from_is_utf8 bytes t.0));
        count = subst (λ (v : Value). rest + counts v ≡ left) e (omega (arith, count_string bytes, size, u.1, c.0, r.one));
      }

-- Flags.
pub record BitsAre (labels : List (List ℕ)) (bits : ℕ) (before : List Bool) : Type 0 where
  pub flags : List Bool
  pub from : flags_from before labels bits ≡ before ++ flags
  pub are : AreBits labels bits flags

even : (n : ℕ) → (n % 2 == 1) ≡ false → n % 2 ≡ 0
even n e =
    let no : n % 2 ≡ 1 → ⊥ = eqb-false (n % 2) 1 e in
    elim (cases_lt (n % 2) 1) [
      | inl low ↦ omega arith
      | inr high ↦ let one : n % 2 ≡ 1 = omega arith in absurd (no one)
    ]

bits_step : (l : List ℕ) (labels : List (List ℕ)) (bits : ℕ) (before : List Bool) (b : Bool) → (bits % 2 == 1) ≡ b → BitsAre labels (bits / 2) (before ++ b ∷ []) → BitsAre (l ∷ labels) bits before
bits_step l labels bits before true e r = record {
  flags = true ∷ r.flags;
  from = ap (λ (b : Bool). flags_from (before ++ b ∷ []) labels (bits / 2)) e ∙ r.from ∙ append_assoc before (true ∷ []) r.flags;
  are = (eqb-true (bits % 2) 1 e, r.are);
}
bits_step l labels bits before false e r = record {
  flags = false ∷ r.flags;
  from = ap (λ (b : Bool). flags_from (before ++ b ∷ []) labels (bits / 2)) e ∙ r.from ∙ append_assoc before (false ∷ []) r.flags;
  are = (even bits e, r.are);
}

pub bits_are : (labels : List (List ℕ)) (bits : ℕ) (before : List Bool) → BitsAre labels bits before
bits_are [] bits before = record { flags = []; from = sym (append-nil before); are = tt }
bits_are (l ∷ labels) bits before = bits_step l labels bits before (bits % 2 == 1) refl (bits_are labels (bits / 2) (before ++ (bits % 2 == 1) ∷ []))

pub flags_found : (labels : List (List ℕ)) → Told (leaves.Flags labels)
flags_found labels memory place left rest v h =
    let r = reached (leaves.Flags labels) memory place left rest v h in
    let n : ℕ = number (width_of (bits_size (length labels))) place memory in
    let told : Ok (plain.Flags (flags_from [] labels n), left - 1) ≡ Ok (v, rest) =
    sym (ap (λ (y : F.ValType-F ValType Case Field). lift_case (parts_in y) memory place (left - 1)) (out_flags labels)) ∙ r.case in
    let pair = ok_same (plain.Flags (flags_from [] labels n), left - 1) (v, rest) told in
    let b = bits_are labels n [] in
    let e : plain.Flags b.flags ≡ v = ap (λ (fs : List Bool). plain.Flags fs) (sym b.from) ∙ ap (λ (p : Value × ℕ). p.0) pair in
    let k : left - 1 ≡ rest = ap (λ (p : Value × ℕ). p.1) pair in
    leaf_found memory place left rest v (leaves.Flags labels) (plain.Flags b.flags) e (flags_stand place labels b.flags b.are) (count_flags b.flags) (omega (arith, k, r.one))

-- Lists.
pub record FoundElements (memory : List ℕ) (at left : ℕ) (element : ValType) (number : ℕ) (before all : List Value) (rest : ℕ) : Type 0 where
  pub values : List Value
  pub all_is : all ≡ before ++ values
  pub many : length values ≡ number
  pub are : AreElements memory at element values
  pub count : rest + total (map counts values) ≡ left

pub elements_found : (t : ValType) → Told t → (memory : List ℕ) (before all : List Value) (count at left rest : ℕ)
    → elements_from (part t) memory before count at left ≡ Ok (all, rest) → FoundElements memory at left t count before all rest
elements_found t told memory before all zero at left rest h =
    let e = ok_same (before, left) (all, rest) h in
    let f : before ≡ all = ap (λ (p : List Value × ℕ). p.0) e in
    let g : left ≡ rest = ap (λ (p : List Value × ℕ). p.1) e in
    record { values = []; all_is = sym f ∙ sym (append-nil before); many = refl; are = no_elements at t; count = omega (arith, g) }
elements_found t told memory before all (suc count) at left rest h =
    let a = after_ok (lift t memory at left) (λ v left. elements_from (part t) memory (before ++ v ∷ []) count (at + (laid t).size) left) (all, rest) h in
    let f = told memory at left a.left a.first a.was in
    let r = elements_found t told memory (before ++ a.first ∷ []) all count (at + (laid t).size) a.left rest a.then_is in
    record {
      values = a.first ∷ r.values;
      all_is = r.all_is ∙ append_assoc before (a.first ∷ []) r.values;
      many = ap suc r.many;
      are = more_elements at t a.first r.values f.stands r.are;
      count = omega (arith, f.count, r.count);
    }

pub list_found : (t : ValType) → Told t → Told (types.List t)
list_found t told memory place left rest v h =
    let r = reached (types.List t) memory place left rest v h in
    let at : ℕ = number w32 place memory in
    let count : ℕ = number w32 (place + 4) memory in
    let found : made values.List (elements_of (part t) at count memory place (left - 1)) ≡ Ok (v, rest) =
    sym (ap (λ (y : F.ValType-F ValType Case Field). lift_case (parts_in y) memory place (left - 1)) (out_list t)) ∙ r.case in
    let m = made_ok values.List (elements_of (part t) at count memory place (left - 1)) v rest found in
    let all : Lifted (List Value) = elements_from (part t) memory [] count at (left - 1) in
    let p = if_ok (is_aligned at (laid t).align) (if is_inside at (count * (laid t).size) memory then all else Err (trap Bounds place)) (trap Misaligned place) (m.first, rest) m.was in
    let q = if_ok (is_inside at (count * (laid t).size) memory) all (trap Bounds place) (m.first, rest) p.1 in
    let e = elements_found t told memory [] m.first count at (left - 1) rest q.1 in
    let same : values.List e.values ≡ v = ap (λ (l : List Value). values.List l) (sym e.all_is) ∙ m.is in
    let inside : at + count * (laid t).size ≤ length memory = leb-true (at + count * (laid t).size) (length memory) q.0 in
    record {
      stands = subst (λ (v : Value). Stands memory place (types.List t) v) same
          (list_stands place at t e.values refl (sym e.many) (eqb-true (at % (laid t).align) 0 p.0)
          (subst (λ (n : ℕ). at + n * (laid t).size ≤ length memory) (sym e.many) inside) e.are);
      count = subst (λ (v : Value). rest + counts v ≡ left) same (omega (arith, count_list e.values, e.count, r.one));
    }

-- Records.
record FoundFields (memory : List ℕ) (place end left : ℕ) (types : List ValType) (before all : List Value) (rest : ℕ) : Type 0 where
  pub values : List Value
  pub all_is : all ≡ before ++ values
  pub are : AreFields memory place end types values
  pub count : rest + total (map counts values) ≡ left

fields_found : (types : List ValType) → AllByRecursion Told types → (memory : List ℕ) (place end left rest : ℕ) (before all : List Value)
    → fields_from memory place before end (parts (map (λ (t : ValType). Some t) types)) left ≡ Ok (all, rest)
    → FoundFields memory place end left types before all rest
fields_found [] told memory place end left rest before all h =
    let e = ok_same (before, left) (all, rest) h in
    let f : before ≡ all = ap (λ (p : List Value × ℕ). p.0) e in
    let g : left ≡ rest = ap (λ (p : List Value × ℕ). p.1) e in
    record { values = []; all_is = sym f ∙ sym (append-nil before); are = no_fields place end; count = omega (arith, g) }
fields_found (t ∷ types) told memory place end left rest before all h =
    let start : ℕ = aligned end (laid t).align in
    let others : List (Option Part) = parts (map (λ (t : ValType). Some t) types) in
    let a = after_ok (lift t memory (place + start) left) (λ v left. fields_from memory place (before ++ v ∷ []) (start + (laid t).size) others left) (all, rest) h in
    let f = told.0 memory (place + start) left a.left a.first a.was in
    let r = fields_found types told.1 memory place (start + (laid t).size) a.left rest (before ++ a.first ∷ []) all a.then_is in
    record {
      values = a.first ∷ r.values;
      all_is = r.all_is ∙ append_assoc before (a.first ∷ []) r.values;
      are = more_fields place end t types a.first r.values f.stands r.are;
      count = omega (arith, f.count, r.count);
    }

pub row_found : (t : ValType) (types : List ValType) → AllByRecursion Told types → IsRow (out-ValType t) → parts_of t ≡ map (λ (t : ValType). Some t) types
    → ((memory : List ℕ) (place : ℕ) (all : List Value) → AreFields memory place 0 types all → Stands memory place t (values.Record all)) → Told t
row_found t types told row e stands memory place left rest v h =
    let r = reached t memory place left rest v h in
    let all : Lifted (List Value) = fields_from memory place [] 0 (parts (map (λ (t : ValType). Some t) types)) (left - 1) in
    let found : made values.Record all ≡ Ok (v, rest) =
    sym (row_lift memory place (left - 1) t row ∙ ap (λ (ts : List (Option ValType)). made values.Record (fields_from memory place [] 0 (parts ts) (left - 1))) e) ∙ r.case in
    let m = made_ok values.Record all v rest found in
    let f = fields_found types told memory place 0 (left - 1) rest [] m.first m.was in
    let same : values.Record f.values ≡ v = ap (λ (l : List Value). values.Record l) (sym f.all_is) ∙ m.is in
    record {
      stands = subst (λ (v : Value). Stands memory place t v) same (stands memory place f.values f.are);
      count = subst (λ (v : Value). rest + counts v ≡ left) same (omega (arith, count_record f.values, f.count, r.one));
    }

-- Cases.
pub case_found : (t : ValType) → HasCases (out-ValType t) → ((n : ℕ) → n < case_count t → ToldRest (part_at t n))
    → ((memory : List ℕ) (place n : ℕ) (payload : Option Value) → tag (case_count t) place memory ≡ n → n < case_count t
    → IsPayload memory (place + payload_place t) (part_at t n) payload → Stands memory place t (values.Variant n payload))
    → Told t
case_found t kind told stands memory place left rest v h =
    let r = reached t memory place left rest v h in
    let n : ℕ = tag (case_count t) place memory in
    let found : Lifted (Option Value) = payload_of (part_in (parts (parts_of t)) n) memory (place + behind_tag (case_count t) (parts (parts_of t))) (left - 1) in
    let p = if_ok (nat_lt n (case_count t)) (made (values.Variant n) found) (trap BadCase place) (v, rest) (sym (cases_lift memory place (left - 1) t kind) ∙ r.case) in
    let low : n < case_count t = ltb-true n (case_count t) p.0 in
    let m = made_ok (values.Variant n) found v rest p.1 in
    let here : payload_of (option_map part (part_at t n)) memory (place + payload_place t) (left - 1) ≡ Ok (m.first, rest) =
    sym (ap (λ (o : Option Part). payload_of o memory (place + behind_tag (case_count t) (parts (parts_of t))) (left - 1)) (part_image (parts_of t) n)
    ∙ ap (λ (k : ℕ). payload_of (option_map part (part_at t n)) memory (place + k) (left - 1)) (payload_behind t)) ∙ m.was in
    let f = told n low memory (place + payload_place t) (left - 1) rest m.first here in
    record {
      stands = subst (λ (v : Value). Stands memory place t v) m.is (stands memory place n m.first refl low f.is);
      count = subst (λ (v : Value). rest + counts v ≡ left) m.is (omega (arith, count_variant n m.first, f.count, r.one));
    }

-- the same, where the outer layer is known
pub case_found_in : (t : ValType) (y : F.ValType-F ValType Case Field) → out-ValType t ≡ y → HasCases y → ((n : ℕ) → n < count_case y → ToldRest (part_in (parts_case y) n))
    → ((memory : List ℕ) (place n : ℕ) (payload : Option Value) → tag (count_case y) place memory ≡ n → n < count_case y
    → IsPayload memory (place + payload_place t) (part_in (parts_case y) n) payload → Stands memory place t (values.Variant n payload))
    → Told t
case_found_in t y e kind told stands =
    case_found t (subst HasCases (sym e) kind)
    (subst (λ (y : F.ValType-F ValType Case Field). (n : ℕ) → n < count_case y → ToldRest (part_in (parts_case y) n)) (sym e) told)
    (subst (λ (y : F.ValType-F ValType Case Field). (memory : List ℕ) (place n : ℕ) (payload : Option Value) → tag (count_case y) place memory ≡ n → n < count_case y
    → IsPayload memory (place + payload_place t) (part_in (parts_case y) n) payload → Stands memory place t (values.Variant n payload)) (sym e) stands)
