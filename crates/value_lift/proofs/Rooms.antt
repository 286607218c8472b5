-- The parts of a value lie inside its bytes.
use Rattle.std.proofs.Common.{◌≡◌, ◌∙◌, ◌≤◌, ◌<◌, ◌+◌, ◌*◌, ◌^◌, ℕ, zero, suc, min, true, cond, List, [], ◌∷◌, length, map, Option, Some, None, refl, ap, sym, arith, inl, inr, suc-mul, zero-mul}
use Rattle.std.proofs.lemmas.Bool.{cond_both, lt-leb, leb-true, cases_lt}
use Rattle.std.specs.Prelude.{nat_le}
use Rattle.std.proofs.lemmas.List.{length-map}
use Rattle.std.specs.List.{slice_get}
use Rattle.std.specs.Option.{option_and_then}
use Rattle.std.specs.Int.{byte_len}
use Rattle.syntax_trees.specs.declared.types.ValType.{ValType, out-ValType}
use Rattle.syntax_trees.specs.declared.types.Case.{Case}
use Rattle.syntax_trees.specs.declared.types.Field.{Field}
use Rattle.syntax_trees.specs.declared.types.ValType.TheOpen as F
use Rattle.laid_types.specs.Layout.{Laid, laid, laid_step, laid_payload, aligned, end_of, top_align, top_size, there, tagged, tag_size, bits_size}
use Rattle.syntax_trees.proofs.Folds.{held}
use Rattle.laid_types.specs.Parts.{parts_of, parts_case, part_at, case_count, count_case, payload_place, layouts}
use Rattle.value_lift.specs.Bytes.{is_inside, width_of}
use Rattle.value_lift.specs.Ledger.{Ledger}
use Rattle.value_lift.specs.Answers.{plainly}
use Rattle.value_lift.specs.Over.{parts, laid_of, behind_tag}
use Rattle.value_lift.specs.Lifting as plain
use Rattle.value_lift.specs.Room.{end_behind, HasCaseRoom}
use Rattle.value_lift.proofs.Equations.{layouts_in, laid_is}
use Rattle.value_lift.proofs.Forms.{IsRow, HasCases}

-- Records.
fields_end : (fields : List Field) (end : ℕ) → end_behind end (map (λ (f : Field). Some f.val_type) fields) ≡ end_of end (map (λ (f : Field). laid f.val_type) fields)
fields_end [] end = refl
fields_end (f ∷ fields) end = fields_end fields (aligned end (laid f.val_type).align + (laid f.val_type).size)

places_end : (types : List ValType) (end : ℕ) → end_behind end (map Some types) ≡ end_of end (map laid types)
places_end [] end = refl
places_end (t ∷ types) end = places_end types (aligned end (laid t).align + (laid t).size)

row_inside : (y : F.ValType-F ValType Case Field) → IsRow y → end_behind 0 (parts_case y) ≤ (laid_step (layouts_in y)).size
row_inside (F.Record fields) h = omega (arith, fields_end fields 0)
row_inside (F.Tuple types) h = omega (arith, places_end types 0)
row_inside other h = absurd h

pub row_room : (t : ValType) → IsRow (out-ValType t) → end_behind 0 (parts_of t) ≤ (laid t).size
row_room t h =
    let e : (laid_step (layouts_in (out-ValType t))).size ≡ (laid t).size = ap (λ (l : Laid). l.size) (sym (laid_is t)) in
    omega (arith, e, row_inside (out-ValType t) h)

-- parts end no earlier than they begin
pub end_up : (types : List (Option ValType)) (end : ℕ) → end ≤ end_behind end types
end_up [] end = omega arith
end_up (None ∷ types) end = end_up types end
end_up (Some t ∷ types) end = omega (arith, end_up types (aligned end (laid t).align + (laid t).size))

-- Cases.
payload_laid : (p : Option ValType) → held laid p ≡ laid_payload p
payload_laid (Some p) = refl
payload_laid None = refl

cases_laid : (cases : List Case) → map (λ (c : Case). held laid c.payload) cases ≡ map laid_payload (map (λ (c : Case). c.payload) cases)
cases_laid [] = refl
cases_laid (c ∷ cases) =
    ap (λ (l : Option Laid). l ∷ map (λ (c : Case). held laid c.payload) cases) (payload_laid c.payload)
    ∙ ap (λ (ls : List (Option Laid)). laid_payload c.payload ∷ ls) (cases_laid cases)

tagged_layer : (y : F.ValType-F ValType Case Field) → HasCases y → laid_step (layouts_in y) ≡ tagged (count_case y) (layouts (parts_case y))
tagged_layer (F.Variant cases) h =
    ap (λ (n : ℕ). tagged n (there (map (λ (c : Case). held laid c.payload) cases))) (length-map cases (λ (c : Case). held laid c.payload))
    ∙ ap (λ (ls : List (Option Laid)). tagged (length cases) (there ls)) (cases_laid cases)
tagged_layer (F.Enum labels) h = refl
tagged_layer (F.Option p) h = refl
tagged_layer (F.Result None None) h = refl
tagged_layer (F.Result None (Some e)) h = refl
tagged_layer (F.Result (Some o) None) h = refl
tagged_layer (F.Result (Some o) (Some e)) h = refl
tagged_layer other h = absurd h

pub tagged_is : (t : ValType) → HasCases (out-ValType t) → laid t ≡ tagged (case_count t) (layouts (parts_of t))
tagged_is t h = laid_is t ∙ tagged_layer (out-ValType t) h

largest : (types : List (Option ValType)) (n : ℕ) (p : ValType) → option_and_then (λ part. part) (slice_get types n) ≡ Some p → (laid p).size ≤ top_size (layouts types)
largest [] n p h = cc
largest (None ∷ types) zero p h = cc
largest (Some t ∷ types) zero p h =
    let e : t ≡ p = cc in
    let f : (laid t).size ≡ (laid p).size = ap (λ (t : ValType). (laid t).size) e in
    omega (arith, f)
largest (None ∷ types) (suc n) p h = largest types n p h
largest (Some t ∷ types) (suc n) p h = omega (arith, largest types n p h)

tag_inside : (t : ValType) → HasCases (out-ValType t) → tag_size (case_count t) ≤ (laid t).size
tag_inside t h =
    let e : (laid t).size ≡ (tagged (case_count t) (layouts (parts_of t))).size = ap (λ (l : Laid). l.size) (tagged_is t h) in
    omega (arith, e)

payload_inside : (t : ValType) (n : ℕ) (p : ValType) → HasCases (out-ValType t) → part_at t n ≡ Some p → payload_place t + (laid p).size ≤ (laid t).size
payload_inside t n p h i =
    let e : (laid t).size ≡ (tagged (case_count t) (layouts (parts_of t))).size = ap (λ (l : Laid). l.size) (tagged_is t h) in
    omega (arith, e, largest (parts_of t) n p i)

pub case_room : (t : ValType) (place : ℕ) (memory : List ℕ) → HasCases (out-ValType t) → place + (laid t).size ≤ length memory → HasCaseRoom t place memory
case_room t place memory h i = record {
  tag = omega (arith, tag_inside t h);
  payload = λ n p e. omega (arith, payload_inside t n p h e);
}

-- where a payload stands, over the parts
laid_parts : {S G : Type 0} (led : Ledger S G) (types : List (Option ValType)) → map laid_of (parts led types) ≡ map laid_payload types
laid_parts led [] = refl
laid_parts led (None ∷ types) = ap (λ (ls : List (Option Laid)). None ∷ ls) (laid_parts led types)
laid_parts led (Some t ∷ types) = ap (λ (ls : List (Option Laid)). Some (laid t) ∷ ls) (laid_parts led types)

pub payload_behind_over : {S G : Type 0} (led : Ledger S G) (t : ValType) → behind_tag (case_count t) (parts led (parts_of t)) ≡ payload_place t
payload_behind_over led t = ap (λ (ls : List (Option Laid)). aligned (tag_size (case_count t)) (top_align (there ls))) (laid_parts led (parts_of t))

pub payload_behind : (t : ValType) → behind_tag (case_count t) (plain.parts (parts_of t)) ≡ payload_place t
payload_behind = payload_behind_over plainly

-- the bytes of a number of 1, 2 or 4 bytes
pub tag_bytes : (n : ℕ) → byte_len (width_of (tag_size n)) ≡ tag_size n
tag_bytes n =
    cond_both (nat_le n 256) 1 (cond (nat_le n 65536) 2 4) (λ (k : ℕ). byte_len (width_of k) ≡ k) (λ e. refl)
    (λ e. cond_both (nat_le n 65536) 2 4 (λ (k : ℕ). byte_len (width_of k) ≡ k) (λ f. refl) (λ f. refl))

pub flag_bytes : (n : ℕ) → byte_len (width_of (bits_size n)) ≡ bits_size n
flag_bytes n =
    cond_both (nat_le n 8) 1 (cond (nat_le n 16) 2 4) (λ (k : ℕ). byte_len (width_of k) ≡ k) (λ e. refl)
    (λ e. cond_both (nat_le n 16) 2 4 (λ (k : ℕ). byte_len (width_of k) ≡ k) (λ f. refl) (λ f. refl))

-- What is inside, also where a size is limited.
at_least_one : (k n : ℕ) → n ≤ suc k * n
at_least_one k n = rw suc-mul (omega arith)

both_past : (place a b n : ℕ) → n < a → n < b → nat_le (place + a) n ≡ nat_le (place + b) n
both_past place a b n h i = lt-leb (place + a) n (omega arith) ∙ sym (lt-leb (place + b) n (omega arith))

large_sizes : (place count size n : ℕ) → n < 2 ^ 64 → 2 ^ 64 < size → nat_le (place + count * 2 ^ 64) n ≡ nat_le (place + count * size) n
large_sizes place zero size n h i = rw (zero-mul, zero-mul) refl
large_sizes place (suc k) size n h i =
    let low : 2 ^ 64 ≤ suc k * 2 ^ 64 = at_least_one k (2 ^ 64) in
    let high : size ≤ suc k * size = at_least_one k size in
    both_past place (suc k * 2 ^ 64) (suc k * size) n (omega arith) (omega arith)

pub inside_limited : (place count size : ℕ) (memory : List ℕ) → length memory < 2 ^ 64 → is_inside place (count * min size (2 ^ 64)) memory ≡ is_inside place (count * size) memory
inside_limited place count size memory h =
    elim (cases_lt (2 ^ 64) size) [
      | inl past ↦
          let e : min size (2 ^ 64) ≡ 2 ^ 64 = omega arith in
          ap (λ (k : ℕ). is_inside place (count * k) memory) e ∙ large_sizes place count size (length memory) h past
      | inr low ↦
          let e : min size (2 ^ 64) ≡ size = omega arith in
          ap (λ (k : ℕ). is_inside place (count * k) memory) e
    ]

pub one_limited : (place size : ℕ) (memory : List ℕ) → length memory < 2 ^ 64 → is_inside place (min size (2 ^ 64)) memory ≡ is_inside place size memory
one_limited place size memory h =
    elim (cases_lt (2 ^ 64) size) [
      | inl past ↦
          let e : min size (2 ^ 64) ≡ 2 ^ 64 = omega arith in
          ap (λ (k : ℕ). is_inside place k memory) e ∙ both_past place (2 ^ 64) size (length memory) h (omega arith)
      | inr low ↦
          let e : min size (2 ^ 64) ≡ size = omega arith in
          ap (λ (k : ℕ). is_inside place k memory) e
    ]

pub inside_true : (place count : ℕ) (memory : List ℕ) → is_inside place count memory ≡ true → place + count ≤ length memory
inside_true place count memory h = leb-true (place + count) (length memory) h
