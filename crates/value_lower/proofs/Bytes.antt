-- The parts of a value of a type lie inside the bytes of the type's size.
use Rattle.std.proofs.Common.{◌≡◌, ◌∙◌, ◌≤◌, ◌+◌, ◌==◌, ℕ, zero, suc, Bool, true, cond, List, [], ◌∷◌, length, Option, Some, None, refl, ap, sym, arith}
use Rattle.std.proofs.lemmas.Bool.{cond_both, eqb-true}
use Rattle.std.specs.Prelude.{nat_le}
use Rattle.std.specs.List.{slice_get}
use Rattle.std.specs.Option.{option_and_then}
use Rattle.std.specs.Int.{byte_len}
use Rattle.syntax_trees.specs.declared.types.ValType.{ValType, out-ValType}
use Rattle.syntax_trees.specs.declared.types.ValType.TheOpen as F
use Rattle.syntax_trees.specs.declared.value.Value.{Value, out-Value}
use Rattle.syntax_trees.specs.declared.value.Value.TheOpen as V
use Rattle.syntax_trees.specs.declared.value.Value.TheVariants as plain
use Rattle.syntax_trees.specs.declared.value.Value.TheViews as values
use Rattle.syntax_trees.specs.declared.value.Value.TheViews.{roll-Value, roll-out-Value}
use Rattle.laid_types.specs.Layout.{Laid, laid, aligned, end_of, top_size, tagged, tag_size, bits_size}
use Rattle.laid_types.specs.Parts.{parts_of, parts_case, case_count, count_case, layouts}
use Rattle.laid_types.specs.Gathered.{laid_over}
use Rattle.laid_types.proofs.ByParts.{laid_by_parts}
use Rattle.value_lower.specs.Lowering.{plain_bytes, width_of}
use Rattle.value_lower.specs.Fitting.{HasBytes, HasCaseBytes, end_behind}
use Rattle.value_lower.proofs.Fitted.{Layer, tests_in, passes}

-- how a layer lies
abbrev lies : Layer → Laid
lies y = laid_over y (layouts (parts_case y))

size_is : (t : ValType) → (lies (out-ValType t)).size ≡ (laid t).size
size_is t = ap (λ (l : Laid). l.size) (sym (laid_by_parts t))

align_is : (t : ValType) → (lies (out-ValType t)).align ≡ (laid t).align
align_is t = ap (λ (l : Laid). l.align) (sym (laid_by_parts t))

-- Values without parts.
abbrev pub IsPlain : {A : Type 0} → V.Value-F A → Type 0
IsPlain (V.String text) = ⊥
IsPlain (V.List all) = ⊥
IsPlain (V.Record all) = ⊥
IsPlain (V.Variant n payload) = ⊥
IsPlain (V.Flags flags) = ⊥
IsPlain other = Unit {0}

plain_lies : (y : Layer) (w : V.Value-F Value) → passes (tests_in y) w ≡ true → IsPlain w → length (plain_bytes w) ≡ (lies y).size
plain_lies F.Bool (V.Bool b) h i = refl
plain_lies F.Bool other h i = cc
plain_lies F.S8 (V.S8 n) h i = refl
plain_lies F.S8 other h i = cc
plain_lies F.U8 (V.U8 n) h i = refl
plain_lies F.U8 other h i = cc
plain_lies F.S16 (V.S16 n) h i = refl
plain_lies F.S16 other h i = cc
plain_lies F.U16 (V.U16 n) h i = refl
plain_lies F.U16 other h i = cc
plain_lies F.S32 (V.S32 n) h i = refl
plain_lies F.S32 other h i = cc
plain_lies F.U32 (V.U32 n) h i = refl
plain_lies F.U32 other h i = cc
plain_lies F.S64 (V.S64 n) h i = refl
plain_lies F.S64 other h i = cc
plain_lies F.U64 (V.U64 n) h i = refl
plain_lies F.U64 other h i = cc
plain_lies F.Char (V.Char c) h i = refl
plain_lies F.Char other h i = cc
plain_lies F.String (V.String text) h i = absurd i
plain_lies F.String other h i = cc
plain_lies (F.Record fields) (V.Record all) h i = absurd i
plain_lies (F.Record fields) other h i = cc
plain_lies (F.Variant cases) (V.Variant n payload) h i = absurd i
plain_lies (F.Variant cases) other h i = cc
plain_lies (F.List element) (V.List all) h i = absurd i
plain_lies (F.List element) other h i = cc
plain_lies (F.Tuple parts) (V.Record all) h i = absurd i
plain_lies (F.Tuple parts) other h i = cc
plain_lies (F.Flags labels) (V.Flags flags) h i = absurd i
plain_lies (F.Flags labels) other h i = cc
plain_lies (F.Enum labels) (V.Variant n payload) h i = absurd i
plain_lies (F.Enum labels) other h i = cc
plain_lies (F.Option part) (V.Variant n payload) h i = absurd i
plain_lies (F.Option part) other h i = cc
plain_lies (F.Result ok err) (V.Variant n payload) h i = absurd i
plain_lies (F.Result ok err) other h i = cc
plain_lies (F.Own resource) (V.Own handle) h i = refl
plain_lies (F.Own resource) other h i = cc
plain_lies (F.Borrow resource) (V.Borrow handle) h i = refl
plain_lies (F.Borrow resource) other h i = cc
plain_lies (F.Stream element) (V.Stream number) h i = refl
plain_lies (F.Stream element) other h i = cc
plain_lies (F.Future element) (V.Future number) h i = refl
plain_lies (F.Future element) other h i = cc

some_bytes : {A : Type 0} (w : V.Value-F A) → IsPlain w → 1 ≤ length (plain_bytes w)
some_bytes (V.Bool b) i = omega arith
some_bytes (V.S8 n) i = omega arith
some_bytes (V.U8 n) i = omega arith
some_bytes (V.S16 n) i = omega arith
some_bytes (V.U16 n) i = omega arith
some_bytes (V.S32 n) i = omega arith
some_bytes (V.U32 n) i = omega arith
some_bytes (V.S64 n) i = omega arith
some_bytes (V.U64 n) i = omega arith
some_bytes (V.Char c) i = omega arith
some_bytes (V.Own handle) i = omega arith
some_bytes (V.Borrow handle) i = omega arith
some_bytes (V.Stream number) i = omega arith
some_bytes (V.Future number) i = omega arith
some_bytes other i = absurd i

pub plain_size : (t : ValType) (w : V.Value-F Value) → passes (tests_in (out-ValType t)) w ≡ true → IsPlain w → (1 ≤ length (plain_bytes w)) × (length (plain_bytes w) ≡ (laid t).size)
plain_size t w h i = (some_bytes w i, plain_lies (out-ValType t) w h i ∙ size_is t)

-- Texts and lists are a place and a number.
text_lies : (y : Layer) (text : List ℕ) → passes (tests_in y) (V.String text) ≡ true → (lies y).size ≡ 8
text_lies F.String text h = refl
text_lies other text h = cc

pub text_size : (t : ValType) (text : List ℕ) → passes (tests_in (out-ValType t)) (V.String text) ≡ true → (laid t).size ≡ 8
text_size t text h = sym (size_is t) ∙ text_lies (out-ValType t) text h

list_lies : (y : Layer) (all : List Value) → passes (tests_in y) (V.List all) ≡ true → (lies y).size ≡ 8
list_lies (F.List e) all h = refl
list_lies other all h = cc

pub list_size : (t : ValType) (all : List Value) → passes (tests_in (out-ValType t)) (V.List all) ≡ true → (laid t).size ≡ 8
list_size t all h = sym (size_is t) ∙ list_lies (out-ValType t) all h

-- Flags.
same_count : (n m : ℕ) → (n == m) ≡ true → n ≡ m
same_count n m h = eqb-true n m h

flags_lie : (y : Layer) (flags : List Bool) → passes (tests_in y) (V.Flags flags) ≡ true → ((lies y).size ≡ bits_size (length flags)) × ((lies y).align ≡ bits_size (length flags))
flags_lie (F.Flags labels) flags h =
    let e : length labels ≡ length flags = sym (same_count (length flags) (length labels) h) in
    (ap bits_size e, ap bits_size e)
flags_lie other flags h = cc

pub flags_size : (t : ValType) (flags : List Bool) → passes (tests_in (out-ValType t)) (V.Flags flags) ≡ true
    → ((laid t).size ≡ bits_size (length flags)) × ((laid t).align ≡ bits_size (length flags))
flags_size t flags h =
    let l = flags_lie (out-ValType t) flags h in
    (sym (size_is t) ∙ l.0, sym (align_is t) ∙ l.1)

-- Records.
pub end_up : (types : List (Option ValType)) (end : ℕ) → end ≤ end_behind end types
end_up [] end = omega arith
end_up (None ∷ types) end = end_up types end
end_up (Some t ∷ types) end = omega (arith, end_up types (aligned end (laid t).align + (laid t).size))

ends : (types : List (Option ValType)) (end : ℕ) → end_behind end types ≡ end_of end (layouts types)
ends [] end = refl
ends (None ∷ types) end = ends types end
ends (Some t ∷ types) end = ends types (aligned end (laid t).align + (laid t).size)

row_lies : (y : Layer) (all : List Value) → passes (tests_in y) (V.Record all) ≡ true → end_behind 0 (parts_case y) ≤ (lies y).size
row_lies (F.Record fields) all h = omega (arith, ends (parts_case (F.Record fields)) 0)
row_lies (F.Tuple parts) all h = omega (arith, ends (parts_case (F.Tuple parts)) 0)
row_lies other all h = cc

pub row_size : (t : ValType) (all : List Value) → passes (tests_in (out-ValType t)) (V.Record all) ≡ true → end_behind 0 (parts_of t) ≤ (laid t).size
row_size t all h = omega (arith, row_lies (out-ValType t) all h, size_is t)

-- Cases.
cases_lie : (y : Layer) (n : ℕ) (payload : Option Value) → passes (tests_in y) (V.Variant n payload) ≡ true → lies y ≡ tagged (count_case y) (layouts (parts_case y))
cases_lie (F.Variant cases) n payload h = refl
cases_lie (F.Enum labels) n payload h = refl
cases_lie (F.Option part) n payload h = refl
cases_lie (F.Result ok err) n payload h = refl
cases_lie other n payload h = cc

largest : (types : List (Option ValType)) (n : ℕ) (p : ValType) → option_and_then (λ part. part) (slice_get types n) ≡ Some p → (laid p).size ≤ top_size (layouts types)
largest [] n p h = cc
largest (None ∷ types) zero p h = cc
largest (Some t ∷ types) zero p h =
    let e : t ≡ p = cc in
    let f : (laid t).size ≡ (laid p).size = ap (λ (t : ValType). (laid t).size) e in
    omega (arith, f)
largest (None ∷ types) (suc n) p h = largest types n p h
largest (Some t ∷ types) (suc n) p h = omega (arith, largest types n p h)

pub case_bytes : (t : ValType) (place there n : ℕ) (payload : Option Value) → passes (tests_in (out-ValType t)) (V.Variant n payload) ≡ true → HasBytes place (laid t).size there → HasCaseBytes t place there
case_bytes t place there n payload h b =
    let e : (laid t).size ≡ (tagged (case_count t) (layouts (parts_of t))).size =
    sym (size_is t) ∙ ap (λ (l : Laid). l.size) (cases_lie (out-ValType t) n payload h) in
    record {
      tag = record { inside = omega (arith, e, b.inside); reach = omega (arith, e, b.reach) };
      payload = λ m p i. record { inside = omega (arith, e, b.inside, largest (parts_of t) m p i); reach = omega (arith, e, b.reach, largest (parts_of t) m p i) };
    }

-- the bytes of a number of 1, 2 or 4 bytes
pub tag_bytes : (n : ℕ) → byte_len (width_of (tag_size n)) ≡ tag_size n
tag_bytes n =
    cond_both (nat_le n 256) 1 (cond (nat_le n 65536) 2 4) (λ (k : ℕ). byte_len (width_of k) ≡ k) (λ e. refl)
    (λ e. cond_both (nat_le n 65536) 2 4 (λ (k : ℕ). byte_len (width_of k) ≡ k) (λ f. refl) (λ f. refl))

pub flag_bytes : (n : ℕ) → byte_len (width_of (bits_size n)) ≡ bits_size n
flag_bytes n =
    cond_both (nat_le n 8) 1 (cond (nat_le n 16) 2 4) (λ (k : ℕ). byte_len (width_of k) ≡ k) (λ e. refl)
    (λ e. cond_both (nat_le n 16) 2 4 (λ (k : ℕ). byte_len (width_of k) ≡ k) (λ f. refl) (λ f. refl))

-- a value that has none of the forms with parts
pub is_plain : (v : Value) → ((x : _) → v ≡ plain.String x → ⊥) → ((x : _) → v ≡ values.List x → ⊥) → ((x : _) → v ≡ values.Record x → ⊥)
    → ((x : _) (p : _) → v ≡ values.Variant x p → ⊥) → ((x : _) → v ≡ plain.Flags x → ⊥) → IsPlain (out-Value v)
is_plain v a b c d e =
    elim (out-Value v) as (λ (w : V.Value-F Value). (roll-Value w ≡ v → IsPlain w)) [
      | V.String x ↦ λ s. a x (sym s ∙ plain.rolls-String x)
      | V.List x ↦ λ s. b x (sym s ∙ plain.rolls-List x)
      | V.Record x ↦ λ s. c x (sym s ∙ plain.rolls-Record x)
      | V.Variant x p ↦ λ s. d x p (sym s ∙ plain.rolls-Variant x p)
      | V.Flags x ↦ λ s. e x (sym s ∙ plain.rolls-Flags x)
      | other ↦ λ s. tt
    ] (roll-out-Value v)
