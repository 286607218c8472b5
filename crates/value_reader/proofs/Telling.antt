-- What is read is a text of the value.
use Rattle.std.proofs.Common.{◌≡◌, ◌∙◌, ◌⊎◌, inl, inr, ℕ, ◌≤◌, List, [], ◌∷◌, ◌++◌, map, codes, cond, true, false, Option, Some, None, refl, sym, ap, subst, append_assoc, append-nil, zero, suc, arith}
use Rattle.std.specs.Prelude.{ℤ}
use Rattle.std.specs.Option.{option_map, option_and_then}
use Rattle.std.specs.List.{slice_get, AllByRecursion}
use Rattle.std.specs.Char.{encode_utf8, IsScalar}
use Rattle.std.specs.Str.{IsUtf8, is_utf8, chars, encode_utf8_all, all_scalars, bytes_eq}
use Rattle.std.proofs.lemmas.Bool.{and_parts}
use Rattle.std.proofs.lemmas.Str.{IsUtf8-from_is_utf8, encodes-chars, scalars-chars}
use Rattle.std.proofs.lemmas.Slice.Eq.{bytes_eq-Decides}
use Rattle.std.proofs.lemmas.List.Quantifiers.{position-Some}
use Rattle.std.proofs.lemmas.Option.{get_or_from_slice_get}
use Rattle.syntax_trees.specs.declared.types.ValType.{ValType}
use Rattle.syntax_trees.specs.declared.types.Case.{Case}
use Rattle.syntax_trees.specs.declared.types.Field.{Field}
use Rattle.syntax_trees.specs.declared.types.ValType.TheViews as types
use Rattle.syntax_trees.specs.declared.types.ValType.TheVariants as leaves
use Rattle.syntax_trees.specs.declared.value.Value.{Value}
use Rattle.syntax_trees.specs.declared.value.Value.TheViews as values
use Rattle.syntax_trees.specs.declared.value.Value.TheVariants as plain
use Rattle.syntax_trees.specs.ValueText.{Labelled}
use Rattle.syntax_trees.proofs.Parts.{get_image}
use Rattle.value_reader.specs.Tokens.{without_blanks, after, after_mark, label_of, behind_label, unsigned_at, signed_at}
use Rattle.value_reader.specs.Quoted.{literal_at, string_at, char_at, only}
use Rattle.value_reader.specs.Syntax.{IsNumber, IsSigned, IsInRange}
use Rattle.value_reader.specs.Values.{Reader, reader, payload_reader, field_reader, case_reader, found, word_or, values_at, flags_in, payload_at, rest_at, case_at, chosen_at, either_at, elements_at, place_of}
use Rattle.value_reader.specs.Written.{IsLabel, bare, named, place_of_field, case_labels, IsText, IsPayload, true_text, false_text, s8_text, u8_text, s16_text, u16_text, s32_text, u32_text, s64_text, u64_text, char_text, string_text, record_text, tuple_text, list_text, flags_text, enum_text, case_text, none_text, some_text, ok_text, err_text, no_payload, payload_text, bare_text, labelled_text, spaced_text}
use Rattle.value_reader.proofs.Cases.{some_inj, none_is_no_some, passed_some, cases_Option, mapped_some, chained_some}
use Rattle.value_reader.proofs.Words.{after_told}
use Rattle.value_reader.proofs.NumberTexts.{numbers_are_texts, signed_are_texts}
use Rattle.value_reader.proofs.Literals.{literals_are_texts}
use Rattle.value_reader.proofs.Marks.{blanks_before, mark_told}
use Rattle.value_reader.proofs.LabelTexts.{label_is, label_and_rest}
use Rattle.value_reader.proofs.FlagTexts.{flags_told}
use Rattle.value_reader.proofs.TextsRead.{place_reader, readers_of_parts, readers_of_fields}
use Rattle.value_reader.proofs.SequencesTold.{ToldPlace, values_told, list_told}
use Rattle.value_reader.proofs.ReaderEquations.{reader_of_tuple, reader_of_list, reader_of_option, reader_of_record, reader_of_variant, reader_of_result, labels_of_cases}
use Rattle.value_reader.proofs.LeafEquations.{reader_of_bool, reader_of_s8, reader_of_u8, reader_of_s16, reader_of_u16, reader_of_s32, reader_of_u32, reader_of_s64, reader_of_u64, reader_of_char, reader_of_string, reader_of_flags, reader_of_enum}

abbrev Found : Type 0
Found = Value × List ℕ

-- What the reader of a type finds is a text of a value of the type.
abbrev pub Told : ValType → Type 0
Told t = (text rest : List ℕ) (v : Value) → reader t text ≡ Some (v, rest) → (written : List ℕ) × (text ≡ written ++ rest) × IsText t v written

abbrev pub ToldRest : Option ValType → Type 0
ToldRest t = (text rest : List ℕ) (v : Option Value) → rest_at (payload_reader t) text ≡ Some (v, rest) → (written : List ℕ) × (text ≡ written ++ rest) × IsPayload t v written

-- what was found, where it is a value of something
found_told : {A : Type 0} (make : A → Value) (o : Option (A × List ℕ)) (v : Value) (rest : List ℕ) → found make o ≡ Some (v, rest) → (x : A) × (o ≡ Some (x, rest)) × (make x ≡ v)
found_told make o v rest h =
    let m = mapped_some {B = Found} (λ q. (make q.0, q.1)) o (v, rest) h in
    let same : make m.0.0 ≡ v = ap (λ (p : Found). p.0) m.2 in
    let there : m.0.1 ≡ rest = ap (λ (p : Found). p.1) m.2 in
    (m.0.0, m.1 ∙ ap (λ (l : List ℕ). Some (m.0.0, l)) there, same)

-- Truth values.
word_told : (v w : Value) (o : Option (List ℕ)) (other : Option Found) (rest : List ℕ) → word_or v o other ≡ Some (w, rest)
    → ((o ≡ Some rest) × (v ≡ w)) ⊎ (other ≡ Some (w, rest))
word_told v w (Some l) other rest h =
    let both = some_inj h in
    let there : l ≡ rest = ap (λ (p : Found). p.1) both in
    inl (ap (λ (l : List ℕ). Some l) there, ap (λ (p : Found). p.0) both)
word_told v w None other rest h = inr h

pub told_bool : Told leaves.Bool
told_bool text rest v h =
    elim (word_told (plain.Bool true) v (after (codes "true") text) (word_or (plain.Bool false) (after (codes "false") text) None) rest (sym (reader_of_bool text) ∙ h)) [
      | inl w ↦ (codes "true", after_told (codes "true") text rest w.0, subst (λ (x : Value). IsText leaves.Bool x (codes "true")) w.1 true_text)
      | inr w ↦
          elim (word_told (plain.Bool false) v (after (codes "false") text) None rest w) [
            | inl u ↦ (codes "false", after_told (codes "false") text rest u.0, subst (λ (x : Value). IsText leaves.Bool x (codes "false")) u.1 false_text)
            | inr u ↦ cc
          ]
    ]

-- Numbers.
unsigned_told : (t : ValType) (most : ℕ) (make : ℕ → Value) → ((n : ℕ) (text : List ℕ) → IsNumber 10 text n → n ≤ most → IsText t (make n) text)
    → ((text : List ℕ) → reader t text ≡ found make (unsigned_at most text)) → Told t
unsigned_told t most make is same text rest v h =
    let f = found_told make (unsigned_at most text) v rest (sym (same text) ∙ h) in
    let u = (numbers_are_texts most f.0 text rest).0 f.1 in
    (u.0, u.1, subst (λ (x : Value). IsText t x u.0) f.2 (is f.0 u.0 u.2 u.3))

signed_told : (t : ValType) (most : ℕ) (make : ℤ → Value) → ((n : ℤ) (text : List ℕ) → IsSigned text n → IsInRange most n → IsText t (make n) text)
    → ((text : List ℕ) → reader t text ≡ found make (signed_at most text)) → Told t
signed_told t most make is same text rest v h =
    let f = found_told make (signed_at most text) v rest (sym (same text) ∙ h) in
    let u = (signed_are_texts most f.0 text rest).0 f.1 in
    (u.0, u.1, subst (λ (x : Value). IsText t x u.0) f.2 (is f.0 u.0 u.2 u.3))

pub told_s8 : Told leaves.S8
told_s8 = signed_told leaves.S8 0x7F plain.S8 s8_text reader_of_s8

pub told_u8 : Told leaves.U8
told_u8 = unsigned_told leaves.U8 0xFF plain.U8 u8_text reader_of_u8

pub told_s16 : Told leaves.S16
told_s16 = signed_told leaves.S16 0x7FFF plain.S16 s16_text reader_of_s16

pub told_u16 : Told leaves.U16
told_u16 = unsigned_told leaves.U16 0xFFFF plain.U16 u16_text reader_of_u16

pub told_s32 : Told leaves.S32
told_s32 = signed_told leaves.S32 0x7FFFFFFF plain.S32 s32_text reader_of_s32

pub told_u32 : Told leaves.U32
told_u32 = unsigned_told leaves.U32 0xFFFFFFFF plain.U32 u32_text reader_of_u32

pub told_s64 : Told leaves.S64
told_s64 = signed_told leaves.S64 0x7FFFFFFFFFFFFFFF plain.S64 s64_text reader_of_s64

pub told_u64 : Told leaves.U64
told_u64 = unsigned_told leaves.U64 0xFFFFFFFFFFFFFFFF plain.U64 u64_text reader_of_u64

-- Texts and characters.
pub told_string : Told leaves.String
told_string text rest v h =
    let f = found_told plain.String (string_at text) v rest (sym (reader_of_string text) ∙ h) in
    let c = chained_some (λ (p : List ℕ × List ℕ). cond (is_utf8 p.0) (Some p) None) (literal_at 34 text) (f.0, rest) f.1 in
    let passed = passed_some (is_utf8 c.0.0) (Some c.0) (f.0, rest) c.2 in
    let both = some_inj passed.1 in
    let same : c.0.0 ≡ f.0 = ap (λ (p : List ℕ × List ℕ). p.0) both in
    let read : literal_at 34 text ≡ Some (f.0, rest) = c.1 ∙ passed.1 in
    let u = (literals_are_texts 34 text f.0 rest (λ e. absurd (omega (arith, e)))).0 read in
    let utf8 : IsUtf8 f.0 = IsUtf8-from_is_utf8 f.0 (ap is_utf8 (sym same) ∙ passed.0) in
    (u.0, u.1, subst (λ (x : Value). IsText leaves.String x u.0) f.2 (string_text f.0 u.0 u.2 utf8))

only_told : (cs : List ℕ) (c : ℕ) → only cs ≡ Some c → cs ≡ c ∷ []
only_told [] c h = cc
only_told (d ∷ []) c h = ap (λ (x : ℕ). x ∷ []) (some_inj h)
only_told (d ∷ e ∷ cs) c h = cc

pub told_char : Told leaves.Char
told_char text rest v h =
    let f = found_told plain.Char (char_at text) v rest (sym (reader_of_char text) ∙ h) in
    let k = chained_some (λ (p : List ℕ × List ℕ). cond (is_utf8 p.0) (option_map (λ (c : ℕ). (c, p.1)) (only (chars p.0))) None) (literal_at 39 text) (f.0, rest) f.1 in
    let bytes = k.0.0 in
    let passed = passed_some (is_utf8 bytes) (option_map (λ (c : ℕ). (c, k.0.1)) (only (chars bytes))) (f.0, rest) k.2 in
    let m = mapped_some {B = ℕ × List ℕ} (λ (c : ℕ). (c, k.0.1)) (only (chars bytes)) (f.0, rest) passed.1 in
    let same : m.0 ≡ f.0 = ap (λ (p : ℕ × List ℕ). p.0) m.2 in
    let there : k.0.1 ≡ rest = ap (λ (p : ℕ × List ℕ). p.1) m.2 in
    let one : chars bytes ≡ f.0 ∷ [] = only_told (chars bytes) f.0 (m.1 ∙ ap (λ (c : ℕ). Some c) same) in
    let utf8 : IsUtf8 bytes = IsUtf8-from_is_utf8 bytes passed.0 in
    let is : bytes ≡ encode_utf8 f.0 = sym (encodes-chars bytes utf8) ∙ ap encode_utf8_all one ∙ append-nil (encode_utf8 f.0) in
    let scalars : all_scalars (f.0 ∷ []) ≡ true = subst (λ (l : List ℕ). all_scalars l ≡ true) one (scalars-chars bytes utf8) in
    let scalar : IsScalar f.0 = (and_parts _ true scalars).0 in
    let read : literal_at 39 text ≡ Some (encode_utf8 f.0, rest) = k.1 ∙ ap (λ (l : List ℕ). Some (bytes, l)) there ∙ ap (λ (l : List ℕ). Some (l, rest)) is in
    let u = (literals_are_texts 39 text (encode_utf8 f.0) rest (λ e. absurd (omega (arith, e)))).0 read in
    (u.0, u.1, subst (λ (x : Value). IsText leaves.Char x u.0) f.2 (char_text f.0 u.0 u.2 scalar))

-- Flags and enums.
pub told_flags : (labels : List (List ℕ)) → Told (leaves.Flags labels)
told_flags labels text rest v h =
    let f = found_told plain.Flags (flags_in labels text) v rest (sym (reader_of_flags labels text) ∙ h) in
    let u = flags_told labels f.0 text rest f.1 in (
      123 ∷ (u.0 ++ 125 ∷ []),
      u.1 ∙ ap (λ (l : List ℕ). 123 ∷ l) (sym (append_assoc u.0 (125 ∷ []) rest)),
      subst (λ (x : Value). IsText (leaves.Flags labels) x (123 ∷ (u.0 ++ 125 ∷ []))) f.2 (flags_text labels f.0 u.0 u.2 u.3 u.4),
    )

pub told_enum : (labels : List (List ℕ)) → Told (leaves.Enum labels)
told_enum labels text rest v h =
    let m = mapped_some {B = Found} (λ (n : ℕ). (values.Variant n None, behind_label text)) (place_of (label_of text) labels) (v, rest) (sym (reader_of_enum labels text) ∙ h) in
    let same : values.Variant m.0 None ≡ v = ap (λ (p : Found). p.0) m.2 in
    let there : behind_label text ≡ rest = ap (λ (p : Found). p.1) m.2 in (
      label_of text,
      label_and_rest text ∙ ap (λ (l : List ℕ). label_of text ++ l) there,
      subst (λ (x : Value). IsText (leaves.Enum labels) x (label_of text)) same (enum_text labels m.0 (label_of text) (label_is text) m.1),
    )

-- Payloads.
payload_parts : (text blanks more word before written left behind rest : List ℕ) → text ≡ blanks ++ 40 ∷ more → more ≡ before ++ word → word ≡ written ++ left → left ≡ behind ++ 41 ∷ rest
    → text ≡ (blanks ++ codes "(" ++ (before ++ written ++ behind) ++ codes ")") ++ rest
payload_parts text blanks more word before written left behind rest e f g h = rw (e, f, g, h) (simp append_assoc)

pub told_payload : (t : ValType) → Told t → ToldRest (Some t)
told_payload t told text rest v h =
    let m = mapped_some {B = Option Value × List ℕ} (λ (p : Found). (Some p.0, p.1)) (payload_at (reader t) text) (v, rest) h in
    let same : Some m.0.0 ≡ v = ap (λ (p : Option Value × List ℕ). p.0) m.2 in
    let there : m.0.1 ≡ rest = ap (λ (p : Option Value × List ℕ). p.1) m.2 in
    let k = chained_some {B = Found} (λ (p : Found). option_map (λ (rest : List ℕ). (p.0, rest)) (after_mark 41 p.1)) (option_and_then (λ (rest : List ℕ). reader t (without_blanks rest)) (after_mark 40 text)) m.0 m.1 in
    let left = k.0.1 in
    let closed = mapped_some {B = Found} (λ (rest : List ℕ). (k.0.0, rest)) (after_mark 41 left) m.0 k.2 in
    let value : k.0.0 ≡ m.0.0 = ap (λ (p : Found). p.0) closed.2 in
    let end : closed.0 ≡ m.0.1 = ap (λ (p : Found). p.1) closed.2 in
    let begun = chained_some {B = Found} (λ (rest : List ℕ). reader t (without_blanks rest)) (after_mark 40 text) k.0 k.1 in
    let here = told (without_blanks begun.0) left k.0.0 begun.2 in
    let first = mark_told 40 text begun.0 begun.1 in
    let last = mark_told 41 left rest (closed.1 ∙ ap (λ (l : List ℕ). Some l) (end ∙ there)) in
    let start = blanks_before begun.0 in
    let inner = start.0 ++ here.0 ++ last.0 in
    let written = first.0 ++ codes "(" ++ inner ++ codes ")" in
    let is : IsPayload (Some t) (Some k.0.0) written = payload_text t k.0.0 first.0 inner first.2 (spaced_text (bare t) k.0.0 start.0 here.0 last.0 start.2 (bare_text t k.0.0 here.0 here.2) last.2) in (
      written,
      payload_parts text first.0 begun.0 (without_blanks begun.0) start.0 here.0 left last.0 rest first.1 start.1 here.1 last.1,
      subst (λ (x : Option Value). IsPayload (Some t) x written) (ap (λ (x : Value). Some x) value ∙ same) is,
    )

pub told_nothing : ToldRest None
told_nothing text rest v h =
    let both = some_inj h in
    let same : None ≡ v = ap (λ (p : Option Value × List ℕ). p.0) both in
    let there : text ≡ rest = ap (λ (p : Option Value × List ℕ). p.1) both in
    ([], there, subst (λ (x : Option Value). IsPayload None x []) same no_payload)

case_told : (n : ℕ) (t : Option ValType) → ToldRest t → (text rest : List ℕ) (v : Value) → case_at n (payload_reader t) text ≡ Some (v, rest)
    → (payload : Option Value) × (written : List ℕ) × (values.Variant n payload ≡ v) × (text ≡ written ++ rest) × IsPayload t payload written
case_told n t told text rest v h =
    let f = found_told (values.Variant n) (rest_at (payload_reader t) text) v rest h in
    let u = told text rest f.0 f.1 in
    (f.0, u.0, f.2, u.1, u.2)

-- Options and results.
either_told : (first second : Reader) (o p : Option (List ℕ)) (x : Found) → either_at first o second p ≡ Some x
    → ((l : List ℕ) × (o ≡ Some l) × (first l ≡ Some x)) ⊎ ((l : List ℕ) × (p ≡ Some l) × (second l ≡ Some x))
either_told first second (Some l) p x h = inl (l, refl, h)
either_told first second None (Some l) x h = inr (l, refl, h)
either_told first second None None x h = cc

behind_word : (text word left written rest : List ℕ) → text ≡ word ++ left → left ≡ written ++ rest → text ≡ (word ++ written) ++ rest
behind_word text word left written rest e f = rw (e, f) (simp append_assoc)

none_is : (part : ValType) (payload : Option Value) (written : List ℕ) → IsPayload None payload written → IsText (types.Option part) (values.Variant 0 payload) (codes "none" ++ written)
none_is part _ _ no_payload = none_text part

pub told_option : (part : ValType) → Told part → Told (types.Option part)
told_option part told text rest v h =
    elim (either_told (case_at 0 None) (case_at 1 (Some (reader part))) (after (codes "none") text) (after (codes "some") text) (v, rest) (sym (reader_of_option part text) ∙ h)) [
      | inl w ↦
          let u = case_told 0 None told_nothing w.0 rest v w.2 in (
            codes "none" ++ u.1,
            behind_word text (codes "none") w.0 u.1 rest (after_told (codes "none") text w.0 w.1) u.3,
            subst (λ (x : Value). IsText (types.Option part) x (codes "none" ++ u.1)) u.2 (none_is part u.0 u.1 u.4),
          )
      | inr w ↦
          let u = case_told 1 (Some part) (told_payload part told) w.0 rest v w.2 in (
            codes "some" ++ u.1,
            behind_word text (codes "some") w.0 u.1 rest (after_told (codes "some") text w.0 w.1) u.3,
            subst (λ (x : Value). IsText (types.Option part) x (codes "some" ++ u.1)) u.2 (some_text part u.0 u.1 u.4),
          )
    ]

pub told_result : (ok err : Option ValType) → ToldRest ok → ToldRest err → Told (types.Result ok err)
told_result ok err told_ok told_err text rest v h =
    elim (either_told (case_at 0 (payload_reader ok)) (case_at 1 (payload_reader err)) (after (codes "ok") text) (after (codes "err") text) (v, rest) (sym (reader_of_result ok err text) ∙ h)) [
      | inl w ↦
          let u = case_told 0 ok told_ok w.0 rest v w.2 in (
            codes "ok" ++ u.1,
            behind_word text (codes "ok") w.0 u.1 rest (after_told (codes "ok") text w.0 w.1) u.3,
            subst (λ (x : Value). IsText (types.Result ok err) x (codes "ok" ++ u.1)) u.2 (ok_text ok err u.0 u.1 u.4),
          )
      | inr w ↦
          let u = case_told 1 err told_err w.0 rest v w.2 in (
            codes "err" ++ u.1,
            behind_word text (codes "err") w.0 u.1 rest (after_told (codes "err") text w.0 w.1) u.3,
            subst (λ (x : Value). IsText (types.Result ok err) x (codes "err" ++ u.1)) u.2 (err_text ok err u.0 u.1 u.4),
          )
    ]

-- Variants.
chosen_label : (cases : List Case) (label : List ℕ) (n : ℕ) (c : Case) → place_of label (case_labels cases) ≡ Some n → slice_get cases n ≡ Some c → c.label ≡ label
chosen_label cases label n c h i =
    let at = position-Some (λ (l : List ℕ). bytes_eq l label) (case_labels cases) n c.label h in
    let there : slice_get (case_labels cases) n ≡ Some c.label = get_image (λ (k : Case). k.label) cases n ∙ ap (option_map (λ (k : Case). k.label)) i in
    let is = get_or_from_slice_get (case_labels cases) n c.label c.label there in
    (bytes_eq-Decides c.label label).0 (subst (λ (l : List ℕ). bytes_eq l label ≡ true) is at.1)

pub all_get : {A : Type 0} (P : A → Type 0) (xs : List A) (n : ℕ) (x : A) → AllByRecursion P xs → slice_get xs n ≡ Some x → P x
all_get P [] n x a h = cc
all_get P (y ∷ xs) zero x a h = subst P (some_inj h) a.0
all_get P (y ∷ xs) (suc n) x a h = all_get P xs n x a.1 h

pub told_variant : (cases : List Case) → AllByRecursion (λ (c : Case). ToldRest c.payload) cases → Told (types.Variant cases)
told_variant cases told text rest v h =
    let readers = map case_reader cases in
    let k = chained_some {B = Found} (λ (n : ℕ). chosen_at n (slice_get readers n) (behind_label text)) (place_of (label_of text) (map (λ (c : Labelled (Option Reader)). c.label) readers)) (v, rest) (sym (reader_of_variant cases text) ∙ h) in
    let n = k.0 in
    let place : place_of (label_of text) (case_labels cases) ≡ Some n = ap (λ (l : List (List ℕ)). place_of (label_of text) l) (sym (labels_of_cases cases)) ∙ k.1 in
    elim (cases_Option (slice_get cases n)) [
      | inl none ↦
          let lost : slice_get readers n ≡ None = get_image case_reader cases n ∙ ap (option_map case_reader) none in
          absurd (none_is_no_some (v, rest) (ap (λ (o : Option (Labelled (Option Reader))). chosen_at n o (behind_label text)) (sym lost) ∙ k.2))
      | inr some ↦
          let c = some.0 in
          let there : slice_get readers n ≡ Some (case_reader c) = get_image case_reader cases n ∙ ap (option_map case_reader) some.1 in
          let read : case_at n (payload_reader c.payload) (behind_label text) ≡ Some (v, rest) = ap (λ (o : Option (Labelled (Option Reader))). chosen_at n o (behind_label text)) (sym there) ∙ k.2 in
          let told_case : ToldRest c.payload = all_get (λ (c : Case). ToldRest c.payload) cases n c told some.1 in
          let u = case_told n c.payload told_case (behind_label text) rest v read in
          let label : c.label ≡ label_of text = chosen_label cases (label_of text) n c place some.1 in
          let front : text ≡ c.label ++ behind_label text = label_and_rest text ∙ ap (λ (l : List ℕ). l ++ behind_label text) (sym label) in
          let is : IsText (types.Variant cases) (values.Variant n u.0) (c.label ++ u.1) =
          case_text cases n c u.0 u.1 (subst IsLabel (sym label) (label_is text)) (ap (λ (l : List ℕ). place_of l (case_labels cases)) label ∙ place) some.1 u.4 in (
            c.label ++ u.1,
            behind_word text c.label (behind_label text) u.1 rest front u.3,
            subst (λ (x : Value). IsText (types.Variant cases) x (c.label ++ u.1)) u.2 is,
          )
    ]

-- Records, tuples and lists.
pub told_bare : (t : ValType) → Told t → ToldPlace (bare t)
told_bare t told text rest v h =
    let u = told text rest v h in
    (u.0, u.1, bare_text t v u.0 u.2)

field_parts : (text label more before word between inner written rest : List ℕ) → text ≡ label ++ more → more ≡ before ++ 58 ∷ word → word ≡ between ++ inner → inner ≡ written ++ rest
    → text ≡ (label ++ before ++ codes ":" ++ between ++ written) ++ rest
field_parts text label more before word between inner written rest e f g h = rw (e, f, g, h) (simp append_assoc)

pub told_named : (label : List ℕ) (t : ValType) → Told t → ToldPlace (named label t)
told_named label t told text rest v h =
    let p = passed_some (bytes_eq label (label_of text)) (option_and_then (λ (rest : List ℕ). reader t (without_blanks rest)) (after_mark 58 (behind_label text))) (v, rest) h in
    let k = chained_some {B = Found} (λ (rest : List ℕ). reader t (without_blanks rest)) (after_mark 58 (behind_label text)) (v, rest) p.1 in
    let is : label ≡ label_of text = (bytes_eq-Decides label (label_of text)).0 p.0 in
    let u = told (without_blanks k.0) rest v k.2 in
    let colon = mark_told 58 (behind_label text) k.0 k.1 in
    let start = blanks_before k.0 in
    let front : text ≡ label ++ behind_label text = label_and_rest text ∙ ap (λ (l : List ℕ). l ++ behind_label text) (sym is) in (
      label ++ colon.0 ++ codes ":" ++ start.0 ++ u.0,
      field_parts text label (behind_label text) colon.0 k.0 start.0 (without_blanks k.0) u.0 rest front colon.1 start.1 u.1,
      labelled_text label t v colon.0 start.0 u.0 (subst IsLabel (sym is) (label_is text)) colon.2 start.2 u.2,
    )

bracketed : (text inner between rest : List ℕ) (open_mark close : ℕ) → text ≡ open_mark ∷ inner → inner ≡ between ++ close ∷ rest → text ≡ (open_mark ∷ (between ++ close ∷ [])) ++ rest
bracketed text inner between rest open_mark close e f = e ∙ ap (λ (l : List ℕ). open_mark ∷ l) (f ∙ sym (append_assoc between (close ∷ []) rest))

abbrev Pair : Type 0
Pair = List Value × List ℕ

places_of_fields : (fields : List Field) → AllByRecursion (λ (f : Field). ToldPlace (place_of_field f)) fields → AllByRecursion ToldPlace (map place_of_field fields)
places_of_fields [] a = tt
places_of_fields (f ∷ fields) a = (a.0, places_of_fields fields a.1)

pub places_of_parts : (parts : List ValType) → AllByRecursion Told parts → AllByRecursion ToldPlace (map bare parts)
places_of_parts [] a = tt
places_of_parts (t ∷ parts) a = (told_bare t a.0, places_of_parts parts a.1)

pub told_record : (fields : List Field) → AllByRecursion (λ (f : Field). ToldPlace (place_of_field f)) fields → Told (types.Record fields)
told_record fields told text rest v h =
    let f = found_told values.Record (option_and_then (values_at 125 (map field_reader fields)) (after (codes "{") text)) v rest (sym (reader_of_record fields text) ∙ h) in
    let k = chained_some {B = Pair} (values_at 125 (map field_reader fields)) (after (codes "{") text) (f.0, rest) f.1 in
    let read : values_at 125 (map place_reader (map place_of_field fields)) k.0 ≡ Some (f.0, rest) = ap (λ (l : List Reader). values_at 125 l k.0) (readers_of_fields fields) ∙ k.2 in
    let j = values_told 125 rest (map place_of_field fields) (places_of_fields fields told) k.0 f.0 read in (
      123 ∷ (j.0 ++ 125 ∷ []),
      bracketed text k.0 j.0 rest 123 125 (after_told (codes "{") text k.0 k.1) j.1,
      subst (λ (x : Value). IsText (types.Record fields) x (123 ∷ (j.0 ++ 125 ∷ []))) f.2 (record_text fields f.0 j.0 j.2),
    )

pub told_tuple : (parts : List ValType) → AllByRecursion Told parts → Told (types.Tuple parts)
told_tuple parts told text rest v h =
    let f = found_told values.Record (option_and_then (values_at 41 (map reader parts)) (after (codes "(") text)) v rest (sym (reader_of_tuple parts text) ∙ h) in
    let k = chained_some {B = Pair} (values_at 41 (map reader parts)) (after (codes "(") text) (f.0, rest) f.1 in
    let read : values_at 41 (map place_reader (map bare parts)) k.0 ≡ Some (f.0, rest) = ap (λ (l : List Reader). values_at 41 l k.0) (readers_of_parts parts) ∙ k.2 in
    let j = values_told 41 rest (map bare parts) (places_of_parts parts told) k.0 f.0 read in (
      40 ∷ (j.0 ++ 41 ∷ []),
      bracketed text k.0 j.0 rest 40 41 (after_told (codes "(") text k.0 k.1) j.1,
      subst (λ (x : Value). IsText (types.Tuple parts) x (40 ∷ (j.0 ++ 41 ∷ []))) f.2 (tuple_text parts f.0 j.0 j.2),
    )

pub told_list : (element : ValType) → Told element → Told (types.List element)
told_list element told text rest v h =
    let f = found_told values.List (option_and_then (elements_at (reader element)) (after (codes "[") text)) v rest (sym (reader_of_list element text) ∙ h) in
    let k = chained_some {B = Pair} (elements_at (reader element)) (after (codes "[") text) (f.0, rest) f.1 in
    let j = list_told element (told_bare element told) k.0 rest f.0 k.2 in (
      91 ∷ (j.0 ++ 93 ∷ []),
      bracketed text k.0 j.0 rest 91 93 (after_told (codes "[") text k.0 k.1) j.1,
      subst (λ (x : Value). IsText (types.List element) x (91 ∷ (j.0 ++ 93 ∷ []))) f.2 (list_text element f.0 j.0 j.2 j.3),
    )
