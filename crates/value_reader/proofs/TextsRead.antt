-- Texts of values are read as these.
use Rattle.std.proofs.Common.{◌≡◌, ◌∙◌, ◌⊎◌, ℕ, List, [], ◌∷◌, ◌++◌, codes, map, Option, Some, None, true, refl, sym, ap, subst, append_assoc}
use Rattle.std.specs.Option.{option_map, option_and_then}
use Rattle.std.specs.List.{slice_get}
use Rattle.std.specs.Str.{bytes_eq}
use Rattle.std.proofs.lemmas.Slice.Eq.{bytes_eq-Decides}
use Rattle.syntax_trees.specs.declared.types.ValType.{ValType}
use Rattle.syntax_trees.specs.declared.types.Case.{Case}
use Rattle.syntax_trees.specs.declared.types.Field.{Field}
use Rattle.syntax_trees.specs.declared.value.Value.{Value}
use Rattle.syntax_trees.specs.declared.value.Value.TheViews as values
use Rattle.syntax_trees.specs.declared.value.Value.TheVariants as plain
use Rattle.syntax_trees.specs.ValueText.{set_labels}
use Rattle.value_reader.specs.Tokens.{without_blanks, after_mark, label_of, behind_label}
use Rattle.value_reader.specs.Values.{Reader, reader, payload_reader, field_reader, case_reader, found, bool_at, values_at, record_at, tuple_at, list_at, flags_at, flags_in, field_at, rest_at, variant_at, enum_at, option_at, result_at, elements_at, place_of}
use Rattle.value_reader.specs.Written.{AreBlanks, IsLabel, AreLabels, AreFlags, Place, bare, named, place_of_field, case_labels, IsText, IsPayload, IsPlacedText, IsSpacedText, AreTexts, true_text, false_text, s8_text, u8_text, s16_text, u16_text, s32_text, u32_text, s64_text, u64_text, char_text, string_text, record_text, tuple_text, list_text, flags_text, enum_text, case_text, none_text, some_text, ok_text, err_text, no_payload, payload_text, bare_text, labelled_text, spaced_text, no_texts, one_text, more_texts}
use Rattle.value_reader.proofs.Words.{after_byte}
use Rattle.value_reader.proofs.Marks.{Alike, Ends, blanks_passed, mark_tells, mark_behind, same_mark, ends_blanks, ends_mark}
use Rattle.value_reader.proofs.LabelTexts.{label_passed}
use Rattle.value_reader.proofs.Sequences.{Tells, Items, Hides, values_tell, list_tells}
use Rattle.value_reader.proofs.Leaves.{number_tells, signed_tells, string_tells, char_tells}
use Rattle.value_reader.proofs.FlagTexts.{flags_tell}
use Rattle.value_reader.proofs.Hiding.{hidden}
use Rattle.value_reader.proofs.Opening.{opens_all}
use Rattle.value_reader.proofs.Chosen.{reads_case}
use Rattle.value_reader.proofs.ReaderEquations.{reader_of_tuple, reader_of_list, reader_of_option, reader_of_record, reader_of_variant, reader_of_result}
use Rattle.value_reader.proofs.LeafEquations.{reader_of_bool, reader_of_s8, reader_of_u8, reader_of_s16, reader_of_u16, reader_of_s32, reader_of_u32, reader_of_s64, reader_of_u64, reader_of_char, reader_of_string, reader_of_flags, reader_of_enum}

-- Readers that agree.
tells_alike : (r s : Reader) (v : Value) (text : List ℕ) → ((x : List ℕ) → s x ≡ r x) → Tells r v text → Tells s v text
tells_alike r s v text same t = λ rest e. (let u = t rest e in (u.0, same (without_blanks (text ++ rest)) ∙ u.1, u.2))

-- Values in brackets.
record_tells : (readers : List Reader) (all : List Value) (text : List ℕ) → Items readers all text → Tells (record_at readers) (values.Record all) (123 ∷ (text ++ 125 ∷ []))
record_tells readers all text i = λ rest e. (
  rest,
  ap (λ (o : Option (List ℕ)). found values.Record (option_and_then (values_at 125 readers) o)) (after_byte 123 ((text ++ 125 ∷ []) ++ rest))
      ∙ ap (λ (l : List ℕ). found values.Record (values_at 125 readers l)) (append_assoc text (125 ∷ []) rest)
      ∙ ap (found values.Record) (values_tell 125 refl refl readers all text rest i),
  refl,
)

tuple_tells : (readers : List Reader) (all : List Value) (text : List ℕ) → Items readers all text → Tells (tuple_at readers) (values.Record all) (40 ∷ (text ++ 41 ∷ []))
tuple_tells readers all text i = λ rest e. (
  rest,
  ap (λ (o : Option (List ℕ)). found values.Record (option_and_then (values_at 41 readers) o)) (after_byte 40 ((text ++ 41 ∷ []) ++ rest))
      ∙ ap (λ (l : List ℕ). found values.Record (values_at 41 readers l)) (append_assoc text (41 ∷ []) rest)
      ∙ ap (found values.Record) (values_tell 41 refl refl readers all text rest i),
  refl,
)

elements_tell_list : (r : Reader) (all : List Value) (text : List ℕ) → Items (map (λ (v : Value). r) all) all text → (all ≡ []) ⊎ Hides 93 text → Tells (list_at r) (values.List all) (91 ∷ (text ++ 93 ∷ []))
elements_tell_list r all text i h = λ rest e. (
  rest,
  ap (λ (o : Option (List ℕ)). found values.List (option_and_then (elements_at r) o)) (after_byte 91 ((text ++ 93 ∷ []) ++ rest))
      ∙ ap (λ (l : List ℕ). found values.List (elements_at r l)) (append_assoc text (93 ∷ []) rest)
      ∙ ap (found values.List) (list_tells r all text rest i h),
  refl,
)

flags_tell_value : (labels : List (List ℕ)) (flags : List _) (text : List ℕ) → AreFlags labels flags → AreLabels (set_labels labels flags) text
    → (AreBlanks text → set_labels labels flags ≡ []) → Tells (flags_at labels) (plain.Flags flags) (123 ∷ (text ++ 125 ∷ []))
flags_tell_value labels flags text a i f = λ rest e. (
  rest,
  ap (λ (l : List ℕ). found plain.Flags (flags_in labels (123 ∷ l))) (append_assoc text (125 ∷ []) rest)
      ∙ ap (found plain.Flags) (flags_tell labels flags text rest a i f),
  refl,
)

-- What stands behind a label or a word.
abbrev TellsRest : Option Reader → Option Value → List ℕ → Type 0
TellsRest r v written = (text rest : List ℕ) → Ends rest → Alike text (written ++ rest) → (left : List ℕ) × (rest_at r text ≡ Some (v, left)) × Alike left rest

payload_parts : (blanks inner rest : List ℕ) → (blanks ++ codes "(" ++ inner ++ codes ")") ++ rest ≡ blanks ++ (40 ∷ (inner ++ 41 ∷ rest))
payload_parts blanks inner rest = simp append_assoc

payload_tells : (r : Reader) (v : Value) (blanks inner : List ℕ) → AreBlanks blanks → Tells r v inner → TellsRest (Some r) (Some v) (blanks ++ codes "(" ++ inner ++ codes ")")
payload_tells r v blanks inner a t = λ text rest e same.
    (let begins : after_mark 40 text ≡ Some (inner ++ 41 ∷ rest) =
    same_mark 40 text ((blanks ++ codes "(" ++ inner ++ codes ")") ++ rest) same ∙ ap (after_mark 40) (payload_parts blanks inner rest) ∙ mark_tells 40 blanks (inner ++ 41 ∷ rest) refl a in
    let u = t (41 ∷ rest) (ends_mark 41 rest refl refl) in
    let closes : after_mark 41 u.0 ≡ Some rest = mark_behind 41 u.0 rest refl u.2 in
    (rest, rw (begins, u.1, closes) refl, refl))

rest_ends : (p : Option ValType) (v : Option Value) (text rest : List ℕ) → IsPayload p v text → Ends rest → Ends (text ++ rest)
rest_ends _ _ _ rest no_payload e = e
rest_ends _ _ _ rest (payload_text t v blanks inner a s) e =
    subst Ends (sym (payload_parts blanks inner rest)) (ends_blanks blanks (40 ∷ (inner ++ 41 ∷ rest)) a (ends_mark 40 (inner ++ 41 ∷ rest) refl refl))

case_tells : (cases : List Case) (n : ℕ) (c : Case) (payload : Option Value) (text : List ℕ) → IsLabel c.label → place_of c.label (case_labels cases) ≡ Some n → slice_get cases n ≡ Some c
    → ((rest : List ℕ) → Ends rest → Ends (text ++ rest)) → TellsRest (payload_reader c.payload) payload text → Tells (variant_at (map case_reader cases)) (values.Variant n payload) (c.label ++ text)
case_tells cases n c payload text l place there ends t = λ rest e.
    (let whole = without_blanks ((c.label ++ text) ++ rest) in
    let same : whole ≡ without_blanks (c.label ++ (text ++ rest)) = ap without_blanks (append_assoc c.label text rest) in
    let passed = label_passed c.label (text ++ rest) l (ends rest e) in
    let label : label_of whole ≡ c.label = ap label_of same ∙ passed.0 in
    let left : Alike (behind_label whole) (text ++ rest) = ap (λ (x : List ℕ). without_blanks (behind_label x)) same ∙ passed.1 in
    let u = t (behind_label whole) rest e left in (
      u.0,
      reads_case cases whole n c (ap (λ (x : List ℕ). place_of x (case_labels cases)) label ∙ place) there ∙ ap (found (values.Variant n)) u.1,
      u.2,
    ))

enum_tells : (labels : List (List ℕ)) (n : ℕ) (label : List ℕ) → IsLabel label → place_of label labels ≡ Some n → Tells (enum_at labels) (values.Variant n None) label
enum_tells labels n label l place = λ rest e.
    (let whole = without_blanks (label ++ rest) in
    let passed = label_passed label rest l e in (
      behind_label whole,
      ap (λ (x : List ℕ). option_map {U = Value × List ℕ} (λ (n : ℕ). (values.Variant n None, behind_label whole)) (place_of x labels)) passed.0
          ∙ ap (option_map {U = Value × List ℕ} (λ (n : ℕ). (values.Variant n None, behind_label whole))) place,
      passed.1,
    ))

some_tells : (r : Reader) (payload : Option Value) (text : List ℕ) → TellsRest (Some r) payload text → Tells (option_at r) (values.Variant 1 payload) (codes "some" ++ text)
some_tells r payload text t = λ rest e. (let u = t (text ++ rest) rest e refl in (u.0, ap (found (values.Variant 1)) u.1, u.2))

ok_tells : (ok err : Option Reader) (payload : Option Value) (text : List ℕ) → TellsRest ok payload text → Tells (result_at ok err) (values.Variant 0 payload) (codes "ok" ++ text)
ok_tells ok err payload text t = λ rest e. (let u = t (text ++ rest) rest e refl in (u.0, ap (found (values.Variant 0)) u.1, u.2))

err_tells : (ok err : Option Reader) (payload : Option Value) (text : List ℕ) → TellsRest err payload text → Tells (result_at ok err) (values.Variant 1 payload) (codes "err" ++ text)
err_tells ok err payload text t = λ rest e. (let u = t (text ++ rest) rest e refl in (u.0, ap (found (values.Variant 1)) u.1, u.2))

-- A value behind a label.
field_parts : (label before between text rest : List ℕ) → (label ++ before ++ codes ":" ++ between ++ text) ++ rest ≡ label ++ (before ++ (58 ∷ (between ++ (text ++ rest))))
field_parts label before between text rest = simp append_assoc

field_tells : (label : List ℕ) (r : Reader) (v : Value) (before between text : List ℕ) → IsLabel label → AreBlanks before → AreBlanks between → Tells r v text
    → Tells (field_at label r) v (label ++ before ++ codes ":" ++ between ++ text)
field_tells label r v before between text l a b t = λ rest e.
    (let more = between ++ (text ++ rest) in
    let whole = without_blanks ((label ++ before ++ codes ":" ++ between ++ text) ++ rest) in
    let same : whole ≡ without_blanks (label ++ (before ++ (58 ∷ more))) = ap without_blanks (field_parts label before between text rest) in
    let passed = label_passed label (before ++ (58 ∷ more)) l (ends_blanks before (58 ∷ more) a (ends_mark 58 more refl refl)) in
    let is : bytes_eq label (label_of whole) ≡ true = (bytes_eq-Decides label (label_of whole)).1 (sym (ap label_of same ∙ passed.0)) in
    let left : Alike (behind_label whole) (before ++ (58 ∷ more)) = ap (λ (x : List ℕ). without_blanks (behind_label x)) same ∙ passed.1 in
    let colon : after_mark 58 (behind_label whole) ≡ Some more = same_mark 58 (behind_label whole) (before ++ (58 ∷ more)) left ∙ mark_tells 58 before more refl a in
    let u = t rest e in
    let value : r (without_blanks more) ≡ Some (v, u.0) = ap r (blanks_passed between (text ++ rest) b) ∙ u.1 in
    (u.0, rw (is, colon, value) refl, u.2))

spaced_parts : (before text behind rest : List ℕ) → (before ++ text ++ behind) ++ rest ≡ before ++ (text ++ (behind ++ rest))
spaced_parts before text behind rest = simp append_assoc

spaced_tells : (r : Reader) (v : Value) (before text behind : List ℕ) → AreBlanks before → Tells r v text → AreBlanks behind → Tells r v (before ++ text ++ behind)
spaced_tells r v before text behind a t b = λ rest e.
    (let u = t (behind ++ rest) (ends_blanks behind rest b e) in (
      u.0,
      ap r (ap without_blanks (spaced_parts before text behind rest) ∙ blanks_passed before (text ++ (behind ++ rest)) a) ∙ u.1,
      u.2 ∙ blanks_passed behind rest b,
    ))

-- The reader of a place.
abbrev pub place_reader : Place → Reader
place_reader (bare t) = reader t
place_reader (named label t) = field_at label (reader t)

pub readers_of_parts : (parts : List ValType) → map place_reader (map bare parts) ≡ map reader parts
readers_of_parts [] = refl
readers_of_parts (t ∷ parts) = ap (λ (l : List Reader). reader t ∷ l) (readers_of_parts parts)

pub readers_of_fields : (fields : List Field) → map place_reader (map place_of_field fields) ≡ map field_reader fields
readers_of_fields [] = refl
readers_of_fields (f ∷ fields) = ap (λ (l : List Reader). field_reader f ∷ l) (readers_of_fields fields)

readers_of_elements : (element : ValType) (all : List Value) → map place_reader (map (λ (v : Value). bare element) all) ≡ map (λ (v : Value). reader element) all
readers_of_elements element [] = refl
readers_of_elements element (v ∷ all) = ap (λ (l : List Reader). reader element ∷ l) (readers_of_elements element all)

mutual
  pub tells_text : {t : ValType} {v : Value} {text : List ℕ} → IsText t v text → Tells (reader t) v text
  tells_text true_text = tells_alike bool_at _ _ (codes "true") reader_of_bool (λ rest e. (rest, refl, refl))
  tells_text false_text = tells_alike bool_at _ _ (codes "false") reader_of_bool (λ rest e. (rest, refl, refl))
  tells_text (s8_text n text i r) = tells_alike _ _ _ text reader_of_s8 (signed_tells 0x7F n plain.S8 text i r)
  tells_text (u8_text n text i r) = tells_alike _ _ _ text reader_of_u8 (number_tells 0xFF n plain.U8 text i r)
  tells_text (s16_text n text i r) = tells_alike _ _ _ text reader_of_s16 (signed_tells 0x7FFF n plain.S16 text i r)
  tells_text (u16_text n text i r) = tells_alike _ _ _ text reader_of_u16 (number_tells 0xFFFF n plain.U16 text i r)
  tells_text (s32_text n text i r) = tells_alike _ _ _ text reader_of_s32 (signed_tells 0x7FFFFFFF n plain.S32 text i r)
  tells_text (u32_text n text i r) = tells_alike _ _ _ text reader_of_u32 (number_tells 0xFFFFFFFF n plain.U32 text i r)
  tells_text (s64_text n text i r) = tells_alike _ _ _ text reader_of_s64 (signed_tells 0x7FFFFFFFFFFFFFFF n plain.S64 text i r)
  tells_text (u64_text n text i r) = tells_alike _ _ _ text reader_of_u64 (number_tells 0xFFFFFFFFFFFFFFFF n plain.U64 text i r)
  tells_text (char_text c text i s) = tells_alike _ _ _ text reader_of_char (char_tells c text i s)
  tells_text (string_text s text i u) = tells_alike _ _ _ text reader_of_string (string_tells s text i u)
  tells_text (record_text fields all text i) =
      tells_alike (record_at (map field_reader fields)) _ _ (codes "{" ++ text ++ codes "}") (reader_of_record fields)
      (record_tells (map field_reader fields) all text (subst (λ (l : List Reader). Items l all text) (readers_of_fields fields) (tells_all i)))
  tells_text (tuple_text parts all text i) =
      tells_alike (tuple_at (map reader parts)) _ _ (codes "(" ++ text ++ codes ")") (reader_of_tuple parts)
      (tuple_tells (map reader parts) all text (subst (λ (l : List Reader). Items l all text) (readers_of_parts parts) (tells_all i)))
  tells_text (list_text element all text i f) =
      tells_alike (list_at (reader element)) _ _ (codes "[" ++ text ++ codes "]") (reader_of_list element)
      (elements_tell_list (reader element) all text (subst (λ (l : List Reader). Items l all text) (readers_of_elements element all) (tells_all i))
      (hidden 93 text all [] (opens_all i) f))
  tells_text (flags_text labels flags text a i f) = tells_alike (flags_at labels) _ _ (codes "{" ++ text ++ codes "}") (reader_of_flags labels) (flags_tell_value labels flags text a i f)
  tells_text (enum_text labels n label l place) = tells_alike (enum_at labels) _ _ label (reader_of_enum labels) (enum_tells labels n label l place)
  tells_text (case_text cases n c payload text l place there i) =
      tells_alike (variant_at (map case_reader cases)) _ _ (c.label ++ text) (reader_of_variant cases)
      (case_tells cases n c payload text l place there (λ rest e. rest_ends c.payload payload text rest i e) (tells_payload i))
  tells_text (none_text part) = tells_alike (option_at (reader part)) _ _ (codes "none") (reader_of_option part) (λ rest e. (rest, refl, refl))
  tells_text (some_text part payload text i) = tells_alike (option_at (reader part)) _ _ (codes "some" ++ text) (reader_of_option part) (some_tells (reader part) payload text (tells_payload i))
  tells_text (ok_text ok err payload text i) =
      tells_alike (result_at (payload_reader ok) (payload_reader err)) _ _ (codes "ok" ++ text) (reader_of_result ok err) (ok_tells (payload_reader ok) (payload_reader err) payload text (tells_payload i))
  tells_text (err_text ok err payload text i) =
      tells_alike (result_at (payload_reader ok) (payload_reader err)) _ _ (codes "err" ++ text) (reader_of_result ok err) (err_tells (payload_reader ok) (payload_reader err) payload text (tells_payload i))

  tells_payload : {t : Option ValType} {v : Option Value} {text : List ℕ} → IsPayload t v text → TellsRest (payload_reader t) v text
  tells_payload no_payload = λ text rest e same. (text, refl, same)
  tells_payload (payload_text t v blanks text a i) = payload_tells (reader t) v blanks text a (tells_spaced i)

  tells_placed : {p : Place} {v : Value} {text : List ℕ} → IsPlacedText p v text → Tells (place_reader p) v text
  tells_placed (bare_text t v text i) = tells_text i
  tells_placed (labelled_text label t v before between text l a b i) = field_tells label (reader t) v before between text l a b (tells_text i)

  pub tells_spaced : {p : Place} {v : Value} {text : List ℕ} → IsSpacedText p v text → Tells (place_reader p) v text
  tells_spaced (spaced_text p v before text behind a i b) = spaced_tells (place_reader p) v before text behind a (tells_placed i) b

  pub tells_all : {places : List Place} {all : List Value} {text : List ℕ} → AreTexts places all text → Items (map place_reader places) all text
  tells_all (no_texts blanks a) = a
  tells_all (one_text p v text i) = tells_spaced i
  tells_all (more_texts p q places v w all first others i j) = (first, others, append_assoc first (44 ∷ []) others, tells_spaced i, tells_all j)
