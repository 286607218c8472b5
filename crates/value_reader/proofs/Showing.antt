-- A text is not blank, where no value of the type is written as nothing.
use Rattle.std.proofs.Common.{◌≡◌, ◌∙◌, ◌<◌, ℕ, zero, suc, List, [], ◌∷◌, ◌++◌, length, codes, Bool, true, false, get_or, map, Option, Some, refl, sym, subst, append-nil, append_assoc, arith}
use Rattle.std.specs.Prelude.{ℤ, pos, negsuc}
use Rattle.std.specs.List.{slice_get}
use Rattle.std.specs.Str.{bytes_eq}
use Rattle.std.proofs.lemmas.Bool.{or_left, or_right}
use Rattle.std.proofs.lemmas.List.Quantifiers.{position-Some}
use Rattle.syntax_trees.specs.Names.{is_among}
use Rattle.syntax_trees.specs.Ends.{some_true}
use Rattle.syntax_trees.specs.declared.types.ValType.{ValType}
use Rattle.syntax_trees.specs.declared.value.Value.{Value}
use Rattle.value_reader.specs.Tokens.{is_blank}
use Rattle.value_reader.specs.Syntax.{IsNumber, IsSigned, IsLiteral}
use Rattle.value_reader.specs.Values.{place_of}
use Rattle.value_reader.specs.Writable.{is_silent, may_be_silent}
use Rattle.value_reader.specs.Written.{AreBlanks, IsLabel, IsText, IsPayload, true_text, false_text, s8_text, u8_text, s16_text, u16_text, s32_text, u32_text, s64_text, u64_text, char_text, string_text, record_text, tuple_text, list_text, flags_text, enum_text, case_text, none_text, some_text, ok_text, err_text, no_payload, payload_text}
use Rattle.value_reader.proofs.Cases.{some_inj, none_is_no_some}
use Rattle.value_reader.proofs.Marks.{digit_is_no_blank}
use Rattle.value_reader.proofs.WritingLabels.{or_false, label_shows}
use Rattle.value_reader.proofs.WritableEquations.{case_silent, silent_of_enum, silent_of_variant}

first_shows : (b : ℕ) (text : List ℕ) → is_blank b ≡ false → AreBlanks (b ∷ text) → ⊥
first_shows b text h a =
    let blank : is_blank b ≡ true = a.0 in
    cc

number_shows : (n : ℕ) (text : List ℕ) → IsNumber 10 text n → AreBlanks text → ⊥
number_shows n [] i a = absurd (omega (arith, i.0))
number_shows n (b ∷ text) i a = first_shows b text (digit_is_no_blank b i.1.0) a

signed_shows : (n : ℤ) (text : List ℕ) → IsSigned text n → AreBlanks text → ⊥
signed_shows (pos n) text i a = number_shows n text i a
signed_shows (negsuc n) text i a = first_shows 45 i.0 refl (subst AreBlanks i.1 a)

literal_shows : (q : ℕ) (text content : List ℕ) → is_blank q ≡ false → IsLiteral q text content → AreBlanks text → ⊥
literal_shows q text content h i a = first_shows q _ h (subst AreBlanks i.2 a)

-- a label that has a place is among the labels
among_at : (l : List ℕ) (labels : List (List ℕ)) (n : ℕ) → n < length labels → bytes_eq (get_or labels n []) l ≡ true → is_among l labels ≡ true
among_at l [] n low h = absurd (omega (arith, low))
among_at l (m ∷ labels) zero low h = or_left (bytes_eq m l) (is_among l labels) h
among_at l (m ∷ labels) (suc n) low h = or_right (bytes_eq m l) (is_among l labels) (among_at l labels n (omega (arith, low)) h)

placed_among : (l : List ℕ) (labels : List (List ℕ)) (n : ℕ) → place_of l labels ≡ Some n → is_among l labels ≡ true
placed_among l labels n e =
    let place = position-Some (λ (x : List ℕ). bytes_eq x l) labels n [] e in
    among_at l labels n place.0 place.1

enum_shows : (labels : List (List ℕ)) (n : ℕ) (label : List ℕ) → IsLabel label → place_of label labels ≡ Some n → is_among [] labels ≡ false → AreBlanks label → ⊥
enum_shows labels n [] l place s a =
    let among = placed_among [] labels n place in
    cc
enum_shows labels n (b ∷ label) l place s a = label_shows b label [] l (subst AreBlanks (sym (append-nil (b ∷ label))) a)

-- a case
mark_shows : (blanks rest : List ℕ) → AreBlanks (blanks ++ 40 ∷ rest) → ⊥
mark_shows [] rest a = first_shows 40 rest refl a
mark_shows (b ∷ blanks) rest a = mark_shows blanks rest a.1

payload_mark : (blanks inner : List ℕ) → blanks ++ codes "(" ++ inner ++ codes ")" ≡ blanks ++ 40 ∷ (inner ++ 41 ∷ [])
payload_mark blanks inner = simp append_assoc

case_shows : (label text : List ℕ) (p : Option ValType) (v : Option Value) → IsLabel label → is_silent label p ≡ false → IsPayload p v text → AreBlanks (label ++ text) → ⊥
case_shows [] _ _ _ l s no_payload a = cc
case_shows [] _ _ _ l s (payload_text t v blanks text b i) a = mark_shows blanks (text ++ 41 ∷ []) (subst AreBlanks (payload_mark blanks text) a)
case_shows (b ∷ label) text p v l s i a = label_shows b label text l a

some_false_get : {A : Type 0} (f : A → Bool) (xs : List A) (n : ℕ) (x : A) → some_true (map f xs) ≡ false → slice_get xs n ≡ Some x → f x ≡ false
some_false_get f [] n x h e = absurd (none_is_no_some x e)
some_false_get f (y ∷ xs) zero x h e = subst (λ z. f z ≡ false) (some_inj e) (or_false (f y) (some_true (map f xs)) h).0
some_false_get f (y ∷ xs) (suc n) x h e = some_false_get f xs n x (or_false (f y) (some_true (map f xs)) h).1 e

pub shows : {t : ValType} {v : Value} {text : List ℕ} → IsText t v text → may_be_silent t ≡ false → AreBlanks text → ⊥
shows true_text w a = first_shows 116 (codes "rue") refl a
shows false_text w a = first_shows 102 (codes "alse") refl a
shows (s8_text n text i r) w a = signed_shows n text i a
shows (u8_text n text i r) w a = number_shows n text i a
shows (s16_text n text i r) w a = signed_shows n text i a
shows (u16_text n text i r) w a = number_shows n text i a
shows (s32_text n text i r) w a = signed_shows n text i a
shows (u32_text n text i r) w a = number_shows n text i a
shows (s64_text n text i r) w a = signed_shows n text i a
shows (u64_text n text i r) w a = number_shows n text i a
shows (char_text c text i s) w a = literal_shows 39 text _ refl i a
shows (string_text s text i u) w a = literal_shows 34 text s refl i a
shows (record_text fields all text i) w a = first_shows 123 (text ++ 125 ∷ []) refl a
shows (tuple_text parts all text i) w a = first_shows 40 (text ++ 41 ∷ []) refl a
shows (list_text element all text i f) w a = first_shows 91 (text ++ 93 ∷ []) refl a
shows (flags_text labels flags text i j f) w a = first_shows 123 (text ++ 125 ∷ []) refl a
shows (enum_text labels n label l place) w a = enum_shows labels n label l place (sym (silent_of_enum labels) ∙ w) a
shows (case_text cases n c payload text l place there i) w a =
    case_shows c.label text c.payload payload l (some_false_get case_silent cases n c (sym (silent_of_variant cases) ∙ w) there) i a
shows (none_text part) w a = first_shows 110 (codes "one") refl a
shows (some_text part payload text i) w a = first_shows 115 (codes "ome" ++ text) refl a
shows (ok_text ok err payload text i) w a = first_shows 111 (codes "k" ++ text) refl a
shows (err_text ok err payload text i) w a = first_shows 101 (codes "rr" ++ text) refl a
