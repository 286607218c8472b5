-- No text of a value begins with a closing bracket.
use Rattle.std.proofs.Common.{◌≡◌, ◌≢◌, inl, inr, ℕ, List, [], ◌∷◌, ◌++◌, codes, false, Option, refl, sym, subst, append_assoc, arith}
use Rattle.std.specs.Prelude.{ℤ, pos, negsuc}
use Rattle.syntax_trees.specs.declared.types.ValType.{ValType}
use Rattle.syntax_trees.specs.declared.value.Value.{Value}
use Rattle.value_reader.specs.Tokens.{is_blank}
use Rattle.value_reader.specs.Syntax.{IsNumber, IsSigned, IsLiteral}
use Rattle.value_reader.specs.Written.{Place, IsText, IsPayload, IsPlacedText, IsSpacedText, AreTexts, true_text, false_text, s8_text, u8_text, s16_text, u16_text, s32_text, u32_text, s64_text, u64_text, char_text, string_text, record_text, tuple_text, list_text, flags_text, enum_text, case_text, none_text, some_text, ok_text, err_text, no_payload, payload_text, bare_text, labelled_text, spaced_text, no_texts, one_text, more_texts}
use Rattle.value_reader.proofs.Marks.{digit_goes, label_byte}
use Rattle.value_reader.proofs.Sequences.{Hides}
use Rattle.value_reader.proofs.Hiding.{Opens, hides_byte, hides_more, hides_behind, hides_comma, opens_both, opens_label, label_is_no_end}

first_byte : (b : ℕ) (text : List ℕ) → is_blank b ≡ false → b ≢ 93 → Opens 93 (b ∷ text)
first_byte b text h e = inl (hides_byte 93 b text h e)

opens_number : (n : ℕ) (text : List ℕ) → IsNumber 10 text n → Opens 93 text
opens_number n [] i = absurd (omega (arith, i.0))
opens_number n (b ∷ text) i =
    let goes = digit_goes b i.1.0 in
    first_byte b text (label_byte b goes) (label_is_no_end b 93 goes refl)

opens_signed : (n : ℤ) (text : List ℕ) → IsSigned text n → Opens 93 text
opens_signed (pos n) text i = opens_number n text i
opens_signed (negsuc n) text i = subst (λ (l : List ℕ). Opens 93 l) (sym i.1) (first_byte 45 i.0 refl (λ e. absurd (omega (arith, e))))

opens_literal : (q : ℕ) (text content : List ℕ) → is_blank q ≡ false → q ≢ 93 → IsLiteral q text content → Opens 93 text
opens_literal q text content h e i = subst (λ (l : List ℕ). Opens 93 l) (sym i.2) (first_byte q _ h e)

-- with a mark behind it that is no blank, a text hides the bracket
hides_before : (b : ℕ) (first others : List ℕ) → is_blank b ≡ false → b ≢ 93 → Opens 93 first → Hides 93 (first ++ b ∷ others)
hides_before b first others h e (inl i) = hides_more 93 first (b ∷ others) i
hides_before b first others h e (inr a) = hides_behind 93 first (b ∷ others) a (hides_byte 93 b others h e)

opens_payload : {t : Option ValType} {v : Option Value} {text : List ℕ} → IsPayload t v text → Opens 93 text
opens_payload no_payload = inr tt
opens_payload (payload_text t v blanks text a i) =
    inl (hides_more 93 (blanks ++ codes "(" ++ text) (codes ")") (hides_more 93 (blanks ++ codes "(") text (hides_before 40 blanks [] refl (λ e. absurd (omega (arith, e))) (inr a))))

opens_text : {t : ValType} {v : Value} {text : List ℕ} → IsText t v text → Opens 93 text
opens_text true_text = first_byte 116 (codes "rue") refl (λ e. absurd (omega (arith, e)))
opens_text false_text = first_byte 102 (codes "alse") refl (λ e. absurd (omega (arith, e)))
opens_text (s8_text n text i r) = opens_signed n text i
opens_text (u8_text n text i r) = opens_number n text i
opens_text (s16_text n text i r) = opens_signed n text i
opens_text (u16_text n text i r) = opens_number n text i
opens_text (s32_text n text i r) = opens_signed n text i
opens_text (u32_text n text i r) = opens_number n text i
opens_text (s64_text n text i r) = opens_signed n text i
opens_text (u64_text n text i r) = opens_number n text i
opens_text (char_text c text i s) = opens_literal 39 text _ refl (λ e. absurd (omega (arith, e))) i
opens_text (string_text s text i u) = opens_literal 34 text s refl (λ e. absurd (omega (arith, e))) i
opens_text (record_text fields all text i) = first_byte 123 (text ++ 125 ∷ []) refl (λ e. absurd (omega (arith, e)))
opens_text (tuple_text parts all text i) = first_byte 40 (text ++ 41 ∷ []) refl (λ e. absurd (omega (arith, e)))
opens_text (list_text element all text i f) = first_byte 91 (text ++ 93 ∷ []) refl (λ e. absurd (omega (arith, e)))
opens_text (flags_text labels flags text a i f) = first_byte 123 (text ++ 125 ∷ []) refl (λ e. absurd (omega (arith, e)))
opens_text (enum_text labels n label l place) = opens_label 93 label refl l
opens_text (case_text cases n c payload text l place there i) = opens_both 93 c.label text (opens_label 93 c.label refl l) (opens_payload i)
opens_text (none_text part) = first_byte 110 (codes "one") refl (λ e. absurd (omega (arith, e)))
opens_text (some_text part payload text i) = first_byte 115 (codes "ome" ++ text) refl (λ e. absurd (omega (arith, e)))
opens_text (ok_text ok err payload text i) = first_byte 111 (codes "k" ++ text) refl (λ e. absurd (omega (arith, e)))
opens_text (err_text ok err payload text i) = first_byte 101 (codes "rr" ++ text) refl (λ e. absurd (omega (arith, e)))

opens_placed : {p : Place} {v : Value} {text : List ℕ} → IsPlacedText p v text → Opens 93 text
opens_placed (bare_text t v text i) = opens_text i
opens_placed (labelled_text label t v before between text l a b i) =
    inl (hides_more 93 (label ++ before ++ codes ":" ++ between) text (hides_more 93 (label ++ before ++ codes ":") between
    (hides_before 58 (label ++ before) [] refl (λ e. absurd (omega (arith, e))) (opens_both 93 label before (opens_label 93 label refl l) (inr a)))))

opens_spaced : {p : Place} {v : Value} {text : List ℕ} → IsSpacedText p v text → Opens 93 text
opens_spaced (spaced_text p v before text behind a i b) = opens_both 93 (before ++ text) behind (opens_both 93 before text (inr a) (opens_placed i)) (inr b)

pub opens_all : {places : List Place} {all : List Value} {text : List ℕ} → AreTexts places all text → Opens 93 text
opens_all (no_texts blanks a) = inr a
opens_all (one_text p v text i) = opens_spaced i
opens_all (more_texts p q places v w all first others i j) =
    inl (subst (λ (l : List ℕ). Hides 93 l) (sym (append_assoc first (44 ∷ []) others)) (hides_comma 93 first others (λ e. absurd (omega (arith, e))) (opens_spaced i)))
