-- Blanks, and marks of one byte behind them.
use Rattle.std.proofs.Common.{◌≡◌, ◌≢◌, ◌∙◌, inl, inr, ℕ, suc, ◌+◌, List, [], ◌∷◌, ◌++◌, take, true, false, Some, None, refl, sym, ap, subst, append-nil, arith}
use Rattle.std.specs.List.{prefix_len}
use Rattle.std.proofs.lemmas.Bool.{cases_Bool}
use Rattle.std.proofs.lemmas.Bool.Decides.{nat_tests}
use Rattle.value_reader.specs.Tokens.{is_blank, is_digit, ends_label, without_blanks, after, after_mark}
use Rattle.value_reader.specs.Syntax.{BeginsWithout}
use Rattle.value_reader.specs.Written.{AreBlanks}
use Rattle.value_reader.proofs.Fronts.{front_passes, front_stops, front_and_rest}
use Rattle.value_reader.proofs.Words.{after_told, after_byte, after_other_byte}

-- Two texts that are the same behind the blanks before them.
abbrev pub Alike : List ℕ → List ℕ → Type 0
Alike x y = without_blanks x ≡ without_blanks y

pub no_blanks : (b : ℕ) (text : List ℕ) → is_blank b ≡ false → without_blanks (b ∷ text) ≡ b ∷ text
no_blanks b text h = rw h refl

one_blank : (b : ℕ) (text : List ℕ) → is_blank b ≡ true → without_blanks (b ∷ text) ≡ without_blanks text
one_blank b text h =
    let next : 1 + prefix_len is_blank text ≡ suc (prefix_len is_blank text) = omega arith in
    rw (h, next) refl

pub blanks_passed : (blanks text : List ℕ) → AreBlanks blanks → without_blanks (blanks ++ text) ≡ without_blanks text
blanks_passed [] text a = refl
blanks_passed (b ∷ blanks) text a = one_blank b (blanks ++ text) a.0 ∙ blanks_passed blanks text a.1

pub blanks_alone : (blanks : List ℕ) → AreBlanks blanks → without_blanks blanks ≡ []
blanks_alone blanks a = ap without_blanks (sym (append-nil blanks)) ∙ blanks_passed blanks [] a

-- a text that begins without a blank
pub begun : (text : List ℕ) → BeginsWithout is_blank text → without_blanks text ≡ text
begun [] s = refl
begun (b ∷ text) s = no_blanks b text s

pub passed_twice : (text : List ℕ) → without_blanks (without_blanks text) ≡ without_blanks text
passed_twice text = begun (without_blanks text) (front_stops is_blank text)

-- the blanks before a text
pub blanks_before : (text : List ℕ) → (blanks : List ℕ) × (text ≡ blanks ++ without_blanks text) × AreBlanks blanks
blanks_before text = (take (prefix_len is_blank text) text, front_and_rest is_blank text, front_passes is_blank text)

-- A mark, with or without blanks before it.
pub mark_told : (mark : ℕ) (text rest : List ℕ) → after_mark mark text ≡ Some rest → (blanks : List ℕ) × (text ≡ blanks ++ mark ∷ rest) × AreBlanks blanks
mark_told mark text rest h =
    let before = blanks_before text in
    let behind : without_blanks text ≡ mark ∷ rest = after_told (mark ∷ []) (without_blanks text) rest h in
    (before.0, before.1 ∙ ap (λ (l : List ℕ). before.0 ++ l) behind, before.2)

pub mark_tells : (mark : ℕ) (blanks rest : List ℕ) → is_blank mark ≡ false → AreBlanks blanks → after_mark mark (blanks ++ mark ∷ rest) ≡ Some rest
mark_tells mark blanks rest h a =
    ap (λ (l : List ℕ). after (mark ∷ []) l) (blanks_passed blanks (mark ∷ rest) a ∙ no_blanks mark rest h) ∙ after_byte mark rest

pub mark_missing : (mark b : ℕ) (rest : List ℕ) → is_blank b ≡ false → b ≢ mark → after_mark mark (b ∷ rest) ≡ None
mark_missing mark b rest h e = ap (λ (l : List ℕ). after (mark ∷ []) l) (no_blanks b rest h) ∙ after_other_byte mark b rest e

pub same_mark : (mark : ℕ) (x y : List ℕ) → Alike x y → after_mark mark x ≡ after_mark mark y
same_mark mark x y e = ap (λ (l : List ℕ). after (mark ∷ []) l) e

-- a mark that stands behind what is alike
pub mark_behind : (mark : ℕ) (left rest : List ℕ) → is_blank mark ≡ false → Alike left (mark ∷ rest) → after_mark mark left ≡ Some rest
mark_behind mark left rest h e = same_mark mark left (mark ∷ rest) e ∙ mark_tells mark [] rest h tt

-- What may stand behind a value: the end, or a byte that ends a label, with or without blanks before it.
abbrev pub Stops : List ℕ → Type 0
Stops [] = Unit {0}
Stops (b ∷ text) = ends_label b ≡ true

abbrev pub Ends : List ℕ → Type 0
Ends text = Stops (without_blanks text)

pub blank_ends : (b : ℕ) → is_blank b ≡ true → ends_label b ≡ true
blank_ends b h = grind (arith, nat_tests)

pub label_byte : (b : ℕ) → ends_label b ≡ false → is_blank b ≡ false
label_byte b h = grind (arith, nat_tests)

pub ends_stop : (text : List ℕ) → Ends text → Stops text
ends_stop [] e = tt
ends_stop (b ∷ text) e =
    elim (cases_Bool (is_blank b)) [
      | inl h ↦ blank_ends b h
      | inr h ↦ subst Stops (no_blanks b text h) e
    ]

pub ends_behind : (x y : List ℕ) → Alike x y → Ends y → Ends x
ends_behind x y e s = subst Stops (sym e) s

pub ends_blanks : (blanks text : List ℕ) → AreBlanks blanks → Ends text → Ends (blanks ++ text)
ends_blanks blanks text a s = ends_behind (blanks ++ text) text (blanks_passed blanks text a) s

pub ends_mark : (mark : ℕ) (text : List ℕ) → is_blank mark ≡ false → ends_label mark ≡ true → Ends (mark ∷ text)
ends_mark mark text h e = subst Stops (sym (no_blanks mark text h)) e

-- Digits are no ends.
pub digit_goes : (b : ℕ) → is_digit 10 b ≡ true → ends_label b ≡ false
digit_goes b h = grind (arith, nat_tests)

end_is_none : (b : ℕ) → ends_label b ≡ true → is_digit 10 b ≡ false
end_is_none b h = grind (arith, nat_tests)

pub digit_is_no_blank : (b : ℕ) → is_digit 10 b ≡ true → is_blank b ≡ false
digit_is_no_blank b h = label_byte b (digit_goes b h)

stops_digits : (text : List ℕ) → Stops text → BeginsWithout (is_digit 10) text
stops_digits [] s = tt
stops_digits (b ∷ text) s = end_is_none b s

pub ends_digits : (text : List ℕ) → Ends text → BeginsWithout (is_digit 10) text
ends_digits text e = stops_digits text (ends_stop text e)
