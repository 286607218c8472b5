-- Texts at whose front a closing mark does not stand.
use Rattle.std.proofs.Common.{◌≡◌, ◌≢◌, ◌∙◌, ◌⊎◌, inl, inr, ℕ, List, [], ◌∷◌, ◌++◌, true, false, Some, None, refl, ap, subst, append_assoc}
use Rattle.value_reader.specs.Tokens.{is_blank, ends_label, after_mark}
use Rattle.value_reader.specs.Written.{AreBlanks, IsLabel}
use Rattle.value_reader.proofs.Marks.{blanks_passed, mark_missing, mark_tells, same_mark, label_byte}
use Rattle.value_reader.proofs.Sequences.{Hides}

-- a text that hides a mark, or has nothing but blanks
abbrev pub Opens : ℕ → List ℕ → Type 0
Opens mark text = Hides mark text ⊎ AreBlanks text

pub hides_byte : (mark b : ℕ) (text : List ℕ) → is_blank b ≡ false → b ≢ mark → Hides mark (b ∷ text)
hides_byte mark b text h e = λ rest. mark_missing mark b (text ++ rest) h e

pub hides_more : (mark : ℕ) (x y : List ℕ) → Hides mark x → Hides mark (x ++ y)
hides_more mark x y h = λ rest. ap (after_mark mark) (append_assoc x y rest) ∙ h (y ++ rest)

pub hides_behind : (mark : ℕ) (blanks x : List ℕ) → AreBlanks blanks → Hides mark x → Hides mark (blanks ++ x)
hides_behind mark blanks x a h = λ rest. ap (after_mark mark) (append_assoc blanks x rest) ∙ same_mark mark (blanks ++ (x ++ rest)) (x ++ rest) (blanks_passed blanks (x ++ rest) a) ∙ h rest

pub both_blank : (x y : List ℕ) → AreBlanks x → AreBlanks y → AreBlanks (x ++ y)
both_blank [] y a b = b
both_blank (c ∷ x) y a b = (a.0, both_blank x y a.1 b)

pub opens_both : (mark : ℕ) (x y : List ℕ) → Opens mark x → Opens mark y → Opens mark (x ++ y)
opens_both mark x y (inl h) o = inl (hides_more mark x y h)
opens_both mark x y (inr a) (inl h) = inl (hides_behind mark x y a h)
opens_both mark x y (inr a) (inr b) = inr (both_blank x y a b)

pub label_is_no_end : (b mark : ℕ) → ends_label b ≡ false → ends_label mark ≡ true → b ≢ mark
label_is_no_end b mark h e same =
    let both : ends_label mark ≡ false = subst (λ (c : ℕ). ends_label c ≡ false) same h in
    cc

pub opens_label : (mark : ℕ) (label : List ℕ) → ends_label mark ≡ true → IsLabel label → Opens mark label
opens_label mark [] e a = inr tt
opens_label mark (b ∷ label) e a = inl (hides_byte mark b label (label_byte b a.0) (label_is_no_end b mark a.0 e))

-- a comma behind it hides the mark in any case
pub hides_comma : (mark : ℕ) (first others : List ℕ) → 44 ≢ mark → Opens mark first → Hides mark (first ++ 44 ∷ others)
hides_comma mark first others e (inl h) = hides_more mark first (44 ∷ others) h
hides_comma mark first others e (inr a) = hides_behind mark first (44 ∷ others) a (hides_byte mark 44 others refl e)

-- what only has blanks, or stands open: then nothing is closed right away
pub hidden : {A : Type 0} (mark : ℕ) (text : List ℕ) (x : A) (y : A) → Opens mark text → (AreBlanks text → x ≡ y) → (x ≡ y) ⊎ Hides mark text
hidden mark text x y (inl h) f = inr h
hidden mark text x y (inr a) f = inl (f a)

-- what is not closed right away has more than blanks
pub not_blank : (mark : ℕ) (text rest : List ℕ) → is_blank mark ≡ false → after_mark mark (text ++ mark ∷ rest) ≡ None → AreBlanks text → ⊥
not_blank mark text rest b h a =
    let some : after_mark mark (text ++ mark ∷ rest) ≡ Some rest = mark_tells mark text rest b a in
    cc
