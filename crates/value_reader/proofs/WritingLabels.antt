-- Labels and flags as they are written.
use Rattle.std.proofs.Common.{◌≡◌, ◌≢◌, ◌∙◌, inl, inr, ℕ, zero, suc, List, [], ◌∷◌, ◌++◌, length, codes, Bool, true, false, not, ◌&&◌, ◌||◌, nat_eq, nat_lt, Some, refl, sym, ap, subst, append_assoc, append-nil, lt-ltb, arith}
use Rattle.std.specs.List.{AllByRecursion, slice_get, position_or_len, flat_map}
use Rattle.std.specs.Str.{bytes_eq}
use Rattle.std.proofs.lemmas.Bool.{and_parts, cases_Bool}
use Rattle.std.proofs.lemmas.Option.{slice_get_within}
use Rattle.std.proofs.lemmas.Slice.Eq.{bytes_eq-Decides}
use Rattle.syntax_trees.specs.Names.{is_among}
use Rattle.syntax_trees.specs.NameText.{is_plain}
use Rattle.syntax_trees.specs.TypeText.{listed}
use Rattle.syntax_trees.specs.ValueText.{set_labels}
use Rattle.value_reader.specs.Tokens.{is_blank, ends_label}
use Rattle.value_reader.specs.Values.{place_of}
use Rattle.value_reader.specs.Writable.{is_label, are_labels}
use Rattle.value_reader.specs.Written.{AreBlanks, IsLabel, IsSpacedLabel, AreLabels, IsNotNext, AreFlags}
use Rattle.value_reader.proofs.Cases.{some_inj}
use Rattle.value_reader.proofs.Marks.{label_byte}

-- Labels that a script can write.
pub not_true : (b : Bool) → not b ≡ true → b ≡ false
not_true true h = cc
not_true false h = refl

pub or_false : (a b : Bool) → (a || b) ≡ false → (a ≡ false) × (b ≡ false)
or_false true b h = cc
or_false false b h = (refl, h)

pub label_is_label : (l : List ℕ) → is_label l ≡ true → IsLabel l
label_is_label [] h = tt
label_is_label (b ∷ l) h =
    let both = and_parts (is_plain b && not (ends_label b)) (is_label l) h in
    (not_true (ends_label b) (and_parts (is_plain b) (not (ends_label b)) both.0).1, label_is_label l both.1)

-- a label with bytes is not blank, whatever stands behind it
pub label_shows : (b : ℕ) (l text : List ℕ) → IsLabel (b ∷ l) → AreBlanks ((b ∷ l) ++ text) → ⊥
label_shows b l text i a =
    let no = label_byte b i.0 in
    let yes : is_blank b ≡ true = a.0 in
    cc

abbrev AreGood : List (List ℕ) → Type 0
AreGood ls = AllByRecursion (λ (l : List ℕ). is_label l ≡ true) ls

labels_parts : (l : List ℕ) (labels : List (List ℕ)) → are_labels (l ∷ labels) ≡ true → (is_label l ≡ true) × (is_among l labels ≡ false) × (are_labels labels ≡ true)
labels_parts l labels h =
    let both = and_parts (is_label l && not (is_among l labels)) (are_labels labels) h in
    let first = and_parts (is_label l) (not (is_among l labels)) both.0 in
    (first.0, not_true (is_among l labels) first.1, both.1)

good_set : (labels : List (List ℕ)) (flags : List Bool) → are_labels labels ≡ true → AreGood (set_labels labels flags)
good_set [] flags h = tt
good_set (l ∷ labels) [] h = tt
good_set (l ∷ labels) (true ∷ flags) h =
    let parts = labels_parts l labels h in
    (parts.0, good_set labels flags parts.2)
good_set (l ∷ labels) (false ∷ flags) h = good_set labels flags (labels_parts l labels h).2

-- Labels with a comma and a space between two.
labels_blank : (l : List ℕ) (labels : List (List ℕ)) (text : List ℕ) → AreLabels (l ∷ labels) text → AreLabels (l ∷ labels) (32 ∷ text)
labels_blank l [] text i = (32 ∷ i.0, i.1, ap (λ (x : List ℕ). 32 ∷ x) i.2, (refl, i.3), i.4, i.5)
labels_blank l (m ∷ labels) text i =
    let s = i.3 in
    let spaced : IsSpacedLabel l (32 ∷ i.0) = (32 ∷ s.0, s.1, ap (λ (x : List ℕ). 32 ∷ x) s.2, (refl, s.3), s.4, s.5) in
    (32 ∷ i.0, i.1, ap (λ (x : List ℕ). 32 ∷ x) i.2, spaced, i.4)

comma_parts : (l m others : List ℕ) → l ++ ((44 ∷ 32 ∷ m) ++ others) ≡ l ++ (44 ∷ []) ++ (32 ∷ (m ++ others))
comma_parts l m others = simp append_assoc

labels_listed : (ls : List (List ℕ)) → AreGood ls → AreLabels ls (listed ls)
labels_listed [] a = tt
labels_listed (l ∷ []) a = ([], [], refl, tt, label_is_label l a.0, tt)
labels_listed (l ∷ m ∷ ls) a =
    let spaced : IsSpacedLabel l l = ([], [], sym (append-nil l), tt, label_is_label l a.0, tt) in (
      l,
      32 ∷ listed (m ∷ ls),
      comma_parts l m (flat_map (λ (t : List ℕ). codes ", " ++ t) ls),
      spaced,
      labels_blank m ls (listed (m ∷ ls)) (labels_listed (m ∷ ls) a.1),
    )

pub set_listed : (labels : List (List ℕ)) (flags : List Bool) → are_labels labels ≡ true → AreLabels (set_labels labels flags) (listed (set_labels labels flags))
set_listed labels flags h = labels_listed (set_labels labels flags) (good_set labels flags h)

-- labels with bytes
abbrev HaveBytes : List (List ℕ) → Type 0
HaveBytes ls = AllByRecursion (λ (l : List ℕ). bytes_eq l [] ≡ false) ls

set_bytes : (labels : List (List ℕ)) (flags : List Bool) → is_among [] labels ≡ false → HaveBytes (set_labels labels flags)
set_bytes [] flags h = tt
set_bytes (l ∷ labels) [] h = tt
set_bytes (l ∷ labels) (true ∷ flags) h =
    let both = or_false (bytes_eq l []) (is_among [] labels) h in
    (both.0, set_bytes labels flags both.1)
set_bytes (l ∷ labels) (false ∷ flags) h = set_bytes labels flags (or_false (bytes_eq l []) (is_among [] labels) h).1

good_shows : (ls : List (List ℕ)) → AreGood ls → HaveBytes ls → AreBlanks (listed ls) → ls ≡ []
good_shows [] a c b = refl
good_shows ([] ∷ ls) a c b =
    let same : bytes_eq [] [] ≡ true = (bytes_eq-Decides [] []).1 refl in
    let no : bytes_eq [] [] ≡ false = c.0 in
    cc
good_shows ((d ∷ l) ∷ ls) a c b = absurd (label_shows d l _ (label_is_label (d ∷ l) a.0) b)

pub set_shows : (labels : List (List ℕ)) (flags : List Bool) → are_labels labels ≡ true → is_among [] labels ≡ false → AreBlanks (listed (set_labels labels flags)) → set_labels labels flags ≡ []
set_shows labels flags h n = good_shows (set_labels labels flags) (good_set labels flags h) (set_bytes labels flags n)

-- Flags.
differs : (m l : List ℕ) → bytes_eq m l ≡ false → l ≢ m
differs m l h = λ e. (let yes : bytes_eq m l ≡ true = (bytes_eq-Decides m l).1 (sym e) in cc)

not_next_set : (l : List ℕ) (labels : List (List ℕ)) (flags : List Bool) → is_among l labels ≡ false → IsNotNext l (set_labels labels flags)
not_next_set l [] flags h = tt
not_next_set l (m ∷ labels) [] h = tt
not_next_set l (m ∷ labels) (true ∷ flags) h = differs m l (or_false (bytes_eq m l) (is_among l labels) h).0
not_next_set l (m ∷ labels) (false ∷ flags) h = not_next_set l labels flags (or_false (bytes_eq m l) (is_among l labels) h).1

pub flags_of : (labels : List (List ℕ)) (flags : List Bool) → are_labels labels ≡ true → length flags ≡ length labels → AreFlags labels flags
flags_of [] [] h e = tt
flags_of [] (f ∷ flags) h e = absurd (omega (arith, e))
flags_of (l ∷ labels) [] h e = absurd (omega (arith, e))
flags_of (l ∷ labels) (true ∷ flags) h e = flags_of labels flags (labels_parts l labels h).2 (omega (arith, e))
flags_of (l ∷ labels) (false ∷ flags) h e =
    let parts = labels_parts l labels h in
    (not_next_set l labels flags parts.1, flags_of labels flags parts.2 (omega (arith, e)))

-- The place of a label among labels.
among_not : (m l : List ℕ) (labels : List (List ℕ)) (n : ℕ) → is_among m labels ≡ false → slice_get labels n ≡ Some l → bytes_eq m l ≡ false
among_not m l [] n h e = cc
among_not m l (k ∷ labels) zero h e =
    let same : k ≡ l = some_inj e in
    let other = differs k m (or_false (bytes_eq k m) (is_among m labels) h).0 in
    elim (cases_Bool (bytes_eq m l)) [
      | inl w ↦ absurd (other ((bytes_eq-Decides m l).0 w ∙ sym same))
      | inr w ↦ w
    ]
among_not m l (k ∷ labels) (suc n) h e = among_not m l labels n (or_false (bytes_eq k m) (is_among m labels) h).1 e

place_length : (labels : List (List ℕ)) (n : ℕ) (l : List ℕ) → are_labels labels ≡ true → slice_get labels n ≡ Some l → position_or_len (λ (x : List ℕ). bytes_eq x l) labels ≡ n
place_length [] n l h e = cc
place_length (m ∷ labels) zero l h e =
    let same : bytes_eq m l ≡ true = (bytes_eq-Decides m l).1 (some_inj e) in
    rw same refl
place_length (m ∷ labels) (suc n) l h e =
    let parts = labels_parts m labels h in
    let other = among_not m l labels n parts.1 e in
    let next = place_length labels n l parts.2 e in
    rw (other, next) (omega arith)

pub place_found : (labels : List (List ℕ)) (n : ℕ) (l : List ℕ) → are_labels labels ≡ true → slice_get labels n ≡ Some l → place_of l labels ≡ Some n
place_found labels n l h e =
    let place = place_length labels n l h e in
    let within : nat_lt n (length labels) ≡ true = lt-ltb n (length labels) (slice_get_within labels n l e) in
    rw (place, within) refl

pub label_at_place : (labels : List (List ℕ)) (n : ℕ) (l : List ℕ) → are_labels labels ≡ true → slice_get labels n ≡ Some l → is_label l ≡ true
label_at_place [] n l h e = cc
label_at_place (m ∷ labels) zero l h e = subst (λ (x : List ℕ). is_label x ≡ true) (some_inj e) (labels_parts m labels h).0
label_at_place (m ∷ labels) (suc n) l h e = label_at_place labels n l (labels_parts m labels h).2 e
