-- A label whose characters stand as they are is printed as it is.
use Rattle.std.proofs.Common.{◌≡◌, ◌∙◌, ℕ, ◌<◌, List, [], ◌∷◌, ◌++◌, map, Bool, true, false, not, ◌&&◌, cond, refl, ap, arith}
use Rattle.std.specs.Prelude.{IsAscii}
use Rattle.std.specs.List.{flat_map}
use Rattle.std.proofs.lemmas.Bool.{and_parts}
use Rattle.std.proofs.lemmas.Bool.Decides.{nat_tests}
use Rattle.std.proofs.lemmas.Str.{chars-IsAscii}
use Rattle.std.proofs.lemmas.Str.Ascii.{IsAscii-nil, IsAscii-cons}
use Rattle.std.specs.Char.Escape.{escape_unicode}
use Rattle.syntax_trees.specs.Names.{is_among}
use Rattle.syntax_trees.specs.NameText.{is_plain, char_text, name_text}
use Rattle.value_reader.specs.Tokens.{ends_label}
use Rattle.value_reader.specs.Writable.{is_label, are_labels}

plain_low : (c : ℕ) → is_plain c ≡ true → c < 128
plain_low c h = grind (arith, nat_tests)

chosen : (b : Bool) (x y : List ℕ) → b ≡ true → cond b x y ≡ x
chosen true x y h = refl
chosen false x y h = cc

plain_text : (c : ℕ) → is_plain c ≡ true → char_text c ≡ c ∷ []
plain_text c h = chosen (is_plain c) (c ∷ []) (escape_unicode c) h

first_plain : (b : ℕ) (l : List ℕ) → is_label (b ∷ l) ≡ true → (is_plain b ≡ true) × (is_label l ≡ true)
first_plain b l h =
    let both = and_parts (is_plain b && not (ends_label b)) (is_label l) h in
    ((and_parts (is_plain b) (not (ends_label b)) both.0).0, both.1)

label_ascii : (l : List ℕ) → is_label l ≡ true → IsAscii l
label_ascii [] h = IsAscii-nil
label_ascii (b ∷ l) h =
    let parts = first_plain b l h in
    IsAscii-cons b l (plain_low b parts.0) (label_ascii l parts.1)

chars_stand : (l : List ℕ) → is_label l ≡ true → flat_map char_text l ≡ l
chars_stand [] h = refl
chars_stand (b ∷ l) h =
    let parts = first_plain b l h in
    ap (λ (t : List ℕ). t ++ flat_map char_text l) (plain_text b parts.0) ∙ ap (λ (t : List ℕ). b ∷ t) (chars_stand l parts.1)

pub name_stands : (l : List ℕ) → is_label l ≡ true → name_text l ≡ l
unfolding name_text
name_stands l h = ap (λ (cs : List ℕ). flat_map char_text cs) (chars-IsAscii l (label_ascii l h)) ∙ chars_stand l h

-- Labels of which each stands as it is.
pub labels_stand : (labels : List (List ℕ)) → are_labels labels ≡ true → map name_text labels ≡ labels
labels_stand [] h = refl
labels_stand (l ∷ labels) h =
    let both = and_parts (is_label l && not (is_among l labels)) (are_labels labels) h in
    let first = and_parts (is_label l) (not (is_among l labels)) both.0 in
    ap (λ (t : List ℕ). t ∷ map name_text labels) (name_stands l first.0) ∙ ap (λ (ts : List (List ℕ)). l ∷ ts) (labels_stand labels both.1)
