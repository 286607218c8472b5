-- Labels at the front of a text.
use Rattle.std.proofs.Common.{◌≡◌, ◌∙◌, inl, inr, ℕ, suc, ◌+◌, List, [], ◌∷◌, ◌++◌, length, refl, sym, ap, arith}
use Rattle.std.specs.List.{position_or_len}
use Rattle.std.proofs.lemmas.Bool.{cases_Bool}
use Rattle.std.proofs.lemmas.List.{take_at, drop_at, take-append-drop}
use Rattle.value_reader.specs.Tokens.{ends_label, without_blanks, label_of, behind_label}
use Rattle.value_reader.specs.Written.{IsLabel}
use Rattle.value_reader.proofs.Marks.{Alike, Stops, Ends, no_blanks, label_byte, ends_stop, passed_twice}

-- what is read as a label is one
pub label_is : (text : List ℕ) → IsLabel (label_of text)
label_is [] = tt
label_is (b ∷ text) =
    let next : 1 + position_or_len ends_label text ≡ suc (position_or_len ends_label text) = omega arith in
    elim (cases_Bool (ends_label b)) [ inl h ↦ rw h tt | inr h ↦ rw (h, next) (h, label_is text) ]

pub label_and_rest : (text : List ℕ) → text ≡ label_of text ++ behind_label text
label_and_rest text = sym (take-append-drop (position_or_len ends_label text) text)

-- a label is read up to its end
label_length : (label rest : List ℕ) → IsLabel label → Stops rest → position_or_len ends_label (label ++ rest) ≡ length label
label_length [] [] a s = refl
label_length [] (b ∷ rest) a s = rw s refl
label_length (b ∷ label) rest a s = rw (a.0, label_length label rest a.1 s) (omega arith)

label_front : (label rest : List ℕ) → IsLabel label → Stops rest → label_of (label ++ rest) ≡ label
label_front label rest a s = take_at label rest _ (sym (label_length label rest a s))

label_behind : (label rest : List ℕ) → IsLabel label → Stops rest → behind_label (label ++ rest) ≡ rest
label_behind label rest a s = drop_at label rest _ (sym (label_length label rest a s))

-- also where blanks stand before it, and where it has no bytes
pub label_passed : (label rest : List ℕ) → IsLabel label → Ends rest
    → (label_of (without_blanks (label ++ rest)) ≡ label) × Alike (behind_label (without_blanks (label ++ rest))) rest
label_passed [] rest a s = (label_front [] (without_blanks rest) tt s, ap without_blanks (label_behind [] (without_blanks rest) tt s) ∙ passed_twice rest)
label_passed (b ∷ label) rest a s =
    let here : without_blanks (b ∷ (label ++ rest)) ≡ b ∷ (label ++ rest) = no_blanks b (label ++ rest) (label_byte b a.0) in
    let stop : Stops rest = ends_stop rest s in (
      ap label_of here ∙ label_front (b ∷ label) rest a stop,
      ap (λ (l : List ℕ). without_blanks (behind_label l)) here ∙ ap without_blanks (label_behind (b ∷ label) rest a stop),
    )
