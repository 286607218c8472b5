-- Bytes that are text, and texts of one character.
use Rattle.std.proofs.Common.{◌≡◌, ◌∙◌, ℕ, List, [], ◌∷◌, ◌++◌, length, true, false, Some, None, inl, inr, ap}
use Rattle.std.specs.Str.{IsUtf8, is_utf8, chars}
use Rattle.std.specs.Char.{encode_utf8}
use Rattle.value_reader.specs.Quoted.{only}
use Rattle.std.proofs.lemmas.Str.{IsUtf8-from_is_utf8, is_utf8-from_IsUtf8, IsUtf8-past_char, chars_past_char, chars-nil}
use Rattle.std.proofs.lemmas.List.{nil_from_length}
use Rattle.std.proofs.lemmas.Bool.{cases_Bool}

pub no_text : (bs : List ℕ) → ¬ (IsUtf8 bs) → is_utf8 bs ≡ false
no_text bs h = elim (cases_Bool (is_utf8 bs)) [ inl e ↦ absurd (h (IsUtf8-from_is_utf8 bs e)) | inr e ↦ e ]

pub some_text : (bs : List ℕ) → IsUtf8 bs → is_utf8 bs ≡ true
some_text bs h = is_utf8-from_IsUtf8 bs h

pub only_one : (bs rest : List ℕ) (c : ℕ) → IsUtf8 bs → bs ≡ encode_utf8 c ++ rest → length rest ≡ 0 → only (chars bs) ≡ Some c
only_one bs rest c u e n =
    let none : chars rest ≡ [] = ap chars (nil_from_length rest n) ∙ chars-nil in
    ap only (chars_past_char bs rest c u e ∙ ap (λ (cs : List ℕ). c ∷ cs) none)

pub only_more : (bs rest more : List ℕ) (c d : ℕ) → IsUtf8 bs → bs ≡ encode_utf8 c ++ rest → rest ≡ encode_utf8 d ++ more → only (chars bs) ≡ None
only_more bs rest more c d u e f =
    ap only (chars_past_char bs rest c u e ∙ ap (λ (cs : List ℕ). c ∷ cs) (chars_past_char rest more d (IsUtf8-past_char bs rest c u e) f))
