-- Words that stand at the front of a text.
use Rattle.std.proofs.Common.{◌≡◌, ◌≢◌, ℕ, List, [], ◌∷◌, ◌++◌, length, take, drop, Some, None, refl, sym, ap, ◌∙◌}
use Rattle.std.specs.Str.{bytes_eq}
use Rattle.std.proofs.lemmas.Bool.{ne_eqb}
use Rattle.std.proofs.lemmas.Slice.Eq.{bytes_eq-Decides}
use Rattle.std.proofs.lemmas.List.{take-append-drop}
use Rattle.value_reader.specs.Tokens.{after}
use Rattle.value_reader.proofs.Cases.{some_inj, passed_some}

-- what follows a word
pub after_told : (word text rest : List ℕ) → after word text ≡ Some rest → text ≡ word ++ rest
after_told word text rest h =
    let both = passed_some (bytes_eq (take (length word) text) word) (Some (drop (length word) text)) rest h in
    let front = (bytes_eq-Decides (take (length word) text) word).0 both.0 in
    let behind : drop (length word) text ≡ rest = some_inj both.1 in
    let whole : take (length word) text ++ drop (length word) text ≡ text = take-append-drop (length word) text in
    sym whole ∙ (ap (λ l. l ++ drop (length word) text) front ∙ ap (λ l. word ++ l) behind)

-- a word of one byte
pub after_byte : (b : ℕ) (rest : List ℕ) → after (b ∷ []) (b ∷ rest) ≡ Some rest
after_byte b rest =
    let same = (bytes_eq-Decides (b ∷ []) (b ∷ [])).1 refl in
    rw same refl

pub after_other_byte : (b c : ℕ) (rest : List ℕ) → c ≢ b → after (b ∷ []) (c ∷ rest) ≡ None
after_other_byte b c rest h = rw (ne_eqb c b h) refl
