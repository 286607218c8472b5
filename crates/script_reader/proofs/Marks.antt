-- Blanks, and marks of one byte behind them.
use Rattle.std.proofs.Common.{◌≡◌, ℕ, List, [], ◌∷◌, ◌++◌, length, take, drop, false, Some, refl, sym, ap, ◌∙◌}
use Rattle.std.specs.Str.{bytes_eq}
use Rattle.std.specs.List.{prefix_len}
use Rattle.std.proofs.lemmas.Slice.Eq.{bytes_eq-Decides}
use Rattle.std.proofs.lemmas.List.{take-append-drop}
use Rattle.script_reader.specs.Script.{is_blank, after, after_mark, without_blanks}
use Rattle.script_reader.specs.Syntax.{AreBlanks}
use Rattle.script_reader.proofs.Fronts.{Stops, front_dropped, front_passes, front_and_rest}
use Rattle.script_reader.proofs.Cases.{some_inj, passed_some}

-- what follows a word
pub after_told : (word text rest : List ℕ) → after word text ≡ Some rest → text ≡ word ++ rest
after_told word text rest h =
    let both = passed_some (bytes_eq (take (length word) text) word) (Some (drop (length word) text)) rest h in
    let front = (bytes_eq-Decides (take (length word) text) word).0 both.0 in
    let behind : drop (length word) text ≡ rest = some_inj both.1 in
    let whole : take (length word) text ++ drop (length word) text ≡ text = take-append-drop (length word) text in
    sym whole ∙ (ap (λ l. l ++ drop (length word) text) front ∙ ap (λ l. word ++ l) behind)

mark_at : (mark : ℕ) (rest : List ℕ) → after (mark ∷ []) (mark ∷ rest) ≡ Some rest
mark_at mark rest =
    let same = (bytes_eq-Decides (mark ∷ []) (mark ∷ [])).1 refl in
    rw same refl

-- what stands behind blanks
pub blanks_passed : (blanks rest : List ℕ) → AreBlanks blanks → Stops is_blank rest → without_blanks (blanks ++ rest) ≡ rest
blanks_passed blanks rest a s = front_dropped is_blank blanks rest a s

-- a mark, with or without blanks before it
pub mark_told : (mark : ℕ) (text rest : List ℕ) → after_mark mark text ≡ Some rest → (blanks : List ℕ) × (text ≡ blanks ++ mark ∷ rest) × AreBlanks blanks
mark_told mark text rest h =
    let blanks = take (prefix_len is_blank text) text in
    let behind : without_blanks text ≡ mark ∷ rest = after_told (mark ∷ []) (without_blanks text) rest h in
    (blanks, front_and_rest is_blank text ∙ ap (λ l. blanks ++ l) behind, front_passes is_blank text)

pub mark_tells : (mark : ℕ) (blanks rest : List ℕ) → is_blank mark ≡ false → AreBlanks blanks → after_mark mark (blanks ++ mark ∷ rest) ≡ Some rest
mark_tells mark blanks rest h a =
    ap (λ l. after (mark ∷ []) l) (blanks_passed blanks (mark ∷ rest) a h) ∙ mark_at mark rest
