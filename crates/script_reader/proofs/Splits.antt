-- The first part of a text, and the parts behind it.
use Rattle.std.proofs.Common.{◌≡◌, ◌<◌, ◌≤◌, ◌+◌, ◌-◌, ℕ, Bool, List, [], ◌∷◌, length, take, drop, false, arith, sym, subst, length-drop}
use Rattle.std.specs.List.{position_or_len, slice_split}
use Rattle.std.proofs.lemmas.List.Sums.{count_by-le-length, fails_before_first}
use Rattle.std.proofs.lemmas.List.{take_all}
use Rattle.std.proofs.lemmas.List.Elements.{All-from_get_or}
use Rattle.std.proofs.lemmas.List.Splits.{slice_split_first, slice_split_none, length-slice_split}

pub first_part : (p : ℕ → Bool) (text : List ℕ) (end : ℕ) → end ≡ position_or_len p text → end < length text → slice_split p text ≡ take end text ∷ slice_split p (take (length text - (end + 1)) (drop (end + 1) text))
first_part p text end e short =
    let rest : take (length text - (end + 1)) (drop (end + 1) text) ≡ drop (end + 1) text = take_all _ _ (omega (arith, length-drop (end + 1) text)) in
    let first = subst (λ n. n < length text → slice_split p text ≡ take n text ∷ slice_split p (drop (n + 1) text)) (sym e) (slice_split_first p text 0) short in
    rw rest first

pub last_part : (p : ℕ → Bool) (text : List ℕ) (end : ℕ) → end ≡ position_or_len p text → length text ≤ end → slice_split p text ≡ text ∷ []
last_part p text end e long =
    slice_split_none p text (All-from_get_or (λ b. p b ≡ false) text 0 (λ k short. fails_before_first p text k 0 (omega (arith, e))))

-- how many parts a text has at most
pub few_parts : (p : ℕ → Bool) (text : List ℕ) → length (slice_split p text) ≤ length text + 1
few_parts p text = omega (arith, length-slice_split p text, count_by-le-length p text)
