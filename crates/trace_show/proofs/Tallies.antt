-- What is counted of lines, line by line and at once.
use Rattle.std.proofs.Common.{◌≡◌, ℕ, ◌+◌, ◌%◌, ◌^◌, ◌<◌, List, [], ◌∷◌, take, refl, sym, ap, ◌∙◌}
use native.Mathlib.Nat.{mod-add-mod, mod-eq_of_lt, add_assoc, add-zero, zero-add}
use Rattle.std.specs.List.{fold, sum_by}
use Rattle.std.proofs.lemmas.List.Sums.{sum_by-cons}
use Rattle.trace_labels.specs.declared.label.Label.{Label}
use Rattle.trace_show.specs.LabelText.{label_text}
use Rattle.trace_show.specs.Tally.{Tally, count_in, sum_in, with_line, with_lines, counted, nothing, last_text, tally_of}

-- a number with none added
pub alone : (n : ℕ) → n < 2 ^ 64 → n ≡ (n + 0) % 2 ^ 64
alone n small = sym (mod-eq_of_lt small) ∙ ap (λ (m : ℕ). m % 2 ^ 64) (sym (add-zero n))

-- one number more, behind those that are summed
pub sum_more : (now start so_far one next : ℕ) → now ≡ (start + so_far) % 2 ^ 64 → next ≡ so_far + one → (now + one) % 2 ^ 64 ≡ (start + next) % 2 ^ 64
sum_more now start so_far one next e f =
    ap (λ (n : ℕ). (n + one) % 2 ^ 64) e
    ∙ mod-add-mod (start + so_far) (2 ^ 64) one
    ∙ ap (λ (n : ℕ). n % 2 ^ 64) (add_assoc start so_far one ∙ ap (λ (n : ℕ). start + n) (sym f))

same : (a b c d : ℕ) (last : List ℕ) → a ≡ b → c ≡ d → tally_of a c last ≡ tally_of b d last
same a b c d last e f = ap (λ (n : ℕ). tally_of n c last) e ∙ ap (λ (n : ℕ). tally_of b n last) f

-- one line more of what is counted, before the others
step : (before one others all : ℕ) → all ≡ one + others → (before + one + others) % 2 ^ 64 ≡ (before + all) % 2 ^ 64
step before one others all e = ap (λ (n : ℕ). n % 2 ^ 64) (add_assoc before one others ∙ ap (λ (n : ℕ). before + n) (sym e))

-- lines behind what was counted, which may be more than 2^64
abbrev behind : ℕ → ℕ → List ℕ → List Label → Tally
behind elements sum last lines =
    tally_of ((elements + sum_by count_in lines) % 2 ^ 64) ((sum + sum_by sum_in lines) % 2 ^ 64) (fold (λ (before : List ℕ) (label : Label). label_text label) last lines)

counted_behind : (elements sum : ℕ) (last : List ℕ) (lines : List Label)
    → with_lines (tally_of (elements % 2 ^ 64) (sum % 2 ^ 64) last) lines ≡ behind elements sum last lines
counted_behind elements sum last [] =
    same (elements % 2 ^ 64) ((elements + 0) % 2 ^ 64) (sum % 2 ^ 64) ((sum + 0) % 2 ^ 64) last
    (ap (λ (n : ℕ). n % 2 ^ 64) (sym (add-zero elements))) (ap (λ (n : ℕ). n % 2 ^ 64) (sym (add-zero sum)))
counted_behind elements sum last (line ∷ lines) =
    let end : List ℕ = fold (λ (before : List ℕ) (label : Label). label_text label) (label_text line) lines in
    ap (λ (t : Tally). with_lines t lines)
    (same ((elements % 2 ^ 64 + count_in line) % 2 ^ 64) ((elements + count_in line) % 2 ^ 64) ((sum % 2 ^ 64 + sum_in line) % 2 ^ 64) ((sum + sum_in line) % 2 ^ 64) (label_text line)
    (mod-add-mod elements (2 ^ 64) (count_in line)) (mod-add-mod sum (2 ^ 64) (sum_in line)))
    ∙ counted_behind (elements + count_in line) (sum + sum_in line) (label_text line) lines
    ∙ same ((elements + count_in line + sum_by count_in lines) % 2 ^ 64) ((elements + sum_by count_in (line ∷ lines)) % 2 ^ 64)
    ((sum + sum_in line + sum_by sum_in lines) % 2 ^ 64) ((sum + sum_by sum_in (line ∷ lines)) % 2 ^ 64) end
    (step elements (count_in line) (sum_by count_in lines) (sum_by count_in (line ∷ lines)) (sum_by-cons count_in line lines))
    (step sum (sum_in line) (sum_by sum_in lines) (sum_by sum_in (line ∷ lines)) (sum_by-cons sum_in line lines))

pub counted_at_once : (lines : List Label) → with_lines nothing lines ≡ counted lines
counted_at_once lines =
    counted_behind 0 0 [] lines
    ∙ same ((0 + sum_by count_in lines) % 2 ^ 64) (sum_by count_in lines % 2 ^ 64) ((0 + sum_by sum_in lines) % 2 ^ 64) (sum_by sum_in lines % 2 ^ 64) (last_text lines)
    (ap (λ (n : ℕ). n % 2 ^ 64) (zero-add (sum_by count_in lines))) (ap (λ (n : ℕ). n % 2 ^ 64) (zero-add (sum_by sum_in lines)))
