-- Bytes that are put into a memory, and those beside them.
use Rattle.std.proofs.Common.{◌≡◌, ℕ, ◌+◌, ◌-◌, ◌≤◌, List, ◌++◌, length, take, drop, refl, sym, ◌∙◌, ap, arith, ◌⊎◌, inl, inr}
use Rattle.std.proofs.lemmas.Bool.{cond_both, cond-true, leb-true, le-leb}
use Rattle.std.proofs.lemmas.List.{append_assoc, length-append, length-take, length-drop, length-take-le, take_at, drop_at, take-append-le, take-take, drop-take, drop-drop}
use Rattle.wasm_memory.specs.Bytes.{is_inside, with_at, put}

pub length_with : (at : ℕ) (bytes memory : List ℕ) → at + length bytes ≤ length memory → length (with_at at bytes memory) ≡ length memory
length_with at bytes memory inside = simp (length-append, length-take, length-drop) (omega arith)

pub length_put : (at : ℕ) (bytes memory : List ℕ) → length (put at bytes memory) ≡ length memory
length_put at bytes memory =
    cond_both (is_inside at (length bytes) memory) (with_at at bytes memory) memory (λ xs. length xs ≡ length memory)
    (λ e. length_with at bytes memory (leb-true (at + length bytes) (length memory) e))
    (λ e. refl)

-- bytes that are inside are put
pub put_inside : (at : ℕ) (bytes memory : List ℕ) → at + length bytes ≤ length memory → put at bytes memory ≡ with_at at bytes memory
put_inside at bytes memory inside =
    cond-true (is_inside at (length bytes) memory) (with_at at bytes memory) memory (le-leb (at + length bytes) (length memory) inside)

-- they stand there then
pub there : (at n : ℕ) (bytes memory : List ℕ) → length bytes ≡ n → at + length bytes ≤ length memory → take n (drop at (with_at at bytes memory)) ≡ bytes
there at n bytes memory size inside =
    let rest : List ℕ = drop (at + length bytes) memory in
    let front : length (take at memory) ≡ at = length-take-le at memory (omega arith) in
    ap (λ xs. take n (drop at xs)) (append_assoc (take at memory) bytes rest)
    ∙ ap (take n) (drop_at (take at memory) (bytes ++ rest) at front)
    ∙ take_at bytes rest n size

-- what ends before them stays, and what begins behind them
before : (from k at : ℕ) (bytes memory : List ℕ) → at + length bytes ≤ length memory → from + k ≤ at → take k (drop from (with_at at bytes memory)) ≡ take k (drop from memory)
before from k at bytes memory inside ends =
    let rest : List ℕ = drop (at + length bytes) memory in
    let front : length (take at memory) ≡ at = length-take-le at memory (omega arith) in
    let kept : take (from + k) (with_at at bytes memory) ≡ take (from + k) memory =
    ap (take (from + k)) (append_assoc (take at memory) bytes rest)
    ∙ take-append-le (from + k) (take at memory) (bytes ++ rest) (omega arith)
    ∙ take-take (from + k) at memory ends in
    sym (drop-take from k (with_at at bytes memory)) ∙ ap (drop from) kept ∙ drop-take from k memory

behind : (from k at : ℕ) (bytes memory : List ℕ) → at + length bytes ≤ length memory → at + length bytes ≤ from → take k (drop from (with_at at bytes memory)) ≡ take k (drop from memory)
behind from k at bytes memory inside begins =
    let whole : List ℕ = with_at at bytes memory in
    let ends : ℕ = at + length bytes in
    let more : ℕ = from - ends in
    let split : ends + more ≡ from = omega arith in
    let front : length (take at memory ++ bytes) ≡ ends = simp (length-append, length-take) (omega arith) in
    ap (take k)
    (ap (λ n. drop n whole) (sym split) ∙ sym (drop-drop more ends whole) ∙ ap (drop more) (drop_at (take at memory ++ bytes) (drop ends memory) ends front)
    ∙ drop-drop more ends memory ∙ ap (λ n. drop n memory) split)

pub beside : (from k at : ℕ) (bytes memory : List ℕ) → at + length bytes ≤ length memory → (from + k ≤ at) ⊎ (at + length bytes ≤ from) → take k (drop from (with_at at bytes memory)) ≡ take k (drop from memory)
beside from k at bytes memory inside (inl ends) = before from k at bytes memory inside ends
beside from k at bytes memory inside (inr begins) = behind from k at bytes memory inside begins
