-- A text that is taken or read piece by piece.
use Rattle.std.proofs.Common.{◌≡◌, ℕ, ◌+◌, ◌-◌, List, length, ◌++◌, take, drop, Option, Some, None, IfSome, refl, sym, ◌∙◌, ap, subst, append_assoc, take-add}
use Rattle.std.proofs.lemmas.List.{take_rest}
use Rattle.ca_io.specs.Bytes.{grown, ReadsAt}

-- one piece more is taken
pub grown_more : (before : Option (List ℕ)) (text : List ℕ) (done count : ℕ)
    → grown (grown before (take done text)) (take count (take (length text - done) (drop done text))) ≡ grown before (take (done + count) text)
grown_more None text done count = refl
grown_more (Some taken) text done count =
    ap (λ (l : List ℕ). Some l)
    (append_assoc taken (take done text) (take count (take (length text - done) (drop done text)))
    ∙ ap (λ (l : List ℕ). taken ++ (take done text ++ take count l)) (take_rest text done)
    ∙ ap (λ (l : List ℕ). taken ++ l) (sym (take-add done count text)))

-- what was found is the front of the bytes that are held
abbrev pub IsFront : Option (List ℕ) → List ℕ → ℕ → Type 0
IsFront held found at = IfSome held (λ bytes. found ≡ take at bytes)

-- one piece more is read
pub front_more : (before now : Option (List ℕ)) (found into next : List ℕ) (at place count end : ℕ)
    → now ≡ before → IsFront before found at → IfSome now (λ bytes. ReadsAt bytes place count into)
    → next ≡ found ++ take count into → place ≡ at → end ≡ at + count → IsFront before next end
front_more None now found into next at place count end same front reads is here there = tt
front_more (Some bytes) now found into next at place count end same front reads is here there =
    let read : ReadsAt bytes place count into = subst (λ (h : Option (List ℕ)). IfSome h (λ bytes. ReadsAt bytes place count into)) same reads in
    is
    ∙ ap (λ (l : List ℕ). l ++ take count into) front
    ∙ ap (λ (l : List ℕ). take at bytes ++ l) (read.front ∙ ap (λ (n : ℕ). take count (drop n bytes)) here)
    ∙ sym (take-add at count bytes)
    ∙ ap (λ (n : ℕ). take n bytes) (sym there)
