-- One element of a list behind others.
use Rattle.std.proofs.Common.{◌≡◌, ◌<◌, ℕ, zero, suc, List, [], ◌∷◌, ◌++◌, Some, None, refl, arith}
use Rattle.syntax_trees.specs.declared.value.Value.{Value}
use Rattle.value_reader.specs.Tokens.{without_blanks, after_mark}
use Rattle.value_reader.specs.Values.{Reader, elements_from}

pub elements_over : (r : Reader) (n : ℕ) (before : List Value) (text : List ℕ) → n ≡ 0 → elements_from r n before text ≡ None
elements_over r zero before text e = refl
elements_over r (suc n) before text e = cc

pub elements_no_value : (r : Reader) (n : ℕ) (before : List Value) (text : List ℕ) → r (without_blanks text) ≡ None → elements_from r n before text ≡ None
elements_no_value r zero before text h = refl
elements_no_value r (suc n) before text h = rw h refl

pub elements_close : (r : Reader) (n : ℕ) (before : List Value) (v : Value) (text rest behind : List ℕ) → 0 < n
    → r (without_blanks text) ≡ Some (v, rest) → after_mark 93 rest ≡ Some behind → elements_from r n before text ≡ Some (before ++ v ∷ [], behind)
elements_close r zero before v text rest behind low h i = absurd (omega arith)
elements_close r (suc n) before v text rest behind low h i = rw (h, i) refl

pub elements_go : (r : Reader) (n k : ℕ) (before : List Value) (v : Value) (text rest behind : List ℕ) → n ≡ suc k
    → r (without_blanks text) ≡ Some (v, rest) → after_mark 93 rest ≡ None → after_mark 44 rest ≡ Some behind
    → elements_from r n before text ≡ elements_from r k (before ++ v ∷ []) behind
elements_go r zero k before v text rest behind low h i j = cc
elements_go r (suc n) k before v text rest behind low h i j =
    let same : n ≡ k = cc in
    rw (h, i, j, same) refl

pub elements_end : (r : Reader) (n : ℕ) (before : List Value) (v : Value) (text rest : List ℕ)
    → r (without_blanks text) ≡ Some (v, rest) → after_mark 93 rest ≡ None → after_mark 44 rest ≡ None → elements_from r n before text ≡ None
elements_end r zero before v text rest h i j = refl
elements_end r (suc n) before v text rest h i j = rw (h, i, j) refl
