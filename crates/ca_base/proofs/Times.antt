-- Items that are read one after the other, behind those that are read already.
use Rattle.std.proofs.Common.{◌≡◌, ◌<◌, arith, ℕ, zero, suc, List, [], ◌∷◌, ◌++◌, refl, append-nil, append_assoc, Result, Ok, Err}
use Rattle.ca_base.specs.Span.{Span}
use Rattle.ca_base.specs.declared.refusal.Refusal.{Refusal}
use Rattle.ca_base.specs.Grammar.{Grammar, read, times, and_then}

-- the items before a reading's own
abbrev pub preceded : {W A : Type 0} → List A → Result (List A × Span W) (Refusal W) → Result (List A × Span W) (Refusal W)
preceded xs (Ok y) = Ok (xs ++ y.0, y.1)
preceded xs (Err e) = Err e

-- one item more before a reading
pub one_more : {W A : Type 0} (xs : List A) (x : A) (r : Result (List A × Span W) (Refusal W)) → preceded xs (and_then r (λ ys u. Ok (x ∷ ys, u))) ≡ preceded (xs ++ x ∷ []) r
one_more xs x (Ok y) = simp append_assoc
one_more xs x (Err e) = refl

-- nothing stands before a reading
pub none_before : {W A : Type 0} (r : Result (List A × Span W) (Refusal W)) → r ≡ preceded [] r
none_before (Ok y) = refl
none_before (Err e) = refl

-- no items are left to be read
pub times_none : {W A : Type 0} (g : Grammar W A) (xs : List A) (n : ℕ) (s : Span W) → n ≡ 0 → preceded xs (read (times n g) s) ≡ Ok (xs, s)
times_none g xs zero s h = simp append-nil
times_none g xs (suc n) s h = cc

-- an item is read
pub times_ok : {W A : Type 0} (g : Grammar W A) (xs : List A) (x : A) (n k : ℕ) (s t : Span W) → n ≡ suc k → read g s ≡ Ok (x, t) → preceded xs (read (times n g) s) ≡ preceded (xs ++ x ∷ []) (read (times k g) t)
times_ok g xs x zero k s t h r = cc
times_ok g xs x (suc m) k s t h r =
    let e : m ≡ k = cc in
    rw (r, e) (one_more xs x (read (times k g) t))

-- an item is refused
pub times_err : {W A : Type 0} (g : Grammar W A) (xs : List A) (n : ℕ) (s : Span W) (e : Refusal W) → 0 < n → read g s ≡ Err e → preceded xs (read (times n g) s) ≡ Err e
times_err g xs zero s e h r = absurd (omega arith)
times_err g xs (suc m) s e h r = rw r refl
