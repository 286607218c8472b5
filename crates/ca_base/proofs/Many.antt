-- Items that are read up to the end, behind those that are read already.
use Rattle.std.proofs.Common.{◌≡◌, ◌<◌, ℕ, zero, suc, List, [], ◌∷◌, ◌++◌, length, refl, append-nil, arith, Ok, Err, true, false, nat_eq}
use Rattle.ca_base.specs.Span.{Span}
use Rattle.ca_base.specs.declared.refusal.Refusal.{Refusal}
use Rattle.ca_base.specs.Grammar.{Grammar, read}
use Rattle.ca_base.specs.Items.{many}
use Rattle.ca_base.proofs.Times.{preceded, one_more}

-- no item may follow
pub many_none : {W A : Type 0} (g : Grammar W A) (xs : List A) (n : ℕ) (s : Span W) → n ≡ 0 → preceded xs (read (many n g) s) ≡ Ok (xs, s)
unfolding many
many_none g xs zero s h = simp append-nil
many_none g xs (suc n) s h = cc

-- no byte is left
pub many_ends : {W A : Type 0} (g : Grammar W A) (xs : List A) (n : ℕ) (s : Span W) → nat_eq (length s.bytes) 0 ≡ true → preceded xs (read (many n g) s) ≡ Ok (xs, s)
unfolding many
many_ends g xs zero s h = simp append-nil
many_ends g xs (suc n) s h = rw h (simp append-nil)

-- an item is read
pub many_ok : {W A : Type 0} (g : Grammar W A) (xs : List A) (x : A) (n k : ℕ) (s t : Span W) → n ≡ suc k → nat_eq (length s.bytes) 0 ≡ false → read g s ≡ Ok (x, t) → preceded xs (read (many n g) s) ≡ preceded (xs ++ x ∷ []) (read (many k g) t)
unfolding many
many_ok g xs x zero k s t h b r = cc
many_ok g xs x (suc m) k s t h b r =
    let e : m ≡ k = cc in
    rw (b, r, e) (one_more xs x (read (many k g) t))

-- an item is refused
pub many_err : {W A : Type 0} (g : Grammar W A) (xs : List A) (n : ℕ) (s : Span W) (e : Refusal W) → 0 < n → nat_eq (length s.bytes) 0 ≡ false → read g s ≡ Err e → preceded xs (read (many n g) s) ≡ Err e
unfolding many
many_err g xs zero s e h b r = absurd (omega arith)
many_err g xs (suc m) s e h b r = rw (b, r) refl
