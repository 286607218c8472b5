-- Items that are read one after the other, each by its own grammar, behind those that are read already.
use Rattle.std.proofs.Common.{◌≡◌, ◌<◌, ◌≤◌, ◌+◌, ℕ, List, [], ◌∷◌, ◌++◌, length, drop, get_or, refl, append-nil, Ok, Err}
use Rattle.std.proofs.lemmas.List.{drop_all, drop_more}
use Rattle.ca_base.specs.Span.{Span}
use Rattle.ca_base.specs.declared.refusal.Refusal.{Refusal}
use Rattle.ca_base.specs.Grammar.{Grammar, read}
use Rattle.ca_base.proofs.Times.{preceded, one_more}
use Rattle.ca_base.specs.Items.{each}

-- no items are left to be read
pub each_none : {W X A : Type 0} (g : X → Grammar W A) (ys : List A) (xs : List X) (at : ℕ) (s : Span W) → length xs ≤ at → preceded ys (read (each g (drop at xs)) s) ≡ Ok (ys, s)
each_none g ys xs at s h = rw (drop_all at xs h, append-nil ys) refl

-- an item is read
pub each_ok : {W X A : Type 0} (g : X → Grammar W A) (ys : List A) (xs : List X) (d : X) (at : ℕ) (y : A) (s t : Span W) → at < length xs → read (g (get_or xs at d)) s ≡ Ok (y, t) → preceded ys (read (each g (drop at xs)) s) ≡ preceded (ys ++ y ∷ []) (read (each g (drop (at + 1) xs)) t)
each_ok g ys xs d at y s t h r = rw (drop_more xs at d h, r) (one_more ys y (read (each g (drop (at + 1) xs)) t))

-- an item is refused
pub each_err : {W X A : Type 0} (g : X → Grammar W A) (ys : List A) (xs : List X) (d : X) (at : ℕ) (s : Span W) (e : Refusal W) → at < length xs → read (g (get_or xs at d)) s ≡ Err e → preceded ys (read (each g (drop at xs)) s) ≡ Err e
each_err g ys xs d at s e h r = rw (drop_more xs at d h, r) refl
