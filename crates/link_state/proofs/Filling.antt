-- What is asked for, where it brings no resources, and where it brings some.
use Rattle.std.proofs.Common.{◌≡◌, ◌==◌, ℕ, suc, true, false, List, [], ◌∷◌, length, refl, subst, arith}
use Rattle.std.proofs.lemmas.Bool.Decides.{nat_tests}
use Rattle.comp_graph.specs.Closed.{Extern}
use Rattle.link_values.specs.Resources.{filled_in}
use Rattle.link_spec.specs.Brought.{moved_extern, filled}

pub as_it_is : (given : List ℕ) (x : Extern) → given ≡ [] → filled given x ≡ x
as_it_is [] x h = refl
as_it_is (number ∷ given) x h = cc

pub filled_some : (found given : List ℕ) (x : Extern) → found ≡ given → (found ≡ [] → ⊥) → filled given x ≡ moved_extern (filled_in found) 0 x
filled_some [] given x e h = absurd (h refl)
filled_some (number ∷ found) given x e h = subst (λ (g : List ℕ). filled g x ≡ moved_extern (filled_in (number ∷ found)) 0 x) e refl

-- a list of no length, and one of some
not_none : (n : ℕ) → (suc n == 0) ≡ true → ⊥
not_none n h = grind (arith, nat_tests)

none_not : (0 == 0) ≡ false → ⊥
none_not h = grind (arith, nat_tests)

pub empty_list : (given : List ℕ) → (length given == 0) ≡ true → given ≡ []
empty_list [] h = refl
empty_list (number ∷ given) h = absurd (not_none (length given) h)

pub some_list : (given : List ℕ) → (length given == 0) ≡ false → given ≡ [] → ⊥
some_list [] h e = none_not h
some_list (number ∷ given) h e = cc
