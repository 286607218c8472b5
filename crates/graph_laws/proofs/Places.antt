-- Items of lists by their numbers, and plans, when one more comes at the end.
use Rattle.std.proofs.Common.{◌≡◌, ◌+◌, ℕ, zero, suc, List, [], ◌∷◌, ◌++◌, length, set, refl, subst, arith, Some}
use Rattle.std.specs.List.{slice_get}
use Rattle.comp_graph.specs.declared.graph.Action.{Action}
use Rattle.comp_graph.specs.declared.graph.Action.TheVariants.{Begin, Make}
use Rattle.comp_graph.specs.Graph.{CoreMake}
use Rattle.abi_machine.specs.sound.Owners.{Makes}

some_same : {A : Type 0} (x y : A) → Some x ≡ Some y → x ≡ y
some_same x y h = cc

-- what holds of each item and its number, where one item is changed, and where one comes behind
pub at_set : {A : Type 0} (P : ℕ → A → Type 0) (xs : List A) (n : ℕ) (x : A) → P n x → ((k : ℕ) (y : A) → slice_get xs k ≡ Some y → P k y) → (k : ℕ) (y : A) → slice_get (set xs n x) k ≡ Some y → P k y
at_set P [] n x p h k y e = cc
at_set P (z ∷ xs) zero x p h zero y e = subst (P zero) (some_same x y e) p
at_set P (z ∷ xs) zero x p h (suc k) y e = h (suc k) y e
at_set P (z ∷ xs) (suc n) x p h zero y e = h zero y e
at_set P (z ∷ xs) (suc n) x p h (suc k) y e = at_set (λ k y. P (suc k) y) xs n x p (λ k y e. h (suc k) y e) k y e

pub at_push : {A : Type 0} (P : ℕ → A → Type 0) (xs : List A) (x : A) → P (length xs) x → ((k : ℕ) (y : A) → slice_get xs k ≡ Some y → P k y) → (k : ℕ) (y : A) → slice_get (xs ++ x ∷ []) k ≡ Some y → P k y
at_push P [] x p h zero y e = subst (P zero) (some_same x y e) p
at_push P [] x p h (suc k) y e = cc
at_push P (z ∷ xs) x p h zero y e = h zero y e
at_push P (z ∷ xs) x p h (suc k) y e = at_push (λ k y. P (suc k) y) xs x p (λ k y e. h (suc k) y e) k y e

-- one component instance more begins
pub begins_behind : (instance number : ℕ) (plan : List Action) (cores : List CoreMake) → Makes number plan cores → Makes number (plan ++ Begin instance ∷ []) cores
begins_behind instance number [] cores h = h
begins_behind instance number (Begin other ∷ plan) cores h = begins_behind instance number plan cores h
begins_behind instance number (Make made ∷ plan) [] h = absurd h
begins_behind instance number (Make made ∷ plan) (c ∷ cores) h = (h.0, begins_behind instance (suc number) plan cores h.1)

-- one core instance more is made, of the number that comes next
pub makes_behind : (next number : ℕ) (plan : List Action) (cores : List CoreMake) (c : CoreMake) → next ≡ number + length cores → Makes number plan cores → Makes number (plan ++ Make next ∷ []) (cores ++ c ∷ [])
makes_behind next number [] [] c is h = ((let e : next ≡ number + 0 = is in omega (arith, e)), refl)
makes_behind next number [] (other ∷ cores) c is h = cc
makes_behind next number (Begin instance ∷ plan) cores c is h = makes_behind next number plan cores c is h
makes_behind next number (Make made ∷ plan) [] c is h = absurd h
makes_behind next number (Make made ∷ plan) (other ∷ cores) c is h = (h.0, makes_behind next (suc number) plan cores c (omega (arith, is)) h.1)
