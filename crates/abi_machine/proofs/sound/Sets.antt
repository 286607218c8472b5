-- Sets by their members: what `waitables` makes of them, in lists of lists.
use Rattle.std.proofs.Common.{◌≡◌, ℕ, zero, suc, List, [], ◌∷◌, ◌++◌, map, refl, ap}
use Rattle.waitables.specs.Sets.{without}
use Rattle.waitables.specs.Sets as views
use Rattle.abi_machine.specs.Edits.{changed_at, by_views}

-- the sets once a waitable is in none of them
abbrev pub left_sets : ℕ → List (List ℕ) → List (List ℕ)
left_sets index sets = map (without index) sets

pub left_is : (index : ℕ) (sets : List (List ℕ)) → by_views (views.left index) sets ≡ left_sets index sets
left_is index [] = refl
left_is index (members ∷ sets) = ap (λ (l : List (List ℕ)). without index members ∷ l) (left_is index sets)

-- the sets once it joined one of them
pub joined_is : (index set : ℕ) (sets : List (List ℕ)) → by_views (views.joined index set) sets ≡ changed_at set (λ members. members ++ index ∷ []) (left_sets index sets)
joined_is index set [] = refl
joined_is index zero (members ∷ sets) = ap (λ (l : List (List ℕ)). (without index members ++ index ∷ []) ∷ l) (left_is index sets)
joined_is index (suc set) (members ∷ sets) = ap (λ (l : List (List ℕ)). without index members ∷ l) (joined_is index set sets)
