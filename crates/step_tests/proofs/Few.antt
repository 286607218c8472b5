-- No handle of two instances is lent often where none of either is.
use Rattle.std.proofs.Common.{◌≡◌, ℕ, ◌^◌, zero, suc, List, [], ◌∷◌, Option, Some, None, subst}
use Rattle.std.specs.List.{slice_get}
use Rattle.instances.specs.Entries.{seen_as}
use Rattle.instances.specs.Instances.{InstanceView}
use Rattle.value_lift.specs.Tables.{MostLends}

pub few_of_two : (a b : InstanceView) → MostLends seen_as (2 ^ 63) a.slots → MostLends seen_as (2 ^ 63) b.slots
    → (at : ℕ) (i : InstanceView) → slice_get (a ∷ b ∷ []) at ≡ Some i → MostLends seen_as (2 ^ 63) i.slots
few_of_two a b x y zero i found =
    let same : a ≡ i = cc in
    subst (λ (i : InstanceView). MostLends seen_as (2 ^ 63) i.slots) same x
few_of_two a b x y (suc zero) i found =
    let same : b ≡ i = cc in
    subst (λ (i : InstanceView). MostLends seen_as (2 ^ 63) i.slots) same y
few_of_two a b x y (suc (suc k)) i found = absurd cc
