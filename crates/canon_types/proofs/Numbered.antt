-- Resources by their numbers, which are counted from 1.
use Rattle.std.proofs.Common.{◌≡◌, ◌≢◌, ◌-◌, ℕ, zero, suc, List, None, refl, ap, arith}
use Rattle.std.specs.List.{slice_get}
use Rattle.comp_graph.specs.declared.graph.Resource.{Resource}
use Rattle.link_spec.specs.Resources.{resource_numbered}

pub none_numbered : (resources : List Resource) (number : ℕ) → number ≡ 0 → None ≡ resource_numbered resources number
none_numbered resources zero h = refl
none_numbered resources (suc place) h = absurd (omega (arith, h))

pub one_numbered : (resources : List Resource) (number : ℕ) → number ≢ 0 → slice_get resources (number - 1) ≡ resource_numbered resources number
one_numbered resources zero h = absurd (h refl)
one_numbered resources (suc place) h = let e : suc place - 1 ≡ place = omega arith in ap (slice_get resources) e
