-- Places that lie apart (Component Model, CanonicalABI.md, "Storing"): of one lowering, the regions that its reallocs answered are
-- disjoint from each other and from the target, and no realloc changes the bytes of the target or of a region that was answered
-- before. The standard asks this of no component; where it is so, what is lowered stands.
use Rattle.std.specs.Prelude.{◌≡◌, ◌≤◌, ◌<◌, ◌+◌, ◌⊎◌, ℕ, List, [], ◌∷◌, get_or}
use Rattle.lowering_laws.specs.Settling.{Answer}

-- So many bytes from a place on.
pub record Region : Type 0 where
  pub place : ℕ
  pub size : ℕ

-- An address of a region.
abbrev pub Within : Region → ℕ → Type 0
Within r a = (r.place ≤ a) × (a < r.place + r.size)

-- An address of one of some regions.
abbrev pub In : List Region → ℕ → Type 0
In [] a = ⊥
In (r ∷ regions) a = Within r a ⊎ In regions a

-- the region that an answer gives
abbrev pub region_of : Answer → Region
region_of answer = record { place = answer.place; size = answer.asked.size }

-- It has no address of some regions.
abbrev pub Disjoint : List Region → Region → Type 0
Disjoint regions r = (a : ℕ) → In regions a → Within r a → ⊥

-- The bytes of some regions are the same in both memories.
abbrev pub Same : List Region → List ℕ → List ℕ → Type 0
Same regions before after = (a : ℕ) → In regions a → get_or after a 0 ≡ get_or before a 0

-- Each of these answers gives a region that is disjoint from all before it, and leaves their bytes as they are.
abbrev pub Apart : List Region → List Answer → Type 0
Apart regions [] = Unit {0}
Apart regions (answer ∷ answers) =
    Disjoint regions (region_of answer) × Same regions answer.before answer.after × Apart (region_of answer ∷ regions) answers
