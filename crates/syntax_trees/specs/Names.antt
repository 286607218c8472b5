-- Names that stand twice, and look-ups by name.
use Rattle.std.specs.Prelude.{◌≢◌, ◌+◌, ℕ, Bool, cond, List, [], ◌∷◌, ◌++◌, length, Option, Some, None}
use Rattle.std.specs.List.{list_any, AllByRecursion}
use Rattle.std.specs.Str.{bytes_eq}
use Rattle.std.specs.BTreeSet.{BTreeSet, contains_by}
use Rattle.std.specs.BTreeMap.{BTreeMap, get_by}
use Rattle.std.specs.Cmp.Lexicographic.{slice_cmp}
use Rattle.std.specs.Ordering.{nat_cmp}
use denote.Ref.{Bor}

-- whether a set of names has these bytes
abbrev pub has : BTreeSet (Bor (List ℕ)) → List ℕ → Bool
has s q = contains_by (λ k. slice_cmp nat_cmp q k.now) s

-- what a map by names has at these bytes
abbrev pub at_name : BTreeMap (Bor (List ℕ)) ℕ → List ℕ → Option ℕ
at_name m q = get_by (λ k. slice_cmp nat_cmp q k.now) m

-- Names, no two of them equal.
abbrev pub AreDistinct : List (List ℕ) → Type 0
AreDistinct [] = Unit {0}
AreDistinct (first ∷ names) = AllByRecursion (λ name. first ≢ name) names × AreDistinct names

-- whether a name is among some
abbrev pub is_among : List ℕ → List (List ℕ) → Bool
is_among q names = list_any (λ name. bytes_eq name q) names

-- the place of the first name that stands before, behind some names
abbrev pub twice_behind : List (List ℕ) → List (List ℕ) → Option ℕ
twice_behind before [] = None
twice_behind before (name ∷ names) =
    cond (is_among name before) (Some (length before)) (twice_behind (before ++ name ∷ []) names)

abbrev pub first_twice : List (List ℕ) → Option ℕ
first_twice names = twice_behind [] names

-- the place of the first of some names that is this, behind so many
abbrev pub named_behind : ℕ → List ℕ → List (List ℕ) → Option ℕ
named_behind at q [] = None
named_behind at q (name ∷ names) = cond (bytes_eq name q) (Some at) (named_behind (at + 1) q names)

abbrev pub first_named : List ℕ → List (List ℕ) → Option ℕ
first_named q names = named_behind 0 q names
