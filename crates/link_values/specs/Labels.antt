-- Lists of labels by number (Component Model, Explainer.md, "Type Definitions"): each stands once, with its number behind it.
use Rattle.std.specs.Prelude.{◌≡◌, ◌<◌, ℕ, Bool, cond, List, [], ◌∷◌, length, map, Option, Some, None}
use Rattle.std.specs.Cmp.Lexicographic.{slice_cmp}
use Rattle.std.specs.Ordering.{nat_cmp, is_eq}
use denote.Ref.{Bor}

-- the texts of labels
abbrev pub texts : List (Bor (List ℕ)) → List (List ℕ)
texts labels = map (λ (l : Bor (List ℕ)). l.now) labels

-- whether two lists are the same
abbrev pub same_list : List (List ℕ) → List (List ℕ) → Bool
same_list labels others = is_eq (slice_cmp (slice_cmp nat_cmp) labels others)

-- the number of a list, if it is there
abbrev pub list_number : List (List (List ℕ) × ℕ) → List (List ℕ) → Option ℕ
list_number [] labels = None
list_number (e ∷ entries) labels = cond (same_list labels e.0) (Some e.1) (list_number entries labels)

-- A number is that of one list, and below the count of all.
pub record AreListed (entries : List (List (List ℕ) × ℕ)) : Type 0 where
  pub one : (labels others : List (List ℕ)) (n : ℕ) → list_number entries labels ≡ Some n → list_number entries others ≡ Some n → labels ≡ others
  pub below : (labels : List (List ℕ)) (n : ℕ) → list_number entries labels ≡ Some n → n < length entries
