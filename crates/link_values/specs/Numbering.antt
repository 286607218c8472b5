-- Things that are numbered, as the parts of types are (Component Model, Explainer.md, "Type Definitions"): each stands once in a list,
-- and its number is its place there.
use Rattle.std.specs.Prelude.{◌≡◌, ◌≢◌, ◌⊎◌, ℕ, List, [], ◌∷◌, ◌++◌, Option, Some, None}
use Rattle.std.specs.List.{slice_get}

-- No thing stands at two numbers.
abbrev pub AreApart : {A : Type 0} → List A → Type 0
AreApart {A} things = (m n : ℕ) (thing : A) → slice_get things m ≡ Some thing → slice_get things n ≡ Some thing → m ≡ n

-- the number of a thing, or none where it is not there
abbrev pub IsNumberOf : {A : Type 0} → List A → A → Option ℕ → Type 0
IsNumberOf things thing None = (n : ℕ) → slice_get things n ≢ Some thing
IsNumberOf things thing (Some number) = slice_get things number ≡ Some thing

-- A thing stands at this number of the new list, which is the old one, or has the thing behind the others.
abbrev pub IsAdded : {A : Type 0} → List A → A → ℕ → List A → Type 0
IsAdded old thing number new = (slice_get new number ≡ Some thing) × ((new ≡ old) ⊎ (new ≡ old ++ thing ∷ []))

-- A look-up gives the number of each thing, and none for all else.
pub record Numbers {A : Type 0} (find : A → Option ℕ) (things : List A) : Type 0 where
  pub stands : (thing : A) (number : ℕ) → find thing ≡ Some number → slice_get things number ≡ Some thing
  pub found : (number : ℕ) (thing : A) → slice_get things number ≡ Some thing → find thing ≡ Some number
