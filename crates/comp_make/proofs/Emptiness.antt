-- Sections that are left out where they would be empty.
use Rattle.std.proofs.Common.{◌≡◌, ℕ, List, [], ◌∷◌, refl}
use Rattle.comp_make.specs.Lists.{section_bytes, vec_bytes, items_section}

pub no_items : {A : Type 0} (id : ℕ) (bytes : A → List ℕ) (xs : List A) → xs ≡ [] → items_section id bytes xs ≡ []
no_items id bytes [] h = refl
no_items id bytes (x ∷ xs) h = cc

pub some_items : {A : Type 0} (id : ℕ) (bytes : A → List ℕ) (xs : List A) → ¬ (xs ≡ []) → items_section id bytes xs ≡ section_bytes id (vec_bytes bytes xs)
some_items id bytes [] h = absurd (h refl)
some_items id bytes (x ∷ xs) h = refl
