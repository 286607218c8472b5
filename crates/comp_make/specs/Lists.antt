-- Vectors, what stands behind its size, and sections (Core 2.0, sections 5.1.3 and 5.5.2).
use Rattle.std.specs.Prelude.{ℕ, List, [], ◌∷◌, ◌++◌, length}
use Rattle.std.specs.List.{flat_map}
use Rattle.comp_make.specs.Numbers.{unsigned_bytes}

-- bytes behind their number
abbrev pub sized : List ℕ → List ℕ
sized bytes = unsigned_bytes (length bytes) ++ bytes

-- a vector: how many items, and the bytes of each
abbrev pub vec_bytes : {A : Type 0} → (A → List ℕ) → List A → List ℕ
vec_bytes bytes xs = unsigned_bytes (length xs) ++ flat_map bytes xs

-- a section: its id, and its content behind its size
abbrev pub section_bytes : ℕ → List ℕ → List ℕ
section_bytes id content = id ∷ sized content

-- a section of a vector of items, which is left out where there are none
abbrev pub items_section : {A : Type 0} → ℕ → (A → List ℕ) → List A → List ℕ
items_section id bytes [] = []
items_section id bytes (x ∷ xs) = section_bytes id (vec_bytes bytes (x ∷ xs))
