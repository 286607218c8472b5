-- A text that is stored in a memory of 16 bytes, over an answer that lies apart and over one that does not.
use Rattle.std.specs.Prelude.{ℕ, List, [], ◌∷◌, replicate}
use Rattle.syntax_trees.specs.declared.types.ValType.TheVariants as leaves
use Rattle.syntax_trees.specs.declared.value.Value.TheVariants as plain
use Rattle.value_lower.specs.Plan.{Plan}
use Rattle.value_lower.specs.Lowering.{stored}
use Rattle.lowering_laws.specs.Settling.{Answer, Settles}
use Rattle.lowering_laws.specs.ApartPlaces.{Apart}
use Rattle.lowering_laws.specs.ValueLaws.{target}

abbrev zeros : List ℕ
zeros = replicate 16 0

-- the text "hi" at place 0
abbrev hi : Plan
hi = stored leaves.String (plain.String (104 ∷ 105 ∷ [])) 0

-- an answer that leaves the memory as it is
abbrev answer : ℕ → Answer
answer place = record { asked = record { old = 0; old_size = 0; align = 1; size = 2 }; place = place; before = zeros; after = zeros }

-- Place 8 is behind the place and the number of bytes, which take 8 bytes.
abbrev pub TextBeside : Type 0
TextBeside = Settles hi zeros (answer 8 ∷ []) (8 ∷ 0 ∷ 0 ∷ 0 ∷ 2 ∷ 0 ∷ 0 ∷ 0 ∷ 104 ∷ 105 ∷ replicate 6 0) []

abbrev pub BesideIsApart : Type 0
BesideIsApart = Apart (target leaves.String 0 ∷ []) (answer 8 ∷ [])

-- At place 4 the number of bytes goes over the text.
abbrev pub TextWithin : Type 0
TextWithin = Settles hi zeros (answer 4 ∷ []) (4 ∷ 0 ∷ 0 ∷ 0 ∷ 2 ∷ 0 ∷ 0 ∷ 0 ∷ replicate 8 0) []

abbrev pub WithinIsNotApart : Type 0
WithinIsNotApart = Apart (target leaves.String 0 ∷ []) (answer 4 ∷ []) → ⊥
