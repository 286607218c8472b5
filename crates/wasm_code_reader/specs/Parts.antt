-- The parts of a body that are open while it is read.
use Rattle.std.specs.Prelude.{◌≡◌, Bool, true, false, List, [], ◌∷◌, Option, Some, None}
use Rattle.wasm_code_reader.specs.declared.parts.Part.{Part}
use Rattle.wasm_code_reader.specs.declared.parts.Part.TheVariants.{First, Other}

-- The innermost part around is taken, where there is one.
abbrev pub Leaves : List Part → Option Part → List Part → Type 0
Leaves [] taken left = (taken ≡ None) × (left ≡ [])
Leaves (part ∷ parts) taken left = (taken ≡ Some part) × (left ≡ parts)

-- whether `else` may end a part
abbrev pub may_else : Part → Bool
may_else First = true
may_else Other = false
