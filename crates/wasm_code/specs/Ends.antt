-- The ends that are open, on the way from the end of flat code to its beginning (Core 2.0, section 5.4): each is kept as the
-- jump of the block, loop or `if` that it ends, the innermost one first.
use Rattle.std.specs.Prelude.{ℕ, ◌+◌, List, [], ◌∷◌, drop, Option, None}
use Rattle.std.specs.List.{slice_get}
use Rattle.syntax_trees.specs.declared.instr.Op.{Op}
use Rattle.syntax_trees.specs.declared.instr.Op.TheVariants.{Plain, OpenBlock, OpenLoop, OpenIf, Else, End}
use Rattle.wasm_code.specs.declared.jumps.Jump.{Jump}

-- The innermost end is that of an `if` whose second part begins at a place.
abbrev pub noted : ℕ → List Jump → List Jump
noted place [] = []
noted place (end ∷ ends) = record { behind = end.behind; second = place } ∷ ends

-- the open ends before the operation at a place, of those behind it
abbrev pub ends_before : Op → ℕ → List Jump → List Jump
ends_before (Plain i) at ends = ends
ends_before (OpenBlock t) at ends = drop 1 ends
ends_before (OpenLoop t) at ends = drop 1 ends
ends_before (OpenIf t) at ends = drop 1 ends
ends_before Else at ends = noted (at + 1) ends
ends_before End at ends = record { behind = at + 1; second = at } ∷ ends

-- the jump of the block that an operation begins, of the open ends behind it
abbrev pub jump_of : Op → List Jump → Option Jump
jump_of (OpenBlock t) ends = slice_get ends 0
jump_of (OpenLoop t) ends = slice_get ends 0
jump_of (OpenIf t) ends = slice_get ends 0
jump_of other ends = None
