-- Where values lie in memory (Component Model, CanonicalABI.md, "Loading", "Storing"): where parts end that are laid one after the other,
-- and the width of a number of so many bytes.
use Rattle.std.specs.Prelude.{ℕ, ◌+◌, nat_le, if◌then◌else◌, List, [], ◌∷◌, Option, Some, None}
use Rattle.std.specs.Int.{Width, w8, w16, w32}
use Rattle.syntax_trees.specs.declared.types.ValType.{ValType}
use Rattle.laid_types.specs.Layout.{laid, aligned}

-- where parts end that are laid one after the other, the first at or behind a place
abbrev pub end_behind : ℕ → List (Option ValType) → ℕ
end_behind end [] = end
end_behind end (None ∷ types) = end_behind end types
end_behind end (Some t ∷ types) = end_behind (aligned end (laid t).align + (laid t).size) types

-- the width of 1, 2 or 4 bytes
abbrev pub width_of : ℕ → Width
width_of size = if nat_le size 1 then w8 else (if nat_le size 2 then w16 else w32)
