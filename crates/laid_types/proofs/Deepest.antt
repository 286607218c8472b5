-- The greatest depth of parts, as far as 33, and the greatest number of a resource that they name.
use Rattle.std.proofs.Common.{◌≡◌, ◌∙◌, ℕ, ◌≤◌, max, min, List, length, drop, ap, sym, arith, Option}
use Rattle.syntax_trees.specs.declared.types.ValType.{ValType}
use Rattle.laid_types.specs.Depth.{greatest}
use Rattle.laid_types.specs.Layers.{trees_of}
use Rattle.laid_types.specs.Gathered.{depths, tops}
use Rattle.laid_types.proofs.Steps.{trees_end}

within : (deepest : ℕ) → deepest ≤ 33 → min (max deepest 0) 33 ≡ deepest
within deepest h = omega (arith, h)

-- No part more.
pub deepest_all : (types : List ValType) (numbers : List (Option ℕ)) (at deepest whole : ℕ)
    → length numbers ≤ at → deepest ≤ 33 → whole ≡ min (max deepest (greatest (depths (trees_of types (drop at numbers))))) 33 → deepest ≡ whole
deepest_all types numbers at deepest whole h bound all =
    sym (all ∙ ap (λ (ts : List (Option ValType)). min (max deepest (greatest (depths ts))) 33) (trees_end types numbers at h) ∙ within deepest bound)

none_more : (top : ℕ) → max top 0 ≡ top
none_more top = omega arith

pub top_all : (types : List ValType) (numbers : List (Option ℕ)) (at top whole : ℕ) → length numbers ≤ at → whole ≡ max top (greatest (tops (trees_of types (drop at numbers)))) → top ≡ whole
top_all types numbers at top whole h all = sym (all ∙ ap (λ (ts : List (Option ValType)). max top (greatest (tops ts))) (trees_end types numbers at h) ∙ none_more top)
