-- What is found for exports, one behind the other in their order, and types in which numbers are changed, in order.
use Rattle.std.proofs.Common.{◌≡◌, ◌∙◌, ℕ, List, [], ◌∷◌, ◌++◌, refl, ap, sym}
use Rattle.comp_graph.specs.Closed.{Extern, Externs, EmptyType, WithExtern}
use Rattle.link_spec.specs.Definitions.{Exports, export_named}
use Rattle.link_spec.specs.Brought.{found_for, all_found_for}

-- exports in order, with their names
abbrev pub ordered : Externs → List (List ℕ × Extern)
ordered EmptyType = []
ordered (WithExtern others name extern) = ordered others ++ (name, extern) ∷ []

-- what is found for these exports, behind what is found
abbrev pub found_over : Exports → List ℕ → List (List ℕ × Extern) → List ℕ
found_over given found [] = found
found_over given found (e ∷ externs) = found_over given (found_for (export_named e.0 given) found e.1) externs

pub over_more : (given : Exports) (found : List ℕ) (externs more : List (List ℕ × Extern)) → found_over given found (externs ++ more) ≡ found_over given (found_over given found externs) more
over_more given found [] more = refl
over_more given found (e ∷ externs) more = over_more given (found_for (export_named e.0 given) found e.1) externs more

pub found_in_order : (given : Exports) (found : List ℕ) (externs : Externs) → all_found_for given found externs ≡ found_over given found (ordered externs)
found_in_order given found EmptyType = refl
found_in_order given found (WithExtern others name extern) =
    ap (λ (before : List ℕ). found_for (export_named name given) before extern) (found_in_order given found others)
    ∙ sym (over_more given found (ordered others) ((name, extern) ∷ []))
