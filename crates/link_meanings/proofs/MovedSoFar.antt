-- Types of instances that are made again export by export, with other numbers of resources.
use Rattle.std.proofs.Common.{◌≡◌, ◌≤◌, ◌∙◌, ℕ, zero, suc, ◌+◌, List, [], ◌∷◌, ◌++◌, length, refl, ap, arith, Some}
use Rattle.std.specs.List.{slice_get}
use Rattle.comp_graph.specs.Closed.{Extern, Externs, EmptyType, WithExtern}
use Rattle.link_values.specs.Resources.{Change}
use Rattle.link_spec.specs.Brought.{moved_extern, moved_externs}
use Rattle.link_types.specs.declared.maker.InstanceTypeMaker.{InstanceTypeMaker}
use Rattle.link_types.specs.Begun.{IsBegun}
use Rattle.link_types.specs.Table.{Table, in_order}

-- the exports of a list, in order
abbrev pub of_list : Externs → List (List ℕ × Extern) → Externs
of_list before [] = before
of_list before (e ∷ entries) = of_list (WithExtern before e.0 e.1) entries

pub of_more : (before : Externs) (entries more : List (List ℕ × Extern)) → of_list before (entries ++ more) ≡ of_list (of_list before entries) more
of_more before [] more = refl
of_more before (e ∷ entries) more = of_more (WithExtern before e.0 e.1) entries more

pub of_in_order : (externs : Externs) → of_list EmptyType (in_order externs) ≡ externs
of_in_order EmptyType = refl
of_in_order (WithExtern others name extern) =
    of_more EmptyType (in_order others) ((name, extern) ∷ []) ∙ ap (λ (before : Externs). WithExtern before name extern) (of_in_order others)

-- the first so many
abbrev pub first_externs : ℕ → List (List ℕ × Extern) → List (List ℕ × Extern)
first_externs zero entries = []
first_externs (suc n) [] = []
first_externs (suc n) (e ∷ entries) = e ∷ first_externs n entries

pub one_more : (n : ℕ) (entries : List (List ℕ × Extern)) (e : List ℕ × Extern) → slice_get entries n ≡ Some e → first_externs (suc n) entries ≡ first_externs n entries ++ e ∷ []
one_more n [] e h = cc
one_more zero (x ∷ entries) e h = let same : x ≡ e = cc in rw same refl
one_more (suc n) (x ∷ entries) e h = ap (λ (others : List (List ℕ × Extern)). x ∷ others) (one_more n entries e h)

-- The exports so far, of those of a type of instances, changed.
abbrev pub AreMovedSoFar : Table → Change → ℕ → InstanceTypeMaker → Externs → ℕ → Type 0
AreMovedSoFar t f depth maker externs at = IsBegun t maker (moved_externs f depth (of_list EmptyType (first_externs at (in_order externs))))

-- one more
place_behind : (k : ℕ) → k + 1 ≡ suc k
place_behind k = omega arith

pub moved_more : (f : Change) (depth : ℕ) (externs : Externs) (at : ℕ) (e : List ℕ × Extern) → slice_get (in_order externs) at ≡ Some e
    → moved_externs f depth (of_list EmptyType (first_externs (at + 1) (in_order externs)))
    ≡ WithExtern (moved_externs f depth (of_list EmptyType (first_externs at (in_order externs)))) e.0 (moved_extern f depth e.1)
moved_more f depth externs at e h =
    rw (place_behind at)
    (ap (λ (entries : List (List ℕ × Extern)). moved_externs f depth (of_list EmptyType entries)) (one_more at (in_order externs) e h)
    ∙ ap (moved_externs f depth) (of_more EmptyType (first_externs at (in_order externs)) (e ∷ [])))

-- all
first_past : (n : ℕ) (entries : List (List ℕ × Extern)) → length entries ≤ n → first_externs n entries ≡ entries
first_past zero [] h = refl
first_past (suc n) [] h = refl
first_past zero (e ∷ entries) h = absurd (omega (arith, h))
first_past (suc n) (e ∷ entries) h = ap (λ (others : List (List ℕ × Extern)). e ∷ others) (first_past n entries (omega (arith, h)))

pub moved_all : (f : Change) (depth : ℕ) (externs : Externs) (count at : ℕ) → count ≡ length (in_order externs) → count ≤ at
    → moved_externs f depth (of_list EmptyType (first_externs at (in_order externs))) ≡ moved_externs f depth externs
moved_all f depth externs count at is past =
    ap (λ (entries : List (List ℕ × Extern)). moved_externs f depth (of_list EmptyType entries)) (first_past at (in_order externs) (omega (arith, is, past)))
    ∙ ap (moved_externs f depth) (of_in_order externs)
