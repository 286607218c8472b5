-- The list of what a type of instances asks for, from a place on.
use Rattle.std.proofs.Common.{◌≡◌, ◌≤◌, ◌∙◌, ℕ, zero, suc, ◌+◌, List, [], ◌∷◌, ◌++◌, length, drop, refl, ap, arith, Some, None}
use Rattle.std.specs.List.{slice_get}
use Rattle.std.proofs.lemmas.Option.{slice_get_past}
use Rattle.comp_graph.specs.Closed.{Extern, Externs, EmptyType, WithExtern}
use Rattle.link_spec.specs.Definitions.{Exports}
use Rattle.link_spec.specs.Brought.{all_found_for}
use Rattle.link_spec.proofs.InOrder.{ordered, found_over, found_in_order}
use Rattle.link_types.specs.Table.{in_order}

one_more : (k : ℕ) → k + 1 ≡ suc k
one_more k = omega arith

pub drop_at : {A : Type 0} (xs : List A) (k : ℕ) (x : A) → slice_get xs k ≡ Some x → drop k xs ≡ x ∷ drop (k + 1) xs
drop_at {A} xs k x h = rw (one_more k) (by xs k h)
  where
    by : (xs : List A) (k : ℕ) → slice_get xs k ≡ Some x → drop k xs ≡ x ∷ drop (suc k) xs
    by [] k h = cc
    by (y ∷ xs) zero h = let same : y ≡ x = cc in ap (λ z. z ∷ xs) same
    by (y ∷ xs) (suc k) h = by xs k h

drop_past : {A : Type 0} (xs : List A) (k : ℕ) → slice_get xs k ≡ None → drop k xs ≡ []
drop_past [] zero h = refl
drop_past [] (suc k) h = refl
drop_past (y ∷ xs) zero h = cc
drop_past (y ∷ xs) (suc k) h = drop_past xs k h

pub none_left : (externs : Externs) (count at : ℕ) → count ≡ length (in_order externs) → count ≤ at → drop at (in_order externs) ≡ []
none_left externs count at is past = drop_past (in_order externs) at (slice_get_past (in_order externs) at (omega (arith, is, past)))

-- What is found for exports, in their order.
same_order : (externs : Externs) → ordered externs ≡ in_order externs
same_order EmptyType = refl
same_order (WithExtern others name extern) = ap (λ (before : List (List ℕ × Extern)). before ++ (name, extern) ∷ []) (same_order others)

pub found_listed : (given : Exports) (found : List ℕ) (externs : Externs) → all_found_for given found externs ≡ found_over given found (in_order externs)
found_listed given found externs = found_in_order given found externs ∙ ap (found_over given found) (same_order externs)
