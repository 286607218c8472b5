-- What is found for the resources that a type brings, as references tell it.
use Rattle.std.proofs.Common.{◌≡◌, ◌∙◌, ◌≤◌, ◌+◌, ℕ, Bool, false, List, [], ◌∷◌, ◌++◌, length, drop, refl, ap, sym, subst, Option, Some}
use Rattle.std.specs.List.{slice_get}
use Rattle.std.proofs.lemmas.List.{drop_all, drop_more}
use Rattle.std.proofs.lemmas.Option.{slice_get_within, get_or_from_slice_get}
use Rattle.comp_graph.specs.Closed.{Instance, Extern, OfInstance, Externs, EmptyType, WithExtern, names_in_externs}
use Rattle.link_spec.specs.Definitions.{Definition, Exports, export_named}
use Rattle.link_spec.specs.Brought.{exports_given, found_for, all_found_for}
use Rattle.link_spec.proofs.InOrder.{ordered, found_over, found_in_order}
use Rattle.link_spec.proofs.Unnamed.{none_found_for}
use Rattle.link_values.specs.declared.refs.InstanceTypeRef.{InstanceTypeRef}
use Rattle.link_values.specs.declared.refs.ExternRef.TheVariants as extern_ref
use Rattle.link_types.specs.Table.{Table, IsExtern, IsInstanceType, in_order}

-- What is found for an export that is an instance.
pub instance_item_found : (t : Table) (ref : InstanceTypeRef) (d : Option Definition) (found new : List ℕ) → ((externs : Externs) → IsInstanceType t ref externs → new ≡ all_found_for (exports_given d) found externs)
    → (extern : Extern) → IsExtern t (extern_ref.Instance ref) extern → new ≡ found_for d found extern
instance_item_found t ref d found new finds (OfInstance externs) h = finds externs h
instance_item_found t ref d found new finds extern h = absurd h

-- What is found for the exports of a type, in order.
same_order : (externs : Externs) → ordered externs ≡ in_order externs
same_order EmptyType = refl
same_order (WithExtern others name extern) = ap (λ (before : List (List ℕ × Extern)). before ++ (name, extern) ∷ []) (same_order others)

drop_got : {A : Type 0} (xs : List A) (at : ℕ) (x : A) → slice_get xs at ≡ Some x → drop at xs ≡ x ∷ drop (at + 1) xs
drop_got {A} xs at x h = drop_more xs at x (slice_get_within xs at x h) ∙ ap (λ (y : A). y ∷ drop (at + 1) xs) (get_or_from_slice_get xs at x x h)

abbrev pub IsFoundSoFar : Exports → List ℕ → List ℕ → Externs → ℕ → Type 0
IsFoundSoFar exports start found externs at = found_over exports start (ordered externs) ≡ found_over exports found (drop at (ordered externs))

pub found_more : (exports : Exports) (start found next : List ℕ) (externs : Externs) (at : ℕ) (e : List ℕ × Extern) → slice_get (in_order externs) at ≡ Some e → next ≡ found_for (export_named e.0 exports) found e.1
    → IsFoundSoFar exports start found externs at → IsFoundSoFar exports start next externs (at + 1)
found_more exports start found next externs at e got is so_far =
    let here = drop_got (ordered externs) at e (ap (λ (xs : List (List ℕ × Extern)). slice_get xs at) (same_order externs) ∙ got) in
    so_far ∙ ap (found_over exports found) here ∙ ap (λ (found : List ℕ). found_over exports found (drop (at + 1) (ordered externs))) (sym is)

pub found_ends : (exports : Exports) (start found : List ℕ) (externs : Externs) (at count : ℕ) → count ≡ length (in_order externs) → count ≤ at → IsFoundSoFar exports start found externs at → found ≡ all_found_for exports start externs
found_ends exports start found externs at count is past so_far =
    let long : length (ordered externs) ≤ at = subst (λ (n : ℕ). n ≤ at) (is ∙ ap length (sym (same_order externs))) past in
    let none : found_over exports found (drop at (ordered externs)) ≡ found = ap (found_over exports found) (drop_all at (ordered externs) long) in
    sym (found_in_order exports start externs ∙ so_far ∙ none)

-- A type that names no resource brings none.
pub none_is_found : (exports : Exports) (found : List ℕ) (externs : Externs) (names : Bool) → names ≡ names_in_externs externs → names ≡ false → found ≡ all_found_for exports found externs
none_is_found exports found externs names is none = sym (none_found_for exports found externs (sym is ∙ none))
