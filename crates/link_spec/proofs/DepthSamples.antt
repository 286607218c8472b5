-- Lists on one another, one list at a time: behind so many of them the spaces hold the type u32 and a type for each list.
use Rattle.std.proofs.Common.{◌≡◌, ◌∙◌, ◌≤◌, ◌+◌, ℕ, zero, suc, true, false, nat_lt, nat_le, List, [], ◌∷◌, ◌++◌, length, map, ap, refl, subst, arith, Some, None}
use Rattle.std.specs.Prelude.{Ok, Err}
use Rattle.std.specs.List.{slice_get}
use Rattle.std.proofs.lemmas.List.{length-append, length-map}
use Rattle.std.proofs.lemmas.Bool.Decides.{nat_tests}
use Rattle.syntax_trees.specs.declared.types.ValType.{ValType}
use Rattle.syntax_trees.specs.declared.types.ValType.TheVariants as leaves
use Rattle.syntax_trees.specs.declared.types.ValType.TheViews as val_type
use Rattle.syntax_trees.specs.declared.types.ValType.TheViews.{outs-U32, outs-List}
use Rattle.laid_types.specs.Depth.{depth}
use Rattle.comp_tree.specs.declared.types.PrimValType.TheVariants.{U32}
use Rattle.comp_tree.specs.declared.types.ValTypeRef.TheVariants as type_ref
use Rattle.comp_tree.specs.declared.types.DefValType.TheVariants as value
use Rattle.comp_tree.specs.declared.types.DefType.{DefType}
use Rattle.comp_tree.specs.declared.types.DefType.TheOpen.{DefType-F}
use Rattle.comp_tree.specs.declared.types.DefType.TheViews.{outs-Value}
use Rattle.comp_tree.specs.declared.types.DefType.TheVariants as plain_type
use Rattle.comp_tree.specs.declared.types.InstanceDecl.{InstanceDecl}
use Rattle.comp_tree.specs.declared.items.Item.TheViews.{outs-Type}
use Rattle.link_spec.specs.declared.fault.LinkFault.{LinkFault}
use Rattle.link_spec.specs.declared.fault.LinkWhy.TheVariants as why
use Rattle.comp_graph.specs.Closed.{Closed, Value}
use Rattle.link_spec.specs.Meaning.{Meaning, meant, too_deep}
use Rattle.link_spec.specs.Shallow.{depth_limit}
use Rattle.link_spec.specs.ValueTypes.{capped, value_meaning}
use Rattle.link_spec.specs.Spaces.{Spaces, new_spaces, Begin, Linking, levels_at}
use Rattle.link_spec.specs.Resources.{resource_written}
use Rattle.link_spec.specs.Items.{type_meaning}
use Rattle.link_spec.specs.Linked.{root_begun}
use Rattle.link_spec.specs.Computed.{Run, run, type_outcome, defined_outcome, outcome_case, item_outcome, answer_of}
use Rattle.link_spec.specs.Examples.{placed_from, fault, list_of, lists_of, lists, begins}
use Rattle.link_spec.proofs.Holding.{last_there}
use Rattle.link_spec.proofs.Depths.{leaf_depth}
use Rattle.link_spec.proofs.Samples.{value_rolled}
use Rattle.link_spec.proofs.ValueSamples.{list_depth}

-- so many lists on one another over u32
abbrev pub nested : ℕ → ValType
nested zero = leaves.U32
nested (suc n) = val_type.List (nested n)

nested_depth : (n : ℕ) → depth (nested n) ≡ suc n
nested_depth zero = leaf_depth U32
nested_depth (suc n) = list_depth (nested n) ∙ ap suc (nested_depth n)

-- the types behind so many lists, and what is linked then
abbrev pub known : ℕ → List Closed
known zero = Value leaves.U32 ∷ []
known (suc n) = known n ++ Value (nested (suc n)) ∷ []

abbrev spaces : ℕ → Spaces
spaces n = record (new_spaces None []) { types = known n }

abbrev so_far : ℕ → Linking
so_far n = record { scopes = spaces n ∷ []; cores = []; canons = []; resources = []; plan = Begin 0 ∷ []; end_types = []; has_room = true }

pub known_length : (n : ℕ) → length (known n) ≡ suc n
known_length zero = refl
known_length (suc n) = let longer = length-append (known n) (Value (nested (suc n)) ∷ []) in let before = known_length n in omega (arith, longer, before)

pub known_last : (n : ℕ) → slice_get (known n) n ≡ Some (Value (nested n))
known_last zero = refl
known_last (suc n) = subst (λ (i : ℕ). slice_get (known (suc n)) i ≡ Some (Value (nested (suc n)))) (known_length n) (last_there (known n) (Value (nested (suc n))))

mapped_at : (types : List Closed) (n : ℕ) (type : Closed) → slice_get types n ≡ Some type → slice_get (map Some types) n ≡ Some (Some type)
mapped_at [] n type h = cc
mapped_at (t ∷ types) zero type h = cc
mapped_at (t ∷ types) (suc n) type h = mapped_at types n type h

is_known : (n : ℕ) → nat_lt n (length (map Some (known n))) ≡ true
is_known n = let mapped = length-map (known n) Some in let longer = known_length n in grind (arith, nat_tests)

-- A list of the last type.
pub list_meaning : (n : ℕ) → value_meaning (map Some (known n)) (value.List (type_ref.Index n)) ≡ capped (Some (nested (suc n)))
list_meaning n = rw (is_known n, mapped_at (known n) n (Value (nested n)) (known_last n)) refl

-- a list of the type of an index, as it is written
abbrev list_type : ℕ → DefType
list_type n = plain_type.Value (value.List (type_ref.Index n))

list_outcome : (n : ℕ) (meaning : Meaning Closed) → capped (Some (nested (suc n))) ≡ meaning → item_outcome (so_far n) 0 (spaces n) (list_of n) ≡ type_outcome (so_far n) 0 (spaces n) meaning
list_outcome n meaning e =
    ap (outcome_case (so_far n) 0 (spaces n)) (outs-Type (list_type n))
    ∙ ap (λ (y : DefType-F DefType InstanceDecl). defined_outcome (so_far n) 0 (spaces n) (resource_written y) (type_meaning (so_far n) 0 (spaces n) (list_type n))) (outs-Value (value.List (type_ref.Index n)))
    ∙ ap (type_outcome (so_far n) 0 (spaces n)) (value_rolled (value.List (type_ref.Index n)) (levels_at (so_far n) (0 ∷ [])) ∙ list_meaning n ∙ e)

pub shallow_list : (n : ℕ) → suc (suc n) ≤ depth_limit → capped (Some (nested (suc n))) ≡ meant (Some (Value (nested (suc n))))
shallow_list n h = rw (within) refl
  where
    within : nat_le (depth (nested (suc n))) depth_limit ≡ true
    within = let deep = nested_depth (suc n) in grind (arith, nat_tests)

pub deep_list : (n : ℕ) → suc (suc n) ≡ suc depth_limit → capped (Some (nested (suc n))) ≡ too_deep (Value leaves.Bool)
deep_list n h = rw (beyond) refl
  where
    beyond : nat_le (depth (nested (suc n))) depth_limit ≡ false
    beyond = let deep = nested_depth (suc n) in grind (arith, nat_tests)

-- All lists, from some place on.
made : (inside : Run) (n more at : ℕ) → n + more ≤ 31 → run inside (so_far n) 0 (placed_from at (lists_of n more)) ≡ Ok (so_far (n + more))
made inside n zero at h = let same : n ≡ n + zero = omega arith in ap (λ (k : ℕ). Ok (so_far k)) same
made inside n (suc more) at h =
    let within : suc (suc n) ≤ depth_limit = omega (arith, h) in
    let left : suc n + more ≤ 31 = omega (arith, h) in
    let same : suc n + more ≡ n + suc more = omega arith in
    rw (list_outcome n (meant (Some (Value (nested (suc n))))) (shallow_list n within), outs-List (nested n)) (made inside (suc n) more (at + 1) left ∙ ap (λ (k : ℕ). Ok (so_far k)) same)

abbrev limit_at : ℕ → LinkFault
limit_at place = record { place = place; why = why.Limit }

refused : (inside : Run) (n more at : ℕ) → n + more ≡ 31 → run inside (so_far n) 0 (placed_from at (lists_of n (suc more))) ≡ Err (limit_at (at + more))
refused inside n zero at h =
    let beyond : suc (suc n) ≡ suc depth_limit = omega (arith, h) in
    let same : at ≡ at + zero = omega arith in
    rw (list_outcome n (too_deep (Value leaves.Bool)) (deep_list n beyond)) (ap (λ (place : ℕ). Err (limit_at place)) same)
refused inside n (suc more) at h =
    let within : suc (suc n) ≤ depth_limit = omega (arith, h) in
    let left : suc n + more ≡ 31 = omega (arith, h) in
    let same : (at + 1) + more ≡ at + suc more = omega arith in
    rw (list_outcome n (meant (Some (Value (nested (suc n))))) (shallow_list n within), outs-List (nested n)) (refused inside (suc n) more (at + 1) left ∙ ap (λ (place : ℕ). Err (limit_at place)) same)

-- The component, which begins with u32.
first : (inside : Run) (count : ℕ) → run inside root_begun 0 (lists count).items ≡ run inside (so_far 0) 0 (placed_from 1 (lists_of 0 count))
first inside count = simp (outs-Type, outs-Value, value_rolled, leaf_depth, outs-U32) refl

pub within : (inside : Run) → answer_of (run inside root_begun 0 (lists 31).items) ≡ begins (0 ∷ [])
within inside = ap answer_of (first inside 31 ∙ made inside 0 31 1 (omega arith))

pub beyond : (inside : Run) → answer_of (run inside root_begun 0 (lists 32).items) ≡ fault 32 why.Limit
beyond inside = ap answer_of (first inside 32 ∙ refused inside 0 31 1 refl)
