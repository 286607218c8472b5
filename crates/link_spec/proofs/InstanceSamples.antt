-- Lists on one another in an instance type, one declaration at a time.
use Rattle.std.proofs.Common.{◌≡◌, ◌∙◌, ◌≤◌, ◌+◌, ℕ, zero, suc, List, [], ◌∷◌, ◌++◌, length, map, ap, sym, refl, subst, arith, Option, Some, None}
use Rattle.std.proofs.lemmas.List.{length-map}
use Rattle.std.specs.List.{slice_get}
use Rattle.std.specs.Prelude.{Err, codes}
use Rattle.syntax_trees.specs.declared.types.ValType.TheVariants as leaves
use Rattle.comp_tree.specs.declared.externs.ExternDesc.{ExternDesc}
use Rattle.comp_tree.specs.declared.externs.ExternDesc.TheVariants as desc
use Rattle.comp_tree.specs.declared.types.PrimValType.TheVariants.{U32}
use Rattle.comp_tree.specs.declared.types.ValTypeRef.TheVariants as type_ref
use Rattle.comp_tree.specs.declared.types.DefValType.TheVariants as value
use Rattle.comp_tree.specs.declared.types.DefType.{DefType, out-DefType}
use Rattle.comp_tree.specs.declared.types.DefType.TheOpen.{DefType-F}
use Rattle.comp_tree.specs.declared.types.DefType.TheViews.{outs-Instance}
use Rattle.comp_tree.specs.declared.types.DefType.TheVariants as plain_type
use Rattle.comp_tree.specs.declared.types.DefType.TheViews as def_type
use Rattle.comp_tree.specs.declared.types.InstanceDecl.{InstanceDecl}
use Rattle.comp_tree.specs.declared.items.Item.TheVariants as plain
use Rattle.comp_tree.specs.declared.items.Item.TheViews.{outs-Type}
use Rattle.link_spec.specs.declared.fault.LinkWhy.{LinkWhy}
use Rattle.link_spec.specs.declared.fault.LinkWhy.TheVariants as why
use Rattle.comp_graph.specs.Closed.{Closed, Value, EmptyType}
use Rattle.link_spec.specs.Meaning.{Meaning, meant, too_deep}
use Rattle.link_spec.specs.Shallow.{depth_limit}
use Rattle.link_spec.specs.ValueTypes.{capped, value_meaning}
use Rattle.link_spec.specs.Spaces.{new_spaces, Level, levels_at}
use Rattle.link_spec.specs.Types.{Declared, own_level, with_type, with_export, declared_by, nothing_declared, instance_meaning, meaning_of}
use Rattle.link_spec.specs.Resources.{resource_written}
use Rattle.link_spec.specs.Linked.{root_begun}
use Rattle.link_spec.specs.Computed.{type_outcome, Run, run, answer_of}
use Rattle.link_spec.specs.Examples.{root, fault, u32, lists_declared, of_lists, begins}
use Rattle.link_spec.proofs.Holding.{last_there}
use Rattle.link_spec.proofs.Depths.{leaf_depth}
use Rattle.link_spec.proofs.Samples.{value_rolled, folded_decl, instance_rolled, type_rolled, export_rolled}
use Rattle.link_spec.proofs.DepthSamples.{nested, known, known_length, list_meaning, shallow_list, deep_list}

-- the types of the instance type behind so many lists, and what is declared then
abbrev opened : ℕ → List (Option Closed)
opened zero = Some (Value leaves.U32) ∷ []
opened (suc n) = opened n ++ Some (Value (nested (suc n))) ∷ []

abbrev with_types : List (Option Closed) → Declared
with_types types = record nothing_declared { types = types }

abbrev too_deep_behind : List (Option Closed) → Declared
too_deep_behind types = record nothing_declared { types = types ++ Some (Value leaves.Bool) ∷ []; so_far = too_deep EmptyType }

pushed : {A B : Type 0} (f : A → B) (xs : List A) (x : A) → map f (xs ++ x ∷ []) ≡ map f xs ++ f x ∷ []
pushed f [] x = refl
pushed f (y ∷ xs) x = ap (λ ys. f y ∷ ys) (pushed f xs x)

opened_known : (n : ℕ) → map Some (known n) ≡ opened n
opened_known zero = refl
opened_known (suc n) = pushed Some (known n) (Value (nested (suc n))) ∙ ap (λ types. types ++ Some (Value (nested (suc n))) ∷ []) (opened_known n)

abbrev list_decl : ℕ → InstanceDecl
list_decl n = plain_type.Type (plain_type.Value (value.List (type_ref.Index n)))

list_declared : (n : ℕ) (around : List Level) (meaning : Meaning Closed) → capped (Some (nested (suc n))) ≡ meaning → folded_decl (list_decl n) around (with_types (opened n)) ≡ with_type (with_types (opened n)) meaning
list_declared n around meaning e =
    type_rolled (plain_type.Value (value.List (type_ref.Index n))) around (with_types (opened n))
    ∙ ap (with_type (with_types (opened n))) (
    value_rolled (value.List (type_ref.Index n)) (own_level (with_types (opened n)) ∷ around)
    ∙ ap (λ types. value_meaning types (value.List (type_ref.Index n))) (sym (opened_known n))
    ∙ list_meaning n ∙ e)

-- all lists that are not too deep, and one that is
lists_made : (n more : ℕ) (around : List Level) (others : List InstanceDecl) → n + more ≤ 31
    → declared_by around (with_types (opened n)) (map folded_decl (lists_declared n more others)) ≡ declared_by around (with_types (opened (n + more))) (map folded_decl others)
lists_made n zero around others h =
    let same : n ≡ n + zero = omega arith in ap (λ (k : ℕ). declared_by around (with_types (opened k)) (map folded_decl others)) same
lists_made n (suc more) around others h =
    let within : suc (suc n) ≤ depth_limit = omega (arith, h) in
    let left : suc n + more ≤ 31 = omega (arith, h) in
    let same : suc n + more ≡ n + suc more = omega arith in
    ap (λ d. declared_by around d (map folded_decl (lists_declared (suc n) more others))) (list_declared n around (meant (Some (Value (nested (suc n))))) (shallow_list n within))
    ∙ lists_made (suc n) more around others left
    ∙ ap (λ (k : ℕ). declared_by around (with_types (opened k)) (map folded_decl others)) same

one_more_made : (n more : ℕ) (around : List Level) (others : List InstanceDecl) → n + more ≡ 31
    → declared_by around (with_types (opened n)) (map folded_decl (lists_declared n (suc more) others)) ≡ declared_by around (too_deep_behind (opened 31)) (map folded_decl others)
one_more_made n zero around others h =
    let beyond : suc (suc n) ≡ suc depth_limit = omega (arith, h) in
    let same : n ≡ 31 = omega (arith, h) in
    ap (λ d. declared_by around d (map folded_decl others)) (list_declared n around (too_deep (Value leaves.Bool)) (deep_list n beyond) ∙ ap (λ (k : ℕ). too_deep_behind (opened k)) same)
one_more_made n (suc more) around others h =
    let within : suc (suc n) ≤ depth_limit = omega (arith, h) in
    let left : suc n + more ≡ 31 = omega (arith, h) in
    ap (λ d. declared_by around d (map folded_decl (lists_declared (suc n) (suc more) others))) (list_declared n around (meant (Some (Value (nested (suc n))))) (shallow_list n within))
    ∙ one_more_made (suc n) more around others left

-- the instance type
abbrev of_u32 : ℕ → List InstanceDecl → List InstanceDecl
of_u32 count others = plain_type.Type u32 ∷ lists_declared 0 count others

u32_declared : (around : List Level) → folded_decl (plain_type.Type u32) around nothing_declared ≡ with_types (opened 0)
u32_declared around =
    type_rolled u32 around nothing_declared ∙ ap (with_type nothing_declared) (value_rolled (value.Primitive U32) (own_level nothing_declared ∷ around) ∙ shallow_u32)
  where
    shallow_u32 : capped (Some leaves.U32) ≡ meant (Some (Value leaves.U32))
    shallow_u32 = rw (leaf_depth U32) refl

begun : (count : ℕ) (others : List InstanceDecl) (around : List Level)
    → meaning_of (def_type.Instance (of_u32 count others)) around ≡ instance_meaning (declared_by around (with_types (opened 0)) (map folded_decl (lists_declared 0 count others)))
begun count others around =
    instance_rolled (of_u32 count others) around ∙ ap (λ d. instance_meaning (declared_by around d (map folded_decl (lists_declared 0 count others)))) (u32_declared around)

within_meaning : (around : List Level) → meaning_of (def_type.Instance (of_u32 31 [])) around ≡ instance_meaning (with_types (opened 31))
within_meaning around = begun 31 [] around ∙ ap instance_meaning (lists_made 0 31 around [] (omega arith))

beyond_meaning : (others : List InstanceDecl) (around : List Level)
    → meaning_of (def_type.Instance (of_u32 32 others)) around ≡ instance_meaning (declared_by around (too_deep_behind (opened 31)) (map folded_decl others))
beyond_meaning others around = begun 32 others around ∙ ap instance_meaning (one_more_made 0 31 around others refl)

-- what is exported behind types, of which the last is too deep
opened_length : (n : ℕ) → length (opened n) ≡ suc n
opened_length n = ap length (sym (opened_known n)) ∙ length-map (known n) Some ∙ known_length n

last_opened : (n : ℕ) (type : Option Closed) → slice_get (opened n ++ type ∷ []) (suc n) ≡ Some type
last_opened n type = subst (λ (i : ℕ). slice_get (opened n ++ type ∷ []) i ≡ Some type) (opened_length n) (last_there (opened n) type)

past_last : {A : Type 0} (xs : List A) (x : A) → slice_get (xs ++ x ∷ []) (suc (length xs)) ≡ None
past_last [] x = refl
past_last (y ∷ xs) x = past_last xs x

past_opened : (n : ℕ) (type : Option Closed) → slice_get (opened n ++ type ∷ []) (suc (suc n)) ≡ None
past_opened n type = subst (λ (i : ℕ). slice_get (opened n ++ type ∷ []) (suc i) ≡ None) (opened_length n) (past_last (opened n) type)

abbrev Comes : Meaning Closed → LinkWhy → Type 0
Comes meaning w = type_outcome root_begun 0 (new_spaces None []) meaning ≡ Err w

export_deep : (types : List (Option Closed)) → slice_get (types ++ Some (Value leaves.Bool) ∷ []) 32 ≡ Some (Some (Value leaves.Bool))
    → Comes (instance_meaning (with_export (too_deep_behind types) (codes "a") (desc.TypeEq 32))) why.Limit
export_deep types h = rw h refl

export_no_function : (types : List (Option Closed)) → slice_get (types ++ Some (Value leaves.Bool) ∷ []) 32 ≡ Some (Some (Value leaves.Bool))
    → Comes (instance_meaning (with_export (too_deep_behind types) (codes "a") (desc.Func 32))) why.Typing
export_no_function types h = rw h refl

export_absent : (types : List (Option Closed)) → slice_get (types ++ Some (Value leaves.Bool) ∷ []) 33 ≡ None
    → Comes (instance_meaning (with_export (too_deep_behind types) (codes "a") (desc.TypeEq 33))) why.Index
export_absent types h = rw h refl

-- a component of one type
one_type : (inside : Run) (type : DefType) (w : LinkWhy) → resource_written (out-DefType type) ≡ None → Comes (meaning_of type (levels_at root_begun (0 ∷ []))) w → answer_of (run inside root_begun 0 (root (plain.Type type ∷ [])).items) ≡ fault 0 w
one_type inside type w none h = simp (outs-Type, none, h) refl

-- the instance type with one export behind the lists
abbrev exporting : ExternDesc → DefType
exporting asked = def_type.Instance (of_u32 32 (plain_type.Export (codes "a") asked ∷ []))

export_one : (inside : Run) (asked : ExternDesc) (w : LinkWhy) → Comes (instance_meaning (with_export (too_deep_behind (opened 31)) (codes "a") asked)) w
    → answer_of (run inside root_begun 0 (of_lists 32 (plain_type.Export (codes "a") asked ∷ [])).items) ≡ fault 0 w
export_one inside asked w h =
    let levels = levels_at root_begun (0 ∷ []) in
    let others : List InstanceDecl = plain_type.Export (codes "a") asked ∷ [] in
    one_type inside (exporting asked) w
    (ap (λ (y : DefType-F DefType InstanceDecl). resource_written y) (outs-Instance (of_u32 32 others)))
    (ap (type_outcome root_begun 0 (new_spaces None [])) (beyond_meaning others levels ∙ ap instance_meaning (export_rolled (codes "a") asked levels (too_deep_behind (opened 31)))) ∙ h)

pub within : (inside : Run) → answer_of (run inside root_begun 0 (of_lists 31 []).items) ≡ begins (0 ∷ [])
within inside = simp (outs-Type, outs-Instance, within_meaning) refl

pub beyond : (inside : Run) → answer_of (run inside root_begun 0 (of_lists 32 []).items) ≡ fault 0 why.Limit
beyond inside = simp (outs-Type, outs-Instance, beyond_meaning) refl

pub exported : (inside : Run) → answer_of (run inside root_begun 0 (of_lists 32 (plain_type.Export (codes "a") (desc.TypeEq 32) ∷ [])).items) ≡ fault 0 why.Limit
exported inside = export_one inside (desc.TypeEq 32) why.Limit (export_deep (opened 31) (last_opened 31 (Some (Value leaves.Bool))))

pub no_function : (inside : Run) → answer_of (run inside root_begun 0 (of_lists 32 (plain_type.Export (codes "a") (desc.Func 32) ∷ [])).items) ≡ fault 0 why.Typing
no_function inside = export_one inside (desc.Func 32) why.Typing (export_no_function (opened 31) (last_opened 31 (Some (Value leaves.Bool))))

pub not_there : (inside : Run) → answer_of (run inside root_begun 0 (of_lists 32 (plain_type.Export (codes "a") (desc.TypeEq 33) ∷ [])).items) ≡ fault 0 why.Index
not_there inside = export_one inside (desc.TypeEq 33) why.Index (export_absent (opened 31) (past_opened 31 (Some (Value leaves.Bool))))
