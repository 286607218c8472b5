-- What types mean and declarations make, by what they hold.
use Rattle.std.proofs.Common.{◌≡◌, ◌∙◌, ◌<◌, ◌+◌, ℕ, List, [], ◌∷◌, ◌++◌, length, map, take, get_or, refl, ap, sym}
use Rattle.std.proofs.lemmas.List.{map-append}
use Rattle.syntax_trees.proofs.Seen.{take_one}
use Rattle.comp_tree.specs.declared.externs.ExternDesc.{ExternDesc}
use Rattle.comp_tree.specs.declared.types.DefValType.{DefValType}
use Rattle.comp_tree.specs.declared.types.FuncType as read_func
use Rattle.comp_tree.specs.declared.types.DefType.{DefType}
use Rattle.comp_tree.specs.declared.types.InstanceDecl.{InstanceDecl}
use Rattle.comp_tree.specs.declared.types.DefType.TheVariants as type_leaves
use Rattle.comp_tree.specs.declared.types.DefType.TheViews.{rolls-Value, rolls-Func, rolls-Type, rolls-Export}
use Rattle.comp_tree.specs.declared.types.DefType.TheOpen.{DefType-F, InstanceDecl-F}
use Rattle.comp_tree.specs.declared.types.DefType.TheFolds.{fold-roll-DefType, fold-roll-InstanceDecl}
use Rattle.link_spec.specs.Spaces.{Level}
use Rattle.link_spec.specs.Types.{Declared, InLevels, meaning_of, type_step, decl_step, func_meaning, value_meaning, types_around, declared_by, nothing_declared, with_type, with_export, own_level}
use Rattle.link_instance_types.specs.Declaring.{decl_makes}

pub meaning_of_func : (type : read_func.FuncType) (levels : List Level) → meaning_of (type_leaves.Func type) levels ≡ func_meaning (types_around levels) type
meaning_of_func type levels =
    ap (λ (x : DefType). meaning_of x levels) (sym (rolls-Func type))
    ∙ ap (λ (f : InLevels). f levels) (fold-roll-DefType InLevels (List Level → Declared → Declared) type_step decl_step (DefType-F.Func type))

pub meaning_of_value : (type : DefValType) (levels : List Level) → meaning_of (type_leaves.Value type) levels ≡ value_meaning (types_around levels) type
meaning_of_value type levels =
    ap (λ (x : DefType). meaning_of x levels) (sym (rolls-Value type))
    ∙ ap (λ (f : InLevels). f levels) (fold-roll-DefType InLevels (List Level → Declared → Declared) type_step decl_step (DefType-F.Value type))

-- Declarations, one behind the others.
pub one_behind : (levels : List Level) (d : Declared) (decls : List (List Level → Declared → Declared)) (decl : List Level → Declared → Declared) → declared_by levels d (decls ++ decl ∷ []) ≡ decl levels (declared_by levels d decls)
one_behind levels d [] decl = refl
one_behind levels d (first ∷ decls) decl = one_behind levels (first levels d) decls decl

-- what a declaration makes
pub type_makes : (type : DefType) (levels : List Level) (d : Declared) → decl_makes (type_leaves.Type type) levels d ≡ with_type d (meaning_of type (own_level d ∷ levels))
type_makes type levels d =
    ap (λ (f : List Level → Declared → Declared). f levels d)
    (ap decl_makes (sym (rolls-Type type)) ∙ fold-roll-InstanceDecl InLevels (List Level → Declared → Declared) type_step decl_step (InstanceDecl-F.Type type))

pub export_makes : (name : List ℕ) (asked : ExternDesc) (levels : List Level) (d : Declared) → decl_makes (type_leaves.Export name asked) levels d ≡ with_export d name asked
export_makes name asked levels d =
    ap (λ (f : List Level → Declared → Declared). f levels d)
    (ap decl_makes (sym (rolls-Export name asked)) ∙ fold-roll-InstanceDecl InLevels (List Level → Declared → Declared) type_step decl_step (InstanceDecl-F.Export name asked))

pub one_more : (levels : List Level) (decls : List InstanceDecl) (at : ℕ) (decl : InstanceDecl) → at < length decls → decl ≡ get_or decls at decl
    → declared_by levels nothing_declared (map decl_makes (take (at + 1) decls)) ≡ decl_makes decl levels (declared_by levels nothing_declared (map decl_makes (take at decls)))
one_more levels decls at decl h e =
    rw (take_one decls at decl h e, map-append decl_makes (take at decls) (decl ∷ [])) (one_behind levels nothing_declared (map decl_makes (take at decls)) (decl_makes decl))
