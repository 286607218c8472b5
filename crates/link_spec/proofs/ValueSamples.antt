-- Value types, item by item: each is closed where its parts are, and its depth is told by its outer layer.
use Rattle.std.proofs.Common.{◌≡◌, ◌∙◌, ℕ, suc, List, [], ◌∷◌, map, ap, sym, refl}
use Rattle.std.specs.Prelude.{codes}
use Rattle.syntax_trees.specs.declared.types.ValType.{ValType}
use Rattle.syntax_trees.specs.declared.types.ValType.TheViews as val_type
use Rattle.syntax_trees.specs.declared.types.ValType.TheViews.{outs-U32, outs-List, outs-Record, rolls-List, rolls-Record}
use Rattle.syntax_trees.specs.declared.types.ValType.TheOpen as F
use Rattle.syntax_trees.specs.declared.types.ValType.TheFolds.{fold-roll-ValType}
use Rattle.syntax_trees.specs.declared.types.Field.{Field}
use Rattle.syntax_trees.proofs.Folds.{fold_field}
use Rattle.syntax_trees.proofs.Parts.{map_alike}
use Rattle.laid_types.specs.Depth.{greatest, depth, depth_step, depth_case, depth_field}
use Rattle.comp_tree.specs.declared.types.DefType.TheViews.{outs-Value}
use Rattle.comp_tree.specs.declared.items.Item.TheVariants as plain
use Rattle.comp_tree.specs.declared.items.Item.TheViews.{outs-Type}
use Rattle.link_spec.specs.declared.fault.LinkWhy.TheVariants as why
use Rattle.link_spec.specs.Linked.{root_begun}
use Rattle.link_spec.specs.Computed.{Run, run, answer_of}
use Rattle.link_spec.specs.Examples.{root, fault, u32, list_of, record_of, begins}
use Rattle.link_spec.proofs.Depths.{leaf_depth}
use Rattle.link_spec.proofs.Samples.{value_rolled}

pub list_depth : (element : ValType) → depth (val_type.List element) ≡ suc (depth element)
list_depth element = ap depth (sym (rolls-List element)) ∙ fold-roll-ValType ℕ ℕ ℕ depth_step depth_case depth_field (F.List element)

record_depth : (fields : List Field) → depth (val_type.Record fields) ≡ suc (greatest (map (λ (f : Field). depth f.val_type) fields))
record_depth fields =
    ap depth (sym (rolls-Record fields))
    ∙ fold-roll-ValType ℕ ℕ ℕ depth_step depth_case depth_field (F.Record fields)
    ∙ ap (λ ds. suc (greatest ds)) (map_alike _ _ (fold_field ℕ ℕ ℕ depth_step depth_case depth_field) fields)

ruleset layers = (outs-Type, outs-Value, value_rolled, leaf_depth, list_depth, record_depth, outs-U32, outs-List, outs-Record)

pub empty : (inside : Run) → answer_of (run inside root_begun 0 (root (record_of [] 0 ∷ [])).items) ≡ fault 0 why.Typing
empty inside = simp layers refl

pub label_twice : (inside : Run) → answer_of (run inside root_begun 0 (root (plain.Type u32 ∷ record_of (codes "a" ∷ codes "a" ∷ []) 0 ∷ [])).items) ≡ fault 1 why.Typing
label_twice inside = simp layers refl

pub not_there : (inside : Run) → answer_of (run inside root_begun 0 (root (record_of (codes "a" ∷ codes "a" ∷ []) 0 ∷ [])).items) ≡ fault 0 why.Index
not_there inside = simp layers refl

pub made : (inside : Run) → answer_of (run inside root_begun 0 (root (plain.Type u32 ∷ list_of 0 ∷ list_of 1 ∷ record_of (codes "a" ∷ codes "b" ∷ []) 2 ∷ [])).items) ≡ begins (0 ∷ [])
made inside = simp layers refl
