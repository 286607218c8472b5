-- What core types are for the types that hold others.
use Rattle.std.proofs.Common.{◌≡◌, ◌∙◌, List, ◌∷◌, map, ap, sym, refl, Option, Some, None}
use Rattle.syntax_trees.specs.declared.types.ValType.{ValType}
use Rattle.syntax_trees.specs.declared.types.Case.{Case}
use Rattle.syntax_trees.specs.declared.types.Field.{Field}
use Rattle.syntax_trees.specs.declared.types.ValType.TheViews as types
use Rattle.syntax_trees.specs.declared.types.ValType.TheOpen as F
use Rattle.syntax_trees.specs.declared.types.ValType.TheFolds.{fold-Case, fold-Field, fold-roll-ValType}
use Rattle.syntax_trees.specs.declared.types.ValType.TheVariants.{rolls-Tuple, rolls-Record, rolls-Variant, rolls-Result}
use Rattle.syntax_trees.proofs.Folds.{held, fold_case, fold_field, fold_result}
use Rattle.syntax_trees.proofs.Parts.{map_alike}
use Rattle.syntax_trees.specs.declared.core_type.CoreType.{CoreType}
use Rattle.syntax_trees.specs.declared.core_type.CoreType.TheVariants.{I32}
use Rattle.syntax_trees.specs.Flat.{flat, flat_step, flat_case, flat_field, flat_payload, held_flat, all_of, joined_all, joined_lists}

abbrev Flats : Type 0
Flats = List CoreType

pub flat_of_tuple : (parts : List ValType) → flat (types.Tuple parts) ≡ all_of (map flat parts)
flat_of_tuple parts =
    ap flat (sym (rolls-Tuple parts))
    ∙ fold-roll-ValType Flats Flats Flats flat_step flat_case flat_field (F.Tuple parts)

flat_of_field : (f : Field) → fold-Field Flats Flats Flats flat_step flat_case flat_field f ≡ flat f.val_type
flat_of_field = fold_field Flats Flats Flats flat_step flat_case flat_field

flat_of_payload : (p : Option ValType) → held_flat (held flat p) ≡ flat_payload p
flat_of_payload (Some p) = refl
flat_of_payload None = refl

flat_of_case : (c : Case) → fold-Case Flats Flats Flats flat_step flat_case flat_field c ≡ flat_payload c.payload
flat_of_case c = fold_case Flats Flats Flats flat_step flat_case flat_field c ∙ flat_of_payload c.payload

pub flat_of_record : (fields : List Field) → flat (types.Record fields) ≡ all_of (map (λ (f : Field). flat f.val_type) fields)
flat_of_record fields =
    ap flat (sym (rolls-Record fields))
    ∙ fold-roll-ValType Flats Flats Flats flat_step flat_case flat_field (F.Record fields)
    ∙ ap all_of (map_alike _ _ flat_of_field fields)

pub flat_of_variant : (cases : List Case) → flat (types.Variant cases) ≡ I32 ∷ joined_all (map (λ (c : Case). flat_payload c.payload) cases)
flat_of_variant cases =
    ap flat (sym (rolls-Variant cases))
    ∙ fold-roll-ValType Flats Flats Flats flat_step flat_case flat_field (F.Variant cases)
    ∙ ap (λ ps. I32 ∷ joined_all ps) (map_alike _ _ flat_of_case cases)

pub flat_of_result : (ok err : Option ValType) → flat (types.Result ok err) ≡ I32 ∷ joined_lists (flat_payload ok) (flat_payload err)
flat_of_result ok err =
    ap flat (sym (rolls-Result ok err))
    ∙ fold_result Flats Flats Flats flat_step flat_case flat_field ok err
    ∙ ap (λ ps. I32 ∷ joined_lists ps (held_flat (held flat err))) (flat_of_payload ok)
    ∙ ap (λ ps. I32 ∷ joined_lists (flat_payload ok) ps) (flat_of_payload err)
