-- What layouts are for the types that hold others.
use Rattle.std.proofs.Common.{◌≡◌, ◌∙◌, List, [], ◌∷◌, length, map, ap, sym, refl, Option, Some, None}
use Rattle.std.proofs.lemmas.List.{length-map}
use Rattle.syntax_trees.specs.declared.types.ValType.{ValType}
use Rattle.syntax_trees.specs.declared.types.Case.{Case}
use Rattle.syntax_trees.specs.declared.types.Field.{Field}
use Rattle.syntax_trees.specs.declared.types.ValType.TheViews as types
use Rattle.syntax_trees.specs.declared.types.ValType.TheOpen as F
use Rattle.syntax_trees.specs.declared.types.ValType.TheFolds.{fold-Case, fold-Field, fold-roll-ValType}
use Rattle.syntax_trees.specs.declared.types.ValType.TheVariants.{rolls-Tuple, rolls-Record, rolls-Variant, rolls-Result}
use Rattle.syntax_trees.proofs.Folds.{held, fold_case, fold_field, fold_result}
use Rattle.syntax_trees.proofs.Parts.{map_alike}
use Rattle.laid_types.specs.Layout.{Laid, laid, laid_step, laid_case, laid_field, laid_payload, record_laid, tagged, there}

pub laid_of_tuple : (parts : List ValType) → laid (types.Tuple parts) ≡ record_laid (map laid parts)
laid_of_tuple parts =
    ap laid (sym (rolls-Tuple parts))
    ∙ fold-roll-ValType Laid (Option Laid) Laid laid_step laid_case laid_field (F.Tuple parts)

laid_of_field : (f : Field) → fold-Field Laid (Option Laid) Laid laid_step laid_case laid_field f ≡ laid f.val_type
laid_of_field = fold_field Laid (Option Laid) Laid laid_step laid_case laid_field

laid_of_payload : (p : Option ValType) → held laid p ≡ laid_payload p
laid_of_payload (Some p) = refl
laid_of_payload None = refl

laid_of_case : (c : Case) → fold-Case Laid (Option Laid) Laid laid_step laid_case laid_field c ≡ laid_payload c.payload
laid_of_case c = fold_case Laid (Option Laid) Laid laid_step laid_case laid_field c ∙ laid_of_payload c.payload

pub laid_of_record : (fields : List Field) → laid (types.Record fields) ≡ record_laid (map (λ (f : Field). laid f.val_type) fields)
laid_of_record fields =
    ap laid (sym (rolls-Record fields))
    ∙ fold-roll-ValType Laid (Option Laid) Laid laid_step laid_case laid_field (F.Record fields)
    ∙ ap record_laid (map_alike _ _ laid_of_field fields)

pub laid_of_variant : (cases : List Case) → laid (types.Variant cases) ≡ tagged (length cases) (there (map (λ (c : Case). laid_payload c.payload) cases))
laid_of_variant cases =
    ap laid (sym (rolls-Variant cases))
    ∙ fold-roll-ValType Laid (Option Laid) Laid laid_step laid_case laid_field (F.Variant cases)
    ∙ ap (λ n. tagged n (there (map (fold-Case Laid (Option Laid) Laid laid_step laid_case laid_field) cases))) (length-map cases _)
    ∙ ap (λ cs. tagged (length cases) (there cs)) (map_alike _ _ laid_of_case cases)

pub laid_of_result : (ok err : Option ValType) → laid (types.Result ok err) ≡ tagged 2 (there (laid_payload ok ∷ laid_payload err ∷ []))
laid_of_result ok err =
    ap laid (sym (rolls-Result ok err))
    ∙ fold_result Laid (Option Laid) Laid laid_step laid_case laid_field ok err
    ∙ ap (λ (p : Option Laid). tagged 2 (there (p ∷ held laid err ∷ []))) (laid_of_payload ok)
    ∙ ap (λ (p : Option Laid). tagged 2 (there (laid_payload ok ∷ p ∷ []))) (laid_of_payload err)
