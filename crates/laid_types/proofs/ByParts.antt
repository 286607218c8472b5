-- Layouts and core types by parts: those of a type are its outer layer over those of its parts.
use Rattle.std.proofs.Common.{◌≡◌, ◌∙◌, List, [], ◌∷◌, length, map, ap, sym, refl, Option, Some, None}
use Rattle.std.proofs.lemmas.List.{length-map}
use Rattle.syntax_trees.specs.declared.types.ValType.{ValType, out-ValType, roll-ValType}
use Rattle.syntax_trees.specs.declared.types.Case.{Case}
use Rattle.syntax_trees.specs.declared.types.Field.{Field}
use Rattle.syntax_trees.specs.declared.types.ValType.TheOpen as F
use Rattle.syntax_trees.specs.declared.types.ValType.TheViews.{roll-out-ValType}
use Rattle.syntax_trees.specs.declared.types.ValType.TheFolds.{fold-Case, fold-Field, fold-roll-ValType}
use Rattle.syntax_trees.specs.declared.core_type.CoreType.{CoreType}
use Rattle.syntax_trees.specs.declared.core_type.CoreType.TheVariants.{I32}
use Rattle.laid_types.specs.Layout.{Laid, laid, laid_step, laid_case, laid_field, laid_payload, record_laid, tagged, there}
use Rattle.syntax_trees.specs.Flat.{flat, flat_step, flat_case, flat_field, flat_payload, held_flat, all_of, joined_all, joined_lists}
use Rattle.syntax_trees.proofs.Folds.{held, fold_case, fold_field, fold_result, fold_stream, fold_future}
use Rattle.syntax_trees.proofs.Parts.{map_alike}
use Rattle.syntax_trees.proofs.Joins.{joined_none}
use Rattle.laid_types.specs.Parts.{parts_case, parts_of, layouts}
use Rattle.laid_types.specs.Gathered.{laid_over, flats, flat_over}

abbrev pub Layer : Type 0
Layer = F.ValType-F ValType Case Field

-- the image of the image
pub map_twice : {A B C : Type 0} (f : A → B) (g : B → C) (xs : List A) → map g (map f xs) ≡ map (λ (x : A). g (f x)) xs
map_twice f g [] = refl
map_twice f g (x ∷ xs) = ap (λ ys. g (f x) ∷ ys) (map_twice f g xs)

-- Layouts.
laid_of_payload : (p : Option ValType) → held laid p ≡ laid_payload p
laid_of_payload (Some p) = refl
laid_of_payload None = refl

laid_of_case : (c : Case) → fold-Case Laid (Option Laid) Laid laid_step laid_case laid_field c ≡ laid_payload c.payload
laid_of_case c = fold_case Laid (Option Laid) Laid laid_step laid_case laid_field c ∙ laid_of_payload c.payload

laid_of_field : (f : Field) → fold-Field Laid (Option Laid) Laid laid_step laid_case laid_field f ≡ laid f.val_type
laid_of_field = fold_field Laid (Option Laid) Laid laid_step laid_case laid_field

fields_laid : (fields : List Field) → map (λ (f : Field). laid f.val_type) fields ≡ layouts (map (λ (f : Field). Some f.val_type) fields)
fields_laid [] = refl
fields_laid (f ∷ fields) = ap (λ (ls : List Laid). laid f.val_type ∷ ls) (fields_laid fields)

parts_laid : (parts : List ValType) → map laid parts ≡ layouts (map Some parts)
parts_laid [] = refl
parts_laid (p ∷ parts) = ap (λ (ls : List Laid). laid p ∷ ls) (parts_laid parts)

laid_rolled : (x : Layer) → laid (roll-ValType x) ≡ laid_over x (layouts (parts_case x))
laid_rolled F.Bool = fold-roll-ValType Laid (Option Laid) Laid laid_step laid_case laid_field F.Bool
laid_rolled F.S8 = fold-roll-ValType Laid (Option Laid) Laid laid_step laid_case laid_field F.S8
laid_rolled F.U8 = fold-roll-ValType Laid (Option Laid) Laid laid_step laid_case laid_field F.U8
laid_rolled F.S16 = fold-roll-ValType Laid (Option Laid) Laid laid_step laid_case laid_field F.S16
laid_rolled F.U16 = fold-roll-ValType Laid (Option Laid) Laid laid_step laid_case laid_field F.U16
laid_rolled F.S32 = fold-roll-ValType Laid (Option Laid) Laid laid_step laid_case laid_field F.S32
laid_rolled F.U32 = fold-roll-ValType Laid (Option Laid) Laid laid_step laid_case laid_field F.U32
laid_rolled F.S64 = fold-roll-ValType Laid (Option Laid) Laid laid_step laid_case laid_field F.S64
laid_rolled F.U64 = fold-roll-ValType Laid (Option Laid) Laid laid_step laid_case laid_field F.U64
laid_rolled F.Char = fold-roll-ValType Laid (Option Laid) Laid laid_step laid_case laid_field F.Char
laid_rolled F.String = fold-roll-ValType Laid (Option Laid) Laid laid_step laid_case laid_field F.String
laid_rolled (F.Record fields) =
    fold-roll-ValType Laid (Option Laid) Laid laid_step laid_case laid_field (F.Record fields)
    ∙ ap record_laid (map_alike _ _ laid_of_field fields ∙ fields_laid fields)
laid_rolled (F.Variant cases) =
    fold-roll-ValType Laid (Option Laid) Laid laid_step laid_case laid_field (F.Variant cases)
    ∙ ap (λ n. tagged n (there (map (fold-Case Laid (Option Laid) Laid laid_step laid_case laid_field) cases))) (length-map cases _)
    ∙ ap (λ (cs : List (Option Laid)). tagged (length cases) (there cs)) (map_alike _ _ laid_of_case cases ∙ sym (map_twice (λ (c : Case). c.payload) laid_payload cases))
laid_rolled (F.List e) = fold-roll-ValType Laid (Option Laid) Laid laid_step laid_case laid_field (F.List e)
laid_rolled (F.Tuple parts) =
    fold-roll-ValType Laid (Option Laid) Laid laid_step laid_case laid_field (F.Tuple parts) ∙ ap record_laid (parts_laid parts)
laid_rolled (F.Flags labels) = fold-roll-ValType Laid (Option Laid) Laid laid_step laid_case laid_field (F.Flags labels)
laid_rolled (F.Enum labels) = fold-roll-ValType Laid (Option Laid) Laid laid_step laid_case laid_field (F.Enum labels)
laid_rolled (F.Option p) = fold-roll-ValType Laid (Option Laid) Laid laid_step laid_case laid_field (F.Option p)
laid_rolled (F.Result ok err) =
    fold_result Laid (Option Laid) Laid laid_step laid_case laid_field ok err
    ∙ ap (λ (p : Option Laid). tagged 2 (there (p ∷ held laid err ∷ []))) (laid_of_payload ok)
    ∙ ap (λ (p : Option Laid). tagged 2 (there (laid_payload ok ∷ p ∷ []))) (laid_of_payload err)
laid_rolled (F.Own n) = fold-roll-ValType Laid (Option Laid) Laid laid_step laid_case laid_field (F.Own n)
laid_rolled (F.Borrow n) = fold-roll-ValType Laid (Option Laid) Laid laid_step laid_case laid_field (F.Borrow n)
laid_rolled (F.Stream e) = fold_stream Laid (Option Laid) Laid laid_step laid_case laid_field e
laid_rolled (F.Future e) = fold_future Laid (Option Laid) Laid laid_step laid_case laid_field e

pub laid_by_parts : (t : ValType) → laid t ≡ laid_over (out-ValType t) (layouts (parts_of t))
laid_by_parts t = ap laid (sym (roll-out-ValType t)) ∙ laid_rolled (out-ValType t)

-- Core types.
abbrev Flats : Type 0
Flats = List CoreType

flat_of_payload : (p : Option ValType) → held_flat (held flat p) ≡ flat_payload p
flat_of_payload (Some p) = refl
flat_of_payload None = refl

flat_of_case : (c : Case) → fold-Case Flats Flats Flats flat_step flat_case flat_field c ≡ flat_payload c.payload
flat_of_case c = fold_case Flats Flats Flats flat_step flat_case flat_field c ∙ flat_of_payload c.payload

flat_of_field : (f : Field) → fold-Field Flats Flats Flats flat_step flat_case flat_field f ≡ flat f.val_type
flat_of_field = fold_field Flats Flats Flats flat_step flat_case flat_field

flat_rolled : (x : Layer) → flat (roll-ValType x) ≡ flat_over x (flats (parts_case x))
flat_rolled F.Bool = fold-roll-ValType Flats Flats Flats flat_step flat_case flat_field F.Bool
flat_rolled F.S8 = fold-roll-ValType Flats Flats Flats flat_step flat_case flat_field F.S8
flat_rolled F.U8 = fold-roll-ValType Flats Flats Flats flat_step flat_case flat_field F.U8
flat_rolled F.S16 = fold-roll-ValType Flats Flats Flats flat_step flat_case flat_field F.S16
flat_rolled F.U16 = fold-roll-ValType Flats Flats Flats flat_step flat_case flat_field F.U16
flat_rolled F.S32 = fold-roll-ValType Flats Flats Flats flat_step flat_case flat_field F.S32
flat_rolled F.U32 = fold-roll-ValType Flats Flats Flats flat_step flat_case flat_field F.U32
flat_rolled F.S64 = fold-roll-ValType Flats Flats Flats flat_step flat_case flat_field F.S64
flat_rolled F.U64 = fold-roll-ValType Flats Flats Flats flat_step flat_case flat_field F.U64
flat_rolled F.Char = fold-roll-ValType Flats Flats Flats flat_step flat_case flat_field F.Char
flat_rolled F.String = fold-roll-ValType Flats Flats Flats flat_step flat_case flat_field F.String
flat_rolled (F.Record fields) =
    fold-roll-ValType Flats Flats Flats flat_step flat_case flat_field (F.Record fields)
    ∙ ap all_of (map_alike _ _ flat_of_field fields ∙ sym (map_twice (λ (f : Field). Some f.val_type) flat_payload fields))
flat_rolled (F.Variant cases) =
    fold-roll-ValType Flats Flats Flats flat_step flat_case flat_field (F.Variant cases)
    ∙ ap (λ (ps : List Flats). I32 ∷ joined_all ps) (map_alike _ _ flat_of_case cases ∙ sym (map_twice (λ (c : Case). c.payload) flat_payload cases))
flat_rolled (F.List e) = fold-roll-ValType Flats Flats Flats flat_step flat_case flat_field (F.List e)
flat_rolled (F.Tuple parts) =
    fold-roll-ValType Flats Flats Flats flat_step flat_case flat_field (F.Tuple parts)
    ∙ ap all_of (sym (map_twice {B = Option ValType} Some flat_payload parts))
flat_rolled (F.Flags labels) = fold-roll-ValType Flats Flats Flats flat_step flat_case flat_field (F.Flags labels)
flat_rolled (F.Enum labels) = fold-roll-ValType Flats Flats Flats flat_step flat_case flat_field (F.Enum labels)
flat_rolled (F.Option p) =
    fold-roll-ValType Flats Flats Flats flat_step flat_case flat_field (F.Option p) ∙ ap (λ (ps : Flats). I32 ∷ ps) (sym (joined_none (flat p)))
flat_rolled (F.Result ok err) =
    fold_result Flats Flats Flats flat_step flat_case flat_field ok err
    ∙ ap (λ (ps : Flats). I32 ∷ joined_lists ps (held_flat (held flat err))) (flat_of_payload ok)
    ∙ ap (λ (ps : Flats). I32 ∷ joined_lists (flat_payload ok) ps) (flat_of_payload err ∙ sym (joined_none (flat_payload err)))
flat_rolled (F.Own n) = fold-roll-ValType Flats Flats Flats flat_step flat_case flat_field (F.Own n)
flat_rolled (F.Borrow n) = fold-roll-ValType Flats Flats Flats flat_step flat_case flat_field (F.Borrow n)
flat_rolled (F.Stream e) = fold_stream Flats Flats Flats flat_step flat_case flat_field e
flat_rolled (F.Future e) = fold_future Flats Flats Flats flat_step flat_case flat_field e

pub flat_by_parts : (t : ValType) → flat t ≡ flat_over (out-ValType t) (flats (parts_of t))
flat_by_parts t = ap flat (sym (roll-out-ValType t)) ∙ flat_rolled (out-ValType t)
