-- What texts are for the types that hold others.
use Rattle.std.proofs.Common.{◌≡◌, ◌∙◌, List, ◌++◌, map, ap, sym, refl, Option, Some, None}
use Rattle.syntax_trees.specs.declared.types.ValType.{ValType}
use Rattle.syntax_trees.specs.declared.types.Case.{Case}
use Rattle.syntax_trees.specs.declared.types.Field.{Field}
use Rattle.syntax_trees.specs.declared.types.ValType.TheViews as types
use Rattle.syntax_trees.specs.declared.types.ValType.TheOpen as F
use Rattle.syntax_trees.specs.declared.types.ValType.TheFolds.{fold-Case, fold-Field, fold-roll-ValType}
use Rattle.syntax_trees.specs.declared.types.ValType.TheVariants.{rolls-Tuple, rolls-Record, rolls-Variant, rolls-Result, rolls-Stream, rolls-Future, rolls-List, rolls-Option}
use Rattle.syntax_trees.proofs.Folds.{held, fold_case, fold_field, fold_result, fold_stream, fold_future}
use Rattle.syntax_trees.proofs.Parts.{map_alike}
use Rattle.std.specs.Prelude.{codes}
use Rattle.syntax_trees.specs.TypeText.{Chars, type_text, text_step, text_case, text_field, field_text, case_text, held_text, listed, labelled, part_text, ended}

pub text_of_tuple : (parts : List ValType) → type_text (types.Tuple parts) ≡ codes "tuple<" ++ listed (map type_text parts) ++ codes ">"
text_of_tuple parts =
    ap type_text (sym (rolls-Tuple parts))
    ∙ fold-roll-ValType Chars Chars Chars text_step text_case text_field (F.Tuple parts)

text_of_field : (f : Field) → fold-Field Chars Chars Chars text_step text_case text_field f ≡ field_text f
text_of_field = fold_field Chars Chars Chars text_step text_case text_field

text_of_held : (p : Option ValType) → held type_text p ≡ held_text p
text_of_held (Some p) = refl
text_of_held None = refl

text_of_case : (c : Case) → fold-Case Chars Chars Chars text_step text_case text_field c ≡ case_text c
text_of_case c = fold_case Chars Chars Chars text_step text_case text_field c ∙ ap (labelled c.label) (text_of_held c.payload)

pub text_of_record : (fields : List Field) → type_text (types.Record fields) ≡ codes "record{" ++ listed (map field_text fields) ++ codes "}"
text_of_record fields =
    ap type_text (sym (rolls-Record fields))
    ∙ fold-roll-ValType Chars Chars Chars text_step text_case text_field (F.Record fields)
    ∙ ap (λ (ts : List Chars). codes "record{" ++ listed ts ++ codes "}") (map_alike _ _ text_of_field fields)

pub text_of_variant : (cases : List Case) → type_text (types.Variant cases) ≡ codes "variant{" ++ listed (map case_text cases) ++ codes "}"
text_of_variant cases =
    ap type_text (sym (rolls-Variant cases))
    ∙ fold-roll-ValType Chars Chars Chars text_step text_case text_field (F.Variant cases)
    ∙ ap (λ (ts : List Chars). codes "variant{" ++ listed ts ++ codes "}") (map_alike _ _ text_of_case cases)

pub text_of_result : (ok err : Option ValType) → type_text (types.Result ok err) ≡ codes "result<" ++ part_text (held_text ok) ++ codes ", " ++ part_text (held_text err) ++ codes ">"
text_of_result ok err =
    ap type_text (sym (rolls-Result ok err))
    ∙ fold_result Chars Chars Chars text_step text_case text_field ok err
    ∙ ap (λ (p : Option Chars). codes "result<" ++ part_text p ++ codes ", " ++ part_text (held type_text err) ++ codes ">") (text_of_held ok)
    ∙ ap (λ (p : Option Chars). codes "result<" ++ part_text (held_text ok) ++ codes ", " ++ part_text p ++ codes ">") (text_of_held err)

pub text_of_stream : (e : Option ValType) → type_text (types.Stream e) ≡ codes "stream" ++ ended (held_text e)
text_of_stream e =
    ap type_text (sym (rolls-Stream e))
    ∙ fold_stream Chars Chars Chars text_step text_case text_field e
    ∙ ap (λ (p : Option Chars). codes "stream" ++ ended p) (text_of_held e)

pub text_of_future : (e : Option ValType) → type_text (types.Future e) ≡ codes "future" ++ ended (held_text e)
text_of_future e =
    ap type_text (sym (rolls-Future e))
    ∙ fold_future Chars Chars Chars text_step text_case text_field e
    ∙ ap (λ (p : Option Chars). codes "future" ++ ended p) (text_of_held e)

pub text_of_list : (e : ValType) → type_text (types.List e) ≡ codes "list<" ++ type_text e ++ codes ">"
text_of_list e =
    ap type_text (sym (rolls-List e))
    ∙ fold-roll-ValType Chars Chars Chars text_step text_case text_field (F.List e)

pub text_of_option : (e : ValType) → type_text (types.Option e) ≡ codes "option<" ++ type_text e ++ codes ">"
text_of_option e =
    ap type_text (sym (rolls-Option e))
    ∙ fold-roll-ValType Chars Chars Chars text_step text_case text_field (F.Option e)
