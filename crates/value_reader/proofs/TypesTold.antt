-- What is read is a text of the value, for every type.
use Rattle.std.proofs.Common.{◌≡◌, ℕ, List, [], ◌∷◌, map, Option, Some, None, sym, ap, subst}
use Rattle.std.specs.List.{AllByRecursion}
use Rattle.syntax_trees.specs.declared.types.ValType.{ValType, roll-ValType}
use Rattle.syntax_trees.specs.declared.types.Case.{Case}
use Rattle.syntax_trees.specs.declared.types.Field.{Field}
use Rattle.syntax_trees.specs.declared.types.ValType.TheViews as types
use Rattle.syntax_trees.specs.declared.types.ValType.TheViews.{roll-Case, roll-Field}
use Rattle.syntax_trees.specs.declared.types.ValType.TheVariants as leaves
use Rattle.syntax_trees.specs.declared.types.ValType.TheVariants.{rolls-Bool, rolls-S8, rolls-U8, rolls-S16, rolls-U16, rolls-S32, rolls-U32, rolls-S64, rolls-U64, rolls-Char, rolls-String, rolls-Record, rolls-Variant, rolls-List, rolls-Tuple, rolls-Flags, rolls-Enum, rolls-Option, rolls-Result}
use Rattle.syntax_trees.specs.declared.types.ValType.TheOpen as F
use Rattle.syntax_trees.specs.declared.types.ValType.TheFolds.{fold-roll-ValType, ind-ValType, map-ValType, map-Case, map-Field}
use Rattle.syntax_trees.specs.ValueText.{Labelled}
use Rattle.value_reader.specs.Values.{Reader, reader, reader_step, reader_case, reader_field}
use Rattle.value_reader.specs.Written.{place_of_field}
use Rattle.value_reader.proofs.SequencesTold.{ToldPlace}
use Rattle.value_reader.proofs.Telling.{Told, ToldRest, told_bool, told_s8, told_u8, told_s16, told_u16, told_s32, told_u32, told_s64, told_u64, told_char, told_string, told_flags, told_enum, told_nothing, told_payload, told_option, told_result, told_variant, told_named, told_record, told_tuple, told_list}

abbrev ToldCase : Case → Type 0
ToldCase c = ToldRest c.payload

abbrev ToldField : Field → Type 0
ToldField f = ToldPlace (place_of_field f)

abbrev OfType : Type 0
OfType = (t : ValType) × Told t

abbrev OfCase : Type 0
OfCase = (c : Case) × ToldCase c

abbrev OfField : Type 0
OfField = (f : Field) × ToldField f

all_of : {A : Type 0} (P : A → Type 0) (l : List ((x : A) × P x)) → AllByRecursion P (map (λ (e : (x : A) × P x). e.0) l)
all_of P [] = tt
all_of P (e ∷ l) = (e.1, all_of P l)

told_at : (s t : ValType) → s ≡ t → Told t → Told s
told_at s t e told = subst Told (sym e) told

-- a type whose values have no text
silent : (t : ValType) → ((text : List ℕ) → reader t text ≡ None) → Told t
silent t none text rest v h =
    let no = none text in
    cc

abbrev Chosen : Type 0
Chosen = Labelled (Option Reader)

abbrev layer : F.ValType-F OfType OfCase OfField → F.ValType-F ValType Case Field
layer y = map-ValType OfType OfCase OfField ValType Case Field (λ e. e.0) (λ e. e.0) (λ e. e.0) y

told_step : (y : F.ValType-F OfType OfCase OfField) → Told (roll-ValType (layer y))
told_step F.Bool = told_at _ leaves.Bool rolls-Bool told_bool
told_step F.S8 = told_at _ leaves.S8 rolls-S8 told_s8
told_step F.U8 = told_at _ leaves.U8 rolls-U8 told_u8
told_step F.S16 = told_at _ leaves.S16 rolls-S16 told_s16
told_step F.U16 = told_at _ leaves.U16 rolls-U16 told_u16
told_step F.S32 = told_at _ leaves.S32 rolls-S32 told_s32
told_step F.U32 = told_at _ leaves.U32 rolls-U32 told_u32
told_step F.S64 = told_at _ leaves.S64 rolls-S64 told_s64
told_step F.U64 = told_at _ leaves.U64 rolls-U64 told_u64
told_step F.Char = told_at _ leaves.Char rolls-Char told_char
told_step F.String = told_at _ leaves.String rolls-String told_string
told_step (F.Record fields) =
    let all = map (λ (e : OfField). e.0) fields in
    told_at (roll-ValType (F.Record all)) (types.Record all) (rolls-Record all) (told_record all (all_of ToldField fields))
told_step (F.Variant cases) =
    let all = map (λ (e : OfCase). e.0) cases in
    told_at (roll-ValType (F.Variant all)) (types.Variant all) (rolls-Variant all) (told_variant all (all_of ToldCase cases))
told_step (F.List e) = told_at (roll-ValType (F.List e.0)) (types.List e.0) (rolls-List e.0) (told_list e.0 e.1)
told_step (F.Tuple parts) =
    let all = map (λ (e : OfType). e.0) parts in
    told_at (roll-ValType (F.Tuple all)) (types.Tuple all) (rolls-Tuple all) (told_tuple all (all_of Told parts))
told_step (F.Flags labels) = told_at (roll-ValType (F.Flags labels)) (leaves.Flags labels) (rolls-Flags labels) (told_flags labels)
told_step (F.Enum labels) = told_at (roll-ValType (F.Enum labels)) (leaves.Enum labels) (rolls-Enum labels) (told_enum labels)
told_step (F.Option e) = told_at (roll-ValType (F.Option e.0)) (types.Option e.0) (rolls-Option e.0) (told_option e.0 e.1)
told_step (F.Result None None) = told_at (roll-ValType (F.Result None None)) (types.Result None None) (rolls-Result None None) (told_result None None told_nothing told_nothing)
told_step (F.Result None (Some e)) =
    told_at (roll-ValType (F.Result None (Some e.0))) (types.Result None (Some e.0)) (rolls-Result None (Some e.0)) (told_result None (Some e.0) told_nothing (told_payload e.0 e.1))
told_step (F.Result (Some o) None) =
    told_at (roll-ValType (F.Result (Some o.0) None)) (types.Result (Some o.0) None) (rolls-Result (Some o.0) None) (told_result (Some o.0) None (told_payload o.0 o.1) told_nothing)
told_step (F.Result (Some o) (Some e)) =
    told_at (roll-ValType (F.Result (Some o.0) (Some e.0))) (types.Result (Some o.0) (Some e.0)) (rolls-Result (Some o.0) (Some e.0))
    (told_result (Some o.0) (Some e.0) (told_payload o.0 o.1) (told_payload e.0 e.1))
told_step (F.Own n) = silent (roll-ValType (F.Own n)) (λ text. ap (λ (r : Reader). r text) (fold-roll-ValType Reader Chosen Reader reader_step reader_case reader_field (F.Own n)))
told_step (F.Borrow n) = silent (roll-ValType (F.Borrow n)) (λ text. ap (λ (r : Reader). r text) (fold-roll-ValType Reader Chosen Reader reader_step reader_case reader_field (F.Borrow n)))
told_step (F.Stream e) =
    silent (roll-ValType (layer (F.Stream e))) (λ text. ap (λ (r : Reader). r text) (fold-roll-ValType Reader Chosen Reader reader_step reader_case reader_field (layer (F.Stream e))))
told_step (F.Future e) =
    silent (roll-ValType (layer (F.Future e))) (λ text. ap (λ (r : Reader). r text) (fold-roll-ValType Reader Chosen Reader reader_step reader_case reader_field (layer (F.Future e))))

told_case_step : (y : F.Case-F OfType OfCase OfField) → ToldCase (roll-Case (map-Case OfType OfCase OfField ValType Case Field (λ e. e.0) (λ e. e.0) (λ e. e.0) y))
told_case_step y =
    elim y.payload as (λ p. ToldCase (roll-Case (map-Case OfType OfCase OfField ValType Case Field (λ e. e.0) (λ e. e.0) (λ e. e.0) (record { label = y.label; payload = p })))) [
      | Some e ↦ told_payload e.0 e.1
      | None ↦ told_nothing
    ]

told_field_step : (y : F.Field-F OfType OfCase OfField) → ToldField (roll-Field (map-Field OfType OfCase OfField ValType Case Field (λ e. e.0) (λ e. e.0) (λ e. e.0) y))
told_field_step y = told_named y.label y.val_type.0 y.val_type.1

pub told_type : (t : ValType) → Told t
told_type =
    ind-ValType Told ToldCase ToldField
    (λ x y e. subst (λ (z : F.ValType-F ValType Case Field). Told (roll-ValType z)) e (told_step y))
    (λ x y e. subst (λ (z : F.Case-F ValType Case Field). ToldCase (roll-Case z)) e (told_case_step y))
    (λ x y e. subst (λ (z : F.Field-F ValType Case Field). ToldField (roll-Field z)) e (told_field_step y))
