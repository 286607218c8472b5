-- Types and values of the examples by their outer layers: what folds over them give.
use Rattle.std.proofs.Common.{◌≡◌, ◌∙◌, ℕ, Bool, true, false, List, [], ◌∷◌, map, Option, Some, ap, sym}
use Rattle.syntax_trees.specs.declared.core_type.CoreType.{CoreType}
use Rattle.syntax_trees.specs.declared.core_type.CoreType.TheVariants.{I32}
use Rattle.syntax_trees.specs.declared.types.ValType.{ValType, out-ValType}
use Rattle.syntax_trees.specs.declared.types.Case.{Case}
use Rattle.syntax_trees.specs.declared.types.Field.{Field}
use Rattle.syntax_trees.specs.declared.types.ValType.TheOpen as F
use Rattle.syntax_trees.specs.declared.types.ValType.TheVariants as leaves
use Rattle.syntax_trees.specs.declared.types.ValType.TheViews as types
use Rattle.syntax_trees.specs.declared.types.ValType.TheViews.{out-roll-ValType}
use Rattle.syntax_trees.specs.declared.types.ValType.TheFolds.{fold-roll-ValType}
use Rattle.syntax_trees.specs.declared.value.Handle.{Handle}
use Rattle.syntax_trees.specs.declared.value.Value.{Value}
use Rattle.syntax_trees.specs.declared.value.Value.TheOpen as V
use Rattle.syntax_trees.specs.declared.value.Value.TheVariants as plain
use Rattle.syntax_trees.specs.declared.value.Value.TheViews as values
use Rattle.syntax_trees.specs.declared.value.Value.TheFolds.{fold-roll-Value}
use Rattle.laid_types.specs.Layout.{Laid, laid, laid_step, laid_case, laid_field}
use Rattle.syntax_trees.specs.Flat.{flat, flat_step, flat_case, flat_field}
use Rattle.laid_types.specs.Parts.{parts_case, parts_of}
use Rattle.value_lift.specs.Lifting.{integer_case, is_integer}
use Rattle.abi_machine.specs.SameTypes.{same_layer, same_step, same_case, same_field, same_val}
use Rattle.abi_machine.specs.LiftingOver.{Ledger, Part, CasePart, FieldPart, case_by, field_by, part_step, part}
use Rattle.abi_machine.specs.LoweringOver.{New, Plan, Lowered, lower_step, lowered}

-- Core types.
pub u32_flat : flat leaves.U32 ≡ I32 ∷ []
u32_flat = ap flat (sym leaves.rolls-U32) ∙ fold-roll-ValType (List CoreType) (List CoreType) (List CoreType) flat_step flat_case flat_field F.U32

pub string_flat : flat leaves.String ≡ I32 ∷ I32 ∷ []
string_flat = ap flat (sym leaves.rolls-String) ∙ fold-roll-ValType (List CoreType) (List CoreType) (List CoreType) flat_step flat_case flat_field F.String

pub own_flat : (resource : ℕ) → flat (leaves.Own resource) ≡ I32 ∷ []
own_flat resource = ap flat (sym (leaves.rolls-Own resource)) ∙ fold-roll-ValType (List CoreType) (List CoreType) (List CoreType) flat_step flat_case flat_field (F.Own resource)

pub borrow_flat : (resource : ℕ) → flat (leaves.Borrow resource) ≡ I32 ∷ []
borrow_flat resource = ap flat (sym (leaves.rolls-Borrow resource)) ∙ fold-roll-ValType (List CoreType) (List CoreType) (List CoreType) flat_step flat_case flat_field (F.Borrow resource)

pub stream_flat : (element : Option ValType) → flat (types.Stream element) ≡ I32 ∷ []
stream_flat element = ap flat (sym (types.rolls-Stream element)) ∙ fold-roll-ValType (List CoreType) (List CoreType) (List CoreType) flat_step flat_case flat_field (F.Stream element)

pub future_flat : (element : Option ValType) → flat (types.Future element) ≡ I32 ∷ []
future_flat element = ap flat (sym (types.rolls-Future element)) ∙ fold-roll-ValType (List CoreType) (List CoreType) (List CoreType) flat_step flat_case flat_field (F.Future element)

-- Layouts.
pub u8_laid : laid leaves.U8 ≡ record { size = 1; align = 1 }
u8_laid = ap laid (sym leaves.rolls-U8) ∙ fold-roll-ValType Laid (Option Laid) Laid laid_step laid_case laid_field F.U8

pub u32_laid : laid leaves.U32 ≡ record { size = 4; align = 4 }
u32_laid = ap laid (sym leaves.rolls-U32) ∙ fold-roll-ValType Laid (Option Laid) Laid laid_step laid_case laid_field F.U32

pub string_laid : laid leaves.String ≡ record { size = 8; align = 4 }
string_laid = ap laid (sym leaves.rolls-String) ∙ fold-roll-ValType Laid (Option Laid) Laid laid_step laid_case laid_field F.String

-- Outer layers: whether elements are integers, and the same types.
pub u8_integer : is_integer leaves.U8 ≡ true
u8_integer = ap (λ (y : F.ValType-F ValType Case Field). integer_case y) (ap out-ValType (sym leaves.rolls-U8) ∙ out-roll-ValType F.U8)

pub string_integer : is_integer leaves.String ≡ false
string_integer = ap (λ (y : F.ValType-F ValType Case Field). integer_case y) (ap out-ValType (sym leaves.rolls-String) ∙ out-roll-ValType F.String)

pub u8_same : same_val leaves.U8 leaves.U8 ≡ true
u8_same =
    ap (λ (f : ValType → Bool). f leaves.U8) (ap same_val (sym leaves.rolls-U8) ∙ fold-roll-ValType (ValType → Bool) (Case → Bool) (Field → Bool) same_step same_case same_field F.U8)
    ∙ ap (λ (y : F.ValType-F ValType Case Field). same_layer F.U8 y) (ap out-ValType (sym leaves.rolls-U8) ∙ out-roll-ValType F.U8)

pub u32_same : same_val leaves.U32 leaves.U32 ≡ true
u32_same =
    ap (λ (f : ValType → Bool). f leaves.U32) (ap same_val (sym leaves.rolls-U32) ∙ fold-roll-ValType (ValType → Bool) (Case → Bool) (Field → Bool) same_step same_case same_field F.U32)
    ∙ ap (λ (y : F.ValType-F ValType Case Field). same_layer F.U32 y) (ap out-ValType (sym leaves.rolls-U32) ∙ out-roll-ValType F.U32)

pub string_same : same_val leaves.String leaves.String ≡ true
string_same =
    ap (λ (f : ValType → Bool). f leaves.String) (ap same_val (sym leaves.rolls-String) ∙ fold-roll-ValType (ValType → Bool) (Case → Bool) (Field → Bool) same_step same_case same_field F.String)
    ∙ ap (λ (y : F.ValType-F ValType Case Field). same_layer F.String y) (ap out-ValType (sym leaves.rolls-String) ∙ out-roll-ValType F.String)

-- The parts of arguments.
pub tuple_parts : (parts : List ValType) → parts_of (types.Tuple parts) ≡ map Some parts
tuple_parts parts = ap (λ (y : F.ValType-F ValType Case Field). parts_case y) (ap out-ValType (sym (types.rolls-Tuple parts)) ∙ out-roll-ValType (F.Tuple parts))

-- What lifts, over any ledger.
pub u8_part : {S T : Type 0} (l : Ledger S T) → part l leaves.U8 ≡ part_step l F.U8
u8_part {S} {T} l = ap (part l) (sym leaves.rolls-U8) ∙ fold-roll-ValType (Part S T) (CasePart S T) (FieldPart S T) (part_step l) case_by field_by F.U8

pub u32_part : {S T : Type 0} (l : Ledger S T) → part l leaves.U32 ≡ part_step l F.U32
u32_part {S} {T} l = ap (part l) (sym leaves.rolls-U32) ∙ fold-roll-ValType (Part S T) (CasePart S T) (FieldPart S T) (part_step l) case_by field_by F.U32

pub string_part : {S T : Type 0} (l : Ledger S T) → part l leaves.String ≡ part_step l F.String
string_part {S} {T} l = ap (part l) (sym leaves.rolls-String) ∙ fold-roll-ValType (Part S T) (CasePart S T) (FieldPart S T) (part_step l) case_by field_by F.String

pub own_part : {S T : Type 0} (l : Ledger S T) (resource : ℕ) → part l (leaves.Own resource) ≡ part_step l (F.Own resource)
own_part {S} {T} l resource = ap (part l) (sym (leaves.rolls-Own resource)) ∙ fold-roll-ValType (Part S T) (CasePart S T) (FieldPart S T) (part_step l) case_by field_by (F.Own resource)

pub borrow_part : {S T : Type 0} (l : Ledger S T) (resource : ℕ) → part l (leaves.Borrow resource) ≡ part_step l (F.Borrow resource)
borrow_part {S} {T} l resource = ap (part l) (sym (leaves.rolls-Borrow resource)) ∙ fold-roll-ValType (Part S T) (CasePart S T) (FieldPart S T) (part_step l) case_by field_by (F.Borrow resource)

pub stream_part : {S T : Type 0} (l : Ledger S T) (element : ValType) → part l (types.Stream (Some element)) ≡ part_step l (F.Stream (Some (part l element)))
stream_part {S} {T} l element = ap (part l) (sym (types.rolls-Stream (Some element))) ∙ fold-roll-ValType (Part S T) (CasePart S T) (FieldPart S T) (part_step l) case_by field_by (F.Stream (Some element))

pub future_part : {S T : Type 0} (l : Ledger S T) (element : ValType) → part l (types.Future (Some element)) ≡ part_step l (F.Future (Some (part l element)))
future_part {S} {T} l element = ap (part l) (sym (types.rolls-Future (Some element))) ∙ fold-roll-ValType (Part S T) (CasePart S T) (FieldPart S T) (part_step l) case_by field_by (F.Future (Some element))

pub tuple_part : {S T : Type 0} (l : Ledger S T) (parts : List ValType) → part l (types.Tuple parts) ≡ part_step l (F.Tuple (map (part l) parts))
tuple_part {S} {T} l parts = ap (part l) (sym (types.rolls-Tuple parts)) ∙ fold-roll-ValType (Part S T) (CasePart S T) (FieldPart S T) (part_step l) case_by field_by (F.Tuple parts)

-- What lowers, over any way to make entries.
pub u8_lowered : (enter : New → (ℕ → Plan) → Plan) (n : ℕ) → lowered enter (plain.U8 n) ≡ lower_step enter (V.U8 n)
u8_lowered enter n = ap (lowered enter) (sym (plain.rolls-U8 n)) ∙ fold-roll-Value Lowered (lower_step enter) (V.U8 n)

pub u32_lowered : (enter : New → (ℕ → Plan) → Plan) (n : ℕ) → lowered enter (plain.U32 n) ≡ lower_step enter (V.U32 n)
u32_lowered enter n = ap (lowered enter) (sym (plain.rolls-U32 n)) ∙ fold-roll-Value Lowered (lower_step enter) (V.U32 n)

pub string_lowered : (enter : New → (ℕ → Plan) → Plan) (text : List ℕ) → lowered enter (plain.String text) ≡ lower_step enter (V.String text)
string_lowered enter text = ap (lowered enter) (sym (plain.rolls-String text)) ∙ fold-roll-Value Lowered (lower_step enter) (V.String text)

pub own_lowered : (enter : New → (ℕ → Plan) → Plan) (handle : Handle) → lowered enter (plain.Own handle) ≡ lower_step enter (V.Own handle)
own_lowered enter handle = ap (lowered enter) (sym (plain.rolls-Own handle)) ∙ fold-roll-Value Lowered (lower_step enter) (V.Own handle)

pub borrow_lowered : (enter : New → (ℕ → Plan) → Plan) (handle : Handle) → lowered enter (plain.Borrow handle) ≡ lower_step enter (V.Borrow handle)
borrow_lowered enter handle = ap (lowered enter) (sym (plain.rolls-Borrow handle)) ∙ fold-roll-Value Lowered (lower_step enter) (V.Borrow handle)

pub stream_lowered : (enter : New → (ℕ → Plan) → Plan) (n : ℕ) → lowered enter (plain.Stream n) ≡ lower_step enter (V.Stream n)
stream_lowered enter n = ap (lowered enter) (sym (plain.rolls-Stream n)) ∙ fold-roll-Value Lowered (lower_step enter) (V.Stream n)

pub future_lowered : (enter : New → (ℕ → Plan) → Plan) (n : ℕ) → lowered enter (plain.Future n) ≡ lower_step enter (V.Future n)
future_lowered enter n = ap (lowered enter) (sym (plain.rolls-Future n)) ∙ fold-roll-Value Lowered (lower_step enter) (V.Future n)

pub record_lowered : (enter : New → (ℕ → Plan) → Plan) (all : List Value) → lowered enter (values.Record all) ≡ lower_step enter (V.Record (map (lowered enter) all))
record_lowered enter all = ap (lowered enter) (sym (values.rolls-Record all)) ∙ fold-roll-Value Lowered (lower_step enter) (V.Record all)
