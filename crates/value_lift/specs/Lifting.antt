-- Lifting over the plain ledger (Component Model, CanonicalABI.md, "Loading", "Flat Lifting"): what it answers of bytes and of core
-- values, where an index names itself.
use Rattle.std.specs.Prelude.{◌≡◌, ℕ, ◌==◌, Bool, true, false, if◌then◌else◌, List, [], Option, Result, Ok, Err}
use Rattle.syntax_trees.specs.declared.types.ValType.{ValType, out-ValType}
use Rattle.syntax_trees.specs.declared.types.Field.{Field}
use Rattle.syntax_trees.specs.declared.types.Case.{Case}
use Rattle.syntax_trees.specs.declared.types.ValType.TheOpen.{ValType-F}
use Rattle.syntax_trees.specs.declared.value.Value.{Value}
use Rattle.laid_types.specs.Layout.{laid}
use Rattle.value_lift.specs.declared.trap.LiftTrap.{LiftTrap}
use Rattle.value_lift.specs.declared.trap.LiftWhy.TheVariants.{Misaligned, Bounds}
use Rattle.value_lift.specs.declared.counting.LiftOf.{LiftOf}
use Rattle.value_lift.specs.declared.counting.LiftOf.TheVariants as whole
use Rattle.value_lift.specs.Bytes.{is_inside, is_aligned}
use Rattle.value_lift.specs.Answers.{Lifted, trap, value_of, plainly}
use Rattle.value_lift.specs.Pieces.{Lift, LiftWords, Part, elements_of}
use Rattle.value_lift.specs.Over as over
pub use Rattle.value_lift.specs.Over.{laid_of, flat_of, behind_tag, low}

abbrev pub fields_from : List ℕ → ℕ → List Value → ℕ → List (Option Part) → ℕ → Lifted (List Value)
fields_from = over.fields_from plainly

abbrev pub payload_of : Option Part → List ℕ → ℕ → ℕ → Lifted (Option Value)
payload_of = over.payload_of plainly

abbrev pub case_told : ℕ → ℕ → List (Option Part) → Lift
case_told = over.case_told plainly

abbrev pub case_of : ℕ → List (Option Part) → Lift
case_of = over.case_of plainly

abbrev pub lift_case : ValType-F Part (Option Part) Part → Lift
lift_case = over.lift_case plainly

abbrev pub word_fields_from : List ℕ → List ℕ → List Value → ℕ → List (Option Part) → ℕ → Lifted (List Value)
word_fields_from = over.word_fields_from plainly

abbrev pub word_payload_of : Option Part → List ℕ → List ℕ → ℕ → ℕ → Lifted (Option Value)
word_payload_of = over.word_payload_of plainly

abbrev pub word_case_of : ℕ → List (Option Part) → LiftWords
word_case_of = over.word_case_of plainly

abbrev pub lift_word_case : ValType-F Part (Option Part) Part → LiftWords
lift_word_case = over.lift_word_case plainly

abbrev pub folded : ValType → Part
folded = over.folded plainly

-- what lifts a type's values, from a memory and from core values
abbrev pub lift : ValType → Lift
lift = over.lift plainly

abbrev pub lift_words : ValType → LiftWords
lift_words = over.lift_words plainly

-- a type as lifting needs it
abbrev pub part : ValType → Part
part = over.part plainly

abbrev pub parts : List (Option ValType) → List (Option Part)
parts = over.parts plainly

abbrev pub payload_part : Case → Option Part
payload_part = over.payload_part plainly

abbrev pub field_part : Field → Part
field_part = over.field_part plainly

-- the outer layer of a type, with its parts
abbrev pub layer_of : ValType → ValType-F Part (Option Part) Part
layer_of = over.layer_of plainly

-- what may be counted at most; for arguments, whose tuple is not counted itself, one more
abbrev pub most : LiftOf → ℕ
most whole.Value = 134217728
most whole.Arguments = 134217729

-- whether a layer is that of a tuple
abbrev pub tuple_case : {A B C : Type 0} → ValType-F A B C → Bool
tuple_case (ValType-F.Tuple parts) = true
tuple_case _ = false

-- What is lifted may be of this type: arguments are a tuple.
abbrev pub IsFor : LiftOf → ValType → Type 0
IsFor whole.Value type = Unit {0}
IsFor whole.Arguments type = tuple_case (out-ValType type) ≡ true

-- The value at a place, which is a multiple of the type's alignment, with all its bytes inside.
abbrev pub load : LiftOf → ValType → List ℕ → ℕ → Result Value LiftTrap
load what type memory place =
    if is_aligned place (laid type).align
    then (if is_inside place (laid type).size memory then value_of (lift type memory place (most what)) else Err (trap Bounds place))
    else Err (trap Misaligned place)

-- So many values one after the other, each of which is counted. None stand anywhere.
abbrev pub load_list : ValType → List ℕ → ℕ → ℕ → Result (List Value) LiftTrap
load_list type memory place count =
    if count == 0 then Ok [] else value_of (elements_of (part type) place count memory place 134217728)

-- The value in core values.
abbrev pub lift_flat : LiftOf → ValType → List ℕ → List ℕ → Result Value LiftTrap
lift_flat what type memory words = value_of (lift_words type memory words 0 (most what))

-- the types of integers
abbrev pub integer_case : {A B C : Type 0} → ValType-F A B C → Bool
integer_case ValType-F.S8 = true
integer_case ValType-F.U8 = true
integer_case ValType-F.S16 = true
integer_case ValType-F.U16 = true
integer_case ValType-F.S32 = true
integer_case ValType-F.U32 = true
integer_case ValType-F.S64 = true
integer_case ValType-F.U64 = true
integer_case _ = false

abbrev pub is_integer : ValType → Bool
is_integer type = integer_case (out-ValType type)
