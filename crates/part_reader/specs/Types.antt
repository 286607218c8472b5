-- Types of values, of functions and of resources in bytes (Component Model, Binary.md, `primvaltype`, `valtype`, `defvaltype`,
-- `functype`, `resourcetype`). The parts of a type are primitive types, or indices of types: no type holds another one.
use Rattle.std.specs.Prelude.{ℕ, ◌^◌, ℤ, pos, nat_abs, int_le, int_lt, ◌&&◌, Bool, ◌==◌, if◌then◌else◌, List, [], ◌∷◌, Option, Some, None}
use Rattle.ca_base.specs.Grammar.{Grammar, Give, Here, Next, Choose, ◌>>=◌}
use Rattle.ca_base.specs.Items.{byte_of, marker, u32, s33, name, vec}
use Rattle.ca_base.specs.Tables.{by_byte, in_rows, giving}
use Rattle.comp_tree.specs.declared.types.PrimValType.{PrimValType}
use Rattle.comp_tree.specs.declared.types.PrimValType.TheVariants as prim
use Rattle.comp_tree.specs.declared.types.ValTypeRef.{ValTypeRef}
use Rattle.comp_tree.specs.declared.types.ValTypeRef.TheVariants.{Primitive, Index}
use Rattle.comp_tree.specs.declared.types.Field.{Field}
use Rattle.comp_tree.specs.declared.types.Case.{Case}
use Rattle.comp_tree.specs.declared.types.DefValType.{DefValType}
use Rattle.comp_tree.specs.declared.types.DefValType.TheVariants as values
use Rattle.comp_tree.specs.declared.types.Param.{Param}
use Rattle.comp_tree.specs.declared.types.FuncType.{FuncType}
use Rattle.part_reader.specs.declared.fault.ComponentWhy.{ComponentWhy}
use Rattle.part_reader.specs.declared.fault.ComponentWhy.TheVariants.{Unsupported}
use Rattle.part_reader.specs.Reasons.{numbers, reasons, refused_type}

-- what the row of a byte has, where one has it
abbrev pub row_of : {A : Type 0} → List (ℕ × A) → ℕ → Option A
row_of [] b = None
row_of (row ∷ rows) b = if b == row.0 then Some row.1 else row_of rows b

-- the primitive type of a byte
unfoldable pub primitive : ℕ → Option PrimValType
primitive b =
    row_of (
    (0x7F, prim.Bool)
    ∷ (0x7E, prim.S8)
    ∷ (0x7D, prim.U8)
    ∷ (0x7C, prim.S16)
    ∷ (0x7B, prim.U16)
    ∷ (0x7A, prim.S32)
    ∷ (0x79, prim.U32)
    ∷ (0x78, prim.S64)
    ∷ (0x77, prim.U64)
    ∷ (0x74, prim.Char)
    ∷ (0x73, prim.String)
    ∷ []) b

-- A byte at this place that has this primitive type, which is given as the function says, or has none. 76 and 75 are those of
-- floats.
abbrev pub given_as : {A : Type 0} → (PrimValType → A) → ℕ → ℕ → Option PrimValType → Grammar ComponentWhy A
given_as f place b None = refused_type place b
given_as f place b (Some type) = Give (f type)

-- whether a number is an index
abbrev pub is_index : ℤ → Bool
is_index n = int_le (pos 0) n && int_lt n (pos (2 ^ 32))

-- A value type: the index of a type as s33, or the byte of a primitive one. As s33 the latter are negative.
unfoldable pub val_type : Grammar ComponentWhy ValTypeRef
val_type = do
  place ← Here
  first ← Next
  n ← s33 numbers
  Choose (is_index n) (Give (Index (nat_abs n))) (given_as Primitive place (byte_of first) (primitive (byte_of first)))

-- a value type that may be absent: 00 for none, or 01 and the type
unfoldable pub maybe_val_type : Grammar ComponentWhy (Option ValTypeRef)
maybe_val_type = by_byte Unsupported ((0x00, Give None) ∷ (0x01, giving Some val_type) ∷ [])

-- a field of a record: its label, and its type
unfoldable pub field : Grammar ComponentWhy Field
field = do
  label ← name numbers
  type ← val_type
  Give (record { label = label; val_type = type })

-- a case of a variant: its label, the type of its payload if it has one, and 00
unfoldable pub variant_case : Grammar ComponentWhy Case
variant_case = do
  label ← name numbers
  held ← maybe_val_type
  _ ← marker reasons 0
  Give (record { label = label; payload = held })

-- what stands behind the 6A of a result: the type of what a success holds if it has one, and that of a failure
abbrev pub outcomes : Grammar ComponentWhy DefValType
outcomes = do
  ok ← maybe_val_type
  err ← maybe_val_type
  Give (values.Result ok err)

-- a type of handles, streams or futures that a byte at this place begins, or a primitive one: 69 own and 68 borrow, with the type of
-- the resource; 66 a stream and 65 a future, with the type of what it holds if it holds anything
unfoldable pub handle_or_primitive : ℕ → ℕ → Grammar ComponentWhy DefValType
handle_or_primitive place b =
    in_rows (
    (0x69, giving values.Own (u32 numbers))
    ∷ (0x68, giving values.Borrow (u32 numbers))
    ∷ (0x66, giving values.Stream maybe_val_type)
    ∷ (0x65, giving values.Future maybe_val_type)
    ∷ []) b (given_as values.Primitive place b (primitive b))

-- the type of values that a byte at this place begins
unfoldable pub def_val_type : ℕ → ℕ → Grammar ComponentWhy DefValType
def_val_type place b =
    in_rows (
    (0x72, giving values.Record (vec numbers field))
    ∷ (0x71, giving values.Variant (vec numbers variant_case))
    ∷ (0x70, giving values.List val_type)
    ∷ (0x6F, giving values.Tuple (vec numbers val_type))
    ∷ (0x6E, giving values.Flags (vec numbers (name numbers)))
    ∷ (0x6D, giving values.Enum (vec numbers (name numbers)))
    ∷ (0x6B, giving values.Option val_type)
    ∷ (0x6A, outcomes)
    ∷ []) b (handle_or_primitive place b)

-- a parameter: its label, and its type
unfoldable pub param : Grammar ComponentWhy Param
param = do
  label ← name numbers
  type ← val_type
  Give (record { label = label; val_type = type })

-- a result: 00 and its type, or 01 00 for none
unfoldable pub func_result : Grammar ComponentWhy (Option ValTypeRef)
func_result = by_byte Unsupported ((0x00, giving Some val_type) ∷ (0x01, giving (λ _. None) (marker reasons 0)) ∷ [])

-- what stands behind the 40 of a function type: its parameters and its result
unfoldable pub func_type : Grammar ComponentWhy FuncType
func_type = do
  params ← vec numbers param
  returned ← func_result
  Give (record { params = params; result = returned })

-- the destructor of a resource: 00 for none, or 01 and a core function
unfoldable pub destructor : Grammar ComponentWhy (Option ℕ)
destructor = by_byte Unsupported ((0x00, Give None) ∷ (0x01, giving Some (u32 numbers)) ∷ [])

-- what stands behind the 3F of a type of resources: 7F, the type i32 of their representations, and the destructor
unfoldable pub resource_type : Grammar ComponentWhy (Option ℕ)
resource_type = do
  _ ← marker reasons 0x7F
  destructor
