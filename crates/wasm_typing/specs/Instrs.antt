-- The types of instructions that have one (Core 2.0, sections 3.3.1 to 3.3.8). An instruction of a type takes operands of
-- its parameters, the last one on top, and leaves operands of its results.
use Rattle.std.specs.Prelude.{ℕ, Bool, true, false, nat_lt, List, [], ◌∷◌, ◌++◌, Option, Some, None}
use Rattle.std.specs.List.{slice_get}
use Rattle.std.specs.Option.{option_map, option_and_then}
use Rattle.syntax_trees.specs.declared.module_types.ValType.{ValType}
use Rattle.syntax_trees.specs.declared.module_types.ValType.TheVariants.{I32, I64}
use Rattle.syntax_trees.specs.declared.module_types.FuncType.{FuncType}
use Rattle.syntax_trees.specs.declared.module_types.GlobalType.{GlobalType}
use Rattle.syntax_trees.specs.declared.module_types.Mutability.{Mutability}
use Rattle.syntax_trees.specs.declared.module_types.Mutability.TheVariants.{Constant, Variable}
use Rattle.syntax_trees.specs.declared.instr.NumericOp.{NumericOp}
use Rattle.syntax_trees.specs.declared.instr.NumericOp.TheVariants.{Eqz, Relation, Unary, Binary, WrapI64, ExtendI32S, ExtendI32U, I64Extend32S}
use Rattle.syntax_trees.specs.declared.instr.Instr.{Instr}
use Rattle.syntax_trees.specs.declared.instr.Instr.TheVariants as instr
use Rattle.wasm_typing.specs.Context.{Context, arrow}
pub use Rattle.syntax_trees.specs.Accesses.{integer, load_gives, load_width, store_takes, store_width}

-- numeric instructions
abbrev pub numeric_type : NumericOp → FuncType
numeric_type (Eqz width) = arrow (integer width ∷ []) (I32 ∷ [])
numeric_type (Relation width op) = arrow (integer width ∷ integer width ∷ []) (I32 ∷ [])
numeric_type (Unary width op) = arrow (integer width ∷ []) (integer width ∷ [])
numeric_type (Binary width op) = arrow (integer width ∷ integer width ∷ []) (integer width ∷ [])
numeric_type WrapI64 = arrow (I64 ∷ []) (I32 ∷ [])
numeric_type ExtendI32S = arrow (I32 ∷ []) (I64 ∷ [])
numeric_type ExtendI32U = arrow (I32 ∷ []) (I64 ∷ [])
numeric_type I64Extend32S = arrow (I64 ∷ []) (I64 ∷ [])

-- the type of the function of an index
abbrev pub func_type : Context → ℕ → Option FuncType
func_type c index = option_and_then (λ type. slice_get c.types type) (slice_get c.funcs index)

-- a type, where something is there
abbrev pub where_there : Bool → FuncType → Option FuncType
where_there true type = Some type
where_there false type = None

abbrev pub has_memory : Context → Bool
has_memory c = nat_lt 0 c.memories

-- `select` with types has one
abbrev pub select_type : List ValType → Option FuncType
select_type [] = None
select_type (type ∷ []) = Some (arrow (type ∷ type ∷ I32 ∷ []) (type ∷ []))
select_type (type ∷ other ∷ types) = None

-- The type that an instruction has where its indices and labels are there, before alignments and what may be set are
-- looked at. Those behind which any operands may stand, and `drop` and `select`, have rules of their own.
abbrev pub listed_type : Context → List (List ValType) → Instr → Option FuncType
listed_type c labels instr.Nop = Some (arrow [] [])
listed_type c labels (instr.BrIf label) = option_map (λ types. arrow (types ++ I32 ∷ []) types) (slice_get labels label)
listed_type c labels (instr.Call index) = func_type c index
listed_type c labels (instr.CallIndirect index table) =
    option_and_then (λ type. where_there (nat_lt table c.tables) (arrow (type.params ++ I32 ∷ []) type.results)) (slice_get c.types index)
listed_type c labels (instr.SelectTyped types) = select_type types
listed_type c labels (instr.LocalGet index) = option_map (λ type. arrow [] (type ∷ [])) (slice_get c.locals index)
listed_type c labels (instr.LocalSet index) = option_map (λ type. arrow (type ∷ []) []) (slice_get c.locals index)
listed_type c labels (instr.LocalTee index) = option_map (λ type. arrow (type ∷ []) (type ∷ [])) (slice_get c.locals index)
listed_type c labels (instr.GlobalGet index) = option_map (λ global. arrow [] (global.val_type ∷ [])) (slice_get c.globals index)
listed_type c labels (instr.GlobalSet index) = option_map (λ global. arrow (global.val_type ∷ []) []) (slice_get c.globals index)
listed_type c labels (instr.Load op arg) = where_there (has_memory c) (arrow (I32 ∷ []) (load_gives op ∷ []))
listed_type c labels (instr.Store op arg) = where_there (has_memory c) (arrow (I32 ∷ store_takes op ∷ []) [])
listed_type c labels instr.MemorySize = where_there (has_memory c) (arrow [] (I32 ∷ []))
listed_type c labels instr.MemoryGrow = where_there (has_memory c) (arrow (I32 ∷ []) (I32 ∷ []))
listed_type c labels instr.MemoryCopy = where_there (has_memory c) (arrow (I32 ∷ I32 ∷ I32 ∷ []) [])
listed_type c labels instr.MemoryFill = where_there (has_memory c) (arrow (I32 ∷ I32 ∷ I32 ∷ []) [])
listed_type c labels (instr.I32Const value) = Some (arrow [] (I32 ∷ []))
listed_type c labels (instr.I64Const value) = Some (arrow [] (I64 ∷ []))
listed_type c labels (instr.Numeric op) = Some (numeric_type op)
listed_type c labels _ = None

-- an alignment above that of what is read or written (section 3.3.7)
abbrev pub bad_align : Instr → Bool
bad_align (instr.Load op arg) = nat_lt (load_width op) arg.align
bad_align (instr.Store op arg) = nat_lt (store_width op) arg.align
bad_align _ = false

abbrev pub is_constant : Mutability → Bool
is_constant Constant = true
is_constant Variable = false

abbrev pub is_constant_global : Option GlobalType → Bool
is_constant_global None = false
is_constant_global (Some global) = is_constant global.mutability

-- an alignment above that of what is read or written, or a constant that is set (sections 3.3.5 and 3.3.7)
abbrev pub is_forbidden : Context → Instr → Bool
is_forbidden c (instr.Load op arg) = nat_lt (load_width op) arg.align
is_forbidden c (instr.Store op arg) = nat_lt (store_width op) arg.align
is_forbidden c (instr.GlobalSet index) = is_constant_global (slice_get c.globals index)
is_forbidden c _ = false

abbrev pub unless : Bool → Option FuncType → Option FuncType
unless true type = None
unless false type = type

-- the type of an instruction
abbrev pub instr_type : Context → List (List ValType) → Instr → Option FuncType
instr_type c labels i = unless (is_forbidden c i) (listed_type c labels i)
