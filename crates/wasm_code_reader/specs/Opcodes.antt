-- Opcodes of instructions without immediates and of memory accesses (Core 2.0, section 5.4), in groups: each group is a
-- list in the order of the opcodes, the same for both widths.
use Rattle.std.specs.Prelude.{◌+◌, ◌-◌, ℕ, List, [], ◌∷◌, length, nat_le, ◌==◌, ◌&&◌, ◌||◌, if◌then◌else◌, Option, Some, None, Bool, slice_get}
use Rattle.std.specs.Option.{option_map}
use Rattle.syntax_trees.specs.declared.instr.NumericOp.{NumericOp}
use Rattle.syntax_trees.specs.declared.instr.NumericOp.TheVariants.{Eqz, Relation, Unary, Binary, WrapI64, ExtendI32S, ExtendI32U, I64Extend32S}
use Rattle.syntax_trees.specs.declared.instr.Width.TheVariants.{W32, W64}
use Rattle.syntax_trees.specs.declared.instr.RelationOp.{RelationOp}
use Rattle.syntax_trees.specs.declared.instr.RelationOp.TheVariants.{Eq, Ne, LtS, LtU, GtS, GtU, LeS, LeU, GeS, GeU}
use Rattle.syntax_trees.specs.declared.instr.BinaryOp.{BinaryOp}
use Rattle.syntax_trees.specs.declared.instr.BinaryOp.TheVariants.{Add, Sub, Mul, DivS, DivU, RemS, RemU, And, Or, Xor, Shl, ShrS, ShrU, Rotl, Rotr}
use Rattle.syntax_trees.specs.declared.instr.UnaryOp.{UnaryOp}
use Rattle.syntax_trees.specs.declared.instr.UnaryOp.TheVariants.{Clz, Ctz, Popcnt, Extend8S, Extend16S}
use Rattle.syntax_trees.specs.declared.instr.LoadOp.{LoadOp}
use Rattle.syntax_trees.specs.declared.instr.LoadOp.TheVariants.{I32Load, I64Load, I32Load8S, I32Load8U, I32Load16S, I32Load16U, I64Load8S, I64Load8U, I64Load16S, I64Load16U, I64Load32S, I64Load32U}
use Rattle.syntax_trees.specs.declared.instr.StoreOp.{StoreOp}
use Rattle.syntax_trees.specs.declared.instr.StoreOp.TheVariants.{I32Store, I64Store, I32Store8, I32Store16, I64Store8, I64Store16, I64Store32}
use Rattle.wasm_code_reader.specs.declared.fault.ModuleWhy.{ModuleWhy}
use Rattle.wasm_code_reader.specs.Reasons.{byte_why}

abbrev pub relations : List RelationOp
relations = Eq ∷ Ne ∷ LtS ∷ LtU ∷ GtS ∷ GtU ∷ LeS ∷ LeU ∷ GeS ∷ GeU ∷ []

abbrev pub unaries : List UnaryOp
unaries = Clz ∷ Ctz ∷ Popcnt ∷ []

abbrev pub extensions : List UnaryOp
extensions = Extend8S ∷ Extend16S ∷ []

abbrev pub binaries : List BinaryOp
binaries = Add ∷ Sub ∷ Mul ∷ DivS ∷ DivU ∷ RemS ∷ RemU ∷ And ∷ Or ∷ Xor ∷ Shl ∷ ShrS ∷ ShrU ∷ Rotl ∷ Rotr ∷ []

abbrev pub whole_loads : List LoadOp
whole_loads = I32Load ∷ I64Load ∷ []

abbrev pub part_loads : List LoadOp
part_loads = I32Load8S ∷ I32Load8U ∷ I32Load16S ∷ I32Load16U ∷ I64Load8S ∷ I64Load8U ∷ I64Load16S ∷ I64Load16U ∷ I64Load32S ∷ I64Load32U ∷ []

abbrev pub whole_stores : List StoreOp
whole_stores = I32Store ∷ I64Store ∷ []

abbrev pub part_stores : List StoreOp
part_stores = I32Store8 ∷ I32Store16 ∷ I64Store8 ∷ I64Store16 ∷ I64Store32 ∷ []

-- an opcode from the first to the last of a group
abbrev pub among : ℕ → ℕ → ℕ → Bool
among first last opcode = nat_le first opcode && nat_le opcode last

-- A row of a table of opcodes: which opcodes it has, and what they stand for.
abbrev pub Row : Type 0 → Type 0
Row A = (ℕ → Bool) × (ℕ → Option A)

-- one opcode
abbrev pub alone : {A : Type 0} → ℕ → A → Row A
alone opcode x = (λ b. b == opcode, λ b. Some x)

-- one opcode for each item of a group, from the first one on, which makes an instruction of it
abbrev pub group : {A B : Type 0} → ℕ → (A → B) → List A → Row B
group first f items = (λ b. among first (first + (length items - 1)) b, λ b. option_map f (slice_get items (b - first)))

-- what an opcode stands for in a table
abbrev pub in_table : {A : Type 0} → List (Row A) → ℕ → Option A
in_table [] opcode = None
in_table (row ∷ rows) opcode = if row.0 opcode then row.1 opcode else in_table rows opcode

-- the numeric instruction of an opcode (section 5.4.7)
unfoldable pub numeric : ℕ → Option NumericOp
numeric opcode =
    in_table (
    alone 0x45 (Eqz W32)
    ∷ group 0x46 (Relation W32) relations
    ∷ alone 0x50 (Eqz W64)
    ∷ group 0x51 (Relation W64) relations
    ∷ group 0x67 (Unary W32) unaries
    ∷ group 0x6A (Binary W32) binaries
    ∷ group 0x79 (Unary W64) unaries
    ∷ group 0x7C (Binary W64) binaries
    ∷ alone 0xA7 WrapI64
    ∷ alone 0xAC ExtendI32S
    ∷ alone 0xAD ExtendI32U
    ∷ group 0xC0 (Unary W32) extensions
    ∷ group 0xC2 (Unary W64) extensions
    ∷ alone 0xC4 I64Extend32S
    ∷ []) opcode

-- the load of an opcode (section 5.4.6)
unfoldable pub load : ℕ → Option LoadOp
load opcode = in_table (group 0x28 (λ op. op) whole_loads ∷ group 0x2C (λ op. op) part_loads ∷ []) opcode

-- the store of an opcode (section 5.4.6)
unfoldable pub store : ℕ → Option StoreOp
store opcode = in_table (group 0x36 (λ op. op) whole_stores ∷ group 0x3A (λ op. op) part_stores ∷ []) opcode

-- the opcodes of floats
abbrev pub is_float : ℕ → Bool
is_float opcode =
    among 0x2A 0x2B opcode || among 0x38 0x39 opcode || among 0x43 0x44 opcode || among 0x5B 0x66 opcode
    || among 0x8B 0xA6 opcode || among 0xA8 0xAB opcode || among 0xAE 0xBF opcode

-- why an opcode that no instruction has is refused
abbrev pub opcode_why : ℕ → ModuleWhy
opcode_why opcode = byte_why (is_float opcode) opcode
