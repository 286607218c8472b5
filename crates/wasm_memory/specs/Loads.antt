-- What a load gives of bytes (Core 2.0, section 4.4.7).
use Rattle.std.specs.Prelude.{ℕ, List, Option}
use Rattle.std.specs.Option.{option_map}
use Rattle.std.specs.Int.{Width, w8, w16, w32, w64, cast_signed, cast_unsigned}
use Rattle.syntax_trees.specs.declared.instr.LoadOp.{LoadOp}
use Rattle.syntax_trees.specs.declared.instr.LoadOp.TheVariants.{I32Load, I64Load, I32Load8S, I32Load8U, I32Load16S, I32Load16U, I64Load8S, I64Load8U, I64Load16S, I64Load16U, I64Load32S, I64Load32U}
use Rattle.wasm_memory.specs.Bytes.{number_at}

-- the width of what is read
abbrev pub read_width : LoadOp → Width
read_width I32Load = w32
read_width I64Load = w64
read_width I32Load8S = w8
read_width I32Load8U = w8
read_width I32Load16S = w16
read_width I32Load16U = w16
read_width I64Load8S = w8
read_width I64Load8U = w8
read_width I64Load16S = w16
read_width I64Load16U = w16
read_width I64Load32S = w32
read_width I64Load32U = w32

-- the width of what is given
abbrev pub result_width : LoadOp → Width
result_width I32Load = w32
result_width I64Load = w64
result_width I32Load8S = w32
result_width I32Load8U = w32
result_width I32Load16S = w32
result_width I32Load16U = w32
result_width I64Load8S = w64
result_width I64Load8U = w64
result_width I64Load16S = w64
result_width I64Load16U = w64
result_width I64Load32S = w64
result_width I64Load32U = w64

-- the number of w bits that is the same signed number as n is as one of v bits
abbrev pub extended : Width → Width → ℕ → ℕ
extended v w n = cast_unsigned w (cast_signed v n)

-- what a load makes of the number that it reads
abbrev pub value_of : LoadOp → ℕ → ℕ
value_of I32Load n = n
value_of I64Load n = n
value_of I32Load8S n = extended w8 w32 n
value_of I32Load8U n = n
value_of I32Load16S n = extended w16 w32 n
value_of I32Load16U n = n
value_of I64Load8S n = extended w8 w64 n
value_of I64Load8U n = n
value_of I64Load16S n = extended w16 w64 n
value_of I64Load16U n = n
value_of I64Load32S n = extended w32 w64 n
value_of I64Load32U n = n

-- what a load gives of the bytes from a place on, or None where they are not all inside
abbrev pub loaded : LoadOp → ℕ → List ℕ → Option ℕ
loaded op at memory = option_map (value_of op) (number_at (read_width op) at memory)
