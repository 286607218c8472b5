-- What numeric instructions, loads and stores are on: the types of integers, and how wide loads and stores are (Core 2.0,
-- sections 2.4.1 and 2.4.7).
use Rattle.std.specs.Prelude.{ℕ}
use Rattle.syntax_trees.specs.declared.module_types.ValType.{ValType}
use Rattle.syntax_trees.specs.declared.module_types.ValType.TheVariants.{I32, I64}
use Rattle.syntax_trees.specs.declared.instr.Width.{Width}
use Rattle.syntax_trees.specs.declared.instr.Width.TheVariants.{W32, W64}
use Rattle.syntax_trees.specs.declared.instr.LoadOp.{LoadOp}
use Rattle.syntax_trees.specs.declared.instr.LoadOp.TheVariants.{I32Load, I64Load, I32Load8S, I32Load8U, I32Load16S, I32Load16U, I64Load8S, I64Load8U, I64Load16S, I64Load16U, I64Load32S, I64Load32U}
use Rattle.syntax_trees.specs.declared.instr.StoreOp.{StoreOp}
use Rattle.syntax_trees.specs.declared.instr.StoreOp.TheVariants.{I32Store, I64Store, I32Store8, I32Store16, I64Store8, I64Store16, I64Store32}

-- the type of integers of a width
abbrev pub integer : Width → ValType
integer W32 = I32
integer W64 = I64

-- what a load gives, and the exponent of the width in bytes of what it reads
abbrev pub load_gives : LoadOp → ValType
load_gives I32Load = I32
load_gives I64Load = I64
load_gives I32Load8S = I32
load_gives I32Load8U = I32
load_gives I32Load16S = I32
load_gives I32Load16U = I32
load_gives I64Load8S = I64
load_gives I64Load8U = I64
load_gives I64Load16S = I64
load_gives I64Load16U = I64
load_gives I64Load32S = I64
load_gives I64Load32U = I64

abbrev pub load_width : LoadOp → ℕ
load_width I32Load = 2
load_width I64Load = 3
load_width I32Load8S = 0
load_width I32Load8U = 0
load_width I32Load16S = 1
load_width I32Load16U = 1
load_width I64Load8S = 0
load_width I64Load8U = 0
load_width I64Load16S = 1
load_width I64Load16U = 1
load_width I64Load32S = 2
load_width I64Load32U = 2

-- what a store takes, and the exponent of the width in bytes of what it writes
abbrev pub store_takes : StoreOp → ValType
store_takes I32Store = I32
store_takes I64Store = I64
store_takes I32Store8 = I32
store_takes I32Store16 = I32
store_takes I64Store8 = I64
store_takes I64Store16 = I64
store_takes I64Store32 = I64

abbrev pub store_width : StoreOp → ℕ
store_width I32Store = 2
store_width I64Store = 3
store_width I32Store8 = 0
store_width I32Store16 = 1
store_width I64Store8 = 0
store_width I64Store16 = 1
store_width I64Store32 = 2
