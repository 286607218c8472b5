-- Small functions in a store, whose runs the laws `examples` have, and a small module.
use Rattle.std.specs.Prelude.{ℕ, zero, suc, ◌+◌, pos, Bool, true, false, List, [], ◌∷◌, map, Option, Some, None, replicate}
use Rattle.syntax_trees.specs.declared.module_types.ValType.TheVariants.{I32}
use Rattle.syntax_trees.specs.declared.module_types.Mutability.TheVariants.{Variable}
use Rattle.syntax_trees.specs.declared.instr.BlockType.TheVariants.{Empty, Value, TypeIndex}
use Rattle.syntax_trees.specs.declared.instr.Instr.TheVariants.{Unreachable, Br, BrIf, BrTable, Return, Call, CallIndirect, Drop, LocalGet, LocalSet, LocalTee, GlobalGet, GlobalSet, Load, Store as StoreInstr, MemoryGrow, MemoryCopy, MemoryFill, Select, I32Const, Numeric}
use Rattle.syntax_trees.specs.declared.instr.NumericOp.TheVariants.{Binary}
use Rattle.syntax_trees.specs.declared.instr.Width.TheVariants.{W32}
use Rattle.syntax_trees.specs.declared.instr.BinaryOp.TheVariants.{Add, Sub, DivS}
use Rattle.syntax_trees.specs.declared.instr.LoadOp.TheVariants.{I32Load, I32Load16U}
use Rattle.syntax_trees.specs.declared.instr.StoreOp.TheVariants.{I32Store}
use Rattle.syntax_trees.specs.declared.instr.ConstInstr.{ConstInstr}
use Rattle.syntax_trees.specs.declared.instr.ConstInstr.TheVariants as const
use Rattle.syntax_trees.specs.declared.module.ImportDesc.TheVariants as import
use Rattle.syntax_trees.specs.declared.module.ElementSegment.{ElementSegment}
use Rattle.syntax_trees.specs.declared.module.ModuleTree.{ModuleTree}
use Rattle.syntax_trees.specs.Expr.{Expr, End, Plain, Block, Loop, If, IfElse}
use Rattle.wasm_typing.specs.Context.{arrow}
use Rattle.wasm_store.specs.Store.{Function, Own, Host, Table, Store}
use Rattle.wasm_store.specs.Stack.{Stack, Running}
use Rattle.wasm_store.specs.Step.{Move, Goes, Calls, next, resume, start, units, first_frame}
use Rattle.wasm_store.specs.Instantiation.{FuncAddress, Instantiation, Makes, SegmentBounds, instance_of, instantiated, start_call}

-- the move that a stack stops at, or that it comes to after so many others, and the units on the way
abbrev pub behind : ℕ → ℕ → Move → ℕ × Move
behind zero fuel move = (fuel, move)
behind (suc count) fuel (Goes costs s k) = behind count (fuel + units costs) (next s k)
behind (suc count) fuel move = (fuel, move)

abbrev add : Expr → Expr
add e = Plain (Numeric (Binary W32 Add)) e

abbrev i32 : ℕ → Expr → Expr
i32 n e = Plain (I32Const (pos n)) e

-- 1 and so on up to a number
abbrev pub sums : Function
sums =
    Own (arrow (I32 ∷ []) (I32 ∷ [])) 0 (record { count = 1; val_type = I32 } ∷ [])
    (Loop Empty
    (Plain (LocalGet 1) (Plain (LocalGet 0) (add (Plain (LocalSet 1) (Plain (LocalGet 0) (i32 1 (Plain (Numeric (Binary W32 Sub)) (Plain (LocalTee 0) (Plain (BrIf 0) End)))))))))
    (Plain (LocalGet 1) End))

-- a branch out of a block, which drops a value of the block and not the one under it
abbrev pub leaves : Function
leaves = Own (arrow [] (I32 ∷ [])) 0 [] (i32 7 (Block (Value I32) (i32 1 (i32 2 (Plain (Br 0) End))) (add End)))

-- a return out of an `if` without `else`, where its operand is not 0
abbrev pub returns : Function
returns = Own (arrow (I32 ∷ []) (I32 ∷ [])) 0 [] (Plain (LocalGet 0) (If Empty (i32 1 (Plain Return End)) (i32 2 End)))

-- a call through the table, of a function from an i32 to an i32
abbrev pub calls : Function
calls = Own (arrow (I32 ∷ []) (I32 ∷ [])) 0 [] (i32 4 (Plain (LocalGet 0) (Plain (CallIndirect 0 0) End)))

-- a call of a function of the host, and a sum of its result
abbrev pub asks : Function
asks = Own (arrow [] (I32 ∷ [])) 0 [] (i32 5 (i32 6 (Plain (Call 4) (add End))))

-- a call of itself
abbrev pub nests : Function
nests = Own (arrow [] []) 0 [] (Plain (Call 6) End)

-- a memory that grows
abbrev pub grows : Function
grows = Own (arrow (I32 ∷ []) (I32 ∷ [])) 0 [] (Plain (LocalGet 0) (Plain MemoryGrow End))

-- one of three ends, by a table of branches
abbrev pub branches : Function
branches =
    Own (arrow (I32 ∷ []) (I32 ∷ [])) 0 []
    (Block Empty
    (Block Empty
    (Block Empty (Plain (LocalGet 0) (Plain (BrTable (0 ∷ 1 ∷ []) 2) End)) (i32 10 (Plain Return End)))
    (i32 11 (Plain Return End)))
    (i32 12 End))

-- A loop with a parameter, over another value. A branch back takes one value along, and drops the two under it.
abbrev pub goes_back : Function
goes_back =
    Own (arrow (I32 ∷ []) (I32 ∷ [])) 0 []
    (i32 100 (Plain (LocalGet 0)
    (Loop (TypeIndex 0)
    (i32 1 (Plain (Numeric (Binary W32 Sub)) (Plain (LocalTee 0) (i32 9 (Plain (LocalGet 0) (Plain (LocalGet 0) (Plain (BrIf 0) (Plain Drop (Plain Drop End)))))))))
    (add End))))

abbrev pub divides : Function
divides = Own (arrow (I32 ∷ I32 ∷ []) (I32 ∷ [])) 0 [] (Plain (LocalGet 0) (Plain (LocalGet 1) (Plain (Numeric (Binary W32 DivS)) End)))

-- a global that is set and read
abbrev pub keeps : Function
keeps = Own (arrow (I32 ∷ []) (I32 ∷ [])) 0 [] (Plain (LocalGet 0) (Plain (GlobalSet 0) (Plain (GlobalGet 0) End)))

-- a store of a number at a place, and a load of two bytes of it
abbrev pub writes : Function
writes =
    Own (arrow (I32 ∷ I32 ∷ []) (I32 ∷ [])) 0 []
    (Plain (LocalGet 0) (Plain (LocalGet 1) (Plain (StoreInstr I32Store (record { align = 2; offset = 0 }))
    (Plain (LocalGet 0) (Plain (Load I32Load16U (record { align = 1; offset = 1 })) End)))))

abbrev pub stops : Function
stops = Own (arrow [] []) 0 [] (i32 1 (Plain Unreachable End))

-- the first of two numbers where its operand is not 0, and else the second; the same by an `if`
abbrev pub selects : Function
selects = Own (arrow (I32 ∷ []) (I32 ∷ [])) 0 [] (i32 7 (i32 8 (Plain (LocalGet 0) (Plain Select End))))

abbrev pub chooses : Function
chooses = Own (arrow (I32 ∷ []) (I32 ∷ [])) 0 [] (Plain (LocalGet 0) (IfElse (Value I32) (i32 1 End) (i32 2 End) End))

-- a load of four bytes
abbrev loads : Expr
loads = Plain (Load I32Load (record { align = 2; offset = 0 })) End

-- two bytes of a number that are copied behind it, and a byte that fills two places
abbrev pub copies : Function
copies =
    Own (arrow [] (I32 ∷ [])) 0 []
    (i32 0 (i32 0x04030201 (Plain (StoreInstr I32Store (record { align = 2; offset = 0 })) (i32 4 (i32 0 (i32 2 (Plain MemoryCopy (i32 4 loads))))))))

abbrev pub fills : Function
fills = Own (arrow [] (I32 ∷ [])) 0 [] (i32 1 (i32 0x1AB (i32 2 (Plain MemoryFill (i32 0 loads)))))

-- a frame that comes to a call of the host
abbrev pub at_call : Stack
at_call = Running (let f = first_frame (arrow [] (I32 ∷ [])) 0 [] (Plain (Call 4) End) [] in record f { values = 6 ∷ [] }) []

-- the call of a function of the host alone
abbrev pub host_alone : Stack
host_alone = start (Host (arrow (I32 ∷ []) (I32 ∷ []))) 4 (9 ∷ [])

-- a store with all of these, a table of one function, a place with none and one of another type, a memory of eight bytes and a global
abbrev pub store : Store
store = record {
  funcs = sums ∷ leaves ∷ returns ∷ calls ∷ Host (arrow (I32 ∷ []) (I32 ∷ [])) ∷ asks ∷ nests ∷ grows ∷ branches ∷ goes_back ∷ divides ∷ keeps ∷ writes ∷ stops ∷ [];
  tables = record { entries = Some 0 ∷ None ∷ Some 1 ∷ []; max = None } ∷ [];
  memories = record { bytes = replicate 8 0; maximum = Some 3 } ∷ [];
  globals = record { type = record { val_type = I32; mutability = Variable }; value = 0 } ∷ [];
  instances = record { types = arrow (I32 ∷ []) (I32 ∷ []) ∷ []; funcs = 0 ∷ 1 ∷ 2 ∷ 3 ∷ 4 ∷ 5 ∷ 6 ∷ 7 ∷ 8 ∷ 9 ∷ 10 ∷ 11 ∷ 12 ∷ 13 ∷ []; tables = 0 ∷ []; memories = 0 ∷ []; globals = 0 ∷ [] } ∷ [];
}

-- what a call of a function ends with, and the units that it took
abbrev pub outcome : Function → ℕ → List ℕ → ℕ × Move
outcome f address args = behind 100 0 (next store (start f address args))

-- a frame of `nests`, and so many others that called it
abbrev pub nested : ℕ → Stack
nested count = Running (first_frame (arrow [] []) 0 [] (Plain (Call 6) End) []) (replicate count (first_frame (arrow [] []) 0 [] End []))

-- what comes behind a call of the host that is answered with these words
abbrev pub answered : List ℕ → Move → ℕ × Move
answered words (Calls address args k) = behind 100 0 (next store (resume words k))
answered words move = (0, move)

-- four bytes of a memory
abbrev pub four : List ℕ
four = 1 ∷ 2 ∷ 3 ∷ 0x84 ∷ []

-- a module with a table of three places and a function, which starts, and segments of so many of it from places on
abbrev const_at : ℕ → List ConstInstr
const_at n = const.I32Const (pos n) ∷ []

abbrev pub segment : ℕ → List ℕ → ElementSegment
segment at funcs = record { table = 0; offset = const_at at; funcs = funcs }

abbrev pub module_of : List ElementSegment → ModuleTree
module_of segments = record {
  types = arrow [] [] ∷ [];
  imports = record { «module» = []; name = []; desc = import.Func 0 } ∷ [];
  funcs = record { type_index = 0; locals = []; body = End } ∷ [];
  tables = record { min = 3; max = None } ∷ [];
  memories = [];
  globals = [];
  exports = [];
  start = Some 1;
  element_segments = segments;
  data_segments = [];
}

-- a store of one function, which the module imports
abbrev pub one : Store
one = record { funcs = Host (arrow [] []) ∷ []; tables = []; memories = []; globals = []; instances = [] }

abbrev pub added : List ElementSegment → Instantiation
added segments = instantiated (module_of segments) (FuncAddress 0 ∷ []) one

-- whether all segments fit, and what the tables have then
abbrev pub written : Instantiation → Bool × List (List (Option ℕ))
written (Makes s) = (true, map (λ (t : Table). t.entries) s.tables)
written (SegmentBounds s) = (false, map (λ (t : Table). t.entries) s.tables)

-- the call of the function that starts
abbrev pub starts : Instantiation → Option Stack
starts (Makes s) = start_call (module_of []) (instance_of (module_of []) (FuncAddress 0 ∷ []) one) s
starts (SegmentBounds s) = None
