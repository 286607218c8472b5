-- Execution (Core 2.0, section 4.4): the one move that a stack can make in a store.
use Rattle.std.specs.Prelude.{◌≡◌, ℕ, zero, suc, ◌+◌, nat_le, Bool, true, false, ◌&&◌, if◌then◌else◌, List, [], ◌∷◌, ◌++◌, map, reverse, take, drop, length, Option, Some, None}
use Rattle.std.specs.List.{slice_get}
use Rattle.syntax_trees.specs.declared.module_types.ValType.{ValType}
use Rattle.syntax_trees.specs.declared.module_types.ValType.TheVariants.{I32, I64}
use Rattle.syntax_trees.specs.declared.module_types.FuncType.{FuncType}
use Rattle.syntax_trees.specs.declared.module_types.Locals.{Locals}
use Rattle.syntax_trees.specs.declared.instr.BlockType.{BlockType}
use Rattle.syntax_trees.specs.declared.instr.Instr.{Instr}
use Rattle.syntax_trees.specs.declared.instr.Instr.TheVariants as instr
use Rattle.syntax_trees.specs.Expr.{Expr, End, Plain, Block, Loop, If, IfElse}
use Rattle.syntax_trees.specs.Locals.{declared_locals}
use Rattle.wasm_typing.specs.Context.{params, results}
use Rattle.wasm_store.specs.declared.trap.Trap.{Trap}
use Rattle.wasm_store.specs.declared.trap.Trap.TheVariants.{Unreachable, TableBounds, NullElement, OtherSignature, StackLimit}
use Rattle.wasm_store.specs.Store.{Function, Own, Host, type_of, Table, Instance, Store, found_at, func_at, table_at}
use Rattle.wasm_store.specs.Stack.{Label, Frame, Stack, Running, AtHost, Given}
use Rattle.wasm_store.specs.Effects.{Effect, Leaves, Fails, NoRule, effect}

-- what a stack does next
pub data Move : Type 0 where
  -- It goes on: by an instruction, which costs a unit of fuel, or by an end, which costs none.
  Goes : Bool → Store → Stack → Move
  -- It calls the function of the host at this address with these words, and waits.
  Calls : ℕ → List ℕ → Stack → Move
  -- It ends with these words.
  Ends : List ℕ → Move
  Traps : Trap → Move
  -- No rule applies. No typed stack comes to this.
  Stuck : Move

-- by an instruction
abbrev pub onward : Store → Frame → List Frame → Move
onward s f fs = Goes true s (Running f fs)

-- the frame with more values on top
abbrev pub with_more : List ℕ → Frame → Frame
with_more vs f = record f { values = vs ++ f.values }

-- how many frames a stack may have
abbrev pub frame_limit : ℕ
frame_limit = 512

-- Ends of blocks and of functions (sections 4.4.9 and 4.4.10).

abbrev pub returned : Store → Frame → List Frame → Move
returned s f [] = Ends (reverse f.values)
returned s f (g ∷ fs) = Goes false s (Running (with_more f.values g) fs)

abbrev pub ended : List Label → Store → Frame → List Frame → Move
ended [] s f fs = returned s f fs
ended (l ∷ ls) s f fs = Goes false s (Running (record f { rest = l.after; labels = ls }) fs)

-- Branches, over these values (section 4.4.8). A loop's label stays.

abbrev pub landed : Option Expr → ℕ → Label → List ℕ → Frame → Frame
landed None depth l vs f = record f { values = take l.arity vs ++ l.under; rest = l.after; labels = drop (suc depth) f.labels }
landed (Some body) depth l vs f = record f { values = take l.arity vs ++ l.under; rest = body; labels = drop depth f.labels }

abbrev pub branched_to : Option Label → ℕ → List ℕ → Store → Frame → List Frame → Move
branched_to None depth vs s f fs = Stuck
branched_to (Some l) depth vs s f fs = onward s (landed l.again depth l vs f) fs

abbrev pub branched : ℕ → List ℕ → Store → Frame → List Frame → Move
branched depth vs s f fs = branched_to (slice_get f.labels depth) depth vs s f fs

abbrev pub branched_if : ℕ → List ℕ → Store → Frame → List Frame → Move
branched_if depth [] s f fs = Stuck
branched_if depth (zero ∷ vs) s f fs = onward s (record f { values = vs }) fs
branched_if depth (suc n ∷ vs) s f fs = branched depth vs s f fs

-- the label that a table has at a number, or else the last one
abbrev pub table_label : Option ℕ → ℕ → ℕ
table_label None last = last
table_label (Some depth) last = depth

abbrev pub branched_by : List ℕ → ℕ → List ℕ → Store → Frame → List Frame → Move
branched_by others last [] s f fs = Stuck
branched_by others last (n ∷ vs) s f fs = branched (table_label (slice_get others n) last) vs s f fs

-- to the end of the function, with its results
abbrev pub returning : Frame → Frame
returning f = record f { values = take f.results f.values; rest = End; labels = [] }

-- Calls (sections 4.4.8 and 4.4.10).

-- the frame of a function that begins with these arguments. A branch to its body's label goes to its end
abbrev pub first_frame : FuncType → ℕ → List Locals → Expr → List ℕ → Frame
first_frame type instance locals body args = record {
  instance = instance;
  results = length type.results;
  locals = args ++ map (λ type. 0) (declared_locals locals);
  values = [];
  rest = body;
  labels = record { arity = length type.results; under = []; again = None; after = End } ∷ [];
}

-- the arguments that these values end with, the frame that waits under them
abbrev pub arguments : FuncType → List ℕ → List ℕ
arguments type vs = reverse (take (length type.params) vs)

abbrev pub waiting : FuncType → List ℕ → Frame → Frame
waiting type vs f = record f { values = drop (length type.params) vs }

abbrev pub invoked : ℕ → Function → List ℕ → Store → Frame → List Frame → Move
invoked address (Own type instance locals body) vs s f fs =
    if nat_le frame_limit (suc (length fs)) then Traps StackLimit
    else onward s (first_frame type instance locals body (arguments type vs)) (waiting type vs f ∷ fs)
invoked address (Host type) vs s f fs = Calls address (arguments type vs) (Running (waiting type vs f) fs)

abbrev pub called : Option (ℕ × Function) → List ℕ → Store → Frame → List Frame → Move
called None vs s f fs = Stuck
called (Some function) vs s f fs = invoked function.0 function.1 vs s f fs

abbrev pub same_type : ValType → ValType → Bool
same_type I32 I32 = true
same_type I32 I64 = false
same_type I64 I32 = false
same_type I64 I64 = true

abbrev pub same_types : List ValType → List ValType → Bool
same_types [] [] = true
same_types [] (u ∷ us) = false
same_types (t ∷ ts) [] = false
same_types (t ∷ ts) (u ∷ us) = same_type t u && same_types ts us

abbrev pub same_signature : FuncType → FuncType → Bool
same_signature type other = same_types type.params other.params && same_types type.results other.results

-- through a table, whose entry this is, with a function of this type
abbrev pub called_as : FuncType → Option (ℕ × Function) → List ℕ → Store → Frame → List Frame → Move
called_as type None vs s f fs = Stuck
called_as type (Some function) vs s f fs = if same_signature type (type_of function.1) then invoked function.0 function.1 vs s f fs else Traps OtherSignature

abbrev pub called_entry : FuncType → Option (Option ℕ) → List ℕ → Store → Frame → List Frame → Move
called_entry type None vs s f fs = Traps TableBounds
called_entry type (Some None) vs s f fs = Traps NullElement
called_entry type (Some (Some address)) vs s f fs = called_as type (found_at s.funcs (Some address)) vs s f fs

abbrev pub called_through : Option FuncType → Option (ℕ × Table) → List ℕ → Store → Frame → List Frame → Move
called_through (Some type) (Some t) (n ∷ vs) s f fs = called_entry type (slice_get t.1.entries n) vs s f fs
called_through type t vs s f fs = Stuck

-- by what an instruction makes
abbrev pub by_effect : Effect → Frame → List Frame → Move
by_effect (Leaves s ls vs) f fs = onward s (record f { locals = ls; values = vs }) fs
by_effect (Fails why) f fs = Traps why
by_effect NoRule f fs = Stuck

-- an instruction that holds no others, before what is left of the frame
abbrev pub moved : Instr → Instance → Store → Frame → List Frame → Move
moved instr.Unreachable i s f fs = Traps Unreachable
moved (instr.Br depth) i s f fs = branched depth f.values s f fs
moved (instr.BrIf depth) i s f fs = branched_if depth f.values s f fs
moved (instr.BrTable others last) i s f fs = branched_by others last f.values s f fs
moved instr.Return i s f fs = onward s (returning f) fs
moved (instr.Call index) i s f fs = called (func_at index i s) f.values s f fs
moved (instr.CallIndirect index table) i s f fs = called_through (slice_get i.types index) (table_at table i s) f.values s f fs
moved other i s f fs = by_effect (effect other i s f.locals f.values) f fs

-- Blocks (section 4.4.8).

-- the label of a block or an `if` of a type that begins over these values, and that of a loop
abbrev pub block_label : List FuncType → BlockType → Expr → List ℕ → Label
block_label types t after vs = record { arity = length (results types t); under = drop (length (params types t)) vs; again = None; after = after }

abbrev pub loop_label : List FuncType → BlockType → Expr → Expr → List ℕ → Label
loop_label types t body after vs = record { arity = length (params types t); under = drop (length (params types t)) vs; again = Some body; after = after }

abbrev pub entered : Label → Expr → List ℕ → Store → Frame → List Frame → Move
entered l inside vs s f fs = onward s (record f { values = vs; rest = inside; labels = l ∷ f.labels }) fs

-- the first part of an `if` where the last value is not 0, and else the second
abbrev pub chosen : BlockType → Expr → Expr → Expr → List ℕ → Instance → Store → Frame → List Frame → Move
chosen t first second after [] i s f fs = Stuck
chosen t first second after (zero ∷ vs) i s f fs = entered (block_label i.types t after vs) second vs s f fs
chosen t first second after (suc n ∷ vs) i s f fs = entered (block_label i.types t after vs) first vs s f fs

-- by what is left
abbrev pub move_at : Expr → Instance → Store → Frame → List Frame → Move
move_at End i s f fs = ended f.labels s f fs
move_at (Plain p e) i s f fs = moved p i s (record f { rest = e }) fs
move_at (Block t b e) i s f fs = entered (block_label i.types t e f.values) b f.values s f fs
move_at (Loop t b e) i s f fs = entered (loop_label i.types t b e f.values) b f.values s f fs
move_at (If t a e) i s f fs = chosen t a End e f.values i s f fs
move_at (IfElse t a b e) i s f fs = chosen t a b e f.values i s f fs

abbrev pub move_in : Option Instance → Store → Frame → List Frame → Move
move_in None s f fs = Stuck
move_in (Some i) s f fs = move_at f.rest i s f fs

-- the next move. The answer of a host function alone ends the stack
abbrev pub next : Store → Stack → Move
next s (Running f fs) = move_in (slice_get s.instances f.instance) s f fs
next s (AtHost address words) = Calls address words (Given [])
next s (Given words) = Ends words

-- a stack that waits at a call, with the words that were answered
abbrev pub resume : List ℕ → Stack → Stack
resume words (Running f fs) = Running (with_more (reverse words) f) fs
resume words (AtHost address args) = AtHost address args
resume words (Given none) = Given words

-- a call of a function of the store
abbrev pub start : Function → ℕ → List ℕ → Stack
start (Own type instance locals body) address args = Running (first_frame type instance locals body args) []
start (Host type) address args = AtHost address args

-- what a move costs in units of fuel. A host function alone runs no instruction
abbrev pub units : Bool → ℕ
units true = 1
units false = 0

abbrev pub cost : Stack → Move → ℕ
cost k (Goes costs s l) = units costs
cost (Running f fs) (Calls address words l) = 1
cost k (Calls address words l) = 0
cost k (Ends words) = 0
cost k (Traps why) = 1
cost k Stuck = 0

-- So many moves lead from the one store and stack to the other, for so many units.
abbrev pub Moves : ℕ → ℕ → Store → Stack → Store → Stack → Type 0
Moves zero fuel s k t l = (fuel ≡ 0) × (t ≡ s) × (l ≡ k)
Moves (suc count) fuel s k t l =
    (costs : Bool) × (left : ℕ) × (u : Store) × (m : Stack) × (next s k ≡ Goes costs u m) × (fuel ≡ units costs + left) × Moves count left u m t l

-- Steps lead from the one store and stack to the other, for so many units.
abbrev pub Steps : ℕ → Store → Stack → Store → Stack → Type 0
Steps fuel s k t l = (count : ℕ) × Moves count fuel s k t l
