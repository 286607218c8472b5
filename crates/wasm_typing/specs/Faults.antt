-- The first fault of a body: the first item of its flat code that some operands reach by the rules and none passes.
use Rattle.std.specs.Prelude.{◌≡◌, ◌<◌, ◌⊎◌, ℕ, zero, suc, Bool, true, false, not, ◌||◌, nat_lt, List, [], ◌∷◌, ◌++◌, length, reverse, Option, Some, None, is_none}
use Rattle.std.specs.List.{slice_get, list_any}
use Rattle.syntax_trees.specs.declared.module_types.ValType.{ValType}
use Rattle.syntax_trees.specs.declared.module_types.ValType.TheVariants.{I32}
use Rattle.syntax_trees.specs.declared.module_types.FuncType.{FuncType}
use Rattle.syntax_trees.specs.declared.instr.BlockType.{BlockType}
use Rattle.syntax_trees.specs.declared.instr.Instr.{Instr}
use Rattle.syntax_trees.specs.declared.instr.Instr.TheVariants as instr
use Rattle.syntax_trees.specs.declared.instr.Op.{Op}
use Rattle.syntax_trees.specs.declared.instr.Op.TheVariants.{Plain as PlainOp, OpenBlock, OpenLoop, OpenIf, Else, End as EndOp}
use Rattle.syntax_trees.specs.Expr.{Expr, flat}
use Rattle.wasm_typing.specs.declared.why.ValidWhy.{ValidWhy}
use Rattle.wasm_typing.specs.declared.why.ValidWhy.TheVariants as why
use Rattle.wasm_typing.specs.declared.block.BlockKind.{BlockKind}
use Rattle.wasm_typing.specs.declared.block.BlockKind.TheVariants as block
use Rattle.wasm_typing.specs.Context.{Context, params, results, found_type}
use Rattle.wasm_typing.specs.Instrs.{func_type, has_memory, bad_align, listed_type}
use Rattle.wasm_typing.specs.Typing.{Operands, AllMatch, operands_of, Takes, Applies, no_type}

-- An open block: what it is, its type, and the operands above its floor.
pub record Frame : Type 0 where
  pub kind : BlockKind
  pub type : BlockType
  pub operands : Operands

abbrev pub frame : BlockKind → BlockType → Operands → Frame
frame kind type os = record { kind = kind; type = type; operands = os }

-- the same block with these operands
abbrev pub with : Frame → Operands → Frame
with f os = frame f.kind f.type os

-- what a branch to a block wants: its results, or the parameters of a loop
abbrev pub label_in : List FuncType → BlockKind → BlockType → List ValType
label_in types block.Block type = results types type
label_in types block.Loop type = params types type
label_in types block.If type = results types type

abbrev pub label_of : Context → BlockKind → BlockType → List ValType
label_of c kind type = label_in c.types kind type

-- the types of each label, the innermost first
abbrev pub labels_of : Context → List Frame → List (List ValType)
labels_of c [] = []
labels_of c (f ∷ fs) = label_of c f.kind f.type ∷ labels_of c fs

-- what the innermost end wants
abbrev pub ends_of : Context → List Frame → List ValType
ends_of c [] = []
ends_of c (f ∷ fs) = results c.types f.type

-- A block's end leaves its results in the block around.
abbrev pub closed : List ValType → List Frame → List Frame
closed ends [] = []
closed ends (f ∷ fs) = with f (operands_of ends ++ f.operands) ∷ fs

-- A block takes operands from the block around, and starts with its parameters.
abbrev pub Opens : Context → List ValType → BlockKind → BlockType → Frame → List Frame → List Frame → Type 0
Opens c wants kind type f fs gs =
    (no_type c type ≡ false) × ((below : Operands) × Takes wants f.operands below × (gs ≡ frame kind type (operands_of (params c.types type)) ∷ with f below ∷ fs))

-- An `if` without `else` leaves its parameters.
abbrev pub MayEnd : Context → BlockKind → BlockType → Type 0
MayEnd c block.Block type = Unit {0}
MayEnd c block.Loop type = Unit {0}
MayEnd c block.If type = params c.types type ≡ results c.types type

-- By the rules, an item leads from these open blocks to those.
abbrev pub Passes : Context → Op → List Frame → List Frame → Type 0
Passes c op [] gs = ⊥
Passes c (PlainOp i) (f ∷ fs) gs = (qs : Operands) × Applies c (labels_of c (f ∷ fs)) i f.operands qs × (gs ≡ with f qs ∷ fs)
Passes c (OpenBlock t) (f ∷ fs) gs = Opens c (reverse (params c.types t)) block.Block t f fs gs
Passes c (OpenLoop t) (f ∷ fs) gs = Opens c (reverse (params c.types t)) block.Loop t f fs gs
Passes c (OpenIf t) (f ∷ fs) gs = Opens c (I32 ∷ reverse (params c.types t)) block.If t f fs gs
Passes c Else (f ∷ fs) gs =
    (f.kind ≡ block.If) × AllMatch f.operands (reverse (results c.types f.type)) × (gs ≡ frame block.Block f.type (operands_of (params c.types f.type)) ∷ fs)
Passes c EndOp (f ∷ fs) gs =
    AllMatch f.operands (reverse (results c.types f.type)) × (gs ≡ closed (results c.types f.type) fs) × MayEnd c f.kind f.type

-- what an item makes of some of these
abbrev pub Behind : Context → Op → (List Frame → Type 0) → List Frame → Type 0
Behind c op S gs = (fs : List Frame) × S fs × Passes c op fs gs

-- From some of these, the rules type the first k items, and give those.
abbrev pub ReachFrom : Context → (List Frame → Type 0) → List Op → ℕ → List Frame → Type 0
ReachFrom c S ops zero gs = S gs
ReachFrom c S [] (suc k) gs = ⊥
ReachFrom c S (op ∷ ops) (suc k) gs = ReachFrom c (Behind c op S) ops k gs

-- an index of nothing that is there
abbrev pub bad_index_in : Context → Instr → Bool
bad_index_in c (instr.Call index) = is_none (func_type c index)
bad_index_in c (instr.CallIndirect index table) = is_none (slice_get c.types index) || not (nat_lt table c.tables)
bad_index_in c (instr.LocalGet index) = is_none (slice_get c.locals index)
bad_index_in c (instr.LocalSet index) = is_none (slice_get c.locals index)
bad_index_in c (instr.LocalTee index) = is_none (slice_get c.locals index)
bad_index_in c (instr.GlobalGet index) = is_none (slice_get c.globals index)
bad_index_in c (instr.GlobalSet index) = is_none (slice_get c.globals index)
bad_index_in c (instr.Load op arg) = not (has_memory c)
bad_index_in c (instr.Store op arg) = not (has_memory c)
bad_index_in c instr.MemorySize = not (has_memory c)
bad_index_in c instr.MemoryGrow = not (has_memory c)
bad_index_in c instr.MemoryCopy = not (has_memory c)
bad_index_in c instr.MemoryFill = not (has_memory c)
bad_index_in c _ = false

abbrev pub bad_index : Context → Op → Bool
bad_index c (PlainOp i) = bad_index_in c i
bad_index c (OpenBlock t) = no_type c t
bad_index c (OpenLoop t) = no_type c t
bad_index c (OpenIf t) = no_type c t
bad_index c Else = false
bad_index c EndOp = false

-- a label of no block
abbrev pub no_label : List (List ValType) → ℕ → Bool
no_label labels label = is_none (slice_get labels label)

abbrev pub bad_label_in : List (List ValType) → Instr → Bool
bad_label_in labels (instr.Br label) = no_label labels label
bad_label_in labels (instr.BrIf label) = no_label labels label
bad_label_in labels (instr.BrTable others label) = list_any (no_label labels) others || no_label labels label
bad_label_in labels _ = false

abbrev pub bad_label : List (List ValType) → Op → Bool
bad_label labels (PlainOp i) = bad_label_in labels i
bad_label labels _ = false

-- an alignment above that of what is read or written
abbrev pub misaligned : Op → Bool
misaligned (PlainOp i) = bad_align i
misaligned _ = false

abbrev pub found_label : Option (List ValType) → List ValType
found_label None = []
found_label (Some types) = types

-- how many operands an instruction wants: `br_table` those of its last label and one
abbrev pub need_in : Context → List (List ValType) → Instr → ℕ
need_in c labels instr.Unreachable = 0
need_in c labels (instr.Br label) = length (found_label (slice_get labels label))
need_in c labels (instr.BrTable others label) = suc (length (found_label (slice_get labels label)))
need_in c labels instr.Return = length c.results
need_in c labels instr.Drop = 1
need_in c labels instr.Select = 3
need_in c labels i = length (found_type (listed_type c labels i)).params

-- how many operands an item wants
abbrev pub need : Context → List (List ValType) → List ValType → Op → ℕ
need c labels ends (PlainOp i) = need_in c labels i
need c labels ends (OpenBlock t) = length (params c.types t)
need c labels ends (OpenLoop t) = length (params c.types t)
need c labels ends (OpenIf t) = suc (length (params c.types t))
need c labels ends Else = length ends
need c labels ends EndOp = length ends

-- fewer operands than so many above the block's floor
abbrev pub TooShort : ℕ → List Frame → Type 0
TooShort n [] = ⊥
TooShort n (f ∷ fs) = length f.operands < n

-- An `if` without `else` has an empty second part, which ends with the operands that it begins with: the parameters. They
-- are fewer than the results.
abbrev pub short_second : Context → BlockKind → BlockType → Bool
short_second c block.Block type = false
short_second c block.Loop type = false
short_second c block.If type = nat_lt (length (params c.types type)) (length (results c.types type))

-- Such an `if` ends here.
abbrev pub ends_short : Context → Op → BlockKind → BlockType → Bool
ends_short c (PlainOp i) kind type = false
ends_short c (OpenBlock t) kind type = false
ends_short c (OpenLoop t) kind type = false
ends_short c (OpenIf t) kind type = false
ends_short c Else kind type = false
ends_short c EndOp kind type = short_second c kind type

abbrev pub second_of : Context → Op → List Frame → Bool
second_of c op [] = false
second_of c op (f ∷ fs) = ends_short c op f.kind f.type

-- There are fewer operands than an item wants: above the floor, or at the end of an empty second part.
abbrev pub Lacks : Context → Op → List Frame → Type 0
Lacks c op fs = TooShort (need c (labels_of c fs) (ends_of c fs) op) fs ⊎ (second_of c op fs ≡ true)

-- Why an item stops all of these. Each reason stands behind those before it.
abbrev pub WhyIs : Context → Op → (List Frame → Type 0) → ValidWhy → Type 0
WhyIs c op S why.Index = bad_index c op ≡ true
WhyIs c op S why.Label = (bad_index c op ≡ false) × ((fs : List Frame) → S fs → bad_label (labels_of c fs) op ≡ true)
WhyIs c op S why.Align = (bad_index c op ≡ false) × ((fs : List Frame) → S fs → bad_label (labels_of c fs) op ≡ false) × (misaligned op ≡ true)
WhyIs c op S why.Stack =
    (bad_index c op ≡ false) × ((fs : List Frame) → S fs → bad_label (labels_of c fs) op ≡ false) × (misaligned op ≡ false)
    × ((fs : List Frame) → S fs → Lacks c op fs)
WhyIs c op S why.Typing =
    (bad_index c op ≡ false) × ((fs : List Frame) → S fs → bad_label (labels_of c fs) op ≡ false) × (misaligned op ≡ false)
    × ((fs : List Frame) × S fs × (Lacks c op fs → ⊥))
WhyIs c op S why.Name = ⊥
WhyIs c op S why.Limit = ⊥

-- Some reach item k, none passes it, and why.
abbrev pub StopsFrom : Context → (List Frame → Type 0) → List Op → ℕ → ValidWhy → Type 0
StopsFrom c S ops k why =
    (op : Op) × (slice_get ops k ≡ Some op)
    × ((fs : List Frame) × ReachFrom c S ops k fs)
    × ((fs gs : List Frame) → ReachFrom c S ops k fs → Passes c op fs gs → ⊥)
    × WhyIs c op (ReachFrom c S ops k) why

-- where a body begins, whose type has this index
abbrev pub start : BlockType → List Frame → Type 0
start type fs = fs ≡ frame block.Block type [] ∷ []

-- The first item of a body that the rules don't get past, and why.
abbrev pub BodyStops : Context → BlockType → Expr → ℕ → ValidWhy → Type 0
BodyStops c type e k why = StopsFrom c (start type) (flat e) k why
