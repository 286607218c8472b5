-- The state of a checker: the innermost open block, and those around it.
use Rattle.std.specs.Prelude.{◌≡◌, ◌≤◌, ℕ, Bool, true, false, List, [], ◌∷◌, reverse, take, drop, Option, Some, None}
use Rattle.syntax_trees.specs.declared.module_types.ValType.{ValType}
use Rattle.syntax_trees.specs.declared.instr.BlockType.{BlockType}
use Rattle.wasm_typing.specs.declared.block.BlockKind.{BlockKind}
use Rattle.wasm_valid.specs.declared.open_block.OpenBlock.{OpenBlock}
use Rattle.syntax_trees.specs.declared.module_types.FuncType.{FuncType}
use Rattle.wasm_valid.specs.declared.stacking.Access.{Access}
use Rattle.wasm_valid.specs.declared.stacking.Access.TheVariants.{Get, Set, Tee}
use Rattle.wasm_typing.specs.Context.{Context, arrow}
use Rattle.wasm_typing.specs.Typing.{Operands, no_type}
use Rattle.wasm_valid.specs.declared.body.Stepped.{Stepped}
use Rattle.wasm_valid.specs.declared.body.Stepped.TheVariants.{Stops, Goes, Ends}
use Rattle.wasm_typing.specs.Checking.{Known, known, Control, control, knowing, opened_where, begun}

abbrev pub State : Type 0
State = Control × List Control

-- all open blocks
abbrev pub all_of : State → List Control
all_of s = s.0 ∷ s.1

abbrev pub top_of : OpenBlock → Operands → Control
top_of b os = control b.kind b.block_type (known (reverse (drop b.height os)) b.any)

-- open blocks, the innermost first, over the operands of all, the last one last
abbrev pub seen : List OpenBlock → Operands → List Control
seen [] os = []
seen (b ∷ bs) os = top_of b os ∷ seen bs (take b.height os)

-- No block's floor is above those inside, nor above the operands.
abbrev pub Stacked : List OpenBlock → ℕ → Type 0
Stacked [] n = Unit {0}
Stacked (b ∷ bs) n = (b.height ≤ n) × Stacked bs b.height

abbrev pub with_top : Known → State → State
with_top k s = (knowing s.0 k, s.1)

-- the state where something is known, and otherwise a refusal
abbrev pub Turned : Option Known → Bool → State → State → Type 0
Turned None passed s t = passed ≡ false
Turned (Some k) passed s t = (passed ≡ true) × (t ≡ with_top k s)

-- the last operand is taken
abbrev pub Popped : Option (Option ValType × Known) → Option (Option ValType) → State → State → Type 0
Popped None found s t = found ≡ None
Popped (Some p) found s t = (found ≡ Some p.0) × (t ≡ with_top p.1 s)

-- what each open block is, and its type
abbrev pub kinds : List Control → List (BlockKind × BlockType)
kinds [] = []
kinds (c ∷ cs) = (c.kind, c.type) ∷ kinds cs

abbrev pub LeftFor : List Control → Bool → State → Type 0
LeftFor [] passed t = passed ≡ false
LeftFor (c ∷ cs) passed t = (passed ≡ true) × (t ≡ (c, cs))

-- the innermost block is left
abbrev pub Left : Bool → State → State → Type 0
Left passed s t = LeftFor s.1 passed t

-- What is left of the open blocks: nothing is known where the rules don't get past an item, and otherwise whether no block
-- is left.
abbrev pub Closed : Option (List Control) → Stepped → State → Type 0
Closed None stepped t = stepped ≡ Stops
Closed (Some []) stepped t = stepped ≡ Ends
Closed (Some (c ∷ cs)) stepped t = (stepped ≡ Goes) × (t ≡ (c, cs))

-- the same of an item that ends no body
abbrev pub GoesOn : Option (List Control) → Bool → State → Type 0
GoesOn None passed t = passed ≡ false
GoesOn (Some []) passed t = ⊥
GoesOn (Some (c ∷ cs)) passed t = (passed ≡ true) × (t ≡ (c, cs))

-- what is known where a block of a type was opened
abbrev pub opened_in : Context → BlockKind → BlockType → Control → List Control → Option Known → Option (List Control)
opened_in c kind type f fs k = opened_where (no_type c type) (begun c kind type) f fs k

-- Some operands are taken and none is left.
abbrev pub Empty : Operands → Bool → State → State → Type 0
Empty [] bare s t = (bare ≡ true) × (t ≡ s)
Empty (o ∷ os) bare s t = bare ≡ false

abbrev pub Bare : Option Known → Bool → State → State → Type 0
Bare None bare s t = bare ≡ false
Bare (Some k) bare s t = Empty k.types bare (with_top k s) t

-- the type of an instruction that does so with a local of a type
abbrev pub access_type : Access → ValType → FuncType
access_type Get type = arrow [] (type ∷ [])
access_type Set type = arrow (type ∷ []) []
access_type Tee type = arrow (type ∷ []) (type ∷ [])
