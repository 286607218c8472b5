-- Typing of code, by rules over whole stacks of operands (Core 2.0, section 3.3). The last operand comes first. An operand
-- has a type, or none: the bottom type, which stands for any other one and is found only behind a branch.
use Rattle.std.specs.Prelude.{◌≡◌, ℕ, Bool, false, List, [], ◌∷◌, ◌++◌, map, reverse, Option, Some, None}
use Rattle.std.specs.List.{slice_get, AllByRecursion}
use Rattle.syntax_trees.specs.declared.module_types.ValType.{ValType}
use Rattle.syntax_trees.specs.declared.module_types.ValType.TheVariants.{I32}
use Rattle.syntax_trees.specs.declared.module_types.FuncType.{FuncType}
use Rattle.syntax_trees.specs.declared.instr.BlockType.{BlockType}
use Rattle.syntax_trees.specs.declared.instr.Instr.{Instr}
use Rattle.syntax_trees.specs.declared.instr.Instr.TheVariants as instr
use Rattle.syntax_trees.specs.Expr.{Expr, End, Plain, Block, Loop, If, IfElse}
use Rattle.wasm_typing.specs.Context.{Context, no_block_type, params, results}
use Rattle.wasm_typing.specs.Instrs.{instr_type}

abbrev pub Operands : Type 0
Operands = List (Option ValType)

-- An operand may stand where this type is wanted.
abbrev pub Matches : Option ValType → Option ValType → Type 0
Matches None wanted = Unit {0}
Matches (Some type) wanted = Some type ≡ wanted

abbrev pub AllMatch : Operands → List ValType → Type 0
AllMatch [] [] = Unit {0}
AllMatch [] (type ∷ types) = ⊥
AllMatch (o ∷ os) [] = ⊥
AllMatch (o ∷ os) (type ∷ types) = Matches o (Some type) × AllMatch os types

-- operands of these types, the last one on top
abbrev pub operands_of : List ValType → Operands
operands_of types = map (λ type. Some type) (reverse types)

-- The operands on top match these types, the last one first, and the others are below.
abbrev pub Takes : List ValType → Operands → Operands → Type 0
Takes types os below = (taken : Operands) × (os ≡ taken ++ below) × AllMatch taken types

-- by an instruction of this type
abbrev pub Turns : FuncType → Operands → Operands → Type 0
Turns type os qs = (below : Operands) × Takes (reverse type.params) os below × (qs ≡ operands_of type.results ++ below)

-- the operands on top may go to this label
abbrev pub GoesTo : List (List ValType) → Operands → ℕ → Type 0
GoesTo labels taken label = (types : List ValType) × (slice_get labels label ≡ Some types) × AllMatch taken (reverse types)

-- An instruction turns these operands into those, under the labels of the blocks around it, the innermost first. Behind
-- `unreachable`, `br`, `br_table` and `return` any operands may be.
abbrev pub Applies : Context → List (List ValType) → Instr → Operands → Operands → Type 0
Applies c labels instr.Unreachable os qs = Unit {0}
Applies c labels (instr.Br label) os qs = (types : List ValType) × (slice_get labels label ≡ Some types) × ((below : Operands) × Takes (reverse types) os below)
Applies c labels (instr.BrTable others label) os qs =
    (index : Option ValType) × (taken : Operands) × (below : Operands) × (os ≡ index ∷ (taken ++ below)) × Matches index (Some I32)
    × AllByRecursion (GoesTo labels taken) others × GoesTo labels taken label
Applies c labels instr.Return os qs = (below : Operands) × Takes (reverse c.results) os below
Applies c labels instr.Drop os qs = (o : Option ValType) × (os ≡ o ∷ qs)
Applies c labels instr.Select os qs =
    (test : Option ValType) × (first : Option ValType) × (second : Option ValType) × (type : Option ValType) × (below : Operands) × (os ≡ test ∷ first ∷ second ∷ below) × Matches test (Some I32)
    × Matches first type × Matches second type × (qs ≡ type ∷ below)
Applies c labels i os qs = (type : FuncType) × (instr_type c labels i ≡ Some type) × Turns type os qs

-- the type of a block is not there
abbrev pub no_type : Context → BlockType → Bool
no_type c type = no_block_type c.types type

-- Code turns these operands into those that its end wants.
abbrev pub TypedFrom : Context → List (List ValType) → List ValType → Expr → Operands → Type 0
TypedFrom c labels ends End os = AllMatch os (reverse ends)
TypedFrom c labels ends (Plain i e) os = (qs : Operands) × Applies c labels i os qs × TypedFrom c labels ends e qs
TypedFrom c labels ends (Block t b e) os =
    (no_type c t ≡ false) × ((below : Operands) × Takes (reverse (params c.types t)) os below
    × TypedFrom c (results c.types t ∷ labels) (results c.types t) b (operands_of (params c.types t))
    × TypedFrom c labels ends e (operands_of (results c.types t) ++ below))
TypedFrom c labels ends (Loop t b e) os =
    (no_type c t ≡ false) × ((below : Operands) × Takes (reverse (params c.types t)) os below
    × TypedFrom c (params c.types t ∷ labels) (results c.types t) b (operands_of (params c.types t))
    × TypedFrom c labels ends e (operands_of (results c.types t) ++ below))
TypedFrom c labels ends (If t a e) os =
    (no_type c t ≡ false) × ((below : Operands) × Takes (I32 ∷ reverse (params c.types t)) os below
    × TypedFrom c (results c.types t ∷ labels) (results c.types t) a (operands_of (params c.types t))
    × TypedFrom c labels ends e (operands_of (results c.types t) ++ below) × (params c.types t ≡ results c.types t))
TypedFrom c labels ends (IfElse t a b e) os =
    (no_type c t ≡ false) × ((below : Operands) × Takes (I32 ∷ reverse (params c.types t)) os below
    × TypedFrom c (results c.types t ∷ labels) (results c.types t) a (operands_of (params c.types t))
    × TypedFrom c labels ends e (operands_of (results c.types t) ++ below)
    × TypedFrom c (results c.types t ∷ labels) (results c.types t) b (operands_of (params c.types t)))

-- A function's body starts without operands and ends with its results, which are also what a branch to its label wants.
abbrev pub BodyTyped : Context → Expr → Type 0
BodyTyped c e = TypedFrom c (c.results ∷ []) c.results e []
