-- The algorithm for flat code (Core 2.0, appendix "Validation Algorithm"), over what is known of the operands.
use Rattle.std.specs.Prelude.{ℕ, suc, Bool, true, false, cond, ◌==◌, ◌||◌, List, [], ◌∷◌, ◌++◌, length, reverse, Option, Some, None, is_some, nat_lt}
use Rattle.std.specs.List.{slice_get}
use Rattle.syntax_trees.specs.declared.module_types.ValType.{ValType}
use Rattle.syntax_trees.specs.declared.module_types.ValType.TheVariants.{I32}
use Rattle.syntax_trees.specs.declared.module_types.FuncType.{FuncType}
use Rattle.syntax_trees.specs.declared.instr.BlockType.{BlockType}
use Rattle.syntax_trees.specs.declared.instr.Instr.{Instr}
use Rattle.syntax_trees.specs.declared.instr.Instr.TheVariants as instr
use Rattle.syntax_trees.specs.declared.instr.Op.{Op}
use Rattle.syntax_trees.specs.declared.instr.Op.TheVariants.{Plain as PlainOp, OpenBlock, OpenLoop, OpenIf, Else, End as EndOp}
use Rattle.syntax_trees.specs.Expr.{Expr, flat}
pub use Rattle.syntax_trees.specs.SameTypes.{same_type, same_types}
use Rattle.wasm_typing.specs.declared.why.ValidWhy.{ValidWhy}
use Rattle.wasm_typing.specs.declared.why.ValidWhy.TheVariants as why
use Rattle.wasm_typing.specs.declared.fault.PartFault.{PartFault}
use Rattle.wasm_typing.specs.declared.block.BlockKind.{BlockKind}
use Rattle.wasm_typing.specs.declared.block.BlockKind.TheVariants as block
use Rattle.wasm_typing.specs.Context.{Context, params, results}
use Rattle.wasm_typing.specs.Instrs.{instr_type}
use Rattle.wasm_typing.specs.Typing.{Operands, operands_of, no_type}
use Rattle.wasm_typing.specs.Faults.{label_of, bad_index, bad_label, misaligned, need, ends_short}

-- The types of the last operands, where one without a type may be any, and whether any others may lie under them.
pub record Known : Type 0 where
  pub types : Operands
  pub any : Bool

abbrev pub known : Operands → Bool → Known
known types any = record { types = types; any = any }

abbrev pub if_so : Bool → Known → Option Known
if_so true k = Some k
if_so false k = None

-- whether an operand of which this is known may have a type
abbrev pub may_be : Option ValType → ValType → Bool
may_be None type = true
may_be (Some found) type = same_type found type

-- what is left below an operand of a type
abbrev pub taken_of : ValType → Operands → Bool → Option Known
taken_of type [] true = Some (known [] true)
taken_of type [] false = None
taken_of type (first ∷ others) any = if_so (may_be first type) (known others any)

abbrev pub taken : ValType → Known → Option Known
taken type k = taken_of type k.types k.any

abbrev pub taken_all : List ValType → Option Known → Option Known
taken_all types None = None
taken_all [] (Some k) = Some k
taken_all (type ∷ types) (Some k) = taken_all types (taken type k)

abbrev pub given : Operands → Option Known → Option Known
given os None = None
given os (Some k) = Some (known (os ++ k.types) k.any)

-- by an instruction of this type, if it has one
abbrev pub turned : Option FuncType → Known → Option Known
turned None k = None
turned (Some type) k = given (operands_of type.results) (taken_all (reverse type.params) (Some k))

-- behind a branch any operands may be
abbrev pub anything : Option Known → Option Known
anything None = None
anything (Some k) = Some (known [] true)

abbrev pub branched : Option (List ValType) → Option Known → Option Known
branched None k = None
branched (Some types) k = anything (taken_all (reverse types) k)

-- the last operand and what is left below it
abbrev pub popped_of : Operands → Bool → Option (Option ValType × Known)
popped_of [] true = Some (None, known [] true)
popped_of [] false = None
popped_of (first ∷ others) any = Some (first, known others any)

abbrev pub popped : Known → Option (Option ValType × Known)
popped k = popped_of k.types k.any

abbrev pub dropped : Option (Option ValType × Known) → Option Known
dropped None = None
dropped (Some p) = Some p.1

-- `select` gives what both operands may be
abbrev pub if_joined : Bool → ValType → Option (Option ValType)
if_joined true type = Some (Some type)
if_joined false type = None

abbrev pub joined : Option ValType → Option ValType → Option (Option ValType)
joined None second = Some second
joined (Some type) None = Some (Some type)
joined (Some type) (Some other) = if_joined (same_type type other) type

abbrev pub put : Option (Option ValType) → Known → Option Known
put None k = None
put (Some o) k = Some (known (o ∷ k.types) k.any)

abbrev pub select_both : Option ValType → Option (Option ValType × Known) → Option Known
select_both first None = None
select_both first (Some p) = put (joined first p.0) p.1

abbrev pub select_first : Option (Option ValType × Known) → Option Known
select_first None = None
select_first (Some p) = select_both p.0 (popped p.1)

abbrev pub selected : Option Known → Option Known
selected None = None
selected (Some k) = select_first (popped k)

-- whether the last operands may go to a label of so many types
abbrev pub may_go : Option (List ValType) → ℕ → Known → Bool
may_go None count k = false
may_go (Some types) count k = cond (length types == count) (is_some (taken_all (reverse types) (Some k))) false

abbrev pub may_go_all : List (List ValType) → List ℕ → ℕ → Known → Bool
may_go_all labels [] count k = true
may_go_all labels (label ∷ others) count k = cond (may_go (slice_get labels label) count k) (may_go_all labels others count k) false

abbrev pub tabled_at : List (List ValType) → List ℕ → Option (List ValType) → Known → Option Known
tabled_at labels others None k = None
tabled_at labels others (Some types) k = cond (may_go_all labels others (length types) k) (branched (Some types) (Some k)) None

abbrev pub tabled : List (List ValType) → List ℕ → ℕ → Option Known → Option Known
tabled labels others label None = None
tabled labels others label (Some k) = tabled_at labels others (slice_get labels label) k

-- what is known behind an instruction
abbrev pub learn : Context → List (List ValType) → Instr → Known → Option Known
learn c labels instr.Unreachable k = Some (known [] true)
learn c labels (instr.Br label) k = branched (slice_get labels label) (Some k)
learn c labels (instr.BrTable others label) k = tabled labels others label (taken I32 k)
learn c labels instr.Return k = branched (Some c.results) (Some k)
learn c labels instr.Drop k = dropped (popped k)
learn c labels instr.Select k = selected (taken I32 k)
learn c labels i k = turned (instr_type c labels i) k

-- an open block, with what is known of the operands above its floor
pub record Control : Type 0 where
  pub kind : BlockKind
  pub type : BlockType
  pub known : Known

abbrev pub control : BlockKind → BlockType → Known → Control
control kind type k = record { kind = kind; type = type; known = k }

abbrev pub knowing : Control → Known → Control
knowing f k = control f.kind f.type k

abbrev pub labels_in : Context → List Control → List (List ValType)
labels_in c [] = []
labels_in c (f ∷ fs) = label_of c f.kind f.type ∷ labels_in c fs

abbrev pub ends_in : Context → List Control → List ValType
ends_in c [] = []
ends_in c (f ∷ fs) = results c.types f.type

abbrev pub with_known : Control → List Control → Option Known → Option (List Control)
with_known f fs None = None
with_known f fs (Some k) = Some (knowing f k ∷ fs)

-- what is known where a block of a type begins
abbrev pub begun : Context → BlockKind → BlockType → Control
begun c kind type = control kind type (known (operands_of (params c.types type)) false)

abbrev pub opened : Control → Control → List Control → Option Known → Option (List Control)
opened new f fs None = None
opened new f fs (Some k) = Some (new ∷ knowing f k ∷ fs)

abbrev pub opened_where : Bool → Control → Control → List Control → Option Known → Option (List Control)
opened_where true new f fs k = None
opened_where false new f fs k = opened new f fs k

abbrev pub closed_in : List ValType → List Control → List Control
closed_in ends [] = []
closed_in ends (f ∷ fs) = knowing f (known (operands_of ends ++ f.known.types) f.known.any) ∷ fs

abbrev pub if_empty : Operands → List Control → Option (List Control)
if_empty [] fs = Some fs
if_empty (o ∷ os) fs = None

abbrev pub if_bare : Option Known → List Control → Option (List Control)
if_bare None fs = None
if_bare (Some k) fs = if_empty k.types fs

-- what is known where the operands of a block are exactly its results
abbrev pub ended : Context → Control → List Control → Option (List Control)
ended c f fs = if_bare (taken_all (reverse (results c.types f.type)) (Some f.known)) fs

abbrev pub may_end : Context → BlockKind → BlockType → Bool
may_end c block.Block type = true
may_end c block.Loop type = true
may_end c block.If type = same_types (params c.types type) (results c.types type)

abbrev pub second_part : Context → BlockKind → Control → List Control → Option (List Control)
second_part c block.Block f fs = None
second_part c block.Loop f fs = None
second_part c block.If f fs = ended c f (begun c block.Block f.type ∷ fs)

abbrev pub if_may : Bool → Option (List Control) → Option (List Control)
if_may true fs = fs
if_may false fs = None

-- what is known behind an item
abbrev pub step : Context → Op → List Control → Option (List Control)
step c op [] = None
step c (PlainOp i) (f ∷ fs) = with_known f fs (learn c (labels_in c (f ∷ fs)) i f.known)
step c (OpenBlock t) (f ∷ fs) = opened_where (no_type c t) (begun c block.Block t) f fs (taken_all (reverse (params c.types t)) (Some f.known))
step c (OpenLoop t) (f ∷ fs) = opened_where (no_type c t) (begun c block.Loop t) f fs (taken_all (reverse (params c.types t)) (Some f.known))
step c (OpenIf t) (f ∷ fs) = opened_where (no_type c t) (begun c block.If t) f fs (taken_all (I32 ∷ reverse (params c.types t)) (Some f.known))
step c Else (f ∷ fs) = second_part c f.kind f fs
step c EndOp (f ∷ fs) = if_may (may_end c f.kind f.type) (ended c f (closed_in (results c.types f.type) fs))

abbrev pub short_of : ℕ → Bool → Operands → Bool
short_of n true types = false
short_of n false types = nat_lt (length types) n

abbrev pub too_short : ℕ → List Control → Bool
too_short n [] = false
too_short n (f ∷ fs) = short_of n f.known.any f.known.types

abbrev pub why_by : Bool → Bool → Bool → Bool → ValidWhy
why_by true label align short = why.Index
why_by false true align short = why.Label
why_by false false true short = why.Align
why_by false false false true = why.Stack
why_by false false false false = why.Typing

-- whether an `if` ends here whose empty second part has too few operands
abbrev pub second_in : Context → Op → List Control → Bool
second_in c op [] = false
second_in c op (f ∷ fs) = ends_short c op f.kind f.type

abbrev pub lacks : Context → Op → List Control → Bool
lacks c op fs = too_short (need c (labels_in c fs) (ends_in c fs) op) fs || second_in c op fs

abbrev pub why_of : Context → Op → List Control → ValidWhy
why_of c op fs = why_by (bad_index c op) (bad_label (labels_in c fs) op) (misaligned op) (lacks c op fs)

abbrev pub part_fault : ℕ → ValidWhy → PartFault
part_fault at w = record { at = at; why = w }

abbrev pub later : Option PartFault → Option PartFault
later None = None
later (Some f) = Some (part_fault (suc f.at) f.why)

abbrev pub fault_on : ValidWhy → Option (List Control) → (List Control → Option PartFault) → Option PartFault
fault_on w None next = Some (part_fault 0 w)
fault_on w (Some fs) next = later (next fs)

abbrev pub first_fault : Context → List Op → List Control → Option PartFault
first_fault c [] fs = None
first_fault c (op ∷ ops) fs = fault_on (why_of c op fs) (step c op fs) (first_fault c ops)

-- what is known where a body begins, whose type has this index
abbrev pub begins : BlockType → List Control
begins type = control block.Block type (known [] false) ∷ []

-- the first fault of a body: behind how many items of its flat code it stands, and why
abbrev pub body_fault : Context → BlockType → Expr → Option PartFault
body_fault c type e = first_fault c (flat e) (begins type)
