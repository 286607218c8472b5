-- What an operation in code says of the frame there.
use Rattle.std.proofs.Common.{◌≡◌, ℕ, sym, ◌∙◌, ap, subst, Option, Some, None}
use Rattle.syntax_trees.specs.declared.instr.Instr.{Instr}
use Rattle.syntax_trees.specs.declared.instr.Op.{Op}
use Rattle.syntax_trees.specs.Expr.{Expr, Plain, first_op, left_at}
use Rattle.wasm_store.specs.declared.trap.Trap.{Trap}
use Rattle.wasm_store.specs.Effects.{Effect, Leaves, Fails}
use Rattle.wasm_store.specs.Store.{Store}
use Rattle.std.proofs.Common.{List}
use Rattle.wasm_store.specs.Fits.{Gives}
use Rattle.wasm_execution.specs.Places.{rest_at}
use Rattle.wasm_execution.specs.Stepping.{IsEffect}
use Rattle.wasm_execution.proofs.Placing.{RestOf, rest_of}

-- what is left where this operation was found
pub op_rest : (found op : Op) (at : ℕ) (body seen : Expr) → (let o : Option Op = Some found in o) ≡ first_op (left_at at seen) → found ≡ op → seen ≡ body → RestOf (Some op) (rest_at at body)
op_rest found op at body seen h is same =
    let first : (let o : Option Op = Some op in o) ≡ first_op (left_at at body) =
    ap (λ (x : Op). let o : Option Op = Some x in o) (sym is) ∙ h ∙ ap (λ (e : Expr). first_op (left_at at e)) same in
    rest_of (Some op) at body first

same_instr : (p i : Instr) (e r : Expr) → Plain p e ≡ Plain i r → p ≡ i
same_instr p i e r h = cc

pub effect_there : (p i : Instr) (e r rest : Expr) → rest ≡ Plain p e → rest ≡ Plain i r → IsEffect p → IsEffect i
effect_there p i e r rest h k q = subst IsEffect (same_instr p i e r (sym h ∙ k)) q

pub gave_trap : (s : Store) (e : Effect) (o : Option Trap) (why : Trap) (t : Store) (ls vs : List ℕ) → o ≡ Some why → Gives s e o t ls vs → (e ≡ Fails why) × (t ≡ s)
gave_trap s e o why t ls vs is h = subst (λ (o : Option Trap). Gives s e o t ls vs) is h

pub gave_none : (s : Store) (e : Effect) (o : Option Trap) (t : Store) (ls vs : List ℕ) → o ≡ None → Gives s e o t ls vs → e ≡ Leaves t ls vs
gave_none s e o t ls vs is h = subst (λ (o : Option Trap). Gives s e o t ls vs) is h
