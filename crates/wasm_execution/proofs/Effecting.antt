-- Instructions that leave the blocks and calls around them as they are: what they need is there, and what they make is a move.
use Rattle.std.proofs.Common.{◌≡◌, ℕ, Bool, true, false, List, [], ◌∷◌, ◌++◌, reverse, refl, ap, sym, ◌∙◌, subst, Option, Some}
use Rattle.std.specs.List.{slice_get}
use Rattle.syntax_trees.specs.declared.module_types.ValType.{ValType}
use Rattle.syntax_trees.specs.declared.module_types.ValType.TheVariants.{I32}
use Rattle.syntax_trees.specs.declared.module_types.FuncType.{FuncType}
use Rattle.syntax_trees.specs.declared.instr.Instr.{Instr}
use Rattle.syntax_trees.specs.declared.instr.Instr.TheVariants as instr
use Rattle.syntax_trees.specs.declared.instr.NumericOp.{NumericOp}
use Rattle.syntax_trees.specs.declared.instr.NumericOp.TheVariants.{Eqz, Relation, Unary, Binary, WrapI64, ExtendI32S, ExtendI32U, I64Extend32S}
use Rattle.syntax_trees.specs.declared.instr.Width.TheVariants.{W32, W64}
use Rattle.syntax_trees.specs.Expr.{Expr, Plain}
use Rattle.wasm_typing.specs.Context.{arrow}
use Rattle.wasm_typing.specs.Instrs.{numeric_type, where_there, has_memory, unless, is_forbidden, load_gives, store_takes}
use Rattle.wasm_typing.specs.Typing.{Operands, Takes, Turns, Applies}
use Rattle.wasm_numbers.specs.Types.{operand_types}
use Rattle.wasm_store.specs.declared.trap.Trap.{Trap}
use Rattle.wasm_store.specs.Store.{Instance, Store}
use Rattle.wasm_store.specs.Stack as stack
use Rattle.wasm_store.specs.Effects.{Effect, Leaves, Fails as Failing, NoRule, effect}
use Rattle.wasm_store.specs.Step.{onward, by_effect, moved, next}
use Rattle.wasm_store.specs.Typed.{known, StoreTyped, FrameTyped}
use Rattle.wasm_store.specs.Laws.{MoveTyped}
use Rattle.wasm_store.proofs.Framing.{over_takes}
use Rattle.wasm_store.proofs.Moving.{moves_typed}
use Rattle.wasm_store.specs.Fits.{told_types, BeginWith, Keeps, Fits}
use Rattle.wasm_execution.specs.declared.frame.Frame.{Frame}
use Rattle.wasm_execution.specs.Places.{frame_of, IsPlaced}
use Rattle.wasm_execution.specs.Stepping.{Onward, Fails, IsEffect}
use Rattle.wasm_execution.proofs.Going.{next_at}
use Rattle.wasm_execution.proofs.Ready.{left_typed}
use Rattle.wasm_execution.specs.Shape.{rest_behind}
use Rattle.wasm_execution.proofs.Placing.{Alike, KeepsUnder, relabelled}
use Rattle.wasm_execution.proofs.Typed.{typed_under}

there_some : (b : Bool) (t u : FuncType) → where_there b t ≡ Some u → t ≡ u
there_some true t u h = cc
there_some false t u h = cc

unless_some : (b : Bool) (o : Option FuncType) (u : FuncType) → unless b o ≡ Some u → o ≡ Some u
unless_some true o u h = cc
unless_some false o u h = h

some_type : (t u : FuncType) → (let o : Option FuncType = Some t in o) ≡ Some u → t ≡ u
some_type t u h = cc

numeric_takes : (op : NumericOp) → (numeric_type op).params ≡ operand_types op
numeric_takes (Eqz W32) = refl
numeric_takes (Eqz W64) = refl
numeric_takes (Relation W32 op) = refl
numeric_takes (Relation W64 op) = refl
numeric_takes (Unary W32 op) = refl
numeric_takes (Unary W64 op) = refl
numeric_takes (Binary W32 op) = refl
numeric_takes (Binary W64 op) = refl
numeric_takes WrapI64 = refl
numeric_takes ExtendI32S = refl
numeric_takes ExtendI32U = refl
numeric_takes I64Extend32S = refl

begins : (s : Store) (gives : List ValType) (f : stack.Frame) (h : FrameTyped s [] gives f) (told : List ValType) (type : FuncType) (qs : Operands) → type.params ≡ told → Turns type (known h.own) qs → BeginWith told f.values
begins s gives f h told type qs same turns =
    let takes : Takes (reverse told) (known h.own) turns.0 = subst (λ (ts : List ValType). Takes (reverse ts) (known h.own) turns.0) same turns.1 in
    let p = over_takes (reverse told) h.own h.words f.values h.under turns.0 takes h.typed h.values_are in
    (p.front, p.back ++ h.under, p.values_are, p.ahead)

begins_there : (s : Store) (gives : List ValType) (f : stack.Frame) (h : FrameTyped s [] gives f) (told : List ValType) (b : Bool) (given type : FuncType) (qs : Operands) → given.params ≡ told → where_there b given ≡ Some type → Turns type (known h.own) qs → BeginWith told f.values
begins_there s gives f h told b given type qs same there turns =
    begins s gives f h told type qs (ap (λ (t : FuncType). t.params) (sym (there_some b given type there)) ∙ same) turns

begins_with : (s : Store) (gives : List ValType) (f : stack.Frame) (h : FrameTyped s [] gives f) (p : Instr) (qs : Operands) → Applies h.context h.types p (known h.own) qs → BeginWith (told_types p) f.values
begins_with s gives f h (instr.Load op arg) qs a =
    begins_there s gives f h (I32 ∷ []) (has_memory h.context) (arrow (I32 ∷ []) (load_gives op ∷ [])) a.0 qs refl (unless_some (is_forbidden h.context (instr.Load op arg)) _ a.0 a.1) a.2
begins_with s gives f h (instr.Store op arg) qs a =
    begins_there s gives f h (I32 ∷ store_takes op ∷ []) (has_memory h.context) (arrow (I32 ∷ store_takes op ∷ []) []) a.0 qs refl (unless_some (is_forbidden h.context (instr.Store op arg)) _ a.0 a.1) a.2
begins_with s gives f h instr.MemoryGrow qs a = begins_there s gives f h (I32 ∷ []) (has_memory h.context) (arrow (I32 ∷ []) (I32 ∷ [])) a.0 qs refl a.1 a.2
begins_with s gives f h instr.MemoryCopy qs a = begins_there s gives f h (I32 ∷ I32 ∷ I32 ∷ []) (has_memory h.context) (arrow (I32 ∷ I32 ∷ I32 ∷ []) []) a.0 qs refl a.1 a.2
begins_with s gives f h instr.MemoryFill qs a = begins_there s gives f h (I32 ∷ I32 ∷ I32 ∷ []) (has_memory h.context) (arrow (I32 ∷ I32 ∷ I32 ∷ []) []) a.0 qs refl a.1 a.2
begins_with s gives f h (instr.Numeric op) qs a =
    begins s gives f h (operand_types op) a.0 qs (ap (λ (t : FuncType). t.params) (sym (some_type (numeric_type op) a.0 a.1)) ∙ numeric_takes op) a.2
begins_with s gives f h other qs a = ([], f.values, refl, tt)

-- What such an instruction makes is the frame's move.
effect_moved : (p : Instr) (i : Instance) (s : Store) (f : stack.Frame) (fs : List stack.Frame) → IsEffect p → moved p i s f fs ≡ by_effect (effect p i s f.locals f.values) f fs
effect_moved instr.Unreachable i s f fs q = absurd q
effect_moved (instr.Br depth) i s f fs q = absurd q
effect_moved (instr.BrIf depth) i s f fs q = absurd q
effect_moved (instr.BrTable others last) i s f fs q = absurd q
effect_moved instr.Return i s f fs q = absurd q
effect_moved (instr.Call index) i s f fs q = absurd q
effect_moved (instr.CallIndirect index table) i s f fs q = absurd q
effect_moved other i s f fs q = refl

pub effect_next : (s : Store) (f : stack.Frame) (fs : List stack.Frame) (i : Instance) (p : Instr) (r : Expr) → slice_get s.instances f.instance ≡ Some i → f.rest ≡ Plain p r → IsEffect p → next s (stack.Running f fs) ≡ by_effect (effect p i s f.locals f.values) (record f { rest = r }) fs
effect_next s f fs i p r there is q = next_at s f fs i (Plain p r) there is ∙ effect_moved p i s (record f { rest = r }) fs q

effect_typed : (s : Store) (gives : List ValType) (f : stack.Frame) (i : Instance) (p : Instr) (r : Expr) → StoreTyped s → FrameTyped s [] gives f → slice_get s.instances f.instance ≡ Some i → f.rest ≡ Plain p r → IsEffect p → MoveTyped s gives (by_effect (effect p i s f.locals f.values) (record f { rest = r }) [])
effect_typed s gives f i p r st h there is q =
    subst (MoveTyped s gives) (effect_next s f [] i p r there is q) (moves_typed s gives (stack.Running f []) st (gives, h, refl))

keeps : (s : Store) (gives : List ValType) (e : Effect) (f : stack.Frame) → MoveTyped s gives (by_effect e f []) → Keeps e
keeps s gives (Leaves t ls vs) f h = h.1
keeps s gives (Failing why) f h = tt
keeps s gives NoRule f h = h

-- A typed frame has what such an instruction needs.
pub fits : (s : Store) (gives : List ValType) (f : stack.Frame) (i : Instance) (p : Instr) (r : Expr) → StoreTyped s → FrameTyped s [] gives f → slice_get s.instances f.instance ≡ Some i → f.rest ≡ Plain p r → IsEffect p → Fits p i s f.locals f.values
fits s gives f i p r st h there is q =
    let typed = left_typed s gives f h (Plain p r) is in
    record {
      operands = begins_with s gives f h p typed.0 typed.1;
      keeps = keeps s gives (effect p i s f.locals f.values) (record f { rest = r }) (effect_typed s gives f i p r st h there is q);
    }

-- It leaves the values under the innermost block.
pub effect_keeps : (s t : Store) (gives : List ValType) (f : Frame) (i : Instance) (p : Instr) (r : Expr) (ls operands : List ℕ) → StoreTyped s → FrameTyped s [] gives (frame_of f) → slice_get s.instances f.instance ≡ Some i → (frame_of f).rest ≡ Plain p r → IsEffect p → IsPlaced f → effect p i s f.locals.items (reverse f.operands.items) ≡ Leaves t ls (reverse operands) → KeepsUnder f operands
effect_keeps s t gives f i p r ls operands st h there is q placed e =
    let k = frame_of f in
    let one : MoveTyped s gives (by_effect (Leaves t ls (reverse operands)) (record k { rest = r }) []) =
    subst (λ (e : Effect). MoveTyped s gives (by_effect e (record k { rest = r }) [])) e (effect_typed s gives k i p r st h there is q) in
    typed_under t [] one.2.0 f (record k { rest = r; locals = ls; values = reverse operands }) operands placed one.2.1 refl refl

pub effect_goes : (s t : Store) (f g : stack.Frame) (i : Instance) (p : Instr) (r : Expr) (ls vs : List ℕ) → slice_get s.instances f.instance ≡ Some i → f.rest ≡ Plain p r → IsEffect p → effect p i s f.locals f.values ≡ Leaves t ls vs → g ≡ record f { locals = ls; values = vs; rest = r } → Onward s f t g
effect_goes s t f g i p r ls vs there is q e new fs =
    effect_next s f fs i p r there is q ∙ ap (λ (e : Effect). by_effect e (record f { rest = r }) fs) e ∙ ap (λ (g : stack.Frame). onward t g fs) (sym new)

pub effect_fails : (s : Store) (f : stack.Frame) (i : Instance) (p : Instr) (r : Expr) (why : Trap) → slice_get s.instances f.instance ≡ Some i → f.rest ≡ Plain p r → IsEffect p → effect p i s f.locals f.values ≡ Failing why → Fails s f why
effect_fails s f i p r why there is q e fs =
    effect_next s f fs i p r there is q ∙ ap (λ (e : Effect). by_effect e (record f { rest = r }) fs) e

-- What is there once it was made.
pub record Made (s t : Store) (f m : Frame) (e : Expr) (ls operands : List ℕ) : Type 0 where
  pub placed : IsPlaced m
  pub goes : (n : stack.Frame) → n ≡ record (frame_of m) { rest = rest_behind (frame_of m).rest } → Onward s (frame_of f) t n

pub made : (s t : Store) (gives : List ValType) (f m : Frame) (p : Instr) (r : Expr) → StoreTyped s → (h : FrameTyped s [] gives (frame_of f)) → (frame_of f).rest ≡ Plain p r → IsEffect p → IsPlaced f → Alike f m → m.at ≡ f.at → (i : Instance) → slice_get s.instances f.instance ≡ Some i → effect p i s f.locals.items (reverse f.operands.items) ≡ Leaves t m.locals.items (reverse m.operands.items) → Made s t f m r m.locals.items m.operands.items
made s t gives f m p r st h is q placed alike at i there e =
    let under = effect_keeps s t gives f i p r m.locals.items m.operands.items st h there is q placed e in
    let k = relabelled f m placed alike at under in
    record {
      placed = k.0;
      goes = λ n new.
          let rest : (frame_of m).rest ≡ Plain p r = ap (λ (g : stack.Frame). g.rest) k.1 ∙ is in
          let n_is : n ≡ record (frame_of f) { locals = m.locals.items; values = reverse m.operands.items; rest = r } =
          new ∙ ap (λ (e : Expr). (let g : stack.Frame = record (frame_of m) { rest = rest_behind e } in g)) rest ∙ ap (λ (g : stack.Frame). (let q : stack.Frame = record g { rest = r } in q)) k.1 in
          effect_goes s t (frame_of f) n i p r m.locals.items (reverse m.operands.items) there is q e n_is;
    }
