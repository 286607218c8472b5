-- Core code stays within instances that call only one another's functions.
use Rattle.std.proofs.Common.{◌≡◌, ℕ, zero, suc, nat_le, List, [], ◌∷◌, length, refl, Option, Some, None}
use Rattle.std.specs.List.{slice_get, AllByRecursion}
use Rattle.std.specs.Option.{option_map}
use Rattle.syntax_trees.specs.declared.module_types.FuncType.{FuncType}
use Rattle.syntax_trees.specs.declared.module_types.Locals.{Locals}
use Rattle.syntax_trees.specs.declared.instr.BlockType.{BlockType}
use Rattle.syntax_trees.specs.declared.instr.Instr.{Instr}
use Rattle.syntax_trees.specs.declared.instr.Instr.TheVariants as instr
use Rattle.syntax_trees.specs.Expr.{Expr, End, Plain, Block, Loop, If, IfElse}
use Rattle.wasm_store.specs.Store.{Function, Own, Host, type_of, Table, Instance, Store, found_at, table_at}
use Rattle.wasm_store.specs.Stack.{Label, Frame, Stack, Running, AtHost, Given}
use Rattle.wasm_store.specs.Effects.{Effect, Leaves, Fails, NoRule, effect}
use Rattle.wasm_store.specs.Step.{Move, Goes, Calls, Ends, Traps, Stuck, ended, branched_to, branched_if, branched_by, table_label, frame_limit, invoked, called, same_signature, called_as, called_entry, called_through, by_effect, moved, chosen, move_at, move_in, next}
use Rattle.wasm_store.proofs.Lists.{if_both, found_there}

module _ (P Q H : ℕ → Type 0) where
  -- A stack runs code of such instances, or is at a call of such a function of the host.
  abbrev pub StackWithin : Stack → Type 0
  StackWithin (Running f fs) = P f.instance × AllByRecursion (λ waits. P waits.instance) fs
  StackWithin (AtHost address words) = H address
  StackWithin (Given words) = Unit {0}

  abbrev pub MoveWithin : Move → Type 0
  MoveWithin (Goes costs t l) = StackWithin l
  MoveWithin (Calls address words l) = H address × StackWithin l
  MoveWithin (Ends words) = Unit {0}
  MoveWithin (Traps why) = Unit {0}
  MoveWithin Stuck = Unit {0}

  -- Such instances have such functions, also in tables, and these are of such instances.
  pub record Closed (s : Store) : Type 0 where
    pub hosts : (address : ℕ) (type : FuncType) → Q address → slice_get s.funcs address ≡ Some (Host type) → H address
    pub own : (address : ℕ) (type : FuncType) (instance : ℕ) (locals : List Locals) (body : Expr) → Q address → slice_get s.funcs address ≡ Some (Own type instance locals body) → P instance
    pub funcs : (number : ℕ) (i : Instance) (index address : ℕ) → P number → slice_get s.instances number ≡ Some i → slice_get i.funcs index ≡ Some address → Q address
    pub entries : (number : ℕ) (i : Instance) (index at : ℕ) (t : Table) (n address : ℕ) → P number → slice_get s.instances number ≡ Some i → slice_get i.tables index ≡ Some at
        → slice_get s.tables at ≡ Some t → slice_get t.entries n ≡ Some (Some address) → Q address

  module _ (s : Store) (closed : Closed s) where
    abbrev Waits : List Frame → Type 0
    Waits fs = AllByRecursion (λ (waits : Frame). P waits.instance) fs

    leaving : (e : Effect) (f : Frame) (fs : List Frame) → P f.instance → Waits fs → MoveWithin (by_effect e f fs)
    leaving (Leaves t ls vs) f fs p h = (p, h)
    leaving (Fails why) f fs p h = tt
    leaving NoRule f fs p h = tt

    branch : (o : Option Label) (depth : ℕ) (vs : List ℕ) (f : Frame) (fs : List Frame) → P f.instance → Waits fs → MoveWithin (branched_to o depth vs s f fs)
    branch None depth vs f fs p h = tt
    branch (Some l) depth vs f fs p h = by l.again
      where
        by : (o : Option Expr) → MoveWithin (branched_to (Some (record l { again = o })) depth vs s f fs)
        by None = (p, h)
        by (Some body) = (p, h)

    branch_if : (depth : ℕ) (vs : List ℕ) (f : Frame) (fs : List Frame) → P f.instance → Waits fs → MoveWithin (branched_if depth vs s f fs)
    branch_if depth [] f fs p h = tt
    branch_if depth (zero ∷ vs) f fs p h = (p, h)
    branch_if depth (suc n ∷ vs) f fs p h = branch (slice_get f.labels depth) depth vs f fs p h

    branch_by : (others : List ℕ) (last : ℕ) (vs : List ℕ) (f : Frame) (fs : List Frame) → P f.instance → Waits fs → MoveWithin (branched_by others last vs s f fs)
    branch_by others last [] f fs p h = tt
    branch_by others last (n ∷ vs) f fs p h = branch (slice_get f.labels (table_label (slice_get others n) last)) (table_label (slice_get others n) last) vs f fs p h

    invoke : (address : ℕ) (function : Function) (vs : List ℕ) (f : Frame) (fs : List Frame) → slice_get s.funcs address ≡ Some function → Q address → P f.instance → Waits fs
        → MoveWithin (invoked address function vs s f fs)
    invoke address (Own type instance locals body) vs f fs there q p h =
        if_both MoveWithin (nat_le frame_limit (suc (length fs))) _ _ (λ t. tt) (λ t. (closed.own address type instance locals body q there, (p, h)))
    invoke address (Host type) vs f fs there q p h = (closed.hosts address type q there, (p, h))

    call : (o : Option ℕ) (vs : List ℕ) (f : Frame) (fs : List Frame) → ((address : ℕ) → o ≡ Some address → Q address) → P f.instance → Waits fs → MoveWithin (called (found_at s.funcs o) vs s f fs)
    call o vs f fs q p h = by (found_at s.funcs o) refl
      where
        by : (r : Option (ℕ × Function)) → found_at s.funcs o ≡ r → MoveWithin (called r vs s f fs)
        by None e = tt
        by (Some function) e =
            let there = found_there s.funcs o function e in
            invoke function.0 function.1 vs f fs there.1 (q function.0 there.0) p h

    call_as : (type : FuncType) (address : ℕ) (vs : List ℕ) (f : Frame) (fs : List Frame) → Q address → P f.instance → Waits fs → MoveWithin (called_as type (found_at s.funcs (Some address)) vs s f fs)
    call_as type address vs f fs q p h = by (slice_get s.funcs address) refl
      where
        by : (o : Option Function) → slice_get s.funcs address ≡ o → MoveWithin (called_as type (option_map (λ x. (address, x)) o) vs s f fs)
        by None e = tt
        by (Some function) e = if_both MoveWithin (same_signature type (type_of function)) _ _ (λ t. invoke address function vs f fs e q p h) (λ t. tt)

    entry : (type : FuncType) (o : Option (Option ℕ)) (vs : List ℕ) (f : Frame) (fs : List Frame) → ((address : ℕ) → o ≡ Some (Some address) → Q address) → P f.instance → Waits fs
        → MoveWithin (called_entry type o vs s f fs)
    entry type None vs f fs q p h = tt
    entry type (Some None) vs f fs q p h = tt
    entry type (Some (Some address)) vs f fs q p h = call_as type address vs f fs (q address refl) p h

    through : (o : Option FuncType) (t : Option (ℕ × Table)) (vs : List ℕ) (f : Frame) (fs : List Frame)
        → ((table : ℕ × Table) (n address : ℕ) → t ≡ Some table → slice_get table.1.entries n ≡ Some (Some address) → Q address) → P f.instance → Waits fs → MoveWithin (called_through o t vs s f fs)
    through None t vs f fs q p h = tt
    through (Some type) None vs f fs q p h = tt
    through (Some type) (Some t) [] f fs q p h = tt
    through (Some type) (Some t) (n ∷ vs) f fs q p h = entry type (slice_get t.1.entries n) vs f fs (λ address e. q t n address refl e) p h

    instruction : (x : Instr) (i : Instance) (f : Frame) (fs : List Frame) → slice_get s.instances f.instance ≡ Some i → P f.instance → Waits fs → MoveWithin (moved x i s f fs)
    instruction instr.Unreachable i f fs there p h = tt
    instruction (instr.Br depth) i f fs there p h = branch (slice_get f.labels depth) depth f.values f fs p h
    instruction (instr.BrIf depth) i f fs there p h = branch_if depth f.values f fs p h
    instruction (instr.BrTable others last) i f fs there p h = branch_by others last f.values f fs p h
    instruction instr.Return i f fs there p h = (p, h)
    instruction (instr.Call index) i f fs there p h = call (slice_get i.funcs index) f.values f fs (λ address e. closed.funcs f.instance i index address p there e) p h
    instruction (instr.CallIndirect index table) i f fs there p h =
        through (slice_get i.types index) (table_at table i s) f.values f fs
        (λ t n address e k.
        let at = found_there s.tables (slice_get i.tables table) t e in
        closed.entries f.instance i table t.0 t.1 n address p there at.0 at.1 k) p h
    instruction other i f fs there p h = leaving (effect other i s f.locals f.values) f fs p h

    choose : (t : BlockType) (first second after : Expr) (vs : List ℕ) (i : Instance) (f : Frame) (fs : List Frame) → P f.instance → Waits fs → MoveWithin (chosen t first second after vs i s f fs)
    choose t first second after [] i f fs p h = tt
    choose t first second after (zero ∷ vs) i f fs p h = (p, h)
    choose t first second after (suc n ∷ vs) i f fs p h = (p, h)

    end : (ls : List Label) (f : Frame) (fs : List Frame) → P f.instance → Waits fs → MoveWithin (ended ls s f fs)
    end [] f [] p h = tt
    end [] f (g ∷ fs) p h = h
    end (l ∷ ls) f fs p h = (p, h)

    rest : (e : Expr) (i : Instance) (f : Frame) (fs : List Frame) → slice_get s.instances f.instance ≡ Some i → P f.instance → Waits fs → MoveWithin (move_at e i s f fs)
    rest End i f fs there p h = end f.labels f fs p h
    rest (Plain x e) i f fs there p h = instruction x i (record f { rest = e }) fs there p h
    rest (Block t b e) i f fs there p h = (p, h)
    rest (Loop t b e) i f fs there p h = (p, h)
    rest (If t a e) i f fs there p h = choose t a End e f.values i f fs p h
    rest (IfElse t a b e) i f fs there p h = choose t a b e f.values i f fs p h

    pub next_within : (k : Stack) → StackWithin k → MoveWithin (next s k)
    next_within (Running f fs) h = by (slice_get s.instances f.instance) refl
      where
        by : (o : Option Instance) → slice_get s.instances f.instance ≡ o → MoveWithin (move_in o s f fs)
        by None e = tt
        by (Some i) e = rest f.rest i f fs e h.0 h.1
    next_within (AtHost address words) h = (h, tt)
    next_within (Given words) h = tt
