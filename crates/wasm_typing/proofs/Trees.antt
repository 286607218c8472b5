-- The rules of trees, against those of flat code.
use Rattle.std.proofs.Common.{◌≡◌, ℕ, Bool, true, false, List, [], ◌∷◌, ◌++◌, length, reverse, refl, ap, sym, ◌∙◌, subst, Some, None}
use Rattle.std.specs.Prelude.{◌↔◌}
use Rattle.syntax_trees.specs.declared.module_types.ValType.{ValType}
use Rattle.syntax_trees.specs.declared.instr.BlockType.{BlockType}
use Rattle.syntax_trees.specs.declared.instr.Op.{Op}
use Rattle.syntax_trees.specs.declared.instr.Op.TheVariants.{Else, End as EndOp}
use Rattle.syntax_trees.specs.Expr.{Expr, End, Plain, Block, Loop, If, IfElse, flat, flat_on, ender}
use Rattle.wasm_typing.specs.declared.why.ValidWhy.{ValidWhy}
use Rattle.wasm_typing.specs.declared.block.BlockKind.{BlockKind}
use Rattle.wasm_typing.specs.declared.block.BlockKind.TheVariants as block
use Rattle.wasm_typing.specs.Context.{Context, params, results}
use Rattle.wasm_typing.specs.Typing.{Operands, AllMatch, operands_of, TypedFrom, BodyTyped}
use Rattle.wasm_typing.specs.Faults.{Frame, frame, with, label_of, labels_of, MayEnd, Passes, Behind, ReachFrom, BodyStops, start}
use Rattle.wasm_typing.specs.Checking.{part_fault, begins, body_fault}
use Rattle.wasm_typing.proofs.Steps.{FitsAll}
use Rattle.wasm_typing.proofs.Law.{Are, Says, sound, complete, whole}

-- All items pass, one after the other.
abbrev Run : Context → List Op → List Frame → List Frame → Type 0
Run x [] fs gs = fs ≡ gs
Run x (op ∷ ops) fs gs = (hs : List Frame) × Passes x op fs hs × Run x ops hs gs

-- the end of a part with these operands, and the operations behind it
abbrev Ends : Context → Bool → List Op → BlockKind → BlockType → List Frame → List Frame → Type 0
Ends x m ops kind type fs gs = (os : Operands) × AllMatch os (reverse (results x.types type)) × Run x (ender m ∷ ops) (frame kind type os ∷ fs) gs

ends_at : (x : Context) (m : Bool) (kind : BlockKind) (type : BlockType) (os : Operands) (fs hs : List Frame) → Passes x (ender m) (frame kind type os ∷ fs) hs → AllMatch os (reverse (results x.types type))
ends_at x true kind type os fs hs p = p.1
ends_at x false kind type os fs hs p = p.0

end_down : (x : Context) (kind : BlockKind) (type : BlockType) (ops : List Op) (f : Frame) (fs gs : List Frame) → Ends x false ops kind type (f ∷ fs) gs → Run x ops (with f (operands_of (results x.types type) ++ f.operands) ∷ fs) gs × MayEnd x kind type
end_down x kind type ops f fs gs r = let p = r.2.1 in (subst (λ (hs : List Frame). Run x ops hs gs) p.1 r.2.2, p.2)

end_up : (x : Context) (kind : BlockKind) (type : BlockType) (ops : List Op) (f : Frame) (fs gs : List Frame) (os : Operands) → AllMatch os (reverse (results x.types type)) → Run x ops (with f (operands_of (results x.types type) ++ f.operands) ∷ fs) gs → MayEnd x kind type → Run x (EndOp ∷ ops) (frame kind type os ∷ f ∷ fs) gs
end_up x kind type ops f fs gs os m r h = (with f (operands_of (results x.types type) ++ f.operands) ∷ fs, (m, refl, h), r)

else_down : (x : Context) (type : BlockType) (ops : List Op) (fs gs : List Frame) → Ends x true ops block.If type fs gs → Run x ops (frame block.Block type (operands_of (params x.types type)) ∷ fs) gs
else_down x type ops fs gs r = subst (λ (hs : List Frame). Run x ops hs gs) r.2.1.2 r.2.2

run_down : (x : Context) (m : Bool) (e : Expr) (ops : List Op) (kind : BlockKind) (type : BlockType) (os : Operands) (fs gs : List Frame) → Run x (flat_on (ender m) e ops) (frame kind type os ∷ fs) gs → TypedFrom x (label_of x kind type ∷ labels_of x fs) (results x.types type) e os × Ends x m ops kind type fs gs
run_down x m End ops kind type os fs gs r =
    let same = ends_at x m kind type os fs r.0 r.1 in
    (same, (os, same, r))
run_down x m (Plain i e) ops kind type os fs gs r =
    let p = r.1 in
    let q = run_down x m e ops kind type p.0 fs gs (subst (λ (hs : List Frame). Run x (flat_on (ender m) e ops) hs gs) p.2 r.2) in
    ((p.0, p.1, q.0), q.1)
run_down x m (Block t b e) ops kind type os fs gs r =
    let p = r.1.1 in
    let f : Frame = frame kind type p.0 in
    let rest : List Op = flat_on (ender m) e ops in
    let b_ = run_down x false b rest block.Block t (operands_of (params x.types t)) (f ∷ fs) gs (subst (λ (hs : List Frame). Run x (flat_on EndOp b rest) hs gs) p.2 r.2) in
    let c_ = end_down x block.Block t rest f fs gs b_.1 in
    let e_ = run_down x m e ops kind type (operands_of (results x.types t) ++ p.0) fs gs c_.0 in
    ((r.1.0, (p.0, p.1, b_.0, e_.0)), e_.1)
run_down x m (Loop t b e) ops kind type os fs gs r =
    let p = r.1.1 in
    let f : Frame = frame kind type p.0 in
    let rest : List Op = flat_on (ender m) e ops in
    let b_ = run_down x false b rest block.Loop t (operands_of (params x.types t)) (f ∷ fs) gs (subst (λ (hs : List Frame). Run x (flat_on EndOp b rest) hs gs) p.2 r.2) in
    let c_ = end_down x block.Loop t rest f fs gs b_.1 in
    let e_ = run_down x m e ops kind type (operands_of (results x.types t) ++ p.0) fs gs c_.0 in
    ((r.1.0, (p.0, p.1, b_.0, e_.0)), e_.1)
run_down x m (If t a e) ops kind type os fs gs r =
    let p = r.1.1 in
    let f : Frame = frame kind type p.0 in
    let rest : List Op = flat_on (ender m) e ops in
    let a_ = run_down x false a rest block.If t (operands_of (params x.types t)) (f ∷ fs) gs (subst (λ (hs : List Frame). Run x (flat_on EndOp a rest) hs gs) p.2 r.2) in
    let c_ = end_down x block.If t rest f fs gs a_.1 in
    let e_ = run_down x m e ops kind type (operands_of (results x.types t) ++ p.0) fs gs c_.0 in
    ((r.1.0, (p.0, p.1, a_.0, e_.0, c_.1)), e_.1)
run_down x m (IfElse t a b e) ops kind type os fs gs r =
    let p = r.1.1 in
    let f : Frame = frame kind type p.0 in
    let rest : List Op = flat_on (ender m) e ops in
    let a_ = run_down x true a (flat_on EndOp b rest) block.If t (operands_of (params x.types t)) (f ∷ fs) gs (subst (λ (hs : List Frame). Run x (flat_on Else a (flat_on EndOp b rest)) hs gs) p.2 r.2) in
    let b_ = run_down x false b rest block.Block t (operands_of (params x.types t)) (f ∷ fs) gs (else_down x t (flat_on EndOp b rest) (f ∷ fs) gs a_.1) in
    let c_ = end_down x block.Block t rest f fs gs b_.1 in
    let e_ = run_down x m e ops kind type (operands_of (results x.types t) ++ p.0) fs gs c_.0 in
    ((r.1.0, (p.0, p.1, a_.0, e_.0, b_.0)), e_.1)

-- the operations behind an end, whatever its operands
abbrev Follows : Context → Bool → List Op → BlockKind → BlockType → List Frame → List Frame → Type 0
Follows x m ops kind type fs gs = (os : Operands) → AllMatch os (reverse (results x.types type)) → Run x (ender m ∷ ops) (frame kind type os ∷ fs) gs

run_up : (x : Context) (m : Bool) (e : Expr) (ops : List Op) (kind : BlockKind) (type : BlockType) (os : Operands) (fs gs : List Frame) → TypedFrom x (label_of x kind type ∷ labels_of x fs) (results x.types type) e os → Follows x m ops kind type fs gs → Run x (flat_on (ender m) e ops) (frame kind type os ∷ fs) gs
run_up x m End ops kind type os fs gs t r = r os t
run_up x m (Plain i e) ops kind type os fs gs t r = (frame kind type t.0 ∷ fs, (t.0, t.1, refl), run_up x m e ops kind type t.0 fs gs t.2 r)
run_up x m (Block ty b e) ops kind type os fs gs t r =
    let p = t.1 in
    let f : Frame = frame kind type p.0 in
    let rest : List Op = flat_on (ender m) e ops in
    let behind : Run x rest (with f (operands_of (results x.types ty) ++ p.0) ∷ fs) gs = run_up x m e ops kind type (operands_of (results x.types ty) ++ p.0) fs gs p.3 r in (
      frame block.Block ty (operands_of (params x.types ty)) ∷ f ∷ fs,
      (t.0, (p.0, p.1, refl)),
      run_up x false b rest block.Block ty (operands_of (params x.types ty)) (f ∷ fs) gs p.2
          (λ os a. end_up x block.Block ty rest f fs gs os a behind tt),
    )
run_up x m (Loop ty b e) ops kind type os fs gs t r =
    let p = t.1 in
    let f : Frame = frame kind type p.0 in
    let rest : List Op = flat_on (ender m) e ops in
    let behind : Run x rest (with f (operands_of (results x.types ty) ++ p.0) ∷ fs) gs = run_up x m e ops kind type (operands_of (results x.types ty) ++ p.0) fs gs p.3 r in (
      frame block.Loop ty (operands_of (params x.types ty)) ∷ f ∷ fs,
      (t.0, (p.0, p.1, refl)),
      run_up x false b rest block.Loop ty (operands_of (params x.types ty)) (f ∷ fs) gs p.2
          (λ os a. end_up x block.Loop ty rest f fs gs os a behind tt),
    )
run_up x m (If ty a e) ops kind type os fs gs t r =
    let p = t.1 in
    let f : Frame = frame kind type p.0 in
    let rest : List Op = flat_on (ender m) e ops in
    let behind : Run x rest (with f (operands_of (results x.types ty) ++ p.0) ∷ fs) gs = run_up x m e ops kind type (operands_of (results x.types ty) ++ p.0) fs gs p.3 r in (
      frame block.If ty (operands_of (params x.types ty)) ∷ f ∷ fs,
      (t.0, (p.0, p.1, refl)),
      run_up x false a rest block.If ty (operands_of (params x.types ty)) (f ∷ fs) gs p.2
          (λ os a. end_up x block.If ty rest f fs gs os a behind p.4),
    )
run_up x m (IfElse ty a b e) ops kind type os fs gs t r =
    let p = t.1 in
    let f : Frame = frame kind type p.0 in
    let rest : List Op = flat_on (ender m) e ops in
    let behind : Run x rest (with f (operands_of (results x.types ty) ++ p.0) ∷ fs) gs = run_up x m e ops kind type (operands_of (results x.types ty) ++ p.0) fs gs p.3 r in
    let begun : Frame = frame block.Block ty (operands_of (params x.types ty)) in
    let second : Run x (flat_on EndOp b rest) (begun ∷ f ∷ fs) gs =
    run_up x false b rest block.Block ty (operands_of (params x.types ty)) (f ∷ fs) gs p.4 (λ os a. end_up x block.Block ty rest f fs gs os a behind tt) in (
      frame block.If ty (operands_of (params x.types ty)) ∷ f ∷ fs,
      (t.0, (p.0, p.1, refl)),
      run_up x true a (flat_on EndOp b rest) block.If ty (operands_of (params x.types ty)) (f ∷ fs) gs p.2
          (λ os a. (begun ∷ f ∷ fs, (refl, a, refl), second)),
    )

reach_run : (x : Context) (S : List Frame → Type 0) (ops : List Op) (gs : List Frame) → ReachFrom x S ops (length ops) gs → (fs : List Frame) × S fs × Run x ops fs gs
reach_run x S [] gs r = (gs, r, refl)
reach_run x S (op ∷ ops) gs r =
    let p = reach_run x (Behind x op S) ops gs r in
    (p.1.0, p.1.1, (p.0, p.1.2, p.2))

run_reach : (x : Context) (S : List Frame → Type 0) (ops : List Op) (fs gs : List Frame) → S fs → Run x ops fs gs → ReachFrom x S ops (length ops) gs
run_reach x S [] fs gs y r = subst S r y
run_reach x S (op ∷ ops) fs gs y r = run_reach x (Behind x op S) ops r.0 gs (fs, y, r.1) r.2

begun_is : (type : BlockType) (fs : List Frame) → FitsAll (begins type) fs → fs ≡ frame block.Block type [] ∷ []
begun_is type [] h = absurd h
begun_is type (f ∷ []) h =
    ap (λ (k : BlockKind). frame k f.type f.operands ∷ []) h.0 ∙ ap (λ (t : BlockType). frame block.Block t f.operands ∷ []) h.1
    ∙ ap (λ (os : Operands). frame block.Block type os ∷ []) h.2
begun_is type (f ∷ g ∷ fs) h = absurd h.3

started : (type : BlockType) → Are (begins type) (start type)
started type = record {
  to = λ fs e. subst (FitsAll (begins type)) (sym e) (refl, refl, refl, tt);
  from = begun_is type;
}

-- a body whose type is that of this index, in the context of its function
whole_typed : (x : Context) (type : BlockType) (e : Expr) (gs : List Frame) → ReachFrom x (start type) (flat e) (length (flat e)) gs → TypedFrom x (results x.types type ∷ []) (results x.types type) e []
whole_typed x type e gs r =
    let p = reach_run x (start type) (flat e) gs r in
    (run_down x false e [] block.Block type [] [] gs (subst (λ (fs : List Frame). Run x (flat e) fs gs) p.1 p.2)).0

typed_whole : (x : Context) (type : BlockType) (e : Expr) → TypedFrom x (results x.types type ∷ []) (results x.types type) e [] → ReachFrom x (start type) (flat e) (length (flat e)) []
typed_whole x type e t =
    run_reach x (start type) (flat e) (frame block.Block type [] ∷ []) [] refl (run_up x false e [] block.Block type [] [] [] t (λ os a. ([], (a, refl, tt), refl)))

-- The check finds no fault exactly in what is typed.
pub typed_law : (x : Context) (type : BlockType) (e : Expr) → results x.types type ≡ x.results → (body_fault x type e ≡ None) ↔ BodyTyped x e
typed_law x type e is = (
  λ h. let s = subst (Says x (start type) (flat e)) h (sound x (flat e) (begins type) (start type) (started type)) in
      subst (λ (ts : List ValType). TypedFrom x (ts ∷ []) ts e []) is (whole_typed x type e s.0 s.1),
  λ t. whole x (flat e) (begins type) (start type) [] (started type) (typed_whole x type e (subst (λ (ts : List ValType). TypedFrom x (ts ∷ []) ts e []) (sym is) t)),
)

-- It finds exactly the first fault.
pub fault_law : (x : Context) (type : BlockType) (e : Expr) (k : ℕ) (w : ValidWhy) → (body_fault x type e ≡ Some (part_fault k w)) ↔ BodyStops x type e k w
fault_law x type e k w = (
  λ h. subst (Says x (start type) (flat e)) h (sound x (flat e) (begins type) (start type) (started type)),
  λ u. complete x (flat e) (begins type) (start type) k w (started type) u,
)
