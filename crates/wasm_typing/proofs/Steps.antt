-- What is known of open blocks, against all the open blocks that it stands for.
use Rattle.std.proofs.Common.{◌≡◌, Bool, true, false, List, [], ◌∷◌, reverse, refl, ap, ap₂, sym, ◌∙◌, subst, Some, None, Option, append-nil}
use Rattle.syntax_trees.specs.declared.module_types.ValType.{ValType}
use Rattle.syntax_trees.specs.declared.module_types.ValType.TheVariants.{I32}
use Rattle.syntax_trees.specs.declared.instr.BlockType.{BlockType}
use Rattle.syntax_trees.specs.declared.instr.Instr.{Instr}
use Rattle.syntax_trees.specs.declared.instr.Op.{Op}
use Rattle.syntax_trees.specs.declared.instr.Op.TheVariants.{Plain as PlainOp, OpenBlock, OpenLoop, OpenIf, Else, End as EndOp}
use Rattle.wasm_typing.specs.declared.block.BlockKind.{BlockKind}
use Rattle.wasm_typing.specs.declared.block.BlockKind.TheVariants as block
use Rattle.wasm_typing.specs.Context.{Context, params, results}
use Rattle.wasm_typing.specs.Typing.{Operands, AllMatch, operands_of, Applies, no_type}
use Rattle.wasm_typing.specs.Faults.{Frame, frame, with, label_of, labels_of, ends_of, closed, Opens, MayEnd, Passes}
use Rattle.wasm_typing.specs.Checking.{Known, Control, labels_in, ends_in, with_known, begun, opened, opened_where, closed_in, if_empty, if_bare, ended, same_type, same_types, may_end, second_part, if_may, step, learn, taken_all}
use Rattle.wasm_typing.proofs.Knowing.{Fits, FitsIn, take_all_down, take_all_up, all_match, takes_down, takes_up, fits_more, fits_less, fits_own, exact_fits, some_fits, learn_down, learn_up, same_is, same_self, cond_both}

abbrev pub FitsAll : List Control → List Frame → Type 0
FitsAll [] [] = Unit {0}
FitsAll [] (f ∷ fs) = ⊥
FitsAll (c ∷ cs) [] = ⊥
FitsAll (c ∷ cs) (f ∷ fs) = (f.kind ≡ c.kind) × (f.type ≡ c.type) × Fits c.known.types c.known.any f.operands × FitsAll cs fs

abbrev pub FitsOpt : Option (List Control) → List Frame → Type 0
FitsOpt None fs = ⊥
FitsOpt (Some cs) fs = FitsAll cs fs

pub same_labels : (x : Context) (cs : List Control) (fs : List Frame) → FitsAll cs fs → labels_of x fs ≡ labels_in x cs
same_labels x [] [] h = refl
same_labels x [] (f ∷ fs) h = absurd h
same_labels x (c ∷ cs) [] h = absurd h
same_labels x (c ∷ cs) (f ∷ fs) h = ap₂ (λ (e : List ValType) (es : List (List ValType)). e ∷ es) (ap₂ (label_of x) h.0 h.1) (same_labels x cs fs h.3)

pub same_ends : (x : Context) (cs : List Control) (fs : List Frame) → FitsAll cs fs → ends_of x fs ≡ ends_in x cs
same_ends x [] [] h = refl
same_ends x [] (f ∷ fs) h = absurd h
same_ends x (c ∷ cs) [] h = absurd h
same_ends x (c ∷ cs) (f ∷ fs) h = ap (results x.types) h.1

pub some_all : (cs : List Control) → (fs : List Frame) × FitsAll cs fs
some_all [] = ([], tt)
some_all (c ∷ cs) =
    let p = some_fits c.known.types c.known.any in
    let q = some_all cs in
    (frame c.kind c.type p.0 ∷ q.0, (refl, refl, p.1, q.1))

with_down : (c : Control) (cs : List Control) (o : Option Known) (qs : Operands) (f : Frame) (fs : List Frame) → FitsAll (c ∷ cs) (f ∷ fs) → FitsIn o qs → FitsOpt (with_known c cs o) (with f qs ∷ fs)
with_down c cs None qs f fs h k = absurd k
with_down c cs (Some kn) qs f fs h k = (h.0, h.1, k, h.3)

opened_down : (new c : Control) (cs : List Control) (o : Option Known) (below : Operands) (made f : Frame) (fs : List Frame) → FitsAll (c ∷ cs) (f ∷ fs) → FitsAll (new ∷ []) (made ∷ []) → FitsIn o below → FitsOpt (opened new c cs o) (made ∷ with f below ∷ fs)
opened_down new c cs None below made f fs h n k = absurd k
opened_down new c cs (Some kn) below made f fs h n k = (n.0, n.1, n.2, (h.0, h.1, k, h.3))

fresh : (x : Context) (kind : BlockKind) (type : BlockType) → FitsAll (begun x kind type ∷ []) (frame kind type (operands_of (params x.types type)) ∷ [])
fresh x kind type = (refl, refl, fits_own (operands_of (params x.types type)), tt)

open_down : (x : Context) (wants : List ValType) (kind : BlockKind) (type : BlockType) (c : Control) (cs : List Control) (f : Frame) (fs gs : List Frame) → FitsAll (c ∷ cs) (f ∷ fs) → Opens x wants kind type f fs gs → FitsOpt (opened_where (no_type x type) (begun x kind type) c cs (taken_all wants (Some c.known))) gs
open_down x wants kind type c cs f fs gs h p =
    let new : Control = begun x kind type in
    let below = takes_down wants c.known f.operands p.1.0 h.2 p.1.1 in
    let whole = opened_down new c cs (taken_all wants (Some c.known)) p.1.0 (frame kind type (operands_of (params x.types type))) f fs h (fresh x kind type) below in
    subst (λ (b : Bool). FitsOpt (opened_where b new c cs (taken_all wants (Some c.known))) gs) (sym p.0) (subst (FitsOpt (opened new c cs (taken_all wants (Some c.known)))) (sym p.1.2) whole)

bare_down_in : (types : Operands) (any : Bool) (cs : List Control) (gs : List Frame) → Fits types any [] → FitsAll cs gs → FitsOpt (if_empty types cs) gs
bare_down_in [] any cs gs h k = k
bare_down_in (t ∷ ts) any cs gs h k = absurd h

bare_down : (o : Option Known) (cs : List Control) (gs : List Frame) → FitsIn o [] → FitsAll cs gs → FitsOpt (if_bare o cs) gs
bare_down None cs gs h k = absurd h
bare_down (Some kn) cs gs h k = bare_down_in kn.types kn.any cs gs h k

bare_up_in : (types : Operands) (any : Bool) (cs : List Control) (gs : List Frame) → FitsOpt (if_empty types cs) gs → Fits types any [] × FitsAll cs gs
bare_up_in [] true cs gs h = (tt, h)
bare_up_in [] false cs gs h = (refl, h)
bare_up_in (t ∷ ts) any cs gs h = absurd h

bare_up : (o : Option Known) (cs : List Control) (gs : List Frame) → FitsOpt (if_bare o cs) gs → FitsIn o [] × FitsAll cs gs
bare_up None cs gs h = absurd h
bare_up (Some kn) cs gs h = bare_up_in kn.types kn.any cs gs h

-- exactly the operands that an end wants
end_down : (x : Context) (c : Control) (f : Frame) → f.type ≡ c.type → Fits c.known.types c.known.any f.operands → AllMatch f.operands (reverse (results x.types f.type)) → FitsIn (taken_all (reverse (results x.types c.type)) (Some c.known)) []
end_down x c f e h m =
    take_all_down (reverse (results x.types c.type)) (Some c.known) f.operands []
    (subst (Fits c.known.types c.known.any) (sym (append-nil f.operands)) h)
    (subst (λ (t : BlockType). AllMatch f.operands (reverse (results x.types t))) e m)

end_up : (x : Context) (c : Control) → FitsIn (taken_all (reverse (results x.types c.type)) (Some c.known)) [] → Fits c.known.types c.known.any (operands_of (results x.types c.type))
end_up x c h =
    subst (Fits c.known.types c.known.any) (append-nil (operands_of (results x.types c.type))) (take_all_up (reverse (results x.types c.type)) (Some c.known) [] h)

closed_down : (ends : List ValType) (cs : List Control) (fs : List Frame) → FitsAll cs fs → FitsAll (closed_in ends cs) (closed ends fs)
closed_down ends [] [] h = tt
closed_down ends [] (f ∷ fs) h = absurd h
closed_down ends (c ∷ cs) [] h = absurd h
closed_down ends (c ∷ cs) (f ∷ fs) h = (h.0, h.1, fits_more (reverse ends) c.known.types c.known.any f.operands h.2, h.3)

closed_up : (ends : List ValType) (cs : List Control) (gs : List Frame) → FitsAll (closed_in ends cs) gs → (fs : List Frame) × FitsAll cs fs × (gs ≡ closed ends fs)
closed_up ends [] [] h = ([], tt, refl)
closed_up ends [] (g ∷ gs) h = absurd h
closed_up ends (c ∷ cs) [] h = absurd h
closed_up ends (c ∷ cs) (g ∷ gs) h =
    let p = fits_less (reverse ends) c.known.types c.known.any g.operands h.2 in
    (with g p.0 ∷ gs, (h.0, h.1, p.2, h.3), ap (λ (os : Operands). with g os ∷ gs) p.1)

own_same : (ss : List ValType) → same_types ss ss ≡ true
own_same [] = refl
own_same (s ∷ ss) = rw (same_self s) (own_same ss)

types_same : (ss ts : List ValType) → ss ≡ ts → same_types ss ts ≡ true
types_same ss ts e = subst (λ (ts : List ValType). same_types ss ts ≡ true) e (own_same ss)

pub same_types_are : (ss ts : List ValType) → same_types ss ts ≡ true → ss ≡ ts
same_types_are [] [] h = refl
same_types_are [] (t ∷ ts) h = cc
same_types_are (s ∷ ss) [] h = cc
same_types_are (s ∷ ss) (t ∷ ts) h = let p = cond_both (same_type s t) (same_types ss ts) h in ap₂ (λ (t : ValType) (ts : List ValType). t ∷ ts) (same_is s t p.0) (same_types_are ss ts p.1)

may_down : (x : Context) (kind : BlockKind) (type : BlockType) → MayEnd x kind type → may_end x kind type ≡ true
may_down x block.Block type h = refl
may_down x block.Loop type h = refl
may_down x block.If type h = types_same (params x.types type) (results x.types type) h

may_up : (x : Context) (kind : BlockKind) (type : BlockType) → may_end x kind type ≡ true → MayEnd x kind type
may_up x block.Block type h = tt
may_up x block.Loop type h = tt
may_up x block.If type h = same_types_are (params x.types type) (results x.types type) h

if_may_up : (b : Bool) (o : Option (List Control)) (gs : List Frame) → FitsOpt (if_may b o) gs → (b ≡ true) × FitsOpt o gs
if_may_up true o gs h = (refl, h)
if_may_up false o gs h = absurd h

-- the second part of an `if` begins
second_down : (x : Context) (c : Control) (cs : List Control) (f : Frame) (fs gs : List Frame) (kind : BlockKind) → block.If ≡ kind → FitsAll (c ∷ cs) (f ∷ fs) → AllMatch f.operands (reverse (results x.types f.type)) → gs ≡ frame block.Block f.type (operands_of (params x.types f.type)) ∷ fs → FitsOpt (second_part x kind c cs) gs
second_down x c cs f fs gs block.Block e h m g = cc
second_down x c cs f fs gs block.Loop e h m g = cc
second_down x c cs f fs gs block.If e h m g =
    let made : FitsAll (begun x block.Block c.type ∷ cs) (frame block.Block c.type (operands_of (params x.types c.type)) ∷ fs) = (refl, refl, fits_own (operands_of (params x.types c.type)), h.3) in
    let to : FitsAll (begun x block.Block c.type ∷ cs) gs = subst (FitsAll (begun x block.Block c.type ∷ cs)) (sym (g ∙ ap (λ (t : BlockType). frame block.Block t (operands_of (params x.types t)) ∷ fs) h.1)) made in
    bare_down (taken_all (reverse (results x.types c.type)) (Some c.known)) (begun x block.Block c.type ∷ cs) gs (end_down x c f h.1 h.2 m) to

close_down : (x : Context) (c : Control) (cs : List Control) (f : Frame) (fs gs : List Frame) → FitsAll (c ∷ cs) (f ∷ fs) → AllMatch f.operands (reverse (results x.types f.type)) → gs ≡ closed (results x.types f.type) fs → MayEnd x f.kind f.type → FitsOpt (if_may (may_end x c.kind c.type) (ended x c (closed_in (results x.types c.type) cs))) gs
close_down x c cs f fs gs h m g may =
    let ends : FitsAll (closed_in (results x.types c.type) cs) gs =
    subst (FitsAll (closed_in (results x.types c.type) cs)) (sym (g ∙ ap (λ (t : BlockType). closed (results x.types t) fs) h.1)) (closed_down (results x.types c.type) cs fs h.3) in
    let there : may_end x c.kind c.type ≡ true = sym (ap₂ (may_end x) h.0 h.1) ∙ may_down x f.kind f.type may in
    subst (λ (b : Bool). FitsOpt (if_may b (ended x c (closed_in (results x.types c.type) cs))) gs) (sym there)
    (bare_down (taken_all (reverse (results x.types c.type)) (Some c.known)) (closed_in (results x.types c.type) cs) gs (end_down x c f h.1 h.2 m) ends)

pub step_down : (x : Context) (op : Op) (cs : List Control) (fs gs : List Frame) → FitsAll cs fs → Passes x op fs gs → FitsOpt (step x op cs) gs
step_down x op [] [] gs h p = absurd p
step_down x op [] (f ∷ fs) gs h p = absurd h
step_down x op (c ∷ cs) [] gs h p = absurd p
step_down x (PlainOp i) (c ∷ cs) (f ∷ fs) gs h p =
    let same = same_labels x (c ∷ cs) (f ∷ fs) h in
    let a : Applies x (labels_in x (c ∷ cs)) i f.operands p.0 = subst (λ (ls : List (List ValType)). Applies x ls i f.operands p.0) same p.1 in
    subst (FitsOpt (step x (PlainOp i) (c ∷ cs))) (sym p.2)
    (with_down c cs (learn x (labels_in x (c ∷ cs)) i c.known) p.0 f fs h (learn_down x (labels_in x (c ∷ cs)) i c.known f.operands p.0 h.2 a))
step_down x (OpenBlock t) (c ∷ cs) (f ∷ fs) gs h p = open_down x (reverse (params x.types t)) block.Block t c cs f fs gs h p
step_down x (OpenLoop t) (c ∷ cs) (f ∷ fs) gs h p = open_down x (reverse (params x.types t)) block.Loop t c cs f fs gs h p
step_down x (OpenIf t) (c ∷ cs) (f ∷ fs) gs h p = open_down x (I32 ∷ reverse (params x.types t)) block.If t c cs f fs gs h p
step_down x Else (c ∷ cs) (f ∷ fs) gs h p = second_down x c cs f fs gs c.kind (sym p.0 ∙ h.0) h p.1 p.2
step_down x EndOp (c ∷ cs) (f ∷ fs) gs h p = close_down x c cs f fs gs h p.0 p.1 p.2

abbrev Before : Context → Op → List Control → List Frame → Type 0
Before x op cs gs = (fs : List Frame) × FitsAll cs fs × Passes x op fs gs

frame_is : (f : Frame) (kind : BlockKind) (type : BlockType) → f.kind ≡ kind → f.type ≡ type → f ≡ frame kind type f.operands
frame_is f kind type a b = ap₂ (λ (k : BlockKind) (t : BlockType). frame k t f.operands) a b

with_up : (x : Context) (i : Instr) (c : Control) (cs : List Control) (o : Option Known) (gs : List Frame) → ((qs : Operands) → FitsIn o qs → (os : Operands) × Fits c.known.types c.known.any os × Applies x (labels_in x (c ∷ cs)) i os qs) → FitsOpt (with_known c cs o) gs → Before x (PlainOp i) (c ∷ cs) gs
with_up x i c cs None gs f h = absurd h
with_up x i c cs (Some kn) [] f h = absurd h
with_up x i c cs (Some kn) (g ∷ gs) f h =
    let p = f g.operands h.2 in
    let same : labels_in x (c ∷ cs) ≡ labels_of x (frame c.kind c.type p.0 ∷ gs) = ap (λ (es : List (List ValType)). label_of x c.kind c.type ∷ es) (sym (same_labels x cs gs h.3)) in
    (frame c.kind c.type p.0 ∷ gs, (refl, refl, p.1, h.3), (g.operands, subst (λ (ls : List (List ValType)). Applies x ls i p.0 g.operands) same p.2, ap (λ (f : Frame). f ∷ gs) (frame_is g c.kind c.type h.0 h.1)))

-- what is known behind the beginning of a block
opened_up : (new c : Control) (cs : List Control) (o : Option Known) (gs : List Frame) → FitsOpt (opened new c cs o) gs → (below : Operands) × (fs : List Frame) × (made : Frame) × FitsIn o below × FitsAll cs fs × FitsAll (new ∷ []) (made ∷ []) × (gs ≡ made ∷ frame c.kind c.type below ∷ fs)
opened_up new c cs None gs h = absurd h
opened_up new c cs (Some kn) [] h = absurd h
opened_up new c cs (Some kn) (g ∷ []) h = absurd h.3
opened_up new c cs (Some kn) (g ∷ f ∷ fs) h =
    (f.operands, fs, g, h.3.2, h.3.3, (h.0, h.1, h.2, tt), ap (λ (f : Frame). g ∷ f ∷ fs) (frame_is f c.kind c.type h.3.0 h.3.1))

where_up : (b : Bool) (new c : Control) (cs : List Control) (o : Option Known) (gs : List Frame) → FitsOpt (opened_where b new c cs o) gs → (b ≡ false) × FitsOpt (opened new c cs o) gs
where_up true new c cs o gs h = absurd h
where_up false new c cs o gs h = (refl, h)

made_is : (x : Context) (kind : BlockKind) (type : BlockType) (made : Frame) → FitsAll (begun x kind type ∷ []) (made ∷ []) → made ≡ frame kind type (operands_of (params x.types type))
made_is x kind type made h = frame_is made kind type h.0 h.1 ∙ ap (λ (os : Operands). frame kind type os) (exact_fits (reverse (params x.types type)) made.operands h.2)

open_up : (x : Context) (wants : List ValType) (kind : BlockKind) (type : BlockType) (c : Control) (cs : List Control) (gs : List Frame) → FitsOpt (opened_where (no_type x type) (begun x kind type) c cs (taken_all wants (Some c.known))) gs → (f : Frame) × (fs : List Frame) × FitsAll (c ∷ cs) (f ∷ fs) × Opens x wants kind type f fs gs
open_up x wants kind type c cs gs h =
    let p = where_up (no_type x type) (begun x kind type) c cs (taken_all wants (Some c.known)) gs h in
    let q = opened_up (begun x kind type) c cs (taken_all wants (Some c.known)) gs p.1 in
    let t = takes_up wants c.known q.0 q.3 in
    let made = made_is x kind type q.2 q.5 in
    (frame c.kind c.type t.0, q.1, (refl, refl, t.1, q.4), (p.0, (q.0, t.2, q.6 ∙ ap (λ (g : Frame). g ∷ frame c.kind c.type q.0 ∷ q.1) made)))

second_up : (x : Context) (kind : BlockKind) (c : Control) (cs : List Control) (gs : List Frame) → FitsOpt (second_part x kind c cs) gs → (kind ≡ block.If) × FitsOpt (ended x c (begun x block.Block c.type ∷ cs)) gs
second_up x block.Block c cs gs h = absurd h
second_up x block.Loop c cs gs h = absurd h
second_up x block.If c cs gs h = (refl, h)

else_up : (x : Context) (c : Control) (cs : List Control) (gs : List Frame) → c.kind ≡ block.If → Fits c.known.types c.known.any (operands_of (results x.types c.type)) → FitsAll (begun x block.Block c.type ∷ cs) gs → Before x Else (c ∷ cs) gs
else_up x c cs [] e own h = absurd h
else_up x c cs (g ∷ gs) e own h =
    (frame c.kind c.type (operands_of (results x.types c.type)) ∷ gs, (refl, refl, own, h.3), (e, all_match (reverse (results x.types c.type)), ap (λ (f : Frame). f ∷ gs) (made_is x block.Block c.type g (h.0, h.1, h.2, tt))))

pub step_up : (x : Context) (op : Op) (cs : List Control) (gs : List Frame) → FitsOpt (step x op cs) gs → Before x op cs gs
step_up x op [] gs h = absurd h
step_up x (PlainOp i) (c ∷ cs) gs h =
    with_up x i c cs (learn x (labels_in x (c ∷ cs)) i c.known) gs (λ qs k. learn_up x (labels_in x (c ∷ cs)) i c.known qs k) h
step_up x (OpenBlock t) (c ∷ cs) gs h = let p = open_up x (reverse (params x.types t)) block.Block t c cs gs h in (p.0 ∷ p.1, p.2, p.3)
step_up x (OpenLoop t) (c ∷ cs) gs h = let p = open_up x (reverse (params x.types t)) block.Loop t c cs gs h in (p.0 ∷ p.1, p.2, p.3)
step_up x (OpenIf t) (c ∷ cs) gs h = let p = open_up x (I32 ∷ reverse (params x.types t)) block.If t c cs gs h in (p.0 ∷ p.1, p.2, p.3)
step_up x Else (c ∷ cs) gs h =
    let p = second_up x c.kind c cs gs h in
    let q = bare_up (taken_all (reverse (results x.types c.type)) (Some c.known)) (begun x block.Block c.type ∷ cs) gs p.1 in
    else_up x c cs gs p.0 (end_up x c q.0) q.1
step_up x EndOp (c ∷ cs) gs h =
    let m = if_may_up (may_end x c.kind c.type) (ended x c (closed_in (results x.types c.type) cs)) gs h in
    let p = bare_up (taken_all (reverse (results x.types c.type)) (Some c.known)) (closed_in (results x.types c.type) cs) gs m.1 in
    let q = closed_up (results x.types c.type) cs gs p.1 in
    (frame c.kind c.type (operands_of (results x.types c.type)) ∷ q.0, (refl, refl, end_up x c p.0, q.1), (all_match (reverse (results x.types c.type)), q.2, may_up x c.kind c.type m.0))
