-- The ends of blocks and of the first parts of `if`, as the checker goes over them.
use Rattle.std.proofs.Common.{◌≡◌, Bool, true, false, List, [], ◌∷◌, ◌++◌, reverse, refl, ap, ap₂, sym, ◌∙◌, subst, Some, None, Option, append-nil}
use Rattle.syntax_trees.specs.declared.module_types.ValType.{ValType}
use Rattle.syntax_trees.specs.declared.instr.BlockType.{BlockType}
use Rattle.wasm_typing.specs.declared.block.BlockKind.{BlockKind}
use Rattle.wasm_typing.specs.declared.block.BlockKind.TheVariants as block
use Rattle.wasm_valid.specs.declared.body.Stepped.TheVariants.{Stops, Goes, Ends}
use Rattle.wasm_typing.specs.Context.{Context, params, results}
use Rattle.wasm_typing.specs.Typing.{Operands, operands_of}
use Rattle.wasm_typing.specs.Checking.{Known, known, Control, control, knowing, begun, closed_in, if_empty, if_bare, ended, may_end, second_part, if_may, taken_all}
use Rattle.wasm_valid.specs.State.{State, Empty, Bare, with_top, GoesOn, Closed, Left, LeftFor}

empty_is : (os : Operands) (s t : State) → Empty os true s t → (os ≡ []) × (t ≡ s)
empty_is [] s t h = (refl, h.1)
empty_is (o ∷ os) s t h = cc

empty_not : (os : Operands) (s t : State) (fs : List Control) → Empty os false s t → if_empty os fs ≡ None
empty_not [] s t fs h = let e = h.0 in cc
empty_not (o ∷ os) s t fs h = refl

-- all operands were taken, and the rest is as it was
pub record AllTaken (o : Option Known) (s t : State) : Type 0 where
  pub bare : (fs : List Control) → if_bare o fs ≡ Some fs
  pub none : t.0.known.types ≡ []
  pub kind : t.0.kind ≡ s.0.kind
  pub type : t.0.type ≡ s.0.type
  pub around : t.1 ≡ s.1

all_taken_on : (k : Known) (s t : State) → k.types ≡ [] → t ≡ with_top k s → AllTaken (Some k) s t
all_taken_on k s t e h = record {
  bare = λ fs. ap (λ (os : Operands). if_empty os fs) e;
  none = ap (λ (t : State). t.0.known.types) h ∙ e;
  kind = ap (λ (t : State). t.0.kind) h;
  type = ap (λ (t : State). t.0.type) h;
  around = ap (λ (t : State). t.1) h;
}

pub all_taken : (o : Option Known) (s t : State) → Bare o true s t → AllTaken o s t
all_taken None s t h = cc
all_taken (Some k) s t h = let p = empty_is k.types (with_top k s) t h in all_taken_on k s t p.0 p.1

pub not_taken : (o : Option Known) (s t : State) (fs : List Control) → Bare o false s t → if_bare o fs ≡ None
not_taken None s t fs h = refl
not_taken (Some k) s t fs h = empty_not k.types (with_top k s) t fs h

pub none_left : (o : Option Known) (s t : State) → Bare o true s t → t.0.known.types ≡ []
none_left o s t h = (all_taken o s t h).none

-- `else`
abbrev Results : Context → State → Option Known
Results c s = taken_all (reverse (results c.types s.0.type)) (Some s.0.known)

else_is : (c : Context) (s : State) → s.0.kind ≡ block.If → second_part c s.0.kind s.0 s.1 ≡ if_bare (Results c s) (begun c block.Block s.0.type ∷ s.1)
else_is c s e = ap (λ (k : BlockKind). second_part c k s.0 s.1) e

pub else_stops : (c : Context) (s t u : State) → s.0.kind ≡ block.If → Bare (Results c s) false s t → GoesOn (second_part c s.0.kind s.0 s.1) false u
else_stops c s t u e h = subst (λ (o : Option (List Control)). GoesOn o false u) (sym (else_is c s e ∙ not_taken (Results c s) s t (begun c block.Block s.0.type ∷ s.1) h)) refl

pub else_goes : (c : Context) (s t u v : State) (ps : List ValType) → s.0.kind ≡ block.If → Bare (Results c s) true s t → u ≡ (control block.Block t.0.type (known [] false), t.1) → ps ≡ params c.types t.0.type → v ≡ with_top (known (operands_of ps ++ u.0.known.types) u.0.known.any) u → GoesOn (second_part c s.0.kind s.0 s.1) true v
else_goes c s t u v ps e h begins p more =
    let a = all_taken (Results c s) s t h in
    let made : v ≡ (begun c block.Block s.0.type, s.1) =
    more
    ∙ ap (λ (u : State). with_top (known (operands_of ps ++ u.0.known.types) u.0.known.any) u) begins
    ∙ ap (λ (os : Operands). (let s : State = (control block.Block t.0.type (known os false), t.1) in s)) (append-nil (operands_of ps) ∙ ap operands_of p)
    ∙ ap₂ (λ (type : BlockType) (fs : List Control). (let s : State = (begun c block.Block type, fs) in s)) a.type a.around in
    subst (λ (o : Option (List Control)). GoesOn o true v) (sym (else_is c s e ∙ a.bare (begun c block.Block s.0.type ∷ s.1))) (refl, made)

-- the end of a block
abbrev Closing : Context → State → Option (List Control)
Closing c s = if_may (may_end c s.0.kind s.0.type) (ended c s.0 (closed_in (results c.types s.0.type) s.1))

closing_is : (c : Context) (s : State) (r : Option (List Control)) → may_end c s.0.kind s.0.type ≡ true → if_bare (Results c s) (closed_in (results c.types s.0.type) s.1) ≡ r → Closing c s ≡ r
closing_is c s r may e = ap (λ (b : Bool). if_may b (ended c s.0 (closed_in (results c.types s.0.type) s.1))) may ∙ e

pub close_stops : (c : Context) (s t u : State) → may_end c s.0.kind s.0.type ≡ true → Bare (Results c s) false s t → Closed (Closing c s) Stops u
close_stops c s t u may h = subst (λ (o : Option (List Control)). Closed o Stops u) (sym (closing_is c s None may (not_taken (Results c s) s t (closed_in (results c.types s.0.type) s.1) h))) refl

left_none : (fs : List Control) (u : State) → LeftFor fs false u → fs ≡ []
left_none [] u h = refl
left_none (f ∷ fs) u h = let e = h.0 in cc

pub close_ends : (c : Context) (s t u v : State) → may_end c s.0.kind s.0.type ≡ true → Bare (Results c s) true s t → Left false t u → Closed (Closing c s) Ends v
close_ends c s t u v may h left =
    let a = all_taken (Results c s) s t h in
    let none : s.1 ≡ [] = sym a.around ∙ left_none t.1 u left in
    let rs : List ValType = results c.types s.0.type in
    subst (λ (o : Option (List Control)). Closed o Ends v) (sym (closing_is c s (Some []) may (a.bare (closed_in rs s.1) ∙ ap (λ (fs : List Control). (let o : Option (List Control) = Some (closed_in rs fs) in o)) none))) refl

left_one : (fs : List Control) (u : State) → LeftFor fs true u → fs ≡ u.0 ∷ u.1
left_one [] u h = cc
left_one (f ∷ fs) u h = ap (λ (u : State). u.0 ∷ u.1) (sym h.1)

pub close_goes : (c : Context) (s t u v : State) (rs : List ValType) → may_end c s.0.kind s.0.type ≡ true → Bare (Results c s) true s t → Left true t u → rs ≡ results c.types s.0.type → v ≡ with_top (known (operands_of rs ++ u.0.known.types) u.0.known.any) u → Closed (Closing c s) Goes v
close_goes c s t u v rs may h left r more =
    let a = all_taken (Results c s) s t h in
    let around : s.1 ≡ u.0 ∷ u.1 = sym a.around ∙ left_one t.1 u left in
    let own : List ValType = results c.types s.0.type in
    let new : Control = knowing u.0 (known (operands_of own ++ u.0.known.types) u.0.known.any) in
    let made : v ≡ (new, u.1) = more ∙ ap (λ (rs : List ValType). with_top (known (operands_of rs ++ u.0.known.types) u.0.known.any) u) r in
    subst (λ (o : Option (List Control)). Closed o Goes v)
    (sym (closing_is c s (Some (new ∷ u.1)) may (a.bare (closed_in own s.1) ∙ ap (λ (fs : List Control). (let o : Option (List Control) = Some (closed_in own fs) in o)) around)))
    (refl, made)
