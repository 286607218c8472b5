-- Whether operands may be of some types, from the last ones on.
use Rattle.std.proofs.Common.{◌≡◌, ℕ, zero, suc, Bool, true, false, List, [], ◌∷◌, ◌++◌, length, drop, reverse, refl, ap, ap₂, sym, ◌∙◌, subst, Some, None, Option, arith, take, ◌≤◌, ◌+◌, ◌-◌}
use Rattle.std.specs.Prelude.{is_some}
use Rattle.std.proofs.lemmas.List.{reverse-append, length-reverse, length-drop}
use Rattle.syntax_trees.specs.declared.module_types.ValType.{ValType}
use Rattle.syntax_trees.specs.declared.module_types.ValType.TheVariants.{I32}
use Rattle.wasm_typing.specs.Context.{arrow}
use Rattle.wasm_typing.specs.Typing.{Operands, operands_of}
use Rattle.wasm_typing.specs.Checking.{Known, known, control, if_so, may_be, taken, taken_all, given, turned}
use Rattle.wasm_valid.specs.declared.open_block.OpenBlock.{OpenBlock}
use Rattle.wasm_valid.specs.State.{State, Turned, with_top, top_of, seen}
use Rattle.wasm_valid.proofs.Stacks.{top_kept, under_kept}

-- whether operands, the last one last, may end in these types
abbrev pub accepted : List ValType → Operands → Bool → Bool
accepted ts os any = is_some (taken_all (reverse ts) (Some (known (reverse os) any)))

last_first : {A : Type 0} (xs : List A) (x : A) → reverse (xs ++ x ∷ []) ≡ x ∷ reverse xs
last_first xs x = reverse-append xs (x ∷ [])

last_is : (ts ws : List ValType) (os below : Operands) (t : ValType) (o : Option ValType) (any : Bool) → ts ≡ ws ++ t ∷ [] → os ≡ below ++ o ∷ [] → accepted ts os any ≡ is_some (taken_all (reverse ws) (if_so (may_be o t) (known (reverse below) any)))
last_is ts ws os below t o any e f =
    let first : reverse ts ≡ t ∷ reverse ws = ap reverse e ∙ last_first ws t in
    let over : reverse os ≡ o ∷ reverse below = ap reverse f ∙ last_first below o in
    ap₂ (λ (ts : List ValType) (os : Operands). is_some (taken_all ts (Some (known os any)))) first over

pub accept_more : (ts ws : List ValType) (os below : Operands) (t : ValType) (o : Option ValType) (any may w : Bool) → ts ≡ ws ++ t ∷ [] → os ≡ below ++ o ∷ [] → may ≡ may_be o t → may ≡ true → accepted ts os any ≡ w → accepted ws below any ≡ w
accept_more ts ws os below t o any may w e f m so_is whole =
    let so : may_be o t ≡ true = sym m ∙ so_is in
    sym (ap (λ (b : Bool). is_some (taken_all (reverse ws) (if_so b (known (reverse below) any)))) so) ∙ sym (last_is ts ws os below t o any e f) ∙ whole

pub accept_none : (ts ws : List ValType) (os below : Operands) (t : ValType) (o : Option ValType) (any may w : Bool) → ts ≡ ws ++ t ∷ [] → os ≡ below ++ o ∷ [] → may ≡ may_be o t → may ≡ false → accepted ts os any ≡ w → false ≡ w
accept_none ts ws os below t o any may w e f m so_not whole =
    let so : may_be o t ≡ false = sym m ∙ so_not in
    sym (ap (λ (b : Bool). is_some (taken_all (reverse ws) (if_so b (known (reverse below) any)))) so) ∙ sym (last_is ts ws os below t o any e f) ∙ whole

any_all : (ts : List ValType) → taken_all ts (Some (known [] true)) ≡ Some (known [] true)
any_all [] = refl
any_all (t ∷ ts) = any_all ts

empty_is : (ws : List ValType) (t : ValType) (any : Bool) → is_some (taken_all (t ∷ ws) (Some (known [] any))) ≡ any
empty_is ws t true = ap (λ (o : Option Known). is_some o) (any_all ws)
empty_is ws t false = refl

none_there : (os : Operands) → length os ≡ 0 → os ≡ []
none_there [] h = refl
none_there (o ∷ os) h = absurd (omega arith)

pub accept_empty : (ts ws : List ValType) (os : Operands) (t : ValType) (any w : Bool) → ts ≡ ws ++ t ∷ [] → length os ≡ 0 → accepted ts os any ≡ w → any ≡ w
accept_empty ts ws os t any w e f whole =
    let first : reverse ts ≡ t ∷ reverse ws = ap reverse e ∙ last_first ws t in
    let over : reverse os ≡ [] = ap reverse (none_there os f) in
    sym (empty_is (reverse ws) t any) ∙ sym (ap₂ (λ (ts : List ValType) (os : Operands). is_some (taken_all ts (Some (known os any)))) first over) ∙ whole

pub accept_all : (ts : List ValType) (os : Operands) (any w : Bool) → ts ≡ [] → accepted ts os any ≡ w → true ≡ w
accept_all ts os any w e whole = sym (ap (λ (ts : List ValType). accepted ts os any) e) ∙ whole

-- what is left below operands of these types
drop_nil : (n : ℕ) → drop n (let e : Operands = [] in e) ≡ []
drop_nil zero = refl
drop_nil (suc n) = refl

left_so : (ts : List ValType) (b : Bool) (k : Known) → is_some (taken_all ts (if_so b k)) ≡ true → (taken_all ts (if_so b k) ≡ taken_all ts (Some k)) × (is_some (taken_all ts (Some k)) ≡ true)
left_so ts true k h = (refl, h)
left_so ts false k h = cc

pub left_is : (ts : List ValType) (types : Operands) (any : Bool) → is_some (taken_all ts (Some (known types any))) ≡ true → taken_all ts (Some (known types any)) ≡ Some (known (drop (length ts) types) any)
left_is [] types any h = refl
left_is (t ∷ ts) [] true h = any_all ts
left_is (t ∷ ts) [] false h = cc
left_is (t ∷ ts) (o ∷ os) any h =
    let p = left_so ts (may_be o t) (known os any) h in
    p.0 ∙ left_is ts os any p.1

refused_is : (o : Option Known) → is_some o ≡ false → (s t : State) → Turned o false s t
refused_is None h s t = refl
refused_is (Some k) h s t = cc

pub not_taken : (ts : List ValType) (k : Known) (r : Bool) (s t : State) → r ≡ is_some (taken_all ts (Some k)) → r ≡ false → Turned (taken_all ts (Some k)) false s t
not_taken ts k r s t e so_not = refused_is (taken_all ts (Some k)) (sym e ∙ so_not) s t

-- an `i32` above the others
abbrev pub turned_by : Option Known → List ValType → List ValType → Option Known
turned_by None ts rs = None
turned_by (Some k) ts rs = turned (Some (arrow ts rs)) k

turned_in : (o : Option Known) (ts rs : List ValType) → given (operands_of rs) (taken_all (reverse ts) o) ≡ turned_by o ts rs
turned_in None ts rs = refl
turned_in (Some k) ts rs = refl

pub tested : (ts rs : List ValType) (k : Known) → turned (Some (arrow (ts ++ I32 ∷ []) rs)) k ≡ turned_by (taken I32 k) ts rs
tested ts rs k = ap (λ (ts : List ValType). given (operands_of rs) (taken_all ts (Some k))) (last_first ts I32) ∙ turned_in (taken I32 k) ts rs

taken_off_in : (b : OpenBlock) (around : List OpenBlock) (os new : Operands) (ts : List ValType) (left : ℕ) → b.height ≤ length os → left ≡ (length os - b.height) - length ts → new ≡ take (b.height + left) os → is_some (taken_all (reverse ts) (Some (known (reverse (drop b.height os)) b.any))) ≡ true → Turned (taken_all (reverse ts) (Some (known (reverse (drop b.height os)) b.any))) true (top_of b os, seen (reverse around) (take b.height os)) (top_of b new, seen (reverse around) (take b.height new))
taken_off_in b around os new ts left within e f h =
    let n : left ≡ (length os - b.height) - length (reverse ts) = omega (arith, e, length-reverse ts) in
    let kept : reverse (drop b.height new) ≡ drop (length (reverse ts)) (reverse (drop b.height os)) =
    ap (λ (os : Operands). reverse (drop b.height os)) f ∙ top_kept b.height (length (reverse ts)) left os within n in
    let under : take b.height new ≡ take b.height os = ap (take b.height) f ∙ under_kept b.height left os in
    let both : (top_of b new, seen (reverse around) (take b.height new)) ≡ with_top (known (drop (length (reverse ts)) (reverse (drop b.height os))) b.any) (top_of b os, seen (reverse around) (take b.height os)) =
    ap₂ (λ (types under : Operands). (let s : State = (control b.kind b.block_type (known types b.any), seen (reverse around) under) in s)) kept under in
    subst (λ (o : Option Known). Turned o true (top_of b os, seen (reverse around) (take b.height os)) (top_of b new, seen (reverse around) (take b.height new)))
    (sym (left_is (reverse ts) (reverse (drop b.height os)) b.any h)) (refl, both)

-- the last operands are taken, when they may be of these types
pub taken_off : (b : OpenBlock) (around : List OpenBlock) (os new : Operands) (s : State) (ts : List ValType) (n left : ℕ) → s ≡ (top_of b os, seen (reverse around) (take b.height os)) → b.height ≤ length os → n ≡ length s.0.known.types → left ≡ n - length ts → new ≡ take (b.height + left) os → is_some (taken_all (reverse ts) (Some s.0.known)) ≡ true → Turned (taken_all (reverse ts) (Some s.0.known)) true s (top_of b new, seen (reverse around) (take b.height new))
taken_off b around os new s ts n left is within m e f h =
    let P : State → Type 0 = λ s. is_some (taken_all (reverse ts) (Some s.0.known)) ≡ true → Turned (taken_all (reverse ts) (Some s.0.known)) true s (top_of b new, seen (reverse around) (take b.height new)) in
    let count : n ≡ length os - b.height = m ∙ ap (λ (s : State). length s.0.known.types) is ∙ length-reverse (drop b.height os) ∙ length-drop b.height os in
    subst P (sym is) (λ h. taken_off_in b around os new ts left within (omega (arith, count, e)) f h) h
