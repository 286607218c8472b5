-- What is known of operands, against all the operands that it stands for.
use Rattle.std.proofs.Common.{◌≡◌, ℕ, zero, suc, Bool, true, false, cond, List, [], ◌∷◌, ◌++◌, length, map, reverse, refl, ap, ap₂, sym, ◌∙◌, subst, Some, None, Option, arith}
use Rattle.std.specs.Prelude.{is_some, ◌==◌}
use Rattle.std.proofs.lemmas.Bool.Decides.{nat_tests}
use Rattle.std.specs.List.{slice_get, AllByRecursion}
use Rattle.std.proofs.lemmas.List.{length-reverse}
use Rattle.syntax_trees.specs.declared.module_types.ValType.{ValType}
use Rattle.syntax_trees.specs.declared.module_types.ValType.TheVariants.{I32, I64}
use Rattle.syntax_trees.specs.declared.module_types.FuncType.{FuncType}
use Rattle.syntax_trees.specs.declared.instr.Instr.{Instr}
use Rattle.syntax_trees.specs.declared.instr.Instr.TheVariants as instr
use Rattle.wasm_typing.specs.Context.{Context}
use Rattle.wasm_typing.specs.Instrs.{instr_type}
use Rattle.wasm_typing.specs.Typing.{Operands, Matches, AllMatch, Takes, Turns, GoesTo, Applies}
use Rattle.wasm_typing.specs.Checking.{Known, known, same_type, if_so, may_be, taken_of, taken, taken_all, given, turned, anything, branched, popped_of, popped, dropped, if_joined, joined, put, select_both, select_first, selected, may_go, may_go_all, tabled_at, tabled, learn}

-- an operand of which this is known
abbrev pub Stands : Option ValType → Option ValType → Type 0
Stands None o = Unit {0}
Stands (Some t) o = o ≡ Some t

-- operands of which this is known
abbrev pub Fits : Operands → Bool → Operands → Type 0
Fits [] true os = Unit {0}
Fits [] false os = os ≡ []
Fits (t ∷ ts) any [] = ⊥
Fits (t ∷ ts) any (o ∷ os) = Stands t o × Fits ts any os

abbrev pub FitsIn : Option Known → Operands → Type 0
FitsIn None os = ⊥
FitsIn (Some k) os = Fits k.types k.any os

pub same_is : (a b : ValType) → same_type a b ≡ true → a ≡ b
same_is I32 I32 h = refl
same_is I64 I64 h = refl
same_is I32 I64 h = cc
same_is I64 I32 h = cc

pub same_self : (a : ValType) → same_type a a ≡ true
same_self I32 = refl
same_self I64 = refl

pub is_same : (a b : ValType) → a ≡ b → same_type a b ≡ true
is_same a b e = subst (λ (b : ValType). same_type a b ≡ true) e (same_self a)

some_same : (a b : ValType) → Some a ≡ Some b → a ≡ b
some_same a b e = cc

so_down : (b : Bool) (k : Known) (os : Operands) → b ≡ true → Fits k.types k.any os → FitsIn (if_so b k) os
so_down true k os e h = h
so_down false k os e h = cc

so_up : (b : Bool) (k : Known) (os : Operands) → FitsIn (if_so b k) os → (b ≡ true) × Fits k.types k.any os
so_up true k os h = (refl, h)
so_up false k os h = absurd h

-- an operand that matches a type is known as one that may be of it
match_may : (t : ValType) (first o : Option ValType) → Stands first o → Matches o (Some t) → may_be first t ≡ true
match_may t None o s m = refl
match_may t (Some f) None s m = cc
match_may t (Some f) (Some u) s m = is_same f t (some_same f t (sym s ∙ m))

may_match : (t : ValType) (first : Option ValType) → may_be first t ≡ true → Stands first (Some t)
may_match t None h = tt
may_match t (Some f) h = let e = same_is f t h in ap (λ (t : ValType). Some t) (sym e)

take_down : (t : ValType) (types : Operands) (any : Bool) (o : Option ValType) (below : Operands) → Fits types any (o ∷ below) → Matches o (Some t) → FitsIn (taken_of t types any) below
take_down t [] true o below h m = tt
take_down t [] false o below h m = cc
take_down t (first ∷ others) any o below h m = so_down (may_be first t) (known others any) below (match_may t first o h.0 m) h.1

take_up : (t : ValType) (types : Operands) (any : Bool) (below : Operands) → FitsIn (taken_of t types any) below → Fits types any (Some t ∷ below)
take_up t [] true below h = tt
take_up t [] false below h = absurd h
take_up t (first ∷ others) any below h = let p = so_up (may_be first t) (known others any) below h in (may_match t first p.0, p.1)

pub take_all_down : (ts : List ValType) (k : Option Known) (os below : Operands) → FitsIn k (os ++ below) → AllMatch os ts → FitsIn (taken_all ts k) below
take_all_down ts None os below h m = absurd h
take_all_down [] (Some k) [] below h m = h
take_all_down [] (Some k) (o ∷ os) below h m = absurd m
take_all_down (t ∷ ts) (Some k) [] below h m = absurd m
take_all_down (t ∷ ts) (Some k) (o ∷ os) below h m = take_all_down ts (taken t k) os below (take_down t k.types k.any o (os ++ below) h m.0) m.1

abbrev pub some_of : List ValType → Operands
some_of types = map (λ type. Some type) types

pub take_all_up : (ts : List ValType) (k : Option Known) (below : Operands) → FitsIn (taken_all ts k) below → FitsIn k (some_of ts ++ below)
take_all_up ts None below h = absurd h
take_all_up [] (Some k) below h = h
take_all_up (t ∷ ts) (Some k) below h = take_up t k.types k.any (some_of ts ++ below) (take_all_up ts (taken t k) below h)

pub all_match : (ts : List ValType) → AllMatch (some_of ts) ts
all_match [] = tt
all_match (t ∷ ts) = (refl, all_match ts)

pub takes_down : (ts : List ValType) (k : Known) (os below : Operands) → Fits k.types k.any os → Takes ts os below → FitsIn (taken_all ts (Some k)) below
takes_down ts k os below h t = take_all_down ts (Some k) t.0 below (subst (Fits k.types k.any) t.1 h) t.2

pub takes_up : (ts : List ValType) (k : Known) (below : Operands) → FitsIn (taken_all ts (Some k)) below → (os : Operands) × Fits k.types k.any os × Takes ts os below
takes_up ts k below h = (some_of ts ++ below, take_all_up ts (Some k) below h, (some_of ts, refl, all_match ts))

-- operands of known types over others
pub fits_more : (ts : List ValType) (types : Operands) (any : Bool) (os : Operands) → Fits types any os → Fits (some_of ts ++ types) any (some_of ts ++ os)
fits_more [] types any os h = h
fits_more (t ∷ ts) types any os h = (refl, fits_more ts types any os h)

pub fits_less : (ts : List ValType) (types : Operands) (any : Bool) (os : Operands) → Fits (some_of ts ++ types) any os → (below : Operands) × (os ≡ some_of ts ++ below) × Fits types any below
fits_less [] types any os h = (os, refl, h)
fits_less (t ∷ ts) types any [] h = absurd h
fits_less (t ∷ ts) types any (o ∷ os) h =
    let k = fits_less ts types any os h.1 in
    (k.0, ap₂ (λ (t : Option ValType) (xs : Operands). t ∷ xs) h.0 k.1, k.2)

some_stands : (t : Option ValType) → Stands t t
some_stands None = tt
some_stands (Some t) = refl

pub some_fits : (types : Operands) (any : Bool) → (os : Operands) × Fits types any os
some_fits [] true = ([], tt)
some_fits [] false = ([], refl)
some_fits (t ∷ ts) any = let p = some_fits ts any in (t ∷ p.0, (some_stands t, p.1))

pub fits_own : (types : Operands) → Fits types false types
fits_own [] = refl
fits_own (t ∷ ts) = (some_stands t, fits_own ts)

-- operands of which all is known
pub exact_fits : (ts : List ValType) (os : Operands) → Fits (some_of ts) false os → os ≡ some_of ts
exact_fits [] os h = h
exact_fits (t ∷ ts) [] h = absurd h
exact_fits (t ∷ ts) (o ∷ os) h = ap₂ (λ (t : Option ValType) (xs : Operands). t ∷ xs) h.0 (exact_fits ts os h.1)

pub same_length : (types os : Operands) → Fits types false os → length os ≡ length types
same_length [] os h = ap length h
same_length (t ∷ ts) [] h = absurd h
same_length (t ∷ ts) (o ∷ os) h = ap suc (same_length ts os h.1)

pub fits_any : (types os : Operands) → Fits types true (types ++ os)
fits_any [] os = tt
fits_any (t ∷ ts) os = (some_stands t, fits_any ts os)

given_down : (ts : List ValType) (k : Option Known) (below : Operands) → FitsIn k below → FitsIn (given (some_of ts) k) (some_of ts ++ below)
given_down ts None below h = absurd h
given_down ts (Some k) below h = fits_more ts k.types k.any below h

given_up : (ts : List ValType) (k : Option Known) (os : Operands) → FitsIn (given (some_of ts) k) os → (below : Operands) × (os ≡ some_of ts ++ below) × FitsIn k below
given_up ts None os h = absurd h
given_up ts (Some k) os h = fits_less ts k.types k.any os h

-- by an instruction of a type
turn_down : (o : Option FuncType) (type : FuncType) (k : Known) (os qs : Operands) → o ≡ Some type → Fits k.types k.any os → Turns type os qs → FitsIn (turned o k) qs
turn_down o type k os qs e h t =
    subst (λ (o : Option FuncType). FitsIn (turned o k) qs) (sym e)
    (subst (FitsIn (turned (Some type) k)) (sym t.2) (given_down (reverse type.results) (taken_all (reverse type.params) (Some k)) t.0 (takes_down (reverse type.params) k os t.0 h t.1)))

turn_up : (o : Option FuncType) (k : Known) (qs : Operands) → FitsIn (turned o k) qs → (os : Operands) × Fits k.types k.any os × ((type : FuncType) × (o ≡ Some type) × Turns type os qs)
turn_up None k qs h = absurd h
turn_up (Some type) k qs h =
    let p = given_up (reverse type.results) (taken_all (reverse type.params) (Some k)) qs h in
    let q = takes_up (reverse type.params) k p.0 p.2 in
    (q.0, q.1, (type, refl, (p.0, q.2, p.1)))

any_down : (k : Option Known) (below qs : Operands) → FitsIn k below → FitsIn (anything k) qs
any_down None below qs h = absurd h
any_down (Some k) below qs h = tt

any_up : (k : Option Known) (qs : Operands) → FitsIn (anything k) qs → (below : Operands) × FitsIn k below
any_up None qs h = absurd h
any_up (Some k) qs h = some_fits k.types k.any

branch_down : (o : Option (List ValType)) (types : List ValType) (k : Known) (os below qs : Operands) → o ≡ Some types → Fits k.types k.any os → Takes (reverse types) os below → FitsIn (branched o (Some k)) qs
branch_down o types k os below qs e h t =
    subst (λ (o : Option (List ValType)). FitsIn (branched o (Some k)) qs) (sym e)
    (any_down (taken_all (reverse types) (Some k)) below qs (takes_down (reverse types) k os below h t))

branch_up : (o : Option (List ValType)) (k : Known) (qs : Operands) → FitsIn (branched o (Some k)) qs → (os : Operands) × Fits k.types k.any os × ((types : List ValType) × (o ≡ Some types) × ((below : Operands) × Takes (reverse types) os below))
branch_up None k qs h = absurd h
branch_up (Some types) k qs h =
    let p = any_up (taken_all (reverse types) (Some k)) qs h in
    let q = takes_up (reverse types) k p.0 p.1 in
    (q.0, q.1, (types, refl, (p.0, q.2)))

-- the last operand
pop_down : (types : Operands) (any : Bool) (o : Option ValType) (below : Operands) → Fits types any (o ∷ below) → (p : Option ValType × Known) × (popped_of types any ≡ Some p) × Stands p.0 o × Fits p.1.types p.1.any below
pop_down [] true o below h = ((None, known [] true), refl, tt, tt)
pop_down [] false o below h = cc
pop_down (first ∷ others) any o below h = ((first, known others any), refl, h.0, h.1)

pop_up : (types : Operands) (any : Bool) (p : Option ValType × Known) (o : Option ValType) (below : Operands) → popped_of types any ≡ Some p → Stands p.0 o → Fits p.1.types p.1.any below → Fits types any (o ∷ below)
pop_up [] true p o below e s h = tt
pop_up [] false p o below e s h = cc
pop_up (first ∷ others) any p o below e s h =
    let same : (first, known others any) ≡ p = cc in (
      subst (λ (t : Option ValType). Stands t o) (sym (ap (λ (p : Option ValType × Known). p.0) same)) s,
      subst (λ (k : Known). Fits k.types k.any below) (sym (ap (λ (p : Option ValType × Known). p.1) same)) h,
    )

drop_down : (k : Known) (o : Option ValType) (below : Operands) → Fits k.types k.any (o ∷ below) → FitsIn (dropped (popped k)) below
drop_down k o below h = let p = pop_down k.types k.any o below h in subst (λ (q : Option (Option ValType × Known)). FitsIn (dropped q) below) (sym p.1) p.3

drop_up_in : (k : Known) (q : Option (Option ValType × Known)) (qs : Operands) → popped k ≡ q → FitsIn (dropped q) qs → (o : Option ValType) × Fits k.types k.any (o ∷ qs)
drop_up_in k None qs e h = absurd h
drop_up_in k (Some p) qs e h = (p.0, pop_up k.types k.any p p.0 qs e (some_stands p.0) h)

joined_down : (first second s t type : Option ValType) (k : Known) (below : Operands) → Stands first s → Stands second t → Matches s type → Matches t type → Fits k.types k.any below → FitsIn (put (joined first second) k) (type ∷ below)
joined_down None None s t type k below fs ft ms mt h = (tt, h)
joined_down None (Some b) s None type k below fs ft ms mt h = cc
joined_down None (Some b) s (Some u) type k below fs ft ms mt h = (sym mt ∙ ft, h)
joined_down (Some a) second None t type k below fs ft ms mt h = cc
joined_down (Some a) None (Some u) t type k below fs ft ms mt h = (sym ms ∙ fs, h)
joined_down (Some a) (Some b) (Some u) None type k below fs ft ms mt h = cc
joined_down (Some a) (Some b) (Some u) (Some v) type k below fs ft ms mt h =
    let e : Some a ≡ Some b = sym fs ∙ ms ∙ sym mt ∙ ft in
    subst (λ (x : Bool). FitsIn (put (if_joined x a) k) (type ∷ below)) (sym (is_same a b (some_same a b e))) (sym ms ∙ fs, h)

-- operands that give what is known
abbrev Pair : Option ValType → Option ValType → Option ValType → Type 0
Pair first second type = (s : Option ValType) × (t : Option ValType) × Stands first s × Stands second t × Matches s type × Matches t type

if_joined_up : (x : Bool) (a : ValType) (k : Known) (o : Option ValType) (below : Operands) → FitsIn (put (if_joined x a) k) (o ∷ below) → (x ≡ true) × (o ≡ Some a) × Fits k.types k.any below
if_joined_up true a k o below h = (refl, h.0, h.1)
if_joined_up false a k o below h = absurd h

joined_up : (first second type : Option ValType) (k : Known) (below : Operands) → FitsIn (put (joined first second) k) (type ∷ below) → Pair first second type × Fits k.types k.any below
joined_up None None type k below h = ((None, None, tt, tt, tt, tt), h.1)
joined_up None (Some b) type k below h = ((None, Some b, tt, refl, tt, sym h.0), h.1)
joined_up (Some a) None type k below h = ((Some a, None, refl, tt, sym h.0, tt), h.1)
joined_up (Some a) (Some b) type k below h =
    let p = if_joined_up (same_type a b) a k type below h in
    let e = same_is a b p.0 in
    ((Some a, Some b, refl, refl, sym p.1, ap (λ (t : ValType). Some t) (sym e) ∙ sym p.1), p.2)

select_down : (k : Known) (s t type : Option ValType) (below : Operands) → Fits k.types k.any (s ∷ t ∷ below) → Matches s type → Matches t type → FitsIn (select_first (popped k)) (type ∷ below)
select_down k s t type below h ms mt =
    let p = pop_down k.types k.any s (t ∷ below) h in
    let q = pop_down p.0.1.types p.0.1.any t below p.3 in
    subst (λ (x : Option (Option ValType × Known)). FitsIn (select_first x) (type ∷ below)) (sym p.1)
    (subst (λ (x : Option (Option ValType × Known)). FitsIn (select_both p.0.0 x) (type ∷ below)) (sym q.1)
    (joined_down p.0.0 q.0.0 s t type q.0.1 below p.2 q.2 ms mt q.3))

abbrev Selects : Known → Operands → Type 0
Selects k qs =
    (s : Option ValType) × (t : Option ValType) × (type : Option ValType) × (below : Operands) × Fits k.types k.any (s ∷ t ∷ below) × Matches s type × Matches t type × (qs ≡ type ∷ below)

joined_none : (first second : Option ValType) (k : Known) → FitsIn (put (joined first second) k) [] → ⊥
joined_none None second k h = h
joined_none (Some a) None k h = h
joined_none (Some I32) (Some I32) k h = h
joined_none (Some I64) (Some I64) k h = h
joined_none (Some I32) (Some I64) k h = h
joined_none (Some I64) (Some I32) k h = h

select_up_on : (k : Known) (p q : Option ValType × Known) (qs : Operands) → popped k ≡ Some p → popped p.1 ≡ Some q → FitsIn (put (joined p.0 q.0) q.1) qs → Selects k qs
select_up_on k p q [] e f h = absurd (joined_none p.0 q.0 q.1 h)
select_up_on k p q (type ∷ below) e f h =
    let j = joined_up p.0 q.0 type q.1 below h in
    let under = pop_up p.1.types p.1.any q j.0.1 below f j.0.3 j.1 in
    (j.0.0, j.0.1, type, below, pop_up k.types k.any p j.0.0 (j.0.1 ∷ below) e j.0.2 under, j.0.4, j.0.5, refl)

select_up_second : (k : Known) (p : Option ValType × Known) (o : Option (Option ValType × Known)) (qs : Operands) → popped k ≡ Some p → popped p.1 ≡ o → FitsIn (select_both p.0 o) qs → Selects k qs
select_up_second k p None qs e f h = absurd h
select_up_second k p (Some q) qs e f h = select_up_on k p q qs e f h

select_up : (k : Known) (o : Option (Option ValType × Known)) (qs : Operands) → popped k ≡ o → FitsIn (select_first o) qs → Selects k qs
select_up k None qs e h = absurd h
select_up k (Some p) qs e h = select_up_second k p (popped p.1) qs e refl h

selected_up : (k : Known) (o : Option Known) (qs : Operands) → taken I32 k ≡ o → FitsIn (selected o) qs → (j : Known) × (taken I32 k ≡ Some j) × Selects j qs
selected_up k None qs e h = absurd h
selected_up k (Some j) qs e h = (j, e, select_up j (popped j) qs refl h)

-- the operands of which the least is said, among those of which this is known
abbrev lowest : ℕ → Operands → Operands
lowest zero types = []
lowest (suc n) [] = None ∷ lowest n []
lowest (suc n) (o ∷ os) = o ∷ lowest n os

may_matches : (o : Option ValType) (t : ValType) → may_be o t ≡ true → Matches o (Some t)
may_matches None t h = tt
may_matches (Some f) t h = let e = same_is f t h in ap (λ (t : ValType). Some t) e

none_left : (ts : List ValType) → taken_all ts None ≡ None
none_left ts = refl

some_so : (ts : List ValType) (b : Bool) (k : Known) → is_some (taken_all ts (if_so b k)) ≡ true → (b ≡ true) × (is_some (taken_all ts (Some k)) ≡ true)
some_so ts true k h = (refl, h)
some_so ts false k h = cc

low_matches : (ts : List ValType) (types : Operands) (any : Bool) → is_some (taken_all ts (Some (known types any))) ≡ true → AllMatch (lowest (length ts) types) ts
low_matches [] types any h = tt
low_matches (t ∷ ts) [] true h = (tt, low_matches ts [] true h)
low_matches (t ∷ ts) [] false h = cc
low_matches (t ∷ ts) (o ∷ os) any h =
    let p = some_so ts (may_be o t) (known os any) h in
    (may_matches o t p.0, low_matches ts os any p.1)

left_so : (ts : List ValType) (b : Bool) (k : Known) (below : Operands) → FitsIn (taken_all ts (if_so b k)) below → FitsIn (taken_all ts (Some k)) below
left_so ts true k below h = h
left_so ts false k below h = absurd h

low_fits : (ts : List ValType) (types : Operands) (any : Bool) (below : Operands) → FitsIn (taken_all ts (Some (known types any))) below → Fits types any (lowest (length ts) types ++ below)
low_fits [] types any below h = h
low_fits (t ∷ ts) [] true below h = tt
low_fits (t ∷ ts) [] false below h = absurd h
low_fits (t ∷ ts) (o ∷ os) any below h = (some_stands o, low_fits ts os any below (left_so ts (may_be o t) (known os any) below h))

is_some_fits : (o : Option Known) (os : Operands) → FitsIn o os → is_some o ≡ true
is_some_fits None os h = absurd h
is_some_fits (Some k) os h = refl

some_is_fits : (o : Option Known) → is_some o ≡ true → (os : Operands) × FitsIn o os
some_is_fits None h = cc
some_is_fits (Some k) h = some_fits k.types k.any

match_length : (os : Operands) (ts : List ValType) → AllMatch os ts → length os ≡ length ts
match_length [] [] h = refl
match_length [] (t ∷ ts) h = absurd h
match_length (o ∷ os) [] h = absurd h
match_length (o ∷ os) (t ∷ ts) h = ap suc (match_length os ts h.1)

reversed_length : (os : Operands) (ts : List ValType) → AllMatch os (reverse ts) → length ts ≡ length os
reversed_length os ts h = sym (match_length os (reverse ts) h ∙ length-reverse ts)

eq_is : (m n : ℕ) → (m == n) ≡ true → m ≡ n
eq_is m n h = grind (arith, nat_tests)

is_eq : (m n : ℕ) → m ≡ n → (m == n) ≡ true
is_eq m n h = grind (arith, nat_tests)

cond_true : (a b : Bool) → a ≡ true → b ≡ true → cond a b false ≡ true
cond_true true b h k = k
cond_true false b h k = cc

pub cond_both : (a b : Bool) → cond a b false ≡ true → (a ≡ true) × (b ≡ true)
cond_both true b h = (refl, h)
cond_both false b h = cc

go_down : (labels : List (List ValType)) (count : ℕ) (k : Known) (taken below : Operands) (label : ℕ) → Fits k.types k.any (taken ++ below) → length taken ≡ count → GoesTo labels taken label → may_go (slice_get labels label) count k ≡ true
go_down labels count k taken below label h n g =
    subst (λ (o : Option (List ValType)). may_go o count k ≡ true) (sym g.1)
    (cond_true (length g.0 == count) (is_some (taken_all (reverse g.0) (Some k))) (is_eq (length g.0) count (reversed_length taken g.0 g.2 ∙ n))
    (is_some_fits (taken_all (reverse g.0) (Some k)) below (take_all_down (reverse g.0) (Some k) taken below h g.2)))

go_all_down : (labels : List (List ValType)) (count : ℕ) (k : Known) (taken below : Operands) (others : List ℕ) → Fits k.types k.any (taken ++ below) → length taken ≡ count → AllByRecursion (GoesTo labels taken) others → may_go_all labels others count k ≡ true
go_all_down labels count k taken below [] h n g = refl
go_all_down labels count k taken below (label ∷ others) h n g =
    cond_true (may_go (slice_get labels label) count k) (may_go_all labels others count k) (go_down labels count k taken below label h n g.0) (go_all_down labels count k taken below others h n g.1)

tabled_down : (labels : List (List ValType)) (others : List ℕ) (label : ℕ) (o : Option Known) (taken below qs : Operands) → FitsIn o (taken ++ below) → AllByRecursion (GoesTo labels taken) others → GoesTo labels taken label → FitsIn (tabled labels others label o) qs
tabled_down labels others label None taken below qs h a g = absurd h
tabled_down labels others label (Some k) taken below qs h a g =
    let n : length taken ≡ length g.0 = sym (reversed_length taken g.0 g.2) in
    subst (λ (o : Option (List ValType)). FitsIn (tabled_at labels others o k) qs) (sym g.1)
    (subst (λ (b : Bool). FitsIn (cond b (branched (Some g.0) (Some k)) None) qs) (sym (go_all_down labels (length g.0) k taken below others h n a))
    (any_down (taken_all (reverse g.0) (Some k)) below qs (take_all_down (reverse g.0) (Some k) taken below h g.2)))

go_up : (labels : List (List ValType)) (count : ℕ) (k : Known) (label : ℕ) (o : Option (List ValType)) → slice_get labels label ≡ o → may_go o count k ≡ true → GoesTo labels (lowest count k.types) label
go_up labels count k label None e h = cc
go_up labels count k label (Some types) e h =
    let p = cond_both (length types == count) (is_some (taken_all (reverse types) (Some k))) h in
    let n : length (reverse types) ≡ count = length-reverse types ∙ eq_is (length types) count p.0 in
    (types, e, subst (λ (n : ℕ). AllMatch (lowest n k.types) (reverse types)) n (low_matches (reverse types) k.types k.any p.1))

go_all_up : (labels : List (List ValType)) (count : ℕ) (k : Known) (others : List ℕ) → may_go_all labels others count k ≡ true → AllByRecursion (GoesTo labels (lowest count k.types)) others
go_all_up labels count k [] h = tt
go_all_up labels count k (label ∷ others) h =
    let p = cond_both (may_go (slice_get labels label) count k) (may_go_all labels others count k) h in
    (go_up labels count k label (slice_get labels label) refl p.0, go_all_up labels count k others p.1)

cond_fits : (b : Bool) (o : Option Known) (qs : Operands) → FitsIn (cond b o None) qs → (b ≡ true) × FitsIn o qs
cond_fits true o qs h = (refl, h)
cond_fits false o qs h = absurd h

abbrev Tables : List (List ValType) → List ℕ → ℕ → Known → Type 0
Tables labels others label k =
    (taken : Operands) × (below : Operands) × Fits k.types k.any (taken ++ below) × AllByRecursion (GoesTo labels taken) others × GoesTo labels taken label

tabled_at_up : (labels : List (List ValType)) (others : List ℕ) (label : ℕ) (k : Known) (o : Option (List ValType)) (qs : Operands) → slice_get labels label ≡ o → FitsIn (tabled_at labels others o k) qs → Tables labels others label k
tabled_at_up labels others label k None qs e h = absurd h
tabled_at_up labels others label k (Some types) qs e h =
    let p = cond_fits (may_go_all labels others (length types) k) (branched (Some types) (Some k)) qs h in
    let b = any_up (taken_all (reverse types) (Some k)) qs p.1 in
    let n : length (reverse types) ≡ length types = length-reverse types in (
      lowest (length types) k.types,
      b.0,
      subst (λ (n : ℕ). Fits k.types k.any (lowest n k.types ++ b.0)) n (low_fits (reverse types) k.types k.any b.0 b.1),
      go_all_up labels (length types) k others p.0,
      (types, e, subst (λ (n : ℕ). AllMatch (lowest n k.types) (reverse types)) n (low_matches (reverse types) k.types k.any (is_some_fits (taken_all (reverse types) (Some k)) b.0 b.1))),
    )

tabled_up : (labels : List (List ValType)) (others : List ℕ) (label : ℕ) (k : Known) (o : Option Known) (qs : Operands) → taken I32 k ≡ o → FitsIn (tabled labels others label o) qs → (j : Known) × (taken I32 k ≡ Some j) × Tables labels others label j
tabled_up labels others label k None qs e h = absurd h
tabled_up labels others label k (Some j) qs e h = (j, e, tabled_at_up labels others label j (slice_get labels label) qs refl h)

test_up : (k j : Known) (os : Operands) → taken I32 k ≡ Some j → Fits j.types j.any os → Fits k.types k.any (Some I32 ∷ os)
test_up k j os e h = take_up I32 k.types k.any os (subst (λ (o : Option Known). FitsIn o os) (sym e) h)

selected_down : (o : Option Known) (s t type : Option ValType) (below : Operands) → FitsIn o (s ∷ t ∷ below) → Matches s type → Matches t type → FitsIn (selected o) (type ∷ below)
selected_down None s t type below h ms mt = absurd h
selected_down (Some k) s t type below h ms mt = select_down k s t type below h ms mt

-- What is known behind an instruction stands for exactly what it makes of the operands before it.
pub learn_down : (c : Context) (labels : List (List ValType)) (i : Instr) (k : Known) (os qs : Operands) → Fits k.types k.any os → Applies c labels i os qs → FitsIn (learn c labels i k) qs
learn_down c labels instr.Unreachable k os qs fit a = tt
learn_down c labels (instr.Br label) k os qs fit a = branch_down (slice_get labels label) a.0 k os a.2.0 qs a.1 fit a.2.1
learn_down c labels (instr.BrTable others label) k os qs fit a =
    tabled_down labels others label (taken I32 k) a.1 a.2 qs (take_down I32 k.types k.any a.0 (a.1 ++ a.2) (subst (Fits k.types k.any) a.3 fit) a.4) a.5 a.6
learn_down c labels instr.Return k os qs fit a = branch_down (Some c.results) c.results k os a.0 qs refl fit a.1
learn_down c labels instr.Drop k os qs fit a = drop_down k a.0 qs (subst (Fits k.types k.any) a.1 fit)
learn_down c labels instr.Select k os qs fit a =
    subst (FitsIn (selected (taken I32 k))) (sym a.9)
    (selected_down (taken I32 k) a.1 a.2 a.3 a.4 (take_down I32 k.types k.any a.0 (a.1 ∷ a.2 ∷ a.4) (subst (Fits k.types k.any) a.5 fit) a.6) a.7 a.8)
learn_down c labels i k os qs fit a = turn_down (instr_type c labels i) a.0 k os qs a.1 fit a.2

abbrev pub Before : Context → List (List ValType) → Instr → Known → Operands → Type 0
Before c labels i k qs = (os : Operands) × Fits k.types k.any os × Applies c labels i os qs

pub learn_up : (c : Context) (labels : List (List ValType)) (i : Instr) (k : Known) (qs : Operands) → FitsIn (learn c labels i k) qs → Before c labels i k qs
learn_up c labels instr.Unreachable k qs h = let p = some_fits k.types k.any in (p.0, p.1, tt)
learn_up c labels (instr.Br label) k qs h = branch_up (slice_get labels label) k qs h
learn_up c labels (instr.BrTable others label) k qs h =
    let p = tabled_up labels others label k (taken I32 k) qs refl h in
    let t = p.2 in
    (Some I32 ∷ (t.0 ++ t.1), test_up k p.0 (t.0 ++ t.1) p.1 t.2, (Some I32, t.0, t.1, refl, refl, t.3, t.4))
learn_up c labels instr.Return k qs h =
    let p = branch_up (Some c.results) k qs h in
    let e : Some c.results ≡ Some p.2.0 = p.2.1 in
    let same : p.2.0 ≡ c.results = cc in
    (p.0, p.1, (p.2.2.0, subst (λ (ts : List ValType). Takes (reverse ts) p.0 p.2.2.0) same p.2.2.1))
learn_up c labels instr.Drop k qs h = let p = drop_up_in k (popped k) qs refl h in (p.0 ∷ qs, p.1, (p.0, refl))
learn_up c labels instr.Select k qs h =
    let p = selected_up k (taken I32 k) qs refl h in
    let s = p.2 in
    (Some I32 ∷ s.0 ∷ s.1 ∷ s.3, test_up k p.0 (s.0 ∷ s.1 ∷ s.3) p.1 s.4, (Some I32, s.0, s.1, s.2, s.3, refl, refl, s.5, s.6, s.7))
learn_up c labels i k qs h = turn_up (instr_type c labels i) k qs h
