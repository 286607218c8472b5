-- Parts of a step that may come to more than one thing, and parts behind them.
use Rattle.std.proofs.Common.{◌≡◌, sym, refl, subst, Result, Ok, Err}
use Rattle.world_parts.specs.declared.parts.Parts.{Parts}
use Rattle.world_parts.specs.declared.parts.Stop.{Stop}
use Rattle.world_parts.specs.declared.parts.Stop.TheVariants as stop
use Rattle.world_parts.specs.Held.{Held, held, Done, Gives, Traps, Spent, Stuck, Does, Tells}
use Rattle.value_parts.specs.Coming.{Comes, ComesToOne, May, Behind, Then}

-- What a part comes to it may come to.
pub may_so : {A : Type 0} (R : Done A → Type 0) (d : Done A) (result : Result A Stop) (new : Parts) → R d → Comes d result new → May R result new
may_so R d (Ok x) new r c = (d, r, c)
may_so R d (Err (stop.Trap why)) new r c = (d, r, c)
may_so R d (Err stop.NoFuel) new r c = (d, r, c)
may_so R d (Err stop.Stuck) new r c = (d, r, c)
may_so R d (Err stop.Memory) new r c = tt

pub comes_so : {A : Type 0} (f : Held → Done A) (old new : Parts) (result : Result A Stop) → Does f old result new → Comes (f (held old)) result new
comes_so f old new (Ok x) h = h
comes_so f old new (Err (stop.Trap why)) h = h
comes_so f old new (Err stop.NoFuel) h = h
comes_so f old new (Err stop.Stuck) h = h
comes_so f old new (Err stop.Memory) h = h

-- It goes on behind an answer, and else ends.
pub may_behind : {A B : Type 0} (o : Done A) (x : A) (h : Held) (F : A → Held → Done B → Type 0) (result : Result B Stop) (new : Parts) → o ≡ Gives x h
    → May (F x h) result new → May (Behind o F) result new
may_behind {A} o x h F result new e m = subst (λ (d : Done A). May (Behind d F) result new) (sym e) m

pub may_stuck : {A B : Type 0} (o : Done A) (F : A → Held → Done B → Type 0) (new : Parts) → o ≡ Stuck → May (Behind o F) (Err stop.Stuck) new
may_stuck {A} o F new e = (Stuck, subst (λ (d : Done A). Behind d F Stuck) (sym e) refl, refl)

pub may_end : {A B : Type 0} (o : Done A) (F : A → Held → Done B → Type 0) (why : Stop) (new : Parts) → Comes o (Err why) new → May (Behind o F) (Err why) new
may_end {A} o F (stop.Trap why) new e = (Traps why (held new), subst (λ (d : Done A). Behind d F (Traps why (held new))) (sym e) refl, refl)
may_end {A} o F stop.NoFuel new e = (Spent (held new), subst (λ (d : Done A). Behind d F (Spent (held new))) (sym e) refl, refl)
may_end {A} o F stop.Stuck new e = (Stuck, subst (λ (d : Done A). Behind d F Stuck) (sym e) refl, refl)
may_end o F stop.Memory new e = tt

-- A part behind one that may come to several things.
pub may_then : {A B : Type 0} (R : Done A → Type 0) (f : A → Held → Done B) (x : A) (mid : Parts) (result : Result B Stop) (new : Parts) → May R (Ok x) mid
    → Comes (f x (held mid)) result new → May (Then R (λ y k e. e ≡ f y k)) result new
may_then {A} {B} R f x mid result new m c =
    may_so (Then R (λ y k e. e ≡ f y k)) (f x (held mid)) result new
    (m.0, m.1, subst (λ (d : Done A). Behind d (λ (y : A) (k : Held) (e : Done B). e ≡ f y k) (f x (held mid))) (sym m.2) refl) c

pub may_then_end : {A B : Type 0} (R : Done A → Type 0) (F : A → Held → Done B → Type 0) (why : Stop) (new : Parts) → May R (Err why) new → May (Then R F) (Err why) new
may_then_end {A} R F (stop.Trap why) new m = (Traps why (held new), (m.0, m.1, subst (λ (d : Done A). Behind d F (Traps why (held new))) (sym m.2) refl), refl)
may_then_end {A} R F stop.NoFuel new m = (Spent (held new), (m.0, m.1, subst (λ (d : Done A). Behind d F (Spent (held new))) (sym m.2) refl), refl)
may_then_end {A} R F stop.Stuck new m = (Stuck, (m.0, m.1, subst (λ (d : Done A). Behind d F Stuck) (sym m.2) refl), refl)
may_then_end R F stop.Memory new m = tt

-- what follows one of several things
one_behind : {A B : Type 0} (R : Done A → Type 0) (F : A → Held → Done B → Type 0) (x : A) (mid : Parts) (result : Result B Stop) (new : Parts) → ComesToOne R (Ok x) mid
    → ComesToOne (F x (held mid)) result new → ComesToOne (Then R F) result new
one_behind {A} {B} R F x mid result new m c = (c.0, (m.0, m.1, subst (λ (d : Done A). Behind d F c.0) (sym m.2) c.1), c.2)

pub may_go_on : {A B : Type 0} (R : Done A → Type 0) (F : A → Held → Done B → Type 0) (x : A) (mid : Parts) (result : Result B Stop) (new : Parts) → May R (Ok x) mid
    → May (F x (held mid)) result new → May (Then R F) result new
may_go_on R F x mid (Ok y) new m c = one_behind R F x mid (Ok y) new m c
may_go_on R F x mid (Err (stop.Trap why)) new m c = one_behind R F x mid (Err (stop.Trap why)) new m c
may_go_on R F x mid (Err stop.NoFuel) new m c = one_behind R F x mid (Err stop.NoFuel) new m c
may_go_on R F x mid (Err stop.Stuck) new m c = one_behind R F x mid (Err stop.Stuck) new m c
may_go_on R F x mid (Err stop.Memory) new m c = tt

-- What the code of a part comes to, where the part comes to one thing.
pub does_end : {A B : Type 0} (f : Held → Done A) (old : Parts) (F : A → Held → Done B → Type 0) (why : Stop) (new : Parts)
    → (let r : Result A Stop = Err why in Does f old r new) → (let s : Result B Stop = Err why in May (Behind (f (held old)) F) s new)
does_end {A} f old F why new h = may_end (f (held old)) F why new (let r : Result A Stop = Err why in comes_so f old new r h)

pub tells_end : {A B : Type 0} (f : Held → Done A) (now : Parts) (F : A → Held → Done B → Type 0) (why : Stop)
    → (let r : Result A Stop = Err why in Tells f now r) → (let s : Result B Stop = Err why in May (Behind (f (held now)) F) s now)
tells_end f now F (stop.Trap why) h = does_end f now F (stop.Trap why) now h
tells_end f now F stop.NoFuel h = does_end f now F stop.NoFuel now h
tells_end f now F stop.Stuck h = does_end f now F stop.Stuck now h
tells_end f now F stop.Memory h = tt

pub may_is : {A : Type 0} (f : Held → Done A) (old new : Parts) (result : Result A Stop) → Does f old result new → May (λ d. d ≡ f (held old)) result new
may_is f old new result h = may_so (λ d. d ≡ f (held old)) (f (held old)) result new refl (comes_so f old new result h)

pub may_then_does : {A B : Type 0} (R : Done A → Type 0) (f : A → Held → Done B) (x : A) (mid : Parts) (result : Result B Stop) (new : Parts) → May R (Ok x) mid
    → Does (f x) mid result new → May (Then R (λ y k e. e ≡ f y k)) result new
may_then_does R f x mid result new m does = may_then R f x mid result new m (comes_so (f x) mid new result does)

-- all of them
pub ruleset mays = (may_behind, does_end, tells_end, may_then_does, may_go_on, may_then_end, may_is)
