-- What a part of a step with stacks keeps: the store stays typed and extends the one before, no handle is lent more often, and all stacks stay typed.
use Rattle.std.proofs.Common.{◌≡◌, Bool, true, false, if◌then◌else◌, List, Option, Some, None, refl}
use Rattle.wasm_store.specs.Typed.{StoreTyped, Extends}
use Rattle.world_parts.specs.Held.{Held, Done, Gives, Traps, Spent, Stuck, after, given}
use Rattle.world_stacks.specs.Views.{PileView}
use Rattle.world_stacks.specs.Typing.{PilesFit}
use Rattle.world_stacks.proofs.Fitting.{piles_later}
use Rattle.value_parts.proofs.fit.Keeps.{Keeps, KeepsBy, keeps_all, keeps_further}

abbrev pub FitsBy : {A : Type 0} → Held → List PileView → Done (A × List PileView) → Type 0
FitsBy h piles (Gives r k) = Keeps h k × (StoreTyped h.store → PilesFit h.store piles → PilesFit k.store r.1)
FitsBy h piles (Traps why k) = Unit {0}
FitsBy h piles (Spent k) = Unit {0}
FitsBy h piles Stuck = Unit {0}

-- behind a part without stacks, and behind one with stacks
behind : {A : Type 0} (h k : Held) (piles : List PileView) (d : Done (A × List PileView)) → Keeps h k → FitsBy k piles d → FitsBy h piles d
behind h k piles (Gives r l) p q =
    (keeps_further h k l p q.0, λ typed fit. let one = p.store typed in q.1 one.1 (piles_later h.store k.store piles one.0 fit))
behind h k piles (Traps why l) p q = tt
behind h k piles (Spent l) p q = tt
behind h k piles Stuck p q = tt

pub fits_after : {A B : Type 0} (h : Held) (piles : List PileView) (d : Done A) (f : A → Held → Done (B × List PileView)) → KeepsBy h d → ((x : A) (k : Held) → FitsBy k piles (f x k))
    → FitsBy h piles (after d f)
fits_after h piles (Gives x k) f p q = behind h k piles (f x k) p (q x k)
fits_after h piles (Traps why k) f p q = tt
fits_after h piles (Spent k) f p q = tt
fits_after h piles Stuck f p q = tt

further : {A : Type 0} (h k : Held) (piles later : List PileView) (d : Done (A × List PileView)) → Keeps h k → (StoreTyped h.store → PilesFit h.store piles → PilesFit k.store later)
    → FitsBy k later d → FitsBy h piles d
further h k piles later (Gives r l) p fits q = (keeps_further h k l p q.0, λ typed fit. q.1 (p.store typed).1 (fits typed fit))
further h k piles later (Traps why l) p fits q = tt
further h k piles later (Spent l) p fits q = tt
further h k piles later Stuck p fits q = tt

pub fits_then : {A B : Type 0} (h : Held) (piles : List PileView) (d : Done (A × List PileView)) (f : A × List PileView → Held → Done (B × List PileView)) → FitsBy h piles d
    → ((r : A × List PileView) (k : Held) → FitsBy k r.1 (f r k)) → FitsBy h piles (after d f)
fits_then h piles (Gives r k) f p q = further h k piles r.1 (f r k) p.0 p.1 (q r k)
fits_then h piles (Traps why k) f p q = tt
fits_then h piles (Spent k) f p q = tt
fits_then h piles Stuck f p q = tt

pub fits_given : {A B : Type 0} (h : Held) (piles : List PileView) (o : Option A) (f : A → Done (B × List PileView)) → ((x : A) → o ≡ Some x → FitsBy h piles (f x))
    → FitsBy h piles (given o f)
fits_given h piles None f p = tt
fits_given h piles (Some x) f p = p x refl

-- other stacks, or the same ones
pub fits_piles : {A : Type 0} (h k : Held) (piles later : List PileView) (x : A) → k.store ≡ h.store → k.instances ≡ h.instances
    → (StoreTyped h.store → PilesFit h.store piles → PilesFit k.store later) → FitsBy h piles (Gives (x, later) k)
fits_piles h k piles later x s i p = (keeps_all h k s i, p)

pub fits_same : {A : Type 0} (h : Held) (piles : List PileView) (x : A) → FitsBy h piles (Gives (x, piles) h)
fits_same h piles x = (keeps_all h h refl refl, λ typed fit. fit)
