-- What a part of a step leaves as it was: the store stays typed and extends the one before, and no handle is lent more often. So do parts behind
-- parts, what follows something that is looked up, and both ways of a test.
use Rattle.std.proofs.Common.{◌≡◌, ◌⊎◌, inl, inr, ℕ, Bool, true, false, if◌then◌else◌, List, [], ◌∷◌, slice_set, zero, suc, refl, sym, ap, subst, Option, Some, None}
use Rattle.std.specs.List.{slice_get}
use Rattle.wasm_store.specs.Store.{Store}
use Rattle.wasm_store.specs.Typed.{StoreTyped, Extends}
use Rattle.wasm_store.proofs.Stores.{store_same, further}
use Rattle.value_lift.specs.Tables.{MostLends}
use Rattle.instances.specs.Entries.{seen_as}
use Rattle.instances.specs.Instances.{InstanceView}
use Rattle.world_parts.specs.Held.{Held, Done, Gives, Traps, Spent, Stuck, after, given}
use Rattle.world_parts.specs.Entries.{with_instance}
use Rattle.value_parts.specs.Fit.{LentAtMost}

pub record Keeps (h k : Held) : Type 0 where
  pub store : StoreTyped h.store → Extends h.store k.store × StoreTyped k.store
  pub lends : (most : ℕ) → LentAtMost most h → LentAtMost most k

-- The same of what a part gives. Behind a trap, and where fuel is wanting, no run goes on.
abbrev pub KeepsBy : {A : Type 0} → Held → Done A → Type 0
KeepsBy h (Gives x k) = Keeps h k
KeepsBy h (Traps why k) = Unit {0}
KeepsBy h (Spent k) = Unit {0}
KeepsBy h Stuck = Unit {0}

-- The same store and the same instances.
pub keeps_all : (h k : Held) → k.store ≡ h.store → k.instances ≡ h.instances → Keeps h k
keeps_all h k s i = record {
  store = λ typed. subst (λ (t : Store). Extends h.store t × StoreTyped t) (sym s) (store_same h.store, typed);
  lends = λ most few. subst (λ (is : List InstanceView). (at : ℕ) (x : InstanceView) → slice_get is at ≡ Some x → MostLends seen_as most x.slots) (sym i) few;
}

pub keeps_further : (h k l : Held) → Keeps h k → Keeps k l → Keeps h l
keeps_further h k l p q = record {
  store = λ typed.
      let one = p.store typed in
      let two = q.store one.1 in
      (further h.store k.store l.store one.0 two.0, two.1);
  lends = λ most few. q.lends most (p.lends most few);
}

behind : {A : Type 0} (h k : Held) (d : Done A) → Keeps h k → KeepsBy k d → KeepsBy h d
behind h k (Gives x l) p q = keeps_further h k l p q
behind h k (Traps why l) p q = tt
behind h k (Spent l) p q = tt
behind h k Stuck p q = tt

-- behind what keeps so much
pub keeps_through : {A : Type 0} (h k : Held) (d : Done A) → Keeps h k → KeepsBy k d → KeepsBy h d
keeps_through h k d p q = behind h k d p q

pub keeps_after : {A B : Type 0} (h : Held) (d : Done A) (f : A → Held → Done B) → KeepsBy h d → ((x : A) (k : Held) → KeepsBy k (f x k)) → KeepsBy h (after d f)
keeps_after h (Gives x k) f p q = behind h k (f x k) p (q x k)
keeps_after h (Traps why k) f p q = tt
keeps_after h (Spent k) f p q = tt
keeps_after h Stuck f p q = tt

pub keeps_given : {A B : Type 0} (h : Held) (o : Option A) (f : A → Done B) → ((x : A) → o ≡ Some x → KeepsBy h (f x)) → KeepsBy h (given o f)
keeps_given h None f p = tt
keeps_given h (Some x) f p = p x refl

pub keeps_if : {A : Type 0} (h : Held) (b : Bool) (d e : Done A) → KeepsBy h d → KeepsBy h e → KeepsBy h (if b then d else e)
keeps_if h true d e p q = p
keeps_if h false d e p q = q

-- by what is given
pub keeps_same : (h : Held) → Keeps h h
keeps_same h = keeps_all h h refl refl

pub keeps_from : {A : Type 0} (h k : Held) (d : Done A) → k.store ≡ h.store → k.instances ≡ h.instances → KeepsBy k d → KeepsBy h d
keeps_from h k d s i p = behind h k d (keeps_all h k s i) p

-- An instance is another one, in which no handle is lent more often.
set_either : {A : Type 0} (xs : List A) (t : ℕ) (y : A) (n : ℕ) (z : A) → slice_get (slice_set xs t y) n ≡ Some z → ((n ≡ t) × (z ≡ y)) ⊎ (slice_get xs n ≡ Some z)
set_either [] t y n z h = inr h
set_either (x ∷ xs) zero y zero z h = inl (refl, let e : z ≡ y = cc in e)
set_either (x ∷ xs) zero y (suc n) z h = inr h
set_either (x ∷ xs) (suc t) y zero z h = inr h
set_either (x ∷ xs) (suc t) y (suc n) z h =
    elim (set_either xs t y n z h) [
      | inl e ↦ inl (ap suc e.0, e.1)
      | inr e ↦ inr e
    ]

pub lent_instance : (h : Held) (at : ℕ) (j : InstanceView) (most : ℕ) → MostLends seen_as most j.slots → LentAtMost most h → LentAtMost most (with_instance at j h)
lent_instance h at j most now few n k stands =
    elim (set_either h.instances at j n k stands) [
      | inl e ↦ subst (λ (i : InstanceView). MostLends seen_as most i.slots) (sym e.1) now
      | inr e ↦ few n k e
    ]

pub keeps_instance : (h : Held) (at : ℕ) (i j : InstanceView) → slice_get h.instances at ≡ Some i
    → ((most : ℕ) → MostLends seen_as most i.slots → MostLends seen_as most j.slots) → Keeps h (with_instance at j h)
keeps_instance h at i j found p = record {
  store = λ typed. (store_same h.store, typed);
  lends = λ most few. lent_instance h at j most (p most (few at i found)) few;
}
