-- Parts that lend a handle more often by at most a count, and leave the store typed; and what parts come to behind others.
use Rattle.std.proofs.Common.{◌≡◌, ◌+◌, ◌≤◌, ℕ, Bool, true, false, if◌then◌else◌, refl, sym, subst, arith, Option, Some, None}
use Rattle.std.specs.List.{slice_get}
use Rattle.wasm_store.specs.Typed.{StoreTyped, Extends}
use Rattle.wasm_store.proofs.Stores.{further}
use Rattle.value_lift.specs.Tables.{MostLends}
use Rattle.instances.specs.Entries.{seen_as}
use Rattle.instances.specs.Instances.{InstanceView}
use Rattle.world_parts.specs.Held.{Held, Done, Gives, Traps, Spent, Stuck, after, given}
use Rattle.value_parts.specs.Coming.{Behind, Then}
use Rattle.value_parts.specs.Fit.{LentAtMost, most_more}
use Rattle.value_parts.proofs.fit.Keeps.{Keeps, KeepsBy, keeps_further, keeps_through}

pub record Raises (h k : Held) : Type 0 where
  pub store : StoreTyped h.store → Extends h.store k.store × StoreTyped k.store
  pub lends : (most : ℕ) → LentAtMost most h → LentAtMost (most + most_more) k

abbrev pub RaisesBy : {A : Type 0} → Held → Done A → Type 0
RaisesBy h (Gives x k) = Raises h k
RaisesBy h (Traps why k) = Unit {0}
RaisesBy h (Spent k) = Unit {0}
RaisesBy h Stuck = Unit {0}

raised : (h k l : Held) → Raises h k → Keeps k l → Raises h l
raised h k l p q = record {
  store = λ typed.
      let one = p.store typed in
      let two = q.store one.1 in
      (further h.store k.store l.store one.0 two.0, two.1);
  lends = λ most few. q.lends (most + most_more) (p.lends most few);
}

raising : (h k l : Held) → Keeps h k → Raises k l → Raises h l
raising h k l p q = record {
  store = λ typed.
      let one = p.store typed in
      let two = q.store one.1 in
      (further h.store k.store l.store one.0 two.0, two.1);
  lends = λ most few. q.lends most (p.lends most few);
}

kept_raises : (h k : Held) → Keeps h k → Raises h k
kept_raises h k p = record {
  store = p.store;
  lends = λ most few at i is index.
      let less = p.lends most few at i is index in
      omega (arith, less);
}

pub keeps_raises : {A : Type 0} (h : Held) (d : Done A) → KeepsBy h d → RaisesBy h d
keeps_raises h (Gives x k) p = kept_raises h k p
keeps_raises h (Traps why k) p = tt
keeps_raises h (Spent k) p = tt
keeps_raises h Stuck p = tt

-- behind what raised, a part that keeps
pub raises_through : {A : Type 0} (h k : Held) (d : Done A) → Raises h k → KeepsBy k d → RaisesBy h d
raises_through h k (Gives x l) p q = raised h k l p q
raises_through h k (Traps why l) p q = tt
raises_through h k (Spent l) p q = tt
raises_through h k Stuck p q = tt

pub raises_after : {A B : Type 0} (h : Held) (d : Done A) (f : A → Held → Done B) → RaisesBy h d → ((x : A) (k : Held) → KeepsBy k (f x k)) → RaisesBy h (after d f)
raises_after h (Gives x k) f p q = raises_through h k (f x k) p (q x k)
raises_after h (Traps why k) f p q = tt
raises_after h (Spent k) f p q = tt
raises_after h Stuck f p q = tt

-- behind what keeps, a part that raises
behind_kept : {A : Type 0} (h k : Held) (d : Done A) → Keeps h k → RaisesBy k d → RaisesBy h d
behind_kept h k (Gives x l) p q = raising h k l p q
behind_kept h k (Traps why l) p q = tt
behind_kept h k (Spent l) p q = tt
behind_kept h k Stuck p q = tt

pub after_raises : {A B : Type 0} (h : Held) (d : Done A) (f : A → Held → Done B) → KeepsBy h d → ((x : A) (k : Held) → RaisesBy k (f x k)) → RaisesBy h (after d f)
after_raises h (Gives x k) f p q = behind_kept h k (f x k) p (q x k)
after_raises h (Traps why k) f p q = tt
after_raises h (Spent k) f p q = tt
after_raises h Stuck f p q = tt

pub raises_given : {A B : Type 0} (h : Held) (o : Option A) (f : A → Done B) → ((x : A) → o ≡ Some x → RaisesBy h (f x)) → RaisesBy h (given o f)
raises_given h None f p = tt
raises_given h (Some x) f p = p x refl

pub raises_if : {A : Type 0} (h : Held) (b : Bool) (d e : Done A) → RaisesBy h d → RaisesBy h e → RaisesBy h (if b then d else e)
raises_if h true d e p q = p
raises_if h false d e p q = q

-- What a part may come to behind another one.
pub keeps_behind : {A B : Type 0} (h : Held) (d : Done A) (F : A → Held → Done B → Type 0) (e : Done B) → KeepsBy h d → ((x : A) (k : Held) → F x k e → KeepsBy k e) → Behind d F e → KeepsBy h e
keeps_behind h (Gives x k) F e p q b = keeps_through h k e p (q x k b)
keeps_behind h (Traps why k) F e p q b = subst (KeepsBy h) (sym b) tt
keeps_behind h (Spent k) F e p q b = subst (KeepsBy h) (sym b) tt
keeps_behind h Stuck F e p q b = subst (KeepsBy h) (sym b) tt

pub keeps_then : {A B : Type 0} (h : Held) (R : Done A → Type 0) (F : A → Held → Done B → Type 0) (e : Done B) → ((d : Done A) → R d → KeepsBy h d)
    → ((x : A) (k : Held) → F x k e → KeepsBy k e) → Then R F e → KeepsBy h e
keeps_then h R F e p q (first, r, b) = keeps_behind h first F e (p first r) q b

pub raises_behind : {A B : Type 0} (h : Held) (d : Done A) (F : A → Held → Done B → Type 0) (e : Done B) → RaisesBy h d → ((x : A) (k : Held) → F x k e → KeepsBy k e) → Behind d F e → RaisesBy h e
raises_behind h (Gives x k) F e p q b = raises_through h k e p (q x k b)
raises_behind h (Traps why k) F e p q b = subst (RaisesBy h) (sym b) tt
raises_behind h (Spent k) F e p q b = subst (RaisesBy h) (sym b) tt
raises_behind h Stuck F e p q b = subst (RaisesBy h) (sym b) tt

pub raises_then : {A B : Type 0} (h : Held) (R : Done A → Type 0) (F : A → Held → Done B → Type 0) (e : Done B) → ((d : Done A) → R d → RaisesBy h d)
    → ((x : A) (k : Held) → F x k e → KeepsBy k e) → Then R F e → RaisesBy h e
raises_then h R F e p q (first, r, b) = raises_behind h first F e (p first r) q b

pub behind_raises : {A B : Type 0} (h : Held) (d : Done A) (F : A → Held → Done B → Type 0) (e : Done B) → KeepsBy h d → ((x : A) (k : Held) → F x k e → RaisesBy k e) → Behind d F e → RaisesBy h e
behind_raises h (Gives x k) F e p q b = behind_kept h k e p (q x k b)
behind_raises h (Traps why k) F e p q b = subst (RaisesBy h) (sym b) tt
behind_raises h (Spent k) F e p q b = subst (RaisesBy h) (sym b) tt
behind_raises h Stuck F e p q b = subst (RaisesBy h) (sym b) tt
