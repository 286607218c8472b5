-- What a part leaves as it was where it gives something: who runs, and how many tasks there are. So do parts behind parts, what follows something that is looked up, both
-- ways of a test, and what may come behind a part. Where a run ends nothing is said.
use Rattle.std.proofs.Common.{◌≡◌, refl, sym, subst, Bool, true, false, if◌then◌else◌, Option, Some, None}
use Rattle.world_parts.specs.Held.{Held, Done, Gives, Traps, Spent, Stuck, after, given}
use Rattle.value_parts.specs.Coming.{Behind, Then}
use Rattle.run_laws.proofs.stays.Same.{Same, StaysBy, same_further}

abbrev pub ChainBy : {A : Type 0} → Held → Done A → Type 0
ChainBy h (Gives x k) = Same h k
ChainBy h (Traps why k) = Unit {0}
ChainBy h (Spent k) = Unit {0}
ChainBy h Stuck = Unit {0}

pub chain_stays : {A : Type 0} (h : Held) (d : Done A) → StaysBy h d → ChainBy h d
chain_stays h (Gives x k) p = p
chain_stays h (Traps why k) p = tt
chain_stays h (Spent k) p = tt
chain_stays h Stuck p = tt

pub chain_through : {A : Type 0} (h k : Held) (d : Done A) → Same h k → ChainBy k d → ChainBy h d
chain_through h k (Gives x l) p q = same_further h k l p q
chain_through h k (Traps why l) p q = tt
chain_through h k (Spent l) p q = tt
chain_through h k Stuck p q = tt

pub chain_after : {A B : Type 0} (h : Held) (d : Done A) (f : A → Held → Done B) → ChainBy h d → ((x : A) (k : Held) → ChainBy k (f x k)) → ChainBy h (after d f)
chain_after h (Gives x k) f p q = chain_through h k (f x k) p (q x k)
chain_after h (Traps why k) f p q = tt
chain_after h (Spent k) f p q = tt
chain_after h Stuck f p q = tt

pub chain_given : {A B : Type 0} (h : Held) (o : Option A) (f : A → Done B) → ((x : A) → o ≡ Some x → ChainBy h (f x)) → ChainBy h (given o f)
chain_given h None f p = tt
chain_given h (Some x) f p = p x refl

pub chain_if : {A : Type 0} (h : Held) (b : Bool) (d e : Done A) → ChainBy h d → ChainBy h e → ChainBy h (if b then d else e)
chain_if h true d e p q = p
chain_if h false d e p q = q

pub chain_same : (h : Held) → Same h h
chain_same h = (refl, refl)

pub chain_as : {A : Type 0} (h : Held) (d e : Done A) → ChainBy h e → d ≡ e → ChainBy h d
chain_as {A} h d e p is = subst (λ (x : Done A). ChainBy h x) (sym is) p

pub chain_behind : {A B : Type 0} (h : Held) (q : Done A) (F : A → Held → Done B → Type 0) (d : Done B) → ChainBy h q → ((x : A) (k : Held) → F x k d → ChainBy k d) → Behind q F d → ChainBy h d
chain_behind h (Gives x k) F d p more b = chain_through h k d p (more x k b)
chain_behind h (Traps why k) F d p more b = chain_as h d (Traps why k) tt b
chain_behind h (Spent k) F d p more b = chain_as h d (Spent k) tt b
chain_behind h Stuck F d p more b = chain_as h d Stuck tt b

pub chain_then : {A B : Type 0} (h : Held) (R : Done A → Type 0) (F : A → Held → Done B → Type 0) (d : Done B) → ((e : Done A) → R e → ChainBy h e)
    → ((x : A) (k : Held) → F x k d → ChainBy k d) → Then R F d → ChainBy h d
chain_then h R F d first more b = chain_behind h b.0 F d (first b.0 b.1) more b.2
