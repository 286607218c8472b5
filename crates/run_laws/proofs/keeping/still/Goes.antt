-- What a step as a whole keeps, of memories, and of ends where they are asked for.
use Rattle.std.proofs.Common.{◌≡◌, ◌∙◌, ℕ, List, map, refl, sym, ap, Option, Some, None}
use Rattle.wasm_store.specs.Store.{Instance}
use Rattle.builtin_kinds.specs.declared.EndKind.{EndKind}
use Rattle.world_parts.specs.Held.{Held, Done, Gives, Traps, Spent, Stuck, after, given}
use Rattle.run_laws.specs.keeping.Still.{first_of, MemoriesKept, EndsKept}
use Rattle.run_laws.proofs.keeping.still.Still.{Kinds, Still, StillBy, EndsAsked}

pub record Stays (W : Kinds) (h k : Held) : Type 0 where
  pub memories : MemoriesKept h → MemoriesKept k
  pub ends : (K : ℕ → EndKind) → W ≡ Some K → EndsKept K h → EndsKept K k

abbrev pub StaysBy : {A : Type 0} → Kinds → Held → Done A → Type 0
StaysBy W h (Gives x k) = Stays W h k
StaysBy W h (Traps why k) = EndsAsked W h k
StaysBy W h (Spent k) = Unit {0}
StaysBy W h Stuck = Unit {0}

pub of_still : (W : Kinds) (h k : Held) → Still W h k → Stays W h k
of_still W h k p = record {
  memories = λ kept. p.memories ∙ kept ∙ ap (λ (all : List Instance). map first_of all) (sym p.modules);
  ends = p.ends;
}

pub by_still : {A : Type 0} (W : Kinds) (h : Held) (d : Done A) → StillBy W h d → StaysBy W h d
by_still W h (Gives x k) p = of_still W h k p
by_still W h (Traps why k) p = p
by_still W h (Spent k) p = tt
by_still W h Stuck p = tt

pub stays_same : (W : Kinds) (h : Held) → Stays W h h
stays_same W h = record { memories = λ kept. kept; ends = λ K is kept. kept }

pub stays_through : {A : Type 0} (W : Kinds) (h k : Held) (d : Done A) → Stays W h k → StaysBy W k d → StaysBy W h d
stays_through W h k (Gives x l) p q = record { memories = λ kept. q.memories (p.memories kept); ends = λ K is kept. q.ends K is (p.ends K is kept) }
stays_through W h k (Traps why l) p q = λ K is kept. q K is (p.ends K is kept)
stays_through W h k (Spent l) p q = tt
stays_through W h k Stuck p q = tt

pub stays_after : {A B : Type 0} (W : Kinds) (h : Held) (d : Done A) (f : A → Held → Done B) → StaysBy W h d → ((x : A) (k : Held) → StaysBy W k (f x k)) → StaysBy W h (after d f)
stays_after W h (Gives x k) f p q = stays_through W h k (f x k) p (q x k)
stays_after W h (Traps why k) f p q = p
stays_after W h (Spent k) f p q = tt
stays_after W h Stuck f p q = tt

pub stays_given : {A B : Type 0} (W : Kinds) (h : Held) (o : Option A) (f : A → Done B) → ((x : A) → o ≡ Some x → StaysBy W h (f x)) → StaysBy W h (given o f)
stays_given W h None f p = tt
stays_given W h (Some x) f p = p x refl
