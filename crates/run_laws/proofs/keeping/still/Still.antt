-- What parts of a step leave: memories that are kept, and core instances; and, where this is asked for a test of types, ends as they are kept. So do parts behind parts,
-- what follows something that is looked up, and both ways of a test.
use Rattle.std.proofs.Common.{◌≡◌, ◌∙◌, inl, inr, ℕ, Bool, true, false, if◌then◌else◌, List, slice_set, refl, sym, ap, subst, Option, Some, None}
use Rattle.std.specs.List.{slice_get}
use Rattle.std.proofs.lemmas.Bool.{cases_eq}
use Rattle.wasm_store.specs.Store.{Store}
use Rattle.handle_table.specs.Slots.{Slots, entry_at}
use Rattle.builtin_kinds.specs.declared.EndKind.{EndKind}
use Rattle.channels.specs.declared.channel.Channel.{Channel}
use Rattle.instances.specs.declared.entry.EndEntry.{EndEntry}
use Rattle.instances.specs.declared.entry.WorldEntry.{WorldEntry}
use Rattle.instances.specs.declared.entry.WorldEntry.TheVariants as entry
use Rattle.instances.specs.Instances.{InstanceView, entry_of}
use Rattle.world_parts.specs.Held.{Held, Done, Gives, Traps, Spent, Stuck, after, given}
use Rattle.world_parts.specs.Entries.{with_instance}
use Rattle.standing.proofs.marks.Tables.{put_same, put_other}
use Rattle.run_laws.specs.keeping.Still.{EndsAre, EndsKept}

-- Whether ends are asked for, and by which test.
abbrev pub Kinds : Type 0
Kinds = Option (ℕ → EndKind)

pub record Still (W : Kinds) (h k : Held) : Type 0 where
  pub memories : k.memories ≡ h.memories
  pub modules : k.store.instances ≡ h.store.instances
  pub ends : (K : ℕ → EndKind) → W ≡ Some K → EndsKept K h → EndsKept K k

-- So it is of what a part gives. Behind a trap no run goes on, and ends are kept, where they are asked for; where fuel is wanting nothing is said.
abbrev pub EndsAsked : Kinds → Held → Held → Type 0
EndsAsked W h k = (K : ℕ → EndKind) → W ≡ Some K → EndsKept K h → EndsKept K k

abbrev pub StillBy : {A : Type 0} → Kinds → Held → Done A → Type 0
StillBy W h (Gives x k) = Still W h k
StillBy W h (Traps why k) = EndsAsked W h k
StillBy W h (Spent k) = Unit {0}
StillBy W h Stuck = Unit {0}

pub still_all : (W : Kinds) (h k : Held) → k.store ≡ h.store → k.instances ≡ h.instances → k.memories ≡ h.memories → k.streams ≡ h.streams → k.futures ≡ h.futures → Still W h k
still_all W h k store instances memories streams futures = record {
  memories = memories;
  modules = ap (λ (s : Store). s.instances) store;
  ends = λ K is kept.
      subst (λ (all : List InstanceView). EndsAre K all k.streams k.futures) (sym instances)
      (subst (λ (all : List Channel). EndsAre K h.instances all k.futures) (sym streams)
      (subst (λ (all : List Channel). EndsAre K h.instances h.streams all) (sym futures) kept));
}

pub ends_same : (W : Kinds) (h : Held) → EndsAsked W h h
ends_same W h K is kept = kept

pub bare_ends : (h k : Held) → EndsAsked None h k
bare_ends h k K is kept = absurd (cc)

pub still_same : (W : Kinds) (h : Held) → Still W h h
still_same W h = record { memories = refl; modules = refl; ends = λ K is kept. kept }

pub still_further : (W : Kinds) (h k l : Held) → Still W h k → Still W k l → Still W h l
still_further W h k l p q = record {
  memories = q.memories ∙ p.memories;
  modules = q.modules ∙ p.modules;
  ends = λ K is kept. q.ends K is (p.ends K is kept);
}

pub still_behind : {A : Type 0} (W : Kinds) (h k : Held) (d : Done A) → Still W h k → StillBy W k d → StillBy W h d
still_behind W h k (Gives x l) p q = still_further W h k l p q
still_behind W h k (Traps why l) p q = λ K is kept. q K is (p.ends K is kept)
still_behind W h k (Spent l) p q = tt
still_behind W h k Stuck p q = tt

pub still_after : {A B : Type 0} (W : Kinds) (h : Held) (d : Done A) (f : A → Held → Done B) → StillBy W h d → ((x : A) (k : Held) → StillBy W k (f x k)) → StillBy W h (after d f)
still_after W h (Gives x k) f p q = still_behind W h k (f x k) p (q x k)
still_after W h (Traps why k) f p q = p
still_after W h (Spent k) f p q = tt
still_after W h Stuck f p q = tt

pub still_given : {A B : Type 0} (W : Kinds) (h : Held) (o : Option A) (f : A → Done B) → ((x : A) → o ≡ Some x → StillBy W h (f x)) → StillBy W h (given o f)
still_given W h None f p = tt
still_given W h (Some x) f p = p x refl

pub still_if : {A : Type 0} (W : Kinds) (h : Held) (b : Bool) (d e : Done A) → StillBy W h d → StillBy W h e → StillBy W h (if b then d else e)
still_if W h true d e p q = p
still_if W h false d e p q = q

pub still_from : {A : Type 0} (W : Kinds) (h k : Held) (d : Done A) → k.store ≡ h.store → k.instances ≡ h.instances → k.memories ≡ h.memories → k.streams ≡ h.streams → k.futures ≡ h.futures
    → StillBy W k d → StillBy W h d
still_from W h k d store instances memories streams futures p = still_behind W h k d (still_all W h k store instances memories streams futures) p

-- What follows a look changes nothing of what it looks at.
pub still_look : {A B C : Type 0} (W : Kinds) (h : Held) (o : Option A) (f : A → Done B) (c : B → Held → Done C) → ((x : A) → o ≡ Some x → StillBy W h (after (f x) c)) → StillBy W h (after (given o f) c)
still_look W h None f c p = tt
still_look W h (Some x) f c p = p x refl

-- Where each end that stands stood there before, ends are kept.
abbrev pub Stood : List InstanceView → List InstanceView → Type 0
Stood old new =
    (at index : ℕ) (i : InstanceView) (e : EndEntry) → slice_get new at ≡ Some i → entry_of i index ≡ Some (entry.End e)
    → (j : InstanceView) × (slice_get old at ≡ Some j) × (entry_of j index ≡ Some (entry.End e))

pub stood_ends : (K : ℕ → EndKind) (old new : List InstanceView) (streams futures : List Channel) → Stood old new → EndsAre K old streams futures → EndsAre K new streams futures
stood_ends K old new streams futures stood kept = record {
  marked = λ at index i e here is. (let a = stood at index i e here is in kept.marked at index a.0 e a.1 a.2);
  once = λ at index n m i j e d here is there has number type side.
      (let a = stood at index i e here is in let b = stood n m j d there has in kept.once at index n m a.0 b.0 e d a.1 a.2 b.1 b.2 number type side);
  are_streams = kept.are_streams;
  are_futures = kept.are_futures;
}

-- An instance is another one, in whose table each end stood there.
pub put_stood : (instances : List InstanceView) (at : ℕ) (x y : InstanceView) → slice_get instances at ≡ Some x
    → ((index : ℕ) (e : EndEntry) → entry_of y index ≡ Some (entry.End e) → entry_of x index ≡ Some (entry.End e)) → Stood instances (slice_set instances at y)
put_stood instances at x y is stood n index i e here has =
    elim (cases_eq n at) [
      | inl same ↦ (
        x,
        ap (λ (m : ℕ). slice_get instances m) same ∙ is,
        stood index e (ap (λ (j : InstanceView). entry_of j index) (sym (put_same instances at n x y i is here same)) ∙ has),
      )
      | inr other ↦ (i, put_other instances at n y i here other, has)
    ]

pub still_table : (W : Kinds) (h : Held) (at : ℕ) (x y : InstanceView) → slice_get h.instances at ≡ Some x
    → ((index : ℕ) (e : EndEntry) → entry_of y index ≡ Some (entry.End e) → entry_of x index ≡ Some (entry.End e)) → Still W h (with_instance at y h)
still_table W h at x y is stood = record {
  memories = refl;
  modules = refl;
  ends = λ K asked kept. stood_ends K h.instances (slice_set h.instances at y) h.streams h.futures (put_stood h.instances at x y is stood) kept;
}

-- An instance is another one with the same table.
pub still_instance : (W : Kinds) (h : Held) (at : ℕ) (x y : InstanceView) → slice_get h.instances at ≡ Some x → y.slots ≡ x.slots → Still W h (with_instance at y h)
still_instance W h at x y is same = still_table W h at x y is (λ index e has. ap (λ (s : Slots WorldEntry). entry_at s index) (sym same) ∙ has)

abbrev pub no_kinds : Kinds
no_kinds = None

-- Where ends are not asked for.
pub still_bare : (h k : Held) → k.memories ≡ h.memories → k.store.instances ≡ h.store.instances → Still no_kinds h k
still_bare h k memories modules = record { memories = memories; modules = modules; ends = λ K is kept. absurd (cc) }
