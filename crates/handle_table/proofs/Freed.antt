-- The freed indices of a history.
use Rattle.std.proofs.Common.{◌≡◌, ℕ, ◌+◌, ◌≤◌, sym, ap, refl, ◌∙◌, arith, subst, Bool, true, false, ◌||◌, nat_eq, if◌then◌else◌, List, [], ◌∷◌, length, Option, Some, None, is_some, IsSome, ◌⊎◌, inl, inr, eq-eqb}
use Rattle.std.proofs.lemmas.Bool.{cases_eq, ne_eqb}
use Rattle.std.proofs.lemmas.List.Sums.{count_by-le-length}
use Rattle.handle_table.specs.History.{Event, Add, Remove, without, next_in, live, greatest, freed, next_index, slots_of, live_count, IsHistory}
use Rattle.handle_table.specs.Sound.{AreFree}
use Rattle.handle_table.specs.Laws.{once_added, IsFree, since_removal}
use Rattle.handle_table.proofs.Places.{some_is_none}
use Rattle.handle_table.proofs.Histories.{event_same, event_other, live_past, slots_seen, left_by, next_given_by}

-- the next index is free
empty_by : {E : Type 0} (h : List (Event E)) (free : List ℕ) → AreFree (slots_of h) free → live h (next_in free (greatest h)) ≡ None
empty_by h [] f = live_past h (greatest h + 1) (omega arith)
empty_by h (i ∷ free) f = sym (slots_seen h i f.0.given) ∙ f.0.empty

pub not_live : {E : Type 0} (h : List (Event E)) → IsHistory h → live h (next_index h) ≡ None
not_live h p = empty_by h (freed h) (left_by h p).sound.free

pub not_zero : {E : Type 0} (h : List (Event E)) → IsHistory h → 1 ≤ next_index h
not_zero h p = next_given_by (slots_of h) (freed h) (greatest h) (left_by h p).sound.free

pub few_live : {E : Type 0} (h : List (Event E)) → IsHistory h → live_count h ≤ 65535
few_live h p =
    let small : length (slots_of h) ≤ 65535 = (left_by h p).sound.small in
    omega (arith, small, count_by-le-length is_some (slots_of h))

-- what is in a list
abbrev pub In : ℕ → List ℕ → Type 0
In i [] = ⊥
In i (x ∷ xs) = (i ≡ x) ⊎ In i xs

in_rest : (i j x : ℕ) (xs : List ℕ) {A : Type 0} → (j ≡ i → ⊥) → j ≡ x → In i (x ∷ xs) → (In i xs → A) → A
in_rest i j x xs ne e (inl same) f = absurd (ne (e ∙ sym same))
in_rest i j x xs ne e (inr more) f = f more

in_more : (i x : ℕ) (xs ys : List ℕ) → In i (x ∷ xs) → (In i xs → In i ys) → In i (x ∷ ys)
in_more i x xs ys (inl same) f = inl same
in_more i x xs ys (inr more) f = inr (f more)

in_without : (i j : ℕ) (xs : List ℕ) → (j ≡ i → ⊥) → In i xs → In i (without j xs)
in_without i j [] ne h = h
in_without i j (x ∷ xs) ne h = elim (cases_eq j x) [
  | inl e ↦ rw (eq-eqb j x e) (in_rest i j x xs ne e h (λ k. in_without i j xs ne k))
  | inr other ↦ rw (ne_eqb j x other) (in_more i x xs (without j xs) h (λ k. in_without i j xs ne k))
]

without_at : (i j x : ℕ) (xs ys : List ℕ) → (j ≡ x → ⊥) → In i (x ∷ ys) → (In i ys → In i xs × (j ≡ i → ⊥)) → In i (x ∷ xs) × (j ≡ i → ⊥)
without_at i j x xs ys ne (inl same) f = (inl same, λ e. ne (e ∙ same))
without_at i j x xs ys ne (inr more) f = (inr (f more).0, (f more).1)

without_in : (i j : ℕ) (xs : List ℕ) → In i (without j xs) → In i xs × (j ≡ i → ⊥)
without_in i j [] h = absurd h
without_in i j (x ∷ xs) h = elim (cases_eq j x) [
  | inl e ↦ (let rest : In i (without j xs) = rw (eq-eqb j x e) at h in let found : In i xs × (j ≡ i → ⊥) = without_in i j xs rest in (inr found.0, found.1))
  | inr other ↦ (let here : In i (x ∷ without j xs) = rw (ne_eqb j x other) at h in without_at i j x xs (without j xs) other here (without_in i j xs))
]

-- what was added and is not live is freed
or_last : (b c : Bool) → (b ≡ true → ⊥) → (b || c) ≡ true → c ≡ true
or_last true c n h = absurd (n refl)
or_last false c n h = h

or_true : (b c : Bool) → c ≡ true → (b || c) ≡ true
or_true true c h = refl
or_true false c h = h

eqb_not : (i j : ℕ) → (i ≡ j → ⊥) → nat_eq i j ≡ true → ⊥
eqb_not i j ne h = let no : nat_eq i j ≡ false = ne_eqb i j ne in cc

pub all_freed : {E : Type 0} (h : List (Event E)) (i : ℕ) → once_added h i ≡ true → live h i ≡ None → In i (freed h)
all_freed [] i given gone = cc
all_freed {E} (Add j entry ∷ h) i given gone = elim (cases_eq j i) [
  | inl e ↦ absurd (some_is_none entry (sym (ap (λ (b : Bool). if b then Some entry else live h i) (eq-eqb j i e)) ∙ gone))
  | inr ne ↦ in_without i j (freed h) ne (all_freed h i (or_last (nat_eq j i) (once_added h i) (eqb_not j i ne) given) (sym (event_other j i (Some entry) (live h i) ne) ∙ gone))
]
all_freed {E} (Remove j ∷ h) i given gone = elim (cases_eq j i) [
  | inl e ↦ inl (sym e)
  | inr ne ↦ inr (in_without i j (freed h) ne (all_freed h i given (sym (event_other j i None (live h i) ne) ∙ gone)))
]

-- what is live was added, and so what is freed
live_added : {E : Type 0} (h : List (Event E)) (i : ℕ) → IsSome (live h i) → once_added h i ≡ true
live_added [] i s = cc
live_added {E} (Add j entry ∷ h) i s = elim (cases_eq j i) [
  | inl e ↦ (rw (eq-eqb j i e) refl)
  | inr ne ↦ or_true (nat_eq j i) (once_added h i) (live_added h i (ap is_some (sym (event_other j i (Some entry) (live h i) ne)) ∙ s))
]
live_added {E} (Remove j ∷ h) i s = elim (cases_eq j i) [
  | inl e ↦ (let none : IsSome (let o : Option E = None in o) = ap is_some (sym (ap (λ (b : Bool). if b then None else live h i) (eq-eqb j i e))) ∙ s in cc)
  | inr ne ↦ live_added h i (ap is_some (sym (event_other j i None (live h i) ne)) ∙ s)
]

pub freed_added : {E : Type 0} (h : List (Event E)) (i : ℕ) → IsHistory h → In i (freed h) → once_added h i ≡ true
freed_added [] i p f = absurd f
freed_added (Add j entry ∷ h) i p f = or_true (nat_eq j i) (once_added h i) (freed_added h i p.0 (without_in i j (freed h) f).0)
freed_added (Remove j ∷ h) i p (inl e) = ap (once_added h) e ∙ live_added h j p.1
freed_added (Remove j ∷ h) i p (inr f) = freed_added h i p.0 (without_in i j (freed h) f).0

-- the freed indices by the time of their removal, the last first
abbrev pub AreAged : {E : Type 0} → List (Event E) → List ℕ → Type 0
AreAged h [] = Unit {0}
AreAged h (x ∷ xs) = ((i : ℕ) → In i xs → since_removal x h ≤ since_removal i h) × AreAged h xs

aged_without : {E : Type 0} (j : ℕ) (h g : List (Event E)) → ((i : ℕ) → (j ≡ i → ⊥) → since_removal i g ≡ since_removal i h + 1) → (xs : List ℕ) → AreAged h xs → AreAged g (without j xs)
aged_without j h g e [] a = tt
aged_without {E} j h g e (x ∷ xs) a = elim (cases_eq j x) [
  | inl same ↦ rw (eq-eqb j x same) (aged_without j h g e xs a.1)
  | inr other ↦ rw (ne_eqb j x other) (
    (λ i f. let found : In i xs × (j ≡ i → ⊥) = without_in i j xs f in let l : since_removal x h ≤ since_removal i h = a.0 i found.0 in omega (arith, l, e x other, e i found.1)),
    aged_without j h g e xs a.1,
  )
]

pub aged : {E : Type 0} (h : List (Event E)) → AreAged h (freed h)
aged [] = tt
aged (Add j entry ∷ h) = aged_without j h (Add j entry ∷ h) (λ i ne. refl) (freed h) (aged h)
aged (Remove j ∷ h) =
    let first : since_removal j (Remove j ∷ h) ≡ 0 = event_same j 0 (since_removal j h + 1) in
    ((λ i f. omega (arith, first)), aged_without j h (Remove j ∷ h) (λ i ne. event_other j i 0 (since_removal i h + 1) ne) (freed h) (aged h))

first_aged : {E : Type 0} (h : List (Event E)) (i x : ℕ) (free : List ℕ) → AreAged h (x ∷ free) → In i (x ∷ free) → since_removal x h ≤ since_removal i h
first_aged h i x free a (inl e) = let same : since_removal i h ≡ since_removal x h = ap (λ (k : ℕ). since_removal k h) e in omega arith
first_aged h i x free a (inr more) = a.0 i more

-- the first of them
first_by : {E : Type 0} (h : List (Event E)) (i : ℕ) (free : List ℕ) → freed h ≡ free → IsHistory h → In i free → IsFree h (next_in free (greatest h)) × (since_removal (next_in free (greatest h)) h ≤ since_removal i h)
first_by h i [] e p f = absurd f
first_by {E} h i (x ∷ free) e p f =
    let P : List ℕ → Type 0 = λ xs. AreAged h xs in
    let a : AreAged h (x ∷ free) = subst P e (aged h) in
    let Q : List ℕ → Type 0 = λ xs. In x xs in
    let here : In x (freed h) = subst Q (sym e) (inl refl) in
    let R : List ℕ → Type 0 = λ xs. live h (next_in xs (greatest h)) ≡ None in
    (record { given = freed_added h x p here; gone = subst R e (not_live h p) }, first_aged h i x free a f)

pub latest_first : {E : Type 0} (h : List (Event E)) (i : ℕ) → IsHistory h → IsFree h i → IsFree h (next_index h) × (since_removal (next_index h) h ≤ since_removal i h)
latest_first h i p f = first_by h i (freed h) refl p (all_freed h i f.given f.gone)

-- and where there is none
none_by : {E : Type 0} (h : List (Event E)) (free : List ℕ) → freed h ≡ free → IsHistory h → ((i : ℕ) → IsFree h i → ⊥) → next_in free (greatest h) ≡ greatest h + 1
none_by h [] e p none = refl
none_by h (x ∷ free) e p none = absurd (none x (first_by h x (x ∷ free) e p (inl refl)).0)

pub one_more : {E : Type 0} (h : List (Event E)) → IsHistory h → ((i : ℕ) → IsFree h i → ⊥) → next_index h ≡ greatest h + 1
one_more h p none = none_by h (freed h) refl p none
