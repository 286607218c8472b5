-- What each event makes of the sets that stand for a history.
use Rattle.std.proofs.Common.{◌≡◌, ℕ, ◌+◌, ◌-◌, ◌<◌, ◌≤◌, sym, ap, refl, ◌∙◌, subst, arith, Bool, true, false, not, ◌||◌, ◌&&◌, ◌==◌, if◌then◌else◌, List, [], ◌∷◌, ◌++◌, filter, set, length, zero, suc, inl, inr, length-append}
use Rattle.std.proofs.lemmas.List.{append-nil, length-set, length-map, get_or-set_same, get_or-set_other, get_or_append_left, get_or_past}
use Rattle.std.proofs.lemmas.List.Sums.{sum_by-append}
use Rattle.std.proofs.lemmas.List.Elements.{filter_agree}
use Rattle.std.proofs.lemmas.Bool.{eq-eqb, ne_eqb, cases_eq, cases_lt}
use Rattle.std.proofs.Math.ListN.{get_or-map}
use Rattle.std.specs.List.{count_by}
use Rattle.waitables.specs.Sets.{SetView, no_set, set_at, without, set_without, left, set_with_last, joined, with_waiters, waited_on, waited_off}
use Rattle.waitables.specs.History.{Event, Made, Joins, Leaves, Waits, Goes, is_made, begins_wait, ends_wait, members_by, StandsFor}
use Rattle.waitables.proofs.Histories.{stays, members_append}

count_more : (p : Event → Bool) (h : List Event) (e : Event) → count_by p (h ++ e ∷ []) ≡ count_by p h + count_by p (e ∷ [])
count_more p h e = sum_by-append (λ x. if p x then 1 else 0) h (e ∷ [])

filter_all : (xs : List ℕ) → filter (λ _. true) xs ≡ xs
filter_all [] = refl
filter_all (x ∷ xs) = ap (λ (ys : List ℕ). x ∷ ys) (filter_all xs)

not_or_none : (b : Bool) → not (b || false) ≡ not b
not_or_none true = refl
not_or_none false = refl

-- An event that moves none.
still : (xs : List ℕ) → filter (λ _. true) xs ++ [] ≡ xs
still xs = append-nil (filter (λ _. true) xs) ∙ filter_all xs

-- An event that moves this waitable.
moved : (w : ℕ) (xs : List ℕ) → filter (λ x. not ((x == w) || false)) xs ≡ without w xs
moved w xs = filter_agree (λ x. not ((x == w) || false)) (λ x. not (x == w)) (λ x. not_or_none (x == w)) xs

pub left_at : (w : ℕ) (sets : List SetView) (n : ℕ) → set_at (left w sets) n ≡ set_without w (set_at sets n)
left_at w sets n = get_or-map (set_without w) sets n no_set

pub left_stands : (w : ℕ) (h : List Event) (sets : List SetView) → StandsFor h sets → StandsFor (h ++ Leaves w ∷ []) (left w sets)
left_stands w h sets s = record {
  made = length-map sets (set_without w) ∙ s.made ∙ sym (omega (arith, count_more is_made h (Leaves w)));
  members = λ n. ap (λ (v : SetView). v.members) (left_at w sets n) ∙ ap (without w) (s.members n) ∙ sym (members_append h (Leaves w ∷ []) n ∙ append-nil (filter (stays (Leaves w ∷ [])) (members_by n h)) ∙ moved w (members_by n h));
  waiters = λ n. let e : (set_at (left w sets) n).waiters ≡ (set_at sets n).waiters = ap (λ (v : SetView). v.waiters) (left_at w sets n) in
      omega (arith, e, s.waiters n, count_more (begins_wait n) h (Leaves w), count_more (ends_wait n) h (Leaves w));
}

-- one set of them is edited
at_same : (sets : List SetView) (k n : ℕ) (v : SetView) → k < length sets → n ≡ k → set_at (set sets k v) n ≡ v
at_same sets k n v h e = subst (λ (m : ℕ). set_at (set sets k v) m ≡ v) (sym e) (get_or-set_same sets k v no_set h)

at_other : (sets : List SetView) (k n : ℕ) (v : SetView) → (n ≡ k → ⊥) → set_at (set sets k v) n ≡ set_at sets n
at_other sets k n v h = get_or-set_other sets k n v no_set h

pub length_left : (w : ℕ) (sets : List SetView) → length (left w sets) ≡ length sets
length_left w sets = length-map sets (set_without w)

pub joins_here : (w k n : ℕ) → n ≡ k → members_by n (Joins w k ∷ []) ≡ w ∷ []
joins_here w k n e = ap (λ (b : Bool). if b && true then w ∷ [] else []) (eq-eqb k n (sym e))

pub joins_there : (w k n : ℕ) → (n ≡ k → ⊥) → members_by n (Joins w k ∷ []) ≡ []
joins_there w k n h = ap (λ (b : Bool). if b && true then w ∷ [] else []) (ne_eqb k n (λ e. h (sym e)))

pub joined_members : (w k : ℕ) (sets : List SetView) → k < length sets → (n : ℕ) → (set_at (joined w k sets) n).members ≡ without w (set_at sets n).members ++ members_by n (Joins w k ∷ [])
joined_members w k sets in' n =
    let others : List SetView = left w sets in
    let v : SetView = set_with_last w (set_at others k) in
    let within : k < length others = omega (arith, length_left w sets) in
    let old : (set_at others n).members ≡ without w (set_at sets n).members = ap (λ (x : SetView). x.members) (left_at w sets n) in
    elim (cases_eq n k) [
      | inl e ↦ ap (λ (x : SetView). x.members) (at_same others k n v within e)
          ∙ ap (λ (m : ℕ). (set_at others m).members ++ w ∷ []) (sym e)
          ∙ ap (λ (xs : List ℕ). xs ++ w ∷ []) old
          ∙ ap (λ (xs : List ℕ). without w (set_at sets n).members ++ xs) (sym (joins_here w k n e))
      | inr apart ↦ ap (λ (x : SetView). x.members) (at_other others k n v apart)
          ∙ old
          ∙ sym (append-nil (without w (set_at sets n).members))
          ∙ ap (λ (xs : List ℕ). without w (set_at sets n).members ++ xs) (sym (joins_there w k n apart))
    ]

pub joined_waiters : (w k : ℕ) (sets : List SetView) → k < length sets → (n : ℕ) → (set_at (joined w k sets) n).waiters ≡ (set_at sets n).waiters
joined_waiters w k sets in' n =
    let others : List SetView = left w sets in
    let v : SetView = set_with_last w (set_at others k) in
    let within : k < length others = omega (arith, length_left w sets) in
    let old : (set_at others n).waiters ≡ (set_at sets n).waiters = ap (λ (x : SetView). x.waiters) (left_at w sets n) in
    elim (cases_eq n k) [
      | inl e ↦ ap (λ (x : SetView). x.waiters) (at_same others k n v within e) ∙ ap (λ (m : ℕ). (set_at others m).waiters) (sym e) ∙ old
      | inr apart ↦ ap (λ (x : SetView). x.waiters) (at_other others k n v apart) ∙ old
    ]

pub joined_stands : (w k : ℕ) (h : List Event) (sets : List SetView) → k < length sets → StandsFor h sets → StandsFor (h ++ Joins w k ∷ []) (joined w k sets)
joined_stands w k h sets in' s = record {
  made = length-set (left w sets) k (set_with_last w (set_at (left w sets) k)) ∙ length_left w sets ∙ s.made ∙ sym (omega (arith, count_more is_made h (Joins w k)));
  members = λ n. joined_members w k sets in' n
      ∙ ap (λ (xs : List ℕ). without w xs ++ members_by n (Joins w k ∷ [])) (s.members n)
      ∙ ap (λ (xs : List ℕ). xs ++ members_by n (Joins w k ∷ [])) (sym (moved w (members_by n h)))
      ∙ sym (members_append h (Joins w k ∷ []) n);
  waiters = λ n. let e : (set_at (joined w k sets) n).waiters ≡ (set_at sets n).waiters = joined_waiters w k sets in' n in
      omega (arith, e, s.waiters n, count_more (begins_wait n) h (Joins w k), count_more (ends_wait n) h (Joins w k));
}

-- a new set
past_made : (sets : List SetView) (n : ℕ) → length sets ≤ n → set_at (sets ++ no_set ∷ []) n ≡ no_set
past_made [] zero h = refl
past_made [] (suc n) h = refl
past_made (x ∷ sets) zero h = absurd (omega arith)
past_made (x ∷ sets) (suc n) h = past_made sets n (omega arith)

made_at : (sets : List SetView) (n : ℕ) → set_at (sets ++ no_set ∷ []) n ≡ set_at sets n
made_at sets n = elim (cases_lt n (length sets)) [
  | inl low ↦ get_or_append_left sets (no_set ∷ []) no_set n low
  | inr high ↦ past_made sets n high ∙ sym (get_or_past sets n no_set high)
]

pub made_stands : (h : List Event) (sets : List SetView) → StandsFor h sets → StandsFor (h ++ Made ∷ []) (sets ++ no_set ∷ [])
made_stands h sets s = record {
  made = length-append sets (no_set ∷ []) ∙ ap (λ (n : ℕ). n + 1) s.made ∙ sym (omega (arith, count_more is_made h Made));
  members = λ n. ap (λ (x : SetView). x.members) (made_at sets n) ∙ s.members n ∙ sym (still (members_by n h)) ∙ sym (members_append h (Made ∷ []) n);
  waiters = λ n. let e : (set_at (sets ++ no_set ∷ []) n).waiters ≡ (set_at sets n).waiters = ap (λ (x : SetView). x.waiters) (made_at sets n) in
      omega (arith, e, s.waiters n, count_more (begins_wait n) h Made, count_more (ends_wait n) h Made);
}

-- waiters
waits_members : (k c : ℕ) (sets : List SetView) → k < length sets → (n : ℕ) → (set_at (with_waiters k c sets) n).members ≡ (set_at sets n).members
waits_members k c sets in' n =
    let v : SetView = record (set_at sets k) { waiters = c } in
    elim (cases_eq n k) [
      | inl e ↦ ap (λ (x : SetView). x.members) (at_same sets k n v in' e) ∙ ap (λ (m : ℕ). (set_at sets m).members) (sym e)
      | inr apart ↦ ap (λ (x : SetView). x.members) (at_other sets k n v apart)
    ]

begins_here : (k n : ℕ) → n ≡ k → count_by (begins_wait n) (Waits k ∷ []) ≡ 1
begins_here k n e = ap (λ (b : Bool). 0 + (if b then 1 else 0)) (eq-eqb k n (sym e))

begins_there : (k n : ℕ) → (n ≡ k → ⊥) → count_by (begins_wait n) (Waits k ∷ []) ≡ 0
begins_there k n h = ap (λ (b : Bool). 0 + (if b then 1 else 0)) (ne_eqb k n (λ e. h (sym e)))

ends_here : (k n : ℕ) → n ≡ k → count_by (ends_wait n) (Goes k ∷ []) ≡ 1
ends_here k n e = ap (λ (b : Bool). 0 + (if b then 1 else 0)) (eq-eqb k n (sym e))

ends_there : (k n : ℕ) → (n ≡ k → ⊥) → count_by (ends_wait n) (Goes k ∷ []) ≡ 0
ends_there k n h = ap (λ (b : Bool). 0 + (if b then 1 else 0)) (ne_eqb k n (λ e. h (sym e)))

on_waiters : (k : ℕ) (h : List Event) (sets : List SetView) → k < length sets → StandsFor h sets → (n : ℕ) → (set_at (waited_on k sets) n).waiters + count_by (ends_wait n) (h ++ Waits k ∷ []) ≡ count_by (begins_wait n) (h ++ Waits k ∷ [])
on_waiters k h sets in' s n =
    let c : ℕ = (set_at sets k).waiters + 1 in
    let v : SetView = record (set_at sets k) { waiters = c } in
    elim (cases_eq n k) [
      | inl e ↦
          let a : (set_at (waited_on k sets) n).waiters ≡ (set_at sets k).waiters + 1 = ap (λ (x : SetView). x.waiters) (at_same sets k n v in' e) in
          let b : (set_at sets k).waiters ≡ (set_at sets n).waiters = ap (λ (m : ℕ). (set_at sets m).waiters) (sym e) in
          omega (arith, a, b, s.waiters n, begins_here k n e, count_more (begins_wait n) h (Waits k), count_more (ends_wait n) h (Waits k))
      | inr apart ↦
          let a : (set_at (waited_on k sets) n).waiters ≡ (set_at sets n).waiters = ap (λ (x : SetView). x.waiters) (at_other sets k n v apart) in
          omega (arith, a, s.waiters n, begins_there k n apart, count_more (begins_wait n) h (Waits k), count_more (ends_wait n) h (Waits k))
    ]

off_waiters : (k : ℕ) (h : List Event) (sets : List SetView) → k < length sets → 0 < (set_at sets k).waiters → StandsFor h sets → (n : ℕ) → (set_at (waited_off k sets) n).waiters + count_by (ends_wait n) (h ++ Goes k ∷ []) ≡ count_by (begins_wait n) (h ++ Goes k ∷ [])
off_waiters k h sets in' some s n =
    let c : ℕ = (set_at sets k).waiters - 1 in
    let v : SetView = record (set_at sets k) { waiters = c } in
    elim (cases_eq n k) [
      | inl e ↦
          let a : (set_at (waited_off k sets) n).waiters ≡ (set_at sets k).waiters - 1 = ap (λ (x : SetView). x.waiters) (at_same sets k n v in' e) in
          let b : (set_at sets k).waiters ≡ (set_at sets n).waiters = ap (λ (m : ℕ). (set_at sets m).waiters) (sym e) in
          omega (arith, a, b, s.waiters n, ends_here k n e, count_more (begins_wait n) h (Goes k), count_more (ends_wait n) h (Goes k))
      | inr apart ↦
          let a : (set_at (waited_off k sets) n).waiters ≡ (set_at sets n).waiters = ap (λ (x : SetView). x.waiters) (at_other sets k n v apart) in
          omega (arith, a, s.waiters n, ends_there k n apart, count_more (begins_wait n) h (Goes k), count_more (ends_wait n) h (Goes k))
    ]

pub waited_on_stands : (k : ℕ) (h : List Event) (sets : List SetView) → k < length sets → StandsFor h sets → StandsFor (h ++ Waits k ∷ []) (waited_on k sets)
waited_on_stands k h sets in' s = record {
  made = length-set sets k (record (set_at sets k) { waiters = (set_at sets k).waiters + 1 }) ∙ s.made ∙ sym (omega (arith, count_more is_made h (Waits k)));
  members = λ n. waits_members k ((set_at sets k).waiters + 1) sets in' n ∙ s.members n ∙ sym (still (members_by n h)) ∙ sym (members_append h (Waits k ∷ []) n);
  waiters = on_waiters k h sets in' s;
}

pub waited_off_stands : (k : ℕ) (h : List Event) (sets : List SetView) → k < length sets → 0 < (set_at sets k).waiters → StandsFor h sets → StandsFor (h ++ Goes k ∷ []) (waited_off k sets)
waited_off_stands k h sets in' some s = record {
  made = length-set sets k (record (set_at sets k) { waiters = (set_at sets k).waiters - 1 }) ∙ s.made ∙ sym (omega (arith, count_more is_made h (Goes k)));
  members = λ n. waits_members k ((set_at sets k).waiters - 1) sets in' n ∙ s.members n ∙ sym (still (members_by n h)) ∙ sym (members_append h (Goes k ∷ []) n);
  waiters = off_waiters k h sets in' some s;
}

pub none_stand : StandsFor [] []
none_stand = record { made = refl; members = λ n. refl; waiters = λ n. refl }
