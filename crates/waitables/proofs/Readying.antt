-- The members that are told to have an event.
use Rattle.std.proofs.Common.{◌≡◌, ℕ, ◌+◌, ◌<◌, sym, ap, refl, ◌∙◌, subst, arith, Bool, true, false, not, ◌||◌, ◌==◌, if◌then◌else◌, is_some, List, [], ◌∷◌, filter, get_or, take, length, Option, Some, None, inl, inr}
use Rattle.std.proofs.lemmas.Bool.{eqb-true, eq-eqb, ne_eqb, both_ways, cases_eq}
use Rattle.std.proofs.lemmas.List.Folds.{list_any_more}
use Rattle.std.proofs.lemmas.Option.{same_Some}
use Rattle.std.proofs.lemmas.Cmp.{ranked}
use Rattle.std.proofs.lemmas.Map.Keys.{sorted_head, sorted_tail}
use Rattle.std.specs.Cmp.{nat_cmp_is}
use Rattle.std.specs.List.{AllByRecursion, list_any}
use Rattle.std.specs.List.Sorted.{IsStrictlySortedBy}
use Rattle.std.specs.Ordering.{nat_cmp}
use Rattle.std.specs.declared.cmp.Ordering.TheVariants.{Less, Equal, Greater}
use Rattle.std.specs.BTreeMap.{is_at, insert_entry}
use Rattle.std.specs.Map.{keys_of, values_of, lookup}
use Rattle.waitables.specs.declared.place.Place.{Place}
use Rattle.waitables.specs.Sets.{is_one_of, is_none}
use Rattle.waitables.specs.Placing.{timed_at, time_in, is_in, AtHome, Agree, AreTold}
use Rattle.waitables.proofs.Placements.{at_true, at_same_key}

-- Members that aren't this waitable.
abbrev Others : ℕ → List (ℕ × ℕ) → Type 0
Others w es = AllByRecursion (λ e. (w == e.1) ≡ false) es

others_all : (w n : ℕ) (f : ℕ → Option Place) (es : List (ℕ × ℕ)) → ((t : ℕ) → f w ≡ Some (record { set = n; time = t }) → ⊥) → AtHome f n es → Others w es
others_all w n f [] none h = tt
others_all w n f (x ∷ es) none h = (ne_eqb w x.1 (λ e. none x.0 (ap f e ∙ h.0)), others_all w n f es none h.1)

others_later : (w n t : ℕ) (f : ℕ → Option Place) (es : List (ℕ × ℕ)) → f w ≡ Some (record { set = n; time = t }) → AtHome f n es → AllByRecursion (λ y. nat_cmp t y ≡ Less) (keys_of es) → Others w es
others_later w n t f [] at h low = tt
others_later w n t f (x ∷ es) at h low =
    let past : t < x.0 = ranked t x.0 Less (sym low.0) in (
      ne_eqb w x.1 (λ e. let p : ◌≡◌ {A = Option Place} (Some (record { set = n; time = t })) (Some (record { set = n; time = x.0 })) = sym at ∙ ap f e ∙ h.0 in
          let q : t ≡ x.0 = ap (λ (o : Place). o.time) (same_Some (record { set = n; time = t }) (record { set = n; time = x.0 }) p) in omega arith),
      others_later w n t f es at h.1 low.1,
    )

-- two tests that agree but for one waitable
abbrev ButFor : ℕ → (ℕ → Bool) → (ℕ → Bool) → Type 0
ButFor w p q = (x : ℕ) → q x ≡ (p x || (w == x))

or_no : (a b : Bool) → b ≡ false → (a || b) ≡ a
or_no true b h = refl
or_no false b h = h

or_yes : (a b : Bool) → b ≡ true → (a || b) ≡ true
or_yes true b h = refl
or_yes false b h = h

same_filter : (w : ℕ) (p q : ℕ → Bool) (es : List (ℕ × ℕ)) → ButFor w p q → Others w es → filter (λ e. q e.1) es ≡ filter (λ e. p e.1) es
same_filter w p q [] d h = refl
same_filter w p q (x ∷ es) d h =
    ap (λ (b : Bool). if b then x ∷ filter (λ e. q e.1) es else filter (λ e. q e.1) es) (d x.1 ∙ or_no (p x.1) (w == x.1) h.0)
    ∙ ap (λ (ys : List (ℕ × ℕ)). if p x.1 then x ∷ ys else ys) (same_filter w p q es d h.1)

put_first : (t w : ℕ) (es : List (ℕ × ℕ)) → AllByRecursion (λ y. nat_cmp t y ≡ Less) (keys_of es) → insert_entry nat_cmp es t w ≡ (t, w) ∷ es
put_first t w [] h = refl
put_first t w (x ∷ es) h = let e : nat_cmp t x.0 ≡ Less = h.0 in rw e refl

all_kept_if : (P : ℕ → Type 0) (b : Bool) (x : ℕ × ℕ) (es : List (ℕ × ℕ)) → P x.0 → AllByRecursion P (keys_of es) → AllByRecursion P (keys_of (if b then x ∷ es else es))
all_kept_if P true x es p h = (p, h)
all_kept_if P false x es p h = h

all_kept : (P : ℕ → Type 0) (test : ℕ × ℕ → Bool) (es : List (ℕ × ℕ)) → AllByRecursion P (keys_of es) → AllByRecursion P (keys_of (filter test es))
all_kept P test [] h = tt
all_kept P test (x ∷ es) h = all_kept_if P (test x) x (filter test es) h.0 (all_kept P test es h.1)

-- the time that a look-up finds is one of the times
found_if : (P : ℕ → Type 0) (t w v k : ℕ) (b : Bool) (o : Option ℕ) → is_at (nat_cmp t) k ≡ b → (if b then Some v else o) ≡ Some w → P k → (o ≡ Some w → P t) → P t
found_if P t w v k true o at found p rest = subst P (sym (at_true t k at)) p
found_if P t w v k false o at found p rest = rest found

found_time : (P : ℕ → Type 0) (t w : ℕ) (es : List (ℕ × ℕ)) → lookup (is_at (nat_cmp t)) es ≡ Some w → AllByRecursion P (keys_of es) → P t
found_time P t w [] found h = cc
found_time P t w (x ∷ es) found h = found_if P t w x.1 x.0 (is_at (nat_cmp t) x.0) (lookup (is_at (nat_cmp t)) es) refl found h.0 (λ g. found_time P t w es g h.1)

-- the waitable's own entry
own_first : (t w : ℕ) (b : Bool) (x : ℕ × ℕ) (es : List (ℕ × ℕ)) → t ≡ x.0 → x.1 ≡ w → AllByRecursion (λ y. nat_cmp t y ≡ Less) (keys_of es) → insert_entry nat_cmp (if b then x ∷ es else es) t w ≡ x ∷ es
own_first t w true x es e v low =
    let k : nat_cmp t x.0 ≡ Equal = sym (nat_cmp_is t x.0 Equal e) in
    rw k (ap (λ (y : ℕ). (x.0, y) ∷ es) (sym v))
own_first t w false x es e v low = put_first t w es low ∙ ap (λ (y : ℕ). (y, w) ∷ es) e ∙ ap (λ (y : ℕ). (x.0, y) ∷ es) (sym v)

-- an entry before it
own_later : (t w : ℕ) (b : Bool) (x : ℕ × ℕ) (es fs : List (ℕ × ℕ)) → x.0 < t → insert_entry nat_cmp es t w ≡ fs → insert_entry nat_cmp (if b then x ∷ es else es) t w ≡ (if b then x ∷ fs else fs)
own_later t w true x es fs past h =
    let k : nat_cmp t x.0 ≡ Greater = sym (nat_cmp_is t x.0 Greater past) in
    rw k (ap (λ (ys : List (ℕ × ℕ)). x ∷ ys) h)
own_later t w false x es fs past h = h

one_told_if : (w n t : ℕ) (f : ℕ → Option Place) (p q : ℕ → Bool) (x : ℕ × ℕ) (es : List (ℕ × ℕ)) (b : Bool) → is_at (nat_cmp t) x.0 ≡ b → ButFor w p q → f w ≡ Some (record { set = n; time = t }) → AtHome f n (x ∷ es) → AllByRecursion (λ y. nat_cmp x.0 y ≡ Less) (keys_of es)
    → (if b then Some x.1 else lookup (is_at (nat_cmp t)) es) ≡ Some w → (lookup (is_at (nat_cmp t)) es ≡ Some w → insert_entry nat_cmp (filter (λ e. p e.1) es) t w ≡ filter (λ e. q e.1) es)
    → insert_entry nat_cmp (filter (λ e. p e.1) (x ∷ es)) t w ≡ filter (λ e. q e.1) (x ∷ es)
one_told_if w n t f p q x es true at d is h low found rest =
    let v : x.1 ≡ w = same_Some x.1 w found in
    let e : t ≡ x.0 = at_true t x.0 at in
    let low' : AllByRecursion (λ y. nat_cmp t y ≡ Less) (keys_of es) = subst (λ (k : ℕ). AllByRecursion (λ y. nat_cmp k y ≡ Less) (keys_of es)) (sym e) low in
    own_first t w (p x.1) x (filter (λ e. p e.1) es) e v (all_kept (λ y. nat_cmp t y ≡ Less) (λ e. p e.1) es low')
    ∙ ap (λ (ys : List (ℕ × ℕ)). x ∷ ys) (sym (same_filter w p q es d (others_later w n t f es is h.1 low')))
    ∙ sym (ap (λ (b : Bool). if b then x ∷ filter (λ e. q e.1) es else filter (λ e. q e.1) es) (d x.1 ∙ or_yes (p x.1) (w == x.1) (eq-eqb w x.1 (sym v))))
one_told_if w n t f p q x es false at d is h low found rest =
    let past : x.0 < t = ranked x.0 t Less (sym (found_time (λ y. nat_cmp x.0 y ≡ Less) t w es found low)) in
    let apart : (w == x.1) ≡ false = ne_eqb w x.1 (λ e. let k : ◌≡◌ {A = Option Place} (Some (record { set = n; time = t })) (Some (record { set = n; time = x.0 })) = sym is ∙ ap f e ∙ h.0 in
    both_ways (is_at (nat_cmp t) x.0) at (at_same_key t x.0 (ap (λ (o : Place). o.time) (same_Some (record { set = n; time = t }) (record { set = n; time = x.0 }) k)))) in
    own_later t w (p x.1) x (filter (λ e. p e.1) es) (filter (λ e. q e.1) es) past (rest found)
    ∙ sym (ap (λ (b : Bool). if b then x ∷ filter (λ e. q e.1) es else filter (λ e. q e.1) es) (d x.1 ∙ or_no (p x.1) (w == x.1) apart))

one_told : (w n t : ℕ) (f : ℕ → Option Place) (p q : ℕ → Bool) (es : List (ℕ × ℕ)) → ButFor w p q → f w ≡ Some (record { set = n; time = t }) → AtHome f n es → IsStrictlySortedBy nat_cmp (keys_of es) → lookup (is_at (nat_cmp t)) es ≡ Some w → insert_entry nat_cmp (filter (λ e. p e.1) es) t w ≡ filter (λ e. q e.1) es
one_told w n t f p q [] d is h rise found = cc
one_told w n t f p q (x ∷ es) d is h rise found =
    one_told_if w n t f p q x es (is_at (nat_cmp t) x.0) refl d is h (sorted_head nat_cmp x.0 (keys_of es) rise) found
    (one_told w n t f p q es d is h.1 (sorted_tail nat_cmp x.0 (keys_of es) rise))

-- what a look-up of a waitable's time tells
time_some_if : (n t : ℕ) (p : Place) (b : Bool) → (p.set == n) ≡ b → (if b then Some p.time else None) ≡ Some t → ◌≡◌ {A = Option Place} (Some p) (Some (record { set = n; time = t }))
time_some_if n t p true is e =
    ap (λ (k : ℕ). (let q : Place = record { set = k; time = p.time } in Some q)) (eqb-true p.set n is)
    ∙ ap (λ (k : ℕ). (let q : Place = record { set = n; time = k } in Some q)) (same_Some p.time t e)
time_some_if n t p false is e = cc

time_some : (n t : ℕ) (o : Option Place) → time_in n o ≡ Some t → o ≡ Some (record { set = n; time = t })
time_some n t None e = cc
time_some n t (Some p) e = time_some_if n t p (p.set == n) refl e

time_none : (n t : ℕ) (o : Option Place) → time_in n o ≡ None → o ≡ Some (record { set = n; time = t }) → ⊥
time_none n t o e at =
    let q : ◌≡◌ {A = Option ℕ} (if n == n then Some t else None) None = sym (ap (time_in n) at) ∙ e in
    let r : ◌≡◌ {A = Option ℕ} (Some t) None = sym (ap (λ (b : Bool). (let x : Option ℕ = if b then Some t else None in x)) (eq-eqb n n refl)) ∙ q in
    cc

told_more : (told : List ℕ) (i d w : ℕ) → i < length told → w ≡ get_or told i d → ButFor w (is_one_of (take i told)) (is_one_of (take (i + 1) told))
told_more told i d w h e = λ x. list_any_more (λ other. other == x) told i d h ∙ ap (λ (y : ℕ). is_one_of (take i told) x || (y == x)) (sym e)

none_told : (es : List (ℕ × ℕ)) → filter (λ e. is_one_of [] e.1) es ≡ []
none_told [] = refl
none_told (x ∷ es) = none_told es

pub told_start : (f : ℕ → Option Place) (n : ℕ) → AreTold f n [] []
told_start f n = λ all clock a h. sym (none_told (timed_at all n))

pub told_one : (f : ℕ → Option Place) (n t w i d : ℕ) (told : List ℕ) (es later : List (ℕ × ℕ)) → i < length told → w ≡ get_or told i d → time_in n (f w) ≡ Some t → later ≡ insert_entry nat_cmp es t w → AreTold f n (take i told) es → AreTold f n (take (i + 1) told) later
told_one f n t w i d told es later h e is put s = λ all clock a in'.
    let at : f w ≡ Some (record { set = n; time = t }) = time_some n t (f w) is in
    put ∙ ap (λ (ys : List (ℕ × ℕ)). insert_entry nat_cmp ys t w) (s all clock a in')
    ∙ one_told w n t f (is_one_of (take i told)) (is_one_of (take (i + 1) told)) (timed_at all n) (told_more told i d w h e) at (a.homes n in') (a.rise n in') (a.places w (record { set = n; time = t }) at).member

pub told_other : (f : ℕ → Option Place) (n w i d : ℕ) (told : List ℕ) (es : List (ℕ × ℕ)) → i < length told → w ≡ get_or told i d → time_in n (f w) ≡ None → AreTold f n (take i told) es → AreTold f n (take (i + 1) told) es
told_other f n w i d told es h e is s = λ all clock a in'.
    s all clock a in' ∙ sym (same_filter w (is_one_of (take i told)) (is_one_of (take (i + 1) told)) (timed_at all n) (told_more told i d w h e) (others_all w n f (timed_at all n) (λ t at. time_none n t (f w) is at) (a.homes n in')))

values_filter_if : (b : Bool) (x : ℕ × ℕ) (ys : List (ℕ × ℕ)) → values_of (if b then x ∷ ys else ys) ≡ (if b then x.1 ∷ values_of ys else values_of ys)
values_filter_if true x ys = refl
values_filter_if false x ys = refl

values_filter : (p : ℕ → Bool) (es : List (ℕ × ℕ)) → values_of (filter (λ e. p e.1) es) ≡ filter p (values_of es)
values_filter p [] = refl
values_filter p (x ∷ es) = values_filter_if (p x.1) x (filter (λ e. p e.1) es) ∙ ap (λ (ys : List ℕ). if p x.1 then x.1 ∷ ys else ys) (values_filter p es)

pub told_values : (f : ℕ → Option Place) (n clock : ℕ) (told : List ℕ) (all : List (List (ℕ × ℕ))) (found : List (ℕ × ℕ)) → Agree all f clock → n < length all → AreTold f n told found → values_of found ≡ filter (is_one_of told) (values_of (timed_at all n))
told_values f n clock told all found a h s = ap values_of (s all clock a h) ∙ values_filter (is_one_of told) (timed_at all n)

-- whether one of them is a member
eqb_comm : (a b : ℕ) → (a == b) ≡ (b == a)
eqb_comm a b = elim (cases_eq a b) [
  | inl e ↦ eq-eqb a b e ∙ sym (eq-eqb b a (sym e))
  | inr n ↦ ne_eqb a b n ∙ sym (ne_eqb b a (λ e. n (sym e)))
]

any_agree : (p q : ℕ → Bool) (xs : List ℕ) → ((x : ℕ) → p x ≡ q x) → list_any p xs ≡ list_any q xs
any_agree p q [] h = refl
any_agree p q (x ∷ xs) h = ap (λ (b : Bool). b || list_any p xs) (h x) ∙ ap (λ (b : Bool). q x || b) (any_agree p q xs h)

or_swap : (a b c d : Bool) → ((a || b) || (c || d)) ≡ ((a || c) || (b || d))
or_swap true b c d = refl
or_swap false true true d = refl
or_swap false true false d = refl
or_swap false false c d = refl

any_or : (p q : ℕ → Bool) (xs : List ℕ) → list_any (λ x. p x || q x) xs ≡ (list_any p xs || list_any q xs)
any_or p q [] = refl
any_or p q (x ∷ xs) = ap (λ (b : Bool). (p x || q x) || b) (any_or p q xs) ∙ or_swap (p x) (q x) (list_any p xs) (list_any q xs)

any_none : (xs : List ℕ) → list_any (λ x. false) xs ≡ false
any_none [] = refl
any_none (x ∷ xs) = any_none xs

any_both : (told members : List ℕ) → list_any (is_one_of members) told ≡ list_any (is_one_of told) members
any_both [] members = sym (any_none members)
any_both (w ∷ told) members =
    ap (λ (b : Bool). b || list_any (is_one_of members) told) (any_agree (λ o. o == w) (λ o. w == o) members (λ o. eqb_comm o w))
    ∙ ap (λ (b : Bool). list_any (λ o. w == o) members || b) (any_both told members)
    ∙ sym (any_or (λ o. w == o) (is_one_of told) members)

any_filter_if : (b : Bool) (x : ℕ) (ys : List ℕ) (a : Bool) → a ≡ not (is_none ys) → (b || a) ≡ not (is_none (if b then x ∷ ys else ys))
any_filter_if true x ys a h = refl
any_filter_if false x ys a h = h

any_filter : (p : ℕ → Bool) (xs : List ℕ) → list_any p xs ≡ not (is_none (filter p xs))
any_filter p [] = refl
any_filter p (x ∷ xs) = any_filter_if (p x) x (filter p xs) (list_any p xs) (any_filter p xs)

found_member_if : (w v t k : ℕ) (b rest : Bool) (o : Option ℕ) → (if b then Some v else o) ≡ Some w → (o ≡ Some w → rest ≡ true) → ((v == w) || rest) ≡ true
found_member_if w v t k true rest o found h = ap (λ (b : Bool). b || rest) (eq-eqb v w (same_Some v w found))
found_member_if w v t k false rest o found h = or_yes (v == w) rest (h found)

found_member : (w t : ℕ) (es : List (ℕ × ℕ)) → lookup (is_at (nat_cmp t)) es ≡ Some w → is_one_of (values_of es) w ≡ true
found_member w t [] found = cc
found_member w t (x ∷ es) found = found_member_if w x.1 t x.0 (is_at (nat_cmp t) x.0) (is_one_of (values_of es) w) (lookup (is_at (nat_cmp t)) es) found (found_member w t es)

others_none : (w : ℕ) (es : List (ℕ × ℕ)) → Others w es → is_one_of (values_of es) w ≡ false
others_none w [] h = refl
others_none w (x ∷ es) h = ap (λ (b : Bool). b || is_one_of (values_of es) w) (eqb_comm x.1 w ∙ h.0) ∙ others_none w es h.1

in_by_time : (f : ℕ → Option Place) (n clock w : ℕ) (all : List (List (ℕ × ℕ))) (o : Option ℕ) → time_in n (f w) ≡ o → Agree all f clock → n < length all → is_some o ≡ is_one_of (values_of (timed_at all n)) w
in_by_time f n clock w all None is a h = sym (others_none w (timed_at all n) (others_all w n f (timed_at all n) (λ t at. time_none n t (f w) is at) (a.homes n h)))
in_by_time f n clock w all (Some t) is a h =
    sym (found_member w t (timed_at all n) (a.places w (record { set = n; time = t }) (time_some n t (f w) is)).member)

pub any_told : (f : ℕ → Option Place) (n clock : ℕ) (told : List ℕ) (all : List (List (ℕ × ℕ))) → Agree all f clock → n < length all → list_any (is_in f n) told ≡ not (is_none (filter (is_one_of told) (values_of (timed_at all n))))
any_told f n clock told all a h =
    any_agree (is_in f n) (is_one_of (values_of (timed_at all n))) told (λ w. in_by_time f n clock w all (time_in n (f w)) refl a h)
    ∙ any_both told (values_of (timed_at all n))
    ∙ any_filter (is_one_of told) (values_of (timed_at all n))

pub told_at_start : (f : ℕ → Option Place) (n : ℕ) (told : List ℕ) (es : List (ℕ × ℕ)) → es ≡ [] → AreTold f n (take 0 told) es
told_at_start f n told es e = λ all clock a h. e ∙ told_start f n all clock a h

pub not_some : (o : Option ℕ) → ((x : ℕ) → o ≡ Some x → ⊥) → o ≡ None
not_some None h = refl
not_some (Some x) h = absurd (h x refl)
