-- Members by their times: lists of one set.
use Rattle.std.proofs.Common.{◌≡◌, ℕ, ◌<◌, sym, ap, refl, ◌∙◌, subst, arith, Bool, true, false, not, if◌then◌else◌, List, [], ◌∷◌, ◌++◌, get_or, set, length, Option, Some, None}
use Rattle.std.proofs.lemmas.List.{map-set, get_or-map}
use Rattle.std.proofs.lemmas.Bool.{eqb-true, eq-eqb, ne_eqb, both_ways}
use Rattle.std.proofs.lemmas.Cmp.{ranked}
use Rattle.std.proofs.lemmas.Option.{same_Some}
use Rattle.std.proofs.lemmas.Map.Keys.{sorted_head, sorted_tail}
use Rattle.std.proofs.Math.Seq.{map-set_same}
use Rattle.std.specs.Cmp.{nat_cmp_is, unsigned_tied}
use Rattle.std.specs.List.{AllByRecursion}
use Rattle.std.specs.List.Sorted.{IsStrictlySortedBy}
use Rattle.std.specs.Ordering.{nat_cmp}
use Rattle.std.specs.declared.cmp.Ordering.TheVariants.{Less, Greater}
use Rattle.std.specs.BTreeMap.{is_at, insert_entry}
use Rattle.std.specs.Map.{keys_of, values_of, lookup, remove_entry}
use Rattle.waitables.specs.declared.place.Place.{Place}
use Rattle.waitables.specs.declared.sets.WaitableSet.{WaitableSet}
use Rattle.waitables.specs.Sets.{without}
use Rattle.waitables.specs.Placing.{entries_of, timed, timed_at, waits, times_without, AtHome}

pub timed_is : (sets : List WaitableSet) (k : ℕ) (s : WaitableSet) → k < length sets → s ≡ get_or sets k s → timed_at (timed sets) k ≡ s.by_time.entries
timed_is sets k s h e = get_or-map entries_of sets k s [] h ∙ ap entries_of (sym e)

pub taken_out : (sets : List WaitableSet) (place : Place) (s later : WaitableSet) → place.set < length sets → s ≡ get_or sets place.set s → later.by_time.entries ≡ remove_entry (is_at (nat_cmp place.time)) s.by_time.entries → timed (set sets place.set later) ≡ times_without place (timed sets)
taken_out sets place s later h e r =
    map-set entries_of sets place.set later
    ∙ ap (λ (es : List (ℕ × ℕ)). set (timed sets) place.set es) (r ∙ ap (remove_entry (is_at (nat_cmp place.time))) (sym (timed_is sets place.set s h e)))

pub waits_same : (sets : List WaitableSet) (k : ℕ) (s later : WaitableSet) → s ≡ get_or sets k s → later.waiters ≡ s.waiters → waits (set sets k later) ≡ waits sets
waits_same sets k s later e w = map-set_same (λ (x : WaitableSet). x.waiters) sets k later s (w ∙ ap (λ (x : WaitableSet). x.waiters) e)

-- times that are compared
pub at_true : (t k : ℕ) → is_at (nat_cmp t) k ≡ true → t ≡ k
at_true t k h = eqb-true t k (sym (unsigned_tied t k) ∙ h)

pub at_same_key : (t k : ℕ) → t ≡ k → is_at (nat_cmp t) k ≡ true
at_same_key t k h = unsigned_tied t k ∙ eq-eqb t k h

pub at_apart : (t k : ℕ) → (t ≡ k → ⊥) → is_at (nat_cmp t) k ≡ false
at_apart t k h = unsigned_tied t k ∙ ne_eqb t k h

less_is : (k y : ℕ) → nat_cmp k y ≡ Less → k < y
less_is k y h = ranked k y Less (sym h)

is_less : (k y : ℕ) → k < y → nat_cmp k y ≡ Less
is_less k y h = sym (nat_cmp_is k y Less h)

-- What the places say, but for one waitable, is what they said before.
pub record SameElse (w : ℕ) (f g : ℕ → Option Place) : Type 0 where
  pub others : (v : ℕ) → (v ≡ w → ⊥) → g v ≡ f v

-- the members of a set are at home, and none of them is this waitable
pub record Stayed (w n : ℕ) (g : ℕ → Option Place) (before after : List (ℕ × ℕ)) : Type 0 where
  pub home : AtHome g n after
  pub members : without w (values_of before) ≡ values_of after

without_other : (w x : ℕ) (xs : List ℕ) → (x ≡ w → ⊥) → without w (x ∷ xs) ≡ x ∷ without w xs
without_other w x xs h = ap (λ (b : Bool). if not b then x ∷ without w xs else without w xs) (ne_eqb x w h)

without_this : (w x : ℕ) (xs : List ℕ) → x ≡ w → without w (x ∷ xs) ≡ without w xs
without_this w x xs h = ap (λ (b : Bool). if not b then x ∷ without w xs else without w xs) (eq-eqb x w h)

-- A member that isn't this waitable stays at its place.
stay_more : (w n : ℕ) (f g : ℕ → Option Place) (x : ℕ × ℕ) (xs ys : List (ℕ × ℕ)) → SameElse w f g → (x.1 ≡ w → ⊥) → f x.1 ≡ Some (record { set = n; time = x.0 }) → Stayed w n g xs ys → Stayed w n g (x ∷ xs) (x ∷ ys)
stay_more w n f g x xs ys same apart at rest = record {
  home = (same.others x.1 apart ∙ at, rest.home);
  members = without_other w x.1 (values_of xs) apart ∙ ap (λ (vs : List ℕ). x.1 ∷ vs) rest.members;
}

-- a set that the waitable isn't in
pub others_stay : (w n : ℕ) (f g : ℕ → Option Place) (es : List (ℕ × ℕ)) → SameElse w f g → ((t : ℕ) → f w ≡ Some (record { set = n; time = t }) → ⊥) → AtHome f n es → Stayed w n g es es
others_stay w n f g [] same none h = record { home = tt; members = refl }
others_stay w n f g (x ∷ es) same none h =
    stay_more w n f g x es es same (λ e. none x.0 (ap f (sym e) ∙ h.0)) h.0 (others_stay w n f g es same none h.1)

-- the members that joined after it
later_stay : (w n t : ℕ) (f g : ℕ → Option Place) (es : List (ℕ × ℕ)) → SameElse w f g → f w ≡ Some (record { set = n; time = t }) → AtHome f n es → AllByRecursion (λ y. nat_cmp t y ≡ Less) (keys_of es) → Stayed w n g es es
later_stay w n t f g [] same at h low = record { home = tt; members = refl }
later_stay w n t f g (x ∷ es) same at h low =
    let past : t < x.0 = less_is t x.0 low.0 in
    stay_more w n f g x es es same
    (λ e. let p : ◌≡◌ {A = Option Place} (Some (record { set = n; time = t })) (Some (record { set = n; time = x.0 })) = sym at ∙ ap f (sym e) ∙ h.0 in let q : t ≡ x.0 = ap (λ (o : Place). o.time) (same_Some (record { set = n; time = t }) (record { set = n; time = x.0 }) p) in omega arith)
    h.0 (later_stay w n t f g es same at h.1 low.1)

-- The set that it is in: it is taken out.
out_if : (w n t : ℕ) (f g : ℕ → Option Place) (x : ℕ × ℕ) (es : List (ℕ × ℕ)) (b : Bool) → is_at (nat_cmp t) x.0 ≡ b → SameElse w f g → f w ≡ Some (record { set = n; time = t }) → AtHome f n (x ∷ es) → AllByRecursion (λ y. nat_cmp x.0 y ≡ Less) (keys_of es) → (if b then Some x.1 else lookup (is_at (nat_cmp t)) es) ≡ Some w
    → (lookup (is_at (nat_cmp t)) es ≡ Some w → Stayed w n g es (remove_entry (is_at (nat_cmp t)) es)) → Stayed w n g (x ∷ es) (if b then es else x ∷ remove_entry (is_at (nat_cmp t)) es)
out_if w n t f g x es true at same is h low found rest =
    let e : x.1 ≡ w = cc in
    let low' : AllByRecursion (λ y. nat_cmp t y ≡ Less) (keys_of es) = subst (λ (k : ℕ). AllByRecursion (λ y. nat_cmp k y ≡ Less) (keys_of es)) (sym (at_true t x.0 at)) low in
    let s : Stayed w n g es es = later_stay w n t f g es same is h.1 low' in
    record { home = s.home; members = without_this w x.1 (values_of es) e ∙ s.members }
out_if w n t f g x es false at same is h low found rest =
    stay_more w n f g x es (remove_entry (is_at (nat_cmp t)) es) same
    (λ e. let p : ◌≡◌ {A = Option Place} (Some (record { set = n; time = t })) (Some (record { set = n; time = x.0 })) = sym is ∙ ap f (sym e) ∙ h.0 in let q : t ≡ x.0 = ap (λ (o : Place). o.time) (same_Some (record { set = n; time = t }) (record { set = n; time = x.0 }) p) in both_ways (is_at (nat_cmp t) x.0) at (at_same_key t x.0 q))
    h.0 (rest found)

pub out_stay : (w n t : ℕ) (f g : ℕ → Option Place) (es : List (ℕ × ℕ)) → SameElse w f g → f w ≡ Some (record { set = n; time = t }) → AtHome f n es → IsStrictlySortedBy nat_cmp (keys_of es) → lookup (is_at (nat_cmp t)) es ≡ Some w → Stayed w n g es (remove_entry (is_at (nat_cmp t)) es)
out_stay w n t f g [] same is h rise found = cc
out_stay w n t f g (x ∷ es) same is h rise found =
    out_if w n t f g x es (is_at (nat_cmp t) x.0) refl same is h (sorted_head nat_cmp x.0 (keys_of es) rise) found
    (out_stay w n t f g es same is h.1 (sorted_tail nat_cmp x.0 (keys_of es) rise))

-- times that rise, once an entry is taken out
all_out_if : (P : ℕ → Type 0) (b : Bool) (x : ℕ × ℕ) (es rest : List (ℕ × ℕ)) → P x.0 → AllByRecursion P (keys_of es) → AllByRecursion P (keys_of rest) → AllByRecursion P (keys_of (if b then es else x ∷ rest))
all_out_if P true x es rest p h k = h
all_out_if P false x es rest p h k = (p, k)

all_out : (P : ℕ → Type 0) (test : ℕ → Bool) (es : List (ℕ × ℕ)) → AllByRecursion P (keys_of es) → AllByRecursion P (keys_of (remove_entry test es))
all_out P test [] h = tt
all_out P test (x ∷ es) h = all_out_if P (test x.0) x es (remove_entry test es) h.0 h.1 (all_out P test es h.1)

rise_out_if : (b : Bool) (x : ℕ × ℕ) (es rest : List (ℕ × ℕ)) → IsStrictlySortedBy nat_cmp (keys_of es) → AllByRecursion (λ y. nat_cmp x.0 y ≡ Less) (keys_of rest) → IsStrictlySortedBy nat_cmp (keys_of rest) → IsStrictlySortedBy nat_cmp (keys_of (if b then es else x ∷ rest))
unfolding IsStrictlySortedBy
rise_out_if true x es rest s l r = s
rise_out_if false x es rest s l r = (l, r)

pub rise_out : (test : ℕ → Bool) (es : List (ℕ × ℕ)) → IsStrictlySortedBy nat_cmp (keys_of es) → IsStrictlySortedBy nat_cmp (keys_of (remove_entry test es))
unfolding IsStrictlySortedBy
rise_out test [] h = tt
rise_out test (x ∷ es) h = rise_out_if (test x.0) x es (remove_entry test es) h.1 (all_out (λ y. nat_cmp x.0 y ≡ Less) test es h.0) (rise_out test es h.1)

-- look-ups at other times
lookup_out_if : (q t : ℕ) (b : Bool) (x : ℕ × ℕ) (es rest : List (ℕ × ℕ)) → is_at (nat_cmp t) x.0 ≡ b → (q ≡ t → ⊥) → lookup (is_at (nat_cmp q)) rest ≡ lookup (is_at (nat_cmp q)) es → lookup (is_at (nat_cmp q)) (if b then es else x ∷ rest) ≡ lookup (is_at (nat_cmp q)) (x ∷ es)
lookup_out_if q t true x es rest at apart h =
    sym (ap (λ (k : Bool). if k then Some x.1 else lookup (is_at (nat_cmp q)) es) (at_apart q x.0 (λ e. apart (e ∙ sym (at_true t x.0 at)))))
lookup_out_if q t false x es rest at apart h = ap (λ (o : Option ℕ). if is_at (nat_cmp q) x.0 then Some x.1 else o) h

pub lookup_out : (q t : ℕ) (es : List (ℕ × ℕ)) → (q ≡ t → ⊥) → lookup (is_at (nat_cmp q)) (remove_entry (is_at (nat_cmp t)) es) ≡ lookup (is_at (nat_cmp q)) es
lookup_out q t [] apart = refl
lookup_out q t (x ∷ es) apart = lookup_out_if q t (is_at (nat_cmp t) x.0) x es (remove_entry (is_at (nat_cmp t)) es) refl apart (lookup_out q t es apart)

-- A member that joins now is the last.
abbrev pub Before : ℕ → List (ℕ × ℕ) → Type 0
Before t es = AllByRecursion (λ k. k < t) (keys_of es)

pub put_last : (t w : ℕ) (es : List (ℕ × ℕ)) → Before t es → insert_entry nat_cmp es t w ≡ es ++ (t, w) ∷ []
put_last t w [] h = refl
put_last t w (x ∷ es) h =
    let past : x.0 < t = h.0 in
    let g : Greater ≡ nat_cmp t x.0 = nat_cmp_is t x.0 Greater past in
    rw (← g) (ap (λ (ys : List (ℕ × ℕ)). x ∷ ys) (put_last t w es h.1))

pub home_last : (f : ℕ → Option Place) (n t w : ℕ) (es : List (ℕ × ℕ)) → AtHome f n es → f w ≡ Some (record { set = n; time = t }) → AtHome f n (es ++ (t, w) ∷ [])
home_last f n t w [] h at = (at, tt)
home_last f n t w (x ∷ es) h at = (h.0, home_last f n t w es h.1 at)

all_last : (P : ℕ → Type 0) (t w : ℕ) (es : List (ℕ × ℕ)) → AllByRecursion P (keys_of es) → P t → AllByRecursion P (keys_of (es ++ (t, w) ∷ []))
all_last P t w [] h p = (p, tt)
all_last P t w (x ∷ es) h p = (h.0, all_last P t w es h.1 p)

pub rise_last : (t w : ℕ) (es : List (ℕ × ℕ)) → IsStrictlySortedBy nat_cmp (keys_of es) → Before t es → IsStrictlySortedBy nat_cmp (keys_of (es ++ (t, w) ∷ []))
unfolding IsStrictlySortedBy
rise_last t w [] h low = (tt, tt)
rise_last t w (x ∷ es) h low = (all_last (λ y. nat_cmp x.0 y ≡ Less) t w es h.0 (is_less x.0 t low.0), rise_last t w es h.1 low.1)

pub lookup_last : (t w : ℕ) (es : List (ℕ × ℕ)) → Before t es → lookup (is_at (nat_cmp t)) (es ++ (t, w) ∷ []) ≡ Some w
lookup_last t w [] low = ap (λ (b : Bool). if b then Some w else None) (at_same_key t t refl)
lookup_last t w (x ∷ es) low =
    let past : x.0 < t = low.0 in
    ap (λ (b : Bool). if b then Some x.1 else lookup (is_at (nat_cmp t)) (es ++ (t, w) ∷ [])) (at_apart t x.0 (λ e. omega arith)) ∙ lookup_last t w es low.1

lookup_first_if : (b : Bool) (v y : ℕ) (o p : Option ℕ) → (if b then Some y else o) ≡ Some v → (o ≡ Some v → p ≡ Some v) → (if b then Some y else p) ≡ Some v
lookup_first_if true v y o p h k = h
lookup_first_if false v y o p h k = k h

pub lookup_first : (q v : ℕ) (es later : List (ℕ × ℕ)) → lookup (is_at (nat_cmp q)) es ≡ Some v → lookup (is_at (nat_cmp q)) (es ++ later) ≡ Some v
lookup_first q v [] later h = cc
lookup_first q v (x ∷ es) later h = lookup_first_if (is_at (nat_cmp q) x.0) v x.1 (lookup (is_at (nat_cmp q)) es) (lookup (is_at (nat_cmp q)) (es ++ later)) h (lookup_first q v es later)

-- One that joined can be taken out again.
pub out_last : (t w : ℕ) (es : List (ℕ × ℕ)) → Before t es → remove_entry (is_at (nat_cmp t)) (es ++ (t, w) ∷ []) ≡ es
out_last t w [] low = ap (λ (b : Bool). if b then [] else (t, w) ∷ []) (at_same_key t t refl)
out_last t w (x ∷ es) low =
    let past : x.0 < t = low.0 in
    ap (λ (b : Bool). if b then es ++ (t, w) ∷ [] else x ∷ remove_entry (is_at (nat_cmp t)) (es ++ (t, w) ∷ [])) (at_apart t x.0 (λ e. omega arith)) ∙ ap (λ (ys : List (ℕ × ℕ)). x ∷ ys) (out_last t w es low.1)

-- Taking one out and putting another last are done in either order.
out_append_if : (b : Bool) (x : ℕ × ℕ) (es later r : List (ℕ × ℕ)) (s : List (ℕ × ℕ)) → s ≡ r ++ later → (if b then es ++ later else x ∷ s) ≡ (if b then es else x ∷ r) ++ later
out_append_if true x es later r s h = refl
out_append_if false x es later r s h = ap (λ (ys : List (ℕ × ℕ)). x ∷ ys) h

pub out_append : (q t w : ℕ) (es : List (ℕ × ℕ)) → (q ≡ t → ⊥) → remove_entry (is_at (nat_cmp q)) (es ++ (t, w) ∷ []) ≡ remove_entry (is_at (nat_cmp q)) es ++ (t, w) ∷ []
out_append q t w [] h = ap (λ (b : Bool). if b then [] else (t, w) ∷ []) (at_apart q t h)
out_append q t w (x ∷ es) h = out_append_if (is_at (nat_cmp q) x.0) x es ((t, w) ∷ []) (remove_entry (is_at (nat_cmp q)) es) (remove_entry (is_at (nat_cmp q)) (es ++ (t, w) ∷ [])) (out_append q t w es h)
