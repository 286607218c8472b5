-- Waiters, new sets, and what the sets' calls answer of their members.
use Rattle.std.proofs.Common.{◌≡◌, ℕ, ◌<◌, ◌≤◌, sym, ap, refl, ◌∙◌, subst, arith, not, List, [], ◌∷◌, ◌++◌, filter, get_or, set, length, Option, Result, Ok, Err, IfOk, inl, inr, zero, suc}
use Rattle.std.proofs.lemmas.List.{map-set, map-append, get_or-map, length-append, get_or_append_left}
use Rattle.std.proofs.lemmas.Bool.{cases_lt}
use Rattle.std.specs.List.{list_any}
use Rattle.std.specs.List.Sorted.{IsStrictlySortedBy}
use Rattle.std.specs.Ordering.{nat_cmp}
use Rattle.std.specs.BTreeMap.{BTreeMap, is_at}
use Rattle.std.specs.Map.{keys_of, values_of, lookup}
use Rattle.waitables.specs.declared.place.Place.{Place}
use Rattle.waitables.specs.declared.sets.WaitableSet.{WaitableSet}
use Rattle.waitables.specs.Sets.{SetView, no_set, set_at, is_one_of, is_none, ready_of, with_waiters}
use Rattle.waitables.specs.Placing.{shown_set, shown, entries_of, timed, timed_at, is_in, AtHome, StandsAt, Agree, AreTold}
use Rattle.waitables.proofs.Joining.{kept_in, within_shown, length_by}
use Rattle.waitables.proofs.Showing.{same_view, shown_members}
use Rattle.waitables.proofs.Readying.{told_values, any_told}

set_is : (sets : List WaitableSet) (views : List SetView) (k : ℕ) (s : WaitableSet) → shown sets ≡ views → k < length sets → s ≡ get_or sets k s → set_at views k ≡ shown_set s
set_is sets views k s e h at = sym (ap (λ (v : List SetView). set_at v k) e) ∙ get_or-map shown_set sets k s no_set h ∙ ap shown_set (sym at)

pub counted_view : (sets : List WaitableSet) (views : List SetView) (k n : ℕ) (s later : WaitableSet) → shown sets ≡ views → k < length views → s ≡ get_or sets k s → later.by_time ≡ s.by_time → later.waiters ≡ n → shown (set sets k later) ≡ with_waiters k n views
counted_view sets views k n s later e h at m w =
    let here : set_at views k ≡ shown_set s = set_is sets views k s e (within_shown sets views k e h) at in
    let v : SetView = record (set_at views k) { waiters = n } in
    map-set shown_set sets k later
    ∙ ap (λ (x : SetView). set (shown sets) k x) (same_view (shown_set later) v (ap (λ (b : BTreeMap ℕ ℕ). values_of b.entries) m ∙ sym (ap (λ (x : SetView). x.members) here)) w)
    ∙ ap (λ (x : List SetView). set x k v) e

pub waiters_are : (sets : List WaitableSet) (views : List SetView) (k : ℕ) (s : WaitableSet) → shown sets ≡ views → k < length views → s ≡ get_or sets k s → s.waiters ≡ (set_at views k).waiters
waiters_are sets views k s e h at = sym (ap (λ (x : SetView). x.waiters) (set_is sets views k s e (within_shown sets views k e h) at))

pub kept_agrees : (sets : List WaitableSet) (f : ℕ → Option Place) (clock k : ℕ) (s later : WaitableSet) → s ≡ get_or sets k s → later.by_time ≡ s.by_time → Agree (timed sets) f clock → Agree (timed (set sets k later)) f clock
kept_agrees sets f clock k s later at m a =
    let Q : List (List (ℕ × ℕ)) → Type 0 = λ x. Agree x f clock in
    subst Q (sym (kept_in sets k s later at (ap (λ (b : BTreeMap ℕ ℕ). b.entries) m))) a

-- a new set
past_new : (all : List (List (ℕ × ℕ))) (n : ℕ) → length all ≤ n → timed_at (all ++ [] ∷ []) n ≡ []
past_new [] zero h = refl
past_new [] (suc n) h = refl
past_new (x ∷ all) zero h = absurd (omega arith)
past_new (x ∷ all) (suc n) h = past_new all n (omega arith)

new_rises : (all : List (List (ℕ × ℕ))) (f : ℕ → Option Place) (clock n : ℕ) → Agree all f clock → IsStrictlySortedBy nat_cmp (keys_of (timed_at (all ++ [] ∷ []) n))
unfolding IsStrictlySortedBy
new_rises all f clock n a = elim (cases_lt n (length all)) [
  | inl low ↦ subst (λ (es : List (ℕ × ℕ)). IsStrictlySortedBy nat_cmp (keys_of es)) (sym (get_or_append_left all ([] ∷ []) [] n low)) (a.rise n low)
  | inr high ↦ subst (λ (es : List (ℕ × ℕ)). IsStrictlySortedBy nat_cmp (keys_of es)) (sym (past_new all n high)) tt
]

new_homes : (all : List (List (ℕ × ℕ))) (f : ℕ → Option Place) (clock n : ℕ) → Agree all f clock → AtHome f n (timed_at (all ++ [] ∷ []) n)
new_homes all f clock n a = elim (cases_lt n (length all)) [
  | inl low ↦ subst (λ (es : List (ℕ × ℕ)). AtHome f n es) (sym (get_or_append_left all ([] ∷ []) [] n low)) (a.homes n low)
  | inr high ↦ subst (λ (es : List (ℕ × ℕ)). AtHome f n es) (sym (past_new all n high)) tt
]

new_agrees : (all : List (List (ℕ × ℕ))) (f : ℕ → Option Place) (clock : ℕ) → Agree all f clock → Agree (all ++ [] ∷ []) f clock
new_agrees all f clock a = record {
  rise = λ n h. new_rises all f clock n a;
  homes = λ n h. new_homes all f clock n a;
  places = λ w p at.
      let s : StandsAt all clock w p = a.places w p at in
      let there : p.set < length all = s.there in
      record {
        there = omega (arith, length-append all ([] ∷ []));
        past = s.past;
        member = ap (lookup (is_at (nat_cmp p.time))) (get_or_append_left all ([] ∷ []) [] p.set there) ∙ s.member;
      };
}

pub made_agrees : (sets later : List WaitableSet) (f : ℕ → Option Place) (clock : ℕ) (s : WaitableSet) → later ≡ sets ++ s ∷ [] → s.by_time.entries ≡ [] → Agree (timed sets) f clock → Agree (timed later) f clock
made_agrees sets later f clock s e none a =
    let Q : List (List (ℕ × ℕ)) → Type 0 = λ x. Agree x f clock in
    subst Q (sym (ap timed e ∙ map-append entries_of sets (s ∷ []) ∙ ap (λ (es : List (ℕ × ℕ)). timed sets ++ es ∷ []) none)) (new_agrees (timed sets) f clock a)

-- ready members
members_are : (sets : List WaitableSet) (views : List SetView) (k : ℕ) → shown sets ≡ views → values_of (timed_at (timed sets) k) ≡ (set_at views k).members
members_are sets views k e = sym (shown_members sets k) ∙ ap (λ (v : List SetView). (set_at v k).members) e

pub ready_are : (sets : List WaitableSet) (views : List SetView) (f : ℕ → Option Place) (clock k : ℕ) (told : List ℕ) (found : List (ℕ × ℕ)) → shown sets ≡ views → k < length views → Agree (timed sets) f clock → AreTold f k told found → values_of found ≡ ready_of told (set_at views k)
ready_are sets views f clock k told found e h a s =
    let in' : k < length (timed sets) = subst (λ (n : ℕ). k < n) (sym (length_by sets)) (within_shown sets views k e h) in
    told_values f k clock told (timed sets) found a in' s ∙ ap (filter (is_one_of told)) (members_are sets views k e)

pub any_are : (sets : List WaitableSet) (views : List SetView) (f : ℕ → Option Place) (clock k : ℕ) (told : List ℕ) → shown sets ≡ views → k < length views → Agree (timed sets) f clock → list_any (is_in f k) told ≡ not (is_none (ready_of told (set_at views k)))
any_are sets views f clock k told e h a =
    let in' : k < length (timed sets) = subst (λ (n : ℕ). k < n) (sym (length_by sets)) (within_shown sets views k e h) in
    any_told f k clock told (timed sets) a in' ∙ ap (λ (xs : List ℕ). not (is_none (filter (is_one_of told) xs))) (members_are sets views k e)

pub if_ok_is : {E : Type 0} (r : Result (List ℕ) E) (xs ys : List ℕ) → xs ≡ ys → IfOk r (λ m. m ≡ xs) → IfOk r (λ m. m ≡ ys)
if_ok_is (Ok m) xs ys e h = h ∙ e
if_ok_is (Err x) xs ys e h = tt
