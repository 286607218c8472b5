-- Joining and leaving: what the calls of maps leave of members and places.
use Rattle.std.proofs.Common.{◌≡◌, ℕ, ◌+◌, ◌<◌, sym, ap, refl, ◌∙◌, subst, arith, Bool, if◌then◌else◌, List, get_or, set, length, Option, Some, None, Result, Ok, Err, OnErr, IfSome}
use Rattle.std.proofs.lemmas.List.{map-set, length-map, length-set}
use Rattle.std.proofs.Math.Seq.{map-set_same}
use Rattle.std.specs.Ordering.{nat_cmp}
use Rattle.std.specs.BTreeMap.{BTreeMap, get, is_at, insert_entry}
use Rattle.std.specs.Map.{lookup}
use Rattle.waitables.specs.declared.place.Place.{Place}
use Rattle.waitables.specs.declared.sets.WaitableSet.{WaitableSet}
use Rattle.waitables.specs.Sets.{SetView, left, joined}
use Rattle.waitables.specs.Placing.{shown, entries_of, timed, timed_at, waits, times_out, times_with, times_without, Agree}
use Rattle.waitables.proofs.Placements.{SameElse, timed_is, at_same_key, at_apart}
use Rattle.waitables.proofs.Agreements.{length_out, out_agrees, put, put_is, put_out, put_agrees, out_of_put}
use Rattle.waitables.proofs.Showing.{long_shown, left_shown, joined_shown}

pub on_err : {A E : Type 0} (r : Result A E) (P : Type 0) → P → OnErr r P
on_err (Ok x) P p = tt
on_err (Err e) P p = p

pub put_into : (sets : List WaitableSet) (place : Place) (w : ℕ) (s later : WaitableSet) → place.set < length sets → s ≡ get_or sets place.set s → later.by_time.entries ≡ insert_entry nat_cmp s.by_time.entries place.time w → timed (set sets place.set later) ≡ times_with place w (timed sets)
put_into sets place w s later h e r =
    map-set entries_of sets place.set later
    ∙ ap (λ (es : List (ℕ × ℕ)). set (timed sets) place.set es) (r ∙ ap (λ (es : List (ℕ × ℕ)). insert_entry nat_cmp es place.time w) (sym (timed_is sets place.set s h e)))

pub kept_in : (sets : List WaitableSet) (k : ℕ) (s later : WaitableSet) → s ≡ get_or sets k s → later.by_time.entries ≡ s.by_time.entries → timed (set sets k later) ≡ timed sets
kept_in sets k s later e r = map-set_same entries_of sets k later s (r ∙ ap entries_of e)

-- the places without one waitable
abbrev but : ℕ → (ℕ → Option Place) → ℕ → Option Place
but w f q = if is_at (nat_cmp w) q then None else f q

but_else : (w : ℕ) (f : ℕ → Option Place) → SameElse w f (but w f)
but_else w f = record { others = λ v apart. ap (λ (b : Bool). if b then None else f v) (at_apart w v (λ e. apart (sym e))) }

but_none : (w : ℕ) (f : ℕ → Option Place) → but w f w ≡ None
but_none w f = ap (λ (b : Bool). if b then None else f w) (at_same_key w w refl)

abbrev pub Takes : ℕ → Option Place → (ℕ → Option Place) → (ℕ → Option Place) → Type 0
Takes w p f g = (q : ℕ) → g q ≡ (if is_at (nat_cmp w) q then p else f q)

takes_else : (w : ℕ) (p : Option Place) (f g : ℕ → Option Place) → Takes w p f g → SameElse w f g
takes_else w p f g u = record { others = λ v apart. u v ∙ ap (λ (b : Bool). if b then p else f v) (at_apart w v (λ e. apart (sym e))) }

takes_but : (w : ℕ) (p : Option Place) (f g : ℕ → Option Place) → Takes w p f g → SameElse w (but w f) g
takes_but w p f g u = record { others = λ v apart. (takes_else w p f g u).others v apart ∙ sym ((but_else w f).others v apart) }

takes_it : (w : ℕ) (p : Option Place) (f g : ℕ → Option Place) → Takes w p f g → g w ≡ p
takes_it w p f g u = u w ∙ ap (λ (b : Bool). if b then p else f w) (at_same_key w w refl)

pub length_by : (sets : List WaitableSet) → length (timed sets) ≡ length sets
length_by sets = length-map sets entries_of

-- a place is of a set that is there
pub there_if : (sets later : List WaitableSet) (f : ℕ → Option Place) (clock w : ℕ) (o : Option Place) → length (timed later) ≡ length (timed sets) → Agree (timed sets) f clock → f w ≡ o → IfSome o (λ p. p.set < length later)
there_if sets later f clock w None same a is = tt
there_if sets later f clock w (Some p) same a is = let h : p.set < length (timed sets) = (a.places w p is).there in omega (arith, length_by later)

pub long_with : (place : Place) (w : ℕ) (all : List (List (ℕ × ℕ))) → length (times_with place w all) ≡ length all
long_with place w all = length-set all place.set (insert_entry nat_cmp (timed_at all place.set) place.time w)

-- leaving
pub left_agrees : (sets later : List WaitableSet) (f g : ℕ → Option Place) (clock w : ℕ) (o : Option Place) → Agree (timed sets) f clock → f w ≡ o → Takes w None f g → timed later ≡ times_out o (timed sets) → Agree (timed later) g clock
left_agrees sets later f g clock w o a is u t = rw t (out_agrees w f g (timed sets) clock o a is (takes_else w None f g u) (takes_it w None f g u))

pub left_view : (sets later : List WaitableSet) (f g : ℕ → Option Place) (clock w : ℕ) (o : Option Place) → Agree (timed sets) f clock → f w ≡ o → Takes w None f g → timed later ≡ times_out o (timed sets) → waits later ≡ waits sets → shown later ≡ left w (shown sets)
left_view sets later f g clock w o a is u t n = left_shown sets later w clock f g o a is (takes_else w None f g u) t n

-- joining
moved_is : (sets later mid : List WaitableSet) (f : ℕ → Option Place) (clock w k : ℕ) (o : Option Place) → Agree (timed sets) f clock → f w ≡ o → k < length sets → timed mid ≡ times_with (record { set = k; time = clock }) w (timed sets) → timed later ≡ times_out o (timed mid) → timed later ≡ put k clock w (times_out o (timed sets))
moved_is sets later mid f clock w k o a is h m t =
    let in' : k < length (timed sets) = omega (arith, length_by sets) in
    t ∙ ap (times_out o) (m ∙ put_is f (timed sets) clock w k a in') ∙ put_out f (timed sets) clock w k o a is in'

pub joined_agrees : (sets later mid : List WaitableSet) (f g : ℕ → Option Place) (clock next w k : ℕ) (o : Option Place) → Agree (timed sets) f clock → f w ≡ o → Takes w (Some (record { set = k; time = clock })) f g → k < length sets → timed mid ≡ times_with (record { set = k; time = clock }) w (timed sets) → timed later ≡ times_out o (timed mid) → next ≡ clock + 1 → Agree (timed later) g next
joined_agrees sets later mid f g clock next w k o a is u h m t n =
    let in' : k < length (times_out o (timed sets)) = omega (arith, length_out o (timed sets), length_by sets) in
    let p : Place = record { set = k; time = clock } in
    rw (n, moved_is sets later mid f clock w k o a is h m t)
    (put_agrees (but w f) g (times_out o (timed sets)) clock w k
    (out_agrees w f (but w f) (timed sets) clock o a is (but_else w f) (but_none w f))
    (but_none w f) (takes_but w (Some p) f g u) (takes_it w (Some p) f g u) in')

pub joined_view : (sets later mid : List WaitableSet) (f g : ℕ → Option Place) (clock w k : ℕ) (o : Option Place) → Agree (timed sets) f clock → f w ≡ o → Takes w (Some (record { set = k; time = clock })) f g → k < length sets → timed mid ≡ times_with (record { set = k; time = clock }) w (timed sets) → timed later ≡ times_out o (timed mid) → waits later ≡ waits sets → shown later ≡ joined w k (shown sets)
joined_view sets later mid f g clock w k o a is u h m t n =
    joined_shown sets later w k clock f (but w f) o a is (but_else w f) h (moved_is sets later mid f clock w k o a is h m t) n

-- A joining that is given up leaves nothing.
pub undone : (sets later mid : List WaitableSet) (f : ℕ → Option Place) (clock w k : ℕ) → Agree (timed sets) f clock → k < length sets → timed mid ≡ times_with (record { set = k; time = clock }) w (timed sets) → timed later ≡ times_without (record { set = k; time = clock }) (timed mid) → timed later ≡ timed sets
undone sets later mid f clock w k a h m t =
    let in' : k < length (timed sets) = omega (arith, length_by sets) in
    t ∙ ap (times_without (record { set = k; time = clock })) (m ∙ put_is f (timed sets) clock w k a in') ∙ out_of_put f (timed sets) clock w k a in'

pub same_agrees : (all later : List (List (ℕ × ℕ))) (m n : BTreeMap ℕ Place) (clock : ℕ) → Agree all (get nat_cmp m) clock → later ≡ all → n.entries ≡ m.entries → Agree later (get nat_cmp n) clock
same_agrees all later m n clock a e u =
    let P : List (ℕ × Place) → Type 0 = λ es. Agree later (λ q. lookup (is_at (nat_cmp q)) es) clock in
    let Q : List (List (ℕ × ℕ)) → Type 0 = λ x. Agree x (get nat_cmp m) clock in
    subst P (sym u) (subst Q (sym e) a)

pub within_shown : (sets : List WaitableSet) (views : List SetView) (k : ℕ) → shown sets ≡ views → k < length views → k < length sets
within_shown sets views k e h = subst (λ (n : ℕ). k < n) (sym (ap (λ (x : List SetView). length x) e) ∙ long_shown sets) h
