-- Where no member of a set is ready none has an event that comes to those who wait on the set.
use Rattle.std.proofs.Common.{◌≡◌, ◌≤◌, ◌<◌, ◌+◌, ◌==◌, ◌&&◌, ◌||◌, ℕ, zero, suc, Bool, true, false, not, nat_eq, nat_lt, List, [], ◌∷◌, refl, ap, ◌∙◌, subst, arith, Option, Some, None, if◌then◌else◌}
use Rattle.std.specs.Prelude.{filter}
use Rattle.std.specs.List.{slice_get, range_with_len}
use Rattle.std.proofs.lemmas.Bool.Decides.{nat_tests}
use Rattle.wasm_store.proofs.Lists.{all_at}
use Rattle.waitables.specs.Sets.{is_one_of}
use Rattle.handle_table.specs.History.{Event, Add, Remove, live, greatest, next_index, IsHistory}
use Rattle.handle_table.proofs.Freed.{not_zero}
use Rattle.handle_table.proofs.Histories.{live_past}
use Rattle.abi_machine.specs.World.{Entry, Inst, World}
use Rattle.abi_machine.specs.Reading.{table_in, table_of, entry_at, members_of}
use Rattle.abi_machine.specs.Counting.{entry_has_event, is_waited_for, has_news, news_of, ready}
use Rattle.abi_machine.specs.sound.Tables.{HaveHistories}

-- Entries stand at indices from 1 on, up to the greatest that was given.
from_one : {E : Type 0} (h : List (Event E)) (index : ℕ) (x : E) → IsHistory h → live h index ≡ Some x → 1 ≤ index
from_one [] index x history e = cc
from_one {E} (Add i y ∷ earlier) index x history e = by (nat_eq i index) refl (λ k. from_one earlier index x history.0 k) e
  where
    by : (b : Bool) → nat_eq i index ≡ b → (live earlier index ≡ Some x → 1 ≤ index) → (if b then Some y else live earlier index) ≡ Some x → 1 ≤ index
    by true is more k =
        let same : i ≡ index = grind (arith, nat_tests) in
        let given : i ≡ next_index earlier = history.1 in
        let low : 1 ≤ next_index earlier = not_zero earlier history.0 in
        omega (arith, same, given, low)
    by false is more k = more k
from_one {E} (Remove i ∷ earlier) index x history e = by (nat_eq i index) (λ k. from_one earlier index x history.0 k) e
  where
    by : (b : Bool) → (live earlier index ≡ Some x → 1 ≤ index) → (if b then None else live earlier index) ≡ Some x → 1 ≤ index
    by true more k = cc
    by false more k = more k

up_to : {E : Type 0} (h : List (Event E)) (index : ℕ) (x : E) → live h index ≡ Some x → index ≤ greatest h
up_to h index x e = by (nat_lt (greatest h) index) refl
  where
    by : (b : Bool) → nat_lt (greatest h) index ≡ b → index ≤ greatest h
    by true past = (let none : live h index ≡ None = live_past h index (grind (arith, nat_tests)) in cc)
    by false low = grind (arith, nat_tests)

history_of : (w : World) (i : ℕ) → HaveHistories w.insts → IsHistory (table_of w i)
history_of w i history = by (slice_get w.insts i) refl
  where
    by : (o : Option Inst) → slice_get w.insts i ≡ o → IsHistory (table_in o)
    by None there = tt
    by (Some x) there = all_at (λ (y : Inst). IsHistory y.table) w.insts i x history there

-- A number of a range that passes a test is one of those of the range that do.
told_in : (test : ℕ → Bool) (from count m : ℕ) → from ≤ m → m < from + count → test m ≡ true → is_one_of (filter test (range_with_len from count)) m ≡ true
told_in test from zero m low high passes = absurd (omega (arith, low, high))
told_in test from (suc count) m low high passes = first (nat_eq from m) refl (λ other. told_in test (from + 1) count m other (omega (arith, high)) passes)
  where
    rest : List ℕ
    rest = filter test (range_with_len (from + 1) count)

    behind : (b : Bool) → is_one_of rest m ≡ true → is_one_of (if b then from ∷ rest else rest) m ≡ true
    behind true h = or_true (from == m) (is_one_of rest m) h
      where
        or_true : (a b : Bool) → b ≡ true → (a || b) ≡ true
        or_true true b e = refl
        or_true false b e = e
    behind false h = h

    here : (b : Bool) → b ≡ true → (from == m) ≡ true → is_one_of (if b then from ∷ rest else rest) m ≡ true
    here true e same = ap (λ (a : Bool). a || is_one_of rest m) same
    here false e same = cc

    first : (b : Bool) → nat_eq from m ≡ b → (from + 1 ≤ m → is_one_of rest m ≡ true) → is_one_of (if test from then from ∷ rest else rest) m ≡ true
    first true is more = (let same : from ≡ m = grind (arith, nat_tests) in here (test from) (ap test same ∙ passes) (grind (arith, nat_tests)))
    first false is more = (let other : from + 1 ≤ m = grind (arith, nat_tests) in behind (test from) (more other))

-- Of a list of which none passes a test each item does not.
first_fails : {A : Type 0} (b : Bool) (x : A) (xs : List A) → (if b then x ∷ xs else xs) ≡ [] → (b ≡ false) × (xs ≡ [])
first_fails true x xs e = cc
first_fails false x xs e = (refl, e)

none_pass : (test : ℕ → Bool) (xs : List ℕ) (place x : ℕ) → filter test xs ≡ [] → slice_get xs place ≡ Some x → test x ≡ false
none_pass test [] place x e there = cc
none_pass test (y ∷ xs) zero x e there =
    let same : y ≡ x = cc in subst (λ (z : ℕ). test z ≡ false) same (first_fails (test y) y (filter test xs) e).0
none_pass test (y ∷ xs) (suc place) x e there = none_pass test xs place x (first_fails (test y) y (filter test xs) e).1 there

event_there : (w : World) (o : Option Entry) → entry_has_event w o ≡ true → (x : Entry) × (o ≡ Some x)
event_there w None e = cc
event_there w (Some x) e = (x, refl)

left_true : (a b : Bool) → (a && b) ≡ true → a ≡ true
left_true true b e = refl
left_true false b e = cc

not_both : (b : Bool) → b ≡ true → b ≡ false → ⊥
not_both true e f = cc
not_both false e f = cc

pub no_news : (w : World) (i set : ℕ) → HaveHistories w.insts → ready w i set ≡ [] → (place member : ℕ) → slice_get (members_of w i set) place ≡ Some member → has_news w i member ≡ false
no_news w i set history none place member there = by (has_news w i member) refl
  where
    by : (b : Bool) → has_news w i member ≡ b → b ≡ false
    by false e = refl
    by true e =
        let x = event_there w (entry_at w i member) (left_true (entry_has_event w (entry_at w i member)) (not (is_waited_for w i member)) e) in
        let low : 1 ≤ member = from_one (table_of w i) member x.0 (history_of w i history) x.1 in
        let high : member ≤ greatest (table_of w i) = up_to (table_of w i) member x.0 x.1 in
        let told : is_one_of (news_of w i) member ≡ true = told_in (has_news w i) 1 (greatest (table_of w i)) member low (omega (arith, high)) e in
        absurd (not_both (is_one_of (news_of w i) member) told (none_pass (is_one_of (news_of w i)) (members_of w i set) place member none there))
