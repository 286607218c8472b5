-- Members of a set that are ready: each has an event, and no task waits for it.
use Rattle.std.proofs.Common.{◌≡◌, ℕ, Bool, true, false, not, ◌&&◌, ◌||◌, ◌==◌, arith, List, [], ◌∷◌, refl, subst, Some, if◌then◌else◌}
use Rattle.std.specs.Prelude.{filter}
use Rattle.std.proofs.lemmas.Bool.Decides.{nat_tests}
use Rattle.std.specs.List.{slice_get, range_with_len, AllByRecursion}
use Rattle.wasm_store.proofs.Lists.{all_at}
use Rattle.waitables.specs.Sets.{is_one_of}
use Rattle.handle_table.specs.History.{greatest}
use Rattle.abi_machine.specs.World.{World}
use Rattle.abi_machine.specs.Reading.{table_of, entry_at, members_of}
use Rattle.abi_machine.specs.Counting.{entry_has_event, is_waited_for, has_news, news_of, ready}

-- what holds of each of some numbers holds of one that is among them
one_among : (P : ℕ → Type 0) (told : List ℕ) (index : ℕ) → AllByRecursion P told → is_one_of told index ≡ true → P index
one_among P [] index all e = cc
one_among P (x ∷ told) index all e = by (x == index) refl e (λ k. one_among P told index all.1 k)
  where
    by : (b : Bool) → (x == index) ≡ b → b || is_one_of told index ≡ true → (is_one_of told index ≡ true → P index) → P index
    by true same k others = let is : x ≡ index = grind (arith, nat_tests) in subst P is all.0
    by false same k others = others k

all_passing : {A : Type 0} (p : A → Bool) (xs : List A) → AllByRecursion (λ x. p x ≡ true) (filter p xs)
all_passing p [] = tt
all_passing {A} p (x ∷ xs) = by (p x) refl (all_passing p xs)
  where
    by : (b : Bool) → p x ≡ b → AllByRecursion (λ (y : A). p y ≡ true) (filter p xs) → AllByRecursion (λ (y : A). p y ≡ true) (if b then x ∷ filter p xs else filter p xs)
    by true e others = (e, others)
    by false e others = others

news_left : (a b : Bool) → a && b ≡ true → a ≡ true
news_left true b e = refl
news_left false b e = cc

news_right : (a b : Bool) → a && not b ≡ true → b ≡ false
news_right true true e = cc
news_right true false e = refl
news_right false b e = cc

-- A ready member has an event, and is not waited for.
ready_has_news : (w : World) (i set place index : ℕ) → slice_get (ready w i set) place ≡ Some index → has_news w i index ≡ true
ready_has_news w i set place index e =
    let told : is_one_of (news_of w i) index ≡ true = all_at (λ (x : ℕ). is_one_of (news_of w i) x ≡ true) (ready w i set) place index (all_passing (is_one_of (news_of w i)) (members_of w i set)) e in
    one_among (λ x. has_news w i x ≡ true) (news_of w i) index (all_passing (has_news w i) (range_with_len 1 (greatest (table_of w i)))) told

pub ready_has_event : (w : World) (i set place index : ℕ) → slice_get (ready w i set) place ≡ Some index → entry_has_event w (entry_at w i index) ≡ true
ready_has_event w i set place index e = news_left (entry_has_event w (entry_at w i index)) (not (is_waited_for w i index)) (ready_has_news w i set place index e)

pub ready_unwaited : (w : World) (i set place index : ℕ) → slice_get (ready w i set) place ≡ Some index → is_waited_for w i index ≡ false
ready_unwaited w i set place index e = news_right (entry_has_event w (entry_at w i index)) (is_waited_for w i index) (ready_has_news w i set place index e)
