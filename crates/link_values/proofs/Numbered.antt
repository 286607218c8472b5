-- Things that are numbered, as one more is added.
use Rattle.std.proofs.Common.{◌≡◌, ℕ, zero, suc, Bool, true, false, cond, List, [], ◌∷◌, ◌++◌, length, refl, ap, sym, ◌∙◌, Some, None, Option, inl, inr, ◌⊎◌}
use Rattle.std.specs.List.{slice_get}
use Rattle.std.specs.Map.{update}
use Rattle.link_values.specs.Numbering.{AreApart, IsAdded, IsNumberOf, Numbers}

pub none_at : {A : Type 0} (k : ℕ) (x : A) → slice_get [] k ≡ Some x → ⊥
none_at k x h = cc

-- What stands at a place stands there also with more behind.
pub stays_at : {A : Type 0} (xs ys : List A) (k : ℕ) (x : A) → slice_get xs k ≡ Some x → slice_get (xs ++ ys) k ≡ Some x
stays_at [] ys k x h = absurd (none_at k x h)
stays_at (y ∷ xs) ys zero x h = h
stays_at (y ∷ xs) ys (suc k) x h = stays_at xs ys k x h

pub last_at : {A : Type 0} (xs : List A) (x : A) → slice_get (xs ++ x ∷ []) (length xs) ≡ Some x
last_at [] x = refl
last_at (y ∷ xs) x = last_at xs x

-- What stands at a place of a list with one more stands there in the list, or is the one.
pub is_at_or_last : {A : Type 0} (xs : List A) (y : A) (k : ℕ) (x : A) → slice_get (xs ++ y ∷ []) k ≡ Some x → (slice_get xs k ≡ Some x) ⊎ ((k ≡ length xs) × (x ≡ y))
is_at_or_last [] y zero x h = inr (refl, cc)
is_at_or_last [] y (suc k) x h = absurd (none_at k x h)
is_at_or_last (z ∷ xs) y zero x h = inl h
is_at_or_last (z ∷ xs) y (suc k) x h = elim (is_at_or_last xs y k x h) [ inl a ↦ inl a | inr b ↦ inr (ap suc b.0, b.1) ]

pub is_number_of : {A : Type 0} (find : A → Option ℕ) (things : List A) (thing : A) (o : Option ℕ) → Numbers find things → o ≡ find thing → IsNumberOf things thing o
is_number_of find things thing None numbers h = λ n at. let f = numbers.found n thing at in cc
is_number_of find things thing (Some number) numbers h = numbers.stands thing number (sym h)

pub apart_of : {A : Type 0} (find : A → Option ℕ) (things : List A) → Numbers find things → AreApart things
apart_of find things numbers m n thing h i = let f = numbers.found m thing h in let g = numbers.found n thing i in cc

pub none_numbered : {A : Type 0} (find : A → Option ℕ) → ((q : A) → find q ≡ None) → Numbers find []
none_numbered find h = record {
  stands = λ thing number f. let e = h thing in cc;
  found = λ number thing at. absurd (none_at number thing at);
}

stands_more : {A : Type 0} (find : A → Option ℕ) (b : Bool) (things : List A) (thing q : A) (k : ℕ) → Numbers find things → (b ≡ true → thing ≡ q) → cond b (Some (length things)) (find q) ≡ Some k → slice_get (things ++ thing ∷ []) k ≡ Some q
stands_more find true things thing q k numbers same h =
    let e : thing ≡ q = same refl in
    let n : length things ≡ k = cc in
    let last = last_at things thing in
    cc
stands_more find false things thing q k numbers same h = stays_at things (thing ∷ []) k q (numbers.stands q k h)

found_there : {A : Type 0} (find : A → Option ℕ) (b : Bool) (n : ℕ) (thing q : A) (k : ℕ) → (b ≡ true → thing ≡ q) → find thing ≡ None → find q ≡ Some k → cond b (Some n) (find q) ≡ Some k
found_there find true n thing q k same absent h = let e : thing ≡ q = same refl in let f = ap find e in cc
found_there find false n thing q k same absent h = h

found_last : (b : Bool) (n k : ℕ) (o : Option ℕ) → b ≡ true → k ≡ n → cond b (Some n) o ≡ Some k
found_last true n k o h e = cc
found_last false n k o h e = cc

-- One thing more, which was not there.
pub numbers_more : {A : Type 0} (find next : A → Option ℕ) (same : A → A → Bool) (things : List A) (thing : A) → Numbers find things → find thing ≡ None → ((x y : A) → same x y ≡ true → x ≡ y) → ((x : A) → same x x ≡ true) → ((q : A) → next q ≡ update same find thing (Some (length things)) q) → Numbers next (things ++ thing ∷ [])
numbers_more find next same things thing numbers absent exact itself h = record {
  stands = λ q k f. stands_more find (same thing q) things thing q k numbers (exact thing q) (sym (h q) ∙ f);
  found = λ k q at. elim (is_at_or_last things thing k q at) [
    | inl there ↦ h q ∙ found_there find (same thing q) (length things) thing q k (exact thing q) absent (numbers.found k q there)
    | inr last ↦ h q ∙ found_last (same thing q) (length things) k (find q) (ap (λ y. same thing y) last.1 ∙ itself thing) last.0
  ];
}

-- A thing that was there, and one that was added.
pub added_found : {A : Type 0} (find : A → Option ℕ) (things : List A) (thing : A) (number : ℕ) → Numbers find things → find thing ≡ Some number → IsAdded things thing number things
added_found find things thing number numbers h = (numbers.stands thing number h, inl refl)

pub added_last : {A : Type 0} (things : List A) (thing : A) (number : ℕ) → number ≡ length things → IsAdded things thing number (things ++ thing ∷ [])
added_last things thing number h = (rw h (last_at things thing), inr refl)

absent_in : {A : Type 0} (find : A → Option ℕ) (things : List A) (thing : A) (o : Option ℕ) → Numbers find things → o ≡ find thing → ((n : ℕ) → slice_get things n ≡ Some thing → ⊥) → o ≡ None
absent_in find things thing None numbers h absent = refl
absent_in find things thing (Some k) numbers h absent = absurd (absent k (numbers.stands thing k (sym h)))

-- What is not there has no number.
pub absent_of : {A : Type 0} (find : A → Option ℕ) (things : List A) (thing : A) → Numbers find things → ((n : ℕ) → slice_get things n ≡ Some thing → ⊥) → find thing ≡ None
absent_of find things thing numbers absent = absent_in find things thing (find thing) numbers refl absent

pub apart_in : {A : Type 0} (find : A → Option ℕ) (old new : List A) → Numbers find old → new ≡ old → AreApart new
apart_in find old new numbers h = rw h (apart_of find old numbers)

pub numbers_in : {A : Type 0} (find : A → Option ℕ) (old new : List A) → Numbers find old → new ≡ old → Numbers find new
numbers_in find old new numbers h = rw h numbers
