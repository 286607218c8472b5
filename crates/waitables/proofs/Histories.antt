-- Members by the history: what further events make of them, and that a waitable is in one set alone.
use Rattle.std.proofs.Common.{◌≡◌, ℕ, ◌<◌, sym, ap, refl, ◌∙◌, subst, arith, Bool, true, false, not, ◌&&◌, ◌||◌, ◌==◌, if◌then◌else◌, List, [], ◌∷◌, ◌++◌, filter, Contains, ◌⊎◌, inl, inr, length, get_or, zero, suc}
use Rattle.std.specs.List.{list_any, IsDistinct, AllByRecursion}
use Rattle.std.specs.Prelude.{nat_eq}
use Rattle.std.proofs.lemmas.List.Folds.{list_any-append}
use Rattle.std.proofs.lemmas.Bool.{eqb-true, eq-eqb, ne_eqb, or_left, or_right, both_ways, not-true, and_parts}
use Rattle.std.proofs.lemmas.Map.Keys.{IsDistinct-cons}
use Rattle.waitables.specs.History.{Event, Made, Joins, Leaves, Waits, Goes, moves, members_by}
use Rattle.waitables.specs.Laws.{InAtMostOneSet}

-- the waitable isn't moved by these events
abbrev pub stays : List Event → ℕ → Bool
stays later waitable = not (list_any (moves waitable) later)

-- one who joined, before the others
one_more : (p : ℕ → Bool) (b a l : Bool) (w : ℕ) (xs rest later : List ℕ) → p w ≡ not l → rest ≡ filter p xs ++ later → (if b && not (a || l) then w ∷ rest else rest) ≡ filter p (if b && not a then w ∷ xs else xs) ++ later
one_more p false a l w xs rest later e h = h
one_more p true true l w xs rest later e h = h
one_more p true false true w xs rest later e h = h ∙ ap (λ (k : Bool). (if k then w ∷ filter p xs else filter p xs) ++ later) (sym e)
one_more p true false false w xs rest later e h = ap (λ (ys : List ℕ). w ∷ ys) h ∙ ap (λ (k : Bool). (if k then w ∷ filter p xs else filter p xs) ++ later) (sym e)

pub members_append : (before later : List Event) (number : ℕ) → members_by number (before ++ later) ≡ filter (stays later) (members_by number before) ++ members_by number later
members_append [] later number = refl
members_append (Made ∷ before) later number = members_append before later number
members_append (Joins w other ∷ before) later number =
    ap (λ (k : Bool). if (other == number) && not k then w ∷ members_by number (before ++ later) else members_by number (before ++ later)) (list_any-append (moves w) before later)
    ∙ one_more (stays later) (other == number) (list_any (moves w) before) (list_any (moves w) later) w (members_by number before) (members_by number (before ++ later)) (members_by number later) refl (members_append before later number)
members_append (Leaves w ∷ before) later number = members_append before later number
members_append (Waits other ∷ before) later number = members_append before later number
members_append (Goes other ∷ before) later number = members_append before later number

-- the waitable is in the list
abbrev pub Has : ℕ → List ℕ → Type 0
Has w [] = ⊥
Has w (x ∷ xs) = (x ≡ w) ⊎ Has w xs

has_at : (w : ℕ) (xs : List ℕ) (k : ℕ) → k < length xs → get_or xs k w ≡ w → Has w xs
has_at w [] k h e = absurd (omega arith)
has_at w (x ∷ xs) zero h e = inl e
has_at w (x ∷ xs) (suc k) h e = inr (has_at w xs k (omega arith) e)

pub has_from_contains : (w : ℕ) (xs : List ℕ) → Contains xs w → Has w xs
has_from_contains w xs h = has_at w xs h.0 h.1 h.2

has_split : (b : Bool) (v w : ℕ) (xs : List ℕ) → Has w (if b then v ∷ xs else xs) → ((b ≡ true) × (v ≡ w)) ⊎ Has w xs
has_split true v w xs (inl e) = inl (refl, e)
has_split true v w xs (inr h) = inr h
has_split false v w xs h = inr h

-- Each member was moved, when it joined.
member_moved : (w number : ℕ) (h : List Event) → Has w (members_by number h) → list_any (moves w) h ≡ true
member_moved w number [] m = absurd m
member_moved w number (Made ∷ later) m = member_moved w number later m
member_moved w number (Joins v other ∷ later) m =
    elim (has_split ((other == number) && stays later v) v w (members_by number later) m) [
      | inl e ↦ or_left (w == v) (list_any (moves w) later) (eq-eqb w v (sym e.1))
      | inr t ↦ or_right (w == v) (list_any (moves w) later) (member_moved w number later t)
    ]
member_moved w number (Leaves v ∷ later) m = or_right (w == v) (list_any (moves w) later) (member_moved w number later m)
member_moved w number (Waits other ∷ later) m = member_moved w number later m
member_moved w number (Goes other ∷ later) m = member_moved w number later m

-- One who joins and stays is no member by what happens later.
not_later : (v number : ℕ) (later : List Event) → stays later v ≡ true → Has v (members_by number later) → ⊥
not_later v number later s m = both_ways (list_any (moves v) later) (not-true (list_any (moves v) later) s) (member_moved v number later m)

one_set : (w first second : ℕ) (h : List Event) → Has w (members_by first h) → Has w (members_by second h) → first ≡ second
one_set w first second [] m n = absurd m
one_set w first second (Made ∷ later) m n = one_set w first second later m n
one_set w first second (Joins v other ∷ later) m n =
    elim (has_split ((other == first) && stays later v) v w (members_by first later) m) [
      | inl e ↦ elim (has_split ((other == second) && stays later v) v w (members_by second later) n) [
        | inl f ↦ sym (eqb-true other first (and_parts (other == first) (stays later v) e.0).0) ∙ eqb-true other second (and_parts (other == second) (stays later v) f.0).0
        | inr t ↦ absurd (not_later v second later (and_parts (other == first) (stays later v) e.0).1 (subst (λ (k : ℕ). Has k (members_by second later)) (sym e.1) t))
      ]
      | inr t ↦ elim (has_split ((other == second) && stays later v) v w (members_by second later) n) [
        | inl f ↦ absurd (not_later v first later (and_parts (other == second) (stays later v) f.0).1 (subst (λ (k : ℕ). Has k (members_by first later)) (sym f.1) t))
        | inr u ↦ one_set w first second later t u
      ]
    ]
one_set w first second (Leaves v ∷ later) m n = one_set w first second later m n
one_set w first second (Waits other ∷ later) m n = one_set w first second later m n
one_set w first second (Goes other ∷ later) m n = one_set w first second later m n

all_apart : (v : ℕ) (xs : List ℕ) → (Has v xs → ⊥) → AllByRecursion (λ y. nat_eq v y ≡ false) xs
all_apart v [] h = tt
all_apart v (x ∷ xs) h = (ne_eqb v x (λ e. h (inl (sym e))), all_apart v xs (λ m. h (inr m)))

distinct_more : (b : Bool) (v : ℕ) (xs : List ℕ) → (b ≡ true → Has v xs → ⊥) → IsDistinct nat_eq xs → IsDistinct nat_eq (if b then v ∷ xs else xs)
distinct_more true v xs h d = IsDistinct-cons nat_eq v xs (all_apart v xs (h refl)) d
distinct_more false v xs h d = d

once : (number : ℕ) (h : List Event) → IsDistinct nat_eq (members_by number h)
unfolding IsDistinct
once number [] = tt
once number (Made ∷ later) = once number later
once number (Joins v other ∷ later) =
    distinct_more ((other == number) && stays later v) v (members_by number later)
    (λ b. not_later v number later (and_parts (other == number) (stays later v) b).1)
    (once number later)
once number (Leaves v ∷ later) = once number later
once number (Waits other ∷ later) = once number later
once number (Goes other ∷ later) = once number later

pub in_at_most_one_set : (h : List Event) → InAtMostOneSet h
in_at_most_one_set h = record {
  one = λ w first second m n. one_set w first second h (has_from_contains w (members_by first h) m) (has_from_contains w (members_by second h) n);
  once = λ number. once number h;
}
