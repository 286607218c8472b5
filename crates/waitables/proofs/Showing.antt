-- The sets as they look from outside, by their members' times and their waiters.
use Rattle.std.proofs.Common.{◌≡◌, ℕ, ◌<◌, sym, ap, refl, ◌∙◌, arith, List, [], ◌∷◌, ◌++◌, get_or, length, Option, inl, inr, zero, suc}
use Rattle.std.proofs.lemmas.List.{length-set, length-map, ext_get_or, append-nil, map-append}
use Rattle.std.proofs.lemmas.Bool.{cases_eq}
use Rattle.std.specs.Map.{values_of}
use Rattle.waitables.specs.declared.place.Place.{Place}
use Rattle.waitables.specs.declared.sets.WaitableSet.{WaitableSet}
use Rattle.waitables.specs.Sets.{SetView, no_set, set_at, without, left, set_with_last, joined}
use Rattle.waitables.specs.History.{Joins, members_by}
use Rattle.waitables.specs.Placing.{shown, timed, timed_at, waits, times_out, Agree}
use Rattle.waitables.proofs.Placements.{SameElse}
use Rattle.waitables.proofs.Agreements.{length_out, out_members, put, put_here, put_there}
use Rattle.waitables.proofs.Standing.{left_at, length_left, joins_here, joins_there, joined_members, joined_waiters}

pub shown_members : (sets : List WaitableSet) (n : ℕ) → (set_at (shown sets) n).members ≡ values_of (timed_at (timed sets) n)
shown_members [] zero = refl
shown_members [] (suc n) = refl
shown_members (s ∷ sets) zero = refl
shown_members (s ∷ sets) (suc n) = shown_members sets n

pub shown_waiters : (sets : List WaitableSet) (n : ℕ) → (set_at (shown sets) n).waiters ≡ get_or (waits sets) n 0
shown_waiters [] zero = refl
shown_waiters [] (suc n) = refl
shown_waiters (s ∷ sets) zero = refl
shown_waiters (s ∷ sets) (suc n) = shown_waiters sets n

pub same_view : (a b : SetView) → a.members ≡ b.members → a.waiters ≡ b.waiters → a ≡ b
same_view a b e f = ap (λ (xs : List ℕ). (let v : SetView = record { members = xs; waiters = a.waiters } in v)) e ∙ ap (λ (n : ℕ). (let v : SetView = record { members = b.members; waiters = n } in v)) f

long : (sets : List WaitableSet) → length (timed sets) ≡ length sets
long sets = length-map sets (λ (s : WaitableSet). s.by_time.entries)

pub long_shown : (sets : List WaitableSet) → length (shown sets) ≡ length sets
long_shown sets = length-map sets (λ (s : WaitableSet). (let v : SetView = record { members = values_of s.by_time.entries; waiters = s.waiters } in v))

pub shown_by : (sets : List WaitableSet) (views : List SetView) → length sets ≡ length views → ((n : ℕ) → n < length views → values_of (timed_at (timed sets) n) ≡ (set_at views n).members) → ((n : ℕ) → get_or (waits sets) n 0 ≡ (set_at views n).waiters) → shown sets ≡ views
shown_by sets views e members waiters =
    ext_get_or no_set (shown sets) views (long_shown sets ∙ e) (λ n h.
    let lower : n < length views = omega (arith, long_shown sets) in
    same_view (set_at (shown sets) n) (set_at views n) (shown_members sets n ∙ members n lower) (shown_waiters sets n ∙ waiters n))

pub shown_same : (a b : List WaitableSet) → timed a ≡ timed b → waits a ≡ waits b → shown a ≡ shown b
shown_same a b t w =
    shown_by a (shown b) (sym (long a) ∙ ap (λ (x : List (List (ℕ × ℕ))). length x) t ∙ long b ∙ sym (long_shown b))
    (λ n h. ap (λ (x : List (List (ℕ × ℕ))). values_of (timed_at x n)) t ∙ sym (shown_members b n))
    (λ n. ap (λ (x : List ℕ). get_or x n 0) w ∙ sym (shown_waiters b n))

pub left_shown : (old later : List WaitableSet) (w clock : ℕ) (f g : ℕ → Option Place) (o : Option Place) → Agree (timed old) f clock → f w ≡ o → SameElse w f g → timed later ≡ times_out o (timed old) → waits later ≡ waits old → shown later ≡ left w (shown old)
left_shown old later w clock f g o a is same t u =
    let many : length later ≡ length old = sym (long later) ∙ ap (λ (x : List (List (ℕ × ℕ))). length x) t ∙ length_out o (timed old) ∙ long old in
    shown_by later (left w (shown old)) (many ∙ sym (long_shown old) ∙ sym (length_left w (shown old)))
    (λ n h. let lower : n < length (timed old) = omega (arith, length_left w (shown old), long_shown old, long old) in
    ap (λ (x : List (List (ℕ × ℕ))). values_of (timed_at x n)) t
    ∙ sym (out_members w f g (timed old) clock o a is same n lower)
    ∙ ap (without w) (sym (shown_members old n))
    ∙ sym (ap (λ (v : SetView). v.members) (left_at w (shown old) n)))
    (λ n. ap (λ (x : List ℕ). get_or x n 0) u ∙ sym (shown_waiters old n) ∙ sym (ap (λ (v : SetView). v.waiters) (left_at w (shown old) n)))

put_members : (k t w : ℕ) (all : List (List (ℕ × ℕ))) (n : ℕ) → k < length all → values_of (timed_at (put k t w all) n) ≡ values_of (timed_at all n) ++ members_by n (Joins w k ∷ [])
put_members k t w all n h =
    elim (cases_eq n k) [
      | inl e ↦ ap values_of (put_here k t w all n h e)
          ∙ map-append (λ (x : ℕ × ℕ). x.1) (timed_at all n) ((t, w) ∷ [])
          ∙ ap (λ (xs : List ℕ). values_of (timed_at all n) ++ xs) (sym (joins_here w k n e))
      | inr apart ↦ ap values_of (put_there k t w all n apart)
          ∙ sym (append-nil (values_of (timed_at all n)))
          ∙ ap (λ (xs : List ℕ). values_of (timed_at all n) ++ xs) (sym (joins_there w k n apart))
    ]

pub joined_shown : (old later : List WaitableSet) (w k clock : ℕ) (f g : ℕ → Option Place) (o : Option Place) → Agree (timed old) f clock → f w ≡ o → SameElse w f g → k < length old → timed later ≡ put k clock w (times_out o (timed old)) → waits later ≡ waits old → shown later ≡ joined w k (shown old)
joined_shown old later w k clock f g o a is same in' t u =
    let others : List (List (ℕ × ℕ)) = times_out o (timed old) in
    let views : List SetView = left w (shown old) in
    let here : k < length (shown old) = omega (arith, long_shown old) in
    let there : k < length others = omega (arith, length_out o (timed old), long old) in
    let many : length later ≡ length old = sym (long later) ∙ ap (λ (x : List (List (ℕ × ℕ))). length x) t ∙ length-set others k (timed_at others k ++ (clock, w) ∷ []) ∙ length_out o (timed old) ∙ long old in
    let whole : length (joined w k (shown old)) ≡ length old = length-set views k (set_with_last w (set_at views k)) ∙ length_left w (shown old) ∙ long_shown old in
    shown_by later (joined w k (shown old)) (many ∙ sym whole)
    (λ n h. let lower : n < length (timed old) = omega (arith, whole, long old) in
    ap (λ (x : List (List (ℕ × ℕ))). values_of (timed_at x n)) t
    ∙ put_members k clock w others n there
    ∙ ap (λ (xs : List ℕ). xs ++ members_by n (Joins w k ∷ [])) (sym (out_members w f g (timed old) clock o a is same n lower) ∙ ap (without w) (sym (shown_members old n)))
    ∙ sym (joined_members w k (shown old) here n))
    (λ n. ap (λ (x : List ℕ). get_or x n 0) u ∙ sym (shown_waiters old n) ∙ sym (joined_waiters w k (shown old) here n))

-- a new set, without members
pub made_shown : (sets : List WaitableSet) (s : WaitableSet) → s.by_time.entries ≡ [] → s.waiters ≡ 0 → shown (sets ++ s ∷ []) ≡ shown sets ++ no_set ∷ []
made_shown sets s e z = map-append (λ (x : WaitableSet). (let v : SetView = record { members = values_of x.by_time.entries; waiters = x.waiters } in v)) sets (s ∷ []) ∙ ap (λ (v : SetView). shown sets ++ v ∷ []) (same_view (record { members = values_of s.by_time.entries; waiters = s.waiters }) no_set (ap values_of e) z)
