-- The chain, and what a script gives, as they are kept and as a world has them.
use Rattle.std.proofs.Common.{◌≡◌, ◌<◌, ◌≤◌, ◌+◌, ◌-◌, ◌%◌, ℕ, zero, suc, Bool, true, false, ◌&&◌, nat_lt, if◌then◌else◌, List, [], ◌∷◌, ◌++◌, length, take, drop, refl, sym, ap, ◌∙◌, arith, Some}
use Rattle.std.specs.List.{slice_get, slice_index}
use Rattle.std.proofs.lemmas.Bool.{ltb-true, ltb-false}
use Rattle.std.proofs.lemmas.List.{drop_all, take_at}
use Rattle.choices.specs.Choosing.{is_choice, first, taken, picked}
use Rattle.choices.specs.Drawing.{Drawn, StandsFor, drawn_answer}
use Rattle.standing.specs.Stands.{backwards}

last_at : {A : Type 0} (xs : List A) (x : A) → slice_get (xs ++ x ∷ []) (length xs) ≡ Some x
last_at [] x = refl
last_at (y ∷ xs) x = last_at xs x

one_more : {A : Type 0} (xs : List A) (x : A) → length (xs ++ x ∷ []) ≡ suc (length xs)
one_more [] x = refl
one_more (y ∷ xs) x = ap suc (one_more xs x)

one_less : {A : Type 0} (xs : List A) (x : A) → length (xs ++ x ∷ []) - 1 ≡ length xs
one_less xs x = let more : length (xs ++ x ∷ []) ≡ suc (length xs) = one_more xs x in omega (arith, more)

pub last_acts : (chain : List ℕ) → slice_get (backwards chain) (length (backwards chain) - 1) ≡ slice_get chain 0
last_acts [] = refl
last_acts (t ∷ chain) = ap (λ (n : ℕ). slice_get (backwards chain ++ t ∷ []) n) (one_less (backwards chain) t) ∙ last_at (backwards chain) t

pub without_last : (chain : List ℕ) → take (length (backwards chain) - 1) (backwards chain) ≡ backwards (drop 1 chain)
without_last [] = refl
without_last (t ∷ chain) = take_at (backwards chain) (t ∷ []) (length (backwards chain ++ t ∷ []) - 1) (sym (one_less (backwards chain) t))

-- A unit is left where not all are used.
both_left : (left units fuel : ℕ) (b c : Bool) → left + units ≡ fuel → nat_lt 0 left ≡ b → nat_lt units fuel ≡ c → b ≡ c
both_left left units fuel true true sum e f = refl
both_left left units fuel false false sum e f = refl
both_left left units fuel true false sum e f =
    let more : 0 < left = ltb-true 0 left e in
    let none : fuel ≤ units = ltb-false units fuel f in
    absurd (omega (arith, more, none, sum))
both_left left units fuel false true sum e f =
    let none : left ≤ 0 = ltb-false 0 left e in
    let more : units < fuel = ltb-true units fuel f in
    absurd (omega (arith, more, none, sum))

pub left_alike : (left units fuel : ℕ) → left + units ≡ fuel → nat_lt 0 left ≡ nat_lt units fuel
left_alike left units fuel sum = both_left left units fuel (nat_lt 0 left) (nat_lt units fuel) sum refl refl

pub one_spent : (left units fuel : ℕ) → nat_lt 0 left ≡ true → left + units ≡ fuel → (left - 1) + (units + 1) ≡ fuel
one_spent left units fuel e sum = let more : 0 < left = ltb-true 0 left e in omega (arith, more, sum)

-- The pick that is used next.
pick_at : (n used : ℕ) (given : List ℕ) → used < length given → taken n (first (drop used given)) ≡ slice_index given used % n
pick_at n used [] h = absurd (omega (arith, h))
pick_at n zero (p ∷ given) h = refl
pick_at n (suc used) (p ∷ given) h = pick_at n used given (omega (arith, h))

no_pick : (n used : ℕ) (given : List ℕ) → length given ≤ used → taken n (first (drop used given)) ≡ 0
no_pick n used given h = ap (λ (xs : List ℕ). taken n (first xs)) (drop_all used given h)

by_left : (b : Bool) (n used : ℕ) (given : List ℕ) → nat_lt used (length given) ≡ b → taken n (first (drop used given)) ≡ (if b then slice_index given used % n else 0)
by_left true n used given e = pick_at n used given (ltb-true used (length given) e)
by_left false n used given e = no_pick n used given (ltb-false used (length given) e)

by_choice : (b : Bool) (n used : ℕ) (given : List ℕ)
    → (if b then taken n (first (drop used given)) else 0) ≡ (if b && nat_lt used (length given) then slice_index given used % n else 0)
by_choice true n used given = by_left (nat_lt used (length given)) n used given refl
by_choice false n used given = refl

pub picked_alike : (n : ℕ) (d : Drawn) (picks : List ℕ) → StandsFor d picks → picked n picks ≡ drawn_answer n d
picked_alike n d picks st =
    ap (λ (xs : List ℕ). if is_choice n then taken n (first xs) else 0) st.left ∙ by_choice (is_choice n) n d.used d.given
