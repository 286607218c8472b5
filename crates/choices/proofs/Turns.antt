-- Picks that are used in turn.
use Rattle.std.proofs.Common.{◌≡◌, ℕ, ◌+◌, ◌<◌, ◌≤◌, ◌%◌, sym, ap, refl, ◌∙◌, arith, subst, Bool, true, false, ◌&&◌, nat_lt, if◌then◌else◌, List, [], ◌∷◌, length, drop}
use Rattle.std.specs.List.{count_by, slice_index}
use Rattle.std.proofs.lemmas.Bool.{ltb-true, ltb-false}
use Rattle.std.proofs.lemmas.List.{drop-drop, drop_all}
use Rattle.std.proofs.lemmas.List.Sums.{sum_by-cons}
use Rattle.std.proofs.lemmas.Grind.{get_or_after_one}
use Rattle.std.proofs.Math.Nat.{zero-mod}
use Rattle.choices.specs.Choosing.{is_choice, first, taken, picked, left}
use Rattle.choices.specs.Drawing.{Drawn, StandsFor, drawn}
use Rattle.choices.specs.Laws.{left_after}

-- the next pick is the first one that is left
next_is : (n : ℕ) (picks : List ℕ) → taken n (first picks) ≡ slice_index picks 0 % n
next_is n [] = sym (zero-mod n)
next_is n (p ∷ picks) = refl

-- behind one choice the picks count from one later
behind : (b : Bool) (k : ℕ) (picks : List ℕ) → slice_index (if b then drop 1 picks else picks) k ≡ slice_index picks ((if b then 1 else 0) + k)
behind true k picks = get_or_after_one picks k 0
behind false k picks = ap (λ (i : ℕ). slice_index picks i) (omega arith)

pub in_turn : (before picks : List ℕ) (n : ℕ) → picked n (left_after before picks) ≡ (if is_choice n then slice_index picks (count_by is_choice before) % n else 0)
in_turn [] picks n = ap (λ (a : ℕ). if is_choice n then a else 0) (next_is n picks)
in_turn (m ∷ before) picks n =
    in_turn before (left m picks) n
    ∙ ap (λ (a : ℕ). if is_choice n then a % n else 0) (behind (is_choice m) (count_by is_choice before) picks)
    ∙ ap (λ (k : ℕ). if is_choice n then slice_index picks k % n else 0) (sym (sum_by-cons (λ (x : ℕ). if is_choice x then 1 else 0) m before))

left_more : (b : Bool) (used : ℕ) (given : List ℕ) → used ≤ length given → nat_lt used (length given) ≡ b → drop 1 (drop used given) ≡ drop (if b then used + 1 else used) given
left_more true used given h e = drop-drop 1 used given
left_more false used given h e =
    let past : length given ≤ used = ltb-false used (length given) e in
    let none : drop used given ≡ [] = drop_all used given past in
    ap (λ (xs : List ℕ). drop 1 xs) none ∙ sym none

-- A choice leaves what was given and not used.
left_is : (b : Bool) (used : ℕ) (given : List ℕ) → used ≤ length given → (if b then drop 1 (drop used given) else drop used given) ≡ drop (if b && nat_lt used (length given) then used + 1 else used) given
left_is false used given h = refl
left_is true used given h = left_more (nat_lt used (length given)) used given h refl

used_more : (b : Bool) (d : Drawn) → d.used ≤ length d.given → nat_lt d.used (length d.given) ≡ b → (if b then d.used + 1 else d.used) ≤ length d.given
used_more true d h e = let more : d.used < length d.given = ltb-true d.used (length d.given) e in omega arith
used_more false d h e = h

drawn_used : (b : Bool) (d : Drawn) → d.used ≤ length d.given → (if b && nat_lt d.used (length d.given) then d.used + 1 else d.used) ≤ length d.given
drawn_used false d h = h
drawn_used true d h = used_more (nat_lt d.used (length d.given)) d h refl

drawn_is : (b : Bool) (d : Drawn) → (if b then record { given = d.given; used = d.used + 1 } else d) ≡ (let e : Drawn = record { given = d.given; used = if b then d.used + 1 else d.used } in e)
drawn_is true d = refl
drawn_is false d = refl

drawn_by : (b : Bool) (picks later : List ℕ) → later ≡ (if b then drop 1 picks else picks) → (d : Drawn) → StandsFor d picks → StandsFor (if b && nat_lt d.used (length d.given) then record { given = d.given; used = d.used + 1 } else d) later
drawn_by b picks later e d h =
    let P : Drawn → Type 0 = λ (x : Drawn). StandsFor x later in
    subst P (sym (drawn_is (b && nat_lt d.used (length d.given)) d)) (record {
      used = drawn_used b d h.used;
      left = e ∙ ap (λ (xs : List ℕ). if b then drop 1 xs else xs) h.left ∙ left_is b d.used d.given h.used;
    })

pub drawn_stands : (n : ℕ) (picks later : List ℕ) → later ≡ left n picks → (d : Drawn) → StandsFor d picks → StandsFor (drawn n d) later
drawn_stands n picks later e d h = drawn_by (is_choice n) picks later e d h
