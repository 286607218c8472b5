-- Lists with the last one first: what is taken off, and what lies under it.
use Rattle.std.proofs.Common.{◌≡◌, ◌≤◌, ◌<◌, ◌-◌, ℕ, List, ◌++◌, take, drop, length, reverse, ap, sym, ◌∙◌, arith, Some, min, length-drop, get_or}
use Rattle.std.proofs.lemmas.List.{take_at, drop_at, take_min, take-append-drop, reverse-append, length-reverse, get_or-reverse}
use Rattle.std.proofs.lemmas.Option.{slice_get-get_or}
use Rattle.std.specs.List.{slice_get}

turned : {X : Type 0} (xs : List X) (n : ℕ) → reverse xs ≡ reverse (drop n xs) ++ reverse (take n xs)
turned xs n = ap reverse (sym (take-append-drop n xs)) ∙ reverse-append (take n xs) (drop n xs)

long : {X : Type 0} (xs : List X) (n : ℕ) → n ≤ length xs → length (reverse (drop (length xs - n) xs)) ≡ n
long xs n h = let e = length-reverse (drop (length xs - n) xs) in let k = length-drop (length xs - n) xs in omega arith

-- the last ones, and those under them
pub last_ones : {X : Type 0} (xs : List X) (n : ℕ) → n ≤ length xs → take n (reverse xs) ≡ reverse (drop (length xs - n) xs)
last_ones xs n h = ap (take n) (turned xs (length xs - n)) ∙ take_at (reverse (drop (length xs - n) xs)) (reverse (take (length xs - n) xs)) n (long xs n h)

pub under_them : {X : Type 0} (xs : List X) (n : ℕ) → n ≤ length xs → drop n (reverse xs) ≡ reverse (take (length xs - n) xs)
under_them xs n h = ap (drop n) (turned xs (length xs - n)) ∙ drop_at (reverse (drop (length xs - n) xs)) (reverse (take (length xs - n) xs)) n (long xs n h)

-- the last ones, or all where there are fewer
pub last_or_all : {X : Type 0} (xs : List X) (n : ℕ) → take n (reverse xs) ≡ reverse (drop (length xs - n) xs)
last_or_all xs n =
    let m : ℕ = min n (length xs) in
    let same : length (reverse xs) ≡ length xs = length-reverse xs in
    let low : m ≤ length xs = omega arith in
    let left : length xs - m ≡ length xs - n = omega arith in
    sym (take_min n (reverse xs)) ∙ ap (λ (k : ℕ). take (min n k) (reverse xs)) same ∙ last_ones xs m low ∙ ap (λ (k : ℕ). reverse (drop k xs)) left

-- the one at a depth from the end, and those before it
pub found_deep : {X : Type 0} (xs : List X) (x : X) (depth keep : ℕ) → depth < length xs → keep ≡ length xs - 1 - depth → x ≡ get_or xs keep x → slice_get (reverse xs) depth ≡ Some x
found_deep xs x depth keep h k i =
    let within : depth < length (reverse xs) = let e = length-reverse xs in omega arith in
    slice_get-get_or (reverse xs) depth x within ∙ ap Some (get_or-reverse xs depth x h ∙ ap (λ (n : ℕ). get_or xs n x) (sym k) ∙ sym i)

pub before_it : {X : Type 0} (xs : List X) (depth keep : ℕ) → depth ≤ length xs → keep ≡ length xs - depth → reverse (take keep xs) ≡ drop depth (reverse xs)
before_it xs depth keep h k = ap (λ (n : ℕ). reverse (take n xs)) k ∙ sym (under_them xs depth h)
