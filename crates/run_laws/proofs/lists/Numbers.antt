-- Numbers of tasks that pass a test, where one task is another, or is made.
use Rattle.std.proofs.Common.{◌≡◌, ◌<◌, ℕ, zero, suc, ◌+◌, Bool, true, false, cond, ◌==◌, if◌then◌else◌, List, [], ◌∷◌, ◌++◌, map, filter, length, slice_set, refl, sym, ap, ◌∙◌, subst, arith, Some}
use Rattle.std.specs.List.{slice_get, AllByRecursion}
use Rattle.std.specs.Ordering.{nat_cmp, is_eq, match_ordering}
use Rattle.std.specs.declared.cmp.Ordering.{Ordering}
use Rattle.std.specs.declared.cmp.Ordering.TheVariants.{Less, Equal, Greater}
use Rattle.std.proofs.lemmas.Bool.{eq-eqb, ne_eqb, lt-ltb, le-ltb}
use Rattle.task_table.specs.declared.slot.TaskSlot.{TaskSlot}
use Rattle.task_table.specs.Tasks.{with_number, without}
use Rattle.abi_machine.specs.Reading.{with_numbers}
use Rattle.abi_machine.proofs.sound.Found.{some_same}

-- From a number on.
abbrev pub numbers_from : (TaskSlot → Bool) → ℕ → List TaskSlot → List ℕ
numbers_from test number tasks = map (λ (x : ℕ × TaskSlot). x.0) (filter (λ (x : ℕ × TaskSlot). test x.1) (with_numbers number tasks))

abbrev pick : Bool → ℕ → List ℕ → List ℕ
pick b n ns = if b then n ∷ ns else ns

picked : (b : Bool) (n : ℕ) (slot : TaskSlot) (xs : List (ℕ × TaskSlot))
    → map (λ (x : ℕ × TaskSlot). x.0) (if b then (n, slot) ∷ xs else xs) ≡ pick b n (map (λ (x : ℕ × TaskSlot). x.0) xs)
picked true n slot xs = refl
picked false n slot xs = refl

front_is : (test : TaskSlot → Bool) (number : ℕ) (slot : TaskSlot) (tasks : List TaskSlot)
    → numbers_from test number (slot ∷ tasks) ≡ pick (test slot) number (numbers_from test (number + 1) tasks)
front_is test number slot tasks = picked (test slot) number slot (filter (λ (x : ℕ × TaskSlot). test x.1) (with_numbers (number + 1) tasks))

-- Numbers are compared.
less_is : (x y : ℕ) → x < y → nat_cmp x y ≡ Less
less_is x y h = ap (λ (b : Bool). cond b Less (cond (x == y) Equal Greater)) (lt-ltb x y h)

same_is : (x y : ℕ) → x ≡ y → nat_cmp x y ≡ Equal
same_is x y h =
    ap (λ (b : Bool). cond b Less (cond (x == y) Equal Greater)) (le-ltb x y (omega (arith, h))) ∙ ap (λ (b : Bool). cond b Equal Greater) (eq-eqb x y h)

more_is : (x y : ℕ) → y < x → nat_cmp x y ≡ Greater
more_is x y h =
    ap (λ (b : Bool). cond b Less (cond (x == y) Equal Greater)) (le-ltb x y (omega (arith, h)))
    ∙ ap (λ (b : Bool). cond b Equal Greater) (ne_eqb x y (λ (e : x ≡ y). omega (arith, h, e)))

-- A number below others is none of them, and comes first among them.
abbrev Above : ℕ → List ℕ → Type 0
Above n xs = AllByRecursion (λ m. n < m) xs

above_pick : (n m : ℕ) (b : Bool) (xs : List ℕ) → n < m → Above n xs → Above n (pick b m xs)
above_pick n m true xs less h = (less, h)
above_pick n m false xs less h = h

above_from : (test : TaskSlot → Bool) (n number : ℕ) (tasks : List TaskSlot) → n < number → Above n (numbers_from test number tasks)
above_from test n number [] less = tt
above_from test n number (slot ∷ tasks) less =
    subst (λ (xs : List ℕ). Above n xs) (sym (front_is test number slot tasks))
    (above_pick n number (test slot) (numbers_from test (number + 1) tasks) less (above_from test n (number + 1) tasks (omega (arith, less))))

none_below : (n : ℕ) (xs : List ℕ) → Above n xs → without n xs ≡ xs
none_below n [] h = refl
none_below n (x ∷ xs) h =
    ap (λ (o : Ordering). cond (is_eq o) xs (x ∷ without n xs)) (less_is n x h.0) ∙ ap (λ (ys : List ℕ). x ∷ ys) (none_below n xs h.1)

first_of : (n : ℕ) (xs : List ℕ) → Above n xs → with_number n xs ≡ n ∷ xs
first_of n [] h = refl
first_of n (x ∷ xs) h = ap (λ (o : Ordering). match_ordering o (n ∷ x ∷ xs) (x ∷ xs) (x ∷ with_number n xs)) (less_is n x h.0)

-- A number is taken out, or put in, behind a lower one.
out_behind : (n m : ℕ) (b : Bool) (xs : List ℕ) → m < n → without n (pick b m xs) ≡ pick b m (without n xs)
out_behind n m true xs less = ap (λ (o : Ordering). cond (is_eq o) xs (m ∷ without n xs)) (more_is n m less)
out_behind n m false xs less = refl

in_behind : (n m : ℕ) (b : Bool) (xs : List ℕ) → m < n → with_number n (pick b m xs) ≡ pick b m (with_number n xs)
in_behind n m true xs less = ap (λ (o : Ordering). match_ordering o (n ∷ m ∷ xs) (m ∷ xs) (m ∷ with_number n xs)) (more_is n m less)
in_behind n m false xs less = refl

out_here : (n : ℕ) (b : Bool) (xs : List ℕ) → Above n xs → without n (pick b n xs) ≡ xs
out_here n true xs h = ap (λ (o : Ordering). cond (is_eq o) xs (n ∷ without n xs)) (same_is n n refl)
out_here n false xs h = none_below n xs h

in_here : (n : ℕ) (b : Bool) (xs : List ℕ) → Above n xs → with_number n (pick b n xs) ≡ n ∷ xs
in_here n true xs h = ap (λ (o : Ordering). match_ordering o (n ∷ n ∷ xs) (n ∷ xs) (n ∷ with_number n xs)) (same_is n n refl)
in_here n false xs h = first_of n xs h

-- A task is another one, which passes where the first does;
pub numbers_same : (test : TaskSlot → Bool) (number t : ℕ) (tasks : List TaskSlot) (x y : TaskSlot) → slice_get tasks t ≡ Some x → test y ≡ test x
    → numbers_from test number (slice_set tasks t y) ≡ numbers_from test number tasks
numbers_same test number t [] x y is same = absurd (cc)
numbers_same test number zero (slot ∷ tasks) x y is same =
    front_is test number y tasks
    ∙ ap (λ (b : Bool). pick b number (numbers_from test (number + 1) tasks)) (same ∙ ap test (sym (some_same is)))
    ∙ sym (front_is test number slot tasks)
numbers_same test number (suc t) (slot ∷ tasks) x y is same =
    front_is test number slot (slice_set tasks t y)
    ∙ ap (λ (xs : List ℕ). pick (test slot) number xs) (numbers_same test (number + 1) t tasks x y is same)
    ∙ sym (front_is test number slot tasks)

-- or which does not pass, so that its number is none of them;
pub numbers_out : (test : TaskSlot → Bool) (number t : ℕ) (tasks : List TaskSlot) (x y : TaskSlot) → slice_get tasks t ≡ Some x → test y ≡ false
    → numbers_from test number (slice_set tasks t y) ≡ without (number + t) (numbers_from test number tasks)
numbers_out test number t [] x y is none = absurd (cc)
numbers_out test number zero (slot ∷ tasks) x y is none =
    let here : number ≡ number + 0 = omega arith in
    let rest : List ℕ = numbers_from test (number + 1) tasks in
    front_is test number y tasks
    ∙ ap (λ (b : Bool). pick b number rest) none
    ∙ sym (out_here number (test slot) rest (above_from test number (number + 1) tasks (omega arith)))
    ∙ ap (λ (n : ℕ). without n (pick (test slot) number rest)) here
    ∙ ap (λ (xs : List ℕ). without (number + 0) xs) (sym (front_is test number slot tasks))
numbers_out test number (suc t) (slot ∷ tasks) x y is none =
    let next : number + 1 + t ≡ number + suc t = omega arith in
    front_is test number slot (slice_set tasks t y)
    ∙ ap (λ (xs : List ℕ). pick (test slot) number xs) (numbers_out test (number + 1) t tasks x y is none)
    ∙ ap (λ (n : ℕ). pick (test slot) number (without n (numbers_from test (number + 1) tasks))) next
    ∙ sym (out_behind (number + suc t) number (test slot) (numbers_from test (number + 1) tasks) (omega arith))
    ∙ ap (λ (xs : List ℕ). without (number + suc t) xs) (sym (front_is test number slot tasks))

-- or which passes, so that its number is among them;
pub numbers_in_one : (test : TaskSlot → Bool) (number t : ℕ) (tasks : List TaskSlot) (x y : TaskSlot) → slice_get tasks t ≡ Some x → test y ≡ true
    → numbers_from test number (slice_set tasks t y) ≡ with_number (number + t) (numbers_from test number tasks)
numbers_in_one test number t [] x y is some = absurd (cc)
numbers_in_one test number zero (slot ∷ tasks) x y is some =
    let here : number ≡ number + 0 = omega arith in
    let rest : List ℕ = numbers_from test (number + 1) tasks in
    front_is test number y tasks
    ∙ ap (λ (b : Bool). pick b number rest) some
    ∙ sym (in_here number (test slot) rest (above_from test number (number + 1) tasks (omega arith)))
    ∙ ap (λ (n : ℕ). with_number n (pick (test slot) number rest)) here
    ∙ ap (λ (xs : List ℕ). with_number (number + 0) xs) (sym (front_is test number slot tasks))
numbers_in_one test number (suc t) (slot ∷ tasks) x y is some =
    let next : number + 1 + t ≡ number + suc t = omega arith in
    front_is test number slot (slice_set tasks t y)
    ∙ ap (λ (xs : List ℕ). pick (test slot) number xs) (numbers_in_one test (number + 1) t tasks x y is some)
    ∙ ap (λ (n : ℕ). pick (test slot) number (with_number n (numbers_from test (number + 1) tasks))) next
    ∙ sym (in_behind (number + suc t) number (test slot) (numbers_from test (number + 1) tasks) (omega arith))
    ∙ ap (λ (xs : List ℕ). with_number (number + suc t) xs) (sym (front_is test number slot tasks))

-- and so it is of one that is made.
pub numbers_more : (test : TaskSlot → Bool) (number : ℕ) (tasks : List TaskSlot) (y : TaskSlot) → test y ≡ true
    → numbers_from test number (tasks ++ y ∷ []) ≡ with_number (number + length tasks) (numbers_from test number tasks)
numbers_more test number [] y some =
    let here : number ≡ number + 0 = omega arith in
    front_is test number y [] ∙ ap (λ (b : Bool). pick b number []) some ∙ ap (λ (n : ℕ). n ∷ []) here
numbers_more test number (slot ∷ tasks) y some =
    let next : number + 1 + length tasks ≡ number + suc (length tasks) = omega arith in
    front_is test number slot (tasks ++ y ∷ [])
    ∙ ap (λ (xs : List ℕ). pick (test slot) number xs) (numbers_more test (number + 1) tasks y some)
    ∙ ap (λ (n : ℕ). pick (test slot) number (with_number n (numbers_from test (number + 1) tasks))) next
    ∙ sym (in_behind (number + suc (length tasks)) number (test slot) (numbers_from test (number + 1) tasks) (omega arith))
    ∙ ap (λ (xs : List ℕ). with_number (number + suc (length tasks)) xs) (sym (front_is test number slot tasks))
