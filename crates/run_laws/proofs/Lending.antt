-- How often handles are lent, as the machine counts that over all calls: where one is lent for the call of a task, and nothing else.
use mathlib.Core.Path.{fun_ext}
use Rattle.std.proofs.Common.{◌≡◌, ◌≢◌, ◌∙◌, ◌+◌, ℕ, zero, suc, Bool, true, false, cond, nat_eq, ◌&&◌, count_by, List, [], ◌∷◌, ◌++◌, refl, sym, ap, subst, arith, Option, Some, None}
use Rattle.std.specs.List.{slice_get, sum_by}
use Rattle.std.proofs.lemmas.Bool.{eqb-true, eq-eqb}
use Rattle.std.proofs.lemmas.List.Sums.{sum_by-cons, sum_by_push}
use Rattle.tasks.specs.Subtasks.{with_lend}
use Rattle.comp_graph.specs.Graph.{Lifted}
use Rattle.abi_machine.specs.World.{Subtask, Caller, Nobody, Host, Guest, TaskState, Task, World}
use Rattle.abi_machine.specs.Edits.{changed_at, caller_changed, by_view, in_state, lent}
use Rattle.abi_machine.specs.Reading.{func_of, is_in, runs_in, task_at, subtask_of}
use Rattle.abi_machine.specs.Counting.{passes, lends_for, lends_of}
use Rattle.abi_machine.proofs.sound.Found.{some_same}
use Rattle.run_laws.specs.Lifted.{SameCaller, TaskStays}

-- The caller's side of a call for which a handle is lent, and its task.
abbrev pub lend_side : ℕ → ℕ → Subtask → Subtask
lend_side callee handle subtask = by_view (with_lend handle) callee subtask.told subtask

abbrev pub lend_in : ℕ → ℕ → Task → Task
lend_in callee handle task = record task { caller = caller_changed (lend_side callee handle) task.caller }

-- Whether the task of a number runs a function of an instance.
abbrev pub is_here : World → ℕ → ℕ → Bool
is_here w at t = passes (runs_in at) (task_at w t)

-- What a test sees of items, where one is changed and the test does not see that.
test_kept : {A : Type 0} (test : A → Bool) (f : A → A) (n : ℕ) (xs : List A) (t : ℕ) → ((x : A) → test (f x) ≡ test x) → passes test (slice_get (changed_at n f xs) t) ≡ passes test (slice_get xs t)
test_kept test f n [] t kept = refl
test_kept test f zero (x ∷ xs) zero kept = kept x
test_kept test f zero (x ∷ xs) (suc t) kept = refl
test_kept test f (suc n) (x ∷ xs) zero kept = refl
test_kept test f (suc n) (x ∷ xs) (suc t) kept = test_kept test f n xs t kept

pub here_kept : (w : World) (callee handle at t : ℕ) → is_here (lent callee handle w) at t ≡ is_here w at t
here_kept w callee handle at t = test_kept (runs_in at) (lend_in callee handle) callee w.tasks t (λ x. refl)

-- A sum over items, where one of them counts for more.
sum_more : {A : Type 0} (p : A → ℕ) (f : A → A) (n : ℕ) (xs : List A) (x : A) (more : ℕ) → slice_get xs n ≡ Some x → p (f x) ≡ p x + more → sum_by p (changed_at n f xs) ≡ sum_by p xs + more
sum_more p f n [] x more is e = absurd (cc)
sum_more p f zero (y ∷ xs) x more is e =
    let same : y ≡ x = some_same is in
    let first : sum_by p (f y ∷ xs) ≡ p (f y) + sum_by p xs = sum_by-cons p (f y) xs in
    let whole : sum_by p (y ∷ xs) ≡ p y + sum_by p xs = sum_by-cons p y xs in
    let one : p (f y) ≡ p y + more = subst (λ z. p (f z) ≡ p z + more) (sym same) e in
    omega (arith, first, whole, one)
sum_more p f (suc n) (y ∷ xs) x more is e =
    let first : sum_by p (y ∷ changed_at n f xs) ≡ p y + sum_by p (changed_at n f xs) = sum_by-cons p y (changed_at n f xs) in
    let whole : sum_by p (y ∷ xs) ≡ p y + sum_by p xs = sum_by-cons p y xs in
    let rest : sum_by p (changed_at n f xs) ≡ sum_by p xs + more = sum_more p f n xs x more is e in
    omega (arith, first, whole, rest)

-- what a handle that is lent adds to the count of one at an index
abbrev pub lent_more : Bool → ℕ → ℕ → ℕ
lent_more here handle index = cond (here && nat_eq handle index) 1 0

counted_more : (here : Bool) (lends : List ℕ) (handle index : ℕ) → count_by (λ h. here && nat_eq h index) (lends ++ handle ∷ []) ≡ count_by (λ h. here && nat_eq h index) lends + lent_more here handle index
counted_more here lends handle index = sum_by_push (λ (h : ℕ). cond (here && nat_eq h index) 1 0) lends handle

-- A handle is lent for a call by a task.
pub lends_more : (w : World) (callee handle at index : ℕ) (task : Task) (subtask : Subtask) → slice_get w.tasks callee ≡ Some task → task.caller ≡ Guest subtask
    → lends_of (lent callee handle w) at index ≡ lends_of w at index + lent_more (is_here w at subtask.by) handle index
lends_more w callee handle at index task subtask there guest =
    let count : (ℕ → Bool) → Task → ℕ = λ here x. lends_for here index (subtask_of x.caller) in
    ap (λ (here : ℕ → Bool). sum_by (count here) (lent callee handle w).tasks) (fun_ext (λ (t : ℕ). here_kept w callee handle at t))
    ∙ sum_more (count (is_here w at)) (lend_in callee handle) callee w.tasks task (lent_more (is_here w at subtask.by) handle index) there
    (ap (λ (c : Caller). lends_for (is_here w at) index (subtask_of (caller_changed (lend_side callee handle) c))) guest
    ∙ counted_more (is_here w at subtask.by) subtask.lends handle index
    ∙ ap (λ (c : Caller). lends_for (is_here w at) index (subtask_of c) + lent_more (is_here w at subtask.by) handle index) (sym guest))

-- A task runs in one instance.
not_same : (a b : ℕ) → a ≢ b → nat_eq a b ≡ false
not_same a b apart = by (nat_eq a b) refl
  where
    by : (c : Bool) → nat_eq a b ≡ c → c ≡ false
    by true e = absurd (apart (eqb-true a b e))
    by false e = refl

func_apart : (at other : ℕ) (f : Option Lifted) → is_in at f ≡ true → other ≢ at → is_in other f ≡ false
func_apart at other None here apart = absurd (cc)
func_apart at other (Some f) here apart = not_same f.instance other (λ e. apart (sym e ∙ eqb-true f.instance at here))

task_apart : (at other : ℕ) (o : Option Task) → passes (runs_in at) o ≡ true → other ≢ at → passes (runs_in other) o ≡ false
task_apart at other None here apart = absurd (cc)
task_apart at other (Some task) here apart = func_apart at other (func_of task.callee) here apart

-- The count of the handle itself is one more; that of any other one, of this instance or of another, stays.
pub lent_once : (w : World) (callee handle at : ℕ) (task : Task) (subtask : Subtask) → slice_get w.tasks callee ≡ Some task → task.caller ≡ Guest subtask → is_here w at subtask.by ≡ true
    → lends_of (lent callee handle w) at handle ≡ lends_of w at handle + 1
lent_once w callee handle at task subtask there guest here =
    lends_more w callee handle at handle task subtask there guest
    ∙ ap (λ (b : Bool). lends_of w at handle + lent_more b handle handle) here
    ∙ ap (λ (b : Bool). lends_of w at handle + cond b 1 0) (eq-eqb handle handle refl)

pub lent_other : (w : World) (callee handle at index : ℕ) (task : Task) (subtask : Subtask) → slice_get w.tasks callee ≡ Some task → task.caller ≡ Guest subtask → index ≢ handle
    → lends_of (lent callee handle w) at index ≡ lends_of w at index
lent_other w callee handle at index task subtask there guest apart =
    let none : lent_more (is_here w at subtask.by) handle index ≡ 0 =
    ap (λ (b : Bool). cond (is_here w at subtask.by && b) 1 0) (not_same handle index (λ e. apart (sym e))) ∙ no_more (is_here w at subtask.by) in
    let more : lends_of (lent callee handle w) at index ≡ lends_of w at index + lent_more (is_here w at subtask.by) handle index = lends_more w callee handle at index task subtask there guest in
    omega (arith, none, more)
  where
    no_more : (b : Bool) → (let n : ℕ = cond (b && false) 1 0 in n) ≡ 0
    no_more true = refl
    no_more false = refl

pub lent_elsewhere : (w : World) (callee handle at other index : ℕ) (task : Task) (subtask : Subtask) → slice_get w.tasks callee ≡ Some task → task.caller ≡ Guest subtask
    → is_here w at subtask.by ≡ true → other ≢ at → lends_of (lent callee handle w) other index ≡ lends_of w other index
lent_elsewhere w callee handle at other index task subtask there guest here apart =
    let none : lent_more (is_here w other subtask.by) handle index ≡ 0 = ap (λ (b : Bool). lent_more b handle index) (task_apart at other (task_at w subtask.by) here apart) in
    let more : lends_of (lent callee handle w) other index ≡ lends_of w other index + lent_more (is_here w other subtask.by) handle index =
    lends_more w callee handle other index task subtask there guest in
    omega (arith, none, more)

-- A task that is in another state has the same calls.
same_sum : {A : Type 0} (p : A → ℕ) (f : A → A) (n : ℕ) (xs : List A) → ((x : A) → p (f x) ≡ p x) → sum_by p (changed_at n f xs) ≡ sum_by p xs
same_sum p f n [] same = refl
same_sum p f zero (x ∷ xs) same = sum_by-cons p (f x) xs ∙ ap (λ (m : ℕ). m + sum_by p xs) (same x) ∙ sym (sum_by-cons p x xs)
same_sum p f (suc n) (x ∷ xs) same = sum_by-cons p x (changed_at n f xs) ∙ ap (λ (m : ℕ). p x + m) (same_sum p f n xs same) ∙ sym (sum_by-cons p x xs)

pub here_in_state : (w : World) (t : ℕ) (state : TaskState) (at n : ℕ) → is_here (in_state t state w) at n ≡ is_here w at n
here_in_state w t state at n = test_kept (runs_in at) (λ task. record task { state = state }) t w.tasks n (λ x. refl)

pub lends_in_state : (w : World) (t : ℕ) (state : TaskState) (at index : ℕ) → lends_of (in_state t state w) at index ≡ lends_of w at index
lends_in_state w t state at index =
    let count : (ℕ → Bool) → Task → ℕ = λ here x. lends_for here index (subtask_of x.caller) in
    ap (λ (here : ℕ → Bool). sum_by (count here) (in_state t state w).tasks) (fun_ext (λ (n : ℕ). here_in_state w t state at n))
    ∙ same_sum (count (is_here w at)) (λ task. record task { state = state }) t w.tasks (λ x. refl)

-- Beside what is lent, a task stays.
same_caller : (c : Caller) → SameCaller c c
same_caller Nobody = refl
same_caller (Host call all) = refl
same_caller (Guest x) = (refl, refl, refl)

pub itself_stays : (a : Task) → TaskStays a a
itself_stays a = record { callee = refl; resolution = refl; caller = same_caller a.caller }

caller_lent : (callee handle : ℕ) (c d : Caller) → SameCaller c d → SameCaller c (caller_changed (lend_side callee handle) d)
caller_lent callee handle Nobody d same = ap (λ (x : Caller). caller_changed (lend_side callee handle) x) same
caller_lent callee handle (Host call all) d same = ap (λ (x : Caller). caller_changed (lend_side callee handle) x) same
caller_lent callee handle (Guest x) Nobody same = absurd same
caller_lent callee handle (Guest x) (Host call all) same = absurd same
caller_lent callee handle (Guest x) (Guest y) same = same

pub lent_stays : (callee handle : ℕ) (a b : Task) → TaskStays a b → TaskStays a (lend_in callee handle b)
lent_stays callee handle a b st = record { callee = st.callee; resolution = st.resolution; caller = caller_lent callee handle a.caller b.caller st.caller }
