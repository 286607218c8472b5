-- A task that is called adds its component instance to those that no call may come back to, so that one after the other fewer canonical functions and
-- destructors are left that may be called. A destructor that runs in its own instance takes a handle out of a table.
use Rattle.std.proofs.Common.{◌≡◌, ◌≤◌, ◌<◌, ◌⊎◌, inl, inr, ℕ, zero, suc, ◌+◌, Bool, true, false, ◌||◌, nat_eq, max, List, [], ◌∷◌, ◌++◌, map, length, refl, ap, sym, ◌∙◌, subst, arith, Option, Some, None, if◌then◌else◌}
use Rattle.std.proofs.lemmas.Bool.Decides.{nat_tests}
use Rattle.std.specs.List.{slice_get}
use Rattle.std.specs.Option.{option_map}
use Rattle.handle_table.specs.History.{Event, Add, Remove, live, greatest}
use Rattle.comp_graph.specs.declared.graph.Resource.{Resource}
use Rattle.comp_graph.specs.declared.graph.CanonFunc.{CanonFunc}
use Rattle.comp_graph.specs.declared.graph.CanonFunc.TheVariants as canon
use Rattle.comp_graph.specs.Graph.{Graph, Lifted}
use Rattle.abi_machine.specs.World.{Entry, Inst, Callee, Subtask, Caller, Guest, New, Task, World, new_task}
use Rattle.abi_machine.specs.Edits.{changed_at, entry_removed}
use Rattle.abi_machine.specs.Canons.{resource_at}
use Rattle.abi_machine.specs.Reading.{table_in, entry_at, func_of, is_in, is_among, is_of_task, is_among_callers, is_reentrant, subtask_of}
use Rattle.abi_machine.proofs.sound.Acted.{last_is}
use Rattle.abi_machine.proofs.sound.Found.{changed_kept}
use Rattle.abi_machine.proofs.sound.Lists.{get_front, length_more}

-- The component instances that calls and destructors may come to: that of each function that is lowered, and that of each resource.
abbrev pub target_of : CanonFunc → ℕ
target_of (canon.Lower l) = l.lift.instance
target_of (canon.Builtin b) = b.instance

abbrev pub targets : Graph → List ℕ
targets g = map target_of g.canons ++ map (λ r. r.instance) g.resources

-- how many of them are none of these instances
abbrev one_unless : Bool → ℕ
one_unless true = 0
one_unless false = 1

abbrev pub unused : (ℕ → Bool) → List ℕ → ℕ
unused used [] = 0
unused used (i ∷ others) = one_unless (used i) + unused used others

-- with one instance more
abbrev pub with_one : ℕ → (ℕ → Bool) → ℕ → Bool
with_one own used i = nat_eq own i || used i

either_true : (a b : Bool) → a || b ≡ true → (a ≡ true) ⊎ (b ≡ true)
either_true true b h = inl refl
either_true false b h = inr h

left_true : (a b : Bool) → a ≡ true → a || b ≡ true
left_true true b h = refl
left_true false b h = cc

right_true : (a b : Bool) → b ≡ true → a || b ≡ true
right_true true b h = refl
right_true false b h = h

fewer : (a b : Bool) → one_unless (a || b) ≤ one_unless b
fewer true true = omega arith
fewer true false = omega arith
fewer false b = omega arith

same_number : (a b : ℕ) → a ≡ b → nat_eq a b ≡ true
same_number a b h = grind (arith, nat_tests)

no_more : (own : ℕ) (used : ℕ → Bool) (is : List ℕ) → unused (with_one own used) is ≤ unused used is
no_more own used [] = omega arith
no_more own used (i ∷ is) =
    let first = fewer (nat_eq own i) (used i) in
    let others = no_more own used is in
    omega (arith, first, others)

-- Where an instance that is added was not among them, fewer are left.
pub one_less : (own : ℕ) (used : ℕ → Bool) (is : List ℕ) (n : ℕ) → slice_get is n ≡ Some own → used own ≡ false → suc (unused (with_one own used) is) ≤ unused used is
one_less own used [] n there not = cc
one_less own used (i ∷ is) zero there not =
    let same : i ≡ own = cc in
    let now : one_unless (with_one own used i) ≡ 0 = ap one_unless (left_true (nat_eq own i) (used i) (same_number own i (sym same))) in
    let before : one_unless (used i) ≡ 1 = ap one_unless (ap used same ∙ not) in
    let others = no_more own used is in
    omega (arith, now, before, others)
one_less own used (i ∷ is) (suc n) there not =
    let first = fewer (nat_eq own i) (used i) in
    let others = one_less own used is n there not in
    omega (arith, first, others)

-- what stands in a list, behind a function and in one of two lists
mapped : {A B : Type 0} (f : A → B) (xs : List A) (n : ℕ) (x : A) → slice_get xs n ≡ Some x → slice_get (map f xs) n ≡ Some (f x)
mapped f [] n x e = cc
mapped f (y ∷ xs) zero x e = let same : y ≡ x = cc in ap (λ z. Some (f z)) same
mapped f (y ∷ xs) (suc n) x e = mapped f xs n x e

in_front : {A : Type 0} (xs ys : List A) (n : ℕ) (x : A) → slice_get xs n ≡ Some x → slice_get (xs ++ ys) n ≡ Some x
in_front [] ys n x e = cc
in_front (y ∷ xs) ys zero x e = e
in_front (y ∷ xs) ys (suc n) x e = in_front xs ys n x e

behind_all : {A : Type 0} (xs ys : List A) (n : ℕ) (x : A) → slice_get ys n ≡ Some x → (m : ℕ) × (slice_get (xs ++ ys) m ≡ Some x)
behind_all [] ys n x e = (n, e)
behind_all (y ∷ xs) ys n x e = (let m = behind_all xs ys n x e in (suc m.0, m.1))

abbrev pub IsTarget : Graph → ℕ → Type 0
IsTarget g i = (n : ℕ) × (slice_get (targets g) n ≡ Some i)

pub canon_target : (g : Graph) (number : ℕ) (c : CanonFunc) → slice_get g.canons number ≡ Some c → IsTarget g (target_of c)
canon_target g number c e = (number, in_front (map target_of g.canons) (map (λ r. r.instance) g.resources) number (target_of c) (mapped target_of g.canons number c e))

pub resource_target : (g : Graph) (number : ℕ) (r : Resource) → resource_at g number ≡ Some r → IsTarget g r.instance
resource_target g zero r e = cc
resource_target g (suc place) r e =
    behind_all (map target_of g.canons) (map (λ (r : Resource). r.instance) g.resources) place r.instance (mapped (λ (r : Resource). r.instance) g.resources place r e)

pub target_less : (g : Graph) (own : ℕ) (used : ℕ → Bool) → IsTarget g own → used own ≡ false → suc (unused (with_one own used) (targets g)) ≤ unused used (targets g)
target_less g own used h not = one_less own used (targets g) h.0 h.1 not

-- Callers, by the list of tasks.
abbrev pub is_among_tasks : ℕ → List Task → ℕ → ℕ → Bool
is_among_tasks zero tasks inst t = false
is_among_tasks (suc count) tasks inst t = is_of_task (is_among_tasks count tasks inst) inst (slice_get tasks t)

among_same : (test other : ℕ → Bool) → ((n : ℕ) → test n ≡ other n) → (o : Option Subtask) → is_among test o ≡ is_among other o
among_same test other same None = refl
among_same test other same (Some subtask) = same subtask.by

of_same : (test other : ℕ → Bool) → ((n : ℕ) → test n ≡ other n) → (inst : ℕ) (o : Option Task) → is_of_task test inst o ≡ is_of_task other inst o
of_same test other same inst None = refl
of_same test other same inst (Some task) = ap (λ (b : Bool). is_in inst (func_of task.callee) || b) (among_same test other same (subtask_of task.caller))

among_is : (w : World) (count inst t : ℕ) → is_among_callers count w inst t ≡ is_among_tasks count w.tasks inst t
among_is w zero inst t = refl
among_is w (suc count) inst t = of_same (is_among_callers count w inst) (is_among_tasks count w.tasks inst) (among_is w count inst) inst (slice_get w.tasks t)

-- The same tasks are called by the same ones.
abbrev pub caller_number : Caller → Option ℕ
caller_number c = option_map (λ subtask. subtask.by) (subtask_of c)

abbrev pub IsAlike : Task → Task → Type 0
IsAlike task later = (later.callee ≡ task.callee) × (caller_number later.caller ≡ caller_number task.caller)

abbrev pub StayAlike : List Task → List Task → Type 0
StayAlike tasks later = (t : ℕ) (task : Task) → slice_get tasks t ≡ Some task → (x : Task) × (slice_get later t ≡ Some x) × IsAlike task x

pub changed_alike : (t : ℕ) (f : Task → Task) (tasks : List Task) → ((x : Task) → IsAlike x (f x)) → StayAlike tasks (changed_at t f tasks)
changed_alike t f tasks keeps n task e = elim (changed_kept t f tasks n task e) [
  | inl old ↦ (task, old, (refl, refl))
  | inr new ↦ (f task, new, keeps task)
]

among_number : (ℕ → Bool) → Option ℕ → Bool
among_number test None = false
among_number test (Some n) = test n

by_number : (test : ℕ → Bool) (o : Option Subtask) → is_among test o ≡ among_number test (option_map (λ subtask. subtask.by) o)
unfolding among_number
by_number test None = refl
by_number test (Some subtask) = refl

among_more : (test other : ℕ → Bool) → ((n : ℕ) → test n ≡ true → other n ≡ true) → (o : Option ℕ) → among_number test o ≡ true → among_number other o ≡ true
unfolding among_number
among_more test other more None h = h
among_more test other more (Some n) h = more n h

of_kept : (test other : ℕ → Bool) → ((n : ℕ) → test n ≡ true → other n ≡ true) → (inst : ℕ) (task later : Task) → IsAlike task later → is_of_task test inst (Some task) ≡ true → is_of_task other inst (Some later) ≡ true
of_kept test other more inst task later alike h = elim (either_true (is_in inst (func_of task.callee)) (is_among test (subtask_of task.caller)) h) [
  | inl own ↦ left_true _ _ (ap (λ callee. is_in inst (func_of callee)) alike.0 ∙ own)
  | inr by ↦ (
      let number : among_number test (option_map (λ subtask. subtask.by) (subtask_of task.caller)) ≡ true = sym (by_number test (subtask_of task.caller)) ∙ by in
      right_true _ _
      (by_number other (subtask_of later.caller)
      ∙ (ap (among_number other) alike.1 ∙ among_more test other more (option_map (λ subtask. subtask.by) (subtask_of task.caller)) number))
      )
]

among_kept : (tasks later : List Task) → StayAlike tasks later → (count inst t : ℕ) → is_among_tasks count tasks inst t ≡ true → is_among_tasks count later inst t ≡ true
among_kept tasks later keeps zero inst t h = h
among_kept tasks later keeps (suc count) inst t h = by (λ n. among_kept tasks later keeps count inst n) (slice_get tasks t) refl h
  where
    by : ((n : ℕ) → is_among_tasks count tasks inst n ≡ true → is_among_tasks count later inst n ≡ true) → (o : Option Task) → slice_get tasks t ≡ o → is_of_task (is_among_tasks count tasks inst) inst o ≡ true
        → is_of_task (is_among_tasks count later inst) inst (slice_get later t) ≡ true
    by more None e h = cc
    by more (Some task) e h =
        let k = keeps t task e in
        subst (λ (o : Option Task). is_of_task (is_among_tasks count later inst) inst o ≡ true) (sym k.1)
        (of_kept (is_among_tasks count tasks inst) (is_among_tasks count later inst) more inst task k.0 k.2 h)

-- No call of the acting task may come back to these instances.
abbrev pub IsUsed : (ℕ → Bool) → List Task → List ℕ → Type 0
IsUsed used tasks chain = (t : ℕ) → slice_get chain 0 ≡ Some t → (inst : ℕ) → used inst ≡ true → is_among_tasks (length tasks) tasks inst t ≡ true

abbrev pub none_used : ℕ → Bool
none_used inst = false

pub none_are : (tasks : List Task) (chain : List ℕ) → IsUsed none_used tasks chain
none_are tasks chain t e inst h = cc

pub used_kept : (used : ℕ → Bool) (tasks later : List Task) (chain : List ℕ) → length later ≡ length tasks → StayAlike tasks later → IsUsed used tasks chain → IsUsed used later chain
used_kept used tasks later chain long keeps u t e inst h =
    subst (λ (n : ℕ). is_among_tasks n later inst t ≡ true) (sym long) (among_kept tasks later keeps (length tasks) inst t (u t e inst h))

-- An instance to which the acting task may call is none of them.
pub not_used : (used : ℕ → Bool) (w : World) (t inst : ℕ) → slice_get w.chain 0 ≡ Some t → IsUsed used w.tasks w.chain → is_reentrant w inst t ≡ false → used inst ≡ false
not_used used w t inst first u not = by (used inst) refl
  where
    by : (b : Bool) → used inst ≡ b → b ≡ false
    by true is =
        let among : is_reentrant w inst t ≡ true = among_is w (length w.tasks) inst t ∙ u t first inst is in
        cc
    by false is = refl

-- So it is for a task that is called, with its own instance.
pub used_called : (used : ℕ → Bool) (before tasks : List Task) (chain : List ℕ) (t : ℕ) (callee : Callee) (f : Lifted) (subtask : Subtask) → func_of callee ≡ Some f → subtask.by ≡ t → slice_get chain 0 ≡ Some t
    → length tasks ≡ length before → StayAlike before tasks → IsUsed used before chain → IsUsed (with_one f.instance used) (tasks ++ new_task callee (Guest subtask) New ∷ []) (length before ∷ chain)
used_called used before tasks chain t callee f subtask runs by first long keeps u n e inst h =
    let number : length tasks ≡ n = cc (e, long) in
    subst (λ (k : ℕ). is_among_tasks k all inst n ≡ true) (sym more)
    (subst (λ (k : ℕ). is_among_tasks (suc (length before)) all inst k ≡ true) number
    (subst (λ (o : Option Task). is_of_task (is_among_tasks (length before) all inst) inst o ≡ true) (sym (last_is tasks new)) (of_new (either_true (nat_eq f.instance inst) (used inst) h))))
  where
    new : Task
    new = new_task callee (Guest subtask) New

    all : List Task
    all = tasks ++ new_task callee (Guest subtask) New ∷ []

    more : length all ≡ suc (length before)
    more = length_more tasks (new_task callee (Guest subtask) New) ∙ ap suc long

    all_keep : StayAlike before (tasks ++ new_task callee (Guest subtask) New ∷ [])
    all_keep k task there = let x = keeps k task there in (x.0, get_front tasks (new_task callee (Guest subtask) New) k x.0 x.1, x.2)

    old : used inst ≡ true → is_among_tasks (length before) (tasks ++ new_task callee (Guest subtask) New ∷ []) inst subtask.by ≡ true
    old is =
        subst (λ (k : ℕ). is_among_tasks (length before) (tasks ++ new_task callee (Guest subtask) New ∷ []) inst k ≡ true) (sym by)
        (among_kept before (tasks ++ new_task callee (Guest subtask) New ∷ []) all_keep (length before) inst t (u t first inst is))

    of_new : (nat_eq f.instance inst ≡ true) ⊎ (used inst ≡ true)
        → is_of_task (is_among_tasks (length before) (tasks ++ new_task callee (Guest subtask) New ∷ []) inst) inst (Some (new_task callee (Guest subtask) New)) ≡ true
    of_new (inl own) = left_true _ _ (ap (is_in inst) runs ∙ own)
    of_new (inr is) = right_true _ _ (old is)

-- How many entries are live in a table, and in all tables.
abbrev one_if : {A : Type 0} → Option A → ℕ
one_if None = 0
one_if (Some x) = 1

module _ {E : Type 0} where
  abbrev live_up_to : List (Event E) → ℕ → ℕ
  live_up_to h zero = one_if (live h 0)
  live_up_to h (suc n) = live_up_to h n + one_if (live h (suc n))

  fewer_if : (b : Bool) (o : Option E) → one_if (let x : Option E = if b then None else o in x) ≤ one_if o
  fewer_if true None = omega arith
  fewer_if true (Some x) = omega arith
  fewer_if false o = omega arith

  no_more_live : (h : List (Event E)) (i n : ℕ) → live_up_to (Remove i ∷ h) n ≤ live_up_to h n
  no_more_live h i zero = fewer_if (nat_eq i 0) (live h 0)
  no_more_live h i (suc n) =
      let before : live_up_to (Remove i ∷ h) n ≤ live_up_to h n = no_more_live h i n in
      let last : one_if (live (Remove i ∷ h) (suc n)) ≤ one_if (live h (suc n)) = fewer_if (nat_eq i (suc n)) (live h (suc n)) in
      omega (arith, before, last)

  gone : (h : List (Event E)) (i : ℕ) → one_if (live (Remove i ∷ h) i) ≡ 0
  gone h i = ap (λ (b : Bool). one_if (let x : Option E = if b then None else live h i in x)) (same_number i i refl)

  there_one : (o : Option E) (e : E) → o ≡ Some e → one_if o ≡ 1
  there_one None e h = cc
  there_one (Some x) e h = refl

  fewer_live : (h : List (Event E)) (i n : ℕ) (e : E) → live h i ≡ Some e → i ≤ n → live_up_to (Remove i ∷ h) n < live_up_to h n
  fewer_live h zero zero e there inside =
      let now : one_if (live (Remove 0 ∷ h) 0) ≡ 0 = gone h 0 in
      let before : one_if (live h 0) ≡ 1 = there_one (live h 0) e there in
      omega (arith, now, before)
  fewer_live h (suc i) zero e there inside = absurd (omega (arith, inside))
  fewer_live h i (suc n) e there inside = by (λ other. fewer_live h i n e there other) (nat_eq i (suc n)) refl
    where
      by : (i ≤ n → live_up_to (Remove i ∷ h) n < live_up_to h n) → (b : Bool) → nat_eq i (suc n) ≡ b → live_up_to (Remove i ∷ h) (suc n) < live_up_to h (suc n)
      by below true k =
          let same : i ≡ suc n = grind (arith, nat_tests) in
          let now : one_if (live (Remove i ∷ h) (suc n)) ≡ 0 = subst (λ (m : ℕ). one_if (live (Remove i ∷ h) m) ≡ 0) same (gone h i) in
          let before : one_if (live h (suc n)) ≡ 1 = there_one (live h (suc n)) e (subst (λ (m : ℕ). live h m ≡ Some e) same there) in
          let others : live_up_to (Remove i ∷ h) n ≤ live_up_to h n = no_more_live h i n in
          omega (arith, now, before, others)
      by below false k =
          let other : i ≤ n = grind (arith, nat_tests) in
          let less : live_up_to (Remove i ∷ h) n < live_up_to h n = below other in
          let last : one_if (live (Remove i ∷ h) (suc n)) ≤ one_if (live h (suc n)) = fewer_if (nat_eq i (suc n)) (live h (suc n)) in
          omega (arith, less, last)

  up_to_greatest : (h : List (Event E)) (i : ℕ) (e : E) → live h i ≡ Some e → i ≤ greatest h
  up_to_greatest [] i e there = cc
  up_to_greatest (Add j x ∷ h) i e there = by (λ f. up_to_greatest h i e f) (nat_eq j i) refl there
    where
      by : (live h i ≡ Some e → i ≤ greatest h) → (b : Bool) → nat_eq j i ≡ b → (let o : Option E = if b then Some x else live h i in o) ≡ Some e → i ≤ max j (greatest h)
      by earlier true k f = (let same : j ≡ i = grind (arith, nat_tests) in omega (arith, same))
      by earlier false k f = (let inside : i ≤ greatest h = earlier f in omega (arith, inside))
  up_to_greatest (Remove j ∷ h) i e there = by (λ f. up_to_greatest h i e f) (nat_eq j i) there
    where
      by : (live h i ≡ Some e → i ≤ greatest h) → (b : Bool) → (let o : Option E = if b then None else live h i in o) ≡ Some e → i ≤ greatest h
      by earlier true f = cc
      by earlier false f = earlier f

abbrev live_in : Inst → ℕ
live_in inst = live_up_to inst.table (greatest inst.table)

abbrev pub all_live : List Inst → ℕ
all_live [] = 0
all_live (inst ∷ insts) = live_in inst + all_live insts

removed_less : (insts : List Inst) (i index : ℕ) (entry : Entry) → live (table_in (slice_get insts i)) index ≡ Some entry → all_live (changed_at i (λ inst. record inst { table = Remove index ∷ inst.table }) insts) < all_live insts
removed_less [] i index entry there = cc
removed_less (inst ∷ insts) zero index entry there =
    let fewer : live_up_to (Remove index ∷ inst.table) (greatest inst.table) < live_up_to inst.table (greatest inst.table) =
    fewer_live inst.table index (greatest inst.table) entry there (up_to_greatest inst.table index entry there) in
    omega (arith, fewer)
removed_less (inst ∷ insts) (suc i) index entry there = (let others = removed_less insts i index entry there in omega (arith, others))

pub entry_less : (w : World) (i index : ℕ) (entry : Entry) → entry_at w i index ≡ Some entry → all_live (entry_removed i index w).insts < all_live w.insts
entry_less w i index entry there = removed_less w.insts i index entry there
