-- Tasks of a number and the acting one, once a task is changed or one more is made.
use Rattle.std.proofs.Common.{◌≡◌, ◌⊎◌, inl, inr, ℕ, zero, suc, ◌+◌, true, is_none, List, [], ◌∷◌, ◌++◌, length, refl, sym, ap, ◌∙◌, subst, Bool, false, map, Option, Some, if◌then◌else◌}
use Rattle.std.specs.Prelude.{IsSome, filter}
use Rattle.std.specs.List.{slice_get}
use Rattle.entry_gate.specs.Kinds.{needs_entry}
use Rattle.entry_gate.specs.Stays.{Stay, Inside, holder_of}
use Rattle.abi_machine.specs.World.{Callee, TaskState, New, Acting, AfterCall, AfterCancel, Begins, WaitsToEnter, InLoop, InBuiltin, Exited, Task}
use Rattle.abi_machine.specs.Edits.{changed_at}
use Rattle.abi_machine.specs.Reading.{func_of, kind_of_func, is_in, runs_in, with_numbers}
use Rattle.abi_machine.specs.Gate.{place_of, stay_of}
use Rattle.abi_machine.specs.sound.Firsts.{TaskIs, FirstIs, IsActingState, IsActing, MayBeInside, IsLetIn}
use Rattle.abi_machine.specs.sound.Changes.{IsFirst}
use Rattle.abi_machine.proofs.sound.Found.{some_same, changed_kept, changed_there}

-- The task of a number.

pub still_is : (tasks : List Task) (n t : ℕ) (f : Task → Task) (P : Task → Type 0) → ((x : Task) → P x → P (f x)) → TaskIs tasks t P → TaskIs (changed_at n f tasks) t P
still_is tasks n t f P keeps h = elim (changed_kept n f tasks t h.0 h.1) [
  | inl e ↦ (h.0, e, h.2)
  | inr e ↦ (f h.0, e, keeps h.0 h.2)
]

pub now_is : (tasks : List Task) (t : ℕ) (f : Task → Task) (P Q : Task → Type 0) → ((x : Task) → P x → Q (f x)) → TaskIs tasks t P → TaskIs (changed_at t f tasks) t Q
now_is tasks t f P Q makes h = (f h.0, changed_there t f tasks h.0 h.1, makes h.0 h.2)

pub is_as : (tasks : List Task) (t : ℕ) (P Q : Task → Type 0) → ((x : Task) → P x → Q x) → TaskIs tasks t P → TaskIs tasks t Q
is_as tasks t P Q f h = (h.0, h.1, f h.0 h.2)

-- what is known of the task that is looked up
pub one_task : (tasks : List Task) (t : ℕ) (P : Task → Type 0) (x : Task) → slice_get tasks t ≡ Some x → TaskIs tasks t P → P x
one_task tasks t P x there h = subst P (some_same (sym h.1 ∙ there)) h.2

pub task_there : (tasks : List Task) (t : ℕ) (P : Task → Type 0) → TaskIs tasks t P → IsSome (slice_get tasks t)
task_there tasks t P h = subst (λ (o : Option Task). IsSome o) (sym h.1) refl

pub last_is : (tasks : List Task) (new : Task) → slice_get (tasks ++ new ∷ []) (length tasks) ≡ Some new
last_is [] new = refl
last_is (x ∷ tasks) new = last_is tasks new

-- The acting task.

pub first_still : (tasks : List Task) (chain : List ℕ) (n : ℕ) (f : Task → Task) (P : Task → Type 0) → ((x : Task) → P x → P (f x)) → FirstIs tasks chain P → FirstIs (changed_at n f tasks) chain P
first_still tasks chain n f P keeps h = (h.0, h.1, still_is tasks n h.0 f P keeps h.2)

pub first_at : (tasks : List Task) (chain : List ℕ) (t : ℕ) (P : Task → Type 0) → IsFirst t chain → FirstIs tasks chain P → TaskIs tasks t P
first_at tasks chain t P first h = subst (λ (k : ℕ). TaskIs tasks k P) (some_same (sym h.1 ∙ first)) h.2

pub first_now : (tasks : List Task) (chain : List ℕ) (t : ℕ) (P : Task → Type 0) → IsFirst t chain → TaskIs tasks t P → FirstIs tasks chain P
first_now tasks chain t P first h = (t, first, h)

-- An edit that leaves states alone leaves the acting task acting.
pub acts_same : (f : Task → Task) → ((x : Task) → (f x).state ≡ x.state) → (x : Task) → IsActing x → IsActing (f x)
acts_same f same x h = subst IsActingState (sym (same x)) h

inside_state : (state : TaskState) → IsActingState state → place_of state ≡ Inside
inside_state Acting h = refl
inside_state (Begins n) h = refl
inside_state New h = absurd h
inside_state (AfterCall callee number words) h = absurd h
inside_state (AfterCancel callee number words) h = absurd h
inside_state WaitsToEnter h = absurd h
inside_state (InLoop word) h = absurd h
inside_state (InBuiltin number words wait) h = absurd h
inside_state Exited h = absurd h

pub acting_inside : (x : Task) → IsActing x → place_of x.state ≡ Inside
acting_inside x h = inside_state x.state h

-- Stays: an edit that leaves callees and states alone leaves them alone.

-- the stays at an instance where one more task stands in front
abbrev pub in_front : ℕ → ℕ → Callee → TaskState → List Stay → List Stay
in_front i number callee state stays =
    if is_in i (func_of callee) then (let stay : Stay = record { task = number; kind = kind_of_func (func_of callee); place = place_of state } in stay) ∷ stays else stays

abbrev pub stays_from : ℕ → ℕ → List Task → List Stay
stays_from i number tasks = map stay_of (filter (λ (x : ℕ × Task). runs_in i x.1) (with_numbers number tasks))

mapped_if : (b : Bool) (x : ℕ × Task) (xs : List (ℕ × Task)) → map stay_of (if b then x ∷ xs else xs) ≡ (if b then stay_of x ∷ map stay_of xs else map stay_of xs)
mapped_if true x xs = refl
mapped_if false x xs = refl

pub front_is : (i number : ℕ) (task : Task) (tasks : List Task) → stays_from i number (task ∷ tasks) ≡ in_front i number task.callee task.state (stays_from i (number + 1) tasks)
front_is i number task tasks = mapped_if (runs_in i task) (number, task) (filter (λ (x : ℕ × Task). runs_in i x.1) (with_numbers (number + 1) tasks))

stays_still : (i number n : ℕ) (f : Task → Task) (tasks : List Task) → ((x : Task) → (f x).callee ≡ x.callee) → ((x : Task) → (f x).state ≡ x.state)
    → stays_from i number (changed_at n f tasks) ≡ stays_from i number tasks
stays_still i number n f [] callee state = refl
stays_still i number zero f (x ∷ tasks) callee state =
    front_is i number (f x) tasks
    ∙ (ap (λ (c : Callee). in_front i number c (f x).state (stays_from i (number + 1) tasks)) (callee x)
    ∙ (ap (λ (s : TaskState). in_front i number x.callee s (stays_from i (number + 1) tasks)) (state x) ∙ sym (front_is i number x tasks)))
stays_still i number (suc n) f (x ∷ tasks) callee state =
    front_is i number x (changed_at n f tasks)
    ∙ (ap (in_front i number x.callee x.state) (stays_still i (number + 1) n f tasks callee state) ∙ sym (front_is i number x tasks))

inside_still : (tasks : List Task) (n : ℕ) (f : Task → Task) (x : Task) → ((y : Task) → (f y).callee ≡ y.callee) → ((y : Task) → (f y).state ≡ y.state) → MayBeInside tasks x
    → MayBeInside (changed_at n f tasks) (f x)
inside_still tasks n f x callee state (inl there) = inl (ap place_of (state x) ∙ there)
inside_still tasks n f x callee state (inr free) =
    inr
    (λ g e needs.
    ap (λ (l : List Stay). is_none (holder_of l)) (stays_still g.instance 0 n f tasks callee state)
    ∙ free g (ap func_of (sym (callee x)) ∙ e) (ap (λ (c : Callee). needs_entry (kind_of_func (func_of c))) (sym (callee x)) ∙ needs))

still_beside : (tasks : List Task) (n : ℕ) (f : Task → Task) (x : Task) → ((y : Task) → (f y).callee ≡ y.callee) → ((y : Task) → (f y).state ≡ y.state) → MayBeInside tasks x
    → MayBeInside (changed_at n f tasks) x
still_beside tasks n f x callee state (inl there) = inl there
still_beside tasks n f x callee state (inr free) =
    inr (λ g e needs. ap (λ (l : List Stay). is_none (holder_of l)) (stays_still g.instance 0 n f tasks callee state) ∙ free g e needs)

-- A task that may be inside still may.
pub let_in_still : (tasks : List Task) (n t : ℕ) (f : Task → Task) → ((y : Task) → (f y).callee ≡ y.callee) → ((y : Task) → (f y).state ≡ y.state) → IsLetIn tasks t
    → IsLetIn (changed_at n f tasks) t
let_in_still tasks n t f callee state h = elim (changed_kept n f tasks t h.0 h.1) [
  | inl e ↦ (h.0, e, still_beside tasks n f h.0 callee state h.2)
  | inr e ↦ (f h.0, e, inside_still tasks n f h.0 callee state h.2)
]

-- A task that was made last is the acting one, and is new.
pub new_first : (tasks : List Task) (chain : List ℕ) (new : Task) → new.state ≡ New → FirstIs (tasks ++ new ∷ []) (length tasks ∷ chain) (λ task. task.state ≡ New)
new_first tasks chain new e = (length tasks, refl, (new, last_is tasks new, e))

-- what stands at a place where an item is changed, and whether it is that one
pub changed_where : {A : Type 0} (t : ℕ) (f : A → A) (xs : List A) (n : ℕ) (x : A) → slice_get xs n ≡ Some x
    → (slice_get (changed_at t f xs) n ≡ Some x) ⊎ ((n ≡ t) × (slice_get (changed_at t f xs) n ≡ Some (f x)))
changed_where t f [] n x e = cc
changed_where zero f (y ∷ xs) zero x e = let same : y ≡ x = cc in inr (refl, ap (λ z. Some (f z)) same)
changed_where zero f (y ∷ xs) (suc n) x e = inl e
changed_where (suc t) f (y ∷ xs) zero x e = inl e
changed_where (suc t) f (y ∷ xs) (suc n) x e = elim (changed_where t f xs n x e) [
  | inl old ↦ inl old
  | inr new ↦ inr (ap suc new.0, new.1)
]
