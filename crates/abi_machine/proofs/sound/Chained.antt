-- The chain where a task changes its state, leaves it or comes to it.
use Rattle.std.proofs.Common.{◌≡◌, ◌≢◌, ◌<◌, ◌⊎◌, inl, inr, ℕ, zero, suc, List, [], ◌∷◌, ◌++◌, length, drop, refl, sym, ap, ◌∙◌, subst, arith, Option, Some}
use Rattle.std.specs.Prelude.{IsSome}
use Rattle.std.specs.List.{slice_get}
use Rattle.abi_machine.specs.World.{TaskState, New, Acting, AfterCall, AfterCancel, Begins, WaitsToEnter, InLoop, InBuiltin, Exited, Task}
use Rattle.abi_machine.specs.Edits.{changed_at}
use Rattle.abi_machine.specs.sound.Changes.{IsFirst, IsBlocked}
use Rattle.abi_machine.specs.sound.Chain.{states_of, WaitsFor, IsThere, IsAside, AreUnder, StandOver, IsApart, IsChain}
use Rattle.abi_machine.proofs.sound.Lists.{more_either, get_front, within}
use Rattle.abi_machine.proofs.sound.Found.{some_same, changed_there}

-- Lists.

pub same_or_not : (a b : ℕ) → (a ≡ b) ⊎ (a ≢ b)
same_or_not zero zero = inl refl
same_or_not zero (suc b) = inr (λ e. omega (arith, e))
same_or_not (suc a) zero = inr (λ e. omega (arith, e))
same_or_not (suc a) (suc b) = elim (same_or_not a b) [
  | inl e ↦ inl (ap suc e)
  | inr other ↦ inr (λ e. other (omega (arith, e)))
]

-- what stands at another place than a changed one
pub other_there : {A : Type 0} (t n : ℕ) (f : A → A) (xs : List A) → t ≢ n → slice_get (changed_at t f xs) n ≡ slice_get xs n
other_there t n f [] apart = refl
other_there zero zero f (x ∷ xs) apart = absurd (apart refl)
other_there zero (suc n) f (x ∷ xs) apart = refl
other_there (suc t) zero f (x ∷ xs) apart = refl
other_there (suc t) (suc n) f (x ∷ xs) apart = other_there t n f xs (λ same. apart (ap suc same))

-- what stands where one is changed
pub changed_here : {A : Type 0} (n : ℕ) (f : A → A) (xs : List A) (m : ℕ) (y : A) → slice_get (changed_at n f xs) m ≡ Some y → ((m ≡ n) × ((x : A) × (slice_get xs n ≡ Some x) × (y ≡ f x))) ⊎ (slice_get xs m ≡ Some y)
changed_here n f [] m y i = inr i
changed_here zero f (x ∷ xs) zero y i = inl (refl, (x, refl, sym (some_same i)))
changed_here zero f (x ∷ xs) (suc m) y i = inr i
changed_here (suc n) f (x ∷ xs) zero y i = inr i
changed_here (suc n) f (x ∷ xs) (suc m) y i = elim (changed_here n f xs m y i) [
  | inl o ↦ inl (ap suc o.0, o.1)
  | inr old ↦ inr old
]

pub last_there : {A : Type 0} (xs : List A) (x : A) → slice_get (xs ++ x ∷ []) (length xs) ≡ Some x
last_there [] x = refl
last_there (y ∷ xs) x = last_there xs x

-- the same, with the number apart from the other one
pub changed_apart : {A : Type 0} (n : ℕ) (f : A → A) (xs : List A) (m : ℕ) (y : A) → slice_get (changed_at n f xs) m ≡ Some y
    → ((m ≡ n) × ((x : A) × (slice_get xs n ≡ Some x) × (y ≡ f x))) ⊎ ((n ≢ m) × (slice_get xs m ≡ Some y))
changed_apart n f [] m y e = cc
changed_apart zero f (x ∷ xs) zero y e = inl (refl, (x, refl, sym (some_same e)))
changed_apart zero f (x ∷ xs) (suc m) y e = inr ((λ same. omega (arith, same)), e)
changed_apart (suc n) f (x ∷ xs) zero y e = inr ((λ same. omega (arith, same)), e)
changed_apart (suc n) f (x ∷ xs) (suc m) y e = elim (changed_apart n f xs m y e) [
  | inl o ↦ inl (ap suc o.0, o.1)
  | inr old ↦ inr ((λ same. old.0 (let less : n ≡ m = omega (arith, same) in less)), old.1)
]

pub no_first : {A : Type 0} (n : ℕ) (x : A) → slice_get [] n ≡ Some x → ⊥
no_first n x e = cc

-- States of tasks.

pub states_kept : (t : ℕ) (f : Task → Task) (tasks : List Task) → ((x : Task) → (f x).state ≡ x.state) → states_of (changed_at t f tasks) ≡ states_of tasks
states_kept t f [] same = refl
states_kept zero f (x ∷ tasks) same = ap (λ (state : TaskState). state ∷ states_of tasks) (same x)
states_kept (suc t) f (x ∷ tasks) same = ap (λ (l : List TaskState). x.state ∷ l) (states_kept t f tasks same)

pub state_set : (t : ℕ) (state : TaskState) (tasks : List Task) → states_of (changed_at t (λ task. record task { state = state }) tasks) ≡ changed_at t (λ old. state) (states_of tasks)
state_set t state [] = refl
state_set zero state (x ∷ tasks) = refl
state_set (suc t) state (x ∷ tasks) = ap (λ (l : List TaskState). x.state ∷ l) (state_set t state tasks)

pub states_more : (tasks : List Task) (new : Task) → states_of (tasks ++ new ∷ []) ≡ states_of tasks ++ new.state ∷ []
states_more [] new = refl
states_more (x ∷ tasks) new = ap (λ (l : List TaskState). x.state ∷ l) (states_more tasks new)

pub states_long : (tasks : List Task) → length (states_of tasks) ≡ length tasks
states_long [] = refl
states_long (x ∷ tasks) = ap suc (states_long tasks)

pub state_there : (tasks : List Task) (n : ℕ) (task : Task) → slice_get tasks n ≡ Some task → slice_get (states_of tasks) n ≡ Some task.state
state_there [] n task e = absurd (no_first n task e)
state_there (x ∷ tasks) zero task e = ap (λ (y : Task). Some y.state) (some_same e)
state_there (x ∷ tasks) (suc n) task e = state_there tasks n task e

pub state_back : (tasks : List Task) (n : ℕ) (state : TaskState) → slice_get (states_of tasks) n ≡ Some state → (task : Task) × (slice_get tasks n ≡ Some task) × (task.state ≡ state)
state_back [] n state e = cc
state_back (x ∷ tasks) zero state e = (x, refl, some_same e)
state_back (x ∷ tasks) (suc n) state e = state_back tasks n state e

-- A task that waits for another one has not exited, and is not blocked.
waits_there : (t : ℕ) (state : TaskState) → WaitsFor t state → IsThere state
waits_there t New h = tt
waits_there t Acting h = tt
waits_there t (AfterCall callee number words) h = tt
waits_there t (AfterCancel callee number words) h = tt
waits_there t (Begins n) h = tt
waits_there t WaitsToEnter h = tt
waits_there t (InLoop word) h = tt
waits_there t (InBuiltin number words wait) h = tt
waits_there t Exited h = h

waits_unblocked : (t : ℕ) (state : TaskState) → WaitsFor t state → IsBlocked state → ⊥
waits_unblocked t New h b = h
waits_unblocked t Acting h b = h
waits_unblocked t (AfterCall callee number words) h b = b
waits_unblocked t (AfterCancel callee number words) h b = b
waits_unblocked t (Begins n) h b = h
waits_unblocked t WaitsToEnter h b = h
waits_unblocked t (InLoop word) h b = h
waits_unblocked t (InBuiltin number words wait) h b = h
waits_unblocked t Exited h b = h

pub blocked_there : (state : TaskState) → IsBlocked state → IsThere state
blocked_there New h = tt
blocked_there Acting h = tt
blocked_there (AfterCall callee number words) h = tt
blocked_there (AfterCancel callee number words) h = tt
blocked_there (Begins n) h = tt
blocked_there WaitsToEnter h = tt
blocked_there (InLoop word) h = tt
blocked_there (InBuiltin number words wait) h = tt
blocked_there Exited h = h

pub blocked_aside : (state : TaskState) → IsBlocked state → IsAside state
blocked_aside New h = h
blocked_aside Acting h = h
blocked_aside (AfterCall callee number words) h = h
blocked_aside (AfterCancel callee number words) h = h
blocked_aside (Begins n) h = h
blocked_aside WaitsToEnter h = tt
blocked_aside (InLoop word) h = tt
blocked_aside (InBuiltin number words wait) h = tt
blocked_aside Exited h = tt

-- Those under a task.

under_changed : (states : List TaskState) (v t : ℕ) (f : TaskState → TaskState) (below : List ℕ) → IsApart t below → AreUnder states v below → AreUnder (changed_at t f states) v below
under_changed states v t f [] apart h = tt
under_changed states v t f (u ∷ below) apart h = ((h.0.0, other_there t u f states apart.0 ∙ h.0.1, h.0.2), under_changed states u t f below apart.1 h.1)

under_more : (states : List TaskState) (v : ℕ) (new : TaskState) (below : List ℕ) → AreUnder states v below → AreUnder (states ++ new ∷ []) v below
under_more states v new [] h = tt
under_more states v new (u ∷ below) h = ((h.0.0, get_front states new u h.0.0 h.0.1, h.0.2), under_more states u new below h.1)

under_within : (states : List TaskState) (v : ℕ) (below : List ℕ) → AreUnder states v below → IsApart (length states) below
under_within states v [] h = tt
under_within states v (u ∷ below) h = (
  λ same.
      let few : u < length states = within states u (subst (λ (o : Option TaskState). IsSome o) (sym h.0.1) refl) in
      omega (arith, few, same),
  under_within states u below h.1,
)

-- a blocked task is none of them
pub blocked_apart : (states : List TaskState) (v t : ℕ) (state : TaskState) (below : List ℕ) → slice_get states t ≡ Some state → IsBlocked state → AreUnder states v below → IsApart t below
blocked_apart states v t state [] there is h = tt
blocked_apart states v t state (u ∷ below) there is h = (
  λ same.
      let here : h.0.0 ≡ state = some_same (sym h.0.1 ∙ (ap (λ (n : ℕ). slice_get states n) (sym same) ∙ there)) in
      waits_unblocked v state (subst (WaitsFor v) here h.0.2) is,
  blocked_apart states u t state below there is h.1,
)

-- what stands under a task that the first one waits for
pub first_under : (states : List TaskState) (chain : List ℕ) (t v : ℕ) (state : TaskState) → IsFirst t chain → slice_get states t ≡ Some state → WaitsFor v state → IsChain states chain → AreUnder states v chain
first_under states [] t v state first there waits h = tt
first_under states (u ∷ below) t v state first there waits h = ((state, subst (λ (n : ℕ). slice_get states n ≡ Some state) (sym (some_same first)) there, waits), h.standing.1)

pub none_under : (states : List TaskState) (chain : List ℕ) (v : ℕ) → chain ≡ [] → AreUnder states v chain
none_under states chain v none = subst (AreUnder states v) (sym none) tt

stand_under : (states : List TaskState) (v : ℕ) (below : List ℕ) → AreUnder states v below → StandOver states below
stand_under states v [] h = tt
stand_under states v (u ∷ below) h = ((h.0.0, h.0.1, waits_there v h.0.0 h.0.2), h.1)

-- what stands under the first task, once that is in another state
pub left_under : (states : List TaskState) (chain : List ℕ) (t : ℕ) (new : TaskState) → IsFirst t chain → IsChain states chain → AreUnder (changed_at t (λ old. new) states) t (drop 1 chain)
left_under states [] t new first h = absurd (no_first 0 t first)
left_under states (u ∷ below) t new first h =
    subst (λ (n : ℕ). AreUnder (changed_at n (λ old. new) states) n below) (some_same first) (under_changed states u u (λ old. new) below h.once.0 h.standing.1)

-- The first task gets another state, and stays or leaves.

pub first_changed : (states : List TaskState) (chain : List ℕ) (t : ℕ) (new : TaskState) → IsFirst t chain → IsThere new → IsChain states chain → IsChain (changed_at t (λ old. new) states) chain
first_changed states [] t new first is h = absurd (no_first 0 t first)
first_changed states (u ∷ below) t new first is h =
    subst (λ (n : ℕ). IsChain (changed_at n (λ old. new) states) (u ∷ below)) (some_same first) (record {
      standing = ((new, changed_there u (λ old. new) states h.standing.0.0 h.standing.0.1, is), under_changed states u u (λ old. new) below h.once.0 h.standing.1);
      once = h.once;
      others = λ v state e apart. h.others v state (sym (other_there u v (λ old. new) states (λ same. apart.0 (sym same))) ∙ e) apart;
    })

-- what is known of a task that got a state, and of each other one
aside_changed : (states : List TaskState) (t : ℕ) (new : TaskState) (v : ℕ) (state : TaskState) → IsAside new → slice_get (changed_at t (λ old. new) states) v ≡ Some state
    → ((v ≢ t) → slice_get states v ≡ Some state → IsAside state) → IsAside state
aside_changed states t new v state is e others = elim (same_or_not v t) [
  | inl same ↦ subst IsAside (new_is states t v same e) is
  | inr other ↦ others other (sym (other_there t v (λ old. new) states (λ same. other (sym same))) ∙ e)
]
  where
    set_is : (l : List TaskState) (n : ℕ) → slice_get (changed_at n (λ old. new) l) n ≡ Some state → new ≡ state
    set_is [] n i = absurd (no_first n state i)
    set_is (x ∷ l) zero i = some_same i
    set_is (x ∷ l) (suc n) i = set_is l n i

    new_is : (l : List TaskState) (n m : ℕ) → m ≡ n → slice_get (changed_at n (λ old. new) l) m ≡ Some state → new ≡ state
    new_is l n m same i = set_is l n (subst (λ (k : ℕ). slice_get (changed_at n (λ old. new) l) k ≡ Some state) same i)

pub first_left : (states : List TaskState) (chain : List ℕ) (t : ℕ) (new : TaskState) → IsFirst t chain → IsAside new → IsChain states chain → IsChain (changed_at t (λ old. new) states) (drop 1 chain)
first_left states [] t new first is h = absurd (no_first 0 t first)
first_left states (u ∷ below) t new first is h =
    subst (λ (n : ℕ). IsChain (changed_at n (λ old. new) states) below) (some_same first) (record {
      standing = stand_under (changed_at u (λ old. new) states) u below (under_changed states u u (λ old. new) below h.once.0 h.standing.1);
      once = h.once.1;
      others = λ v state e apart. aside_changed states u new v state is e (λ other there. h.others v state there (other, apart));
    })

-- A task aside gets another state, and stays aside.
pub aside_kept : (states : List TaskState) (chain : List ℕ) (t : ℕ) (new : TaskState) → IsApart t chain → IsAside new → IsChain states chain → IsChain (changed_at t (λ old. new) states) chain
aside_kept states chain t new apart is h = record {
  standing = over chain apart h.standing;
  once = h.once;
  others = λ v state e away. aside_changed states t new v state is e (λ other there. h.others v state there away);
}
  where
    over : (all : List ℕ) → IsApart t all → StandOver states all → StandOver (changed_at t (λ old. new) states) all
    over [] a o = tt
    over (u ∷ below) a o = ((o.0.0, other_there t u (λ old. new) states a.0 ∙ o.0.1, o.0.2), under_changed states u t (λ old. new) below a.1 o.1)

-- A task comes to the front: one that was aside, and one that is new.
pub comes_first : (states : List TaskState) (chain : List ℕ) (t : ℕ) (state : TaskState) → slice_get states t ≡ Some state → IsBlocked state → AreUnder states t chain → IsChain states chain
    → IsChain states (t ∷ chain)
comes_first states chain t state there is under h = record {
  standing = ((state, there, blocked_there state is), under);
  once = (blocked_apart states t t state chain there is under, h.once);
  others = λ v other e apart. h.others v other e apart.1;
}

pub new_first : (tasks : List Task) (chain : List ℕ) (new : Task) → IsThere new.state → AreUnder (states_of tasks) (length tasks) chain → IsChain (states_of tasks) chain
    → IsChain (states_of (tasks ++ new ∷ [])) (length tasks ∷ chain)
new_first tasks chain new is under h =
    subst (λ (all : List TaskState). IsChain all (length tasks ∷ chain)) (sym (states_more tasks new))
    (subst (λ (n : ℕ). IsChain (states_of tasks ++ new.state ∷ []) (n ∷ chain)) (states_long tasks) (record {
      standing = ((new.state, last_there (states_of tasks) new.state, is), under_more (states_of tasks) (length (states_of tasks)) new.state chain here);
      once = (under_within (states_of tasks) (length (states_of tasks)) chain here, h.once);
      others = λ v state e apart. elim (more_either (states_of tasks) new.state v state e) [
        | inl old ↦ h.others v state old apart.1
        | inr last ↦ absurd (apart.0 last.0)
      ];
    }))
  where
    here : AreUnder (states_of tasks) (length (states_of tasks)) chain
    here = subst (λ (n : ℕ). AreUnder (states_of tasks) n chain) (sym (states_long tasks)) under
