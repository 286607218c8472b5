-- At most one task of an instance holds exclusive entry, and so it stays.
use Rattle.std.proofs.Common.{◌≡◌, ◌⊎◌, inl, inr, ℕ, zero, suc, ◌+◌, Bool, true, false, ◌&&◌, is_none, List, [], ◌∷◌, ◌++◌, length, refl, sym, ap, ◌∙◌, subst, arith, Option, Some, None, if◌then◌else◌}
use Rattle.std.proofs.lemmas.Bool.Decides.{nat_tests}
use Rattle.std.specs.List.{slice_get}
use Rattle.entry_gate.specs.Kinds.{needs_entry}
use Rattle.entry_gate.specs.Stays.{Stay, is_inside, holds, holder_of}
use Rattle.comp_graph.specs.Graph.{Graph, Lifted}
use Rattle.script_reader.specs.Script.{Script}
use Rattle.abi_machine.specs.World.{Callee, Init, Host, Guest, TaskState, New, Acting, AfterCall, AfterCancel, WaitsToEnter, InLoop, InBuiltin, Exited, Task, World, new_task}
use Rattle.abi_machine.specs.World as world
use Rattle.abi_machine.specs.Edits.{changed_at}
use Rattle.abi_machine.specs.Reading.{func_of, kind_of, is_in, runs_in}
use Rattle.abi_machine.specs.Gate.{place_of, stay_of, stays_in}
use Rattle.abi_machine.specs.sound.Firsts.{TaskIs, IsActing, MayBeInside}
use Rattle.abi_machine.specs.sound.Changes.{Change, GoesTo, HasStore, SpendsUnit, UsesPicks, TakesItem, BeginsInstance, AddsEntry, MakesSet, RemovesEntry, RemovesWaitable, LeavesSet, JoinsSet, HasBackpressure, IsCalled, Calls, ComesBack, Acts, Begins, Cancels, Blocks, Exits, IsRemoved, Resolves, IsCancelled, HasWord, HasNewStack, HasStack, LosesStack, IsAnswered, IsTold, IsLent, HasResult, MakesChannel, Offers, Transfers, Concludes, DropsEnd, after, IsBlocked}
use Rattle.abi_machine.specs.sound.Premises.{BlocksFrom, Comes}
use Rattle.abi_machine.specs.sound.Holders.{IsHolder, HaveOneHolder, FirstHasOneHolder, OneHolderStays}
use Rattle.abi_machine.proofs.sound.Lists.{more_either}
use Rattle.abi_machine.proofs.sound.Acted.{one_task, acting_inside, stays_from, front_is}
use Rattle.abi_machine.proofs.sound.Entries.{left_true, right_true}
use Rattle.abi_machine.proofs.sound.Aside.{channel_kept, made_kept}
use Rattle.abi_machine.proofs.sound.Alone.{kept_so}

both_true : (a b : Bool) → a ≡ true → b ≡ true → (a && b) ≡ true
both_true true b e f = f
both_true false b e f = cc

-- No task holds exclusive entry to an instance.
abbrev NoneHolds : ℕ → List Task → Type 0
NoneHolds i tasks = (m : ℕ) (y : Task) → slice_get tasks m ≡ Some y → IsHolder i 0 y → ⊥

-- Where there is no holder among the stays no task is one.
none_held : (c : Bool) (n : ℕ) (o : Option ℕ) → c ≡ true → is_none (if c then Some n else o) ≡ true → ⊥
none_held true n o e f = cc
none_held false n o e f = cc

none_rest : (c : Bool) (n : ℕ) (o : Option ℕ) → is_none (if c then Some n else o) ≡ true → is_none o ≡ true
none_rest true n o e = cc
none_rest false n o e = e

held_first : (b : Bool) (stay : Stay) (stays : List Stay) → b ≡ true → holds stay ≡ true → is_none (holder_of (if b then stay ∷ stays else stays)) ≡ true → ⊥
held_first true stay stays e f h = none_held (holds stay) stay.task (holder_of stays) f h
held_first false stay stays e f h = cc

held_rest : (b : Bool) (stay : Stay) (stays : List Stay) → is_none (holder_of (if b then stay ∷ stays else stays)) ≡ true → is_none (holder_of stays) ≡ true
held_rest true stay stays h = none_rest (holds stay) stay.task (holder_of stays) h
held_rest false stay stays h = h

free_none : (i number : ℕ) (tasks : List Task) → is_none (holder_of (stays_from i number tasks)) ≡ true → NoneHolds i tasks
free_none i number [] free m y e h = cc
free_none i number (x ∷ tasks) free zero y e h =
    let same : x ≡ y = cc in
    let mine : IsHolder i number x = subst (IsHolder i number) (sym same) h in
    held_first (runs_in i x) (stay_of (number, x)) (stays_from i (number + 1) tasks) mine.0 mine.1 (subst (λ (l : List Stay). is_none (holder_of l) ≡ true) (front_is i number x tasks) free)
free_none i number (x ∷ tasks) free (suc m) y e h =
    free_none i (number + 1) tasks
    (held_rest (runs_in i x) (stay_of (number, x)) (stays_from i (number + 1) tasks) (subst (λ (l : List Stay). is_none (holder_of l) ≡ true) (front_is i number x tasks) free)) m y e h

-- A task that comes inside was there already, or none holds the entry.
runs_func : (i : ℕ) (o : Option Lifted) → is_in i o ≡ true → (f : Lifted) × (o ≡ Some f) × (f.instance ≡ i)
runs_func i None e = cc
runs_func i (Some f) e = (f, refl, grind (arith, nat_tests))

inside_holds : (tasks : List Task) (x : Task) (state : TaskState) → MayBeInside tasks x → (i : ℕ) → IsHolder i 0 (record x { state = state }) → IsHolder i 0 x ⊎ NoneHolds i tasks
inside_holds tasks x state (inl there) i h =
    inl (h.0, both_true (needs_entry (kind_of x)) (is_inside (place_of x.state)) (left_true (needs_entry (kind_of x)) (is_inside (place_of state)) h.1) (ap is_inside there))
inside_holds tasks x state (inr free) i h =
    let f = runs_func i (func_of x.callee) h.0 in
    inr
    (free_none i 0 tasks
    (subst (λ (k : ℕ). is_none (holder_of (stays_in k tasks)) ≡ true) f.2 (free f.0 f.1 (left_true (needs_entry (kind_of x)) (is_inside (place_of state)) h.1))))

-- A task is changed.

pub where_changed : {A : Type 0} (t : ℕ) (f : A → A) (xs : List A) (n : ℕ) (y : A) → slice_get (changed_at t f xs) n ≡ Some y
    → ((n ≡ t) × ((x : A) × (slice_get xs n ≡ Some x) × (y ≡ f x))) ⊎ (slice_get xs n ≡ Some y)
where_changed t f [] n y h = inr h
where_changed zero f (x ∷ xs) zero y h = inl (refl, (x, refl, (let same : f x ≡ y = cc in sym same)))
where_changed zero f (x ∷ xs) (suc n) y h = inr h
where_changed (suc t) f (x ∷ xs) zero y h = inr h
where_changed (suc t) f (x ∷ xs) (suc n) y h = elim (where_changed t f xs n y h) [
  | inl new ↦ inl (ap suc new.0, new.1)
  | inr old ↦ inr old
]

-- What holds behind a change of the task of a number: it held before, or none did.
abbrev HoldsAsBefore : List Task → ℕ → (Task → Task) → Type 0
HoldsAsBefore tasks t f = (x : Task) → slice_get tasks t ≡ Some x → (i : ℕ) → IsHolder i 0 (f x) → IsHolder i 0 x ⊎ NoneHolds i tasks

one_beside : (tasks : List Task) (t : ℕ) (f : Task → Task) → HoldsAsBefore tasks t f → HaveOneHolder tasks → (i n m : ℕ) (x0 y : Task) → n ≡ t → slice_get tasks n ≡ Some x0 → slice_get tasks m ≡ Some y
    → IsHolder i 0 (f x0) → IsHolder i 0 y → n ≡ m
one_beside tasks t f before one i n m x0 y at e k hx hy = elim (before x0 (ap (λ (j : ℕ). slice_get tasks j) (sym at) ∙ e) i hx) [
  | inl was ↦ one i n m x0 y e k was hy
  | inr none ↦ absurd (none m y k hy)
]

one_changed : (tasks : List Task) (t : ℕ) (f : Task → Task) → HoldsAsBefore tasks t f → HaveOneHolder tasks → HaveOneHolder (changed_at t f tasks)
one_changed tasks t f before one i n m x y e k hx hy = elim (where_changed t f tasks n x e) [
  | inl new ↦ elim (where_changed t f tasks m y k) [
    | inl also ↦ new.0 ∙ sym also.0
    | inr old ↦ one_beside tasks t f before one i n m new.1.0 y new.0 new.1.1 old (subst (IsHolder i 0) new.1.2 hx) hy
  ]
  | inr old ↦ elim (where_changed t f tasks m y k) [
    | inl also ↦ sym (one_beside tasks t f before one i m n also.1.0 x also.0 also.1.1 old (subst (IsHolder i 0) also.1.2 hy) hx)
    | inr too ↦ one i n m x y old too hx hy
  ]
]

-- to a state outside, or in its loop
abbrev IsOutside : TaskState → Type 0
IsOutside state = is_inside (place_of state) ≡ false

outside_before : (tasks : List Task) (t : ℕ) (state : TaskState) → IsOutside state → HoldsAsBefore tasks t (λ task. record task { state = state })
outside_before tasks t state out x e i h =
    absurd (let clash : false ≡ true = sym out ∙ right_true (needs_entry (kind_of x)) (is_inside (place_of state)) h.1 in let none : ⊥ = cc in none)

inside_before : (tasks : List Task) (t : ℕ) (state : TaskState) → TaskIs tasks t (MayBeInside tasks) → HoldsAsBefore tasks t (λ task. record task { state = state })
inside_before tasks t state lets x e i h = inside_holds tasks x state (one_task tasks t (MayBeInside tasks) x e lets) i h

acting_before : (tasks : List Task) (t : ℕ) (state : TaskState) → TaskIs tasks t IsActing → HoldsAsBefore tasks t (λ task. record task { state = state })
acting_before tasks t state acts x e i h = inside_holds tasks x state (inl (acting_inside x (one_task tasks t IsActing x e acts))) i h

init_before : (tasks : List Task) (t : ℕ) (state : TaskState) → TaskIs tasks t (λ task. task.callee ≡ Init) → HoldsAsBefore tasks t (λ task. record task { state = state })
init_before tasks t state init x e i h =
    let none : is_in i (func_of Init) ≡ true = subst (λ (c : Callee). is_in i (func_of c) ≡ true) (one_task tasks t (λ (y : Task). y.callee ≡ Init) x e init) h.0 in cc

blocks_before : (tasks : List Task) (t : ℕ) (state : TaskState) → IsBlocked state → TaskIs tasks t (BlocksFrom state) → HoldsAsBefore tasks t (λ task. record task { state = state })
blocks_before tasks t WaitsToEnter is from = outside_before tasks t WaitsToEnter refl
blocks_before tasks t (InLoop word) is from = outside_before tasks t (InLoop word) refl
blocks_before tasks t (InBuiltin number words wait) is from = acting_before tasks t (InBuiltin number words wait) from
blocks_before tasks t New is from = absurd is
blocks_before tasks t Acting is from = absurd is
blocks_before tasks t (AfterCall callee number words) is from = absurd is
blocks_before tasks t (AfterCancel callee number words) is from = absurd is
blocks_before tasks t (world.Begins n) is from = absurd is
blocks_before tasks t Exited is from = absurd is

-- One more task is new, and holds nothing.
new_holds_none : (callee : Callee) (caller : world.Caller) (i : ℕ) → IsHolder i 0 (new_task callee caller New) → ⊥
new_holds_none callee caller i h = (let none : false ≡ true = right_true (needs_entry (kind_of (new_task callee caller New))) false h.1 in let clash : ⊥ = cc in clash)

one_more : (tasks : List Task) (new : Task) → ((i : ℕ) → IsHolder i 0 new → ⊥) → HaveOneHolder tasks → HaveOneHolder (tasks ++ new ∷ [])
one_more tasks new none one i n m x y e k hx hy = elim (more_either tasks new n x e) [
  | inl old ↦ elim (more_either tasks new m y k) [
    | inl too ↦ one i n m x y old too hx hy
    | inr last ↦ absurd (none i (subst (IsHolder i 0) last.1 hy))
  ]
  | inr last ↦ absurd (none i (subst (IsHolder i 0) last.1 hx))
]

abbrev Has : World → Type 0
Has w = HaveOneHolder w.tasks

one_kept : (g : Graph) (s : Script) (c : Change) (w : World) → Comes g s c w → Has w → Has (after c w)
one_kept g s (IsCalled callee call values) w may h = one_more w.tasks (new_task callee (Host call values) New) (new_holds_none callee (Host call values)) h
one_kept g s (Calls number callee subtask words) w may h =
    one_more _ (new_task callee (Guest subtask) New) (new_holds_none callee (Guest subtask))
    (one_changed w.tasks subtask.by _ (acting_before w.tasks subtask.by (AfterCall (length w.tasks) number words) may.4) h)
one_kept g s (Acts t) w may h = one_changed w.tasks t _ (inside_before w.tasks t Acting may.1) h
one_kept g s (Begins n) w may h = one_changed w.tasks 0 _ (init_before w.tasks 0 (world.Begins n) may.1) h
one_kept g s (Cancels t callee number words) w may h = one_changed w.tasks t _ (acting_before w.tasks t (AfterCancel callee number words) may.2) h
one_kept g s (Blocks t state) w may h = one_changed w.tasks t _ (blocks_before w.tasks t state may.1 may.3) h
one_kept g s (Exits t) w may h = one_changed w.tasks t _ (outside_before w.tasks t Exited refl) h
one_kept g s (IsRemoved t) w may h = one_changed _ t _ (outside_before _ t Exited refl) (one_changed w.tasks t _ (λ x e i k. inl k) h)
one_kept g s (Resolves t resolution) w may h = one_changed w.tasks t _ (λ x e i k. inl k) h
one_kept g s (IsCancelled t c) w may h = one_changed w.tasks t _ (λ x e i k. inl k) h
one_kept g s (IsTold t state) w may h = one_changed w.tasks t _ (λ x e i k. inl k) h
one_kept g s (IsLent t handle) w may h = one_changed w.tasks t _ (λ x e i k. inl k) h
one_kept g s (HasResult t words) w may h = one_changed w.tasks t _ (λ x e i k. inl k) h
one_kept g s (HasWord t slot word) w may h = one_changed w.tasks t _ (λ x e i k. inl k) h
one_kept g s (HasNewStack t stack) w may h = one_changed w.tasks t _ (λ x e i k. inl k) h
one_kept g s (HasStack t stack) w may h = one_changed w.tasks t _ (λ x e i k. inl k) h
one_kept g s (LosesStack t) w may h = one_changed w.tasks t _ (λ x e i k. inl k) h
one_kept g s (IsAnswered t words) w may h = one_changed w.tasks t _ (λ x e i k. inl k) h
one_kept g s (MakesChannel kind element) w may h = made_kept Has (λ v x k. k) (λ v x k. k) kind element w h
one_kept g s (Offers e call) w may h = channel_kept Has (λ v x k. k) (λ v x k. k) e.kind e.number _ w h
one_kept g s (Transfers e size values) w may h = channel_kept Has (λ v x k. k) (λ v x k. k) e.kind e.number _ _ (channel_kept Has (λ v x k. k) (λ v x k. k) e.kind e.number _ w h)
one_kept g s (Concludes e) w may h = channel_kept Has (λ v x k. k) (λ v x k. k) e.kind e.number _ w h
one_kept g s (DropsEnd e) w may h = channel_kept Has (λ v x k. k) (λ v x k. k) e.kind e.number _ w h
one_kept g s (GoesTo control) w may h = h
one_kept g s (HasStore store) w may h = h
one_kept g s SpendsUnit w may h = h
one_kept g s (UsesPicks picks) w may h = h
one_kept g s TakesItem w may h = h
one_kept g s BeginsInstance w may h = h
one_kept g s (AddsEntry i entry) w may h = h
one_kept g s (MakesSet i set) w may h = h
one_kept g s (RemovesEntry i index) w may h = h
one_kept g s (RemovesWaitable i index) w may h = h
one_kept g s (LeavesSet i index) w may h = h
one_kept g s (JoinsSet i index set) w may h = h
one_kept g s (HasBackpressure i pressure) w may h = h
one_kept g s (ComesBack t) w may h = h

pub first_has_one_holder : FirstHasOneHolder
first_has_one_holder g i zero zero x y e k hx hy = refl
first_has_one_holder g i zero (suc m) x y e k hx hy = cc
first_has_one_holder g i (suc n) m x y e k hx hy = cc

pub one_holder_stays : OneHolderStays
one_holder_stays g s w v labels alone h e = kept_so g s Has (one_kept g s) w v labels alone h e
