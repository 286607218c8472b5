-- Who holds exclusive entry to an instance, and how many tasks wait for it, over the tasks as they are numbered; and what becomes of it where a task is another one.
use Rattle.std.proofs.Common.{◌≡◌, ◌<◌, inl, inr, ℕ, zero, suc, ◌+◌, Bool, true, false, ◌&&◌, if◌then◌else◌, List, [], ◌∷◌, slice_set, refl, sym, ap, ◌∙◌, arith, Option, Some, None}
use Rattle.std.specs.List.{slice_get, count_by, sum_by}
use Rattle.std.proofs.lemmas.Bool.{cases_Bool, ne_eqb}
use Rattle.std.proofs.lemmas.List.Sums.{sum_by-cons}
use Rattle.entry_gate.specs.Gates.{GateView, is_holder}
use Rattle.entry_gate.specs.Kinds.{needs_entry}
use Rattle.entry_gate.specs.Stays.{Stay, is_waiting, is_inside, waits, holds, holder_of}
use Rattle.instances.specs.Instances.{InstanceView}
use Rattle.task_table.specs.declared.slot.TaskSlot.{TaskSlot}
use Rattle.world_parts.specs.Held.{Held}
use Rattle.abi_machine.proofs.sound.Found.{some_same}
use Rattle.standing.specs.KeptMarks.{runs_at, place_in, stay_in, GateMarked, GatesMarked}
use Rattle.standing.proofs.KeptMarks.{kept_from, kept_front}
use Rattle.standing.proofs.marks.Tables.{gates_put}
use Rattle.run_laws.specs.keeping.Kept.{holds_entry, OneHolds}
use Rattle.run_laws.proofs.keeping.Sums.{sum_set, set_cases}
use Rattle.run_laws.proofs.keeping.Told.{runs_not}

-- A task holds entry to an instance, or waits for it.
pub holds_at : ℕ → TaskSlot → Bool
holds_at at x = runs_at at x && (needs_entry x.task.kind && is_inside (place_in x.task.phase))

pub enters_at : ℕ → TaskSlot → ℕ
enters_at at x = if runs_at at x then (if is_waiting (place_in x.task.phase) then 1 else 0) else 0

pub holder_from : ℕ → ℕ → List TaskSlot → Option ℕ
holder_from at number [] = None
holder_from at number (x ∷ tasks) = if holds_at at x then Some number else holder_from at (number + 1) tasks

holder_if : (b : Bool) (stay : Stay) (rest : List Stay) → holder_of (if b then stay ∷ rest else rest) ≡ (if b && holds stay then Some stay.task else holder_of rest)
holder_if true stay rest = refl
holder_if false stay rest = refl

holder_as : (at number : ℕ) (tasks : List TaskSlot) → holder_of (kept_from at number tasks) ≡ holder_from at number tasks
unfolding holds_at holder_from
holder_as at number [] = refl
holder_as at number (x ∷ tasks) =
    ap holder_of (kept_front at number x tasks) ∙ holder_if (runs_at at x) (stay_in (number, x)) (kept_from at (number + 1) tasks)
    ∙ ap (λ (o : Option ℕ). if runs_at at x && (needs_entry x.task.kind && is_inside (place_in x.task.phase)) then Some number else o) (holder_as at (number + 1) tasks)

count_if : (b : Bool) (stay : Stay) (rest : List Stay) → count_by waits (if b then stay ∷ rest else rest) ≡ (if b then (if waits stay then 1 else 0) else 0) + count_by waits rest
count_if true stay rest = sum_by-cons (λ (x : Stay). if waits x then 1 else 0) stay rest
count_if false stay rest = (let same : count_by waits rest ≡ 0 + count_by waits rest = omega arith in same)

waiting_front : (at number : ℕ) (x : TaskSlot) (tasks : List TaskSlot)
    → count_by waits (if runs_at at x then stay_in (number, x) ∷ kept_from at (number + 1) tasks else kept_from at (number + 1) tasks) ≡ enters_at at x + count_by waits (kept_from at (number + 1) tasks)
unfolding enters_at
waiting_front at number x tasks = count_if (runs_at at x) (stay_in (number, x)) (kept_from at (number + 1) tasks)

waiting_as : (at number : ℕ) (tasks : List TaskSlot) → count_by waits (kept_from at number tasks) ≡ sum_by (enters_at at) tasks
waiting_as at number [] = refl
waiting_as at number (x ∷ tasks) =
    ap (count_by waits) (kept_front at number x tasks) ∙ waiting_front at number x tasks ∙ ap (λ (n : ℕ). enters_at at x + n) (waiting_as at (number + 1) tasks) ∙ sym (sum_by-cons (enters_at at) x tasks)

-- The marks of a gate in these words.
pub record GateSeen (tasks : List TaskSlot) (at : ℕ) (gate : GateView) : Type 0 where
  pub holder : gate.holder ≡ holder_from at 0 tasks
  pub waiting : gate.waiting ≡ sum_by (enters_at at) tasks

pub gate_seen : (tasks : List TaskSlot) (at : ℕ) (gate : GateView) → GateMarked tasks at gate → GateSeen tasks at gate
gate_seen tasks at gate m = record { holder = m.holder ∙ holder_as at 0 tasks; waiting = m.waiting ∙ waiting_as at 0 tasks }

pub gate_marked : (tasks : List TaskSlot) (at : ℕ) (gate : GateView) → GateSeen tasks at gate → GateMarked tasks at gate
gate_marked tasks at gate s = record { holder = s.holder ∙ sym (holder_as at 0 tasks); waiting = s.waiting ∙ sym (waiting_as at 0 tasks) }

-- Where a task is another one.
pub holder_same : (at number : ℕ) (tasks : List TaskSlot) (t : ℕ) (x y : TaskSlot) → slice_get tasks t ≡ Some x → holds_at at y ≡ holds_at at x
    → holder_from at number (slice_set tasks t y) ≡ holder_from at number tasks
unfolding holder_from
holder_same at number [] t x y is same = absurd (cc)
holder_same at number (z ∷ tasks) zero x y is same = ap (λ (b : Bool). if b then Some number else holder_from at (number + 1) tasks) (same ∙ ap (holds_at at) (sym (some_same is)))
holder_same at number (z ∷ tasks) (suc t) x y is same = ap (λ (o : Option ℕ). if holds_at at z then Some number else o) (holder_same at (number + 1) tasks t x y is same)

none_first : (b : Bool) (n : ℕ) (o : Option ℕ) → (if b then Some n else o) ≡ None → (b ≡ false) × (o ≡ None)
none_first true n o e = absurd (cc)
none_first false n o e = (refl, e)

pub holder_gains : (at number : ℕ) (tasks : List TaskSlot) (t : ℕ) (x y : TaskSlot) → slice_get tasks t ≡ Some x → holds_at at y ≡ true → holder_from at number tasks ≡ None
    → holder_from at number (slice_set tasks t y) ≡ Some (number + t)
unfolding holder_from
holder_gains at number [] t x y is now none = absurd (cc)
holder_gains at number (z ∷ tasks) zero x y is now none =
    let same : number ≡ number + 0 = omega arith in
    ap (λ (b : Bool). if b then Some number else holder_from at (number + 1) tasks) now ∙ ap (λ (n : ℕ). Some n) same
holder_gains at number (z ∷ tasks) (suc t) x y is now none =
    let first : (holds_at at z ≡ false) × (holder_from at (number + 1) tasks ≡ None) = none_first (holds_at at z) number (holder_from at (number + 1) tasks) none in
    let same : number + 1 + t ≡ number + suc t = omega arith in
    ap (λ (b : Bool). if b then Some number else holder_from at (number + 1) (slice_set tasks t y)) first.0 ∙ holder_gains at (number + 1) tasks t x y is now first.1
    ∙ ap (λ (n : ℕ). Some n) same

pub holder_none : (at number : ℕ) (tasks : List TaskSlot) → ((m : ℕ) (z : TaskSlot) → slice_get tasks m ≡ Some z → holds_at at z ≡ false) → holder_from at number tasks ≡ None
unfolding holder_from
holder_none at number [] none = refl
holder_none at number (z ∷ tasks) none =
    ap (λ (b : Bool). if b then Some number else holder_from at (number + 1) tasks) (none 0 z refl) ∙ holder_none at (number + 1) tasks (λ m x e. none (suc m) x e)

-- No other task holds entry to the instance.
abbrev pub HoldsAlone : List TaskSlot → ℕ → ℕ → Type 0
HoldsAlone tasks at t = (m : ℕ) (z : TaskSlot) → slice_get tasks m ≡ Some z → holds_at at z ≡ true → m ≡ t

pub holder_loses : (at number : ℕ) (tasks : List TaskSlot) (t : ℕ) (y : TaskSlot) → HoldsAlone tasks at t → holds_at at y ≡ false → holder_from at number (slice_set tasks t y) ≡ None
holder_loses at number tasks t y alone now =
    holder_none at number (slice_set tasks t y)
    (λ m z found. elim (set_cases tasks t y m z found) [
      | inl new ↦ ap (holds_at at) new.1 ∙ now
      | inr old ↦ elim (cases_Bool (holds_at at z)) [
        | inl holding ↦ absurd (old.0 (alone m z old.1 holding))
        | inr none ↦ none
      ]
    ])

pub holder_is : (at number : ℕ) (tasks : List TaskSlot) (t : ℕ) (x : TaskSlot) → slice_get tasks t ≡ Some x → holds_at at x ≡ true → HoldsAlone tasks at t
    → holder_from at number tasks ≡ Some (number + t)
unfolding holder_from
holder_is at number [] t x is now alone = absurd (cc)
holder_is at number (z ∷ tasks) zero x is now alone =
    let same : number ≡ number + 0 = omega arith in
    ap (λ (b : Bool). if b then Some number else holder_from at (number + 1) tasks) (ap (holds_at at) (some_same is) ∙ now) ∙ ap (λ (n : ℕ). Some n) same
holder_is at number (z ∷ tasks) (suc t) x is now alone =
    let same : number + 1 + t ≡ number + suc t = omega arith in
    let first : holds_at at z ≡ false = not_first (holds_at at z) (λ e. let zero_is : 0 ≡ suc t = alone 0 z refl e in cc) in
    ap (λ (b : Bool). if b then Some number else holder_from at (number + 1) tasks) first
    ∙ holder_is at (number + 1) tasks t x is now (λ m k found holding. suc_same (alone (suc m) k found holding)) ∙ ap (λ (n : ℕ). Some n) same
  where
    not_first : (b : Bool) → (b ≡ true → ⊥) → b ≡ false
    not_first true isnt = absurd (isnt refl)
    not_first false isnt = refl

    suc_same : {a b : ℕ} → suc a ≡ suc b → a ≡ b
    suc_same e = omega (arith, e)

-- A task that holds nothing is not the holder.
past_one : (b : Bool) (number n : ℕ) (o : Option ℕ) → n < number → is_holder n o ≡ false → is_holder n (if b then Some number else o) ≡ false
past_one true number n o less rest = ne_eqb n number (λ e. omega (arith, less, e))
past_one false number n o less rest = rest

past : (at number n : ℕ) (tasks : List TaskSlot) → n < number → is_holder n (holder_from at number tasks) ≡ false
unfolding holder_from
past at number n [] less = refl
past at number n (z ∷ tasks) less =
    let later : n < number + 1 = omega (arith, less) in
    past_one (holds_at at z) number n (holder_from at (number + 1) tasks) less (past at (number + 1) n tasks later)

later_one : (b : Bool) (number t : ℕ) (o : Option ℕ) → is_holder (number + 1 + t) o ≡ false → is_holder (number + 1 + t) (if b then Some number else o) ≡ false
later_one true number t o rest = ne_eqb (number + 1 + t) number (λ e. omega (arith, e))
later_one false number t o rest = rest

pub not_holder : (at number : ℕ) (tasks : List TaskSlot) (t : ℕ) (x : TaskSlot) → slice_get tasks t ≡ Some x → holds_at at x ≡ false → is_holder (number + t) (holder_from at number tasks) ≡ false
unfolding holder_from
not_holder at number [] t x is none = absurd (cc)
not_holder at number (z ∷ tasks) zero x is none =
    let less : number + 0 < number + 1 = omega arith in
    ap (λ (b : Bool). is_holder (number + 0) (if b then Some number else holder_from at (number + 1) tasks)) (ap (holds_at at) (some_same is) ∙ none) ∙ past at (number + 1) (number + 0) tasks less
not_holder at number (z ∷ tasks) (suc t) x is none =
    let same : number + suc t ≡ number + 1 + t = omega arith in
    ap (λ (n : ℕ). is_holder n (if holds_at at z then Some number else holder_from at (number + 1) tasks)) same
    ∙ later_one (holds_at at z) number t (holder_from at (number + 1) tasks) (not_holder at (number + 1) tasks t x is none)

pub waiting_set : (at : ℕ) (tasks : List TaskSlot) (t : ℕ) (x y : TaskSlot) → slice_get tasks t ≡ Some x
    → sum_by (enters_at at) (slice_set tasks t y) + enters_at at x ≡ sum_by (enters_at at) tasks + enters_at at y
waiting_set at tasks t x y is = sum_set (enters_at at) tasks t x y is

-- What one that runs elsewhere is at a gate.
pub holds_not : (at : ℕ) (x : TaskSlot) → runs_at at x ≡ false → holds_at at x ≡ false
unfolding holds_at
holds_not at x none = ap (λ (b : Bool). b && (needs_entry x.task.kind && is_inside (place_in x.task.phase))) none

pub enters_not : (at : ℕ) (x : TaskSlot) → runs_at at x ≡ false → enters_at at x ≡ 0
unfolding enters_at
enters_not at x none = ap (λ (b : Bool). if b then (if is_waiting (place_in x.task.phase) then 1 else 0) else 0) none

pub holds_there : (at : ℕ) (x : TaskSlot) (b : Bool) → runs_at at x ≡ true → (needs_entry x.task.kind && is_inside (place_in x.task.phase)) ≡ b → holds_at at x ≡ b
unfolding holds_at
holds_there at x b there e = ap (λ (c : Bool). c && (needs_entry x.task.kind && is_inside (place_in x.task.phase))) there ∙ e

pub enters_there : (at : ℕ) (x : TaskSlot) (b : Bool) → runs_at at x ≡ true → is_waiting (place_in x.task.phase) ≡ b → enters_at at x ≡ (if b then 1 else 0)
unfolding enters_at
enters_there at x b there e =
    ap (λ (c : Bool). if c then (if is_waiting (place_in x.task.phase) then 1 else 0) else 0) there ∙ ap (λ (c : Bool). if c then 1 else 0) e

pub enters_none : (at : ℕ) (x : TaskSlot) → is_waiting (place_in x.task.phase) ≡ false → enters_at at x ≡ 0
unfolding enters_at
enters_none at x none = both (runs_at at x) (is_waiting (place_in x.task.phase)) none
  where
    both : (b c : Bool) → c ≡ false → ◌≡◌ {A = ℕ} (if b then (if c then 1 else 0) else 0) 0
    both true true e = absurd (cc)
    both true false e = refl
    both false c e = refl

-- A task and the gate of its instance are others: those of all other instances are marked as they were.
pub gates_change : (instances : List InstanceView) (tasks : List TaskSlot) (t at : ℕ) (x y : TaskSlot) (i j : InstanceView) → slice_get instances at ≡ Some i → slice_get tasks t ≡ Some x
    → runs_at at x ≡ true → ((n : ℕ) → runs_at n y ≡ runs_at n x) → (GateSeen tasks at i.gate → GateSeen (slice_set tasks t y) at j.gate) → GatesMarked instances tasks
    → GatesMarked (slice_set instances at j) (slice_set tasks t y)
gates_change instances tasks t at x y i j here is there same now marks =
    gates_put instances (slice_set tasks t y) at i j here (gate_marked (slice_set tasks t y) at j.gate (now (gate_seen tasks at i.gate (marks at i here))))
    (λ n k other found.
    let none : runs_at n x ≡ false = runs_not at n x there other in
    let seen : GateSeen tasks n k.gate = gate_seen tasks n k.gate (marks n k found) in
    let a : sum_by (enters_at n) (slice_set tasks t y) + enters_at n x ≡ sum_by (enters_at n) tasks + enters_at n y = waiting_set n tasks t x y is in
    gate_marked (slice_set tasks t y) n k.gate
    (record {
      holder = seen.holder ∙ sym (holder_same n 0 tasks t x y is (holds_not n y (same n ∙ none) ∙ sym (holds_not n x none)));
      waiting = seen.waiting ∙ as_many a (enters_not n x none) (enters_not n y (same n ∙ none));
    }))
  where
    as_many : {now x all y : ℕ} → now + x ≡ all + y → x ≡ 0 → y ≡ 0 → all ≡ now
    as_many a b c = omega (arith, a, b, c)

-- Where one task at most holds entry, one that does holds it alone.
holds_as : (at : ℕ) (x : TaskSlot) → holds_at at x ≡ holds_entry at x
unfolding holds_at
holds_as at x = refl

pub holds_alone : (h : Held) (at t : ℕ) (x : TaskSlot) → slice_get h.tasks t ≡ Some x → OneHolds h → holds_at at x ≡ true → HoldsAlone h.tasks at t
holds_alone h at t x is one holding m z found other = one at m t z x found is (sym (holds_as at z) ∙ other) (sym (holds_as at x) ∙ holding)
