-- What becomes of the marks where a task begins to wait on a set, and where it ceases to wait for entry.
use Rattle.std.proofs.Common.{◌≡◌, ◌≢◌, ◌<◌, ℕ, ◌+◌, nat_eq, Bool, true, false, ◌&&◌, List, length, slice_set, inl, inr, refl, sym, ap, ◌∙◌, subst, Some}
use Rattle.std.specs.List.{slice_get}
use Rattle.std.proofs.lemmas.Bool.{cases_eq, cases_Bool}
use Rattle.std.proofs.lemmas.Bool.Decides.{Decides-eqb}
use Rattle.std.proofs.lemmas.List.{get_or-set_same, get_or-set_other}
use Rattle.waitables.specs.Sets.{SetView, no_set, set_at, waited_on}
use Rattle.entry_gate.specs.Gates.{without_wait}
use Rattle.entry_gate.specs.Stays.{Outside, Waiting, is_waiting, is_inside}
use Rattle.instances.specs.declared.entry.WorldEntry.TheVariants as entry
use Rattle.instances.specs.Instances.{InstanceView, entry_of, with_sets, with_gate}
use Rattle.task_table.specs.declared.slot.TaskSlot.{TaskSlot}
use Rattle.task_table.specs.Slots.{waits_on}
use Rattle.world_parts.specs.Held.{Held}
use Rattle.world_parts.specs.Entries.{with_instance}
use Rattle.world_parts.specs.Slots.{with_task}
use Rattle.abi_machine.proofs.sound.Found.{some_same}
use Rattle.standing.specs.KeptMarks.{runs_func, runs_at, place_in, GatesMarked, waiters_at, WaitersMarked}
use Rattle.standing.specs.MarksKept.{WaitsStay, StandOnce}
use Rattle.standing.proofs.marks.Tasks.{StaySame, gate_seen, gate_elsewhere, gate_left, waits_at, waits_not, waits_elsewhere, waits_there, waiters_same, waiters_more}
use Rattle.standing.proofs.marks.Tables.{gates_put, waiters_put}

-- A task runs at one instance.
second : (b c : Bool) → (b && c) ≡ true → c ≡ true
second true c e = e
second false c e = absurd (cc)

no_second : (b c : Bool) → c ≡ false → (b && c) ≡ false
no_second true c e = e
no_second false c e = refl

eq_not : (a b : ℕ) → (a ≡ b → ⊥) → nat_eq a b ≡ false
eq_not a b other =
    elim (cases_Bool (nat_eq a b)) [
      | inl same ↦ absurd (other ((Decides-eqb a b).0 same))
      | inr apart ↦ apart
    ]

runs_not : (at n : ℕ) (x : TaskSlot) → runs_at at x ≡ true → (n ≡ at → ⊥) → runs_at n x ≡ false
runs_not at n x there other =
    let is : x.instance ≡ at = (Decides-eqb x.instance at).0 (second (runs_func x.callee) (nat_eq x.instance at) there) in
    no_second (runs_func x.callee) (nat_eq x.instance n) (eq_not x.instance n (λ e. other (sym e ∙ is)))

-- One more waits on the set, and as many on the others.
on_set : (sets : List SetView) (set : ℕ) → set < length sets → (set_at (waited_on set sets) set).waiters ≡ (set_at sets set).waiters + 1
on_set sets set within = ap (λ (v : SetView). v.waiters) (get_or-set_same sets set (record (set_at sets set) { waiters = (set_at sets set).waiters + 1 }) no_set within)

on_others : (sets : List SetView) (set other : ℕ) → other ≢ set → (set_at (waited_on set sets) other).waiters ≡ (set_at sets other).waiters
on_others sets set other isnt =
    ap (λ (v : SetView). v.waiters) (get_or-set_other sets set other (record (set_at sets set) { waiters = (set_at sets set).waiters + 1 }) no_set isnt)

-- The task at which one is looked begins to wait there, at the index of a set.
pub record BeginsWait (index : ℕ) (x y : TaskSlot) : Type 0 where
  pub stay : StaySame x y
  pub before : (n : ℕ) → waits_on n x.task.phase ≡ false
  pub now : (n : ℕ) → waits_on n y.task.phase ≡ nat_eq index n

waits_now : (at index n : ℕ) (x y : TaskSlot) → runs_at at x ≡ true → BeginsWait index x y → waits_at at n y ≡ nat_eq index n
waits_now at index n x y there b = waits_there at n y (b.stay.at at ∙ there) ∙ b.now n

elsewhere_same : (at n index : ℕ) (x y : TaskSlot) → runs_at at x ≡ true → (n ≡ at → ⊥) → runs_at n y ≡ runs_at n x → waits_at n index y ≡ waits_at n index x
elsewhere_same at n index x y there other same =
    let none : runs_at n x ≡ false = runs_not at n x there other in
    waits_elsewhere n index y (same ∙ none) ∙ sym (waits_elsewhere n index x none)

begun_here : (h : Held) (t at index set : ℕ) (i : InstanceView) (x y : TaskSlot) → slice_get h.tasks t ≡ Some x → runs_at at x ≡ true → BeginsWait index x y → set < length i.sets
    → entry_of i index ≡ Some (entry.Set set) → StandOnce i → ((n number : ℕ) → entry_of i n ≡ Some (entry.Set number) → (set_at i.sets number).waiters ≡ waiters_at h.tasks at n)
    → (n number : ℕ) → entry_of i n ≡ Some (entry.Set number) → (set_at (waited_on set i.sets) number).waiters ≡ waiters_at (slice_set h.tasks t y) at n
begun_here h t at index set i x y is there b within stands once marks n number stood =
    elim (cases_eq number set) [
      | inl same ↦
          let here : n ≡ index = once n index set (stood ∙ ap (λ (k : ℕ). Some (entry.Set k)) same) stands in
          let one : waits_at at index y ≡ true = waits_now at index index x y there b ∙ (Decides-eqb index index).1 refl in
          ap (λ (k : ℕ). (set_at (waited_on set i.sets) k).waiters) same ∙ on_set i.sets set within ∙ ap (λ (k : ℕ). k + 1) (marks index set stands)
          ∙ sym (waiters_more at index h.tasks t x y is (waits_not at index x (b.before index)) one) ∙ ap (λ (k : ℕ). waiters_at (slice_set h.tasks t y) at k) (sym here)
      | inr other ↦
          let apart : index ≡ n → ⊥ = λ e. other (set_same (some_same (sym stood ∙ ap (λ (k : ℕ). entry_of i k) (sym e) ∙ stands))) in
          let none : waits_at at n y ≡ waits_at at n x = waits_now at index n x y there b ∙ eq_not index n apart ∙ sym (waits_not at n x (b.before n)) in
          on_others i.sets set number other ∙ marks n number stood ∙ sym (waiters_same at n h.tasks t x y is none)
    ]
  where
    set_same : {a b : ℕ} → entry.Set a ≡ entry.Set b → a ≡ b
    set_same e = cc

pub wait_begins : (h : Held) (t at index set : ℕ) (i : InstanceView) (x y : TaskSlot) → slice_get h.tasks t ≡ Some x → slice_get h.instances at ≡ Some i → runs_at at x ≡ true
    → BeginsWait index x y → set < length i.sets → entry_of i index ≡ Some (entry.Set set) → StandOnce i
    → WaitsStay h (with_task t y (with_instance at (with_sets (waited_on set i.sets) i) h))
wait_begins h t at index set i x y is here there b within stands once = record {
  gates = λ marks.
      gates_put h.instances (slice_set h.tasks t y) at i (with_sets (waited_on set i.sets) i) here (gate_seen h.tasks t x y at i.gate is b.stay (marks at i here))
      (λ n j other found. gate_seen h.tasks t x y n j.gate is b.stay (marks n j found));
  waiters = λ marks.
      waiters_put h.instances (slice_set h.tasks t y) at i (with_sets (waited_on set i.sets) i) here
      (λ n number stood. begun_here h t at index set i x y is there b within stands once (λ m other found. marks at m other i here found) n number stood)
      (λ n m number j other found stood. marks n m number j found stood ∙ sym (waiters_same n m h.tasks t x y is (elsewhere_same at n m x y there other (b.stay.at n))));
}

-- The task at which one is looked waited to enter, and is outside.
pub record EndsWait (x y : TaskSlot) : Type 0 where
  pub at : (n : ℕ) → runs_at n y ≡ runs_at n x
  pub before : place_in x.task.phase ≡ Waiting
  pub now : place_in y.task.phase ≡ Outside
  pub waited : (n : ℕ) → waits_on n x.task.phase ≡ false
  pub waits : (n : ℕ) → waits_on n y.task.phase ≡ false

no_longer : (at index : ℕ) (x y : TaskSlot) → EndsWait x y → waits_at at index y ≡ waits_at at index x
no_longer at index x y b = waits_not at index y (b.waits index) ∙ sym (waits_not at index x (b.waited index))

pub wait_ends : (h : Held) (t at : ℕ) (i : InstanceView) (x y : TaskSlot) → slice_get h.tasks t ≡ Some x → slice_get h.instances at ≡ Some i → runs_at at x ≡ true → EndsWait x y
    → WaitsStay h (with_instance at (with_gate (without_wait i.gate) i) (with_task t y h))
wait_ends h t at i x y is here there b =
    let outside : is_inside (place_in x.task.phase) ≡ false = ap is_inside b.before in
    let now : is_inside (place_in y.task.phase) ≡ false = ap is_inside b.now in
    record {
      gates = λ marks.
          gates_put h.instances (slice_set h.tasks t y) at i (with_gate (without_wait i.gate) i) here
          (gate_left h.tasks t x y at i.gate (without_wait i.gate) is outside now there (ap is_waiting b.before) (ap is_waiting b.now) refl refl (marks at i here))
          (λ n j other found.
          let none : runs_at n x ≡ false = runs_not at n x there other in
          gate_elsewhere h.tasks t x y n j.gate is outside now none (b.at n ∙ none) (marks n j found));
      waiters = λ marks.
          waiters_put h.instances (slice_set h.tasks t y) at i (with_gate (without_wait i.gate) i) here
          (λ n number stood. marks at n number i here stood ∙ sym (waiters_same at n h.tasks t x y is (no_longer at n x y b)))
          (λ n m number j other found stood. marks n m number j found stood ∙ sym (waiters_same n m h.tasks t x y is (no_longer n m x y b)));
    }
