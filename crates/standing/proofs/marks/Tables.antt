-- Marks of gates and of sets stay where an instance is another one: its gate is held and waited at as before, and its sets that stand in the table are
-- waited on as before; and where a new set stands in its table.
use Rattle.std.proofs.Common.{◌≡◌, ◌⊎◌, inl, inr, ℕ, zero, suc, ◌+◌, ◌-◌, Bool, List, [], ◌∷◌, ◌++◌, length, slice_set, slice_index_or, refl, sym, ap, ◌∙◌, subst, arith, Option, Some, None}
use Rattle.std.specs.List.{slice_get}
use Rattle.std.proofs.lemmas.Bool.{cases_eq}
use Rattle.value_lift.proofs.Lends.{slot_either}
use Rattle.handle_table.specs.History.{next_in}
use Rattle.handle_table.specs.Slots.{Slots, slot_at, with_slot, entry_at, filled, next_of, added, removed, with_entry}
use Rattle.res_handles.specs.declared.handle.Handle.{Handle}
use Rattle.res_handles.specs.declared.entry.EntryView.{EntryView}
use Rattle.res_handles.specs.declared.entry.EntryView.TheVariants as seen
use Rattle.res_handles.specs.Calls.{view_at, relent_by, with_lends}
use Rattle.waitables.specs.Sets.{SetView, no_set, set_at, set_with_last, left, joined}
use Rattle.entry_gate.specs.Gates.{GateView}
use Rattle.instances.specs.declared.entry.EndEntry.{EndEntry}
use Rattle.instances.specs.declared.entry.WorldEntry.{WorldEntry}
use Rattle.instances.specs.declared.entry.WorldEntry.TheVariants as entry
use Rattle.instances.specs.Entries.{seen_as, of_handle, with_idle, any_end_in}
use Rattle.instances.specs.Instances as instance
use Rattle.instances.specs.Instances.{InstanceView, entry_of, with_slots, with_sets, with_gate}
use Rattle.task_table.specs.declared.slot.TaskSlot.{TaskSlot}
use Rattle.world_parts.specs.Held.{Held}
use Rattle.world_parts.specs.Entries.{with_instance}
use Rattle.abi_machine.proofs.sound.Found.{some_same}
use Rattle.standing.specs.KeptMarks.{GateMarked, GatesMarked, waiters_at, WaitersMarked}
use Rattle.standing.specs.MarksKept.{WaitsStay}
use Rattle.standing.proofs.Agreeing.{get_set}
use Rattle.standing.proofs.Steps.{other_get}

-- What is found behind a write is what was written, or what was found before.
pub put_same : (instances : List InstanceView) (at n : ℕ) (x y z : InstanceView) → slice_get instances at ≡ Some x → slice_get (slice_set instances at y) n ≡ Some z → n ≡ at → z ≡ y
put_same instances at n x y z is there same =
    let found : slice_get (slice_set instances at y) n ≡ Some y = ap (λ (k : ℕ). slice_get (slice_set instances at y) k) same ∙ get_set instances at x y is in
    some_same (sym there ∙ found)

pub put_other : (instances : List InstanceView) (at n : ℕ) (y z : InstanceView) → slice_get (slice_set instances at y) n ≡ Some z → (n ≡ at → ⊥) → slice_get instances n ≡ Some z
put_other instances at n y z there other = sym (other_get instances at n y other) ∙ there

pub gates_put : (instances : List InstanceView) (later : List TaskSlot) (at : ℕ) (x y : InstanceView) → slice_get instances at ≡ Some x → GateMarked later at y.gate
    → ((n : ℕ) (i : InstanceView) → (n ≡ at → ⊥) → slice_get instances n ≡ Some i → GateMarked later n i.gate) → GatesMarked (slice_set instances at y) later
gates_put instances later at x y is now others n i there =
    elim (cases_eq n at) [
      | inl e ↦
          subst (λ (j : InstanceView). GateMarked later n j.gate) (sym (put_same instances at n x y i is there e)) (subst (λ (k : ℕ). GateMarked later k y.gate) (sym e) now)
      | inr e ↦ others n i e (put_other instances at n y i there e)
    ]

pub waiters_put : (instances : List InstanceView) (later : List TaskSlot) (at : ℕ) (x y : InstanceView) → slice_get instances at ≡ Some x
    → ((index set : ℕ) → entry_of y index ≡ Some (entry.Set set) → (set_at y.sets set).waiters ≡ waiters_at later at index)
    → ((n index set : ℕ) (i : InstanceView) → (n ≡ at → ⊥) → slice_get instances n ≡ Some i → entry_of i index ≡ Some (entry.Set set) → (set_at i.sets set).waiters ≡ waiters_at later n index)
    → WaitersMarked (slice_set instances at y) later
waiters_put instances later at x y is now others n index set i there stood =
    elim (cases_eq n at) [
      | inl e ↦
          let same : i ≡ y = put_same instances at n x y i is there e in
          ap (λ (j : InstanceView). (set_at j.sets set).waiters) same ∙ now index set (ap (λ (j : InstanceView). entry_of j index) (sym same) ∙ stood)
          ∙ ap (λ (k : ℕ). waiters_at later k index) (sym e)
      | inr e ↦ others n index set i e (put_other instances at n y i there e) stood
    ]

-- Its gate is held and waited at as before; its sets that stand in the table stood there, and are waited on as before.
pub record WaitedSame (x y : InstanceView) : Type 0 where
  pub holder : y.gate.holder ≡ x.gate.holder
  pub waiting : y.gate.waiting ≡ x.gate.waiting
  pub sets : (index set : ℕ) → entry_of y index ≡ Some (entry.Set set) → (entry_of x index ≡ Some (entry.Set set)) × ((set_at y.sets set).waiters ≡ (set_at x.sets set).waiters)

pub gates_same : (h : Held) (at : ℕ) (x y : InstanceView) → slice_get h.instances at ≡ Some x → y.gate.holder ≡ x.gate.holder → y.gate.waiting ≡ x.gate.waiting
    → GatesMarked h.instances h.tasks → GatesMarked (slice_set h.instances at y) h.tasks
gates_same h at x y is holder waiting marks =
    let m : GateMarked h.tasks at x.gate = marks at x is in
    gates_put h.instances h.tasks at x y is (record { holder = holder ∙ m.holder; waiting = waiting ∙ m.waiting }) (λ n i other there. marks n i there)

pub instance_stays : (h : Held) (at : ℕ) (x y : InstanceView) → slice_get h.instances at ≡ Some x → WaitedSame x y → WaitsStay h (with_instance at y h)
instance_stays h at x y is same = record {
  gates = λ marks. gates_same h at x y is same.holder same.waiting marks;
  waiters = λ marks.
      waiters_put h.instances h.tasks at x y is
      (λ index set stood. (same.sets index set stood).1 ∙ marks at index set x is (same.sets index set stood).0)
      (λ n index set i other there stood. marks n index set i there stood);
}

pub same_instance : (h : Held) (at : ℕ) (i : InstanceView) → slice_get h.instances at ≡ Some i → WaitsStay h (with_instance at i h)
same_instance h at i is = instance_stays h at i i is (record { holder = refl; waiting = refl; sets = λ index set stood. (stood, refl) })

-- Another entry than a set.
abbrev pub IsNoSet : WorldEntry → Type 0
IsNoSet (entry.Handle x) = Unit {0}
IsNoSet (entry.Subtask callee) = Unit {0}
IsNoSet (entry.Set set) = ⊥
IsNoSet (entry.End e) = Unit {0}

abbrev pub IsNoSetIn : Option WorldEntry → Type 0
IsNoSetIn None = Unit {0}
IsNoSetIn (Some e) = IsNoSet e

set_is_not : (e : WorldEntry) → IsNoSet e → (set : ℕ) → e ≡ entry.Set set → ⊥
set_is_not (entry.Handle x) q set e = cc
set_is_not (entry.Subtask callee) q set e = cc
set_is_not (entry.Set other) q set e = q
set_is_not (entry.End x) q set e = cc

set_not_in : (o : Option WorldEntry) → IsNoSetIn o → (set : ℕ) → o ≡ Some (entry.Set set) → ⊥
set_not_in None q set e = cc
set_not_in (Some x) q set e = set_is_not x q set (some_same e)

-- One comes, or goes, or is another one of these: what stands as a set stood there.
pub written_set : (entries : List (Option WorldEntry)) (index : ℕ) (o : Option WorldEntry) (at set : ℕ) → IsNoSetIn o → slot_at (with_slot entries index o) at ≡ Some (entry.Set set)
    → slot_at entries at ≡ Some (entry.Set set)
written_set entries index o at set q stood =
    elim (slot_either entries index at o) [
      | inl same ↦ sym same ∙ stood
      | inr here ↦ absurd (set_not_in o q set (sym here.1 ∙ stood))
    ]

pushed_either : {E : Type 0} (entries : List (Option E)) (x : Option E) (k : ℕ)
    → (slice_index_or (entries ++ x ∷ []) k None ≡ slice_index_or entries k None) ⊎ ((k ≡ length entries) × (slice_index_or (entries ++ x ∷ []) k None ≡ x))
pushed_either [] x zero = inr (refl, refl)
pushed_either [] x (suc k) = inl refl
pushed_either (y ∷ entries) x zero = inl refl
pushed_either (y ∷ entries) x (suc k) =
    elim (pushed_either entries x k) [
      | inl e ↦ inl e
      | inr e ↦ inr (ap suc e.0, e.1)
    ]

pub filled_either : {E : Type 0} (entries : List (Option E)) (free : List ℕ) (e : E) (at : ℕ)
    → (slot_at (filled entries free e) at ≡ slot_at entries at) ⊎ ((at ≡ next_in free (length entries)) × (slot_at (filled entries free e) at ≡ Some e))
filled_either entries [] e zero = inl refl
filled_either entries [] e (suc k) =
    elim (pushed_either entries (Some e) k) [
      | inl same ↦ inl same
      | inr here ↦ inr (omega (arith, here.0), here.1)
    ]
filled_either entries (index ∷ free) e at = slot_either entries index at (Some e)

added_set : (s : Slots WorldEntry) (e : WorldEntry) (at set : ℕ) → IsNoSet e → entry_at (added e s) at ≡ Some (entry.Set set) → entry_at s at ≡ Some (entry.Set set)
added_set s e at set q stood =
    elim (filled_either s.entries s.freed e at) [
      | inl same ↦ sym same ∙ stood
      | inr here ↦ absurd (set_not_in (Some e) q set (sym here.1 ∙ stood))
    ]

pub slots_waited : (i : InstanceView) (slots : Slots WorldEntry) → ((index set : ℕ) → entry_at slots index ≡ Some (entry.Set set) → entry_of i index ≡ Some (entry.Set set))
    → WaitedSame i (with_slots slots i)
slots_waited i slots stood = record { holder = refl; waiting = refl; sets = λ index set now. (stood index set now, refl) }

pub added_waited : (e : WorldEntry) (i : InstanceView) → IsNoSet e → WaitedSame i (instance.entry_added e i)
added_waited e i q = slots_waited i (added e i.slots) (λ index set now. added_set i.slots e index set q now)

pub removed_waited : (at : ℕ) (i : InstanceView) → WaitedSame i (instance.entry_removed at i)
removed_waited at i = slots_waited i (removed at i.slots) (λ index set now. written_set i.slots.entries at None index set tt now)

relent_set : (o : Option EntryView) (f : ℕ → ℕ) (at : ℕ) (s : Slots WorldEntry) (index set : ℕ) → entry_at (relent_by o of_handle f at s) index ≡ Some (entry.Set set)
    → entry_at s index ≡ Some (entry.Set set)
relent_set None f at s index set now = now
relent_set (Some seen.Other) f at s index set now = now
relent_set (Some (seen.ReadableEnd x)) f at s index set now = now
relent_set (Some (seen.Handle x)) f at s index set now = written_set s.entries at (Some (of_handle (with_lends (f x.lends) x))) index set tt now

pub given_back_waited : (at : ℕ) (i : InstanceView) → WaitedSame i (instance.given_back at i)
given_back_waited at i =
    slots_waited i (relent_by (view_at seen_as i.slots at) of_handle (λ n. n - 1) at i.slots)
    (λ index set now. relent_set (view_at seen_as i.slots at) (λ n. n - 1) at i.slots index set now)

pub end_idled_waited : (at : ℕ) (is_idle : Bool) (o : Option EndEntry) (i : InstanceView) → WaitedSame i (instance.end_idled at is_idle o i)
end_idled_waited at is_idle None i = record { holder = refl; waiting = refl; sets = λ index set stood. (stood, refl) }
end_idled_waited at is_idle (Some e) i =
    slots_waited i (with_entry at (entry.End (with_idle is_idle e)) i.slots)
    (λ index set now. written_set i.slots.entries at (Some (entry.End (with_idle is_idle e))) index set tt now)

-- The gate is another one, which is held and waited at as before.
pub gate_waited : (i : InstanceView) (gate : GateView) → gate.holder ≡ i.gate.holder → gate.waiting ≡ i.gate.waiting → WaitedSame i (with_gate gate i)
gate_waited i gate holder waiting = record { holder = holder; waiting = waiting; sets = λ index set stood. (stood, refl) }

-- The sets are others, which are waited on as before.
pub sets_waited : (i : InstanceView) (sets : List SetView) → ((n : ℕ) → (set_at sets n).waiters ≡ (set_at i.sets n).waiters) → WaitedSame i (with_sets sets i)
sets_waited i sets same = record { holder = refl; waiting = refl; sets = λ index set stood. (stood, same set) }

pub waiters_made : (sets : List SetView) (n : ℕ) → (set_at (sets ++ no_set ∷ []) n).waiters ≡ (set_at sets n).waiters
waiters_made [] zero = refl
waiters_made [] (suc n) = refl
waiters_made (v ∷ sets) zero = refl
waiters_made (v ∷ sets) (suc n) = waiters_made sets n

pub waiters_none : (sets : List SetView) → (set_at sets (length sets)).waiters ≡ 0
waiters_none [] = refl
waiters_none (v ∷ sets) = waiters_none sets

pub waiters_left : (index : ℕ) (sets : List SetView) (n : ℕ) → (set_at (left index sets) n).waiters ≡ (set_at sets n).waiters
waiters_left index [] n = refl
waiters_left index (v ∷ sets) zero = refl
waiters_left index (v ∷ sets) (suc n) = waiters_left index sets n

waiters_written : (sets : List SetView) (number : ℕ) (v : SetView) (n : ℕ) → v.waiters ≡ (set_at sets number).waiters → (set_at (slice_set sets number v) n).waiters ≡ (set_at sets n).waiters
waiters_written [] number v n same = refl
waiters_written (x ∷ sets) zero v zero same = same
waiters_written (x ∷ sets) zero v (suc n) same = refl
waiters_written (x ∷ sets) (suc number) v zero same = refl
waiters_written (x ∷ sets) (suc number) v (suc n) same = waiters_written sets number v n same

pub waiters_joined : (index number : ℕ) (sets : List SetView) (n : ℕ) → (set_at (joined index number sets) n).waiters ≡ (set_at sets n).waiters
waiters_joined index number sets n =
    waiters_written (left index sets) number (set_with_last index (set_at (left index sets) number)) n refl ∙ waiters_left index sets n

-- A new set, on which no task waits, stands where no task waits.
new_set : (i : InstanceView) (number : ℕ) (tasks : List TaskSlot) (at : ℕ) → (set_at i.sets number).waiters ≡ 0 → waiters_at tasks at (next_of i.slots) ≡ 0
    → ((index set : ℕ) → entry_of i index ≡ Some (entry.Set set) → (set_at i.sets set).waiters ≡ waiters_at tasks at index)
    → (index set : ℕ) → entry_at (added (entry.Set number) i.slots) index ≡ Some (entry.Set set) → (set_at i.sets set).waiters ≡ waiters_at tasks at index
new_set i number tasks at new none before index set stood =
    elim (filled_either i.slots.entries i.slots.freed (entry.Set number) index) [
      | inl same ↦ before index set (sym same ∙ stood)
      | inr here ↦
          let both : entry.Set number ≡ entry.Set set = some_same (sym here.1 ∙ stood) in
          let is : set ≡ number = cc in
          ap (λ (k : ℕ). (set_at i.sets k).waiters) is ∙ new ∙ sym none ∙ ap (λ (k : ℕ). waiters_at tasks at k) (sym here.0)
    ]

pub new_set_stays : (h : Held) (at number : ℕ) (i : InstanceView) → slice_get h.instances at ≡ Some i → (set_at i.sets number).waiters ≡ 0
    → waiters_at h.tasks at (next_of i.slots) ≡ 0 → WaitsStay h (with_instance at (instance.entry_added (entry.Set number) i) h)
new_set_stays h at number i is new none = record {
  gates = λ marks. gates_same h at i (instance.entry_added (entry.Set number) i) is refl refl marks;
  waiters = λ marks.
      waiters_put h.instances h.tasks at i (instance.entry_added (entry.Set number) i) is
      (λ index set stood. new_set i number h.tasks at new none (λ place other there. marks at place other i is there) index set stood)
      (λ n index set j other there stood. marks n index set j there stood);
}
