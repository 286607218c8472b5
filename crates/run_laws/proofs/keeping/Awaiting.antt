-- Marks while a task comes to wait directly for a subtask, or ceases to: all but who waits for that one stay, and then who waits for it is as it follows from the
-- tasks.
use Rattle.std.proofs.Common.{◌≡◌, inl, inr, ℕ, Bool, List, slice_set, refl, sym, ap, ◌∙◌, Some}
use Rattle.std.specs.List.{slice_get}
use Rattle.std.proofs.lemmas.Bool.{cases_eq}
use Rattle.instances.specs.declared.entry.WorldEntry.TheVariants as entry
use Rattle.instances.specs.Instances.{InstanceView, entry_of}
use Rattle.task_table.specs.declared.caller.Called.{Called}
use Rattle.task_table.specs.declared.caller.Caller.{Caller}
use Rattle.task_table.specs.declared.caller.Caller.TheVariants.{Nobody, Host, Guest}
use Rattle.task_table.specs.declared.slot.TaskSlot.{TaskSlot}
use Rattle.task_table.specs.Callers as callers
use Rattle.task_table.specs.Callers.{called_of, changed}
use Rattle.task_table.specs.Slots.{awaited_slot}
use Rattle.standing.specs.KeptMarks.{runs_at, lends_by, awaited_at, LendsMarked, BorrowsMarked}
use Rattle.standing.specs.Marks.{StateMarked, StatesMarked}
use Rattle.standing.proofs.Agreeing.{get_set}
use Rattle.standing.proofs.Steps.{other_get}
use Rattle.standing.proofs.States.{awaiting_stays}
use Rattle.run_laws.proofs.keeping.Others.{OthersMarked}
use Rattle.run_laws.proofs.keeping.Sums.{set_either}
use Rattle.run_laws.proofs.keeping.Changes.{lends_alike, borrows_alike, states_alike, waits_there, awaited_same, waits_same}
use Rattle.run_laws.proofs.keeping.Alike.{guest_same}

-- Who waits directly for a subtask is as it follows from the tasks, but for one of them.
abbrev pub AwaitedBut : ℕ → List InstanceView → List TaskSlot → Type 0
AwaitedBut callee instances tasks =
    (at index other : ℕ) (i : InstanceView) (slot : TaskSlot) (called : Called) → (other ≡ callee → ⊥) → slice_get instances at ≡ Some i → entry_of i index ≡ Some (entry.Subtask other)
    → slice_get tasks other ≡ Some slot → slot.caller ≡ Guest called → called.is_awaited ≡ awaited_at tasks at index

pub record MarkedBut (callee : ℕ) (instances : List InstanceView) (tasks : List TaskSlot) : Type 0 where
  pub lends : LendsMarked instances tasks
  pub borrows : BorrowsMarked instances tasks
  pub others : AwaitedBut callee instances tasks
  pub states : StatesMarked tasks

pub marked_but : (callee : ℕ) (instances : List InstanceView) (tasks : List TaskSlot) → OthersMarked instances tasks → MarkedBut callee instances tasks
marked_but callee instances tasks marks = record {
  lends = marks.lends;
  borrows = marks.borrows;
  others = λ at index other i slot called apart here stood found guest. marks.awaited at index other i slot called here stood found guest;
  states = marks.states;
}

-- A task is another one, for the same caller, which waits for each other subtask as it did.
abbrev pub WaitsFor : ℕ → List InstanceView → TaskSlot → TaskSlot → Type 0
WaitsFor callee instances x y =
    (at index other : ℕ) (i : InstanceView) → (other ≡ callee → ⊥) → slice_get instances at ≡ Some i → entry_of i index ≡ Some (entry.Subtask other) → waits_there at index y ≡ waits_there at index x

task_others : (callee : ℕ) (instances : List InstanceView) (tasks : List TaskSlot) (t : ℕ) (x y : TaskSlot) → slice_get tasks t ≡ Some x → y.caller ≡ x.caller → WaitsFor callee instances x y
    → AwaitedBut callee instances tasks → AwaitedBut callee instances (slice_set tasks t y)
task_others callee instances tasks t x y is caller same marks at index other i slot called apart here stood found guest =
    elim (set_either tasks t y other slot found) [
      | inl new ↦
          marks at index other i x called apart here stood (ap (λ (k : ℕ). slice_get tasks k) new.0 ∙ is) (sym caller ∙ ap (λ (s : TaskSlot). s.caller) (sym new.1) ∙ guest)
          ∙ sym (awaited_same tasks t x y at index is (same at index other i apart here stood))
      | inr old ↦ marks at index other i slot called apart here stood old guest ∙ sym (awaited_same tasks t x y at index is (same at index other i apart here stood))
    ]

pub but_task : (callee : ℕ) (instances : List InstanceView) (tasks : List TaskSlot) (t : ℕ) (x y : TaskSlot) → slice_get tasks t ≡ Some x → ((n : ℕ) → runs_at n y ≡ runs_at n x)
    → y.caller ≡ x.caller → y.task.borrows ≡ x.task.borrows → (StateMarked t x → StateMarked t y) → WaitsFor callee instances x y → MarkedBut callee instances tasks
    → MarkedBut callee instances (slice_set tasks t y)
but_task callee instances tasks t x y is there caller borrows state same marks = record {
  lends = lends_alike instances tasks t x y is there (λ p index. ap (λ (c : Caller). lends_by p index (called_of c)) caller) marks.lends;
  borrows = borrows_alike instances tasks t x y is borrows marks.borrows;
  others = task_others callee instances tasks t x y is caller same marks.others;
  states = states_alike tasks t x y is state marks.states;
}

-- Whether that one is waited for directly is said anew.
awaited_lends : (b : Bool) (c : Caller) (p : ℕ → Bool) (index : ℕ) → lends_by p index (called_of (changed (callers.awaited b) c)) ≡ lends_by p index (called_of c)
awaited_lends b Nobody p index = refl
awaited_lends b (Host call) p index = refl
awaited_lends b (Guest called) p index = refl

itself_others : (callee : ℕ) (instances : List InstanceView) (tasks : List TaskSlot) (b : Bool) (x : TaskSlot) → slice_get tasks callee ≡ Some x → AwaitedBut callee instances tasks
    → AwaitedBut callee instances (slice_set tasks callee (awaited_slot b x))
itself_others callee instances tasks b x is marks at index other i slot called apart here stood found guest =
    marks at index other i slot called apart here stood (sym (other_get tasks callee other (awaited_slot b x) apart) ∙ found) guest
    ∙ sym (awaited_same tasks callee x (awaited_slot b x) at index is (waits_same at index x (awaited_slot b x) refl refl))

pub but_itself : (callee : ℕ) (instances : List InstanceView) (tasks : List TaskSlot) (b : Bool) (x : TaskSlot) → slice_get tasks callee ≡ Some x → MarkedBut callee instances tasks
    → MarkedBut callee instances (slice_set tasks callee (awaited_slot b x))
but_itself callee instances tasks b x is marks = record {
  lends = lends_alike instances tasks callee x (awaited_slot b x) is (λ n. refl) (λ p index. awaited_lends b x.caller p index) marks.lends;
  borrows = borrows_alike instances tasks callee x (awaited_slot b x) is refl marks.borrows;
  others = itself_others callee instances tasks b x is marks.others;
  states = states_alike tasks callee x (awaited_slot b x) is (awaiting_stays callee x b) marks.states;
}

-- It is said of that one.
abbrev pub IsSaid : Bool → List TaskSlot → ℕ → Type 0
IsSaid b tasks callee = (slot : TaskSlot) (called : Called) → slice_get tasks callee ≡ Some slot → slot.caller ≡ Guest called → called.is_awaited ≡ b

said_of : (b : Bool) (c : Caller) (called : Called) → changed (callers.awaited b) c ≡ Guest called → called.is_awaited ≡ b
said_of b Nobody called e = absurd (cc)
said_of b (Host call) called e = absurd (cc)
said_of b (Guest prior) called e = ap (λ (c : Called). c.is_awaited) (sym (guest_same e))

pub said_now : (b : Bool) (tasks : List TaskSlot) (callee : ℕ) (x : TaskSlot) → slice_get tasks callee ≡ Some x → IsSaid b (slice_set tasks callee (awaited_slot b x)) callee
said_now b tasks callee x is slot called found guest =
    let same : slot ≡ awaited_slot b x = some_of (sym found ∙ get_set tasks callee x (awaited_slot b x) is) in
    said_of b x.caller called (ap (λ (s : TaskSlot). s.caller) (sym same) ∙ guest)
  where
    some_of : {a b : TaskSlot} → Some a ≡ Some b → a ≡ b
    some_of e = cc

pub said_still : (b : Bool) (tasks : List TaskSlot) (callee t : ℕ) (x y : TaskSlot) → slice_get tasks t ≡ Some x → y.caller ≡ x.caller → IsSaid b tasks callee → IsSaid b (slice_set tasks t y) callee
said_still b tasks callee t x y is caller said slot called found guest =
    elim (set_either tasks t y callee slot found) [
      | inl new ↦ said x called (ap (λ (k : ℕ). slice_get tasks k) new.0 ∙ is) (sym caller ∙ ap (λ (s : TaskSlot). s.caller) (sym new.1) ∙ guest)
      | inr old ↦ said slot called old guest
    ]

-- Where it stands nowhere but at an index, and is said as it follows there, all is.
pub but_none : (b : Bool) (callee at index : ℕ) (instances : List InstanceView) (tasks : List TaskSlot)
    → ((n m : ℕ) (i : InstanceView) → slice_get instances n ≡ Some i → entry_of i m ≡ Some (entry.Subtask callee) → (n ≡ at) × (m ≡ index))
    → IsSaid b tasks callee → awaited_at tasks at index ≡ b → MarkedBut callee instances tasks → OthersMarked instances tasks
but_none b callee at index instances tasks only said waits marks = record {
  lends = marks.lends;
  borrows = marks.borrows;
  awaited = λ n m other i slot called here stood found guest.
      elim (cases_eq other callee) [
        | inl e ↦
            let place : (n ≡ at) × (m ≡ index) = only n m i here (stood ∙ ap (λ (k : ℕ). Some (entry.Subtask k)) e) in
            said slot called (ap (λ (k : ℕ). slice_get tasks k) (sym e) ∙ found) guest ∙ sym waits
            ∙ ap (λ (k : ℕ). awaited_at tasks k index) (sym place.0) ∙ ap (λ (k : ℕ). awaited_at tasks n k) (sym place.1)
        | inr apart ↦ marks.others n m other i slot called apart here stood found guest
      ];
  states = marks.states;
}
