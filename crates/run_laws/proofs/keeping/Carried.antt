-- What is asked of what is kept stays where a task is another one that runs what it ran, for the same caller, or an entry leaves a table.
use Rattle.std.proofs.Common.{◌≡◌, inl, inr, ℕ, List, slice_set, sym, ap, ◌∙◌, Option, Some, None}
use Rattle.std.specs.List.{slice_get}
use Rattle.std.proofs.lemmas.Bool.{cases_eq}
use Rattle.value_lift.proofs.Lends.{slot_either}
use Rattle.handle_table.specs.Slots.{slot_at, with_slot, next_of}
use Rattle.instances.specs.declared.entry.WorldEntry.{WorldEntry}
use Rattle.instances.specs.declared.entry.WorldEntry.TheVariants as entry
use Rattle.instances.specs.Instances as instance
use Rattle.instances.specs.Instances.{InstanceView, entry_of}
use Rattle.task_table.specs.declared.slot.TaskSlot.{TaskSlot}
use Rattle.task_table.specs.Callers.{called_of}
use Rattle.world_parts.specs.Held.{Held}
use Rattle.world_parts.specs.Entries.{with_instance}
use Rattle.world_parts.specs.Slots.{with_task}
use Rattle.standing.specs.KeptMarks.{runs_at}
use Rattle.standing.proofs.marks.Tables.{put_same, put_other}
use Rattle.run_laws.specs.keeping.Kept.{NumbersThere, CalledFrom, ToldGaveBack, NoneWaitsNext, IsNotAwaited}
use Rattle.run_laws.proofs.keeping.Sums.{set_either, still_there}
use Rattle.run_laws.proofs.keeping.Changes.{here_same, awaited_same, waits_there}

pub numbers_task : (h : Held) (t : ℕ) (x y : TaskSlot) → slice_get h.tasks t ≡ Some x → y.caller ≡ x.caller → NumbersThere h → NumbersThere (with_task t y h)
numbers_task h t x y is same n = record {
  callers = λ m slot called found by. elim (set_either h.tasks t y m slot found) [
    | inl new ↦
        still_there h.tasks t called.by y
        (n.callers t x called is (ap called_of (sym same) ∙ ap (λ (s : TaskSlot). called_of s.caller) (sym new.1) ∙ by))
    | inr old ↦ still_there h.tasks t called.by y (n.callers m slot called old by)
  ];
  borrowers = λ at index task i z here stood by. still_there h.tasks t task y (n.borrowers at index task i z here stood by);
  subtasks = λ at index callee i here stood. still_there h.tasks t callee y (n.subtasks at index callee i here stood);
}

slot_gone : (entries : List (Option WorldEntry)) (at index : ℕ) (e : WorldEntry) → slot_at (with_slot entries at None) index ≡ Some e → slot_at entries index ≡ Some e
slot_gone entries at index e stood =
    elim (slot_either entries at index None) [
      | inl same ↦ sym same ∙ stood
      | inr here ↦ (let both : None ≡ Some e = sym here.1 ∙ stood in absurd (cc))
    ]

-- What stands in a table behind a removal stood there.
stood_before : (h : Held) (at gone n index : ℕ) (x i : InstanceView) (e : WorldEntry) → slice_get h.instances at ≡ Some x
    → slice_get (slice_set h.instances at (instance.entry_removed gone x)) n ≡ Some i → entry_of i index ≡ Some e
    → (j : InstanceView) × (slice_get h.instances n ≡ Some j) × (entry_of j index ≡ Some e)
stood_before h at gone n index x i e is here stood =
    elim (cases_eq n at) [
      | inl same ↦
          let now : i ≡ instance.entry_removed gone x = put_same h.instances at n x (instance.entry_removed gone x) i is here same in
          (x, ap (λ (k : ℕ). slice_get h.instances k) same ∙ is, slot_gone x.slots.entries gone index e (ap (λ (j : InstanceView). entry_of j index) (sym now) ∙ stood))
      | inr other ↦ (i, put_other h.instances at n (instance.entry_removed gone x) i here other, stood)
    ]

pub numbers_removed : (h : Held) (at gone : ℕ) (x : InstanceView) → slice_get h.instances at ≡ Some x → NumbersThere h → NumbersThere (with_instance at (instance.entry_removed gone x) h)
numbers_removed h at gone x is n = record {
  callers = λ m slot called found by. n.callers m slot called found by;
  borrowers = λ m index task i z here stood by.
      let p : (j : InstanceView) × (slice_get h.instances m ≡ Some j) × (entry_of j index ≡ Some (entry.Handle z)) = stood_before h at gone m index x i (entry.Handle z) is here stood in
      n.borrowers m index task p.0 z p.1 p.2 by;
  subtasks = λ m index callee i here stood.
      let p : (j : InstanceView) × (slice_get h.instances m ≡ Some j) × (entry_of j index ≡ Some (entry.Subtask callee))
      = stood_before h at gone m index x i (entry.Subtask callee) is here stood in
      n.subtasks m index callee p.0 p.1 p.2;
}

pub from_task : (h : Held) (t at callee : ℕ) (x y : TaskSlot) → slice_get h.tasks t ≡ Some x → y.caller ≡ x.caller → runs_at at y ≡ runs_at at x → CalledFrom h at callee
    → CalledFrom (with_task t y h) at callee
from_task h t at callee x y is same runs from slot called found by =
    elim (set_either h.tasks t y callee slot found) [
      | inl new ↦
          here_same h.tasks t x y at called.by is runs
          ∙ from x called (ap (λ (k : ℕ). slice_get h.tasks k) new.0 ∙ is) (ap called_of (sym same) ∙ ap (λ (s : TaskSlot). called_of s.caller) (sym new.1) ∙ by)
      | inr old ↦ here_same h.tasks t x y at called.by is runs ∙ from slot called old by
    ]

pub gave_task : (h : Held) (t : ℕ) (x y : TaskSlot) → slice_get h.tasks t ≡ Some x → y.caller ≡ x.caller → ToldGaveBack h → ToldGaveBack (with_task t y h)
gave_task h t x y is same gave n slot called found by told =
    elim (set_either h.tasks t y n slot found) [
      | inl new ↦ gave t x called is (ap called_of (sym same) ∙ ap (λ (s : TaskSlot). called_of s.caller) (sym new.1) ∙ by) told
      | inr old ↦ gave n slot called old by told
    ]

pub alone_task : (h : Held) (t at : ℕ) (x y : TaskSlot) → slice_get h.tasks t ≡ Some x → ((n index : ℕ) → waits_there n index y ≡ waits_there n index x) → NoneWaitsNext h at
    → NoneWaitsNext (with_task t y h) at
alone_task h t at x y is same alone i here = awaited_same h.tasks t x y at (next_of i.slots) is (same at (next_of i.slots)) ∙ alone i here

pub unawaited_task : (h : Held) (t callee : ℕ) (x y : TaskSlot) → slice_get h.tasks t ≡ Some x → y.caller ≡ x.caller → IsNotAwaited h callee → IsNotAwaited (with_task t y h) callee
unawaited_task h t callee x y is same none slot called found guest =
    elim (set_either h.tasks t y callee slot found) [
      | inl new ↦ none x called (ap (λ (k : ℕ). slice_get h.tasks k) new.0 ∙ is) (sym same ∙ ap (λ (s : TaskSlot). s.caller) (sym new.1) ∙ guest)
      | inr old ↦ none slot called old guest
    ]
