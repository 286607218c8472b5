-- What becomes of these marks where an entry comes or goes, or is another one, in the table of an instance.
use Rattle.std.proofs.Common.{◌≡◌, inl, inr, ℕ, zero, suc, ◌+◌, Bool, false, if◌then◌else◌, List, [], ◌∷◌, slice_set, refl, sym, ap, ◌∙◌, arith, Option, Some, None}
use Rattle.std.specs.List.{slice_get, count_by}
use Rattle.std.specs.Option.{option_map}
use Rattle.value_lift.proofs.Lends.{slot_either}
use Rattle.handle_table.specs.Sound.{AreFree, IsSound}
use Rattle.handle_table.specs.Slots.{slot_at, with_slot, filled, next_of}
use Rattle.res_handles.specs.declared.handle.Handle.{Handle}
use Rattle.res_handles.specs.declared.handle.Ownership.TheVariants.{Own}
use Rattle.res_handles.specs.declared.entry.EntryView.{EntryView}
use Rattle.res_handles.specs.declared.entry.EntryView.TheVariants as seen
use Rattle.stream_ends.specs.declared.side.Side.{Side}
use Rattle.stream_ends.specs.declared.side.Side.TheVariants.{Reader, Writer}
use Rattle.instances.specs.declared.entry.EndEntry.{EndEntry}
use Rattle.instances.specs.declared.entry.WorldEntry.{WorldEntry}
use Rattle.instances.specs.declared.entry.WorldEntry.TheVariants as entry
use Rattle.instances.specs.Entries.{seen_as, seen_by, with_idle, any_end_in}
use Rattle.instances.specs.Instances as instance
use Rattle.instances.specs.Instances.{InstanceView, entry_of, with_slots}
use Rattle.task_table.specs.declared.caller.Called.{Called}
use Rattle.task_table.specs.declared.caller.Caller.TheVariants.{Guest}
use Rattle.task_table.specs.declared.slot.TaskSlot.{TaskSlot}
use Rattle.world_parts.specs.Held.{Held}
use Rattle.world_parts.specs.Entries.{with_instance}
use Rattle.abi_machine.proofs.sound.Found.{some_same}
use Rattle.standing.specs.KeptMarks.{lends_at, borrows_by, is_borrow_of, awaited_at}
use Rattle.standing.proofs.marks.Tables.{filled_either}
use Rattle.run_laws.proofs.keeping.Others.{Keeps}
use Rattle.run_laws.proofs.keeping.Sums.{sum_set, none_if, count_written, count_more, index_found}
use Rattle.run_laws.proofs.keeping.Changes.{TableAlike, borrows_of, lends_put, awaited_put, borrows_table, lends_table, awaited_table, instance_keeps}

-- Entries that are neither handles nor subtasks.
abbrev pub IsOther : WorldEntry → Type 0
IsOther (entry.Handle x) = ⊥
IsOther (entry.Subtask callee) = ⊥
IsOther (entry.Set set) = Unit {0}
IsOther (entry.End e) = Unit {0}

no_handle : (e : WorldEntry) → IsOther e → (z : Handle) (A : Type 0) → e ≡ entry.Handle z → A
no_handle (entry.Handle x) q z A e = absurd q
no_handle (entry.Subtask callee) q z A e = absurd q
no_handle (entry.Set set) q z A e = absurd (cc)
no_handle (entry.End x) q z A e = absurd (cc)

no_subtask : (e : WorldEntry) → IsOther e → (callee : ℕ) (A : Type 0) → e ≡ entry.Subtask callee → A
no_subtask (entry.Handle x) q callee A e = absurd q
no_subtask (entry.Subtask other) q callee A e = absurd q
no_subtask (entry.Set set) q callee A e = absurd (cc)
no_subtask (entry.End x) q callee A e = absurd (cc)

other_borrows : (t : ℕ) (e : WorldEntry) → IsOther e → is_borrow_of t (Some e) ≡ false
other_borrows t (entry.Handle x) q = absurd q
other_borrows t (entry.Subtask callee) q = refl
other_borrows t (entry.Set set) q = refl
other_borrows t (entry.End e) q = refl

-- As many borrow handles are there where another entry comes to stand at the next index.
count_filled : (p : Option WorldEntry → Bool) (entries : List (Option WorldEntry)) (free : List ℕ) (e : WorldEntry) → AreFree entries free → p (Some e) ≡ false → p None ≡ false
    → count_by p (filled entries free e) ≡ count_by p entries
count_filled p entries [] e f new none = count_more p entries (Some e) new
count_filled p entries (zero ∷ free) e f new none = refl
count_filled p entries (suc place ∷ free) e f new none = count_written p entries place (Some e) (new ∙ sym (ap p f.0.empty ∙ none))

pub added_borrows : (t : ℕ) (i : InstanceView) (e : WorldEntry) → IsSound i.slots → is_borrow_of t (Some e) ≡ false → borrows_of t (instance.entry_added e i) ≡ borrows_of t i
unfolding borrows_of
added_borrows t i e sound none = count_filled (is_borrow_of t) i.slots.entries i.slots.freed e sound.free none refl

-- A set or an end comes.
pub added_alike : (e : WorldEntry) (i : InstanceView) → IsOther e → IsSound i.slots → TableAlike i (instance.entry_added e i)
added_alike e i q sound = record {
  handles = λ index z stood.
      elim (filled_either i.slots.entries i.slots.freed e index) [
        | inl same ↦ (z, sym same ∙ stood, refl)
        | inr here ↦ no_handle e q z ((prior : Handle) × (entry_of i index ≡ Some (entry.Handle prior)) × (z.lends ≡ prior.lends)) (some_same (sym here.1 ∙ stood))
      ];
  subtasks = λ index callee stood.
      elim (filled_either i.slots.entries i.slots.freed e index) [
        | inl same ↦ sym same ∙ stood
        | inr here ↦ no_subtask e q callee (entry_of i index ≡ Some (entry.Subtask callee)) (some_same (sym here.1 ∙ stood))
      ];
  borrows = λ t. added_borrows t i e sound (other_borrows t e q);
}

pub other_added : (h : Held) (at : ℕ) (i : InstanceView) (e : WorldEntry) → slice_get h.instances at ≡ Some i → IsOther e → IsSound i.slots
    → Keeps h (with_instance at (instance.entry_added e i) h)
other_added h at i e is q sound = instance_keeps h at i (instance.entry_added e i) is (added_alike e i q sound)

-- An own handle comes, of which nothing is lent.
pub own_added : (h : Held) (at : ℕ) (i : InstanceView) (x : Handle) → slice_get h.instances at ≡ Some i → x.ownership ≡ Own → x.lends ≡ 0 → IsSound i.slots
    → lends_at h.tasks at (next_of i.slots) ≡ 0 → Keeps h (with_instance at (instance.entry_added (entry.Handle x) i) h)
own_added h at i x is own none sound unlent marks = record {
  lends =
      lends_put h.instances h.tasks at i (instance.entry_added (entry.Handle x) i) is
      (λ index z stood.
      elim (filled_either i.slots.entries i.slots.freed (entry.Handle x) index) [
        | inl same ↦ marks.lends at index i z is (sym same ∙ stood)
        | inr here ↦
            let both : entry.Handle x ≡ entry.Handle z = some_same (sym here.1 ∙ stood) in
            let same : x ≡ z = cc in
            ap (λ (y : Handle). y.lends) (sym same) ∙ none ∙ sym unlent ∙ ap (λ (k : ℕ). lends_at h.tasks at k) (sym here.0)
      ])
      (λ n index j z other there stood. marks.lends n index j z there stood);
  borrows =
      borrows_table h.instances h.tasks at i (instance.entry_added (entry.Handle x) i) is
      (λ t. added_borrows t i (entry.Handle x) sound (ap (borrows_by t) own)) marks.borrows;
  awaited =
      awaited_table h.instances h.tasks at i (instance.entry_added (entry.Handle x) i) is
      (λ index callee stood.
      elim (filled_either i.slots.entries i.slots.freed (entry.Handle x) index) [
        | inl same ↦ sym same ∙ stood
        | inr here ↦ (let both : entry.Handle x ≡ entry.Subtask callee = some_same (sym here.1 ∙ stood) in absurd (cc))
      ])
      marks.awaited;
  states = marks.states;
}

-- A subtask comes that no task waits for.
pub subtask_added : (h : Held) (at callee : ℕ) (i : InstanceView) → slice_get h.instances at ≡ Some i → IsSound i.slots → awaited_at h.tasks at (next_of i.slots) ≡ false
    → ((slot : TaskSlot) (called : Called) → slice_get h.tasks callee ≡ Some slot → slot.caller ≡ Guest called → called.is_awaited ≡ false)
    → Keeps h (with_instance at (instance.entry_added (entry.Subtask callee) i) h)
subtask_added h at callee i is sound alone new marks = record {
  lends =
      lends_table h.instances h.tasks at i (instance.entry_added (entry.Subtask callee) i) is
      (λ index z stood.
      elim (filled_either i.slots.entries i.slots.freed (entry.Subtask callee) index) [
        | inl same ↦ (z, sym same ∙ stood, refl)
        | inr here ↦ (let both : entry.Subtask callee ≡ entry.Handle z = some_same (sym here.1 ∙ stood) in absurd (cc))
      ])
      marks.lends;
  borrows =
      borrows_table h.instances h.tasks at i (instance.entry_added (entry.Subtask callee) i) is (λ t. added_borrows t i (entry.Subtask callee) sound refl) marks.borrows;
  awaited =
      awaited_put h.instances h.tasks at i (instance.entry_added (entry.Subtask callee) i) is
      (λ index number slot called stood found guest.
      elim (filled_either i.slots.entries i.slots.freed (entry.Subtask callee) index) [
        | inl same ↦ marks.awaited at index number i slot called is (sym same ∙ stood) found guest
        | inr here ↦
            let both : entry.Subtask callee ≡ entry.Subtask number = some_same (sym here.1 ∙ stood) in
            let same : number ≡ callee = cc in
            new slot called (ap (λ (k : ℕ). slice_get h.tasks k) (sym same) ∙ found) guest ∙ sym alone ∙ ap (λ (k : ℕ). awaited_at h.tasks at k) (sym here.0)
      ])
      (λ n index number j slot called other there stood found guest. marks.awaited n index number j slot called there stood found guest);
  states = marks.states;
}

-- An entry leaves: what is left stood there.
pub slot_gone : (entries : List (Option WorldEntry)) (at index : ℕ) (e : WorldEntry) → slot_at (with_slot entries at None) index ≡ Some e → slot_at entries index ≡ Some e
slot_gone entries at index e stood =
    elim (slot_either entries at index None) [
      | inl same ↦ sym same ∙ stood
      | inr here ↦ (let both : None ≡ Some e = sym here.1 ∙ stood in absurd (cc))
    ]

count_gone : (p : Option WorldEntry → Bool) (entries : List (Option WorldEntry)) (index : ℕ) → p None ≡ false → p (slot_at entries index) ≡ false
    → count_by p (with_slot entries index None) ≡ count_by p entries
count_gone p entries zero none now = refl
count_gone p entries (suc place) none now = count_written p entries place None (none ∙ sym now)

gone_borrows : (t : ℕ) (i : InstanceView) (index : ℕ) → is_borrow_of t (entry_of i index) ≡ false → borrows_of t (instance.entry_removed index i) ≡ borrows_of t i
unfolding borrows_of
gone_borrows t i index none = count_gone (is_borrow_of t) i.slots.entries index refl none

pub removed_alike : (i : InstanceView) (index : ℕ) → ((t : ℕ) → is_borrow_of t (entry_of i index) ≡ false) → TableAlike i (instance.entry_removed index i)
removed_alike i index none = record {
  handles = λ n z stood. (z, slot_gone i.slots.entries index n (entry.Handle z) stood, refl);
  subtasks = λ n callee stood. slot_gone i.slots.entries index n (entry.Subtask callee) stood;
  borrows = λ t. gone_borrows t i index (none t);
}

pub entry_gone : (h : Held) (at index : ℕ) (i : InstanceView) → slice_get h.instances at ≡ Some i → ((t : ℕ) → is_borrow_of t (entry_of i index) ≡ false)
    → Keeps h (with_instance at (instance.entry_removed index i) h)
entry_gone h at index i is none = instance_keeps h at i (instance.entry_removed index i) is (removed_alike i index none)

-- A borrow handle leaves: one fewer names its task, and as many name each other one.
slot_counts : (p : Option WorldEntry → Bool) (entries : List (Option WorldEntry)) (index : ℕ) (e : WorldEntry) → slot_at entries index ≡ Some e → p None ≡ false
    → count_by p (with_slot entries index None) + (if p (Some e) then 1 else 0) ≡ count_by p entries
slot_counts p entries zero e stood none = absurd (cc)
slot_counts p entries (suc place) e stood none =
    let a : count_by p (slice_set entries place None) + (if p (Some e) then 1 else 0) ≡ count_by p entries + (if p None then 1 else 0)
    = sum_set (λ (o : Option WorldEntry). if p o then 1 else 0) entries place (Some e) None (index_found entries place e stood) in
    let b : ◌≡◌ {A = ℕ} (if p None then 1 else 0) 0 = none_if (p None) none in
    omega (arith, a, b)

pub borrow_gone : (t : ℕ) (i : InstanceView) (index : ℕ) (e : WorldEntry) → entry_of i index ≡ Some e
    → borrows_of t (instance.entry_removed index i) + (if is_borrow_of t (Some e) then 1 else 0) ≡ borrows_of t i
unfolding borrows_of
borrow_gone t i index e stood = slot_counts (is_borrow_of t) i.slots.entries index e stood refl

-- The end at an index is idle, or not.
slot_other : (entries : List (Option WorldEntry)) (at index : ℕ) (e f : WorldEntry) → (e ≡ f → ⊥) → slot_at (with_slot entries at (Some e)) index ≡ Some f → slot_at entries index ≡ Some f
slot_other entries at index e f other stood =
    elim (slot_either entries at index (Some e)) [
      | inl same ↦ sym same ∙ stood
      | inr here ↦ absurd (other (some_same (sym here.1 ∙ stood)))
    ]

end_there : (o : Option WorldEntry) (e : EndEntry) → any_end_in o ≡ Some e → o ≡ Some (entry.End e)
end_there None e is = absurd (cc)
end_there (Some (entry.Handle x)) e is = absurd (cc)
end_there (Some (entry.Subtask callee)) e is = absurd (cc)
end_there (Some (entry.Set set)) e is = absurd (cc)
end_there (Some (entry.End x)) e is = ap (λ (y : EndEntry). Some (entry.End y)) (some_same is)

count_same : (p : Option WorldEntry → Bool) (entries : List (Option WorldEntry)) (index : ℕ) (o : Option WorldEntry) → p o ≡ p (slot_at entries index)
    → count_by p (with_slot entries index o) ≡ count_by p entries
count_same p entries zero o same = refl
count_same p entries (suc place) o same = count_written p entries place o same

idled_borrows : (t : ℕ) (i : InstanceView) (index : ℕ) (e f : EndEntry) → entry_of i index ≡ Some (entry.End e) → borrows_of t (instance.entry_changed index (entry.End f) i) ≡ borrows_of t i
unfolding borrows_of
idled_borrows t i index e f stood = count_same (is_borrow_of t) i.slots.entries index (Some (entry.End f)) (ap (is_borrow_of t) (sym stood))

pub idled_alike : (index : ℕ) (is_idle : Bool) (o : Option EndEntry) (i : InstanceView) → any_end_in (entry_of i index) ≡ o → TableAlike i (instance.end_idled index is_idle o i)
idled_alike index is_idle None i is = record { handles = λ n z stood. (z, stood, refl); subtasks = λ n callee stood. stood; borrows = λ t. refl }
idled_alike index is_idle (Some e) i is = record {
  handles = λ n z stood. (z, slot_other i.slots.entries index n (entry.End (with_idle is_idle e)) (entry.Handle z) (λ same. cc) stood, refl);
  subtasks = λ n callee stood. slot_other i.slots.entries index n (entry.End (with_idle is_idle e)) (entry.Subtask callee) (λ same. cc) stood;
  borrows = λ t. idled_borrows t i index e (with_idle is_idle e) (end_there (entry_of i index) e is);
}

-- A handle is lent less, or more: the same handle, that is lent so often, stands there.
end_is_no_handle : (e : EndEntry) (side : Side) (x : Handle) (A : Type 0) → (let v : Option EntryView = Some (seen_by side e) in v) ≡ Some (seen.Handle x) → A
end_is_no_handle e Reader x A is = absurd (cc)
end_is_no_handle e Writer x A is = absurd (cc)

pub handle_there : (o : Option WorldEntry) (x : Handle) → option_map seen_as o ≡ Some (seen.Handle x) → o ≡ Some (entry.Handle x)
handle_there None x is = absurd (cc)
handle_there (Some (entry.Handle y)) x is = (let same : y ≡ x = cc in ap (λ (z : Handle). Some (entry.Handle z)) same)
handle_there (Some (entry.Subtask callee)) x is = absurd (cc)
handle_there (Some (entry.Set set)) x is = absurd (cc)
handle_there (Some (entry.End e)) x is = end_is_no_handle e e.side x (Some (entry.End e) ≡ Some (entry.Handle x)) is
