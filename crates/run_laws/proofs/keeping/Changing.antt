-- Entries that come to a table where values are lowered, that leave it where they are lifted, and handles that are lent: what is kept stays so.
use Rattle.std.proofs.Common.{◌≡◌, ◌⊎◌, inl, inr, ℕ, zero, suc, ◌+◌, ◌<◌, ◌≤◌, nat_eq, nat_lt, Bool, true, false, ◌&&◌, if◌then◌else◌, List, [], ◌∷◌, ◌++◌, length, slice_set, slice_index_or, refl, sym, ap, ◌∙◌, subst, arith, Option, Some, None}
use Rattle.std.specs.List.{slice_get, count_by}
use Rattle.std.specs.Option.{option_map}
use Rattle.std.proofs.lemmas.Bool.{cases_eq}
use Rattle.std.proofs.lemmas.List.Sums.{sum_by_push}
use Rattle.value_lift.proofs.Lends.{slot_either}
use Rattle.handle_table.specs.Sound.{AreFree, IsSound}
use Rattle.handle_table.specs.Slots.{Slots, slot_at, with_slot, entry_at, filled, next_of, count, with_entry}
use Rattle.handle_table.proofs.Places.{slot_past}
use Rattle.handle_table.proofs.Soundness.{removed_sound, changed_sound, added_sound}
use Rattle.res_handles.specs.declared.handle.Handle.{Handle}
use Rattle.res_handles.specs.declared.handle.Ownership.TheVariants.{Own}
use Rattle.res_handles.specs.Calls as handles
use Rattle.waitables.specs.Sets.{left}
use Rattle.channels.specs.declared.channel.Channel.{Channel}
use Rattle.instances.specs.declared.entry.EndEntry.{EndEntry}
use Rattle.instances.specs.declared.entry.WorldEntry.{WorldEntry}
use Rattle.instances.specs.declared.entry.WorldEntry.TheVariants as entry
use Rattle.instances.specs.Instances as instance
use Rattle.instances.specs.Instances.{InstanceView, entry_of, with_slots, with_sets}
use Rattle.world_parts.specs.Held.{Held}
use Rattle.world_parts.specs.Entries.{with_instance}
use Rattle.abi_machine.proofs.sound.Found.{some_same}
use Rattle.standing.specs.KeptMarks.{borrows_by, is_borrow_of}
use Rattle.standing.specs.Channels.{EndsMarked}
use Rattle.standing.specs.EndMarks.{EntryMarked}
use Rattle.standing.proofs.EndMarks.{same_entries_stay_marked, added_stay_marked, removed_stay_marked}
use Rattle.standing.proofs.marks.Tables.{IsNoSet, filled_either, added_waited, removed_waited, sets_waited, waiters_left}
use Rattle.run_laws.proofs.keeping.Sums.{sum_set}
use Rattle.run_laws.proofs.keeping.Changes.{TableAlike, borrows_of}
use Rattle.run_laws.proofs.keeping.Tables.{removed_alike}
use Rattle.run_laws.proofs.keeping.But.{lent_there, owed, owed_none, HasBut, TableSame, instance_more, instance_but}

-- At the next index nothing stands.
pub next_empty : (entries : List (Option WorldEntry)) (freed : List ℕ) → AreFree entries freed → slot_at entries (next_of (record { entries = entries; freed = freed })) ≡ None
next_empty entries [] free = slot_past entries (length entries + 1) (omega arith)
next_empty entries (index ∷ freed) free = free.0.empty

-- Another entry comes that is not lent.
added_lent : (i : InstanceView) (e : WorldEntry) → IsSound i.slots → lent_there (Some e) ≡ 0 → (index : ℕ) → lent_there (entry_of (instance.entry_added e i) index) ≡ lent_there (entry_of i index)
added_lent i e sound none index =
    elim (filled_either i.slots.entries i.slots.freed e index) [
      | inl same ↦ ap lent_there same
      | inr here ↦
          ap lent_there here.1 ∙ none
          ∙ sym (ap (λ (k : ℕ). lent_there (entry_of i k)) here.0 ∙ ap lent_there (next_empty i.slots.entries i.slots.freed sound.free))
    ]

-- What comes is a handle or an end.
abbrev pub IsPassed : WorldEntry → Type 0
IsPassed (entry.Handle x) = Unit {0}
IsPassed (entry.Subtask callee) = ⊥
IsPassed (entry.Set set) = ⊥
IsPassed (entry.End e) = Unit {0}

passed_set : (e : WorldEntry) → IsPassed e → IsNoSet e
passed_set (entry.Handle x) q = tt
passed_set (entry.Subtask callee) q = absurd q
passed_set (entry.Set set) q = absurd q
passed_set (entry.End e) q = tt

passed_no_subtask : (e : WorldEntry) → IsPassed e → (callee : ℕ) → Some e ≡ Some (entry.Subtask callee) → ⊥
passed_no_subtask (entry.Handle x) q callee e = cc
passed_no_subtask (entry.Subtask other) q callee e = q
passed_no_subtask (entry.Set set) q callee e = q
passed_no_subtask (entry.End x) q callee e = cc

added_same : (i : InstanceView) (e : WorldEntry) → IsPassed e → IsSound i.slots → count i.slots < 65535 → lent_there (Some e) ≡ 0 → TableSame i (instance.entry_added e i)
added_same i e q sound room none = record {
  lent = λ index. added_lent i e sound none index;
  subtasks = λ index callee stood.
      elim (filled_either i.slots.entries i.slots.freed e index) [
        | inl same ↦ sym same ∙ stood
        | inr here ↦ absurd (passed_no_subtask e q callee (sym here.1 ∙ stood))
      ];
  sound = added_sound i.slots e room sound;
  waited = added_waited e i (passed_set e q);
}

-- One more borrow handle is there, where it is one.
got_there : {A : Type 0} (xs : List (Option A)) (n : ℕ) → n < length xs → slice_get xs n ≡ Some (slice_index_or xs n None)
got_there [] n less = absurd (omega (arith, less))
got_there (x ∷ xs) zero less = refl
got_there (x ∷ xs) (suc n) less = got_there xs n (omega (arith, less))

counts_one : (p : Option WorldEntry → Bool) (entries : List (Option WorldEntry)) (freed : List ℕ) (e : WorldEntry) → AreFree entries freed → p None ≡ false
    → count_by p (filled entries freed e) ≡ count_by p entries + (if p (Some e) then 1 else 0)
counts_one p entries [] e free none = sum_by_push (λ (o : Option WorldEntry). if p o then 1 else 0) entries (Some e)
counts_one p entries (zero ∷ freed) e free none = absurd (let given : 1 ≤ 0 = free.0.given in omega (arith, given))
counts_one p entries (suc place ∷ freed) e free none =
    let within : suc place ≤ length entries = free.0.within in
    let there : slice_get entries place ≡ Some None = got_there entries place (omega (arith, within)) ∙ ap (λ (o : Option WorldEntry). Some o) free.0.empty in
    written (count_by p (slice_set entries place (Some e))) (if p None then 1 else 0) (count_by p entries) (if p (Some e) then 1 else 0)
    (sum_set (λ (o : Option WorldEntry). if p o then 1 else 0) entries place None (Some e) there) (ap (λ (b : Bool). if b then 1 else 0) none)
  where
    written : (now was before one : ℕ) → now + was ≡ before + one → was ≡ 0 → now ≡ before + one
    written now was before one f g = omega (arith, f, g)

added_counts : (m : ℕ) (i : InstanceView) (e : WorldEntry) → IsSound i.slots → borrows_of m (instance.entry_added e i) ≡ borrows_of m i + (if is_borrow_of m (Some e) then 1 else 0)
unfolding borrows_of
added_counts m i e sound = counts_one (is_borrow_of m) i.slots.entries i.slots.freed e sound.free refl

-- Where the slots are as they were as many borrow handles are there.
slots_counted : (m : ℕ) (x y : InstanceView) → y.slots ≡ x.slots → borrows_of m y ≡ borrows_of m x
unfolding borrows_of
slots_counted m x y same = ap (λ (s : Slots WorldEntry). count_by (is_borrow_of m) s.entries) same

module _ (C : Type 0) (t n : ℕ) (h : Held) (at : ℕ) (i : InstanceView) (here : slice_get h.instances at ≡ Some i) (but : HasBut C t n h) where
  ends_added : (e : WorldEntry) → (C → EntryMarked h.streams h.futures e) → C → EndsMarked h.instances h.streams h.futures
      → EndsMarked (slice_set h.instances at (instance.entry_added e i)) h.streams h.futures
  ends_added e marked c ends = added_stay_marked h.instances h.streams h.futures at i e here (marked c) ends

  -- An own handle or an end comes; and a borrow handle of the task, which is counted still.
  pub entry_comes : (e : WorldEntry) → IsPassed e → count i.slots < 65535 → lent_there (Some e) ≡ 0 → ((m : ℕ) → is_borrow_of m (Some e) ≡ false)
      → (C → EntryMarked h.streams h.futures e) → HasBut C t n (with_instance at (instance.entry_added e i) h)
  entry_comes e q room none counts marked =
      instance_but C t n h at i (instance.entry_added e i) here (added_same i e q (but.sound at i here) room none)
      (λ m. as_many (added_counts m i e (but.sound at i here)) (ap (λ (b : Bool). if b then 1 else 0) (counts m))) (λ c ends. ends_added e marked c ends) but
    where
      as_many : {a b o : ℕ} → a ≡ b + o → o ≡ 0 → a ≡ b
      as_many e f = omega (arith, e, f)

  pub borrow_comes : (resource rep : ℕ) → count i.slots < 65535 → HasBut C t (n + 1) (with_instance at (instance.entry_added (entry.Handle (handles.borrow_handle resource rep t)) i) h)
  borrow_comes resource rep room =
      instance_more C t n 1 h at i (instance.entry_added (entry.Handle (handles.borrow_handle resource rep t)) i) here
      (added_same i (entry.Handle (handles.borrow_handle resource rep t)) tt (but.sound at i here) room refl)
      (λ m. added_counts m i (entry.Handle (handles.borrow_handle resource rep t)) (but.sound at i here))
      (λ c ends. ends_added (entry.Handle (handles.borrow_handle resource rep t)) (λ d. tt) c ends) but

  -- What is not lent, and is no borrow handle, leaves the table.
  pub entry_leaves : (index : ℕ) (e : WorldEntry) → entry_of i index ≡ Some e → lent_there (Some e) ≡ 0 → ((m : ℕ) → is_borrow_of m (Some e) ≡ false)
      → HasBut C t n (with_instance at (instance.entry_removed index i) h)
  entry_leaves index e stood none counts =
      let alike : TableAlike i (instance.entry_removed index i) = removed_alike i index (λ m. ap (is_borrow_of m) stood ∙ counts m) in
      instance_but C t n h at i (instance.entry_removed index i) here
      (record {
        lent = λ k. elim (slot_either i.slots.entries index k None) [
          | inl same ↦ ap lent_there same
          | inr gone ↦ ap lent_there gone.1 ∙ sym (ap (λ (j : ℕ). lent_there (entry_of i j)) gone.0 ∙ ap lent_there stood ∙ none)
        ];
        subtasks = alike.subtasks;
        sound = removed_sound i.slots index e stood (but.sound at i here);
        waited = removed_waited index i;
      })
      alike.borrows (λ c ends. removed_stay_marked h.instances h.streams h.futures at index i here ends) but

  -- It leaves its set.
  pub set_leaves : (index : ℕ) → HasBut C t n (with_instance at (with_sets (left index i.sets) i) h)
  set_leaves index =
      let y : InstanceView = with_sets (left index i.sets) i in
      instance_but C t n h at i y here
      (record {
        lent = λ k. refl;
        subtasks = λ k callee stood. stood;
        sound = but.sound at i here;
        waited = sets_waited i (left index i.sets) (λ k. waiters_left index i.sets k);
      })
      (λ m. slots_counted m i y refl) (λ c ends. same_entries_stay_marked h.instances h.streams h.futures at i y here refl ends) but
