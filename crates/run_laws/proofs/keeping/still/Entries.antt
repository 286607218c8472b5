-- Entries that come and go, but for ends that come, and sets: memories, core instances and ends stay as they are kept.
use Rattle.std.proofs.Common.{◌≡◌, ◌∙◌, inl, inr, refl, sym}
use Rattle.std.specs.Prelude.{ℕ, ◌-◌, nat_lt, Bool, false, ◌&&◌, is_some, if◌then◌else◌, List, [], ◌∷◌, ◌++◌, length, Option, Some, None, Result, Ok, Err}
use Rattle.std.specs.List.{slice_get}
use Rattle.handle_table.specs.History.{most_live}
use Rattle.handle_table.specs.Slots.{Slots, entry_at, count, next_of, added, removed, with_entry}
use Rattle.res_handles.specs.declared.handle.Handle.{Handle}
use Rattle.res_handles.specs.declared.entry.EntryView.{EntryView}
use Rattle.res_handles.specs.declared.entry.EntryView.TheVariants as seen
use Rattle.res_handles.specs.declared.refusal.Refusal.{Refusal}
use Rattle.res_handles.specs.Calls as handles
use Rattle.res_handles.specs.Refusals.{handle_in, dropped_in, rep_of}
use Rattle.value_lift.proofs.Lends.{slot_either}
use Rattle.stream_ends.specs.declared.side.Side.{Side}
use Rattle.waitables.specs.Sets.{SetView, no_set, joined, left, waited_on, waited_off}
use Rattle.instances.specs.declared.entry.EndEntry.{EndEntry}
use Rattle.instances.specs.declared.entry.WorldEntry.{WorldEntry}
use Rattle.instances.specs.declared.entry.WorldEntry.TheVariants as entry
use Rattle.instances.specs.declared.refusal.DropSetError.{DropSetError}
use Rattle.instances.specs.declared.refusal.DropSetError.TheVariants as drop_error
use Rattle.instances.specs.Entries.{seen_as, of_handle, subtask_in, set_in, waitable_in, end_in, any_end_in}
use Rattle.instances.specs.Instances as instance
use Rattle.instances.specs.Instances.{InstanceView, entry_of, view_of, lends_of, with_sets}
use Rattle.instances.specs.Calls.{is_there, has_waiter, dropped_set}
use Rattle.trace_labels.specs.declared.trap.TrapName.TheVariants as trap
use Rattle.world_parts.specs.Held.{Held, Gives, Traps, Stuck, given}
use Rattle.world_parts.specs.Entries.{with_instance, subtask_number, set_number, entry_found, subtask_found, set_found, subtask_known, set_known, waitable_found, end_found, rep_found, sets_made, named, entry_added, removed_of, entry_removed, dropped_of, handle_dropped, lend_ended, end_idled, set_made, set_joined, set_left, set_gone, set_dropped, set_waited_on, set_waited_off}
use Rattle.standing.proofs.marks.Tables.{filled_either}
use Rattle.run_laws.proofs.keeping.still.Still.{Kinds, no_kinds, still_bare, Still, StillBy, still_same, still_given, still_if, still_instance, still_table, ends_same}

-- An end that stands in a table where an entry that is none has come, one has left, or a handle is lent once less, stood there.
no_end : (e : WorldEntry) (d : EndEntry) → is_some (any_end_in (Some e)) ≡ false → Some e ≡ Some (entry.End d) → ⊥
no_end (entry.Handle x) d none is = cc
no_end (entry.Subtask callee) d none is = cc
no_end (entry.Set set) d none is = cc
no_end (entry.End x) d none is = cc

added_stood : (s : Slots WorldEntry) (e : WorldEntry) → is_some (any_end_in (Some e)) ≡ false → (index : ℕ) (d : EndEntry) → entry_at (added e s) index ≡ Some (entry.End d)
    → entry_at s index ≡ Some (entry.End d)
added_stood s e none index d has =
    elim (filled_either s.entries s.freed e index) [
      | inl same ↦ sym same ∙ has
      | inr here ↦ absurd (no_end e d none (sym here.1 ∙ has))
    ]

none_stands : (d : EndEntry) → (let o : Option WorldEntry = None in o) ≡ Some (entry.End d) → ⊥
none_stands d is = cc

pub removed_stood : (s : Slots WorldEntry) (index n : ℕ) (d : EndEntry) → entry_at (removed index s) n ≡ Some (entry.End d) → entry_at s n ≡ Some (entry.End d)
removed_stood s index n d has =
    elim (slot_either s.entries index n None) [
      | inl same ↦ sym same ∙ has
      | inr here ↦ absurd (none_stands d (sym here.1 ∙ has))
    ]

handle_stands : (s : Slots WorldEntry) (x : Handle) (index n : ℕ) (d : EndEntry) → entry_at (with_entry index (entry.Handle x) s) n ≡ Some (entry.End d) → entry_at s n ≡ Some (entry.End d)
handle_stands s x index n d has =
    elim (slot_either s.entries index n (Some (entry.Handle x))) [
      | inl same ↦ sym same ∙ has
      | inr here ↦ absurd (no_end (entry.Handle x) d refl (sym here.1 ∙ has))
    ]

given_stood : (s : Slots WorldEntry) (index : ℕ) (o : Option EntryView) (n : ℕ) (d : EndEntry) → entry_at (handles.relent_by o of_handle (λ k. k - 1) index s) n ≡ Some (entry.End d)
    → entry_at s n ≡ Some (entry.End d)
given_stood s index None n d has = has
given_stood s index (Some seen.Other) n d has = has
given_stood s index (Some (seen.ReadableEnd e)) n d has = has
given_stood s index (Some (seen.Handle x)) n d has = handle_stands s (handles.with_lends (x.lends - 1) x) index n d has

-- What is found, or a trap.
pub named_still : (W : Kinds) → {A : Type 0} (r : Result A Refusal) (h : Held) → StillBy W h (named r h)
named_still W (Ok x) h = still_same W h
named_still W (Err why) h = ends_same W h

-- An instance is written back as it was.
same_instance : (W : Kinds) → (h : Held) (at : ℕ) (i : InstanceView) → slice_get h.instances at ≡ Some i → Still W h (with_instance at i h)
same_instance W h at i found = still_instance W h at i i found refl

pub entry_added_still : (W : Kinds) → (at : ℕ) (e : WorldEntry) (h : Held) → is_some (any_end_in (Some e)) ≡ false → StillBy W h (entry_added at e h)
entry_added_still W at e h none =
    still_given W h (slice_get h.instances at)
    (λ i. if nat_lt (count i.slots) most_live then Gives (next_of i.slots) (with_instance at (instance.entry_added e i) h) else Traps trap.TableFull (with_instance at i h))
    (λ i is.
    still_if W h (nat_lt (count i.slots) most_live) (Gives (next_of i.slots) (with_instance at (instance.entry_added e i) h)) (Traps trap.TableFull (with_instance at i h))
    (still_table W h at i (instance.entry_added e i) is (λ index d has. added_stood i.slots e none index d has)) (same_instance W h at i is).ends)

-- Whatever comes, and where an end is said to be idle or not, but for ends.
pub entry_added_bare : (at : ℕ) (e : WorldEntry) (h : Held) → StillBy no_kinds h (entry_added at e h)
entry_added_bare at e h =
    still_given no_kinds h (slice_get h.instances at)
    (λ i. if nat_lt (count i.slots) most_live then Gives (next_of i.slots) (with_instance at (instance.entry_added e i) h) else Traps trap.TableFull (with_instance at i h))
    (λ i is.
    still_if no_kinds h (nat_lt (count i.slots) most_live) (Gives (next_of i.slots) (with_instance at (instance.entry_added e i) h)) (Traps trap.TableFull (with_instance at i h))
    (still_bare h (with_instance at (instance.entry_added e i) h) refl refl) (same_instance no_kinds h at i is).ends)

pub end_idled_bare : (at index : ℕ) (is_idle : Bool) (h : Held) → StillBy no_kinds h (end_idled at index is_idle h)
end_idled_bare at index is_idle h =
    still_given no_kinds h (slice_get h.instances at)
    (λ i. if is_some (any_end_in (entry_of i index)) then Gives (tt {0}) (with_instance at (instance.idled index is_idle i) h) else Stuck)
    (λ i is.
    still_if no_kinds h (is_some (any_end_in (entry_of i index))) (Gives (tt {0}) (with_instance at (instance.idled index is_idle i) h)) Stuck
    (still_bare h (with_instance at (instance.idled index is_idle i) h) refl refl) tt)

removed_of_still : (W : Kinds) → (o : Option WorldEntry) (at index : ℕ) (i : InstanceView) (h : Held) → slice_get h.instances at ≡ Some i → StillBy W h (removed_of o at index i h)
removed_of_still W None at index i h is = tt
removed_of_still W (Some e) at index i h is = still_table W h at i (instance.entry_removed index i) is (λ n d has. removed_stood i.slots index n d has)

pub entry_removed_still : (W : Kinds) → (at index : ℕ) (h : Held) → StillBy W h (entry_removed at index h)
entry_removed_still W at index h =
    still_given W h (slice_get h.instances at) (λ i. removed_of (entry_of i index) at index i h) (λ i is. removed_of_still W (entry_of i index) at index i h is)

dropped_of_still : (W : Kinds) → (r : Result Handle Refusal) (at index : ℕ) (i : InstanceView) (h : Held) → slice_get h.instances at ≡ Some i → StillBy W h (dropped_of r at index i h)
dropped_of_still W (Ok x) at index i h is = still_table W h at i (instance.entry_removed index i) is (λ n d has. removed_stood i.slots index n d has)
dropped_of_still W (Err why) at index i h is = (same_instance W h at i is).ends

pub handle_dropped_still : (W : Kinds) → (at index resource : ℕ) (h : Held) → StillBy W h (handle_dropped at index resource h)
handle_dropped_still W at index resource h =
    still_given W h (slice_get h.instances at) (λ i. dropped_of (dropped_in (view_of i index) resource) at index i h)
    (λ i is. dropped_of_still W (dropped_in (view_of i index) resource) at index i h is)

pub lend_ended_still : (W : Kinds) → (at index : ℕ) (h : Held) → StillBy W h (lend_ended at index h)
lend_ended_still W at index h =
    still_given W h (slice_get h.instances at) (λ i. if nat_lt 0 (lends_of i index) then Gives (tt {0}) (with_instance at (instance.given_back index i) h) else Stuck)
    (λ i is.
    still_if W h (nat_lt 0 (lends_of i index)) (Gives (tt {0}) (with_instance at (instance.given_back index i) h)) Stuck
    (still_table W h at i (instance.given_back index i) is (λ n d has. given_stood i.slots index (handles.view_at seen_as i.slots index) n d has)) tt)

-- Sets of an instance are others.
sets_still : (W : Kinds) → (h : Held) (at : ℕ) (i : InstanceView) (sets : List SetView) → slice_get h.instances at ≡ Some i → Still W h (with_instance at (with_sets sets i) h)
sets_still W h at i sets is = still_instance W h at i (with_sets sets i) is refl

pub set_made_still : (W : Kinds) → (at : ℕ) (h : Held) → StillBy W h (set_made at h)
set_made_still W at h =
    still_given W h (slice_get h.instances at) (λ i. Gives (length i.sets) (with_instance at (with_sets (i.sets ++ no_set ∷ []) i) h))
    (λ i is. sets_still W h at i (i.sets ++ no_set ∷ []) is)

pub set_joined_still : (W : Kinds) → (at waitable set : ℕ) (h : Held) → StillBy W h (set_joined at waitable set h)
set_joined_still W at waitable set h =
    still_given W h (slice_get h.instances at)
    (λ i. if nat_lt set (length i.sets) then Gives (tt {0}) (with_instance at (with_sets (joined waitable set i.sets) i) h) else Stuck)
    (λ i is.
    still_if W h (nat_lt set (length i.sets)) (Gives (tt {0}) (with_instance at (with_sets (joined waitable set i.sets) i) h)) Stuck
    (sets_still W h at i (joined waitable set i.sets) is) tt)

pub set_left_still : (W : Kinds) → (at waitable : ℕ) (h : Held) → StillBy W h (set_left at waitable h)
set_left_still W at waitable h =
    still_given W h (slice_get h.instances at) (λ i. Gives (tt {0}) (with_instance at (with_sets (left waitable i.sets) i) h))
    (λ i is. sets_still W h at i (left waitable i.sets) is)

set_gone_still : (W : Kinds) → (r : Result (Unit {0}) DropSetError) (at : ℕ) (i : InstanceView) (h : Held) → slice_get h.instances at ≡ Some i
    → StillBy W h (set_gone r (with_instance at i h))
set_gone_still W (Ok done) at i h is = same_instance W h at i is
set_gone_still W (Err drop_error.NoSet) at i h is = tt
set_gone_still W (Err (drop_error.Refused why)) at i h is = (same_instance W h at i is).ends

pub set_dropped_still : (W : Kinds) → (at set : ℕ) (h : Held) → StillBy W h (set_dropped at set h)
set_dropped_still W at set h =
    still_given W h (slice_get h.instances at) (λ i. set_gone (dropped_set set i.sets) (with_instance at i h))
    (λ i is. set_gone_still W (dropped_set set i.sets) at i h is)

pub set_waited_on_still : (W : Kinds) → (at set : ℕ) (h : Held) → StillBy W h (set_waited_on at set h)
set_waited_on_still W at set h =
    still_given W h (slice_get h.instances at)
    (λ i. if nat_lt set (length i.sets) then Gives (tt {0}) (with_instance at (with_sets (waited_on set i.sets) i) h) else Stuck)
    (λ i is.
    still_if W h (nat_lt set (length i.sets)) (Gives (tt {0}) (with_instance at (with_sets (waited_on set i.sets) i) h)) Stuck
    (sets_still W h at i (waited_on set i.sets) is) tt)

pub set_waited_off_still : (W : Kinds) → (at set : ℕ) (h : Held) → StillBy W h (set_waited_off at set h)
set_waited_off_still W at set h =
    still_given W h (slice_get h.instances at)
    (λ i. if is_there set i.sets && has_waiter set i.sets then Gives (tt {0}) (with_instance at (with_sets (waited_off set i.sets) i) h) else Stuck)
    (λ i is.
    still_if W h (is_there set i.sets && has_waiter set i.sets) (Gives (tt {0}) (with_instance at (with_sets (waited_off set i.sets) i) h)) Stuck
    (sets_still W h at i (waited_off set i.sets) is) tt)

pub entry_found_still : (W : Kinds) → (at : ℕ) (index : ℕ) (h : Held) → StillBy W h (entry_found at index h)
entry_found_still W at index h =
    still_given W h (slice_get h.instances at) (λ i. Gives (entry_of i index) h) (λ i is. still_same W h)

pub subtask_found_still : (W : Kinds) → (at : ℕ) (index : ℕ) (h : Held) → StillBy W h (subtask_found at index h)
subtask_found_still W at index h =
    still_given W h (slice_get h.instances at) (λ i. named (subtask_in (entry_of i index)) h) (λ i is. named_still W (subtask_in (entry_of i index)) h)

pub set_found_still : (W : Kinds) → (at : ℕ) (index : ℕ) (h : Held) → StillBy W h (set_found at index h)
set_found_still W at index h =
    still_given W h (slice_get h.instances at) (λ i. named (set_in (entry_of i index)) h) (λ i is. named_still W (set_in (entry_of i index)) h)

pub subtask_known_still : (W : Kinds) → (at : ℕ) (index : ℕ) (h : Held) → StillBy W h (subtask_known at index h)
subtask_known_still W at index h =
    still_given W h (slice_get h.instances at) (λ i. given (subtask_number (entry_of i index)) (λ callee. Gives callee h)) (λ i is. still_given W h (subtask_number (entry_of i index)) (λ callee. Gives callee h) (λ callee is. still_same W h))

pub set_known_still : (W : Kinds) → (at : ℕ) (index : ℕ) (h : Held) → StillBy W h (set_known at index h)
set_known_still W at index h =
    still_given W h (slice_get h.instances at) (λ i. given (set_number (entry_of i index)) (λ set. Gives set h)) (λ i is. still_given W h (set_number (entry_of i index)) (λ set. Gives set h) (λ set is. still_same W h))

pub waitable_found_still : (W : Kinds) → (at : ℕ) (index : ℕ) (h : Held) → StillBy W h (waitable_found at index h)
waitable_found_still W at index h =
    still_given W h (slice_get h.instances at) (λ i. named (waitable_in (entry_of i index)) h) (λ i is. named_still W (waitable_in (entry_of i index)) h)

pub end_found_still : (W : Kinds) → (at : ℕ) (side : Side) (wanted : ℕ) (index : ℕ) (h : Held) → StillBy W h (end_found at side wanted index h)
end_found_still W at side wanted index h =
    still_given W h (slice_get h.instances at) (λ i. named (end_in side wanted (entry_of i index)) h) (λ i is. named_still W (end_in side wanted (entry_of i index)) h)

pub rep_found_still : (W : Kinds) → (at : ℕ) (index : ℕ) (resource : ℕ) (h : Held) → StillBy W h (rep_found at index resource h)
rep_found_still W at index resource h =
    still_given W h (slice_get h.instances at) (λ i. named (rep_of (handle_in (view_of i index) resource)) h) (λ i is. named_still W (rep_of (handle_in (view_of i index) resource)) h)

pub sets_made_still : (W : Kinds) → (at : ℕ) (h : Held) → StillBy W h (sets_made at h)
sets_made_still W at h =
    still_given W h (slice_get h.instances at) (λ i. Gives (length i.sets) h) (λ i is. still_same W h)
