-- Entries that come and go, and sets, leave the store alone, and no handle is lent more often.
use Rattle.std.proofs.Common.{◌≡◌, ◌≤◌, zero, refl, arith}
use Rattle.std.specs.Prelude.{ℕ, ◌+◌, nat_lt, Bool, ◌&&◌, is_some, if◌then◌else◌, List, [], ◌∷◌, ◌++◌, length, slice_set, Option, Some, None, Result, Ok, Err}
use Rattle.std.specs.List.{slice_get}
use Rattle.handle_table.specs.History.{most_live}
use Rattle.handle_table.specs.Slots.{count, next_of}
use Rattle.res_handles.specs.declared.handle.Handle.{Handle}
use Rattle.res_handles.specs.declared.refusal.Refusal.{Refusal}
use Rattle.res_handles.specs.Refusals.{handle_in, dropped_in, rep_of}
use Rattle.stream_ends.specs.declared.side.Side.{Side}
use Rattle.waitables.specs.Sets.{SetView, no_set, joined, left, waited_on, waited_off}
use Rattle.instances.specs.declared.entry.EndEntry.{EndEntry}
use Rattle.instances.specs.declared.entry.WorldEntry.{WorldEntry}
use Rattle.instances.specs.declared.entry.WorldEntry.TheVariants as entry
use Rattle.instances.specs.declared.refusal.DropSetError.{DropSetError}
use Rattle.instances.specs.declared.refusal.DropSetError.TheVariants as drop_error
use Rattle.instances.specs.Entries.{subtask_in, set_in, waitable_in, end_in, any_end_in}
use Rattle.instances.specs.Instances as instance
use Rattle.instances.specs.Instances.{InstanceView, entry_of, view_of, lends_of, with_sets}
use Rattle.instances.specs.Calls.{is_there, has_waiter, dropped_set}
use Rattle.trace_labels.specs.declared.trap.TrapName.TheVariants as trap
use Rattle.world_parts.specs.Names.{refusal_name, set_name}
use Rattle.world_parts.specs.Held.{Held, Done, Gives, Traps, Stuck, given}
use Rattle.handle_table.specs.Slots.{Slots}
use Rattle.res_handles.specs.Calls.{lends_in}
use Rattle.value_lift.specs.Tables.{MostLends}
use Rattle.instances.specs.Entries.{seen_as, with_idle}
use Rattle.world_parts.specs.Entries.{with_instance, subtask_number, set_number, entry_found, subtask_found, set_found, subtask_known, set_known, waitable_found, end_found, rep_found, sets_made, named, entry_added, removed_of, entry_removed, dropped_of, handle_dropped, lend_ended, end_idled, set_made, set_joined, set_left, set_gone, set_dropped, set_waited_on, set_waited_off}
use Rattle.value_parts.proofs.fit.Keeps.{Keeps, KeepsBy, keeps_all, keeps_same, keeps_given, keeps_if, keeps_instance}
use Rattle.value_parts.proofs.fit.Lends.{added_few, removed_few, changed_few, given_back_few, end_lends}

-- What is found, or a trap.
pub named_keeps : {A : Type 0} (r : Result A Refusal) (h : Held) → KeepsBy h (named r h)
named_keeps (Ok x) h = keeps_same h
named_keeps (Err why) h = tt

-- An instance is written back as it was.
same_instance : (h : Held) (at : ℕ) (i : InstanceView) → slice_get h.instances at ≡ Some i → Keeps h (with_instance at i h)
same_instance h at i found = keeps_instance h at i i found (λ most few. few)

pub entry_added_keeps : (at : ℕ) (e : WorldEntry) (h : Held) → lends_in (Some (seen_as e)) ≡ 0 → KeepsBy h (entry_added at e h)
entry_added_keeps at e h none =
    keeps_given h (slice_get h.instances at)
    (λ i. if nat_lt (count i.slots) most_live then Gives (next_of i.slots) (with_instance at (instance.entry_added e i) h) else Traps trap.TableFull (with_instance at i h))
    (λ i is.
    keeps_if h (nat_lt (count i.slots) most_live) (Gives (next_of i.slots) (with_instance at (instance.entry_added e i) h)) (Traps trap.TableFull (with_instance at i h))
    (keeps_instance h at i (instance.entry_added e i) is (λ most few. added_few i.slots e most none few)) tt)

removed_of_keeps : (o : Option WorldEntry) (at index : ℕ) (i : InstanceView) (h : Held) → slice_get h.instances at ≡ Some i → KeepsBy h (removed_of o at index i h)
removed_of_keeps None at index i h is = tt
removed_of_keeps (Some e) at index i h is = keeps_instance h at i (instance.entry_removed index i) is (λ most few. removed_few i.slots index most few)

pub entry_removed_keeps : (at index : ℕ) (h : Held) → KeepsBy h (entry_removed at index h)
entry_removed_keeps at index h =
    keeps_given h (slice_get h.instances at) (λ i. removed_of (entry_of i index) at index i h) (λ i is. removed_of_keeps (entry_of i index) at index i h is)

dropped_of_keeps : (r : Result Handle Refusal) (at index : ℕ) (i : InstanceView) (h : Held) → slice_get h.instances at ≡ Some i → KeepsBy h (dropped_of r at index i h)
dropped_of_keeps (Ok x) at index i h is = keeps_instance h at i (instance.entry_removed index i) is (λ most few. removed_few i.slots index most few)
dropped_of_keeps (Err why) at index i h is = tt

pub handle_dropped_keeps : (at index resource : ℕ) (h : Held) → KeepsBy h (handle_dropped at index resource h)
handle_dropped_keeps at index resource h =
    keeps_given h (slice_get h.instances at) (λ i. dropped_of (dropped_in (view_of i index) resource) at index i h)
    (λ i is. dropped_of_keeps (dropped_in (view_of i index) resource) at index i h is)

pub lend_ended_keeps : (at index : ℕ) (h : Held) → KeepsBy h (lend_ended at index h)
lend_ended_keeps at index h =
    keeps_given h (slice_get h.instances at) (λ i. if nat_lt 0 (lends_of i index) then Gives (tt {0}) (with_instance at (instance.given_back index i) h) else Stuck)
    (λ i is.
    keeps_if h (nat_lt 0 (lends_of i index)) (Gives (tt {0}) (with_instance at (instance.given_back index i) h)) Stuck
    (keeps_instance h at i (instance.given_back index i) is (λ most few. given_back_few i.slots index most few)) tt)

idled_few : (i : InstanceView) (index : ℕ) (is_idle : Bool) (o : Option EndEntry) (most : ℕ) → MostLends seen_as most i.slots
    → MostLends seen_as most (instance.end_idled index is_idle o i).slots
idled_few i index is_idle None most few = few
idled_few i index is_idle (Some e) most few =
    changed_few i.slots index (entry.End (with_idle is_idle e)) most
    (let none : lends_in (Some (seen_as (entry.End (with_idle is_idle e)))) ≡ 0 = end_lends e.side (with_idle is_idle e) in omega (arith, none)) few

pub end_idled_keeps : (at index : ℕ) (is_idle : Bool) (h : Held) → KeepsBy h (end_idled at index is_idle h)
end_idled_keeps at index is_idle h =
    keeps_given h (slice_get h.instances at)
    (λ i. if is_some (any_end_in (entry_of i index)) then Gives (tt {0}) (with_instance at (instance.idled index is_idle i) h) else Stuck)
    (λ i is.
    keeps_if h (is_some (any_end_in (entry_of i index))) (Gives (tt {0}) (with_instance at (instance.idled index is_idle i) h)) Stuck
    (keeps_instance h at i (instance.idled index is_idle i) is (λ most few. idled_few i index is_idle (any_end_in (entry_of i index)) most few)) tt)

-- Sets of an instance are others.
sets_keep : (h : Held) (at : ℕ) (i : InstanceView) (sets : List SetView) → slice_get h.instances at ≡ Some i → Keeps h (with_instance at (with_sets sets i) h)
sets_keep h at i sets is = keeps_instance h at i (with_sets sets i) is (λ most few. few)

pub set_made_keeps : (at : ℕ) (h : Held) → KeepsBy h (set_made at h)
set_made_keeps at h =
    keeps_given h (slice_get h.instances at) (λ i. Gives (length i.sets) (with_instance at (with_sets (i.sets ++ no_set ∷ []) i) h))
    (λ i is. sets_keep h at i (i.sets ++ no_set ∷ []) is)

pub set_joined_keeps : (at waitable set : ℕ) (h : Held) → KeepsBy h (set_joined at waitable set h)
set_joined_keeps at waitable set h =
    keeps_given h (slice_get h.instances at)
    (λ i. if nat_lt set (length i.sets) then Gives (tt {0}) (with_instance at (with_sets (joined waitable set i.sets) i) h) else Stuck)
    (λ i is.
    keeps_if h (nat_lt set (length i.sets)) (Gives (tt {0}) (with_instance at (with_sets (joined waitable set i.sets) i) h)) Stuck
    (sets_keep h at i (joined waitable set i.sets) is) tt)

pub set_left_keeps : (at waitable : ℕ) (h : Held) → KeepsBy h (set_left at waitable h)
set_left_keeps at waitable h =
    keeps_given h (slice_get h.instances at) (λ i. Gives (tt {0}) (with_instance at (with_sets (left waitable i.sets) i) h))
    (λ i is. sets_keep h at i (left waitable i.sets) is)

set_gone_keeps : (r : Result (Unit {0}) DropSetError) (at : ℕ) (i : InstanceView) (h : Held) → slice_get h.instances at ≡ Some i
    → KeepsBy h (set_gone r (with_instance at i h))
set_gone_keeps (Ok done) at i h is = same_instance h at i is
set_gone_keeps (Err drop_error.NoSet) at i h is = tt
set_gone_keeps (Err (drop_error.Refused why)) at i h is = tt

pub set_dropped_keeps : (at set : ℕ) (h : Held) → KeepsBy h (set_dropped at set h)
set_dropped_keeps at set h =
    keeps_given h (slice_get h.instances at) (λ i. set_gone (dropped_set set i.sets) (with_instance at i h))
    (λ i is. set_gone_keeps (dropped_set set i.sets) at i h is)

pub set_waited_on_keeps : (at set : ℕ) (h : Held) → KeepsBy h (set_waited_on at set h)
set_waited_on_keeps at set h =
    keeps_given h (slice_get h.instances at)
    (λ i. if nat_lt set (length i.sets) then Gives (tt {0}) (with_instance at (with_sets (waited_on set i.sets) i) h) else Stuck)
    (λ i is.
    keeps_if h (nat_lt set (length i.sets)) (Gives (tt {0}) (with_instance at (with_sets (waited_on set i.sets) i) h)) Stuck
    (sets_keep h at i (waited_on set i.sets) is) tt)

pub set_waited_off_keeps : (at set : ℕ) (h : Held) → KeepsBy h (set_waited_off at set h)
set_waited_off_keeps at set h =
    keeps_given h (slice_get h.instances at)
    (λ i. if is_there set i.sets && has_waiter set i.sets then Gives (tt {0}) (with_instance at (with_sets (waited_off set i.sets) i) h) else Stuck)
    (λ i is.
    keeps_if h (is_there set i.sets && has_waiter set i.sets) (Gives (tt {0}) (with_instance at (with_sets (waited_off set i.sets) i) h)) Stuck
    (sets_keep h at i (waited_off set i.sets) is) tt)

-- GENERATED
pub entry_found_keeps : (at : ℕ) (index : ℕ) (h : Held) → KeepsBy h (entry_found at index h)
entry_found_keeps at index h =
    keeps_given h (slice_get h.instances at) (λ i. Gives (entry_of i index) h) (λ i is. keeps_same h)

pub subtask_found_keeps : (at : ℕ) (index : ℕ) (h : Held) → KeepsBy h (subtask_found at index h)
subtask_found_keeps at index h =
    keeps_given h (slice_get h.instances at) (λ i. named (subtask_in (entry_of i index)) h) (λ i is. named_keeps (subtask_in (entry_of i index)) h)

pub set_found_keeps : (at : ℕ) (index : ℕ) (h : Held) → KeepsBy h (set_found at index h)
set_found_keeps at index h =
    keeps_given h (slice_get h.instances at) (λ i. named (set_in (entry_of i index)) h) (λ i is. named_keeps (set_in (entry_of i index)) h)

pub subtask_known_keeps : (at : ℕ) (index : ℕ) (h : Held) → KeepsBy h (subtask_known at index h)
subtask_known_keeps at index h =
    keeps_given h (slice_get h.instances at) (λ i. given (subtask_number (entry_of i index)) (λ callee. Gives callee h)) (λ i is. keeps_given h (subtask_number (entry_of i index)) (λ callee. Gives callee h) (λ callee is. keeps_same h))

pub set_known_keeps : (at : ℕ) (index : ℕ) (h : Held) → KeepsBy h (set_known at index h)
set_known_keeps at index h =
    keeps_given h (slice_get h.instances at) (λ i. given (set_number (entry_of i index)) (λ set. Gives set h)) (λ i is. keeps_given h (set_number (entry_of i index)) (λ set. Gives set h) (λ set is. keeps_same h))

pub waitable_found_keeps : (at : ℕ) (index : ℕ) (h : Held) → KeepsBy h (waitable_found at index h)
waitable_found_keeps at index h =
    keeps_given h (slice_get h.instances at) (λ i. named (waitable_in (entry_of i index)) h) (λ i is. named_keeps (waitable_in (entry_of i index)) h)

pub end_found_keeps : (at : ℕ) (side : Side) (wanted : ℕ) (index : ℕ) (h : Held) → KeepsBy h (end_found at side wanted index h)
end_found_keeps at side wanted index h =
    keeps_given h (slice_get h.instances at) (λ i. named (end_in side wanted (entry_of i index)) h) (λ i is. named_keeps (end_in side wanted (entry_of i index)) h)

pub rep_found_keeps : (at : ℕ) (index : ℕ) (resource : ℕ) (h : Held) → KeepsBy h (rep_found at index resource h)
rep_found_keeps at index resource h =
    keeps_given h (slice_get h.instances at) (λ i. named (rep_of (handle_in (view_of i index) resource)) h) (λ i is. named_keeps (rep_of (handle_in (view_of i index) resource)) h)

pub sets_made_keeps : (at : ℕ) (h : Held) → KeepsBy h (sets_made at h)
sets_made_keeps at h =
    keeps_given h (slice_get h.instances at) (λ i. Gives (length i.sets) h) (λ i is. keeps_same h)
