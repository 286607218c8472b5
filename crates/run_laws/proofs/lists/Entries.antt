-- Tables and sets: lists of tasks stay as they follow from the tasks.
use Rattle.std.proofs.Common.{◌≡◌}
use Rattle.std.specs.Prelude.{ℕ, nat_lt, Bool, ◌&&◌, is_some, if◌then◌else◌, List, [], ◌∷◌, ◌++◌, length, Option, Some, None, Result, Ok, Err}
use Rattle.std.specs.List.{slice_get}
use Rattle.handle_table.specs.History.{most_live}
use Rattle.handle_table.specs.Slots.{count, next_of}
use Rattle.res_handles.specs.declared.handle.Handle.{Handle}
use Rattle.res_handles.specs.declared.refusal.Refusal.{Refusal}
use Rattle.res_handles.specs.Refusals.{handle_in, dropped_in, rep_of}
use Rattle.stream_ends.specs.declared.side.Side.{Side}
use Rattle.waitables.specs.Sets.{SetView, no_set, joined, left, waited_on, waited_off}
use Rattle.instances.specs.declared.entry.WorldEntry.{WorldEntry}
use Rattle.instances.specs.declared.refusal.DropSetError.{DropSetError}
use Rattle.instances.specs.declared.refusal.DropSetError.TheVariants as drop_error
use Rattle.instances.specs.Entries.{subtask_in, set_in, waitable_in, end_in, any_end_in}
use Rattle.instances.specs.Instances as instance
use Rattle.instances.specs.Instances.{InstanceView, entry_of, view_of, lends_of, with_sets}
use Rattle.instances.specs.Calls.{is_there, has_waiter, dropped_set}
use Rattle.trace_labels.specs.declared.trap.TrapName.TheVariants as trap
use Rattle.world_parts.specs.Held.{Held, Gives, Traps, Stuck, given}
use Rattle.world_parts.specs.Entries.{with_instance, subtask_number, set_number, entry_found, subtask_found, set_found, subtask_known, set_known, waitable_found, end_found, rep_found, sets_made, named, entry_added, removed_of, entry_removed, dropped_of, handle_dropped, lend_ended, end_idled, set_made, set_joined, set_left, set_gone, set_dropped, set_waited_on, set_waited_off}
use Rattle.run_laws.proofs.lists.Same.{Same, ListsBy, lists_given, lists_if, lists_same, lists_instance}

-- What is found, or a trap.
pub named_lists : {A : Type 0} (r : Result A Refusal) (h : Held) → ListsBy h (named r h)
named_lists (Ok x) h = lists_same h
named_lists (Err why) h = tt

-- An instance is written back as it was.
same_instance : (h : Held) (at : ℕ) (i : InstanceView) → slice_get h.instances at ≡ Some i → Same h (with_instance at i h)
same_instance h at i found = lists_instance h at i

pub entry_added_lists : (at : ℕ) (e : WorldEntry) (h : Held) → ListsBy h (entry_added at e h)
entry_added_lists at e h =
    lists_given h (slice_get h.instances at)
    (λ i. if nat_lt (count i.slots) most_live then Gives (next_of i.slots) (with_instance at (instance.entry_added e i) h) else Traps trap.TableFull (with_instance at i h))
    (λ i is.
    lists_if h (nat_lt (count i.slots) most_live) (Gives (next_of i.slots) (with_instance at (instance.entry_added e i) h)) (Traps trap.TableFull (with_instance at i h))
    (lists_instance h at (instance.entry_added e i)) tt)

removed_of_lists : (o : Option WorldEntry) (at index : ℕ) (i : InstanceView) (h : Held) → slice_get h.instances at ≡ Some i → ListsBy h (removed_of o at index i h)
removed_of_lists None at index i h is = tt
removed_of_lists (Some e) at index i h is = lists_instance h at (instance.entry_removed index i)

pub entry_removed_lists : (at index : ℕ) (h : Held) → ListsBy h (entry_removed at index h)
entry_removed_lists at index h =
    lists_given h (slice_get h.instances at) (λ i. removed_of (entry_of i index) at index i h) (λ i is. removed_of_lists (entry_of i index) at index i h is)

dropped_of_lists : (r : Result Handle Refusal) (at index : ℕ) (i : InstanceView) (h : Held) → slice_get h.instances at ≡ Some i → ListsBy h (dropped_of r at index i h)
dropped_of_lists (Ok x) at index i h is = lists_instance h at (instance.entry_removed index i)
dropped_of_lists (Err why) at index i h is = tt

pub handle_dropped_lists : (at index resource : ℕ) (h : Held) → ListsBy h (handle_dropped at index resource h)
handle_dropped_lists at index resource h =
    lists_given h (slice_get h.instances at) (λ i. dropped_of (dropped_in (view_of i index) resource) at index i h)
    (λ i is. dropped_of_lists (dropped_in (view_of i index) resource) at index i h is)

pub lend_ended_lists : (at index : ℕ) (h : Held) → ListsBy h (lend_ended at index h)
lend_ended_lists at index h =
    lists_given h (slice_get h.instances at) (λ i. if nat_lt 0 (lends_of i index) then Gives (tt {0}) (with_instance at (instance.given_back index i) h) else Stuck)
    (λ i is.
    lists_if h (nat_lt 0 (lends_of i index)) (Gives (tt {0}) (with_instance at (instance.given_back index i) h)) Stuck
    (lists_instance h at (instance.given_back index i)) tt)

pub end_idled_lists : (at index : ℕ) (is_idle : Bool) (h : Held) → ListsBy h (end_idled at index is_idle h)
end_idled_lists at index is_idle h =
    lists_given h (slice_get h.instances at)
    (λ i. if is_some (any_end_in (entry_of i index)) then Gives (tt {0}) (with_instance at (instance.idled index is_idle i) h) else Stuck)
    (λ i is.
    lists_if h (is_some (any_end_in (entry_of i index))) (Gives (tt {0}) (with_instance at (instance.idled index is_idle i) h)) Stuck
    (lists_instance h at (instance.idled index is_idle i)) tt)

-- Sets of an instance are others.
sets_stay : (h : Held) (at : ℕ) (i : InstanceView) (sets : List SetView) → slice_get h.instances at ≡ Some i → Same h (with_instance at (with_sets sets i) h)
sets_stay h at i sets is = lists_instance h at (with_sets sets i)

pub set_made_lists : (at : ℕ) (h : Held) → ListsBy h (set_made at h)
set_made_lists at h =
    lists_given h (slice_get h.instances at) (λ i. Gives (length i.sets) (with_instance at (with_sets (i.sets ++ no_set ∷ []) i) h))
    (λ i is. sets_stay h at i (i.sets ++ no_set ∷ []) is)

pub set_joined_lists : (at waitable set : ℕ) (h : Held) → ListsBy h (set_joined at waitable set h)
set_joined_lists at waitable set h =
    lists_given h (slice_get h.instances at)
    (λ i. if nat_lt set (length i.sets) then Gives (tt {0}) (with_instance at (with_sets (joined waitable set i.sets) i) h) else Stuck)
    (λ i is.
    lists_if h (nat_lt set (length i.sets)) (Gives (tt {0}) (with_instance at (with_sets (joined waitable set i.sets) i) h)) Stuck
    (sets_stay h at i (joined waitable set i.sets) is) tt)

pub set_left_lists : (at waitable : ℕ) (h : Held) → ListsBy h (set_left at waitable h)
set_left_lists at waitable h =
    lists_given h (slice_get h.instances at) (λ i. Gives (tt {0}) (with_instance at (with_sets (left waitable i.sets) i) h))
    (λ i is. sets_stay h at i (left waitable i.sets) is)

set_gone_lists : (r : Result (Unit {0}) DropSetError) (at : ℕ) (i : InstanceView) (h : Held) → slice_get h.instances at ≡ Some i
    → ListsBy h (set_gone r (with_instance at i h))
set_gone_lists (Ok done) at i h is = same_instance h at i is
set_gone_lists (Err drop_error.NoSet) at i h is = tt
set_gone_lists (Err (drop_error.Refused why)) at i h is = tt

pub set_dropped_lists : (at set : ℕ) (h : Held) → ListsBy h (set_dropped at set h)
set_dropped_lists at set h =
    lists_given h (slice_get h.instances at) (λ i. set_gone (dropped_set set i.sets) (with_instance at i h))
    (λ i is. set_gone_lists (dropped_set set i.sets) at i h is)

pub set_waited_on_lists : (at set : ℕ) (h : Held) → ListsBy h (set_waited_on at set h)
set_waited_on_lists at set h =
    lists_given h (slice_get h.instances at)
    (λ i. if nat_lt set (length i.sets) then Gives (tt {0}) (with_instance at (with_sets (waited_on set i.sets) i) h) else Stuck)
    (λ i is.
    lists_if h (nat_lt set (length i.sets)) (Gives (tt {0}) (with_instance at (with_sets (waited_on set i.sets) i) h)) Stuck
    (sets_stay h at i (waited_on set i.sets) is) tt)

pub set_waited_off_lists : (at set : ℕ) (h : Held) → ListsBy h (set_waited_off at set h)
set_waited_off_lists at set h =
    lists_given h (slice_get h.instances at)
    (λ i. if is_there set i.sets && has_waiter set i.sets then Gives (tt {0}) (with_instance at (with_sets (waited_off set i.sets) i) h) else Stuck)
    (λ i is.
    lists_if h (is_there set i.sets && has_waiter set i.sets) (Gives (tt {0}) (with_instance at (with_sets (waited_off set i.sets) i) h)) Stuck
    (sets_stay h at i (waited_off set i.sets) is) tt)

-- GENERATED
pub entry_found_lists : (at : ℕ) (index : ℕ) (h : Held) → ListsBy h (entry_found at index h)
entry_found_lists at index h =
    lists_given h (slice_get h.instances at) (λ i. Gives (entry_of i index) h) (λ i is. lists_same h)

pub subtask_found_lists : (at : ℕ) (index : ℕ) (h : Held) → ListsBy h (subtask_found at index h)
subtask_found_lists at index h =
    lists_given h (slice_get h.instances at) (λ i. named (subtask_in (entry_of i index)) h) (λ i is. named_lists (subtask_in (entry_of i index)) h)

pub set_found_lists : (at : ℕ) (index : ℕ) (h : Held) → ListsBy h (set_found at index h)
set_found_lists at index h =
    lists_given h (slice_get h.instances at) (λ i. named (set_in (entry_of i index)) h) (λ i is. named_lists (set_in (entry_of i index)) h)

pub subtask_known_lists : (at : ℕ) (index : ℕ) (h : Held) → ListsBy h (subtask_known at index h)
subtask_known_lists at index h =
    lists_given h (slice_get h.instances at) (λ i. given (subtask_number (entry_of i index)) (λ callee. Gives callee h)) (λ i is. lists_given h (subtask_number (entry_of i index)) (λ callee. Gives callee h) (λ callee is. lists_same h))

pub set_known_lists : (at : ℕ) (index : ℕ) (h : Held) → ListsBy h (set_known at index h)
set_known_lists at index h =
    lists_given h (slice_get h.instances at) (λ i. given (set_number (entry_of i index)) (λ set. Gives set h)) (λ i is. lists_given h (set_number (entry_of i index)) (λ set. Gives set h) (λ set is. lists_same h))

pub waitable_found_lists : (at : ℕ) (index : ℕ) (h : Held) → ListsBy h (waitable_found at index h)
waitable_found_lists at index h =
    lists_given h (slice_get h.instances at) (λ i. named (waitable_in (entry_of i index)) h) (λ i is. named_lists (waitable_in (entry_of i index)) h)

pub end_found_lists : (at : ℕ) (side : Side) (wanted : ℕ) (index : ℕ) (h : Held) → ListsBy h (end_found at side wanted index h)
end_found_lists at side wanted index h =
    lists_given h (slice_get h.instances at) (λ i. named (end_in side wanted (entry_of i index)) h) (λ i is. named_lists (end_in side wanted (entry_of i index)) h)

pub rep_found_lists : (at : ℕ) (index : ℕ) (resource : ℕ) (h : Held) → ListsBy h (rep_found at index resource h)
rep_found_lists at index resource h =
    lists_given h (slice_get h.instances at) (λ i. named (rep_of (handle_in (view_of i index) resource)) h) (λ i is. named_lists (rep_of (handle_in (view_of i index) resource)) h)

pub sets_made_lists : (at : ℕ) (h : Held) → ListsBy h (sets_made at h)
sets_made_lists at h =
    lists_given h (slice_get h.instances at) (λ i. Gives (length i.sets) h) (λ i is. lists_same h)
