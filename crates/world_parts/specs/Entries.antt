-- What stands in the tables of component instances, and their sets (Component Model, CanonicalABI.md, "Table State", "Resource State" and "Waitable
-- Set State").
use Rattle.std.specs.Prelude.{ℕ, ◌+◌, nat_lt, Bool, ◌&&◌, is_some, if◌then◌else◌, List, [], ◌∷◌, ◌++◌, length, slice_set, Option, Some, None, Result, Ok, Err}
use Rattle.std.specs.List.{slice_get}
use Rattle.handle_table.specs.History.{most_live}
use Rattle.handle_table.specs.Slots.{count, next_of}
use Rattle.res_handles.specs.declared.handle.Handle.{Handle}
use Rattle.res_handles.specs.declared.refusal.Refusal.{Refusal}
use Rattle.res_handles.specs.Refusals.{handle_in, dropped_in, rep_of}
use Rattle.stream_ends.specs.declared.side.Side.{Side}
use Rattle.waitables.specs.Sets.{no_set, joined, left, waited_on, waited_off}
use Rattle.instances.specs.declared.entry.EndEntry.{EndEntry}
use Rattle.instances.specs.declared.entry.WorldEntry.{WorldEntry}
use Rattle.instances.specs.declared.entry.WorldEntry.TheVariants as entry
use Rattle.instances.specs.declared.refusal.DropSetError.{DropSetError}
use Rattle.instances.specs.declared.refusal.DropSetError.TheVariants as drop_error
use Rattle.instances.specs.Entries.{subtask_in, set_in, waitable_in, end_in, any_end_in}
use Rattle.instances.specs.Instances as instance
use Rattle.instances.specs.Instances.{InstanceView, entry_of, view_of, lends_of, with_sets}
use Rattle.instances.specs.Calls.{is_there, has_waiter, dropped_set}
use Rattle.trace_labels.specs.declared.trap.TrapName.TheVariants as trap
use Rattle.world_parts.specs.Names.{refusal_name, set_name}
use Rattle.world_parts.specs.Held.{Held, Done, Gives, Traps, Stuck, given}

-- an instance is changed
abbrev pub with_instance : ℕ → InstanceView → Held → Held
with_instance at i h = record h { instances = slice_set h.instances at i }

-- what is found at an index, or the trap
abbrev pub named : {A : Type 0} → Result A Refusal → Held → Done A
named (Ok x) h = Gives x h
named (Err why) h = Traps (refusal_name why) h

abbrev pub entry_found : ℕ → ℕ → Held → Done (Option WorldEntry)
entry_found at index h = given (slice_get h.instances at) (λ i. Gives (entry_of i index) h)

abbrev pub subtask_found : ℕ → ℕ → Held → Done ℕ
subtask_found at index h = given (slice_get h.instances at) (λ i. named (subtask_in (entry_of i index)) h)

abbrev pub set_found : ℕ → ℕ → Held → Done ℕ
set_found at index h = given (slice_get h.instances at) (λ i. named (set_in (entry_of i index)) h)

-- what is known to stand at an index: a subtask, a set
abbrev pub subtask_number : Option WorldEntry → Option ℕ
subtask_number None = None
subtask_number (Some (entry.Handle x)) = None
subtask_number (Some (entry.Subtask callee)) = Some callee
subtask_number (Some (entry.Set set)) = None
subtask_number (Some (entry.End e)) = None

abbrev pub set_number : Option WorldEntry → Option ℕ
set_number None = None
set_number (Some (entry.Handle x)) = None
set_number (Some (entry.Subtask callee)) = None
set_number (Some (entry.Set set)) = Some set
set_number (Some (entry.End e)) = None

abbrev pub subtask_known : ℕ → ℕ → Held → Done ℕ
subtask_known at index h =
    given (slice_get h.instances at) (λ i. given (subtask_number (entry_of i index)) (λ callee. Gives callee h))

abbrev pub set_known : ℕ → ℕ → Held → Done ℕ
set_known at index h = given (slice_get h.instances at) (λ i. given (set_number (entry_of i index)) (λ set. Gives set h))

abbrev pub waitable_found : ℕ → ℕ → Held → Done (Unit {0})
waitable_found at index h = given (slice_get h.instances at) (λ i. named (waitable_in (entry_of i index)) h)

abbrev pub end_found : ℕ → Side → ℕ → ℕ → Held → Done EndEntry
end_found at side wanted index h = given (slice_get h.instances at) (λ i. named (end_in side wanted (entry_of i index)) h)

abbrev pub rep_found : ℕ → ℕ → ℕ → Held → Done ℕ
rep_found at index resource h = given (slice_get h.instances at) (λ i. named (rep_of (handle_in (view_of i index) resource)) h)

-- An entry comes, or goes.
abbrev pub entry_added : ℕ → WorldEntry → Held → Done ℕ
entry_added at e h =
    given (slice_get h.instances at) (λ i.
    if nat_lt (count i.slots) most_live then Gives (next_of i.slots) (with_instance at (instance.entry_added e i) h)
    else Traps trap.TableFull (with_instance at i h))

abbrev pub removed_of : Option WorldEntry → ℕ → ℕ → InstanceView → Held → Done (Unit {0})
removed_of None at index i h = Stuck
removed_of (Some e) at index i h = Gives tt (with_instance at (instance.entry_removed index i) h)

abbrev pub entry_removed : ℕ → ℕ → Held → Done (Unit {0})
entry_removed at index h = given (slice_get h.instances at) (λ i. removed_of (entry_of i index) at index i h)

abbrev pub dropped_of : Result Handle Refusal → ℕ → ℕ → InstanceView → Held → Done Handle
dropped_of (Ok x) at index i h = Gives x (with_instance at (instance.entry_removed index i) h)
dropped_of (Err why) at index i h = Traps (refusal_name why) (with_instance at i h)

abbrev pub handle_dropped : ℕ → ℕ → ℕ → Held → Done Handle
handle_dropped at index resource h = given (slice_get h.instances at) (λ i. dropped_of (dropped_in (view_of i index) resource) at index i h)

-- The handle at an index is lent once less, and the end at one is idle or not.
abbrev pub lend_ended : ℕ → ℕ → Held → Done (Unit {0})
lend_ended at index h =
    given (slice_get h.instances at) (λ i. if nat_lt 0 (lends_of i index) then Gives tt (with_instance at (instance.given_back index i) h) else Stuck)

abbrev pub end_idled : ℕ → ℕ → Bool → Held → Done (Unit {0})
end_idled at index is_idle h =
    given (slice_get h.instances at) (λ i.
    if is_some (any_end_in (entry_of i index)) then Gives tt (with_instance at (instance.idled index is_idle i) h) else Stuck)

-- Sets: how many were made; one is made, a waitable joins one or is in none, and one goes.
abbrev pub sets_made : ℕ → Held → Done ℕ
sets_made at h = given (slice_get h.instances at) (λ i. Gives (length i.sets) h)

abbrev pub set_made : ℕ → Held → Done ℕ
set_made at h = given (slice_get h.instances at) (λ i. Gives (length i.sets) (with_instance at (with_sets (i.sets ++ no_set ∷ []) i) h))

abbrev pub set_joined : ℕ → ℕ → ℕ → Held → Done (Unit {0})
set_joined at waitable set h =
    given (slice_get h.instances at) (λ i.
    if nat_lt set (length i.sets) then Gives tt (with_instance at (with_sets (joined waitable set i.sets) i) h) else Stuck)

abbrev pub set_left : ℕ → ℕ → Held → Done (Unit {0})
set_left at waitable h = given (slice_get h.instances at) (λ i. Gives tt (with_instance at (with_sets (left waitable i.sets) i) h))

abbrev pub set_gone : Result (Unit {0}) DropSetError → Held → Done (Unit {0})
set_gone (Ok done) h = Gives tt h
set_gone (Err drop_error.NoSet) h = Stuck
set_gone (Err (drop_error.Refused why)) h = Traps (set_name why) h

abbrev pub set_dropped : ℕ → ℕ → Held → Done (Unit {0})
set_dropped at set h = given (slice_get h.instances at) (λ i. set_gone (dropped_set set i.sets) (with_instance at i h))

-- A task begins to wait on a set, and ceases to.
abbrev pub set_waited_on : ℕ → ℕ → Held → Done (Unit {0})
set_waited_on at set h =
    given (slice_get h.instances at) (λ i.
    if nat_lt set (length i.sets) then Gives tt (with_instance at (with_sets (waited_on set i.sets) i) h) else Stuck)

abbrev pub set_waited_off : ℕ → ℕ → Held → Done (Unit {0})
set_waited_off at set h =
    given (slice_get h.instances at) (λ i.
    if is_there set i.sets && has_waiter set i.sets then Gives tt (with_instance at (with_sets (waited_off set i.sets) i) h) else Stuck)
