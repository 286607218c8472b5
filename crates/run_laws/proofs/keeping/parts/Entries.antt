-- Entries that come and go, and sets, leave marks of handles and subtasks as they follow from tables and tasks.
use Rattle.std.proofs.Common.{◌≡◌, false, refl}
use Rattle.std.specs.Prelude.{ℕ, nat_lt, Bool, ◌&&◌, is_some, if◌then◌else◌, List, [], ◌∷◌, ◌++◌, length, Option, Some, None, Result, Ok, Err}
use Rattle.std.specs.List.{slice_get}
use Rattle.handle_table.specs.History.{most_live}
use Rattle.handle_table.specs.Slots.{count, next_of}
use Rattle.res_handles.specs.declared.refusal.Refusal.{Refusal}
use Rattle.res_handles.specs.Calls.{own_handle}
use Rattle.res_handles.specs.Refusals.{handle_in, rep_of}
use Rattle.stream_ends.specs.declared.side.Side.{Side}
use Rattle.waitables.specs.Sets.{SetView, no_set, joined, left, waited_on, waited_off}
use Rattle.instances.specs.declared.entry.WorldEntry.{WorldEntry}
use Rattle.instances.specs.declared.entry.WorldEntry.TheVariants as entry
use Rattle.instances.specs.declared.refusal.DropSetError.{DropSetError}
use Rattle.instances.specs.declared.refusal.DropSetError.TheVariants as drop_error
use Rattle.instances.specs.Entries.{subtask_in, set_in, waitable_in, end_in, any_end_in}
use Rattle.instances.specs.Instances as instance
use Rattle.instances.specs.Instances.{InstanceView, entry_of, view_of, with_sets}
use Rattle.instances.specs.Calls.{dropped_set, is_there, has_waiter}
use Rattle.trace_labels.specs.declared.trap.TrapName.TheVariants as trap
use Rattle.world_parts.specs.Held.{Held, Gives, Traps, Stuck, given}
use Rattle.world_parts.specs.Entries.{with_instance, subtask_number, set_number, entry_found, subtask_found, set_found, subtask_known, set_known, waitable_found, end_found, rep_found, sets_made, named, entry_added, removed_of, entry_removed, end_idled, set_made, set_joined, set_left, set_waited_on, set_waited_off, set_gone, set_dropped}
use Rattle.run_laws.proofs.keeping.Others.{Keeps, KeptBy, traps_same, traps_put}
use Rattle.standing.specs.KeptMarks.{is_borrow_of}
use Rattle.run_laws.specs.keeping.Kept.{TableIsSound, NextIsUnlent, NoneWaitsNext, IsNotAwaited}
use Rattle.run_laws.proofs.keeping.Changes.{instance_keeps, same_keeps}
use Rattle.run_laws.proofs.keeping.Tables.{IsOther, other_added, own_added, subtask_added, entry_gone, idled_alike}
use Rattle.run_laws.proofs.keeping.Others.{keeps_given, keeps_if, keeps_same}

-- What is found, or a trap.
pub named_keeps : {A : Type 0} (r : Result A Refusal) (h : Held) → KeptBy h (named r h)
named_keeps (Ok x) h = keeps_same h
named_keeps (Err why) h = traps_same h

-- A set or an end comes, where the table is sound.
pub other_added_keeps : (at : ℕ) (e : WorldEntry) (h : Held) → IsOther e → TableIsSound h at → KeptBy h (entry_added at e h)
other_added_keeps at e h q sound =
    keeps_given h (slice_get h.instances at)
    (λ i. if nat_lt (count i.slots) most_live then Gives (next_of i.slots) (with_instance at (instance.entry_added e i) h) else Traps trap.TableFull (with_instance at i h))
    (λ i is.
    keeps_if h (nat_lt (count i.slots) most_live) (Gives (next_of i.slots) (with_instance at (instance.entry_added e i) h)) (Traps trap.TableFull (with_instance at i h))
    (other_added h at i e is q (sound i is)) (traps_put h at i is))

-- An own handle does, of which nothing is lent, where nothing is lent at the next index.
pub handle_added_keeps : (at resource rep : ℕ) (h : Held) → TableIsSound h at → NextIsUnlent h at → KeptBy h (entry_added at (entry.Handle (own_handle resource rep)) h)
handle_added_keeps at resource rep h sound unlent =
    keeps_given h (slice_get h.instances at)
    (λ i.
    if nat_lt (count i.slots) most_live then Gives (next_of i.slots) (with_instance at (instance.entry_added (entry.Handle (own_handle resource rep)) i) h)
    else Traps trap.TableFull (with_instance at i h))
    (λ i is.
    keeps_if h (nat_lt (count i.slots) most_live) (Gives (next_of i.slots) (with_instance at (instance.entry_added (entry.Handle (own_handle resource rep)) i) h))
    (Traps trap.TableFull (with_instance at i h)) (own_added h at i (own_handle resource rep) is refl refl (sound i is) (unlent i is)) (traps_put h at i is))

-- A subtask does, for which no task waits.
pub subtask_added_keeps : (at callee : ℕ) (h : Held) → TableIsSound h at → NoneWaitsNext h at → IsNotAwaited h callee → KeptBy h (entry_added at (entry.Subtask callee) h)
subtask_added_keeps at callee h sound alone new =
    keeps_given h (slice_get h.instances at)
    (λ i.
    if nat_lt (count i.slots) most_live then Gives (next_of i.slots) (with_instance at (instance.entry_added (entry.Subtask callee) i) h)
    else Traps trap.TableFull (with_instance at i h))
    (λ i is.
    keeps_if h (nat_lt (count i.slots) most_live) (Gives (next_of i.slots) (with_instance at (instance.entry_added (entry.Subtask callee) i) h))
    (Traps trap.TableFull (with_instance at i h)) (subtask_added h at callee i is (sound i is) (alone i is) (λ slot called found guest. new slot called found guest)) (traps_put h at i is))

-- What stands at an index is no borrow handle.
abbrev pub NotBorrow : Held → ℕ → ℕ → Type 0
NotBorrow h at index = (i : InstanceView) → slice_get h.instances at ≡ Some i → (t : ℕ) → is_borrow_of t (entry_of i index) ≡ false

removed_of_keeps : (o : Option WorldEntry) (at index : ℕ) (i : InstanceView) (h : Held) → slice_get h.instances at ≡ Some i → ((t : ℕ) → is_borrow_of t (entry_of i index) ≡ false)
    → KeptBy h (removed_of o at index i h)
removed_of_keeps None at index i h is none = tt
removed_of_keeps (Some e) at index i h is none = entry_gone h at index i is none

pub entry_removed_keeps : (at index : ℕ) (h : Held) → NotBorrow h at index → KeptBy h (entry_removed at index h)
entry_removed_keeps at index h none =
    keeps_given h (slice_get h.instances at) (λ i. removed_of (entry_of i index) at index i h) (λ i is. removed_of_keeps (entry_of i index) at index i h is (none i is))

pub end_idled_keeps : (at index : ℕ) (is_idle : Bool) (h : Held) → KeptBy h (end_idled at index is_idle h)
end_idled_keeps at index is_idle h =
    keeps_given h (slice_get h.instances at)
    (λ i. if is_some (any_end_in (entry_of i index)) then Gives (tt {0}) (with_instance at (instance.idled index is_idle i) h) else Stuck)
    (λ i is.
    keeps_if h (is_some (any_end_in (entry_of i index))) (Gives (tt {0}) (with_instance at (instance.idled index is_idle i) h)) Stuck
    (instance_keeps h at i (instance.idled index is_idle i) is (idled_alike index is_idle (any_end_in (entry_of i index)) i refl)) tt)

-- Sets of an instance are others.
sets_keep : (h : Held) (at : ℕ) (i : InstanceView) (sets : List SetView) → slice_get h.instances at ≡ Some i → Keeps h (with_instance at (with_sets sets i) h)
sets_keep h at i sets is = same_keeps h at i (with_sets sets i) is refl

pub set_made_keeps : (at : ℕ) (h : Held) → KeptBy h (set_made at h)
set_made_keeps at h =
    keeps_given h (slice_get h.instances at) (λ i. Gives (length i.sets) (with_instance at (with_sets (i.sets ++ no_set ∷ []) i) h)) (λ i is. sets_keep h at i (i.sets ++ no_set ∷ []) is)

pub set_joined_keeps : (at waitable set : ℕ) (h : Held) → KeptBy h (set_joined at waitable set h)
set_joined_keeps at waitable set h =
    keeps_given h (slice_get h.instances at)
    (λ i. if nat_lt set (length i.sets) then Gives (tt {0}) (with_instance at (with_sets (joined waitable set i.sets) i) h) else Stuck)
    (λ i is.
    keeps_if h (nat_lt set (length i.sets)) (Gives (tt {0}) (with_instance at (with_sets (joined waitable set i.sets) i) h)) Stuck
    (sets_keep h at i (joined waitable set i.sets) is) tt)

pub set_left_keeps : (at waitable : ℕ) (h : Held) → KeptBy h (set_left at waitable h)
set_left_keeps at waitable h =
    keeps_given h (slice_get h.instances at) (λ i. Gives (tt {0}) (with_instance at (with_sets (left waitable i.sets) i) h)) (λ i is. sets_keep h at i (left waitable i.sets) is)

pub set_waited_on_keeps : (at set : ℕ) (h : Held) → KeptBy h (set_waited_on at set h)
set_waited_on_keeps at set h =
    keeps_given h (slice_get h.instances at)
    (λ i. if nat_lt set (length i.sets) then Gives (tt {0}) (with_instance at (with_sets (waited_on set i.sets) i) h) else Stuck)
    (λ i is.
    keeps_if h (nat_lt set (length i.sets)) (Gives (tt {0}) (with_instance at (with_sets (waited_on set i.sets) i) h)) Stuck (sets_keep h at i (waited_on set i.sets) is) tt)

pub set_waited_off_keeps : (at set : ℕ) (h : Held) → KeptBy h (set_waited_off at set h)
set_waited_off_keeps at set h =
    keeps_given h (slice_get h.instances at)
    (λ i. if is_there set i.sets && has_waiter set i.sets then Gives (tt {0}) (with_instance at (with_sets (waited_off set i.sets) i) h) else Stuck)
    (λ i is.
    keeps_if h (is_there set i.sets && has_waiter set i.sets) (Gives (tt {0}) (with_instance at (with_sets (waited_off set i.sets) i) h)) Stuck
    (sets_keep h at i (waited_off set i.sets) is) tt)

set_gone_keeps : (r : Result (Unit {0}) DropSetError) (at : ℕ) (i : InstanceView) (h : Held) → slice_get h.instances at ≡ Some i
    → KeptBy h (set_gone r (with_instance at i h))
set_gone_keeps (Ok done) at i h is = same_keeps h at i i is refl
set_gone_keeps (Err drop_error.NoSet) at i h is = tt
set_gone_keeps (Err (drop_error.Refused why)) at i h is = traps_put h at i is

pub set_dropped_keeps : (at set : ℕ) (h : Held) → KeptBy h (set_dropped at set h)
set_dropped_keeps at set h =
    keeps_given h (slice_get h.instances at) (λ i. set_gone (dropped_set set i.sets) (with_instance at i h))
    (λ i is. set_gone_keeps (dropped_set set i.sets) at i h is)

pub entry_found_keeps : (at : ℕ) (index : ℕ) (h : Held) → KeptBy h (entry_found at index h)
entry_found_keeps at index h =
    keeps_given h (slice_get h.instances at) (λ i. Gives (entry_of i index) h) (λ i is. keeps_same h)

pub subtask_found_keeps : (at : ℕ) (index : ℕ) (h : Held) → KeptBy h (subtask_found at index h)
subtask_found_keeps at index h =
    keeps_given h (slice_get h.instances at) (λ i. named (subtask_in (entry_of i index)) h) (λ i is. named_keeps (subtask_in (entry_of i index)) h)

pub set_found_keeps : (at : ℕ) (index : ℕ) (h : Held) → KeptBy h (set_found at index h)
set_found_keeps at index h =
    keeps_given h (slice_get h.instances at) (λ i. named (set_in (entry_of i index)) h) (λ i is. named_keeps (set_in (entry_of i index)) h)

pub subtask_known_keeps : (at : ℕ) (index : ℕ) (h : Held) → KeptBy h (subtask_known at index h)
subtask_known_keeps at index h =
    keeps_given h (slice_get h.instances at) (λ i. given (subtask_number (entry_of i index)) (λ callee. Gives callee h)) (λ i is. keeps_given h (subtask_number (entry_of i index)) (λ callee. Gives callee h) (λ callee is. keeps_same h))

pub set_known_keeps : (at : ℕ) (index : ℕ) (h : Held) → KeptBy h (set_known at index h)
set_known_keeps at index h =
    keeps_given h (slice_get h.instances at) (λ i. given (set_number (entry_of i index)) (λ set. Gives set h)) (λ i is. keeps_given h (set_number (entry_of i index)) (λ set. Gives set h) (λ set is. keeps_same h))

pub waitable_found_keeps : (at : ℕ) (index : ℕ) (h : Held) → KeptBy h (waitable_found at index h)
waitable_found_keeps at index h =
    keeps_given h (slice_get h.instances at) (λ i. named (waitable_in (entry_of i index)) h) (λ i is. named_keeps (waitable_in (entry_of i index)) h)

pub end_found_keeps : (at : ℕ) (side : Side) (wanted : ℕ) (index : ℕ) (h : Held) → KeptBy h (end_found at side wanted index h)
end_found_keeps at side wanted index h =
    keeps_given h (slice_get h.instances at) (λ i. named (end_in side wanted (entry_of i index)) h) (λ i is. named_keeps (end_in side wanted (entry_of i index)) h)

pub rep_found_keeps : (at : ℕ) (index : ℕ) (resource : ℕ) (h : Held) → KeptBy h (rep_found at index resource h)
rep_found_keeps at index resource h =
    keeps_given h (slice_get h.instances at) (λ i. named (rep_of (handle_in (view_of i index) resource)) h) (λ i is. named_keeps (rep_of (handle_in (view_of i index) resource)) h)

pub sets_made_keeps : (at : ℕ) (h : Held) → KeptBy h (sets_made at h)
sets_made_keeps at h =
    keeps_given h (slice_get h.instances at) (λ i. Gives (length i.sets) h) (λ i is. keeps_same h)
