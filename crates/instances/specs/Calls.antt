-- What the calls of an instance come to: what is answered, and the instance then.
use Rattle.std.specs.Prelude.{◌≡◌, ℕ, ◌+◌, ◌<◌, ◌≤◌, ◌^◌, nat_lt, Bool, if◌then◌else◌, List, length, Result, Ok, Err}
use Rattle.handle_table.specs.History.{most_live}
use Rattle.handle_table.specs.Slots.{count, next_of}
use Rattle.res_handles.specs.declared.refusal.LowerError.{LowerError}
use Rattle.res_handles.specs.declared.refusal.LowerError.TheVariants.{TableFull, Memory}
use Rattle.res_handles.specs.Refusals.{handle_in, rep_of}
use Rattle.waitables.specs.declared.refusal.SetRefusal.{SetRefusal}
use Rattle.waitables.specs.Sets.{SetView, set_at, joined, waited_on, drop_answer}
use Rattle.instances.specs.declared.entry.WorldEntry.{WorldEntry}
use Rattle.instances.specs.declared.refusal.LendError.{LendError}
use Rattle.instances.specs.declared.refusal.LendError.TheVariants as lend
use Rattle.instances.specs.declared.refusal.SetError.{SetError}
use Rattle.instances.specs.declared.refusal.SetError.TheVariants as set_error
use Rattle.instances.specs.declared.refusal.DropSetError.{DropSetError}
use Rattle.instances.specs.declared.refusal.DropSetError.TheVariants as drop_error
use Rattle.instances.specs.Instances.{InstanceView, with_sets, entry_added, view_of, lent, lends_of}

-- An entry is added at the next index; or the table is full, or there is no memory for one more.
abbrev pub AddGives : WorldEntry → InstanceView → Result ℕ LowerError → InstanceView → Type 0
AddGives e old (Ok index) new = (count old.slots < most_live) × (index ≡ next_of old.slots) × (new ≡ entry_added e old)
AddGives e old (Err TableFull) new = (count old.slots ≡ most_live) × (new ≡ old)
AddGives e old (Err Memory) new = (count old.slots < most_live) × (new ≡ old)

-- A borrow is lifted of the handle of a resource at an index, which is lent less than 2^64 - 1 times.
abbrev pub LendGives : ℕ → ℕ → InstanceView → Result ℕ LendError → InstanceView → Type 0
LendGives index resource old (Ok rep) new =
    (rep_of (handle_in (view_of old index) resource) ≡ Ok rep) × (lends_of old index + 1 < 2 ^ 64) × (new ≡ lent index old)
LendGives index resource old (Err (lend.Refused why)) new = (handle_in (view_of old index) resource ≡ Err why) × (new ≡ old)
LendGives index resource old (Err lend.Most) new = (lends_of old index + 1 ≡ 2 ^ 64) × (new ≡ old)

-- A waitable joins a set that is there.
abbrev pub JoinGives : ℕ → ℕ → InstanceView → Result (Unit {0}) SetError → InstanceView → Type 0
JoinGives waitable set old (Ok done) new = (set < length old.sets) × (new ≡ with_sets (joined waitable set old.sets) old)
JoinGives waitable set old (Err set_error.NoSet) new = (length old.sets ≤ set) × (new ≡ old)
JoinGives waitable set old (Err set_error.Memory) new = (set < length old.sets) × (new ≡ old)

-- A task begins to wait on a set that is there.
abbrev pub WaitGives : ℕ → InstanceView → Result (Unit {0}) SetError → InstanceView → Type 0
WaitGives set old (Ok done) new = (set < length old.sets) × (new ≡ with_sets (waited_on set old.sets) old)
WaitGives set old (Err set_error.NoSet) new = (length old.sets ≤ set) × (new ≡ old)
WaitGives set old (Err set_error.Memory) new = (set < length old.sets) × ((set_at old.sets set).waiters + 1 ≡ 2 ^ 64) × (new ≡ old)

-- there is a set of a number, and a task waits on it
abbrev pub is_there : ℕ → List SetView → Bool
is_there set sets = nat_lt set (length sets)

abbrev pub has_waiter : ℕ → List SetView → Bool
has_waiter set sets = nat_lt 0 (set_at sets set).waiters

-- whether a set is dropped, or why not
abbrev pub refused : Result (Unit {0}) SetRefusal → Result (Unit {0}) DropSetError
refused (Ok done) = Ok done
refused (Err why) = Err (drop_error.Refused why)

abbrev pub dropped_set : ℕ → List SetView → Result (Unit {0}) DropSetError
dropped_set set sets = if is_there set sets then refused (drop_answer (set_at sets set)) else Err drop_error.NoSet
