-- All tasks of a run (Component Model, CanonicalABI.md, "Task State"; Concurrency.md, "Summary"): those that have not exited, and who called
-- whom.
use Rattle.std.specs.Prelude.{ℕ, zero, suc, nat_eq, Bool, true, false, ◌||◌, if◌then◌else◌, List, Option, Some, None}
use Rattle.std.specs.List.{slice_get}
use Rattle.std.specs.Ordering.{nat_cmp}
use Rattle.std.specs.BTreeMap.{is_at}
use Rattle.std.specs.BTreeSet.{insert_key}
use Rattle.std.specs.Set.{remove_key}
use Rattle.task_table.specs.declared.caller.Caller.{Caller}
use Rattle.task_table.specs.declared.caller.Caller.TheVariants.{Nobody, Host, Guest}
use Rattle.task_table.specs.declared.slot.TaskSlot.{TaskSlot}

-- rising numbers with a task among them, and without it
abbrev pub with_number : ℕ → List ℕ → List ℕ
with_number task tasks = insert_key nat_cmp tasks task

abbrev pub without : ℕ → List ℕ → List ℕ
without task tasks = remove_key (is_at (nat_cmp task)) tasks

-- The tasks of which it is looked which of them can go on: those that do not wait for exclusive entry, and of these those that do not wait to enter
-- at all.
pub record Watched : Type 0 where
  pub all : List ℕ
  pub awake : List ℕ

-- with a task among both, with it in neither, and with it among those alone that do not wait for exclusive entry
abbrev pub watching : ℕ → Watched → Watched
watching task w = record { all = with_number task w.all; awake = with_number task w.awake }

abbrev pub unwatched : ℕ → Watched → Watched
unwatched task w = record { all = without task w.all; awake = without task w.awake }

abbrev pub asleep : ℕ → Watched → Watched
asleep task w = record { all = w.all; awake = without task w.awake }

-- a task waits to enter, for exclusive entry or not
abbrev pub parked_by : Bool → ℕ → Watched → Watched
parked_by exclusive task w = if exclusive then unwatched task w else asleep task w

-- the task that called
abbrev pub by_of : Caller → Option ℕ
by_of Nobody = None
by_of (Host call) = None
by_of (Guest called) = Some called.by

-- Whether an instance is that of a task, of its caller, of its caller's caller or so on, so many of them, whether or not they still run.
abbrev pub is_of_slot : (Option ℕ → Bool) → ℕ → Option TaskSlot → Bool
is_of_slot test instance None = false
is_of_slot test instance (Some slot) = nat_eq slot.instance instance || test (by_of slot.caller)

abbrev pub is_among_callers : ℕ → ℕ → Option ℕ → List TaskSlot → Bool
is_among_callers zero instance task slots = false
is_among_callers (suc count) instance None slots = false
is_among_callers (suc count) instance (Some task) slots =
    is_of_slot (λ by. is_among_callers count instance by slots) instance (slice_get slots task)
