-- What is read of worlds (Component Model, CanonicalABI.md, "Table State", "Task State" and "Subtask State"): entries of tables, members of
-- sets, tasks, streams and futures.
use Rattle.std.specs.Prelude.{ℕ, zero, suc, ◌+◌, Bool, true, false, not, ◌||◌, nat_eq, List, [], ◌∷◌, length, map, filter, drop, Option, Some, None}
use Rattle.std.specs.List.{slice_get}
use Rattle.wasm_store.specs.Store.{found_at}
use Rattle.handle_table.specs.History.{Event, live}
use Rattle.builtin_kinds.specs.declared.EndKind.{EndKind}
use Rattle.builtin_kinds.specs.declared.EndKind.TheVariants.{Stream, Future}
use Rattle.entry_gate.specs.declared.kind.Kind.{Kind}
use Rattle.entry_gate.specs.declared.kind.Kind.TheVariants.{Sync}
use Rattle.comp_graph.specs.Graph.{Lifted}
use Rattle.abi_machine.specs.World.{Entry, Inst, Callee, Init, Func, Destroys, Subtask, Caller, Nobody, Host, Guest, TaskState, Exited, Task, Channel, World}
use Rattle.abi_machine.specs.Canons.{kind_of_options}

-- Instances and their tables: what stands at an index.
abbrev pub table_in : Option Inst → List (Event Entry)
table_in None = []
table_in (Some i) = i.table

abbrev pub table_of : World → ℕ → List (Event Entry)
table_of w i = table_in (slice_get w.insts i)

abbrev pub entry_at : World → ℕ → ℕ → Option Entry
entry_at w i index = live (table_of w i) index

abbrev pub sets_in : Option Inst → List (List ℕ)
sets_in None = []
sets_in (Some i) = i.sets

abbrev pub members_in : Option (List ℕ) → List ℕ
members_in None = []
members_in (Some members) = members

-- the members of the set of a number
abbrev pub members_of : World → ℕ → ℕ → List ℕ
members_of w i set = members_in (slice_get (sets_in (slice_get w.insts i)) set)

abbrev pub backpressure_in : Option Inst → ℕ
backpressure_in None = 0
backpressure_in (Some i) = i.backpressure

abbrev pub backpressure_of : World → ℕ → ℕ
backpressure_of w i = backpressure_in (slice_get w.insts i)

-- Streams and futures are counted from 1.
abbrev pub numbered : {A : Type 0} → List A → ℕ → Option A
numbered xs zero = None
numbered xs (suc place) = slice_get xs place

abbrev pub channels : EndKind → World → List Channel
channels Stream w = w.streams
channels Future w = w.futures

abbrev pub channel_at : World → EndKind → ℕ → Option Channel
channel_at w kind number = numbered (channels kind w) number

-- Tasks: that of a number, and the acting one with its number.
abbrev pub task_at : World → ℕ → Option Task
task_at w t = slice_get w.tasks t

abbrev pub acting : World → Option (ℕ × Task)
acting w = found_at w.tasks (slice_get w.chain 0)

-- the function that a task runs
abbrev pub func_of : Callee → Option Lifted
func_of Init = None
func_of (Func f) = Some f
func_of (Destroys resource f) = Some f

-- its kind
abbrev pub kind_of_func : Option Lifted → Kind
kind_of_func None = Sync
kind_of_func (Some f) = kind_of_options f.options

abbrev pub kind_of : Task → Kind
kind_of task = kind_of_func (func_of task.callee)

-- whether a task runs a function of a component instance
abbrev pub is_in : ℕ → Option Lifted → Bool
is_in inst None = false
is_in inst (Some f) = nat_eq f.instance inst

abbrev pub runs_in : ℕ → Task → Bool
runs_in inst task = is_in inst (func_of task.callee)

-- the caller's side of the call of a task, where a task called it
abbrev pub subtask_of : Caller → Option Subtask
subtask_of Nobody = None
subtask_of (Host call values) = None
subtask_of (Guest subtask) = Some subtask

-- Whether this component instance is that of the task, of its caller, of its caller's caller or so on, so many of them, whether or not
-- they still run.
abbrev pub is_among : (ℕ → Bool) → Option Subtask → Bool
is_among test None = false
is_among test (Some subtask) = test subtask.by

abbrev pub is_of_task : (ℕ → Bool) → ℕ → Option Task → Bool
is_of_task test inst None = false
is_of_task test inst (Some task) = runs_in inst task || is_among test (subtask_of task.caller)

abbrev pub is_among_callers : ℕ → World → ℕ → ℕ → Bool
is_among_callers zero w inst t = false
is_among_callers (suc count) w inst t = is_of_task (is_among_callers count w inst) inst (task_at w t)

-- A call of a function of this component instance by a task comes back to an instance that waits for it.
abbrev pub is_reentrant : World → ℕ → ℕ → Bool
is_reentrant w inst t = is_among_callers (length w.tasks) w inst t

abbrev pub has_exited : TaskState → Bool
has_exited Exited = true
has_exited _ = false

-- Tasks with their numbers; the numbers of those that pass a test; and of those that have not exited, but for task 0.
abbrev pub with_numbers : {A : Type 0} → ℕ → List A → List (ℕ × A)
with_numbers number [] = []
with_numbers number (x ∷ xs) = (number, x) ∷ with_numbers (number + 1) xs

abbrev pub numbers_of : (Task → Bool) → List (ℕ × Task) → List ℕ
numbers_of test tasks = map (λ x. x.0) (filter (λ x. test x.1) tasks)

abbrev pub unfinished : World → List ℕ
unfinished w = numbers_of (λ task. not (has_exited task.state)) (drop 1 (with_numbers 0 w.tasks))

-- May-leave: once all is instantiated, a task may call canonical functions. `Nested` has the rule for a realloc
-- and a post-return.
abbrev pub is_instantiated : List Task → Bool
is_instantiated [] = false
is_instantiated (init ∷ tasks) = has_exited init.state

abbrev pub may_leave : World → Bool
may_leave w = is_instantiated w.tasks
