-- Tasks that have not entered (Component Model, CanonicalABI.md, "Task State": `Task.enter`; "Subtask State"): one that is new or waits to
-- enter has not resolved, and its caller was not told that it has.
use Rattle.std.specs.Prelude.{◌≡◌, ℕ, false, List, None}
use Rattle.std.specs.List.{AllByRecursion}
use Rattle.tasks.specs.Subtasks.{is_over}
use Rattle.abi_machine.specs.World.{Caller, Nobody, Host, Guest, TaskState, New, WaitsToEnter, Task}
use Rattle.abi_machine.specs.sound.Firsts.{TaskIs}

abbrev pub HasNotEntered : TaskState → Type 0
HasNotEntered New = Unit {0}
HasNotEntered WaitsToEnter = Unit {0}
HasNotEntered state = ⊥

abbrev pub IsUntold : Caller → Type 0
IsUntold Nobody = Unit {0}
IsUntold (Host call values) = Unit {0}
IsUntold (Guest subtask) = is_over subtask.told ≡ false

abbrev pub IsUnresolved : Task → Type 0
IsUnresolved task = (task.resolution ≡ None) × IsUntold task.caller

abbrev pub EntersUnresolved : Task → Type 0
EntersUnresolved task = HasNotEntered task.state → IsUnresolved task

abbrev pub EnterUnresolved : List Task → Type 0
EnterUnresolved tasks = AllByRecursion EntersUnresolved tasks

-- The task of a number is there, and has entered.
abbrev pub IsBehindEntry : Task → Type 0
IsBehindEntry task = HasNotEntered task.state → ⊥

abbrev pub HasEntered : List Task → ℕ → Type 0
HasEntered tasks t = TaskIs tasks t IsBehindEntry
