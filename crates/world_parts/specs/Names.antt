-- The names of traps of indices that are refused, of what tasks may not do, and of sets (Component Model, CanonicalABI.md, "Table State",
-- "Task State" and "Waitable Set State").
use Rattle.res_handles.specs.declared.refusal.Refusal.{Refusal}
use Rattle.res_handles.specs.declared.refusal.Refusal.TheVariants as refusal
use Rattle.tasks.specs.declared.event.TaskTrap.{TaskTrap}
use Rattle.tasks.specs.declared.event.TaskTrap.TheVariants as task_trap
use Rattle.waitables.specs.declared.refusal.SetRefusal.{SetRefusal}
use Rattle.waitables.specs.declared.refusal.SetRefusal.TheVariants as set_refusal
use Rattle.trace_labels.specs.declared.trap.TrapName.{TrapName}
use Rattle.trace_labels.specs.declared.trap.TrapName.TheVariants as trap

abbrev pub refusal_name : Refusal → TrapName
refusal_name refusal.Absent = trap.Absent
refusal_name refusal.OtherKind = trap.OtherKind
refusal_name refusal.OtherType = trap.OtherType
refusal_name refusal.NotOwn = trap.NotOwn
refusal_name refusal.Lent = trap.Lent
refusal_name refusal.NotIdle = trap.NotIdle

abbrev pub task_name : TaskTrap → TrapName
task_name task_trap.SyncTask = trap.SyncTask
task_name task_trap.NotAsked = trap.NotAsked
task_name task_trap.Resolved = trap.Resolved
task_name task_trap.BorrowLives = trap.BorrowLives

abbrev pub set_name : SetRefusal → TrapName
set_name set_refusal.Members = trap.Members
set_name set_refusal.Waiters = trap.Waiters
