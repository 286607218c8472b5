-- The names of traps (Core 2.0, section 4.4; Component Model, CanonicalABI.md, "Loading", "Storing", "Table State", "Task State" and
-- "Waitable Set State"): of core functions, of values that are not lifted or not lowered, of indices that are refused, of what tasks may
-- not do, of backpressure and of sets.
use Rattle.std.specs.Prelude.{Result, Ok, Err}
use Rattle.wasm_store.specs.declared.trap.Trap.{Trap}
use Rattle.wasm_store.specs.declared.trap.Trap.TheVariants as core_trap
use Rattle.value_lift.specs.declared.trap.LiftWhy.{LiftWhy}
use Rattle.value_lift.specs.declared.trap.LiftWhy.TheVariants as lift_why
use Rattle.res_handles.specs.declared.refusal.Refusal.{Refusal}
use Rattle.res_handles.specs.declared.refusal.Refusal.TheVariants as refusal
use Rattle.tasks.specs.declared.event.TaskTrap.{TaskTrap}
use Rattle.tasks.specs.declared.event.TaskTrap.TheVariants as task_trap
use Rattle.waitables.specs.declared.refusal.SetRefusal.{SetRefusal}
use Rattle.waitables.specs.declared.refusal.SetRefusal.TheVariants as set_refusal
use Rattle.trace_labels.specs.declared.trap.TrapName.{TrapName}
use Rattle.trace_labels.specs.declared.trap.TrapName.TheVariants as trap
use Rattle.abi_machine.specs.LoweringOver.{Why, Misaligned, Bounds, TableFull}

abbrev pub core_name : Trap → TrapName
core_name core_trap.Unreachable = trap.Unreachable
core_name core_trap.DivideByZero = trap.DivideByZero
core_name core_trap.DivideOverflow = trap.DivideOverflow
core_name core_trap.MemoryBounds = trap.MemoryBounds
core_name core_trap.TableBounds = trap.TableBounds
core_name core_trap.NullElement = trap.NullElement
core_name core_trap.OtherSignature = trap.OtherSignature
core_name core_trap.StackLimit = trap.StackLimit

abbrev pub refusal_name : Refusal → TrapName
refusal_name refusal.Absent = trap.Absent
refusal_name refusal.OtherKind = trap.OtherKind
refusal_name refusal.OtherType = trap.OtherType
refusal_name refusal.NotOwn = trap.NotOwn
refusal_name refusal.Lent = trap.Lent
refusal_name refusal.NotIdle = trap.NotIdle

abbrev pub lift_name : LiftWhy → TrapName
lift_name lift_why.Misaligned = trap.Misaligned
lift_name lift_why.Bounds = trap.Bounds
lift_name lift_why.BadChar = trap.BadChar
lift_name lift_why.BadUtf8 = trap.BadUtf8
lift_name lift_why.BadCase = trap.BadCase
lift_name lift_why.TooLarge = trap.TooLarge
lift_name (lift_why.Refused why) = refusal_name why

abbrev pub lower_name : Why → TrapName
lower_name Misaligned = trap.Misaligned
lower_name Bounds = trap.Bounds
lower_name TableFull = trap.TableFull

abbrev pub task_name : TaskTrap → TrapName
task_name task_trap.SyncTask = trap.SyncTask
task_name task_trap.NotAsked = trap.NotAsked
task_name task_trap.Resolved = trap.Resolved
task_name task_trap.BorrowLives = trap.BorrowLives

abbrev pub set_name : SetRefusal → TrapName
set_name set_refusal.Members = trap.Members
set_name set_refusal.Waiters = trap.Waiters

-- what may be refused, with the name of a trap
abbrev pub renamed : {A E : Type 0} → (E → TrapName) → Result A E → Result A TrapName
renamed name (Ok x) = Ok x
renamed name (Err why) = Err (name why)
