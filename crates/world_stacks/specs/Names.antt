-- The names of traps of instructions (Core 2.0, section 4.4).
use Rattle.wasm_store.specs.declared.trap.Trap.{Trap}
use Rattle.wasm_store.specs.declared.trap.Trap.TheVariants as core_trap
use Rattle.trace_labels.specs.declared.trap.TrapName.{TrapName}
use Rattle.trace_labels.specs.declared.trap.TrapName.TheVariants as trap

abbrev pub core_name : Trap → TrapName
core_name core_trap.Unreachable = trap.Unreachable
core_name core_trap.DivideByZero = trap.DivideByZero
core_name core_trap.DivideOverflow = trap.DivideOverflow
core_name core_trap.MemoryBounds = trap.MemoryBounds
core_name core_trap.TableBounds = trap.TableBounds
core_name core_trap.NullElement = trap.NullElement
core_name core_trap.OtherSignature = trap.OtherSignature
core_name core_trap.StackLimit = trap.StackLimit
