-- Values that are lifted keep all marks (Component Model, CanonicalABI.md, "Loading", "Flat Lifting", `lift_own`, `lift_borrow`, `lift_stream`, `lift_future`): handles
-- and ends leave a table, and handles are lent for the call of a task. Where a type holds a borrow, the caller of that task runs in the instance.
use Rattle.std.specs.Prelude.{◌≡◌, ℕ, true, List, Option, Some}
use Rattle.std.specs.List.{slice_get}
use Rattle.syntax_trees.specs.declared.types.ValType.{ValType}
use Rattle.laid_types.specs.Handles.{has_borrow}
use Rattle.laid_types.specs.Known.{Numbered, numbered_at}
use Rattle.comp_graph.specs.declared.graph.CanonFunc.{CanonFunc}
use Rattle.graph_views.specs.Canons.{canon_at, instance_of}
use Rattle.task_table.specs.declared.caller.Called.{Called}
use Rattle.task_table.specs.declared.caller.Caller.TheVariants.{Guest}
use Rattle.task_table.specs.declared.slot.TaskSlot.{TaskSlot}
use Rattle.programs.specs.declared.program.Program.{Program}
use Rattle.programs.specs.Program.{params_of, returned_of, value_of}
use Rattle.value_parts.specs.declared.lifting.Origin.{Origin}
use Rattle.value_parts.specs.Lifting.{elements_lifted}
use Rattle.value_parts.specs.Passing.{arguments_lifted, ended_lifted, returned_lifted}
use Rattle.world_parts.specs.Held.{Held}
use Rattle.run_laws.specs.keeping.Kept.{KeepsMarks, CalledFrom}
use Rattle.run_laws.specs.keeping.Tables.{TablesWell}

-- Where a type holds a borrow, a handle is lent for the call of a task from the instance of its caller.
abbrev pub LendsFor : Held → ℕ → ℕ → ValType → Type 0
LendsFor h at callee type = has_borrow type ≡ true → CalledFrom h at callee

-- So it is of the arguments of a task, which another one passes by a canonical function of its instance,
abbrev pub ArgumentsLendWell : Program → ℕ → Held → Type 0
ArgumentsLendWell p t h =
    (slot : TaskSlot) (type : Numbered) (called : Called) (c : CanonFunc) → slice_get h.tasks t ≡ Some slot → params_of p slot.callee ≡ Some type → slot.caller ≡ Guest called
    → canon_at p.graph.now called.canon ≡ Some c → LendsFor h (instance_of c) t type.val_type

-- and of its result, which has the type of a number, where it has one.
abbrev pub ResultLendsWell : Program → ℕ → Option ℕ → Held → Type 0
ResultLendsWell p t o h =
    (number : ℕ) (type : Numbered) (slot : TaskSlot) → o ≡ Some number → numbered_at p.types.now number ≡ Some type → slice_get h.tasks t ≡ Some slot
    → LendsFor h slot.instance t type.val_type

abbrev pub ReturnedLendsWell : Program → ℕ → Held → Type 0
ReturnedLendsWell p t h = (slot : TaskSlot) → slice_get h.tasks t ≡ Some slot → ResultLendsWell p t (returned_of p slot.callee) h

-- Arguments and results that are lifted, at the end of a core function or by `task.return`, and elements.
abbrev pub ArgumentsKeepMarks : Type 0
ArgumentsKeepMarks = (p : Program) (t : ℕ) (h : Held) → TablesWell h → ArgumentsLendWell p t h → KeepsMarks h (arguments_lifted p t h)

abbrev pub EndedKeepMarks : Type 0
EndedKeepMarks = (p : Program) (t : ℕ) (words : List ℕ) (h : Held) → TablesWell h → ReturnedLendsWell p t h → KeepsMarks h (ended_lifted p t words h)

abbrev pub ReturnedKeepMarks : Type 0
ReturnedKeepMarks = (p : Program) (t canon : ℕ) (h : Held) → TablesWell h → ResultLendsWell p t (value_of p canon) h → KeepsMarks h (returned_lifted p t canon h)

abbrev pub ElementsKeepMarks : Type 0
ElementsKeepMarks =
    (from : Origin) (type : Numbered) (place count : ℕ) (h : Held) → TablesWell h → LendsFor h from.at from.callee type.val_type → KeepsMarks h (elements_lifted from type place count h)
