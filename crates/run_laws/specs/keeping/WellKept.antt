-- Parts of a step keep well what is kept of tasks and of their calls (Component Model, CanonicalABI.md, "Task State", "Subtask State"; Concurrency.md, "Summary"):
-- moves of the acting task and answers to its calls, events that come to it, what it does where values are passed, and the script's items.
use Rattle.std.specs.Prelude.{◌≡◌, ℕ, List, Option, Some}
use Rattle.std.specs.List.{slice_get}
use Rattle.comp_graph.specs.Graph.{Graph}
use Rattle.script_reader.specs.Script.{Script}
use Rattle.entry_gate.specs.declared.kind.Kind.{Kind}
use Rattle.programs.specs.declared.program.Program.{Program}
use Rattle.task_table.specs.declared.errand.Errand.TheVariants as errand
use Rattle.task_table.specs.declared.slot.TaskSlot.{TaskSlot}
use Rattle.trace_labels.specs.declared.typed.TypedValue.{TypedValue}
use Rattle.world_parts.specs.Views.{Views}
use Rattle.world_parts.specs.declared.parts.Flow.{Flow}
use Rattle.world_parts.specs.declared.parts.Rest.{Rest}
use Rattle.world_parts.specs.Held.{Held, Done}
use Rattle.world_parts.specs.Going.{enters, ending, loops}
use Rattle.world_parts.specs.Plain.{returned}
use Rattle.world_parts.specs.Turning.{gone, call_taken, call_cancelled}
use Rattle.value_parts.specs.declared.to_pass.Passing.{Passing}
use Rattle.value_moves.specs.Passing.{Passes}
use Rattle.machine_runs.specs.Beginning.{first_held}
use Rattle.machine_runs.specs.Following.{heard}
use Rattle.machine_runs.specs.Moving.{woken}
use Rattle.run_laws.specs.keeping.Kept.{IsNotAwaited}
use Rattle.run_laws.specs.keeping.Well.{CancelsApart, KeptWell, KeepsWell}

-- Before a graph is instantiated it is so.
abbrev pub FirstIsWell : Type 0
FirstIsWell = (g : Graph) (s : Script) → KeptWell (first_held g s)

-- A task is new, goes on, is back, calls a canonical function, or exits. One that a task cancels is called by none whose control has yet to come back.
abbrev pub MovesKeepWell : Type 0
MovesKeepWell = (g : Graph) (types : List (Option ℕ)) (r : Rest) (h : Held) → CancelsApart h → KeepsWell h (woken g types r h)

-- An event comes to the acting task, or none.
abbrev pub EventsKeepWell : Type 0
EventsKeepWell = (g : Views) (f : Flow) (h : Held) → KeepsWell h (heard g f h)

-- A task enters, resolves, comes to its end, or goes on by the word that its core function or callback gave.
abbrev pub TasksKeepWell : Type 0
TasksKeepWell =
    (t word : ℕ) (value : Option TypedValue) (h : Held)
    → KeepsWell h (enters t h) × KeepsWell h (returned t value h) × KeepsWell h (ending t h) × KeepsWell h (loops t word h)

-- A blocked task is to go on, the script's next call makes a task, and a call is cancelled.
abbrev pub ScriptKeepsWell : Type 0
ScriptKeepsWell =
    (t export instance call : ℕ) (kind : Kind) (name : List ℕ) (args : List TypedValue) (h : Held)
    → KeepsWell h (gone t h) × KeepsWell h (call_taken export instance kind name args h) × KeepsWell h (call_cancelled call h)

-- Whatever values are passed.
abbrev pub PassingsKeepWell : Type 0
PassingsKeepWell = (p : Program) (x : Passing) (h : Held) (d : Done Flow) → Passes p x h d → KeepsWell h d

-- Then none waits directly for the call that comes back to its caller.
abbrev pub BackIsUnawaited : Type 0
BackIsUnawaited =
    (h : Held) (t callee canon : ℕ) (slot : TaskSlot) → KeptWell h → slice_get h.tasks t ≡ Some slot → slot.errand ≡ errand.AfterCall callee canon → IsNotAwaited h callee
