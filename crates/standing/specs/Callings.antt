-- Calls of functions by tasks (Component Model, CanonicalABI.md, `canon lower`, `canon resource.drop`; "Component Instance State": `may_leave`):
-- what is kept does what the machine does. A call makes a task, of which no stack is there.
use Rattle.std.specs.Prelude.{◌≡◌, ◌⊎◌, ℕ, List, [], ◌∷◌, ◌++◌, Some, IsSome}
use Rattle.std.specs.List.{slice_get}
use Rattle.syntax_trees.specs.declared.types.ValType.{ValType}
use Rattle.wasm_store.specs.Stack.{Stack}
use Rattle.entry_gate.specs.declared.kind.Kind.{Kind}
use Rattle.comp_graph.specs.Graph.{Graph, Lifted}
use Rattle.script_reader.specs.Script.{Script}
use Rattle.trace_labels.specs.declared.label.Label.{Label}
use Rattle.task_table.specs.declared.errand.Callee as runs
use Rattle.world_parts.specs.declared.parts.Flow.{Flow}
use Rattle.world_parts.specs.Held.{Held, Done}
use Rattle.world_parts.specs.Calls as kept
use Rattle.abi_machine.specs.World.{Callee, Subtask, Guest, Acting, Task, World}
use Rattle.abi_machine.specs.Canons.{kind_of_options}
use Rattle.abi_machine.specs.Reading.{func_of}
use Rattle.abi_machine.specs.Turn.{Turn}
use Rattle.abi_machine.specs.Calling.{call_begun}
use Rattle.standing.specs.Tasks.{callee_of}
use Rattle.standing.specs.Stands.{Stands}
use Rattle.standing.specs.Agreeing.{Agrees}

-- A part that may make a task agrees with a turn.
abbrev pub MayGrow : List (List Stack) → List (List Stack) → Type 0
MayGrow stacks now = (now ≡ stacks) ⊎ (now ≡ stacks ++ [] ∷ [])

abbrev pub AgreesMade : Graph → List ValType → Script → ℕ → List Label → List (List Stack) → Done Flow → Turn → Type 0
AgreesMade g values s t before stacks d turn = (now : List (List Stack)) × MayGrow stacks now × Agrees g values s t before now d turn

-- Each task that called another one runs a function: task 0 calls none.
abbrev pub CallersRun : World → Type 0
CallersRun w =
    (t : ℕ) (task : Task) (subtask : Subtask) → slice_get w.tasks t ≡ Some task → task.caller ≡ Guest subtask
    → (by : Task) × (slice_get w.tasks subtask.by ≡ Some by) × IsSome (func_of by.callee)

-- The acting task calls a function, which what it runs is, by a canonical function with words, and passes these.
abbrev pub CallIsBegun : Type 0
CallIsBegun =
    (g : Graph) (values : List ValType) (s : Script) (h : Held) (stacks : List (List Stack)) (w : World) (t canon instance : ℕ) (callee : runs.Callee) (kind : Kind)
    (words passed : List ℕ) (does : Callee) (f : Lifted) (task : Task)
    → slice_get w.tasks t ≡ Some task → task.state ≡ Acting → IsSome (func_of task.callee) → CallersRun w → callee_of g callee ≡ Some does → func_of does ≡ Some f
    → instance ≡ f.instance → kind ≡ kind_of_options f.options → Stands g values s h stacks w
    → AgreesMade g values s t h.labels stacks (kept.call_begun t canon callee instance kind passed h) (call_begun t canon words does f passed w)
