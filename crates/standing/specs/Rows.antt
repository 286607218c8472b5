-- How tasks go on, come to their end and let others run (Component Model, CanonicalABI.md, "Task State", `canon yield`; Concurrency.md, "Summary"):
-- what is kept does what the machine does.
use Rattle.std.specs.Prelude.{◌≡◌, ℕ, List, [], ◌∷◌, ◌++◌, length, Some, IsSome}
use Rattle.std.specs.List.{slice_get}
use Rattle.syntax_trees.specs.declared.types.ValType.{ValType}
use Rattle.wasm_store.specs.Stack.{Stack}
use Rattle.entry_gate.specs.declared.kind.Kind.{Kind}
use Rattle.comp_graph.specs.Graph.{Graph, Lifted, func_at, func_named}
use Rattle.script_reader.specs.declared.script.Call.{Call}
use Rattle.script_reader.specs.declared.script.Item.TheVariants as item
use Rattle.script_reader.specs.Script.{Script}
use Rattle.trace_labels.specs.declared.typed.TypedValue.{TypedValue}
use Rattle.world_parts.specs.declared.parts.Flow.{Flow}
use Rattle.world_parts.specs.declared.parts.Flow.TheVariants as flow
use Rattle.world_parts.specs.Held.{Held, Done, Gives, after}
use Rattle.world_parts.specs.Views.{Views}
use Rattle.world_parts.specs.Going.{ending, leaves}
use Rattle.world_parts.specs.Turning.{gone, goes, call_taken}
use Rattle.world_parts.specs.Plain.{task_yield}
use Rattle.abi_machine.specs.World.{Acting, Task, World}
use Rattle.abi_machine.specs.Canons.{flag_at, kind_of_options}
use Rattle.abi_machine.specs.Reading.{func_of}
use Rattle.abi_machine.specs.Returning.{ending_turn, leaving_turn}
use Rattle.abi_machine.specs.Scheduling.{Takes, GoesOn, calls_taken, arguments_typed, alternative_turn, going_turn}
use Rattle.abi_machine.specs.replies.Tasks.{yield_turn}
use Rattle.standing.specs.Stands.{Stands}
use Rattle.standing.specs.Agreeing.{Agrees}

-- a part that leaves nothing to be done in its step
abbrev pub resting : {A : Type 0} → Done A → Done Flow
resting d = after d (λ x k. Gives flow.Rests k)

-- The script's next call makes a task, of an export that has this number, with its arguments. As many calls are kept as were taken.
abbrev pub CallIsTaken : Type 0
CallIsTaken =
    (g : Graph) (values : List ValType) (s : Script) (h : Held) (stacks : List (List Stack)) (w : World) (call : Call) (export instance : ℕ) (kind : Kind) (args : List TypedValue) (f : Lifted)
    → slice_get s.items w.taken ≡ Some (item.Call call) → func_named g call.name ≡ Some f → func_at g export ≡ Some f → instance ≡ f.instance
    → kind ≡ kind_of_options f.options → args ≡ arguments_typed f call.values → length h.calls ≡ calls_taken s w → Stands g values s h stacks w
    → Agrees g values s (length h.tasks) h.labels (stacks ++ [] ∷ []) (call_taken export instance kind call.name args h) (alternative_turn g s (Takes (item.Call call)) w)

-- A task that was blocked comes to the chain by its line, which costs a unit; and so does the acting one, which a cancellation woke.
abbrev pub TaskGoesOn : Type 0
TaskGoesOn =
    (g : Graph) (values : List ValType) (s : Script) (h : Held) (stacks : List (List Stack)) (w : World) (t : ℕ) → Stands g values s h stacks w
    → Agrees g values s t h.labels stacks (resting (gone t h)) (alternative_turn g s (GoesOn t) w)

abbrev pub ActingGoesOn : Type 0
ActingGoesOn =
    (g : Graph) (values : List ValType) (s : Script) (h : Held) (stacks : List (List Stack)) (w : World) (t : ℕ) (task : Task)
    → slice_get w.chain 0 ≡ Some t → slice_get w.tasks t ≡ Some task → Stands g values s h stacks w
    → Agrees g values s t h.labels stacks (resting (goes h)) (going_turn s w)

-- A task that is lifted with `async` comes to its end.
abbrev pub TaskEnds : Type 0
TaskEnds =
    (g : Graph) (values : List ValType) (s : Script) (h : Held) (stacks : List (List Stack)) (w : World) (t : ℕ) (task : Task)
    → slice_get w.tasks t ≡ Some task → Stands g values s h stacks w → Agrees g values s t h.labels stacks (ending t h) (ending_turn t task w)

-- The acting task, which has resolved, exits.
abbrev pub TaskExits : Type 0
TaskExits =
    (g : Graph) (values : List ValType) (s : Script) (h : Held) (stacks : List (List Stack)) (w : World) (t : ℕ) (task : Task) (f : Lifted)
    → slice_get w.chain 0 ≡ Some t → slice_get w.tasks t ≡ Some task → task.state ≡ Acting → IsSome task.resolution → func_of task.callee ≡ Some f
    → IsSome (slice_get w.insts f.instance) → Stands g values s h stacks w
    → Agrees g values s t h.labels stacks (leaves h) (leaving_turn w)

-- The acting task lets others run, or is told its cancellation.
abbrev pub TaskYields : Type 0
TaskYields =
    (g : Graph) (values : List ValType) (s : Script) (v : Views) (h : Held) (stacks : List (List Stack)) (w : World) (t canon : ℕ) (task : Task) (words : List ℕ)
    → v.flag canon ≡ flag_at g canon → slice_get w.chain 0 ≡ Some t → slice_get w.tasks t ≡ Some task → task.state ≡ Acting → Stands g values s h stacks w
    → Agrees g values s t h.labels stacks (task_yield v t canon h) (yield_turn t task canon (flag_at g canon) words w)
