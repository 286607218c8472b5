-- Destructors (Component Model, CanonicalABI.md, `canon resource.drop`, "Task State": `Task.enter`): a task that runs one enters, and its core function is to start
-- with the one word of its call, the representation, which the machine lifts and lowers as a value; and where it ends the task has returned, and is to exit.
use Rattle.std.specs.Prelude.{◌≡◌, ℕ, List, [], ◌∷◌, ◌++◌, Some, IsSome}
use Rattle.wasm_store.specs.Stack.{Stack}
use Rattle.syntax_trees.specs.declared.types.ValType.{ValType}
use Rattle.entry_gate.specs.declared.kind.Kind.TheVariants.{Sync}
use Rattle.comp_graph.specs.Graph.{Graph, Lifted}
use Rattle.script_reader.specs.Script.{Script}
use Rattle.trace_labels.specs.declared.label.Label.{Label}
use Rattle.programs.specs.declared.program.Program.{Program}
use Rattle.world_parts.specs.declared.parts.Flow.{Flow}
use Rattle.world_parts.specs.declared.parts.Flow.TheVariants as flow
use Rattle.world_parts.specs.Held.{Held, Done}
use Rattle.world_parts.specs.Slots.{word_in}
use Rattle.value_parts.specs.Passing.{ended_lifted}
use Rattle.value_moves.specs.Entering.{Enters}
use Rattle.value_moves.specs.Passing.{SyncEnds}
use Rattle.abi_machine.specs.Control.{Leaves}
use Rattle.abi_machine.specs.World.{Destroys, Guest, Subtask, Task, World}
use Rattle.abi_machine.specs.Canons.{canon_at}
use Rattle.abi_machine.specs.CoreSteps.{func_ended}
use Rattle.abi_machine.specs.Turn.{behind}
use Rattle.standing.specs.Agreeing.{enters}
use Rattle.standing.specs.Leading.{ComesBy}
use Rattle.standing.specs.Moves.{Acts}
use Rattle.standing.specs.Reaching.{Meets}
use Rattle.run_laws.specs.Taking.{StandsMarked}
use Rattle.run_laws.specs.Copied.{TurnLeads}
use Rattle.run_laws.specs.Results.{LeadsOnBy, MarksBehind}

-- The acting task runs the destructor of a resource.
pub record RunsDestructor (w : World) (t : ℕ) (task : Task) (f : Lifted) : Type 0 where
  pub acts : Acts w t task f
  pub resource : ℕ
  pub runs : task.callee ≡ Destroys resource f

-- It is called by a canonical function that is there, with one 32-bit word.
pub record PassesRep (g : Graph) (subtask : Subtask) : Type 0 where
  pub made : IsSome (canon_at g subtask.canon)
  pub rep : ℕ
  pub alone : subtask.words ≡ rep ∷ []
  pub small : word_in (rep ∷ []) 0 ≡ Some rep

abbrev pub DestructorEnters : Type 0
DestructorEnters =
    (p : Program) (values : List ValType) (s : Script) (h : Held) (stacks : List (List Stack)) (w : World) (t : ℕ) (task : Task) (f : Lifted) (d : Done Flow)
    → RunsDestructor w t task f → ((subtask : Subtask) → task.caller ≡ Guest subtask → PassesRep p.graph.now subtask) → StandsMarked p.graph.now values s h stacks w → Enters p t h d
    → TurnLeads p.graph.now values s t h.labels stacks d (enters p.graph.now t w)

-- Its core function has ended with these words.
abbrev pub DestructorEnds : Type 0
DestructorEnds =
    (p : Program) (values : List ValType) (s : Script) (h : Held) (stacks : List (List Stack)) (u w : World) (t : ℕ) (task : Task) (f : Lifted) (words : List ℕ)
    (before lines ahead : List Label) (d : Done Flow)
    → RunsDestructor w t task f → MarksBehind (ended_lifted p t words h) → StandsMarked p.graph.now values s h stacks w → h.labels ≡ before ++ (lines ++ ahead)
    → Meets p.graph.now s u lines (behind ahead (func_ended p.graph.now t task f Sync words w)) → SyncEnds p t words h d
    → LeadsOnBy p.graph.now values s t u before stacks (λ what k. (what ≡ flow.Rests) × ComesBy p.graph.now values s u before k stacks (λ v. v.control ≡ Leaves)) d
