-- Values that are passed, of every kind (Component Model, CanonicalABI.md, "Lifting and Lowering Values", `canon lift`, `canon task.return`): a task's arguments as it
-- enters, its result, what follows the end of its core function or its callback, and elements that go over. Whatever passing them may come to over what is kept,
-- the machine comes to by its steps from the world in the midst of the turn where they are to be passed.
use Rattle.std.specs.Prelude.{◌≡◌, ◌⊎◌, ℕ, List, ◌++◌, Option}
use Rattle.wasm_store.specs.Stack.{Stack}
use Rattle.syntax_trees.specs.declared.types.ValType.{ValType}
use Rattle.entry_gate.specs.declared.kind.Kind.{Kind}
use Rattle.entry_gate.specs.declared.kind.Kind.TheVariants.{Sync, Callback, Stackful}
use Rattle.comp_graph.specs.declared.graph.Builtin.{Builtin}
use Rattle.comp_graph.specs.declared.graph.Options.{Options}
use Rattle.comp_graph.specs.Graph.{Graph, Lifted}
use Rattle.script_reader.specs.Script.{Script}
use Rattle.trace_labels.specs.declared.label.Label.{Label}
use Rattle.programs.specs.declared.program.Program.{Program}
use Rattle.world_parts.specs.declared.parts.Flow.{Flow}
use Rattle.world_parts.specs.declared.parts.Flow.TheVariants as flow
use Rattle.world_parts.specs.Held.{Held, Done, Gives}
use Rattle.value_parts.specs.declared.to_pass.Passing.{Passing}
use Rattle.value_parts.specs.declared.to_pass.Passing.TheVariants as passing
use Rattle.value_parts.specs.Passing.{ended_lifted}
use Rattle.value_moves.specs.Passing.{Passes}
use Rattle.abi_machine.specs.World.{Guest, Subtask, Task, World}
use Rattle.abi_machine.specs.Reading.{kind_of}
use Rattle.abi_machine.specs.Turn.{behind}
use Rattle.standing.specs.Agreeing.{control_at}
use Rattle.standing.specs.Leading.{ComesBy}
use Rattle.standing.specs.Moves.{Acts}
use Rattle.standing.specs.Reaching.{Meets}
use Rattle.run_laws.specs.AsyncEnds.{EndsAsync}
use Rattle.run_laws.specs.Copied.{FlowFollows}
use Rattle.run_laws.specs.Destructors.{RunsDestructor, PassesRep}
use Rattle.run_laws.specs.Entered.{MayEnter}
use Rattle.run_laws.specs.Points.{pending}
use Rattle.run_laws.specs.Results.{LeadsOnBy, PassesResult, MarksBehind, ReturnsBy}
use Rattle.run_laws.specs.Taking.{StandsMarked}
use Rattle.run_laws.specs.Transfers.{MayTransfer}

-- A task that enters runs a lifted function, or a destructor with its one word.
abbrev pub EntersWell : Program → List ValType → Script → Held → World → ℕ → Task → Lifted → Type 0
EntersWell p values s h w t task f =
    MayEnter p values s h w t task f ⊎ (RunsDestructor w t task f × ((subtask : Subtask) → task.caller ≡ Guest subtask → PassesRep p.graph.now subtask))

-- One that returns does so by a canonical function.
pub record ReturnsWell (p : Program) (values : List ValType) (h : Held) (w : World) (t : ℕ) (task : Task) (f : Lifted) : Type 0 where
  pub passes : PassesResult p values h w t task f
  pub number : ℕ
  pub builtin : Builtin
  pub result : Option ValType
  pub options : Options
  pub calls : ReturnsBy p values h t number f builtin result options

-- What is asked of one whose core function or callback ended, by how its function is lifted.
abbrev pub EndsWell : Program → List ValType → Held → World → ℕ → Task → Lifted → List ℕ → Kind → Type 0
EndsWell p values h w t task f words Sync = (PassesResult p values h w t task f ⊎ RunsDestructor w t task f) × MarksBehind (ended_lifted p t words h)
EndsWell p values h w t task f words Callback = EndsAsync w t task f words
EndsWell p values h w t task f words Stackful = EndsAsync w t task f words

abbrev pub PassesWell : Program → List ValType → Script → Held → World → ℕ → Task → Lifted → Passing → Type 0
PassesWell p values s h w t task f passing.Nothing = Unit {0}
PassesWell p values s h w t task f passing.Arguments = EntersWell p values s h w t task f
PassesWell p values s h w t task f passing.Returned = ReturnsWell p values h w t task f
PassesWell p values s h w t task f (passing.Ended words) = EndsWell p values h w t task f words (kind_of task)
PassesWell p values s h w t task f (passing.Elements copying) = MayTransfer p values h w t copying

-- All that is asked: of the acting task, and of what is to be passed for it.
pub record MayPass (p : Program) (values : List ValType) (s : Script) (h : Held) (w : World) (t : ℕ) (task : Task) (f : Lifted) (x : Passing) : Type 0 where
  pub acts : Acts w t task f
  pub well : PassesWell p values s h w t task f x

-- What follows agrees with the machine's next step, or the machine has come to rest too.
abbrev pub HasCome : Graph → List ValType → Script → ℕ → World → List Label → List (List Stack) → Flow → Held → Type 0
HasCome g values s t u before stacks what k =
    FlowFollows g values s t before stacks (Gives what k) u ⊎ ((what ≡ flow.Rests) × ComesBy g values s u before k stacks (λ v. v.control ≡ control_at k))

abbrev pub PassesLead : Type 0
PassesLead =
    (p : Program) (values : List ValType) (s : Script) (h : Held) (stacks : List (List Stack)) (u w : World) (t : ℕ) (task : Task) (f : Lifted) (x : Passing)
    (before lines ahead : List Label) (d : Done Flow)
    → MayPass p values s h w t task f x → StandsMarked p.graph.now values s h stacks w → h.labels ≡ before ++ (lines ++ ahead)
    → Meets p.graph.now s u lines (behind ahead (pending p.graph.now h x w)) → Passes p x h d
    → LeadsOnBy p.graph.now values s t u before stacks (HasCome p.graph.now values s t u before stacks) d
