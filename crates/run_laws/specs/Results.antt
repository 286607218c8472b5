-- Results that are passed (Component Model, CanonicalABI.md, `canon lift`, `canon task.return`, "Flat Lifting" and "Flat Lowering"): the result of a task is
-- lifted, the task has returned, and the result is lowered into the task that called it, over what is kept as by the machine; behind `task.return` the task
-- goes on, and behind a function that is lifted without `async` its post-return runs, and it is to exit. Of destructors nothing is said.
use Rattle.std.specs.Prelude.{◌≡◌, ℕ, false, List, ◌++◌, Option, Some}
use Rattle.wasm_store.specs.Stack.{Stack}
use Rattle.syntax_trees.specs.declared.types.ValType.{ValType}
use Rattle.laid_types.specs.Handles.{held_borrow}
use Rattle.entry_gate.specs.declared.kind.Kind.TheVariants.{Sync}
use Rattle.comp_graph.specs.declared.graph.Builtin.{Builtin}
use Rattle.comp_graph.specs.declared.graph.BuiltinKind.TheVariants as kind
use Rattle.comp_graph.specs.declared.graph.CanonFunc.TheVariants as canon
use Rattle.comp_graph.specs.declared.graph.Options.{Options}
use Rattle.comp_graph.specs.Graph.{Graph, Lifted}
use Rattle.comp_graph.specs.Passed.{MayBeAt}
use Rattle.script_reader.specs.Script.{Script}
use Rattle.trace_labels.specs.declared.label.Label.{Label}
use Rattle.trace_labels.specs.declared.typed.TypedValue.{TypedValue}
use Rattle.task_table.specs.declared.errand.Callee as kept
use Rattle.programs.specs.declared.program.Program.{Program}
use Rattle.programs.specs.Program.{value_of, returned_of, resources_of}
use Rattle.world_parts.specs.declared.parts.Flow.{Flow}
use Rattle.world_parts.specs.declared.parts.Flow.TheVariants as flow
use Rattle.world_parts.specs.declared.parts.Rest.TheVariants as rest
use Rattle.world_parts.specs.Held as held
use Rattle.world_parts.specs.Held.{Held, Done, Gives, Traps, Spent}
use Rattle.value_parts.specs.Passing.{ended_lifted, returned_lifted}
use Rattle.value_moves.specs.Resolving.{Returns}
use Rattle.value_moves.specs.Passing.{SyncEnds}
use Rattle.abi_machine.specs.declared.run_end.RunEnd.TheVariants.{Fuel}
use Rattle.abi_machine.specs.Control.{Doomed, Leaves}
use Rattle.abi_machine.specs.World.{Func, Task, World}
use Rattle.abi_machine.specs.Canons.{canon_at, options_at, defines}
use Rattle.abi_machine.specs.CoreSteps.{func_ended}
use Rattle.abi_machine.specs.Turn.{behind}
use Rattle.standing.specs.Tasks.{callee_of}
use Rattle.standing.specs.Agreeing.{control_at, returns}
use Rattle.standing.specs.Ends.{HasMemory}
use Rattle.standing.specs.KeptMarks.{HasMarks}
use Rattle.standing.specs.Leading.{ComesBy, EndsBy}
use Rattle.standing.specs.Moves.{Acts}
use Rattle.standing.specs.Plans.{AreOwn}
use Rattle.standing.specs.Reaching.{Meets}
use Rattle.run_laws.specs.Taking.{StandsMarked}
use Rattle.run_laws.specs.Copied.{FlowFollows}

-- What a part of the acting task comes to by steps from a world, behind the lines that were told before them. Where no rule applies nothing is said.
abbrev pub LeadsOnBy : {A : Type 0} → Graph → List ValType → Script → ℕ → World → List Label → List (List Stack) → (A → Held → Type 0) → Done A → Type 0
LeadsOnBy g values s t u before stacks G (Gives x k) = G x k
LeadsOnBy g values s t u before stacks G (Traps why k) = ComesBy g values s u before k stacks (λ v. v.control ≡ Doomed t why)
LeadsOnBy g values s t u before stacks G (Spent k) = EndsBy g values s u before k stacks Fuel
LeadsOnBy g values s t u before stacks G held.Stuck = Unit {0}

abbrev pub LeadsOn : Graph → List ValType → Script → ℕ → World → List Label → List (List Stack) → Done Flow → Type 0
LeadsOn g values s t u before stacks d = LeadsOnBy g values s t u before stacks (λ flow k. FlowFollows g values s t before stacks (Gives flow k) u) d

-- The acting task runs a lifted function whose result has the type of a number and holds no borrow, and the program is of its graph.
pub record PassesResult (p : Program) (values : List ValType) (h : Held) (w : World) (t : ℕ) (task : Task) (f : Lifted) : Type 0 where
  pub types : p.types.now ≡ values
  pub acts : Acts w t task f
  pub runs : task.callee ≡ Func f
  pub returned : (callee : kept.Callee) → callee_of p.graph.now callee ≡ Some (Func f) → MayBeAt values (returned_of p callee) f.func_type.result
  pub no_borrow : held_borrow f.func_type.result ≡ false
  pub memory : HasMemory h w f.options
  pub memories : (number : ℕ) → HasMemory h w (options_at p.graph.now number)
  pub own : (at : ℕ) (resources : List ℕ) → resources_of p at ≡ Some resources → AreOwn resources (defines p.graph.now at)

-- Once the result is lifted, what is kept has its marks: of them the borrow handles of the task are asked.
abbrev pub MarksBehind : Done (Option TypedValue) → Type 0
MarksBehind d = (value : Option TypedValue) (k : Held) → d ≡ Gives value k → HasMarks k

-- `task.return`, by a canonical function of the instance whose function the task runs: from where its type and its options are tested.
pub record ReturnsBy (p : Program) (values : List ValType) (h : Held) (t number : ℕ) (f : Lifted) (b : Builtin) (result : Option ValType) (options : Options) : Type 0 where
  pub there : canon_at p.graph.now number ≡ Some (canon.Builtin b)
  pub is : b.kind ≡ kind.TaskReturn result options
  pub own : b.instance ≡ f.instance
  pub typed : MayBeAt values (value_of p number) result
  pub calls : h.rest ≡ rest.Calls number
  pub marks : MarksBehind (returned_lifted p t number h)

abbrev pub TaskReturnsResult : Type 0
TaskReturnsResult =
    (p : Program) (values : List ValType) (s : Script) (h : Held) (stacks : List (List Stack)) (u w : World) (t number : ℕ) (task : Task) (f : Lifted) (b : Builtin)
    (result : Option ValType) (options : Options) (before lines ahead : List Label) (d : Done Flow)
    → PassesResult p values h w t task f → ReturnsBy p values h t number f b result options → StandsMarked p.graph.now values s h stacks w → h.labels ≡ before ++ (lines ++ ahead)
    → Meets p.graph.now s u lines (behind ahead (returns p.graph.now t (control_at h) w)) → Returns p t number h d
    → LeadsOn p.graph.now values s t u before stacks d

-- The core function of a task that is lifted without `async` has ended with these words.
abbrev pub TaskEndsWithResult : Type 0
TaskEndsWithResult =
    (p : Program) (values : List ValType) (s : Script) (h : Held) (stacks : List (List Stack)) (u w : World) (t : ℕ) (task : Task) (f : Lifted) (words : List ℕ)
    (before lines ahead : List Label) (d : Done Flow)
    → PassesResult p values h w t task f → MarksBehind (ended_lifted p t words h) → StandsMarked p.graph.now values s h stacks w → h.labels ≡ before ++ (lines ++ ahead)
    → Meets p.graph.now s u lines (behind ahead (func_ended p.graph.now t task f Sync words w)) → SyncEnds p t words h d
    → LeadsOnBy p.graph.now values s t u before stacks (λ what k. (what ≡ flow.Rests) × ComesBy p.graph.now values s u before k stacks (λ v. v.control ≡ Leaves)) d
