-- What is asked where values are passed (Component Model, CanonicalABI.md, "Lifting and Lowering Values", `canon lift`, `canon task.return`, `canon stream.{read,write}`), where it
-- follows from the rest before, at which what was kept stood for a world that a run reaches: of the result of a task that returns, of the core results with which a function or a
-- callback ended, and of elements that go over.
use Rattle.std.specs.Prelude.{◌≡◌, ℕ, List, Some}
use Rattle.syntax_trees.specs.declared.types.FuncType.{FuncType}
use Rattle.syntax_trees.specs.declared.types.ValType.{ValType}
use Rattle.wasm_store.specs.Stack.{Stack}
use Rattle.comp_graph.specs.Graph.{Graph, Lifted}
use Rattle.comp_graph.specs.Passed.{MayBeAt}
use Rattle.script_reader.specs.Script.{Script}
use Rattle.copy_replies.specs.Moves.{element_at}
use Rattle.task_table.specs.declared.errand.Callee as kept
use Rattle.programs.specs.declared.program.Program.{Program}
use Rattle.programs.specs.Program.{value_of, returned_of}
use Rattle.program_maker.specs.Programs as made
use Rattle.world_parts.specs.declared.parts.Copying.{Copying}
use Rattle.world_parts.specs.declared.parts.Flow.TheVariants as flow
use Rattle.world_parts.specs.declared.parts.Rest.TheVariants as rest
use Rattle.world_parts.specs.Held.{Held, Gives}
use Rattle.world_stacks.specs.Views.{PileView}
use Rattle.value_parts.specs.declared.to_pass.Passing.TheVariants as passing
use Rattle.machine_runs.specs.declared.stepping.Step.TheVariants as step
use Rattle.machine_runs.specs.Moving.{acting_of, woken}
use Rattle.machine_runs.specs.Stepping.{RunSteps}
use Rattle.machine_runs.specs.Worlds.{handed}
use Rattle.abi_machine.specs.World.{Callee, Func, World}
use Rattle.abi_machine.specs.Canons.{options_at}
use Rattle.abi_machine.specs.Reading.{func_of}
use Rattle.abi_machine.specs.sound.GraphFuncs.{IsOfGraph}
use Rattle.abi_machine.specs.sound.Scripts.{IsScriptFor}
use Rattle.reach_laws.specs.KnownPlans.{InstancesBegin}
use Rattle.reach_laws.specs.Runnable.{IsRunnable}
use Rattle.standing.specs.Channels.{HasMarkedEnds}
use Rattle.standing.specs.KeptMarks.{HasMarks}
use Rattle.standing.specs.Stands.{Stands}
use Rattle.standing.specs.Tasks.{callee_of}
use Rattle.run_laws.specs.Answering.{HasTypes}
use Rattle.run_laws.specs.Points.{stacks_at}
use Rattle.run_laws.specs.Steps.{PassesThere}
use Rattle.run_laws.specs.Supplied.{RestsReached, PassesFor, KeepsMemories, NamesFirst}
use Rattle.run_laws.specs.Transfers.{HasTestedPlace}
use Rattle.run_laws.specs.keeping.Tables.{TablesWell}

-- Of a program the numbers of what functions give and of what built-ins pass are those of their types.
pub record NumbersTypes (p : Program) (values : List ValType) : Type 0 where
  pub returned : (callee : kept.Callee) (f : Lifted) → callee_of p.graph.now callee ≡ Some (Func f) → MayBeAt values (returned_of p callee) f.func_type.result
  pub passed : (number : ℕ) → MayBeAt values (value_of p number) (element_at p.graph.now number)

-- In a graph no module has two memories, so that options name first ones.
pub record NamesFirstMemories (g : Graph) : Type 0 where
  pub canons : (number : ℕ) → NamesFirst (options_at g number)
  pub functions : (callee : Callee) (f : Lifted) → IsOfGraph g callee → func_of callee ≡ Some f → NamesFirst f.options

-- What is kept where values are to be passed stands for a world in the midst of a turn, and what is kept beside it is right.
pub record IsBehind (p : Program) (values : List ValType) (s : Script) (later : Held) (now : List (List Stack)) (v : World) : Type 0 where
  pub stands : Stands p.graph.now values s later now v
  pub marks : HasMarks later
  pub ends : HasMarkedEnds later
  pub tables : TablesWell later
  pub memories : KeepsMemories later

-- The program is of its graph and the script; options of the graph name first memories, and its plan begins the instances that are named.
pub record IsProgramOf (p : Program) (values : List ValType) (s : Script) : Type 0 where
  pub funcs : List FuncType
  pub typed : HasTypes p.graph.now values funcs p.ends.now
  pub fits : PassesFor p values s
  pub types : NumbersTypes p values
  pub first : NamesFirstMemories p.graph.now
  pub begin : InstancesBegin p.graph.now

-- A task returns where it called `task.return`, and may.
abbrev pub ReturnedSupplied : Type 0
ReturnedSupplied =
    (p : Program) (values : List ValType) (s : Script) (h : Held) (stacks : List (List Stack)) (w : World) (number : ℕ) → IsProgramOf p values s → RestsReached p values s h stacks w
    → h.rest ≡ rest.Calls number → (later : Held) (now : List (List Stack)) (v : World) → woken p.graph.now p.ends.now h.rest h ≡ Gives flow.Returns later
    → IsBehind p values s later now v → PassesThere p values s (handed later) v passing.Returned

-- Elements go over where a read or a write met an offer, if their place at the reader was tested.
abbrev pub ElementsSupplied : Type 0
ElementsSupplied =
    (p : Program) (values : List ValType) (s : Script) (h : Held) (stacks : List (List Stack)) (w : World) (number : ℕ) (copying : Copying) → IsProgramOf p values s
    → RestsReached p values s h stacks w → h.rest ≡ rest.Calls number → (later : Held) (now : List (List Stack)) (v : World)
    → woken p.graph.now p.ends.now h.rest h ≡ Gives (flow.Copies copying) later → ((t : ℕ) → acting_of later ≡ Some t → HasTestedPlace p (handed later) t copying)
    → IsBehind p values s later now v → PassesThere p values s (handed later) v (passing.Elements copying)

-- It was: by the call itself, where that reads, and where it writes as the read was asked whose offer it meets, since the elements of copies stand inside memories in
-- each world that a run of a graph and a script that fit reaches.
abbrev pub PlacesSupplied : Type 0
PlacesSupplied =
    (p : Program) (values : List ValType) (s : Script) (h : Held) (stacks : List (List Stack)) (w : World) (number : ℕ) (copying : Copying) → IsRunnable p.graph.now s → IsProgramOf p values s
    → RestsReached p values s h stacks w → h.rest ≡ rest.Calls number → (later : Held) (now : List (List Stack)) (v : World)
    → woken p.graph.now p.ends.now h.rest h ≡ Gives (flow.Copies copying) later → IsBehind p values s later now v
    → (t : ℕ) → acting_of later ≡ Some t → HasTestedPlace p (handed later) t copying

-- A stack ran, and the core function or the callback of the acting task has ended with words.
abbrev pub EndedSupplied : Type 0
EndedSupplied =
    (p : Program) (values : List ValType) (s : Script) (h : Held) (piles more : List PileView) (w : World) (words : List ℕ) → IsRunnable p.graph.now s → IsProgramOf p values s
    → RestsReached p values s h (stacks_at piles) w → h.rest ≡ rest.Runs → (later : Held) (v : World) → RunSteps piles h (Gives (step.GoesOn (passing.Ended words), more) later)
    → IsBehind p values s later (stacks_at more) v → PassesThere p values s (handed later) v (passing.Ended words)

-- The program that is made of a graph and a script for it is so.
abbrev pub ProgramsPass : Type 0
ProgramsPass = (g : Graph) (s : Script) (p : Program) → made.IsProgram g s p → IsScriptFor g s → PassesFor p p.types.now s × NumbersTypes p p.types.now
