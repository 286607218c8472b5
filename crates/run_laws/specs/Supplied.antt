-- What is asked of a move, of what is kept where a run rests (Component Model, CanonicalABI.md; Concurrency.md, "Summary"), where it follows from three things: what is
-- kept stands for a world, its marks are right, and a run reaches that world. By where the run rests: task 0 instantiates, a task is new, goes on, is back, calls or
-- exits. What else is asked is named, each by itself.
use Rattle.std.specs.Prelude.{◌≡◌, ◌≢◌, ◌⊎◌, ℕ, true, false, List, Option, Some, None, IsSome}
use Rattle.std.specs.List.{slice_get}
use Rattle.syntax_trees.specs.declared.types.FuncType.{FuncType}
use Rattle.syntax_trees.specs.declared.types.ValType.{ValType}
use Rattle.syntax_trees.specs.declared.value.Value.{Value}
use Rattle.laid_types.specs.Known.{Numbered}
use Rattle.wasm_store.specs.Stack.{Stack}
use Rattle.wasm_store.specs.Store.{Instance}
use Rattle.comp_graph.specs.declared.graph.CanonFunc.{CanonFunc}
use Rattle.comp_graph.specs.declared.graph.CoreRef.{CoreRef}
use Rattle.comp_graph.specs.declared.graph.Options.{Options}
use Rattle.comp_graph.specs.Graph.{Graph, Lifted}
use Rattle.script_reader.specs.Script.{Script}
use Rattle.task_table.specs.declared.errand.Callee as kept
use Rattle.programs.specs.declared.program.Program.{Program}
use Rattle.programs.specs.Program.{params_of, host_values, resources_of}
use Rattle.world_parts.specs.declared.parts.Flow.{Flow}
use Rattle.world_parts.specs.declared.parts.Flow.TheVariants as flow
use Rattle.world_parts.specs.declared.parts.Receiver.TheVariants as receiver
use Rattle.world_parts.specs.declared.parts.Rest.{Rest}
use Rattle.world_parts.specs.declared.parts.Rest.TheVariants as rest
use Rattle.world_parts.specs.Held.{Held, Gives}
use Rattle.world_parts.specs.Going.{resumes}
use Rattle.world_parts.specs.Places.{memory_in}
use Rattle.world_parts.specs.Slots.{word_in}
use Rattle.value_parts.specs.declared.to_pass.Passing.TheVariants as passing
use Rattle.machine_runs.specs.Moving.{woken}
use Rattle.abi_machine.specs.Control.{Calls}
use Rattle.abi_machine.specs.World.{OfSubtask, Callee, Func, Destroys, Guest, Subtask, ForSet, AfterCancel, InBuiltin, Task, World}
use Rattle.abi_machine.specs.Canons.{canon_at, inst_of_canon, options_at, defines}
use Rattle.abi_machine.specs.Passing.{params_type}
use Rattle.abi_machine.specs.Reading.{entry_at, func_of, runs_in, may_leave}
use Rattle.abi_machine.specs.sound.Words.{IsPassed}
use Rattle.reach_laws.specs.KnownPlans.{InstancesBegin}
use Rattle.reach_laws.specs.Runnable.{IsRunnable}
use Rattle.standing.specs.Agreeing.{control_at}
use Rattle.standing.specs.Channels.{HasMarkedEnds}
use Rattle.standing.specs.Ends.{HasMemory, HasLiveEnds}
use Rattle.standing.specs.Events.{HasPlace}
use Rattle.standing.specs.KeptMarks.{HasMarks}
use Rattle.standing.specs.Moves.{Acts, KeepsPlace}
use Rattle.standing.specs.News.{CopiesWait}
use Rattle.standing.specs.Plans.{AreOwn}
use Rattle.standing.specs.Stands.{Stands}
use Rattle.standing.specs.Tasks.{callee_of, IsCallOf}
use Rattle.run_laws.specs.Answering.{HasTypes}
use Rattle.run_laws.specs.Destructors.{PassesRep}
use Rattle.run_laws.specs.Reached.{StandsReached}
use Rattle.run_laws.specs.Steps.{TaskWell, HearsBy, MayMove, PassesThere}
use Rattle.run_laws.specs.Taking.{CalledFrom}

-- What is kept of a run that rests stands for a world that a run reaches, and its marks are right.
pub record RestsReached (p : Program) (values : List ValType) (s : Script) (h : Held) (stacks : List (List Stack)) (w : World) : Type 0 where
  pub there : StandsReached p.graph.now values s h stacks w
  pub marks : HasMarks h
  pub ends : HasMarkedEnds h
  pub control : w.control ≡ control_at h

-- This asks in its turn: the component instances of the functions that tasks run are there;
abbrev pub InstancesThere : World → Type 0
InstancesThere w = (n : ℕ) (task : Task) (f : Lifted) → slice_get w.tasks n ≡ Some task → func_of task.callee ≡ Some f → IsSome (slice_get w.insts f.instance)

-- a subtask that stands in the table of an instance was called by a task of that instance, and runs in another one;
pub record IsCalledOut (w : World) (at callee : ℕ) : Type 0 where
  pub from : CalledFrom w at callee
  pub leaves : (task : Task) → slice_get w.tasks callee ≡ Some task → runs_in at task ≡ false

abbrev pub SubtasksAreCalledOut : World → Type 0
SubtasksAreCalledOut w = (at index callee : ℕ) → entry_at w at index ≡ Some (OfSubtask callee) → IsCalledOut w at callee

-- a task cancels another one;
abbrev pub CancelsOthers : World → Type 0
CancelsOthers w = (t callee number : ℕ) (words : List ℕ) (task : Task) → slice_get w.tasks t ≡ Some task → task.state ≡ AfterCancel callee number words → callee ≢ t

-- a task that waits on a set in a built-in has kept the place of the call;
abbrev pub PlacesAreKept : Held → World → Type 0
PlacesAreKept h w =
    (t number index : ℕ) (words : List ℕ) (task : Task) → slice_get w.tasks t ≡ Some task → task.state ≡ InBuiltin number words (ForSet index) → KeepsPlace h t words

-- which lies inside the memory that the canonical function names;
abbrev pub WaitsInside : Graph → Held → World → Type 0
WaitsInside g h w =
    (t number index place : ℕ) (words : List ℕ) (task : Task) → slice_get w.tasks t ≡ Some task → task.state ≡ InBuiltin number words (ForSet index) → word_in words 1 ≡ Some place
    → HasPlace g h w (receiver.InWait number place)

-- and where a canonical function is called, its component instance is there, no end that was dropped stands in its table, a copy that is to be told is waited for
-- directly exactly where its call waits, options name the memories that they name, and it is called with words of its parameters.
pub record CallStillAsked (g : Graph) (h : Held) (w : World) (number : ℕ) : Type 0 where
  pub made : CanonFunc
  pub there : canon_at g number ≡ Some made
  pub inside : IsSome (slice_get w.insts (inst_of_canon made))
  pub ends : HasLiveEnds w (inst_of_canon made)
  pub copies : CopiesWait g w (inst_of_canon made)
  pub memories : (other : ℕ) → HasMemory h w (options_at g other)
  pub passed : (words : List ℕ) → w.control ≡ Calls number words → IsPassed g number words

-- That component instances are there follows from that the plan of the graph begins those that its functions and canonical functions name: by the time when all is
-- instantiated it has begun all, and until then task 0 is alone.
abbrev pub InstancesAreThere : Type 0
InstancesAreThere =
    (g : Graph) (values : List ValType) (s : Script) (h : Held) (stacks : List (List Stack)) (w : World) → StandsReached g values s h stacks w → InstancesBegin g → InstancesThere w

abbrev pub CanonsAreInside : Type 0
CanonsAreInside =
    (g : Graph) (values : List ValType) (s : Script) (h : Held) (stacks : List (List Stack)) (w : World) → StandsReached g values s h stacks w → InstancesBegin g
    → (number : ℕ) (c : CanonFunc) → canon_at g number ≡ Some c → may_leave w ≡ true → IsSome (slice_get w.insts (inst_of_canon c))

-- Some task acts, and this is so of it.
pub record ActingIs (w : World) (P : ℕ → Task → Type 0) : Type 0 where
  pub number : ℕ
  pub task : Task
  pub first : slice_get w.chain 0 ≡ Some number
  pub there : slice_get w.tasks number ≡ Some task
  pub well : P number task

-- All that is asked of the acting task, by where the run rests.
abbrev pub IsSupplied : Program → List ValType → Held → World → Rest → Type 0
IsSupplied p values h w r = ActingIs w (λ t task. TaskWell p values h w t task r)

abbrev pub InstantiatesSupplied : Type 0
InstantiatesSupplied =
    (p : Program) (values : List ValType) (s : Script) (h : Held) (stacks : List (List Stack)) (w : World) (number : ℕ) → RestsReached p values s h stacks w → h.rest ≡ rest.Instantiates number
    → IsSupplied p values h w (rest.Instantiates number)

abbrev pub ArrivesSupplied : Type 0
ArrivesSupplied =
    (p : Program) (values : List ValType) (s : Script) (h : Held) (stacks : List (List Stack)) (w : World) → RestsReached p values s h stacks w → InstancesThere w → h.rest ≡ rest.Arrives
    → IsSupplied p values h w rest.Arrives

abbrev pub GoesSupplied : Type 0
GoesSupplied =
    (p : Program) (values : List ValType) (s : Script) (h : Held) (stacks : List (List Stack)) (w : World) → RestsReached p values s h stacks w → h.rest ≡ rest.Goes
    → IsSupplied p values h w rest.Goes

abbrev pub ResumesSupplied : Type 0
ResumesSupplied =
    (p : Program) (values : List ValType) (s : Script) (h : Held) (stacks : List (List Stack)) (w : World) → RestsReached p values s h stacks w → InstancesThere w → SubtasksAreCalledOut w
    → PlacesAreKept h w → h.rest ≡ rest.Resumes → IsSupplied p values h w rest.Resumes

abbrev pub BackSupplied : Type 0
BackSupplied =
    (p : Program) (values : List ValType) (s : Script) (h : Held) (stacks : List (List Stack)) (w : World) → RestsReached p values s h stacks w → InstancesThere w → SubtasksAreCalledOut w
    → CancelsOthers w → h.rest ≡ rest.Back → IsSupplied p values h w rest.Back

abbrev pub CallsSupplied : Type 0
CallsSupplied =
    (p : Program) (values : List ValType) (s : Script) (h : Held) (stacks : List (List Stack)) (w : World) (number : ℕ) (funcs : List FuncType) → RestsReached p values s h stacks w → InstancesThere w
    → SubtasksAreCalledOut w → CallStillAsked p.graph.now h w number → HasTypes p.graph.now values funcs p.ends.now → h.rest ≡ rest.Calls number → IsSupplied p values h w (rest.Calls number)

abbrev pub LeavesSupplied : Type 0
LeavesSupplied =
    (p : Program) (values : List ValType) (s : Script) (h : Held) (stacks : List (List Stack)) (w : World) → RestsReached p values s h stacks w → InstancesThere w → h.rest ≡ rest.Leaves
    → IsSupplied p values h w rest.Leaves

-- Where a task goes on, what is asked of the event that is to come to it is so; at any other rest no event is to come.
abbrev pub EventsAreHeard : Type 0
EventsAreHeard =
    (p : Program) (values : List ValType) (s : Script) (h : Held) (stacks : List (List Stack)) (w : World) (t : ℕ) (task : Task) (f : Lifted) → RestsReached p values s h stacks w → Acts w t task f
    → SubtasksAreCalledOut w → ((at : ℕ) → CopiesWait p.graph.now w at) → PlacesAreKept h w → WaitsInside p.graph.now h w → (what : Flow) (k : Held) (now : List (List Stack)) (v : World)
    → resumes h ≡ Gives what k → Stands p.graph.now values s k now v → HearsBy p.graph.now k v t what

abbrev pub IsNoResume : Rest → Type 0
IsNoResume (rest.Instantiates number) = Unit {0}
IsNoResume rest.Free = Unit {0}
IsNoResume rest.Arrives = Unit {0}
IsNoResume rest.Goes = Unit {0}
IsNoResume rest.Resumes = ⊥
IsNoResume rest.Back = Unit {0}
IsNoResume rest.Runs = Unit {0}
IsNoResume (rest.Calls number) = Unit {0}
IsNoResume rest.Leaves = Unit {0}

abbrev pub OthersHearNothing : Type 0
OthersHearNothing =
    (g : Graph) (types : List (Option ℕ)) (r : Rest) (h : Held) (what : Flow) (k : Held) (v : World) (t : ℕ) → IsNoResume r → woken g types r h ≡ Gives what k → HearsBy g k v t what

-- So all that is asked of a move is, by where the run rests, with what is asked besides.
abbrev pub MoveStillAsked : Program → List ValType → Held → World → Rest → Type 0
MoveStillAsked p values h w (rest.Instantiates number) = Unit {0}
MoveStillAsked p values h w rest.Free = ⊥
MoveStillAsked p values h w rest.Arrives = InstancesThere w
MoveStillAsked p values h w rest.Goes = Unit {0}
MoveStillAsked p values h w rest.Resumes = InstancesThere w × SubtasksAreCalledOut w × ((at : ℕ) → CopiesWait p.graph.now w at) × PlacesAreKept h w × WaitsInside p.graph.now h w
MoveStillAsked p values h w rest.Back = InstancesThere w × SubtasksAreCalledOut w × CancelsOthers w
MoveStillAsked p values h w rest.Runs = ⊥
MoveStillAsked p values h w (rest.Calls number) =
    InstancesThere w × SubtasksAreCalledOut w × CallStillAsked p.graph.now h w number × ((funcs : List FuncType) × HasTypes p.graph.now values funcs p.ends.now)
MoveStillAsked p values h w rest.Leaves = InstancesThere w

abbrev pub MovesAreSupplied : Type 0
MovesAreSupplied =
    (p : Program) (values : List ValType) (s : Script) (h : Held) (stacks : List (List Stack)) (w : World) → RestsReached p values s h stacks w → MoveStillAsked p values h w h.rest
    → MayMove p values s h w

-- What a program is asked for where values are passed: its table of types, the types of parameters by their numbers, the values of the script's calls, and which resources are
-- an instance's own.
pub record PassesFor (p : Program) (values : List ValType) (s : Script) : Type 0 where
  pub types : p.types.now ≡ values
  pub params : (callee : kept.Callee) (f : Lifted) (type : Numbered) → callee_of p.graph.now callee ≡ Some (Func f) → params_of p callee ≡ Some type → type.val_type ≡ params_type f.func_type
  pub given : (number : ℕ) (all : List Value) → IsCallOf s number all → host_values p number ≡ Some all
  pub own : (at : ℕ) (resources : List ℕ) → resources_of p at ≡ Some resources → AreOwn resources (defines p.graph.now at)

-- What is kept of memories is what options name; laws of words of reached worlds give that a destructor is called with one 32-bit word.
pub record MemoriesNamed (g : Graph) (h : Held) (w : World) : Type 0 where
  pub canons : (number : ℕ) → HasMemory h w (options_at g number)
  pub functions : (t : ℕ) (task : Task) (f : Lifted) → slice_get w.tasks t ≡ Some task → func_of task.callee ≡ Some f → HasMemory h w f.options

abbrev pub RepsArePassed : Graph → World → Type 0
RepsArePassed g w =
    (t resource : ℕ) (task : Task) (subtask : Subtask) (f : Lifted) → slice_get w.tasks t ≡ Some task → task.callee ≡ Destroys resource f → task.caller ≡ Guest subtask → PassesRep g subtask

-- Where a task enters as it arrives, or as it goes on, its arguments may be passed, whatever world what is kept then stands for.
abbrev pub MayArrive : Rest → Type 0
MayArrive r = (r ≡ rest.Arrives) ⊎ (r ≡ rest.Resumes)

abbrev pub ArgumentsSupplied : Type 0
ArgumentsSupplied =
    (p : Program) (values : List ValType) (s : Script) (h : Held) (stacks : List (List Stack)) (w : World) → RestsReached p values s h stacks w → InstancesThere w → PassesFor p values s
    → MemoriesNamed p.graph.now h w → RepsArePassed p.graph.now w → MayArrive h.rest → (k : Held) (now : List (List Stack)) (v : World)
    → woken p.graph.now p.ends.now h.rest h ≡ Gives flow.Enters k → Stands p.graph.now values s k now v → PassesThere p values s k v passing.Arguments

-- Of a graph and a script that fit more is so: core code calls canonical functions with words of their parameters; once all is instantiated the places of waits lie inside
-- memories, where what is kept of memories is what options name; and destructors are called with one 32-bit word.
abbrev pub CallsPassWords : Type 0
CallsPassWords =
    (g : Graph) (values : List ValType) (s : Script) (h : Held) (stacks : List (List Stack)) (w : World) → IsRunnable g s → StandsReached g values s h stacks w → (number : ℕ) (words : List ℕ)
    → w.control ≡ Calls number words → IsPassed g number words

abbrev pub WaitsStandInside : Type 0
WaitsStandInside =
    (g : Graph) (values : List ValType) (s : Script) (h : Held) (stacks : List (List Stack)) (w : World) → IsRunnable g s → StandsReached g values s h stacks w → w.control ≡ control_at h
    → may_leave w ≡ true → ((number : ℕ) → HasMemory h w (options_at g number)) → WaitsInside g h w

abbrev pub DestructorsPassReps : Type 0
DestructorsPassReps =
    (g : Graph) (values : List ValType) (s : Script) (h : Held) (stacks : List (List Stack)) (w : World) → IsRunnable g s → StandsReached g values s h stacks w → RepsArePassed g w

-- So of a graph and a script that fit, whose plan begins the instances, this is left to be asked of a move.
pub record CallLeft (g : Graph) (h : Held) (w : World) (number : ℕ) : Type 0 where
  pub made : CanonFunc
  pub there : canon_at g number ≡ Some made
  pub early : may_leave w ≡ false → IsSome (slice_get w.insts (inst_of_canon made))
  pub ends : HasLiveEnds w (inst_of_canon made)
  pub copies : CopiesWait g w (inst_of_canon made)
  pub memories : (other : ℕ) → HasMemory h w (options_at g other)

abbrev pub MoveLeft : Program → List ValType → Held → World → Rest → Type 0
MoveLeft p values h w (rest.Instantiates number) = Unit {0}
MoveLeft p values h w rest.Free = ⊥
MoveLeft p values h w rest.Arrives = Unit {0}
MoveLeft p values h w rest.Goes = Unit {0}
MoveLeft p values h w rest.Resumes =
    SubtasksAreCalledOut w × ((at : ℕ) → CopiesWait p.graph.now w at) × PlacesAreKept h w × ((number : ℕ) → HasMemory h w (options_at p.graph.now number))
MoveLeft p values h w rest.Back = SubtasksAreCalledOut w × CancelsOthers w
MoveLeft p values h w rest.Runs = ⊥
MoveLeft p values h w (rest.Calls number) = SubtasksAreCalledOut w × CallLeft p.graph.now h w number × ((funcs : List FuncType) × HasTypes p.graph.now values funcs p.ends.now)
MoveLeft p values h w rest.Leaves = Unit {0}

abbrev pub FittingMovesSupplied : Type 0
FittingMovesSupplied =
    (p : Program) (values : List ValType) (s : Script) (h : Held) (stacks : List (List Stack)) (w : World) → IsRunnable p.graph.now s → InstancesBegin p.graph.now → RestsReached p values s h stacks w
    → MoveLeft p values h w h.rest → MayMove p values s h w

-- What is kept of memories is what options name, where of each core instance its first memory is kept, and options name first ones: no module has two.
abbrev pub first_memory : Option Instance → Option ℕ
first_memory None = None
first_memory (Some i) = slice_get i.memories 0

abbrev pub KeepsMemories : Held → Type 0
KeepsMemories h = (n : ℕ) → memory_in (slice_get h.memories n) ≡ first_memory (slice_get h.store.instances n)

abbrev pub NamesFirst : Options → Type 0
NamesFirst options = (m : CoreRef) → options.memory ≡ Some m → m.index ≡ 0

abbrev pub MemoriesAreNamed : Type 0
MemoriesAreNamed =
    (g : Graph) (values : List ValType) (s : Script) (h : Held) (stacks : List (List Stack)) (w : World) (options : Options) → Stands g values s h stacks w → KeepsMemories h → NamesFirst options
    → HasMemory h w options
