-- Typed stacks (Core 2.0, the appendix on soundness; Component Model, CanonicalABI.md, "Flattening", `canon lift`, `canon resource.drop`): in a typed
-- store the acting task's stack is typed where it makes moves, each task that waits in a canonical function goes on with words of that
-- one's results, and what is called is given words of its parameters. So it is of nested code. The core instances that were made are the
-- graph's, and have what their modules say.
use Rattle.std.specs.Prelude.{◌≡◌, ℕ, true, List, [], ◌∷◌, Some}
use Rattle.std.specs.List.{slice_get, AllByRecursion}
use Rattle.syntax_trees.specs.declared.module_types.ValType.{ValType}
use Rattle.syntax_trees.specs.declared.module_types.FuncType.{FuncType}
use Rattle.wasm_numbers.specs.Types.{AreWords}
use Rattle.wasm_store.specs.Store.{Host as HostFunction, Store}
use Rattle.wasm_store.specs.Stack.{Stack}
use Rattle.wasm_store.specs.Step.{resume}
use Rattle.wasm_store.specs.Typed.{StoreTyped, Extends, StackTyped}
use Rattle.comp_graph.specs.declared.graph.CanonFunc.{CanonFunc}
use Rattle.comp_graph.specs.Needs.{lift_type, realloc_type}
use Rattle.comp_graph.specs.Graph.{Graph, canon_type}
use Rattle.script_reader.specs.Script.{Script}
use Rattle.trace_labels.specs.declared.label.Label.{Label}
use Rattle.abi_machine.specs.Control.{HostedState, Going, AtCall, Nested, Behind, InLowering, BeforeLeaving, Control, Instantiates, Runs, Calls, Quiet}
use Rattle.abi_machine.specs.World.{Callee, Init, Func, Destroys, TaskState, AfterCall, AfterCancel, Begins, InBuiltin, Task, World, first_world}
use Rattle.abi_machine.specs.Canons.{canon_at}
use Rattle.abi_machine.specs.Reading.{is_instantiated}
use Rattle.abi_machine.specs.Turn.{goes_on_with, Steps}
use Rattle.abi_machine.specs.Next.{next}
use Rattle.abi_machine.specs.sound.Changes.{IsFirst}
use Rattle.abi_machine.specs.sound.Firsts.{FirstIs, TaskIs}
use Rattle.abi_machine.specs.sound.Initial.{RunsAlone}
use Rattle.abi_machine.specs.sound.Acting.{IsOrdered}
use Rattle.abi_machine.specs.sound.Owners.{HasCanons}
use Rattle.abi_machine.specs.sound.MadeInstances.{IsTypedGraph, WereMade, WereMadeSoFar}

-- what the core function of a task gives; and its stack over others, which is that of a destructor
abbrev pub core_results : Callee → List ValType
core_results Init = []
core_results (Func f) = (lift_type f.options f.func_type).results
core_results (Destroys resource f) = (lift_type f.options f.func_type).results

abbrev pub gives : Callee → List Stack → List ValType
gives callee [] = core_results callee
gives callee (k ∷ under) = []

-- A stack that waits for words of the first types goes on with them to words of the second. Those under a stack wait for its end.
abbrev pub IsWaiting : Store → List ValType → List ValType → Stack → Type 0
IsWaiting s asked results k = (answers : List ℕ) → AreWords asked answers → StackTyped s results (resume answers k)

abbrev pub WaitBelow : Store → Callee → List Stack → Type 0
WaitBelow s callee [] = Unit {0}
WaitBelow s callee (k ∷ under) = IsWaiting s [] (gives callee under) k × WaitBelow s callee under

-- what the acting stack of a task is, by what it gives
abbrev pub TopIs : (List ValType → Stack → Type 0) → Store → Callee → List Stack → Type 0
TopIs P s callee [] = ⊥
TopIs P s callee (k ∷ under) = P (gives callee under) k × WaitBelow s callee under

-- It makes moves; it waits in the canonical function of a number; it has called this with words.
abbrev pub RunsTyped : Store → Task → Type 0
RunsTyped s task = TopIs (StackTyped s) s task.callee task.stacks

abbrev pub WaitsTyped : Graph → Store → ℕ → Task → Type 0
WaitsTyped g s number task = (c : CanonFunc) × (canon_at g number ≡ Some c) × TopIs (IsWaiting s (canon_type c).results) s task.callee task.stacks

abbrev pub CallsTyped : Graph → Store → ℕ → List ℕ → Task → Type 0
CallsTyped g s number words task =
    (c : CanonFunc) × (canon_at g number ≡ Some c) × AreWords (canon_type c).params words × TopIs (IsWaiting s (canon_type c).results) s task.callee task.stacks

-- by its state, and by what comes next
abbrev pub StandsTyped : Graph → Store → TaskState → Task → Type 0
StandsTyped g s (AfterCall callee number words) task = WaitsTyped g s number task
StandsTyped g s (AfterCancel callee number words) task = WaitsTyped g s number task
StandsTyped g s (InBuiltin number words wait) task = WaitsTyped g s number task
StandsTyped g s (Begins n) task = WereMadeSoFar g s n
StandsTyped g s state task = Unit {0}

abbrev pub StandTyped : Graph → Store → List Task → Type 0
StandTyped g s tasks = AllByRecursion (λ task. StandsTyped g s task.state task) tasks

-- Nested code, by what follows it: a realloc gives a place.
abbrev pub nested_results : Behind → List ValType
nested_results (InLowering l k) = realloc_type.results
nested_results BeforeLeaving = []

abbrev pub HostedTyped : Graph → Store → List ValType → HostedState → Type 0
HostedTyped g s results (Going k) = StackTyped s results k
HostedTyped g s results (AtCall number words k) =
    (c : CanonFunc) × (canon_at g number ≡ Some c) × AreWords (canon_type c).params words × IsWaiting s (canon_type c).results results k

abbrev pub ActsTyped : Graph → Control → Store → List Task → List ℕ → Type 0
ActsTyped g (Instantiates n) s tasks chain = WereMadeSoFar g s n
ActsTyped g Runs s tasks chain = FirstIs tasks chain (RunsTyped s)
ActsTyped g (Calls number words) s tasks chain = FirstIs tasks chain (CallsTyped g s number words)
ActsTyped g (Quiet n b) s tasks chain = HostedTyped g s (nested_results b) n.state
ActsTyped g control s tasks chain = Unit {0}

-- Functions of the host are the canonical functions of the graph.
abbrev pub HostsAreCanons : Graph → Store → Type 0
HostsAreCanons g s = (address : ℕ) (type : FuncType) → slice_get s.funcs address ≡ Some (HostFunction type) → (c : CanonFunc) × (canon_at g address ≡ Some c) × (canon_type c ≡ type)

pub record AreTyped (g : Graph) (control : Control) (s : Store) (tasks : List Task) (chain : List ℕ) : Type 0 where
  pub store : StoreTyped s
  pub canons : HasCanons g s
  pub hosts : HostsAreCanons g s
  pub made : is_instantiated tasks ≡ true → WereMade s g.cores
  pub stand : StandTyped g s tasks
  pub acts : ActsTyped g control s tasks chain

abbrev pub IsTyped : Graph → World → Type 0
IsTyped g w = AreTyped g w.control w.store w.tasks w.chain

-- So it is in the first world, and so it stays where core instances are made, and where the acting task's stack makes moves and goes on to
-- make some, calls a canonical function, or was that of a start function.
abbrev pub IsOfStack : Control → Type 0
IsOfStack Runs = Unit {0}
IsOfStack (Calls number words) = Unit {0}
IsOfStack (Instantiates n) = Unit {0}
IsOfStack control = ⊥

abbrev pub FirstTyped : Type 0
FirstTyped = (g : Graph) → IsTypedGraph g → IsTyped g (first_world g)

abbrev pub InstantiationStaysTyped : Type 0
InstantiationStaysTyped =
    (g : Graph) (s : Script) (w v : World) (labels : List Label) (n : ℕ) → IsTypedGraph g → w.control ≡ Instantiates n → RunsAlone w → IsOrdered w → IsTyped g w → next g s w ≡ Steps labels v → IsTyped g v

abbrev pub MovesStayTyped : Type 0
MovesStayTyped =
    (g : Graph) (s : Script) (w v : World) (labels : List Label) → w.control ≡ Runs → IsOrdered w → IsTyped g w → next g s w ≡ Steps labels v → IsOfStack v.control → IsTyped g v

-- So it stays where nested code makes moves.
abbrev pub NestedMovesStayTyped : Type 0
NestedMovesStayTyped =
    (g : Graph) (s : Script) (w v : World) (labels : List Label) (n : Nested) (b : Behind) (k : Stack) → w.control ≡ Quiet n b → n.state ≡ Going k → IsTyped g w → next g s w ≡ Steps labels v → IsTyped g v

-- A task that acts, and whose stack waits in a canonical function, goes on typed with words of its results.
abbrev pub AnswersAreTyped : Type 0
AnswersAreTyped =
    (g : Graph) (w : World) (t number : ℕ) (c : CanonFunc) (words : List ℕ) → IsFirst t w.chain → TaskIs w.tasks t (WaitsTyped g w.store number) → canon_at g number ≡ Some c
    → AreWords (canon_type c).results words → FirstIs (goes_on_with t words w).tasks w.chain (RunsTyped w.store)

-- What stands typed in a store stands typed in each store that extends it, with the same core instances.
abbrev pub StayTypedLater : Type 0
StayTypedLater = (g : Graph) (s t : Store) (tasks : List Task) → Extends s t → t.instances ≡ s.instances → StandTyped g s tasks → StandTyped g t tasks
