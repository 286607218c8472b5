-- What comes next (Component Model, Concurrency.md, "Summary"): a step, or the end, but where a rule looks up what is not there. What the
-- rules look up is said by control; most of it is there by what every step keeps, and what else has to be there is said here, for each
-- control.
use Rattle.std.specs.Prelude.{◌≡◌, ◌≤◌, ℕ, true, List, [], drop, Some, None, IsSome, IfSome}
use Rattle.std.specs.List.{slice_get}
use Rattle.wasm_store.specs.Store.{Store, found_at}
use Rattle.wasm_store.specs.Stack.{Stack}
use Rattle.wasm_store.specs.Step.{Move, Goes as GoesBy, Traps}
use Rattle.wasm_store.specs.Step as core
use Rattle.entry_gate.specs.declared.kind.Kind.TheVariants.{Callback}
use Rattle.builtin_kinds.specs.declared.ResourceOp.TheVariants as resource_op
use Rattle.comp_graph.specs.declared.graph.Action.TheVariants.{Make}
use Rattle.comp_graph.specs.declared.graph.FuncRef.{FuncRef}
use Rattle.comp_graph.specs.declared.graph.Resource.{Resource}
use Rattle.comp_graph.specs.declared.graph.BuiltinKind.{BuiltinKind}
use Rattle.comp_graph.specs.declared.graph.BuiltinKind.TheVariants as builtin
use Rattle.comp_graph.specs.declared.graph.CanonFunc.{CanonFunc}
use Rattle.comp_graph.specs.declared.graph.CanonFunc.TheVariants as canon
use Rattle.comp_graph.specs.Graph.{CoreMake, Graph, Lifted, func_named}
use Rattle.script_reader.specs.declared.script.Item.{Item}
use Rattle.script_reader.specs.declared.script.Item.TheVariants as item
use Rattle.script_reader.specs.Script.{Script}
use Rattle.trace_labels.specs.declared.label.Label.{Label}
use Rattle.abi_machine.specs.LoweringOver.{Plan}
use Rattle.abi_machine.specs.Control.{Lowering, HostedState, Going, AtCall, Behind, InLowering, BeforeLeaving, Control, Free, Chosen, Instantiates, Runs, Calls, Lowers, Quiet, Resumes, Delivers}
use Rattle.abi_machine.specs.World.{Task, World, first_world}
use Rattle.abi_machine.specs.Edits.{with_control}
use Rattle.abi_machine.specs.Canons.{func_address, externals, bytes_of, canon_at, resource_at}
use Rattle.abi_machine.specs.Reading.{table_of, func_of, kind_of, may_leave}
use Rattle.abi_machine.specs.Pausing.{Paused, Words, Failed, Asked, settle}
use Rattle.abi_machine.specs.Turn.{Turn, Steps, Ends, Stuck}
use Rattle.abi_machine.specs.Scheduling.{calls_taken}
use Rattle.abi_machine.specs.Next.{next}
use Rattle.abi_machine.specs.Run.{Reaches}
use Rattle.abi_machine.specs.sound.Changes.{IsFirst}
use Rattle.abi_machine.specs.sound.Initial.{RunsAlone}
use Rattle.abi_machine.specs.sound.Tables.{HaveHistories}
use Rattle.abi_machine.specs.sound.Numbers.{IsNumbered}
use Rattle.abi_machine.specs.sound.Acting.{IsOrdered}
use Rattle.abi_machine.specs.sound.Called.{HaveCalled}
use Rattle.abi_machine.specs.sound.Callers.{AreByCanons}
use Rattle.abi_machine.specs.sound.OpenCopies.{HoldsCopies}
use Rattle.abi_machine.specs.sound.Loops.{HaveLoops}
use Rattle.abi_machine.specs.sound.SetWaits.{HaveSets}
use Rattle.abi_machine.specs.sound.Subtasks.{HasSubtasks}
use Rattle.abi_machine.specs.sound.Told.{AreTold}
use Rattle.abi_machine.specs.sound.Cancels.{HasCancels}
use Rattle.abi_machine.specs.sound.Guests.{WaitAs}
use Rattle.abi_machine.specs.sound.Picked.{IsPicked}
use Rattle.abi_machine.specs.sound.Taken.{CallsHaveTasks}
use Rattle.abi_machine.specs.sound.Events.{HasEvents}
use Rattle.abi_machine.specs.sound.Owners.{IsApart, IsOwnWorld, IsControlOwn}

-- a step or the end
abbrev pub HasNext : Turn → Type 0
HasNext (Steps labels w) = Unit {0}
HasNext (Ends end) = Unit {0}
HasNext Stuck = ⊥

-- Core functions, by their addresses: that of a function, and those that are called when its result was lifted, and with an event.
abbrev pub IsFuncThere : Store → FuncRef → Type 0
IsFuncThere s f = IsSome (found_at s.funcs (func_address s f))

pub record AreFuncsThere (s : Store) (f : Lifted) : Type 0 where
  pub core : IsFuncThere s f.core
  pub post_return : IfSome f.options.post_return (IsFuncThere s)
  pub callback : IfSome f.options.callback (IsFuncThere s)

-- those of the functions that tasks run
abbrev pub HaveFuncs : Store → List Task → Type 0
HaveFuncs s tasks = (t : ℕ) (task : Task) (f : Lifted) → slice_get tasks t ≡ Some task → func_of task.callee ≡ Some f → AreFuncsThere s f

-- Items of the script: a call names an export, and a cancel one of the calls before it, which are counted from 1.
abbrev pub IsItemThere : Graph → Script → Item → World → Type 0
IsItemThere g s (item.Call call) w = IsSome (func_named g call.name)
IsItemThere g s (item.Cancel call) w = (1 ≤ call) × (call ≤ calls_taken s w)

abbrev pub IsNextThere : Graph → Script → World → Type 0
IsNextThere g s w = (i : Item) → slice_get s.items w.taken ≡ Some i → IsItemThere g s i w

-- A core instance that is to be made is one of the graph, and what it imports has addresses.
abbrev pub IsMakeable : Graph → ℕ → World → Type 0
IsMakeable g n w = (number : ℕ) → slice_get g.plan n ≡ Some (Make number) → (c : CoreMake) × (slice_get g.cores number ≡ Some c) × IsSome (externals w.store c.imports)

-- Moves of stacks: a rule of core code applies, and code that is to end with a word does.
abbrev pub IsMove : Move → Type 0
IsMove core.Stuck = ⊥
IsMove move = Unit {0}

abbrev pub EndsWithWord : Move → Type 0
EndsWithWord (core.Ends words) = IsSome (slice_get words 0)
EndsWithWord move = Unit {0}

-- of the acting task, whose last stack is of a function with a callback
pub record RunsByRules (s : Store) (task : Task) (k : Stack) : Type 0 where
  pub moves : IsMove (core.next s k)
  pub gives_word : kind_of task ≡ Callback → drop 1 task.stacks ≡ [] → EndsWithWord (core.next s k)

abbrev pub RunsOn : World → Type 0
RunsOn w = (t : ℕ) (task : Task) (k : Stack) → IsFirst t w.chain → slice_get w.tasks t ≡ Some task → slice_get task.stacks 0 ≡ Some k → RunsByRules w.store task k

-- of nested code, of which a realloc gives a place
abbrev pub GivesPlace : Behind → Move → Type 0
GivesPlace (InLowering l k) move = EndsWithWord move
GivesPlace BeforeLeaving move = Unit {0}

abbrev pub HostedOn : Behind → Store → HostedState → Type 0
HostedOn b s (Going k) = IsMove (core.next s k) × GivesPlace b (core.next s k)
HostedOn b s (AtCall number words k) = Unit {0}

-- A lowering that asks for a place has a function that gives one.
abbrev pub AsksAt : Lowering → Paused → Type 0
AsksAt l (Words words) = Unit {0}
AsksAt l (Failed why) = Unit {0}
AsksAt l (Asked ask k) = IsSome l.realloc

abbrev pub AsksOf : Lowering → Plan → World → Type 0
AsksOf l plan w = AsksAt l (settle l.acts_for plan (bytes_of w.store l.memory) (table_of w l.inst)).paused

-- What a canonical function names: one that drops handles a resource, and so its destructor.
abbrev pub IsResourceThere : Graph → Store → ℕ → Type 0
IsResourceThere g s number = (r : Resource) × (resource_at g number ≡ Some r) × IfSome r.destructor (IsFuncThere s)

abbrev pub NamesResource : Graph → Store → BuiltinKind → Type 0
NamesResource g s (builtin.Resource resource_op.Drop number) = IsResourceThere g s number
NamesResource g s kind = Unit {0}

abbrev pub NamesThere : Graph → Store → CanonFunc → Type 0
NamesThere g s (canon.Lower l) = Unit {0}
NamesThere g s (canon.Builtin b) = NamesResource g s b.kind

-- A start function calls a canonical function of the graph; and what a canonical function names is there once all is instantiated, since before that
-- none drops handles.
pub record IsCallable (g : Graph) (number : ℕ) (w : World) : Type 0 where
  pub made : (t : ℕ) (task : Task) → IsFirst t w.chain → slice_get w.tasks t ≡ Some task → func_of task.callee ≡ None → IsSome (canon_at g number)
  pub names : may_leave w ≡ true → (c : CanonFunc) → canon_at g number ≡ Some c → NamesThere g w.store c

-- What is kept, of which the rules are fed.
pub record IsStanding (g : Graph) (s : Script) (w : World) : Type 0 where
  pub alone : RunsAlone w
  pub histories : HaveHistories w.insts
  pub ordered : IsOrdered w
  pub numbered : IsNumbered w
  pub called : HaveCalled w.tasks
  pub by_canons : AreByCanons g w.tasks
  pub waits : WaitAs w.tasks
  pub copies : HoldsCopies g w
  pub loops : HaveLoops w.tasks w.insts
  pub sets : HaveSets w.tasks w.insts
  pub subtasks : HasSubtasks g w
  pub told : AreTold w.tasks
  pub cancels : HasCancels w
  pub own : IsOwnWorld g w
  pub control_own : IsControlOwn g w.control w
  pub picked : IsPicked g s w.control w
  pub taken : CallsHaveTasks s w
  pub events : HasEvents g w

-- What else the rule of a control looks up.
abbrev pub IsFed : Graph → Script → Control → World → Type 0
IsFed g s Free w = IsNextThere g s w
IsFed g s (Chosen k) w = IsNextThere g s w
IsFed g s (Instantiates n) w = IsMakeable g n w
IsFed g s Runs w = RunsOn w × HaveFuncs w.store w.tasks
IsFed g s (Calls number words) w = IsCallable g number w
IsFed g s (Lowers l plan) w = AsksOf l plan w × HaveFuncs w.store w.tasks
IsFed g s (Quiet n b) w = HostedOn b w.store n.state
IsFed g s Resumes w = HaveFuncs w.store w.tasks
IsFed g s (Delivers set receiver pick) w = HaveFuncs w.store w.tasks
IsFed g s control w = Unit {0}

-- Then a step comes next, or the end.
abbrev pub WorldsGoOn : Type 0
WorldsGoOn = (g : Graph) (s : Script) (w : World) → IsStanding g s w → IsFed g s w.control (with_control Free w) → HasNext (next g s w)

-- What is kept holds of each world that is reached, where definitions stay apart. So of these each goes on in which the rest is there.
abbrev pub ReachedStand : Type 0
ReachedStand = (g : Graph) (s : Script) (steps : List (List Label)) (w : World) → IsApart g → Reaches g s (first_world g) steps w → IsStanding g s w

abbrev pub ReachedGoOn : Type 0
ReachedGoOn =
    (g : Graph) (s : Script) (steps : List (List Label)) (w : World) → IsApart g → Reaches g s (first_world g) steps w → IsFed g s w.control (with_control Free w) → HasNext (next g s w)
