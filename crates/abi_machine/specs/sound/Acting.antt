-- What control says of the acting task (Component Model, CanonicalABI.md, "Task State", "Subtask State", `canon lift`; Concurrency.md,
-- "Summary"): it runs, or is new, or was blocked, or waits for one that it called or cancelled, with a stack or without, as what comes next
-- asks; and where no task runs there is none. A trap, and all that may come to one, names it. A task that waits in a canonical function has
-- a stack, and one that waits to enter or in its loop, or has exited, has none.
use Rattle.std.specs.Prelude.{◌≡◌, ℕ, Bool, true, false, List, [], map, Some, IsSome}
use Rattle.std.specs.List.{slice_get}
use Rattle.wasm_store.specs.Stack.{Stack}
use Rattle.comp_graph.specs.Graph.{Graph}
use Rattle.script_reader.specs.Script.{Script}
use Rattle.trace_labels.specs.declared.label.Label.{Label}
use Rattle.trace_labels.specs.declared.trap.TrapName.{TrapName}
use Rattle.abi_machine.specs.declared.run_end.RunEnd.TheVariants.{Trapped}
use Rattle.abi_machine.specs.Control.{After, Replies, Finishes, Then, Starts, Resolves, Transfers, Lowering, Receiver, InWait, InCallback, Behind, InLowering, BeforeLeaving, Control, Free, Chosen, Instantiates, Runs, Calls, Arrives, Lowers, Quiet, Back, Goes, Resumes, Delivers, Leaves, Doomed}
use Rattle.abi_machine.specs.World.{Callee, TaskState, New, Acting, AfterCall, AfterCancel, Begins, WaitsToEnter, InLoop, InBuiltin, Exited, Task, World, first_world}
use Rattle.abi_machine.specs.Reading.{func_of}
use Rattle.abi_machine.specs.Turn.{Steps, Ends}
use Rattle.abi_machine.specs.Next.{next}
use Rattle.abi_machine.specs.Run.{Reaches}
use Rattle.abi_machine.specs.sound.Changes.{IsFirst, IsBlocked}
use Rattle.abi_machine.specs.sound.Initial.{RunsAlone}
use Rattle.abi_machine.specs.sound.Chain.{IsAt, IsChained}

-- what a task does, its state, and its stacks
pub record Outline : Type 0 where
  pub callee : Callee
  pub state : TaskState
  pub stacks : List Stack

abbrev pub outline_of : Task → Outline
outline_of task = record { callee = task.callee; state = task.state; stacks = task.stacks }

abbrev pub outlines_of : List Task → List Outline
outlines_of tasks = map outline_of tasks

-- There is a stack, or there is none.
abbrev pub HasStacks : Bool → List Stack → Type 0
HasStacks true stacks = IsSome (slice_get stacks 0)
HasStacks false stacks = stacks ≡ []

-- A task that waits runs a function, with a stack where it waits in a canonical function, and without one where it is new, waits to enter, or is in
-- its loop. One that has exited has none.
abbrev pub WaitsWith : Bool → Outline → Type 0
WaitsWith stacked o = IsSome (func_of o.callee) × HasStacks stacked o.stacks

abbrev pub StandsBy : TaskState → Outline → Type 0
StandsBy New o = WaitsWith false o
StandsBy (AfterCall callee number words) o = WaitsWith true o
StandsBy (AfterCancel callee number words) o = WaitsWith true o
StandsBy WaitsToEnter o = WaitsWith false o
StandsBy (InLoop word) o = WaitsWith false o
StandsBy (InBuiltin number words wait) o = WaitsWith true o
StandsBy Exited o = HasStacks false o.stacks
StandsBy state o = Unit {0}

abbrev pub HaveStacks : List Outline → Type 0
HaveStacks outlines = (t : ℕ) (o : Outline) → slice_get outlines t ≡ Some o → StandsBy o.state o

-- A task instantiates; it acts in a function; its stack makes moves, in a function or in a start function; it is new; it waits for one that
-- it called or cancelled; it was blocked.
abbrev pub IsStarting : Outline → Type 0
IsStarting o = (o.state ≡ Acting) × HasStacks false o.stacks

abbrev pub IsActing : Bool → Outline → Type 0
IsActing stacked o = IsSome (func_of o.callee) × (o.state ≡ Acting) × HasStacks stacked o.stacks

abbrev pub RunsIn : TaskState → Callee → Type 0
RunsIn Acting callee = IsSome (func_of callee)
RunsIn (Begins n) callee = Unit {0}
RunsIn state callee = ⊥

abbrev pub IsRunning : Outline → Type 0
IsRunning o = RunsIn o.state o.callee × HasStacks true o.stacks

abbrev pub IsNew : Outline → Type 0
IsNew o = o.state ≡ New

abbrev pub IsWaitingFor : TaskState → Type 0
IsWaitingFor (AfterCall callee number words) = Unit {0}
IsWaitingFor (AfterCancel callee number words) = Unit {0}
IsWaitingFor state = ⊥

abbrev pub IsCalling : Outline → Type 0
IsCalling o = IsWaitingFor o.state

abbrev pub WasBlocked : Outline → Type 0
WasBlocked o = IsBlocked o.state

-- the acting task, of this number, and any one
abbrev pub ActsAs : (Outline → Type 0) → ℕ → List Outline → List ℕ → Type 0
ActsAs P t outlines chain = IsFirst t chain × IsAt outlines t P

abbrev pub OneActs : (Outline → Type 0) → List Outline → List ℕ → Type 0
OneActs P outlines chain = (t : ℕ) × ActsAs P t outlines chain

-- whether the acting task has a stack: behind a result, in a lowering, in nested code, and where an event comes to it
abbrev pub stacked_after : After → Bool
stacked_after Replies = true
stacked_after (Finishes words) = false

abbrev pub stacked_then : Then → Bool
stacked_then Starts = false
stacked_then (Resolves to follows) = stacked_after follows
stacked_then (Transfers copying) = true

abbrev pub stacked_behind : Behind → Bool
stacked_behind (InLowering l k) = stacked_then l.next
stacked_behind BeforeLeaving = false

abbrev pub stacked_receiver : Receiver → Bool
stacked_receiver (InWait number words) = true
stacked_receiver InCallback = false

-- A lowering names the acting task where it fails, and where it is of a result this is the acting task's.
abbrev pub FollowsFor : Then → List ℕ → Type 0
FollowsFor Starts chain = Unit {0}
FollowsFor (Resolves to follows) chain = IsFirst to chain
FollowsFor (Transfers copying) chain = Unit {0}

abbrev pub LowersFor : Lowering → List ℕ → Type 0
LowersFor l chain = IsFirst l.blame chain × FollowsFor l.next chain

abbrev pub BehindFor : Behind → List ℕ → Type 0
BehindFor (InLowering l k) chain = LowersFor l chain
BehindFor BeforeLeaving chain = Unit {0}

abbrev pub ActsBy : Control → List Outline → List ℕ → Type 0
ActsBy Free outlines chain = chain ≡ []
ActsBy (Chosen k) outlines chain = chain ≡ []
ActsBy (Instantiates n) outlines chain = OneActs IsStarting outlines chain
ActsBy Runs outlines chain = OneActs IsRunning outlines chain
ActsBy (Calls number words) outlines chain = OneActs IsRunning outlines chain
ActsBy Arrives outlines chain = OneActs IsNew outlines chain
ActsBy (Lowers l plan) outlines chain = OneActs (IsActing (stacked_then l.next)) outlines chain × LowersFor l chain
ActsBy (Quiet n b) outlines chain = OneActs (IsActing (stacked_behind b)) outlines chain × IsFirst n.blame chain × BehindFor b chain
ActsBy Back outlines chain = OneActs IsCalling outlines chain
ActsBy Goes outlines chain = OneActs WasBlocked outlines chain
ActsBy Resumes outlines chain = OneActs WasBlocked outlines chain
ActsBy (Delivers set receiver pick) outlines chain = OneActs (IsActing (stacked_receiver receiver)) outlines chain
ActsBy Leaves outlines chain = OneActs (IsActing false) outlines chain
ActsBy (Doomed t why) outlines chain = IsFirst t chain

abbrev pub IsOrdered : World → Type 0
IsOrdered w = IsChained w × HaveStacks (outlines_of w.tasks) × ActsBy w.control (outlines_of w.tasks) w.chain

-- So it is in the first world, and so it stays. Then a trap that ends a run names the acting task.
abbrev pub FirstOrdered : Type 0
FirstOrdered = (g : Graph) → IsOrdered (first_world g)

abbrev pub OrderStays : Type 0
OrderStays = (g : Graph) (s : Script) (w v : World) (labels : List Label) → RunsAlone w → IsOrdered w → next g s w ≡ Steps labels v → IsOrdered v

abbrev pub TrapsNameTheActingTask : Type 0
TrapsNameTheActingTask =
    (g : Graph) (s : Script) (steps : List (List Label)) (w : World) (t : ℕ) (why : TrapName) → Reaches g s (first_world g) steps w → next g s w ≡ Ends (Trapped t why)
    → IsFirst t w.chain
