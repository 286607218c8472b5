-- Tasks (Component Model, CanonicalABI.md, "Task State" and "Subtask State"): what is kept of one stands for one of the machine. How many
-- borrow handles it has, the state that its caller sees, and whether a task waits for it directly are kept beside it, and are not said here;
-- and of the words of the call at which it waits the place of a wait on a set is said alone.
use Rattle.std.specs.Prelude.{◌≡◌, ℕ, List, Option, Some, None}
use Rattle.std.specs.List.{filter_map}
use Rattle.std.specs.Option.{option_map}
use Rattle.syntax_trees.specs.declared.value.Value.{Value}
use Rattle.comp_graph.specs.declared.graph.CanonFunc.{CanonFunc}
use Rattle.comp_graph.specs.declared.graph.CanonFunc.TheVariants as canon
use Rattle.comp_graph.specs.declared.graph.FuncRef.{FuncRef}
use Rattle.comp_graph.specs.declared.graph.Resource.{Resource}
use Rattle.comp_graph.specs.Graph.{Graph, Lifted, func_at}
use Rattle.script_reader.specs.declared.script.Call.{Call}
use Rattle.script_reader.specs.declared.script.Item.{Item}
use Rattle.script_reader.specs.declared.script.Item.TheVariants as item
use Rattle.script_reader.specs.Script.{Script}
use Rattle.task_table.specs.declared.caller.Called.{Called}
use Rattle.task_table.specs.declared.caller.Caller as kept
use Rattle.task_table.specs.declared.caller.Caller.TheVariants as by
use Rattle.task_table.specs.declared.errand.Callee as runs
use Rattle.task_table.specs.declared.errand.Callee.TheVariants as callee
use Rattle.task_table.specs.declared.errand.Errand.{Errand}
use Rattle.task_table.specs.declared.errand.Errand.TheVariants as errand
use Rattle.task_table.specs.declared.slot.TaskSlot.{TaskSlot}
use Rattle.world_parts.specs.Slots.{word_in}
use Rattle.abi_machine.specs.World.{Callee, Init, Func, Destroys, Subtask, Caller, Nobody, Host, Guest, Wait, ForYield, ForSet, ForCall, ForCopy, ForCancel, TaskState, New, Acting, AfterCall, AfterCancel, Begins, WaitsToEnter, InLoop, InBuiltin, Exited, Task}
use Rattle.abi_machine.specs.Canons.{canon_at, flag_at, lifted_of, resource_at, destructor_of}
use Rattle.abi_machine.specs.Reading.{func_of, kind_of, numbered}
use Rattle.abi_machine.specs.Counting.{phase_of, caller_view}
use Rattle.abi_machine.specs.Cancelling.{first_of}

-- What a task does, by the numbers of the graph: the function of an export, one that is lowered, or the destructor of a resource.
abbrev pub lowered_in : Option CanonFunc → Option Callee
lowered_in None = None
lowered_in (Some (canon.Lower l)) = Some (Func (lifted_of l))
lowered_in (Some (canon.Builtin b)) = None

abbrev pub destroyed_by : ℕ → ℕ → Option FuncRef → Option Callee
destroyed_by resource instance None = None
destroyed_by resource instance (Some core) = Some (Destroys resource (destructor_of instance core))

abbrev pub destroyed_in : ℕ → Option Resource → Option Callee
destroyed_in resource None = None
destroyed_in resource (Some r) = destroyed_by resource r.instance r.destructor

abbrev pub callee_of : Graph → runs.Callee → Option Callee
callee_of g callee.Init = Some Init
callee_of g (callee.Export number) = option_map Func (func_at g number)
callee_of g (callee.Lowered number) = lowered_in (canon_at g number)
callee_of g (callee.Destroys resource) = destroyed_in resource (resource_at g resource)

-- The component instance in which it runs is that of its function. Of one that instantiates nothing is said.
abbrev pub RunsIn : ℕ → Option Lifted → Type 0
RunsIn instance None = Unit {0}
RunsIn instance (Some f) = instance ≡ f.instance

-- The calls of a script, which are counted from 1.
abbrev pub call_in : Item → Option Call
call_in (item.Call call) = Some call
call_in (item.Cancel number) = None

abbrev pub calls_of : List Item → List Call
calls_of items = filter_map call_in items

abbrev pub IsCallOf : Script → ℕ → List Value → Type 0
IsCallOf s number values = (call : Call) × (numbered (calls_of s.items) number ≡ Some call) × (call.values ≡ values)

-- Who called it, and the caller's side of the call.
pub record SubtaskStands (k : Called) (a : Subtask) : Type 0 where
  pub caller : k.by ≡ a.by
  pub by_canon : k.canon ≡ a.canon
  pub passed : k.words ≡ a.words
  pub was_told : k.subtask.told ≡ a.told
  pub lent : k.subtask.lends ≡ a.lends
  pub kept : k.result ≡ a.result

abbrev pub CallerStands : Script → kept.Caller → Caller → Type 0
CallerStands s by.Nobody Nobody = Unit {0}
CallerStands s by.Nobody (Host call values) = ⊥
CallerStands s by.Nobody (Guest subtask) = ⊥
CallerStands s (by.Host number) Nobody = ⊥
CallerStands s (by.Host number) (Host call values) = (number ≡ call) × IsCallOf s number values
CallerStands s (by.Host number) (Guest subtask) = ⊥
CallerStands s (by.Guest called) Nobody = ⊥
CallerStands s (by.Guest called) (Host call values) = ⊥
CallerStands s (by.Guest called) (Guest subtask) = SubtaskStands called subtask

-- what it is at, beside its phase
abbrev pub errand_of : TaskState → Errand
errand_of New = errand.None
errand_of Acting = errand.None
errand_of (AfterCall callee number words) = errand.AfterCall callee number
errand_of (AfterCancel callee number words) = errand.AfterCancel callee number (first_of words)
errand_of (Begins n) = errand.Begins n
errand_of WaitsToEnter = errand.None
errand_of (InLoop word) = errand.None
errand_of (InBuiltin number words wait) = errand.InBuiltin number
errand_of Exited = errand.None

-- the place that a wait on a set was called with, by the words that are kept and those of the wait
abbrev pub SamePlace : List ℕ → List ℕ → Type 0
SamePlace kept words = (place : ℕ) × (word_in kept 1 ≡ Some place) × (word_in words 1 ≡ Some place)

abbrev pub WaitPlaced : List ℕ → List ℕ → Wait → Type 0
WaitPlaced kept words ForYield = Unit {0}
WaitPlaced kept words (ForSet index) = SamePlace kept words
WaitPlaced kept words (ForCall callee) = Unit {0}
WaitPlaced kept words (ForCopy index) = Unit {0}
WaitPlaced kept words (ForCancel index) = Unit {0}

abbrev pub IsPlaced : List ℕ → TaskState → Type 0
IsPlaced kept New = Unit {0}
IsPlaced kept Acting = Unit {0}
IsPlaced kept (AfterCall callee number words) = Unit {0}
IsPlaced kept (AfterCancel callee number words) = Unit {0}
IsPlaced kept (Begins n) = Unit {0}
IsPlaced kept WaitsToEnter = Unit {0}
IsPlaced kept (InLoop word) = Unit {0}
IsPlaced kept (InBuiltin number words wait) = WaitPlaced kept words wait
IsPlaced kept Exited = Unit {0}

-- A task.
pub record TaskStands (g : Graph) (s : Script) (k : TaskSlot) (a : Task) : Type 0 where
  pub does : callee_of g k.callee ≡ Some a.callee
  pub place : RunsIn k.instance (func_of a.callee)
  pub lifted : k.task.kind ≡ kind_of a
  pub called : CallerStands s k.caller a.caller
  pub seen : k.task.caller ≡ caller_view a.caller
  pub far : k.task.phase ≡ phase_of (flag_at g) a.state
  pub at : k.errand ≡ errand_of a.state
  pub resolved : k.task.resolution ≡ a.resolution
  pub cancelled : k.task.cancellation ≡ a.cancellation
  pub words : k.context ≡ a.context
  pub placed : IsPlaced k.at_words a.state
