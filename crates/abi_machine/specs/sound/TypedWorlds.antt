-- Worlds once all is instantiated (Core 2.0, the appendix on soundness; Component Model, CanonicalABI.md, "Flattening", "Storing", `canon lift`, `canon
-- lower`): in a typed store whose memories hold bytes each task that waits goes on with words of what it waits at, what is lowered becomes words that are
-- taken and bytes inside, representations and words of context are i32, and what is kept of results is words that the callers take.
use Rattle.std.specs.Prelude.{◌≡◌, ◌<◌, ◌≤◌, ◌+◌, ◌^◌, ◌⊎◌, ℕ, false, slice_index, List, [], ◌∷◌, map, length, Option, Some, None, IsSome}
use Rattle.std.specs.List.{slice_get}
use Rattle.syntax_trees.specs.declared.module_types.ValType.TheVariants.{I32}
use Rattle.syntax_trees.specs.declared.module_types.ValType as core_val
use Rattle.wasm_numbers.specs.Types.{AreWords}
use Rattle.wasm_store.specs.Store.{Function, type_of, Store}
use Rattle.wasm_store.specs.Typed.{StoreTyped}
use Rattle.syntax_trees.specs.declared.types.ValType.{ValType}
use Rattle.tasks.specs.declared.phase.Cancellation.TheVariants.{NotAsked}
use Rattle.comp_graph.specs.declared.graph.CanonFunc.{CanonFunc}
use Rattle.comp_graph.specs.Needs.{lift_type, post_return_type, realloc_type}
use Rattle.comp_graph.specs.Graph.{Graph, Lifted, canon_type}
use Rattle.lowering_laws.specs.StoreBytes.{HasBytesAlone}
use Rattle.abi_machine.specs.LoweringOver.{Plan}
use Rattle.abi_machine.specs.Control.{After, Replies, Finishes, Then, Starts, Resolves, Transfers, Lowering, Behind, InLowering, BeforeLeaving, Receiver, InWait, InCallback, Control, Runs, Calls, Lowers, Quiet, Delivers}
use Rattle.abi_machine.specs.World.{Inst, Callee, Init, Func, Destroys, Subtask, Caller, Nobody, Host, Guest, Wait, ForYield, ForSet, ForCall, ForCopy, ForCancel, TaskState, AfterCancel, InBuiltin, Task, World}
use Rattle.abi_machine.specs.Canons.{canon_at, memory_of, bytes_of, options_at}
use Rattle.abi_machine.specs.Reading.{func_of}
use Rattle.abi_machine.specs.sound.Answers.{IsOfCanon}
use Rattle.abi_machine.specs.sound.Firsts.{FirstIs}
use Rattle.abi_machine.specs.sound.Owners.{HasCanons}
use Rattle.abi_machine.specs.sound.MadeInstances.{WereMade}
use Rattle.abi_machine.specs.sound.Planned.{HaveReps, IsPlanned}
use Rattle.abi_machine.specs.sound.TypedStacks.{core_results, IsWaiting, TopIs, RunsTyped, WaitsTyped, CallsTyped, StandsTyped, HostedTyped, HostsAreCanons, nested_results}
use Rattle.abi_machine.specs.sound.Values.{EachIs}

-- A canonical function gives back one i32; and the eight bytes of an event are inside the memory of a wait.
abbrev pub GivesWord : Graph → ℕ → Type 0
GivesWord g number = (c : CanonFunc) → canon_at g number ≡ Some c → (canon_type c).results ≡ I32 ∷ []

abbrev pub memory_size : Store → Option ℕ → ℕ
memory_size s memory = length (bytes_of s memory)

abbrev pub HasEventRoom : Graph → Store → ℕ → List ℕ → Type 0
HasEventRoom g s number words = slice_index words 1 + 8 ≤ memory_size s (memory_of s (options_at g number))

-- what a task waits at
abbrev pub WaitsFor : Graph → Store → ℕ → List ℕ → Wait → Type 0
WaitsFor g s number words ForYield = GivesWord g number
WaitsFor g s number words (ForSet index) = GivesWord g number × HasEventRoom g s number words
WaitsFor g s number words (ForCall callee) = Unit {0}
WaitsFor g s number words (ForCopy index) = GivesWord g number
WaitsFor g s number words (ForCancel index) = GivesWord g number

abbrev pub WaitsSo : Graph → Store → TaskState → Type 0
WaitsSo g s (AfterCancel callee number words) = GivesWord g number
WaitsSo g s (InBuiltin number words wait) = WaitsFor g s number words wait
WaitsSo g s state = Unit {0}

-- what holds of the caller's side of the call of a task, where a task called it
abbrev pub GuestIs : (Subtask → Type 0) → Caller → Type 0
GuestIs P Nobody = Unit {0}
GuestIs P (Host call values) = Unit {0}
GuestIs P (Guest subtask) = P subtask

abbrev pub IsSync : Graph → Subtask → Type 0
IsSync g subtask = (options_at g subtask.canon).is_async ≡ false

-- Its cancellation is not asked where the caller waits, and nothing is kept of its result before it resolves.
abbrev pub IsFair : Graph → Task → Type 0
IsFair g task = GuestIs (λ subtask. (IsSync g subtask → task.cancellation ≡ NotAsked) × (task.resolution ≡ None → subtask.result ≡ [])) task.caller

abbrev pub HasResult : Graph → Task → Type 0
HasResult g task = GuestIs (λ subtask. IsSome task.resolution → IsSync g subtask → IsOfCanon g subtask.canon subtask.result) task.caller

-- The script's values are of the types of the parameters.
abbrev pub types_of : Lifted → List ValType
types_of f = map (λ p. p.val_type) f.func_type.params

abbrev pub IsGiven : Callee → Caller → Type 0
IsGiven callee Nobody = Unit {0}
IsGiven callee (Host call values) = (f : Lifted) → func_of callee ≡ Some f → EachIs (types_of f) values
IsGiven callee (Guest subtask) = Unit {0}

pub record IsTypedTask (g : Graph) (s : Store) (pending : Option ℕ) (t : ℕ) (task : Task) : Type 0 where
  pub stands : StandsTyped g s task.state task
  pub waits : WaitsSo g s task.state
  pub context : (task.context.0 < 2 ^ 32) × (task.context.1 < 2 ^ 32)
  pub fair : IsFair g task
  pub given : IsGiven task.callee task.caller
  pub result : (pending ≡ Some t) ⊎ HasResult g task

abbrev pub AreTypedTasks : Graph → Store → Option ℕ → List Task → Type 0
AreTypedTasks g s pending tasks = (t : ℕ) (task : Task) → slice_get tasks t ≡ Some task → IsTypedTask g s pending t task

-- the task whose result is lowered
abbrev pub pending_then : Then → Option ℕ
pending_then Starts = None
pending_then (Resolves to follows) = Some to
pending_then (Transfers copying) = None

abbrev pub pending_behind : Behind → Option ℕ
pending_behind (InLowering l k) = pending_then l.next
pending_behind BeforeLeaving = None

abbrev pub pending_of : Control → Option ℕ
pending_of (Lowers l plan) = pending_then l.next
pending_of (Quiet n b) = pending_behind b
pending_of control = None

-- What the core function of a task takes; and a result as the caller's core function gives it back.
abbrev pub core_params : Callee → List core_val.ValType
core_params Init = []
core_params (Func f) = (lift_type f.options f.func_type).params
core_params (Destroys resource f) = (lift_type f.options f.func_type).params

abbrev pub IsResultFor : Graph → Task → List ℕ → Type 0
IsResultFor g task words = GuestIs (λ subtask. IsSync g subtask → IsOfCanon g subtask.canon words) task.caller

-- What the acting task is at while something is lowered, and what the lowering gives.
abbrev pub ResolvesAt : Store → After → Task → Type 0
ResolvesAt s Replies task = TopIs (IsWaiting s []) s task.callee task.stacks
ResolvesAt s (Finishes ended) task = (f : Lifted) → func_of task.callee ≡ Some f → AreWords (post_return_type f.func_type).params ended

abbrev pub LowersAt : Store → Then → Task → Type 0
LowersAt s Starts task = Unit {0}
LowersAt s (Resolves to follows) task = IsSome task.resolution × ResolvesAt s follows task
LowersAt s (Transfers copying) task = TopIs (IsWaiting s (I32 ∷ [])) s task.callee task.stacks

abbrev pub Takes : Graph → Then → Task → List ℕ → Type 0
Takes g Starts task words = AreWords (core_params task.callee) words
Takes g (Resolves to follows) task words = IsResultFor g task words
Takes g (Transfers copying) task words = Unit {0}

abbrev pub GivesPlaces : Store → Option ℕ → Type 0
GivesPlaces s realloc = (address : ℕ) → realloc ≡ Some address → (f : Function) × (slice_get s.funcs address ≡ Some f) × (type_of f ≡ realloc_type)

abbrev pub IsLoweringFor : Store → Lowering → Task → Type 0
IsLoweringFor s l task = LowersAt s l.next task × GivesPlaces s l.realloc

abbrev pub IsBehindFor : Graph → Store → Behind → Task → Type 0
IsBehindFor g s (InLowering l k) task =
    IsLoweringFor s l task × ((place later : ℕ) → place < 2 ^ 32 → memory_size s l.memory ≤ later → IsPlanned (Takes g l.next task) later (k place))
IsBehindFor g s BeforeLeaving task = Unit {0}

abbrev pub IsReceivedAt : Graph → Store → Receiver → Task → Type 0
IsReceivedAt g s (InWait number words) task = WaitsTyped g s number task × GivesWord g number × HasEventRoom g s number words
IsReceivedAt g s InCallback task = core_results task.callee ≡ I32 ∷ []

abbrev pub Acts : Graph → Control → Store → List Task → List ℕ → Type 0
Acts g Runs s tasks chain = FirstIs tasks chain (RunsTyped s)
Acts g (Calls number words) s tasks chain = FirstIs tasks chain (CallsTyped g s number words)
Acts g (Lowers l plan) s tasks chain = FirstIs tasks chain (λ task. IsLoweringFor s l task × IsPlanned (Takes g l.next task) (memory_size s l.memory) plan)
Acts g (Quiet n b) s tasks chain = HostedTyped g s (nested_results b) n.state × FirstIs tasks chain (IsBehindFor g s b)
Acts g (Delivers set receiver pick) s tasks chain = FirstIs tasks chain (IsReceivedAt g s receiver)
Acts g control s tasks chain = Unit {0}

pub record IsGrounded (g : Graph) (s : Store) (tasks : List Task) (insts : List Inst) (pending : Option ℕ) : Type 0 where
  pub store : StoreTyped s
  pub canons : HasCanons g s
  pub hosts : HostsAreCanons g s
  pub bytes : HasBytesAlone s
  pub made : WereMade s g.cores
  pub tasks_are : AreTypedTasks g s pending tasks
  pub reps : HaveReps insts

pub record IsTypedWorld (g : Graph) (w : World) : Type 0 where
  pub ground : IsGrounded g w.store w.tasks w.insts (pending_of w.control)
  pub acts : Acts g w.control w.store w.tasks w.chain

-- What is left of a lowering of elements that are copied puts bytes inside, and asks for places with words.
abbrev pub PutInside : Then → Option ℕ → Plan → Store → Type 0
PutInside Starts memory plan s = Unit {0}
PutInside (Resolves to follows) memory plan s = Unit {0}
PutInside (Transfers copying) memory plan s = IsPlanned (λ words. Unit {0}) (memory_size s memory) plan

abbrev pub ElementsInside : Control → Store → Type 0
ElementsInside (Lowers l plan) s = PutInside l.next l.memory plan s
ElementsInside control s = Unit {0}

abbrev pub PutsInside : World → Type 0
PutsInside w = ElementsInside w.control w.store
