-- The changes of worlds (Component Model, CanonicalABI.md, "Component Instance State", "Task State", "Subtask State", "Waitable Set State",
-- "Stream State" and "Future State"; Concurrency.md): each step makes some of these, and no other change.
use Rattle.std.specs.Prelude.{ℕ, zero, suc, ◌+◌, List, [], ◌∷◌, ◌++◌, map, length, drop, Option, Some, None}
use Rattle.wasm_store.specs.Store.{Store, found_at}
use Rattle.wasm_store.specs.Stack.{Stack}
use Rattle.wasm_store.specs.Step.{resume}
use Rattle.wasm_store.specs.Effects as core
use Rattle.wasm_memory.specs.Memories.{MemoryState, with_bytes}
use Rattle.syntax_trees.specs.declared.types.ValType.{ValType}
use Rattle.syntax_trees.specs.declared.value.Value.{Value}
use Rattle.handle_table.specs.History.{Event, Add, Remove, next_index}
use Rattle.builtin_kinds.specs.declared.EndKind.{EndKind}
use Rattle.builtin_kinds.specs.declared.EndKind.TheVariants as kind
use Rattle.waitables.specs.Sets.{SetView}
use Rattle.waitables.specs.Sets as sets
use Rattle.tasks.specs.declared.phase.Resolution.{Resolution}
use Rattle.tasks.specs.declared.phase.Cancellation.{Cancellation}
use Rattle.tasks.specs.declared.subtask_state.SubtaskState.{SubtaskState}
use Rattle.tasks.specs.Views.{SubtaskView}
use Rattle.tasks.specs.Subtasks.{delivered, with_lend}
use Rattle.stream_ends.specs.declared.side.Side.{Side}
use Rattle.stream_ends.specs.declared.open_copy.OpenCopy.{OpenCopy}
use Rattle.stream_ends.specs.Ends.{Ends}
use Rattle.stream_ends.specs.Closed as stream
use Rattle.future_ends.specs.Closed as future
use Rattle.abi_machine.specs.Control.{EndRef, Control, Free, Back}
use Rattle.abi_machine.specs.World.{Entry, Inst, Callee, Subtask, Caller, Nobody, Host, Guest, TaskState, New, Task, Channel, World, new_inst, new_task, new_channel}

-- What stands at a place of a list, counted from 0, is changed; where nothing stands nothing is. The same of places counted from 1.
abbrev pub changed_at : {A : Type 0} → ℕ → (A → A) → List A → List A
changed_at place f [] = []
changed_at zero f (x ∷ xs) = f x ∷ xs
changed_at (suc place) f (x ∷ xs) = x ∷ changed_at place f xs

abbrev pub changed_number : {A : Type 0} → ℕ → (A → A) → List A → List A
changed_number zero f xs = xs
changed_number (suc place) f xs = changed_at place f xs

-- What a run has once.

abbrev pub with_control : Control → World → World
with_control control w = record w { control = control }

abbrev pub with_store : Store → World → World
with_store s w = record w { store = s }

-- A memory has these bytes in place of its own; where there is no memory nothing changes.
abbrev pub rewritten : Option (ℕ × MemoryState) → List ℕ → Store → Store
rewritten None bytes s = s
rewritten (Some m) bytes s = core.with_memory m.0 (with_bytes m.1 bytes) s

abbrev pub with_memory : Option ℕ → List ℕ → World → World
with_memory memory bytes w = with_store (rewritten (found_at w.store.memories memory) bytes w.store) w

abbrev pub unit_spent : World → World
unit_spent w = record w { units = w.units + 1 }

-- so many picks are used
abbrev pub picked : ℕ → World → World
picked picks w = record w { picks = picks }

abbrev pub item_taken : World → World
item_taken w = record w { taken = w.taken + 1 }

-- Component instances: one begins, an entry stands at the next index or leaves its index, a set is made, a waitable joins a set as its last
-- member or is in none, and the backpressure is another.
abbrev pub instance_begun : World → World
instance_begun w = record w { insts = w.insts ++ new_inst ∷ [] }

abbrev pub with_inst : ℕ → (Inst → Inst) → World → World
with_inst i f w = record w { insts = changed_at i f w.insts }

abbrev pub added : Entry → List (Event Entry) → List (Event Entry)
added entry table = Add (next_index table) entry ∷ table

abbrev pub with_table : ℕ → (List (Event Entry) → List (Event Entry)) → World → World
with_table i f w = with_inst i (λ inst. record inst { table = f inst.table }) w

abbrev pub entry_added : ℕ → Entry → World → World
entry_added i entry w = with_table i (added entry) w

abbrev pub entry_removed : ℕ → ℕ → World → World
entry_removed i index w = with_table i (λ table. Remove index ∷ table) w

abbrev pub with_sets : ℕ → (List (List ℕ) → List (List ℕ)) → World → World
with_sets i f w = with_inst i (λ inst. record inst { sets = f inst.sets }) w

abbrev pub set_made : ℕ → World → World
set_made i w = with_sets i (λ sets. sets ++ [] ∷ []) w

abbrev pub set_view : List ℕ → SetView
set_view members = record { members = members; waiters = 0 }

abbrev pub by_views : (List SetView → List SetView) → List (List ℕ) → List (List ℕ)
by_views f sets = map (λ (s : SetView). s.members) (f (map set_view sets))

abbrev pub left_set : ℕ → ℕ → World → World
left_set i waitable w = with_sets i (by_views (sets.left waitable)) w

abbrev pub joined : ℕ → ℕ → ℕ → World → World
joined i waitable set w = with_sets i (by_views (sets.joined waitable set)) w

abbrev pub with_backpressure : ℕ → ℕ → World → World
with_backpressure i backpressure w = with_inst i (λ inst. record inst { backpressure = backpressure }) w

-- The next task is made, and one begins to act, or stops.
abbrev pub task_made : Callee → Caller → World → World
task_made callee caller w = record w { tasks = w.tasks ++ new_task callee caller New ∷ [] }

abbrev pub chained : ℕ → World → World
chained t w = record w { chain = t ∷ w.chain }

abbrev pub unchained : World → World
unchained w = record w { chain = drop 1 w.chain }

-- The acting task leaves the chain. Control goes to the task before it, where there is one.
abbrev pub control_behind : List ℕ → Control
control_behind [] = Free
control_behind (t ∷ below) = Back

abbrev pub left_chain : World → World
left_chain w = (let v = unchained w in with_control (control_behind v.chain) v)

-- What is changed in a task, by its number.
abbrev pub with_task : ℕ → (Task → Task) → World → World
with_task t f w = record w { tasks = changed_at t f w.tasks }

abbrev pub in_state : ℕ → TaskState → World → World
in_state t state w = with_task t (λ task. record task { state = state }) w

abbrev pub resolved : ℕ → Resolution → World → World
resolved t resolution w = with_task t (λ task. record task { resolution = Some resolution }) w

abbrev pub with_cancellation : ℕ → Cancellation → World → World
with_cancellation t cancellation w = with_task t (λ task. record task { cancellation = cancellation }) w

-- one of the two words of context
abbrev pub word_changed : ℕ → ℕ → ℕ × ℕ → ℕ × ℕ
word_changed zero word context = (word, context.1)
word_changed (suc slot) word context = (context.0, word)

abbrev pub word_set : ℕ → ℕ → ℕ → World → World
word_set t slot word w = with_task t (λ task. record task { context = word_changed slot word task.context }) w

-- A task gets a further stack, its acting stack becomes another one, or has ended.
abbrev pub stacked : ℕ → Stack → World → World
stacked t k w = with_task t (λ task. record task { stacks = k ∷ task.stacks }) w

abbrev pub with_stack : ℕ → Stack → World → World
with_stack t k w = with_task t (λ task. record task { stacks = k ∷ drop 1 task.stacks }) w

abbrev pub unstacked : ℕ → World → World
unstacked t w = with_task t (λ task. record task { stacks = drop 1 task.stacks }) w

-- The acting stack of a task, which waits at a call, gets the words of the answer.
abbrev pub answered_stacks : List ℕ → List Stack → List Stack
answered_stacks words [] = []
answered_stacks words (k ∷ under) = resume words k ∷ under

abbrev pub answered : ℕ → List ℕ → World → World
answered t words w = with_task t (λ task. record task { stacks = answered_stacks words task.stacks }) w

-- What is changed in the caller's side of the call of a task.
abbrev pub caller_changed : (Subtask → Subtask) → Caller → Caller
caller_changed f Nobody = Nobody
caller_changed f (Host call values) = Host call values
caller_changed f (Guest subtask) = Guest (f subtask)

abbrev pub with_subtask : ℕ → (Subtask → Subtask) → World → World
with_subtask t f w = with_task t (λ task. record task { caller = caller_changed f task.caller }) w

-- A handle of the caller's is lent for the call of a task; the caller is told a state, and with the last one all that is lent is given back.
abbrev pub subtask_view : ℕ → SubtaskState → Subtask → SubtaskView
subtask_view t state subtask = record { callee = t; state = state; told = subtask.told; lends = subtask.lends }

abbrev pub by_view : (SubtaskView → SubtaskView) → ℕ → SubtaskState → Subtask → Subtask
by_view f t state subtask = (let v = f (subtask_view t state subtask) in record subtask { told = v.told; lends = v.lends })

abbrev pub lent : ℕ → ℕ → World → World
lent t handle w = with_subtask t (λ subtask. by_view (with_lend handle) t subtask.told subtask) w

abbrev pub told : ℕ → SubtaskState → World → World
told t state w = with_subtask t (by_view delivered t state) w

-- The core values of a task's result are kept for its caller.
abbrev pub result_kept : ℕ → List ℕ → World → World
result_kept t words w = with_subtask t (λ subtask. record subtask { result = words }) w

-- Streams and futures: one is made, and what is changed in one.
abbrev pub channel_made : EndKind → Option ValType → World → World
channel_made kind.Stream element w = record w { streams = w.streams ++ new_channel element ∷ [] }
channel_made kind.Future element w = record w { futures = w.futures ++ new_channel element ∷ [] }

abbrev pub with_channel : EndKind → ℕ → (Channel → Channel) → World → World
with_channel kind.Stream number f w = record w { streams = changed_number number f w.streams }
with_channel kind.Future number f w = record w { futures = changed_number number f w.futures }

abbrev pub with_ends : EndRef → (Ends → Ends) → World → World
with_ends e f w = with_channel e.kind e.number (λ c. record c { ends = f c.ends }) w

-- A read or write at an end meets the other end.
abbrev pub offered_by : EndKind → Side → OpenCopy → Ends → Ends
offered_by kind.Stream side call ends = stream.offered side call ends
offered_by kind.Future side call ends = future.offered side call ends

abbrev pub offered : EndRef → OpenCopy → World → World
offered e call w = with_ends e (offered_by e.kind e.side call) w

-- So many elements go from the one end to the other, which completes the call, whose length is this one.
abbrev pub transferred_by : EndKind → Side → ℕ → ℕ → Ends → Ends
transferred_by kind.Stream side length count ends = stream.transferred side length count ends
transferred_by kind.Future side length count ends = future.transferred side ends

abbrev pub carried : List (Option Value) → Channel → Channel
carried values c = record c { written = c.written ++ values; read = c.read ++ values }

abbrev pub transferred : EndRef → ℕ → List (Option Value) → World → World
transferred e size values w = with_ends e (transferred_by e.kind e.side size (length values)) (with_channel e.kind e.number (carried values) w)

-- The copy at an end is told, or given up where there is nothing to tell of it.
abbrev pub concluded_by : EndKind → Side → Ends → Ends
concluded_by kind.Stream side ends = stream.concluded side ends
concluded_by kind.Future side ends = future.concluded side ends

abbrev pub concluded : EndRef → World → World
concluded e w = with_ends e (concluded_by e.kind e.side) w

abbrev pub end_dropped : EndRef → World → World
end_dropped e w = with_ends e (stream.after_drop e.side) w
