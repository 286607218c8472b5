-- How built-ins answer (Component Model, CanonicalABI.md, "Canonical Definitions"): what is kept does what the machine does. A built-in is of a
-- component instance that is there, and is called by a task that is there, with words that are those of its core type.
use Rattle.std.specs.Prelude.{◌≡◌, ◌<◌, ℕ, List, Some, IsSome, length, slice_index}
use Rattle.std.specs.List.{slice_get}
use Rattle.syntax_trees.specs.declared.types.ValType.{ValType}
use Rattle.wasm_store.specs.Stack.{Stack}
use Rattle.handle_table.specs.History.{live}
use Rattle.waitables.specs.Sets.{set_at}
use Rattle.comp_graph.specs.Graph.{Graph}
use Rattle.script_reader.specs.Script.{Script}
use Rattle.instances.specs.declared.entry.WorldEntry.TheVariants as entry
use Rattle.instances.specs.Instances.{InstanceView, entry_of}
use Rattle.world_parts.specs.Held.{Held}
use Rattle.world_parts.specs.Slots.{word_in}
use Rattle.world_parts.specs.Plain.{context_get, context_put, backpressure_inc, backpressure_dec, backpressure_set}
use Rattle.world_parts.specs.Handles.{resource_new, resource_rep}
use Rattle.world_parts.specs.Waits.{set_new, set_drop, waitable_join}
use Rattle.world_parts.specs.Subtasks.{subtask_drop}
use Rattle.abi_machine.specs.World.{OfSet, Inst, World}
use Rattle.abi_machine.specs.Counting.{waiters_of}
use Rattle.abi_machine.specs.Reply.{exempt_turn}
use Rattle.abi_machine.specs.replies.Context.{word_answer, set_answer, rep_answer}
use Rattle.abi_machine.specs.replies.Pressure.{pressure_inc_turn, pressure_dec_turn, pressure_set_turn}
use Rattle.abi_machine.specs.replies.Resources.{resource_new_turn}
use Rattle.abi_machine.specs.replies.Waiting.{set_new_turn, set_drop_turn, join_turn}
use Rattle.abi_machine.specs.replies.Subtasks.{subtask_drop_turn}
use Rattle.standing.specs.Stands.{Stands}
use Rattle.standing.specs.Agreeing.{Agrees}

-- Words of context: of the task of this number.
abbrev pub ContextIsRead : Type 0
ContextIsRead =
    (g : Graph) (values : List ValType) (s : Script) (h : Held) (stacks : List (List Stack)) (w : World) (t slot : ℕ)
    → IsSome (slice_get w.tasks t) → Stands g values s h stacks w → Agrees g values s t h.labels stacks (context_get t slot h) (exempt_turn t (word_answer t slot w) w)

abbrev pub ContextIsSet : Type 0
ContextIsSet =
    (g : Graph) (values : List ValType) (s : Script) (h : Held) (stacks : List (List Stack)) (w : World) (t slot word : ℕ) (words : List ℕ)
    → word_in words 0 ≡ Some word → IsSome (slice_get w.tasks t) → Stands g values s h stacks w
    → Agrees g values s t h.labels stacks (context_put t slot words h) (exempt_turn t (set_answer t slot (slice_index words 0) w) w)

-- Resources: of the instance of this number.
abbrev pub RepIsRead : Type 0
RepIsRead =
    (g : Graph) (values : List ValType) (s : Script) (h : Held) (stacks : List (List Stack)) (w : World) (t at resource word : ℕ) (words : List ℕ)
    → word_in words 0 ≡ Some word → IsSome (slice_get w.insts at) → Stands g values s h stacks w
    → Agrees g values s t h.labels stacks (resource_rep t at resource words h) (exempt_turn t (rep_answer at resource (slice_index words 0) w) w)

abbrev pub HandleIsMade : Type 0
HandleIsMade =
    (g : Graph) (values : List ValType) (s : Script) (h : Held) (stacks : List (List Stack)) (w : World) (t at resource word : ℕ) (words : List ℕ)
    → word_in words 0 ≡ Some word → IsSome (slice_get w.insts at) → Stands g values s h stacks w
    → Agrees g values s t h.labels stacks (resource_new t at resource words h) (resource_new_turn t at resource (slice_index words 0) w)

-- Backpressure.
abbrev pub PressureRises : Type 0
PressureRises =
    (g : Graph) (values : List ValType) (s : Script) (h : Held) (stacks : List (List Stack)) (w : World) (t at : ℕ)
    → IsSome (slice_get w.insts at) → Stands g values s h stacks w → Agrees g values s t h.labels stacks (backpressure_inc t at h) (pressure_inc_turn t at w)

abbrev pub PressureFalls : Type 0
PressureFalls =
    (g : Graph) (values : List ValType) (s : Script) (h : Held) (stacks : List (List Stack)) (w : World) (t at : ℕ)
    → IsSome (slice_get w.insts at) → Stands g values s h stacks w → Agrees g values s t h.labels stacks (backpressure_dec t at h) (pressure_dec_turn t at w)

abbrev pub PressureIsSet : Type 0
PressureIsSet =
    (g : Graph) (values : List ValType) (s : Script) (h : Held) (stacks : List (List Stack)) (w : World) (t at word : ℕ) (words : List ℕ)
    → word_in words 0 ≡ Some word → IsSome (slice_get w.insts at) → Stands g values s h stacks w
    → Agrees g values s t h.labels stacks (backpressure_set t at words h) (pressure_set_turn t at (slice_index words 0) w)

-- Waitable sets.
abbrev pub SetIsMade : Type 0
SetIsMade =
    (g : Graph) (values : List ValType) (s : Script) (h : Held) (stacks : List (List Stack)) (w : World) (t at : ℕ)
    → IsSome (slice_get w.insts at) → Stands g values s h stacks w → Agrees g values s t h.labels stacks (set_new t at h) (set_new_turn t at w)

-- A waitable leaves its set, and joins another one. Each set that stands in the table was made.
abbrev pub HasItsSets : Inst → Type 0
HasItsSets inst = (index set : ℕ) → live inst.table index ≡ Some (OfSet set) → set < length inst.sets

abbrev pub WaitableIsJoined : Type 0
WaitableIsJoined =
    (g : Graph) (values : List ValType) (s : Script) (h : Held) (stacks : List (List Stack)) (w : World) (t at word other : ℕ) (words : List ℕ) (inst : Inst)
    → word_in words 0 ≡ Some word → word_in words 1 ≡ Some other → slice_get w.insts at ≡ Some inst → HasItsSets inst → Stands g values s h stacks w
    → Agrees g values s t h.labels stacks (waitable_join t at words h) (join_turn t at (slice_index words 0) (slice_index words 1) w)

-- A set leaves the table, where as many tasks are kept to wait on it as wait on its index.
abbrev pub CountsWaiters : World → ℕ → InstanceView → Type 0
CountsWaiters w at i = (index set : ℕ) → entry_of i index ≡ Some (entry.Set set) → (set_at i.sets set).waiters ≡ waiters_of w at index

abbrev pub SetIsDropped : Type 0
SetIsDropped =
    (g : Graph) (values : List ValType) (s : Script) (h : Held) (stacks : List (List Stack)) (w : World) (t at word : ℕ) (words : List ℕ) (inst : Inst) (i : InstanceView)
    → word_in words 0 ≡ Some word → slice_get w.insts at ≡ Some inst → HasItsSets inst → slice_get h.instances at ≡ Some i → CountsWaiters w at i
    → Stands g values s h stacks w
    → Agrees g values s t h.labels stacks (set_drop t at words h) (set_drop_turn t at (slice_index words 0) w)

-- A subtask leaves the table.
abbrev pub SubtaskIsDropped : Type 0
SubtaskIsDropped =
    (g : Graph) (values : List ValType) (s : Script) (h : Held) (stacks : List (List Stack)) (w : World) (t at word : ℕ) (words : List ℕ)
    → word_in words 0 ≡ Some word → IsSome (slice_get w.insts at) → Stands g values s h stacks w
    → Agrees g values s t h.labels stacks (subtask_drop t at words h) (subtask_drop_turn t at (slice_index words 0) w)
