-- Waitable sets (Component Model, CanonicalABI.md, "Waitable Set State", `canon waitable-set.{wait,poll}`; Concurrency.md, "Waitables and Waitable Sets"):
-- the event of a ready member comes to a task, one of several is picked, and where none is ready a wait blocks and a poll gets no event.
use Rattle.std.specs.Prelude.{◌≡◌, ℕ, List, None, Some, IsSome}
use Rattle.std.specs.List.{slice_get}
use Rattle.syntax_trees.specs.declared.types.ValType.{ValType}
use Rattle.wasm_store.specs.Stack.{Stack}
use Rattle.builtin_kinds.specs.declared.WaitOp.{WaitOp}
use Rattle.comp_graph.specs.Graph.{Graph, Lifted}
use Rattle.script_reader.specs.Script.{Script}
use Rattle.instances.specs.declared.entry.WorldEntry.TheVariants as entry
use Rattle.instances.specs.Instances.{InstanceView, entry_of}
use Rattle.task_table.specs.declared.caller.Called.{Called}
use Rattle.task_table.specs.declared.slot.TaskSlot.{TaskSlot}
use Rattle.world_parts.specs.declared.parts.Receiver as kept
use Rattle.world_parts.specs.declared.parts.Receiver.TheVariants as receiver
use Rattle.world_parts.specs.Views.{Views}
use Rattle.world_parts.specs.Held.{Held}
use Rattle.world_parts.specs.Slots.{word_in}
use Rattle.world_parts.specs.Events.{delivers, polls}
use Rattle.world_parts.specs.News as news
use Rattle.world_parts.specs.Waits.{set_wait}
use Rattle.abi_machine.specs.Control.{Receiver, InCallback, Delivers}
use Rattle.abi_machine.specs.World.{Acting, Inst, Task, World}
use Rattle.abi_machine.specs.Canons.{options_at}
use Rattle.abi_machine.specs.Reading.{func_of}
use Rattle.abi_machine.specs.Counting.{ready}
use Rattle.abi_machine.specs.Edits.{with_control}
use Rattle.abi_machine.specs.Delivering.{set_polled}
use Rattle.abi_machine.specs.Next.{next}
use Rattle.abi_machine.specs.replies.Waiting.{wait_turn}
use Rattle.standing.specs.Stands.{Stands}
use Rattle.standing.specs.Channels.{HasMarkedEnds}
use Rattle.standing.specs.Moves.{CallKept}
use Rattle.standing.specs.Ends.{Sees, HasMemory}
use Rattle.standing.specs.Replies.{HasItsSets}
use Rattle.standing.specs.Resolutions.{HasWords}
use Rattle.standing.specs.Events.{SeesCallbacks, AgreesOn, Hears}

-- The ready members of a set are the same, in the same order.
abbrev pub ReadyAlike : Views → Held → World → ℕ → ℕ → Type 0
ReadyAlike v h w at set = news.ready v at set h ≡ ready w at set

-- Of each subtask in the table of an instance its call is kept.
abbrev pub KeepsCalls : Held → ℕ → Type 0
KeepsCalls h at =
    (index callee : ℕ) (i : InstanceView) → slice_get h.instances at ≡ Some i → entry_of i index ≡ Some (entry.Subtask callee)
    → (slot : TaskSlot) × (called : Called) × CallKept h at callee slot called

-- what is known of an instance to whose task the event of a member of a set comes
pub record HasNews (values : List ValType) (v : Views) (h : Held) (w : World) (at set : ℕ) : Type 0 where
  pub inside : IsSome (slice_get w.insts at)
  pub ready : ReadyAlike v h w at set
  pub ends : HasMarkedEnds h
  pub calls : KeepsCalls h at

-- The event of a ready member comes to the acting task; and the same of a poll in its loop, which gets no event where none is ready.
abbrev pub EventIsDelivered : Type 0
EventIsDelivered =
    (g : Graph) (values : List ValType) (s : Script) (v : Views) (h : Held) (stacks : List (List Stack)) (w : World) (t set : ℕ) (f : Lifted) (r : kept.Receiver) (to : Receiver)
    → Hears g v h w t f r to → slice_get w.chain 0 ≡ Some t → HasNews values v h w f.instance set → Stands g values s h stacks w
    → AgreesOn g values s t h.labels stacks (delivers v t f.instance r set h) (next g s (with_control (Delivers set to None) w))

abbrev pub SetIsPolled : Type 0
SetIsPolled =
    (g : Graph) (values : List ValType) (s : Script) (v : Views) (h : Held) (stacks : List (List Stack)) (w : World) (t set : ℕ) (f : Lifted)
    → Hears g v h w t f receiver.InCallback InCallback → slice_get w.chain 0 ≡ Some t → HasNews values v h w f.instance set → Stands g values s h stacks w
    → AgreesOn g values s t h.labels stacks (polls v t f.instance receiver.InCallback set h) (set_polled g t f set (ready w f.instance set) w)

-- The acting task waits for an event of a set, or polls it.
abbrev pub SetIsWaitedFor : Type 0
SetIsWaitedFor =
    (g : Graph) (values : List ValType) (s : Script) (v : Views) (h : Held) (stacks : List (List Stack)) (w : World) (t canon word place : ℕ) (op : WaitOp) (task : Task) (f : Lifted)
    (inst : Inst) (words : List ℕ)
    → Sees g v → SeesCallbacks g v → word_in words 0 ≡ Some word → word_in words 1 ≡ Some place → HasWords h t words → HasMemory h w (options_at g canon)
    → slice_get w.chain 0 ≡ Some t → slice_get w.tasks t ≡ Some task → task.state ≡ Acting → func_of task.callee ≡ Some f
    → slice_get w.insts f.instance ≡ Some inst → HasItsSets inst → ((set : ℕ) → HasNews values v h w f.instance set) → Stands g values s h stacks w
    → AgreesOn g values s t h.labels stacks (set_wait v t f.instance canon op words h) (wait_turn g t task f.instance op canon words w)
