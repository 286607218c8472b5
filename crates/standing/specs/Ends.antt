-- Built-ins of streams and futures (Component Model, CanonicalABI.md, `canon stream.new`, `canon stream.{read,write}`, `canon
-- stream.cancel-{read,write}`, `canon stream.drop-{readable,writable}` and their fellows of futures): what is kept does what the machine does, up
-- to where elements go over.
use Rattle.std.specs.Prelude.{◌≡◌, ℕ, nat_eq, false, List, slice_index, Option, Some, IsSome}
use Rattle.std.specs.List.{slice_get}
use Rattle.syntax_trees.specs.declared.types.ValType.{ValType}
use Rattle.laid_types.specs.SameTypes.{AreDistinct}
use Rattle.wasm_store.specs.Stack.{Stack}
use Rattle.builtin_kinds.specs.declared.EndKind.{EndKind}
use Rattle.stream_ends.specs.declared.side.Side.{Side}
use Rattle.comp_graph.specs.declared.graph.CanonFunc.{CanonFunc}
use Rattle.comp_graph.specs.declared.graph.Options.{Options}
use Rattle.comp_graph.specs.Graph.{Graph}
use Rattle.script_reader.specs.Script.{Script}
use Rattle.world_parts.specs.Views.{Views}
use Rattle.world_parts.specs.Held.{Held}
use Rattle.world_parts.specs.Places as places
use Rattle.world_parts.specs.Slots.{word_in}
use Rattle.world_parts.specs.Copies.{channel_new, copy_cancel, end_drop}
use Rattle.copy_replies.specs.Reads.{length_in, copy_asked}
use Rattle.abi_machine.specs.Control.{EndRef}
use Rattle.abi_machine.specs.World.{OfEnd, Acting, Task, World}
use Rattle.abi_machine.specs.Canons.{flag_at, options_at, canon_at, inst_of_canon, memory_of}
use Rattle.abi_machine.specs.Reading.{entry_at}
use Rattle.abi_machine.specs.Counting.{passes, end_of}
use Rattle.abi_machine.specs.Reply.{copy_size}
use Rattle.abi_machine.specs.replies.Streams.{channel_new_turn, copy_turn, copy_cancel_turn, end_drop_turn}
use Rattle.standing.specs.Stands.{Stands}
use Rattle.standing.specs.Channels.{IsEndsType, HasMarkedEnds}
use Rattle.standing.specs.Agreeing.{Agrees}

-- What the parts ask of canonical functions is as the graph has it.
pub record Sees (g : Graph) (v : Views) : Type 0 where
  pub flag : (canon : ℕ) → v.flag canon ≡ flag_at g canon
  pub is_async : (canon : ℕ) → v.is_async canon ≡ (options_at g canon).is_async
  pub options : (canon : ℕ) → v.options canon ≡ options_at g canon
  pub made_in : (canon instance : ℕ) → v.made_in canon instance ≡ passes (λ c. nat_eq (inst_of_canon c) instance) (canon_at g canon)

-- The memory that is kept for options is the one that they name.
abbrev pub HasMemory : Held → World → Options → Type 0
HasMemory h w options = places.memory_of options h ≡ memory_of w.store options

-- No end that stands in the table of an instance is dropped.
abbrev pub HasLiveEnds : World → ℕ → Type 0
HasLiveEnds w at = (index : ℕ) (e : EndRef) → entry_at w at index ≡ Some (OfEnd e) → (end_of w e).dropped ≡ false

-- A stream or a future is made, with both its ends: of the type of a number.
abbrev pub ChannelIsMade : Type 0
ChannelIsMade =
    (g : Graph) (values : List ValType) (s : Script) (h : Held) (stacks : List (List Stack)) (w : World) (t at type : ℕ) (kind : EndKind) (element : Option ValType)
    → IsEndsType values kind element type → IsSome (slice_get w.insts at) → Stands g values s h stacks w
    → Agrees g values s t h.labels stacks (channel_new t at kind type h) (channel_new_turn t at kind element w)

-- An end is dropped.
abbrev pub EndIsDropped : Type 0
EndIsDropped =
    (g : Graph) (values : List ValType) (s : Script) (h : Held) (stacks : List (List Stack)) (w : World) (t at type word : ℕ) (kind : EndKind) (side : Side) (element : Option ValType)
    (words : List ℕ)
    → word_in words 0 ≡ Some word → AreDistinct values → IsEndsType values kind element type → HasMarkedEnds h → HasLiveEnds w at → IsSome (slice_get w.insts at)
    → Stands g values s h stacks w
    → Agrees g values s t h.labels stacks (end_drop t at kind side type words h) (end_drop_turn t at kind side element (slice_index words 0) w)

-- The copy of a call that did not wait is given up, or told.
abbrev pub CopyIsCancelled : Type 0
CopyIsCancelled =
    (g : Graph) (values : List ValType) (s : Script) (v : Views) (h : Held) (stacks : List (List Stack)) (w : World) (t at type word : ℕ) (kind : EndKind) (side : Side)
    (element : Option ValType) (words : List ℕ)
    → Sees g v → word_in words 0 ≡ Some word → AreDistinct values → IsEndsType values kind element type → HasMarkedEnds h → IsSome (slice_get w.insts at)
    → Stands g values s h stacks w
    → Agrees g values s t h.labels stacks (copy_cancel v t at kind side type words h) (copy_cancel_turn g t at kind side element (slice_index words 0) w)

-- A read or a write: of the acting task, by the canonical function of a number, with these options.
abbrev pub CopyIsAsked : Type 0
CopyIsAsked =
    (g : Graph) (values : List ValType) (s : Script) (v : Views) (h : Held) (stacks : List (List Stack)) (w : World) (t at canon type word place size : ℕ) (task : Task) (c : CanonFunc)
    (kind : EndKind) (side : Side) (element : Option ValType) (words : List ℕ)
    → Sees g v → canon_at g canon ≡ Some c → inst_of_canon c ≡ at → word_in words 0 ≡ Some word → word_in words 1 ≡ Some place → length_in kind words ≡ Some size → AreDistinct values → IsEndsType values kind element type
    → HasMemory h w (options_at g canon) → HasMarkedEnds h → HasLiveEnds w at → IsSome (slice_get w.insts at)
    → slice_get w.chain 0 ≡ Some t → slice_get w.tasks t ≡ Some task → task.state ≡ Acting → Stands g values s h stacks w
    → Agrees g values s t h.labels stacks (copy_asked v element t at canon kind side type words h)
    (copy_turn g t at canon kind side element (options_at g canon) words (copy_size kind words) w)
