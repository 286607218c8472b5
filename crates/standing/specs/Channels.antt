-- Streams and futures (Component Model, CanonicalABI.md, "Stream State" and "Future State"): those that are kept are looked up, made and changed as
-- those of the machine are. What is kept beside them: an end in a table is of a stream or a future that is there, of its type, and it is said there
-- whether the end is idle.
use Rattle.std.specs.Prelude.{◌≡◌, ℕ, List, [], ◌∷◌, ◌++◌, Option, Some}
use Rattle.std.specs.List.{slice_get}
use Rattle.syntax_trees.specs.declared.types.ValType.{ValType}
use Rattle.wasm_store.specs.Stack.{Stack}
use Rattle.handle_table.specs.Alike.{SlotAlike}
use Rattle.builtin_kinds.specs.declared.EndKind.{EndKind}
use Rattle.builtin_kinds.specs.declared.EndKind.TheVariants.{Stream, Future}
use Rattle.stream_ends.specs.Ends.{is_idle}
use Rattle.comp_graph.specs.Graph.{Graph, ends_type}
use Rattle.script_reader.specs.Script.{Script}
use Rattle.channels.specs.declared.channel.Channel as kept
use Rattle.channels.specs.Channels.{kind_of, end_in}
use Rattle.instances.specs.declared.entry.EndEntry.{EndEntry}
use Rattle.instances.specs.declared.entry.WorldEntry.TheVariants as entry
use Rattle.instances.specs.Instances.{InstanceView, entry_of}
use Rattle.world_parts.specs.Held.{Held}
use Rattle.world_parts.specs.Channels as kept_channels
use Rattle.world_parts.specs.Channels.{place_of, numbered, channels, with_channels, with_channel}
use Rattle.abi_machine.specs.World.{Channel, World, new_channel}
use Rattle.abi_machine.specs.Edits as world
use Rattle.abi_machine.specs.Reading.{channel_at}
use Rattle.standing.specs.Stands.{ChannelStands, Stands}

-- The type of this number, among the types of values, is that of the streams or the futures of these elements.
abbrev pub IsEndsType : List ValType → EndKind → Option ValType → ℕ → Type 0
IsEndsType values kind element type = slice_get values type ≡ Some (ends_type kind element)

-- What is found by a number, on both sides or on none.
abbrev pub ChannelsAreAlike : Type 0
ChannelsAreAlike =
    (g : Graph) (values : List ValType) (s : Script) (h : Held) (stacks : List (List Stack)) (w : World) (kind : EndKind) (number : ℕ) → Stands g values s h stacks w
    → SlotAlike (ChannelStands values kind) (kept_channels.channel_at kind number h) (channel_at w kind number)

-- One is made, and one is changed.
abbrev pub ChannelsAreMade : Type 0
ChannelsAreMade =
    (g : Graph) (values : List ValType) (s : Script) (h : Held) (stacks : List (List Stack)) (w : World) (kind : EndKind) (c : kept.Channel) (element : Option ValType)
    → ChannelStands values kind c (new_channel element) → Stands g values s h stacks w
    → Stands g values s (with_channels kind (channels kind h ++ c ∷ []) h) stacks (world.channel_made kind element w)

abbrev pub ChannelsChange : Type 0
ChannelsChange =
    (g : Graph) (values : List ValType) (s : Script) (h : Held) (stacks : List (List Stack)) (w : World) (kind : EndKind) (number place : ℕ)
    (x y : kept.Channel) (f : Channel → Channel)
    → place_of number ≡ Some place → slice_get (channels kind h) place ≡ Some x
    → ((a : Channel) → channel_at w kind number ≡ Some a → ChannelStands values kind x a → ChannelStands values kind y (f a)) → Stands g values s h stacks w
    → Stands g values s (with_channel kind place y h) stacks (world.with_channel kind number f w)

-- Of these streams and futures those of a kind.
abbrev pub of_kind : EndKind → List kept.Channel → List kept.Channel → List kept.Channel
of_kind Stream streams futures = streams
of_kind Future streams futures = futures

-- An end in a table is of a stream or a future that is there, and of its type, and says whether it is idle.
pub record EndMarked (streams futures : List kept.Channel) (e : EndEntry) : Type 0 where
  pub kind : EndKind
  pub channel : kept.Channel
  pub there : numbered (of_kind kind streams futures) e.number ≡ Some channel
  pub of : kind_of channel.ends ≡ kind
  pub typed : e.end_type ≡ channel.end_type
  pub idle : e.is_idle ≡ is_idle (end_in e.side channel.ends)

abbrev pub EndsMarked : List InstanceView → List kept.Channel → List kept.Channel → Type 0
EndsMarked instances streams futures =
    (at index : ℕ) (i : InstanceView) (e : EndEntry) → slice_get instances at ≡ Some i → entry_of i index ≡ Some (entry.End e) → EndMarked streams futures e

-- So it is of what is kept.
abbrev pub HasMarkedEnds : Held → Type 0
HasMarkedEnds h = EndsMarked h.instances h.streams h.futures
