-- Marks of ends that built-ins of streams and futures keep (Component Model, CanonicalABI.md, "Stream State", "Future State", "Table State", `canon stream.new`, `canon
-- stream.cancel-{read,write}`, `canon stream.drop-{readable,writable}` and their fellows of futures): an end in a table is of a stream or a future that is there, of
-- its type, and says whether it is idle.
use Rattle.std.specs.Prelude.{◌≡◌, ℕ, List, Some}
use Rattle.std.specs.List.{slice_get}
use Rattle.builtin_kinds.specs.declared.EndKind.{EndKind}
use Rattle.stream_ends.specs.declared.side.Side.{Side}
use Rattle.channels.specs.declared.channel.Channel.{Channel}
use Rattle.channels.specs.Channels.{kind_of}
use Rattle.instances.specs.declared.entry.EndEntry.{EndEntry}
use Rattle.instances.specs.declared.entry.WorldEntry.TheVariants as entry
use Rattle.instances.specs.Instances.{InstanceView, entry_of}
use Rattle.world_parts.specs.Views.{Views}
use Rattle.world_parts.specs.Held.{Held, Done, Gives, Traps, Spent, Stuck}
use Rattle.world_parts.specs.Channels.{place_of, channels}
use Rattle.world_parts.specs.Copies.{channel_new, copy_cancel, end_drop}
use Rattle.standing.specs.Channels.{HasMarkedEnds}

-- They stay.
abbrev pub EndsStay : Held → Held → Type 0
EndsStay h k = HasMarkedEnds h → HasMarkedEnds k

abbrev pub KeepsEnds : {A : Type 0} → Held → Done A → Type 0
KeepsEnds h (Gives x k) = EndsStay h k
KeepsEnds h (Traps why k) = Unit {0}
KeepsEnds h (Spent k) = Unit {0}
KeepsEnds h Stuck = Unit {0}

-- An end at an index of the table of an instance is of the stream or the future at a place, which is of this kind and of the end's type. It stands nowhere else.
pub record EndAlone (h : Held) (at index : ℕ) (kind : EndKind) (e : EndEntry) (place : ℕ) (c : Channel) : Type 0 where
  pub typed : e.end_type ≡ c.end_type
  pub of : kind_of c.ends ≡ kind
  pub once : (other_at other_index : ℕ) (i : InstanceView) (d : EndEntry) → slice_get h.instances other_at ≡ Some i → entry_of i other_index ≡ Some (entry.End d)
      → place_of d.number ≡ Some place → d.end_type ≡ c.end_type → d.side ≡ e.side → (at ≡ other_at) × (index ≡ other_index)

-- So it is of all ends of a type in the table.
abbrev pub EndsAlone : Held → ℕ → EndKind → ℕ → Type 0
EndsAlone h at kind type =
    (index place : ℕ) (x : InstanceView) (e : EndEntry) (c : Channel) → slice_get h.instances at ≡ Some x → entry_of x index ≡ Some (entry.End e) → e.end_type ≡ type
    → place_of e.number ≡ Some place → slice_get (channels kind h) place ≡ Some c → EndAlone h at index kind e place c

-- A stream or a future is made, an end is dropped, and a copy is given up, or told.
abbrev pub EndBuiltinsKeepEnds : Type 0
EndBuiltinsKeepEnds =
    (g : Views) (t at : ℕ) (kind : EndKind) (side : Side) (type : ℕ) (words : List ℕ) (h : Held) → EndsAlone h at kind type
    → KeepsEnds h (channel_new t at kind type h) × KeepsEnds h (end_drop t at kind side type words h) × KeepsEnds h (copy_cancel g t at kind side type words h)
