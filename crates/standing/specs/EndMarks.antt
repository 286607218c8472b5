-- Marks of ends (Component Model, CanonicalABI.md, "Table State", "Stream State" and "Future State"): that each end in a table is of a stream or a
-- future that is there, and of its type, and says whether it is idle, is so of an instance that begins, and stays so where entries come and go, and
-- where a stream or a future is made, or changed whose ends are said right; and what happens at one end leaves whether the other one is idle.
use Rattle.std.specs.Prelude.{◌≡◌, ℕ, List, [], ◌∷◌, ◌++◌, slice_set, Some}
use Rattle.std.specs.List.{slice_get}
use Rattle.builtin_kinds.specs.declared.EndKind.{EndKind}
use Rattle.builtin_kinds.specs.declared.EndKind.TheVariants.{Stream, Future}
use Rattle.stream_ends.specs.declared.side.Side.{Side}
use Rattle.stream_ends.specs.declared.open_copy.By.{By}
use Rattle.stream_ends.specs.Ends.{other_side, is_idle}
use Rattle.channels.specs.declared.channel.Channel.{Channel}
use Rattle.channels.specs.declared.channel.Ends.{Ends}
use Rattle.channels.specs.Channels as channel
use Rattle.channels.specs.Channels.{kind_of, end_in}
use Rattle.instances.specs.declared.entry.EndEntry.{EndEntry}
use Rattle.instances.specs.declared.entry.WorldEntry.{WorldEntry}
use Rattle.instances.specs.declared.entry.WorldEntry.TheVariants as entry
use Rattle.instances.specs.Entries.{with_idle}
use Rattle.instances.specs.Instances.{InstanceView, new_instance, entry_of, entry_added, entry_removed, entry_changed}
use Rattle.world_parts.specs.Channels.{place_of}
use Rattle.standing.specs.Channels.{of_kind, EndMarked, EndsMarked}

-- what is asked of an entry
abbrev pub EntryMarked : List Channel → List Channel → WorldEntry → Type 0
EntryMarked streams futures (entry.Handle x) = Unit {0}
EntryMarked streams futures (entry.Subtask callee) = Unit {0}
EntryMarked streams futures (entry.Set set) = Unit {0}
EntryMarked streams futures (entry.End e) = EndMarked streams futures e

-- An instance begins, or its table has the same entries.
abbrev pub BegunIsMarked : Type 0
BegunIsMarked =
    (instances : List InstanceView) (streams futures : List Channel) → EndsMarked instances streams futures → EndsMarked (instances ++ new_instance ∷ []) streams futures

abbrev pub SameEntriesStayMarked : Type 0
SameEntriesStayMarked =
    (instances : List InstanceView) (streams futures : List Channel) (at : ℕ) (x y : InstanceView) → slice_get instances at ≡ Some x → y.slots ≡ x.slots
    → EndsMarked instances streams futures → EndsMarked (slice_set instances at y) streams futures

-- One more entry, one less, and another one at an index.
abbrev pub AddedStayMarked : Type 0
AddedStayMarked =
    (instances : List InstanceView) (streams futures : List Channel) (at : ℕ) (x : InstanceView) (e : WorldEntry) → slice_get instances at ≡ Some x → EntryMarked streams futures e
    → EndsMarked instances streams futures → EndsMarked (slice_set instances at (entry_added e x)) streams futures

abbrev pub RemovedStayMarked : Type 0
RemovedStayMarked =
    (instances : List InstanceView) (streams futures : List Channel) (at index : ℕ) (x : InstanceView) → slice_get instances at ≡ Some x
    → EndsMarked instances streams futures → EndsMarked (slice_set instances at (entry_removed index x)) streams futures

abbrev pub ChangedStayMarked : Type 0
ChangedStayMarked =
    (instances : List InstanceView) (streams futures : List Channel) (at index : ℕ) (x : InstanceView) (e : WorldEntry) → slice_get instances at ≡ Some x → EntryMarked streams futures e
    → EndsMarked instances streams futures → EndsMarked (slice_set instances at (entry_changed index e x)) streams futures

-- A stream or a future is made.
abbrev pub StreamsStayMarked : Type 0
StreamsStayMarked =
    (instances : List InstanceView) (streams futures : List Channel) (c : Channel) → EndsMarked instances streams futures → EndsMarked instances (streams ++ c ∷ []) futures

abbrev pub FuturesStayMarked : Type 0
FuturesStayMarked =
    (instances : List InstanceView) (streams futures : List Channel) (c : Channel) → EndsMarked instances streams futures → EndsMarked instances streams (futures ++ c ∷ [])

-- A stream or a future is another one, of the same type, of which each end that is in a table is said right.
abbrev pub streams_with : EndKind → ℕ → Channel → List Channel → List Channel
streams_with Stream place c all = slice_set all place c
streams_with Future place c all = all

abbrev pub futures_with : EndKind → ℕ → Channel → List Channel → List Channel
futures_with Stream place c all = all
futures_with Future place c all = slice_set all place c

abbrev pub ChannelsStayMarked : Type 0
ChannelsStayMarked =
    (instances : List InstanceView) (streams futures : List Channel) (kind : EndKind) (place : ℕ) (c z : Channel) → slice_get (of_kind kind streams futures) place ≡ Some c
    → kind_of z.ends ≡ kind_of c.ends → z.end_type ≡ c.end_type
    → ((at index : ℕ) (i : InstanceView) (e : EndEntry) → slice_get instances at ≡ Some i → entry_of i index ≡ Some (entry.End e) → place_of e.number ≡ Some place
    → e.is_idle ≡ is_idle (end_in e.side c.ends) → e.end_type ≡ c.end_type → e.is_idle ≡ is_idle (end_in e.side z.ends))
    → EndsMarked instances streams futures → EndsMarked instances (streams_with kind place z streams) (futures_with kind place z futures)

-- Whether the other end is idle stays where an end is told, dropped, or read or written.
abbrev pub TellingLeavesOther : Type 0
TellingLeavesOther = (side : Side) (ends : Ends) → is_idle (end_in (other_side side) (channel.told side ends)) ≡ is_idle (end_in (other_side side) ends)

abbrev pub DroppingLeavesOther : Type 0
DroppingLeavesOther = (side : Side) (ends : Ends) → is_idle (end_in (other_side side) (channel.dropped side ends)) ≡ is_idle (end_in (other_side side) ends)

abbrev pub MeetingLeavesOther : Type 0
MeetingLeavesOther =
    (side : Side) (by : By) (canon place size : ℕ) (ends : Ends)
    → is_idle (end_in (other_side side) (channel.offered side by canon place size ends)) ≡ is_idle (end_in (other_side side) ends)

-- One end of a stream or a future has changed, and the other one not: it is said at its index whether it is idle now, or it leaves the table. It stands
-- at no other index.
pub record OneEnd (instances : List InstanceView) (streams futures : List Channel) (kind : EndKind) (place : ℕ) (c z : Channel) (at index : ℕ) (x : InstanceView) (e : EndEntry) : Type 0 where
  pub channel : slice_get (of_kind kind streams futures) place ≡ Some c
  pub same_kind : kind_of z.ends ≡ kind_of c.ends
  pub same_type : z.end_type ≡ c.end_type
  pub inst : slice_get instances at ≡ Some x
  pub there : entry_of x index ≡ Some (entry.End e)
  pub number : place_of e.number ≡ Some place
  pub typed : e.end_type ≡ c.end_type
  pub of : kind_of c.ends ≡ kind
  pub other : is_idle (end_in (other_side e.side) z.ends) ≡ is_idle (end_in (other_side e.side) c.ends)
  pub once : (other_at other_index : ℕ) (i : InstanceView) (d : EndEntry) → slice_get instances other_at ≡ Some i → entry_of i other_index ≡ Some (entry.End d)
      → place_of d.number ≡ Some place → d.end_type ≡ c.end_type → d.side ≡ e.side → (at ≡ other_at) × (index ≡ other_index)

abbrev pub SaidStaysMarked : Type 0
SaidStaysMarked =
    (instances : List InstanceView) (streams futures : List Channel) (kind : EndKind) (place : ℕ) (c z : Channel) (at index : ℕ) (x : InstanceView) (e : EndEntry)
    → OneEnd instances streams futures kind place c z at index x e → EndsMarked instances streams futures
    → EndsMarked (slice_set instances at (entry_changed index (entry.End (with_idle (is_idle (end_in e.side z.ends)) e)) x)) (streams_with kind place z streams)
    (futures_with kind place z futures)

abbrev pub GoneStaysMarked : Type 0
GoneStaysMarked =
    (instances : List InstanceView) (streams futures : List Channel) (kind : EndKind) (place : ℕ) (c z : Channel) (at index : ℕ) (x : InstanceView) (e : EndEntry)
    → OneEnd instances streams futures kind place c z at index x e → EndsMarked instances streams futures
    → EndsMarked (slice_set instances at (entry_removed index x)) (streams_with kind place z streams) (futures_with kind place z futures)
