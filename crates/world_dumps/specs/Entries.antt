-- Entries of the tables of component instances, as they are shown (Component Model, CanonicalABI.md, "Table State", "Resource State", "Subtask
-- State", "Waitable Set State", "Stream State" and "Future State").
use Rattle.std.specs.Prelude.{ℕ, if◌then◌else◌, List, Option, Some, None}
use Rattle.std.specs.List.{slice_get}
use Rattle.builtin_kinds.specs.declared.EndKind.{EndKind}
use Rattle.builtin_kinds.specs.declared.EndKind.TheVariants as end_kind
use Rattle.res_handles.specs.declared.handle.Handle.{Handle}
use Rattle.res_handles.specs.declared.handle.Ownership.{Ownership}
use Rattle.res_handles.specs.declared.handle.Ownership.TheVariants as ownership
use Rattle.stream_ends.specs.declared.side.Side as ends
use Rattle.stream_ends.specs.declared.side.Side.TheVariants.{Reader, Writer}
use Rattle.stream_ends.specs.Ends.{is_copying}
use Rattle.tasks.specs.Tasks.{state_of}
use Rattle.tasks.specs.Subtasks.{code_of}
use Rattle.task_table.specs.declared.slot.TaskSlot.{TaskSlot}
use Rattle.waitables.specs.Sets.{set_at}
use Rattle.channels.specs.declared.channel.Channel.{Channel}
use Rattle.channels.specs.Channels.{end_in}
use Rattle.instances.specs.declared.entry.EndEntry.{EndEntry}
use Rattle.instances.specs.declared.entry.WorldEntry.{WorldEntry}
use Rattle.instances.specs.declared.entry.WorldEntry.TheVariants as entry
use Rattle.instances.specs.Instances.{InstanceView}
use Rattle.trace_labels.specs.declared.dump.Entry as shown
use Rattle.trace_labels.specs.declared.dump.Entry.TheVariants as show
use Rattle.trace_labels.specs.declared.dump.EndState.{EndState}
use Rattle.trace_labels.specs.declared.dump.EndState.TheVariants.{Idle, Copying, Done}
use Rattle.trace_labels.specs.declared.dump.Side.{Side}
use Rattle.trace_labels.specs.declared.dump.Side.TheVariants.{Readable, Writable}
use Rattle.trace_labels.specs.declared.label.Channel as labels
use Rattle.trace_labels.specs.declared.label.Channel.TheVariants as channel
use Rattle.world_parts.specs.Held.{Held}
use Rattle.world_parts.specs.Channels.{kind_of_end, channel_of}

abbrev pub side_of : ends.Side → Side
side_of Reader = Readable
side_of Writer = Writable

-- An end copies, or is done, or is idle.
abbrev pub end_state : Option Channel → ends.Side → EndState
end_state None side = Idle
end_state (Some c) side = if is_copying (end_in side c.ends) then Copying else if (end_in side c.ends).done then Done else Idle

abbrev pub channel_named : EndKind → ℕ → labels.Channel
channel_named end_kind.Stream number = channel.Stream number
channel_named end_kind.Future number = channel.Future number

abbrev pub end_shown : EndEntry → Held → shown.Entry
end_shown e h = show.End (channel_named (kind_of_end e h) e.number) (side_of e.side) (end_state (channel_of e h) e.side)

abbrev pub owned_shown : Ownership → Handle → shown.Entry
owned_shown ownership.Own x = show.Own x.resource x.rep x.lends
owned_shown (ownership.Borrow task) x = show.Borrow x.resource x.rep task x.lends

abbrev pub handle_shown : Handle → shown.Entry
handle_shown x = owned_shown x.ownership x

-- the state of the subtask that a task is for its caller
abbrev pub state_by : Option TaskSlot → ℕ
state_by None = 0
state_by (Some slot) = code_of (state_of slot.task)

abbrev pub state_in : ℕ → Held → ℕ
state_in t h = state_by (slice_get h.tasks t)

abbrev pub members_of : ℕ → InstanceView → List ℕ
members_of set i = (set_at i.sets set).members

abbrev pub entry_shown : WorldEntry → InstanceView → Held → shown.Entry
entry_shown (entry.Handle x) i h = handle_shown x
entry_shown (entry.Subtask t) i h = show.Subtask t (state_in t h)
entry_shown (entry.Set set) i h = show.Set (members_of set i)
entry_shown (entry.End e) i h = end_shown e h
