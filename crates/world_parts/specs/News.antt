-- What has news (Component Model, Concurrency.md, "Waitables and Waitable Sets"): whether the subtask or the end at an index has an event for
-- which no task waits directly, and the members of a set that have, by the time of joining. A read or write that is waited for is one of a
-- canonical function without `async`.
use Rattle.std.specs.Prelude.{ℕ, Bool, false, ◌&&◌, List, [], filter, Option, Some, None}
use Rattle.std.specs.List.{slice_get, list_any}
use Rattle.stream_ends.specs.declared.open_copy.OpenCopy.{OpenCopy}
use Rattle.stream_ends.specs.declared.stream_end.End.{End}
use Rattle.stream_ends.specs.declared.side.Side.{Side}
use Rattle.stream_ends.specs.Ends.{is_pending}
use Rattle.waitables.specs.Sets.{set_at}
use Rattle.tasks.specs.Tasks.{state_of}
use Rattle.tasks.specs.Subtasks.{is_over}
use Rattle.task_table.specs.declared.slot.TaskSlot.{TaskSlot}
use Rattle.task_table.specs.Callers.{has_news}
use Rattle.channels.specs.declared.channel.Channel.{Channel}
use Rattle.channels.specs.Channels.{end_in}
use Rattle.instances.specs.declared.entry.WorldEntry.{WorldEntry}
use Rattle.instances.specs.declared.entry.WorldEntry.TheVariants as entry
use Rattle.instances.specs.Instances.{InstanceView, entry_of}
use Rattle.world_parts.specs.Views.{Views}
use Rattle.world_parts.specs.Held.{Held}
use Rattle.world_parts.specs.Entries.{set_number}
use Rattle.world_parts.specs.Channels.{channel_of}

-- what stands at an index of the table of an instance, and the members of a set
abbrev pub entry_in : Option InstanceView → ℕ → Option WorldEntry
entry_in None index = None
entry_in (Some i) index = entry_of i index

abbrev pub members_in : Option InstanceView → ℕ → List ℕ
members_in None set = []
members_in (Some i) set = (set_at i.sets set).members

-- a subtask has news
abbrev pub slot_news : Option TaskSlot → Bool
slot_news None = false
slot_news (Some slot) = has_news slot.caller

-- an end has
abbrev pub copy_is_async : Views → Option OpenCopy → Bool
copy_is_async g None = false
copy_is_async g (Some copy) = g.is_async copy.canon

abbrev pub end_news : Views → End → Bool
end_news g e = is_pending e && copy_is_async g e.copy

abbrev pub channel_news : Views → Side → Option Channel → Bool
channel_news g side None = false
channel_news g side (Some c) = end_news g (end_in side c.ends)

abbrev pub entry_news : Views → Option WorldEntry → Held → Bool
entry_news g None h = false
entry_news g (Some (entry.Handle x)) h = false
entry_news g (Some (entry.Subtask callee)) h = slot_news (slice_get h.tasks callee)
entry_news g (Some (entry.Set set)) h = false
entry_news g (Some (entry.End e)) h = channel_news g e.side (channel_of e h)

abbrev pub news_at : Views → Held → ℕ → ℕ → Bool
news_at g h at index = entry_news g (entry_in (slice_get h.instances at) index) h

-- the ready members of a set, and whether there is one
abbrev pub ready : Views → ℕ → ℕ → Held → List ℕ
ready g at set h = filter (news_at g h at) (members_in (slice_get h.instances at) set)

abbrev pub some_ready : Views → ℕ → ℕ → Held → Bool
some_ready g at set h = list_any (news_at g h at) (members_in (slice_get h.instances at) set)

abbrev pub set_is_ready : Views → ℕ → Option ℕ → Held → Bool
set_is_ready g at None h = false
set_is_ready g at (Some set) h = some_ready g at set h

abbrev pub index_is_ready : Views → ℕ → ℕ → Held → Bool
index_is_ready g at index h = set_is_ready g at (set_number (entry_in (slice_get h.instances at) index)) h

-- whether the task that a subtask is has resolved, and whether the copy at an end has come to its end
abbrev pub slot_is_resolved : Option TaskSlot → Bool
slot_is_resolved None = false
slot_is_resolved (Some slot) = is_over (state_of slot.task)

abbrev pub task_is_resolved : ℕ → Held → Bool
task_is_resolved t h = slot_is_resolved (slice_get h.tasks t)

abbrev pub channel_is_pending : Side → Option Channel → Bool
channel_is_pending side None = false
channel_is_pending side (Some c) = is_pending (end_in side c.ends)

abbrev pub entry_is_pending : Option WorldEntry → Held → Bool
entry_is_pending None h = false
entry_is_pending (Some (entry.Handle x)) h = false
entry_is_pending (Some (entry.Subtask callee)) h = false
entry_is_pending (Some (entry.Set set)) h = false
entry_is_pending (Some (entry.End e)) h = channel_is_pending e.side (channel_of e h)

abbrev pub entry_is_resolved : Option WorldEntry → Held → Bool
entry_is_resolved None h = false
entry_is_resolved (Some (entry.Handle x)) h = false
entry_is_resolved (Some (entry.Subtask callee)) h = task_is_resolved callee h
entry_is_resolved (Some (entry.Set set)) h = false
entry_is_resolved (Some (entry.End e)) h = false
