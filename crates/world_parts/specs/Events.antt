-- Events (Component Model, CanonicalABI.md, "Waitable Set State", `canon waitable-set.wait`, `canon lift`; Concurrency.md, "Waitables and Waitable
-- Sets"): one comes to a task by its line, with its index and its payload: at a wait as eight bytes in memory and the answer, at a
-- callback as its arguments.
use Rattle.std.specs.Prelude.{ℕ, nat_eq, if◌then◌else◌, List, [], ◌∷◌, ◌++◌, length, Option, Some, None}
use Rattle.std.specs.List.{slice_get}
use Rattle.std.specs.Int.{w32, to_le_bytes}
use Rattle.builtin_kinds.specs.declared.EndKind.{EndKind}
use Rattle.builtin_kinds.specs.declared.EndKind.TheVariants.{Stream, Future}
use Rattle.stream_ends.specs.declared.side.Side.{Side}
use Rattle.stream_ends.specs.declared.side.Side.TheVariants.{Reader, Writer}
use Rattle.tasks.specs.declared.event.TaskEvent.TheVariants as event
use Rattle.instances.specs.declared.entry.EndEntry.{EndEntry}
use Rattle.instances.specs.declared.entry.WorldEntry.{WorldEntry}
use Rattle.instances.specs.declared.entry.WorldEntry.TheVariants as entry
use Rattle.comp_graph.specs.declared.graph.Lift.{Lift}
use Rattle.world_parts.specs.Views.{Views}
use Rattle.trace_labels.specs.declared.label.Label.TheVariants as line
use Rattle.world_parts.specs.declared.parts.Rest.TheVariants as rest
use Rattle.world_parts.specs.declared.parts.Receiver.{Receiver}
use Rattle.world_parts.specs.declared.parts.Receiver.TheVariants as receiver
use Rattle.world_parts.specs.declared.parts.Flow.{Flow}
use Rattle.world_parts.specs.declared.parts.Flow.TheVariants as flow
use Rattle.world_parts.specs.Held.{Held, Done, Gives, Stuck, after, given}
use Rattle.world_parts.specs.Feed.{told, at_rest, choice, got}
use Rattle.world_parts.specs.Entries.{entry_found, end_idled}
use Rattle.world_parts.specs.Slots.{callee_of, payload_found, happens}
use Rattle.world_parts.specs.Channels.{kind_of_end, concluded, idle_seen}
use Rattle.world_parts.specs.Places.{memory_of, bytes_put}
use Rattle.world_parts.specs.Calls.{subtask_told}
use Rattle.world_parts.specs.News.{ready}

-- the code of the event of an end
abbrev pub event_code : EndKind → Side → ℕ
event_code Stream Reader = 2
event_code Stream Writer = 3
event_code Future Reader = 4
event_code Future Writer = 5

-- The index and the payload of an event stand at the place that a wait was called with.
abbrev pub event_bytes : ℕ → ℕ → List ℕ
event_bytes index payload = to_le_bytes w32 index ++ to_le_bytes w32 payload

-- A task's callback starts with an event.
abbrev pub callback_of : Option Lift → ℕ → ℕ → ℕ → Held → Done Flow
callback_of None code index payload h = Stuck
callback_of (Some f) code index payload h = given f.options.callback (λ ref. Gives (flow.Starts ref (code ∷ index ∷ payload ∷ [])) (at_rest rest.Runs h))

unfoldable pub callback_started : Views → ℕ → ℕ → ℕ → ℕ → Held → Done Flow
callback_started g t code index payload h = after (callee_of t h) (λ callee k. callback_of (g.lift callee) code index payload k)

unfoldable pub wait_answered : Views → ℕ → ℕ → ℕ → ℕ → ℕ → ℕ → Held → Done Flow
wait_answered g t canon place code index payload h =
    after (bytes_put (memory_of (g.options canon) h) place (event_bytes index payload) h) (λ done k. got t (code ∷ []) k)

-- An event that is told reaches its task.
abbrev pub received : Views → ℕ → Receiver → ℕ → ℕ → ℕ → Held → Done Flow
received g t (receiver.InWait canon place) code index payload h = wait_answered g t canon place code index payload h
received g t receiver.InCallback code index payload h = callback_started g t code index payload h

-- No event comes, or that the task's cancellation is asked.
unfoldable pub received_none : Views → ℕ → Receiver → Held → Done Flow
received_none g t r h = after (told (line.Event t 0 0 0) h) (λ done k. received g t r 0 0 0 k)

unfoldable pub received_cancel : Views → ℕ → Receiver → Held → Done Flow
received_cancel g t r h =
    after (happens t event.ToldCancel h) (λ done k. after (told (line.Event t 6 0 0) k) (λ done l. received g t r 6 0 0 l))

-- An end is told what came of its copy.
unfoldable pub end_told : ℕ → ℕ → EndEntry → Held → Done ℕ
end_told at index e h =
    after (concluded (kind_of_end e h) e.side e.number h) (λ payload k.
    after (idle_seen (kind_of_end e h) e.side e.number k) (λ is_idle l. after (end_idled at index is_idle l) (λ done m. Gives payload m)))

-- The event of a member comes: of a subtask, or of an end.
unfoldable pub subtask_delivered : Views → ℕ → ℕ → Receiver → ℕ → ℕ → Held → Done Flow
subtask_delivered g t at r index callee h =
    after (payload_found callee h) (λ payload k. after (told (line.Event t 1 index payload) k) (λ done l.
    after (subtask_told at callee l) (λ state m. received g t r 1 index payload m)))

unfoldable pub end_delivered : Views → ℕ → ℕ → Receiver → ℕ → EndEntry → Held → Done Flow
end_delivered g t at r index e h =
    after (end_told at index e h) (λ payload k. after (told (line.Event t (event_code (kind_of_end e h) e.side) index payload) k) (λ done l.
    received g t r (event_code (kind_of_end e h) e.side) index payload l))

abbrev pub member_delivered : Views → ℕ → ℕ → Receiver → ℕ → Option WorldEntry → Held → Done Flow
member_delivered g t at r index None h = Stuck
member_delivered g t at r index (Some (entry.Handle x)) h = Stuck
member_delivered g t at r index (Some (entry.Subtask callee)) h = subtask_delivered g t at r index callee h
member_delivered g t at r index (Some (entry.Set set)) h = Stuck
member_delivered g t at r index (Some (entry.End e)) h = end_delivered g t at r index e h

-- Of the ready members, if there are two or more, one is chosen; then its event comes.
unfoldable pub delivered_among : Views → ℕ → ℕ → Receiver → List ℕ → Held → Done Flow
delivered_among g t at r members h =
    after (choice (length members) h) (λ number k. given (slice_get members number) (λ index.
    after (entry_found at index k) (λ found l. member_delivered g t at r index found l)))

unfoldable pub delivers : Views → ℕ → ℕ → Receiver → ℕ → Held → Done Flow
delivers g t at r set h = delivered_among g t at r (ready g at set h) h

-- The same of a poll, which gets no event where no member is ready.
unfoldable pub polled : Views → ℕ → ℕ → Receiver → List ℕ → Held → Done Flow
polled g t at r members h = if nat_eq (length members) 0 then received_none g t r h else delivered_among g t at r members h

unfoldable pub polls : Views → ℕ → ℕ → Receiver → ℕ → Held → Done Flow
polls g t at r set h = polled g t at r (ready g at set h) h
