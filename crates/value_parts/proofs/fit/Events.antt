-- Events that come keep stacks typed, and no handle is lent more often.
use Rattle.std.proofs.Common.{◌≡◌, refl, Some}
use Rattle.std.specs.Prelude.{ℕ, nat_eq, if◌then◌else◌, List, [], ◌∷◌, ◌++◌, length, Option, Some, None}
use Rattle.std.specs.List.{slice_get}
use Rattle.std.specs.Int.{w32, to_le_bytes}
use Rattle.builtin_kinds.specs.declared.EndKind.{EndKind}
use Rattle.builtin_kinds.specs.declared.EndKind.TheVariants.{Stream, Future}
use Rattle.stream_ends.specs.declared.side.Side.{Side}
use Rattle.stream_ends.specs.declared.side.Side.TheVariants.{Reader, Writer}
use Rattle.tasks.specs.declared.event.TaskEvent.TheVariants as event
use Rattle.instances.specs.declared.entry.EndEntry.{EndEntry}
use Rattle.instances.specs.declared.entry.WorldEntry.{WorldEntry}
use Rattle.instances.specs.declared.entry.WorldEntry.TheVariants as entry
use Rattle.comp_graph.specs.declared.graph.Lift.{Lift}
use Rattle.world_parts.specs.Views.{Views}
use Rattle.trace_labels.specs.declared.label.Label.TheVariants as line
use Rattle.world_parts.specs.declared.parts.Rest.TheVariants as rest
use Rattle.world_parts.specs.declared.parts.Receiver.{Receiver}
use Rattle.world_parts.specs.declared.parts.Receiver.TheVariants as receiver
use Rattle.world_parts.specs.declared.parts.Flow.{Flow}
use Rattle.world_parts.specs.declared.parts.Flow.TheVariants as flow
use Rattle.world_parts.specs.Held.{Held, Done, Gives, Stuck, after, given}
use Rattle.world_parts.specs.Feed.{told, at_rest, choice, got}
use Rattle.world_parts.specs.Entries.{entry_found, end_idled}
use Rattle.world_parts.specs.Slots.{callee_of, payload_found, happens}
use Rattle.world_parts.specs.Channels.{kind_of_end, concluded, idle_seen}
use Rattle.world_parts.specs.Places.{memory_of, bytes_put}
use Rattle.world_parts.specs.Calls.{subtask_told}
use Rattle.world_parts.specs.News.{ready}
use Rattle.world_parts.specs.Events.{callback_of, callback_started, delivered_among, delivers, end_delivered, end_told, event_bytes, event_code, member_delivered, polled, polls, received, received_cancel, received_none, subtask_delivered, wait_answered}
use Rattle.value_parts.proofs.fit.Keeps.{Keeps, KeepsBy, keeps_after, keeps_given, keeps_if, keeps_same, keeps_all, keeps_from, keeps_instance}
use Rattle.value_parts.proofs.fit.Calls.{subtask_told_keeps}
use Rattle.value_parts.proofs.fit.Channels.{concluded_keeps, idle_seen_keeps}
use Rattle.value_parts.proofs.fit.Entries.{end_idled_keeps, entry_found_keeps}
use Rattle.value_parts.proofs.fit.Feed.{choice_keeps, got_keeps, told_keeps}
use Rattle.value_parts.proofs.fit.Places.{bytes_put_keeps}
use Rattle.value_parts.proofs.fit.Slots.{callee_of_keeps, happens_keeps, payload_found_keeps}

pub callback_of_keeps : (o : Option Lift) (code : ℕ) (index : ℕ) (payload : ℕ) (h : Held) → KeepsBy h (callback_of o code index payload h)
callback_of_keeps None code index payload h =
    tt
callback_of_keeps (Some f) code index payload h =
    keeps_given h f.options.callback (λ ref. Gives (flow.Starts ref (code ∷ index ∷ payload ∷ [])) (at_rest rest.Runs h)) (λ ref is. keeps_all h (at_rest rest.Runs h) refl refl)

pub callback_started_keeps : (g : Views) (t : ℕ) (code : ℕ) (index : ℕ) (payload : ℕ) (h : Held) → KeepsBy h (callback_started g t code index payload h)
unfolding callback_started
callback_started_keeps g t code index payload h =
    keeps_after h (callee_of t h) (λ callee k. callback_of (g.lift callee) code index payload k) (callee_of_keeps t h) (λ callee k. callback_of_keeps (g.lift callee) code index payload k)

pub wait_answered_keeps : (g : Views) (t : ℕ) (canon : ℕ) (place : ℕ) (code : ℕ) (index : ℕ) (payload : ℕ) (h : Held) → KeepsBy h (wait_answered g t canon place code index payload h)
unfolding wait_answered
wait_answered_keeps g t canon place code index payload h =
    keeps_after h (bytes_put (memory_of (g.options canon) h) place (event_bytes index payload) h) (λ done k. got t (code ∷ []) k) (bytes_put_keeps (memory_of (g.options canon) h) place (event_bytes index payload) h) (λ done k. got_keeps t (code ∷ []) k)

pub received_keeps : (g : Views) (t : ℕ) (r : Receiver) (code : ℕ) (index : ℕ) (payload : ℕ) (h : Held) → KeepsBy h (received g t r code index payload h)
received_keeps g t (receiver.InWait canon place) code index payload h =
    wait_answered_keeps g t canon place code index payload h
received_keeps g t receiver.InCallback code index payload h =
    callback_started_keeps g t code index payload h

pub received_none_keeps : (g : Views) (t : ℕ) (r : Receiver) (h : Held) → KeepsBy h (received_none g t r h)
unfolding received_none
received_none_keeps g t r h =
    keeps_after h (told (line.Event t 0 0 0) h) (λ done k. received g t r 0 0 0 k) (told_keeps (line.Event t 0 0 0) h) (λ done k. received_keeps g t r 0 0 0 k)

pub received_cancel_keeps : (g : Views) (t : ℕ) (r : Receiver) (h : Held) → KeepsBy h (received_cancel g t r h)
unfolding received_cancel
received_cancel_keeps g t r h =
    keeps_after h (happens t event.ToldCancel h) (λ done k. after (told (line.Event t 6 0 0) k) (λ done l. received g t r 6 0 0 l)) (happens_keeps t event.ToldCancel h) (λ done k. keeps_after k (told (line.Event t 6 0 0) k) (λ done l. received g t r 6 0 0 l) (told_keeps (line.Event t 6 0 0) k) (λ done l. received_keeps g t r 6 0 0 l))

pub end_told_keeps : (at : ℕ) (index : ℕ) (e : EndEntry) (h : Held) → KeepsBy h (end_told at index e h)
unfolding end_told
end_told_keeps at index e h =
    keeps_after h (concluded (kind_of_end e h) e.side e.number h) (λ payload k. after (idle_seen (kind_of_end e h) e.side e.number k) (λ is_idle l. after (end_idled at index is_idle l) (λ done m. Gives payload m))) (concluded_keeps (kind_of_end e h) e.side e.number h) (λ payload k. keeps_after k (idle_seen (kind_of_end e h) e.side e.number k) (λ is_idle l. after (end_idled at index is_idle l) (λ done m. Gives payload m)) (idle_seen_keeps (kind_of_end e h) e.side e.number k) (λ is_idle l. keeps_after l (end_idled at index is_idle l) (λ done m. Gives payload m) (end_idled_keeps at index is_idle l) (λ done m. keeps_same m)))

pub subtask_delivered_keeps : (g : Views) (t : ℕ) (at : ℕ) (r : Receiver) (index : ℕ) (callee : ℕ) (h : Held) → KeepsBy h (subtask_delivered g t at r index callee h)
unfolding subtask_delivered
subtask_delivered_keeps g t at r index callee h =
    keeps_after h (payload_found callee h) (λ payload k. after (told (line.Event t 1 index payload) k) (λ done l. after (subtask_told at callee l) (λ state m. received g t r 1 index payload m))) (payload_found_keeps callee h) (λ payload k. keeps_after k (told (line.Event t 1 index payload) k) (λ done l. after (subtask_told at callee l) (λ state m. received g t r 1 index payload m)) (told_keeps (line.Event t 1 index payload) k) (λ done l. keeps_after l (subtask_told at callee l) (λ state m. received g t r 1 index payload m) (subtask_told_keeps at callee l) (λ state m. received_keeps g t r 1 index payload m)))

pub end_delivered_keeps : (g : Views) (t : ℕ) (at : ℕ) (r : Receiver) (index : ℕ) (e : EndEntry) (h : Held) → KeepsBy h (end_delivered g t at r index e h)
unfolding end_delivered
end_delivered_keeps g t at r index e h =
    keeps_after h (end_told at index e h) (λ payload k. after (told (line.Event t (event_code (kind_of_end e h) e.side) index payload) k) (λ done l. received g t r (event_code (kind_of_end e h) e.side) index payload l)) (end_told_keeps at index e h) (λ payload k. keeps_after k (told (line.Event t (event_code (kind_of_end e h) e.side) index payload) k) (λ done l. received g t r (event_code (kind_of_end e h) e.side) index payload l) (told_keeps (line.Event t (event_code (kind_of_end e h) e.side) index payload) k) (λ done l. received_keeps g t r (event_code (kind_of_end e h) e.side) index payload l))

pub member_delivered_keeps : (g : Views) (t : ℕ) (at : ℕ) (r : Receiver) (index : ℕ) (o : Option WorldEntry) (h : Held) → KeepsBy h (member_delivered g t at r index o h)
member_delivered_keeps g t at r index None h =
    tt
member_delivered_keeps g t at r index (Some (entry.Handle x)) h =
    tt
member_delivered_keeps g t at r index (Some (entry.Subtask callee)) h =
    subtask_delivered_keeps g t at r index callee h
member_delivered_keeps g t at r index (Some (entry.Set set)) h =
    tt
member_delivered_keeps g t at r index (Some (entry.End e)) h =
    end_delivered_keeps g t at r index e h

pub delivered_among_keeps : (g : Views) (t : ℕ) (at : ℕ) (r : Receiver) (members : List ℕ) (h : Held) → KeepsBy h (delivered_among g t at r members h)
unfolding delivered_among
delivered_among_keeps g t at r members h =
    keeps_after h (choice (length members) h) (λ number k. given (slice_get members number) (λ index. after (entry_found at index k) (λ found l. member_delivered g t at r index found l))) (choice_keeps (length members) h) (λ number k. keeps_given k (slice_get members number) (λ index. after (entry_found at index k) (λ found l. member_delivered g t at r index found l)) (λ index is. keeps_after k (entry_found at index k) (λ found l. member_delivered g t at r index found l) (entry_found_keeps at index k) (λ found l. member_delivered_keeps g t at r index found l)))

pub delivers_keeps : (g : Views) (t : ℕ) (at : ℕ) (r : Receiver) (set : ℕ) (h : Held) → KeepsBy h (delivers g t at r set h)
unfolding delivers
delivers_keeps g t at r set h =
    delivered_among_keeps g t at r (ready g at set h) h

pub polled_keeps : (g : Views) (t : ℕ) (at : ℕ) (r : Receiver) (members : List ℕ) (h : Held) → KeepsBy h (polled g t at r members h)
unfolding polled
polled_keeps g t at r members h =
    keeps_if h (nat_eq (length members) 0) (received_none g t r h) (delivered_among g t at r members h) (received_none_keeps g t r h) (delivered_among_keeps g t at r members h)

pub polls_keeps : (g : Views) (t : ℕ) (at : ℕ) (r : Receiver) (set : ℕ) (h : Held) → KeepsBy h (polls g t at r set h)
unfolding polls
polls_keeps g t at r set h =
    polled_keeps g t at r (ready g at set h) h
