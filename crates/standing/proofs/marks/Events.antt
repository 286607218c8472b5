-- Events that come leave the marks of gates and of sets as they are.
use Rattle.std.proofs.Common.{◌≡◌, refl, Some}
use Rattle.std.specs.Prelude.{ℕ, if◌then◌else◌, List, [], ◌∷◌, ◌++◌, length, Option, Some, None}
use Rattle.std.specs.List.{slice_get}
use Rattle.tasks.specs.declared.event.TaskEvent.TheVariants as event
use Rattle.instances.specs.declared.entry.EndEntry.{EndEntry}
use Rattle.instances.specs.declared.entry.WorldEntry.{WorldEntry}
use Rattle.instances.specs.declared.entry.WorldEntry.TheVariants as entry
use Rattle.comp_graph.specs.declared.graph.Lift.{Lift}
use Rattle.world_parts.specs.Views.{Views}
use Rattle.trace_labels.specs.declared.label.Label.TheVariants as line
use Rattle.world_parts.specs.declared.parts.Rest.TheVariants as rest
use Rattle.world_parts.specs.declared.parts.Receiver.{Receiver}
use Rattle.world_parts.specs.declared.parts.Receiver.TheVariants as receiver
use Rattle.world_parts.specs.declared.parts.Flow.TheVariants as flow
use Rattle.world_parts.specs.Held.{Held, Gives, after, given}
use Rattle.world_parts.specs.Feed.{told, at_rest, choice, got}
use Rattle.world_parts.specs.Entries.{entry_found, end_idled}
use Rattle.world_parts.specs.Slots.{callee_of, payload_found, happens}
use Rattle.world_parts.specs.Channels.{kind_of_end, concluded, idle_seen}
use Rattle.world_parts.specs.Places.{memory_of, bytes_put}
use Rattle.world_parts.specs.Calls.{subtask_told}
use Rattle.world_parts.specs.Events.{callback_of, callback_started, delivered_among, end_delivered, end_told, event_bytes, event_code, member_delivered, received, received_cancel, received_none, subtask_delivered, wait_answered}
use Rattle.standing.specs.MarksKept.{StayBy}
use Rattle.standing.proofs.marks.Stays.{stays_after, stays_given, stays_same, stays_all}
use Rattle.standing.proofs.marks.Calls.{subtask_told_stays}
use Rattle.standing.proofs.marks.Channels.{concluded_stays, idle_seen_stays}
use Rattle.standing.proofs.marks.Entries.{end_idled_stays, entry_found_stays}
use Rattle.standing.proofs.marks.Feed.{choice_stays, got_stays, told_stays}
use Rattle.standing.proofs.marks.Places.{bytes_put_stays}
use Rattle.standing.proofs.marks.Slots.{callee_of_stays, happens_stays, payload_found_stays}

pub callback_of_stays : (o : Option Lift) (code : ℕ) (index : ℕ) (payload : ℕ) (h : Held) → StayBy h (callback_of o code index payload h)
callback_of_stays None code index payload h =
    tt
callback_of_stays (Some f) code index payload h =
    stays_given h f.options.callback (λ ref. Gives (flow.Starts ref (code ∷ index ∷ payload ∷ [])) (at_rest rest.Runs h)) (λ ref is. stays_all h (at_rest rest.Runs h) refl refl)

pub callback_started_stays : (g : Views) (t : ℕ) (code : ℕ) (index : ℕ) (payload : ℕ) (h : Held) → StayBy h (callback_started g t code index payload h)
unfolding callback_started
callback_started_stays g t code index payload h =
    stays_after h (callee_of t h) (λ callee k. callback_of (g.lift callee) code index payload k) (callee_of_stays t h) (λ callee k. callback_of_stays (g.lift callee) code index payload k)

pub wait_answered_stays : (g : Views) (t : ℕ) (canon : ℕ) (place : ℕ) (code : ℕ) (index : ℕ) (payload : ℕ) (h : Held) → StayBy h (wait_answered g t canon place code index payload h)
unfolding wait_answered
wait_answered_stays g t canon place code index payload h =
    stays_after h (bytes_put (memory_of (g.options canon) h) place (event_bytes index payload) h) (λ done k. got t (code ∷ []) k) (bytes_put_stays (memory_of (g.options canon) h) place (event_bytes index payload) h) (λ done k. got_stays t (code ∷ []) k)

pub received_stays : (g : Views) (t : ℕ) (r : Receiver) (code : ℕ) (index : ℕ) (payload : ℕ) (h : Held) → StayBy h (received g t r code index payload h)
received_stays g t (receiver.InWait canon place) code index payload h =
    wait_answered_stays g t canon place code index payload h
received_stays g t receiver.InCallback code index payload h =
    callback_started_stays g t code index payload h

pub received_none_stays : (g : Views) (t : ℕ) (r : Receiver) (h : Held) → StayBy h (received_none g t r h)
unfolding received_none
received_none_stays g t r h =
    stays_after h (told (line.Event t 0 0 0) h) (λ done k. received g t r 0 0 0 k) (told_stays (line.Event t 0 0 0) h) (λ done k. received_stays g t r 0 0 0 k)

pub received_cancel_stays : (g : Views) (t : ℕ) (r : Receiver) (h : Held) → StayBy h (received_cancel g t r h)
unfolding received_cancel
received_cancel_stays g t r h =
    stays_after h (happens t event.ToldCancel h) (λ done k. after (told (line.Event t 6 0 0) k) (λ done l. received g t r 6 0 0 l)) (happens_stays t event.ToldCancel h tt) (λ done k. stays_after k (told (line.Event t 6 0 0) k) (λ done l. received g t r 6 0 0 l) (told_stays (line.Event t 6 0 0) k) (λ done l. received_stays g t r 6 0 0 l))

pub end_told_stays : (at : ℕ) (index : ℕ) (e : EndEntry) (h : Held) → StayBy h (end_told at index e h)
unfolding end_told
end_told_stays at index e h =
    stays_after h (concluded (kind_of_end e h) e.side e.number h) (λ payload k. after (idle_seen (kind_of_end e h) e.side e.number k) (λ is_idle l. after (end_idled at index is_idle l) (λ done m. Gives payload m))) (concluded_stays (kind_of_end e h) e.side e.number h) (λ payload k. stays_after k (idle_seen (kind_of_end e h) e.side e.number k) (λ is_idle l. after (end_idled at index is_idle l) (λ done m. Gives payload m)) (idle_seen_stays (kind_of_end e h) e.side e.number k) (λ is_idle l. stays_after l (end_idled at index is_idle l) (λ done m. Gives payload m) (end_idled_stays at index is_idle l) (λ done m. stays_same m)))

pub subtask_delivered_stays : (g : Views) (t : ℕ) (at : ℕ) (r : Receiver) (index : ℕ) (callee : ℕ) (h : Held) → StayBy h (subtask_delivered g t at r index callee h)
unfolding subtask_delivered
subtask_delivered_stays g t at r index callee h =
    stays_after h (payload_found callee h) (λ payload k. after (told (line.Event t 1 index payload) k) (λ done l. after (subtask_told at callee l) (λ state m. received g t r 1 index payload m))) (payload_found_stays callee h) (λ payload k. stays_after k (told (line.Event t 1 index payload) k) (λ done l. after (subtask_told at callee l) (λ state m. received g t r 1 index payload m)) (told_stays (line.Event t 1 index payload) k) (λ done l. stays_after l (subtask_told at callee l) (λ state m. received g t r 1 index payload m) (subtask_told_stays at callee l) (λ state m. received_stays g t r 1 index payload m)))

pub end_delivered_stays : (g : Views) (t : ℕ) (at : ℕ) (r : Receiver) (index : ℕ) (e : EndEntry) (h : Held) → StayBy h (end_delivered g t at r index e h)
unfolding end_delivered
end_delivered_stays g t at r index e h =
    stays_after h (end_told at index e h) (λ payload k. after (told (line.Event t (event_code (kind_of_end e h) e.side) index payload) k) (λ done l. received g t r (event_code (kind_of_end e h) e.side) index payload l)) (end_told_stays at index e h) (λ payload k. stays_after k (told (line.Event t (event_code (kind_of_end e h) e.side) index payload) k) (λ done l. received g t r (event_code (kind_of_end e h) e.side) index payload l) (told_stays (line.Event t (event_code (kind_of_end e h) e.side) index payload) k) (λ done l. received_stays g t r (event_code (kind_of_end e h) e.side) index payload l))

pub member_delivered_stays : (g : Views) (t : ℕ) (at : ℕ) (r : Receiver) (index : ℕ) (o : Option WorldEntry) (h : Held) → StayBy h (member_delivered g t at r index o h)
member_delivered_stays g t at r index None h =
    tt
member_delivered_stays g t at r index (Some (entry.Handle x)) h =
    tt
member_delivered_stays g t at r index (Some (entry.Subtask callee)) h =
    subtask_delivered_stays g t at r index callee h
member_delivered_stays g t at r index (Some (entry.Set set)) h =
    tt
member_delivered_stays g t at r index (Some (entry.End e)) h =
    end_delivered_stays g t at r index e h

pub delivered_among_stays : (g : Views) (t : ℕ) (at : ℕ) (r : Receiver) (members : List ℕ) (h : Held) → StayBy h (delivered_among g t at r members h)
unfolding delivered_among
delivered_among_stays g t at r members h =
    stays_after h (choice (length members) h) (λ number k. given (slice_get members number) (λ index. after (entry_found at index k) (λ found l. member_delivered g t at r index found l))) (choice_stays (length members) h) (λ number k. stays_given k (slice_get members number) (λ index. after (entry_found at index k) (λ found l. member_delivered g t at r index found l)) (λ index is. stays_after k (entry_found at index k) (λ found l. member_delivered g t at r index found l) (entry_found_stays at index k) (λ found l. member_delivered_stays g t at r index found l)))
