-- Events that come: lists of tasks stay as they follow from the tasks.
use Rattle.std.proofs.Common.{refl, Some}
use Rattle.std.specs.Prelude.{ℕ, nat_eq, List, [], ◌∷◌, length, Option, Some, None}
use Rattle.std.specs.List.{slice_get}
use Rattle.tasks.specs.declared.event.TaskEvent.TheVariants as event
use Rattle.instances.specs.declared.entry.EndEntry.{EndEntry}
use Rattle.instances.specs.declared.entry.WorldEntry.{WorldEntry}
use Rattle.instances.specs.declared.entry.WorldEntry.TheVariants as entry
use Rattle.comp_graph.specs.declared.graph.Lift.{Lift}
use Rattle.world_parts.specs.Views.{Views}
use Rattle.trace_labels.specs.declared.label.Label.TheVariants as line
use Rattle.world_parts.specs.declared.parts.Rest.TheVariants as rest
use Rattle.world_parts.specs.declared.parts.Receiver.{Receiver}
use Rattle.world_parts.specs.declared.parts.Receiver.TheVariants as receiver
use Rattle.world_parts.specs.declared.parts.Flow.TheVariants as flow
use Rattle.world_parts.specs.Held.{Held, Gives, after, given}
use Rattle.world_parts.specs.Feed.{told, at_rest, choice, got}
use Rattle.world_parts.specs.Entries.{entry_found, end_idled}
use Rattle.world_parts.specs.Slots.{callee_of, payload_found, happens}
use Rattle.world_parts.specs.Channels.{kind_of_end, concluded, idle_seen}
use Rattle.world_parts.specs.Places.{memory_of, bytes_put}
use Rattle.world_parts.specs.Calls.{subtask_told}
use Rattle.world_parts.specs.News.{ready}
use Rattle.world_parts.specs.Events.{callback_of, callback_started, delivered_among, delivers, end_delivered, end_told, event_bytes, event_code, member_delivered, polled, polls, received, received_cancel, received_none, subtask_delivered, wait_answered}
use Rattle.run_laws.proofs.lists.Calls.{subtask_told_lists}
use Rattle.run_laws.proofs.lists.Channels.{concluded_lists, idle_seen_lists}
use Rattle.run_laws.proofs.lists.Entries.{end_idled_lists, entry_found_lists}
use Rattle.run_laws.proofs.lists.Feed.{choice_lists, got_lists, told_lists}
use Rattle.run_laws.proofs.lists.Places.{bytes_put_lists}
use Rattle.run_laws.proofs.lists.Slots.{callee_of_lists, happens_lists, payload_found_lists}
use Rattle.run_laws.proofs.lists.Same.{ListsBy, lists_after, lists_same, lists_given, lists_if, lists_all}

pub callback_of_lists : (o : Option Lift) (code : ℕ) (index : ℕ) (payload : ℕ) (h : Held) → ListsBy h (callback_of o code index payload h)
callback_of_lists None code index payload h =
    tt
callback_of_lists (Some f) code index payload h =
    lists_given h f.options.callback (λ ref. Gives (flow.Starts ref (code ∷ index ∷ payload ∷ [])) (at_rest rest.Runs h)) (λ ref is. lists_all h (at_rest rest.Runs h) refl refl refl refl refl)

pub callback_started_lists : (g : Views) (t : ℕ) (code : ℕ) (index : ℕ) (payload : ℕ) (h : Held) → ListsBy h (callback_started g t code index payload h)
unfolding callback_started
callback_started_lists g t code index payload h =
    lists_after h (callee_of t h) (λ callee k. callback_of (g.lift callee) code index payload k) (callee_of_lists t h) (λ callee k. callback_of_lists (g.lift callee) code index payload k)

pub wait_answered_lists : (g : Views) (t : ℕ) (canon : ℕ) (place : ℕ) (code : ℕ) (index : ℕ) (payload : ℕ) (h : Held) → ListsBy h (wait_answered g t canon place code index payload h)
unfolding wait_answered
wait_answered_lists g t canon place code index payload h =
    lists_after h (bytes_put (memory_of (g.options canon) h) place (event_bytes index payload) h) (λ done k. got t (code ∷ []) k) (bytes_put_lists (memory_of (g.options canon) h) place (event_bytes index payload) h) (λ done k. got_lists t (code ∷ []) k)

pub received_lists : (g : Views) (t : ℕ) (r : Receiver) (code : ℕ) (index : ℕ) (payload : ℕ) (h : Held) → ListsBy h (received g t r code index payload h)
received_lists g t (receiver.InWait canon place) code index payload h =
    wait_answered_lists g t canon place code index payload h
received_lists g t receiver.InCallback code index payload h =
    callback_started_lists g t code index payload h

pub received_none_lists : (g : Views) (t : ℕ) (r : Receiver) (h : Held) → ListsBy h (received_none g t r h)
unfolding received_none
received_none_lists g t r h =
    lists_after h (told (line.Event t 0 0 0) h) (λ done k. received g t r 0 0 0 k) (told_lists (line.Event t 0 0 0) h) (λ done k. received_lists g t r 0 0 0 k)

pub received_cancel_lists : (g : Views) (t : ℕ) (r : Receiver) (h : Held) → ListsBy h (received_cancel g t r h)
unfolding received_cancel
received_cancel_lists g t r h =
    lists_after h (happens t event.ToldCancel h) (λ done k. after (told (line.Event t 6 0 0) k) (λ done l. received g t r 6 0 0 l)) (happens_lists t event.ToldCancel h tt) (λ done k. lists_after k (told (line.Event t 6 0 0) k) (λ done l. received g t r 6 0 0 l) (told_lists (line.Event t 6 0 0) k) (λ done l. received_lists g t r 6 0 0 l))

pub end_told_lists : (at : ℕ) (index : ℕ) (e : EndEntry) (h : Held) → ListsBy h (end_told at index e h)
unfolding end_told
end_told_lists at index e h =
    lists_after h (concluded (kind_of_end e h) e.side e.number h) (λ payload k. after (idle_seen (kind_of_end e h) e.side e.number k) (λ is_idle l. after (end_idled at index is_idle l) (λ done m. Gives payload m))) (concluded_lists (kind_of_end e h) e.side e.number h) (λ payload k. lists_after k (idle_seen (kind_of_end e h) e.side e.number k) (λ is_idle l. after (end_idled at index is_idle l) (λ done m. Gives payload m)) (idle_seen_lists (kind_of_end e h) e.side e.number k) (λ is_idle l. lists_after l (end_idled at index is_idle l) (λ done m. Gives payload m) (end_idled_lists at index is_idle l) (λ done m. lists_same m)))

pub subtask_delivered_lists : (g : Views) (t : ℕ) (at : ℕ) (r : Receiver) (index : ℕ) (callee : ℕ) (h : Held) → ListsBy h (subtask_delivered g t at r index callee h)
unfolding subtask_delivered
subtask_delivered_lists g t at r index callee h =
    lists_after h (payload_found callee h) (λ payload k. after (told (line.Event t 1 index payload) k) (λ done l. after (subtask_told at callee l) (λ state m. received g t r 1 index payload m))) (payload_found_lists callee h) (λ payload k. lists_after k (told (line.Event t 1 index payload) k) (λ done l. after (subtask_told at callee l) (λ state m. received g t r 1 index payload m)) (told_lists (line.Event t 1 index payload) k) (λ done l. lists_after l (subtask_told at callee l) (λ state m. received g t r 1 index payload m) (subtask_told_lists at callee l) (λ state m. received_lists g t r 1 index payload m)))

pub end_delivered_lists : (g : Views) (t : ℕ) (at : ℕ) (r : Receiver) (index : ℕ) (e : EndEntry) (h : Held) → ListsBy h (end_delivered g t at r index e h)
unfolding end_delivered
end_delivered_lists g t at r index e h =
    lists_after h (end_told at index e h) (λ payload k. after (told (line.Event t (event_code (kind_of_end e h) e.side) index payload) k) (λ done l. received g t r (event_code (kind_of_end e h) e.side) index payload l)) (end_told_lists at index e h) (λ payload k. lists_after k (told (line.Event t (event_code (kind_of_end e h) e.side) index payload) k) (λ done l. received g t r (event_code (kind_of_end e h) e.side) index payload l) (told_lists (line.Event t (event_code (kind_of_end e h) e.side) index payload) k) (λ done l. received_lists g t r (event_code (kind_of_end e h) e.side) index payload l))

pub member_delivered_lists : (g : Views) (t : ℕ) (at : ℕ) (r : Receiver) (index : ℕ) (o : Option WorldEntry) (h : Held) → ListsBy h (member_delivered g t at r index o h)
member_delivered_lists g t at r index None h =
    tt
member_delivered_lists g t at r index (Some (entry.Handle x)) h =
    tt
member_delivered_lists g t at r index (Some (entry.Subtask callee)) h =
    subtask_delivered_lists g t at r index callee h
member_delivered_lists g t at r index (Some (entry.Set set)) h =
    tt
member_delivered_lists g t at r index (Some (entry.End e)) h =
    end_delivered_lists g t at r index e h

pub delivered_among_lists : (g : Views) (t : ℕ) (at : ℕ) (r : Receiver) (members : List ℕ) (h : Held) → ListsBy h (delivered_among g t at r members h)
unfolding delivered_among
delivered_among_lists g t at r members h =
    lists_after h (choice (length members) h) (λ number k. given (slice_get members number) (λ index. after (entry_found at index k) (λ found l. member_delivered g t at r index found l))) (choice_lists (length members) h) (λ number k. lists_given k (slice_get members number) (λ index. after (entry_found at index k) (λ found l. member_delivered g t at r index found l)) (λ index is. lists_after k (entry_found at index k) (λ found l. member_delivered g t at r index found l) (entry_found_lists at index k) (λ found l. member_delivered_lists g t at r index found l)))

pub delivers_lists : (g : Views) (t : ℕ) (at : ℕ) (r : Receiver) (set : ℕ) (h : Held) → ListsBy h (delivers g t at r set h)
unfolding delivers
delivers_lists g t at r set h =
    delivered_among_lists g t at r (ready g at set h) h

pub polled_lists : (g : Views) (t : ℕ) (at : ℕ) (r : Receiver) (members : List ℕ) (h : Held) → ListsBy h (polled g t at r members h)
unfolding polled
polled_lists g t at r members h =
    lists_if h (nat_eq (length members) 0) (received_none g t r h) (delivered_among g t at r members h) (received_none_lists g t r h) (delivered_among_lists g t at r members h)

pub polls_lists : (g : Views) (t : ℕ) (at : ℕ) (r : Receiver) (set : ℕ) (h : Held) → ListsBy h (polls g t at r set h)
unfolding polls
polls_lists g t at r set h =
    polled_lists g t at r (ready g at set h) h
