-- Events that come: what is kept well stays so.
use Rattle.std.proofs.Common.{refl, Some}
use Rattle.std.specs.Prelude.{ℕ, nat_eq, List, [], ◌∷◌, length, Option, Some, None}
use Rattle.std.specs.List.{slice_get}
use Rattle.tasks.specs.declared.event.TaskEvent.TheVariants as event
use Rattle.instances.specs.declared.entry.EndEntry.{EndEntry}
use Rattle.instances.specs.declared.entry.WorldEntry.{WorldEntry}
use Rattle.instances.specs.declared.entry.WorldEntry.TheVariants as entry
use Rattle.comp_graph.specs.declared.graph.Lift.{Lift}
use Rattle.world_parts.specs.Views.{Views}
use Rattle.trace_labels.specs.declared.label.Label.TheVariants as line
use Rattle.world_parts.specs.declared.parts.Rest.TheVariants as rest
use Rattle.world_parts.specs.declared.parts.Receiver.{Receiver}
use Rattle.world_parts.specs.declared.parts.Receiver.TheVariants as receiver
use Rattle.world_parts.specs.declared.parts.Flow.TheVariants as flow
use Rattle.world_parts.specs.Held.{Held, Gives, after, given}
use Rattle.world_parts.specs.Feed.{told, at_rest, choice, got}
use Rattle.world_parts.specs.Entries.{entry_found, end_idled}
use Rattle.world_parts.specs.Slots.{callee_of, payload_found, happens}
use Rattle.world_parts.specs.Channels.{kind_of_end, concluded, idle_seen}
use Rattle.world_parts.specs.Places.{memory_of, bytes_put}
use Rattle.world_parts.specs.Calls.{subtask_told}
use Rattle.world_parts.specs.News.{ready}
use Rattle.world_parts.specs.Events.{callback_of, callback_started, delivered_among, delivers, end_delivered, end_told, event_bytes, event_code, member_delivered, polled, polls, received, received_cancel, received_none, subtask_delivered, wait_answered}
use Rattle.run_laws.specs.keeping.Well.{KeepsWell}
use Rattle.run_laws.proofs.well.Calls.{subtask_told_well}
use Rattle.run_laws.proofs.well.Channels.{concluded_well, idle_seen_well}
use Rattle.run_laws.proofs.well.Entries.{end_idled_well, entry_found_well}
use Rattle.run_laws.proofs.well.Feed.{choice_well, got_well, told_well}
use Rattle.run_laws.proofs.well.Places.{bytes_put_well}
use Rattle.run_laws.proofs.well.Slots.{callee_of_well, happens_well, payload_found_well}
use Rattle.run_laws.proofs.well.Behind.{well_after, well_given, well_if, well_same, well_all}

pub callback_of_well : (o : Option Lift) (code : ℕ) (index : ℕ) (payload : ℕ) (h : Held) → KeepsWell h (callback_of o code index payload h)
callback_of_well None code index payload h =
    tt
callback_of_well (Some f) code index payload h =
    well_given h f.options.callback (λ ref. Gives (flow.Starts ref (code ∷ index ∷ payload ∷ [])) (at_rest rest.Runs h)) (λ ref is. well_all h (at_rest rest.Runs h) refl)

pub callback_started_well : (g : Views) (t : ℕ) (code : ℕ) (index : ℕ) (payload : ℕ) (h : Held) → KeepsWell h (callback_started g t code index payload h)
unfolding callback_started
callback_started_well g t code index payload h =
    well_after h (callee_of t h) (λ callee k. callback_of (g.lift callee) code index payload k) (callee_of_well t h) (λ callee k. callback_of_well (g.lift callee) code index payload k)

pub wait_answered_well : (g : Views) (t : ℕ) (canon : ℕ) (place : ℕ) (code : ℕ) (index : ℕ) (payload : ℕ) (h : Held) → KeepsWell h (wait_answered g t canon place code index payload h)
unfolding wait_answered
wait_answered_well g t canon place code index payload h =
    well_after h (bytes_put (memory_of (g.options canon) h) place (event_bytes index payload) h) (λ done k. got t (code ∷ []) k) (bytes_put_well (memory_of (g.options canon) h) place (event_bytes index payload) h) (λ done k. got_well t (code ∷ []) k)

pub received_well : (g : Views) (t : ℕ) (r : Receiver) (code : ℕ) (index : ℕ) (payload : ℕ) (h : Held) → KeepsWell h (received g t r code index payload h)
received_well g t (receiver.InWait canon place) code index payload h =
    wait_answered_well g t canon place code index payload h
received_well g t receiver.InCallback code index payload h =
    callback_started_well g t code index payload h

pub received_none_well : (g : Views) (t : ℕ) (r : Receiver) (h : Held) → KeepsWell h (received_none g t r h)
unfolding received_none
received_none_well g t r h =
    well_after h (told (line.Event t 0 0 0) h) (λ done k. received g t r 0 0 0 k) (told_well (line.Event t 0 0 0) h) (λ done k. received_well g t r 0 0 0 k)

pub received_cancel_well : (g : Views) (t : ℕ) (r : Receiver) (h : Held) → KeepsWell h (received_cancel g t r h)
unfolding received_cancel
received_cancel_well g t r h =
    well_after h (happens t event.ToldCancel h) (λ done k. after (told (line.Event t 6 0 0) k) (λ done l. received g t r 6 0 0 l)) (happens_well t event.ToldCancel h) (λ done k. well_after k (told (line.Event t 6 0 0) k) (λ done l. received g t r 6 0 0 l) (told_well (line.Event t 6 0 0) k) (λ done l. received_well g t r 6 0 0 l))

pub end_told_well : (at : ℕ) (index : ℕ) (e : EndEntry) (h : Held) → KeepsWell h (end_told at index e h)
unfolding end_told
end_told_well at index e h =
    well_after h (concluded (kind_of_end e h) e.side e.number h) (λ payload k. after (idle_seen (kind_of_end e h) e.side e.number k) (λ is_idle l. after (end_idled at index is_idle l) (λ done m. Gives payload m))) (concluded_well (kind_of_end e h) e.side e.number h) (λ payload k. well_after k (idle_seen (kind_of_end e h) e.side e.number k) (λ is_idle l. after (end_idled at index is_idle l) (λ done m. Gives payload m)) (idle_seen_well (kind_of_end e h) e.side e.number k) (λ is_idle l. well_after l (end_idled at index is_idle l) (λ done m. Gives payload m) (end_idled_well at index is_idle l) (λ done m. well_same m)))

pub subtask_delivered_well : (g : Views) (t : ℕ) (at : ℕ) (r : Receiver) (index : ℕ) (callee : ℕ) (h : Held) → KeepsWell h (subtask_delivered g t at r index callee h)
unfolding subtask_delivered
subtask_delivered_well g t at r index callee h =
    well_after h (payload_found callee h) (λ payload k. after (told (line.Event t 1 index payload) k) (λ done l. after (subtask_told at callee l) (λ state m. received g t r 1 index payload m))) (payload_found_well callee h) (λ payload k. well_after k (told (line.Event t 1 index payload) k) (λ done l. after (subtask_told at callee l) (λ state m. received g t r 1 index payload m)) (told_well (line.Event t 1 index payload) k) (λ done l. well_after l (subtask_told at callee l) (λ state m. received g t r 1 index payload m) (subtask_told_well at callee l) (λ state m. received_well g t r 1 index payload m)))

pub end_delivered_well : (g : Views) (t : ℕ) (at : ℕ) (r : Receiver) (index : ℕ) (e : EndEntry) (h : Held) → KeepsWell h (end_delivered g t at r index e h)
unfolding end_delivered
end_delivered_well g t at r index e h =
    well_after h (end_told at index e h) (λ payload k. after (told (line.Event t (event_code (kind_of_end e h) e.side) index payload) k) (λ done l. received g t r (event_code (kind_of_end e h) e.side) index payload l)) (end_told_well at index e h) (λ payload k. well_after k (told (line.Event t (event_code (kind_of_end e h) e.side) index payload) k) (λ done l. received g t r (event_code (kind_of_end e h) e.side) index payload l) (told_well (line.Event t (event_code (kind_of_end e h) e.side) index payload) k) (λ done l. received_well g t r (event_code (kind_of_end e h) e.side) index payload l))

pub member_delivered_well : (g : Views) (t : ℕ) (at : ℕ) (r : Receiver) (index : ℕ) (o : Option WorldEntry) (h : Held) → KeepsWell h (member_delivered g t at r index o h)
member_delivered_well g t at r index None h =
    tt
member_delivered_well g t at r index (Some (entry.Handle x)) h =
    tt
member_delivered_well g t at r index (Some (entry.Subtask callee)) h =
    subtask_delivered_well g t at r index callee h
member_delivered_well g t at r index (Some (entry.Set set)) h =
    tt
member_delivered_well g t at r index (Some (entry.End e)) h =
    end_delivered_well g t at r index e h

pub delivered_among_well : (g : Views) (t : ℕ) (at : ℕ) (r : Receiver) (members : List ℕ) (h : Held) → KeepsWell h (delivered_among g t at r members h)
unfolding delivered_among
delivered_among_well g t at r members h =
    well_after h (choice (length members) h) (λ number k. given (slice_get members number) (λ index. after (entry_found at index k) (λ found l. member_delivered g t at r index found l))) (choice_well (length members) h) (λ number k. well_given k (slice_get members number) (λ index. after (entry_found at index k) (λ found l. member_delivered g t at r index found l)) (λ index is. well_after k (entry_found at index k) (λ found l. member_delivered g t at r index found l) (entry_found_well at index k) (λ found l. member_delivered_well g t at r index found l)))

pub delivers_well : (g : Views) (t : ℕ) (at : ℕ) (r : Receiver) (set : ℕ) (h : Held) → KeepsWell h (delivers g t at r set h)
unfolding delivers
delivers_well g t at r set h =
    delivered_among_well g t at r (ready g at set h) h

pub polled_well : (g : Views) (t : ℕ) (at : ℕ) (r : Receiver) (members : List ℕ) (h : Held) → KeepsWell h (polled g t at r members h)
unfolding polled
polled_well g t at r members h =
    well_if h (nat_eq (length members) 0) (received_none g t r h) (delivered_among g t at r members h) (received_none_well g t r h) (delivered_among_well g t at r members h)

pub polls_well : (g : Views) (t : ℕ) (at : ℕ) (r : Receiver) (set : ℕ) (h : Held) → KeepsWell h (polls g t at r set h)
unfolding polls
polls_well g t at r set h =
    polled_well g t at r (ready g at set h) h
