-- Events that come: no event is to come next.
use Rattle.std.proofs.Common.{Some}
use Rattle.std.specs.Prelude.{ℕ, nat_eq, List, [], ◌∷◌, length, Option, Some, None}
use Rattle.std.specs.List.{slice_get}
use Rattle.tasks.specs.declared.event.TaskEvent.TheVariants as event
use Rattle.instances.specs.declared.entry.EndEntry.{EndEntry}
use Rattle.instances.specs.declared.entry.WorldEntry.{WorldEntry}
use Rattle.instances.specs.declared.entry.WorldEntry.TheVariants as entry
use Rattle.comp_graph.specs.declared.graph.Lift.{Lift}
use Rattle.world_parts.specs.Views.{Views}
use Rattle.trace_labels.specs.declared.label.Label.TheVariants as line
use Rattle.world_parts.specs.declared.parts.Rest.TheVariants as rest
use Rattle.world_parts.specs.declared.parts.Receiver.{Receiver}
use Rattle.world_parts.specs.declared.parts.Receiver.TheVariants as receiver
use Rattle.world_parts.specs.declared.parts.Flow.TheVariants as flow
use Rattle.world_parts.specs.Held.{Held, Gives, after, given}
use Rattle.world_parts.specs.Feed.{told, at_rest, choice, got}
use Rattle.world_parts.specs.Entries.{entry_found}
use Rattle.world_parts.specs.Slots.{callee_of, payload_found, happens}
use Rattle.world_parts.specs.Channels.{kind_of_end}
use Rattle.world_parts.specs.Places.{memory_of, bytes_put}
use Rattle.world_parts.specs.Calls.{subtask_told}
use Rattle.world_parts.specs.News.{ready}
use Rattle.world_parts.specs.Events.{callback_of, callback_started, delivered_among, delivers, end_delivered, end_told, event_bytes, event_code, member_delivered, polled, polls, received, received_cancel, received_none, subtask_delivered, wait_answered}
use Rattle.run_laws.proofs.silent.Feed.{got_silent}
use Rattle.run_laws.proofs.silent.Silent.{SilentBy, silent_after, silent_given, silent_if}

pub callback_of_silent : (o : Option Lift) (code : ℕ) (index : ℕ) (payload : ℕ) (h : Held) → SilentBy (callback_of o code index payload h)
callback_of_silent None code index payload h =
    tt
callback_of_silent (Some f) code index payload h =
    silent_given f.options.callback (λ ref. Gives (flow.Starts ref (code ∷ index ∷ payload ∷ [])) (at_rest rest.Runs h)) (λ ref is. tt)

pub callback_started_silent : (g : Views) (t : ℕ) (code : ℕ) (index : ℕ) (payload : ℕ) (h : Held) → SilentBy (callback_started g t code index payload h)
unfolding callback_started
callback_started_silent g t code index payload h =
    silent_after (callee_of t h) (λ callee k. callback_of (g.lift callee) code index payload k) (λ callee k. callback_of_silent (g.lift callee) code index payload k)

pub wait_answered_silent : (g : Views) (t : ℕ) (canon : ℕ) (place : ℕ) (code : ℕ) (index : ℕ) (payload : ℕ) (h : Held) → SilentBy (wait_answered g t canon place code index payload h)
unfolding wait_answered
wait_answered_silent g t canon place code index payload h =
    silent_after (bytes_put (memory_of (g.options canon) h) place (event_bytes index payload) h) (λ done k. got t (code ∷ []) k) (λ done k. got_silent t (code ∷ []) k)

pub received_silent : (g : Views) (t : ℕ) (r : Receiver) (code : ℕ) (index : ℕ) (payload : ℕ) (h : Held) → SilentBy (received g t r code index payload h)
received_silent g t (receiver.InWait canon place) code index payload h =
    wait_answered_silent g t canon place code index payload h
received_silent g t receiver.InCallback code index payload h =
    callback_started_silent g t code index payload h

pub received_none_silent : (g : Views) (t : ℕ) (r : Receiver) (h : Held) → SilentBy (received_none g t r h)
unfolding received_none
received_none_silent g t r h =
    silent_after (told (line.Event t 0 0 0) h) (λ done k. received g t r 0 0 0 k) (λ done k. received_silent g t r 0 0 0 k)

pub received_cancel_silent : (g : Views) (t : ℕ) (r : Receiver) (h : Held) → SilentBy (received_cancel g t r h)
unfolding received_cancel
received_cancel_silent g t r h =
    silent_after (happens t event.ToldCancel h) (λ done k. after (told (line.Event t 6 0 0) k) (λ done l. received g t r 6 0 0 l)) (λ done k. silent_after (told (line.Event t 6 0 0) k) (λ done l. received g t r 6 0 0 l) (λ done l. received_silent g t r 6 0 0 l))

pub subtask_delivered_silent : (g : Views) (t : ℕ) (at : ℕ) (r : Receiver) (index : ℕ) (callee : ℕ) (h : Held) → SilentBy (subtask_delivered g t at r index callee h)
unfolding subtask_delivered
subtask_delivered_silent g t at r index callee h =
    silent_after (payload_found callee h) (λ payload k. after (told (line.Event t 1 index payload) k) (λ done l. after (subtask_told at callee l) (λ state m. received g t r 1 index payload m))) (λ payload k. silent_after (told (line.Event t 1 index payload) k) (λ done l. after (subtask_told at callee l) (λ state m. received g t r 1 index payload m)) (λ done l. silent_after (subtask_told at callee l) (λ state m. received g t r 1 index payload m) (λ state m. received_silent g t r 1 index payload m)))

pub end_delivered_silent : (g : Views) (t : ℕ) (at : ℕ) (r : Receiver) (index : ℕ) (e : EndEntry) (h : Held) → SilentBy (end_delivered g t at r index e h)
unfolding end_delivered
end_delivered_silent g t at r index e h =
    silent_after (end_told at index e h) (λ payload k. after (told (line.Event t (event_code (kind_of_end e h) e.side) index payload) k) (λ done l. received g t r (event_code (kind_of_end e h) e.side) index payload l)) (λ payload k. silent_after (told (line.Event t (event_code (kind_of_end e h) e.side) index payload) k) (λ done l. received g t r (event_code (kind_of_end e h) e.side) index payload l) (λ done l. received_silent g t r (event_code (kind_of_end e h) e.side) index payload l))

pub member_delivered_silent : (g : Views) (t : ℕ) (at : ℕ) (r : Receiver) (index : ℕ) (o : Option WorldEntry) (h : Held) → SilentBy (member_delivered g t at r index o h)
member_delivered_silent g t at r index None h =
    tt
member_delivered_silent g t at r index (Some (entry.Handle x)) h =
    tt
member_delivered_silent g t at r index (Some (entry.Subtask callee)) h =
    subtask_delivered_silent g t at r index callee h
member_delivered_silent g t at r index (Some (entry.Set set)) h =
    tt
member_delivered_silent g t at r index (Some (entry.End e)) h =
    end_delivered_silent g t at r index e h

pub delivered_among_silent : (g : Views) (t : ℕ) (at : ℕ) (r : Receiver) (members : List ℕ) (h : Held) → SilentBy (delivered_among g t at r members h)
unfolding delivered_among
delivered_among_silent g t at r members h =
    silent_after (choice (length members) h) (λ number k. given (slice_get members number) (λ index. after (entry_found at index k) (λ found l. member_delivered g t at r index found l))) (λ number k. silent_given (slice_get members number) (λ index. after (entry_found at index k) (λ found l. member_delivered g t at r index found l)) (λ index is. silent_after (entry_found at index k) (λ found l. member_delivered g t at r index found l) (λ found l. member_delivered_silent g t at r index found l)))

pub delivers_silent : (g : Views) (t : ℕ) (at : ℕ) (r : Receiver) (set : ℕ) (h : Held) → SilentBy (delivers g t at r set h)
unfolding delivers
delivers_silent g t at r set h =
    delivered_among_silent g t at r (ready g at set h) h

pub polled_silent : (g : Views) (t : ℕ) (at : ℕ) (r : Receiver) (members : List ℕ) (h : Held) → SilentBy (polled g t at r members h)
unfolding polled
polled_silent g t at r members h =
    silent_if (nat_eq (length members) 0) (received_none g t r h) (delivered_among g t at r members h) (received_none_silent g t r h) (delivered_among_silent g t at r members h)

pub polls_silent : (g : Views) (t : ℕ) (at : ℕ) (r : Receiver) (set : ℕ) (h : Held) → SilentBy (polls g t at r set h)
unfolding polls
polls_silent g t at r set h =
    polled_silent g t at r (ready g at set h) h
