-- Events that come keep memories, core instances and ends as they are kept.
use Rattle.std.proofs.Common.{◌≡◌, refl, Some}
use Rattle.std.specs.Prelude.{ℕ, nat_eq, List, [], ◌∷◌, length, Option, Some, None}
use Rattle.std.specs.List.{slice_get}
use Rattle.tasks.specs.declared.event.TaskEvent.TheVariants as event
use Rattle.instances.specs.declared.entry.EndEntry.{EndEntry}
use Rattle.instances.specs.declared.entry.WorldEntry.{WorldEntry}
use Rattle.instances.specs.declared.entry.WorldEntry.TheVariants as entry
use Rattle.comp_graph.specs.declared.graph.Lift.{Lift}
use Rattle.instances.specs.Instances.{entry_of}
use Rattle.world_parts.specs.Views.{Views}
use Rattle.trace_labels.specs.declared.label.Label.TheVariants as line
use Rattle.world_parts.specs.declared.parts.Rest.TheVariants as rest
use Rattle.world_parts.specs.declared.parts.Receiver.{Receiver}
use Rattle.world_parts.specs.declared.parts.Receiver.TheVariants as receiver
use Rattle.world_parts.specs.declared.parts.Flow.TheVariants as flow
use Rattle.world_parts.specs.Held.{Held, Gives, after, given}
use Rattle.world_parts.specs.Feed.{told, at_rest, choice, got}
use Rattle.world_parts.specs.Entries.{entry_found}
use Rattle.world_parts.specs.Slots.{callee_of, payload_found, happens}
use Rattle.world_parts.specs.Channels.{kind_of_end}
use Rattle.world_parts.specs.Places.{memory_of, bytes_put}
use Rattle.world_parts.specs.Calls.{subtask_told}
use Rattle.world_parts.specs.News.{ready}
use Rattle.world_parts.specs.Events.{callback_of, callback_started, delivered_among, delivers, end_delivered, end_told, event_bytes, event_code, member_delivered, polled, polls, received, received_cancel, received_none, subtask_delivered, wait_answered}
use Rattle.run_laws.proofs.keeping.still.Still.{Kinds, StillBy, still_after, still_given, still_if, still_all, still_look}
use Rattle.run_laws.proofs.keeping.still.Calls.{subtask_told_still}
use Rattle.run_laws.proofs.keeping.still.EndParts.{StandsThere, end_told_still}
use Rattle.run_laws.proofs.keeping.still.Feed.{choice_still, got_still, told_still}
use Rattle.run_laws.proofs.keeping.still.Places.{bytes_put_still}
use Rattle.run_laws.proofs.keeping.still.Slots.{callee_of_still, happens_still, payload_found_still}

pub callback_of_still : (W : Kinds) → (o : Option Lift) (code : ℕ) (index : ℕ) (payload : ℕ) (h : Held) → StillBy W h (callback_of o code index payload h)
callback_of_still W None code index payload h =
    tt
callback_of_still W (Some f) code index payload h =
    still_given W h f.options.callback (λ ref. Gives (flow.Starts ref (code ∷ index ∷ payload ∷ [])) (at_rest rest.Runs h)) (λ ref is. still_all W h (at_rest rest.Runs h) refl refl refl refl refl)

pub callback_started_still : (W : Kinds) → (g : Views) (t : ℕ) (code : ℕ) (index : ℕ) (payload : ℕ) (h : Held) → StillBy W h (callback_started g t code index payload h)
unfolding callback_started
callback_started_still W g t code index payload h =
    still_after W h (callee_of t h) (λ callee k. callback_of (g.lift callee) code index payload k) (callee_of_still W t h) (λ callee k. callback_of_still W (g.lift callee) code index payload k)

pub wait_answered_still : (W : Kinds) → (g : Views) (t : ℕ) (canon : ℕ) (place : ℕ) (code : ℕ) (index : ℕ) (payload : ℕ) (h : Held) → StillBy W h (wait_answered g t canon place code index payload h)
unfolding wait_answered
wait_answered_still W g t canon place code index payload h =
    still_after W h (bytes_put (memory_of (g.options canon) h) place (event_bytes index payload) h) (λ done k. got t (code ∷ []) k) (bytes_put_still W (memory_of (g.options canon) h) place (event_bytes index payload) h) (λ done k. got_still W t (code ∷ []) k)

pub received_still : (W : Kinds) → (g : Views) (t : ℕ) (r : Receiver) (code : ℕ) (index : ℕ) (payload : ℕ) (h : Held) → StillBy W h (received g t r code index payload h)
received_still W g t (receiver.InWait canon place) code index payload h =
    wait_answered_still W g t canon place code index payload h
received_still W g t receiver.InCallback code index payload h =
    callback_started_still W g t code index payload h

pub received_none_still : (W : Kinds) → (g : Views) (t : ℕ) (r : Receiver) (h : Held) → StillBy W h (received_none g t r h)
unfolding received_none
received_none_still W g t r h =
    still_after W h (told (line.Event t 0 0 0) h) (λ done k. received g t r 0 0 0 k) (told_still W (line.Event t 0 0 0) h) (λ done k. received_still W g t r 0 0 0 k)

pub received_cancel_still : (W : Kinds) → (g : Views) (t : ℕ) (r : Receiver) (h : Held) → StillBy W h (received_cancel g t r h)
unfolding received_cancel
received_cancel_still W g t r h =
    still_after W h (happens t event.ToldCancel h) (λ done k. after (told (line.Event t 6 0 0) k) (λ done l. received g t r 6 0 0 l)) (happens_still W t event.ToldCancel h) (λ done k. still_after W k (told (line.Event t 6 0 0) k) (λ done l. received g t r 6 0 0 l) (told_still W (line.Event t 6 0 0) k) (λ done l. received_still W g t r 6 0 0 l))

pub subtask_delivered_still : (W : Kinds) → (g : Views) (t : ℕ) (at : ℕ) (r : Receiver) (index : ℕ) (callee : ℕ) (h : Held) → StillBy W h (subtask_delivered g t at r index callee h)
unfolding subtask_delivered
subtask_delivered_still W g t at r index callee h =
    still_after W h (payload_found callee h) (λ payload k. after (told (line.Event t 1 index payload) k) (λ done l. after (subtask_told at callee l) (λ state m. received g t r 1 index payload m))) (payload_found_still W callee h) (λ payload k. still_after W k (told (line.Event t 1 index payload) k) (λ done l. after (subtask_told at callee l) (λ state m. received g t r 1 index payload m)) (told_still W (line.Event t 1 index payload) k) (λ done l. still_after W l (subtask_told at callee l) (λ state m. received g t r 1 index payload m) (subtask_told_still W at callee l) (λ state m. received_still W g t r 1 index payload m)))

pub end_delivered_still : (W : Kinds) → (g : Views) (t : ℕ) (at : ℕ) (r : Receiver) (index : ℕ) (e : EndEntry) (h : Held) → StandsThere h at index e → StillBy W h (end_delivered g t at r index e h)
unfolding end_delivered
end_delivered_still W g t at r index e h stands =
    still_after W h (end_told at index e h) (λ payload k. after (told (line.Event t (event_code (kind_of_end e h) e.side) index payload) k) (λ done l. received g t r (event_code (kind_of_end e h) e.side) index payload l)) (end_told_still W at index e h stands) (λ payload k. still_after W k (told (line.Event t (event_code (kind_of_end e h) e.side) index payload) k) (λ done l. received g t r (event_code (kind_of_end e h) e.side) index payload l) (told_still W (line.Event t (event_code (kind_of_end e h) e.side) index payload) k) (λ done l. received_still W g t r (event_code (kind_of_end e h) e.side) index payload l))

pub member_delivered_still : (W : Kinds) → (g : Views) (t : ℕ) (at : ℕ) (r : Receiver) (index : ℕ) (o : Option WorldEntry) (h : Held) → ((e : EndEntry) → o ≡ Some (entry.End e) → StandsThere h at index e)
    → StillBy W h (member_delivered g t at r index o h)
member_delivered_still W g t at r index None h stands =
    tt
member_delivered_still W g t at r index (Some (entry.Handle x)) h stands =
    tt
member_delivered_still W g t at r index (Some (entry.Subtask callee)) h stands =
    subtask_delivered_still W g t at r index callee h
member_delivered_still W g t at r index (Some (entry.Set set)) h stands =
    tt
member_delivered_still W g t at r index (Some (entry.End e)) h stands =
    end_delivered_still W g t at r index e h (stands e refl)

pub delivered_among_still : (W : Kinds) → (g : Views) (t : ℕ) (at : ℕ) (r : Receiver) (members : List ℕ) (h : Held) → StillBy W h (delivered_among g t at r members h)
unfolding delivered_among
delivered_among_still W g t at r members h =
    still_after W h (choice (length members) h) (λ number k. given (slice_get members number) (λ index. after (entry_found at index k) (λ found l. member_delivered g t at r index found l))) (choice_still W (length members) h) (λ number k. still_given W k (slice_get members number) (λ index. after (entry_found at index k) (λ found l. member_delivered g t at r index found l)) (λ index is. still_look W k (slice_get k.instances at) (λ i. Gives (entry_of i index) k) (λ found l. member_delivered g t at r index found l)
    (λ i here. member_delivered_still W g t at r index (entry_of i index) k (λ e is_end. (i, here, is_end)))))

pub delivers_still : (W : Kinds) → (g : Views) (t : ℕ) (at : ℕ) (r : Receiver) (set : ℕ) (h : Held) → StillBy W h (delivers g t at r set h)
unfolding delivers
delivers_still W g t at r set h =
    delivered_among_still W g t at r (ready g at set h) h

pub polled_still : (W : Kinds) → (g : Views) (t : ℕ) (at : ℕ) (r : Receiver) (members : List ℕ) (h : Held) → StillBy W h (polled g t at r members h)
unfolding polled
polled_still W g t at r members h =
    still_if W h (nat_eq (length members) 0) (received_none g t r h) (delivered_among g t at r members h) (received_none_still W g t r h) (delivered_among_still W g t at r members h)

pub polls_still : (W : Kinds) → (g : Views) (t : ℕ) (at : ℕ) (r : Receiver) (set : ℕ) (h : Held) → StillBy W h (polls g t at r set h)
unfolding polls
polls_still W g t at r set h =
    polled_still W g t at r (ready g at set h) h
