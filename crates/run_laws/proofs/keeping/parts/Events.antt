-- Events that come leave marks of handles and subtasks as they are.
use Rattle.std.proofs.Common.{◌≡◌, true, false, refl}
use Rattle.std.specs.Prelude.{ℕ, nat_eq, nat_lt, Bool, if◌then◌else◌, List, [], ◌∷◌, ◌++◌, length, Option, Some, None}
use Rattle.std.specs.List.{slice_get}
use Rattle.choices.specs.Choosing.{picked, left}
use Rattle.tasks.specs.declared.event.TaskEvent.TheVariants as event
use Rattle.tasks.specs.Subtasks.{code_of}
use Rattle.instances.specs.declared.entry.EndEntry.{EndEntry}
use Rattle.instances.specs.declared.entry.WorldEntry.{WorldEntry}
use Rattle.instances.specs.declared.entry.WorldEntry.TheVariants as entry
use Rattle.instances.specs.Instances.{entry_of}
use Rattle.task_table.specs.Callers.{called_of}
use Rattle.comp_graph.specs.declared.graph.Lift.{Lift}
use Rattle.trace_labels.specs.declared.label.Label.{Label}
use Rattle.trace_labels.specs.declared.label.Label.TheVariants as line
use Rattle.world_parts.specs.Views.{Views}
use Rattle.world_parts.specs.declared.parts.Rest.TheVariants as rest
use Rattle.world_parts.specs.declared.parts.Receiver.{Receiver}
use Rattle.world_parts.specs.declared.parts.Receiver.TheVariants as receiver
use Rattle.world_parts.specs.declared.parts.Flow.TheVariants as flow
use Rattle.world_parts.specs.Held.{Held, Done, Gives, after, given}
use Rattle.world_parts.specs.Feed.{told, at_rest, chosen, got}
use Rattle.world_parts.specs.Entries.{entry_found, end_idled}
use Rattle.world_parts.specs.News.{ready}
use Rattle.world_parts.specs.Slots.{callee_of, happens}
use Rattle.world_parts.specs.Channels.{kind_of_end, concluded, idle_seen}
use Rattle.world_parts.specs.Places.{memory_of, bytes_put}
use Rattle.world_parts.specs.Calls.{subtask_told}
use Rattle.world_parts.specs.Events.{callback_of, callback_started, delivered_among, delivers, end_delivered, end_told, event_bytes, event_code, member_delivered, polled, polls, received, received_cancel, received_none, subtask_delivered, wait_answered}
use Rattle.run_laws.specs.keeping.Kept.{CalledFrom, SubtasksAreOwn, ToldGaveBack, AskedAreOpen}
use Rattle.run_laws.proofs.keeping.Others.{KeptBy, keeps_after, keeps_given, keeps_if, keeps_same, keeps_all, keeps_from, look_keeps}
use Rattle.run_laws.proofs.keeping.Told.{subtask_told_keeps}
use Rattle.run_laws.proofs.keeping.parts.Channels.{concluded_keeps, idle_seen_keeps}
use Rattle.run_laws.proofs.keeping.parts.Entries.{end_idled_keeps}
use Rattle.run_laws.proofs.keeping.parts.Feed.{got_keeps, told_keeps}
use Rattle.run_laws.proofs.keeping.parts.Places.{bytes_put_keeps}
use Rattle.run_laws.proofs.keeping.parts.Slots.{callee_of_keeps, told_cancel_keeps}

pub callback_of_keeps : (o : Option Lift) (code : ℕ) (index : ℕ) (payload : ℕ) (h : Held) → KeptBy h (callback_of o code index payload h)
callback_of_keeps None code index payload h =
    tt
callback_of_keeps (Some f) code index payload h =
    keeps_given h f.options.callback (λ ref. Gives (flow.Starts ref (code ∷ index ∷ payload ∷ [])) (at_rest rest.Runs h)) (λ ref is. keeps_all h (at_rest rest.Runs h) refl refl)

pub callback_started_keeps : (g : Views) (t : ℕ) (code : ℕ) (index : ℕ) (payload : ℕ) (h : Held) → KeptBy h (callback_started g t code index payload h)
unfolding callback_started
callback_started_keeps g t code index payload h =
    keeps_after h (callee_of t h) (λ callee k. callback_of (g.lift callee) code index payload k) (callee_of_keeps t h) (λ callee k. callback_of_keeps (g.lift callee) code index payload k)

pub wait_answered_keeps : (g : Views) (t : ℕ) (canon : ℕ) (place : ℕ) (code : ℕ) (index : ℕ) (payload : ℕ) (h : Held) → KeptBy h (wait_answered g t canon place code index payload h)
unfolding wait_answered
wait_answered_keeps g t canon place code index payload h =
    keeps_after h (bytes_put (memory_of (g.options canon) h) place (event_bytes index payload) h) (λ done k. got t (code ∷ []) k) (bytes_put_keeps (memory_of (g.options canon) h) place (event_bytes index payload) h) (λ done k. got_keeps t (code ∷ []) k)

pub received_keeps : (g : Views) (t : ℕ) (r : Receiver) (code : ℕ) (index : ℕ) (payload : ℕ) (h : Held) → KeptBy h (received g t r code index payload h)
received_keeps g t (receiver.InWait canon place) code index payload h =
    wait_answered_keeps g t canon place code index payload h
received_keeps g t receiver.InCallback code index payload h =
    callback_started_keeps g t code index payload h

pub received_none_keeps : (g : Views) (t : ℕ) (r : Receiver) (h : Held) → KeptBy h (received_none g t r h)
unfolding received_none
received_none_keeps g t r h =
    keeps_after h (told (line.Event t 0 0 0) h) (λ done k. received g t r 0 0 0 k) (told_keeps (line.Event t 0 0 0) h) (λ done k. received_keeps g t r 0 0 0 k)

pub received_cancel_keeps : (g : Views) (t : ℕ) (r : Receiver) (h : Held) → AskedAreOpen h → KeptBy h (received_cancel g t r h)
unfolding received_cancel
received_cancel_keeps g t r h still =
    keeps_after h (happens t event.ToldCancel h) (λ done k. after (told (line.Event t 6 0 0) k) (λ done l. received g t r 6 0 0 l)) (told_cancel_keeps t h still) (λ done k. keeps_after k (told (line.Event t 6 0 0) k) (λ done l. received g t r 6 0 0 l) (told_keeps (line.Event t 6 0 0) k) (λ done l. received_keeps g t r 6 0 0 l))

pub end_told_keeps : (at : ℕ) (index : ℕ) (e : EndEntry) (h : Held) → KeptBy h (end_told at index e h)
unfolding end_told
end_told_keeps at index e h =
    keeps_after h (concluded (kind_of_end e h) e.side e.number h) (λ payload k. after (idle_seen (kind_of_end e h) e.side e.number k) (λ is_idle l. after (end_idled at index is_idle l) (λ done m. Gives payload m))) (concluded_keeps (kind_of_end e h) e.side e.number h) (λ payload k. keeps_after k (idle_seen (kind_of_end e h) e.side e.number k) (λ is_idle l. after (end_idled at index is_idle l) (λ done m. Gives payload m)) (idle_seen_keeps (kind_of_end e h) e.side e.number k) (λ is_idle l. keeps_after l (end_idled at index is_idle l) (λ done m. Gives payload m) (end_idled_keeps at index is_idle l) (λ done m. keeps_same m)))

pub subtask_delivered_keeps : (g : Views) (t : ℕ) (at : ℕ) (r : Receiver) (index : ℕ) (callee : ℕ) (h : Held) → CalledFrom h at callee → ToldGaveBack h
    → KeptBy h (subtask_delivered g t at r index callee h)
unfolding subtask_delivered
subtask_delivered_keeps g t at r index callee h from gave =
    look_keeps h (slice_get h.tasks callee) (λ slot. given (called_of slot.caller) (λ called. Gives (code_of called.subtask.state) h))
    (λ payload k. after (told (line.Event t 1 index payload) k) (λ done l. after (subtask_told at callee l) (λ state m. received g t r 1 index payload m)))
    (λ x is.
    look_keeps h (called_of x.caller) (λ called. Gives (code_of called.subtask.state) h)
    (λ payload k. after (told (line.Event t 1 index payload) k) (λ done l. after (subtask_told at callee l) (λ state m. received g t r 1 index payload m)))
    (λ called by.
    let payload : ℕ = code_of called.subtask.state in
    let l : Held = record h { labels = h.labels ++ line.Event t 1 index payload ∷ [] } in
    keeps_from h l (after (subtask_told at callee l) (λ state m. received g t r 1 index payload m)) refl refl
    (keeps_after l (subtask_told at callee l) (λ state m. received g t r 1 index payload m) (subtask_told_keeps at callee l from gave) (λ state m. received_keeps g t r 1 index payload m))))

pub end_delivered_keeps : (g : Views) (t : ℕ) (at : ℕ) (r : Receiver) (index : ℕ) (e : EndEntry) (h : Held) → KeptBy h (end_delivered g t at r index e h)
unfolding end_delivered
end_delivered_keeps g t at r index e h =
    keeps_after h (end_told at index e h) (λ payload k. after (told (line.Event t (event_code (kind_of_end e h) e.side) index payload) k) (λ done l. received g t r (event_code (kind_of_end e h) e.side) index payload l)) (end_told_keeps at index e h) (λ payload k. keeps_after k (told (line.Event t (event_code (kind_of_end e h) e.side) index payload) k) (λ done l. received g t r (event_code (kind_of_end e h) e.side) index payload l) (told_keeps (line.Event t (event_code (kind_of_end e h) e.side) index payload) k) (λ done l. received_keeps g t r (event_code (kind_of_end e h) e.side) index payload l))

pub member_delivered_keeps : (g : Views) (t : ℕ) (at : ℕ) (r : Receiver) (index : ℕ) (o : Option WorldEntry) (h : Held)
    → ((callee : ℕ) → o ≡ Some (entry.Subtask callee) → CalledFrom h at callee) → ToldGaveBack h → KeptBy h (member_delivered g t at r index o h)
member_delivered_keeps g t at r index None h from gave =
    tt
member_delivered_keeps g t at r index (Some (entry.Handle x)) h from gave =
    tt
member_delivered_keeps g t at r index (Some (entry.Subtask callee)) h from gave =
    subtask_delivered_keeps g t at r index callee h (from callee refl) gave
member_delivered_keeps g t at r index (Some (entry.Set set)) h from gave =
    tt
member_delivered_keeps g t at r index (Some (entry.End e)) h from gave =
    end_delivered_keeps g t at r index e h

-- One of several is chosen: lines and picks are others.
chosen_by : {A : Type 0} (h : Held) (count : ℕ) (b : Bool) (c : ℕ → Held → Done A)
    → ((n : ℕ) (picks : List ℕ) (labels : List Label) → KeptBy (record h { picks = picks; labels = labels }) (c n (record h { picks = picks; labels = labels })))
    → KeptBy h (after (if b then chosen count h else Gives 0 h) c)
chosen_by h count true c p =
    let k : Held = record h { picks = left count h.picks; labels = h.labels ++ line.Choose count (picked count h.picks) ∷ [] } in
    keeps_from h k (c (picked count h.picks) k) refl refl (p (picked count h.picks) (left count h.picks) (h.labels ++ line.Choose count (picked count h.picks) ∷ []))
chosen_by h count false c p = p 0 h.picks h.labels

pub delivered_among_keeps : (g : Views) (t : ℕ) (at : ℕ) (r : Receiver) (members : List ℕ) (h : Held) → SubtasksAreOwn h at → ToldGaveBack h
    → KeptBy h (delivered_among g t at r members h)
unfolding delivered_among
delivered_among_keeps g t at r members h own gave =
    chosen_by h (length members) (nat_lt 1 (length members))
    (λ number k. given (slice_get members number) (λ index. after (entry_found at index k) (λ found l. member_delivered g t at r index found l)))
    (λ number picks labels.
    let k : Held = record h { picks = picks; labels = labels } in
    keeps_given k (slice_get members number) (λ index. after (entry_found at index k) (λ found l. member_delivered g t at r index found l))
    (λ index there.
    look_keeps k (slice_get k.instances at) (λ i. Gives (entry_of i index) k) (λ found l. member_delivered g t at r index found l)
    (λ i is. member_delivered_keeps g t at r index (entry_of i index) k (λ callee stood. own index callee i is stood) gave)))

-- The same of a set, and of a poll.
pub delivers_keeps : (g : Views) (t at : ℕ) (r : Receiver) (set : ℕ) (h : Held) → SubtasksAreOwn h at → ToldGaveBack h → KeptBy h (delivers g t at r set h)
unfolding delivers
delivers_keeps g t at r set h own gave = delivered_among_keeps g t at r (ready g at set h) h own gave

pub polls_keeps : (g : Views) (t at : ℕ) (r : Receiver) (set : ℕ) (h : Held) → SubtasksAreOwn h at → ToldGaveBack h → KeptBy h (polls g t at r set h)
unfolding polls polled
polls_keeps g t at r set h own gave =
    keeps_if h (nat_eq (length (ready g at set h)) 0) (received_none g t r h) (delivered_among g t at r (ready g at set h) h) (received_none_keeps g t r h)
    (delivered_among_keeps g t at r (ready g at set h) h own gave)
