-- How tasks enter, go on and exit: no event is to come next.
use Rattle.std.proofs.Common.{Some}
use Rattle.std.specs.Prelude.{ℕ, false, true, if◌then◌else◌, [], ◌∷◌, Option, Some, None}
use Rattle.tasks.specs.declared.event.BlockedAt.TheVariants as blocked_at
use Rattle.tasks.specs.declared.event.TaskEvent.TheVariants as event
use Rattle.instances.specs.declared.entry.WorldEntry.{WorldEntry}
use Rattle.instances.specs.declared.entry.WorldEntry.TheVariants as entry
use Rattle.trace_labels.specs.declared.label.BlockReason.TheVariants as reason
use Rattle.trace_labels.specs.declared.label.Label.TheVariants as line
use Rattle.world_parts.specs.declared.parts.Flow.TheVariants as flow
use Rattle.world_parts.specs.Held.{Held, Gives, after}
use Rattle.world_parts.specs.Feed.{told, acting, left_chain, got}
use Rattle.world_parts.specs.Entries.{entry_found, subtask_known}
use Rattle.world_parts.specs.Gates.{may_enter, gate_waited, gate_given_up}
use Rattle.world_parts.specs.Slots.{instance_of, kind_of, happens, awaited, result_found, closed, parked}
use Rattle.world_parts.specs.Calls.{blocked, subtask_told}
use Rattle.world_parts.specs.Events.{end_told}
use Rattle.world_parts.specs.Going.{arrives, call_resumed, cancel_resumed, copy_resumed, copy_resumed_of, leaves}
use Rattle.run_laws.proofs.silent.Calls.{blocked_silent}
use Rattle.run_laws.proofs.silent.Feed.{got_silent, left_chain_silent}
use Rattle.run_laws.proofs.silent.Silent.{SilentBy, silent_after, silent_if}

pub arrives_silent : (h : Held) → SilentBy (arrives h)
unfolding arrives
arrives_silent h =
    silent_after (acting h) (λ t k. after (instance_of t k) (λ at l. after (kind_of t l) (λ kind m. after (may_enter at kind true m) (λ may n. if may then Gives flow.Enters n else after (gate_waited at n) (λ done o. after (parked t kind o) (λ done p. blocked t blocked_at.Entry false reason.Entry p)))))) (λ t k. silent_after (instance_of t k) (λ at l. after (kind_of t l) (λ kind m. after (may_enter at kind true m) (λ may n. if may then Gives flow.Enters n else after (gate_waited at n) (λ done o. after (parked t kind o) (λ done p. blocked t blocked_at.Entry false reason.Entry p))))) (λ at l. silent_after (kind_of t l) (λ kind m. after (may_enter at kind true m) (λ may n. if may then Gives flow.Enters n else after (gate_waited at n) (λ done o. after (parked t kind o) (λ done p. blocked t blocked_at.Entry false reason.Entry p)))) (λ kind m. silent_after (may_enter at kind true m) (λ may n. if may then Gives flow.Enters n else after (gate_waited at n) (λ done o. after (parked t kind o) (λ done p. blocked t blocked_at.Entry false reason.Entry p))) (λ may n. silent_if (may) (Gives flow.Enters n) (after (gate_waited at n) (λ done o. after (parked t kind o) (λ done p. blocked t blocked_at.Entry false reason.Entry p))) tt (silent_after (gate_waited at n) (λ done o. after (parked t kind o) (λ done p. blocked t blocked_at.Entry false reason.Entry p)) (λ done o. silent_after (parked t kind o) (λ done p. blocked t blocked_at.Entry false reason.Entry p) (λ done p. blocked_silent t blocked_at.Entry false reason.Entry p)))))))

pub leaves_silent : (h : Held) → SilentBy (leaves h)
unfolding leaves
leaves_silent h =
    silent_after (acting h) (λ t k. after (instance_of t k) (λ at l. after (happens t event.Exit l) (λ done m. after (gate_given_up at t m) (λ done n. after (closed t n) (λ done o. after (told (line.Exit t) o) (λ done p. left_chain p)))))) (λ t k. silent_after (instance_of t k) (λ at l. after (happens t event.Exit l) (λ done m. after (gate_given_up at t m) (λ done n. after (closed t n) (λ done o. after (told (line.Exit t) o) (λ done p. left_chain p))))) (λ at l. silent_after (happens t event.Exit l) (λ done m. after (gate_given_up at t m) (λ done n. after (closed t n) (λ done o. after (told (line.Exit t) o) (λ done p. left_chain p)))) (λ done m. silent_after (gate_given_up at t m) (λ done n. after (closed t n) (λ done o. after (told (line.Exit t) o) (λ done p. left_chain p))) (λ done n. silent_after (closed t n) (λ done o. after (told (line.Exit t) o) (λ done p. left_chain p)) (λ done o. silent_after (told (line.Exit t) o) (λ done p. left_chain p) (λ done p. left_chain_silent p))))))

pub call_resumed_silent : (t : ℕ) (at : ℕ) (callee : ℕ) (h : Held) → SilentBy (call_resumed t at callee h)
unfolding call_resumed
call_resumed_silent t at callee h =
    silent_after (result_found callee h) (λ words k. after (subtask_told at callee k) (λ payload l. got t words l)) (λ words k. silent_after (subtask_told at callee k) (λ payload l. got t words l) (λ payload l. got_silent t words l))

pub cancel_resumed_silent : (t : ℕ) (at : ℕ) (index : ℕ) (h : Held) → SilentBy (cancel_resumed t at index h)
unfolding cancel_resumed
cancel_resumed_silent t at index h =
    silent_after (subtask_known at index h) (λ callee k. after (awaited callee false k) (λ done l. after (subtask_told at callee l) (λ payload m. got t (payload ∷ []) m))) (λ callee k. silent_after (awaited callee false k) (λ done l. after (subtask_told at callee l) (λ payload m. got t (payload ∷ []) m)) (λ done l. silent_after (subtask_told at callee l) (λ payload m. got t (payload ∷ []) m) (λ payload m. got_silent t (payload ∷ []) m)))

pub copy_resumed_of_silent : (t : ℕ) (at : ℕ) (index : ℕ) (o : Option WorldEntry) (h : Held) → SilentBy (copy_resumed_of t at index o h)
copy_resumed_of_silent t at index None h =
    tt
copy_resumed_of_silent t at index (Some (entry.Handle x)) h =
    tt
copy_resumed_of_silent t at index (Some (entry.Subtask callee)) h =
    tt
copy_resumed_of_silent t at index (Some (entry.Set set)) h =
    tt
copy_resumed_of_silent t at index (Some (entry.End e)) h =
    silent_after (end_told at index e h) (λ payload k. got t (payload ∷ []) k) (λ payload k. got_silent t (payload ∷ []) k)

pub copy_resumed_silent : (t : ℕ) (at : ℕ) (index : ℕ) (h : Held) → SilentBy (copy_resumed t at index h)
unfolding copy_resumed
copy_resumed_silent t at index h =
    silent_after (entry_found at index h) (λ found k. copy_resumed_of t at index found k) (λ found k. copy_resumed_of_silent t at index found k)
