-- Calls leave the store alone, and no handle is lent more often.
use Rattle.std.proofs.Common.{◌≡◌, refl, Some}
use Rattle.std.specs.Prelude.{ℕ, ◌+◌, ◌*◌, Bool, true, false, if◌then◌else◌, List, [], ◌∷◌, length}
use Rattle.entry_gate.specs.declared.kind.Kind.{Kind}
use Rattle.tasks.specs.declared.event.BlockedAt.{BlockedAt}
use Rattle.tasks.specs.declared.event.BlockedAt.TheVariants as blocked_at
use Rattle.tasks.specs.declared.event.TaskEvent.TheVariants as event
use Rattle.task_table.specs.declared.caller.Caller.TheVariants.{Guest}
use Rattle.task_table.specs.declared.errand.Callee.{Callee}
use Rattle.task_table.specs.declared.errand.Errand.{Errand}
use Rattle.task_table.specs.declared.errand.Errand.TheVariants as errand
use Rattle.task_table.specs.Callers.{new_called}
use Rattle.task_table.specs.Slots.{new_slot}
use Rattle.instances.specs.declared.entry.WorldEntry.TheVariants as entry
use Rattle.world_parts.specs.Views.{Views}
use Rattle.trace_labels.specs.declared.label.BlockReason.{BlockReason}
use Rattle.trace_labels.specs.declared.label.BlockReason.TheVariants as reason
use Rattle.trace_labels.specs.declared.label.Label.TheVariants as line
use Rattle.trace_labels.specs.declared.trap.TrapName.TheVariants as trap
use Rattle.world_parts.specs.declared.parts.Rest.TheVariants as rest
use Rattle.world_parts.specs.declared.parts.Flow.{Flow}
use Rattle.world_parts.specs.declared.parts.Flow.TheVariants as flow
use Rattle.world_parts.specs.Held.{Held, Done, Gives, Traps, Stuck, after, given}
use Rattle.world_parts.specs.Feed.{told, at_rest, chained, acting, left_chain, got}
use Rattle.world_parts.specs.Entries.{entry_added, lend_ended}
use Rattle.world_parts.specs.Slots.{instance_of, errand_of, happens, errand_set, payload_found, lends_found, result_found, resolved, awaited, state_told, next_task, task_made, reenters}
use Rattle.world_parts.specs.Calls.{all_unlent, back, back_by, back_from_call, back_from_cancel, blocked, blocked_in, blocked_word, call_begun, call_open, call_resolved, cancel_open, cancel_resolved, given_back, given_back_if, subtask_told, unlent}
use Rattle.value_parts.proofs.fit.Keeps.{Keeps, KeepsBy, keeps_after, keeps_given, keeps_if, keeps_same, keeps_all, keeps_from, keeps_instance}
use Rattle.value_parts.proofs.fit.Entries.{entry_added_keeps, lend_ended_keeps}
use Rattle.value_parts.proofs.fit.Feed.{acting_keeps, chained_keeps, got_keeps, left_chain_keeps, told_keeps}
use Rattle.value_parts.proofs.fit.Slots.{awaited_keeps, errand_of_keeps, errand_set_keeps, happens_keeps, instance_of_keeps, lends_found_keeps, next_task_keeps, resolved_keeps, result_found_keeps, state_told_keeps, task_made_keeps}

pub blocked_keeps : (t : ℕ) (why : BlockedAt) (flag : Bool) (reason : BlockReason) (h : Held) → KeepsBy h (blocked t why flag reason h)
unfolding blocked
blocked_keeps t why flag reason h =
    keeps_after h (happens t (event.Block why flag) h) (λ done k. after (told (line.Block t reason) k) (λ done l. left_chain l)) (happens_keeps t (event.Block why flag) h) (λ done k. keeps_after k (told (line.Block t reason) k) (λ done l. left_chain l) (told_keeps (line.Block t reason) k) (λ done l. left_chain_keeps l))

pub blocked_in_keeps : (t : ℕ) (canon : ℕ) (flag : Bool) (why : BlockedAt) (reason : BlockReason) (h : Held) → KeepsBy h (blocked_in t canon flag why reason h)
unfolding blocked_in
blocked_in_keeps t canon flag why reason h =
    keeps_after h (errand_set t (errand.InBuiltin canon) h) (λ done k. blocked t why flag reason k) (errand_set_keeps t (errand.InBuiltin canon) h) (λ done k. blocked_keeps t why flag reason k)

pub call_begun_keeps : (t : ℕ) (canon : ℕ) (callee : Callee) (instance : ℕ) (kind : Kind) (words : List ℕ) (h : Held) → KeepsBy h (call_begun t canon callee instance kind words h)
unfolding call_begun
call_begun_keeps t canon callee instance kind words h =
    keeps_if h (reenters instance t h) (Traps trap.Reentrant h) (after (next_task h) (λ made k. after (errand_set t (errand.AfterCall made canon) k) (λ done l. after (task_made (new_slot instance kind callee (Guest (new_called t canon words made))) l) (λ number m. after (told (line.Call t made (instance + 1)) m) (λ done n. after (chained made n) (λ done o. Gives flow.Rests (at_rest rest.Arrives o))))))) tt (keeps_after h (next_task h) (λ made k. after (errand_set t (errand.AfterCall made canon) k) (λ done l. after (task_made (new_slot instance kind callee (Guest (new_called t canon words made))) l) (λ number m. after (told (line.Call t made (instance + 1)) m) (λ done n. after (chained made n) (λ done o. Gives flow.Rests (at_rest rest.Arrives o)))))) (next_task_keeps h) (λ made k. keeps_after k (errand_set t (errand.AfterCall made canon) k) (λ done l. after (task_made (new_slot instance kind callee (Guest (new_called t canon words made))) l) (λ number m. after (told (line.Call t made (instance + 1)) m) (λ done n. after (chained made n) (λ done o. Gives flow.Rests (at_rest rest.Arrives o))))) (errand_set_keeps t (errand.AfterCall made canon) k) (λ done l. keeps_after l (task_made (new_slot instance kind callee (Guest (new_called t canon words made))) l) (λ number m. after (told (line.Call t made (instance + 1)) m) (λ done n. after (chained made n) (λ done o. Gives flow.Rests (at_rest rest.Arrives o)))) (task_made_keeps (new_slot instance kind callee (Guest (new_called t canon words made))) l) (λ number m. keeps_after m (told (line.Call t made (instance + 1)) m) (λ done n. after (chained made n) (λ done o. Gives flow.Rests (at_rest rest.Arrives o))) (told_keeps (line.Call t made (instance + 1)) m) (λ done n. keeps_after n (chained made n) (λ done o. Gives flow.Rests (at_rest rest.Arrives o)) (chained_keeps made n) (λ done o. keeps_all o (at_rest rest.Arrives o) refl refl))))))

pub unlent_keeps : (at : ℕ) (callee : ℕ) (handle : ℕ) (h : Held) → KeepsBy h (unlent at callee handle h)
unlent_keeps at callee handle h =
    keeps_after h (lend_ended at handle h) (λ done k. told (line.Unlend (at + 1) handle callee) k) (lend_ended_keeps at handle h) (λ done k. told_keeps (line.Unlend (at + 1) handle callee) k)

pub all_unlent_keeps : (at : ℕ) (callee : ℕ) (x : List ℕ) (h : Held) → KeepsBy h (all_unlent at callee x h)
all_unlent_keeps at callee [] h =
    keeps_same h
all_unlent_keeps at callee (handle ∷ handles) h =
    keeps_after h (unlent at callee handle h) (λ done k. all_unlent at callee handles k) (unlent_keeps at callee handle h) (λ done k. all_unlent_keeps at callee handles k)

pub given_back_keeps : (at : ℕ) (callee : ℕ) (h : Held) → KeepsBy h (given_back at callee h)
unfolding given_back
given_back_keeps at callee h =
    keeps_after h (lends_found callee h) (λ handles k. all_unlent at callee handles k) (lends_found_keeps callee h) (λ handles k. all_unlent_keeps at callee handles k)

pub given_back_if_keeps : (is_over : Bool) (at : ℕ) (callee : ℕ) (h : Held) → KeepsBy h (given_back_if is_over at callee h)
given_back_if_keeps is_over at callee h =
    keeps_if h (is_over) (given_back at callee h) (Gives (tt {0}) h) (given_back_keeps at callee h) (keeps_same h)

pub subtask_told_keeps : (at : ℕ) (callee : ℕ) (h : Held) → KeepsBy h (subtask_told at callee h)
unfolding subtask_told
subtask_told_keeps at callee h =
    keeps_after h (resolved callee h) (λ is_over k. after (given_back_if is_over at callee k) (λ done l. state_told callee l)) (resolved_keeps callee h) (λ is_over k. keeps_after k (given_back_if is_over at callee k) (λ done l. state_told callee l) (given_back_if_keeps is_over at callee k) (λ done l. state_told_keeps callee l))

pub call_resolved_keeps : (g : Views) (t : ℕ) (at : ℕ) (callee : ℕ) (canon : ℕ) (h : Held) → KeepsBy h (call_resolved g t at callee canon h)
unfolding call_resolved
call_resolved_keeps g t at callee canon h =
    keeps_after h (result_found callee h) (λ words k. after (subtask_told at callee k) (λ payload l. if g.is_async canon then got t (2 ∷ []) l else got t words l)) (result_found_keeps callee h) (λ words k. keeps_after k (subtask_told at callee k) (λ payload l. if g.is_async canon then got t (2 ∷ []) l else got t words l) (subtask_told_keeps at callee k) (λ payload l. keeps_if l (g.is_async canon) (got t (2 ∷ []) l) (got t words l) (got_keeps t (2 ∷ []) l) (got_keeps t words l)))

pub call_open_keeps : (g : Views) (t : ℕ) (at : ℕ) (callee : ℕ) (canon : ℕ) (h : Held) → KeepsBy h (call_open g t at callee canon h)
unfolding call_open
call_open_keeps g t at callee canon h =
    keeps_if h (g.is_async canon) (after (entry_added at (entry.Subtask callee) h) (λ index k. after (state_told callee k) (λ state l. got t ((state + 16 * index) ∷ []) l))) (blocked_in t canon (g.flag canon) (blocked_at.Call callee) (reason.Call callee) h) (keeps_after h (entry_added at (entry.Subtask callee) h) (λ index k. after (state_told callee k) (λ state l. got t ((state + 16 * index) ∷ []) l)) (entry_added_keeps at (entry.Subtask callee) h refl) (λ index k. keeps_after k (state_told callee k) (λ state l. got t ((state + 16 * index) ∷ []) l) (state_told_keeps callee k) (λ state l. got_keeps t ((state + 16 * index) ∷ []) l))) (blocked_in_keeps t canon (g.flag canon) (blocked_at.Call callee) (reason.Call callee) h)

pub back_from_call_keeps : (g : Views) (t : ℕ) (at : ℕ) (callee : ℕ) (canon : ℕ) (h : Held) → KeepsBy h (back_from_call g t at callee canon h)
unfolding back_from_call
back_from_call_keeps g t at callee canon h =
    keeps_after h (errand_set t errand.None h) (λ done k. after (resolved callee k) (λ is_over l. if is_over then call_resolved g t at callee canon l else call_open g t at callee canon l)) (errand_set_keeps t errand.None h) (λ done k. keeps_after k (resolved callee k) (λ is_over l. if is_over then call_resolved g t at callee canon l else call_open g t at callee canon l) (resolved_keeps callee k) (λ is_over l. keeps_if l (is_over) (call_resolved g t at callee canon l) (call_open g t at callee canon l) (call_resolved_keeps g t at callee canon l) (call_open_keeps g t at callee canon l)))

pub cancel_resolved_keeps : (t : ℕ) (at : ℕ) (callee : ℕ) (h : Held) → KeepsBy h (cancel_resolved t at callee h)
unfolding cancel_resolved
cancel_resolved_keeps t at callee h =
    keeps_after h (subtask_told at callee h) (λ payload k. got t (payload ∷ []) k) (subtask_told_keeps at callee h) (λ payload k. got_keeps t (payload ∷ []) k)

pub cancel_open_keeps : (g : Views) (t : ℕ) (callee : ℕ) (canon : ℕ) (index : ℕ) (h : Held) → KeepsBy h (cancel_open g t callee canon index h)
unfolding cancel_open
cancel_open_keeps g t callee canon index h =
    keeps_if h (g.flag canon) (got t (blocked_word ∷ []) h) (after (awaited callee true h) (λ done k. blocked_in t canon (g.flag canon) (blocked_at.Cancel index) (reason.Cancel index) k)) (got_keeps t (blocked_word ∷ []) h) (keeps_after h (awaited callee true h) (λ done k. blocked_in t canon (g.flag canon) (blocked_at.Cancel index) (reason.Cancel index) k) (awaited_keeps callee true h) (λ done k. blocked_in_keeps t canon (g.flag canon) (blocked_at.Cancel index) (reason.Cancel index) k))

pub back_from_cancel_keeps : (g : Views) (t : ℕ) (at : ℕ) (callee : ℕ) (canon : ℕ) (index : ℕ) (h : Held) → KeepsBy h (back_from_cancel g t at callee canon index h)
unfolding back_from_cancel
back_from_cancel_keeps g t at callee canon index h =
    keeps_after h (errand_set t errand.None h) (λ done k. after (resolved callee k) (λ is_over l. if is_over then cancel_resolved t at callee l else cancel_open g t callee canon index l)) (errand_set_keeps t errand.None h) (λ done k. keeps_after k (resolved callee k) (λ is_over l. if is_over then cancel_resolved t at callee l else cancel_open g t callee canon index l) (resolved_keeps callee k) (λ is_over l. keeps_if l (is_over) (cancel_resolved t at callee l) (cancel_open g t callee canon index l) (cancel_resolved_keeps t at callee l) (cancel_open_keeps g t callee canon index l)))

pub back_by_keeps : (g : Views) (t : ℕ) (at : ℕ) (e : Errand) (h : Held) → KeepsBy h (back_by g t at e h)
back_by_keeps g t at errand.None h =
    tt
back_by_keeps g t at (errand.AfterCall callee canon) h =
    back_from_call_keeps g t at callee canon h
back_by_keeps g t at (errand.AfterCancel callee canon index) h =
    back_from_cancel_keeps g t at callee canon index h
back_by_keeps g t at (errand.Begins n) h =
    tt
back_by_keeps g t at (errand.InBuiltin canon) h =
    tt

pub back_keeps : (g : Views) (h : Held) → KeepsBy h (back g h)
unfolding back
back_keeps g h =
    keeps_after h (acting h) (λ t k. after (instance_of t k) (λ at l. after (errand_of t l) (λ e m. back_by g t at e m))) (acting_keeps h) (λ t k. keeps_after k (instance_of t k) (λ at l. after (errand_of t l) (λ e m. back_by g t at e m)) (instance_of_keeps t k) (λ at l. keeps_after l (errand_of t l) (λ e m. back_by g t at e m) (errand_of_keeps t l) (λ e m. back_by_keeps g t at e m)))
