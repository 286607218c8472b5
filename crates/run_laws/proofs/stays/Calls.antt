-- Calls: the chain and the number of tasks stay, but where a part rests.
use Rattle.std.proofs.Common.{refl}
use Rattle.std.specs.Prelude.{ℕ, ◌+◌, ◌*◌, Bool, true, if◌then◌else◌, List, [], ◌∷◌, length}
use Rattle.entry_gate.specs.declared.kind.Kind.{Kind}
use Rattle.tasks.specs.declared.event.BlockedAt.{BlockedAt}
use Rattle.tasks.specs.declared.event.BlockedAt.TheVariants as blocked_at
use Rattle.tasks.specs.declared.event.TaskEvent.TheVariants as event
use Rattle.task_table.specs.declared.caller.Caller.TheVariants.{Guest}
use Rattle.task_table.specs.declared.errand.Callee.{Callee}
use Rattle.task_table.specs.declared.errand.Errand.{Errand}
use Rattle.task_table.specs.declared.errand.Errand.TheVariants as errand
use Rattle.task_table.specs.Callers.{new_called}
use Rattle.task_table.specs.Slots.{new_slot}
use Rattle.instances.specs.declared.entry.WorldEntry.TheVariants as entry
use Rattle.world_parts.specs.Views.{Views}
use Rattle.trace_labels.specs.declared.label.BlockReason.{BlockReason}
use Rattle.trace_labels.specs.declared.label.BlockReason.TheVariants as reason
use Rattle.trace_labels.specs.declared.label.Label.TheVariants as line
use Rattle.trace_labels.specs.declared.trap.TrapName.TheVariants as trap
use Rattle.world_parts.specs.declared.parts.Rest.TheVariants as rest
use Rattle.world_parts.specs.declared.parts.Flow.{Flow}
use Rattle.world_parts.specs.declared.parts.Flow.TheVariants as flow
use Rattle.world_parts.specs.Held.{Held, Done, Gives, Traps, after}
use Rattle.world_parts.specs.Feed.{told, at_rest, chained, acting, left_chain, got}
use Rattle.world_parts.specs.Entries.{entry_added, lend_ended}
use Rattle.world_parts.specs.Slots.{instance_of, errand_of, happens, errand_set, lends_found, result_found, resolved, awaited, state_told, task_made, reenters}
use Rattle.world_parts.specs.Calls.{all_unlent, back, back_by, back_from_call, back_from_cancel, blocked, blocked_in, blocked_word, call_begun, call_open, call_resolved, cancel_open, cancel_resolved, given_back, given_back_if, subtask_told, unlent}
use Rattle.run_laws.proofs.stays.Entries.{entry_added_stays, lend_ended_stays}
use Rattle.run_laws.proofs.stays.Feed.{acting_stays, got_stays, left_chain_stays, told_stays}
use Rattle.run_laws.proofs.stays.Slots.{awaited_stays, errand_of_stays, errand_set_stays, happens_stays, instance_of_stays, lends_found_stays, resolved_stays, result_found_stays, state_told_stays}
use Rattle.run_laws.proofs.stays.Same.{StaysBy, FlowsBy, stays_after, stays_if, stays_same, flows_after, flows_if, rests_after, rests_flow}

pub blocked_stays : (t : ℕ) (why : BlockedAt) (flag : Bool) (reason : BlockReason) (h : Held) → FlowsBy h (blocked t why flag reason h)
unfolding blocked
blocked_stays t why flag reason h =
    flows_after h (happens t (event.Block why flag) h) (λ done k. after (told (line.Block t reason) k) (λ done l. left_chain l)) (happens_stays t (event.Block why flag) h) (λ done k. flows_after k (told (line.Block t reason) k) (λ done l. left_chain l) (told_stays (line.Block t reason) k) (λ done l. left_chain_stays l))

pub blocked_in_stays : (t : ℕ) (canon : ℕ) (flag : Bool) (why : BlockedAt) (reason : BlockReason) (h : Held) → FlowsBy h (blocked_in t canon flag why reason h)
unfolding blocked_in
blocked_in_stays t canon flag why reason h =
    flows_after h (errand_set t (errand.InBuiltin canon) h) (λ done k. blocked t why flag reason k) (errand_set_stays t (errand.InBuiltin canon) h) (λ done k. blocked_stays t why flag reason k)

pub call_begun_stays : (t : ℕ) (canon : ℕ) (callee : Callee) (instance : ℕ) (kind : Kind) (words : List ℕ) (h : Held) → FlowsBy h (call_begun t canon callee instance kind words h)
unfolding call_begun
call_begun_stays t canon callee instance kind words h =
    let made : ℕ = length h.tasks in
    let begins : Unit {0} → Held → Done Flow = λ done l.
    after (task_made (new_slot instance kind callee (Guest (new_called t canon words made))) l) (λ number m.
    after (told (line.Call t made (instance + 1)) m) (λ done n. after (chained made n) (λ done o. Gives flow.Rests (at_rest rest.Arrives o)))) in
    flows_if h (reenters instance t h) (Traps trap.Reentrant h) (after (errand_set t (errand.AfterCall made canon) h) begins) tt
    (rests_flow h (after (errand_set t (errand.AfterCall made canon) h) begins)
    (rests_after h (errand_set t (errand.AfterCall made canon) h) begins (errand_set_stays t (errand.AfterCall made canon) h) (λ done l. refl)))

pub unlent_stays : (at : ℕ) (callee : ℕ) (handle : ℕ) (h : Held) → StaysBy h (unlent at callee handle h)
unlent_stays at callee handle h =
    stays_after h (lend_ended at handle h) (λ done k. told (line.Unlend (at + 1) handle callee) k) (lend_ended_stays at handle h) (λ done k. told_stays (line.Unlend (at + 1) handle callee) k)

pub all_unlent_stays : (at : ℕ) (callee : ℕ) (x : List ℕ) (h : Held) → StaysBy h (all_unlent at callee x h)
all_unlent_stays at callee [] h =
    stays_same h
all_unlent_stays at callee (handle ∷ handles) h =
    stays_after h (unlent at callee handle h) (λ done k. all_unlent at callee handles k) (unlent_stays at callee handle h) (λ done k. all_unlent_stays at callee handles k)

pub given_back_stays : (at : ℕ) (callee : ℕ) (h : Held) → StaysBy h (given_back at callee h)
unfolding given_back
given_back_stays at callee h =
    stays_after h (lends_found callee h) (λ handles k. all_unlent at callee handles k) (lends_found_stays callee h) (λ handles k. all_unlent_stays at callee handles k)

pub given_back_if_stays : (is_over : Bool) (at : ℕ) (callee : ℕ) (h : Held) → StaysBy h (given_back_if is_over at callee h)
given_back_if_stays is_over at callee h =
    stays_if h (is_over) (given_back at callee h) (Gives (tt {0}) h) (given_back_stays at callee h) (stays_same h)

pub subtask_told_stays : (at : ℕ) (callee : ℕ) (h : Held) → StaysBy h (subtask_told at callee h)
unfolding subtask_told
subtask_told_stays at callee h =
    stays_after h (resolved callee h) (λ is_over k. after (given_back_if is_over at callee k) (λ done l. state_told callee l)) (resolved_stays callee h) (λ is_over k. stays_after k (given_back_if is_over at callee k) (λ done l. state_told callee l) (given_back_if_stays is_over at callee k) (λ done l. state_told_stays callee l))

pub call_resolved_stays : (g : Views) (t : ℕ) (at : ℕ) (callee : ℕ) (canon : ℕ) (h : Held) → FlowsBy h (call_resolved g t at callee canon h)
unfolding call_resolved
call_resolved_stays g t at callee canon h =
    flows_after h (result_found callee h) (λ words k. after (subtask_told at callee k) (λ payload l. if g.is_async canon then got t (2 ∷ []) l else got t words l)) (result_found_stays callee h) (λ words k. flows_after k (subtask_told at callee k) (λ payload l. if g.is_async canon then got t (2 ∷ []) l else got t words l) (subtask_told_stays at callee k) (λ payload l. flows_if l (g.is_async canon) (got t (2 ∷ []) l) (got t words l) (got_stays t (2 ∷ []) l) (got_stays t words l)))

pub call_open_stays : (g : Views) (t : ℕ) (at : ℕ) (callee : ℕ) (canon : ℕ) (h : Held) → FlowsBy h (call_open g t at callee canon h)
unfolding call_open
call_open_stays g t at callee canon h =
    flows_if h (g.is_async canon) (after (entry_added at (entry.Subtask callee) h) (λ index k. after (state_told callee k) (λ state l. got t ((state + 16 * index) ∷ []) l))) (blocked_in t canon (g.flag canon) (blocked_at.Call callee) (reason.Call callee) h) (flows_after h (entry_added at (entry.Subtask callee) h) (λ index k. after (state_told callee k) (λ state l. got t ((state + 16 * index) ∷ []) l)) (entry_added_stays at (entry.Subtask callee) h) (λ index k. flows_after k (state_told callee k) (λ state l. got t ((state + 16 * index) ∷ []) l) (state_told_stays callee k) (λ state l. got_stays t ((state + 16 * index) ∷ []) l))) (blocked_in_stays t canon (g.flag canon) (blocked_at.Call callee) (reason.Call callee) h)

pub back_from_call_stays : (g : Views) (t : ℕ) (at : ℕ) (callee : ℕ) (canon : ℕ) (h : Held) → FlowsBy h (back_from_call g t at callee canon h)
unfolding back_from_call
back_from_call_stays g t at callee canon h =
    flows_after h (errand_set t errand.None h) (λ done k. after (resolved callee k) (λ is_over l. if is_over then call_resolved g t at callee canon l else call_open g t at callee canon l)) (errand_set_stays t errand.None h) (λ done k. flows_after k (resolved callee k) (λ is_over l. if is_over then call_resolved g t at callee canon l else call_open g t at callee canon l) (resolved_stays callee k) (λ is_over l. flows_if l (is_over) (call_resolved g t at callee canon l) (call_open g t at callee canon l) (call_resolved_stays g t at callee canon l) (call_open_stays g t at callee canon l)))

pub cancel_resolved_stays : (t : ℕ) (at : ℕ) (callee : ℕ) (h : Held) → FlowsBy h (cancel_resolved t at callee h)
unfolding cancel_resolved
cancel_resolved_stays t at callee h =
    flows_after h (subtask_told at callee h) (λ payload k. got t (payload ∷ []) k) (subtask_told_stays at callee h) (λ payload k. got_stays t (payload ∷ []) k)

pub cancel_open_stays : (g : Views) (t : ℕ) (callee : ℕ) (canon : ℕ) (index : ℕ) (h : Held) → FlowsBy h (cancel_open g t callee canon index h)
unfolding cancel_open
cancel_open_stays g t callee canon index h =
    flows_if h (g.flag canon) (got t (blocked_word ∷ []) h) (after (awaited callee true h) (λ done k. blocked_in t canon (g.flag canon) (blocked_at.Cancel index) (reason.Cancel index) k)) (got_stays t (blocked_word ∷ []) h) (flows_after h (awaited callee true h) (λ done k. blocked_in t canon (g.flag canon) (blocked_at.Cancel index) (reason.Cancel index) k) (awaited_stays callee true h) (λ done k. blocked_in_stays t canon (g.flag canon) (blocked_at.Cancel index) (reason.Cancel index) k))

pub back_from_cancel_stays : (g : Views) (t : ℕ) (at : ℕ) (callee : ℕ) (canon : ℕ) (index : ℕ) (h : Held) → FlowsBy h (back_from_cancel g t at callee canon index h)
unfolding back_from_cancel
back_from_cancel_stays g t at callee canon index h =
    flows_after h (errand_set t errand.None h) (λ done k. after (resolved callee k) (λ is_over l. if is_over then cancel_resolved t at callee l else cancel_open g t callee canon index l)) (errand_set_stays t errand.None h) (λ done k. flows_after k (resolved callee k) (λ is_over l. if is_over then cancel_resolved t at callee l else cancel_open g t callee canon index l) (resolved_stays callee k) (λ is_over l. flows_if l (is_over) (cancel_resolved t at callee l) (cancel_open g t callee canon index l) (cancel_resolved_stays t at callee l) (cancel_open_stays g t callee canon index l)))

pub back_by_stays : (g : Views) (t : ℕ) (at : ℕ) (e : Errand) (h : Held) → FlowsBy h (back_by g t at e h)
back_by_stays g t at errand.None h =
    tt
back_by_stays g t at (errand.AfterCall callee canon) h =
    back_from_call_stays g t at callee canon h
back_by_stays g t at (errand.AfterCancel callee canon index) h =
    back_from_cancel_stays g t at callee canon index h
back_by_stays g t at (errand.Begins n) h =
    tt
back_by_stays g t at (errand.InBuiltin canon) h =
    tt

pub back_stays : (g : Views) (h : Held) → FlowsBy h (back g h)
unfolding back
back_stays g h =
    flows_after h (acting h) (λ t k. after (instance_of t k) (λ at l. after (errand_of t l) (λ e m. back_by g t at e m))) (acting_stays h) (λ t k. flows_after k (instance_of t k) (λ at l. after (errand_of t l) (λ e m. back_by g t at e m)) (instance_of_stays t k) (λ at l. flows_after l (errand_of t l) (λ e m. back_by g t at e m) (errand_of_stays t l) (λ e m. back_by_stays g t at e m)))
