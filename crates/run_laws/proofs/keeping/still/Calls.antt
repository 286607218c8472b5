-- Calls keep memories, core instances and ends as they are kept.
use Rattle.std.proofs.Common.{refl}
use Rattle.std.specs.Prelude.{ℕ, ◌+◌, ◌*◌, Bool, true, if◌then◌else◌, List, [], ◌∷◌}
use Rattle.entry_gate.specs.declared.kind.Kind.{Kind}
use Rattle.tasks.specs.declared.event.BlockedAt.{BlockedAt}
use Rattle.tasks.specs.declared.event.BlockedAt.TheVariants as blocked_at
use Rattle.tasks.specs.declared.event.TaskEvent.TheVariants as event
use Rattle.task_table.specs.declared.caller.Caller.TheVariants.{Guest}
use Rattle.task_table.specs.declared.errand.Callee.{Callee}
use Rattle.task_table.specs.declared.errand.Errand.{Errand}
use Rattle.task_table.specs.declared.errand.Errand.TheVariants as errand
use Rattle.task_table.specs.Callers.{new_called}
use Rattle.task_table.specs.Slots.{new_slot}
use Rattle.instances.specs.declared.entry.WorldEntry.TheVariants as entry
use Rattle.world_parts.specs.Views.{Views}
use Rattle.trace_labels.specs.declared.label.BlockReason.{BlockReason}
use Rattle.trace_labels.specs.declared.label.BlockReason.TheVariants as reason
use Rattle.trace_labels.specs.declared.label.Label.TheVariants as line
use Rattle.trace_labels.specs.declared.trap.TrapName.TheVariants as trap
use Rattle.world_parts.specs.declared.parts.Rest.TheVariants as rest
use Rattle.world_parts.specs.declared.parts.Flow.TheVariants as flow
use Rattle.world_parts.specs.Held.{Held, Gives, Traps, after}
use Rattle.world_parts.specs.Feed.{told, at_rest, chained, acting, left_chain, got}
use Rattle.world_parts.specs.Entries.{entry_added, lend_ended}
use Rattle.world_parts.specs.Slots.{instance_of, errand_of, happens, errand_set, lends_found, result_found, resolved, awaited, state_told, next_task, task_made, reenters}
use Rattle.world_parts.specs.Calls.{all_unlent, back, back_by, back_from_call, back_from_cancel, blocked, blocked_in, blocked_word, call_begun, call_open, call_resolved, cancel_open, cancel_resolved, given_back, given_back_if, subtask_told, unlent}
use Rattle.run_laws.proofs.keeping.still.Still.{Kinds, StillBy, still_after, still_if, still_same, still_all}
use Rattle.run_laws.proofs.keeping.still.Entries.{entry_added_still, lend_ended_still}
use Rattle.run_laws.proofs.keeping.still.Feed.{acting_still, chained_still, got_still, left_chain_still, told_still}
use Rattle.run_laws.proofs.keeping.still.Slots.{awaited_still, errand_of_still, errand_set_still, happens_still, instance_of_still, lends_found_still, next_task_still, resolved_still, result_found_still, state_told_still, task_made_still}

pub blocked_still : (W : Kinds) → (t : ℕ) (why : BlockedAt) (flag : Bool) (reason : BlockReason) (h : Held) → StillBy W h (blocked t why flag reason h)
unfolding blocked
blocked_still W t why flag reason h =
    still_after W h (happens t (event.Block why flag) h) (λ done k. after (told (line.Block t reason) k) (λ done l. left_chain l)) (happens_still W t (event.Block why flag) h) (λ done k. still_after W k (told (line.Block t reason) k) (λ done l. left_chain l) (told_still W (line.Block t reason) k) (λ done l. left_chain_still W l))

pub blocked_in_still : (W : Kinds) → (t : ℕ) (canon : ℕ) (flag : Bool) (why : BlockedAt) (reason : BlockReason) (h : Held) → StillBy W h (blocked_in t canon flag why reason h)
unfolding blocked_in
blocked_in_still W t canon flag why reason h =
    still_after W h (errand_set t (errand.InBuiltin canon) h) (λ done k. blocked t why flag reason k) (errand_set_still W t (errand.InBuiltin canon) h) (λ done k. blocked_still W t why flag reason k)

pub call_begun_still : (W : Kinds) → (t : ℕ) (canon : ℕ) (callee : Callee) (instance : ℕ) (kind : Kind) (words : List ℕ) (h : Held) → StillBy W h (call_begun t canon callee instance kind words h)
unfolding call_begun
call_begun_still W t canon callee instance kind words h =
    still_if W h (reenters instance t h) (Traps trap.Reentrant h) (after (next_task h) (λ made k. after (errand_set t (errand.AfterCall made canon) k) (λ done l. after (task_made (new_slot instance kind callee (Guest (new_called t canon words made))) l) (λ number m. after (told (line.Call t made (instance + 1)) m) (λ done n. after (chained made n) (λ done o. Gives flow.Rests (at_rest rest.Arrives o))))))) (λ K asked kept. kept) (still_after W h (next_task h) (λ made k. after (errand_set t (errand.AfterCall made canon) k) (λ done l. after (task_made (new_slot instance kind callee (Guest (new_called t canon words made))) l) (λ number m. after (told (line.Call t made (instance + 1)) m) (λ done n. after (chained made n) (λ done o. Gives flow.Rests (at_rest rest.Arrives o)))))) (next_task_still W h) (λ made k. still_after W k (errand_set t (errand.AfterCall made canon) k) (λ done l. after (task_made (new_slot instance kind callee (Guest (new_called t canon words made))) l) (λ number m. after (told (line.Call t made (instance + 1)) m) (λ done n. after (chained made n) (λ done o. Gives flow.Rests (at_rest rest.Arrives o))))) (errand_set_still W t (errand.AfterCall made canon) k) (λ done l. still_after W l (task_made (new_slot instance kind callee (Guest (new_called t canon words made))) l) (λ number m. after (told (line.Call t made (instance + 1)) m) (λ done n. after (chained made n) (λ done o. Gives flow.Rests (at_rest rest.Arrives o)))) (task_made_still W (new_slot instance kind callee (Guest (new_called t canon words made))) l) (λ number m. still_after W m (told (line.Call t made (instance + 1)) m) (λ done n. after (chained made n) (λ done o. Gives flow.Rests (at_rest rest.Arrives o))) (told_still W (line.Call t made (instance + 1)) m) (λ done n. still_after W n (chained made n) (λ done o. Gives flow.Rests (at_rest rest.Arrives o)) (chained_still W made n) (λ done o. still_all W o (at_rest rest.Arrives o) refl refl refl refl refl))))))

pub unlent_still : (W : Kinds) → (at : ℕ) (callee : ℕ) (handle : ℕ) (h : Held) → StillBy W h (unlent at callee handle h)
unlent_still W at callee handle h =
    still_after W h (lend_ended at handle h) (λ done k. told (line.Unlend (at + 1) handle callee) k) (lend_ended_still W at handle h) (λ done k. told_still W (line.Unlend (at + 1) handle callee) k)

pub all_unlent_still : (W : Kinds) → (at : ℕ) (callee : ℕ) (x : List ℕ) (h : Held) → StillBy W h (all_unlent at callee x h)
all_unlent_still W at callee [] h =
    still_same W h
all_unlent_still W at callee (handle ∷ handles) h =
    still_after W h (unlent at callee handle h) (λ done k. all_unlent at callee handles k) (unlent_still W at callee handle h) (λ done k. all_unlent_still W at callee handles k)

pub given_back_still : (W : Kinds) → (at : ℕ) (callee : ℕ) (h : Held) → StillBy W h (given_back at callee h)
unfolding given_back
given_back_still W at callee h =
    still_after W h (lends_found callee h) (λ handles k. all_unlent at callee handles k) (lends_found_still W callee h) (λ handles k. all_unlent_still W at callee handles k)

pub given_back_if_still : (W : Kinds) → (is_over : Bool) (at : ℕ) (callee : ℕ) (h : Held) → StillBy W h (given_back_if is_over at callee h)
given_back_if_still W is_over at callee h =
    still_if W h (is_over) (given_back at callee h) (Gives (tt {0}) h) (given_back_still W at callee h) (still_same W h)

pub subtask_told_still : (W : Kinds) → (at : ℕ) (callee : ℕ) (h : Held) → StillBy W h (subtask_told at callee h)
unfolding subtask_told
subtask_told_still W at callee h =
    still_after W h (resolved callee h) (λ is_over k. after (given_back_if is_over at callee k) (λ done l. state_told callee l)) (resolved_still W callee h) (λ is_over k. still_after W k (given_back_if is_over at callee k) (λ done l. state_told callee l) (given_back_if_still W is_over at callee k) (λ done l. state_told_still W callee l))

pub call_resolved_still : (W : Kinds) → (g : Views) (t : ℕ) (at : ℕ) (callee : ℕ) (canon : ℕ) (h : Held) → StillBy W h (call_resolved g t at callee canon h)
unfolding call_resolved
call_resolved_still W g t at callee canon h =
    still_after W h (result_found callee h) (λ words k. after (subtask_told at callee k) (λ payload l. if g.is_async canon then got t (2 ∷ []) l else got t words l)) (result_found_still W callee h) (λ words k. still_after W k (subtask_told at callee k) (λ payload l. if g.is_async canon then got t (2 ∷ []) l else got t words l) (subtask_told_still W at callee k) (λ payload l. still_if W l (g.is_async canon) (got t (2 ∷ []) l) (got t words l) (got_still W t (2 ∷ []) l) (got_still W t words l)))

pub call_open_still : (W : Kinds) → (g : Views) (t : ℕ) (at : ℕ) (callee : ℕ) (canon : ℕ) (h : Held) → StillBy W h (call_open g t at callee canon h)
unfolding call_open
call_open_still W g t at callee canon h =
    still_if W h (g.is_async canon) (after (entry_added at (entry.Subtask callee) h) (λ index k. after (state_told callee k) (λ state l. got t ((state + 16 * index) ∷ []) l))) (blocked_in t canon (g.flag canon) (blocked_at.Call callee) (reason.Call callee) h) (still_after W h (entry_added at (entry.Subtask callee) h) (λ index k. after (state_told callee k) (λ state l. got t ((state + 16 * index) ∷ []) l)) (entry_added_still W at (entry.Subtask callee) h refl) (λ index k. still_after W k (state_told callee k) (λ state l. got t ((state + 16 * index) ∷ []) l) (state_told_still W callee k) (λ state l. got_still W t ((state + 16 * index) ∷ []) l))) (blocked_in_still W t canon (g.flag canon) (blocked_at.Call callee) (reason.Call callee) h)

pub back_from_call_still : (W : Kinds) → (g : Views) (t : ℕ) (at : ℕ) (callee : ℕ) (canon : ℕ) (h : Held) → StillBy W h (back_from_call g t at callee canon h)
unfolding back_from_call
back_from_call_still W g t at callee canon h =
    still_after W h (errand_set t errand.None h) (λ done k. after (resolved callee k) (λ is_over l. if is_over then call_resolved g t at callee canon l else call_open g t at callee canon l)) (errand_set_still W t errand.None h) (λ done k. still_after W k (resolved callee k) (λ is_over l. if is_over then call_resolved g t at callee canon l else call_open g t at callee canon l) (resolved_still W callee k) (λ is_over l. still_if W l (is_over) (call_resolved g t at callee canon l) (call_open g t at callee canon l) (call_resolved_still W g t at callee canon l) (call_open_still W g t at callee canon l)))

pub cancel_resolved_still : (W : Kinds) → (t : ℕ) (at : ℕ) (callee : ℕ) (h : Held) → StillBy W h (cancel_resolved t at callee h)
unfolding cancel_resolved
cancel_resolved_still W t at callee h =
    still_after W h (subtask_told at callee h) (λ payload k. got t (payload ∷ []) k) (subtask_told_still W at callee h) (λ payload k. got_still W t (payload ∷ []) k)

pub cancel_open_still : (W : Kinds) → (g : Views) (t : ℕ) (callee : ℕ) (canon : ℕ) (index : ℕ) (h : Held) → StillBy W h (cancel_open g t callee canon index h)
unfolding cancel_open
cancel_open_still W g t callee canon index h =
    still_if W h (g.flag canon) (got t (blocked_word ∷ []) h) (after (awaited callee true h) (λ done k. blocked_in t canon (g.flag canon) (blocked_at.Cancel index) (reason.Cancel index) k)) (got_still W t (blocked_word ∷ []) h) (still_after W h (awaited callee true h) (λ done k. blocked_in t canon (g.flag canon) (blocked_at.Cancel index) (reason.Cancel index) k) (awaited_still W callee true h) (λ done k. blocked_in_still W t canon (g.flag canon) (blocked_at.Cancel index) (reason.Cancel index) k))

pub back_from_cancel_still : (W : Kinds) → (g : Views) (t : ℕ) (at : ℕ) (callee : ℕ) (canon : ℕ) (index : ℕ) (h : Held) → StillBy W h (back_from_cancel g t at callee canon index h)
unfolding back_from_cancel
back_from_cancel_still W g t at callee canon index h =
    still_after W h (errand_set t errand.None h) (λ done k. after (resolved callee k) (λ is_over l. if is_over then cancel_resolved t at callee l else cancel_open g t callee canon index l)) (errand_set_still W t errand.None h) (λ done k. still_after W k (resolved callee k) (λ is_over l. if is_over then cancel_resolved t at callee l else cancel_open g t callee canon index l) (resolved_still W callee k) (λ is_over l. still_if W l (is_over) (cancel_resolved t at callee l) (cancel_open g t callee canon index l) (cancel_resolved_still W t at callee l) (cancel_open_still W g t callee canon index l)))

pub back_by_still : (W : Kinds) → (g : Views) (t : ℕ) (at : ℕ) (e : Errand) (h : Held) → StillBy W h (back_by g t at e h)
back_by_still W g t at errand.None h =
    tt
back_by_still W g t at (errand.AfterCall callee canon) h =
    back_from_call_still W g t at callee canon h
back_by_still W g t at (errand.AfterCancel callee canon index) h =
    back_from_cancel_still W g t at callee canon index h
back_by_still W g t at (errand.Begins n) h =
    tt
back_by_still W g t at (errand.InBuiltin canon) h =
    tt

pub back_still : (W : Kinds) → (g : Views) (h : Held) → StillBy W h (back g h)
unfolding back
back_still W g h =
    still_after W h (acting h) (λ t k. after (instance_of t k) (λ at l. after (errand_of t l) (λ e m. back_by g t at e m))) (acting_still W h) (λ t k. still_after W k (instance_of t k) (λ at l. after (errand_of t l) (λ e m. back_by g t at e m)) (instance_of_still W t k) (λ at l. still_after W l (errand_of t l) (λ e m. back_by g t at e m) (errand_of_still W t l) (λ e m. back_by_still W g t at e m)))
