-- Calls: lists of tasks stay as they follow from the tasks.
use Rattle.std.proofs.Common.{◌≡◌, false, refl}
use Rattle.std.specs.Prelude.{ℕ, ◌+◌, ◌*◌, Bool, true, if◌then◌else◌, List, [], ◌∷◌, ◌++◌, length}
use Rattle.entry_gate.specs.declared.kind.Kind.{Kind}
use Rattle.tasks.specs.declared.event.BlockedAt.{BlockedAt}
use Rattle.tasks.specs.declared.event.BlockedAt.TheVariants as blocked_at
use Rattle.tasks.specs.declared.event.TaskEvent.TheVariants as event
use Rattle.tasks.specs.Tasks.{is_entry}
use Rattle.task_table.specs.declared.caller.Caller.TheVariants.{Guest}
use Rattle.task_table.specs.declared.errand.Callee.{Callee}
use Rattle.task_table.specs.declared.errand.Errand.{Errand}
use Rattle.task_table.specs.declared.errand.Errand.TheVariants as errand
use Rattle.task_table.specs.Callers.{new_called}
use Rattle.task_table.specs.declared.slot.TaskSlot.{TaskSlot}
use Rattle.task_table.specs.Slots.{new_slot}
use Rattle.instances.specs.declared.entry.WorldEntry.TheVariants as entry
use Rattle.world_parts.specs.Views.{Views}
use Rattle.trace_labels.specs.declared.label.BlockReason.{BlockReason}
use Rattle.trace_labels.specs.declared.label.BlockReason.TheVariants as reason
use Rattle.trace_labels.specs.declared.label.Label.TheVariants as line
use Rattle.trace_labels.specs.declared.trap.TrapName.TheVariants as trap
use Rattle.world_parts.specs.declared.parts.Rest.TheVariants as rest
use Rattle.world_parts.specs.declared.parts.Flow.TheVariants as flow
use Rattle.world_parts.specs.Held.{Held, Gives, Traps, after}
use Rattle.world_parts.specs.Feed.{told, at_rest, chained, acting, left_chain, got}
use Rattle.world_parts.specs.Entries.{entry_added, lend_ended}
use Rattle.world_parts.specs.Slots.{instance_of, errand_of, happens, errand_set, lends_found, result_found, resolved, awaited, state_told, task_made, reenters}
use Rattle.world_parts.specs.Calls.{all_unlent, back, back_by, back_from_call, back_from_cancel, blocked, blocked_in, blocked_word, call_begun, call_open, call_resolved, cancel_open, cancel_resolved, given_back, given_back_if, subtask_told, unlent}
use Rattle.run_laws.proofs.lists.Entries.{entry_added_lists, lend_ended_lists}
use Rattle.run_laws.proofs.lists.Feed.{acting_lists, got_lists, left_chain_lists, told_lists}
use Rattle.run_laws.proofs.lists.Made.{made_lists}
use Rattle.run_laws.proofs.lists.Slots.{awaited_lists, errand_of_lists, errand_set_lists, happens_lists, instance_of_lists, lends_found_lists, resolved_lists, result_found_lists, state_told_lists}
use Rattle.run_laws.proofs.lists.Same.{ListsBy, lists_after, lists_if, lists_same, lists_all}

pub blocked_lists : (t : ℕ) (why : BlockedAt) (flag : Bool) (reason : BlockReason) (h : Held) → is_entry why ≡ false → ListsBy h (blocked t why flag reason h)
unfolding blocked
blocked_lists t why flag reason h inside =
    lists_after h (happens t (event.Block why flag) h) (λ done k. after (told (line.Block t reason) k) (λ done l. left_chain l)) (happens_lists t (event.Block why flag) h inside) (λ done k. lists_after k (told (line.Block t reason) k) (λ done l. left_chain l) (told_lists (line.Block t reason) k) (λ done l. left_chain_lists l))

pub blocked_in_lists : (t : ℕ) (canon : ℕ) (flag : Bool) (why : BlockedAt) (reason : BlockReason) (h : Held) → is_entry why ≡ false → ListsBy h (blocked_in t canon flag why reason h)
unfolding blocked_in
blocked_in_lists t canon flag why reason h inside =
    lists_after h (errand_set t (errand.InBuiltin canon) h) (λ done k. blocked t why flag reason k) (errand_set_lists t (errand.InBuiltin canon) h) (λ done k. blocked_lists t why flag reason k inside)

pub call_begun_lists : (t : ℕ) (canon : ℕ) (callee : Callee) (instance : ℕ) (kind : Kind) (words : List ℕ) (h : Held) → ListsBy h (call_begun t canon callee instance kind words h)
unfolding call_begun
call_begun_lists t canon callee instance kind words h =
    let made : ℕ = length h.tasks in
    let slot : TaskSlot = new_slot instance kind callee (Guest (new_called t canon words made)) in
    lists_if h (reenters instance t h) (Traps trap.Reentrant h)
    (after (errand_set t (errand.AfterCall made canon) h)
    (λ done l. after (task_made slot l) (λ number m. after (told (line.Call t made (instance + 1)) m) (λ done n. after (chained made n) (λ done o. Gives flow.Rests (at_rest rest.Arrives o)))))) tt
    (lists_after h (errand_set t (errand.AfterCall made canon) h)
    (λ done l. after (task_made slot l) (λ number m. after (told (line.Call t made (instance + 1)) m) (λ done n. after (chained made n) (λ done o. Gives flow.Rests (at_rest rest.Arrives o)))))
    (errand_set_lists t (errand.AfterCall made canon) h)
    (λ done l.
    lists_after l (task_made slot l) (λ number m. after (told (line.Call t made (instance + 1)) m) (λ done n. after (chained made n) (λ done o. Gives flow.Rests (at_rest rest.Arrives o))))
    (made_lists slot l refl refl refl refl)
    (λ number m.
    lists_after m (told (line.Call t made (instance + 1)) m) (λ done n. after (chained made n) (λ done o. Gives flow.Rests (at_rest rest.Arrives o))) (told_lists (line.Call t made (instance + 1)) m)
    (λ done n. lists_all n (at_rest rest.Arrives (record n { chain = n.chain ++ made ∷ [] })) refl refl refl refl refl))))

pub unlent_lists : (at : ℕ) (callee : ℕ) (handle : ℕ) (h : Held) → ListsBy h (unlent at callee handle h)
unlent_lists at callee handle h =
    lists_after h (lend_ended at handle h) (λ done k. told (line.Unlend (at + 1) handle callee) k) (lend_ended_lists at handle h) (λ done k. told_lists (line.Unlend (at + 1) handle callee) k)

pub all_unlent_lists : (at : ℕ) (callee : ℕ) (x : List ℕ) (h : Held) → ListsBy h (all_unlent at callee x h)
all_unlent_lists at callee [] h =
    lists_same h
all_unlent_lists at callee (handle ∷ handles) h =
    lists_after h (unlent at callee handle h) (λ done k. all_unlent at callee handles k) (unlent_lists at callee handle h) (λ done k. all_unlent_lists at callee handles k)

pub given_back_lists : (at : ℕ) (callee : ℕ) (h : Held) → ListsBy h (given_back at callee h)
unfolding given_back
given_back_lists at callee h =
    lists_after h (lends_found callee h) (λ handles k. all_unlent at callee handles k) (lends_found_lists callee h) (λ handles k. all_unlent_lists at callee handles k)

pub given_back_if_lists : (is_over : Bool) (at : ℕ) (callee : ℕ) (h : Held) → ListsBy h (given_back_if is_over at callee h)
given_back_if_lists is_over at callee h =
    lists_if h (is_over) (given_back at callee h) (Gives (tt {0}) h) (given_back_lists at callee h) (lists_same h)

pub subtask_told_lists : (at : ℕ) (callee : ℕ) (h : Held) → ListsBy h (subtask_told at callee h)
unfolding subtask_told
subtask_told_lists at callee h =
    lists_after h (resolved callee h) (λ is_over k. after (given_back_if is_over at callee k) (λ done l. state_told callee l)) (resolved_lists callee h) (λ is_over k. lists_after k (given_back_if is_over at callee k) (λ done l. state_told callee l) (given_back_if_lists is_over at callee k) (λ done l. state_told_lists callee l))

pub call_resolved_lists : (g : Views) (t : ℕ) (at : ℕ) (callee : ℕ) (canon : ℕ) (h : Held) → ListsBy h (call_resolved g t at callee canon h)
unfolding call_resolved
call_resolved_lists g t at callee canon h =
    lists_after h (result_found callee h) (λ words k. after (subtask_told at callee k) (λ payload l. if g.is_async canon then got t (2 ∷ []) l else got t words l)) (result_found_lists callee h) (λ words k. lists_after k (subtask_told at callee k) (λ payload l. if g.is_async canon then got t (2 ∷ []) l else got t words l) (subtask_told_lists at callee k) (λ payload l. lists_if l (g.is_async canon) (got t (2 ∷ []) l) (got t words l) (got_lists t (2 ∷ []) l) (got_lists t words l)))

pub call_open_lists : (g : Views) (t : ℕ) (at : ℕ) (callee : ℕ) (canon : ℕ) (h : Held) → ListsBy h (call_open g t at callee canon h)
unfolding call_open
call_open_lists g t at callee canon h =
    lists_if h (g.is_async canon) (after (entry_added at (entry.Subtask callee) h) (λ index k. after (state_told callee k) (λ state l. got t ((state + 16 * index) ∷ []) l))) (blocked_in t canon (g.flag canon) (blocked_at.Call callee) (reason.Call callee) h) (lists_after h (entry_added at (entry.Subtask callee) h) (λ index k. after (state_told callee k) (λ state l. got t ((state + 16 * index) ∷ []) l)) (entry_added_lists at (entry.Subtask callee) h) (λ index k. lists_after k (state_told callee k) (λ state l. got t ((state + 16 * index) ∷ []) l) (state_told_lists callee k) (λ state l. got_lists t ((state + 16 * index) ∷ []) l))) (blocked_in_lists t canon (g.flag canon) (blocked_at.Call callee) (reason.Call callee) h refl)

pub back_from_call_lists : (g : Views) (t : ℕ) (at : ℕ) (callee : ℕ) (canon : ℕ) (h : Held) → ListsBy h (back_from_call g t at callee canon h)
unfolding back_from_call
back_from_call_lists g t at callee canon h =
    lists_after h (errand_set t errand.None h) (λ done k. after (resolved callee k) (λ is_over l. if is_over then call_resolved g t at callee canon l else call_open g t at callee canon l)) (errand_set_lists t errand.None h) (λ done k. lists_after k (resolved callee k) (λ is_over l. if is_over then call_resolved g t at callee canon l else call_open g t at callee canon l) (resolved_lists callee k) (λ is_over l. lists_if l (is_over) (call_resolved g t at callee canon l) (call_open g t at callee canon l) (call_resolved_lists g t at callee canon l) (call_open_lists g t at callee canon l)))

pub cancel_resolved_lists : (t : ℕ) (at : ℕ) (callee : ℕ) (h : Held) → ListsBy h (cancel_resolved t at callee h)
unfolding cancel_resolved
cancel_resolved_lists t at callee h =
    lists_after h (subtask_told at callee h) (λ payload k. got t (payload ∷ []) k) (subtask_told_lists at callee h) (λ payload k. got_lists t (payload ∷ []) k)

pub cancel_open_lists : (g : Views) (t : ℕ) (callee : ℕ) (canon : ℕ) (index : ℕ) (h : Held) → ListsBy h (cancel_open g t callee canon index h)
unfolding cancel_open
cancel_open_lists g t callee canon index h =
    lists_if h (g.flag canon) (got t (blocked_word ∷ []) h) (after (awaited callee true h) (λ done k. blocked_in t canon (g.flag canon) (blocked_at.Cancel index) (reason.Cancel index) k)) (got_lists t (blocked_word ∷ []) h) (lists_after h (awaited callee true h) (λ done k. blocked_in t canon (g.flag canon) (blocked_at.Cancel index) (reason.Cancel index) k) (awaited_lists callee true h) (λ done k. blocked_in_lists t canon (g.flag canon) (blocked_at.Cancel index) (reason.Cancel index) k refl))

pub back_from_cancel_lists : (g : Views) (t : ℕ) (at : ℕ) (callee : ℕ) (canon : ℕ) (index : ℕ) (h : Held) → ListsBy h (back_from_cancel g t at callee canon index h)
unfolding back_from_cancel
back_from_cancel_lists g t at callee canon index h =
    lists_after h (errand_set t errand.None h) (λ done k. after (resolved callee k) (λ is_over l. if is_over then cancel_resolved t at callee l else cancel_open g t callee canon index l)) (errand_set_lists t errand.None h) (λ done k. lists_after k (resolved callee k) (λ is_over l. if is_over then cancel_resolved t at callee l else cancel_open g t callee canon index l) (resolved_lists callee k) (λ is_over l. lists_if l (is_over) (cancel_resolved t at callee l) (cancel_open g t callee canon index l) (cancel_resolved_lists t at callee l) (cancel_open_lists g t callee canon index l)))

pub back_by_lists : (g : Views) (t : ℕ) (at : ℕ) (e : Errand) (h : Held) → ListsBy h (back_by g t at e h)
back_by_lists g t at errand.None h =
    tt
back_by_lists g t at (errand.AfterCall callee canon) h =
    back_from_call_lists g t at callee canon h
back_by_lists g t at (errand.AfterCancel callee canon index) h =
    back_from_cancel_lists g t at callee canon index h
back_by_lists g t at (errand.Begins n) h =
    tt
back_by_lists g t at (errand.InBuiltin canon) h =
    tt

pub back_lists : (g : Views) (h : Held) → ListsBy h (back g h)
unfolding back
back_lists g h =
    lists_after h (acting h) (λ t k. after (instance_of t k) (λ at l. after (errand_of t l) (λ e m. back_by g t at e m))) (acting_lists h) (λ t k. lists_after k (instance_of t k) (λ at l. after (errand_of t l) (λ e m. back_by g t at e m)) (instance_of_lists t k) (λ at l. lists_after l (errand_of t l) (λ e m. back_by g t at e m) (errand_of_lists t l) (λ e m. back_by_lists g t at e m)))
