-- Calls leave the marks of gates and of sets as they are.
use Rattle.std.proofs.Common.{◌≡◌, refl}
use Rattle.std.specs.Prelude.{ℕ, ◌+◌, ◌*◌, Bool, true, if◌then◌else◌, List, [], ◌∷◌}
use Rattle.entry_gate.specs.declared.kind.Kind.{Kind}
use Rattle.tasks.specs.declared.event.BlockedAt.{BlockedAt}
use Rattle.tasks.specs.declared.event.BlockedAt.TheVariants as blocked_at
use Rattle.tasks.specs.declared.event.TaskEvent.TheVariants as event
use Rattle.task_table.specs.declared.caller.Caller.TheVariants.{Guest}
use Rattle.task_table.specs.declared.errand.Callee.{Callee}
use Rattle.task_table.specs.declared.errand.Errand.{Errand}
use Rattle.task_table.specs.declared.errand.Errand.TheVariants as errand
use Rattle.task_table.specs.Callers.{new_called}
use Rattle.task_table.specs.Slots.{new_slot}
use Rattle.instances.specs.declared.entry.WorldEntry.TheVariants as entry
use Rattle.world_parts.specs.Views.{Views}
use Rattle.trace_labels.specs.declared.label.BlockReason.{BlockReason}
use Rattle.trace_labels.specs.declared.label.BlockReason.TheVariants as reason
use Rattle.trace_labels.specs.declared.label.Label.TheVariants as line
use Rattle.trace_labels.specs.declared.trap.TrapName.TheVariants as trap
use Rattle.world_parts.specs.declared.parts.Rest.TheVariants as rest
use Rattle.world_parts.specs.declared.parts.Flow.TheVariants as flow
use Rattle.world_parts.specs.Held.{Held, Gives, Traps, after}
use Rattle.world_parts.specs.Feed.{told, at_rest, chained, acting, left_chain, got}
use Rattle.world_parts.specs.Entries.{entry_added, lend_ended}
use Rattle.world_parts.specs.Slots.{instance_of, errand_of, happens, errand_set, lends_found, result_found, resolved, awaited, state_told, next_task, task_made, reenters}
use Rattle.world_parts.specs.Calls.{all_unlent, back, back_by, back_from_call, back_from_cancel, blocked, blocked_in, blocked_word, call_begun, call_open, call_resolved, cancel_open, cancel_resolved, given_back, given_back_if, subtask_told, unlent}
use Rattle.standing.specs.MarksKept.{StayBy}
use Rattle.standing.proofs.marks.Inside.{IsQuietWait}
use Rattle.standing.proofs.marks.Stays.{stays_after, stays_if, stays_same, stays_all}
use Rattle.standing.proofs.marks.Entries.{entry_added_stays, lend_ended_stays}
use Rattle.standing.proofs.marks.Feed.{acting_stays, chained_stays, got_stays, left_chain_stays, told_stays}
use Rattle.standing.proofs.marks.Slots.{awaited_stays, errand_of_stays, errand_set_stays, happens_stays, instance_of_stays, lends_found_stays, next_task_stays, resolved_stays, result_found_stays, state_told_stays, task_made_stays}

pub blocked_stays : (t : ℕ) (why : BlockedAt) (flag : Bool) (reason : BlockReason) (h : Held) → IsQuietWait why → StayBy h (blocked t why flag reason h)
unfolding blocked
blocked_stays t why flag reason h q =
    stays_after h (happens t (event.Block why flag) h) (λ done k. after (told (line.Block t reason) k) (λ done l. left_chain l)) (happens_stays t (event.Block why flag) h q) (λ done k. stays_after k (told (line.Block t reason) k) (λ done l. left_chain l) (told_stays (line.Block t reason) k) (λ done l. left_chain_stays l))

pub blocked_in_stays : (t : ℕ) (canon : ℕ) (flag : Bool) (why : BlockedAt) (reason : BlockReason) (h : Held) → IsQuietWait why → StayBy h (blocked_in t canon flag why reason h)
unfolding blocked_in
blocked_in_stays t canon flag why reason h q =
    stays_after h (errand_set t (errand.InBuiltin canon) h) (λ done k. blocked t why flag reason k) (errand_set_stays t (errand.InBuiltin canon) h) (λ done k. blocked_stays t why flag reason k q)

pub call_begun_stays : (t : ℕ) (canon : ℕ) (callee : Callee) (instance : ℕ) (kind : Kind) (words : List ℕ) (h : Held) → StayBy h (call_begun t canon callee instance kind words h)
unfolding call_begun
call_begun_stays t canon callee instance kind words h =
    stays_if h (reenters instance t h) (Traps trap.Reentrant h) (after (next_task h) (λ made k. after (errand_set t (errand.AfterCall made canon) k) (λ done l. after (task_made (new_slot instance kind callee (Guest (new_called t canon words made))) l) (λ number m. after (told (line.Call t made (instance + 1)) m) (λ done n. after (chained made n) (λ done o. Gives flow.Rests (at_rest rest.Arrives o))))))) tt (stays_after h (next_task h) (λ made k. after (errand_set t (errand.AfterCall made canon) k) (λ done l. after (task_made (new_slot instance kind callee (Guest (new_called t canon words made))) l) (λ number m. after (told (line.Call t made (instance + 1)) m) (λ done n. after (chained made n) (λ done o. Gives flow.Rests (at_rest rest.Arrives o)))))) (next_task_stays h) (λ made k. stays_after k (errand_set t (errand.AfterCall made canon) k) (λ done l. after (task_made (new_slot instance kind callee (Guest (new_called t canon words made))) l) (λ number m. after (told (line.Call t made (instance + 1)) m) (λ done n. after (chained made n) (λ done o. Gives flow.Rests (at_rest rest.Arrives o))))) (errand_set_stays t (errand.AfterCall made canon) k) (λ done l. stays_after l (task_made (new_slot instance kind callee (Guest (new_called t canon words made))) l) (λ number m. after (told (line.Call t made (instance + 1)) m) (λ done n. after (chained made n) (λ done o. Gives flow.Rests (at_rest rest.Arrives o)))) (task_made_stays (new_slot instance kind callee (Guest (new_called t canon words made))) l refl) (λ number m. stays_after m (told (line.Call t made (instance + 1)) m) (λ done n. after (chained made n) (λ done o. Gives flow.Rests (at_rest rest.Arrives o))) (told_stays (line.Call t made (instance + 1)) m) (λ done n. stays_after n (chained made n) (λ done o. Gives flow.Rests (at_rest rest.Arrives o)) (chained_stays made n) (λ done o. stays_all o (at_rest rest.Arrives o) refl refl))))))

pub unlent_stays : (at : ℕ) (callee : ℕ) (handle : ℕ) (h : Held) → StayBy h (unlent at callee handle h)
unlent_stays at callee handle h =
    stays_after h (lend_ended at handle h) (λ done k. told (line.Unlend (at + 1) handle callee) k) (lend_ended_stays at handle h) (λ done k. told_stays (line.Unlend (at + 1) handle callee) k)

pub all_unlent_stays : (at : ℕ) (callee : ℕ) (x : List ℕ) (h : Held) → StayBy h (all_unlent at callee x h)
all_unlent_stays at callee [] h =
    stays_same h
all_unlent_stays at callee (handle ∷ handles) h =
    stays_after h (unlent at callee handle h) (λ done k. all_unlent at callee handles k) (unlent_stays at callee handle h) (λ done k. all_unlent_stays at callee handles k)

pub given_back_stays : (at : ℕ) (callee : ℕ) (h : Held) → StayBy h (given_back at callee h)
unfolding given_back
given_back_stays at callee h =
    stays_after h (lends_found callee h) (λ handles k. all_unlent at callee handles k) (lends_found_stays callee h) (λ handles k. all_unlent_stays at callee handles k)

pub given_back_if_stays : (is_over : Bool) (at : ℕ) (callee : ℕ) (h : Held) → StayBy h (given_back_if is_over at callee h)
given_back_if_stays is_over at callee h =
    stays_if h (is_over) (given_back at callee h) (Gives (tt {0}) h) (given_back_stays at callee h) (stays_same h)

pub subtask_told_stays : (at : ℕ) (callee : ℕ) (h : Held) → StayBy h (subtask_told at callee h)
unfolding subtask_told
subtask_told_stays at callee h =
    stays_after h (resolved callee h) (λ is_over k. after (given_back_if is_over at callee k) (λ done l. state_told callee l)) (resolved_stays callee h) (λ is_over k. stays_after k (given_back_if is_over at callee k) (λ done l. state_told callee l) (given_back_if_stays is_over at callee k) (λ done l. state_told_stays callee l))

pub call_resolved_stays : (g : Views) (t : ℕ) (at : ℕ) (callee : ℕ) (canon : ℕ) (h : Held) → StayBy h (call_resolved g t at callee canon h)
unfolding call_resolved
call_resolved_stays g t at callee canon h =
    stays_after h (result_found callee h) (λ words k. after (subtask_told at callee k) (λ payload l. if g.is_async canon then got t (2 ∷ []) l else got t words l)) (result_found_stays callee h) (λ words k. stays_after k (subtask_told at callee k) (λ payload l. if g.is_async canon then got t (2 ∷ []) l else got t words l) (subtask_told_stays at callee k) (λ payload l. stays_if l (g.is_async canon) (got t (2 ∷ []) l) (got t words l) (got_stays t (2 ∷ []) l) (got_stays t words l)))

pub call_open_stays : (g : Views) (t : ℕ) (at : ℕ) (callee : ℕ) (canon : ℕ) (h : Held) → StayBy h (call_open g t at callee canon h)
unfolding call_open
call_open_stays g t at callee canon h =
    stays_if h (g.is_async canon) (after (entry_added at (entry.Subtask callee) h) (λ index k. after (state_told callee k) (λ state l. got t ((state + 16 * index) ∷ []) l))) (blocked_in t canon (g.flag canon) (blocked_at.Call callee) (reason.Call callee) h) (stays_after h (entry_added at (entry.Subtask callee) h) (λ index k. after (state_told callee k) (λ state l. got t ((state + 16 * index) ∷ []) l)) (entry_added_stays at (entry.Subtask callee) h tt) (λ index k. stays_after k (state_told callee k) (λ state l. got t ((state + 16 * index) ∷ []) l) (state_told_stays callee k) (λ state l. got_stays t ((state + 16 * index) ∷ []) l))) (blocked_in_stays t canon (g.flag canon) (blocked_at.Call callee) (reason.Call callee) h tt)

pub back_from_call_stays : (g : Views) (t : ℕ) (at : ℕ) (callee : ℕ) (canon : ℕ) (h : Held) → StayBy h (back_from_call g t at callee canon h)
unfolding back_from_call
back_from_call_stays g t at callee canon h =
    stays_after h (errand_set t errand.None h) (λ done k. after (resolved callee k) (λ is_over l. if is_over then call_resolved g t at callee canon l else call_open g t at callee canon l)) (errand_set_stays t errand.None h) (λ done k. stays_after k (resolved callee k) (λ is_over l. if is_over then call_resolved g t at callee canon l else call_open g t at callee canon l) (resolved_stays callee k) (λ is_over l. stays_if l (is_over) (call_resolved g t at callee canon l) (call_open g t at callee canon l) (call_resolved_stays g t at callee canon l) (call_open_stays g t at callee canon l)))

pub cancel_resolved_stays : (t : ℕ) (at : ℕ) (callee : ℕ) (h : Held) → StayBy h (cancel_resolved t at callee h)
unfolding cancel_resolved
cancel_resolved_stays t at callee h =
    stays_after h (subtask_told at callee h) (λ payload k. got t (payload ∷ []) k) (subtask_told_stays at callee h) (λ payload k. got_stays t (payload ∷ []) k)

pub cancel_open_stays : (g : Views) (t : ℕ) (callee : ℕ) (canon : ℕ) (index : ℕ) (h : Held) → StayBy h (cancel_open g t callee canon index h)
unfolding cancel_open
cancel_open_stays g t callee canon index h =
    stays_if h (g.flag canon) (got t (blocked_word ∷ []) h) (after (awaited callee true h) (λ done k. blocked_in t canon (g.flag canon) (blocked_at.Cancel index) (reason.Cancel index) k)) (got_stays t (blocked_word ∷ []) h) (stays_after h (awaited callee true h) (λ done k. blocked_in t canon (g.flag canon) (blocked_at.Cancel index) (reason.Cancel index) k) (awaited_stays callee true h) (λ done k. blocked_in_stays t canon (g.flag canon) (blocked_at.Cancel index) (reason.Cancel index) k tt))

pub back_from_cancel_stays : (g : Views) (t : ℕ) (at : ℕ) (callee : ℕ) (canon : ℕ) (index : ℕ) (h : Held) → StayBy h (back_from_cancel g t at callee canon index h)
unfolding back_from_cancel
back_from_cancel_stays g t at callee canon index h =
    stays_after h (errand_set t errand.None h) (λ done k. after (resolved callee k) (λ is_over l. if is_over then cancel_resolved t at callee l else cancel_open g t callee canon index l)) (errand_set_stays t errand.None h) (λ done k. stays_after k (resolved callee k) (λ is_over l. if is_over then cancel_resolved t at callee l else cancel_open g t callee canon index l) (resolved_stays callee k) (λ is_over l. stays_if l (is_over) (cancel_resolved t at callee l) (cancel_open g t callee canon index l) (cancel_resolved_stays t at callee l) (cancel_open_stays g t callee canon index l)))

pub back_by_stays : (g : Views) (t : ℕ) (at : ℕ) (e : Errand) (h : Held) → StayBy h (back_by g t at e h)
back_by_stays g t at errand.None h =
    tt
back_by_stays g t at (errand.AfterCall callee canon) h =
    back_from_call_stays g t at callee canon h
back_by_stays g t at (errand.AfterCancel callee canon index) h =
    back_from_cancel_stays g t at callee canon index h
back_by_stays g t at (errand.Begins n) h =
    tt
back_by_stays g t at (errand.InBuiltin canon) h =
    tt

pub back_stays : (g : Views) (h : Held) → StayBy h (back g h)
unfolding back
back_stays g h =
    stays_after h (acting h) (λ t k. after (instance_of t k) (λ at l. after (errand_of t l) (λ e m. back_by g t at e m))) (acting_stays h) (λ t k. stays_after k (instance_of t k) (λ at l. after (errand_of t l) (λ e m. back_by g t at e m)) (instance_of_stays t k) (λ at l. stays_after l (errand_of t l) (λ e m. back_by g t at e m) (errand_of_stays t l) (λ e m. back_by_stays g t at e m)))
