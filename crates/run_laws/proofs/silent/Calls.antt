-- Calls: no event is to come next.
use Rattle.std.specs.Prelude.{ℕ, ◌+◌, ◌*◌, Bool, true, if◌then◌else◌, List, [], ◌∷◌}
use Rattle.entry_gate.specs.declared.kind.Kind.{Kind}
use Rattle.tasks.specs.declared.event.BlockedAt.{BlockedAt}
use Rattle.tasks.specs.declared.event.BlockedAt.TheVariants as blocked_at
use Rattle.tasks.specs.declared.event.TaskEvent.TheVariants as event
use Rattle.task_table.specs.declared.errand.Callee.{Callee}
use Rattle.task_table.specs.declared.errand.Errand.{Errand}
use Rattle.task_table.specs.declared.errand.Errand.TheVariants as errand
use Rattle.instances.specs.declared.entry.WorldEntry.TheVariants as entry
use Rattle.world_parts.specs.Views.{Views}
use Rattle.trace_labels.specs.declared.label.BlockReason.{BlockReason}
use Rattle.trace_labels.specs.declared.label.BlockReason.TheVariants as reason
use Rattle.trace_labels.specs.declared.label.Label.TheVariants as line
use Rattle.world_parts.specs.Held.{Held, after}
use Rattle.world_parts.specs.Feed.{told, acting, left_chain, got}
use Rattle.world_parts.specs.Entries.{entry_added}
use Rattle.world_parts.specs.Slots.{instance_of, errand_of, happens, errand_set, result_found, resolved, awaited, state_told}
use Rattle.world_parts.specs.Calls.{back, back_by, back_from_call, back_from_cancel, blocked, blocked_in, blocked_word, call_begun, call_open, call_resolved, cancel_open, cancel_resolved, subtask_told}
use Rattle.run_laws.proofs.silent.Feed.{got_silent, left_chain_silent}
use Rattle.run_laws.proofs.plain.Calls.{call_begun_plain}
use Rattle.run_laws.proofs.silent.Silent.{SilentBy, plain_silent, silent_after, silent_if}

pub blocked_silent : (t : ℕ) (why : BlockedAt) (flag : Bool) (reason : BlockReason) (h : Held) → SilentBy (blocked t why flag reason h)
unfolding blocked
blocked_silent t why flag reason h =
    silent_after (happens t (event.Block why flag) h) (λ done k. after (told (line.Block t reason) k) (λ done l. left_chain l)) (λ done k. silent_after (told (line.Block t reason) k) (λ done l. left_chain l) (λ done l. left_chain_silent l))

pub blocked_in_silent : (t : ℕ) (canon : ℕ) (flag : Bool) (why : BlockedAt) (reason : BlockReason) (h : Held) → SilentBy (blocked_in t canon flag why reason h)
unfolding blocked_in
blocked_in_silent t canon flag why reason h =
    silent_after (errand_set t (errand.InBuiltin canon) h) (λ done k. blocked t why flag reason k) (λ done k. blocked_silent t why flag reason k)

-- It is called.
pub call_begun_silent : (t : ℕ) (canon : ℕ) (callee : Callee) (instance : ℕ) (kind : Kind) (words : List ℕ) (h : Held) → SilentBy (call_begun t canon callee instance kind words h)
call_begun_silent t canon callee instance kind words h = plain_silent (call_begun t canon callee instance kind words h) (call_begun_plain t canon callee instance kind words h)

pub call_resolved_silent : (g : Views) (t : ℕ) (at : ℕ) (callee : ℕ) (canon : ℕ) (h : Held) → SilentBy (call_resolved g t at callee canon h)
unfolding call_resolved
call_resolved_silent g t at callee canon h =
    silent_after (result_found callee h) (λ words k. after (subtask_told at callee k) (λ payload l. if g.is_async canon then got t (2 ∷ []) l else got t words l)) (λ words k. silent_after (subtask_told at callee k) (λ payload l. if g.is_async canon then got t (2 ∷ []) l else got t words l) (λ payload l. silent_if (g.is_async canon) (got t (2 ∷ []) l) (got t words l) (got_silent t (2 ∷ []) l) (got_silent t words l)))

pub call_open_silent : (g : Views) (t : ℕ) (at : ℕ) (callee : ℕ) (canon : ℕ) (h : Held) → SilentBy (call_open g t at callee canon h)
unfolding call_open
call_open_silent g t at callee canon h =
    silent_if (g.is_async canon) (after (entry_added at (entry.Subtask callee) h) (λ index k. after (state_told callee k) (λ state l. got t ((state + 16 * index) ∷ []) l))) (blocked_in t canon (g.flag canon) (blocked_at.Call callee) (reason.Call callee) h) (silent_after (entry_added at (entry.Subtask callee) h) (λ index k. after (state_told callee k) (λ state l. got t ((state + 16 * index) ∷ []) l)) (λ index k. silent_after (state_told callee k) (λ state l. got t ((state + 16 * index) ∷ []) l) (λ state l. got_silent t ((state + 16 * index) ∷ []) l))) (blocked_in_silent t canon (g.flag canon) (blocked_at.Call callee) (reason.Call callee) h)

pub back_from_call_silent : (g : Views) (t : ℕ) (at : ℕ) (callee : ℕ) (canon : ℕ) (h : Held) → SilentBy (back_from_call g t at callee canon h)
unfolding back_from_call
back_from_call_silent g t at callee canon h =
    silent_after (errand_set t errand.None h) (λ done k. after (resolved callee k) (λ is_over l. if is_over then call_resolved g t at callee canon l else call_open g t at callee canon l)) (λ done k. silent_after (resolved callee k) (λ is_over l. if is_over then call_resolved g t at callee canon l else call_open g t at callee canon l) (λ is_over l. silent_if (is_over) (call_resolved g t at callee canon l) (call_open g t at callee canon l) (call_resolved_silent g t at callee canon l) (call_open_silent g t at callee canon l)))

pub cancel_resolved_silent : (t : ℕ) (at : ℕ) (callee : ℕ) (h : Held) → SilentBy (cancel_resolved t at callee h)
unfolding cancel_resolved
cancel_resolved_silent t at callee h =
    silent_after (subtask_told at callee h) (λ payload k. got t (payload ∷ []) k) (λ payload k. got_silent t (payload ∷ []) k)

pub cancel_open_silent : (g : Views) (t : ℕ) (callee : ℕ) (canon : ℕ) (index : ℕ) (h : Held) → SilentBy (cancel_open g t callee canon index h)
unfolding cancel_open
cancel_open_silent g t callee canon index h =
    silent_if (g.flag canon) (got t (blocked_word ∷ []) h) (after (awaited callee true h) (λ done k. blocked_in t canon (g.flag canon) (blocked_at.Cancel index) (reason.Cancel index) k)) (got_silent t (blocked_word ∷ []) h) (silent_after (awaited callee true h) (λ done k. blocked_in t canon (g.flag canon) (blocked_at.Cancel index) (reason.Cancel index) k) (λ done k. blocked_in_silent t canon (g.flag canon) (blocked_at.Cancel index) (reason.Cancel index) k))

pub back_from_cancel_silent : (g : Views) (t : ℕ) (at : ℕ) (callee : ℕ) (canon : ℕ) (index : ℕ) (h : Held) → SilentBy (back_from_cancel g t at callee canon index h)
unfolding back_from_cancel
back_from_cancel_silent g t at callee canon index h =
    silent_after (errand_set t errand.None h) (λ done k. after (resolved callee k) (λ is_over l. if is_over then cancel_resolved t at callee l else cancel_open g t callee canon index l)) (λ done k. silent_after (resolved callee k) (λ is_over l. if is_over then cancel_resolved t at callee l else cancel_open g t callee canon index l) (λ is_over l. silent_if (is_over) (cancel_resolved t at callee l) (cancel_open g t callee canon index l) (cancel_resolved_silent t at callee l) (cancel_open_silent g t callee canon index l)))

pub back_by_silent : (g : Views) (t : ℕ) (at : ℕ) (e : Errand) (h : Held) → SilentBy (back_by g t at e h)
back_by_silent g t at errand.None h =
    tt
back_by_silent g t at (errand.AfterCall callee canon) h =
    back_from_call_silent g t at callee canon h
back_by_silent g t at (errand.AfterCancel callee canon index) h =
    back_from_cancel_silent g t at callee canon index h
back_by_silent g t at (errand.Begins n) h =
    tt
back_by_silent g t at (errand.InBuiltin canon) h =
    tt

pub back_silent : (g : Views) (h : Held) → SilentBy (back g h)
unfolding back
back_silent g h =
    silent_after (acting h) (λ t k. after (instance_of t k) (λ at l. after (errand_of t l) (λ e m. back_by g t at e m))) (λ t k. silent_after (instance_of t k) (λ at l. after (errand_of t l) (λ e m. back_by g t at e m)) (λ at l. silent_after (errand_of t l) (λ e m. back_by g t at e m) (λ e m. back_by_silent g t at e m)))
