-- Words of context, backpressure, and how a task resolves and lets others run: no event is to come next.
use Rattle.std.specs.Prelude.{ℕ, ◌&&◌, if◌then◌else◌, List, [], ◌∷◌}
use Rattle.tasks.specs.declared.event.BlockedAt.TheVariants as blocked_at
use Rattle.tasks.specs.declared.event.TaskEvent.TheVariants as event
use Rattle.tasks.specs.declared.subtask_state.SubtaskState.TheVariants as state
use Rattle.world_parts.specs.Views.{Views}
use Rattle.trace_labels.specs.declared.label.BlockReason.TheVariants as reason
use Rattle.trace_labels.specs.declared.label.Label.TheVariants as line
use Rattle.world_parts.specs.declared.parts.Flow.TheVariants as flow
use Rattle.world_parts.specs.Held.{Held, Gives, after}
use Rattle.world_parts.specs.Feed.{told, got}
use Rattle.world_parts.specs.Gates.{pressure_raised, pressure_lowered, pressure_set}
use Rattle.world_parts.specs.Slots.{word_in, context_of, context_set, asked, happens, raised}
use Rattle.world_parts.specs.Calls.{blocked_in}
use Rattle.world_parts.specs.Plain.{backpressure_dec, backpressure_inc, backpressure_set, context_get, context_put, return_asked, task_cancel, task_yield, yield_cancelled}
use Rattle.run_laws.proofs.silent.Calls.{blocked_in_silent}
use Rattle.run_laws.proofs.silent.Feed.{got_silent}
use Rattle.run_laws.proofs.silent.Silent.{SilentBy, silent_after, silent_given, silent_if}

pub context_get_silent : (t : ℕ) (number : ℕ) (h : Held) → SilentBy (context_get t number h)
unfolding context_get
context_get_silent t number h =
    silent_after (context_of t number h) (λ word k. got t (word ∷ []) k) (λ word k. got_silent t (word ∷ []) k)

pub context_put_silent : (t : ℕ) (number : ℕ) (words : List ℕ) (h : Held) → SilentBy (context_put t number words h)
unfolding context_put
context_put_silent t number words h =
    silent_given (word_in words 0) (λ word. after (context_set t number word h) (λ done k. got t [] k)) (λ word is. silent_after (context_set t number word h) (λ done k. got t [] k) (λ done k. got_silent t [] k))

pub backpressure_inc_silent : (t : ℕ) (at : ℕ) (h : Held) → SilentBy (backpressure_inc t at h)
unfolding backpressure_inc
backpressure_inc_silent t at h =
    silent_after (pressure_raised at h) (λ done k. got t [] k) (λ done k. got_silent t [] k)

pub backpressure_dec_silent : (t : ℕ) (at : ℕ) (h : Held) → SilentBy (backpressure_dec t at h)
unfolding backpressure_dec
backpressure_dec_silent t at h =
    silent_after (pressure_lowered at h) (λ done k. got t [] k) (λ done k. got_silent t [] k)

pub backpressure_set_silent : (t : ℕ) (at : ℕ) (words : List ℕ) (h : Held) → SilentBy (backpressure_set t at words h)
unfolding backpressure_set
backpressure_set_silent t at words h =
    silent_given (word_in words 0) (λ enabled. after (pressure_set at enabled h) (λ done k. got t [] k)) (λ enabled is. silent_after (pressure_set at enabled h) (λ done k. got t [] k) (λ done k. got_silent t [] k))

pub return_asked_silent : (t : ℕ) (h : Held) → SilentBy (return_asked t h)
unfolding return_asked
return_asked_silent t h =
    silent_after (happens t event.AskReturn h) (λ done k. Gives flow.Returns k) (λ done k. tt)

pub task_cancel_silent : (t : ℕ) (h : Held) → SilentBy (task_cancel t h)
unfolding task_cancel
task_cancel_silent t h =
    silent_after (happens t event.Cancel h) (λ done k. after (told (line.Cancelled t) k) (λ done l. after (raised t state.CancelledBeforeReturned l) (λ done m. got t [] m))) (λ done k. silent_after (told (line.Cancelled t) k) (λ done l. after (raised t state.CancelledBeforeReturned l) (λ done m. got t [] m)) (λ done l. silent_after (raised t state.CancelledBeforeReturned l) (λ done m. got t [] m) (λ done m. got_silent t [] m)))

pub yield_cancelled_silent : (t : ℕ) (h : Held) → SilentBy (yield_cancelled t h)
unfolding yield_cancelled
yield_cancelled_silent t h =
    silent_after (happens t event.ToldCancel h) (λ done k. after (told (line.Event t 6 0 0) k) (λ done l. got t (1 ∷ []) l)) (λ done k. silent_after (told (line.Event t 6 0 0) k) (λ done l. got t (1 ∷ []) l) (λ done l. got_silent t (1 ∷ []) l))

pub task_yield_silent : (g : Views) (t : ℕ) (canon : ℕ) (h : Held) → SilentBy (task_yield g t canon h)
unfolding task_yield
task_yield_silent g t canon h =
    silent_after (asked t h) (λ is_asked k. if g.flag canon && is_asked then yield_cancelled t k else blocked_in t canon (g.flag canon) blocked_at.Yield reason.Yield k) (λ is_asked k. silent_if (g.flag canon && is_asked) (yield_cancelled t k) (blocked_in t canon (g.flag canon) blocked_at.Yield reason.Yield k) (yield_cancelled_silent t k) (blocked_in_silent t canon (g.flag canon) blocked_at.Yield reason.Yield k))
