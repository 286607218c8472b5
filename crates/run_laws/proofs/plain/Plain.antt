-- Words of context, backpressure, and how a task resolves and lets others run: what is given is words, a rest, or a core function that starts.
use Rattle.std.specs.Prelude.{ℕ, ◌&&◌, if◌then◌else◌, List, [], ◌∷◌}
use Rattle.tasks.specs.declared.event.BlockedAt.TheVariants as blocked_at
use Rattle.tasks.specs.declared.event.TaskEvent.TheVariants as event
use Rattle.tasks.specs.declared.subtask_state.SubtaskState.TheVariants as state
use Rattle.world_parts.specs.Views.{Views}
use Rattle.trace_labels.specs.declared.label.BlockReason.TheVariants as reason
use Rattle.trace_labels.specs.declared.label.Label.TheVariants as line
use Rattle.world_parts.specs.Held.{Held, after}
use Rattle.world_parts.specs.Feed.{told, got}
use Rattle.world_parts.specs.Gates.{pressure_raised, pressure_lowered, pressure_set}
use Rattle.world_parts.specs.Slots.{word_in, context_of, context_set, asked, happens, raised}
use Rattle.world_parts.specs.Calls.{blocked_in}
use Rattle.world_parts.specs.Plain.{backpressure_dec, backpressure_inc, backpressure_set, context_get, context_put, task_cancel, task_yield, yield_cancelled}
use Rattle.run_laws.proofs.plain.Calls.{blocked_in_plain}
use Rattle.run_laws.proofs.plain.Feed.{got_plain}
use Rattle.run_laws.proofs.plain.Only.{PlainBy, plain_after, plain_given, plain_if}

pub context_get_plain : (t : ℕ) (number : ℕ) (h : Held) → PlainBy (context_get t number h)
unfolding context_get
context_get_plain t number h =
    plain_after (context_of t number h) (λ word k. got t (word ∷ []) k) (λ word k. got_plain t (word ∷ []) k)

pub context_put_plain : (t : ℕ) (number : ℕ) (words : List ℕ) (h : Held) → PlainBy (context_put t number words h)
unfolding context_put
context_put_plain t number words h =
    plain_given (word_in words 0) (λ word. after (context_set t number word h) (λ done k. got t [] k)) (λ word is. plain_after (context_set t number word h) (λ done k. got t [] k) (λ done k. got_plain t [] k))

pub backpressure_inc_plain : (t : ℕ) (at : ℕ) (h : Held) → PlainBy (backpressure_inc t at h)
unfolding backpressure_inc
backpressure_inc_plain t at h =
    plain_after (pressure_raised at h) (λ done k. got t [] k) (λ done k. got_plain t [] k)

pub backpressure_dec_plain : (t : ℕ) (at : ℕ) (h : Held) → PlainBy (backpressure_dec t at h)
unfolding backpressure_dec
backpressure_dec_plain t at h =
    plain_after (pressure_lowered at h) (λ done k. got t [] k) (λ done k. got_plain t [] k)

pub backpressure_set_plain : (t : ℕ) (at : ℕ) (words : List ℕ) (h : Held) → PlainBy (backpressure_set t at words h)
unfolding backpressure_set
backpressure_set_plain t at words h =
    plain_given (word_in words 0) (λ enabled. after (pressure_set at enabled h) (λ done k. got t [] k)) (λ enabled is. plain_after (pressure_set at enabled h) (λ done k. got t [] k) (λ done k. got_plain t [] k))

pub task_cancel_plain : (t : ℕ) (h : Held) → PlainBy (task_cancel t h)
unfolding task_cancel
task_cancel_plain t h =
    plain_after (happens t event.Cancel h) (λ done k. after (told (line.Cancelled t) k) (λ done l. after (raised t state.CancelledBeforeReturned l) (λ done m. got t [] m))) (λ done k. plain_after (told (line.Cancelled t) k) (λ done l. after (raised t state.CancelledBeforeReturned l) (λ done m. got t [] m)) (λ done l. plain_after (raised t state.CancelledBeforeReturned l) (λ done m. got t [] m) (λ done m. got_plain t [] m)))

pub yield_cancelled_plain : (t : ℕ) (h : Held) → PlainBy (yield_cancelled t h)
unfolding yield_cancelled
yield_cancelled_plain t h =
    plain_after (happens t event.ToldCancel h) (λ done k. after (told (line.Event t 6 0 0) k) (λ done l. got t (1 ∷ []) l)) (λ done k. plain_after (told (line.Event t 6 0 0) k) (λ done l. got t (1 ∷ []) l) (λ done l. got_plain t (1 ∷ []) l))

pub task_yield_plain : (g : Views) (t : ℕ) (canon : ℕ) (h : Held) → PlainBy (task_yield g t canon h)
unfolding task_yield
task_yield_plain g t canon h =
    plain_after (asked t h) (λ is_asked k. if g.flag canon && is_asked then yield_cancelled t k else blocked_in t canon (g.flag canon) blocked_at.Yield reason.Yield k) (λ is_asked k. plain_if (g.flag canon && is_asked) (yield_cancelled t k) (blocked_in t canon (g.flag canon) blocked_at.Yield reason.Yield k) (yield_cancelled_plain t k) (blocked_in_plain t canon (g.flag canon) blocked_at.Yield reason.Yield k))
