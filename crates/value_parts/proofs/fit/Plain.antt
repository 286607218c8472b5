-- Words of context, backpressure, and how a task resolves and lets others run leave the store alone, and no handle is lent more often.
use Rattle.std.proofs.Common.{◌≡◌, refl, Some}
use Rattle.std.specs.Prelude.{ℕ, Bool, ◌&&◌, if◌then◌else◌, List, [], ◌∷◌, Option}
use Rattle.tasks.specs.declared.event.BlockedAt.TheVariants as blocked_at
use Rattle.tasks.specs.declared.event.TaskEvent.TheVariants as event
use Rattle.tasks.specs.declared.subtask_state.SubtaskState.TheVariants as state
use Rattle.world_parts.specs.Views.{Views}
use Rattle.trace_labels.specs.declared.label.BlockReason.TheVariants as reason
use Rattle.trace_labels.specs.declared.label.Label.TheVariants as line
use Rattle.trace_labels.specs.declared.typed.TypedValue.{TypedValue}
use Rattle.world_parts.specs.declared.parts.Flow.{Flow}
use Rattle.world_parts.specs.declared.parts.Flow.TheVariants as flow
use Rattle.world_parts.specs.Held.{Held, Done, Gives, after, given}
use Rattle.world_parts.specs.Feed.{told, got}
use Rattle.world_parts.specs.Gates.{pressure_raised, pressure_lowered, pressure_set}
use Rattle.world_parts.specs.Slots.{word_in, context_of, context_set, asked, happens, raised}
use Rattle.world_parts.specs.Calls.{blocked_in}
use Rattle.world_parts.specs.Plain.{backpressure_dec, backpressure_inc, backpressure_set, context_get, context_put, return_asked, returned, task_cancel, task_yield, yield_cancelled}
use Rattle.value_parts.proofs.fit.Keeps.{Keeps, KeepsBy, keeps_after, keeps_given, keeps_if, keeps_same, keeps_all, keeps_from, keeps_instance}
use Rattle.value_parts.proofs.fit.Calls.{blocked_in_keeps}
use Rattle.value_parts.proofs.fit.Feed.{got_keeps, told_keeps}
use Rattle.value_parts.proofs.fit.Gates.{pressure_lowered_keeps, pressure_raised_keeps, pressure_set_keeps}
use Rattle.value_parts.proofs.fit.Slots.{asked_keeps, context_of_keeps, context_set_keeps, happens_keeps, raised_keeps}

pub context_get_keeps : (t : ℕ) (number : ℕ) (h : Held) → KeepsBy h (context_get t number h)
unfolding context_get
context_get_keeps t number h =
    keeps_after h (context_of t number h) (λ word k. got t (word ∷ []) k) (context_of_keeps t number h) (λ word k. got_keeps t (word ∷ []) k)

pub context_put_keeps : (t : ℕ) (number : ℕ) (words : List ℕ) (h : Held) → KeepsBy h (context_put t number words h)
unfolding context_put
context_put_keeps t number words h =
    keeps_given h (word_in words 0) (λ word. after (context_set t number word h) (λ done k. got t [] k)) (λ word is. keeps_after h (context_set t number word h) (λ done k. got t [] k) (context_set_keeps t number word h) (λ done k. got_keeps t [] k))

pub backpressure_inc_keeps : (t : ℕ) (at : ℕ) (h : Held) → KeepsBy h (backpressure_inc t at h)
unfolding backpressure_inc
backpressure_inc_keeps t at h =
    keeps_after h (pressure_raised at h) (λ done k. got t [] k) (pressure_raised_keeps at h) (λ done k. got_keeps t [] k)

pub backpressure_dec_keeps : (t : ℕ) (at : ℕ) (h : Held) → KeepsBy h (backpressure_dec t at h)
unfolding backpressure_dec
backpressure_dec_keeps t at h =
    keeps_after h (pressure_lowered at h) (λ done k. got t [] k) (pressure_lowered_keeps at h) (λ done k. got_keeps t [] k)

pub backpressure_set_keeps : (t : ℕ) (at : ℕ) (words : List ℕ) (h : Held) → KeepsBy h (backpressure_set t at words h)
unfolding backpressure_set
backpressure_set_keeps t at words h =
    keeps_given h (word_in words 0) (λ enabled. after (pressure_set at enabled h) (λ done k. got t [] k)) (λ enabled is. keeps_after h (pressure_set at enabled h) (λ done k. got t [] k) (pressure_set_keeps at enabled h) (λ done k. got_keeps t [] k))

pub return_asked_keeps : (t : ℕ) (h : Held) → KeepsBy h (return_asked t h)
unfolding return_asked
return_asked_keeps t h =
    keeps_after h (happens t event.AskReturn h) (λ done k. Gives flow.Returns k) (happens_keeps t event.AskReturn h) (λ done k. keeps_same k)

pub returned_keeps : (t : ℕ) (value : Option TypedValue) (h : Held) → KeepsBy h (returned t value h)
unfolding returned
returned_keeps t value h =
    keeps_after h (happens t event.Return h) (λ done k. after (told (line.Return t value) k) (λ done l. raised t state.Returned l)) (happens_keeps t event.Return h) (λ done k. keeps_after k (told (line.Return t value) k) (λ done l. raised t state.Returned l) (told_keeps (line.Return t value) k) (λ done l. raised_keeps t state.Returned l))

pub task_cancel_keeps : (t : ℕ) (h : Held) → KeepsBy h (task_cancel t h)
unfolding task_cancel
task_cancel_keeps t h =
    keeps_after h (happens t event.Cancel h) (λ done k. after (told (line.Cancelled t) k) (λ done l. after (raised t state.CancelledBeforeReturned l) (λ done m. got t [] m))) (happens_keeps t event.Cancel h) (λ done k. keeps_after k (told (line.Cancelled t) k) (λ done l. after (raised t state.CancelledBeforeReturned l) (λ done m. got t [] m)) (told_keeps (line.Cancelled t) k) (λ done l. keeps_after l (raised t state.CancelledBeforeReturned l) (λ done m. got t [] m) (raised_keeps t state.CancelledBeforeReturned l) (λ done m. got_keeps t [] m)))

pub yield_cancelled_keeps : (t : ℕ) (h : Held) → KeepsBy h (yield_cancelled t h)
unfolding yield_cancelled
yield_cancelled_keeps t h =
    keeps_after h (happens t event.ToldCancel h) (λ done k. after (told (line.Event t 6 0 0) k) (λ done l. got t (1 ∷ []) l)) (happens_keeps t event.ToldCancel h) (λ done k. keeps_after k (told (line.Event t 6 0 0) k) (λ done l. got t (1 ∷ []) l) (told_keeps (line.Event t 6 0 0) k) (λ done l. got_keeps t (1 ∷ []) l))

pub task_yield_keeps : (g : Views) (t : ℕ) (canon : ℕ) (h : Held) → KeepsBy h (task_yield g t canon h)
unfolding task_yield
task_yield_keeps g t canon h =
    keeps_after h (asked t h) (λ is_asked k. if g.flag canon && is_asked then yield_cancelled t k else blocked_in t canon (g.flag canon) blocked_at.Yield reason.Yield k) (asked_keeps t h) (λ is_asked k. keeps_if k (g.flag canon && is_asked) (yield_cancelled t k) (blocked_in t canon (g.flag canon) blocked_at.Yield reason.Yield k) (yield_cancelled_keeps t k) (blocked_in_keeps t canon (g.flag canon) blocked_at.Yield reason.Yield k))
