-- Words of context, backpressure, and how a task resolves and lets others run: what is kept well stays so.
use Rattle.std.specs.Prelude.{ℕ, ◌&&◌, if◌then◌else◌, List, [], ◌∷◌, Option}
use Rattle.tasks.specs.declared.event.BlockedAt.TheVariants as blocked_at
use Rattle.tasks.specs.declared.event.TaskEvent.TheVariants as event
use Rattle.tasks.specs.declared.subtask_state.SubtaskState.TheVariants as state
use Rattle.world_parts.specs.Views.{Views}
use Rattle.trace_labels.specs.declared.label.BlockReason.TheVariants as reason
use Rattle.trace_labels.specs.declared.label.Label.TheVariants as line
use Rattle.trace_labels.specs.declared.typed.TypedValue.{TypedValue}
use Rattle.world_parts.specs.declared.parts.Flow.TheVariants as flow
use Rattle.world_parts.specs.Held.{Held, Gives, after}
use Rattle.world_parts.specs.Feed.{told, got}
use Rattle.world_parts.specs.Gates.{pressure_raised, pressure_lowered, pressure_set}
use Rattle.world_parts.specs.Slots.{word_in, context_of, context_set, asked, happens, raised}
use Rattle.world_parts.specs.Calls.{blocked_in}
use Rattle.world_parts.specs.Plain.{backpressure_dec, backpressure_inc, backpressure_set, context_get, context_put, return_asked, returned, task_cancel, task_yield, yield_cancelled}
use Rattle.run_laws.specs.keeping.Well.{KeepsWell}
use Rattle.run_laws.proofs.well.Calls.{blocked_in_well}
use Rattle.run_laws.proofs.well.Feed.{got_well, told_well}
use Rattle.run_laws.proofs.well.Gates.{pressure_lowered_well, pressure_raised_well, pressure_set_well}
use Rattle.run_laws.proofs.well.Slots.{asked_well, context_of_well, context_set_well, happens_well, raised_well}
use Rattle.run_laws.proofs.well.Behind.{well_after, well_given, well_if, well_same}

pub context_get_well : (t : ℕ) (number : ℕ) (h : Held) → KeepsWell h (context_get t number h)
unfolding context_get
context_get_well t number h =
    well_after h (context_of t number h) (λ word k. got t (word ∷ []) k) (context_of_well t number h) (λ word k. got_well t (word ∷ []) k)

pub context_put_well : (t : ℕ) (number : ℕ) (words : List ℕ) (h : Held) → KeepsWell h (context_put t number words h)
unfolding context_put
context_put_well t number words h =
    well_given h (word_in words 0) (λ word. after (context_set t number word h) (λ done k. got t [] k)) (λ word is. well_after h (context_set t number word h) (λ done k. got t [] k) (context_set_well t number word h) (λ done k. got_well t [] k))

pub backpressure_inc_well : (t : ℕ) (at : ℕ) (h : Held) → KeepsWell h (backpressure_inc t at h)
unfolding backpressure_inc
backpressure_inc_well t at h =
    well_after h (pressure_raised at h) (λ done k. got t [] k) (pressure_raised_well at h) (λ done k. got_well t [] k)

pub backpressure_dec_well : (t : ℕ) (at : ℕ) (h : Held) → KeepsWell h (backpressure_dec t at h)
unfolding backpressure_dec
backpressure_dec_well t at h =
    well_after h (pressure_lowered at h) (λ done k. got t [] k) (pressure_lowered_well at h) (λ done k. got_well t [] k)

pub backpressure_set_well : (t : ℕ) (at : ℕ) (words : List ℕ) (h : Held) → KeepsWell h (backpressure_set t at words h)
unfolding backpressure_set
backpressure_set_well t at words h =
    well_given h (word_in words 0) (λ enabled. after (pressure_set at enabled h) (λ done k. got t [] k)) (λ enabled is. well_after h (pressure_set at enabled h) (λ done k. got t [] k) (pressure_set_well at enabled h) (λ done k. got_well t [] k))

pub return_asked_well : (t : ℕ) (h : Held) → KeepsWell h (return_asked t h)
unfolding return_asked
return_asked_well t h =
    well_after h (happens t event.AskReturn h) (λ done k. Gives flow.Returns k) (happens_well t event.AskReturn h) (λ done k. well_same k)

pub returned_well : (t : ℕ) (value : Option TypedValue) (h : Held) → KeepsWell h (returned t value h)
unfolding returned
returned_well t value h =
    well_after h (happens t event.Return h) (λ done k. after (told (line.Return t value) k) (λ done l. raised t state.Returned l)) (happens_well t event.Return h) (λ done k. well_after k (told (line.Return t value) k) (λ done l. raised t state.Returned l) (told_well (line.Return t value) k) (λ done l. raised_well t state.Returned l))

pub task_cancel_well : (t : ℕ) (h : Held) → KeepsWell h (task_cancel t h)
unfolding task_cancel
task_cancel_well t h =
    well_after h (happens t event.Cancel h) (λ done k. after (told (line.Cancelled t) k) (λ done l. after (raised t state.CancelledBeforeReturned l) (λ done m. got t [] m))) (happens_well t event.Cancel h) (λ done k. well_after k (told (line.Cancelled t) k) (λ done l. after (raised t state.CancelledBeforeReturned l) (λ done m. got t [] m)) (told_well (line.Cancelled t) k) (λ done l. well_after l (raised t state.CancelledBeforeReturned l) (λ done m. got t [] m) (raised_well t state.CancelledBeforeReturned l) (λ done m. got_well t [] m)))

pub yield_cancelled_well : (t : ℕ) (h : Held) → KeepsWell h (yield_cancelled t h)
unfolding yield_cancelled
yield_cancelled_well t h =
    well_after h (happens t event.ToldCancel h) (λ done k. after (told (line.Event t 6 0 0) k) (λ done l. got t (1 ∷ []) l)) (happens_well t event.ToldCancel h) (λ done k. well_after k (told (line.Event t 6 0 0) k) (λ done l. got t (1 ∷ []) l) (told_well (line.Event t 6 0 0) k) (λ done l. got_well t (1 ∷ []) l))

pub task_yield_well : (g : Views) (t : ℕ) (canon : ℕ) (h : Held) → KeepsWell h (task_yield g t canon h)
unfolding task_yield
task_yield_well g t canon h =
    well_after h (asked t h) (λ is_asked k. if g.flag canon && is_asked then yield_cancelled t k else blocked_in t canon (g.flag canon) blocked_at.Yield reason.Yield k) (asked_well t h) (λ is_asked k. well_if k (g.flag canon && is_asked) (yield_cancelled t k) (blocked_in t canon (g.flag canon) blocked_at.Yield reason.Yield k) (yield_cancelled_well t k) (blocked_in_well t canon (g.flag canon) blocked_at.Yield reason.Yield k))
