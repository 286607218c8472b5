-- Words of context, backpressure, and how a task resolves and lets others run: the chain and the number of tasks stay, but where a part rests.
use Rattle.std.specs.Prelude.{ℕ, ◌&&◌, if◌then◌else◌, List, [], ◌∷◌, Option}
use Rattle.tasks.specs.declared.event.BlockedAt.TheVariants as blocked_at
use Rattle.tasks.specs.declared.event.TaskEvent.TheVariants as event
use Rattle.tasks.specs.declared.subtask_state.SubtaskState.TheVariants as state
use Rattle.world_parts.specs.Views.{Views}
use Rattle.trace_labels.specs.declared.label.BlockReason.TheVariants as reason
use Rattle.trace_labels.specs.declared.label.Label.TheVariants as line
use Rattle.trace_labels.specs.declared.typed.TypedValue.{TypedValue}
use Rattle.world_parts.specs.declared.parts.Flow.TheVariants as flow
use Rattle.world_parts.specs.Held.{Held, Gives, after}
use Rattle.world_parts.specs.Feed.{told, got}
use Rattle.world_parts.specs.Gates.{pressure_raised, pressure_lowered, pressure_set}
use Rattle.world_parts.specs.Slots.{word_in, context_of, context_set, asked, happens, raised}
use Rattle.world_parts.specs.Calls.{blocked_in}
use Rattle.world_parts.specs.Plain.{backpressure_dec, backpressure_inc, backpressure_set, context_get, context_put, return_asked, returned, task_cancel, task_yield, yield_cancelled}
use Rattle.run_laws.proofs.stays.Calls.{blocked_in_stays}
use Rattle.run_laws.proofs.stays.Feed.{got_stays, told_stays}
use Rattle.run_laws.proofs.stays.Gates.{pressure_lowered_stays, pressure_raised_stays, pressure_set_stays}
use Rattle.run_laws.proofs.stays.Slots.{asked_stays, context_of_stays, context_set_stays, happens_stays, raised_stays}
use Rattle.run_laws.proofs.stays.Same.{StaysBy, FlowsBy, stays_after, flows_after, flows_given, flows_if, flows_same}

pub context_get_stays : (t : ℕ) (number : ℕ) (h : Held) → FlowsBy h (context_get t number h)
unfolding context_get
context_get_stays t number h =
    flows_after h (context_of t number h) (λ word k. got t (word ∷ []) k) (context_of_stays t number h) (λ word k. got_stays t (word ∷ []) k)

pub context_put_stays : (t : ℕ) (number : ℕ) (words : List ℕ) (h : Held) → FlowsBy h (context_put t number words h)
unfolding context_put
context_put_stays t number words h =
    flows_given h (word_in words 0) (λ word. after (context_set t number word h) (λ done k. got t [] k)) (λ word is. flows_after h (context_set t number word h) (λ done k. got t [] k) (context_set_stays t number word h) (λ done k. got_stays t [] k))

pub backpressure_inc_stays : (t : ℕ) (at : ℕ) (h : Held) → FlowsBy h (backpressure_inc t at h)
unfolding backpressure_inc
backpressure_inc_stays t at h =
    flows_after h (pressure_raised at h) (λ done k. got t [] k) (pressure_raised_stays at h) (λ done k. got_stays t [] k)

pub backpressure_dec_stays : (t : ℕ) (at : ℕ) (h : Held) → FlowsBy h (backpressure_dec t at h)
unfolding backpressure_dec
backpressure_dec_stays t at h =
    flows_after h (pressure_lowered at h) (λ done k. got t [] k) (pressure_lowered_stays at h) (λ done k. got_stays t [] k)

pub backpressure_set_stays : (t : ℕ) (at : ℕ) (words : List ℕ) (h : Held) → FlowsBy h (backpressure_set t at words h)
unfolding backpressure_set
backpressure_set_stays t at words h =
    flows_given h (word_in words 0) (λ enabled. after (pressure_set at enabled h) (λ done k. got t [] k)) (λ enabled is. flows_after h (pressure_set at enabled h) (λ done k. got t [] k) (pressure_set_stays at enabled h) (λ done k. got_stays t [] k))

pub return_asked_stays : (t : ℕ) (h : Held) → FlowsBy h (return_asked t h)
unfolding return_asked
return_asked_stays t h =
    flows_after h (happens t event.AskReturn h) (λ done k. Gives flow.Returns k) (happens_stays t event.AskReturn h) (λ done k. flows_same k)

pub returned_stays : (t : ℕ) (value : Option TypedValue) (h : Held) → StaysBy h (returned t value h)
unfolding returned
returned_stays t value h =
    stays_after h (happens t event.Return h) (λ done k. after (told (line.Return t value) k) (λ done l. raised t state.Returned l)) (happens_stays t event.Return h) (λ done k. stays_after k (told (line.Return t value) k) (λ done l. raised t state.Returned l) (told_stays (line.Return t value) k) (λ done l. raised_stays t state.Returned l))

pub task_cancel_stays : (t : ℕ) (h : Held) → FlowsBy h (task_cancel t h)
unfolding task_cancel
task_cancel_stays t h =
    flows_after h (happens t event.Cancel h) (λ done k. after (told (line.Cancelled t) k) (λ done l. after (raised t state.CancelledBeforeReturned l) (λ done m. got t [] m))) (happens_stays t event.Cancel h) (λ done k. flows_after k (told (line.Cancelled t) k) (λ done l. after (raised t state.CancelledBeforeReturned l) (λ done m. got t [] m)) (told_stays (line.Cancelled t) k) (λ done l. flows_after l (raised t state.CancelledBeforeReturned l) (λ done m. got t [] m) (raised_stays t state.CancelledBeforeReturned l) (λ done m. got_stays t [] m)))

pub yield_cancelled_stays : (t : ℕ) (h : Held) → FlowsBy h (yield_cancelled t h)
unfolding yield_cancelled
yield_cancelled_stays t h =
    flows_after h (happens t event.ToldCancel h) (λ done k. after (told (line.Event t 6 0 0) k) (λ done l. got t (1 ∷ []) l)) (happens_stays t event.ToldCancel h) (λ done k. flows_after k (told (line.Event t 6 0 0) k) (λ done l. got t (1 ∷ []) l) (told_stays (line.Event t 6 0 0) k) (λ done l. got_stays t (1 ∷ []) l))

pub task_yield_stays : (g : Views) (t : ℕ) (canon : ℕ) (h : Held) → FlowsBy h (task_yield g t canon h)
unfolding task_yield
task_yield_stays g t canon h =
    flows_after h (asked t h) (λ is_asked k. if g.flag canon && is_asked then yield_cancelled t k else blocked_in t canon (g.flag canon) blocked_at.Yield reason.Yield k) (asked_stays t h) (λ is_asked k. flows_if k (g.flag canon && is_asked) (yield_cancelled t k) (blocked_in t canon (g.flag canon) blocked_at.Yield reason.Yield k) (yield_cancelled_stays t k) (blocked_in_stays t canon (g.flag canon) blocked_at.Yield reason.Yield k))
