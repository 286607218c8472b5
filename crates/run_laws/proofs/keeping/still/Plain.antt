-- Words of context, backpressure, and how a task resolves and lets others run keep memories, core instances and ends as they are kept.
use Rattle.std.specs.Prelude.{ℕ, ◌&&◌, if◌then◌else◌, List, [], ◌∷◌, Option}
use Rattle.tasks.specs.declared.event.BlockedAt.TheVariants as blocked_at
use Rattle.tasks.specs.declared.event.TaskEvent.TheVariants as event
use Rattle.tasks.specs.declared.subtask_state.SubtaskState.TheVariants as state
use Rattle.world_parts.specs.Views.{Views}
use Rattle.trace_labels.specs.declared.label.BlockReason.TheVariants as reason
use Rattle.trace_labels.specs.declared.label.Label.TheVariants as line
use Rattle.trace_labels.specs.declared.typed.TypedValue.{TypedValue}
use Rattle.world_parts.specs.declared.parts.Flow.TheVariants as flow
use Rattle.world_parts.specs.Held.{Held, Gives, after}
use Rattle.world_parts.specs.Feed.{told, got}
use Rattle.world_parts.specs.Gates.{pressure_raised, pressure_lowered, pressure_set}
use Rattle.world_parts.specs.Slots.{word_in, context_of, context_set, asked, happens, raised}
use Rattle.world_parts.specs.Calls.{blocked_in}
use Rattle.world_parts.specs.Plain.{backpressure_dec, backpressure_inc, backpressure_set, context_get, context_put, return_asked, returned, task_cancel, task_yield, yield_cancelled}
use Rattle.run_laws.proofs.keeping.still.Still.{Kinds, StillBy, still_after, still_given, still_if, still_same}
use Rattle.run_laws.proofs.keeping.still.Calls.{blocked_in_still}
use Rattle.run_laws.proofs.keeping.still.Feed.{got_still, told_still}
use Rattle.run_laws.proofs.keeping.still.Gates.{pressure_lowered_still, pressure_raised_still, pressure_set_still}
use Rattle.run_laws.proofs.keeping.still.Slots.{asked_still, context_of_still, context_set_still, happens_still, raised_still}

pub context_get_still : (W : Kinds) → (t : ℕ) (number : ℕ) (h : Held) → StillBy W h (context_get t number h)
unfolding context_get
context_get_still W t number h =
    still_after W h (context_of t number h) (λ word k. got t (word ∷ []) k) (context_of_still W t number h) (λ word k. got_still W t (word ∷ []) k)

pub context_put_still : (W : Kinds) → (t : ℕ) (number : ℕ) (words : List ℕ) (h : Held) → StillBy W h (context_put t number words h)
unfolding context_put
context_put_still W t number words h =
    still_given W h (word_in words 0) (λ word. after (context_set t number word h) (λ done k. got t [] k)) (λ word is. still_after W h (context_set t number word h) (λ done k. got t [] k) (context_set_still W t number word h) (λ done k. got_still W t [] k))

pub backpressure_inc_still : (W : Kinds) → (t : ℕ) (at : ℕ) (h : Held) → StillBy W h (backpressure_inc t at h)
unfolding backpressure_inc
backpressure_inc_still W t at h =
    still_after W h (pressure_raised at h) (λ done k. got t [] k) (pressure_raised_still W at h) (λ done k. got_still W t [] k)

pub backpressure_dec_still : (W : Kinds) → (t : ℕ) (at : ℕ) (h : Held) → StillBy W h (backpressure_dec t at h)
unfolding backpressure_dec
backpressure_dec_still W t at h =
    still_after W h (pressure_lowered at h) (λ done k. got t [] k) (pressure_lowered_still W at h) (λ done k. got_still W t [] k)

pub backpressure_set_still : (W : Kinds) → (t : ℕ) (at : ℕ) (words : List ℕ) (h : Held) → StillBy W h (backpressure_set t at words h)
unfolding backpressure_set
backpressure_set_still W t at words h =
    still_given W h (word_in words 0) (λ enabled. after (pressure_set at enabled h) (λ done k. got t [] k)) (λ enabled is. still_after W h (pressure_set at enabled h) (λ done k. got t [] k) (pressure_set_still W at enabled h) (λ done k. got_still W t [] k))

pub return_asked_still : (W : Kinds) → (t : ℕ) (h : Held) → StillBy W h (return_asked t h)
unfolding return_asked
return_asked_still W t h =
    still_after W h (happens t event.AskReturn h) (λ done k. Gives flow.Returns k) (happens_still W t event.AskReturn h) (λ done k. still_same W k)

pub returned_still : (W : Kinds) → (t : ℕ) (value : Option TypedValue) (h : Held) → StillBy W h (returned t value h)
unfolding returned
returned_still W t value h =
    still_after W h (happens t event.Return h) (λ done k. after (told (line.Return t value) k) (λ done l. raised t state.Returned l)) (happens_still W t event.Return h) (λ done k. still_after W k (told (line.Return t value) k) (λ done l. raised t state.Returned l) (told_still W (line.Return t value) k) (λ done l. raised_still W t state.Returned l))

pub task_cancel_still : (W : Kinds) → (t : ℕ) (h : Held) → StillBy W h (task_cancel t h)
unfolding task_cancel
task_cancel_still W t h =
    still_after W h (happens t event.Cancel h) (λ done k. after (told (line.Cancelled t) k) (λ done l. after (raised t state.CancelledBeforeReturned l) (λ done m. got t [] m))) (happens_still W t event.Cancel h) (λ done k. still_after W k (told (line.Cancelled t) k) (λ done l. after (raised t state.CancelledBeforeReturned l) (λ done m. got t [] m)) (told_still W (line.Cancelled t) k) (λ done l. still_after W l (raised t state.CancelledBeforeReturned l) (λ done m. got t [] m) (raised_still W t state.CancelledBeforeReturned l) (λ done m. got_still W t [] m)))

pub yield_cancelled_still : (W : Kinds) → (t : ℕ) (h : Held) → StillBy W h (yield_cancelled t h)
unfolding yield_cancelled
yield_cancelled_still W t h =
    still_after W h (happens t event.ToldCancel h) (λ done k. after (told (line.Event t 6 0 0) k) (λ done l. got t (1 ∷ []) l)) (happens_still W t event.ToldCancel h) (λ done k. still_after W k (told (line.Event t 6 0 0) k) (λ done l. got t (1 ∷ []) l) (told_still W (line.Event t 6 0 0) k) (λ done l. got_still W t (1 ∷ []) l))

pub task_yield_still : (W : Kinds) → (g : Views) (t : ℕ) (canon : ℕ) (h : Held) → StillBy W h (task_yield g t canon h)
unfolding task_yield
task_yield_still W g t canon h =
    still_after W h (asked t h) (λ is_asked k. if g.flag canon && is_asked then yield_cancelled t k else blocked_in t canon (g.flag canon) blocked_at.Yield reason.Yield k) (asked_still W t h) (λ is_asked k. still_if W k (g.flag canon && is_asked) (yield_cancelled t k) (blocked_in t canon (g.flag canon) blocked_at.Yield reason.Yield k) (yield_cancelled_still W t k) (blocked_in_still W t canon (g.flag canon) blocked_at.Yield reason.Yield k))
