-- Words of context, backpressure, and how a task resolves and lets others run (Component Model, CanonicalABI.md, `canon context.get`, `canon
-- context.set`, `canon backpressure.set`, `canon backpressure.{inc,dec}`, `canon task.return`, `canon task.cancel` and `canon yield`).
use Rattle.std.specs.Prelude.{ℕ, Bool, ◌&&◌, if◌then◌else◌, List, [], ◌∷◌, Option}
use Rattle.tasks.specs.declared.event.BlockedAt.TheVariants as blocked_at
use Rattle.tasks.specs.declared.event.TaskEvent.TheVariants as event
use Rattle.tasks.specs.declared.subtask_state.SubtaskState.TheVariants as state
use Rattle.world_parts.specs.Views.{Views}
use Rattle.trace_labels.specs.declared.label.BlockReason.TheVariants as reason
use Rattle.trace_labels.specs.declared.label.Label.TheVariants as line
use Rattle.trace_labels.specs.declared.typed.TypedValue.{TypedValue}
use Rattle.world_parts.specs.declared.parts.Flow.{Flow}
use Rattle.world_parts.specs.declared.parts.Flow.TheVariants as flow
use Rattle.world_parts.specs.Held.{Held, Done, Gives, after, given}
use Rattle.world_parts.specs.Feed.{told, got}
use Rattle.world_parts.specs.Gates.{pressure_raised, pressure_lowered, pressure_set}
use Rattle.world_parts.specs.Slots.{word_in, context_of, context_set, asked, happens, raised}
use Rattle.world_parts.specs.Calls.{blocked_in}

unfoldable pub context_get : ℕ → ℕ → Held → Done Flow
context_get t number h = after (context_of t number h) (λ word k. got t (word ∷ []) k)

unfoldable pub context_put : ℕ → ℕ → List ℕ → Held → Done Flow
context_put t number words h = given (word_in words 0) (λ word. after (context_set t number word h) (λ done k. got t [] k))

unfoldable pub backpressure_inc : ℕ → ℕ → Held → Done Flow
backpressure_inc t at h = after (pressure_raised at h) (λ done k. got t [] k)

unfoldable pub backpressure_dec : ℕ → ℕ → Held → Done Flow
backpressure_dec t at h = after (pressure_lowered at h) (λ done k. got t [] k)

unfoldable pub backpressure_set : ℕ → ℕ → List ℕ → Held → Done Flow
backpressure_set t at words h = given (word_in words 0) (λ enabled. after (pressure_set at enabled h) (λ done k. got t [] k))

-- `task.return` is not for tasks that are lifted without `async`. Behind it the result is lifted, and then the task resolves by its line.
unfoldable pub return_asked : ℕ → Held → Done Flow
return_asked t h = after (happens t event.AskReturn h) (λ done k. Gives flow.Returns k)

unfoldable pub returned : ℕ → Option TypedValue → Held → Done (Unit {0})
returned t value h =
    after (happens t event.Return h) (λ done k. after (told (line.Return t value) k) (λ done l. raised t state.Returned l))

unfoldable pub task_cancel : ℕ → Held → Done Flow
task_cancel t h =
    after (happens t event.Cancel h) (λ done k. after (told (line.Cancelled t) k) (λ done l.
    after (raised t state.CancelledBeforeReturned l) (λ done m. got t [] m)))

-- `yield` is told a cancellation, where it may be, and blocks elsewhere.
unfoldable pub yield_cancelled : ℕ → Held → Done Flow
yield_cancelled t h =
    after (happens t event.ToldCancel h) (λ done k. after (told (line.Event t 6 0 0) k) (λ done l. got t (1 ∷ []) l))

unfoldable pub task_yield : Views → ℕ → ℕ → Held → Done Flow
task_yield g t canon h =
    after (asked t h) (λ is_asked k.
    if g.flag canon && is_asked then yield_cancelled t k else blocked_in t canon (g.flag canon) blocked_at.Yield reason.Yield k)
