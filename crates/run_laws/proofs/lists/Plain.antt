-- Words of context, backpressure, and how a task resolves and lets others run: lists of tasks stay as they follow from the tasks.
use Rattle.std.proofs.Common.{refl}
use Rattle.std.specs.Prelude.{ℕ, ◌&&◌, if◌then◌else◌, List, [], ◌∷◌, Option}
use Rattle.tasks.specs.declared.event.BlockedAt.TheVariants as blocked_at
use Rattle.tasks.specs.declared.event.TaskEvent.TheVariants as event
use Rattle.tasks.specs.declared.subtask_state.SubtaskState.TheVariants as state
use Rattle.world_parts.specs.Views.{Views}
use Rattle.trace_labels.specs.declared.label.BlockReason.TheVariants as reason
use Rattle.trace_labels.specs.declared.label.Label.TheVariants as line
use Rattle.trace_labels.specs.declared.typed.TypedValue.{TypedValue}
use Rattle.world_parts.specs.declared.parts.Flow.TheVariants as flow
use Rattle.world_parts.specs.Held.{Held, Gives, after}
use Rattle.world_parts.specs.Feed.{told, got}
use Rattle.world_parts.specs.Gates.{pressure_raised, pressure_lowered, pressure_set}
use Rattle.world_parts.specs.Slots.{word_in, context_of, context_set, asked, happens, raised}
use Rattle.world_parts.specs.Calls.{blocked_in}
use Rattle.world_parts.specs.Plain.{backpressure_dec, backpressure_inc, backpressure_set, context_get, context_put, return_asked, returned, task_cancel, task_yield, yield_cancelled}
use Rattle.run_laws.proofs.lists.Calls.{blocked_in_lists}
use Rattle.run_laws.proofs.lists.Feed.{got_lists, told_lists}
use Rattle.run_laws.proofs.lists.Gates.{pressure_lowered_lists, pressure_raised_lists, pressure_set_lists}
use Rattle.run_laws.proofs.lists.Slots.{asked_lists, context_of_lists, context_set_lists, happens_lists, raised_lists}
use Rattle.run_laws.proofs.lists.Same.{ListsBy, lists_after, lists_given, lists_if, lists_same}

pub context_get_lists : (t : ℕ) (number : ℕ) (h : Held) → ListsBy h (context_get t number h)
unfolding context_get
context_get_lists t number h =
    lists_after h (context_of t number h) (λ word k. got t (word ∷ []) k) (context_of_lists t number h) (λ word k. got_lists t (word ∷ []) k)

pub context_put_lists : (t : ℕ) (number : ℕ) (words : List ℕ) (h : Held) → ListsBy h (context_put t number words h)
unfolding context_put
context_put_lists t number words h =
    lists_given h (word_in words 0) (λ word. after (context_set t number word h) (λ done k. got t [] k)) (λ word is. lists_after h (context_set t number word h) (λ done k. got t [] k) (context_set_lists t number word h) (λ done k. got_lists t [] k))

pub backpressure_inc_lists : (t : ℕ) (at : ℕ) (h : Held) → ListsBy h (backpressure_inc t at h)
unfolding backpressure_inc
backpressure_inc_lists t at h =
    lists_after h (pressure_raised at h) (λ done k. got t [] k) (pressure_raised_lists at h) (λ done k. got_lists t [] k)

pub backpressure_dec_lists : (t : ℕ) (at : ℕ) (h : Held) → ListsBy h (backpressure_dec t at h)
unfolding backpressure_dec
backpressure_dec_lists t at h =
    lists_after h (pressure_lowered at h) (λ done k. got t [] k) (pressure_lowered_lists at h) (λ done k. got_lists t [] k)

pub backpressure_set_lists : (t : ℕ) (at : ℕ) (words : List ℕ) (h : Held) → ListsBy h (backpressure_set t at words h)
unfolding backpressure_set
backpressure_set_lists t at words h =
    lists_given h (word_in words 0) (λ enabled. after (pressure_set at enabled h) (λ done k. got t [] k)) (λ enabled is. lists_after h (pressure_set at enabled h) (λ done k. got t [] k) (pressure_set_lists at enabled h) (λ done k. got_lists t [] k))

pub return_asked_lists : (t : ℕ) (h : Held) → ListsBy h (return_asked t h)
unfolding return_asked
return_asked_lists t h =
    lists_after h (happens t event.AskReturn h) (λ done k. Gives flow.Returns k) (happens_lists t event.AskReturn h tt) (λ done k. lists_same k)

pub returned_lists : (t : ℕ) (value : Option TypedValue) (h : Held) → ListsBy h (returned t value h)
unfolding returned
returned_lists t value h =
    lists_after h (happens t event.Return h) (λ done k. after (told (line.Return t value) k) (λ done l. raised t state.Returned l)) (happens_lists t event.Return h tt) (λ done k. lists_after k (told (line.Return t value) k) (λ done l. raised t state.Returned l) (told_lists (line.Return t value) k) (λ done l. raised_lists t state.Returned l))

pub task_cancel_lists : (t : ℕ) (h : Held) → ListsBy h (task_cancel t h)
unfolding task_cancel
task_cancel_lists t h =
    lists_after h (happens t event.Cancel h) (λ done k. after (told (line.Cancelled t) k) (λ done l. after (raised t state.CancelledBeforeReturned l) (λ done m. got t [] m))) (happens_lists t event.Cancel h tt) (λ done k. lists_after k (told (line.Cancelled t) k) (λ done l. after (raised t state.CancelledBeforeReturned l) (λ done m. got t [] m)) (told_lists (line.Cancelled t) k) (λ done l. lists_after l (raised t state.CancelledBeforeReturned l) (λ done m. got t [] m) (raised_lists t state.CancelledBeforeReturned l) (λ done m. got_lists t [] m)))

pub yield_cancelled_lists : (t : ℕ) (h : Held) → ListsBy h (yield_cancelled t h)
unfolding yield_cancelled
yield_cancelled_lists t h =
    lists_after h (happens t event.ToldCancel h) (λ done k. after (told (line.Event t 6 0 0) k) (λ done l. got t (1 ∷ []) l)) (happens_lists t event.ToldCancel h tt) (λ done k. lists_after k (told (line.Event t 6 0 0) k) (λ done l. got t (1 ∷ []) l) (told_lists (line.Event t 6 0 0) k) (λ done l. got_lists t (1 ∷ []) l))

pub task_yield_lists : (g : Views) (t : ℕ) (canon : ℕ) (h : Held) → ListsBy h (task_yield g t canon h)
unfolding task_yield
task_yield_lists g t canon h =
    lists_after h (asked t h) (λ is_asked k. if g.flag canon && is_asked then yield_cancelled t k else blocked_in t canon (g.flag canon) blocked_at.Yield reason.Yield k) (asked_lists t h) (λ is_asked k. lists_if k (g.flag canon && is_asked) (yield_cancelled t k) (blocked_in t canon (g.flag canon) blocked_at.Yield reason.Yield k) (yield_cancelled_lists t k) (blocked_in_lists t canon (g.flag canon) blocked_at.Yield reason.Yield k refl))
