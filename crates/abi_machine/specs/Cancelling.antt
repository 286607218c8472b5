-- Cancellation (Component Model, Concurrency.md, "Cancellation"; CanonicalABI.md, `canon subtask.cancel`): that a task come to an end is asked
-- of it. One that waits to enter is removed; one whose wait a cancellation ends goes on at once; to any other it is told when it next asks.
use Rattle.std.specs.Prelude.{ℕ, if◌then◌else◌, List, [], ◌∷◌}
use Rattle.tasks.specs.declared.event.Asked.{Asked}
use Rattle.tasks.specs.declared.event.Asked.TheVariants.{Removed, ResumeNow, Pending}
use Rattle.tasks.specs.declared.phase.Cancellation.TheVariants as cancellation
use Rattle.tasks.specs.declared.phase.Resolution.TheVariants.{Cancelled}
use Rattle.tasks.specs.Tasks.{cancel_case}
use Rattle.comp_graph.specs.Graph.{Graph}
use Rattle.trace_labels.specs.declared.label.BlockReason.TheVariants as reason
use Rattle.trace_labels.specs.declared.label.Label.TheVariants as line
use Rattle.abi_machine.specs.Control.{Control, Goes}
use Rattle.abi_machine.specs.World.{TaskState, Acting, AfterCall, AfterCancel, Exited, InBuiltin, ForCancel, Task, World}
use Rattle.abi_machine.specs.Edits.{with_control, chained, in_state, resolved, with_cancellation}
use Rattle.abi_machine.specs.Canons.{flag_at}
use Rattle.abi_machine.specs.Reading.{func_of}
use Rattle.abi_machine.specs.Counting.{has_resolved, task_view}
use Rattle.abi_machine.specs.Gate.{is_entry_free}
use Rattle.abi_machine.specs.Turn.{Turn, Steps, Stuck, silent, given, with_func, replied, blocked}
use Rattle.abi_machine.specs.Calling.{subtask_told, with_subtask_of, back_from_call}
use Rattle.abi_machine.specs.Copying.{blocked_word}
use Rattle.abi_machine.specs.Delivering.{told_payload}

-- what comes of it for a task of this number, where control else goes on so
unfoldable pub asked_turn : ℕ → Asked → Control → World → Turn
asked_turn t Removed control w =
    Steps (line.Cancelled t ∷ line.Exit t ∷ []) (with_control control (in_state t Exited (resolved t Cancelled w)))
asked_turn t ResumeNow control w = silent Goes (chained t (with_cancellation t cancellation.Asked w))
asked_turn t Pending control w = silent control (with_cancellation t cancellation.Asked w)

unfoldable pub cancelled_turn : Graph → ℕ → Task → Control → World → Turn
cancelled_turn g t task control w =
    given (func_of task.callee) (λ f. asked_turn t (cancel_case (is_entry_free w f.instance) (task_view g w t task)) control w)

-- Control is back at a task that cancelled a subtask, at the index that is the first of these words.
abbrev pub first_of : List ℕ → ℕ
first_of [] = 0
first_of (word ∷ words) = word

unfoldable pub cancel_open : Graph → ℕ → ℕ → List ℕ → World → Turn
cancel_open g t number words w =
    if flag_at g number then replied t (blocked_word ∷ []) w
    else blocked t (InBuiltin number words (ForCancel (first_of words))) (reason.Cancel (first_of words)) w

unfoldable pub back_from_cancel : Graph → ℕ → ℕ → ℕ → ℕ → List ℕ → World → Turn
back_from_cancel g t i callee number words w =
    with_subtask_of w callee (λ task subtask.
    if has_resolved task then told_payload t (subtask_told i callee task subtask w) else cancel_open g t number words w)

-- Control is back at the acting task.
unfoldable pub back_to : Graph → ℕ → ℕ → TaskState → World → Turn
back_to g t i (AfterCall callee number words) w = back_from_call g t i callee number words w
back_to g t i (AfterCancel callee number words) w = back_from_cancel g t i callee number words (in_state t Acting w)
back_to g t i state w = Stuck

unfoldable pub back_turn : Graph → World → Turn
back_turn g w = with_func w (λ t task f. back_to g t f.instance task.state w)
