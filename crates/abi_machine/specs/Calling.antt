-- Calls (Component Model, CanonicalABI.md, `canon lower`, "Subtask State"; Concurrency.md): a task calls a function, and control comes back to
-- it when the task that it called has exited or blocked.
use Rattle.std.specs.Prelude.{ℕ, ◌+◌, ◌*◌, Bool, true, false, if◌then◌else◌, List, [], ◌∷◌, ◌++◌, map, length}
use Rattle.tasks.specs.declared.subtask_state.SubtaskState.TheVariants.{Starting, Returned}
use Rattle.tasks.specs.Subtasks.{code_of}
use Rattle.comp_graph.specs.Graph.{Graph, Lifted}
use Rattle.trace_labels.specs.declared.label.BlockReason.TheVariants as reason
use Rattle.trace_labels.specs.declared.label.Label.{Label}
use Rattle.trace_labels.specs.declared.label.Label.TheVariants as line
use Rattle.trace_labels.specs.declared.trap.TrapName.TheVariants as trap
use Rattle.abi_machine.specs.Control.{Arrives}
use Rattle.abi_machine.specs.World.{OfSubtask, Callee, Subtask, Caller, Guest, ForCall, Acting, AfterCall, InBuiltin, Task, World}
use Rattle.abi_machine.specs.Edits.{with_control, task_made, chained, in_state, told}
use Rattle.abi_machine.specs.Canons.{options_at}
use Rattle.abi_machine.specs.Reading.{task_at, subtask_of, is_reentrant}
use Rattle.abi_machine.specs.Counting.{subtask_state, state_of, has_resolved}
use Rattle.abi_machine.specs.Turn.{Turn, Steps, given, unless, with_entry, goes_on_with, replied, blocked}

-- A task is made, and stands on the chain. Its number is that of all tasks before it.
abbrev pub begun : Callee → Caller → World → World
begun callee caller w = with_control Arrives (chained (length w.tasks) (task_made callee caller w))

abbrev pub called_by : ℕ → ℕ → List ℕ → Subtask
called_by t number words = record { by = t; canon = number; words = words; told = Starting; lends = []; result = [] }

-- A task calls a function, by the canonical function of this number, which was called with words, and passes these. Instances are counted
-- from 1 in lines.
unfoldable pub call_begun : ℕ → ℕ → List ℕ → Callee → Lifted → List ℕ → World → Turn
call_begun t number words callee f passed w =
    unless t (is_reentrant w f.instance t) trap.Reentrant w
    (Steps (line.Call t (length w.tasks) (f.instance + 1) ∷ [])
    (begun callee (Guest (called_by t number passed)) (in_state t (AfterCall (length w.tasks) number words) w)))

-- What comes of a subtask that is told: lines, the payload, and the world.
pub record Told : Type 0 where
  pub lines : List Label
  pub payload : ℕ
  pub world : World

-- The caller of a task, in this instance, is told the task's state. Once it has resolved, what was lent for the call is given back.
abbrev pub unlend_lines : ℕ → ℕ → List ℕ → List Label
unlend_lines i callee handles = map (λ handle. line.Unlend (i + 1) handle callee) handles

abbrev pub lines_told : ℕ → ℕ → Bool → List ℕ → List Label
lines_told i callee has_resolved handles = if has_resolved then unlend_lines i callee handles else []

abbrev pub subtask_told : ℕ → ℕ → Task → Subtask → World → Told
subtask_told i callee task subtask w = record {
  lines = lines_told i callee (has_resolved task) subtask.lends;
  payload = state_of task;
  world = told callee (subtask_state task) w;
}

-- An answer behind lines.
abbrev pub replied_behind : ℕ → List Label → List ℕ → World → Turn
replied_behind t lines words w = Steps (lines ++ line.Got t words ∷ []) (goes_on_with t words w)

-- the task of a number, with the caller's side of its call
abbrev pub with_subtask_of : World → ℕ → (Task → Subtask → Turn) → Turn
with_subtask_of w callee more = given (task_at w callee) (λ task. given (subtask_of task.caller) (λ subtask. more task subtask))

-- what a call answers for a task that has resolved: one that does not wait that it has returned
abbrev pub call_answer : Bool → List ℕ → List ℕ
call_answer true words = code_of Returned ∷ []
call_answer false words = words

-- what it answers for one that has not: the state, and the index of the subtask
abbrev pub call_state : Task → ℕ → ℕ
call_state task index = state_of task + 16 * index

-- Control is back at a task that called another one, which has resolved,
unfoldable pub call_resolved : ℕ → Bool → Subtask → Told → Turn
call_resolved t is_async subtask s = replied_behind t s.lines (call_answer is_async subtask.result) s.world

-- or has not: a call that does not wait adds the subtask to the table, and answers its state and its index; another one blocks.
unfoldable pub call_open : ℕ → ℕ → ℕ → Task → Bool → ℕ → List ℕ → World → Turn
call_open t i callee task true number words w =
    with_entry t i (OfSubtask callee) w (λ index v. replied t (call_state task index ∷ []) (told callee (subtask_state task) v))
call_open t i callee task false number words w = blocked t (InBuiltin number words (ForCall callee)) (reason.Call callee) w

unfoldable pub back_from_call : Graph → ℕ → ℕ → ℕ → ℕ → List ℕ → World → Turn
back_from_call g t i callee number words w =
    with_subtask_of w callee (λ task subtask.
    if has_resolved task then call_resolved t (options_at g number).is_async subtask (subtask_told i callee task subtask (in_state t Acting w))
    else call_open t i callee task (options_at g number).is_async number words (in_state t Acting w))
