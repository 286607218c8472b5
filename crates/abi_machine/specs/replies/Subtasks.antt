-- Subtasks (Component Model, CanonicalABI.md, `canon subtask.cancel` and `canon subtask.drop`).
use Rattle.std.specs.Prelude.{ℕ, not, slice_index, if◌then◌else◌, List, []}
use Rattle.tasks.specs.Tasks.{is_unasked}
use Rattle.tasks.specs.Subtasks.{is_over}
use Rattle.comp_graph.specs.Graph.{Graph}
use Rattle.trace_labels.specs.declared.trap.TrapName.TheVariants as trap
use Rattle.abi_machine.specs.Control.{Back}
use Rattle.abi_machine.specs.World.{AfterCancel, Task, World}
use Rattle.abi_machine.specs.Edits.{entry_removed, left_set, in_state}
use Rattle.abi_machine.specs.Counting.{has_resolved}
use Rattle.abi_machine.specs.Finding.{subtask_at}
use Rattle.abi_machine.specs.Turn.{Turn, silent, unless, unless_refused, replied}
use Rattle.abi_machine.specs.Calling.{with_subtask_of}
use Rattle.abi_machine.specs.Cancelling.{cancelled_turn}

-- A subtask that has not resolved is cancelled. Then control is back at the task that asked for it.
unfoldable pub cancel_asked : Graph → ℕ → Task → World → Turn
cancel_asked g callee task w = if has_resolved task then silent Back w else cancelled_turn g callee task Back w

unfoldable pub subtask_cancel_turn : Graph → ℕ → ℕ → ℕ → List ℕ → World → Turn
subtask_cancel_turn g t i number words w =
    unless_refused t (subtask_at w i (slice_index words 0)) w (λ callee.
    with_subtask_of w callee (λ task subtask.
    unless t (is_over subtask.told) trap.Delivered w
    (unless t (not (is_unasked task.cancellation)) trap.Asked w
    (cancel_asked g callee task (in_state t (AfterCancel callee number words) w)))))

unfoldable pub subtask_drop_turn : ℕ → ℕ → ℕ → World → Turn
subtask_drop_turn t i index w =
    unless_refused t (subtask_at w i index) w (λ callee.
    with_subtask_of w callee (λ task subtask.
    unless t (not (is_over subtask.told)) trap.NotDelivered w
    (replied t [] (left_set i index (entry_removed i index w)))))
