-- What is known where a subtask is told of, where one is cancelled, and where a task blocks until one has resolved.
use Rattle.std.proofs.Common.{◌≡◌, ◌≢◌, ◌⊎◌, ℕ, true, false, List, Some}
use Rattle.std.specs.List.{slice_get}
use Rattle.tasks.specs.Subtasks.{is_over}
use Rattle.tasks.specs.Tasks.{is_unasked}
use Rattle.tasks.specs.declared.subtask_state.SubtaskState.{SubtaskState}
use Rattle.comp_graph.specs.Graph.{Graph}
use Rattle.abi_machine.specs.World.{Inst, ForCancel, TaskState, InBuiltin, Task, World}
use Rattle.abi_machine.specs.Reading.{func_of}
use Rattle.abi_machine.specs.Cancelling.{first_of}
use Rattle.abi_machine.specs.sound.Firsts.{TaskIs}
use Rattle.abi_machine.specs.sound.Called.{HaveCalled}
use Rattle.abi_machine.specs.sound.Subtasks.{CallIs, AreSubtasks}
use Rattle.abi_machine.specs.sound.Told.{AreTold}
use Rattle.abi_machine.specs.sound.Cancels.{StandsIn, CancelsTask, WasAsked, IsNotOver, HasCancels}
use Rattle.abi_machine.proofs.sound.Outlines.{Is}

-- No other task cancels the task of a number, and none is blocked until it has resolved.
abbrev pub NoOther : List Task → List Inst → ℕ → ℕ → Type 0
NoOther tasks insts u callee = (t : ℕ) (y : Task) → u ≢ t → slice_get tasks t ≡ Some y → CancelsTask insts y callee → ⊥

abbrev pub NoneBlocked : World → ℕ → Type 0
NoneBlocked w callee =
    (u number index : ℕ) (words : List ℕ) (x : Task) → slice_get w.tasks u ≡ Some x → x.state ≡ InBuiltin number words (ForCancel index) → StandsIn w.insts (func_of x.callee) index callee → ⊥

-- Its caller is told that it has resolved where none is, and else was not told so before.
abbrev pub TellsWell : World → ℕ → SubtaskState → Type 0
TellsWell w t state = ((is_over state ≡ true) × NoneBlocked w t) ⊎ ((is_over state ≡ false) × CallIs w.tasks t IsNotOver)

-- The acting task cancels one that stands at its index, of which that was not asked.
abbrev pub IsUnasked : Task → Type 0
IsUnasked task = is_unasked task.cancellation ≡ true

abbrev pub CancelsWell : World → ℕ → ℕ → List ℕ → Type 0
CancelsWell w t callee words = TaskIs w.tasks callee IsUnasked × Is (λ o. StandsIn w.insts (func_of o.callee) (first_of words) callee) t w

-- It blocks until one has resolved.
abbrev pub BlocksAsked : ℕ → TaskState → World → Type 0
BlocksAsked t (InBuiltin number words (ForCancel index)) w =
    (callee : ℕ) × Is (λ o. StandsIn w.insts (func_of o.callee) index callee) t w × CallIs w.tasks callee IsNotOver × TaskIs w.tasks callee WasAsked × NoOther w.tasks w.insts t callee
BlocksAsked t state w = Unit {0}

-- what is known of the start of a turn
pub record AskedFacts (g : Graph) (w : World) : Type 0 where
  pub called : HaveCalled w.tasks
  pub subtasks : AreSubtasks g w.tasks w.insts
  pub told : AreTold w.tasks
  pub cancels : HasCancels w
