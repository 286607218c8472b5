use Rattle.standing.proofs.laws.marks_stay.Goals as goal
use Rattle.standing.proofs.marks.Kept.{sets_keep_marks, subtasks_keep_marks, calls_keep_marks, handles_keep_marks, context_keeps_marks, pressure_keeps_marks, tasks_keep_marks, ends_keep_marks}

pub returns : goal.returns
returns c = record {
  sets = sets_keep_marks;
  subtasks = subtasks_keep_marks;
  calls = calls_keep_marks;
  handles = handles_keep_marks;
  context = context_keeps_marks;
  pressure = pressure_keeps_marks;
  tasks = tasks_keep_marks;
  ends = ends_keep_marks;
}
