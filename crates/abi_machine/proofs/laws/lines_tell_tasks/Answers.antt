use Rattle.abi_machine.proofs.sound.TaskLines.{lines_tell_tasks, reached_lines_tell}
use Rattle.abi_machine.proofs.laws.lines_tell_tasks.Goals as goal

pub returns : goal.returns
returns c = record { each = lines_tell_tasks; reached = reached_lines_tell }
