use Rattle.task_laws.proofs.Order.{each_is_told_once}
use Rattle.task_laws.proofs.AsTold.{exits_are_last}
use Rattle.task_laws.proofs.laws.task_lines_come_once.Goals as goal

pub returns : goal.returns
returns c = record { once = each_is_told_once; last = exits_are_last }
