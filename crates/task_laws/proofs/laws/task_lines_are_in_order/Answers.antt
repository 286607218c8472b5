use Rattle.task_laws.proofs.Order.{lines_are_in_order, runs_are_in_order}
use Rattle.task_laws.proofs.laws.task_lines_are_in_order.Goals as goal

pub returns : goal.returns
returns c = record { reached = lines_are_in_order; runs = runs_are_in_order }
