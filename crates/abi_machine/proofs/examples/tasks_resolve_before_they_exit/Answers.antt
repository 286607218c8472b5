use Rattle.abi_machine.proofs.runs.Unresolved.{unresolved_shown}
use Rattle.abi_machine.proofs.runs.UnresolvedLater.{unresolved_later_shown}
use Rattle.abi_machine.proofs.examples.tasks_resolve_before_they_exit.Goals as goal

pub returns : goal.returns
returns c = record { first = unresolved_shown; later = unresolved_later_shown }
