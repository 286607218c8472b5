use Rattle.machine_examples.proofs.runs.CancelAwaited.{cancel_awaited_shown}
use Rattle.machine_examples.proofs.runs.CancelAsked.{cancel_asked_shown}
use Rattle.machine_examples.proofs.laws.cancelled_calls_are_awaited.Goals as goal

pub returns : goal.returns
returns c = record { waits = cancel_awaited_shown; asks = cancel_asked_shown }
