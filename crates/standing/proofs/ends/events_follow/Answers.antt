use Rattle.standing.proofs.Hearing.{delivery_follows, poll_follows, nothing_follows, cancel_follows}
use Rattle.standing.proofs.ends.events_follow.Goals as goal

pub returns : goal.returns
returns c = record { delivered = delivery_follows; polled = poll_follows; nothing = nothing_follows; cancelled = cancel_follows }
