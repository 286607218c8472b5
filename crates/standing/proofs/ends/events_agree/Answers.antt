use Rattle.standing.proofs.Heard.{nothing_is_heard, cancel_is_heard}
use Rattle.standing.proofs.Delivered.{event_is_delivered, set_is_polled}
use Rattle.standing.proofs.Waiting.{set_is_waited_for}
use Rattle.standing.proofs.News.{ready_is_alike}
use Rattle.standing.proofs.ends.events_agree.Goals as goal

pub returns : goal.returns
returns c = record {
  nothing = nothing_is_heard;
  cancelled = cancel_is_heard;
  delivered = event_is_delivered;
  polled = set_is_polled;
  waited = set_is_waited_for;
  ready = ready_is_alike;
}
