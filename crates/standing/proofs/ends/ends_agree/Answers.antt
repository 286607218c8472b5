use Rattle.standing.proofs.EndsDropped.{end_is_dropped}
use Rattle.standing.proofs.EndsTold.{channel_is_made, copy_is_cancelled}
use Rattle.standing.proofs.CopiesAsked.{copy_is_asked}
use Rattle.standing.proofs.CopyResuming.{copy_resumes}
use Rattle.standing.proofs.EndReplies.{end_is_answered}
use Rattle.standing.proofs.Seen.{graph_is_seen}
use Rattle.standing.proofs.ends.ends_agree.Goals as goal

pub returns : goal.returns
returns c = record {
  made = channel_is_made;
  dropped = end_is_dropped;
  cancelled = copy_is_cancelled;
  asked = copy_is_asked;
  answered = end_is_answered;
  resumed = copy_resumes;
  seen = graph_is_seen;
}
