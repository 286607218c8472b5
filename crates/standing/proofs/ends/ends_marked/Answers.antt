use Rattle.standing.proofs.EndMarks.{begun_is_marked, same_entries_stay_marked, added_stay_marked, removed_stay_marked, changed_stay_marked, streams_stay_marked, futures_stay_marked}
use Rattle.standing.proofs.EndSides.{channels_stay_marked, telling_leaves_other, dropping_leaves_other, meeting_leaves_other}
use Rattle.standing.proofs.EndSaid.{said_stays_marked, gone_stays_marked}
use Rattle.standing.proofs.ends.ends_marked.Goals as goal

pub returns : goal.returns
returns c = record {
  begun = begun_is_marked;
  same = same_entries_stay_marked;
  added = added_stay_marked;
  removed = removed_stay_marked;
  changed = changed_stay_marked;
  streams = streams_stay_marked;
  futures = futures_stay_marked;
  channels = channels_stay_marked;
  told = telling_leaves_other;
  dropped = dropping_leaves_other;
  met = meeting_leaves_other;
  said = said_stays_marked;
  gone = gone_stays_marked;
}
