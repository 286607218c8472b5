use Rattle.standing.proofs.Tables.{entries_are_added, entries_are_removed, entries_stay_alike, sets_are_made, waitables_leave, waitables_join, waiters_are_not_said, pressure_changes, entry_is_not_said}
use Rattle.standing.proofs.laws.instances_stand.Goals as goal

pub returns : goal.returns
returns c = record {
  added = entries_are_added;
  removed = entries_are_removed;
  alike = entries_stay_alike;
  made = sets_are_made;
  left = waitables_leave;
  joined = waitables_join;
  waiters = waiters_are_not_said;
  pressure = pressure_changes;
  entry = entry_is_not_said;
}
