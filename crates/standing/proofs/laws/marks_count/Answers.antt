use Rattle.standing.proofs.KeptMarks.{first_is_marked, gates_are_kept, waiters_are_counted, lends_are_counted, borrows_are_counted, who_waits_is_kept}
use Rattle.standing.proofs.laws.marks_count.Goals as goal

pub returns : goal.returns
returns c = record {
  first = first_is_marked;
  gates = gates_are_kept;
  waiters = waiters_are_counted;
  lends = lends_are_counted;
  borrows = borrows_are_counted;
  awaited = who_waits_is_kept;
}
