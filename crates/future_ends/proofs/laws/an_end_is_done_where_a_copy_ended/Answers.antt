use Rattle.future_ends.proofs.Ending.{done_where_ended}
use Rattle.future_ends.proofs.laws.an_end_is_done_where_a_copy_ended.Goals as goal

pub returns : goal.returns
returns c = done_where_ended
