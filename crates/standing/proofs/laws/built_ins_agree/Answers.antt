use Rattle.standing.proofs.Answering.{context_is_read, context_is_set, rep_is_read, handle_is_made, pressure_rises, pressure_falls, pressure_is_set, set_is_made, subtask_is_dropped}
use Rattle.standing.proofs.Dropping.{set_is_dropped}
use Rattle.standing.proofs.Joining.{waitable_is_joined}
use Rattle.standing.proofs.laws.built_ins_agree.Goals as goal

pub returns : goal.returns
returns c = record {
  context = context_is_read;
  context_set = context_is_set;
  rep = rep_is_read;
  handle = handle_is_made;
  rises = pressure_rises;
  falls = pressure_falls;
  pressure = pressure_is_set;
  set = set_is_made;
  joined = waitable_is_joined;
  set_dropped = set_is_dropped;
  subtask = subtask_is_dropped;
}
