use Rattle.run_laws.proofs.lists.Keeping.{first_has_lists, answers_keep_lists, moves_keep_lists, entering_keeps_lists, ending_keeps_lists, events_keep_lists, turns_keep_lists}
use Rattle.run_laws.proofs.lists.Steps.{steps_keep_lists, runs_have_lists}
use Rattle.run_laws.proofs.lists.Script.{next_call_keeps_lists, cancel_keeps_lists}
use Rattle.run_laws.proofs.marking.lists_stay.Goals as goal

pub returns : goal.returns
returns c = record {
  first = first_has_lists;
  steps = steps_keep_lists;
  runs = runs_have_lists;
  answers = answers_keep_lists;
  moves = moves_keep_lists;
  entering = entering_keeps_lists;
  ending = ending_keeps_lists;
  events = events_keep_lists;
  turns = turns_keep_lists;
  next_call = next_call_keeps_lists;
  cancelled = cancel_keeps_lists;
}
