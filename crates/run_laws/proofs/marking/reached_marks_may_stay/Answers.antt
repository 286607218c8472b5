use Rattle.run_laws.proofs.supplied.Sets.{sets_are_apart}
use Rattle.run_laws.proofs.supplied.Kept.{numbers_are_there, nothing_is_lent_next, no_task_waits_next, no_set_is_waited_on_next, told_have_given_back, asked_were_not_cancelled, one_holds_entry, tasks_run_functions, acting_runs_function, waiting_called}
use Rattle.run_laws.proofs.marking.reached_marks_may_stay.Goals as goal

pub returns : goal.returns
returns c = record {
  numbers = numbers_are_there;
  unlent = nothing_is_lent_next;
  unawaited = no_task_waits_next;
  unwaited = no_set_is_waited_on_next;
  sets = sets_are_apart;
  gave = told_have_given_back;
  asked = asked_were_not_cancelled;
  holds = one_holds_entry;
  functions = tasks_run_functions;
  acting = acting_runs_function;
  called = waiting_called;
}
