use Rattle.standing.proofs.Changes.{instances_change, instances_stay, refusals_change_nothing, instances_begin, tasks_change, tasks_are_made, stacks_are_answered, tasks_come_to_the_chain, tasks_leave_the_chain, units_are_spent, items_are_taken, picks_are_used, stores_change}
use Rattle.standing.proofs.laws.changes_stand.Goals as goal

pub returns : goal.returns
returns c = record {
  instances = instances_change;
  stay = instances_stay;
  refused = refusals_change_nothing;
  begun = instances_begin;
  tasks = tasks_change;
  made = tasks_are_made;
  answered = stacks_are_answered;
  chained = tasks_come_to_the_chain;
  unchained = tasks_leave_the_chain;
  spent = units_are_spent;
  taken = items_are_taken;
  picked = picks_are_used;
  stores = stores_change;
}
