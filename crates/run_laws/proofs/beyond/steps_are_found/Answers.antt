use Rattle.run_laws.proofs.onward.Whole.{given}
use Rattle.run_laws.proofs.LostSteps.{traps_are_of_tasks, steps_are_lost_there, runs_go_beyond_there}
use Rattle.run_laws.proofs.beyond.steps_are_found.Goals as goal

pub returns : goal.returns
returns c = record {
  traps = traps_are_of_tasks (given c.steps_are_fed.ensures.passes c.reached_worlds_are_typed.ensures.worlds c.reached_worlds_are_typed.ensures.starts c.words_are_supplied.ensures.destructors c.steps_are_fed.ensures.copies);
  lost = steps_are_lost_there (given c.steps_are_fed.ensures.passes c.reached_worlds_are_typed.ensures.worlds c.reached_worlds_are_typed.ensures.starts c.words_are_supplied.ensures.destructors c.steps_are_fed.ensures.copies) c.exactly_one_next.ensures.goes_on;
  beyond = runs_go_beyond_there (given c.steps_are_fed.ensures.passes c.reached_worlds_are_typed.ensures.worlds c.reached_worlds_are_typed.ensures.starts c.words_are_supplied.ensures.destructors c.steps_are_fed.ensures.copies) c.exactly_one_next.ensures.goes_on;
}
