use Rattle.run_laws.proofs.onward.Whole.{given, first_carried, carried_steps_so, carried_may_step, steps_carry}
use Rattle.run_laws.proofs.carried.runs_are_carried.Goals as goal

pub returns : goal.returns
returns c = record {
  first = first_carried;
  so = carried_steps_so (given c.steps_are_fed.ensures.passes c.reached_worlds_are_typed.ensures.worlds c.reached_worlds_are_typed.ensures.starts c.words_are_supplied.ensures.destructors c.steps_are_fed.ensures.copies);
  may = carried_may_step (given c.steps_are_fed.ensures.passes c.reached_worlds_are_typed.ensures.worlds c.reached_worlds_are_typed.ensures.starts c.words_are_supplied.ensures.destructors c.steps_are_fed.ensures.copies);
  steps = steps_carry (given c.steps_are_fed.ensures.passes c.reached_worlds_are_typed.ensures.worlds c.reached_worlds_are_typed.ensures.starts c.words_are_supplied.ensures.destructors c.steps_are_fed.ensures.copies);
}
