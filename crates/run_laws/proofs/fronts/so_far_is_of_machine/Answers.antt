use Rattle.run_laws.proofs.onward.Whole.{given}
use Rattle.run_laws.proofs.Ahead.{so_far_is_of_machine}
use Rattle.run_laws.proofs.fronts.so_far_is_of_machine.Goals as goal

pub returns : goal.returns
returns c =
    so_far_is_of_machine (given c.steps_are_fed.ensures.passes c.reached_worlds_are_typed.ensures.worlds c.reached_worlds_are_typed.ensures.starts c.words_are_supplied.ensures.destructors c.steps_are_fed.ensures.copies)
