use Rattle.run_laws.proofs.onward.Leaving.{runs_leave_dumps}
use Rattle.run_laws.proofs.onward.Whole.{IsGiven, given, runs_are_of_machine, runs_leave_worlds}
use Rattle.run_laws.proofs.carried.runs_are_of_machine.Goals as goal

pub returns : goal.returns
returns c =
    let laws : IsGiven = given c.steps_are_fed.ensures.passes c.reached_worlds_are_typed.ensures.worlds c.reached_worlds_are_typed.ensures.starts c.words_are_supplied.ensures.destructors c.steps_are_fed.ensures.copies in
    record { lines = runs_are_of_machine laws; left = runs_leave_worlds laws; dumps = runs_leave_dumps laws }
