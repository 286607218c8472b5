use Rattle.run_laws.proofs.supplied.Fitting.{calls_pass, waits_stand_inside, reps_are_passed}
use Rattle.run_laws.proofs.supplying.words_are_supplied.Goals as goal

pub returns : goal.returns
returns c = record {
  calls = calls_pass c.steps_are_fed.ensures.passes;
  waits = waits_stand_inside c.reached_worlds_are_typed.ensures.worlds;
  destructors = reps_are_passed c.calls_stay_fit.ensures.first c.calls_stay_fit.ensures.calls c.steps_are_fed.ensures.words;
}
