-- Moves keep all marks.
use Rattle.run_laws.proofs.keeping.Going.{arrives_marks, enters_marks, leaves_marks}
use Rattle.run_laws.proofs.keeping.Loops.{loops_marks}
use Rattle.run_laws.proofs.keeping.Resuming.{resuming_marks}
use Rattle.run_laws.proofs.keeping.Script.{ending_marks, returned_marks, gone_on_marks, goes_on_marks, call_taken_marks, call_cancelled_marks}
use Rattle.run_laws.proofs.marking.moves_keep_all_marks.Goals as goal

pub returns : goal.returns
returns c = record {
  arriving = λ h runs. arrives_marks h runs;
  entering = λ t h runs free. enters_marks t h runs free;
  leaving = λ h runs one. leaves_marks h runs one;
  looping = λ t word h runs one once. loops_marks t word h runs one once;
  resuming = resuming_marks;
  ending = λ t h. ending_marks t h;
  returning = λ t value h. returned_marks t value h;
  going_on = λ t h. (gone_on_marks t h, goes_on_marks h);
  next_call = λ export instance kind name args h numbers. call_taken_marks export instance kind name args h numbers;
  cancelled = λ call h runs. call_cancelled_marks call h runs;
}
