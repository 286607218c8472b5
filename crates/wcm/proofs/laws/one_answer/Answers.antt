use Rattle.wcm.proofs.Existing.{some_answer}
use Rattle.wcm.proofs.Rows.{one_answer}
use Rattle.wcm.proofs.laws.one_answer.Goals as goal

pub returns : goal.returns
returns c = record {
  one = one_answer c.one_run.ensures.one c.runs_are_one.ensures.one;
  some = some_answer c.one_reading.ensures c.graphs_are_computed.ensures.one c.read_runs_have_one_next.ensures.run;
}
