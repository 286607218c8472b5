use Rattle.run_laws.proofs.supplied.Canons.{calls_supplied}
use Rattle.run_laws.proofs.supplied.Moves.{instantiates_supplied, arrives_supplied, goes_supplied, resumes_supplied, back_supplied, leaves_supplied}
use Rattle.run_laws.proofs.supplying.rests_are_supplied.Goals as goal

pub returns : goal.returns
returns c = record {
  instantiates = instantiates_supplied;
  arrives = arrives_supplied;
  goes = goes_supplied;
  resumes = resumes_supplied;
  back = back_supplied;
  calls = calls_supplied;
  leaves = leaves_supplied;
}
