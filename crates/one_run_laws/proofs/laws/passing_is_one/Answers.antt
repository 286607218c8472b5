-- What is passed is told by what is kept.
use Rattle.one_run_laws.proofs.Passed.{passes_once}
use Rattle.one_run_laws.proofs.laws.passing_is_one.Goals as goal

pub returns : goal.returns
returns c = λ p distinct. passes_once p distinct
