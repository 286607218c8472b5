use Rattle.run_laws.proofs.Copied.{elements_go_over}
use Rattle.run_laws.proofs.running.elements_go_over.Goals as goal

pub returns : goal.returns
returns c = elements_go_over
