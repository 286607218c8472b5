use Rattle.wasm_numbers.proofs.Results.{operands_taken, results_typed}
use Rattle.wasm_numbers.proofs.laws.results_have_their_type.Goals as goal

pub returns-clause-operands : goal.returns-clause-operands
returns-clause-operands c = operands_taken

pub returns-clause-results : goal.returns-clause-results
returns-clause-results c = results_typed
