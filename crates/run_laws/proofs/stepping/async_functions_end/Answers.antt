use Rattle.run_laws.proofs.AsyncEnds.{async_function_ends}
use Rattle.run_laws.proofs.stepping.async_functions_end.Goals as goal

pub returns : goal.returns
returns c = async_function_ends
