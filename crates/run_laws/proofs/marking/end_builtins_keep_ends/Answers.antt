-- Built-ins of streams and futures keep marks of ends.
use Rattle.run_laws.proofs.keeping.Ends.{end_builtins_keep_ends}
use Rattle.run_laws.proofs.marking.end_builtins_keep_ends.Goals as goal

pub returns : goal.returns
returns c = end_builtins_keep_ends
