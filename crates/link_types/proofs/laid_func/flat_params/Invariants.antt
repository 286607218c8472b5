-- The core types of the parameters so far.
use Rattle.link_types.proofs.FuncsLaid.{FlatSoFar}
use Rattle.link_types.proofs.laid_func.flat_params.Given as goal

abbrev pub invariant-loop-param : goal.invariant-loop-param
invariant-loop-param l = FlatSoFar l.values l.params l.param-index l.types.items
