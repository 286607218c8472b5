-- No parameter so far names a resource.
use Rattle.link_types.proofs.FuncsLaid.{NoneSoFar}
use Rattle.link_types.proofs.NamedResources.{names_any}
use Rattle.link_types.proofs.laid_func.params_name.Given as goal

abbrev pub invariant-loop-param : goal.invariant-loop-param
invariant-loop-param l = NoneSoFar l.values l.params names_any l.param-index
