-- No parameter so far holds a string or a list.
use Rattle.laid_types.specs.Lists.{has_list}
use Rattle.link_types.proofs.FuncsLaid.{NoneSoFar}
use Rattle.link_types.proofs.laid_func.hold_list.Given as goal

abbrev pub invariant-loop-param : goal.invariant-loop-param
invariant-loop-param l = NoneSoFar l.values l.params has_list l.param-index
