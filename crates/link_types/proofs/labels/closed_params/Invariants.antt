-- The parameters so far.
use Rattle.std.proofs.Common.{take}
use Rattle.std.specs.List.{AllZip}
use Rattle.link_types.specs.Labels.{IsParam}
use Rattle.link_types.proofs.labels.closed_params.Given as goal

abbrev pub invariant-loop-param : goal.invariant-loop-param
invariant-loop-param l = AllZip (IsParam l.values) (take l.param-index l.params) l.closed
