-- The layer so far stands for the parameters from this place on.
use Rattle.std.proofs.Common.{◌≤◌, length, drop, List}
use Rattle.std.specs.List.{AllZip}
use Rattle.syntax_trees.specs.declared.types.Param.{Param}
use Rattle.link_types.specs.Layered.{IsParams}
use Rattle.link_types.specs.Labels.{IsParam}
use Rattle.link_types.specs.Table.{Grows}
use Rattle.link_types.proofs.types.Types.params.Given as goal

abbrev pub invariant-loop-at : goal.invariant-loop-at
invariant-loop-at l =
    (l.at ≤ length l.params)
    × ((all : List Param) → AllZip (IsParam l.fn.self.values) (drop l.at l.params) all → IsParams l.self.texts l.self.values l.self.layers l.others all)
    × Grows l.fn.self l.self

abbrev pub decreases-loop-at : goal.decreases-loop-at
decreases-loop-at l = l.at
