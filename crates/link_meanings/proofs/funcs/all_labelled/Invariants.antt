-- The parameters so far are labelled, over a table that has grown.
use Rattle.std.proofs.Common.{List, Option}
use Rattle.comp_graph.specs.Closed.{Closed}
use Rattle.link_spec.specs.Types.{close_param}
use Rattle.link_types.specs.Labels.{HaveTypes, IsParam}
use Rattle.link_types.specs.Table.{Grows}
use Rattle.link_meanings.specs.Levels.{AreTypes, enclosed_types}
use Rattle.link_meanings.proofs.Closing.{IsFoundSoFar}
use Rattle.link_meanings.proofs.funcs.all_labelled.Given as goal

abbrev pub invariant-loop-param : goal.invariant-loop-param
invariant-loop-param l =
    Grows l.fn.types l.types
    × HaveTypes l.types.values l.all.items
    × ((closed : List (Option Closed)) → AreTypes l.fn.types (enclosed_types l.scope) closed → IsFoundSoFar (IsParam l.types.values) (close_param closed) l.params l.all.items l.param-index)
