-- The cases so far are numbered, over a table that has grown.
use Rattle.std.proofs.Common.{List, map, Option}
use Rattle.comp_graph.specs.Closed.{Closed}
use Rattle.link_spec.specs.ValueTypes.{close_case}
use Rattle.laid_types.specs.declared.layer.LabelledCase.{LabelledCase}
use Rattle.laid_types.specs.Layers.{AreThere}
use Rattle.link_types.specs.Table.{Grows}
use Rattle.link_meanings.specs.Levels.{AreTypes, enclosed_types}
use Rattle.link_meanings.specs.Numbered.{IsCase}
use Rattle.link_meanings.proofs.Closing.{IsFoundSoFar}
use Rattle.link_meanings.proofs.numbered.numbered_cases.Given as goal

abbrev pub invariant-loop-case : goal.invariant-loop-case
invariant-loop-case l =
    Grows l.fn.types l.types
    × AreThere l.types.values (map (λ (c : LabelledCase). c.payload) l.all.items)
    × ((closed : List (Option Closed)) → AreTypes l.fn.types (enclosed_types l.scope) closed → IsFoundSoFar (IsCase l.types.values) (close_case closed) l.cases l.all.items l.case-index)
