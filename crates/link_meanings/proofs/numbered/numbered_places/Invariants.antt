-- The places so far are numbered, over a table that has grown.
use Rattle.std.proofs.Common.{List, map, Option, Some}
use Rattle.comp_graph.specs.Closed.{Closed}
use Rattle.link_spec.specs.ValueTypes.{close_val}
use Rattle.laid_types.specs.Layers.{AreThere}
use Rattle.link_types.specs.Table.{Grows}
use Rattle.link_meanings.specs.Levels.{AreTypes, enclosed_types}
use Rattle.link_meanings.specs.Numbered.{IsPlace}
use Rattle.link_meanings.proofs.Closing.{IsFoundSoFar}
use Rattle.link_meanings.proofs.numbered.numbered_places.Given as goal

abbrev pub invariant-loop-place : goal.invariant-loop-place
invariant-loop-place l =
    Grows l.fn.types l.types
    × AreThere l.types.values (map Some l.all.items)
    × ((closed : List (Option Closed)) → AreTypes l.fn.types (enclosed_types l.scope) closed → IsFoundSoFar (IsPlace l.types.values) (close_val closed) l.places l.all.items l.place-index)
