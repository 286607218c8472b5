-- The fields so far are numbered, over a table that has grown.
use Rattle.std.proofs.Common.{List, map, Option, Some}
use Rattle.comp_graph.specs.Closed.{Closed}
use Rattle.link_spec.specs.ValueTypes.{close_field}
use Rattle.laid_types.specs.declared.layer.LabelledPart.{LabelledPart}
use Rattle.laid_types.specs.Layers.{AreThere}
use Rattle.link_types.specs.Table.{Grows}
use Rattle.link_meanings.specs.Levels.{AreTypes, enclosed_types}
use Rattle.link_meanings.specs.Numbered.{IsField}
use Rattle.link_meanings.proofs.Closing.{IsFoundSoFar}
use Rattle.link_meanings.proofs.numbered.numbered_fields.Given as goal

abbrev pub invariant-loop-field : goal.invariant-loop-field
invariant-loop-field l =
    Grows l.fn.types l.types
    × AreThere l.types.values (map (λ (f : LabelledPart). Some f.number) l.all.items)
    × ((closed : List (Option Closed)) → AreTypes l.fn.types (enclosed_types l.scope) closed → IsFoundSoFar (IsField l.types.values) (close_field closed) l.fields l.all.items l.field-index)
