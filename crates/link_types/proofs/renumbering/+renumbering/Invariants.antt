-- The fields, the cases and the places so far are made again, over a table that has grown.
use Rattle.std.proofs.Common.{take}
use Rattle.std.specs.List.{AllZip}
use Rattle.link_types.specs.Changes.{change_of}
use Rattle.link_types.specs.Table.{Grows}
use Rattle.link_types.proofs.Renumbered.{IsNewField, IsNewCase, IsNewPlace}
use Rattle.link_types.proofs.renumbering.+renumbering.Given as goal

abbrev pub invariant-changed_record-loop-field : goal.invariant-changed_record-loop-field
invariant-changed_record-loop-field l =
    Grows l.fn.types l.types × AllZip (IsNewField (change_of l.how.change l.how.depth) l.types.values) l.parts.items (take l.field-index l.fields)

abbrev pub invariant-changed_variant-loop-case : goal.invariant-changed_variant-loop-case
invariant-changed_variant-loop-case l =
    Grows l.fn.types l.types × AllZip (IsNewCase (change_of l.how.change l.how.depth) l.types.values) l.parts.items (take l.case-index l.cases)

abbrev pub invariant-changed_tuple-loop-place : goal.invariant-changed_tuple-loop-place
invariant-changed_tuple-loop-place l =
    Grows l.fn.types l.types × AllZip (IsNewPlace (change_of l.how.change l.how.depth) l.types.values) l.parts.items (take l.place-index l.places)
