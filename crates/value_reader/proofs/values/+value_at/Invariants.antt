-- The values so far, and those that are read behind them.
use Rattle.std.proofs.Common.{◌≡◌, ◌-◌, [], length, map, drop}
use Rattle.value_reader.specs.Values.{reader, field_reader, values_at, values_from, elements_from}
use Rattle.value_reader.proofs.values.+value_at.Given as goal

abbrev pub invariant-fields_at-loop-field : goal.invariant-fields_at-loop-field
invariant-fields_at-loop-field l = values_at 125 (map field_reader l.fields) l.initial.text ≡ values_from 125 l.values (map field_reader (drop l.field-index l.fields)) l.text

abbrev pub invariant-parts_at-loop-part : goal.invariant-parts_at-loop-part
invariant-parts_at-loop-part l = values_at 41 (map reader l.parts) l.initial.text ≡ values_from 41 l.values (map reader (drop l.part-index l.parts)) l.text

abbrev pub invariant-elements_at-loop-place : goal.invariant-elements_at-loop-place
invariant-elements_at-loop-place l =
    elements_from (reader l.element) (length l.initial.text) [] l.initial.text ≡ elements_from (reader l.element) (l.count - l._place) l.values l.text
