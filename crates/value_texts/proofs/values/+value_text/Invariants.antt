-- What is written so far, and what is left.
use Rattle.std.proofs.Common.{◌≡◌, ◌++◌, drop, map}
use Rattle.syntax_trees.specs.ValueText.{writer, field_writer, by_label, by_each}
use Rattle.value_texts.proofs.Separated.{following}
use Rattle.value_texts.proofs.values.+value_text.Given as goal

abbrev pub invariant-push_fields-loop-i : goal.invariant-push_fields-loop-i
invariant-push_fields-loop-i l = l.to.items ++ following (by_label (drop l.i l.values) (map field_writer (drop l.i l.fields))) ≡ l.initial.to.items ++ following (by_label l.values (map field_writer l.fields))

abbrev pub invariant-push_parts-loop-place : goal.invariant-push_parts-loop-place
invariant-push_parts-loop-place l = l.to.items ++ following (by_each (drop l.place l.values) (map writer (drop l.place l.parts))) ≡ l.initial.to.items ++ following (by_each l.values (map writer l.parts))

abbrev pub invariant-push_elements-loop-value : goal.invariant-push_elements-loop-value
invariant-push_elements-loop-value l = l.to.items ++ following (map (writer l.element) (drop l.value-index l.others)) ≡ l.initial.to.items ++ following (map (writer l.element) l.others)
