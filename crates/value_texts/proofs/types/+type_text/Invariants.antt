-- What is written so far, and what is left.
use Rattle.std.proofs.Common.{◌≡◌, ◌++◌, drop, map}
use Rattle.syntax_trees.specs.TypeText.{type_text, field_text, case_text}
use Rattle.value_texts.proofs.Separated.{following}
use Rattle.value_texts.proofs.types.+type_text.Given as goal

abbrev pub invariant-push_fields-loop-field : goal.invariant-push_fields-loop-field
invariant-push_fields-loop-field l = l.to.items ++ following (map field_text (drop l.field-index l.others)) ≡ l.initial.to.items ++ following (map field_text l.others)

abbrev pub invariant-push_cases-loop-case : goal.invariant-push_cases-loop-case
invariant-push_cases-loop-case l = l.to.items ++ following (map case_text (drop l.case-index l.others)) ≡ l.initial.to.items ++ following (map case_text l.others)

abbrev pub invariant-push_parts-loop-part : goal.invariant-push_parts-loop-part
invariant-push_parts-loop-part l = l.to.items ++ following (map type_text (drop l.part-index l.others)) ≡ l.initial.to.items ++ following (map type_text l.others)
