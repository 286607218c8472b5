-- What is written so far, and the labels that are left.
use Rattle.std.proofs.Common.{◌≡◌, ◌++◌, drop, map}
use Rattle.syntax_trees.specs.NameText.{name_text}
use Rattle.syntax_trees.specs.TypeText.{listed}
use Rattle.syntax_trees.specs.ValueText.{set_labels}
use Rattle.value_texts.proofs.Separated.{continued}
use Rattle.value_texts.proofs.values.push_flags.Given as goal

abbrev pub invariant-loop-i : goal.invariant-loop-i
invariant-loop-i l = l.to.items ++ continued l.is_first (set_labels (map name_text (drop l.i l.labels)) (drop l.i l.flags)) ≡ l.initial.to.items ++ listed (set_labels (map name_text l.labels) l.flags)
