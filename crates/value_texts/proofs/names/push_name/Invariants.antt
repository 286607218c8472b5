-- The characters so far are written.
use Rattle.std.proofs.Common.{◌≡◌, ◌++◌, flat_map}
use Rattle.syntax_trees.specs.NameText.{char_text}
use Rattle.value_texts.proofs.names.push_name.Given as goal

abbrev pub invariant-loop-c : goal.invariant-loop-c
invariant-loop-c l = l.text.items ≡ l.initial.text.items ++ flat_map char_text l.yielded
