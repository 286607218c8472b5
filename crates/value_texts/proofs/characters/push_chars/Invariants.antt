-- The characters so far are written.
use Rattle.std.proofs.Common.{◌≡◌, ◌++◌, flat_map}
use Rattle.syntax_trees.specs.CharText.{char_text}
use Rattle.value_texts.proofs.characters.push_chars.Given as goal

abbrev pub invariant-loop-c : goal.invariant-loop-c
invariant-loop-c l = l.to.items ≡ l.initial.to.items ++ flat_map (char_text 34) l.yielded
