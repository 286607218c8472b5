-- The characters so far are written, and those to come are of ASCII.
use Rattle.std.proofs.Common.{◌≡◌, ◌<◌, ◌++◌, All}
use Rattle.std.specs.Char.Iter.{escape_rest}
use Rattle.std.specs.Char.Escape.{escape_unicode}
use Rattle.value_texts.proofs.characters.push_code.Given as goal

abbrev pub invariant-loop-letter : goal.invariant-loop-letter
invariant-loop-letter l = (l.to.items ++ escape_rest l.letter-iterator ≡ l.initial.to.items ++ escape_unicode l.fn.c) × All (λ letter. letter < 128) (escape_rest l.letter-iterator)
