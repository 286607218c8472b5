-- What is written, and what is left to write, are the number.
use Rattle.std.proofs.Common.{◌≡◌, ◌++◌, ◌-◌}
use Rattle.comp_make.specs.Numbers.{signed_in}
use Rattle.comp_make.proofs.numbers.push_with_sign.Given as goal

abbrev pub invariant-loop-index : goal.invariant-loop-index
invariant-loop-index l = l.to.items ++ signed_in l.negative (10 - l._index) l.rest ≡ l.initial.to.items ++ signed_in l.negative 10 l.initial.rest
