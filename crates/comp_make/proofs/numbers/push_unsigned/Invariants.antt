-- What is written, and what is left to write, are the number.
use Rattle.std.proofs.Common.{◌≡◌, ◌++◌, ◌-◌}
use Rattle.comp_make.specs.Numbers.{unsigned_in}
use Rattle.comp_make.proofs.numbers.push_unsigned.Given as goal

abbrev pub invariant-loop-index : goal.invariant-loop-index
invariant-loop-index l = l.to.items ++ unsigned_in (10 - l._index) l.rest ≡ l.initial.to.items ++ unsigned_in 10 l.initial.rest
