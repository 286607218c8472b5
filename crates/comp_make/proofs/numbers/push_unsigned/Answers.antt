-- Each byte leaves what is left of the number.
use Rattle.std.proofs.Common.{rules, ◌-◌, ◌∙◌, arith}
use Rattle.comp_make.proofs.Leb.{unsigned_last, unsigned_step, unsigned_over}
use Rattle.comp_make.proofs.numbers.push_unsigned.Goals as goal

pub returns-then-rest-lt128 : goal.returns-then-rest-lt128
returns-then-rest-lt128 c = unsigned_last c.loop-index._index c.loop-index.rest c.loop-index.to.items _ _ (omega arith) (omega arith) (search rules) c.loop-index.invariant

pub loop-index-preserved : goal.loop-index-preserved
loop-index-preserved c = unsigned_step c.loop-index._index c.loop-index.rest c.loop-index.to.items _ (omega arith) (omega arith) (search rules) ∙ c.loop-index.invariant

pub returns : goal.returns
returns c = unsigned_over (10 - c.loop-index._index) c.loop-index.rest _ _ (omega arith) c.loop-index.invariant
