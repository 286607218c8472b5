-- Each byte leaves what is left of the number.
use Rattle.std.proofs.Common.{rules, ◌-◌, ◌∙◌, arith}
use Rattle.comp_make.proofs.Leb.{signed_last, signed_step, signed_over}
use Rattle.comp_make.proofs.numbers.push_with_sign.Goals as goal

pub returns-then-rest-lt64 : goal.returns-then-rest-lt64
returns-then-rest-lt64 c = signed_last c.args.negative c.loop-index._index c.loop-index.rest c.loop-index.to.items _ _ (omega arith) (omega arith) (search rules) c.loop-index.invariant

pub loop-index-preserved : goal.loop-index-preserved
loop-index-preserved c = signed_step c.args.negative c.loop-index._index c.loop-index.rest c.loop-index.to.items _ (omega arith) (omega arith) (search rules) ∙ c.loop-index.invariant

pub returns : goal.returns
returns c = signed_over c.args.negative (10 - c.loop-index._index) c.loop-index.rest _ _ (omega arith) c.loop-index.invariant
