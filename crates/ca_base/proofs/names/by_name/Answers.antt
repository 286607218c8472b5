use Rattle.std.proofs.Common.{arith}
use Rattle.syntax_trees.proofs.FirstNamed.{old_named, new_named}
use Rattle.ca_base.proofs.names.by_name.Goals as goal

pub loop-at-preserved-then-contains_key : goal.loop-at-preserved-then-contains_key
loop-at-preserved-then-contains_key g c =
    old_named _ _ _ _ _ _ _ c.loop-at.invariant (omega arith) c.index-items-at.is c.name-name.ensures c.contains_key.ensures c.if-contains_key.true

pub loop-at-preserved : goal.loop-at-preserved
loop-at-preserved g c =
    new_named _ _ _ _ _ _ _ _ c.loop-at.invariant (omega arith) c.index-items-at.is c.name-name.ensures c.contains_key.ensures c.if-contains_key.false c.in_ok-insert.ensures.updates
