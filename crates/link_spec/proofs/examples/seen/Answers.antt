use Rattle.std.specs.Prelude.{codes}
use Rattle.link_spec.specs.Examples.{giving_both}
use Rattle.link_spec.proofs.Samples.{linked_inside, asked, not_asked}
use Rattle.link_spec.proofs.examples.seen.Goals as goal

pub returns-clause-asked : goal.returns-clause-asked
returns-clause-asked c = linked_inside (giving_both (codes "a")) _ asked

pub returns-clause-not_asked : goal.returns-clause-not_asked
returns-clause-not_asked c = linked_inside (giving_both (codes "b")) _ not_asked
