use Rattle.std.proofs.Common.{rules}
use Rattle.choices.proofs.Turns.{drawn_stands}
use Rattle.choices.proofs.picks.Picks.pick.Goals as goal

pub returns-in-Some-clause-stands : goal.returns-in-Some-clause-stands
returns-in-Some-clause-stands c = drawn_stands c.args.alternatives c.args.self.now _ (search rules)

pub returns-in-None-clause-stands : goal.returns-in-None-clause-stands
returns-in-None-clause-stands c = drawn_stands c.args.alternatives c.args.self.now _ (search rules)
