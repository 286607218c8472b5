-- An entry more.
use Rattle.std.proofs.Common.{◌^◌}
use Rattle.step_tests.proofs.Adding.{added_few}
use Rattle.step_tests.proofs.entries.add_entry.Goals as goal

pub returns-in-Ok : goal.returns-in-Ok
returns-in-Ok c = added_few (2 ^ 63) c.args.instance.now c.add.new.self c.args.entry c.in-Ok.ensures.exact.2 c.requires.entry c.requires.most
