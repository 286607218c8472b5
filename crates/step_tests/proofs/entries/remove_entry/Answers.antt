-- An entry less.
use Rattle.std.proofs.Common.{◌^◌}
use Rattle.step_tests.proofs.Adding.{removed_few}
use Rattle.step_tests.proofs.entries.remove_entry.Goals as goal

pub returns : goal.returns
returns c = removed_few (2 ^ 63) c.args.instance.now c.remove.new.self c.args.index c.remove.result c.remove.ensures.exact c.requires
