use Rattle.run_laws.proofs.Canons.{names_are_alike, flags_are_alike, options_are_alike, leave_is_alike}
use Rattle.run_laws.proofs.dispatch.canons_alike.Goals as goal

pub returns : goal.returns
returns c = record { names = names_are_alike; flags = flags_are_alike; options = options_are_alike; leave = leave_is_alike }
