use Rattle.link_instances.proofs.Views.{seen_named, exports_twice, as_twice, exports_fit, as_fits}
use Rattle.link_instances.proofs.laws.instances_are_seen.Goals as goal

pub returns : goal.returns
returns c = record { named = seen_named; exports_twice = exports_twice; twice = as_twice; exports_fit = exports_fit; fits = as_fits }
