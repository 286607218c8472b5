use Rattle.std.proofs.Common.{rules, ◌<◌, length}
use Rattle.canon_hosts.proofs.Listing.{one_more_type}
use Rattle.canon_hosts.proofs.canon_types.canon_func_types.Goals as goal

-- the next type
pub loop-number-preserved : goal.loop-number-preserved
loop-number-preserved c =
    let within : c.loop-number.number < length c.args.graph.now.canons = search rules in
    one_more_type c.args.graph.now.canons c.loop-number.types.items c.push.new.self.items c.in_ok-of_canon.of_canon c.loop-number.number
    within c.loop-number.invariant c.in_ok-of_canon.ensures c.in_ok-push.ensures.items
