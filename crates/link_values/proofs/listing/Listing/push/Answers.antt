use Rattle.std.specs.Ordering.{nat_cmp}
use Rattle.std.specs.BTreeMap.{get}
use Rattle.link_values.proofs.Listings.{push_named}
use Rattle.link_values.proofs.listing.Listing.push.Goals as goal

pub invariant_of-self-2 : goal.invariant_of-self-2
invariant_of-self-2 g c =
    push_named c.self.inside.entries.items c.reserve.new.self.items c.push_reserved.new.self.items c.args.name c.args.item (get nat_cmp c.self.inside.first) (get nat_cmp c.keep_first.new.first) c.self.invariant c.reserve.ensures.items c.push_reserved.ensures.items c.in_ok-keep_first.ensures.ok
