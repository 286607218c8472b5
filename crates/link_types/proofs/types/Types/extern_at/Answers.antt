use Rattle.link_types.proofs.TypesTold.{entry_at}
use Rattle.link_types.proofs.types.Types.extern_at.Goals as goal

pub returns : goal.returns
returns c = entry_at c.args.self.now c.args.instance_type c.listing.result.now c.listing.ensures c.args.at c.get.result c.get.ensures
