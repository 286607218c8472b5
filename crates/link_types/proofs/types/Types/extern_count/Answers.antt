use Rattle.link_types.proofs.TypesTold.{count_at}
use Rattle.link_types.proofs.types.Types.extern_count.Goals as goal

pub returns : goal.returns
returns c = count_at c.args.self.now c.args.instance_type c.listing.result.now c.listing.ensures c.len.result c.len.ensures
