use Rattle.std.proofs.Common.{subst}
use Rattle.link_types.specs.Kept.{IsKept}
use Rattle.link_types.proofs.TypesTold.{named_at}
use Rattle.link_types.proofs.types.Types.extern_named.Goals as goal

pub returns : goal.returns
returns c =
    let d = (subst (IsKept c.self.inside.func_numbers c.self.inside.numbered.items) c.self.view_is c.self.invariant).distinct in
    named_at c.args.self.now c.args.instance_type c.listing.result.now c.listing.ensures d c.args.name c.find.result c.find.ensures
