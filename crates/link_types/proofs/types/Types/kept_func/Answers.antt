use Rattle.std.proofs.Common.{◌≡◌, subst, rules}
use Rattle.std.specs.Ordering.{nat_cmp}
use Rattle.std.specs.BTreeMap.{get}
use Rattle.link_types.specs.Kept.{IsKept}
use Rattle.link_types.proofs.TypesMade.{func_found}
use Rattle.link_types.proofs.types.Types.kept_func.Goals as goal

pub returns : goal.returns
returns c =
    let found : c.copied.result ≡ get nat_cmp c.self.inside.func_numbers c.args.layer = search rules in
    func_found c.args.self.now c.self.inside.func_numbers c.self.inside.numbered.items c.args.layer c.copied.result (subst (IsKept c.self.inside.func_numbers c.self.inside.numbered.items) c.self.view_is c.self.invariant) found
