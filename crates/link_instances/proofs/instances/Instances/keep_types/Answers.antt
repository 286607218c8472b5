use Rattle.std.proofs.Common.{◌≡◌, length, refl, rules}
use Rattle.link_instances.proofs.TypesKept.{types_kept}
use Rattle.link_instances.proofs.instances.Instances.keep_types.Goals as goal

pub returns-clause-ok : goal.returns-clause-ok
returns-clause-ok c = λ t w externs h asked types is.
    let i = c.args.self.now in
    let number : c.len-base.result ≡ length i.bases.items = search rules in
    types_kept t w i (record i { bases = c.push_reserved.new.self; of_types = c.insert.new.self }) c.args.instance_type c.args.listing externs c.len-base.result number
    (search (rules, c.reserve.ensures.items, c.push_reserved.ensures.items)) refl c.in_ok-insert.ensures.updates h asked types is
