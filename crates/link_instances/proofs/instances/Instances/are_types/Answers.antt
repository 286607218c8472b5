use Rattle.std.proofs.Common.{sym, ◌∙◌}
use Rattle.link_instances.proofs.TypesKept.{kept_types}
use Rattle.link_instances.proofs.instances.Instances.are_types.Goals as goal

pub returns-in-Some : goal.returns-in-Some
returns-in-Some c = λ w externs h asked.
    let kept = h.of_types c.args.instance_type c.in-Some.field-0 (sym c.base_of.ensures ∙ c.in-Some.is) in
    sym (kept_types c.args.types.now c.are_distinct.ensures w c.args.instance_type c.in-Some.field-0 externs kept asked).0
