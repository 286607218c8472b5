use Rattle.std.proofs.Common.{sym, ◌∙◌, ap, length}
use Rattle.link_spec.specs.Definitions.{Exports}
use Rattle.link_instances.specs.References.{listed}
use Rattle.link_instances.proofs.InOrder.{plain_long, seen_long, of_type}
use Rattle.link_instances.proofs.instances.Instances.export_count.Goals as goal

pub returns-in-None : goal.returns-in-None
returns-in-None c = λ w exports h i.
    plain_long c.args.types.now w c.args.self.now.bases.items h.bases c.args.instance exports i c.in-None.is c.base_count.result c.base_count.ensures

pub returns-in-Some : goal.returns-in-Some
returns-in-Some c = λ w exports h i.
    let p = of_type c.args.types.now w c.args.instance exports i c.in-Some.instance_type c.in-Some.is in
    c.asked_count.ensures p.0 p.1 ∙ seen_long i.base p.0 p.2 ∙ ap (λ (e : Exports). length (listed e)) (sym p.3)
