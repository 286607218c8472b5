use Rattle.link_instances.proofs.InOrder.{plain_entry}
use Rattle.link_instances.proofs.instances.Instances.export_at.Goals as goal

pub returns-in-None : goal.returns-in-None
returns-in-None c = λ w exports h i.
    plain_entry c.args.types.now w c.args.self.now.bases.items h.bases c.args.instance exports i c.in-None.is c.args.at c.base_at.result c.base_at.ensures
