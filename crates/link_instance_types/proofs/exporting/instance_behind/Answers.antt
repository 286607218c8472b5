use Rattle.link_instance_types.proofs.Exported.{instance_exported}
use Rattle.link_instance_types.proofs.exporting.instance_behind.Goals as goal

pub returns-in_ok-moved-in-Instance-clause-ok : goal.returns-in_ok-moved-in-Instance-clause-ok
returns-in_ok-moved-in-Instance-clause-ok c = λ type k.
    instance_exported c.args.types.now c.moved_extern.new.types c.args.resources c.in-Instance.instance_type c.in_ok-moved-in-Instance.moved c.in_ok-moved-in-Instance.ensures.ok type (rw c.in-Instance.is at k)
