use Rattle.link_spec.specs.Types.{absent}
use Rattle.link_types.specs.Table.{IsExtern}
use Rattle.link_instance_types.proofs.Declares.{absent_stands}
use Rattle.link_instance_types.proofs.declaring.Declared.add_alias.Goals as goal

pub returns-in_ok-add_exported-in-InstanceExport-clause-ok : goal.returns-in_ok-add_exported-in-InstanceExport-clause-ok
returns-in_ok-add_exported-in-InstanceExport-clause-ok c = λ closures levels d a h. rw c.in-InstanceExport.is (c.in_ok-add_exported-in-InstanceExport.ensures.ok closures d h)

pub returns-in_ok-declare-in-CoreInstanceExport-clause-ok : goal.returns-in_ok-declare-in-CoreInstanceExport-clause-ok
returns-in_ok-declare-in-CoreInstanceExport-clause-ok c = λ closures levels d a h.
    rw c.in-CoreInstanceExport.is
    (c.in_ok-declare-in-CoreInstanceExport.ensures c.args.types.now closures d absent h (absent_stands (IsExtern c.args.types.now) c.absent.result c.absent.ensures))
