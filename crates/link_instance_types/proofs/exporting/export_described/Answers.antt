use Rattle.link_instance_types.proofs.Exported.{resource_exported, type_found}
use Rattle.link_instance_types.proofs.exporting.export_described.Goals as goal

pub returns-in_ok-next_resource-in-Resource-clause-ok : goal.returns-in_ok-next_resource-in-Resource-clause-ok
returns-in_ok-next_resource-in-Resource-clause-ok c = λ d h e.
    rw c.in-Resource.is (resource_exported c.args.types.now c.in_ok-next_resource-in-Resource.field-0 c.args.resources d.resources e (c.in_ok-next_resource-in-Resource.ensures c.args.types.now))

pub returns-in_ok-instance_described-in-Instance-clause-ok : goal.returns-in_ok-instance_described-in-Instance-clause-ok
returns-in_ok-instance_described-in-Instance-clause-ok c = λ d h e.
    rw (c.in-Instance.is, ← e) (c.in_ok-instance_described-in-Instance.ensures.ok _ (type_found c.args.types.now c.args.scope.now d.types c.in-Instance.index c.type_at-known.result c.type_at-known.ensures h))

pub returns-in-Func-clause-ok : goal.returns-in-Func-clause-ok
returns-in-Func-clause-ok c = λ d h e. rw c.in-Func.is (rw c.in-Func.is at (c.described.ensures c.args.types.now d.types h))

pub returns-in-TypeEq-clause-ok : goal.returns-in-TypeEq-clause-ok
returns-in-TypeEq-clause-ok c = λ d h e. rw c.in-TypeEq.is (rw c.in-TypeEq.is at (c.described-in-TypeEq.ensures c.args.types.now d.types h))
