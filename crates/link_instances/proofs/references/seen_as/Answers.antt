use Rattle.std.proofs.Common.{subst}
use Rattle.link_values.specs.declared.refs.ExternRef.{ExternRef}
use Rattle.link_values.specs.declared.refs.ExternRef.TheVariants as extern_ref
use Rattle.link_instances.specs.declared.references.DefinitionRef.{DefinitionRef}
use Rattle.link_instances.specs.declared.references.DefinitionRef.TheVariants as definition_ref
use Rattle.link_types.specs.Table.{IsExtern}
use Rattle.link_instances.specs.References.{Stands}
use Rattle.link_instances.proofs.Standing.{stands_seen}
use Rattle.link_instances.proofs.references.seen_as.Goals as goal

pub returns-in-Instance-Instance-clause-stands : goal.returns-in-Instance-Instance-clause-stands
returns-in-Instance-Instance-clause-stands c = λ t w d x h k fit.
    stands_seen t w (definition_ref.Instance c.in-Instance-Instance.instance) (extern_ref.Instance c.in-Instance-Instance.instance_type) d x
    (subst (λ (given : DefinitionRef). Stands t w given d) c.in-Instance-Instance.is-0 h)
    (subst (λ (asked : ExternRef). IsExtern t asked x) c.in-Instance-Instance.is-1 k)
    fit
