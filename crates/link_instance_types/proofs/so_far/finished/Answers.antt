use Rattle.std.proofs.Common.{subst, Option}
use Rattle.link_types.specs.declared.maker.InstanceTypeMaker.{InstanceTypeMaker}
use Rattle.link_types.specs.Begun.{IsBegun}
use Rattle.link_meanings.specs.Meant.{IsFoundAs}
use Rattle.link_instance_types.proofs.Telling.{made_some}
use Rattle.link_instance_types.proofs.so_far.finished.Goals as goal

pub returns-clause-ok : goal.returns-clause-ok
returns-clause-ok c = λ externs h.
    made_some c.args.types.now c.finish.new.types c.in-Some.maker c.in_ok-finish.field-0 externs c.in_ok-finish.ensures.ok
    (subst (λ (o : Option InstanceTypeMaker). IsFoundAs (IsBegun c.args.types.now) o externs) c.in-Some.is h)
