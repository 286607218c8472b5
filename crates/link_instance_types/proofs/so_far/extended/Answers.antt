use Rattle.std.proofs.Common.{subst, Option}
use Rattle.link_values.specs.declared.refs.ExternRef.{ExternRef}
use Rattle.link_types.specs.declared.maker.InstanceTypeMaker.{InstanceTypeMaker}
use Rattle.link_types.specs.Table.{IsExtern}
use Rattle.link_types.specs.Begun.{IsBegun}
use Rattle.link_meanings.specs.Meant.{IsFoundAs}
use Rattle.link_instance_types.proofs.Telling.{extended_some}
use Rattle.link_instance_types.proofs.so_far.extended.Goals as goal

pub returns-clause-ok : goal.returns-clause-ok
returns-clause-ok c = λ name extern others h n k.
    extended_some c.args.types.now c.extend.new.types c.in-Some-before.maker c.extend.new.self c.args.number c.in-Some.item name extern others c.in_ok-extend.ensures.ok
    (subst (λ (o : Option InstanceTypeMaker). IsFoundAs (IsBegun c.args.types.now) o others) c.in-Some-before.is h) n
    (subst (λ (o : Option ExternRef). IsFoundAs (IsExtern c.args.types.now) o extern) c.in-Some.is k)
