use Rattle.std.proofs.Common.{refl}
use Rattle.link_types.specs.declared.maker.InstanceTypeMaker.{InstanceTypeMaker}
use Rattle.link_types.proofs.TypesMade.{extern_more}
use Rattle.link_types.proofs.maker.InstanceTypeMaker.extend.Goals as goal

pub returns-clause-ok : goal.returns-clause-ok
returns-clause-ok c =
    let made : InstanceTypeMaker = record { layer = c.in_ok-layer.layer; externs = c.push.new.self; names_resource = c.names_behind-names_resource.result } in
    extern_more c.args.types.now c.layer-2.new.self c.args.self.now made c.args.name c.in_ok-layer.layer c.args.item c.layer.result c.layer-2.ensures.grows c.layer.ensures c.in_ok-layer.ensures.ok refl c.in_ok-push.ensures.ok c.names_behind-names_resource.ensures
