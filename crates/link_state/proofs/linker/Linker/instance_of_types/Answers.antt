use Rattle.std.proofs.Common.{refl}
use Rattle.link_spec.specs.Definitions.{types_of}
use Rattle.link_state.specs.State.{world_of}
use Rattle.link_state.proofs.States.{instance_given}
use Rattle.link_state.proofs.linker.Linker.instance_of_types.Goals as goal

pub returns-clause-made : goal.returns-clause-made
returns-clause-made c bases l externs h asked types =
    let k = c.args.self.now in
    instance_given bases k (record k { instances = c.of_types.new.self }) l c.in_ok-made.made (types_of externs) refl (c.in_ok-made.ensures.ok (world_of bases k) externs h.instances asked types) h
