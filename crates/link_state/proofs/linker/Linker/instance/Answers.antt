use Rattle.std.proofs.Common.{refl}
use Rattle.link_state.specs.State.{world_of}
use Rattle.link_state.proofs.States.{instance_more}
use Rattle.link_state.proofs.linker.Linker.instance.Goals as goal

pub returns-clause-made : goal.returns-clause-made
returns-clause-made c bases l exports h is = c.in_ok-made.ensures.ok c.args.self.now.types (world_of bases c.args.self.now) exports h.instances is

pub returns-clause-state : goal.returns-clause-state
returns-clause-state c bases l exports h is =
    let k = c.args.self.now in
    instance_more bases k (record k { instances = c.add.new.self }) l exports refl (c.in_ok-made.ensures.stand k.types (world_of bases k) exports h.instances is) h
