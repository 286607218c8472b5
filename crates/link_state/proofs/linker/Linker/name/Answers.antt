use Rattle.std.proofs.Common.{refl}
use Rattle.link_instances.proofs.Growing.{listing_stays}
use Rattle.link_state.specs.State.{world_of}
use Rattle.link_state.proofs.States.{same_world, types_grow, at_grows}
use Rattle.link_state.proofs.linker.Linker.name.Goals as goal

pub returns-clause-state : goal.returns-clause-state
returns-clause-state c bases l h = types_grow bases c.args.self.now (record c.args.self.now { types = c.name.new.self }) l c.name.ensures.grows refl h

pub returns-clause-at : goal.returns-clause-at
returns-clause-at c bases n l s at = at_grows bases c.args.self.now (record c.args.self.now { types = c.name.new.self }) n l s c.name.ensures.grows refl at

pub returns-clause-listing : goal.returns-clause-listing
returns-clause-listing c bases listing exports h =
    let k = c.args.self.now in
    listing_stays k.types c.name.new.self (world_of bases k) (world_of bases k) c.name.ensures.grows (same_world (world_of bases k)) listing exports h
