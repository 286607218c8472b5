use Rattle.link_state.specs.State.{world_of}
use Rattle.link_state.proofs.linker.Linker.fit.Goals as goal

pub returns-clause-ok : goal.returns-clause-ok
returns-clause-ok c bases l d x h stands asks = (c.fit.ensures.fits (world_of bases c.args.self.now) d x h.instances stands asks).1

pub returns-clause-state : goal.returns-clause-state
returns-clause-state c bases l d x h stands asks = record { instances = (c.fit.ensures.fits (world_of bases c.args.self.now) d x h.instances stands asks).0; scopes = h.scopes; cores = h.cores; canons = h.canons; canon_types = h.canon_types; resources = h.resources; plan = h.plan; ends = h.ends; room = h.room }
