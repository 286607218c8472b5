use Rattle.link_instances.specs.References.{IsInstance}
use Rattle.link_state.proofs.Zips.{found_in}
use Rattle.link_state.proofs.scope.Scope.instance.Goals as goal

pub returns : goal.returns
returns c t w s h = found_in (IsInstance t w) c.args.self.now.instances.items c.deref.result.now s.instances c.args.index c.copied_at.result h.instances c.copied_at.ensures c.deref.ensures.value
