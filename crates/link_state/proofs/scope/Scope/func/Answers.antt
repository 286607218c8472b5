use Rattle.link_instances.specs.References.{IsLifted}
use Rattle.link_state.proofs.Zips.{found_in}
use Rattle.link_state.proofs.scope.Scope.func.Goals as goal

pub returns : goal.returns
returns c t w s h = found_in (IsLifted t) c.args.self.now.funcs.items c.deref.result.now s.funcs c.args.index c.copied_at.result h.funcs c.copied_at.ensures c.deref.ensures.value
