use Rattle.link_meanings.specs.Levels.{IsClosure}
use Rattle.link_state.proofs.Zips.{found_in}
use Rattle.link_state.proofs.scope.Scope.component.Goals as goal

pub returns : goal.returns
returns c t w s h = found_in (IsClosure w.components) c.args.self.now.components.items c.deref.result.now s.components c.args.index c.copied_at.result h.components c.copied_at.ensures c.deref.ensures.value
