use Rattle.link_state.specs.State.{IsModule}
use Rattle.link_state.proofs.Zips.{found_in}
use Rattle.link_state.proofs.scope.Scope.module.Goals as goal

pub returns : goal.returns
returns c t w s h = found_in (IsModule w) c.args.self.now.core_modules.items c.deref.result.now s.core_modules c.args.index c.copied_at.result h.core_modules c.copied_at.ensures c.deref.ensures.value
