use Rattle.link_types.specs.Table.{IsType}
use Rattle.link_state.proofs.Zips.{found_in}
use Rattle.link_state.proofs.scope.Scope.type_at.Goals as goal

pub returns : goal.returns
returns c t w s h = found_in (IsType t) c.args.self.now.types.items c.deref.result.now s.types c.args.index c.copied_at.result h.types c.copied_at.ensures c.deref.ensures.value
