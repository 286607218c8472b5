use Rattle.link_state.specs.State.{world_of, IsKept}
use Rattle.link_state.proofs.Zips.{found_lent}
use Rattle.link_state.proofs.linker.Linker.scope_at.Goals as goal

pub returns : goal.returns
returns c bases l h =
    let k = c.args.self.now in
    found_lent (IsKept k.types (world_of bases k)) k.scopes.items c.deref.result.now l.scopes c.args.n c.item_numbered.result h.scopes c.item_numbered.ensures c.deref.ensures.value
