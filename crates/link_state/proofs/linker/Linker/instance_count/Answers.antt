use Rattle.std.proofs.Common.{◌∙◌}
use Rattle.link_state.specs.State.{world_of, IsKept}
use Rattle.link_state.proofs.Zips.{as_long}
use Rattle.link_state.proofs.linker.Linker.instance_count.Goals as goal

pub returns : goal.returns
returns c bases l h =
    let k = c.args.self.now in
    c.len.ensures ∙ k.scopes.ok.0 ∙ as_long (IsKept k.types (world_of bases k)) k.scopes.items l.scopes h.scopes
