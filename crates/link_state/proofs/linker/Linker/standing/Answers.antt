use Rattle.std.specs.List.{slice_get}
use Rattle.link_state.specs.State.{world_of}
use Rattle.link_state.proofs.Zips.{found_through}
use Rattle.link_state.proofs.States.{scope_is}
use Rattle.link_state.proofs.Growth.{kept_whole}
use Rattle.link_state.proofs.linker.Linker.standing.Goals as goal

pub returns : goal.returns
returns c bases l s at =
    let k = c.args.self.now in
    let scope = scope_is bases k c.args.n l s c.index.result.now c.index.ensures c.requires at in
    found_through k.components.items c.deref.result.now c.component.result (slice_get s.components c.args.index) c.item_numbered.result c.item_numbered.ensures c.deref.ensures.value (c.component.ensures k.types (world_of bases k) s (kept_whole k.types (world_of bases k) c.index.result.now s scope))
