use Rattle.link_spec.specs.Spaces.{with_core_item}
use Rattle.link_state.specs.State.{world_of}
use Rattle.link_state.proofs.States.{scope_set, ended_set}
use Rattle.link_state.proofs.linker.Linker.add_core_item.Goals as goal

pub returns-clause-ok : goal.returns-clause-ok
returns-clause-ok c bases l s at =
    let k = c.args.self.now in
    scope_set bases k c.args.n l s (with_core_item s c.args.item) c.index_mut.result.now c.add_core_item.new.self c.index_mut.ensures.value c.requires (λ h. c.in_ok-add_core_item.ensures.adds k.types (world_of bases k) s h) at

pub returns-clause-live : goal.returns-clause-live
returns-clause-live c = ended_set c.args.self.now c.args.n c.index_mut.result.now c.add_core_item.new.self c.index_mut.ensures.value c.requires c.add_core_item.ensures.ended
