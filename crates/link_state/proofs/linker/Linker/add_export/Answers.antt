use Rattle.link_spec.specs.Items.{with_export}
use Rattle.link_state.specs.State.{world_of}
use Rattle.link_state.proofs.States.{scope_set, ended_set}
use Rattle.link_state.proofs.linker.Linker.add_export.Goals as goal

pub returns-clause-ok : goal.returns-clause-ok
returns-clause-ok c bases l s d at named stands =
    let k = c.args.self.now in
    scope_set bases k c.args.n l s (with_export s c.args.name.now d) c.index_mut.result.now c.add_export.new.self c.index_mut.ensures.value c.requires (λ h. c.in_ok-add_export.ensures.adds k.types (world_of bases k) s d h named stands) at

pub returns-clause-live : goal.returns-clause-live
returns-clause-live c = ended_set c.args.self.now c.args.n c.index_mut.result.now c.add_export.new.self c.index_mut.ensures.value c.requires c.add_export.ensures.ended
