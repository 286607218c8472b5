use Rattle.link_spec.specs.Items.{with_import}
use Rattle.link_state.specs.State.{world_of}
use Rattle.link_state.proofs.States.{scope_set, ended_set}
use Rattle.link_state.proofs.linker.Linker.add_import.Goals as goal

pub returns-clause-ok : goal.returns-clause-ok
returns-clause-ok c bases l s d at stands =
    let k = c.args.self.now in
    scope_set bases k c.args.n l s (with_import s c.args.name.now d) c.index_mut.result.now c.add_import.new.self c.index_mut.ensures.value c.requires (λ h. c.in_ok-add_import.ensures.adds k.types (world_of bases k) s d h stands) at

pub returns-clause-live : goal.returns-clause-live
returns-clause-live c = ended_set c.args.self.now c.args.n c.index_mut.result.now c.add_import.new.self c.index_mut.ensures.value c.requires c.add_import.ensures.ended
