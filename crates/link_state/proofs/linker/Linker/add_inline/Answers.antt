use Rattle.std.proofs.Common.{List, subst}
use Rattle.link_spec.specs.Definitions.{CoreExport}
use Rattle.link_spec.specs.Spaces.{with_core_instance}
use Rattle.link_state.specs.State.{world_of, IsScope}
use Rattle.link_state.proofs.States.{scope_set, ended_set}
use Rattle.link_state.proofs.linker.Linker.add_inline.Goals as goal

pub returns-clause-ok : goal.returns-clause-ok
returns-clause-ok c bases l s at =
    let k = c.args.self.now in
    scope_set bases k c.args.n l s (with_core_instance s c.args.exports) c.index_mut.result.now c.add_core_instance.new.self c.index_mut.ensures.value c.requires (λ h. subst (λ (exports : List CoreExport). IsScope k.types (world_of bases k) c.add_core_instance.new.self (with_core_instance s exports)) c.inline.ensures (c.in_ok-add_core_instance.ensures.adds k.types (world_of bases k) s h)) at

pub returns-clause-live : goal.returns-clause-live
returns-clause-live c = ended_set c.args.self.now c.args.n c.index_mut.result.now c.add_core_instance.new.self c.index_mut.ensures.value c.requires c.add_core_instance.ensures.ended
