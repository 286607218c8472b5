use Rattle.std.proofs.Common.{◌≡◌, ◌∙◌, refl, sym, ap, subst, ℕ, List, [], ◌∷◌, ◌++◌, length}
use Rattle.std.specs.Vec.{with_item}
use Rattle.link_spec.specs.Definitions.{CoreExport, exports_of}
use Rattle.link_spec.specs.Spaces.{with_core_instance}
use Rattle.link_spec.specs.Items.{core_made}
use Rattle.link_core_exports.specs.Cores.{CoreLists}
use Rattle.link_state.specs.State.{world_of, IsScope, IsState}
use Rattle.link_state.proofs.States.{scope_set, ended_set}
use Rattle.link_state.proofs.linker.Linker.add_core_instance.Goals as goal

pub returns-clause-ok : goal.returns-clause-ok
returns-clause-ok c bases l s m items at is imports =
    let k = c.args.self.now in
    let w = world_of bases k in
    let number : c.in_ok-instance.instance ≡ length l.cores = c.in_ok-instance.ensures ∙ c.count.ensures ∙ ap length (sym at.state.cores) in
    let exports : c.in_ok-exports.exports ≡ exports_of m (length l.cores) = c.in_ok-exports.ensures.exports m is ∙ ap (λ (n : ℕ). exports_of m n) (ap length (sym at.state.cores)) in
    let cores : CoreLists = record { modules = k.cores.modules; makes = k.cores.makes ++ record { of_module = m; imports = c.args.imports; owner = c.in_ok-owner.owner } ∷ [] } in
    let made : IsState bases (record k { scopes = with_item k.scopes c.args.n c.add_core_instance.new.self; cores = cores; plan = c.push.new.self }) (core_made l c.args.n s m items) = record {
      instances = at.state.instances;
      scopes = (scope_set bases k c.args.n l s (with_core_instance s (exports_of m (length l.cores))) c.index_mut.result.now c.add_core_instance.new.self c.index_mut.ensures.value c.requires.here
          (λ h. subst (λ (es : List CoreExport). IsScope k.types w c.add_core_instance.new.self (with_core_instance s es)) exports (c.in_ok-add_core_instance.ensures.adds k.types w s h)) at).scopes;
      canons = at.state.canons;
      canon_types = at.state.canon_types;
      resources = at.state.resources;
      cores = rw (at.state.cores, imports, c.in_ok-owner.ensures) refl;
      plan = rw (at.state.plan, c.in_ok-push.ensures.items, number) refl;
      ends = at.state.ends;
      room = at.state.room;
    } in
    subst (λ (cores : CoreLists). IsState bases (record k { scopes = with_item k.scopes c.args.n c.add_core_instance.new.self; cores = cores; plan = c.push.new.self }) (core_made l c.args.n s m items)) (sym (c.in_ok-exports.ensures.ok m is)) made

pub returns-clause-live : goal.returns-clause-live
returns-clause-live c = ended_set c.args.self.now c.args.n c.index_mut.result.now c.add_core_instance.new.self c.index_mut.ensures.value c.requires.here c.add_core_instance.ensures.ended
