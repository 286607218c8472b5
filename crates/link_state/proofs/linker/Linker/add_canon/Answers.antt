use Rattle.std.proofs.Common.{◌≡◌, ◌∙◌, refl, sym, ap, subst, ℕ, length}
use Rattle.syntax_trees.specs.declared.module_types.FuncType.{FuncType}
use Rattle.comp_graph.specs.declared.graph.FuncRef.TheVariants as func_ref
use Rattle.comp_graph.specs.Graph.{canon_type}
use Rattle.comp_graph.specs.Passed.{AreCanonTypes}
use Rattle.canon_types.proofs.EndsOnce.{canon_noted}
use Rattle.link_spec.specs.Definitions.{CoreItem, Func}
use Rattle.link_spec.specs.Spaces.{with_core_item}
use Rattle.link_state.specs.State.{world_of, type_table, IsScope}
use Rattle.link_state.proofs.Growth.{canons_more}
use Rattle.link_state.proofs.States.{scope_set, ended_set}
use Rattle.link_state.proofs.linker.Linker.add_canon.Goals as goal

pub returns-clause-ok : goal.returns-clause-ok
returns-clause-ok c bases l s at passes is =
    let k = c.args.self.now in
    let w = world_of bases k in
    let number : c.in_ok-number.number ≡ length l.canons = c.in_ok-number.ensures ∙ c.len.ensures ∙ k.canons.ok.0 ∙ ap length (sym at.state.canons) in
    let item : c.made-item.result ≡ Func (func_ref.Canon (length l.canons)) (canon_type c.args.canon) =
    c.made-item.ensures ∙ ap (λ (t : FuncType). Func (func_ref.Canon c.in_ok-number.number) t) is
    ∙ ap (λ (n : ℕ). Func (func_ref.Canon n) (canon_type c.args.canon)) number in
    let typed : AreCanonTypes (type_table k.types) c.push.new.self.items c.push-2.new.self.items =
    canons_more (type_table k.types) k.canon_types.items k.canons.items c.args.passed c.args.canon c.push.new.self.items c.push-2.new.self.items at.state.canon_types
    passes c.in_ok-push.ensures.items c.in_ok-push-2.ensures.items in
    record {
      instances = at.state.instances;
      scopes = (scope_set bases k c.args.n l s (with_core_item s (Func (func_ref.Canon (length l.canons)) (canon_type c.args.canon))) c.index_mut.result.now c.add_core_item.new.self c.index_mut.ensures.value c.requires
          (λ h. subst (λ (item : CoreItem). IsScope k.types w c.add_core_item.new.self (with_core_item s item)) item (c.in_ok-add_core_item.ensures.adds k.types w s h)) at).scopes;
      cores = at.state.cores;
      canons = rw (at.state.canons, c.in_ok-push-2.ensures.items) refl;
      canon_types = typed;
      resources = at.state.resources;
      plan = at.state.plan;
      ends = rw (c.in_ok-note.ensures, c.canon_number-named.ensures)
          (canon_noted (type_table k.types) c.are_distinct.ensures.values k.end_types l.end_types c.args.passed c.args.canon at.state.ends passes);
      room = at.state.room;
    }

pub returns-clause-live : goal.returns-clause-live
returns-clause-live c = ended_set c.args.self.now c.args.n c.index_mut.result.now c.add_core_item.new.self c.index_mut.ensures.value c.requires c.add_core_item.ensures.ended
