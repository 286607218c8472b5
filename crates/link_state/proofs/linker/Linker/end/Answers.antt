use Rattle.std.proofs.Common.{[], ◌∷◌, ◌++◌, ℕ, List, sym, ap, subst}
use Rattle.std.specs.Vec.{with_item}
use Rattle.link_instances.specs.declared.references.DefinitionRef.{DefinitionRef}
use Rattle.link_instances.specs.References.{IsListing}
use Rattle.link_spec.specs.Definitions.{AnInstance}
use Rattle.link_spec.specs.Linked.{exports_at}
use Rattle.link_state.specs.declared.linker.Linker.{Linker}
use Rattle.link_state.specs.State.{world_of}
use Rattle.link_state.proofs.States.{exports_are, scope_ended, others_live, live_same, live_scopes}
use Rattle.link_state.proofs.linker.Linker.end.Goals as goal

pub returns-clause-ok : goal.returns-clause-ok
returns-clause-ok c bases l s at =
    let k = c.args.self.now in
    let over : Linker = record k { scopes = with_item k.scopes c.args.instance c.end-exports.new.self } in
    let exports = exports_at l c.args.instance in
    let listing : IsListing k.types (world_of bases k) c.end-exports.result exports =
    subst (λ (entries : List (ℕ × DefinitionRef)). IsListing k.types (world_of bases k) entries exports) (sym c.end-exports.ensures.exports)
    (exports_are bases k c.args.instance l c.index_mut.result.now c.index_mut.ensures.value c.requires.there c.requires.live at.state) in
    let state = scope_ended bases k c.args.instance l c.index_mut.result.now c.end-exports.new.self c.index_mut.ensures.value c.requires.there c.end-exports.ensures.types c.end-exports.ensures.components c.end-exports.ensures.ended at.state in
    let live = live_scopes over c.instance.new.self c.args.n (ap (λ (m : Linker). m.scopes) c.instance.ensures.rest) (others_live k c.args.instance c.end-exports.new.self c.args.n c.requires.apart at.live) in (
      bases ++ exports ∷ [],
      c.in_ok-add.ensures.ok (bases ++ exports ∷ []) l s (AnInstance exports)
          (record { state = c.in_ok-made.ensures.state bases l exports state listing; there = at.there; live = live }) (c.in_ok-made.ensures.made bases l exports state listing),
    )

pub returns-clause-live : goal.returns-clause-live
returns-clause-live c = λ m apart live.
    let k = c.args.self.now in
    let over : Linker = record k { scopes = with_item k.scopes c.args.instance c.end-exports.new.self } in
    live_same c.instance.new.self c.add.new.self m c.in_ok-add.ensures.live
    (live_scopes over c.instance.new.self m (ap (λ (v : Linker). v.scopes) c.instance.ensures.rest) (others_live k c.args.instance c.end-exports.new.self m apart live))
