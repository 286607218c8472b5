use Rattle.std.proofs.Common.{ap, ◌∙◌}
use Rattle.link_spec.specs.Computed.{export_outcome}
use Rattle.link_state.specs.declared.linker.Linker.{Linker}
use Rattle.link_state.proofs.States.{live_scopes}
use Rattle.comp_link.specs.Ready.{exported}
use Rattle.comp_link.proofs.Readying.{linked_by}
use Rattle.comp_link.proofs.exports.link_export.Goals as goal

pub returns-clause-made : goal.returns-clause-made
returns-clause-made c = λ bases l s at.
    let e = c.args.export.now in
    let named = c.export_definition.ensures.grows.texts c.in_ok-number.number e.name c.in_ok-number.ensures.ok in
    linked_by c.export_definition.new.linker c.add_export.new.self c.args.n l s (exported l c.args.n s e.name) c.export_definition.result c.in_ok-definition.definition (export_outcome l c.args.n s e) c.in_ok-definition.was
    (c.export_definition.ensures.made bases l s (c.name.ensures.at bases c.args.n l s at)) at.there
    (live_scopes c.args.linker.now c.export_definition.new.linker c.args.n (ap (λ (m : Linker). m.scopes) c.export_definition.ensures.rest ∙ c.name.ensures.scopes) at.live)
    (λ own d now stands. (own, c.in_ok-add_export.ensures.ok own l s d now named stands))
