use Rattle.std.proofs.Common.{ap, ◌∙◌}
use Rattle.std.proofs.lemmas.Result.{err_from_is_err_and}
use Rattle.link_spec.specs.Items.{wanted}
use Rattle.link_spec.specs.Computed.{Outcome, import_outcome}
use Rattle.link_state.specs.State.{IsMade}
use Rattle.link_state.proofs.Steps.{told_err}
use Rattle.link_state.specs.declared.linker.Linker.{Linker}
use Rattle.link_state.proofs.States.{live_scopes}
use Rattle.comp_link.specs.Ready.{IsReady, imported}
use Rattle.comp_link.proofs.Readying.{linked_by}
use Rattle.comp_link.proofs.imports.link_import.Goals as goal

pub returns-in_err-definition-clause-made : goal.returns-in_err-definition-clause-made
returns-in_err-definition-clause-made c = λ bases l s at.
    let k = c.import_definition.new.linker in
    let i = c.args.import.now in
    let x = import_outcome l c.args.n s i.name (wanted s i.name i.desc) i.desc s.arguments in
    let told = c.import_definition.ensures.made bases l s (c.name.ensures.at bases c.args.n l s at) c.in_ok-number.ensures.ok in
    let reason = told_err (IsReady k l (imported l c.args.n s i.name)) (λ (u : Unit {0}) (o : Outcome). IsMade k o) c.import_definition.result c.in_err-definition.field-0.0 x c.in_err-definition.was told in
    let p = err_from_is_err_and c.from_residual-in_err-definition.result c.from_residual-in_err-definition.ensures.1 in
    rw (p.1, p.2) reason

pub returns-clause-made : goal.returns-clause-made
returns-clause-made c = λ bases l s at.
    let i = c.args.import.now in
    linked_by c.import_definition.new.linker c.add_import.new.self c.args.n l s (imported l c.args.n s i.name) c.import_definition.result c.in_ok-definition.definition (import_outcome l c.args.n s i.name (wanted s i.name i.desc) i.desc s.arguments) c.in_ok-definition.was
    (c.import_definition.ensures.made bases l s (c.name.ensures.at bases c.args.n l s at) c.in_ok-number.ensures.ok) at.there
    (live_scopes c.args.linker.now c.import_definition.new.linker c.args.n (ap (λ (m : Linker). m.scopes) c.import_definition.ensures.rest ∙ c.name.ensures.scopes) at.live)
    (λ own d now stands. (own, c.in_ok-add_import.ensures.ok own l s d now stands))
