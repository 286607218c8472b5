use Rattle.std.proofs.Common.{sym, subst, Option}
use Rattle.std.specs.Option.{option_and_then}
use Rattle.link_spec.specs.Definitions.{Exports, export_named}
use Rattle.link_spec.specs.Items.{meant_of}
use Rattle.link_spec.specs.Computed.{import_outcome}
use Rattle.link_parts.specs.Told.{IsTold}
use Rattle.link_state.specs.State.{world_of}
use Rattle.link_state.proofs.Steps.{none_given, some_given}
use Rattle.comp_link.specs.Ready.{IsReady, imported}
use Rattle.comp_link.proofs.imports.import_definition.Goals as goal

pub returns-in-None-clause-made : goal.returns-in-None-clause-made
returns-in-None-clause-made c = λ bases l s at named.
    let k = c.args.linker.now in
    let i = c.args.import.now in
    let none = none_given k.types (world_of bases k) c.scope.result.now.arguments s.arguments c.in-None.is (c.scope.ensures bases l s at).arguments in
    subst (λ (given : Option Exports). IsTold (IsReady c.root_import.new.linker l (imported l c.args.n s i.name)) c.root_import.result (import_outcome l c.args.n s i.name (meant_of s (option_and_then (export_named i.name) given) i.desc) i.desc given)) (sym none)
    (c.root_import.ensures.made bases l s at)

pub returns-in-Some-clause-made : goal.returns-in-Some-clause-made
returns-in-Some-clause-made c = λ bases l s at named.
    let k = c.args.linker.now in
    let i = c.args.import.now in
    let one = some_given k.types (world_of bases k) c.scope.result.now.arguments c.in-Some.arguments s.arguments c.in-Some.is (c.scope.ensures bases l s at).arguments in
    subst (λ (given : Option Exports). IsTold (IsReady c.given_import.new.linker l (imported l c.args.n s i.name)) c.given_import.result (import_outcome l c.args.n s i.name (meant_of s (option_and_then (export_named i.name) given) i.desc) i.desc given)) (sym one.1)
    (c.given_import.ensures.made bases l s one.0 at named one.2)
