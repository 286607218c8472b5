use Rattle.std.proofs.Common.{ap, List, refl, sym, ◌∙◌, subst, Some, Err, true, false}
use Rattle.std.specs.List.{AllZip}
use Rattle.std.proofs.lemmas.Result.{err_from_is_err_and}
use Rattle.syntax_trees.specs.Names.{is_among}
use Rattle.link_spec.specs.declared.fault.LinkWhy.TheVariants as why
use Rattle.link_spec.specs.Definitions.{export_named}
use Rattle.link_spec.specs.Items.{meant_of, lacking}
use Rattle.link_spec.specs.Computed.{Outcome, import_outcome}
use Rattle.link_values.specs.declared.refs.TypeRef.{TypeRef}
use Rattle.link_types.specs.Table.{IsType}
use Rattle.link_state.specs.State.{world_of}
use Rattle.link_state.proofs.Steps.{found_as, none_named, some_named, missing_told, outcome_err, outcome_reason, among_is}
use Rattle.link_state.proofs.States.{live_scopes}
use Rattle.link_state.specs.declared.linker.Linker.{Linker}
use Rattle.comp_link.specs.Ready.{as_wanted, imported}
use Rattle.comp_link.proofs.Readying.{outcome_ready}
use Rattle.comp_link.proofs.Wanting.{wants, wants_err, wants_among, wants_none, wants_some, given_absent, given_none, given_some}
use Rattle.comp_link.proofs.imports.given_import.Goals as goal

pub returns-then-not-meant-clause-made : goal.returns-then-not-meant-clause-made
returns-then-not-meant-clause-made c = λ bases l s given at named instance.
    let k = c.args.linker.now in
    let w = world_of bases k in
    let i = c.args.import.now in
    let n = c.args.n in
    let argument = export_named i.name given in
    let meaning = meant_of s argument i.desc in
    let scope = c.scope.ensures bases l s at in
    let found = c.export_named-argument.ensures w given i.name at.state.instances instance named in
    let m = c.wanted_of-meant.ensures k.types w s.types argument (subst (λ (refs : List TypeRef). AllZip (IsType k.types) refs s.types) (sym c.deref.ensures.value) scope.types) (found_as k.types w c.export_named-argument.result argument found) in
    outcome_err why.Index (import_outcome l n s i.name meaning i.desc (Some given)) (given_absent l n s i.name meaning i.desc given (sym m.is_there ∙ c.if-not-meant.true))

pub returns-in_default-clause-made : goal.returns-in_default-clause-made
returns-in_default-clause-made c = λ bases l s given at named instance.
    let k = c.args.linker.now in
    let w = world_of bases k in
    let i = c.args.import.now in
    let n = c.args.n in
    let argument = export_named i.name given in
    let meaning = meant_of s argument i.desc in
    let scope = c.scope.ensures bases l s at in
    let found = c.export_named-argument.ensures w given i.name at.state.instances instance named in
    let m = c.wanted_of-meant.ensures k.types w s.types argument (subst (λ (refs : List TypeRef). AllZip (IsType k.types) refs s.types) (sym c.deref.ensures.value) scope.types) (found_as k.types w c.export_named-argument.result argument found) in
    let there = sym m.is_there ∙ c.if-not-meant.false in
    let none = none_named k.types w c.export_named-argument.result (export_named i.name given) c.in_default.is found in
    outcome_reason c.missing.result (import_outcome l n s i.name meaning i.desc (Some given)) (Err (why.Missing i.name)) (given_none l n s i.name meaning i.desc given there none) (missing_told Outcome c.missing.result c.as_str.result.now i.name c.as_str.ensures c.missing.ensures)

pub returns-in_err-definition-clause-made : goal.returns-in_err-definition-clause-made
returns-in_err-definition-clause-made c = λ bases l s given at named instance.
    let k = c.args.linker.now in
    let w = world_of bases k in
    let i = c.args.import.now in
    let n = c.args.n in
    let argument = export_named i.name given in
    let meaning = meant_of s argument i.desc in
    let scope = c.scope.ensures bases l s at in
    let found = c.export_named-argument.ensures w given i.name at.state.instances instance named in
    let m = c.wanted_of-meant.ensures k.types w s.types argument (subst (λ (refs : List TypeRef). AllZip (IsType k.types) refs s.types) (sym c.deref.ensures.value) scope.types) (found_as k.types w c.export_named-argument.result argument found) in
    let there = sym m.is_there ∙ c.if-not-meant.false in
    let one = some_named k.types w c.export_named-argument.result c.in-Some.given (export_named i.name given) c.in-Some.is found in
    let is = given_some l n s i.name meaning i.desc given there one.0 one.1 in
    let told = c.seen.ensures.told bases l one.0 meaning.means i.name at.state one.2 m.means in
    let new = c.seen.new.linker in
    let among = is_among i.name s.imports in
    let lacks = lacking (Some one.0) i.name meaning.means in
    let x = as_wanted one.0 meaning.means in
    let make = imported l n s i.name in
    let reason = outcome_reason c.in_err-definition.field-0.0 (import_outcome l n s i.name meaning i.desc (Some given)) (wants lacks among x make) is (wants_err new.types (world_of bases new) lacks x make among c.seen.result told c.in_err-definition.field-0.0 c.in_err-definition.was) in
    let p = err_from_is_err_and c.from_residual.result c.from_residual.ensures.1 in
    rw (p.1, p.2) reason

pub returns-then-has-clause-made : goal.returns-then-has-clause-made
returns-then-has-clause-made c = λ bases l s given at named instance.
    let k = c.args.linker.now in
    let w = world_of bases k in
    let i = c.args.import.now in
    let n = c.args.n in
    let argument = export_named i.name given in
    let meaning = meant_of s argument i.desc in
    let scope = c.scope.ensures bases l s at in
    let found = c.export_named-argument.ensures w given i.name at.state.instances instance named in
    let m = c.wanted_of-meant.ensures k.types w s.types argument (subst (λ (refs : List TypeRef). AllZip (IsType k.types) refs s.types) (sym c.deref.ensures.value) scope.types) (found_as k.types w c.export_named-argument.result argument found) in
    let there = sym m.is_there ∙ c.if-not-meant.false in
    let one = some_named k.types w c.export_named-argument.result c.in-Some.given (export_named i.name given) c.in-Some.is found in
    let is = given_some l n s i.name meaning i.desc given there one.0 one.1 in
    let told = c.seen.ensures.told bases l one.0 meaning.means i.name at.state one.2 m.means in
    let new = c.seen.new.linker in
    let among = is_among i.name s.imports in
    let lacks = lacking (Some one.0) i.name meaning.means in
    let x = as_wanted one.0 meaning.means in
    let make = imported l n s i.name in
    let state = c.seen.ensures.state bases l one.0 meaning.means at.state one.2 m.means in
    let later = c.scope-2.ensures bases l s (record { state = state; there = at.there; live = live_scopes k c.seen.new.linker n (ap (λ (m : Linker). m.scopes) c.seen.ensures.rest) at.live }) in
    let taken = among_is c.as_str-2.result.now i.name c.scope-2.result.now.imports s.imports c.has.result true c.as_str-2.ensures later.imports c.has.ensures c.if-has.true in
    outcome_err why.Typing (import_outcome l n s i.name meaning i.desc (Some given)) (is ∙ wants_among new.types (world_of bases new) lacks x make among c.seen.result told c.in_ok-definition.definition c.in_ok-definition.was taken)

pub returns-in-Some-definition-clause-made : goal.returns-in-Some-definition-clause-made
returns-in-Some-definition-clause-made c = λ bases l s given at named instance.
    let k = c.args.linker.now in
    let w = world_of bases k in
    let i = c.args.import.now in
    let n = c.args.n in
    let argument = export_named i.name given in
    let meaning = meant_of s argument i.desc in
    let scope = c.scope.ensures bases l s at in
    let found = c.export_named-argument.ensures w given i.name at.state.instances instance named in
    let m = c.wanted_of-meant.ensures k.types w s.types argument (subst (λ (refs : List TypeRef). AllZip (IsType k.types) refs s.types) (sym c.deref.ensures.value) scope.types) (found_as k.types w c.export_named-argument.result argument found) in
    let there = sym m.is_there ∙ c.if-not-meant.false in
    let one = some_named k.types w c.export_named-argument.result c.in-Some.given (export_named i.name given) c.in-Some.is found in
    let is = given_some l n s i.name meaning i.desc given there one.0 one.1 in
    let told = c.seen.ensures.told bases l one.0 meaning.means i.name at.state one.2 m.means in
    let new = c.seen.new.linker in
    let among = is_among i.name s.imports in
    let lacks = lacking (Some one.0) i.name meaning.means in
    let x = as_wanted one.0 meaning.means in
    let make = imported l n s i.name in
    let state = c.seen.ensures.state bases l one.0 meaning.means at.state one.2 m.means in
    let later = c.scope-2.ensures bases l s (record { state = state; there = at.there; live = live_scopes k c.seen.new.linker n (ap (λ (m : Linker). m.scopes) c.seen.ensures.rest) at.live }) in
    let free = among_is c.as_str-2.result.now i.name c.scope-2.result.now.imports s.imports c.has.result false c.as_str-2.ensures later.imports c.has.ensures c.if-has.false in
    let d = wants_some new.types (world_of bases new) lacks x make among c.seen.result told c.in_ok-definition.definition c.in-Some-definition.definition c.in_ok-definition.was c.in-Some-definition.is free in
    outcome_ready new l make c.in-Some-definition.definition (import_outcome l n s i.name meaning i.desc (Some given)) (make d.0) (is ∙ d.1) (record { bases = bases; state = state; definition = d.0; stands = d.2; makes = refl })

pub returns-in-None-clause-made : goal.returns-in-None-clause-made
returns-in-None-clause-made c = λ bases l s given at named instance.
    let k = c.args.linker.now in
    let w = world_of bases k in
    let i = c.args.import.now in
    let n = c.args.n in
    let argument = export_named i.name given in
    let meaning = meant_of s argument i.desc in
    let scope = c.scope.ensures bases l s at in
    let found = c.export_named-argument.ensures w given i.name at.state.instances instance named in
    let m = c.wanted_of-meant.ensures k.types w s.types argument (subst (λ (refs : List TypeRef). AllZip (IsType k.types) refs s.types) (sym c.deref.ensures.value) scope.types) (found_as k.types w c.export_named-argument.result argument found) in
    let there = sym m.is_there ∙ c.if-not-meant.false in
    let one = some_named k.types w c.export_named-argument.result c.in-Some.given (export_named i.name given) c.in-Some.is found in
    let is = given_some l n s i.name meaning i.desc given there one.0 one.1 in
    let told = c.seen.ensures.told bases l one.0 meaning.means i.name at.state one.2 m.means in
    let new = c.seen.new.linker in
    let among = is_among i.name s.imports in
    let lacks = lacking (Some one.0) i.name meaning.means in
    let x = as_wanted one.0 meaning.means in
    let make = imported l n s i.name in
    let state = c.seen.ensures.state bases l one.0 meaning.means at.state one.2 m.means in
    let later = c.scope-2.ensures bases l s (record { state = state; there = at.there; live = live_scopes k c.seen.new.linker n (ap (λ (m : Linker). m.scopes) c.seen.ensures.rest) at.live }) in
    let free = among_is c.as_str-2.result.now i.name c.scope-2.result.now.imports s.imports c.has.result false c.as_str-2.ensures later.imports c.has.ensures c.if-has.false in
    outcome_err why.Typing (import_outcome l n s i.name meaning i.desc (Some given)) (is ∙ wants_none new.types (world_of bases new) lacks x make among c.seen.result told c.in_ok-definition.definition c.in_ok-definition.was c.in-None.is free)
