use Rattle.std.proofs.Common.{ap, ◌<◌, ◌≤◌, ℕ, List, Option, refl, sym, ◌∙◌, subst, Some, true, false}
use Rattle.std.specs.List.{AllZip}
use Rattle.std.specs.Option.{option_map}
use Rattle.std.proofs.lemmas.Result.{err_from_is_err_and}
use Rattle.syntax_trees.specs.Names.{is_among}
use Rattle.comp_tree.specs.declared.externs.ExternDesc.{ExternDesc}
use Rattle.link_spec.specs.Definitions.{export_names}
use Rattle.link_spec.specs.Spaces.{definition_at}
use Rattle.link_spec.specs.Items.{meant_of, lacking}
use Rattle.link_spec.specs.Computed.{export_outcome}
use Rattle.link_spec.specs.declared.fault.LinkWhy.TheVariants as why
use Rattle.link_values.specs.declared.refs.TypeRef.{TypeRef}
use Rattle.link_types.specs.Table.{IsType}
use Rattle.link_instances.specs.References.{Stands}
use Rattle.link_state.specs.State.{world_of}
use Rattle.link_state.proofs.Steps.{none_found, some_found, outcome_err, outcome_reason, among_is}
use Rattle.link_state.proofs.States.{live_scopes}
use Rattle.link_state.specs.declared.linker.Linker.{Linker}
use Rattle.comp_link.specs.Ready.{as_wanted, exported}
use Rattle.comp_link.proofs.Readying.{outcome_ready}
use Rattle.comp_link.proofs.Wanting.{wants, wants_err, wants_among, wants_none, wants_some, export_index, said_absent, said_none, said_some}
use Rattle.comp_link.proofs.exports.said_export.Goals as goal

pub returns-then-export-size-clause-made : goal.returns-then-export-size-clause-made
returns-then-export-size-clause-made c = λ bases l s at says.
    let k = c.args.linker.now in
    let e = c.args.export.now in
    let size = c.size.ensures k.types (world_of bases k) s (c.scope-scope.ensures bases l s at) in
    outcome_err why.Index (export_outcome l c.args.n s e) (export_index l c.args.n s e (subst (λ (m : ℕ). m ≤ e.index) size c.if-export-size.true))

pub returns-then-not-meant-clause-made : goal.returns-then-not-meant-clause-made
returns-then-not-meant-clause-made c = λ bases l s at says.
    let k = c.args.linker.now in
    let w = world_of bases k in
    let e = c.args.export.now in
    let n = c.args.n in
    let scope = c.scope-scope.ensures bases l s at in
    let within = subst (λ (m : ℕ). e.index < m) (c.size.ensures k.types w s scope) c.if-export-size.false in
    let given = definition_at s e.sort e.index in
    let meaning = meant_of s given c.args.desc in
    let stands = c.definition-definition.ensures k.types w s scope in
    let m = c.wanted_of-meant.ensures k.types w s.types given (subst (λ (refs : List TypeRef). AllZip (IsType k.types) refs s.types) (sym c.deref.ensures.value) scope.types) stands in
    outcome_err why.Index (export_outcome l n s e) (said_absent l n s e meaning (ap (λ (o : Option ExternDesc). option_map (meant_of s given) o) says) within (sym m.is_there ∙ c.if-not-meant.true))

pub returns-in_default-clause-made : goal.returns-in_default-clause-made
returns-in_default-clause-made c = λ bases l s at says.
    let k = c.args.linker.now in
    let w = world_of bases k in
    let e = c.args.export.now in
    let n = c.args.n in
    let scope = c.scope-scope.ensures bases l s at in
    let within = subst (λ (m : ℕ). e.index < m) (c.size.ensures k.types w s scope) c.if-export-size.false in
    let given = definition_at s e.sort e.index in
    let meaning = meant_of s given c.args.desc in
    let stands = c.definition-definition.ensures k.types w s scope in
    let m = c.wanted_of-meant.ensures k.types w s.types given (subst (λ (refs : List TypeRef). AllZip (IsType k.types) refs s.types) (sym c.deref.ensures.value) scope.types) stands in
    let there = sym m.is_there ∙ c.if-not-meant.false in
    let none = none_found (Stands k.types w) c.definition-definition.result (definition_at s e.sort e.index) c.in_default.is stands in
    outcome_err why.Typing (export_outcome l n s e) (said_none l n s e meaning (ap (λ (o : Option ExternDesc). option_map (meant_of s given) o) says) within there none)

pub returns-in_err-exported-clause-made : goal.returns-in_err-exported-clause-made
returns-in_err-exported-clause-made c = λ bases l s at says.
    let k = c.args.linker.now in
    let w = world_of bases k in
    let e = c.args.export.now in
    let n = c.args.n in
    let scope = c.scope-scope.ensures bases l s at in
    let within = subst (λ (m : ℕ). e.index < m) (c.size.ensures k.types w s scope) c.if-export-size.false in
    let given = definition_at s e.sort e.index in
    let meaning = meant_of s given c.args.desc in
    let stands = c.definition-definition.ensures k.types w s scope in
    let m = c.wanted_of-meant.ensures k.types w s.types given (subst (λ (refs : List TypeRef). AllZip (IsType k.types) refs s.types) (sym c.deref.ensures.value) scope.types) stands in
    let there = sym m.is_there ∙ c.if-not-meant.false in
    let one = some_found (Stands k.types w) c.definition-definition.result c.in-Some.given (definition_at s e.sort e.index) c.in-Some.is stands in
    let is = said_some l n s e meaning (ap (λ (o : Option ExternDesc). option_map (meant_of s given) o) says) within there one.0 one.1 in
    let told = c.seen.ensures.told bases l one.0 meaning.means e.name at.state one.2 m.means in
    let new = c.seen.new.linker in
    let among = is_among e.name (export_names s.exports) in
    let lacks = lacking (Some one.0) e.name meaning.means in
    let x = as_wanted one.0 meaning.means in
    let make = exported l n s e.name in
    let reason = outcome_reason c.in_err-exported.field-0.0 (export_outcome l n s e) (wants lacks among x make) is (wants_err new.types (world_of bases new) lacks x make among c.seen.result told c.in_err-exported.field-0.0 c.in_err-exported.was) in
    let p = err_from_is_err_and c.from_residual.result c.from_residual.ensures.1 in
    rw (p.1, p.2) reason

pub returns-then-has-clause-made : goal.returns-then-has-clause-made
returns-then-has-clause-made c = λ bases l s at says.
    let k = c.args.linker.now in
    let w = world_of bases k in
    let e = c.args.export.now in
    let n = c.args.n in
    let scope = c.scope-scope.ensures bases l s at in
    let within = subst (λ (m : ℕ). e.index < m) (c.size.ensures k.types w s scope) c.if-export-size.false in
    let given = definition_at s e.sort e.index in
    let meaning = meant_of s given c.args.desc in
    let stands = c.definition-definition.ensures k.types w s scope in
    let m = c.wanted_of-meant.ensures k.types w s.types given (subst (λ (refs : List TypeRef). AllZip (IsType k.types) refs s.types) (sym c.deref.ensures.value) scope.types) stands in
    let there = sym m.is_there ∙ c.if-not-meant.false in
    let one = some_found (Stands k.types w) c.definition-definition.result c.in-Some.given (definition_at s e.sort e.index) c.in-Some.is stands in
    let is = said_some l n s e meaning (ap (λ (o : Option ExternDesc). option_map (meant_of s given) o) says) within there one.0 one.1 in
    let told = c.seen.ensures.told bases l one.0 meaning.means e.name at.state one.2 m.means in
    let new = c.seen.new.linker in
    let among = is_among e.name (export_names s.exports) in
    let lacks = lacking (Some one.0) e.name meaning.means in
    let x = as_wanted one.0 meaning.means in
    let make = exported l n s e.name in
    let state = c.seen.ensures.state bases l one.0 meaning.means at.state one.2 m.means in
    let later = c.scope.ensures bases l s (record { state = state; there = at.there; live = live_scopes k c.seen.new.linker n (ap (λ (m : Linker). m.scopes) c.seen.ensures.rest) at.live }) in
    let taken = among_is c.as_str.result.now e.name c.scope.result.now.export_names (export_names s.exports) c.has.result true c.as_str.ensures later.export_names c.has.ensures c.if-has.true in
    outcome_err why.Typing (export_outcome l n s e) (is ∙ wants_among new.types (world_of bases new) lacks x make among c.seen.result told c.in_ok-exported.exported c.in_ok-exported.was taken)

pub returns-in-Some-exported-clause-made : goal.returns-in-Some-exported-clause-made
returns-in-Some-exported-clause-made c = λ bases l s at says.
    let k = c.args.linker.now in
    let w = world_of bases k in
    let e = c.args.export.now in
    let n = c.args.n in
    let scope = c.scope-scope.ensures bases l s at in
    let within = subst (λ (m : ℕ). e.index < m) (c.size.ensures k.types w s scope) c.if-export-size.false in
    let given = definition_at s e.sort e.index in
    let meaning = meant_of s given c.args.desc in
    let stands = c.definition-definition.ensures k.types w s scope in
    let m = c.wanted_of-meant.ensures k.types w s.types given (subst (λ (refs : List TypeRef). AllZip (IsType k.types) refs s.types) (sym c.deref.ensures.value) scope.types) stands in
    let there = sym m.is_there ∙ c.if-not-meant.false in
    let one = some_found (Stands k.types w) c.definition-definition.result c.in-Some.given (definition_at s e.sort e.index) c.in-Some.is stands in
    let is = said_some l n s e meaning (ap (λ (o : Option ExternDesc). option_map (meant_of s given) o) says) within there one.0 one.1 in
    let told = c.seen.ensures.told bases l one.0 meaning.means e.name at.state one.2 m.means in
    let new = c.seen.new.linker in
    let among = is_among e.name (export_names s.exports) in
    let lacks = lacking (Some one.0) e.name meaning.means in
    let x = as_wanted one.0 meaning.means in
    let make = exported l n s e.name in
    let state = c.seen.ensures.state bases l one.0 meaning.means at.state one.2 m.means in
    let later = c.scope.ensures bases l s (record { state = state; there = at.there; live = live_scopes k c.seen.new.linker n (ap (λ (m : Linker). m.scopes) c.seen.ensures.rest) at.live }) in
    let free = among_is c.as_str.result.now e.name c.scope.result.now.export_names (export_names s.exports) c.has.result false c.as_str.ensures later.export_names c.has.ensures c.if-has.false in
    let d = wants_some new.types (world_of bases new) lacks x make among c.seen.result told c.in_ok-exported.exported c.in-Some-exported.definition c.in_ok-exported.was c.in-Some-exported.is free in
    outcome_ready new l make c.in-Some-exported.definition (export_outcome l n s e) (make d.0) (is ∙ d.1) (record { bases = bases; state = state; definition = d.0; stands = d.2; makes = refl })

pub returns-in-None-clause-made : goal.returns-in-None-clause-made
returns-in-None-clause-made c = λ bases l s at says.
    let k = c.args.linker.now in
    let w = world_of bases k in
    let e = c.args.export.now in
    let n = c.args.n in
    let scope = c.scope-scope.ensures bases l s at in
    let within = subst (λ (m : ℕ). e.index < m) (c.size.ensures k.types w s scope) c.if-export-size.false in
    let given = definition_at s e.sort e.index in
    let meaning = meant_of s given c.args.desc in
    let stands = c.definition-definition.ensures k.types w s scope in
    let m = c.wanted_of-meant.ensures k.types w s.types given (subst (λ (refs : List TypeRef). AllZip (IsType k.types) refs s.types) (sym c.deref.ensures.value) scope.types) stands in
    let there = sym m.is_there ∙ c.if-not-meant.false in
    let one = some_found (Stands k.types w) c.definition-definition.result c.in-Some.given (definition_at s e.sort e.index) c.in-Some.is stands in
    let is = said_some l n s e meaning (ap (λ (o : Option ExternDesc). option_map (meant_of s given) o) says) within there one.0 one.1 in
    let told = c.seen.ensures.told bases l one.0 meaning.means e.name at.state one.2 m.means in
    let new = c.seen.new.linker in
    let among = is_among e.name (export_names s.exports) in
    let lacks = lacking (Some one.0) e.name meaning.means in
    let x = as_wanted one.0 meaning.means in
    let make = exported l n s e.name in
    let state = c.seen.ensures.state bases l one.0 meaning.means at.state one.2 m.means in
    let later = c.scope.ensures bases l s (record { state = state; there = at.there; live = live_scopes k c.seen.new.linker n (ap (λ (m : Linker). m.scopes) c.seen.ensures.rest) at.live }) in
    let free = among_is c.as_str.result.now e.name c.scope.result.now.export_names (export_names s.exports) c.has.result false c.as_str.ensures later.export_names c.has.ensures c.if-has.false in
    outcome_err why.Typing (export_outcome l n s e) (is ∙ wants_none new.types (world_of bases new) lacks x make among c.seen.result told c.in_ok-exported.exported c.in_ok-exported.was c.in-None.is free)
