use Rattle.std.proofs.Common.{◌<◌, ◌≤◌, ℕ, refl, subst, true, false}
use Rattle.link_spec.specs.Definitions.{export_names}
use Rattle.link_spec.specs.Spaces.{definition_at}
use Rattle.link_spec.specs.Computed.{export_outcome}
use Rattle.link_spec.specs.declared.fault.LinkWhy.TheVariants as why
use Rattle.link_instances.specs.References.{Stands}
use Rattle.link_state.specs.State.{world_of}
use Rattle.link_state.proofs.Steps.{none_found, some_found, outcome_err, among_is}
use Rattle.comp_link.specs.Ready.{exported}
use Rattle.comp_link.proofs.Readying.{outcome_ready}
use Rattle.comp_link.proofs.Wanting.{export_index, plain_none, plain_among, plain_some}
use Rattle.comp_link.proofs.exports.plain_export.Goals as goal

pub returns-then-export-size : goal.returns-then-export-size
returns-then-export-size c = λ bases l s at plain.
    let k = c.args.linker.now in
    let e = c.args.export.now in
    let size = c.size.ensures k.types (world_of bases k) s (c.scope-scope.ensures bases l s at) in
    outcome_err why.Index (export_outcome l c.args.n s e) (export_index l c.args.n s e (subst (λ (m : ℕ). m ≤ e.index) size c.if-export-size.true))

pub returns-in_default : goal.returns-in_default
returns-in_default c = λ bases l s at plain.
    let k = c.args.linker.now in
    let w = world_of bases k in
    let e = c.args.export.now in
    let scope = c.scope-scope.ensures bases l s at in
    let within = subst (λ (m : ℕ). e.index < m) (c.size.ensures k.types w s scope) c.if-export-size.false in
    let none = none_found (Stands k.types w) c.definition.result (definition_at s e.sort e.index) c.in_default.is (c.definition.ensures k.types w s scope) in
    outcome_err why.Typing (export_outcome l c.args.n s e) (plain_none l c.args.n s e within plain none)

pub returns-then-has : goal.returns-then-has
returns-then-has c = λ bases l s at plain.
    let k = c.args.linker.now in
    let w = world_of bases k in
    let e = c.args.export.now in
    let scope = c.scope-scope.ensures bases l s at in
    let within = subst (λ (m : ℕ). e.index < m) (c.size.ensures k.types w s scope) c.if-export-size.false in
    let one = some_found (Stands k.types w) c.definition.result c.in-Some.definition (definition_at s e.sort e.index) c.in-Some.is (c.definition.ensures k.types w s scope) in
    let among = among_is c.as_str.result.now e.name c.scope-scope.result.now.export_names (export_names s.exports) c.has.result true c.as_str.ensures scope.export_names c.has.ensures c.if-has.true in
    outcome_err why.Typing (export_outcome l c.args.n s e) (plain_among l c.args.n s e within plain one.0 one.1 among)

pub returns : goal.returns
returns c = λ bases l s at plain.
    let k = c.args.linker.now in
    let w = world_of bases k in
    let e = c.args.export.now in
    let scope = c.scope-scope.ensures bases l s at in
    let within = subst (λ (m : ℕ). e.index < m) (c.size.ensures k.types w s scope) c.if-export-size.false in
    let one = some_found (Stands k.types w) c.definition.result c.in-Some.definition (definition_at s e.sort e.index) c.in-Some.is (c.definition.ensures k.types w s scope) in
    let free = among_is c.as_str.result.now e.name c.scope-scope.result.now.export_names (export_names s.exports) c.has.result false c.as_str.ensures scope.export_names c.has.ensures c.if-has.false in
    outcome_ready k l (exported l c.args.n s e.name) c.in-Some.definition (export_outcome l c.args.n s e) (exported l c.args.n s e.name one.0) (plain_some l c.args.n s e within plain one.0 one.1 free)
    (record { bases = bases; state = at.state; definition = one.0; stands = one.2; makes = refl })
