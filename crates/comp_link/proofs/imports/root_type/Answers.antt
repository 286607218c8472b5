use Rattle.std.proofs.Common.{List, refl, sym, ◌∙◌, subst, None, true, false}
use Rattle.std.specs.List.{AllZip}
use Rattle.link_spec.specs.declared.fault.LinkWhy.TheVariants as why
use Rattle.link_spec.specs.Items.{meant_of}
use Rattle.link_spec.specs.Computed.{import_outcome, root_given}
use Rattle.link_values.specs.declared.refs.TypeRef.{TypeRef}
use Rattle.link_types.specs.Table.{IsType, IsExtern}
use Rattle.link_state.specs.State.{world_of}
use Rattle.link_state.proofs.Steps.{none_found, some_found, outcome_err, among_is}
use Rattle.comp_link.specs.Ready.{imported}
use Rattle.comp_link.proofs.Wanting.{root_told, root_refused, root_absent, root_among, root_none, root_some, root_types}
use Rattle.comp_link.proofs.imports.root_type.Goals as goal

pub returns-then-not-root_may_import : goal.returns-then-not-root_may_import
returns-then-not-root_may_import c = λ bases l s at.
    let k = c.args.linker.now in
    let i = c.args.import.now in
    let n = c.args.n in
    let meaning = meant_of s None i.desc in
    let scope = c.scope-scope.ensures bases l s at in
    let m = c.wanted_of-meant.ensures k.types (world_of bases k) s.types None (subst (λ (refs : List TypeRef). AllZip (IsType k.types) refs s.types) (sym c.deref.ensures.value) scope.types) refl in
    let may = sym (c.root_may_import.ensures (world_of bases k) meaning.means at.state.instances m.means) in
    outcome_err why.RootImport (import_outcome l n s i.name meaning i.desc None) (root_refused l n s i.name meaning i.desc (may ∙ c.if-not-root_may_import.true))

pub returns-then-not-meant : goal.returns-then-not-meant
returns-then-not-meant c = λ bases l s at.
    let k = c.args.linker.now in
    let i = c.args.import.now in
    let n = c.args.n in
    let meaning = meant_of s None i.desc in
    let scope = c.scope-scope.ensures bases l s at in
    let m = c.wanted_of-meant.ensures k.types (world_of bases k) s.types None (subst (λ (refs : List TypeRef). AllZip (IsType k.types) refs s.types) (sym c.deref.ensures.value) scope.types) refl in
    let may = sym (c.root_may_import.ensures (world_of bases k) meaning.means at.state.instances m.means) in
    outcome_err why.Index (import_outcome l n s i.name meaning i.desc None) (root_absent l n s i.name meaning i.desc (may ∙ c.if-not-root_may_import.false) (sym m.is_there ∙ c.if-not-meant.true))

pub returns-then-has : goal.returns-then-has
returns-then-has c = λ bases l s at.
    let k = c.args.linker.now in
    let i = c.args.import.now in
    let n = c.args.n in
    let meaning = meant_of s None i.desc in
    let scope = c.scope-scope.ensures bases l s at in
    let m = c.wanted_of-meant.ensures k.types (world_of bases k) s.types None (subst (λ (refs : List TypeRef). AllZip (IsType k.types) refs s.types) (sym c.deref.ensures.value) scope.types) refl in
    let may = sym (c.root_may_import.ensures (world_of bases k) meaning.means at.state.instances m.means) in
    let taken = among_is c.as_str.result.now i.name c.scope-scope.result.now.imports s.imports c.has.result true c.as_str.ensures scope.imports c.has.ensures c.if-has.true in
    outcome_err why.Typing (import_outcome l n s i.name meaning i.desc None) (root_among l n s i.name meaning i.desc (may ∙ c.if-not-root_may_import.false) (sym m.is_there ∙ c.if-not-meant.false) taken)

pub returns-in-None : goal.returns-in-None
returns-in-None c = λ bases l s at.
    let k = c.args.linker.now in
    let i = c.args.import.now in
    let n = c.args.n in
    let meaning = meant_of s None i.desc in
    let scope = c.scope-scope.ensures bases l s at in
    let m = c.wanted_of-meant.ensures k.types (world_of bases k) s.types None (subst (λ (refs : List TypeRef). AllZip (IsType k.types) refs s.types) (sym c.deref.ensures.value) scope.types) refl in
    let may = sym (c.root_may_import.ensures (world_of bases k) meaning.means at.state.instances m.means) in
    let free = among_is c.as_str.result.now i.name c.scope-scope.result.now.imports s.imports c.has.result false c.as_str.ensures scope.imports c.has.ensures c.if-has.false in
    let none = none_found (IsExtern k.types) c.wanted_of-meant.result.means meaning.means c.in-None.is m.means in
    outcome_err why.Typing (import_outcome l n s i.name meaning i.desc None) (root_none l n s i.name meaning i.desc (may ∙ c.if-not-root_may_import.false) (sym m.is_there ∙ c.if-not-meant.false) free none)

pub returns-in-Some : goal.returns-in-Some
returns-in-Some c = λ bases l s at.
    let k = c.args.linker.now in
    let i = c.args.import.now in
    let n = c.args.n in
    let meaning = meant_of s None i.desc in
    let scope = c.scope-scope.ensures bases l s at in
    let m = c.wanted_of-meant.ensures k.types (world_of bases k) s.types None (subst (λ (refs : List TypeRef). AllZip (IsType k.types) refs s.types) (sym c.deref.ensures.value) scope.types) refl in
    let may = sym (c.root_may_import.ensures (world_of bases k) meaning.means at.state.instances m.means) in
    let free = among_is c.as_str.result.now i.name c.scope-scope.result.now.imports s.imports c.has.result false c.as_str.ensures scope.imports c.has.ensures c.if-has.false in
    let one = some_found (IsExtern k.types) c.wanted_of-meant.result.means c.in-Some.asked meaning.means c.in-Some.is m.means in
    let types = root_types i.desc meaning.means one.0 one.1 (may ∙ c.if-not-root_may_import.false) in
    let is = root_some l n s i.name meaning i.desc (may ∙ c.if-not-root_may_import.false) (sym m.is_there ∙ c.if-not-meant.false) free one.0 one.1 in
    rw is (root_told k.types (imported l n s i.name) c.given_type.result (root_given one.0) (c.given_type.ensures k.types one.0 one.2 types))
