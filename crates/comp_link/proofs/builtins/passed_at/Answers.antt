use Rattle.std.proofs.Common.{ℕ, List, map, refl, sym, subst, Option, Some}
use Rattle.std.specs.List.{AllZip}
use Rattle.std.proofs.lemmas.Result.{IfOk-weaker}
use Rattle.comp_graph.specs.Closed.{Closed}
use Rattle.comp_graph.specs.Passed.{MayBeAt}
use Rattle.link_spec.specs.Definitions.{Exports}
use Rattle.link_spec.specs.Spaces.{Spaces, Linking}
use Rattle.link_spec.specs.ValueTypes.{close_passed}
use Rattle.link_values.specs.declared.refs.TypeRef.{TypeRef}
use Rattle.link_types.specs.Table.{IsType}
use Rattle.link_meanings.specs.Meant.{IsFoundAs}
use Rattle.link_state.specs.State.{IsAt}
use Rattle.link_state.proofs.States.{at_grows, scope_is}
use Rattle.comp_link.proofs.builtins.passed_at.Goals as goal

pub returns-clause-found : goal.returns-clause-found
returns-clause-found c =
    let k = c.args.linker.now in
    let values = c.held_value.new.types.values in
    IfOk-weaker c.held_value.result
    (λ (o : Option (Option ℕ)). (closed : List Closed) → AllZip (IsType k.types) c.as_slice-own.result.now closed → IsFoundAs (MayBeAt values) o (close_passed (map Some closed) c.args.val_type))
    (λ (o : Option (Option ℕ)). (bases : List Exports) (l : Linking) (s : Spaces) → IsAt bases k c.args.n l s → IsFoundAs (MayBeAt values) o (close_passed (map Some s.types) c.args.val_type))
    (λ o h bases l s at.
    let scope = scope_is bases k c.args.n l s c.index.result.now c.index.ensures c.requires at in
    h s.types (subst (λ (refs : List TypeRef). AllZip (IsType k.types) refs s.types) (sym c.as_slice-own.ensures.value) scope.types))
    c.held_value.ensures.ok

pub returns-clause-at : goal.returns-clause-at
returns-clause-at c = λ bases l s at.
    let k = c.args.linker.now in
    at_grows bases k (record k { types = c.held_value.new.types }) c.args.n l s c.held_value.ensures.grows refl at
