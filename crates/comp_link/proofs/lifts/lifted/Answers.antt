use Rattle.std.proofs.Common.{◌≡◌, true, sym, ◌∙◌, subst}
use Rattle.std.specs.List.{list_all}
use Rattle.link_spec.specs.declared.fault.LinkWhy.TheVariants as why
use Rattle.link_spec.specs.Canons.{Given, is_option_there}
use Rattle.link_spec.specs.Computed.{lifted_to, lifted_of}
use Rattle.link_values.specs.declared.refs.TypeRef.{TypeRef}
use Rattle.link_types.specs.Table.{IsType}
use Rattle.link_instances.specs.References.{IsLifted}
use Rattle.link_parts.specs.Told.{IsTold}
use Rattle.link_parts.proofs.Told.{reason_is}
use Rattle.link_state.specs.State.{world_of}
use Rattle.link_state.proofs.Growth.{kept_whole}
use Rattle.comp_link.proofs.LiftParts.{no_item, no_option, no_type, other_type, of_func_type, of_parts}
use Rattle.comp_link.proofs.lifts.lifted.Goals as goal

pub returns-in_default : goal.returns-in_default
returns-in_default c =
    λ bases l s at.
    reason_is why.Index (lifted_of c.args.n s c.args.core_func c.args.options.now c.args.func_type)
    (no_item c.args.n s c.args.core_func c.args.options.now c.args.func_type (sym (c.in_default.ensures c.args.linker.now.types (world_of bases c.args.linker.now) s (c.scope-scope.ensures bases l s at))))

pub returns-then-not-are_there : goal.returns-then-not-are_there
returns-then-not-are_there c =
    λ bases l s at.
    let scope = c.scope-scope.ensures bases l s at in
    reason_is why.Index (lifted_of c.args.n s c.args.core_func c.args.options.now c.args.func_type)
    (no_option c.args.n s c.args.core_func c.args.options.now c.args.func_type c.in-Some.item (sym (c.in-Some.ensures c.args.linker.now.types (world_of bases c.args.linker.now) s scope))
    (sym (c.are_there.ensures c.args.linker.now.types (world_of bases c.args.linker.now) s scope) ∙ c.if-not-are_there.true))

pub returns-in_default-type_at : goal.returns-in_default-type_at
returns-in_default-type_at c =
    λ bases l s at.
    let scope = c.scope-scope.ensures bases l s at in
    let are : list_all (is_option_there s) c.args.options.now ≡ true =
    sym (c.are_there.ensures c.args.linker.now.types (world_of bases c.args.linker.now) s scope) ∙ c.if-not-are_there.false in
    reason_is why.Index (lifted_of c.args.n s c.args.core_func c.args.options.now c.args.func_type)
    (no_type c.args.n s c.args.core_func c.args.options.now c.args.func_type c.in-Some.item (sym (c.in-Some.ensures c.args.linker.now.types (world_of bases c.args.linker.now) s scope)) are
    (c.in_default-type_at.ensures c.args.linker.now.types (world_of bases c.args.linker.now) s (kept_whole c.args.linker.now.types (world_of bases c.args.linker.now) c.scope-scope.result.now s scope)))

pub returns-in_default-of_type : goal.returns-in_default-of_type
returns-in_default-of_type c =
    λ bases l s at.
    let scope = c.scope-scope.ensures bases l s at in
    let are : list_all (is_option_there s) c.args.options.now ≡ true =
    sym (c.are_there.ensures c.args.linker.now.types (world_of bases c.args.linker.now) s scope) ∙ c.if-not-are_there.false in
    let type = c.in-Some-type_at.ensures c.args.linker.now.types (world_of bases c.args.linker.now) s (kept_whole c.args.linker.now.types (world_of bases c.args.linker.now) c.scope-scope.result.now s scope) in
    reason_is why.Typing (lifted_of c.args.n s c.args.core_func c.args.options.now c.args.func_type)
    (other_type c.args.n s c.args.core_func c.args.options.now c.args.func_type c.in-Some.item (sym (c.in-Some.ensures c.args.linker.now.types (world_of bases c.args.linker.now) s scope)) are
    c.args.linker.now.types c.in-Some-type_at.of_type type.0 c.in_default-of_type.not-Func type.1 type.2)

pub returns : goal.returns
returns c =
    λ bases l s at.
    let scope = c.scope-scope.ensures bases l s at in
    let are : list_all (is_option_there s) c.args.options.now ≡ true =
    sym (c.are_there.ensures c.args.linker.now.types (world_of bases c.args.linker.now) s scope) ∙ c.if-not-are_there.false in
    let type = c.in-Some-type_at.ensures c.args.linker.now.types (world_of bases c.args.linker.now) s (kept_whole c.args.linker.now.types (world_of bases c.args.linker.now) c.scope-scope.result.now s scope) in
    let f = of_func_type c.args.linker.now.types c.in-Func.of_func type.0 (subst (λ (ref : TypeRef). IsType c.args.linker.now.types ref type.0) c.in-Func.is type.2) in
    let given = c.given-given.ensures c.args.linker.now.types (world_of bases c.args.linker.now) s scope in
    rw (of_parts c.args.n s c.args.core_func c.args.options.now c.args.func_type c.in-Some.item (sym (c.in-Some.ensures c.args.linker.now.types (world_of bases c.args.linker.now) s scope)) are type.0 f.0 type.1 f.1)
    (subst (λ (given : Given). IsTold (IsLifted c.args.linker.now.types) c.lifted_to.result (lifted_to c.args.n f.0 c.in-Some.item c.args.options.now given)) given (c.lifted_to.ensures f.0 f.2))
