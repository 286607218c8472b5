use Rattle.std.proofs.Common.{◌≡◌, true, refl, sym, ap, ◌∙◌, subst}
use Rattle.std.specs.Prelude.{Result, Ok}
use Rattle.std.specs.List.{list_all}
use Rattle.std.proofs.lemmas.Result.{err_from_is_err_and}
use Rattle.comp_graph.specs.declared.graph.Options.{Options}
use Rattle.link_spec.specs.declared.fault.LinkWhy.{LinkWhy}
use Rattle.link_spec.specs.declared.fault.LinkWhy.TheVariants as why
use Rattle.link_spec.specs.Canons.{Given, given_by, options_of, is_option_there}
use Rattle.link_spec.specs.Items.{lower_made}
use Rattle.link_spec.specs.Computed.{Makes, after, lowered_from, lower_outcome}
use Rattle.link_parts.specs.Told.{IsReason, IsTold}
use Rattle.link_parts.proofs.Told.{reason_is, reason_after, value_told, told_value}
use Rattle.link_state.specs.State.{world_of}
use Rattle.comp_link.specs.Ready.{IsLowering}
use Rattle.comp_link.proofs.CanonParts.{no_func, no_option, of_parts}
use Rattle.comp_link.proofs.lowers.lowered.Goals as goal

pub returns-in_default : goal.returns-in_default
returns-in_default c = λ bases l s at.
    reason_is why.Index (lower_outcome l c.args.n s c.args.func c.args.options.now)
    (no_func l c.args.n s c.args.func c.args.options.now (c.in_default.ensures c.args.linker.now.types (world_of bases c.args.linker.now) s (c.scope-scope.ensures bases l s at)))

pub returns-then-not-are_there : goal.returns-then-not-are_there
returns-then-not-are_there c = λ bases l s at.
    let scope = c.scope-scope.ensures bases l s at in
    let func = c.in-Some.ensures c.args.linker.now.types (world_of bases c.args.linker.now) s scope in
    reason_is why.Index (lower_outcome l c.args.n s c.args.func c.args.options.now)
    (no_option l c.args.n s c.args.func c.args.options.now func.0 func.1
    (sym (c.are_there.ensures c.args.linker.now.types (world_of bases c.args.linker.now) s scope) ∙ c.if-not-are_there.true))

pub returns-in_err-used : goal.returns-in_err-used
returns-in_err-used c = λ bases l s at.
    let scope = c.scope-scope.ensures bases l s at in
    let func = c.in-Some.ensures c.args.linker.now.types (world_of bases c.args.linker.now) s scope in
    let are : list_all (is_option_there s) c.args.options.now ≡ true =
    sym (c.are_there.ensures c.args.linker.now.types (world_of bases c.args.linker.now) s scope) ∙ c.if-not-are_there.false in
    let given : c.given-given.result ≡ given_by s c.args.options.now = c.given-given.ensures c.args.linker.now.types (world_of bases c.args.linker.now) s scope in
    let told : IsReason c.in_err-used.field-0.0 (lowered_from func.0.func_type c.args.options.now (given_by s c.args.options.now)) =
    subst (λ (given : Given). IsReason c.in_err-used.field-0.0 (lowered_from func.0.func_type c.args.options.now given)) given (c.in_err-used.ensures func.0.func_type func.2.func_type) in
    let p = err_from_is_err_and c.from_residual.result c.from_residual.ensures.1 in
    rw (p.1, p.2, of_parts l c.args.n s c.args.func c.args.options.now func.0 func.1 are)
    (reason_after _ (lowered_from func.0.func_type c.args.options.now (given_by s c.args.options.now)) _ told)

pub returns : goal.returns
returns c = λ bases l s at.
    let scope = c.scope-scope.ensures bases l s at in
    let func = c.in-Some.ensures c.args.linker.now.types (world_of bases c.args.linker.now) s scope in
    let are : list_all (is_option_there s) c.args.options.now ≡ true =
    sym (c.are_there.ensures c.args.linker.now.types (world_of bases c.args.linker.now) s scope) ∙ c.if-not-are_there.false in
    let given : c.given-given.result ≡ given_by s c.args.options.now = c.given-given.ensures c.args.linker.now.types (world_of bases c.args.linker.now) s scope in
    let uses = λ (used : Options) (given : Given). used ≡ options_of given in
    let from = value_told uses c.in_ok-used.used (lowered_from func.0.func_type c.args.options.now (given_by s c.args.options.now))
    (subst (λ (given : Given). IsTold {W = LinkWhy} uses (Ok c.in_ok-used.used) (lowered_from func.0.func_type c.args.options.now given)) given (c.in_ok-used.ensures func.0.func_type func.2.func_type)) in
    told_value (IsLowering c.args.linker.now.types l c.args.n s) _ (Makes (lower_made l c.args.n s func.0 from.0)) (lower_outcome l c.args.n s c.args.func c.args.options.now)
    (of_parts l c.args.n s c.args.func c.args.options.now func.0 func.1 are ∙ ap (λ (r : Result Given LinkWhy). after r (λ given. Ok (Makes (lower_made l c.args.n s func.0 given)))) from.1)
    (record { lifted = func.0; given = from.0; stands = func.2; used = from.2; makes = refl })
