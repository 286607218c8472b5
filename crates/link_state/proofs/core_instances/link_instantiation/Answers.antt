use Rattle.std.proofs.Common.{◌≤◌, ◌<◌, ◌∙◌, List, sym, ap, subst, arith, length, map}
use Rattle.std.proofs.lemmas.Result.{err_from_is_err_and}
use Rattle.comp_tree.specs.declared.core_instances.CoreInstance.TheVariants as made_core
use Rattle.link_spec.specs.declared.fault.LinkWhy.TheVariants as why
use Rattle.link_spec.specs.Definitions.{CoreItem, extern_of}
use Rattle.link_spec.specs.Items.{instance_limit, core_made}
use Rattle.link_spec.specs.Computed.{core_instance_outcome}
use Rattle.link_parts.proofs.Told.{reason_is, reason_of_fault}
use Rattle.link_state.specs.declared.linker.Linker.{Linker}
use Rattle.link_state.specs.State.{IsAt}
use Rattle.link_state.proofs.Made.{made_told}
use Rattle.link_state.proofs.CoreParts.{imports_refused, within_limit, past_limit}
use Rattle.link_state.proofs.core_instances.link_instantiation.Goals as goal

pub returns-in_err-items-clause-made : goal.returns-in_err-items-clause-made
returns-in_err-items-clause-made c =
    λ bases l s at reached.
    let m = c.in-Some.ensures.found bases l s at in
    let p = err_from_is_err_and c.from_residual.result c.from_residual.ensures.1 in
    rw (p.1, p.2)
    (imports_refused l c.args.n s c.args.index c.args.arguments.now m.0 m.1 _ (reason_of_fault _ _ (c.in_err-items.ensures.told bases l s m.0 at reached m.2)))

pub returns-then-core_count-ge-INSTANCE_LIMIT-clause-made : goal.returns-then-core_count-ge-INSTANCE_LIMIT-clause-made
returns-then-core_count-ge-INSTANCE_LIMIT-clause-made c =
    λ bases l s at reached.
    let m = c.in-Some.ensures.found bases l s at in
    let still = subst (λ (k : Linker). IsAt bases k c.args.n l s) (sym c.in_ok-items.ensures.same) at in
    let past : instance_limit ≤ length l.cores = omega (arith, c.if-core_count-ge-INSTANCE_LIMIT.true, c.core_count.ensures bases l still.state) in
    reason_is why.Limit (core_instance_outcome l c.args.n s (made_core.Instantiate c.args.index c.args.arguments.now))
    (past_limit l c.args.n s c.args.index c.args.arguments.now m.0 m.1 c.in_ok-items.items.items (c.in_ok-items.ensures.told bases l s m.0 at reached m.2) past)

pub returns-clause-made : goal.returns-clause-made
returns-clause-made c =
    λ bases l s at reached.
    let m = c.in-Some.ensures.found bases l s at in
    let still = subst (λ (k : Linker). IsAt bases k c.args.n l s) (sym c.in_ok-items.ensures.same) at in
    let within : length l.cores < instance_limit = omega (arith, c.if-core_count-ge-INSTANCE_LIMIT.false, c.core_count.ensures bases l still.state) in
    let items = c.in_ok-items.items.items in
    made_told c.add_core_instance.new.self bases (core_instance_outcome l c.args.n s (made_core.Instantiate c.args.index c.args.arguments.now)) (core_made l c.args.n s m.0 items)
    (within_limit l c.args.n s c.args.index c.args.arguments.now m.0 m.1 items (c.in_ok-items.ensures.told bases l s m.0 at reached m.2) within)
    (c.in_ok-add_core_instance.ensures.ok bases l s m.0 items still (rw c.in_ok-items.ensures.same m.2) (c.in_ok-externs.ensures ∙ ap (λ (items : List CoreItem). map extern_of items) c.deref.ensures.value))
