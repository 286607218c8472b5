use Rattle.std.proofs.Common.{◌≡◌, ◌∙◌, refl, sym, true}
use Rattle.link_spec.specs.declared.fault.LinkWhy.TheVariants as why
use Rattle.link_spec.specs.Canons.{stand_once, can_be_lifted}
use Rattle.link_spec.specs.Computed.{lifted_to}
use Rattle.link_instances.specs.References.{IsLifted}
use Rattle.link_parts.proofs.Told.{told_why, told_value}
use Rattle.link_items.proofs.LiftParts.{not_once, not_lifted, no_core, is_lift}
use Rattle.link_items.proofs.lifts.lifted_to.Goals as goal

pub returns-then-not-stand_once : goal.returns-then-not-stand_once
returns-then-not-stand_once c =
    λ f h.
    told_why (IsLifted c.args.types.now) why.Canon (lifted_to c.args.n f c.args.item.now c.args.options.now c.args.given.now)
    (not_once c.args.n f c.args.item.now c.args.options.now c.args.given.now (sym c.stand_once.ensures ∙ c.if-not-stand_once.true))

pub returns-then-not-can_be_lifted : goal.returns-then-not-can_be_lifted
returns-then-not-can_be_lifted c =
    λ f h.
    let once : stand_once c.args.options.now ≡ true = sym c.stand_once.ensures ∙ c.if-not-stand_once.false in
    told_why (IsLifted c.args.types.now) why.Canon (lifted_to c.args.n f c.args.item.now c.args.options.now c.args.given.now)
    (not_lifted c.args.n f c.args.item.now c.args.options.now c.args.given.now once (sym (c.can_be_lifted.ensures f (c.in-Some.ensures f h)) ∙ c.if-not-can_be_lifted.true))

pub returns-in_default-core_func : goal.returns-in_default-core_func
returns-in_default-core_func c =
    λ f h.
    let once : stand_once c.args.options.now ≡ true = sym c.stand_once.ensures ∙ c.if-not-stand_once.false in
    let lifts : can_be_lifted f c.args.item.now c.args.given.now ≡ true = sym (c.can_be_lifted.ensures f (c.in-Some.ensures f h)) ∙ c.if-not-can_be_lifted.false in
    told_why (IsLifted c.args.types.now) why.Canon (lifted_to c.args.n f c.args.item.now c.args.options.now c.args.given.now)
    (no_core c.args.n f c.args.item.now c.args.options.now c.args.given.now once lifts (sym c.core_func.ensures ∙ c.in_default-core_func.is))

pub returns : goal.returns
returns c =
    λ f h.
    let once : stand_once c.args.options.now ≡ true = sym c.stand_once.ensures ∙ c.if-not-stand_once.false in
    let lifts : can_be_lifted f c.args.item.now c.args.given.now ≡ true = sym (c.can_be_lifted.ensures f (c.in-Some.ensures f h)) ∙ c.if-not-can_be_lifted.false in
    told_value (IsLifted c.args.types.now) _ _ (lifted_to c.args.n f c.args.item.now c.args.options.now c.args.given.now)
    (is_lift c.args.n f c.args.item.now c.args.options.now c.args.given.now once lifts c.in-Some-core_func.core (sym c.core_func.ensures ∙ c.in-Some-core_func.is))
    (record { instance = sym c.in_ok-instance.ensures; core = refl; options = sym c.options.ensures; func_type = h })
