use Rattle.std.proofs.Common.{◌≡◌, ◌∙◌, sym, true}
use Rattle.comp_graph.specs.declared.graph.Options.{Options}
use Rattle.link_spec.specs.declared.fault.LinkWhy.TheVariants as why
use Rattle.link_spec.specs.Canons.{Given, options_of, stand_once, can_be_lowered}
use Rattle.link_spec.specs.Computed.{lowered_from}
use Rattle.link_parts.proofs.Told.{told_why, told_value}
use Rattle.link_items.proofs.LowerParts.{not_once, not_lowered, is_lower}
use Rattle.link_items.proofs.lowers.lowered_from.Goals as goal

abbrev Uses : Options → Given → Type 0
Uses used given = used ≡ options_of given

pub returns-then-not-stand_once : goal.returns-then-not-stand_once
returns-then-not-stand_once c = λ f h.
    told_why Uses why.Canon (lowered_from f c.args.options.now c.args.given.now)
    (not_once f c.args.options.now c.args.given.now (sym c.stand_once.ensures ∙ c.if-not-stand_once.true))

pub returns-then-not-can_be_lowered : goal.returns-then-not-can_be_lowered
returns-then-not-can_be_lowered c = λ f h.
    let once : stand_once c.args.options.now ≡ true = sym c.stand_once.ensures ∙ c.if-not-stand_once.false in
    told_why Uses why.Canon (lowered_from f c.args.options.now c.args.given.now)
    (not_lowered f c.args.options.now c.args.given.now once (sym (c.can_be_lowered.ensures f (c.in-Some.ensures f h)) ∙ c.if-not-can_be_lowered.true))

pub returns : goal.returns
returns c = λ f h.
    let once : stand_once c.args.options.now ≡ true = sym c.stand_once.ensures ∙ c.if-not-stand_once.false in
    let lowers : can_be_lowered f c.args.given.now ≡ true = sym (c.can_be_lowered.ensures f (c.in-Some.ensures f h)) ∙ c.if-not-can_be_lowered.false in
    told_value Uses _ _ (lowered_from f c.args.options.now c.args.given.now)
    (is_lower f c.args.options.now c.args.given.now once lowers) c.options.ensures
