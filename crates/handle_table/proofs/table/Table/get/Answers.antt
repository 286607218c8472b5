use Rattle.std.proofs.Common.{arith, ◌≡◌, ◌∙◌}
use Rattle.std.proofs.lemmas.Grind.{common_steps}
use Rattle.std.specs.Option.{option_copied}
use Rattle.handle_table.specs.declared.slot.Slot.TheVariants.{Free}
use Rattle.handle_table.specs.Slots.{entry_at}
use Rattle.handle_table.proofs.Chains.{entry_at_place}
use Rattle.handle_table.proofs.Histories.{shows_entry}
use Rattle.handle_table.proofs.table.Table.get.Goals as goal

pub returns-in_err-place-clause-stands : goal.returns-in_err-place-clause-stands
returns-in_err-place-clause-stands g c = let e : option_copied c.from_residual.result ≡ entry_at c.args.self.now.slots c.args.index = grind (arith, common_steps) in λ h st. e ∙ shows_entry c.args.self.now.slots h c.args.index st

pub returns-in_err-get-clause-stands : goal.returns-in_err-get-clause-stands
returns-in_err-get-clause-stands g c = let e : option_copied c.from_residual-in_err-get.result ≡ entry_at c.args.self.now.slots c.args.index = grind (arith, common_steps) in λ h st. e ∙ shows_entry c.args.self.now.slots h c.args.index st

pub returns-clause-exact : goal.returns-clause-exact
returns-clause-exact g c =
    let lookup = c.in_ok-get.ensures.lookup in
    rw (← c.self.view_is)
    (c.entry.ensures ∙ entry_at_place c.deref.result.now c.self.inside.slots.items c.in_ok-place.place c.args.index c.in_ok-get.field-0.now (lookup.3.1 (Free 0)) c.deref.ensures.value c.in_ok-place.ensures)

pub returns-clause-stands : goal.returns-clause-stands
returns-clause-stands g c =
    let lookup = c.in_ok-get.ensures.lookup in
    let e : option_copied c.entry.result ≡ entry_at c.args.self.now.slots c.args.index =
    rw (← c.self.view_is)
    (c.entry.ensures ∙ entry_at_place c.deref.result.now c.self.inside.slots.items c.in_ok-place.place c.args.index c.in_ok-get.field-0.now (lookup.3.1 (Free 0)) c.deref.ensures.value c.in_ok-place.ensures) in
    λ h st. e ∙ shows_entry c.args.self.now.slots h c.args.index st
