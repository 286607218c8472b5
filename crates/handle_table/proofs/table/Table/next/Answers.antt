use Rattle.std.proofs.Common.{arith, ◌≡◌, ◌+◌, ◌<◌, ◌∙◌, length}
use Rattle.handle_table.specs.Slots.{next_of}
use Rattle.handle_table.proofs.Chains.{few, next_new, next_again}
use Rattle.handle_table.proofs.Histories.{shows_next}
use Rattle.handle_table.proofs.table.Table.next.Goals as goal

pub returns-then-self-len-clause-stands : goal.returns-then-self-len-clause-stands
returns-then-self-len-clause-stands g c =
    let full : c.self.inside.live ≡ length c.self.inside.slots.items = omega (arith, c.len.ensures, c.if-self-len.true) in
    let e : c.self.inside.live + 1 ≡ next_of c.args.self.now.slots = rw (← c.self.view_is) (next_new c.self.inside.slots.items c.self.inside.last_freed c.self.inside.live full) in
    λ h st. e ∙ shows_next c.args.self.now.slots h st

pub returns-else-self-len-clause-exact : goal.returns-else-self-len-clause-exact
returns-else-self-len-clause-exact g c =
    let below : c.self.inside.live < length c.self.inside.slots.items = omega (arith, c.len.ensures, c.if-self-len.false, few c.self.inside.slots.items c.self.inside.last_freed c.self.inside.live c.self.invariant) in
    rw (← c.self.view_is) (next_again c.self.inside.slots.items c.self.inside.last_freed c.self.inside.live below)

pub returns-else-self-len-clause-stands : goal.returns-else-self-len-clause-stands
returns-else-self-len-clause-stands g c =
    let below : c.self.inside.live < length c.self.inside.slots.items = omega (arith, c.len.ensures, c.if-self-len.false, few c.self.inside.slots.items c.self.inside.last_freed c.self.inside.live c.self.invariant) in
    let e : c.self.inside.last_freed ≡ next_of c.args.self.now.slots = rw (← c.self.view_is) (next_again c.self.inside.slots.items c.self.inside.last_freed c.self.inside.live below) in
    λ h st. e ∙ shows_next c.args.self.now.slots h st
