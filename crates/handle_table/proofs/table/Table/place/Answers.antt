use Rattle.std.proofs.Common.{◌<◌, arith, length}
use Rattle.handle_table.specs.Slots.{count}
use Rattle.handle_table.specs.Chains.{shown}
use Rattle.handle_table.proofs.Chains.{few, again_kept, again_shown, again_limit, next_again}
use Rattle.handle_table.proofs.table.Table.place.Goals as goal

pub invariant_of-self-2 : goal.invariant_of-self-2
invariant_of-self-2 g c =
    let room : count (shown c.self.inside.slots.items c.self.inside.last_freed c.self.inside.live) < 65535 = rw (← c.self.view_is) at c.requires.few in
    let below : c.self.inside.live < length c.self.inside.slots.items = omega (arith, c.len.ensures, c.if-self-len.false, few c.self.inside.slots.items c.self.inside.last_freed c.self.inside.live c.self.invariant) in
    again_kept c.self.inside.slots.items c.self.inside.last_freed c.self.inside.live c.args.entry c.index.result.now c.freed_before-before.result room below c.index.ensures c.freed_before-before.ensures c.self.invariant

pub returns-clause-exact : goal.returns-clause-exact
returns-clause-exact g c =
    let below : c.self.inside.live < length c.self.inside.slots.items = omega (arith, c.len.ensures, c.if-self-len.false, few c.self.inside.slots.items c.self.inside.last_freed c.self.inside.live c.self.invariant) in
    record {
      few = c.requires.few;
      index = rw (← c.self.view_is) (next_again c.self.inside.slots.items c.self.inside.last_freed c.self.inside.live below);
      slots =
          rw (← c.self.view_is)
          (again_shown c.self.inside.slots.items c.self.inside.last_freed c.self.inside.live c.args.entry c.index.result.now c.freed_before-before.result below c.index.ensures c.freed_before-before.ensures c.self.invariant);
      spare = rw (← c.self.view_is) (omega arith);
    }

pub returns-clause-limit : goal.returns-clause-limit
returns-clause-limit g c =
    let below : c.self.inside.live < length c.self.inside.slots.items = omega (arith, c.len.ensures, c.if-self-len.false, few c.self.inside.slots.items c.self.inside.last_freed c.self.inside.live c.self.invariant) in
    again_limit c.self.inside.slots.items c.self.inside.last_freed c.self.inside.live below c.self.invariant
