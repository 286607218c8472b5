use Rattle.std.proofs.Common.{◌≡◌, ◌≤◌, ◌-◌, Some, refl, sym, ap, ◌∙◌, length, map, vec_capacity, is_some, IsSome}
use Rattle.handle_table.specs.Slots.{slot_at}
use Rattle.handle_table.specs.Chains.{entry_of}
use Rattle.handle_table.proofs.Chains.{live_place, entry_read, changed_kept, write_shown}
use Rattle.handle_table.proofs.table.Table.entry_mut.Goals as goal

pub entry_mut-requires : goal.entry_mut-requires
entry_mut-requires g c =
    let full : IsSome (slot_at (map entry_of c.self.inside.slots.items) c.args.index) = rw (← c.self.view_is) at c.requires in
    let within : (1 ≤ c.args.index) × (c.args.index ≤ length c.self.inside.slots.items) = live_place c.self.inside.slots.items c.args.index full in
    ap is_some (entry_read c.self.inside.slots.items c.args.index c.index_mut.result.now within.0 within.1 c.index_mut.ensures.value) ∙ full

pub invariant_of-self-lent : goal.invariant_of-self-lent
invariant_of-self-lent g c w =
    let full : IsSome (slot_at (map entry_of c.self.inside.slots.items) c.args.index) = rw (← c.self.view_is) at c.requires in
    changed_kept c.self.inside.slots.items c.self.inside.last_freed c.self.inside.live c.args.index w full c.self.invariant

pub returns : goal.returns
returns g c =
    let full : IsSome (slot_at (map entry_of c.self.inside.slots.items) c.args.index) = rw (← c.self.view_is) at c.requires in
    let within : (1 ≤ c.args.index) × (c.args.index ≤ length c.self.inside.slots.items) = live_place c.self.inside.slots.items c.args.index full in
    let read : slot_at (map entry_of c.self.inside.slots.items) c.args.index ≡ Some c.entry_mut.result.now =
    sym (entry_read c.self.inside.slots.items c.args.index c.index_mut.result.now within.0 within.1 c.index_mut.ensures.value) ∙ c.entry_mut.ensures.value in (
      (refl {a = c.entry_mut.result.ghost_name}, λ w. rw (← c.self.view_is) (write_shown c.self.inside.slots.items c.self.inside.last_freed c.self.inside.live c.args.index (vec_capacity c.self.inside.slots - c.self.inside.live) w full c.self.invariant)),
      record { writes_back = tt; value = rw (← c.self.view_is) read },
    )
