use Rattle.std.proofs.Common.{◌≡◌, true, ◌≤◌, sym, ap, ◌∙◌, length, map, IsSome, is_some}
use Rattle.handle_table.specs.Slots.{entry_at, slot_at}
use Rattle.handle_table.specs.Chains.{entry_of}
use Rattle.handle_table.proofs.Chains.{live_place, entry_read, removed_kept, removed_shown, of_some}
use Rattle.handle_table.proofs.Standing.{removed_shows}
use Rattle.handle_table.proofs.table.Table.remove.Goals as goal

pub invariant_of-self : goal.invariant_of-self
invariant_of-self g c =
    let live : true ≡ is_some (entry_at c.args.self.now.slots c.args.index) = c.if-not-is_live.ensures {u = tt} in
    let seen : true ≡ is_some (slot_at (map entry_of c.self.inside.slots.items) c.args.index) = rw (← c.self.view_is) at live in
    rw c.replace-slot.ensures.after (removed_kept c.self.inside.slots.items c.self.inside.last_freed c.self.inside.live c.args.index (sym seen) c.self.invariant)

pub returns-clause-value : goal.returns-clause-value
returns-clause-value g c =
    let live : true ≡ is_some (entry_at c.args.self.now.slots c.args.index) = c.if-not-is_live.ensures {u = tt} in
    let seen : true ≡ is_some (slot_at (map entry_of c.self.inside.slots.items) c.args.index) = rw (← c.self.view_is) at live in
    let within : (1 ≤ c.args.index) × (c.args.index ≤ length c.self.inside.slots.items) = live_place c.self.inside.slots.items c.args.index (sym seen) in
    rw (← c.self.view_is)
    (c.into_entry.ensures
    ∙ ap entry_of c.replace-slot.ensures.value
    ∙ entry_read c.self.inside.slots.items c.args.index c.index_mut.result.now within.0 within.1 c.index_mut.ensures.value)

pub returns-clause-exact : goal.returns-clause-exact
returns-clause-exact g c =
    let live : true ≡ is_some (entry_at c.args.self.now.slots c.args.index) = c.if-not-is_live.ensures {u = tt} in
    let seen : true ≡ is_some (slot_at (map entry_of c.self.inside.slots.items) c.args.index) = rw (← c.self.view_is) at live in
    let within : (1 ≤ c.args.index) × (c.args.index ≤ length c.self.inside.slots.items) = live_place c.self.inside.slots.items c.args.index (sym seen) in
    let value : c.into_entry.result ≡ slot_at (map entry_of c.self.inside.slots.items) c.args.index =
    c.into_entry.ensures ∙ ap entry_of c.replace-slot.ensures.value ∙ entry_read c.self.inside.slots.items c.args.index c.index_mut.result.now within.0 within.1 c.index_mut.ensures.value in
    let some : IsSome c.into_entry.result = ap is_some value ∙ sym seen in
    of_some c.into_entry.result _ _ some
    (rw (← c.self.view_is, c.replace-slot.ensures.after) (removed_shown c.self.inside.slots.items c.self.inside.last_freed c.self.inside.live c.args.index (sym seen) c.self.invariant))

pub returns-clause-stands : goal.returns-clause-stands
returns-clause-stands g c =
    let live : true ≡ is_some (entry_at c.args.self.now.slots c.args.index) = c.if-not-is_live.ensures {u = tt} in
    let seen : true ≡ is_some (slot_at (map entry_of c.self.inside.slots.items) c.args.index) = rw (← c.self.view_is) at live in
    let within : (1 ≤ c.args.index) × (c.args.index ≤ length c.self.inside.slots.items) = live_place c.self.inside.slots.items c.args.index (sym seen) in
    let read : c.into_entry.result ≡ slot_at (map entry_of c.self.inside.slots.items) c.args.index =
    c.into_entry.ensures ∙ ap entry_of c.replace-slot.ensures.value ∙ entry_read c.self.inside.slots.items c.args.index c.index_mut.result.now within.0 within.1 c.index_mut.ensures.value in
    let value : c.into_entry.result ≡ entry_at c.args.self.now.slots c.args.index = rw (← c.self.view_is) read in
    let some : IsSome c.into_entry.result = ap is_some read ∙ sym seen in
    removed_shows c.args.self.now.slots _ c.args.index c.into_entry.result value some
    (rw (← c.self.view_is, c.replace-slot.ensures.after) (removed_shown c.self.inside.slots.items c.self.inside.last_freed c.self.inside.live c.args.index (sym seen) c.self.invariant))
