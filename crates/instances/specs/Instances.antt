-- Component instances as they stand (Component Model, CanonicalABI.md, "Component Instance State"): the slots of a table, waitable sets and a
-- gate, and what of them a call changes.
use Rattle.std.specs.Prelude.{ℕ, Bool, List, [], Option, Some, None}
use Rattle.handle_table.specs.Slots.{Slots, no_slots, entry_at, added, removed, with_entry}
use Rattle.waitables.specs.Sets.{SetView}
use Rattle.entry_gate.specs.Gates.{GateView, new_gate}
use Rattle.res_handles.specs.declared.entry.EntryView.{EntryView}
use Rattle.res_handles.specs.Calls as handles
use Rattle.instances.specs.declared.entry.EndEntry.{EndEntry}
use Rattle.instances.specs.declared.entry.WorldEntry.{WorldEntry}
use Rattle.instances.specs.declared.entry.WorldEntry.TheVariants as entry
use Rattle.instances.specs.Entries.{seen_as, of_handle, with_idle, any_end_in}

pub record InstanceView : Type 0 where
  pub slots : Slots WorldEntry
  pub sets : List SetView
  pub gate : GateView

abbrev pub new_instance : InstanceView
new_instance = record { slots = no_slots; sets = []; gate = new_gate }

abbrev pub with_slots : Slots WorldEntry → InstanceView → InstanceView
with_slots slots i = record i { slots = slots }

abbrev pub with_sets : List SetView → InstanceView → InstanceView
with_sets sets i = record i { sets = sets }

abbrev pub with_gate : GateView → InstanceView → InstanceView
with_gate gate i = record i { gate = gate }

-- what stands at an index, and what of it is lifted
abbrev pub entry_of : InstanceView → ℕ → Option WorldEntry
entry_of i index = entry_at i.slots index

abbrev pub view_of : InstanceView → ℕ → Option EntryView
view_of i index = handles.view_at seen_as i.slots index

-- the instance with one more entry, without the one at an index, and with another one there
abbrev pub entry_added : WorldEntry → InstanceView → InstanceView
entry_added e i = with_slots (added e i.slots) i

abbrev pub entry_removed : ℕ → InstanceView → InstanceView
entry_removed index i = with_slots (removed index i.slots) i

abbrev pub entry_changed : ℕ → WorldEntry → InstanceView → InstanceView
entry_changed index e i = with_slots (with_entry index e i.slots) i

-- whether the end at an index is idle, where one is there
abbrev pub end_idled : ℕ → Bool → Option EndEntry → InstanceView → InstanceView
end_idled index is_idle None i = i
end_idled index is_idle (Some e) i = entry_changed index (entry.End (with_idle is_idle e)) i

abbrev pub idled : ℕ → Bool → InstanceView → InstanceView
idled index is_idle i = end_idled index is_idle (any_end_in (entry_of i index)) i

-- the handle at an index is lent once more, and once less
abbrev pub lent : ℕ → InstanceView → InstanceView
lent index i = with_slots (handles.lent seen_as of_handle index i.slots) i

abbrev pub given_back : ℕ → InstanceView → InstanceView
given_back index i = with_slots (handles.given_back seen_as of_handle index i.slots) i

abbrev pub lends_of : InstanceView → ℕ → ℕ
lends_of i index = handles.lends_in (view_of i index)
