-- What is asked of tables where values are passed (Component Model, CanonicalABI.md, "Table State", "Resource State"): their freed indices are those of empty
-- slots, and a handle alone is lent.
use Rattle.std.specs.Prelude.{◌≡◌, ℕ, List, Some}
use Rattle.std.specs.List.{slice_get}
use Rattle.res_handles.specs.declared.handle.Handle.{Handle}
use Rattle.instances.specs.declared.entry.WorldEntry.TheVariants as entry
use Rattle.instances.specs.Instances.{InstanceView, entry_of}
use Rattle.task_table.specs.declared.slot.TaskSlot.{TaskSlot}
use Rattle.world_parts.specs.Held.{Held}
use Rattle.standing.specs.KeptMarks.{lends_at}
use Rattle.run_laws.specs.keeping.Kept.{TableIsSound}

-- Where no handle stands nothing is lent.
abbrev pub HandlesAloneLent : List InstanceView → List TaskSlot → Type 0
HandlesAloneLent instances tasks =
    (at index : ℕ) (i : InstanceView) → slice_get instances at ≡ Some i → ((x : Handle) → entry_of i index ≡ Some (entry.Handle x) → ⊥) → lends_at tasks at index ≡ 0

pub record TablesWell (h : Held) : Type 0 where
  pub sound : (at : ℕ) → TableIsSound h at
  pub lent : HandlesAloneLent h.instances h.tasks
