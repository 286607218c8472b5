-- Component instances (Component Model, CanonicalABI.md, "Component Instance State", "Table State"): what is kept of one stands for one of the
-- machine. A type is kept by its number among the types of values, of which none stands twice. How often a handle is lent, whether an end is
-- idle, and who holds or waits for exclusive entry are kept beside it, and are not said here.
use Rattle.std.specs.Prelude.{◌≡◌, ℕ, List, map, Option, Some}
use Rattle.std.specs.List.{slice_get}
use Rattle.syntax_trees.specs.declared.types.ValType.{ValType}
use Rattle.handle_table.specs.Alike.{StandsBy}
use Rattle.builtin_kinds.specs.declared.EndKind.{EndKind}
use Rattle.res_handles.specs.declared.handle.Handle.{Handle}
use Rattle.res_handles.specs.declared.handle.Ownership.{Ownership}
use Rattle.res_handles.specs.declared.handle.Ownership.TheVariants.{Own, Borrow}
use Rattle.waitables.specs.Sets.{SetView}
use Rattle.comp_graph.specs.Graph.{ends_type}
use Rattle.instances.specs.declared.entry.EndEntry.{EndEntry}
use Rattle.instances.specs.declared.entry.WorldEntry.{WorldEntry}
use Rattle.instances.specs.declared.entry.WorldEntry.TheVariants as entry
use Rattle.instances.specs.Instances.{InstanceView}
use Rattle.abi_machine.specs.World.{Entry, OwnHandle, BorrowHandle, OfSubtask, OfSet, OfEnd, Inst}

-- The type of this number, among the types of values, is one of streams, or of futures.
abbrev pub IsOfKind : List ValType → EndKind → ℕ → Type 0
IsOfKind values kind number = (element : Option ValType) × (slice_get values number ≡ Some (ends_type kind element))

-- the entry of a handle, and that of an end
abbrev pub owned_as : ℕ → ℕ → Ownership → Entry
owned_as resource rep Own = OwnHandle resource rep
owned_as resource rep (Borrow task) = BorrowHandle resource rep task

abbrev pub handle_entry : Handle → Entry
handle_entry x = owned_as x.resource x.rep x.ownership

abbrev pub end_entry : EndKind → EndEntry → Entry
end_entry kind e = OfEnd (record { kind = kind; number = e.number; side = e.side })

abbrev pub EndStands : List ValType → EndEntry → Entry → Type 0
EndStands values e a = (kind : EndKind) × IsOfKind values kind e.end_type × (a ≡ end_entry kind e)

-- What stands at an index.
abbrev pub EntryStands : List ValType → WorldEntry → Entry → Type 0
EntryStands values (entry.Handle x) a = a ≡ handle_entry x
EntryStands values (entry.Subtask callee) a = a ≡ OfSubtask callee
EntryStands values (entry.Set set) a = a ≡ OfSet set
EntryStands values (entry.End e) a = EndStands values e a

-- the members of sets
abbrev pub members_of : List SetView → List (List ℕ)
members_of sets = map (λ (s : SetView). s.members) sets

-- An instance.
pub record InstStands (values : List ValType) (i : InstanceView) (a : Inst) : Type 0 where
  pub table : StandsBy (EntryStands values) a.table i.slots
  pub sets : members_of i.sets ≡ a.sets
  pub pressure : i.gate.pressure ≡ a.backpressure
