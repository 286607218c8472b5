-- Values from the memory at an address and the table of an instance, for the call of a task (Component Model, CanonicalABI.md, "Loading", "Flat
-- Lifting"). What was lent and what has left the table stays so where lifting stops.
use Rattle.std.specs.Prelude.{◌≡◌, ℕ, ◌^◌, nat_lt, if◌then◌else◌, List, [], length, take, Some, Result, Ok, Err}
use Rattle.std.specs.List.{slice_get}
use Rattle.faults.specs.declared.memory.MemoryOr.{MemoryOr}
use Rattle.faults.specs.declared.memory.MemoryOr.TheVariants.{Memory, Fault}
use Rattle.syntax_trees.specs.declared.types.ValType.{ValType}
use Rattle.syntax_trees.specs.declared.value.Value.{Value}
use Rattle.syntax_trees.specs.Flat.{flat}
use Rattle.laid_types.specs.Known.{Numbered}
use Rattle.handle_table.specs.Slots.{Slots}
use Rattle.value_lift.specs.declared.counting.LiftOf.{LiftOf}
use Rattle.value_lift.specs.declared.counting.LiftOf.TheVariants as whole
use Rattle.value_lift.specs.declared.moved.Moved.{Moved}
use Rattle.value_lift.specs.declared.trap.LiftTrap.{LiftTrap}
use Rattle.value_lift.specs.Ledger.{Ledger}
use Rattle.value_lift.specs.Lifting.{most}
use Rattle.value_lift.specs.Over.{load_by, load_list_by, lift_flat_by}
use Rattle.value_lift.specs.Tables.{Kept, Stop, MostLends, by_table, at_first}
use Rattle.value_lift.specs.Tables as tables
use Rattle.instances.specs.declared.entry.WorldEntry.{WorldEntry}
use Rattle.instances.specs.Entries.{seen_as, of_handle, end_type_of}
use Rattle.instances.specs.Instances.{InstanceView, with_slots}
use Rattle.world_parts.specs.declared.parts.Parts.{Parts}
use Rattle.world_parts.specs.declared.parts.Stop as stops
use Rattle.world_parts.specs.declared.parts.Stop.TheVariants as stop
use Rattle.world_parts.specs.Held.{Held, Done, Gives, Traps, Stuck, after, given}
use Rattle.world_parts.specs.Entries.{with_instance}
use Rattle.world_parts.specs.Slots.{word_in}
use Rattle.world_parts.specs.Places.{bytes_at}
use Rattle.value_parts.specs.declared.lifting.Origin.{Origin}
use Rattle.value_parts.specs.Coming.{Comes}
use Rattle.value_parts.specs.Names.{lift_name}
use Rattle.value_parts.specs.Loans.{all_moved}

-- lifting over the table of an instance, where types are told by their numbers among these
abbrev pub over_table : List ValType → Ledger (Kept WorldEntry) (Stop WorldEntry)
over_table types = by_table seen_as of_handle end_type_of types

-- Behind what lifting moved in the table comes the value or the trap.
abbrev pub settled : {A : Type 0} → Origin → InstanceView → Result (A × Slots WorldEntry × List Moved) (Stop WorldEntry) → Held → Done A
settled from i (Ok x) h = after (all_moved from.at from.callee x.2 (with_instance from.at (with_slots x.1 i) h)) (λ done k. Gives x.0 k)
settled from i (Err stopped) h =
    after (all_moved from.at from.callee stopped.moved (with_instance from.at (with_slots stopped.slots i) h)) (λ done k. Traps (lift_name stopped.trap.why) k)

-- The value of a type at a place;
abbrev pub loaded : Origin → LiftOf → Numbered → ℕ → Held → Done Value
loaded from what t place h =
    given (slice_get h.instances from.at) (λ i.
    settled from i (tables.given (load_by (over_table t.types) t.val_type (bytes_at from.memory h.store) place (at_first (most what) i.slots []))) h)

-- so many one after the other from a place on;
abbrev pub elements_lifted : Origin → Numbered → ℕ → ℕ → Held → Done (List Value)
elements_lifted from t place count h =
    given (slice_get h.instances from.at) (λ i.
    settled from i (tables.given (load_list_by (over_table t.types) t.val_type (bytes_at from.memory h.store) place count (at_first (most whole.Value) i.slots []))) h)

-- and the value for which core values stand.
abbrev pub flat_lifted : Origin → LiftOf → Numbered → List ℕ → Held → Done Value
flat_lifted from what t words h =
    given (slice_get h.instances from.at) (λ i.
    settled from i (tables.given (lift_flat_by (over_table t.types) t.val_type (bytes_at from.memory h.store) words (at_first (most what) i.slots []))) h)

-- The first words are the core values. Behind arguments a place for the result may stand.
abbrev pub words_lifted : Origin → LiftOf → Numbered → List ℕ → Held → Done Value
words_lifted from what t words h =
    if nat_lt (length words) (length (flat t.val_type)) then Stuck else flat_lifted from what t (take (length (flat t.val_type)) words) h

-- A value that is passed by words stands in them, or at the place that is the first, where it has more core values than these.
unfoldable pub value_lifted : Origin → LiftOf → ℕ → Numbered → List ℕ → Held → Done Value
value_lifted from what limit t words h =
    if nat_lt limit (length (flat t.val_type)) then given (word_in words 0) (λ place. loaded from what t place h) else words_lifted from what t words h

-- No handle of any instance is lent more often than this.
abbrev pub FewLent : Held → Type 0
FewLent h = (at : ℕ) (i : InstanceView) → slice_get h.instances at ≡ Some i → MostLends seen_as (2 ^ 63) i.slots

-- What comes of a call that lifted, behind what it moved.
abbrev pub SettlesFor : {A : Type 0} → Origin → List Moved → Result A (MemoryOr LiftTrap) → Held → Result A stops.Stop → Parts → Type 0
SettlesFor from moved (Ok x) h result new = Comes (after (all_moved from.at from.callee moved h) (λ done k. Gives x k)) result new
SettlesFor from moved (Err (Fault trap)) h result new =
    Comes (after (all_moved from.at from.callee moved h) (λ done k. Traps (lift_name trap.why) k)) result new
SettlesFor from moved (Err Memory) h result new = result ≡ Err stop.Memory
