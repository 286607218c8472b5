-- Entries that a lowering makes, in the table of an instance and in the slots that stand for it.
use Rattle.std.proofs.Common.{◌≡◌, ℕ, Bool, true, false, nat_lt, if◌then◌else◌, List, refl, sym, ap, ◌∙◌, subst, arith, lt-ltb, le-ltb, Option, Some, None}
use Rattle.syntax_trees.specs.declared.types.ValType.{ValType}
use Rattle.handle_table.specs.History.{Event, next_index, most_live}
use Rattle.handle_table.specs.Slots.{Slots, count}
use Rattle.handle_table.specs.Slots as slots
use Rattle.handle_table.specs.Alike.{StandsBy}
use Rattle.value_lower.specs.Plan as lower
use Rattle.value_lower.specs.Tables.{IsEntry, gets}
use Rattle.instances.specs.declared.entry.WorldEntry.{WorldEntry}
use Rattle.instances.specs.Entries.{of_handle, of_end}
use Rattle.instances.specs.Instances.{new_instance, with_slots}
use Rattle.abi_machine.specs.LoweringOver as machine
use Rattle.abi_machine.specs.World.{Entry, new_inst}
use Rattle.abi_machine.specs.Edits.{added}
use Rattle.abi_machine.specs.Pausing.{entry_of, has_room, index_in, with_new}
use Rattle.standing.specs.Instances.{EntryStands, InstStands}
use Rattle.standing.specs.Lowers.{NewAgrees}
use Rattle.standing.proofs.Tables.{next_is_alike, room_is_alike, entries_are_added}

-- The entry that is made stands for that of the machine.
entry_stands : (values : List ValType) (t : ℕ) (n : lower.New) (m : machine.New) (e : WorldEntry) → NewAgrees n m → IsEntry of_handle of_end t values n e
    → EntryStands values e (entry_of t m)
entry_stands values t (lower.NewOwn resource rep) m e a is =
    subst (λ (x : machine.New). EntryStands values e (entry_of t x)) (sym a) (subst (λ (x : WorldEntry). EntryStands values x (entry_of t (machine.NewOwn resource rep))) (sym is) refl)
entry_stands values t (lower.NewBorrow resource rep) m e a is =
    subst (λ (x : machine.New). EntryStands values e (entry_of t x)) (sym a) (subst (λ (x : WorldEntry). EntryStands values x (entry_of t (machine.NewBorrow resource rep))) (sym is) refl)
entry_stands values t (lower.NewEnd type number) m e a is =
    subst (λ (x : machine.New). EntryStands values e (entry_of t x)) (sym a.2)
    (subst (λ (x : WorldEntry). EntryStands values x (entry_of t (machine.NewEnd a.0 number))) (sym is.2) (a.0, (a.1, is.1 ∙ ap (λ (x : ValType). Some x) a.3), refl))

-- A table by itself, as that of an instance.
inst_with : (values : List ValType) (table : List (Event Entry)) (s : Slots WorldEntry) → StandsBy (EntryStands values) table s
    → InstStands values (with_slots s new_instance) (record new_inst { table = table })
inst_with values table s st = record { table = st; sets = refl; pressure = refl }

room_same : (values : List ValType) (table : List (Event Entry)) (s : Slots WorldEntry) → StandsBy (EntryStands values) table s → has_room table ≡ nat_lt (count s) most_live
room_same values table s st = sym (room_is_alike values (with_slots s new_instance) (record new_inst { table = table }) (inst_with values table s st))

-- An entry, or none where the table is full.
pub record AddsSo (values : List ValType) (t : Entry) (index : Option ℕ) (table : List (Event Entry)) (later : Slots WorldEntry) : Type 0 where
  pub index_is : index_in table ≡ index
  pub stands_then : StandsBy (EntryStands values) (with_new t table) later

pub adds_so : (values : List ValType) (task : ℕ) (entry : lower.New) (new : machine.New) (index : Option ℕ) (table : List (Event Entry)) (sl later : Slots WorldEntry) → NewAgrees entry new
    → StandsBy (EntryStands values) table sl → gets (IsEntry of_handle of_end task values) sl entry index later → AddsSo values (entry_of task new) index table later
adds_so values task entry new (Some index) table sl later agrees st got =
    let more : nat_lt (count sl) most_live ≡ true = lt-ltb (count sl) most_live got.2 in
    let room : has_room table ≡ true = room_same values table sl st ∙ more in
    let next_one : next_index table ≡ index = sym (got.3 ∙ next_is_alike values (with_slots sl new_instance) (record new_inst { table = table }) (inst_with values table sl st)) in
    let then_stands = entries_are_added values (with_slots sl new_instance) (record new_inst { table = table }) got.0 (entry_of task new) more
    (entry_stands values task entry new got.0 agrees got.1) (inst_with values table sl st) in
    record {
      index_is = ap (λ (b : Bool). if b then Some (next_index table) else None) room ∙ ap (λ (i : ℕ). Some i) next_one;
      stands_then = subst (λ (x : Slots WorldEntry). StandsBy (EntryStands values) (with_new (entry_of task new) table) x) (sym got.4)
          (subst (λ (b : Bool). StandsBy (EntryStands values) (if b then added (entry_of task new) table else table) (slots.added got.0 sl)) (sym room) then_stands.table);
    }
adds_so values task entry new None table sl later agrees st got =
    let same : count sl ≡ most_live = got.0 in
    let full : nat_lt (count sl) most_live ≡ false = le-ltb (count sl) most_live (omega (arith, same)) in
    let room : has_room table ≡ false = room_same values table sl st ∙ full in
    record {
      index_is = ap (λ (b : Bool). if b then Some (next_index table) else None) room;
      stands_then = subst (λ (x : Slots WorldEntry). StandsBy (EntryStands values) (with_new (entry_of task new) table) x) (sym got.1)
          (subst (λ (b : Bool). StandsBy (EntryStands values) (if b then added (entry_of task new) table else table) sl) (sym room) st);
    }
