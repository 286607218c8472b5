-- What is found of what is kept is found in the world for which it stands, and back: tasks, instances, what stands in their tables, and calls.
use Rattle.std.proofs.Common.{◌≡◌, ℕ, is_some, List, refl, sym, ap, ◌∙◌, subst, Option, Some, None}
use Rattle.std.specs.List.{slice_get}
use Rattle.syntax_trees.specs.declared.types.ValType.{ValType}
use Rattle.wasm_store.specs.Stack.{Stack}
use Rattle.handle_table.specs.Alike.{SlotAlike}
use Rattle.handle_table.specs.History.{live}
use Rattle.res_handles.specs.declared.handle.Ownership.{Ownership}
use Rattle.res_handles.specs.declared.handle.Ownership.TheVariants.{Own, Borrow}
use Rattle.comp_graph.specs.Graph.{Graph}
use Rattle.script_reader.specs.Script.{Script}
use Rattle.instances.specs.declared.entry.EndEntry.{EndEntry}
use Rattle.instances.specs.declared.entry.WorldEntry.{WorldEntry}
use Rattle.instances.specs.declared.entry.WorldEntry.TheVariants as entry
use Rattle.instances.specs.Instances.{InstanceView, entry_of}
use Rattle.task_table.specs.declared.caller.Called.{Called}
use Rattle.task_table.specs.declared.caller.Caller as kept_caller
use Rattle.task_table.specs.declared.caller.Caller.TheVariants as by
use Rattle.task_table.specs.declared.slot.TaskSlot.{TaskSlot}
use Rattle.task_table.specs.Callers.{called_of}
use Rattle.world_parts.specs.Held.{Held}
use Rattle.abi_machine.specs.Control.{EndRef}
use Rattle.abi_machine.specs.World.{Entry, OfSubtask, OfSet, OfEnd, Inst, Subtask, Caller, Nobody, Host, Guest, Task, World}
use Rattle.abi_machine.specs.Reading.{table_in, entry_at}
use Rattle.abi_machine.proofs.sound.Found.{some_same}
use Rattle.standing.specs.Instances.{owned_as, end_entry, EntryStands, InstStands}
use Rattle.standing.specs.Tasks.{SubtaskStands, CallerStands, TaskStands}
use Rattle.standing.specs.Stands.{Stands}
use Rattle.standing.proofs.Lists.{IsFound, found_left, found_both}
use Rattle.standing.proofs.Tables.{entries_are_alike}

module _ (g : Graph) (values : List ValType) (s : Script) (h : Held) (stacks : List (List Stack)) (w : World) (st : Stands g values s h stacks w) where
  pub task_of : (n : ℕ) (k : TaskSlot) → slice_get h.tasks n ≡ Some k → (a : Task) × (slice_get w.tasks n ≡ Some a) × TaskStands g s k a
  task_of n k there =
      let one : IsFound (TaskStands g s) (slice_get h.tasks n) (slice_get w.tasks n) = found_left (TaskStands g s) h.tasks w.tasks n k st.are_tasks there in
      (one.right, one.is_right, subst (λ (x : TaskSlot). TaskStands g s x one.right) (some_same (sym one.is_left ∙ there)) one.alike)

  pub slot_of : (n : ℕ) (a : Task) → slice_get w.tasks n ≡ Some a → (k : TaskSlot) × (slice_get h.tasks n ≡ Some k) × TaskStands g s k a
  slot_of n a there =
      let one : IsFound (TaskStands g s) (slice_get h.tasks n) (slice_get w.tasks n) = found_both (TaskStands g s) h.tasks w.tasks n st.are_tasks (ap is_some there) in
      (one.left, one.is_left, subst (λ (x : Task). TaskStands g s one.left x) (some_same (sym one.is_right ∙ there)) one.alike)

  pub inst_of : (at : ℕ) (i : InstanceView) → slice_get h.instances at ≡ Some i → (a : Inst) × (slice_get w.insts at ≡ Some a) × InstStands values i a
  inst_of at i here =
      let one : IsFound (InstStands values) (slice_get h.instances at) (slice_get w.insts at) = found_left (InstStands values) h.instances w.insts at i st.are_instances here in
      (one.right, one.is_right, subst (λ (x : InstanceView). InstStands values x one.right) (some_same (sym one.is_left ∙ here)) one.alike)

  pub view_of_inst : (at : ℕ) (a : Inst) → slice_get w.insts at ≡ Some a → (i : InstanceView) × (slice_get h.instances at ≡ Some i) × InstStands values i a
  view_of_inst at a here =
      let one : IsFound (InstStands values) (slice_get h.instances at) (slice_get w.insts at) = found_both (InstStands values) h.instances w.insts at st.are_instances (ap is_some here) in
      (one.left, one.is_left, subst (λ (x : Inst). InstStands values one.left x) (some_same (sym one.is_right ∙ here)) one.alike)

  right_of : (o : Option WorldEntry) (p : Option Entry) (e : WorldEntry) → SlotAlike (EntryStands values) o p → o ≡ Some e → (a : Entry) × (p ≡ Some a) × EntryStands values e a
  right_of None p e alike is = absurd (cc)
  right_of (Some x) None e alike is = absurd alike
  right_of (Some x) (Some a) e alike is = (a, refl, subst (λ (y : WorldEntry). EntryStands values y a) (some_same is) alike)

  left_of : (o : Option WorldEntry) (p : Option Entry) (a : Entry) → SlotAlike (EntryStands values) o p → p ≡ Some a → (e : WorldEntry) × (o ≡ Some e) × EntryStands values e a
  left_of o None a alike is = absurd (cc)
  left_of None (Some y) a alike is = absurd alike
  left_of (Some e) (Some y) a alike is = (e, refl, subst (λ (x : Entry). EntryStands values e x) (some_same is) alike)

  -- What stands in a table.
  pub entry_shown : (at index : ℕ) (i : InstanceView) (e : WorldEntry) → slice_get h.instances at ≡ Some i → entry_of i index ≡ Some e
      → (a : Entry) × (entry_at w at index ≡ Some a) × EntryStands values e a
  entry_shown at index i e here is =
      let x : (a : Inst) × (slice_get w.insts at ≡ Some a) × InstStands values i a = inst_of at i here in
      let y : (a : Entry) × (live x.0.table index ≡ Some a) × EntryStands values e a =
      right_of (entry_of i index) (live x.0.table index) e (entries_are_alike values i x.0 index x.2) is in
      (y.0, ap (λ (o : Option Inst). live (table_in o) index) x.1 ∙ y.1, y.2)

  pub entry_back : (at index : ℕ) (i : InstanceView) (a : Entry) → slice_get h.instances at ≡ Some i → entry_at w at index ≡ Some a
      → (e : WorldEntry) × (entry_of i index ≡ Some e) × EntryStands values e a
  entry_back at index i a here is =
      let x : (b : Inst) × (slice_get w.insts at ≡ Some b) × InstStands values i b = inst_of at i here in
      left_of (entry_of i index) (live x.0.table index) a (entries_are_alike values i x.0 index x.2) (ap (λ (o : Option Inst). live (table_in o) index) (sym x.1) ∙ is)

-- What stands for a subtask, a set, an end or a handle is one.
no_subtask : (callee resource rep : ℕ) (o : Ownership) → OfSubtask callee ≡ owned_as resource rep o → ⊥
no_subtask callee resource rep Own e = cc
no_subtask callee resource rep (Borrow task) e = cc

no_set : (set resource rep : ℕ) (o : Ownership) → OfSet set ≡ owned_as resource rep o → ⊥
no_set set resource rep Own e = cc
no_set set resource rep (Borrow task) e = cc

no_end : (d : EndRef) (resource rep : ℕ) (o : Ownership) → OfEnd d ≡ owned_as resource rep o → ⊥
no_end d resource rep Own e = cc
no_end d resource rep (Borrow task) e = cc

subtask_same : (x y : ℕ) → OfSubtask x ≡ OfSubtask y → x ≡ y
subtask_same x y e = cc

set_same : (x y : ℕ) → OfSet x ≡ OfSet y → x ≡ y
set_same x y e = cc

pub subtask_kept : (values : List ValType) (e : WorldEntry) (callee : ℕ) → EntryStands values e (OfSubtask callee) → e ≡ entry.Subtask callee
subtask_kept values (entry.Handle x) callee a = absurd (no_subtask callee x.resource x.rep x.ownership a)
subtask_kept values (entry.Subtask other) callee a = ap entry.Subtask (sym (subtask_same callee other a))
subtask_kept values (entry.Set set) callee a = absurd (cc)
subtask_kept values (entry.End e) callee a = absurd (let both : OfSubtask callee ≡ end_entry a.0 e = a.2 in let none : ⊥ = cc in none)

pub set_kept : (values : List ValType) (e : WorldEntry) (set : ℕ) → EntryStands values e (OfSet set) → e ≡ entry.Set set
set_kept values (entry.Handle x) set a = absurd (no_set set x.resource x.rep x.ownership a)
set_kept values (entry.Subtask callee) set a = absurd (cc)
set_kept values (entry.Set other) set a = ap entry.Set (sym (set_same set other a))
set_kept values (entry.End e) set a = absurd (let both : OfSet set ≡ end_entry a.0 e = a.2 in let none : ⊥ = cc in none)

pub end_kept : (values : List ValType) (e : WorldEntry) (d : EndRef) → EntryStands values e (OfEnd d) → (x : EndEntry) × (e ≡ entry.End x)
end_kept values (entry.Handle x) d a = absurd (no_end d x.resource x.rep x.ownership a)
end_kept values (entry.Subtask callee) d a = absurd (cc)
end_kept values (entry.Set set) d a = absurd (cc)
end_kept values (entry.End x) d a = (x, refl)

-- The call of a task by another one.
pub called_shown : (s : Script) (c : kept_caller.Caller) (d : Caller) (called : Called) → CallerStands s c d → called_of c ≡ Some called
    → (subtask : Subtask) × (d ≡ Guest subtask) × SubtaskStands called subtask
called_shown s by.Nobody d called st e = absurd (cc)
called_shown s (by.Host number) d called st e = absurd (cc)
called_shown s (by.Guest x) Nobody called st e = absurd st
called_shown s (by.Guest x) (Host call all) called st e = absurd st
called_shown s (by.Guest x) (Guest subtask) called st e = (subtask, refl, subst (λ (y : Called). SubtaskStands y subtask) (some_same e) st)

pub called_back : (s : Script) (c : kept_caller.Caller) (subtask : Subtask) → CallerStands s c (Guest subtask) → (called : Called) × (c ≡ by.Guest called) × SubtaskStands called subtask
called_back s by.Nobody subtask st = absurd st
called_back s (by.Host number) subtask st = absurd st
called_back s (by.Guest called) subtask st = (called, refl, st)
