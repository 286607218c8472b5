-- At an index there is the same on both sides, and entries leave a table, and are lent, on both sides.
use Rattle.std.proofs.Common.{◌≡◌, ◌≢◌, inl, inr, ◌+◌, ℕ, zero, suc, Bool, true, false, ◌&&◌, List, [], ◌∷◌, ◌++◌, slice_set, slice_index_or, refl, sym, ap, ◌∙◌, subst, Option, Some, None}
use Rattle.std.specs.List.{slice_get}
use Rattle.std.specs.Option.{option_map, option_and_then}
use Rattle.std.proofs.lemmas.Bool.{cases_eq, and_parts, and_from}
use Rattle.wasm_store.specs.Stack.{Stack}
use Rattle.syntax_trees.specs.declared.types.ValType.{ValType}
use Rattle.laid_types.specs.SameTypes.{same_val}
use Rattle.laid_types.proofs.SameTypes.{val_told, none_told, some_told}
use Rattle.handle_table.specs.History.{Remove, live}
use Rattle.handle_table.specs.Slots.{Slots, slot_at, with_slot, entry_at, with_entry}
use Rattle.handle_table.specs.Alike.{SlotAlike}
use Rattle.handle_table.proofs.Places.{other_slot}
use Rattle.builtin_kinds.specs.declared.EndKind.{EndKind}
use Rattle.stream_ends.specs.declared.side.Side.{Side}
use Rattle.stream_ends.specs.declared.side.Side.TheVariants.{Reader, Writer}
use Rattle.stream_ends.specs.Ends.{EndsView, end_at, is_idle}
use Rattle.res_handles.specs.declared.handle.Handle.{Handle}
use Rattle.res_handles.specs.declared.handle.Ownership.{Ownership}
use Rattle.res_handles.specs.declared.handle.Ownership.TheVariants.{Own, Borrow}
use Rattle.res_handles.specs.declared.readable_end.ReadableEnd.{ReadableEnd}
use Rattle.res_handles.specs.declared.entry.EntryView.{EntryView}
use Rattle.res_handles.specs.declared.entry.EntryView.TheVariants as seen
use Rattle.res_handles.specs.Calls.{with_lends, relent_by}
use Rattle.res_handles.specs.Ends.{is_of_by, end_of, end_in}
use Rattle.waitables.specs.Sets as sets
use Rattle.value_lift.specs.Tables.{type_in, is_end_at}
use Rattle.comp_graph.specs.Graph.{Graph, ends_type}
use Rattle.script_reader.specs.Script.{Script}
use Rattle.instances.specs.declared.entry.EndEntry.{EndEntry}
use Rattle.instances.specs.declared.entry.WorldEntry.{WorldEntry}
use Rattle.instances.specs.declared.entry.WorldEntry.TheVariants as entry
use Rattle.instances.specs.Entries.{seen_as, seen_by, of_handle, end_type_of, readable_type}
use Rattle.instances.specs.Instances as instance
use Rattle.instances.specs.Instances.{InstanceView, entry_of, view_of, with_sets, with_slots, entry_removed, entry_changed}
use Rattle.task_table.specs.declared.caller.Called.{Called}
use Rattle.task_table.specs.declared.caller.Caller as kept_caller
use Rattle.task_table.specs.declared.caller.Caller.TheVariants as by
use Rattle.task_table.specs.declared.slot.TaskSlot.{TaskSlot}
use Rattle.task_table.specs.Callers as callers
use Rattle.world_parts.specs.Held.{Held}
use Rattle.world_parts.specs.Entries.{with_instance}
use Rattle.world_parts.specs.Slots.{with_task}
use Rattle.value_parts.specs.Loans.{may_lend, lent_slot}
use Rattle.abi_machine.specs.World.{Entry, OfEnd, Inst, Subtask, Caller, Nobody, Host, Guest, Task, Channel, World}
use Rattle.abi_machine.specs.Edits as world
use Rattle.abi_machine.specs.Edits.{by_views}
use Rattle.abi_machine.specs.SameTypes.{same_held}
use Rattle.abi_machine.specs.Reading as reading
use Rattle.abi_machine.specs.Reading.{table_in, channel_at}
use Rattle.abi_machine.specs.Counting.{passes, lends_of, channel_end, end_view, entry_view, view_at}
use Rattle.abi_machine.specs.Counting as counting
use Rattle.abi_machine.specs.Finding.{same_kind, is_end_of}
use Rattle.abi_machine.proofs.sound.Found.{some_same}
use Rattle.standing.specs.Instances.{owned_as, EntryStands, InstStands}
use Rattle.standing.specs.Tasks.{CallerStands, SubtaskStands, TaskStands}
use Rattle.standing.proofs.Lists.{IsFound, found_left}
use Rattle.standing.proofs.Tables.{entries_are_alike, entries_are_removed, entries_stay_alike, waitables_leave}
use Rattle.standing.proofs.Changes.{instances_change, instances_stay, tasks_change}
use Rattle.standing.proofs.EndTypes.{same_test, kind_self, kind_told, same_kinds, same_elements}
use Rattle.standing.proofs.EndsFound.{EndFound, end_is_found, ref_of}
use Rattle.standing.proofs.EndMarks.{same_entries_stay_marked, changed_stay_marked, removed_stay_marked}
use Rattle.standing.proofs.Agreeing.{get_set}
use Rattle.standing.proofs.Telling.{side_changed}
use Rattle.run_laws.specs.Taking.{LendsMarked, StandsMarked, ViewsAreAlike, EndTypesAreAlike, HandleLeaves, EndLeaves, HandleIsLent}
use Rattle.run_laws.proofs.Lending.{lend_side, lend_in, lent_once, lent_other, lent_elsewhere}

-- Types of ends are the same exactly where their kinds and elements are.
pub held_told : (a b : Option ValType) → same_held a b ≡ true → a ≡ b
held_told None b h = (none_told b).0 h
held_told (Some t) b h = (some_told (same_val t) t (val_told t) b).0 h

held_self : (a : Option ValType) → same_held a a ≡ true
held_self None = refl
held_self (Some t) = (val_told t t).1 refl

pub ends_told : (k l : EndKind) (a b : Option ValType) → same_val (ends_type k a) (ends_type l b) ≡ (same_kind k l && same_held a b)
ends_told k l a b = same_test (same_val (ends_type k a) (ends_type l b)) (same_kind k l && same_held a b) there back
  where
    there : same_val (ends_type k a) (ends_type l b) ≡ true → (same_kind k l && same_held a b) ≡ true
    there h =
        let same : ends_type k a ≡ ends_type l b = (val_told (ends_type k a) (ends_type l b)).0 h in
        and_from (same_kind k l) (same_held a b) (subst (λ (x : EndKind). same_kind k x ≡ true) (same_kinds k l a b same) (kind_self k))
        (subst (λ (x : Option ValType). same_held a x ≡ true) (same_elements k l a b same) (held_self a))

    back : (same_kind k l && same_held a b) ≡ true → same_val (ends_type k a) (ends_type l b) ≡ true
    back h =
        let parts = and_parts (same_kind k l) (same_held a b) h in
        (val_told (ends_type k a) (ends_type l b)).1
        (ap (λ (x : EndKind). ends_type x a) (kind_told k l parts.0) ∙ ap (λ (x : Option ValType). ends_type l x) (held_told a b parts.1))

-- whether an entry is an end of a type
abbrev pub is_typed_end : World → ValType → Option Entry → Bool
is_typed_end w type (Some (OfEnd e)) = passes (λ (c : Channel). same_val (ends_type e.kind c.element) type) (channel_at w e.kind e.number)
is_typed_end w type entry = false

-- What an entry is, as handles and readable ends are seen.
handle_seen : (w : World) (at index : ℕ) (x : Handle) (o : Ownership) → x.ownership ≡ o → x.lends ≡ lends_of w at index
    → seen.Handle x ≡ entry_view w at index (owned_as x.resource x.rep o)
handle_seen w at index x Own owned lends =
    ap (λ (o : Ownership). seen.Handle (record { resource = x.resource; rep = x.rep; lends = x.lends; ownership = o })) owned
    ∙ ap (λ (n : ℕ). seen.Handle (record { resource = x.resource; rep = x.rep; lends = n; ownership = Own })) lends
handle_seen w at index x (Borrow task) owned lends =
    ap (λ (o : Ownership). seen.Handle (record { resource = x.resource; rep = x.rep; lends = x.lends; ownership = o })) owned
    ∙ ap (λ (n : ℕ). seen.Handle (record { resource = x.resource; rep = x.rep; lends = n; ownership = Borrow task })) lends

end_seen : (w : World) (kind : EndKind) (e : EndEntry) (side : Side) → e.is_idle ≡ is_idle (counting.end_of w (ref_of kind e)) → seen_by side e ≡ end_view w (ref_of kind e) side
end_seen w kind e Reader idle = ap (λ (b : Bool). seen.ReadableEnd (record { number = e.number; is_idle = b })) idle
end_seen w kind e Writer idle = refl

-- Of the end of an entry the machine has the same.
end_idle : (values : List ValType) (h : Held) (w : World) (kind : EndKind) (e : EndEntry) → EndFound values h w kind e → e.is_idle ≡ is_idle (counting.end_of w (ref_of kind e))
end_idle values h w kind e f =
    f.idle ∙ ap (λ (v : EndsView). is_idle (end_at e.side v)) f.alike.ends ∙ ap (λ (o : Option Channel). is_idle (channel_end e.side o)) (sym f.there)

module _ (g : Graph) (values : List ValType) (s : Script) (h : Held) (stacks : List (List Stack)) (w : World) (at index : ℕ) (i : InstanceView)
    (there : slice_get h.instances at ≡ Some i) (m : StandsMarked g values s h stacks w) where
  -- what is known of both entries
  entry_alike : (o : Option WorldEntry) (p : Option Entry) → entry_of i index ≡ o → SlotAlike (EntryStands values) o p → option_map seen_as o ≡ option_map (entry_view w at index) p
  entry_alike None None is a = refl
  entry_alike None (Some p) is a = absurd a
  entry_alike (Some o) None is a = absurd a
  entry_alike (Some (entry.Handle x)) (Some p) is a =
      ap (λ (v : EntryView). Some v) (handle_seen w at index x x.ownership refl (m.lends at index i x there is)) ∙ ap (λ (b : Entry). Some (entry_view w at index b)) (sym a)
  entry_alike (Some (entry.Subtask callee)) (Some p) is a = ap (λ (b : Entry). Some (entry_view w at index b)) (sym a)
  entry_alike (Some (entry.Set set)) (Some p) is a = ap (λ (b : Entry). Some (entry_view w at index b)) (sym a)
  entry_alike (Some (entry.End e)) (Some p) is (kind, of, a) =
      let f : EndFound values h w kind e = end_is_found g values s h stacks w kind of.0 e (m.ends at index i e there is) of.1 m.stands in
      ap (λ (v : EntryView). Some v) (end_seen w kind e e.side (end_idle values h w kind e f)) ∙ ap (λ (b : Entry). Some (entry_view w at index b)) (sym a)

  inst_found : IsFound (InstStands values) (slice_get h.instances at) (slice_get w.insts at)
  inst_found = found_left (InstStands values) h.instances w.insts at i m.stands.are_instances there

  -- the table there, as the machine has it
  both_entries : SlotAlike (EntryStands values) (entry_of i index) (reading.entry_at w at index)
  both_entries =
      let same : inst_found.left ≡ i = some_same (sym inst_found.is_left ∙ there) in
      subst (λ (j : InstanceView). SlotAlike (EntryStands values) (entry_of j index) (reading.entry_at w at index)) same
      (subst (λ (o : Option Inst). SlotAlike (EntryStands values) (entry_of inst_found.left index) (live (table_in o) index)) (sym inst_found.is_right)
      (entries_are_alike values inst_found.left inst_found.right index inst_found.alike))

  view_alike : view_of i index ≡ view_at w at index
  view_alike = entry_alike (entry_of i index) (reading.entry_at w at index) refl both_entries

  -- An end is of a type.
  read_only : (e : EndEntry) (x : ReadableEnd) (side : Side) → (let v : Option EntryView = Some (seen_by side e) in v) ≡ Some (seen.ReadableEnd x) → readable_type side e ≡ Some e.end_type
  read_only e x Reader v = refl
  read_only e x Writer v = absurd (cc)

  typed_alike : (type : ValType) (x : ReadableEnd) (o : Option WorldEntry) (p : Option Entry) → entry_of i index ≡ o → option_map seen_as o ≡ Some (seen.ReadableEnd x)
      → SlotAlike (EntryStands values) o p → is_of_by same_val (type_in values (option_and_then end_type_of o)) type ≡ is_typed_end w type p
  typed_alike type x None p is view a = absurd (cc)
  typed_alike type x (Some (entry.Handle y)) p is view a = absurd (cc)
  typed_alike type x (Some (entry.Subtask callee)) p is view a = absurd (cc)
  typed_alike type x (Some (entry.Set set)) p is view a = absurd (cc)
  typed_alike type x (Some (entry.End e)) None is view a = absurd a
  typed_alike type x (Some (entry.End e)) (Some p) is view (k, of, a) =
      let f : EndFound values h w k e = end_is_found g values s h stacks w k of.0 e (m.ends at index i e there is) of.1 m.stands in
      ap (λ (o : Option ℕ). is_of_by same_val (type_in values o) type) (read_only e x e.side view)
      ∙ ap (λ (o : Option ValType). is_of_by same_val o type) f.typed
      ∙ ap (λ (o : Option Channel). passes (λ (c : Channel). same_val (ends_type k c.element) type) o) (sym f.there)
      ∙ ap (λ (b : Entry). is_typed_end w type (Some b)) (sym a)

  is_typed : (type : ValType) (x : ReadableEnd) → view_of i index ≡ Some (seen.ReadableEnd x)
      → is_end_at end_type_of values i.slots index type ≡ is_typed_end w type (reading.entry_at w at index)
  is_typed type x view = typed_alike type x (entry_of i index) (reading.entry_at w at index) refl view both_entries

  -- the answer where an end of a type is wanted
  answered_by : (type : ValType) (v : Option EntryView) → view_of i index ≡ v
      → end_in v (is_end_at end_type_of values i.slots index type) ≡ end_in v (is_typed_end w type (reading.entry_at w at index))
  answered_by type None view = refl
  answered_by type (Some seen.Other) view = refl
  answered_by type (Some (seen.Handle x)) view = refl
  answered_by type (Some (seen.ReadableEnd x)) view = ap (λ (b : Bool). end_of b x) (is_typed type x view)

  pub end_answer : (type : ValType)
      → end_in (view_of i index) (is_end_at end_type_of values i.slots index type) ≡ end_in (view_at w at index) (is_typed_end w type (reading.entry_at w at index))
  end_answer type =
      answered_by type (view_of i index) refl ∙ ap (λ (v : Option EntryView). end_in v (is_typed_end w type (reading.entry_at w at index))) view_alike

pub views_are_alike : ViewsAreAlike
views_are_alike g values s h stacks w at index i there m = view_alike g values s h stacks w at index i there m

-- The machine tells an end's type by its kind and its elements.
and_none : (b : Bool) → (b && false) ≡ false
and_none true = refl
and_none false = refl

pub typed_same : (w : World) (kind : EndKind) (element : Option ValType) (type : ValType) (o : Option Entry) → type ≡ ends_type kind element → is_end_of w kind element o ≡ is_typed_end w type o
typed_same w kind element type None of = refl
typed_same w kind element type (Some (OfEnd e)) of = by (channel_at w e.kind e.number)
  where
    by : (o : Option Channel)
        → (same_kind e.kind kind && passes (λ (c : Channel). same_held c.element element) o) ≡ passes (λ (c : Channel). same_val (ends_type e.kind c.element) type) o
    by None = and_none (same_kind e.kind kind)
    by (Some c) = sym (ends_told e.kind kind c.element element) ∙ ap (λ (t : ValType). same_val (ends_type e.kind c.element) t) (sym of)
typed_same w kind element type (Some other) of = refl

pub end_types_are_alike : EndTypesAreAlike
end_types_are_alike g values s h stacks w at index i x kind element there view m =
    is_typed g values s h stacks w at index i there m (ends_type kind element) x view
    ∙ sym (typed_same w kind element (ends_type kind element) (reading.entry_at w at index) refl)

-- What stands at a place, where something is written.
pub get_other : {A : Type 0} (xs : List A) (n k : ℕ) (z : A) → k ≢ n → slice_get (slice_set xs n z) k ≡ slice_get xs k
get_other [] n k z apart = refl
get_other (x ∷ xs) zero zero z apart = absurd (apart refl)
get_other (x ∷ xs) zero (suc k) z apart = refl
get_other (x ∷ xs) (suc n) zero z apart = refl
get_other (x ∷ xs) (suc n) (suc k) z apart = get_other xs n k z (λ e. apart (ap suc e))

put_at : {E : Type 0} (xs : List (Option E)) (n : ℕ) (e now : E) → slice_index_or xs n None ≡ Some e → slice_index_or (slice_set xs n (Some now)) n None ≡ Some now
put_at [] n e now is = absurd (cc)
put_at (x ∷ xs) zero e now is = refl
put_at (x ∷ xs) (suc n) e now is = put_at xs n e now is

changed_at_index : {E : Type 0} (s : Slots E) (index : ℕ) (e now : E) → entry_at s index ≡ Some e → entry_at (with_entry index now s) index ≡ Some now
changed_at_index s zero e now is = absurd (cc)
changed_at_index s (suc n) e now is = put_at s.entries n e now is

none_at : {E : Type 0} (e : E) (xs : List (Option E)) (n : ℕ) → slice_index_or (slice_set xs n None) n None ≡ Some e → ⊥
none_at e [] n is = let w : ⊥ = cc in w
none_at e (x ∷ xs) zero is = let w : ⊥ = cc in w
none_at e (x ∷ xs) (suc n) is = none_at e xs n is

gone_at : {E : Type 0} (s : Slots E) (index : ℕ) (e : E) → slot_at (with_slot s.entries index None) index ≡ Some e → ⊥
gone_at s zero e is = let w : ⊥ = cc in w
gone_at s (suc n) e is = none_at e s.entries n is

-- An entry leaves.
left_entry : (i : InstanceView) (index j : ℕ) (e : WorldEntry) → entry_of (entry_removed index i) j ≡ Some e → entry_of i j ≡ Some e
left_entry i index j e is =
    elim (cases_eq j index) [
      | inl same ↦ absurd (gone_at i.slots index e (subst (λ (n : ℕ). entry_of (entry_removed index i) n ≡ Some e) same is))
      | inr apart ↦ sym (other_slot i.slots.entries index j None apart) ∙ is
    ]

-- Marks of lends, where an instance has become another one whose entries were there.
pub lends_kept : (instances : List InstanceView) (w v : World) (at : ℕ) (i k : InstanceView) → slice_get instances at ≡ Some i
    → ((j : ℕ) (e : WorldEntry) → entry_of k j ≡ Some e → entry_of i j ≡ Some e) → ((n j : ℕ) → lends_of v n j ≡ lends_of w n j) → LendsMarked instances w
    → LendsMarked (slice_set instances at k) v
lends_kept instances w v at i k there keeps same marks n j y x found is =
    elim (cases_eq n at) [
      | inl here ↦
          (let now : k ≡ y = some_same (sym (get_set instances at i k there) ∙ ap (λ (c : ℕ). slice_get (slice_set instances at k) c) (sym here) ∙ found) in
          marks n j i x (ap (λ (c : ℕ). slice_get instances c) here ∙ there) (keeps j (entry.Handle x) (ap (λ (z : InstanceView). entry_of z j) now ∙ is)) ∙ sym (same n j))
      | inr apart ↦ marks n j y x (sym (get_other instances at n k apart) ∙ found) is ∙ sym (same n j)
    ]

pub handle_leaves : HandleLeaves
handle_leaves g values s h stacks w at index i there some m = record {
  stands = instances_change g values s h stacks w at i (entry_removed index i) (λ (inst : Inst). record inst { table = Remove index ∷ inst.table }) there
      (λ a found alike. entries_are_removed values i a index some alike) m.stands;
  ends = removed_stay_marked h.instances h.streams h.futures at index i there m.ends;
  lends = lends_kept h.instances w (world.entry_removed at index w) at i (entry_removed index i) there (λ j e is. left_entry i index j e is) (λ n j. refl) m.lends;
}

pub set_twice : {A : Type 0} (xs : List A) (n : ℕ) (x y : A) → slice_set (slice_set xs n x) n y ≡ slice_set xs n y
set_twice [] n x y = refl
set_twice (a ∷ xs) zero x y = refl
set_twice (a ∷ xs) (suc n) x y = ap (λ zs. a ∷ zs) (set_twice xs n x y)

-- A waitable is in no set.
set_leaves : (g : Graph) (values : List ValType) (s : Script) (h : Held) (stacks : List (List Stack)) (w : World) (at index : ℕ) (i : InstanceView) → slice_get h.instances at ≡ Some i
    → StandsMarked g values s h stacks w → StandsMarked g values s (with_instance at (with_sets (sets.left index i.sets) i) h) stacks (world.left_set at index w)
set_leaves g values s h stacks w at index i there m = record {
  stands = instances_change g values s h stacks w at i (with_sets (sets.left index i.sets) i) (λ (inst : Inst). record inst { sets = by_views (sets.left index) inst.sets }) there
      (λ a found alike. waitables_leave values i a index alike) m.stands;
  ends = same_entries_stay_marked h.instances h.streams h.futures at i (with_sets (sets.left index i.sets) i) there refl m.ends;
  lends = lends_kept h.instances w (world.left_set at index w) at i (with_sets (sets.left index i.sets) i) there (λ j e is. is) (λ n j. refl) m.lends;
}

pub end_leaves : EndLeaves
end_leaves g values s h stacks w at index i there some m =
    let gone : InstanceView = entry_removed index i in
    let out : InstanceView = with_sets (sets.left index i.sets) gone in
    subst (λ (all : List InstanceView). StandsMarked g values s (record h { instances = all }) stacks (world.left_set at index (world.entry_removed at index w))) (set_twice h.instances at gone out)
    (set_leaves g values s (with_instance at gone h) stacks (world.entry_removed at index w) at index gone (get_set h.instances at i gone there)
    (handle_leaves g values s h stacks w at index i there some m))

-- A handle is lent.
lent_is : (i : InstanceView) (index : ℕ) (x : Handle) → entry_of i index ≡ Some (entry.Handle x) → instance.lent index i ≡ entry_changed index (entry.Handle (with_lends (x.lends + 1) x)) i
lent_is i index x is = ap (λ (o : Option WorldEntry). with_slots (relent_by (option_map seen_as o) of_handle (λ n. n + 1) index i.slots) i) is

guest_of : (s : Script) (c : kept_caller.Caller) (d : Caller) → may_lend c ≡ true → CallerStands s c d → (called : Called) × (subtask : Subtask) × (c ≡ by.Guest called) × (d ≡ Guest subtask)
guest_of s by.Nobody d may st = absurd (cc)
guest_of s (by.Host number) d may st = absurd (cc)
guest_of s (by.Guest called) Nobody may st = absurd st
guest_of s (by.Guest called) (Host call values) may st = absurd st
guest_of s (by.Guest called) (Guest subtask) may st = (called, subtask, refl, refl)

lent_side : (callee handle : ℕ) (called : Called) (subtask : Subtask) → SubtaskStands called subtask → SubtaskStands (callers.with_lend handle called) (lend_side callee handle subtask)
lent_side callee handle called subtask st = record {
  caller = st.caller;
  by_canon = st.by_canon;
  passed = st.passed;
  was_told = st.was_told;
  lent = ap (λ (lends : List ℕ). lends ++ handle ∷ []) st.lent;
  kept = st.kept;
}

module _ (h : Held) (w : World) (at index callee : ℕ) (i : InstanceView) (x : Handle) (task : Task) (subtask : Subtask) (there : slice_get h.instances at ≡ Some i)
    (is : entry_of i index ≡ Some (entry.Handle x)) (runs : slice_get w.tasks callee ≡ Some task) (guest : task.caller ≡ Guest subtask)
    (here : passes (reading.runs_in at) (reading.task_at w subtask.by) ≡ true) (marks : LendsMarked h.instances w) where
  abbrev now_lent : WorldEntry
  now_lent = entry.Handle (with_lends (x.lends + 1) x)

  lent_here : (j : ℕ) (y : Handle) → entry_of (entry_changed index now_lent i) j ≡ Some (entry.Handle y) → y.lends ≡ lends_of (world.lent callee index w) at j
  lent_here j y found =
      elim (cases_eq j index) [
        | inl same ↦
            (let now : now_lent ≡ entry.Handle y =
            some_same (sym (changed_at_index i.slots index (entry.Handle x) now_lent is) ∙ ap (λ (n : ℕ). entry_of (entry_changed index now_lent i) n) (sym same) ∙ found) in
            let one : x.lends + 1 ≡ y.lends = lends_of_handle (with_lends (x.lends + 1) x) y now in
            sym one ∙ ap (λ (n : ℕ). n + 1) (marks at index i x there is) ∙ sym (lent_once w callee index at task subtask runs guest here)
            ∙ ap (λ (n : ℕ). lends_of (world.lent callee index w) at n) (sym same))
        | inr apart ↦
            marks at j i y there (sym (other_slot i.slots.entries index j (Some now_lent) apart) ∙ found) ∙ sym (lent_other w callee index at j task subtask runs guest apart)
      ]
    where
      lends_of_handle : (a b : Handle) → entry.Handle a ≡ entry.Handle b → a.lends ≡ b.lends
      lends_of_handle a b e = ap (λ (c : Handle). c.lends) (let same : a ≡ b = cc in same)

  lends_lent : LendsMarked (slice_set h.instances at (entry_changed index now_lent i)) (world.lent callee index w)
  lends_lent n j k y found at_j =
      elim (cases_eq n at) [
        | inl same ↦
            (let now : entry_changed index now_lent i ≡ k =
            some_same (sym (get_set h.instances at i (entry_changed index now_lent i) there)
            ∙ ap (λ (c : ℕ). slice_get (slice_set h.instances at (entry_changed index now_lent i)) c) (sym same) ∙ found) in
            lent_here j y (ap (λ (z : InstanceView). entry_of z j) now ∙ at_j) ∙ ap (λ (c : ℕ). lends_of (world.lent callee index w) c j) (sym same))
        | inr apart ↦
            marks n j k y (sym (get_other h.instances at n (entry_changed index now_lent i) apart) ∙ found) at_j
            ∙ sym (lent_elsewhere w callee index at n j task subtask runs guest here apart)
      ]

pub handle_is_lent : HandleIsLent
handle_is_lent g values s h stacks w at index callee i x slot there is acts may from m =
    let f : IsFound (TaskStands g s) (slice_get h.tasks callee) (slice_get w.tasks callee) = found_left (TaskStands g s) h.tasks w.tasks callee slot m.stands.are_tasks acts in
    let same : f.left ≡ slot = some_same (sym f.is_left ∙ acts) in
    let alike : TaskStands g s slot f.right = subst (λ (k : TaskSlot). TaskStands g s k f.right) same f.alike in
    let call = guest_of s slot.caller f.right.caller may alike.called in
    let now : InstanceView = entry_changed index (entry.Handle (with_lends (x.lends + 1) x)) i in
    subst (λ (k : InstanceView). StandsMarked g values s (with_task callee (lent_slot index slot) (with_instance at k h)) stacks (world.lent callee index w)) (sym (lent_is i index x is))
    (record {
      stands = tasks_change g values s (with_instance at now h) stacks w callee slot (lent_slot index slot) (lend_in callee index) acts
          (λ a found st.
          side_changed g s slot a call.0 call.1 (callers.with_lend index) (lend_side callee index) call.2
          (ap (λ (t : Task). t.caller) (some_same (sym found ∙ f.is_right)) ∙ call.3) (λ y. refl) (λ sub. lent_side callee index call.0 call.1 sub) st)
          (λ a. refl)
          (instances_stay g values s h stacks w at i now there
          (λ a st. entries_stay_alike values i a index (entry.Handle x) (entry.Handle (with_lends (x.lends + 1) x)) is (λ e st. st) st) m.stands);
      ends = changed_stay_marked h.instances h.streams h.futures at index i (entry.Handle (with_lends (x.lends + 1) x)) there tt m.ends;
      lends = lends_lent h w at index callee i x f.right call.1 there is f.is_right call.3 (from f.right call.1 f.is_right call.3) m.lends;
    })
