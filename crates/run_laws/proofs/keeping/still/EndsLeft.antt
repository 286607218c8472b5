-- Ends of a type stay where they stand while elements are lifted and lowered whose type is not so deep.
use Rattle.std.proofs.Common.{◌≡◌, ◌∙◌, ◌≤◌, ◌+◌, ◌-◌, nat_eq, nat_le, inl, inr, ℕ, Bool, true, false, if◌then◌else◌, List, [], ◌∷◌, slice_set, refl, sym, ap, subst, Option, Some, None, Result, Ok, Err}
use Rattle.std.specs.List.{slice_get}
use Rattle.std.proofs.lemmas.Bool.{cases_eq, eq-eqb, ne_eqb}
use Rattle.syntax_trees.specs.declared.types.ValType.{ValType}
use Rattle.syntax_trees.specs.declared.value.Value.{Value}
use Rattle.laid_types.specs.Depth.{depth}
use Rattle.builtin_kinds.specs.declared.EndKind.{EndKind}
use Rattle.handle_table.specs.Slots.{Slots, slot_at, with_slot, entry_at, added, removed, count}
use Rattle.handle_table.specs.Sound.{IsSound}
use Rattle.res_handles.specs.declared.handle.Handle.{Handle}
use Rattle.res_handles.specs.declared.entry.EntryView.{EntryView}
use Rattle.res_handles.specs.declared.entry.EntryView.TheVariants as seen
use Rattle.res_handles.specs.declared.refusal.Refusal.{Refusal}
use Rattle.res_handles.specs.Refusals.{handle_in, own_in}
use Rattle.res_handles.specs.Ends.{end_in}
use Rattle.res_handles.specs.Calls as handles
use Rattle.value_lift.proofs.Lends.{slot_either}
use Rattle.value_lift.proofs.Uses.{own_found}
use Rattle.value_lift.specs.Ledger as ledgers
use Rattle.value_lift.specs.declared.counting.LiftOf.TheVariants as whole
use Rattle.value_lift.specs.declared.moved.Moved.{Moved}
use Rattle.value_lift.specs.declared.moved.Moved.TheVariants.{Lent, Taken}
use Rattle.value_lift.specs.declared.trap.LiftWhy.TheVariants.{TooLarge}
use Rattle.value_lift.specs.Answers.{trap}
use Rattle.value_lift.specs.Lifting.{most}
use Rattle.value_lift.specs.Over.{load_list_by}
use Rattle.value_lift.specs.Tables.{Kept, Stop, at_first, is_end_at, taken_own, taken_end, taken_borrow, taken_as, stopped}
use Rattle.value_lift.specs.Tables as tables
use Rattle.waitables.specs.Sets.{left}
use Rattle.comp_graph.specs.Graph.{ends_type}
use Rattle.instances.specs.declared.entry.EndEntry.{EndEntry}
use Rattle.instances.specs.declared.entry.WorldEntry.{WorldEntry}
use Rattle.instances.specs.declared.entry.WorldEntry.TheVariants as entry
use Rattle.instances.specs.Entries.{seen_as, of_handle, end_type_of}
use Rattle.instances.specs.Instances.{InstanceView, entry_of, with_slots, with_sets}
use Rattle.trace_labels.specs.declared.label.Label.TheVariants as line
use Rattle.world_parts.specs.Held.{Held, Gives, Traps, Stuck, given}
use Rattle.world_parts.specs.Entries.{with_instance}
use Rattle.world_parts.specs.Feed.{told}
use Rattle.world_parts.specs.Places.{bytes_at}
use Rattle.world_parts.specs.Slots.{with_task}
use Rattle.value_parts.specs.declared.lifting.Origin.{Origin}
use Rattle.value_parts.specs.Loans.{lend_kept, one_moved, all_moved, may_lend, lent_slot}
use Rattle.value_parts.specs.Names.{lift_name}
use Rattle.value_parts.specs.Lifting.{over_table, settled, elements_lifted}
use Rattle.abi_machine.specs.LiftingOver as machine
use Rattle.abi_machine.specs.LiftingOver.{AnOwn, ABorrow, AnEnd}
use Rattle.standing.proofs.Agreeing.{get_set}
use Rattle.standing.proofs.Steps.{other_get}
use Rattle.standing.proofs.marks.Tables.{filled_either}
use Rattle.run_laws.proofs.LiftedOver.{every, load_list_same}
use Rattle.run_laws.proofs.keeping.But.{GivesSo, so_given, so_after, so_behind, so_if}
use Rattle.run_laws.proofs.keeping.Changing.{next_empty}
use Rattle.run_laws.proofs.keeping.Lifted.{handle_stands}
use Rattle.run_laws.proofs.keeping.still.EndsTaken.{what_of, used_as, by_kinds, kinds_same, found_so, end_typed}
use Rattle.run_laws.proofs.keeping.still.EndsUsed.{Leaves, Spent, IsUsed, load_list_leaves}

-- The end of a type that an entry is.
abbrev pub end_if : ℕ → EndEntry → Option EndEntry
end_if type e = if nat_eq e.end_type type then Some e else None

abbrev pub end_of_type : ℕ → Option WorldEntry → Option EndEntry
end_of_type type None = None
end_of_type type (Some (entry.Handle x)) = None
end_of_type type (Some (entry.Subtask callee)) = None
end_of_type type (Some (entry.Set set)) = None
end_of_type type (Some (entry.End e)) = end_if type e

pub other_type : (type : ℕ) (e : EndEntry) → (e.end_type ≡ type → ⊥) → end_of_type type (Some (entry.End e)) ≡ None
other_type type e other = ap (λ (b : Bool). (let o : Option EndEntry = if b then Some e else None in o)) (ne_eqb e.end_type type other)

pub same_type : (type : ℕ) (o : Option WorldEntry) (e : EndEntry) → o ≡ Some (entry.End e) → e.end_type ≡ type → end_of_type type o ≡ Some e
same_type type o e is same =
    ap (end_of_type type) is ∙ ap (λ (b : Bool). (let o : Option EndEntry = if b then Some e else None in o)) (eq-eqb e.end_type type same)

if_there : (b : Bool) (d e : EndEntry) → ◌≡◌ {A = Option EndEntry} (if b then Some d else None) (Some e) → d ≡ e
if_there true d e is = cc
if_there false d e is = absurd (cc)

pub type_there : (type : ℕ) (o : Option WorldEntry) (e : EndEntry) → end_of_type type o ≡ Some e → o ≡ Some (entry.End e)
type_there type None e is = absurd (cc)
type_there type (Some (entry.Handle x)) e is = absurd (cc)
type_there type (Some (entry.Subtask callee)) e is = absurd (cc)
type_there type (Some (entry.Set set)) e is = absurd (cc)
type_there type (Some (entry.End d)) e is = ap (λ (f : EndEntry). Some (entry.End f)) (if_there (nat_eq d.end_type type) d e is)

-- The slots of a table have the same ones.
abbrev pub SameEnds : ℕ → Slots WorldEntry → Slots WorldEntry → Type 0
SameEnds type s r = (index : ℕ) → end_of_type type (entry_at r index) ≡ end_of_type type (entry_at s index)

written_same : (type : ℕ) (s : Slots WorldEntry) (index : ℕ) (o : Option WorldEntry) → end_of_type type o ≡ None → end_of_type type (entry_at s index) ≡ None
    → (n : ℕ)
    → end_of_type type (slot_at (with_slot s.entries index o) n) ≡ end_of_type type (entry_at s n)
written_same type s index o none there n =
    elim (slot_either s.entries index n o) [
      | inl same ↦ ap (end_of_type type) same
      | inr here ↦ ap (end_of_type type) here.1 ∙ none ∙ sym (ap (λ (k : ℕ). end_of_type type (entry_at s k)) here.0 ∙ there)
    ]

relent_same : (type : ℕ) (s : Slots WorldEntry) (index : ℕ) (o : Option EntryView)
    → ((x : Handle) → o ≡ Some (seen.Handle x) → end_of_type type (entry_at s index) ≡ None)
    → SameEnds type s (handles.relent_by o of_handle (λ k. k + 1) index s)
relent_same type s index None there n = refl
relent_same type s index (Some seen.Other) there n = refl
relent_same type s index (Some (seen.ReadableEnd e)) there n = refl
relent_same type s index (Some (seen.Handle x)) there n =
    written_same type s index (Some (of_handle (handles.with_lends (x.lends + 1) x))) refl (there x refl) n

pub added_same : (type : ℕ) (s : Slots WorldEntry) (e : WorldEntry) → end_of_type type (Some e) ≡ None → IsSound s → SameEnds type s (added e s)
added_same type s e none sound n =
    elim (filled_either s.entries s.freed e n) [
      | inl same ↦ ap (end_of_type type) same
      | inr here ↦
          ap (end_of_type type) here.1 ∙ none
          ∙ sym (ap (λ (k : ℕ). end_of_type type (entry_at s k)) here.0 ∙ ap (end_of_type type) (next_empty s.entries s.freed sound.free))
    ]

handle_none : (type : ℕ) (s : Slots WorldEntry) (index : ℕ) (x : Handle) → handles.view_at seen_as s index ≡ Some (seen.Handle x)
    → end_of_type type (entry_at s index) ≡ None
handle_none type s index x is = ap (end_of_type type) (handle_stands (entry_at s index) x is)

-- The tables of all instances have the same ones.
abbrev pub typed_at : ℕ → Option InstanceView → ℕ → Option EndEntry
typed_at type None index = None
typed_at type (Some i) index = end_of_type type (entry_of i index)

abbrev pub SameTyped : ℕ → Held → Held → Type 0
SameTyped type h k = (at index : ℕ) → typed_at type (slice_get k.instances at) index ≡ typed_at type (slice_get h.instances at) index

pub put_typed : (type : ℕ) (h k : Held) (at : ℕ) (x y : InstanceView) → slice_get k.instances at ≡ Some x → SameEnds type x.slots y.slots → SameTyped type h k
    → SameTyped type h (with_instance at y k)
put_typed type h k at x y is slots before n index =
    elim (cases_eq n at) [
      | inl same ↦
          ap (λ (o : Option InstanceView). typed_at type o index) (ap (λ (j : ℕ). slice_get (slice_set k.instances at y) j) same
          ∙ get_set k.instances at x y is) ∙ slots index
          ∙ sym (ap (λ (o : Option InstanceView). typed_at type o index) (ap (λ (j : ℕ). slice_get k.instances j) same ∙ is)) ∙ before n index
      | inr other ↦ ap (λ (o : Option InstanceView). typed_at type o index) (other_get k.instances at n y other) ∙ before n index
    ]

-- What moved.
module _ (type : ℕ) (h : Held) where
  abbrev Same : Held → Type 0
  Same k = SameTyped type h k

  one_same : (at callee : ℕ) (one : Moved) (k : Held) → Same k → GivesSo Same (one_moved at callee one k)
  one_same at callee (Lent handle) k same =
      so_after Same (lend_kept callee handle k) (λ done l. told (line.Lend (at + 1) handle callee) l)
      (so_given Same (slice_get k.tasks callee) (λ slot. if may_lend slot.caller then Gives (tt {0}) (with_task callee (lent_slot handle slot) k) else Stuck)
      (λ slot is. so_if Same (may_lend slot.caller) (Gives (tt {0}) (with_task callee (lent_slot handle slot) k)) Stuck same tt)) (λ done l q. q)
  one_same at callee (Taken index) k same =
      so_given Same (slice_get k.instances at) (λ i. Gives (tt {0}) (with_instance at (with_sets (left index i.sets) i) k))
      (λ i is. put_typed type h k at i (with_sets (left index i.sets) i) is (λ n. refl) same)

  moved_same : (at callee : ℕ) (moved : List Moved) (k : Held) → Same k → GivesSo Same (all_moved at callee moved k)
  moved_same at callee [] k same = same
  moved_same at callee (one ∷ moved) k same =
      so_after Same (one_moved at callee one k) (λ done l. all_moved at callee moved l) (one_same at callee one k same)
      (λ done l q. moved_same at callee moved l q)

-- Elements that are lifted.
module _ (type n : ℕ) (types : List ValType) (deep : (t : ValType) → slice_get types type ≡ Some t → depth t ≤ n → ⊥) where
  module _ (first : Slots WorldEntry) where
    abbrev StillSame : Kept WorldEntry → Type 0
    StillSame k = SameEnds type first k.slots

    spends_by : (b : Bool) (many place : ℕ) (k : Kept WorldEntry) → StillSame k
        → Spent StillSame (let r : Result (Kept WorldEntry) (Stop WorldEntry) = if b then Ok
        (record { left = k.left - many; slots = k.slots; moved = k.moved }) else Err (stopped (trap TooLarge place) k) in r)
    spends_by true many place k same = same
    spends_by false many place k same = tt

    spends : (many place : ℕ) (k : Kept WorldEntry) → StillSame k → Spent StillSame ((by_kinds types).spend many place k)
    spends many place k same = spends_by (nat_le many k.left) many place k same

    removed_same : (index : ℕ) (k : Kept WorldEntry) → end_of_type type (entry_at k.slots index) ≡ None → StillSame k
        → SameEnds type first (removed index k.slots)
    removed_same index k none same m = written_same type k.slots index None refl none m ∙ same m

    own_took : (resource : ℕ) (u : ledgers.Use) (k : Kept WorldEntry) (r : Result Handle Refusal)
        → own_in (handles.view_at seen_as k.slots u.index) resource ≡ r → StillSame k
        → Leaves StillSame (taken_own r u k)
    own_took resource u k (Ok x) is same =
        removed_same u.index k (handle_none type k.slots u.index x (own_found (handles.view_at seen_as k.slots u.index) resource x is)) same
    own_took resource u k (Err why) is same = tt

    borrow_took : (resource : ℕ) (u : ledgers.Use) (k : Kept WorldEntry) (r : Result Handle Refusal) → StillSame k
        → Leaves StillSame (taken_borrow seen_as of_handle r u k)
    borrow_took resource u k (Ok x) same =
        λ m. relent_same type k.slots u.index (handles.view_at seen_as k.slots u.index) (λ y is. handle_none type k.slots u.index y is) m ∙ same m
    borrow_took resource u k (Err why) same = tt

    end_took : (kind : EndKind) (element : Option ValType) (u : ledgers.Use) (k : Kept WorldEntry) (r : Result ℕ Refusal) → depth (ends_type kind element) ≤ n
        → end_in (handles.view_at seen_as k.slots u.index) (is_end_at end_type_of types k.slots u.index (ends_type kind element)) ≡ r → StillSame k
        → Leaves StillSame (taken_end r u k)
    end_took kind element u k (Ok number) small is same =
        let f = found_so (entry_at k.slots u.index) (is_end_at end_type_of types k.slots u.index (ends_type kind element)) number is in
        let typed : slice_get types f.1.end.end_type ≡ Some (ends_type kind element) = end_typed types k.slots u.index
        (ends_type kind element) f.1.end f.1.is f.1.side f.0 in
        removed_same u.index k
        (ap (end_of_type type) f.1.is ∙ other_type type f.1.end (λ q. deep (ends_type kind element)
        (ap (λ (p : ℕ). slice_get types p) (sym q) ∙ typed) small)) same
    end_took kind element u k (Err why) small is same = tt

    took : (what : machine.What) (u : ledgers.Use) (k : Kept WorldEntry) → IsUsed n what → StillSame k
        → Leaves StillSame (taken_as seen_as of_handle end_type_of types (what_of what) u k)
    took (AnOwn resource) u k used same = own_took resource u k (own_in (handles.view_at seen_as k.slots u.index) resource) refl same
    took (ABorrow resource) u k used same = borrow_took resource u k (handle_in (handles.view_at seen_as k.slots u.index) resource) same
    took (AnEnd kind element) u k used same =
        end_took kind element u k (end_in (handles.view_at seen_as k.slots u.index)
        (is_end_at end_type_of types k.slots u.index (ends_type kind element))) used refl same

    takes : (u : machine.Use) (k : Kept WorldEntry) → IsUsed n u.what → StillSame k → Leaves StillSame ((by_kinds types).take u k)
    takes u k used same = took u.what (used_as u) k used same

  typed : (u : ValType) → (machine.part (by_kinds types) u).type ≡ u
  typed u = (every (over_table types) (by_kinds types) (kinds_same types) u).type_same

  settles : {A : Type 0} (h : Held) (from : Origin) (i : InstanceView) (came : machine.Came (Kept WorldEntry) (Stop WorldEntry) A)
      → slice_get h.instances from.at ≡ Some i
      → Leaves (StillSame i.slots) came → GivesSo (λ (k : Held). SameTyped type h k) (settled from i (tables.given came) h)
  settles h from i (Ok x) here same =
      so_after (λ (k : Held). SameTyped type h k) (all_moved from.at from.callee x.1.moved (with_instance from.at (with_slots x.1.slots i) h))
      (λ done k. Gives x.0 k)
      (moved_same type h from.at from.callee x.1.moved (with_instance from.at (with_slots x.1.slots i) h)
      (put_typed type h h from.at i (with_slots x.1.slots i) here same (λ at index. refl))) (λ done k q. q)
  settles h from i (Err stop) here same =
      so_behind (λ (k : Held). SameTyped type h k) (all_moved from.at from.callee stop.moved (with_instance from.at (with_slots stop.slots i) h))
      (λ done k. Traps (lift_name stop.trap.why) k)
      (λ done k e. tt)

  pub elements_same : (h : Held) (from : Origin) (t : ValType) (number place count : ℕ) → depth t ≤ n
      → GivesSo (λ (k : Held). SameTyped type h k) (elements_lifted from (record { types = types; number = number; val_type = t }) place count h)
  elements_same h from t number place count small =
      so_given (λ (k : Held). SameTyped type h k) (slice_get h.instances from.at)
      (λ i. settled from i (tables.given (load_list_by (over_table types) t (bytes_at from.memory h.store) place count
      (at_first (most whole.Value) i.slots []))) h)
      (λ i here.
      settles h from i (load_list_by (over_table types) t (bytes_at from.memory h.store) place count (at_first (most whole.Value) i.slots [])) here
      (subst (λ (c : machine.Came (Kept WorldEntry) (Stop WorldEntry) (List Value)). Leaves (StillSame i.slots) c)
      (load_list_same (over_table types) (by_kinds types) (kinds_same types) t (bytes_at from.memory h.store) place count
      (at_first (most whole.Value) i.slots []))
      (load_list_leaves (by_kinds types) (StillSame i.slots) n (spends i.slots) (takes i.slots) typed t small (bytes_at from.memory h.store) place count
      (at_first (most whole.Value) i.slots [])
      (λ m. refl))))
