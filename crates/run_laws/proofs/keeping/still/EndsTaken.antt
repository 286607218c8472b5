-- Ends that are lifted from a table were marked there, so each is readable and idle by what is kept of its stream or its future.
use Rattle.std.proofs.Common.{◌≡◌, ◌∙◌, ◌-◌, ◌+◌, inl, inr, ℕ, nat_le, Bool, true, false, if◌then◌else◌, List, refl, sym, ap, subst, Option, Some, None, Result, Ok, Err}
use Rattle.std.specs.List.{slice_get}
use Rattle.std.specs.Option.{option_map, option_and_then}
use Rattle.syntax_trees.specs.declared.types.ValType.{ValType}
use Rattle.laid_types.specs.SameTypes.{AreDistinct, same_val}
use Rattle.laid_types.proofs.SameTypes.{val_told}
use Rattle.handle_table.specs.Slots.{Slots, entry_at, with_entry}
use Rattle.res_handles.specs.declared.handle.Handle.{Handle}
use Rattle.res_handles.specs.declared.entry.EntryView.{EntryView}
use Rattle.res_handles.specs.declared.entry.EntryView.TheVariants as seen
use Rattle.res_handles.specs.declared.readable_end.ReadableEnd.{ReadableEnd}
use Rattle.res_handles.specs.declared.refusal.Refusal.{Refusal}
use Rattle.res_handles.specs.declared.refusal.Refusal.TheVariants as refusal
use Rattle.res_handles.specs.Refusals.{handle_in, own_in}
use Rattle.res_handles.specs.Ends.{end_in, end_of, is_of_by}
use Rattle.res_handles.specs.Calls as handles
use Rattle.stream_ends.specs.declared.side.Side.{Side}
use Rattle.stream_ends.specs.declared.side.Side.TheVariants.{Reader, Writer}
use Rattle.channels.specs.declared.channel.Channel.{Channel}
use Rattle.builtin_kinds.specs.declared.EndKind.{EndKind}
use Rattle.value_lift.specs.Ledger as ledgers
use Rattle.value_lift.specs.Tables.{Kept, Stop, type_in, is_end_at, taken_own, taken_end, taken_borrow, taken_as, stopped}
use Rattle.value_lift.specs.Answers.{trap}
use Rattle.value_lift.specs.declared.trap.LiftWhy.TheVariants.{TooLarge}
use Rattle.comp_graph.specs.Graph.{ends_type}
use Rattle.instances.specs.declared.entry.EndEntry.{EndEntry}
use Rattle.instances.specs.declared.entry.WorldEntry.{WorldEntry}
use Rattle.instances.specs.declared.entry.WorldEntry.TheVariants as entry
use Rattle.instances.specs.Entries.{seen_as, seen_by, of_handle, end_type_of, readable_type}
use Rattle.value_parts.specs.Lifting.{over_table}
use Rattle.abi_machine.specs.LiftingOver as machine
use Rattle.abi_machine.specs.LiftingOver.{AnOwn, ABorrow, AnEnd}
use Rattle.abi_machine.proofs.sound.Found.{ok_same}
use Rattle.standing.specs.Channels.{EndMarked}
use Rattle.value_lift.proofs.Lends.{slot_either}
use Rattle.run_laws.proofs.LiftedLayers.{AreSame, WhatAgrees}
use Rattle.run_laws.proofs.keeping.still.Entries.{removed_stood}
use Rattle.run_laws.proofs.keeping.still.EndsLifted.{IsLowFor, SpentSo, Comes}

-- The machine's ledger over the same table, where an end is wanted by its kind and its elements.
abbrev pub what_of : machine.What → ledgers.What
what_of (AnOwn resource) = ledgers.AnOwn resource
what_of (ABorrow resource) = ledgers.ABorrow resource
what_of (AnEnd kind element) = ledgers.AnEnd (ends_type kind element)

abbrev pub used_as : machine.Use → ledgers.Use
used_as u = record { what = what_of u.what; index = u.index; place = u.place }

abbrev pub by_kinds : List ValType → machine.Ledger (Kept WorldEntry) (Stop WorldEntry)
by_kinds types = record {
  spend = (over_table types).spend;
  stop = (over_table types).stop;
  take = λ u k. (over_table types).take (used_as u) k;
}

what_same : (a : ledgers.What) (b : machine.What) → WhatAgrees a b → what_of b ≡ a
what_same (ledgers.AnOwn resource) b w = ap what_of w
what_same (ledgers.ABorrow resource) b w = ap what_of w
what_same (ledgers.AnEnd type) b (kind, element, is, of) = ap what_of is ∙ ap (λ (t : ValType). ledgers.AnEnd t) (sym of)

pub kinds_same : (types : List ValType) → AreSame (over_table types) (by_kinds types)
kinds_same types = record {
  spend = λ many place k. refl;
  stop = λ fault k. refl;
  take = λ a b index place k w.
      ap (λ (v : ledgers.What). (over_table types).take (record { what = v; index = index; place = place }) k) (what_same a b w);
}

-- A readable end that is found.
pub record Found (o : Option WorldEntry) (number : ℕ) : Type 0 where
  pub end : EndEntry
  pub is : o ≡ Some (entry.End end)
  pub side : end.side ≡ Reader
  pub same : end.number ≡ number
  pub idle : end.is_idle ≡ true

idle_so : (b : Bool) (n number : ℕ) → ◌≡◌ {A = Result ℕ Refusal} (if b then Ok n else Err refusal.NotIdle) (Ok number) → (b ≡ true) × (n ≡ number)
idle_so true n number e = (refl, ok_same e)
idle_so false n number e = absurd (cc)

end_so : (of : Bool) (x : ReadableEnd) (number : ℕ) → end_of of x ≡ Ok number → (of ≡ true) × (x.is_idle ≡ true) × (x.number ≡ number)
end_so true x number e = (let p = idle_so x.is_idle x.number number e in (refl, p.0, p.1))
end_so false x number e = absurd (cc)

by_side : (side : Side) (e : EndEntry) (of : Bool) (number : ℕ) → e.side ≡ side → end_in (Some (seen_by side e)) of ≡ Ok number → (of ≡ true) × Found (Some (entry.End e)) number
by_side Reader e of number is h =
    (let p = end_so of (record { number = e.number; is_idle = e.is_idle }) number h in (p.0, record { end = e; is = refl; side = is; same = p.2; idle = p.1 }))
by_side Writer e of number is h = absurd (cc)

pub found_so : (o : Option WorldEntry) (of : Bool) (number : ℕ) → end_in (option_map seen_as o) of ≡ Ok number → (of ≡ true) × Found o number
found_so None of number h = absurd (cc)
found_so (Some (entry.Handle x)) of number h = absurd (cc)
found_so (Some (entry.Subtask callee)) of number h = absurd (cc)
found_so (Some (entry.Set set)) of number h = absurd (cc)
found_so (Some (entry.End e)) of number h = by_side e.side e of number refl h

-- The type that it has is the one that is wanted.
type_so : (o : Option ValType) (type : ValType) → is_of_by same_val o type ≡ true → o ≡ Some type
type_so None type h = absurd (cc)
type_so (Some t) type h = ap (λ (x : ValType). Some x) ((val_told t type).0 h)

found_type : (types : List ValType) (o : Option WorldEntry) (e : EndEntry) → o ≡ Some (entry.End e) → e.side ≡ Reader → type_in types (option_and_then end_type_of o) ≡ slice_get types e.end_type
found_type types o e is side =
    ap (λ (x : Option WorldEntry). type_in types (option_and_then end_type_of x)) is ∙ ap (λ (s : Side). type_in types (readable_type s e)) side

pub end_typed : (types : List ValType) (s : Slots WorldEntry) (index : ℕ) (type : ValType) (e : EndEntry) → entry_at s index ≡ Some (entry.End e) → e.side ≡ Reader
    → is_end_at end_type_of types s index type ≡ true → slice_get types e.end_type ≡ Some type
end_typed types s index type e is side of =
    sym (found_type types (entry_at s index) e is side) ∙ type_so (type_in types (option_and_then end_type_of (entry_at s index))) type of

-- A handle that is lent is one still.
handle_stands : (s : Slots WorldEntry) (x : Handle) (index n : ℕ) (d : EndEntry) → entry_at (with_entry index (entry.Handle x) s) n ≡ Some (entry.End d) → entry_at s n ≡ Some (entry.End d)
handle_stands s x index n d has =
    elim (slot_either s.entries index n (Some (entry.Handle x))) [
      | inl same ↦ sym same ∙ has
      | inr here ↦ absurd (no_end (sym here.1 ∙ has))
    ]
  where
    no_end : Some (entry.Handle x) ≡ Some (entry.End d) → ⊥
    no_end e = cc

lent_stood : (s : Slots WorldEntry) (index : ℕ) (o : Option EntryView) (n : ℕ) (d : EndEntry) → entry_at (handles.relent_by o of_handle (λ k. k + 1) index s) n ≡ Some (entry.End d)
    → entry_at s n ≡ Some (entry.End d)
lent_stood s index None n d has = has
lent_stood s index (Some seen.Other) n d has = has
lent_stood s index (Some (seen.ReadableEnd e)) n d has = has
lent_stood s index (Some (seen.Handle x)) n d has = handle_stands s (handles.with_lends (x.lends + 1) x) index n d has

module _ (streams futures : List Channel) (types : List ValType) (distinct : AreDistinct types) where
  -- Of an end that is taken, of this type: its stream or its future is there, of the type's number, and it is idle.
  abbrev pub Comes_so : ValType → ℕ → Type 0
  Comes_so type number =
      (place : ℕ) → slice_get types place ≡ Some type → EndMarked streams futures (record { side = Reader; end_type = place; number = number; is_idle = true })

  abbrev pub Marked : Kept WorldEntry → Type 0
  Marked k = (index : ℕ) (e : EndEntry) → entry_at k.slots index ≡ Some (entry.End e) → EndMarked streams futures e

  spends_by : (b : Bool) (many place : ℕ) (k : Kept WorldEntry) → Marked k
      → SpentSo Comes_so (by_kinds types) Marked
      (let r : Result (Kept WorldEntry) (Stop WorldEntry) = if b then Ok (record { left = k.left - many; slots = k.slots; moved = k.moved }) else Err (stopped (trap TooLarge place) k) in r)
  spends_by true many place k m = m
  spends_by false many place k m = tt

  pub spends : (many place : ℕ) (k : Kept WorldEntry) → Marked k → SpentSo Comes_so (by_kinds types) Marked ((by_kinds types).spend many place k)
  spends many place k m = spends_by (nat_le many k.left) many place k m

  abbrev Took : machine.What → Result (ℕ × Kept WorldEntry) (Stop WorldEntry) → Type 0
  Took what r = Comes Comes_so (by_kinds types) Marked (IsLowFor Comes_so what) r

  own_took : (resource : ℕ) (u : ledgers.Use) (k : Kept WorldEntry) (r : Result Handle Refusal) → Marked k → Took (AnOwn resource) (taken_own r u k)
  own_took resource u k (Ok x) m = (tt, λ index e stood. m index e (removed_stood k.slots u.index index e stood))
  own_took resource u k (Err why) m = tt

  borrow_took : (resource : ℕ) (u : ledgers.Use) (k : Kept WorldEntry) (r : Result Handle Refusal) → Marked k → Took (ABorrow resource) (taken_borrow seen_as of_handle r u k)
  borrow_took resource u k (Ok x) m = (tt, λ index e stood. m index e (lent_stood k.slots u.index (handles.view_at seen_as k.slots u.index) index e stood))
  borrow_took resource u k (Err why) m = tt

  as_marked : (e : EndEntry) (place number : ℕ) → e.side ≡ Reader → e.end_type ≡ place → e.number ≡ number → e.is_idle ≡ true → EndMarked streams futures e
      → EndMarked streams futures (record { side = Reader; end_type = place; number = number; is_idle = true })
  as_marked e place number side type same idle m =
      subst (λ (s : Side). EndMarked streams futures (record { side = s; end_type = place; number = number; is_idle = true })) side
      (subst (λ (n : ℕ). EndMarked streams futures (record { side = e.side; end_type = n; number = number; is_idle = true })) type
      (subst (λ (n : ℕ). EndMarked streams futures (record { side = e.side; end_type = e.end_type; number = n; is_idle = true })) same
      (subst (λ (b : Bool). EndMarked streams futures (record { side = e.side; end_type = e.end_type; number = e.number; is_idle = b })) idle m)))

  end_comes : (k : Kept WorldEntry) (index number : ℕ) (kind : EndKind) (element : Option ValType) (e : EndEntry) → entry_at k.slots index ≡ Some (entry.End e) → e.side ≡ Reader → e.number ≡ number
      → e.is_idle ≡ true → is_end_at end_type_of types k.slots index (ends_type kind element) ≡ true → Marked k → Comes_so (ends_type kind element) number
  end_comes k index number kind element e is side same idle of m place there =
      let typed : slice_get types e.end_type ≡ Some (ends_type kind element) = end_typed types k.slots index (ends_type kind element) e is side of in
      as_marked e place number side (distinct e.end_type place (ends_type kind element) typed there) same idle (m index e is)

  end_took : (kind : EndKind) (element : Option ValType) (u : ledgers.Use) (k : Kept WorldEntry) (r : Result ℕ Refusal)
      → end_in (handles.view_at seen_as k.slots u.index) (is_end_at end_type_of types k.slots u.index (ends_type kind element)) ≡ r → Marked k → Took (AnEnd kind element) (taken_end r u k)
  end_took kind element u k (Ok number) is m =
      let f = found_so (entry_at k.slots u.index) (is_end_at end_type_of types k.slots u.index (ends_type kind element)) number is in (
        end_comes k u.index number kind element f.1.end f.1.is f.1.side f.1.same f.1.idle f.0 m,
        λ index e stood. m index e (removed_stood k.slots u.index index e stood),
      )
  end_took kind element u k (Err why) is m = tt

  took : (what : machine.What) (u : ledgers.Use) (k : Kept WorldEntry) → Marked k → Took what (taken_as seen_as of_handle end_type_of types (what_of what) u k)
  took (AnOwn resource) u k m = own_took resource u k (own_in (handles.view_at seen_as k.slots u.index) resource) m
  took (ABorrow resource) u k m = borrow_took resource u k (handle_in (handles.view_at seen_as k.slots u.index) resource) m
  took (AnEnd kind element) u k m =
      end_took kind element u k (end_in (handles.view_at seen_as k.slots u.index) (is_end_at end_type_of types k.slots u.index (ends_type kind element))) refl m

  pub takes : (u : machine.Use) (k : Kept WorldEntry) → Marked k → Comes Comes_so (by_kinds types) Marked (IsLowFor Comes_so u.what) ((by_kinds types).take u k)
  takes u k m = took u.what (used_as u) k m
