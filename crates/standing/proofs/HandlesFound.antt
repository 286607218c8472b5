-- A handle that is dropped is found, or refused, alike on both sides.
use Rattle.std.proofs.Common.{◌≡◌, ℕ, Bool, true, false, nat_eq, if◌then◌else◌, List, refl, sym, ap, ◌∙◌, Option, Some, None, Result, Ok, Err}
use Rattle.std.specs.Option.{option_map}
use Rattle.syntax_trees.specs.declared.types.ValType.{ValType}
use Rattle.handle_table.specs.Alike.{SlotAlike}
use Rattle.stream_ends.specs.declared.side.Side.{Side}
use Rattle.stream_ends.specs.declared.side.Side.TheVariants.{Reader, Writer}
use Rattle.res_handles.specs.declared.entry.EntryView.{EntryView}
use Rattle.res_handles.specs.declared.entry.EntryView.TheVariants as seen
use Rattle.res_handles.specs.declared.handle.Handle.{Handle}
use Rattle.res_handles.specs.declared.handle.Ownership.{Ownership}
use Rattle.res_handles.specs.declared.handle.Ownership.TheVariants.{Own, Borrow}
use Rattle.res_handles.specs.declared.refusal.Refusal.{Refusal}
use Rattle.res_handles.specs.declared.refusal.Refusal.TheVariants as refusal
use Rattle.res_handles.specs.Refusals.{unlent, that_is, dropped_in}
use Rattle.instances.specs.declared.entry.EndEntry.{EndEntry}
use Rattle.instances.specs.declared.entry.WorldEntry.{WorldEntry}
use Rattle.instances.specs.declared.entry.WorldEntry.TheVariants as entry
use Rattle.instances.specs.Entries.{seen_as, seen_by}
use Rattle.abi_machine.specs.Control.{EndRef}
use Rattle.abi_machine.specs.World.{Entry, World}
use Rattle.abi_machine.specs.Counting.{lends_of, entry_view, end_view}
use Rattle.abi_machine.proofs.sound.Found.{ok_same}
use Rattle.standing.specs.Instances.{owned_as, EntryStands}

-- A handle that is lent as often as is counted is seen as it is kept.
with_parts : (x : Handle) (lends : ℕ) (o : Ownership) → x.lends ≡ lends → x.ownership ≡ o
    → seen.Handle (record { resource = x.resource; rep = x.rep; lends = lends; ownership = o }) ≡ seen.Handle x
with_parts x lends o many same =
    ap (λ (n : ℕ). seen.Handle (let y : Handle = record { resource = x.resource; rep = x.rep; lends = n; ownership = o } in y)) (sym many)
    ∙ ap (λ (p : Ownership). seen.Handle (let y : Handle = record { resource = x.resource; rep = x.rep; lends = x.lends; ownership = p } in y)) (sym same)

owned_seen : (w : World) (i index : ℕ) (x : Handle) (o : Ownership) → x.ownership ≡ o → x.lends ≡ lends_of w i index
    → entry_view w i index (owned_as x.resource x.rep o) ≡ seen.Handle x
owned_seen w i index x Own same many = with_parts x (lends_of w i index) Own many same
owned_seen w i index x (Borrow task) same many = with_parts x (lends_of w i index) (Borrow task) many same

-- An end is no handle, whether it is idle or not.
end_alike : (w : World) (resource : ℕ) (side other : Side) (ref : EndRef) (e : EndEntry)
    → dropped_in (Some (end_view w ref side)) resource ≡ dropped_in (Some (seen_by other e)) resource
end_alike w resource Reader Reader ref e = refl
end_alike w resource Reader Writer ref e = refl
end_alike w resource Writer Reader ref e = refl
end_alike w resource Writer Writer ref e = refl

pub dropped_alike : (values : List ValType) (w : World) (i index resource : ℕ) (o : Option WorldEntry) (p : Option Entry)
    → ((x : Handle) → o ≡ Some (entry.Handle x) → x.lends ≡ lends_of w i index) → SlotAlike (EntryStands values) o p
    → dropped_in (option_map (entry_view w i index) p) resource ≡ dropped_in (option_map seen_as o) resource
dropped_alike values w i index resource None None lent h = refl
dropped_alike values w i index resource None (Some a) lent h = absurd h
dropped_alike values w i index resource (Some e) None lent h = absurd h
dropped_alike values w i index resource (Some (entry.Handle x)) (Some a) lent h =
    ap (λ (b : Entry). dropped_in (Some (entry_view w i index b)) resource) h
    ∙ ap (λ (v : EntryView). dropped_in (Some v) resource) (owned_seen w i index x x.ownership refl (lent x refl))
dropped_alike values w i index resource (Some (entry.Subtask callee)) (Some a) lent h = ap (λ (b : Entry). dropped_in (Some (entry_view w i index b)) resource) h
dropped_alike values w i index resource (Some (entry.Set set)) (Some a) lent h = ap (λ (b : Entry). dropped_in (Some (entry_view w i index b)) resource) h
dropped_alike values w i index resource (Some (entry.End e)) (Some a) lent h =
    ap (λ (b : Entry). dropped_in (Some (entry_view w i index b)) resource) h.2 ∙ end_alike w resource e.side e.side _ e

-- What is dropped stands at the index.
none_lent : (b : Bool) (x y : Handle) → (if b then Ok y else Err refusal.Lent) ≡ Ok x → y ≡ x
none_lent true x y h = ok_same h
none_lent false x y h = absurd (cc)

of_type : (b : Bool) (x y : Handle) → that_is unlent (if b then Ok y else Err refusal.OtherType) ≡ Ok x → y ≡ x
of_type true x y h = none_lent (nat_eq y.lends 0) x y h
of_type false x y h = absurd (cc)

no_end : (side : Side) (resource : ℕ) (e : EndEntry) (x : Handle) → dropped_in (Some (seen_by side e)) resource ≡ Ok x → ⊥
no_end Reader resource e x h = absurd (cc)
no_end Writer resource e x h = absurd (cc)

pub dropped_there : (o : Option WorldEntry) (resource : ℕ) (x : Handle) → dropped_in (option_map seen_as o) resource ≡ Ok x → o ≡ Some (entry.Handle x)
dropped_there None resource x h = absurd (cc)
dropped_there (Some (entry.Handle y)) resource x h = ap (λ (z : Handle). Some (entry.Handle z)) (of_type (nat_eq y.resource resource) x y h)
dropped_there (Some (entry.Subtask callee)) resource x h = absurd (cc)
dropped_there (Some (entry.Set set)) resource x h = absurd (cc)
dropped_there (Some (entry.End e)) resource x h = absurd (no_end e.side resource e x h)
