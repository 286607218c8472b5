-- What is found at an index, and the words of a call, on both sides.
use Rattle.std.proofs.Common.{◌≡◌, ℕ, zero, suc, Bool, true, false, nat_eq, nat_lt, ◌^◌, if◌then◌else◌, List, [], ◌∷◌, slice_index, refl, ap, ◌∙◌, Option, Some, None, Ok, Err}
use Rattle.std.specs.Option.{option_map}
use Rattle.syntax_trees.specs.declared.types.ValType.{ValType}
use Rattle.handle_table.specs.Alike.{SlotAlike}
use Rattle.stream_ends.specs.declared.side.Side.{Side}
use Rattle.stream_ends.specs.declared.side.Side.TheVariants.{Reader, Writer}
use Rattle.res_handles.specs.declared.handle.Handle.{Handle}
use Rattle.res_handles.specs.declared.handle.Ownership.{Ownership}
use Rattle.res_handles.specs.declared.handle.Ownership.TheVariants.{Own, Borrow}
use Rattle.res_handles.specs.declared.refusal.Refusal.{Refusal}
use Rattle.res_handles.specs.declared.refusal.Refusal.TheVariants as refusal
use Rattle.res_handles.specs.Refusals.{handle_in, rep_of}
use Rattle.instances.specs.declared.entry.EndEntry.{EndEntry}
use Rattle.instances.specs.declared.entry.WorldEntry.{WorldEntry}
use Rattle.instances.specs.declared.entry.WorldEntry.TheVariants as entry
use Rattle.instances.specs.Entries as kept
use Rattle.instances.specs.Entries.{seen_as, seen_by}
use Rattle.world_parts.specs.Names as names
use Rattle.world_parts.specs.Slots.{word_in}
use Rattle.abi_machine.specs.Traps.{refusal_name, renamed}
use Rattle.abi_machine.specs.World.{Entry, World}
use Rattle.abi_machine.specs.Counting.{entry_view, end_view}
use Rattle.abi_machine.specs.Finding as found
use Rattle.abi_machine.proofs.sound.Found.{some_same}
use Rattle.standing.specs.Instances.{owned_as, EntryStands}

pub names_same : (why : Refusal) → names.refusal_name why ≡ refusal_name why
names_same refusal.Absent = refl
names_same refusal.OtherKind = refl
names_same refusal.OtherType = refl
names_same refusal.NotOwn = refl
names_same refusal.Lent = refl
names_same refusal.NotIdle = refl

-- A handle is no subtask, no set and no waitable.
no_subtask : (resource rep : ℕ) (o : Ownership) → found.subtask_in (Some (owned_as resource rep o)) ≡ renamed refusal_name (Err refusal.OtherKind)
no_subtask resource rep Own = refl
no_subtask resource rep (Borrow task) = refl

no_set : (resource rep : ℕ) (o : Ownership) → found.set_in (Some (owned_as resource rep o)) ≡ renamed refusal_name (Err refusal.OtherKind)
no_set resource rep Own = refl
no_set resource rep (Borrow task) = refl

no_waitable : (resource rep : ℕ) (o : Ownership) → found.waitable_in (Some (owned_as resource rep o)) ≡ renamed refusal_name (Err refusal.OtherKind)
no_waitable resource rep Own = refl
no_waitable resource rep (Borrow task) = refl

pub subtask_alike : (values : List ValType) (o : Option WorldEntry) (p : Option Entry) → SlotAlike (EntryStands values) o p → found.subtask_in p ≡ renamed refusal_name (kept.subtask_in o)
subtask_alike values None None h = refl
subtask_alike values None (Some a) h = absurd h
subtask_alike values (Some e) None h = absurd h
subtask_alike values (Some (entry.Handle x)) (Some a) h = ap (λ (b : Entry). found.subtask_in (Some b)) h ∙ no_subtask x.resource x.rep x.ownership
subtask_alike values (Some (entry.Subtask callee)) (Some a) h = ap (λ (b : Entry). found.subtask_in (Some b)) h
subtask_alike values (Some (entry.Set set)) (Some a) h = ap (λ (b : Entry). found.subtask_in (Some b)) h
subtask_alike values (Some (entry.End e)) (Some a) h = ap (λ (b : Entry). found.subtask_in (Some b)) h.2

pub set_alike : (values : List ValType) (o : Option WorldEntry) (p : Option Entry) → SlotAlike (EntryStands values) o p → found.set_in p ≡ renamed refusal_name (kept.set_in o)
set_alike values None None h = refl
set_alike values None (Some a) h = absurd h
set_alike values (Some e) None h = absurd h
set_alike values (Some (entry.Handle x)) (Some a) h = ap (λ (b : Entry). found.set_in (Some b)) h ∙ no_set x.resource x.rep x.ownership
set_alike values (Some (entry.Subtask callee)) (Some a) h = ap (λ (b : Entry). found.set_in (Some b)) h
set_alike values (Some (entry.Set set)) (Some a) h = ap (λ (b : Entry). found.set_in (Some b)) h
set_alike values (Some (entry.End e)) (Some a) h = ap (λ (b : Entry). found.set_in (Some b)) h.2

pub waitable_alike : (values : List ValType) (o : Option WorldEntry) (p : Option Entry) → SlotAlike (EntryStands values) o p → found.waitable_in p ≡ renamed refusal_name (kept.waitable_in o)
waitable_alike values None None h = refl
waitable_alike values None (Some a) h = absurd h
waitable_alike values (Some e) None h = absurd h
waitable_alike values (Some (entry.Handle x)) (Some a) h = ap (λ (b : Entry). found.waitable_in (Some b)) h ∙ no_waitable x.resource x.rep x.ownership
waitable_alike values (Some (entry.Subtask callee)) (Some a) h = ap (λ (b : Entry). found.waitable_in (Some b)) h
waitable_alike values (Some (entry.Set set)) (Some a) h = ap (λ (b : Entry). found.waitable_in (Some b)) h
waitable_alike values (Some (entry.End e)) (Some a) h = ap (λ (b : Entry). found.waitable_in (Some b)) h.2

-- what a handle stands for, however often it is lent
same_rep : (b : Bool) (x y : Handle) → x.rep ≡ y.rep
    → rep_of (if b then Ok x else Err refusal.OtherType) ≡ rep_of (if b then Ok y else Err refusal.OtherType)
same_rep true x y same = ap Ok same
same_rep false x y same = refl

owned_rep : (w : World) (i index resource : ℕ) (x : Handle) (o : Ownership) → x.ownership ≡ o
    → rep_of (handle_in (Some (entry_view w i index (owned_as x.resource x.rep o))) resource) ≡ rep_of (handle_in (Some (seen_as (entry.Handle x))) resource)
owned_rep w i index resource x Own same = same_rep (nat_eq x.resource resource) _ x refl
owned_rep w i index resource x (Borrow task) same = same_rep (nat_eq x.resource resource) _ x refl

end_rep : (w : World) (resource : ℕ) (side other : Side) (kind : _) (e : EndEntry)
    → rep_of (handle_in (Some (end_view w kind side)) resource) ≡ rep_of (handle_in (Some (seen_by other e)) resource)
end_rep w resource Reader Reader kind e = refl
end_rep w resource Reader Writer kind e = refl
end_rep w resource Writer Reader kind e = refl
end_rep w resource Writer Writer kind e = refl

pub rep_alike : (values : List ValType) (w : World) (i index resource : ℕ) (o : Option WorldEntry) (p : Option Entry) → SlotAlike (EntryStands values) o p
    → rep_of (handle_in (option_map (entry_view w i index) p) resource) ≡ rep_of (handle_in (option_map seen_as o) resource)
rep_alike values w i index resource None None h = refl
rep_alike values w i index resource None (Some a) h = absurd h
rep_alike values w i index resource (Some e) None h = absurd h
rep_alike values w i index resource (Some (entry.Handle x)) (Some a) h =
    ap (λ (b : Entry). rep_of (handle_in (Some (entry_view w i index b)) resource)) h ∙ owned_rep w i index resource x x.ownership refl
rep_alike values w i index resource (Some (entry.Subtask callee)) (Some a) h = ap (λ (b : Entry). rep_of (handle_in (Some (entry_view w i index b)) resource)) h
rep_alike values w i index resource (Some (entry.Set set)) (Some a) h = ap (λ (b : Entry). rep_of (handle_in (Some (entry_view w i index b)) resource)) h
rep_alike values w i index resource (Some (entry.End e)) (Some a) h =
    ap (λ (b : Entry). rep_of (handle_in (Some (entry_view w i index b)) resource)) h.2 ∙ end_rep w resource e.side e.side _ e

-- A word of a call that is a 32-bit one.
small_is : (b : Bool) (x word : ℕ) → (if b then Some x else None) ≡ Some word → x ≡ word
small_is true x word h = some_same h
small_is false x word h = absurd (cc)

pub word_is : (words : List ℕ) (number word : ℕ) → word_in words number ≡ Some word → slice_index words number ≡ word
word_is [] number word h = absurd (cc)
word_is (x ∷ words) zero word h = small_is (nat_lt x (2 ^ 32)) x word h
word_is (x ∷ words) (suc number) word h = word_is words number word h
