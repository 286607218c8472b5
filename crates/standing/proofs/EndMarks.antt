-- Marks of ends stay where entries come and go, and where streams and futures are made.
use Rattle.std.proofs.Common.{◌≡◌, ◌⊎◌, inl, inr, ℕ, zero, suc, List, [], ◌∷◌, ◌++◌, slice_set, slice_index_or, sym, ap, ◌∙◌, subst, Option, Some, None}
use Rattle.std.specs.List.{slice_get}
use Rattle.handle_table.specs.Slots.{Slots, slot_at, with_slot, filled, entry_at}
use Rattle.builtin_kinds.specs.declared.EndKind.{EndKind}
use Rattle.builtin_kinds.specs.declared.EndKind.TheVariants.{Stream, Future}
use Rattle.channels.specs.declared.channel.Channel.{Channel}
use Rattle.instances.specs.declared.entry.EndEntry.{EndEntry}
use Rattle.instances.specs.declared.entry.WorldEntry.{WorldEntry}
use Rattle.instances.specs.declared.entry.WorldEntry.TheVariants as entry
use Rattle.instances.specs.Instances.{InstanceView, new_instance, entry_of, entry_added, entry_removed, entry_changed}
use Rattle.world_parts.specs.Channels.{place_of, at_place, numbered}
use Rattle.abi_machine.proofs.sound.Found.{some_same}
use Rattle.standing.specs.Channels.{of_kind, EndMarked, EndsMarked}
use Rattle.standing.specs.EndMarks.{EntryMarked, BegunIsMarked, SameEntriesStayMarked, AddedStayMarked, RemovedStayMarked, ChangedStayMarked, StreamsStayMarked, FuturesStayMarked}

-- What stands at a place of a list with one more item, and of one with another item at a place.
more_at : {A : Type 0} (xs : List A) (x y : A) (n : ℕ) → slice_get (xs ++ x ∷ []) n ≡ Some y → (y ≡ x) ⊎ (slice_get xs n ≡ Some y)
more_at [] x y zero h = inl (sym (some_same h))
more_at [] x y (suc n) h = absurd (cc)
more_at (z ∷ xs) x y zero h = inr h
more_at (z ∷ xs) x y (suc n) h = more_at xs x y n h

other_at : {A : Type 0} (xs : List A) (m n : ℕ) (x y : A) → slice_get (slice_set xs m x) n ≡ Some y → (y ≡ x) ⊎ (slice_get xs n ≡ Some y)
other_at [] m n x y h = absurd (cc)
other_at (z ∷ xs) zero zero x y h = inl (sym (some_same h))
other_at (z ∷ xs) zero (suc n) x y h = inr h
other_at (z ∷ xs) (suc m) zero x y h = inr h
other_at (z ∷ xs) (suc m) (suc n) x y h = other_at xs m n x y h

-- The same of slots.
more_slot : {E : Type 0} (xs : List (Option E)) (e y : E) (n : ℕ) → slice_index_or (xs ++ Some e ∷ []) n None ≡ Some y → (y ≡ e) ⊎ (slice_index_or xs n None ≡ Some y)
more_slot [] e y zero h = inl (sym (some_same h))
more_slot [] e y (suc n) h = absurd (cc)
more_slot (x ∷ xs) e y zero h = inr h
more_slot (x ∷ xs) e y (suc n) h = more_slot xs e y n h

set_slot : {E : Type 0} (xs : List (Option E)) (m n : ℕ) (o : Option E) (y : E) → slice_index_or (slice_set xs m o) n None ≡ Some y → (o ≡ Some y) ⊎ (slice_index_or xs n None ≡ Some y)
set_slot [] m n o y h = absurd (cc)
set_slot (x ∷ xs) zero zero o y h = inl h
set_slot (x ∷ xs) zero (suc n) o y h = inr h
set_slot (x ∷ xs) (suc m) zero o y h = inr h
set_slot (x ∷ xs) (suc m) (suc n) o y h = set_slot xs m n o y h

with_slot_at : {E : Type 0} (xs : List (Option E)) (index other : ℕ) (o : Option E) (y : E) → slot_at (with_slot xs index o) other ≡ Some y → (o ≡ Some y) ⊎ (slot_at xs other ≡ Some y)
with_slot_at xs index zero o y h = absurd (cc)
with_slot_at xs zero (suc n) o y h = inr h
with_slot_at xs (suc m) (suc n) o y h = set_slot xs m n o y h

as_some : {E : Type 0} (xs : List (Option E)) (e y : E) (n : ℕ) → (y ≡ e) ⊎ (slice_index_or xs n None ≡ Some y) → (Some e ≡ Some y) ⊎ (slice_index_or xs n None ≡ Some y)
as_some xs e y n (inl same) = inl (ap (λ z. Some z) (sym same))
as_some xs e y n (inr there) = inr there

filled_at : {E : Type 0} (xs : List (Option E)) (free : List ℕ) (e y : E) (other : ℕ) → slot_at (filled xs free e) other ≡ Some y → (Some e ≡ Some y) ⊎ (slot_at xs other ≡ Some y)
filled_at xs free e y zero h = absurd (cc)
filled_at xs [] e y (suc n) h = as_some xs e y n (more_slot xs e y n h)
filled_at xs (index ∷ free) e y (suc n) h = with_slot_at xs index (suc n) (Some e) y h

-- An instance is another one, whose ends are marked, or were there before.
changed_end : (instances : List InstanceView) (streams futures : List Channel) (at other index : ℕ) (x y i : InstanceView) (e : EndEntry) → slice_get instances at ≡ Some x
    → (EndMarked streams futures e ⊎ (entry_of x index ≡ Some (entry.End e))) → EndsMarked instances streams futures → EndMarked streams futures e
changed_end instances streams futures at other index x y i e is (inl m) marks = m
changed_end instances streams futures at other index x y i e is (inr there) marks = marks at index x e is there

end_of : (instances : List InstanceView) (streams futures : List Channel) (at other index : ℕ) (x y i : InstanceView) (e : EndEntry) → slice_get instances at ≡ Some x
    → ((e : EndEntry) → entry_of y index ≡ Some (entry.End e) → EndMarked streams futures e ⊎ (entry_of x index ≡ Some (entry.End e)))
    → ((i ≡ y) ⊎ (slice_get instances other ≡ Some i)) → entry_of i index ≡ Some (entry.End e) → EndsMarked instances streams futures → EndMarked streams futures e
end_of instances streams futures at other index x y i e is keeps (inl same) found marks =
    changed_end instances streams futures at other index x y i e is (keeps e (ap (λ (j : InstanceView). entry_of j index) (sym same) ∙ found)) marks
end_of instances streams futures at other index x y i e is keeps (inr there) found marks = marks other index i e there found

instance_changes : (instances : List InstanceView) (streams futures : List Channel) (at : ℕ) (x y : InstanceView) → slice_get instances at ≡ Some x
    → ((index : ℕ) (e : EndEntry) → entry_of y index ≡ Some (entry.End e) → EndMarked streams futures e ⊎ (entry_of x index ≡ Some (entry.End e)))
    → EndsMarked instances streams futures → EndsMarked (slice_set instances at y) streams futures
instance_changes instances streams futures at x y is keeps marks =
    λ other index i e there found.
    end_of instances streams futures at other index x y i e is (λ d is_d. keeps index d is_d) (other_at instances at other y i there) found marks

pub same_entries_stay_marked : SameEntriesStayMarked
same_entries_stay_marked instances streams futures at x y is same marks =
    instance_changes instances streams futures at x y is (λ index e found. inr (ap (λ (z : Slots WorldEntry). entry_at z index) (sym same) ∙ found)) marks

-- An entry that comes is marked where it is an end.
new_end : (streams futures : List Channel) (e : WorldEntry) (d : EndEntry) → Some e ≡ Some (entry.End d) → EntryMarked streams futures e → EndMarked streams futures d
new_end streams futures e d same m = subst (λ (z : WorldEntry). EntryMarked streams futures z) (some_same same) m

came : (streams futures : List Channel) (e : WorldEntry) (d : EndEntry) (o : Option WorldEntry) → EntryMarked streams futures e → (Some e ≡ Some (entry.End d)) ⊎ (o ≡ Some (entry.End d))
    → EndMarked streams futures d ⊎ (o ≡ Some (entry.End d))
came streams futures e d o m (inl same) = inl (new_end streams futures e d same m)
came streams futures e d o m (inr there) = inr there

pub added_stay_marked : AddedStayMarked
added_stay_marked instances streams futures at x e is m marks =
    instance_changes instances streams futures at x (entry_added e x) is
    (λ index d found. came streams futures e d (entry_of x index) m (filled_at x.slots.entries x.slots.freed e (entry.End d) index found)) marks

pub changed_stay_marked : ChangedStayMarked
changed_stay_marked instances streams futures at index x e is m marks =
    instance_changes instances streams futures at x (entry_changed index e x) is
    (λ other d found. came streams futures e d (entry_of x other) m (with_slot_at x.slots.entries index other (Some e) (entry.End d) found)) marks

none_came : (d : EndEntry) (streams futures : List Channel) (o : Option WorldEntry) → ((let n : Option WorldEntry = None in n) ≡ Some (entry.End d)) ⊎ (o ≡ Some (entry.End d))
    → EndMarked streams futures d ⊎ (o ≡ Some (entry.End d))
none_came d streams futures o (inl same) = absurd (cc)
none_came d streams futures o (inr there) = inr there

pub removed_stay_marked : RemovedStayMarked
removed_stay_marked instances streams futures at index x is marks =
    instance_changes instances streams futures at x (entry_removed index x) is
    (λ other d found. none_came d streams futures (entry_of x other) (with_slot_at x.slots.entries index other None (entry.End d) found)) marks

-- An instance that begins has no entry.
no_entry : (index : ℕ) (e : EndEntry) → entry_of new_instance index ≡ Some (entry.End e) → ⊥
no_entry zero e h = let w : ⊥ = cc in w
no_entry (suc n) e h = let w : ⊥ = cc in w

begun_end : (instances : List InstanceView) (streams futures : List Channel) (other index : ℕ) (i : InstanceView) (e : EndEntry) → (i ≡ new_instance) ⊎ (slice_get instances other ≡ Some i)
    → entry_of i index ≡ Some (entry.End e) → EndsMarked instances streams futures → EndMarked streams futures e
begun_end instances streams futures other index i e (inl same) found marks = absurd (no_entry index e (ap (λ (j : InstanceView). entry_of j index) (sym same) ∙ found))
begun_end instances streams futures other index i e (inr there) found marks = marks other index i e there found

pub begun_is_marked : BegunIsMarked
begun_is_marked instances streams futures marks =
    λ other index i e there found. begun_end instances streams futures other index i e (more_at instances new_instance i other there) found marks

-- What was found by a number is found where more is made.
get_more : {A : Type 0} (xs : List A) (x y : A) (n : ℕ) → slice_get xs n ≡ Some y → slice_get (xs ++ x ∷ []) n ≡ Some y
get_more [] x y n h = absurd (cc)
get_more (z ∷ xs) x y zero h = h
get_more (z ∷ xs) x y (suc n) h = get_more xs x y n h

found_more : {A : Type 0} (xs : List A) (x y : A) (o : Option ℕ) → at_place xs o ≡ Some y → at_place (xs ++ x ∷ []) o ≡ Some y
found_more xs x y None h = absurd (cc)
found_more xs x y (Some n) h = get_more xs x y n h

streams_by : (streams futures : List Channel) (c : Channel) (k : EndKind) (number : ℕ) (d : Channel) → numbered (of_kind k streams futures) number ≡ Some d
    → numbered (of_kind k (streams ++ c ∷ []) futures) number ≡ Some d
streams_by streams futures c Stream number d h = found_more streams c d (place_of number) h
streams_by streams futures c Future number d h = h

futures_by : (streams futures : List Channel) (c : Channel) (k : EndKind) (number : ℕ) (d : Channel) → numbered (of_kind k streams futures) number ≡ Some d
    → numbered (of_kind k streams (futures ++ c ∷ [])) number ≡ Some d
futures_by streams futures c Stream number d h = h
futures_by streams futures c Future number d h = found_more futures c d (place_of number) h

streams_more : (streams futures : List Channel) (c : Channel) (e : EndEntry) → EndMarked streams futures e → EndMarked (streams ++ c ∷ []) futures e
streams_more streams futures c e m = record {
  kind = m.kind;
  channel = m.channel;
  there = streams_by streams futures c m.kind e.number m.channel m.there;
  of = m.of;
  typed = m.typed;
  idle = m.idle;
}

futures_more : (streams futures : List Channel) (c : Channel) (e : EndEntry) → EndMarked streams futures e → EndMarked streams (futures ++ c ∷ []) e
futures_more streams futures c e m = record {
  kind = m.kind;
  channel = m.channel;
  there = futures_by streams futures c m.kind e.number m.channel m.there;
  of = m.of;
  typed = m.typed;
  idle = m.idle;
}

pub streams_stay_marked : StreamsStayMarked
streams_stay_marked instances streams futures c marks = λ at index i e there found. streams_more streams futures c e (marks at index i e there found)

pub futures_stay_marked : FuturesStayMarked
futures_stay_marked instances streams futures c marks = λ at index i e there found. futures_more streams futures c e (marks at index i e there found)
