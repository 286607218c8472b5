-- One end of a stream or a future has changed: the marks of all ends stay where it is said at its index, or where it leaves the table.
use Rattle.std.proofs.Common.{◌≡◌, ◌⊎◌, inl, inr, ℕ, zero, suc, List, [], ◌∷◌, slice_set, slice_index_or, refl, sym, ap, ◌∙◌, subst, Option, Some, None}
use Rattle.std.specs.List.{slice_get}
use Rattle.handle_table.specs.Slots.{slot_at, with_slot}
use Rattle.builtin_kinds.specs.declared.EndKind.{EndKind}
use Rattle.builtin_kinds.specs.declared.EndKind.TheVariants as kind
use Rattle.stream_ends.specs.declared.side.Side.{Side}
use Rattle.stream_ends.specs.declared.side.Side.TheVariants.{Reader, Writer}
use Rattle.stream_ends.specs.Ends.{other_side, is_idle}
use Rattle.channels.specs.declared.channel.Channel.{Channel}
use Rattle.channels.specs.Channels.{end_in}
use Rattle.instances.specs.declared.entry.EndEntry.{EndEntry}
use Rattle.instances.specs.declared.entry.WorldEntry.{WorldEntry}
use Rattle.instances.specs.declared.entry.WorldEntry.TheVariants as entry
use Rattle.instances.specs.Entries.{with_idle}
use Rattle.instances.specs.Instances.{InstanceView, entry_of, entry_removed, entry_changed}
use Rattle.world_parts.specs.Channels.{at_place, numbered}
use Rattle.abi_machine.proofs.sound.Found.{some_same}
use Rattle.standing.specs.Channels.{of_kind, EndMarked, EndsMarked}
use Rattle.standing.specs.EndMarks.{streams_with, futures_with, OneEnd, SaidStaysMarked, GoneStaysMarked}
use Rattle.standing.proofs.Agreeing.{get_set}
use Rattle.standing.proofs.EndSides.{now_at, still_marked}

-- What stands at a place of a list with another item at a place, and in slots.
suc_same : (m n : ℕ) → suc m ≡ suc n → m ≡ n
suc_same m n e = cc

one_further : (m n : ℕ) (P Q : Type 0) → P ⊎ ((m ≡ n → ⊥) × Q) → P ⊎ ((suc m ≡ suc n → ⊥) × Q)
one_further m n P Q (inl p) = inl p
one_further m n P Q (inr q) = inr ((λ (e : suc m ≡ suc n). q.0 (suc_same m n e)), q.1)

apart_at : {A : Type 0} (xs : List A) (m n : ℕ) (x y : A) → slice_get (slice_set xs m x) n ≡ Some y → (y ≡ x) ⊎ ((m ≡ n → ⊥) × (slice_get xs n ≡ Some y))
apart_at [] m n x y h = absurd (cc)
apart_at (z ∷ xs) zero zero x y h = inl (sym (some_same h))
apart_at (z ∷ xs) zero (suc n) x y h = inr ((λ (e : zero ≡ suc n). let w : ⊥ = cc in w), h)
apart_at (z ∷ xs) (suc m) zero x y h = inr ((λ (e : suc m ≡ zero). let w : ⊥ = cc in w), h)
apart_at (z ∷ xs) (suc m) (suc n) x y h = one_further m n (y ≡ x) (slice_get xs n ≡ Some y) (apart_at xs m n x y h)

apart_slot : {E : Type 0} (xs : List (Option E)) (m n : ℕ) (o : Option E) (y : E) → slice_index_or (slice_set xs m o) n None ≡ Some y
    → (o ≡ Some y) ⊎ ((m ≡ n → ⊥) × (slice_index_or xs n None ≡ Some y))
apart_slot [] m n o y h = absurd (cc)
apart_slot (x ∷ xs) zero zero o y h = inl h
apart_slot (x ∷ xs) zero (suc n) o y h = inr ((λ (e : zero ≡ suc n). let w : ⊥ = cc in w), h)
apart_slot (x ∷ xs) (suc m) zero o y h = inr ((λ (e : suc m ≡ zero). let w : ⊥ = cc in w), h)
apart_slot (x ∷ xs) (suc m) (suc n) o y h = one_further m n (o ≡ Some y) (slice_index_or xs n None ≡ Some y) (apart_slot xs m n o y h)

slot_apart : {E : Type 0} (xs : List (Option E)) (index other : ℕ) (o : Option E) (y : E) → slot_at (with_slot xs index o) other ≡ Some y
    → (o ≡ Some y) ⊎ ((index ≡ other → ⊥) × (slot_at xs other ≡ Some y))
slot_apart xs index zero o y h = absurd (cc)
slot_apart xs zero (suc n) o y h = inr ((λ (e : zero ≡ suc n). let w : ⊥ = cc in w), h)
slot_apart xs (suc m) (suc n) o y h = one_further m n (o ≡ Some y) (slice_index_or xs n None ≡ Some y) (apart_slot xs m n o y h)

put_at : {A : Type 0} (xs : List A) (n : ℕ) (x y : A) → slice_get xs n ≡ Some x → slice_get (slice_set xs n y) n ≡ Some y
put_at xs n x y is = get_set xs n x y is

put_there : (k : EndKind) (streams futures : List Channel) (place : ℕ) (c z : Channel) → slice_get (of_kind k streams futures) place ≡ Some c
    → slice_get (of_kind k (streams_with k place z streams) (futures_with k place z futures)) place ≡ Some z
put_there kind.Stream streams futures place c z is = put_at streams place c z is
put_there kind.Future streams futures place c z is = put_at futures place c z is

end_inj : {x y : EndEntry} → entry.End x ≡ entry.End y → x ≡ y
end_inj h = cc

-- Of an end on the other side it is said right; one on the same side is the same end.
by_side : (a b : Side) (P : Type 0) → (a ≡ b → P) → (a ≡ other_side b → P) → P
by_side Reader Reader P same other = same refl
by_side Reader Writer P same other = other refl
by_side Writer Reader P same other = other refl
by_side Writer Writer P same other = same refl

module _ (instances : List InstanceView) (streams futures : List Channel) (kind : EndKind) (place : ℕ) (c z : Channel) (at index : ℕ) (x : InstanceView) (e : EndEntry)
    (one : OneEnd instances streams futures kind place c z at index x e) (marks : EndsMarked instances streams futures) where
  -- an end at another index
  other_stays : (other_at other_index : ℕ) (i : InstanceView) (d : EndEntry) → slice_get instances other_at ≡ Some i → entry_of i other_index ≡ Some (entry.End d)
      → ((at ≡ other_at) → (index ≡ other_index) → ⊥) → EndMarked (streams_with kind place z streams) (futures_with kind place z futures) d
  other_stays other_at other_index i d there found apart =
      let m : EndMarked streams futures d = marks other_at other_index i d there found in
      still_marked streams futures kind place c z d m one.channel one.same_kind one.same_type
      (λ placed was typed.
      by_side d.side e.side (d.is_idle ≡ is_idle (end_in d.side z.ends))
      (λ same. absurd (let p = one.once other_at other_index i d there found placed typed same in apart p.0 p.1))
      (λ opposite.
      was ∙ ap (λ (side : Side). is_idle (end_in side c.ends)) opposite ∙ sym one.other ∙ ap (λ (side : Side). is_idle (end_in side z.ends)) (sym opposite)))
      (now_at streams futures kind m.kind place d.number c z m.channel one.channel m.there)

  -- the end itself
  now_there : slice_get (of_kind kind (streams_with kind place z streams) (futures_with kind place z futures)) place ≡ Some z
      → numbered (of_kind kind (streams_with kind place z streams) (futures_with kind place z futures)) e.number ≡ Some z
  now_there is = ap (λ (o : Option ℕ). at_place (of_kind kind (streams_with kind place z streams) (futures_with kind place z futures)) o) one.number ∙ is

  said_so : EndMarked (streams_with kind place z streams) (futures_with kind place z futures) (with_idle (is_idle (end_in e.side z.ends)) e)
  said_so = record {
    kind = kind;
    channel = z;
    there = now_there (put_there kind streams futures place c z one.channel);
    of = one.same_kind ∙ one.of;
    typed = one.typed ∙ sym one.same_type;
    idle = refl;
  }

  by_entry : (j : ℕ) (d : EndEntry) → EndMarked (streams_with kind place z streams) (futures_with kind place z futures) d ⊎ ((index ≡ j → ⊥) × (entry_of x j ≡ Some (entry.End d)))
      → EndMarked (streams_with kind place z streams) (futures_with kind place z futures) d
  by_entry j d (inl m) = m
  by_entry j d (inr far) = other_stays at j x d one.inst far.1 (λ _ same. far.0 same)

  end_by : (y i : InstanceView) (other_at other_index : ℕ) (d : EndEntry)
      → ((j : ℕ) (d : EndEntry) → entry_of y j ≡ Some (entry.End d)
      → EndMarked (streams_with kind place z streams) (futures_with kind place z futures) d ⊎ ((index ≡ j → ⊥) × (entry_of x j ≡ Some (entry.End d))))
      → (i ≡ y) ⊎ ((at ≡ other_at → ⊥) × (slice_get instances other_at ≡ Some i)) → entry_of i other_index ≡ Some (entry.End d)
      → EndMarked (streams_with kind place z streams) (futures_with kind place z futures) d
  end_by y i other_at other_index d keeps (inr far) found = other_stays other_at other_index i d far.1 found (λ same _. far.0 same)
  end_by y i other_at other_index d keeps (inl same) found = by_entry other_index d (keeps other_index d (ap (λ (j : InstanceView). entry_of j other_index) (sym same) ∙ found))

came_apart : (x : InstanceView) (index : ℕ) (j : ℕ) (d : EndEntry) (P : EndEntry → Type 0) (e : EndEntry) → P e
    → (Some (entry.End e) ≡ Some (entry.End d)) ⊎ ((index ≡ j → ⊥) × (entry_of x j ≡ Some (entry.End d))) → P d ⊎ ((index ≡ j → ⊥) × (entry_of x j ≡ Some (entry.End d)))
came_apart x index j d P e m (inl same) = inl (subst P (end_inj (some_same same)) m)
came_apart x index j d P e m (inr far) = inr far

gone_apart : (x : InstanceView) (index j : ℕ) (d : EndEntry) (P : EndEntry → Type 0)
    → ((let n : Option WorldEntry = None in n) ≡ Some (entry.End d)) ⊎ ((index ≡ j → ⊥) × (entry_of x j ≡ Some (entry.End d))) → P d ⊎ ((index ≡ j → ⊥) × (entry_of x j ≡ Some (entry.End d)))
gone_apart x index j d P (inl same) = absurd (cc)
gone_apart x index j d P (inr far) = inr far

pub said_stays_marked : SaidStaysMarked
said_stays_marked instances streams futures kind place c z at index x e one marks =
    let now : EndEntry = with_idle (is_idle (end_in e.side z.ends)) e in
    let y : InstanceView = entry_changed index (entry.End now) x in
    λ other_at other_index i d there found.
    end_by instances streams futures kind place c z at index x e one marks y i other_at other_index d
    (λ j f is.
    came_apart x index j f (λ (d : EndEntry). EndMarked (streams_with kind place z streams) (futures_with kind place z futures) d) now
    (said_so instances streams futures kind place c z at index x e one marks)
    (slot_apart x.slots.entries index j (Some (entry.End now)) (entry.End f) is))
    (apart_at instances at other_at y i there) found

pub gone_stays_marked : GoneStaysMarked
gone_stays_marked instances streams futures kind place c z at index x e one marks =
    let y : InstanceView = entry_removed index x in
    λ other_at other_index i d there found.
    end_by instances streams futures kind place c z at index x e one marks y i other_at other_index d
    (λ j f is.
    gone_apart x index j f (λ (d : EndEntry). EndMarked (streams_with kind place z streams) (futures_with kind place z futures) d)
    (slot_apart x.slots.entries index j None (entry.End f) is))
    (apart_at instances at other_at y i there) found
