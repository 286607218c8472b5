-- Up to the next realloc a plan adds readable ends that stood nowhere, and those that it adds later still stand nowhere.
use Rattle.std.proofs.Common.{◌≡◌, ◌⊎◌, inl, inr, ℕ, Bool, true, false, nat_eq, List, [], ◌∷◌, length, sym, ap, Some, if◌then◌else◌}
use Rattle.handle_table.specs.History.{Event, live, next_index}
use Rattle.value_lower.specs.Following.{written}
use Rattle.abi_machine.specs.LoweringOver.{New, NewOwn, NewBorrow, NewEnd, Plan, Gives, Fails, Asks, Size, Put, Adds}
use Rattle.abi_machine.specs.Control.{EndRef}
use Rattle.abi_machine.specs.World.{Entry, OwnHandle, BorrowHandle, OfEnd, World}
use Rattle.abi_machine.specs.Edits.{added, with_table, entry_added}
use Rattle.abi_machine.specs.Reading.{table_of}
use Rattle.abi_machine.specs.Pausing.{Paused, Words, Failed, Asked, settle, has_room, index_in, with_new, entry_of}
use Rattle.abi_machine.specs.sound.EndPlaces.{EndStandsAt}
use Rattle.abi_machine.specs.sound.EndsPassed.{readable, Besides, IsOfNew, ButNew, AddsOnce, IsOnTheWay, IsFreshReader}
use Rattle.abi_machine.proofs.sound.OnePlace.{table_back, added_so, add_back}
use Rattle.abi_machine.proofs.sound.ends.Apart.{besides_is, adds_as}

-- what is left where a plan pauses
abbrev pub PausedAdds : Paused → (EndRef → Type 0) → Type 0
PausedAdds (Words words) P = Unit {0}
PausedAdds (Failed why) P = Unit {0}
PausedAdds (Asked ask k) P = (place : ℕ) → AddsOnce (k place) P

paused_as : (p : Paused) (P Q : EndRef → Type 0) → ((e : EndRef) → P e → Q e) → PausedAdds p P → PausedAdds p Q
paused_as (Words words) P Q f h = tt
paused_as (Failed why) P Q f h = tt
paused_as (Asked ask k) P Q f h = λ place. adds_as (k place) P Q f (h place)

abbrev IsOneOf : EndRef → List EndRef → Type 0
IsOneOf e [] = ⊥
IsOneOf e (x ∷ xs) = (e ≡ x) ⊎ IsOneOf e xs

besides_none : (xs : List EndRef) (P : EndRef → Type 0) (e : EndRef) → Besides xs P e → IsOneOf e xs → ⊥
besides_none [] P e h i = absurd i
besides_none (x ∷ xs) P e h (inl same) = (besides_is xs (λ y. P y × (y ≡ x → ⊥)) e h).1 same
besides_none (x ∷ xs) P e h (inr later) = besides_none xs (λ y. P y × (y ≡ x → ⊥)) e h later

-- Tables with one more entry.

more_back : (room : Bool) (x : Entry) (table : List (Event Entry)) (index : ℕ) (e : EndRef) → live (if room then added x table else table) index ≡ Some (OfEnd e)
    → (x ≡ OfEnd e) ⊎ (live table index ≡ Some (OfEnd e))
more_back false x table index e h = inr h
more_back true x table index e h = elim (added_so (nat_eq (next_index table) index) x (OfEnd e) (live table index) h) [
  | inl new ↦ inl new.1
  | inr old ↦ inr old
]

end_same : (x e : EndRef) → OfEnd x ≡ OfEnd e → e ≡ x
end_same x e h = ap end_in (sym h)
  where
    end_in : Entry → EndRef
    end_in (OfEnd y) = y
    end_in entry = x

no_end_owned : (resource rep : ℕ) (e : EndRef) → OwnHandle resource rep ≡ OfEnd e → ⊥
no_end_owned resource rep e h = cc

no_end_lent : (resource rep task : ℕ) (e : EndRef) → BorrowHandle resource rep task ≡ OfEnd e → ⊥
no_end_lent resource rep task e h = cc

-- The ends that were added, and what is left.
pub record SettledSo (t : ℕ) (plan : Plan) (bytes : List ℕ) (table : List (Event Entry)) (P : EndRef → Type 0) : Type 0 where
  pub new : List EndRef
  pub later : PausedAdds (settle t plan bytes table).paused (Besides new P)
  pub stand : (index : ℕ) (e : EndRef) → live (settle t plan bytes table).table index ≡ Some (OfEnd e) → (live table index ≡ Some (OfEnd e)) ⊎ IsOneOf e new

settled_so : (t : ℕ) (plan : Plan) (bytes : List ℕ) (table : List (Event Entry)) (P : EndRef → Type 0) → AddsOnce plan P → SettledSo t plan bytes table P
settled_so t (Gives words) bytes table P h = record { new = []; later = tt; stand = λ index e there. inl there }
settled_so t (Fails why) bytes table P h = record { new = []; later = tt; stand = λ index e there. inl there }
settled_so t (Asks ask k) bytes table P h = record { new = []; later = h; stand = λ index e there. inl there }
settled_so t (Size k) bytes table P h =
    let so = settled_so t (k (length bytes)) bytes table P (h (length bytes)) in
    record { new = so.new; later = so.later; stand = so.stand }
settled_so t (Put place more k) bytes table P h =
    let so = settled_so t k (written place more bytes) table P h in
    record { new = so.new; later = so.later; stand = so.stand }
settled_so t (Adds entry k) bytes table P h =
    by entry (settled_so t (k (index_in table)) bytes (with_new (entry_of t entry) table) (ButNew entry P) (h.1 (index_in table)))
  where
    by : (x : New) → SettledSo t (k (index_in table)) bytes (with_new (entry_of t x) table) (ButNew x P) → SettledSo t (Adds x k) bytes table P
    by (NewOwn resource rep) so = record {
      new = so.new;
      later = so.later;
      stand = λ index e there. elim (so.stand index e there) [
        | inl at ↦ elim (more_back (has_room table) (OwnHandle resource rep) table index e at) [
          | inl same ↦ absurd (no_end_owned resource rep e same)
          | inr old ↦ inl old
        ]
        | inr new ↦ inr new
      ];
    }
    by (NewBorrow resource rep) so = record {
      new = so.new;
      later = so.later;
      stand = λ index e there. elim (so.stand index e there) [
        | inl at ↦ elim (more_back (has_room table) (BorrowHandle resource rep t) table index e at) [
          | inl same ↦ absurd (no_end_lent resource rep t e same)
          | inr old ↦ inl old
        ]
        | inr new ↦ inr new
      ];
    }
    by (NewEnd kind number) so = record {
      new = readable kind number ∷ so.new;
      later = so.later;
      stand = λ index e there. elim (so.stand index e there) [
        | inl at ↦ elim (more_back (has_room table) (OfEnd (readable kind number)) table index e at) [
          | inl same ↦ inr (inl (end_same (readable kind number) e same))
          | inr old ↦ inl old
        ]
        | inr new ↦ inr (inr new)
      ];
    }

-- in the world that has the table then
pub settled_passes : (t i : ℕ) (plan : Plan) (bytes : List ℕ) (w : World) → AddsOnce plan (IsOnTheWay w.insts w.streams w.futures)
    → PausedAdds (settle t plan bytes (table_of w i)).paused (IsOnTheWay (with_table i (λ before. (settle t plan bytes (table_of w i)).table) w).insts w.streams w.futures)
settled_passes t i plan bytes w h =
    paused_as (settle t plan bytes (table_of w i)).paused (Besides so.new P) _ (λ e b. ((besides_is so.new P e b).0, λ j index there. nowhere e b j index there)) so.later
  where
    P : EndRef → Type 0
    P = IsOnTheWay w.insts w.streams w.futures

    so : SettledSo t plan bytes (table_of w i) P
    so = settled_so t plan bytes (table_of w i) P h

    table : List (Event Entry)
    table = (settle t plan bytes (table_of w i)).table

    nowhere : (e : EndRef) → Besides so.new P e → (j index : ℕ) → EndStandsAt (with_table i (λ before. table) w).insts j index e → ⊥
    nowhere e b j index there = elim (table_back w.insts i (λ inst. record inst { table = table }) j index (OfEnd e) there) [
      | inl new ↦ elim (so.stand index e new.1.2) [
        | inl old ↦ (besides_is so.new P e b).1 i index old
        | inr one ↦ besides_none so.new P e b one
      ]
      | inr old ↦ (besides_is so.new P e b).1 j index old
    ]

-- One entry.

pub entry_reads : (w : World) (t : ℕ) (entry : New) → IsOfNew entry (IsOnTheWay w.insts w.streams w.futures) → IsFreshReader w (entry_of t entry)
entry_reads w t (NewOwn resource rep) h = tt
entry_reads w t (NewBorrow resource rep) h = tt
entry_reads w t (NewEnd kind number) h = inr h

pub but_is : (entry : New) (P : EndRef → Type 0) (e : EndRef) → ButNew entry P e → P e
but_is (NewOwn resource rep) P e h = h
but_is (NewBorrow resource rep) P e h = h
but_is (NewEnd kind number) P e h = h.0

-- what was on the way still is, but for the end that is added
pub added_passes : (w : World) (t i : ℕ) (entry : New) (e : EndRef) → ButNew entry (IsOnTheWay w.insts w.streams w.futures) e
    → IsOnTheWay (entry_added i (entry_of t entry) w).insts w.streams w.futures e
added_passes w t i entry e b = ((but_is entry (IsOnTheWay w.insts w.streams w.futures) e b).0, nowhere)
  where
    other : (x : New) → ButNew x (IsOnTheWay w.insts w.streams w.futures) e → entry_of t x ≡ OfEnd e → ⊥
    other (NewOwn resource rep) k same = no_end_owned resource rep e same
    other (NewBorrow resource rep) k same = no_end_lent resource rep t e same
    other (NewEnd kind number) k same = k.1 (end_same (readable kind number) e same)

    nowhere : (j index : ℕ) → EndStandsAt (entry_added i (entry_of t entry) w).insts j index e → ⊥
    nowhere j index there = elim (add_back w.insts i (entry_of t entry) j index e there) [
      | inl new ↦ other entry b new.2
      | inr old ↦ (but_is entry (IsOnTheWay w.insts w.streams w.futures) e b).1 j index old
    ]
