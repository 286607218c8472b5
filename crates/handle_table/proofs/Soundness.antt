-- What adds, removals and changes keep of a table.
use Rattle.std.proofs.Common.{◌≡◌, ℕ, ◌+◌, ◌<◌, ◌≤◌, sym, ap, ◌∙◌, arith, List, [], ◌∷◌, ◌++◌, length, drop, Option, Some, None, is_some, length-append}
use Rattle.std.specs.List.{count_by}
use Rattle.handle_table.specs.Slots.{Slots, slot_at, with_slot, filled, added, removed, with_entry, count, entry_at}
use Rattle.handle_table.specs.Sound.{NotIn, AreFree, IsSound}
use Rattle.handle_table.proofs.Places.{one_if, same_slot, other_slot, length_with, count_with, count_push, full_within, some_is_none}

-- An index that is not among the free ones can be changed.
pub free_kept : {E : Type 0} (entries : List (Option E)) (index : ℕ) (slot : Option E) (free : List ℕ) → NotIn index free → AreFree entries free → AreFree (with_slot entries index slot) free
free_kept entries index slot [] n h = tt
free_kept entries index slot (i ∷ free) n h = (
  record {
    given = h.0.given;
    within = (let e : length (with_slot entries index slot) ≡ length entries = length_with entries index slot in let l : i ≤ length entries = h.0.within in omega arith);
    empty = other_slot entries index i slot (λ e. n.0 (sym e)) ∙ h.0.empty;
  },
  h.1,
  free_kept entries index slot free n.1 h.2,
)

-- What is live is not among them.
pub live_not_free : {E : Type 0} (entries : List (Option E)) (index : ℕ) (entry : E) (free : List ℕ) → slot_at entries index ≡ Some entry → AreFree entries free → NotIn index free
live_not_free entries index entry [] e h = tt
live_not_free entries index entry (i ∷ free) e h =
    ((λ same. some_is_none entry (sym e ∙ ap (slot_at entries) same ∙ h.0.empty)), live_not_free entries index entry free e h.2)

pub removed_sound : {E : Type 0} (s : Slots E) (index : ℕ) (entry : E) → entry_at s index ≡ Some entry → IsSound s → IsSound (removed index s)
removed_sound s index entry e h =
    let w : (1 ≤ index) × (index ≤ length s.entries) = full_within s.entries index entry e in
    let l : length (with_slot s.entries index None) ≡ length s.entries = length_with s.entries index None in
    let c : count_by is_some (with_slot s.entries index None) + one_if (is_some (slot_at s.entries index)) ≡ count_by is_some s.entries + 0 = count_with s.entries index None w.0 w.1 in
    let full : one_if (is_some (slot_at s.entries index)) ≡ 1 = ap (λ x. one_if (is_some x)) e in
    let all : length s.entries ≡ count_by is_some s.entries + length s.freed = h.all in
    let small : length s.entries ≤ 65535 = h.small in
    record {
      free = (record { given = w.0; within = omega (arith, w.1, l); empty = same_slot s.entries index None w.0 w.1 }, live_not_free s.entries index entry s.freed e h.free, free_kept s.entries index None s.freed (live_not_free s.entries index entry s.freed e h.free) h.free);
      all = omega arith;
      small = omega arith;
    }

pub changed_sound : {E : Type 0} (s : Slots E) (index : ℕ) (entry now : E) → entry_at s index ≡ Some entry → IsSound s → IsSound (with_entry index now s)
changed_sound s index entry now e h =
    let w : (1 ≤ index) × (index ≤ length s.entries) = full_within s.entries index entry e in
    let l : length (with_slot s.entries index (Some now)) ≡ length s.entries = length_with s.entries index (Some now) in
    let c : count_by is_some (with_slot s.entries index (Some now)) + one_if (is_some (slot_at s.entries index)) ≡ count_by is_some s.entries + 1 = count_with s.entries index (Some now) w.0 w.1 in
    let full : one_if (is_some (slot_at s.entries index)) ≡ 1 = ap (λ x. one_if (is_some x)) e in
    let all : length s.entries ≡ count_by is_some s.entries + length s.freed = h.all in
    let small : length s.entries ≤ 65535 = h.small in
    record {
      free = free_kept s.entries index (Some now) s.freed (live_not_free s.entries index entry s.freed e h.free) h.free;
      all = omega arith;
      small = omega arith;
    }

pub added_by : {E : Type 0} (entries : List (Option E)) (free : List ℕ) (entry : E) → count_by is_some entries < 65535 → IsSound (record { entries = entries; freed = free }) → IsSound (record { entries = filled entries free entry; freed = drop 1 free })
added_by entries [] entry few h =
    let l : length (entries ++ Some entry ∷ []) ≡ length entries + 1 = length-append entries (Some entry ∷ []) in
    let c : count_by is_some (entries ++ Some entry ∷ []) ≡ count_by is_some entries + 1 = count_push entries (Some entry) in
    let all : length entries ≡ count_by is_some entries + 0 = h.all in
    record { free = tt; all = omega arith; small = omega arith }
added_by entries (index ∷ free) entry few h =
    let l : length (with_slot entries index (Some entry)) ≡ length entries = length_with entries index (Some entry) in
    let c : count_by is_some (with_slot entries index (Some entry)) + one_if (is_some (slot_at entries index)) ≡ count_by is_some entries + 1 = count_with entries index (Some entry) h.free.0.given h.free.0.within in
    let empty : one_if (is_some (slot_at entries index)) ≡ 0 = ap (λ x. one_if (is_some x)) h.free.0.empty in
    let all : length entries ≡ count_by is_some entries + length (index ∷ free) = h.all in
    let more : length (index ∷ free) ≡ length free + 1 = omega arith in
    let small : length entries ≤ 65535 = h.small in
    record { free = free_kept entries index (Some entry) free h.free.1 h.free.2; all = omega arith; small = omega arith }

pub added_sound : {E : Type 0} (s : Slots E) (entry : E) → count s < 65535 → IsSound s → IsSound (added entry s)
added_sound s entry few h = added_by s.entries s.freed entry few h
