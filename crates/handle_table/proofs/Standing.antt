-- The calls of a table: what they keep of its fields, and of what it stands for.
use Rattle.std.proofs.Common.{◌≡◌, ℕ, ◌+◌, ◌-◌, ◌<◌, ◌≤◌, sym, ap, ◌∙◌, arith, subst, List, [], ◌∷◌, ◌++◌, length, Option, Some, None, is_some, IsSome}
use Rattle.std.specs.List.{count_by}
use Rattle.std.specs.Option.{MatchOption, OnSome}
use Rattle.handle_table.specs.History.{Event, Add, Remove, next_index, live}
use Rattle.handle_table.specs.Slots.{Slots, TableState, slot_at, with_slot, added, removed, with_entry, count, entry_at, StandsFor}
use Rattle.handle_table.specs.Calls.{Added}
use Rattle.handle_table.specs.Sound.{IsSound, IsTable}
use Rattle.handle_table.proofs.Places.{one_if, count_with, count_push, full_within, length_with}
use Rattle.handle_table.proofs.Soundness.{added_by, removed_sound, changed_sound}
use Rattle.handle_table.proofs.Histories.{some_of, add_stands, remove_stands, shows_next}

-- a live index
pub live_within : {E : Type 0} (entries : List (Option E)) (index : ℕ) → IsSome (slot_at entries index) → (1 ≤ index) × (index ≤ length entries)
live_within {E} entries index h = let found : (entry : E) × (slot_at entries index ≡ Some entry) = some_of (slot_at entries index) h in full_within entries index found.0 found.1

pub live_counts : {E : Type 0} (entries : List (Option E)) (index : ℕ) → IsSome (slot_at entries index) → 1 ≤ count_by is_some entries
live_counts {E} entries index h =
    let w : (1 ≤ index) × (index ≤ length entries) = live_within entries index h in
    let full : one_if (is_some (slot_at entries index)) ≡ 1 = ap one_if h in
    omega (arith, full, count_with entries index None w.0 w.1)

-- a removal keeps a table
pub removed_table : {E : Type 0} (s : Slots E) (index live : ℕ) → IsSome (entry_at s index) → IsTable s live → IsTable (removed index s) (live - 1)
removed_table {E} s index live h t =
    let found : (entry : E) × (entry_at s index ≡ Some entry) = some_of (entry_at s index) h in
    let sound : IsSound (removed index s) = removed_sound s index found.0 found.1 t.sound in
    let all : length s.entries ≡ count_by is_some s.entries + length s.freed = t.sound.all in
    let all_later : length (with_slot s.entries index None) ≡ count_by is_some (with_slot s.entries index None) + length (index ∷ s.freed) = sound.all in
    let len : length (with_slot s.entries index None) ≡ length s.entries = length_with s.entries index None in
    let some : 1 ≤ count_by is_some s.entries = live_counts s.entries index h in
    let counted : live ≡ count_by is_some s.entries = t.counted in
    record { sound = sound; counted = omega arith }

-- a write keeps it
pub changed_table : {E : Type 0} (s : Slots E) (index live : ℕ) (now : E) → IsSome (entry_at s index) → IsTable s live → IsTable (with_entry index now s) live
changed_table {E} s index live now h t =
    let found : (entry : E) × (entry_at s index ≡ Some entry) = some_of (entry_at s index) h in
    let sound : IsSound (with_entry index now s) = changed_sound s index found.0 now found.1 t.sound in
    let all : length s.entries ≡ count_by is_some s.entries + length s.freed = t.sound.all in
    let all_later : length (with_slot s.entries index (Some now)) ≡ count_by is_some (with_slot s.entries index (Some now)) + length s.freed = sound.all in
    let len : length (with_slot s.entries index (Some now)) ≡ length s.entries = length_with s.entries index (Some now) in
    let counted : live ≡ count_by is_some s.entries = t.counted in
    record { sound = sound; counted = omega arith }

-- an add keeps it
added_table_by : {E : Type 0} (entries : List (Option E)) (free : List ℕ) (live : ℕ) (entry : E) → count_by is_some entries < 65535 → IsTable (record { entries = entries; freed = free }) live → IsTable (added entry (record { entries = entries; freed = free })) (live + 1)
added_table_by {E} entries [] live entry few t =
    let counted : live ≡ count_by is_some entries = t.counted in
    let c : count_by is_some (entries ++ Some entry ∷ []) ≡ count_by is_some entries + 1 = count_push entries (Some entry) in
    record { sound = added_by entries [] entry few t.sound; counted = omega arith }
added_table_by {E} entries (index ∷ later) live entry few t =
    let sound : IsSound (let s : Slots E = record { entries = with_slot entries index (Some entry); freed = later } in s) = added_by entries (index ∷ later) entry few t.sound in
    let all : length entries ≡ count_by is_some entries + length (index ∷ later) = t.sound.all in
    let all_later : length (with_slot entries index (Some entry)) ≡ count_by is_some (with_slot entries index (Some entry)) + length later = sound.all in
    let len : length (with_slot entries index (Some entry)) ≡ length entries = length_with entries index (Some entry) in
    let counted : live ≡ count_by is_some entries = t.counted in
    record { sound = sound; counted = omega arith }

pub added_table : {E : Type 0} (s : Slots E) (live : ℕ) (entry : E) → count s < 65535 → IsTable s live → IsTable (added entry s) (live + 1)
added_table s live entry few t = added_table_by s.entries s.freed live entry few t

-- the clauses about histories
pub added_shows : {E : Type 0} (old mid new : TableState E) (entry : E) (i : ℕ) → mid.slots ≡ old.slots → Added mid entry i new → (h : List (Event E)) → StandsFor h old.slots → (i ≡ next_index h) × StandsFor (Add (next_index h) entry ∷ h) new.slots
added_shows {E} old mid new entry i e a h st =
    let P : Slots E → Type 0 = λ x. StandsFor h x in
    let m : StandsFor h mid.slots = subst P (sym e) st in
    let Q : Slots E → Type 0 = λ x. StandsFor (Add (next_index h) entry ∷ h) x in
    (a.index ∙ shows_next mid.slots h m, subst Q (sym a.slots) (add_stands mid.slots entry a.few h m))

pub removed_shows : {E : Type 0} (old new : Slots E) (index : ℕ) (result : Option E) → result ≡ entry_at old index → IsSome result → new ≡ removed index old → (h : List (Event E)) → StandsFor h old → MatchOption result (StandsFor h new) (λ _. StandsFor (Remove index ∷ h) new)
removed_shows old new index None e s n h st = cc
removed_shows {E} old new index (Some entry) e s n h st =
    let Q : Slots E → Type 0 = λ x. StandsFor (Remove index ∷ h) x in
    subst Q (sym n) (remove_stands old index entry (sym e) h st)

pub on_some : {E : Type 0} (o : Option E) (P : Type 0) → P → OnSome o P
on_some None P p = tt
on_some (Some entry) P p = p
