-- What an entry more leaves of the slots of a table.
use Rattle.std.proofs.Common.{◌≡◌, ◌∙◌, ◌+◌, ◌<◌, ◌≤◌, ◌^◌, ℕ, suc, List, [], ◌∷◌, ◌++◌, length, Option, Some, None, refl, ap, sym, subst, arith, inl, inr}
use Rattle.std.proofs.lemmas.Bool.{cases_eq}
use Rattle.std.proofs.lemmas.List.{get_or_push}
use Rattle.handle_table.specs.History.{Event, next_in}
use Rattle.handle_table.specs.Slots.{Slots, slot_at, filled, added, next_of, entry_at, StandsFor}
use Rattle.handle_table.specs.Sound.{AreFree, IsSound}
use Rattle.handle_table.proofs.Histories.{left_by}
use Rattle.handle_table.proofs.Places.{same_slot, other_slot, slot_before, full_within, some_is_none}

-- Slots that stand for a history are sound.
pub slots_sound : {E : Type 0} (h : List (Event E)) (s : Slots E) → StandsFor h s → IsSound s
slots_sound h s st = subst IsSound (sym st.slots) (left_by h st.history).sound

-- What stands in the one table stands in the other one too.
abbrev pub Grows : {E : Type 0} → Slots E → Slots E → Type 0
Grows {E} s t = (i : ℕ) (e : E) → entry_at s i ≡ Some e → entry_at t i ≡ Some e

-- An entry stands at the next index,
next_filled : {E : Type 0} (entries : List (Option E)) (free : List ℕ) (e : E) → AreFree entries free → slot_at (filled entries free e) (next_in free (length entries)) ≡ Some e
next_filled {E} entries [] e f =
    let next : length entries + 1 ≡ suc (length entries) = omega arith in
    ap (λ (k : ℕ). slot_at (entries ++ Some e ∷ []) k) next ∙ get_or_push entries (Some e) None (length entries) refl
next_filled entries (i ∷ free) e f = same_slot entries i (Some e) f.0.given f.0.within

pub stands_next : {E : Type 0} (s : Slots E) (e : E) → IsSound s → entry_at (added e s) (next_of s) ≡ Some e
stands_next s e sound = next_filled s.entries s.freed e sound.free

-- and leaves the others as they are.
filled_grows : {E : Type 0} (entries : List (Option E)) (free : List ℕ) (e : E) → AreFree entries free → (i : ℕ) (x : E) → slot_at entries i ≡ Some x → slot_at (filled entries free e) i ≡ Some x
filled_grows entries [] e f i x h = slot_before entries (Some e) i (full_within entries i x h).1 ∙ h
filled_grows entries (j ∷ free) e f i x h = elim (cases_eq i j) [
  | inl same ↦ absurd (some_is_none x (sym h ∙ ap (slot_at entries) same ∙ f.0.empty))
  | inr other ↦ other_slot entries j i (Some e) other ∙ h
]

pub grows_added : {E : Type 0} (s : Slots E) (e : E) → IsSound s → Grows s (added e s)
grows_added s e sound i x h = filled_grows s.entries s.freed e sound.free i x h

-- The next index is a small number.
next_small : {E : Type 0} (entries : List (Option E)) (free : List ℕ) → AreFree entries free → length entries ≤ 65535 → next_in free (length entries) < 2 ^ 32
next_small entries [] f few = omega (arith, few)
next_small entries (i ∷ free) f few =
    let within : i ≤ length entries = f.0.within in
    omega (arith, within, few)

pub next_low : {E : Type 0} (s : Slots E) → IsSound s → next_of s < 2 ^ 32
next_low s sound = next_small s.entries s.freed sound.free sound.small
