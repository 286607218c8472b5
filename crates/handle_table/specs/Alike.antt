-- Tables whose entries stand for others: for a layer above, whose entries hold other data for the same thing than those of
-- the history. No clause cites this module; `proofs/Alike` says what adds, removals and writes keep of it.
use Rattle.std.specs.Prelude.{◌≡◌, List, [], ◌∷◌, Option, Some, None}
use Rattle.handle_table.specs.History.{Event, IsHistory}
use Rattle.handle_table.specs.Slots.{Slots, slots_after}

module _ {E A : Type 0} (R : E → A → Type 0) where
  -- both slots are empty, or their entries stand for each other
  abbrev pub SlotAlike : Option E → Option A → Type 0
  SlotAlike None None = Unit {0}
  SlotAlike (Some entry) (Some other) = R entry other
  SlotAlike None (Some other) = ⊥
  SlotAlike (Some entry) None = ⊥

  abbrev pub SlotsAlike : List (Option E) → List (Option A) → Type 0
  SlotsAlike [] [] = Unit {0}
  SlotsAlike (slot ∷ slots) (other ∷ others) = SlotAlike slot other × SlotsAlike slots others
  SlotsAlike [] (_ ∷ _) = ⊥
  SlotsAlike (_ ∷ _) [] = ⊥

  pub record Alike (s : Slots E) (t : Slots A) : Type 0 where
    pub slots : SlotsAlike s.entries t.entries
    pub freed : s.freed ≡ t.freed

  -- these slots may come of this history, whose entries theirs stand for
  pub record StandsBy (h : List (Event A)) (s : Slots E) : Type 0 where
    pub history : IsHistory h
    pub alike : Alike s (slots_after h)
