-- No handle of a table is lent more often than this, as entries are added and removed.
use Rattle.std.proofs.Common.{◌≡◌, ◌∙◌, ◌+◌, ◌<◌, ◌≤◌, ℕ, zero, suc, List, [], ◌∷◌, ◌++◌, length, get_or, Option, Some, None, refl, ap, sym, subst, arith, ◌⊎◌, inl, inr}
use Rattle.std.specs.Prelude.{option_map, MatchOption}
use Rattle.handle_table.specs.Slots.{Slots, TableState, slot_at, with_slot, entry_at, filled, added, removed, no_slots}
use Rattle.res_handles.specs.declared.entry.EntryView.{EntryView}
use Rattle.res_handles.specs.Calls.{lends_in, view_at}
use Rattle.value_lift.specs.Tables.{MostLends}
use Rattle.value_lift.proofs.Lends.{slot_either, removed_lends}

last_either : {A : Type 0} (xs : List A) (y d : A) (k : ℕ) → (get_or (xs ++ y ∷ []) k d ≡ get_or xs k d) ⊎ (get_or (xs ++ y ∷ []) k d ≡ y)
last_either [] y d zero = inr refl
last_either [] y d (suc k) = inl refl
last_either (x ∷ xs) y d zero = inl refl
last_either (x ∷ xs) y d (suc k) = last_either xs y d k

module _ {E : Type 0} (view : E → EntryView) (most : ℕ) where
  pub none_most : (s : Slots E) → s ≡ no_slots → MostLends view most s
  none_most s e zero = omega arith
  none_most s e (suc k) =
      let none : lends_in (view_at view s (suc k)) ≡ 0 = ap (λ (s : Slots E). lends_in (view_at view s (suc k))) e in
      omega (arith, none)

  either_most : (o p : Option E) (e : E) → (p ≡ o) ⊎ (p ≡ Some e) → lends_in (option_map view o) ≤ most → lends_in (Some (view e)) ≤ most → lends_in (option_map view p) ≤ most
  either_most o p e (inl same) h few =
      let f : lends_in (option_map view p) ≡ lends_in (option_map view o) = ap (λ (o : Option E). lends_in (option_map view o)) same in
      omega (arith, f, h)
  either_most o p e (inr here) h few =
      let f : lends_in (option_map view p) ≡ lends_in (Some (view e)) = ap (λ (o : Option E). lends_in (option_map view o)) here in
      omega (arith, f, few)

  filled_either : (entries : List (Option E)) (freed : List ℕ) (e : E) (j : ℕ) → (slot_at (filled entries freed e) j ≡ slot_at entries j) ⊎ (slot_at (filled entries freed e) j ≡ Some e)
  filled_either entries [] e zero = inl refl
  filled_either entries [] e (suc k) = last_either entries (Some e) None k
  filled_either entries (i ∷ freed) e j = elim (slot_either entries i j (Some e)) [ inl same ↦ inl same | inr here ↦ inr here.1 ]

  pub added_most : (s t : Slots E) (e : E) → t ≡ added e s → lends_in (Some (view e)) ≤ most → MostLends view most s → MostLends view most t
  added_most s t e is few h = λ j.
      let a : lends_in (view_at view t j) ≡ lends_in (view_at view (added e s) j) = ap (λ (t : Slots E). lends_in (view_at view t j)) is in
      let b : lends_in (view_at view (added e s) j) ≤ most = either_most (slot_at s.entries j) (slot_at (filled s.entries s.freed e) j) e (filled_either s.entries s.freed e j) (h j) few in
      omega (arith, a, b)

  pub removed_most : (s t : Slots E) (i : ℕ) → t ≡ removed i s → MostLends view most s → MostLends view most t
  removed_most s t i is h = λ j.
      let a : lends_in (view_at view t j) ≡ lends_in (view_at view (removed i s) j) = ap (λ (t : Slots E). lends_in (view_at view t j)) is in
      let b : lends_in (view_at view s j) ≤ most = h j in
      omega (arith, a, b, removed_lends view s i j)

  pub remove_most : (old new : TableState E) (i : ℕ) (r : Option E) → MatchOption r (new ≡ old) (λ x. new.slots ≡ removed i old.slots) → MostLends view most old.slots → MostLends view most new.slots
  remove_most old new i None same h = subst (λ (t : TableState E). MostLends view most t.slots) (sym same) h
  remove_most old new i (Some x) is h = removed_most old.slots new.slots i is h
