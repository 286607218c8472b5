-- What the calls make of a table, by what its entries are seen as.
use Rattle.std.proofs.Common.{◌≡◌, ℕ, zero, suc, ◌+◌, ◌-◌, sym, ap, refl, ◌∙◌, arith, subst, List, [], ◌∷◌, ◌++◌, map, drop, Option, Some, None, is_some, slice_index_or, slice_set}
use Rattle.std.specs.Prelude.{option_map}
use Rattle.std.specs.List.{count_by}
use Rattle.std.proofs.lemmas.List.Sums.{sum_by-cons}
use Rattle.handle_table.specs.Slots.{Slots, with_slot, filled, added, removed, with_entry, count, entry_at}
use Rattle.handle_table.proofs.Places.{one_if}
use Rattle.res_handles.specs.declared.handle.Handle.{Handle}
use Rattle.res_handles.specs.declared.entry.EntryView.{EntryView}
use Rattle.res_handles.specs.declared.entry.EntryView.TheVariants as seen
use Rattle.res_handles.specs.Calls.{view_at, shown, with_lends, relent_by, lent, given_back}
use Rattle.res_handles.specs.Runs.{Call, Passes, after, ComesOf}

module _ {E : Type 0} (view : E → EntryView) where
  see : Option E → Option EntryView
  see o = option_map view o

  -- slots
  map_at : (xs : List (Option E)) (k : ℕ) → slice_index_or (map (option_map view) xs) k None ≡ option_map view (slice_index_or xs k None)
  map_at [] k = refl
  map_at (x ∷ xs) zero = refl
  map_at (x ∷ xs) (suc k) = map_at xs k

  map_set : (xs : List (Option E)) (k : ℕ) (slot : Option E) → map (option_map view) (slice_set xs k slot) ≡ slice_set (map (option_map view) xs) k (option_map view slot)
  map_set [] k slot = refl
  map_set (x ∷ xs) zero slot = refl
  map_set (x ∷ xs) (suc k) slot = ap (λ (ys : List (Option EntryView)). option_map view x ∷ ys) (map_set xs k slot)

  map_push : (xs : List (Option E)) (slot : Option E) → map (option_map view) (xs ++ slot ∷ []) ≡ map (option_map view) xs ++ option_map view slot ∷ []
  map_push [] slot = refl
  map_push (x ∷ xs) slot = ap (λ (ys : List (Option EntryView)). option_map view x ∷ ys) (map_push xs slot)

  map_with : (xs : List (Option E)) (index : ℕ) (slot : Option E) → map (option_map view) (with_slot xs index slot) ≡ with_slot (map (option_map view) xs) index (option_map view slot)
  map_with xs zero slot = refl
  map_with xs (suc k) slot = map_set xs k slot

  map_filled : (xs : List (Option E)) (free : List ℕ) (entry : E) → map (option_map view) (filled xs free entry) ≡ filled (map (option_map view) xs) free (view entry)
  map_filled xs [] entry = map_push xs (Some entry)
  map_filled xs (index ∷ free) entry = map_with xs index (Some entry)

  some_seen : (o : Option E) → is_some (option_map view o) ≡ is_some o
  some_seen None = refl
  some_seen (Some e) = refl

  map_count : (xs : List (Option E)) → count_by is_some (map (option_map view) xs) ≡ count_by is_some xs
  map_count [] = refl
  map_count (x ∷ xs) =
      omega (arith, map_count xs, ap one_if (some_seen x), sum_by-cons (λ (y : Option EntryView). one_if (is_some y)) (option_map view x) (map (option_map view) xs), sum_by-cons (λ (y : Option E). one_if (is_some y)) x xs)

  -- tables
  pub shown_at : (s : Slots E) (index : ℕ) → entry_at (shown view s) index ≡ view_at view s index
  shown_at s zero = refl
  shown_at s (suc k) = map_at s.entries k

  pub shown_count : (s : Slots E) → count (shown view s) ≡ count s
  shown_count s = map_count s.entries

  pub shown_removed : (s : Slots E) (index : ℕ) → shown view (removed index s) ≡ removed index (shown view s)
  shown_removed s index = ap (λ (xs : List (Option EntryView)). (let t : Slots EntryView = record { entries = xs; freed = index ∷ s.freed } in t)) (map_with s.entries index None)

  pub shown_entry : (s : Slots E) (index : ℕ) (entry : E) → shown view (with_entry index entry s) ≡ with_entry index (view entry) (shown view s)
  shown_entry s index entry = ap (λ (xs : List (Option EntryView)). (let t : Slots EntryView = record { entries = xs; freed = s.freed } in t)) (map_with s.entries index (Some entry))

  pub shown_added : (s : Slots E) (entry : E) → shown view (added entry s) ≡ added (view entry) (shown view s)
  shown_added s entry = ap (λ (xs : List (Option EntryView)). (let t : Slots EntryView = record { entries = xs; freed = drop 1 s.freed } in t)) (map_filled s.entries s.freed entry)

  shown_relent_by : (made : Handle → E) (f : ℕ → ℕ) → ((x : Handle) → view (made x) ≡ seen.Handle x) → (s : Slots E) (index : ℕ) (entry : Option EntryView)
      → shown view (relent_by entry made f index s) ≡ relent_by entry seen.Handle f index (shown view s)
  shown_relent_by made f law s index None = refl
  shown_relent_by made f law s index (Some seen.Other) = refl
  shown_relent_by made f law s index (Some (seen.ReadableEnd _)) = refl
  shown_relent_by made f law s index (Some (seen.Handle x)) =
      let y : Handle = with_lends (f x.lends) x in
      shown_entry s index (made y) ∙ ap (λ (e : EntryView). with_entry index e (shown view s)) (law y)

same_view : (o : Option EntryView) → option_map (λ e. e) o ≡ o
same_view None = refl
same_view (Some e) = refl

module _ {E : Type 0} (view : E → EntryView) (made : Handle → E) (law : (x : Handle) → view (made x) ≡ seen.Handle x) where
  shown_relent : (f : ℕ → ℕ) (s : Slots E) (index : ℕ)
      → shown view (relent_by (view_at view s index) made f index s) ≡ relent_by (view_at (λ e. e) (shown view s) index) seen.Handle f index (shown view s)
  shown_relent f s index =
      shown_relent_by view made f law s index (view_at view s index)
      ∙ ap (λ (o : Option EntryView). relent_by o seen.Handle f index (shown view s)) (sym (same_view (entry_at (shown view s) index) ∙ shown_at view s index))

  pub shown_lent : (s : Slots E) (index : ℕ) → shown view (lent view made index s) ≡ lent (λ e. e) seen.Handle index (shown view s)
  shown_lent s index = shown_relent (λ n. n + 1) s index

  pub shown_given_back : (s : Slots E) (index : ℕ) → shown view (given_back view made index s) ≡ given_back (λ e. e) seen.Handle index (shown view s)
  shown_given_back s index = shown_relent (λ n. n - 1) s index

-- a call more
pub comes : (call : Call) (s t : Slots EntryView) → Passes call s → t ≡ after call s → (r : List Call) → ComesOf r s → ComesOf (call ∷ r) t
comes call s t p e r c =
    let P : Slots EntryView → Type 0 = λ x. Passes call x in
    record { run = (c.run, subst P c.slots p); slots = e ∙ ap (λ (x : Slots EntryView). after call x) c.slots }
