-- How often the handles of a table are lent, as entries come, go and are others.
use Rattle.std.proofs.Common.{◌≡◌, ◌⊎◌, inl, inr, ℕ, ◌-◌, ◌≤◌, zero, suc, List, [], ◌∷◌, ◌++◌, get_or, refl, ap, arith, Option, Some, None, ◌∙◌}
use Rattle.std.specs.Prelude.{option_map}
use Rattle.handle_table.specs.Slots.{Slots, slot_at, filled, added, removed, with_entry}
use Rattle.res_handles.specs.declared.handle.Handle.{Handle}
use Rattle.res_handles.specs.declared.entry.EntryView.{EntryView}
use Rattle.res_handles.specs.declared.entry.EntryView.TheVariants as seen
use Rattle.res_handles.specs.Calls.{lends_in, view_at, with_lends, relent_by, given_back}
use Rattle.value_lift.specs.Tables.{MostLends}
use Rattle.value_lift.proofs.Lends.{slot_either, removed_lends}
use Rattle.stream_ends.specs.declared.side.Side.{Side}
use Rattle.stream_ends.specs.declared.side.Side.TheVariants.{Reader, Writer}
use Rattle.instances.specs.declared.entry.EndEntry.{EndEntry}
use Rattle.instances.specs.declared.entry.WorldEntry.{WorldEntry}
use Rattle.instances.specs.declared.entry.WorldEntry.TheVariants as entry
use Rattle.instances.specs.Entries.{seen_as, seen_by, of_handle}

last_either : {A : Type 0} (xs : List A) (y d : A) (k : ℕ) → (get_or (xs ++ y ∷ []) k d ≡ get_or xs k d) ⊎ (get_or (xs ++ y ∷ []) k d ≡ y)
last_either [] y d zero = inr refl
last_either [] y d (suc k) = inl refl
last_either (x ∷ xs) y d zero = inl refl
last_either (x ∷ xs) y d (suc k) = last_either xs y d k

filled_either : {E : Type 0} (entries : List (Option E)) (freed : List ℕ) (e : E) (j : ℕ)
    → (slot_at (filled entries freed e) j ≡ slot_at entries j) ⊎ (slot_at (filled entries freed e) j ≡ Some e)
filled_either entries [] e zero = inl refl
filled_either entries [] e (suc k) = last_either entries (Some e) None k
filled_either entries (i ∷ freed) e j = elim (slot_either entries i j (Some e)) [ inl same ↦ inl same | inr here ↦ inr here.1 ]

-- One more, which is not lent.
pub added_few : (s : Slots WorldEntry) (e : WorldEntry) (most : ℕ) → lends_in (Some (seen_as e)) ≡ 0 → MostLends seen_as most s → MostLends seen_as most (added e s)
added_few s e most none few j =
    elim (filled_either s.entries s.freed e j) [
      | inl same ↦
          (let f : lends_in (view_at seen_as (added e s) j) ≡ lends_in (view_at seen_as s j) = ap (λ (o : Option WorldEntry). lends_in (option_map seen_as o)) same in
          omega (arith, f, few j))
      | inr here ↦
          (let f : lends_in (view_at seen_as (added e s) j) ≡ lends_in (Some (seen_as e)) = ap (λ (o : Option WorldEntry). lends_in (option_map seen_as o)) here in
          omega (arith, f, none))
    ]

pub removed_few : (s : Slots WorldEntry) (i most : ℕ) → MostLends seen_as most s → MostLends seen_as most (removed i s)
removed_few s i most few j = omega (arith, few j, removed_lends seen_as s i j)

-- Another one, which is not lent more often than what stood there.
pub changed_few : (s : Slots WorldEntry) (i : ℕ) (e : WorldEntry) (most : ℕ) → lends_in (Some (seen_as e)) ≤ most → MostLends seen_as most s → MostLends seen_as most (with_entry i e s)
changed_few s i e most less few j =
    elim (slot_either s.entries i j (Some e)) [
      | inl same ↦
          (let f : lends_in (view_at seen_as (with_entry i e s) j) ≡ lends_in (view_at seen_as s j) = ap (λ (o : Option WorldEntry). lends_in (option_map seen_as o)) same in
          omega (arith, f, few j))
      | inr here ↦
          (let f : lends_in (view_at seen_as (with_entry i e s) j) ≡ lends_in (Some (seen_as e)) = ap (λ (o : Option WorldEntry). lends_in (option_map seen_as o)) here.1 in
          omega (arith, f, less))
    ]

relent_few : (s : Slots WorldEntry) (i most : ℕ) (o : Option EntryView) → view_at seen_as s i ≡ o → MostLends seen_as most s → MostLends seen_as most (relent_by o of_handle (λ n. n - 1) i s)
relent_few s i most None h few = few
relent_few s i most (Some seen.Other) h few = few
relent_few s i most (Some (seen.ReadableEnd x)) h few = few
relent_few s i most (Some (seen.Handle x)) h few =
    let f : lends_in (view_at seen_as s i) ≡ x.lends = ap lends_in h in
    changed_few s i (entry.Handle (with_lends (x.lends - 1) x)) most (omega (arith, f, few i)) few

pub given_back_few : (s : Slots WorldEntry) (i most : ℕ) → MostLends seen_as most s → MostLends seen_as most (given_back seen_as of_handle i s)
given_back_few s i most few = relent_few s i most (view_at seen_as s i) refl few

-- An end is not lent.
pub end_lends : (side : Side) (e : EndEntry) → lends_in (Some (seen_by side e)) ≡ 0
end_lends Reader e = refl
end_lends Writer e = refl
