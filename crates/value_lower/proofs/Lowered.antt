-- What is entered into a table beside a room.
use Rattle.std.proofs.Common.{◌≡◌, ℕ, List, true, false, Some, None, Result, Ok, Err, refl, sym, subst, ap, inl, inr}
use Rattle.std.specs.Prelude.{MatchResult}
use Rattle.std.specs.List.{slice_get}
use Rattle.std.proofs.lemmas.Bool.{cond-true, cond-false, cases_Bool}
use Rattle.syntax_trees.specs.declared.types.ValType.{ValType}
use Rattle.handle_table.specs.Slots.{Slots, TableState}
use Rattle.handle_table.specs.Calls.{Added}
use Rattle.res_handles.specs.Calls.{own_handle, borrow_handle, is_defined, NotLowered}
use Rattle.res_handles.specs.Ends.{EndNotLowered}
use Rattle.res_handles.specs.declared.handle.Handle.{Handle}
use Rattle.res_handles.specs.declared.refusal.LowerError.{LowerError}
use Rattle.res_handles.specs.declared.refusal.LowerError.TheVariants as error
use Rattle.value_lower.specs.declared.ends.LowerWhy.TheVariants.{TableFull}
use Rattle.value_lower.specs.declared.ends.RoomEnd.{RoomEnd}
use Rattle.value_lower.specs.Plan.{Ask, New, NewOwn, NewBorrow, NewEnd, Plan, Adds}
use Rattle.value_lower.specs.Following.{Rooms, Failed, Follows, Leads}
use Rattle.value_lower.specs.Tables.{with_index, entered, IsEntry, IsLowered, tabled}

module _ {E : Type 0} (made : Handle → E) (made_end : ℕ → ℕ → E) (task : ℕ) (types : List ValType) (home : List ℕ) where
  abbrev Lowered : New → Slots E → Result ℕ LowerError → Slots E → Type 0
  Lowered entry s result t = IsLowered (IsEntry made made_end task types) home entry s result t

  abbrev IsAdded : New → Type 0
  IsAdded entry = (k : ℕ → Plan) → entered home entry k ≡ Adds entry (with_index k)

  -- a handle that is added
  added_is : (entry : New) (e : E) (old new : TableState E) (result : Result ℕ LowerError) → IsAdded entry → IsEntry made made_end task types entry e
      → MatchResult result (λ i. Added old e i new) (λ f. NotLowered old f new) → Lowered entry old.slots result new.slots
  added_is entry e old new (Ok index) adds its h = inr (adds, (e, its, h.few, h.index, h.slots))
  added_is entry e old new (Err error.TableFull) adds its h = (adds, (h.0, ap (λ (t : TableState E). t.slots) h.1))
  added_is entry e old new (Err error.Memory) adds its h = tt

  pub own_is : (entry : New) (resource rep : ℕ) (old new : TableState E) (result : Result ℕ LowerError) → entry ≡ NewOwn resource rep
      → MatchResult result (λ i. Added old (made (own_handle resource rep)) i new) (λ f. NotLowered old f new) → Lowered entry old.slots result new.slots
  own_is entry resource rep old new result e h =
      subst (λ (n : New). Lowered n old.slots result new.slots) (sym e) (added_is (NewOwn resource rep) (made (own_handle resource rep)) old new result (λ k. refl) refl h)

  -- a borrow, at home and elsewhere
  borrow_at : (resource rep : ℕ) (old new : TableState E) (result : Result ℕ LowerError)
      → (is_defined resource home ≡ true → (result ≡ Ok rep) × (new ≡ old))
      → (is_defined resource home ≡ false → MatchResult result (λ i. Added old (made (borrow_handle resource rep task)) i new) (λ f. NotLowered old f new))
      → Lowered (NewBorrow resource rep) old.slots result new.slots
  borrow_at resource rep old new result at_home elsewhere =
      elim (cases_Bool (is_defined resource home)) [
        | inl its ↦
            let h = at_home its in
            subst (λ (x : Result ℕ LowerError). Lowered (NewBorrow resource rep) old.slots x new.slots) (sym h.0)
            (inl (λ k. cond-true (is_defined resource home) _ _ its, ap (λ (t : TableState E). t.slots) h.1))
        | inr other ↦
            added_is (NewBorrow resource rep) (made (borrow_handle resource rep task)) old new result (λ k. cond-false (is_defined resource home) _ _ other) refl (elsewhere other)
      ]

  pub borrow_is : (entry : New) (resource rep : ℕ) (old new : TableState E) (result : Result ℕ LowerError) → entry ≡ NewBorrow resource rep
      → (is_defined resource home ≡ true → (result ≡ Ok rep) × (new ≡ old))
      → (is_defined resource home ≡ false → MatchResult result (λ i. Added old (made (borrow_handle resource rep task)) i new) (λ f. NotLowered old f new))
      → Lowered entry old.slots result new.slots
  borrow_is entry resource rep old new result e at_home elsewhere =
      subst (λ (n : New). Lowered n old.slots result new.slots) (sym e) (borrow_at resource rep old new result at_home elsewhere)

  -- an end, by the number of its type
  end_added : (type : ValType) (number at : ℕ) (old new : TableState E) (result : Result ℕ LowerError) → slice_get types at ≡ Some type
      → MatchResult result (λ i. Added old (made_end at number) i new) (λ f. EndNotLowered old f new) → Lowered (NewEnd type number) old.slots result new.slots
  end_added type number at old new (Ok index) there h = inr (λ k. refl, (made_end at number, (at, there, refl), h.few, h.index, h.slots))
  end_added type number at old new (Err error.TableFull) there h = (λ k. refl, (h.0, ap (λ (t : TableState E). t.slots) h.1))
  end_added type number at old new (Err error.Memory) there h = tt

  pub end_is : (entry : New) (type : ValType) (number at : ℕ) (old new : TableState E) (result : Result ℕ LowerError) → entry ≡ NewEnd type number → slice_get types at ≡ Some type
      → MatchResult result (λ i. Added old (made_end at number) i new) (λ f. EndNotLowered old f new) → Lowered entry old.slots result new.slots
  end_is entry type number at old new result e there h =
      subst (λ (n : New). Lowered n old.slots result new.slots) (sym e) (end_added type number at old new result there h)

module _ {R E T : Type 0} (memory : R → List ℕ) (answers : R → Ask → Result ℕ (RoomEnd T) → R → Type 0) (wrote : R → ℕ → List ℕ → R → Type 0)
    (is : New → E → Type 0) (home : List ℕ) where
  abbrev rooms : Rooms (R × Slots E) T
  rooms = tabled memory answers wrote is

  -- a plan goes on with the index
  pub lowered_goes : (entry : New) (k : ℕ → Plan) (r : R) (s t : Slots E) (index : ℕ) → IsLowered is home entry s (Ok index) t
      → Leads rooms (entered home entry k) (r, s) (k index) (r, t)
  lowered_goes entry k r s t index (inl h) = λ came after f.
      subst (λ (p : Plan). Follows rooms p (r, s) came after) (sym (h.0 k)) (subst (λ (u : Slots E). Follows rooms (k index) (r, u) came after) h.1 f)
  lowered_goes entry k r s t index (inr h) = λ came after f.
      subst (λ (p : Plan). Follows rooms p (r, s) came after) (sym (h.0 k)) (Some index, (r, t), ((h.1, refl), refl), f)

  -- where the table is full it fails
  pub lowered_fails : (entry : New) (k : ℕ → Plan) (r : R) (s t : Slots E) (e : LowerError) → e ≡ error.TableFull → IsLowered is home entry s (Err e) t
      → Follows rooms (entered home entry k) (r, s) (Failed TableFull) (r, t)
  lowered_fails entry k r s t e full h =
      let f : IsLowered is home entry s (Err error.TableFull) t = subst (λ (x : LowerError). IsLowered is home entry s (Err x) t) full h in
      subst (λ (p : Plan). Follows rooms p (r, s) (Failed TableFull) (r, t)) (sym (f.0 k)) (None, (r, t), ((f.1, refl), refl), (refl, refl))
