-- What the calls add to a run, and to a history.
use Rattle.std.proofs.Common.{◌≡◌, ℕ, ◌<◌, ◌≤◌, sym, ap, refl, ◌∙◌, arith, subst, List, ◌∷◌, Bool, true, false, Option, Some, None, IsSome, Result, Ok, Err, inl, inr}
use Rattle.std.specs.Prelude.{◌↔◌, option_map, IsTrue, IsOk, OnOk, MatchResult}
use Rattle.handle_table.specs.Calls.{Added}
use Rattle.handle_table.specs.History.{Event, live}
use Rattle.handle_table.specs.Laws.{with_changed}
use Rattle.handle_table.specs.Slots.{Slots, TableState, added, removed, with_entry, count, entry_at, StandsFor}
use Rattle.handle_table.proofs.Histories.{shows_entry}
use Rattle.handle_table.proofs.Writes.{writes_after}
use Rattle.res_handles.specs.declared.handle.Handle.{Handle}
use Rattle.res_handles.specs.declared.readable_end.ReadableEnd.{ReadableEnd}
use Rattle.res_handles.specs.declared.entry.EntryView.{EntryView}
use Rattle.res_handles.specs.declared.entry.EntryView.TheVariants as seen
use Rattle.res_handles.specs.declared.refusal.Refusal.{Refusal}
use Rattle.res_handles.specs.declared.refusal.LowerError.{LowerError}
use Rattle.res_handles.specs.Refusals.{handle_in, own_in, dropped_in}
use Rattle.res_handles.specs.Calls.{own_handle, borrow_handle, lends_in, view_at, shown, with_lends, relent_by, lent, given_back, NotLowered}
use Rattle.res_handles.specs.Ends.{idle_end, end_of, end_in, is_of_by, TellsApart, EndAnswer}
use Rattle.res_handles.specs.Runs.{Call, LowersOwn, LowersBorrow, LiftsOwn, LiftsBorrow, Drops, EndsLend, AddsOther, RemovesOther, WritesOther, IsOther, ComesOf}
use Rattle.res_handles.specs.Laws.{OthersComeAndGo}
use Rattle.res_handles.proofs.Seen.{shown_at, shown_count, shown_removed, shown_entry, shown_added, shown_lent, shown_given_back, comes}

found_ok : (r : Result Handle Refusal) (x : Handle) → r ≡ Ok x → IsOk r
found_ok r x e = let P : Result Handle Refusal → Type 0 = IsOk in subst P (sym e) refl

module _ {E : Type 0} (view : E → EntryView) where
  passes : (test : Option EntryView → ℕ → Result Handle Refusal) (s : Slots E) (index resource : ℕ) (x : Handle) → test (view_at view s index) resource ≡ Ok x → IsOk (test (entry_at (shown view s) index) resource)
  passes test s index resource x e =
      let P : Option EntryView → Type 0 = λ o. IsOk (test o resource) in
      subst P (sym (shown_at view s index)) (found_ok (test (view_at view s index) resource) x e)

  pub lifts_own_run : (s t : Slots E) (index resource : ℕ) (x : Handle) → own_in (view_at view s index) resource ≡ Ok x → t ≡ removed index s
      → (r : List Call) → ComesOf r (shown view s) → ComesOf (LiftsOwn index resource ∷ r) (shown view t)
  lifts_own_run s t index resource x e is = comes (LiftsOwn index resource) (shown view s) (shown view t) (passes own_in s index resource x e) (ap (shown view) is ∙ shown_removed view s index)

  pub drops_run : (s t : Slots E) (index resource : ℕ) (x : Handle) → dropped_in (view_at view s index) resource ≡ Ok x → t ≡ removed index s
      → (r : List Call) → ComesOf r (shown view s) → ComesOf (Drops index resource ∷ r) (shown view t)
  drops_run s t index resource x e is = comes (Drops index resource) (shown view s) (shown view t) (passes dropped_in s index resource x e) (ap (shown view) is ∙ shown_removed view s index)

  module _ (made : Handle → E) (law : (x : Handle) → view (made x) ≡ seen.Handle x) where
    pub lifts_borrow_run : (s t : Slots E) (index resource : ℕ) (x : Handle) → handle_in (view_at view s index) resource ≡ Ok x → t ≡ lent view made index s
        → (r : List Call) → ComesOf r (shown view s) → ComesOf (LiftsBorrow index resource ∷ r) (shown view t)
    lifts_borrow_run s t index resource x e is = comes (LiftsBorrow index resource) (shown view s) (shown view t) (passes handle_in s index resource x e) (ap (shown view) is ∙ shown_lent view made law s index)

    pub ends_lend_run : (s t : Slots E) (index : ℕ) → 1 ≤ lends_in (view_at view s index) → t ≡ given_back view made index s
        → (r : List Call) → ComesOf r (shown view s) → ComesOf (EndsLend index ∷ r) (shown view t)
    ends_lend_run s t index some is =
        let P : Option EntryView → Type 0 = λ o. 1 ≤ lends_in o in
        comes (EndsLend index) (shown view s) (shown view t) (subst P (sym (shown_at view s index)) some) (ap (shown view) is ∙ shown_given_back view made law s index)

    added_is : (s t : Slots E) (x : Handle) → t ≡ added (made x) s → shown view t ≡ added (seen.Handle x) (shown view s)
    added_is s t x is = ap (shown view) is ∙ shown_added view s (made x) ∙ ap (λ (e : EntryView). added e (shown view s)) (law x)

    few : (s : Slots E) → count s < 65535 → count (shown view s) < 65535
    few s l = omega (arith, l, shown_count view s)

    pub lowers_own_run : (old new : TableState E) (result : Result ℕ LowerError) (resource rep : ℕ)
        → MatchResult result (λ i. Added old (made (own_handle resource rep)) i new) (λ e. NotLowered old e new)
        → OnOk result ((r : List Call) → ComesOf r (shown view old.slots) → ComesOf (LowersOwn resource rep ∷ r) (shown view new.slots))
    lowers_own_run old new (Err e) resource rep a = tt
    lowers_own_run old new (Ok i) resource rep a =
        comes (LowersOwn resource rep) (shown view old.slots) (shown view new.slots) (few old.slots a.few) (added_is old.slots new.slots (own_handle resource rep) a.slots)

    pub lowers_borrow_run : (old new : TableState E) (result : Result ℕ LowerError) (resource rep task : ℕ)
        → MatchResult result (λ i. Added old (made (borrow_handle resource rep task)) i new) (λ e. NotLowered old e new)
        → OnOk result ((r : List Call) → ComesOf r (shown view old.slots) → ComesOf (LowersBorrow resource rep task ∷ r) (shown view new.slots))
    lowers_borrow_run old new (Err e) resource rep task a = tt
    lowers_borrow_run old new (Ok i) resource rep task a =
        comes (LowersBorrow resource rep task) (shown view old.slots) (shown view new.slots) (few old.slots a.few) (added_is old.slots new.slots (borrow_handle resource rep task) a.slots)

-- entries that are no handles
pub others : {E : Type 0} (view : E → EntryView) → OthersComeAndGo view
others {E} view = record {
  adds = λ r s entry other few c. comes (AddsOther (view entry)) (shown view s) (shown view (added entry s)) (other, omega (arith, few, shown_count view s)) (shown_added view s entry) r c;
  removes = λ r s index other c.
      (let P : Option EntryView → Type 0 = λ o. IsOther o in
      comes (RemovesOther index) (shown view s) (shown view (removed index s)) (subst P (sym (shown_at view s index)) other) (shown_removed view s index) r c);
  writes = λ r s index entry other before c.
      (let P : Option EntryView → Type 0 = λ o. IsOther o in
      comes (WritesOther index (view entry)) (shown view s) (shown view (with_entry index entry s)) (other, subst P (sym (shown_at view s index)) before) (shown_entry view s index entry) r c);
}

-- ends
pub end_answered : {T : Type 0} (is_of_type : Bool) (end_type : Option T) (wanted : T) (x : ReadableEnd) → (IsTrue is_of_type ↔ (end_type ≡ Some wanted))
    → EndAnswer (Some (seen.ReadableEnd x)) end_type wanted (end_of is_of_type x)
end_answered true end_type wanted x is = inl (is.0 refl, refl)
end_answered false end_type wanted x is = inr ((λ e. (let no : IsTrue false = is.1 e in cc)), refl)

some_same : {T : Type 0} (a b : T) → Some a ≡ Some b → a ≡ b
some_same a b e = cc

told_by : (is_of_type wanted : Bool) (x : ReadableEnd) → (IsTrue is_of_type ↔ IsTrue wanted) → end_of is_of_type x ≡ end_of wanted x
told_by true true x is = refl
told_by false false x is = refl
told_by true false x is = (let no : IsTrue false = is.0 refl in cc)
told_by false true x is = (let no : IsTrue false = is.1 refl in cc)

is_of_told : {T : Type 0} (same : T → T → Bool) → TellsApart same → (end_type : Option T) (wanted : T) → IsTrue (is_of_by same end_type wanted) ↔ (end_type ≡ Some wanted)
is_of_told same tells None wanted = ((λ (h : IsTrue false). cc), (λ e. cc))
is_of_told {T} same tells (Some t) wanted =
    ((λ h. ap (λ (u : T). Some u) ((tells t wanted).0 h)), (λ e. (tells t wanted).1 (some_same t wanted e)))

pub end_told : {T : Type 0} (is_of_type : Bool) (end_type : Option T) (wanted : T) (x : ReadableEnd) → (IsTrue is_of_type ↔ (end_type ≡ Some wanted))
    → (same : T → T → Bool) → TellsApart same → end_of is_of_type x ≡ end_in (Some (seen.ReadableEnd x)) (is_of_by same end_type wanted)
end_told is_of_type end_type wanted x is same tells =
    let told = is_of_told same tells end_type wanted in
    told_by is_of_type (is_of_by same end_type wanted) x ((λ h. told.1 (is.0 h)), (λ h. is.1 (told.0 h)))

end_found : {T : Type 0} (entry : Option EntryView) (end_type : Option T) (wanted : T) (number : ℕ) → EndAnswer entry end_type wanted (Ok number) → IsOther entry
end_found None t w n a = cc
end_found (Some seen.Other) t w n a = tt
end_found (Some (seen.Handle x)) t w n a = cc
end_found (Some (seen.ReadableEnd x)) t w n a = tt

pub lifts_end_run : {E T : Type 0} (view : E → EntryView) (s t : Slots E) (index : ℕ) (end_type : Option T) (wanted : T) (number : ℕ)
    → EndAnswer (view_at view s index) end_type wanted (Ok number) → t ≡ removed index s
    → (r : List Call) → ComesOf r (shown view s) → ComesOf (RemovesOther index ∷ r) (shown view t)
lifts_end_run {E} view s t index end_type wanted number a is r c =
    let P : Slots E → Type 0 = λ u. ComesOf (RemovesOther index ∷ r) (shown view u) in
    let o : OthersComeAndGo view = others view in
    subst P (sym is) (o.removes r s index (end_found (view_at view s index) end_type wanted number a) c)

pub lowers_end_run : {E : Type 0} (view : E → EntryView) (entry : E) (number : ℕ) → view entry ≡ seen.ReadableEnd (idle_end number) → (old new : TableState E) (result : Result ℕ LowerError)
    → MatchResult result (λ i. Added old entry i new) (λ e. NotLowered old e new)
    → OnOk result ((r : List Call) → ComesOf r (shown view old.slots) → ComesOf (AddsOther (seen.ReadableEnd (idle_end number)) ∷ r) (shown view new.slots))
lowers_end_run {E} view entry number law old new (Err e) a = tt
lowers_end_run {E} view entry number law old new (Ok i) a =
    λ r c. comes (AddsOther (seen.ReadableEnd (idle_end number))) (shown view old.slots) (shown view new.slots) (tt, omega (arith, a.few, shown_count view old.slots))
    (ap (shown view) a.slots ∙ shown_added view old.slots entry ∙ ap (λ (e : EntryView). added e (shown view old.slots)) law) r c

-- a write
some_seen : {E : Type 0} (view : E → EntryView) (o : Option E) (x : EntryView) → option_map view o ≡ Some x → IsSome o
some_seen view None x e = cc
some_seen view (Some e) x h = refl

pub relent_stands : {E : Type 0} (view : E → EntryView) (made : Handle → E) (f : ℕ → ℕ) (s t : Slots E) (index : ℕ) → t ≡ relent_by (view_at view s index) made f index s
    → (h : List (Event E)) (x : Handle) → view_at view s index ≡ Some (seen.Handle x) → StandsFor h s → StandsFor (with_changed index (made (with_lends (f x.lends) x)) h) t
relent_stands {E} view made f s t index is h x e st =
    let now : E = made (with_lends (f x.lends) x) in
    let same : t ≡ with_entry index now s = is ∙ ap (λ (o : Option EntryView). relent_by o made f index s) e in
    let P : Option E → Type 0 = IsSome in
    let some : IsSome (live h index) = subst P (shows_entry s h index st) (some_seen view (entry_at s index) (seen.Handle x) e) in
    let Q : Slots E → Type 0 = λ u. StandsFor (with_changed index now h) u in
    subst Q (sym same) (writes_after h s index now some st)
