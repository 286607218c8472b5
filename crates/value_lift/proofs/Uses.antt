-- What one use of an index makes of a table, by its kind: how often handles are lent, what indices name, and what it adds to a run of
-- calls and to a history.
use Rattle.std.proofs.Common.{◌≡◌, ◌∙◌, ◌+◌, ◌≤◌, ℕ, List, ◌∷◌, Bool, true, false, if◌then◌else◌, Option, Some, None, Result, Ok, Err, refl, ap, sym, subst, arith, inl, inr}
use Rattle.std.specs.Prelude.{nat_eq, option_map}
use Rattle.syntax_trees.specs.declared.types.ValType.{ValType}
use Rattle.handle_table.specs.History.{Event, Remove}
use Rattle.handle_table.specs.Slots.{Slots, entry_at, removed, StandsFor}
use Rattle.handle_table.proofs.Histories.{remove_stands}
use Rattle.res_handles.specs.declared.handle.Handle.{Handle}
use Rattle.res_handles.specs.declared.handle.Ownership.{Ownership}
use Rattle.res_handles.specs.declared.handle.Ownership.TheVariants.{Own, Borrow}
use Rattle.res_handles.specs.declared.readable_end.ReadableEnd.{ReadableEnd}
use Rattle.res_handles.specs.declared.entry.EntryView.{EntryView}
use Rattle.res_handles.specs.declared.entry.EntryView.TheVariants as seen
use Rattle.res_handles.specs.declared.refusal.Refusal.{Refusal}
use Rattle.res_handles.specs.declared.refusal.Refusal.TheVariants.{OtherType, Lent, NotIdle}
use Rattle.res_handles.specs.Refusals.{owned, owned_by, that_is, handle_in, own_in}
use Rattle.res_handles.specs.Calls.{with_lends, lends_in, view_at, shown, relent_by, lent}
use Rattle.res_handles.specs.Ends.{end_in}
use Rattle.res_handles.specs.Laws.{OthersComeAndGo}
use Rattle.res_handles.specs.Runs.{Call, LiftsOwn, LiftsBorrow, RemovesOther, IsOther, ComesOf}
use Rattle.res_handles.proofs.Standing.{lifts_own_run, lifts_borrow_run, relent_stands, others}
use Rattle.value_lift.specs.Ledger.{Use, What, AnOwn, ABorrow, AnEnd}
use Rattle.value_lift.specs.Tables.{Kept, Stop, taken_own, taken_borrow, taken_end, taken_as, is_end_at}
use Rattle.value_lift.specs.Settled.{name_of, lent_in, call_for, event_for}
use Rattle.value_lift.proofs.Lends.{slot_either, removed_lends, lent_lends}

-- What is found where something is taken.
if_ok : {A : Type 0} (b : Bool) (y x : A) (why : Refusal) → ◌≡◌ {A = Result A Refusal} (if b then Ok y else Err why) (Ok x) → y ≡ x
if_ok true y x why h = cc
if_ok false y x why h = cc

owned_same : (o : Ownership) (y x : Handle) → owned_by o y ≡ Ok x → y ≡ x
owned_same Own y x h = if_ok (nat_eq y.lends 0) y x Lent h
owned_same (Borrow task) y x h = cc

own_same : (b : Bool) (y x : Handle) → that_is owned (if b then Ok y else Err OtherType) ≡ Ok x → y ≡ x
own_same true y x h = owned_same y.ownership y x h
own_same false y x h = cc

pub own_found : (o : Option EntryView) (resource : ℕ) (x : Handle) → own_in o resource ≡ Ok x → o ≡ Some (seen.Handle x)
own_found None resource x h = cc
own_found (Some seen.Other) resource x h = cc
own_found (Some (seen.ReadableEnd e)) resource x h = cc
own_found (Some (seen.Handle y)) resource x h = ap (λ (y : Handle). Some (seen.Handle y)) (own_same (nat_eq y.resource resource) y x h)

pub handle_found : (o : Option EntryView) (resource : ℕ) (x : Handle) → handle_in o resource ≡ Ok x → o ≡ Some (seen.Handle x)
handle_found None resource x h = cc
handle_found (Some seen.Other) resource x h = cc
handle_found (Some (seen.ReadableEnd e)) resource x h = cc
handle_found (Some (seen.Handle y)) resource x h = ap (λ (y : Handle). Some (seen.Handle y)) (if_ok (nat_eq y.resource resource) y x OtherType h)

pub record EndFound (o : Option EntryView) (number : ℕ) : Type 0 where
  pub found : ReadableEnd
  pub is : o ≡ Some (seen.ReadableEnd found)
  pub same : found.number ≡ number

pub end_found : (o : Option EntryView) (b : Bool) (number : ℕ) → end_in o b ≡ Ok number → EndFound o number
end_found None b number h = cc
end_found (Some seen.Other) b number h = cc
end_found (Some (seen.Handle x)) b number h = cc
end_found (Some (seen.ReadableEnd e)) false number h = cc
end_found (Some (seen.ReadableEnd e)) true number h = record { found = e; is = refl; same = if_ok e.is_idle e.number number NotIdle h }

-- What an entry that is there names.
abbrev pub NamedAs : Option EntryView → ℕ → Type 0
NamedAs None n = Unit {0}
NamedAs (Some e) n = name_of (Some e) ≡ n

module _ {E : Type 0} where
  -- the slots behind one use
  abbrev pub slots_of : Result (ℕ × Kept E) (Stop E) → Slots E
  slots_of (Ok x) = x.1.slots
  slots_of (Err stop) = stop.slots

module _ {E : Type 0} (view : E → EntryView) (made : Handle → E) (law : (x : Handle) → view (made x) ≡ seen.Handle x) where
  -- Names stay.
  pub removed_named : (s : Slots E) (i j n : ℕ) → NamedAs (view_at view s j) n → NamedAs (view_at view (removed i s) j) n
  removed_named s i j n h = elim (slot_either s.entries i j None) [
    | inl same ↦ subst (λ (o : Option E). NamedAs (option_map view o) n) (sym same) h
    | inr gone ↦ subst (λ (o : Option E). NamedAs (option_map view o) n) (sym gone.1) tt
  ]

  relent_named : (s : Slots E) (i j n : ℕ) (o : Option EntryView) → view_at view s i ≡ o → NamedAs (view_at view s j) n
      → NamedAs (view_at view (relent_by o made (λ n. n + 1) i s) j) n
  relent_named s i j n None e h = h
  relent_named s i j n (Some seen.Other) e h = h
  relent_named s i j n (Some (seen.ReadableEnd x)) e h = h
  relent_named s i j n (Some (seen.Handle x)) e h = elim (slot_either s.entries i j (Some (made (with_lends (x.lends + 1) x)))) [
    | inl same ↦ subst (λ (o : Option E). NamedAs (option_map view o) n) (sym same) h
    | inr here ↦
        (let y : Handle = with_lends (x.lends + 1) x in
        let old : NamedAs (Some (seen.Handle x)) n = subst (λ (o : Option EntryView). NamedAs o n) (ap (λ (k : ℕ). view_at view s k) here.0 ∙ e) h in
        let now : NamedAs (Some (view (made y))) n = subst (λ (v : EntryView). NamedAs (Some v) n) (sym (law y)) old in
        subst (λ (o : Option E). NamedAs (option_map view o) n) (sym here.1) now)
  ]

  pub lent_named : (s : Slots E) (i j n : ℕ) → NamedAs (view_at view s j) n → NamedAs (view_at view (lent view made i s) j) n
  lent_named s i j n h = relent_named s i j n (view_at view s i) refl h

  -- Lends rise by one at most.
  own_rises : (o : Result Handle Refusal) (u : Use) (k : Kept E) (j : ℕ) → lends_in (view_at view (slots_of (taken_own o u k)) j) ≤ lends_in (view_at view k.slots j) + 1
  own_rises (Ok x) u k j = omega (arith, removed_lends view k.slots u.index j)
  own_rises (Err why) u k j = omega arith

  borrow_rises : (o : Result Handle Refusal) (u : Use) (k : Kept E) (j : ℕ) → lends_in (view_at view (slots_of (taken_borrow view made o u k)) j) ≤ lends_in (view_at view k.slots j) + 1
  borrow_rises (Ok x) u k j = lent_lends view made law k.slots u.index j
  borrow_rises (Err why) u k j = omega arith

  end_rises : (o : Result ℕ Refusal) (u : Use) (k : Kept E) (j : ℕ) → lends_in (view_at view (slots_of (taken_end o u k)) j) ≤ lends_in (view_at view k.slots j) + 1
  end_rises (Ok x) u k j = omega (arith, removed_lends view k.slots u.index j)
  end_rises (Err why) u k j = omega arith

  -- A call more, where the use is taken; else the slots stay.
  abbrev pub RunTaken : Call → List Call → Slots E → Result (ℕ × Kept E) (Stop E) → Type 0
  RunTaken call r s (Ok x) = ComesOf (call ∷ r) (shown view x.1.slots)
  RunTaken call r s (Err stop) = stop.slots ≡ s

  own_run : (resource : ℕ) (o : Result Handle Refusal) (u : Use) (k : Kept E) (r : List Call) → own_in (view_at view k.slots u.index) resource ≡ o → ComesOf r (shown view k.slots)
      → RunTaken (LiftsOwn u.index resource) r k.slots (taken_own o u k)
  own_run resource (Ok x) u k r e c = lifts_own_run view k.slots (removed u.index k.slots) u.index resource x e refl r c
  own_run resource (Err why) u k r e c = refl

  borrow_run : (resource : ℕ) (o : Result Handle Refusal) (u : Use) (k : Kept E) (r : List Call) → handle_in (view_at view k.slots u.index) resource ≡ o → ComesOf r (shown view k.slots)
      → RunTaken (LiftsBorrow u.index resource) r k.slots (taken_borrow view made o u k)
  borrow_run resource (Ok x) u k r e c = lifts_borrow_run view made law k.slots (lent view made u.index k.slots) u.index resource x e refl r c
  borrow_run resource (Err why) u k r e c = refl

  end_run : (b : Bool) (o : Result ℕ Refusal) (u : Use) (k : Kept E) (r : List Call) → end_in (view_at view k.slots u.index) b ≡ o → ComesOf r (shown view k.slots)
      → RunTaken (RemovesOther u.index) r k.slots (taken_end o u k)
  end_run b (Ok number) u k r e c =
      let f : EndFound (view_at view k.slots u.index) number = end_found (view_at view k.slots u.index) b number e in
      let come : OthersComeAndGo view = others view in
      come.removes r k.slots u.index (subst IsOther (sym f.is) tt) c
  end_run b (Err why) u k r e c = refl

  -- An event more, where the use is taken; else the slots stay.
  abbrev pub HistoryTaken : List (Event E) → Slots E → Result (ℕ × Kept E) (Stop E) → Type 0
  HistoryTaken h s (Ok x) = StandsFor h x.1.slots
  HistoryTaken h s (Err stop) = stop.slots ≡ s

  record EntryThere (o : Option E) : Type 0 where
    pub entry : E
    pub is : o ≡ Some entry

  entry_there : (o : Option E) (v : EntryView) → option_map view o ≡ Some v → EntryThere o
  entry_there None v h = cc
  entry_there (Some e) v h = record { entry = e; is = refl }

  remove_history : (s : Slots E) (index : ℕ) (v : EntryView) → view_at view s index ≡ Some v → (h : List (Event E)) → StandsFor h s → StandsFor (Remove index ∷ h) (removed index s)
  remove_history s index v e h st =
      let t : EntryThere (entry_at s index) = entry_there (entry_at s index) v e in
      remove_stands s index t.entry t.is h st

  own_history : (resource : ℕ) (o : Result Handle Refusal) (u : Use) (k : Kept E) (h : List (Event E)) → own_in (view_at view k.slots u.index) resource ≡ o → StandsFor h k.slots
      → HistoryTaken (Remove u.index ∷ h) k.slots (taken_own o u k)
  own_history resource (Ok x) u k h e st = remove_history k.slots u.index (seen.Handle x) (own_found (view_at view k.slots u.index) resource x e) h st
  own_history resource (Err why) u k h e st = refl

  lent_history : (s : Slots E) (index : ℕ) (x : Handle) → view_at view s index ≡ Some (seen.Handle x) → (h : List (Event E)) → StandsFor h s
      → StandsFor (lent_in made index (view_at view s index) h) (lent view made index s)
  lent_history s index x e h st =
      subst (λ (o : Option EntryView). StandsFor (lent_in made index o h) (lent view made index s)) (sym e)
      (relent_stands view made (λ n. n + 1) s (lent view made index s) index refl h x e st)

  borrow_history : (resource : ℕ) (o : Result Handle Refusal) (u : Use) (k : Kept E) (h : List (Event E)) → handle_in (view_at view k.slots u.index) resource ≡ o → StandsFor h k.slots
      → HistoryTaken (lent_in made u.index (view_at view k.slots u.index) h) k.slots (taken_borrow view made o u k)
  borrow_history resource (Ok x) u k h e st = lent_history k.slots u.index x (handle_found (view_at view k.slots u.index) resource x e) h st
  borrow_history resource (Err why) u k h e st = refl

  end_history : (b : Bool) (o : Result ℕ Refusal) (u : Use) (k : Kept E) (h : List (Event E)) → end_in (view_at view k.slots u.index) b ≡ o → StandsFor h k.slots
      → HistoryTaken (Remove u.index ∷ h) k.slots (taken_end o u k)
  end_history b (Ok number) u k h e st =
      let f : EndFound (view_at view k.slots u.index) number = end_found (view_at view k.slots u.index) b number e in
      remove_history k.slots u.index (seen.ReadableEnd f.found) f.is h st
  end_history b (Err why) u k h e st = refl

  module _ (end_type : E → Option ℕ) (types : List ValType) where
    pub use_rises : (w : What) (u : Use) (k : Kept E) (j : ℕ)
        → lends_in (view_at view (slots_of (taken_as view made end_type types w u k)) j) ≤ lends_in (view_at view k.slots j) + 1
    use_rises (AnOwn resource) u k j = own_rises (own_in (view_at view k.slots u.index) resource) u k j
    use_rises (ABorrow resource) u k j = borrow_rises (handle_in (view_at view k.slots u.index) resource) u k j
    use_rises (AnEnd type) u k j = end_rises (end_in (view_at view k.slots u.index) (is_end_at end_type types k.slots u.index type)) u k j

    pub use_run : (w : What) (u : Use) (k : Kept E) (r : List Call) → ComesOf r (shown view k.slots)
        → RunTaken (call_for w u.index) r k.slots (taken_as view made end_type types w u k)
    use_run (AnOwn resource) u k r c = own_run resource (own_in (view_at view k.slots u.index) resource) u k r refl c
    use_run (ABorrow resource) u k r c = borrow_run resource (handle_in (view_at view k.slots u.index) resource) u k r refl c
    use_run (AnEnd type) u k r c =
        end_run (is_end_at end_type types k.slots u.index type) (end_in (view_at view k.slots u.index) (is_end_at end_type types k.slots u.index type)) u k r refl c

    pub use_history : (w : What) (u : Use) (k : Kept E) (h : List (Event E)) → StandsFor h k.slots
        → HistoryTaken (event_for view made w u.index k.slots h) k.slots (taken_as view made end_type types w u k)
    use_history (AnOwn resource) u k h st = own_history resource (own_in (view_at view k.slots u.index) resource) u k h refl st
    use_history (ABorrow resource) u k h st = borrow_history resource (handle_in (view_at view k.slots u.index) resource) u k h refl st
    use_history (AnEnd type) u k h st =
        end_history (is_end_at end_type types k.slots u.index type) (end_in (view_at view k.slots u.index) (is_end_at end_type types k.slots u.index type)) u k h refl st
