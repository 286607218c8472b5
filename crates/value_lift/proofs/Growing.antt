-- What uses make of a table, one after the other, up to the first that is refused: how often handles are lent, and what is added to a run
-- of calls and to a history.
use Rattle.std.proofs.Common.{◌≡◌, ◌∙◌, ◌+◌, ◌≤◌, ℕ, suc, List, [], ◌∷◌, ◌++◌, length, Option, Result, Ok, Err, refl, ap, sym, subst, arith}
use Rattle.syntax_trees.specs.declared.types.ValType.{ValType}
use Rattle.handle_table.specs.History.{Event}
use Rattle.handle_table.specs.Slots.{Slots, StandsFor}
use Rattle.res_handles.specs.declared.handle.Handle.{Handle}
use Rattle.res_handles.specs.declared.entry.EntryView.{EntryView}
use Rattle.res_handles.specs.declared.entry.EntryView.TheVariants as seen
use Rattle.res_handles.specs.Calls.{lends_in, view_at, shown}
use Rattle.res_handles.specs.Runs.{Call, ComesOf}
use Rattle.value_lift.specs.Ledger.{Use}
use Rattle.value_lift.specs.Tables.{Kept, Stop, taken_as}
use Rattle.value_lift.specs.Settled.{call_for, event_for, applied_by, added_by, slots_behind, applied, run_behind, history_behind, RunGrows, HistoryGrows}
use Rattle.value_lift.proofs.Both.{on_with}
use Rattle.value_lift.proofs.Uses.{slots_of, RunTaken, HistoryTaken, use_rises, use_run, use_history}

module _ {E : Type 0} (view : E → EntryView) (made : Handle → E) (end_type : E → Option ℕ) (types : List ValType) where
  -- uses behind uses
  more_by : (o : Result (ℕ × Kept E) (Stop E)) (uses more : List Use)
      → ((now : Kept E) → applied view made end_type types (uses ++ more) now ≡ on_with (applied view made end_type types uses now) (λ now. applied view made end_type types more now))
      → applied_by o (λ now. applied view made end_type types (uses ++ more) now)
      ≡ on_with (applied_by o (λ now. applied view made end_type types uses now)) (λ now. applied view made end_type types more now)
  more_by (Ok x) uses more h = h x.1
  more_by (Err stop) uses more h = refl

  pub applied_more : (uses more : List Use) (k : Kept E)
      → applied view made end_type types (uses ++ more) k ≡ on_with (applied view made end_type types uses k) (λ now. applied view made end_type types more now)
  applied_more [] more k = refl
  applied_more (u ∷ uses) more k = more_by (taken_as view made end_type types u.what u k) uses more (λ now. applied_more uses more now)

  -- one use behind uses that are taken
  pub applied_one : (uses : List Use) (u : Use) (k now : Kept E) (o : Result (ℕ × Kept E) (Stop E)) → applied view made end_type types uses k ≡ Ok now
      → taken_as view made end_type types u.what u now ≡ o → applied view made end_type types (uses ++ u ∷ []) k ≡ applied_by o (λ now. Ok now)
  applied_one uses u k now o e f =
      applied_more uses (u ∷ []) k
      ∙ ap (λ (r : Result (Kept E) (Stop E)). on_with r (λ now. applied view made end_type types (u ∷ []) now)) e
      ∙ ap (λ (r : Result (ℕ × Kept E) (Stop E)). applied_by r (λ now. Ok now)) f

  pub applied_stopped : (uses more : List Use) (k : Kept E) (stop : Stop E) → applied view made end_type types uses k ≡ Err stop → applied view made end_type types (uses ++ more) k ≡ Err stop
  applied_stopped uses more k stop e =
      applied_more uses more k ∙ ap (λ (r : Result (Kept E) (Stop E)). on_with r (λ now. applied view made end_type types more now)) e

  module _ (law : (x : Handle) → view (made x) ≡ seen.Handle x) where
    -- lends
    rises_by : (o : Result (ℕ × Kept E) (Stop E)) (uses : List Use) (before j : ℕ) → lends_in (view_at view (slots_of o) j) ≤ before + 1
        → ((now : Kept E) → lends_in (view_at view (slots_behind (applied view made end_type types uses now)) j) ≤ lends_in (view_at view now.slots j) + length uses)
        → lends_in (view_at view (slots_behind (applied_by o (λ now. applied view made end_type types uses now))) j) ≤ before + suc (length uses)
    rises_by (Ok x) uses before j h on =
        let a : lends_in (view_at view (slots_behind (applied view made end_type types uses x.1)) j) ≤ lends_in (view_at view x.1.slots j) + length uses = on x.1 in
        let b : lends_in (view_at view x.1.slots j) ≤ before + 1 = h in
        omega (arith, a, b)
    rises_by (Err stop) uses before j h on =
        let b : lends_in (view_at view stop.slots j) ≤ before + 1 = h in
        omega (arith, b)

    pub uses_rise : (uses : List Use) (k : Kept E) (j : ℕ)
        → lends_in (view_at view (slots_behind (applied view made end_type types uses k)) j) ≤ lends_in (view_at view k.slots j) + length uses
    uses_rise [] k j = (let p : lends_in (view_at view k.slots j) ≤ lends_in (view_at view k.slots j) + 0 = omega arith in p)
    uses_rise (u ∷ uses) k j =
        rises_by (taken_as view made end_type types u.what u k) uses (lends_in (view_at view k.slots j)) j (use_rises view made law end_type types u.what u k j) (λ now. uses_rise uses now j)

    -- runs of calls
    run_by : (o : Result (ℕ × Kept E) (Stop E)) (u : Use) (uses : List Use) (s : Slots E) (r : List Call) → RunTaken view made law (call_for u.what u.index) r s o
        → ComesOf r (shown view s)
        → ((now : Kept E) (r : List Call) → ComesOf r (shown view now.slots)
        → ComesOf (run_behind view made end_type types uses now r) (shown view (slots_behind (applied view made end_type types uses now))))
        → ComesOf (added_by o r (λ now. run_behind view made end_type types uses now (call_for u.what u.index ∷ r)))
        (shown view (slots_behind (applied_by o (λ now. applied view made end_type types uses now))))
    run_by (Ok x) u uses s r h c on = on x.1 (call_for u.what u.index ∷ r) h
    run_by (Err stop) u uses s r h c on = subst (λ (s : Slots E). ComesOf r (shown view s)) (sym h) c

    pub uses_run : (uses : List Use) (k : Kept E) → RunGrows view made end_type types uses k (slots_behind (applied view made end_type types uses k))
    uses_run [] k = λ r c. c
    uses_run (u ∷ uses) k = λ r c.
        run_by (taken_as view made end_type types u.what u k) u uses k.slots r (use_run view made law end_type types u.what u k r c) c (λ now r c. uses_run uses now r c)

    -- histories
    history_by : (o : Result (ℕ × Kept E) (Stop E)) (uses : List Use) (s : Slots E) (h next : List (Event E)) → HistoryTaken view made law next s o
        → StandsFor h s
        → ((now : Kept E) (h : List (Event E)) → StandsFor h now.slots
        → StandsFor (history_behind view made end_type types uses now h) (slots_behind (applied view made end_type types uses now)))
        → StandsFor (added_by o h (λ now. history_behind view made end_type types uses now next)) (slots_behind (applied_by o (λ now. applied view made end_type types uses now)))
    history_by (Ok x) uses s h next t st on = on x.1 next t
    history_by (Err stop) uses s h next t st on = subst (λ (s : Slots E). StandsFor h s) (sym t) st

    pub uses_history : (uses : List Use) (k : Kept E) → HistoryGrows view made end_type types uses k (slots_behind (applied view made end_type types uses k))
    uses_history [] k = λ h st. st
    uses_history (u ∷ uses) k = λ h st.
        history_by (taken_as view made end_type types u.what u k) uses k.slots h (event_for view made u.what u.index k.slots h)
        (use_history view made law end_type types u.what u k h st) st (λ now h st. uses_history uses now h st)
