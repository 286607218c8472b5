-- What the calls with a table say of it, whatever they lift: how often handles are lent then, and what is added to a run of calls and to a
-- history.
use Rattle.std.proofs.Common.{◌≡◌, ◌∙◌, ◌+◌, ◌≤◌, ℕ, List, length, Option, Result, Ok, Err, ap, sym, subst, arith}
use Rattle.faults.specs.declared.memory.MemoryOr.{MemoryOr}
use Rattle.faults.specs.declared.memory.MemoryOr.TheVariants.{Memory, Fault}
use Rattle.syntax_trees.specs.declared.types.ValType.{ValType}
use Rattle.handle_table.specs.Slots.{Slots}
use Rattle.res_handles.specs.declared.handle.Handle.{Handle}
use Rattle.res_handles.specs.declared.entry.EntryView.{EntryView}
use Rattle.res_handles.specs.declared.entry.EntryView.TheVariants as seen
use Rattle.res_handles.specs.Calls.{lends_in, view_at}
use Rattle.value_lift.specs.declared.trap.LiftTrap.{LiftTrap}
use Rattle.value_lift.specs.Ledger.{Came, Use, MayTake}
use Rattle.value_lift.specs.Tables.{Kept, Stop, by_table}
use Rattle.value_lift.specs.Settled.{slots_behind, applied, RunGrows, HistoryGrows, LendsRise, UnlessMemory}
use Rattle.value_lift.proofs.Growing.{uses_rise, uses_run, uses_history}
use Rattle.value_lift.proofs.Settling.{Ends, end_of}

-- what is said of the slots where a lifting ends, of those that a call leaves
left_so : {E A : Type 0} (view : E → EntryView) (made : Handle → E) (end_type : E → Option ℕ) (types : List ValType) (came : Came (Kept E) (Stop E) A) (kept : Kept E) (slots : Slots E)
    (r : Result A (MemoryOr LiftTrap)) (P : Slots E → Type 0) → slots ≡ kept.slots → MayTake (by_table view made end_type types) came kept r → P (end_of came) → UnlessMemory r (P slots)
left_so {E} {A} view made end_type types came kept slots (Ok x) P e h p =
    let f : end_of came ≡ kept.slots = ap (λ (c : Came (Kept E) (Stop E) A). end_of c) h in
    subst P (f ∙ sym e) p
left_so {E} {A} view made end_type types came kept slots (Err (Fault fault)) P e h p =
    let f : end_of came ≡ kept.slots = ap (λ (c : Came (Kept E) (Stop E) A). end_of c) h in
    subst P (f ∙ sym e) p
left_so view made end_type types came kept slots (Err Memory) P e h p = tt

module _ {E A : Type 0} (view : E → EntryView) (made : Handle → E) (law : (x : Handle) → view (made x) ≡ seen.Handle x) (end_type : E → Option ℕ) (types : List ValType)
    (first now : Kept E) (is : now ≡ first) (uses : List Use) (came : Kept E → Came (Kept E) (Stop E) A) (ends : Ends view made end_type types first uses (end_of (came first)))
    (kept : Kept E) (slots : Slots E) (r : Result A (MemoryOr LiftTrap)) (left : slots ≡ kept.slots) (took : MayTake (by_table view made end_type types) (came now) kept r) where
  took_first : MayTake (by_table view made end_type types) (came first) kept r
  took_first = subst (λ (k : Kept E). MayTake (by_table view made end_type types) (came k) kept r) is took

  pub lends_so : UnlessMemory r (LendsRise view first.left first.slots slots)
  lends_so =
      left_so view made end_type types (came first) kept slots r (λ (s : Slots E). LendsRise view first.left first.slots s) left took_first
      (λ j.
      let a : lends_in (view_at view (end_of (came first)) j) ≡ lends_in (view_at view (slots_behind (applied view made end_type types uses first)) j) = ap (λ (s : Slots E). lends_in (view_at view s j)) ends.slots in
      let b : lends_in (view_at view (slots_behind (applied view made end_type types uses first)) j) ≤ lends_in (view_at view first.slots j) + length uses = uses_rise view made end_type types law uses first j in
      let p : length uses ≤ first.left = ends.paid in
      omega (arith, a, b, p))

  pub run_so : UnlessMemory r (RunGrows view made end_type types uses first slots)
  run_so =
      left_so view made end_type types (came first) kept slots r (λ (s : Slots E). RunGrows view made end_type types uses first s) left took_first
      (subst (λ (s : Slots E). RunGrows view made end_type types uses first s) (sym ends.slots) (uses_run view made end_type types law uses first))

  pub history_so : UnlessMemory r (HistoryGrows view made end_type types uses first slots)
  history_so =
      left_so view made end_type types (came first) kept slots r (λ (s : Slots E). HistoryGrows view made end_type types uses first s) left took_first
      (subst (λ (s : Slots E). HistoryGrows view made end_type types uses first s) (sym ends.slots) (uses_history view made end_type types law uses first))
