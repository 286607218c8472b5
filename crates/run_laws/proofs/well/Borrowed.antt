-- Borrow handles that a task gets: what is kept well stays so.
use Rattle.std.proofs.Common.{ℕ, List, [], ◌∷◌, map, Some, None, sym, subst}
use Rattle.syntax_trees.specs.declared.value.Value.{Value}
use Rattle.syntax_trees.specs.declared.value.Value.TheOpen as V
use Rattle.syntax_trees.specs.declared.value.Value.TheViews.{roll-Value}
use Rattle.syntax_trees.specs.declared.value.Value.TheFolds.{map-Value, ind-Value, fold-roll-Value}
use Rattle.res_handles.specs.Calls.{is_defined}
use Rattle.tasks.specs.declared.event.TaskEvent.TheVariants as event
use Rattle.world_parts.specs.Held.{Held, Gives}
use Rattle.world_parts.specs.Slots.{happens}
use Rattle.value_moves.specs.Borrowing.{Act, all_done, borrow_counted, borrow_step, borrows_counted}
use Rattle.run_laws.specs.keeping.Well.{KeepsWell}
use Rattle.run_laws.proofs.well.Behind.{well_after, well_if, well_same}
use Rattle.run_laws.proofs.well.Slots.{happens_well}

module _ (home : List ℕ) (t : ℕ) where
  abbrev WellOn : Act → Type 0
  WellOn act = (h : Held) → KeepsWell h (act h)

  abbrev Good : Value → Type 0
  Good v = WellOn (borrows_counted home t v)

  abbrev Goods : Type 0
  Goods = (v : Value) × Good v

  abbrev these : List Goods → List Value
  these es = map (λ (e : Goods). e.0) es

  all_keep : (es : List Goods) → WellOn (all_done (map (borrows_counted home t) (these es)))
  all_keep [] h = well_same h
  all_keep (e ∷ es) h =
      well_after h (borrows_counted home t e.0 h) (λ done k. all_done (map (borrows_counted home t) (these es)) k) (e.1 h) (λ done k. all_keep es k)

  counted_well : (resource : ℕ) → WellOn (borrow_counted home t resource)
  counted_well resource h = well_if h (is_defined resource home) (Gives (tt {0}) h) (happens t event.Borrow h) (well_same h) (happens_well t event.Borrow h)

  abbrev layer : V.Value-F Goods → V.Value-F Value
  layer w = map-Value Goods Value (λ (e : Goods). e.0) w

  abbrev in_layer : V.Value-F Value → V.Value-F Act
  in_layer w = map-Value Value Act (borrows_counted home t) w

  step_well : (w : V.Value-F Goods) → WellOn (borrow_step home t (in_layer (layer w)))
  step_well (V.List es) h = all_keep es h
  step_well (V.Record es) h = all_keep es h
  step_well (V.Variant n (Some e)) h = e.1 h
  step_well (V.Variant n None) h = well_same h
  step_well (V.Borrow x) h = counted_well x.resource h
  step_well (V.String text) h = well_same h
  step_well (V.Flags flags) h = well_same h
  step_well (V.Own x) h = well_same h
  step_well (V.Stream x) h = well_same h
  step_well (V.Future x) h = well_same h
  step_well (V.Bool b) h = well_same h
  step_well (V.S8 n) h = well_same h
  step_well (V.U8 n) h = well_same h
  step_well (V.S16 n) h = well_same h
  step_well (V.U16 n) h = well_same h
  step_well (V.S32 n) h = well_same h
  step_well (V.U32 n) h = well_same h
  step_well (V.S64 n) h = well_same h
  step_well (V.U64 n) h = well_same h
  step_well (V.Char c) h = well_same h

  good_step : (w : V.Value-F Goods) → Good (roll-Value (layer w))
  good_step w = subst WellOn (sym (fold-roll-Value Act (borrow_step home t) (layer w))) (step_well w)

  good : (v : Value) → Good v
  good = ind-Value Good (λ x y e. subst (λ (z : V.Value-F Value). Good (roll-Value z)) e (good_step y))

pub borrows_counted_well : (home : List ℕ) (t : ℕ) (v : Value) (h : Held) → KeepsWell h (borrows_counted home t v h)
borrows_counted_well home t v h = good home t v h
