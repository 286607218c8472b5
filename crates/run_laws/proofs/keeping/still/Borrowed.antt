-- Borrow handles that a task gets are counted: memories, core instances and ends stay as they are kept.
use Rattle.std.proofs.Common.{ℕ, List, [], ◌∷◌, map, Some, None, sym, subst}
use Rattle.syntax_trees.specs.declared.value.Value.{Value}
use Rattle.syntax_trees.specs.declared.value.Value.TheOpen as V
use Rattle.syntax_trees.specs.declared.value.Value.TheViews.{roll-Value}
use Rattle.syntax_trees.specs.declared.value.Value.TheFolds.{map-Value, ind-Value, fold-roll-Value}
use Rattle.res_handles.specs.Calls.{is_defined}
use Rattle.tasks.specs.declared.event.TaskEvent.TheVariants as event
use Rattle.world_parts.specs.Held.{Held, Gives}
use Rattle.world_parts.specs.Slots.{happens}
use Rattle.run_laws.proofs.keeping.still.Still.{no_kinds, StillBy, still_after, still_if, still_same}
use Rattle.run_laws.proofs.keeping.still.Slots.{happens_still}
use Rattle.value_moves.specs.Borrowing.{Act, all_done, borrow_counted, borrow_step, borrows_counted}

module _ (home : List ℕ) (t : ℕ) where
  abbrev StillOn : Act → Type 0
  StillOn act = (h : Held) → StillBy no_kinds h (act h)

  abbrev Good : Value → Type 0
  Good v = StillOn (borrows_counted home t v)

  abbrev Goods : Type 0
  Goods = (v : Value) × Good v

  abbrev these : List Goods → List Value
  these es = map (λ (e : Goods). e.0) es

  all_keep : (es : List Goods) → StillOn (all_done (map (borrows_counted home t) (these es)))
  all_keep [] h = still_same no_kinds h
  all_keep (e ∷ es) h =
      still_after no_kinds h (borrows_counted home t e.0 h) (λ done k. all_done (map (borrows_counted home t) (these es)) k) (e.1 h) (λ done k. all_keep es k)

  counted_keeps : (resource : ℕ) → StillOn (borrow_counted home t resource)
  counted_keeps resource h = still_if no_kinds h (is_defined resource home) (Gives (tt {0}) h) (happens t event.Borrow h) (still_same no_kinds h) (happens_still no_kinds t event.Borrow h)

  abbrev layer : V.Value-F Goods → V.Value-F Value
  layer w = map-Value Goods Value (λ (e : Goods). e.0) w

  abbrev in_layer : V.Value-F Value → V.Value-F Act
  in_layer w = map-Value Value Act (borrows_counted home t) w

  step_keeps : (w : V.Value-F Goods) → StillOn (borrow_step home t (in_layer (layer w)))
  step_keeps (V.List es) h = all_keep es h
  step_keeps (V.Record es) h = all_keep es h
  step_keeps (V.Variant n (Some e)) h = e.1 h
  step_keeps (V.Variant n None) h = still_same no_kinds h
  step_keeps (V.Borrow x) h = counted_keeps x.resource h
  step_keeps (V.String text) h = still_same no_kinds h
  step_keeps (V.Flags flags) h = still_same no_kinds h
  step_keeps (V.Own x) h = still_same no_kinds h
  step_keeps (V.Stream x) h = still_same no_kinds h
  step_keeps (V.Future x) h = still_same no_kinds h
  step_keeps (V.Bool b) h = still_same no_kinds h
  step_keeps (V.S8 n) h = still_same no_kinds h
  step_keeps (V.U8 n) h = still_same no_kinds h
  step_keeps (V.S16 n) h = still_same no_kinds h
  step_keeps (V.U16 n) h = still_same no_kinds h
  step_keeps (V.S32 n) h = still_same no_kinds h
  step_keeps (V.U32 n) h = still_same no_kinds h
  step_keeps (V.S64 n) h = still_same no_kinds h
  step_keeps (V.U64 n) h = still_same no_kinds h
  step_keeps (V.Char c) h = still_same no_kinds h

  good_step : (w : V.Value-F Goods) → Good (roll-Value (layer w))
  good_step w = subst StillOn (sym (fold-roll-Value Act (borrow_step home t) (layer w))) (step_keeps w)

  good : (v : Value) → Good v
  good = ind-Value Good (λ x y e. subst (λ (z : V.Value-F Value). Good (roll-Value z)) e (good_step y))

pub borrows_counted_still : (home : List ℕ) (t : ℕ) (v : Value) (h : Held) → StillBy no_kinds h (borrows_counted home t v h)
borrows_counted_still home t v h = good home t v h
