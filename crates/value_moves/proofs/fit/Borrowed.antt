-- Borrow handles that a task gets are counted: the store stays, and no handle is lent more often.
use Rattle.std.proofs.Common.{◌≡◌, ℕ, List, [], ◌∷◌, map, Option, Some, None, refl, sym, subst}
use Rattle.std.specs.Prelude.{if◌then◌else◌}
use Rattle.syntax_trees.specs.declared.value.Value.{Value}
use Rattle.syntax_trees.specs.declared.value.Value.TheOpen as V
use Rattle.syntax_trees.specs.declared.value.Value.TheViews.{roll-Value}
use Rattle.syntax_trees.specs.declared.value.Value.TheFolds.{map-Value, ind-Value, fold-roll-Value}
use Rattle.res_handles.specs.Calls.{is_defined}
use Rattle.tasks.specs.declared.event.TaskEvent.TheVariants as event
use Rattle.world_parts.specs.Held.{Held, Done, Gives, after}
use Rattle.world_parts.specs.Slots.{happens}
use Rattle.value_parts.proofs.fit.Keeps.{KeepsBy, keeps_after, keeps_if, keeps_same}
use Rattle.value_parts.proofs.fit.Slots.{happens_keeps}
use Rattle.value_moves.specs.Borrowing.{Act, all_done, borrow_counted, borrow_step, borrows_counted}

module _ (home : List ℕ) (t : ℕ) where
  abbrev KeepsOn : Act → Type 0
  KeepsOn act = (h : Held) → KeepsBy h (act h)

  abbrev Good : Value → Type 0
  Good v = KeepsOn (borrows_counted home t v)

  abbrev Goods : Type 0
  Goods = (v : Value) × Good v

  abbrev these : List Goods → List Value
  these es = map (λ (e : Goods). e.0) es

  all_keep : (es : List Goods) → KeepsOn (all_done (map (borrows_counted home t) (these es)))
  all_keep [] h = keeps_same h
  all_keep (e ∷ es) h =
      keeps_after h (borrows_counted home t e.0 h) (λ done k. all_done (map (borrows_counted home t) (these es)) k) (e.1 h) (λ done k. all_keep es k)

  counted_keeps : (resource : ℕ) → KeepsOn (borrow_counted home t resource)
  counted_keeps resource h = keeps_if h (is_defined resource home) (Gives (tt {0}) h) (happens t event.Borrow h) (keeps_same h) (happens_keeps t event.Borrow h)

  abbrev layer : V.Value-F Goods → V.Value-F Value
  layer w = map-Value Goods Value (λ (e : Goods). e.0) w

  abbrev in_layer : V.Value-F Value → V.Value-F Act
  in_layer w = map-Value Value Act (borrows_counted home t) w

  step_keeps : (w : V.Value-F Goods) → KeepsOn (borrow_step home t (in_layer (layer w)))
  step_keeps (V.List es) h = all_keep es h
  step_keeps (V.Record es) h = all_keep es h
  step_keeps (V.Variant n (Some e)) h = e.1 h
  step_keeps (V.Variant n None) h = keeps_same h
  step_keeps (V.Borrow x) h = counted_keeps x.resource h
  step_keeps (V.String text) h = keeps_same h
  step_keeps (V.Flags flags) h = keeps_same h
  step_keeps (V.Own x) h = keeps_same h
  step_keeps (V.Stream x) h = keeps_same h
  step_keeps (V.Future x) h = keeps_same h
  step_keeps (V.Bool b) h = keeps_same h
  step_keeps (V.S8 n) h = keeps_same h
  step_keeps (V.U8 n) h = keeps_same h
  step_keeps (V.S16 n) h = keeps_same h
  step_keeps (V.U16 n) h = keeps_same h
  step_keeps (V.S32 n) h = keeps_same h
  step_keeps (V.U32 n) h = keeps_same h
  step_keeps (V.S64 n) h = keeps_same h
  step_keeps (V.U64 n) h = keeps_same h
  step_keeps (V.Char c) h = keeps_same h

  good_step : (w : V.Value-F Goods) → Good (roll-Value (layer w))
  good_step w = subst KeepsOn (sym (fold-roll-Value Act (borrow_step home t) (layer w))) (step_keeps w)

  good : (v : Value) → Good v
  good = ind-Value Good (λ x y e. subst (λ (z : V.Value-F Value). Good (roll-Value z)) e (good_step y))

pub borrows_counted_keeps : (home : List ℕ) (t : ℕ) (v : Value) (h : Held) → KeepsBy h (borrows_counted home t v h)
borrows_counted_keeps home t v h = good home t v h
