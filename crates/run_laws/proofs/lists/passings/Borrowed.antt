-- Borrow handles that a task gets are counted: lists of tasks stay as they follow from the tasks.
use Rattle.std.proofs.Common.{ℕ, List, [], ◌∷◌, map, Some, None, sym, subst}
use Rattle.syntax_trees.specs.declared.value.Value.{Value}
use Rattle.syntax_trees.specs.declared.value.Value.TheOpen as V
use Rattle.syntax_trees.specs.declared.value.Value.TheViews.{roll-Value}
use Rattle.syntax_trees.specs.declared.value.Value.TheFolds.{map-Value, ind-Value, fold-roll-Value}
use Rattle.res_handles.specs.Calls.{is_defined}
use Rattle.tasks.specs.declared.event.TaskEvent.TheVariants as event
use Rattle.world_parts.specs.Held.{Held, Gives}
use Rattle.world_parts.specs.Slots.{happens}
use Rattle.run_laws.proofs.lists.Slots.{happens_lists}
use Rattle.value_moves.specs.Borrowing.{Act, all_done, borrow_counted, borrow_step, borrows_counted}
use Rattle.run_laws.proofs.lists.Same.{ListsBy, lists_after, lists_if, lists_same}

module _ (home : List ℕ) (t : ℕ) where
  abbrev ListsOn : Act → Type 0
  ListsOn act = (h : Held) → ListsBy h (act h)

  abbrev Good : Value → Type 0
  Good v = ListsOn (borrows_counted home t v)

  abbrev Goods : Type 0
  Goods = (v : Value) × Good v

  abbrev these : List Goods → List Value
  these es = map (λ (e : Goods). e.0) es

  all_lists : (es : List Goods) → ListsOn (all_done (map (borrows_counted home t) (these es)))
  all_lists [] h = lists_same h
  all_lists (e ∷ es) h =
      lists_after h (borrows_counted home t e.0 h) (λ done k. all_done (map (borrows_counted home t) (these es)) k) (e.1 h) (λ done k. all_lists es k)

  counted_lists : (resource : ℕ) → ListsOn (borrow_counted home t resource)
  counted_lists resource h = lists_if h (is_defined resource home) (Gives (tt {0}) h) (happens t event.Borrow h) (lists_same h) (happens_lists t event.Borrow h tt)

  abbrev layer : V.Value-F Goods → V.Value-F Value
  layer w = map-Value Goods Value (λ (e : Goods). e.0) w

  abbrev in_layer : V.Value-F Value → V.Value-F Act
  in_layer w = map-Value Value Act (borrows_counted home t) w

  step_lists : (w : V.Value-F Goods) → ListsOn (borrow_step home t (in_layer (layer w)))
  step_lists (V.List es) h = all_lists es h
  step_lists (V.Record es) h = all_lists es h
  step_lists (V.Variant n (Some e)) h = e.1 h
  step_lists (V.Variant n None) h = lists_same h
  step_lists (V.Borrow x) h = counted_lists x.resource h
  step_lists (V.String text) h = lists_same h
  step_lists (V.Flags flags) h = lists_same h
  step_lists (V.Own x) h = lists_same h
  step_lists (V.Stream x) h = lists_same h
  step_lists (V.Future x) h = lists_same h
  step_lists (V.Bool b) h = lists_same h
  step_lists (V.S8 n) h = lists_same h
  step_lists (V.U8 n) h = lists_same h
  step_lists (V.S16 n) h = lists_same h
  step_lists (V.U16 n) h = lists_same h
  step_lists (V.S32 n) h = lists_same h
  step_lists (V.U32 n) h = lists_same h
  step_lists (V.S64 n) h = lists_same h
  step_lists (V.U64 n) h = lists_same h
  step_lists (V.Char c) h = lists_same h

  good_step : (w : V.Value-F Goods) → Good (roll-Value (layer w))
  good_step w = subst ListsOn (sym (fold-roll-Value Act (borrow_step home t) (layer w))) (step_lists w)

  good : (v : Value) → Good v
  good = ind-Value Good (λ x y e. subst (λ (z : V.Value-F Value). Good (roll-Value z)) e (good_step y))

pub borrows_counted_lists : (home : List ℕ) (t : ℕ) (v : Value) (h : Held) → ListsBy h (borrows_counted home t v h)
borrows_counted_lists home t v h = good home t v h
