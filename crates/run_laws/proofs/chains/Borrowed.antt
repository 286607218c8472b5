-- Borrow handles that a task gets: who runs, and how many tasks there are, stay.
use Rattle.std.proofs.Common.{ℕ, List, [], ◌∷◌, map, Some, None, sym, subst}
use Rattle.syntax_trees.specs.declared.value.Value.{Value}
use Rattle.syntax_trees.specs.declared.value.Value.TheOpen as V
use Rattle.syntax_trees.specs.declared.value.Value.TheViews.{roll-Value}
use Rattle.syntax_trees.specs.declared.value.Value.TheFolds.{map-Value, ind-Value, fold-roll-Value}
use Rattle.res_handles.specs.Calls.{is_defined}
use Rattle.tasks.specs.declared.event.TaskEvent.TheVariants as event
use Rattle.world_parts.specs.Held.{Held, Gives}
use Rattle.world_parts.specs.Slots.{happens}
use Rattle.value_moves.specs.Borrowing.{Act, all_done, borrow_counted, borrow_step, borrows_counted}
use Rattle.run_laws.proofs.chains.Parts.{happens_chain}
use Rattle.run_laws.proofs.chains.By.{ChainBy, chain_after, chain_if, chain_same}

module _ (home : List ℕ) (t : ℕ) where
  abbrev ChainOn : Act → Type 0
  ChainOn act = (h : Held) → ChainBy h (act h)

  abbrev Good : Value → Type 0
  Good v = ChainOn (borrows_counted home t v)

  abbrev Goods : Type 0
  Goods = (v : Value) × Good v

  abbrev these : List Goods → List Value
  these es = map (λ (e : Goods). e.0) es

  all_keep : (es : List Goods) → ChainOn (all_done (map (borrows_counted home t) (these es)))
  all_keep [] h = chain_same h
  all_keep (e ∷ es) h =
      chain_after h (borrows_counted home t e.0 h) (λ done k. all_done (map (borrows_counted home t) (these es)) k) (e.1 h) (λ done k. all_keep es k)

  counted_chain : (resource : ℕ) → ChainOn (borrow_counted home t resource)
  counted_chain resource h = chain_if h (is_defined resource home) (Gives (tt {0}) h) (happens t event.Borrow h) (chain_same h) (happens_chain t event.Borrow h)

  abbrev layer : V.Value-F Goods → V.Value-F Value
  layer w = map-Value Goods Value (λ (e : Goods). e.0) w

  abbrev in_layer : V.Value-F Value → V.Value-F Act
  in_layer w = map-Value Value Act (borrows_counted home t) w

  step_chain : (w : V.Value-F Goods) → ChainOn (borrow_step home t (in_layer (layer w)))
  step_chain (V.List es) h = all_keep es h
  step_chain (V.Record es) h = all_keep es h
  step_chain (V.Variant n (Some e)) h = e.1 h
  step_chain (V.Variant n None) h = chain_same h
  step_chain (V.Borrow x) h = counted_chain x.resource h
  step_chain (V.String text) h = chain_same h
  step_chain (V.Flags flags) h = chain_same h
  step_chain (V.Own x) h = chain_same h
  step_chain (V.Stream x) h = chain_same h
  step_chain (V.Future x) h = chain_same h
  step_chain (V.Bool b) h = chain_same h
  step_chain (V.S8 n) h = chain_same h
  step_chain (V.U8 n) h = chain_same h
  step_chain (V.S16 n) h = chain_same h
  step_chain (V.U16 n) h = chain_same h
  step_chain (V.S32 n) h = chain_same h
  step_chain (V.U32 n) h = chain_same h
  step_chain (V.S64 n) h = chain_same h
  step_chain (V.U64 n) h = chain_same h
  step_chain (V.Char c) h = chain_same h

  good_step : (w : V.Value-F Goods) → Good (roll-Value (layer w))
  good_step w = subst ChainOn (sym (fold-roll-Value Act (borrow_step home t) (layer w))) (step_chain w)

  good : (v : Value) → Good v
  good = ind-Value Good (λ x y e. subst (λ (z : V.Value-F Value). Good (roll-Value z)) e (good_step y))

pub borrows_counted_chain : (home : List ℕ) (t : ℕ) (v : Value) (h : Held) → ChainBy h (borrows_counted home t v h)
borrows_counted_chain home t v h = good home t v h
