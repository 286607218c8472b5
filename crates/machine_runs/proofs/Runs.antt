-- Runs of the acting task's stack.
use Rattle.std.proofs.Common.{◌≡◌, ℕ, List, refl, sym, subst, Option, Some, None, Result, Err}
use Rattle.std.specs.List.{slice_get}
use Rattle.wasm_store.specs.Store.{Store}
use Rattle.world_parts.specs.declared.parts.Parts.{Parts}
use Rattle.world_parts.specs.declared.parts.Stop.{Stop}
use Rattle.world_parts.specs.declared.parts.Stop.TheVariants as stop
use Rattle.world_parts.specs.Held.{Held}
use Rattle.world_stacks.specs.Views.{PileView}
use Rattle.world_stacks.specs.Piles.{PileTyped}
use Rattle.world_stacks.specs.Running.{RunsAt}
use Rattle.value_parts.specs.declared.to_pass.Passing.{Passing}
use Rattle.machine_runs.specs.Moving.{TypedOf, passing_of, RunMoves}

-- the acting task, where it is known
pub typed_at : (s : Store) (piles : List PileView) (o : Option ℕ) (t : ℕ) → TypedOf s piles o → o ≡ Some t → PileTyped s (slice_get piles t)
typed_at s piles o t h e = subst (λ (x : Option ℕ). TypedOf s piles x) e h

pub moves_at : (o : Option ℕ) (t : ℕ) (piles : List PileView) (h : Held) (result : Result Passing Stop) (new : Parts) (later : List PileView) → o ≡ Some t
    → RunMoves (Some t) piles h result new later → RunMoves o piles h result new later
moves_at o t piles h result new later e m = subst (λ (x : Option ℕ). RunMoves x piles h result new later) (sym e) m

pub moves_none : (o : Option ℕ) (piles : List PileView) (h : Held) (new : Parts) (later : List PileView) → o ≡ None → RunMoves o piles h (Err stop.Stuck) new later
moves_none o piles h new later e =
    let r : Result Passing Stop = Err stop.Stuck in subst (λ (x : Option ℕ). RunMoves x piles h r new later) (sym e) refl

-- What comes of a run.
pub ran : (t : ℕ) (piles : List PileView) (h : Held) (ended : Result (Option (List ℕ)) Stop) (result : Result Passing Stop) (new : Parts) (later : List PileView)
    → RunsAt (slice_get piles t) t piles h ended new later → result ≡ passing_of ended → RunMoves (Some t) piles h result new later
ran t piles h ended result new later r e = (ended, r, e)
