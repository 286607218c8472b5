-- Behind the end of a core function that is lifted without `async` the task is to exit.
use Rattle.std.proofs.Common.{◌≡◌, ℕ, List, ap, ◌∙◌, Option, Some, None, Result, Ok, Err}
use Rattle.wasm_store.specs.Stack.{Stack}
use Rattle.wasm_execution.specs.declared.running.Outcome.{Outcome}
use Rattle.wasm_execution.specs.declared.running.Outcome.TheVariants as outcome
use Rattle.comp_graph.specs.declared.graph.FuncRef.{FuncRef}
use Rattle.comp_graph.specs.declared.graph.Lift.{Lift}
use Rattle.comp_graph.specs.Graph.{Graph}
use Rattle.programs.specs.declared.program.Program.{Program}
use Rattle.world_parts.specs.declared.parts.Flow.{Flow}
use Rattle.world_parts.specs.declared.parts.Flow.TheVariants as flow
use Rattle.world_parts.specs.declared.parts.Parts.{Parts}
use Rattle.world_parts.specs.declared.parts.Rest.TheVariants as rest
use Rattle.world_parts.specs.declared.parts.Stop.{Stop}
use Rattle.world_parts.specs.declared.parts.Stop.TheVariants as stop
use Rattle.world_parts.specs.Held as kept
use Rattle.world_parts.specs.Held.{Held, held, Done, Gives, Traps, Spent}
use Rattle.world_stacks.specs.PostReturns.{EndsWith, BeginsNested, PostReturns, instance_at}
use Rattle.world_stacks.specs.Starting.{call_of}
use Rattle.value_parts.specs.Coming.{Behind, Then}
use Rattle.value_moves.specs.Resolving.{Settles, PostReturnsTo, Ends}
use Rattle.value_moves.specs.Passing.{lift_at, SyncEnds}

abbrev kept_in : {A : Type 0} → Held → Done A → Held
kept_in h (Gives x k) = k
kept_in h (Traps why k) = h
kept_in h (Spent k) = h
kept_in h kept.Stuck = h

same_kept : {A : Type 0} (x y : A) (h k : Held) → (let d : Done A = Gives x h in d) ≡ Gives y k → h ≡ k
same_kept {A} x y h k e = ap (λ (d : Done A). kept_in h d) e

module _ (g : Graph) (t : ℕ) (x : Unit {0}) (new : Parts) where
  by_outcome : (at : ℕ) (o : Outcome) (h : Held) → EndsWith g t at o h (Ok x) new → (held new).rest ≡ rest.Leaves
  by_outcome at (outcome.Done words) h ends = ap (λ (k : Held). k.rest) ends.1
  by_outcome at (outcome.Calls number words w) h ends = absurd ends
  by_outcome at (outcome.Trapped why) h ends = absurd (let w : ⊥ = (let e = ends.0 in cc) in w)
  by_outcome at (outcome.NoFuel later) h ends = absurd (let w : ⊥ = (let e = ends.0 in cc) in w)
  by_outcome at outcome.Memory h ends = absurd (let w : ⊥ = cc in w)

  begun_leaves : (h : Held) (o : Option ℕ) (call : Option Stack) → BeginsNested g t o call h (Ok x) new → (held new).rest ≡ rest.Leaves
  begun_leaves h None call runs = absurd runs
  begun_leaves h (Some at) None runs = absurd runs
  begun_leaves h (Some at) (Some k) runs = by_outcome at runs.2.0 runs.2.1 runs.2.3

  post_leaves : (post : Option FuncRef) (words : List ℕ) (h : Held) → PostReturns g t post words h (Ok x) new → (held new).rest ≡ rest.Leaves
  post_leaves None words h runs = ap (λ (k : Held). k.rest) runs.1
  post_leaves (Some func) words h runs = begun_leaves h (instance_at t h) (call_of h.store func words) runs

module _ (p : Program) (t : ℕ) (words : List ℕ) where
  by_result : (post : Option FuncRef) (h k : Held) (done : Unit {0}) (result : Result (Unit {0}) Stop) (new : Parts) → PostReturns p.graph.now t post words h result new → Settles (Gives done k) result new
      → k.rest ≡ rest.Leaves
  by_result post h k done (Ok x) new runs settles = ap (λ (j : Held). j.rest) (same_kept done x k (held new) settles) ∙ post_leaves p.graph.now t x new post words h runs
  by_result post h k done (Err (stop.Trap why)) new runs settles = absurd (let w : ⊥ = cc in w)
  by_result post h k done (Err stop.NoFuel) new runs settles = absurd (let w : ⊥ = cc in w)
  by_result post h k done (Err stop.Stuck) new runs settles = absurd (let w : ⊥ = cc in w)
  by_result post h k done (Err stop.Memory) new runs settles = absurd settles

  by_mid : (post : Option FuncRef) (k : Held) (done : Unit {0}) (mid : Done (Unit {0})) → Behind mid (λ (x : Unit {0}) h e. PostReturnsTo p t post words h e) (Gives done k) → k.rest ≡ rest.Leaves
  by_mid post k done (Gives x h) runs = by_result post h k done runs.0 runs.1 runs.2 runs.3
  by_mid post k done (Traps why h) runs = absurd (let w : ⊥ = cc in w)
  by_mid post k done (Spent h) runs = absurd (let w : ⊥ = cc in w)
  by_mid post k done kept.Stuck runs = absurd (let w : ⊥ = cc in w)

  by_first : (post : Option FuncRef) (h k : Held) (what : Flow) (first : Done (Unit {0})) → Ends p t post words h first → Behind first (λ (x : Unit {0}) l e. e ≡ Gives flow.Rests l) (Gives what k)
      → k.rest ≡ rest.Leaves
  by_first post h k what (Gives done m) ends same = ap (λ (j : Held). j.rest) (same_kept what flow.Rests k m same) ∙ by_mid post m done ends.0 ends.2
  by_first post h k what (Traps why m) ends same = absurd (let w : ⊥ = cc in w)
  by_first post h k what (Spent m) ends same = absurd (let w : ⊥ = cc in w)
  by_first post h k what kept.Stuck ends same = absurd (let w : ⊥ = cc in w)

  by_lift : (k : Held) (what : Flow) (q : Done Lift)
      → Behind q (λ lift h e. Then (Ends p t lift.options.post_return words h) (λ (x : Unit {0}) l f. f ≡ Gives flow.Rests l) e) (Gives what k) → k.rest ≡ rest.Leaves
  by_lift k what (Gives lift h) ends = by_first lift.options.post_return h k what ends.0 ends.1 ends.2
  by_lift k what (Traps why h) ends = absurd (let w : ⊥ = cc in w)
  by_lift k what (Spent h) ends = absurd (let w : ⊥ = cc in w)
  by_lift k what kept.Stuck ends = absurd (let w : ⊥ = cc in w)

  pub sync_rests : (h k : Held) (what : Flow) → SyncEnds p t words h (Gives what k) → k.rest ≡ rest.Leaves
  sync_rests h k what ends = by_lift k what (lift_at p t h) ends
