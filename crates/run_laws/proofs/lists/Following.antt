-- What follows a part of a step: lists of tasks stay as they follow from the tasks.
use Rattle.std.proofs.Common.{ℕ, List}
use Rattle.comp_graph.specs.declared.graph.FuncRef.{FuncRef}
use Rattle.world_parts.specs.declared.parts.Flow.{Flow}
use Rattle.world_parts.specs.declared.parts.Flow.TheVariants as flow
use Rattle.world_parts.specs.declared.parts.Rest.TheVariants as rest
use Rattle.world_parts.specs.Held.{Held, Gives, after, given}
use Rattle.world_parts.specs.Feed.{acting, at_rest}
use Rattle.world_parts.specs.Views.{Views}
use Rattle.world_stacks.specs.Views.{PileView}
use Rattle.world_stacks.specs.Piles.{gone_on, stacked, at_pile}
use Rattle.world_stacks.specs.Starting.{call_of}
use Rattle.world_stacks.specs.Moving.{started_on}
use Rattle.value_parts.specs.declared.to_pass.Passing.TheVariants as passing
use Rattle.machine_runs.specs.Following.{heard, answered_now, started_now, followed}
use Rattle.machine_runs.specs.Following as following
use Rattle.run_laws.proofs.lists.Feed.{acting_lists}
use Rattle.run_laws.proofs.lists.Heard.{heard_lists}
use Rattle.run_laws.proofs.lists.Same.{ListsBy, lists_after, lists_given, lists_same}

answered_now_lists : (words : List ℕ) (piles : List PileView) (h : Held) → ListsBy h (answered_now words piles h)
answered_now_lists words piles h =
    lists_after h (acting h) (λ t k. given (at_pile (gone_on k.store words) t piles) (λ r. Gives (passing.Nothing, r.1) k)) (acting_lists h)
    (λ t k. lists_given k (at_pile (gone_on k.store words) t piles) (λ r. Gives (passing.Nothing, r.1) k) (λ r is. lists_same k))

started_on_lists : (t : ℕ) (func : FuncRef) (words : List ℕ) (piles : List PileView) (h : Held) → ListsBy h (started_on t func words piles h)
started_on_lists t func words piles h =
    lists_given h (call_of h.store func words) (λ k. given (at_pile (stacked k) t piles) (λ r. Gives r (at_rest rest.Runs h)))
    (λ k begins. lists_given h (at_pile (stacked k) t piles) (λ r. Gives r (at_rest rest.Runs h)) (λ r is s l. l))

started_now_lists : (func : FuncRef) (words : List ℕ) (piles : List PileView) (h : Held) → ListsBy h (started_now func words piles h)
started_now_lists func words piles h =
    lists_after h (acting h) (λ t k. after (started_on t func words piles k) (λ r l. Gives (passing.Nothing, r.1) l)) (acting_lists h)
    (λ t k. lists_after k (started_on t func words piles k) (λ r l. Gives (passing.Nothing, r.1) l) (started_on_lists t func words piles k) (λ r l. lists_same l))

stacked_now_lists : (x : Flow) (piles : List PileView) (h : Held) → ListsBy h (following.stacked x piles h)
stacked_now_lists (flow.Now words) piles h = answered_now_lists words piles h
stacked_now_lists flow.Rests piles h = lists_same h
stacked_now_lists (flow.Starts func words) piles h = started_now_lists func words piles h
stacked_now_lists flow.Enters piles h = lists_same h
stacked_now_lists flow.Returns piles h = lists_same h
stacked_now_lists (flow.Copies copying) piles h = lists_same h
stacked_now_lists (flow.Delivers r set) piles h = tt
stacked_now_lists (flow.Polls r set) piles h = tt
stacked_now_lists (flow.HearsNone r) piles h = tt
stacked_now_lists (flow.HearsCancel r) piles h = tt

pub followed_lists : (g : Views) (x : Flow) (piles : List PileView) (h : Held) → ListsBy h (followed g x piles h)
unfolding followed
followed_lists g x piles h =
    lists_after h (heard g x h) (λ e k. following.stacked e piles k) (heard_lists g x h) (λ e k. stacked_now_lists e piles k)
