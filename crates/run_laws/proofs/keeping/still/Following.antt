-- What follows a part of a step: memories, core instances and ends stay as they are kept.
use Rattle.std.proofs.Common.{ℕ, List, refl}
use Rattle.comp_graph.specs.declared.graph.FuncRef.{FuncRef}
use Rattle.world_parts.specs.declared.parts.Flow.{Flow}
use Rattle.world_parts.specs.declared.parts.Flow.TheVariants as flow
use Rattle.world_parts.specs.declared.parts.Rest.TheVariants as rest
use Rattle.world_parts.specs.Held.{Held, Gives, after, given}
use Rattle.world_parts.specs.Feed.{acting, at_rest}
use Rattle.world_parts.specs.Views.{Views}
use Rattle.world_stacks.specs.Views.{PileView}
use Rattle.world_stacks.specs.Piles.{gone_on, stacked, at_pile}
use Rattle.world_stacks.specs.Starting.{call_of}
use Rattle.world_stacks.specs.Moving.{started_on}
use Rattle.value_parts.specs.declared.to_pass.Passing.TheVariants as passing
use Rattle.machine_runs.specs.Following.{heard, answered_now, started_now, followed}
use Rattle.machine_runs.specs.Following as following
use Rattle.run_laws.proofs.keeping.still.Feed.{acting_still}
use Rattle.run_laws.proofs.keeping.still.Heard.{heard_still}
use Rattle.run_laws.proofs.keeping.still.Still.{Kinds, still_all, StillBy, still_after, still_given, still_same}

answered_now_still : (W : Kinds) → (words : List ℕ) (piles : List PileView) (h : Held) → StillBy W h (answered_now words piles h)
answered_now_still W words piles h =
    still_after W h (acting h) (λ t k. given (at_pile (gone_on k.store words) t piles) (λ r. Gives (passing.Nothing, r.1) k)) (acting_still W h)
    (λ t k. still_given W k (at_pile (gone_on k.store words) t piles) (λ r. Gives (passing.Nothing, r.1) k) (λ r is. still_same W k))

started_on_still : (W : Kinds) → (t : ℕ) (func : FuncRef) (words : List ℕ) (piles : List PileView) (h : Held) → StillBy W h (started_on t func words piles h)
started_on_still W t func words piles h =
    still_given W h (call_of h.store func words) (λ k. given (at_pile (stacked k) t piles) (λ r. Gives r (at_rest rest.Runs h)))
    (λ k begins. still_given W h (at_pile (stacked k) t piles) (λ r. Gives r (at_rest rest.Runs h)) (λ r is. still_all W h (at_rest rest.Runs h) refl refl refl refl refl))

started_now_still : (W : Kinds) → (func : FuncRef) (words : List ℕ) (piles : List PileView) (h : Held) → StillBy W h (started_now func words piles h)
started_now_still W func words piles h =
    still_after W h (acting h) (λ t k. after (started_on t func words piles k) (λ r l. Gives (passing.Nothing, r.1) l)) (acting_still W h)
    (λ t k. still_after W k (started_on t func words piles k) (λ r l. Gives (passing.Nothing, r.1) l) (started_on_still W t func words piles k) (λ r l. still_same W l))

stacked_now_still : (W : Kinds) → (x : Flow) (piles : List PileView) (h : Held) → StillBy W h (following.stacked x piles h)
stacked_now_still W (flow.Now words) piles h = answered_now_still W words piles h
stacked_now_still W flow.Rests piles h = still_same W h
stacked_now_still W (flow.Starts func words) piles h = started_now_still W func words piles h
stacked_now_still W flow.Enters piles h = still_same W h
stacked_now_still W flow.Returns piles h = still_same W h
stacked_now_still W (flow.Copies copying) piles h = still_same W h
stacked_now_still W (flow.Delivers r set) piles h = tt
stacked_now_still W (flow.Polls r set) piles h = tt
stacked_now_still W (flow.HearsNone r) piles h = tt
stacked_now_still W (flow.HearsCancel r) piles h = tt

pub followed_still : (W : Kinds) → (g : Views) (x : Flow) (piles : List PileView) (h : Held) → StillBy W h (followed g x piles h)
unfolding followed
followed_still W g x piles h =
    still_after W h (heard g x h) (λ e k. following.stacked e piles k) (heard_still W g x h) (λ e k. stacked_now_still W e piles k)
