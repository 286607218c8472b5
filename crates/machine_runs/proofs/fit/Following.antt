-- What follows a part of a step keeps stacks typed: one goes on with words, a further one begins, and a task that was made has none.
use Rattle.std.proofs.Common.{◌≡◌, ℕ, nat_lt, Bool, true, false, if◌then◌else◌, List, [], ◌∷◌, ◌++◌, length, refl}
use Rattle.std.specs.List.{slice_get}
use Rattle.wasm_store.specs.Store.{Store}
use Rattle.wasm_store.specs.Typed.{StoreTyped}
use Rattle.comp_graph.specs.declared.graph.FuncRef.{FuncRef}
use Rattle.world_parts.specs.declared.parts.Flow.{Flow}
use Rattle.world_parts.specs.declared.parts.Flow.TheVariants as flow
use Rattle.world_parts.specs.declared.parts.Rest.TheVariants as rest
use Rattle.world_parts.specs.Held.{Held, Done, Gives, after, given}
use Rattle.world_parts.specs.Feed.{acting, at_rest}
use Rattle.world_parts.specs.Views.{Views}
use Rattle.world_stacks.specs.Views.{PileView}
use Rattle.world_stacks.specs.Piles.{new_pile, gone_on, stacked, at_pile}
use Rattle.world_stacks.specs.Starting.{call_of}
use Rattle.world_stacks.specs.Moving.{started_on}
use Rattle.world_stacks.specs.Typing.{PilesFit}
use Rattle.world_stacks.proofs.Fitting.{added_fits, at_pile_fits, gone_on_fits, stacked_fits, call_of_fits}
use Rattle.value_parts.specs.declared.to_pass.Passing.{Passing}
use Rattle.value_parts.specs.declared.to_pass.Passing.TheVariants as passing
use Rattle.value_parts.proofs.fit.Keeps.{keeps_all}
use Rattle.value_parts.proofs.fit.Feed.{acting_keeps}
use Rattle.machine_runs.specs.Following.{heard, with_piles, answered_now, started_now, followed}
use Rattle.machine_runs.specs.Following as following
use Rattle.machine_runs.proofs.fit.Stacks.{FitsBy, fits_after, fits_then, fits_given, fits_piles, fits_same}
use Rattle.machine_runs.proofs.fit.Heard.{heard_keeps}

if_fits : (s : Store) (b : Bool) (some others : List PileView) → PilesFit s some → PilesFit s others → PilesFit s (if b then some else others)
if_fits s true some others p q = p
if_fits s false some others p q = q

pub with_piles_fits : (s : Store) (count : ℕ) (piles : List PileView) → PilesFit s piles → PilesFit s (with_piles count piles)
with_piles_fits s count piles h = if_fits s (nat_lt (length piles) count) (piles ++ new_pile ∷ []) piles (added_fits s piles h) h

pub answered_now_fits : (words : List ℕ) (piles : List PileView) (h : Held) → FitsBy h piles (answered_now words piles h)
answered_now_fits words piles h =
    fits_after h piles (acting h) (λ t k. given (at_pile (gone_on k.store words) t piles) (λ r. Gives (passing.Nothing, r.1) k)) (acting_keeps h)
    (λ t k.
    fits_given k piles (at_pile (gone_on k.store words) t piles) (λ r. Gives (passing.Nothing, r.1) k)
    (λ r is.
    fits_piles k k piles r.1 passing.Nothing refl refl
    (λ typed fit. at_pile_fits k.store (gone_on k.store words) t piles r (λ p q e f. gone_on_fits k.store words p q e f) is fit)))

pub started_on_fits : (t : ℕ) (func : FuncRef) (words : List ℕ) (piles : List PileView) (h : Held) → FitsBy h piles (started_on t func words piles h)
started_on_fits t func words piles h =
    fits_given h piles (call_of h.store func words) (λ k. given (at_pile (stacked k) t piles) (λ r. Gives r (at_rest rest.Runs h)))
    (λ k begins.
    fits_given h piles (at_pile (stacked k) t piles) (λ r. Gives r (at_rest rest.Runs h))
    (λ r is. (
      keeps_all h (at_rest rest.Runs h) refl refl,
      λ typed fit. at_pile_fits h.store (stacked k) t piles r (λ p q e f. stacked_fits h.store k p q (call_of_fits h.store func words k typed begins) e f) is fit,
    )))

pub started_now_fits : (func : FuncRef) (words : List ℕ) (piles : List PileView) (h : Held) → FitsBy h piles (started_now func words piles h)
started_now_fits func words piles h =
    fits_after h piles (acting h) (λ t k. after (started_on t func words piles k) (λ r l. Gives (passing.Nothing, r.1) l)) (acting_keeps h)
    (λ t k.
    fits_then k piles (started_on t func words piles k) (λ r l. Gives (passing.Nothing, r.1) l) (started_on_fits t func words piles k)
    (λ r l. fits_same l r.1 passing.Nothing))

pub stacked_now_fits : (x : Flow) (piles : List PileView) (h : Held) → FitsBy h piles (following.stacked x piles h)
stacked_now_fits (flow.Now words) piles h = answered_now_fits words piles h
stacked_now_fits flow.Rests piles h =
    fits_piles h h piles (with_piles (length h.tasks) piles) passing.Nothing refl refl (λ typed fit. with_piles_fits h.store (length h.tasks) piles fit)
stacked_now_fits (flow.Starts func words) piles h = started_now_fits func words piles h
stacked_now_fits flow.Enters piles h = fits_same h piles passing.Arguments
stacked_now_fits flow.Returns piles h = fits_same h piles passing.Returned
stacked_now_fits (flow.Copies copying) piles h = fits_same h piles (passing.Elements copying)
stacked_now_fits (flow.Delivers r set) piles h = tt
stacked_now_fits (flow.Polls r set) piles h = tt
stacked_now_fits (flow.HearsNone r) piles h = tt
stacked_now_fits (flow.HearsCancel r) piles h = tt

pub followed_fits : (g : Views) (x : Flow) (piles : List PileView) (h : Held) → FitsBy h piles (followed g x piles h)
unfolding followed
followed_fits g x piles h =
    fits_after h piles (heard g x h) (λ e k. following.stacked e piles k) (heard_keeps g x h) (λ e k. stacked_now_fits e piles k)
