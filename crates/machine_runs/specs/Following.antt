-- What follows a part of a step (Component Model, Concurrency.md, "Summary"; CanonicalABI.md, `canon lift`, `canon resource.drop`): an event
-- comes to the acting task, its stack goes on, or a further one begins; or values are to be passed.
use Rattle.std.specs.Prelude.{ℕ, nat_lt, if◌then◌else◌, List, [], ◌∷◌, ◌++◌, length}
use Rattle.comp_graph.specs.declared.graph.FuncRef.{FuncRef}
use Rattle.world_parts.specs.Views.{Views}
use Rattle.world_parts.specs.declared.parts.Flow.{Flow}
use Rattle.world_parts.specs.declared.parts.Flow.TheVariants as flow
use Rattle.world_parts.specs.Held.{Held, Done, Gives, Stuck, after, given}
use Rattle.world_parts.specs.Feed.{acting}
use Rattle.world_parts.specs.Slots.{instance_of}
use Rattle.world_parts.specs.Events.{delivers, polls, received_none, received_cancel}
use Rattle.world_stacks.specs.Views.{PileView}
use Rattle.world_stacks.specs.Piles.{new_pile, gone_on, at_pile}
use Rattle.world_stacks.specs.Moving.{started_on}
use Rattle.value_parts.specs.declared.to_pass.Passing.{Passing}
use Rattle.value_parts.specs.declared.to_pass.Passing.TheVariants as passing

-- An event comes to the acting task, or none, where one is to come.
abbrev pub heard : Views → Flow → Held → Done Flow
heard g (flow.Now words) h = Gives (flow.Now words) h
heard g flow.Rests h = Gives flow.Rests h
heard g (flow.Starts func words) h = Gives (flow.Starts func words) h
heard g flow.Enters h = Gives flow.Enters h
heard g flow.Returns h = Gives flow.Returns h
heard g (flow.Copies copying) h = Gives (flow.Copies copying) h
heard g (flow.Delivers r set) h = after (acting h) (λ t k. after (instance_of t k) (λ at l. delivers g t at r set l))
heard g (flow.Polls r set) h = after (acting h) (λ t k. after (instance_of t k) (λ at l. polls g t at r set l))
heard g (flow.HearsNone r) h = after (acting h) (λ t k. received_none g t r k)
heard g (flow.HearsCancel r) h = after (acting h) (λ t k. received_cancel g t r k)

-- A task that was made has stacks, of which none is there.
abbrev pub with_piles : ℕ → List PileView → List PileView
with_piles count piles = if nat_lt (length piles) count then piles ++ new_pile ∷ [] else piles

-- The acting task's stack goes on with the words of an answer, or a further one begins.
abbrev pub answered_now : List ℕ → List PileView → Held → Done (Passing × List PileView)
answered_now words piles h =
    after (acting h) (λ t k. given (at_pile (gone_on k.store words) t piles) (λ r. Gives (passing.Nothing, r.1) k))

abbrev pub started_now : FuncRef → List ℕ → List PileView → Held → Done (Passing × List PileView)
started_now func words piles h =
    after (acting h) (λ t k. after (started_on t func words piles k) (λ r l. Gives (passing.Nothing, r.1) l))

-- What this makes of stacks, and what is to be passed then.
abbrev pub stacked : Flow → List PileView → Held → Done (Passing × List PileView)
stacked (flow.Now words) piles h = answered_now words piles h
stacked flow.Rests piles h = Gives (passing.Nothing, with_piles (length h.tasks) piles) h
stacked (flow.Starts func words) piles h = started_now func words piles h
stacked flow.Enters piles h = Gives (passing.Arguments, piles) h
stacked flow.Returns piles h = Gives (passing.Returned, piles) h
stacked (flow.Copies copying) piles h = Gives (passing.Elements copying, piles) h
stacked (flow.Delivers r set) piles h = Stuck
stacked (flow.Polls r set) piles h = Stuck
stacked (flow.HearsNone r) piles h = Stuck
stacked (flow.HearsCancel r) piles h = Stuck

unfoldable pub followed : Views → Flow → List PileView → Held → Done (Passing × List PileView)
followed g f piles h = after (heard g f h) (λ e k. stacked e piles k)
