-- Events that are heard keep the store typed, and no handle is lent more often.
use Rattle.std.proofs.Common.{◌≡◌, refl}
use Rattle.std.specs.Prelude.{ℕ, nat_lt, if◌then◌else◌, List, [], ◌∷◌, ◌++◌, length}
use Rattle.comp_graph.specs.declared.graph.FuncRef.{FuncRef}
use Rattle.world_parts.specs.Views.{Views}
use Rattle.world_parts.specs.declared.parts.Flow.{Flow}
use Rattle.world_parts.specs.declared.parts.Flow.TheVariants as flow
use Rattle.world_parts.specs.Held.{Held, Done, Gives, Stuck, after, given}
use Rattle.world_parts.specs.Feed.{acting}
use Rattle.world_parts.specs.Slots.{instance_of}
use Rattle.world_parts.specs.Events.{delivers, polls, received_none, received_cancel}
use Rattle.world_stacks.specs.Views.{PileView}
use Rattle.world_stacks.specs.Piles.{new_pile, gone_on, at_pile}
use Rattle.world_stacks.specs.Moving.{started_on}
use Rattle.value_parts.specs.declared.to_pass.Passing.{Passing}
use Rattle.value_parts.specs.declared.to_pass.Passing.TheVariants as passing
use Rattle.machine_runs.specs.Following.{answered_now, followed, heard, stacked, started_now, with_piles}
use Rattle.value_parts.proofs.fit.Keeps.{KeepsBy, keeps_after, keeps_given, keeps_if, keeps_same, keeps_all, keeps_from}
use Rattle.value_parts.proofs.fit.Events.{delivers_keeps, polls_keeps, received_cancel_keeps, received_none_keeps}
use Rattle.value_parts.proofs.fit.Feed.{acting_keeps}
use Rattle.value_parts.proofs.fit.Slots.{instance_of_keeps}

pub heard_keeps : (g : Views) (x : Flow) (h : Held) → KeepsBy h (heard g x h)
heard_keeps g (flow.Now words) h =
    keeps_same h
heard_keeps g flow.Rests h =
    keeps_same h
heard_keeps g (flow.Starts func words) h =
    keeps_same h
heard_keeps g flow.Enters h =
    keeps_same h
heard_keeps g flow.Returns h =
    keeps_same h
heard_keeps g (flow.Copies copying) h =
    keeps_same h
heard_keeps g (flow.Delivers r set) h =
    keeps_after h (acting h) (λ t k. after (instance_of t k) (λ at l. delivers g t at r set l)) (acting_keeps h) (λ t k. keeps_after k (instance_of t k) (λ at l. delivers g t at r set l) (instance_of_keeps t k) (λ at l. delivers_keeps g t at r set l))
heard_keeps g (flow.Polls r set) h =
    keeps_after h (acting h) (λ t k. after (instance_of t k) (λ at l. polls g t at r set l)) (acting_keeps h) (λ t k. keeps_after k (instance_of t k) (λ at l. polls g t at r set l) (instance_of_keeps t k) (λ at l. polls_keeps g t at r set l))
heard_keeps g (flow.HearsNone r) h =
    keeps_after h (acting h) (λ t k. received_none g t r k) (acting_keeps h) (λ t k. received_none_keeps g t r k)
heard_keeps g (flow.HearsCancel r) h =
    keeps_after h (acting h) (λ t k. received_cancel g t r k) (acting_keeps h) (λ t k. received_cancel_keeps g t r k)
