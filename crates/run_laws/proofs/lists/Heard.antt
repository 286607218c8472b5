-- Events that are heard: lists of tasks stay as they follow from the tasks.
use Rattle.world_parts.specs.Views.{Views}
use Rattle.world_parts.specs.declared.parts.Flow.{Flow}
use Rattle.world_parts.specs.declared.parts.Flow.TheVariants as flow
use Rattle.world_parts.specs.Held.{Held, after}
use Rattle.world_parts.specs.Feed.{acting}
use Rattle.world_parts.specs.Slots.{instance_of}
use Rattle.world_parts.specs.Events.{delivers, polls, received_none, received_cancel}
use Rattle.machine_runs.specs.Following.{heard}
use Rattle.run_laws.proofs.lists.Events.{delivers_lists, polls_lists, received_cancel_lists, received_none_lists}
use Rattle.run_laws.proofs.lists.Feed.{acting_lists}
use Rattle.run_laws.proofs.lists.Slots.{instance_of_lists}
use Rattle.run_laws.proofs.lists.Same.{ListsBy, lists_after, lists_same}

pub heard_lists : (g : Views) (x : Flow) (h : Held) → ListsBy h (heard g x h)
heard_lists g (flow.Now words) h =
    lists_same h
heard_lists g flow.Rests h =
    lists_same h
heard_lists g (flow.Starts func words) h =
    lists_same h
heard_lists g flow.Enters h =
    lists_same h
heard_lists g flow.Returns h =
    lists_same h
heard_lists g (flow.Copies copying) h =
    lists_same h
heard_lists g (flow.Delivers r set) h =
    lists_after h (acting h) (λ t k. after (instance_of t k) (λ at l. delivers g t at r set l)) (acting_lists h) (λ t k. lists_after k (instance_of t k) (λ at l. delivers g t at r set l) (instance_of_lists t k) (λ at l. delivers_lists g t at r set l))
heard_lists g (flow.Polls r set) h =
    lists_after h (acting h) (λ t k. after (instance_of t k) (λ at l. polls g t at r set l)) (acting_lists h) (λ t k. lists_after k (instance_of t k) (λ at l. polls g t at r set l) (instance_of_lists t k) (λ at l. polls_lists g t at r set l))
heard_lists g (flow.HearsNone r) h =
    lists_after h (acting h) (λ t k. received_none g t r k) (acting_lists h) (λ t k. received_none_lists g t r k)
heard_lists g (flow.HearsCancel r) h =
    lists_after h (acting h) (λ t k. received_cancel g t r k) (acting_lists h) (λ t k. received_cancel_lists g t r k)
