-- Events that are heard keep memories, core instances and ends as they are kept.
use Rattle.world_parts.specs.Views.{Views}
use Rattle.world_parts.specs.declared.parts.Flow.{Flow}
use Rattle.world_parts.specs.declared.parts.Flow.TheVariants as flow
use Rattle.world_parts.specs.Held.{Held, after}
use Rattle.world_parts.specs.Feed.{acting}
use Rattle.world_parts.specs.Slots.{instance_of}
use Rattle.world_parts.specs.Events.{delivers, polls, received_none, received_cancel}
use Rattle.machine_runs.specs.Following.{heard}
use Rattle.run_laws.proofs.keeping.still.Still.{Kinds, StillBy, still_after, still_same}
use Rattle.run_laws.proofs.keeping.still.Events.{delivers_still, polls_still, received_cancel_still, received_none_still}
use Rattle.run_laws.proofs.keeping.still.Feed.{acting_still}
use Rattle.run_laws.proofs.keeping.still.Slots.{instance_of_still}

pub heard_still : (W : Kinds) → (g : Views) (x : Flow) (h : Held) → StillBy W h (heard g x h)
heard_still W g (flow.Now words) h =
    still_same W h
heard_still W g flow.Rests h =
    still_same W h
heard_still W g (flow.Starts func words) h =
    still_same W h
heard_still W g flow.Enters h =
    still_same W h
heard_still W g flow.Returns h =
    still_same W h
heard_still W g (flow.Copies copying) h =
    still_same W h
heard_still W g (flow.Delivers r set) h =
    still_after W h (acting h) (λ t k. after (instance_of t k) (λ at l. delivers g t at r set l)) (acting_still W h) (λ t k. still_after W k (instance_of t k) (λ at l. delivers g t at r set l) (instance_of_still W t k) (λ at l. delivers_still W g t at r set l))
heard_still W g (flow.Polls r set) h =
    still_after W h (acting h) (λ t k. after (instance_of t k) (λ at l. polls g t at r set l)) (acting_still W h) (λ t k. still_after W k (instance_of t k) (λ at l. polls g t at r set l) (instance_of_still W t k) (λ at l. polls_still W g t at r set l))
heard_still W g (flow.HearsNone r) h =
    still_after W h (acting h) (λ t k. received_none g t r k) (acting_still W h) (λ t k. received_none_still W g t r k)
heard_still W g (flow.HearsCancel r) h =
    still_after W h (acting h) (λ t k. received_cancel g t r k) (acting_still W h) (λ t k. received_cancel_still W g t r k)
