-- Moves of the acting task, and events that come to it, keep all marks.
use Rattle.std.specs.Prelude.{◌-◌, length}
use Rattle.std.specs.List.{slice_get}
use Rattle.world_parts.specs.declared.parts.Flow.TheVariants as flow
use Rattle.world_parts.specs.declared.parts.Rest.TheVariants as rest
use Rattle.world_parts.specs.Held.{Gives, after}
use Rattle.world_parts.specs.Events.{delivers, polls, received_none, received_cancel}
use Rattle.world_parts.specs.Slots.{instance_of}
use Rattle.world_parts.specs.Turning.{goes}
use Rattle.replies.specs.Seen.{seen}
use Rattle.run_laws.specs.keeping.Acting.{WokenKeepsMarks, HeardKeepsMarks}
use Rattle.run_laws.proofs.keeping.Every.{every_same, every_after, look_every}
use Rattle.run_laws.proofs.keeping.Going.{arrives_marks, leaves_marks}
use Rattle.run_laws.proofs.keeping.Script.{goes_on_marks}
use Rattle.run_laws.proofs.keeping.Resuming.{resuming_marks}
use Rattle.run_laws.proofs.keeping.Back.{delivers_marks, polls_marks, none_marks, cancel_marks}
use Rattle.run_laws.proofs.keeping.Cancels.{control_back_marks}
use Rattle.run_laws.proofs.keeping.Called.{calls_marks}

pub woken_keeps : WokenKeepsMarks
woken_keeps g types (rest.Instantiates number) h well = tt
woken_keeps g types rest.Free h well = tt
woken_keeps g types rest.Arrives h well = arrives_marks h well
woken_keeps g types rest.Goes h well = every_after h (goes h) (λ done k. Gives flow.Rests k) (goes_on_marks h) (λ done k. every_same k)
woken_keeps g types rest.Resumes h well = resuming_marks h well.0 (λ t x why flag acts is far. well.1 t x acts is why flag far)
woken_keeps g types rest.Back h well = control_back_marks (seen g) h well
woken_keeps g types rest.Runs h well = tt
woken_keeps g types (rest.Calls number) h well = calls_marks g types number h well
woken_keeps g types rest.Leaves h well = leaves_marks h well.0 well.1

pub heard_keeps : HeardKeepsMarks
heard_keeps g (flow.Now words) h well own = every_same h
heard_keeps g flow.Rests h well own = every_same h
heard_keeps g (flow.Starts func words) h well own = every_same h
heard_keeps g flow.Enters h well own = every_same h
heard_keeps g flow.Returns h well own = every_same h
heard_keeps g (flow.Copies copying) h well own = every_same h
heard_keeps g (flow.Delivers r set) h well own =
    look_every h (slice_get h.chain (length h.chain - 1)) (λ t. Gives t h) (λ t k. after (instance_of t k) (λ at l. delivers g t at r set l))
    (λ t acts.
    look_every h (slice_get h.tasks t) (λ x. Gives x.instance h) (λ at l. delivers g t at r set l) (λ x is. delivers_marks g t x.instance r set h (own t x acts is) well.gave))
heard_keeps g (flow.Polls r set) h well own =
    look_every h (slice_get h.chain (length h.chain - 1)) (λ t. Gives t h) (λ t k. after (instance_of t k) (λ at l. polls g t at r set l))
    (λ t acts.
    look_every h (slice_get h.tasks t) (λ x. Gives x.instance h) (λ at l. polls g t at r set l) (λ x is. polls_marks g t x.instance r set h (own t x acts is) well.gave))
heard_keeps g (flow.HearsNone r) h well own =
    look_every h (slice_get h.chain (length h.chain - 1)) (λ t. Gives t h) (λ t k. received_none g t r k) (λ t acts. none_marks g t r h)
heard_keeps g (flow.HearsCancel r) h well own =
    look_every h (slice_get h.chain (length h.chain - 1)) (λ t. Gives t h) (λ t k. received_cancel g t r k) (λ t acts. cancel_marks g t r h well.asked)
