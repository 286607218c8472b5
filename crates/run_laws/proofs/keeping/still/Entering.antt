-- A task that enters keeps memories, core instances and ends as they are kept.
use Rattle.std.proofs.Common.{refl}
use Rattle.std.specs.Prelude.{ℕ, List}
use Rattle.std.specs.List.{slice_get}
use Rattle.task_table.specs.declared.errand.Callee.{Callee}
use Rattle.task_table.specs.Callers.{called_of}
use Rattle.graph_views.specs.Callees.{lift_of}
use Rattle.programs.specs.declared.program.Program.{Program}
use Rattle.world_parts.specs.declared.parts.Flow.TheVariants as flow
use Rattle.world_parts.specs.declared.parts.Rest.TheVariants as rest
use Rattle.world_parts.specs.Held.{Held, Gives, given}
use Rattle.world_parts.specs.Feed.{at_rest}
use Rattle.world_parts.specs.Slots.{callee_of}
use Rattle.world_parts.specs.Going.{enters}
use Rattle.value_moves.specs.Entering.{entered, started_by, words_passed}
use Rattle.run_laws.proofs.keeping.still.Still.{no_kinds, StillBy, still_after, still_given, still_same, still_all}
use Rattle.run_laws.proofs.keeping.still.Going.{enters_still}
use Rattle.run_laws.proofs.keeping.still.Slots.{callee_of_still}

pub words_passed_still : (t : ℕ) (h : Held) → StillBy no_kinds h (words_passed t h)
words_passed_still t h =
    still_given no_kinds h (slice_get h.tasks t) (λ slot. given (called_of slot.caller) (λ called. Gives called.words h)) (λ slot is. still_given no_kinds h (called_of slot.caller) (λ called. Gives called.words h) (λ called is. still_same no_kinds h))

pub entered_still : (t : ℕ) (h : Held) → StillBy no_kinds h (entered t h)
entered_still t h =
    still_after no_kinds h (enters t h) (λ done k. callee_of t k) (enters_still no_kinds t h) (λ done k. callee_of_still no_kinds t k)

pub started_by_still : (p : Program) (callee : Callee) (words : List ℕ) (h : Held) → StillBy no_kinds h (started_by p callee words h)
started_by_still p callee words h =
    still_given no_kinds h (lift_of p.graph.now callee) (λ lift. Gives (flow.Starts lift.core words) (at_rest rest.Runs h)) (λ lift is. still_all no_kinds h (at_rest rest.Runs h) refl refl refl refl refl)
