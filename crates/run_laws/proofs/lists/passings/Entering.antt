-- A task that enters, to pass its arguments: lists of tasks stay as they follow from the tasks.
use Rattle.std.proofs.Common.{refl}
use Rattle.std.specs.Prelude.{ℕ, List}
use Rattle.std.specs.List.{slice_get}
use Rattle.task_table.specs.declared.errand.Callee.{Callee}
use Rattle.task_table.specs.Callers.{called_of}
use Rattle.graph_views.specs.Callees.{lift_of}
use Rattle.programs.specs.declared.program.Program.{Program}
use Rattle.world_parts.specs.declared.parts.Flow.TheVariants as flow
use Rattle.world_parts.specs.declared.parts.Rest.TheVariants as rest
use Rattle.world_parts.specs.Held.{Held, Gives, given}
use Rattle.world_parts.specs.Feed.{at_rest}
use Rattle.world_parts.specs.Slots.{callee_of}
use Rattle.world_parts.specs.Going.{enters}
use Rattle.value_moves.specs.Entering.{entered, started_by, words_passed}
use Rattle.run_laws.proofs.lists.Entering.{enters_lists}
use Rattle.run_laws.proofs.lists.Slots.{callee_of_lists}
use Rattle.run_laws.proofs.lists.Same.{ListsBy, lists_after, lists_given, lists_same, lists_all}

pub words_passed_lists : (t : ℕ) (h : Held) → ListsBy h (words_passed t h)
words_passed_lists t h =
    lists_given h (slice_get h.tasks t) (λ slot. given (called_of slot.caller) (λ called. Gives called.words h)) (λ slot is. lists_given h (called_of slot.caller) (λ called. Gives called.words h) (λ called is. lists_same h))

pub entered_lists : (t : ℕ) (h : Held) → ListsBy h (entered t h)
entered_lists t h =
    lists_after h (enters t h) (λ done k. callee_of t k) (enters_lists t h) (λ done k. callee_of_lists t k)

pub started_by_lists : (p : Program) (callee : Callee) (words : List ℕ) (h : Held) → ListsBy h (started_by p callee words h)
started_by_lists p callee words h =
    lists_given h (lift_of p.graph.now callee) (λ lift. Gives (flow.Starts lift.core words) (at_rest rest.Runs h)) (λ lift is. lists_all h (at_rest rest.Runs h) refl refl refl refl refl)
