-- A task that enters leaves the store alone, and no handle is lent more often.
use Rattle.std.proofs.Common.{◌≡◌, refl}
use Rattle.std.specs.Prelude.{◌≡◌, ℕ, List}
use Rattle.std.specs.List.{slice_get}
use Rattle.task_table.specs.declared.errand.Callee.{Callee}
use Rattle.task_table.specs.declared.errand.Callee.TheVariants as callee
use Rattle.task_table.specs.Callers.{called_of}
use Rattle.graph_views.specs.Callees.{lift_of}
use Rattle.programs.specs.declared.program.Program.{Program}
use Rattle.world_parts.specs.declared.parts.Flow.{Flow}
use Rattle.world_parts.specs.declared.parts.Flow.TheVariants as flow
use Rattle.world_parts.specs.declared.parts.Rest.TheVariants as rest
use Rattle.world_parts.specs.Held.{Held, Done, Gives, after, given}
use Rattle.world_parts.specs.Feed.{at_rest}
use Rattle.world_parts.specs.Slots.{callee_of}
use Rattle.world_parts.specs.Going.{enters}
use Rattle.value_parts.specs.Passing.{arguments_lifted}
use Rattle.value_parts.specs.Coming.{Behind, Then}
use Rattle.value_moves.specs.Lowered.{LowersArguments}
use Rattle.value_moves.specs.Entering.{ArgumentsCome, Enters, ValuesCome, entered, started_by, words_passed}
use Rattle.value_parts.proofs.fit.Keeps.{Keeps, KeepsBy, keeps_after, keeps_given, keeps_if, keeps_same, keeps_all, keeps_from}
use Rattle.value_parts.proofs.fit.Going.{enters_keeps}
use Rattle.value_parts.proofs.fit.Slots.{callee_of_keeps}

pub words_passed_keeps : (t : ℕ) (h : Held) → KeepsBy h (words_passed t h)
words_passed_keeps t h =
    keeps_given h (slice_get h.tasks t) (λ slot. given (called_of slot.caller) (λ called. Gives called.words h)) (λ slot is. keeps_given h (called_of slot.caller) (λ called. Gives called.words h) (λ called is. keeps_same h))

pub entered_keeps : (t : ℕ) (h : Held) → KeepsBy h (entered t h)
entered_keeps t h =
    keeps_after h (enters t h) (λ done k. callee_of t k) (enters_keeps t h) (λ done k. callee_of_keeps t k)

pub started_by_keeps : (p : Program) (callee : Callee) (words : List ℕ) (h : Held) → KeepsBy h (started_by p callee words h)
started_by_keeps p callee words h =
    keeps_given h (lift_of p.graph.now callee) (λ lift. Gives (flow.Starts lift.core words) (at_rest rest.Runs h)) (λ lift is. keeps_all h (at_rest rest.Runs h) refl refl)
