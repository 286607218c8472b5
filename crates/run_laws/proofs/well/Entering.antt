-- A task enters: what is kept well stays so.
use Rattle.std.proofs.Common.{refl}
use Rattle.std.specs.Prelude.{ℕ, List}
use Rattle.std.specs.List.{slice_get}
use Rattle.task_table.specs.declared.errand.Callee.{Callee}
use Rattle.task_table.specs.Callers.{called_of}
use Rattle.graph_views.specs.Callees.{lift_of}
use Rattle.programs.specs.declared.program.Program.{Program}
use Rattle.world_parts.specs.declared.parts.Flow.TheVariants as flow
use Rattle.world_parts.specs.declared.parts.Rest.TheVariants as rest
use Rattle.world_parts.specs.Held.{Held, Gives, given}
use Rattle.world_parts.specs.Feed.{at_rest}
use Rattle.world_parts.specs.Slots.{callee_of}
use Rattle.world_parts.specs.Going.{enters}
use Rattle.value_moves.specs.Entering.{entered, started_by, words_passed}
use Rattle.run_laws.specs.keeping.Well.{KeepsWell}
use Rattle.run_laws.proofs.well.Behind.{well_all, well_after, well_given, well_same}
use Rattle.run_laws.proofs.well.Going.{enters_well}
use Rattle.run_laws.proofs.well.Slots.{callee_of_well}

pub words_passed_well : (t : ℕ) (h : Held) → KeepsWell h (words_passed t h)
words_passed_well t h =
    well_given h (slice_get h.tasks t) (λ slot. given (called_of slot.caller) (λ called. Gives called.words h)) (λ slot is. well_given h (called_of slot.caller) (λ called. Gives called.words h) (λ called is. well_same h))

pub entered_well : (t : ℕ) (h : Held) → KeepsWell h (entered t h)
entered_well t h =
    well_after h (enters t h) (λ done k. callee_of t k) (enters_well t h) (λ done k. callee_of_well t k)

pub started_by_well : (p : Program) (callee : Callee) (words : List ℕ) (h : Held) → KeepsWell h (started_by p callee words h)
started_by_well p callee words h =
    well_given h (lift_of p.graph.now callee) (λ lift. Gives (flow.Starts lift.core words) (at_rest rest.Runs h)) (λ lift is. well_all h (at_rest rest.Runs h) refl)
