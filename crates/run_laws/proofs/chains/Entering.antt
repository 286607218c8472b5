-- A task enters: who runs, and how many tasks there are, stay.
use Rattle.std.proofs.Common.{refl}
use Rattle.std.specs.Prelude.{ℕ, List}
use Rattle.std.specs.List.{slice_get}
use Rattle.task_table.specs.declared.errand.Callee.{Callee}
use Rattle.task_table.specs.Callers.{called_of}
use Rattle.graph_views.specs.Callees.{lift_of}
use Rattle.programs.specs.declared.program.Program.{Program}
use Rattle.world_parts.specs.declared.parts.Flow.TheVariants as flow
use Rattle.world_parts.specs.declared.parts.Rest.TheVariants as rest
use Rattle.world_parts.specs.Held.{Held, Gives, given}
use Rattle.world_parts.specs.Feed.{at_rest}
use Rattle.world_parts.specs.Slots.{callee_of}
use Rattle.world_parts.specs.Going.{enters}
use Rattle.value_moves.specs.Entering.{entered, started_by, words_passed}
use Rattle.run_laws.proofs.chains.Parts.{callee_of_chain, enters_chain}
use Rattle.run_laws.proofs.chains.By.{ChainBy, chain_after, chain_given, chain_same}

pub words_passed_chain : (t : ℕ) (h : Held) → ChainBy h (words_passed t h)
words_passed_chain t h =
    chain_given h (slice_get h.tasks t) (λ slot. given (called_of slot.caller) (λ called. Gives called.words h)) (λ slot is. chain_given h (called_of slot.caller) (λ called. Gives called.words h) (λ called is. chain_same h))

pub entered_chain : (t : ℕ) (h : Held) → ChainBy h (entered t h)
entered_chain t h =
    chain_after h (enters t h) (λ done k. callee_of t k) (enters_chain t h) (λ done k. callee_of_chain t k)

pub started_by_chain : (p : Program) (callee : Callee) (words : List ℕ) (h : Held) → ChainBy h (started_by p callee words h)
started_by_chain p callee words h =
    chain_given h (lift_of p.graph.now callee) (λ lift. Gives (flow.Starts lift.core words) (at_rest rest.Runs h)) (λ lift is. (refl, refl))
