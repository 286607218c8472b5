-- Tasks that end keep memories, core instances and ends as they are kept.
use Rattle.std.specs.Prelude.{ℕ, List}
use Rattle.entry_gate.specs.declared.kind.Kind.{Kind}
use Rattle.entry_gate.specs.declared.kind.Kind.TheVariants.{Sync, Callback, Stackful}
use Rattle.graph_views.specs.Callees.{lift_of}
use Rattle.programs.specs.declared.program.Program.{Program}
use Rattle.world_parts.specs.Held.{Held, Gives, given}
use Rattle.world_parts.specs.Slots.{callee_of, word_in}
use Rattle.world_parts.specs.Going.{loops}
use Rattle.value_moves.specs.Passing.{async_ended, lift_at}
use Rattle.run_laws.proofs.keeping.still.Still.{no_kinds, StillBy, still_after, still_given, still_same}
use Rattle.run_laws.proofs.keeping.still.Going.{ending_still, loops_still}
use Rattle.run_laws.proofs.keeping.still.Slots.{callee_of_still}

pub lift_at_still : (p : Program) (t : ℕ) (h : Held) → StillBy no_kinds h (lift_at p t h)
lift_at_still p t h =
    still_after no_kinds h (callee_of t h) (λ callee k. given (lift_of p.graph.now callee) (λ lift. Gives lift k)) (callee_of_still no_kinds t h) (λ callee k. still_given no_kinds k (lift_of p.graph.now callee) (λ lift. Gives lift k) (λ lift is. still_same no_kinds k))

pub async_ended_still : (t : ℕ) (kind : Kind) (words : List ℕ) (h : Held) → StillBy no_kinds h (async_ended t kind words h)
async_ended_still t Sync words h =
    tt
async_ended_still t Callback words h =
    still_given no_kinds h (word_in words 0) (λ word. loops t word h) (λ word is. loops_still no_kinds t word h)
async_ended_still t Stackful words h =
    ending_still no_kinds t h
