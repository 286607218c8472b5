-- Tasks that end: lists of tasks stay as they follow from the tasks.
use Rattle.std.specs.Prelude.{ℕ, List}
use Rattle.entry_gate.specs.declared.kind.Kind.{Kind}
use Rattle.entry_gate.specs.declared.kind.Kind.TheVariants.{Sync, Callback, Stackful}
use Rattle.graph_views.specs.Callees.{lift_of}
use Rattle.programs.specs.declared.program.Program.{Program}
use Rattle.world_parts.specs.Held.{Held, Gives, given}
use Rattle.world_parts.specs.Slots.{callee_of, word_in}
use Rattle.world_parts.specs.Going.{loops}
use Rattle.value_moves.specs.Passing.{async_ended, lift_at}
use Rattle.run_laws.proofs.lists.Going.{ending_lists, loops_lists}
use Rattle.run_laws.proofs.lists.Slots.{callee_of_lists}
use Rattle.run_laws.proofs.lists.Same.{ListsBy, lists_after, lists_given, lists_same}

pub lift_at_lists : (p : Program) (t : ℕ) (h : Held) → ListsBy h (lift_at p t h)
lift_at_lists p t h =
    lists_after h (callee_of t h) (λ callee k. given (lift_of p.graph.now callee) (λ lift. Gives lift k)) (callee_of_lists t h) (λ callee k. lists_given k (lift_of p.graph.now callee) (λ lift. Gives lift k) (λ lift is. lists_same k))

pub async_ended_lists : (t : ℕ) (kind : Kind) (words : List ℕ) (h : Held) → ListsBy h (async_ended t kind words h)
async_ended_lists t Sync words h =
    tt
async_ended_lists t Callback words h =
    lists_given h (word_in words 0) (λ word. loops t word h) (λ word is. loops_lists t word h)
async_ended_lists t Stackful words h =
    ending_lists t h
