-- Tasks that end leave the store alone, and no handle is lent more often.
use Rattle.std.proofs.Common.{◌≡◌, refl}
use Rattle.std.specs.Prelude.{◌≡◌, ℕ, List, Option, Some, None}
use Rattle.entry_gate.specs.declared.kind.Kind.{Kind}
use Rattle.entry_gate.specs.declared.kind.Kind.TheVariants.{Sync, Callback, Stackful}
use Rattle.comp_graph.specs.declared.graph.Lift.{Lift}
use Rattle.graph_views.specs.Callees.{lift_of}
use Rattle.programs.specs.declared.program.Program.{Program}
use Rattle.world_parts.specs.declared.parts.Rest.{Rest}
use Rattle.world_parts.specs.declared.parts.Rest.TheVariants as rest
use Rattle.world_parts.specs.declared.parts.Flow.{Flow}
use Rattle.world_parts.specs.declared.parts.Flow.TheVariants as flow
use Rattle.world_parts.specs.Held.{Held, Done, Gives, Stuck, after, given}
use Rattle.world_parts.specs.Feed.{acting}
use Rattle.world_parts.specs.Slots.{callee_of, kind_of, word_in}
use Rattle.world_parts.specs.Going.{ending, loops}
use Rattle.value_parts.specs.declared.to_pass.Passing.{Passing}
use Rattle.value_parts.specs.declared.to_pass.Passing.TheVariants as passing
use Rattle.value_parts.specs.Coming.{Behind, Then}
use Rattle.value_moves.specs.Entering.{Enters}
use Rattle.value_moves.specs.Resolving.{Ends, Returns}
use Rattle.value_moves.specs.Transferring.{Transfers}
use Rattle.value_moves.specs.Passing.{FuncEnds, KindEnds, Passes, PassesFor, ReturnsBy, SyncEnds, async_ended, call_at, lift_at}
use Rattle.value_parts.proofs.fit.Keeps.{Keeps, KeepsBy, keeps_after, keeps_given, keeps_if, keeps_same, keeps_all, keeps_from}
use Rattle.value_parts.proofs.fit.Going.{ending_keeps, loops_keeps}
use Rattle.value_parts.proofs.fit.Slots.{callee_of_keeps}

pub lift_at_keeps : (p : Program) (t : ℕ) (h : Held) → KeepsBy h (lift_at p t h)
lift_at_keeps p t h =
    keeps_after h (callee_of t h) (λ callee k. given (lift_of p.graph.now callee) (λ lift. Gives lift k)) (callee_of_keeps t h) (λ callee k. keeps_given k (lift_of p.graph.now callee) (λ lift. Gives lift k) (λ lift is. keeps_same k))

pub async_ended_keeps : (t : ℕ) (kind : Kind) (words : List ℕ) (h : Held) → KeepsBy h (async_ended t kind words h)
async_ended_keeps t Sync words h =
    tt
async_ended_keeps t Callback words h =
    keeps_given h (word_in words 0) (λ word. loops t word h) (λ word is. loops_keeps t word h)
async_ended_keeps t Stackful words h =
    ending_keeps t h
