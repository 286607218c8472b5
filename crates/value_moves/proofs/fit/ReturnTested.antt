-- What `task.return` tests leaves the store alone, and no handle is lent more often.
use Rattle.std.proofs.Common.{◌≡◌, refl}
use Rattle.std.specs.Prelude.{◌≡◌, ℕ, List, [], Option, Some, None, Result, Ok, Err}
use Rattle.std.specs.Option.{option_and_then}
use Rattle.comp_graph.specs.declared.graph.FuncRef.{FuncRef}
use Rattle.graph_views.specs.Canons.{options_at}
use Rattle.laid_types.specs.Known.{Numbered, numbered_at}
use Rattle.programs.specs.Program.{returned_of, value_of}
use Rattle.programs.specs.declared.program.Program.{Program}
use Rattle.trace_labels.specs.declared.typed.TypedValue.{TypedValue}
use Rattle.world_parts.specs.declared.parts.Parts.{Parts}
use Rattle.world_parts.specs.declared.parts.Flow.{Flow}
use Rattle.world_parts.specs.declared.parts.Stop.{Stop}
use Rattle.world_parts.specs.declared.parts.Stop.TheVariants as stop
use Rattle.world_parts.specs.Held.{Held, held, Done, Gives, Traps, Spent, Stuck, after}
use Rattle.world_parts.specs.Feed.{got}
use Rattle.world_parts.specs.Slots.{callee_of}
use Rattle.world_parts.specs.Plain.{returned}
use Rattle.world_stacks.specs.PostReturns.{PostReturns}
use Rattle.value_parts.specs.Passing.{ended_lifted, returned_lifted}
use Rattle.return_replies.specs.Returns.{type_of, return_checked}
use Rattle.value_parts.specs.Coming.{Behind, Then}
use Rattle.value_moves.specs.Lowered.{LowersResult}
use Rattle.value_moves.specs.Resolving.{Ends, PassesOn, PostReturnsTo, Resolves, ResolvesEnded, ReturnResolves, Returns, Settles, TestedResolves, return_tested, type_by}
use Rattle.value_parts.proofs.fit.Keeps.{Keeps, KeepsBy, keeps_after, keeps_given, keeps_if, keeps_same, keeps_all, keeps_from}
use Rattle.value_moves.proofs.fit.ReturnTests.{return_checked_keeps}
use Rattle.value_parts.proofs.fit.Slots.{callee_of_keeps}

pub return_tested_keeps : (p : Program) (t : ℕ) (canon : ℕ) (h : Held) → KeepsBy h (return_tested p t canon h)
return_tested_keeps p t canon h =
    keeps_after h (callee_of t h) (λ callee k. return_checked p.graph.now t (type_of (type_by p (value_of p canon))) (type_of (type_by p (returned_of p callee))) (options_at p.graph.now canon) k) (callee_of_keeps t h) (λ callee k. return_checked_keeps p.graph.now t (type_of (type_by p (value_of p canon))) (type_of (type_by p (returned_of p callee))) (options_at p.graph.now canon) k)
