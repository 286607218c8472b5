-- What `task.return` tests: lists of tasks stay as they follow from the tasks.
use Rattle.std.specs.Prelude.{ℕ}
use Rattle.graph_views.specs.Canons.{options_at}
use Rattle.programs.specs.Program.{returned_of, value_of}
use Rattle.programs.specs.declared.program.Program.{Program}
use Rattle.world_parts.specs.Held.{Held}
use Rattle.world_parts.specs.Slots.{callee_of}
use Rattle.return_replies.specs.Returns.{type_of, return_checked}
use Rattle.value_moves.specs.Resolving.{return_tested, type_by}
use Rattle.run_laws.proofs.lists.passings.ReturnTests.{return_checked_lists}
use Rattle.run_laws.proofs.lists.Slots.{callee_of_lists}
use Rattle.run_laws.proofs.lists.Same.{ListsBy, lists_after}

pub return_tested_lists : (p : Program) (t : ℕ) (canon : ℕ) (h : Held) → ListsBy h (return_tested p t canon h)
return_tested_lists p t canon h =
    lists_after h (callee_of t h) (λ callee k. return_checked p.graph.now t (type_of (type_by p (value_of p canon))) (type_of (type_by p (returned_of p callee))) (options_at p.graph.now canon) k) (callee_of_lists t h) (λ callee k. return_checked_lists p.graph.now t (type_of (type_by p (value_of p canon))) (type_of (type_by p (returned_of p callee))) (options_at p.graph.now canon) k)
