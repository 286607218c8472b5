-- What `task.return` tests keeps memories, core instances and ends as they are kept.
use Rattle.std.specs.Prelude.{ℕ}
use Rattle.graph_views.specs.Canons.{options_at}
use Rattle.programs.specs.Program.{returned_of, value_of}
use Rattle.programs.specs.declared.program.Program.{Program}
use Rattle.world_parts.specs.Held.{Held}
use Rattle.world_parts.specs.Slots.{callee_of}
use Rattle.return_replies.specs.Returns.{type_of, return_checked}
use Rattle.value_moves.specs.Resolving.{return_tested, type_by}
use Rattle.run_laws.proofs.keeping.still.Still.{no_kinds, StillBy, still_after}
use Rattle.run_laws.proofs.keeping.still.ReturnTests.{return_checked_still}
use Rattle.run_laws.proofs.keeping.still.Slots.{callee_of_still}

pub return_tested_still : (p : Program) (t : ℕ) (canon : ℕ) (h : Held) → StillBy no_kinds h (return_tested p t canon h)
return_tested_still p t canon h =
    still_after no_kinds h (callee_of t h) (λ callee k. return_checked p.graph.now t (type_of (type_by p (value_of p canon))) (type_of (type_by p (returned_of p callee))) (options_at p.graph.now canon) k) (callee_of_still no_kinds t h) (λ callee k. return_checked_still p.graph.now t (type_of (type_by p (value_of p canon))) (type_of (type_by p (returned_of p callee))) (options_at p.graph.now canon) k)
