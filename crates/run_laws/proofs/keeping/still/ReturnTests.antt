-- What `task.return` tests keeps memories, core instances and ends as they are kept.
use Rattle.std.specs.Prelude.{ℕ, Bool, not, if◌then◌else◌, Option}
use Rattle.syntax_trees.specs.declared.types.ValType.{ValType}
use Rattle.comp_graph.specs.declared.graph.Options.{Options}
use Rattle.comp_graph.specs.Graph.{Graph}
use Rattle.graph_views.specs.Callees.{lift_of}
use Rattle.trace_labels.specs.declared.trap.TrapName.TheVariants as trap
use Rattle.world_parts.specs.Held.{Held, Gives, Traps, given}
use Rattle.world_parts.specs.Slots.{callee_of}
use Rattle.world_parts.specs.Places.{memory_of}
use Rattle.return_replies.specs.Returns.{checked, return_checked, same_held, same_memory}
use Rattle.run_laws.proofs.keeping.still.Still.{no_kinds, StillBy, still_after, still_given, still_if, still_same}
use Rattle.run_laws.proofs.keeping.still.Slots.{callee_of_still}

pub checked_still : (is_same : Bool) (options : Options) (lifted : Options) (h : Held) → StillBy no_kinds h (checked is_same options lifted h)
checked_still is_same options lifted h =
    still_if no_kinds h (not is_same) (Traps trap.WrongResult h) (if not (same_memory (memory_of options h) (memory_of lifted h)) then Traps trap.WrongOptions h else Gives (tt {0}) h) (λ K asked kept. kept) (still_if no_kinds h (not (same_memory (memory_of options h) (memory_of lifted h))) (Traps trap.WrongOptions h) (Gives (tt {0}) h) (λ K asked kept. kept) (still_same no_kinds h))

pub return_checked_still : (g : Graph) (t : ℕ) (result : Option ValType) (wanted : Option ValType) (options : Options) (h : Held) → StillBy no_kinds h (return_checked g t result wanted options h)
return_checked_still g t result wanted options h =
    still_after no_kinds h (callee_of t h) (λ callee k. given (lift_of g callee) (λ lift. checked (same_held result wanted) options lift.options k)) (callee_of_still no_kinds t h) (λ callee k. still_given no_kinds k (lift_of g callee) (λ lift. checked (same_held result wanted) options lift.options k) (λ lift is. checked_still (same_held result wanted) options lift.options k))
