-- What `task.return` tests: lists of tasks stay as they follow from the tasks.
use Rattle.std.specs.Prelude.{ℕ, Bool, not, if◌then◌else◌, Option}
use Rattle.syntax_trees.specs.declared.types.ValType.{ValType}
use Rattle.comp_graph.specs.declared.graph.Options.{Options}
use Rattle.comp_graph.specs.Graph.{Graph}
use Rattle.graph_views.specs.Callees.{lift_of}
use Rattle.trace_labels.specs.declared.trap.TrapName.TheVariants as trap
use Rattle.world_parts.specs.Held.{Held, Gives, Traps, given}
use Rattle.world_parts.specs.Slots.{callee_of}
use Rattle.world_parts.specs.Places.{memory_of}
use Rattle.return_replies.specs.Returns.{checked, return_checked, same_held, same_memory}
use Rattle.run_laws.proofs.lists.Slots.{callee_of_lists}
use Rattle.run_laws.proofs.lists.Same.{ListsBy, lists_after, lists_given, lists_if, lists_same}

pub checked_lists : (is_same : Bool) (options : Options) (lifted : Options) (h : Held) → ListsBy h (checked is_same options lifted h)
checked_lists is_same options lifted h =
    lists_if h (not is_same) (Traps trap.WrongResult h) (if not (same_memory (memory_of options h) (memory_of lifted h)) then Traps trap.WrongOptions h else Gives (tt {0}) h) tt (lists_if h (not (same_memory (memory_of options h) (memory_of lifted h))) (Traps trap.WrongOptions h) (Gives (tt {0}) h) tt (lists_same h))

pub return_checked_lists : (g : Graph) (t : ℕ) (result : Option ValType) (wanted : Option ValType) (options : Options) (h : Held) → ListsBy h (return_checked g t result wanted options h)
return_checked_lists g t result wanted options h =
    lists_after h (callee_of t h) (λ callee k. given (lift_of g callee) (λ lift. checked (same_held result wanted) options lift.options k)) (callee_of_lists t h) (λ callee k. lists_given k (lift_of g callee) (λ lift. checked (same_held result wanted) options lift.options k) (λ lift is. checked_lists (same_held result wanted) options lift.options k))
