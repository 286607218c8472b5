-- What `task.return` tests leaves the store alone, and no handle is lent more often.
use Rattle.std.proofs.Common.{◌≡◌, refl}
use Rattle.std.specs.Prelude.{◌≡◌, ℕ, nat_eq, Bool, true, false, not, if◌then◌else◌, Option, Some, None}
use Rattle.std.specs.Option.{option_map}
use Rattle.syntax_trees.specs.declared.types.ValType.{ValType}
use Rattle.laid_types.specs.Known.{Numbered}
use Rattle.laid_types.specs.SameTypes.{same_val, AreDistinct}
use Rattle.comp_graph.specs.declared.graph.Options.{Options}
use Rattle.comp_graph.specs.Graph.{Graph}
use Rattle.graph_views.specs.Callees.{lift_of}
use Rattle.trace_labels.specs.declared.trap.TrapName.TheVariants as trap
use Rattle.world_parts.specs.Held.{Held, Done, Gives, Traps, after, given}
use Rattle.world_parts.specs.Slots.{callee_of}
use Rattle.world_parts.specs.Places.{memory_of}
use Rattle.return_replies.specs.Returns.{AreTold, checked, return_checked, same_held, same_memory, type_of}
use Rattle.value_parts.proofs.fit.Keeps.{Keeps, KeepsBy, keeps_after, keeps_given, keeps_if, keeps_same, keeps_all, keeps_from}
use Rattle.value_parts.proofs.fit.Slots.{callee_of_keeps}

pub checked_keeps : (is_same : Bool) (options : Options) (lifted : Options) (h : Held) → KeepsBy h (checked is_same options lifted h)
checked_keeps is_same options lifted h =
    keeps_if h (not is_same) (Traps trap.WrongResult h) (if not (same_memory (memory_of options h) (memory_of lifted h)) then Traps trap.WrongOptions h else Gives (tt {0}) h) tt (keeps_if h (not (same_memory (memory_of options h) (memory_of lifted h))) (Traps trap.WrongOptions h) (Gives (tt {0}) h) tt (keeps_same h))

pub return_checked_keeps : (g : Graph) (t : ℕ) (result : Option ValType) (wanted : Option ValType) (options : Options) (h : Held) → KeepsBy h (return_checked g t result wanted options h)
return_checked_keeps g t result wanted options h =
    keeps_after h (callee_of t h) (λ callee k. given (lift_of g callee) (λ lift. checked (same_held result wanted) options lift.options k)) (callee_of_keeps t h) (λ callee k. keeps_given k (lift_of g callee) (λ lift. checked (same_held result wanted) options lift.options k) (λ lift is. checked_keeps (same_held result wanted) options lift.options k))
