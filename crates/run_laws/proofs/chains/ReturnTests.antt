-- What `task.return` tests: who runs, and how many tasks there are, stay.
use Rattle.std.specs.Prelude.{ℕ, Bool, not, if◌then◌else◌, Option}
use Rattle.syntax_trees.specs.declared.types.ValType.{ValType}
use Rattle.comp_graph.specs.declared.graph.Options.{Options}
use Rattle.comp_graph.specs.Graph.{Graph}
use Rattle.graph_views.specs.Callees.{lift_of}
use Rattle.trace_labels.specs.declared.trap.TrapName.TheVariants as trap
use Rattle.world_parts.specs.Held.{Held, Gives, Traps, given}
use Rattle.world_parts.specs.Slots.{callee_of}
use Rattle.world_parts.specs.Places.{memory_of}
use Rattle.return_replies.specs.Returns.{checked, return_checked, same_held, same_memory}
use Rattle.run_laws.proofs.chains.Parts.{callee_of_chain}
use Rattle.run_laws.proofs.chains.By.{ChainBy, chain_after, chain_given, chain_if, chain_same}

pub checked_chain : (is_same : Bool) (options : Options) (lifted : Options) (h : Held) → ChainBy h (checked is_same options lifted h)
checked_chain is_same options lifted h =
    chain_if h (not is_same) (Traps trap.WrongResult h) (if not (same_memory (memory_of options h) (memory_of lifted h)) then Traps trap.WrongOptions h else Gives (tt {0}) h) tt (chain_if h (not (same_memory (memory_of options h) (memory_of lifted h))) (Traps trap.WrongOptions h) (Gives (tt {0}) h) tt (chain_same h))

pub return_checked_chain : (g : Graph) (t : ℕ) (result : Option ValType) (wanted : Option ValType) (options : Options) (h : Held) → ChainBy h (return_checked g t result wanted options h)
return_checked_chain g t result wanted options h =
    chain_after h (callee_of t h) (λ callee k. given (lift_of g callee) (λ lift. checked (same_held result wanted) options lift.options k)) (callee_of_chain t h) (λ callee k. chain_given k (lift_of g callee) (λ lift. checked (same_held result wanted) options lift.options k) (λ lift is. checked_chain (same_held result wanted) options lift.options k))
