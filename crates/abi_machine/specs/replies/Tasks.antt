-- Tasks (Component Model, CanonicalABI.md, `canon task.return`, `canon task.cancel` and `canon yield`): how a task resolves, and how it lets others
-- run.
use Rattle.std.specs.Prelude.{ℕ, nat_eq, Bool, true, not, ◌&&◌, if◌then◌else◌, List, [], ◌∷◌, Option, Some}
use Rattle.syntax_trees.specs.declared.types.ValType.{ValType}
use Rattle.tasks.specs.declared.phase.Resolution.TheVariants.{Cancelled}
use Rattle.tasks.specs.Tasks.{asking_fault, cancel_fault, is_asked}
use Rattle.comp_graph.specs.declared.graph.Options.{Options}
use Rattle.comp_graph.specs.Needs.{flat_param_limit}
use Rattle.comp_graph.specs.Graph.{Graph, Lifted}
use Rattle.trace_labels.specs.declared.label.BlockReason.TheVariants as reason
use Rattle.trace_labels.specs.declared.label.Label.TheVariants as line
use Rattle.trace_labels.specs.declared.trap.TrapName.TheVariants as trap
use Rattle.abi_machine.specs.SameTypes.{same_held}
use Rattle.abi_machine.specs.Traps.{task_name}
use Rattle.abi_machine.specs.Control.{Replies}
use Rattle.abi_machine.specs.World.{ForYield, InBuiltin, Task, World}
use Rattle.abi_machine.specs.Edits.{resolved}
use Rattle.abi_machine.specs.Canons.{memory_of}
use Rattle.abi_machine.specs.Reading.{func_of}
use Rattle.abi_machine.specs.Counting.{task_view}
use Rattle.abi_machine.specs.Turn.{Turn, behind, given, unless, unless_fault, replied, blocked}
use Rattle.abi_machine.specs.Returning.{result_passed, resolves}
use Rattle.abi_machine.specs.Delivering.{yield_cancelled}

-- no other memory: the same one, or none at one side
abbrev pub same_address : Option ℕ → Option ℕ → Bool
same_address (Some address) (Some other) = nat_eq address other
same_address address other = true

-- `task.return` of a result of this type, with these options.
unfoldable pub return_checked : Graph → ℕ → Task → ℕ → Option ValType → Options → List ℕ → Lifted → World → Turn
return_checked g t task i result options words f w =
    unless t (not (same_held result f.func_type.result)) trap.WrongResult w
    (unless t (not (same_address (memory_of w.store options) (memory_of w.store f.options))) trap.WrongOptions w
    (resolves g t task Replies (result_passed i t flat_param_limit result options words w)))

unfoldable pub return_turn : Graph → ℕ → Task → ℕ → Option ValType → Options → List ℕ → World → Turn
return_turn g t task i result options words w =
    unless_fault t task_name (asking_fault (task_view g w t task)) w
    (given (func_of task.callee) (λ f. return_checked g t task i result options words f w))

unfoldable pub task_cancel_turn : Graph → ℕ → Task → World → Turn
task_cancel_turn g t task w =
    unless_fault t task_name (cancel_fault (task_view g w t task)) w
    (behind (line.Cancelled t ∷ []) (replied t [] (resolved t Cancelled w)))

unfoldable pub yield_turn : ℕ → Task → ℕ → Bool → List ℕ → World → Turn
yield_turn t task number cancellable words w =
    if cancellable && is_asked task.cancellation then yield_cancelled t w else blocked t (InBuiltin number words ForYield) reason.Yield w
