-- How tasks resolve with a result, and exit (Component Model, CanonicalABI.md, `canon lift`, `canon task.return`, "Flat Lifting" and
-- "Loading"): the result is lifted, the task resolves, which lowers the result into its caller at once, the post-return of a task that is
-- lifted without `async` runs, and the task exits.
use Rattle.std.specs.Prelude.{ℕ, List, [], ◌∷◌, is_none, Option, Some, None, Ok}
use Rattle.wasm_store.specs.Store.{Function, found_at}
use Rattle.wasm_store.specs.Step.{start}
use Rattle.syntax_trees.specs.declared.types.ValType.{ValType}
use Rattle.syntax_trees.specs.declared.value.Value.{Value}
use Rattle.tasks.specs.declared.phase.Resolution.TheVariants.{Returned}
use Rattle.tasks.specs.Tasks.{resolving_fault}
use Rattle.comp_graph.specs.declared.graph.FuncRef.{FuncRef}
use Rattle.comp_graph.specs.declared.graph.CanonFunc.{CanonFunc}
use Rattle.comp_graph.specs.declared.graph.Options.{Options}
use Rattle.comp_graph.specs.Needs.{flat_result_limit}
use Rattle.comp_graph.specs.Graph as graph
use Rattle.comp_graph.specs.Graph.{Graph}
use Rattle.trace_labels.specs.declared.label.Label.TheVariants as line
use Rattle.trace_labels.specs.declared.typed.TypedValue.{TypedValue}
use Rattle.trace_labels.specs.declared.trap.TrapName.TheVariants as trap
use Rattle.abi_machine.specs.LiftingOver.{made}
use Rattle.abi_machine.specs.Passing.{result_lifted, result_plan}
use Rattle.abi_machine.specs.Pausing.{entries_by}
use Rattle.abi_machine.specs.Traps.{task_name}
use Rattle.abi_machine.specs.Control.{After, Replies, Finishes, Resolves, Lowering, Going, Nested, BeforeLeaving, Lowers, Quiet, Leaves}
use Rattle.abi_machine.specs.World.{Subtask, Caller, Guest, Exited, Task, World}
use Rattle.abi_machine.specs.Edits.{left_chain, in_state, resolved}
use Rattle.abi_machine.specs.Canons.{func_address, memory_of, realloc_of, bytes_of, options_of_canon, inst_of_canon, canon_at, defines}
use Rattle.abi_machine.specs.Reading.{acting}
use Rattle.abi_machine.specs.Lifting.{Came, nothing_lifted, once_lifted}
use Rattle.abi_machine.specs.Counting.{task_view}
use Rattle.abi_machine.specs.Turn.{Turn, Steps, silent, behind, given, unless, unless_fault, with_func, replied}

-- The result of a task, where the function has one, with its type: of the words that are passed, where so many are passed as core values.
abbrev pub typed_result : ValType → Value → Option TypedValue
typed_result type v = Some (record { value = v; val_type = type })

unfoldable pub result_passed : ℕ → ℕ → ℕ → Option ValType → Options → List ℕ → World → Came (Option TypedValue)
result_passed i t limit None options words w = Ok (None, nothing_lifted 0 w)
result_passed i t limit (Some type) options words w =
    made (typed_result type) (result_lifted i t limit type (bytes_of w.store (memory_of w.store options)) words w)

-- The lowering of a result acts for the caller, and a trap names the task that returns.
abbrev pub result_lowering : World → ℕ → Subtask → CanonFunc → After → Lowering
result_lowering w t subtask c after = record {
  inst = inst_of_canon c;
  memory = memory_of w.store (options_of_canon c);
  realloc = realloc_of w.store (options_of_canon c);
  acts_for = subtask.by;
  blame = t;
  next = Resolves t after;
}

-- The post-return of a task's function, which is called with the core values with which its core function ended.
abbrev pub post_return_call : ℕ → graph.Lifted → List ℕ → ℕ × Function → Nested
post_return_call t f ended function =
    record { state = Going (start function.1 function.0 ended); inst = f.instance; acts_for = t; blame = t }

unfoldable pub post_return : ℕ → graph.Lifted → List ℕ → Option FuncRef → World → Turn
post_return t f ended None w = silent Leaves w
post_return t f ended (Some ref) w =
    given (found_at w.store.funcs (func_address w.store ref)) (λ function. silent (Quiet (post_return_call t f ended function) BeforeLeaving) w)

-- The acting task has resolved, and what it resolved to has reached its caller.
unfoldable pub finished : After → World → Turn
finished Replies w = given (acting w) (λ a. replied a.0 [] w)
finished (Finishes ended) w = with_func w (λ t task f. post_return t f ended f.options.post_return w)

-- A result goes into the caller, where a task called. The script takes it by its line.
unfoldable pub passed_to : Graph → ℕ → Subtask → CanonFunc → After → TypedValue → World → Turn
passed_to g t subtask c after result w =
    silent (Lowers (result_lowering w t subtask c after)
    (result_plan (entries_by (defines g (inst_of_canon c))) (options_of_canon c).is_async result.val_type result.value subtask.words)) w

unfoldable pub passed_on : Graph → ℕ → Caller → After → Option TypedValue → World → Turn
passed_on g t (Guest subtask) after (Some result) w = given (canon_at g subtask.canon) (λ c. passed_to g t subtask c after result w)
passed_on g t caller after result w = finished after w

-- A task resolves by its line, before its result is lowered: neither twice nor while a borrow handle of it is live.
unfoldable pub resolves_to : Graph → ℕ → Task → After → Option TypedValue → World → Turn
resolves_to g t task after result w =
    unless_fault t task_name (resolving_fault (task_view g w t task)) w
    (behind (line.Return t result ∷ []) (passed_on g t task.caller after result (resolved t Returned w)))

unfoldable pub resolves : Graph → ℕ → Task → After → Came (Option TypedValue) → Turn
resolves g t task after came = once_lifted t came (λ result w. resolves_to g t task after result w)

-- The core function of a task that is lifted without `async` ended with these words.
unfoldable pub returning_turn : Graph → ℕ → Task → graph.Lifted → List ℕ → World → Turn
returning_turn g t task f ended w =
    resolves g t task (Finishes ended) (result_passed f.instance t flat_result_limit f.func_type.result f.options ended w)

-- A task that is lifted with `async` has come to its end, where it has resolved.
unfoldable pub ending_turn : ℕ → Task → World → Turn
ending_turn t task w = unless t (is_none task.resolution) trap.Unresolved w (silent Leaves w)

-- A task exits. Control goes to the task before it, where there is one.
unfoldable pub leaving_turn : World → Turn
leaving_turn w = given (acting w) (λ a. Steps (line.Exit a.0 ∷ []) (left_chain (in_state a.0 Exited w)))
