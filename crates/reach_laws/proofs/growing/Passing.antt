-- Arguments and results that are passed leave stores as they are.
use Rattle.std.proofs.Common.{ℕ, List, [], ◌∷◌, Option, Some, None}
use Rattle.wasm_store.specs.Store.{Store, found_at}
use Rattle.syntax_trees.specs.declared.types.ValType.{ValType}
use Rattle.syntax_trees.specs.declared.value.Value.{Value}
use Rattle.syntax_trees.specs.declared.value.Value.TheViews as value
use Rattle.tasks.specs.declared.phase.Resolution.TheVariants.{Returned}
use Rattle.tasks.specs.Tasks.{resolving_fault}
use Rattle.comp_graph.specs.declared.graph.CanonFunc.{CanonFunc}
use Rattle.comp_graph.specs.declared.graph.FuncRef.{FuncRef}
use Rattle.comp_graph.specs.declared.graph.Options.{Options}
use Rattle.comp_graph.specs.Graph.{Graph, Lifted}
use Rattle.trace_labels.specs.declared.label.Label.TheVariants as line
use Rattle.trace_labels.specs.declared.typed.TypedValue.{TypedValue}
use Rattle.abi_machine.specs.Control.{After, Replies, Finishes}
use Rattle.abi_machine.specs.World.{Subtask, Caller, Nobody, Host, Guest, Acting, Task, World}
use Rattle.abi_machine.specs.Edits.{in_state, resolved}
use Rattle.abi_machine.specs.Canons.{func_address, options_of_canon, inst_of_canon, canon_at, memory_of, bytes_of}
use Rattle.abi_machine.specs.Reading.{acting}
use Rattle.abi_machine.specs.Counting.{task_view}
use Rattle.abi_machine.specs.Traps.{task_name}
use Rattle.abi_machine.specs.Lifting.{Came}
use Rattle.abi_machine.specs.Entering.{with_arguments, arguments_passed, arguments_turn, entered}
use Rattle.abi_machine.specs.Returning.{result_passed, post_return, finished, passed_to, passed_on, resolves_to, resolves}
use Rattle.abi_machine.proofs.sound.Lifted.{arguments_keep, result_keeps}
use Rattle.abi_machine.proofs.sound.Lifts.{Leaves as LeavesWith}
use Rattle.reach_laws.proofs.Leaving.{Leaves, behind_leaves, given_leaves, func_leaves, fault_leaves, came_leaves}
use Rattle.reach_laws.proofs.growing.Stores.{IsOn, Grown, OnKept, OnStopped, on_came, on_stopped}

module _ (g : Graph) (s : Store) where
  abbrev Fine : World → Type 0
  Fine v = Grown s v

  abbrev On : World → Type 0
  On w = IsOn s w.store

  -- Arguments.
  with_arguments_grows : (t : ℕ) (f : Lifted) (v : Value) (w : World) → On w → Leaves Fine (with_arguments g t f v w)
  unfolding with_arguments
  with_arguments_grows t f v w h = (h, tt)

  passed_on_so : (t : ℕ) (f : Lifted) (subtask : Subtask) (c : CanonFunc) (w : World) → On w → LeavesWith (OnKept s) (OnStopped s) (arguments_passed t f subtask c w)
  unfolding arguments_passed
  passed_on_so t f subtask c w h =
      arguments_keep (inst_of_canon c) t On (Unit {0}) (λ j index v stands k. k) (λ j index v stands k. k) (λ index v b stands k. k) (options_of_canon c).is_async f.func_type (λ b. tt)
      (bytes_of w.store (memory_of w.store (options_of_canon c))) subtask.words w h

  arguments_grow : (t : ℕ) (f : Lifted) (caller : Caller) (w : World) → On w → Leaves Fine (arguments_turn g t f caller w)
  unfolding arguments_turn
  arguments_grow t f Nobody w h = tt
  arguments_grow t f (Host call values) w h = with_arguments_grows t f (value.Record values) w h
  arguments_grow t f (Guest subtask) w h =
      given_leaves Fine (canon_at g subtask.canon) _ (λ c e.
      came_leaves Fine t (arguments_passed t f subtask c w) (λ v later. with_arguments g t f v later)
      (λ x i. with_arguments_grows t f x.0 x.1.world (on_came s (arguments_passed t f subtask c w) (passed_on_so t f subtask c w h) x i))
      (λ stop i. (on_stopped s (arguments_passed t f subtask c w) (passed_on_so t f subtask c w h) stop i, tt)))

  pub entered_grows : (t : ℕ) (task : Task) (f : Lifted) (w : World) → On w → Leaves Fine (entered g t task f w)
  unfolding entered
  entered_grows t task f w h = behind_leaves Fine (line.Enter t ∷ []) (arguments_turn g t f task.caller (in_state t Acting w)) (arguments_grow t f task.caller (in_state t Acting w) h)

  -- Results.
  post_return_grows : (t : ℕ) (f : Lifted) (ended : List ℕ) (ref : Option FuncRef) (w : World) → On w → Leaves Fine (post_return t f ended ref w)
  unfolding post_return
  post_return_grows t f ended None w h = (h, tt)
  post_return_grows t f ended (Some ref) w h = given_leaves Fine (found_at w.store.funcs (func_address w.store ref)) _ (λ function e. (h, tt))

  pub finished_grows : (follows : After) (w : World) → On w → Leaves Fine (finished follows w)
  unfolding finished
  finished_grows Replies w h = given_leaves Fine (acting w) _ (λ a e. (h, tt))
  finished_grows (Finishes ended) w h = func_leaves Fine w _ (λ a f e k. post_return_grows a.0 f ended f.options.post_return w h)

  passed_to_grows : (t : ℕ) (subtask : Subtask) (c : CanonFunc) (follows : After) (r : TypedValue) (w : World) → On w → Leaves Fine (passed_to g t subtask c follows r w)
  unfolding passed_to
  passed_to_grows t subtask c follows r w h = (h, tt)

  passed_on_grows : (t : ℕ) (caller : Caller) (follows : After) (result : Option TypedValue) (w : World) → On w → Leaves Fine (passed_on g t caller follows result w)
  unfolding passed_on
  passed_on_grows t (Guest subtask) follows (Some r) w h = given_leaves Fine (canon_at g subtask.canon) _ (λ c e. passed_to_grows t subtask c follows r w h)
  passed_on_grows t (Guest subtask) follows None w h = finished_grows follows w h
  passed_on_grows t Nobody follows result w h = finished_grows follows w h
  passed_on_grows t (Host call values) follows result w h = finished_grows follows w h

  resolves_to_grows : (t : ℕ) (task : Task) (follows : After) (result : Option TypedValue) (w : World) → On w → Leaves Fine (resolves_to g t task follows result w)
  unfolding resolves_to
  resolves_to_grows t task follows result w h =
      fault_leaves Fine t task_name (resolving_fault (task_view g w t task)) w _ (λ why. (h, tt))
      (behind_leaves Fine (line.Return t result ∷ []) (passed_on g t task.caller follows result (resolved t Returned w)) (passed_on_grows t task.caller follows result (resolved t Returned w) h))

  pub resolves_grows : (t : ℕ) (task : Task) (follows : After) (i limit : ℕ) (type : Option ValType) (options : Options) (words : List ℕ) (w : World) → On w
      → Leaves Fine (resolves g t task follows (result_passed i t limit type options words w))
  unfolding resolves
  resolves_grows t task follows i limit type options words w h =
      let came : Came (Option TypedValue) = result_passed i t limit type options words w in
      let on : LeavesWith (OnKept s) (OnStopped s) came = result_keeps i t On (Unit {0}) (λ j index v stands k. k) (λ j index v stands k. k) (λ index v b stands k. k) limit type (λ b. tt) options words w h in
      came_leaves Fine t came (λ result v. resolves_to g t task follows result v) (λ x e. resolves_to_grows t task follows x.0 x.1.world (on_came s came on x e))
      (λ stop e. (on_stopped s came on stop e, tt))
