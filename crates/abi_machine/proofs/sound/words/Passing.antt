-- Arguments, results and elements that are passed add handles with small representations, and leave words as they are.
use Rattle.std.proofs.Common.{ℕ, List, [], ◌∷◌, Option, Some, None}
use Rattle.wasm_store.specs.Store.{found_at}
use Rattle.syntax_trees.specs.declared.types.ValType.{ValType}
use Rattle.syntax_trees.specs.declared.value.Value.{Value}
use Rattle.syntax_trees.specs.declared.value.Value.TheViews as value
use Rattle.tasks.specs.declared.phase.Resolution.TheVariants.{Returned}
use Rattle.tasks.specs.Tasks.{resolving_fault}
use Rattle.comp_graph.specs.declared.graph.FuncRef.{FuncRef}
use Rattle.comp_graph.specs.declared.graph.Options.{Options}
use Rattle.comp_graph.specs.declared.graph.CanonFunc.{CanonFunc}
use Rattle.comp_graph.specs.Graph.{Graph, Lifted}
use Rattle.trace_labels.specs.declared.label.Label.TheVariants as line
use Rattle.trace_labels.specs.declared.typed.TypedValue.{TypedValue}
use Rattle.stream_ends.specs.declared.open_copy.OpenCopy.{OpenCopy}
use Rattle.abi_machine.specs.Traps.{task_name}
use Rattle.abi_machine.specs.Control.{EndRef, After, Replies, Finishes}
use Rattle.abi_machine.specs.World.{Subtask, Caller, Nobody, Host, Guest, Acting, Task, World}
use Rattle.abi_machine.specs.Edits.{in_state, resolved}
use Rattle.abi_machine.specs.Canons.{func_address, options_of_canon, inst_of_canon, canon_at, defines}
use Rattle.abi_machine.specs.Reading.{acting, func_of}
use Rattle.abi_machine.specs.Counting.{task_view}
use Rattle.abi_machine.specs.Entering.{with_arguments, arguments_passed, arguments_turn, entered}
use Rattle.abi_machine.specs.Returning.{result_passed, post_return, finished, passed_to, passed_on, resolves_to, resolves}
use Rattle.abi_machine.specs.Copying.{next_place, elements_written, elements_read, moved_by}
use Rattle.abi_machine.specs.sound.Words.{AreSmall, WasPassed}
use Rattle.abi_machine.proofs.sound.Lifted.{arguments_keep, result_keeps, elements_keep}
use Rattle.abi_machine.proofs.sound.words.Values.{IsSmall, small_record}
use Rattle.abi_machine.proofs.sound.words.Lifted.{IsSmallResult, arguments_small, result_small, elements_small}
use Rattle.abi_machine.proofs.sound.words.Plans.{arguments_add, result_adds, elements_plan_add}
use Rattle.abi_machine.proofs.sound.words.Keeping.{Ground, Holds, KeepsOf, task_so, state_so, Keeps, given_keeps, behind_keeps, fault_keeps, on_keeps, removes, waits, lends, came_keeps}

module _ {g : Graph} (ground : Ground g) where
  -- Arguments.
  with_arguments_keeps : (t : ℕ) (f : Lifted) (v : Value) (w : World) → IsSmall v → Holds ground w → Keeps ground (with_arguments g t f v w)
  unfolding with_arguments
  with_arguments_keeps t f v w small h = (h, arguments_add (defines g f.instance) f.func_type v small)

  arguments_keeps : (t : ℕ) (f : Lifted) (caller : Caller) (w : World) → WasPassed g caller → Holds ground w → Keeps ground (arguments_turn g t f caller w)
  unfolding arguments_turn arguments_passed
  arguments_keeps t f Nobody w passed h = tt
  arguments_keeps t f (Host call values) w passed h = with_arguments_keeps t f (value.Record values) w (small_record values passed) h
  arguments_keeps t f (Guest subtask) w passed h =
      given_keeps ground (canon_at g subtask.canon) _ (λ c e.
      came_keeps ground IsSmall t (arguments_passed t f subtask c w) (λ v later. with_arguments g t f v later)
      (arguments_keep (inst_of_canon c) t (Holds ground) (Unit {0}) (removes ground) (waits ground) (lends ground (inst_of_canon c) t) (options_of_canon c).is_async f.func_type (λ b. tt) _ subtask.words w h)
      (arguments_small (inst_of_canon c) t (options_of_canon c).is_async f.func_type _ subtask.words w h.0.reps) (λ v later small i. with_arguments_keeps t f v later small i))

  pub entered_keeps : (t : ℕ) (task : Task) (f : Lifted) (w : World) → KeepsOf ground task → Holds ground w → Keeps ground (entered g t task f w)
  unfolding entered
  entered_keeps t task f w kept h =
      behind_keeps ground (line.Enter t ∷ []) (arguments_turn g t f task.caller (in_state t Acting w)) (arguments_keeps t f task.caller (in_state t Acting w) kept.passed (state_so ground w t Acting tt h))

  -- Results.
  post_return_keeps : (t : ℕ) (f : Lifted) (ended : List ℕ) (ref : Option FuncRef) (w : World) → Holds ground w → Keeps ground (post_return t f ended ref w)
  unfolding post_return
  post_return_keeps t f ended None w h = (h, tt)
  post_return_keeps t f ended (Some ref) w h = given_keeps ground (found_at w.store.funcs (func_address w.store ref)) _ (λ function e. (h, tt))

  pub finished_keeps : (follows : After) (w : World) → Holds ground w → Keeps ground (finished follows w)
  unfolding finished
  finished_keeps Replies w h = given_keeps ground (acting w) _ (λ a e. (on_keeps ground a.0 [] w h, tt))
  finished_keeps (Finishes ended) w h = given_keeps ground (acting w) _ (λ a e. given_keeps ground (func_of a.1.callee) _ (λ f k. post_return_keeps a.0 f ended f.options.post_return w h))

  passed_to_keeps : (t : ℕ) (subtask : Subtask) (c : CanonFunc) (follows : After) (r : TypedValue) (w : World) → IsSmall r.value → Holds ground w → Keeps ground (passed_to g t subtask c follows r w)
  unfolding passed_to
  passed_to_keeps t subtask c follows r w small h = (h, result_adds (defines g (inst_of_canon c)) (options_of_canon c).is_async r.val_type r.value subtask.words small)

  passed_on_keeps : (t : ℕ) (caller : Caller) (follows : After) (result : Option TypedValue) (w : World) → IsSmallResult result → Holds ground w → Keeps ground (passed_on g t caller follows result w)
  unfolding passed_on
  passed_on_keeps t (Guest subtask) follows (Some r) w small h = given_keeps ground (canon_at g subtask.canon) _ (λ c e. passed_to_keeps t subtask c follows r w small h)
  passed_on_keeps t (Guest subtask) follows None w small h = finished_keeps follows w h
  passed_on_keeps t Nobody follows result w small h = finished_keeps follows w h
  passed_on_keeps t (Host call values) follows result w small h = finished_keeps follows w h

  resolves_to_keeps : (t : ℕ) (task : Task) (follows : After) (result : Option TypedValue) (w : World) → IsSmallResult result → Holds ground w → Keeps ground (resolves_to g t task follows result w)
  unfolding resolves_to
  resolves_to_keeps t task follows result w small h =
      fault_keeps ground t task_name (resolving_fault (task_view g w t task)) w _ h
      (behind_keeps ground (line.Return t result ∷ []) (passed_on g t task.caller follows result (resolved t Returned w))
      (passed_on_keeps t task.caller follows result (resolved t Returned w) small (task_so ground w t _ (λ x k. k) h)))

  pub resolves_keeps : (t : ℕ) (task : Task) (follows : After) (i limit : ℕ) (type : Option ValType) (options : Options) (words : List ℕ) (w : World) → Holds ground w
      → Keeps ground (resolves g t task follows (result_passed i t limit type options words w))
  unfolding resolves
  resolves_keeps t task follows i limit type options words w h =
      came_keeps ground IsSmallResult t (result_passed i t limit type options words w) (λ result v. resolves_to g t task follows result v)
      (result_keeps i t (Holds ground) (Unit {0}) (removes ground) (waits ground) (lends ground i t) limit type (λ b. tt) options words w h)
      (result_small i t limit type options words w h.0.reps) (λ result v small k. resolves_to_keeps t task follows result v small k)

  -- Elements.
  elements_read_keeps : (t : ℕ) (e : EndRef) (size : ℕ) (read : OpenCopy) (c : CanonFunc) (element : ValType) (all : List Value) (w : World) → AreSmall all → Holds ground w
      → Keeps ground (elements_read g t e size read c element all w)
  unfolding elements_read
  elements_read_keeps t e size read c element all w small h = (h, elements_plan_add (defines g (inst_of_canon c)) element all (next_place element read) small)

  pub moved_by_keeps : (t : ℕ) (e : EndRef) (call read write : OpenCopy) (reading writing : CanonFunc) (count : ℕ) (element : Option ValType) (w : World) → Holds ground w
      → Keeps ground (moved_by g t e call read write reading writing count element w)
  unfolding moved_by elements_written
  moved_by_keeps t e call read write reading writing count None w h = (h, tt)
  moved_by_keeps t e call read write reading writing count (Some element) w h =
      came_keeps ground AreSmall t (elements_written t write writing count element w) (λ all later. elements_read g t e call.length read reading element all later)
      (elements_keep (inst_of_canon writing) t (Holds ground) (Unit {0}) (removes ground) (waits ground) (lends ground (inst_of_canon writing) t) element (λ b. tt) _ _ count w h)
      (elements_small (inst_of_canon writing) t element _ _ count w h.0.reps) (λ all later small k. elements_read_keeps t e call.length read reading element all later small k)
