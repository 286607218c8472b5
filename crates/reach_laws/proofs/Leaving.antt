-- Turns whose steps leave worlds with a property.
use Rattle.std.proofs.Common.{◌≡◌, ◌+◌, ℕ, Bool, true, false, if◌then◌else◌, nat_lt, List, refl, Option, Some, None, Result, Ok, Err}
use Rattle.handle_table.specs.History.{live_count, most_live, next_index}
use Rattle.comp_graph.specs.Graph.{Lifted}
use Rattle.script_reader.specs.Script.{Script}
use Rattle.trace_labels.specs.declared.label.Label.{Label}
use Rattle.trace_labels.specs.declared.trap.TrapName.{TrapName}
use Rattle.trace_labels.specs.declared.trap.TrapName.TheVariants as trap
use Rattle.abi_machine.specs.declared.run_end.RunEnd.TheVariants.{Fuel}
use Rattle.abi_machine.specs.Control.{Doomed}
use Rattle.abi_machine.specs.World.{Entry, Subtask, Task, World}
use Rattle.abi_machine.specs.Edits.{with_control, unit_spent, entry_added}
use Rattle.abi_machine.specs.Reading.{table_of, acting, func_of, subtask_of, task_at}
use Rattle.abi_machine.specs.Lifting.{Kept, Stopped, Came, once_lifted}
use Rattle.abi_machine.specs.Turn.{Turn, Steps, Ends, Stuck, doomed, behind, given, unless_refused, unless, unless_fault, with_func, charged, with_entry}
use Rattle.abi_machine.specs.Calling.{with_subtask_of}

module _ (P : World → Type 0) where
  abbrev pub Leaves : Turn → Type 0
  Leaves (Steps labels v) = P v
  Leaves (Ends end) = Unit {0}
  Leaves Stuck = Unit {0}

  pub behind_leaves : (lines : List Label) (t : Turn) → Leaves t → Leaves (behind lines t)
  behind_leaves lines (Steps labels v) h = h
  behind_leaves lines (Ends end) h = tt
  behind_leaves lines Stuck h = tt

  pub given_leaves : {A : Type 0} (o : Option A) (f : A → Turn) → ((x : A) → o ≡ Some x → Leaves (f x)) → Leaves (given o f)
  given_leaves None f h = tt
  given_leaves (Some x) f h = h x refl

  pub either_leaves : (b : Bool) (t u : Turn) → (b ≡ true → Leaves t) → (b ≡ false → Leaves u) → Leaves (if b then t else u)
  either_leaves true t u h k = h refl
  either_leaves false t u h k = k refl

  pub unless_leaves : (t : ℕ) (b : Bool) (why : TrapName) (w : World) (more : Turn) → P (with_control (Doomed t why) w) → (b ≡ false → Leaves more) → Leaves (unless t b why w more)
  unless_leaves t true why w more h k = h
  unless_leaves t false why w more h k = k refl

  pub fault_leaves : {F : Type 0} (t : ℕ) (name : F → TrapName) (o : Option F) (w : World) (more : Turn) → ((why : TrapName) → P (with_control (Doomed t why) w)) → Leaves more → Leaves (unless_fault t name o w more)
  fault_leaves t name None w more h k = k
  fault_leaves t name (Some fault) w more h k = h (name fault)

  pub refused_leaves : {A : Type 0} (t : ℕ) (r : Result A TrapName) (w : World) (f : A → Turn) → ((why : TrapName) → P (with_control (Doomed t why) w)) → ((x : A) → r ≡ Ok x → Leaves (f x)) → Leaves (unless_refused t r w f)
  refused_leaves t (Err why) w f h k = h why
  refused_leaves t (Ok x) w f h k = k x refl

  pub charged_leaves : (costs : Bool) (s : Script) (w : World) (f : World → Turn) → ((units : ℕ) → Leaves (f (record w { units = units }))) → Leaves (charged costs s w f)
  charged_leaves false s w f h = h w.units
  charged_leaves true s w f h = either_leaves (nat_lt w.units s.fuel) (f (unit_spent w)) (Ends Fuel) (λ e. h (w.units + 1)) (λ e. tt)

  pub func_leaves : (w : World) (more : ℕ → Task → Lifted → Turn) → ((a : ℕ × Task) (f : Lifted) → acting w ≡ Some a → func_of a.1.callee ≡ Some f → Leaves (more a.0 a.1 f)) → Leaves (with_func w more)
  func_leaves w more h = given_leaves (acting w) _ (λ a e. given_leaves (func_of a.1.callee) _ (λ f k. h a f e k))

  pub subtask_leaves : (w : World) (callee : ℕ) (more : Task → Subtask → Turn) → ((task : Task) (subtask : Subtask) → Leaves (more task subtask)) → Leaves (with_subtask_of w callee more)
  subtask_leaves w callee more h = given_leaves (task_at w callee) _ (λ task e. given_leaves (subtask_of task.caller) _ (λ subtask k. h task subtask))

  pub entry_leaves : (t i : ℕ) (entry : Entry) (w : World) (more : ℕ → World → Turn) → P (with_control (Doomed t trap.TableFull) w) → Leaves (more (next_index (table_of w i)) (entry_added i entry w)) → Leaves (with_entry t i entry w more)
  entry_leaves t i entry w more h k = either_leaves (nat_lt (live_count (table_of w i)) most_live) (more (next_index (table_of w i)) (entry_added i entry w)) _ (λ e. k) (λ e. h)

  pub came_leaves : {A : Type 0} (t : ℕ) (came : Came A) (more : A → World → Turn) → ((x : A × Kept) → came ≡ Ok x → Leaves (more x.0 x.1.world))
      → ((stop : Stopped) → came ≡ Err stop → P (with_control (Doomed t stop.why) stop.world)) → Leaves (once_lifted t came more)
  came_leaves t (Ok x) more h k = behind_leaves x.1.lines (more x.0 x.1.world) (h x refl)
  came_leaves t (Err stop) more h k = behind_leaves stop.lines (doomed t stop.why stop.world) (k stop refl)
