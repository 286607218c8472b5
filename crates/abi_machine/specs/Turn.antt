-- What comes next in a run (Component Model, Concurrency.md, "Summary"): a step with its lines, or the end.
use Rattle.std.specs.Prelude.{ℕ, nat_lt, Bool, true, false, if◌then◌else◌, List, [], ◌∷◌, ◌++◌, Option, Some, None, Result, Ok, Err}
use Rattle.handle_table.specs.History.{live_count, most_live, next_index}
use Rattle.comp_graph.specs.Graph.{Lifted}
use Rattle.trace_labels.specs.declared.label.Label.{Label}
use Rattle.trace_labels.specs.declared.label.Label.TheVariants as line
use Rattle.trace_labels.specs.declared.label.BlockReason.{BlockReason}
use Rattle.trace_labels.specs.declared.trap.TrapName.{TrapName}
use Rattle.trace_labels.specs.declared.trap.TrapName.TheVariants as trap
use Rattle.abi_machine.specs.declared.run_end.RunEnd.{RunEnd}
use Rattle.abi_machine.specs.declared.run_end.RunEnd.TheVariants.{Fuel}
use Rattle.script_reader.specs.Script.{Script}
use Rattle.abi_machine.specs.Control.{Control, Runs, Doomed}
use Rattle.abi_machine.specs.World.{Entry, TaskState, Task, World}
use Rattle.abi_machine.specs.Edits.{with_control, unit_spent, entry_added, left_chain, in_state, answered}
use Rattle.abi_machine.specs.Reading.{table_of, acting, func_of}

pub data Turn : Type 0 where
  Steps : List Label → World → Turn
  Ends : RunEnd → Turn
  -- No rule applies.
  Stuck : Turn

-- a step to this control, without lines
abbrev pub silent : Control → World → Turn
silent control w = Steps [] (with_control control w)

-- A task has come to a trap. This step leaves what the task did before it, and the next move ends the run.
abbrev pub doomed : ℕ → TrapName → World → Turn
doomed t why w = silent (Doomed t why) w

-- what comes next, with lines in front
abbrev pub behind : List Label → Turn → Turn
behind lines (Steps more w) = Steps (lines ++ more) w
behind lines (Ends end) = Ends end
behind lines Stuck = Stuck

-- What comes of something that is looked up. Where nothing is there no rule applies.
abbrev pub given : {A : Type 0} → Option A → (A → Turn) → Turn
given None f = Stuck
given (Some x) f = f x

-- What comes of something that may be refused to a task, which is a trap.
abbrev pub unless_refused : {A : Type 0} → ℕ → Result A TrapName → World → (A → Turn) → Turn
unless_refused t (Err why) w f = doomed t why w
unless_refused t (Ok x) w f = f x

-- The same of a test that a task may not pass, and of a fault that may be found.
abbrev pub unless : ℕ → Bool → TrapName → World → Turn → Turn
unless t test why w more = if test then doomed t why w else more

abbrev pub unless_fault : {F : Type 0} → ℕ → (F → TrapName) → Option F → World → Turn → Turn
unless_fault t name None w more = more
unless_fault t name (Some fault) w more = doomed t (name fault) w

-- what comes of the acting task, by its number, and of the function that it runs
abbrev pub with_func : World → (ℕ → Task → Lifted → Turn) → Turn
with_func w more = given (acting w) (λ a. given (func_of a.1.callee) (λ f. more a.0 a.1 f))

-- The canonical function at which a task waits answers these words: the task goes on.
abbrev pub goes_on_with : ℕ → List ℕ → World → World
goes_on_with t words w = with_control Runs (answered t words w)

abbrev pub replied : ℕ → List ℕ → World → Turn
replied t words w = Steps (line.Got t words ∷ []) (goes_on_with t words w)

-- A task blocks, and is in this state. Control goes to the task before it.
abbrev pub blocked : ℕ → TaskState → BlockReason → World → Turn
blocked t state reason w = Steps (line.Block t reason ∷ []) (left_chain (in_state t state w))

-- A step that costs a unit of fuel comes where one is left, and spends it; else the run ends. This holds also where the step would
-- come to a trap.
abbrev pub charged : Bool → Script → World → (World → Turn) → Turn
charged false s w f = f w
charged true s w f = if nat_lt w.units s.fuel then f (unit_spent w) else Ends Fuel

-- An entry at the next index of an instance's table, which is a trap of a task where the table is full.
abbrev pub with_entry : ℕ → ℕ → Entry → World → (ℕ → World → Turn) → Turn
with_entry t i entry w more =
    if nat_lt (live_count (table_of w i)) most_live then more (next_index (table_of w i)) (entry_added i entry w) else doomed t trap.TableFull w
