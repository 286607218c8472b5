-- The moves of core functions (Core 2.0, section 4.4; Component Model, CanonicalABI.md, `canon lift`, `canon resource.drop`): the acting
-- task's stack makes a move. An instruction costs a unit, also where it calls a function of the host or traps. The end of a block or a
-- function costs none, and neither does a function of the host that runs alone.
use Rattle.std.specs.Prelude.{ℕ, nat_lt, Bool, List, [], ◌∷◌, drop}
use Rattle.std.specs.List.{slice_get}
use Rattle.wasm_store.specs.Stack.{Stack}
use Rattle.wasm_store.specs.Step.{Move, Goes, Traps, next, cost}
use Rattle.wasm_store.specs.Step as core
use Rattle.entry_gate.specs.declared.kind.Kind.{Kind}
use Rattle.entry_gate.specs.declared.kind.Kind.TheVariants.{Sync, Callback, Stackful}
use Rattle.comp_graph.specs.Graph.{Graph, Lifted}
use Rattle.abi_machine.specs.Traps.{core_name}
use Rattle.script_reader.specs.Script.{Script}
use Rattle.abi_machine.specs.Control.{Instantiates, Runs, Calls}
use Rattle.abi_machine.specs.World.{Acting, Begins, TaskState, Task, World}
use Rattle.abi_machine.specs.Edits.{with_store, in_state, with_stack, unstacked}
use Rattle.abi_machine.specs.Reading.{acting, func_of, kind_of}
use Rattle.abi_machine.specs.Turn.{Turn, Stuck, silent, doomed, given, replied, charged}
use Rattle.abi_machine.specs.Returning.{returning_turn, ending_turn}
use Rattle.abi_machine.specs.Looping.{looping_turn}

-- whether a move of a stack costs a unit
abbrev pub costs : Stack → Move → Bool
costs k move = nat_lt 0 (cost k move)

-- The core function or the callback of a task has ended with these words, by how the task's function is lifted.
unfoldable pub func_ended : Graph → ℕ → Task → Lifted → Kind → List ℕ → World → Turn
func_ended g t task f Sync words w = returning_turn g t task f words w
func_ended g t task f Stackful words w = ending_turn t task w
func_ended g t task f Callback words w = looping_turn t task f.instance words w

-- A task's last stack has ended: that of a start function, behind which instantiation goes on, or that of the task's function.
unfoldable pub stack_ended : Graph → ℕ → Task → TaskState → List ℕ → World → Turn
stack_ended g t task (Begins n) words w = silent (Instantiates n) (in_state t Acting w)
stack_ended g t task Acting words w = given (func_of task.callee) (λ f. func_ended g t task f (kind_of task) words w)
stack_ended g t task state words w = Stuck

-- Under a destructor's stack waits the one whose `resource.drop` runs it.
unfoldable pub ended_over : Graph → ℕ → Task → List Stack → List ℕ → World → Turn
ended_over g t task [] words w = stack_ended g t task task.state words w
ended_over g t task (k ∷ under) words w = replied t [] w

-- The function of the host with this address is the canonical function of this number.
unfoldable pub moved : Graph → ℕ → Task → Move → World → Turn
moved g t task (Goes paid s k) w = silent Runs (with_stack t k (with_store s w))
moved g t task (core.Calls address words k) w = silent (Calls address words) (with_stack t k w)
moved g t task (core.Ends words) w = ended_over g t task (drop 1 task.stacks) words (unstacked t w)
moved g t task (Traps why) w = doomed t (core_name why) w
moved g t task core.Stuck w = Stuck

unfoldable pub running_turn : Graph → Script → World → Turn
running_turn g s w =
    given (acting w) (λ a. given (slice_get a.1.stacks 0) (λ k.
    charged (costs k (next w.store k)) s w (λ v. moved g a.0 a.1 (next w.store k) v)))
