-- What is asked for marks to stay, where it follows from that what is kept stands for a world (Component Model, CanonicalABI.md, "Table State"): the tables of
-- instances are sound. Where a run reaches that world ("Task State", "Subtask State", "Resource State", "Waitable Set State"; Concurrency.md, "Cancellation"),
-- numbers name tasks, nothing is lent and no task waits where the next entry will stand, calls that were told to have resolved lend nothing, whose cancellation
-- is asked was not cancelled, and one task at most holds entry to an instance; each task but that which instantiates runs a function; and one that waits for the
-- task that it called is the caller of that one.
use Rattle.std.specs.Prelude.{◌≡◌, ◌≤◌, ℕ, true, List, Some}
use Rattle.std.specs.List.{slice_get}
use Rattle.syntax_trees.specs.declared.types.ValType.{ValType}
use Rattle.wasm_store.specs.Stack.{Stack}
use Rattle.handle_table.specs.Slots.{next_of}
use Rattle.comp_graph.specs.Graph.{Graph, Lifted}
use Rattle.script_reader.specs.Script.{Script}
use Rattle.instances.specs.Instances.{InstanceView}
use Rattle.world_parts.specs.Held.{Held}
use Rattle.abi_machine.specs.World.{Task, World}
use Rattle.abi_machine.specs.Reading.{func_of, may_leave}
use Rattle.abi_machine.specs.sound.Called.{CalledBy}
use Rattle.standing.specs.Stands.{Stands}
use Rattle.standing.specs.KeptMarks.{waiters_at}
use Rattle.run_laws.specs.KeptMarks.{SetsApart}
use Rattle.run_laws.specs.Reached.{StandsReached}
use Rattle.run_laws.specs.keeping.Kept.{NumbersThere, TableIsSound, NextIsUnlent, NoneWaitsNext, CalledFrom, ToldGaveBack, AskedAreOpen, RunsFunction, OneHolds}
use Rattle.run_laws.specs.keeping.Moves.{ActingRuns}

abbrev pub TablesAreSound : Type 0
TablesAreSound =
    (g : Graph) (values : List ValType) (s : Script) (h : Held) (stacks : List (List Stack)) (w : World) (at : ℕ) → Stands g values s h stacks w → TableIsSound h at

-- What follows for each instance of the world is said of each number.
abbrev pub NumbersAreThere : Type 0
NumbersAreThere = (g : Graph) (values : List ValType) (s : Script) (h : Held) (stacks : List (List Stack)) (w : World) → StandsReached g values s h stacks w → NumbersThere h

abbrev pub NothingIsLentNext : Type 0
NothingIsLentNext =
    (g : Graph) (values : List ValType) (s : Script) (h : Held) (stacks : List (List Stack)) (w : World) (at : ℕ) → StandsReached g values s h stacks w → NextIsUnlent h at

abbrev pub NoTaskWaitsNext : Type 0
NoTaskWaitsNext =
    (g : Graph) (values : List ValType) (s : Script) (h : Held) (stacks : List (List Stack)) (w : World) (at : ℕ) → StandsReached g values s h stacks w → NoneWaitsNext h at

-- nor on a set there
abbrev pub NoSetIsWaitedOnNext : Type 0
NoSetIsWaitedOnNext =
    (g : Graph) (values : List ValType) (s : Script) (h : Held) (stacks : List (List Stack)) (w : World) (at : ℕ) (i : InstanceView) → StandsReached g values s h stacks w
    → slice_get h.instances at ≡ Some i → waiters_at h.tasks at (next_of i.slots) ≡ 0

-- Sets stand apart, so that all that is asked of a call for the marks of sets is so.
abbrev pub SetsAreApart : Type 0
SetsAreApart =
    (g : Graph) (values : List ValType) (s : Script) (h : Held) (stacks : List (List Stack)) (w : World) (at : ℕ) → StandsReached g values s h stacks w → SetsApart h at

abbrev pub ToldHaveGivenBack : Type 0
ToldHaveGivenBack = (g : Graph) (values : List ValType) (s : Script) (h : Held) (stacks : List (List Stack)) (w : World) → StandsReached g values s h stacks w → ToldGaveBack h

abbrev pub AskedWereNotCancelled : Type 0
AskedWereNotCancelled =
    (g : Graph) (values : List ValType) (s : Script) (h : Held) (stacks : List (List Stack)) (w : World) → StandsReached g values s h stacks w → AskedAreOpen h

abbrev pub OneHoldsEntry : Type 0
OneHoldsEntry = (g : Graph) (values : List ValType) (s : Script) (h : Held) (stacks : List (List Stack)) (w : World) → StandsReached g values s h stacks w → OneHolds h

-- Tasks are counted from 0, where task 0 instantiates; once all is instantiated another one acts.
abbrev pub TasksRunFunctions : Type 0
TasksRunFunctions =
    (g : Graph) (values : List ValType) (s : Script) (h : Held) (stacks : List (List Stack)) (w : World) (t : ℕ) → StandsReached g values s h stacks w → 1 ≤ t → RunsFunction h t

abbrev pub ActingRunsFunction : Type 0
ActingRunsFunction =
    (g : Graph) (values : List ValType) (s : Script) (h : Held) (stacks : List (List Stack)) (w : World) → StandsReached g values s h stacks w → may_leave w ≡ true → ActingRuns h

abbrev pub WaitingCalled : Type 0
WaitingCalled =
    (g : Graph) (values : List ValType) (s : Script) (h : Held) (stacks : List (List Stack)) (w : World) (t callee number : ℕ) (task : Task) (f : Lifted)
    → StandsReached g values s h stacks w → slice_get w.tasks t ≡ Some task → func_of task.callee ≡ Some f → CalledBy task.state callee number → CalledFrom h f.instance callee
