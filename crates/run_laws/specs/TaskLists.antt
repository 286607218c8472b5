-- Lists of tasks that are kept beside the tasks (Component Model, Concurrency.md, "Summary" and "Cancellation"): the tasks that have not exited, those of them
-- that do not wait for exclusive entry, and those that do not wait to enter, and the tasks of the script's calls are as they follow from the tasks. With the
-- marks of tables and tasks they give that the same tasks can go on on both sides, that the same tasks have not exited, and that a cancellation of the script
-- agrees.
use Rattle.std.specs.Prelude.{◌≡◌, ℕ, Bool, not, ◌&&◌, List, map, filter, length, take, Option, Some, None, IsSome}
use Rattle.std.specs.List.{slice_get, count_by}
use Rattle.std.specs.Option.{option_and_then}
use Rattle.syntax_trees.specs.declared.types.ValType.{ValType}
use Rattle.wasm_store.specs.Stack.{Stack}
use Rattle.entry_gate.specs.Kinds.{needs_entry}
use Rattle.tasks.specs.Tasks.{waits_to_enter}
use Rattle.comp_graph.specs.Graph.{Graph, Lifted}
use Rattle.script_reader.specs.Script.{Script}
use Rattle.programs.specs.declared.program.Program.{Program}
use Rattle.task_table.specs.declared.caller.Caller.{Caller}
use Rattle.task_table.specs.declared.caller.Caller.TheVariants as by
use Rattle.task_table.specs.declared.slot.TaskSlot.{TaskSlot}
use Rattle.task_table.specs.Slots.{has_exited}
use Rattle.task_table.specs.Tasks.{Watched}
use Rattle.world_parts.specs.Channels.{numbered}
use Rattle.world_parts.specs.Held.{Held}
use Rattle.world_stacks.specs.Views.{PileView}
use Rattle.abi_machine.specs.Control.{Free}
use Rattle.abi_machine.specs.World.{Task, World}
use Rattle.abi_machine.specs.Reading.{func_of, with_numbers}
use Rattle.abi_machine.specs.Scheduling.{is_call}
use Rattle.standing.specs.Stands.{Stands}
use Rattle.standing.specs.Channels.{HasMarkedEnds}
use Rattle.standing.specs.KeptMarks.{HasMarks}
use Rattle.standing.specs.News.{CopiesWait}
use Rattle.run_laws.specs.Points.{stacks_at}
use Rattle.run_laws.specs.Steps.{IsReached, MayTurn}
use Rattle.run_laws.specs.Turns.{IsProgram, CancelRow, TurnKept}

-- The numbers of the tasks that pass a test.
abbrev pub numbers_in : (TaskSlot → Bool) → List TaskSlot → List ℕ
numbers_in test tasks = map (λ (x : ℕ × TaskSlot). x.0) (filter (λ (x : ℕ × TaskSlot). test x.1) (with_numbers 0 tasks))

-- A task has not exited; and it does not wait for exclusive entry, or not to enter.
abbrev pub is_open : TaskSlot → Bool
is_open slot = not (has_exited slot.task.phase)

abbrev pub waits_apart : TaskSlot → Bool
waits_apart slot = waits_to_enter slot.task.phase && needs_entry slot.task.kind

abbrev pub is_watched : TaskSlot → Bool
is_watched slot = is_open slot && not (waits_apart slot)

abbrev pub is_awake : TaskSlot → Bool
is_awake slot = is_open slot && not (waits_to_enter slot.task.phase)

pub record OpensMarked (live : List ℕ) (watched : Watched) (tasks : List TaskSlot) : Type 0 where
  pub open_ones : live ≡ numbers_in is_open tasks
  pub watched_ones : watched.all ≡ numbers_in is_watched tasks
  pub awake_ones : watched.awake ≡ numbers_in is_awake tasks

-- The script's call of which this caller is, and that whose task is the one of a number. Calls are counted from 1.
abbrev pub call_of : Caller → Option ℕ
call_of by.Nobody = None
call_of (by.Host call) = Some call
call_of (by.Guest called) = None

abbrev pub called_at : List TaskSlot → ℕ → Option ℕ
called_at tasks t = option_and_then (λ (slot : TaskSlot). call_of slot.caller) (slice_get tasks t)

-- The tasks of calls, in the order of these.
pub record CallsMarked (calls : List ℕ) (tasks : List TaskSlot) : Type 0 where
  pub made : (call t : ℕ) → numbered calls call ≡ Some t → called_at tasks t ≡ Some call
  pub kept : (call t : ℕ) → called_at tasks t ≡ Some call → numbered calls call ≡ Some t

-- All these lists; as many calls are kept as were taken.
pub record ListsMarked (s : Script) (live : List ℕ) (watched : Watched) (numbers : List ℕ) (count : ℕ) (tasks : List TaskSlot) : Type 0 where
  pub opens : OpensMarked live watched tasks
  pub calls : CallsMarked numbers tasks
  pub taken : length numbers ≡ count_by is_call (take count s.items)

abbrev pub HasLists : Script → Held → Type 0
HasLists s h = ListsMarked s h.live h.watched h.calls h.taken h.tasks

-- The component instances of all functions that run are there; and, besides, a copy that is to be told is waited for directly
-- exactly where its call waits, and ends are marked.
pub record StillAskedOfTurns (g : Graph) (h : Held) (w : World) : Type 0 where
  pub instances :
      (n : ℕ) (task : Task) (f : Lifted) → slice_get w.tasks n ≡ Some task → func_of task.callee ≡ Some f → IsSome (slice_get w.insts f.instance)
  pub copies : (at : ℕ) → CopiesWait g w at
  pub ends : HasMarkedEnds h

-- Where no task runs the same tasks can go on, whatever was picked before, and the same ones have not exited.
abbrev pub TurnsAreKept : Type 0
TurnsAreKept =
    (g : Graph) (values : List ValType) (s : Script) (h : Held) (stacks : List (List Stack)) (w : World)
    → IsReached g s w → w.control ≡ Free → Stands g values s h stacks w → HasMarks h → HasLists s h → StillAskedOfTurns g h w → TurnKept g s h w

-- A cancellation of the script is taken as the machine takes it.
abbrev pub CancelsAgree : Type 0
CancelsAgree =
    (g : Graph) (values : List ValType) (s : Script) (h : Held) (stacks : List (List Stack)) (w : World)
    → IsReached g s w → Stands g values s h stacks w → HasMarks h → CallsMarked h.calls h.tasks → StillAskedOfTurns g h w → CancelRow g values s h stacks w

-- So what a step asks where no task runs follows, of a program of the graph and the script.
abbrev pub TurnsMayCome : Type 0
TurnsMayCome =
    (p : Program) (values : List ValType) (s : Script) (h : Held) (piles : List PileView) (w : World)
    → IsProgram p.graph.now s p → IsReached p.graph.now s w → w.control ≡ Free → Stands p.graph.now values s h (stacks_at piles) w → HasMarks h → HasLists s h
    → StillAskedOfTurns p.graph.now h w → MayTurn p values s h piles w
