-- Marks (Component Model, CanonicalABI.md, "Component Instance State", "Waitable Set State", "Resource State", "Task State"): what is answered to a call of a
-- canonical function leaves the marks of gates and of sets as they follow from the tasks; and marks supply what such a call asks of what is kept beside
-- the world.
use Rattle.std.specs.Prelude.{◌≡◌, ℕ, true, List, Option, Some, IsSome}
use Rattle.std.specs.List.{slice_get}
use Rattle.syntax_trees.specs.declared.types.ValType.{ValType}
use Rattle.wasm_store.specs.Stack.{Stack}
use Rattle.handle_table.specs.Slots.{next_of}
use Rattle.res_handles.specs.declared.handle.Handle.{Handle}
use Rattle.res_handles.specs.declared.handle.Ownership.TheVariants.{Borrow}
use Rattle.comp_graph.specs.declared.graph.CanonFunc.{CanonFunc}
use Rattle.comp_graph.specs.declared.graph.CanonFunc.TheVariants as canon
use Rattle.comp_graph.specs.Graph.{Graph, Lifted}
use Rattle.script_reader.specs.Script.{Script}
use Rattle.instances.specs.declared.entry.WorldEntry.TheVariants as entry
use Rattle.instances.specs.Instances.{InstanceView, entry_of}
use Rattle.world_parts.specs.Held.{Held}
use Rattle.machine_runs.specs.Calling.{canon_answered}
use Rattle.abi_machine.specs.World.{Task, World}
use Rattle.abi_machine.specs.Canons.{inst_of_canon, options_at}
use Rattle.standing.specs.Stands.{Stands}
use Rattle.standing.specs.Channels.{HasMarkedEnds}
use Rattle.standing.specs.Ends.{HasMemory}
use Rattle.standing.specs.KeptMarks.{waiters_at, HasMarks}
use Rattle.standing.specs.MarksKept.{StayBy, StandOnce, CallsIn}
use Rattle.standing.specs.Waits.{KeepsCalls}
use Rattle.run_laws.specs.Answering.{CallsOwn, IsSoundAt, IsBeside}

-- What is asked where a task calls it: of a built-in, that the instance which made it, and the task, are as `CallsIn` says.
abbrev pub CalledIn : Held → ℕ → CanonFunc → Type 0
CalledIn h t (canon.Lower l) = Unit {0}
CalledIn h t (canon.Builtin b) = CallsIn h t b.instance

abbrev pub AnswersKeepMarks : Type 0
AnswersKeepMarks = (g : Graph) (types : List (Option ℕ)) (t number : ℕ) (c : CanonFunc) (words : List ℕ) (h : Held) → CalledIn h t c → StayBy h (canon_answered g types t number c words h)

-- Each set stands at one index of a table, and no task waits where the next entry will stand.
pub record SetsApart (h : Held) (at : ℕ) : Type 0 where
  pub once : (i : InstanceView) → slice_get h.instances at ≡ Some i → StandOnce i
  pub next : (i : InstanceView) → slice_get h.instances at ≡ Some i → waiters_at h.tasks at (next_of i.slots) ≡ 0

-- The rest of what is asked of what is kept is so where it stands for a world in which the call is the task's own.
abbrev pub CallsAreIn : Type 0
CallsAreIn =
    (g : Graph) (values : List ValType) (s : Script) (h : Held) (stacks : List (List Stack)) (w : World) (t : ℕ) (task : Task) (f : Lifted) (c : CanonFunc)
    → CallsOwn w t task f c → IsSoundAt g w t (inst_of_canon c) → SetsApart h (inst_of_canon c) → Stands g values s h stacks w → CalledIn h t c

-- Beside marks, borrow handles name tasks that are there, the calls of subtasks in the table are kept, ends are marked, and options name the memories that
-- they name.
pub record IsBesideMarks (g : Graph) (h : Held) (w : World) (at : ℕ) : Type 0 where
  pub borrowers : (index task : ℕ) (i : InstanceView) (x : Handle) → slice_get h.instances at ≡ Some i → entry_of i index ≡ Some (entry.Handle x) → x.ownership ≡ Borrow task
      → IsSome (slice_get h.tasks task)
  pub calls : KeepsCalls h at
  pub ends : HasMarkedEnds h
  pub memories : (number : ℕ) → HasMemory h w (options_at g number)

abbrev pub MarksSupply : Type 0
MarksSupply =
    (g : Graph) (values : List ValType) (s : Script) (h : Held) (stacks : List (List Stack)) (w : World) (t at : ℕ) → Stands g values s h stacks w → HasMarks h → IsBesideMarks g h w at
    → IsBeside g h w t at
