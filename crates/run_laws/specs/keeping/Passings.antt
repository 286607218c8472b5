-- Values that are passed, of every kind, keep all marks (Component Model, CanonicalABI.md, "Lifting and Lowering Values", `canon lift`, `canon task.return`): a task's
-- arguments as it enters, its result, what follows the end of its core function or its callback, and elements that go over.
use Rattle.std.specs.Prelude.{◌≡◌, ℕ, ◌-◌, List, length, Option, Some, None}
use Rattle.std.specs.List.{slice_get}
use Rattle.entry_gate.specs.declared.kind.Kind.{Kind}
use Rattle.entry_gate.specs.declared.kind.Kind.TheVariants.{Sync, Callback, Stackful}
use Rattle.instances.specs.Instances.{InstanceView}
use Rattle.task_table.specs.declared.slot.TaskSlot.{TaskSlot}
use Rattle.programs.specs.declared.program.Program.{Program}
use Rattle.programs.specs.Program.{returned_of, value_of}
use Rattle.world_parts.specs.declared.parts.Flow.{Flow}
use Rattle.world_parts.specs.Held.{Held, Done}
use Rattle.value_parts.specs.declared.to_pass.Passing.{Passing}
use Rattle.value_parts.specs.declared.to_pass.Passing.TheVariants as passing
use Rattle.value_moves.specs.Passing.{call_at, Passes}
use Rattle.standing.specs.MarksKept.{StandOnce}
use Rattle.run_laws.specs.keeping.Kept.{KeepsMarks, RunsFunction, EntersFree, OneHolds}
use Rattle.run_laws.specs.keeping.Tables.{TablesWell}
use Rattle.run_laws.specs.keeping.Liftings.{ArgumentsLendWell}
use Rattle.run_laws.specs.keeping.Lowerings.{RunsInOwn, HoldsNoBorrow}

-- A task that enters runs a function in its own instance, to which none bars it.
pub record EntersSo (p : Program) (t : ℕ) (h : Held) : Type 0 where
  pub runs : RunsFunction h t
  pub free : EntersFree h t
  pub lends : ArgumentsLendWell p t h
  pub own : RunsInOwn p t h

-- The result of a task holds no borrow.
abbrev pub ResultHoldsNone : Program → ℕ → Held → Type 0
ResultHoldsNone p t h = (slot : TaskSlot) → slice_get h.tasks t ≡ Some slot → HoldsNoBorrow p (returned_of p slot.callee)

-- Nor does that which `task.return` gives, by its canonical function.
abbrev pub ReturnsSo : Program → ℕ → Held → Type 0
ReturnsSo p t h = ((number : ℕ) → call_at h.rest ≡ Some number → HoldsNoBorrow p (value_of p number)) × ResultHoldsNone p t h

-- A core function or a callback has ended, by how its function is lifted: behind one with a callback one task at most holds entry, and each set of the instance
-- stands at one index.
pub record BlocksSo (t : ℕ) (h : Held) : Type 0 where
  pub runs : RunsFunction h t
  pub one : OneHolds h
  pub once : (slot : TaskSlot) (i : InstanceView) → slice_get h.tasks t ≡ Some slot → slice_get h.instances slot.instance ≡ Some i → StandOnce i

abbrev pub EndsBy : Program → ℕ → Held → Kind → Type 0
EndsBy p t h Sync = ResultHoldsNone p t h
EndsBy p t h Callback = BlocksSo t h
EndsBy p t h Stackful = Unit {0}

abbrev pub PassesSo : Program → ℕ → Held → Passing → Type 0
PassesSo p t h passing.Nothing = Unit {0}
PassesSo p t h passing.Arguments = EntersSo p t h
PassesSo p t h passing.Returned = ReturnsSo p t h
PassesSo p t h (passing.Ended words) = (slot : TaskSlot) → slice_get h.tasks t ≡ Some slot → EndsBy p t h slot.task.kind
PassesSo p t h (passing.Elements copying) = HoldsNoBorrow p (value_of p copying.canon)

-- So it is of the acting task.
abbrev pub PassingsKeepMarks : Type 0
PassingsKeepMarks =
    (p : Program) (x : Passing) (h : Held) (d : Done Flow) → ((t : ℕ) → slice_get h.chain (length h.chain - 1) ≡ Some t → PassesSo p t h x) → TablesWell h → Passes p x h d
    → KeepsMarks h d
