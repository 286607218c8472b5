-- What callers are told of subtasks in the course of a run (Component Model, CanonicalABI.md, "Subtask State"; Concurrency.md, "Waitables and Waitable Sets"):
-- the states rise; that the task has resolved, as 2, 3 or 4, is told for the first time in one step, behind which no other state is told, but this one may
-- be told again; and a subtask stays in its table until then.
use Rattle.std.specs.Prelude.{◌≡◌, ◌≤◌, ◌⊎◌, ℕ, true, List, ◌∷◌, ◌++◌, Option, Some, None}
use Rattle.builtin_kinds.specs.declared.PlainBuiltin.TheVariants.{SubtaskDrop}
use Rattle.tasks.specs.declared.subtask_state.SubtaskState.{SubtaskState}
use Rattle.tasks.specs.Subtasks.{code_of, is_over}
use Rattle.comp_graph.specs.declared.graph.BuiltinKind.TheVariants.{Plain}
use Rattle.comp_graph.specs.declared.graph.CanonFunc.{CanonFunc}
use Rattle.comp_graph.specs.declared.graph.CanonFunc.TheVariants.{Builtin}
use Rattle.comp_graph.specs.Graph.{Graph}
use Rattle.script_reader.specs.Script.{Script}
use Rattle.trace_labels.specs.declared.label.Label.{Label}
use Rattle.abi_machine.specs.Control.{Control, Calls, Back, Resumes, Delivers}
use Rattle.abi_machine.specs.World.{Wait, InBuiltin, Task, World, first_world}
use Rattle.abi_machine.specs.Canons.{canon_at}
use Rattle.abi_machine.specs.Reading.{acting}
use Rattle.abi_machine.specs.Turn.{Steps}
use Rattle.abi_machine.specs.Next.{next}
use Rattle.abi_machine.specs.Run.{Reaches}
use Rattle.abi_machine.specs.sound.Subtasks.{StandsAt, CallIs}
use Rattle.abi_machine.specs.sound.Cancels.{IsOver, IsNotOver}

-- The caller of a task was told this state of the subtask last.
abbrev pub WasTold : World → ℕ → SubtaskState → Type 0
WasTold w t state = CallIs w.tasks t (λ subtask. subtask.told ≡ state)

-- a state, and one that was told last later on
pub record ComesBehind (state later : SubtaskState) : Type 0 where
  pub rises : code_of state ≤ code_of later
  pub stays : is_over state ≡ true → later ≡ state

-- From each world that a run reaches on.
abbrev pub StatesRiseAlong : Type 0
StatesRiseAlong =
    (g : Graph) (s : Script) (steps more : List (List Label)) (w v : World) → Reaches g s (first_world g) steps w → Reaches g s w more v
    → (t : ℕ) (state later : SubtaskState) → WasTold w t state → WasTold v t later → ComesBehind state later

-- In a step from a world to another one the caller of a task is told for the first time that it has resolved. Where a task cancels the subtask meanwhile, the
-- answer to this one may say the same once more; no event does, as `Events` has it.
abbrev pub IsFirstTold : World → World → ℕ → Type 0
IsFirstTold w v t = CallIs w.tasks t IsNotOver × CallIs v.tasks t IsOver

-- No later step is the first one.
abbrev pub FirstToldOnce : Type 0
FirstToldOnce =
    (g : Graph) (s : Script) (steps more : List (List Label)) (w v x y : World) (labels : List Label) → Reaches g s (first_world g) steps w
    → next g s w ≡ Steps labels v → Reaches g s v more x → (t : ℕ) → IsFirstTold w v t → IsFirstTold x y t → ⊥

-- Of the steps from the one world to the other one is the first.
pub record TellsOnTheWay (g : Graph) (s : Script) (w v : World) (more : List (List Label)) (t : ℕ) : Type 0 where
  pub before : List (List Label)
  pub labels : List Label
  pub behind : List (List Label)
  pub from : World
  pub to : World
  pub all : more ≡ before ++ labels ∷ behind
  pub comes : Reaches g s w before from
  pub step : next g s from ≡ Steps labels to
  pub goes : Reaches g s to behind v
  pub tells : IsFirstTold from to t

abbrev pub FirstToldInAStep : Type 0
FirstToldInAStep =
    (g : Graph) (s : Script) (steps more : List (List Label)) (w v : World) → Reaches g s (first_world g) steps w → Reaches g s w more v
    → (t : ℕ) → CallIs w.tasks t IsNotOver → CallIs v.tasks t IsOver → TellsOnTheWay g s w v more t

-- A subtask stands at its index until it is told so: where it does not any more, it was told so by then.
abbrev pub LeavesWhenTold : Type 0
LeavesWhenTold =
    (g : Graph) (s : Script) (steps more : List (List Label)) (w v : World) → Reaches g s (first_world g) steps w → Reaches g s w more v
    → (i index callee : ℕ) → StandsAt w.insts i index callee → CallIs v.tasks callee IsOver ⊎ StandsAt v.insts i index callee

-- A call of `subtask.drop`, in any world, takes out only a subtask of which its caller was told so before: what is told in its step is not enough.
abbrev pub IsDrop : Option CanonFunc → Type 0
IsDrop (Some (Builtin b)) = b.kind ≡ Plain SubtaskDrop
IsDrop other = ⊥

abbrev pub DropsWhatWasTold : Type 0
DropsWhatWasTold =
    (g : Graph) (s : Script) (w v : World) (labels : List Label) (number : ℕ) (words : List ℕ) → w.control ≡ Calls number words → IsDrop (canon_at g number)
    → next g s w ≡ Steps labels v → (i index callee : ℕ) → StandsAt w.insts i index callee → CallIs w.tasks callee IsOver ⊎ StandsAt v.insts i index callee

-- Callers are told where control is back at a task that called another one or cancelled it, where an event comes to a task, and where one goes on that was
-- blocked in a canonical function; that they are told nowhere else is not said. No subtask leaves its table in such a step.
abbrev pub IsInBuiltin : Option (ℕ × Task) → Type 0
IsInBuiltin (Some a) = (number : ℕ) × ((words : List ℕ) × ((wait : Wait) × (a.1.state ≡ InBuiltin number words wait)))
IsInBuiltin None = ⊥

abbrev pub MayTell : World → Control → Type 0
MayTell w Back = Unit {0}
MayTell w (Delivers set receiver pick) = Unit {0}
MayTell w Resumes = IsInBuiltin (acting w)
MayTell w other = ⊥

abbrev pub TellingTakesNoneOut : Type 0
TellingTakesNoneOut =
    (g : Graph) (s : Script) (steps : List (List Label)) (w v : World) (labels : List Label) → Reaches g s (first_world g) steps w → MayTell w w.control
    → next g s w ≡ Steps labels v → (i index callee : ℕ) → StandsAt w.insts i index callee → StandsAt v.insts i index callee
