-- Loans in worlds that a run reaches (Component Model, CanonicalABI.md, "Subtask State": `Subtask.add_lender`, `Subtask.deliver_resolve`): each handle
-- that is lent for a call stands in the table of the instance that calls; and from there on, through all steps that follow, it stays lent and what
-- stands at its index stays there, until the caller is told that the task has resolved, which it then stays.
use Rattle.std.specs.Prelude.{◌≡◌, ◌⊎◌, ℕ, List, Some}
use Rattle.comp_graph.specs.declared.graph.CanonFunc.{CanonFunc}
use Rattle.comp_graph.specs.Graph.{Graph}
use Rattle.script_reader.specs.Script.{Script}
use Rattle.trace_labels.specs.declared.label.Label.{Label}
use Rattle.abi_machine.specs.World.{Entry, World, first_world}
use Rattle.abi_machine.specs.Canons.{inst_of_canon, canon_at}
use Rattle.abi_machine.specs.Reading.{entry_at}
use Rattle.abi_machine.specs.Run.{Reaches}
use Rattle.abi_machine.specs.sound.Subtasks.{CallIs}
use Rattle.abi_machine.specs.sound.Cancels.{IsOver}
use Rattle.abi_machine.specs.sound.Owners.{IsApart}
use Rattle.abi_machine.specs.sound.OwnCallers.{AreByOwn}
use Rattle.abi_machine.specs.sound.PassedTypes.{PassesNoBorrow, HoldsNoBorrow}
use Rattle.abi_machine.specs.sound.Loans.{HoldLoans}
use Rattle.abi_machine.specs.sound.LentHandles.{Lends}

-- what holds of loans
pub record HoldsLent (g : Graph) (w : World) : Type 0 where
  pub loans : HoldLoans g w.tasks w.insts
  pub callers : AreByOwn g w.tasks
  pub types : HoldsNoBorrow w

abbrev pub ReachedHoldLoans : Type 0
ReachedHoldLoans = (g : Graph) (s : Script) (steps : List (List Label)) (w : World) → IsApart g → PassesNoBorrow g → Reaches g s (first_world g) steps w → HoldsLent g w

abbrev pub ReachedStayLent : Type 0
ReachedStayLent =
    (g : Graph) (s : Script) (steps more : List (List Label)) (w v : World) → IsApart g → PassesNoBorrow g → Reaches g s (first_world g) steps w → Reaches g s w more v
    → (t number place index : ℕ) (c : CanonFunc) (x : Entry) → canon_at g number ≡ Some c → CallIs w.tasks t (Lends number place index) → entry_at w (inst_of_canon c) index ≡ Some x
    → CallIs v.tasks t IsOver ⊎ (CallIs v.tasks t (Lends number place index) × (entry_at v (inst_of_canon c) index ≡ Some x))

-- In each world that is reached a subtask of which its caller was told that it has resolved stays so.
abbrev pub ReachedStayOver : Type 0
ReachedStayOver =
    (g : Graph) (s : Script) (steps more : List (List Label)) (w v : World) → IsApart g → Reaches g s (first_world g) steps w → Reaches g s w more v → (t : ℕ) → CallIs w.tasks t IsOver
    → CallIs v.tasks t IsOver
