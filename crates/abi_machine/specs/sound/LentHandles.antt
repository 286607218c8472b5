-- Handles that are lent (Component Model, CanonicalABI.md, "Subtask State": `Subtask.add_lender`, `Subtask.deliver_resolve`; `lift_own`, `canon
-- resource.drop`): from where one is lent for a call up to where the caller is told that the task has resolved, it stays lent, and what stands at
-- its index stays there.
use Rattle.std.specs.Prelude.{◌≡◌, ◌⊎◌, ℕ, List, Some}
use Rattle.std.specs.List.{slice_get}
use Rattle.comp_graph.specs.declared.graph.CanonFunc.{CanonFunc}
use Rattle.comp_graph.specs.Graph.{Graph}
use Rattle.script_reader.specs.Script.{Script}
use Rattle.trace_labels.specs.declared.label.Label.{Label}
use Rattle.abi_machine.specs.World.{Entry, Subtask, World}
use Rattle.abi_machine.specs.Canons.{inst_of_canon, canon_at}
use Rattle.abi_machine.specs.Reading.{entry_at}
use Rattle.abi_machine.specs.Turn.{Steps}
use Rattle.abi_machine.specs.Next.{next}
use Rattle.abi_machine.specs.sound.Initial.{RunsAlone}
use Rattle.abi_machine.specs.sound.Tables.{HaveHistories}
use Rattle.abi_machine.specs.sound.Acting.{IsOrdered}
use Rattle.abi_machine.specs.sound.Told.{AreTold}
use Rattle.abi_machine.specs.sound.Subtasks.{CallIs}
use Rattle.abi_machine.specs.sound.Cancels.{IsOver}
use Rattle.abi_machine.specs.sound.Owners.{IsApart, IsOwnWorld, IsControlOwn}
use Rattle.abi_machine.specs.sound.OwnCallers.{AreByOwn}
use Rattle.abi_machine.specs.sound.PassedTypes.{PassesNoBorrow, HoldsNoBorrow}
use Rattle.abi_machine.specs.sound.Loans.{HoldLoans}

-- A call by the canonical function of this number lends the handle at an index, as the one of this place among those that are lent for it.
abbrev pub Lends : ℕ → ℕ → ℕ → Subtask → Type 0
Lends number place index subtask = (subtask.canon ≡ number) × (slice_get subtask.lends place ≡ Some index)

abbrev pub HandlesStayLent : Type 0
HandlesStayLent =
    (g : Graph) (s : Script) (w v : World) (labels : List Label) → IsApart g → PassesNoBorrow g → RunsAlone w → IsOrdered w → HaveHistories w.insts → AreTold w.tasks → HoldsNoBorrow w → IsOwnWorld g w
    → IsControlOwn g w.control w → AreByOwn g w.tasks → HoldLoans g w.tasks w.insts → next g s w ≡ Steps labels v → (t number place index : ℕ) (c : CanonFunc) (x : Entry) → canon_at g number ≡ Some c
    → CallIs w.tasks t (Lends number place index) → entry_at w (inst_of_canon c) index ≡ Some x
    → CallIs v.tasks t IsOver ⊎ (CallIs v.tasks t (Lends number place index) × (entry_at v (inst_of_canon c) index ≡ Some x))
