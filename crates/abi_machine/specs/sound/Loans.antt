-- Loans (Component Model, CanonicalABI.md, "Subtask State": `Subtask.add_lender`, `Subtask.deliver_resolve`; `lift_own`, `lift_borrow`, `canon
-- resource.drop`): each handle that is lent for a call stands in the table of the instance that calls, until the caller is told that the task
-- has resolved; from then on none is lent for it. The lends of a handle are how often it stands among these.
use Rattle.std.specs.Prelude.{◌≡◌, ℕ, true, List, [], Some, IsSome}
use Rattle.std.specs.List.{slice_get, AllByRecursion}
use Rattle.handle_table.specs.History.{Event, live}
use Rattle.tasks.specs.Subtasks.{is_over}
use Rattle.comp_graph.specs.declared.graph.CanonFunc.{CanonFunc}
use Rattle.comp_graph.specs.Graph.{Graph}
use Rattle.script_reader.specs.Script.{Script}
use Rattle.trace_labels.specs.declared.label.Label.{Label}
use Rattle.abi_machine.specs.World.{Entry, Inst, Subtask, Caller, Nobody, Host, Guest, Task, World, first_world}
use Rattle.abi_machine.specs.Canons.{inst_of_canon, canon_at}
use Rattle.abi_machine.specs.Reading.{table_in}
use Rattle.abi_machine.specs.Turn.{Steps}
use Rattle.abi_machine.specs.Next.{next}
use Rattle.abi_machine.specs.sound.Initial.{RunsAlone}
use Rattle.abi_machine.specs.sound.Tables.{HaveHistories}
use Rattle.abi_machine.specs.sound.Acting.{IsOrdered}
use Rattle.abi_machine.specs.sound.Owners.{IsApart, IsOwnWorld, IsControlOwn}
use Rattle.abi_machine.specs.sound.OwnCallers.{AreByOwn}
use Rattle.abi_machine.specs.sound.Premises.{IsHandle}
use Rattle.abi_machine.specs.sound.PassedTypes.{PassesNoBorrow, HoldsNoBorrow}

abbrev pub HoldsHandle : List (Event Entry) → ℕ → Type 0
HoldsHandle table index = (entry : Entry) × (live table index ≡ Some entry) × IsHandle entry

abbrev pub table_of_canon : List Inst → CanonFunc → List (Event Entry)
table_of_canon insts c = table_in (slice_get insts (inst_of_canon c))

-- the loans of a call: by the canonical function by which a task calls
pub record AreLoans (g : Graph) (tasks : List Task) (insts : List Inst) (subtask : Subtask) : Type 0 where
  pub caller : IsSome (slice_get tasks subtask.by)
  pub stand : (c : CanonFunc) → canon_at g subtask.canon ≡ Some c → AllByRecursion (HoldsHandle (table_of_canon insts c)) subtask.lends
  pub given_back : is_over subtask.told ≡ true → subtask.lends ≡ []

abbrev pub LoansOf : Graph → List Task → List Inst → Caller → Type 0
LoansOf g tasks insts Nobody = Unit {0}
LoansOf g tasks insts (Host call values) = Unit {0}
LoansOf g tasks insts (Guest subtask) = AreLoans g tasks insts subtask

abbrev pub HoldLoans : Graph → List Task → List Inst → Type 0
HoldLoans g tasks insts = AllByRecursion (λ task. LoansOf g tasks insts task.caller) tasks

-- So it is in the first world, and so it stays.
abbrev pub FirstHoldsLoans : Type 0
FirstHoldsLoans = (g : Graph) → HoldLoans g (first_world g).tasks (first_world g).insts

abbrev pub LoansStay : Type 0
LoansStay =
    (g : Graph) (s : Script) (w v : World) (labels : List Label) → IsApart g → PassesNoBorrow g → RunsAlone w → IsOrdered w → HaveHistories w.insts → HoldsNoBorrow w → IsOwnWorld g w
    → IsControlOwn g w.control w → AreByOwn g w.tasks → HoldLoans g w.tasks w.insts → next g s w ≡ Steps labels v → HoldLoans g v.tasks v.insts
