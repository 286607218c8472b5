-- Borrows (Component Model, CanonicalABI.md, "Task State": `Task.return_`, `Task.cancel`; `canon subtask.cancel`, `canon resource.drop`, `lift_own`):
-- where a task resolves no live borrow handle names it, and a handle leaves its table only where nothing is lent of it.
use Rattle.std.specs.Prelude.{◌≡◌, List, [], ◌∷◌}
use Rattle.comp_graph.specs.Graph.{Graph}
use Rattle.script_reader.specs.Script.{Script}
use Rattle.trace_labels.specs.declared.label.Label.{Label}
use Rattle.abi_machine.specs.World.{World}
use Rattle.abi_machine.specs.Counting.{borrows_of}
use Rattle.abi_machine.specs.Turn.{Steps}
use Rattle.abi_machine.specs.Next.{next}
use Rattle.abi_machine.specs.sound.Initial.{RunsAlone}
use Rattle.abi_machine.specs.sound.Changes.{Change, RemovesEntry, IsRemoved, Resolves, after, behind_all, Stands}
use Rattle.abi_machine.specs.sound.Premises.{IsUnlent, Comes}

-- where a change comes
abbrev pub GivesBack : Change → World → Type 0
GivesBack (RemovesEntry i index) w = Stands w i index (IsUnlent w i index)
GivesBack (IsRemoved t) w = borrows_of w t ≡ 0
GivesBack (Resolves t resolution) w = borrows_of w t ≡ 0
GivesBack change w = Unit {0}

abbrev pub AllGiveBack : List Change → World → Type 0
AllGiveBack [] w = Unit {0}
AllGiveBack (change ∷ changes) w = GivesBack change w × AllGiveBack changes (after change w)

-- Changes come one behind the other, each only where its own premises hold: what was told and lent, asked and cancelled, where it comes.
abbrev pub AllCome : Graph → Script → List Change → World → Type 0
AllCome g s [] w = Unit {0}
AllCome g s (change ∷ changes) w = Comes g s change w × AllCome g s changes (after change w)

-- So it is in every step.
abbrev pub BorrowsAreGivenBack : Type 0
BorrowsAreGivenBack =
    (g : Graph) (s : Script) (w v : World) (labels : List Label) → RunsAlone w → next g s w ≡ Steps labels v
    → (changes : List Change) × AllCome g s changes w × AllGiveBack changes w × (v ≡ behind_all changes w)
