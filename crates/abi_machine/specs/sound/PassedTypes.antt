-- Types of results and elements (Component Model, Explainer.md, "Type Definitions": `borrow`; CanonicalABI.md, `lift_borrow`): where those of
-- the graph hold no borrow, the function of no task has a result with one, and no stream or future has such elements.
use Rattle.std.specs.Prelude.{◌≡◌, List}
use Rattle.comp_graph.specs.Graph.{Graph}
use Rattle.script_reader.specs.Script.{Script}
use Rattle.trace_labels.specs.declared.label.Label.{Label}
use Rattle.abi_machine.specs.World.{Task, Channel, World, first_world}
use Rattle.abi_machine.specs.Turn.{Steps}
use Rattle.abi_machine.specs.Next.{next}
use Rattle.abi_machine.specs.sound.Initial.{RunsAlone}
use Rattle.abi_machine.specs.sound.Premises.{GraphPassesBorrow, HaveBorrowResult, HaveBorrowElement}

abbrev pub PassesNoBorrow : Graph → Type 0
PassesNoBorrow g = GraphPassesBorrow g → ⊥

pub record PassNoBorrow (tasks : List Task) (streams futures : List Channel) : Type 0 where
  pub results : HaveBorrowResult tasks → ⊥
  pub elements : HaveBorrowElement streams futures → ⊥

abbrev pub HoldsNoBorrow : World → Type 0
HoldsNoBorrow w = PassNoBorrow w.tasks w.streams w.futures

-- So it is in the first world, and so it stays.
abbrev pub FirstHoldsNoBorrow : Type 0
FirstHoldsNoBorrow = (g : Graph) → HoldsNoBorrow (first_world g)

abbrev pub NoBorrowStays : Type 0
NoBorrowStays =
    (g : Graph) (s : Script) (w v : World) (labels : List Label) → PassesNoBorrow g → RunsAlone w → HoldsNoBorrow w → next g s w ≡ Steps labels v → HoldsNoBorrow v
