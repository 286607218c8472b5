-- Limits (Component Model, Concurrency.md, "Backpressure"): no more units, picks and items are used than the script has, and the
-- backpressure of an instance is at most 65,535.
use Rattle.std.specs.Prelude.{◌≡◌, ◌≤◌, ℕ, List, length}
use Rattle.std.specs.List.{AllByRecursion}
use Rattle.comp_graph.specs.Graph.{Graph}
use Rattle.script_reader.specs.Script.{Script}
use Rattle.trace_labels.specs.declared.label.Label.{Label}
use Rattle.abi_machine.specs.World.{Inst, World, first_world}
use Rattle.abi_machine.specs.Turn.{Steps}
use Rattle.abi_machine.specs.Next.{next}
use Rattle.abi_machine.specs.sound.Initial.{RunsAlone}
use Rattle.abi_machine.specs.replies.Pressure.{most_backpressure}

pub record AreWithinLimits (s : Script) (insts : List Inst) (units picks taken : ℕ) : Type 0 where
  pub fuel : units ≤ s.fuel
  pub choices : picks ≤ length s.picks
  pub items : taken ≤ length s.items
  pub backpressures : AllByRecursion (λ inst. inst.backpressure ≤ most_backpressure) insts

abbrev pub IsWithinLimits : Script → World → Type 0
IsWithinLimits s w = AreWithinLimits s w.insts w.units w.picks w.taken

-- So it is in the first world, and so it stays.
abbrev pub FirstWithinLimits : Type 0
FirstWithinLimits = (g : Graph) (s : Script) → IsWithinLimits s (first_world g)

abbrev pub StaysWithinLimits : Type 0
StaysWithinLimits = (g : Graph) (s : Script) (w v : World) (labels : List Label) → RunsAlone w → IsWithinLimits s w → next g s w ≡ Steps labels v → IsWithinLimits s v
