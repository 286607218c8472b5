-- At most one run (Component Model, Concurrency.md, "Nondeterminism"): the picks of the script make every choice.
use Rattle.std.specs.Prelude.{◌≡◌, ◌≤◌, List, ◌++◌, length}
use Rattle.comp_graph.specs.Graph.{Graph}
use Rattle.script_reader.specs.Script.{Script}
use Rattle.trace_labels.specs.declared.label.Label.{Label}
use Rattle.abi_machine.specs.declared.run_end.RunEnd.{RunEnd}
use Rattle.abi_machine.specs.World.{World}
use Rattle.abi_machine.specs.Run.{Reaches, RunsFrom, Runs}

-- Two runs of a script on a graph have the same lines, the same last world and the same end.
abbrev pub OneRun : Type 0
OneRun =
    (g : Graph) (s : Script) (labels others : List Label) (v u : World) (end other : RunEnd) → Runs g s labels v end → Runs g s others u other
    → (labels ≡ others) × (v ≡ u) × (end ≡ other)

-- So it is from every world.
abbrev pub OneRunFrom : Type 0
OneRunFrom =
    (g : Graph) (s : Script) (w : World) (labels others : List Label) (v u : World) (end other : RunEnd) → RunsFrom g s w labels v end
    → RunsFrom g s w others u other → (labels ≡ others) × (v ≡ u) × (end ≡ other)

-- Of steps from a world fewer are a front of more, and lead to a world from which the others go on.
abbrev pub FewerAreAFront : Type 0
FewerAreAFront =
    (g : Graph) (s : Script) (w v u : World) (steps more : List (List Label)) → Reaches g s w steps v → Reaches g s w more u
    → length steps ≤ length more → (rest : List (List Label)) × (more ≡ steps ++ rest) × Reaches g s v rest u
