-- Runs (Component Model, Concurrency.md, "Summary"): the steps of the machine from a world on, with their lines, up to an end.
use Rattle.std.specs.Prelude.{◌≡◌, List, [], ◌∷◌, ◌++◌}
use Rattle.std.specs.List.{flat_map}
use Rattle.comp_graph.specs.Graph.{Graph}
use Rattle.script_reader.specs.Script.{Script}
use Rattle.trace_labels.specs.declared.label.Label.{Label}
use Rattle.trace_labels.specs.declared.label.Label.TheVariants as line
use Rattle.abi_machine.specs.declared.run_end.RunEnd.{RunEnd}
use Rattle.abi_machine.specs.declared.run_end.RunEnd.TheVariants.{Done, Trapped, Deadlock, Fuel}
use Rattle.abi_machine.specs.World.{World, first_world}
use Rattle.abi_machine.specs.Turn.{Steps, Ends}
use Rattle.abi_machine.specs.Next.{next}

-- These steps, each with its lines, lead from the one world to the other.
abbrev pub Reaches : Graph → Script → World → List (List Label) → World → Type 0
Reaches g s w [] v = v ≡ w
Reaches g s w (labels ∷ steps) v = (mid : World) × (next g s w ≡ Steps labels mid) × Reaches g s mid steps v

-- the lines of steps
abbrev pub lines_of : List (List Label) → List Label
lines_of steps = flat_map (λ step. step) steps

-- From a world the run has these lines, this last world and this end.
abbrev pub RunsFrom : Graph → Script → World → List Label → World → RunEnd → Type 0
RunsFrom g s w labels last end =
    (steps : List (List Label)) × Reaches g s w steps last × (next g s last ≡ Ends end) × (labels ≡ lines_of steps)

-- The run of a script on a graph.
abbrev pub Runs : Graph → Script → List Label → World → RunEnd → Type 0
Runs g s labels last end = RunsFrom g s (first_world g) labels last end

-- the last line of a run, by its end
abbrev pub end_label : RunEnd → Label
end_label Done = line.Done
end_label (Trapped task why) = line.Trap task why
end_label (Deadlock tasks) = line.Deadlock tasks
end_label Fuel = line.Fuel

-- all lines of a run
abbrev pub trace_of : List Label → RunEnd → List Label
trace_of labels end = labels ++ end_label end ∷ []
