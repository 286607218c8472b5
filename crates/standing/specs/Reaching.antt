-- Parts of runs of the machine (Component Model, Concurrency.md, "Summary"): steps that lead from one world to another, with their lines, and what
-- comes behind them.
use Rattle.std.specs.Prelude.{◌≡◌, ◌+◌, ℕ, List, ◌++◌}
use Rattle.wasm_store.specs.Store.{Store}
use Rattle.comp_graph.specs.Graph.{Graph}
use Rattle.script_reader.specs.Script.{Script}
use Rattle.trace_labels.specs.declared.label.Label.{Label}
use Rattle.abi_machine.specs.declared.run_end.RunEnd.{RunEnd}
use Rattle.abi_machine.specs.Control.{Control}
use Rattle.abi_machine.specs.World.{World}
use Rattle.abi_machine.specs.Turn.{Turn, Steps, Ends}
use Rattle.abi_machine.specs.Next.{next}
use Rattle.abi_machine.specs.Run.{Reaches, lines_of, RunsFrom}

-- Steps with these lines lead from the one world to the other.
abbrev pub GoesTo : Graph → Script → World → List Label → World → Type 0
GoesTo g s w lines v = (steps : List (List Label)) × Reaches g s w steps v × (lines ≡ lines_of steps)

-- Steps with these lines lead to a world in which this comes next.
abbrev pub Meets : Graph → Script → World → List Label → Turn → Type 0
Meets g s w lines turn = (v : World) × GoesTo g s w lines v × (next g s v ≡ turn)

-- a world as another one but for its store, its units and its control
abbrev pub with_room : World → Store → ℕ → Control → World
with_room w store units control = record w { store = store; control = control; units = units }

-- So many units are left; as many are used as make the whole fuel with them, and with these something holds.
abbrev pub WithUsed : Script → ℕ → (ℕ → Type 0) → Type 0
WithUsed s left P = (used : ℕ) × (used + left ≡ s.fuel) × P used

-- Behind a part there is another part, something that comes next, or the rest of a run.
abbrev pub PartsJoin : Type 0
PartsJoin =
    (g : Graph) (s : Script) (w v u : World) (lines more : List Label) → GoesTo g s w lines v → GoesTo g s v more u → GoesTo g s w (lines ++ more) u

abbrev pub MeetsBehind : Type 0
MeetsBehind =
    (g : Graph) (s : Script) (w v : World) (lines more : List Label) (turn : Turn) → GoesTo g s w lines v → Meets g s v more turn
    → Meets g s w (lines ++ more) turn

abbrev pub EndsBehind : Type 0
EndsBehind =
    (g : Graph) (s : Script) (w v last : World) (lines more : List Label) (end : RunEnd) → GoesTo g s w lines v → RunsFrom g s v more last end
    → RunsFrom g s w (lines ++ more) last end

-- What comes next is one step more, or ends the run.
abbrev pub StepFollows : Type 0
StepFollows = (g : Graph) (s : Script) (w v : World) (lines more : List Label) → Meets g s w lines (Steps more v) → GoesTo g s w (lines ++ more) v

abbrev pub EndFollows : Type 0
EndFollows =
    (g : Graph) (s : Script) (w : World) (lines : List Label) (end : RunEnd) → Meets g s w lines (Ends end) → (last : World) × RunsFrom g s w lines last end
