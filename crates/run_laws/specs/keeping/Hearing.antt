-- Where an event of a set is to come to the acting task next, what is asked for that of subtasks in tables is so where it was so before (Component Model,
-- CanonicalABI.md, "Subtask State", "Waitable Set State").
use Rattle.std.specs.Prelude.{ℕ, List, Option}
use Rattle.comp_graph.specs.Graph.{Graph}
use Rattle.world_parts.specs.declared.parts.Flow.{Flow}
use Rattle.world_parts.specs.declared.parts.Flow.TheVariants as flow
use Rattle.world_parts.specs.declared.parts.Rest.{Rest}
use Rattle.world_parts.specs.Held.{Held, Done, Gives, Traps, Spent, Stuck}
use Rattle.machine_runs.specs.Moving.{woken}
use Rattle.run_laws.specs.keeping.Kept.{SubtasksAreOwn}

-- Subtasks were called from the instances in whose tables they stand.
abbrev pub OwnStay : Held → Held → Type 0
OwnStay h k = (at : ℕ) → SubtasksAreOwn h at → SubtasksAreOwn k at

abbrev pub OwnIfHears : Held → Flow → Held → Type 0
OwnIfHears h (flow.Now words) k = Unit {0}
OwnIfHears h flow.Rests k = Unit {0}
OwnIfHears h (flow.Starts ref words) k = Unit {0}
OwnIfHears h flow.Enters k = Unit {0}
OwnIfHears h flow.Returns k = Unit {0}
OwnIfHears h (flow.Copies copying) k = Unit {0}
OwnIfHears h (flow.Delivers r set) k = OwnStay h k
OwnIfHears h (flow.Polls r set) k = OwnStay h k
OwnIfHears h (flow.HearsNone r) k = Unit {0}
OwnIfHears h (flow.HearsCancel r) k = Unit {0}

abbrev pub OwnBehind : Held → Done Flow → Type 0
OwnBehind h (Gives x k) = OwnIfHears h x k
OwnBehind h (Traps why k) = Unit {0}
OwnBehind h (Spent k) = Unit {0}
OwnBehind h Stuck = Unit {0}

-- So it is of what a move gives, whatever the acting task does.
abbrev pub HearsOwn : Type 0
HearsOwn = (g : Graph) (types : List (Option ℕ)) (r : Rest) (h : Held) → OwnBehind h (woken g types r h)
