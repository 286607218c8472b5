-- One run (Component Model, Concurrency.md, "Summary"; CanonicalABI.md, "Lifting and Lowering Values"): what passing values comes to is one thing, told
-- by what is passed and by what is kept, though core code runs in its midst, which gives out places. So a program has at most one run, of what is
-- kept of worlds. Of want of memory nothing is said.
use Rattle.std.specs.Prelude.{◌≡◌, List, ◌++◌}
use Rattle.laid_types.specs.SameTypes.{AreDistinct}
use Rattle.programs.specs.declared.program.Program.{Program}
use Rattle.trace_labels.specs.declared.label.Label.{Label}
use Rattle.world_parts.specs.declared.parts.Flow.{Flow}
use Rattle.world_parts.specs.Held.{Held, Done}
use Rattle.value_parts.specs.declared.to_pass.Passing.{Passing}
use Rattle.value_moves.specs.Passing.{Passes}
use Rattle.machine_runs.specs.declared.ending.RunEnd.{RunEnd}
use Rattle.machine_runs.specs.Worlds.{Point, IsRun, SoFarTells}

abbrev pub PassesOnce : (Program → Passing → Held → Done Flow → Type 0) → Program → Type 0
PassesOnce may_pass p = (x : Passing) (h : Held) (d e : Done Flow) → may_pass p x h d → may_pass p x h e → d ≡ e

-- No type stands twice among those of the program, by whose numbers the ends of streams and futures are told.
abbrev pub PassingIsOne : Type 0
PassingIsOne = (p : Program) → AreDistinct p.types.now → PassesOnce Passes p

-- Two runs from a world end in the same way, with the same lines, and leave the same.
abbrev pub RunsAreOne : Type 0
RunsAreOne =
    (p : Program) (a : Point) (end other : RunEnd) (lines more : List Label) (h k : Held) → AreDistinct p.types.now → IsRun Passes p a end lines h
    → IsRun Passes p a other more k → (end ≡ other) × (lines ≡ more) × (h ≡ k)

-- What is told of a run so far is a front of its lines.
abbrev pub SoFarAreFronts : Type 0
SoFarAreFronts =
    (p : Program) (a : Point) (end : RunEnd) (lines so_far : List Label) (h : Held) → AreDistinct p.types.now → IsRun Passes p a end lines h
    → SoFarTells Passes p a so_far → (rest : List Label) × (lines ≡ so_far ++ rest)
