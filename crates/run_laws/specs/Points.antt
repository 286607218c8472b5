-- Where the kept machine is, and the worlds of the machine of asynchronous calls (Component Model, CanonicalABI.md; Concurrency.md, "Summary"). A
-- step of the kept machine ends at a rest, or where values are to be passed: there the machine is in the midst of a turn, whose lines so far are
-- told already.
use Rattle.std.specs.Prelude.{◌≡◌, ℕ, List, [], ◌++◌, map, Some}
use Rattle.syntax_trees.specs.declared.types.ValType.{ValType}
use Rattle.wasm_store.specs.Stack.{Stack}
use Rattle.comp_graph.specs.Graph.{Graph}
use Rattle.script_reader.specs.Script.{Script}
use Rattle.trace_labels.specs.declared.label.Label.{Label}
use Rattle.world_parts.specs.Held as kept
use Rattle.world_parts.specs.Held.{Held, Done, Gives, Traps, Spent}
use Rattle.world_stacks.specs.Views.{PileView, stacks_of}
use Rattle.value_parts.specs.declared.to_pass.Passing.{Passing}
use Rattle.value_parts.specs.declared.to_pass.Passing.TheVariants as passing
use Rattle.machine_runs.specs.declared.stepping.Step.{Step}
use Rattle.machine_runs.specs.declared.stepping.Step.TheVariants as step
use Rattle.machine_runs.specs.Moving.{acting_of}
use Rattle.machine_runs.specs.Worlds.{Point}
use Rattle.abi_machine.specs.declared.run_end.RunEnd.{RunEnd}
use Rattle.abi_machine.specs.declared.run_end.RunEnd.TheVariants.{Fuel, Trapped}
use Rattle.abi_machine.specs.World.{World}
use Rattle.abi_machine.specs.Reading.{acting, func_of, kind_of}
use Rattle.abi_machine.specs.Scheduling.{end_by}
use Rattle.abi_machine.specs.Turn as turns
use Rattle.abi_machine.specs.Turn.{Turn, Ends, silent, behind, given}
use Rattle.abi_machine.specs.CoreSteps.{func_ended}
use Rattle.abi_machine.specs.Next.{next}
use Rattle.abi_machine.specs.Run.{Reaches, lines_of}
use Rattle.standing.specs.Stands.{Stands}
use Rattle.standing.specs.Agreeing.{control_at, enters, returns, copies}

-- What is left of the turn where this is to be passed for the acting task.
abbrev pub ended : Graph → List ℕ → World → Turn
ended g words w = given (acting w) (λ a. given (func_of a.1.callee) (λ f. func_ended g a.0 a.1 f (kind_of a.1) words w))

abbrev pub pending : Graph → Held → Passing → World → Turn
pending g h passing.Nothing w = silent (control_at h) w
pending g h passing.Arguments w = given (acting w) (λ a. enters g a.0 w)
pending g h passing.Returned w = given (acting w) (λ a. returns g a.0 (control_at h) w)
pending g h (passing.Ended words) w = ended g words w
pending g h (passing.Elements copying) w = given (acting w) (λ a. copies g a.0 copying w)

-- The machine's turn is the lines that were told ahead and then what is left, from a world for which what is kept stands.
pub record InTurn (g : Graph) (values : List ValType) (s : Script) (h : Held) (stacks : List (List Stack)) (x : Passing) (ahead : List Label) (w : World) : Type 0 where
  pub world : World
  pub stands : Stands g values s h stacks world
  pub turn : next g s w ≡ behind ahead (pending g h x world)

pub record AtRest (g : Graph) (values : List ValType) (s : Script) (h : Held) (stacks : List (List Stack)) (ahead : List Label) (w : World) : Type 0 where
  pub stands : Stands g values s h stacks w
  pub control : w.control ≡ control_at h
  pub none_ahead : ahead ≡ []

abbrev pub InPassing : Graph → List ValType → Script → Held → List (List Stack) → Passing → List Label → World → Type 0
InPassing g values s h stacks passing.Nothing ahead w = AtRest g values s h stacks ahead w
InPassing g values s h stacks passing.Arguments ahead w = InTurn g values s h stacks passing.Arguments ahead w
InPassing g values s h stacks passing.Returned ahead w = InTurn g values s h stacks passing.Returned ahead w
InPassing g values s h stacks (passing.Ended words) ahead w = InTurn g values s h stacks (passing.Ended words) ahead w
InPassing g values s h stacks (passing.Elements copying) ahead w = InTurn g values s h stacks (passing.Elements copying) ahead w

-- A point of a run of the kept machine, and a world, with the lines that were told ahead.
abbrev pub stacks_at : List PileView → List (List Stack)
stacks_at piles = map stacks_of piles

abbrev pub InPoint : Graph → List ValType → Script → Point → List Label → World → Type 0
InPoint g values s a ahead w = InPassing g values s a.held (stacks_at a.piles) a.passing ahead w

-- What a step of the kept machine comes to from a point, with the lines told ahead there, is what the machine comes to from the world by its
-- turns: another such point, the same end with the same lines, or no rule.
pub record ReachesPoint (g : Graph) (values : List ValType) (s : Script) (ahead : List Label) (w : World) (b : Point) : Type 0 where
  pub steps : List (List Label)
  pub world : World
  pub reached : Reaches g s w steps world
  pub now_ahead : List Label
  pub point : InPoint g values s b now_ahead world
  pub same_lines : ahead ++ b.held.labels ≡ lines_of steps ++ now_ahead

-- The machine reaches a world by these lines, and its next turn is this.
pub record ReachesTurn (g : Graph) (s : Script) (lines : List Label) (w : World) (turn : Turn) : Type 0 where
  pub steps : List (List Label)
  pub world : World
  pub reached : Reaches g s w steps world
  pub same_lines : lines ≡ lines_of steps
  pub is_next : next g s world ≡ turn

-- It reaches a world for which what is kept stands, with some stacks, and there it ends.
pub record ReachesEnd (g : Graph) (values : List ValType) (s : Script) (lines : List Label) (w : World) (end : RunEnd) (k : Held) : Type 0 where
  pub steps : List (List Label)
  pub world : World
  pub reached : Reaches g s w steps world
  pub same_lines : lines ≡ lines_of steps
  pub is_next : next g s world ≡ Ends end
  pub stacks : List (List Stack)
  pub stands : Stands g values s k stacks world

abbrev pub StepAgrees : Graph → List ValType → Script → List Label → World → Done (Step × List PileView) → Type 0
StepAgrees g values s ahead w (Gives (step.GoesOn x, piles) k) = ReachesPoint g values s ahead w (record { held = k; piles = piles; passing = x })
StepAgrees g values s ahead w (Gives (step.Ends, piles) k) = ReachesEnd g values s (ahead ++ k.labels) w (end_by k.live) k
StepAgrees g values s ahead w (Traps why k) = (t : ℕ) × (acting_of k ≡ Some t) × ReachesEnd g values s (ahead ++ k.labels) w (Trapped t why) k
StepAgrees g values s ahead w (Spent k) = ReachesTurn g s (ahead ++ k.labels) w (Ends Fuel)
StepAgrees g values s ahead w kept.Stuck = (lines : List Label) × ReachesTurn g s lines w turns.Stuck
