-- What is kept when the acting task's stack has run (Core 2.0, section 4.4; Component Model, CanonicalABI.md, `canon lift`, `canon resource.drop`)
-- stands for a world to which the machine comes.
use Rattle.std.specs.Prelude.{◌≡◌, ℕ, Bool, List, [], slice_set, Option, Some, None}
use Rattle.std.specs.List.{slice_get}
use Rattle.wasm_store.specs.Store.{Store}
use Rattle.wasm_store.specs.Stack.{Stack}
use Rattle.wasm_execution.specs.Run.{RunGives}
use Rattle.wasm_execution.specs.declared.running.Outcome.{Outcome}
use Rattle.wasm_execution.specs.declared.running.Outcome.TheVariants as outcome
use Rattle.syntax_trees.specs.declared.types.ValType.{ValType}
use Rattle.comp_graph.specs.Graph.{Graph}
use Rattle.script_reader.specs.Script.{Script}
use Rattle.trace_labels.specs.declared.label.Label.{Label}
use Rattle.tasks.specs.declared.phase.Phase.TheVariants as phase
use Rattle.world_parts.specs.Held.{Held, Done, Gives, Traps, Spent, after}
use Rattle.world_stacks.specs.declared.top.Top.TheVariants as top
use Rattle.world_stacks.specs.Views.{PileView, stacks_of}
use Rattle.world_stacks.specs.Piles.{with_top}
use Rattle.world_stacks.specs.Names.{core_name}
use Rattle.world_stacks.specs.Running.{called, stack_ended}
use Rattle.abi_machine.specs.Control.{Runs}
use Rattle.abi_machine.specs.World.{TaskState, Task, World}
use Rattle.abi_machine.specs.Counting.{phase_of}
use Rattle.abi_machine.specs.Reading.{task_at, func_of, kind_of}
use Rattle.abi_machine.specs.Turn.{Turn, given}
use Rattle.abi_machine.specs.CoreSteps.{func_ended}
use Rattle.abi_machine.specs.Next.{next}
use Rattle.standing.specs.Reaching.{GoesTo}
use Rattle.standing.specs.Stands.{Stands}
use Rattle.standing.specs.Agreeing.{control_at}
use Rattle.standing.specs.Leading.{ComesBy, LeadsBy}

-- What comes next where the core function or the callback of a task has ended with words.
abbrev pub func_turn : Graph → ℕ → List ℕ → World → Turn
func_turn g t words w = given (task_at w t) (λ task. given (func_of task.callee) (λ f. func_ended g t task f (kind_of task) words w))

-- It has ended: steps without lines lead to a world in which that comes next, for another world for which what is kept stands.
pub record FuncEnds (g : Graph) (values : List ValType) (s : Script) (t : ℕ) (w : World) (before : List Label) (k : Held) (stacks : List (List Stack)) (words : List ℕ) : Type 0 where
  pub last : World
  pub goes : GoesTo g s w [] last
  pub world : World
  pub turn : next g s last ≡ func_turn g t words world
  pub acts : slice_get world.chain 0 ≡ Some t
  pub stands : Stands g values s k stacks world
  pub told : k.labels ≡ before

-- By whether the task's function has ended. Its stacks are then others.
abbrev pub AfterRun : Graph → List ValType → Script → ℕ → World → List Label → List (List Stack) → Option (List ℕ) → PileView → Held → Type 0
AfterRun g values s t w before stacks None q k = ComesBy g values s w before k (slice_set stacks t (stacks_of q)) (λ v. v.control ≡ control_at k)
AfterRun g values s t w before stacks (Some words) q k = FuncEnds g values s t w before k (slice_set stacks t (stacks_of q)) words

abbrev pub RunLeads : Graph → List ValType → Script → ℕ → World → List Label → List (List Stack) → Done (Option (List ℕ) × PileView) → Type 0
RunLeads g values s t w before stacks d = LeadsBy g values s t w before (λ (r : Option (List ℕ) × PileView) k. AfterRun g values s t w before stacks r.0 r.1 k) d

-- By what the run came to, over the stacks without the one that ran.
abbrev pub OutcomeLeads : Graph → List ValType → Script → ℕ → World → List Label → List (List Stack) → PileView → Outcome → Held → Type 0
OutcomeLeads g values s t w before stacks p (outcome.Done words) h = RunLeads g values s t w before stacks (stack_ended t words p h)
OutcomeLeads g values s t w before stacks p (outcome.Calls number words waits) h =
    RunLeads g values s t w before stacks (after (called t number words h) (λ done k. Gives (None, with_top (top.Waits (record { address = number; waiting = waits })) p) k))
OutcomeLeads g values s t w before stacks p (outcome.Trapped why) h = RunLeads g values s t w before stacks (Traps (core_name why) h)
OutcomeLeads g values s t w before stacks p (outcome.NoFuel later) h = RunLeads g values s t w before stacks (Spent h)
OutcomeLeads g values s t w before stacks p outcome.Memory h = Unit {0}

-- The acting task's stack is to run, over those of destructors; and it acts, or a start function of its instance runs.
abbrev pub ActsStill : TaskState → Type 0
ActsStill state = (flag : ℕ → Bool) → phase_of flag state ≡ phase.Acting

pub record RunsPile (w : World) (t : ℕ) (stacks : List (List Stack)) (p : PileView) (k : Stack) : Type 0 where
  pub control : w.control ≡ Runs
  pub acts : slice_get w.chain 0 ≡ Some t
  pub acting : (task : Task) → slice_get w.tasks t ≡ Some task → ActsStill task.state
  pub piled : slice_get stacks t ≡ Some (stacks_of p)
  pub goes : p.top ≡ top.Goes k

abbrev pub TaskRunsLead : Type 0
TaskRunsLead =
    (g : Graph) (values : List ValType) (s : Script) (h : Held) (stacks : List (List Stack)) (w : World) (t : ℕ) (p : PileView) (k : Stack) (o : Outcome) (store : Store) (left : ℕ)
    → RunsPile w t stacks p k → Stands g values s h stacks w → RunGives h.store k h.left o store left
    → OutcomeLeads g values s t w h.labels stacks (with_top top.Empty p) o (record h { store = store; left = left })
