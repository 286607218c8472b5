-- Instantiation (Component Model, Explainer.md, "Instance Definitions"; Core 2.0, section 4.5.4): task 0 makes the next thing of a graph's plan. A component
-- instance begins, or a core instance is made, with its parts, its segments and its start function; where nothing is left task 0 has done its work. What is
-- kept does what the machine does. Nothing is said of where imports are not of the types that are asked for, or a start function does not take no words.
use Rattle.std.specs.Prelude.{◌≡◌, ℕ, List, map, Some}
use Rattle.std.specs.List.{slice_get}
use Rattle.syntax_trees.specs.declared.types.ValType.{ValType}
use Rattle.wasm_store.specs.Stack.{Stack}
use Rattle.comp_graph.specs.Graph.{Graph}
use Rattle.script_reader.specs.Script.{Script}
use Rattle.trace_labels.specs.declared.label.Label.{Label}
use Rattle.world_parts.specs.Held as kept
use Rattle.world_parts.specs.Held.{Held, Done, Gives, Traps, Spent}
use Rattle.world_stacks.specs.Views.{PileView, stacks_of}
use Rattle.world_stacks.specs.Instantiating.{instantiates}
use Rattle.abi_machine.specs.Control.{Doomed}
use Rattle.abi_machine.specs.World.{Nobody, Acting, Task, World}
use Rattle.abi_machine.specs.Edits.{with_control}
use Rattle.abi_machine.specs.Turn.{Turn, Steps}
use Rattle.abi_machine.specs.Instantiating.{instantiating_turn}
use Rattle.standing.specs.Stands.{Stands}
use Rattle.standing.specs.Agreeing.{control_at, LeadsTo}

-- Task 0, which nobody called, acts.
pub record InitActs (w : World) (task : Task) : Type 0 where
  pub first : slice_get w.chain 0 ≡ Some 0
  pub there : slice_get w.tasks 0 ≡ Some task
  pub alone : task.caller ≡ Nobody
  pub acts : task.state ≡ Acting

-- What an action comes to agrees with a turn, where a rule applies; a trap is that of task 0, which acts still, and of stacks nothing is said behind it.
abbrev pub ActionAgrees : Graph → List ValType → Script → List Label → Done (Unit {0} × List PileView) → Turn → Type 0
ActionAgrees g values s before (Gives r k) turn = LeadsTo g values s before (map stacks_of r.1) k (λ lines v. turn ≡ Steps lines (with_control (control_at k) v))
ActionAgrees g values s before (Traps why k) turn =
    (stacks : List (List Stack)) × LeadsTo g values s before stacks k (λ lines v. (turn ≡ Steps lines (with_control (Doomed 0 why) v)) × (slice_get v.chain 0 ≡ Some 0))
ActionAgrees g values s before (Spent k) turn = ⊥
ActionAgrees g values s before kept.Stuck turn = Unit {0}

-- The action of a number.
abbrev pub ActionIsDone : Type 0
ActionIsDone =
    (g : Graph) (values : List ValType) (s : Script) (h : Held) (piles : List PileView) (w : World) (n : ℕ) (task : Task)
    → InitActs w task → Stands g values s h (map stacks_of piles) w
    → ActionAgrees g values s h.labels (instantiates g n piles h) (instantiating_turn g n w)
