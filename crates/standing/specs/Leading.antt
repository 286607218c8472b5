-- What a part of a run comes to by steps of the machine (Component Model, Concurrency.md, "Summary"): what is kept then stands for a world to which
-- they lead, with the same lines; a trap is that of a task, and where fuel is wanting the run ends.
use Rattle.std.specs.Prelude.{◌≡◌, ℕ, List, ◌++◌, Some}
use Rattle.std.specs.List.{slice_get}
use Rattle.wasm_store.specs.Stack.{Stack}
use Rattle.syntax_trees.specs.declared.types.ValType.{ValType}
use Rattle.comp_graph.specs.Graph.{Graph}
use Rattle.script_reader.specs.Script.{Script}
use Rattle.trace_labels.specs.declared.label.Label.{Label}
use Rattle.trace_labels.specs.declared.trap.TrapName.{TrapName}
use Rattle.world_parts.specs.Held as kept
use Rattle.world_parts.specs.Held.{Held, Done, Gives, Traps, Spent}
use Rattle.abi_machine.specs.declared.run_end.RunEnd.{RunEnd}
use Rattle.abi_machine.specs.declared.run_end.RunEnd.TheVariants.{Fuel}
use Rattle.abi_machine.specs.Control.{Doomed}
use Rattle.abi_machine.specs.World.{World}
use Rattle.abi_machine.specs.Run.{RunsFrom}
use Rattle.standing.specs.Reaching.{GoesTo}
use Rattle.standing.specs.Stands.{Stands}

-- Steps lead from a world to one for which what is kept stands, with the lines that were told behind those before, and of which this holds.
pub record ComesBy (g : Graph) (values : List ValType) (s : Script) (w : World) (before : List Label) (k : Held) (stacks : List (List Stack)) (P : World → Type 0) : Type 0 where
  pub lines : List Label
  pub world : World
  pub goes : GoesTo g s w lines world
  pub stands : Stands g values s k stacks world
  pub told : k.labels ≡ before ++ lines
  pub ends : P world

-- The run ends.
pub record EndsBy (g : Graph) (values : List ValType) (s : Script) (w : World) (before : List Label) (k : Held) (stacks : List (List Stack)) (end : RunEnd) : Type 0 where
  pub lines : List Label
  pub last : World
  pub runs : RunsFrom g s w lines last end
  pub stands : Stands g values s k stacks last
  pub told : k.labels ≡ before ++ lines

-- The run is to end in this trap of the acting task.
abbrev pub IsDoomed : ℕ → TrapName → World → Type 0
IsDoomed t why w = (w.control ≡ Doomed t why) × (slice_get w.chain 0 ≡ Some t)

-- By what a part of the acting task comes to. Behind a trap, and where no fuel is left, nothing is said of stacks, and where no rule applies nothing at all.
abbrev pub LeadsBy : {A : Type 0} → Graph → List ValType → Script → ℕ → World → List Label → (A → Held → Type 0) → Done A → Type 0
LeadsBy g values s t w before G (Gives x k) = G x k
LeadsBy g values s t w before G (Traps why k) = (stacks : List (List Stack)) × ComesBy g values s w before k stacks (IsDoomed t why)
LeadsBy g values s t w before G (Spent k) = (stacks : List (List Stack)) × EndsBy g values s w before k stacks Fuel
LeadsBy g values s t w before G kept.Stuck = Unit {0}
