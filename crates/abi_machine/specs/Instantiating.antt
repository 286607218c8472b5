-- Instantiation (Component Model, Explainer.md, "Instance Definitions"; Core 2.0, section 4.5.4): task 0 goes through the graph's
-- plan, in file order. A component instance begins, or a core instance is made: with its parts, its segments and its start function.
-- Task 0 has no `enter` and no `exit`, and only the instructions of start functions cost fuel.
use Rattle.std.specs.Prelude.{ℕ, ◌+◌, List, Option, Some, None}
use Rattle.std.specs.List.{slice_get}
use Rattle.wasm_store.specs.Stack.{Stack}
use Rattle.wasm_store.specs.Instantiation.{External, Instantiation, Makes, instance_of, instantiated, start_call}
use Rattle.wasm_store.specs.Instantiation as core
use Rattle.comp_graph.specs.declared.graph.Action.{Action}
use Rattle.comp_graph.specs.declared.graph.Action.TheVariants.{Begin, Make}
use Rattle.comp_graph.specs.Graph.{CoreMake, Graph}
use Rattle.trace_labels.specs.declared.trap.TrapName.TheVariants as trap
use Rattle.abi_machine.specs.Control.{Free, Instantiates, Runs}
use Rattle.abi_machine.specs.World.{Begins, Exited, World}
use Rattle.abi_machine.specs.Edits.{with_store, instance_begun, unchained, in_state, stacked}
use Rattle.abi_machine.specs.Canons.{externals}
use Rattle.abi_machine.specs.Turn.{Turn, silent, doomed, given}

-- behind the segments of a core instance: its start function, or the action of this number
unfoldable pub started_up : ℕ → Option Stack → World → Turn
started_up n None w = silent (Instantiates n) w
started_up n (Some k) w = silent Runs (stacked 0 k (in_state 0 (Begins n) w))

-- A segment that does not fit is a trap of task 0. What was made and written before it stays.
unfoldable pub made : ℕ → CoreMake → List External → Instantiation → World → Turn
made n c imports (core.SegmentBounds s) w = doomed 0 trap.SegmentBounds (with_store s w)
made n c imports (Makes s) w = started_up (n + 1) (start_call c.of_module (instance_of c.of_module imports w.store) s) (with_store s w)

-- Where no action is left, task 0 has done its work.
unfoldable pub action_turn : Graph → ℕ → Option Action → World → Turn
action_turn g n None w = silent Free (unchained (in_state 0 Exited w))
action_turn g n (Some (Begin number)) w = silent (Instantiates (n + 1)) (instance_begun w)
action_turn g n (Some (Make number)) w =
    given (slice_get g.cores number) (λ c. given (externals w.store c.imports) (λ imports. made n c imports (instantiated c.of_module imports w.store) w))

unfoldable pub instantiating_turn : Graph → ℕ → World → Turn
instantiating_turn g n w = action_turn g n (slice_get g.plan n) w
