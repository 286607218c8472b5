-- What runs out (Component Model, CanonicalABI.md, `canon backpressure.{inc,dec}`; Concurrency.md, "Summary"): backpressure, and fuel where a
-- choice, which costs nothing, comes before what costs.
use Rattle.std.specs.Prelude.{List, [], ◌∷◌, ◌++◌}
use Rattle.syntax_trees.specs.Expr.{End}
use Rattle.builtin_kinds.specs.declared.PlainBuiltin.TheVariants as op
use Rattle.comp_graph.specs.Graph.{Graph}
use Rattle.script_reader.specs.Script.{Script}
use Rattle.trace_labels.specs.declared.builtin.Builtin.TheVariants as builtin
use Rattle.trace_labels.specs.declared.label.BlockReason.TheVariants as reason
use Rattle.trace_labels.specs.declared.label.Label.{Label}
use Rattle.trace_labels.specs.declared.label.Label.TheVariants as line
use Rattle.abi_machine.specs.World.{World, new_inst}
use Rattle.abi_machine.specs.examples.Parts.{words, calls, plain, graph_of, store_of, instantiated, acting}
use Rattle.abi_machine.specs.examples.Backpressure.{both_calls, hold_begins}
use Rattle.abi_machine.specs.examples.Cancelling.{cancelling, w_name}

-- Backpressure rises once more, to 65,535.
abbrev pub pressing : Graph
pressing = graph_of 1 (plain 0 op.BackpressureInc ∷ []) [] [] []

abbrev pub pressing_world : World
pressing_world =
    record (acting (calls 0 [] (calls 0 [] End)) (instantiated 1 (store_of (words 0 0 ∷ []) [] ([] ∷ [])))) {
      insts = record new_inst { backpressure = 65534 } ∷ [];
    }

abbrev pub pressed : List Label
pressed = line.Do 1 builtin.BackpressureInc [] ∷ line.Got 1 [] ∷ line.Do 1 builtin.BackpressureInc [] ∷ []

-- All units are used when one of two alternatives is chosen,
abbrev pub three_units : Script
three_units = record (both_calls []) { fuel = 3 }

abbrev pub chosen_last : List Label
chosen_last = hold_begins ++ line.Choose 2 0 ∷ []

-- or when a task that waits is cancelled, and would go on.
abbrev pub five_units : Script
five_units = record cancelling { fuel = 5 }

abbrev pub cancelled_last : List Label
cancelled_last =
    line.Take 1 1 w_name [] ∷ line.Enter 1
    ∷ line.Do 1 builtin.WaitableSetNew [] ∷ line.Got 1 (1 ∷ []) ∷ line.Block 1 (reason.Wait 1) ∷ line.Cancel 1 ∷ []
