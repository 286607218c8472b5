-- Backpressure (Component Model, CanonicalABI.md, `canon backpressure.{inc,dec}`; Concurrency.md, "Backpressure").
use Rattle.std.specs.Prelude.{ℕ, codes, false, List, [], ◌∷◌, ◌++◌, map, None}
use Rattle.syntax_trees.specs.Expr.{Expr, End}
use Rattle.builtin_kinds.specs.declared.PlainBuiltin.TheVariants as op
use Rattle.comp_graph.specs.declared.graph.CanonFunc.{CanonFunc}
use Rattle.comp_graph.specs.Graph.{Graph, no_options, canon_type}
use Rattle.script_reader.specs.Script.{Script}
use Rattle.trace_labels.specs.declared.builtin.Builtin.TheVariants as builtin
use Rattle.trace_labels.specs.declared.label.BlockReason.TheVariants as reason
use Rattle.trace_labels.specs.declared.label.Label.{Label}
use Rattle.trace_labels.specs.declared.label.Label.TheVariants as line
use Rattle.abi_machine.specs.World.{World}
use Rattle.abi_machine.specs.examples.Parts.{of_nothing, words, own, calls, asks, plain, lower, task_return, asynchronous, lift, graph_of, exported, store_of, instantiated, acting, script_of, call}

-- `hold` holds others back, lets them run, and lets them in again; `f` does nothing.
abbrev pub holding_canons : List CanonFunc
holding_canons = plain 0 op.BackpressureInc ∷ plain 0 (op.Yield false) ∷ plain 0 op.BackpressureDec ∷ task_return 0 None no_options ∷ []

abbrev pub holds : Expr
holds = calls 0 [] (asks 1 [] (calls 2 [] (calls 3 [] End)))

abbrev pub hold_name : List ℕ
hold_name = codes "hold"

abbrev pub f_name : List ℕ
f_name = codes "f"

abbrev pub holding : Graph
holding =
    graph_of 1 holding_canons [] (exported hold_name of_nothing ∷ exported f_name of_nothing ∷ []) (lift 0 4 asynchronous ∷ lift 0 5 no_options ∷ [])

abbrev pub holding_world : World
holding_world = instantiated 1 (store_of (map canon_type holding_canons) (own 0 (words 0 0) holds ∷ own 0 (words 0 0) End ∷ []) ([] ∷ []))

abbrev pub both_calls : List ℕ → Script
both_calls picks = record (script_of (call hold_name ∷ call f_name ∷ [])) { picks = picks }

abbrev pub hold_begins : List Label
hold_begins =
    line.Take 1 1 hold_name [] ∷ line.Enter 1
    ∷ line.Do 1 builtin.BackpressureInc [] ∷ line.Got 1 []
    ∷ line.Do 1 builtin.Yield [] ∷ line.Block 1 reason.Yield ∷ []

abbrev pub hold_ends : List Label
hold_ends =
    line.Go 1 ∷ line.Got 1 (0 ∷ [])
    ∷ line.Do 1 builtin.BackpressureDec [] ∷ line.Got 1 []
    ∷ line.Do 1 builtin.TaskReturn [] ∷ line.Return 1 None ∷ line.Got 1 [] ∷ line.Exit 1 ∷ []

abbrev pub f_waits : List Label
f_waits = line.Choose 2 0 ∷ line.Take 2 2 f_name [] ∷ line.Block 2 reason.Entry ∷ []

abbrev pub f_runs : List Label
f_runs = line.Enter 2 ∷ line.Return 2 None ∷ line.Exit 2 ∷ []

abbrev pub held_back : List Label
held_back = hold_begins ++ f_waits ++ hold_ends ++ line.Go 2 ∷ f_runs

-- With another pick the first task goes on before the second one is called.
abbrev pub let_in : List Label
let_in = hold_begins ++ line.Choose 2 1 ∷ hold_ends ++ line.Take 2 2 f_name [] ∷ f_runs

-- A third call comes when the second one may enter and has not yet: it waits behind it.
abbrev pub three_calls : Script
three_calls = record (script_of (call hold_name ∷ call f_name ∷ call f_name ∷ [])) { picks = 0 ∷ 1 ∷ 0 ∷ [] }

abbrev pub waited_behind : List Label
waited_behind =
    hold_begins ++ f_waits ++ line.Choose 2 1 ∷ hold_ends
    ++ line.Choose 2 0 ∷ line.Take 3 3 f_name [] ∷ line.Block 3 reason.Entry
    ∷ line.Choose 2 0 ∷ line.Go 2 ∷ f_runs ++ line.Go 3 ∷ line.Enter 3 ∷ line.Return 3 None ∷ line.Exit 3 ∷ []

-- The child lets others in without having held them back.
abbrev pub letting_canons : List CanonFunc
letting_canons = lower 0 (lift 1 2 no_options) of_nothing no_options ∷ plain 1 op.BackpressureDec ∷ []

abbrev pub letting : Graph
letting = graph_of 2 letting_canons [] [] []

abbrev pub letting_world : World
letting_world = acting (calls 0 [] End) (instantiated 2 (store_of (words 0 0 ∷ words 0 0 ∷ []) (own 1 (words 0 0) (calls 1 [] End) ∷ []) ([] ∷ [] ∷ [])))

abbrev pub let_too_far : List Label
let_too_far = line.Do 1 builtin.Lower [] ∷ line.Call 1 2 2 ∷ line.Enter 2 ∷ line.Do 2 builtin.BackpressureDec [] ∷ []
