-- What a caller's instance is told of a call while a task of it cancels the call (Component Model, CanonicalABI.md, `canon subtask.cancel`, `canon
-- waitable-set.poll`; Concurrency.md, "Cancellation").
use Rattle.std.specs.Prelude.{ℕ, codes, false, List, [], ◌∷◌, map, replicate, None}
use Rattle.syntax_trees.specs.Expr.{End}
use Rattle.wasm_store.specs.Store.{Function}
use Rattle.builtin_kinds.specs.declared.PlainBuiltin.TheVariants as op
use Rattle.builtin_kinds.specs.declared.WaitOp.TheVariants.{Poll}
use Rattle.comp_graph.specs.declared.graph.CanonFunc.{CanonFunc}
use Rattle.comp_graph.specs.Graph.{Graph, no_options, canon_type}
use Rattle.script_reader.specs.Script.{Script}
use Rattle.trace_labels.specs.declared.builtin.Builtin.TheVariants as builtin
use Rattle.trace_labels.specs.declared.label.BlockReason.TheVariants as reason
use Rattle.trace_labels.specs.declared.label.Label.{Label}
use Rattle.trace_labels.specs.declared.label.Label.TheVariants as line
use Rattle.abi_machine.specs.World.{World}
use Rattle.abi_machine.specs.examples.Parts.{of_nothing, words, own, number, calls, asks, plain, wait, task_return, lower, core_at, asynchronous, callback, lift, graph_of, exported, store_of, instantiated, script_of, call}
use Rattle.abi_machine.specs.examples.Cancelling.{wait_word}

-- A task of the second instance calls one of the first, which makes a set and waits on it in its loop. Then a task of the first instance calls one
-- of the second, whose loop yields, puts the call into that set, and cancels it.
abbrev pub retold_canons : List CanonFunc
retold_canons =
    plain 0 op.WaitableSetNew ∷ plain 0 op.WaitableJoin ∷ lower 0 (lift 1 13 (callback 1 14)) of_nothing asynchronous ∷ plain 0 (op.SubtaskCancel false)
    ∷ wait 0 Poll (core_at 0 0) ∷ plain 0 op.TaskCancel ∷ task_return 0 None no_options
    ∷ lower 1 (lift 0 11 (callback 0 12)) of_nothing asynchronous ∷ plain 1 (op.SubtaskCancel false) ∷ task_return 1 None no_options ∷ []

-- the word that yields
abbrev pub yield_word : ℕ
yield_word = 1

-- The callback of the task that is cancelled returns, and then cancels the task of the first instance; the callback of that one polls the set.
abbrev pub retold_funcs : List Function
retold_funcs =
    own 0 (words 0 0) (asks 2 [] (calls 1 (2 ∷ 1 ∷ []) (asks 3 (2 ∷ []) (calls 6 [] End))))
    ∷ own 0 (words 0 1) (asks 0 [] (number wait_word End))
    ∷ own 0 (words 3 1) (asks 4 (1 ∷ 0 ∷ []) (calls 5 [] (number 0 End)))
    ∷ own 1 (words 0 1) (number yield_word End)
    ∷ own 1 (words 3 1) (calls 9 [] (asks 8 (1 ∷ []) (number 0 End)))
    ∷ own 1 (words 0 0) (asks 7 [] End)
    ∷ []

abbrev pub first_name : List ℕ
first_name = codes "x"

abbrev pub second_name : List ℕ
second_name = codes "t"

abbrev pub retold : Graph
retold = graph_of 2 retold_canons [] (exported first_name of_nothing ∷ exported second_name of_nothing ∷ []) (lift 1 15 no_options ∷ lift 0 10 asynchronous ∷ [])

abbrev pub retold_world : World
retold_world = instantiated 2 (store_of (map canon_type retold_canons) retold_funcs (replicate 8 0 ∷ [] ∷ []))

abbrev pub both_called : Script
both_called = script_of (call first_name ∷ call second_name ∷ [])

-- The poll tells that the call has returned, and so does the cancellation behind it.
abbrev pub told_twice : List Label
told_twice =
    line.Take 1 1 first_name [] ∷ line.Enter 1
    ∷ line.Do 1 builtin.Lower [] ∷ line.Call 1 2 1 ∷ line.Enter 2
    ∷ line.Do 2 builtin.WaitableSetNew [] ∷ line.Got 2 (1 ∷ []) ∷ line.Block 2 (reason.Wait 1) ∷ line.Got 1 (17 ∷ [])
    ∷ line.Return 1 None ∷ line.Exit 1
    ∷ line.Take 2 3 second_name [] ∷ line.Enter 3
    ∷ line.Do 3 builtin.Lower [] ∷ line.Call 3 4 2 ∷ line.Enter 4 ∷ line.Block 4 reason.Yield ∷ line.Got 3 (33 ∷ [])
    ∷ line.Do 3 builtin.WaitableJoin (2 ∷ 1 ∷ []) ∷ line.Got 3 []
    ∷ line.Do 3 builtin.SubtaskCancel (2 ∷ []) ∷ line.Go 4 ∷ line.Event 4 6 0 0
    ∷ line.Do 4 builtin.TaskReturn [] ∷ line.Return 4 None ∷ line.Got 4 []
    ∷ line.Do 4 builtin.SubtaskCancel (1 ∷ []) ∷ line.Go 2 ∷ line.Event 2 6 0 0
    ∷ line.Do 2 builtin.WaitableSetPoll (1 ∷ 0 ∷ []) ∷ line.Event 2 1 2 2 ∷ line.Got 2 (1 ∷ [])
    ∷ line.Do 2 builtin.TaskCancel [] ∷ line.Cancelled 2 ∷ line.Got 2 [] ∷ line.Exit 2
    ∷ line.Got 4 (4 ∷ []) ∷ line.Exit 4
    ∷ line.Got 3 (2 ∷ [])
    ∷ line.Do 3 builtin.TaskReturn [] ∷ line.Return 3 None ∷ line.Got 3 [] ∷ line.Exit 3 ∷ []
