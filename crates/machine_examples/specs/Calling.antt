-- Calls that are not waited for (Component Model, CanonicalABI.md, `canon lower`, `canon subtask.cancel`, `canon subtask.drop`, `canon lift`,
-- "Subtask State"): task 1 calls a function of its child, which lets others run before it returns.
use Rattle.std.specs.Prelude.{ℕ, true, false, List, [], ◌∷◌, ◌++◌, replicate, Some, None}
use Rattle.syntax_trees.specs.Expr.{Expr, End}
use Rattle.builtin_kinds.specs.declared.ContextOp.TheVariants.{Set}
use Rattle.builtin_kinds.specs.declared.PlainBuiltin.TheVariants as op
use Rattle.builtin_kinds.specs.declared.WaitOp.TheVariants.{Poll}
use Rattle.comp_graph.specs.declared.graph.CanonFunc.{CanonFunc}
use Rattle.comp_graph.specs.Graph.{Graph, no_options}
use Rattle.trace_labels.specs.declared.builtin.Builtin.TheVariants as builtin
use Rattle.trace_labels.specs.declared.dump.Entry.TheVariants as entry
use Rattle.trace_labels.specs.declared.dump.LiveEntry.{LiveEntry}
use Rattle.trace_labels.specs.declared.label.BlockReason.TheVariants as reason
use Rattle.trace_labels.specs.declared.label.Label.{Label}
use Rattle.trace_labels.specs.declared.label.Label.TheVariants as line
use Rattle.abi_machine.specs.World.{World}
use Rattle.abi_machine.specs.examples.Parts.{of_nothing, words, own, calls, asks, plain, context, task_return, wait, lower, core_at, core_func, asynchronous, lift, graph_of, exported, store_of, instantiated, acting, run_name}

abbrev pub calling_canons : List CanonFunc
calling_canons =
    lower 0 (lift 1 9 asynchronous) of_nothing asynchronous ∷ plain 0 (op.SubtaskCancel false) ∷ plain 0 (op.SubtaskCancel true) ∷ plain 0 op.SubtaskDrop
    ∷ plain 0 op.WaitableSetNew ∷ plain 0 op.WaitableJoin ∷ wait 0 Poll (core_at 0 0) ∷ plain 1 (op.Yield false) ∷ task_return 1 None no_options ∷ []

abbrev pub calling : Graph
calling = graph_of 2 calling_canons [] [] []

abbrev pub calling_world : Expr → World
calling_world body =
    acting body
    (instantiated 2
    (store_of (words 0 1 ∷ words 1 1 ∷ words 1 1 ∷ words 1 0 ∷ words 0 1 ∷ words 2 0 ∷ words 2 1 ∷ words 0 1 ∷ words 0 0 ∷ [])
    (own 1 (words 0 0) (asks 7 [] (calls 8 [] End)) ∷ []) (replicate 8 255 ∷ [] ∷ [])))

abbrev pub child_called : List Label
child_called =
    line.Do 1 builtin.Lower [] ∷ line.Call 1 2 2 ∷ line.Enter 2 ∷ line.Do 2 builtin.Yield [] ∷ line.Block 2 reason.Yield ∷ line.Got 1 (17 ∷ []) ∷ []

abbrev pub child_returns : List Label
child_returns =
    line.Go 2 ∷ line.Got 2 (0 ∷ []) ∷ line.Do 2 builtin.TaskReturn [] ∷ line.Return 2 None ∷ line.Got 2 [] ∷ line.Exit 2 ∷ []

abbrev pub run_ends : List Label
run_ends = line.Return 1 None ∷ line.Exit 1 ∷ []

-- Task 1 cancels the call and waits until it has resolved. Then the subtask may leave the table.
abbrev pub cancels : Expr
cancels = asks 0 [] (asks 1 (1 ∷ []) (calls 3 (1 ∷ []) End))

abbrev pub cancel_awaited : List Label
cancel_awaited =
    child_called ++ line.Do 1 builtin.SubtaskCancel (1 ∷ []) ∷ line.Block 1 (reason.Cancel 1) ∷ child_returns
    ++ line.Go 1 ∷ line.Got 1 (2 ∷ []) ∷ line.Do 1 builtin.SubtaskDrop (1 ∷ []) ∷ line.Got 1 [] ∷ run_ends

-- It does not wait, and may not ask again.
abbrev pub cancels_twice : Expr
cancels_twice = asks 0 [] (asks 2 (1 ∷ []) (asks 2 (1 ∷ []) End))

abbrev pub cancel_asked : List Label
cancel_asked =
    child_called ++ line.Do 1 builtin.SubtaskCancel (1 ∷ []) ∷ line.Got 1 (4294967295 ∷ []) ∷ line.Do 1 builtin.SubtaskCancel (1 ∷ []) ∷ []

-- Before it is told that the call has resolved the subtask stays.
abbrev pub drops_early : Expr
drops_early = asks 0 [] (calls 3 (1 ∷ []) End)

abbrev pub dropped_early : List Label
dropped_early = child_called ++ line.Do 1 builtin.SubtaskDrop (1 ∷ []) ∷ []

-- The state that the call answered is not told again.
abbrev pub polls : Expr
polls = asks 0 [] (asks 4 [] (calls 5 (1 ∷ 2 ∷ []) (asks 6 (2 ∷ 0 ∷ []) End)))

abbrev pub nothing_new : List Label
nothing_new =
    child_called ++ line.Do 1 builtin.WaitableSetNew [] ∷ line.Got 1 (2 ∷ []) ∷ line.Do 1 builtin.WaitableJoin (1 ∷ 2 ∷ []) ∷ line.Got 1 []
    ∷ line.Do 1 builtin.WaitableSetPoll (2 ∷ 0 ∷ []) ∷ line.Event 1 0 0 0 ∷ line.Got 1 (0 ∷ []) ∷ run_ends ++ child_returns

-- That there is no event takes eight bytes too.
abbrev pub polled_tables : List (List LiveEntry)
polled_tables = (record { index = 1; entry = entry.Subtask 2 2 } ∷ record { index = 2; entry = entry.Set (1 ∷ []) } ∷ []) ∷ [] ∷ []

abbrev pub polled_bytes : List (List ℕ)
polled_bytes = replicate 8 0 ∷ [] ∷ []

-- A child calls its caller's instance back when its caller has exited.
abbrev pub late_canons : List CanonFunc
late_canons =
    lower 0 (lift 1 3 no_options) of_nothing asynchronous ∷ lower 1 (lift 0 4 no_options) of_nothing asynchronous ∷ plain 1 (op.Yield false) ∷ []

abbrev pub late : Graph
late = graph_of 2 late_canons [] [] []

abbrev pub late_world : World
late_world =
    acting (asks 0 [] End)
    (instantiated 2 (store_of (words 0 1 ∷ words 0 1 ∷ words 0 1 ∷ []) (own 1 (words 0 0) (asks 2 [] (asks 1 [] End)) ∷ own 0 (words 0 0) End ∷ []) ([] ∷ [] ∷ [])))

abbrev pub came_late : List Label
came_late = child_called ++ run_ends ++ line.Go 2 ∷ line.Got 2 (0 ∷ []) ∷ line.Do 2 builtin.Lower [] ∷ []

-- The post-return of a function sets a word of its task, and may do no more.
abbrev pub after_canons : List CanonFunc
after_canons = context 0 Set 0 ∷ plain 0 (op.Yield false) ∷ []

abbrev pub after : Graph
after =
    graph_of 1 after_canons [] (exported run_name of_nothing ∷ []) (lift 0 2 (record no_options { post_return = Some (core_func 0 3) }) ∷ [])

abbrev pub after_world : World
after_world =
    instantiated 1 (store_of (words 1 0 ∷ words 0 1 ∷ []) (own 0 (words 0 0) End ∷ own 0 (words 0 0) (calls 0 (5 ∷ []) (asks 1 [] End)) ∷ []) ([] ∷ []))

abbrev pub held_after : List Label
held_after =
    line.Take 1 1 run_name [] ∷ line.Enter 1 ∷ line.Return 1 None ∷ line.Do 1 builtin.ContextSet (5 ∷ []) ∷ line.Got 1 [] ∷ line.Do 1 builtin.Yield [] ∷ []
