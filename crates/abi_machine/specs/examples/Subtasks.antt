-- Calls that are not waited for (Component Model, CanonicalABI.md, `canon lower`, `canon task.return`, `canon waitable-set.wait`; Concurrency.md,
-- "Waitables and Waitable Sets"): task 1 calls a function of its child that gives a number, whose place it passes.
use Rattle.std.specs.Prelude.{ℕ, codes, false, List, [], ◌∷◌, ◌++◌, replicate, Option, Some, None}
use Rattle.syntax_trees.specs.Expr.{Expr, End}
use Rattle.wasm_store.specs.Store.{Store}
use Rattle.syntax_trees.specs.declared.types.ValType.TheVariants.{U32}
use Rattle.syntax_trees.specs.declared.types.FuncType.{FuncType}
use Rattle.syntax_trees.specs.declared.value.Value.TheVariants as value
use Rattle.builtin_kinds.specs.declared.PlainBuiltin.TheVariants as op
use Rattle.builtin_kinds.specs.declared.WaitOp.TheVariants.{Wait}
use Rattle.comp_graph.specs.declared.graph.Options.{Options}
use Rattle.comp_graph.specs.declared.graph.CanonFunc.{CanonFunc}
use Rattle.comp_graph.specs.Graph.{Graph, no_options}
use Rattle.script_reader.specs.Script.{Script}
use Rattle.trace_labels.specs.declared.builtin.Builtin.TheVariants as builtin
use Rattle.trace_labels.specs.declared.label.BlockReason.TheVariants as reason
use Rattle.trace_labels.specs.declared.label.Label.{Label}
use Rattle.trace_labels.specs.declared.label.Label.TheVariants as line
use Rattle.trace_labels.specs.declared.dump.LiveEntry.{LiveEntry}
use Rattle.trace_labels.specs.declared.dump.Entry.TheVariants as entry
use Rattle.trace_labels.specs.declared.typed.TypedValue.{TypedValue}
use Rattle.abi_machine.specs.World.{World}
use Rattle.abi_machine.specs.examples.Parts.{func_type, of_nothing, words, own, number, calls, asks, plain, wait, task_return, lower, core_at, asynchronous, callback, with_memory, lift, graph_of, exported, store_of, instantiated, acting, run_name, script_of, call}

abbrev pub to_number : FuncType
to_number = func_type [] (Some U32)

abbrev pub seven : Option TypedValue
seven = Some (record { value = value.U32 7; val_type = U32 })

-- The child's function lets others run first, and then returns 7.
abbrev pub work_options : Options
work_options = with_memory 0 asynchronous

abbrev pub working_canons : List CanonFunc
working_canons =
    plain 0 op.WaitableSetNew ∷ lower 0 (lift 1 7 asynchronous) to_number work_options ∷ plain 0 op.WaitableJoin
    ∷ wait 0 Wait (core_at 0 0) ∷ task_return 0 None no_options ∷ plain 1 (op.Yield false) ∷ task_return 1 (Some U32) no_options ∷ []

abbrev pub works : Expr
works = asks 5 [] (calls 6 (7 ∷ []) End)

abbrev pub runs : Expr
runs = asks 0 [] (asks 1 (64 ∷ []) (calls 2 (2 ∷ 1 ∷ []) (asks 3 (1 ∷ 0 ∷ []) (calls 4 [] End))))

abbrev pub working : Graph
working = graph_of 2 working_canons [] (exported run_name of_nothing ∷ []) (lift 0 8 asynchronous ∷ [])

abbrev pub working_store : Store
working_store =
    store_of (words 0 1 ∷ words 1 1 ∷ words 2 0 ∷ words 2 1 ∷ words 0 0 ∷ words 0 1 ∷ words 1 0 ∷ []) (own 1 (words 0 0) works ∷ own 0 (words 0 0) runs ∷ [])
    (replicate 68 0 ∷ [] ∷ [])

abbrev pub working_world : World
working_world = instantiated 2 working_store

abbrev pub work_called : List Label
work_called =
    line.Take 1 1 run_name [] ∷ line.Enter 1
    ∷ line.Do 1 builtin.WaitableSetNew [] ∷ line.Got 1 (1 ∷ [])
    ∷ line.Do 1 builtin.Lower (64 ∷ []) ∷ line.Call 1 2 2 ∷ line.Enter 2
    ∷ line.Do 2 builtin.Yield [] ∷ line.Block 2 reason.Yield ∷ line.Got 1 (33 ∷ [])
    ∷ line.Do 1 builtin.WaitableJoin (2 ∷ 1 ∷ []) ∷ line.Got 1 []
    ∷ line.Do 1 builtin.WaitableSetWait (1 ∷ 0 ∷ []) ∷ line.Block 1 (reason.Wait 1) ∷ []

abbrev pub work_done : List Label
work_done =
    line.Go 2 ∷ line.Got 2 (0 ∷ [])
    ∷ line.Do 2 builtin.TaskReturn (7 ∷ []) ∷ line.Return 2 seven ∷ line.Got 2 [] ∷ line.Exit 2
    ∷ line.Go 1 ∷ line.Event 1 1 2 2 ∷ line.Got 1 (1 ∷ []) ∷ []

abbrev pub run_ends : List Label
run_ends = line.Do 1 builtin.TaskReturn [] ∷ line.Return 1 None ∷ line.Got 1 [] ∷ line.Exit 1 ∷ []

abbrev pub awaited : List Label
awaited = work_called ++ work_done ++ run_ends

-- The set has the subtask, which has returned.
abbrev pub awaited_tables : List (List LiveEntry)
awaited_tables =
    (record { index = 1; entry = entry.Set (2 ∷ []) } ∷ record { index = 2; entry = entry.Subtask 2 2 } ∷ []) ∷ [] ∷ []

-- The event's index and payload stand at 0, the number at 64.
abbrev pub awaited_bytes : List (List ℕ)
awaited_bytes = ((2 ∷ 0 ∷ 0 ∷ 0 ∷ 2 ∷ 0 ∷ 0 ∷ 0 ∷ []) ++ replicate 56 0 ++ 7 ∷ 0 ∷ 0 ∷ 0 ∷ []) ∷ [] ∷ []

-- The child's function returns at once: no entry is made.
abbrev pub at_once_canons : List CanonFunc
at_once_canons = lower 0 (lift 1 2 (callback 1 3)) to_number work_options ∷ task_return 1 (Some U32) no_options ∷ []

abbrev pub at_once : Graph
at_once = graph_of 2 at_once_canons [] [] []

abbrev pub at_once_world : World
at_once_world =
    acting (asks 0 (64 ∷ []) End)
    (instantiated 2 (store_of (words 1 1 ∷ words 1 0 ∷ []) (own 1 (words 0 1) (calls 1 (7 ∷ []) (number 0 End)) ∷ own 1 (words 3 1) (number 0 End) ∷ []) (replicate 68 0 ∷ [] ∷ [])))

abbrev pub returned_at_once : List Label
returned_at_once =
    line.Do 1 builtin.Lower (64 ∷ []) ∷ line.Call 1 2 2 ∷ line.Enter 2
    ∷ line.Do 2 builtin.TaskReturn (7 ∷ []) ∷ line.Return 2 seven ∷ line.Got 2 [] ∷ line.Exit 2
    ∷ line.Got 1 (2 ∷ []) ∷ line.Return 1 None ∷ line.Exit 1 ∷ []

abbrev pub at_once_bytes : List (List ℕ)
at_once_bytes = (replicate 64 0 ++ 7 ∷ 0 ∷ 0 ∷ 0 ∷ []) ∷ [] ∷ []

-- The child's function makes a set of its own and waits for it. Task 1 has made a set before.
abbrev pub stays_canons : List CanonFunc
stays_canons = plain 0 op.WaitableSetNew ∷ lower 0 (lift 1 3 (callback 1 4)) to_number work_options ∷ plain 1 op.WaitableSetNew ∷ []

abbrev pub stays : Graph
stays = graph_of 2 stays_canons [] [] []

abbrev pub stays_world : World
stays_world =
    acting (asks 0 [] (asks 1 (64 ∷ []) End))
    (instantiated 2 (store_of (words 0 1 ∷ words 1 1 ∷ words 0 1 ∷ []) (own 1 (words 0 1) (asks 2 [] (number 18 End)) ∷ own 1 (words 3 1) (number 0 End) ∷ []) (replicate 68 0 ∷ [] ∷ [])))

abbrev pub stayed : List Label
stayed =
    line.Do 1 builtin.WaitableSetNew [] ∷ line.Got 1 (1 ∷ [])
    ∷ line.Do 1 builtin.Lower (64 ∷ []) ∷ line.Call 1 2 2 ∷ line.Enter 2
    ∷ line.Do 2 builtin.WaitableSetNew [] ∷ line.Got 2 (1 ∷ []) ∷ line.Block 2 (reason.Wait 1) ∷ line.Got 1 (33 ∷ [])
    ∷ line.Return 1 None ∷ line.Exit 1 ∷ []

-- `hold` keeps others out of the child's instance. The child's function, which task 2 calls, waits to enter, and has returned when its
-- caller is told.
abbrev pub held_canons : List CanonFunc
held_canons =
    plain 0 op.WaitableSetNew ∷ lower 0 (lift 1 12 (callback 1 13)) to_number work_options ∷ plain 0 op.WaitableJoin ∷ wait 0 Wait (core_at 0 0)
    ∷ task_return 0 None no_options ∷ plain 1 op.BackpressureInc ∷ plain 1 (op.Yield false) ∷ plain 1 op.BackpressureDec
    ∷ task_return 1 (Some U32) no_options ∷ task_return 1 None no_options ∷ []

abbrev pub hold_name : List ℕ
hold_name = codes "hold"

abbrev pub holds : Expr
holds = calls 5 [] (asks 6 [] (calls 7 [] (calls 9 [] End)))

abbrev pub held : Graph
held = graph_of 2 held_canons [] (exported hold_name of_nothing ∷ exported run_name of_nothing ∷ []) (lift 1 10 asynchronous ∷ lift 0 11 asynchronous ∷ [])

abbrev pub held_store : Store
held_store =
    store_of (words 0 1 ∷ words 1 1 ∷ words 2 0 ∷ words 2 1 ∷ words 0 0 ∷ words 0 0 ∷ words 0 1 ∷ words 0 0 ∷ words 1 0 ∷ words 0 0 ∷ [])
    (own 1 (words 0 0) holds ∷ own 0 (words 0 0) runs ∷ own 1 (words 0 1) (calls 8 (7 ∷ []) (number 0 End)) ∷ own 1 (words 3 1) (number 0 End) ∷ [])
    (replicate 68 0 ∷ [] ∷ [])

abbrev pub held_world : World
held_world = instantiated 2 held_store

abbrev pub hold_then_run : Script
hold_then_run = script_of (call hold_name ∷ call run_name ∷ [])

abbrev pub held_begins : List Label
held_begins =
    line.Take 1 1 hold_name [] ∷ line.Enter 1
    ∷ line.Do 1 builtin.BackpressureInc [] ∷ line.Got 1 [] ∷ line.Do 1 builtin.Yield [] ∷ line.Block 1 reason.Yield
    ∷ line.Choose 2 0 ∷ line.Take 2 2 run_name [] ∷ line.Enter 2
    ∷ line.Do 2 builtin.WaitableSetNew [] ∷ line.Got 2 (1 ∷ [])
    ∷ line.Do 2 builtin.Lower (64 ∷ []) ∷ line.Call 2 3 2 ∷ line.Block 3 reason.Entry ∷ line.Got 2 (32 ∷ [])
    ∷ line.Do 2 builtin.WaitableJoin (2 ∷ 1 ∷ []) ∷ line.Got 2 []
    ∷ line.Do 2 builtin.WaitableSetWait (1 ∷ 0 ∷ []) ∷ line.Block 2 (reason.Wait 1) ∷ []

abbrev pub held_ends : List Label
held_ends =
    line.Go 1 ∷ line.Got 1 (0 ∷ [])
    ∷ line.Do 1 builtin.BackpressureDec [] ∷ line.Got 1 [] ∷ line.Do 1 builtin.TaskReturn [] ∷ line.Return 1 None ∷ line.Got 1 [] ∷ line.Exit 1
    ∷ line.Go 3 ∷ line.Enter 3
    ∷ line.Do 3 builtin.TaskReturn (7 ∷ []) ∷ line.Return 3 seven ∷ line.Got 3 [] ∷ line.Exit 3
    ∷ line.Go 2 ∷ line.Event 2 1 2 2 ∷ line.Got 2 (1 ∷ [])
    ∷ line.Do 2 builtin.TaskReturn [] ∷ line.Return 2 None ∷ line.Got 2 [] ∷ line.Exit 2 ∷ []

abbrev pub entered_late : List Label
entered_late = held_begins ++ held_ends

-- The child's callback gives 0 where its task has not resolved, or a word of no code.
abbrev pub ending_canons : List CanonFunc
ending_canons = lower 0 (lift 1 1 (callback 1 2)) of_nothing asynchronous ∷ []

abbrev pub ending : Graph
ending = graph_of 2 ending_canons [] [] []

-- Its core function gives this word, and its callback that one.
abbrev pub ending_world : ℕ → ℕ → World
ending_world word again =
    acting (asks 0 [] End) (instantiated 2 (store_of (words 0 1 ∷ []) (own 1 (words 0 1) (number word End) ∷ own 1 (words 3 1) (number again End) ∷ []) ([] ∷ [] ∷ [])))

abbrev pub child_called : List Label
child_called = line.Do 1 builtin.Lower [] ∷ line.Call 1 2 2 ∷ line.Enter 2 ∷ []

abbrev pub called_back : List Label
called_back =
    child_called ++ line.Block 2 reason.Yield ∷ line.Got 1 (17 ∷ []) ∷ line.Return 1 None ∷ line.Exit 1 ∷ line.Go 2 ∷ line.Event 2 0 0 0 ∷ []

-- Two calls are under way when a third one is an alternative.
abbrev pub choosing_canons : List CanonFunc
choosing_canons = lower 0 (lift 1 3 asynchronous) to_number work_options ∷ plain 1 (op.Yield false) ∷ task_return 1 (Some U32) no_options ∷ []

abbrev pub nop_name : List ℕ
nop_name = codes "nop"

abbrev pub choosing : Graph
choosing = graph_of 2 choosing_canons [] (exported run_name of_nothing ∷ exported nop_name of_nothing ∷ []) (lift 0 4 no_options ∷ lift 0 5 no_options ∷ [])

abbrev pub choosing_world : World
choosing_world =
    acting (asks 0 (64 ∷ []) (asks 0 (68 ∷ []) End))
    (instantiated 2 (store_of (words 1 1 ∷ words 0 1 ∷ words 1 0 ∷ []) (own 1 (words 0 0) (asks 1 [] (calls 2 (7 ∷ []) End)) ∷ own 0 (words 0 0) End ∷ own 0 (words 0 0) End ∷ []) (replicate 72 0 ∷ [] ∷ [])))

abbrev pub picking : Script
picking = record (script_of (call run_name ∷ call nop_name ∷ [])) { picks = 7 ∷ [] }

abbrev pub child_yields : ℕ → ℕ → ℕ → List Label
child_yields place callee answer =
    line.Do 1 builtin.Lower (place ∷ []) ∷ line.Call 1 callee 2 ∷ line.Enter callee
    ∷ line.Do callee builtin.Yield [] ∷ line.Block callee reason.Yield ∷ line.Got 1 (answer ∷ []) ∷ []

abbrev pub child_returns : ℕ → List Label
child_returns callee =
    line.Go callee ∷ line.Got callee (0 ∷ [])
    ∷ line.Do callee builtin.TaskReturn (7 ∷ []) ∷ line.Return callee seven ∷ line.Got callee [] ∷ line.Exit callee ∷ []

abbrev pub chosen : List Label
chosen =
    child_yields 64 2 17 ++ child_yields 68 3 33 ++ line.Return 1 None ∷ line.Exit 1
    ∷ line.Choose 3 1 ∷ child_returns 2
    ++ line.Choose 2 0 ∷ line.Take 2 4 nop_name [] ∷ line.Enter 4 ∷ line.Return 4 None ∷ line.Exit 4 ∷ child_returns 3
