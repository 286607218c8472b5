-- What a cancellation that is asked comes to (Component Model, Concurrency.md, "Cancellation"; CanonicalABI.md, `canon yield`, `canon
-- waitable-set.wait`, `canon task.cancel`): it is told where a task asks next, or at once, or never.
use Rattle.std.specs.Prelude.{ℕ, true, false, List, [], ◌∷◌, ◌++◌, replicate, codes, None}
use Rattle.syntax_trees.specs.Expr.{Expr, End}
use Rattle.builtin_kinds.specs.declared.PlainBuiltin.TheVariants as op
use Rattle.builtin_kinds.specs.declared.WaitOp.TheVariants.{Wait}
use Rattle.builtin_kinds.specs.declared.EndKind.TheVariants.{Stream}
use Rattle.builtin_kinds.specs.declared.EndSide.TheVariants.{Readable, Writable}
use Rattle.comp_graph.specs.declared.graph.BuiltinKind.TheVariants as kind
use Rattle.comp_graph.specs.declared.graph.CanonFunc.{CanonFunc}
use Rattle.comp_graph.specs.declared.graph.EndOp.TheVariants as end
use Rattle.comp_graph.specs.Graph.{Graph, no_options}
use Rattle.script_reader.specs.declared.script.Item.TheVariants.{Cancel}
use Rattle.script_reader.specs.Script.{Script}
use Rattle.trace_labels.specs.declared.builtin.Builtin.TheVariants as builtin
use Rattle.trace_labels.specs.declared.dump.Entry.TheVariants as entry
use Rattle.trace_labels.specs.declared.dump.EndState.TheVariants.{Done}
use Rattle.trace_labels.specs.declared.dump.LiveEntry.{LiveEntry}
use Rattle.trace_labels.specs.declared.dump.Side.TheVariants as side
use Rattle.trace_labels.specs.declared.label.BlockReason.TheVariants as reason
use Rattle.trace_labels.specs.declared.label.Channel.TheVariants as channel
use Rattle.trace_labels.specs.declared.label.Label.{Label}
use Rattle.trace_labels.specs.declared.label.Label.TheVariants as line
use Rattle.abi_machine.specs.World.{World}
use Rattle.abi_machine.specs.examples.Parts.{of_nothing, words, to_both, own, number, calls, asks, builtin as made_by, plain, task_return, ends, core_at, asynchronous, callback, lift, graph_of, exported, store_of, instantiated, run_name, script_of, call}

-- The first call, and its cancellation.
abbrev pub called_and_cancelled : Script
called_and_cancelled = script_of (call run_name ∷ Cancel 1 ∷ [])

-- A task lets others run, and meanwhile its cancellation is asked. Then a member of its set has an event: a wait that a cancellation ends
-- tells first that it is asked, and the next one the event.
abbrev pub waits_twice_canons : List CanonFunc
waits_twice_canons =
    plain 0 (op.Yield false) ∷ ends 0 Stream None end.New ∷ ends 0 Stream None (end.Copy Readable asynchronous) ∷ ends 0 Stream None (end.Drop Writable)
    ∷ plain 0 op.WaitableSetNew ∷ plain 0 op.WaitableJoin ∷ made_by 0 (kind.Wait Wait true (core_at 0 0)) ∷ plain 0 op.TaskCancel ∷ []

abbrev pub waits_twice_body : Expr
waits_twice_body =
    asks 0 [] (asks 1 [] (asks 2 (1 ∷ 0 ∷ 4 ∷ []) (calls 3 (2 ∷ []) (asks 4 [] (calls 5 (1 ∷ 2 ∷ []) (asks 6 (2 ∷ 0 ∷ []) (asks 6 (2 ∷ 8 ∷ []) (calls 7 [] End))))))))

abbrev pub waits_twice : Graph
waits_twice = graph_of 1 waits_twice_canons [] (exported run_name of_nothing ∷ []) (lift 0 8 asynchronous ∷ [])

abbrev pub waits_twice_world : World
waits_twice_world =
    instantiated 1
    (store_of (words 0 1 ∷ to_both ∷ words 3 1 ∷ words 1 0 ∷ words 0 1 ∷ words 2 0 ∷ words 2 1 ∷ words 0 0 ∷ []) (own 0 (words 0 0) waits_twice_body ∷ []) (replicate 16 255 ∷ []))

abbrev pub told_first : List Label
told_first =
    line.Take 1 1 run_name [] ∷ line.Enter 1
    ∷ line.Do 1 builtin.Yield [] ∷ line.Block 1 reason.Yield ∷ line.Choose 2 0 ∷ line.Cancel 1 ∷ line.Go 1 ∷ line.Got 1 (0 ∷ [])
    ∷ line.Do 1 builtin.StreamNew [] ∷ line.Got 1 (8589934593 ∷ [])
    ∷ line.Do 1 builtin.StreamRead (1 ∷ 0 ∷ 4 ∷ []) ∷ line.Got 1 (4294967295 ∷ [])
    ∷ line.Do 1 builtin.StreamDropWritable (2 ∷ []) ∷ line.Got 1 []
    ∷ line.Do 1 builtin.WaitableSetNew [] ∷ line.Got 1 (2 ∷ []) ∷ line.Do 1 builtin.WaitableJoin (1 ∷ 2 ∷ []) ∷ line.Got 1 []
    ∷ line.Do 1 builtin.WaitableSetWait (2 ∷ 0 ∷ []) ∷ line.Event 1 6 0 0 ∷ line.Got 1 (6 ∷ [])
    ∷ line.Do 1 builtin.WaitableSetWait (2 ∷ 8 ∷ []) ∷ line.Event 1 2 1 1 ∷ line.Got 1 (2 ∷ [])
    ∷ line.Do 1 builtin.TaskCancel [] ∷ line.Cancelled 1 ∷ line.Got 1 [] ∷ line.Exit 1 ∷ []

-- Both events take eight bytes.
abbrev pub both_events : List (List ℕ)
both_events = (replicate 8 0 ++ (1 ∷ 0 ∷ 0 ∷ 0 ∷ 1 ∷ 0 ∷ 0 ∷ 0 ∷ [])) ∷ []

abbrev pub told_of_drop : List (List LiveEntry)
told_of_drop =
    (record { index = 1; entry = entry.End (channel.Stream 1) side.Readable Done } ∷ record { index = 2; entry = entry.Set (1 ∷ []) } ∷ []) ∷ []

-- A task whose function is lifted without `async` is not made to go on; its next `yield` that a cancellation ends tells it.
abbrev pub yields_twice : Graph
yields_twice = graph_of 1 (plain 0 (op.Yield true) ∷ []) [] (exported run_name of_nothing ∷ []) (lift 0 1 no_options ∷ [])

abbrev pub yields_twice_world : World
yields_twice_world = instantiated 1 (store_of (words 0 1 ∷ []) (own 0 (words 0 0) (asks 0 [] (asks 0 [] End)) ∷ []) ([] ∷ []))

abbrev pub told_next : List Label
told_next =
    line.Take 1 1 run_name [] ∷ line.Enter 1
    ∷ line.Do 1 builtin.Yield [] ∷ line.Block 1 reason.Yield ∷ line.Choose 2 0 ∷ line.Cancel 1 ∷ line.Go 1 ∷ line.Got 1 (0 ∷ [])
    ∷ line.Do 1 builtin.Yield [] ∷ line.Event 1 6 0 0 ∷ line.Got 1 (1 ∷ []) ∷ line.Return 1 None ∷ line.Exit 1 ∷ []

-- A task waits in its loop while another one holds exclusive entry: it is told when entry is free.
abbrev pub turns_name : List ℕ
turns_name = codes "turns"

abbrev pub holds_name : List ℕ
holds_name = codes "holds"

abbrev pub held_loop : Graph
held_loop =
    graph_of 1 (plain 0 (op.Yield false) ∷ plain 0 op.TaskCancel ∷ []) [] (exported turns_name of_nothing ∷ exported holds_name of_nothing ∷ [])
    (lift 0 2 (callback 0 3) ∷ lift 0 4 no_options ∷ [])

abbrev pub held_loop_world : World
held_loop_world =
    instantiated 1
    (store_of (words 0 1 ∷ words 0 0 ∷ [])
    (own 0 (words 0 1) (number 1 End) ∷ own 0 (words 3 1) (calls 1 [] (number 0 End)) ∷ own 0 (words 0 0) (asks 0 [] End) ∷ []) ([] ∷ []))

abbrev pub held_and_cancelled : Script
held_and_cancelled = script_of (call turns_name ∷ call holds_name ∷ Cancel 1 ∷ [])

abbrev pub told_when_free : List Label
told_when_free =
    line.Take 1 1 turns_name [] ∷ line.Enter 1 ∷ line.Block 1 reason.Yield
    ∷ line.Choose 2 0 ∷ line.Take 2 2 holds_name [] ∷ line.Enter 2 ∷ line.Do 2 builtin.Yield [] ∷ line.Block 2 reason.Yield
    ∷ line.Choose 2 0 ∷ line.Cancel 1
    ∷ line.Go 2 ∷ line.Got 2 (0 ∷ []) ∷ line.Return 2 None ∷ line.Exit 2
    ∷ line.Go 1 ∷ line.Event 1 6 0 0 ∷ line.Do 1 builtin.TaskCancel [] ∷ line.Cancelled 1 ∷ line.Got 1 [] ∷ line.Exit 1 ∷ []

-- So it is told where it waits on a set in which no member is ready: its wait is over once entry is free.
abbrev pub held_wait : Graph
held_wait =
    graph_of 1 (plain 0 (op.Yield false) ∷ plain 0 op.TaskCancel ∷ plain 0 op.WaitableSetNew ∷ []) [] (exported turns_name of_nothing ∷ exported holds_name of_nothing ∷ [])
    (lift 0 3 (callback 0 4) ∷ lift 0 5 no_options ∷ [])

abbrev pub held_wait_world : World
held_wait_world =
    instantiated 1
    (store_of (words 0 1 ∷ words 0 0 ∷ words 0 1 ∷ [])
    (own 0 (words 0 1) (asks 2 [] (number 18 End)) ∷ own 0 (words 3 1) (calls 1 [] (number 0 End)) ∷ own 0 (words 0 0) (asks 0 [] End) ∷ []) ([] ∷ []))

abbrev pub wait_ended_when_free : List Label
wait_ended_when_free =
    line.Take 1 1 turns_name [] ∷ line.Enter 1 ∷ line.Do 1 builtin.WaitableSetNew [] ∷ line.Got 1 (1 ∷ []) ∷ line.Block 1 (reason.Wait 1)
    ∷ line.Take 2 2 holds_name [] ∷ line.Enter 2 ∷ line.Do 2 builtin.Yield [] ∷ line.Block 2 reason.Yield
    ∷ line.Choose 2 0 ∷ line.Cancel 1
    ∷ line.Go 2 ∷ line.Got 2 (0 ∷ []) ∷ line.Return 2 None ∷ line.Exit 2
    ∷ line.Go 1 ∷ line.Event 1 6 0 0 ∷ line.Do 1 builtin.TaskCancel [] ∷ line.Cancelled 1 ∷ line.Got 1 [] ∷ line.Exit 1 ∷ []

-- A task that has returned is not asked.
abbrev pub lingers : Graph
lingers =
    graph_of 1 (task_return 0 None no_options ∷ plain 0 (op.Yield true) ∷ []) [] (exported run_name of_nothing ∷ []) (lift 0 2 asynchronous ∷ [])

abbrev pub lingers_world : World
lingers_world = instantiated 1 (store_of (words 0 0 ∷ words 0 1 ∷ []) (own 0 (words 0 0) (calls 0 [] (asks 1 [] End)) ∷ []) ([] ∷ []))

abbrev pub left_alone : List Label
left_alone =
    line.Take 1 1 run_name [] ∷ line.Enter 1
    ∷ line.Do 1 builtin.TaskReturn [] ∷ line.Return 1 None ∷ line.Got 1 [] ∷ line.Do 1 builtin.Yield [] ∷ line.Block 1 reason.Yield
    ∷ line.Choose 2 0 ∷ line.Cancel 1 ∷ line.Go 1 ∷ line.Got 1 (0 ∷ []) ∷ line.Exit 1 ∷ []
