-- Ends that others see (Component Model, CanonicalABI.md, "Stream State", "Waitable Set State", `canon stream.{read,write}`, `canon
-- stream.cancel-{read,write}`, `canon stream.drop-{readable,writable}`): of a stream whose elements hold nothing.
use Rattle.std.specs.Prelude.{ℕ, false, List, [], ◌∷◌, ◌++◌, replicate, codes, None}
use Rattle.syntax_trees.specs.Expr.{Expr, End}
use Rattle.builtin_kinds.specs.declared.PlainBuiltin.TheVariants as op
use Rattle.builtin_kinds.specs.declared.WaitOp.TheVariants.{Poll}
use Rattle.builtin_kinds.specs.declared.EndKind.TheVariants.{Stream}
use Rattle.builtin_kinds.specs.declared.EndSide.TheVariants.{Readable, Writable}
use Rattle.comp_graph.specs.declared.graph.CanonFunc.{CanonFunc}
use Rattle.comp_graph.specs.declared.graph.EndOp.TheVariants as end
use Rattle.comp_graph.specs.Graph.{Graph, no_options}
use Rattle.script_reader.specs.Script.{Script}
use Rattle.trace_labels.specs.declared.builtin.Builtin.TheVariants as builtin
use Rattle.trace_labels.specs.declared.dump.Entry.TheVariants as entry
use Rattle.trace_labels.specs.declared.dump.EndState.TheVariants.{Idle}
use Rattle.trace_labels.specs.declared.dump.LiveEntry.{LiveEntry}
use Rattle.trace_labels.specs.declared.dump.Side.TheVariants as side
use Rattle.trace_labels.specs.declared.label.BlockReason.TheVariants as reason
use Rattle.trace_labels.specs.declared.label.Channel.TheVariants as channel
use Rattle.trace_labels.specs.declared.label.Copied.TheVariants.{Units}
use Rattle.trace_labels.specs.declared.label.Label.{Label}
use Rattle.trace_labels.specs.declared.label.Label.TheVariants as line
use Rattle.abi_machine.specs.World.{World}
use Rattle.abi_machine.specs.examples.Parts.{of_nothing, words, to_both, own, calls, asks, plain, wait, task_return, ends, core_at, asynchronous, lift, graph_of, exported, store_of, instantiated, acting, script_of, call}

-- One task reads and waits; another one writes and polls the set of the end that is read, or cancels the read.
abbrev pub sharing_canons : List CanonFunc
sharing_canons =
    ends 0 Stream None end.New ∷ ends 0 Stream None (end.Copy Readable no_options) ∷ ends 0 Stream None (end.Copy Writable asynchronous)
    ∷ plain 0 op.WaitableSetNew ∷ plain 0 op.WaitableJoin ∷ wait 0 Poll (core_at 0 0) ∷ task_return 0 None no_options ∷ ends 0 Stream None (end.Cancel Readable false) ∷ []

abbrev pub reads_name : List ℕ
reads_name = codes "reads"

abbrev pub other_name : List ℕ
other_name = codes "other"

abbrev pub sharing : Graph
sharing =
    graph_of 1 sharing_canons [] (exported reads_name of_nothing ∷ exported other_name of_nothing ∷ []) (lift 0 8 asynchronous ∷ lift 0 9 asynchronous ∷ [])

abbrev pub reads : Expr
reads = asks 0 [] (asks 3 [] (calls 4 (1 ∷ 3 ∷ []) (asks 1 (1 ∷ 0 ∷ 1 ∷ []) (calls 6 [] End))))

abbrev pub sharing_world : Expr → World
sharing_world other =
    instantiated 1
    (store_of (to_both ∷ words 3 1 ∷ words 3 1 ∷ words 0 1 ∷ words 2 0 ∷ words 2 1 ∷ words 0 0 ∷ words 1 1 ∷ []) (own 0 (words 0 0) reads ∷ own 0 (words 0 0) other ∷ [])
    (replicate 8 255 ∷ []))

abbrev pub read_and_other : Script
read_and_other = script_of (call reads_name ∷ call other_name ∷ [])

abbrev pub reading : List Label
reading =
    line.Take 1 1 reads_name [] ∷ line.Enter 1
    ∷ line.Do 1 builtin.StreamNew [] ∷ line.Got 1 (8589934593 ∷ []) ∷ line.Do 1 builtin.WaitableSetNew [] ∷ line.Got 1 (3 ∷ [])
    ∷ line.Do 1 builtin.WaitableJoin (1 ∷ 3 ∷ []) ∷ line.Got 1 [] ∷ line.Do 1 builtin.StreamRead (1 ∷ 0 ∷ 1 ∷ []) ∷ line.Block 1 (reason.Copy 1)
    ∷ line.Take 2 2 other_name [] ∷ line.Enter 2 ∷ []

-- The read is completed, and no poll tells it: its task does.
abbrev pub writes : Expr
writes = asks 2 (2 ∷ 0 ∷ 1 ∷ []) (asks 5 (3 ∷ 0 ∷ []) (calls 6 [] End))

abbrev pub returns : ℕ → List Label
returns t = line.Do t builtin.TaskReturn [] ∷ line.Return t None ∷ line.Got t [] ∷ line.Exit t ∷ []

abbrev pub hidden : List Label
hidden =
    reading ++ line.Do 2 builtin.StreamWrite (2 ∷ 0 ∷ 1 ∷ []) ∷ line.Copy (channel.Stream 1) (Units 1) ∷ line.Got 2 (16 ∷ [])
    ∷ line.Do 2 builtin.WaitableSetPoll (3 ∷ 0 ∷ []) ∷ line.Event 2 0 0 0 ∷ line.Got 2 (0 ∷ []) ∷ returns 2
    ++ line.Go 1 ∷ line.Got 1 (16 ∷ []) ∷ returns 1

abbrev pub shared : List (List LiveEntry)
shared =
    (record { index = 1; entry = entry.End (channel.Stream 1) side.Readable Idle } ∷ record { index = 2; entry = entry.End (channel.Stream 1) side.Writable Idle }
    ∷ record { index = 3; entry = entry.Set (1 ∷ []) } ∷ []) ∷ []

abbrev pub no_event_bytes : List (List ℕ)
no_event_bytes = replicate 8 0 ∷ []

-- A read that is waited for is not cancelled.
abbrev pub cancels : Expr
cancels = asks 7 (1 ∷ []) End

abbrev pub not_cancelled : List Label
not_cancelled = reading ++ line.Do 2 builtin.StreamCancelRead (1 ∷ []) ∷ []

-- An end that is dropped leaves its set.
abbrev pub leaving_canons : List CanonFunc
leaving_canons =
    ends 0 Stream None end.New ∷ ends 0 Stream None (end.Drop Readable) ∷ plain 0 op.WaitableSetNew ∷ plain 0 op.WaitableJoin ∷ plain 0 op.WaitableSetDrop ∷ []

abbrev pub leaving : Graph
leaving = graph_of 1 leaving_canons [] [] []

abbrev pub leaving_world : World
leaving_world =
    acting (asks 0 [] (asks 2 [] (calls 3 (1 ∷ 3 ∷ []) (calls 1 (1 ∷ []) (calls 4 (3 ∷ []) End)))))
    (instantiated 1 (store_of (to_both ∷ words 1 0 ∷ words 0 1 ∷ words 2 0 ∷ words 1 0 ∷ []) [] ([] ∷ [])))

abbrev pub left_set : List Label
left_set =
    line.Do 1 builtin.StreamNew [] ∷ line.Got 1 (8589934593 ∷ []) ∷ line.Do 1 builtin.WaitableSetNew [] ∷ line.Got 1 (3 ∷ [])
    ∷ line.Do 1 builtin.WaitableJoin (1 ∷ 3 ∷ []) ∷ line.Got 1 [] ∷ line.Do 1 builtin.StreamDropReadable (1 ∷ []) ∷ line.Got 1 []
    ∷ line.Do 1 builtin.WaitableSetDrop (3 ∷ []) ∷ line.Got 1 [] ∷ line.Return 1 None ∷ line.Exit 1 ∷ []
