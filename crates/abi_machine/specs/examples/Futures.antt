-- Futures (Component Model, CanonicalABI.md, "Future State", `canon future.new`, `canon future.{read,write}`, `canon
-- future.cancel-{read,write}`, `canon future.drop-{readable,writable}`): of bytes.
use Rattle.std.specs.Prelude.{ℕ, false, List, [], ◌∷◌, ◌++◌, replicate, Some, None}
use Rattle.syntax_trees.specs.Expr.{Expr, End}
use Rattle.syntax_trees.specs.declared.types.ValType.TheVariants.{U8}
use Rattle.syntax_trees.specs.declared.types.ValType.TheViews as types
use Rattle.syntax_trees.specs.declared.value.Value.TheVariants as value
use Rattle.builtin_kinds.specs.declared.PlainBuiltin.TheVariants as op
use Rattle.builtin_kinds.specs.declared.WaitOp.TheVariants.{Wait}
use Rattle.builtin_kinds.specs.declared.EndKind.TheVariants.{Future}
use Rattle.builtin_kinds.specs.declared.EndSide.TheVariants.{Readable, Writable}
use Rattle.comp_graph.specs.declared.graph.EndOp.{EndOp}
use Rattle.comp_graph.specs.declared.graph.EndOp.TheVariants as end
use Rattle.comp_graph.specs.declared.graph.CanonFunc.{CanonFunc}
use Rattle.comp_graph.specs.Graph.{Graph, no_options}
use Rattle.trace_labels.specs.declared.builtin.Builtin.{Builtin}
use Rattle.trace_labels.specs.declared.builtin.Builtin.TheVariants as builtin
use Rattle.trace_labels.specs.declared.label.Channel.TheVariants as channel
use Rattle.trace_labels.specs.declared.label.Copied.TheVariants.{Values}
use Rattle.trace_labels.specs.declared.label.Label.{Label}
use Rattle.trace_labels.specs.declared.label.Label.TheVariants as line
use Rattle.trace_labels.specs.declared.dump.LiveEntry.{LiveEntry}
use Rattle.trace_labels.specs.declared.dump.Entry.TheVariants as entry
use Rattle.abi_machine.specs.World.{World}
use Rattle.abi_machine.specs.examples.Parts.{func_type, words, to_both, own, calls, asks, plain, wait, ends, task_return, lower, core_at, asynchronous, with_memory, lift, graph_of, store_of, instantiated, acting}

abbrev pub of_byte : ℕ → EndOp → CanonFunc
of_byte i op = ends i Future (Some U8) op

-- Task 1 writes a byte to the future whose readable end it passes to its child.
abbrev pub promising_canons : List CanonFunc
promising_canons =
    of_byte 0 end.New ∷ of_byte 0 (end.Copy Writable (with_memory 0 asynchronous)) ∷ of_byte 0 (end.Drop Writable)
    ∷ lower 0 (lift 1 12 asynchronous) (func_type (types.Future (Some U8) ∷ []) None) no_options
    ∷ plain 0 op.WaitableSetNew ∷ plain 0 op.WaitableJoin ∷ wait 0 Wait (core_at 0 0)
    ∷ of_byte 1 (end.Copy Readable (with_memory 1 asynchronous)) ∷ of_byte 1 (end.Drop Readable) ∷ task_return 1 None no_options
    ∷ of_byte 0 (end.Copy Readable (with_memory 0 asynchronous)) ∷ of_byte 0 (end.Cancel Readable false) ∷ []

abbrev pub promising : Graph
promising = graph_of 2 promising_canons [] [] []

-- the child's function
abbrev pub promising_world : Expr → Expr → World
promising_world body child =
    acting body
    (instantiated 2
    (store_of (to_both ∷ words 2 1 ∷ words 1 0 ∷ words 1 0 ∷ words 0 1 ∷ words 2 0 ∷ words 2 1 ∷ words 2 1 ∷ words 1 0 ∷ words 0 0 ∷ words 2 1 ∷ words 1 1 ∷ [])
    (own 1 (words 1 0) child ∷ []) ((replicate 16 0 ++ 7 ∷ replicate 23 0) ∷ replicate 8 0 ∷ [])))

abbrev pub idle : Expr
idle = End

abbrev pub answers : ℕ → Builtin → List ℕ → List ℕ → List Label
answers t builtin words answer = line.Do t builtin words ∷ line.Got t answer ∷ []

abbrev pub made : List Label
made = answers 1 builtin.FutureNew [] (8589934593 ∷ [])

abbrev pub stands : ℕ
stands = 4294967295

abbrev pub run_ends : List Label
run_ends = line.Return 1 None ∷ line.Exit 1 ∷ []

abbrev pub written : List Label
written =
    made ++ answers 1 builtin.FutureWrite (2 ∷ 16 ∷ []) (stands ∷ []) ++ line.Do 1 builtin.Lower (1 ∷ []) ∷ line.Call 1 2 2 ∷ line.Enter 2 ∷ []

abbrev pub read : List Label
read =
    line.Do 2 builtin.FutureRead (1 ∷ 0 ∷ []) ∷ line.Copy (channel.Future 1) (Values (record { values = value.U8 7 ∷ []; val_type = U8 })) ∷ line.Got 2 (0 ∷ []) ∷ []

-- Both ends are dropped once the copy is told, which the drop of the other end does not change.
abbrev pub keeps : Expr
keeps = asks 0 [] (asks 1 (2 ∷ 16 ∷ []) (calls 3 (1 ∷ []) (asks 4 [] (calls 5 (2 ∷ 1 ∷ []) (asks 6 (1 ∷ 32 ∷ []) (calls 2 (2 ∷ []) End))))))

abbrev pub reads_and_drops : Expr
reads_and_drops = asks 7 (1 ∷ 0 ∷ []) (calls 8 (1 ∷ []) (calls 9 [] End))

abbrev pub kept : List Label
kept =
    written ++ read ++ answers 2 builtin.FutureDropReadable (1 ∷ []) [] ++ line.Do 2 builtin.TaskReturn [] ∷ line.Return 2 None ∷ line.Got 2 [] ∷ line.Exit 2
    ∷ line.Got 1 [] ∷ answers 1 builtin.WaitableSetNew [] (1 ∷ []) ++ answers 1 builtin.WaitableJoin (2 ∷ 1 ∷ []) []
    ++ line.Do 1 builtin.WaitableSetWait (1 ∷ 32 ∷ []) ∷ line.Event 1 5 2 0 ∷ line.Got 1 (5 ∷ [])
    ∷ answers 1 builtin.FutureDropWritable (2 ∷ []) [] ++ run_ends

abbrev pub kept_bytes : List (List ℕ)
kept_bytes = (replicate 16 0 ++ 7 ∷ replicate 15 0 ++ 2 ∷ replicate 7 0) ∷ (7 ∷ replicate 7 0) ∷ []

abbrev pub kept_tables : List (List LiveEntry)
kept_tables = (record { index = 1; entry = entry.Set [] } ∷ []) ∷ [] ∷ []

-- A future has one value.
abbrev pub reads_twice : Expr
reads_twice = asks 7 (1 ∷ 0 ∷ []) (asks 7 (1 ∷ 0 ∷ []) End)

abbrev pub read_twice : List Label
read_twice = written ++ read ++ line.Do 2 builtin.FutureRead (1 ∷ 0 ∷ []) ∷ []

-- An end that is to be written is not dropped before.
abbrev pub breaks : Expr
breaks = asks 0 [] (calls 2 (2 ∷ []) End)

abbrev pub broken : List Label
broken = made ++ line.Do 1 builtin.FutureDropWritable (2 ∷ []) ∷ []

-- A write that stands is told that the other end is dropped; then it may be.
abbrev pub drops_readable : Expr
drops_readable = calls 8 (1 ∷ []) (calls 9 [] End)

abbrev pub told_of_drop : List Label
told_of_drop =
    written ++ answers 2 builtin.FutureDropReadable (1 ∷ []) [] ++ line.Do 2 builtin.TaskReturn [] ∷ line.Return 2 None ∷ line.Got 2 [] ∷ line.Exit 2
    ∷ line.Got 1 [] ∷ answers 1 builtin.WaitableSetNew [] (1 ∷ []) ++ answers 1 builtin.WaitableJoin (2 ∷ 1 ∷ []) []
    ++ line.Do 1 builtin.WaitableSetWait (1 ∷ 32 ∷ []) ∷ line.Event 1 5 2 1 ∷ line.Got 1 (5 ∷ [])
    ∷ answers 1 builtin.FutureDropWritable (2 ∷ []) [] ++ run_ends

-- A read that stands is cancelled.
abbrev pub cancels : Expr
cancels = asks 0 [] (asks 10 (1 ∷ 0 ∷ []) (asks 11 (1 ∷ []) End))

abbrev pub cancelled : List Label
cancelled = made ++ answers 1 builtin.FutureRead (1 ∷ 0 ∷ []) (stands ∷ []) ++ answers 1 builtin.FutureCancelRead (1 ∷ []) (2 ∷ []) ++ run_ends
