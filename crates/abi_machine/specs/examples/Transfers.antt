-- Streams between instances (Component Model, CanonicalABI.md, `lift_stream`, `lower_stream`, `canon stream.{read,write}`): the readable end is
-- passed to a child, which waits for what it reads.
use Rattle.std.specs.Prelude.{ℕ, codes, List, [], ◌∷◌, ◌++◌, replicate, Some, None}
use Rattle.syntax_trees.specs.Expr.{Expr, End}
use Rattle.syntax_trees.specs.declared.types.ValType.{ValType}
use Rattle.syntax_trees.specs.declared.types.ValType.TheVariants.{U8, String}
use Rattle.syntax_trees.specs.declared.types.ValType.TheViews as types
use Rattle.syntax_trees.specs.declared.value.Value.TheVariants as value
use Rattle.builtin_kinds.specs.declared.EndKind.TheVariants.{Stream}
use Rattle.comp_graph.specs.declared.graph.EndOp.TheVariants as end
use Rattle.comp_graph.specs.declared.graph.CanonFunc.{CanonFunc}
use Rattle.comp_graph.specs.declared.graph.Options.{Options}
use Rattle.comp_graph.specs.Graph.{Graph, no_options}
use Rattle.script_reader.specs.Script.{Script}
use Rattle.trace_labels.specs.declared.builtin.Builtin.TheVariants as builtin
use Rattle.trace_labels.specs.declared.label.BlockReason.TheVariants as reason
use Rattle.trace_labels.specs.declared.label.Channel.TheVariants as channel
use Rattle.trace_labels.specs.declared.label.Copied.TheVariants.{Values}
use Rattle.trace_labels.specs.declared.label.Label.{Label}
use Rattle.trace_labels.specs.declared.label.Label.TheVariants as line
use Rattle.trace_labels.specs.declared.dump.LiveEntry.{LiveEntry}
use Rattle.trace_labels.specs.declared.dump.Entry.TheVariants as entry
use Rattle.trace_labels.specs.declared.dump.EndState.TheVariants.{Idle, Copying}
use Rattle.trace_labels.specs.declared.dump.Side.TheVariants.{Readable, Writable}
use Rattle.abi_machine.specs.World.{World}
use Rattle.abi_machine.specs.examples.Parts.{func_type, of_nothing, words, to_both, own, number, calls, asks, ends, task_return, lower, asynchronous, with_memory, with_realloc, lift, graph_of, exported, store_of, instantiated, acting, script_of, call}
use Rattle.abi_machine.specs.examples.Streams.{reading, writing, of_bytes, copies_async, made, stands, written, written_of, run_ends}

-- The child reads two elements of a type, with these options.
abbrev pub taking_canons : ValType → Options → List CanonFunc
taking_canons element options =
    ends 0 Stream (Some element) end.New ∷ lower 0 (lift 1 5 asynchronous) (func_type (types.Stream (Some element) ∷ []) None) asynchronous
    ∷ ends 0 Stream (Some element) (writing (copies_async 0)) ∷ ends 1 Stream (Some element) (reading options) ∷ task_return 1 None no_options ∷ []

abbrev pub taking : ValType → Options → Graph
taking element options = graph_of 2 (taking_canons element options) [] [] []

abbrev pub takes : Expr
takes = asks 3 (1 ∷ 0 ∷ 2 ∷ []) (calls 4 [] End)

abbrev pub taking_world : Expr → List ℕ → List ℕ → World
taking_world body bytes read =
    acting body
    (instantiated 2 (store_of (to_both ∷ words 1 1 ∷ words 3 1 ∷ words 3 1 ∷ words 0 0 ∷ []) (own 1 (words 1 0) takes ∷ own 1 (words 4 1) (number 128 End) ∷ []) (bytes ∷ read ∷ [])))

-- Bytes: the third one has no reader yet when it is written again.
abbrev pub sync_read : Options
sync_read = with_memory 1 no_options

abbrev pub taking_bytes : Graph
taking_bytes = taking U8 sync_read

abbrev pub bytes_world : World
bytes_world =
    taking_world (asks 0 [] (asks 1 (1 ∷ []) (asks 2 (2 ∷ 16 ∷ 3 ∷ []) (asks 2 (2 ∷ 18 ∷ 1 ∷ []) End)))) (replicate 16 0 ++ 1 ∷ 2 ∷ 3 ∷ []) (replicate 8 0)

abbrev pub end_passed : List Label
end_passed =
    made ++ line.Do 1 builtin.Lower (1 ∷ []) ∷ line.Call 1 2 2 ∷ line.Enter 2
    ∷ line.Do 2 builtin.StreamRead (1 ∷ 0 ∷ 2 ∷ []) ∷ line.Block 2 (reason.Copy 1) ∷ line.Got 1 (17 ∷ []) ∷ []

abbrev pub child_ends : List Label
child_ends =
    line.Go 2 ∷ line.Got 2 (32 ∷ []) ∷ line.Do 2 builtin.TaskReturn [] ∷ line.Return 2 None ∷ line.Got 2 [] ∷ line.Exit 2 ∷ []

abbrev pub bytes_taken : List Label
bytes_taken = end_passed ++ written_of 16 3 (1 ∷ 2 ∷ []) 32 ++ written 18 1 stands ++ run_ends ++ child_ends

abbrev pub bytes_left : List (List ℕ)
bytes_left = (replicate 16 0 ++ 1 ∷ 2 ∷ 3 ∷ []) ∷ (1 ∷ 2 ∷ replicate 6 0) ∷ []

abbrev pub after_bytes : List (List LiveEntry)
after_bytes =
    (record { index = 1; entry = entry.Subtask 2 2 } ∷ record { index = 2; entry = entry.End (channel.Stream 1) Writable Copying } ∷ [])
    ∷ (record { index = 1; entry = entry.End (channel.Stream 1) Readable Idle } ∷ []) ∷ []

-- Texts: the child's realloc gives the same place for both, so that the second one stands where the first one did.
abbrev pub text_read : Options
text_read = with_realloc 1 6 sync_read

abbrev pub taking_texts : Graph
taking_texts = taking String text_read

-- "ab" and "cd" stand at 32 and 34
abbrev pub two_texts : List ℕ
two_texts = 32 ∷ 0 ∷ 0 ∷ 0 ∷ 2 ∷ 0 ∷ 0 ∷ 0 ∷ 34 ∷ 0 ∷ 0 ∷ 0 ∷ 2 ∷ 0 ∷ 0 ∷ 0 ∷ 97 ∷ 98 ∷ 99 ∷ 100 ∷ []

abbrev pub texts_world : World
texts_world = taking_world (asks 0 [] (asks 1 (1 ∷ []) (asks 2 (2 ∷ 16 ∷ 2 ∷ []) End))) (replicate 16 0 ++ two_texts) (replicate 130 0)

abbrev pub texts_taken : List Label
texts_taken =
    end_passed ++ line.Do 1 builtin.StreamWrite (2 ∷ 16 ∷ 2 ∷ [])
    ∷ line.Copy (channel.Stream 1) (Values (record { values = value.String (codes "ab") ∷ value.String (codes "cd") ∷ []; val_type = String })) ∷ line.Got 1 (32 ∷ [])
    ∷ run_ends ++ child_ends

abbrev pub texts_left : List (List ℕ)
texts_left =
    (replicate 16 0 ++ two_texts)
    ∷ ((128 ∷ 0 ∷ 0 ∷ 0 ∷ 2 ∷ 0 ∷ 0 ∷ 0 ∷ 128 ∷ 0 ∷ 0 ∷ 0 ∷ 2 ∷ 0 ∷ 0 ∷ 0 ∷ []) ++ replicate 112 0 ++ (99 ∷ 100 ∷ [])) ∷ []

abbrev pub after_texts : List (List LiveEntry)
after_texts =
    (record { index = 1; entry = entry.Subtask 2 2 } ∷ record { index = 2; entry = entry.End (channel.Stream 1) Writable Idle } ∷ [])
    ∷ (record { index = 1; entry = entry.End (channel.Stream 1) Readable Idle } ∷ []) ∷ []

-- Two tasks of one instance read two streams, and each would write the one that the other reads.
abbrev pub crossing_canons : List CanonFunc
crossing_canons = of_bytes 0 end.New ∷ of_bytes 0 (reading (with_memory 0 no_options)) ∷ of_bytes 0 (writing (with_memory 0 no_options)) ∷ []

abbrev pub first_name : List ℕ
first_name = codes "first"

abbrev pub second_name : List ℕ
second_name = codes "second"

abbrev pub crossing : Graph
crossing =
    graph_of 1 crossing_canons [] (exported first_name of_nothing ∷ exported second_name of_nothing ∷ []) (lift 0 3 asynchronous ∷ lift 0 4 asynchronous ∷ [])

abbrev pub crossing_world : World
crossing_world =
    instantiated 1
    (store_of (to_both ∷ words 3 1 ∷ words 3 1 ∷ [])
    (own 0 (words 0 0) (asks 0 [] (asks 0 [] (asks 1 (1 ∷ 0 ∷ 1 ∷ []) (asks 2 (4 ∷ 0 ∷ 1 ∷ []) End))))
    ∷ own 0 (words 0 0) (asks 1 (3 ∷ 0 ∷ 1 ∷ []) (asks 2 (2 ∷ 0 ∷ 1 ∷ []) End)) ∷ []) (replicate 8 0 ∷ []))

abbrev pub first_then_second : Script
first_then_second = script_of (call first_name ∷ call second_name ∷ [])

abbrev pub crossed : List Label
crossed =
    line.Take 1 1 first_name [] ∷ line.Enter 1
    ∷ line.Do 1 builtin.StreamNew [] ∷ line.Got 1 (8589934593 ∷ []) ∷ line.Do 1 builtin.StreamNew [] ∷ line.Got 1 (17179869187 ∷ [])
    ∷ line.Do 1 builtin.StreamRead (1 ∷ 0 ∷ 1 ∷ []) ∷ line.Block 1 (reason.Copy 1)
    ∷ line.Take 2 2 second_name [] ∷ line.Enter 2
    ∷ line.Do 2 builtin.StreamRead (3 ∷ 0 ∷ 1 ∷ []) ∷ line.Block 2 (reason.Copy 3) ∷ []
