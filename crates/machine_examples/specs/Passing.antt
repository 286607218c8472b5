-- What passes from one task to another (Component Model, CanonicalABI.md, `canon stream.{read,write}`, "Storing", `lift_stream`, `canon
-- task.return`, `canon lower`, "Subtask State"): for whom code runs, in which order is tested, and what comes back.
use Rattle.std.specs.Prelude.{false, List, [], ◌∷◌, ◌++◌, replicate, codes, Some, None}
use Rattle.syntax_trees.specs.Expr.{Expr, End}
use Rattle.syntax_trees.specs.declared.types.ValType.TheVariants.{U8, U32, Char, String}
use Rattle.syntax_trees.specs.declared.types.ValType.TheViews as types
use Rattle.syntax_trees.specs.declared.types.ValType.TheVariants as leaf
use Rattle.syntax_trees.specs.declared.value.Value.TheVariants as value
use Rattle.builtin_kinds.specs.declared.ContextOp.TheVariants as context_op
use Rattle.builtin_kinds.specs.declared.ResourceOp.TheVariants.{New, Drop}
use Rattle.builtin_kinds.specs.declared.PlainBuiltin.TheVariants as op
use Rattle.builtin_kinds.specs.declared.EndKind.TheVariants.{Stream}
use Rattle.builtin_kinds.specs.declared.EndSide.TheVariants.{Readable, Writable}
use Rattle.comp_graph.specs.declared.graph.CanonFunc.{CanonFunc}
use Rattle.comp_graph.specs.declared.graph.EndOp.TheVariants as end
use Rattle.comp_graph.specs.Graph.{Graph, no_options}
use Rattle.trace_labels.specs.declared.builtin.Builtin.TheVariants as builtin
use Rattle.trace_labels.specs.declared.label.BlockReason.TheVariants as reason
use Rattle.trace_labels.specs.declared.label.Channel.TheVariants as channel
use Rattle.trace_labels.specs.declared.label.Copied.TheVariants.{Values}
use Rattle.trace_labels.specs.declared.label.Label.{Label}
use Rattle.trace_labels.specs.declared.label.Label.TheVariants as line
use Rattle.abi_machine.specs.World.{World}
use Rattle.abi_machine.specs.examples.Parts.{func_type, words, to_both, own, number, calls, asks, plain, context, resource, task_return, ends, lower, asynchronous, with_memory, with_realloc, lift, graph_of, store_of, instantiated, acting}
use Rattle.abi_machine.specs.examples.Transfers.{two_texts, sync_read}
use Rattle.abi_machine.specs.examples.Streams.{makes, writes, reads, made, written}

-- Texts are copied, and the reader's realloc runs for the task that reads: its words are that one's, while the one that writes acts.
abbrev pub talking_canons : List CanonFunc
talking_canons =
    ends 0 Stream (Some String) end.New ∷ lower 0 (lift 1 7 asynchronous) (func_type (types.Stream (Some String) ∷ []) None) asynchronous
    ∷ ends 0 Stream (Some String) (end.Copy Writable (with_memory 0 asynchronous)) ∷ ends 1 Stream (Some String) (end.Copy Readable (with_realloc 1 8 sync_read)) ∷ task_return 1 None no_options
    ∷ context 1 context_op.Set 0 ∷ context 1 context_op.Get 0 ∷ []

abbrev pub talking : Graph
talking = graph_of 2 talking_canons [] [] []

abbrev pub talking_world : Expr → World
talking_world realloc =
    acting (asks 0 [] (asks 1 (1 ∷ []) (asks 2 (2 ∷ 16 ∷ 2 ∷ []) End)))
    (instantiated 2 (store_of (to_both ∷ words 1 1 ∷ words 3 1 ∷ words 3 1 ∷ words 0 0 ∷ words 1 0 ∷ words 0 1 ∷ [])
    (own 1 (words 1 0) (asks 3 (1 ∷ 0 ∷ 2 ∷ []) (asks 6 [] (calls 4 [] End))) ∷ own 1 (words 4 1) realloc ∷ []) ((replicate 16 0 ++ two_texts) ∷ replicate 130 0 ∷ [])))

abbrev pub sets_word : Expr
sets_word = calls 5 (9 ∷ []) (number 128 End)

-- Its answer lies outside: the trap is one of the task that acts.
abbrev pub too_far : Expr
too_far = number 4000 End

abbrev pub begins : List Label
begins =
    made ++ line.Do 1 builtin.Lower (1 ∷ []) ∷ line.Call 1 2 2 ∷ line.Enter 2
    ∷ line.Do 2 builtin.StreamRead (1 ∷ 0 ∷ 2 ∷ []) ∷ line.Block 2 (reason.Copy 1) ∷ line.Got 1 (17 ∷ [])
    ∷ line.Do 1 builtin.StreamWrite (2 ∷ 16 ∷ 2 ∷ []) ∷ []

abbrev pub word_kept : List Label
word_kept =
    begins ++ line.Do 2 builtin.ContextSet (9 ∷ []) ∷ line.Got 2 [] ∷ line.Do 2 builtin.ContextSet (9 ∷ []) ∷ line.Got 2 []
    ∷ line.Copy (channel.Stream 1) (Values (record { values = value.String (codes "ab") ∷ value.String (codes "cd") ∷ []; val_type = String })) ∷ line.Got 1 (32 ∷ [])
    ∷ line.Return 1 None ∷ line.Exit 1 ∷ line.Go 2 ∷ line.Got 2 (32 ∷ []) ∷ line.Do 2 builtin.ContextGet [] ∷ line.Got 2 (9 ∷ [])
    ∷ line.Do 2 builtin.TaskReturn [] ∷ line.Return 2 None ∷ line.Got 2 [] ∷ line.Exit 2 ∷ []

-- A read of nothing meets a write of its own instance.
abbrev pub texting_world : World
texting_world =
    acting (makes (writes 16 1 (reads 64 0 End)))
    (instantiated 1 (store_of (to_both ∷ words 3 1 ∷ words 3 1 ∷ []) (own 0 (words 4 1) (number 0 End) ∷ []) (replicate 72 0 ∷ [])))

abbrev pub met_inside : List Label
met_inside = made ++ written 16 1 4294967295 ++ line.Do 1 builtin.StreamRead (1 ∷ 64 ∷ 0 ∷ []) ∷ []

-- A task returns once more, what is no char: the result is lifted first.
abbrev pub twice_canons : List CanonFunc
twice_canons = lower 0 (lift 1 2 asynchronous) (func_type [] (Some Char)) (with_memory 0 asynchronous) ∷ task_return 1 (Some Char) no_options ∷ []

abbrev pub twice : Graph
twice = graph_of 2 twice_canons [] [] []

abbrev pub twice_world : World
twice_world = acting (asks 0 (0 ∷ []) End) (instantiated 2 (store_of (words 1 1 ∷ words 1 0 ∷ []) (own 1 (words 0 0) (calls 1 (65 ∷ []) (calls 1 (55296 ∷ []) End)) ∷ []) (replicate 8 0 ∷ [] ∷ [])))

abbrev pub bad_char : List Label
bad_char =
    line.Do 1 builtin.Lower (0 ∷ []) ∷ line.Call 1 2 2 ∷ line.Enter 2 ∷ line.Do 2 builtin.TaskReturn (65 ∷ []) ∷ line.Return 2 (Some (record { value = value.Char 65; val_type = Char })) ∷ line.Got 2 []
    ∷ line.Do 2 builtin.TaskReturn (55296 ∷ []) ∷ []

-- The readable end of a stream is passed on, which leaves its set.
abbrev pub giving_canons : List CanonFunc
giving_canons =
    ends 0 Stream (Some U8) end.New ∷ lower 0 (lift 1 6 asynchronous) (func_type (types.Stream (Some U8) ∷ []) None) no_options ∷ task_return 1 None no_options
    ∷ plain 0 op.WaitableSetNew ∷ plain 0 op.WaitableJoin ∷ plain 0 op.WaitableSetDrop ∷ []

abbrev pub giving : Graph
giving = graph_of 2 giving_canons [] [] []

abbrev pub giving_world : World
giving_world =
    acting (asks 0 [] (asks 3 [] (calls 4 (1 ∷ 3 ∷ []) (calls 1 (1 ∷ []) (calls 5 (3 ∷ []) End)))))
    (instantiated 2 (store_of (to_both ∷ words 1 0 ∷ words 0 0 ∷ words 0 1 ∷ words 2 0 ∷ words 1 0 ∷ []) (own 1 (words 1 0) (calls 2 [] End) ∷ []) ([] ∷ [] ∷ [])))

abbrev pub given : List Label
given =
    line.Do 1 builtin.StreamNew [] ∷ line.Got 1 (8589934593 ∷ []) ∷ line.Do 1 builtin.WaitableSetNew [] ∷ line.Got 1 (3 ∷ []) ∷ line.Do 1 builtin.WaitableJoin (1 ∷ 3 ∷ []) ∷ line.Got 1 []
    ∷ line.Do 1 builtin.Lower (1 ∷ []) ∷ line.Call 1 2 2 ∷ line.Enter 2 ∷ line.Do 2 builtin.TaskReturn [] ∷ line.Return 2 None ∷ line.Got 2 [] ∷ line.Exit 2 ∷ line.Got 1 []
    ∷ line.Do 1 builtin.WaitableSetDrop (3 ∷ []) ∷ line.Got 1 [] ∷ line.Return 1 None ∷ line.Exit 1 ∷ []

-- A call that is waited for gives back what was lent for it, when it has returned.
abbrev pub lends_canons : List CanonFunc
lends_canons =
    resource 0 New 1 ∷ lower 0 (lift 1 6 asynchronous) (func_type (leaf.Borrow 1 ∷ []) None) no_options ∷ resource 0 Drop 1 ∷ plain 1 (op.Yield false) ∷ resource 1 Drop 1 ∷ task_return 1 None no_options ∷ []

abbrev pub lends : Graph
lends = graph_of 2 lends_canons (record { instance = 0; destructor = None } ∷ []) [] []

abbrev pub lends_world : World
lends_world =
    acting (asks 0 (7 ∷ []) (calls 1 (1 ∷ []) (calls 2 (1 ∷ []) End)))
    (instantiated 2 (store_of (words 1 1 ∷ words 1 0 ∷ words 1 0 ∷ words 0 1 ∷ words 1 0 ∷ words 0 0 ∷ []) (own 1 (words 1 0) (asks 3 [] (calls 4 (1 ∷ []) (calls 5 [] End))) ∷ []) ([] ∷ [] ∷ [])))

abbrev pub lent : List Label
lent =
    line.Do 1 builtin.ResourceNew (7 ∷ []) ∷ line.Got 1 (1 ∷ []) ∷ line.Do 1 builtin.Lower (1 ∷ []) ∷ line.Call 1 2 2 ∷ line.Enter 2 ∷ line.Lend 1 1 2
    ∷ line.Do 2 builtin.Yield [] ∷ line.Block 2 reason.Yield ∷ line.Block 1 (reason.Call 2) ∷ line.Go 2 ∷ line.Got 2 (0 ∷ [])
    ∷ line.Do 2 builtin.ResourceDrop (1 ∷ []) ∷ line.Got 2 [] ∷ line.Do 2 builtin.TaskReturn [] ∷ line.Return 2 None ∷ line.Got 2 [] ∷ line.Exit 2
    ∷ line.Go 1 ∷ line.Unlend 1 1 2 ∷ line.Got 1 [] ∷ line.Do 1 builtin.ResourceDrop (1 ∷ []) ∷ line.Got 1 [] ∷ line.Return 1 None ∷ line.Exit 1 ∷ []
