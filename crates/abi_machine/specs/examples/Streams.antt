-- Streams (Component Model, CanonicalABI.md, "Stream State", `canon stream.new`, `canon stream.{read,write}`, `canon
-- stream.cancel-{read,write}`, `canon stream.drop-{readable,writable}`).
use Rattle.std.specs.Prelude.{ℕ, false, List, [], ◌∷◌, ◌++◌, map, replicate, Some, None}
use Rattle.syntax_trees.specs.declared.module_types.FuncType as core
use Rattle.syntax_trees.specs.Expr.{Expr, End}
use Rattle.syntax_trees.specs.declared.types.ValType.TheVariants.{U8, String}
use Rattle.syntax_trees.specs.declared.value.Value.TheVariants as value
use Rattle.builtin_kinds.specs.declared.PlainBuiltin.TheVariants as op
use Rattle.builtin_kinds.specs.declared.WaitOp.TheVariants.{Wait, Poll}
use Rattle.builtin_kinds.specs.declared.EndKind.TheVariants.{Stream}
use Rattle.builtin_kinds.specs.declared.EndSide.TheVariants.{Readable, Writable}
use Rattle.comp_graph.specs.declared.graph.EndOp.{EndOp}
use Rattle.comp_graph.specs.declared.graph.EndOp.TheVariants as end
use Rattle.comp_graph.specs.declared.graph.CanonFunc.{CanonFunc}
use Rattle.comp_graph.specs.declared.graph.Options.{Options}
use Rattle.comp_graph.specs.Graph.{Graph}
use Rattle.trace_labels.specs.declared.builtin.Builtin.{Builtin}
use Rattle.trace_labels.specs.declared.builtin.Builtin.TheVariants as builtin
use Rattle.trace_labels.specs.declared.label.Channel.TheVariants as channel
use Rattle.trace_labels.specs.declared.label.Copied.TheVariants.{Values}
use Rattle.trace_labels.specs.declared.label.Label.{Label}
use Rattle.trace_labels.specs.declared.label.Label.TheVariants as line
use Rattle.abi_machine.specs.World.{World}
use Rattle.abi_machine.specs.examples.Parts.{words, to_both, own, calls, asks, plain, wait, ends, core_at, core_func, number, asynchronous, with_memory, graph_of, store_of, instantiated, acting}

-- What one instance may do with streams of bytes.
abbrev pub reading : Options → EndOp
reading options = end.Copy Readable options

abbrev pub writing : Options → EndOp
writing options = end.Copy Writable options

abbrev pub of_bytes : ℕ → EndOp → CanonFunc
of_bytes i op = ends i Stream (Some U8) op

abbrev pub copies_async : ℕ → Options
copies_async i = with_memory i asynchronous

abbrev pub byte_canons : List CanonFunc
byte_canons =
    of_bytes 0 end.New ∷ of_bytes 0 (reading (copies_async 0)) ∷ of_bytes 0 (writing (copies_async 0)) ∷ of_bytes 0 (end.Drop Readable) ∷ of_bytes 0 (end.Drop Writable)
    ∷ of_bytes 0 (end.Cancel Readable false) ∷ of_bytes 0 (end.Cancel Writable false)
    ∷ plain 0 op.WaitableSetNew ∷ plain 0 op.WaitableJoin ∷ wait 0 Wait (core_at 0 0) ∷ wait 0 Poll (core_at 0 0) ∷ []

abbrev pub byte_hosts : List core.FuncType
byte_hosts =
    to_both ∷ words 3 1 ∷ words 3 1 ∷ words 1 0 ∷ words 1 0 ∷ words 1 1 ∷ words 1 1 ∷ words 0 1 ∷ words 2 0 ∷ words 2 1 ∷ words 2 1 ∷ []

abbrev pub streaming : Graph
streaming = graph_of 1 byte_canons [] [] []

-- The bytes 1 to 5 stand at 16.
abbrev pub five : List ℕ
five = 1 ∷ 2 ∷ 3 ∷ 4 ∷ 5 ∷ []

abbrev pub streaming_world : Expr → World
streaming_world body = acting body (instantiated 1 (store_of byte_hosts [] ((replicate 16 0 ++ five ++ replicate 19 0) ∷ [])))

-- Reads and writes of a stream at its first two indices, the making of a set at index 3, and the wait of an end for its event, which is
-- put at 32.
abbrev pub makes : Expr → Expr
makes more = asks 0 [] more

abbrev pub reads : ℕ → ℕ → Expr → Expr
reads place count more = asks 1 (1 ∷ place ∷ count ∷ []) more

abbrev pub writes : ℕ → ℕ → Expr → Expr
writes place count more = asks 2 (2 ∷ place ∷ count ∷ []) more

abbrev pub drops_readable : Expr → Expr
drops_readable more = calls 3 (1 ∷ []) more

abbrev pub drops_writable : Expr → Expr
drops_writable more = calls 4 (2 ∷ []) more

abbrev pub waits : ℕ → ℕ → Expr → Expr
waits index set more = asks 7 [] (calls 8 (index ∷ set ∷ []) (asks 9 (set ∷ 32 ∷ []) more))

abbrev pub polls : ℕ → ℕ → Expr → Expr
polls index set more = asks 7 [] (calls 8 (index ∷ set ∷ []) (asks 10 (set ∷ 32 ∷ []) more))

-- Lines: a call and its answer.
abbrev pub answers : Builtin → List ℕ → List ℕ → List Label
answers builtin words answer = line.Do 1 builtin words ∷ line.Got 1 answer ∷ []

abbrev pub made : List Label
made = answers builtin.StreamNew [] (8589934593 ∷ [])

abbrev pub stands : ℕ
stands = 4294967295

abbrev pub read : ℕ → ℕ → ℕ → List Label
read place count answer = answers builtin.StreamRead (1 ∷ place ∷ count ∷ []) (answer ∷ [])

abbrev pub written : ℕ → ℕ → ℕ → List Label
written place count answer = answers builtin.StreamWrite (2 ∷ place ∷ count ∷ []) (answer ∷ [])

abbrev pub copied : List ℕ → Label
copied bytes = line.Copy (channel.Stream 1) (Values (record { values = map (λ n. value.U8 n) bytes; val_type = U8 }))

-- a read, or a write, that copies these
abbrev pub read_of : ℕ → ℕ → List ℕ → ℕ → List Label
read_of place count bytes answer = line.Do 1 builtin.StreamRead (1 ∷ place ∷ count ∷ []) ∷ copied bytes ∷ line.Got 1 (answer ∷ []) ∷ []

abbrev pub written_of : ℕ → ℕ → List ℕ → ℕ → List Label
written_of place count bytes answer = line.Do 1 builtin.StreamWrite (2 ∷ place ∷ count ∷ []) ∷ copied bytes ∷ line.Got 1 (answer ∷ []) ∷ []

abbrev pub set_made : ℕ → ℕ → List Label
set_made index set = answers builtin.WaitableSetNew [] (set ∷ []) ++ answers builtin.WaitableJoin (index ∷ set ∷ []) []

abbrev pub event : ℕ → ℕ → ℕ → ℕ → List Label
event index set code payload =
    set_made index set ++ line.Do 1 builtin.WaitableSetWait (set ∷ 32 ∷ []) ∷ line.Event 1 code index payload ∷ line.Got 1 (code ∷ []) ∷ []

abbrev pub no_event : ℕ → ℕ → List Label
no_event index set =
    set_made index set ++ line.Do 1 builtin.WaitableSetPoll (set ∷ 32 ∷ []) ∷ line.Event 1 0 0 0 ∷ line.Got 1 (0 ∷ []) ∷ []

abbrev pub run_ends : List Label
run_ends = line.Return 1 None ∷ line.Exit 1 ∷ []

-- Both ends are dropped: the index that was freed last is given first.
abbrev pub reuses : Expr
reuses = makes (drops_readable (drops_writable (asks 7 [] (asks 7 [] (asks 7 [] End)))))

abbrev pub reused : List Label
reused =
    made ++ answers builtin.StreamDropReadable (1 ∷ []) [] ++ answers builtin.StreamDropWritable (2 ∷ []) []
    ++ answers builtin.WaitableSetNew [] (2 ∷ []) ++ answers builtin.WaitableSetNew [] (1 ∷ []) ++ answers builtin.WaitableSetNew [] (3 ∷ []) ++ run_ends

-- A write of five bytes stands until it is read whole.
abbrev pub meets : Expr
meets = makes (writes 16 5 (reads 0 3 (reads 3 3 (reads 8 3 (waits 2 3 End)))))

abbrev pub met : List Label
met =
    made ++ written 16 5 stands ++ read_of 0 3 (1 ∷ 2 ∷ 3 ∷ []) 48 ++ read_of 3 3 (4 ∷ 5 ∷ []) 32 ++ read 8 3 stands
    ++ event 2 3 3 80 ++ run_ends

-- Reads and writes of nothing.
abbrev pub writes_nothing : Expr
writes_nothing = makes (writes 16 0 (reads 0 4 (waits 2 3 End)))

abbrev pub nothing_written : List Label
nothing_written = made ++ written 16 0 stands ++ read 0 4 stands ++ event 2 3 3 0 ++ run_ends

abbrev pub both_empty : Expr
both_empty = makes (reads 0 0 (writes 16 0 (polls 1 3 End)))

abbrev pub met_empty : List Label
met_empty = made ++ read 0 0 stands ++ written 16 0 0 ++ no_event 1 3 ++ run_ends

abbrev pub reads_nothing : Expr
reads_nothing = makes (writes 16 4 (reads 0 0 (polls 2 3 End)))

abbrev pub nothing_read : List Label
nothing_read = made ++ written 16 4 stands ++ read 0 0 0 ++ no_event 2 3 ++ run_ends

-- A read is cancelled, before anything was copied, and once two bytes were copied and were not told.
abbrev pub cancels : Expr
cancels = makes (reads 0 4 (asks 5 (1 ∷ []) End))

abbrev pub cancelled_empty : List Label
cancelled_empty = made ++ read 0 4 stands ++ answers builtin.StreamCancelRead (1 ∷ []) (2 ∷ []) ++ run_ends

abbrev pub cancels_behind : Expr
cancels_behind = makes (reads 0 4 (writes 16 2 (asks 5 (1 ∷ []) End)))

abbrev pub cancelled_behind : List Label
cancelled_behind =
    made ++ read 0 4 stands ++ written_of 16 2 (1 ∷ 2 ∷ []) 32 ++ answers builtin.StreamCancelRead (1 ∷ []) (32 ∷ []) ++ run_ends

-- The reader drops its end, once two of five bytes were copied.
abbrev pub drops_behind : Expr
drops_behind = makes (writes 16 5 (reads 0 2 (drops_readable (waits 2 1 (writes 16 1 End)))))

abbrev pub dropped_behind : List Label
dropped_behind =
    made ++ written 16 5 stands ++ read_of 0 2 (1 ∷ 2 ∷ []) 32 ++ answers builtin.StreamDropReadable (1 ∷ []) [] ++ event 2 1 3 33
    ++ line.Do 1 builtin.StreamWrite (2 ∷ 16 ∷ 1 ∷ []) ∷ []

-- Both ends of a stream of texts stand in one instance.
abbrev pub of_texts : EndOp → CanonFunc
of_texts op = ends 0 Stream (Some String) op

abbrev pub text_canons : List CanonFunc
text_canons =
    of_texts end.New ∷ of_texts (reading (record (copies_async 0) { realloc = Some (core_func 0 3) })) ∷ of_texts (writing (copies_async 0)) ∷ []

abbrev pub texting : Graph
texting = graph_of 1 text_canons [] [] []

abbrev pub texting_world : World
texting_world =
    acting (makes (writes 16 1 (reads 64 1 End)))
    (instantiated 1 (store_of (to_both ∷ words 3 1 ∷ words 3 1 ∷ []) (own 0 (words 4 1) (number 0 End) ∷ []) (replicate 72 0 ∷ [])))

abbrev pub met_inside : List Label
met_inside = made ++ written 16 1 stands ++ line.Do 1 builtin.StreamRead (1 ∷ 64 ∷ 1 ∷ []) ∷ []
