-- Sets (Component Model, CanonicalABI.md, "Waitable Set State", `canon waitable-set.new`, `canon waitable-set.wait`, `canon waitable-set.drop`,
-- `canon waitable.join`; "Table State").
use Rattle.std.specs.Prelude.{ℕ, zero, suc, false, List, [], ◌∷◌, ◌++◌, replicate, None}
use Rattle.syntax_trees.specs.Expr.{Expr, End}
use Rattle.handle_table.specs.History.{Event, Add}
use Rattle.builtin_kinds.specs.declared.PlainBuiltin.TheVariants as op
use Rattle.builtin_kinds.specs.declared.WaitOp.TheVariants.{Wait}
use Rattle.comp_graph.specs.declared.graph.CanonFunc.{CanonFunc}
use Rattle.comp_graph.specs.Graph.{Graph, no_options}
use Rattle.trace_labels.specs.declared.builtin.Builtin.TheVariants as builtin
use Rattle.trace_labels.specs.declared.label.BlockReason.TheVariants as reason
use Rattle.trace_labels.specs.declared.label.Label.{Label}
use Rattle.trace_labels.specs.declared.label.Label.TheVariants as line
use Rattle.abi_machine.specs.World.{Entry, OfSet, World}
use Rattle.abi_machine.specs.examples.Parts.{of_nothing, words, own, calls, asks, plain, wait, task_return, lower, core_at, asynchronous, lift, graph_of, exported, store_of, instantiated, acting, run_name}

-- A task waits on a set without members.
abbrev pub alone_canons : List CanonFunc
alone_canons = plain 0 op.WaitableSetNew ∷ wait 0 Wait (core_at 0 0) ∷ []

abbrev pub alone : Graph
alone = graph_of 1 alone_canons [] (exported run_name of_nothing ∷ []) (lift 0 2 asynchronous ∷ [])

abbrev pub alone_world : World
alone_world = instantiated 1 (store_of (words 0 1 ∷ words 2 1 ∷ []) (own 0 (words 0 0) (asks 0 [] (asks 1 (1 ∷ 0 ∷ []) End)) ∷ []) (replicate 8 0 ∷ []))

abbrev pub waited_alone : List Label
waited_alone =
    line.Take 1 1 run_name [] ∷ line.Enter 1
    ∷ line.Do 1 builtin.WaitableSetNew [] ∷ line.Got 1 (1 ∷ [])
    ∷ line.Do 1 builtin.WaitableSetWait (1 ∷ 0 ∷ []) ∷ line.Block 1 (reason.Wait 1) ∷ []

-- Task 1 makes a set, which a call of its child joins, and drops the set.
abbrev pub dropping_canons : List CanonFunc
dropping_canons =
    plain 0 op.WaitableSetNew ∷ lower 0 (lift 1 6 asynchronous) of_nothing asynchronous ∷ plain 0 op.WaitableJoin ∷ plain 0 op.WaitableSetDrop
    ∷ plain 1 (op.Yield false) ∷ task_return 1 None no_options ∷ []

abbrev pub dropping : Graph
dropping = graph_of 2 dropping_canons [] [] []

abbrev pub dropping_world : Expr → World
dropping_world body =
    acting body
    (instantiated 2 (store_of (words 0 1 ∷ words 0 1 ∷ words 2 0 ∷ words 1 0 ∷ words 0 1 ∷ words 0 0 ∷ []) (own 1 (words 0 0) (asks 4 [] (calls 5 [] End)) ∷ []) ([] ∷ [] ∷ [])))

abbrev pub joined_begins : List Label
joined_begins =
    line.Do 1 builtin.WaitableSetNew [] ∷ line.Got 1 (1 ∷ [])
    ∷ line.Do 1 builtin.Lower [] ∷ line.Call 1 2 2 ∷ line.Enter 2 ∷ line.Do 2 builtin.Yield [] ∷ line.Block 2 reason.Yield ∷ line.Got 1 (33 ∷ [])
    ∷ line.Do 1 builtin.WaitableJoin (2 ∷ 1 ∷ []) ∷ line.Got 1 [] ∷ []

abbrev pub drops_at_once : Expr
drops_at_once = asks 0 [] (asks 1 [] (calls 2 (2 ∷ 1 ∷ []) (calls 3 (1 ∷ []) End)))

abbrev pub has_members : List Label
has_members = joined_begins ++ line.Do 1 builtin.WaitableSetDrop (1 ∷ []) ∷ []

abbrev pub child_ends : List Label
child_ends =
    line.Return 1 None ∷ line.Exit 1 ∷ line.Go 2 ∷ line.Got 2 (0 ∷ [])
    ∷ line.Do 2 builtin.TaskReturn [] ∷ line.Return 2 None ∷ line.Got 2 [] ∷ line.Exit 2 ∷ []

-- The call leaves the set before.
abbrev pub drops_empty : Expr
drops_empty = asks 0 [] (asks 1 [] (calls 2 (2 ∷ 1 ∷ []) (calls 2 (2 ∷ 0 ∷ []) (calls 3 (1 ∷ []) End))))

abbrev pub dropped_empty : List Label
dropped_empty =
    joined_begins ++ line.Do 1 builtin.WaitableJoin (2 ∷ 0 ∷ []) ∷ line.Got 1 [] ∷ line.Do 1 builtin.WaitableSetDrop (1 ∷ []) ∷ line.Got 1 [] ∷ child_ends

-- The call joins another set before.
abbrev pub drops_left : Expr
drops_left = asks 0 [] (asks 1 [] (asks 0 [] (calls 2 (2 ∷ 1 ∷ []) (calls 2 (2 ∷ 3 ∷ []) (calls 3 (1 ∷ []) End)))))

abbrev pub dropped_left : List Label
dropped_left =
    line.Do 1 builtin.WaitableSetNew [] ∷ line.Got 1 (1 ∷ [])
    ∷ line.Do 1 builtin.Lower [] ∷ line.Call 1 2 2 ∷ line.Enter 2 ∷ line.Do 2 builtin.Yield [] ∷ line.Block 2 reason.Yield ∷ line.Got 1 (33 ∷ [])
    ∷ line.Do 1 builtin.WaitableSetNew [] ∷ line.Got 1 (3 ∷ [])
    ∷ line.Do 1 builtin.WaitableJoin (2 ∷ 1 ∷ []) ∷ line.Got 1 [] ∷ line.Do 1 builtin.WaitableJoin (2 ∷ 3 ∷ []) ∷ line.Got 1 []
    ∷ line.Do 1 builtin.WaitableSetDrop (1 ∷ []) ∷ line.Got 1 [] ∷ child_ends

-- So many sets were made, and stand in the table one behind the other.
unfoldable pub sets_added : ℕ → List (Event Entry)
sets_added zero = []
sets_added (suc n) = Add (suc n) (OfSet n) ∷ sets_added n

unfoldable pub sets_made : ℕ → List (List ℕ)
sets_made zero = []
sets_made (suc n) = sets_made n ++ [] ∷ []

abbrev pub filled : ℕ → World → World
filled n w = record w { insts = record { table = sets_added n; sets = sets_made n; backpressure = 0 } ∷ [] }

-- There is room for one more.
abbrev pub filling : Graph
filling = graph_of 1 (plain 0 op.WaitableSetNew ∷ []) [] [] []

abbrev pub filling_world : World
filling_world = filled 65534 (acting (asks 0 [] (asks 0 [] End)) (instantiated 1 (store_of (words 0 1 ∷ []) [] ([] ∷ []))))

abbrev pub no_more : List Label
no_more = line.Do 1 builtin.WaitableSetNew [] ∷ line.Got 1 (65535 ∷ []) ∷ line.Do 1 builtin.WaitableSetNew [] ∷ []
