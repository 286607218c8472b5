-- Cancellation (Component Model, Concurrency.md, "Cancellation"; CanonicalABI.md, `canon task.cancel`, `canon subtask.cancel`).
use Rattle.std.specs.Prelude.{ℕ, codes, false, List, [], ◌∷◌, map, None}
use Rattle.syntax_trees.specs.Expr.{Expr, End}
use Rattle.builtin_kinds.specs.declared.PlainBuiltin.TheVariants as op
use Rattle.comp_graph.specs.declared.graph.CanonFunc.{CanonFunc}
use Rattle.comp_graph.specs.Graph.{Graph, canon_type}
use Rattle.script_reader.specs.declared.script.Item.TheVariants.{Cancel}
use Rattle.script_reader.specs.Script.{Script}
use Rattle.trace_labels.specs.declared.builtin.Builtin.TheVariants as builtin
use Rattle.trace_labels.specs.declared.label.BlockReason.TheVariants as reason
use Rattle.trace_labels.specs.declared.label.Label.{Label}
use Rattle.trace_labels.specs.declared.label.Label.TheVariants as line
use Rattle.abi_machine.specs.World.{World, new_inst}
use Rattle.abi_machine.specs.examples.Parts.{of_nothing, words, own, number, calls, asks, plain, lower, asynchronous, callback, lift, graph_of, exported, store_of, instantiated, acting, script_of, call}

-- `w` makes a set and waits for an event of it in its loop. When it gets the event that its cancellation is asked it resolves as
-- cancelled.
abbrev pub waiting_canons : List CanonFunc
waiting_canons = plain 0 op.WaitableSetNew ∷ plain 0 op.TaskCancel ∷ []

-- the word that waits on the set of index 1
abbrev pub wait_word : ℕ
wait_word = 18

abbrev pub w_name : List ℕ
w_name = codes "w"

abbrev pub waiting : Graph
waiting = graph_of 1 waiting_canons [] (exported w_name of_nothing ∷ []) (lift 0 2 (callback 0 3) ∷ [])

abbrev pub waiting_world : World
waiting_world =
    instantiated 1 (store_of (map canon_type waiting_canons) (own 0 (words 0 1) (asks 0 [] (number wait_word End)) ∷ own 0 (words 3 1) (calls 1 [] (number 0 End)) ∷ []) ([] ∷ []))

abbrev pub cancelling : Script
cancelling = script_of (call w_name ∷ Cancel 1 ∷ [])

abbrev pub cancelled : List Label
cancelled =
    line.Take 1 1 w_name [] ∷ line.Enter 1
    ∷ line.Do 1 builtin.WaitableSetNew [] ∷ line.Got 1 (1 ∷ []) ∷ line.Block 1 (reason.Wait 1)
    ∷ line.Cancel 1 ∷ line.Go 1 ∷ line.Event 1 6 0 0
    ∷ line.Do 1 builtin.TaskCancel [] ∷ line.Cancelled 1 ∷ line.Got 1 [] ∷ line.Exit 1 ∷ []

-- Task 1 makes a set, calls `w` of its child without waiting for it, and cancels the call twice.
abbrev pub twice_canons : List CanonFunc
twice_canons =
    plain 0 op.WaitableSetNew ∷ lower 0 (lift 1 5 (callback 1 6)) of_nothing asynchronous ∷ plain 0 (op.SubtaskCancel false)
    ∷ plain 1 op.WaitableSetNew ∷ plain 1 op.TaskCancel ∷ []

abbrev pub twice : Graph
twice = graph_of 2 twice_canons [] [] []

abbrev pub twice_body : Expr
twice_body = asks 0 [] (asks 1 [] (asks 2 (2 ∷ []) (asks 2 (2 ∷ []) End)))

abbrev pub twice_world : World
twice_world =
    acting twice_body
    (instantiated 2 (store_of (map canon_type twice_canons) (own 1 (words 0 1) (asks 3 [] (number wait_word End)) ∷ own 1 (words 3 1) (calls 4 [] (number 0 End)) ∷ []) ([] ∷ [] ∷ [])))

abbrev pub cancelled_twice : List Label
cancelled_twice =
    line.Do 1 builtin.WaitableSetNew [] ∷ line.Got 1 (1 ∷ [])
    ∷ line.Do 1 builtin.Lower [] ∷ line.Call 1 2 2 ∷ line.Enter 2
    ∷ line.Do 2 builtin.WaitableSetNew [] ∷ line.Got 2 (1 ∷ []) ∷ line.Block 2 (reason.Wait 1) ∷ line.Got 1 (33 ∷ [])
    ∷ line.Do 1 builtin.SubtaskCancel (2 ∷ []) ∷ line.Go 2 ∷ line.Event 2 6 0 0
    ∷ line.Do 2 builtin.TaskCancel [] ∷ line.Cancelled 2 ∷ line.Got 2 [] ∷ line.Exit 2 ∷ line.Got 1 (4 ∷ [])
    ∷ line.Do 1 builtin.SubtaskCancel (2 ∷ []) ∷ []

-- Task 1 calls a function of its child, into whose instance no task may enter, and cancels the call.
abbrev pub removing_canons : List CanonFunc
removing_canons = lower 0 (lift 1 3 asynchronous) of_nothing asynchronous ∷ plain 0 (op.SubtaskCancel false) ∷ plain 0 op.SubtaskDrop ∷ []

abbrev pub removing : Graph
removing = graph_of 2 removing_canons [] [] []

abbrev pub removing_body : Expr
removing_body = asks 0 [] (asks 1 (1 ∷ []) (calls 2 (1 ∷ []) End))

abbrev pub removing_world : World
removing_world =
    record (acting removing_body (instantiated 2 (store_of (map canon_type removing_canons) (own 1 (words 0 0) End ∷ []) ([] ∷ [] ∷ [])))) {
      insts = new_inst ∷ record new_inst { backpressure = 1 } ∷ [];
    }

abbrev pub returns_nothing : List Label
returns_nothing = line.Return 1 None ∷ line.Exit 1 ∷ []

abbrev pub call_removed : List Label
call_removed =
    line.Do 1 builtin.Lower [] ∷ line.Call 1 2 2 ∷ line.Block 2 reason.Entry ∷ line.Got 1 (16 ∷ [])
    ∷ line.Do 1 builtin.SubtaskCancel (1 ∷ []) ∷ line.Cancelled 2 ∷ line.Exit 2 ∷ line.Got 1 (3 ∷ [])
    ∷ line.Do 1 builtin.SubtaskDrop (1 ∷ []) ∷ line.Got 1 [] ∷ returns_nothing
