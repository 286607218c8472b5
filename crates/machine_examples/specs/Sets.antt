-- Sets on which a task waits (Component Model, CanonicalABI.md, "Waitable Set State", `canon waitable-set.wait`, `canon waitable-set.drop`,
-- `canon lift`), and how many sets a table holds.
use Rattle.std.specs.Prelude.{◌≡◌, ◌<◌, ℕ, suc, List, [], ◌∷◌, ◌++◌, replicate, codes}
use Rattle.syntax_trees.specs.Expr.{Expr, End}
use Rattle.syntax_trees.specs.declared.module_types.FuncType as core
use Rattle.handle_table.specs.History.{most_live}
use Rattle.builtin_kinds.specs.declared.PlainBuiltin.TheVariants as op
use Rattle.builtin_kinds.specs.declared.WaitOp.TheVariants.{Wait}
use Rattle.comp_graph.specs.declared.graph.Options.{Options}
use Rattle.comp_graph.specs.declared.graph.CanonFunc.{CanonFunc}
use Rattle.comp_graph.specs.Graph.{Graph, no_options}
use Rattle.script_reader.specs.Script.{Script}
use Rattle.trace_labels.specs.declared.builtin.Builtin.TheVariants as builtin
use Rattle.trace_labels.specs.declared.label.BlockReason.TheVariants as reason
use Rattle.trace_labels.specs.declared.label.Label.{Label}
use Rattle.trace_labels.specs.declared.label.Label.TheVariants as line
use Rattle.abi_machine.specs.World.{World}
use Rattle.abi_machine.specs.Turn.{replied}
use Rattle.abi_machine.specs.replies.Waiting.{set_new_turn}
use Rattle.abi_machine.specs.examples.Parts.{of_nothing, words, own, number, calls, asks, plain, wait, core_at, lift, graph_of, exported, store_of, instantiated, script_of, call}
use Rattle.abi_machine.specs.examples.Sets.{filled}

-- One task makes a set and waits on it, in its loop or in a built-in, and another one drops it.
abbrev pub waits_name : List ℕ
waits_name = codes "waits"

abbrev pub drops_name : List ℕ
drops_name = codes "drops"

abbrev pub waited_canons : List CanonFunc
waited_canons = plain 0 op.WaitableSetNew ∷ plain 0 op.WaitableSetDrop ∷ wait 0 Wait (core_at 0 0) ∷ []

abbrev pub waited : Options → Graph
waited options =
    graph_of 1 waited_canons [] (exported waits_name of_nothing ∷ exported drops_name of_nothing ∷ []) (lift 0 3 options ∷ lift 0 5 no_options ∷ [])

abbrev pub waited_world : core.FuncType → Expr → World
waited_world type body =
    instantiated 1
    (store_of (words 0 1 ∷ words 1 0 ∷ words 2 1 ∷ []) (own 0 type body ∷ own 0 (words 3 1) (number 0 End) ∷ own 0 (words 0 0) (calls 1 (1 ∷ []) End) ∷ []) (replicate 8 0 ∷ []))

abbrev pub in_loop : World
in_loop = waited_world (words 0 1) (asks 0 [] (number 18 End))

abbrev pub in_wait : World
in_wait = waited_world (words 0 0) (asks 0 [] (asks 2 (1 ∷ 0 ∷ []) End))

abbrev pub wait_and_drop : Script
wait_and_drop = script_of (call waits_name ∷ call drops_name ∷ [])

abbrev pub set_made : List Label
set_made = line.Take 1 1 waits_name [] ∷ line.Enter 1 ∷ line.Do 1 builtin.WaitableSetNew [] ∷ line.Got 1 (1 ∷ []) ∷ []

abbrev pub set_dropped : List Label
set_dropped = line.Block 1 (reason.Wait 1) ∷ line.Take 2 2 drops_name [] ∷ line.Enter 2 ∷ line.Do 2 builtin.WaitableSetDrop (1 ∷ []) ∷ []

abbrev pub loop_waits : List Label
loop_waits = set_made ++ set_dropped

abbrev pub wait_waits : List Label
wait_waits = set_made ++ line.Do 1 builtin.WaitableSetWait (1 ∷ 0 ∷ []) ∷ set_dropped

-- A wait on a set of this index, which puts its event at this place. Its memory has eight bytes.
abbrev pub in_place : ℕ → ℕ → World
in_place index place = waited_world (words 0 0) (asks 0 [] (asks 2 (index ∷ place ∷ []) End))

abbrev pub one_wait : Script
one_wait = script_of (call waits_name ∷ [])

abbrev pub wait_refused : ℕ → ℕ → List Label
wait_refused index place = set_made ++ line.Do 1 builtin.WaitableSetWait (index ∷ place ∷ []) ∷ []

-- Of sets that are made one after the other, at most 65,535, each one gets the index that is one more.
abbrev pub SetsAreCounted : Type 0
SetsAreCounted = (n : ℕ) (w : World) → n < most_live → set_new_turn 1 0 (filled n w) ≡ replied 1 (suc n ∷ []) (filled (suc n) w)
