-- A set is made at the last index, and no more.
use Rattle.std.proofs.Common.{◌≡◌, ℕ, List, [], ◌∷◌, None, refl, ap}
use Rattle.syntax_trees.specs.declared.instr.Instr.TheVariants.{Drop}
use Rattle.syntax_trees.specs.Expr.{Expr, End, Plain}
use Rattle.wasm_store.specs.Stack.{Running}
use Rattle.comp_graph.specs.Graph.{Graph}
use Rattle.script_reader.specs.Script.{Script}
use Rattle.trace_labels.specs.declared.builtin.Builtin.TheVariants as builtin
use Rattle.trace_labels.specs.declared.label.Label.TheVariants as line
use Rattle.trace_labels.specs.declared.trap.TrapName.TheVariants as trap
use Rattle.abi_machine.specs.declared.run_end.RunEnd.TheVariants.{Trapped}
use Rattle.abi_machine.specs.Control.{Free, Runs, Calls, Doomed}
use Rattle.abi_machine.specs.World.{Init, Nobody, Exited, Task, World, new_task}
use Rattle.abi_machine.specs.Edits.{with_control}
use Rattle.abi_machine.specs.Turn.{Steps, behind}
use Rattle.abi_machine.specs.Next.{next}
use Rattle.abi_machine.specs.examples.Parts.{asks, running, one_call, Shows}
use Rattle.abi_machine.specs.examples.Sets.{filled, filling, filling_world, no_more}
use Rattle.abi_machine.proofs.Rules.{the_rules}
use Rattle.abi_machine.proofs.Walks.{far, walked, stepped, goes_on, shows}
use Rattle.abi_machine.proofs.Full.{made_one, none_more}

abbrev g : Graph
g = filling

abbrev s : Script
s = one_call

abbrev w0 : World
w0 = filling_world

-- the tasks where task 1 has these values, and this is left of its function
abbrev tasks_at : List ℕ → Expr → List Task
tasks_at words left =
    new_task Init Nobody Exited
    ∷ record (running End) {
      stacks = Running (record { instance = 0; results = 0; locals = []; values = words; rest = left; labels = record { arity = 0; under = []; again = None; after = End } ∷ [] }) [] ∷ [];
    } ∷ []

abbrev w1 : World
w1 = record w0 { tasks = tasks_at [] (Plain Drop (asks 0 [] End)); control = Calls 0 []; units = 1 }

piece1 : far 1 g s w0 ≡ ([], w1)
unfolding the_rules
piece1 = refl

abbrev w2 : World
w2 = filled 65535 (record w0 { tasks = tasks_at (65535 ∷ []) (Plain Drop (asks 0 [] End)); control = Runs; units = 1 })

piece2 : next g s w1 ≡ Steps (line.Do 1 builtin.WaitableSetNew [] ∷ line.Got 1 (65535 ∷ []) ∷ []) w2
unfolding the_rules
piece2 = ap (behind (line.Do 1 builtin.WaitableSetNew [] ∷ [])) (made_one 65534 (with_control Free w1) refl)

abbrev w3 : World
w3 = record w2 { tasks = tasks_at [] (Plain Drop End); control = Calls 0 []; units = 3 }

piece3 : far 2 g s w2 ≡ ([], w3)
unfolding the_rules
piece3 = refl

abbrev w4 : World
w4 = record w3 { control = Doomed 1 trap.TableFull }

piece4 : next g s w3 ≡ Steps (line.Do 1 builtin.WaitableSetNew [] ∷ []) w4
unfolding the_rules
piece4 = ap (behind (line.Do 1 builtin.WaitableSetNew [] ∷ [])) (none_more 65535 (with_control Free w3) refl)

pub no_more_shown : Shows filling one_call filling_world no_more (Trapped 1 trap.TableFull) 3
unfolding the_rules
no_more_shown =
    shows g s w0 w4 _ (Trapped 1 trap.TableFull) 3
    (goes_on g s w0 w1 w4 _ _ (walked 1 g s w0 w1 _ piece1)
    (goes_on g s w1 w2 w4 _ _ (stepped g s w1 w2 _ piece2)
    (goes_on g s w2 w3 w4 _ _ (walked 2 g s w2 w3 _ piece3)
    (stepped g s w3 w4 _ piece4)))) refl refl
