-- Waits whose set or whose place is refused.
use Rattle.std.proofs.Common.{◌≡◌, ℕ, [], ◌∷◌, None, refl, ap}
use Rattle.syntax_trees.specs.declared.instr.Instr.TheVariants.{Drop}
use Rattle.syntax_trees.specs.Expr.{End, Plain}
use Rattle.wasm_store.specs.Stack.{Running}
use Rattle.handle_table.specs.History.{Add}
use Rattle.comp_graph.specs.Graph.{Graph}
use Rattle.script_reader.specs.Script.{Script}
use Rattle.trace_labels.specs.declared.builtin.Builtin.TheVariants as builtin
use Rattle.trace_labels.specs.declared.label.Label.TheVariants as line
use Rattle.trace_labels.specs.declared.trap.TrapName.{TrapName}
use Rattle.trace_labels.specs.declared.trap.TrapName.TheVariants as trap
use Rattle.abi_machine.specs.declared.run_end.RunEnd.TheVariants.{Trapped}
use Rattle.abi_machine.specs.LoweringOver.{Plan, Gives}
use Rattle.abi_machine.specs.Control.{Lowers, Doomed, Starts}
use Rattle.abi_machine.specs.World.{OfSet, Init, Func, Nobody, Host, Acting, Exited, World, new_task}
use Rattle.abi_machine.specs.Canons.{defines}
use Rattle.abi_machine.specs.Pausing.{entries_by}
use Rattle.abi_machine.specs.examples.Parts.{func_type, core_func, asynchronous, Shows}
use Rattle.machine_examples.specs.Sets.{waits_name, waited, in_place, one_wait, wait_refused}
use Rattle.abi_machine.proofs.Rules.{the_rules}
use Rattle.abi_machine.proofs.Walks.{far, walked, goes_on, shows, planned}
use Rattle.abi_machine.proofs.Passed.{none_planned}

abbrev g : Graph
g = (waited asynchronous)

abbrev s : Script
s = one_wait

abbrev w1 : ℕ → ℕ → World
w1 index place = record (in_place index place) {
  tasks = new_task Init Nobody Exited ∷ new_task (Func (record { instance = 0; core = (core_func 0 3); options = asynchronous; func_type = func_type [] None })) (Host 1 []) Acting ∷ [];
  chain = 1 ∷ [];
  control = Lowers (record { inst = 0; memory = None; realloc = None; acts_for = 1; blame = 1; next = Starts }) (Gives []);
  units = 1;
  taken = 1;
}

piece1 : (index place : ℕ) → far 2 g s (in_place index place) ≡ ((line.Take 1 1 waits_name [] ∷ line.Enter 1 ∷ []), w1 index place)
unfolding the_rules
piece1 index place = ap (λ (p : Plan). ((line.Take 1 1 waits_name [] ∷ line.Enter 1 ∷ []), planned p (w1 index place))) (none_planned (entries_by (defines g 0)) None)

abbrev w2 : ℕ → ℕ → TrapName → World
w2 index place why = record (in_place index place) {
  insts = record { table = (Add 1 (OfSet 0) ∷ []); sets = ([] ∷ []); backpressure = 0 } ∷ [];
  tasks = new_task Init Nobody Exited ∷ record (new_task (Func (record { instance = 0; core = (core_func 0 3); options = asynchronous; func_type = func_type [] None })) (Host 1 []) Acting) { stacks = ((Running (record { instance = 0; results = 0; locals = []; values = []; rest = (Plain Drop End); labels = record { arity = 0; under = []; again = None; after = End } ∷ [] }) []) ∷ []) } ∷ [];
  chain = 1 ∷ [];
  control = Doomed 1 why;
  units = 6;
  taken = 1;
}

-- What the second piece comes to is told for each set and place.
abbrev Comes : ℕ → ℕ → TrapName → Type 0
Comes index place why =
    far 8 g s (w1 index place) ≡ ((line.Do 1 builtin.WaitableSetNew [] ∷ line.Got 1 (1 ∷ []) ∷ line.Do 1 builtin.WaitableSetWait (index ∷ place ∷ []) ∷ []), w2 index place why)

absent : Comes 2 6 trap.Absent
unfolding the_rules
absent = refl

misaligned : Comes 1 6 trap.Misaligned
unfolding the_rules
misaligned = refl

outside : Comes 1 4 trap.Bounds
unfolding the_rules
outside = refl

pub absent_shown : Shows (waited asynchronous) one_wait (in_place 2 6) (wait_refused 2 6) (Trapped 1 trap.Absent) 6
unfolding the_rules
absent_shown =
    shows g s (in_place 2 6) (w2 2 6 trap.Absent) _ (Trapped 1 trap.Absent) 6
    (goes_on g s (in_place 2 6) (w1 2 6) (w2 2 6 trap.Absent) _ _ (walked 2 g s (in_place 2 6) (w1 2 6) _ (piece1 2 6))
    (walked 8 g s (w1 2 6) (w2 2 6 trap.Absent) _ absent)) refl refl

pub misaligned_shown : Shows (waited asynchronous) one_wait (in_place 1 6) (wait_refused 1 6) (Trapped 1 trap.Misaligned) 6
unfolding the_rules
misaligned_shown =
    shows g s (in_place 1 6) (w2 1 6 trap.Misaligned) _ (Trapped 1 trap.Misaligned) 6
    (goes_on g s (in_place 1 6) (w1 1 6) (w2 1 6 trap.Misaligned) _ _ (walked 2 g s (in_place 1 6) (w1 1 6) _ (piece1 1 6))
    (walked 8 g s (w1 1 6) (w2 1 6 trap.Misaligned) _ misaligned)) refl refl

pub outside_shown : Shows (waited asynchronous) one_wait (in_place 1 4) (wait_refused 1 4) (Trapped 1 trap.Bounds) 6
unfolding the_rules
outside_shown =
    shows g s (in_place 1 4) (w2 1 4 trap.Bounds) _ (Trapped 1 trap.Bounds) 6
    (goes_on g s (in_place 1 4) (w1 1 4) (w2 1 4 trap.Bounds) _ _ (walked 2 g s (in_place 1 4) (w1 1 4) _ (piece1 1 4))
    (walked 8 g s (w1 1 4) (w2 1 4 trap.Bounds) _ outside)) refl refl
