-- A set is not dropped while a task waits on it, in its loop or in a wait.
use Rattle.std.proofs.Common.{◌≡◌, [], ◌∷◌, None, refl, ap}
use Rattle.syntax_trees.specs.declared.instr.Instr.TheVariants.{Drop}
use Rattle.syntax_trees.specs.Expr.{End, Plain}
use Rattle.wasm_store.specs.Stack.{Running}
use Rattle.handle_table.specs.History.{Add}
use Rattle.comp_graph.specs.Graph.{Graph, no_options}
use Rattle.script_reader.specs.Script.{Script}
use Rattle.trace_labels.specs.declared.builtin.Builtin.TheVariants as builtin
use Rattle.trace_labels.specs.declared.label.BlockReason.TheVariants as reason
use Rattle.trace_labels.specs.declared.label.Label.TheVariants as line
use Rattle.trace_labels.specs.declared.trap.TrapName.TheVariants as trap
use Rattle.abi_machine.specs.declared.run_end.RunEnd.TheVariants.{Trapped}
use Rattle.abi_machine.specs.LoweringOver.{Plan, Gives}
use Rattle.abi_machine.specs.Control.{Lowers, Doomed, Starts}
use Rattle.abi_machine.specs.World.{OfSet, Init, Func, Nobody, Host, ForSet, Acting, InBuiltin, Exited, World, new_task}
use Rattle.abi_machine.specs.Canons.{defines}
use Rattle.abi_machine.specs.Pausing.{entries_by}
use Rattle.abi_machine.specs.examples.Parts.{func_type, core_func, asynchronous, Shows}
use Rattle.machine_examples.specs.Sets.{waits_name, drops_name, waited, in_wait, wait_and_drop, wait_waits}
use Rattle.abi_machine.proofs.Rules.{the_rules}
use Rattle.abi_machine.proofs.Walks.{far, walked, goes_on, shows, planned}
use Rattle.abi_machine.proofs.Passed.{none_planned}

abbrev g : Graph
g = (waited asynchronous)

abbrev s : Script
s = wait_and_drop

abbrev w0 : World
w0 = in_wait

abbrev w1 : World
w1 = record w0 {
  tasks = new_task Init Nobody Exited ∷ new_task (Func (record { instance = 0; core = (core_func 0 3); options = asynchronous; func_type = func_type [] None })) (Host 1 []) Acting ∷ [];
  chain = 1 ∷ [];
  control = Lowers (record { inst = 0; memory = None; realloc = None; acts_for = 1; blame = 1; next = Starts }) (Gives []);
  units = 1;
  taken = 1;
}

piece1 : far 2 g s w0 ≡ ((line.Take 1 1 waits_name [] ∷ line.Enter 1 ∷ []), w1)
unfolding the_rules
piece1 = ap (λ (p : Plan). ((line.Take 1 1 waits_name [] ∷ line.Enter 1 ∷ []), planned p w1)) (none_planned (entries_by (defines g 0)) None)

abbrev w2 : World
w2 = record w0 {
  insts = record { table = (Add 1 (OfSet 0) ∷ []); sets = ([] ∷ []); backpressure = 0 } ∷ [];
  tasks = new_task Init Nobody Exited ∷ record (new_task (Func (record { instance = 0; core = (core_func 0 3); options = asynchronous; func_type = func_type [] None })) (Host 1 []) (InBuiltin 2 (1 ∷ 0 ∷ []) (ForSet 1))) { stacks = ((Running (record { instance = 0; results = 0; locals = []; values = []; rest = (Plain Drop End); labels = record { arity = 0; under = []; again = None; after = End } ∷ [] }) []) ∷ []) } ∷ new_task (Func (record { instance = 0; core = (core_func 0 5); options = no_options; func_type = func_type [] None })) (Host 2 []) Acting ∷ [];
  chain = 2 ∷ [];
  control = Lowers (record { inst = 0; memory = None; realloc = None; acts_for = 2; blame = 2; next = Starts }) (Gives []);
  units = 7;
  taken = 2;
}

piece2 : far 10 g s w1 ≡ ((line.Do 1 builtin.WaitableSetNew [] ∷ line.Got 1 (1 ∷ []) ∷ line.Do 1 builtin.WaitableSetWait (1 ∷ 0 ∷ []) ∷ line.Block 1 (reason.Wait 1) ∷ line.Take 2 2 drops_name [] ∷ line.Enter 2 ∷ []), w2)
unfolding the_rules
piece2 = ap (λ (p : Plan). ((line.Do 1 builtin.WaitableSetNew [] ∷ line.Got 1 (1 ∷ []) ∷ line.Do 1 builtin.WaitableSetWait (1 ∷ 0 ∷ []) ∷ line.Block 1 (reason.Wait 1) ∷ line.Take 2 2 drops_name [] ∷ line.Enter 2 ∷ []), planned p w2)) (none_planned (entries_by (defines g 0)) None)

abbrev w3 : World
w3 = record w0 {
  insts = record { table = (Add 1 (OfSet 0) ∷ []); sets = ([] ∷ []); backpressure = 0 } ∷ [];
  tasks = new_task Init Nobody Exited ∷ record (new_task (Func (record { instance = 0; core = (core_func 0 3); options = asynchronous; func_type = func_type [] None })) (Host 1 []) (InBuiltin 2 (1 ∷ 0 ∷ []) (ForSet 1))) { stacks = ((Running (record { instance = 0; results = 0; locals = []; values = []; rest = (Plain Drop End); labels = record { arity = 0; under = []; again = None; after = End } ∷ [] }) []) ∷ []) } ∷ record (new_task (Func (record { instance = 0; core = (core_func 0 5); options = no_options; func_type = func_type [] None })) (Host 2 []) Acting) { stacks = ((Running (record { instance = 0; results = 0; locals = []; values = []; rest = End; labels = record { arity = 0; under = []; again = None; after = End } ∷ [] }) []) ∷ []) } ∷ [];
  chain = 2 ∷ [];
  control = Doomed 2 trap.Waiters;
  units = 9;
  taken = 2;
}

piece3 : far 4 g s w2 ≡ ((line.Do 2 builtin.WaitableSetDrop (1 ∷ []) ∷ []), w3)
unfolding the_rules
piece3 = refl

pub wait_waits_shown : Shows (waited asynchronous) wait_and_drop in_wait wait_waits (Trapped 2 trap.Waiters) 9
unfolding the_rules
wait_waits_shown =
    shows g s w0 w3 _ (Trapped 2 trap.Waiters) 9
    (goes_on g s w0 w1 w3 _ _ (walked 2 g s w0 w1 _ piece1)
    (goes_on g s w1 w2 w3 _ _ (walked 10 g s w1 w2 _ piece2)
    (walked 4 g s w2 w3 _ piece3))) refl refl
