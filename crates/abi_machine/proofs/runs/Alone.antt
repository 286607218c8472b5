-- A task waits for what never comes.
use Rattle.std.proofs.Common.{◌≡◌, [], ◌∷◌, None, refl, ap}
use Rattle.syntax_trees.specs.declared.instr.Instr.TheVariants.{Drop}
use Rattle.syntax_trees.specs.Expr.{End, Plain}
use Rattle.wasm_store.specs.Stack.{Running}
use Rattle.handle_table.specs.History.{Add}
use Rattle.comp_graph.specs.Graph.{Graph}
use Rattle.script_reader.specs.Script.{Script}
use Rattle.trace_labels.specs.declared.builtin.Builtin.TheVariants as builtin
use Rattle.trace_labels.specs.declared.label.BlockReason.TheVariants as reason
use Rattle.trace_labels.specs.declared.label.Label.TheVariants as line
use Rattle.abi_machine.specs.declared.run_end.RunEnd.TheVariants.{Deadlock}
use Rattle.abi_machine.specs.LoweringOver.{Plan, Gives}
use Rattle.abi_machine.specs.Control.{Lowers, Starts}
use Rattle.abi_machine.specs.World.{OfSet, Init, Func, Nobody, Host, ForSet, Acting, InBuiltin, Exited, World, new_task}
use Rattle.abi_machine.specs.Canons.{defines}
use Rattle.abi_machine.specs.Pausing.{entries_by}
use Rattle.abi_machine.specs.examples.Parts.{func_type, core_func, asynchronous, run_name, one_call, Shows}
use Rattle.abi_machine.specs.examples.Sets.{alone, alone_world, waited_alone}
use Rattle.abi_machine.proofs.Rules.{the_rules}
use Rattle.abi_machine.proofs.Walks.{far, walked, goes_on, shows, planned}
use Rattle.abi_machine.proofs.Passed.{none_planned}

abbrev g : Graph
g = alone

abbrev s : Script
s = one_call

abbrev w0 : World
w0 = alone_world

abbrev w1 : World
w1 = record w0 {
  tasks = new_task Init Nobody Exited ∷ new_task (Func (record { instance = 0; core = core_func 0 2; options = asynchronous; func_type = func_type [] None })) (Host 1 []) Acting ∷ [];
  chain = 1 ∷ [];
  control = Lowers (record { inst = 0; memory = None; realloc = None; acts_for = 1; blame = 1; next = Starts }) (Gives []);
  units = 1;
  taken = 1;
}

piece1 : far 2 g s w0 ≡ ((line.Take 1 1 run_name [] ∷ line.Enter 1 ∷ []), w1)
unfolding the_rules
piece1 = ap (λ (p : Plan). ((line.Take 1 1 run_name [] ∷ line.Enter 1 ∷ []), planned p w1)) (none_planned (entries_by (defines g 0)) None)

abbrev w2 : World
w2 = record w0 {
  insts = record { table = (Add 1 (OfSet 0) ∷ []); sets = ([] ∷ []); backpressure = 0 } ∷ [];
  tasks = new_task Init Nobody Exited ∷ record (new_task (Func (record { instance = 0; core = core_func 0 2; options = asynchronous; func_type = func_type [] None })) (Host 1 []) (InBuiltin 1 (1 ∷ 0 ∷ []) (ForSet 1))) { stacks = (Running (record { instance = 0; results = 0; locals = []; values = []; rest = (Plain Drop End); labels = record { arity = 0; under = []; again = None; after = End } ∷ [] }) [] ∷ []) } ∷ [];
  units = 6;
  taken = 1;
}

piece2 : far 8 g s w1 ≡ ((line.Do 1 builtin.WaitableSetNew [] ∷ line.Got 1 (1 ∷ []) ∷ line.Do 1 builtin.WaitableSetWait (1 ∷ 0 ∷ []) ∷ line.Block 1 (reason.Wait 1) ∷ []), w2)
unfolding the_rules
piece2 = refl

pub alone_shown : Shows alone one_call alone_world waited_alone (Deadlock (1 ∷ [])) 6
unfolding the_rules
alone_shown =
    shows g s w0 w2 _ (Deadlock (1 ∷ [])) 6
    (goes_on g s w0 w1 w2 _ _ (walked 2 g s w0 w1 _ piece1)
    (walked 8 g s w1 w2 _ piece2)) refl refl
