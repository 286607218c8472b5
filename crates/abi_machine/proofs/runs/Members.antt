-- A set with a member is dropped.
use Rattle.std.proofs.Common.{◌≡◌, ◌∙◌, true, [], ◌∷◌, None, refl, ap}
use Rattle.syntax_trees.specs.declared.instr.Instr.TheVariants.{Drop}
use Rattle.syntax_trees.specs.declared.instr.Instr.TheVariants as instr
use Rattle.syntax_trees.specs.Expr.{End, Plain}
use Rattle.wasm_store.specs.Stack.{Running}
use Rattle.handle_table.specs.History.{Add}
use Rattle.tasks.specs.declared.subtask_state.SubtaskState.TheVariants as told
use Rattle.comp_graph.specs.Graph.{Graph, no_options}
use Rattle.script_reader.specs.Script.{Script}
use Rattle.trace_labels.specs.declared.builtin.Builtin.TheVariants as builtin
use Rattle.trace_labels.specs.declared.label.BlockReason.TheVariants as reason
use Rattle.trace_labels.specs.declared.label.Label.TheVariants as line
use Rattle.trace_labels.specs.declared.trap.TrapName.TheVariants as trap
use Rattle.abi_machine.specs.declared.run_end.RunEnd.TheVariants.{Trapped}
use Rattle.abi_machine.specs.LoweringOver.{Plan, Gives}
use Rattle.abi_machine.specs.Control.{Free, Arrives, Lowers, Doomed, Starts}
use Rattle.abi_machine.specs.World.{OfSubtask, OfSet, Init, Func, Nobody, Host, Guest, ForYield, New, Acting, AfterCall, InBuiltin, Exited, World, new_inst, new_task}
use Rattle.abi_machine.specs.Edits.{with_control, in_state}
use Rattle.abi_machine.specs.Canons.{defines}
use Rattle.abi_machine.specs.Turn.{Steps}
use Rattle.abi_machine.specs.Pausing.{entries_by}
use Rattle.abi_machine.specs.Next.{next}
use Rattle.abi_machine.specs.examples.Parts.{func_type, number, core_func, asynchronous, one_call, Shows}
use Rattle.abi_machine.specs.examples.Sets.{dropping, dropping_world, drops_at_once, has_members}
use Rattle.abi_machine.proofs.Rules.{the_rules}
use Rattle.abi_machine.proofs.Walks.{far, walked, stepped, goes_on, shows, planned}
use Rattle.abi_machine.proofs.Passed.{none_passed, none_planned}
use Rattle.abi_machine.proofs.Copies.{entering}

abbrev g : Graph
g = dropping

abbrev s : Script
s = one_call

abbrev w0 : World
w0 = dropping_world drops_at_once

abbrev w1 : World
w1 = record w0 {
  insts = record { table = (Add 1 (OfSet 0) ∷ []); sets = ([] ∷ []); backpressure = 0 } ∷ new_inst ∷ [];
  tasks = new_task Init Nobody Exited ∷ record (new_task (Func (record { instance = 0; core = core_func 0 0; options = no_options; func_type = func_type [] None })) (Host 1 []) (AfterCall 2 1 [])) { stacks = (Running (record { instance = 0; results = 0; locals = []; values = []; rest = (Plain Drop (number 2 (number 1 (Plain (instr.Call 2) (number 1 (Plain (instr.Call 3) End)))))); labels = record { arity = 0; under = []; again = None; after = End } ∷ [] }) [] ∷ []) } ∷ new_task (Func (record { instance = 1; core = core_func 1 6; options = asynchronous; func_type = func_type [] None })) (Guest (record { by = 1; canon = 1; words = []; told = told.Starting; lends = []; result = [] })) New ∷ [];
  chain = 2 ∷ 1 ∷ [];
  control = Arrives;
  units = 3;
}

piece1 : far 5 g s w0 ≡ ((line.Do 1 builtin.WaitableSetNew [] ∷ line.Got 1 (1 ∷ []) ∷ line.Do 1 builtin.Lower [] ∷ line.Call 1 2 2 ∷ []), w1)
unfolding the_rules
piece1 = refl

abbrev w2 : World
w2 = record w0 {
  insts = record { table = (Add 1 (OfSet 0) ∷ []); sets = ([] ∷ []); backpressure = 0 } ∷ new_inst ∷ [];
  tasks = new_task Init Nobody Exited ∷ record (new_task (Func (record { instance = 0; core = core_func 0 0; options = no_options; func_type = func_type [] None })) (Host 1 []) (AfterCall 2 1 [])) { stacks = (Running (record { instance = 0; results = 0; locals = []; values = []; rest = (Plain Drop (number 2 (number 1 (Plain (instr.Call 2) (number 1 (Plain (instr.Call 3) End)))))); labels = record { arity = 0; under = []; again = None; after = End } ∷ [] }) [] ∷ []) } ∷ new_task (Func (record { instance = 1; core = core_func 1 6; options = asynchronous; func_type = func_type [] None })) (Guest (record { by = 1; canon = 1; words = []; told = told.Starting; lends = []; result = [] })) Acting ∷ [];
  chain = 2 ∷ 1 ∷ [];
  control = Lowers (record { inst = 1; memory = None; realloc = None; acts_for = 2; blame = 2; next = Starts }) (Gives []);
  units = 3;
}

piece2 : next g s w1 ≡ Steps (line.Enter 2 ∷ []) w2
unfolding the_rules
piece2 =
    ap (entering g w1) (none_passed 0 2 true None [] [] (in_state 2 Acting (with_control Free w1)) refl)
    ∙ ap (λ (p : Plan). Steps (line.Enter 2 ∷ []) (planned p w2)) (none_planned (entries_by (defines g 1)) None)

abbrev w3 : World
w3 = record w0 {
  insts = record { table = (Add 2 (OfSubtask 2) ∷ Add 1 (OfSet 0) ∷ []); sets = ((2 ∷ []) ∷ []); backpressure = 0 } ∷ new_inst ∷ [];
  tasks = new_task Init Nobody Exited ∷ record (new_task (Func (record { instance = 0; core = core_func 0 0; options = no_options; func_type = func_type [] None })) (Host 1 []) Acting) { stacks = (Running (record { instance = 0; results = 0; locals = []; values = []; rest = End; labels = record { arity = 0; under = []; again = None; after = End } ∷ [] }) [] ∷ []) } ∷ record (new_task (Func (record { instance = 1; core = core_func 1 6; options = asynchronous; func_type = func_type [] None })) (Guest (record { by = 1; canon = 1; words = []; told = told.Started; lends = []; result = [] })) (InBuiltin 4 [] ForYield)) { stacks = (Running (record { instance = 1; results = 0; locals = []; values = []; rest = (Plain Drop (Plain (instr.Call 5) End)); labels = record { arity = 0; under = []; again = None; after = End } ∷ [] }) [] ∷ []) } ∷ [];
  control = Doomed 1 trap.Members;
  units = 10;
}

piece3 : far 12 g s w2 ≡ ((line.Do 2 builtin.Yield [] ∷ line.Block 2 reason.Yield ∷ line.Got 1 (33 ∷ []) ∷ line.Do 1 builtin.WaitableJoin (2 ∷ 1 ∷ []) ∷ line.Got 1 [] ∷ line.Do 1 builtin.WaitableSetDrop (1 ∷ []) ∷ []), w3)
unfolding the_rules
piece3 = refl

pub members_shown : Shows dropping one_call (dropping_world drops_at_once) has_members (Trapped 1 trap.Members) 10
unfolding the_rules
members_shown =
    shows g s w0 w3 _ (Trapped 1 trap.Members) 10
    (goes_on g s w0 w1 w3 _ _ (walked 5 g s w0 w1 _ piece1)
    (goes_on g s w1 w2 w3 _ _ (stepped g s w1 w2 _ piece2)
    (walked 12 g s w2 w3 _ piece3))) refl refl
