-- A result is lifted before it is tested that the task has not returned.
use Rattle.std.proofs.Common.{◌≡◌, ◌∙◌, true, [], ◌∷◌, Some, None, refl, ap}
use Rattle.syntax_trees.specs.declared.instr.Instr.TheVariants.{Drop}
use Rattle.syntax_trees.specs.declared.instr.Instr.TheVariants as instr
use Rattle.syntax_trees.specs.Expr.{End, Plain}
use Rattle.wasm_store.specs.Stack.{Running}
use Rattle.syntax_trees.specs.declared.types.ValType.TheOpen as F
use Rattle.syntax_trees.specs.declared.types.ValType.TheVariants as leaves
use Rattle.syntax_trees.specs.declared.value.Value.TheOpen as V
use Rattle.syntax_trees.specs.declared.value.Value.TheVariants as plain
use Rattle.tasks.specs.declared.phase.Resolution.TheVariants.{Returned}
use Rattle.tasks.specs.declared.subtask_state.SubtaskState.TheVariants as told
use Rattle.comp_graph.specs.Graph.{Graph, no_options}
use Rattle.script_reader.specs.Script.{Script}
use Rattle.trace_labels.specs.declared.builtin.Builtin.TheVariants as builtin
use Rattle.trace_labels.specs.declared.label.Label.TheVariants as line
use Rattle.trace_labels.specs.declared.trap.TrapName.TheVariants as trap
use Rattle.abi_machine.specs.declared.run_end.RunEnd.TheVariants.{Trapped}
use Rattle.abi_machine.specs.LoweringOver.{Plan, Gives, lower_step, tested}
use Rattle.abi_machine.specs.Control.{Free, Calls, Arrives, Lowers, Doomed, Starts, Resolves, Replies}
use Rattle.abi_machine.specs.World.{Init, Func, Nobody, Host, Guest, New, Acting, AfterCall, Exited, World, new_task}
use Rattle.abi_machine.specs.Edits.{with_control, in_state}
use Rattle.abi_machine.specs.Canons.{bytes_of, defines}
use Rattle.abi_machine.specs.Turn.{Steps, behind}
use Rattle.abi_machine.specs.Lifting.{by_world}
use Rattle.abi_machine.specs.Passing.{last_of}
use Rattle.abi_machine.specs.Pausing.{entries_by}
use Rattle.abi_machine.specs.Next.{next}
use Rattle.abi_machine.specs.examples.Parts.{func_type, number, core_func, asynchronous, one_call, Shows}
use Rattle.machine_examples.specs.Passing.{twice, twice_world, bad_char}
use Rattle.abi_machine.proofs.Rules.{the_rules}
use Rattle.abi_machine.proofs.Walks.{far, walked, stepped, goes_on, shows, planned, the_task, the_func}
use Rattle.abi_machine.proofs.Passed.{none_passed, result_passed_as, none_planned, result_placed}
use Rattle.abi_machine.proofs.Copies.{entering, returning, returns_as}
use Rattle.machine_examples.proofs.Chars.{char_flat, char_laid, char_same, char_part, char_lowered}

abbrev g : Graph
g = twice

abbrev s : Script
s = one_call

abbrev w0 : World
w0 = twice_world

abbrev w1 : World
w1 = record w0 {
  tasks = new_task Init Nobody Exited ∷ record (new_task (Func (record { instance = 0; core = (core_func 0 0); options = no_options; func_type = func_type [] None })) (Host 1 []) (AfterCall 2 0 (0 ∷ []))) { stacks = ((Running (record { instance = 0; results = 0; locals = []; values = []; rest = (Plain Drop End); labels = record { arity = 0; under = []; again = None; after = End } ∷ [] }) []) ∷ []) } ∷ new_task (Func (record { instance = 1; core = (core_func 1 2); options = asynchronous; func_type = func_type [] (Some leaves.Char) })) (Guest (record { by = 1; canon = 0; words = (0 ∷ []); told = told.Starting; lends = []; result = [] })) New ∷ [];
  chain = 2 ∷ 1 ∷ [];
  control = Arrives;
  units = 2;
}

piece1 : far 3 g s w0 ≡ ((line.Do 1 builtin.Lower (0 ∷ []) ∷ line.Call 1 2 2 ∷ []), w1)
unfolding the_rules
piece1 = refl

abbrev w2 : World
w2 = record w0 {
  tasks = new_task Init Nobody Exited ∷ record (new_task (Func (record { instance = 0; core = (core_func 0 0); options = no_options; func_type = func_type [] None })) (Host 1 []) (AfterCall 2 0 (0 ∷ []))) { stacks = ((Running (record { instance = 0; results = 0; locals = []; values = []; rest = (Plain Drop End); labels = record { arity = 0; under = []; again = None; after = End } ∷ [] }) []) ∷ []) } ∷ new_task (Func (record { instance = 1; core = (core_func 1 2); options = asynchronous; func_type = func_type [] (Some leaves.Char) })) (Guest (record { by = 1; canon = 0; words = (0 ∷ []); told = told.Starting; lends = []; result = [] })) Acting ∷ [];
  chain = 2 ∷ 1 ∷ [];
  control = Lowers (record { inst = 1; memory = None; realloc = None; acts_for = 2; blame = 2; next = Starts }) (Gives []);
  units = 2;
}

piece2 : next g s w1 ≡ Steps (line.Enter 2 ∷ []) w2
unfolding the_rules
piece2 =
    ap (entering g w1) (none_passed 0 2 true (Some leaves.Char) (bytes_of w1.store (Some 0)) (0 ∷ []) (in_state 2 Acting (with_control Free w1)) refl)
    ∙ ap (λ (p : Plan). Steps (line.Enter 2 ∷ []) (planned p w2)) (none_planned (entries_by (defines g 1)) (Some leaves.Char))

abbrev w3 : World
w3 = record w0 {
  tasks = new_task Init Nobody Exited ∷ record (new_task (Func (record { instance = 0; core = (core_func 0 0); options = no_options; func_type = func_type [] None })) (Host 1 []) (AfterCall 2 0 (0 ∷ []))) { stacks = ((Running (record { instance = 0; results = 0; locals = []; values = []; rest = (Plain Drop End); labels = record { arity = 0; under = []; again = None; after = End } ∷ [] }) []) ∷ []) } ∷ record (new_task (Func (record { instance = 1; core = (core_func 1 2); options = asynchronous; func_type = func_type [] (Some leaves.Char) })) (Guest (record { by = 1; canon = 0; words = (0 ∷ []); told = told.Starting; lends = []; result = [] })) Acting) { stacks = ((Running (record { instance = 1; results = 0; locals = []; values = []; rest = (number 55296 (Plain (instr.Call 1) End)); labels = record { arity = 0; under = []; again = None; after = End } ∷ [] }) []) ∷ []) } ∷ [];
  chain = 2 ∷ 1 ∷ [];
  control = Calls 1 (65 ∷ []);
  units = 4;
}

piece3 : far 3 g s w2 ≡ ([], w3)
unfolding the_rules
piece3 = refl

abbrev w4 : World
w4 = record w0 {
  tasks = new_task Init Nobody Exited ∷ record (new_task (Func (record { instance = 0; core = (core_func 0 0); options = no_options; func_type = func_type [] None })) (Host 1 []) (AfterCall 2 0 (0 ∷ []))) { stacks = ((Running (record { instance = 0; results = 0; locals = []; values = []; rest = (Plain Drop End); labels = record { arity = 0; under = []; again = None; after = End } ∷ [] }) []) ∷ []) } ∷ record (new_task (Func (record { instance = 1; core = (core_func 1 2); options = asynchronous; func_type = func_type [] (Some leaves.Char) })) (Guest (record { by = 1; canon = 0; words = (0 ∷ []); told = told.Starting; lends = []; result = [] })) Acting) { stacks = ((Running (record { instance = 1; results = 0; locals = []; values = []; rest = (number 55296 (Plain (instr.Call 1) End)); labels = record { arity = 0; under = []; again = None; after = End } ∷ [] }) []) ∷ []); resolution = Some Returned } ∷ [];
  chain = 2 ∷ 1 ∷ [];
  control = Lowers (record { inst = 0; memory = Some 0; realloc = None; acts_for = 1; blame = 2; next = Resolves 2 Replies }) (tested (last_of (0 ∷ [])) 4 4 ((lower_step (entries_by (defines g 0)) (V.Char 65)).store leaves.Char (last_of (0 ∷ [])) (Gives [])));
  units = 4;
}

piece4 : next g s w3 ≡ Steps (line.Do 2 builtin.TaskReturn (65 ∷ []) ∷ line.Return 2 (Some (record { value = (plain.Char 65); val_type = leaves.Char })) ∷ []) w4
unfolding the_rules
piece4 =
    ap (behind (line.Do 2 builtin.TaskReturn (65 ∷ []) ∷ [])) (returns_as g 2 (the_task w3) 1 leaves.Char no_options (65 ∷ []) (with_control Free w3) (the_func w3) refl refl char_same refl)
    ∙ ap (returning g w3 (line.Do 2 builtin.TaskReturn (65 ∷ []) ∷ []) leaves.Char) (result_passed_as 1 2 16 leaves.Char F.Char [] (65 ∷ []) (with_control Free w3) refl char_flat (char_part (by_world 1 2)))
    ∙ ap (λ (p : Plan). Steps (line.Do 2 builtin.TaskReturn (65 ∷ []) ∷ line.Return 2 (Some (record { value = (plain.Char 65); val_type = leaves.Char })) ∷ []) (planned p w4)) (result_placed (entries_by (defines g 0)) leaves.Char (plain.Char 65) (0 ∷ []) (record { size = 4; align = 4 }) (lower_step (entries_by (defines g 0)) (V.Char 65)) char_laid (char_lowered (entries_by (defines g 0)) 65))

abbrev w5 : World
w5 = record w0 {
  store = record w0.store { memories = record { bytes = (65 ∷ 0 ∷ 0 ∷ 0 ∷ 0 ∷ 0 ∷ 0 ∷ 0 ∷ []); maximum = None } ∷ record { bytes = []; maximum = None } ∷ [] };
  tasks = new_task Init Nobody Exited ∷ record (new_task (Func (record { instance = 0; core = (core_func 0 0); options = no_options; func_type = func_type [] None })) (Host 1 []) (AfterCall 2 0 (0 ∷ []))) { stacks = ((Running (record { instance = 0; results = 0; locals = []; values = []; rest = (Plain Drop End); labels = record { arity = 0; under = []; again = None; after = End } ∷ [] }) []) ∷ []) } ∷ record (new_task (Func (record { instance = 1; core = (core_func 1 2); options = asynchronous; func_type = func_type [] (Some leaves.Char) })) (Guest (record { by = 1; canon = 0; words = (0 ∷ []); told = told.Starting; lends = []; result = [] })) Acting) { stacks = ((Running (record { instance = 1; results = 0; locals = []; values = []; rest = End; labels = record { arity = 0; under = []; again = None; after = End } ∷ [] }) []) ∷ []); resolution = Some Returned } ∷ [];
  chain = 2 ∷ 1 ∷ [];
  control = Calls 1 (55296 ∷ []);
  units = 6;
}

piece5 : far 3 g s w4 ≡ ((line.Got 2 [] ∷ []), w5)
unfolding the_rules
piece5 = refl

abbrev w6 : World
w6 = record w0 {
  store = record w0.store { memories = record { bytes = (65 ∷ 0 ∷ 0 ∷ 0 ∷ 0 ∷ 0 ∷ 0 ∷ 0 ∷ []); maximum = None } ∷ record { bytes = []; maximum = None } ∷ [] };
  tasks = new_task Init Nobody Exited ∷ record (new_task (Func (record { instance = 0; core = (core_func 0 0); options = no_options; func_type = func_type [] None })) (Host 1 []) (AfterCall 2 0 (0 ∷ []))) { stacks = ((Running (record { instance = 0; results = 0; locals = []; values = []; rest = (Plain Drop End); labels = record { arity = 0; under = []; again = None; after = End } ∷ [] }) []) ∷ []) } ∷ record (new_task (Func (record { instance = 1; core = (core_func 1 2); options = asynchronous; func_type = func_type [] (Some leaves.Char) })) (Guest (record { by = 1; canon = 0; words = (0 ∷ []); told = told.Starting; lends = []; result = [] })) Acting) { stacks = ((Running (record { instance = 1; results = 0; locals = []; values = []; rest = End; labels = record { arity = 0; under = []; again = None; after = End } ∷ [] }) []) ∷ []); resolution = Some Returned } ∷ [];
  chain = 2 ∷ 1 ∷ [];
  control = Doomed 2 trap.BadChar;
  units = 6;
}

piece6 : next g s w5 ≡ Steps (line.Do 2 builtin.TaskReturn (55296 ∷ []) ∷ []) w6
unfolding the_rules
piece6 =
    ap (behind (line.Do 2 builtin.TaskReturn (55296 ∷ []) ∷ [])) (returns_as g 2 (the_task w5) 1 leaves.Char no_options (55296 ∷ []) (with_control Free w5) (the_func w5) refl refl char_same refl)
    ∙ ap (returning g w5 (line.Do 2 builtin.TaskReturn (55296 ∷ []) ∷ []) leaves.Char) (result_passed_as 1 2 16 leaves.Char F.Char [] (55296 ∷ []) (with_control Free w5) refl char_flat (char_part (by_world 1 2)))

pub bad_char_shown : Shows twice one_call twice_world bad_char (Trapped 2 trap.BadChar) 6
unfolding the_rules
bad_char_shown =
    shows g s w0 w6 _ (Trapped 2 trap.BadChar) 6
    (goes_on g s w0 w1 w6 _ _ (walked 3 g s w0 w1 _ piece1)
    (goes_on g s w1 w2 w6 _ _ (stepped g s w1 w2 _ piece2)
    (goes_on g s w2 w3 w6 _ _ (walked 3 g s w2 w3 _ piece3)
    (goes_on g s w3 w4 w6 _ _ (stepped g s w3 w4 _ piece4)
    (goes_on g s w4 w5 w6 _ _ (walked 3 g s w4 w5 _ piece5)
    (stepped g s w5 w6 _ piece6)))))) refl refl
