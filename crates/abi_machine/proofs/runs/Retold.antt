-- While a task cancels a call a poll tells another task of its instance that this has returned, and the cancelling one is told so again.
use Rattle.std.proofs.Common.{◌≡◌, ◌∙◌, true, [], ◌∷◌, Some, None, refl, ap}
use Rattle.syntax_trees.specs.declared.instr.Instr.TheVariants.{Drop}
use Rattle.syntax_trees.specs.declared.instr.Instr.TheVariants as instr
use Rattle.syntax_trees.specs.Expr.{End, Plain}
use Rattle.wasm_store.specs.Stack.{Running}
use Rattle.handle_table.specs.History.{Add}
use Rattle.tasks.specs.declared.phase.Resolution.TheVariants.{Returned, Cancelled}
use Rattle.tasks.specs.declared.phase.Cancellation.TheVariants.{Delivered}
use Rattle.tasks.specs.declared.subtask_state.SubtaskState.TheVariants as told
use Rattle.comp_graph.specs.Graph.{Graph, no_options}
use Rattle.script_reader.specs.Script.{Script}
use Rattle.trace_labels.specs.declared.builtin.Builtin.TheVariants as builtin
use Rattle.trace_labels.specs.declared.label.BlockReason.TheVariants as reason
use Rattle.trace_labels.specs.declared.label.Label.TheVariants as line
use Rattle.abi_machine.specs.declared.run_end.RunEnd.TheVariants.{Done}
use Rattle.abi_machine.specs.LoweringOver.{Plan, Gives}
use Rattle.abi_machine.specs.Control.{Free, Runs, Arrives, Lowers, Starts}
use Rattle.abi_machine.specs.World.{OfSubtask, OfSet, Init, Func, Nobody, Host, Guest, New, Acting, AfterCall, AfterCancel, InLoop, Exited, World, new_task}
use Rattle.abi_machine.specs.Edits.{with_control, in_state}
use Rattle.abi_machine.specs.Canons.{defines}
use Rattle.abi_machine.specs.Turn.{Steps}
use Rattle.abi_machine.specs.Pausing.{entries_by}
use Rattle.abi_machine.specs.Next.{next}
use Rattle.abi_machine.specs.examples.Parts.{func_type, number, core_func, asynchronous, Shows}
use Rattle.abi_machine.specs.examples.Retold.{retold, retold_world, both_called, first_name, second_name, told_twice}
use Rattle.abi_machine.proofs.Rules.{the_rules}
use Rattle.abi_machine.proofs.Walks.{far, walked, stepped, goes_on, shows, planned}
use Rattle.abi_machine.proofs.Passed.{none_passed, none_planned}
use Rattle.abi_machine.proofs.Copies.{entering}

abbrev g : Graph
g = retold

abbrev s : Script
s = both_called

abbrev w0 : World
w0 = retold_world

abbrev w1 : World
w1 = record w0 {
  tasks = new_task Init Nobody Exited ∷ new_task (Func (record { instance = 1; core = core_func 1 15; options = no_options; func_type = func_type [] None })) (Host 1 []) Acting ∷ [];
  chain = 1 ∷ [];
  control = Lowers (record { inst = 1; memory = None; realloc = None; acts_for = 1; blame = 1; next = Starts }) (Gives []);
  units = 1;
  taken = 1;
}

piece1 : far 2 g s w0 ≡ ((line.Take 1 1 first_name [] ∷ line.Enter 1 ∷ []), w1)
unfolding the_rules
piece1 = ap (λ (p : Plan). ((line.Take 1 1 first_name [] ∷ line.Enter 1 ∷ []), planned p w1)) (none_planned (entries_by (defines g 1)) None)

abbrev w2 : World
w2 = record w0 {
  tasks = new_task Init Nobody Exited ∷ record (new_task (Func (record { instance = 1; core = core_func 1 15; options = no_options; func_type = func_type [] None })) (Host 1 []) (AfterCall 2 7 [])) { stacks = (Running (record { instance = 1; results = 0; locals = []; values = []; rest = (Plain Drop End); labels = record { arity = 0; under = []; again = None; after = End } ∷ [] }) [] ∷ []) } ∷ new_task (Func (record { instance = 0; core = core_func 0 11; options = (record no_options { callback = Some (core_func 0 12); is_async = true }); func_type = func_type [] None })) (Guest (record { by = 1; canon = 7; words = []; told = told.Starting; lends = []; result = [] })) New ∷ [];
  chain = 2 ∷ 1 ∷ [];
  control = Arrives;
  units = 2;
  taken = 1;
}

piece2 : far 3 g s w1 ≡ ((line.Do 1 builtin.Lower [] ∷ line.Call 1 2 1 ∷ []), w2)
unfolding the_rules
piece2 = refl

abbrev w3 : World
w3 = record w0 {
  tasks = new_task Init Nobody Exited ∷ record (new_task (Func (record { instance = 1; core = core_func 1 15; options = no_options; func_type = func_type [] None })) (Host 1 []) (AfterCall 2 7 [])) { stacks = (Running (record { instance = 1; results = 0; locals = []; values = []; rest = (Plain Drop End); labels = record { arity = 0; under = []; again = None; after = End } ∷ [] }) [] ∷ []) } ∷ new_task (Func (record { instance = 0; core = core_func 0 11; options = (record no_options { callback = Some (core_func 0 12); is_async = true }); func_type = func_type [] None })) (Guest (record { by = 1; canon = 7; words = []; told = told.Starting; lends = []; result = [] })) Acting ∷ [];
  chain = 2 ∷ 1 ∷ [];
  control = Lowers (record { inst = 0; memory = None; realloc = None; acts_for = 2; blame = 2; next = Starts }) (Gives []);
  units = 2;
  taken = 1;
}

piece3 : next g s w2 ≡ Steps (line.Enter 2 ∷ []) w3
unfolding the_rules
piece3 =
    ap (entering g w2) (none_passed 1 2 true None [] [] (in_state 2 Acting (with_control Free w2)) refl)
    ∙ ap (λ (p : Plan). Steps (line.Enter 2 ∷ []) (planned p w3)) (none_planned (entries_by (defines g 0)) None)

abbrev w4 : World
w4 = record w0 {
  insts = record { table = (Add 1 (OfSet 0) ∷ []); sets = ([] ∷ []); backpressure = 0 } ∷ record { table = (Add 1 (OfSubtask 2) ∷ []); sets = []; backpressure = 0 } ∷ [];
  tasks = new_task Init Nobody Exited ∷ record (new_task (Func (record { instance = 1; core = core_func 1 15; options = no_options; func_type = func_type [] None })) (Host 1 []) Exited) { resolution = Some Returned } ∷ new_task (Func (record { instance = 0; core = core_func 0 11; options = (record no_options { callback = Some (core_func 0 12); is_async = true }); func_type = func_type [] None })) (Guest (record { by = 1; canon = 7; words = []; told = told.Started; lends = []; result = [] })) (InLoop 18) ∷ [];
  units = 6;
  taken = 1;
}

piece4 : far 12 g s w3 ≡ ((line.Do 2 builtin.WaitableSetNew [] ∷ line.Got 2 (1 ∷ []) ∷ line.Block 2 (reason.Wait 1) ∷ line.Got 1 (17 ∷ []) ∷ line.Return 1 None ∷ line.Exit 1 ∷ []), w4)
unfolding the_rules
piece4 = refl

abbrev w5 : World
w5 = record w0 {
  insts = record { table = (Add 1 (OfSet 0) ∷ []); sets = ([] ∷ []); backpressure = 0 } ∷ record { table = (Add 1 (OfSubtask 2) ∷ []); sets = []; backpressure = 0 } ∷ [];
  tasks = new_task Init Nobody Exited ∷ record (new_task (Func (record { instance = 1; core = core_func 1 15; options = no_options; func_type = func_type [] None })) (Host 1 []) Exited) { resolution = Some Returned } ∷ new_task (Func (record { instance = 0; core = core_func 0 11; options = (record no_options { callback = Some (core_func 0 12); is_async = true }); func_type = func_type [] None })) (Guest (record { by = 1; canon = 7; words = []; told = told.Started; lends = []; result = [] })) (InLoop 18) ∷ new_task (Func (record { instance = 0; core = core_func 0 10; options = asynchronous; func_type = func_type [] None })) (Host 2 []) Acting ∷ [];
  chain = 3 ∷ [];
  control = Lowers (record { inst = 0; memory = None; realloc = None; acts_for = 3; blame = 3; next = Starts }) (Gives []);
  units = 7;
  taken = 2;
}

piece5 : far 2 g s w4 ≡ ((line.Take 2 3 second_name [] ∷ line.Enter 3 ∷ []), w5)
unfolding the_rules
piece5 = ap (λ (p : Plan). ((line.Take 2 3 second_name [] ∷ line.Enter 3 ∷ []), planned p w5)) (none_planned (entries_by (defines g 0)) None)

abbrev w6 : World
w6 = record w0 {
  insts = record { table = (Add 1 (OfSet 0) ∷ []); sets = ([] ∷ []); backpressure = 0 } ∷ record { table = (Add 1 (OfSubtask 2) ∷ []); sets = []; backpressure = 0 } ∷ [];
  tasks = new_task Init Nobody Exited ∷ record (new_task (Func (record { instance = 1; core = core_func 1 15; options = no_options; func_type = func_type [] None })) (Host 1 []) Exited) { resolution = Some Returned } ∷ new_task (Func (record { instance = 0; core = core_func 0 11; options = (record no_options { callback = Some (core_func 0 12); is_async = true }); func_type = func_type [] None })) (Guest (record { by = 1; canon = 7; words = []; told = told.Started; lends = []; result = [] })) (InLoop 18) ∷ record (new_task (Func (record { instance = 0; core = core_func 0 10; options = asynchronous; func_type = func_type [] None })) (Host 2 []) (AfterCall 4 2 [])) { stacks = (Running (record { instance = 0; results = 0; locals = []; values = []; rest = (Plain Drop (number 2 (number 1 (Plain (instr.Call 1) (number 2 (Plain (instr.Call 3) (Plain Drop (Plain (instr.Call 6) End)))))))); labels = record { arity = 0; under = []; again = None; after = End } ∷ [] }) [] ∷ []) } ∷ new_task (Func (record { instance = 1; core = core_func 1 13; options = (record no_options { callback = Some (core_func 1 14); is_async = true }); func_type = func_type [] None })) (Guest (record { by = 3; canon = 2; words = []; told = told.Starting; lends = []; result = [] })) New ∷ [];
  chain = 4 ∷ 3 ∷ [];
  control = Arrives;
  units = 8;
  taken = 2;
}

piece6 : far 3 g s w5 ≡ ((line.Do 3 builtin.Lower [] ∷ line.Call 3 4 2 ∷ []), w6)
unfolding the_rules
piece6 = refl

abbrev w7 : World
w7 = record w0 {
  insts = record { table = (Add 1 (OfSet 0) ∷ []); sets = ([] ∷ []); backpressure = 0 } ∷ record { table = (Add 1 (OfSubtask 2) ∷ []); sets = []; backpressure = 0 } ∷ [];
  tasks = new_task Init Nobody Exited ∷ record (new_task (Func (record { instance = 1; core = core_func 1 15; options = no_options; func_type = func_type [] None })) (Host 1 []) Exited) { resolution = Some Returned } ∷ new_task (Func (record { instance = 0; core = core_func 0 11; options = (record no_options { callback = Some (core_func 0 12); is_async = true }); func_type = func_type [] None })) (Guest (record { by = 1; canon = 7; words = []; told = told.Started; lends = []; result = [] })) (InLoop 18) ∷ record (new_task (Func (record { instance = 0; core = core_func 0 10; options = asynchronous; func_type = func_type [] None })) (Host 2 []) (AfterCall 4 2 [])) { stacks = (Running (record { instance = 0; results = 0; locals = []; values = []; rest = (Plain Drop (number 2 (number 1 (Plain (instr.Call 1) (number 2 (Plain (instr.Call 3) (Plain Drop (Plain (instr.Call 6) End)))))))); labels = record { arity = 0; under = []; again = None; after = End } ∷ [] }) [] ∷ []) } ∷ new_task (Func (record { instance = 1; core = core_func 1 13; options = (record no_options { callback = Some (core_func 1 14); is_async = true }); func_type = func_type [] None })) (Guest (record { by = 3; canon = 2; words = []; told = told.Starting; lends = []; result = [] })) Acting ∷ [];
  chain = 4 ∷ 3 ∷ [];
  control = Lowers (record { inst = 1; memory = None; realloc = None; acts_for = 4; blame = 4; next = Starts }) (Gives []);
  units = 8;
  taken = 2;
}

piece7 : next g s w6 ≡ Steps (line.Enter 4 ∷ []) w7
unfolding the_rules
piece7 =
    ap (entering g w6) (none_passed 0 4 true None [] [] (in_state 4 Acting (with_control Free w6)) refl)
    ∙ ap (λ (p : Plan). Steps (line.Enter 4 ∷ []) (planned p w7)) (none_planned (entries_by (defines g 1)) None)

abbrev w8 : World
w8 = record w0 {
  insts = record { table = (Add 2 (OfSubtask 4) ∷ Add 1 (OfSet 0) ∷ []); sets = ((2 ∷ []) ∷ []); backpressure = 0 } ∷ record { table = (Add 1 (OfSubtask 2) ∷ []); sets = []; backpressure = 0 } ∷ [];
  tasks = new_task Init Nobody Exited ∷ record (new_task (Func (record { instance = 1; core = core_func 1 15; options = no_options; func_type = func_type [] None })) (Host 1 []) Exited) { resolution = Some Returned } ∷ new_task (Func (record { instance = 0; core = core_func 0 11; options = (record no_options { callback = Some (core_func 0 12); is_async = true }); func_type = func_type [] None })) (Guest (record { by = 1; canon = 7; words = []; told = told.Started; lends = []; result = [] })) (InLoop 18) ∷ record (new_task (Func (record { instance = 0; core = core_func 0 10; options = asynchronous; func_type = func_type [] None })) (Host 2 []) (AfterCancel 4 3 (2 ∷ []))) { stacks = (Running (record { instance = 0; results = 0; locals = []; values = []; rest = (Plain Drop (Plain (instr.Call 6) End)); labels = record { arity = 0; under = []; again = None; after = End } ∷ [] }) [] ∷ []) } ∷ record (new_task (Func (record { instance = 1; core = core_func 1 13; options = (record no_options { callback = Some (core_func 1 14); is_async = true }); func_type = func_type [] None })) (Guest (record { by = 3; canon = 2; words = []; told = told.Started; lends = []; result = [] })) Acting) { stacks = (Running (record { instance = 1; results = 1; locals = (6 ∷ 0 ∷ 0 ∷ []); values = []; rest = (Plain (instr.Call 9) (number 1 (Plain (instr.Call 8) (Plain Drop (number 0 End))))); labels = record { arity = 1; under = []; again = None; after = End } ∷ [] }) [] ∷ []); cancellation = Delivered } ∷ [];
  chain = 4 ∷ 3 ∷ [];
  control = Runs;
  units = 16;
  taken = 2;
}

piece8 : far 15 g s w7 ≡ ((line.Block 4 reason.Yield ∷ line.Got 3 (33 ∷ []) ∷ line.Do 3 builtin.WaitableJoin (2 ∷ 1 ∷ []) ∷ line.Got 3 [] ∷ line.Do 3 builtin.SubtaskCancel (2 ∷ []) ∷ line.Go 4 ∷ line.Event 4 6 0 0 ∷ []), w8)
unfolding the_rules
piece8 = refl

abbrev w9 : World
w9 = record w0 {
  store = record w0.store { memories = record { bytes = (2 ∷ 0 ∷ 0 ∷ 0 ∷ 2 ∷ 0 ∷ 0 ∷ 0 ∷ []); maximum = None } ∷ record { bytes = []; maximum = None } ∷ [] };
  insts = record { table = (Add 2 (OfSubtask 4) ∷ Add 1 (OfSet 0) ∷ []); sets = ((2 ∷ []) ∷ []); backpressure = 0 } ∷ record { table = (Add 1 (OfSubtask 2) ∷ []); sets = []; backpressure = 0 } ∷ [];
  tasks = new_task Init Nobody Exited ∷ record (new_task (Func (record { instance = 1; core = core_func 1 15; options = no_options; func_type = func_type [] None })) (Host 1 []) Exited) { resolution = Some Returned } ∷ record (new_task (Func (record { instance = 0; core = core_func 0 11; options = (record no_options { callback = Some (core_func 0 12); is_async = true }); func_type = func_type [] None })) (Guest (record { by = 1; canon = 7; words = []; told = told.Started; lends = []; result = [] })) Acting) { stacks = (Running (record { instance = 0; results = 1; locals = (6 ∷ 0 ∷ 0 ∷ []); values = (1 ∷ []); rest = (Plain Drop (Plain (instr.Call 5) (number 0 End))); labels = record { arity = 1; under = []; again = None; after = End } ∷ [] }) [] ∷ []); cancellation = Delivered } ∷ record (new_task (Func (record { instance = 0; core = core_func 0 10; options = asynchronous; func_type = func_type [] None })) (Host 2 []) (AfterCancel 4 3 (2 ∷ []))) { stacks = (Running (record { instance = 0; results = 0; locals = []; values = []; rest = (Plain Drop (Plain (instr.Call 6) End)); labels = record { arity = 0; under = []; again = None; after = End } ∷ [] }) [] ∷ []) } ∷ record (new_task (Func (record { instance = 1; core = core_func 1 13; options = (record no_options { callback = Some (core_func 1 14); is_async = true }); func_type = func_type [] None })) (Guest (record { by = 3; canon = 2; words = []; told = told.Returned; lends = []; result = [] })) (AfterCancel 2 8 (1 ∷ []))) { stacks = (Running (record { instance = 1; results = 1; locals = (6 ∷ 0 ∷ 0 ∷ []); values = []; rest = (Plain Drop (number 0 End)); labels = record { arity = 1; under = []; again = None; after = End } ∷ [] }) [] ∷ []); resolution = Some Returned; cancellation = Delivered } ∷ [];
  chain = 2 ∷ 4 ∷ 3 ∷ [];
  control = Runs;
  units = 23;
  taken = 2;
}

piece9 : far 12 g s w8 ≡ ((line.Do 4 builtin.TaskReturn [] ∷ line.Return 4 None ∷ line.Got 4 [] ∷ line.Do 4 builtin.SubtaskCancel (1 ∷ []) ∷ line.Go 2 ∷ line.Event 2 6 0 0 ∷ line.Do 2 builtin.WaitableSetPoll (1 ∷ 0 ∷ []) ∷ line.Event 2 1 2 2 ∷ line.Got 2 (1 ∷ []) ∷ []), w9)
unfolding the_rules
piece9 = refl

abbrev w10 : World
w10 = record w0 {
  store = record w0.store { memories = record { bytes = (2 ∷ 0 ∷ 0 ∷ 0 ∷ 2 ∷ 0 ∷ 0 ∷ 0 ∷ []); maximum = None } ∷ record { bytes = []; maximum = None } ∷ [] };
  insts = record { table = (Add 2 (OfSubtask 4) ∷ Add 1 (OfSet 0) ∷ []); sets = ((2 ∷ []) ∷ []); backpressure = 0 } ∷ record { table = (Add 1 (OfSubtask 2) ∷ []); sets = []; backpressure = 0 } ∷ [];
  tasks = new_task Init Nobody Exited ∷ record (new_task (Func (record { instance = 1; core = core_func 1 15; options = no_options; func_type = func_type [] None })) (Host 1 []) Exited) { resolution = Some Returned } ∷ record (new_task (Func (record { instance = 0; core = core_func 0 11; options = (record no_options { callback = Some (core_func 0 12); is_async = true }); func_type = func_type [] None })) (Guest (record { by = 1; canon = 7; words = []; told = told.CancelledBeforeReturned; lends = []; result = [] })) Exited) { resolution = Some Cancelled; cancellation = Delivered } ∷ record (new_task (Func (record { instance = 0; core = core_func 0 10; options = asynchronous; func_type = func_type [] None })) (Host 2 []) Acting) { stacks = (Running (record { instance = 0; results = 0; locals = []; values = (2 ∷ []); rest = (Plain Drop (Plain (instr.Call 6) End)); labels = record { arity = 0; under = []; again = None; after = End } ∷ [] }) [] ∷ []) } ∷ record (new_task (Func (record { instance = 1; core = core_func 1 13; options = (record no_options { callback = Some (core_func 1 14); is_async = true }); func_type = func_type [] None })) (Guest (record { by = 3; canon = 2; words = []; told = told.Returned; lends = []; result = [] })) Exited) { resolution = Some Returned; cancellation = Delivered } ∷ [];
  chain = 3 ∷ [];
  control = Runs;
  units = 28;
  taken = 2;
}

piece10 : far 14 g s w9 ≡ ((line.Do 2 builtin.TaskCancel [] ∷ line.Cancelled 2 ∷ line.Got 2 [] ∷ line.Exit 2 ∷ line.Got 4 (4 ∷ []) ∷ line.Exit 4 ∷ line.Got 3 (2 ∷ []) ∷ []), w10)
unfolding the_rules
piece10 = refl

abbrev w11 : World
w11 = record w0 {
  store = record w0.store { memories = record { bytes = (2 ∷ 0 ∷ 0 ∷ 0 ∷ 2 ∷ 0 ∷ 0 ∷ 0 ∷ []); maximum = None } ∷ record { bytes = []; maximum = None } ∷ [] };
  insts = record { table = (Add 2 (OfSubtask 4) ∷ Add 1 (OfSet 0) ∷ []); sets = ((2 ∷ []) ∷ []); backpressure = 0 } ∷ record { table = (Add 1 (OfSubtask 2) ∷ []); sets = []; backpressure = 0 } ∷ [];
  tasks = new_task Init Nobody Exited ∷ record (new_task (Func (record { instance = 1; core = core_func 1 15; options = no_options; func_type = func_type [] None })) (Host 1 []) Exited) { resolution = Some Returned } ∷ record (new_task (Func (record { instance = 0; core = core_func 0 11; options = (record no_options { callback = Some (core_func 0 12); is_async = true }); func_type = func_type [] None })) (Guest (record { by = 1; canon = 7; words = []; told = told.CancelledBeforeReturned; lends = []; result = [] })) Exited) { resolution = Some Cancelled; cancellation = Delivered } ∷ record (new_task (Func (record { instance = 0; core = core_func 0 10; options = asynchronous; func_type = func_type [] None })) (Host 2 []) Exited) { resolution = Some Returned } ∷ record (new_task (Func (record { instance = 1; core = core_func 1 13; options = (record no_options { callback = Some (core_func 1 14); is_async = true }); func_type = func_type [] None })) (Guest (record { by = 3; canon = 2; words = []; told = told.Returned; lends = []; result = [] })) Exited) { resolution = Some Returned; cancellation = Delivered } ∷ [];
  units = 30;
  taken = 2;
}

piece11 : far 6 g s w10 ≡ ((line.Do 3 builtin.TaskReturn [] ∷ line.Return 3 None ∷ line.Got 3 [] ∷ line.Exit 3 ∷ []), w11)
unfolding the_rules
piece11 = refl

pub retold_shown : Shows retold both_called retold_world told_twice Done 30
unfolding the_rules
retold_shown =
    shows g s w0 w11 _ Done 30
    (goes_on g s w0 w1 w11 _ _ (walked 2 g s w0 w1 _ piece1)
    (goes_on g s w1 w2 w11 _ _ (walked 3 g s w1 w2 _ piece2)
    (goes_on g s w2 w3 w11 _ _ (stepped g s w2 w3 _ piece3)
    (goes_on g s w3 w4 w11 _ _ (walked 12 g s w3 w4 _ piece4)
    (goes_on g s w4 w5 w11 _ _ (walked 2 g s w4 w5 _ piece5)
    (goes_on g s w5 w6 w11 _ _ (walked 3 g s w5 w6 _ piece6)
    (goes_on g s w6 w7 w11 _ _ (stepped g s w6 w7 _ piece7)
    (goes_on g s w7 w8 w11 _ _ (walked 15 g s w7 w8 _ piece8)
    (goes_on g s w8 w9 w11 _ _ (walked 12 g s w8 w9 _ piece9)
    (goes_on g s w9 w10 w11 _ _ (walked 14 g s w9 w10 _ piece10)
    (walked 6 g s w10 w11 _ piece11))))))))))) refl refl
