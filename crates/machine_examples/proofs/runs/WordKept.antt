-- The realloc of a copy runs for the task that reads, which keeps the word that it set.
use Rattle.std.proofs.Common.{◌≡◌, ◌∙◌, true, false, [], ◌∷◌, ◌++◌, Bool, List, length, ◌+◌, ◌*◌, Some, None, refl, ap}
use Rattle.std.specs.Prelude.{nat_lt}
use Rattle.syntax_trees.specs.declared.instr.Instr.TheVariants.{Drop}
use Rattle.syntax_trees.specs.declared.instr.Instr.TheVariants as instr
use Rattle.syntax_trees.specs.Expr.{End, Plain}
use Rattle.wasm_store.specs.Stack.{Running}
use Rattle.syntax_trees.specs.declared.core_type.CoreType.{CoreType}
use Rattle.syntax_trees.specs.declared.types.ValType.TheOpen as F
use Rattle.syntax_trees.specs.declared.types.ValType.TheVariants as leaves
use Rattle.syntax_trees.specs.declared.types.ValType.TheViews as types
use Rattle.syntax_trees.specs.declared.value.Value.TheOpen as V
use Rattle.syntax_trees.specs.declared.value.Value.TheVariants as plain
use Rattle.laid_types.specs.Layout.{Laid}
use Rattle.handle_table.specs.History.{Add, Remove}
use Rattle.tasks.specs.declared.phase.Resolution.TheVariants.{Returned}
use Rattle.tasks.specs.declared.subtask_state.SubtaskState.TheVariants as told
use Rattle.builtin_kinds.specs.declared.EndKind.TheVariants.{Stream}
use Rattle.stream_ends.specs.declared.side.Side.TheVariants.{Reader, Writer}
use Rattle.stream_ends.specs.declared.open_copy.By.TheVariants as by
use Rattle.stream_ends.specs.declared.open_copy.CopyEvent.TheVariants as copy_event
use Rattle.stream_ends.specs.declared.open_copy.CopyResult.TheVariants as copy_result
use Rattle.res_handles.specs.Ends.{end_of}
use Rattle.comp_graph.specs.Needs.{flat_param_limit}
use Rattle.comp_graph.specs.Graph.{Graph, no_options}
use Rattle.script_reader.specs.Script.{Script}
use Rattle.trace_labels.specs.declared.builtin.Builtin.TheVariants as builtin
use Rattle.trace_labels.specs.declared.label.BlockReason.TheVariants as reason
use Rattle.trace_labels.specs.declared.label.Channel.TheVariants as channel
use Rattle.trace_labels.specs.declared.label.Copied.TheVariants.{Values}
use Rattle.trace_labels.specs.declared.label.Label.TheVariants as line
use Rattle.abi_machine.specs.declared.run_end.RunEnd.TheVariants.{Done}
use Rattle.abi_machine.specs.LiftingOver.{Part, part_step}
use Rattle.abi_machine.specs.LoweringOver.{Plan, Gives, Lowered, lowered, lower_step, field_words}
use Rattle.abi_machine.specs.Control.{Free, Calls, Arrives, Lowers, Back, Starts, Transfers}
use Rattle.abi_machine.specs.World.{OfSubtask, OfEnd, Init, Func, Nobody, Host, Guest, ForCopy, New, Acting, AfterCall, InBuiltin, Exited, World, new_inst, new_task}
use Rattle.abi_machine.specs.Edits.{with_control, in_state}
use Rattle.abi_machine.specs.Canons.{bytes_of, defines}
use Rattle.abi_machine.specs.Finding.{typed_end}
use Rattle.abi_machine.specs.Turn.{Steps, behind}
use Rattle.abi_machine.specs.Lifting.{Kept, Stopped, by_world}
use Rattle.abi_machine.specs.Passing.{elements_lifted, elements_plan}
use Rattle.abi_machine.specs.Pausing.{entries_by}
use Rattle.abi_machine.specs.replies.Streams.{end_ref}
use Rattle.abi_machine.specs.Next.{next}
use Rattle.abi_machine.specs.examples.Parts.{func_type, number, core_at, core_func, asynchronous, one_call, Shows}
use Rattle.machine_examples.specs.Passing.{talking, talking_world, sets_word, word_kept}
use Rattle.abi_machine.proofs.Rules.{the_rules}
use Rattle.abi_machine.proofs.Walks.{far, walked, stepped, goes_on, shows, planned}
use Rattle.abi_machine.proofs.Layers.{stream_flat, string_laid, string_integer, string_same, string_part, stream_part, string_lowered, stream_lowered}
use Rattle.abi_machine.proofs.Passed.{one_passed, end_passed, elements_by, one_planned, elements_planned, sized_from}
use Rattle.abi_machine.proofs.Texts.{texts_lifted}
use Rattle.abi_machine.proofs.Copies.{entering, the_channel, the_canon, copies_as, moving}

abbrev g : Graph
g = talking

abbrev s : Script
s = one_call

abbrev w0 : World
w0 = (talking_world sets_word)

abbrev w1 : World
w1 = record w0 {
  insts = record { table = (Add 2 (OfEnd (end_ref Stream 1 Writer)) ∷ Add 1 (OfEnd (end_ref Stream 1 Reader)) ∷ []); sets = []; backpressure = 0 } ∷ new_inst ∷ [];
  tasks = new_task Init Nobody Exited ∷ record (new_task (Func (record { instance = 0; core = (core_func 0 0); options = no_options; func_type = func_type [] None })) (Host 1 []) (AfterCall 2 1 (1 ∷ []))) { stacks = ((Running (record { instance = 0; results = 0; locals = []; values = []; rest = (Plain Drop (number 2 (number 16 (number 2 (Plain (instr.Call 2) (Plain Drop End)))))); labels = record { arity = 0; under = []; again = None; after = End } ∷ [] }) []) ∷ []) } ∷ new_task (Func (record { instance = 1; core = (core_func 1 7); options = asynchronous; func_type = func_type ((types.Stream (Some leaves.String)) ∷ []) None })) (Guest (record { by = 1; canon = 1; words = (1 ∷ []); told = told.Starting; lends = []; result = [] })) New ∷ [];
  streams = record { element = Some leaves.String; written = []; read = []; ends = record { view = record { reader = record { dropped = false; done = false; copy = None }; writer = record { dropped = false; done = false; copy = None } }; reader_closed = []; writer_closed = [] } } ∷ [];
  chain = 2 ∷ 1 ∷ [];
  control = Arrives;
  units = 4;
}

piece1 : far 6 g s w0 ≡ ((line.Do 1 builtin.StreamNew [] ∷ line.Got 1 (8589934593 ∷ []) ∷ line.Do 1 builtin.Lower (1 ∷ []) ∷ line.Call 1 2 2 ∷ []), w1)
unfolding the_rules
piece1 = refl

abbrev w2 : World
w2 = record w0 {
  insts = record { table = (Remove 1 ∷ Add 2 (OfEnd (end_ref Stream 1 Writer)) ∷ Add 1 (OfEnd (end_ref Stream 1 Reader)) ∷ []); sets = []; backpressure = 0 } ∷ new_inst ∷ [];
  tasks = new_task Init Nobody Exited ∷ record (new_task (Func (record { instance = 0; core = (core_func 0 0); options = no_options; func_type = func_type [] None })) (Host 1 []) (AfterCall 2 1 (1 ∷ []))) { stacks = ((Running (record { instance = 0; results = 0; locals = []; values = []; rest = (Plain Drop (number 2 (number 16 (number 2 (Plain (instr.Call 2) (Plain Drop End)))))); labels = record { arity = 0; under = []; again = None; after = End } ∷ [] }) []) ∷ []) } ∷ new_task (Func (record { instance = 1; core = (core_func 1 7); options = asynchronous; func_type = func_type ((types.Stream (Some leaves.String)) ∷ []) None })) (Guest (record { by = 1; canon = 1; words = (1 ∷ []); told = told.Starting; lends = []; result = [] })) Acting ∷ [];
  streams = record { element = Some leaves.String; written = []; read = []; ends = record { view = record { reader = record { dropped = false; done = false; copy = None }; writer = record { dropped = false; done = false; copy = None } }; reader_closed = []; writer_closed = [] } } ∷ [];
  chain = 2 ∷ 1 ∷ [];
  control = Lowers (record { inst = 1; memory = None; realloc = None; acts_for = 2; blame = 2; next = Starts }) (field_words (Some (types.Stream (Some leaves.String)) ∷ []) ((lower_step (entries_by (defines g 1)) (V.Stream 1)) ∷ []) [] (λ words. Gives words));
  units = 4;
}

piece2 : next g s w1 ≡ Steps (line.Enter 2 ∷ []) w2
unfolding the_rules
piece2 =
    ap (entering g w1) (one_passed 0 2 true (types.Stream (Some leaves.String)) (F.Stream (Some (part_step (by_world 0 2) F.String))) None [] (1 ∷ []) (in_state 2 Acting (with_control Free w1)) refl (stream_flat (Some leaves.String)) (stream_part (by_world 0 2) leaves.String ∙ ap (λ (p : Part Kept Stopped). part_step (by_world 0 2) (F.Stream (Some p))) (string_part (by_world 0 2))))
    ∙ ap (λ (b : Bool). entering g w1 (end_passed 0 plain.Stream 1 (in_state 2 Acting (with_control Free w1)) (end_of b (record { number = 1; is_idle = true })))) string_same
    ∙ ap (λ (p : Plan). Steps (line.Enter 2 ∷ []) (planned p w2)) (one_planned (entries_by (defines g 1)) (types.Stream (Some leaves.String)) None (plain.Stream 1) (lower_step (entries_by (defines g 1)) (V.Stream 1)) (ap (λ (c : List CoreType). nat_lt flat_param_limit (length (c ++ []))) (stream_flat (Some leaves.String))) (stream_lowered (entries_by (defines g 1)) 1))

abbrev w3 : World
w3 = record w0 {
  insts = record { table = (Remove 1 ∷ Add 2 (OfEnd (end_ref Stream 1 Writer)) ∷ Add 1 (OfEnd (end_ref Stream 1 Reader)) ∷ []); sets = []; backpressure = 0 } ∷ record { table = (Add 1 (OfEnd (end_ref Stream 1 Reader)) ∷ []); sets = []; backpressure = 0 } ∷ [];
  tasks = new_task Init Nobody Exited ∷ record (new_task (Func (record { instance = 0; core = (core_func 0 0); options = no_options; func_type = func_type [] None })) (Host 1 []) (AfterCall 2 1 (1 ∷ []))) { stacks = ((Running (record { instance = 0; results = 0; locals = []; values = []; rest = (Plain Drop (number 2 (number 16 (number 2 (Plain (instr.Call 2) (Plain Drop End)))))); labels = record { arity = 0; under = []; again = None; after = End } ∷ [] }) []) ∷ []) } ∷ record (new_task (Func (record { instance = 1; core = (core_func 1 7); options = asynchronous; func_type = func_type ((types.Stream (Some leaves.String)) ∷ []) None })) (Guest (record { by = 1; canon = 1; words = (1 ∷ []); told = told.Starting; lends = []; result = [] })) Acting) { stacks = ((Running (record { instance = 1; results = 0; locals = (1 ∷ []); values = []; rest = (Plain Drop (Plain (instr.Call 6) (Plain Drop (Plain (instr.Call 4) End)))); labels = record { arity = 0; under = []; again = None; after = End } ∷ [] }) []) ∷ []) } ∷ [];
  streams = record { element = Some leaves.String; written = []; read = []; ends = record { view = record { reader = record { dropped = false; done = false; copy = None }; writer = record { dropped = false; done = false; copy = None } }; reader_closed = []; writer_closed = [] } } ∷ [];
  chain = 2 ∷ 1 ∷ [];
  control = Calls 3 (1 ∷ 0 ∷ 2 ∷ []);
  units = 8;
}

piece3 : far 5 g s w2 ≡ ([], w3)
unfolding the_rules
piece3 = refl

abbrev w4 : World
w4 = record w0 {
  insts = record { table = (Remove 1 ∷ Add 2 (OfEnd (end_ref Stream 1 Writer)) ∷ Add 1 (OfEnd (end_ref Stream 1 Reader)) ∷ []); sets = []; backpressure = 0 } ∷ record { table = (Add 1 (OfEnd (end_ref Stream 1 Reader)) ∷ []); sets = []; backpressure = 0 } ∷ [];
  tasks = new_task Init Nobody Exited ∷ record (new_task (Func (record { instance = 0; core = (core_func 0 0); options = no_options; func_type = func_type [] None })) (Host 1 []) (AfterCall 2 1 (1 ∷ []))) { stacks = ((Running (record { instance = 0; results = 0; locals = []; values = []; rest = (Plain Drop (number 2 (number 16 (number 2 (Plain (instr.Call 2) (Plain Drop End)))))); labels = record { arity = 0; under = []; again = None; after = End } ∷ [] }) []) ∷ []) } ∷ record (new_task (Func (record { instance = 1; core = (core_func 1 7); options = asynchronous; func_type = func_type ((types.Stream (Some leaves.String)) ∷ []) None })) (Guest (record { by = 1; canon = 1; words = (1 ∷ []); told = told.Starting; lends = []; result = [] })) (InBuiltin 3 (1 ∷ 0 ∷ 2 ∷ []) (ForCopy 1))) { stacks = ((Running (record { instance = 1; results = 0; locals = (1 ∷ []); values = []; rest = (Plain Drop (Plain (instr.Call 6) (Plain Drop (Plain (instr.Call 4) End)))); labels = record { arity = 0; under = []; again = None; after = End } ∷ [] }) []) ∷ []) } ∷ [];
  streams = record { element = Some leaves.String; written = []; read = []; ends = record { view = record { reader = record { dropped = false; done = false; copy = Some (record { by = by.Task 2; canon = 3; place = 0; length = 2; copied = 0; event = None; standing = true }) }; writer = record { dropped = false; done = false; copy = None } }; reader_closed = []; writer_closed = [] } } ∷ [];
  control = Back;
  units = 8;
}

piece4 : next g s w3 ≡ Steps (line.Do 2 builtin.StreamRead (1 ∷ 0 ∷ 2 ∷ []) ∷ line.Block 2 (reason.Copy 1) ∷ []) w4
unfolding the_rules
piece4 =
    ap (behind (line.Do 2 builtin.StreamRead (1 ∷ 0 ∷ 2 ∷ []) ∷ [])) (copies_as g 2 1 3 Stream Reader leaves.String (record no_options { memory = Some (core_at 1 0); realloc = Some (core_func 1 8) }) (1 ∷ 0 ∷ 2 ∷ []) 2 (with_control Free w3) (end_ref Stream 1 Reader) (the_channel w3 (end_ref Stream 1 Reader)) (record { size = 8; align = 4 }) false (ap (λ (b : Bool). typed_end b (end_ref Stream 1 Reader)) string_same) refl refl string_laid string_integer)

abbrev w5 : World
w5 = record w0 {
  insts = record { table = (Add 1 (OfSubtask 2) ∷ Remove 1 ∷ Add 2 (OfEnd (end_ref Stream 1 Writer)) ∷ Add 1 (OfEnd (end_ref Stream 1 Reader)) ∷ []); sets = []; backpressure = 0 } ∷ record { table = (Add 1 (OfEnd (end_ref Stream 1 Reader)) ∷ []); sets = []; backpressure = 0 } ∷ [];
  tasks = new_task Init Nobody Exited ∷ record (new_task (Func (record { instance = 0; core = (core_func 0 0); options = no_options; func_type = func_type [] None })) (Host 1 []) Acting) { stacks = ((Running (record { instance = 0; results = 0; locals = []; values = []; rest = (Plain Drop End); labels = record { arity = 0; under = []; again = None; after = End } ∷ [] }) []) ∷ []) } ∷ record (new_task (Func (record { instance = 1; core = (core_func 1 7); options = asynchronous; func_type = func_type ((types.Stream (Some leaves.String)) ∷ []) None })) (Guest (record { by = 1; canon = 1; words = (1 ∷ []); told = told.Started; lends = []; result = [] })) (InBuiltin 3 (1 ∷ 0 ∷ 2 ∷ []) (ForCopy 1))) { stacks = ((Running (record { instance = 1; results = 0; locals = (1 ∷ []); values = []; rest = (Plain Drop (Plain (instr.Call 6) (Plain Drop (Plain (instr.Call 4) End)))); labels = record { arity = 0; under = []; again = None; after = End } ∷ [] }) []) ∷ []) } ∷ [];
  streams = record { element = Some leaves.String; written = []; read = []; ends = record { view = record { reader = record { dropped = false; done = false; copy = Some (record { by = by.Task 2; canon = 3; place = 0; length = 2; copied = 0; event = None; standing = true }) }; writer = record { dropped = false; done = false; copy = None } }; reader_closed = []; writer_closed = [] } } ∷ [];
  control = Calls 2 (2 ∷ 16 ∷ 2 ∷ []);
  units = 13;
}

piece5 : far 6 g s w4 ≡ ((line.Got 1 (17 ∷ []) ∷ []), w5)
unfolding the_rules
piece5 = refl

abbrev w6 : World
w6 = record w0 {
  insts = record { table = (Add 1 (OfSubtask 2) ∷ Remove 1 ∷ Add 2 (OfEnd (end_ref Stream 1 Writer)) ∷ Add 1 (OfEnd (end_ref Stream 1 Reader)) ∷ []); sets = []; backpressure = 0 } ∷ record { table = (Add 1 (OfEnd (end_ref Stream 1 Reader)) ∷ []); sets = []; backpressure = 0 } ∷ [];
  tasks = new_task Init Nobody Exited ∷ record (new_task (Func (record { instance = 0; core = (core_func 0 0); options = no_options; func_type = func_type [] None })) (Host 1 []) Acting) { stacks = ((Running (record { instance = 0; results = 0; locals = []; values = []; rest = (Plain Drop End); labels = record { arity = 0; under = []; again = None; after = End } ∷ [] }) []) ∷ []) } ∷ record (new_task (Func (record { instance = 1; core = (core_func 1 7); options = asynchronous; func_type = func_type ((types.Stream (Some leaves.String)) ∷ []) None })) (Guest (record { by = 1; canon = 1; words = (1 ∷ []); told = told.Started; lends = []; result = [] })) (InBuiltin 3 (1 ∷ 0 ∷ 2 ∷ []) (ForCopy 1))) { stacks = ((Running (record { instance = 1; results = 0; locals = (1 ∷ []); values = []; rest = (Plain Drop (Plain (instr.Call 6) (Plain Drop (Plain (instr.Call 4) End)))); labels = record { arity = 0; under = []; again = None; after = End } ∷ [] }) []) ∷ []) } ∷ [];
  streams = record { element = Some leaves.String; written = []; read = []; ends = record { view = record { reader = record { dropped = false; done = false; copy = Some (record { by = by.Task 2; canon = 3; place = 0; length = 2; copied = 0; event = None; standing = true }) }; writer = record { dropped = false; done = false; copy = None } }; reader_closed = []; writer_closed = [] } } ∷ [];
  control = Lowers (record { inst = 1; memory = Some 1; realloc = Some 8; acts_for = 2; blame = 1; next = Transfers (record { end = end_ref Stream 1 Writer; length = 2; values = ((Some (plain.String (97 ∷ 98 ∷ []))) ∷ (Some (plain.String (99 ∷ 100 ∷ []))) ∷ []) }) }) (sized_from 8 leaves.String 0 ((lower_step (entries_by (defines g 1)) (V.String (97 ∷ 98 ∷ []))) ∷ (lower_step (entries_by (defines g 1)) (V.String (99 ∷ 100 ∷ []))) ∷ []) (Gives []));
  units = 13;
}

piece6 : next g s w5 ≡ Steps (line.Do 1 builtin.StreamWrite (2 ∷ 16 ∷ 2 ∷ []) ∷ []) w6
unfolding the_rules
piece6 =
    ap (behind (line.Do 1 builtin.StreamWrite (2 ∷ 16 ∷ 2 ∷ []) ∷ [])) (copies_as g 1 0 2 Stream Writer leaves.String (record no_options { memory = Some (core_at 0 0); is_async = true }) (2 ∷ 16 ∷ 2 ∷ []) 2 (with_control Free w5) (end_ref Stream 1 Writer) (the_channel w5 (end_ref Stream 1 Writer)) (record { size = 8; align = 4 }) false (ap (λ (b : Bool). typed_end b (end_ref Stream 1 Writer)) string_same) refl refl string_laid string_integer)
    ∙ ap (λ (l : Laid). moving g 1 (line.Do 1 builtin.StreamWrite (2 ∷ 16 ∷ 2 ∷ []) ∷ []) (end_ref Stream 1 Writer) 2 (record { by = by.Task 2; canon = 3; place = 0; length = 2; copied = 0; event = None; standing = true }) (the_canon g 3) leaves.String (elements_lifted 0 1 leaves.String (bytes_of w5.store (Some 0)) (16 + 0 * l.size) 2 (with_control Free w5))) string_laid
    ∙ ap (moving g 1 (line.Do 1 builtin.StreamWrite (2 ∷ 16 ∷ 2 ∷ []) ∷ []) (end_ref Stream 1 Writer) 2 (record { by = by.Task 2; canon = 3; place = 0; length = 2; copied = 0; event = None; standing = true }) (the_canon g 3) leaves.String) (elements_by 0 1 leaves.String (bytes_of w5.store (Some 0)) 16 2 (with_control Free w5) (part_step (by_world 0 1) F.String) (string_part (by_world 0 1)))
    ∙ ap (moving g 1 (line.Do 1 builtin.StreamWrite (2 ∷ 16 ∷ 2 ∷ []) ∷ []) (end_ref Stream 1 Writer) 2 (record { by = by.Task 2; canon = 3; place = 0; length = 2; copied = 0; event = None; standing = true }) (the_canon g 3) leaves.String) (texts_lifted (with_control Free w5))
    ∙ ap (λ (l : Laid). Steps (line.Do 1 builtin.StreamWrite (2 ∷ 16 ∷ 2 ∷ []) ∷ []) (planned (elements_plan (entries_by (defines g 1)) leaves.String ((plain.String (97 ∷ 98 ∷ [])) ∷ (plain.String (99 ∷ 100 ∷ [])) ∷ []) (0 + 0 * l.size)) w6)) string_laid
    ∙ ap (λ (p : Plan). Steps (line.Do 1 builtin.StreamWrite (2 ∷ 16 ∷ 2 ∷ []) ∷ []) (planned p w6)) (elements_planned (entries_by (defines g 1)) leaves.String ((plain.String (97 ∷ 98 ∷ [])) ∷ (plain.String (99 ∷ 100 ∷ [])) ∷ []) 0 ((lower_step (entries_by (defines g 1)) (V.String (97 ∷ 98 ∷ []))) ∷ (lower_step (entries_by (defines g 1)) (V.String (99 ∷ 100 ∷ []))) ∷ []) (record { size = 8; align = 4 }) string_laid (ap (λ (x : Lowered). x ∷ lowered (entries_by (defines g 1)) (plain.String (99 ∷ 100 ∷ [])) ∷ []) (string_lowered (entries_by (defines g 1)) (97 ∷ 98 ∷ [])) ∙ ap (λ (x : Lowered). (lower_step (entries_by (defines g 1)) (V.String (97 ∷ 98 ∷ []))) ∷ x ∷ []) (string_lowered (entries_by (defines g 1)) (99 ∷ 100 ∷ []))))

abbrev w7 : World
w7 = record w0 {
  store = record w0.store { memories = record { bytes = (0 ∷ 0 ∷ 0 ∷ 0 ∷ 0 ∷ 0 ∷ 0 ∷ 0 ∷ 0 ∷ 0 ∷ 0 ∷ 0 ∷ 0 ∷ 0 ∷ 0 ∷ 0 ∷ 32 ∷ 0 ∷ 0 ∷ 0 ∷ 2 ∷ 0 ∷ 0 ∷ 0 ∷ 34 ∷ 0 ∷ 0 ∷ 0 ∷ 2 ∷ 0 ∷ 0 ∷ 0 ∷ 97 ∷ 98 ∷ 99 ∷ 100 ∷ []); maximum = None } ∷ record { bytes = (128 ∷ 0 ∷ 0 ∷ 0 ∷ 2 ∷ 0 ∷ 0 ∷ 0 ∷ 128 ∷ 0 ∷ 0 ∷ 0 ∷ 2 ∷ 0 ∷ 0 ∷ 0 ∷ 0 ∷ 0 ∷ 0 ∷ 0 ∷ 0 ∷ 0 ∷ 0 ∷ 0 ∷ 0 ∷ 0 ∷ 0 ∷ 0 ∷ 0 ∷ 0 ∷ 0 ∷ 0 ∷ 0 ∷ 0 ∷ 0 ∷ 0 ∷ 0 ∷ 0 ∷ 0 ∷ 0 ∷ 0 ∷ 0 ∷ 0 ∷ 0 ∷ 0 ∷ 0 ∷ 0 ∷ 0 ∷ 0 ∷ 0 ∷ 0 ∷ 0 ∷ 0 ∷ 0 ∷ 0 ∷ 0 ∷ 0 ∷ 0 ∷ 0 ∷ 0 ∷ 0 ∷ 0 ∷ 0 ∷ 0 ∷ 0 ∷ 0 ∷ 0 ∷ 0 ∷ 0 ∷ 0 ∷ 0 ∷ 0 ∷ 0 ∷ 0 ∷ 0 ∷ 0 ∷ 0 ∷ 0 ∷ 0 ∷ 0 ∷ 0 ∷ 0 ∷ 0 ∷ 0 ∷ 0 ∷ 0 ∷ 0 ∷ 0 ∷ 0 ∷ 0 ∷ 0 ∷ 0 ∷ 0 ∷ 0 ∷ 0 ∷ 0 ∷ 0 ∷ 0 ∷ 0 ∷ 0 ∷ 0 ∷ 0 ∷ 0 ∷ 0 ∷ 0 ∷ 0 ∷ 0 ∷ 0 ∷ 0 ∷ 0 ∷ 0 ∷ 0 ∷ 0 ∷ 0 ∷ 0 ∷ 0 ∷ 0 ∷ 0 ∷ 0 ∷ 0 ∷ 0 ∷ 0 ∷ 0 ∷ 0 ∷ 0 ∷ 0 ∷ 0 ∷ 0 ∷ 99 ∷ 100 ∷ []); maximum = None } ∷ [] };
  insts = record { table = (Add 1 (OfSubtask 2) ∷ Remove 1 ∷ Add 2 (OfEnd (end_ref Stream 1 Writer)) ∷ Add 1 (OfEnd (end_ref Stream 1 Reader)) ∷ []); sets = []; backpressure = 0 } ∷ record { table = (Add 1 (OfEnd (end_ref Stream 1 Reader)) ∷ []); sets = []; backpressure = 0 } ∷ [];
  tasks = new_task Init Nobody Exited ∷ record (new_task (Func (record { instance = 0; core = (core_func 0 0); options = no_options; func_type = func_type [] None })) (Host 1 []) Acting) { stacks = ((Running (record { instance = 0; results = 0; locals = []; values = (32 ∷ []); rest = (Plain Drop End); labels = record { arity = 0; under = []; again = None; after = End } ∷ [] }) []) ∷ []) } ∷ record (new_task (Func (record { instance = 1; core = (core_func 1 7); options = asynchronous; func_type = func_type ((types.Stream (Some leaves.String)) ∷ []) None })) (Guest (record { by = 1; canon = 1; words = (1 ∷ []); told = told.Started; lends = []; result = [] })) (InBuiltin 3 (1 ∷ 0 ∷ 2 ∷ []) (ForCopy 1))) { stacks = ((Running (record { instance = 1; results = 0; locals = (1 ∷ []); values = []; rest = (Plain Drop (Plain (instr.Call 6) (Plain Drop (Plain (instr.Call 4) End)))); labels = record { arity = 0; under = []; again = None; after = End } ∷ [] }) []) ∷ []); context = (9, 0) } ∷ [];
  streams = record { element = Some leaves.String; written = ((Some (plain.String (97 ∷ 98 ∷ []))) ∷ (Some (plain.String (99 ∷ 100 ∷ []))) ∷ []); read = ((Some (plain.String (97 ∷ 98 ∷ []))) ∷ (Some (plain.String (99 ∷ 100 ∷ []))) ∷ []); ends = record { view = record { reader = record { dropped = false; done = false; copy = Some (record { by = by.Task 2; canon = 3; place = 0; length = 2; copied = 2; event = Some copy_event.Completed; standing = true }) }; writer = record { dropped = false; done = false; copy = None } }; reader_closed = []; writer_closed = (record { length = 2; result = copy_result.Completed; count = 2 } ∷ []) } } ∷ [];
  units = 19;
}

piece7 : far 15 g s w6 ≡ ((line.Do 2 builtin.ContextSet (9 ∷ []) ∷ line.Got 2 [] ∷ line.Do 2 builtin.ContextSet (9 ∷ []) ∷ line.Got 2 [] ∷ line.Copy (channel.Stream 1) (Values (record { values = ((plain.String (97 ∷ 98 ∷ [])) ∷ (plain.String (99 ∷ 100 ∷ [])) ∷ []); val_type = leaves.String })) ∷ line.Got 1 (32 ∷ []) ∷ []), w7)
unfolding the_rules
piece7 = refl

abbrev w8 : World
w8 = record w0 {
  store = record w0.store { memories = record { bytes = (0 ∷ 0 ∷ 0 ∷ 0 ∷ 0 ∷ 0 ∷ 0 ∷ 0 ∷ 0 ∷ 0 ∷ 0 ∷ 0 ∷ 0 ∷ 0 ∷ 0 ∷ 0 ∷ 32 ∷ 0 ∷ 0 ∷ 0 ∷ 2 ∷ 0 ∷ 0 ∷ 0 ∷ 34 ∷ 0 ∷ 0 ∷ 0 ∷ 2 ∷ 0 ∷ 0 ∷ 0 ∷ 97 ∷ 98 ∷ 99 ∷ 100 ∷ []); maximum = None } ∷ record { bytes = (128 ∷ 0 ∷ 0 ∷ 0 ∷ 2 ∷ 0 ∷ 0 ∷ 0 ∷ 128 ∷ 0 ∷ 0 ∷ 0 ∷ 2 ∷ 0 ∷ 0 ∷ 0 ∷ 0 ∷ 0 ∷ 0 ∷ 0 ∷ 0 ∷ 0 ∷ 0 ∷ 0 ∷ 0 ∷ 0 ∷ 0 ∷ 0 ∷ 0 ∷ 0 ∷ 0 ∷ 0 ∷ 0 ∷ 0 ∷ 0 ∷ 0 ∷ 0 ∷ 0 ∷ 0 ∷ 0 ∷ 0 ∷ 0 ∷ 0 ∷ 0 ∷ 0 ∷ 0 ∷ 0 ∷ 0 ∷ 0 ∷ 0 ∷ 0 ∷ 0 ∷ 0 ∷ 0 ∷ 0 ∷ 0 ∷ 0 ∷ 0 ∷ 0 ∷ 0 ∷ 0 ∷ 0 ∷ 0 ∷ 0 ∷ 0 ∷ 0 ∷ 0 ∷ 0 ∷ 0 ∷ 0 ∷ 0 ∷ 0 ∷ 0 ∷ 0 ∷ 0 ∷ 0 ∷ 0 ∷ 0 ∷ 0 ∷ 0 ∷ 0 ∷ 0 ∷ 0 ∷ 0 ∷ 0 ∷ 0 ∷ 0 ∷ 0 ∷ 0 ∷ 0 ∷ 0 ∷ 0 ∷ 0 ∷ 0 ∷ 0 ∷ 0 ∷ 0 ∷ 0 ∷ 0 ∷ 0 ∷ 0 ∷ 0 ∷ 0 ∷ 0 ∷ 0 ∷ 0 ∷ 0 ∷ 0 ∷ 0 ∷ 0 ∷ 0 ∷ 0 ∷ 0 ∷ 0 ∷ 0 ∷ 0 ∷ 0 ∷ 0 ∷ 0 ∷ 0 ∷ 0 ∷ 0 ∷ 0 ∷ 0 ∷ 0 ∷ 0 ∷ 0 ∷ 0 ∷ 99 ∷ 100 ∷ []); maximum = None } ∷ [] };
  insts = record { table = (Add 1 (OfSubtask 2) ∷ Remove 1 ∷ Add 2 (OfEnd (end_ref Stream 1 Writer)) ∷ Add 1 (OfEnd (end_ref Stream 1 Reader)) ∷ []); sets = []; backpressure = 0 } ∷ record { table = (Add 1 (OfEnd (end_ref Stream 1 Reader)) ∷ []); sets = []; backpressure = 0 } ∷ [];
  tasks = new_task Init Nobody Exited ∷ record (new_task (Func (record { instance = 0; core = (core_func 0 0); options = no_options; func_type = func_type [] None })) (Host 1 []) Exited) { resolution = Some Returned } ∷ record (new_task (Func (record { instance = 1; core = (core_func 1 7); options = asynchronous; func_type = func_type ((types.Stream (Some leaves.String)) ∷ []) None })) (Guest (record { by = 1; canon = 1; words = (1 ∷ []); told = told.Started; lends = []; result = [] })) Acting) { stacks = ((Running (record { instance = 1; results = 0; locals = (1 ∷ []); values = []; rest = End; labels = record { arity = 0; under = []; again = None; after = End } ∷ [] }) []) ∷ []); context = (9, 0) } ∷ [];
  streams = record { element = Some leaves.String; written = ((Some (plain.String (97 ∷ 98 ∷ []))) ∷ (Some (plain.String (99 ∷ 100 ∷ []))) ∷ []); read = ((Some (plain.String (97 ∷ 98 ∷ []))) ∷ (Some (plain.String (99 ∷ 100 ∷ []))) ∷ []); ends = record { view = record { reader = record { dropped = false; done = false; copy = None }; writer = record { dropped = false; done = false; copy = None } }; reader_closed = (record { length = 2; result = copy_result.Completed; count = 2 } ∷ []); writer_closed = (record { length = 2; result = copy_result.Completed; count = 2 } ∷ []) } } ∷ [];
  chain = 2 ∷ [];
  control = Calls 4 [];
  units = 25;
}

piece8 : far 11 g s w7 ≡ ((line.Return 1 None ∷ line.Exit 1 ∷ line.Go 2 ∷ line.Got 2 (32 ∷ []) ∷ line.Do 2 builtin.ContextGet [] ∷ line.Got 2 (9 ∷ []) ∷ []), w8)
unfolding the_rules
piece8 = refl

abbrev w9 : World
w9 = record w0 {
  store = record w0.store { memories = record { bytes = (0 ∷ 0 ∷ 0 ∷ 0 ∷ 0 ∷ 0 ∷ 0 ∷ 0 ∷ 0 ∷ 0 ∷ 0 ∷ 0 ∷ 0 ∷ 0 ∷ 0 ∷ 0 ∷ 32 ∷ 0 ∷ 0 ∷ 0 ∷ 2 ∷ 0 ∷ 0 ∷ 0 ∷ 34 ∷ 0 ∷ 0 ∷ 0 ∷ 2 ∷ 0 ∷ 0 ∷ 0 ∷ 97 ∷ 98 ∷ 99 ∷ 100 ∷ []); maximum = None } ∷ record { bytes = (128 ∷ 0 ∷ 0 ∷ 0 ∷ 2 ∷ 0 ∷ 0 ∷ 0 ∷ 128 ∷ 0 ∷ 0 ∷ 0 ∷ 2 ∷ 0 ∷ 0 ∷ 0 ∷ 0 ∷ 0 ∷ 0 ∷ 0 ∷ 0 ∷ 0 ∷ 0 ∷ 0 ∷ 0 ∷ 0 ∷ 0 ∷ 0 ∷ 0 ∷ 0 ∷ 0 ∷ 0 ∷ 0 ∷ 0 ∷ 0 ∷ 0 ∷ 0 ∷ 0 ∷ 0 ∷ 0 ∷ 0 ∷ 0 ∷ 0 ∷ 0 ∷ 0 ∷ 0 ∷ 0 ∷ 0 ∷ 0 ∷ 0 ∷ 0 ∷ 0 ∷ 0 ∷ 0 ∷ 0 ∷ 0 ∷ 0 ∷ 0 ∷ 0 ∷ 0 ∷ 0 ∷ 0 ∷ 0 ∷ 0 ∷ 0 ∷ 0 ∷ 0 ∷ 0 ∷ 0 ∷ 0 ∷ 0 ∷ 0 ∷ 0 ∷ 0 ∷ 0 ∷ 0 ∷ 0 ∷ 0 ∷ 0 ∷ 0 ∷ 0 ∷ 0 ∷ 0 ∷ 0 ∷ 0 ∷ 0 ∷ 0 ∷ 0 ∷ 0 ∷ 0 ∷ 0 ∷ 0 ∷ 0 ∷ 0 ∷ 0 ∷ 0 ∷ 0 ∷ 0 ∷ 0 ∷ 0 ∷ 0 ∷ 0 ∷ 0 ∷ 0 ∷ 0 ∷ 0 ∷ 0 ∷ 0 ∷ 0 ∷ 0 ∷ 0 ∷ 0 ∷ 0 ∷ 0 ∷ 0 ∷ 0 ∷ 0 ∷ 0 ∷ 0 ∷ 0 ∷ 0 ∷ 0 ∷ 0 ∷ 0 ∷ 0 ∷ 0 ∷ 0 ∷ 0 ∷ 99 ∷ 100 ∷ []); maximum = None } ∷ [] };
  insts = record { table = (Add 1 (OfSubtask 2) ∷ Remove 1 ∷ Add 2 (OfEnd (end_ref Stream 1 Writer)) ∷ Add 1 (OfEnd (end_ref Stream 1 Reader)) ∷ []); sets = []; backpressure = 0 } ∷ record { table = (Add 1 (OfEnd (end_ref Stream 1 Reader)) ∷ []); sets = []; backpressure = 0 } ∷ [];
  tasks = new_task Init Nobody Exited ∷ record (new_task (Func (record { instance = 0; core = (core_func 0 0); options = no_options; func_type = func_type [] None })) (Host 1 []) Exited) { resolution = Some Returned } ∷ record (new_task (Func (record { instance = 1; core = (core_func 1 7); options = asynchronous; func_type = func_type ((types.Stream (Some leaves.String)) ∷ []) None })) (Guest (record { by = 1; canon = 1; words = (1 ∷ []); told = told.Started; lends = []; result = [] })) Exited) { context = (9, 0); resolution = Some Returned } ∷ [];
  streams = record { element = Some leaves.String; written = ((Some (plain.String (97 ∷ 98 ∷ []))) ∷ (Some (plain.String (99 ∷ 100 ∷ []))) ∷ []); read = ((Some (plain.String (97 ∷ 98 ∷ []))) ∷ (Some (plain.String (99 ∷ 100 ∷ []))) ∷ []); ends = record { view = record { reader = record { dropped = false; done = false; copy = None }; writer = record { dropped = false; done = false; copy = None } }; reader_closed = (record { length = 2; result = copy_result.Completed; count = 2 } ∷ []); writer_closed = (record { length = 2; result = copy_result.Completed; count = 2 } ∷ []) } } ∷ [];
  chain = [];
  control = Free;
  units = 25;
}

piece9 : far 4 g s w8 ≡ ((line.Do 2 builtin.TaskReturn [] ∷ line.Return 2 None ∷ line.Got 2 [] ∷ line.Exit 2 ∷ []), w9)
unfolding the_rules
piece9 = refl

pub word_kept_shown : Shows talking one_call (talking_world sets_word) word_kept Done 25
unfolding the_rules
word_kept_shown =
    shows g s w0 w9 _ Done 25
    (goes_on g s w0 w1 w9 _ _ (walked 6 g s w0 w1 _ piece1)
    (goes_on g s w1 w2 w9 _ _ (stepped g s w1 w2 _ piece2)
    (goes_on g s w2 w3 w9 _ _ (walked 5 g s w2 w3 _ piece3)
    (goes_on g s w3 w4 w9 _ _ (stepped g s w3 w4 _ piece4)
    (goes_on g s w4 w5 w9 _ _ (walked 6 g s w4 w5 _ piece5)
    (goes_on g s w5 w6 w9 _ _ (stepped g s w5 w6 _ piece6)
    (goes_on g s w6 w7 w9 _ _ (walked 15 g s w6 w7 _ piece7)
    (goes_on g s w7 w8 w9 _ _ (walked 11 g s w7 w8 _ piece8)
    (walked 4 g s w8 w9 _ piece9))))))))) refl refl
