-- An end that is passed leaves its set.
use Rattle.std.proofs.Common.{◌≡◌, ◌∙◌, true, false, [], ◌∷◌, ◌++◌, Bool, List, length, Some, None, refl, ap}
use Rattle.std.specs.Prelude.{nat_lt}
use Rattle.syntax_trees.specs.declared.instr.Instr.TheVariants as instr
use Rattle.syntax_trees.specs.Expr.{End, Plain}
use Rattle.wasm_store.specs.Stack.{Running}
use Rattle.syntax_trees.specs.declared.core_type.CoreType.{CoreType}
use Rattle.syntax_trees.specs.declared.types.ValType.TheOpen as F
use Rattle.syntax_trees.specs.declared.types.ValType.TheVariants as leaves
use Rattle.syntax_trees.specs.declared.types.ValType.TheViews as types
use Rattle.syntax_trees.specs.declared.value.Value.TheOpen as V
use Rattle.syntax_trees.specs.declared.value.Value.TheVariants as plain
use Rattle.handle_table.specs.History.{Add, Remove}
use Rattle.tasks.specs.declared.phase.Resolution.TheVariants.{Returned}
use Rattle.tasks.specs.declared.subtask_state.SubtaskState.TheVariants as told
use Rattle.builtin_kinds.specs.declared.EndKind.TheVariants.{Stream}
use Rattle.stream_ends.specs.declared.side.Side.TheVariants.{Reader, Writer}
use Rattle.res_handles.specs.Ends.{end_of}
use Rattle.comp_graph.specs.Needs.{flat_param_limit}
use Rattle.comp_graph.specs.Graph.{Graph, no_options}
use Rattle.script_reader.specs.Script.{Script}
use Rattle.trace_labels.specs.declared.builtin.Builtin.TheVariants as builtin
use Rattle.trace_labels.specs.declared.label.Label.TheVariants as line
use Rattle.abi_machine.specs.declared.run_end.RunEnd.TheVariants.{Done}
use Rattle.abi_machine.specs.LiftingOver.{Part, part_step}
use Rattle.abi_machine.specs.LoweringOver.{Plan, Gives, lower_step, field_words}
use Rattle.abi_machine.specs.Control.{Free, Arrives, Lowers, Starts}
use Rattle.abi_machine.specs.World.{OfSet, OfEnd, Init, Func, Nobody, Host, Guest, New, Acting, AfterCall, Exited, World, new_inst, new_task}
use Rattle.abi_machine.specs.Edits.{with_control, in_state}
use Rattle.abi_machine.specs.Canons.{defines}
use Rattle.abi_machine.specs.Turn.{Steps}
use Rattle.abi_machine.specs.Lifting.{Kept, Stopped, by_world}
use Rattle.abi_machine.specs.Pausing.{entries_by}
use Rattle.abi_machine.specs.replies.Streams.{end_ref}
use Rattle.abi_machine.specs.Next.{next}
use Rattle.abi_machine.specs.examples.Parts.{func_type, number, core_func, asynchronous, one_call, Shows}
use Rattle.machine_examples.specs.Passing.{giving, giving_world, given}
use Rattle.abi_machine.proofs.Rules.{the_rules}
use Rattle.abi_machine.proofs.Walks.{far, walked, stepped, goes_on, shows, planned}
use Rattle.abi_machine.proofs.Layers.{stream_flat, u8_same, u8_part, stream_part, stream_lowered}
use Rattle.abi_machine.proofs.Passed.{one_passed, end_passed, one_planned}
use Rattle.abi_machine.proofs.Copies.{entering}

abbrev g : Graph
g = giving

abbrev s : Script
s = one_call

abbrev w0 : World
w0 = giving_world

abbrev w1 : World
w1 = record w0 {
  insts = record { table = (Add 3 (OfSet 0) ∷ Add 2 (OfEnd (end_ref Stream 1 Writer)) ∷ Add 1 (OfEnd (end_ref Stream 1 Reader)) ∷ []); sets = ((1 ∷ []) ∷ []); backpressure = 0 } ∷ new_inst ∷ [];
  tasks = new_task Init Nobody Exited ∷ record (new_task (Func (record { instance = 0; core = (core_func 0 0); options = no_options; func_type = func_type [] None })) (Host 1 []) Acting) { stacks = ((Running (record { instance = 0; results = 0; locals = []; values = (1 ∷ []); rest = (Plain (instr.Call 1) (number 3 (Plain (instr.Call 5) End))); labels = record { arity = 0; under = []; again = None; after = End } ∷ [] }) []) ∷ []) } ∷ [];
  streams = record { element = Some leaves.U8; written = []; read = []; ends = record { view = record { reader = record { dropped = false; done = false; copy = None }; writer = record { dropped = false; done = false; copy = None } }; reader_closed = []; writer_closed = [] } } ∷ [];
  units = 8;
}

piece1 : far 11 g s w0 ≡ ((line.Do 1 builtin.StreamNew [] ∷ line.Got 1 (8589934593 ∷ []) ∷ line.Do 1 builtin.WaitableSetNew [] ∷ line.Got 1 (3 ∷ []) ∷ line.Do 1 builtin.WaitableJoin (1 ∷ 3 ∷ []) ∷ line.Got 1 [] ∷ []), w1)
unfolding the_rules
piece1 = refl

abbrev w2 : World
w2 = record w0 {
  insts = record { table = (Add 3 (OfSet 0) ∷ Add 2 (OfEnd (end_ref Stream 1 Writer)) ∷ Add 1 (OfEnd (end_ref Stream 1 Reader)) ∷ []); sets = ((1 ∷ []) ∷ []); backpressure = 0 } ∷ new_inst ∷ [];
  tasks = new_task Init Nobody Exited ∷ record (new_task (Func (record { instance = 0; core = (core_func 0 0); options = no_options; func_type = func_type [] None })) (Host 1 []) (AfterCall 2 1 (1 ∷ []))) { stacks = ((Running (record { instance = 0; results = 0; locals = []; values = []; rest = (number 3 (Plain (instr.Call 5) End)); labels = record { arity = 0; under = []; again = None; after = End } ∷ [] }) []) ∷ []) } ∷ new_task (Func (record { instance = 1; core = (core_func 1 6); options = asynchronous; func_type = func_type ((types.Stream (Some leaves.U8)) ∷ []) None })) (Guest (record { by = 1; canon = 1; words = (1 ∷ []); told = told.Starting; lends = []; result = [] })) New ∷ [];
  streams = record { element = Some leaves.U8; written = []; read = []; ends = record { view = record { reader = record { dropped = false; done = false; copy = None }; writer = record { dropped = false; done = false; copy = None } }; reader_closed = []; writer_closed = [] } } ∷ [];
  chain = 2 ∷ 1 ∷ [];
  control = Arrives;
  units = 9;
}

piece2 : far 2 g s w1 ≡ ((line.Do 1 builtin.Lower (1 ∷ []) ∷ line.Call 1 2 2 ∷ []), w2)
unfolding the_rules
piece2 = refl

abbrev w3 : World
w3 = record w0 {
  insts = record { table = (Remove 1 ∷ Add 3 (OfSet 0) ∷ Add 2 (OfEnd (end_ref Stream 1 Writer)) ∷ Add 1 (OfEnd (end_ref Stream 1 Reader)) ∷ []); sets = ([] ∷ []); backpressure = 0 } ∷ new_inst ∷ [];
  tasks = new_task Init Nobody Exited ∷ record (new_task (Func (record { instance = 0; core = (core_func 0 0); options = no_options; func_type = func_type [] None })) (Host 1 []) (AfterCall 2 1 (1 ∷ []))) { stacks = ((Running (record { instance = 0; results = 0; locals = []; values = []; rest = (number 3 (Plain (instr.Call 5) End)); labels = record { arity = 0; under = []; again = None; after = End } ∷ [] }) []) ∷ []) } ∷ new_task (Func (record { instance = 1; core = (core_func 1 6); options = asynchronous; func_type = func_type ((types.Stream (Some leaves.U8)) ∷ []) None })) (Guest (record { by = 1; canon = 1; words = (1 ∷ []); told = told.Starting; lends = []; result = [] })) Acting ∷ [];
  streams = record { element = Some leaves.U8; written = []; read = []; ends = record { view = record { reader = record { dropped = false; done = false; copy = None }; writer = record { dropped = false; done = false; copy = None } }; reader_closed = []; writer_closed = [] } } ∷ [];
  chain = 2 ∷ 1 ∷ [];
  control = Lowers (record { inst = 1; memory = None; realloc = None; acts_for = 2; blame = 2; next = Starts }) (field_words (Some (types.Stream (Some leaves.U8)) ∷ []) ((lower_step (entries_by (defines g 1)) (V.Stream 1)) ∷ []) [] (λ words. Gives words));
  units = 9;
}

piece3 : next g s w2 ≡ Steps (line.Enter 2 ∷ []) w3
unfolding the_rules
piece3 =
    ap (entering g w2) (one_passed 0 2 false (types.Stream (Some leaves.U8)) (F.Stream (Some (part_step (by_world 0 2) F.U8))) None [] (1 ∷ []) (in_state 2 Acting (with_control Free w2)) refl (stream_flat (Some leaves.U8)) (stream_part (by_world 0 2) leaves.U8 ∙ ap (λ (p : Part Kept Stopped). part_step (by_world 0 2) (F.Stream (Some p))) (u8_part (by_world 0 2))))
    ∙ ap (λ (b : Bool). entering g w2 (end_passed 0 plain.Stream 1 (in_state 2 Acting (with_control Free w2)) (end_of b (record { number = 1; is_idle = true })))) u8_same
    ∙ ap (λ (p : Plan). Steps (line.Enter 2 ∷ []) (planned p w3)) (one_planned (entries_by (defines g 1)) (types.Stream (Some leaves.U8)) None (plain.Stream 1) (lower_step (entries_by (defines g 1)) (V.Stream 1)) (ap (λ (c : List CoreType). nat_lt flat_param_limit (length (c ++ []))) (stream_flat (Some leaves.U8))) (stream_lowered (entries_by (defines g 1)) 1))

abbrev w4 : World
w4 = record w0 {
  insts = record { table = (Remove 3 ∷ Remove 1 ∷ Add 3 (OfSet 0) ∷ Add 2 (OfEnd (end_ref Stream 1 Writer)) ∷ Add 1 (OfEnd (end_ref Stream 1 Reader)) ∷ []); sets = ([] ∷ []); backpressure = 0 } ∷ record { table = (Add 1 (OfEnd (end_ref Stream 1 Reader)) ∷ []); sets = []; backpressure = 0 } ∷ [];
  tasks = new_task Init Nobody Exited ∷ record (new_task (Func (record { instance = 0; core = (core_func 0 0); options = no_options; func_type = func_type [] None })) (Host 1 []) Exited) { resolution = Some Returned } ∷ record (new_task (Func (record { instance = 1; core = (core_func 1 6); options = asynchronous; func_type = func_type ((types.Stream (Some leaves.U8)) ∷ []) None })) (Guest (record { by = 1; canon = 1; words = (1 ∷ []); told = told.Returned; lends = []; result = [] })) Exited) { resolution = Some Returned } ∷ [];
  streams = record { element = Some leaves.U8; written = []; read = []; ends = record { view = record { reader = record { dropped = false; done = false; copy = None }; writer = record { dropped = false; done = false; copy = None } }; reader_closed = []; writer_closed = [] } } ∷ [];
  chain = [];
  control = Free;
  units = 12;
}

piece4 : far 13 g s w3 ≡ ((line.Do 2 builtin.TaskReturn [] ∷ line.Return 2 None ∷ line.Got 2 [] ∷ line.Exit 2 ∷ line.Got 1 [] ∷ line.Do 1 builtin.WaitableSetDrop (3 ∷ []) ∷ line.Got 1 [] ∷ line.Return 1 None ∷ line.Exit 1 ∷ []), w4)
unfolding the_rules
piece4 = refl

pub given_shown : Shows giving one_call giving_world given Done 12
unfolding the_rules
given_shown =
    shows g s w0 w4 _ Done 12
    (goes_on g s w0 w1 w4 _ _ (walked 11 g s w0 w1 _ piece1)
    (goes_on g s w1 w2 w4 _ _ (walked 2 g s w1 w2 _ piece2)
    (goes_on g s w2 w3 w4 _ _ (stepped g s w2 w3 _ piece3)
    (walked 13 g s w3 w4 _ piece4)))) refl refl
