use Rattle.std.specs.Prelude.{false, None, Some}
use Rattle.comp_tree.specs.declared.builtins.CanonBuiltin.TheVariants as read_builtin
use Rattle.builtin_kinds.specs.declared.PlainBuiltin.TheVariants as plain_builtin
use Rattle.builtin_kinds.specs.declared.ContextOp.TheVariants as context_op
use Rattle.builtin_kinds.specs.declared.WaitOp.TheVariants as wait_op
use Rattle.comp_tree.specs.declared.types.ValTypeRef.TheVariants as type_ref
use Rattle.comp_tree.specs.declared.types.PrimValType.TheVariants.{String}
use Rattle.link_spec.specs.Examples.{returning, built}
use Rattle.link_spec.proofs.Samples.{linked_by, set_made, word_set, no_word, no_event_memory, nothing_returned, no_result_type, no_result_memory}
use Rattle.link_spec.proofs.examples.builtins.Goals as goal

pub returns-clause-made : goal.returns-clause-made
returns-clause-made c = linked_by (built (read_builtin.Plain plain_builtin.WaitableSetNew)) _ set_made

pub returns-clause-word : goal.returns-clause-word
returns-clause-word c = linked_by (built (read_builtin.Context context_op.Set 1)) _ word_set

pub returns-clause-no_word : goal.returns-clause-no_word
returns-clause-no_word c = linked_by (built (read_builtin.Context context_op.Set 2)) _ no_word

pub returns-clause-no_memory : goal.returns-clause-no_memory
returns-clause-no_memory c = linked_by (built (read_builtin.Wait wait_op.Poll false 0)) _ no_event_memory

pub returns-clause-returns : goal.returns-clause-returns
returns-clause-returns c = linked_by (built (returning None)) _ nothing_returned

pub returns-clause-no_type : goal.returns-clause-no_type
returns-clause-no_type c = linked_by (built (returning (Some (type_ref.Index 0)))) _ no_result_type

pub returns-clause-no_result_memory : goal.returns-clause-no_result_memory
returns-clause-no_result_memory c = linked_by (built (returning (Some (type_ref.Primitive String)))) _ no_result_memory
