use Rattle.std.proofs.Common.{◌∙◌, ap, List}
use Rattle.syntax_trees.specs.declared.module_types.ValType.{ValType}
use Rattle.syntax_trees.specs.SameTypes.{same_types}
use Rattle.wasm_typing.specs.Context.{arrow}
use Rattle.wasm_store.proofs.Signatures.{both_same, not_same}
use Rattle.wasm_store.proofs.function.is_like.Goals as goal

pub returns-then-are_same : goal.returns-then-are_same
returns-then-are_same c =
    both_same c.args.func_type.now (arrow c.args.params.now c.args.results.now) c.are_same.result c.are_same-then-are_same.result
    (c.are_same.ensures ∙ ap (λ (ts : List ValType). same_types ts c.args.params.now) c.as_slice.ensures)
    (c.are_same-then-are_same.ensures ∙ ap (λ (ts : List ValType). same_types ts c.args.results.now) c.as_slice-then-are_same.ensures) c.if-are_same.true

pub returns-else-are_same : goal.returns-else-are_same
returns-else-are_same c =
    c.if-are_same.false ∙ not_same c.args.func_type.now (arrow c.args.params.now c.args.results.now) c.are_same.result
    (c.are_same.ensures ∙ ap (λ (ts : List ValType). same_types ts c.args.params.now) c.as_slice.ensures) c.if-are_same.false
