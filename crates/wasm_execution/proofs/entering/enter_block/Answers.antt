use Rattle.std.proofs.Common.{ap, sym, ◌∙◌, subst, length, ℕ, List}
use Rattle.syntax_trees.specs.declared.module_types.FuncType.{FuncType}
use Rattle.wasm_typing.specs.Context.{params, results}
use Rattle.wasm_store.specs.Views.{instance_of}
use Rattle.wasm_execution.specs.Places.{frame_of}
use Rattle.wasm_execution.specs.Shape.{HasOver}
use Rattle.wasm_execution.proofs.Ready.{block_over}
use Rattle.wasm_execution.proofs.Going.{block_goes}
use Rattle.wasm_execution.proofs.entering.enter_block.Goals as goal

pub enter-requires-clause-over : goal.enter-requires-clause-over
enter-requires-clause-over c =
    let types = c.as_slice-types.ensures ∙ c.deref.ensures in
    let long = ap length (c.params-params.ensures ∙ ap (λ (ts : List FuncType). params ts c.args.block_type) types) in
    subst (λ (n : ℕ). HasOver n (frame_of c.args.frame.now).labels (frame_of c.args.frame.now).values) (sym long)
    (block_over c.args.store.now c.requires.typed.0 (frame_of c.args.frame.now) (instance_of c.instance.result.now) c.args.block_type c.requires.next.0 c.requires.next.1 c.requires.typed.1 c.instance.ensures c.requires.next.2)

pub returns-clause-gives : goal.returns-clause-gives
returns-clause-gives c =
    let types = c.as_slice-types.ensures ∙ c.deref.ensures in
    let p = ap length (c.params-params.ensures ∙ ap (λ (ts : List FuncType). params ts c.args.block_type) types) in
    let q = ap length (c.results-results.ensures ∙ ap (λ (ts : List FuncType). results ts c.args.block_type) types) in
    block_goes c.args.store.now (frame_of c.args.frame.now) (frame_of c.enter.new.self) (instance_of c.instance.result.now) c.args.block_type c.requires.next.0 c.requires.next.1 (length c.params-params.result.now) (length c.results-results.result.now) c.instance.ensures c.requires.next.2 p q c.in_ok-enter.ensures.frame
