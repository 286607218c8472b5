use Rattle.std.proofs.Common.{ap, sym, ◌∙◌, subst, length, ℕ, List}
use Rattle.syntax_trees.specs.declared.module_types.FuncType.{FuncType}
use Rattle.wasm_typing.specs.Context.{params, results}
use Rattle.wasm_store.specs.Views.{instance_of}
use Rattle.wasm_execution.specs.Places.{frame_of}
use Rattle.wasm_execution.specs.Shape.{HasOver}
use Rattle.wasm_execution.proofs.Taking.{either_ready}
use Rattle.wasm_execution.proofs.Popping.{over_popped}
use Rattle.wasm_execution.proofs.Going.{if_either, if_taken_first, if_taken_second}
use Rattle.wasm_execution.proofs.entering.enter_one_of.Goals as goal

pub pop-requires-clause-over : goal.pop-requires-clause-over
pop-requires-clause-over c =
    (either_ready c.args.store.now c.requires.typed.0 (frame_of c.args.frame.now) (instance_of c.instance.result.now) c.args.block_type c.requires.typed.1 c.instance.ensures c.requires.next).0

pub enter_second-requires-clause-over : goal.enter_second-requires-clause-over
enter_second-requires-clause-over c =
    let long = ap length (c.params-params.ensures ∙ ap (λ (ts : List FuncType). params ts c.args.block_type) (c.as_slice-types.ensures ∙ c.deref.ensures)) in
    let k = either_ready c.args.store.now c.requires.typed.0 (frame_of c.args.frame.now) (instance_of c.instance.result.now) c.args.block_type c.requires.typed.1 c.instance.ensures c.requires.next in
    subst (λ (n : ℕ). HasOver n (frame_of c.pop.new.self).labels (frame_of c.pop.new.self).values) (sym long)
    (over_popped (frame_of c.args.frame.now) (frame_of c.pop.new.self) c.pop.result (length (params (instance_of c.instance.result.now).types c.args.block_type)) (record { value = c.pop.ensures.value; frame = c.pop.ensures.frame }) k.1)

pub enter-requires-clause-over : goal.enter-requires-clause-over
enter-requires-clause-over c =
    let long = ap length (c.params-params.ensures ∙ ap (λ (ts : List FuncType). params ts c.args.block_type) (c.as_slice-types.ensures ∙ c.deref.ensures)) in
    let k = either_ready c.args.store.now c.requires.typed.0 (frame_of c.args.frame.now) (instance_of c.instance.result.now) c.args.block_type c.requires.typed.1 c.instance.ensures c.requires.next in
    subst (λ (n : ℕ). HasOver n (frame_of c.pop.new.self).labels (frame_of c.pop.new.self).values) (sym long)
    (over_popped (frame_of c.args.frame.now) (frame_of c.pop.new.self) c.pop.result (length (params (instance_of c.instance.result.now).types c.args.block_type)) (record { value = c.pop.ensures.value; frame = c.pop.ensures.frame }) k.1)

pub returns-then-pop-eq0-clause-gives : goal.returns-then-pop-eq0-clause-gives
returns-then-pop-eq0-clause-gives c =
    let types = c.as_slice-types.ensures ∙ c.deref.ensures in
    let p = ap length (c.params-params.ensures ∙ ap (λ (ts : List FuncType). params ts c.args.block_type) types) in
    let q = ap length (c.results-results.ensures ∙ ap (λ (ts : List FuncType). results ts c.args.block_type) types) in
    if_taken_second c.args.store.now (frame_of c.args.frame.now) (frame_of c.pop.new.self) (frame_of c.enter_second.new.self) (instance_of c.instance.result.now) c.args.block_type c.pop.result (length c.params-params.result.now) (length c.results-results.result.now)
    (if_either (frame_of c.args.frame.now) c.args.block_type c.requires.next) c.instance.ensures (record { value = c.pop.ensures.value; frame = c.pop.ensures.frame }) c.if-pop-eq0.true p q c.in_ok-enter_second.ensures.frame

pub returns-clause-gives : goal.returns-clause-gives
returns-clause-gives c =
    let types = c.as_slice-types.ensures ∙ c.deref.ensures in
    let p = ap length (c.params-params.ensures ∙ ap (λ (ts : List FuncType). params ts c.args.block_type) types) in
    let q = ap length (c.results-results.ensures ∙ ap (λ (ts : List FuncType). results ts c.args.block_type) types) in
    if_taken_first c.args.store.now (frame_of c.args.frame.now) (frame_of c.pop.new.self) (frame_of c.enter.new.self) (instance_of c.instance.result.now) c.args.block_type c.pop.result (length c.params-params.result.now) (length c.results-results.result.now)
    (if_either (frame_of c.args.frame.now) c.args.block_type c.requires.next) c.instance.ensures (record { value = c.pop.ensures.value; frame = c.pop.ensures.frame }) c.if-pop-eq0.false p q c.in_ok-enter.ensures.frame
