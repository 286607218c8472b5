-- The stack is typed: so it ends with one i32, and the store that is left extends the one before.
use Rattle.std.proofs.Common.{[], ◌∷◌, refl}
use Rattle.syntax_trees.specs.declared.module_types.ValType.TheVariants.{I32}
use Rattle.wasm_store.specs.Step.{start}
use Rattle.wasm_store.specs.Typed.{StackTyped}
use Rattle.wasm_execution.proofs.Alone.{gives_up_at_once}
use Rattle.copy_engine.proofs.Nesting.{run_typed, ends_with_one, steps_grow}
use Rattle.copy_engine.proofs.nested.run_realloc.Goals as goal

pub run-requires : goal.run-requires
run-requires c =
    let there = c.requires.there in
    let begins = c.in-Ok.ensures in
    record {
      typed = (I32 ∷ [], run_typed c.args.store.now c.args.address there.0 begins.0 c.args.words.now c.in-Ok.running c.function_count-count.ensures.typed there.1 there.2 c.requires.words begins.1 begins.2);
    }

pub only_word-requires : goal.only_word-requires
only_word-requires c =
    let there = c.requires.there in
    let begins = c.in-Ok.ensures in
    let stack : StackTyped c.args.store.now (I32 ∷ []) c.in-Ok.running =
    run_typed c.args.store.now c.args.address there.0 begins.0 c.args.words.now c.in-Ok.running c.function_count-count.ensures.typed there.1 there.2 c.requires.words begins.1 begins.2 in
    ends_with_one c.args.store.now c.run.new.store c.in-Ok.running c.args.fuel.now c.run.new.fuel c.in-Done.words c.function_count-count.ensures.typed stack c.in-Done.ensures.gives

pub returns-in-Done-clause-grows : goal.returns-in-Done-clause-grows
returns-in-Done-clause-grows c =
    let there = c.requires.there in
    let begins = c.in-Ok.ensures in
    let comes = c.in-Done.ensures.gives in
    steps_grow comes.spent c.args.store.now c.run.new.store c.args.address there.0 begins.0 c.args.words.now c.in-Ok.running comes.last
    c.function_count-count.ensures.typed there.1 there.2 c.requires.words begins.1 begins.2 comes.steps

pub returns-in-Calls-clause-grows : goal.returns-in-Calls-clause-grows
returns-in-Calls-clause-grows c =
    let there = c.requires.there in
    let begins = c.in-Ok.ensures in
    let comes = c.in-Calls.ensures.gives.comes in
    steps_grow comes.spent c.args.store.now c.run.new.store c.args.address there.0 begins.0 c.args.words.now c.in-Ok.running comes.last
    c.function_count-count.ensures.typed there.1 there.2 c.requires.words begins.1 begins.2 comes.steps

pub returns-in-Trapped-clause-grows : goal.returns-in-Trapped-clause-grows
returns-in-Trapped-clause-grows c =
    let there = c.requires.there in
    let begins = c.in-Ok.ensures in
    let comes = c.in-Trapped.ensures.gives in
    steps_grow comes.spent c.args.store.now c.run.new.store c.args.address there.0 begins.0 c.args.words.now c.in-Ok.running comes.last
    c.function_count-count.ensures.typed there.1 there.2 c.requires.words begins.1 begins.2 comes.steps

pub returns-in-NoFuel-clause-grows : goal.returns-in-NoFuel-clause-grows
returns-in-NoFuel-clause-grows c =
    let there = c.requires.there in
    let begins = c.in-Ok.ensures in
    let comes = c.in-NoFuel.ensures.gives in
    steps_grow c.args.fuel.now c.args.store.now c.run.new.store c.args.address there.0 begins.0 c.args.words.now c.in-Ok.running c.in-NoFuel.later
    c.function_count-count.ensures.typed there.1 there.2 c.requires.words begins.1 begins.2 comes.steps

pub returns-in-Memory-clause-grows : goal.returns-in-Memory-clause-grows
returns-in-Memory-clause-grows c =
    let there = c.requires.there in
    let begins = c.in-Ok.ensures in
    let up = c.in-Memory.ensures.gives in
    steps_grow up.spent c.args.store.now c.run.new.store c.args.address there.0 begins.0 c.args.words.now c.in-Ok.running up.last
    c.function_count-count.ensures.typed there.1 there.2 c.requires.words begins.1 begins.2 up.steps

pub returns-in_default-clause-gives : goal.returns-in_default-clause-gives
returns-in_default-clause-gives c = λ f there. (gives_up_at_once c.args.store.now (start f c.args.address c.args.words.now) c.args.fuel.now, refl)
