use Rattle.wasm_store.specs.Views.{function_of}
use Rattle.world_stacks.proofs.Words.{called_typed}
use Rattle.world_stacks.proofs.starting.start_with.Goals as goal

pub returns-in-Ok-clause-typed : goal.returns-in-Ok-clause-typed
returns-in-Ok-clause-typed c =
    let begins = c.in-Ok.ensures in
    called_typed c.args.store.now c.args.address (function_of c.function.result.now) begins.0 c.params.result.now c.args.words.now c.are_words.result c.in-Ok.running
    c.function_count.ensures.typed c.function.ensures c.params.ensures c.are_words.ensures c.if-are_words.true begins.1 begins.2
