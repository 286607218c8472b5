-- As many words are given as are waited for.
use Rattle.std.proofs.Common.{List, subst}
use Rattle.syntax_trees.specs.declared.module_types.ValType.{ValType}
use Rattle.wasm_numbers.specs.Types.{AreWords}
use Rattle.wasm_store.specs.Views.{function_of}
use Rattle.machine_tests.proofs.Typing.{as_many}
use Rattle.machine_tests.proofs.running.answered.Goals as goal

pub resume-requires : goal.resume-requires
resume-requires c =
    let words = subst (λ (types : List ValType). AreWords types c.args.answers.now) c.results.ensures (c.are_words.ensures c.if-not-are_words.false) in
    record { count = as_many c.args.store.now c.args.address c.args.waiting (function_of c.function.result.now) c.args.answers.now c.requires c.function.ensures words }
