-- A typed memory is small, and one that is not there has no bytes.
use Rattle.std.proofs.Common.{◌<◌, ◌≤◌, length, rules}
use Rattle.copy_engine.proofs.Bytes.{few_there, none_there}
use Rattle.copy_engine.proofs.memories.size_in.Goals as goal

pub returns-then-memory-memory_count-clause-most : goal.returns-then-memory-memory_count-clause-most
returns-then-memory-memory_count-clause-most c =
    let within : c.args.memory < length c.args.store.now.memories = search rules in
    few_there c.args.store.now c.args.memory c.memory.result.now c.function_count-count.ensures.typed within c.memory.ensures

pub returns-else-memory-memory_count-clause-value : goal.returns-else-memory-memory_count-clause-value
returns-else-memory-memory_count-clause-value c =
    let past : length c.args.store.now.memories ≤ c.args.memory = search rules in
    none_there c.args.store.now c.args.memory past
