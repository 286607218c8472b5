-- The bytes that are lent, or none.
use Rattle.std.proofs.Common.{◌<◌, ◌≤◌, length, rules}
use Rattle.copy_engine.proofs.Bytes.{bytes_there, bytes_not_there}
use Rattle.copy_engine.proofs.memories.bytes_of.Goals as goal

pub returns-then-memory-memory_count : goal.returns-then-memory-memory_count
returns-then-memory-memory_count c =
    let within : c.args.memory < length c.args.store.now.memories = search rules in
    bytes_there c.args.store.now c.args.memory c.memory.result.now within c.memory.ensures

pub returns-else-memory-memory_count : goal.returns-else-memory-memory_count
returns-else-memory-memory_count c =
    let past : length c.args.store.now.memories ≤ c.args.memory = search rules in
    bytes_not_there c.args.store.now c.args.memory past
