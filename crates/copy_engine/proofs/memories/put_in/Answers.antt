-- The bytes that are lent end as those that are put among them.
use Rattle.std.proofs.Common.{◌<◌, length, rules}
use Rattle.copy_engine.proofs.Bytes.{put_is, copied_into}
use Rattle.copy_engine.proofs.memories.put_in.Goals as goal

pub returns-then-memory-memory_count : goal.returns-then-memory-memory_count
returns-then-memory-memory_count c =
    let within : c.args.memory < length c.args.store.now.memories = search rules in
    put_is c.args.store.now c.args.memory c.args.place c.args.bytes.now c.memory_mut-to.result.now _ within c.memory_mut-to.ensures.value c.requires.inside
    (rw c.copy_from_slice.ensures.after (copied_into c.args.place c.args.bytes.now c.memory_mut-to.result.now))
