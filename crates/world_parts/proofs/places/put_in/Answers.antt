-- The bytes that are lent end as those that are put among them.
use Rattle.std.proofs.Common.{◌<◌, length, rules}
use Rattle.world_parts.proofs.Bytes.{put_is, copied_into}
use Rattle.world_parts.proofs.places.put_in.Goals as goal

pub returns-then-address-memory_count : goal.returns-then-address-memory_count
returns-then-address-memory_count c =
    let within : c.args.address < length c.args.store.now.memories = search rules in
    put_is c.args.store.now c.args.address c.args.place c.args.bytes.now c.memory_mut-to.result.now _ within c.memory_mut-to.ensures.value c.requires.inside
    (rw c.copy_from_slice.ensures.after (copied_into c.args.place c.args.bytes.now c.memory_mut-to.result.now))
