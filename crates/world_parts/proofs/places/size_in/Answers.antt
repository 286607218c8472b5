-- A memory that is not there has no bytes.
use Rattle.std.proofs.Common.{◌≤◌, length, rules}
use Rattle.world_parts.proofs.Bytes.{none_there}
use Rattle.world_parts.proofs.places.size_in.Goals as goal

pub returns-else-address-memory_count : goal.returns-else-address-memory_count
returns-else-address-memory_count c =
    let past : length c.args.store.now.memories ≤ c.args.address = search rules in
    none_there c.args.store.now c.args.address past
