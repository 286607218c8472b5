-- The memories that are lent are the first ones of the store.
use Rattle.std.proofs.Common.{◌≡◌, map, take}
use Rattle.world_dumps.proofs.dumping.memories_of.Given as goal

abbrev pub invariant-loop-address : goal.invariant-loop-address
invariant-loop-address l = map (λ m. m.now) l.lent ≡ map (λ m. m.bytes) (take l.address l.store.memories)
