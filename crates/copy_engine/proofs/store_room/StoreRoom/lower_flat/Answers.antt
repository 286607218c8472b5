-- What is followed in the room is followed over its store.
use Rattle.value_lower.specs.Lowering.{flat_lowered}
use Rattle.copy_engine.proofs.Seen.{comes_seen, comes_same}
use Rattle.copy_engine.proofs.store_room.StoreRoom.lower_flat.Goals as goal

pub returns-clause-same : goal.returns-clause-same
returns-clause-same c = comes_same (flat_lowered c.args.t.now c.args.value.now) (λ words. words) c.args.self.now c.lower_flat_bare.new.room c.lower_flat_bare.result c.lower_flat_bare.ensures.follows

pub returns-clause-lowers : goal.returns-clause-lowers
returns-clause-lowers c = comes_seen (flat_lowered c.args.t.now c.args.value.now) (λ words. words) c.args.self.now c.lower_flat_bare.new.room c.lower_flat_bare.result c.lower_flat_bare.ensures.follows
