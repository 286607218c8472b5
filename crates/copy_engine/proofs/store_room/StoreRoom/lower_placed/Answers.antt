-- What is followed in the room is followed over its store.
use Rattle.std.proofs.Common.{[], ◌∷◌}
use Rattle.value_lower.specs.Lowering.{placed}
use Rattle.copy_engine.proofs.Seen.{comes_seen, comes_same}
use Rattle.copy_engine.proofs.store_room.StoreRoom.lower_placed.Goals as goal

pub returns-clause-same : goal.returns-clause-same
returns-clause-same c = comes_same (placed c.args.t.now c.args.value.now) (λ place. place ∷ []) c.args.self.now c.lower_placed_bare.new.room c.lower_placed_bare.result c.lower_placed_bare.ensures

pub returns-clause-lowers : goal.returns-clause-lowers
returns-clause-lowers c = comes_seen (placed c.args.t.now c.args.value.now) (λ place. place ∷ []) c.args.self.now c.lower_placed_bare.new.room c.lower_placed_bare.result c.lower_placed_bare.ensures
