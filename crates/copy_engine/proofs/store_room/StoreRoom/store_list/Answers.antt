-- What is followed in the room is followed over its store.
use Rattle.std.proofs.Common.{[]}
use Rattle.value_lower.specs.Lowering.{all_stored}
use Rattle.copy_engine.proofs.Seen.{comes_seen, comes_same}
use Rattle.copy_engine.proofs.store_room.StoreRoom.store_list.Goals as goal

pub returns-clause-same : goal.returns-clause-same
returns-clause-same c = comes_same (all_stored c.args.t.now c.args.values.now c.args.place) (λ _. []) c.args.self.now c.store_list_bare.new.room c.store_list_bare.result c.store_list_bare.ensures

pub returns-clause-lowers : goal.returns-clause-lowers
returns-clause-lowers c = comes_seen (all_stored c.args.t.now c.args.values.now c.args.place) (λ _. []) c.args.self.now c.store_list_bare.new.room c.store_list_bare.result c.store_list_bare.ensures
