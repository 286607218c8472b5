-- What the run of the function gives is what the realloc comes to.
use Rattle.std.proofs.Common.{rules, refl}
use Rattle.copy_engine.specs.Rooms.{state_of}
use Rattle.copy_engine.proofs.Nesting.{realloc_there, answered}
use Rattle.copy_engine.proofs.store_room.StoreRoomRoom.realloc.Goals as goal

pub returns-clause-answers : goal.returns-clause-answers
returns-clause-answers c =
    let found = c.in-Some.ensures in
    let there = realloc_there c.args.self.now.options.realloc c.args.self.now.store.now c.in-Some.address found.0 found.1 in
    let gives = c.run_realloc.ensures.gives found.0 there.0 in (
      answered c.args.self.now.options (state_of c.args.self.now) _ _ c.run_realloc.result c.in-Some.address found.0 _ found.1 gives (search rules),
      record { store = refl; fuel = refl; call = refl; options = refl },
    )

pub returns-clause-grows : goal.returns-clause-grows
returns-clause-grows c = c.run_realloc.ensures.grows c.args.self.now.options.memory
