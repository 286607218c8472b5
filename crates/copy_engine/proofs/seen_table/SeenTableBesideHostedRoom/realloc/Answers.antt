-- What the run of the function gives is what the realloc comes to.
use Rattle.std.proofs.Common.{rules, refl}
use Rattle.res_handles.specs.Calls.{view_at}
use Rattle.copy_engine.specs.Answering.{setting_of}
use Rattle.copy_engine.proofs.Nesting.{realloc_there, longer}
use Rattle.copy_engine.proofs.Hosting.{answered_by}
use Rattle.copy_engine.proofs.seen_table.SeenTableBesideHostedRoom.realloc.Goals as goal

pub returns-clause-answers : goal.returns-clause-answers
returns-clause-answers g c =
    let found = c.in-Some.ensures in
    let there = realloc_there c.args.self.now.to.options.realloc c.args.room.now.store c.in-Some.address found.0 found.1 in
    let gives = c.call_realloc-place.ensures.gives found.0 there.0 in (
      answered_by (setting_of c.args.self.now.to) (view_at g.E.Entry.view c.args.self.now.handles.slots) c.args.room.now c.call_realloc-place.new.room _ c.call_realloc-place.result c.in-Some.address found.0 _ found.1 gives (search rules),
      (c.call_realloc-place.ensures.extends, c.function_count-behind.ensures.typed),
      refl,
      refl,
    )

pub returns-clause-grows : goal.returns-clause-grows
returns-clause-grows g c = longer c.args.self.now.to.options.memory c.args.room.now.store c.call_realloc-place.new.room.store c.call_realloc-place.ensures.extends

pub call_realloc-place-requires : goal.call_realloc-place-requires
call_realloc-place-requires g c =
    let found = c.in-Some.ensures in
    let there = realloc_there c.args.self.now.to.options.realloc c.args.room.now.store c.in-Some.address found.0 found.1 in
    record { there = (found.0, there.0, there.1); words = search rules }
